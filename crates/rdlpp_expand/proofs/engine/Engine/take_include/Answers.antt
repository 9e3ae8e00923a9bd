use Rattle.std.proofs.Common.{[], refl}
use Rattle.rdlpp_meaning.specs.declared.fault.FaultKind.TheVariants as fault
use Rattle.rdlpp_state.proofs.EngineSteps.{not_called}
use Rattle.rdlpp_state.proofs.IncludeSteps.{denied_steps, entered_steps, left_nameless_include}
use Rattle.rdlpp_state.proofs.FrontSteps.{read_nothing, refuses}
use Rattle.rdlpp_expand.proofs.engine.Engine.take_include.Goals as goal
use Rattle.rdlpp_state.proofs.Stores.{own_kind}

pub returns-in-None : goal.returns-in-None
returns-in-None g c = λ bounded.
    let e = c.args.self.now in
    refuses g.S.Sources e e c.record_fault.new.self c.record_fault.result fault.IncludeName _ [] c.requires.ready (read_nothing e) bounded
    c.record_fault.ensures.halt c.record_fault.ensures.kept (own_kind _ refl) (not_called g.S.Sources e.sources)
    (λ t. left_nameless_include g.S.Sources e c.requires.ready c.requires.live c.requires.some c.requires.mode (rw c.in-None.is at c.requires.include))

pub returns-in-Ok : goal.returns-in-Ok
returns-in-Ok g c = λ bounded.
    entered_steps g.S.Sources c.args.self.now c.seek.new.self c.enter.new.self c.in-Some.given.start c.in-Some.given.stop c.requires.ready c.requires.live c.requires.some c.requires.mode (rw c.in-Some.is at c.requires.include) bounded
    c.in-Ok.ensures.becomes c.in-Ok.found c.in-Ok.ensures.sought c.enter.ensures

pub returns-in-Err : goal.returns-in-Err
returns-in-Err g c = λ bounded.
    denied_steps g.S.Sources c.args.self.now c.seek.new.self c.record_fault-in-Err.new.self c.in-Some.given.start c.in-Some.given.stop c.requires.ready c.requires.live c.requires.some c.requires.mode (rw c.in-Some.is at c.requires.include) bounded
    c.in-Err.ensures.becomes c.record_fault-in-Err.result c.in-Err.kind c.record_fault-in-Err.ensures.halt c.in-Err.ensures.sought c.record_fault-in-Err.ensures.kept
