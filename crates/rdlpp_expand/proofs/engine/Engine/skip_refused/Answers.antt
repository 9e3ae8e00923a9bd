use Rattle.std.proofs.Common.{[], refl}
use Rattle.rdlpp_meaning.specs.declared.fault.FaultKind.TheVariants as fault
use Rattle.rdlpp_state.proofs.EngineSteps.{not_called}
use Rattle.rdlpp_state.proofs.FrontSteps.{read_nothing, refuses}
use Rattle.rdlpp_state.proofs.DirectiveSteps.{bare_is, left_perl, perl_is, skipping}
use Rattle.rdlpp_expand.proofs.engine.Engine.skip_refused.Goals as goal
use Rattle.rdlpp_state.proofs.Stores.{own_kind}

pub returns-in-EmbeddedPerl : goal.returns-in-EmbeddedPerl
returns-in-EmbeddedPerl g c = λ bounded.
    let e = c.args.self.now in
    refuses g.S.Sources e e c.record_fault.new.self c.record_fault.result fault.EmbeddedPerl _ [] c.requires.ready (read_nothing e) bounded c.record_fault.ensures.halt
    (rw c.in-EmbeddedPerl.is at c.record_fault.ensures.kept) (own_kind _ refl) (not_called g.S.Sources e.sources)
    (λ t. left_perl g.S.Sources e c.record_fault.new.self c.requires.ready bounded c.requires.some (skipping e c.requires.ready c.requires.skipped) (perl_is _ _ _ c.requires.refused c.in-EmbeddedPerl.is))

pub skip_word-requires-clause-mode : goal.skip_word-requires-clause-mode
skip_word-requires-clause-mode g c = (bare_is _ _ _ c.requires.refused c.in_default.not-EmbeddedPerl).0

pub skip_word-requires-clause-word : goal.skip_word-requires-clause-word
skip_word-requires-clause-word g c = (bare_is _ _ _ c.requires.refused c.in_default.not-EmbeddedPerl).1
