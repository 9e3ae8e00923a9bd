use Rattle.rdlpp_state.specs.Opening.{opened_engine, unopened_engine}
use Rattle.rdlpp_state.proofs.OpeningFacts.{starts_open, starts_not_found}
use Rattle.rdlpp_state.proofs.Soundness.{fresh_include_stack, fresh_open, fresh_texts}
use Rattle.rdlpp_expand.proofs.engine.Engine.open.Goals as goal

pub returns-in-Ok : goal.returns-in-Ok
unfolding opened_engine
returns-in-Ok g c =
    let e = c.in-Ok.ensures in
    let bounded = rw c.open_main.ensures at c.facts-in-Ok.ensures.bounded in
    rw (c.open_main.ensures, ← c.self.view_is)
    (starts_open g.S.Sources _ c.top.new.self c.in-Ok.found c.args.path.now c.self.invariant.sources.line_bytes
    (fresh_include_stack _ _ _ _ _ c.self.invariant.sources (rw (← c.self.view_is) at c.requires)) (fresh_open _ _ _ _ _ c.self.invariant.sources (rw (← c.self.view_is) at c.requires)) (fresh_texts _ _ _ _ c.self.invariant.texts (rw (← c.self.view_is) at c.requires)) bounded
    e.answer e.failures e.refusals e.has_known_texts e.catalog)

pub returns-in-Err : goal.returns-in-Err
unfolding unopened_engine
returns-in-Err g c =
    let e = c.in-Err.ensures in
    rw (c.record_main_fault.ensures, c.source_kind.ensures, ← c.self.view_is)
    (starts_not_found g.S.Sources _ c.top.new.self c.in-Err.fault c.args.path.now
    (fresh_include_stack _ _ _ _ _ c.self.invariant.sources (rw (← c.self.view_is) at c.requires)) (fresh_texts _ _ _ _ c.self.invariant.texts (rw (← c.self.view_is) at c.requires)) (rw (← c.self.view_is) at c.facts.ensures.bounded)
    e.answer e.failures e.refusals e.has_known_texts e.catalog)
