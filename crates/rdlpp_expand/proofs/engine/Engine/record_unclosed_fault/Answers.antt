use Rattle.rdlpp_meaning.specs.Outcome.{report_of}
use Rattle.rdlpp_state.specs.Remaining.{state_of}
use Rattle.rdlpp_state.proofs.Soundness.{named_state}
use Rattle.rdlpp_expand.proofs.engine.Engine.record_unclosed_fault.Goals as goal

pub returns-clause-kept : goal.returns-clause-kept
unfolding report_of state_of
returns-clause-kept g c =
    let name = c.copied.ensures in
    let shown = named_state c.self.inside.limits c.self.inside.table.macros c.self.inside.conditions c.self.inside.files.include_stack c.file.result.now _ c.file.ensures.inner in
    rw (← c.self.view_is) (cc)
