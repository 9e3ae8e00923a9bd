use Rattle.std.proofs.Common.{Some, ap, sym, ◌∙◌, option_map}
use Rattle.rdlpp_c.specs.Streaming.{boxed}
use Rattle.rdlpp_c.proofs.Outputs.{reads_held}
use Rattle.rdlpp_c.proofs.Quiet.{held_quietly}
use Rattle.rdlpp_c.proofs.streaming.rdlpp_read.Goals as goal

pub returns-clause-reads : goal.returns-clause-reads
returns-clause-reads c =
    reads_held _ _ _ _ _ _ _ (sym c.take.ensures.value ∙ ap (option_map boxed) c.in-Some.is ∙ ap Some (sym c.deref_mut.ensures.value)) c.put.ensures c.read_stream-outcome.ensures.reads

pub returns-clause-quiet : goal.returns-clause-quiet
returns-clause-quiet c =
    held_quietly _ _ _ _ _ (sym c.take.ensures.value ∙ ap (option_map boxed) c.in-Some.is ∙ ap Some (sym c.deref_mut.ensures.value)) c.put.ensures c.read_stream-outcome.ensures.quiet
