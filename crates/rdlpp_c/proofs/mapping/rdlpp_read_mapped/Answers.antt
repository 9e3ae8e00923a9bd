use Rattle.std.proofs.Common.{Some, ap, sym, ◌∙◌, option_map}
use Rattle.rdlpp_c.specs.Streaming.{boxed}
use Rattle.rdlpp_c.proofs.Quiet.{held_quietly, maps_held}
use Rattle.rdlpp_c.proofs.mapping.rdlpp_read_mapped.Goals as goal

pub returns-clause-reads : goal.returns-clause-reads
returns-clause-reads c =
    maps_held _ _ _ _ _ _ _ _ _ (sym c.take.ensures.value ∙ ap (option_map boxed) c.in-Some.is ∙ ap Some (sym c.deref_mut.ensures.value)) c.put.ensures c.read_mapped-mapped.ensures.reads

pub returns-clause-quiet : goal.returns-clause-quiet
returns-clause-quiet c =
    held_quietly _ _ _ _ _ (sym c.take.ensures.value ∙ ap (option_map boxed) c.in-Some.is ∙ ap Some (sym c.deref_mut.ensures.value)) c.put.ensures c.read_mapped-mapped.ensures.quiet
