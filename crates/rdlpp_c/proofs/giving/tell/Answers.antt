use Rattle.std.proofs.Common.{Some, ap, sym, ◌∙◌, option_map}
use Rattle.rdlpp_c.specs.Streaming.{boxed}
use Rattle.rdlpp_c.proofs.Onces.{gives_held}
use Rattle.rdlpp_c.proofs.giving.tell.Goals as goal

pub returns : goal.returns
returns c =
    gives_held _ _ _ _ _ _ (sym c.take.ensures.value ∙ ap (option_map boxed) c.in-Some.is ∙ ap Some (sym c.deref_mut.ensures.value)) c.put.ensures c.give-status.ensures
