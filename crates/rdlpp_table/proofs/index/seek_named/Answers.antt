use Rattle.std.proofs.Common.{◌∙◌, ap, drop, refl}
use Rattle.rdlpp_table.proofs.Sizes.{stored_slices_within}
use Rattle.rdlpp_table.proofs.Indexed.{found_in}
use Rattle.rdlpp_table.proofs.index.seek_named.Goals as goal

pub seek-requires-clause-within : goal.seek-requires-clause-within
seek-requires-clause-within c =
    stored_slices_within _ _ _ _ _ c.deref.ensures.value (c.live.ensures ∙ ap (drop c.args.front.now.entries) c.deref-2.ensures.value) c.requires.stored

pub returns : goal.returns
returns c = found_in _ _ _ _ _ _ _ _ _ c.deref.ensures.value (c.live.ensures ∙ ap (drop c.args.front.now.entries) c.deref-2.ensures.value) refl c.new.ensures c.seek.ensures.found
