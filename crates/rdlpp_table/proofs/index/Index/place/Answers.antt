use Rattle.std.proofs.Common.{◌+◌, ◌/◌, ◌∙◌, ap, arith, subst, sym, get_or}
use Rattle.std.proofs.lemmas.List.{get_or_default}
use Rattle.rdlpp_table.specs.IndexView.{IndexView, IsInBucket}
use Rattle.rdlpp_table.proofs.Arranged.{bucket_inside, bucket_place}
use Rattle.rdlpp_define.proofs.Sizes.{count_items}
use Rattle.rdlpp_table.proofs.index.Index.place.Goals as goal

pub returns : goal.returns
returns c =
    let x = c.self.inside in
    let at = subst (λ (v : IndexView). IsInBucket v.bucket_starts c.args.bucket c.args.at) (sym c.self.view_is) c.requires.at in
    let inside = (bucket_inside _ _ _ _ c.self.invariant.spaced c.requires.bucket at).1 in
    c.index.ensures
    ∙ (get_or_default x.order.items (c.args.at + get_or x.slack_before (c.args.bucket / 32) 0) _ 0 (omega (arith, inside, c.self.invariant.inside, count_items x.order))
    ∙ (sym (bucket_place _ _ _ _ _ c.self.invariant.spaced c.requires.bucket at) ∙ ap (λ (v : IndexView). get_or v.places c.args.at 0) c.self.view_is))
