use Rattle.std.proofs.Common.{◌-◌, ℕ, sym, ap, ◌∙◌, arith}
use Rattle.rdlpp_define.proofs.Sizes.{count_items}
use Rattle.rdlpp_texts.proofs.Stacking.{open-count}
use Rattle.rdlpp_texts.proofs.cursors.Cursors.len.Goals as goal

pub returns : goal.returns
returns c =
    let count = open-count c.self.inside.frames.items c.self.inside.first c.self.inside.bindings.items in
    let frames = count_items c.self.inside.frames in
    rw (← c.self.view_is) (record {
      value = ap (λ (n : ℕ). n - c.self.inside.first) (c.len.ensures ∙ frames) ∙ sym count;
      few = omega arith;
      short = (let size = c.len.ensures in let fits = c.len.type_inv in omega (arith, size, fits));
    })
