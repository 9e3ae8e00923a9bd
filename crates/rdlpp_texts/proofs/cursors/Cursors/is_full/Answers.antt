use Rattle.std.proofs.Common.{◌∙◌}
use Rattle.rdlpp_define.proofs.Sizes.{count_items}
use Rattle.rdlpp_texts.proofs.Stacking.{full-first, full-some}
use Rattle.rdlpp_texts.proofs.cursors.Cursors.is_full.Goals as goal

pub returns-then-self-eq0 : goal.returns-then-self-eq0
returns-then-self-eq0 c =
    rw (← c.self.view_is) (full-first c.self.inside.frames.items c.self.inside.first c.self.inside.depth c.len.result c.self.inside.bindings.items c.if-self-eq0.true (c.len.ensures ∙ count_items c.self.inside.frames) c.self.invariant.few)

pub returns-else-self-eq0 : goal.returns-else-self-eq0
returns-else-self-eq0 c =
    rw (← c.self.view_is) (full-some c.self.inside.frames.items c.self.inside.first c.self.inside.depth c.self.inside.bindings.items c.if-self-eq0.false c.self.invariant.inside c.self.invariant.few)
