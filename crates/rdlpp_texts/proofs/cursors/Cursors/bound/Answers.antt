use Rattle.std.proofs.Common.{◌∙◌}
use Rattle.rdlpp_define.proofs.Sizes.{count_items}
use Rattle.rdlpp_texts.proofs.Stacking.{bound-few, laid-bound}
use Rattle.rdlpp_texts.proofs.cursors.Cursors.bound.Goals as goal

pub returns-clause-value : goal.returns-clause-value
returns-clause-value c = rw (← c.self.view_is) (c.len.ensures ∙ count_items c.self.inside.bindings ∙ laid-bound _ _ c.self.invariant.laid)

pub returns-clause-few : goal.returns-clause-few
returns-clause-few c = rw (← c.self.view_is) (bound-few c.self.inside.frames.items c.self.inside.depth c.self.inside.first c.self.inside.bindings.items c.self.invariant.few c.self.invariant.laid)
