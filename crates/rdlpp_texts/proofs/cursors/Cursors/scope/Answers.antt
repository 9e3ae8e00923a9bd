use Rattle.rdlpp_texts.proofs.Stacking.{lent-some}
use Rattle.rdlpp_texts.proofs.cursors.Cursors.scope.Goals as goal

pub front_scope-requires : goal.front_scope-requires
front_scope-requires c = lent-some _ _ _ c.self.inside.bindings.items c.as_slice-frames.ensures.value (rw (← c.self.view_is) at c.requires)
