use Rattle.std.proofs.Common.{◌<◌, length, refl}
use Rattle.rdlpp_texts.proofs.Stacking.{first-inside, moved-opens, some-open, stack-moved, view-is}
use Rattle.rdlpp_texts.proofs.cursors.Cursors.move_to.Goals as goal

pub index_mut-requires : goal.index_mut-requires
index_mut-requires c = first-inside c.self.inside.frames c.self.inside.first c.self.inside.bindings.items (rw (← c.self.view_is) at c.requires)

pub invariant_of-self : goal.invariant_of-self
invariant_of-self c =
    let some : c.self.inside.first < length c.self.inside.frames.items = some-open c.self.inside.frames.items c.self.inside.first c.self.inside.bindings.items (rw (← c.self.view_is) at c.requires) in
    stack-moved c.self.inside.frames.items _ _ c.self.inside.first c.args.at c.self.inside.bindings c.index_mut.result.now some c.index_mut.ensures.value c.self.invariant

pub returns : goal.returns
returns c =
    let some : c.self.inside.first < length c.self.inside.frames.items = some-open c.self.inside.frames.items c.self.inside.first c.self.inside.bindings.items (rw (← c.self.view_is) at c.requires) in
    rw (← c.self.view_is) (view-is _ _ _ _ _ (moved-opens c.self.inside.frames.items c.self.inside.first c.args.at c.self.inside.bindings.items c.index_mut.result.now some c.index_mut.ensures.value) refl)
