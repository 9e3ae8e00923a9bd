use Rattle.std.proofs.Common.{◌<◌, length}
use Rattle.rdlpp_texts.proofs.Stacking.{first-inside, some-open, spent-is}
use Rattle.rdlpp_texts.proofs.cursors.Cursors.is_spent.Goals as goal

pub index-frame-requires : goal.index-frame-requires
index-frame-requires c = first-inside c.self.inside.frames c.self.inside.first c.self.inside.bindings.items (rw (← c.self.view_is) at c.requires)

pub returns : goal.returns
returns c =
    let some : c.self.inside.first < length c.self.inside.frames.items = some-open c.self.inside.frames.items c.self.inside.first c.self.inside.bindings.items (rw (← c.self.view_is) at c.requires) in
    rw (← c.self.view_is) (spent-is c.self.inside.frames.items c.self.inside.first c.self.inside.bindings.items _ some c.index-frame.ensures)
