use Rattle.std.proofs.Common.{◌<◌, ◌≡◌, ◌-◌, length, drop, List, ap, arith, length-drop, length-take}
use Rattle.rdlpp_texts.specs.declared.frame.Frame.{Frame}
use Rattle.rdlpp_texts.proofs.Stacking.{some-open}
use Rattle.rdlpp_texts.proofs.cursors.Cursors.peek.Goals as goal

pub peek_at-requires-clause-some : goal.peek_at-requires-clause-some
peek_at-requires-clause-some c =
    let some : c.self.inside.first < length c.self.inside.frames.items = some-open c.self.inside.frames.items c.self.inside.first c.self.inside.bindings.items (rw (← c.self.view_is) at c.requires.some) in
    let size : length c.as_slice-frames.result.now ≡ length c.self.inside.frames.items = ap (λ (s : List Frame). length s) c.as_slice-frames.ensures.value in
    let rest = length-drop c.self.inside.first c.as_slice-frames.result.now in
    let all = length-take (length c.as_slice-frames.result.now - c.self.inside.first) (drop c.self.inside.first c.as_slice-frames.result.now) in
    omega (arith, some, size, rest, all)
