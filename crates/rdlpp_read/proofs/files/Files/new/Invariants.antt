use Rattle.std.proofs.Common.{◌≡◌, ◌≤◌, length, All, vec_capacity}
use Rattle.rdlpp_read.specs.Files.{IsClosed, IsSlot}
use Rattle.rdlpp_read.proofs.files.Files.new.Given as goal

abbrev pub invariant-loop-slot : goal.invariant-loop-slot
invariant-loop-slot g l =
    (length l.list.items ≡ l._slot) × (l.slots ≤ vec_capacity l.list) × All (IsSlot l.line_bytes) l.list.items × All IsClosed l.list.items
