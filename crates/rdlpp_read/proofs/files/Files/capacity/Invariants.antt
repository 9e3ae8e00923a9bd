use Rattle.std.proofs.Common.{◌≡◌, ◌*◌, length, All}
use Rattle.rdlpp_read.specs.Files.{IsSlot}
use Rattle.rdlpp_read.proofs.files.Files.capacity.Given as goal

abbrev pub invariant-loop-file : goal.invariant-loop-file
invariant-loop-file g l = record {
  each : All (IsSlot l.self.line_bytes) l.file-items;
  count : length l.file-items ≡ l.self.slots;
  sum : l.bytes ≡ l.file-index * l.self.line_bytes;
}
