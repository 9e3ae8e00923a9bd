use Rattle.std.proofs.Common.{◌≡◌, take}
use Rattle.rdlpp_read.specs.Files.{held_bytes}
use Rattle.rdlpp_read.proofs.files.Files.held_len.Given as goal

abbrev pub invariant-loop-file : goal.invariant-loop-file
invariant-loop-file g l = record {
  items : l.file-items ≡ l.self.include_stack;
  sum : l.len ≡ held_bytes (take l.file-index l.file-items);
}
