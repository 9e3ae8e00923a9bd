use Rattle.std.proofs.Common.{◌≡◌, drop}
use Rattle.rdlpp_table.specs.Index.{fold_bytes}
use Rattle.rdlpp_table.proofs.buckets.fold_bytes.Given as goal

abbrev pub invariant-loop-byte : goal.invariant-loop-byte
invariant-loop-byte l = fold_bytes l.number (drop l.byte-index l.bytes) ≡ fold_bytes 0 l.bytes
