use Rattle.std.proofs.Common.{◌≡◌, ◌+◌, ◌-◌, vec_len, vec_capacity}
use Rattle.rdlpp_scan.specs.KeptText.{cleared, found_left, start_level, trimmed_left, trims}
use Rattle.rdlpp_scan.specs.Continuations.{as_read}
use Rattle.rdlpp_scan.specs.KeptBytes.{left, LevelFits}
use Rattle.rdlpp_scan.proofs.Measures.{IsCopied}
use Rattle.rdlpp_scan.proofs.kept_text.append_kept.Given as goal

abbrev pub invariant-loop : goal.invariant-loop
invariant-loop l = record {
  copied : IsCopied l.to.items l.fn.to.items (trimmed_left (trims l.fn.is_default) (cleared (start_level l.fn.is_default) (as_read l.fn.is_logical l.fn.text))) (l.fn.len - l.counter) (found_left l.found (left l.bytes));
  count : vec_len l.to ≡ vec_len l.fn.to + l.counter;
  room : vec_capacity l.to ≡ vec_capacity l.fn.to;
  fits : LevelFits l.bytes;
}
