use Rattle.std.proofs.Common.{◌≡◌, ◌≤◌, ◌+◌, length}
use Rattle.rdlpp_scan.specs.KeptText.{cleared, ended_len, start_level, text_after, trimmed_len, trims}
use Rattle.rdlpp_scan.specs.Continuations.{as_read}
use Rattle.rdlpp_scan.specs.KeptBytes.{left, unread, LevelFits}
use Rattle.rdlpp_scan.proofs.kept_text.kept_len.Given as goal

abbrev pub invariant-loop-b : goal.invariant-loop-b
invariant-loop-b l = record {
  same : ended_len (trims l.fn.is_default) l.count l.end (left l.bytes) ≡ trimmed_len (trims l.fn.is_default) (cleared (start_level l.fn.is_default) (as_read l.fn.is_logical l.fn.text));
  following : text_after (left l.bytes) ≡ text_after (cleared (start_level l.fn.is_default) (as_read l.fn.is_logical l.fn.text));
  logical : l.bytes.is_logical ≡ l.fn.is_logical;
  shorter : l.count + unread l.bytes ≤ length l.fn.text;
  ends : l.end ≤ l.count;
  fits : LevelFits l.bytes;
}

abbrev pub decreases-loop-b : goal.decreases-loop-b
decreases-loop-b l = unread l.bytes
