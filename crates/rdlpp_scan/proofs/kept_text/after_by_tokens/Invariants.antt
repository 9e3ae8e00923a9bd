use Rattle.std.proofs.Common.{◌≡◌, ◌≤◌, length, Some}
use Rattle.rdlpp_scan.specs.KeptText.{cleared, text_after}
use Rattle.rdlpp_scan.specs.KeptBytes.{left_after, LevelFits}
use Rattle.std.proofs.Common.{false}
use Rattle.rdlpp_scan.proofs.kept_text.after_by_tokens.Given as goal

abbrev pub invariant-loop : goal.invariant-loop
invariant-loop l = record {
  following : text_after (left_after l.reader) ≡ text_after (cleared (Some 0) l.fn.bytes);
  logical : l.reader.is_logical ≡ false;
  shorter : length l.reader.rest.now ≤ length l.fn.bytes;
  fits : LevelFits l.reader;
}

abbrev pub decreases-loop : goal.decreases-loop
decreases-loop l = length l.reader.rest.now
