use Rattle.std.proofs.Common.{◌≡◌, ◌≤◌, length}
use Rattle.rdlpp_scan.specs.KeptBytes.{left, unread, LevelFits}
use Rattle.rdlpp_scan.proofs.kept_text.KeptBytes.next.Given as goal

abbrev pub invariant-loop-b : goal.invariant-loop-b
invariant-loop-b l = record {
  same : left l.self ≡ left l.fn.self;
  shorter : unread l.self ≤ unread l.fn.self;
  logical : l.self.is_logical ≡ l.fn.self.is_logical;
  fits : LevelFits l.self;
}

abbrev pub decreases-loop-b : goal.decreases-loop-b
decreases-loop-b l = length l.self.rest.now
