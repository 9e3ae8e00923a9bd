use Rattle.std.proofs.Common.{◌≡◌, ◌≤◌}
use Rattle.rdlpp_scan.specs.KeptText.{begun, trims}
use Rattle.rdlpp_scan.specs.KeptBytes.{left, unread, LevelFits}
use Rattle.rdlpp_scan.proofs.kept_text.KeptBytes.next_untrimmed.Given as goal

abbrev pub invariant-loop-b : goal.invariant-loop-b
invariant-loop-b l = record {
  same : begun (trims l.fn.is_default) (left l.self) ≡ begun (trims l.fn.is_default) (left l.fn.self);
  shorter : unread l.self ≤ unread l.fn.self;
  logical : l.self.is_logical ≡ l.fn.self.is_logical;
  fits : LevelFits l.self;
}

abbrev pub decreases-loop-b : goal.decreases-loop-b
decreases-loop-b l = unread l.self
