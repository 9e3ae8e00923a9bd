use Rattle.std.proofs.Common.{ℕ, List, None, ap}
use Rattle.rdlpp_read.specs.declared.conditions.Progress.{Progress as StoredProgress}
use Rattle.rdlpp_read.specs.Conditions.{ConditionsView, seen_of}
use Rattle.rdlpp_read.proofs.conditions.Conditions.clear.Goals as goal

-- a view of stored conditionals of which none skips text
live_view : ℕ → List StoredProgress → ConditionsView
live_view limit stored = record { open_now = seen_of stored; skipped = None; limit = limit }

pub returns : goal.returns
unfolding seen_of live_view
returns c = rw (← c.self.view_is) (ap (live_view c.self.inside.limit) c.clear.ensures.items)
