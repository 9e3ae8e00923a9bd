use Rattle.std.proofs.Common.{◌≡◌, ◌<◌, ◌*◌, ℕ, get_or, length}
use Rattle.rdlpp_table.proofs.index.even_slack.Given as goal

abbrev pub invariant-loop-group : goal.invariant-loop-group
invariant-loop-group l = (length l.before ≡ 33) × ((g : ℕ) → g < l.group → get_or l.before g 0 ≡ l.slack * g)
