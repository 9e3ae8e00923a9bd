use Rattle.std.proofs.Common.{◌-◌}
use Rattle.rdlpp_table.specs.Index.{names_of}
use Rattle.rdlpp_table.specs.Store.{macros_in}
use Rattle.rdlpp_table.proofs.Orders.{IsSeeking}
use Rattle.rdlpp_table.proofs.index.seek.Given as goal

abbrev pub invariant-loop-low : goal.invariant-loop-low
invariant-loop-low l = IsSeeking (names_of (macros_in l.bytes l.entries)) l.index.places l.key.name.now l.low l.high l.initial.steps l.steps

abbrev pub decreases-loop-low : goal.decreases-loop-low
decreases-loop-low l = l.high - l.low
