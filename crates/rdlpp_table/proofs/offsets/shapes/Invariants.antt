-- Those of the formals that are left are told with them.
use Rattle.std.proofs.Common.{◌≡◌, ◌-◌, drop, false, length, replicate, flat_map}
use Rattle.rdlpp_table.specs.Shapes.{shapes_of}
use Rattle.rdlpp_table.specs.Store.{formals_read}
use Rattle.rdlpp_define.specs.Macros.{formal_bytes}
use Rattle.rdlpp_table.proofs.offsets.shapes.Given as goal

abbrev pub invariant-loop-place : goal.invariant-loop-place
invariant-loop-place l =
    (length l.told ≡ 256)
    × (shapes_of (formals_read l.formals.count l.formals.list.now) (replicate 256 false) ≡ shapes_of (formals_read (l.formals.count - l.place) (flat_map formal_bytes (drop l.place (formals_read l.formals.count l.formals.list.now)))) l.told)

abbrev pub invariant-loop : goal.invariant-loop
invariant-loop l =
    (length l.told ≡ 256)
    × (shapes_of (formals_read l.formals.count l.formals.list.now) (replicate 256 false) ≡ shapes_of (formals_read (l.formals.count - l.counter) l.rest) l.told)
