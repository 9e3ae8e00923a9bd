-- The formals from a place on are left, and the body.
use Rattle.std.proofs.Common.{◌≡◌, ℕ, List, ◌++◌, drop, flat_map}
use Rattle.rdlpp_define.specs.Macros.{formal_bytes, AreSoundFormals, formals_of}
use Rattle.rdlpp_table.specs.Store.{macro_bytes}
use Rattle.rdlpp_define.specs.Table.{macro_at}
use Rattle.rdlpp_reports.proofs.definitions.after_macro.Given as goal

abbrev pub invariant-loop-place : goal.invariant-loop-place
invariant-loop-place l =
    let m = macro_at l.table.macros l.id in
    AreSoundFormals (formals_of m) → (after : List ℕ) → l.bytes ≡ macro_bytes m ++ after → l.rest ≡ flat_map formal_bytes (drop l.place (formals_of m)) ++ (m.body ++ after)
