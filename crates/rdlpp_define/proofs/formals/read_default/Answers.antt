use Rattle.std.proofs.Common.{◌≡◌, ◌<◌, length, eqb, ◌+◌, ◌∙◌, sym, arith, eq-eqb, ne_eqb, true, eqb-true}
use Rattle.std.proofs.lemmas.Bool.{cond-true, cond-false, eqb-false}
use Rattle.rdlpp_scan.proofs.Joins.{none_first, reads_first}
use Rattle.rdlpp_define.proofs.Defaults.{default_fault, default_endless, default_found, size_by}
use Rattle.rdlpp_define.proofs.formals.read_default.Goals as goal
use Rattle.rdlpp_define.proofs.formals.read_default.Goals.{then-measured-eq0, else-measured-eq0}

pub returns-in_default-clause-is : goal.returns-in_default-clause-is
returns-in_default-clause-is c = default_fault _ _ c.in_default.ensures.len

pub returns-then-is_empty-clause-is : goal.returns-then-is_empty-clause-is
returns-then-is_empty-clause-is c = default_endless _ (c.in-Ok.ensures.following ∙ none_first true _ (eqb-true _ _ (sym c.is_empty.ensures ∙ c.if-is_empty.true)))

pub returns-clause-is : goal.returns-clause-is
returns-clause-is c =
    let size : c.if-measured-eq0.size ≡ size_by c.in-Ok.measured.len = elim c.if-measured-eq0.branch [
      | then-measured-eq0 w ↦ w.size-is ∙ sym (cond-true (eqb c.in-Ok.measured.len 0) 0 (1 + c.in-Ok.measured.len) (eq-eqb _ _ w.if-measured-eq0.true))
      | else-measured-eq0 w ↦ w.size-is ∙ sym (cond-false (eqb c.in-Ok.measured.len 0) 0 (1 + c.in-Ok.measured.len) (ne_eqb _ _ w.if-measured-eq0.false))
    ] in
    let some : 0 < length c.in-Ok.measured.following.now = omega (arith, eqb-false (length c.in-Ok.measured.following.now) 0 (sym c.is_empty.ensures ∙ c.if-is_empty.false)) in
    default_found _ _ _ _ _ _ c.in-Ok.ensures.len c.in-Ok.ensures.following (reads_first true c.in-Ok.measured.following.now some).first size
