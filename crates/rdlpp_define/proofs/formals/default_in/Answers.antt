use Rattle.std.proofs.Common.{◌≡◌, ℕ, List, Option, None, get_or, eqb, true, refl, ap, subst, sym, ◌∙◌, eq-eqb, ne_eqb, false, MatchOption}
use Rattle.rdlpp_scan.specs.Continuations.{as_read}
use Rattle.rdlpp_define.specs.Define.{DefaultText}
use Rattle.rdlpp_define.specs.Formals.{IsDefault}
use Rattle.rdlpp_scan.proofs.Joins.{joined_none}
use Rattle.rdlpp_define.proofs.Defaults.{default_at, no_default_at}
use Rattle.rdlpp_define.proofs.formals.default_in.Goals as goal
use Rattle.rdlpp_define.proofs.formals.default_in.Goals.{in-Some+else-b-eq61, in_default}

pub returns-then-b-eq61-clause-is : goal.returns-then-b-eq61-clause-is
returns-then-b-eq61-clause-is c =
    let P : Option DefaultText → Type 0 = λ o. MatchOption c.read_default.result (o ≡ None) (λ d. IsDefault o (as_read true d.from.now) (as_read true d.following.now) d.size) in
    subst P (sym (default_at _ _ _ c.in-Some.ensures.0 (eq-eqb _ _ c.if-b-eq61.true))) c.read_default.ensures.is

pub returns-clause-is : goal.returns-clause-is
returns-clause-is c =
    let other : eqb (get_or (as_read true c.args.text.now) 0 0) 61 ≡ false = elim c.match-split_first.branch [
      | in-Some+else-b-eq61 w ↦ ap (λ (x : List ℕ). eqb (get_or x 0 0) 61) w.in-Some.ensures.0 ∙ ne_eqb _ _ w.if-b-eq61.false
      | in_default w ↦ ap (λ (x : List ℕ). eqb (get_or x 0 0) 61) w.in_default.ensures
    ] in
    no_default_at _ _ _ _ joined_none refl refl other
