use Rattle.std.proofs.Common.{◌≡◌, ℕ, List, get_or, eqb, false, true, ap, sym, ◌∙◌, subst, ne_eqb, MatchResult}
use Rattle.rdlpp_scan.specs.Continuations.{as_read}
use Rattle.rdlpp_define.specs.Macros.{Formal}
use Rattle.rdlpp_define.specs.Define.{FormalList, FormalListFault, after_space}
use Rattle.rdlpp_define.specs.Formals.{IsRead}
use Rattle.rdlpp_define.proofs.FormalLists.{read_empty, read_formals}
use Rattle.rdlpp_define.proofs.formals.read_list.Goals as goal
use Rattle.rdlpp_define.proofs.formals.read_list.Goals.{in-Some+else-b-eq41, in_default}

pub returns-then-b-eq41 : goal.returns-then-b-eq41
returns-then-b-eq41 c = record { read = read_empty _ _ _ _ c.after_space.ensures.value c.in-Some.ensures.0 c.if-b-eq41.true }

pub returns : goal.returns
returns c =
    let other : eqb (get_or (after_space (as_read true c.args.text.now)) 0 0) 41 ≡ false =
    ap (λ (x : List ℕ). eqb (get_or x 0 0) 41) (sym c.after_space.ensures.value)
    ∙ (let e : eqb (get_or (as_read true c.after_space.result.now) 0 0) 41 ≡ false = elim c.match-split_first.branch [
      | in-Some+else-b-eq41 w ↦ ap (λ (x : List ℕ). eqb (get_or x 0 0) 41) w.in-Some.ensures.0 ∙ ne_eqb _ _ w.if-b-eq41.false
      | in_default w ↦ ap (λ (x : List ℕ). eqb (get_or x 0 0) 41) w.in_default.ensures
    ] in e) in
    let P : FormalList → Type 0 = λ l. MatchResult c.read_some.result (λ read. (formals : List Formal) × IsRead l (as_read true read.following.now) read.count read.size formals) (λ kind. l ≡ FormalListFault kind) in
    record { read = subst P (read_formals _ other) c.read_some.ensures.read }
