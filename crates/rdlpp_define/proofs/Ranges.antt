-- Limits without a fault are in their ranges, and the other way round.
use Rattle.std.proofs.Common.{◌≡◌, ℕ, Bool, cond, leb, Option, Some, None, refl, sym, ◌∙◌, arith, true, false, le-leb, leb-true}
use Rattle.std.proofs.lemmas.Bool.{and_from, and_parts, cond-true}
use Rattle.rdlpp_define.specs.Limits.{AreInRange, IsWithin, is_within, limit_fault}
use Rattle.rdlpp_define.specs.declared.limits.LimitFault.{LimitFault}
use Rattle.rdlpp_define.specs.declared.limits.Limits.{Limits}

within_true : (low high n : ℕ) → is_within low high n ≡ true → IsWithin low high n
unfolding is_within
within_true low high n e = let p = and_parts (leb low n) (leb n high) e in (leb-true _ _ p.0, leb-true _ _ p.1)

true_within : (low high n : ℕ) → IsWithin low high n → is_within low high n ≡ true
unfolding is_within
true_within low high n h = and_from _ _ (le-leb _ _ h.0) (le-leb _ _ h.1)

-- a test that isn't refused holds
one_test : (c : Bool) (x : Option LimitFault) (f : LimitFault) → cond c x (Some f) ≡ None → (c ≡ true) × (x ≡ None)
one_test true x f e = (refl, e)
one_test false x f e = absurd (cc)

pub in_range : (l : Limits) → limit_fault l ≡ None → AreInRange l
unfolding limit_fault
in_range l e = grind (arith, one_test, within_true)

pub no_fault : (l : Limits) → AreInRange l → limit_fault l ≡ None
unfolding limit_fault
no_fault l r = grind (arith, cond-true, true_within)

pub fault_out_of_range : (l : Limits) (f : LimitFault) (r : Option LimitFault) → r ≡ limit_fault l → r ≡ Some f → AreInRange l → ⊥
fault_out_of_range l f r e g h =
    let same : (let n : Option LimitFault = None in n) ≡ Some f = sym (no_fault l h) ∙ (sym e ∙ g) in cc
