use Rattle.std.proofs.Common.{◌≡◌, ◌+◌, ◌-◌, ◌≤◌, ℕ, Bool, ◌||◌, false, eqb, List, Option, Some, None, length, drop, take, get_or, subst, sym, arith}
use Rattle.std.proofs.lemmas.Slice.{between_to_end}
use Rattle.memchr.specs.Find.{IsFirstByte, is_byte3}
use Rattle.rdlpp_scan.specs.Bytes.{begins_perl}
use Rattle.rdlpp_scan.specs.Tokens.{string_stop}
use Rattle.rdlpp_scan.proofs.TokenLens.{found-within, found-escape, found-stop, found-other, found-none}
use Rattle.rdlpp_scan.proofs.scan.string_stop.Goals as goal

found : (bs : List ℕ) (at : ℕ) (r : Option ℕ) → IsFirstByte (is_byte3 34 92 60) (take (length bs - at) (drop at bs)) r → IsFirstByte (is_byte3 34 92 60) (drop at bs) r
found bs at r h = subst (λ xs. IsFirstByte (is_byte3 34 92 60) xs r) (between_to_end bs at (length bs) (omega arith)) h

ending : (bs : List ℕ) (at : ℕ) (b : Bool) → b ≡ (eqb (get_or (take (length bs - at) (drop at bs)) 0 0) 34 || begins_perl (take (length bs - at) (drop at bs))) → (eqb (get_or (drop at bs) 0 0) 34 || begins_perl (drop at bs)) ≡ b
ending bs at b h = sym (subst (λ xs. b ≡ (eqb (get_or xs 0 0) 34 || begins_perl xs)) (between_to_end bs at (length bs) (omega arith)) h)

pub loop-step-preserved-then-bytes-here-eq92 : goal.loop-step-preserved-then-bytes-here-eq92
loop-step-preserved-then-bytes-here-eq92 c =
    let bs = c.args.bytes.now in
    let i = c.loop-step.invariant in
    let f = found bs c.loop-step.at (Some c.in-Some.step) c.in-Some.ensures in
    let e = found-escape bs c.loop-step.at c.in-Some.step i.0 f i.1 c.if-bytes-here-eq92.true in
    let P : ℕ → Type 0 = λ n. (n ≤ length bs) × (string_stop false bs ≡ n + string_stop false (drop n bs)) in
    subst P (sym c.min-at.ensures) (omega arith, e)

pub returns-then-ends_string-clause-value : goal.returns-then-ends_string-clause-value
returns-then-ends_string-clause-value c =
    let i = c.loop-step.invariant in
    let f = found c.args.bytes.now c.loop-step.at (Some c.in-Some.step) c.in-Some.ensures in
    found-stop c.args.bytes.now c.loop-step.at c.in-Some.step i.0 f i.1 (ending c.args.bytes.now (c.loop-step.at + c.in-Some.step) _ c.if-ends_string.ensures)

pub loop-step-preserved : goal.loop-step-preserved
loop-step-preserved c =
    let i = c.loop-step.invariant in
    let f = found c.args.bytes.now c.loop-step.at (Some c.in-Some.step) c.in-Some.ensures in
    let within = found-within c.args.bytes.now c.loop-step.at c.in-Some.step i.0 f i.1 in
    (omega arith, found-other c.args.bytes.now c.loop-step.at c.in-Some.step i.0 f i.1 (ending c.args.bytes.now (c.loop-step.at + c.in-Some.step) _ c.if-ends_string.ensures) c.if-bytes-here-eq92.false)

pub returns-clause-value : goal.returns-clause-value
returns-clause-value c =
    let i = c.loop-step.invariant in
    found-none c.args.bytes.now c.loop-step.at i.0 (found c.args.bytes.now c.loop-step.at None c.in_default.ensures) i.1
