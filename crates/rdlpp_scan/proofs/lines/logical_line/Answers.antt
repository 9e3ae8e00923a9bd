use Rattle.std.proofs.Common.{◌≡◌, ◌-◌, ◌+◌, ℕ, List, Option, Some, None, Bool, subst, length, take, drop, arith, length-drop}
use Rattle.std.proofs.lemmas.Slice.{between_to_end}
use Rattle.memchr.specs.Find.{IsFirstByte, is_byte}
use Rattle.rdlpp_scan.specs.Lines.{ends_continued}
use Rattle.rdlpp_scan.proofs.SourceLaws.{logical_len-goes_on, logical_len-ends, logical_len-no_end}
use Rattle.rdlpp_scan.proofs.lines.logical_line.Goals as goal

found : (bs : List ℕ) (at : ℕ) (r : Option ℕ) → IsFirstByte (is_byte 10) (take (length bs - at) (drop at bs)) r → IsFirstByte (is_byte 10) (drop at bs) r
found bs at r h = subst (λ xs. IsFirstByte (is_byte 10) xs r) (between_to_end bs at (length bs) (omega arith)) h

line_here : (bs : List ℕ) (at k : ℕ) (b : Bool) → b ≡ ends_continued 0 0 (take (at + k - at) (drop at bs)) → ends_continued 0 0 (take k (drop at bs)) ≡ b
line_here bs at k b h = grind arith

pub returns-then-not-is_continued : goal.returns-then-not-is_continued
returns-then-not-is_continued c =
    let bs = c.args.bytes.now in
    let i = c.loop-step.invariant in
    let f = found bs c.loop-step.at (Some c.in-Some.step) c.in-Some.ensures in
    logical_len-ends bs c.loop-step.at c.in-Some.step i.0 f (line_here bs c.loop-step.at c.in-Some.step _ c.if-not-is_continued.ensures) i.1

pub loop-step-preserved : goal.loop-step-preserved
loop-step-preserved c =
    let bs = c.args.bytes.now in
    let i = c.loop-step.invariant in
    let f = found bs c.loop-step.at (Some c.in-Some.step) c.in-Some.ensures in
    (omega (arith, f.0.high, length-drop c.loop-step.at bs), logical_len-goes_on bs c.loop-step.at c.in-Some.step i.0 f (line_here bs c.loop-step.at c.in-Some.step _ c.if-not-is_continued.ensures) i.1)

pub returns : goal.returns
returns c =
    logical_len-no_end c.args.bytes.now c.loop-step.at (found c.args.bytes.now c.loop-step.at None c.in_default.ensures) c.loop-step.invariant.1
