use Rattle.std.proofs.Common.{◌≡◌, ◌<◌, ℕ, ◌+◌, ◌-◌, Bool, true, false, leb, List, length, take, drop, get_or, ◌≢◌, Some, None, sym, subst, ap, ◌∙◌, arith, IsUtf8, ne_eqb}
use Rattle.std.specs.Str.{is_utf8}
use Rattle.std.proofs.lemmas.List.{take_rest}
use Rattle.rdlpp_meaning.specs.Meaning.{is_level, past_blank_bytes, quote_place}
use Rattle.rdlpp_front.proofs.LineArguments.{IsQuoted, fails_first, fails_fourth, name_no_text, name_open, name_refused, name_text, unnamed, unnamed_none}
use Rattle.rdlpp_front.proofs.arguments.line.shown_name.Goals as goal
use Rattle.rdlpp_front.proofs.arguments.line.shown_name.Goals.{then-is_empty-via-then-is_empty, then-is_empty-via-else-is_empty+then-bytes-ne34}

pub returns-then-is_empty : goal.returns-then-is_empty
returns-then-is_empty c = grind (arith, then-is_empty-via-then-is_empty, unnamed_none, then-is_empty-via-else-is_empty+then-bytes-ne34, unnamed, ne_eqb)

pub returns-in_err-len : goal.returns-in_err-len
returns-in_err-len c =
    let bytes = c.args.bytes.now in
    let place : quote_place false (drop 1 bytes) ≡ None = ap (quote_place false) (sym (take_rest bytes 1)) ∙ sym c.in_err-len.ensures.place in
    rw c.from_residual.ensures (λ (number : ℕ). name_open number bytes place)

pub returns-then-len-eq0 : goal.returns-then-len-eq0
returns-then-len-eq0 c =
    let bytes = c.args.bytes.now in
    let n = c.in_ok-len.len in
    let place : quote_place false (drop 1 bytes) ≡ Some n = ap (quote_place false) (sym (take_rest bytes 1)) ∙ sym c.in_ok-len.ensures.place in
    let short : leb 1 n ≡ false = ap (leb 1) c.if-len-eq0.true in
    λ number. name_refused number n bytes c.if-bytes-ne34.false place
    (fails_first (leb n 1024) (is_utf8 (take n (drop 1 bytes))) (is_level (past_blank_bytes (drop (n + 2) bytes))) (leb 1 n) short)

pub returns-then-not-is_level : goal.returns-then-not-is_level
returns-then-not-is_level c =
    let bytes = c.args.bytes.now in
    let n = c.in_ok-len.len in
    let place : quote_place false (drop 1 bytes) ≡ Some n = ap (quote_place false) (sym (take_rest bytes 1)) ∙ sym c.in_ok-len.ensures.place in
    let rest = c.past_blanks.ensures ∙ ap past_blank_bytes (take_rest bytes (n + 2)) in
    let none : is_level (past_blank_bytes (drop (n + 2) bytes)) ≡ false = ap is_level (sym rest) ∙ sym c.is_level.ensures ∙ c.if-not-is_level.true in
    λ number. name_refused number n bytes c.if-bytes-ne34.false place
    (fails_fourth (leb 1 n) (leb n 1024) (is_utf8 (take n (drop 1 bytes))) (is_level (past_blank_bytes (drop (n + 2) bytes))) none)

-- a string that is closed, and a level after it
quoted : (bytes following : List ℕ) (n : ℕ) (level : Bool) → get_or bytes 0 0 ≡ 34 → Some n ≡ quote_place false (take (length bytes - 1) (drop 1 bytes)) → n < length (take (length bytes - 1) (drop 1 bytes))
    → n ≢ 0 → following ≡ past_blank_bytes (take (length bytes - (n + 2)) (drop (n + 2) bytes)) → level ≡ is_level following → level ≡ true → IsQuoted bytes n
quoted bytes following n level quote place inside some rest is holds = grind (arith, take_rest bytes 1, take_rest bytes (n + 2))

-- as many bytes as stand between the quotes
back_one : (n : ℕ) → n + 1 - 1 ≡ n
back_one n = omega arith

pub returns-in_default : goal.returns-in_default
returns-in_default c =
    let bytes = c.args.bytes.now in
    let n = c.in_ok-len.len in
    let q = quoted bytes c.past_blanks.result.now n c.is_level.result c.if-bytes-ne34.false c.in_ok-len.ensures.place c.in_ok-len.ensures.inside c.if-len-eq0.false
    c.past_blanks.ensures c.is_level.ensures c.if-not-is_level.false in
    λ number. name_no_text number n bytes q (λ e. c.in_default.ensures.cases.0 (subst (λ (k : ℕ). IsUtf8 (take k (drop 1 bytes))) (sym (back_one n)) e))

pub returns : goal.returns
returns c =
    let bytes = c.args.bytes.now in
    let n = c.in_ok-len.len in
    let q = quoted bytes c.past_blanks.result.now n c.is_level.result c.if-bytes-ne34.false c.in_ok-len.ensures.place c.in_ok-len.ensures.inside c.if-len-eq0.false
    c.past_blanks.ensures c.is_level.ensures c.if-not-is_level.false in
    grind (arith, name_text, back_one)
