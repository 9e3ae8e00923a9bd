use Rattle.std.proofs.Common.{◌≡◌, ◌∙◌, ap, sym, arith, ℕ, ◌<◌, ◌≤◌, List, take, drop, length-take-le}
use Rattle.std.proofs.lemmas.List.{take_rest}
use Rattle.std.specs.List.{prefix_len}
use Rattle.rdlpp_scan.specs.Bytes.{is_digit}
use Rattle.rdlpp_scan.specs.SourceTokens.{line_len}
use Rattle.rdlpp_scan.proofs.SourceLaws.{line_len-le}
use Rattle.rdlpp_meaning.specs.Meaning.{digits_value, past_blank_bytes, renumbered, renumbered_name}
use Rattle.rdlpp_front.proofs.LineArguments.{line_numbered, line_rest, line_unnumbered}
use Rattle.rdlpp_front.proofs.arguments.line.given_line.Goals as goal

-- the name after the number
numbered : (rest word : List ℕ) (n number : ℕ) → word ≡ past_blank_bytes rest → n ≡ prefix_len is_digit (past_blank_bytes rest)
    → (number ≡ digits_value (take n word)) × (0 < number) × (number ≤ 2147483647)
    → renumbered rest ≡ renumbered_name number (past_blank_bytes (drop n word))
numbered rest word n number text len j = grind (arith, line_numbered)

pub slice_bounds-past_blanks-end : goal.slice_bounds-past_blanks-end
slice_bounds-past_blanks-end c = grind (arith, line_rest c.args.bytes.now c.unwrap_or-stop.result c.rest_of_line.result c.rest_of_line.ensures c.unwrap_or-stop.ensures, line_len-le c.args.bytes.now, length-take-le)

-- what stands after the blanks of the rest of the line
after_blanks : (bytes text : List ℕ) (stop : ℕ) → stop ≡ line_len bytes → text ≡ past_blank_bytes (take stop bytes) → text ≡ past_blank_bytes (take (line_len bytes) bytes)
after_blanks bytes text stop is rest = rest ∙ ap (λ (n : ℕ). past_blank_bytes (take n bytes)) is

-- the digits there
digits_there : (rest text : List ℕ) (len : ℕ) → text ≡ past_blank_bytes rest → len ≡ prefix_len is_digit text → len ≡ prefix_len is_digit (past_blank_bytes rest)
digits_there rest text len is size = size ∙ ap (prefix_len is_digit) is

pub returns-in_err-number : goal.returns-in_err-number
returns-in_err-number c = grind (arith, line_rest, after_blanks, digits_there, line_unnumbered)

pub returns-in_err-name : goal.returns-in_err-name
returns-in_err-name c =
    let bytes = c.args.bytes.now in
    let rest = take (line_len bytes) bytes in
    let word = c.past_blanks-after_word.result.now in
    let n = c.digits-len.result in
    let stop = line_rest bytes c.unwrap_or-stop.result c.rest_of_line.result c.rest_of_line.ensures c.unwrap_or-stop.ensures in
    let text = after_blanks bytes word c.unwrap_or-stop.result stop c.past_blanks-after_word.ensures in
    let len = digits_there rest word n text c.digits-len.ensures.value in
    let j = c.in_ok-number.ensures in
    let name = c.past_blanks.ensures ∙ ap past_blank_bytes (take_rest word n) in
    rw c.from_residual-in_err-name.ensures (numbered rest word n c.in_ok-number.number text len j ∙ ap (renumbered_name c.in_ok-number.number) (sym name) ∙ c.in_err-name.ensures c.in_ok-number.number)

pub returns : goal.returns
returns c =
    let bytes = c.args.bytes.now in
    let rest = take (line_len bytes) bytes in
    let word = c.past_blanks-after_word.result.now in
    let n = c.digits-len.result in
    let stop = line_rest bytes c.unwrap_or-stop.result c.rest_of_line.result c.rest_of_line.ensures c.unwrap_or-stop.ensures in
    let text = after_blanks bytes word c.unwrap_or-stop.result stop c.past_blanks-after_word.ensures in
    let len = digits_there rest word n text c.digits-len.ensures.value in
    let j = c.in_ok-number.ensures in
    grind (arith, numbered rest word n c.in_ok-number.number text len j, line_len-le bytes, take_rest)
