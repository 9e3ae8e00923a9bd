-- What a `line` is given, byte by byte.
use Rattle.std.proofs.Common.{◌≡◌, ℕ, ◌+◌, ◌-◌, ◌≤◌, ◌<◌, false, List, [], ◌∷◌, length, take, drop, None, Some, refl, ap, ◌∙◌, arith, inl, inr, ◌≢◌, suc, Bool, true, ◌&&◌, ◌||◌, get_or, ◌⊎◌, ◌*◌, eqb, leb, Option, option_map, unwrap_or, Err, IfOk, IsOk, Ok, Result, bytes_eq, fold, if◌then◌else◌, IsUtf8, drop_of_length-le, drop-cons, eqb-true, le-leb, length-take-le}
use Rattle.std.specs.List.{prefix_len}
use Rattle.std.specs.Result.{result_ok}
use Rattle.std.specs.Str.{is_utf8}
use Rattle.std.proofs.Math.Bool.{and-false}
use Rattle.std.proofs.lemmas.Bool.{false_from_ne_true, lt-leb}
use Rattle.std.proofs.lemmas.Bool.Decides.{leb_tells}
use Rattle.std.proofs.lemmas.Str.{IsUtf8-from_is_utf8, is_utf8-from_IsUtf8}
use Rattle.arrayvec.specs.declared.array_string.ArrayString.{ArrayString}
use Rattle.rdlpp_scan.specs.Bytes.{is_digit}
use Rattle.rdlpp_scan.specs.Lines.{ended_line_len}
use Rattle.rdlpp_scan.specs.SourceTokens.{line_len}
use Rattle.rdlpp_scan.proofs.SourceLaws.{line_len-ended}
use Rattle.rdlpp_meaning.specs.Meaning.{digits_value, is_level, past_blank_bytes, quote_place, renumbered, renumbered_name}
use Rattle.rdlpp_front.specs.Arguments.{IsShownName}

-- a text that doesn't begin with a level is none
pub level_other : (bytes : List ℕ) → (get_or bytes 0 0 < 48) ⊎ (50 < get_or bytes 0 0) → is_level bytes ≡ false
unfolding is_level
level_other bytes (inl low) = rw (lt-leb 48 (get_or bytes 0 0) low) refl
level_other bytes (inr high) = grind (arith, le-leb, lt-leb)

-- no text is no level
pub level_none : (bytes : List ℕ) → eqb (length bytes) 0 ≡ true → is_level bytes ≡ false
level_none [] none = level_other [] (inl (omega arith))
level_none (b ∷ bs) none = let zero_is : length (b ∷ bs) ≡ 0 = eqb-true (length (b ∷ bs)) 0 none in absurd (omega arith)

-- one that does is a level where blanks end its line
pub level_digit : (bytes : List ℕ) → 48 ≤ get_or bytes 0 0 → get_or bytes 0 0 ≤ 50
    → is_level bytes ≡ (eqb (length (past_blank_bytes (drop 1 bytes))) 0 || bytes_eq (past_blank_bytes (drop 1 bytes)) (10 ∷ []))
unfolding is_level
level_digit bytes low high = grind (arith, le-leb)

-- a number with one more digit
abbrev pub with_digit : ℕ → ℕ → ℕ
with_digit number digit = number * 10 + (digit - 48)

-- more digits make no smaller number
pub digits_grow : (number : ℕ) (digits : List ℕ) → number ≤ fold with_digit number digits
digits_grow number [] = omega arith
digits_grow number (d ∷ ds) = omega (arith, digits_grow (with_digit number d) ds)

-- the number of all digits, by those up to a place and the rest
pub digits_at : (digits : List ℕ) → fold with_digit 0 digits ≡ digits_value digits
unfolding digits_value
digits_at digits = refl

-- the next digit counts
pub digit_next : (digits : List ℕ) (at number : ℕ) → at < length digits → fold with_digit number (drop at digits) ≡ fold with_digit (with_digit number (get_or digits at 0)) (drop (suc at) digits)
digit_next digits at number more = ap (fold with_digit number) (drop-cons digits at 0 more)

-- a number past the greatest is none that a line may have
pub number_past : (value : ℕ) → 2147483647 < value → (leb 1 value && leb value 2147483647) ≡ false
number_past value past = ap (λ t. leb 1 value && t) (lt-leb value 2147483647 past) ∙ and-false (leb 1 value)

-- a place further back
abbrev pub moved : ℕ → Option ℕ → Option ℕ
moved n place = option_map (λ k. n + k) place

moved_once : (n : ℕ) (place : Option ℕ) → moved n (elim place [ None ↦ None | Some k ↦ Some (suc k) ]) ≡ moved (suc n) place
moved_once n None = refl
moved_once n (Some k) = ap Some (omega arith)

-- a byte that a backslash takes along closes no string
pub quote_taken : (n b : ℕ) (bytes : List ℕ) → moved n (quote_place true (b ∷ bytes)) ≡ moved (suc n) (quote_place false bytes)
unfolding quote_place
quote_taken n b bytes = moved_once n (quote_place false bytes)

-- a quote does
pub quote_here : (n b : ℕ) (bytes : List ℕ) → b ≡ 34 → moved n (quote_place false (b ∷ bytes)) ≡ Some n
unfolding quote_place
quote_here n b bytes is = ap (λ x. moved n (quote_place false (x ∷ bytes))) is ∙ ap Some (omega arith)

-- another byte doesn't
pub quote_later : (n b : ℕ) (bytes : List ℕ) → eqb b 34 ≡ false → moved n (quote_place false (b ∷ bytes)) ≡ moved (suc n) (quote_place (eqb b 92) bytes)
unfolding quote_place
quote_later n b bytes other = rw other (moved_once n (quote_place (eqb b 92) bytes))

-- no text has no closing quote
quote_none : (taken : Bool) → quote_place taken [] ≡ None
unfolding quote_place
quote_none true = refl
quote_none false = refl

-- after the last byte
pub quote_over : (taken : Bool) (place : ℕ) (bytes : List ℕ) → length bytes ≤ place → moved place (quote_place taken (drop place bytes)) ≡ None
quote_over taken place bytes over = ap (λ (x : List ℕ). moved place (quote_place taken x)) (drop_of_length-le bytes over) ∙ ap (moved place) (quote_none taken)

-- at a byte that is taken along
pub quote_at_taken : (taken : Bool) (place : ℕ) (bytes : List ℕ) → place < length bytes → taken ≡ true
    → moved place (quote_place taken (drop place bytes)) ≡ moved (place + 1) (quote_place false (drop (place + 1) bytes))
quote_at_taken taken place bytes more is = grind (arith, drop-cons bytes place 0 more, quote_taken place (get_or bytes place 0) (drop (suc place) bytes))

-- at the closing quote
pub quote_at : (taken : Bool) (place : ℕ) (bytes : List ℕ) → place < length bytes → taken ≡ false → get_or bytes place 0 ≡ 34
    → moved place (quote_place taken (drop place bytes)) ≡ Some place
quote_at taken place bytes more is quote = grind (arith, drop-cons, quote_here)

-- at another byte
pub quote_at_other : (taken : Bool) (place : ℕ) (bytes : List ℕ) → place < length bytes → taken ≡ false → (get_or bytes place 0 ≡ 34 → ⊥)
    → moved place (quote_place taken (drop place bytes)) ≡ moved (place + 1) (quote_place (eqb (get_or bytes place 0) 92) (drop (place + 1) bytes))
quote_at_other taken place bytes more is other = grind (arith, drop-cons, quote_later)

-- a text that doesn't begin with a quote gives no name
pub unnamed : (number : ℕ) (bytes : List ℕ) → eqb (get_or bytes 0 0) 34 ≡ false → renumbered_name number bytes ≡ None
unfolding renumbered_name
unnamed number bytes other = rw other refl

-- no text gives none
pub unnamed_none : (number : ℕ) (bytes : List ℕ) → eqb (length bytes) 0 ≡ true → renumbered_name number bytes ≡ None
unnamed_none number [] none = unnamed number [] refl
unnamed_none number (b ∷ bs) none = let zero_is : length (b ∷ bs) ≡ 0 = eqb-true (length (b ∷ bs)) 0 none in absurd (omega arith)

-- one whose string isn't closed gives none
pub name_open : (number : ℕ) (bytes : List ℕ) → quote_place false (drop 1 bytes) ≡ None → renumbered_name number bytes ≡ None
unfolding renumbered_name
name_open number bytes open_is = grind arith

-- whether a name of so many bytes is one that a `line` may give
abbrev pub may_name : ℕ → List ℕ → Bool
may_name n bytes = leb 1 n && leb n 1024 && is_utf8 (take n (drop 1 bytes)) && is_level (past_blank_bytes (drop (n + 2) bytes))

-- one whose string is closed gives a name or none
pub name_closed : (number n : ℕ) (bytes : List ℕ) → get_or bytes 0 0 ≡ 34 → quote_place false (drop 1 bytes) ≡ Some n
    → renumbered_name number bytes ≡ (if may_name n bytes then Some (record { number = number; name = take n (drop 1 bytes) }) else None)
unfolding renumbered_name
name_closed number n bytes quote place = rw (quote, place) refl

-- it gives none where one of the tests fails
pub name_refused : (number n : ℕ) (bytes : List ℕ) → get_or bytes 0 0 ≡ 34 → quote_place false (drop 1 bytes) ≡ Some n → may_name n bytes ≡ false
    → renumbered_name number bytes ≡ None
name_refused number n bytes quote place refused = name_closed number n bytes quote place ∙ rw refused refl

-- and one where they hold
pub name_accepted : (number n : ℕ) (bytes : List ℕ) → get_or bytes 0 0 ≡ 34 → quote_place false (drop 1 bytes) ≡ Some n → may_name n bytes ≡ true
    → renumbered_name number bytes ≡ Some (record { number = number; name = take n (drop 1 bytes) })
name_accepted number n bytes quote place accepted = name_closed number n bytes quote place ∙ rw accepted refl

-- four tests
pub fails_first : (b c d : Bool) (a : Bool) → a ≡ false → (a && b && c && d) ≡ false
fails_first b c d a e = rw e refl

pub fails_second : (a c d : Bool) (b : Bool) → b ≡ false → (a && b && c && d) ≡ false
fails_second true c d b e = rw e refl
fails_second false c d b e = refl

pub fails_third : (a b d : Bool) (c : Bool) → c ≡ false → (a && b && c && d) ≡ false
fails_third true true d c e = rw e refl
fails_third _ b d c e = refl

pub fails_fourth : (a b c : Bool) (d : Bool) → d ≡ false → (a && b && c && d) ≡ false
fails_fourth true true true d e = e
fails_fourth _ b c d e = refl

pub all_four : (a b c d : Bool) → a ≡ true → b ≡ true → c ≡ true → d ≡ true → (a && b && c && d) ≡ true
all_four a b c d e f g h = rw (e, f, g, h) refl

-- the number of a line that gives none, and what stands after the number
pub line_unnumbered : (rest : List ℕ) → (leb 1 (digits_value (take (prefix_len is_digit (past_blank_bytes rest)) (past_blank_bytes rest)))
    && leb (digits_value (take (prefix_len is_digit (past_blank_bytes rest)) (past_blank_bytes rest))) 2147483647) ≡ false
    → renumbered rest ≡ None
unfolding renumbered
line_unnumbered rest e = rw e refl

pub line_numbered : (rest : List ℕ) (number : ℕ) → number ≡ digits_value (take (prefix_len is_digit (past_blank_bytes rest)) (past_blank_bytes rest)) → 0 < number → number ≤ 2147483647
    → renumbered rest ≡ renumbered_name number (past_blank_bytes (drop (prefix_len is_digit (past_blank_bytes rest)) (past_blank_bytes rest)))
unfolding renumbered
line_numbered rest number is some most = rw (← is, le-leb 1 number (omega arith), le-leb number 2147483647 most) refl

-- the rest of a line as the code takes it
pub line_rest : (bytes : List ℕ) (stop : ℕ) (ended : Option ℕ) → ended ≡ ended_line_len bytes → stop ≡ unwrap_or ended (length bytes) → stop ≡ line_len bytes
line_rest bytes stop ended e is = is ∙ ap (λ o. unwrap_or o (length bytes)) e ∙ line_len-ended bytes

-- what stands between the quotes, as text
pub record IsQuoted (bytes : List ℕ) (n : ℕ) : Type 0 where
  pub quote : get_or bytes 0 0 ≡ 34
  pub place : quote_place false (drop 1 bytes) ≡ Some n
  pub some : n ≢ 0
  pub inside : n ≤ length (drop 1 bytes)
  pub level : is_level (past_blank_bytes (drop (n + 2) bytes)) ≡ true

-- what isn't UTF-8 is no name
pub name_no_text : (number n : ℕ) (bytes : List ℕ) → IsQuoted bytes n → (IsUtf8 (take n (drop 1 bytes)) → ⊥) → renumbered_name number bytes ≡ None
name_no_text number n bytes q other =
    let text = take n (drop 1 bytes) in
    let no : is_utf8 text ≡ false = false_from_ne_true (is_utf8 text) (λ e. other (IsUtf8-from_is_utf8 text e)) in
    name_refused number n bytes q.quote q.place
    (fails_third (leb 1 n) (leb n 1024) (is_level (past_blank_bytes (drop (n + 2) bytes))) (is_utf8 text) no)

-- text of 1 to 1,024 bytes is, and a longer one isn't
pub name_text : {E : Type 0} (n : ℕ) (bytes text : List ℕ) (name : Result (ArrayString 1024) E) → IsQuoted bytes n → text ≡ take n (drop 1 bytes) → IsUtf8 (take n (drop 1 bytes))
    → (IsOk name → length text ≤ 1024) × (length text ≤ 1024 → IsOk name) → IfOk name (λ t. t.bytes ≡ text) → IsShownName (result_ok name) bytes
name_text n bytes text (Ok t) q is utf8 short same = grind (arith, length-take-le, name_accepted, all_four, le-leb, is_utf8-from_IsUtf8)
name_text n bytes text (Err e) q is utf8 short same = λ number.
    let size : length text ≡ n = ap length is ∙ length-take-le n (drop 1 bytes) q.inside in
    let long : leb n 1024 ≡ false = elim (leb_tells n 1024) [ inl h ↦ absurd (let no : false ≡ true = short.1 (let most = h.1 in omega arith) in cc) | inr h ↦ h.0 ] in
    name_refused number n bytes q.quote q.place
    (fails_second (leb 1 n) (is_utf8 (take n (drop 1 bytes))) (is_level (past_blank_bytes (drop (n + 2) bytes))) (leb n 1024) long)
