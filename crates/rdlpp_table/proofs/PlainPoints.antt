-- Stops after plain argument bytes: those from a place on at which no token goes on, and those of the front of a text.
use Rattle.std.proofs.Common.{◌≡◌, ℕ, zero, suc, ◌+◌, ◌-◌, ◌<◌, ◌≤◌, Bool, true, false, List, [], ◌∷◌, ⊎_elim, length, take, drop, refl, ap, sym, ◌∙◌, arith, inl, inr, eqb, not, ◌&&◌, ◌||◌, get_or, subst, Option, Some, None, ◌⊎◌, IfSome, slice_range, leb, ltb, if◌then◌else◌, eqb-true, leb-true, ltb-true, get_or-drop, length-drop, length-take, drop-drop, take_all}
use Rattle.std.specs.List.{prefix_len}
use Rattle.std.proofs.lemmas.Bool.{cases_Bool, false≢true, cond_both, cond-true, cond-false, or_cases, and_parts, cases_lt, not-true}
use Rattle.std.proofs.lemmas.List.{drop-take}
use Rattle.rdlpp_scan.specs.Bytes.{begins_block_comment, begins_line_comment, begins_perl, is_blank, is_digit, is_letter, is_inert, is_word, takes_word}
use Rattle.rdlpp_scan.specs.LexFaults.{is_plain_argument}
use Rattle.rdlpp_scan.specs.declared.token.Kind.{Kind}
use Rattle.rdlpp_scan.specs.declared.token.Kind.TheVariants.{Name}
use Rattle.rdlpp_scan.specs.declared.token.Mode.{Mode}
use Rattle.rdlpp_scan.specs.declared.token.Mode.TheVariants.{Plain}
use Rattle.rdlpp_scan.specs.declared.token.Token.{Token}
use Rattle.rdlpp_scan.specs.Tokens.{plain_token, token_of, tokens_from, whole}
use Rattle.rdlpp_scan.proofs.StopKinds.{both_first, no_plain_argument}
use Rattle.rdlpp_scan.proofs.TokenLens.{token_of-part}
use Rattle.rdlpp_table.specs.declared.point.ExpansionPoint.{ExpansionPoint}
use Rattle.rdlpp_table.specs.declared.point.ExpansionPoint.TheVariants as point
use Rattle.rdlpp_table.specs.PointCache.{before_point, plain_argument_kept, endless, is_cut, kept_from, kept_of, kept_point, placed, point_by, point_end, point_kept, point_known, point_within}
use Rattle.rdlpp_table.specs.declared.point_cache.PackedPoint.{PackedPoint}
use Rattle.rdlpp_table.specs.declared.point_cache.PackedKind.{PackedKind}
use Rattle.rdlpp_table.specs.declared.point_cache.PackedKind.TheVariants as kept
use Rattle.rdlpp_table.specs.ExpansionPoints.{next_expansion_point, is_none, or_point, point_at, point_name, point_of}
use Rattle.rdlpp_define.specs.Macros.{Formal}
use Rattle.rdlpp_define.specs.Table.{formal_named}
use Rattle.rdlpp_table.proofs.FirstPoints.{IsFrom, back_when, begins, begins_end, after_place, when, cut_more, cut_token, front_first, one_token, or_none, or_some, inert_one, run_drop, tokens_within}

-- The first token of a text that begins with a plain argument byte.

-- such a token leaves plain text plain; and one that isn't white space goes no further than the word after its first byte
record IsPlainArgumentToken (b : ℕ) (bs : List ℕ) (t : Token) : Type 0 where
  next : t.next_mode ≡ Plain
  short : is_blank b ≡ false → t.len ≤ 1 + prefix_len is_word bs

word_run : (b : ℕ) (bs : List ℕ) → prefix_len is_word (b ∷ bs) ≤ 1 + prefix_len is_word bs
word_run b bs = grind (arith, cond-true, cond-false, cases_Bool)

plain_argument_token : (b : ℕ) (bs : List ℕ) → is_plain_argument b ≡ true → IsPlainArgumentToken b bs (token_of Plain (b ∷ bs))
unfolding token_of plain_token whole begins_perl begins_line_comment begins_block_comment is_plain_argument
plain_argument_token b bs s =
    let c = get_or (b ∷ bs) 1 0 in
    let P : Token → Type 0 = λ t. IsPlainArgumentToken b bs t in
    let one : (k : Kind) → P (whole k 1) = λ k. record { next = refl; short = λ _. omega arith } in
    let word : (k : Kind) → P (whole k (prefix_len is_word (b ∷ bs))) = λ k. record { next = refl; short = λ _. word_run b bs } in
    grind (arith, cond_both, no_plain_argument, both_first)

-- a blank is inert
blank_inert : (b : ℕ) → is_blank b ≡ true → is_inert b ≡ true
unfolding is_blank is_inert is_letter is_digit takes_word
blank_inert b h = grind (arith, eqb-true, or_cases)

no_blank : (b : ℕ) → is_inert b ≡ false → is_blank b ≡ false
no_blank b q = ⊎_elim (λ h. absurd (false≢true (sym q ∙ blank_inert b h))) (λ h. h) (cases_Bool (is_blank b))

-- an inert byte is none of a word
inert_apart : (b : ℕ) → is_inert b ≡ true → is_word b ≡ false
unfolding is_inert is_word
inert_apart b q = grind (arith, and_parts, not-true)

-- a run ends where a byte isn't of it
run_points : (p : ℕ → Bool) (k : ℕ) (bs : List ℕ) → p (get_or bs k 0) ≡ false → prefix_len p bs ≤ k
run_points p k [] h = omega arith
run_points p zero (b ∷ bs) h = omega (arith, cond-false (p b) (1 + prefix_len p bs) 0 h)
run_points p (suc k) (b ∷ bs) h = grind (arith, cond-true, cond-false, cases_Bool, (run_points p k bs h))

run_one : (p : ℕ → Bool) (n : ℕ) (b : ℕ) (bs : List ℕ) → suc n ≤ prefix_len p (b ∷ bs) → (p b ≡ true) × (n ≤ prefix_len p bs)
run_one p n b bs h = grind (arith, cond-true, cond-false, cases_Bool)

-- where an expansion point that a token is begins
name_begins : (at len : ℕ) (o : Option ℕ) → begins (point_name at len o) ≤ at
unfolding point_name begins
name_begins at len (Some place) = omega arith
name_begins at len None = omega arith

kind_begins : (formals : List Formal) (at len : ℕ) (k : Kind) (mode : Mode) (bytes : List ℕ) → begins (point_at formals at (record { kind = k; next_mode = mode; len = len }) bytes) ≤ at
unfolding point_at begins
kind_begins formals at len Name mode bytes = name_begins at len (formal_named formals bytes)
kind_begins formals at len k mode bytes = omega arith

-- One token.

-- what stands after the first token of a text, if that is none of the expansion points
abbrev following : List Formal → ℕ → List ℕ → ExpansionPoint
following formals at u = let t = token_of Plain u in next_expansion_point formals (at + t.len) (tokens_from Plain 0 (drop t.len u)) (drop t.len u)

abbrev here : List Formal → ℕ → List ℕ → ExpansionPoint
here formals at u = let t = token_of Plain u in point_at formals at t (take t.len u)

text_step : (formals : List Formal) (at : ℕ) (u : List ℕ) → 0 < length u → (token_of Plain u).next_mode ≡ Plain → is_none (here formals at u) ≡ true
    → next_expansion_point formals at (tokens_from Plain 0 u) u ≡ following formals at u
text_step formals at u some next none = grind (arith, one_token, token_of-part, or_none)

-- the first token of a text isn't an expansion point, where the first expansion point is none, or begins after its front
passed_here : (formals : List Formal) (at : ℕ) (u : List ℕ) (s : ExpansionPoint) → 0 < length u → s ≡ next_expansion_point formals at (tokens_from Plain 0 u) u → (is_none s ≡ false → at < begins s) → is_none (here formals at u) ≡ true
passed_here formals at u s some e far = grind (arith, one_token, token_of-part, or_some, begins, kind_begins, cases_Bool)

-- the same of the front of a text, which has that token
cut_step : (formals : List Formal) (at m : ℕ) (u : List ℕ) → 0 < length u → (token_of Plain u).next_mode ≡ Plain → (token_of Plain u).len ≤ m → is_none (here formals at u) ≡ true
    → (let t = token_of Plain u in next_expansion_point formals at (tokens_from Plain 0 (take m u)) (take m u) ≡ next_expansion_point formals (at + t.len) (tokens_from Plain 0 (take (m - t.len) (drop t.len u))) (take (m - t.len) (drop t.len u)))
cut_step formals at m u some next le none =
    let t = token_of Plain u in
    let part = token_of-part Plain u some in
    let xs = take m u in
    let same : token_of Plain xs ≡ t = cut_token m u part.not_empty le part.inside next in
    let long : 0 < length xs = omega (arith, length-take m u, part.not_empty, part.inside) in
    let bytes : take t.len xs ≡ take t.len u = cut_more t.len m u le in
    let front : here formals at xs ≡ here formals at u = ap (λ (w : Token). point_at formals at w (take w.len xs)) same ∙ ap (point_at formals at t) bytes in
    let sum : t.len + (m - t.len) ≡ m = omega (arith, le) in
    let rest : drop t.len xs ≡ take (m - t.len) (drop t.len u) = ap (λ (n : ℕ). drop t.len (take n u)) (sym sum) ∙ drop-take t.len (m - t.len) u in
    grind (arith, text_step)

-- From a place on.

-- whether no token goes on at a place of a text: it is the front, or an inert byte stands before it
abbrev IsCut : List ℕ → ℕ → Type 0
IsCut u n = (n ≡ 0) ⊎ (is_inert (get_or u (n - 1) 0) ≡ true)

-- a cut further on is one of what is left of the text
cut_left : (k n : ℕ) (u : List ℕ) → k < n → IsCut u n → IsCut (drop k u) (n - k)
cut_left k n u lt (inl none) = absurd (omega arith)
cut_left k n u lt (inr q) = grind (arith, get_or-drop)

-- the first token of a text isn't white space and ends before an inert byte further on
token_before : (b n : ℕ) (bs : List ℕ) → is_plain_argument b ≡ true → is_inert b ≡ false → is_inert (get_or (b ∷ bs) n 0) ≡ true → (token_of Plain (b ∷ bs)).len ≤ n
token_before b zero bs plain_argument dark q = absurd (false≢true (sym dark ∙ q))
token_before b (suc n) bs plain_argument dark q =
    omega (arith, (plain_argument_token b bs plain_argument).short (no_blank b dark), run_points is_word n bs (inert_apart (get_or bs n 0) q))

-- a first expansion point that is none, or begins no nearer than a cut among the plain argument bytes, is the first one from there on
point_from : (fuel : ℕ) (formals : List Formal) (at n : ℕ) (u : List ℕ) (s : ExpansionPoint) → length u ≤ fuel → n ≤ prefix_len is_plain_argument u → IsCut u n → s ≡ next_expansion_point formals at (tokens_from Plain 0 u) u → (is_none s ≡ false → at + n ≤ begins s)
    → s ≡ next_expansion_point formals (at + n) (tokens_from Plain 0 (drop n u)) (drop n u)
point_from fuel formals at zero u s room run cut e far = e ∙ ap (λ (m : ℕ). next_expansion_point formals m (tokens_from Plain 0 u) u) (omega arith)
point_from fuel formals at (suc n) [] s room run cut e far = absurd (omega arith)
point_from zero formals at (suc n) (b ∷ bs) s room run cut e far = absurd (omega arith)
point_from (suc fuel) formals at (suc n) (b ∷ bs) s room run cut e far =
    let u = b ∷ bs in
    let t = token_of Plain u in
    let one = run_one is_plain_argument n b bs run in
    let plain_argument = plain_argument_token b bs one.0 in
    let some : 0 < length u = omega arith in
    ⊎_elim
    (λ q.
    let next : IsCut bs n = cut_left_one n cut in
    point_from fuel formals (at + 1) n bs s (omega arith) one.1 next (e ∙ inert_one formals at b bs q) (λ h. omega (arith, far h))
    ∙ ap (λ (m : ℕ). next_expansion_point formals m (tokens_from Plain 0 (drop n bs)) (drop n bs)) (omega arith))
    (λ dark.
    let before : t.len ≤ n = token_before b n bs one.0 dark (inert_there cut) in
    let none = passed_here formals at u s some e (λ h. omega (arith, far h)) in
    let not_empty : 0 < t.len = (token_of-part Plain u some).not_empty in
    let left : suc n - t.len ≤ prefix_len is_plain_argument (drop t.len u) = run_drop is_plain_argument t.len (suc n - t.len) u (omega arith) in
    let sum : t.len + (suc n - t.len) ≡ suc n = omega arith in
    let place : at + t.len + (suc n - t.len) ≡ at + suc n = omega arith in
    point_from fuel formals (at + t.len) (suc n - t.len) (drop t.len u) s (omega (arith, length-drop t.len u)) left (cut_left t.len (suc n) u (omega arith) cut) (e ∙ text_step formals at u some plain_argument.next none) (λ h. omega (arith, far h))
    ∙ (ap (λ (l : List ℕ). next_expansion_point formals (at + t.len + (suc n - t.len)) (tokens_from Plain 0 l) l) (drop-drop (suc n - t.len) t.len u ∙ ap (λ (m : ℕ). drop m u) sum)
    ∙ ap (λ (m : ℕ). next_expansion_point formals m (tokens_from Plain 0 (drop (suc n) u)) (drop (suc n) u)) place))
    (cases_Bool (is_inert b))
  where
    inert_there : IsCut (b ∷ bs) (suc n) → is_inert (get_or (b ∷ bs) n 0) ≡ true
    inert_there (inl none) = absurd (omega (arith, none))
    inert_there (inr q) = let there : n ≡ suc n - 1 = omega arith in ap (λ (m : ℕ). is_inert (get_or (b ∷ bs) m 0)) there ∙ q

    cut_left_one : (k : ℕ) → IsCut (b ∷ bs) (suc k) → IsCut bs k
    cut_left_one zero c = inl refl
    cut_left_one (suc k) (inl none) = absurd (omega (arith, none))
    cut_left_one (suc k) (inr q) =
        let less : suc k - 1 ≡ k = omega arith in
        let there : suc k ≡ suc (suc k) - 1 = omega arith in
        inr (ap (λ (m : ℕ). is_inert (get_or bs m 0)) less ∙ (ap (λ (m : ℕ). is_inert (get_or (b ∷ bs) m 0)) there ∙ q))

-- The front of a text.

-- a front of plain argument bytes has no expansion point, where the first expansion point of the text begins no nearer than at its end, and
-- no word goes on there
point_after : (fuel : ℕ) (formals : List Formal) (at m : ℕ) (u : List ℕ) (s : ExpansionPoint) → length u ≤ fuel → m ≤ prefix_len is_plain_argument u → is_word (get_or u m 0) ≡ false → s ≡ next_expansion_point formals at (tokens_from Plain 0 u) u → (is_none s ≡ false → at + m ≤ begins s)
    → next_expansion_point formals at (tokens_from Plain 0 (take m u)) (take m u) ≡ point.None
unfolding next_expansion_point tokens_from
point_after fuel formals at zero u s room run ends e far = refl
point_after fuel formals at (suc m) [] s room run ends e far = absurd (omega arith)
point_after zero formals at (suc m) (b ∷ bs) s room run ends e far = absurd (omega arith)
point_after (suc fuel) formals at (suc m) (b ∷ bs) s room run ends e far =
    let u = b ∷ bs in
    let t = token_of Plain u in
    let one = run_one is_plain_argument m b bs run in
    let plain_argument = plain_argument_token b bs one.0 in
    let some : 0 < length u = omega arith in
    ⊎_elim
    (λ q. inert_one formals at b (take m bs) q ∙ point_after fuel formals (at + 1) m bs s (omega arith) one.1 ends (e ∙ inert_one formals at b bs q) (λ h. omega (arith, far h)))
    (λ dark.
    let inside : t.len ≤ suc m = omega (arith, plain_argument.short (no_blank b dark), run_points is_word m bs ends) in
    let none = passed_here formals at u s some e (λ h. omega (arith, far h)) in
    let not_empty : 0 < t.len = (token_of-part Plain u some).not_empty in
    let left : suc m - t.len ≤ prefix_len is_plain_argument (drop t.len u) = run_drop is_plain_argument t.len (suc m - t.len) u (omega arith) in
    let sum : t.len + (suc m - t.len) ≡ suc m = omega arith in
    let still : is_word (get_or (drop t.len u) (suc m - t.len) 0) ≡ false = ap is_word (get_or-drop t.len u (suc m - t.len) 0 ∙ ap (λ (k : ℕ). get_or u k 0) sum) ∙ ends in
    cut_step formals at (suc m) u some plain_argument.next inside none
    ∙ point_after fuel formals (at + t.len) (suc m - t.len) (drop t.len u) s (omega (arith, length-drop t.len u)) left still (e ∙ text_step formals at u some plain_argument.next none) (λ h. omega (arith, far h)))
    (cases_Bool (is_inert b))

-- an expansion point after plain argument bytes alone is the first one of each front of the text that has it
point_inside : (fuel : ℕ) (formals : List Formal) (at m : ℕ) (u : List ℕ) (s : ExpansionPoint) → length u ≤ fuel → s ≡ next_expansion_point formals at (tokens_from Plain 0 u) u → is_none s ≡ false → begins s ≤ at + prefix_len is_plain_argument u → begins s ≤ point_end s → point_end s ≤ at + m
    → next_expansion_point formals at (tokens_from Plain 0 (take m u)) (take m u) ≡ s
unfolding next_expansion_point tokens_from is_none IsFrom point_of
point_inside fuel formals at m [] s room e found run order inside = absurd (false≢true (sym found ∙ ap is_none e))
point_inside zero formals at m (b ∷ bs) s room e found run order inside = absurd (omega arith)
point_inside (suc fuel) formals at m (b ∷ bs) s room e found run order inside =
    let u = b ∷ bs in
    let t = token_of Plain u in
    let some : 0 < length u = omega arith in
    let part = token_of-part Plain u some in
    let later : ExpansionPoint = next_expansion_point formals (at + t.len) (tokens_from t.next_mode 0 (drop t.len u)) (drop t.len u) in
    let step : s ≡ or_point (here formals at u) later = e ∙ one_token formals at Plain u some part.not_empty in
    ⊎_elim
    (λ none.
    let is : s ≡ later = step ∙ or_none (here formals at u) later none in
    let far : at + t.len ≤ begins s = omega (arith, tokens_within formals (at + t.len) (tokens_from t.next_mode 0 (drop t.len u)) (drop t.len u) (ap is_none (sym is) ∙ found), ap begins is) in
    let one = run_one is_plain_argument 0 b bs (omega (arith, far, run, part.not_empty)) in
    let plain_argument = plain_argument_token b bs one.0 in
    let left : begins s - (at + t.len) ≤ prefix_len is_plain_argument (drop t.len u) = run_drop is_plain_argument t.len (begins s - (at + t.len)) u (omega (arith, far, run)) in
    cut_step formals at m u some plain_argument.next (omega (arith, far, order, inside)) none
    ∙ point_inside fuel formals (at + t.len) (m - t.len) (drop t.len u) s (omega (arith, length-drop t.len u, part.not_empty)) (e ∙ text_step formals at u some plain_argument.next none) found (omega (arith, far, left)) order (omega (arith, far, order, inside)))
    (λ h.
    let is : s ≡ here formals at u = step ∙ or_some (here formals at u) later h in
    front_first formals at m u some h (omega (arith, ap point_end is, inside)) ∙ sym is)
    (cases_Bool (is_none (here formals at u)))

-- What an expansion point that is kept tells.

run_front : (p : ℕ → Bool) (k : ℕ) (xs : List ℕ) → prefix_len p (take k xs) ≤ prefix_len p xs
run_front p zero xs = omega arith
run_front p (suc k) [] = omega arith
run_front p (suc k) (x ∷ xs) = grind (arith, cond-true, cond-false, cases_Bool, (run_front p k xs))

run_most : (p : ℕ → Bool) (xs : List ℕ) → prefix_len p xs ≤ length xs
run_most p [] = omega arith
run_most p (x ∷ xs) = grind (arith, cond-true, cond-false, cases_Bool, (run_most p xs))

-- the plain argument bytes that are kept with the first expansion point of a text are plain argument bytes of it
plain_argument_few : (s : ExpansionPoint) (from : ℕ) (text : List ℕ) → plain_argument_kept (before_point s from text) ≤ prefix_len is_plain_argument text
unfolding plain_argument_kept before_point
plain_argument_few point.None from text = run_front is_plain_argument 255 text
plain_argument_few (point.Formal at len place) from text = omega (arith, run_front is_plain_argument 255 (take (at - from) text), run_front is_plain_argument (at - from) text)
plain_argument_few (point.Usage at len) from text = omega (arith, run_front is_plain_argument 255 (take (at - from) text), run_front is_plain_argument (at - from) text)
plain_argument_few (point.Bare at) from text = omega (arith, run_front is_plain_argument 255 (take (at - from) text), run_front is_plain_argument (at - from) text)

-- and stand before it
plain_argument_front : (at from : ℕ) (text : List ℕ) → from ≤ at → from + prefix_len is_plain_argument (take 255 (take (at - from) text)) ≤ at
plain_argument_front at from text h = omega (arith, run_front is_plain_argument 255 (take (at - from) text), run_most is_plain_argument (take (at - from) text), length-take (at - from) text)

plain_argument_before : (s : ExpansionPoint) (from : ℕ) (text : List ℕ) → is_none s ≡ false → from ≤ begins s → from + plain_argument_kept (before_point s from text) ≤ begins s
unfolding plain_argument_kept before_point begins is_none
plain_argument_before point.None from text h low = absurd (cc)
plain_argument_before (point.Formal at len place) from text h low = plain_argument_front at from text low
plain_argument_before (point.Usage at len) from text h low = plain_argument_front at from text low
plain_argument_before (point.Bare at) from text h low = plain_argument_front at from text low

-- what is kept of the first expansion point of a text from a place on
record IsKeptPoint (s : ExpansionPoint) (start : ℕ) (rest : List ℕ) (k : PackedPoint) : Type 0 where
  back : IfSome (point_kept k) (λ x. x ≡ s)
  few : k.plain_argument ≤ prefix_len is_plain_argument rest
  before : is_none s ≡ false → start + k.plain_argument ≤ begins s
  place : is_none s ≡ false → (k.end - k.len ≡ begins s) ⊎ (k.plain_argument ≡ 0)
  some : 0 < k.len → (is_none s ≡ false) × ((begins s ≡ k.end - k.len) × (point_end s ≡ k.end))

none_kept : (s : ExpansionPoint) (start : ℕ) (rest : List ℕ) → (is_none s ≡ false → start ≤ begins s) → IsKeptPoint s start rest (endless 1 0)
unfolding point_kept point_by endless
none_kept s start rest low = record { back = tt; few = omega arith; before = λ h. omega (arith, low h); place = λ _. inr refl; some = λ h. absurd (omega (arith, h)) }

when_kept : (b : Bool) (kind : PackedKind) (at len place plain_argument : ℕ) (s : ExpansionPoint) (start : ℕ) (rest : List ℕ) → point_by kind at len place ≡ Some s → is_none s ≡ false → begins s ≡ at → point_end s ≡ at + len → plain_argument ≤ prefix_len is_plain_argument rest → start + plain_argument ≤ at → IsKeptPoint s start rest (when b kind at len place plain_argument)
when_kept true kind at len place plain_argument s start rest e found there ends few before =
    let back : at + len - len ≡ at = omega arith in
    record {
      back = back_when true kind at len place plain_argument s e;
      few = few;
      before = λ _. omega (arith, there, before);
      place = λ _. inl (back ∙ sym there);
      some = λ _. (found, (there ∙ sym back, ends));
    }
when_kept false kind at len place plain_argument s start rest e found there ends few before = none_kept s start rest (λ _. omega (arith, there, before))

of_kept : (s : ExpansionPoint) (plain_argument start : ℕ) (rest : List ℕ) → plain_argument ≤ prefix_len is_plain_argument rest → (is_none s ≡ false → start + plain_argument ≤ begins s) → IsKeptPoint s start rest (kept_of s plain_argument)
unfolding kept_of placed endless point_kept point_by is_none begins point_end
of_kept point.None plain_argument start rest few before = record { back = refl; few = few; before = λ h. absurd (cc); place = λ h. absurd (cc); some = λ h. absurd (omega (arith, h)) }
of_kept (point.Formal at len place) plain_argument start rest few before = when_kept _ kept.Formal at len place plain_argument _ start rest refl refl refl refl few (before refl)
of_kept (point.Usage at len) plain_argument start rest few before = when_kept _ kept.Back at len 0 plain_argument _ start rest refl refl refl refl few (before refl)
of_kept (point.Bare at) plain_argument start rest few before = when_kept _ kept.Back at 1 1 plain_argument _ start rest refl refl refl refl few (before refl)

-- a cut of a text, counted from the place from which on it is read
cut_place : (text : List ℕ) (start from : ℕ) → start ≤ from → is_cut text start from ≡ true → IsCut (drop start text) (from - start)
unfolding is_cut
cut_place text start from low h = grind (arith, cases_lt, eqb-true, get_or-drop, or_cases)

-- a place at which an expansion point is kept is a cut among the plain argument bytes, however many these are
cut_near : (text : List ℕ) (start from plain_argument : ℕ) → (eqb from start || (leb from (start + plain_argument) && is_cut text start from)) ≡ true → (from ≤ start + plain_argument) × (is_cut text start from ≡ true)
unfolding is_cut
cut_near text start from plain_argument h = grind (arith, eqb-true, and_parts, leb-true, or_cases)

-- the first expansion point of a text from a place on is that from a cut among the plain argument bytes on
point_further : (formals : List Formal) (text : List ℕ) (start from : ℕ) (s : ExpansionPoint) (k : PackedPoint) → IsKeptPoint s start (drop start text) k → s ≡ point_of formals start (drop start text) → start ≤ from → from ≤ start + k.plain_argument → is_cut text start from ≡ true → s ≡ next_expansion_point formals from (tokens_from Plain 0 (drop from text)) (drop from text)
unfolding point_of
point_further formals text start from s k is e low near cut =
    let n = from - start in
    let there : start + n ≡ from = omega (arith, low) in
    point_from (length (drop start text)) formals start n (drop start text) s (omega arith) (omega (arith, near, is.few)) (cut_place text start from low cut) e (λ h. omega (arith, near, low, is.before h))
    ∙ (ap (λ (l : List ℕ). next_expansion_point formals (start + n) (tokens_from Plain 0 l) l) (drop-drop n start text)
    ∙ ap (λ (m : ℕ). next_expansion_point formals m (tokens_from Plain 0 (drop m text)) (drop m text)) there)

-- plain argument bytes after a place further on
run_further : (text : List ℕ) (start from m : ℕ) → start ≤ from → from - start + m ≤ prefix_len is_plain_argument (drop start text) → m ≤ prefix_len is_plain_argument (drop from text)
run_further text start from m low h =
    let there : start + (from - start) ≡ from = omega (arith, low) in
    subst (λ (l : List ℕ). m ≤ prefix_len is_plain_argument l) (drop-drop (from - start) start text ∙ ap (λ (n : ℕ). drop n text) there) (run_drop is_plain_argument (from - start) m (drop start text) h)

-- an expansion point that is kept tells the first one of a range
known_range : (formals : List Formal) (text : List ℕ) (start from to : ℕ) (s : ExpansionPoint) (k : PackedPoint) → IsKeptPoint s start (drop start text) k → s ≡ point_of formals start (drop start text) → start ≤ from → from ≤ to → to ≤ length text → IfSome (point_known text start k from to) (λ x. x ≡ point_of formals from (slice_range text from to))
unfolding point_known point_within point_of
known_range formals text start from to s k is e low order high =
    let u = drop from text in
    let m = to - from in
    let S : ExpansionPoint = point_of formals from (slice_range text from to) in
    let P : Option ExpansionPoint → Type 0 = λ r. IfSome r (λ x. x ≡ S) in
    cond_both (eqb from start || (leb from (start + k.plain_argument) && is_cut text start from)) _ None P
    (λ h.
    let two = cut_near text start from k.plain_argument h in
    let near : from ≤ start + k.plain_argument = two.0 in
    let further : s ≡ next_expansion_point formals from (tokens_from Plain 0 u) u = point_further formals text start from s k is e low near two.1 in
    cond_both (eqb to (length text) || (ltb 0 k.len && (leb k.end to && leb (k.end - k.len) (start + k.plain_argument)))) (point_kept k) _ P
    (λ g. subst (λ (x : ExpansionPoint). IfSome (point_kept k) (λ y. y ≡ x)) (⊎_elim
    (λ w. further ∙ ap (point_of formals from) (sym (after_place from text) ∙ ap (λ (n : ℕ). slice_range text from n) (sym (eqb-true to (length text) w))))
    (λ w.
    let a = and_parts (ltb 0 k.len) _ w in
    let b = and_parts (leb k.end to) (leb (k.end - k.len) (start + k.plain_argument)) a.1 in
    let some = is.some (ltb-true 0 k.len a.0) in
    let ends : k.end ≤ to = leb-true _ _ b.0 in
    let reached : k.end - k.len ≤ start + k.plain_argument = leb-true _ _ b.1 in
    let after : from ≤ begins s = omega (arith, near, is.before some.0) in
    let run : begins s - from ≤ prefix_len is_plain_argument u = run_further text start from (begins s - from) low (omega (arith, after, low, some.1.0, reached, is.few)) in
    sym (point_inside (length u) formals from m u s (omega arith) further some.0 (omega (arith, after, run)) (begins_end s some.0) (omega (arith, order, some.1.1, ends))))
    (or_cases _ _ g)) is.back)
    (λ _.
    cond_both (leb to (k.end - k.len) && (leb to (start + k.plain_argument) && not (is_word (get_or text to 0)))) (Some point.None) None P
    (λ g.
    let a = and_parts (leb to (k.end - k.len)) _ g in
    let b = and_parts (leb to (start + k.plain_argument)) (not (is_word (get_or text to 0))) a.1 in
    let before : to ≤ k.end - k.len = leb-true _ _ a.0 in
    let reached : to ≤ start + k.plain_argument = leb-true _ _ b.0 in
    let sum : from + m ≡ to = omega (arith, order) in
    let ends : is_word (get_or u m 0) ≡ false = ap is_word (get_or-drop from text m 0 ∙ ap (λ (n : ℕ). get_or text n 0) sum) ∙ not-true (is_word (get_or text to 0)) b.1 in
    let run : m ≤ prefix_len is_plain_argument u = run_further text start from m low (omega (arith, order, low, reached, is.few)) in
    let far : is_none s ≡ false → from + m ≤ begins s = λ h. ⊎_elim (λ p. omega (arith, order, before, p)) (λ z. omega (arith, order, reached, z, is.before h)) (is.place h) in
    sym (point_after (length u) formals from m u s (omega arith) run ends further far))
    (λ _. tt)))
    (λ _. tt)

when_range : (b : Bool) (formals : List Formal) (text : List ℕ) (start from to : ℕ) → start ≤ from → from ≤ to → to ≤ length text → (let s = point_of formals start (drop start text) in IfSome (point_known text start (if b then kept_point s start (drop start text) else endless 1 0) from to) (λ x. x ≡ point_of formals from (slice_range text from to)))
unfolding kept_point point_of IsFrom
when_range true formals text start from to low order high =
    let rest = drop start text in
    let s = point_of formals start rest in
    let at : is_none s ≡ false → start ≤ begins s = tokens_within formals start (tokens_from Plain 0 rest) rest in
    known_range formals text start from to s (kept_of s (plain_argument_kept (before_point s start rest)))
    (of_kept s (plain_argument_kept (before_point s start rest)) start rest (plain_argument_few s start rest) (λ h. plain_argument_before s start rest h (at h))) refl low order high
when_range false formals text start from to low order high =
    let rest = drop start text in
    let s = point_of formals start rest in
    known_range formals text start from to s (endless 1 0) (none_kept s start rest (tokens_within formals start (tokens_from Plain 0 rest) rest)) refl low order high

pub range_told : (formals : List Formal) (text : List ℕ) (start from to : ℕ) (k : PackedPoint) (r : Option ExpansionPoint) → k ≡ kept_from formals text start → (start ≤ from) × (from ≤ to) → to ≤ length text → r ≡ point_known text start k from to → IfSome r (λ x. x ≡ point_of formals from (slice_range text from to))
unfolding kept_from
range_told formals text start from to k r e order high q = grind (arith, when_range)

-- the first bytes of a text, of which so many are looked at as there are
pub near_bytes : (n : ℕ) (xs : List ℕ) → n ≤ 255 → (n < 255 → n ≡ length xs) → take n xs ≡ take 255 xs
near_bytes n xs le short =
    elim (cases_lt n 255) as (λ _. take n xs ≡ take 255 xs) [
      | inl less ↦ take_all n xs (omega (arith, short less)) ∙ sym (take_all 255 xs (omega (arith, short less, le)))
      | inr past ↦ let whole : n ≡ 255 = omega (arith, le, past) in ap (λ (m : ℕ). take m xs) whole
    ]
