-- The work left falls, as digits in their places.
use Rattle.std.proofs.Common.{◌≡◌, ℕ, zero, suc, ◌+◌, ◌-◌, ◌*◌, ◌^◌, ◌≤◌, ◌<◌, List, [], ◌∷◌, ◌++◌, length, replicate, sym, ap, ◌∙◌, length-append, arith, lit<, take, drop, map, refl, append_assoc, inl, inr, subst, mul-le-mul_right, pow-suc, length-drop, length-take}
use Rattle.std.specs.List.{AllByRecursion}
use Rattle.std.proofs.lemmas.List.{length-map, length-replicate, length-reverse, reverse-append}
use Rattle.std.proofs.lemmas.Nat.{mul-add-lt}
use Rattle.rdlpp_scan.specs.declared.token.Mode.{Mode}
use Rattle.rdlpp_meaning.specs.Opens.{Open}
use Rattle.rdlpp_texts.specs.Digits.{AreFalling, cursor_digits}
use Rattle.rdlpp_read.specs.Buffer.{BufferView, closed_buffer, entered_mode, held_of, unused_of}
use Rattle.rdlpp_read.specs.Files.{consumed_file, inner_buffer, source_digits, with_buffer, with_inner}
use Rattle.rdlpp_read.specs.declared.files.File.{File}
use Rattle.rdlpp_state.specs.Engine.{EngineView}
use Rattle.rdlpp_state.specs.Pending.{pending_pieces}
use Rattle.rdlpp_state.specs.Remaining.{work_left}
use Rattle.rdlpp_state.specs.Work.{number_of, padded, work_of}

-- Digits that are padded with zeros, and the number that they make.

-- digits that are each below the base
abbrev pub AreDigits : List ℕ → Type 0
AreDigits ds = AllByRecursion (λ d. d < 2 ^ 31) ds

-- their number is within their places
pub number_within : (ds : List ℕ) → AreDigits ds → number_of ds < (2 ^ 31) ^ length ds
unfolding number_of
number_within [] all = omega arith
number_within (d ∷ ds) all =
    let rest = number_within ds all.1 in
    let next : (2 ^ 31) ^ suc (length ds) ≡ (2 ^ 31) ^ length ds * 2 ^ 31 = pow-suc (2 ^ 31) (length ds) in
    rw next (mul-add-lt d ((2 ^ 31) ^ length ds) (number_of ds) (2 ^ 31) all.0 rest)

-- digits before others
pub digits_append : (ds es : List ℕ) → AreDigits ds → AreDigits es → AreDigits (ds ++ es)
digits_append [] es before after = after
digits_append (d ∷ ds) es before after = (before.0, digits_append ds es before.1 after)

-- zeros are digits
pub digits_zeros : (n : ℕ) → AreDigits (replicate n 0)
digits_zeros zero = tt
digits_zeros (suc n) = (omega arith, digits_zeros n)

-- padded digits are digits
pub digits_padded : (n : ℕ) (ds : List ℕ) → AreDigits ds → AreDigits (padded n ds)
unfolding padded
digits_padded n ds all = digits_append ds (replicate (n - length ds) 0) all (digits_zeros (n - length ds))

-- as many as they are padded to
pub padded_size : (n : ℕ) (ds : List ℕ) → length ds ≤ n → length (padded n ds) ≡ n
unfolding padded
padded_size n ds fits = grind (arith, length-append, length-replicate)

-- padded digits with the first one apart
pub padded_first : (n d : ℕ) (ds : List ℕ) → padded (suc n) (d ∷ ds) ≡ d ∷ padded n ds
unfolding padded
padded_first n d ds = grind arith

-- no digits, with the first zero apart
pub padded_none : (n : ℕ) → padded (suc n) [] ≡ 0 ∷ padded n []
unfolding padded
padded_none n = grind arith

-- the digits after one that falls
pub after_within : (n owing : ℕ) (ds : List ℕ) → AreDigits ds → owing < 2 ^ 31 → number_of (padded n ds ++ owing ∷ []) < (2 ^ 31) ^ length (padded n ds ++ owing ∷ [])
after_within n owing ds all few = number_within (padded n ds ++ owing ∷ []) (digits_append (padded n ds) (owing ∷ []) (digits_padded n ds all) (few, tt))

-- as many digits stand after each
pub after_size : (n pending owing : ℕ) (old new : List ℕ) → length old ≤ n → length new ≤ n → length (padded n new ++ owing ∷ []) ≡ length (padded n old ++ pending ∷ [])
after_size n pending owing old new fits room =
    length-append (padded n new) (owing ∷ []) ∙ (ap (λ (k : ℕ). k + 1) (padded_size n new room ∙ sym (padded_size n old fits)) ∙ sym (length-append (padded n old) (pending ∷ [])))

-- The work left falls where fewer bytes aren't used, and where fewer pieces are pending.

-- a power of 2 isn't 0
pub power_some : (n : ℕ) → 0 < (2 ^ 31) ^ n
power_some zero = lit< tt
power_some (suc n) = let less = power_some n in rw pow-suc (omega arith)

-- a number with a smaller digit after the same ones
pub digits_fall : (before : List ℕ) (a b : ℕ) (t u : List ℕ) → length t ≡ length u → a < b → number_of t < (2 ^ 31) ^ length t
    → number_of (before ++ a ∷ t) < number_of (before ++ b ∷ u)
unfolding number_of
digits_fall [] a b t u same less within =
    let some = power_some (length t) in
    let most : (a + 1) * (2 ^ 31) ^ length t ≤ b * (2 ^ 31) ^ length t = mul-le-mul_right ((2 ^ 31) ^ length t) (omega arith) in
    rw (← same) (omega arith)
digits_fall (d ∷ ds) a b t u same less within = grind (arith, length-append, (digits_fall ds a b t u same less within))

-- the digits of the open sources, the innermost of which comes last
inner_digit : {R : Type 0} (f : File R) (outer : List (File R)) → source_digits (f ∷ outer) ≡ source_digits outer ++ (unused_of f.buffer + 1) ∷ []
unfolding source_digits
inner_digit {R} f outer = reverse-append ((unused_of f.buffer + 1) ∷ []) (map (λ (g : File R). unused_of g.buffer + 1) outer)

-- the work left of open sources with the last digit apart
work_by : (includes depth pending d : ℕ) (before cursors : List ℕ) → work_of includes depth (before ++ d ∷ []) cursors pending
    ≡ number_of (before ++ d ∷ (replicate (includes + 1 - length (before ++ d ∷ [])) 0 ++ (padded depth cursors ++ pending ∷ [])))
unfolding work_of padded
work_by includes depth pending d before cursors = grind (arith, append_assoc)

-- the last digit is smaller, whatever texts are open after it
work_less : (includes depth pending owing a b : ℕ) (before old new : List ℕ) → a < b → length old ≤ depth → length new ≤ depth → AreDigits new → owing < 2 ^ 31
    → work_of includes depth (before ++ a ∷ []) new owing < work_of includes depth (before ++ b ∷ []) old pending
work_less includes depth pending owing a b before old new less fits room all few = grind (arith, length-append, after_size, number_within, digits_append, digits_zeros, digits_padded, work_by, digits_fall)

-- fewer bytes of the innermost source aren't used, and those around it stay
pub record IsUsed {R : Type 0} (old new : List (File R)) : Type 0 where
  pub fewer : unused_of (inner_buffer new) < unused_of (inner_buffer old)
  pub outer : drop 1 new ≡ drop 1 old
  pub size : length new ≡ length old

used_falls : {R : Type 0} (includes depth pending owing : ℕ) (cursors others : List ℕ) (old new : List (File R)) → IsUsed old new → length cursors ≤ depth → length others ≤ depth → AreDigits others → owing < 2 ^ 31
    → work_of includes depth (source_digits new) others owing < work_of includes depth (source_digits old) cursors pending
unfolding closed_buffer unused_of
used_falls includes depth pending owing cursors others [] [] used fits room all few = let less = used.fewer in absurd (omega arith)
used_falls includes depth pending owing cursors others [] (g ∷ inner) used fits room all few = let same = used.size in absurd (omega arith)
used_falls includes depth pending owing cursors others (f ∷ outer) [] used fits room all few = let same = used.size in absurd (omega arith)
used_falls includes depth pending owing cursors others (f ∷ outer) (g ∷ inner) used fits room all few = grind (arith, inner_digit, work_less)

-- the work left falls where fewer bytes aren't used, whatever texts are open then
pub work_opens : {S R : Type 0} (old new : EngineView S R) → new.limits ≡ old.limits → IsUsed old.files.include_stack new.files.include_stack
    → length (cursor_digits old.expansion.opens) ≤ old.limits.depth → length (cursor_digits new.expansion.opens) ≤ old.limits.depth → AreDigits (cursor_digits new.expansion.opens)
    → pending_pieces new.pending < 2 ^ 31 → work_left new < work_left old
unfolding work_left
work_opens old new limits used fits room all few = grind (arith, used_falls)

-- no text that is open has a digit
pub idle_digits : (opens : List Open) → opens ≡ [] → cursor_digits opens ≡ []
unfolding cursor_digits
idle_digits opens idle = rw idle refl

-- the work left falls where fewer bytes aren't used, and no text is open
pub work_falls : {S R : Type 0} (old new : EngineView S R) → new.limits ≡ old.limits → IsUsed old.files.include_stack new.files.include_stack → old.expansion.opens ≡ [] → new.expansion.opens ≡ []
    → pending_pieces new.pending < 2 ^ 31 → work_left new < work_left old
work_falls old new limits used before idle few =
    work_opens old new limits used (rw (idle_digits old.expansion.opens before) (omega arith)) (rw (idle_digits new.expansion.opens idle) (omega arith)) (rw (idle_digits new.expansion.opens idle) tt) few

-- the work left falls where fewer pieces are pending
pub pending_falls : {S R : Type 0} (old new : EngineView S R) → new.limits ≡ old.limits → new.files ≡ old.files → new.expansion ≡ old.expansion → pending_pieces new.pending < pending_pieces old.pending
    → work_left new < work_left old
unfolding work_left work_of number_of
pending_falls old new limits files texts less =
    let sources = padded (old.limits.includes + 1) (source_digits old.files.include_stack) in
    let cursors = padded old.limits.depth (cursor_digits old.expansion.opens) in
    let apart : (n : ℕ) → sources ++ (cursors ++ n ∷ []) ≡ (sources ++ cursors) ++ n ∷ [] = λ n. sym (append_assoc sources cursors (n ∷ [])) in
    rw (limits, files, texts, apart (pending_pieces new.pending), apart (pending_pieces old.pending))
    (digits_fall (sources ++ cursors) (pending_pieces new.pending) (pending_pieces old.pending) [] [] refl less (omega arith))

-- no more is held than the places say
pub held_room : {R : Type 0} (b : BufferView R) → length (held_of b) ≤ b.accepted - b.at
unfolding held_of
held_room b = omega (arith, length-drop b.at (take b.accepted b.window), length-take b.accepted b.window)

-- held bytes are used
pub used_bytes : {R : Type 0} (include_stack : List (File R)) (len lines : ℕ) → 0 < len → len ≤ length (held_of (inner_buffer include_stack)) → IsUsed include_stack (with_inner (consumed_file len lines) include_stack)
unfolding unused_of closed_buffer held_of
used_bytes [] len lines some inside = absurd (omega arith)
used_bytes (f ∷ outer) len lines some inside = grind (arith, held_room)

-- held bytes are used, in another buffer of which as many aren't used
pub used_after : {R : Type 0} (include_stack : List (File R)) (b : BufferView R) (len lines : ℕ) → 0 < length include_stack → unused_of b ≡ unused_of (inner_buffer include_stack) → 0 < len → len ≤ length (held_of b)
    → IsUsed include_stack (with_inner (consumed_file len lines) (with_buffer b include_stack))
unfolding unused_of
used_after [] b len lines open_ same some inside = absurd (omega arith)
used_after (f ∷ outer) b len lines open_ same some inside = grind (arith, held_room)

-- as many bytes aren't used in each mode
pub entered_unused : {R : Type 0} (b : BufferView R) (next : Mode) → unused_of (entered_mode b next) ≡ unused_of b
unfolding unused_of entered_mode
entered_unused b next = refl

-- the digits are the same
same_digits : {R : Type 0} (include_stack : List (File R)) (b : BufferView R) → unused_of b ≡ unused_of (inner_buffer include_stack) → source_digits (with_buffer b include_stack) ≡ source_digits include_stack
same_digits [] b same = refl
same_digits {R} (f ∷ outer) b same =
    inner_digit (record f { buffer = b }) outer ∙ (ap (λ (n : ℕ). source_digits outer ++ (n + 1) ∷ []) same ∙ sym (inner_digit f outer))

-- the work left is the same where as many bytes aren't used
pub work_same : {S R : Type 0} (old new : EngineView S R) (b : BufferView R) → new.limits ≡ old.limits → new.pending ≡ old.pending → new.expansion ≡ old.expansion → new.files.include_stack ≡ with_buffer b old.files.include_stack
    → unused_of b ≡ unused_of (inner_buffer old.files.include_stack) → work_left new ≡ work_left old
unfolding work_left
work_same old new b limits pending texts include_stack same = rw (limits, pending, texts, include_stack, same_digits old.files.include_stack b same) refl

-- as many digits as sources
digits-length : {R : Type 0} (include_stack : List (File R)) → length (source_digits include_stack) ≡ length include_stack
unfolding source_digits
digits-length {R} include_stack = grind (arith, length-reverse, length-map)

-- one more place of 0 is among those that are filled up
zero_place : (n : ℕ) (before : List ℕ) → length before < n → padded n (before ++ 0 ∷ []) ≡ padded n before
unfolding padded
zero_place n before room =
    let places : length (before ++ 0 ∷ []) ≡ suc (length before) = length-append before (0 ∷ []) ∙ omega arith in
    let fewer : n - length before ≡ suc (n - length (before ++ 0 ∷ [])) = omega arith in
    append_assoc before (0 ∷ []) (replicate (n - length (before ++ 0 ∷ [])) 0)
    ∙ ap (λ k. before ++ replicate k 0) (sym fewer)

-- the work left falls where the innermost source is left
dropped_falls : {R : Type 0} (includes depth pending owing : ℕ) (include_stack : List (File R)) → 0 < length include_stack → length include_stack ≤ includes + 1 → owing < 2 ^ 31
    → work_of includes depth (source_digits (drop 1 include_stack)) [] owing < work_of includes depth (source_digits include_stack) [] pending
unfolding work_of
dropped_falls includes depth pending owing [] some few least = absurd (omega arith)
dropped_falls includes depth pending owing (f ∷ outer) some few least =
    let before = source_digits outer in
    let size : length before ≡ length outer = digits-length outer in
    let same : padded (includes + 1) (before ++ 0 ∷ []) ≡ padded (includes + 1) before = zero_place (includes + 1) before (omega arith) in
    rw (inner_digit f outer, ← same)
    (work_less includes depth pending owing 0 (unused_of f.buffer + 1) before [] [] (omega arith) (omega arith) (omega arith) tt least)

pub left_falls : {S R : Type 0} (old new : EngineView S R) → new.limits ≡ old.limits → old.expansion.opens ≡ [] → new.expansion.opens ≡ [] → new.files.include_stack ≡ drop 1 old.files.include_stack
    → 0 < length old.files.include_stack → length old.files.include_stack ≤ old.limits.includes + 1 → pending_pieces new.pending < 2 ^ 31 → work_left new < work_left old
unfolding work_left
left_falls old new limits before idle include_stack some few least =
    rw (limits, include_stack, idle_digits old.expansion.opens before, idle_digits new.expansion.opens idle) (dropped_falls old.limits.includes old.limits.depth (pending_pieces old.pending) (pending_pieces new.pending) old.files.include_stack some few least)

-- the work left of two open sources and those around them
work_by_two : (includes depth pending a e : ℕ) (before : List ℕ) → work_of includes depth ((before ++ a ∷ []) ++ e ∷ []) [] pending
    ≡ number_of (before ++ a ∷ e ∷ (replicate (includes + 1 - length ((before ++ a ∷ []) ++ e ∷ [])) 0 ++ (padded depth [] ++ pending ∷ [])))
work_by_two includes depth pending a e before = grind (arith, work_by, append_assoc)

-- the work left falls where bytes of a source are used, and another is opened inside of it
work_inside : (includes depth pending owing a b e : ℕ) (before : List ℕ) → a < b → length before < includes → e < 2 ^ 31 → owing < 2 ^ 31
    → work_of includes depth ((before ++ a ∷ []) ++ e ∷ []) [] owing < work_of includes depth (before ++ b ∷ []) [] pending
work_inside includes depth pending owing a b e before less room small few =
    let n = includes + 1 - length ((before ++ a ∷ []) ++ e ∷ []) in
    let two : length ((before ++ a ∷ []) ++ e ∷ []) ≡ length before + 2 =
    length-append (before ++ a ∷ []) (e ∷ []) ∙ (ap (λ k. k + 1) (length-append before (a ∷ [])) ∙ omega arith) in
    let one : length (before ++ b ∷ []) ≡ length before + 1 = length-append before (b ∷ []) in
    let places : includes + 1 - length (before ++ b ∷ []) ≡ suc n = omega arith in
    let low : ℕ → List ℕ = λ k. replicate n 0 ++ (padded depth [] ++ k ∷ []) in
    let long : length (low owing) ≡ length (low pending) =
    length-append (replicate n 0) (padded depth [] ++ owing ∷ [])
    ∙ (ap (λ k. length {A = ℕ} (replicate n 0) + k) (after_size depth pending owing [] [] (omega arith) (omega arith))
    ∙ sym (length-append (replicate n 0) (padded depth [] ++ pending ∷ []))) in
    let within = number_within (e ∷ low owing)
    (small, digits_append (replicate n 0) (padded depth [] ++ owing ∷ []) (digits_zeros n) (digits_append (padded depth []) (owing ∷ []) (digits_padded depth [] tt) (few, tt))) in
    rw (work_by_two includes depth owing a e before, work_by includes depth pending b before [], places)
    (digits_fall before a b (e ∷ low owing) (0 ∷ low pending) (ap suc long) less within)

-- the digits of open sources, where bytes of the innermost are used and another is opened
pub record IsEntered {R : Type 0} (old new : List (File R)) : Type 0 where
  pub inner : File R
  pub used : List (File R)
  pub becomes : new ≡ inner ∷ used
  pub some : IsUsed old used
  pub small : unused_of inner.buffer + 1 < 2 ^ 31

entered_digits : {R : Type 0} (includes depth pending owing : ℕ) (old used : List (File R)) (inner : File R) → IsUsed old used → length old ≤ includes → unused_of inner.buffer + 1 < 2 ^ 31 → owing < 2 ^ 31
    → work_of includes depth (source_digits (inner ∷ used)) [] owing < work_of includes depth (source_digits old) [] pending
unfolding closed_buffer unused_of
entered_digits includes depth pending owing [] [] inner used room small few = let less = used.fewer in absurd (omega arith)
entered_digits includes depth pending owing [] (g ∷ rest) inner used room small few = let same = used.size in absurd (omega arith)
entered_digits includes depth pending owing (f ∷ outer) [] inner used room small few = let same = used.size in absurd (omega arith)
entered_digits includes depth pending owing (f ∷ outer) (g ∷ rest) inner used room small few = grind (arith, digits-length, inner_digit, work_inside)

pub entered_falls : {S R : Type 0} (old new : EngineView S R) → new.limits ≡ old.limits → old.expansion.opens ≡ [] → new.expansion.opens ≡ [] → IsEntered old.files.include_stack new.files.include_stack → length old.files.include_stack ≤ old.limits.includes
    → pending_pieces new.pending < 2 ^ 31 → work_left new < work_left old
unfolding work_left
entered_falls old new limits before idle entered room few =
    rw (limits, entered.becomes, idle_digits old.expansion.opens before, idle_digits new.expansion.opens idle) (entered_digits old.limits.includes old.limits.depth (pending_pieces old.pending) (pending_pieces new.pending) old.files.include_stack entered.used entered.inner entered.some room entered.small few)

-- The work left falls where the digits of the open texts fall.

-- a digit falls after the same ones, whatever stands after it
one_falls : (head : List ℕ) (n pending owing a b : ℕ) (old new : List ℕ) → length old ≤ n → length new ≤ n → AreDigits new → owing < 2 ^ 31 → a < b
    → number_of (head ++ ((a ∷ padded n new) ++ owing ∷ [])) < number_of (head ++ ((b ∷ padded n old) ++ pending ∷ []))
one_falls head n pending owing a b old new fits room all few less =
    digits_fall head a b (padded n new ++ owing ∷ []) (padded n old ++ pending ∷ []) (after_size n pending owing old new fits room) less (after_within n owing new all few)

-- digits that fall make a smaller number, after any others and before any count of what is pending
pub number_falls : (head : List ℕ) (depth pending owing : ℕ) (old new : List ℕ) → AreFalling old new → length old ≤ depth → length new ≤ depth → AreDigits new → owing < 2 ^ 31
    → number_of (head ++ (padded depth new ++ owing ∷ [])) < number_of (head ++ (padded depth old ++ pending ∷ []))
unfolding AreFalling
number_falls head depth pending owing [] new falls fits room all few = absurd falls
number_falls head zero pending owing (d ∷ old) new falls fits room all few = absurd (omega (arith, fits))
number_falls head (suc n) pending owing (d ∷ old) [] falls fits room all few = grind (arith, padded_none, padded_first, one_falls)
number_falls head (suc n) pending owing (d ∷ old) (e ∷ new) falls fits room all few =
    rw (padded_first n e new, padded_first n d old) (elim falls [
      | inl less ↦ one_falls head n pending owing e d old new (omega (arith, fits)) (omega (arith, room)) all.1 few less
      | inr same ↦ next same.0 (number_falls (head ++ d ∷ []) n pending owing old new same.1 (omega (arith, fits)) (omega (arith, room)) all.1 few)
    ])
  where
    next : e ≡ d → number_of ((head ++ d ∷ []) ++ (padded n new ++ owing ∷ [])) < number_of ((head ++ d ∷ []) ++ (padded n old ++ pending ∷ []))
        → number_of (head ++ ((e ∷ padded n new) ++ owing ∷ [])) < number_of (head ++ ((d ∷ padded n old) ++ pending ∷ []))
    next same less =
        subst (λ (k : ℕ). number_of (head ++ ((k ∷ padded n new) ++ owing ∷ [])) < number_of (head ++ ((d ∷ padded n old) ++ pending ∷ []))) (sym same)
        (subst (λ (ds : List ℕ). number_of ds < number_of (head ++ ((d ∷ padded n old) ++ pending ∷ []))) (append_assoc head (d ∷ []) (padded n new ++ owing ∷ []))
        (subst (λ (ds : List ℕ). number_of ((head ++ d ∷ []) ++ (padded n new ++ owing ∷ [])) < number_of ds) (append_assoc head (d ∷ []) (padded n old ++ pending ∷ [])) less))

-- the work left falls where the digits of the open texts fall
pub cursors_fall : (includes depth pending owing : ℕ) (sources old new : List ℕ) → AreFalling old new → length old ≤ depth → length new ≤ depth → AreDigits new → owing < 2 ^ 31
    → work_of includes depth sources new owing < work_of includes depth sources old pending
unfolding work_of
cursors_fall includes depth pending owing sources old new falls fits room all few = number_falls (padded (includes + 1) sources) depth pending owing old new falls fits room all few
