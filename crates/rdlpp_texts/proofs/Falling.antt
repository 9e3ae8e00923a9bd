-- What a step over open texts leaves: fewer digits, the outermost text, and what it opens or closes.
use Rattle.std.proofs.Common.{◌≡◌, ℕ, ◌+◌, ◌-◌, ◌<◌, ◌≤◌, inl, inr, List, [], ◌∷◌, ◌++◌, map, length, drop, refl, sym, ap, subst, ◌∙◌, append_assoc, arith, rules, length-append, Option, None, Some, unwrap_or, drop-drop, length-take}
use Rattle.std.specs.List.{AllByRecursion}
use Rattle.std.proofs.lemmas.List.{length-map, reverse-append}
use Rattle.std.proofs.lemmas.List.Sums.{get_or-le-sum_by}
use Rattle.rdlpp_scan.specs.Tokens.{token_of}
use Rattle.rdlpp_scan.specs.declared.token.Mode.TheVariants.{Plain}
use Rattle.rdlpp_scan.proofs.TokenLens.{token_of-part}
use Rattle.rdlpp_define.specs.Macros.{Formal, Macro, formal_size, macro_size, formals_of}
use Rattle.rdlpp_define.specs.Table.{table_size, formal_at, macro_at}
use Rattle.rdlpp_define.proofs.Sizes.{default_least}
use Rattle.rdlpp_meaning.specs.Opens.{Open, OpenActual, OpenBody, OpenDefault, OpenKind, Texts, found_standing, open_body, open_bytes, own_text, scope_open, scope_text, text_around}
use Rattle.rdlpp_texts.specs.BoundCalls.{IsBoundCall, range_part}
use Rattle.rdlpp_texts.specs.Calls.{IsCallBound, IsOpening}
use Rattle.rdlpp_texts.specs.Digits.{AreFalling, AreShort, cursor_digits, open_digit}
use Rattle.rdlpp_texts.specs.TextItems.{AreCopied, IsTextItem, IsPeek, IsPeekAhead}
use Rattle.rdlpp_texts.specs.Opened.{CursorsView, StaysOutermost, moved_to, usage_id}
use Rattle.rdlpp_texts.specs.Places.{source_formals, texts_of}
use Rattle.rdlpp_texts.specs.Scopes.{front_scope, front_source}
use Rattle.rdlpp_texts.specs.Steps.{AreInside, IsKnown, IsUnlent}
use Rattle.rdlpp_texts.specs.Turns.{Closes, HasFront, OpensBody, OpensStanding, Stays, Turned, TurnsOver}
use Rattle.rdlpp_texts.specs.Usages.{IsUsed, front_name}
use Rattle.rdlpp_texts.specs.declared.cursors.call.Opening.{Opening}
use Rattle.rdlpp_texts.specs.declared.cursors.call.Opening.TheVariants.{Opened}
use Rattle.rdlpp_texts.specs.declared.peek.TextItem.{TextItem}
use Rattle.rdlpp_texts.specs.declared.peek.TextItem.TheVariants as front
use Rattle.rdlpp_texts.specs.declared.peek.Peek.{Peek}
use Rattle.rdlpp_texts.specs.declared.step.CursorStep.{CursorStep}
use Rattle.rdlpp_texts.specs.declared.step.CursorStep.TheVariants.{Lends}

-- The digits of open texts fall at each step that isn't refused.

-- the digit of the innermost open text comes last
pub digits-inner : (x : Open) (below : List Open) → cursor_digits (x ∷ below) ≡ cursor_digits below ++ open_digit x ∷ []
unfolding cursor_digits
digits-inner x below = reverse-append (open_digit x ∷ []) (map open_digit below)

-- the last digit is gone
last-gone : (ds : List ℕ) (d : ℕ) → 0 < d → AreFalling (ds ++ d ∷ []) ds
unfolding AreFalling
last-gone [] d h = h
last-gone (c ∷ cs) d h = inr (refl, last-gone cs d h)

-- the last digit is smaller, and others may stand after it
pub last-smaller : (ds rest : List ℕ) (d e : ℕ) → e < d → AreFalling (ds ++ d ∷ []) (ds ++ e ∷ rest)
unfolding AreFalling
last-smaller [] rest d e h = inl h
last-smaller (c ∷ cs) rest d e h = inr (refl, last-smaller cs rest d e h)

-- the innermost open text is closed
pub falls-closed : (x : Open) (below : List Open) → AreFalling (cursor_digits (x ∷ below)) (cursor_digits below)
falls-closed x below =
    subst (λ (ds : List ℕ). AreFalling ds (cursor_digits below)) (sym (digits-inner x below)) (last-gone (cursor_digits below) (open_digit x) (omega arith))

-- the innermost open text goes on
pub falls-moved : (x y : Open) (below : List Open) → open_digit y < open_digit x → AreFalling (cursor_digits (x ∷ below)) (cursor_digits (y ∷ below))
falls-moved x y below less = grind (arith, digits-inner, last-smaller)

-- it goes on, and another one is opened
pub falls-opened : (new x y : Open) (below : List Open) → open_digit y < open_digit x → AreFalling (cursor_digits (x ∷ below)) (cursor_digits (new ∷ y ∷ below))
falls-opened new x y below less = grind (arith, digits-inner, append_assoc, last-smaller)

-- fewer bytes are left of a text that goes on
digit-less : (from at end : ℕ) → from < at → at ≤ end → end - at + 1 < end - from + 1
digit-less from at end more inside = omega (arith, more, inside)

-- the innermost open text is closed, by its list
pub falls-drop : (texts : Texts) (opens : List Open) (peek : Peek) → IsPeek texts opens peek → AreFalling (cursor_digits opens) (cursor_digits (drop 1 opens))
unfolding IsPeek
falls-drop texts [] peek l = absurd l
falls-drop texts (x ∷ below) peek l = falls-closed x below

-- so many bytes of an open text end in it
pub run-ends : (texts : Texts) (x : Open) (below : List Open) (n : ℕ) → 0 < n → n ≤ length (open_bytes texts x below) → x.part.from + n ≤ x.part.end
unfolding open_bytes
run-ends texts x below n some inside = grind (arith, length-take)

-- the innermost open text goes on after what is copied, by a look
pub peek-moves : (texts : Texts) (opens : List Open) (peek : Peek) → IsPeekAhead texts opens peek → peek.from < peek.at
    → AreFalling (cursor_digits opens) (cursor_digits (moved_to peek.at opens))
unfolding IsPeekAhead AreCopied moved_to
peek-moves texts [] peek l more = absurd l
peek-moves texts (x ∷ below) peek l more =
    let from = l.1 in
    let ends = run-ends texts x below (peek.at - peek.from) (omega (arith, more)) l.3.0 in
    falls-moved x _ below (digit-less x.part.from peek.at x.part.end (omega (arith, from, more)) (omega (arith, from, more, ends)))

-- it goes on at a place further on in it, and another one is opened
pub peek-opens : (texts : Texts) (opens : List Open) (peek : Peek) (at : ℕ) (new : Open) → IsPeek texts opens peek → peek.at < at → at ≤ peek.end
    → AreFalling (cursor_digits opens) (cursor_digits (new ∷ moved_to at opens))
unfolding IsPeek moved_to
peek-opens texts [] peek at new l more inside = absurd l
peek-opens texts (x ∷ below) peek at new l more inside = grind (arith, falls-opened, digit-less)

-- a token at the front ends in its text, and isn't empty
token-inside : (texts : Texts) (x : Open) (below : List Open) (len : ℕ) → 0 < length (open_bytes texts x below)
    → (token_of Plain (open_bytes texts x below)).len ≡ len → (0 < len) × (x.part.from + len ≤ x.part.end)
unfolding open_bytes
token-inside texts x below len some e = grind (arith, token_of-part, length-take)

-- the name of a formal at the front ends in its text
pub formal-inside : (texts : Texts) (opens : List Open) (peek : Peek) (len place : ℕ) → IsPeek texts opens peek → peek.front ≡ front.Formal len place
    → (peek.at < peek.at + len) × (peek.at + len ≤ peek.end)
unfolding IsPeek IsTextItem
formal-inside texts [] peek len place l e = absurd l
formal-inside texts (x ∷ below) peek len place l e =
    let f = subst (λ (f : TextItem). IsTextItem (source_formals texts (front_source (x ∷ below))) (open_bytes texts x below) f) e l.3 in
    let t = token-inside texts x below len f.0 f.2 in
    let some = t.0 in
    grind arith

-- so does a usage
pub usage-inside : (texts : Texts) (opens : List Open) (peek : Peek) (len : ℕ) → IsPeek texts opens peek → peek.front ≡ front.Usage len
    → (peek.at < peek.at + len) × (peek.at + len ≤ peek.end)
unfolding IsPeek IsTextItem
usage-inside texts [] peek len l e = absurd l
usage-inside texts (x ∷ below) peek len l e =
    let f = subst (λ (f : TextItem). IsTextItem (source_formals texts (front_source (x ∷ below))) (open_bytes texts x below) f) e l.3 in
    let t = token-inside texts x below len f.0 f.2 in
    let some = t.0 in
    grind arith

-- digits that fall and then fall again fall
pub falls-twice : (xs ys zs : List ℕ) → AreFalling xs ys → AreFalling ys zs → AreFalling xs zs
unfolding AreFalling
falls-twice [] ys zs f g = absurd f
falls-twice (d ∷ xs) [] zs f g = absurd g
falls-twice (d ∷ xs) (e ∷ ys) [] (inl f) g = omega (arith, f, g)
falls-twice (d ∷ xs) (e ∷ ys) [] (inr f) g = let same = f.0 in omega (arith, same, g)
falls-twice (d ∷ xs) (e ∷ ys) (k ∷ zs) (inl f) (inl g) = inl (omega (arith, f, g))
falls-twice (d ∷ xs) (e ∷ ys) (k ∷ zs) (inl f) (inr g) = let same = g.0 in inl (omega (arith, f, same))
falls-twice (d ∷ xs) (e ∷ ys) (k ∷ zs) (inr f) (inl g) = let same = f.0 in inl (omega (arith, same, g))
falls-twice (d ∷ xs) (e ∷ ys) (k ∷ zs) (inr f) (inr g) = inr (g.0 ∙ f.0, falls-twice xs ys zs f.1 g.1)

-- The digits of open texts are few, and none is more than the most bytes of a text, and one.

-- a table counts the bytes of each body
body-fits : (macros : List Macro) (id : ℕ) → id < length macros → length (macro_at macros id).body ≤ table_size macros
unfolding table_size macro_size
body-fits macros id h = grind (arith, get_or-le-sum_by)

-- and those of each default text
text-fits : (macros : List Macro) (id place : ℕ) → id < length macros → place < length (formals_of (macro_at macros id))
    → length (formal_at (formals_of (macro_at macros id)) place).text ≤ table_size macros
unfolding table_size macro_size formal_size
text-fits macros id place h k = grind (arith, get_or-le-sum_by, default_least)

-- no text of an open text's own is longer
own-short : (most : ℕ) (texts : Texts) (kind : OpenKind) → AreShort most texts → IsKnown texts.macros kind → length (own_text texts kind) ≤ most
unfolding own_text
own-short most texts (OpenBody id parts) h known = grind (arith, body-fits)
own-short most texts OpenActual h known = omega arith
own-short most texts (OpenDefault id place) h known = grind (arith, text-fits)

-- nor is that of a scope
scope-short : (most : ℕ) (texts : Texts) (opens : List Open) (k : ℕ) → AreShort most texts → AreInside texts opens → length (scope_text texts opens k) ≤ most
unfolding scope_text
scope-short most texts [] k h inside = h.arguments
scope-short most texts (x ∷ below) k h inside = grind (arith, own-short, (scope-short most texts below k h ((inside.1).1).1))

-- nor that in which an open text lies
around-short : (most : ℕ) (texts : Texts) (kind : OpenKind) (parent : ℕ) (below : List Open) → AreShort most texts → IsKnown texts.macros kind → AreInside texts below
    → length (text_around texts kind parent below) ≤ most
unfolding text_around
around-short most texts (OpenBody id parts) parent below h known inside = own-short most texts (OpenBody id parts) h known
around-short most texts OpenActual parent below h known inside = scope-short most texts below parent h inside
around-short most texts (OpenDefault id place) parent below h known inside = own-short most texts (OpenDefault id place) h known

-- what holds of each of some and of one more holds of all
all-more : (P : ℕ → Type 0) (ds : List ℕ) (d : ℕ) → AllByRecursion P ds → P d → AllByRecursion P (ds ++ d ∷ [])
all-more P [] d all one = (one, tt)
all-more P (e ∷ es) d all one = (all.0, all-more P es d all.1 one)

-- there are as many digits as open texts
pub digits-count : (opens : List Open) → length (cursor_digits opens) ≡ length opens
unfolding cursor_digits
digits-count [] = search rules
digits-count (x ∷ below) = grind (arith, digits-inner, length-append, (digits-count below))

-- each is below the places of a digit, where no text has more bytes
pub digits-short : (most places : ℕ) (texts : Texts) (opens : List Open) → AreShort most texts → AreInside texts opens → most + 1 < places
    → AllByRecursion (λ d. d < places) (cursor_digits opens)
unfolding cursor_digits
digits-short most places texts [] h inside room = tt
digits-short most places texts (x ∷ below) h inside room =
    let around = around-short most texts x.kind x.parent below h inside.0 ((inside.1).1).1 in
    let ends = (inside.1).0 in
    grind (arith, digits-inner, all-more, (digits-short most places texts below h ((inside.1).1).1 room))

-- The outermost of open texts stays.

-- where the innermost goes on
pub outer-moved : (at : ℕ) (opens : List Open) → usage_id (moved_to at opens) ≡ usage_id opens
unfolding usage_id moved_to
outer-moved at [] = refl
outer-moved at _ = refl

moved-many : (at : ℕ) (opens : List Open) → length (moved_to at opens) ≡ length opens
unfolding moved_to
moved-many at [] = refl
moved-many at (x ∷ below) = refl

-- where one more is open
outer-more : (x : Open) (opens : List Open) → 0 < length opens → usage_id (x ∷ opens) ≡ usage_id opens
unfolding usage_id
outer-more x [] some = absurd (omega (arith, some))
outer-more x (y ∷ below) some = refl

-- where the innermost is closed
outer-less : (opens : List Open) → StaysOutermost opens (drop 1 opens)
unfolding usage_id
outer-less (x ∷ []) = λ some. absurd (omega (arith, some))
outer-less _ = λ some. refl

pub outer-closed : (view new : CursorsView) → new ≡ record view { opens = drop 1 view.opens } → StaysOutermost view.opens new.opens
outer-closed view new e = subst (λ (v : CursorsView). StaysOutermost view.opens v.opens) (sym e) (outer-less view.opens)

-- one change and then another
pub outer-on : (old mid new : List Open) → 0 < length mid → StaysOutermost old mid → StaysOutermost mid new → StaysOutermost old new
outer-on old mid new some first then_ = λ more. then_ more ∙ first some

-- where nothing changes
pub outer-same : (view new : CursorsView) → new ≡ view → StaysOutermost view.opens new.opens
outer-same view new e = λ some. ap (λ (v : CursorsView). usage_id v.opens) e

-- where the innermost went on and one is opened in front of it
pub outer-opened : (opens new : List Open) (x : Open) (at : ℕ) → 0 < length opens → new ≡ x ∷ moved_to at opens → StaysOutermost opens new
outer-opened opens new x at some e = grind (arith, moved-many, outer-more, outer-moved)

-- where a call is opened or not
pub outer-called : (macros : List Macro) (text : List ℕ) (view new : CursorsView) (end id parent at : ℕ) (o : Opening) → 0 < length view.opens → IsOpening macros text at end id parent view o new → StaysOutermost view.opens new.opens
unfolding IsOpening
outer-called macros text view new end id parent at Opened some b = outer-opened view.opens new.opens _ b.call.following some (ap (λ (v : CursorsView). v.opens) b.opens)
outer-called macros text view new end id parent at _ some b = outer-same view new b.0

-- where a step was taken from a place further on
pub outer-ahead : (opens mid new : List Open) (at : ℕ) → mid ≡ moved_to at opens → StaysOutermost mid new → StaysOutermost opens new
outer-ahead opens mid new at e stays = λ some. stays some ∙ ap usage_id e ∙ outer-moved at opens

-- What a step over open texts opens or closes.

-- what a look finds at the front
peek-front : (texts : Texts) (opens : List Open) (peek : Peek) (f : TextItem) → IsPeek texts opens peek → peek.front ≡ f → HasFront texts opens peek.at f
unfolding IsPeek
peek-front texts [] peek f l e = absurd l
peek-front texts (x ∷ below) peek f l e = (l.1, subst (λ (g : TextItem). IsTextItem (source_formals texts (front_source (x ∷ below))) (open_bytes texts x below) g) e l.3)

-- what a formal stands for is opened
pub turned-formal : (texts : Texts) (opens new : List Open) (peek : Peek) (len place : ℕ) (x : Open) → IsPeek texts opens peek → peek.front ≡ front.Formal len place
    → Some x ≡ found_standing texts.macros (scope_open opens (front_scope opens)) (front_scope opens) place → new ≡ x ∷ moved_to (peek.at + len) opens → Turned texts opens new
turned-formal texts opens new peek len place x l f is e = OpensStanding peek.at len place x (peek-front texts opens peek (front.Formal len place) l f) (sym is) e

-- the body of a macro without a list is opened
pub turned-usage : (macros : List Macro) (arguments : List ℕ) (opens new : List Open) (peek : Peek) (len id following : ℕ) → IsPeek (texts_of macros arguments) opens peek → peek.front ≡ front.Usage len
    → IsUsed (texts_of macros arguments) opens (front_name (texts_of macros arguments) opens len) id → (macro_at macros id).formals ≡ None
    → new ≡ open_body (texts_of macros []) id [] (front_scope opens) ∷ moved_to following opens → Turned (texts_of macros arguments) opens new
unfolding open_body
turned-usage macros arguments opens new peek len id following l f used none e =
    OpensBody peek.at len id following [] (peek-front (texts_of macros arguments) opens peek (front.Usage len) l f) used
    (sym (ap (λ (o : Option (List Formal)). length (unwrap_or o [])) none)) e

-- a call has bound as many ranges as its macro has formals
bound-count : (macros : List Macro) (text : List ℕ) (at end id : ℕ) (b : IsCallBound macros text at end id) → length (map range_part b.ranges) ≡ length (formals_of (macro_at macros id))
unfolding IsBoundCall
bound-count macros text at end id b = length-map b.ranges range_part ∙ b.bound.count

-- the body of a macro with a list is opened, or nothing changes
pub turned-call : (macros : List Macro) (arguments text : List ℕ) (view new : CursorsView) (peek : Peek) (len at end id parent : ℕ) (o : Opening) → IsPeek (texts_of macros arguments) view.opens peek
    → peek.front ≡ front.Usage len → IsUsed (texts_of macros arguments) view.opens (front_name (texts_of macros arguments) view.opens len) id → parent ≡ front_scope view.opens
    → IsOpening macros text at end id parent view o new → Turned (texts_of macros arguments) view.opens new.opens
unfolding IsOpening open_body
turned-call macros arguments text view new peek len at end id parent Opened l f used scope b =
    let parts = map range_part b.call.ranges in
    OpensBody peek.at len id b.call.following parts (peek-front (texts_of macros arguments) view.opens peek (front.Usage len) l f) used
    (bound-count macros text at end id b.call)
    (ap (λ (v : CursorsView). v.opens) b.opens ∙ ap (λ (h : ℕ). open_body (texts_of macros []) id parts h ∷ moved_to b.call.following view.opens) scope)
turned-call macros arguments text view new peek len at end id parent _ l f used scope b = Stays (ap (λ (v : CursorsView). v.opens) b.0)

-- the innermost texts are closed, and then one more
pub closes-more : (old mid new : List Open) → Closes old mid → new ≡ drop 1 mid → Closes old new
closes-more old mid new c e = (c.0 + 1, e ∙ ap (λ (opens : List Open). drop 1 opens) c.1 ∙ drop-drop 1 c.0 old)

-- where no run is lent
pub turned-unlent : (texts : Texts) (opens new : List Open) (step : CursorStep) → IsUnlent step → TurnsOver texts opens step new → Turned texts opens new
turned-unlent texts opens new (Lends place) none t = absurd none
turned-unlent texts opens new _ none t = t
