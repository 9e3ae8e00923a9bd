-- The scopes of open texts, and what the names of formals stand for in them.
use Rattle.std.proofs.Common.{◌≡◌, ℕ, suc, ◌≤◌, Bool, true, false, List, ◌∷◌, length, refl, ap, arith, eq-eqb, zero, ◌+◌, ◌-◌, ◌<◌, cond, not, ◌&&◌, [], take, drop, sym, ◌∙◌, Option, None, Some, true≢false, map, subst, option_map, bytes_eq, if◌then◌else◌, nat_lt, slice_index_or, slice_range, ◌==◌, eqb-true, le-ltb, lt-ltb, ltb-false, ltb-true, drop-drop, length-drop, length-take}
use Rattle.std.specs.List.{AllByRecursion, prefix_len}
use Rattle.std.proofs.Math.Seq.{take-length}
use Rattle.std.proofs.lemmas.Grind.{common_steps}
use Rattle.std.proofs.lemmas.List.{drop-take, get_or-map, length-map}
use Rattle.rdlpp_scan.specs.SourceTokens.{Ordinary, SourceToken}
use Rattle.rdlpp_scan.specs.Tokens.{token_of}
use Rattle.rdlpp_scan.specs.declared.token.Kind.{Kind}
use Rattle.rdlpp_scan.specs.declared.token.Kind.TheVariants.{Name}
use Rattle.rdlpp_scan.specs.declared.token.Mode.{Mode}
use Rattle.rdlpp_scan.specs.declared.token.Mode.TheVariants.{Plain}
use Rattle.rdlpp_define.specs.Macros.{Formal, Macro, formals_of}
use Rattle.rdlpp_define.specs.Table.{formal_named, macro_at}
use Rattle.rdlpp_meaning.specs.Items.{Arg, Item, Written, packed}
use Rattle.rdlpp_meaning.specs.OpenItems.{item_at, open_items, open_hide_set, own_item, part_items}
use Rattle.rdlpp_meaning.specs.Opens.{AreOpen, HasParts, Open, OpenActual, OpenBody, OpenDefault, OpenKind, Part, Texts, formal_at, found_formals, found_standing, kind_formals, kind_standing, open_after, open_bytes, open_scope, open_standing, own_text, own_hide_set, part_at, part_tokens, scope_formals, scope_open, scope_text, text_around, hide_set}
use Rattle.rdlpp_meaning.specs.Substitution.{Defaulted, Given, Standing, body_tokens, bound_to, mark_of, mark_or, marked, standing_of}
use Rattle.rdlpp_meaning.specs.TextTokens.{text_tokens}
use Rattle.rdlpp_meaning.proofs.KeptTexts.{body_text, text_nil, text_step}

-- The scopes of open texts: their items and macros, what a name of a scope stands for, and the front of the innermost text.

-- a test of two numbers that aren't equal fails
unequal : (a b : ℕ) (x : Bool) → (a == b) ≡ x → (a ≡ b → ⊥) → x ≡ false
unequal a b true e h = absurd (h (eqb-true a b e))
unequal a b false e h = refl

-- a scope further out isn't the next one
pub not_next : (k n : ℕ) → k ≤ n → (k == suc n) ≡ false
not_next k n h = unequal k (suc n) (k == suc n) refl (λ e. omega arith)

-- the next one is
pub next_is : (n : ℕ) → (n == n) ≡ true
next_is n = eq-eqb n n refl

-- one more open text changes nothing of the items of the scopes around it
pub item-around : (texts : Texts) (x : Open) (below : List Open) (k : ℕ) → k ≤ length below → item_at texts (x ∷ below) k ≡ item_at texts below k
unfolding item_at
item-around texts x below k h = grind (arith, not_next)

-- nor of the macros in whose text they are
pub hidden-around : (texts : Texts) (x : Open) (below : List Open) (k : ℕ) → k ≤ length below → hide_set texts (x ∷ below) k ≡ hide_set texts below k
unfolding hide_set
hidden-around texts x below k h = rw (not_next k (length below) h) refl

-- the items of its own scope
pub item-own : (texts : Texts) (x : Open) (below : List Open)
    → item_at texts (x ∷ below) (suc (length below))
    ≡ own_item texts x.kind (scope_text texts below x.parent) (item_at texts below x.parent) (hide_set texts below x.parent)
unfolding item_at
item-own texts x below = grind (arith, next_is)

-- and its macros
pub hidden-own : (texts : Texts) (x : Open) (below : List Open)
    → hide_set texts (x ∷ below) (suc (length below)) ≡ own_hide_set texts x.kind (hide_set texts below x.parent)
unfolding hide_set
hidden-own texts x below = rw (next_is (suc (length below))) refl

-- the first place
first-place : (k n : ℕ) → k ≡ 0 → cond (nat_lt k (suc n)) (Some k) None ≡ Some 0
first-place k n e = rw (e, lt-ltb 0 (suc n) (omega arith)) refl

-- a place after another, by whether there is one
next-by : (k n : ℕ) (found : Bool) → nat_lt k n ≡ found
    → cond (nat_lt (suc k) (suc n)) (Some (suc k)) None ≡ option_map (λ (i : ℕ). suc i) (cond found (Some k) None)
next-by k n true e = let h = ltb-true k n e in rw (lt-ltb (suc k) (suc n) (omega (arith, h))) refl
next-by k n false e = let h = ltb-false k n e in rw (le-ltb (suc k) (suc n) (omega (arith, h))) refl

-- a place after another
next-place : (k after n : ℕ) → after ≡ suc k
    → cond (nat_lt after (suc n)) (Some after) None ≡ option_map (λ (i : ℕ). suc i) (cond (nat_lt k n) (Some k) None)
next-place k after n e = rw e (next-by k n (nat_lt k n) refl)

-- how many formals come before a name that the first one has
none-before : (f : Formal) (fs : List Formal) (name : List ℕ) → bytes_eq f.name name ≡ true
    → prefix_len (λ (g : Formal). not (bytes_eq g.name name)) (f ∷ fs) ≡ 0
none-before f fs name e = rw e refl

-- how many come before one that it hasn't
more-before : (f : Formal) (fs : List Formal) (name : List ℕ) → bytes_eq f.name name ≡ false
    → prefix_len (λ (g : Formal). not (bytes_eq g.name name)) (f ∷ fs)
    ≡ suc (prefix_len (λ (g : Formal). not (bytes_eq g.name name)) fs)
more-before f fs name e = grind arith

-- the place of a name that the first formal hasn't
named-following : (f : Formal) (fs : List Formal) (name : List ℕ) → bytes_eq f.name name ≡ false
    → formal_named (f ∷ fs) name ≡ option_map (λ (i : ℕ). suc i) (formal_named fs name)
named-following f fs name e = grind (arith, next-place, more-before)

-- the place of a name that the first formal has
named-first : (f : Formal) (fs : List Formal) (name : List ℕ) → bytes_eq f.name name ≡ true → formal_named (f ∷ fs) name ≡ Some 0
named-first f fs name e = first-place (prefix_len (λ (g : Formal). not (bytes_eq g.name name)) (f ∷ fs)) (length fs) (none-before f fs name e)

-- what the formal at a place stands for
unfoldable pub standing_of_place : {A : Type 0} → List Formal → List (List A) → ℕ → Standing A
standing_of_place formals actuals place = standing_of (formal_at formals place) (slice_index_or actuals place [])

-- a place after the first one
place-after : {A : Type 0} (f : Formal) (fs : List Formal) (a : List A) (actuals : List (List A)) (place : Option ℕ)
    → option_map (standing_of_place (f ∷ fs) (a ∷ actuals)) (option_map (λ (i : ℕ). suc i) place)
    ≡ option_map (standing_of_place fs actuals) place
unfolding standing_of_place
place-after f fs a actuals None = refl
place-after f fs a actuals (Some i) = refl

-- what a name stands for is what the formal at its place does, by whether it is the first one
bound-by : {A : Type 0} (f : Formal) (fs : List Formal) (a : List A) (actuals : List (List A)) (name : List ℕ) (same : Bool) → bytes_eq f.name name ≡ same
    → bound_to fs actuals name ≡ option_map (standing_of_place fs actuals) (formal_named fs name)
    → bound_to (f ∷ fs) (a ∷ actuals) name ≡ option_map (standing_of_place (f ∷ fs) (a ∷ actuals)) (formal_named (f ∷ fs) name)
unfolding bound_to standing_of_place
bound-by {A} f fs a actuals name true e rest = grind (arith, named-first)
bound-by {A} f fs a actuals name false e rest = grind (arith, place-after, named-following)

-- what a name stands for is what the formal at its place does
pub bound-place : {A : Type 0} (formals : List Formal) (actuals : List (List A)) (name : List ℕ) → length formals ≤ length actuals
    → bound_to formals actuals name ≡ option_map (standing_of_place formals actuals) (formal_named formals name)
unfolding bound_to
bound-place [] actuals name h = refl
bound-place (f ∷ fs) [] name h = absurd (omega (arith, h))
bound-place (f ∷ fs) (a ∷ actuals) name h = bound-by f fs a actuals name (bytes_eq f.name name) refl (bound-place fs actuals name (omega (arith, h)))

-- one more open text changes nothing of the texts of the scopes around it
pub text-around : (texts : Texts) (x : Open) (below : List Open) (k : ℕ) → k ≤ length below
    → scope_text texts (x ∷ below) k ≡ scope_text texts below k
unfolding scope_text
text-around texts x below k h = rw (not_next k (length below) h) refl

-- what is no body
unfoldable pub IsOpenText : OpenKind → Type 0
IsOpenText (OpenBody id parts) = ⊥
IsOpenText _ = Unit

-- a part has no tokens where it has no bytes
pub part-empty : (text : List ℕ) (part : Part) → part.end - part.from ≡ 0 → part_tokens text part ≡ []
unfolding part_tokens
part-empty text part e = ap (λ (n : ℕ). text_tokens part.mode (take n (drop part.from text))) e ∙ text_nil part.mode

-- a part of all of a text has its tokens
pub part-whole : (text : List ℕ) → part_tokens text (record { from = 0; end = length text; mode = Plain }) ≡ body_tokens text
unfolding part_tokens
part-whole text = grind (arith, common_steps, take-length, body_text)

-- the open text that a formal stands for, by whether its part has no bytes and whether it has no default
unfoldable pub standing_by : Bool → Bool → List Formal → ℕ → ℕ → ℕ → List Part → ℕ → Open
standing_by empty none formals id scope parent parts place =
    if empty && not none
    then record {
      part = record { from = 0; end = length (formal_at formals place).text; mode = Plain };
      parent = scope;
      kind = OpenDefault id place;
    }
    else record { part = part_at parts place; parent = parent; kind = OpenActual }

-- what a formal stands for is no body
pub standing-text : (empty none : Bool) (formals : List Formal) (id scope parent : ℕ) (parts : List Part) (place : ℕ)
    → IsOpenText (standing_by empty none formals id scope parent parts place).kind
unfolding standing_by IsOpenText
standing-text true true formals id scope parent parts place = tt
standing-text _ none formals id scope parent parts place = tt

-- and its parent is the scope or one further out
pub standing-inside : (empty none : Bool) (formals : List Formal) (id scope parent : ℕ) (parts : List Part) (place n : ℕ) → scope ≡ n → parent < n
    → (standing_by empty none formals id scope parent parts place).parent ≤ n
unfolding standing_by
standing-inside true true formals id scope parent parts place n e h = omega (arith, e, h)
standing-inside _ none formals id scope parent parts place n e h = omega (arith, e, h)

-- a part lies in its text
pub part-inside : (text : List ℕ) (parts : List Part) (place : ℕ) → AllByRecursion (λ part. part.end ≤ length text) parts → place < length parts
    → (part_at parts place).end ≤ length text
part-inside text [] place h k = absurd (omega (arith, k))
part-inside text (p ∷ ps) zero h k = h.0
part-inside text (p ∷ ps) (suc place) h k = part-inside text ps place h.1 (omega (arith, k))

-- a place of a list of so many
abbrev pub IsPlace : ℕ → Option ℕ → Type 0
IsPlace n None = Unit
IsPlace n (Some k) = k < n

-- a scope further out comes before the next one
pub further : (a b : ℕ) → a ≤ b → a < suc b
further a b h = omega (arith, h)

-- the place of a name is one of its list
pub formal-place : (formals : List Formal) (name : List ℕ) (n : ℕ) → length formals ≤ n → IsPlace n (formal_named formals name)
formal-place formals name n h = grind (arith, nat_lt, ltb-true)

-- a range of a text after some of its bytes
pub range_after : (text : List ℕ) (from end n : ℕ) → n ≤ end - from → drop n (slice_range text from end) ≡ slice_range text (from + n) end
range_after text from end n h =
    ap (λ (k : ℕ). drop n (take k (drop from text))) (whole from end n h)
    ∙ drop-take n (end - (from + n)) (drop from text)
    ∙ ap (λ (bytes : List ℕ). take (end - (from + n)) bytes) (drop-drop n from text)
  where
    whole : (a b k : ℕ) → k ≤ b - a → b - a ≡ k + (b - (a + k))
    whole a b k h = omega (arith, h)

-- what a token of a kind needs so that it stands for itself: a name is no formal
unfoldable pub Alone : {A : Type 0} → Kind → Option A → Type 0
Alone Name found = found ≡ None
Alone kind found = Unit

-- the kind of the first token of an open text
unfoldable pub first_kind : Texts → Open → List Open → Kind
first_kind texts x below = (token_of x.part.mode (open_bytes texts x below)).kind

-- its bytes
unfoldable pub first_bytes : Texts → Open → List Open → List ℕ
first_bytes texts x below = take (token_of x.part.mode (open_bytes texts x below)).len (open_bytes texts x below)

-- the open text after it
unfoldable pub first_after : Texts → Open → List Open → Open
first_after texts x below =
    open_after x (token_of x.part.mode (open_bytes texts x below)).len (token_of x.part.mode (open_bytes texts x below)).next_mode

-- an open text after some of its bytes is still open
pub following-open : (texts : Texts) (x : Open) (below : List Open) (n : ℕ) (mode : Mode) → AreOpen texts (x ∷ below)
    → AreOpen texts (open_after x n mode ∷ below)
unfolding open_after
following-open texts x below n mode h = h

-- What a formal's name stands for as an item: the mark of the open text that is opened for it.

-- a name of a text
abbrev pub name_token : List ℕ → SourceToken
name_token bytes = record { sort = Ordinary Name; bytes = bytes; line = 0 }

-- the item that a token of an open text which is no body is, in front of others: of an actual that of its parent
unfoldable pub text_item : Texts → OpenKind → ℕ → List Open → SourceToken → Item
text_item texts OpenActual parent below t = item_at texts below parent t
text_item texts _ parent below t = Written t

-- the mark of an open text that is no body, in front of others
unfoldable pub text_mark : Texts → List Open → Open → Item
text_mark texts below y =
    Arg (hide_set texts below y.parent) (packed (map (text_item texts y.kind y.parent below) (part_tokens (text_around texts y.kind y.parent below) y.part)))

-- it is the mark of its items, by what it is
mark-by : (texts : Texts) (part : Part) (parent : ℕ) (kind : OpenKind) (below : List Open) → IsOpenText kind → parent ≤ length below
    → text_mark texts below (record { part = part; parent = parent; kind = kind })
    ≡ Arg (open_hide_set texts (record { part = part; parent = parent; kind = kind }) below) (packed (open_items texts (record { part = part; parent = parent; kind = kind }) below))
unfolding IsOpenText text_mark text_item open_items open_scope own_hide_set own_item text_around
mark-by texts part parent (OpenBody id parts) below n h = absurd n
mark-by texts part parent OpenActual below n h = grind (arith, hidden-around, item-around)
mark-by texts part parent (OpenDefault id place) below n h = grind (arith, hidden-own, item-own)

-- it is the mark of its items
pub text-mark : (texts : Texts) (below : List Open) (y : Open) → IsOpenText y.kind → y.parent ≤ length below
    → text_mark texts below y ≡ Arg (open_hide_set texts y below) (packed (open_items texts y below))
text-mark texts below y n h = mark-by texts y.part y.parent y.kind below n h

-- one more open text doesn't change it, by what it is
around-by : (texts : Texts) (x : Open) (below : List Open) (part : Part) (parent : ℕ) (kind : OpenKind) → IsOpenText kind → parent ≤ length below
    → text_mark texts (x ∷ below) (record { part = part; parent = parent; kind = kind }) ≡ text_mark texts below (record { part = part; parent = parent; kind = kind })
unfolding IsOpenText text_mark text_item text_around
around-by texts x below part parent (OpenBody id parts) n h = absurd n
around-by texts x below part parent OpenActual n h = grind (arith, hidden-around, item-around, text-around)
around-by texts x below part parent (OpenDefault id place) n h =
    ap (λ (w : List (List ℕ)). Arg w (packed (map Written (part_tokens (own_text texts (OpenDefault id place)) part)))) (hidden-around texts x below parent h)

-- one more open text doesn't change it
mark-around : (texts : Texts) (x : Open) (below : List Open) (y : Open) → IsOpenText y.kind → y.parent ≤ length below
    → text_mark texts (x ∷ below) y ≡ text_mark texts below y
mark-around texts x below y n h = around-by texts x below y.part y.parent y.kind n h

-- what a formal stands for by items of which there is one
standing-some : {A : Type 0} (f : Formal) (y : A) (ys actual : List A) → actual ≡ y ∷ ys → standing_of f actual ≡ Given actual
unfolding standing_of
standing-some {A = A} f y ys actual e =
    ap (λ (xs : List A). standing_of f xs) e ∙ ap (λ (xs : List A). Given xs) (sym e)

-- what a formal stands for by a part that has bytes
standing-part : (f : Formal) (item : SourceToken → Item) (text : List ℕ) (part : Part) → part.end ≤ length text → 0 < part.end - part.from
    → standing_of f (map item (part_tokens text part)) ≡ Given (map item (part_tokens text part))
unfolding part_tokens
standing-part f item text part h some = grind (arith, length-take, length-drop, standing-some, text_step)

-- a formal that has no bytes stands for its default text, or for its part where it has none
default-mark : (texts : Texts) (x : Open) (below : List Open) (id place : ℕ) (parts : List Part) (none : Bool) → x.kind ≡ OpenBody id parts → x.parent ≤ length below
    → part_tokens (scope_text texts below x.parent) (part_at parts place) ≡ []
    → mark_of (macro_at texts.macros id).name (hide_set texts below x.parent)
    (if none then Given [] else Defaulted (formal_at (formals_of (macro_at texts.macros id)) place).text)
    ≡ text_mark texts (x ∷ below) (standing_by true none (formals_of (macro_at texts.macros id)) id (suc (length below)) x.parent parts place)
unfolding standing_by text_mark text_item text_around own_text mark_of own_hide_set IsOpenText
default-mark texts x below id place parts true body h nothing =
    ap (λ (ts : List SourceToken). Arg (hide_set texts below x.parent) (packed (map (item_at texts below x.parent) ts))) (sym nothing)
    ∙ sym (mark-around texts x below (record { part = part_at parts place; parent = x.parent; kind = OpenActual }) tt h)
default-mark texts x below id place parts false body h nothing = grind (arith, part-whole, hidden-own)

-- a formal whose part has bytes stands for that part
given-mark : (texts : Texts) (x : Open) (below : List Open) (id place : ℕ) (parts : List Part) (none : Bool) → x.parent ≤ length below
    → mark_of (macro_at texts.macros id).name (hide_set texts below x.parent)
    (Given (map (item_at texts below x.parent) (part_tokens (scope_text texts below x.parent) (part_at parts place))))
    ≡ text_mark texts (x ∷ below) (standing_by false none (formals_of (macro_at texts.macros id)) id (suc (length below)) x.parent parts place)
unfolding standing_by text_mark text_item text_around mark_of IsOpenText
given-mark texts x below id place parts none h =
    sym (mark-around texts x below (record { part = part_at parts place; parent = x.parent; kind = OpenActual }) tt h)

-- what a formal of a body stands for is the open text that is opened for it, by whether its part has no bytes and whether it has no
-- default
place-by : (texts : Texts) (x : Open) (below : List Open) (id place : ℕ) (parts : List Part) (empty none : Bool) → x.kind ≡ OpenBody id parts → x.parent ≤ length below
    → (part_at parts place).end ≤ length (scope_text texts below x.parent)
    → ((part_at parts place).end - (part_at parts place).from == 0) ≡ empty
    → (length (formal_at (formals_of (macro_at texts.macros id)) place).text == 0) ≡ none
    → mark_of (macro_at texts.macros id).name (hide_set texts below x.parent)
    (standing_of (formal_at (formals_of (macro_at texts.macros id)) place) (map (item_at texts below x.parent) (part_tokens (scope_text texts below x.parent) (part_at parts place))))
    ≡ text_mark texts (x ∷ below) (standing_by empty none (formals_of (macro_at texts.macros id)) id (suc (length below)) x.parent parts place)
unfolding standing_of
place-by texts x below id place parts true none body h inside e n = grind (arith, part-empty, eqb-true, default-mark)
place-by texts x below id place parts false none body h inside e n = grind (arith, standing-part, given-mark, true≢false)

-- an item is the mark of an open text, which is no body and whose parent is a scope around it
pub record IsMarkOf (texts : Texts) (opens : List Open) (y : Open) (item : Item) : Type 0 where
  pub mark : item ≡ text_mark texts opens y
  pub text : IsOpenText y.kind
  pub inside : y.parent ≤ length opens

-- the item that a token is by the place of the formal that it names in a scope: the mark of the open text that is opened for that, or
-- the token as it is where it names none
unfoldable pub StandsFor : Texts → List Open → Option Open → ℕ → Option ℕ → SourceToken → Item → Type 0
StandsFor texts opens found k None t item = item ≡ Written t
StandsFor texts opens found k (Some place) t item = (y : Open) → found_standing texts.macros found k place ≡ Some y → IsMarkOf texts opens y item

-- the item of the name of the formal at a place of a body
place-stands : (texts : Texts) (x : Open) (below : List Open) (id place : ℕ) (parts : List Part) → x.kind ≡ OpenBody id parts → x.parent ≤ length below
    → (part_at parts place).end ≤ length (scope_text texts below x.parent)
    → IsMarkOf texts (x ∷ below) (open_standing (formals_of (macro_at texts.macros id)) id (suc (length below)) x.parent parts place)
    (mark_of (macro_at texts.macros id).name (hide_set texts below x.parent)
    (standing_of (formal_at (formals_of (macro_at texts.macros id)) place) (map (item_at texts below x.parent) (part_tokens (scope_text texts below x.parent) (part_at parts place)))))
unfolding open_standing standing_by
place-stands texts x below id place parts body h inside = grind (arith, place-by, standing-text, standing-inside, further)

-- the item of a name in a body, by the place of the formal that it is
body-stands : (texts : Texts) (part : Part) (parent : ℕ) (below : List Open) (id : ℕ) (parts : List Part) (t : SourceToken) (place : Option ℕ) → parent ≤ length below
    → AllByRecursion (λ part. part.end ≤ length (scope_text texts below parent)) parts → IsPlace (length parts) place
    → StandsFor texts (record { part = part; parent = parent; kind = OpenBody id parts } ∷ below) (Some (record { part = part; parent = parent; kind = OpenBody id parts })) (suc (length below)) place t
    (mark_or (macro_at texts.macros id).name (hide_set texts below parent) t
    (option_map (standing_of_place (formals_of (macro_at texts.macros id)) (part_items (item_at texts below parent) (scope_text texts below parent) parts)) place))
unfolding StandsFor standing_of_place mark_or
body-stands texts part parent below id parts t None h fits inside = refl
body-stands texts part parent below id parts t (Some place) h fits inside = λ y e.
    let x : Open = record { part = part; parent = parent; kind = OpenBody id parts } in
    let text = scope_text texts below parent in
    let f = formal_at (formals_of (macro_at texts.macros id)) place in
    subst (λ (z : Open). IsMarkOf texts (x ∷ below) z (mark_of (macro_at texts.macros id).name (hide_set texts below parent)
    (standing_of f (slice_index_or (part_items (item_at texts below parent) text parts) place [])))) (one _ y e)
    (subst (λ (actual : List Item). IsMarkOf texts (x ∷ below) (open_standing (formals_of (macro_at texts.macros id)) id (suc (length below)) parent parts place)
    (mark_of (macro_at texts.macros id).name (hide_set texts below parent) (standing_of f actual)))
    (sym (get_or-map (λ (part : Part). map (item_at texts below parent) (part_tokens text part)) parts place (record { from = 0; end = 0; mode = Plain }) [] inside))
    (place-stands texts x below id place parts refl h (part-inside text parts place fits inside)))
  where
    one : (a b : Open) → Some a ≡ Some b → a ≡ b
    one a b e = cc

-- the item of a name of an open text's own scope, by what it is
own-stands : (texts : Texts) (part : Part) (parent : ℕ) (kind : OpenKind) (below : List Open) (bytes : List ℕ)
    → parent ≤ length below → HasParts texts (scope_text texts below parent) kind
    → StandsFor texts (record { part = part; parent = parent; kind = kind } ∷ below) (Some (record { part = part; parent = parent; kind = kind })) (suc (length below))
    (formal_named (kind_formals texts.macros kind) bytes) (name_token bytes)
    (own_item texts kind (scope_text texts below parent) (item_at texts below parent) (hide_set texts below parent) (name_token bytes))
unfolding own_item marked StandsFor
own-stands texts part parent (OpenBody id parts) below bytes h has = grind (arith, length-map, bound-place, body-stands, formal-place)
own-stands texts part parent OpenActual below bytes h has = refl
own-stands texts part parent (OpenDefault id place) below bytes h has = refl

-- what a token stands for in a scope it stands for with one more open text
stands-around : (texts : Texts) (x : Open) (below : List Open) (found : Option Open) (k : ℕ) (place : Option ℕ) (t : SourceToken) (item : Item)
    → StandsFor texts below found k place t item → StandsFor texts (x ∷ below) found k place t item
unfolding StandsFor
stands-around texts x below found k None t item s = s
stands-around texts x below found k (Some place) t item s = λ y e.
    let m : IsMarkOf texts below y item = s y e in
    record {
      mark = m.mark ∙ sym (mark-around texts x below y m.text m.inside);
      text = m.text;
      inside = let h : y.parent ≤ length below = m.inside in omega arith;
    }

-- by whether the scope is that of the innermost open text
stands-by : (texts : Texts) (x : Open) (below : List Open) (k : ℕ) (bytes : List ℕ) (own : Bool) → (k == suc (length below)) ≡ own
    → x.parent ≤ length below → HasParts texts (scope_text texts below x.parent) x.kind
    → StandsFor texts below (scope_open below k) k (formal_named (scope_formals texts.macros below k) bytes) (name_token bytes) (item_at texts below k (name_token bytes))
    → StandsFor texts (x ∷ below) (if own then Some x else scope_open below k) k
    (formal_named (found_formals texts.macros (if own then Some x else scope_open below k)) bytes) (name_token bytes)
    (if own
    then own_item texts x.kind (scope_text texts below x.parent) (item_at texts below x.parent) (hide_set texts below x.parent) (name_token bytes)
    else item_at texts below k (name_token bytes))
stands-by texts x below k bytes true e h has rest = grind (arith, eqb-true, own-stands)
stands-by texts x below k bytes false e h has rest =
    stands-around texts x below (scope_open below k) k (formal_named (scope_formals texts.macros below k) bytes) (name_token bytes) (item_at texts below k (name_token bytes)) rest

-- a name of a scope is the mark of the open text that the formal which it names stands for, or it is as it is written
pub name-stands : (texts : Texts) (opens : List Open) (k : ℕ) (bytes : List ℕ) → AreOpen texts opens
    → StandsFor texts opens (scope_open opens k) k (formal_named (scope_formals texts.macros opens k) bytes) (name_token bytes) (item_at texts opens k (name_token bytes))
unfolding scope_open item_at StandsFor
name-stands texts [] k bytes h = refl
name-stands texts (x ∷ below) k bytes h =
    stands-by texts x below k bytes (k == suc (length below)) refl h.0 (h.1).0 (name-stands texts below k bytes (h.1).1)

-- a formal that is named stands for an open text
pub standing-found : (macros : List Macro) (found : Option Open) (k place : ℕ) (name : List ℕ) → formal_named (found_formals macros found) name ≡ Some place
    → (y : Open) × (found_standing macros found k place ≡ Some y)
standing-found macros None k place name e = absurd (cc)
standing-found macros (Some x) k place name e = by x.kind e
  where
    by : (kind : OpenKind) → formal_named (kind_formals macros kind) name ≡ Some place → (y : Open) × (kind_standing macros kind k x.parent place ≡ Some y)
    by (OpenBody id parts) e = (open_standing (formals_of (macro_at macros id)) id k x.parent parts place, refl)
    by OpenActual e = absurd (cc)
    by (OpenDefault id own) e = absurd (cc)

-- an open text has its formals after some of its bytes
pub following-formals : (macros : List Macro) (x : Open) (below : List Open) (k n : ℕ) (mode : Mode) → scope_formals macros (open_after x n mode ∷ below) k ≡ scope_formals macros (x ∷ below) k
unfolding scope_open open_after
following-formals macros x below k n mode = grind arith
