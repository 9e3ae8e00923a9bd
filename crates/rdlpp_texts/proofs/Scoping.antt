-- The scopes of open texts: what a scope is by its frame, and what follows from it.
use Rattle.std.proofs.Common.{◌≡◌, ℕ, suc, ◌+◌, ◌-◌, ◌<◌, ◌≤◌, Bool, true, false, List, [], ◌∷◌, map, length, take, drop, get_or, refl, sym, ap, subst, ◌∙◌, arith, eq-eqb, Option, None, Some, ◌⊎◌, if◌then◌else◌, ◌==◌, min, nat_le, ◌||◌, eqb-true, leb-true, leb-false, take-take, take_all, length-take, length-drop, get_or-drop, get_or-take}
use Rattle.std.specs.List.{list_any}
use Rattle.std.proofs.lemmas.Bool.{eqb-false}
use Rattle.std.proofs.lemmas.List.{length-map, get_or-map}
use Rattle.rdlpp_scan.specs.declared.token.Mode.TheVariants.{Plain}
use Rattle.rdlpp_define.specs.Macros.{Formal, Macro, formals_of}
use Rattle.rdlpp_define.specs.Table.{macro_at, formal_at}
use Rattle.rdlpp_meaning.specs.Opens.{Part, part_at, OpenActual, OpenDefault, Open, Texts, own_text, scope_text, text_around, open_standing, open_scope, scope_open, kind_standing, found_standing, found_formals, scope_formals}
use Rattle.rdlpp_meaning.proofs.OpenScopes.{not_next, next_is}
use Rattle.rdlpp_texts.specs.BoundCalls.{range_part}
use Rattle.rdlpp_texts.specs.declared.bindings.Range.{Range}
use Rattle.rdlpp_texts.specs.declared.place.TextSource.{TextSource}
use Rattle.rdlpp_texts.specs.declared.frame.Frame.{Frame}
use Rattle.rdlpp_texts.specs.declared.frame.FrameKind.{FrameKind}
use Rattle.rdlpp_texts.specs.declared.frame.FrameKind.TheVariants as frame
use Rattle.rdlpp_texts.specs.Opened.{kind_of, bindings_below, open_of, opens_of, frame_source, is_body_of, kind_outer, outer_of, AreParentedFrames}
use Rattle.rdlpp_texts.specs.Places.{texts_of, source_text, source_formals}
use Rattle.rdlpp_texts.specs.Scopes.{kind_source, found_source, front_source, front_scope, innermost_place, own_ids, hidden_ids, IsBound, AreBound}

-- the text of a scope, by the open text that it is
unfoldable text_found : Texts → Option Open → List ℕ
text_found texts None = texts.arguments
text_found texts (Some x) = own_text texts x.kind

-- it is that
text-found : (texts : Texts) (opens : List Open) (k : ℕ) → scope_text texts opens k ≡ text_found texts (scope_open opens k)
unfolding scope_text text_found scope_open
text-found texts [] k = refl
text-found texts (x ∷ below) k = grind (arith, (text-found texts below k))

-- a text that has a byte isn't empty
no-byte : {A : Type 0} → 0 < 0 → A
no-byte h = absurd (omega (arith, h))

-- the text of a scope lies where it is found, if it has a byte: that of an actual's own has none
source-found : (texts : Texts) (found : Option Open) → 0 < length (text_found texts found) → source_text texts (found_source found) ≡ text_found texts found
unfolding text_found source_text own_text
source-found texts None h = refl
source-found texts (Some x) h = grind arith

-- the text in which the innermost open text lies is that of its source, if it has a byte
pub source-around : (texts : Texts) (x : Open) (below : List Open) → 0 < length (text_around texts x.kind x.parent below)
    → source_text texts (front_source (x ∷ below)) ≡ text_around texts x.kind x.parent below
unfolding front_source text_around source_text own_text
source-around texts x below h = grind (arith, text-found, source-found)

-- the innermost open text is its own scope, or its parent is
scope-front : (x : Open) (below : List Open) → scope_open (x ∷ below) (suc (length below)) ≡ Some x
unfolding scope_open
scope-front x below = rw (next_is (suc (length below))) refl

-- a scope further out is the same with one more open text
scope-around : (x : Open) (below : List Open) (k : ℕ) → k ≤ length below → scope_open (x ∷ below) k ≡ scope_open below k
unfolding scope_open
scope-around x below k h = rw (not_next k (length below) h) refl

-- where the innermost open text lies is where its scope does
pub source-scope : (x : Open) (below : List Open) → x.parent ≤ length below
    → front_source (x ∷ below) ≡ found_source (scope_open (x ∷ below) (open_scope x below))
unfolding front_source open_scope
source-scope x below h = grind (arith, scope-front, scope-around)

-- the formals of the text of what a scope is are its own
source-formals : (texts : Texts) (found : Option Open) → source_formals texts (found_source found) ≡ found_formals texts.macros found
unfolding source_formals
source-formals texts None = refl
source-formals texts (Some x) = grind arith

-- those of the text in which an open text lies are those of its scope
pub front-formals : (texts : Texts) (x : Open) (below : List Open) → x.parent ≤ length below
    → source_formals texts (front_source (x ∷ below)) ≡ scope_formals texts.macros (x ∷ below) (open_scope x below)
front-formals texts x below h =
    ap (λ (source : TextSource). source_formals texts source) (source-scope x below h) ∙ source-formals texts (scope_open (x ∷ below) (open_scope x below))

-- there are as many open texts as frames
pub opens-length : (frames : List Frame) (bindings : List Range) → length (opens_of frames bindings) ≡ length frames
unfolding opens_of
opens-length [] bindings = refl
opens-length (frame ∷ below) bindings = ap (λ (n : ℕ). suc n) (opens-length below (bindings_below frame.kind bindings))

-- the scope of the innermost of them is one of them
pub front-within : (frames : List Frame) (bindings : List Range) → AreParentedFrames frames → front_scope (opens_of frames bindings) ≤ length frames
unfolding opens_of front_scope open_scope
front-within [] bindings h = omega arith
front-within (y ∷ below) bindings h = grind (arith, opens-length)

-- the first ones of the first ones are some first ones
pub record IsFirst {A : Type 0} (xs : List A) (n m : ℕ) : Type 0 where
  pub kept : ℕ
  pub same : take n (take m xs) ≡ take kept xs

-- they are
take-first : {A : Type 0} (xs : List A) (n m : ℕ) (less : Bool) → nat_le n m ≡ less → IsFirst xs n m
take-first xs n m true e = record { kept = n; same = take-take n m xs (leb-true n m e) }
take-first xs n m false e =
    let h : m < n = leb-false n m e in
    record { kept = m; same = take_all n (take m xs) (let l = length-take m xs in omega (arith, l, h)) }

-- the ranges around a frame are the first of all
below-first : (kind : FrameKind) (bindings : List Range) (n : ℕ) → (kept : ℕ) × (take n (bindings_below kind bindings) ≡ take kept bindings)
below-first (frame.Body id first) bindings n = let f = take-first bindings n first (nat_le n first) refl in (f.kept, f.same)
below-first _ bindings n = (n, refl)

-- the open text that a scope is, by its frame
pub record IsAtScope (frames : List Frame) (bindings : List Range) (k : ℕ) (frame : Frame) : Type 0 where
  pub kept : ℕ
  pub found : scope_open (opens_of frames bindings) k ≡ Some (open_of frame (take kept bindings))

-- it is that of the frame at its place
pub at-scope : (frames : List Frame) (bindings : List Range) (k : ℕ) (own : Frame) → 0 < k → k ≤ length frames → own ≡ get_or frames (length frames - k) own
    → IsAtScope frames bindings k own
unfolding opens_of scope_open
at-scope [] bindings k own positive inside e = absurd (omega (arith, positive, inside))
at-scope (y ∷ ys) bindings k own positive inside e =
    by (k == suc (length ys)) refl (λ (less : k ≤ length ys) (f : own ≡ get_or ys (length ys - k) own). at-scope ys (bindings_below y.kind bindings) k own positive less f)
  where
    n : length (opens_of ys (bindings_below y.kind bindings)) ≡ length ys
    n = opens-length ys (bindings_below y.kind bindings)

    by : (here : Bool) → (k == suc (length ys)) ≡ here
        → (k ≤ length ys → own ≡ get_or ys (length ys - k) own → IsAtScope ys (bindings_below y.kind bindings) k own)
        → IsAtScope (y ∷ ys) bindings k own
    by true h rest =
        let last : k ≡ suc (length ys) = eqb-true k (suc (length ys)) h in
        let zeroth : suc (length ys) - k ≡ 0 = omega (arith, last) in
        let is : own ≡ y = e ∙ ap (λ (i : ℕ). get_or (y ∷ ys) i own) zeroth in
        record {
          kept = length bindings;
          found = ap (λ (m : ℕ). if k == suc m then Some (open_of y bindings) else scope_open (opens_of ys (bindings_below y.kind bindings)) k) n
              ∙ ap (λ (b : Bool). if b then Some (open_of y bindings) else scope_open (opens_of ys (bindings_below y.kind bindings)) k) h
              ∙ ap (λ (bs : List Range). Some (open_of y bs)) (sym (take_all (length bindings) bindings (omega arith)))
              ∙ ap (λ (z : Frame). Some (open_of z (take (length bindings) bindings))) (sym is);
        }
    by false h rest =
        let less : k ≤ length ys = unequal k (length ys) h inside in
        let next : suc (length ys) - k ≡ suc (length ys - k) = omega (arith, less) in
        let inner = rest less (e ∙ ap (λ (i : ℕ). get_or (y ∷ ys) i own) next) in
        let first = below-first y.kind bindings inner.kept in
        record {
          kept = first.0;
          found = ap (λ (m : ℕ). if k == suc m then Some (open_of y bindings) else scope_open (opens_of ys (bindings_below y.kind bindings)) k) n
              ∙ ap (λ (b : Bool). if b then Some (open_of y bindings) else scope_open (opens_of ys (bindings_below y.kind bindings)) k) h
              ∙ inner.found
              ∙ ap (λ (bs : List Range). Some (open_of own bs)) first.1;
        }
      where
        unequal : (a b : ℕ) → (a == suc b) ≡ false → a ≤ suc b → a ≤ b
        unequal a b h l = let n : a ≡ suc b → ⊥ = eqb-false a (suc b) h in omega (arith, n, l)

-- a scope past the last one is none
pub no-scope : (opens : List Open) (k : ℕ) → length opens < k → scope_open opens k ≡ None
unfolding scope_open
no-scope [] k h = refl
no-scope (x ∷ below) k h = grind (arith, (no-scope below k (omega (arith, h))))

-- the source is none
pub source-scope_none : (opens : List Open) → scope_open opens 0 ≡ None
unfolding scope_open
source-scope_none [] = refl
source-scope_none (x ∷ below) = rw (not_next 0 (length below) (omega arith)) (source-scope_none below)

-- the scope of the innermost frame, where it is an actual
pub scope-actual : (frames : List Frame) (bindings : List Range) (own : Frame) → 0 < length frames → own ≡ get_or frames 0 own → own.kind ≡ frame.Actual
    → own.parent ≡ front_scope (opens_of frames bindings)
unfolding opens_of front_scope open_scope
scope-actual [] bindings own some e k = no-byte some
scope-actual (y ∷ ys) bindings own some e k = grind arith

-- and where it is none
pub scope-other : (frames : List Frame) (bindings : List Range) (own : Frame) → 0 < length frames → own ≡ get_or frames 0 own → (own.kind ≡ frame.Actual → ⊥)
    → length frames ≡ front_scope (opens_of frames bindings)
unfolding opens_of front_scope open_scope
scope-other [] bindings own some e other = no-byte some
scope-other (y ∷ ys) bindings own some e other = grind (arith, opens-length)

-- no scope but an open text's has a text of its own
pub source-none : (frames : List Frame) (bindings : List Range) (scope : ℕ) → (scope ≡ 0) ⊎ ((scope ≡ 0 → ⊥) × (length frames < scope))
    → scope_open (opens_of frames bindings) scope ≡ None
source-none frames bindings scope h = grind (arith, source-scope_none, no-scope, opens-length)

-- where a frame's text lies is where its open text does
kind-source : (kind : FrameKind) (bindings : List Range) → frame_source kind ≡ kind_source (kind_of kind bindings)
kind-source (frame.Body id first) bindings = refl
kind-source _ bindings = refl

-- where the text of a scope lies, by its frame
pub source-at : (frames : List Frame) (bindings : List Range) (scope : ℕ) (own : Frame) (source : TextSource) → (scope ≡ 0 → ⊥) → scope ≤ length frames
    → own ≡ get_or frames (length frames - scope) own → source ≡ frame_source own.kind → source ≡ found_source (scope_open (opens_of frames bindings) scope)
source-at frames bindings scope own source some inside e s =
    let a = at-scope frames bindings scope own (omega (arith, some)) inside e in
    s ∙ kind-source own.kind (take a.kept bindings) ∙ sym (ap (λ (o : Option Open). found_source o) a.found)

-- where the innermost open text lies, where it is an actual
pub front-actual : (frames : List Frame) (bindings : List Range) (own : Frame) (source : TextSource) → 0 < length frames → own ≡ get_or frames 0 own → own.kind ≡ frame.Actual
    → ((bound : List Range) → source ≡ found_source (scope_open (opens_of (take (length frames - 1) (drop 1 frames)) bound) own.parent))
    → source ≡ front_source (opens_of frames bindings)
unfolding opens_of front_source
front-actual [] bindings own source some e k h = no-byte some
front-actual (y ∷ ys) bindings own source some e k h =
    let kind : y.kind ≡ frame.Actual = sym (ap (λ (s : Frame). s.kind) e) ∙ k in
    let rest : take (suc (length ys) - 1) ys ≡ ys = take_all (suc (length ys) - 1) ys (omega arith) in
    grind arith

-- and where it is none
pub front-other : (frames : List Frame) (bindings : List Range) (own : Frame) (source : TextSource) → 0 < length frames → own ≡ get_or frames 0 own → (own.kind ≡ frame.Actual → ⊥)
    → source ≡ frame_source own.kind → source ≡ front_source (opens_of frames bindings)
unfolding opens_of front_source
front-other [] bindings own source some e other s = no-byte some
front-other (y ∷ ys) bindings own source some e other s = grind arith

-- where what is left of the innermost open text lies, by its frame
pub innermost-is : (frames : List Frame) (bindings : List Range) (own : Frame) (source : TextSource) → (length frames == 0) ≡ false → own ≡ get_or frames 0 own
    → source ≡ front_source (opens_of frames bindings)
    → Some (record { source = source; from = min own.from own.end; end = own.end }) ≡ innermost_place (opens_of frames bindings)
unfolding opens_of front_source innermost_place
innermost-is [] bindings own source some e at = absurd (cc)
innermost-is (y ∷ ys) bindings own source some e at = grind arith

-- and where none is open
pub innermost-none : (frames : List Frame) (bindings : List Range) → length frames ≡ 0 → None ≡ innermost_place (opens_of frames bindings)
unfolding opens_of innermost_place
innermost-none [] bindings none = refl
innermost-none (y ∷ ys) bindings none = absurd (omega (arith, none))

-- the open text that a scope is has what holds of each
bound-scope : (macros : List Macro) (opens : List Open) (k : ℕ) (x : Open) → AreBound macros opens → scope_open opens k ≡ Some x → IsBound macros x.kind
unfolding scope_open
bound-scope macros [] k x h e = absurd (cc)
bound-scope macros (y ∷ below) k x h e = by (k == suc (length below)) e (λ (f : scope_open below k ≡ Some x). bound-scope macros below k x (h.1).1 f)
  where
    by : (here : Bool) → (if here then Some y else scope_open below k) ≡ Some x → (scope_open below k ≡ Some x → IsBound macros x.kind) → IsBound macros x.kind
    by true e rest = let same : y ≡ x = cc in subst (λ (z : Open). IsBound macros z.kind) same (h.1).0
    by false e rest = rest e

-- what a look-up of a formal's range needs
pub record HasRange (macros : List Macro) (bindings : List Range) (id first place : ℕ) : Type 0 where
  pub id_inside : id < length macros
  pub place_inside : place < length (formals_of (macro_at macros id))
  pub inside : first + place < length bindings

-- the formal at a place of a scope has a range, where it is a body
pub range-inside : (macros : List Macro) (frames : List Frame) (bindings : List Range) (scope : ℕ) (own : Frame) (id first place : ℕ)
    → AreBound macros (opens_of frames bindings) → (scope ≡ 0 → ⊥) → scope ≤ length frames → own ≡ get_or frames (length frames - scope) own
    → own.kind ≡ frame.Body id first
    → place < length (source_formals (texts_of macros []) (found_source (scope_open (opens_of frames bindings) scope)))
    → HasRange macros bindings id first place
unfolding source_formals
range-inside macros frames bindings scope own id first place bound some inside e k h =
    let a = at-scope frames bindings scope own (omega (arith, some)) inside e in
    grind (arith, bound-scope, length-map, length-drop, length-take)

-- the part that the formal at a place of a body has
part-kept : (bindings : List Range) (kept first place : ℕ) (range : Range) → range ≡ get_or bindings (first + place) range
    → place < length (map range_part (drop first (take kept bindings)))
    → part_at (map range_part (drop first (take kept bindings))) place ≡ range_part range
part-kept bindings kept first place range e h = grind (arith, length-map, length-drop, length-take, get_or-map, get_or-drop, get_or-take)

-- the text that the formal at a place of a scope stands for, where it is a body
pub standing-body : (macros : List Macro) (frames : List Frame) (bindings : List Range) (scope : ℕ) (own : Frame) (id first place : ℕ) (range : Range) (new : Frame) (bound : List Range)
    → AreBound macros (opens_of frames bindings) → (scope ≡ 0 → ⊥) → scope ≤ length frames → own ≡ get_or frames (length frames - scope) own
    → own.kind ≡ frame.Body id first
    → place < length (source_formals (texts_of macros []) (found_source (scope_open (opens_of frames bindings) scope)))
    → range ≡ get_or bindings (first + place) range
    → ((parts : List Part) → part_at parts place ≡ range_part range → open_of new bound ≡ open_standing (formals_of (macro_at macros id)) id scope own.parent parts place)
    → Some (open_of new bound) ≡ found_standing macros (scope_open (opens_of frames bindings) scope) scope place
unfolding source_formals
standing-body macros frames bindings scope own id first place range new bound are some inside e k h r s =
    let a = at-scope frames bindings scope own (omega (arith, some)) inside e in
    grind (arith, bound-scope, part-kept)

-- it stands for nothing where it is none
pub standing-other : (macros : List Macro) (frames : List Frame) (bindings : List Range) (scope : ℕ) (own : Frame) (place : ℕ)
    → (scope ≡ 0 → ⊥) → scope ≤ length frames → own ≡ get_or frames (length frames - scope) own
    → ((id first : ℕ) → own.kind ≡ frame.Body id first → ⊥)
    → None ≡ found_standing macros (scope_open (opens_of frames bindings) scope) scope place
standing-other macros frames bindings scope own place some inside e other =
    let a = at-scope frames bindings scope own (omega (arith, some)) inside e in
    by own.kind refl
    ∙ sym (ap (λ (o : Option Open). found_standing macros o scope place) a.found)
  where
    by : (kind : FrameKind) → own.kind ≡ kind
        → None ≡ kind_standing macros (kind_of own.kind (take (at-scope frames bindings scope own (omega (arith, some)) inside e).kept bindings)) scope own.parent place
    by (frame.Body id first) k = absurd (other id first k)
    by frame.Actual k = sym (ap (λ (c : FrameKind). kind_standing macros (kind_of c (take (at-scope frames bindings scope own (omega (arith, some)) inside e).kept bindings)) scope own.parent place) k)
    by (frame.Default id own_place) k = sym (ap (λ (c : FrameKind). kind_standing macros (kind_of c (take (at-scope frames bindings scope own (omega (arith, some)) inside e).kept bindings)) scope own.parent place) k)

-- a default as an open text
abbrev pub default_open : ℕ → ℕ → ℕ → ℕ → Open
default_open id place scope end = record { part = record { from = 0; end = end; mode = Plain }; parent = scope; kind = OpenDefault id place }

-- an actual as one
abbrev pub actual_open : ℕ → Part → Open
actual_open parent part = record { part = part; parent = parent; kind = OpenActual }

-- a default stands for a formal whose part is empty and that has one
pub standing-default : (formals : List Formal) (id place scope parent end : ℕ) (range : Range) (parts : List Part) → 0 < end
    → end ≡ (if nat_le range.to range.from then length (formal_at formals place).text else 0)
    → part_at parts place ≡ range_part range
    → default_open id place scope end ≡ open_standing formals id scope parent parts place
unfolding open_standing
standing-default formals id place scope parent end range parts some e p = grind (arith, nat_le, leb-true, eq-eqb)

-- and its part does else
pub standing-actual : (formals : List Formal) (id place scope parent end : ℕ) (range : Range) (parts : List Part) → end ≤ 0
    → end ≡ (if nat_le range.to range.from then length (formal_at formals place).text else 0)
    → part_at parts place ≡ range_part range
    → actual_open parent (range_part range) ≡ open_standing formals id scope parent parts place
unfolding open_standing
standing-actual formals id place scope parent end range parts none e p = grind (arith, nat_le, eq-eqb, leb-false)

-- the source is in no macro's text
ids-source : (opens : List Open) → hidden_ids opens 0 ≡ []
unfolding hidden_ids
ids-source [] = refl
ids-source (x ∷ below) = rw (not_next 0 (length below) (omega arith)) (ids-source below)

-- a scope further out is in the same texts with one more open text
ids-around : (x : Open) (below : List Open) (k : ℕ) → k ≤ length below → hidden_ids (x ∷ below) k ≡ hidden_ids below k
unfolding hidden_ids
ids-around x below k h = rw (not_next k (length below) h) refl

-- the scope in which a frame's call is written is its parent or the source
outer-inside : (kind : FrameKind) (parent : ℕ) → kind_outer kind parent ≤ parent
outer-inside (frame.Body id first) parent = omega arith
outer-inside _ parent = omega arith

-- what a scope's frame tells of the macros in whose text it is
pub record IsWritten (frames : List Frame) (bindings : List Range) (k id : ℕ) (own : Frame) : Type 0 where
  pub further : outer_of own < k
  pub step : list_any (λ j. id == j) (hidden_ids (opens_of frames bindings) k)
      ≡ (is_body_of own.kind id || list_any (λ j. id == j) (hidden_ids (opens_of frames bindings) (outer_of own)))

-- the innermost open text's own scope, by what it is
own-step : (id : ℕ) (x : Open) (below : List Open) (kind : FrameKind) (bindings : List Range) (parent : ℕ) → parent ≤ length below
    → list_any (λ j. id == j) (own_ids (kind_of kind bindings) (hidden_ids below parent))
    ≡ (is_body_of kind id || list_any (λ j. id == j) (hidden_ids (x ∷ below) (kind_outer kind parent)))
own-step id x below (frame.Body own first) bindings parent h =
    ap (λ (ids : List ℕ). (id == own) || list_any (λ j. id == j) ids) (sym (ids-around x below parent h))
own-step id x below frame.Actual bindings parent h = sym (ap (λ (ids : List ℕ). list_any (λ j. id == j) ids) (ids-source (x ∷ below)))
own-step id x below (frame.Default own place) bindings parent h =
    ap (λ (ids : List ℕ). list_any (λ j. id == j) ids) (sym (ids-around x below parent h))

-- it tells that
pub written-step : (frames : List Frame) (bindings : List Range) (k id : ℕ) (own : Frame) → AreParentedFrames frames → 0 < k → k ≤ length frames
    → own ≡ get_or frames (length frames - k) own → IsWritten frames bindings k id own
unfolding opens_of hidden_ids
written-step [] bindings k id own parented positive inside e = absurd (omega (arith, positive, inside))
written-step (y ∷ ys) bindings k id own parented positive inside e =
    by (k == suc (length ys)) refl (λ (less : k ≤ length ys) (f : own ≡ get_or ys (length ys - k) own). written-step ys (bindings_below y.kind bindings) k id own parented.1 positive less f)
  where
    n : length (opens_of ys (bindings_below y.kind bindings)) ≡ length ys
    n = opens-length ys (bindings_below y.kind bindings)

    by : (here : Bool) → (k == suc (length ys)) ≡ here
        → (k ≤ length ys → own ≡ get_or ys (length ys - k) own → IsWritten ys (bindings_below y.kind bindings) k id own)
        → IsWritten (y ∷ ys) bindings k id own
    by true h rest =
        let last : k ≡ suc (length ys) = eqb-true k (suc (length ys)) h in
        let zeroth : suc (length ys) - k ≡ 0 = omega (arith, last) in
        let is : own ≡ y = e ∙ ap (λ (i : ℕ). get_or (y ∷ ys) i own) zeroth in
        let parent : y.parent ≤ length ys = parented.0 in
        let outer = outer-inside y.kind y.parent in
        subst (λ (z : Frame). IsWritten (y ∷ ys) bindings k id z) (sym is) (record {
          further = omega (arith, outer, parent, last);
          step = ap (λ (m : ℕ). list_any (λ j. id == j) (if k == suc m then own_ids (kind_of y.kind bindings) (hidden_ids (opens_of ys (bindings_below y.kind bindings)) y.parent) else hidden_ids (opens_of ys (bindings_below y.kind bindings)) k)) n
              ∙ ap (λ (b : Bool). list_any (λ j. id == j) (if b then own_ids (kind_of y.kind bindings) (hidden_ids (opens_of ys (bindings_below y.kind bindings)) y.parent) else hidden_ids (opens_of ys (bindings_below y.kind bindings)) k)) h
              ∙ own-step id (open_of y bindings) (opens_of ys (bindings_below y.kind bindings)) y.kind bindings y.parent (omega (arith, n, parent));
        })
    by false h rest =
        let apart : k ≡ suc (length ys) → ⊥ = eqb-false k (suc (length ys)) h in
        let less : k ≤ length ys = omega (arith, apart, inside) in
        let next : suc (length ys) - k ≡ suc (length ys - k) = omega (arith, less) in
        let inner = rest less (e ∙ ap (λ (i : ℕ). get_or (y ∷ ys) i own) next) in
        let further = inner.further in
        record {
          further = further;
          step = ap (λ (m : ℕ). list_any (λ j. id == j) (if k == suc m then own_ids (kind_of y.kind bindings) (hidden_ids (opens_of ys (bindings_below y.kind bindings)) y.parent) else hidden_ids (opens_of ys (bindings_below y.kind bindings)) k)) n
              ∙ ap (λ (b : Bool). list_any (λ j. id == j) (if b then own_ids (kind_of y.kind bindings) (hidden_ids (opens_of ys (bindings_below y.kind bindings)) y.parent) else hidden_ids (opens_of ys (bindings_below y.kind bindings)) k)) h
              ∙ inner.step
              ∙ ap (λ (ids : List ℕ). is_body_of own.kind id || list_any (λ j. id == j) ids)
              (sym (ids-around (open_of y bindings) (opens_of ys (bindings_below y.kind bindings)) (outer_of own) (omega (arith, further, less, n))));
        }

-- a scope whose frame has the body is in that macro's text
pub written-found : (frames : List Frame) (bindings : List Range) (k scope id : ℕ) (own : Frame) → AreParentedFrames frames → 0 < k → k ≤ length frames
    → own ≡ get_or frames (length frames - k) own → is_body_of own.kind id ≡ true
    → list_any (λ j. id == j) (hidden_ids (opens_of frames bindings) k) ≡ list_any (λ j. id == j) (hidden_ids (opens_of frames bindings) scope)
    → true ≡ list_any (λ j. id == j) (hidden_ids (opens_of frames bindings) scope)
written-found frames bindings k scope id own parented positive inside e here same =
    sym ((written-step frames bindings k id own parented positive inside e).step
    ∙ ap (λ (b : Bool). b || list_any (λ j. id == j) (hidden_ids (opens_of frames bindings) (outer_of own))) here) ∙ same

-- and one whose frame hasn't is where that of its parent is
pub written-further : (frames : List Frame) (bindings : List Range) (k scope id : ℕ) (own : Frame) → AreParentedFrames frames → 0 < k → k ≤ length frames
    → own ≡ get_or frames (length frames - k) own → is_body_of own.kind id ≡ false
    → list_any (λ j. id == j) (hidden_ids (opens_of frames bindings) k) ≡ list_any (λ j. id == j) (hidden_ids (opens_of frames bindings) scope)
    → list_any (λ j. id == j) (hidden_ids (opens_of frames bindings) (outer_of own)) ≡ list_any (λ j. id == j) (hidden_ids (opens_of frames bindings) scope)
written-further frames bindings k scope id own parented positive inside e here same =
    sym ((written-step frames bindings k id own parented positive inside e).step
    ∙ ap (λ (b : Bool). b || list_any (λ j. id == j) (hidden_ids (opens_of frames bindings) (outer_of own))) here) ∙ same

-- the source is in none
pub written-source : (frames : List Frame) (bindings : List Range) (k scope id : ℕ) → k ≡ 0
    → list_any (λ j. id == j) (hidden_ids (opens_of frames bindings) k) ≡ list_any (λ j. id == j) (hidden_ids (opens_of frames bindings) scope)
    → false ≡ list_any (λ j. id == j) (hidden_ids (opens_of frames bindings) scope)
written-source frames bindings k scope id e same = grind (arith, ids-source)
