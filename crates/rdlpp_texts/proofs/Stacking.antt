-- The frames of open texts and the ranges that they have bound.
use Rattle.std.proofs.Common.{◌≡◌, ℕ, suc, ◌+◌, ◌-◌, ◌<◌, ◌≤◌, Bool, true, false, List, [], ◌∷◌, length, take, drop, get_or, refl, sym, ap, subst, ◌∙◌, arith, ◌⊎◌, inl, inr, ◌*◌, map, Global, ◌++◌, Option, None, Some, unwrap_or, Ok, Err, option_map, Result, Vec, if◌then◌else◌, nat_le, nat_lt, vec_capacity, vec_len, ◌==◌, length-set, set, eqb-true, le-leb, ltb-true, ne_eqb, length-append, length-drop, length-take, take_all}
use Rattle.std.specs.List.{AllByRecursion, list_any}
use Rattle.std.proofs.Math.Seq.{drop-append_seam, take-append_seam}
use Rattle.std.proofs.lemmas.Bool.{eqb-false, lt-leb}
use Rattle.std.proofs.lemmas.Grind.{common_steps}
use Rattle.std.proofs.lemmas.List.{drop-set, drop_all, drop_more, length-map, take_rest}
use Rattle.std.proofs.lemmas.List.Elements.{recursion_from_All}
use Rattle.rdlpp_scan.specs.declared.token.Mode.TheVariants.{Plain}
use Rattle.rdlpp_define.specs.Macros.{Formal, Macro, IsSoundMacro, formals_of}
use Rattle.rdlpp_define.specs.Table.{IsSound, TableView, macro_at, no_macro}
use Rattle.rdlpp_define.proofs.Sizes.{count_items}
use Rattle.rdlpp_meaning.specs.Opens.{Open, OpenBody, open_body}
use Rattle.rdlpp_meaning.specs.declared.fault.FaultKind.{FaultKind}
use Rattle.rdlpp_texts.specs.BoundCalls.{AreWithin, IsBoundCall, range_part}
use Rattle.rdlpp_texts.specs.Calls.{IsCallBound, IsOpening}
use Rattle.rdlpp_texts.specs.Opened.{AreBounded, AreLaid, CursorsView, IsFree, IsNoBody, IsStack, IsWithin, bindings_below, bound_by, is_excluded, is_spent, kept_by, kind_of, moved_to, open_of, opens_of}
use Rattle.rdlpp_texts.specs.Scopes.{own_ids, hidden_ids}
use Rattle.rdlpp_texts.specs.declared.bindings.Range.{Range}
use Rattle.rdlpp_texts.specs.declared.cursors.call.Opening.TheVariants.{Deep, Opened, Refused}
use Rattle.rdlpp_texts.specs.declared.frame.Bounds.{Bounds}
use Rattle.rdlpp_texts.specs.declared.frame.Frame.{Frame}
use Rattle.rdlpp_texts.specs.declared.frame.FrameKind.{FrameKind}
use Rattle.rdlpp_texts.specs.declared.frame.FrameKind.TheVariants as frame
use Rattle.rdlpp_texts.proofs.Passing.{at-each}
use Rattle.rdlpp_texts.proofs.Scoping.{opens-length}

-- The macros in whose text a scope is lie within the bounds of its frame.

-- the frame at a place, in front of those after it
pub frames-at : (frames : List Frame) (first : ℕ) (own : Frame) → first < length frames → own ≡ get_or frames first own
    → drop first frames ≡ own ∷ drop (first + 1) frames
frames-at frames first own inside e = drop_more frames first own inside ∙ ap (λ (y : Frame). y ∷ drop (first + 1) frames) (sym e)

-- the ranges of a frame say nothing of the macros in whose text it is
kind-ids : (kind : FrameKind) (xs ys : List Range) (ids : List ℕ) → own_ids (kind_of kind xs) ids ≡ own_ids (kind_of kind ys) ids
kind-ids (frame.Body id first) xs ys ids = refl
kind-ids _ xs ys ids = refl

-- nor do those of any
ids-same : (frames : List Frame) (xs ys : List Range) (k : ℕ) → hidden_ids (opens_of frames xs) k ≡ hidden_ids (opens_of frames ys) k
unfolding opens_of hidden_ids
ids-same [] xs ys k = refl
ids-same (y ∷ below) xs ys k = grind (arith, kind-ids, opens-length, (ids-same below (bindings_below y.kind xs) (bindings_below y.kind ys) k), (ids-same below (bindings_below y.kind xs) (bindings_below y.kind ys) y.parent))

-- a scope that no frame is is in no macro's text
pub ids-none : (frames : List Frame) (bindings : List Range) (k : ℕ) → (k ≡ 0) ⊎ ((k ≡ 0 → ⊥) × (length frames < k)) → hidden_ids (opens_of frames bindings) k ≡ []
unfolding opens_of hidden_ids
ids-none [] bindings k h = refl
ids-none (y ∷ ys) bindings k h =
    let n = opens-length ys (bindings_below y.kind bindings) in
    let apart : (k == suc (length (opens_of ys (bindings_below y.kind bindings)))) ≡ false =
    ne_eqb k (suc (length (opens_of ys (bindings_below y.kind bindings)))) (λ e. beyond h (omega (arith, n, e))) in
    rw apart (ids-none ys (bindings_below y.kind bindings) k (further h))
  where
    beyond : (k ≡ 0) ⊎ ((k ≡ 0 → ⊥) × (length (y ∷ ys) < k)) → k ≡ suc (length ys) → ⊥
    beyond (inl e) f = omega (arith, e, f)
    beyond (inr e) f = let more = e.1 in omega (arith, more, f)

    further : (k ≡ 0) ⊎ ((k ≡ 0 → ⊥) × (length (y ∷ ys) < k)) → (k ≡ 0) ⊎ ((k ≡ 0 → ⊥) × (length ys < k))
    further (inl e) = inl e
    further (inr e) = let more = e.1 in inr (e.0, omega (arith, more))

-- a scope's macros are within the bounds of its frame
pub bounded-at : (frames : List Frame) (bindings : List Range) (k : ℕ) (own : Frame) → AreBounded frames → 0 < k → k ≤ length frames
    → own ≡ get_or frames (length frames - k) own → AllByRecursion (IsWithin own.bounds) (hidden_ids (opens_of frames bindings) k)
unfolding opens_of hidden_ids AreBounded
bounded-at [] bindings k own bounded positive inside e = absurd (omega (arith, positive, inside))
bounded-at (y ∷ ys) bindings k own bounded positive inside e =
    by (k == suc (length ys)) refl (λ (less : k ≤ length ys) (f : own ≡ get_or ys (length ys - k) own). bounded-at ys (bindings_below y.kind bindings) k own bounded.1 positive less f)
  where
    inner : List Open
    inner = opens_of ys (bindings_below y.kind bindings)

    n : length inner ≡ length ys
    n = opens-length ys (bindings_below y.kind bindings)

    here-is : (here : Bool) → (k == suc (length ys)) ≡ here
        → hidden_ids (opens_of (y ∷ ys) bindings) k ≡ (if here then own_ids (kind_of y.kind bindings) (hidden_ids inner y.parent) else hidden_ids inner k)
    here-is here h =
        ap (λ (m : ℕ). if k == suc m then own_ids (kind_of y.kind bindings) (hidden_ids inner y.parent) else hidden_ids inner k) n
        ∙ ap (λ (b : Bool). if b then own_ids (kind_of y.kind bindings) (hidden_ids inner y.parent) else hidden_ids inner k) h

    by : (here : Bool) → (k == suc (length ys)) ≡ here
        → (k ≤ length ys → own ≡ get_or ys (length ys - k) own → AllByRecursion (IsWithin own.bounds) (hidden_ids inner k))
        → AllByRecursion (IsWithin own.bounds) (hidden_ids (opens_of (y ∷ ys) bindings) k)
    by true h rest =
        let last : k ≡ suc (length ys) = eqb-true k (suc (length ys)) h in
        let zeroth : suc (length ys) - k ≡ 0 = omega (arith, last) in
        let is : own ≡ y = e ∙ ap (λ (i : ℕ). get_or (y ∷ ys) i own) zeroth in
        let ids : own_ids (kind_of y.kind []) (hidden_ids (opens_of ys []) y.parent) ≡ hidden_ids (opens_of (y ∷ ys) bindings) k =
        ap (λ (ids : List ℕ). own_ids (kind_of y.kind []) ids) (ids-same ys [] (bindings_below y.kind bindings) y.parent)
        ∙ kind-ids y.kind [] bindings (hidden_ids inner y.parent)
        ∙ sym (here-is true h) in
        subst (λ (z : Frame). AllByRecursion (IsWithin z.bounds) (hidden_ids (opens_of (y ∷ ys) bindings) k)) (sym is)
        (subst (λ (ids : List ℕ). AllByRecursion (IsWithin y.bounds) ids) ids bounded.0)
    by false h rest =
        let apart : k ≡ suc (length ys) → ⊥ = eqb-false k (suc (length ys)) h in
        let less : k ≤ length ys = omega (arith, apart, inside) in
        let next : suc (length ys) - k ≡ suc (length ys - k) = omega (arith, less) in
        subst (λ (ids : List ℕ). AllByRecursion (IsWithin own.bounds) ids) (sym (here-is false h))
        (rest less (e ∙ ap (λ (i : ℕ). get_or (y ∷ ys) i own) next))

-- what is within bounds is within wider ones
pub within-wider : (ids : List ℕ) (a b : Bounds) → b.least ≤ a.least → a.greatest ≤ b.greatest → AllByRecursion (IsWithin a) ids → AllByRecursion (IsWithin b) ids
within-wider [] a b low high h = h
within-wider (id ∷ ids) a b low high h = grind (arith, (within-wider ids a b low high h.1))

-- a macro that bounds exclude is none of those within them
pub excluded-none : (ids : List ℕ) (bounds : Bounds) (id : ℕ) → is_excluded bounds id ≡ true → AllByRecursion (IsWithin bounds) ids → list_any (λ j. id == j) ids ≡ false
excluded-none [] bounds id out h = refl
excluded-none (j ∷ ids) bounds id out h = grind (arith, nat_lt, ltb-true, (excluded-none ids bounds id out h.1))

-- a scope whose frame's bounds exclude a macro isn't in its text
pub bounded-excluded : (frames : List Frame) (bindings : List Range) (k scope id : ℕ) (own : Frame) → AreBounded frames → 0 < k → k ≤ length frames
    → own ≡ get_or frames (length frames - k) own → is_excluded own.bounds id ≡ true
    → list_any (λ j. id == j) (hidden_ids (opens_of frames bindings) k) ≡ list_any (λ j. id == j) (hidden_ids (opens_of frames bindings) scope)
    → false ≡ list_any (λ j. id == j) (hidden_ids (opens_of frames bindings) scope)
bounded-excluded frames bindings k scope id own bounded positive inside e out same =
    sym (excluded-none (hidden_ids (opens_of frames bindings) k) own.bounds id out (bounded-at frames bindings k own bounded positive inside e)) ∙ same

-- the bounds of a text that is no body are those of its parent
pub text-bounded : (kind : FrameKind) (bounds : Bounds) (ids : List ℕ) → IsNoBody kind → AllByRecursion (IsWithin bounds) ids
    → AllByRecursion (IsWithin bounds) (own_ids (kind_of kind []) ids)
text-bounded (frame.Body id first) bounds ids nobody h = absurd nobody
text-bounded frame.Actual bounds ids nobody h = tt
text-bounded (frame.Default id place) bounds ids nobody h = h

-- open texts of which the innermost goes on at a place are as they were
pub moved-bounded : (frames : List Frame) (first at : ℕ) (own : Frame) → first < length frames → own ≡ get_or frames first own → AreBounded (drop first frames)
    → AreBounded (drop first (set frames first (record own { from = at })))
unfolding AreBounded
moved-bounded frames first at own inside e h = grind (arith, frames-at, drop-set)

-- so are those after one that is closed
pub closed-bounded : (frames : List Frame) (first : ℕ) (own : Frame) → first < length frames → own ≡ get_or frames first own → AreBounded (drop first frames)
    → AreBounded (drop (first + 1) frames)
unfolding AreBounded
closed-bounded frames first own inside e h = grind (arith, frames-at)

-- what is asked of the bounds of a frame in front of others
abbrev pub IsBoundedOn : Frame → List Frame → Type 0
IsBoundedOn new frames = AllByRecursion (IsWithin new.bounds) (own_ids (kind_of new.kind []) (hidden_ids (opens_of frames []) new.parent))

-- no open text is bounded
pub none-bounded : AreBounded []
unfolding AreBounded
none-bounded = tt

-- nor does one more that is bounded change the others
pub more-bounded : (new : Frame) (frames : List Frame) → IsBoundedOn new frames → AreBounded frames → AreBounded (new ∷ frames)
unfolding AreBounded
more-bounded new frames own h = (own, h)

-- the bounds of a frame are asked of the same macros where the innermost goes on at a place
pub moved-on : (new : Frame) (frames : List Frame) (first at : ℕ) (own : Frame) → first < length frames → own ≡ get_or frames first own → IsBoundedOn new (drop first frames)
    → IsBoundedOn new (drop first (set frames first (record own { from = at })))
unfolding opens_of hidden_ids
moved-on new frames first at own inside e h = grind (arith, frames-at, drop-set)

-- the open frames as they are lent
pub lent-bounded : (frames lent : List Frame) (first : ℕ) → lent ≡ frames → AreBounded (drop first frames) → AreBounded (take (length lent - first) (drop first lent))
lent-bounded frames lent first e h = grind (arith, common_steps, length-drop)

-- the bounds of the body of a macro that are told of the frames as they are lent
pub lent-body : (frames lent : List Frame) (first id parent : ℕ) (bounds : Bounds) → lent ≡ frames
    → ((bindings : List Range) → AllByRecursion (IsWithin bounds) (id ∷ hidden_ids (opens_of (take (length lent - first) (drop first lent)) bindings) parent))
    → AllByRecursion (IsWithin bounds) (id ∷ hidden_ids (opens_of (drop first frames) []) parent)
lent-body frames lent first id parent bounds e h =
    let size = length-drop first lent in
    subst (λ (s : List Frame). AllByRecursion (IsWithin bounds) (id ∷ hidden_ids (opens_of s []) parent))
    (take_all (length lent - first) (drop first lent) (omega (arith, size)) ∙ ap (λ (s : List Frame). drop first s) e) (h [])

-- those of a text that is no body
pub lent-text : (frames lent : List Frame) (first parent : ℕ) (kind : FrameKind) (bounds : Bounds) → lent ≡ frames → IsNoBody kind
    → ((bindings : List Range) → AllByRecursion (IsWithin bounds) (hidden_ids (opens_of (take (length lent - first) (drop first lent)) bindings) parent))
    → AllByRecursion (IsWithin bounds) (own_ids (kind_of kind []) (hidden_ids (opens_of (drop first frames) []) parent))
lent-text frames lent first parent kind bounds e nobody h = grind (arith, common_steps, length-drop, text-bounded)

-- no macro is within no bounds, and none is asked for
pub none-within : (ids : List ℕ) (bounds : Bounds) → ids ≡ [] → AllByRecursion (IsWithin bounds) ids
none-within ids bounds e = subst (λ (xs : List ℕ). AllByRecursion (IsWithin bounds) xs) (sym e) tt

-- The frames of open texts and the ranges that they have bound, as one text moves, opens or closes.

-- some text is open
pub some-open : (frames : List Frame) (first : ℕ) (bindings : List Range) → 0 < length (opens_of (drop first frames) bindings) → first < length frames
some-open frames first bindings some = grind (arith, opens-length, length-drop)

-- how many are
pub open-count : (frames : List Frame) (first : ℕ) (bindings : List Range) → length (opens_of (drop first frames) bindings) ≡ length frames - first
open-count frames first bindings = opens-length (drop first frames) bindings ∙ length-drop first frames

-- no text is open after the last frame
pub none-open : (frames : List Frame) (first : ℕ) (bindings : List Range) → length frames ≤ first → opens_of (drop first frames) bindings ≡ []
unfolding opens_of
none-open frames first bindings h = ap (λ (s : List Frame). opens_of s bindings) (drop_all first frames h)

-- ranges that are laid are few
pub laid-few : (frames : List Frame) (bindings : List Range) → AreLaid frames bindings → length bindings ≤ 255 * length frames
unfolding AreLaid
laid-few [] bindings h = omega (arith, h)
laid-few (y ∷ ys) bindings h = h.0

-- ranges that are laid are those that the open bodies have bound
pub laid-bound : (frames : List Frame) (bindings : List Range) → AreLaid frames bindings → length bindings ≡ bound_by (opens_of frames bindings)
unfolding AreLaid opens_of bound_by
laid-bound [] bindings h = h
laid-bound (y ∷ ys) bindings h = grind (arith, length-map, length-drop, length-take, (laid-bound ys (bindings_below y.kind bindings) h.1))

-- no more ranges are bound than there is room for
pub bound-few : (frames : List Frame) (depth first : ℕ) (bindings : List Range) → length frames ≤ depth → AreLaid (drop first frames) bindings
    → bound_by (opens_of (drop first frames) bindings) ≤ depth * 255
bound-few frames depth first bindings most laid = grind (arith, laid-few, laid-bound, length-drop)

-- the ranges that are kept where a frame is closed
pub kept-below : (kind : FrameKind) (bindings : List Range) → take (kept_by kind (length bindings)) bindings ≡ bindings_below kind bindings
kept-below (frame.Body id first) bindings = refl
kept-below _ bindings = take_all (length bindings) bindings (omega arith)

-- the open texts where the innermost is closed
pub closed-opens : (frames : List Frame) (first : ℕ) (bindings : List Range) (own : Frame) (kept : ℕ) → first < length frames → own ≡ get_or frames first own
    → kept ≡ kept_by own.kind (length bindings)
    → opens_of (drop (first + 1) frames) (take kept bindings) ≡ drop 1 (opens_of (drop first frames) bindings)
unfolding opens_of
closed-opens frames first bindings own kept inside e k = grind (arith, kept-below, frames-at)

-- they lie as frames do
pub closed-laid : (frames : List Frame) (first : ℕ) (bindings : List Range) (own : Frame) (kept : ℕ) → first < length frames → own ≡ get_or frames first own
    → kept ≡ kept_by own.kind (length bindings) → AreLaid (drop first frames) bindings → AreLaid (drop (first + 1) frames) (take kept bindings)
unfolding AreLaid
closed-laid frames first bindings own kept inside e k laid = grind (arith, frames-at, kept-below)

-- the open texts where the innermost goes on at a place
pub moved-opens : (frames : List Frame) (first at : ℕ) (bindings : List Range) (own : Frame) → first < length frames → own ≡ get_or frames first own
    → opens_of (drop first (set frames first (record own { from = at }))) bindings ≡ moved_to at (opens_of (drop first frames) bindings)
unfolding opens_of moved_to
moved-opens frames first at bindings own inside e = grind (arith, drop-set, frames-at)

-- they lie as frames do
pub moved-laid : (frames : List Frame) (first at : ℕ) (bindings : List Range) (own : Frame) → first < length frames → own ≡ get_or frames first own
    → AreLaid (drop first frames) bindings → AreLaid (drop first (set frames first (record own { from = at }))) bindings
unfolding AreLaid
moved-laid frames first at bindings own inside e laid = grind (arith, frames-at, drop-set)

-- the frames where one more is opened
pub entered : (frames wide : List Frame) (depth first place : ℕ) (new : Frame) → IsFree frames wide depth first place → drop place (set wide place new) ≡ new ∷ drop first frames
entered frames wide depth first place new free = drop-set wide place new free.inside ∙ ap (λ (s : List Frame). new ∷ s) free.kept

-- the open texts where one more is opened that is no body
pub pushed-opens : (frames wide : List Frame) (depth first place : ℕ) (bindings : List Range) (new : Frame) → IsFree frames wide depth first place → IsNoBody new.kind
    → opens_of (drop place (set wide place new)) bindings ≡ open_of new [] ∷ opens_of (drop first frames) bindings
unfolding opens_of
pushed-opens frames wide depth first place bindings new free nobody = grind (arith, common_steps, entered)

-- a text that is opened and binds nothing
pub pushed-laid : (frames wide : List Frame) (depth first place : ℕ) (bindings : List Range) (new : Frame) → IsFree frames wide depth first place
    → bindings_below new.kind bindings ≡ bindings → AreLaid (drop first frames) bindings
    → AreLaid (drop place (set wide place new)) bindings
unfolding AreLaid
pushed-laid frames wide depth first place bindings new free same laid = grind (arith, common_steps, laid-few, entered)

-- what is no body binds nothing
pub no-body_below : (kind : FrameKind) (bindings : List Range) → IsNoBody kind → bindings_below kind bindings ≡ bindings
no-body_below (frame.Body id first) bindings nobody = absurd nobody
no-body_below _ bindings nobody = refl

-- the open texts where a body is opened whose call binds nothing
pub body-opens : (frames wide : List Frame) (depth first place : ℕ) (bindings : List Range) (id end parent n : ℕ) (bounds : Bounds) → IsFree frames wide depth first place → n ≡ length bindings
    → opens_of (drop place (set wide place (record { from = 0; end = end; parent = parent; kind = frame.Body id n; bounds = bounds }))) bindings
    ≡ record { part = record { from = 0; end = end; mode = Plain }; parent = parent; kind = OpenBody id [] } ∷ opens_of (drop first frames) bindings
unfolding opens_of
body-opens frames wide depth first place bindings id end parent n bounds free e = grind (arith, common_steps, entered, drop_all)

-- what a contract sees
abbrev pub made_view : List Open → ℕ → ℕ → CursorsView
made_view opens line depth = record { opens = opens; line = line; depth = depth }

-- a view of open texts
pub view-is : (xs ys : List Open) (line depth own : ℕ) → xs ≡ ys → depth ≡ own → made_view xs line depth ≡ made_view ys line own
view-is xs ys line depth own e d = ap (λ (o : List Open). made_view o line depth) e ∙ ap (λ (n : ℕ). made_view ys line n) d

-- the innermost frame stands in front of the last one
-- whether nothing is left of the innermost
pub spent-is : (frames : List Frame) (first : ℕ) (bindings : List Range) (own : Frame) → first < length frames → own ≡ get_or frames first own
    → nat_le own.end own.from ≡ is_spent (opens_of (drop first frames) bindings)
unfolding opens_of is_spent
spent-is frames first bindings own inside e = sym (ap (λ (s : List Frame). is_spent (opens_of s bindings)) (frames-at frames first own inside e))

pub first-inside : (v : Vec Frame Global) (first : ℕ) (bindings : List Range) → 0 < length (opens_of (drop first v.items) bindings) → first < vec_len v
first-inside v first bindings some = let n = count_items v in let h = some-open v.items first bindings some in omega (arith, n, h)

-- where fewer texts are open than may be there is room
pub room-first : (v : Vec Frame Global) (depth first : ℕ) (bindings : List Range) → length (opens_of (drop first v.items) bindings) < depth → vec_len v < first + depth
room-first v depth first bindings room = grind (arith, count_items, open-count)

-- frames of which none is open
pub stack-made : (v : Vec Frame Global) (depth first : ℕ) (bindings : Vec Range Global) → vec_len v ≡ first → first ≤ depth → depth ≤ vec_capacity v → bindings.items ≡ []
    → vec_capacity bindings ≡ (depth + 1) * 255 → IsStack v.items (vec_capacity v) depth first bindings
unfolding AreLaid
stack-made v depth first bindings size few memory none room = grind (arith, count_items, drop_all, none-bounded)

-- the frames where the innermost goes on at a place
pub stack-moved : (frames : List Frame) (memory depth first at : ℕ) (bindings : Vec Range Global) (own : Frame) → first < length frames → own ≡ get_or frames first own
    → IsStack frames memory depth first bindings → IsStack (set frames first (record own { from = at })) memory depth first bindings
stack-moved frames memory depth first at bindings own inside e h = grind (arith, length-set, moved-laid, moved-bounded)

-- where it is closed
pub stack-closed : (frames : List Frame) (memory depth first : ℕ) (bindings new : Vec Range Global) (own : Frame) (kept : ℕ) → first < length frames → own ≡ get_or frames first own
    → kept ≡ kept_by own.kind (length bindings.items) → new.items ≡ take kept bindings.items → vec_capacity new ≡ vec_capacity bindings
    → IsStack frames memory depth first bindings → IsStack frames memory depth (first + 1) new
stack-closed frames memory depth first bindings new own kept inside e k is more h = grind (arith, closed-laid, closed-bounded)

-- where one more is opened that binds nothing
pub stack-pushed : (frames wide : List Frame) (memory same_memory depth first place : ℕ) (bindings : Vec Range Global) (new : Frame) → IsFree frames wide depth first place → same_memory ≡ memory
    → bindings_below new.kind bindings.items ≡ bindings.items → IsBoundedOn new (drop first frames) → IsStack frames memory depth first bindings
    → IsStack (set wide place new) same_memory depth place bindings
stack-pushed frames wide memory same_memory depth first place bindings new free m same own h =
    let n = length-set wide place new in
    let inside = free.inside in
    let few = free.few in
    let reserved = h.reserved in
    record {
      inside = omega (arith, n, inside);
      few = omega (arith, n, few);
      reserved = omega (arith, m, reserved);
      laid = pushed-laid frames wide depth first place bindings.items new free same h.laid;
      bounded = subst (λ (s : List Frame). AreBounded s) (sym (entered frames wide depth first place new free)) (more-bounded new (drop first frames) own h.bounded);
      room = h.room;
    }

-- as many texts are open as may be where no fewer are
pub full-is : (count depth : ℕ) → count ≤ depth → (count == depth) ≡ nat_le depth count
full-is count depth few = grind (arith, nat_le, eqb-true, le-leb, eqb-false, lt-leb)

-- where no frame is left in front of the open texts, as many are open as may be if no more frames can be made
pub full-first : (frames : List Frame) (first depth len : ℕ) (bindings : List Range) → first ≡ 0 → len ≡ length frames → length frames ≤ depth
    → (len == depth) ≡ nat_le depth (length (opens_of (drop first frames) bindings))
full-first frames first depth len bindings z e few = grind (arith, open-count, full-is, nat_le)

-- where a frame is left, more texts may be open
pub full-some : (frames : List Frame) (first depth : ℕ) (bindings : List Range) → (first ≡ 0 → ⊥) → first ≤ length frames → length frames ≤ depth
    → (first == 0) ≡ nat_le depth (length (opens_of (drop first frames) bindings))
full-some frames first depth bindings some inside few = grind (arith, open-count, lt-leb, eqb-true)

-- the frames from a place on
pub tail-is : (part items : List Frame) (first : ℕ) → part ≡ items → take (length part - first) (drop first part) ≡ drop first items
tail-is part items first e = take_rest part first ∙ ap (λ (frames : List Frame). drop first frames) e

-- the open frames as they are lent
pub lent-opens : (frames lent : List Frame) (first : ℕ) (bindings own : List Range) → lent ≡ frames → own ≡ bindings
    → opens_of (take (length lent - first) (drop first lent)) own ≡ opens_of (drop first frames) bindings
lent-opens frames lent first bindings own e f = grind (arith, tail-is)

-- some frame is lent where some text is open
pub lent-some : (frames lent : List Frame) (first : ℕ) (bindings : List Range) → lent ≡ frames → 0 < length (opens_of (drop first frames) bindings)
    → 0 < length (take (length lent - first) (drop first lent))
lent-some frames lent first bindings e some = grind (arith, tail-is, opens-length)

-- The frames of open texts and the ranges that they have bound, as a call is bound and its body opens.

-- how many formals a macro has, whether it has a list or not
pub arity-count : (formals : Option (List Formal)) → unwrap_or (option_map (λ (fs : List Formal). length fs) formals) 0 ≡ length (unwrap_or formals [])
arity-count None = refl
arity-count (Some fs) = refl

-- it has no more than a table takes
pub formals-few : (table : TableView) (id : ℕ) → IsSound table → id < length table.macros → length (formals_of (macro_at table.macros id)) ≤ 255
formals-few table id sound h =
    (at-each IsSoundMacro table.macros id no_macro (recursion_from_All IsSoundMacro table.macros sound.each) h).formals.few

-- a part of a list is no longer than it
drop-few : (frames : List Frame) (first : ℕ) (size : ℕ) → size ≤ 255 * length (drop first frames) → first ≤ length frames → size ≤ 255 * length frames
drop-few frames first size h inside = let n = length-drop first frames in omega (arith, h, n, inside)

-- there is room for the ranges of one call more
pub call-room : (frames : List Frame) (memory depth first n : ℕ) (bindings : Vec Range Global) → IsStack frames memory depth first bindings → n ≤ 255
    → vec_len bindings + n ≤ vec_capacity bindings
call-room frames memory depth first n bindings h few = grind (arith, common_steps, count_items, drop-few, laid-few)

-- a frame for the body of a macro whose ranges stand after so many
abbrev pub body-frame : ℕ → ℕ → ℕ → ℕ → Bounds → Frame
body-frame id end parent n bounds = record { from = 0; end = end; parent = parent; kind = frame.Body id n; bounds = bounds }

-- the open texts where a body is opened whose call has bound ranges
pub entered-opens : (frames wide : List Frame) (depth first place : ℕ) (bindings more new : List Range) (id end parent n : ℕ) (bounds : Bounds) → IsFree frames wide depth first place
    → n ≡ length bindings → new ≡ bindings ++ more
    → opens_of (drop place (set wide place (body-frame id end parent n bounds))) new
    ≡ record { part = record { from = 0; end = end; mode = Plain }; parent = parent; kind = OpenBody id (map range_part more) } ∷ opens_of (drop first frames) bindings
unfolding opens_of
entered-opens frames wide depth first place bindings more new id end parent n bounds free is whole =
    grind (arith, common_steps, entered, drop-append_seam, take-append_seam)

-- they lie as frames do
entered-laid : (frames wide : List Frame) (depth first place : ℕ) (bindings more : List Range) (id end parent n : ℕ) (bounds : Bounds) → IsFree frames wide depth first place
    → n ≡ length bindings → length more ≤ 255
    → AreLaid (drop first frames) bindings → AreLaid (drop place (set wide place (body-frame id end parent n bounds))) (bindings ++ more)
unfolding AreLaid
entered-laid frames wide depth first place bindings more id end parent n bounds free is few laid =
    grind (arith, common_steps, laid-few, length-append, take-append_seam, entered)

-- and are so with their room
pub stack-entered : (frames wide : List Frame) (memory same_memory depth first place : ℕ) (bindings new : Vec Range Global) (more : List Range) (id end parent n m : ℕ) (bounds : Bounds)
    → IsFree frames wide depth first place → same_memory ≡ memory → n ≡ vec_len bindings → m ≤ 255
    → vec_len new ≤ vec_len bindings + m → new.items ≡ bindings.items ++ more → vec_capacity new ≡ vec_capacity bindings
    → IsBoundedOn (body-frame id end parent n bounds) (drop first frames) → IsStack frames memory depth first bindings
    → IsStack (set wide place (body-frame id end parent n bounds)) same_memory depth place new
stack-entered frames wide memory same_memory depth first place bindings new more id end parent n m bounds free kept is few size whole same own h =
    let one = length-set wide place (body-frame id end parent n bounds) in
    let inside = free.inside in
    let wide_few = free.few in
    let reserved = h.reserved in
    let room = h.room in
    let old_n = count_items bindings in
    let new_n = count_items new in
    let both = length-append bindings.items more in
    let all = ap (λ (bs : List Range). length bs) whole in
    let most : length more ≤ 255 = omega (arith, old_n, new_n, both, all, size, few) in
    record {
      inside = omega (arith, one, inside);
      few = omega (arith, one, wide_few);
      reserved = omega (arith, kept, reserved);
      laid = subst (λ (bs : List Range). AreLaid (drop place (set wide place (body-frame id end parent n bounds))) bs) (sym whole)
          (entered-laid frames wide depth first place bindings.items more id end parent n bounds free (is ∙ old_n) most h.laid);
      bounded = subst (λ (s : List Frame). AreBounded s) (sym (entered frames wide depth first place (body-frame id end parent n bounds) free)) (more-bounded (body-frame id end parent n bounds) (drop first frames) own h.bounded);
      room = omega (arith, room, same);
    }

-- the frames where the innermost goes on at a place
abbrev pub moved : List Frame → ℕ → ℕ → Frame → List Frame
moved frames first following own = set frames first (record own { from = following })

-- the open texts where the body of a call is opened then
pub called-opens : (frames wide : List Frame) (depth first place following : ℕ) (bindings more new : List Range) (own : Frame) (id end parent n : ℕ) (bounds : Bounds)
    → IsFree (moved frames first following own) wide depth first place → first < length frames
    → own ≡ get_or frames first own → n ≡ length bindings → new ≡ bindings ++ more
    → opens_of (drop place (set wide place (body-frame id end parent n bounds))) new
    ≡ record { part = record { from = 0; end = end; mode = Plain }; parent = parent; kind = OpenBody id (map range_part more) } ∷ moved_to following (opens_of (drop first frames) bindings)
called-opens frames wide depth first place following bindings more new own id end parent n bounds free inside e is whole =
    entered-opens (moved frames first following own) wide depth first place bindings more new id end parent n bounds free is whole
    ∙ ap (λ (os : List Open). record { part = record { from = 0; end = end; mode = Plain }; parent = parent; kind = OpenBody id (map range_part more) } ∷ os)
    (moved-opens frames first following bindings own inside e)

-- they lie as frames do, with their room
pub stack-called : (frames wide : List Frame) (memory same_memory depth first place following : ℕ) (bindings new : Vec Range Global) (more : List Range) (own : Frame) (id end parent n m : ℕ) (bounds : Bounds)
    → IsFree (moved frames first following own) wide depth first place → same_memory ≡ memory → first < length frames
    → own ≡ get_or frames first own → n ≡ vec_len bindings → m ≤ 255 → vec_len new ≤ vec_len bindings + m
    → new.items ≡ bindings.items ++ more → vec_capacity new ≡ vec_capacity bindings
    → IsBoundedOn (body-frame id end parent n bounds) (drop first frames) → IsStack frames memory depth first bindings
    → IsStack (set wide place (body-frame id end parent n bounds)) same_memory depth place new
stack-called frames wide memory same_memory depth first place following bindings new more own id end parent n m bounds free kept inside e is few size whole same on h =
    stack-entered (moved frames first following own) wide memory same_memory depth first place bindings new more id end parent n m bounds free kept is few size whole same
    (moved-on (body-frame id end parent n bounds) frames first following own inside e on) (stack-moved frames memory depth first following bindings own inside e h)

-- a call that is refused
pub opening-refused : (macros : List Macro) (text : List ℕ) (at end id parent n : ℕ) (old new : CursorsView) (ranges : List Range) (kind : FaultKind) (r : Result ℕ FaultKind)
    → r ≡ Err kind → n ≡ length (formals_of (macro_at macros id)) → IsBoundCall text at end n ranges r → new ≡ old
    → IsOpening macros text at end id parent old (Refused kind) new
unfolding IsOpening IsBoundCall
opening-refused macros text at end id parent n old new ranges kind r e k b is =
    (is, subst (λ (m : ℕ). IsBoundCall text at end m ranges (Err kind)) k (subst (λ (x : Result ℕ FaultKind). IsBoundCall text at end n ranges x) e b))

-- a call that is bound
pub call-bound : (macros : List Macro) (text : List ℕ) (at end id n : ℕ) (ranges : List Range) (following : ℕ) (r : Result ℕ FaultKind)
    → r ≡ Ok following → n ≡ length (formals_of (macro_at macros id)) → IsBoundCall text at end n ranges r → AreWithin at end ranges → (at ≤ following) × (following ≤ end)
    → IsCallBound macros text at end id
call-bound macros text at end id n ranges following r e k b within place = grind arith

-- a call that is bound where no further text may be open
pub opening-deep : (macros : List Macro) (text : List ℕ) (at end id parent : ℕ) (old new : CursorsView) → IsCallBound macros text at end id → new ≡ old → old.depth ≤ length old.opens
    → IsOpening macros text at end id parent old Deep new
unfolding IsOpening
opening-deep macros text at end id parent old new call is deep = (is, (deep, call))

-- a call that is bound opens its body
pub opening-opened : (macros : List Macro) (text body : List ℕ) (at end id parent n : ℕ) (old new : CursorsView) (ranges : List Range) (following : ℕ) (r : Result ℕ FaultKind)
    → r ≡ Ok following → n ≡ length (formals_of (macro_at macros id)) → IsBoundCall text at end n ranges r → AreWithin at end ranges → (at ≤ following) × (following ≤ end)
    → body ≡ (macro_at macros id).body → length old.opens < old.depth
    → new ≡ record old { opens = record { part = record { from = 0; end = length body; mode = Plain }; parent = parent; kind = OpenBody id (map range_part ranges) } ∷ moved_to following old.opens }
    → IsOpening macros text at end id parent old Opened new
unfolding IsOpening open_body
opening-opened macros text body at end id parent n old new ranges following r e k b within place same room is = record {
  call = record {
    ranges = ranges;
    following = following;
    within = within;
    place = place;
    bound = subst (λ (m : ℕ). IsBoundCall text at end m ranges (Ok following)) k (subst (λ (x : Result ℕ FaultKind). IsBoundCall text at end n ranges x) e b);
  };
  room = room;
  opens = is ∙ ap (λ (bytes : List ℕ). record old {
    opens = record { part = record { from = 0; end = length bytes; mode = Plain }; parent = parent; kind = OpenBody id (map range_part ranges) } ∷ moved_to following old.opens;
  }) same;
}

-- the ranges that stood there before, where those of a call are taken away
pub taken-back : (old new : List Range) (more : List Range) (n : ℕ) → new ≡ old ++ more → n ≡ length old → take n new ≡ old
taken-back old new more n whole e = ap (λ (k : ℕ). take k new) e ∙ ap (λ (bs : List Range). take (length old) bs) whole ∙ take-append_seam old more
