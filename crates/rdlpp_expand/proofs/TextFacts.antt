-- Steps over open texts, and what is known of them, of their places and of the open sources.
use Rattle.std.proofs.Common.{◌≡◌, ℕ, ◌+◌, ◌-◌, ◌≤◌, ◌<◌, Bool, true, false, List, [], ◌∷◌, length, ◌==◌, Option, None, Some, Ok, Err, refl, sym, ap, subst, arith, ◌∙◌, cond, inl, inr, unwrap_or, zero, suc, ◌^◌, slice_get, All, find, option_map, IsTrue, bytes_eq, is_some, ◌↔◌, true≢false}
use Rattle.std.proofs.lemmas.Bool.{cases_Bool}
use Rattle.std.proofs.lemmas.List.Elements.{All-head, All-tail}
use Rattle.std.proofs.lemmas.Option.{none-some, same_Some}
use Rattle.std.proofs.lemmas.Slice.Eq.{bytes_eq-Decides}
use Rattle.rdlpp_define.specs.Macros.{Macro}
use Rattle.rdlpp_define.specs.Table.{macro_named, TableView, macro_at}
use Rattle.rdlpp_meaning.specs.Outcome.{Report, report_of}
use Rattle.rdlpp_meaning.specs.declared.fault.Fault.{Fault}
use Rattle.rdlpp_source.specs.declared.sources.Sources.{Ghosts}
use Rattle.rdlpp_texts.specs.declared.place.TextPlace.{TextPlace}
use Rattle.rdlpp_texts.specs.declared.step.CursorStep.{CursorStep}
use Rattle.rdlpp_texts.specs.declared.step.CursorStep.TheVariants.{Lends}
use Rattle.rdlpp_read.specs.Files.{IsSlot, shift_of}
use Rattle.rdlpp_read.specs.declared.files.File.{File}
use Rattle.rdlpp_usages.specs.Usages.{ExpansionView, StaysLent}
use Rattle.rdlpp_state.specs.Engine.{AreIncluded, EngineView, is_open}
use Rattle.rdlpp_state.specs.Marks.{MarksView, PlaceView, marked_place}
use Rattle.rdlpp_state.specs.Moves.{IsDrained}
use Rattle.rdlpp_state.specs.Pieces.{kept_answer, lent_answer, step_answer}
use Rattle.rdlpp_state.specs.Positions.{position_of}
use Rattle.rdlpp_state.specs.Silences.{most_silent}
use Rattle.rdlpp_state.specs.Steps.{Step, UncutStepWithin}
use Rattle.rdlpp_state.specs.declared.phase.Phase.TheVariants.{Open}
use Rattle.rdlpp_state.specs.declared.place.Halt.TheVariants as halt
use Rattle.rdlpp_state.specs.declared.place.PieceLocation.{PieceLocation}
use Rattle.rdlpp_state.proofs.LentPieces.{IsSpent, cut_halt, cut_piece, position_first}
use Rattle.rdlpp_state.proofs.EngineSteps.{follows}
use Rattle.rdlpp_expand.specs.Texts.{IsInTexts, LeavesTexts, StaysDrained, further_parts, place_of}
use Rattle.rdlpp_expand.specs.declared.engine.texts.TextStep.{TextStep}
use Rattle.rdlpp_expand.specs.declared.engine.texts.TextStep.TheVariants.{Fault as AtFault, Lent, Silent}

-- Steps over open texts, and what is known between them.

-- a list that isn't empty has an element
pub some_in : {A : Type 0} (xs : List A) → (length xs == 0) ≡ false → 0 < length xs
some_in [] e = absurd (true≢false e)
some_in (x ∷ xs) e = omega arith

-- where bytes are lent, the main text is open
pub open-lent : {S R : Type 0} (g : Ghosts S R) (n : ℕ) (old new : EngineView S R) (place : PieceLocation) (lent : List ℕ) → UncutStepWithin g n old new (lent_answer new place)
    → lent_answer new place ≡ Ok (Some lent) → new.phase ≡ Open
open-lent g n old new place lent w e = follows new.phase (w.lends lent e).1

-- nothing that is lent needs no room
silent-spent : {S R : Type 0} (e : EngineView S R) → IsSpent e e 0 0
silent-spent {S} {R} e = grind arith

-- a step that lends nothing is one within the limit on the output
pub silent-steps : {S R : Type 0} (g : Ghosts S R) (old new : EngineView S R) → UncutStepWithin g most_silent old new (Ok (Some [])) → Step g old new (Ok (Some []))
silent-steps g old new w = cut_piece g old new new [] 0 0 w refl (silent-spent new)

-- a fault that is kept is answered
pub kept-some : (kept : Option Report) → is_some kept ≡ true → (f : Report) × (kept ≡ Some f)
kept-some None e = absurd (true≢false (sym e))
kept-some (Some f) e = (f, refl)

-- where texts are open after a piece, the next step is one over them unless the limit is passed
pub open-texts : {S R : Type 0} (e : EngineView S R) (b : Bool) → (IsTrue b ↔ (e.phase ≡ Open)) → (e.phase ≡ Open → IsInTexts e) → IsTrue b ↔ IsInTexts e
open-texts e b both leaves = (λ t. leaves (both.0 t), λ t. both.1 t.0.open_)

-- other open texts change nothing of what is pending or kept
pub drained-texts : {S R : Type 0} (old new : EngineView S R) (x : ExpansionView) (marks : MarksView) → IsDrained old → new ≡ record old { expansion = x; marks = marks } → IsDrained new
drained-texts old new x marks drained becomes = rw becomes (record { open_ = drained.open_; free = drained.free; pending = drained.pending })

-- after bytes that were lent a text is open
pub lent-texts : {S R : Type 0} (old new : EngineView S R) (x : ExpansionView) (marks : MarksView) (result : CursorStep) (place : TextPlace) → IsDrained old → result ≡ Lends place
    → StaysLent old.expansion result x → new ≡ record old { expansion = x; marks = marks } → IsInTexts new
unfolding StaysLent
lent-texts old new x marks result place drained is lent becomes = search (arith, drained-texts)

-- the fault of an engine that keeps one is what it answers
pub answer-kept : {S R : Type 0} (g : Ghosts S R) (old new : EngineView S R) (f : Report) → new.kept ≡ Some f → Step g old new (kept_answer new.kept) → Step g old new (Err f)
answer-kept g old new f e s = subst (λ k. Step g old new (kept_answer k)) e s

-- what steps over open texts answer that lend no piece is within the limit on the output
pub other-steps : {S R : Type 0} (g : Ghosts S R) (old new : EngineView S R) (step : TextStep) → ((place : TextPlace) → step ≡ Lent place → ⊥)
    → UncutStepWithin g most_silent old new (step_answer new (place_of step)) → Step g old new (step_answer new (place_of step))
other-steps g old new (Lent place) other w = absurd (other place refl)
other-steps g old new Silent other w = silent-steps g old new w
other-steps g old new AtFault other w = cut_halt g old new halt.Fault w

-- what holds after one step that lends a piece or keeps a fault holds after the steps up to it
pub other-leaves : {S R : Type 0} (step : TextStep) (e : EngineView S R) → (step ≡ Silent → ⊥) → StaysDrained step e → LeavesTexts step e
other-leaves (Lent place) e other stays = λ _. stays
other-leaves Silent e other stays = stays
other-leaves AtFault e other stays = stays

-- a step has one further part at most
pub one_further : (in_texts : Bool) → further_parts in_texts ≤ 1
one_further true = omega arith
one_further false = omega arith

-- with its further part, steps are one more
pub one_more : (n m : ℕ) → m ≤ 1 → n + m ≤ n + 1
one_more n m few = omega (arith, few)

-- and no fewer are allowed where more is taken from what is left
pub still_one_more : (all left cost m : ℕ) → m ≤ 1 → (all - left) + m ≤ all - (left - cost) + 1
still_one_more all left cost m few = omega (arith, few)

-- what is left falls by more than the further parts of a step that costs more
pub spent_more : (all left cost parts : ℕ) → left ≤ all → parts < cost → cost ≤ left → (all - left) + parts < all - (left - cost)
spent_more all left cost parts inside less room = omega (arith, inside, less, room)

-- the parts of which no more than 65,535 are left are 65,536 at most with the last one
pub allowed : (all left : ℕ) → all ≤ 65535 → all - left + 1 ≤ 65536
allowed all left most = omega (arith, most)

-- The place of the piece that was lent last.

-- a fault is kept where one is told
pub told-some : (kept : Option Fault) → is_some (option_map report_of kept) ≡ is_some kept
told-some None = refl
told-some (Some f) = refl

-- what the innermost source shows is the place of the engine
pub position-by : {S R : Type 0} (inside e : EngineView S R) (f : File R) (outer : List (File R)) (name : List ℕ) (place : Option PlaceView) → inside ≡ e → inside.files.include_stack ≡ f ∷ outer
    → is_some e.kept ≡ false → is_open e.phase ≡ true → place ≡ marked_place inside.marks name (shift_of f.shift) → name ≡ f.name.bytes → place ≡ position_of e
position-by {S} {R} inside e f outer name place is include_stack none opens shown named = grind (arith, position_first)

-- The name of the macro that a usage names is that of the usage.

named_so : (ms : List Macro) (name : List ℕ) (m : Macro) → macro_named ms name ≡ Some m → m.name ≡ name
unfolding macro_named
named_so [] name m e = absurd (cc)
named_so (x ∷ ms) name m e = elim (cases_Bool (bytes_eq x.name name)) [
  | inl t ↦
      let first : Some x ≡ Some m = sym (ap (λ (b : Bool). cond b (Some x) (find (λ y. bytes_eq y.name name) ms)) t) ∙ e in
      let same : x ≡ m = ap (λ (o : Option Macro). unwrap_or o x) first in
      subst (λ (y : Macro). y.name ≡ name) same ((bytes_eq-Decides x.name name).0 t)
  | inr f ↦ named_so ms name m (sym (ap (λ (b : Bool). cond b (Some x) (find (λ y. bytes_eq y.name name) ms)) f) ∙ e)
]

-- the name of the macro at a place of a table, where a usage names that macro
pub used_name : (shown table : TableView) (name own : List ℕ) (id : ℕ) → shown ≡ table → own ≡ (macro_at shown.macros id).name
    → macro_named table.macros name ≡ Some (macro_at table.macros id) → own ≡ name
used_name shown table name own id same is named =
    is ∙ ap (λ (t : TableView). (macro_at t.macros id).name) same ∙ named_so table.macros name (macro_at table.macros id) named

-- What holds of each open source.

-- the numbers that its lines show are small
pub slot_number : {R : Type 0} (line_bytes : ℕ) (include_stack : List (File R)) (place : ℕ) (f : File R) → All (IsSlot line_bytes) include_stack → slice_get include_stack place ≡ Some f → f.shift.number < 2 ^ 32
slot_number line_bytes [] place f all e = absurd (none-some f e)
slot_number line_bytes (g ∷ outer) zero f all e = subst (λ (h : File _). h.shift.number < 2 ^ 32) (same_Some g f e) (All-head (IsSlot line_bytes) g outer all).number
slot_number line_bytes (g ∷ outer) (suc k) f all e = slot_number line_bytes outer k f (All-tail (IsSlot line_bytes) g outer all) e

-- the line of its `include` can be counted
pub included_line : {R : Type 0} (include_stack : List (File R)) (place : ℕ) (f : File R) → AreIncluded include_stack → slice_get include_stack place ≡ Some f → f.include_line < 2 ^ 63
included_line [] place f all e = absurd (none-some f e)
included_line (g ∷ outer) zero f all e = subst (λ (h : File _). h.include_line < 2 ^ 63) (same_Some g f e) all.0
included_line (g ∷ outer) (suc k) f all e = included_line outer k f all.1 e
