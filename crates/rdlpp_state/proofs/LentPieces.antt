-- Pieces that are lent: out of what is pending, where they stand, and cut to a limit.
use Rattle.std.proofs.Common.{◌≡◌, ℕ, ◌+◌, ◌-◌, ◌≤◌, ◌<◌, List, ◌++◌, length, take, replicate, Option, Some, refl, sym, ap, ◌∙◌, append_assoc, arith, ◌^◌, Bool, true, false, [], ◌∷◌, ◌==◌, None, subst, drop, Ok, Err, inl, inr, slice_range, IfNone, IfSome, codes, decimal, if◌then◌else◌, is_some, eqb-true, ne_eqb, length-drop, length-take-le, take-take, take_all}
use Rattle.std.proofs.lemmas.Bool.{cases_lt}
use Rattle.std.proofs.lemmas.List.{length-replicate, replicate-append-replicate, take-replicate}
use Rattle.rdlpp_scan.specs.SourceTokens.{line_ends}
use Rattle.rdlpp_scan.specs.declared.token.Mode.{Mode}
use Rattle.rdlpp_define.specs.Macros.{Macro}
use Rattle.rdlpp_define.specs.declared.limits.Limits.{Limits}
use Rattle.rdlpp_meaning.specs.Meaning.{after_bytes, origin_line}
use Rattle.rdlpp_meaning.specs.Outcome.{Outcome, Report, and_then, fails, gives}
use Rattle.rdlpp_meaning.specs.OutputLimit.{limited}
use Rattle.rdlpp_meaning.specs.Parts.{line_ends_of}
use Rattle.rdlpp_meaning.specs.Profile.{rules_of}
use Rattle.rdlpp_meaning.specs.State.{Rules, Shift, State}
use Rattle.rdlpp_meaning.proofs.Outcomes.{limited-fails, limited-gives, limited-past, limited-within}
use Rattle.rdlpp_meaning.proofs.Skipping.{line_ends_of-owed}
use Rattle.rdlpp_source.specs.Sources.{Catalog}
use Rattle.rdlpp_source.specs.declared.sources.Sources.{Ghosts}
use Rattle.rdlpp_texts.specs.Places.{place_bytes, source_text, texts_of}
use Rattle.rdlpp_texts.specs.declared.place.TextPlace.{TextPlace}
use Rattle.rdlpp_read.specs.Conditions.{ConditionsView}
use Rattle.rdlpp_read.specs.Buffer.{entered_mode}
use Rattle.rdlpp_read.specs.Files.{consumed_file, inner_buffer, shift_of, with_buffer, with_inner}
use Rattle.rdlpp_read.specs.declared.files.File.{File}
use Rattle.rdlpp_usages.specs.Usages.{ExpansionView}
use Rattle.rdlpp_state.specs.Engine.{EngineView, is_open}
use Rattle.rdlpp_state.specs.Held.{IsBounded, stores_of}
use Rattle.rdlpp_state.specs.Marks.{MarksView, PlaceView, lends_line, lends_line_end, lends_origin, lends_pending, lends_usage, marked_place}
use Rattle.rdlpp_state.specs.Pending.{OriginView, PendingView, TakesPiece, after_piece, cut_to, digits_of, first_piece, line_from, nothing_pending, origin_bytes, origin_pending, origin_pieces, pending_bytes, pending_number, pending_pieces, part_bytes, pieces_from}
use Rattle.rdlpp_state.specs.Pieces.{IsPlaced, halted_answer, held_texts, kept_answer, lent_answer, pending_part}
use Rattle.rdlpp_state.specs.Positions.{TakesPending, line_end_place, origin_place, pending_place, place_at, position_of, source_place, usage_place}
use Rattle.rdlpp_state.specs.Remaining.{file_state, inner_name, kept_uncut, left_of, include_stack_state, output_fault, phase_uncut, source_rules, state_of, text_of, uncut_of, work_left}
use Rattle.rdlpp_state.specs.Silences.{most_silent}
use Rattle.rdlpp_state.specs.Standing.{StandsIn}
use Rattle.rdlpp_state.specs.Steps.{Step, UncutStepWithin, all_of, has_met, is_call_failed, lent_len, may_follow, no_len}
use Rattle.rdlpp_state.specs.Stored.{HoldsStores, LetsGo}
use Rattle.rdlpp_state.specs.declared.pending.PendingPart.{PendingPart}
use Rattle.rdlpp_state.specs.declared.pending.PendingPart.TheVariants.{Digits, Label, LineEnds, Name}
use Rattle.rdlpp_state.specs.declared.pending.PendingPiece.{PendingPiece}
use Rattle.rdlpp_state.specs.declared.phase.Phase.{Phase}
use Rattle.rdlpp_state.specs.declared.phase.Phase.TheVariants.{Fresh, Open, OverLimit}
use Rattle.rdlpp_state.specs.declared.place.Halt.{Halt}
use Rattle.rdlpp_state.specs.declared.place.Halt.TheVariants.{End, Fault}
use Rattle.rdlpp_state.specs.declared.place.PieceLocation.TheVariants.{Pending, Source, Text}
use Rattle.rdlpp_state.specs.declared.positions.Lent.TheVariants.{Ending, Line, Origin}
use Rattle.rdlpp_state.specs.declared.positions.LineStep.TheVariants.{Next}
use Rattle.rdlpp_state.proofs.EngineSteps.{free_before, ok_not_met}
use Rattle.rdlpp_state.proofs.Stores.{keeps_phase}

-- Pieces taken out of the texts that are pending.

-- all of a list, and then another
whole_after : (xs ys : List ℕ) → xs ++ ys ≡ take (length xs) xs ++ ys
whole_after xs ys = ap (λ (zs : List ℕ). zs ++ ys) (sym (take_all (length xs) xs (omega arith)))

-- LF bytes are taken out
pub takes_line_ends : (name : List ℕ) (pending : PendingView) (len : ℕ) → 0 < len → len ≤ 16 → len ≤ pending.line_ends
    → TakesPiece name pending (record { line_ends = pending.line_ends - len; origin = pending.origin }) (record { part = LineEnds; len = len })
unfolding part_bytes pending_bytes pending_pieces
takes_line_ends name pending len some few within =
    let rest = pending.line_ends - len in
    let split : pending.line_ends ≡ len + rest = omega arith in
    let joined : replicate {A = ℕ} pending.line_ends 10 ≡ replicate len 10 ++ replicate rest 10 =
    ap (λ n. replicate n 10) split ∙ sym (replicate-append-replicate len rest 10) in
    record {
      inside = omega (arith, length-replicate {A = ℕ} 16 10);
      bytes = ap (λ (x : List ℕ). x ++ origin_bytes name pending.origin) joined
          ∙ (append_assoc (replicate len 10) (replicate rest 10) (origin_bytes name pending.origin)
          ∙ ap (λ (x : List ℕ). x ++ (replicate rest 10 ++ origin_bytes name pending.origin)) (sym (take-replicate len 16 10 few)));
      fewer = omega arith;
    }

-- the first piece of an origin line is taken out
pub takes_origin : (part : PendingPart) (name : List ℕ) (number : ℕ)
    → let origin : OriginView = record { part = part; number = number } in
    TakesPiece name (record { line_ends = 0; origin = Some origin }) (record { line_ends = 0; origin = after_piece origin }) (first_piece (length name) origin)
unfolding part_bytes pending_bytes pending_pieces origin_bytes origin_pieces line_from pieces_from after_piece first_piece digits_of
takes_origin Name name number = record { inside = omega arith; bytes = whole_after name _; fewer = omega arith }
takes_origin Digits name number = record { inside = omega arith; bytes = whole_after (decimal number) _; fewer = omega arith }
takes_origin _ name number = record { inside = omega arith; bytes = refl; fewer = omega arith }

-- so it is where nothing stands before it
pub takes_first : (name : List ℕ) (name_len lines : ℕ) (at following : Option OriginView) (origin : OriginView) (piece : PendingPiece)
    → length name ≡ name_len → lines ≤ 0 → at ≡ Some origin → after_piece origin ≡ following → piece ≡ first_piece name_len origin
    → TakesPiece name (record { line_ends = lines; origin = at }) (record { line_ends = lines; origin = following }) piece
takes_first name name_len lines at following origin piece size none is rest first =
    let zero : lines ≡ 0 = omega arith in
    rw (first, ← rest, ← size, zero, is) (takes_origin origin.part name origin.number)

-- The origin lines that are pending, as the meaning has them.

-- a whole origin line
whole_line : (name digits : List ℕ) → line_from Label name digits ≡ codes "// origin: " ++ name ++ 58 ∷ digits ++ 10 ∷ []
unfolding line_from
whole_line name digits = ap (λ (x : List ℕ). codes "// origin: " ++ x) (sym (append_assoc name (58 ∷ digits) (10 ∷ [])))

-- the origin line that is pending where it is asked for
origin_line_pending : (origins : Bool) (rules : Rules) (name : List ℕ) (number : ℕ) → rules.origins ≡ origins → origin_bytes name (origin_pending origins number) ≡ origin_line rules name number
unfolding origin_bytes origin_pending origin_line
origin_line_pending true rules name number asked = rw asked (whole_line name (decimal number))
origin_line_pending false rules name number asked = rw asked refl

-- it has a few pieces
origin_few : (origins : Bool) (number : ℕ) → origin_pieces (origin_pending origins number) ≤ 5
unfolding origin_pieces origin_pending pieces_from
origin_few true number = omega arith
origin_few false number = omega arith

-- it alone is pending
pub pending_origin : (c : Catalog) (limits : Limits) (origins : Bool) (name : List ℕ) (number : ℕ)
    → pending_bytes name (record { line_ends = 0; origin = origin_pending origins number }) ≡ origin_line (source_rules c limits origins) name number
unfolding pending_bytes source_rules rules_of
pending_origin c limits origins name number = origin_line_pending origins (source_rules c limits origins) name number refl

-- LF bytes that are pending, and an origin line after them
pub pending_with_origin : (c : Catalog) (limits : Limits) (origins : Bool) (name w : List ℕ) (lines number : ℕ) → lines ≡ line_ends w
    → pending_bytes name (record { line_ends = lines; origin = origin_pending origins number }) ≡ line_ends_of w ++ origin_line (source_rules c limits origins) name number
unfolding pending_bytes source_rules rules_of
pending_with_origin c limits origins name w lines number counted = grind (arith, origin_line_pending, line_ends_of-owed)

-- an LF that is pending where a text ends in mid-line, and an origin line after it
pub pending_ends_mid_line : (c : Catalog) (limits : Limits) (origins : Bool) (name : List ℕ) (ends_mid_line : Bool) (number : ℕ)
    → pending_bytes name (record { line_ends = if ends_mid_line then 1 else 0; origin = origin_pending origins number }) ≡ (if ends_mid_line then 10 ∷ [] else []) ++ origin_line (source_rules c limits origins) name number
unfolding pending_bytes source_rules rules_of
pending_ends_mid_line c limits origins name true number = ap (λ (x : List ℕ). 10 ∷ x) (origin_line_pending origins (source_rules c limits origins) name number refl)
pending_ends_mid_line c limits origins name false number = origin_line_pending origins (source_rules c limits origins) name number refl

-- they can be counted
pub pending_few : (origins : Bool) (lines number : ℕ) → lines + 5 < 2 ^ 31 → pending_pieces (record { line_ends = lines; origin = origin_pending origins number }) < 2 ^ 31
unfolding pending_pieces
pending_few origins lines number few = let least = origin_few origins number in omega arith

-- The places of pieces, as the marks have them.

-- the place that an engine tells which keeps no fault and whose main text is open
pub position_open : {S R : Type 0} (e : EngineView S R) → e.kept ≡ None → is_open e.phase ≡ true → position_of e ≡ marked_place e.marks (state_of e).name (state_of e).shift
unfolding position_of
position_open e free opens = rw (free, opens) refl

-- the innermost source shows the same name and numbers where bytes of it are used
used_name : {R : Type 0} (limits : Limits) (macros : List Macro) (v : ConditionsView) (include_stack : List (File R)) (len lines : ℕ) (next : Mode)
    → (include_stack_state limits macros v (with_inner (consumed_file len lines) (with_buffer (entered_mode (inner_buffer include_stack) next) include_stack))).name ≡ (include_stack_state limits macros v include_stack).name
unfolding include_stack_state file_state
used_name limits macros v [] len lines next = refl
used_name limits macros v (f ∷ outer) len lines next = refl

used_shift : {R : Type 0} (limits : Limits) (macros : List Macro) (v : ConditionsView) (include_stack : List (File R)) (len lines : ℕ) (next : Mode)
    → (include_stack_state limits macros v (with_inner (consumed_file len lines) (with_buffer (entered_mode (inner_buffer include_stack) next) include_stack))).shift ≡ (include_stack_state limits macros v include_stack).shift
unfolding include_stack_state file_state
used_shift limits macros v [] len lines next = refl
used_shift limits macros v (f ∷ outer) len lines next = refl

-- a line of a source is marked
marked_line : (m : MarksView) (line : ℕ) (name : List ℕ) (shift : Shift) (s : State) → name ≡ s.name → shift ≡ s.shift → marked_place (lends_line line m) name shift ≡ Some (place_at Next line s)
unfolding marked_place lends_line place_at
marked_line m line name shift s named shifted = rw (named, shifted) refl

-- text of the innermost source is lent
pub source_position : {S R : Type 0} (old : EngineView S R) (len lines : ℕ) (next : Mode) → old.kept ≡ None → old.phase ≡ Open
    → position_of (record old { files = record old.files { include_stack = with_inner (consumed_file len lines) (with_buffer (entered_mode (inner_buffer old.files.include_stack) next) old.files.include_stack) }; marks = lends_line (inner_buffer old.files.include_stack).line old.marks })
    ≡ Some (source_place old)
unfolding state_of is_open
source_position old len lines next free open_ = grind (arith, position_open, marked_line, used_name, used_shift)

-- text of a usage is lent
pub usage_position : {S R : Type 0} (old : EngineView S R) (x : ExpansionView) → old.kept ≡ None → old.phase ≡ Open
    → position_of (record old { expansion = x; marks = lends_usage old.expansion.line old.marks }) ≡ Some (usage_place old)
unfolding state_of is_open marked_place lends_usage place_at
usage_position old x free open_ = position_open _ free (ap is_open open_)

-- the first of the LF bytes that are pending is lent
marked_end : (ending : Bool) (m : MarksView) (ends line : ℕ) (s : State) → m.ending ≡ ending
    → marked_place (lends_line_end ends line m) s.name s.shift ≡ Some (if ending then record { name = m.name; line = m.line; step = Next } else place_at Next (line - ends) s)
unfolding marked_place lends_line_end place_at
marked_end true m ends line s is = rw is refl
marked_end false m ends line s is = rw is refl

-- a piece of an origin line is lent
marked_origin : (origin : Option OriginView) (m : MarksView) (s : State) → 0 < origin_pieces origin → marked_place (lends_origin origin m) s.name s.shift ≡ origin_place s.name origin
unfolding marked_place lends_origin origin_place origin_pieces
marked_origin None m s some = absurd (omega arith)
marked_origin (Some origin) m s some = refl

-- one that falls isn't 0
some_pieces : (pending rest : PendingView) → pending_pieces rest < pending_pieces pending → (pending.line_ends == 0) ≡ true → 0 < origin_pieces pending.origin
unfolding pending_pieces
some_pieces pending rest fewer none = let zeroth = eqb-true pending.line_ends 0 none in omega arith

-- the first piece of what is pending is lent
marked_pending : {S R : Type 0} (b : Bool) (e : EngineView S R) (rest : PendingView) → (e.pending.line_ends == 0) ≡ b → pending_pieces rest < pending_pieces e.pending
    → marked_place (lends_pending e.pending (inner_buffer e.files.include_stack).line e.marks) (state_of e).name (state_of e).shift ≡ pending_place e
unfolding lends_pending pending_place line_end_place
marked_pending true e rest is fewer = rw is (marked_origin e.pending.origin e.marks (state_of e) (some_pieces e.pending rest fewer is))
marked_pending false e rest is fewer = rw is (marked_end e.marks.ending e.marks e.pending.line_ends (inner_buffer e.files.include_stack).line (state_of e) refl)

pub pending_position : {S R : Type 0} (old : EngineView S R) (rest : PendingView) (piece : PendingPiece) → TakesPiece (inner_name old.files.include_stack) old.pending rest piece → old.kept ≡ None → old.phase ≡ Open
    → position_of (record old { pending = rest; marks = lends_pending old.pending (inner_buffer old.files.include_stack).line old.marks }) ≡ pending_place old
unfolding state_of is_open
pending_position old rest piece takes free open_ = position_open _ free (ap is_open open_) ∙ marked_pending (old.pending.line_ends == 0) old rest refl takes.fewer

-- nothing is marked where nothing is pending
pub drained_marks : (line : ℕ) (m : MarksView) → lends_pending nothing_pending line m ≡ m
unfolding lends_pending lends_origin nothing_pending
drained_marks line m = refl

-- how far an engine is, and what may still be lent, doesn't change the place while its main text is open
pub position_kept : {S R : Type 0} (mid new : EngineView S R) → new ≡ record mid { phase = new.phase; quota = new.quota } → mid.kept ≡ None → is_open mid.phase ≡ true → is_open new.phase ≡ true
    → position_of new ≡ position_of mid
unfolding state_of
position_kept {S} {R} mid new becomes free opens still = grind (arith, position_open)

-- the marks of an engine were changed, and nothing else
pub marking : {S R : Type 0} (inside e after : EngineView S R) (m : MarksView) (change : MarksView → MarksView) → inside ≡ e → e ≡ after → m ≡ change inside.marks
    → record inside { marks = m } ≡ record after { marks = change after.marks }
marking {S} {R} inside e after m change is becomes marks =
    ap (λ (n : MarksView). record inside { marks = n }) marks ∙ ap (λ (x : EngineView S R). record x { marks = change x.marks }) (is ∙ becomes)

-- no fault is kept
no_fault : (kept : Option Report) → is_some kept ≡ false → kept ≡ None
no_fault None e = refl
no_fault (Some f) e = cc e

-- the place where a fault is kept, and where no main text is open
nowhere_by : {S R : Type 0} (e : EngineView S R) (kept : Option Report) → e.kept ≡ kept → is_some kept ≡ true → position_of e ≡ None
unfolding position_of
nowhere_by e None is some = cc some
nowhere_by e (Some f) is some = rw is refl

pub nowhere_kept : {S R : Type 0} (e : EngineView S R) → is_some e.kept ≡ true → position_of e ≡ None
nowhere_kept e some = nowhere_by e e.kept refl some

nowhere_free : {S R : Type 0} (e : EngineView S R) (kept : Option Report) → e.kept ≡ kept → is_open e.phase ≡ false → position_of e ≡ None
unfolding position_of
nowhere_free e None is closed = rw (is, closed) refl
nowhere_free e (Some f) is closed = rw is refl

pub nowhere_closed : {S R : Type 0} (e : EngineView S R) → is_open e.phase ≡ false → position_of e ≡ None
nowhere_closed e closed = nowhere_free e e.kept refl closed

-- what the innermost source shows
pub first_name : {S R : Type 0} (e : EngineView S R) (f : File R) (outer : List (File R)) → e.files.include_stack ≡ f ∷ outer → (state_of e).name ≡ f.name.bytes
unfolding state_of include_stack_state file_state
first_name {S} {R} e f outer is = ap (λ (ns : List (File R)). (include_stack_state e.limits e.table.macros e.conditions ns).name) is

pub first_shift : {S R : Type 0} (e : EngineView S R) (f : File R) (outer : List (File R)) → e.files.include_stack ≡ f ∷ outer → (state_of e).shift ≡ shift_of f.shift
unfolding state_of include_stack_state file_state
first_shift {S} {R} e f outer is = ap (λ (ns : List (File R)). (include_stack_state e.limits e.table.macros e.conditions ns).shift) is

pub position_first : {S R : Type 0} (e : EngineView S R) (f : File R) (outer : List (File R)) → e.files.include_stack ≡ f ∷ outer → is_some e.kept ≡ false → is_open e.phase ≡ true
    → position_of e ≡ marked_place e.marks f.name.bytes (shift_of f.shift)
position_first e f outer is none opens =
    position_open e (no_fault e.kept none) opens ∙ (ap (λ (n : List ℕ). marked_place e.marks n (state_of e).shift) (first_name e f outer is) ∙ ap (marked_place e.marks f.name.bytes) (first_shift e f outer is))

-- nothing is taken out of what is pending, and nothing is marked
pub untaken : {S R : Type 0} (result : Option PendingPiece) (inside old : EngineView S R) (m : MarksView) (rest : PendingView) (line : ℕ) → inside ≡ old → m ≡ lends_pending inside.pending line inside.marks
    → IfNone result ((inside.pending ≡ nothing_pending) × (rest ≡ inside.pending)) → IfNone result ((old.pending ≡ nothing_pending) × (record inside { marks = m; pending = rest } ≡ old))
untaken (Some piece) inside old m rest line is marks none = tt
untaken None inside old m rest line is marks none = grind (arith, drained_marks)

-- the first piece is taken out, and its place is marked
pub takes_marked : {S R : Type 0} (result : Option PendingPiece) (inside old : EngineView S R) (m : MarksView) (rest : PendingView) (line name_len : ℕ) → inside ≡ old → m ≡ lends_pending inside.pending line inside.marks
    → line ≡ (inner_buffer old.files.include_stack).line → length (inner_name old.files.include_stack) ≡ name_len
    → IfSome result (λ piece. (name : List ℕ) → length name ≡ name_len → TakesPiece name inside.pending rest piece) → IfSome result (TakesPending old (record inside { marks = m; pending = rest }))
takes_marked None inside old m rest line name_len is marks here size takes = tt
takes_marked {S} {R} (Some piece) inside old m rest line name_len is marks here size takes = grind arith

-- and so is what is pending, or the open texts
pub owing_marked : {S R : Type 0} (inside e : EngineView S R) (pending : PendingView) (m : MarksView) (change : MarksView → MarksView) → inside ≡ e → m ≡ change inside.marks
    → record inside { pending = pending; marks = m } ≡ record e { pending = pending; marks = change e.marks }
owing_marked {S} {R} inside e pending m change is marks =
    ap (λ (n : MarksView). record inside { pending = pending; marks = n }) marks ∙ ap (λ (x : EngineView S R). record x { pending = pending; marks = change x.marks }) is

pub marked_usage : {S R : Type 0} (inside old : EngineView S R) (x : ExpansionView) (m : MarksView) (line : ℕ) → inside ≡ old → m ≡ lends_usage line inside.marks → line ≡ old.expansion.line
    → record inside { expansion = x; marks = m } ≡ record old { expansion = x; marks = lends_usage old.expansion.line old.marks }
marked_usage {S} {R} inside old x m line is marks here = grind arith

-- what is marked where a piece of what is pending is lent, by what is pending
origin_marked : (origin : Option OriginView) (m : MarksView) (n : ℕ) → pending_number origin ≡ Some n → record m { lent = Origin n } ≡ lends_origin origin m
unfolding lends_origin
origin_marked None m n is = cc is
origin_marked (Some origin) m n is = let same : n ≡ origin.number = cc is in ap (λ (k : ℕ). record m { lent = Origin k }) same

origin_unmarked : (origin : Option OriginView) (m : MarksView) → pending_number origin ≡ None → m ≡ lends_origin origin m
unfolding lends_origin
origin_unmarked None m is = refl
origin_unmarked (Some origin) m is = cc is

pub marks_origin : (pending : PendingView) (line : ℕ) (m : MarksView) (n : ℕ) → pending.line_ends ≡ 0 → pending_number pending.origin ≡ Some n → record m { lent = Origin n } ≡ lends_pending pending line m
unfolding lends_pending
marks_origin pending line m n none is = rw none (origin_marked pending.origin m n is)

pub marks_nothing : (pending : PendingView) (line : ℕ) (m : MarksView) → pending.line_ends ≡ 0 → pending_number pending.origin ≡ None → m ≡ lends_pending pending line m
unfolding lends_pending
marks_nothing pending line m none is = rw none (origin_unmarked pending.origin m is)

pub marks_ending : (pending : PendingView) (line : ℕ) (m : MarksView) → (pending.line_ends ≡ 0 → ⊥) → m.ending ≡ true → record m { lent = Ending; ending = false } ≡ lends_pending pending line m
unfolding lends_pending lends_line_end
marks_ending pending line m some is = rw (ne_eqb pending.line_ends 0 some, is) refl

pub marks_line : (pending : PendingView) (line n : ℕ) (m : MarksView) → (pending.line_ends ≡ 0 → ⊥) → m.ending ≡ false → n ≡ line - pending.line_ends → record m { lent = Line n } ≡ lends_pending pending line m
unfolding lends_pending lends_line_end
marks_line pending line n m some is here = rw (ne_eqb pending.line_ends 0 some, is, here) refl

-- A step cut to the bytes that may still be lent.

-- how long a part is
pub part_len : (xs : List ℕ) (from to : ℕ) → from ≤ to → to ≤ length xs → length (slice_range xs from to) ≡ to - from
part_len xs from to order inside = length-take-le (to - from) (drop from xs) (omega (arith, length-drop from xs))

-- the first bytes of a part
pub part_cut : (xs : List ℕ) (from to len : ℕ) → len ≤ to - from → slice_range xs from (from + len) ≡ take len (slice_range xs from to)
part_cut xs from to len h = grind (arith, take-take)

-- an outcome without bytes is within each limit
tells_end : (over : Report) (quota : ℕ) (o : Outcome) → o ≡ gives [] → limited over quota o ≡ gives []
unfolding gives
tells_end over quota o is = ap (limited over quota) is ∙ limited-within over quota (gives []) (omega arith)

-- a step that ends the output, or tells its fault
module _ {S R : Type 0} (g : Ghosts S R) (old new : EngineView S R) where
  cut_end : UncutStepWithin g most_silent old new (Ok None) → Step g old new (Ok None)
  unfolding left_of no_len lent_len
  cut_end w = record {
    limits = w.limits;
    origins = w.origins;
    main = w.main;
    started = w.started;
    kept = w.kept;
    ended = w.ended;
    passed = w.passed;
    keeps = w.keeps;
    free = w.free;
    own = w.own;
    ends = w.ends;
    failed = w.failed;
    call = w.call;
    answers = λ own t. (let told = w.answers own t in (tells_end _ _ _ told.0, tells_end _ _ _ told.1));
    text = w.text;
    reads = w.reads;
    ends_or_faults = w.ends_or_faults;
    falls = w.falls;
    lends = λ bytes e. absurd (cc);
    quota = w.quota;
    most_bytes = w.most_bytes;
    most_macros = w.most_macros;
    bounded = w.bounded;
    stands = λ _ _ bytes e. absurd (cc);
    lets_go = w.lets_go;
    stores = w.stores;
  }

  pub cut_fault : (f : Report) → UncutStepWithin g most_silent old new (Err f) → Step g old new (Err f)
  unfolding left_of no_len lent_len
  cut_fault f w = record {
    limits = w.limits;
    origins = w.origins;
    main = w.main;
    started = w.started;
    kept = w.kept;
    ended = w.ended;
    passed = w.passed;
    keeps = w.keeps;
    free = w.free;
    own = w.own;
    ends = w.ends;
    failed = w.failed;
    call = w.call;
    answers = λ own t. ap (limited (output_fault old.main) old.quota) (w.answers own t) ∙ limited-fails (output_fault old.main) old.quota f;
    text = w.text;
    reads = w.reads;
    ends_or_faults = w.ends_or_faults;
    falls = w.falls;
    lends = λ bytes e. absurd (cc);
    quota = w.quota;
    most_bytes = w.most_bytes;
    most_macros = w.most_macros;
    bounded = w.bounded;
    stands = λ _ _ bytes e. absurd (cc);
    lets_go = w.lets_go;
    stores = w.stores;
  }

-- what remains without the limit doesn't hang on what may still be lent
module _ {S R : Type 0} (g : Ghosts S R) (e : EngineView S R) (quota : ℕ) where
  phase_same : (phase : Phase) → phase_uncut g phase (record e { quota = quota }) ≡ phase_uncut g phase e
  unfolding phase_uncut text_of state_of
  phase_same Fresh = refl
  phase_same _ = refl

  kept_same : (kept : Option Report) → kept_uncut g kept (record e { quota = quota }) ≡ kept_uncut g kept e
  unfolding kept_uncut
  kept_same None = phase_same e.phase
  kept_same (Some f) = refl

  uncut_same : uncut_of g (record e { quota = quota }) ≡ uncut_of g e
  unfolding uncut_of
  uncut_same = kept_same e.kept

-- where bytes may follow, the main text is open
follows_open : (p : Phase) → may_follow p ≡ true → is_open p ≡ true
unfolding may_follow is_open
follows_open Open h = refl
follows_open _ h = cc h

-- the text, the work left and what is held don't hang on how far an engine is, nor on what may still be lent
same_text : {S R : Type 0} (g : Ghosts S R) (e : EngineView S R) (phase : Phase) (quota : ℕ) → text_of g (record e { phase = phase; quota = quota }) ≡ text_of g e
unfolding text_of state_of
same_text g e phase quota = refl

same_work : {S R : Type 0} (e : EngineView S R) (phase : Phase) (quota : ℕ) → work_left (record e { phase = phase; quota = quota }) ≡ work_left e
unfolding work_left
same_work e phase quota = refl

same_bound : {S R : Type 0} (e : EngineView S R) (phase : Phase) (quota : ℕ) → IsBounded e → IsBounded (record e { phase = phase; quota = quota })
unfolding stores_of
same_bound e phase quota b = record { bytes = b.bytes; windows = b.windows; cursors = b.cursors; bindings = b.bindings; conditions = b.conditions; sources = b.sources; texts = b.texts }

-- what a walk that lent bytes says of what remains
module _ {S R : Type 0} (g : Ghosts S R) (old mid new : EngineView S R) (xs : List ℕ) (w : UncutStepWithin g most_silent old mid (Ok (Some xs))) where
  free_old : old.kept ≡ None
  free_old = free_before g (uncut_of g) no_len all_of may_follow old mid old.kept (Some xs) refl w

  uncut_tells : g.has_known_texts old.sources → uncut_of g old ≡ and_then (gives xs) (uncut_of g mid)
  uncut_tells t = w.answers (ok_not_met is_call_failed old.kept (Some xs)) t

  -- a walk that lent bytes, and then only what may be lent and how far the engine is changed
  lent_step : (ys : List ℕ) → new ≡ record mid { phase = new.phase; quota = new.quota } → (new.phase ≡ Fresh → ⊥) → is_open new.phase ≡ true
      → (g.has_known_texts old.sources → left_of g old ≡ and_then (gives ys) (left_of g new)) → ys ≡ take old.quota xs → new.quota + length ys ≡ old.quota
      → Step g old new (Ok (Some ys))
  unfolding has_met lent_len all_of
  lent_step ys becomes started opens has_known_texts part quota =
      let limits : new.limits ≡ mid.limits = ap (λ e. e.limits) becomes in
      let sources : new.sources ≡ mid.sources = ap (λ e. e.sources) becomes in
      let none : has_met is_call_failed old.kept (Ok (Some xs)) ≡ false = ok_not_met is_call_failed old.kept (Some xs) in
      record {
        limits = limits ∙ w.limits;
        origins = ap (λ e. e.origins) becomes ∙ w.origins;
        main = ap (λ e. e.main) becomes ∙ w.main;
        started = started;
        kept = λ f is. absurd (let no : None ≡ Some f = sym free_old ∙ is in cc);
        ended = λ _ closed. absurd (let no : Ok (Some xs) ≡ Ok None = (w.ended free_old closed).0 in cc);
        passed = λ _ past. absurd (let no : Ok (Some xs) ≡ Err (output_fault old.main) = (w.passed free_old past).0 in cc);
        keeps = tt;
        free = ap (λ e. e.kept) becomes ∙ w.free;
        own = λ _. tt;
        ends = λ e. absurd (cc);
        failed = λ met. absurd (let no : false ≡ _ = rw free_old at met in cc);
        call = rw (free_old, sources) (rw free_old at w.call);
        answers = λ own t. has_known_texts t;
        text = λ free open_ own t.
            let piece = w.text free open_ none t in
            record {
              piece = piece.piece;
              lent = part ∙ ap (take old.quota) piece.lent;
              text = piece.text ∙ ap (after_bytes piece.piece) (sym (ap (text_of g) becomes ∙ same_text g mid new.phase new.quota));
            };
        reads = λ met. absurd (let no : false ≡ true = rw free_old at met in cc);
        ends_or_faults = λ _ _. tt;
        falls = λ bytes e. (let less = w.falls xs refl in let same : work_left new ≡ work_left mid = ap work_left becomes ∙ same_work mid new.phase new.quota in omega arith);
        lends = λ bytes e. ((w.lends xs refl).0, opens);
        quota = quota;
        most_bytes = ap (λ e. e.table.most_bytes) becomes ∙ w.most_bytes;
        most_macros = ap (λ e. e.table.most_macros) becomes ∙ w.most_macros;
        bounded = subst IsBounded (sym becomes) (same_bound mid new.phase new.quota w.bounded);
        stands = λ free open_ bytes e.
            let l = w.stands free open_ xs refl in
            let same : ys ≡ bytes = cc e in
            record {
              at = l.at;
              reached = l.reached;
              few = l.few;
              text = l.text;
              after = l.after;
              becomes = becomes ∙ ap (λ (m : EngineView S R). record m { phase = new.phase; quota = new.quota }) l.becomes;
              piece = l.piece;
              lent = sym same ∙ part ∙ ap (take old.quota) l.lent;
              stands = subst (λ (p : Option PlaceView). StandsIn g l.at l.after l.piece p) (sym (position_kept mid new becomes w.free (follows_open mid.phase (w.lends xs refl).1) opens)) l.stands;
            };
        lets_go = λ h. subst LetsGo (sym becomes) ((keeps_phase g mid new.phase new.quota w.free).lets_go (w.lets_go h));
        stores = λ t h. subst (HoldsStores g) (sym becomes) ((keeps_phase g mid new.phase new.quota w.free).stores (w.call.has_known_texts t) (w.stores t h));
      }

  -- the whole piece may be lent
  pub cut_fits : length xs ≤ old.quota → new ≡ record mid { quota = mid.quota - length xs } → Step g old new (Ok (Some xs))
  unfolding left_of no_len
  cut_fits fits becomes =
      let quota : mid.quota ≡ old.quota = (let q = w.quota in omega arith) in
      let phase : new.phase ≡ mid.phase = ap (λ e. e.phase) becomes in
      let spent : new.quota ≡ mid.quota - length xs = ap (λ e. e.quota) becomes in
      let changes : Phase → ℕ → EngineView S R = λ p q. record mid { phase = p; quota = q } in
      lent_step xs (becomes ∙ (ap (changes mid.phase) (sym spent) ∙ ap (λ p. changes p new.quota) (sym phase))) (λ e. w.started (sym phase ∙ e)) (ap is_open phase ∙ follows_open mid.phase (w.lends xs refl).1)
      (λ t. ap (limited (output_fault old.main) old.quota) (uncut_tells t)
      ∙ limited-gives (output_fault old.main) old.quota xs (uncut_of g mid) fits
      ∙ ap (λ (n : List ℕ). and_then (gives xs) (limited (output_fault n) (old.quota - length xs) (uncut_of g mid))) (sym w.main)
      ∙ ap (λ (q : ℕ). and_then (gives xs) (limited (output_fault mid.main) (q - length xs) (uncut_of g mid))) (sym quota)
      ∙ ap (λ (o : Outcome). and_then (gives xs) (limited (output_fault mid.main) (mid.quota - length xs) o)) (sym (uncut_same g mid (mid.quota - length xs)))
      ∙ ap (λ (e : EngineView S R). and_then (gives xs) (left_of g e)) (sym becomes))
      (sym (take_all old.quota xs fits)) (omega arith)

  -- a part of the piece may be lent
  pub cut_passes : old.quota < length xs → new ≡ record mid { phase = OverLimit; quota = 0 } → Step g old new (Ok (Some (take old.quota xs)))
  unfolding left_of uncut_of kept_uncut phase_uncut no_len is_open
  cut_passes passes becomes =
      let phase : new.phase ≡ OverLimit = ap (λ e. e.phase) becomes in
      let none : new.quota ≡ 0 = ap (λ e. e.quota) becomes in
      let changes : Phase → ℕ → EngineView S R = λ p q. record mid { phase = p; quota = q } in
      let size : length (take old.quota xs) ≡ old.quota = length-take-le old.quota xs (omega arith) in
      let over : left_of g new ≡ fails (output_fault mid.main) =
      ap (left_of g) becomes ∙ rw w.free (limited-fails (output_fault mid.main) 0 (output_fault mid.main)) in
      lent_step (take old.quota xs) (becomes ∙ (ap (changes OverLimit) (sym none) ∙ ap (λ p. changes p new.quota) (sym phase))) (λ e. (let no : OverLimit ≡ Fresh = sym phase ∙ e in cc)) (ap is_open phase)
      (λ t. ap (limited (output_fault old.main) old.quota) (uncut_tells t)
      ∙ limited-past (output_fault old.main) old.quota xs (uncut_of g mid) passes
      ∙ ap (λ (n : List ℕ). and_then (gives (take old.quota xs)) (fails (output_fault n))) (sym w.main)
      ∙ ap (λ (o : Outcome). and_then (gives (take old.quota xs)) o) (sym over))
      refl (omega arith)

-- a piece of so many bytes, of which so many were lent
pub record IsSpent {S R : Type 0} (mid new : EngineView S R) (n len : ℕ) : Type 0 where
  pub fits : n ≤ mid.quota → (len ≡ n) × (new ≡ record mid { quota = mid.quota - n })
  pub passes : mid.quota < n → (len ≡ mid.quota) × (new ≡ record mid { phase = OverLimit; quota = 0 })

-- no more than the piece has, and only what may be lent and how far the engine is changed
pub record IsPart {S R : Type 0} (mid new : EngineView S R) (n len : ℕ) : Type 0 where
  pub inside : len ≤ n
  pub files : new.files ≡ mid.files
  pub table : new.table ≡ mid.table
  pub pending : new.pending ≡ mid.pending
  pub expansion : new.expansion ≡ mid.expansion

spent_part : {S R : Type 0} (mid new : EngineView S R) (n len : ℕ) → IsSpent mid new n len → IsPart mid new n len
spent_part mid new n len spent = grind (arith, cases_lt)

-- a piece, cut to what may still be lent
pub cut_piece : {S R : Type 0} (g : Ghosts S R) (old mid new : EngineView S R) (xs : List ℕ) (n len : ℕ) → UncutStepWithin g most_silent old mid (Ok (Some xs)) → length xs ≡ n → IsSpent mid new n len → Step g old new (Ok (Some (take len xs)))
unfolding no_len
cut_piece {S} {R} g old mid new xs n len w size spent =
    let quota : mid.quota ≡ old.quota = (let q = w.quota in omega arith) in
    let P : List ℕ → Type 0 = λ ys. Step g old new (Ok (Some ys)) in
    let keeps : ℕ → EngineView S R = λ k. record mid { quota = mid.quota - k } in
    elim (cases_lt mid.quota n) [
      | inl over ↦
          let p = spent.passes over in
          subst P (ap (λ k. take k xs) (sym quota ∙ sym p.0)) (cut_passes g old mid new xs w (omega arith) p.1)
      | inr under ↦
          let p = spent.fits under in
          subst P (sym (take_all len xs (omega (arith, p.0)))) (cut_fits g old mid new xs w (omega arith) (p.1 ∙ ap keeps (sym size)))
    ]

-- a step of which the same bytes are told
told_bytes : {S R : Type 0} (g : Ghosts S R) (old new : EngineView S R) (xs ys : List ℕ) → ys ≡ xs → Step g old new (Ok (Some xs)) → Step g old new (Ok (Some ys))
told_bytes g old new xs ys same steps = subst (λ (zs : List ℕ). Step g old new (Ok (Some zs))) (sym same) steps

-- a part of the open source's buffer, cut to what may still be lent
pub cut_source : {S R : Type 0} (g : Ghosts S R) (old mid new : EngineView S R) (from to len : ℕ) → UncutStepWithin g most_silent old mid (lent_answer mid (Source from to))
    → IsPlaced mid (Source from to) → IsSpent mid new (to - from) len → Step g old new (lent_answer new (Source from (from + len)))
cut_source {S} {R} g old mid new from to len w placed spent =
    let part = spent_part mid new (to - from) len spent in
    let xs = slice_range (inner_buffer mid.files.include_stack).window from to in
    told_bytes g old new (take len xs) (slice_range (inner_buffer new.files.include_stack).window from (from + len))
    (ap (λ f. slice_range (inner_buffer f.include_stack).window from (from + len)) part.files ∙ part_cut (inner_buffer mid.files.include_stack).window from to len part.inside)
    (cut_piece g old mid new xs (to - from) len w (part_len (inner_buffer mid.files.include_stack).window from to placed.1 placed.2) spent)

-- the beginning of a place of an open text
abbrev pub cut_place : TextPlace → ℕ → TextPlace
cut_place place len = record { source = place.source; from = place.from; end = place.from + len }

-- the texts are the same
texts_same : {S R : Type 0} (mid new : EngineView S R) (n len : ℕ) → IsPart mid new n len → held_texts new ≡ held_texts mid
texts_same mid new n len part = ap (λ t. texts_of t.macros new.expansion.arguments) part.table ∙ ap (λ x. texts_of mid.table.macros x.arguments) part.expansion

-- a part of an open text, cut to what may still be lent
pub cut_text : {S R : Type 0} (g : Ghosts S R) (old mid new : EngineView S R) (place : TextPlace) (len : ℕ) → UncutStepWithin g most_silent old mid (lent_answer mid (Text place))
    → IsPlaced mid (Text place) → IsSpent mid new (place.end - place.from) len → Step g old new (lent_answer new (Text (cut_place place len)))
unfolding place_bytes
cut_text {S} {R} g old mid new place len w placed spent =
    let part = spent_part mid new (place.end - place.from) len spent in
    let text = source_text (held_texts mid) place.source in
    told_bytes g old new (take len (slice_range text place.from place.end)) (slice_range (source_text (held_texts new) place.source) place.from (place.from + len))
    (ap (λ ts. slice_range (source_text ts place.source) place.from (place.from + len)) (texts_same mid new (place.end - place.from) len part) ∙ part_cut text place.from place.end len part.inside)
    (cut_piece g old mid new (slice_range text place.from place.end) (place.end - place.from) len w (part_len text place.from place.end placed.order placed.inside) spent)

-- it lies in that text
pub text_cut_placed : {S R : Type 0} (mid new : EngineView S R) (place : TextPlace) (len : ℕ) → IsPlaced mid (Text place) → IsSpent mid new (place.end - place.from) len → IsPlaced new (Text (cut_place place len))
text_cut_placed {S} {R} mid new place len placed spent = grind (arith, spent_part, texts_same)

-- the fault that is kept, or the end where none is
cut_kept : {S R : Type 0} (g : Ghosts S R) (old new : EngineView S R) (kept : Option Report) → UncutStepWithin g most_silent old new (kept_answer kept) → Step g old new (kept_answer kept)
cut_kept g old new None w = cut_end g old new w
cut_kept g old new (Some f) w = cut_fault g old new f w

-- where nothing more is lent, nothing is cut
pub cut_halt : {S R : Type 0} (g : Ghosts S R) (old new : EngineView S R) (halt : Halt) → UncutStepWithin g most_silent old new (halted_answer new halt) → Step g old new (halted_answer new halt)
cut_halt g old new End w = cut_end g old new w
cut_halt g old new Fault w = cut_kept g old new new.kept w

-- the part is the same where only what may be lent and how far the engine is changed
part_same : {S R : Type 0} (mid new : EngineView S R) (piece : PendingPiece) (n len k : ℕ) → IsPart mid new n len → pending_part new (cut_to piece k) ≡ pending_part mid piece
unfolding cut_to
part_same mid new piece n len k part = grind arith

-- a piece that is pending, cut to what may still be lent
pub cut_pending : {S R : Type 0} (g : Ghosts S R) (old mid new : EngineView S R) (piece : PendingPiece) (len : ℕ) → UncutStepWithin g most_silent old mid (lent_answer mid (Pending piece))
    → IsPlaced mid (Pending piece) → IsSpent mid new piece.len len → Step g old new (lent_answer new (Pending (cut_to piece len)))
unfolding cut_to
cut_pending g old mid new piece len w placed spent =
    let part = spent_part mid new piece.len len spent in
    let xs = pending_part mid piece in
    told_bytes g old new (take len (take piece.len xs)) (take len (pending_part new (cut_to piece len)))
    (ap (take len) (part_same mid new piece piece.len len len part) ∙ sym (take-take len piece.len xs part.inside))
    (cut_piece g old mid new (take piece.len xs) piece.len len w (length-take-le piece.len xs placed.1) spent)

-- such a piece is a place
pub pending_placed : {S R : Type 0} (mid new : EngineView S R) (piece : PendingPiece) (len : ℕ) → IsPlaced mid (Pending piece) → IsSpent mid new piece.len len → IsPlaced new (Pending (cut_to piece len))
unfolding cut_to
pending_placed mid new piece len placed spent = grind (arith, spent_part, part_same)
