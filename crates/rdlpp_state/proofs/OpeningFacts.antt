-- A new engine: its bound, its stores, and the opening of its main text.
use Rattle.std.proofs.Common.{◌≡◌, inl, ℕ, ◌+◌, ◌*◌, ◌^◌, ◌≤◌, ◌<◌, List, [], ◌∷◌, ◌++◌, None, length, map, ap, ◌∙◌, subst, arith, Bool, Some, refl, sym, suc, zero, ◌&&◌, true, false, take, leb, get_or, Err, inr, All, IsCharBoundary, mul-le-mul_right, take_all}
use Rattle.std.proofs.lemmas.Bool.{cases_lt, cond-false, cond-true}
use Rattle.std.proofs.lemmas.Bool.Decides.{nat_tests}
use Rattle.std.proofs.lemmas.List.{get_or_past, reverse-append}
use Rattle.std.proofs.lemmas.List.Elements.{All-append, All-cons, All-head, All-nil, All-same, All-tail}
use Rattle.rdlpp_scan.specs.SourceTokens.{SourceToken, whole_tokens}
use Rattle.rdlpp_define.specs.Limits.{AreInRange}
use Rattle.rdlpp_define.specs.declared.limits.Limits.{Limits}
use Rattle.rdlpp_table.proofs.Sizes.{length_table_bytes}
use Rattle.rdlpp_meaning.specs.Meaning.{Passage, after_bytes, origin_line, outcome}
use Rattle.rdlpp_meaning.specs.Opened.{all_resumed}
use Rattle.rdlpp_meaning.specs.Outcome.{Outcome, Report, and_then, fails, gives}
use Rattle.rdlpp_meaning.specs.Output.{character_place, name_cut, opening_fault, output, start_state}
use Rattle.rdlpp_meaning.specs.OutputLimit.{limited, limited_output, search_rules, unlimited_output}
use Rattle.rdlpp_meaning.specs.Profile.{rules_of}
use Rattle.rdlpp_meaning.specs.Resumed.{Live, remains}
use Rattle.rdlpp_meaning.specs.State.{LongPath, Lookup, NoSource, Rules, State, no_shift}
use Rattle.rdlpp_meaning.specs.declared.fault.FaultKind.{FaultKind}
use Rattle.rdlpp_meaning.specs.declared.fault.FaultKind.TheVariants.{PathTooLong, ReadFailed, SourceMemory, SourceNotFound}
use Rattle.rdlpp_meaning.proofs.Directives.{all_resumed_alone}
use Rattle.rdlpp_meaning.proofs.Outcomes.{limited-fails, outcome-after_bytes, output_found, output_missing, output_overlong}
use Rattle.rdlpp_source.specs.Counts.{Counts}
use Rattle.rdlpp_source.specs.Sources.{Answer, Catalog, Finds, Present, is_device, is_no_memory}
use Rattle.rdlpp_source.specs.declared.sources.Found.{Found}
use Rattle.rdlpp_source.specs.declared.sources.SourceFault.{SourceFault}
use Rattle.rdlpp_source.specs.declared.sources.SourceFault.TheVariants as source
use Rattle.rdlpp_source.specs.declared.sources.Sources.{Ghosts}
use Rattle.rdlpp_texts.specs.Opened.{bound_by}
use Rattle.rdlpp_read.specs.Buffer.{ahead_of, held_of, opened_buffer, rest_of, tokens_left, unread_of}
use Rattle.rdlpp_read.specs.Files.{AreOpen, IsSlot, entered_file, held_windows}
use Rattle.rdlpp_read.specs.declared.files.File.{File}
use Rattle.rdlpp_read.proofs.BufferTokens.{held-bound, held_windows-len}
use Rattle.rdlpp_front.specs.SourceLeft.{source_left}
use Rattle.rdlpp_usages.specs.Usages.{IsRoomy}
use Rattle.rdlpp_state.specs.Engine.{AreOpenTexts, EngineView, IsSoundEngine, is_open}
use Rattle.rdlpp_state.specs.Failures.{MayGoOn}
use Rattle.rdlpp_state.specs.Held.{HoldsDefinitions, IsBounded, bound_of, held_bytes, held_told, stores_of}
use Rattle.rdlpp_state.specs.Includes.{kind_of_source}
use Rattle.rdlpp_state.specs.Opening.{Starts, fresh_engine, is_device_fault, is_memory_fault, is_opening_kind, looked_up_output, opened_engine, searches_of, unopened_engine}
use Rattle.rdlpp_state.specs.Pending.{pending_bytes}
use Rattle.rdlpp_state.specs.Remaining.{file_state, inner_name, kept_uncut, left_of, lookup_of, include_stack_left, include_stack_state, output_fault, phase_uncut, run_rules, source_rules, uncut_of, waiting_around}
use Rattle.rdlpp_state.specs.Steps.{is_memory_kind, is_read_failed}
use Rattle.rdlpp_state.specs.Stored.{AreParts, HoldsNoText, HoldsStores, LetsGo}
use Rattle.rdlpp_state.specs.declared.phase.Phase.TheVariants.{Closed}
use Rattle.rdlpp_state.proofs.IncludeStackLeft.{no_place}
use Rattle.rdlpp_state.proofs.Soundness.{text_idle}
use Rattle.rdlpp_state.proofs.LentPieces.{pending_origin}
use Rattle.rdlpp_state.proofs.Stores.{none_called, parts_opened}

-- The bytes that are held are within their bound.

-- no open source holds more bytes than a line may have
windows_within : {R : Type 0} (size : ℕ) (include_stack : List (File R)) → All (IsSlot size) include_stack → All (λ (w : List ℕ). length w ≤ size) (held_windows include_stack)
unfolding held_windows
windows_within size [] each = All-nil (λ (w : List ℕ). length w ≤ size)
windows_within {R} size (f ∷ fs) each =
    let P : List ℕ → Type 0 = λ w. length w ≤ size in
    let slot : IsSlot size f = All-head (IsSlot size) f fs each in
    let within = slot.buffer.within in
    let same = slot.size in
    let here : P f.buffer.window = omega arith in
    let rest : All P (held_windows fs) = windows_within size fs (All-tail (IsSlot size) f fs each) in
    let cut : held_windows (f ∷ fs) ≡ held_windows fs ++ f.buffer.window ∷ [] = reverse-append (f.buffer.window ∷ []) (map (λ (g : File R). g.buffer.window) fs) in
    All-same P (held_windows (f ∷ fs)) (held_windows fs ++ f.buffer.window ∷ []) cut
    (All-append P (held_windows fs) (f.buffer.window ∷ []) rest (All-cons P f.buffer.window [] here (All-nil P)))

-- an engine whose stores are within their limits is within the bound
pub is_bounded : {S R : Type 0} (e : EngineView S R) → IsSoundEngine e.limits e.phase e.table e.files e.conditions → AreOpen e.files
    → AreOpenTexts e.limits e.phase e.table.macros e.expansion → IsRoomy e.expansion → IsBounded e
unfolding stores_of held_bytes bound_of
is_bounded e sound files texts room = grind (arith, held_windows-len, held-bound, length_table_bytes, windows_within)

-- as many bytes as all buffers have can be counted
pub slots_fit : (limits : Limits) → AreInRange limits → (limits.includes + 1) * limits.line_bytes < 2 ^ 64
slots_fit limits range = grind (arith, mul-le-mul_right)

-- where the main text is closed and no fault is kept, nothing is held but definitions
pub closed_holds : {S R : Type 0} (e : EngineView S R) → IsSoundEngine e.limits e.phase e.table e.files e.conditions → AreOpenTexts e.limits e.phase e.table.macros e.expansion
    → e.phase ≡ Closed → e.kept ≡ None → LetsGo e → HoldsDefinitions (held_told e)
unfolding held_told stores_of held_windows bound_by is_open
closed_holds {S} {R} e sound texts closed free lets_go = grind (arith, none_called)

-- What an engine holds of texts before its main text is opened: nothing.

-- so it is with one that was made
pub new_holds : {S R : Type 0} (limits : Limits) (sources : S) (origins : Bool) → HoldsNoText (fresh_engine {S = S} {R = R} limits sources origins)
unfolding fresh_engine
new_holds limits sources origins = record { sources = refl; opens = refl; arguments = refl }

-- and with one in which a macro was defined
pub define_holds : {S R : Type 0} (old new : EngineView S R) → new ≡ record old { table = record old.table { macros = new.table.macros } } → HoldsNoText old → HoldsNoText new
define_holds old new only h = grind arith

-- it keeps nothing of a call
pub none_lets_go : {S R : Type 0} (e : EngineView S R) → HoldsNoText e → LetsGo e
none_lets_go e h = record { idle = λ _ _. h.arguments }

-- and its stores are those of the texts that are open, which are none
pub none_stores : {S R : Type 0} (g : Ghosts S R) (e : EngineView S R) → HoldsNoText e → HoldsStores g e
none_stores {S} {R} g e h = grind (arith, none_lets_go, none_called)

-- The opening of a main text: the name that its fault tells, and what a start comes to.

-- whether the byte at a place goes on with a character
goes_on : List ℕ → ℕ → Bool
goes_on bytes n = leb 128 (get_or bytes n 0) && leb (get_or bytes n 0) 191

-- a byte that begins a character, or the end
begins : (b : ℕ) → (128 ≤ b → 192 ≤ b) → (leb 128 b && leb b 191) ≡ false
begins b h = grind (arith, nat_tests)

-- a byte within a character
within : (b : ℕ) → 128 ≤ b → b < 192 → (leb 128 b && leb b 191) ≡ true
within b h i = grind (arith, nat_tests)

-- a byte after the end goes on with nothing
goes_on-past : (bytes : List ℕ) (n : ℕ) → length bytes ≤ n → goes_on bytes n ≡ false
unfolding goes_on
goes_on-past bytes n h = grind (arith, get_or_past)

-- at a boundary no character goes on
goes_on-boundary : (bytes : List ℕ) (n : ℕ) → n < length bytes → IsCharBoundary bytes n → goes_on bytes n ≡ false
unfolding goes_on
goes_on-boundary bytes n h at = begins (get_or bytes n 0) (at.1 h)

-- where there is no boundary a character goes on
goes_on-inside : (bytes : List ℕ) (n : ℕ) → n < length bytes → (IsCharBoundary bytes n → ⊥) → goes_on bytes n ≡ true
unfolding goes_on
goes_on-inside bytes n h out = grind (arith, cases_lt, within)

-- the place of a cut, one byte before
place-here : (bytes : List ℕ) (n : ℕ) → goes_on bytes (suc n) ≡ false → character_place bytes (suc n) ≡ suc n
unfolding character_place goes_on
place-here bytes n e = cond-false _ _ _ e

place-before : (bytes : List ℕ) (n : ℕ) → goes_on bytes (suc n) ≡ true → character_place bytes (suc n) ≡ character_place bytes n
unfolding character_place goes_on
place-before bytes n e = cond-true _ _ _ e

-- nothing stands before the first byte
first : (bytes : List ℕ) (r : ℕ) → r ≤ 0 → r ≡ character_place bytes zero
unfolding character_place
first bytes r h = omega arith

-- where a text ends before a place, the greatest boundary up to that place is its end
end_reached : (bytes : List ℕ) (r most : ℕ) → length bytes ≤ most
    → ((i : ℕ) → r < i → i ≤ most → IsCharBoundary bytes i → ⊥) → length bytes ≤ r
end_reached bytes r most h nearest = grind (arith, cases_lt)

-- the greatest boundary up to a place is where a name is cut
pub cut_at_boundary : (bytes : List ℕ) (most r : ℕ) → r ≤ most → IsCharBoundary bytes r
    → ((i : ℕ) → r < i → i ≤ most → IsCharBoundary bytes i → ⊥)
    → take r bytes ≡ take (character_place bytes most) bytes
cut_at_boundary bytes zero r below at nearest = grind (arith, first)
cut_at_boundary bytes (suc k) r below at nearest =
    elim (cases_lt (suc k) (length bytes)) [
      | inr past ↦
          let whole : length bytes ≤ r = end_reached bytes r (suc k) past nearest in
          take_all r bytes whole
          ∙ sym (take_all (suc k) bytes past)
          ∙ ap (λ n. take n bytes) (sym (place-here bytes k (goes_on-past bytes (suc k) past)))
      | inl inside ↦ elim (cases_lt r (suc k)) [
        | inl before ↦
            cut_at_boundary bytes k r (omega arith) at (λ i h j. nearest i h (omega arith))
            ∙ ap (λ n. take n bytes) (sym (place-before bytes k
            (goes_on-inside bytes (suc k) inside (nearest (suc k) before (omega arith)))))
        | inr here ↦
            let same : r ≡ suc k = omega arith in
            let boundary : IsCharBoundary bytes (suc k) = rw (← same) at in
            ap (λ n. take n bytes) (same ∙ sym (place-here bytes k (goes_on-boundary bytes (suc k) inside boundary)))
      ]
    ]

-- the first 1,024 bytes of a name, up to their last boundary
pub name_cut_at : (bytes : List ℕ) (r : ℕ) → r ≤ 1024 → IsCharBoundary bytes r
    → ((i : ℕ) → r < i → i ≤ 1024 → IsCharBoundary bytes i → ⊥) → take r bytes ≡ name_cut bytes
unfolding name_cut
name_cut_at bytes r below at nearest = cut_at_boundary bytes 1024 r below at nearest

-- where no source waits, what remains of the text is what is pending and what remains of its only source
alone : (rules : Rules) (x : List ℕ) (ts : List SourceToken) (s : State) → outcome (after_bytes x (all_resumed rules [] (Live []) true ts s)) ≡ and_then (gives x) (remains rules (Live []) true ts s)
unfolding remains
alone rules x ts s = grind (arith, outcome-after_bytes, all_resumed_alone)

-- what remains of a main text that was opened, where no text of a usage is
left_idle : {S R : Type 0} (g : Ghosts S R) (e : EngineView S R) (s : S) (path : List ℕ) (found : Found R) → e.expansion.opens ≡ []
    → let o = opened_engine (record e { sources = s }) path found in
    left_of g o ≡ limited (output_fault (name_cut path)) e.limits.output_bytes
    (outcome (after_bytes (pending_bytes (inner_name o.files.include_stack) o.pending) (include_stack_left o.limits (run_rules g o) g.unread o.table.macros o.conditions o.files.include_stack)))
unfolding left_of uncut_of kept_uncut phase_uncut opened_engine
left_idle g e s path found idle =
    ap (λ (p : Passage). limited (output_fault (name_cut path)) e.limits.output_bytes (outcome p)) (text_idle g (opened_engine (record e { sources = s }) path found) idle)

-- what remains of a main text that was opened
left_opened : {S R : Type 0} (g : Ghosts S R) (e : EngineView S R) (s : S) (path : List ℕ) (found : Found R)
    → e.files.line_bytes ≡ e.limits.line_bytes → e.files.include_stack ≡ [] → e.conditions.open_now ≡ [] → e.expansion.opens ≡ [] → g.catalog s ≡ g.catalog e.sources
    → left_of g (opened_engine (record e { sources = s }) path found)
    ≡ limited (output_fault (name_cut path)) e.limits.output_bytes
    (and_then (gives (origin_line (run_rules g e) found.path.bytes 1))
    (remains (run_rules g e) (Live []) true ((run_rules g e).tokens (g.unread found.reader))
    (start_state e.table.macros e.limits.includes e.limits.conditions found.path.bytes)))
unfolding include_stack_left waiting_around include_stack_state file_state source_left opened_engine opened_buffer tokens_left held_of rest_of ahead_of unread_of whole_tokens source_rules rules_of start_state no_shift
left_opened g e s path found most none unopened idle catalog = grind (arith, left_idle, no_place, alone, pending_origin)

-- what remains where no main text was opened
left_unopened : {S R : Type 0} (g : Ghosts S R) (e : EngineView S R) (s : S) (kind : FaultKind) (path : List ℕ)
    → left_of g (unopened_engine (record e { sources = s }) (opening_fault kind path)) ≡ fails (opening_fault kind path)
unfolding left_of uncut_of kept_uncut unopened_engine
left_unopened g e s kind path = limited-fails (output_fault e.main) e.quota (opening_fault kind path)

-- the output of a main path by what the search for it comes to
unfoldable looked_up : {S R : Type 0} → Ghosts S R → EngineView S R → List ℕ → Lookup → Outcome
looked_up g e path lookup =
    limited (output_fault (name_cut path)) e.limits.output_bytes
    (output (run_rules g e) e.table.macros e.limits.includes e.limits.conditions path lookup)

-- the output is that of what is found at the main path
found_output : {S R : Type 0} (g : Ghosts S R) (e : EngineView S R) (path : List ℕ) (answer : Answer)
    → (g.catalog e.sources).top path ≡ answer
    → looked_up_output g e path ≡ looked_up g e path (lookup_of answer)
unfolding looked_up_output looked_up searches_of limited_output unlimited_output search_rules source_rules opening_fault output_fault
found_output g e path answer found = ap (λ (a : Answer). looked_up g e path (lookup_of a)) found

-- the output of a main path that is no text
looked_up-fails : {S R : Type 0} (g : Ghosts S R) (e : EngineView S R) (path : List ℕ) (lookup : Lookup) (f : Report)
    → output (run_rules g e) e.table.macros e.limits.includes e.limits.conditions path lookup ≡ fails f
    → looked_up g e path lookup ≡ fails f
unfolding looked_up
looked_up-fails g e path lookup f is =
    ap (limited (output_fault (name_cut path)) e.limits.output_bytes) is ∙ limited-fails (output_fault (name_cut path)) e.limits.output_bytes f

-- a start that finds its main text
pub starts_open : {S R : Type 0} (g : Ghosts S R) (e : EngineView S R) (s : S) (found : Found R) (path : List ℕ)
    → e.files.line_bytes ≡ e.limits.line_bytes
    → e.files.include_stack ≡ []
    → e.conditions.open_now ≡ []
    → e.expansion.opens ≡ []
    → IsBounded (opened_engine (record e { sources = s }) path found)
    → (g.has_known_texts e.sources → (g.catalog e.sources).top path ≡ Present found.path.bytes (g.unread found.reader))
    → g.failures s ≡ g.failures e.sources
    → g.refusals s ≡ g.refusals e.sources
    → (g.has_known_texts e.sources → g.has_known_texts s)
    → g.catalog s ≡ g.catalog e.sources
    → Starts g e (opened_engine (record e { sources = s }) path found) path None
unfolding opened_engine is_device_fault is_memory_fault lookup_of looked_up
starts_open {S} {R} g e s found path most none unopened idle bounded answer failures refusals has_known_texts catalog = record {
  limits = refl;
  origins = refl;
  table = refl;
  started = λ h. cc;
  keeps = refl;
  opens = λ _. record { found = found; becomes = refl; text = answer };
  refused = λ f is. absurd (cc is);
  call = record { failures = failures; refusals = refusals; has_known_texts = has_known_texts; catalog = catalog };
  remains_output = λ _ _ telling.
      left_opened g e s path found most none unopened idle catalog
      ∙ sym (found_output g e path _ (answer telling)
      ∙ ap (limited (output_fault (name_cut path)) e.limits.output_bytes)
      (output_found (run_rules g e) e.table.macros e.limits.includes e.limits.conditions path
      found.path.bytes (g.unread found.reader)));
  bounded = bounded;
  lets_go = λ h. record { idle = λ _ _. h };
  kinds = tt;
  stores = λ h telling. record {
    lets_go = record { idle = λ _ _. h };
    parts =
        let file : File R = entered_file found e.limits.source_bytes e.files.line_bytes 0 0 in
        let exact : Type 0 = MayGoOn (opened_engine (record e { sources = s }) path found) in
        subst (λ (ns : List (File R)). AreParts g.unread (g.catalog s) exact (file ∷ ns)) (sym none)
        (subst (λ (c : Catalog). AreParts g.unread c exact (file ∷ [])) (sym catalog)
        (parts_opened g.unread (g.catalog e.sources) exact found e.limits.source_bytes e.files.line_bytes 0 0 path (answer telling)));
    begun = λ _. inl h;
    call = λ fs called. absurd (let no : None ≡ Some fs = sym (none_called e.table.macros e.expansion.opens idle) ∙ called in cc);
  };
}

-- a start that is refused
starts_refused : {S R : Type 0} (g : Ghosts S R) (e : EngineView S R) (s : S) (kind : FaultKind) (path : List ℕ)
    → is_opening_kind kind ≡ true
    → e.files.include_stack ≡ []
    → e.expansion.opens ≡ []
    → IsBounded e
    → Counts (is_read_failed kind) (g.failures e.sources) (g.failures s)
    → Counts (is_memory_kind kind) (g.refusals e.sources) (g.refusals s)
    → (g.has_known_texts e.sources → g.has_known_texts s)
    → g.catalog s ≡ g.catalog e.sources
    → (is_read_failed kind ≡ false → is_memory_kind kind ≡ false → g.has_known_texts e.sources
    → fails (opening_fault kind path) ≡ looked_up_output g e path)
    → Starts g e (unopened_engine (record e { sources = s }) (opening_fault kind path)) path (Some (opening_fault kind path))
unfolding unopened_engine is_device_fault is_memory_fault opening_fault stores_of
starts_refused {S} {R} g e s kind path own none idle bounded failures refusals has_known_texts catalog told = grind (arith, left_unopened, none_called)

-- a start that the sources refuse
pub starts_not_found : {S R : Type 0} (g : Ghosts S R) (e : EngineView S R) (s : S) (fault : SourceFault) (path : List ℕ)
    → e.files.include_stack ≡ []
    → e.expansion.opens ≡ []
    → IsBounded e
    → (g.has_known_texts e.sources → Finds {R = R} g.unread ((g.catalog e.sources).top path) (Err fault))
    → Counts (is_device {A = Found R} (Err fault)) (g.failures e.sources) (g.failures s)
    → Counts (is_no_memory {A = Found R} (Err fault)) (g.refusals e.sources) (g.refusals s)
    → (g.has_known_texts e.sources → g.has_known_texts s)
    → g.catalog s ≡ g.catalog e.sources
    → Starts g e (unopened_engine (record e { sources = s }) (opening_fault (kind_of_source fault) path)) path
    (Some (opening_fault (kind_of_source fault) path))
unfolding kind_of_source is_read_failed is_memory_kind is_opening_kind lookup_of
starts_not_found g e s source.Absent path none idle bounded answer failures refusals has_known_texts catalog =
    starts_refused g e s SourceNotFound path refl none idle bounded failures refusals has_known_texts catalog
    (λ _ _ telling. sym (found_output g e path _ (answer telling) ∙ looked_up-fails g e path NoSource _ (output_missing _ _ _ _ _)))
starts_not_found g e s source.PathTooLong path none idle bounded answer failures refusals has_known_texts catalog =
    starts_refused g e s PathTooLong path refl none idle bounded failures refusals has_known_texts catalog
    (λ _ _ telling. sym (found_output g e path _ (answer telling) ∙ looked_up-fails g e path LongPath _ (output_overlong _ _ _ _ _)))
starts_not_found g e s source.Device path none idle bounded answer failures refusals has_known_texts catalog =
    starts_refused g e s ReadFailed path refl none idle bounded failures refusals has_known_texts catalog (λ device _ _. cc)
starts_not_found g e s source.NoMemory path none idle bounded answer failures refusals has_known_texts catalog =
    starts_refused g e s SourceMemory path refl none idle bounded failures refusals has_known_texts catalog (λ _ memory _. cc)
