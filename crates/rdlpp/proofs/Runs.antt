-- Runs of a fresh engine and of one that stays, and the line that reports a fault.
use Rattle.std.proofs.Common.{◌≡◌, ℕ, ◌+◌, ◌<◌, ◌≤◌, length, List, ◌∷◌, drop, Result, Ok, Err, slice_index_or, sym, ap, ◌∙◌, Bool, false, [], Option, subst, true, ◌||◌, ◌++◌, None, Some, IfSome, refl, codes, decimal, string_bytes}
use Rattle.std.specs.Io.KnownBytes.{Appends}
use Rattle.std.specs.List.{concat}
use Rattle.std.proofs.lemmas.List.{drop_all, drop_more}
use Rattle.rdlpp_define.specs.Defined.{Accepted, Defined, DefinedFault, observed, set_of}
use Rattle.rdlpp_define.specs.Macros.{Macro}
use Rattle.rdlpp_define.specs.declared.fault.DefineFault.{DefineFault}
use Rattle.rdlpp_define.specs.declared.limits.LimitFault.{LimitFault}
use Rattle.rdlpp_define.specs.declared.limits.Limits.{Limits}
use Rattle.rdlpp_meaning.specs.FaultNumbers.{fault_number}
use Rattle.rdlpp_meaning.specs.Outcome.{Outcome, Report, and_then, fails, gives, report_of}
use Rattle.rdlpp_meaning.specs.declared.fault.Fault.{Fault}
use Rattle.rdlpp_meaning.specs.declared.fault.FaultKind.{FaultKind}
use Rattle.rdlpp_meaning.proofs.Outcomes.{and_then-gives_nil}
use Rattle.rdlpp_source.specs.declared.sinks.Sink.{Ghosts as SinkGhosts}
use Rattle.rdlpp_source.specs.declared.sources.Sources.{Ghosts}
use Rattle.rdlpp_state.specs.Engine.{EngineView}
use Rattle.rdlpp_state.specs.Opening.{Starts, fresh_engine, is_device_fault, is_memory_fault, looked_up_output}
use Rattle.rdlpp_state.specs.Remaining.{left_of}
use Rattle.rdlpp_state.specs.Steps.{is_call_failed, is_memory_kind, is_read_failed, is_write_failed}
use Rattle.rdlpp_expand.specs.Reading.{ReadingView, reading_left}
use Rattle.rdlpp_expand.specs.Run.{Begins, Runs, is_fresh}
use Rattle.rdlpp_expand.proofs.RunFacts.{appends_none}
use Rattle.rdlpp_reports.specs.Writes.{Writes}
use Rattle.rdlpp.specs.Definitions.{GivenFault, Given, Pair, Taken, given, given_in, refused_definition, with_macros}
use Rattle.rdlpp.specs.Opening.{OpensGiven}
use Rattle.rdlpp.specs.Preprocess.{Follows, Preprocesses, RunsFresh, Tells, WritesOutput, engine_with, given_by, is_failure, output_given}
use Rattle.rdlpp_define.specs.Limits.{limit_name}
use Rattle.rdlpp.specs.Report.{Reports, fault_line, line_end, report_line}
use Rattle.rdlpp.specs.Running.{FollowsFrom, IsFreshOf, MakesEngine, RunsFrom}
use Rattle.rdlpp.specs.declared.fault.PrepFault.{PrepFault}
use Rattle.rdlpp.specs.declared.fault.PrepFault.TheVariants.{BadLimits, NoMemory, Run}
use Rattle.rdlpp_define.specs.declared.options.Options.{Options}

-- One definition after another is given to a table.

-- what definitions come to in the table of an engine, where so many stand before them
abbrev pub given_after : {S R : Type 0} → EngineView S R → ℕ → List Pair → Given
given_after e before ds = given e.table.most_bytes e.table.most_macros before e.table.macros ds

-- so many of the definitions were taken
abbrev pub AreTaken : {S R : Type 0} → EngineView S R → EngineView S R → ℕ → List Pair → Type 0
AreTaken start now i ds = (now ≡ with_macros start now.table.macros) × (given_in start ds ≡ given_after now i (drop i ds))

given_first : (mb mm i : ℕ) (macros : List Macro) (d : Pair) (ds : List Pair) (what : Defined)
    → set_of mb mm macros (string_bytes d.0) (string_bytes d.1) ≡ what
    → given mb mm i macros (d ∷ ds) ≡ elim what [
      | Accepted more ↦ given mb mm (i + 1) more ds
      | DefinedFault kind word ↦ GivenFault (refused_definition kind word (i + 1))
    ]
unfolding given
given_first mb mm i macros d ds what e =
    ap (λ w. elim w [
      | Accepted more ↦ given mb mm (i + 1) more ds
      | DefinedFault kind word ↦ GivenFault (refused_definition kind word (i + 1))
    ]) e

set_bytes : (mb mm : ℕ) (macros : List Macro) (name text : List ℕ) (d : Pair) → name ≡ string_bytes d.0 → text ≡ string_bytes d.1
    → set_of mb mm macros name text ≡ set_of mb mm macros (string_bytes d.0) (string_bytes d.1)
set_bytes mb mm macros name text d n t = ap (λ x. set_of mb mm macros x text) n ∙ ap (λ x. set_of mb mm macros (string_bytes d.0) x) t

pub taken_more : {S R : Type 0} (start now new : EngineView S R) (i : ℕ) (ds : List Pair) (d : Pair) (name text : List ℕ) (result : Result (Unit {0}) DefineFault)
    → AreTaken start now i ds → i < length ds → d ≡ slice_index_or ds i d
    → observed result new.table.macros ≡ set_of now.table.most_bytes now.table.most_macros now.table.macros name text
    → name ≡ string_bytes d.0 → text ≡ string_bytes d.1 → new ≡ with_macros now new.table.macros → result ≡ Ok tt
    → AreTaken start new (i + 1) ds
unfolding observed
taken_more start now new i ds d name text result (is, gives) inside at outcome n t only ok =
    let accepted : set_of now.table.most_bytes now.table.most_macros now.table.macros (string_bytes d.0) (string_bytes d.1) ≡ Accepted new.table.macros =
    sym (set_bytes now.table.most_bytes now.table.most_macros now.table.macros name text d n t) ∙ sym outcome ∙ ap (λ r. observed r new.table.macros) ok in (
      only ∙ ap (λ e. with_macros e new.table.macros) is,
      gives ∙ ap (given_after now i) (drop_more ds i d inside ∙ ap (λ x. x ∷ drop (i + 1) ds) (sym at))
          ∙ given_first now.table.most_bytes now.table.most_macros i now.table.macros d (drop (i + 1) ds) (Accepted new.table.macros) accepted
          ∙ ap (λ e. given e.table.most_bytes e.table.most_macros (i + 1) new.table.macros (drop (i + 1) ds)) (sym only),
    )

pub declined : {S R : Type 0} (start now : EngineView S R) (macros : List Macro) (i : ℕ) (ds : List Pair) (d : Pair) (name text : List ℕ) (result : Result (Unit {0}) DefineFault) (fault : DefineFault)
    → AreTaken start now i ds → i < length ds → d ≡ slice_index_or ds i d
    → observed result macros ≡ set_of now.table.most_bytes now.table.most_macros now.table.macros name text
    → name ≡ string_bytes d.0 → text ≡ string_bytes d.1 → result ≡ Err fault
    → given_in start ds ≡ GivenFault (refused_definition fault.kind fault.word.bytes (i + 1))
unfolding observed
declined start now macros i ds d name text result fault (is, gives) inside at outcome n t err =
    gives ∙ ap (given_after now i) (drop_more ds i d inside ∙ ap (λ x. x ∷ drop (i + 1) ds) (sym at))
    ∙ given_first now.table.most_bytes now.table.most_macros i now.table.macros d (drop (i + 1) ds) (DefinedFault fault.kind fault.word.bytes)
    (sym (set_bytes now.table.most_bytes now.table.most_macros now.table.macros name text d n t) ∙ sym outcome ∙ ap (λ r. observed r macros) err)

pub taken_all : {S R : Type 0} (start now : EngineView S R) (i : ℕ) (ds : List Pair)
    → AreTaken start now i ds → length ds ≤ i → given_in start ds ≡ Taken now.table.macros
unfolding given
taken_all start now i ds (is, gives) all = gives ∙ ap (given_after now i) (drop_all i ds all)

-- What opening a fresh engine says of the output.

-- an engine that is fresh was given definitions and started
pub opens_given : {S R : Type 0} (g : Ghosts S R) (limits : Limits) (defines : List Pair) (origins : Bool) (sources : S)
    (path : List ℕ) (fresh given_to started : EngineView S R) (opening : Option Report) (reading : ReadingView S R)
    → fresh ≡ fresh_engine limits sources origins
    → given_in fresh defines ≡ Taken given_to.table.macros → given_to ≡ with_macros fresh given_to.table.macros
    → Starts g given_to started path opening → reading ≡ record { engine = started; rest = [] }
    → OpensGiven g limits (given limits.definition_bytes limits.definitions 0 [] defines) origins sources path reading
unfolding fresh_engine
opens_given {S} {R} g limits defines origins sources path fresh given_to started opening reading e d m s r =
    let macros = given_to.table.macros in
    subst (λ w. OpensGiven g limits w origins sources path reading) (sym (ap (λ x. given_in x defines) (sym e) ∙ d))
    record {
      opening = opening;
      starts = subst (λ x. Starts g (engine_with limits origins sources macros) x path opening) (sym (ap (λ (v : ReadingView S R). v.engine) r))
          (subst (λ x. Starts g x started path opening) (m ∙ ap (λ x. with_macros x macros) e) s);
      whole = ap (λ (v : ReadingView S R). v.rest) r;
    }

-- a definition was refused
pub declines : {S R : Type 0} (limits : Limits) (defines : List Pair) (origins : Bool) (sources : S) (fresh : EngineView S R) (f : Report)
    → fresh ≡ fresh_engine limits sources origins → given_in fresh defines ≡ GivenFault f
    → given limits.definition_bytes limits.definitions 0 [] defines ≡ GivenFault f
unfolding fresh_engine
declines limits defines origins sources fresh f e d = ap (λ x. given_in x defines) (sym e) ∙ d

-- what remains after an opening is the output
pub opens_output : {S R : Type 0} (g : Ghosts S R) (limits : Limits) (what : Given) (origins : Bool) (sources : S) (path : List ℕ) (reading : ReadingView S R)
    → OpensGiven g limits what origins sources path reading → g.has_known_texts sources
    → is_device_fault reading.engine.kept ≡ false → is_memory_fault reading.engine.kept ≡ false
    → reading_left g reading ≡ output_given g limits origins sources path what
unfolding fresh_engine looked_up_output reading_left
opens_output g limits (Taken macros) origins sources path reading o has_known_texts device memory =
    ap (λ (xs : List ℕ). and_then (gives xs) (left_of g reading.engine)) o.whole ∙ and_then-gives_nil (left_of g reading.engine)
    ∙ o.starts.remains_output (ap is_device_fault (sym o.starts.keeps) ∙ device) (ap is_memory_fault (sym o.starts.keeps) ∙ memory) has_known_texts
opens_output g limits (GivenFault f) origins sources path reading o has_known_texts device memory = absurd o

-- What the run of a fresh engine says of the output.

or_left : (a b : Bool) → (a || b) ≡ false → a ≡ false
or_left true b e = e
or_left false b e = refl

or_right : (a b : Bool) → (a || b) ≡ false → b ≡ false
or_right true b e = cc
or_right false b e = e

is_fresh-false : (test : FaultKind → Bool) (kept fault : Option Report) → IfSome fault (λ f. test f.kind ≡ false) → is_fresh test kept fault ≡ false
unfolding is_fresh
is_fresh-false test (Some k) fault h = refl
is_fresh-false test None None h = refl
is_fresh-false test None (Some f) h = h

not_call_failed : (fault : Option Report) → is_failure fault ≡ false → IfSome fault (λ f. is_call_failed f.kind ≡ false)
unfolding is_device_fault is_memory_fault is_call_failed
not_call_failed None e = tt
not_call_failed (Some f) e =
    let read : is_read_failed f.kind ≡ false = or_left _ _ e in
    let memory : is_memory_kind f.kind ≡ false = or_left _ (is_write_failed f.kind) (or_right (is_read_failed f.kind) _ e) in
    rw (read, memory) refl

not_write_failed : (fault : Option Report) → is_failure fault ≡ false → IfSome fault (λ f. is_write_failed f.kind ≡ false)
not_write_failed None e = tt
not_write_failed (Some f) e = or_right (is_memory_fault (Some f)) _ (or_right (is_device_fault (Some f)) _ e)

-- a fault of the opening is the fault of the run
device_fault-false : (opening fault : Option Report) → ((f : Report) → opening ≡ Some f → fault ≡ Some f) → is_failure fault ≡ false
    → is_device_fault opening ≡ false
unfolding is_device_fault
device_fault-false None fault h e = refl
device_fault-false (Some f) fault h e = or_left _ _ (subst (λ x. is_failure x ≡ false) (h f refl) e)

memory_fault-false : (opening fault : Option Report) → ((f : Report) → opening ≡ Some f → fault ≡ Some f) → is_failure fault ≡ false
    → is_memory_fault opening ≡ false
unfolding is_memory_fault
memory_fault-false None fault h e = refl
memory_fault-false (Some f) fault h e =
    or_left _ (is_write_failed f.kind) (or_right (is_device_fault (Some f)) _ (subst (λ x. is_failure x ≡ false) (h f refl) e))

begins_empty : (bytes : List ℕ) (output : Outcome) → bytes ≡ [] → Begins bytes output
begins_empty bytes output e = (output.bytes, ap (λ bs. bs ++ output.bytes) (sym e))

-- the first bytes of what remains after the opening are those of the output
begins_output : (bytes : List ℕ) (opening : Option Report) (left output : Outcome)
    → ((f : Report) → opening ≡ Some f → bytes ≡ [])
    → (opening ≡ None → left ≡ output) → Begins bytes left → Begins bytes output
begins_output bytes None left output h k b = subst (Begins bytes) (k refl) b
begins_output bytes (Some f) left output h k b = begins_empty bytes output (h f refl)

writes_output : {S R W : Type 0} (g : Ghosts S R) (h : SinkGhosts W) (fresh : EngineView S R) (path : List ℕ)
    (before after : W) (count : ℕ) (fault : Option Report)
    → RunsFresh g h fresh path before after count fault → g.has_known_texts fresh.sources
    → WritesOutput (h.taken before) (h.taken after) (looked_up_output g fresh path) count fault
unfolding is_device_fault is_memory_fault
writes_output g h fresh path before after count fault r has_known_texts =
    let again : (f : Report) → r.opening ≡ Some f → fault ≡ Some f = λ f e. (r.runs.again f (r.starts.keeps ∙ e)).0 in
    let none : (f : Report) → r.opening ≡ Some f → r.runs.bytes ≡ [] = λ f e. (r.runs.again f (r.starts.keeps ∙ e)).1 in
    let shown : g.has_known_texts r.started.sources = r.starts.call.has_known_texts has_known_texts in
    let remains : is_device_fault r.opening ≡ false → is_memory_fault r.opening ≡ false → left_of g r.started ≡ looked_up_output g fresh path = λ d m. r.starts.remains_output d m has_known_texts in
    record {
      bytes = r.runs.bytes;
      taken = r.runs.taken;
      counted = r.runs.counted;
      begins = begins_output r.runs.bytes r.opening (left_of g r.started) _ none
          (λ e. remains (ap is_device_fault e) (ap is_memory_fault e)) (r.runs.begins shown);
      exact = λ e. sym (remains (device_fault-false r.opening fault again e) (memory_fault-false r.opening fault again e))
          ∙ r.runs.exact (is_fresh-false is_call_failed r.started.kept fault (not_call_failed fault e))
          (is_fresh-false is_write_failed r.started.kept fault (not_write_failed fault e)) shown;
    }

-- a refused definition writes nothing
writes_nothing : (before after : Option (List ℕ)) (count : ℕ) (f : Report) (fault : Option Report) → fault ≡ Some f → count ≡ 0 → after ≡ before
    → WritesOutput before after (fails f) count fault
unfolding fails
writes_nothing before after count f fault e c a = record {
  bytes = [];
  taken = subst (λ x. Appends before x []) (sym a) (appends_none before);
  counted = c;
  begins = ([], refl);
  exact = λ _. ap (λ x. record { bytes = []; fault = x }) (sym e);
}

-- what follows tells the output
pub follows_output : {S R W : Type 0} (g : Ghosts S R) (h : SinkGhosts W) (limits : Limits) (what : Given) (origins : Bool) (sources : S)
    (path : List ℕ) (before after : W) (count : ℕ) (fault : Option Report)
    → Follows g h limits what origins sources path before after count fault → g.has_known_texts sources
    → WritesOutput (h.taken before) (h.taken after) (output_given g limits origins sources path what) count fault
unfolding fresh_engine looked_up_output
follows_output g h limits (Taken macros) origins sources path before after count fault r has_known_texts =
    writes_output g h (engine_with limits origins sources macros) path before after count fault r has_known_texts
follows_output g h limits (GivenFault f) origins sources path before after count fault (e, c, a) has_known_texts =
    writes_nothing (h.taken before) (h.taken after) count f fault e c (ap h.taken a)

-- What an engine that stays comes to, and what it says of the output.

-- an engine over sources is fresh
pub fresh_of : {S R : Type 0} (options : Options) (sources : S) (engine : EngineView S R)
    → engine ≡ fresh_engine options.limits sources options.origins → IsFreshOf options engine × (engine.sources ≡ sources)
unfolding fresh_engine
fresh_of {S} {R} options sources engine e =
    let same = ap (λ (x : EngineView S R). x.sources) e in
    (e ∙ ap (λ s. fresh_engine options.limits s options.origins) (sym same), same)

-- an engine that is fresh was given definitions, started and run
pub follows_from : {S R W : Type 0} (g : Ghosts S R) (h : SinkGhosts W) (options : Options)
    (path : List ℕ) (before after : W) (fresh given_to started ended : EngineView S R) (opening : Option Report) (count : ℕ) (fault : Option Report)
    → IsFreshOf options fresh
    → given_in fresh options.defines.items ≡ Taken given_to.table.macros → given_to ≡ with_macros fresh given_to.table.macros
    → Starts g given_to started path opening
    → Runs g h started ended before after count ended.kept → ended.kept ≡ fault
    → FollowsFrom g h options (given_by options) fresh ended path before after count fault
unfolding fresh_engine
follows_from g h options path before after fresh given_to started ended opening count fault e d m s r f =
    let macros = given_to.table.macros in
    subst (λ w. FollowsFrom g h options w fresh ended path before after count fault) (sym (ap (λ x. given_in x options.defines.items) (sym e) ∙ d)) (
      record {
        started = started;
        ended = ended;
        opening = opening;
        starts = subst (λ x. Starts g x started path opening) (m ∙ ap (λ x. with_macros x macros) e) s;
        runs = subst (λ x. Runs g h started ended before after count x) f r;
      },
      refl,
    )

-- a definition was refused
pub refused_from : {S R W : Type 0} (g : Ghosts S R) (h : SinkGhosts W) (options : Options)
    (path : List ℕ) (writer : W) (fresh new : EngineView S R) (count : ℕ) (f : Report)
    → IsFreshOf options fresh
    → given_in fresh options.defines.items ≡ GivenFault f → count ≡ 0
    → FollowsFrom g h options (given_by options) fresh new path writer writer count (Some f)
unfolding fresh_engine
refused_from g h options path writer fresh new count f e d c =
    subst (λ w. FollowsFrom g h options w fresh new path writer writer count (Some f)) (sym (ap (λ x. given_in x options.defines.items) (sym e) ∙ d))
    (refl, c, refl)

-- what follows is what follows of preprocessing
pub follows_of : {S R W : Type 0} (g : Ghosts S R) (h : SinkGhosts W) (options : Options) (what : Given) (old new : EngineView S R)
    (path : List ℕ) (before after : W) (count : ℕ) (fault : Option Report)
    → FollowsFrom g h options what old new path before after count fault
    → Follows g h options.limits what options.origins old.sources path before after count fault
follows_of g h options (Taken macros) old new path before after count fault r = r.0
follows_of g h options (GivenFault f) old new path before after count fault r = r

-- the run of an engine that was made is what preprocessing comes to
pub preprocesses_of : {S R W : Type 0} (g : Ghosts S R) (h : SinkGhosts W) (options : Options) (sources : S) (old new : EngineView S R)
    (path : List ℕ) (before after : W) (answer : Result ℕ PrepFault)
    → MakesEngine options sources (Ok old) → RunsFrom g h options old new path before after answer
    → Preprocesses g h options sources path before after answer
preprocesses_of {S} g h options sources old new path before after (Ok count) (fits, fresh, same) run = (
  fits,
  subst (λ (s : S). Follows g h options.limits (given_by options) options.origins s path before after count None) same
      (follows_of g h options (given_by options) old new path before after count None run),
)
preprocesses_of g h options sources old new path before after (Err (BadLimits fault)) made run = absurd run
preprocesses_of g h options sources old new path before after (Err NoMemory) made run = absurd run
preprocesses_of {S} g h options sources old new path before after (Err (Run f)) (fits, fresh, same) run = (
  fits,
  subst (λ (s : S). Follows g h options.limits (given_by options) options.origins s path before after f.written (Some (report_of f.fault))) same
      (follows_of g h options (given_by options) old new path before after f.written (Some (report_of f.fault)) run),
)

-- where no engine was made nothing is written
pub preprocesses_none : {S R W : Type 0} (g : Ghosts S R) (h : SinkGhosts W) (options : Options) (sources : S) (path : List ℕ) (writer : W) (fault : PrepFault)
    → MakesEngine {S = S} {R = R} options sources (Err fault) → Preprocesses g h options sources path writer writer (Err fault)
preprocesses_none g h options sources path writer (BadLimits fault) made = (made, refl)
preprocesses_none g h options sources path writer NoMemory made = (made, refl)
preprocesses_none g h options sources path writer (Run f) made = absurd made

pub tells_none : {S R : Type 0} (g : Ghosts S R) (options : Options) (sources : S) (taken : Option (List ℕ)) (output : Outcome) (fault : PrepFault)
    → MakesEngine {S = S} {R = R} options sources (Err fault) → Tells taken taken output (Err fault)
tells_none g options sources taken output (BadLimits fault) made = refl
tells_none g options sources taken output NoMemory made = refl
tells_none g options sources taken output (Run f) made = absurd made

-- A line was reported, from what was written of it.

pub reports_memory : {T E : Type 0} (old new : Option (List ℕ)) (fault : PrepFault) (r : Result T E) → fault ≡ NoMemory
    → Writes old new (codes "rdlpp: error: out of memory\n") r → Reports old new fault r
reports_memory old new fault r e h = ([], subst (λ f. Writes old new (report_line [] f) r) (sym e) h)

pub reports_limit : {T E : Type 0} (old new : Option (List ℕ)) (fault : PrepFault) (limit : LimitFault) (name : List ℕ) (r : Result T E) → fault ≡ BadLimits limit
    → name ≡ limit_name limit
    → Writes old new (concat (codes "rdlpp: error: limit " ∷ name ∷ codes " out of range\n" ∷ [])) r → Reports old new fault r
reports_limit old new fault limit name r e n h = (
  [],
  subst (λ f. Writes old new (report_line [] f) r) (sym e)
      (subst (λ x. Writes old new (concat (codes "rdlpp: error: limit " ∷ x ∷ codes " out of range\n" ∷ [])) r) n h),
)

-- the line of a fault, from its parts
line_from : List ℕ → List ℕ → List ℕ → List ℕ → List ℕ → List ℕ
line_from name line number text word =
    concat (name ∷ codes ":" ∷ line ∷ codes ": error F" ∷ number ∷ codes ": " ∷ text ∷ []) ++ line_end word

line_from-same : (name line number text word name' line' number' word' : List ℕ) → name ≡ name' → line ≡ line' → number ≡ number'
    → word ≡ word' → line_from name line number text word ≡ line_from name' line' number' text word'
line_from-same name line number text word name' line' number' word' a b c d = cc

pub reports_fault : {T E : Type 0} (old new : Option (List ℕ)) (fault : Fault) (name line number text word : List ℕ) (r : Result T E)
    → name ≡ fault.name.bytes → line ≡ decimal fault.line → number ≡ decimal (fault_number fault.kind) → word ≡ fault.word.bytes
    → Writes old new (concat (name ∷ codes ":" ∷ line ∷ codes ": error F" ∷ number ∷ codes ": " ∷ text ∷ []) ++ line_end word) r
    → (x : List ℕ) × Writes old new (fault_line x fault) r
unfolding line_from
reports_fault old new fault name line number text word r a b c d h =
    (text, subst (λ l. Writes old new l r) (line_from-same name line number text word _ _ _ _ a b c d) h)
