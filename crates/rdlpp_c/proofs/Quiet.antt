-- The kinds of faults, outputs whose sources don't ask, and reads with a map of lines.
use Rattle.std.proofs.Common.{◌≡◌, ℕ, zero, suc, ◌+◌, ◌-◌, ◌<◌, ◌≤◌, List, [], ◌∷◌, get_or, Option, Some, None, ◌⊎◌, inl, inr, refl, sym, ap, ◌∙◌, arith, Bool, true, false, Result, Ok, Err, subst, if◌then◌else◌, min, ◌++◌, length, take, drop, append_assoc, append-nil, length-append, nat_lt, is_some, IfErr, IfOk, slice_get, drop_of_length-le, drop-drop, length-drop, length-take-le, take-append-drop, take_all}
use Rattle.std.specs.Prelude.{⊤}
use Rattle.std.proofs.lemmas.Bool.Decides.{nat_tests}
use Rattle.std.proofs.lemmas.Option.{none-some, same_Some, slice_get-get_or, slice_get_past}
use borrow.Rule.Slice.PartMut.{mid_of, put_mid}
use Rattle.rdlpp_define.specs.declared.limits.Limits.{Limits}
use Rattle.rdlpp_meaning.specs.FaultNumbers.{fault_number}
use Rattle.rdlpp_meaning.specs.Outcome.{Report, and_then, gives}
use Rattle.rdlpp_meaning.specs.declared.fault.FaultKind.{FaultKind}
use Rattle.rdlpp_meaning.specs.declared.fault.FaultKind.TheVariants.{ArgumentBytes, ArgumentCount, ArgumentsMissing, ArgumentsOpen, BadFormals, BadLine, BareBackquote, BranchAfterElse, DefinitionBytes, DepthPassed, DirectiveInText, EmbeddedPerl, FormalTwice, IncludeName, LineTooLong, NameExpected, NameTooLong, OpenComment, OpenConditional, OpenString, OutputBytes, PathTooLong, ReadFailed, RecursiveMacro, ReservedName, SourceMemory, SourceNotFound, SourceTooLong, StrayBranch, TooManyConditionals, TooManyDefinitions, TooManyFormals, TooManyIncludes, UndefinedMacro, WriteFailed}
use Rattle.rdlpp_meaning.proofs.Outcomes.{and_then-gives_gives}
use Rattle.rdlpp_source.specs.Asked.{wanted_of}
use Rattle.rdlpp_source.specs.declared.asked.AskedTexts.{AskedTexts}
use Rattle.rdlpp_source.proofs.Searches.{still_asked, unasked}
use Rattle.rdlpp_state.specs.Calls.{SourcesCalled}
use Rattle.rdlpp_state.specs.Engine.{EngineView}
use Rattle.rdlpp_state.specs.Opening.{fresh_engine, is_device_fault, is_memory_fault}
use Rattle.rdlpp_state.specs.Remaining.{left_of}
use Rattle.rdlpp_state.specs.Searches.{Retries, StartsAgain, is_failed_search, is_failed_start}
use Rattle.rdlpp_state.specs.Steps.{Step, has_failed, has_met, has_refused, is_memory_kind, is_read_failed}
use Rattle.rdlpp_expand.specs.Reading.{FillsPart, GivesPiece, IsNextPiece, Leaves, LentEnds, Pauses, ReadingView, Turns, ended_with, reading_left}
use Rattle.rdlpp_expand.specs.Run.{Stops, is_fresh}
use Rattle.rdlpp_expand.specs.declared.reading.ReadEnd.{ReadEnd}
use Rattle.rdlpp_expand.specs.declared.reading.ReadEnd.TheVariants.{Finished, Stopped}
use Rattle.rdlpp_expand.proofs.Readings.{IsGiven, fills_ended, fills_part, fills_paused, given_more, given_turned, leaves}
use Rattle.rdlpp.specs.Definitions.{GivenFault, Given, Taken}
use Rattle.rdlpp.specs.Opening.{OpensGiven}
use Rattle.rdlpp_c.specs.Faults.{IsNoFault, fault_text, found_text, kind_numbered, kind_text, kinds}
use Rattle.rdlpp_c.specs.Mapping.{MapsOpen, MapsStream, ReadsLines, ReadsMapped, ReadsPart}
use Rattle.rdlpp_c.specs.Streaming.{FaultBuffers, IsQuiet, ReadBuffers, ReadsBytes, ReadsQuietly, StaysQuiet, TakesUp, TellsRead, owned_sources, read_wanted, told_numbers, wanted_by}
use Rattle.rdlpp_c.specs.declared.stream.Stream.{Stream}
use Rattle.rdlpp_c.specs.declared.telling.Outcome.{Outcome as Numbers}

-- The kind of each number, and its text.

-- the number of each kind gives that kind
pub own_kind : (kind : FaultKind) → kind_numbered (fault_number kind) ≡ Some kind
own_kind EmbeddedPerl = refl
own_kind OpenString = refl
own_kind OpenComment = refl
own_kind LineTooLong = refl
own_kind SourceTooLong = refl
own_kind BareBackquote = refl
own_kind UndefinedMacro = refl
own_kind RecursiveMacro = refl
own_kind DirectiveInText = refl
own_kind ArgumentsMissing = refl
own_kind ArgumentsOpen = refl
own_kind ArgumentBytes = refl
own_kind ArgumentCount = refl
own_kind DepthPassed = refl
own_kind NameExpected = refl
own_kind ReservedName = refl
own_kind NameTooLong = refl
own_kind BadFormals = refl
own_kind FormalTwice = refl
own_kind TooManyFormals = refl
own_kind DefinitionBytes = refl
own_kind TooManyDefinitions = refl
own_kind StrayBranch = refl
own_kind BranchAfterElse = refl
own_kind OpenConditional = refl
own_kind TooManyConditionals = refl
own_kind IncludeName = refl
own_kind SourceNotFound = refl
own_kind TooManyIncludes = refl
own_kind BadLine = refl
own_kind PathTooLong = refl
own_kind ReadFailed = refl
own_kind WriteFailed = refl
own_kind SourceMemory = refl
own_kind OutputBytes = refl

-- the text of a kind's number is the kind's
pub text_numbered : (number : ℕ) (kind : FaultKind) → fault_number kind ≡ number → fault_text number ≡ kind_text kind
text_numbered number kind is = ap fault_text (sym is) ∙ ap found_text (own_kind kind)

-- the kinds of a list have the numbers after a number
abbrev AreNumbered : ℕ → List FaultKind → Type 0
AreNumbered before [] = ⊤
AreNumbered before (kind ∷ rest) = (fault_number kind ≡ suc before) × AreNumbered (suc before) rest

first_place : (before : ℕ) → suc before ≡ suc (before + 0)
first_place before = omega arith

next_place : (before place : ℕ) → suc (suc before + place) ≡ suc (before + suc place)
next_place before place = omega arith

from_none : (place : ℕ) → suc (0 + place) ≡ suc place
from_none place = omega arith

-- the kind at a place of such a list has the number of that place
numbered_at : (before : ℕ) (list : List FaultKind) (place : ℕ) (kind : FaultKind) → AreNumbered before list → slice_get list place ≡ Some kind → fault_number kind ≡ suc (before + place)
numbered_at before [] place kind are is = absurd (none-some kind is)
numbered_at before (first ∷ rest) zero kind are is = ap fault_number (sym (same_Some first kind is)) ∙ are.0 ∙ first_place before
numbered_at before (first ∷ rest) (suc place) kind are is = numbered_at (suc before) rest place kind are.1 is ∙ next_place before place

all_numbered : AreNumbered 0 kinds
all_numbered = (refl, (refl, (refl, (refl, (refl, (refl, (refl, (refl, (refl, (refl, (refl, (refl, (refl, (refl, (refl, (refl, (refl, (refl, (refl, (refl, (refl, (refl, (refl, (refl, (refl, (refl, (refl, (refl, (refl, (refl, (refl, (refl, (refl, (refl, (refl, tt)))))))))))))))))))))))))))))))))))

-- a kind that a number gives has that number
numbered : (number : ℕ) (kind : FaultKind) → kind_numbered number ≡ Some kind → fault_number kind ≡ number
numbered zero kind is = absurd (none-some kind is)
numbered (suc place) kind is = numbered_at 0 kinds place kind all_numbered is ∙ from_none place

-- a number that no kind has gives no text
pub no_text : (number : ℕ) → IsNoFault number → fault_text number ≡ []
no_text number none = go (kind_numbered number) refl
  where
    go : (found : Option FaultKind) → kind_numbered number ≡ found → found_text found ≡ []
    go None is = refl
    go (Some kind) is = absurd (none kind (numbered number kind is))

-- the kind at the place of a number
pub numbered_from : (number : ℕ) (other : FaultKind) → (number ≡ 0 → ⊥) → number ≤ 35 → Some (get_or kinds (number - 1) other) ≡ kind_numbered number
numbered_from zero other some within = absurd (some refl)
numbered_from (suc place) other some within =
    let before : suc place - 1 ≡ place = omega arith in
    ap (λ (k : ℕ). Some (get_or kinds k other)) before ∙ sym (slice_get-get_or kinds place other (omega arith))

-- no kind is before the first or after the last
pub not_numbered : (number : ℕ) → (number ≡ 0) ⊎ ((number ≡ 0 → ⊥) × 35 < number) → None ≡ kind_numbered number
not_numbered number (inl is) = ap kind_numbered (sym is)
not_numbered zero (inr (some, past)) = refl
not_numbered (suc place) (inr (some, past)) = sym (slice_get_past kinds place (omega arith))

-- Outputs whose sources don't ask: no call of these sources fails at a device.

abbrev View : Type 0
View = EngineView AskedTexts (List ℕ)

-- a call of sources that don't ask
called : (failed refused : Bool) (old new : AskedTexts) → SourcesCalled owned_sources failed refused old new → old.asks ≡ false → (failed ≡ false) × (new.asks ≡ false)
called failed refused old new c e =
    (unasked old.asks new.asks failed old.failures new.failures e c.failures, still_asked old.asks new.asks failed old.failures new.failures c.failures ∙ e)

-- An opening.

-- an output that was opened
pub quiet_opening : (limits : Limits) (given : Given) (origins : Bool) (sources : AskedTexts) (path : List ℕ) (reading : ReadingView AskedTexts (List ℕ))
    → OpensGiven owned_sources limits given origins sources path reading → sources.asks ≡ false → IsQuiet reading.engine
unfolding fresh_engine
quiet_opening limits (Taken macros) origins sources path reading o e =
    let c = called (is_device_fault o.opening) (is_memory_fault o.opening) sources reading.engine.sources o.starts.call e in
    record { asks = c.1; kept = ap is_device_fault o.starts.keeps ∙ c.0 }
quiet_opening limits (GivenFault f) origins sources path reading o e = absurd o

-- sources that are opened ask where they did
pub opening_asks : (limits : Limits) (given : Given) (origins : Bool) (sources : AskedTexts) (path : List ℕ) (reading : ReadingView AskedTexts (List ℕ))
    → OpensGiven owned_sources limits given origins sources path reading → reading.engine.sources.asks ≡ sources.asks
unfolding fresh_engine
opening_asks limits (Taken macros) origins sources path reading o =
    still_asked sources.asks reading.engine.sources.asks (is_device_fault o.opening) sources.failures reading.engine.sources.failures o.starts.call.failures
opening_asks limits (GivenFault f) origins sources path reading o = absurd o

-- A step.

answered : (answer : Result (Option (List ℕ)) Report) (kept : Option Report) → has_failed None answer ≡ false → IfErr answer (λ f. kept ≡ Some f)
    → IfOk answer (λ lent. kept ≡ None) → is_device_fault kept ≡ false
unfolding has_met is_device_fault
answered (Ok lent) kept met keeps free = ap is_device_fault free
answered (Err f) kept met keeps free = ap is_device_fault keeps ∙ met

stepped : (kept : Option Report) (old new : View) (answer : Result (Option (List ℕ)) Report) → old.kept ≡ kept → Step owned_sources old new answer → IsQuiet old → IsQuiet new
stepped (Some f) old new answer e s q = subst (λ (x : View). IsQuiet x) (sym (s.kept f e).1) q
stepped None old new answer e s q =
    let c = called (has_failed old.kept answer) (has_refused old.kept answer) old.sources new.sources s.call q.asks in
    record { asks = c.1; kept = answered answer new.kept (ap (λ (k : Option Report). has_failed k answer) (sym e) ∙ c.0) s.keeps s.free }

quiet_step : (old new : View) (answer : Result (Option (List ℕ)) Report) → Step owned_sources old new answer → IsQuiet old → IsQuiet new
quiet_step old new answer s q = stepped old.kept old new answer refl s q

-- A read.

turned : (old new : View) (rest : List ℕ) (ending : Option ReadEnd) → Turns owned_sources old new rest ending → IsQuiet old → IsQuiet new
turned old new rest None t q = quiet_step old new (Ok (Some rest)) t q
turned old new rest (Some Finished) t q = quiet_step old new (Ok None) t.0 q
turned old new rest (Some Stopped) t q = quiet_step old new (Err t.fault) t.steps q

-- a read of one piece
pub quiet_piece : (old : ReadingView AskedTexts (List ℕ)) (new : View) (rest piece : List ℕ) (ending : Option ReadEnd)
    → IsNextPiece owned_sources old new rest piece ending → IsQuiet old.engine → IsQuiet new
quiet_piece old new [] piece ending n q = turned old.engine new piece ending n q
quiet_piece old new (b ∷ rest) piece ending n q = subst (λ (x : View). IsQuiet x) (sym n.0) q

stopped : (kept : Option Report) (old new : View) (lent : List ℕ) → old.kept ≡ kept → Stops owned_sources old new lent → is_fresh is_read_failed kept new.kept ≡ false
    → is_device_fault kept ≡ false → is_device_fault new.kept ≡ false
unfolding is_fresh is_device_fault
stopped (Some k) old new lent e s met q = ap (λ (x : View). is_device_fault x.kept) (s.again k e).2 ∙ (ap is_device_fault e ∙ q)
stopped None old new lent e s met q = ap is_device_fault s.kept ∙ (ap (λ (k : Option Report). is_fresh is_read_failed None k) (sym s.kept) ∙ met)

filled : (old new : View) (lent : List ℕ) (ending : Option ReadEnd) → LentEnds owned_sources old new lent ending
    → is_fresh is_read_failed old.kept (ended_with ending new.kept) ≡ false → is_device_fault old.kept ≡ false → is_device_fault new.kept ≡ false
unfolding is_device_fault
filled old new lent None l met q = ap is_device_fault l.kept ∙ q
filled old new lent (Some Finished) l met q = ap is_device_fault l.kept
filled old new lent (Some Stopped) l met q = stopped old.kept old new lent refl l met q

-- bytes that were lent
pub quiet_lent : (old new : View) (lent : List ℕ) (ending : Option ReadEnd) → LentEnds owned_sources old new lent ending
    → SourcesCalled owned_sources (is_fresh is_read_failed old.kept (ended_with ending new.kept)) (is_fresh is_memory_kind old.kept (ended_with ending new.kept)) old.sources new.sources
    → IsQuiet old → IsQuiet new
quiet_lent old new lent ending ends reads q =
    let end = ended_with ending new.kept in
    let c = called (is_fresh is_read_failed old.kept end) (is_fresh is_memory_kind old.kept end) old.sources new.sources reads q.asks in
    record { asks = c.1; kept = filled old new lent ending ends c.0 q.kept }

-- a read of a stream
quiet_read : (pieces : Bool) (old new : Stream) (before after : List ℕ) (len : ℕ) (ending : Option ReadEnd) → ReadsBytes pieces old new before after len ending
    → IsQuiet old.reading.engine → IsQuiet new.reading.engine
quiet_read true old new before after len ending r q = quiet_piece old.reading new.reading.engine old.reading.rest r.gives.piece ending r.gives.next q
quiet_read false old new before after len ending r q = quiet_lent old.reading.engine new.reading.engine r.fills.lent ending r.fills.ends r.fills.reads q

-- A search that is made again.

retried : (failed : Bool) (old new : View) → is_failed_search old ≡ failed → Retries owned_sources old new → IsQuiet old → IsQuiet new
unfolding is_device_fault
retried true old new e r q = subst (λ (x : View). IsQuiet x) (sym (r.forgets e)) (record { asks = q.asks; kept = refl })
retried false old new e r q = subst (λ (x : View). IsQuiet x) (sym (r.same e)) q

restarted : (failed : Bool) (old new : View) (path : List ℕ) (answer : Option Report) → is_failed_start old ≡ failed → StartsAgain owned_sources old new path answer
    → IsQuiet old → IsQuiet new
restarted true old new path answer e s q =
    let starts = s.again e in
    let c = called (is_device_fault answer) (is_memory_fault answer) old.sources new.sources starts.call q.asks in
    record { asks = c.1; kept = ap is_device_fault starts.keeps ∙ c.0 }
restarted false old new path answer e s q = subst (λ (x : View). IsQuiet x) (sym (s.same e).0) q

-- what a read begins with
pub quiet_start : (wanted : Option (List ℕ)) (old new : Stream) → TakesUp wanted old new → IsQuiet old.reading.engine → IsQuiet new.reading.engine
quiet_start None old new t q = subst (λ (s : Stream). IsQuiet s.reading.engine) (sym t) q
quiet_start (Some path) old new t q =
    restarted (is_failed_start t.retried) t.retried new.reading.engine _ t.opening refl t.starts
    (retried (is_failed_search old.reading.engine) old.reading.engine t.retried refl t.retries q)

-- What is told.

-- no other kind of fault has the number of a read that failed
unread : (kind : FaultKind) → is_read_failed kind ≡ false → ¬ (fault_number kind ≡ 32)
unfolding is_read_failed
unread kind e is =
    let same : ReadFailed ≡ kind = same_Some ReadFailed kind (ap kind_numbered (sym is) ∙ own_kind kind) in
    let failed : true ≡ is_read_failed kind = ap is_read_failed same in
    cc

ended : (ending : Option ReadEnd) (kept : Option Report) → is_device_fault kept ≡ false → is_device_fault (ended_with ending kept) ≡ false
unfolding is_device_fault
ended None kept q = refl
ended (Some Finished) kept q = refl
ended (Some Stopped) kept q = q

-- the numbers of a read that met no such fault
abbrev TellsNone : Numbers → Type 0
TellsNone outcome = ¬ (outcome.status ≡ 7) × ¬ (outcome.number ≡ 32)

numbers : (len : ℕ) (ending : Option ReadEnd) (fault : Option Report) (sources : AskedTexts) → is_device_fault fault ≡ false
    → TellsNone (told_numbers len ending fault (read_wanted fault sources))
unfolding is_device_fault
numbers len None None sources q = (λ e. omega (arith, e), λ e. omega (arith, e))
numbers len (Some Finished) None sources q = (λ e. omega (arith, e), λ e. omega (arith, e))
numbers len (Some Stopped) None sources q = (λ e. omega (arith, e), λ e. omega (arith, e))
numbers len ending (Some f) sources q =
    let none : wanted_by f.kind sources ≡ None = ap (λ (b : Bool). if b then wanted_of sources else None) q in
    subst (λ (w : Option (List ℕ)). TellsNone (told_numbers len ending (Some f) w)) (sym none) (λ e. omega (arith, e), unread f.kind q)

-- a read is told that ended an output whose engine is quiet
pub tells_quietly : (len : ℕ) (ending : Option ReadEnd) (after : Stream) (old new : FaultBuffers) (outcome : Numbers) → IsQuiet after.reading.engine
    → TellsRead len ending (ended_with ending after.reading.engine.kept) (read_wanted (ended_with ending after.reading.engine.kept) after.reading.engine.sources) old new outcome
    → StaysQuiet after outcome
tells_quietly len ending after old new outcome q t =
    let fault = ended_with ending after.reading.engine.kept in
    let told = subst (λ (n : Numbers). TellsNone n) (sym t.numbers) (numbers len ending fault after.reading.engine.sources (ended ending after.reading.engine.kept q.kept)) in
    record { engine = q; unasked = told.0; unfailed = told.1 }

-- a read begins, reads and tells
pub reads_quietly : (before at after : Stream) (out_before out_after : List ℕ) (len : ℕ) (ending : Option ReadEnd) (old new : FaultBuffers) (outcome : Numbers)
    → TakesUp (wanted_of before.reading.engine.sources) before at → ReadsBytes at.pieces at after out_before out_after len ending
    → TellsRead len ending (ended_with ending after.reading.engine.kept) (read_wanted (ended_with ending after.reading.engine.kept) after.reading.engine.sources) old new outcome
    → IsQuiet before.reading.engine → StaysQuiet after outcome
reads_quietly before at after out_before out_after len ending old new outcome takes reads tells q =
    tells_quietly len ending after old new outcome
    (quiet_read at.pieces at after out_before out_after len ending reads (quiet_start (wanted_of before.reading.engine.sources) before at takes q)) tells

-- a read of the stream that a handle owns
pub held_quietly : (before after : Stream) (first last : Option Stream) (outcome : Numbers) → first ≡ Some before → last ≡ Some after
    → (IsQuiet before.reading.engine → StaysQuiet after outcome) → ReadsQuietly first last outcome
held_quietly before after first last outcome p l stays = subst (λ (o : Option Stream). ReadsQuietly o last outcome) (sym p) (λ q. (after, l, stays q))

-- Reads over parts of pieces, of whose lines the map is kept.

abbrev Reader : Type 0
Reader = ReadingView AskedTexts (List ℕ)

abbrev Inner : Type 0
Inner = EngineView AskedTexts (List ℕ)

-- the piece from which a part is given is what is left of a reading
mapped_turned : (old mid : Reader) (new : Inner) (before at : List ℕ) (len : ℕ) (rest piece : List ℕ) → mid.rest ≡ rest → IsGiven owned_sources old mid before at len
    → IsNextPiece owned_sources mid new rest piece None → IsGiven owned_sources old (record { engine = new; rest = piece }) before at len
mapped_turned old mid new before at len [] piece e w n = given_turned owned_sources old mid (record { engine = new; rest = piece }) before at len w e n
mapped_turned old mid new before at len (b ∷ rest) piece e w n =
    let same : mid ≡ record { engine = new; rest = piece } =
    ap (λ (x : Inner). record { engine = x; rest = mid.rest }) (sym n.0) ∙ ap (λ (r : List ℕ). record { engine = new; rest = r }) (e ∙ sym n.1) in
    subst (λ (r : Reader). IsGiven owned_sources old r before at len) same w

-- a part that was read
pub part_given : (old mid new : Reader) (before at after tail : List ℕ) (len n : ℕ) → IsGiven owned_sources old mid before at len
    → GivesPiece owned_sources mid new (drop len at) tail n None → after ≡ take len at ++ tail → IsGiven owned_sources old new before after (len + n)
part_given old mid new before at after tail len n w p over =
    given_more owned_sources old (record { engine = new.engine; rest = p.piece }) new before at after len n
    (mapped_turned old mid new.engine before at len mid.rest p.piece refl w p.next)
    (ap (λ (r : List ℕ). record { engine = new.engine; rest = r }) p.rest)
    (p.count ∙ ap (λ k. min (length p.piece) k) (length-drop len at))
    (over ∙ ap (λ (t : List ℕ). take len at ++ t) p.out ∙ sym (append_assoc (take len at) (take n p.piece) (drop n (drop len at)))
    ∙ ap (λ (d : List ℕ). take len at ++ take n p.piece ++ d) (drop-drop n len at))

-- a turn that ends the output
last_turn : (mid : Reader) (new : Inner) (rest piece : List ℕ) (e : ReadEnd) → mid.rest ≡ rest → IsNextPiece owned_sources mid new rest piece (Some e)
    → (mid.rest ≡ []) × Turns owned_sources mid.engine new piece (Some e)
last_turn mid new [] piece e same n = (same, n)
last_turn mid new (b ∷ rest) piece e same n = (let no : ⊥ = cc n.2 in absurd no)

-- with the end no piece comes
no_piece : (old new : Inner) (piece : List ℕ) (e : ReadEnd) → Turns owned_sources old new piece (Some e) → piece ≡ []
no_piece old new piece Finished t = t.1
no_piece old new piece Stopped t = t.none

least_none : (n room : ℕ) → n ≡ min 0 room → n ≡ 0
least_none n room e = grind arith

-- where nothing is given, the buffer stays
unchanged : (at after tail piece : List ℕ) (len n : ℕ) → n ≡ 0 → tail ≡ take n piece ++ drop n (drop len at) → after ≡ take len at ++ tail → after ≡ at
unchanged at after tail piece len n none out over =
    over ∙ ap (λ (t : List ℕ). take len at ++ t) (out ∙ ap (λ (k : ℕ). take k piece ++ drop k (drop len at)) none) ∙ take-append-drop len at

len_stays : (len n : ℕ) → n ≡ 0 → len ≡ len + n
len_stays len n e = omega (arith, e)

-- a part with which the output ended
part_ended : (old mid new : Reader) (before at after tail : List ℕ) (len n : ℕ) (e : ReadEnd) → IsGiven owned_sources old mid before at len
    → GivesPiece owned_sources mid new (drop len at) tail n (Some e) → after ≡ take len at ++ tail → FillsPart owned_sources old new before after (len + n) (Some e)
part_ended old mid new before at after tail len n e w p over =
    let turn = last_turn mid new.engine mid.rest p.piece e refl p.next in
    let none = no_piece mid.engine new.engine p.piece e turn.1 in
    let no_bytes : n ≡ 0 = least_none n (length (drop len at)) (p.count ∙ ap (λ (xs : List ℕ). min (length xs) (length (drop len at))) none) in
    let rest : new.rest ≡ p.piece = p.rest ∙ ap (λ (k : ℕ). drop k p.piece) no_bytes in
    let fills : FillsPart owned_sources old new before at len (Some e) =
    fills_part owned_sources old new before at len (Some e)
    (fills_ended owned_sources old mid new before at len e w turn.0 (subst (λ (r : List ℕ). Turns owned_sources mid.engine new.engine r (Some e)) (sym rest) turn.1)) in
    subst (λ (k : ℕ). FillsPart owned_sources old new before after k (Some e)) (len_stays len n no_bytes)
    (subst (λ (out : List ℕ). FillsPart owned_sources old new before out len (Some e)) (sym (unchanged at after tail p.piece len n no_bytes p.out over)) fills)

-- a piece of which nothing is given has no bytes, where there is room
empty_piece : (piece : List ℕ) (n room : ℕ) → n ≡ min (length piece) room → n ≡ 0 → 0 < room → length piece ≡ 0
empty_piece piece n room e none some = grind arith

-- a turn to a piece without bytes
empty_turn : (mid : Reader) (new : Inner) (rest piece : List ℕ) → mid.rest ≡ rest → IsNextPiece owned_sources mid new rest piece None → length piece ≡ 0
    → (mid.rest ≡ []) × Turns owned_sources mid.engine new piece None
empty_turn mid new [] piece same n none = (same, n)
empty_turn mid new (b ∷ rest) piece same n none = (let no : ⊥ = cc (ap length (sym n.1) ∙ none) in absurd no)

some_left : (len : ℕ) (at : List ℕ) → len < length at → 0 < length (drop len at)
some_left len at less = (let d = length-drop len at in omega arith)

-- a part without bytes
part_paused : (old mid new : Reader) (before at after tail : List ℕ) (len n : ℕ) → IsGiven owned_sources old mid before at len
    → GivesPiece owned_sources mid new (drop len at) tail n None → after ≡ take len at ++ tail → len < length at → n ≡ 0
    → (len + n ≡ length before) ⊎ Pauses owned_sources old new
part_paused old mid new before at after tail len n w p over less none =
    let empty = empty_piece p.piece n (length (drop len at)) p.count none (some_left len at less) in
    let turn = empty_turn mid new.engine mid.rest p.piece refl p.next empty in
    let rest : new.rest ≡ p.piece = p.rest ∙ ap (λ (k : ℕ). drop k p.piece) none in
    let fills : FillsPart owned_sources old new before at len None =
    fills_paused owned_sources old mid new before at len w turn.0 (subst (λ (r : List ℕ). Turns owned_sources mid.engine new.engine r None) (sym rest) turn.1) (ap length rest ∙ empty) in
    subst (λ (k : ℕ). (k ≡ length before) ⊎ Pauses owned_sources old new) (len_stays len n none) (fills.full refl)

-- what remains of an output that goes on
leaves_given : (old new : Reader) (before after : List ℕ) (len : ℕ) → IsGiven owned_sources old new before after len → Leaves owned_sources old new (take len after) None
unfolding reading_left
leaves_given old new before after len w =
    let left = left_of owned_sources new.engine in
    ap (and_then (gives old.rest)) (w.so.ends.answers tt) ∙ and_then-gives_gives old.rest w.lent left ∙ ap (λ (xs : List ℕ). and_then (gives xs) left) (sym w.given)
    ∙ sym (and_then-gives_gives (take len after) new.rest left)

-- a read after which the output goes on
pub lines_going : (old new : Stream) (before after : List ℕ) (len room : ℕ) → IsGiven owned_sources old.reading new.reading before after len
    → (len ≡ length before) ⊎ ((room < 1100) ⊎ Pauses owned_sources old.reading new.reading) → new ≡ record old { reading = new.reading; part = new.part; lines = new.lines }
    → ReadsLines old new before after len None room
lines_going old new before after len room w full only = record {
  lent = w.lent;
  inside = (let i = w.inside in let s = w.size in omega arith);
  given = w.given;
  following = w.following;
  full = λ _. full;
  used = λ e bad. (let no : ⊥ = cc bad in absurd no);
  ends = w.so.ends;
  reads = w.so.reads;
  left = leaves_given old.reading new.reading before after len w;
  only = only;
}

-- a read that came to the end, or to a fault
lines_ended : (old new : Stream) (before after : List ℕ) (len room : ℕ) (e : ReadEnd) → FillsPart owned_sources old.reading new.reading before after len (Some e)
    → new ≡ record old { reading = new.reading; part = new.part; lines = new.lines } → ReadsLines old new before after len (Some e) room
lines_ended old new before after len room e f only = record {
  lent = f.lent;
  inside = f.inside;
  given = f.given;
  following = f.following;
  full = λ bad. (let no : ⊥ = cc bad in absurd no);
  used = f.used;
  ends = f.ends;
  reads = f.reads;
  left = leaves owned_sources old.reading new.reading before after len (Some e) f tt;
  only = only;
}

paused_full : (len room size : ℕ) (P : Type 0) → (len ≡ size) ⊎ P → (len ≡ size) ⊎ ((room < 1100) ⊎ P)
paused_full len room size P (inl e) = inl e
paused_full len room size P (inr p) = inr (inr p)

-- nothing but the reading, its part and the map's lines changes
pub only_more : (old mid new : Stream) → mid ≡ record old { reading = mid.reading; part = mid.part; lines = mid.lines }
    → new ≡ record mid { reading = new.reading; part = new.part; lines = new.lines } → new ≡ record old { reading = new.reading; part = new.part; lines = new.lines }
only_more old mid new p q = q ∙ ap (λ (s : Stream). record s { reading = new.reading; part = new.part; lines = new.lines }) p

-- a part that doesn't end the output
pub part_goes_on : (old mid new : Stream) (before at after tail : List ℕ) (len n : ℕ) (ending : Option ReadEnd) → IsGiven owned_sources old.reading mid.reading before at len
    → ReadsPart mid new (drop len at) tail n ending → after ≡ take len at ++ tail → is_some ending ≡ false → IsGiven owned_sources old.reading new.reading before after (len + n)
part_goes_on old mid new before at after tail len n None w r over none = part_given old.reading mid.reading new.reading before at after tail len n w r.gives over
part_goes_on old mid new before at after tail len n (Some e) w r over none = (let no : ⊥ = cc none in absurd no)

-- a read that comes back with a part that ends the output, or that has no bytes
pub lines_stopped : (old mid new : Stream) (before at after tail : List ℕ) (len n room : ℕ) (ending : Option ReadEnd) → IsGiven owned_sources old.reading mid.reading before at len
    → mid ≡ record old { reading = mid.reading; part = mid.part; lines = mid.lines } → ReadsPart mid new (drop len at) tail n ending → after ≡ take len at ++ tail
    → len < length at → (is_some ending ≡ true) ⊎ (n ≡ 0) → ReadsLines old new before after (len + n) ending room
lines_stopped old mid new before at after tail len n room (Some e) w same r over less why =
    lines_ended old new before after (len + n) room e (part_ended old.reading mid.reading new.reading before at after tail len n e w r.gives over) (only_more old mid new same r.only)
lines_stopped old mid new before at after tail len n room None w same r over less (inl bad) = (let no : ⊥ = cc bad in absurd no)
lines_stopped old mid new before at after tail len n room None w same r over less (inr none) =
    lines_going old new before after (len + n) room (part_given old.reading mid.reading new.reading before at after tail len n w r.gives over)
    (paused_full (len + n) room (length before) (Pauses owned_sources old.reading new.reading)
    (part_paused old.reading mid.reading new.reading before at after tail len n w r.gives over less none))
    (only_more old mid new same r.only)

-- A part of a buffer that goes to its end, and a buffer whose end was written.

pub whole_part : (a : ℕ) (xs : List ℕ) → mid_of a (length xs - a) xs ≡ drop a xs
whole_part a xs = take_all (length xs - a) (drop a xs) (let d = length-drop a xs in omega arith)

pub whole_put : (a : ℕ) (xs ys : List ℕ) → put_mid a (length xs - a) xs ys ≡ take a xs ++ ys
whole_put a xs ys =
    let none : drop (length xs - a) (drop a xs) ≡ [] = drop_of_length-le (drop a xs) (let d = length-drop a xs in omega arith) in
    ap (λ (t : List ℕ). take a xs ++ t) (ap (λ (t : List ℕ). ys ++ t) none ∙ append-nil ys)

pub put_length : (a n : ℕ) (xs ys : List ℕ) → a ≤ length xs → n ≤ length ys → a + n ≤ length (put_mid a (length xs - a) xs ys)
put_length a n xs ys inside less =
    subst (λ (l : List ℕ). a + n ≤ length l) (sym (whole_put a xs ys))
    (let x = length-append (take a xs) ys in let y = length-take-le a xs inside in omega arith)

-- a part that is read into the rest of a buffer
pub part_into : (mid new : Stream) (at tail : List ℕ) (len n : ℕ) (ending : Option ReadEnd) → ReadsPart mid new (mid_of len (length at - len) at) tail n ending
    → ReadsPart mid new (drop len at) tail n ending
part_into mid new at tail len n ending r = subst (λ (part : List ℕ). ReadsPart mid new part tail n ending) (whole_part len at) r

-- A read with its map, as it is told.

not_short : (size : ℕ) → 1100 ≤ size → nat_lt size 1100 ≡ false
not_short size enough = grind (arith, nat_tests)

-- a read with its map of an open stream
pub maps_open : (size room told_room : ℕ) (old new : ReadBuffers) (before at after : Stream) (len : ℕ) (ending : Option ReadEnd) (told outcome : Numbers) → 1100 ≤ size
    → told_room ≡ room → outcome ≡ told → TakesUp (wanted_of before.reading.engine.sources) before at → ReadsLines at after old.out new.out len ending room
    → TellsRead len ending (ended_with ending after.reading.engine.kept) (read_wanted (ended_with ending after.reading.engine.kept) after.reading.engine.sources)
    (record { name = old.name; word = old.word }) (record { name = new.name; word = new.word }) told
    → MapsOpen (nat_lt size 1100) told_room old new before after outcome
maps_open size room told_room old new before at after len ending told outcome enough same_room same takes reads tells =
    subst (λ (short : Bool). MapsOpen short told_room old new before after outcome) (sym (not_short size enough))
    (subst (λ (r : ℕ). MapsStream r old new before after outcome) (sym same_room)
    (subst (λ (o : Numbers). MapsStream room old new before after o) (sym same)
    (record { at = at; takes_up = takes; len = len; ending = ending; reads = reads; tells = tells })))

-- a read with its map begins, reads and tells
pub maps_quietly : (before at after : Stream) (out_before out_after : List ℕ) (len room : ℕ) (ending : Option ReadEnd) (old new : FaultBuffers) (outcome : Numbers)
    → TakesUp (wanted_of before.reading.engine.sources) before at → ReadsLines at after out_before out_after len ending room
    → TellsRead len ending (ended_with ending after.reading.engine.kept) (read_wanted (ended_with ending after.reading.engine.kept) after.reading.engine.sources) old new outcome
    → IsQuiet before.reading.engine → StaysQuiet after outcome
maps_quietly before at after out_before out_after len room ending old new outcome takes reads tells q =
    tells_quietly len ending after old new outcome
    (quiet_lent at.reading.engine after.reading.engine reads.lent ending reads.ends reads.reads (quiet_start (wanted_of before.reading.engine.sources) before at takes q)) tells

-- a read with its map of the stream that a handle owns
pub maps_held : (short : Bool) (room : ℕ) (old new : ReadBuffers) (before after : Stream) (first last : Option Stream) (outcome : Numbers) → first ≡ Some before → last ≡ Some after
    → MapsOpen short room old new before after outcome → ReadsMapped short room old new first last outcome
maps_held short room old new before after first last outcome p l maps = subst (λ (o : Option Stream). ReadsMapped short room old new o last outcome) (sym p) (after, l, maps)
