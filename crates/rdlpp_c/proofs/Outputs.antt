-- The output that a call asks for, read to its end.
use Rattle.std.proofs.Common.{◌≡◌, ℕ, ◌+◌, ◌-◌, ◌^◌, ◌<◌, ◌≤◌, ◌||◌, min, Bool, true, false, List, [], ◌∷◌, ◌++◌, length, take, drop, Option, None, Some, refl, sym, ap, subst, ◌∙◌, append-nil, length-append, arith, map, Ok, Err, Result, string_bytes, drop_of_length-le, length-take-le, take-append-drop, take_all}
use Rattle.std.proofs.Math.Seq.{take-append_seam}
use Rattle.rdlpp_define.specs.Limits.{limit_fault}
use Rattle.rdlpp_define.specs.declared.limits.Limits.{Limits}
use Rattle.rdlpp_meaning.specs.Outcome.{Outcome, Report, and_then, fails, gives, report_of}
use Rattle.rdlpp_meaning.proofs.Outcomes.{and_then-gives_gives, bytes-and_then_gives}
use Rattle.rdlpp_source.specs.Counts.{Counts}
use Rattle.rdlpp_source.specs.declared.asked.AskedTexts.{AskedTexts}
use Rattle.rdlpp_source.specs.declared.texts.TextReader.{TextReader}
use Rattle.rdlpp_source.specs.declared.texts.Texts.{Texts}
use Rattle.rdlpp_state.specs.Calls.{SourcesCalled}
use Rattle.rdlpp_state.specs.Opening.{is_device_fault, is_memory_fault}
use Rattle.rdlpp_state.specs.Steps.{is_call_failed, is_memory_kind, is_read_failed}
use Rattle.rdlpp_expand.specs.Reading.{Fills, Leaves, ReadingView, ended_with, reading_left}
use Rattle.rdlpp_expand.specs.Run.{is_fresh}
use Rattle.rdlpp_expand.specs.declared.reading.ReadEnd.{ReadEnd}
use Rattle.rdlpp_expand.specs.declared.reading.ReadEnd.TheVariants.{Finished, Stopped as StoppedRead}
use Rattle.rdlpp_expand.specs.declared.writing.RunFault.{RunFault}
use Rattle.rdlpp.specs.Definitions.{GivenFault, Given, Taken}
use Rattle.rdlpp.specs.Opening.{Opens, OpensGiven, OpensOutput}
use Rattle.rdlpp.specs.Preprocess.{given_by, output_given, output_of}
use Rattle.rdlpp.specs.declared.fault.PrepFault.{PrepFault}
use Rattle.rdlpp.specs.declared.fault.PrepFault.TheVariants.{BadLimits, NoMemory as NoneLeft, Run}
use Rattle.rdlpp_c.specs.Answer.{AreLists, Gives, IsOutput, output_bytes, text_sources}
use Rattle.rdlpp_c.specs.Buffers.{overwritten}
use Rattle.rdlpp_c.specs.Output.{Counted, Ends, IsRead}
use Rattle.rdlpp_c.specs.Request.{Asked, file_bytes}
use Rattle.rdlpp_c.specs.Streaming.{AreOwned, IsQuiet, IsStreamed, OpensStream, ReadBuffers, Reads, ReadsStream, StreamsOutput, owned_sources, refused_answer}
use Rattle.rdlpp_c.specs.Telling.{Buffers, name_bytes, told_to, word_bytes}
use Rattle.rdlpp_c.specs.declared.asking.Answer.{Answer}
use Rattle.rdlpp_c.specs.declared.asking.Answer.TheVariants.{Stopped, Whole}
use Rattle.rdlpp_c.specs.declared.asking.Lists.{Lists}
use Rattle.rdlpp_c.specs.declared.opening.Owned.{Owned}
use Rattle.rdlpp_c.specs.declared.stream.Stream.{Stream}
use Rattle.rdlpp_c.specs.declared.telling.Outcome.{Outcome as Numbers}

-- Reads of an output to its end, over sources in memory, which never fail.

-- a reading over sources in memory, as contracts see it
abbrev pub View : Type 0
View = ReadingView Texts TextReader

-- a count that stays nothing didn't rise
stays : (rose : Bool) → Counts rose 0 0 → rose ≡ false
stays false c = refl
stays true c = (let bad : ⊥ = omega (arith, c) in absurd bad)

-- a fault that was met is none of a source
pub unfailed : (kept : Option Report) (fault : Report) (old new : Texts)
    → SourcesCalled text_sources (is_fresh is_read_failed kept (Some fault)) (is_fresh is_memory_kind kept (Some fault)) old new
    → is_fresh is_call_failed kept (Some fault) ≡ false
unfolding is_fresh is_call_failed
unfailed (Some k) fault old new c = refl
unfailed None fault old new c = ap (λ b. b || is_memory_kind fault.kind) (stays (is_read_failed fault.kind) c.failures) ∙ stays (is_memory_kind fault.kind) c.refusals

-- an opening met no fault of a source
pub opening_unfailed : (limits : Limits) (given : Given) (origins : Bool) (sources : Texts) (path : List ℕ) (reading : View)
    → OpensGiven text_sources limits given origins sources path reading
    → (is_device_fault reading.engine.kept ≡ false) × (is_memory_fault reading.engine.kept ≡ false)
opening_unfailed limits (Taken macros) origins sources path reading o = (
  ap is_device_fault o.starts.keeps ∙ stays (is_device_fault o.opening) o.starts.call.failures,
  ap is_memory_fault o.starts.keeps ∙ stays (is_memory_fault o.opening) o.starts.call.refusals,
)
opening_unfailed limits (GivenFault f) origins sources path reading o = absurd o

-- bytes and then a fault
stopped : (bytes : List ℕ) (fault : Report) → and_then (gives bytes) (fails fault) ≡ record { bytes = bytes; fault = Some fault }
unfolding and_then gives fails
stopped bytes fault = ap (λ (b : List ℕ). record { bytes = b; fault = Some fault }) (append-nil bytes)

-- the read by which the output ended
pub ends : (old new : View) (before after : List ℕ) (len : ℕ) (e : ReadEnd) → Fills text_sources old new before after len (Some e)
    → Leaves text_sources old new (take len after) (Some e) → Ends text_sources old new (take len after) e
unfolding gives
ends old new before after len Finished f l = record { is = l }
ends old new before after len StoppedRead f l =
    let P : Option Report → Type 0 = λ k. SourcesCalled text_sources (is_fresh is_read_failed old.engine.kept k) (is_fresh is_memory_kind old.engine.kept k) old.engine.sources new.engine.sources in
    let bytes = take len after in
    record {
      is = l.exact (unfailed old.engine.kept l.fault old.engine.sources new.engine.sources (subst P l.kept f.reads))
          ∙ stopped bytes l.fault ∙ ap (λ (k : Option Report). record { bytes = bytes; fault = k }) (sym l.kept);
    }

-- bytes in front of an output that ended
ended_after : (xs ys : List ℕ) (fault : Option Report) → and_then (gives xs) (record { bytes = ys; fault = fault }) ≡ record { bytes = xs ++ ys; fault = fault }
unfolding and_then gives
ended_after xs ys fault = refl

pub ends_after : (old mid new : View) (xs ys : List ℕ) (e : ReadEnd) → Leaves text_sources old mid xs None → Ends text_sources mid new ys e
    → Ends text_sources old new (xs ++ ys) e
ends_after old mid new xs ys e l is = record {
  is = l ∙ ap (and_then (gives xs)) is.is ∙ ended_after xs ys (ended_with (Some e) new.engine.kept);
}

-- what was read so far, and the count of its bytes after so many
pub record PassesOver (old new : View) (before now : ℕ) : Type 0 where
  pub bytes : List ℕ
  pub leaves : Leaves text_sources old new bytes None
  pub count : now ≡ min (before + length bytes) (2 ^ 64 - 1)

pub passed_none : (r : View) (count : ℕ) → count ≤ 2 ^ 64 - 1 → PassesOver r r count count
unfolding and_then gives
passed_none r count least = record { bytes = []; leaves = refl; count = grind arith }

-- counts of two parts, up to the largest `u64`
counted_twice : (a n b k c : ℕ) → n ≡ min (a + b) (2 ^ 64 - 1) → c ≡ min (n + k) (2 ^ 64 - 1) → c ≡ min (a + (b + k)) (2 ^ 64 - 1)
counted_twice a n b k c p q = grind arith

after_both : (a n : ℕ) (xs ys : List ℕ) (c : ℕ) → n ≡ min (a + length xs) (2 ^ 64 - 1) → c ≡ min (n + length ys) (2 ^ 64 - 1) → c ≡ min (a + length (xs ++ ys)) (2 ^ 64 - 1)
after_both a n xs ys c p q = counted_twice a n (length xs) (length ys) c p q ∙ ap (λ k. min (a + k) (2 ^ 64 - 1)) (sym (length-append xs ys))

-- the length of what a read wrote
written : (old new : View) (before after : List ℕ) (len : ℕ) (ending : Option ReadEnd) → Fills text_sources old new before after len ending → length (take len after) ≡ len
written old new before after len ending f = length-take-le len after (let i = f.inside in let s = f.size in omega arith)

pub passed_more : (old mid new : View) (a n c : ℕ) (before after : List ℕ) (len : ℕ) → PassesOver old mid a n → Fills text_sources mid new before after len None
    → Leaves text_sources mid new (take len after) None → c ≡ min (n + len) (2 ^ 64 - 1) → PassesOver old new a c
passed_more old mid new a n c before after len p f l is =
    let ys = take len after in
    record {
      bytes = p.bytes ++ ys;
      leaves = p.leaves ∙ ap (and_then (gives p.bytes)) l ∙ and_then-gives_gives p.bytes ys (reading_left text_sources new);
      count = after_both a n p.bytes ys c p.count (is ∙ ap (λ k. min (n + k) (2 ^ 64 - 1)) (sym (written mid new before after len None f)));
    }

-- a read that filled a buffer with room leaves less
pub left_falls : (old new : View) (before after : List ℕ) (len : ℕ) → Fills text_sources old new before after len None → Leaves text_sources old new (take len after) None
    → 0 < length before → length (reading_left text_sources new).bytes < length (reading_left text_sources old).bytes
left_falls old new before after len f l some =
    let xs = take len after in
    let rest = (reading_left text_sources new).bytes in
    let whole : length (reading_left text_sources old).bytes ≡ length xs + length rest = ap (λ (o : Outcome). length o.bytes) l ∙ ap length (bytes-and_then_gives xs (reading_left text_sources new)) ∙ length-append xs rest in
    let size = written old new before after len None f in
    let full = f.full refl in
    omega arith

pub counted_end : (old mid new : View) (a n c : ℕ) (before after : List ℕ) (len : ℕ) (e : ReadEnd) → PassesOver old mid a n → Fills text_sources mid new before after len (Some e)
    → Leaves text_sources mid new (take len after) (Some e) → c ≡ min (n + len) (2 ^ 64 - 1) → Counted text_sources old new a c e
counted_end old mid new a n c before after len e p f l is =
    let ys = take len after in
    record {
      bytes = p.bytes ++ ys;
      ends = ends_after old mid new p.bytes ys e p.leaves (ends mid new before after len e f l);
      count = after_both a n p.bytes ys c p.count (is ∙ ap (λ k. min (n + k) (2 ^ 64 - 1)) (sym (written mid new before after len (Some e) f)));
    }

-- no bytes are written over none
pub overwritten_none : (buffer : List ℕ) → buffer ≡ overwritten [] buffer
overwritten_none [] = refl
overwritten_none (b ∷ buffer) = refl

-- the first bytes of a buffer were written, and no others are due
overwritten_part : (before after : List ℕ) (len : ℕ) → len ≤ length before → length after ≡ length before → drop len after ≡ drop len before
    → length (take len after) ≡ len → after ≡ overwritten (take len after) before
overwritten_part before after len inside size following exact =
    let xs = take len after in
    sym (take-append-drop len after) ∙ ap (λ (ys : List ℕ). xs ++ ys) following
    ∙ ap (λ (k : ℕ). xs ++ drop k before) (sym exact)
    ∙ ap (λ (ys : List ℕ). ys ++ drop (length xs) before) (sym (take_all (length before) xs (omega (arith, inside, exact))))

-- a whole buffer was written, and more would have been
overwritten_full : (before after more : List ℕ) → length after ≡ length before → after ≡ overwritten (after ++ more) before
overwritten_full before after more size =
    sym (append-nil after)
    ∙ ap (λ (ys : List ℕ). after ++ ys) (sym (drop_of_length-le before (let a = length-append after more in omega (arith, size))))
    ∙ ap (λ (ys : List ℕ). ys ++ drop (length (after ++ more)) before) (sym (take-append_seam after more) ∙ ap (λ k. take k (after ++ more)) size)

-- a count that fits is the least of it and the largest
least : (count len size : ℕ) → count ≡ len → len < 2 ^ 64 → size ≡ len → count ≡ min size (2 ^ 64 - 1)
least count len size p fits q = grind arith

-- an output whose first read came to its end
pub read_whole : (old new : View) (before after : List ℕ) (len count : ℕ) (e : ReadEnd) (fault : Option Report) → count ≡ len → len < 2 ^ 64
    → Fills text_sources old new before after len (Some e) → Leaves text_sources old new (take len after) (Some e)
    → fault ≡ ended_with (Some e) new.engine.kept → IsRead (reading_left text_sources old) before after count fault
read_whole old new before after len count e fault same_count fits f l same =
    let size = written old new before after len (Some e) f in
    record {
      bytes = take len after;
      is = (ends old new before after len e f l).is ∙ ap (λ (k : Option Report). record { bytes = take len after; fault = k }) (sym same);
      counted = least count len (length (take len after)) same_count fits size;
      front = overwritten_part before after len f.inside f.size f.following size;
    }

-- an output that went on after a full buffer
pub read_rest : (old mid new : View) (before after : List ℕ) (len all count : ℕ) (e : ReadEnd) (fault : Option Report) → count ≡ all
    → Fills text_sources old mid before after len None → Leaves text_sources old mid (take len after) None → Counted text_sources mid new len all e
    → fault ≡ ended_with (Some e) new.engine.kept → IsRead (reading_left text_sources old) before after count fault
read_rest old mid new before after len all count e fault same_count f l c same =
    let xs = take len after in
    let whole : xs ≡ after = take_all len after (let s = f.size in let u = f.full refl in omega arith) in
    let size = written old mid before after len None f in
    record {
      bytes = xs ++ c.bytes;
      is = (ends_after old mid new xs c.bytes e l c.ends).is ∙ ap (λ (k : Option Report). record { bytes = xs ++ c.bytes; fault = k }) (sym same);
      counted = same_count ∙ c.count ∙ ap (λ k. min k (2 ^ 64 - 1)) (ap (λ k. k + length c.bytes) (sym size) ∙ sym (length-append xs c.bytes));
      front = overwritten_full before after c.bytes f.size ∙ ap (λ (ys : List ℕ). overwritten (ys ++ c.bytes) before) (sym whole);
    }

-- a read, by how it ended
pub fills_as : (old new : View) (before after : List ℕ) (len : ℕ) (a b : Option ReadEnd) → Fills text_sources old new before after len a → a ≡ b → Fills text_sources old new before after len b
fills_as old new before after len a b f e = subst (λ (x : Option ReadEnd). Fills text_sources old new before after len x) e f

pub leaves_as : (old new : View) (bytes : List ℕ) (a b : Option ReadEnd) → Leaves text_sources old new bytes a → a ≡ b → Leaves text_sources old new bytes b
leaves_as old new bytes a b l e = subst (λ (x : Option ReadEnd). Leaves text_sources old new bytes x) e l

-- The output of lists that are what a call asks for is the output that it asks for, and so is what was read of it.

pub output_asked : (a : Asked) (lists : Lists) (sources : Texts) (output : Outcome)
    → AreLists a lists → sources.files.now ≡ lists.files.items → sources.folders.now ≡ lists.folders.items → limit_fault a.limits ≡ None
    → output_of text_sources lists.options sources lists.path.now ≡ output → IsOutput a output
output_asked a lists sources output are files folders in_range is = record {
  options = lists.options;
  sources = sources;
  asks = record {
    limits = are.limits;
    origins = are.origins;
    definitions = are.definitions;
    texts = ap (map file_bytes) files ∙ are.files;
    folders = ap (map (λ folder. folder.now)) folders ∙ are.folders;
  };
  in_range = in_range;
  is = ap (output_of text_sources lists.options sources) (sym are.path) ∙ is;
}

-- an output that was read to its end is the one that a call asks for
output_read : (a : Asked) (lists : Lists) (sources : Texts) (reading : View) (before after : List ℕ) (count : ℕ) (fault : Option Report)
    → AreLists a lists → sources.files.now ≡ lists.files.items → sources.folders.now ≡ lists.folders.items → limit_fault a.limits ≡ None
    → Opens text_sources lists.options sources lists.path.now (Ok reading)
    → OpensOutput text_sources (output_of text_sources lists.options sources lists.path.now) (Ok reading)
    → (read : IsRead (reading_left text_sources reading) before after count fault) → IsOutput a (record { bytes = read.bytes; fault = fault })
output_read a lists sources reading before after count fault are files folders in_range opens output read =
    let unfailed = opening_unfailed lists.options.limits (given_by lists.options) lists.options.origins sources lists.path.now reading opens.1 in
    output_asked a lists sources (record { bytes = read.bytes; fault = fault }) are files folders in_range (sym (output unfailed.0 unfailed.1) ∙ read.is)

-- an output that is whole
pub gives_whole : (a : Asked) (lists : Lists) (sources : Texts) (reading : View) (before after : List ℕ) (count : ℕ)
    → AreLists a lists → sources.files.now ≡ lists.files.items → sources.folders.now ≡ lists.folders.items → limit_fault a.limits ≡ None
    → Opens text_sources lists.options sources lists.path.now (Ok reading)
    → OpensOutput text_sources (output_of text_sources lists.options sources lists.path.now) (Ok reading)
    → IsRead (reading_left text_sources reading) before after count None → Gives a before after (Whole count)
gives_whole a lists sources reading before after count are files folders in_range opens output read = record {
  bytes = read.bytes;
  comes = (output_read a lists sources reading before after count None are files folders in_range opens output read, read.counted);
  front = read.front;
}

-- an output that a fault ended
pub gives_stopped : (a : Asked) (lists : Lists) (sources : Texts) (reading : View) (before after : List ℕ) (run : RunFault)
    → AreLists a lists → sources.files.now ≡ lists.files.items → sources.folders.now ≡ lists.folders.items → limit_fault a.limits ≡ None
    → Opens text_sources lists.options sources lists.path.now (Ok reading)
    → OpensOutput text_sources (output_of text_sources lists.options sources lists.path.now) (Ok reading)
    → IsRead (reading_left text_sources reading) before after run.written (Some (report_of run.fault)) → Gives a before after (Stopped run)
gives_stopped a lists sources reading before after run are files folders in_range opens output read = record {
  bytes = read.bytes;
  comes = (output_read a lists sources reading before after run.written (Some (report_of run.fault)) are files folders in_range opens output read, read.counted);
  front = read.front;
}

-- an output that wasn't opened
pub gives_refused : (a : Asked) (lists : Lists) (sources : Texts) (buffer : List ℕ) (fault : PrepFault) (answer : Answer)
    → AreLists a lists → sources.files.now ≡ lists.files.items → sources.folders.now ≡ lists.folders.items → limit_fault a.limits ≡ None
    → Opens text_sources lists.options sources lists.path.now (Err fault) → answer ≡ refused_answer fault → Gives a buffer buffer answer
unfolding fails
gives_refused a lists sources buffer fault answer are files folders in_range opens e = subst (λ x. Gives a buffer buffer x) (sym e) (by fault opens)
  where
    by : (fault : PrepFault) → Opens text_sources lists.options sources lists.path.now (Err fault) → Gives a buffer buffer (refused_answer fault)
    by (BadLimits limit) h = record { bytes = []; comes = ap limit_fault (sym are.limits) ∙ h; front = overwritten_none buffer }
    by NoneLeft h = record { bytes = []; comes = in_range; front = overwritten_none buffer }
    by (Run run) h = record {
      bytes = [];
      comes = (
        output_asked a lists sources (record { bytes = []; fault = Some (report_of run.fault) }) are files folders in_range
            (ap (output_given text_sources lists.options.limits lists.options.origins sources lists.path.now) h.1),
        h.2,
      );
      front = overwritten_none buffer;
    }

-- An output that was opened is the one that a call asks for, and a read of what a handle owns is one of a stream.

-- what remains of a stream over what a call asks for
pub streams : (a : Asked) (owned : Owned) (reading : ReadingView AskedTexts (List ℕ)) (stream : Stream) → AreOwned a owned → limit_fault a.limits ≡ None
    → OpensOutput owned_sources (output_of owned_sources owned.options owned.sources (string_bytes owned.path)) (Ok reading)
    → reading.engine.sources.asks ≡ owned.sources.asks → (owned.sources.asks ≡ false → IsQuiet reading.engine)
    → stream.reading ≡ reading → stream.path ≡ owned.path → stream.pieces ≡ owned.pieces → StreamsOutput a stream
streams a owned reading stream are in_range opens asks quiet same path pieces = record {
  output = output_of owned_sources owned.options owned.sources (string_bytes owned.path);
  is = record {
    options = owned.options;
    sources = owned.sources;
    asks = are.asks;
    in_range = in_range;
    is = ap (output_of owned_sources owned.options owned.sources) (sym are.path);
  };
  remains = subst (λ (r : ReadingView AskedTexts (List ℕ)). is_device_fault r.engine.kept ≡ false → is_memory_fault r.engine.kept ≡ false
      → reading_left owned_sources r ≡ output_of owned_sources owned.options owned.sources (string_bytes owned.path)) (sym same) opens;
  asks = ap (λ (r : ReadingView AskedTexts (List ℕ)). r.engine.sources.asks) same ∙ asks ∙ are.asks.asks;
  quiet = λ none. subst (λ (r : ReadingView AskedTexts (List ℕ)). IsQuiet r.engine) (sym same) (quiet (are.asks.asks ∙ none));
  path = ap string_bytes path ∙ are.path;
  pieces = pieces ∙ are.pieces;
}

-- a definition that is refused is the output
pub declined : (a : Asked) (owned : Owned) (f : Report) → AreOwned a owned → limit_fault a.limits ≡ None → given_by owned.options ≡ GivenFault f → IsStreamed a (fails f)
declined a owned f are in_range refused = record {
  options = owned.options;
  sources = owned.sources;
  asks = are.asks;
  in_range = in_range;
  is = ap (output_given owned_sources owned.options.limits owned.options.origins owned.sources a.path) refused;
}

-- an opening that is refused is answered so
pub refused : (a : Asked) (owned : Owned) (fault : PrepFault) (result : Result Stream Answer) → AreOwned a owned → limit_fault a.limits ≡ None
    → Opens owned_sources owned.options owned.sources (string_bytes owned.path) (Err fault) → result ≡ Err (refused_answer fault) → OpensStream a result
refused a owned fault result are in_range opens e = subst (λ (r : Result Stream Answer). OpensStream a r) (sym e) (by fault opens)
  where
    by : (fault : PrepFault) → Opens owned_sources owned.options owned.sources (string_bytes owned.path) (Err fault) → OpensStream a (Err (refused_answer fault))
    by (BadLimits limit) h = ap limit_fault (sym are.asks.limits) ∙ h
    by NoneLeft h = in_range
    by (Run run) h = (declined a owned (report_of run.fault) are in_range h.1, h.2)

-- a read of the stream that a handle owns
pub reads_held : (old new : ReadBuffers) (before after : Stream) (first last : Option Stream) (outcome : Numbers)
    → first ≡ Some before → last ≡ Some after → ReadsStream old new before after outcome → Reads old new first last outcome
reads_held old new before after first last outcome p q reads =
    subst (λ (o : Option Stream). Reads old new o last outcome) (sym p) (after, q, reads)

-- What is written to the buffers of a caller tells an answer.

pub buffers_told : (answer : Answer) (bytes : List ℕ) (old new : Buffers) → new.out ≡ overwritten (output_bytes answer bytes) old.out
    → new.name ≡ overwritten (name_bytes answer) old.name → new.word ≡ overwritten (word_bytes answer) old.word → new ≡ told_to answer bytes old
buffers_told answer bytes old new out name word =
    ap (λ o. record { out = o; name = new.name; word = new.word }) out
    ∙ ap (λ n. record { out = overwritten (output_bytes answer bytes) old.out; name = n; word = new.word }) name
    ∙ ap (λ w. record { out = overwritten (output_bytes answer bytes) old.out; name = overwritten (name_bytes answer) old.name; word = w }) word
