-- Laws of outcomes, of passages, of what remains of a file and of the output.
use Rattle.std.proofs.Common.{◌≡◌, ℕ, List, [], ◌++◌, refl, sym, ap, append_assoc, append-nil, Option, None, Some, ◌+◌, ◌-◌, ◌<◌, ◌≤◌, Bool, true, false, length, take, ◌∙◌, arith, zero, suc, ◌∷◌, All, if◌then◌else◌, nat_le, le-leb, leb-false, leb-true, length-append}
use Rattle.std.specs.List.{AllByRecursion, list_all}
use Rattle.std.proofs.Math.Seq.{take-append-add}
use Rattle.std.proofs.lemmas.Bool.{lt-leb}
use Rattle.std.proofs.lemmas.List.{take-append-le}
use Rattle.std.proofs.lemmas.List.Elements.{recursion_from_All}
use Rattle.rdlpp_scan.specs.Ordinary.{IsPlainToken, is_plain_kind}
use Rattle.rdlpp_scan.specs.SourceTokens.{Ordinary, Sort, SourceToken}
use Rattle.rdlpp_scan.specs.declared.token.Kind.{Kind}
use Rattle.rdlpp_scan.specs.declared.token.Kind.TheVariants.{Back, BareBackquote, BlockComment, LineComment, Perl, Str}
use Rattle.rdlpp_define.specs.Macros.{Macro}
use Rattle.rdlpp_meaning.specs.Expansion.{is_copied}
use Rattle.rdlpp_meaning.specs.Meaning.{Holds, IncludedMeaning, Passage, Progress, TestFault, Test, begun, after_bytes, by_test, goes_on, in_conditional, leaves, mean, mean_branches, mean_part, included_meaning_of, opening, origin_line, outcome, past_conditional, refusal, skip, skip_branches, skip_part, skipped_command, text_meaning, turn, turned, unclosed}
use Rattle.rdlpp_meaning.specs.Outcome.{Outcome, Report, and_then, fails, gives}
use Rattle.rdlpp_meaning.specs.Output.{opening_fault, output, start_state}
use Rattle.rdlpp_meaning.specs.OutputLimit.{limited}
use Rattle.rdlpp_meaning.specs.Parts.{Alone, Branch, Branching, Closing, Command, Conditional, Last, Level, More, Nothing, Opening, Part, Parts, Piece, Run, Single, Text, appended, after_end, front_parts, further_branches, in_front, level_of, level_parts, opened_before, parts_of, pieces}
use Rattle.rdlpp_meaning.specs.Resumed.{Live, Place, Skipped, remains, resume, resumed}
use Rattle.rdlpp_meaning.specs.State.{LongPath, NoSource, Rules, Source, State}
use Rattle.rdlpp_meaning.specs.declared.fault.FaultKind.TheVariants.{PathTooLong, SourceNotFound}

-- Laws of outcomes: one and then another.

-- `and_then` goes on in one way however it is grouped, by the first one's fault
assoc_by : (x : List ℕ) (f : Option Report) (b c : Outcome)
    → and_then (and_then (record { bytes = x; fault = f }) b) c
    ≡ and_then (record { bytes = x; fault = f }) (and_then b c)
unfolding and_then
assoc_by x (Some f) b c = refl
assoc_by x None b c = grind (arith, append_assoc)

-- one outcome, a second and a third are the same however they are grouped
pub and_then-assoc : (a b c : Outcome) → and_then (and_then a b) c ≡ and_then a (and_then b c)
and_then-assoc a b c = assoc_by a.bytes a.fault b c

-- no bytes in front of an outcome are nothing
pub and_then-gives_nil : (o : Outcome) → and_then (gives []) o ≡ o
unfolding and_then gives
and_then-gives_nil o = refl

-- bytes and then bytes are the bytes of both
pub and_then-gives : (x y : List ℕ) → and_then (gives x) (gives y) ≡ gives (x ++ y)
unfolding and_then gives
and_then-gives x y = refl

-- bytes in front of bytes in front of an outcome
pub and_then-gives_gives : (x y : List ℕ) (o : Outcome) → and_then (gives x) (and_then (gives y) o) ≡ and_then (gives (x ++ y)) o
unfolding and_then gives
and_then-gives_gives x y o = ap (λ (z : List ℕ). record { bytes = z; fault = o.fault }) (sym (append_assoc x y o.bytes))

-- nothing counts after a fault
pub and_then-fails : (f : Report) (o : Outcome) → and_then (fails f) o ≡ fails f
unfolding and_then fails
and_then-fails f o = refl

-- an outcome with nothing after it, by its fault
nil_by : (x : List ℕ) (f : Option Report)
    → and_then (record { bytes = x; fault = f }) (gives []) ≡ record { bytes = x; fault = f }
unfolding and_then gives
nil_by x (Some f) = refl
nil_by x None = ap (λ (z : List ℕ). record { bytes = z; fault = None }) (append-nil x)

-- no bytes after an outcome are nothing
pub and_then-nil : (o : Outcome) → and_then o (gives []) ≡ o
and_then-nil o = nil_by o.bytes o.fault

-- the bytes of an outcome after bytes
pub bytes-and_then_gives : (x : List ℕ) (o : Outcome) → (and_then (gives x) o).bytes ≡ x ++ o.bytes
unfolding and_then gives
bytes-and_then_gives x o = refl

-- Laws of passages: one and then what goes on from its state.

-- what goes on from an outcome's state, by the outcome's fault
on_leaves_by : (x : List ℕ) (f : Option Report) (s : State) (g h : State → Passage) → g s ≡ h s
    → goes_on (leaves (record { bytes = x; fault = f }) s) g ≡ goes_on (leaves (record { bytes = x; fault = f }) s) h
unfolding goes_on leaves after_bytes
on_leaves_by x (Some f) s g h e = refl
on_leaves_by x None s g h e = ap (λ (p : Passage). after_bytes x p) e

-- only what goes on from its own state counts after an outcome
pub on_leaves : (o : Outcome) (s : State) (g h : State → Passage) → g s ≡ h s
    → goes_on (leaves o s) g ≡ goes_on (leaves o s) h
on_leaves o s g h e = on_leaves_by o.bytes o.fault s g h e

-- two outcomes that leave a state, by their faults
and_then_by : (x : List ℕ) (f : Option Report) (y : List ℕ) (g : Option Report) (s : State) (next : State → Passage)
    → goes_on (leaves (and_then (record { bytes = x; fault = f }) (record { bytes = y; fault = g })) s) next
    ≡ goes_on (leaves (record { bytes = x; fault = f }) s) (λ after. goes_on (leaves (record { bytes = y; fault = g }) after) next)
unfolding goes_on leaves after_bytes and_then
and_then_by x None y None s next =
    ap (λ (z : List ℕ). record { bytes = z; fault = (next s).fault; after = (next s).after }) (append_assoc x y (next s).bytes)
and_then_by x _ y g s next = refl

-- two outcomes that leave a state are one and then the other
pub leaves-and_then : (a b : Outcome) (s : State) (next : State → Passage)
    → goes_on (leaves (and_then a b) s) next ≡ goes_on (leaves a s) (λ after. goes_on (leaves b after) next)
leaves-and_then a b s next = and_then_by a.bytes a.fault b.bytes b.fault s next

-- what goes on from no bytes
pub goes_on-nil : (s : State) (next : State → Passage) → goes_on (leaves (gives []) s) next ≡ next s
unfolding goes_on leaves after_bytes gives
goes_on-nil s next = refl

-- an outcome that leaves a state is that outcome
pub outcome-leaves : (o : Outcome) (s : State) → outcome (leaves o s) ≡ o
unfolding outcome leaves
outcome-leaves o s = refl

-- passages are grouped as one likes, by their faults
passage_assoc_by : (x : List ℕ) (f : Option Report) (s : State) (g h : State → Passage)
    → goes_on (goes_on (record { bytes = x; fault = f; after = s }) g) h
    ≡ goes_on (record { bytes = x; fault = f; after = s }) (λ after. goes_on (g after) h)
unfolding goes_on after_bytes
passage_assoc_by x (Some f) s g h = refl
passage_assoc_by x None s g h = grind (arith, append_assoc)

-- a passage, a second and a third are the same however they are grouped
pub goes_on-assoc : (p : Passage) (g h : State → Passage) → goes_on (goes_on p g) h ≡ goes_on p (λ after. goes_on (g after) h)
goes_on-assoc p g h = passage_assoc_by p.bytes p.fault p.after g h

-- what goes on from bytes
pub goes_on-gives : (x : List ℕ) (s : State) (next : State → Passage) → goes_on (leaves (gives x) s) next ≡ after_bytes x (next s)
unfolding goes_on leaves gives
goes_on-gives x s next = refl

-- nothing goes on after a fault
pub fails-goes_on : (f : Report) (s : State) (next : State → Passage) → goes_on (leaves (fails f) s) next ≡ leaves (fails f) s
unfolding goes_on leaves fails
fails-goes_on f s next = refl

-- no bytes in front of a passage are nothing
pub after_bytes-nil : (p : Passage) → after_bytes [] p ≡ p
unfolding after_bytes
after_bytes-nil p = refl

-- bytes in front of bytes in front of a passage
pub after_bytes-twice : (x y : List ℕ) (p : Passage) → after_bytes x (after_bytes y p) ≡ after_bytes (x ++ y) p
unfolding after_bytes
after_bytes-twice x y p =
    ap (λ (z : List ℕ). record { bytes = z; fault = p.fault; after = p.after }) (sym (append_assoc x y p.bytes))

-- bytes and a fault after which nothing goes on
pub gives_fails-goes_on : (x : List ℕ) (f : Report) (s : State) (next : State → Passage)
    → goes_on (leaves (and_then (gives x) (fails f)) s) next ≡ after_bytes x (leaves (fails f) s)
unfolding goes_on leaves and_then gives fails after_bytes
gives_fails-goes_on x f s next = refl

-- Laws of an outcome of at most so many bytes.

-- an outcome of no more bytes stays
pub limited-within : (over : Report) (quota : ℕ) (o : Outcome) → length o.bytes ≤ quota → limited over quota o ≡ o
unfolding limited
limited-within over quota o h =
    ap (λ (b : Bool). if b then o else record { bytes = take quota o.bytes; fault = Some over }) (le-leb (length o.bytes) quota h)

-- one of more bytes is its first ones and then the fault
pub limited-over : (over : Report) (quota : ℕ) (o : Outcome) → quota < length o.bytes
    → limited over quota o ≡ record { bytes = take quota o.bytes; fault = Some over }
unfolding limited
limited-over over quota o h =
    ap (λ (b : Bool). if b then o else record { bytes = take quota o.bytes; fault = Some over }) (lt-leb (length o.bytes) quota h)

-- a fault and no bytes stays
pub limited-fails : (over : Report) (quota : ℕ) (f : Report) → limited over quota (fails f) ≡ fails f
unfolding fails
limited-fails over quota f = limited-within over quota (fails f) (omega arith)

-- how many bytes stand in two texts
joined-length : (xs : List ℕ) (o : Outcome) → length (and_then (gives xs) o).bytes ≡ length xs + length o.bytes
unfolding and_then gives
joined-length xs o = length-append xs o.bytes

-- the first bytes of two texts, where all of the one are among them
front-cut : (over : Report) (quota rest : ℕ) (xs : List ℕ) (o : Outcome) → quota ≡ length xs + rest
    → record { bytes = take quota (and_then (gives xs) o).bytes; fault = Some over }
    ≡ and_then (gives xs) (record { bytes = take rest o.bytes; fault = Some over })
unfolding and_then gives
front-cut over quota rest xs o e = grind (arith, take-append-add)

-- bytes in front, by whether the rest has more than is left for it
limited-front : (over : Report) (quota : ℕ) (xs : List ℕ) (o : Outcome) (b : Bool) → length xs ≤ quota
    → nat_le (length o.bytes) (quota - length xs) ≡ b
    → limited over quota (and_then (gives xs) o) ≡ and_then (gives xs) (limited over (quota - length xs) o)
limited-front over quota xs o true h e = grind (arith, leb-true, joined-length, limited-within)
limited-front over quota xs o false h e = grind (arith, leb-false, joined-length, limited-over, front-cut)

-- bytes that fit in front leave less for the rest
pub limited-gives : (over : Report) (quota : ℕ) (xs : List ℕ) (o : Outcome) → length xs ≤ quota
    → limited over quota (and_then (gives xs) o) ≡ and_then (gives xs) (limited over (quota - length xs) o)
limited-gives over quota xs o h = limited-front over quota xs o (nat_le (length o.bytes) (quota - length xs)) h refl

-- bytes that don't fit are cut, and the fault ends them
pub limited-past : (over : Report) (quota : ℕ) (xs : List ℕ) (o : Outcome) → quota < length xs
    → limited over quota (and_then (gives xs) o) ≡ and_then (gives (take quota xs)) (fails over)
unfolding and_then gives fails
limited-past over quota xs o h = grind (arith, length-append, limited-over, take-append-le, append-nil)

-- What remains of a file from any place, read off the tree of its parts: resuming is that, and at the start it is the meaning.

-- what goes on from a passage's state is what goes on, by the passage's fault
goes_on_by : (x : List ℕ) (f : Option Report) (s : State) (g h : State → Passage) → ((t : State) → g t ≡ h t)
    → goes_on (record { bytes = x; fault = f; after = s }) g ≡ goes_on (record { bytes = x; fault = f; after = s }) h
unfolding goes_on
goes_on_by x (Some f) s g h e = refl
goes_on_by x None s g h e = ap (λ (p : Passage). after_bytes x p) (e s)

-- what goes on alike from each state is alike after a passage
pub goes_on-same : (p : Passage) (g h : State → Passage) → ((t : State) → g t ≡ h t) → goes_on p g ≡ goes_on p h
goes_on-same p g h e = goes_on_by p.bytes p.fault p.after g h e

-- what remains in live text after a level, in these open conditionals
unfoldable pub rest_live : Rules → IncludedMeaning → List Progress → Level → State → Passage
rest_live rules included_meaning [] l s = mean rules included_meaning (level_parts l) s
rest_live rules included_meaning (o ∷ os) l s =
    goes_on (mean rules included_meaning (front_parts l) s) (λ a.
    goes_on (mean_branches rules included_meaning (further_branches l) o a) (λ b. rest_live rules included_meaning os (after_end l) b))

-- what remains in skipped text after a level
unfoldable pub rest_skipped : Rules → IncludedMeaning → ℕ → Progress → List Progress → Level → State → Passage
rest_skipped rules included_meaning zero o os l s =
    goes_on (leaves (skip s (front_parts l)) s) (λ a.
    goes_on (mean_branches rules included_meaning (further_branches l) o a) (λ b. rest_live rules included_meaning os (after_end l) b))
rest_skipped rules included_meaning (suc n) o os l s =
    goes_on (leaves (skip s (front_parts l)) s) (λ a.
    goes_on (leaves (skip_branches a (further_branches l)) a) (λ b. rest_skipped rules included_meaning n o os (after_end l) b))

-- what remains after a level, from a place
unfoldable pub rest : Rules → IncludedMeaning → Place → Level → State → Passage
rest rules included_meaning (Live os) l s = rest_live rules included_meaning os l s
rest rules included_meaning (Skipped n o os) l s = rest_skipped rules included_meaning n o os l s

-- a part in front of a level puts it in front of the parts at its front
front-in_front : (p : Part) (l : Level) → front_parts (in_front p l) ≡ More p (front_parts l)
unfolding front_parts in_front
front-in_front p (Last ps) = refl
front-in_front p _ = refl

-- and changes nothing of the further branches
branches-in_front : (p : Part) (l : Level) → further_branches (in_front p l) ≡ further_branches l
unfolding further_branches in_front
branches-in_front p (Last ps) = refl
branches-in_front p _ = refl

-- nor of what is after the end
following-in_front : (p : Part) (l : Level) → after_end (in_front p l) ≡ after_end l
unfolding after_end in_front
following-in_front p (Last ps) = refl
following-in_front p _ = refl

-- and stands in front of all parts of the level
parts-in_front : (p : Part) (l : Level) → level_parts (in_front p l) ≡ More p (level_parts l)
unfolding level_parts in_front appended
parts-in_front p (Last ps) = refl
parts-in_front p _ = refl

-- live text: a part in front of a level means itself and then what remains
live_in_front : (rules : Rules) (included_meaning : IncludedMeaning) (os : List Progress) (p : Part) (l : Level) (s : State)
    → rest_live rules included_meaning os (in_front p l) s ≡ goes_on (mean_part rules included_meaning p s) (λ a. rest_live rules included_meaning os l a)
unfolding rest_live mean
live_in_front rules included_meaning [] p l s = ap (λ (ps : Parts). mean rules included_meaning ps s) (parts-in_front p l)
live_in_front rules included_meaning (o ∷ os) p l s = grind (arith, front-in_front, branches-in_front, following-in_front, goes_on-assoc)

-- skipped text: a part in front of a level is skipped, and then what remains
skipped_in_front : (rules : Rules) (included_meaning : IncludedMeaning) (n : ℕ) (o : Progress) (os : List Progress) (p : Part) (l : Level) (s : State)
    → rest_skipped rules included_meaning n o os (in_front p l) s ≡ goes_on (leaves (skip_part s p) s) (λ a. rest_skipped rules included_meaning n o os l a)
unfolding rest_skipped skip
skipped_in_front rules included_meaning zero o os p l s = grind (arith, front-in_front, branches-in_front, following-in_front, leaves-and_then, on_leaves)
skipped_in_front rules included_meaning (suc n) o os p l s = grind (arith, front-in_front, branches-in_front, following-in_front, leaves-and_then, on_leaves)

-- where nothing is left, an open conditional isn't closed
skipped_nothing : (rules : Rules) (included_meaning : IncludedMeaning) (n : ℕ) (o : Progress) (os : List Progress) (s : State)
    → rest_skipped rules included_meaning n o os (Last Nothing) s ≡ unclosed o s
unfolding rest_skipped front_parts further_branches after_end skip skip_branches mean_branches goes_on leaves after_bytes gives unclosed fails
skipped_nothing rules included_meaning zero o os s = refl
skipped_nothing rules included_meaning (suc n) o os s = skipped_nothing rules included_meaning n o os s

-- what resumes as the rest from each place and state
Resumes : Rules → IncludedMeaning → List Piece → Type 0
Resumes rules included_meaning ps = (place : Place) (s : State) → resume rules included_meaning place ps s ≡ rest rules included_meaning place (level_of ps) s

-- what goes on after either side of a test goes on after the test
by_test-goes_on : (t : Test) (c : Command) (s : State) (live skipped live' skipped' next : State → Passage)
    → live s ≡ goes_on (live' s) next → skipped s ≡ goes_on (skipped' s) next
    → by_test t c s live skipped ≡ goes_on (by_test t c s live' skipped') next
unfolding by_test goes_on refusal leaves fails
by_test-goes_on (TestFault kind word) c s live skipped live' skipped' next e f = refl
by_test-goes_on (Holds true) c s live skipped live' skipped' next e f = e
by_test-goes_on (Holds false) c s live skipped live' skipped' next e f = f

-- a conditional that is opened in live text resumes as its meaning and then the rest
opening_rest : (rules : Rules) (included_meaning : IncludedMeaning) (os : List Progress) (c : Command) (ps : List Piece) (s : State)
    → Resumes rules included_meaning ps
    → resume rules included_meaning (Live os) (Opening c ∷ ps) s
    ≡ goes_on (mean_part rules included_meaning (Conditional c (front_parts (level_of ps)) (further_branches (level_of ps))) s)
    (λ a. rest_live rules included_meaning os (after_end (level_of ps)) a)
unfolding resume mean_part Resumes rest rest_live rest_skipped
opening_rest rules included_meaning os c ps s r =
    let fp = front_parts (level_of ps) in
    let fb = further_branches (level_of ps) in
    let next : State → Passage = λ a. rest_live rules included_meaning os (after_end (level_of ps)) a in
    by_test-goes_on (opening c s) c s
    (λ t. resume rules included_meaning (Live (begun c t true ∷ os)) ps (in_conditional t))
    (λ t. resume rules included_meaning (Skipped 0 (begun c t false) os) ps (in_conditional t))
    (λ t. goes_on (mean rules included_meaning fp (in_conditional t)) (λ a. mean_branches rules included_meaning fb (begun c t true) a))
    (λ t. goes_on (leaves (skip (in_conditional t) fp) (in_conditional t)) (λ a. mean_branches rules included_meaning fb (begun c t false) a))
    next
    (r (Live (begun c s true ∷ os)) (in_conditional s)
    ∙ sym (goes_on-assoc (mean rules included_meaning fp (in_conditional s)) (λ a. mean_branches rules included_meaning fb (begun c s true) a) next))
    (r (Skipped 0 (begun c s false) os) (in_conditional s)
    ∙ sym (goes_on-assoc (leaves (skip (in_conditional s) fp) (in_conditional s)) (λ a. mean_branches rules included_meaning fb (begun c s false) a) next))

-- a branch resumes as its meaning and then the rest
turn_rest : (rules : Rules) (included_meaning : IncludedMeaning) (o : Progress) (os : List Progress) (c : Command) (ps : List Piece) (s : State)
    → Resumes rules included_meaning ps
    → by_test (turn o c s) c s
    (λ t. resume rules included_meaning (Live (turned o c true ∷ os)) ps t)
    (λ t. resume rules included_meaning (Skipped 0 (turned o c false) os) ps t)
    ≡ goes_on (mean_branches rules included_meaning (Branch c (front_parts (level_of ps)) (further_branches (level_of ps))) o s)
    (λ a. rest_live rules included_meaning os (after_end (level_of ps)) a)
unfolding mean_branches Resumes rest rest_live rest_skipped
turn_rest rules included_meaning o os c ps s r = grind (arith, by_test-goes_on, goes_on-assoc)

-- skipped branches in front of what remains in skipped text
skipped_deeper : (rules : Rules) (included_meaning : IncludedMeaning) (n : ℕ) (o : Progress) (os : List Progress) (c : Command) (l : Level) (s : State)
    → goes_on (leaves (skipped_command c) s) (λ a. rest_skipped rules included_meaning (suc n) o os l a)
    ≡ goes_on (leaves (and_then (skipped_command c) (and_then (skip s (front_parts l)) (skip_branches s (further_branches l)))) s)
    (λ a. rest_skipped rules included_meaning n o os (after_end l) a)
unfolding rest_skipped
skipped_deeper rules included_meaning n o os c l s = grind (arith, on_leaves, leaves-and_then)

-- a passage of a part in live text, and what resumes after it
live_step : (rules : Rules) (included_meaning : IncludedMeaning) (os : List Progress) (p : Part) (ps : List Piece) (s : State) → Resumes rules included_meaning ps
    → goes_on (mean_part rules included_meaning p s) (λ a. resume rules included_meaning (Live os) ps a)
    ≡ rest_live rules included_meaning os (in_front p (level_of ps)) s
unfolding Resumes rest
live_step rules included_meaning os p ps s r = grind (arith, goes_on-same, live_in_front)

-- a skipped part, and what resumes after it
skipped_step : (rules : Rules) (included_meaning : IncludedMeaning) (n : ℕ) (o : Progress) (os : List Progress) (p : Part) (ps : List Piece) (s : State) → Resumes rules included_meaning ps
    → goes_on (leaves (skip_part s p) s) (λ a. resume rules included_meaning (Skipped n o os) ps a)
    ≡ rest_skipped rules included_meaning n o os (in_front p (level_of ps)) s
unfolding Resumes rest
skipped_step rules included_meaning n o os p ps s r = grind (arith, goes_on-same, skipped_in_front)

-- what resumes one conditional further in skipped text
skipped_in : (rules : Rules) (included_meaning : IncludedMeaning) (n : ℕ) (o : Progress) (os : List Progress) (c : Command) (ps : List Piece) (s : State) → Resumes rules included_meaning ps
    → goes_on (leaves (skipped_command c) s) (λ a. resume rules included_meaning (Skipped (suc n) o os) ps a)
    ≡ goes_on (leaves (and_then (skipped_command c) (and_then (skip s (front_parts (level_of ps))) (skip_branches s (further_branches (level_of ps))))) s)
    (λ a. rest_skipped rules included_meaning n o os (after_end (level_of ps)) a)
unfolding Resumes rest
skipped_in rules included_meaning n o os c ps s r =
    goes_on-same (leaves (skipped_command c) s) (λ a. resume rules included_meaning (Skipped (suc n) o os) ps a)
    (λ a. rest_skipped rules included_meaning (suc n) o os (level_of ps) a) (λ a. r (Skipped (suc n) o os) a)
    ∙ skipped_deeper rules included_meaning n o os c (level_of ps) s

-- resuming is the rest that is read off the tree
pub resume_rest : (rules : Rules) (included_meaning : IncludedMeaning) (ps : List Piece) (place : Place) (s : State)
    → resume rules included_meaning place ps s ≡ rest rules included_meaning place (level_of ps) s
unfolding resume rest rest_live rest_skipped level_of opened_before level_parts appended front_parts further_branches after_end mean mean_part mean_branches skip skip_part skip_branches goes_on leaves after_bytes gives fails refusal unclosed Resumes
resume_rest rules included_meaning [] (Live []) s = refl
resume_rest rules included_meaning [] (Live (o ∷ os)) s = refl
resume_rest rules included_meaning [] (Skipped n o os) s = sym (skipped_nothing rules included_meaning n o os s)
resume_rest rules included_meaning (Run ts ∷ ps) (Live os) s =
    live_step rules included_meaning os (Text ts) ps s (λ place a. resume_rest rules included_meaning ps place a)
resume_rest rules included_meaning (Run ts ∷ ps) (Skipped n o os) s =
    skipped_step rules included_meaning n o os (Text ts) ps s (λ place a. resume_rest rules included_meaning ps place a)
resume_rest rules included_meaning (Single c ∷ ps) (Live os) s =
    live_step rules included_meaning os (Alone c) ps s (λ place a. resume_rest rules included_meaning ps place a)
resume_rest rules included_meaning (Single c ∷ ps) (Skipped n o os) s =
    skipped_step rules included_meaning n o os (Alone c) ps s (λ place a. resume_rest rules included_meaning ps place a)
resume_rest rules included_meaning (Opening c ∷ ps) (Live os) s =
    opening_rest rules included_meaning os c ps s (λ place a. resume_rest rules included_meaning ps place a)
    ∙ sym (live_in_front rules included_meaning os (Conditional c (front_parts (level_of ps)) (further_branches (level_of ps))) (after_end (level_of ps)) s)
resume_rest rules included_meaning (Opening c ∷ ps) (Skipped n o os) s =
    skipped_in rules included_meaning n o os c ps s (λ place a. resume_rest rules included_meaning ps place a)
    ∙ sym (skipped_in_front rules included_meaning n o os (Conditional c (front_parts (level_of ps)) (further_branches (level_of ps))) (after_end (level_of ps)) s)
resume_rest rules included_meaning (Branching c ∷ ps) (Live []) s = refl
resume_rest rules included_meaning (Branching c ∷ ps) (Live (o ∷ os)) s =
    turn_rest rules included_meaning o os c ps s (λ place a. resume_rest rules included_meaning ps place a)
resume_rest rules included_meaning (Branching c ∷ ps) (Skipped zero o os) s =
    turn_rest rules included_meaning o os c ps s (λ place a. resume_rest rules included_meaning ps place a)
resume_rest rules included_meaning (Branching c ∷ ps) (Skipped (suc n) o os) s =
    skipped_in rules included_meaning n o os c ps s (λ place a. resume_rest rules included_meaning ps place a)
resume_rest rules included_meaning (Closing c ∷ ps) (Live []) s = refl
resume_rest rules included_meaning (Closing c ∷ ps) (Live (o ∷ os)) s = resume_rest rules included_meaning ps (Live os) (past_conditional s)
resume_rest rules included_meaning (Closing c ∷ ps) (Skipped zero o os) s = resume_rest rules included_meaning ps (Live os) (past_conditional s)
resume_rest rules included_meaning (Closing c ∷ ps) (Skipped (suc n) o os) s =
    goes_on-same (leaves (skipped_command c) s) (λ a. resume rules included_meaning (Skipped n o os) ps a)
    (λ a. rest_skipped rules included_meaning n o os (level_of ps) a) (λ a. resume_rest rules included_meaning ps (Skipped n o os) a)

-- at the start of a text, what remains of it is what it means
pub resumed_start : (rules : Rules) (s : State) (text : List ℕ)
    → text_meaning rules s text ≡ resumed rules (Live []) true (rules.tokens text) s
unfolding text_meaning parts_of resumed rest rest_live
resumed_start rules s text =
    sym (resume_rest rules (included_meaning_of rules s.sources_left) (pieces true 0 (rules.tokens text)) (Live []) s)

-- what the parts of tokens mean is what resumes at their start
pub mean_resumes : (rules : Rules) (included_meaning : IncludedMeaning) (tokens : List SourceToken) (s : State)
    → mean rules included_meaning (parts_of tokens) s ≡ resume rules included_meaning (Live []) (pieces true 0 tokens) s
unfolding parts_of rest rest_live
mean_resumes rules included_meaning tokens s = sym (resume_rest rules included_meaning (pieces true 0 tokens) (Live []) s)

-- Laws of the output: it is what remains at the start of the main text.

-- bytes in front of a passage are bytes in front of what it writes
pub outcome-after_bytes : (x : List ℕ) (p : Passage) → outcome (after_bytes x p) ≡ and_then (gives x) (outcome p)
unfolding outcome after_bytes and_then gives
outcome-after_bytes x p = refl

-- the output of a main text that is found is its origin line, where asked for, and then what remains at its start
pub output_found : (rules : Rules) (macros : List Macro) (sources conditions : ℕ) (path found text : List ℕ)
    → output rules macros sources conditions path (Source found text)
    ≡ and_then (gives (origin_line rules found 1))
    (remains rules (Live []) true (rules.tokens text) (start_state macros sources conditions found))
unfolding output remains
output_found rules macros sources conditions path found text = grind (arith, outcome-after_bytes, resumed_start)

-- the output of a main text that isn't found is its fault
pub output_missing : (rules : Rules) (macros : List Macro) (sources conditions : ℕ) (path : List ℕ)
    → output rules macros sources conditions path NoSource ≡ fails (opening_fault SourceNotFound path)
unfolding output
output_missing rules macros sources conditions path = refl

-- the output of a main path that is too long is its fault
pub output_overlong : (rules : Rules) (macros : List Macro) (sources conditions : ℕ) (path : List ℕ)
    → output rules macros sources conditions path LongPath ≡ fails (opening_fault PathTooLong path)
unfolding output
output_overlong rules macros sources conditions path = refl

-- Plain text is its own output; an included text stands between what is before and after its `include`.

-- a kind of ordinary text is copied
plain_kind_copied : (k : Kind) (bytes : List ℕ) (line : ℕ) → is_plain_kind k ≡ true
    → is_copied (record { sort = Ordinary k; bytes = bytes; line = line }) ≡ true
unfolding is_plain_kind is_copied
plain_kind_copied Str bytes line e = cc
plain_kind_copied LineComment bytes line e = cc
plain_kind_copied BlockComment bytes line e = cc
plain_kind_copied Back bytes line e = cc
plain_kind_copied BareBackquote bytes line e = cc
plain_kind_copied Perl bytes line e = cc
plain_kind_copied k bytes line e = refl

-- a token of ordinary text is copied
pub plain_copied : (t : SourceToken) → IsPlainToken t → is_copied t ≡ true
plain_copied t p =
    ap (λ (sort : Sort). is_copied (record { sort = sort; bytes = t.bytes; line = t.line })) p.sort
    ∙ plain_kind_copied p.kind t.bytes t.line p.plain

-- tokens of ordinary text are copied, by recursion
plain_by_recursion : (ts : List SourceToken) → AllByRecursion IsPlainToken ts → list_all is_copied ts ≡ true
plain_by_recursion [] h = refl
plain_by_recursion (t ∷ ts) h = rw (plain_copied t h.0, plain_by_recursion ts h.1) refl

-- tokens of ordinary text are copied
pub all_plain_copied : (ts : List SourceToken) → All IsPlainToken ts → list_all is_copied ts ≡ true
all_plain_copied ts h = plain_by_recursion ts (recursion_from_All IsPlainToken ts h)
