-- Files and outputs with larger limits: the same, but where a smaller limit was a fault.
use Rattle.std.proofs.Common.{◌≡◌, ℕ, zero, suc, ◌+◌, ◌-◌, Bool, true, false, true≢false, ◌||◌, List, [], ◌∷◌, ◌++◌, refl, sym, ap, subst, ◌∙◌, arith, Option, None, Some, ◌≤◌, inl, inr, le_trans, if◌then◌else◌, not, ◌==◌, length, drop, nat_le, nat_lt, leb-true, leb-false}
use Rattle.std.specs.Str.{is_utf8}
use Rattle.rdlpp_scan.specs.declared.token.Directive.{Directive}
use Rattle.rdlpp_scan.specs.declared.token.Directive.TheVariants.{Define, Undef, Include, Line}
use Rattle.rdlpp_scan.specs.SourceTokens.{Broken, SourceToken, whole_tokens}
use Rattle.rdlpp_define.specs.Macros.{Macro, macro_size}
use Rattle.rdlpp_define.specs.Table.{table_size, without}
use Rattle.rdlpp_meaning.specs.declared.fault.FaultKind.{FaultKind}
use Rattle.rdlpp_meaning.specs.declared.fault.FaultKind.TheVariants.{TooManyConditionals, TooManyIncludes, IncludeName, SourceNotFound, PathTooLong, BadLine, StrayBranch}
use Rattle.rdlpp_meaning.specs.Outcome.{Report, Outcome, gives, fails, and_then}
use Rattle.rdlpp_meaning.specs.State.{Defined, Accepted, DefinitionFault, Lookup, NoSource, LongPath, Source, Rules, State, fault_at, shown_line, breach_kind}
use Rattle.rdlpp_meaning.specs.Parts.{Command, line_ends_of, Piece, Run, Single, Opening, Branching, Closing, pieces, parts_of}
use Rattle.rdlpp_meaning.specs.Meaning.{Passage, leaves, after_bytes, goes_on, refusal, IncludedMeaning, skipped_run, Checked, Fine, NameFault, macro_name, defines, undefines, origin_line, at_start_of, back_in, added_end, includes, includes_found, unquoted, includes_named, includes_given, Renumbered, renumbered, renumbers, single, Progress, Test, TestFault, Holds, by_test, is_defined, name_test, opening_within, opening, in_conditional, past_conditional, turn, outcome, skipped_command, begun, turned, unclosed, mean, included_meaning_of, text_meaning}
use Rattle.rdlpp_laws.specs.LimitLaws.{is_limit, NamesNoLimit, IsLarger}
use Rattle.rdlpp_laws.proofs.LargerRuns.{Agrees, IsFault, TornAgrees, run-agrees, run-torn, skip-agrees, skip-torn, sources-torn}
use Rattle.rdlpp_scan.specs.Front.{Breach}
use Rattle.rdlpp_define.specs.declared.limits.Limits.{Limits}
use Rattle.rdlpp_define.specs.Define.{Draft, Drawn, DraftFault, macro_of}
use Rattle.rdlpp_define.specs.Defined.{stored, stored_draft, define_of}
use Rattle.rdlpp_meaning.specs.declared.fault.FaultKind.TheVariants as fault
use Rattle.rdlpp_meaning.specs.Expansion.{walk, run_outcome}
use Rattle.rdlpp_meaning.specs.Resumed.{Place, Live, Skipped, resume}
use Rattle.rdlpp_meaning.specs.Output.{opening_fault, start_state, output}
use Rattle.rdlpp_meaning.specs.Profile.{define_fault, with_fault, rules_of}
use Rattle.rdlpp_meaning.specs.OutputLimit.{Searches, limited, search_rules, unlimited_output, limited_output}
use Rattle.rdlpp_meaning.specs.Actuals.{token_role}
use Rattle.rdlpp_meaning.proofs.Outcomes.{limited-over, limited-within, mean_resumes}
use Rattle.rdlpp_meaning.proofs.LiveText.{expand_walk}
use Rattle.rdlpp_laws.proofs.TornCalls.{EndsTorn, FirstUnbroken, PiecesTorn, TokensTorn, TornBy, pieces-torn, roomier, run_front}
use Rattle.rdlpp_laws.proofs.TornTokens.{unpassed}

-- rules with other limits
abbrev pub wider : Rules → ℕ → ℕ → (List Macro → List ℕ → Defined) → (List ℕ → List SourceToken) → Rules
wider rules depth most define tokens = record rules { depth = depth; argument_bytes = most; define = define; tokens = tokens }

-- a passage that leaves more room
abbrev pub lifted : ℕ → ℕ → Passage → Passage
lifted sources more p = record { bytes = p.bytes; fault = p.fault; after = roomier sources more p.after }

-- a passage is the same as one that no limit ends, but for the room that it leaves
unfoldable pub PassageAgrees : ℕ → Passage → Passage → Type 0
PassageAgrees more p q = NamesNoLimit p.fault → (sources : ℕ) × (q ≡ lifted sources more p)

-- one that leaves more room
pub lifted-agrees : (sources more : ℕ) (p : Passage) → PassageAgrees more p (lifted sources more p)
unfolding PassageAgrees
lifted-agrees sources more p = λ n. (sources, refl)

-- an outcome that leaves a state
pub leaves-agrees : (sources more : ℕ) (s : State) (a b : Outcome) → Agrees a b → PassageAgrees more (leaves a s) (leaves b (roomier sources more s))
unfolding PassageAgrees Agrees leaves
leaves-agrees sources more s a b h = λ n. (sources, ap (λ (o : Outcome). leaves o (roomier sources more s)) (h n))

-- one that stays
pub leaves-same : (sources more : ℕ) (s : State) (a : Outcome) → PassageAgrees more (leaves a s) (leaves a (roomier sources more s))
unfolding leaves
leaves-same sources more s a = lifted-agrees sources more (leaves a s)

-- a passage and what goes on from its state, by its fault
on-agrees-by : (more : ℕ) (x : List ℕ) (f : Option Report) (s : State) (q : Passage) (next next' : State → Passage)
    → PassageAgrees more (record { bytes = x; fault = f; after = s }) q
    → ((sources : ℕ) (t : State) → PassageAgrees more (next t) (next' (roomier sources more t)))
    → PassageAgrees more (goes_on (record { bytes = x; fault = f; after = s }) next) (goes_on q next')
unfolding PassageAgrees goes_on after_bytes
on-agrees-by more x None s q next next' h k =
    λ n. let first = h tt in let rest = k first.0 s n in
    (rest.0, ap (λ (p : Passage). goes_on p next') first.1 ∙ ap (λ (p : Passage). after_bytes x p) rest.1)
on-agrees-by more x (Some f) s q next next' h k = λ n. let first = h n in (first.0, ap (λ (p : Passage). goes_on p next') first.1)

-- a passage and what goes on from its state
pub on-agrees : (more : ℕ) (p q : Passage) (next next' : State → Passage) → PassageAgrees more p q
    → ((sources : ℕ) (t : State) → PassageAgrees more (next t) (next' (roomier sources more t)))
    → PassageAgrees more (goes_on p next) (goes_on q next')
on-agrees more p q next next' h k = on-agrees-by more p.bytes p.fault p.after q next next' h k

-- bytes in front of a passage
pub bytes-agree : (more : ℕ) (x : List ℕ) (p q : Passage) → PassageAgrees more p q → PassageAgrees more (after_bytes x p) (after_bytes x q)
unfolding PassageAgrees after_bytes
bytes-agree more x p q h = λ n. let r = h n in (r.0, ap (λ (z : Passage). after_bytes x z) r.1)

-- a refusal by a limit agrees with all
limit-passage : (more : ℕ) (kind : FaultKind) (word : List ℕ) (c : Command) (s : State) (q : Passage) → is_limit kind ≡ true
    → PassageAgrees more (refusal kind word c s) q
unfolding PassageAgrees refusal leaves fails fault_at
limit-passage more kind word c s q e = λ n. absurd (true≢false (sym e ∙ n))

-- a refusal
pub refusal-agrees : (sources more : ℕ) (kind : FaultKind) (word : List ℕ) (c : Command) (s : State)
    → PassageAgrees more (refusal kind word c s) (refusal kind word c (roomier sources more s))
unfolding refusal leaves fails fault_at
refusal-agrees sources more kind word c s = lifted-agrees sources more (refusal kind word c s)

-- what a `define` comes to is the same as what no limit refuses
unfoldable pub DefinedAgrees : Defined → Defined → Type 0
DefinedAgrees (Accepted macros) v = v ≡ Accepted macros
DefinedAgrees (DefinitionFault kind word) v = is_limit kind ≡ false → v ≡ DefinitionFault kind word

-- a `define`
define-agrees : (sources more : ℕ) (c : Command) (s : State) (u v : Defined) → DefinedAgrees u v
    → PassageAgrees more (defines u c s) (defines v c (roomier sources more s))
unfolding PassageAgrees DefinedAgrees defines refusal leaves fails fault_at gives
define-agrees sources more c s (Accepted macros) v h =
    λ n. (sources, ap (λ (d : Defined). defines d c (roomier sources more s)) h)
define-agrees sources more c s (DefinitionFault kind word) v h =
    λ n. (sources, ap (λ (d : Defined). defines d c (roomier sources more s)) (h n))

-- an `undef`
undef-agrees : (sources more : ℕ) (c : Command) (s : State) (name : Checked)
    → PassageAgrees more (undefines name c s) (undefines name c (roomier sources more s))
unfolding undefines refusal leaves fails fault_at
undef-agrees sources more c s (Fine name) = lifted-agrees sources more (undefines (Fine name) c s)
undef-agrees sources more c s (NameFault kind word) = lifted-agrees sources more (undefines (NameFault kind word) c s)

-- a choice of passages
choice-passage : (more : ℕ) (test : Bool) (p q p' q' : Passage) → PassageAgrees more p q → PassageAgrees more p' q'
    → PassageAgrees more (if test then p else p') (if test then q else q')
choice-passage more true p q p' q' h k = h
choice-passage more false p q p' q' h k = k

-- included texts agree, where fewer sources may be opened
unfoldable pub IncludedAgrees : ℕ → IncludedMeaning → IncludedMeaning → Type 0
IncludedAgrees more None included_meaning' = Unit
IncludedAgrees more (Some within) None = ⊥
IncludedAgrees more (Some within) (Some within') =
    (sources : ℕ) (s : State) (text : List ℕ) → PassageAgrees more (within s text) (within' (roomier sources more s) text)

-- what a `define` does agrees for all macros and texts
unfoldable pub AllDefined : Rules → (List Macro → List ℕ → Defined) → Type 0
AllDefined rules define = (macros : List Macro) (rest : List ℕ) → DefinedAgrees (rules.define macros rest) (define macros rest)

-- the test of a name is the same in a state with more room
name-room : (sources more : ℕ) (defined : Bool) (name : Checked) (s : State) → name_test defined name (roomier sources more s) ≡ name_test defined name s
unfolding name_test is_defined
name-room sources more defined (Fine name) s = refl
name-room sources more defined (NameFault kind word) s = refl

-- and so is that of a branch
turn-room : (sources more : ℕ) (o : Progress) (c : Command) (s : State) → turn o c (roomier sources more s) ≡ turn o c s
unfolding turn
turn-room sources more o c s = grind (arith, name-room)

-- what goes on after a test agrees where both ways do
tested-agrees : (sources more : ℕ) (t : Test) (c : Command) (s : State) (live skipped live' skipped' : State → Passage)
    → PassageAgrees more (live s) (live' (roomier sources more s)) → PassageAgrees more (skipped s) (skipped' (roomier sources more s))
    → PassageAgrees more (by_test t c s live skipped) (by_test t c (roomier sources more s) live' skipped')
unfolding by_test
tested-agrees sources more (TestFault kind word) c s live skipped live' skipped' h k = refusal-agrees sources more kind word c s
tested-agrees sources more (Holds true) c s live skipped live' skipped' h k = h
tested-agrees sources more (Holds false) c s live skipped live' skipped' h k = k

-- a branch of a conditional
pub turn-agrees : (sources more : ℕ) (o : Progress) (c : Command) (s : State) (live skipped live' skipped' : State → Passage)
    → PassageAgrees more (live s) (live' (roomier sources more s)) → PassageAgrees more (skipped s) (skipped' (roomier sources more s))
    → PassageAgrees more (by_test (turn o c s) c s live skipped)
    (by_test (turn o c (roomier sources more s)) c (roomier sources more s) live' skipped')
turn-agrees sources more o c s live skipped live' skipped' h k = grind (arith, turn-room, tested-agrees)

-- a test that opens a conditional, where more may be opened
within-agrees : (sources more k : ℕ) (t : Test) (c : Command) (s : State) (live skipped live' skipped' : State → Passage)
    → ((m : ℕ) → k ≡ suc m → PassageAgrees more (live s) (live' (roomier sources more s)))
    → ((m : ℕ) → k ≡ suc m → PassageAgrees more (skipped s) (skipped' (roomier sources more s)))
    → PassageAgrees more (by_test (opening_within k t) c s live skipped)
    (by_test (opening_within (more + k) t) c (roomier sources more s) live' skipped')
unfolding opening_within by_test is_limit
within-agrees sources more k (TestFault kind word) c s live skipped live' skipped' h j = refusal-agrees sources more kind word c s
within-agrees sources more zero (Holds v) c s live skipped live' skipped' h j = limit-passage more TooManyConditionals [] c s _ refl
within-agrees sources more (suc m) (Holds v) c s live skipped live' skipped' h j =
    let e : more + suc m ≡ suc (more + m) = omega arith in
    subst (λ (n : ℕ). PassageAgrees more (by_test (Holds v) c s live skipped)
    (by_test (opening_within n (Holds v)) c (roomier sources more s) live' skipped')) (sym e)
    (tested-agrees sources more (Holds v) c s live skipped live' skipped' (h m refl) (j m refl))

-- the first branch of a conditional
pub opening-agrees : (sources more : ℕ) (c : Command) (s : State) (live skipped live' skipped' : State → Passage)
    → ((m : ℕ) → s.conditions_left ≡ suc m → PassageAgrees more (live s) (live' (roomier sources more s)))
    → ((m : ℕ) → s.conditions_left ≡ suc m → PassageAgrees more (skipped s) (skipped' (roomier sources more s)))
    → PassageAgrees more (by_test (opening c s) c s live skipped)
    (by_test (opening c (roomier sources more s)) c (roomier sources more s) live' skipped')
unfolding opening
opening-agrees sources more c s live skipped live' skipped' h k = grind (arith, name-room, within-agrees)

-- the state in a conditional, with more room
pub in-room : (sources more : ℕ) (s : State) (m : ℕ) → s.conditions_left ≡ suc m
    → in_conditional (roomier sources more s) ≡ roomier sources more (in_conditional s)
unfolding in_conditional
in-room sources more s m e = grind arith

-- and after one
pub past-room : (sources more : ℕ) (s : State) → past_conditional (roomier sources more s) ≡ roomier sources more (past_conditional s)
unfolding past_conditional
past-room sources more s = grind arith

-- what is larger of some rules
record Widens (rules : Rules) (depth most : ℕ) (define : List Macro → List ℕ → Defined) (tokens : List ℕ → List SourceToken) : Type 0 where
  depths : rules.depth ≤ depth
  bytes : rules.argument_bytes ≤ most
  defines : AllDefined rules define
  texts : (text : List ℕ) → TokensTorn true (rules.tokens text) (tokens text)

-- what goes on after a fault of a limit agrees with all, by the outcome's fault
limited-by : (more : ℕ) (x : List ℕ) (o f : Option Report) (s : State) (next : State → Passage) (q : Passage) → o ≡ f → IsFault f
    → (NamesNoLimit f → ⊥) → PassageAgrees more (goes_on (leaves (record { bytes = x; fault = o }) s) next) q
unfolding PassageAgrees goes_on leaves IsFault after_bytes
limited-by more x None f s next q e h limit = absurd (subst (λ (z : Option Report). IsFault z) (sym e) h)
limited-by more x (Some g) f s next q e h limit = λ n. absurd (limit (subst (λ (z : Option Report). NamesNoLimit z) e n))

-- what goes on after outcomes that end in a fault agrees where they do, by the first one's fault
faulty-by : (sources more : ℕ) (x : List ℕ) (f : Option Report) (b : Outcome) (s : State) (next next' : State → Passage)
    → IsFault f → Agrees (record { bytes = x; fault = f }) b
    → PassageAgrees more (goes_on (leaves (record { bytes = x; fault = f }) s) next) (goes_on (leaves b (roomier sources more s)) next')
unfolding PassageAgrees goes_on leaves IsFault Agrees
faulty-by sources more x None b s next next' h k = absurd h
faulty-by sources more x (Some g) b s next next' h k =
    λ n. (sources, ap (λ (o : Outcome). goes_on (leaves o (roomier sources more s)) next') (k n))

-- what goes on after torn outcomes agrees
faulty-agrees : (sources more : ℕ) (a b : Outcome) (s : State) (next next' : State → Passage) → TornAgrees Unit a b
    → PassageAgrees more (goes_on (leaves a s) next) (goes_on (leaves b (roomier sources more s)) next')
faulty-agrees sources more a b s next next' h = faulty-by sources more a.bytes a.fault b s next next' (h.faulty tt) h.agrees

-- a torn token alone ends in its fault
tear-fault : (rules : Rules) (s : State) (b : Breach) (bytes : List ℕ) (line : ℕ)
    → (run_outcome rules s (record { sort = Broken b; bytes = bytes; line = line } ∷ [])).fault ≡ Some (fault_at (breach_kind b) line [] s)
unfolding run_outcome walk and_then gives fails
tear-fault rules s b bytes line = grind (arith, expand_walk)

-- and so does one that is skipped
tear-skips : (s : State) (b : Breach) (bytes : List ℕ) (line : ℕ)
    → (skipped_run s (record { sort = Broken b; bytes = bytes; line = line } ∷ [])).fault ≡ Some (fault_at (breach_kind b) line [] s)
unfolding skipped_run and_then gives fails
tear-skips s b bytes line = refl

-- a fault of a limit
named-limit : (b : Breach) (line : ℕ) (s : State) → is_limit (breach_kind b) ≡ true → NamesNoLimit (Some (fault_at (breach_kind b) line [] s)) → ⊥
unfolding fault_at
named-limit b line s limit n = true≢false (sym limit ∙ n)

-- a run that is torn at its first token, from each place
first-torn : (rules : Rules) (included_meaning : IncludedMeaning) (more : ℕ) (place : Place) (b : Breach) (bytes : List ℕ) (line : ℕ) (s : State) (q : Passage)
    → is_limit (breach_kind b) ≡ true
    → PassageAgrees more (resume rules included_meaning place (Run (record { sort = Broken b; bytes = bytes; line = line } ∷ []) ∷ []) s) q
unfolding resume IsFault
first-torn rules included_meaning more (Live os) b bytes line s q limit =
    let t : SourceToken = record { sort = Broken b; bytes = bytes; line = line } in
    let o = run_outcome rules s (t ∷ []) in
    limited-by more o.bytes o.fault (Some (fault_at (breach_kind b) line [] s)) s (λ after. resume rules included_meaning (Live os) [] after) q
    (tear-fault rules s b bytes line) tt (named-limit b line s limit)
first-torn rules included_meaning more (Skipped n o os) b bytes line s q limit =
    let t : SourceToken = record { sort = Broken b; bytes = bytes; line = line } in
    let out = skipped_run s (t ∷ []) in
    limited-by more out.bytes out.fault (Some (fault_at (breach_kind b) line [] s)) s (λ after. resume rules included_meaning (Skipped n o os) [] after) q
    (tear-skips s b bytes line) tt (named-limit b line s limit)

-- the bytes and the fault of passages that agree
outcome-agrees : (more : ℕ) (p q : Passage) → PassageAgrees more p q → NamesNoLimit (outcome p).fault → outcome q ≡ outcome p
unfolding PassageAgrees outcome
outcome-agrees more p q h n = let r = h n in ap outcome r.1

-- no list is one with an element
nothing-more : {A : Type 0} (x : A) (xs : List A) → [] ≡ x ∷ xs → ⊥
nothing-more x xs e = cc

module _ (rules : Rules) (depth most : ℕ) (define : List Macro → List ℕ → Defined) (tokens : List ℕ → List SourceToken) (w : Widens rules depth most define tokens) (more : ℕ) where
  -- the rules of larger limits
  abbrev larger : Rules
  larger = wider rules depth most define tokens

  -- an included text with its origin lines
  includes-agree : (sources : ℕ) (within within' : State → List ℕ → Passage) (path text : List ℕ) (c : Command) (s : State)
      → ((y : ℕ) (t : State) (bytes : List ℕ) → PassageAgrees more (within t bytes) (within' (roomier y more t) bytes))
      → PassageAgrees more (includes rules within path text c s) (includes larger within' path text c (roomier sources more s))
  unfolding includes origin_line at_start_of back_in leaves gives
  includes-agree sources within within' path text c s h =
      bytes-agree more (origin_line rules path 1) _ _ (on-agrees more _ _ _ _ (h (sources - 1) (at_start_of path s) text)
      (λ y t. lifted-agrees sources more (leaves (gives (added_end text ++ origin_line rules s.name (shown_line s.shift c.line))) (back_in s t))))

  -- an `include` of what was found
  found-agrees : (sources : ℕ) (within within' : State → List ℕ → Passage) (found : Lookup) (c : Command) (s : State)
      → ((y : ℕ) (t : State) (bytes : List ℕ) → PassageAgrees more (within t bytes) (within' (roomier y more t) bytes))
      → PassageAgrees more (includes_found rules within found c s) (includes_found larger within' found c (roomier sources more s))
  unfolding includes_found
  found-agrees sources within within' NoSource c s h = refusal-agrees sources more SourceNotFound [] c s
  found-agrees sources within within' LongPath c s h = refusal-agrees sources more PathTooLong [] c s
  found-agrees sources within within' (Source path text) c s h = includes-agree sources within within' path text c s h

  -- a `line`
  line-agrees : (sources : ℕ) (r : Option Renumbered) (c : Command) (s : State) → PassageAgrees more (renumbers rules r c s) (renumbers larger r c (roomier sources more s))
  unfolding renumbers origin_line leaves gives refusal fails fault_at
  line-agrees sources None c s = lifted-agrees sources more (refusal BadLine [] c s)
  line-agrees sources (Some r) c s =
      choice-passage more c.first _ _ _ _
      (lifted-agrees sources more
      (leaves (gives (line_ends_of c.text ++ origin_line rules r.name r.number)) (record s { name = r.name; shift = record { from = suc c.line; number = r.number } })))
      (lifted-agrees sources more (refusal BadLine [] c s))

  -- where what is included agrees
  module _ (included_meaning included_meaning' : IncludedMeaning) (h : IncludedAgrees more included_meaning included_meaning') where
    -- an `include` of a name, by what may be opened
    nested-agrees : (sources : ℕ) (included_meaning included_meaning' : IncludedMeaning) (name : List ℕ) (c : Command) (s : State) → IncludedAgrees more included_meaning included_meaning'
        → PassageAgrees more
        (elim included_meaning [ None ↦ refusal TooManyIncludes [] c s | Some within ↦ includes_found rules within (rules.find s.path name) c s ])
        (elim included_meaning' [
          | None ↦ refusal TooManyIncludes [] c (roomier sources more s)
          | Some within ↦ includes_found larger within (rules.find s.path name) c (roomier sources more s)
        ])
    unfolding IncludedAgrees is_limit
    nested-agrees sources None None name c s h = limit-passage more TooManyIncludes [] c s _ refl
    nested-agrees sources None (Some within') name c s h = limit-passage more TooManyIncludes [] c s _ refl
    nested-agrees sources (Some within) None name c s h = absurd h
    nested-agrees sources (Some within) (Some within') name c s h = found-agrees sources within within' (rules.find s.path name) c s h

    -- an `include` of what it is given
    given-agrees : (sources : ℕ) (given : Option (List ℕ)) (c : Command) (s : State)
        → PassageAgrees more (includes_given rules included_meaning given c s) (includes_given larger included_meaning' given c (roomier sources more s))
    unfolding includes_given includes_named
    given-agrees sources None c s = refusal-agrees sources more IncludeName [] c s
    given-agrees sources (Some string) c s =
        let name = unquoted string in
        choice-passage more (length name == 0 || not (is_utf8 name)) _ _ _ _ (refusal-agrees sources more IncludeName [] c s)
        (nested-agrees sources included_meaning included_meaning' name c s h)

    -- a directive by itself, by its word
    word-agrees : (sources : ℕ) (word : Directive) (given : Option (List ℕ)) (text : List ℕ) (line : ℕ) (first : Bool) (s : State)
        → let c : Command = record { word = word; given = given; text = text; line = line; first = first } in
        PassageAgrees more (single rules included_meaning c s) (single larger included_meaning' c (roomier sources more s))
    unfolding single AllDefined leaves gives
    word-agrees sources Define given text line first s =
        define-agrees sources more (record { word = Define; given = given; text = text; line = line; first = first }) s _ _ (w.defines s.macros (drop 7 text))
    word-agrees sources Undef given text line first s =
        let c : Command = record { word = Undef; given = given; text = text; line = line; first = first } in
        undef-agrees sources more c s (macro_name c)
    word-agrees sources Include given text line first s =
        given-agrees sources given (record { word = Include; given = given; text = text; line = line; first = first }) s
    word-agrees sources Line given text line first s =
        line-agrees sources (renumbered (drop 5 text)) (record { word = Line; given = given; text = text; line = line; first = first }) s
    word-agrees sources word given text line first s = lifted-agrees sources more (leaves (gives []) s)

    -- a directive by itself
    single-agrees : (sources : ℕ) (c : Command) (s : State) → PassageAgrees more (single rules included_meaning c s) (single larger included_meaning' c (roomier sources more s))
    single-agrees sources c s = word-agrees sources c.word c.given c.text c.line c.first s

    -- what resumes agrees from each place and state
    unfoldable Resumes : List Piece → List Piece → Type 0
    Resumes ps qs = (place : Place) (sources : ℕ) (s : State) → PassageAgrees more (resume rules included_meaning place ps s) (resume larger included_meaning' place qs (roomier sources more s))

    -- what resumes after a conditional that is opened
    conditional-agrees : (ps qs : List Piece) (place : Place) (sources : ℕ) (s : State) (m : ℕ) → Resumes ps qs → s.conditions_left ≡ suc m
        → PassageAgrees more (resume rules included_meaning place ps (in_conditional s)) (resume larger included_meaning' place qs (in_conditional (roomier sources more s)))
    unfolding Resumes
    conditional-agrees ps qs place sources s m r e =
        subst (λ (t : State). PassageAgrees more (resume rules included_meaning place ps (in_conditional s)) (resume larger included_meaning' place qs t))
        (sym (in-room sources more s m e)) (r place sources (in_conditional s))

    -- what resumes after the end of a conditional
    end-agrees : (ps qs : List Piece) (place : Place) (sources : ℕ) (s : State) → Resumes ps qs
        → PassageAgrees more (resume rules included_meaning place ps (past_conditional s)) (resume larger included_meaning' place qs (past_conditional (roomier sources more s)))
    unfolding Resumes
    end-agrees ps qs place sources s r =
        subst (λ (t : State). PassageAgrees more (resume rules included_meaning place ps (past_conditional s)) (resume larger included_meaning' place qs t))
        (sym (past-room sources more s)) (r place sources (past_conditional s))

    -- what resumes after a passage
    following-agrees : (ps qs : List Piece) (place : Place) (p q : Passage) → Resumes ps qs → PassageAgrees more p q
        → PassageAgrees more (goes_on p (λ after. resume rules included_meaning place ps after)) (goes_on q (λ after. resume larger included_meaning' place qs after))
    unfolding Resumes
    following-agrees ps qs place p q r h = on-agrees more p q _ _ h (λ sources t. r place sources t)

    -- at the end of a file
    ends-agree : (place : Place) (sources : ℕ) (s : State) → PassageAgrees more (resume rules included_meaning place [] s) (resume larger included_meaning' place [] (roomier sources more s))
    unfolding resume unclosed leaves gives fails
    ends-agree (Live []) sources s = lifted-agrees sources more (leaves (gives []) s)
    ends-agree (Live (o ∷ os)) sources s = lifted-agrees sources more (unclosed o s)
    ends-agree (Skipped n o os) sources s = lifted-agrees sources more (unclosed o s)

    -- a directive that opens a conditional in live text
    opened-agrees : (c : Command) (ps qs : List Piece) → Resumes ps qs → (os : List Progress) (sources : ℕ) (s : State)
        → PassageAgrees more (resume rules included_meaning (Live os) (Opening c ∷ ps) s) (resume larger included_meaning' (Live os) (Opening c ∷ qs) (roomier sources more s))
    unfolding resume begun
    opened-agrees c ps qs r os sources s =
        opening-agrees sources more c s _ _ _ _
        (λ m e. conditional-agrees ps qs (Live (begun c s true ∷ os)) sources s m r e) (λ m e. conditional-agrees ps qs (Skipped 0 (begun c s false) os) sources s m r e)

    -- a branch of an open conditional
    branched-agrees : (c : Command) (ps qs : List Piece) → Resumes ps qs → (o : Progress) (os : List Progress) (sources : ℕ) (s : State)
        → PassageAgrees more (resume rules included_meaning (Live (o ∷ os)) (Branching c ∷ ps) s) (resume larger included_meaning' (Live (o ∷ os)) (Branching c ∷ qs) (roomier sources more s))
    unfolding resume Resumes
    branched-agrees c ps qs r o os sources s =
        turn-agrees sources more o c s _ _ _ _ (r (Live (turned o c true ∷ os)) sources s) (r (Skipped 0 (turned o c false) os) sources s)

    -- a piece in front
    piece-agrees : (p : Piece) (ps qs : List Piece) → Resumes ps qs → (place : Place) (sources : ℕ) (s : State)
        → PassageAgrees more (resume rules included_meaning place (p ∷ ps) s) (resume larger included_meaning' place (p ∷ qs) (roomier sources more s))
    unfolding resume skipped_command
    piece-agrees (Run ts) ps qs r (Live os) sources s =
        following-agrees ps qs (Live os) _ _ r (leaves-agrees sources more s _ _ (run-agrees rules larger s sources more w.bytes ts w.depths))
    piece-agrees (Single c) ps qs r (Live os) sources s = following-agrees ps qs (Live os) _ _ r (single-agrees sources c s)
    piece-agrees (Opening c) ps qs r (Live os) sources s = opened-agrees c ps qs r os sources s
    piece-agrees (Branching c) ps qs r (Live []) sources s = refusal-agrees sources more StrayBranch [] c s
    piece-agrees (Branching c) ps qs r (Live (o ∷ os)) sources s = branched-agrees c ps qs r o os sources s
    piece-agrees (Closing c) ps qs r (Live []) sources s = refusal-agrees sources more StrayBranch [] c s
    piece-agrees (Closing c) ps qs r (Live (o ∷ os)) sources s = end-agrees ps qs (Live os) sources s r
    piece-agrees (Run ts) ps qs r (Skipped n o os) sources s =
        following-agrees ps qs (Skipped n o os) _ _ r (leaves-agrees sources more s _ _ (skip-agrees sources more s ts))
    piece-agrees (Single c) ps qs r (Skipped n o os) sources s = following-agrees ps qs (Skipped n o os) _ _ r (leaves-same sources more s (skipped_command c))
    piece-agrees (Opening c) ps qs r (Skipped n o os) sources s = following-agrees ps qs (Skipped (suc n) o os) _ _ r (leaves-same sources more s (skipped_command c))
    piece-agrees (Branching c) ps qs r (Skipped (suc n) o os) sources s =
        following-agrees ps qs (Skipped (suc n) o os) _ _ r (leaves-same sources more s (skipped_command c))
    piece-agrees (Branching c) ps qs r (Skipped zero o os) sources s = branched-agrees c ps qs r o os sources s
    piece-agrees (Closing c) ps qs r (Skipped (suc n) o os) sources s = following-agrees ps qs (Skipped n o os) _ _ r (leaves-same sources more s (skipped_command c))
    piece-agrees (Closing c) ps qs r (Skipped zero o os) sources s = end-agrees ps qs (Live os) sources s r

    -- a run that is torn after its first token, from each place
    later-torn : (xs : List SourceToken) (b : Breach) (bytes : List ℕ) (line : ℕ) (us : List SourceToken) (qs : List Piece)
        → is_limit (breach_kind b) ≡ true → TornBy token_role (token_role (record { sort = Broken b; bytes = bytes; line = line })) us
        → (place : Place) (sources : ℕ) (s : State)
        → PassageAgrees more (resume rules included_meaning place (Run (xs ++ record { sort = Broken b; bytes = bytes; line = line } ∷ []) ∷ []) s)
        (resume larger included_meaning' place (Run (xs ++ us) ∷ qs) (roomier sources more s))
    unfolding resume
    later-torn xs b bytes line us qs limit torn (Live os) sources s =
        faulty-agrees sources more _ _ s _ _ (run-torn rules larger s sources more w.bytes xs b bytes line us w.depths limit torn)
    later-torn xs b bytes line us qs limit torn (Skipped n o os) sources s =
        faulty-agrees sources more _ _ s _ _ (skip-torn sources more s xs b bytes line us limit)

    -- a run that is torn, by the tokens before and by the pieces of larger limits
    torn-by : (xs : List SourceToken) (b : Breach) (bytes : List ℕ) (line : ℕ) (us : List SourceToken) (qs : List Piece) → run_front qs ≡ xs ++ us
        → is_limit (breach_kind b) ≡ true → TornBy token_role (token_role (record { sort = Broken b; bytes = bytes; line = line })) us
        → (place : Place) (sources : ℕ) (s : State)
        → PassageAgrees more (resume rules included_meaning place (Run (xs ++ record { sort = Broken b; bytes = bytes; line = line } ∷ []) ∷ []) s)
        (resume larger included_meaning' place qs (roomier sources more s))
    unfolding run_front
    torn-by [] b bytes line us qs e limit torn place sources s = first-torn rules included_meaning more place b bytes line s _ limit
    torn-by (x ∷ xs) b bytes line us (Run vs ∷ qs) e limit torn place sources s =
        subst (λ (ts : List SourceToken). PassageAgrees more (resume rules included_meaning place (Run (x ∷ (xs ++ record { sort = Broken b; bytes = bytes; line = line } ∷ [])) ∷ []) s)
        (resume larger included_meaning' place (Run ts ∷ qs) (roomier sources more s))) (sym e)
        (later-torn (x ∷ xs) b bytes line us qs limit torn place sources s)
    torn-by (x ∷ xs) b bytes line us [] e limit torn place sources s = absurd (nothing-more x (xs ++ us) e)
    torn-by (x ∷ xs) b bytes line us (Single c ∷ qs) e limit torn place sources s = absurd (nothing-more x (xs ++ us) e)
    torn-by (x ∷ xs) b bytes line us (Opening c ∷ qs) e limit torn place sources s = absurd (nothing-more x (xs ++ us) e)
    torn-by (x ∷ xs) b bytes line us (Branching c ∷ qs) e limit torn place sources s = absurd (nothing-more x (xs ++ us) e)
    torn-by (x ∷ xs) b bytes line us (Closing c ∷ qs) e limit torn place sources s = absurd (nothing-more x (xs ++ us) e)

    -- a run that is torn
    run-ends : (p : Piece) (ps qs : List Piece) → EndsTorn p ps qs → Resumes (p ∷ ps) qs
    unfolding Resumes
    run-ends p ps qs e = λ place sources s.
        let t : SourceToken = record { sort = Broken e.breach; bytes = e.bytes; line = e.line } in
        let last = resume larger included_meaning' place qs (roomier sources more s) in
        subst (λ (x : Piece). PassageAgrees more (resume rules included_meaning place (x ∷ ps) s) last) (sym e.piece)
        (subst (λ (xs : List Piece). PassageAgrees more (resume rules included_meaning place (Run (e.before ++ t ∷ []) ∷ xs) s) last) (sym e.last)
        (torn-by e.before e.breach e.bytes e.line e.following qs e.front e.limit e.torn place sources s))

    -- what resumes agrees
    resume-agrees : (ps qs : List Piece) → PiecesTorn ps qs → Resumes ps qs
    unfolding Resumes PiecesTorn
    resume-agrees [] qs r = λ place sources s.
        subst (λ (xs : List Piece). PassageAgrees more (resume rules included_meaning place [] s) (resume larger included_meaning' place xs (roomier sources more s))) (sym r) (ends-agree place sources s)
    resume-agrees (p ∷ ps) qs (inl e) = run-ends p ps qs e
    resume-agrees (p ∷ ps) qs (inr (rest, e, r)) = λ place sources s.
        subst (λ (xs : List Piece). PassageAgrees more (resume rules included_meaning place (p ∷ ps) s) (resume larger included_meaning' place xs (roomier sources more s))) (sym e)
        (piece-agrees p ps rest (resume-agrees ps rest r) place sources s)

    -- what a text means agrees
    mean-agrees : (sources : ℕ) (s : State) (text : List ℕ)
        → PassageAgrees more (mean rules included_meaning (parts_of (rules.tokens text)) s) (mean larger included_meaning' (parts_of (tokens text)) (roomier sources more s))
    unfolding Resumes FirstUnbroken
    mean-agrees sources s text =
        let ts = rules.tokens text in
        let us = tokens text in
        subst (λ (p : Passage). PassageAgrees more p (mean larger included_meaning' (parts_of us) (roomier sources more s))) (sym (mean_resumes rules included_meaning ts s))
        (subst (λ (q : Passage). PassageAgrees more (resume rules included_meaning (Live []) (pieces true 0 ts) s) q) (sym (mean_resumes larger included_meaning' us (roomier sources more s)))
        (resume-agrees (pieces true 0 ts) (pieces true 0 us) (pieces-torn true ts us (w.texts text) true 0 tt) (Live []) sources s))

  -- included texts agree where more sources may be opened
  included_meaning-agrees : (n m : ℕ) → n ≤ m → IncludedAgrees more (included_meaning_of rules n) (included_meaning_of larger m)
  unfolding included_meaning_of IncludedAgrees
  included_meaning-agrees zero m h = tt
  included_meaning-agrees (suc n) zero h = absurd (omega (arith, h))
  included_meaning-agrees (suc n) (suc m) h = mean-agrees (included_meaning_of rules n) (included_meaning_of larger m) (included_meaning-agrees n m (omega (arith, h)))

  -- outputs agree, from states that differ in the room that they have
  output-agrees : (macros : List Macro) (sources room conditions : ℕ) (path : List ℕ) (found : Lookup) → sources ≤ room
      → NamesNoLimit (output rules macros sources conditions path found).fault
      → output larger macros room (more + conditions) path found ≡ output rules macros sources conditions path found
  unfolding output text_meaning origin_line start_state
  output-agrees macros sources room conditions path (Source found text) h n =
      outcome-agrees more _ _
      (bytes-agree more (origin_line rules found 1) _ _
      (mean-agrees (included_meaning_of rules sources) (included_meaning_of larger room) (included_meaning-agrees sources room h) room (start_state macros sources conditions found) text)) n
  output-agrees macros sources room conditions path _ h n = refl

-- a choice of what a `define` comes to, where a first fault is of a limit
limited-agrees : (kind : FaultKind) (word : List ℕ) (small large : Bool) (u v : Defined) → is_limit kind ≡ true
    → (small ≡ false → large ≡ false) → DefinedAgrees u v
    → DefinedAgrees (if small then DefinitionFault kind word else u) (if large then DefinitionFault kind word else v)
unfolding DefinedAgrees
limited-agrees kind word true large u v l imp h = λ n. absurd (true≢false (sym l ∙ n))
limited-agrees kind word false large u v l imp h =
    subst (λ (b : Bool). DefinedAgrees u (if b then DefinitionFault kind word else v)) (sym (imp refl)) h

-- what a macro's storing comes to, with its fault
stored_by : Bool → Bool → List Macro → Defined
stored_by bytes count macros =
    if bytes then DefinitionFault fault.DefinitionBytes [] else (if count then DefinitionFault fault.TooManyDefinitions [] else Accepted macros)

-- it is that
stored_is : (most_bytes most_macros : ℕ) (macros : List Macro) (m : Macro)
    → with_fault (stored most_bytes most_macros macros m)
    ≡ stored_by (nat_lt most_bytes (table_size (without m.name macros) + macro_size m)) (nat_lt most_macros (length (without m.name macros) + 1))
    (without m.name macros ++ m ∷ [])
unfolding stored with_fault define_fault stored_by
stored_is most_bytes most_macros macros m = grind (arith, nat_lt)

-- a macro that is stored agrees
store-agrees : (bytes count bytes' count' : ℕ) (macros : List Macro) (m : Macro) → bytes ≤ bytes' → count ≤ count'
    → DefinedAgrees (with_fault (stored bytes count macros m)) (with_fault (stored bytes' count' macros m))
unfolding stored_by is_limit DefinedAgrees
store-agrees bytes count bytes' count' macros m h k = grind (arith, stored_is, nat_lt, limited-agrees, unpassed)

-- a draft agrees
draft-agrees : (bytes count bytes' count' : ℕ) (macros : List Macro) (draft : Draft) → bytes ≤ bytes' → count ≤ count'
    → DefinedAgrees (with_fault (stored_draft bytes count macros draft)) (with_fault (stored_draft bytes' count' macros draft))
unfolding stored_draft with_fault DefinedAgrees
draft-agrees bytes count bytes' count' macros (Drawn m) h k = store-agrees bytes count bytes' count' macros m h k
draft-agrees bytes count bytes' count' macros (DraftFault kind word) h k = λ n. refl

-- what a `define` does agrees with larger limits
all-defined : (bytes count bytes' count' : ℕ) → bytes ≤ bytes' → count ≤ count' → (macros : List Macro) (rest : List ℕ)
    → DefinedAgrees (with_fault (define_of bytes count macros rest)) (with_fault (define_of bytes' count' macros rest))
unfolding define_of
all-defined bytes count bytes' count' h k macros rest = draft-agrees bytes count bytes' count' macros (macro_of rest) h k

-- the rules of larger limits are wider rules of smaller ones
rules-wider : (small large : Limits) (find : List ℕ → List ℕ → Lookup) (origins : Bool)
    → rules_of large find origins
    ≡ wider (rules_of small find origins) large.depth large.argument_bytes
    (λ macros rest. with_fault (define_of large.definition_bytes large.definitions macros rest))
    (λ text. whole_tokens large.line_bytes large.source_bytes text)
unfolding rules_of
rules-wider small large find origins = refl

-- an output that no fault of a limit ends is the same with larger limits, before the limit on the output is looked at
pub larger_output : (small large : Limits) (find : List ℕ → List ℕ → Lookup) (origins : Bool)
    (macros : List Macro) (path : List ℕ) (found : Lookup) → IsLarger small large → NamesNoLimit (output (rules_of small find origins) macros small.includes small.conditions path found).fault
    → output (rules_of large find origins) macros large.includes large.conditions path found
    ≡ output (rules_of small find origins) macros small.includes small.conditions path found
unfolding rules_of AllDefined
larger_output small large find origins macros path found l n =
    let rules = rules_of small find origins in
    let define : List Macro → List ℕ → Defined = λ ms rest. with_fault (define_of large.definition_bytes large.definitions ms rest) in
    let tokens : List ℕ → List SourceToken = λ text. whole_tokens large.line_bytes large.source_bytes text in
    let more = large.conditions - small.conditions in
    ap (λ (r : Rules). output r macros large.includes large.conditions path found) (rules-wider small large find origins)
    ∙ ap (λ (k : ℕ). output (wider rules large.depth large.argument_bytes define tokens) macros large.includes k path found)
    (difference small.conditions large.conditions l.conditions)
    ∙ output-agrees rules large.depth large.argument_bytes define tokens
    (record {
      depths = l.depth;
      bytes = l.argument_bytes;
      defines = all-defined small.definition_bytes small.definitions large.definition_bytes large.definitions l.definition_bytes l.definitions;
      texts = λ text. sources-torn small.line_bytes large.line_bytes small.source_bytes large.source_bytes text l.line_bytes l.source_bytes;
    }) more macros small.includes large.includes small.conditions path found l.includes n
  where
    difference : (a b : ℕ) → a ≤ b → b ≡ (b - a) + a
    difference a b h = omega (arith, h)

-- what is limited and names no limit has no more bytes than that, by whether it has
within-by : (over : Report) (quota : ℕ) (o : Outcome) (b : Bool) → is_limit over.kind ≡ true → nat_le (length o.bytes) quota ≡ b
    → NamesNoLimit (limited over quota o).fault → length o.bytes ≤ quota
within-by over quota o true l e n = leb-true (length o.bytes) quota e
within-by over quota o false l e n = grind (arith, limited-over, leb-false, true≢false)

-- outcomes that agree where no limit is named agree where both are limited and the one names none
limited-agree : (over : Report) (quota more : ℕ) (o p : Outcome) → is_limit over.kind ≡ true → quota ≤ more
    → (NamesNoLimit o.fault → p ≡ o) → NamesNoLimit (limited over quota o).fault → limited over more p ≡ limited over quota o
limited-agree over quota more o p l h same n =
    let within : length o.bytes ≤ quota = within-by over quota o (nat_le (length o.bytes) quota) l refl n in
    grind (arith, limited-within, le_trans)

-- an output that no fault of a limit ends is the same with larger limits, among them that on the output
pub larger_limits : (small large : Limits) (searches : Searches) (origins : Bool) (macros : List Macro) (path : List ℕ)
    → IsLarger small large → NamesNoLimit (limited_output small searches origins macros path).fault
    → limited_output large searches origins macros path ≡ limited_output small searches origins macros path
unfolding limited_output unlimited_output search_rules opening_fault is_limit
larger_limits small large searches origins macros path l n = grind (arith, limited-agree, larger_output)
