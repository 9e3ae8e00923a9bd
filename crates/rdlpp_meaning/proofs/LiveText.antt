-- Laws of tokens, usages and runs in live text.
use Rattle.std.proofs.Common.{◌≡◌, ℕ, zero, suc, true, List, [], ◌∷◌, refl, ap, ◌∙◌, Option, Some, Bool, None, false, map, drop, ◌||◌, ◌++◌, sym, ◌&&◌, ◌≤◌, length, take, arith, bytes_eq, nat_le, unwrap_or, take-append-drop}
use Rattle.std.specs.List.{AllByRecursion, list_all, list_any}
use Rattle.std.proofs.lemmas.Bool.{and_parts, or_parts}
use Rattle.std.proofs.lemmas.Grind.{flat_map-append}
use Rattle.std.proofs.lemmas.List.Elements.{filter-append}
use Rattle.rdlpp_scan.specs.Bytes.{is_blank, is_line_end}
use Rattle.rdlpp_scan.specs.Front.{Breach}
use Rattle.rdlpp_scan.specs.Reserved.{is_reserved, reserved_names}
use Rattle.rdlpp_scan.specs.SourceTokens.{Broken, Definition, Ordinary, Renumbering, Sort, SourceToken}
use Rattle.rdlpp_scan.specs.declared.token.Directive.{Directive}
use Rattle.rdlpp_scan.specs.declared.token.Directive.TheVariants.{Ifdef}
use Rattle.rdlpp_scan.specs.declared.token.Kind.{Kind}
use Rattle.rdlpp_scan.specs.declared.token.Kind.TheVariants.{Back, BareBackquote}
use Rattle.rdlpp_define.specs.Table.{macro_named}
use Rattle.rdlpp_meaning.specs.Actuals.{Halt, Role, item_reads, token_role}
use Rattle.rdlpp_meaning.specs.CallScan.{Before, Inside, ScanFault as RefusedCall, Scanned, CallState, call_of, call_of_scan, fault_at_end, room_after, scan, scanned, source_role, call_state_after, turn, turn_before, turn_inside}
use Rattle.rdlpp_meaning.specs.Expansion.{Opens, UsageFault, Usage, bytes_of, expand, is_copied, name_of, run_outcome, usage_of, usage_token, walk}
use Rattle.rdlpp_meaning.specs.Items.{Item, Written}
use Rattle.rdlpp_meaning.specs.Meaning.{IncludedMeaning, Passage, Progress, after_bytes, goes_on, leaves, included_meaning_of}
use Rattle.rdlpp_meaning.specs.Outcome.{Outcome, Report, and_then, fails, gives}
use Rattle.rdlpp_meaning.specs.Parts.{Branching, Closing, Command, Opening, Piece, Run, Single, tokenless_worded, directive_of, joined, line_ends_of, only_blanks, piece_of, pieces}
use Rattle.rdlpp_meaning.specs.Resumed.{Live, leading, resume, resumed, trailing}
use Rattle.rdlpp_meaning.specs.State.{Rules, State, breach_kind, fault_at}
use Rattle.rdlpp_meaning.specs.Substitution.{substituted}
use Rattle.rdlpp_meaning.specs.declared.fault.FaultKind.{FaultKind}
use Rattle.rdlpp_meaning.specs.declared.fault.FaultKind.TheVariants.{BareBackquote as NoName, DepthPassed, UndefinedMacro}
use Rattle.rdlpp_meaning.proofs.Outcomes.{and_then-fails, and_then-nil, after_bytes-nil, after_bytes-twice, fails-goes_on, gives_fails-goes_on, goes_on-gives, goes_on-nil, leaves-and_then, on_leaves}

-- Laws of expansion over tokens that are copied, lone backquotes, broken tokens and usages; and of a token in a run: where the run
-- goes on after it, so does what remains of the file.

-- what opens a body or an actual where so many may be open
unfoldable pub deeper_of : Rules → State → ℕ → ℕ → List (List ℕ) → List Item → Outcome
deeper_of rules s zero line p g = fails (fault_at DepthPassed line [] s)
deeper_of rules s (suc d) line p g = expand rules s d (Some line) p g

-- expansion is a walk at each depth
pub expand_walk : (rules : Rules) (s : State) (d : ℕ) (line_or_text : Option ℕ) (o : List (List ℕ)) (items : List Item)
    → expand rules s d line_or_text o items ≡ walk rules s (deeper_of rules s d) line_or_text o 0 items
unfolding expand deeper_of
expand_walk rules s zero line_or_text o items = refl
expand_walk rules s (suc d) line_or_text o items = refl

-- a token that is copied, by what it is
copied_by : (rules : Rules) (s : State) (deeper : ℕ → List (List ℕ) → List Item → Outcome) (line_or_text : Option ℕ) (o : List (List ℕ))
    (sort : Sort) (bytes : List ℕ) (line : ℕ) (xs : List Item)
    → is_copied (record { sort = sort; bytes = bytes; line = line }) ≡ true
    → walk rules s deeper line_or_text o 0 (Written (record { sort = sort; bytes = bytes; line = line }) ∷ xs)
    ≡ and_then (gives bytes) (walk rules s deeper line_or_text o 0 xs)
unfolding walk is_copied
copied_by rules s deeper line_or_text o (Ordinary Back) bytes line xs e = cc
copied_by rules s deeper line_or_text o (Ordinary BareBackquote) bytes line xs e = cc
copied_by rules s deeper line_or_text o (Ordinary k) bytes line xs e = refl
copied_by rules s deeper line_or_text o Definition bytes line xs e = cc
copied_by rules s deeper line_or_text o Renumbering bytes line xs e = cc
copied_by rules s deeper line_or_text o (Broken b) bytes line xs e = cc

-- a token that is copied gives its bytes
pub walk_copied : (rules : Rules) (s : State) (deeper : ℕ → List (List ℕ) → List Item → Outcome) (line_or_text : Option ℕ) (o : List (List ℕ))
    (t : SourceToken) (xs : List Item) → is_copied t ≡ true
    → walk rules s deeper line_or_text o 0 (Written t ∷ xs) ≡ and_then (gives t.bytes) (walk rules s deeper line_or_text o 0 xs)
walk_copied rules s deeper line_or_text o t xs e = copied_by rules s deeper line_or_text o t.sort t.bytes t.line xs e

-- a token writes an outcome in front of each run
unfoldable pub Writes : Rules → State → SourceToken → Outcome → Type 0
Writes rules s t o = (us : List SourceToken) → run_outcome rules s (t ∷ us) ≡ and_then o (run_outcome rules s us)

-- an empty run gives nothing
pub run_nil : (rules : Rules) (s : State) → run_outcome rules s [] ≡ gives []
unfolding run_outcome walk
run_nil rules s = expand_walk rules s rules.depth None [] []

-- a run by itself of a token that writes an outcome
alone : (rules : Rules) (included_meaning : IncludedMeaning) (os : List Progress) (t : SourceToken) (o : Outcome) (ps : List Piece) (s : State)
    → Writes rules s t o
    → resume rules included_meaning (Live os) (Run (t ∷ []) ∷ ps) s ≡ goes_on (leaves o s) (λ after. resume rules included_meaning (Live os) ps after)
unfolding resume Writes
alone rules included_meaning os t o ps s w = grind (arith, run_nil, and_then-nil)

-- a token that writes an outcome in front of pieces
pub resume_joined : (rules : Rules) (included_meaning : IncludedMeaning) (os : List Progress) (t : SourceToken) (o : Outcome) (ps : List Piece) (s : State)
    → Writes rules s t o
    → resume rules included_meaning (Live os) (joined t ps) s ≡ goes_on (leaves o s) (λ after. resume rules included_meaning (Live os) ps after)
unfolding resume joined Writes
resume_joined rules included_meaning os t o [] s w = alone rules included_meaning os t o [] s w
resume_joined rules included_meaning os t o (Run us ∷ ps) s w = grind (arith, leaves-and_then, on_leaves)
resume_joined rules included_meaning os t o (Single c ∷ ps) s w = alone rules included_meaning os t o (Single c ∷ ps) s w
resume_joined rules included_meaning os t o (Opening c ∷ ps) s w = alone rules included_meaning os t o (Opening c ∷ ps) s w
resume_joined rules included_meaning os t o (Branching c ∷ ps) s w = alone rules included_meaning os t o (Branching c ∷ ps) s w
resume_joined rules included_meaning os t o (Closing c ∷ ps) s w = alone rules included_meaning os t o (Closing c ∷ ps) s w

-- a token that begins no directive is joined to the pieces after it
pub pieces_text : (first : Bool) (t : SourceToken) (ts : List SourceToken) → directive_of t ≡ None
    → pieces first 0 (t ∷ ts) ≡ joined t (pieces (only_blanks first t.bytes) 0 ts)
unfolding pieces
pieces_text first t ts e = rw (e, pieces) refl

-- a token that writes an outcome, and then what remains after it
pub resumed_token : (rules : Rules) (os : List Progress) (first : Bool) (t : SourceToken) (ts : List SourceToken) (s : State) (o : Outcome)
    → directive_of t ≡ None → Writes rules s t o
    → resumed rules (Live os) first (t ∷ ts) s
    ≡ goes_on (leaves o s) (λ after. resumed rules (Live os) (only_blanks first t.bytes) ts after)
unfolding resumed
resumed_token rules os first t ts s o e w =
    let rest = pieces (only_blanks first t.bytes) 0 ts in
    ap (λ (ps : List Piece). resume rules (included_meaning_of rules s.sources_left) (Live os) ps s) (pieces_text first t ts e)
    ∙ resume_joined rules (included_meaning_of rules s.sources_left) os t o rest s w
    ∙ on_leaves o s
    (λ after. resume rules (included_meaning_of rules s.sources_left) (Live os) rest after)
    (λ after. resumed rules (Live os) (only_blanks first t.bytes) ts after) refl

-- Laws of usages: of a name that isn't defined, and of a macro without a list.

-- a usage of a name that isn't defined
pub usage_none : (rules : Rules) (s : State) (line_or_text : Option ℕ) (line : ℕ) (o : List (List ℕ)) (name : List ℕ) (xs : List Item)
    → is_reserved name ≡ false → macro_named s.macros name ≡ None
    → usage_of rules s (item_reads line_or_text) line o name xs ≡ UsageFault UndefinedMacro name line
unfolding usage_of
usage_none rules s line_or_text line o name xs r e = rw (r, e) refl

-- what a usage writes in front of further items, by what it comes to
unfoldable pub usage_walk : Rules → State → (ℕ → List (List ℕ) → List Item → Outcome) → Option ℕ → List (List ℕ) → ℕ → List Item → Usage Item → Outcome
usage_walk rules s deeper line_or_text o line xs (UsageFault f word at) = fails (fault_at f at word s)
usage_walk rules s deeper line_or_text o line xs (Opens m actuals used) =
    and_then (deeper line (m.name ∷ o) (substituted m actuals o)) (walk rules s deeper line_or_text o used xs)

-- a usage writes that
pub usage_walks : (rules : Rules) (s : State) (deeper : ℕ → List (List ℕ) → List Item → Outcome) (line_or_text : Option ℕ) (o : List (List ℕ)) (bytes : List ℕ) (line : ℕ) (xs : List Item) (u : Usage Item)
    → usage_of rules s (item_reads line_or_text) (unwrap_or line_or_text line) o (drop 1 bytes) xs ≡ u
    → walk rules s deeper line_or_text o 0 (Written (record { sort = Ordinary Back; bytes = bytes; line = line }) ∷ xs)
    ≡ usage_walk rules s deeper line_or_text o (unwrap_or line_or_text line) xs u
unfolding walk usage_walk name_of
usage_walks rules s deeper line_or_text o bytes line xs (UsageFault f word at) e = rw (e, walk) refl
usage_walks rules s deeper line_or_text o bytes line xs (Opens m actuals used) e = rw (e, walk) refl

-- a run that begins with a usage that is refused fails with its fault
pub run_refused : (rules : Rules) (s : State) (name : List ℕ) (line : ℕ) (us : List SourceToken) (f : FaultKind) (word : List ℕ) (at : ℕ)
    → usage_of rules s (item_reads None) line [] name (map Written us) ≡ UsageFault f word at
    → run_outcome rules s (usage_token name line ∷ us) ≡ fails (fault_at f at word s)
unfolding run_outcome usage_walk
run_refused rules s name line us f word at e = grind (arith, expand_walk, usage_walks)

-- What a token of a run writes in front of the run after it, and the directives that tokens begin.

-- a token that is copied begins no directive, by what it is
copied_text_by : (sort : Sort) (bytes : List ℕ) (line : ℕ) → is_copied (record { sort = sort; bytes = bytes; line = line }) ≡ true
    → directive_of (record { sort = sort; bytes = bytes; line = line }) ≡ None
unfolding is_copied directive_of
copied_text_by (Ordinary Back) bytes line e = cc
copied_text_by (Ordinary k) bytes line e = refl
copied_text_by Definition bytes line e = cc
copied_text_by Renumbering bytes line e = cc
copied_text_by (Broken b) bytes line e = refl

-- a token that is copied begins no directive
pub copied_text : (t : SourceToken) → is_copied t ≡ true → directive_of t ≡ None
copied_text t e = copied_text_by t.sort t.bytes t.line e

-- a token that is copied writes its bytes
pub copied_writes : (rules : Rules) (s : State) (t : SourceToken) → is_copied t ≡ true → Writes rules s t (gives t.bytes)
unfolding Writes run_outcome
copied_writes rules s t e us = grind (arith, expand_walk, walk_copied)

-- only blanks after bytes and then bytes
pub only_blanks-append : (first : Bool) (x y : List ℕ) → only_blanks first (x ++ y) ≡ only_blanks (only_blanks first x) y
unfolding only_blanks
only_blanks-append first [] y = refl
only_blanks-append first (b ∷ x) y = only_blanks-append (is_line_end b || is_blank b && first) x y

-- a name that is none of some words is none of each
pub none_of_words : (name : List ℕ) (words : List (List ℕ)) → list_any (bytes_eq name) words ≡ false
    → AllByRecursion (λ word. bytes_eq name word ≡ false) words
none_of_words name [] e = tt
none_of_words name (w ∷ ws) e =
    let parts = or_parts (bytes_eq name w) (list_any (bytes_eq name) ws) e in
    (parts.0, none_of_words name ws parts.1)

-- a name that isn't reserved is none of the directives
not_directive : (name : List ℕ) → is_reserved name ≡ false → tokenless_worded (96 ∷ name) ≡ None
unfolding is_reserved reserved_names tokenless_worded
not_directive name e = grind (arith, none_of_words)

-- a usage of a name that isn't reserved begins no directive
pub usage_text : (name : List ℕ) (line : ℕ) → is_reserved name ≡ false → directive_of (usage_token name line) ≡ None
unfolding directive_of
usage_text name line e = not_directive name e

-- a lone backquote writes its fault
pub bare_writes : (rules : Rules) (s : State) (bytes : List ℕ) (line : ℕ)
    → Writes rules s (record { sort = Ordinary BareBackquote; bytes = bytes; line = line }) (fails (fault_at NoName line [] s))
unfolding Writes run_outcome walk and_then fails
bare_writes rules s bytes line us =
    expand_walk rules s rules.depth None [] (Written (record { sort = Ordinary BareBackquote; bytes = bytes; line = line }) ∷ map Written us)

-- a broken token writes its bytes and its fault
pub broken_writes : (rules : Rules) (s : State) (b : Breach) (bytes : List ℕ) (line : ℕ)
    → Writes rules s (record { sort = Broken b; bytes = bytes; line = line })
    (and_then (gives bytes) (fails (fault_at (breach_kind b) line [] s)))
unfolding Writes run_outcome walk and_then gives fails
broken_writes rules s b bytes line us =
    expand_walk rules s rules.depth None [] (Written (record { sort = Broken b; bytes = bytes; line = line }) ∷ map Written us)

-- the LF bytes of bytes and then bytes
pub line_ends_of-append : (x y : List ℕ) → line_ends_of (x ++ y) ≡ line_ends_of x ++ line_ends_of y
unfolding line_ends_of
line_ends_of-append x y = filter-append is_line_end x y

-- The law of a run: its expansion, and then what remains after it; and the same of a part of a run, as a usage with its call.

-- a run in front of pieces
unfoldable run_before : List SourceToken → List Piece → List Piece
run_before [] ps = ps
run_before (t ∷ ts) ps = Run (t ∷ ts) ∷ ps

-- a token isn't joined to a directive, by its word
joined_by : (t : SourceToken) (word : Directive) (given : Option (List ℕ)) (text : List ℕ) (line : ℕ) (first : Bool) (ps : List Piece)
    → joined t (piece_of (record { word = word; given = given; text = text; line = line; first = first }) ∷ ps)
    ≡ Run (t ∷ []) ∷ piece_of (record { word = word; given = given; text = text; line = line; first = first }) ∷ ps
unfolding joined piece_of
joined_by t Ifdef given text line first ps = refl
joined_by t d given text line first ps = refl

-- a token isn't joined to a directive
joined_directive : (t : SourceToken) (c : Command) (ps : List Piece) → joined t (piece_of c ∷ ps) ≡ Run (t ∷ []) ∷ piece_of c ∷ ps
joined_directive t c ps = joined_by t c.word c.given c.text c.line c.first ps

-- where a directive begins, no run does
no_run : (t : SourceToken) (first : Bool) (u : SourceToken) (us : List SourceToken) (d : Directive) → directive_of u ≡ Some d
    → joined t (pieces first 0 (u ∷ us)) ≡ Run (t ∷ []) ∷ pieces first 0 (u ∷ us)
unfolding pieces
no_run t first u us d e = grind (arith, joined_directive)

-- what leads and trails where the first token begins no directive
pub leading_text : (t : SourceToken) (ts : List SourceToken) → directive_of t ≡ None → leading (t ∷ ts) ≡ t ∷ leading ts
unfolding leading
leading_text t ts e = rw (e, leading) refl

-- what trails there
trailing_text : (t : SourceToken) (ts : List SourceToken) → directive_of t ≡ None → trailing (t ∷ ts) ≡ trailing ts
unfolding trailing
trailing_text t ts e = rw (e, trailing) refl

-- what leads where the first token begins a directive
pub leading_directive : (t : SourceToken) (ts : List SourceToken) (d : Directive) → directive_of t ≡ Some d → leading (t ∷ ts) ≡ []
unfolding leading
leading_directive t ts d e = rw (e, leading) refl

-- what trails there
trailing_directive : (t : SourceToken) (ts : List SourceToken) (d : Directive) → directive_of t ≡ Some d → trailing (t ∷ ts) ≡ t ∷ ts
unfolding trailing
trailing_directive t ts d e = rw (e, trailing) refl

-- a token isn't joined to what follows a run
IsApart : SourceToken → List SourceToken → Type 0
IsApart t us = (first : Bool) → joined t (pieces first 0 (trailing us)) ≡ Run (t ∷ []) ∷ pieces first 0 (trailing us)

-- by the first token
apart_by : (t u : SourceToken) (us : List SourceToken) (x : Option Directive) → directive_of u ≡ x → IsApart t us → IsApart t (u ∷ us)
unfolding IsApart
apart_by t u us None e rest first = rw (trailing_text u us e) (rest first)
apart_by t u us (Some d) e rest first = rw (trailing_directive u us d e) (no_run t first u us d e)

-- a token isn't joined to what is after a run
apart : (t : SourceToken) (us : List SourceToken) → IsApart t us
unfolding IsApart trailing joined pieces
apart t [] = λ first. refl
apart t (u ∷ us) = apart_by t u us (directive_of u) refl (apart t us)

-- a token in front of a run in front of what is after it
joined_run : (t : SourceToken) (run us : List SourceToken) (first : Bool)
    → joined t (run_before run (pieces first 0 (trailing us))) ≡ Run (t ∷ run) ∷ pieces first 0 (trailing us)
unfolding run_before joined IsApart
joined_run t [] us first = apart t us first
joined_run t (r ∷ run) us first = refl

-- the pieces of tokens are a run and then those of what is after it
HasRun : List SourceToken → Type 0
HasRun ts = (first : Bool) → pieces first 0 ts ≡ run_before (leading ts) (pieces (only_blanks first (bytes_of (leading ts))) 0 (trailing ts))

-- by the first token
has_run_by : (t : SourceToken) (ts : List SourceToken) (x : Option Directive) → directive_of t ≡ x → HasRun ts → HasRun (t ∷ ts)
unfolding HasRun run_before only_blanks
has_run_by t ts None e rest first = grind (arith, leading_text, trailing_text, pieces_text, joined_run, only_blanks-append)
has_run_by t ts (Some d) e rest first = rw (leading_directive t ts d e, trailing_directive t ts d e) refl

-- all tokens
has_run : (ts : List SourceToken) → HasRun ts
unfolding HasRun run_before only_blanks leading trailing
has_run [] = λ first. refl
has_run (t ∷ ts) = has_run_by t ts (directive_of t) refl (has_run ts)

-- a run in front of pieces resumes as its expansion, and then they do
resume_run : (rules : Rules) (included_meaning : IncludedMeaning) (os : List Progress) (run : List SourceToken) (ps : List Piece) (s : State)
    → resume rules included_meaning (Live os) (run_before run ps) s
    ≡ goes_on (leaves (run_outcome rules s run) s) (λ after. resume rules included_meaning (Live os) ps after)
unfolding run_before resume
resume_run rules included_meaning os [] ps s = grind (arith, run_nil, goes_on-nil)
resume_run rules included_meaning os (t ∷ run) ps s = refl

-- in live text, a run comes to its expansion, and then what remains after it
pub resumed_run : (rules : Rules) (os : List Progress) (first : Bool) (ts : List SourceToken) (s : State)
    → resumed rules (Live os) first ts s
    ≡ goes_on (leaves (run_outcome rules s (leading ts)) s)
    (λ after. resumed rules (Live os) (only_blanks first (bytes_of (leading ts))) (trailing ts) after)
unfolding resumed HasRun
resumed_run rules os first ts s = grind (arith, has_run, resume_run, on_leaves)

-- how the tokens of a run lie in front of the others
record IsWithinRun (k : ℕ) (ts : List SourceToken) : Type 0 where
  leads : leading (drop k ts) ≡ drop k (leading ts)
  trails : trailing (drop k ts) ≡ trailing ts
  front : take k ts ≡ take k (leading ts)

-- one more token of a run, by what it begins
within_by : (k : ℕ) (t : SourceToken) (ts : List SourceToken) (x : Option Directive) → directive_of t ≡ x
    → suc k ≤ length (leading (t ∷ ts)) → (k ≤ length (leading ts) → IsWithinRun k ts) → IsWithinRun (suc k) (t ∷ ts)
within_by k t ts None e h rest = grind (arith, leading_text, trailing_text)
within_by k t ts (Some d) e h rest = absurd (omega (arith, ap length (leading_directive t ts d e)))

-- so many tokens of a run
within_run : (k : ℕ) (ts : List SourceToken) → k ≤ length (leading ts) → IsWithinRun k ts
unfolding leading trailing
within_run (suc k) (t ∷ ts) h = within_by k t ts (directive_of t) refl h (λ g. within_run k ts g)
within_run _ ts h = record { leads = refl; trails = refl; front = refl }

-- the flag of blanks after so many tokens and then the others of a run
flag_after : (first : Bool) (k : ℕ) (ts : List SourceToken)
    → only_blanks (only_blanks first (bytes_of (take k ts))) (bytes_of (drop k ts)) ≡ only_blanks first (bytes_of ts)
flag_after first k ts =
    sym (only_blanks-append first (bytes_of (take k ts)) (bytes_of (drop k ts)))
    ∙ ap (λ (x : List ℕ). only_blanks first x)
    (sym (flat_map-append (λ (t : SourceToken). t.bytes) (take k ts) (drop k ts))
    ∙ ap (λ (us : List SourceToken). bytes_of us) (take-append-drop k ts))

-- in live text, where a run comes to an outcome and then the run after its first tokens, so does what remains
pub resumed_part : (rules : Rules) (os : List Progress) (first : Bool) (k : ℕ) (ts : List SourceToken) (s : State) (o : Outcome)
    → k ≤ length (leading ts)
    → run_outcome rules s (leading ts) ≡ and_then o (run_outcome rules s (drop k (leading ts)))
    → resumed rules (Live os) first ts s
    ≡ goes_on (leaves o s) (λ after. resumed rules (Live os) (only_blanks first (bytes_of (take k ts))) (drop k ts) after)
resumed_part rules os first k ts s o h e = grind (arith, within_run, resumed_run, leaves-and_then, on_leaves, flag_after)

-- The scan of a call over the tokens of a source: a directive halts it, so the tokens in front of the first one need not be cut out.

-- the role of a token that begins no directive
pub source_role_text : (t : SourceToken) → directive_of t ≡ None → source_role t ≡ token_role t
unfolding source_role
source_role_text t e = rw (e, source_role) refl

-- the role of a token that begins a directive
pub source_role_directive : (t : SourceToken) (d : Directive) → directive_of t ≡ Some d → source_role t ≡ Halt
unfolding source_role
source_role_directive t d e = rw (e, source_role) refl

-- what ends the run ends a scan as nothing more does
pub halted : {A : Type 0} (at : CallState) (fits : Bool) (t : A) (rest : Scanned A) → RefusedCall (fault_at_end at) ≡ scanned (turn at Halt fits) t rest
unfolding fault_at_end scanned turn turn_before turn_inside
halted Before fits t rest = refl
halted (Inside k) fits t rest = refl

-- the first token of a scan, by what it begins
scan_by : (size : SourceToken → ℕ) (at : CallState) (room : ℕ) (t : SourceToken) (ts : List SourceToken) (d : Option Directive) → directive_of t ≡ d
    → ((to : CallState) (left : ℕ) → scan token_role size to left (leading ts) ≡ scan source_role size to left ts)
    → scan token_role size at room (leading (t ∷ ts)) ≡ scan source_role size at room (t ∷ ts)
unfolding scan
scan_by size at room t ts None e rest = grind (arith, nat_le, leading_text, source_role_text)
scan_by size at room t ts (Some d) e rest =
    let fits = nat_le (size t) room in
    ap (scan token_role size at room) (leading_directive t ts d e)
    ∙ halted at fits t (scan source_role size (call_state_after at Halt) (room_after at room Halt (size t)) ts)
    ∙ ap (λ (q : Role). scanned (turn at q fits) t (scan source_role size (call_state_after at q) (room_after at room q (size t)) ts)) (sym (source_role_directive t d e))

-- the scan of the tokens in front of the first directive is that of all tokens, where a directive halts
pub scan_leading : (size : SourceToken → ℕ) (ts : List SourceToken) (at : CallState) (room : ℕ)
    → scan token_role size at room (leading ts) ≡ scan source_role size at room ts
unfolding scan leading
scan_leading size [] at room = refl
scan_leading size (t ∷ ts) at room = scan_by size at room t ts (directive_of t) refl (λ to left. scan_leading size ts to left)

-- a call in front of the first directive of a source is what the scan of all its tokens comes to, where a directive halts
pub call_of_source : (size : SourceToken → ℕ) (room : ℕ) (ts : List SourceToken)
    → call_of token_role size room (leading ts) ≡ call_of_scan token_role 0 (scan source_role size Before room ts)
call_of_source size room ts = ap (call_of_scan token_role 0) (scan_leading size ts Before room)

-- Laws of live text, in any open conditionals: what remains of a source where a token stands in front that begins no directive,
-- or a `define`. Nothing is lost of the state, so they hold in a nest of open sources too (`IncludedMoves`).

-- a token that writes bytes, and then what remains after it
pub resumed_writes : (rules : Rules) (os : List Progress) (first : Bool) (t : SourceToken) (ts : List SourceToken) (s : State) (x : List ℕ)
    → directive_of t ≡ None → Writes rules s t (gives x)
    → resumed rules (Live os) first (t ∷ ts) s ≡ after_bytes x (resumed rules (Live os) (only_blanks first t.bytes) ts s)
resumed_writes rules os first t ts s x e w =
    resumed_token rules os first t ts s (gives x) e w
    ∙ goes_on-gives x s (λ after. resumed rules (Live os) (only_blanks first t.bytes) ts after)

-- a token that writes a fault ends its source
pub resumed_fails : (rules : Rules) (os : List Progress) (first : Bool) (t : SourceToken) (ts : List SourceToken) (s : State) (f : Report)
    → directive_of t ≡ None → Writes rules s t (fails f)
    → resumed rules (Live os) first (t ∷ ts) s ≡ leaves (fails f) s
resumed_fails rules os first t ts s f e w =
    resumed_token rules os first t ts s (fails f) e w
    ∙ fails-goes_on f s (λ after. resumed rules (Live os) (only_blanks first t.bytes) ts after)

-- tokens that are copied give their bytes, and then what remains after them
pub resumed_copied : (rules : Rules) (os : List Progress) (first : Bool) (ts more : List SourceToken) (s : State)
    → list_all is_copied ts ≡ true
    → resumed rules (Live os) first (ts ++ more) s
    ≡ after_bytes (bytes_of ts) (resumed rules (Live os) (only_blanks first (bytes_of ts)) more s)
unfolding only_blanks
resumed_copied rules os first [] more s e = sym (after_bytes-nil (resumed rules (Live os) first more s))
resumed_copied rules os first (t ∷ ts) more s e =
    let own = (and_parts (is_copied t) (list_all is_copied ts) e).0 in
    resumed_writes rules os first t (ts ++ more) s t.bytes (copied_text t own) (copied_writes rules s t own)
    ∙ ap (λ (p : Passage). after_bytes t.bytes p)
    (resumed_copied rules os (only_blanks first t.bytes) ts more s (and_parts (is_copied t) (list_all is_copied ts) e).1)
    ∙ after_bytes-twice t.bytes (bytes_of ts) (resumed rules (Live os) (only_blanks (only_blanks first t.bytes) (bytes_of ts)) more s)
    ∙ ap (λ (f : Bool). after_bytes (t.bytes ++ bytes_of ts) (resumed rules (Live os) f more s))
    (sym (only_blanks-append first t.bytes (bytes_of ts)))

-- a usage of a name that isn't defined ends its source
pub resumed_undefined : (rules : Rules) (os : List Progress) (first : Bool) (name : List ℕ) (line : ℕ) (more : List SourceToken) (s : State)
    → is_reserved name ≡ false → macro_named s.macros name ≡ None
    → resumed rules (Live os) first (usage_token name line ∷ more) s ≡ leaves (fails (fault_at UndefinedMacro line name s)) s
unfolding Writes
resumed_undefined rules os first name line more s r e = grind (arith, resumed_fails, usage_text, run_refused, usage_none, and_then-fails)

-- a lone backquote ends its source
pub resumed_bare : (rules : Rules) (os : List Progress) (first : Bool) (bytes : List ℕ) (line : ℕ) (more : List SourceToken) (s : State)
    → resumed rules (Live os) first (record { sort = Ordinary BareBackquote; bytes = bytes; line = line } ∷ more) s
    ≡ leaves (fails (fault_at NoName line [] s)) s
unfolding directive_of
resumed_bare rules os first bytes line more s = grind (arith, resumed_fails, bare_writes)

-- a broken token gives its bytes, and then ends its source
pub resumed_broken : (rules : Rules) (os : List Progress) (first : Bool) (b : Breach) (bytes : List ℕ) (line : ℕ) (more : List SourceToken) (s : State)
    → resumed rules (Live os) first (record { sort = Broken b; bytes = bytes; line = line } ∷ more) s
    ≡ after_bytes bytes (leaves (fails (fault_at (breach_kind b) line [] s)) s)
unfolding directive_of
resumed_broken rules os first b bytes line more s =
    let f = fault_at (breach_kind b) line [] s in
    resumed_token rules os first (record { sort = Broken b; bytes = bytes; line = line }) more s
    (and_then (gives bytes) (fails f)) refl (broken_writes rules s b bytes line)
    ∙ gives_fails-goes_on bytes f s (λ after. resumed rules (Live os) (only_blanks first bytes) more after)

-- whether a token of a kind is copied doesn't hang on its bytes
copied_whole : (k : Kind) (x y : List ℕ) (line : ℕ)
    → is_copied (record { sort = Ordinary k; bytes = x; line = line }) ≡ is_copied (record { sort = Ordinary k; bytes = y; line = line })
unfolding is_copied
copied_whole k x y line = refl

-- one token that is copied, and then what remains after it
pub resumed_one_copied : (rules : Rules) (os : List Progress) (first : Bool) (t : SourceToken) (more : List SourceToken) (s : State)
    → is_copied t ≡ true
    → resumed rules (Live os) first (t ∷ more) s ≡ after_bytes t.bytes (resumed rules (Live os) (only_blanks first t.bytes) more s)
resumed_one_copied rules os first t more s e =
    resumed_writes rules os first t more s t.bytes (copied_text t e) (copied_writes rules s t e)

-- a token that is copied may be written in two parts
pub resumed_copied_parts : (rules : Rules) (os : List Progress) (first : Bool) (k : Kind) (x y : List ℕ) (line : ℕ) (more : List SourceToken) (s : State)
    → is_copied (record { sort = Ordinary k; bytes = x ++ y; line = line }) ≡ true
    → resumed rules (Live os) first (record { sort = Ordinary k; bytes = x ++ y; line = line } ∷ more) s
    ≡ after_bytes x (resumed rules (Live os) (only_blanks first x) (record { sort = Ordinary k; bytes = y; line = line } ∷ more) s)
resumed_copied_parts rules os first k x y line more s e = grind (arith, resumed_one_copied, only_blanks-append, after_bytes-twice, copied_whole)

-- a broken token may be written in two parts
pub resumed_broken_parts : (rules : Rules) (os : List Progress) (first : Bool) (b : Breach) (x y : List ℕ) (line : ℕ) (more : List SourceToken) (s : State)
    → resumed rules (Live os) first (record { sort = Broken b; bytes = x ++ y; line = line } ∷ more) s
    ≡ after_bytes x (resumed rules (Live os) (only_blanks first x) (record { sort = Broken b; bytes = y; line = line } ∷ more) s)
resumed_broken_parts rules os first b x y line more s = grind (arith, resumed_broken, after_bytes-twice)
