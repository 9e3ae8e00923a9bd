-- The meaning of what remains of a file, from any place in it.
-- A definition that names no source is this project's own.
use Rattle.std.specs.Prelude.{ℕ, zero, suc, Bool, true, false, List, [], ◌∷◌, None, Some}
use Rattle.rdlpp_scan.specs.declared.token.Directive.{Directive}
use Rattle.rdlpp_scan.specs.SourceTokens.{SourceToken}
use Rattle.rdlpp_meaning.specs.declared.fault.FaultKind.TheVariants.{StrayBranch}
use Rattle.rdlpp_meaning.specs.Outcome.{Outcome, gives}
use Rattle.rdlpp_meaning.specs.State.{Rules, State}
use Rattle.rdlpp_meaning.specs.Expansion.{run_outcome}
use Rattle.rdlpp_meaning.specs.Parts.{Piece, Run, Single, Opening, Branching, Closing, only_blanks, directive_of, command_in_front, after_directive, pieces}
use Rattle.rdlpp_meaning.specs.Meaning.{Passage, leaves, outcome, goes_on, refusal, IncludedMeaning, skipped_run, skipped_command, single, Progress, by_test, opening, in_conditional, past_conditional, begun, turn, turned, unclosed, included_meaning_of}

-- where a file stands among its conditionals: in live text in these open ones, innermost first, or in skipped text, with so
-- many that opened there, in the open one that skips it, and in those around it (source: this project's profile)
pub data Place : Type 0 where
  Live : List Progress → Place
  Skipped : ℕ → Progress → List Progress → Place

-- what remains of a file, as pieces, from a place and a state (source: this project's profile)
unfoldable pub resume : Rules → IncludedMeaning → Place → List Piece → State → Passage
resume rules included_meaning (Live []) [] s = leaves (gives []) s
resume rules included_meaning (Live (o ∷ os)) [] s = unclosed o s
resume rules included_meaning (Live os) (Run ts ∷ ps) s =
    goes_on (leaves (run_outcome rules s ts) s) (λ after. resume rules included_meaning (Live os) ps after)
resume rules included_meaning (Live os) (Single c ∷ ps) s =
    goes_on (single rules included_meaning c s) (λ after. resume rules included_meaning (Live os) ps after)
resume rules included_meaning (Live os) (Opening c ∷ ps) s = by_test (opening c s) c s
    (λ t. resume rules included_meaning (Live (begun c t true ∷ os)) ps (in_conditional t))
    (λ t. resume rules included_meaning (Skipped 0 (begun c t false) os) ps (in_conditional t))
resume rules included_meaning (Live []) (Branching c ∷ ps) s = refusal StrayBranch [] c s
resume rules included_meaning (Live (o ∷ os)) (Branching c ∷ ps) s = by_test (turn o c s) c s
    (λ t. resume rules included_meaning (Live (turned o c true ∷ os)) ps t)
    (λ t. resume rules included_meaning (Skipped 0 (turned o c false) os) ps t)
resume rules included_meaning (Live []) (Closing c ∷ ps) s = refusal StrayBranch [] c s
resume rules included_meaning (Live (o ∷ os)) (Closing c ∷ ps) s = resume rules included_meaning (Live os) ps (past_conditional s)
resume rules included_meaning (Skipped n o os) [] s = unclosed o s
resume rules included_meaning (Skipped n o os) (Run ts ∷ ps) s =
    goes_on (leaves (skipped_run s ts) s) (λ after. resume rules included_meaning (Skipped n o os) ps after)
resume rules included_meaning (Skipped n o os) (Single c ∷ ps) s =
    goes_on (leaves (skipped_command c) s) (λ after. resume rules included_meaning (Skipped n o os) ps after)
resume rules included_meaning (Skipped n o os) (Opening c ∷ ps) s =
    goes_on (leaves (skipped_command c) s) (λ after. resume rules included_meaning (Skipped (suc n) o os) ps after)
resume rules included_meaning (Skipped (suc n) o os) (Branching c ∷ ps) s =
    goes_on (leaves (skipped_command c) s) (λ after. resume rules included_meaning (Skipped (suc n) o os) ps after)
resume rules included_meaning (Skipped zero o os) (Branching c ∷ ps) s = by_test (turn o c s) c s
    (λ t. resume rules included_meaning (Live (turned o c true ∷ os)) ps t)
    (λ t. resume rules included_meaning (Skipped 0 (turned o c false) os) ps t)
resume rules included_meaning (Skipped (suc n) o os) (Closing c ∷ ps) s =
    goes_on (leaves (skipped_command c) s) (λ after. resume rules included_meaning (Skipped n o os) ps after)
resume rules included_meaning (Skipped zero o os) (Closing c ∷ ps) s = resume rules included_meaning (Live os) ps (past_conditional s)

-- what remains of a file, as tokens, from a place and a state; `first` says whether only blanks stand before it on its
-- line (source: this project's profile)
unfoldable pub resumed : Rules → Place → Bool → List SourceToken → State → Passage
resumed rules place first tokens s =
    resume rules (included_meaning_of rules s.sources_left) place (pieces first 0 tokens) s

-- the bytes and the fault that remain of a file, as tokens, from a place and a state (source: this project's profile)
unfoldable pub remains : Rules → Place → Bool → List SourceToken → State → Outcome
remains rules place first tokens s = outcome (resumed rules place first tokens s)

-- the tokens in front of the first directive: a run (source: this project's profile)
unfoldable pub leading : List SourceToken → List SourceToken
leading [] = []
leading (t ∷ ts) = elim (directive_of t) [ None ↦ t ∷ leading ts | Some d ↦ [] ]

-- the tokens from the first directive on
unfoldable pub trailing : List SourceToken → List SourceToken
trailing [] = []
trailing (t ∷ ts) = elim (directive_of t) [ None ↦ trailing ts | Some d ↦ t ∷ ts ]

-- what remains after the directive that stands in front
abbrev pub following : Rules → Place → Directive → Bool → SourceToken → List SourceToken → State → Passage
following rules place d first t ts s =
    resumed rules place (only_blanks first (command_in_front d first t ts).text) (after_directive d ts) s

-- the LF bytes of a skipped directive, and then what remains
abbrev pub skips : Rules → Place → Directive → Bool → SourceToken → List SourceToken → State → Passage
skips rules place d first t ts s =
    goes_on (leaves (skipped_command (command_in_front d first t ts)) s) (λ after. following rules place d first t ts after)
