-- The law that what remains at a directive is what the directive comes to, and then what remains after it, whatever waits around its source.
use Rattle.std.proofs.Common.{◌≡◌, ℕ, zero, suc, Bool, true, false, not, ◌||◌, ◌==◌, ◌-◌, List, [], ◌∷◌, ◌++◌, length, drop, if◌then◌else◌, append-nil, arith, refl, ap, ◌∙◌, Option, None, Some}
use Rattle.std.specs.Str.{is_utf8}
use Rattle.rdlpp_scan.specs.SourceTokens.{Sort, SourceToken}
use Rattle.rdlpp_scan.specs.declared.token.Directive.{Directive}
use Rattle.rdlpp_scan.specs.declared.token.Directive.TheVariants.{Define, Else, Elsif, Endif, Ifdef, Ifndef, Include, Line, Undef}
use Rattle.rdlpp_meaning.specs.Meaning.{Checked, Fine, Holds, NameFault, Passage, Progress, Renumbered, Test, TestFault, added_end, after_bytes, at_start_of, back_in, by_test, defines, goes_on, in_conditional, included_meaning_of, includes, includes_found, includes_given, includes_named, leaves, macro_name, mean, opening, origin_line, past_conditional, refusal, renumbered, renumbers, single, skipped_command, text_meaning, turn, undefines, unquoted}
use Rattle.rdlpp_meaning.specs.Opened.{Waiting, all_resumed, unwound, waiting}
use Rattle.rdlpp_meaning.specs.Outcome.{fails, gives}
use Rattle.rdlpp_meaning.specs.Parts.{Argument, Command, Piece, after_directive, argument_of, no_argument, command_in_front, command_of, directive_of, line_ends_of, only_blanks, parts_of, piece_of, pieces}
use Rattle.rdlpp_meaning.specs.Resumed.{Live, Place, Skipped, resume, resumed}
use Rattle.rdlpp_meaning.specs.State.{Accepted, Defined, DefinitionFault, LongPath, Lookup, NoSource, Rules, Source, State, fault_at, shown_line}
use Rattle.rdlpp_meaning.specs.declared.fault.FaultKind.TheVariants.{BadLine, IncludeName, TooManyIncludes}
use Rattle.rdlpp_meaning.proofs.Directives.{after_bytes-goes_on, all_resumed_after, all_resumed_fails, directive_piece}
use Rattle.rdlpp_meaning.proofs.Outcomes.{goes_on-assoc, goes_on-gives, goes_on-same, resumed_start}
use Rattle.rdlpp_meaning.proofs.Skipping.{skips_token}
use Rattle.rdlpp_meaning.specs.Moves.{Enters, Move, Moves, Passes, Stops, branching_move, by_move, closing_move, define_move, found_move, in_branch, include_move, line_move, move_of, moves_on, nest_moves, opening_move, single_move, skipped_move, turning_move, undef_move}

-- what remains after a directive, as pieces
abbrev after_pieces : Rules → List Piece → Place → State → Passage
after_pieces rules rest place u = resume rules (included_meaning_of rules u.sources_left) place rest u

-- what remains where a construct in a single source comes to this, by what remains after it: of an entered text the source goes on after it
abbrev pub own_moves : Rules → Move → ℕ → State → (Place → State → Passage) → Passage
own_moves rules m line s next = moves_on m line s next (λ os path text.
    goes_on (resumed rules (Live []) true (rules.tokens text) (at_start_of path s))
    (λ after. after_bytes (added_end text ++ origin_line rules s.name (shown_line s.shift line)) (next (Live os) (back_in s after))))

-- a test, in either way of saying it
by_tests : (rules : Rules) (x : Test) (c : Command) (s : State) (live skipped : State → Passage) (then_ : Bool → Move) (next : Place → State → Passage)
    → live s ≡ own_moves rules (then_ true) c.line s next → skipped s ≡ own_moves rules (then_ false) c.line s next → by_test x c s live skipped ≡ own_moves rules (by_move x then_) c.line s next
unfolding by_test by_move moves_on refusal
by_tests rules (TestFault kind word) c s live skipped then_ next e f = refl
by_tests rules (Holds true) c s live skipped then_ next e f = e
by_tests rules (Holds false) c s live skipped then_ next e f = f

-- what an included text means in an `include` is what remains at its start
included_resumed : (rules : Rules) (path text : List ℕ) (s : State) (n : ℕ) → s.sources_left ≡ suc n
    → mean rules (included_meaning_of rules n) (parts_of (rules.tokens text)) (at_start_of path s)
    ≡ resumed rules (Live []) true (rules.tokens text) (at_start_of path s)
unfolding text_meaning at_start_of
included_resumed rules path text s n left =
    let e : n ≡ s.sources_left - 1 = omega arith in
    ap (λ (k : ℕ). mean rules (included_meaning_of rules k) (parts_of (rules.tokens text)) (at_start_of path s)) e
    ∙ resumed_start rules (at_start_of path s) text

-- an `include` of a source that was found, and then what goes on after it
includes_entered : (rules : Rules) (path text : List ℕ) (c : Command) (s : State) (n : ℕ) (next : State → Passage) → s.sources_left ≡ suc n
    → goes_on (includes rules (λ u x. mean rules (included_meaning_of rules n) (parts_of (rules.tokens x)) u) path text c s) next
    ≡ after_bytes (origin_line rules path 1) (goes_on (resumed rules (Live []) true (rules.tokens text) (at_start_of path s))
    (λ after. after_bytes (added_end text ++ origin_line rules s.name (shown_line s.shift c.line)) (next (back_in s after))))
unfolding includes
includes_entered rules path text c s n next left =
    grind (arith, included_resumed, after_bytes-goes_on, goes_on-assoc, goes_on-same, goes_on-gives)

-- the directives that stand by themselves, in live text
module _ (rules : Rules) (c : Command) (os : List Progress) (rest : List Piece) (s : State) where
  -- what remains after one
  abbrev goes_past : State → Passage
  goes_past u = resume rules (included_meaning_of rules s.sources_left) (Live os) rest u

  abbrev comes_to : Move → Passage
  comes_to m = own_moves rules m c.line s (after_pieces rules rest)

  defines_moves : (x : Defined) → goes_on (defines x c s) goes_past ≡ comes_to (define_move x c (Live os) s)
  unfolding defines define_move moves_on goes_on leaves gives refusal fails
  defines_moves (Accepted macros) = refl
  defines_moves (DefinitionFault kind word) = refl

  undefines_moves : (x : Checked) → goes_on (undefines x c s) goes_past ≡ comes_to (undef_move x (Live os) s)
  unfolding undefines undef_move moves_on goes_on leaves gives refusal fails
  undefines_moves (Fine name) = refl
  undefines_moves (NameFault kind word) = refl

  first_moves : (r : Renumbered) (first : Bool)
      → let t = record s { name = r.name; shift = record { from = suc c.line; number = r.number } } in
      let x = line_ends_of c.text ++ origin_line rules r.name r.number in
      goes_on (if first then leaves (gives x) t else refusal BadLine [] c s) goes_past ≡ comes_to (if first then Moves x (Live os) t else Stops BadLine [])
  unfolding moves_on goes_on leaves gives refusal fails
  first_moves r true = refl
  first_moves r false = refl

  renumbers_moves : (x : Option Renumbered) → goes_on (renumbers rules x c s) goes_past ≡ comes_to (line_move rules x c (Live os) s)
  unfolding renumbers line_move moves_on goes_on leaves gives refusal fails
  renumbers_moves None = refl
  renumbers_moves (Some r) = first_moves r c.first

  -- an `include` of a name, by whether it is one, how many more sources may be opened, and what is found
  found_moves : (bad : Bool) (n : ℕ) (found : Lookup) → s.sources_left ≡ n
      → goes_on (if bad then refusal IncludeName [] c s else elim (included_meaning_of rules n) [
        | None ↦ refusal TooManyIncludes [] c s
        | Some within ↦ includes_found rules within found c s
      ]) goes_past ≡ comes_to (if bad then Stops IncludeName [] else found_move rules n found os)
  unfolding included_meaning_of includes_found found_move moves_on goes_on leaves refusal fails back_in
  found_moves true n found left = refl
  found_moves false zero found left = refl
  found_moves false (suc n) NoSource left = refl
  found_moves false (suc n) LongPath left = refl
  found_moves false (suc n) (Source path text) left = includes_entered rules path text c s n goes_past left

  includes_moves : (given : Option (List ℕ)) → goes_on (includes_given rules (included_meaning_of rules s.sources_left) given c s) goes_past ≡ comes_to (include_move rules given os s)
  unfolding includes_given includes_named include_move moves_on goes_on leaves refusal fails
  includes_moves None = refl
  includes_moves (Some string) =
      found_moves (length (unquoted string) == 0 || not (is_utf8 (unquoted string))) s.sources_left (rules.find s.path (unquoted string)) refl

-- what remains at a directive, by its word and its place, as pieces
piece_moves : (rules : Rules) (d : Directive) (given : Option (List ℕ)) (text : List ℕ) (line : ℕ) (first : Bool) (place : Place) (rest : List Piece) (s : State)
    → let c : Command = record { word = d; given = given; text = text; line = line; first = first } in
    resume rules (included_meaning_of rules s.sources_left) place (piece_of c ∷ rest) s ≡ own_moves rules (move_of rules c place s) c.line s (after_pieces rules rest)
unfolding resume piece_of single move_of moves_on single_move refusal skipped_move skipped_command opening_move branching_move turning_move closing_move in_branch goes_on leaves gives after_bytes in_conditional past_conditional
piece_moves rules Define given text line first (Live os) rest s = defines_moves rules _ os rest s (rules.define s.macros (drop 7 text))
piece_moves rules Undef given text line first (Live os) rest s = let c : Command = record { word = Undef; given = given; text = text; line = line; first = first } in undefines_moves rules c os rest s (macro_name c)
piece_moves rules Line given text line first (Live os) rest s = renumbers_moves rules _ os rest s (renumbered (drop 5 text))
piece_moves rules Include given text line first (Live os) rest s = includes_moves rules _ os rest s given
piece_moves rules Ifdef given text line first (Live os) rest s = by_tests rules (opening _ s) _ s _ _ _ (after_pieces rules rest) refl refl
piece_moves rules Ifndef given text line first (Live os) rest s = by_tests rules (opening _ s) _ s _ _ _ (after_pieces rules rest) refl refl
piece_moves rules Elsif given text line first (Live (o ∷ os)) rest s = by_tests rules (turn o _ s) _ s _ _ _ (after_pieces rules rest) refl refl
piece_moves rules Else given text line first (Live (o ∷ os)) rest s = by_tests rules (turn o _ s) _ s _ _ _ (after_pieces rules rest) refl refl
piece_moves rules Elsif given text line first (Skipped zero o os) rest s = by_tests rules (turn o _ s) _ s _ _ _ (after_pieces rules rest) refl refl
piece_moves rules Else given text line first (Skipped zero o os) rest s = by_tests rules (turn o _ s) _ s _ _ _ (after_pieces rules rest) refl refl
piece_moves rules Endif given text line first (Live []) rest s = refl
piece_moves rules Endif given text line first (Skipped zero o os) rest s = refl
piece_moves rules d given text line first place rest s = refl

-- what a source comes to, it comes to where others wait for it
pub source_moves : (rules : Rules) (ws : List Waiting) (place : Place) (first : Bool) (ts : List SourceToken) (then_first : Bool) (us : List SourceToken) (s : State) (line : ℕ) (m : Move)
    → resumed rules place first ts s ≡ own_moves rules m line s (λ new u. resumed rules new then_first us u)
    → all_resumed rules ws place first ts s ≡ nest_moves rules ws m line s then_first us
unfolding moves_on all_resumed unwound waiting
source_moves rules ws place first ts then_first us s line (Stops kind word) e = all_resumed_fails rules ws place first ts s s (fault_at kind line word s) e
source_moves rules ws place first ts then_first us s line (Moves bytes new t) e = all_resumed_after rules ws place new first then_first ts us s t bytes e
source_moves rules ws place first ts then_first us s line (Enters bytes os path text) e =
    grind (arith, after_bytes-goes_on, goes_on-assoc, goes_on-same)

-- what remains of a source, and then of those that wait, at a directive in front of its tokens is what it comes to, and then what remains after it
pub directive_moves : (rules : Rules) (ws : List Waiting) (place : Place) (d : Directive) (first : Bool) (t : SourceToken) (ts : List SourceToken) (s : State) → directive_of t ≡ Some d
    → let c = command_in_front d first t ts in
    all_resumed rules ws place first (t ∷ ts) s ≡ nest_moves rules ws (move_of rules c place s) t.line s (only_blanks first c.text) (after_directive d ts)
unfolding command_of resumed
directive_moves rules ws place d first t ts s e =
    let c = command_in_front d first t ts in
    let rest = pieces (only_blanks first c.text) 0 (after_directive d ts) in
    source_moves rules ws place first (t ∷ ts) (only_blanks first c.text) (after_directive d ts) s t.line (move_of rules c place s)
    (directive_piece rules place d first t ts s (piece_of c) e refl ∙ piece_moves rules d c.given c.text t.line first place rest s)

-- so it is at one that has a token of its own, with all that it takes
pub whole_moves : (rules : Rules) (ws : List Waiting) (place : Place) (d : Directive) (first : Bool) (sort : Sort) (w : List ℕ) (line : ℕ) (ts : List SourceToken) (s : State)
    → directive_of (record { sort = sort; bytes = w; line = line }) ≡ Some d → argument_of d ts ≡ no_argument
    → let c : Command = record { word = d; given = None; text = w; line = line; first = first } in
    all_resumed rules ws place first (record { sort = sort; bytes = w; line = line } ∷ ts) s ≡ nest_moves rules ws (move_of rules c place s) line s (only_blanks first w) ts
unfolding command_of no_argument
whole_moves rules ws place d first sort w line ts s e none =
    let t : SourceToken = record { sort = sort; bytes = w; line = line } in
    let at : Command → List SourceToken → Passage = λ c us. nest_moves rules ws (move_of rules c place s) line s (only_blanks first c.text) us in
    directive_moves rules ws place d first t ts s e
    ∙ ap (λ (a : Argument). at (command_of d first t a) (drop a.used ts)) none
    ∙ ap (λ (x : List ℕ). at (record { word = d; given = None; text = x; line = line; first = first }) ts) (append-nil w)

-- of such a directive the word is looked at alone, since what it is given is skipped as text
pub word_moves : (rules : Rules) (ws : List Waiting) (n m : ℕ) (o : Progress) (os : List Progress) (d : Directive) (first : Bool) (t : SourceToken) (ts : List SourceToken) (s : State) → directive_of t ≡ Some d
    → Passes rules d n m o os
    → all_resumed rules ws (Skipped n o os) first (t ∷ ts) s ≡ after_bytes (line_ends_of t.bytes) (all_resumed rules ws (Skipped m o os) (only_blanks first t.bytes) ts s)
unfolding command_of resumed moves_on skipped_move skipped_command goes_on leaves gives
word_moves rules ws n m o os d first t ts s e passes =
    let c = command_in_front d first t ts in
    let rest = pieces (only_blanks first c.text) 0 (after_directive d ts) in
    all_resumed_after rules ws (Skipped n o os) (Skipped m o os) first (only_blanks first t.bytes) (t ∷ ts) ts s s (line_ends_of t.bytes)
    (directive_piece rules (Skipped n o os) d first t ts s (piece_of c) e refl
    ∙ piece_moves rules d c.given c.text t.line first (Skipped n o os) rest s
    ∙ ap (λ (m : Move). own_moves rules m t.line s (after_pieces rules rest)) (passes c.given c.text t.line first s)
    ∙ skips_token rules m o os d first t ts s)
