-- Laws of directives in front of what remains, and of moves in a nest of open sources.
use Rattle.std.proofs.Common.{◌≡◌, ℕ, zero, suc, Bool, true, false, List, [], ◌∷◌, ◌++◌, take, drop, refl, sym, ap, ◌∙◌, Option, None, Some, append-nil, length, not, ◌-◌, arith, append_assoc, if◌then◌else◌, slice_index, ◌==◌}
use Rattle.std.specs.List.{list_any}
use Rattle.rdlpp_scan.specs.Bytes.{is_line_end}
use Rattle.rdlpp_scan.specs.SourceTokens.{Ordinary, Renumbering, Sort, SourceToken}
use Rattle.rdlpp_scan.specs.declared.token.Directive.{Directive}
use Rattle.rdlpp_scan.specs.declared.token.Directive.TheVariants.{Else, Elsif, Ifdef, Ifndef, Include, Undef}
use Rattle.rdlpp_scan.specs.declared.token.Kind.TheVariants.{Blank, Name, Str}
use Rattle.rdlpp_meaning.specs.Expansion.{bytes_of}
use Rattle.rdlpp_meaning.specs.Meaning.{Passage, added_end, after_bytes, goes_on, leaves, included_meaning_of}
use Rattle.rdlpp_meaning.specs.Opened.{Waiting, all_resumed, unwound}
use Rattle.rdlpp_meaning.specs.Outcome.{Report, fails, gives}
use Rattle.rdlpp_meaning.specs.Parts.{Argument, Piece, argument_of, after_blanks, after_directive, command_in_front, command_of, directive_of, name_in_front, no_argument, one_argument, only_blanks, past_blanks, piece_of, pieces, string_in_front}
use Rattle.rdlpp_meaning.specs.Resumed.{Place, resume, resumed}
use Rattle.rdlpp_meaning.specs.State.{Rules, State}
use Rattle.rdlpp_meaning.proofs.Outcomes.{fails-goes_on}
use Rattle.rdlpp_meaning.proofs.LiveText.{only_blanks-append}

-- Laws of what remains of a file where a directive stands in front: for each kind of piece and each place.

-- tokens that are passed over leave what the flag of blanks is after their bytes
pub pieces_skip : (first : Bool) (k : ℕ) (ts : List SourceToken)
    → pieces first k ts ≡ pieces (only_blanks first (bytes_of (take k ts))) 0 (drop k ts)
unfolding pieces only_blanks
pieces_skip first zero ts = refl
pieces_skip first (suc k) [] = refl
pieces_skip first (suc k) (t ∷ ts) = grind (arith, only_blanks-append, (pieces_skip (only_blanks first t.bytes) k ts))

-- what holds of nothing, of a name and of a string in front, and of what blanks stand before, holds of what a directive is given
module _ (P : List SourceToken → Argument → Type 0) (none : (ts : List SourceToken) → P ts no_argument)
    (name : (bytes : List ℕ) (line : ℕ) (ts : List SourceToken)
    → let t : SourceToken = record { sort = Ordinary Name; bytes = bytes; line = line } in P (t ∷ ts) (one_argument t))
    (string : (bytes : List ℕ) (line : ℕ) (ts : List SourceToken)
    → let t : SourceToken = record { sort = Ordinary Str; bytes = bytes; line = line } in P (t ∷ ts) (one_argument t))
    (blank : (bytes : List ℕ) (line : ℕ) (ts : List SourceToken) (given text : List ℕ) (used : ℕ) → P ts (record { given = Some given; text = text; used = used })
    → P (record { sort = Ordinary Blank; bytes = bytes; line = line } ∷ ts) (record { given = Some given; text = bytes ++ text; used = suc used }))
  where
    -- a name in front, by what the first token is
    name_by : (sort : Sort) (bytes : List ℕ) (line : ℕ) (ts : List SourceToken)
        → let t : SourceToken = record { sort = sort; bytes = bytes; line = line } in P (t ∷ ts) (name_in_front (t ∷ ts))
    unfolding name_in_front
    name_by (Ordinary Name) bytes line ts = name bytes line ts
    name_by sort bytes line ts = none _

    names : (ts : List SourceToken) → P ts (name_in_front ts)
    unfolding name_in_front
    names [] = none []
    names (t ∷ ts) = name_by t.sort t.bytes t.line ts

    -- a string in front, by whether it has an LF, and by what the first token is
    string_choice : (split : Bool) (bytes : List ℕ) (line : ℕ) (ts : List SourceToken)
        → let t : SourceToken = record { sort = Ordinary Str; bytes = bytes; line = line } in P (t ∷ ts) (if split then no_argument else one_argument t)
    string_choice true bytes line ts = none _
    string_choice false bytes line ts = string bytes line ts

    string_by : (sort : Sort) (bytes : List ℕ) (line : ℕ) (ts : List SourceToken)
        → let t : SourceToken = record { sort = sort; bytes = bytes; line = line } in P (t ∷ ts) (string_in_front (t ∷ ts))
    unfolding string_in_front
    string_by (Ordinary Str) bytes line ts = string_choice (list_any is_line_end bytes) bytes line ts
    string_by sort bytes line ts = none _

    strings : (ts : List SourceToken) → P ts (string_in_front ts)
    unfolding string_in_front
    strings [] = none []
    strings (t ∷ ts) = string_by t.sort t.bytes t.line ts

    -- what stands after blanks, by what is given, and by what the first token is
    blanks : (bytes : List ℕ) (line : ℕ) (ts : List SourceToken) (given : Option (List ℕ)) (text : List ℕ) (used : ℕ) → P ts (record { given = given; text = text; used = used })
        → let t : SourceToken = record { sort = Ordinary Blank; bytes = bytes; line = line } in
        P (t ∷ ts) (after_blanks t (record { given = given; text = text; used = used }))
    unfolding after_blanks
    blanks bytes line ts None text used h = none _
    blanks bytes line ts (Some x) text used h = blank bytes line ts x text used h

    past_by : (f : List SourceToken → Argument) → ((us : List SourceToken) → P us (f us)) → (sort : Sort) (bytes : List ℕ) (line : ℕ) (ts : List SourceToken)
        → let t : SourceToken = record { sort = sort; bytes = bytes; line = line } in P (t ∷ ts) (past_blanks f (t ∷ ts))
    unfolding past_blanks
    past_by f h (Ordinary Blank) bytes line ts = let a = f ts in blanks bytes line ts a.given a.text a.used (h ts)
    past_by f h (Ordinary k) bytes line ts = h _
    past_by f h sort bytes line ts = none _

    past : (f : List SourceToken → Argument) → ((us : List SourceToken) → P us (f us)) → (ts : List SourceToken) → P ts (past_blanks f ts)
    unfolding past_blanks
    past f h [] = none []
    past f h (t ∷ ts) = past_by f h t.sort t.bytes t.line ts

    pub argument_by : (d : Directive) (ts : List SourceToken) → P ts (argument_of d ts)
    unfolding argument_of
    argument_by Undef ts = past name_in_front names ts
    argument_by Ifdef ts = past name_in_front names ts
    argument_by Ifndef ts = past name_in_front names ts
    argument_by Elsif ts = past name_in_front names ts
    argument_by Include ts = past string_in_front strings ts
    argument_by d ts = none ts

-- the argument of a directive takes the bytes of its tokens
pub argument_takes : (d : Directive) (ts : List SourceToken) → bytes_of (take (argument_of d ts).used ts) ≡ (argument_of d ts).text
unfolding no_argument one_argument
argument_takes d ts =
    argument_by (λ us a. bytes_of (take a.used us) ≡ a.text) (λ us. refl) (λ bytes line us. append-nil bytes) (λ bytes line us. append-nil bytes)
    (λ bytes line us given text used e. ap (λ (x : List ℕ). bytes ++ x) e) d ts

-- a directive in front is a piece in front of those of the tokens after it
pub pieces_directive : (d : Directive) (first : Bool) (t : SourceToken) (ts : List SourceToken) → directive_of t ≡ Some d
    → pieces first 0 (t ∷ ts)
    ≡ piece_of (command_in_front d first t ts)
    ∷ pieces (only_blanks first (command_in_front d first t ts).text) 0 (after_directive d ts)
unfolding pieces command_of
pieces_directive d first t ts e = grind (arith, pieces_skip, only_blanks-append, argument_takes)

-- what remains where a directive stands in front that is a piece
pub directive_piece : (rules : Rules) (place : Place) (d : Directive) (first : Bool) (t : SourceToken) (ts : List SourceToken) (s : State) (p : Piece)
    → directive_of t ≡ Some d → piece_of (command_in_front d first t ts) ≡ p
    → resumed rules place first (t ∷ ts) s
    ≡ resume rules (included_meaning_of rules s.sources_left) place (p ∷ pieces (only_blanks first (command_in_front d first t ts).text) 0 (after_directive d ts)) s
unfolding resumed
directive_piece rules place d first t ts s p e is = grind (arith, pieces_directive)

-- What a directive takes where blanks and a name stand after its word.

-- whether a directive wants the name of a macro
unfoldable pub wants_name : Directive → Bool
wants_name Undef = true
wants_name Ifdef = true
wants_name Ifndef = true
wants_name Elsif = true
wants_name d = false

-- such a directive takes what stands after blanks
pub takes_name : (d : Directive) (ts : List SourceToken) → wants_name d ≡ true → argument_of d ts ≡ past_blanks name_in_front ts
unfolding wants_name argument_of
takes_name Undef ts e = refl
takes_name Ifdef ts e = refl
takes_name Ifndef ts e = refl
takes_name Elsif ts e = refl
takes_name d ts e = cc

-- a name as a token
abbrev pub name_token : List ℕ → ℕ → SourceToken
name_token name line = record { sort = Ordinary Name; bytes = name; line = line }

-- blanks as a token
abbrev pub blank_token : List ℕ → ℕ → SourceToken
blank_token blanks line = record { sort = Ordinary Blank; bytes = blanks; line = line }

-- where a name stands at once
pub takes_name_at_once : (d : Directive) (name : List ℕ) (l : ℕ) (ts : List SourceToken) → wants_name d ≡ true
    → argument_of d (name_token name l ∷ ts) ≡ record { given = Some name; text = name; used = 1 }
unfolding past_blanks name_in_front one_argument
takes_name_at_once d name l ts e = takes_name d (name_token name l ∷ ts) e

-- where blanks and a name stand
pub takes_name_after_blanks : (d : Directive) (blanks name : List ℕ) (k l : ℕ) (ts : List SourceToken) → wants_name d ≡ true
    → argument_of d (blank_token blanks k ∷ name_token name l ∷ ts) ≡ record { given = Some name; text = blanks ++ name; used = 2 }
unfolding past_blanks name_in_front one_argument after_blanks
takes_name_after_blanks d blanks name k l ts e = takes_name d (blank_token blanks k ∷ name_token name l ∷ ts) e

-- What an `include` takes after its word: a string that is closed on its line, after blanks or at once.

-- a string as a token
abbrev pub string_token : List ℕ → ℕ → SourceToken
string_token string line = record { sort = Ordinary Str; bytes = string; line = line }

-- a string without an LF is what stands in front
string_here : (string : List ℕ) (l : ℕ) (ts : List SourceToken) → list_any is_line_end string ≡ false
    → string_in_front (string_token string l ∷ ts) ≡ record { given = Some string; text = string; used = 1 }
unfolding string_in_front one_argument
string_here string l ts e = rw e refl

-- where a string stands at once
pub takes_string_at_once : (string : List ℕ) (l : ℕ) (ts : List SourceToken) → list_any is_line_end string ≡ false
    → argument_of Include (string_token string l ∷ ts) ≡ record { given = Some string; text = string; used = 1 }
unfolding argument_of past_blanks
takes_string_at_once string l ts e = string_here string l ts e

-- where blanks and a string stand
pub takes_string_after_blanks : (blanks string : List ℕ) (k l : ℕ) (ts : List SourceToken) → list_any is_line_end string ≡ false
    → argument_of Include (blank_token blanks k ∷ string_token string l ∷ ts) ≡ record { given = Some string; text = blanks ++ string; used = 2 }
unfolding argument_of past_blanks after_blanks
takes_string_after_blanks blanks string k l ts e =
    ap (λ (a : Argument). after_blanks (blank_token blanks k) a) (string_here string l ts e)

-- a `line` with its line, as a token
abbrev pub line_token : List ℕ → ℕ → SourceToken
line_token bytes line = record { sort = Renumbering; bytes = bytes; line = line }

-- Laws of a nest of open sources: each step of the innermost is a step of the nest.

-- bytes in front of a passage stay there where more goes on after it, by its fault
front_by : (x y : List ℕ) (f : Option Report) (s : State) (next : State → Passage)
    → goes_on (after_bytes x (record { bytes = y; fault = f; after = s })) next
    ≡ after_bytes x (goes_on (record { bytes = y; fault = f; after = s }) next)
unfolding goes_on after_bytes
front_by x y (Some f) s next = refl
front_by x y None s next =
    ap (λ (z : List ℕ). record { bytes = z; fault = (next s).fault; after = (next s).after }) (append_assoc x y (next s).bytes)

-- bytes in front of a passage stay there where more goes on after it
pub after_bytes-goes_on : (x : List ℕ) (p : Passage) (next : State → Passage)
    → goes_on (after_bytes x p) next ≡ after_bytes x (goes_on p next)
after_bytes-goes_on x p next = front_by x p.bytes p.fault p.after next

-- nothing after a passage changes nothing, by its fault
nothing_by : (x : List ℕ) (f : Option Report) (s : State)
    → goes_on (record { bytes = x; fault = f; after = s }) (λ after. leaves (gives []) after) ≡ record { bytes = x; fault = f; after = s }
unfolding goes_on after_bytes leaves gives
nothing_by x (Some f) s = refl
nothing_by x None s = ap (λ (z : List ℕ). record { bytes = z; fault = None; after = s }) (append-nil x)

-- of a single source, all that remains is what remains of it
pub all_resumed_alone : (rules : Rules) (place : Place) (first : Bool) (ts : List SourceToken) (s : State)
    → all_resumed rules [] place first ts s ≡ resumed rules place first ts s
unfolding all_resumed unwound
all_resumed_alone rules place first ts s =
    let p = resumed rules place first ts s in nothing_by p.bytes p.fault p.after

-- Moves in a nest of open sources: what the innermost one writes or changes, where any others wait for it.

-- what the innermost source writes first, the nest writes first
pub all_resumed_after : (rules : Rules) (ws : List Waiting) (place new : Place) (first then_first : Bool) (ts us : List SourceToken) (s t : State) (x : List ℕ)
    → resumed rules place first ts s ≡ after_bytes x (resumed rules new then_first us t)
    → all_resumed rules ws place first ts s ≡ after_bytes x (all_resumed rules ws new then_first us t)
unfolding all_resumed
all_resumed_after rules ws place new first then_first ts us s t x e = grind (arith, after_bytes-goes_on)

-- a fault of the innermost source ends the nest
pub all_resumed_fails : (rules : Rules) (ws : List Waiting) (place : Place) (first : Bool) (ts : List SourceToken) (s t : State) (f : Report)
    → resumed rules place first ts s ≡ leaves (fails f) t
    → all_resumed rules ws place first ts s ≡ leaves (fails f) t
unfolding all_resumed
all_resumed_fails rules ws place first ts s t f e = grind (arith, fails-goes_on)

-- Conditionals in a nest of open sources: what the words `ifdef`, `ifndef`, `elsif`, `else` and `endif` do in live text and in
-- skipped text that they end, and the end of a source in an open conditional, where any sources wait.

-- whether a directive opens a conditional
unfoldable pub opens_conditional : Directive → Bool
opens_conditional Ifdef = true
opens_conditional Ifndef = true
opens_conditional d = false

-- whether a directive is a branch of one
unfoldable pub branches_conditional : Directive → Bool
branches_conditional Elsif = true
branches_conditional Else = true
branches_conditional d = false

-- The LF that an included text is followed by, as a reader tells it that takes the text in parts: by whether a byte came at all and
-- whether the last one was an LF.

-- whether a text stands in mid-line after bytes, where it did or didn't before them
unfoldable pub in_line : Bool → List ℕ → Bool
in_line torn [] = torn
in_line torn (b ∷ bs) = in_line (not (is_line_end b)) bs

-- an LF where a text ends in mid-line
unfoldable pub line_end_if : Bool → List ℕ
line_end_if torn = if torn then 10 ∷ [] else []

-- the last byte of a text that isn't empty tells it
in_line-index : (torn : Bool) (b : ℕ) (bs : List ℕ) → in_line torn (b ∷ bs) ≡ not (slice_index (b ∷ bs) (length bs) == 10)
unfolding in_line is_line_end
in_line-index torn b [] = refl
in_line-index torn b (c ∷ bs) = in_line-index (not (is_line_end b)) c bs

-- a choice by a test is the other choice by its opposite
other_choice : (t : Bool) → (if t then [] else 10 ∷ []) ≡ line_end_if (not t)
unfolding line_end_if
other_choice true = refl
other_choice false = refl

-- an LF follows an included text exactly where it ends in mid-line
pub added_end-in_line : (text : List ℕ) → added_end text ≡ line_end_if (in_line false text)
unfolding added_end in_line line_end_if
added_end-in_line [] = refl
added_end-in_line (b ∷ bs) =
    let n : suc (length bs) - 1 ≡ length bs = omega arith in
    ap (λ (k : ℕ). if slice_index (b ∷ bs) k == 10 then [] else 10 ∷ []) n
    ∙ other_choice (slice_index (b ∷ bs) (length bs) == 10)
    ∙ ap line_end_if (sym (in_line-index false b bs))
