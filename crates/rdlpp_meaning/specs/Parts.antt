-- The parts of a file: runs of text, directives, and conditionals matched by balance alone.
-- A definition that names no source is this project's own.
use Rattle.std.specs.Prelude.{ℕ, zero, suc, Bool, true, ◌&&◌, ◌||◌, List, [], ◌∷◌, ◌++◌, filter, drop, Option, None, Some, if◌then◌else◌}
use Rattle.std.specs.List.{list_any}
use Rattle.rdlpp_scan.specs.declared.token.Kind.TheVariants.{Name, Back, Blank, Str}
use Rattle.rdlpp_scan.specs.declared.token.Directive.{Directive}
use Rattle.rdlpp_scan.specs.declared.token.Directive.TheVariants.{Define, Undef, Ifdef, Ifndef, Elsif, Else, Endif, Include, Line}
use Rattle.rdlpp_scan.specs.Bytes.{is_blank, is_line_end}
use Rattle.rdlpp_scan.specs.Reserved.{directive_among, directive_word}
use Rattle.rdlpp_scan.specs.SourceTokens.{Ordinary, Definition, Renumbering, Broken, SourceToken}

-- a directive of a source: which it is, the name or string that it is given, if that stands there, its whole text, its
-- physical line, and whether only blanks stand before it on that line (source: IEEE 1364-2001, compiler directives)
pub record Command : Type 0 where
  pub word : Directive
  pub given : Option (List ℕ)
  pub text : List ℕ
  pub line : ℕ
  pub first : Bool

-- a piece of a file: a run of text, a directive by itself, or one that opens, branches or closes a conditional (source: this project's profile)
pub data Piece : Type 0 where
  Run : List SourceToken → Piece
  Single : Command → Piece
  Opening : Command → Piece
  Branching : Command → Piece
  Closing : Command → Piece

-- whether only blanks stand on the line after bytes, where they did or didn't before them (source: this project's profile)
unfoldable pub only_blanks : Bool → List ℕ → Bool
only_blanks first [] = first
only_blanks first (b ∷ bs) = only_blanks (is_line_end b || is_blank b && first) bs

-- the LF bytes of bytes
unfoldable pub line_ends_of : List ℕ → List ℕ
line_ends_of bytes = filter is_line_end bytes

-- the directives that have no token of their own
abbrev pub tokenless : List Directive
tokenless = Undef ∷ Ifdef ∷ Ifndef ∷ Elsif ∷ Else ∷ Endif ∷ Include ∷ []

-- the one of them whose word these bytes are, if they are one's (source: IEEE 1364-2001, compiler directives)
unfoldable pub tokenless_worded : List ℕ → Option Directive
tokenless_worded bytes = directive_among directive_word tokenless bytes

-- the directive that a token of a source begins, if it begins one (source: IEEE 1364-2001, compiler directives)
unfoldable pub directive_of : SourceToken → Option Directive
directive_of t = elim t.sort [
  | Ordinary k ↦ elim k [ Back ↦ tokenless_worded t.bytes | _ ↦ None ]
  | Definition ↦ Some Define
  | Renumbering ↦ Some Line
  | Broken b ↦ None
]

-- what stands after the word of a directive: the name or string that it wants, the bytes that it takes, and how many tokens
pub record Argument : Type 0 where
  pub given : Option (List ℕ)
  pub text : List ℕ
  pub used : ℕ

-- nothing after the word of a directive
unfoldable pub no_argument : Argument
no_argument = record { given = None; text = []; used = 0 }

-- a token that a directive takes
unfoldable pub one_argument : SourceToken → Argument
one_argument t = record { given = Some t.bytes; text = t.bytes; used = 1 }

-- blanks in front of what a directive is given, where it is given something
unfoldable pub after_blanks : SourceToken → Argument → Argument
after_blanks t a = elim a.given [
  | None ↦ no_argument
  | Some bytes ↦ record { given = a.given; text = t.bytes ++ a.text; used = suc a.used }
]

-- the first token, where it is a name
unfoldable pub name_in_front : List SourceToken → Argument
name_in_front [] = no_argument
name_in_front (t ∷ ts) = elim t.sort [
  | Ordinary k ↦ elim k [ Name ↦ one_argument t | _ ↦ no_argument ]
  | _ ↦ no_argument
]

-- the first token, where it is a string without an LF
unfoldable pub string_in_front : List SourceToken → Argument
string_in_front [] = no_argument
string_in_front (t ∷ ts) = elim t.sort [
  | Ordinary k ↦ elim k [
    | Str ↦ if list_any is_line_end t.bytes then no_argument else one_argument t
    | _ ↦ no_argument
  ]
  | _ ↦ no_argument
]

-- what stands in front of tokens, or after blanks there
unfoldable pub past_blanks : (List SourceToken → Argument) → List SourceToken → Argument
past_blanks in_front [] = no_argument
past_blanks in_front (t ∷ ts) = elim t.sort [
  | Ordinary k ↦ elim k [ Blank ↦ after_blanks t (in_front ts) | _ ↦ in_front (t ∷ ts) ]
  | _ ↦ no_argument
]

-- what a directive takes of the tokens after its word (source: IEEE 1364-2001, compiler directives)
unfoldable pub argument_of : Directive → List SourceToken → Argument
argument_of Undef ts = past_blanks name_in_front ts
argument_of Ifdef ts = past_blanks name_in_front ts
argument_of Ifndef ts = past_blanks name_in_front ts
argument_of Elsif ts = past_blanks name_in_front ts
argument_of Include ts = past_blanks string_in_front ts
argument_of d ts = no_argument

-- a directive whose token has these things after it
unfoldable pub command_of : Directive → Bool → SourceToken → Argument → Command
command_of d first t a =
    record { word = d; given = a.given; text = t.bytes ++ a.text; line = t.line; first = first }

-- the directive that stands in front of tokens
abbrev pub command_in_front : Directive → Bool → SourceToken → List SourceToken → Command
command_in_front d first t ts = command_of d first t (argument_of d ts)

-- the tokens after the directive that stands in front of them
abbrev pub after_directive : Directive → List SourceToken → List SourceToken
after_directive d ts = drop (argument_of d ts).used ts

-- a directive as a piece (source: IEEE 1364-2001, compiler directives)
unfoldable pub piece_of : Command → Piece
piece_of c = elim c.word [
  | Ifdef ↦ Opening c
  | Ifndef ↦ Opening c
  | Elsif ↦ Branching c
  | Else ↦ Branching c
  | Endif ↦ Closing c
  | _ ↦ Single c
]

-- a token in front of pieces
unfoldable pub joined : SourceToken → List Piece → List Piece
joined t [] = Run (t ∷ []) ∷ []
joined t (Run ts ∷ ps) = Run (t ∷ ts) ∷ ps
joined t (p ∷ ps) = Run (t ∷ []) ∷ p ∷ ps

-- the pieces of tokens, after so many are passed over; `first` says whether only blanks stand before them on their line
-- (source: this project's profile)
unfoldable pub pieces : Bool → ℕ → List SourceToken → List Piece
pieces first skip [] = []
pieces first (suc skip) (t ∷ ts) = pieces (only_blanks first t.bytes) skip ts
pieces first zero (t ∷ ts) = elim (directive_of t) [
  | None ↦ joined t (pieces (only_blanks first t.bytes) 0 ts)
  | Some d ↦ piece_of (command_of d first t (argument_of d ts))
      ∷ pieces (only_blanks first t.bytes) (argument_of d ts).used ts
]

-- parts, a part, and the further branches of a conditional with how it ends (source: this project's profile)
mutual
  pub data Parts : Type 0 where
    Nothing : Parts
    More : Part → Parts → Parts

  -- a part: a run of text, a directive by itself, a branch or an end that nothing here opened, or a conditional
  pub data Part : Type 0 where
    Text : List SourceToken → Part
    Alone : Command → Part
    Stray : Command → Part
    Conditional : Command → Parts → Branches → Part

  -- the further branches of a conditional, and whether it is closed
  pub data Branches : Type 0 where
    Unclosed : Branches
    Closed : Command → Branches
    Branch : Command → Parts → Branches → Branches

-- parts up to the first branch or end that no conditional among them takes, that directive, and what is after it
pub data Level : Type 0 where
  Last : Parts → Level
  Upto : Parts → Command → Level → Level
  Ended : Parts → Command → Level → Level

-- a part in front of a level
unfoldable pub in_front : Part → Level → Level
in_front p (Last ps) = Last (More p ps)
in_front p (Upto ps c l) = Upto (More p ps) c l
in_front p (Ended ps c l) = Ended (More p ps) c l

-- the parts at the front of a level
unfoldable pub front_parts : Level → Parts
front_parts (Last ps) = ps
front_parts (Upto ps c l) = ps
front_parts (Ended ps c l) = ps

-- the further branches that a level gives to a conditional that opens before it
unfoldable pub further_branches : Level → Branches
further_branches (Last ps) = Unclosed
further_branches (Upto ps c l) = Branch c (front_parts l) (further_branches l)
further_branches (Ended ps c l) = Closed c

-- what a level has after the end of a conditional that opens before it
unfoldable pub after_end : Level → Level
after_end (Last ps) = Last Nothing
after_end (Upto ps c l) = after_end l
after_end (Ended ps c l) = l

-- a conditional that opens before a level
unfoldable pub opened_before : Command → Level → Level
opened_before c l = in_front (Conditional c (front_parts l) (further_branches l)) (after_end l)

-- the level of pieces (source: this project's profile)
unfoldable pub level_of : List Piece → Level
level_of [] = Last Nothing
level_of (Run ts ∷ ps) = in_front (Text ts) (level_of ps)
level_of (Single c ∷ ps) = in_front (Alone c) (level_of ps)
level_of (Opening c ∷ ps) = opened_before c (level_of ps)
level_of (Branching c ∷ ps) = Upto Nothing c (level_of ps)
level_of (Closing c ∷ ps) = Ended Nothing c (level_of ps)

-- parts and then parts
unfoldable pub appended : Parts → Parts → Parts
appended Nothing qs = qs
appended (More p ps) qs = More p (appended ps qs)

-- the parts of a level of which no conditional takes the branches and ends
unfoldable pub level_parts : Level → Parts
level_parts (Last ps) = ps
level_parts (Upto ps c l) = appended ps (More (Stray c) (level_parts l))
level_parts (Ended ps c l) = appended ps (More (Stray c) (level_parts l))

-- the parts of a file (source: this project's profile)
unfoldable pub parts_of : List SourceToken → Parts
parts_of tokens = level_parts (level_of (pieces true 0 tokens))
