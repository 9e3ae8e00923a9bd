-- The text of a body or of a default: what is left of it without its `//` comments and what stands after it, or what is wrong
-- with it.
-- A definition that names no source is this project's own.
use Rattle.std.specs.Prelude.{◌≡◌, ℕ, ◌+◌, ◌-◌, Bool, true, false, ◌||◌, ◌&&◌, ◌==◌, List, [], ◌∷◌, ◌++◌, length, take, drop, slice_index, Option, Some, None, Result, Ok, Err, if◌then◌else◌}
use Rattle.std.specs.List.{prefix_len}
use Rattle.std.specs.Option.{option_map}
use Rattle.rdlpp_scan.specs.declared.token.Kind.{Kind}
use Rattle.rdlpp_scan.specs.declared.token.Kind.TheVariants.{Opener, Closer, Comma}
use Rattle.rdlpp_scan.specs.declared.token.Mode.{Mode}
use Rattle.rdlpp_scan.specs.declared.token.Mode.TheVariants.{Plain}
use Rattle.rdlpp_scan.specs.declared.token.Token.{Token}
use Rattle.rdlpp_scan.specs.declared.token.LexFault.{LexFault}
use Rattle.rdlpp_scan.specs.declared.token.LexFault.TheVariants.{Perl}
use Rattle.rdlpp_scan.specs.Bytes.{is_blank, is_line_end}
use Rattle.rdlpp_scan.specs.Tokens.{tokens_from}
use Rattle.rdlpp_scan.specs.LexFaults.{is_perl, open_fault}
use Rattle.rdlpp_scan.specs.LineTokens.{kept_of}

-- white space of a header: a blank or an LF (this project's profile)
unfoldable pub is_space : ℕ → Bool
is_space b = is_blank b || is_line_end b

-- a byte in front of a text that doesn't end in bytes of a class
unfoldable pub onto_trimmed : (ℕ → Bool) → ℕ → List ℕ → List ℕ
onto_trimmed class b [] = if class b then [] else b ∷ []
onto_trimmed class b (c ∷ cs) = b ∷ c ∷ cs

-- a text without the bytes of a class at its end
unfoldable pub without_end : (ℕ → Bool) → List ℕ → List ℕ
without_end class [] = []
without_end class (b ∷ bs) = onto_trimmed class b (without_end class bs)

-- a text without the bytes of a class at both ends
unfoldable pub trimmed_of : (ℕ → Bool) → List ℕ → List ℕ
trimmed_of class bytes = without_end class (drop (prefix_len class bytes) bytes)

-- whether a token ends a default text at level 0: a `,` or a `)`; b is its first byte (this project's profile)
unfoldable pub ends_default : Kind → ℕ → Bool
ends_default Comma b = true
ends_default Closer b = b == 41
ends_default _ b = false

-- the level after a token: `(`, `[` and `{` raise it, `)`, `]` and `}` lower it where it isn't 0 (this project's profile)
unfoldable pub level_after : Kind → ℕ → ℕ
level_after Opener level = level + 1
level_after Closer level = level - 1
level_after _ level = level

-- a text without its `//` comments and what stands after it, or its first fault
pub data Cleared : Type 0 where
  Sound : List ℕ → List ℕ → Cleared
  Unsound : LexFault → Cleared

-- bytes in front of what is left of a text
unfoldable pub onto : List ℕ → Cleared → Cleared
onto front (Sound rest following) = Sound (front ++ rest) following
onto front (Unsound fault) = Unsound fault

-- a fault, or else a text
abbrev pub told : Option LexFault → List ℕ → Cleared
told fault text = elim fault [ Some f ↦ Unsound f | None ↦ Sound text [] ]

-- whether a text ends at a token: a default text does at level 0, a body, which has no level, nowhere
abbrev pub stops_token : Option ℕ → Kind → ℕ → Bool
stops_token None k b = false
stops_token (Some n) k b = n == 0 && ends_default k b

-- the level after a token
abbrev pub level_by : Option ℕ → Kind → Option ℕ
level_by l k = option_map (λ n. level_after k n) l

-- the bytes of a token that are kept
abbrev pub kept_bytes : Token → List ℕ → List ℕ
kept_bytes t text = kept_of t.kind (take t.len text)

-- what is left of a text by its tokens, from a mode on, and from a level on where it is a default text
abbrev pub read_by : Option ℕ → Mode → List Token → List ℕ → Cleared
read_by l mode [] text = told (open_fault mode) []
read_by l mode (t ∷ ts) text =
    if is_perl t.kind then Unsound Perl
    else (if stops_token l t.kind (slice_index text 0) then Sound [] text
    else onto (kept_bytes t text) (read_by (level_by l t.kind) t.next_mode ts (drop t.len text)))

-- what is left of a text that begins in a mode
unfoldable pub left_in : Option ℕ → Mode → List ℕ → Cleared
left_in l mode text = read_by l mode (tokens_from mode 0 text) text

-- what is left of a text without its `//` comments, from a level on where it is a default text
unfoldable pub cleared : Option ℕ → List ℕ → Cleared
cleared l text = left_in l Plain text

-- the level at which a text begins: none for a body
unfoldable pub start_level : Bool → Option ℕ
start_level true = Some 0
start_level false = None

-- the bytes that go at both ends of a text: blanks, and of a default text LF too
unfoldable pub trims : Bool → ℕ → Bool
trims true b = is_space b
trims false b = is_blank b

-- what is left without the bytes of a class at both ends
unfoldable pub trimmed_left : (ℕ → Bool) → Cleared → List ℕ
trimmed_left class (Sound rest following) = trimmed_of class rest
trimmed_left class (Unsound fault) = []

-- its length, or the fault
unfoldable pub trimmed_len : (ℕ → Bool) → Cleared → Result ℕ LexFault
trimmed_len class (Sound rest following) = Ok (length (trimmed_of class rest))
trimmed_len class (Unsound fault) = Err fault

-- what stands after what is left
unfoldable pub text_after : Cleared → List ℕ
text_after (Sound rest following) = following
text_after (Unsound fault) = []

-- the next byte of what is left, and what is left after it
unfoldable pub IsNext : Cleared → Result (Option ℕ) LexFault → Cleared → Type 0
IsNext old (Ok (Some b)) new = old ≡ onto (b ∷ []) new
IsNext old (Ok None) new = (old ≡ Sound [] (text_after new)) × (new ≡ old)
IsNext old (Err fault) new = old ≡ Unsound fault

-- what is left of a text after the bytes of a class with which it begins
unfoldable pub begun : (ℕ → Bool) → Cleared → Cleared
begun class (Sound rest following) = Sound (drop (prefix_len class rest) rest) following
begun class (Unsound fault) = Unsound fault

-- how long a text is without the bytes of a class at its end, where so many bytes stand before it, of which so many end without one
unfoldable pub len_from : (ℕ → Bool) → ℕ → ℕ → List ℕ → ℕ
len_from class count end [] = end
len_from class count end (b ∷ bs) = len_from class (count + 1) (if class b then end else count + 1) bs

-- the same of what is left, or its fault
unfoldable pub ended_len : (ℕ → Bool) → ℕ → ℕ → Cleared → Result ℕ LexFault
ended_len class count end (Sound rest following) = Ok (len_from class count end rest)
ended_len class count end (Unsound fault) = Err fault

-- the bytes that are left, none where there is a fault
unfoldable pub bytes_left : Cleared → List ℕ
bytes_left (Sound rest following) = rest
bytes_left (Unsound fault) = []

-- whether there is no fault
unfoldable pub is_sound : Cleared → Bool
is_sound (Sound rest following) = true
is_sound (Unsound fault) = false

-- what is left from a byte on that was found
unfoldable pub found_left : Option ℕ → Cleared → Cleared
found_left (Some b) following = onto (b ∷ []) following
found_left None following = Sound [] (text_after following)
