-- The tokens of a source: those of its front, with lines, `define` and `line` whole, and at most one broken token at the end.
-- A definition that names no source is this project's own.
use Rattle.std.specs.Prelude.{ℕ, zero, suc, ◌+◌, ◌-◌, Bool, not, ◌&&◌, ◌||◌, ◌==◌, nat_lt, List, [], ◌∷◌, ◌++◌, length, take, bytes_eq, count_by, Option, None, Some, if◌then◌else◌}
use Rattle.std.specs.Option.{option_map}
use Rattle.rdlpp_scan.specs.declared.token.Directive.TheVariants.{Define, Line}
use Rattle.rdlpp_scan.specs.declared.token.Kind.{Kind}
use Rattle.rdlpp_scan.specs.declared.token.Kind.TheVariants.{Str, Back, BlockComment, Perl}
use Rattle.rdlpp_scan.specs.declared.token.Mode.{Mode}
use Rattle.rdlpp_scan.specs.declared.token.Mode.TheVariants.{Plain, InStr, InBlock}
use Rattle.rdlpp_scan.specs.declared.token.Token.{Token}
use Rattle.rdlpp_scan.specs.Bytes.{is_line_end}
use Rattle.rdlpp_scan.specs.Front.{Breach, PerlFound, StringOpen, CommentOpen, DefineLong, DefineCut, Break, front}
use Rattle.rdlpp_scan.specs.Reserved.{directive_word}
use Rattle.rdlpp_scan.specs.Tokens.{token_of}

-- what a token of a source is: one of the token table, a `define` with its logical line, a `line` with its line,
-- or a broken token, which ends the list (this project's profile)
pub data Sort : Type 0 where
  Ordinary : Kind → Sort
  Definition : Sort
  Renumbering : Sort
  Broken : Breach → Sort

-- a token of a source: what it is, its bytes, and the physical line on which it begins, or for a broken one that of its fault
pub record SourceToken : Type 0 where
  pub sort : Sort
  pub bytes : List ℕ
  pub line : ℕ

-- what the tokens of a text depend on beside it: the most bytes of a logical line, and the line that breaks the source after
-- this text, if one does
pub record Course : Type 0 where
  pub most : ℕ
  pub break : Option Break

-- one token of a source: the last, or one with more after it
pub data Step : Type 0 where
  Last : SourceToken → Step
  Next : SourceToken → Step

-- how many LF bytes
unfoldable pub line_ends : List ℕ → ℕ
line_ends bytes = count_by is_line_end bytes

-- the line after a byte
unfoldable pub line_after : ℕ → ℕ → ℕ
line_after b line = if is_line_end b then suc line else line

-- a token that ends the list
unfoldable pub broken : Breach → List ℕ → ℕ → Step
broken breach bytes line = Last (record { sort = Broken breach; bytes = bytes; line = line })

-- whether the LF after these two bytes is a continuation: `\`, or `\` and CR (IEEE 1364-2001, `define`)
unfoldable pub is_continued : ℕ → ℕ → Bool
is_continued x y = y == 92 || x == 92 && y == 13

-- how long a logical line is, up to and with the first LF that is no continuation; x and y are the two bytes before
-- (IEEE 1364-2001, `define`)
unfoldable pub logical_len : ℕ → ℕ → List ℕ → Option ℕ
logical_len x y [] = None
logical_len x y (b ∷ bs) =
    if is_line_end b && not (is_continued x y) then Some 1 else option_map suc (logical_len y b bs)

-- how long a physical line is, with its LF where it has one
unfoldable pub line_len : List ℕ → ℕ
line_len [] = 0
line_len (b ∷ bs) = if is_line_end b then 1 else suc (line_len bs)

-- a string or a block comment that isn't closed in the front: the fault is the break's, or its own at the line where it opened
unfoldable pub open_end : Course → Breach → ℕ → ℕ → List ℕ → Step
open_end c breach opened line bytes = elim c.break [
  | None ↦ broken breach bytes opened
  | Some k ↦ broken k.breach bytes (line + line_ends bytes)
]

-- a string, or the rest of one: closed, cut by `<%`, or open at the end
unfoldable pub string_step : Course → ℕ → ℕ → Token → List ℕ → Step
string_step c opened line t bytes = let own = take t.len bytes in elim t.next_mode [
  | Plain ↦ Next (record { sort = Ordinary t.kind; bytes = own; line = line })
  | _ ↦ if nat_lt t.len (length bytes) then broken PerlFound own (line + line_ends own)
      else open_end c StringOpen opened line own
]

-- a block comment, or the rest of one: closed, or open at the end
unfoldable pub comment_step : Course → ℕ → ℕ → Token → List ℕ → Step
comment_step c opened line t bytes = let own = take t.len bytes in elim t.next_mode [
  | Plain ↦ Next (record { sort = Ordinary t.kind; bytes = own; line = line })
  | _ ↦ open_end c CommentOpen opened line own
]

-- a `define` with its logical line; broken where that is too long, or where the breaking line lies inside
unfoldable pub define_step : Course → ℕ → List ℕ → Step
define_step c line bytes = elim (logical_len 0 0 bytes) [
  | Some n ↦ if nat_lt c.most n then broken DefineLong [] line
      else Next (record { sort = Definition; bytes = take n bytes; line = line })
  | None ↦ elim c.break [
    | None ↦ if nat_lt c.most (length bytes) then broken DefineLong [] line
        else Next (record { sort = Definition; bytes = bytes; line = line })
    | Some k ↦ if nat_lt c.most (length bytes + k.len) then broken DefineLong [] line
        else broken DefineCut [] line
  ]
]

-- a `line` with its physical line
unfoldable pub line_step : ℕ → List ℕ → Step
line_step line bytes =
    Next (record { sort = Renumbering; bytes = take (line_len bytes) bytes; line = line })

-- a backquote with a name: a `define` or a `line` with what it takes, or a token like any other
unfoldable pub back_step : Course → ℕ → Token → List ℕ → Step
back_step c line t bytes =
    let own = take t.len bytes in
    if bytes_eq own (directive_word Define) then define_step c line bytes
    else (if bytes_eq own (directive_word Line) then line_step line bytes
    else Next (record { sort = Ordinary t.kind; bytes = own; line = line }))

-- a token by its kind
unfoldable pub step_by : Course → ℕ → ℕ → Token → List ℕ → Step
step_by c opened line t bytes = elim t.kind [
  | Perl ↦ broken PerlFound [] line
  | Str ↦ string_step c opened line t bytes
  | BlockComment ↦ comment_step c opened line t bytes
  | Back ↦ back_step c line t bytes
  | _ ↦ Next (record { sort = Ordinary t.kind; bytes = take t.len bytes; line = line })
]

-- the first token of a source's text that isn't empty; in a string or a comment that opened before, `opened` is the line of its beginning
unfoldable pub source_step : Course → Mode → ℕ → ℕ → List ℕ → Step
source_step c Plain opened line bytes = step_by c line line (token_of Plain bytes) bytes
source_step c InStr opened line bytes = step_by c opened line (token_of InStr bytes) bytes
source_step c InBlock opened line bytes = step_by c opened line (token_of InBlock bytes) bytes

-- what stands at the end of the front: nothing, the break, or an open string or comment
unfoldable pub source_end : Course → Mode → ℕ → ℕ → List SourceToken
source_end c Plain opened line = elim c.break [
  | None ↦ []
  | Some k ↦ record { sort = Broken k.breach; bytes = []; line = line } ∷ []
]
source_end c InStr opened line = elim (open_end c StringOpen opened line []) [ Last t ↦ t ∷ [] | Next t ↦ [] ]
source_end c InBlock opened line = elim (open_end c CommentOpen opened line []) [ Last t ↦ t ∷ [] | Next t ↦ [] ]

-- the tokens of a source's text from a mode and a line on, after so many bytes are passed over (this project's profile)
unfoldable pub source_tokens : Course → Mode → ℕ → ℕ → ℕ → List ℕ → List SourceToken
source_tokens c mode opened line skip [] = source_end c mode opened line
source_tokens c mode opened line (suc skip) (b ∷ bs) = source_tokens c mode opened (line_after b line) skip bs
source_tokens c mode opened line zero (b ∷ bs) = elim (source_step c mode opened line (b ∷ bs)) [
  | Last t ↦ t ∷ []
  | Next t ↦ t ∷ source_tokens c Plain line (line_after b line) (length t.bytes - 1) bs
]

-- the tokens of what remains of a source: in `held`, of lines that its limits accept, and then in the front of `rest`,
-- of which lines may have `most` bytes each and `room` bytes together
unfoldable pub remaining_tokens : ℕ → Mode → ℕ → ℕ → List ℕ → ℕ → List ℕ → List SourceToken
remaining_tokens most mode opened line held room rest =
    let f = front most room rest in
    source_tokens (record { most = most; break = f.break }) mode opened line 0 (held ++ f.text)

-- the tokens of a whole source (this project's profile)
unfoldable pub whole_tokens : ℕ → ℕ → List ℕ → List SourceToken
whole_tokens most room bytes = remaining_tokens most Plain 1 1 [] room bytes
