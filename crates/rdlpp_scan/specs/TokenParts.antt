-- The parts of the first token of a text, each by itself: its kind, where it stops, and where the text stands after it.
-- A definition that names no source is this project's own.
use Rattle.std.specs.Prelude.{ℕ, suc, ◌+◌, not, false, ◌&&◌, ◌==◌, nat_lt, List, length, drop, slice_index, if◌then◌else◌}
use Rattle.std.specs.List.{prefix_len}
use Rattle.rdlpp_scan.specs.declared.token.Kind.{Kind}
use Rattle.rdlpp_scan.specs.declared.token.Kind.TheVariants.{Name, Word, Back, Blank, LineEnd, Str, LineComment, BlockComment, Opener, Closer, Comma, Other, Perl, BareBackquote}
use Rattle.rdlpp_scan.specs.declared.token.Mode.{Mode}
use Rattle.rdlpp_scan.specs.declared.token.Mode.TheVariants.{Plain, InStr, InBlock}
use Rattle.rdlpp_scan.specs.Bytes.{is_blank, is_line_end, is_letter, is_digit, is_word, is_opener, is_closer, takes_word, begins_perl, ends_block_comment}
use Rattle.rdlpp_scan.specs.Tokens.{first_place, string_stop}

-- the kind of a token of plain text that begins with a byte that stands in no run, and the byte after it (this project's profile)
unfoldable pub mark_kind : ℕ → ℕ → Kind
mark_kind b c =
    if b == 44 then Comma
    else (if is_opener b then Opener
    else (if is_closer b then Closer
    else (if is_line_end b then LineEnd
    else (if b == 96 && is_letter c then Back
    else (if b == 96 then BareBackquote
    else (if b == 34 then Str
    else (if b == 47 && c == 47 then LineComment
    else (if b == 47 && c == 42 then BlockComment
    else (if b == 60 && c == 37 then Perl
    else (if takes_word b && is_word c then Word
    else Other))))))))))

-- the kind of a token of plain text, by its first byte and the byte after it (this project's profile)
unfoldable pub plain_kind : ℕ → ℕ → Kind
plain_kind b c =
    if is_letter b then Name
    else (if is_blank b then Blank
    else (if is_digit b then Word
    else mark_kind b c))

-- the kind of the first token of a text that isn't empty (this project's profile)
unfoldable pub kind_of : Mode → List ℕ → Kind
kind_of Plain bytes = plain_kind (slice_index bytes 0) (slice_index bytes 1)
kind_of InStr bytes = if begins_perl bytes then Perl else Str
kind_of InBlock bytes = BlockComment

-- how many bytes open a string or a block comment, so many in plain text and none where it opened before
unfoldable pub opened : Mode → ℕ → ℕ
opened Plain n = n
opened _ n = 0

-- where the first token of a kind stops, without the bytes that close it (this project's profile)
unfoldable pub stop_of : Mode → Kind → List ℕ → ℕ
stop_of mode kind bytes = elim kind [
  | Name ↦ prefix_len is_word bytes
  | Word ↦ if is_digit (slice_index bytes 0) then prefix_len is_word bytes else suc (prefix_len is_word (drop 1 bytes))
  | Back ↦ suc (prefix_len is_word (drop 1 bytes))
  | Blank ↦ prefix_len is_blank bytes
  | LineComment ↦ prefix_len (λ x. not (is_line_end x)) bytes
  | Str ↦ opened mode 1 + string_stop false (drop (opened mode 1) bytes)
  | BlockComment ↦ opened mode 2 + first_place ends_block_comment (drop (opened mode 2) bytes)
  | Perl ↦ 2
  | _ ↦ 1
]

-- where a text stands after its first token, of which it is known where it stops
unfoldable pub mode_after : Kind → ℕ → List ℕ → Mode
mode_after kind stop bytes = elim kind [
  | Str ↦ if slice_index bytes stop == 34 then Plain else InStr
  | BlockComment ↦ if nat_lt stop (length bytes) then Plain else InBlock
  | _ ↦ Plain
]

-- how long a token of a kind is, of which it is known where it stops and where the text stands after it: what closes it is part of it
unfoldable pub len_of : Kind → Mode → ℕ → ℕ
len_of kind Plain stop = elim kind [
  | Str ↦ suc stop
  | BlockComment ↦ stop + 2
  | _ ↦ stop
]
len_of kind _ stop = stop
