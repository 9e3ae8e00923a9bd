-- What is done with the first token of the held bytes of a source, in a call, or with the part of it that is held, or with a run of
-- plain argument bytes.
-- A definition that names no source is this project's own.
use Rattle.std.specs.Prelude.{◌≡◌, ◌≢◌, ℕ, ◌+◌, ◌-◌, ◌≤◌, ◌<◌, Bool, not, nat_le, ◌&&◌, ◌==◌, List, [], ◌++◌, length, take, drop, if◌then◌else◌}
use Rattle.rdlpp_scan.specs.Bytes.{is_closer, is_line_end, is_opener}
use Rattle.rdlpp_scan.specs.declared.token.Mode.{Mode}
use Rattle.rdlpp_scan.specs.declared.token.Mode.TheVariants.{Plain, InStr}
use Rattle.rdlpp_scan.specs.declared.token.Token.{Token}
use Rattle.rdlpp_scan.specs.Lines.{EndsLine}
use Rattle.rdlpp_scan.specs.Resumed.{opening}
use Rattle.rdlpp_scan.specs.SourceTokens.{SourceToken, line_ends, remaining_tokens}
use Rattle.rdlpp_scan.specs.Pieces.{is_open}
use Rattle.rdlpp_meaning.specs.declared.fault.FaultKind.TheVariants.{EmbeddedPerl}
use Rattle.rdlpp_meaning.specs.Actuals.{Role, kept_size}
use Rattle.rdlpp_meaning.specs.CallReading.{ReadRefused, ReadStopped, ReadClosed, onto_kept, read}
use Rattle.rdlpp_meaning.specs.CallScan as scan
use Rattle.rdlpp_meaning.specs.CallScan.{Keeps, Passes, turn, call_state_after, room_after}
use Rattle.rdlpp_meaning.specs.Expansion.{bytes_of}
use Rattle.rdlpp_usages.specs.declared.action.CallState.{CallState}
use Rattle.rdlpp_usages.specs.declared.action.CallState.TheVariants.{Before, Inside}
use Rattle.rdlpp_usages.specs.declared.action.Consumed.{Consumed}
use Rattle.rdlpp_usages.specs.declared.action.CallAction.{CallAction}
use Rattle.rdlpp_usages.specs.declared.action.CallAction.TheVariants.{Consumes, Closes, Refused, Perl}

-- where the scan of a call stands
unfoldable pub call_state_meant : CallState → scan.CallState
call_state_meant Before = scan.Before
call_state_meant (Inside level) = scan.Inside level

-- the level of further openers there
unfoldable pub level_in : scan.CallState → ℕ
level_in scan.Before = 0
level_in (scan.Inside level) = level

-- what held bytes stand in: the most bytes of a line, the line on which an open string or comment began, the
-- line of the first held byte, how many bytes the source may still have after them, and the text after them
pub record Around : Type 0 where
  pub most : ℕ
  pub opened : ℕ
  pub line : ℕ
  pub left : ℕ
  pub rest : List ℕ

-- held bytes end at a line end or with the text
pub record IsAround (held : List ℕ) (a : Around) : Type 0 where
  pub ends : EndsLine held a.rest

-- the tokens from held bytes on
abbrev pub tokens_at : Around → Mode → List ℕ → List SourceToken
tokens_at a mode held = remaining_tokens a.most mode a.opened a.line held a.left a.rest

-- the tokens after the first `len` of held bytes, where a text stands in a mode
abbrev pub tokens_after : Around → Mode → List ℕ → ℕ → Mode → List SourceToken
tokens_after a mode held len next =
    remaining_tokens a.most next (opening mode a.opened a.line) (a.line + line_ends (take len held)) (drop len held) a.left a.rest

-- how many of so many bytes are kept
abbrev pub kept_len : Bool → ℕ → ℕ
kept_len is_kept len = if is_kept then len else 0

-- bytes that are kept, or none
abbrev pub kept_of : Bool → List ℕ → List ℕ
kept_of is_kept bytes = if is_kept then bytes else []

-- what the scan of a call does at a token of a role is what is answered
pub record IsStep (at : scan.CallState) (r : Role) (room : ℕ) (t : Token) (u : Consumed) : Type 0 where
  pub len : u.len ≡ t.len
  pub mode : u.next_mode ≡ t.next_mode
  pub call_state : call_state_meant u.call_state ≡ call_state_after at r
  pub turns : turn at r (nat_le t.len room) ≡ (if u.is_kept then Keeps else Passes)
  pub left : room_after at room r t.len ≡ room - kept_len u.is_kept t.len
  pub fits : kept_len u.is_kept t.len ≤ room
  pub level : level_in (call_state_after at r) ≤ level_in at + kept_len u.is_kept t.len

-- the same of each answer
abbrev pub Answers : scan.CallState → Role → ℕ → Token → CallAction → Type 0
Answers at r room t (Consumes u) = IsStep at r room t u
Answers at r room t Closes = turn at r (nat_le t.len room) ≡ scan.Closes
Answers at r room t (Refused f) = turn at r (nat_le t.len room) ≡ scan.TurnFault f
Answers at r room t Perl = ⊥

-- held bytes are used, and kept or not, and the reading of the call goes on after them
pub record IsConsumed (at : scan.CallState) (mode : Mode) (room : ℕ) (held : List ℕ) (u : Consumed) : Type 0 where
  pub some : 0 < u.len
  pub inside : u.len ≤ length held
  pub fits : length (kept_of u.is_kept (take u.len held)) ≤ room
  pub level : level_in (call_state_meant u.call_state) ≤ level_in at + length (kept_of u.is_kept (take u.len held))
  pub lead : call_state_meant u.call_state ≡ scan.Before → u.next_mode ≢ InStr
  pub reads : (a : Around) → IsAround held a
      → read at (is_open mode) room (tokens_at a mode held)
      ≡ onto_kept (kept_of u.is_kept (take u.len held))
      (read (call_state_meant u.call_state) (is_open u.next_mode) (room - length (kept_of u.is_kept (take u.len held))) (tokens_after a mode held u.len u.next_mode))
  pub bytes : (a : Around) → IsAround held a
      → bytes_of (tokens_at a mode held) ≡ take u.len held ++ bytes_of (tokens_after a mode held u.len u.next_mode)

-- whether a byte is neither LF nor a bracket, and begins no string, no comment, no usage and no `<%`: tokens of such bytes open
-- nothing and close nothing (source: this project's profile)
unfoldable pub is_plain_argument : ℕ → Bool
is_plain_argument b =
    not (is_line_end b) && (not (is_opener b) && (not (is_closer b) && (not (b == 34) && (not (b == 47) && (not (b == 60) && not (b == 96))))))

-- the first byte closes the call
pub record IsClose (at : scan.CallState) (mode : Mode) (room : ℕ) (held : List ℕ) : Type 0 where
  pub reads : (a : Around) → IsAround held a
      → read at (is_open mode) room (tokens_at a mode held) ≡ ReadClosed [] (tokens_after a mode held 1 Plain)
  pub bytes : (a : Around) → IsAround held a
      → bytes_of (tokens_at a mode held) ≡ take 1 held ++ bytes_of (tokens_after a mode held 1 Plain)

-- what is done with the first token of held bytes is what reading the call comes to there (source: this project's profile)
abbrev pub IsAction : scan.CallState → Mode → ℕ → List ℕ → CallAction → Type 0
IsAction at mode room held (Consumes u) = IsConsumed at mode room held u
IsAction at mode room held Closes = IsClose at mode room held
IsAction at mode room held (Refused f) = (a : Around) → IsAround held a
    → read at (is_open mode) room (tokens_at a mode held) ≡ ReadRefused f
IsAction at mode room held Perl = (a : Around) → IsAround held a
    → read at (is_open mode) room (tokens_at a mode held) ≡ ReadStopped EmbeddedPerl a.line

-- whether a token of a role at a level of openers is kept where it fits: it is neither the `)` nor dropped
pub record IsKeptAt (r : Role) (k : ℕ) : Type 0 where
  pub turns : (fits : Bool) → scan.turn_inside r k fits ≡ scan.turn_fitting fits Keeps
  pub size : (n : ℕ) → kept_size r n ≡ n
