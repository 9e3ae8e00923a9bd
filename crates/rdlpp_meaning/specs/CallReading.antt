-- What a call in a source keeps, read token by token, where the first token may be the rest of a string or of a comment of
-- which a part was taken before.
-- A definition that names no source is this project's own.
use Rattle.std.specs.Prelude.{ℕ, Bool, true, false, nat_le, List, [], ◌∷◌, ◌++◌, length, drop}
use Rattle.rdlpp_scan.specs.declared.token.Kind.TheVariants.{Str, BlockComment}
use Rattle.rdlpp_scan.specs.Front.{Breach, DefineLong, DefineCut}
use Rattle.rdlpp_scan.specs.SourceTokens.{Sort, Ordinary, Broken, SourceToken}
use Rattle.rdlpp_meaning.specs.declared.fault.FaultKind.{FaultKind}
use Rattle.rdlpp_meaning.specs.declared.fault.FaultKind.TheVariants.{ArgumentBytes}
use Rattle.rdlpp_meaning.specs.State.{breach_kind}
use Rattle.rdlpp_meaning.specs.Actuals.{Role, Stops, Text, kind_role}
use Rattle.rdlpp_meaning.specs.CallScan.{CallState, Turn, Passes, Keeps, Closes, TurnFault, Breaks, turn, call_state_after, room_after, fault_at_end, Scanned, ScanFault, ScanBreakFault, Closed, source_role}
use Rattle.rdlpp_meaning.specs.Expansion.{bytes_of}

-- what reading a call comes to: a fault of its own, that of a broken token at its line, or the bytes that it keeps and the
-- tokens after its `)` (source: this project's profile)
pub data Reading : Type 0 where
  ReadRefused : FaultKind → Reading
  ReadStopped : FaultKind → ℕ → Reading
  ReadClosed : List ℕ → List SourceToken → Reading

-- kept bytes in front of what reading comes to
unfoldable pub onto_kept : List ℕ → Reading → Reading
onto_kept bytes (ReadRefused f) = ReadRefused f
onto_kept bytes (ReadStopped f line) = ReadStopped f line
onto_kept bytes (ReadClosed kept following) = ReadClosed (bytes ++ kept) following

-- the role of the rest of a string or of a comment
unfoldable pub rest_role : SourceToken → Role
rest_role t = elim t.sort [
  | Ordinary k ↦ kind_role k t.bytes
  | Broken b ↦ Stops (breach_kind b) t.line
  | _ ↦ Text
]

-- the role of a token, or of the rest of one of which a part was taken
unfoldable pub role_in : Bool → SourceToken → Role
role_in false t = source_role t
role_in true t = rest_role t

-- reading by what the scan does at the first token, in front of what the rest comes to
unfoldable pub read_by : Turn → SourceToken → List SourceToken → Reading → Reading
read_by Passes t ts rest = rest
read_by Keeps t ts rest = onto_kept t.bytes rest
read_by Closes t ts rest = ReadClosed [] ts
read_by (TurnFault f) t ts rest = ReadRefused f
read_by (Breaks f line) t ts rest = ReadStopped f line

-- what a call keeps of tokens of a source, from where its scan stands, with room for so many kept bytes; the flag says that
-- the first token is the rest of one (source: this project's profile)
unfoldable pub read : CallState → Bool → ℕ → List SourceToken → Reading
read at part room [] = ReadRefused (fault_at_end at)
read at part room (t ∷ ts) =
    let r = role_in part t in
    read_by (turn at r (nat_le (length t.bytes) room)) t ts
    (read (call_state_after at r) false (room_after at room r (length t.bytes)) ts)

-- a scan of tokens as reading: the bytes of what it keeps, and the tokens after what it takes
unfoldable pub reading_of : List SourceToken → Scanned SourceToken → Reading
reading_of ts (ScanFault f) = ReadRefused f
reading_of ts (ScanBreakFault f line) = ReadStopped f line
reading_of ts (Closed kept used) = ReadClosed (bytes_of kept) (drop used ts)

-- whether a breach can break a string or a comment
unfoldable pub is_part_breach : Breach → Bool
is_part_breach DefineLong = false
is_part_breach DefineCut = false
is_part_breach b = true

-- whether a token of a sort can be the rest of a string or of a comment
unfoldable pub is_part_sort : Sort → Bool
is_part_sort (Ordinary Str) = true
is_part_sort (Ordinary BlockComment) = true
is_part_sort (Broken b) = is_part_breach b
is_part_sort s = false

-- a part of a token, which fits what may be kept or not, in front of what the rest of the token comes to
unfoldable pub part_kept : Bool → List ℕ → Reading → Reading
part_kept true part rest = onto_kept part rest
part_kept false part rest = ReadRefused ArgumentBytes
