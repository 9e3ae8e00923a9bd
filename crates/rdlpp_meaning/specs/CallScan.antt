-- A call after the name of its macro: its scan from the left, a thing at a turn, and the parts of what the scan keeps.
-- A definition that names no source is this project's own.
use Rattle.std.specs.Prelude.{◌≡◌, ℕ, zero, suc, ◌+◌, ◌-◌, Bool, true, false, nat_le, List, [], ◌∷◌, ◌++◌, length, filter, All, None, Some}
use Rattle.rdlpp_scan.specs.SourceTokens.{SourceToken}
use Rattle.rdlpp_meaning.specs.declared.fault.FaultKind.{FaultKind}
use Rattle.rdlpp_meaning.specs.declared.fault.FaultKind.TheVariants.{ArgumentsMissing, ArgumentsOpen, ArgumentBytes}
use Rattle.rdlpp_meaning.specs.Actuals.{Role, Space, Dropped, KeptComment, Start, End, Cut, Halt, Ends, Stops, Call, CallFault, CallBreakFault, Bound, level_after, kept_size, token_role}
use Rattle.rdlpp_meaning.specs.Parts.{directive_of}

-- where the scan of a call stands: before its `(`, or after it at a level of openers (source: this project's profile)
pub data CallState : Type 0 where
  Before : CallState
  Inside : ℕ → CallState

-- what the scan does at a thing: it passes it, keeps it, ends at it, or ends with a fault, its own or that of a broken token
-- at its line (source: this project's profile)
pub data Turn : Type 0 where
  Passes Keeps Closes : Turn
  TurnFault : FaultKind → Turn
  Breaks : FaultKind → ℕ → Turn

-- what the scan does before the `(` at a thing of a role (source: this project's profile)
unfoldable pub turn_before : Role → Turn
turn_before Space = Passes
turn_before Dropped = Passes
turn_before KeptComment = Passes
turn_before Start = Passes
turn_before (Stops f line) = Breaks f line
turn_before r = TurnFault ArgumentsMissing

-- what the scan does with a thing that is text of a call, which fits what may be kept or not (source: this project's profile)
unfoldable pub turn_fitting : Bool → Turn → Turn
turn_fitting true t = t
turn_fitting false t = TurnFault ArgumentBytes

-- what the scan does after the `(`, at a level of openers, at a thing of a role that fits what may be kept or not (source:
-- this project's profile)
unfoldable pub turn_inside : Role → ℕ → Bool → Turn
turn_inside End zero fits = Closes
turn_inside Dropped k fits = Passes
turn_inside Halt k fits = TurnFault ArgumentsOpen
turn_inside (Ends f line) k fits = turn_fitting fits (Breaks f line)
turn_inside (Stops f line) k fits = turn_fitting fits (Breaks f line)
turn_inside r k fits = turn_fitting fits Keeps

-- what the scan does at a thing of a role that fits what may be kept or not
unfoldable pub turn : CallState → Role → Bool → Turn
turn Before r fits = turn_before r
turn (Inside k) r fits = turn_inside r k fits

-- where the scan stands after a thing before the `(`
unfoldable pub call_state_after_lead : Role → CallState
call_state_after_lead Start = Inside 0
call_state_after_lead r = Before

-- where the scan stands after a thing
unfoldable pub call_state_after : CallState → Role → CallState
call_state_after Before r = call_state_after_lead r
call_state_after (Inside k) r = Inside (level_after r k)

-- how many bytes may be kept after a thing of a role and a size
unfoldable pub room_after : CallState → ℕ → Role → ℕ → ℕ
room_after Before room r n = room
room_after (Inside k) room r n = room - kept_size r n

-- the fault where nothing follows
unfoldable pub fault_at_end : CallState → FaultKind
fault_at_end Before = ArgumentsMissing
fault_at_end (Inside k) = ArgumentsOpen

-- what a scan comes to: a fault of its own, that of a broken token at its line, or the things between the parentheses that
-- it kept, and how many things it took in all (source: this project's profile)
pub data Scanned (A : Type 0) : Type 0 where
  ScanFault : FaultKind → Scanned A
  ScanBreakFault : FaultKind → ℕ → Scanned A
  Closed : List A → ℕ → Scanned A

-- a scan with things in front that it keeps, of one more that it took
unfoldable pub scan_onto : {A : Type 0} → List A → Scanned A → Scanned A
scan_onto front (ScanFault f) = ScanFault f
scan_onto front (ScanBreakFault f line) = ScanBreakFault f line
scan_onto front (Closed kept used) = Closed (front ++ kept) (suc used)

-- a scan by what it does at the first thing, in front of the scan of the rest
unfoldable pub scanned : {A : Type 0} → Turn → A → Scanned A → Scanned A
scanned Passes x rest = scan_onto [] rest
scanned Keeps x rest = scan_onto (x ∷ []) rest
scanned Closes x rest = Closed [] 1
scanned (TurnFault f) x rest = ScanFault f
scanned (Breaks f line) x rest = ScanBreakFault f line

-- the scan of a call from the left, from where it stands, with room for so many kept bytes (source: this project's profile)
unfoldable pub scan : {A : Type 0} → (A → Role) → (A → ℕ) → CallState → ℕ → List A → Scanned A
scan role size at room [] = ScanFault (fault_at_end at)
scan role size at room (x ∷ xs) =
    scanned (turn at (role x) (nat_le (size x) room)) x
    (scan role size (call_state_after at (role x)) (room_after at room (role x) (size x)) xs)

-- the parts of things: the first, and the further ones (source: this project's profile)
pub record Split (A : Type 0) : Type 0 where
  pub first : List A
  pub further : List (List A)

-- a thing of a role at a level of openers in front of parts: a comma outside further openers cuts (source: this project's
-- profile)
unfoldable pub split_by : {A : Type 0} → Role → ℕ → A → Split A → Split A
split_by Cut zero x s = record { first = []; further = s.first ∷ s.further }
split_by r k x s = record { first = x ∷ s.first; further = s.further }

-- the parts of things from a level of openers on (source: this project's profile)
unfoldable pub split : {A : Type 0} → (A → Role) → ℕ → List A → Split A
split role k [] = record { first = []; further = [] }
split role k (x ∷ xs) = split_by (role x) k x (split role (level_after (role x) k) xs)

-- the parts as one list
unfoldable pub all_parts : {A : Type 0} → Split A → List (List A)
all_parts s = s.first ∷ s.further

-- a call by its scan: what the scan kept, from a level of openers on, in parts (source: this project's profile)
unfoldable pub call_of_scan : {A : Type 0} → (A → Role) → ℕ → Scanned A → Call A
call_of_scan role k (ScanFault f) = CallFault f
call_of_scan role k (ScanBreakFault f line) = CallBreakFault f line
call_of_scan role k (Closed kept used) = Bound (split role k kept).first (split role k kept).further used

-- a call after the name of its macro, with room for so many kept bytes (source: this project's profile)
abbrev pub call_of : {A : Type 0} → (A → Role) → (A → ℕ) → ℕ → List A → Call A
call_of role size room xs = call_of_scan role 0 (scan role size Before room xs)

-- the role of a token of a source: a directive ends the run, as a broken `define` does (source: this project's profile)
unfoldable pub source_role : SourceToken → Role
source_role t = elim (directive_of t) [ None ↦ token_role t | Some d ↦ Halt ]

-- whether a thing of a role isn't dropped
unfoldable pub is_kept : Role → Bool
is_kept Dropped = false
is_kept r = true

-- whether a thing of a role may stand between the parentheses of a call: it neither halts the scan nor is broken
unfoldable pub is_call_text : Role → Bool
is_call_text Halt = false
is_call_text (Ends f line) = false
is_call_text (Stops f line) = false
is_call_text r = true

-- the level of openers after things
unfoldable pub level_of_things : {A : Type 0} → (A → Role) → ℕ → List A → ℕ
level_of_things role k [] = k
level_of_things role k (x ∷ xs) = level_of_things role (level_after (role x) k) xs

-- how a scan that closes lies in its things: so many pass, the `(`, what stands between the parentheses, the `)`, and the rest
pub record IsClosed {A : Type 0} (role : A → Role) (xs kept : List A) (used : ℕ) : Type 0 where
  pub lead : List A
  pub opener : A
  pub inner : List A
  pub closer : A
  pub following : List A
  pub whole : xs ≡ lead ++ opener ∷ (inner ++ closer ∷ following)
  pub opens : role opener ≡ Start
  pub closes : role closer ≡ End
  pub level : level_of_things role 0 inner ≡ 0
  pub leads : All (λ x. is_call_text (role x) ≡ true) lead
  pub text : All (λ x. is_call_text (role x) ≡ true) inner
  pub keeps : kept ≡ filter (λ x. is_kept (role x)) inner
  pub takes : used ≡ length lead + (length inner + 2)
