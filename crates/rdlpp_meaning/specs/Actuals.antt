-- The actuals of a call: the role that each thing has in a call, and what a part between its parentheses is as an actual.
-- A definition that names no source is this project's own.
use Rattle.std.specs.Prelude.{ℕ, suc, ◌-◌, Bool, true, false, ◌==◌, List, map, reverse, length, drop, slice_index, Option, None, Some, if◌then◌else◌}
use Rattle.std.specs.List.{prefix_len}
use Rattle.rdlpp_scan.specs.declared.token.Kind.{Kind}
use Rattle.rdlpp_scan.specs.declared.token.Kind.TheVariants.{Blank, LineEnd, LineComment, BlockComment, Opener, Closer, Comma}
use Rattle.rdlpp_scan.specs.Front.{Breach, DefineLong, DefineCut}
use Rattle.rdlpp_scan.specs.SourceTokens.{Ordinary, Broken, SourceToken}
use Rattle.rdlpp_meaning.specs.declared.fault.FaultKind.{FaultKind}
use Rattle.rdlpp_meaning.specs.State.{breach_kind}
use Rattle.rdlpp_meaning.specs.Items.{Item, Written, Arg, unlined, unlined_item}

-- the role of a thing in a call: white space, a comment that is dropped, one that is kept, `(`, a further opener, `)`,
-- a further closer, a comma, a broken `define`, which ends the run, a broken string and another broken token with fault and
-- line, or any other text (source: this project's profile)
pub data Role : Type 0 where
  Space Dropped KeptComment Start Up End Down Cut Halt Text : Role
  Ends Stops : FaultKind → ℕ → Role

-- what a call comes to: its own fault, that of a broken token at its line, or the first part between its parentheses,
-- the further parts, and how many things it took (source: this project's profile)
pub data Call (A : Type 0) : Type 0 where
  CallFault : FaultKind → Call A
  CallBreakFault : FaultKind → ℕ → Call A
  Bound : List A → List (List A) → ℕ → Call A

-- a call of what things become (source: this project's profile)
unfoldable pub map_call : {A B : Type 0} → (A → B) → Call A → Call B
map_call f (CallFault k) = CallFault k
map_call f (CallBreakFault k line) = CallBreakFault k line
map_call f (Bound first further used) = Bound (map f first) (map (map f) further) used

-- the level of openers after a thing (source: this project's profile)
unfoldable pub level_after : Role → ℕ → ℕ
level_after Start k = suc k
level_after Up k = suc k
level_after End k = k - 1
level_after Down k = k - 1
level_after r k = k

-- how many bytes of a thing count as kept (source: this project's profile)
unfoldable pub kept_size : Role → ℕ → ℕ
kept_size Dropped n = 0
kept_size r n = n

-- whether a role is white space
unfoldable pub is_space : Role → Bool
is_space Space = true
is_space r = false

-- things without the white space at their front
unfoldable pub after_leading_space : {A : Type 0} → (A → Role) → List A → List A
after_leading_space role xs = drop (prefix_len (λ x. is_space (role x)) xs) xs

-- things without the white space at both ends (source: this project's profile)
unfoldable pub trimmed : {A : Type 0} → (A → Role) → List A → List A
trimmed role xs = reverse (after_leading_space role (reverse (after_leading_space role xs)))

-- the role of a token of a kind (source: this project's profile)
unfoldable pub kind_role : Kind → List ℕ → Role
kind_role Blank bytes = Space
kind_role LineEnd bytes = Space
kind_role LineComment bytes = Dropped
kind_role BlockComment bytes = KeptComment
kind_role Opener bytes = if slice_index bytes 0 == 40 then Start else Up
kind_role Closer bytes = if slice_index bytes 0 == 41 then End else Down
kind_role Comma bytes = Cut
kind_role k bytes = Text

-- the role of a broken token: a broken `define` ends the run, as every directive does, and a broken string begins with a
-- quote (source: this project's profile)
unfoldable pub broken_role : Breach → List ℕ → ℕ → Role
broken_role DefineLong bytes line = Halt
broken_role DefineCut bytes line = Halt
broken_role b bytes line = if slice_index bytes 0 == 34 then Ends (breach_kind b) line else Stops (breach_kind b) line

-- the role of a token (source: this project's profile)
unfoldable pub token_role : SourceToken → Role
token_role t = elim t.sort [
  | Ordinary k ↦ kind_role k t.bytes
  | Broken b ↦ broken_role b t.bytes t.line
  | _ ↦ Text
]

-- the role of an item; marks aren't looked into, and are never blank (source: this project's profile)
unfoldable pub item_role : Item → Role
item_role (Written t) = token_role t
item_role (Arg o items) = Text

-- the bytes of an item that count as kept: in a source those of its tokens, elsewhere none (source: this project's profile)
unfoldable pub item_size : Option ℕ → Item → ℕ
item_size None (Written t) = length t.bytes
item_size None (Arg o items) = 0
item_size (Some line) x = 0

-- how many bytes of a token of a source count as kept: all
unfoldable pub kept : SourceToken → ℕ
kept t = length t.bytes

-- and of one of a body or an actual: none
unfoldable pub not_kept : SourceToken → ℕ
not_kept t = 0

-- how the things after the name of a macro are read: the role of each in a call, how many bytes of it count as kept, and each
-- without its line
pub record Reads (A : Type 0) : Type 0 where
  pub role : A → Role
  pub size : A → ℕ
  pub plain : A → A

-- items; `line_or_text` has the line of the outermost usage, and none in a source (source: this project's profile)
abbrev pub item_reads : Option ℕ → Reads Item
item_reads line_or_text = record { role = item_role; size = item_size line_or_text; plain = unlined_item }

-- tokens of a source
abbrev pub source_reads : Reads SourceToken
source_reads = record { role = token_role; size = kept; plain = unlined }

-- tokens of a body or an actual
abbrev pub text_reads : Reads SourceToken
text_reads = record { role = token_role; size = not_kept; plain = unlined }

-- an actual of a call: a part of it without lines, and without the white space at both ends (source: this project's profile)
unfoldable pub actual_of : {A : Type 0} → Reads A → List A → List A
actual_of reads part = trimmed reads.role (map reads.plain part)
