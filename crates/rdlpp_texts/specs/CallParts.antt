-- Where the `(` of a call stands in a text, the parts between its parentheses, and where it ends.
-- A definition that names no source is this project's own.
use Rattle.std.specs.Prelude.{◌≡◌, ℕ, zero, ◌+◌, ◌<◌, ◌≤◌, ◌||◌, Bool, true, false, nat_lt, List, [], ◌∷◌, map, length, drop, slice_range, Option, None, Some, if◌then◌else◌}
use Rattle.rdlpp_scan.specs.Bytes.{is_blank, is_line_end}
use Rattle.rdlpp_scan.specs.SourceTokens.{SourceToken}
use Rattle.rdlpp_meaning.specs.Actuals.{Role, Space, Dropped, KeptComment, Start, End, Cut, level_after, is_space, trimmed, token_role}
use Rattle.rdlpp_meaning.specs.CallScan.{Split, split, all_parts}
use Rattle.rdlpp_meaning.specs.Expansion.{bytes_of}
use Rattle.rdlpp_meaning.specs.Substitution.{body_tokens}
use Rattle.rdlpp_texts.specs.declared.parts.Part.{Part}
use Rattle.rdlpp_texts.specs.declared.parts.PartEnd.{PartEnd}
use Rattle.rdlpp_texts.specs.declared.parts.PartEnd.TheVariants.{Comma, Last}

-- where the `(` of a call ends, by the role of the first token: where it ends here, or what the rest tells
unfoldable pub opener_by : Role → ℕ → Option ℕ → Option ℕ
opener_by Space here rest = rest
opener_by Dropped here rest = rest
opener_by KeptComment here rest = rest
opener_by Start here rest = Some here
opener_by r here rest = None

-- where the `(` of a call ends, if one follows, in tokens that stand from a place on (source: this project's profile)
unfoldable pub opener_from : ℕ → List SourceToken → Option ℕ
opener_from at [] = None
opener_from at (t ∷ ts) = opener_by (token_role t) (at + length t.bytes) (opener_from (at + length t.bytes) ts)

-- whether a token of a role at a level of openers is the `)` of a call
unfoldable pub ends_call : Role → ℕ → Bool
ends_call End zero = true
ends_call r k = false

-- the same where a `)` may end the call; none does in what is kept of one
unfoldable pub ends_text : Bool → Role → ℕ → Bool
ends_text false r k = false
ends_text true r k = ends_call r k

-- whether a token of a role at a level of openers ends a part
unfoldable pub ends_part : Role → ℕ → Bool
ends_part Cut zero = true
ends_part r k = false

-- where white space ends, in tokens that stand from a place on
unfoldable pub space_from : ℕ → List SourceToken → ℕ
space_from at [] = at
space_from at (t ∷ ts) = if is_space (token_role t) then space_from (at + length t.bytes) ts else at

-- a byte of white space: a blank or LF (source: this project's profile)
unfoldable pub is_white : ℕ → Bool
is_white b = is_blank b || is_line_end b

-- the tokens of a call from a level of openers on: those in front of its `)`, or all where there is none; all of what is kept
-- of a call (source: this project's profile)
unfoldable pub inner_tokens : Bool → ℕ → List SourceToken → List SourceToken
inner_tokens closes level [] = []
inner_tokens closes level (t ∷ ts) =
    if ends_text closes (token_role t) level then [] else t ∷ inner_tokens closes (level_after (token_role t) level) ts

-- the parts of a call in a text after its `(`
abbrev pub parts_in : Bool → List ℕ → Split SourceToken
parts_in closes text = split token_role 0 (inner_tokens closes 0 (body_tokens text))

-- its actuals: the parts without the white space at both ends (source: this project's profile)
unfoldable pub actuals_in : Bool → List ℕ → List (List SourceToken)
actuals_in closes text = map (trimmed token_role) (all_parts (parts_in closes text))

-- how many bytes stand in front of its `)`, or in all where there is none
unfoldable pub inner_size : Bool → List ℕ → ℕ
inner_size closes text = length (bytes_of (inner_tokens closes 0 (body_tokens text)))

-- the part that begins at a place, in tokens that stand from a place and at a level of openers on, where what isn't white space
-- ended at `end` before them (source: this project's profile)
unfoldable pub part_from : Bool → ℕ → ℕ → ℕ → ℕ → List SourceToken → Part
part_from closes start at level end [] = record { from = start; to = end; end = Last at }
part_from closes start at level end (t ∷ ts) =
    if ends_text closes (token_role t) level then record { from = start; to = end; end = Last at }
    else (if ends_part (token_role t) level then record { from = start; to = end; end = Comma (at + length t.bytes) }
    else part_from closes start (at + length t.bytes) (level_after (token_role t) level)
    (if is_space (token_role t) then end else at + length t.bytes) ts)

-- after a comma, at which a part ends, the call goes on with its further parts
pub record GoesOn (closes : Bool) (text : List ℕ) (to next : ℕ) (further : List (List SourceToken)) : Type 0 where
  pub after : to < next
  pub inside : next ≤ length text
  pub size : inner_size closes text ≡ next + inner_size closes (drop next text)
  pub parts : further ≡ all_parts (parts_in closes (drop next text))

-- a part is the last, and the call ends at a place
pub record EndsAt (closes : Bool) (text : List ℕ) (to end : ℕ) (further : List (List SourceToken)) : Type 0 where
  pub after : to ≤ end
  pub inside : end ≤ length text
  pub size : inner_size closes text ≡ end
  pub parts : further ≡ []

-- what follows a part of a call
unfoldable pub Follows : Bool → List ℕ → ℕ → PartEnd → List (List SourceToken) → Type 0
Follows closes text to (Comma next) further = GoesOn closes text to next further
Follows closes text to (Last end) further = EndsAt closes text to end further

-- the next part of a call, in the text after its `(` or after a comma of it: the tokens of its range are those of the first part
-- of the definition, trimmed, it has items where its range isn't empty, and the further parts follow (source: this project's profile)
pub record IsNextPart (closes : Bool) (text : List ℕ) (part : Part) : Type 0 where
  pub ordered : part.from ≤ part.to
  pub inside : part.to ≤ length text
  pub actual : body_tokens (slice_range text part.from part.to) ≡ trimmed token_role (parts_in closes text).first
  pub items : nat_lt part.from part.to ≡ nat_lt 0 (length (trimmed token_role (parts_in closes text).first))
  pub follows : Follows closes text part.to part.end (parts_in closes text).further
