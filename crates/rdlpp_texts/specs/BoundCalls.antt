-- The actuals of a call as ranges of the text in which the call stands.
-- A definition that names no source is this project's own.
use Rattle.rdlpp_meaning.specs.Expansion.{Usage, UsageFault, Opens, bound_parts, is_count, usage_of_formals}
use Rattle.std.specs.Prelude.{◌≡◌, ℕ, ◌+◌, ◌++◌, ◌<◌, ◌≤◌, Bool, true, false, List, Vec, map, length, drop, slice_range, vec_len, vec_capacity, All, Some, Result, Ok, Err}
use Rattle.std.specs.List.{AllByRecursion}
use Rattle.rdlpp_scan.specs.declared.token.Mode.TheVariants.{Plain}
use Rattle.rdlpp_scan.specs.SourceTokens.{SourceToken}
use Rattle.rdlpp_define.specs.Macros.{Formal, Macro}
use Rattle.rdlpp_meaning.specs.declared.fault.FaultKind.{FaultKind}
use Rattle.rdlpp_meaning.specs.declared.fault.FaultKind.TheVariants.{ArgumentsMissing, ArgumentsOpen, ArgumentCount}
use Rattle.rdlpp_meaning.specs.State.{Rules}
use Rattle.rdlpp_meaning.specs.Actuals.{trimmed, token_role, text_reads}
use Rattle.rdlpp_meaning.specs.CallScan.{split, all_parts, is_kept}
use Rattle.rdlpp_meaning.specs.Opens.{Part, part_tokens}
use Rattle.rdlpp_meaning.specs.Substitution.{body_tokens}
use Rattle.rdlpp_texts.specs.CallParts.{actuals_in, inner_size}
use Rattle.rdlpp_texts.specs.declared.bindings.Bound.{Bound}
use Rattle.rdlpp_texts.specs.declared.bindings.Bound.TheVariants.{To, Open, Miscounted}
use Rattle.rdlpp_texts.specs.declared.bindings.Range.{Range}

-- a range of a text as a part of it, which is read as plain text from its beginning on
abbrev pub range_part : Range → Part
range_part r = record { from = r.from; end = r.to; mode = Plain }

-- the tokens of ranges of a text
abbrev pub ranges_tokens : List ℕ → List Range → List (List SourceToken)
ranges_tokens text ranges = map (part_tokens text) (map range_part ranges)

-- the ranges that stand after those that were there before
abbrev pub added : List Range → List Range → List Range
added old new = drop (length old) new

-- ranges between two places
abbrev pub AreWithin : ℕ → ℕ → List Range → Type 0
AreWithin from to ranges = AllByRecursion (λ r. (from ≤ r.from) × ((r.from ≤ r.to) × (r.to ≤ to))) ranges

-- binding appends ranges that stand between two places of their text, at most so many, and asks for no memory
pub record Binds {A : Type 0} (from to most : ℕ) (old new : Vec Range A) : Type 0 where
  pub whole : new.items ≡ old.items ++ added old.items new.items
  pub within : AreWithin from to (added old.items new.items)
  pub len : vec_len new ≤ vec_len old + most
  pub capacity : vec_capacity new ≡ vec_capacity old

-- the actuals of a call by the text between its parentheses (source: this project's profile)
unfoldable pub actuals_of : List ℕ → List (List SourceToken)
actuals_of text = map (trimmed token_role) (all_parts (split token_role 0 (body_tokens text)))

-- the parts of a call of a macro with so many formals, in a text from a place on, are bound to ranges, up to where the call ends
pub record IsBoundTo (closes : Bool) (text : List ℕ) (from formals : ℕ) (ranges : List Range) (to : ℕ) : Type 0 where
  pub end : to ≡ from + inner_size closes (drop from text)
  pub closed : closes ≡ true → to < length text
  pub within : AreWithin from to ranges
  pub actuals : (fs : List Formal) → length fs ≡ formals → bound_parts fs (actuals_in closes (drop from text)) ≡ ranges_tokens text ranges
  pub count : (fs : List Formal) → length fs ≡ formals → true ≡ is_count fs (actuals_in closes (drop from text))

-- they are more or fewer than the formals, and none is bound
pub record IsMiscounted (closes : Bool) (text : List ℕ) (from formals : ℕ) (old new : List Range) : Type 0 where
  pub same : new ≡ old
  pub closed : closes ≡ true → from + inner_size closes (drop from text) < length text
  pub count : (fs : List Formal) → length fs ≡ formals → false ≡ is_count fs (actuals_in closes (drop from text))

-- no `)` closes the call, and none is bound
pub record IsOpen (closes : Bool) (text : List ℕ) (from : ℕ) (old new : List Range) : Type 0 where
  pub same : new ≡ old
  pub closes_is : closes ≡ true
  pub end : from + inner_size closes (drop from text) ≡ length text

-- what binding the parts of a call comes to, with the ranges before and then
unfoldable pub IsBound : Bool → List ℕ → ℕ → ℕ → List Range → List Range → Bound → Type 0
IsBound closes text from formals old new (To to) = IsBoundTo closes text from formals (added old new) to
IsBound closes text from formals old new Open = IsOpen closes text from old new
IsBound closes text from formals old new Miscounted = IsMiscounted closes text from formals old new

-- tokens of which a call drops none: no `//` comment is among them
abbrev pub KeepsAll : List SourceToken → Type 0
KeepsAll ts = All (λ t. is_kept (token_role t) ≡ true) ts

-- what a usage of a macro with a list of formals comes to, where its name stands in front of a part of a text
abbrev pub usage_in : Rules → ℕ → List ℕ → Macro → List Formal → List ℕ → ℕ → ℕ → Usage SourceToken
usage_in rules line name m formals text at end =
    usage_of_formals rules text_reads line name (body_tokens (slice_range text at end)) m (Some formals)

-- a call of a macro with so many formals that is bound to ranges of its text: those are its actuals, after it stands the text
-- from a place on, and no call in them or after it drops a token either
pub record IsBoundAt (text : List ℕ) (at end formals : ℕ) (ranges : List Range) (following : ℕ) : Type 0 where
  pub used : ℕ
  pub opens : (rules : Rules) (line : ℕ) (name : List ℕ) (m : Macro) (fs : List Formal) → length fs ≡ formals
      → usage_in rules line name m fs text at end ≡ Opens m (ranges_tokens text ranges) used
  pub after_is : drop used (body_tokens (slice_range text at end)) ≡ body_tokens (slice_range text following end)
  pub keeps : AllByRecursion (λ r. KeepsAll (part_tokens text (range_part r))) ranges
  pub keeps_after : KeepsAll (body_tokens (slice_range text following end))
  pub count : length ranges ≡ formals

-- what binding the call of a macro with so many formals comes to, in a part of a text: ranges and the place after it, or what
-- the usage is refused for (source: this project's profile)
unfoldable pub IsBoundCall : List ℕ → ℕ → ℕ → ℕ → List Range → Result ℕ FaultKind → Type 0
IsBoundCall text at end formals ranges (Ok following) = IsBoundAt text at end formals ranges following
IsBoundCall text at end formals ranges (Err kind) =
    (rules : Rules) (line : ℕ) (name : List ℕ) (m : Macro) (fs : List Formal) → length fs ≡ formals
    → usage_in rules line name m fs text at end ≡ UsageFault kind name line

-- whether a call is refused for a fault: for its arguments, or how many they are (source: this project's profile)
unfoldable pub is_call_fault : FaultKind → Bool
is_call_fault ArgumentsMissing = true
is_call_fault ArgumentsOpen = true
is_call_fault ArgumentCount = true
is_call_fault kind = false
