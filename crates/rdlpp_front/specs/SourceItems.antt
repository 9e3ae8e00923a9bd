-- What the held bytes of a source begin with.
-- A definition that names no source is this project's own.
use Rattle.std.specs.Prelude.{◌≡◌, ℕ, ◌+◌, ◌-◌, ◌<◌, Bool, true, false, List, [], length, take, drop, Option, None, Some, if◌then◌else◌}
use Rattle.rdlpp_scan.specs.Reserved.{directive_word, is_reserved}
use Rattle.rdlpp_scan.specs.declared.token.Mode.{Mode}
use Rattle.rdlpp_scan.specs.declared.token.Mode.TheVariants.{Plain}
use Rattle.rdlpp_scan.specs.declared.token.Kind.{Kind}
use Rattle.rdlpp_scan.specs.declared.token.Kind.TheVariants.{Back, BareBackquote, BlockComment, LineComment, Name, Perl, Str}
use Rattle.rdlpp_scan.specs.declared.token.Directive.{Directive}
use Rattle.rdlpp_scan.specs.declared.token.Directive.TheVariants as directive
use Rattle.rdlpp_scan.specs.Tokens.{token_of, plain_len}
use Rattle.rdlpp_meaning.specs.declared.fault.FaultKind.{FaultKind}
use Rattle.rdlpp_meaning.specs.declared.fault.FaultKind.TheVariants as fault
use Rattle.rdlpp_meaning.specs.Meaning.{Checked, NameFault, Fine, unquoted}
use Rattle.rdlpp_front.specs.Arguments.{AfterBlanks, IsClosedString, IsLead, LeadingPart, NothingAfterBlanks}
use Rattle.rdlpp_front.specs.declared.arguments.Argument.{Argument}
use Rattle.rdlpp_front.specs.declared.item.SourceItem.{SourceItem}
use Rattle.rdlpp_front.specs.declared.item.SourceItem.TheVariants.{Text, Usage, Define, Undef, Ifdef, Ifndef, Elsif, Else, Endif, Include, Line, Refused}

-- a kind of tokens that are copied, and may be copied in parts: strings and comments
unfoldable pub is_text_kind : Kind → Bool
is_text_kind Str = true
is_text_kind LineComment = true
is_text_kind BlockComment = true
is_text_kind _ = false

-- text that is copied, and the mode after it: ordinary text, or a string or a comment, or the part of one that is held
pub data IsText (mode : Mode) (held : List ℕ) (len : ℕ) (next : Mode) : Type 0 where
  AtOrdinary : mode ≡ Plain → next ≡ Plain → 0 < len → len ≡ plain_len held → IsText mode held len next
  AtToken : is_text_kind (token_of mode held).kind ≡ true → next ≡ (token_of mode held).next_mode → len ≡ (token_of mode held).len → IsText mode held len next

-- a backquote and a name that isn't reserved
pub record IsUsage (held : List ℕ) (len : ℕ) : Type 0 where
  pub kind : (token_of Plain held).kind ≡ Back
  pub whole : len ≡ (token_of Plain held).len
  pub free : is_reserved (take (len - 1) (drop 1 held)) ≡ false

-- the name in a usage of so many bytes
abbrev pub usage_name : List ℕ → ℕ → List ℕ
usage_name held len = take (len - 1) (drop 1 held)

-- the word of a directive
pub record IsDirective (d : Directive) (held : List ℕ) : Type 0 where
  pub kind : (token_of Plain held).kind ≡ Back
  pub word : take (token_of Plain held).len held ≡ directive_word d

-- after the word of a directive, which has so many bytes, a thing of a kind stands from a place up to another
pub record StandsAfter (is : LeadingPart) (word_len : ℕ) (held : List ℕ) (start stop : ℕ) : Type 0 where
  pub from : ℕ
  pub to : ℕ
  pub given : AfterBlanks is (drop word_len held) from to
  pub starts : start ≡ word_len + from
  pub stops : stop ≡ word_len + to

-- one stands there, or none
abbrev pub IsAfter : LeadingPart → ℕ → List ℕ → Option Argument → Type 0
IsAfter is word_len held None = NothingAfterBlanks is (drop word_len held)
IsAfter is word_len held (Some a) = StandsAfter is word_len held a.start a.stop

-- a directive with what it is given, which stands from a place up to another (IEEE 1364-2001, compiler directives)
pub record HasArgument (is : LeadingPart) (d : Directive) (held : List ℕ) (start stop : ℕ) : Type 0 where
  pub word : IsDirective d held
  pub argument : StandsAfter is (length (directive_word d)) held start stop

-- a directive that is given nothing of the kind
pub record LacksArgument (is : LeadingPart) (d : Directive) (held : List ℕ) : Type 0 where
  pub word : IsDirective d held
  pub none : NothingAfterBlanks is (drop (length (directive_word d)) held)

-- a directive, and what it is given
abbrev pub IsArgumentOf : LeadingPart → Directive → List ℕ → Option Argument → Type 0
IsArgumentOf is d held None = LacksArgument is d held
IsArgumentOf is d held (Some a) = HasArgument is d held a.start a.stop

-- a directive that wants a name, and the name that it is given (IEEE 1364-2001, compiler directives)
abbrev pub IsNamed : Directive → List ℕ → Option Argument → Type 0
IsNamed = IsArgumentOf (IsLead Name)

-- an `include` with its string, which closes on its line (IEEE 1364-2001, `include`)
abbrev pub HasString : List ℕ → ℕ → ℕ → Type 0
HasString = HasArgument IsClosedString directive.Include

-- an `include`, and the string that it is given
abbrev pub IsGivenString : List ℕ → Option Argument → Type 0
IsGivenString = IsArgumentOf IsClosedString directive.Include

-- what a directive is given
abbrev pub argument_name : List ℕ → ℕ → ℕ → List ℕ
argument_name held start stop = take (stop - start) (drop start held)

-- if it is given anything
abbrev pub given_by : List ℕ → Option Argument → Option (List ℕ)
given_by held None = None
given_by held (Some a) = Some (argument_name held a.start a.stop)

-- how many bytes it has with that
abbrev pub given_len : Directive → Option Argument → ℕ
given_len d None = length (directive_word d)
given_len d (Some a) = a.stop

-- the name of a macro that it is given, or its fault (IEEE 1364-2001, compiler directives)
unfoldable pub given_name : Option (List ℕ) → Checked
given_name given = elim given [
  | None ↦ NameFault fault.NameExpected []
  | Some name ↦ if is_reserved name then NameFault fault.ReservedName name else Fine name
]

-- the name that is given to an `include` whose string stands from a place up to another (this project's profile)
abbrev pub include_name : List ℕ → ℕ → ℕ → List ℕ
include_name held start stop = unquoted (argument_name held start stop)

-- what ends the output
pub data IsRefused (mode : Mode) (held : List ℕ) : FaultKind → Type 0 where
  AtPerl : (token_of mode held).kind ≡ Perl → IsRefused mode held fault.EmbeddedPerl
  AtBare : mode ≡ Plain → (token_of Plain held).kind ≡ BareBackquote → IsRefused mode held fault.BareBackquote

-- what held bytes begin with, in a mode
abbrev pub IsSourceItem : Mode → List ℕ → SourceItem → Type 0
IsSourceItem mode held (Text len next) = IsText mode held len next
IsSourceItem mode held (Usage len) = (mode ≡ Plain) × IsUsage held len
IsSourceItem mode held Define = (mode ≡ Plain) × IsDirective directive.Define held
IsSourceItem mode held (Undef given) = (mode ≡ Plain) × IsNamed directive.Undef held given
IsSourceItem mode held (Ifdef given) = (mode ≡ Plain) × IsNamed directive.Ifdef held given
IsSourceItem mode held (Ifndef given) = (mode ≡ Plain) × IsNamed directive.Ifndef held given
IsSourceItem mode held (Elsif given) = (mode ≡ Plain) × IsNamed directive.Elsif held given
IsSourceItem mode held Else = (mode ≡ Plain) × IsDirective directive.Else held
IsSourceItem mode held Endif = (mode ≡ Plain) × IsDirective directive.Endif held
IsSourceItem mode held (Include given) = (mode ≡ Plain) × IsGivenString held given
IsSourceItem mode held Line = (mode ≡ Plain) × IsDirective directive.Line held
IsSourceItem mode held (Refused kind) = IsRefused mode held kind
