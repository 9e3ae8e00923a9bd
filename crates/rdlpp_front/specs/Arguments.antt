-- What a directive is given after its word, by the tokens that stand there.
-- A definition that names no source is this project's own.
use Rattle.std.specs.Prelude.{◌≡◌, ℕ, ◌-◌, ◌≤◌, ◌<◌, false, ◌&&◌, nat_le, List, length, take, drop, Option, None, Some}
use Rattle.arrayvec.specs.declared.array_string.ArrayString.{ArrayString}
use Rattle.rdlpp_scan.specs.Lines.{ended_line_len}
use Rattle.rdlpp_scan.specs.Tokens.{token_of}
use Rattle.rdlpp_scan.specs.SourceTokens.{line_len}
use Rattle.rdlpp_scan.specs.declared.token.Kind.{Kind}
use Rattle.rdlpp_scan.specs.declared.token.Kind.TheVariants.{Blank, Str}
use Rattle.rdlpp_scan.specs.declared.token.Mode.TheVariants.{Plain}
use Rattle.rdlpp_meaning.specs.Meaning.{digits_value, renumbered, renumbered_name}
use Rattle.rdlpp_front.specs.declared.arguments.line.GivenLine.{GivenLine}

-- the first token of a text, where it is of a kind: how long it is; 0 where it isn't
pub data IsLead (kind : Kind) (bytes : List ℕ) (len : ℕ) : Type 0 where
  Leads : 0 < length bytes → (token_of Plain bytes).kind ≡ kind → len ≡ (token_of Plain bytes).len → IsLead kind bytes len
  Lacks : (0 < length bytes → (token_of Plain bytes).kind ≡ kind → ⊥) → len ≡ 0 → IsLead kind bytes len

-- the first token of a text is a string that closes on its line (IEEE 1364-2001, strings)
pub record ClosesString (bytes : List ℕ) (len : ℕ) : Type 0 where
  pub some : 0 < length bytes
  pub kind : (token_of Plain bytes).kind ≡ Str
  pub closed : (token_of Plain bytes).next_mode ≡ Plain
  pub whole : len ≡ (token_of Plain bytes).len
  pub line : ended_line_len (take len bytes) ≡ None

-- how long that string is; 0 where there is none
pub data IsClosedString (bytes : List ℕ) (len : ℕ) : Type 0 where
  Closes : ClosesString bytes len → IsClosedString bytes len
  Opens : ((n : ℕ) → ClosesString bytes n → ⊥) → len ≡ 0 → IsClosedString bytes len

-- what a kind of thing tells of a text: how long the one at its front is, or 0 where there is none
abbrev pub LeadingPart : Type 1
LeadingPart = List ℕ → ℕ → Type 0

-- after blanks stands such a thing, from a place up to another (IEEE 1364-2001, compiler directives)
pub record AfterBlanks (is : LeadingPart) (bytes : List ℕ) (start stop : ℕ) : Type 0 where
  pub space : IsLead Blank bytes start
  pub some : start < stop
  pub found : is (drop start bytes) (stop - start)
  pub inside : stop ≤ length bytes

-- after blanks stands none
pub record NothingAfterBlanks (is : LeadingPart) (bytes : List ℕ) : Type 0 where
  pub start : ℕ
  pub space : IsLead Blank bytes start
  pub none : is (drop start bytes) 0

-- the number and the name that the line at the front of a text gives, and how long that line is (IEEE 1364-2001, `line`)
pub record LineGiven (bytes : List ℕ) (given : GivenLine) : Type 0 where
  pub value : renumbered (take (line_len bytes) bytes) ≡ Some (record { number = given.number; name = given.name.bytes })
  pub number : given.number ≤ 2147483647
  pub stop : given.stop ≡ line_len bytes
  pub inside : given.stop ≤ length bytes

-- what a `line` is given by the rest of its line (IEEE 1364-2001, `line`)
abbrev pub IsLineGiven : Option GivenLine → List ℕ → Type 0
IsLineGiven None bytes = renumbered (take (line_len bytes) bytes) ≡ None
IsLineGiven (Some given) bytes = LineGiven bytes given

-- the number that digits spell, where it is from 1 to 2,147,483,647 (this project's profile)
abbrev pub IsLineNumber : Option ℕ → List ℕ → Type 0
IsLineNumber None digits = (nat_le 1 (digits_value digits) && nat_le (digits_value digits) 2147483647) ≡ false
IsLineNumber (Some number) digits = (number ≡ digits_value digits) × (0 < number) × (number ≤ 2147483647)

-- the name that stands in front, where a level ends the line after it (IEEE 1364-2001, `line`)
abbrev pub IsShownName : Option (ArrayString 1024) → List ℕ → Type 0
IsShownName None bytes = (number : ℕ) → renumbered_name number bytes ≡ None
IsShownName (Some name) bytes = (number : ℕ) → renumbered_name number bytes ≡ Some (record { number = number; name = name.bytes })

-- a closing quote stands within the text
abbrev pub IsQuoteWithin : Option ℕ → List ℕ → Type 0
IsQuoteWithin None bytes = Unit {0}
IsQuoteWithin (Some place) bytes = place < length bytes
