-- What is wrong with a whole text, as tokens.
-- A definition that names no source is this project's own.
use Rattle.std.specs.Prelude.{ℕ, Bool, true, false, not, ◌||◌, ◌==◌, List, [], ◌∷◌, Option, None, Some, if◌then◌else◌}
use Rattle.std.specs.List.{prefix_len}
use Rattle.rdlpp_scan.specs.declared.token.Kind.{Kind}
use Rattle.rdlpp_scan.specs.declared.token.Kind.TheVariants.{Perl}
use Rattle.rdlpp_scan.specs.declared.token.Mode.{Mode}
use Rattle.rdlpp_scan.specs.declared.token.Mode.TheVariants.{Plain, InStr, InBlock}
use Rattle.rdlpp_scan.specs.declared.token.Token.{Token}
use Rattle.rdlpp_scan.specs.declared.token.LexFault.{LexFault}
use Rattle.rdlpp_scan.specs.declared.token.LexFault.TheVariants.{OpenString, OpenComment, Perl as PerlFault}
use Rattle.rdlpp_scan.specs.Tokens.{tokens_from}

-- whether a token begins embedded Perl
unfoldable pub is_perl : Kind → Bool
is_perl Perl = true
is_perl _ = false

-- what is wrong where a text ends in a mode
unfoldable pub open_fault : Mode → Option LexFault
open_fault Plain = None
open_fault InStr = Some OpenString
open_fault InBlock = Some OpenComment

-- the first fault of a list of tokens after a mode
unfoldable pub fault_of_tokens : Mode → List Token → Option LexFault
fault_of_tokens mode [] = open_fault mode
fault_of_tokens mode (t ∷ ts) = if is_perl t.kind then Some PerlFault else fault_of_tokens t.next_mode ts

-- the first fault of a text from a mode on (this project's profile)
unfoldable pub lex_fault_from : Mode → List ℕ → Option LexFault
lex_fault_from mode bytes = fault_of_tokens mode (tokens_from mode 0 bytes)

-- a byte that begins no string, no comment and no `<%`, whatever stands after it
unfoldable pub is_plain_argument : ℕ → Bool
is_plain_argument b = not (b == 34 || b == 47 || b == 60)

-- how many such bytes stand at the front of a text from a mode on: none in a string or a block comment
unfoldable pub plain_argument_len : Mode → List ℕ → ℕ
plain_argument_len Plain bytes = prefix_len is_plain_argument bytes
plain_argument_len mode bytes = 0
