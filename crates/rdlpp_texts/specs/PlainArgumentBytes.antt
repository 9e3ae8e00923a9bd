-- The bytes of a call in plain text which the search for the end of a part passes one by one.
-- A definition that names no source is this project's own.
use Rattle.std.specs.Prelude.{ℕ, Bool, false, not, ◌&&◌, ◌||◌, ◌==◌, nat_lt, List, ◌∷◌, if◌then◌else◌}
use Rattle.rdlpp_scan.specs.declared.token.Mode.{Mode}
use Rattle.rdlpp_scan.specs.declared.token.Mode.TheVariants.{Plain}
use Rattle.rdlpp_scan.specs.Bytes.{is_opener, is_closer}
use Rattle.rdlpp_texts.specs.CallParts.{is_white}
use Rattle.rdlpp_texts.specs.declared.plain_argument.ByteClass.{ByteClass}
use Rattle.rdlpp_texts.specs.declared.plain_argument.ByteClass.TheVariants.{White, PlainArgument, Mark}

-- a byte that in plain text opens, closes and cuts nothing, and begins no string, no comment and no `<%` (source: this project's
-- profile)
unfoldable pub is_plain_argument : ℕ → Bool
is_plain_argument b =
    not (is_opener b) && (not (is_closer b) && (not (b == 44) && (not (b == 34) && (not (b == 47) && not (b == 60)))))

-- the same at a level of openers: within further ones a comma cuts nothing either (source: this project's profile)
unfoldable pub is_plain_argument_at : ℕ → ℕ → Bool
is_plain_argument_at level b = is_plain_argument b || (b == 44 && nat_lt 0 level)

-- what a byte of plain text is to the search for the end of a part
unfoldable pub byte_class : ℕ → ℕ → ByteClass
byte_class level b = if is_white b then White else (if is_plain_argument_at level b then PlainArgument else Mark)

-- whether a text from a mode on begins with white space
unfoldable pub begins_white : Mode → List ℕ → Bool
begins_white Plain (b ∷ bs) = is_white b
begins_white mode text = false
