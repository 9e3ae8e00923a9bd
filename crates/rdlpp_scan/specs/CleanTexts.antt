-- Texts without a lexical fault and without `//` comments.
-- A definition that names no source is this project's own.
use Rattle.std.specs.Prelude.{◌≡◌, ℕ, ◌||◌, Bool, true, false, List, None}
use Rattle.std.specs.List.{AllByRecursion}
use Rattle.rdlpp_scan.specs.declared.token.Mode.TheVariants.{Plain}
use Rattle.rdlpp_scan.specs.declared.token.Token.{Token}
use Rattle.rdlpp_scan.specs.Bytes.{is_blank, is_line_end}
use Rattle.rdlpp_scan.specs.Comments.{is_line_comment}
use Rattle.rdlpp_scan.specs.LexFaults.{is_perl, lex_fault_from}
use Rattle.rdlpp_scan.specs.Tokens.{tokens_from}

-- a text that is read whole: no string or comment is open at its end, no `<%` stands outside comments, and no token is a
-- `//` comment (this project's profile)
pub record IsCleanText (text : List ℕ) : Type 0 where
  pub faultless : lex_fault_from Plain text ≡ None
  pub uncommented : AllByRecursion (λ t. is_line_comment t.kind ≡ false) (tokens_from Plain 0 text)

-- a token of such a text: it leaves plain text after it, and is neither `<%` nor a `//` comment
pub record IsCleanToken (t : Token) : Type 0 where
  pub next : t.next_mode ≡ Plain
  pub sound : is_perl t.kind ≡ false
  pub kept : is_line_comment t.kind ≡ false

-- a class of bytes that has each blank, and beside them LF alone
pub record AreSpaces (class : ℕ → Bool) : Type 0 where
  pub blanks : (b : ℕ) → is_blank b ≡ true → class b ≡ true
  pub alone : (b : ℕ) → class b ≡ true → (is_blank b || is_line_end b) ≡ true
