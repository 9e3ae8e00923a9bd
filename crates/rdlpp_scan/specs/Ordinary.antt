-- Ordinary text: the tokens that go through as they are.
-- A definition that names no source is this project's own.
use Rattle.std.specs.Prelude.{◌≡◌, ◌⊎◌, ℕ, ◌+◌, Bool, true, false, List, [], ◌++◌, All, flat_map}
use Rattle.rdlpp_scan.specs.declared.token.Kind.{Kind}
use Rattle.rdlpp_scan.specs.declared.token.Kind.TheVariants.{Back, Str, LineComment, BlockComment, Perl, BareBackquote}
use Rattle.rdlpp_scan.specs.declared.token.Mode.TheVariants.{Plain}
use Rattle.rdlpp_scan.specs.Tokens.{stops_plain_text}
use Rattle.rdlpp_scan.specs.SourceTokens.{SourceToken, Ordinary, Course, line_ends, source_tokens}
use Rattle.rdlpp_scan.specs.Lines.{IsWholeLines}

-- a kind that isn't that of a string, a comment, a backquote or `<%`
unfoldable pub is_plain_kind : Kind → Bool
is_plain_kind Str = false
is_plain_kind LineComment = false
is_plain_kind BlockComment = false
is_plain_kind Back = false
is_plain_kind BareBackquote = false
is_plain_kind Perl = false
is_plain_kind _ = true

-- a token of a source that is ordinary, of such a kind
pub record IsPlainToken (t : SourceToken) : Type 0 where
  pub kind : Kind
  pub sort : t.sort ≡ Ordinary kind
  pub plain : is_plain_kind kind ≡ true

-- ordinary text w ends at the text's end, at a line end, or where ordinary text stops
abbrev pub IsEdge : List ℕ → List ℕ → Type 0
IsEdge w x = (x ≡ []) ⊎ (IsWholeLines w ⊎ (stops_plain_text x ≡ true))

-- the text w, on a line and with x after it, is ordinary: its tokens are plain, are all of w, and those of x follow
pub record IsOrdinary (c : Course) (line : ℕ) (w x : List ℕ) : Type 0 where
  pub tokens : List SourceToken
  pub steps : (opened : ℕ) → source_tokens c Plain opened line 0 (w ++ x) ≡ tokens ++ source_tokens c Plain opened (line + line_ends w) 0 x
  pub plain : All IsPlainToken tokens
  pub spelled : flat_map (λ t. t.bytes) tokens ≡ w
