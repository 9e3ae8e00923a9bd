-- Texts that are cut at line ends, and their tokens.
-- A definition that names no source is this project's own.
use Rattle.std.specs.Prelude.{◌≡◌, ◌⊎◌, ℕ, ◌+◌, Bool, true, false, not, ◌&&◌, List, [], ◌∷◌, ◌++◌, slice_index, if◌then◌else◌}
use Rattle.std.specs.List.{concat}
use Rattle.rdlpp_scan.specs.declared.token.Mode.{Mode}
use Rattle.rdlpp_scan.specs.declared.token.Mode.TheVariants.{Plain}
use Rattle.rdlpp_scan.specs.declared.token.Token.{Token}
use Rattle.rdlpp_scan.specs.Tokens.{tokens_from}
use Rattle.rdlpp_scan.specs.LexFaults.{is_perl}
use Rattle.rdlpp_scan.specs.Lines.{IsWholeLines}

-- a text is cut before or after a line end, or at its end
abbrev pub IsCut : List ℕ → List ℕ → Type 0
IsCut bytes rest = (rest ≡ []) ⊎ ((slice_index rest 0 ≡ 10) ⊎ IsWholeLines bytes)

-- pieces of a text that is cut at line ends alone
unfoldable pub AreCuts : List (List ℕ) → Type 0
AreCuts [] = Unit {0}
AreCuts (p ∷ ps) = IsCut p (concat ps) × AreCuts ps

-- where a text stands after its tokens
unfoldable pub mode_after : Mode → List Token → Mode
mode_after mode [] = mode
mode_after mode (t ∷ ts) = mode_after t.next_mode ts

-- the tokens of pieces, each from where the one before it stands
unfoldable pub tokens_of_pieces : Mode → List (List ℕ) → List Token
tokens_of_pieces mode [] = []
tokens_of_pieces mode (p ∷ ps) =
    let ts = tokens_from mode 0 p in ts ++ tokens_of_pieces (mode_after mode ts) ps

-- whether a string or a block comment stands open
unfoldable pub is_open : Mode → Bool
is_open Plain = false
is_open _ = true

-- a part of a string or of a comment in front of the tokens after it: one token with the part that follows, if `<%` doesn't
unfoldable pub join_onto : Token → List Token → List Token
join_onto t [] = t ∷ []
join_onto t (u ∷ us) =
    if is_open t.next_mode && not (is_perl u.kind)
    then record { kind = u.kind; len = t.len + u.len; next_mode = u.next_mode } ∷ us
    else t ∷ u ∷ us

-- tokens in front of others, with the parts of each string and comment joined
unfoldable pub join_all : List Token → List Token → List Token
join_all [] us = us
join_all (t ∷ ts) us = join_onto t (join_all ts us)

-- tokens with the parts of each string and of each comment joined
unfoldable pub joined : List Token → List Token
joined ts = join_all ts []

-- how many bytes tokens have together
unfoldable pub tokens_len : List Token → ℕ
tokens_len [] = 0
tokens_len (t ∷ ts) = t.len + tokens_len ts

-- the theorem on cuts: however a text is cut at its line ends, the tokens of its pieces, joined, are those of the text (this project's profile)
abbrev pub CutTokens : Type 0
CutTokens = (from : Mode) (pieces : List (List ℕ)) → AreCuts pieces
    → joined (tokens_of_pieces from pieces) ≡ tokens_from from 0 (concat pieces)
