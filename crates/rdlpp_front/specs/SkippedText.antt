-- What is passed of skipped text at once: up to a word that counts there, or `<%`, or what stays open.
-- A definition that names no source is this project's own.
use Rattle.std.specs.Prelude.{◌≡◌, ℕ, ◌+◌, ◌<◌, Bool, true, false, List, length, take, drop, None, Some}
use Rattle.rdlpp_scan.specs.Reserved.{directive_named}
use Rattle.rdlpp_scan.specs.Tokens.{plain_len, token_of}
use Rattle.rdlpp_scan.specs.declared.token.Directive.{Directive}
use Rattle.rdlpp_scan.specs.declared.token.Directive.TheVariants.{Include, Undef}
use Rattle.rdlpp_scan.specs.declared.token.Kind.{Kind}
use Rattle.rdlpp_scan.specs.declared.token.Kind.TheVariants.{Back, Perl}
use Rattle.rdlpp_scan.specs.declared.token.Mode.{Mode}
use Rattle.rdlpp_scan.specs.declared.token.Mode.TheVariants.{Plain}
use Rattle.rdlpp_scan.specs.declared.token.Token.{Token}

-- whether a directive counts in skipped text: those of conditionals, and the two that take their lines (this project's profile)
unfoldable pub counts : Directive → Bool
counts Undef = false
counts Include = false
counts _ = true

-- whether a word counts in skipped text
unfoldable pub counts_skipped : List ℕ → Bool
counts_skipped word = elim (directive_named (drop 1 word)) [ None ↦ false | Some d ↦ counts d ]

-- whether a token that is closed ends a stretch of skipped text, by its kind and its bytes: `<%`, or a word that counts (this project's profile)
unfoldable pub stops_closed : Kind → List ℕ → Bool
stops_closed kind word = elim kind [ Perl ↦ true | Back ↦ counts_skipped word | _ ↦ false ]

-- whether a token with these bytes ends a stretch of skipped text: also one that stays open, since the line counts where it opened
-- (this project's profile)
unfoldable pub stops_skipping : Token → List ℕ → Bool
stops_skipping token word = elim token.next_mode [ Plain ↦ stops_closed token.kind word | _ ↦ true ]

-- whether a stretch of skipped text stops before the first token of a text that isn't empty
unfoldable pub stops_at : Mode → List ℕ → Bool
stops_at mode bytes = let token = token_of mode bytes in stops_skipping token (take token.len bytes)

-- what is passed of skipped text in one step: ordinary text as far as it goes, or, where none stands in front, one token that
-- doesn't stop it (this project's profile)
pub data IsPassedOnce (mode : Mode) (bytes : List ℕ) (len : ℕ) (next : Mode) : Type 0 where
  Stretch : mode ≡ Plain → 0 < len → len ≡ plain_len bytes → next ≡ Plain → IsPassedOnce mode bytes len next
  OneToken : (mode ≡ Plain → plain_len bytes ≡ 0) → stops_at mode bytes ≡ false → len ≡ (token_of mode bytes).len → next ≡ (token_of mode bytes).next_mode → IsPassedOnce mode bytes len next

-- what is passed of skipped text step by step, from a mode, and the mode after it (this project's profile)
pub data IsPassed (mode : Mode) (held : List ℕ) : ℕ → Mode → Type 0 where
  Begins : IsPassed mode held 0 mode
  Onward : (from len : ℕ) (mid next : Mode) → IsPassed mode held from mid → from < length held → IsPassedOnce mid (drop from held) len next → IsPassed mode held (from + len) next
