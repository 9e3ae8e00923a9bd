-- What stands at the front of an open text.
-- A definition that names no source is this project's own.
use Rattle.std.specs.Prelude.{◌≡◌, ℕ, ◌+◌, ◌-◌, ◌<◌, ◌≤◌, Bool, true, false, List, [], ◌∷◌, length, take, drop, Some, if◌then◌else◌}
use Rattle.rdlpp_scan.specs.declared.token.Kind.{Kind}
use Rattle.rdlpp_scan.specs.declared.token.Kind.TheVariants.{Name, Back, BareBackquote}
use Rattle.rdlpp_scan.specs.declared.token.Mode.TheVariants.{Plain}
use Rattle.rdlpp_scan.specs.declared.token.Token.{Token}
use Rattle.rdlpp_scan.specs.Tokens.{token_of, tokens_from}
use Rattle.rdlpp_define.specs.Macros.{Formal}
use Rattle.rdlpp_define.specs.Table.{formal_named}
use Rattle.rdlpp_table.specs.ExpansionPoints.{is_none, point_at}
use Rattle.rdlpp_meaning.specs.Opens.{Open, Texts, open_bytes}
use Rattle.rdlpp_texts.specs.Places.{source_formals}
use Rattle.rdlpp_texts.specs.Scopes.{front_source}
use Rattle.rdlpp_texts.specs.declared.place.TextPlace.{TextPlace}
use Rattle.rdlpp_texts.specs.declared.step.CursorStep.{CursorStep}
use Rattle.rdlpp_texts.specs.declared.step.CursorStep.TheVariants.{Lends, Silent, Refused}
use Rattle.rdlpp_texts.specs.declared.peek.TextItem.{TextItem}
use Rattle.rdlpp_texts.specs.declared.peek.NextItem.{NextItem}
use Rattle.rdlpp_texts.specs.declared.peek.Peek.{Peek}
use Rattle.rdlpp_texts.specs.Opened.{moved_to}
use Rattle.rdlpp_texts.specs.declared.peek.TextItem.TheVariants.{Ended, Formal as FormalName, Usage, Bare}

-- whether a kind is that of a usage or a lone backquote
unfoldable pub is_back : Kind → Bool
is_back Back = true
is_back BareBackquote = true
is_back kind = false

-- how many bytes the tokens have that come before the first expansion point
unfoldable pub run_len : List Formal → List Token → List ℕ → ℕ
run_len formals [] text = 0
run_len formals (t ∷ ts) text =
    if is_none (point_at formals 0 t (take t.len text)) then t.len + run_len formals ts (drop t.len text) else 0

-- so many bytes at the front of a text with these formals are copied, up to its first expansion point or its end
unfoldable pub AreCopied : List Formal → List ℕ → ℕ → Type 0
AreCopied formals text n = (n ≤ length text) × (run_len formals (tokens_from Plain 0 text) text ≡ n)

-- what stands at the front of a text with these formals, where no byte is copied: nothing; the name of a formal, so long, with its
-- place; a usage, so long; or a backquote alone
unfoldable pub IsTextItem : List Formal → List ℕ → TextItem → Type 0
IsTextItem formals text Ended = text ≡ []
IsTextItem formals text (FormalName len place) =
    (0 < length text) × ((token_of Plain text).kind ≡ Name) × ((token_of Plain text).len ≡ len) × (formal_named formals (take len text) ≡ Some place)
IsTextItem formals text (Usage len) =
    (0 < length text) × ((token_of Plain text).kind ≡ Back) × ((token_of Plain text).len ≡ len)
IsTextItem formals text Bare = (0 < length text) × ((token_of Plain text).kind ≡ BareBackquote)

-- a look tells what stands at the front of open texts: where the innermost lies, where it goes on and ends, and what stands there
unfoldable pub IsPeek : Texts → List Open → Peek → Type 0
IsPeek texts [] peek = ⊥
IsPeek texts (x ∷ below) peek =
    (peek.source ≡ front_source (x ∷ below)) × (peek.at ≡ x.part.from) × (peek.end ≡ x.part.end)
    × IsTextItem (source_formals texts (front_source (x ∷ below))) (open_bytes texts x below) peek.front

-- what stands in a text with these formals that begins at a place: what is copied up to another place, and what stands there
unfoldable pub IsNextItem : List Formal → List ℕ → ℕ → NextItem → Type 0
IsNextItem formals text from ahead =
    (from ≤ ahead.at) × AreCopied formals text (ahead.at - from) × IsTextItem formals (drop (ahead.at - from) text) ahead.front

-- what a look at open texts tells: where the innermost lies and goes on, what is copied from there up to another place, and what
-- stands at the front where it goes on at that place
unfoldable pub IsPeekAhead : Texts → List Open → Peek → Type 0
IsPeekAhead texts [] peek = ⊥
IsPeekAhead texts (x ∷ below) peek =
    (peek.source ≡ front_source (x ∷ below)) × (peek.from ≡ x.part.from) × (peek.from ≤ peek.at)
    × AreCopied (source_formals texts (front_source (x ∷ below))) (open_bytes texts x below) (peek.at - peek.from)
    × IsPeek texts (moved_to peek.at (x ∷ below)) peek

-- a place at which the innermost open text stands: it begins where that goes on
abbrev pub IsFrontPlace : List Open → TextPlace → Type 0
IsFrontPlace [] place = ⊥
IsFrontPlace (x ∷ below) place = (place.source ≡ front_source (x ∷ below)) × (place.from ≡ x.part.from)

-- bytes that a step lends are those at which the innermost open text stood
abbrev pub StandsAt : List Open → CursorStep → Type 0
StandsAt opens (Lends place) = IsFrontPlace opens place
StandsAt opens Silent = Unit
StandsAt opens (Refused fault) = Unit
