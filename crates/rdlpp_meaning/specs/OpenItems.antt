-- What open texts stand for: each token of an open text is the item that its scope makes of it, and what remains of open texts is
-- what those items expand to, the innermost text first.
-- A definition that names no source is this project's own.
use Rattle.std.specs.Prelude.{ℕ, suc, ◌-◌, ◌==◌, List, [], ◌∷◌, map, length, Some, if◌then◌else◌}
use Rattle.rdlpp_scan.specs.SourceTokens.{SourceToken}
use Rattle.rdlpp_define.specs.Table.{macro_at}
use Rattle.rdlpp_define.specs.Macros.{formals_of}
use Rattle.rdlpp_meaning.specs.Outcome.{Outcome, gives, and_then}
use Rattle.rdlpp_meaning.specs.State.{Rules, State}
use Rattle.rdlpp_meaning.specs.Items.{Item, Written}
use Rattle.rdlpp_meaning.specs.Substitution.{marked}
use Rattle.rdlpp_meaning.specs.Expansion.{expand}
use Rattle.rdlpp_meaning.specs.Opens.{Part, OpenKind, OpenBody, OpenActual, OpenDefault, Open, Texts, scope_text, text_around, part_tokens, open_scope, hide_set}

-- the items of parts of a text, by what its tokens are
abbrev pub part_items : (SourceToken → Item) → List ℕ → List Part → List (List Item)
part_items item text parts = map (λ part. map item (part_tokens text part)) parts

-- the item that a token of a scope is, by what the scope is: a token of a body as substitution marks it, with the call's parts as
-- actuals, which lie in a text, whose tokens are items, and are written in the text of the macros o; a default has no formals
unfoldable pub own_item : Texts → OpenKind → List ℕ → (SourceToken → Item) → List (List ℕ) → SourceToken → Item
own_item texts (OpenBody id parts) text item o t =
    marked (macro_at texts.macros id).name (formals_of (macro_at texts.macros id)) (part_items item text parts) o t
own_item texts OpenActual text item o t = Written t
own_item texts (OpenDefault id place) text item o t = Written t

-- the item that a token of a scope is; one of a source is as it is written
unfoldable pub item_at : Texts → List Open → ℕ → SourceToken → Item
item_at texts [] k t = Written t
item_at texts (x ∷ below) k t =
    if k == suc (length below)
    then own_item texts x.kind (scope_text texts below x.parent) (item_at texts below x.parent) (hide_set texts below x.parent) t
    else item_at texts below k t

-- the items that are left of an open text, in front of others
unfoldable pub open_items : Texts → Open → List Open → List Item
open_items texts x below =
    map (item_at texts (x ∷ below) (open_scope x below)) (part_tokens (text_around texts x.kind x.parent below) x.part)

-- the macros in whose text an open text is written, in front of others
abbrev pub open_hide_set : Texts → Open → List Open → List (List ℕ)
open_hide_set texts x below = hide_set texts (x ∷ below) (open_scope x below)

-- what remains of open texts, innermost first, of a usage at a line, where so many texts may be open
unfoldable pub open_left : Rules → State → ℕ → ℕ → Texts → List Open → Outcome
open_left rules s line depth texts [] = gives []
open_left rules s line depth texts (x ∷ below) =
    and_then (expand rules s (depth - suc (length below)) (Some line) (open_hide_set texts x below) (open_items texts x below))
    (open_left rules s line depth texts below)
