-- The steps of open texts, and those at a usage.
use Rattle.std.proofs.Common.{◌≡◌, ℕ, suc, ◌-◌, ◌<◌, ◌≤◌, Bool, true, false, List, [], ◌∷◌, map, length, drop, refl, sym, ap, subst, ◌∙◌, arith, Option, Some, None, if◌then◌else◌, slice_range, length-take}
use Rattle.std.proofs.lemmas.List.{drop-map}
use Rattle.rdlpp_scan.specs.SourceTokens.{Ordinary, Sort, SourceToken}
use Rattle.rdlpp_scan.specs.Tokens.{token_of}
use Rattle.rdlpp_scan.specs.declared.token.Kind.{Kind}
use Rattle.rdlpp_scan.specs.declared.token.Kind.TheVariants.{Back, BareBackquote, Name}
use Rattle.rdlpp_scan.specs.declared.token.Mode.{Mode}
use Rattle.rdlpp_scan.specs.declared.token.Mode.TheVariants.{Plain}
use Rattle.rdlpp_scan.proofs.TokenLens.{token_of-part}
use Rattle.rdlpp_define.specs.Macros.{Formal, Macro, formals_of}
use Rattle.rdlpp_define.specs.Table.{formal_named, macro_at}
use Rattle.rdlpp_meaning.specs.Actuals.{item_reads, item_role, item_size, kind_role, not_kept, text_reads, token_role}
use Rattle.rdlpp_meaning.specs.Expansion.{Opens, UsageFault, Usage, expand, is_copied, usage_of, walk}
use Rattle.rdlpp_meaning.specs.Items.{Arg, Item, Written, listed, packed, unlined, unlined_item}
use Rattle.rdlpp_meaning.specs.OpenItems.{item_at, open_items, open_left, open_hide_set, own_item, part_items}
use Rattle.rdlpp_meaning.specs.Opens.{AreOpen, Open, OpenBody, OpenKind, Part, Texts, found_standing, open_after, open_body, open_bytes, open_scope, own_text, own_hide_set, part_tokens, scope_formals, scope_open, scope_text, text_around, hide_set}
use Rattle.rdlpp_meaning.specs.Outcome.{Outcome, and_then, fails, gives}
use Rattle.rdlpp_meaning.specs.State.{Rules, State, fault_at}
use Rattle.rdlpp_meaning.specs.Substitution.{Defaulted, Given, Standing, bound_to, mark_of, mark_or, marked, substituted}
use Rattle.rdlpp_meaning.specs.TextTokens.{text_tokens}
use Rattle.rdlpp_meaning.specs.declared.fault.FaultKind.{FaultKind}
use Rattle.rdlpp_meaning.specs.declared.fault.FaultKind.TheVariants.{BareBackquote as NoName, DepthPassed}
use Rattle.rdlpp_meaning.proofs.SourceCalls.{KeepsReads, map_usage, usage-map, walk_skip}
use Rattle.rdlpp_meaning.proofs.OpenScopes.{Alone, IsMarkOf, StandsFor, first_after, first_bytes, first_kind, item-own, name-stands, name_token, next_is, part-whole, range_after, text-around, text-mark, hidden-own}
use Rattle.rdlpp_meaning.proofs.Outcomes.{and_then-assoc, and_then-fails, and_then-gives_nil, and_then-nil}
use Rattle.rdlpp_meaning.proofs.KeptTexts.{first_spelled, text_nil, text_step}
use Rattle.rdlpp_meaning.proofs.LiveText.{deeper_of, expand_walk, usage_walk, usage_walks, walk_copied}

-- The steps of open texts: what remained is what a step lends and then what remains, or the fault that it ends with.

-- the items of a mark as a list are those that were packed
pub listed-packed : (xs : List Item) → listed (packed xs) ≡ xs
unfolding listed packed
listed-packed [] = refl
listed-packed (x ∷ xs) = ap (λ (ys : List Item). x ∷ ys) (listed-packed xs)

-- the first token of an open text
unfoldable pub first_token : Texts → Open → List Open → SourceToken
first_token texts x below = record { sort = Ordinary (first_kind texts x below); bytes = first_bytes texts x below; line = 0 }

-- the first token of an open text lies in its part
first-inside : (text : List ℕ) (part : Part) → 0 < length (slice_range text part.from part.end)
    → (token_of part.mode (slice_range text part.from part.end)).len ≤ part.end - part.from
first-inside text part some = grind (arith, token_of-part, length-take)

-- an open text of which there is a byte has the item of its first token, and then those after it
first-items : (texts : Texts) (x : Open) (below : List Open) → 0 < length (open_bytes texts x below)
    → open_items texts x below
    ≡ item_at texts (x ∷ below) (open_scope x below) (first_token texts x below) ∷ open_items texts (first_after texts x below) below
unfolding open_items item_at part_tokens open_bytes open_after first_token first_kind first_bytes first_after first_spelled open_scope
first-items texts x below some = grind (arith, text_step, range_after, first-inside)

-- an open text of which no byte is left has no item
no-items : (texts : Texts) (x : Open) (below : List Open) → open_bytes texts x below ≡ [] → open_items texts x below ≡ []
unfolding open_items part_tokens open_bytes
no-items texts x below e = grind (arith, text_nil)

-- how many texts may be open in an open text, in front of others
abbrev pub room_in : ℕ → List Open → ℕ
room_in depth below = depth - suc (length below)

-- what remains of open texts is a walk of the items of the innermost, and then what remains of the others
pub left-walk : (rules : Rules) (s : State) (line depth : ℕ) (texts : Texts) (x : Open) (below : List Open)
    → open_left rules s line depth texts (x ∷ below)
    ≡ and_then (walk rules s (deeper_of rules s (room_in depth below)) (Some line) (open_hide_set texts x below) 0 (open_items texts x below))
    (open_left rules s line depth texts below)
unfolding open_left
left-walk rules s line depth texts x below = grind (arith, expand_walk)

-- an open text goes on after some of its bytes in the text of the same macros
following-hidden : (texts : Texts) (x : Open) (below : List Open) (n : ℕ) (mode : Mode) → open_hide_set texts (open_after x n mode) below ≡ open_hide_set texts x below
unfolding open_after open_scope hide_set
following-hidden texts x below n mode = refl

-- what remains after some bytes of the innermost open text
pub following-walk : (rules : Rules) (s : State) (line depth : ℕ) (texts : Texts) (x : Open) (below : List Open) (n : ℕ) (mode : Mode)
    → and_then (walk rules s (deeper_of rules s (room_in depth below)) (Some line) (open_hide_set texts x below) 0 (open_items texts (open_after x n mode) below))
    (open_left rules s line depth texts below)
    ≡ open_left rules s line depth texts (open_after x n mode ∷ below)
following-walk rules s line depth texts x below n mode = grind (arith, following-hidden, left-walk)

-- what remains by the first token of the innermost open text
first-walk : (rules : Rules) (s : State) (line depth : ℕ) (texts : Texts) (x : Open) (below : List Open) (item : Item) → 0 < length (open_bytes texts x below)
    → item_at texts (x ∷ below) (open_scope x below) (first_token texts x below) ≡ item
    → open_left rules s line depth texts (x ∷ below)
    ≡ and_then (walk rules s (deeper_of rules s (room_in depth below)) (Some line) (open_hide_set texts x below) 0 (item ∷ open_items texts (first_after texts x below) below))
    (open_left rules s line depth texts below)
first-walk rules s line depth texts x below item some e = grind (arith, left-walk, first-items)

-- (1) an open text of which nothing is left is closed
pub step-closes : (rules : Rules) (s : State) (line depth : ℕ) (texts : Texts) (x : Open) (below : List Open) → open_bytes texts x below ≡ []
    → open_left rules s line depth texts (x ∷ below) ≡ open_left rules s line depth texts below
unfolding walk
step-closes rules s line depth texts x below e = grind (arith, left-walk, no-items, and_then-gives_nil)

-- a text that is opened remains in front of the others, where there is room
pub opens-room : (rules : Rules) (s : State) (line depth : ℕ) (texts : Texts) (new : Open) (opens : List Open) → length opens < depth
    → and_then (deeper_of rules s (depth - length opens) line (open_hide_set texts new opens) (open_items texts new opens)) (open_left rules s line depth texts opens)
    ≡ open_left rules s line depth texts (new ∷ opens)
unfolding deeper_of open_left
opens-room rules s line depth texts new opens h = grind arith

-- and is a fault where there is none
pub opens-deep : (rules : Rules) (s : State) (line depth : ℕ) (o : List (List ℕ)) (items : List Item) (n : ℕ) (rest : Outcome) → depth ≤ n
    → and_then (deeper_of rules s (depth - n) line o items) rest ≡ fails (fault_at DepthPassed line [] s)
unfolding deeper_of
opens-deep rules s line depth o items n rest h = grind (arith, and_then-fails)

-- the item of a formal's name is the mark of what it stands for
formal-item : (texts : Texts) (opens : List Open) (k : ℕ) (t : SourceToken) (bytes : List ℕ) (place : ℕ) (new : Open) → AreOpen texts opens
    → t ≡ name_token bytes → formal_named (scope_formals texts.macros opens k) bytes ≡ Some place
    → found_standing texts.macros (scope_open opens k) k place ≡ Some new → IsMarkOf texts opens new (item_at texts opens k t)
unfolding StandsFor
formal-item texts opens k t bytes place new h is named stands =
    subst (λ (u : SourceToken). IsMarkOf texts opens new (item_at texts opens k u)) (sym is)
    (subst (λ (p : Option ℕ). StandsFor texts opens (scope_open opens k) k p (name_token bytes) (item_at texts opens k (name_token bytes))) named (name-stands texts opens k bytes h) new stands)

-- an open text is opened in the same way in front of another one after some of its bytes, by what it is
same-by : (texts : Texts) (x : Open) (below : List Open) (n : ℕ) (mode : Mode) (part : Part) (parent : ℕ) (kind : OpenKind)
    → Arg (open_hide_set texts (record { part = part; parent = parent; kind = kind }) (x ∷ below)) (packed (open_items texts (record { part = part; parent = parent; kind = kind }) (x ∷ below)))
    ≡ Arg (open_hide_set texts (record { part = part; parent = parent; kind = kind }) (open_after x n mode ∷ below)) (packed (open_items texts (record { part = part; parent = parent; kind = kind }) (open_after x n mode ∷ below)))
unfolding open_after open_items item_at open_scope hide_set text_around scope_text
same-by texts x below n mode part parent (OpenBody id parts) = refl
same-by texts x below n mode part parent _ = refl

-- an open text is opened in the same way in front of another one after some of its bytes
following-mark : (texts : Texts) (x : Open) (below : List Open) (n : ℕ) (mode : Mode) (new : Open)
    → Arg (open_hide_set texts new (x ∷ below)) (packed (open_items texts new (x ∷ below)))
    ≡ Arg (open_hide_set texts new (open_after x n mode ∷ below)) (packed (open_items texts new (open_after x n mode ∷ below)))
following-mark texts x below n mode new = same-by texts x below n mode new.part new.parent new.kind

-- the first token of an open text, by its kind
first-named : (texts : Texts) (x : Open) (below : List Open) (kind : Kind) → first_kind texts x below ≡ kind
    → first_token texts x below ≡ record { sort = Ordinary kind; bytes = first_bytes texts x below; line = 0 }
unfolding first_token
first-named texts x below kind e = ap (λ (k : Kind). record { sort = Ordinary k; bytes = first_bytes texts x below; line = 0 }) e

-- what remains at the name of a formal: what it stands for, and then what is left after it
formal-walk : (rules : Rules) (s : State) (line depth : ℕ) (texts : Texts) (x : Open) (below : List Open) (place : ℕ) (new : Open)
    → AreOpen texts (x ∷ below) → 0 < length (open_bytes texts x below) → first_kind texts x below ≡ Name
    → formal_named (scope_formals texts.macros (x ∷ below) (open_scope x below)) (first_bytes texts x below) ≡ Some place
    → found_standing texts.macros (scope_open (x ∷ below) (open_scope x below)) (open_scope x below) place ≡ Some new
    → open_left rules s line depth texts (x ∷ below)
    ≡ and_then (deeper_of rules s (room_in depth below) line (open_hide_set texts new (first_after texts x below ∷ below)) (open_items texts new (first_after texts x below ∷ below)))
    (open_left rules s line depth texts (first_after texts x below ∷ below))
unfolding walk first_after
formal-walk rules s line depth texts x below place new h some name named found =
    let rest = first_after texts x below in
    let under = open_left rules s line depth texts below in
    let deeper = deeper_of rules s (room_in depth below) in
    let o = open_hide_set texts new (rest ∷ below) in
    let items = open_items texts new (rest ∷ below) in
    let t = token_of x.part.mode (open_bytes texts x below) in
    let m : IsMarkOf texts (x ∷ below) new (item_at texts (x ∷ below) (open_scope x below) (first_token texts x below)) =
    formal-item texts (x ∷ below) (open_scope x below) (first_token texts x below) (first_bytes texts x below) place new h (first-named texts x below Name name) named found in
    let left = walk rules s deeper (Some line) (open_hide_set texts x below) 0 (open_items texts rest below) in
    first-walk rules s line depth texts x below (Arg o (packed items)) some
    (m.mark ∙ text-mark texts (x ∷ below) new m.text m.inside ∙ following-mark texts x below t.len t.next_mode new)
    ∙ and_then-assoc (deeper line o (listed (packed items))) left under
    ∙ ap (λ (xs : List Item). and_then (deeper line o xs) (and_then left under)) (listed-packed items)
    ∙ ap (λ (y : Outcome). and_then (deeper line o items) y) (following-walk rules s line depth texts x below t.len t.next_mode)

-- (3) the name of a formal opens what it stands for, where there is room
pub step-formal : (rules : Rules) (s : State) (line depth : ℕ) (texts : Texts) (x : Open) (below : List Open) (place : ℕ) (new : Open)
    → AreOpen texts (x ∷ below) → 0 < length (open_bytes texts x below) → first_kind texts x below ≡ Name
    → formal_named (scope_formals texts.macros (x ∷ below) (open_scope x below)) (first_bytes texts x below) ≡ Some place
    → found_standing texts.macros (scope_open (x ∷ below) (open_scope x below)) (open_scope x below) place ≡ Some new → length (x ∷ below) < depth
    → open_left rules s line depth texts (x ∷ below) ≡ open_left rules s line depth texts (new ∷ first_after texts x below ∷ below)
step-formal rules s line depth texts x below place new h some name named found room =
    formal-walk rules s line depth texts x below place new h some name named found
    ∙ opens-room rules s line depth texts new (first_after texts x below ∷ below) room

-- and is a fault where there is none
pub step-formal_deep : (rules : Rules) (s : State) (line depth : ℕ) (texts : Texts) (x : Open) (below : List Open) (place : ℕ) (new : Open)
    → AreOpen texts (x ∷ below) → 0 < length (open_bytes texts x below) → first_kind texts x below ≡ Name
    → formal_named (scope_formals texts.macros (x ∷ below) (open_scope x below)) (first_bytes texts x below) ≡ Some place
    → found_standing texts.macros (scope_open (x ∷ below) (open_scope x below)) (open_scope x below) place ≡ Some new → depth ≤ length (x ∷ below)
    → open_left rules s line depth texts (x ∷ below) ≡ fails (fault_at DepthPassed line [] s)
step-formal_deep rules s line depth texts x below place new h some name named found deep =
    let rest = first_after texts x below in
    formal-walk rules s line depth texts x below place new h some name named found
    ∙ opens-deep rules s line depth (open_hide_set texts new (rest ∷ below)) (open_items texts new (rest ∷ below)) (suc (length below))
    (open_left rules s line depth texts (rest ∷ below)) deep

-- a token that no body marks is as it is written, in a scope of its own
plain-own : (texts : Texts) (kind : OpenKind) (text : List ℕ) (item : SourceToken → Item) (o : List (List ℕ)) (t : SourceToken)
    → ((macro : List ℕ) (formals : List Formal) (actuals : List (List Item)) → marked macro formals actuals o t ≡ Written t) → own_item texts kind text item o t ≡ Written t
unfolding own_item
plain-own texts (OpenBody id parts) text item o t e =
    e (macro_at texts.macros id).name (formals_of (macro_at texts.macros id)) (part_items item text parts)
plain-own texts _ text item o t e = refl

-- a choice of items that are one
one-choice : (b : Bool) (x y z : Item) → x ≡ z → y ≡ z → (if b then x else y) ≡ z
one-choice true x y z e f = e
one-choice false x y z e f = f

-- a token that no body marks is as it is written
plain-item : (texts : Texts) (opens : List Open) (k : ℕ) (t : SourceToken)
    → ((macro : List ℕ) (formals : List Formal) (actuals : List (List Item)) (o : List (List ℕ)) → marked macro formals actuals o t ≡ Written t)
    → item_at texts opens k t ≡ Written t
unfolding item_at
plain-item texts [] k t e = refl
plain-item texts (x ∷ below) k t e = grind (arith, one-choice, plain-own, (plain-item texts below k t e))

-- a token that stands for itself is as it is written, by its kind
alone-item : (texts : Texts) (opens : List Open) (k : ℕ) (kind : Kind) (bytes : List ℕ) → AreOpen texts opens → Alone kind (formal_named (scope_formals texts.macros opens k) bytes)
    → item_at texts opens k (record { sort = Ordinary kind; bytes = bytes; line = 0 }) ≡ Written (record { sort = Ordinary kind; bytes = bytes; line = 0 })
unfolding Alone StandsFor marked
alone-item texts opens k Name bytes h a =
    subst (λ (p : Option ℕ). StandsFor texts opens (scope_open opens k) k p (name_token bytes) (item_at texts opens k (name_token bytes))) a (name-stands texts opens k bytes h)
alone-item texts opens k kind bytes h a =
    plain-item texts opens k (record { sort = Ordinary kind; bytes = bytes; line = 0 }) (λ macro formals actuals o. refl)

-- (2) a first token that is copied and stands for itself is lent
pub step-copies : (rules : Rules) (s : State) (line depth : ℕ) (texts : Texts) (x : Open) (below : List Open)
    → AreOpen texts (x ∷ below) → 0 < length (open_bytes texts x below) → is_copied (first_token texts x below) ≡ true
    → Alone (first_kind texts x below) (formal_named (scope_formals texts.macros (x ∷ below) (open_scope x below)) (first_bytes texts x below))
    → open_left rules s line depth texts (x ∷ below)
    ≡ and_then (gives (first_bytes texts x below)) (open_left rules s line depth texts (first_after texts x below ∷ below))
unfolding first_token first_after
step-copies rules s line depth texts x below h some copied alone =
    let t = token_of x.part.mode (open_bytes texts x below) in
    let token : SourceToken = record { sort = Ordinary (first_kind texts x below); bytes = first_bytes texts x below; line = 0 } in
    let deeper = deeper_of rules s (room_in depth below) in
    let o = open_hide_set texts x below in
    let items = open_items texts (first_after texts x below) below in
    let under = open_left rules s line depth texts below in
    first-walk rules s line depth texts x below (Written token) some
    (alone-item texts (x ∷ below) (open_scope x below) (first_kind texts x below) (first_bytes texts x below) h alone)
    ∙ ap (λ (y : Outcome). and_then y under) (walk_copied rules s deeper (Some line) o token items copied)
    ∙ and_then-assoc (gives (first_bytes texts x below)) (walk rules s deeper (Some line) o 0 items) under
    ∙ ap (λ (y : Outcome). and_then (gives (first_bytes texts x below)) y) (following-walk rules s line depth texts x below t.len t.next_mode)

-- (6) a lone backquote is a fault
pub step-bare : (rules : Rules) (s : State) (line depth : ℕ) (texts : Texts) (x : Open) (below : List Open)
    → 0 < length (open_bytes texts x below) → first_kind texts x below ≡ BareBackquote
    → open_left rules s line depth texts (x ∷ below) ≡ fails (fault_at NoName line [] s)
unfolding walk marked
step-bare rules s line depth texts x below some e =
    let token : SourceToken = record { sort = Ordinary BareBackquote; bytes = first_bytes texts x below; line = 0 } in
    first-walk rules s line depth texts x below (Written token) some
    (ap (λ (t : SourceToken). item_at texts (x ∷ below) (open_scope x below) t) (first-named texts x below BareBackquote e)
    ∙ plain-item texts (x ∷ below) (open_scope x below) token (λ macro formals actuals o. refl))
    ∙ and_then-fails (fault_at NoName line [] s) (open_left rules s line depth texts below)

-- what remains at a usage, by what it comes to
pub usage-left : (rules : Rules) (s : State) (line depth : ℕ) (texts : Texts) (x : Open) (below : List Open) (u : Usage Item)
    → 0 < length (open_bytes texts x below) → first_kind texts x below ≡ Back
    → usage_of rules s (item_reads (Some line)) line (open_hide_set texts x below) (drop 1 (first_bytes texts x below)) (open_items texts (first_after texts x below) below) ≡ u
    → open_left rules s line depth texts (x ∷ below)
    ≡ and_then (usage_walk rules s (deeper_of rules s (room_in depth below)) (Some line) (open_hide_set texts x below) line
    (open_items texts (first_after texts x below) below) u) (open_left rules s line depth texts below)
unfolding marked
usage-left rules s line depth texts x below u some e comes =
    let token : SourceToken = record { sort = Ordinary Back; bytes = first_bytes texts x below; line = 0 } in
    let deeper = deeper_of rules s (room_in depth below) in
    let o = open_hide_set texts x below in
    let items = open_items texts (first_after texts x below) below in
    first-walk rules s line depth texts x below (Written token) some
    (ap (λ (t : SourceToken). item_at texts (x ∷ below) (open_scope x below) t) (first-named texts x below Back e)
    ∙ plain-item texts (x ∷ below) (open_scope x below) token (λ macro formals actuals o. refl))
    ∙ ap (λ (y : Outcome). and_then y (open_left rules s line depth texts below)) (usage_walks rules s deeper (Some line) o (first_bytes texts x below) 0 items u comes)

-- the items of the body that a call opens are its macro's, with the parts of the call as actuals
pub body-items : (texts : Texts) (id : ℕ) (parts : List Part) (scope : ℕ) (opens : List Open)
    → open_items texts (open_body texts id parts scope) opens
    ≡ substituted (macro_at texts.macros id) (part_items (item_at texts opens scope) (scope_text texts opens scope) parts) (hide_set texts opens scope)
unfolding open_items open_body open_scope own_item substituted text_around own_text
body-items texts id parts scope opens = grind (arith, item-own, part-whole)

-- and it is written in the text of its macro, and of those around its call
pub body-hidden : (texts : Texts) (id : ℕ) (parts : List Part) (scope : ℕ) (opens : List Open)
    → open_hide_set texts (open_body texts id parts scope) opens ≡ (macro_at texts.macros id).name ∷ hide_set texts opens scope
unfolding open_body open_scope own_hide_set
body-hidden texts id parts scope opens =
    hidden-own texts (record { part = record { from = 0; end = length (macro_at texts.macros id).body; mode = Plain }; parent = scope; kind = OpenBody id parts }) opens

-- the scope of an open text that goes on is in the text of the same macros
pub scope-hidden : (texts : Texts) (x : Open) (below : List Open) (n : ℕ) (mode : Mode) → hide_set texts (open_after x n mode ∷ below) (open_scope x below) ≡ open_hide_set texts x below
unfolding open_after hide_set
scope-hidden texts x below n mode = refl

-- what remains of the body that a usage in a source opens is what its items expand to, with the parts of what is kept of its call as
-- actuals
pub first-left : (rules : Rules) (s : State) (line d : ℕ) (texts : Texts) (id : ℕ) (parts : List Part)
    → open_left rules s line (suc d) texts (open_body texts id parts 0 ∷ [])
    ≡ expand rules s d (Some line) ((macro_at texts.macros id).name ∷ [])
    (substituted (macro_at texts.macros id) (map (map Written) (map (part_tokens texts.arguments) parts)) [])
unfolding open_left hide_set item_at scope_text
first-left rules s line d texts id parts =
    let m = macro_at texts.macros id in
    let new = open_body texts id parts 0 in
    let same : suc d - 1 ≡ d = omega arith in
    and_then-nil (expand rules s (suc d - 1) (Some line) (open_hide_set texts new []) (open_items texts new []))
    ∙ ap (λ (n : ℕ). expand rules s n (Some line) (open_hide_set texts new []) (open_items texts new [])) same
    ∙ ap (λ (w : List (List ℕ)). expand rules s d (Some line) w (open_items texts new [])) (body-hidden texts id parts 0 [] ∙ none)
    ∙ ap (λ (xs : List Item). expand rules s d (Some line) (m.name ∷ []) xs) (body-items texts id parts 0 [] ∙ actuals)
  where
    none : (macro_at texts.macros id).name ∷ hide_set texts [] 0 ≡ (macro_at texts.macros id).name ∷ []
    none = refl

    written : (ps : List Part) → part_items (item_at texts [] 0) texts.arguments ps ≡ map (map Written) (map (part_tokens texts.arguments) ps)
    written [] = refl
    written (p ∷ ps) = ap (λ (xs : List (List Item)). map Written (part_tokens texts.arguments p) ∷ xs) (written ps)

    actuals : substituted (macro_at texts.macros id) (part_items (item_at texts [] 0) (scope_text texts [] 0) parts) (hide_set texts [] 0)
        ≡ substituted (macro_at texts.macros id) (map (map Written) (map (part_tokens texts.arguments) parts)) []
    actuals = ap (λ (xs : List (List Item)). substituted (macro_at texts.macros id) xs []) (written parts)

-- the mode in which an open text is read makes no difference where its bytes have the same tokens in another one
pub left-mode : (rules : Rules) (s : State) (line depth : ℕ) (texts : Texts) (x : Open) (below : List Open) (n : ℕ) (mode next : Mode)
    → text_tokens mode (open_bytes texts (open_after x n mode) below) ≡ text_tokens next (open_bytes texts (open_after x n mode) below)
    → open_left rules s line depth texts (open_after x n mode ∷ below) ≡ open_left rules s line depth texts (open_after x n next ∷ below)
unfolding open_left open_items part_tokens open_bytes open_after item_at open_scope hide_set
left-mode rules s line depth texts x below n mode next e = grind arith

-- A usage in an open text, by the tokens after its name: its fault, or the body that it opens.

-- a name has the role of text, whether it is marked or not
name-role : (macro : List ℕ) (o : List (List ℕ)) (bytes : List ℕ) (line : ℕ) (standing : Option (Standing Item))
    → item_role (mark_or macro o (record { sort = Ordinary Name; bytes = bytes; line = line }) standing) ≡ token_role (record { sort = Ordinary Name; bytes = bytes; line = line })
unfolding item_role mark_or mark_of token_role kind_role
name-role macro o bytes line None = refl
name-role macro o bytes line (Some (Given actual)) = refl
name-role macro o bytes line (Some (Defaulted text)) = refl

-- a token of a body has its role as an item, by what it is
marked-role : (macro : List ℕ) (formals : List Formal) (actuals : List (List Item)) (o : List (List ℕ)) (sort : Sort) (bytes : List ℕ) (line : ℕ)
    → item_role (marked macro formals actuals o (record { sort = sort; bytes = bytes; line = line })) ≡ token_role (record { sort = sort; bytes = bytes; line = line })
unfolding item_role marked
marked-role macro formals actuals o (Ordinary Name) bytes line = name-role macro o bytes line (bound_to formals actuals bytes)
marked-role macro formals actuals o sort bytes line = refl

-- a token of a scope of its own has its role as an item
own-role : (texts : Texts) (kind : OpenKind) (text : List ℕ) (item : SourceToken → Item) (o : List (List ℕ)) (t : SourceToken)
    → item_role (own_item texts kind text item o t) ≡ token_role t
unfolding own_item item_role
own-role texts (OpenBody id parts) text item o t =
    marked-role (macro_at texts.macros id).name (formals_of (macro_at texts.macros id)) (part_items item text parts) o t.sort t.bytes t.line
own-role texts _ text item o t = refl

-- a choice of items with one role
role-choice : (b : Bool) (x y : Item) (t : SourceToken) → item_role x ≡ token_role t → item_role y ≡ token_role t → item_role (if b then x else y) ≡ token_role t
role-choice true x y t e f = e
role-choice false x y t e f = f

-- a token has its role as an item
item-role : (texts : Texts) (opens : List Open) (k : ℕ) (t : SourceToken) → item_role (item_at texts opens k t) ≡ token_role t
unfolding item_at item_role
item-role texts [] k t = refl
item-role texts (x ∷ below) k t = grind (arith, role-choice, own-role, (item-role texts below k t))

-- a mark or a token without its line, whatever it stands for
name-unlined : (macro : List ℕ) (o : List (List ℕ)) (t : SourceToken) (standing : Option (Standing Item)) → unlined_item (mark_or macro o t standing) ≡ mark_or macro o (unlined t) standing
unfolding unlined_item mark_or mark_of
name-unlined macro o t None = refl
name-unlined macro o t (Some (Given actual)) = refl
name-unlined macro o t (Some (Defaulted text)) = refl

-- a token of a body without its line, by what it is
marked-unlined : (macro : List ℕ) (formals : List Formal) (actuals : List (List Item)) (o : List (List ℕ)) (sort : Sort) (bytes : List ℕ) (line : ℕ)
    → unlined_item (marked macro formals actuals o (record { sort = sort; bytes = bytes; line = line })) ≡ marked macro formals actuals o (unlined (record { sort = sort; bytes = bytes; line = line }))
unfolding unlined_item unlined marked
marked-unlined macro formals actuals o (Ordinary Name) bytes line =
    name-unlined macro o (record { sort = Ordinary Name; bytes = bytes; line = line }) (bound_to formals actuals bytes)
marked-unlined macro formals actuals o sort bytes line = refl

-- a token of a scope of its own without its line
own-unlined : (texts : Texts) (kind : OpenKind) (text : List ℕ) (item : SourceToken → Item) (o : List (List ℕ)) (t : SourceToken)
    → unlined_item (own_item texts kind text item o t) ≡ own_item texts kind text item o (unlined t)
unfolding own_item unlined_item
own-unlined texts (OpenBody id parts) text item o t =
    marked-unlined (macro_at texts.macros id).name (formals_of (macro_at texts.macros id)) (part_items item text parts) o t.sort t.bytes t.line
own-unlined texts _ text item o t = refl

-- a choice of items without their lines
unlined-choice : (b : Bool) (x y u v : Item) → unlined_item x ≡ u → unlined_item y ≡ v → unlined_item (if b then x else y) ≡ (if b then u else v)
unlined-choice true x y u v e f = e
unlined-choice false x y u v e f = f

-- a token of a scope without its line
item-unlined : (texts : Texts) (opens : List Open) (k : ℕ) (t : SourceToken) → unlined_item (item_at texts opens k t) ≡ item_at texts opens k (unlined t)
unfolding item_at unlined_item
item-unlined texts [] k t = refl
item-unlined texts (x ∷ below) k t = grind (arith, unlined-choice, own-unlined, (item-unlined texts below k t))

-- a token of a scope is read as its item is
item-keeps : (texts : Texts) (opens : List Open) (k line : ℕ) → KeepsReads text_reads (item_reads (Some line)) (item_at texts opens k)
unfolding item_size not_kept
item-keeps texts opens k line = grind (arith, item-role, item-unlined)

-- the scope of an open text that goes on has the text in which that lies
pub scope-text : (texts : Texts) (x : Open) (below : List Open) (n : ℕ) (mode : Mode) → x.parent ≤ length below
    → scope_text texts (open_after x n mode ∷ below) (open_scope x below) ≡ text_around texts x.kind x.parent below
unfolding open_scope text_around scope_text open_after
scope-text texts x below n mode h = grind (arith, next_is, text-around)

-- the tokens after the first one of an open text
unfoldable pub tokens_after : Texts → Open → List Open → List SourceToken
tokens_after texts x below = part_tokens (text_around texts x.kind x.parent below) (first_after texts x below).part

-- their items
following-items : (texts : Texts) (x : Open) (below : List Open)
    → open_items texts (first_after texts x below) below ≡ map (item_at texts (x ∷ below) (open_scope x below)) (tokens_after texts x below)
unfolding open_items tokens_after first_after open_after item_at open_scope
following-items texts x below = refl

-- the items of an open text after some of its bytes
following-part : (texts : Texts) (x : Open) (below : List Open) (n : ℕ) (mode : Mode)
    → map (item_at texts (x ∷ below) (open_scope x below)) (part_tokens (text_around texts x.kind x.parent below) (open_after x n mode).part) ≡ open_items texts (open_after x n mode) below
unfolding open_items open_after item_at open_scope
following-part texts x below n mode = refl

-- its scope has the same items
scope-items : (texts : Texts) (x : Open) (below : List Open) (n : ℕ) (mode : Mode) → item_at texts (x ∷ below) (open_scope x below) ≡ item_at texts (open_after x n mode ∷ below) (open_scope x below)
unfolding item_at open_after
scope-items texts x below n mode = refl

-- parts of a text as items
items-parts : (item : SourceToken → Item) (text : List ℕ) (parts : List Part) → map (map item) (map (part_tokens text) parts) ≡ part_items item text parts
items-parts item text [] = refl
items-parts item text (p ∷ ps) = ap (λ (xs : List (List Item)). map item (part_tokens text p) ∷ xs) (items-parts item text ps)

-- what the usage at the front of an open text comes to
unfoldable pub first_usage : Rules → State → ℕ → Texts → Open → List Open → Usage SourceToken
first_usage rules s line texts x below =
    usage_of rules s text_reads line (open_hide_set texts x below) (drop 1 (first_bytes texts x below)) (tokens_after texts x below)

-- what remains at a usage, by what it comes to
usage-walks-on : (rules : Rules) (s : State) (line depth : ℕ) (texts : Texts) (x : Open) (below : List Open) (u : Usage SourceToken)
    → 0 < length (open_bytes texts x below) → first_kind texts x below ≡ Back → first_usage rules s line texts x below ≡ u
    → open_left rules s line depth texts (x ∷ below)
    ≡ and_then (usage_walk rules s (deeper_of rules s (room_in depth below)) (Some line) (open_hide_set texts x below) line
    (open_items texts (first_after texts x below) below) (map_usage (item_at texts (x ∷ below) (open_scope x below)) u)) (open_left rules s line depth texts below)
unfolding first_usage
usage-walks-on rules s line depth texts x below u some back comes = grind (arith, usage-left, following-items, usage-map, item-keeps)

-- (4, 5) a usage that is refused is its fault
pub step-refused : (rules : Rules) (s : State) (line depth : ℕ) (texts : Texts) (x : Open) (below : List Open) (f : FaultKind) (word : List ℕ) (at : ℕ)
    → 0 < length (open_bytes texts x below) → first_kind texts x below ≡ Back → first_usage rules s line texts x below ≡ UsageFault f word at
    → open_left rules s line depth texts (x ∷ below) ≡ fails (fault_at f at word s)
unfolding usage_walk map_usage
step-refused rules s line depth texts x below f word at some back comes =
    usage-walks-on rules s line depth texts x below (UsageFault f word at) some back comes
    ∙ and_then-fails (fault_at f at word s) (open_left rules s line depth texts below)

-- a usage that opens a body where no further text may be open is a fault
pub step-usage_deep : (rules : Rules) (s : State) (line depth : ℕ) (texts : Texts) (x : Open) (below : List Open) (m : Macro) (actuals : List (List SourceToken)) (used : ℕ)
    → 0 < length (open_bytes texts x below) → first_kind texts x below ≡ Back → first_usage rules s line texts x below ≡ Opens m actuals used → depth ≤ length (x ∷ below)
    → open_left rules s line depth texts (x ∷ below) ≡ fails (fault_at DepthPassed line [] s)
unfolding usage_walk map_usage
step-usage_deep rules s line depth texts x below m actuals used some back comes deep =
    let deeper = deeper_of rules s (room_in depth below) in
    let o = open_hide_set texts x below in
    let items = map (map (item_at texts (x ∷ below) (open_scope x below))) actuals in
    let rest = walk rules s deeper (Some line) o used (open_items texts (first_after texts x below) below) in
    let under = open_left rules s line depth texts below in
    usage-walks-on rules s line depth texts x below (Opens m actuals used) some back comes
    ∙ and_then-assoc (deeper line (m.name ∷ o) (substituted m items o)) rest under
    ∙ opens-deep rules s line depth (m.name ∷ o) (substituted m items o) (suc (length below)) (and_then rest under) deep

-- the actuals of a call as items: the parts of the text of its scope
actual-items : (texts : Texts) (x : Open) (below : List Open) (n : ℕ) (mode : Mode) (parts : List Part) → x.parent ≤ length below
    → map (map (item_at texts (x ∷ below) (open_scope x below))) (map (part_tokens (text_around texts x.kind x.parent below)) parts)
    ≡ part_items (item_at texts (open_after x n mode ∷ below) (open_scope x below)) (scope_text texts (open_after x n mode ∷ below) (open_scope x below)) parts
actual-items texts x below n mode parts h = grind (arith, items-parts, scope-text, scope-items)

-- (4, 5) a usage that opens a macro of the table opens its body, with parts of the text in which its call is written as actuals, where
-- there is room: the tokens after its call are those of a part
pub step-usage : (rules : Rules) (s : State) (line depth : ℕ) (texts : Texts) (x : Open) (below : List Open) (id : ℕ) (parts : List Part) (used n : ℕ) (mode : Mode)
    → x.parent ≤ length below → 0 < length (open_bytes texts x below) → first_kind texts x below ≡ Back
    → first_usage rules s line texts x below ≡ Opens (macro_at texts.macros id) (map (part_tokens (text_around texts x.kind x.parent below)) parts) used
    → drop used (tokens_after texts x below) ≡ part_tokens (text_around texts x.kind x.parent below) (open_after x n mode).part
    → length (x ∷ below) < depth
    → open_left rules s line depth texts (x ∷ below) ≡ open_left rules s line depth texts (open_body texts id parts (open_scope x below) ∷ open_after x n mode ∷ below)
unfolding usage_walk map_usage
step-usage rules s line depth texts x below id parts used n mode h some back comes left room =
    let m = macro_at texts.macros id in
    let scope = open_scope x below in
    let opens : List Open = open_after x n mode ∷ below in
    let new = open_body texts id parts scope in
    let item = item_at texts (x ∷ below) scope in
    let given = map (map item) (map (part_tokens (text_around texts x.kind x.parent below)) parts) in
    let actuals = part_items (item_at texts opens scope) (scope_text texts opens scope) parts in
    let deeper = deeper_of rules s (room_in depth below) in
    let o = open_hide_set texts x below in
    let items = open_items texts (first_after texts x below) below in
    let body = deeper line (m.name ∷ o) (substituted m given o) in
    let last = open_left rules s line depth texts opens in
    usage-walks-on rules s line depth texts x below (Opens m (map (part_tokens (text_around texts x.kind x.parent below)) parts) used) some back comes
    ∙ and_then-assoc body (walk rules s deeper (Some line) o used items) (open_left rules s line depth texts below)
    ∙ ap (λ (y : Outcome). and_then body (and_then y (open_left rules s line depth texts below)))
    (walk_skip rules s deeper (Some line) o used items
    ∙ ap (λ (xs : List Item). walk rules s deeper (Some line) o 0 xs)
    (ap (λ (xs : List Item). drop used xs) (following-items texts x below) ∙ drop-map item used (tokens_after texts x below) ∙ ap (λ (ts : List SourceToken). map item ts) left ∙ following-part texts x below n mode))
    ∙ ap (λ (y : Outcome). and_then body y) (following-walk rules s line depth texts x below n mode)
    ∙ ap (λ (xs : List (List Item)). and_then (deeper line (m.name ∷ o) (substituted m xs o)) last) (actual-items texts x below n mode parts h)
    ∙ ap (λ (w : List (List ℕ)). and_then (deeper line (m.name ∷ w) (substituted m actuals w)) last) (sym (scope-hidden texts x below n mode))
    ∙ ap (λ (xs : List Item). and_then (deeper line (m.name ∷ hide_set texts opens scope) xs) last) (sym (body-items texts id parts scope opens))
    ∙ ap (λ (w : List (List ℕ)). and_then (deeper line w (open_items texts new opens)) last) (sym (body-hidden texts id parts scope opens))
    ∙ opens-room rules s line depth texts new opens room
