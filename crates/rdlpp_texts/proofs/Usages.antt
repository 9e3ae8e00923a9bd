-- A usage at the front of the innermost open text.
use Rattle.std.proofs.Common.{◌≡◌, ℕ, suc, ◌+◌, ◌-◌, ◌<◌, ◌≤◌, Bool, true, false, List, [], ◌∷◌, length, take, drop, get_or, refl, sym, ap, subst, ◌∙◌, arith, Some, true≢false, Option, None, option_map, IfSome, bytes_eq, if◌then◌else◌, is_some, nat_le, slice_range, ◌==◌, ◌||◌, eq-eqb, length-drop, length-take}
use Rattle.std.specs.List.{list_any}
use Rattle.std.proofs.lemmas.Grind.{common_steps}
use Rattle.std.proofs.lemmas.List.Elements.{All-get_or}
use Rattle.std.proofs.lemmas.Slice.Eq.{bytes_eq-Decides}
use Rattle.rdlpp_scan.specs.Reserved.{is_reserved}
use Rattle.rdlpp_scan.specs.SourceTokens.{SourceToken}
use Rattle.rdlpp_scan.specs.TokenKinds.{opens_mode}
use Rattle.rdlpp_scan.specs.Tokens.{token_of}
use Rattle.rdlpp_scan.specs.declared.token.Kind.{Kind}
use Rattle.rdlpp_scan.specs.declared.token.Kind.TheVariants.{Back}
use Rattle.rdlpp_scan.specs.declared.token.Mode.TheVariants.{Plain}
use Rattle.rdlpp_scan.proofs.TokenLens.{token_of-part}
use Rattle.rdlpp_define.specs.Macros.{Formal, Macro, IsSoundMacro}
use Rattle.rdlpp_define.specs.Table.{macro_named, IsSound, TableView, macro_at, no_macro, place_named}
use Rattle.rdlpp_table.proofs.Orders.{place_of_name}
use Rattle.rdlpp_meaning.specs.Actuals.{Reads, text_reads}
use Rattle.rdlpp_meaning.specs.Expansion.{Opens, UsageFault, usage_of, usage_of_formals, usage_of_macro}
use Rattle.rdlpp_meaning.specs.Opens.{AreOpen, Open, OpenActual, OpenBody, OpenDefault, OpenKind, Texts, open_after, open_body, open_bytes, open_scope, own_text, own_hide_set, part_tokens, scope_open, text_around, hide_set}
use Rattle.rdlpp_meaning.specs.State.{Rules, State}
use Rattle.rdlpp_meaning.specs.declared.fault.FaultKind.{FaultKind}
use Rattle.rdlpp_meaning.specs.declared.fault.FaultKind.TheVariants.{ArgumentCount, ArgumentsMissing, ArgumentsOpen, BareBackquote, DepthPassed, DirectiveInText, RecursiveMacro, UndefinedMacro}
use Rattle.rdlpp_meaning.proofs.OpenSteps.{first_usage, step-refused as left-refused, step-usage as left-usage, step-usage_deep as left-usage_deep, tokens_after}
use Rattle.rdlpp_meaning.proofs.OpenScopes.{part-whole}
use Rattle.rdlpp_texts.specs.BoundCalls.{is_call_fault}
use Rattle.rdlpp_texts.specs.Digits.{IsFalling}
use Rattle.rdlpp_texts.specs.TextItems.{AreCopied, IsNextItem, IsTextItem, IsPeek, IsPeekAhead}
use Rattle.rdlpp_texts.specs.Opened.{AreParentedFrames, CursorsView, bindings_below, moved_to, open_of, opens_of}
use Rattle.rdlpp_texts.specs.Places.{IsPlaced, IsSource, place_bytes, source_formals, source_text, texts_of}
use Rattle.rdlpp_texts.specs.Scopes.{AreFurtherOut, found_source, front_scope, front_source, innermost_place, kind_source, own_ids, hidden_ids}
use Rattle.rdlpp_texts.specs.Steps.{AreInside, AreSound, IsKnown, IsPlacedStep, IsStep, StaysRefused, StepsTo, wordless}
use Rattle.rdlpp_texts.specs.Usages.{IsRefused, IsUsed, front_name, is_text_fault, unknown_kind}
use Rattle.rdlpp_texts.specs.declared.bindings.Range.{Range}
use Rattle.rdlpp_texts.specs.declared.peek.NextItem.{NextItem}
use Rattle.rdlpp_texts.specs.declared.peek.TextItem.{TextItem}
use Rattle.rdlpp_texts.specs.declared.peek.TextItem.TheVariants as front
use Rattle.rdlpp_texts.specs.declared.peek.Peek.{Peek}
use Rattle.rdlpp_texts.specs.declared.place.TextPlace.{TextPlace}
use Rattle.rdlpp_texts.specs.declared.place.TextSource.{TextSource}
use Rattle.rdlpp_texts.specs.declared.frame.Frame.{Frame}
use Rattle.rdlpp_texts.specs.declared.step.CursorFault.{CursorFault}
use Rattle.rdlpp_texts.specs.declared.step.CursorStep.{CursorStep}
use Rattle.rdlpp_texts.specs.declared.step.CursorStep.TheVariants.{Lends, Refused, Silent}
use Rattle.rdlpp_texts.proofs.Falling.{peek-opens, run-ends, usage-inside as falls-inside}
use Rattle.rdlpp_texts.proofs.Passing.{IsPassed, body-keeps, bytes-following, bytes-first, fault-same, first-moved, first-sound, kind-first, no-formals, no-word, same-front, slice-following}
use Rattle.rdlpp_texts.proofs.Scoping.{opens-length, source-around}
use Rattle.rdlpp_texts.proofs.Stacking.{tail-is}

-- A look at open texts: where the innermost lies, and what stands at its front.

-- the text of a known body or default is one that there is
kind-known : (texts : Texts) (kind : OpenKind) → IsKnown texts.macros kind → IsSource texts (kind_source kind)
kind-known texts OpenActual h = tt
kind-known texts _ h = h

-- so is that of a scope
scope-known : (texts : Texts) (opens : List Open) (k : ℕ) → AreInside texts opens → IsSource texts (found_source (scope_open opens k))
unfolding scope_open
scope-known texts [] k h = tt
scope-known texts (x ∷ below) k h = grind (arith, kind-known, (scope-known texts below k (((h.1).1).1)))

-- the innermost open text lies in a text that there is
pub source-known : (texts : Texts) (x : Open) (below : List Open) → AreInside texts (x ∷ below) → IsSource texts (front_source (x ∷ below))
unfolding front_source
source-known texts x below h = grind (arith, scope-known)

-- a text has a byte, or it has none
has-byte : (text : List ℕ) (other : List ℕ) (n : ℕ) → n ≤ length text → (0 < length text → other ≡ text) → n ≤ length other
has-byte [] other n h e = omega (arith, h)
has-byte (b ∷ bs) other n h e = let same : other ≡ b ∷ bs = e (omega arith) in subst (λ (t : List ℕ). n ≤ length t) (sym same) h

-- the innermost open text ends in the text in which it lies
pub source-inside : (texts : Texts) (x : Open) (below : List Open) → AreInside texts (x ∷ below) → x.part.end ≤ length (source_text texts (front_source (x ∷ below)))
source-inside texts x below h =
    has-byte (text_around texts x.kind x.parent below) (source_text texts (front_source (x ∷ below))) x.part.end (h.1).0 (source-around texts x below)

-- what is left of it lies in a text that there is
pub innermost-placed : (texts : Texts) (opens : List Open) → AreInside texts opens → IfSome (innermost_place opens) (IsPlaced texts)
unfolding innermost_place front_source
innermost-placed texts [] h = tt
innermost-placed texts (x ∷ below) h = grind (arith, source-known, source-inside)

-- what stands ahead in the range in its text stands ahead in the open text
pub peek-front : (texts : Texts) (x : Open) (below : List Open) (source : TextSource) (f : NextItem) → AreInside texts (x ∷ below) → source ≡ front_source (x ∷ below)
    → IsNextItem (source_formals texts source) (slice_range (source_text texts source) x.part.from x.part.end) x.part.from f
    → IsNextItem (source_formals texts (front_source (x ∷ below))) (open_bytes texts x below) x.part.from f
unfolding open_bytes
peek-front texts x below source f h e is = grind (arith, source-around)

-- what stands after what is copied is what a look tells of the open texts of which the innermost goes on there
peek-ahead : (texts : Texts) (x : Open) (below : List Open) (peek : Peek) → peek.source ≡ front_source (x ∷ below) → peek.from ≡ x.part.from → peek.end ≡ x.part.end
    → IsNextItem (source_formals texts (front_source (x ∷ below))) (open_bytes texts x below) x.part.from (record { at = peek.at; front = peek.front })
    → IsPeekAhead texts (x ∷ below) peek
unfolding IsNextItem AreCopied IsPeekAhead IsPeek moved_to front_source open_after
peek-ahead texts x below peek source from end f =
    let formals = source_formals texts (front_source (x ∷ below)) in
    let order = f.0 in
    let back : x.part.from + (peek.at - x.part.from) ≡ peek.at = omega (arith, order) in
    grind (arith, bytes-following)

-- frames from a place on, of which one is read
pub record IsInner (frames : List Frame) (bindings : List Range) (own : Frame) : Type 0 where
  pub rest : List Frame
  pub is : opens_of frames bindings ≡ open_of own bindings ∷ opens_of rest (bindings_below own.kind bindings)

-- the first of frames is the innermost open text
pub inner-is : (frames : List Frame) (bindings : List Range) (own : Frame) → 0 < length frames → own ≡ get_or frames 0 own → IsInner frames bindings own
unfolding opens_of
inner-is [] bindings own some e = absurd (omega (arith, some))
inner-is (y ∷ ys) bindings own some e =
    record { rest = ys; is = ap (λ (z : Frame). open_of z bindings ∷ opens_of ys (bindings_below z.kind bindings)) (sym e) }

-- a look at them tells that
pub peek-is : (texts : Texts) (frames : List Frame) (bindings : List Range) (own : Frame) (peek : Peek) → 0 < length frames → own ≡ get_or frames 0 own
    → AreSound texts (opens_of frames bindings)
    → peek.source ≡ front_source (opens_of frames bindings) → peek.from ≡ own.from → peek.end ≡ own.end
    → IsNextItem (source_formals texts peek.source) (slice_range (source_text texts peek.source) own.from own.end) own.from (record { at = peek.at; front = peek.front })
    → IsPeekAhead texts (opens_of frames bindings) peek
peek-is texts frames bindings own peek some e sound source from end f =
    let inner = inner-is frames bindings own some e in
    let x = open_of own bindings in
    let below = opens_of inner.rest (bindings_below own.kind bindings) in
    let s : AreSound texts (x ∷ below) = subst (λ (o : List Open). AreSound texts o) inner.is sound in
    let at : peek.source ≡ front_source (x ∷ below) = source ∙ ap (λ (o : List Open). front_source o) inner.is in
    subst (λ (o : List Open). IsPeekAhead texts o peek) (sym inner.is)
    (peek-ahead texts x below peek at from end (peek-front texts x below peek.source (record { at = peek.at; front = peek.front }) s.are_inside at f))

-- where they lie there is a text
pub peek-known : (texts : Texts) (frames : List Frame) (bindings : List Range) (own : Frame) (source : TextSource) → 0 < length frames → own ≡ get_or frames 0 own
    → AreSound texts (opens_of frames bindings) → source ≡ front_source (opens_of frames bindings)
    → IsSource texts source × (own.end ≤ length (source_text texts source))
peek-known texts frames bindings own source some e sound is =
    let inner = inner-is frames bindings own some e in
    grind (arith, source-known, source-inside)

-- A usage at the front of the innermost open text: its name, and what it comes to.

-- where a usage lies in its text: it has its backquote, and ends in what is left of the open text, which ends in its text
pub record IsUsageInside (texts : Texts) (peek : Peek) (len : ℕ) : Type 0 where
  pub some : 0 < len
  pub inside : peek.at + len ≤ peek.end
  pub source : IsSource texts peek.source
  pub within : peek.end ≤ length (source_text texts peek.source)

-- the front of a look at a usage
pub front-is : (texts : Texts) (x : Open) (below : List Open) (peek : Peek) (len : ℕ) → peek.front ≡ front.Usage len
    → IsTextItem (source_formals texts (front_source (x ∷ below))) (open_bytes texts x below) peek.front
    → IsTextItem (source_formals texts (front_source (x ∷ below))) (open_bytes texts x below) (front.Usage len)
front-is texts x below peek len e f = subst (λ (f : TextItem). IsTextItem (source_formals texts (front_source (x ∷ below))) (open_bytes texts x below) f) e f

-- how long a usage is
usage-some : (texts : Texts) (x : Open) (below : List Open) (len : ℕ)
    → IsTextItem (source_formals texts (front_source (x ∷ below))) (open_bytes texts x below) (front.Usage len)
    → (0 < len) × (len ≤ length (open_bytes texts x below))
unfolding IsTextItem
usage-some texts x below len f = grind (arith, token_of-part)

-- a usage lies there
pub usage-place : (texts : Texts) (opens : List Open) (peek : Peek) (len : ℕ) → AreSound texts opens → IsPeek texts opens peek → peek.front ≡ front.Usage len
    → IsUsageInside texts peek len
unfolding IsPeek open_bytes
usage-place texts [] peek len h l e = absurd l
usage-place texts (x ∷ below) peek len h l e = grind (arith, usage-some, front-is, length-take, source-known, source-inside)

-- a part of a text after its first byte
following-first : (text : List ℕ) (from n : ℕ) → from + n ≤ length text → 0 < n → slice_range text (from + 1) (from + n) ≡ drop 1 (slice_range text from (from + n))
following-first text from n h some = grind (arith, length-take, length-drop, slice-following)

-- the name of a usage is what stands after its backquote
pub usage-word : (texts : Texts) (opens : List Open) (peek : Peek) (len from end : ℕ) → AreSound texts opens → IsPeek texts opens peek → peek.front ≡ front.Usage len
    → from ≡ peek.at + 1 → end ≡ peek.at + len
    → place_bytes texts (record { source = peek.source; from = from; end = end }) ≡ front_name texts opens len
unfolding IsPeek front_name place_bytes open_bytes
usage-word texts [] peek len from end h l e f g = absurd l
usage-word texts (x ∷ below) peek len from end h l e f g =
    grind (arith, common_steps, usage-some, front-is, usage-place, following-first, same-front, source-around)

-- what the usage at the front comes to, by its name and the macros in whose text it is written
first-is : (rules : Rules) (s : State) (line : ℕ) (texts : Texts) (x : Open) (below : List Open) (len : ℕ) → x.part.mode ≡ Plain
    → (token_of Plain (open_bytes texts x below)).len ≡ len
    → first_usage rules s line texts x below
    ≡ usage_of rules s text_reads line (hide_set texts (x ∷ below) (front_scope (x ∷ below))) (front_name texts (x ∷ below) len)
    (tokens_after texts x below)
unfolding first_usage front_name front_scope
first-is rules s line texts x below len m e =
    ap (λ (bytes : List ℕ). usage_of rules s text_reads line (hide_set texts (x ∷ below) (open_scope x below)) (drop 1 bytes) (tokens_after texts x below)) (bytes-first texts x below len m e)

-- the name of a directive is refused
reserved-is : (reads : Reads SourceToken) (rules : Rules) (s : State) (line : ℕ) (o : List (List ℕ)) (name : List ℕ) (ts : List SourceToken) → is_reserved name ≡ true
    → usage_of rules s reads line o name ts ≡ UsageFault DirectiveInText name line
unfolding usage_of
reserved-is reads rules s line o name ts e = rw e refl

-- another name is that of a macro, or it is refused
unreserved-is : (reads : Reads SourceToken) (rules : Rules) (s : State) (line : ℕ) (o : List (List ℕ)) (name : List ℕ) (ts : List SourceToken) (found : Option Macro)
    → is_reserved name ≡ false → macro_named s.macros name ≡ found
    → usage_of rules s reads line o name ts ≡ elim found [ None ↦ UsageFault UndefinedMacro name line | Some m ↦ usage_of_macro rules reads line o name ts m ]
unfolding usage_of
unreserved-is reads rules s line o name ts found e f = rw (e, f) refl

-- a macro in whose text its name stands is refused
recursive-is : (reads : Reads SourceToken) (rules : Rules) (line : ℕ) (o : List (List ℕ)) (name : List ℕ) (ts : List SourceToken) (m : Macro)
    → list_any (bytes_eq name) o ≡ true → usage_of_macro rules reads line o name ts m ≡ UsageFault RecursiveMacro name line
unfolding usage_of_macro
recursive-is reads rules line o name ts m e = rw e refl

-- another one is used by its formals
apart-is : (reads : Reads SourceToken) (rules : Rules) (line : ℕ) (o : List (List ℕ)) (name : List ℕ) (ts : List SourceToken) (m : Macro)
    → list_any (bytes_eq name) o ≡ false
    → usage_of_macro rules reads line o name ts m ≡ usage_of_formals rules reads line name ts m m.formals
unfolding usage_of_macro
apart-is reads rules line o name ts m e = rw e refl

-- a name that no macro has is refused
pub unknown-refused : (texts : Texts) (opens : List Open) (name : List ℕ) (reserved : Bool) → macro_named texts.macros name ≡ None → is_reserved name ≡ reserved
    → IsRefused texts opens name (unknown_kind reserved)
unfolding IsRefused
unknown-refused texts opens name true e r rules s line ts m = reserved-is text_reads rules s line _ name ts r
unknown-refused texts opens name false e r rules s line ts m =
    unreserved-is text_reads rules s line _ name ts None r (ap (λ (macros : List Macro). macro_named macros name) m ∙ e)

-- so is a name that stands in the text of its macro
pub recursive-refused : (texts : Texts) (opens : List Open) (name : List ℕ) (id : ℕ) → is_reserved name ≡ false
    → macro_named texts.macros name ≡ Some (macro_at texts.macros id)
    → list_any (bytes_eq name) (hide_set texts opens (front_scope opens)) ≡ true
    → IsRefused texts opens name RecursiveMacro
unfolding IsRefused
recursive-refused texts opens name id r e w rules s line ts m = grind (arith, unreserved-is, recursive-is)

-- a usage of a macro comes to what its formals tell
pub first-used : (rules : Rules) (s : State) (line : ℕ) (texts : Texts) (x : Open) (below : List Open) (len id : ℕ) → x.part.mode ≡ Plain
    → (token_of Plain (open_bytes texts x below)).len ≡ len
    → IsUsed texts (x ∷ below) (front_name texts (x ∷ below) len) id → s.macros ≡ texts.macros
    → first_usage rules s line texts x below
    ≡ usage_of_formals rules text_reads line (front_name texts (x ∷ below) len) (tokens_after texts x below)
    (macro_at texts.macros id) (macro_at texts.macros id).formals
first-used rules s line texts x below len id mode e used m =
    let name = front_name texts (x ∷ below) len in
    let ts = tokens_after texts x below in
    first-is rules s line texts x below len mode e
    ∙ unreserved-is text_reads rules s line _ name ts (Some (macro_at texts.macros id)) used.unreserved (ap (λ (macros : List Macro). macro_named macros name) m ∙ used.named)
    ∙ apart-is text_reads rules line _ name ts (macro_at texts.macros id) used.apart

-- a usage that is refused
pub step-refused : (line depth : ℕ) (texts : Texts) (x : Open) (below : List Open) (len : ℕ) (kind : FaultKind) (new : List Open) (fault : CursorFault) → AreSound texts (x ∷ below)
    → IsTextItem (source_formals texts (front_source (x ∷ below))) (open_bytes texts x below) (front.Usage len)
    → IsRefused texts (x ∷ below) (front_name texts (x ∷ below) len) kind
    → fault.kind ≡ kind → place_bytes texts fault.word ≡ front_name texts (x ∷ below) len
    → IsStep line depth texts (x ∷ below) (Refused fault) new
unfolding IsStep StepsTo IsTextItem IsRefused
step-refused line depth texts x below len kind new fault h f r k w rules s m =
    let mode : x.part.mode ≡ Plain = (h.are_inside).1.1.0 in
    let name = front_name texts (x ∷ below) len in
    left-refused rules s line depth texts x below kind name line f.0 (kind-first texts x below Back mode f.1)
    (first-is rules s line texts x below len mode f.2 ∙ r rules s line (tokens_after texts x below) m)
    ∙ sym (fault-same s line texts fault kind name k w)

-- a usage of a macro without a list opens its body, whatever it is told by
plain-opens : (reads : Reads SourceToken) (rules : Rules) (line : ℕ) (name : List ℕ) (ts : List SourceToken) (m : Macro) → m.formals ≡ None
    → usage_of_formals rules reads line name ts m m.formals ≡ Opens m [] 0
unfolding usage_of_formals
plain-opens reads rules line name ts m e = rw e refl

-- a backquote with a name closes
pub back-closes : (kind : Kind) → kind ≡ Back → opens_mode kind ≡ false
unfolding opens_mode
back-closes kind e = ap (λ (k : Kind). opens_mode k) e

-- the body of a macro without a list is opened, where there is room
pub step-opened : (line depth : ℕ) (texts : Texts) (x : Open) (below : List Open) (len id : ℕ) → AreSound texts (x ∷ below)
    → IsTextItem (source_formals texts (front_source (x ∷ below))) (open_bytes texts x below) (front.Usage len)
    → IsUsed texts (x ∷ below) (front_name texts (x ∷ below) len) id → (macro_at texts.macros id).formals ≡ None
    → length (x ∷ below) < depth
    → IsStep line depth texts (x ∷ below) Silent (open_body texts id [] (open_scope x below) ∷ moved_to (x.part.from + len) (x ∷ below))
unfolding IsStep StepsTo IsTextItem moved_to open_after tokens_after
step-opened line depth texts x below len id h f used none room rules s m =
    let mode : x.part.mode ≡ Plain = (h.are_inside).1.1.0 in
    let ts = tokens_after texts x below in
    left-usage rules s line depth texts x below id [] 0 len Plain (h.are_open).0 f.0 (kind-first texts x below Back mode f.1)
    (first-used rules s line texts x below len id mode f.2 used m ∙ plain-opens text_reads rules line _ ts (macro_at texts.macros id) none)
    (ap (λ (y : Open). part_tokens (text_around texts x.kind x.parent below) y.part) (first-moved texts x below len mode (back-closes _ f.1) f.2)) room

-- and is a fault where there is none
pub step-opened_deep : (line depth : ℕ) (texts : Texts) (x : Open) (below : List Open) (len id : ℕ) (new : List Open) (fault : CursorFault) → AreSound texts (x ∷ below)
    → IsTextItem (source_formals texts (front_source (x ∷ below))) (open_bytes texts x below) (front.Usage len)
    → IsUsed texts (x ∷ below) (front_name texts (x ∷ below) len) id → (macro_at texts.macros id).formals ≡ None
    → depth ≤ length (x ∷ below) → fault.kind ≡ DepthPassed → place_bytes texts fault.word ≡ []
    → IsStep line depth texts (x ∷ below) (Refused fault) new
unfolding IsStep StepsTo IsTextItem
step-opened_deep line depth texts x below len id new fault h f used none deep k w rules s m =
    let mode : x.part.mode ≡ Plain = (h.are_inside).1.1.0 in
    let ts = tokens_after texts x below in
    left-usage_deep rules s line depth texts x below (macro_at texts.macros id) [] 0 f.0 (kind-first texts x below Back mode f.1)
    (first-used rules s line texts x below len id mode f.2 used m ∙ plain-opens text_reads rules line _ ts (macro_at texts.macros id) none) deep
    ∙ sym (fault-same s line texts fault DepthPassed [] k w)

-- the macros in whose text a scope is, by name and by place
pub hidden-ids : (texts : Texts) (opens : List Open) (k id : ℕ) (name : List ℕ) → AreInside texts opens
    → ((j : ℕ) → j < length texts.macros → bytes_eq name (macro_at texts.macros j).name ≡ (id == j))
    → list_any (bytes_eq name) (hide_set texts opens k) ≡ list_any (λ j. id == j) (hidden_ids opens k)
unfolding hide_set hidden_ids own_hide_set
hidden-ids texts [] k id name h alone = refl
hidden-ids texts (x ∷ below) k id name h alone =
    by (k == suc (length below)) (kind-ids x.kind h.0 (hidden-ids texts below x.parent id name rest alone)) (hidden-ids texts below k id name rest alone)
  where
    rest : AreInside texts below
    rest = ((h.1).1).1

    kind-ids : (kind : OpenKind) → IsKnown texts.macros kind
        → list_any (bytes_eq name) (hide_set texts below x.parent) ≡ list_any (λ j. id == j) (hidden_ids below x.parent)
        → list_any (bytes_eq name) (own_hide_set texts kind (hide_set texts below x.parent)) ≡ list_any (λ j. id == j) (own_ids kind (hidden_ids below x.parent))
    kind-ids (OpenBody own parts) known e =
        ap (λ (b : Bool). b || list_any (bytes_eq name) (hide_set texts below x.parent)) (alone own known) ∙ ap (λ (b : Bool). (id == own) || b) e
    kind-ids OpenActual known e = refl
    kind-ids (OpenDefault own place) known e = e

    by : (here : Bool) → list_any (bytes_eq name) (own_hide_set texts x.kind (hide_set texts below x.parent)) ≡ list_any (λ j. id == j) (own_ids x.kind (hidden_ids below x.parent))
        → list_any (bytes_eq name) (hide_set texts below k) ≡ list_any (λ j. id == j) (hidden_ids below k)
        → list_any (bytes_eq name) (if here then own_hide_set texts x.kind (hide_set texts below x.parent) else hide_set texts below k)
        ≡ list_any (λ j. id == j) (if here then own_ids x.kind (hidden_ids below x.parent) else hidden_ids below k)
    by true a b = a
    by false a b = b

-- the macro at the place of a name has it
name-at : (table : TableView) (name : List ℕ) (id : ℕ) → IsSound table → place_named table.macros name ≡ Some id → id < length table.macros
    → name ≡ (macro_at table.macros id).name
name-at table name id h e inside =
    (bytes_eq-Decides name (macro_at table.macros id).name).0 (place_of_name table.macros name id id h.distinct e inside ∙ eq-eqb id id refl)

-- a name of a table is no directive's
pub table-unreserved : (table : TableView) (name : List ℕ) (id : ℕ) → IsSound table → place_named table.macros name ≡ Some id → id < length table.macros
    → is_reserved name ≡ false
table-unreserved table name id h e inside =
    ap (λ (n : List ℕ). is_reserved n) (name-at table name id h e inside) ∙ (All-get_or IsSoundMacro table.macros id no_macro inside h.each).unreserved

-- a name stands in the text of its macro where its scope is in that of the macro at its place
pub table-hidden : (table : TableView) (arguments : List ℕ) (opens : List Open) (name : List ℕ) (id : ℕ) (written : Bool) → IsSound table
    → AreInside (texts_of table.macros arguments) opens → place_named table.macros name ≡ Some id
    → written ≡ list_any (λ own. id == own) (hidden_ids opens (front_scope opens))
    → list_any (bytes_eq name) (hide_set (texts_of table.macros arguments) opens (front_scope opens)) ≡ written
table-hidden table arguments opens name id written h inside e w =
    hidden-ids (texts_of table.macros arguments) opens (front_scope opens) id name inside (λ j l. place_of_name table.macros name id j h.distinct e l) ∙ sym w

-- what a search in a table tells of a name in open texts, by whether its scope is in the text of the macro
pub table-used : (table : TableView) (arguments : List ℕ) (opens : List Open) (name : List ℕ) (id : ℕ) → IsSound table
    → AreInside (texts_of table.macros arguments) opens → place_named table.macros name ≡ Some id → id < length table.macros
    → macro_named table.macros name ≡ Some (macro_at table.macros id)
    → false ≡ list_any (λ own. id == own) (hidden_ids opens (front_scope opens))
    → IsUsed (texts_of table.macros arguments) opens name id
table-used table arguments opens name id h inside e l m w = grind (arith, table-unreserved, table-hidden)

-- and it is refused where that is so
pub table-recursive : (table : TableView) (arguments : List ℕ) (opens : List Open) (name : List ℕ) (id : ℕ) → IsSound table
    → AreInside (texts_of table.macros arguments) opens → place_named table.macros name ≡ Some id → id < length table.macros
    → macro_named table.macros name ≡ Some (macro_at table.macros id)
    → true ≡ list_any (λ own. id == own) (hidden_ids opens (front_scope opens))
    → IsRefused (texts_of table.macros arguments) opens name RecursiveMacro
table-recursive table arguments opens name id h inside e l m w =
    recursive-refused (texts_of table.macros arguments) opens name id (table-unreserved table name id h e l) m
    (table-hidden table arguments opens name id true h inside e w)

-- the parents of open texts are further out
pub parents-out : (texts : Texts) (opens : List Open) → AreOpen texts opens → AreFurtherOut opens
parents-out texts [] h = tt
parents-out texts (x ∷ below) h = (h.0, parents-out texts below (h.1).1)

-- they are so in open texts that are the same
pub parents-same : (view mid : CursorsView) → mid ≡ view → AreFurtherOut view.opens → AreFurtherOut mid.opens
parents-same view mid e h = subst (λ (v : CursorsView). AreFurtherOut v.opens) (sym e) h

-- whose scope is in the text of the same macros
pub inside-same : (view mid : CursorsView) (id : ℕ) (written : Bool) → mid ≡ view → written ≡ list_any (λ own. id == own) (hidden_ids mid.opens (front_scope mid.opens))
    → written ≡ list_any (λ own. id == own) (hidden_ids view.opens (front_scope view.opens))
inside-same view mid id written e w = subst (λ (v : CursorsView). written ≡ list_any (λ own. id == own) (hidden_ids v.opens (front_scope v.opens))) e w

-- the parents of open texts are those of their frames
pub frames-parented : (frames : List Frame) (bindings : List Range) → AreFurtherOut (opens_of frames bindings) → AreParentedFrames frames
unfolding opens_of
frames-parented [] bindings h = tt
frames-parented (frame ∷ below) bindings h = grind (arith, opens-length, (frames-parented below (bindings_below frame.kind bindings) h.1))

-- the scope of the innermost open text is one of the open texts
pub scope-inside : (opens : List Open) → AreFurtherOut opens → front_scope opens ≤ length opens
unfolding front_scope open_scope
scope-inside [] h = omega arith
scope-inside (x ∷ below) h = grind arith

-- open texts that go on are as many
pub moved-length : (opens : List Open) (at : ℕ) → length (moved_to at opens) ≡ length opens
unfolding moved_to
moved-length [] at = refl
moved-length (x ∷ below) at = refl

-- after a usage open texts are sound
pub sound-following : (texts : Texts) (opens : List Open) (peek : Peek) (len at : ℕ) → AreSound texts opens → IsPeek texts opens peek → peek.front ≡ front.Usage len
    → at ≡ peek.at + len → AreSound texts (moved_to at opens)
unfolding IsPeek IsTextItem
sound-following texts [] peek len at h l e k = absurd l
sound-following texts (x ∷ below) peek len at h l e k = grind (arith, front-is, first-sound, back-closes)

-- the body of a macro without a list is sound in front of sound open texts that go on
pub sound-used : (table : TableView) (arguments : List ℕ) (opens : List Open) (id at : ℕ) → IsSound table → AreSound (texts_of table.macros arguments) (moved_to at opens)
    → front_scope opens ≤ length opens → id < length table.macros → (macro_at table.macros id).formals ≡ None
    → AreSound (texts_of table.macros arguments) (open_body (texts_of table.macros arguments) id [] (front_scope opens) ∷ moved_to at opens)
unfolding open_body text_around own_text
sound-used table arguments opens id at sound moved scope inside none = grind (arith, moved-length, no-formals, part-whole, body-keeps)

-- by a look: a usage that is refused
peek-refused : (line depth : ℕ) (texts : Texts) (opens : List Open) (peek : Peek) (len from end : ℕ) (kind own : FaultKind) → AreSound texts opens → IsPeek texts opens peek
    → peek.front ≡ front.Usage len → from ≡ peek.at + 1 → end ≡ peek.at + len → own ≡ kind
    → IsRefused texts opens (front_name texts opens len) kind
    → IsStep line depth texts opens (Refused (record { kind = own; word = record { source = peek.source; from = from; end = end } })) opens
unfolding IsPeek
peek-refused line depth texts [] peek len from end kind own h l e f g k r = absurd l
peek-refused line depth texts (x ∷ below) peek len from end kind own h l e f g k r = grind (arith, step-refused, front-is, usage-word)

-- a body for which there is no frame left
peek-deep : (line depth : ℕ) (texts : Texts) (opens : List Open) (peek : Peek) (len id : ℕ) → AreSound texts opens → IsPeek texts opens peek
    → peek.front ≡ front.Usage len → IsUsed texts opens (front_name texts opens len) id → (macro_at texts.macros id).formals ≡ None → depth ≤ length opens
    → IsStep line depth texts opens (wordless DepthPassed) opens
unfolding IsPeek
peek-deep line depth texts [] peek len id h l e used none deep = absurd l
peek-deep line depth texts (x ∷ below) peek len id h l e used none deep = grind (arith, step-opened_deep, front-is, no-word)

-- a body that is opened
peek-opened : (line depth : ℕ) (texts : Texts) (opens : List Open) (peek : Peek) (len id at : ℕ) → AreSound texts opens → IsPeek texts opens peek
    → peek.front ≡ front.Usage len → IsUsed texts opens (front_name texts opens len) id → (macro_at texts.macros id).formals ≡ None → length opens < depth
    → at ≡ peek.at + len
    → IsStep line depth texts opens Silent (open_body texts id [] (front_scope opens) ∷ moved_to at opens)
unfolding IsPeek front_scope
peek-opened line depth texts [] peek len id at h l e used none room k = absurd l
peek-opened line depth texts (x ∷ below) peek len id at h l e used none room k = grind (arith, step-opened, front-is)

-- a usage that is refused
pub pass-refused : (texts : Texts) (view : CursorsView) (peek : Peek) (len : ℕ) (kind : FaultKind) (word : TextPlace) → AreSound texts view.opens → IsPeek texts view.opens peek
    → peek.front ≡ front.Usage len → word ≡ record { source = peek.source; from = peek.at + 1; end = peek.at + len }
    → IsRefused texts view.opens (front_name texts view.opens len) kind
    → IsPassed texts view view (Refused (record { kind = kind; word = word }))
unfolding IsFalling StaysRefused
pass-refused texts view peek len kind word h l e w r = grind (arith, peek-refused)

-- a body for which there is no frame left
pub pass-deep : (texts : Texts) (view : CursorsView) (peek : Peek) (len id : ℕ) → AreSound texts view.opens → IsPeek texts view.opens peek
    → peek.front ≡ front.Usage len → IsUsed texts view.opens (front_name texts view.opens len) id → (macro_at texts.macros id).formals ≡ None
    → view.depth ≤ length view.opens → IsPassed texts view view (wordless DepthPassed)
unfolding IsFalling StaysRefused
pass-deep texts view peek len id h l e used none deep = grind (arith, peek-deep)

-- a body that is opened
pub pass-opened : (table : TableView) (arguments : List ℕ) (view new : CursorsView) (peek : Peek) (len id at : ℕ) → IsSound table
    → AreSound (texts_of table.macros arguments) view.opens → IsPeek (texts_of table.macros arguments) view.opens peek
    → peek.front ≡ front.Usage len → IsUsed (texts_of table.macros arguments) view.opens (front_name (texts_of table.macros arguments) view.opens len) id
    → (macro_at table.macros id).formals ≡ None → length view.opens < view.depth → at ≡ peek.at + len
    → new ≡ record { opens = open_body (texts_of table.macros []) id [] (front_scope view.opens) ∷ moved_to at view.opens; line = view.line; depth = view.depth }
    → IsPassed (texts_of table.macros arguments) view new Silent
unfolding IsFalling StaysRefused open_body
pass-opened table arguments view new peek len id at sound h l e used none room k is =
    let texts = texts_of table.macros arguments in
    let further = falls-inside texts view.opens peek len l e in
    let less = further.0 in
    let inside = further.1 in
    subst (λ (v : CursorsView). IsPassed texts view v Silent) (sym is) (record {
      is_step = peek-opened view.line view.depth texts view.opens peek len id at h l e used none room k;
      sound = sound-used table arguments view.opens id at sound (sound-following texts view.opens peek len at h l e k) (scope-inside view.opens (parents-out texts view.opens h.are_open)) used.inside none;
      kept = (refl, refl);
      digits = peek-opens texts view.opens peek at (open_body texts id [] (front_scope view.opens)) l (omega (arith, less, k)) (omega (arith, inside, k));
      refused = tt;
    })

-- the body of a macro is opened in front of open texts that go on
pub entered : (macros : List Macro) (id end parent at : ℕ) (view mid new : CursorsView) → end ≡ length (macro_at macros id).body → parent ≡ front_scope view.opens
    → mid ≡ record { opens = moved_to at view.opens; line = view.line; depth = view.depth }
    → new ≡ record { opens = record { part = record { from = 0; end = end; mode = Plain }; parent = parent; kind = OpenBody id [] } ∷ mid.opens; line = mid.line; depth = mid.depth }
    → new ≡ record { opens = open_body (texts_of macros []) id [] (front_scope view.opens) ∷ moved_to at view.opens; line = view.line; depth = view.depth }
unfolding open_body
entered macros id end parent at view mid new e h m n = grind arith

-- so it is in front of those that are the same
pub entered-same : (macros : List Macro) (id at : ℕ) (view mid new : CursorsView) → mid ≡ view
    → new ≡ record { opens = open_body (texts_of macros []) id [] (front_scope mid.opens) ∷ moved_to at mid.opens; line = mid.line; depth = mid.depth }
    → new ≡ record { opens = open_body (texts_of macros []) id [] (front_scope view.opens) ∷ moved_to at view.opens; line = view.line; depth = view.depth }
entered-same macros id at view mid new e n =
    n ∙ ap (λ (v : CursorsView). record { opens = open_body (texts_of macros []) id [] (front_scope v.opens) ∷ moved_to at v.opens; line = v.line; depth = v.depth }) e

-- and there is as much room
pub full-same : (view mid : CursorsView) (full : Bool) → mid ≡ view → full ≡ nat_le mid.depth (length mid.opens) → full ≡ nat_le view.depth (length view.opens)
full-same view mid full e f = f ∙ ap (λ (v : CursorsView). nat_le v.depth (length v.opens)) e

-- what changes nothing leaves the same
pub pass-same : (texts : Texts) (view mid : CursorsView) (step : CursorStep) → mid ≡ view → IsPassed texts view view step → IsPassed texts view mid step
pass-same texts view mid step e p = subst (λ (v : CursorsView). IsPassed texts view v step) (sym e) p

-- open texts that go on leave as much room
pub moved-room : (view new : CursorsView) (at : ℕ) → new ≡ record { opens = moved_to at view.opens; line = view.line; depth = view.depth } → length view.opens < view.depth
    → length new.opens < new.depth
moved-room view new at e room =
    subst (λ (v : CursorsView). length v.opens < v.depth) (sym e) (let n = moved-length view.opens at in omega (arith, n, room))

-- the parents of the frames are further out
pub rest-parented : (part items : List Frame) (first : ℕ) (bindings : List Range) → part ≡ items → AreFurtherOut (opens_of (drop first items) bindings)
    → AreParentedFrames (take (length part - first) (drop first part))
rest-parented part items first bindings e parented =
    subst (λ (frames : List Frame). AreParentedFrames frames) (sym (tail-is part items first e)) (frames-parented (drop first items) bindings parented)

-- the place of the name of a usage lies in its text
pub word-inside : (texts : Texts) (opens : List Open) (peek : Peek) (len : ℕ) (word : TextPlace) → AreSound texts opens → IsPeek texts opens peek → peek.front ≡ front.Usage len
    → word ≡ record { source = peek.source; from = peek.at + 1; end = peek.at + len } → IsPlaced texts word
word-inside texts opens peek len word h l e is =
    let place = usage-place texts opens peek len h l e in
    grind arith

-- the name of a usage lies in its text
pub name-inside : (texts : Texts) (opens : List Open) (peek : Peek) (len : ℕ) (text : List ℕ) → AreSound texts opens → IsPeek texts opens peek → peek.front ≡ front.Usage len
    → text ≡ source_text texts peek.source → (peek.at + 1 ≤ peek.at + len) × (peek.at + len ≤ length text)
name-inside texts opens peek len text h l e is =
    let place = usage-place texts opens peek len h l e in
    grind arith

-- and is what stands there
pub name-is : (texts : Texts) (opens : List Open) (peek : Peek) (len : ℕ) (text : List ℕ) → AreSound texts opens → IsPeek texts opens peek → peek.front ≡ front.Usage len
    → text ≡ source_text texts peek.source → slice_range text (peek.at + 1) (peek.at + len) ≡ front_name texts opens len
unfolding place_bytes
name-is texts opens peek len text h l e is =
    ap (λ (t : List ℕ). slice_range t (peek.at + 1) (peek.at + len)) is ∙ usage-word texts opens peek len (peek.at + 1) (peek.at + len) h l e refl refl

-- a name that a table hasn't is refused
pub unknown-given : (texts : Texts) (opens : List Open) (name given : List ℕ) (kind : FaultKind) → given ≡ name → macro_named texts.macros given ≡ None
    → kind ≡ unknown_kind (is_reserved given) → IsRefused texts opens name kind
unknown-given texts opens name given kind e none k = grind (arith, unknown-refused)

-- a macro has no list where it has no count of formals
pub no-list : (formals : Option (List Formal)) (count : Option ℕ) (some : Bool) → count ≡ option_map (λ (fs : List Formal). length fs) formals → some ≡ is_some count
    → some ≡ false → formals ≡ None
no-list None count some e s f = refl
no-list (Some fs) count some e s f = absurd (true≢false (sym (s ∙ ap (λ (o : Option ℕ). is_some o) e) ∙ f))

-- and it has one where it has a count
pub has-list : (formals : Option (List Formal)) (count : Option ℕ) (some : Bool) → count ≡ option_map (λ (fs : List Formal). length fs) formals → some ≡ is_some count
    → some ≡ true → is_some formals ≡ true
has-list None count some e s f = absurd (true≢false (sym f ∙ s ∙ ap (λ (o : Option ℕ). is_some o) e))
has-list (Some fs) count some e s f = refl

-- a fault under the name of a usage is placed
pub placed-word : (texts : Texts) (opens : List Open) (peek : Peek) (len : ℕ) (kind : FaultKind) (word : TextPlace) → AreSound texts opens → IsPeek texts opens peek
    → peek.front ≡ front.Usage len → word ≡ record { source = peek.source; from = peek.at + 1; end = peek.at + len }
    → IsPlacedStep texts (Refused (record { kind = kind; word = word }))
unfolding IsPlacedStep
placed-word texts opens peek len kind word h l e is = word-inside texts opens peek len word h l e is

-- so is one without a word
pub placed-wordless : (texts : Texts) (kind : FaultKind) → IsPlacedStep texts (wordless kind)
unfolding IsPlacedStep
placed-wordless texts kind = record { source = tt; order = omega arith; inside = omega arith }

-- a run that is lent is placed
pub placed-run : (texts : Texts) (opens : List Open) (peek : Peek) → AreSound texts opens → IsPeekAhead texts opens peek → peek.from < peek.at
    → IsPlacedStep texts (Lends (record { source = peek.source; from = peek.from; end = peek.at }))
unfolding IsPeekAhead AreCopied IsPlacedStep
placed-run texts [] peek h l more = absurd l
placed-run texts (x ∷ below) peek h l more =
    let from = l.1 in
    let ends = run-ends texts x below (peek.at - peek.from) (omega (arith, more)) l.3.0 in
    grind (arith, source-inside, source-known)

-- a text stays open after a run that is lent
pub open-run : (old new : CursorsView) (at : ℕ) → 0 < length old.opens → new ≡ record { opens = moved_to at old.opens; line = old.line; depth = old.depth } → 0 < length new.opens
open-run old new at some e = subst (λ (v : CursorsView). 0 < length v.opens) (sym e) (let n = moved-length old.opens at in omega (arith, n, some))

-- an unknown name is a fault of a text
pub fault-unknown : (reserved : Bool) (kind : FaultKind) → kind ≡ unknown_kind reserved → is_text_fault kind ≡ true
unfolding is_text_fault
fault-unknown true kind e = ap (λ (k : FaultKind). is_text_fault k) e
fault-unknown false kind e = ap (λ (k : FaultKind). is_text_fault k) e

-- so is a recursive one
pub fault-recursive : is_text_fault RecursiveMacro ≡ true
unfolding is_text_fault
fault-recursive = refl

-- so is a fault of a call
pub fault-call : (kind : FaultKind) → is_call_fault kind ≡ true → is_text_fault kind ≡ true
unfolding is_text_fault is_call_fault
fault-call ArgumentsMissing e = refl
fault-call ArgumentsOpen e = refl
fault-call ArgumentCount e = refl
fault-call BareBackquote e = refl
fault-call UndefinedMacro e = refl
fault-call RecursiveMacro e = refl
fault-call DirectiveInText e = refl
fault-call DepthPassed e = refl
fault-call kind e = absurd (true≢false (sym e))

-- so is one without a word
pub fault-deep : is_text_fault DepthPassed ≡ true
unfolding is_text_fault
fault-deep = refl

-- and so is a lone backquote
pub fault-bare : is_text_fault BareBackquote ≡ true
unfolding is_text_fault
fault-bare = refl
