-- Steps of open texts at a formal, those that lend nothing, and the words of their faults.
use Rattle.std.proofs.Common.{ap, ◌≡◌, ℕ, suc, ◌+◌, ◌-◌, ◌<◌, ◌≤◌, Bool, true, false, List, [], ◌∷◌, length, take, refl, sym, subst, ◌∙◌, arith, None, Some, zero, drop, ◌^◌, if◌then◌else◌, nat_le, not, ◌&&◌, ◌==◌, eqb-true, le-leb, leb-false, leb-true, true≢false, length-drop, length-take}
use Rattle.std.specs.List.{AllByRecursion, list_all, prefix_len}
use Rattle.std.proofs.lemmas.Bool.{false≢true}
use Rattle.std.proofs.lemmas.List.Quantifiers.{position-Some}
use Rattle.rdlpp_scan.specs.Bytes.{is_word}
use Rattle.rdlpp_scan.specs.Ordinary.{is_plain_kind}
use Rattle.rdlpp_scan.specs.Tokens.{token_of, whole}
use Rattle.rdlpp_scan.specs.declared.token.Kind.TheVariants.{Back, BareBackquote, BlockComment, LineComment, Perl, Str}
use Rattle.rdlpp_scan.specs.declared.token.Mode.TheVariants.{Plain}
use Rattle.rdlpp_scan.specs.declared.token.Token.{Token}
use Rattle.rdlpp_scan.proofs.TokenLens.{list_all-prefix}
use Rattle.rdlpp_scan.proofs.StopKinds.{AtBack, AtBare, AtBlockComment, AtLineComment, AtPerl, AtPlain, AtString, Row, token_of-row}
use Rattle.rdlpp_define.specs.Table.{IsSound, TableView, formal_at, macro_at}
use Rattle.rdlpp_define.specs.Macros.{formals_of}
use Rattle.rdlpp_meaning.specs.Opens.{Open, OpenActual, OpenBody, OpenDefault, OpenKind, Part, Texts, found_standing, kind_standing, open_bytes, open_standing, own_text, part_at, part_tokens, scope_open, scope_text, text_around}
use Rattle.rdlpp_meaning.specs.declared.fault.FaultKind.{FaultKind}
use Rattle.rdlpp_meaning.specs.declared.fault.FaultKind.TheVariants.{DepthPassed}
use Rattle.rdlpp_meaning.proofs.OpenScopes.{IsOpenText, part-whole, standing-found, text-around}
use Rattle.rdlpp_texts.specs.BoundCalls.{KeepsAll}
use Rattle.rdlpp_texts.specs.Digits.{IsFalling}
use Rattle.rdlpp_texts.specs.TextItems.{IsTextItem, IsFrontPlace, IsPeek, IsPeekAhead}
use Rattle.rdlpp_texts.specs.Opened.{CursorsView, IsNoBody, StaysOutermost, is_spent, moved_to, open_of}
use Rattle.rdlpp_texts.specs.Places.{place_bytes, source_formals, source_text, texts_of}
use Rattle.rdlpp_texts.specs.Scopes.{AreBound, found_source, front_scope, front_source, kind_source}
use Rattle.rdlpp_texts.specs.Steps.{AreSound, IsKnown, IsPlacedStep, IsStep, IsUnlent, NamesWord, StaysRefused, StepsTo, wordless}
use Rattle.rdlpp_texts.specs.TakenSteps.{PeeksAt, TakesStep, is_idle}
use Rattle.rdlpp_texts.specs.Turns.{Closed, Stays, Turned}
use Rattle.rdlpp_texts.specs.Usages.{front_name, is_text_fault}
use Rattle.rdlpp_texts.specs.declared.peek.TextItem.{TextItem}
use Rattle.rdlpp_texts.specs.declared.peek.TextItem.TheVariants as front
use Rattle.rdlpp_texts.specs.declared.peek.Peek.{Peek}
use Rattle.rdlpp_texts.specs.declared.place.TextPlace.{TextPlace}
use Rattle.rdlpp_texts.specs.declared.place.TextSource.{TextSource}
use Rattle.rdlpp_texts.specs.declared.place.TextSource.TheVariants.{Arguments}
use Rattle.rdlpp_texts.specs.declared.frame.Frame.{Frame}
use Rattle.rdlpp_texts.specs.declared.step.CursorFault.{CursorFault}
use Rattle.rdlpp_texts.specs.declared.step.CursorStep.{CursorStep}
use Rattle.rdlpp_texts.specs.declared.step.CursorStep.TheVariants.{Lends, Refused, Silent}
use Rattle.rdlpp_texts.proofs.Falling.{falls-twice, formal-inside, peek-opens, outer-ahead, outer-closed, outer-same, turned-unlent}
use Rattle.rdlpp_texts.proofs.Passing.{IsPassed, at-each, default-keeps, first-sound, peek-passed, name-closes, no-word, pass-following, pass-ended, pass-run, silent-on, sound-tail, step-formal, step-formal_deep}
use Rattle.rdlpp_texts.proofs.Scoping.{front-formals, source-scope}
use Rattle.rdlpp_texts.proofs.Usages.{moved-room, open-run, placed-run, placed-word, placed-wordless, usage-word}

-- What a formal of an open text's scope stands for: it is sound in front of the open texts.

-- sound open texts have a range for each formal of their macros
pub sound-bound : (texts : Texts) (opens : List Open) → AreSound texts opens → AreBound texts.macros opens
sound-bound texts [] h = tt
sound-bound texts (x ∷ below) h = grind (arith, sound-tail, (sound-bound texts below (sound-tail texts x below h)))

-- the formals of a text hang on the macros alone
formals-same : (texts : Texts) (source : TextSource) → source_formals texts source ≡ source_formals (texts_of texts.macros []) source
unfolding source_formals
formals-same texts Arguments = refl
formals-same texts _ = refl

-- the formal whose name stands at the front is one of the scope's text
pub formal-place : (texts : Texts) (opens : List Open) (peek : Peek) (len place : ℕ) → AreSound texts opens → IsPeek texts opens peek → peek.front ≡ front.Formal len place
    → place < length (source_formals (texts_of texts.macros []) (found_source (scope_open opens (front_scope opens))))
unfolding IsPeek IsTextItem front_scope
formal-place texts [] peek len place h l e = absurd l
formal-place texts (x ∷ below) peek len place h l e = grind (arith, position-Some, source-scope, formals-same)

-- what holds of an open text that a formal stands for, in front of others
pub record IsStandingIn (texts : Texts) (opens : List Open) (y : Open) : Type 0 where
  pub parent : y.parent ≤ length opens
  pub text : IsOpenText y.kind
  pub known : IsKnown texts.macros y.kind
  pub inside : y.part.end ≤ length (text_around texts y.kind y.parent opens)
  pub keeps : KeepsAll (part_tokens (text_around texts y.kind y.parent opens) y.part)

-- the text in which such an open text lies is the same with one more around it
around-more : (texts : Texts) (x : Open) (below : List Open) (kind : OpenKind) (parent : ℕ) → parent ≤ length below
    → text_around texts kind parent (x ∷ below) ≡ text_around texts kind parent below
unfolding text_around
around-more texts x below OpenActual parent h = text-around texts x below parent h
around-more texts x below _ parent h = refl

-- and where the one around it goes on
around-moved : (texts : Texts) (x : Open) (below : List Open) (at : ℕ) (kind : OpenKind) (parent : ℕ)
    → text_around texts kind parent (x ∷ below) ≡ text_around texts kind parent (moved_to at (x ∷ below))
unfolding text_around scope_text moved_to
around-moved texts x below at (OpenBody id parts) parent = refl
around-moved texts x below at _ parent = refl

-- it stands so with one more open text around it
standing-more : (texts : Texts) (x : Open) (below : List Open) (y : Open) → IsStandingIn texts below y → IsStandingIn texts (x ∷ below) y
standing-more texts x below y s = grind (arith, around-more)

-- and where the innermost goes on
standing-moved : (texts : Texts) (x : Open) (below : List Open) (at : ℕ) (y : Open) → IsStandingIn texts (x ∷ below) y → IsStandingIn texts (moved_to at (x ∷ below)) y
unfolding moved_to
standing-moved texts x below at y s = grind (arith, around-moved)

-- what is no body has no parts and no actuals
text-sound : (texts : Texts) (opens : List Open) (y : Open) → IsStandingIn texts opens y → y.part.mode ≡ Plain → AreSound texts opens → AreSound texts (y ∷ opens)
unfolding IsOpenText
text-sound texts opens y s mode h = grind arith

-- the default of a formal of the innermost body stands so
default-stands : (table : TableView) (texts : Texts) (opens : List Open) (id place scope : ℕ) → IsSound table → texts.macros ≡ table.macros → scope ≤ length opens
    → id < length texts.macros → place < length (formals_of (macro_at texts.macros id))
    → IsStandingIn texts opens (record {
      part = record { from = 0; end = length (formal_at (formals_of (macro_at texts.macros id)) place).text; mode = Plain };
      parent = scope;
      kind = OpenDefault id place;
    })
unfolding IsOpenText text_around own_text
default-stands table texts opens id place scope sound e inside known own = grind (arith, part-whole, default-keeps)

-- its actual does
actual-stands : (texts : Texts) (x : Open) (below : List Open) (id place : ℕ) (parts : List Part) → x.parent ≤ length below → place < length parts
    → AllByRecursion (λ part. part.end ≤ length (scope_text texts below x.parent)) parts
    → AllByRecursion (λ part. KeepsAll (part_tokens (scope_text texts below x.parent) part)) parts
    → IsStandingIn texts (x ∷ below) (record { part = part_at parts place; parent = x.parent; kind = OpenActual })
unfolding IsOpenText text_around
actual-stands texts x below id place parts h own fits keep = grind (arith, text-around, at-each)

-- what a formal of the innermost body stands for does
own-stands : (table : TableView) (texts : Texts) (x : Open) (below : List Open) (id place : ℕ) (parts : List Part) → IsSound table → texts.macros ≡ table.macros
    → AreSound texts (record x { kind = OpenBody id parts } ∷ below) → place < length (formals_of (macro_at texts.macros id))
    → IsStandingIn texts (record x { kind = OpenBody id parts } ∷ below) (open_standing (formals_of (macro_at texts.macros id)) id (suc (length below)) x.parent parts place)
unfolding open_standing
own-stands table texts x below id place parts sound e h own =
    let formals = formals_of (macro_at texts.macros id) in
    let many = (((h.are_open).1).0).0 in
    by (((part_at parts place).end - (part_at parts place).from == 0) && not (length (formal_at formals place).text == 0))
    (default-stands table texts (record x { kind = OpenBody id parts } ∷ below) id place (suc (length below)) sound e (omega arith) (h.are_inside).0 own)
    (actual-stands texts (record x { kind = OpenBody id parts }) below id place parts (h.are_open).0 (omega (arith, own, many)) (((h.are_open).1).0).1 ((h.are_kept).1).0)
  where
    by : (empty : Bool) {d a : Open} → IsStandingIn texts (record x { kind = OpenBody id parts } ∷ below) d → IsStandingIn texts (record x { kind = OpenBody id parts } ∷ below) a
        → IsStandingIn texts (record x { kind = OpenBody id parts } ∷ below) (if empty then d else a)
    by true d a = d
    by false d a = a

-- what a formal of a scope stands for stands so
pub scope-stands : (table : TableView) (texts : Texts) (opens : List Open) (k place : ℕ) (y : Open) → IsSound table → texts.macros ≡ table.macros → AreSound texts opens
    → place < length (source_formals (texts_of texts.macros []) (found_source (scope_open opens k)))
    → found_standing texts.macros (scope_open opens k) k place ≡ Some y → IsStandingIn texts opens y
unfolding scope_open source_formals
scope-stands table texts [] k place y sound e h own is = absurd (cc)
scope-stands table texts (x ∷ below) k place y sound e h own is =
    by (k == suc (length below)) refl own is
    (λ (o : place < length (source_formals (texts_of texts.macros []) (found_source (scope_open below k)))) (f : found_standing texts.macros (scope_open below k) k place ≡ Some y).
    standing-more texts x below y (scope-stands table texts below k place y sound e (sound-tail texts x below h) o f))
  where
    here : (kind : OpenKind) → x.kind ≡ kind → k ≡ suc (length below) → place < length (source_formals (texts_of texts.macros []) (kind_source kind))
        → kind_standing texts.macros kind k x.parent place ≡ Some y → IsStandingIn texts (x ∷ below) y
    here (OpenBody id parts) c last own is =
        let body : AreSound texts (record x { kind = OpenBody id parts } ∷ below) = subst (λ (kind : OpenKind). AreSound texts (record x { kind = kind } ∷ below)) c h in
        let stands = own-stands table texts x below id place parts sound e body own in
        let scoped = subst (λ (n : ℕ). IsStandingIn texts (record x { kind = OpenBody id parts } ∷ below) (open_standing (formals_of (macro_at texts.macros id)) id n x.parent parts place)) (sym last) stands in
        let same : open_standing (formals_of (macro_at texts.macros id)) id k x.parent parts place ≡ y = cc in
        subst (λ (z : Open). IsStandingIn texts (x ∷ below) z) same
        (subst (λ (kind : OpenKind). IsStandingIn texts (record x { kind = kind } ∷ below) (open_standing (formals_of (macro_at texts.macros id)) id k x.parent parts place)) (sym c) scoped)
    here OpenActual c last own is = absurd (cc)
    here (OpenDefault id p) c last own is = absurd (cc)

    by : (own_scope : Bool) → (k == suc (length below)) ≡ own_scope
        → place < length (source_formals (texts_of texts.macros []) (found_source (if own_scope then Some x else scope_open below k)))
        → found_standing texts.macros (if own_scope then Some x else scope_open below k) k place ≡ Some y
        → (place < length (source_formals (texts_of texts.macros []) (found_source (scope_open below k))) → found_standing texts.macros (scope_open below k) k place ≡ Some y → IsStandingIn texts (x ∷ below) y)
        → IsStandingIn texts (x ∷ below) y
    by true b own is rest = here x.kind refl (eqb-true k (suc (length below)) b) own is
    by false b own is rest = rest own is

-- what a frame is that a formal stands for is no body
pub no-body : (new : Frame) → IsOpenText (open_of new []).kind → IsNoBody new.kind
unfolding IsOpenText
no-body new t = grind arith

-- what is found for the formal whose name stands at the front is sound in front of what is left after that name
pub formal-sound : (table : TableView) (texts : Texts) (opens : List Open) (peek : Peek) (len place : ℕ) (frame : Frame) → IsSound table → texts.macros ≡ table.macros
    → AreSound texts opens → IsPeek texts opens peek → peek.front ≡ front.Formal len place
    → found_standing texts.macros (scope_open opens (front_scope opens)) (front_scope opens) place ≡ Some (open_of frame [])
    → AreSound texts (open_of frame [] ∷ moved_to (peek.at + len) opens)
unfolding IsPeek IsTextItem
formal-sound table texts [] peek len place frame sound e h l f is = absurd l
formal-sound table texts (x ∷ below) peek len place frame sound e h l f is =
    let own = formal-place texts (x ∷ below) peek len place h l f in
    let stands = scope-stands table texts (x ∷ below) (front_scope (x ∷ below)) place (open_of frame []) sound e h own is in
    let at = subst (λ (f : TextItem). IsTextItem (source_formals texts (front_source (x ∷ below))) (open_bytes texts x below) f) f l.3 in
    let moved = first-sound texts x below len h at.0 (name-closes _ at.1) at.2 in
    subst (λ (from : ℕ). AreSound texts (open_of frame [] ∷ moved_to (from + len) (x ∷ below))) (sym l.1)
    (text-sound texts (moved_to (x.part.from + len) (x ∷ below)) (open_of frame []) (standing-moved texts x below (x.part.from + len) (open_of frame []) stands) refl moved)

-- it is no body
pub formal-text : (table : TableView) (texts : Texts) (opens : List Open) (peek : Peek) (len place : ℕ) (new : Frame) → IsSound table → texts.macros ≡ table.macros
    → AreSound texts opens → IsPeek texts opens peek → peek.front ≡ front.Formal len place
    → Some (open_of new []) ≡ found_standing texts.macros (scope_open opens (front_scope opens)) (front_scope opens) place → IsNoBody new.kind
formal-text table texts opens peek len place new sound e h l f is =
    no-body new (scope-stands table texts opens (front_scope opens) place (open_of new []) sound e h (formal-place texts opens peek len place h l f) (sym is)).text

-- it is opened, where there is room
formal-step : (line depth : ℕ) (texts : Texts) (opens : List Open) (peek : Peek) (len place : ℕ) (frame : Frame) → AreSound texts opens → IsPeek texts opens peek
    → peek.front ≡ front.Formal len place
    → found_standing texts.macros (scope_open opens (front_scope opens)) (front_scope opens) place ≡ Some (open_of frame [])
    → length opens < depth → IsStep line depth texts opens Silent (open_of frame [] ∷ moved_to (peek.at + len) opens)
unfolding IsPeek front_scope
formal-step line depth texts [] peek len place frame h l f is room = absurd l
formal-step line depth texts (x ∷ below) peek len place frame h l f is room = grind (arith, step-formal)

-- some open text is found
formal-found : (texts : Texts) (opens : List Open) (peek : Peek) (len place : ℕ) → AreSound texts opens → IsPeek texts opens peek → peek.front ≡ front.Formal len place
    → found_standing texts.macros (scope_open opens (front_scope opens)) (front_scope opens) place ≡ None → ⊥
unfolding IsPeek IsTextItem front_scope
formal-found texts [] peek len place h l f none = l
formal-found texts (x ∷ below) peek len place h l f none = grind (arith, front-formals, standing-found)

-- without a frame it is refused
formal-deep : (line depth : ℕ) (texts : Texts) (opens new : List Open) (peek : Peek) (len place : ℕ) → AreSound texts opens → IsPeek texts opens peek
    → peek.front ≡ front.Formal len place → depth ≤ length opens → IsStep line depth texts opens (wordless DepthPassed) new
unfolding IsPeek
formal-deep line depth texts [] new peek len place h l f deep = absurd l
formal-deep line depth texts (x ∷ below) new peek len place h l f deep = grind (arith, step-formal_deep, no-word)

-- so there is still room
pub room-moved : (view mid : CursorsView) (at : ℕ) → nat_le view.depth (length view.opens) ≡ false
    → mid ≡ record { opens = moved_to at view.opens; line = view.line; depth = view.depth } → length mid.opens < mid.depth
room-moved view mid at room e = moved-room view mid at e (leb-false view.depth (length view.opens) room)

-- what a formal stands for is opened after its name
pub pass-formal : (table : TableView) (texts : Texts) (view mid new : CursorsView) (peek : Peek) (len place at : ℕ) (frame : Frame) → IsSound table → texts.macros ≡ table.macros
    → AreSound texts view.opens → IsPeek texts view.opens peek → peek.front ≡ front.Formal len place
    → Some (open_of frame []) ≡ found_standing texts.macros (scope_open view.opens (front_scope view.opens)) (front_scope view.opens) place
    → nat_le view.depth (length view.opens) ≡ false → at ≡ peek.at + len
    → mid ≡ record { opens = moved_to at view.opens; line = view.line; depth = view.depth }
    → new ≡ record { opens = open_of frame [] ∷ mid.opens; line = mid.line; depth = mid.depth }
    → IsPassed texts view new Silent
unfolding IsFalling StaysRefused
pass-formal table texts view mid new peek len place at frame sound same h l f is room a m n =
    let inside = formal-inside texts view.opens peek len place l f in
    subst (λ (v : CursorsView). IsPassed texts view v Silent) (sym n)
    (subst (λ (v : CursorsView). IsPassed texts view (record { opens = open_of frame [] ∷ v.opens; line = v.line; depth = v.depth }) Silent) (sym m)
    (subst (λ (k : ℕ). IsPassed texts view (record { opens = open_of frame [] ∷ moved_to k view.opens; line = view.line; depth = view.depth }) Silent) (sym a) (record {
      is_step = formal-step view.line view.depth texts view.opens peek len place frame h l f (sym is) (leb-false view.depth (length view.opens) room);
      sound = formal-sound table texts view.opens peek len place frame sound same h l f (sym is);
      kept = (refl, refl);
      digits = peek-opens texts view.opens peek (peek.at + len) (open_of frame []) l inside.0 inside.1;
      refused = tt;
    })))

-- without a frame it is refused
pub pass-deep : (texts : Texts) (view : CursorsView) (peek : Peek) (len place : ℕ) → AreSound texts view.opens → IsPeek texts view.opens peek
    → peek.front ≡ front.Formal len place → nat_le view.depth (length view.opens) ≡ true → IsPassed texts view view (wordless DepthPassed)
unfolding IsFalling StaysRefused
pass-deep texts view peek len place h l f full = grind (arith, formal-deep, leb-true)

-- and it is never so that a formal stands for nothing
pub pass-nothing : (texts : Texts) (view : CursorsView) (peek : Peek) (len place : ℕ) (step : CursorStep) → AreSound texts view.opens → IsPeek texts view.opens peek
    → peek.front ≡ front.Formal len place
    → None ≡ found_standing texts.macros (scope_open view.opens (front_scope view.opens)) (front_scope view.opens) place → TakesStep texts view step view
pass-nothing texts view peek len place step h l f none = absurd (formal-found texts view.opens peek len place h l f (sym none))

-- The words of faults in open texts are names.

-- how long a usage is, by the row of the token table
usage-len : (bs : List ℕ) (t : Token) → Row bs t → t.kind ≡ Back → t.len ≡ suc (prefix_len is_word (drop 1 bs))
unfolding whole is_plain_kind
usage-len bs t (AtPerl h e) is = absurd (let k : Perl ≡ Back = sym (ap (λ (u : Token). u.kind) e) ∙ is in cc)
usage-len bs t (AtLineComment h e) is = absurd (let k : LineComment ≡ Back = sym e ∙ is in cc)
usage-len bs t (AtBlockComment h e) is = absurd (let k : BlockComment ≡ Back = sym e ∙ is in cc)
usage-len bs t (AtString h e) is = absurd (let k : Str ≡ Back = sym e ∙ is in cc)
usage-len bs t (AtBack h e) is = ap (λ (u : Token). u.len) e
usage-len bs t (AtBare h g e) is = absurd (let k : BareBackquote ≡ Back = sym (ap (λ (u : Token). u.kind) e) ∙ is in cc)
usage-len bs t (AtPlain h q) is = absurd (false≢true (sym (ap is_plain_kind is) ∙ h))

-- what stands after the first of so many bytes
following-one : (n : ℕ) (bs : List ℕ) → drop 1 (take (suc n) bs) ≡ take n (drop 1 bs)
following-one zero [] = refl
following-one (suc n) [] = refl
following-one n (b ∷ bs) = refl

-- the name of a usage is a word
name-word : (bs : List ℕ) (len : ℕ) → (token_of Plain bs).kind ≡ Back → (token_of Plain bs).len ≡ len → list_all is_word (drop 1 (take len bs)) ≡ true
name-word bs len kind e =
    let n = prefix_len is_word (drop 1 bs) in
    let same : len ≡ suc n = sym e ∙ usage-len bs (token_of Plain bs) (token_of-row bs) kind in
    ap (λ (k : ℕ). list_all is_word (drop 1 (take k bs))) same ∙ ap (λ (word : List ℕ). list_all is_word word) (following-one n bs) ∙ list_all-prefix is_word (drop 1 bs)

-- so is that of a usage in front of open texts
front-word : (texts : Texts) (opens : List Open) (peek : Peek) (len : ℕ) → IsPeek texts opens peek → peek.front ≡ front.Usage len → list_all is_word (front_name texts opens len) ≡ true
unfolding IsPeek IsTextItem front_name
front-word texts [] peek len l e = absurd l
front-word texts (x ∷ below) peek len l e = grind (arith, name-word)

-- a fault under the name of a usage has a word
pub word-named : (texts : Texts) (opens : List Open) (peek : Peek) (len : ℕ) (kind : FaultKind) (word : TextPlace) → AreSound texts opens → IsPeek texts opens peek
    → peek.front ≡ front.Usage len → word ≡ record { source = peek.source; from = peek.at + 1; end = peek.at + len }
    → NamesWord texts (Refused (record { kind = kind; word = word }))
word-named texts opens peek len kind word h l e is =
    ap (λ (bytes : List ℕ). list_all is_word bytes)
    (ap (λ (w : TextPlace). place_bytes texts w) is ∙ usage-word texts opens peek len (peek.at + 1) (peek.at + len) h l e refl refl)
    ∙ front-word texts opens peek len l e

-- one without a word has an empty one
pub word-none : (texts : Texts) (kind : FaultKind) → NamesWord texts (wordless kind)
word-none texts kind = ap (λ (bytes : List ℕ). list_all is_word bytes) (no-word texts Arguments)

-- Steps of open texts: what makes one, and what holds after a run that is lent.

-- what such a step has left
taken-passed : (texts : Texts) (view new : CursorsView) (step : CursorStep) → TakesStep texts view step new → IsPassed texts view new step
taken-passed texts view new step t = record { is_step = t.step; sound = t.sound; kept = t.kept; digits = t.digits; refused = t.refused }

-- a text is opened or closed
pub takes-silent : (texts : Texts) (view new : CursorsView) → IsPassed texts view new Silent → StaysOutermost view.opens new.opens → Turned texts view.opens new.opens
    → TakesStep texts view Silent new
unfolding IsPlacedStep
takes-silent texts view new p outer turned = grind arith

-- a step is refused
pub takes-refused : (texts : Texts) (view new : CursorsView) (fault : CursorFault) → IsPassed texts view new (Refused fault) → is_text_fault fault.kind ≡ true
    → IsPlacedStep texts (Refused fault) → NamesWord texts (Refused fault) → TakesStep texts view (Refused fault) new
unfolding StaysRefused
takes-refused texts view new fault p own placed word = grind (arith, outer-same)

-- for a fault without a word
pub takes-wordless : (texts : Texts) (view new : CursorsView) (kind : FaultKind) (step : CursorStep) → IsPassed texts view new (wordless kind) → step ≡ wordless kind → is_text_fault kind ≡ true
    → TakesStep texts view step new
takes-wordless texts view new kind step p is own =
    subst (λ (s : CursorStep). TakesStep texts view s new) (sym is)
    (takes-refused texts view new (record { kind = kind; word = record { source = Arguments; from = 0; end = 0 } }) p own (placed-wordless texts kind) (word-none texts kind))

-- for a fault under the name of a usage
pub takes-named : (texts : Texts) (view new : CursorsView) (peek : Peek) (bytes : List ℕ) (len : ℕ) (kind : FaultKind) (word : TextPlace) → PeeksAt texts view.opens peek bytes → peek.front ≡ front.Usage len
    → word ≡ record { source = peek.source; from = peek.at + 1; end = peek.at + len } → is_text_fault kind ≡ true → IsPassed texts view new (Refused (record { kind = kind; word = word }))
    → TakesStep texts view (Refused (record { kind = kind; word = word })) new
takes-named texts view new peek bytes len kind word l f is own p =
    takes-refused texts view new (record { kind = kind; word = word }) p own (placed-word texts view.opens peek len kind word l.sound l.peek f is) (word-named texts view.opens peek len kind word l.sound l.peek f is)

-- no bytes are left of a text that has ended
no-bytes : (texts : Texts) (x : Open) (below : List Open) → nat_le x.part.end x.part.from ≡ true → open_bytes texts x below ≡ []
unfolding open_bytes
no-bytes texts x below e = grind (arith, leb-true)

-- a look at it
spent-peek : (texts : Texts) (x : Open) (below : List Open) → nat_le x.part.end x.part.from ≡ true
    → IsPeek texts (x ∷ below) (record { source = front_source (x ∷ below); from = x.part.from; end = x.part.end; at = x.part.from; front = front.Ended })
unfolding IsPeek IsTextItem
spent-peek texts x below e = (refl, refl, refl, no-bytes texts x below e)

-- it is closed
pub spent-closed : (texts : Texts) (view new : CursorsView) → AreSound texts view.opens → 0 < length view.opens → is_spent view.opens ≡ true
    → new ≡ record { opens = drop 1 view.opens; line = view.line; depth = view.depth } → TakesStep texts view Silent new
unfolding is_spent
spent-closed texts view new h some e is = takes-silent texts view new (by view.opens h some e is) (outer-closed view new is) (Closed e (1, ap (λ (v : CursorsView). v.opens) is))
  where
    by : (opens : List Open) → AreSound texts opens → 0 < length opens → is_spent opens ≡ true
        → new ≡ record { opens = drop 1 opens; line = view.line; depth = view.depth }
        → IsPassed texts (record { opens = opens; line = view.line; depth = view.depth }) new Silent
    by [] h some e is = absurd (omega (arith, some))
    by (x ∷ below) h some e is = pass-ended texts (record { opens = x ∷ below; line = view.line; depth = view.depth }) new _ h (spent-peek texts x below e) refl is

-- two steps that lend nothing and aren't refused are one
pub taken-twice : (texts : Texts) (view mid new : CursorsView) → TakesStep texts view Silent mid → TakesStep texts mid Silent new → StaysOutermost view.opens new.opens
    → Turned texts view.opens new.opens → TakesStep texts view Silent new
unfolding IsFalling StaysRefused IsStep StepsTo
taken-twice texts view mid new p q outer turned = grind (arith, takes-silent, silent-on, falls-twice)

-- where nothing stands at the front, nothing is left
pub ended-spent : (texts : Texts) (opens : List Open) (peek : Peek) → AreSound texts opens → IsPeek texts opens peek → peek.front ≡ front.Ended → is_spent opens ≡ true
unfolding IsPeek IsTextItem is_spent open_bytes
ended-spent texts [] peek h l e = absurd l
ended-spent texts (x ∷ below) peek h l e =
    let none : open_bytes texts x below ≡ [] = subst (λ (f : TextItem). IsTextItem (source_formals texts (front_source (x ∷ below))) (open_bytes texts x below) f) e l.3 in
    let empty : length (take (x.part.end - x.part.from) (drop x.part.from (text_around texts x.kind x.parent below))) ≡ 0 = ap (λ (bs : List ℕ). length bs) none in
    let size = length-take (x.part.end - x.part.from) (drop x.part.from (text_around texts x.kind x.parent below)) in
    let rest = length-drop x.part.from (text_around texts x.kind x.parent below) in
    let inside : x.part.end ≤ length (text_around texts x.kind x.parent below) = ((h.are_inside).1).0 in
    by x.part.end x.part.from (omega (arith, empty, size, rest, inside))
  where
    by : (end from : ℕ) → end ≤ from → nat_le end from ≡ true
    by end from less = le-leb end from less

-- nothing is done where the last text has ended, after a run that is lent
pub idle-last : (lent : Bool) (count : ℕ) (f : TextItem) → f ≡ front.Ended → lent ≡ true → nat_le count 1 ≡ true → is_idle lent count f ≡ true
unfolding is_idle
idle-last true count f e l last = ap (λ (g : TextItem). is_idle true count g) e ∙ last
idle-last false count f e l last = absurd (true≢false (sym l))

-- it is closed where others are open around it, or no run is lent
pub idle-closed : (lent : Bool) (count : ℕ) (f : TextItem) → f ≡ front.Ended → (lent ≡ true → nat_le count 1 ≡ false) → is_idle lent count f ≡ false
unfolding is_idle
idle-closed true count f e more = ap (λ (g : TextItem). is_idle true count g) e ∙ more refl
idle-closed false count f e more = refl

-- what a formal stands for is opened
pub idle-formal : (lent : Bool) (count len place : ℕ) (f : TextItem) → f ≡ front.Formal len place → is_idle lent count f ≡ false
unfolding is_idle
idle-formal true count len place f e = ap (λ (g : TextItem). is_idle true count g) e
idle-formal false count len place f e = refl

-- so is a usage
pub idle-usage : (lent : Bool) (count len : ℕ) (f : TextItem) → f ≡ front.Usage len → is_idle lent count f ≡ false
unfolding is_idle
idle-usage true count len f e = ap (λ (g : TextItem). is_idle true count g) e
idle-usage false count len f e = refl

-- open texts that go on where they do are the same
moved-same : (texts : Texts) (view mid : CursorsView) (peek : Peek) → AreSound texts view.opens → IsPeekAhead texts view.opens peek → peek.at ≤ peek.from
    → mid ≡ record { opens = moved_to peek.at view.opens; line = view.line; depth = view.depth } → mid ≡ view
unfolding moved_to IsPeekAhead
moved-same texts view mid peek h l less is = grind arith

-- what a look tells of the open texts that go on after what is copied
peek-following : (texts : Texts) (opens : List Open) (peek : Peek) → IsPeekAhead texts opens peek → IsPeek texts (moved_to peek.at opens) peek
unfolding IsPeekAhead
peek-following texts [] peek l = absurd l
peek-following texts (x ∷ below) peek l = l.4

-- what a look tells that lies ahead begins where the innermost text stands
stands-ahead : (texts : Texts) (opens : List Open) (peek : Peek) (end : ℕ) → IsPeekAhead texts opens peek → IsFrontPlace opens (record { source = peek.source; from = peek.from; end = end })
unfolding IsPeekAhead
stands-ahead texts [] peek end l = absurd l
stands-ahead texts (x ∷ below) peek end l = (l.0, l.1)

-- what is copied at the front
abbrev run_of : Peek → TextPlace
run_of peek = record { source = peek.source; from = peek.from; end = peek.at }

-- what holds of open texts where that is passed
pub record IsOn (texts : Texts) (view mid : CursorsView) (peek : Peek) (bytes : List ℕ) : Type 0 where
  pub looks : PeeksAt texts mid.opens peek bytes
  pub moved : mid.opens ≡ moved_to peek.at view.opens
  pub stands : IsFrontPlace view.opens (run_of peek)
  pub runs : peek.from < peek.at → IsPassed texts view mid (Lends (run_of peek)) × IsPlacedStep texts (Lends (run_of peek))
  pub stays : peek.at ≤ peek.from → mid ≡ view

-- so it is after a look
pub on-peek : (texts : Texts) (view mid : CursorsView) (peek : Peek) (bytes : List ℕ) → AreSound texts view.opens → IsPeekAhead texts view.opens peek → 0 < length view.opens
    → bytes ≡ source_text texts peek.source → peek.end < 2 ^ 64 → mid ≡ record { opens = moved_to peek.at view.opens; line = view.line; depth = view.depth } → IsOn texts view mid peek bytes
on-peek texts view mid peek bytes h l some text short is = record {
  looks = record {
    some = open-run view mid peek.at some is;
    sound = subst (λ (v : CursorsView). AreSound texts v.opens) (sym is) (peek-passed texts view.opens peek h l);
    peek = subst (λ (v : CursorsView). IsPeek texts v.opens peek) (sym is) (peek-following texts view.opens peek l);
    text = text;
    short = short;
  };
  moved = ap (λ (v : CursorsView). v.opens) is;
  stands = stands-ahead texts view.opens peek peek.at l;
  runs = λ more. (pass-run texts view mid peek h l more is, placed-run texts view.opens peek h l more);
  stays = λ less. moved-same texts view mid peek h l less is;
}

-- a run that is lent is a step, with what is done after it
pub on-lent : (texts : Texts) (view mid new : CursorsView) (peek : Peek) (bytes : List ℕ) (lent : Bool) (step : CursorStep) → IsOn texts view mid peek bytes → peek.from < peek.at
    → (is_idle lent (length mid.opens) peek.front ≡ false → TakesStep texts mid step new) → (is_idle lent (length mid.opens) peek.front ≡ true → new ≡ mid)
    → 0 < length new.opens → IsUnlent step → TakesStep texts view (Lends (record { source = peek.source; from = peek.from; end = peek.at })) new
on-lent texts view mid new peek bytes lent step on more taken idle some unlent = by (is_idle lent (length mid.opens) peek.front) refl
  where
    following : IsPassed texts view new (Lends (run_of peek)) → StaysOutermost mid.opens new.opens → Turned texts mid.opens new.opens → TakesStep texts view (Lends (run_of peek)) new
    following p outer turned = record {
      step = p.is_step;
      sound = p.sound;
      kept = p.kept;
      digits = p.digits;
      refused = p.refused;
      placed = (on.runs more).1;
      lends = some;
      fault = tt;
      word = tt;
      stands = on.stands;
      outer = outer-ahead view.opens mid.opens new.opens peek.at on.moved outer;
      turns = subst (λ (opens : List Open). Turned texts opens new.opens) on.moved turned;
    }

    by : (none : Bool) → is_idle lent (length mid.opens) peek.front ≡ none → TakesStep texts view (Lends (run_of peek)) new
    by true e =
        let same = idle e in
        following (subst (λ (v : CursorsView). IsPassed texts view v (Lends (run_of peek))) (sym same) (on.runs more).0) (outer-same mid new same) (Stays (ap (λ (v : CursorsView). v.opens) same))
    by false e =
        let t = taken e in
        following (pass-following texts view mid new (run_of peek) step (on.runs more).0 (taken-passed texts mid new step t) unlent) t.outer (turned-unlent texts mid.opens new.opens step unlent t.turns)

-- where no run is lent, what is opened is the step
pub on-taken : (texts : Texts) (view mid new : CursorsView) (peek : Peek) (bytes : List ℕ) (lent : Bool) (step : CursorStep) → IsOn texts view mid peek bytes → peek.at ≤ peek.from → lent ≡ false
    → (is_idle lent (length mid.opens) peek.front ≡ false → TakesStep texts mid step new)
    → TakesStep texts view step new
unfolding is_idle
on-taken texts view mid new peek bytes lent step on less miss taken = grind (arith, true≢false)

-- where two are open, one is after the innermost
pub rest-open : (view new : CursorsView) → 1 < length view.opens → new ≡ record { opens = drop 1 view.opens; line = view.line; depth = view.depth } → 0 < length new.opens
rest-open view new many is = grind (arith, length-drop)

-- fewer are open after the innermost
pub rest-fewer : (view new : CursorsView) → 0 < length view.opens → new ≡ record { opens = drop 1 view.opens; line = view.line; depth = view.depth }
    → length new.opens < length view.opens
rest-fewer view new some is = grind (arith, length-drop)
