-- The first expansion point of a text, and what stands at its front.
use Rattle.std.proofs.Common.{◌≡◌, ℕ, ◌+◌, ◌-◌, ◌<◌, ◌≤◌, Bool, true, false, true≢false, List, [], ◌∷◌, length, take, drop, refl, sym, ap, subst, ◌∙◌, arith, Option, None, Some, not, cond, eqb, get_or, is_some, if◌then◌else◌, slice_range, ◌⊎◌, inl, inr, drop-drop, get_or-drop, length-drop, length-take}
use Rattle.std.proofs.lemmas.List.{drop_all}
use Rattle.memchr.specs.Find.{IsFirstByte, is_byte}
use Rattle.rdlpp_scan.specs.Tokens.{token_of, tokens_from}
use Rattle.rdlpp_scan.specs.declared.token.Kind.{Kind}
use Rattle.rdlpp_scan.specs.declared.token.Kind.TheVariants.{Back, BareBackquote, Name}
use Rattle.rdlpp_scan.specs.declared.token.Mode.{Mode}
use Rattle.rdlpp_scan.specs.declared.token.Mode.TheVariants.{Plain}
use Rattle.rdlpp_scan.specs.declared.token.Token.{Token}
use Rattle.rdlpp_scan.proofs.RangeLaws.{tokens_from-first}
use Rattle.rdlpp_scan.proofs.TokenLens.{token_of-part, tokens_from-step}
use Rattle.rdlpp_table.specs.ExpansionPoints.{next_expansion_point, is_none, or_point, point_at, point_in, point_name, point_of}
use Rattle.rdlpp_define.specs.Macros.{Formal}
use Rattle.rdlpp_define.specs.Table.{formal_named, macro_at}
use Rattle.rdlpp_table.specs.declared.point.ExpansionPoint.{ExpansionPoint}
use Rattle.rdlpp_table.specs.declared.point.ExpansionPoint.TheVariants as point
use Rattle.rdlpp_table.proofs.FirstPoints.{or_none, or_some, token_passed}
use Rattle.rdlpp_meaning.specs.Opens.{Texts}
use Rattle.rdlpp_texts.specs.TextItems.{AreCopied, IsNextItem, IsTextItem, is_back, run_len}
use Rattle.rdlpp_texts.specs.Places.{source_formals, source_text}
use Rattle.rdlpp_texts.specs.declared.peek.NextItem.{NextItem}
use Rattle.rdlpp_texts.specs.declared.peek.TextItem.{TextItem}
use Rattle.rdlpp_texts.specs.declared.peek.TextItem.TheVariants as front
use Rattle.rdlpp_texts.specs.declared.place.TextSource.{TextSource}
use Rattle.rdlpp_texts.specs.declared.place.TextSource.TheVariants as place_of
use Rattle.rdlpp_texts.proofs.Passing.{point-plain}

-- where an expansion point stands
abbrev pub point_place : ExpansionPoint → Option ℕ
point_place point.None = None
point_place (point.Formal at len place) = Some at
point_place (point.Usage at len) = Some at
point_place (point.Bare at) = Some at

-- so many bytes stand before an expansion point at a place of a text that begins at a place, or in all
PlaceTells : ℕ → ℕ → ℕ → Option ℕ → Type 0
PlaceTells at n len None = n ≡ len
PlaceTells at n len (Some p) = (p ≡ at + n) × (n < len)

-- an expansion point is none wherever it stands, by the kind of its token
none-at : (formals : List Formal) (at len : ℕ) (next : Mode) (kind : Kind) (bytes : List ℕ)
    → is_none (point_at formals at (record { kind = kind; len = len; next_mode = next }) bytes)
    ≡ is_none (point_at formals 0 (record { kind = kind; len = len; next_mode = next }) bytes)
unfolding is_none point_at point_name
none-at formals at len next Name bytes = grind arith
none-at formals at len next kind bytes = refl

-- an expansion point stands where its token does, by the kind of that
own-place : (formals : List Formal) (at len : ℕ) (next : Mode) (kind : Kind) (bytes : List ℕ)
    → is_none (point_at formals at (record { kind = kind; len = len; next_mode = next }) bytes) ≡ false
    → point_place (point_at formals at (record { kind = kind; len = len; next_mode = next }) bytes) ≡ Some at
unfolding is_none point_at point_name
own-place formals at len next Name bytes e = grind (arith, true≢false)
own-place formals at len next Back bytes e = refl
own-place formals at len next BareBackquote bytes e = refl
own-place formals at len next kind bytes e = absurd (true≢false e)

-- with a token in front
tells-more : (at own n len rest : ℕ) (place : Option ℕ) → own ≤ len → rest ≡ len - own → PlaceTells (at + own) n rest place → PlaceTells at (own + n) len place
unfolding PlaceTells
tells-more at own n len rest None fits e h = omega (arith, fits, e, h)
tells-more at own n len rest (Some p) fits e h = (let a = h.0 in omega (arith, a), let b = h.1 in omega (arith, fits, e, b))

-- the first expansion point of a text stands after the tokens before it
points-at : (formals : List Formal) (at : ℕ) (ts : List Token) (mode : Mode) (text : List ℕ) → tokens_from mode 0 text ≡ ts
    → PlaceTells at (run_len formals ts text) (length text) (point_place (next_expansion_point formals at ts text))
unfolding run_len next_expansion_point PlaceTells
points-at formals at [] mode text e = grind (arith, tokens_from-step, token_of-part)
points-at formals at (t ∷ ts) mode text e =
    let p = tokens_from-first mode text t ts e in
    let inside : t.len ≤ length text = subst (λ (u : Token). u.len ≤ length text) p.1.0 (token_of-part mode text p.0).inside in
    by (is_none (point_at formals 0 t (take t.len text))) refl p.0 inside (points-at formals (at + t.len) ts t.next_mode (drop t.len text) p.1.1)
  where
    by : (none : Bool) → is_none (point_at formals 0 t (take t.len text)) ≡ none → 0 < length text → t.len ≤ length text
        → PlaceTells (at + t.len) (run_len formals ts (drop t.len text)) (length (drop t.len text)) (point_place (next_expansion_point formals (at + t.len) ts (drop t.len text)))
        → PlaceTells at (if none then t.len + run_len formals ts (drop t.len text) else 0) (length text)
        (point_place (or_point (point_at formals at t (take t.len text)) (next_expansion_point formals (at + t.len) ts (drop t.len text))))
    by true n some inside h =
        subst (λ (s : ExpansionPoint). PlaceTells at (t.len + run_len formals ts (drop t.len text)) (length text) (point_place s))
        (sym (or_none (point_at formals at t (take t.len text)) _ (none-at formals at t.len t.next_mode t.kind (take t.len text) ∙ n)))
        (tells-more at t.len (run_len formals ts (drop t.len text)) (length text) (length (drop t.len text)) _ inside (length-drop t.len text) h)
    by false n some inside h =
        let own : is_none (point_at formals at t (take t.len text)) ≡ false = none-at formals at t.len t.next_mode t.kind (take t.len text) ∙ n in
        subst (λ (o : Option ℕ). PlaceTells at 0 (length text) o)
        (sym (ap (λ (s : ExpansionPoint). point_place s) (or_some (point_at formals at t (take t.len text)) _ own) ∙ own-place formals at t.len t.next_mode t.kind (take t.len text) own))
        (omega arith, some)

-- a text in whose front no run stands begins with its first expansion point
point-token : (formals : List Formal) (at : ℕ) (mode : Mode) (text : List ℕ) → 0 < length text
    → run_len formals (tokens_from mode 0 text) text ≡ 0
    → point_at formals at (token_of mode text) (take (token_of mode text).len text) ≡ next_expansion_point formals at (tokens_from mode 0 text) text
unfolding next_expansion_point or_point run_len
point-token formals at mode text some e = grind (arith, token_of-part, tokens_from-step, or_some, none-at)

-- which token an expansion point is: a formal, by the kind of the token
formal-by : (formals : List Formal) (at len : ℕ) (next : Mode) (kind : Kind) (bytes : List ℕ) (p n place : ℕ)
    → point_at formals at (record { kind = kind; len = len; next_mode = next }) bytes ≡ point.Formal p n place
    → (kind ≡ Name) × (len ≡ n) × (formal_named formals bytes ≡ Some place)
unfolding point_at point_name
formal-by formals at len next Name bytes p n place e = grind arith
formal-by formals at len next kind bytes p n place e = absurd (cc)

-- a usage
usage-by : (formals : List Formal) (at len : ℕ) (next : Mode) (kind : Kind) (bytes : List ℕ) (p n : ℕ)
    → point_at formals at (record { kind = kind; len = len; next_mode = next }) bytes ≡ point.Usage p n → (kind ≡ Back) × (len ≡ n)
unfolding point_at point_name
usage-by formals at len next Name bytes p n e = grind arith
usage-by formals at len next Back bytes p n e = (refl, cc)
usage-by formals at len next kind bytes p n e = absurd (cc)

-- a lone backquote
bare-by : (formals : List Formal) (at len : ℕ) (next : Mode) (kind : Kind) (bytes : List ℕ) (p : ℕ)
    → point_at formals at (record { kind = kind; len = len; next_mode = next }) bytes ≡ point.Bare p → kind ≡ BareBackquote
unfolding point_at point_name
bare-by formals at len next Name bytes p e = grind arith
bare-by formals at len next BareBackquote bytes p e = refl
bare-by formals at len next kind bytes p e = absurd (cc)

-- the first expansion point of a text is that of what stands after the tokens before it, which is read from plain text on
point-following : (formals : List Formal) (at : ℕ) (ts : List Token) (mode : Mode) (text : List ℕ) → tokens_from mode 0 text ≡ ts
    → is_none (next_expansion_point formals at ts text) ≡ false
    → next_expansion_point formals (at + run_len formals ts text) (tokens_from Plain 0 (drop (run_len formals ts text) text)) (drop (run_len formals ts text) text)
    ≡ next_expansion_point formals at ts text
unfolding run_len next_expansion_point is_none
point-following formals at [] mode text e found = absurd (true≢false found)
point-following formals at (t ∷ ts) mode text e found =
    let p = tokens_from-first mode text t ts e in
    by (is_none (point_at formals 0 t (take t.len text))) refl p.1.0 (λ some. point-following formals (at + t.len) ts t.next_mode (drop t.len text) p.1.1 some) found
  where
    by : (none : Bool) → is_none (point_at formals 0 t (take t.len text)) ≡ none → token_of mode text ≡ t
        → (is_none (next_expansion_point formals (at + t.len) ts (drop t.len text)) ≡ false
        → next_expansion_point formals (at + t.len + run_len formals ts (drop t.len text)) (tokens_from Plain 0 (drop (run_len formals ts (drop t.len text)) (drop t.len text))) (drop (run_len formals ts (drop t.len text)) (drop t.len text))
        ≡ next_expansion_point formals (at + t.len) ts (drop t.len text))
        → is_none (or_point (point_at formals at t (take t.len text)) (next_expansion_point formals (at + t.len) ts (drop t.len text))) ≡ false
        → next_expansion_point formals (at + (if none then t.len + run_len formals ts (drop t.len text) else 0))
        (tokens_from Plain 0 (drop (if none then t.len + run_len formals ts (drop t.len text) else 0) text))
        (drop (if none then t.len + run_len formals ts (drop t.len text) else 0) text)
        ≡ or_point (point_at formals at t (take t.len text)) (next_expansion_point formals (at + t.len) ts (drop t.len text))
    by true n same inner found =
        let m = run_len formals ts (drop t.len text) in
        let passed : or_point (point_at formals at t (take t.len text)) (next_expansion_point formals (at + t.len) ts (drop t.len text)) ≡ next_expansion_point formals (at + t.len) ts (drop t.len text) =
        or_none (point_at formals at t (take t.len text)) _ (none-at formals at t.len t.next_mode t.kind (take t.len text) ∙ n) in
        let own = inner (ap (λ (s : ExpansionPoint). is_none s) (sym passed) ∙ found) in
        let place : at + (t.len + m) ≡ at + t.len + m = omega arith in
        ap (λ (k : ℕ). next_expansion_point formals k (tokens_from Plain 0 (drop (t.len + m) text)) (drop (t.len + m) text)) place
        ∙ ap (λ (b : List ℕ). next_expansion_point formals (at + t.len + m) (tokens_from Plain 0 b) b) (sym (drop-drop m t.len text))
        ∙ own ∙ sym passed
    by false n same inner found =
        let m : mode ≡ Plain = point-plain formals 0 mode text (take t.len text) (ap (λ (u : Token). is_none (point_at formals 0 u (take t.len text))) same ∙ n) in
        let place : at + 0 ≡ at = omega arith in
        ap (λ (k : ℕ). next_expansion_point formals k (tokens_from Plain 0 text) text) place
        ∙ ap (λ (us : List Token). next_expansion_point formals at us text) (ap (λ (x : Mode). tokens_from x 0 text) (sym m) ∙ e)

-- an expansion point that stands at a place isn't none
place-some : (s : ExpansionPoint) (at : ℕ) → point_place s ≡ Some at → is_none s ≡ false
unfolding is_none
place-some point.None at e = absurd (cc)
place-some _ p e = refl

-- the first expansion point is that of the text from there on
pub point-moved : (formals : List Formal) (from at : ℕ) (text : List ℕ) (s : ExpansionPoint) → s ≡ point_of formals from text → point_place s ≡ Some at
    → s ≡ point_of formals at (drop (at - from) text)
unfolding point_of PlaceTells
point-moved formals from at text s e p =
    let ts = tokens_from Plain 0 text in
    let n = run_len formals ts text in
    let tells : (at ≡ from + n) × (n < length text) =
    subst (λ (o : Option ℕ). PlaceTells from n (length text) o) (ap (λ (o : ExpansionPoint). point_place o) (sym e) ∙ p)
    (points-at formals from ts Plain text refl) in
    let here : at ≡ from + n = tells.0 in
    let less : n ≡ at - from = omega (arith, here) in
    grind (arith, point-following, place-some)

-- no run stands in a text without bytes
run-empty : (formals : List Formal) (bytes : List ℕ) → length bytes ≡ 0 → run_len formals (tokens_from Plain 0 bytes) bytes ≡ 0
unfolding run_len tokens_from
run-empty formals [] h = refl
run-empty formals (b ∷ bs) h = absurd (omega (arith, h))

-- no run stands after a run
pub run-following : (formals : List Formal) (text : List ℕ) (n : ℕ) → n ≡ run_len formals (tokens_from Plain 0 text) text
    → run_len formals (tokens_from Plain 0 (drop n text)) (drop n text) ≡ 0
unfolding point_of PlaceTells
run-following formals text n e =
    by (point_place (point_of formals 0 text)) refl (subst (λ (k : ℕ). PlaceTells 0 k (length text) (point_place (point_of formals 0 text))) (sym e) (points-at formals 0 (tokens_from Plain 0 text) Plain text refl))
  where
    by : (place : Option ℕ) → point_place (point_of formals 0 text) ≡ place → PlaceTells 0 n (length text) place
        → run_len formals (tokens_from Plain 0 (drop n text)) (drop n text) ≡ 0
    by None p h = run-empty formals (drop n text) (let l = length-drop n text in omega (arith, l, h))
    by (Some at) p h =
        let here : at ≡ 0 + n = h.0 in
        let rest : at - 0 ≡ n = omega (arith, here) in
        let moved : point_of formals 0 text ≡ point_of formals at (drop n text) =
        point-moved formals 0 at text (point_of formals 0 text) refl p ∙ ap (λ (k : ℕ). point_of formals at (drop k text)) rest in
        let tells : (at ≡ at + run_len formals (tokens_from Plain 0 (drop n text)) (drop n text)) × (run_len formals (tokens_from Plain 0 (drop n text)) (drop n text) < length (drop n text)) =
        subst (λ (o : Option ℕ). PlaceTells at (run_len formals (tokens_from Plain 0 (drop n text)) (drop n text)) (length (drop n text)) o)
        (ap (λ (o : ExpansionPoint). point_place o) (sym moved) ∙ p) (points-at formals at (tokens_from Plain 0 (drop n text)) Plain (drop n text) refl) in
        let own = tells.0 in
        omega (arith, own)

-- an expansion point at the front: its token
pub point-front : (formals : List Formal) (from at : ℕ) (text : List ℕ) (s : ExpansionPoint) → s ≡ point_of formals from text → point_place s ≡ Some at → at ≤ from
    → (0 < length text) × (point_at formals from (token_of Plain text) (take (token_of Plain text).len text) ≡ s)
unfolding point_of PlaceTells
point-front formals from at text s e p h = grind (arith, points-at, point-token)

-- a formal at the front
pub front-formal : (formals : List Formal) (from at len place : ℕ) (text : List ℕ) → point.Formal at len place ≡ point_of formals from text → at ≤ from
    → IsTextItem formals text (front.Formal len place)
unfolding IsTextItem
front-formal formals from at len place text e h =
    let s = point-front formals from at text (point.Formal at len place) e refl h in
    let t = token_of Plain text in
    let f = formal-by formals from t.len t.next_mode t.kind (take t.len text) at len place s.1 in
    (s.0, f.0, f.1, ap (λ (n : ℕ). formal_named formals (take n text)) (sym f.1) ∙ f.2)

-- a usage at the front
pub front-usage : (formals : List Formal) (from at len : ℕ) (text : List ℕ) → point.Usage at len ≡ point_of formals from text → at ≤ from
    → IsTextItem formals text (front.Usage len)
unfolding IsTextItem
front-usage formals from at len text e h =
    let s = point-front formals from at text (point.Usage at len) e refl h in
    let t = token_of Plain text in
    let f = usage-by formals from t.len t.next_mode t.kind (take t.len text) at len s.1 in
    (s.0, f.0, f.1)

-- a lone backquote at the front
pub front-bare : (formals : List Formal) (from at : ℕ) (text : List ℕ) → point.Bare at ≡ point_of formals from text → at ≤ from
    → IsTextItem formals text front.Bare
unfolding IsTextItem
front-bare formals from at text e h =
    let s = point-front formals from at text (point.Bare at) e refl h in
    let t = token_of Plain text in
    (s.0, bare-by formals from t.len t.next_mode t.kind (take t.len text) at s.1)

-- what stands before an expansion point is copied
pub ahead-point : (formals : List Formal) (from at : ℕ) (text : List ℕ) (s : ExpansionPoint) (own : TextItem) → s ≡ point_of formals from text → point_place s ≡ Some at
    → ((from : ℕ) (text : List ℕ) → s ≡ point_of formals from text → at ≤ from → IsTextItem formals text own)
    → IsNextItem formals text from (record { at = at; front = own })
unfolding point_of AreCopied IsNextItem PlaceTells
ahead-point formals from at text s own e p h =
    let n = run_len formals (tokens_from Plain 0 text) text in
    let tells : (at ≡ from + n) × (n < length text) =
    subst (λ (o : Option ℕ). PlaceTells from n (length text) o) (ap (λ (o : ExpansionPoint). point_place o) (sym e) ∙ p)
    (points-at formals from (tokens_from Plain 0 text) Plain text refl) in
    let a = tells.0 in
    let b = tells.1 in
    (omega (arith, a), (omega (arith, a, b), omega (arith, a)), h at (drop (at - from) text) (point-moved formals from at text s e p) (omega arith))

-- no expansion point: all of the text is copied
pub ahead-whole : (formals : List Formal) (from end : ℕ) (text : List ℕ) → from + length text ≡ end → point.None ≡ point_of formals from text
    → IsNextItem formals text from (record { at = end; front = front.Ended })
unfolding point_of AreCopied IsNextItem IsTextItem PlaceTells
ahead-whole formals from end text e s =
    let tells : run_len formals (tokens_from Plain 0 text) text ≡ length text =
    subst (λ (o : ExpansionPoint). PlaceTells from (run_len formals (tokens_from Plain 0 text) text) (length text) (point_place o)) (sym s)
    (points-at formals from (tokens_from Plain 0 text) Plain text refl) in
    grind (arith, drop_all)

-- the run of a text without formals, and what stands after it
pub ahead-plain : (text : List ℕ) (n from : ℕ) (own : TextItem) → n ≡ run_len [] (tokens_from Plain 0 text) text → n ≤ length text
    → IsTextItem [] (drop n text) own → IsNextItem [] text from (record { at = from + n; front = own })
unfolding AreCopied IsNextItem
ahead-plain text n from own e inside f = grind arith

-- the run in front of a text without formals, where so many of its bytes are passed and the rest is read in a mode
pub record IsRunning (text : List ℕ) (mode : Mode) (at : ℕ) : Type 0 where
  pub inside : at ≤ length text
  pub same : at + run_len [] (tokens_from mode 0 (drop at text)) (drop at text) ≡ run_len [] (tokens_from Plain 0 text) text

-- at first none are
pub running-start : (text : List ℕ) → IsRunning text Plain 0
running-start text = record { inside = omega arith; same = omega arith }

-- a run by its first token
run-step : (formals : List Formal) (mode : Mode) (text : List ℕ) (none : Bool) → 0 < length text
    → is_none (point_at formals 0 (token_of mode text) (take (token_of mode text).len text)) ≡ none
    → run_len formals (tokens_from mode 0 text) text
    ≡ (if none then (token_of mode text).len + run_len formals (tokens_from (token_of mode text).next_mode 0 (drop (token_of mode text).len text)) (drop (token_of mode text).len text) else 0)
unfolding run_len
run-step formals mode text none some e = grind (arith, tokens_from-step, token_of-part)

-- without formals those are the expansion points
pub back-none : (len : ℕ) (next : Mode) (kind : Kind) (bytes : List ℕ)
    → is_none (point_at [] 0 (record { kind = kind; len = len; next_mode = next }) bytes) ≡ not (is_back kind)
unfolding is_none point_at point_name is_back
back-none len next Name bytes = refl
back-none len next kind bytes = refl

-- a usage or a lone backquote
pub back-one : (k : Kind) → (k ≡ Back) ⊎ (k ≡ BareBackquote) → is_back k ≡ true
unfolding is_back
back-one k (inl e) = ap is_back e
back-one k (inr e) = ap is_back e

-- any other token
pub back-other : (k : Kind) → (k ≡ Back → ⊥) → (k ≡ BareBackquote → ⊥) → is_back k ≡ false
unfolding is_back
back-other Back back bare = absurd (back refl)
back-other BareBackquote back bare = absurd (bare refl)
back-other k back bare = refl

-- one more token is passed
pub running-more : (text : List ℕ) (mode : Mode) (at : ℕ) (t : Token) → IsRunning text mode at → at < length text → t ≡ token_of mode (drop at text)
    → is_back t.kind ≡ false → IsRunning text t.next_mode (at + t.len)
running-more text mode at t r more e back =
    let rest = drop at text in
    let size = length-drop at text in
    let some : 0 < length rest = omega (arith, more, size) in
    let part = token_of-part mode rest some in
    let T = token_of mode rest in
    let n : is_none (point_at [] 0 T (take T.len rest)) ≡ true =
    back-none T.len T.next_mode T.kind (take T.len rest) ∙ ap (λ (u : Token). not (is_back u.kind)) (sym e) ∙ ap (λ (b : Bool). not b) back in
    let step = run-step [] mode rest true some n in
    let following : drop T.len rest ≡ drop (at + T.len) text = drop-drop T.len at text in
    let whole : at + T.len + run_len [] (tokens_from T.next_mode 0 (drop (at + T.len) text)) (drop (at + T.len) text) ≡ run_len [] (tokens_from Plain 0 text) text =
    sum at T.len (run_len [] (tokens_from T.next_mode 0 (drop (at + T.len) text)) (drop (at + T.len) text)) (run_len [] (tokens_from mode 0 rest) rest) (run_len [] (tokens_from Plain 0 text) text)
    (step ∙ ap (λ (b : List ℕ). T.len + run_len [] (tokens_from T.next_mode 0 b) b) following) r.same in
    subst (λ (u : Token). IsRunning text u.next_mode (at + u.len)) (sym e)
    (record { inside = (let inside = part.inside in omega (arith, inside, size, more)); same = whole })
  where
    sum : (a b c d n : ℕ) → d ≡ b + c → a + d ≡ n → a + b + c ≡ n
    sum a b c d n e f = omega (arith, e, f)

-- at an expansion point the run ends
pub running-point : (text : List ℕ) (mode : Mode) (at : ℕ) (t : Token) → IsRunning text mode at → at < length text → t ≡ token_of mode (drop at text)
    → is_back t.kind ≡ true → at ≡ run_len [] (tokens_from Plain 0 text) text
running-point text mode at t r more e back =
    let rest = drop at text in
    let size = length-drop at text in
    let some : 0 < length rest = omega (arith, more, size) in
    let T = token_of mode rest in
    let n : is_none (point_at [] 0 T (take T.len rest)) ≡ false =
    back-none T.len T.next_mode T.kind (take T.len rest) ∙ ap (λ (u : Token). not (is_back u.kind)) (sym e) ∙ ap (λ (b : Bool). not b) back in
    let step = run-step [] mode rest false some n in
    let same = r.same in
    omega (arith, step, same)

-- so it does at the end of the text
pub running-end : (text : List ℕ) (mode : Mode) (at : ℕ) → IsRunning text mode at → length text ≤ at → at ≡ run_len [] (tokens_from Plain 0 text) text
unfolding run_len tokens_from
running-end text mode at r e = grind (arith, drop_all)

-- what stands at the front of a text without formals whose run is empty
pub front-plain : (text : List ℕ) (t : Token) → 0 < length text → run_len [] (tokens_from Plain 0 text) text ≡ 0 → t ≡ token_of Plain text
    → (t.kind ≡ Back → IsTextItem [] text (front.Usage t.len)) × ((t.kind ≡ Back → ⊥) → IsTextItem [] text front.Bare)
unfolding IsTextItem is_back
front-plain text t some e is =
    let T = token_of Plain text in
    let kind : T.kind ≡ t.kind = ap (λ (u : Token). u.kind) (sym is) in (
      λ back. (some, kind ∙ back, ap (λ (u : Token). u.len) (sym is)),
      λ other. (some, kind ∙ bare t.kind (ap (λ (k : Kind). is_back k) (sym kind) ∙ points (is_back T.kind) refl) other),
    )
  where
    bare : (kind : Kind) → is_back kind ≡ true → (kind ≡ Back → ⊥) → kind ≡ BareBackquote
    bare Back h other = absurd (other refl)
    bare BareBackquote h other = refl
    bare kind h other = absurd (true≢false (sym h))

    points : (b : Bool) → is_back (token_of Plain text).kind ≡ b → b ≡ true
    points true h = refl
    points false h =
        let T = token_of Plain text in
        let n : is_none (point_at [] 0 T (take T.len text)) ≡ true =
        back-none T.len T.next_mode T.kind (take T.len text) ∙ ap (λ (b : Bool). not b) h in
        let step = run-step [] Plain text true some n in
        let positive = (token_of-part Plain text some).not_empty in
        absurd (omega (arith, step, positive, e))

-- a text that isn't a body has no formals
pub plain-source : (texts : Texts) (source : TextSource) (text : List ℕ) (from : ℕ) (f : NextItem) → ((id : ℕ) → source ≡ place_of.Body id → ⊥) → IsNextItem [] text from f
    → IsNextItem (source_formals texts source) text from f
unfolding source_formals
plain-source texts (place_of.Body id) text from f other h = absurd (other id refl)
plain-source texts _ text from f other h = h

-- a range of a text that has no byte
pub ahead-ended : (formals : List Formal) (text : List ℕ) (from end : ℕ) → end ≤ from → IsNextItem formals (slice_range text from end) from (record { at = from; front = front.Ended })
unfolding AreCopied IsNextItem IsTextItem
ahead-ended formals text from end h = grind (arith, run-empty, drop_all)

-- what stands ahead in a range of a body, by its first expansion point
pub ahead-body : (texts : Texts) (source : TextSource) (id from end : ℕ) (s : ExpansionPoint) (f : NextItem) → source ≡ place_of.Body id → from < end
    → end ≤ length (source_text texts source) → s ≡ point_in (macro_at texts.macros id) from end
    → ((formals : List Formal) (from : ℕ) (text : List ℕ) → from + length text ≡ end → s ≡ point_of formals from text → IsNextItem formals text from f)
    → IsNextItem (source_formals texts source) (slice_range (source_text texts source) from end) from f
unfolding source_formals source_text point_in
ahead-body texts source id from end s f e h inside is each = grind (arith, length-take, length-drop)

-- a range of a body lies in it
pub body-inside : (texts : Texts) (source : TextSource) (id end : ℕ) → source ≡ place_of.Body id → end ≤ length (source_text texts source)
    → end ≤ length (macro_at texts.macros id).body
unfolding source_text
body-inside texts source id end e inside = subst (λ (x : TextSource). end ≤ length (source_text texts x)) e inside

-- A text without a backquote has no expansion point but the names of formals.

-- a token that is no expansion point is passed
pub passed : (t : Token) (ts : List Token) (text : List ℕ) → is_back t.kind ≡ false → run_len [] (t ∷ ts) text ≡ t.len + run_len [] ts (drop t.len text)
unfolding run_len
passed t ts text h =
    ap (λ (b : Bool). cond b (t.len + run_len [] ts (drop t.len text)) 0) (back-none t.len t.next_mode t.kind (take t.len text) ∙ ap (λ (b : Bool). not b) h)

-- a text without a backquote is all a run, also where it is read on in a string or a comment
run-unquoted : (ts : List Token) (mode : Mode) (text : List ℕ) → tokens_from mode 0 text ≡ ts → ((i : ℕ) → i < length text → get_or text i 0 ≡ 96 → ⊥) → run_len [] ts text ≡ length text
unfolding run_len
run-unquoted [] mode text e none = grind (arith, tokens_from-step, token_of-part)
run-unquoted (t ∷ ts) mode text e none =
    let p = tokens_from-first mode text t ts e in
    let inside : t.len ≤ length text = subst (λ (u : Token). u.len ≤ length text) p.1.0 (token_of-part mode text p.0).inside in
    let here : is_none (point_at [] 0 t (take t.len text)) ≡ true = subst (λ (u : Token). is_none (point_at [] 0 u (take t.len text)) ≡ true) p.1.0 (token_passed mode text 0 (take t.len text) (none 0 p.0)) in
    let size : length (drop t.len text) ≡ length text - t.len = length-drop t.len text in
    let rest : run_len [] ts (drop t.len text) ≡ length (drop t.len text) =
    run-unquoted ts t.next_mode (drop t.len text) p.1.1 (λ i h b. none (t.len + i) (omega (arith, h, size)) (sym (get_or-drop t.len text i 0) ∙ b)) in
    grind arith

-- so it is where a search finds none
pub run_searched : (text : List ℕ) (found : Option ℕ) → is_some found ≡ false → IsFirstByte (is_byte 96) text found → length text ≡ run_len [] (tokens_from Plain 0 text) text
run_searched text (Some k) e h = absurd (true≢false e)
run_searched text None e h =
    sym (run-unquoted (tokens_from Plain 0 text) Plain text refl (λ i l b. h i (omega arith) l (ap (λ (n : ℕ). eqb n 96) b)))
