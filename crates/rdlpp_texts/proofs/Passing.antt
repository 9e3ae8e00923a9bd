-- Steps of open texts: what is copied, the end of a text, formals and lone backquotes; and which open texts are sound.
use Rattle.std.proofs.Common.{◌≡◌, ℕ, suc, ◌+◌, ◌-◌, ◌<◌, ◌≤◌, Bool, true, false, true≢false, List, [], ◌∷◌, length, take, drop, refl, sym, ap, subst, ◌∙◌, arith, Option, None, Some, zero, All, unwrap_or, option_map, if◌then◌else◌, nat_lt, slice_index_or, slice_range, take-add, drop-drop, length-drop, length-take, take-take}
use Rattle.std.specs.List.{AllByRecursion}
use Rattle.std.proofs.lemmas.List.Elements.{All-tail}
use Rattle.rdlpp_scan.specs.SourceTokens.{Ordinary, SourceToken}
use Rattle.rdlpp_scan.specs.TokenKinds.{opens_mode}
use Rattle.rdlpp_scan.specs.Tokens.{block_token, string_token, token_of, tokens_from, whole}
use Rattle.rdlpp_scan.specs.declared.token.Kind.{Kind}
use Rattle.rdlpp_scan.specs.declared.token.Kind.TheVariants.{Back, BareBackquote, Name, Perl}
use Rattle.rdlpp_scan.specs.declared.token.Mode.{Mode}
use Rattle.rdlpp_scan.specs.declared.token.Mode.TheVariants.{InBlock, InStr, Plain}
use Rattle.rdlpp_scan.specs.declared.token.Token.{Token}
use Rattle.rdlpp_scan.proofs.RangeLaws.{tokens_from-first}
use Rattle.rdlpp_scan.proofs.StopKinds.{closed_kind_plain}
use Rattle.rdlpp_scan.proofs.TokenLens.{token_of-part, tokens_from-step}
use Rattle.rdlpp_table.specs.ExpansionPoints.{is_none, point_at, point_name}
use Rattle.rdlpp_define.specs.Macros.{Formal, formals_of}
use Rattle.rdlpp_define.specs.Table.{IsSound, TableView, formal_at, formal_named, macro_at}
use Rattle.rdlpp_meaning.specs.Actuals.{token_role}
use Rattle.rdlpp_meaning.specs.CallScan.{is_kept}
use Rattle.rdlpp_meaning.specs.Expansion.{is_copied}
use Rattle.rdlpp_meaning.specs.OpenItems.{open_left}
use Rattle.rdlpp_meaning.specs.Opens.{AreOpen, Open, Texts, found_standing, open_after, open_body, open_bytes, open_scope, own_text, part_tokens, scope_formals, scope_open, text_around}
use Rattle.rdlpp_meaning.specs.Outcome.{and_then, fails, gives}
use Rattle.rdlpp_meaning.specs.State.{Rules, State, fault_at}
use Rattle.rdlpp_meaning.specs.Substitution.{body_tokens}
use Rattle.rdlpp_meaning.specs.TextTokens.{text_tokens}
use Rattle.rdlpp_meaning.specs.declared.fault.FaultKind.{FaultKind}
use Rattle.rdlpp_meaning.specs.declared.fault.FaultKind.TheVariants.{BareBackquote as NoName, DepthPassed}
use Rattle.rdlpp_meaning.proofs.OpenScopes.{Alone, following-formals, following-open, first_after, first_bytes, first_kind, part-whole, range_after, standing-found}
use Rattle.rdlpp_meaning.proofs.OpenSteps.{first_token, left-mode, step-bare as left-bare, step-closes, step-copies, step-formal as left-formal, step-formal_deep as left-formal_deep}
use Rattle.rdlpp_meaning.proofs.Outcomes.{and_then-gives_gives, and_then-gives_nil}
use Rattle.rdlpp_meaning.proofs.KeptTexts.{clean_keeps_all, clean_table, first_spelled, text_nil, text_step}
use Rattle.rdlpp_texts.specs.BoundCalls.{KeepsAll}
use Rattle.rdlpp_texts.specs.Digits.{IsFalling}
use Rattle.rdlpp_texts.specs.TextItems.{AreCopied, IsTextItem, IsPeek, IsPeekAhead, run_len}
use Rattle.rdlpp_texts.specs.Opened.{CursorsView, moved_to}
use Rattle.rdlpp_texts.specs.Places.{place_bytes, source_formals, source_text, texts_of}
use Rattle.rdlpp_texts.specs.Scopes.{front_source}
use Rattle.rdlpp_texts.specs.Steps.{AreSound, IsStep, IsUnlent, StaysRefused, StepsTo, wordless}
use Rattle.rdlpp_texts.specs.declared.peek.TextItem.{TextItem}
use Rattle.rdlpp_texts.specs.declared.peek.TextItem.TheVariants as front
use Rattle.rdlpp_texts.specs.declared.peek.Peek.{Peek}
use Rattle.rdlpp_texts.specs.declared.place.TextPlace.{TextPlace}
use Rattle.rdlpp_texts.specs.declared.place.TextSource.{TextSource}
use Rattle.rdlpp_texts.specs.declared.step.CursorFault.{CursorFault}
use Rattle.rdlpp_texts.specs.declared.step.CursorStep.{CursorStep}
use Rattle.rdlpp_texts.specs.declared.step.CursorStep.TheVariants.{Lends, Refused, Silent}
use Rattle.rdlpp_texts.proofs.BoundParts.{keeps_all_by}
use Rattle.rdlpp_texts.proofs.Falling.{falls-drop, falls-twice, peek-moves}
use Rattle.rdlpp_texts.proofs.Scoping.{front-formals, source-around}

-- A run of tokens that are copied, up to the first stop of a text.

-- a token of a kind
of_kind : Kind → ℕ → Mode → Token
of_kind kind len next = record { kind = kind; len = len; next_mode = next }

-- a formal is a stop, and another name isn't
name-point : (at len : ℕ) (found : Option ℕ) → is_none (point_name at len found) ≡ true → found ≡ None
unfolding is_none point_name
name-point at len None e = refl
name-point at len (Some place) e = absurd (true≢false (sym e))

-- a token that is no stop is copied, by its kind
copied-by : (formals : List Formal) (at len : ℕ) (next : Mode) (kind : Kind) (bytes own : List ℕ)
    → is_none (point_at formals at (of_kind kind len next) bytes) ≡ true
    → is_copied (record { sort = Ordinary kind; bytes = own; line = 0 }) ≡ true
unfolding is_none point_at is_copied of_kind
copied-by formals at len next Back bytes own e = absurd (true≢false (sym e))
copied-by formals at len next BareBackquote bytes own e = absurd (true≢false (sym e))
copied-by formals at len next kind bytes own e = refl

-- and is no formal
alone-by : (formals : List Formal) (at len : ℕ) (next : Mode) (kind : Kind) (bytes : List ℕ)
    → is_none (point_at formals at (of_kind kind len next) bytes) ≡ true → Alone kind (formal_named formals bytes)
unfolding point_at Alone of_kind
alone-by formals at len next Name bytes e = name-point at len (formal_named formals bytes) e
alone-by formals at len next kind bytes e = tt

-- the rest of a string is no stop
string-none : (formals : List Formal) (at from : ℕ) (text bytes : List ℕ) → is_none (point_at formals at (string_token from text) bytes) ≡ true
unfolding string_token whole point_at is_none of_kind
string-none formals at from text bytes = grind arith

-- nor is that of a comment
block-none : (formals : List Formal) (at from : ℕ) (text bytes : List ℕ) → is_none (point_at formals at (block_token from text) bytes) ≡ true
unfolding block_token whole point_at is_none of_kind
block-none formals at from text bytes = grind (arith, nat_lt)

-- nor is `<%`
perl-none : (formals : List Formal) (at : ℕ) (bytes : List ℕ) → is_none (point_at formals at (whole Perl 2) bytes) ≡ true
unfolding whole point_at is_none
perl-none formals at bytes = refl

-- no test holds and fails
holds-fails : {A : Type 0} (b : Bool) → b ≡ true → b ≡ false → A
holds-fails b h k = absurd (true≢false (sym h ∙ k))

-- a token that is a stop is read in plain text
pub point-plain : (formals : List Formal) (at : ℕ) (m : Mode) (text bytes : List ℕ)
    → is_none (point_at formals at (token_of m text) bytes) ≡ false → m ≡ Plain
unfolding token_of
point-plain formals at Plain text bytes e = refl
point-plain formals at InStr text bytes e = grind (arith, perl-none, string-none)
point-plain formals at InBlock text bytes e =
    holds-fails (is_none (point_at formals at (block_token 0 text) bytes)) (block-none formals at 0 text bytes) e

-- a part of a text after some of its bytes
pub slice-following : (text : List ℕ) (from to n : ℕ) → n ≤ length (slice_range text from to) → slice_range text (from + n) to ≡ drop n (slice_range text from to)
slice-following text from to n h = grind (arith, length-take, range_after)

-- what is left of an open text after some of its bytes
pub bytes-following : (texts : Texts) (x : Open) (below : List Open) (n : ℕ) (mode : Mode) → n ≤ length (open_bytes texts x below)
    → open_bytes texts (open_after x n mode) below ≡ drop n (open_bytes texts x below)
unfolding open_bytes open_after
bytes-following texts x below n mode h = slice-following (text_around texts x.kind x.parent below) x.part.from x.part.end n h

-- an open text after some bytes and then others
following-following : (x : Open) (n m : ℕ) (mode next : Mode) → open_after (open_after x n mode) m next ≡ open_after x (n + m) next
unfolding open_after
following-following x n m mode next = grind arith

-- the formals of the scope of an open text
abbrev pub HasFormals : Texts → List Formal → Open → List Open → Type 0
HasFormals texts formals x below = formals ≡ scope_formals texts.macros (x ∷ below) (open_scope x below)

-- they are so after some of its bytes too
formals-following : (texts : Texts) (formals : List Formal) (x : Open) (below : List Open) (n : ℕ) (mode : Mode) → HasFormals texts formals x below
    → HasFormals texts formals (open_after x n mode) below
unfolding open_scope open_after
formals-following texts formals x below n mode h = h ∙ sym (following-formals texts.macros x below (open_scope x below) n mode)

-- the first token of an open text is lent where it is no stop
first-goes : (rules : Rules) (s : State) (line depth : ℕ) (texts : Texts) (formals : List Formal) (x : Open) (below : List Open)
    → AreOpen texts (x ∷ below) → HasFormals texts formals x below → 0 < length (open_bytes texts x below)
    → is_none (point_at formals 0 (token_of x.part.mode (open_bytes texts x below)) (first_bytes texts x below)) ≡ true
    → open_left rules s line depth texts (x ∷ below)
    ≡ and_then (gives (first_bytes texts x below)) (open_left rules s line depth texts (first_after texts x below ∷ below))
unfolding first_kind first_bytes first_token of_kind
first-goes rules s line depth texts formals x below h f some e =
    let t = token_of x.part.mode (open_bytes texts x below) in
    let own = take t.len (open_bytes texts x below) in
    step-copies rules s line depth texts x below h some
    (copied-by formals 0 t.len t.next_mode t.kind own own e)
    (subst (λ (fs : List Formal). Alone t.kind (formal_named fs own)) f (alone-by formals 0 t.len t.next_mode t.kind own e))

-- what is reached after the tokens before the first stop
pub record IsRun (rules : Rules) (s : State) (line depth : ℕ) (texts : Texts) (x : Open) (below : List Open) (n : ℕ) : Type 0 where
  pub inside : n ≤ length (open_bytes texts x below)
  pub mode : Mode
  pub plain : text_tokens mode (drop n (open_bytes texts x below)) ≡ text_tokens Plain (drop n (open_bytes texts x below))
  pub goes : open_left rules s line depth texts (x ∷ below)
      ≡ and_then (gives (take n (open_bytes texts x below))) (open_left rules s line depth texts (open_after x n mode ∷ below))

-- no tokens
run-none : (rules : Rules) (s : State) (line depth : ℕ) (texts : Texts) (x : Open) (below : List Open)
    → text_tokens x.part.mode (open_bytes texts x below) ≡ text_tokens Plain (open_bytes texts x below)
    → IsRun rules s line depth texts x below 0
unfolding open_after
run-none rules s line depth texts x below e = grind (arith, and_then-gives_nil)

-- one more token
run-more : (rules : Rules) (s : State) (line depth : ℕ) (texts : Texts) (formals : List Formal) (x : Open) (below : List Open) (n : ℕ)
    → AreOpen texts (x ∷ below) → HasFormals texts formals x below → 0 < length (open_bytes texts x below)
    → is_none (point_at formals 0 (token_of x.part.mode (open_bytes texts x below)) (first_bytes texts x below)) ≡ true
    → IsRun rules s line depth texts (first_after texts x below) below n
    → IsRun rules s line depth texts x below ((token_of x.part.mode (open_bytes texts x below)).len + n)
unfolding first_bytes first_after
run-more rules s line depth texts formals x below n h f some e r = grind (arith, token_of-part, bytes-following, take-add, drop-drop, first-goes, and_then-gives_gives, following-following, length-drop)

-- an empty text has the same tokens in each mode
pub nil-same : (m : Mode) (bytes : List ℕ) → tokens_from m 0 bytes ≡ [] → text_tokens m bytes ≡ text_tokens Plain bytes
nil-same m [] e = text_nil m ∙ sym (text_nil Plain)
nil-same m (b ∷ bs) e = grind (arith, tokens_from-step, token_of-part)

-- the tokens before the first stop are a run, by whether the first one is a stop
run-by : (rules : Rules) (s : State) (line depth : ℕ) (texts : Texts) (formals : List Formal) (ts : List Token) (x : Open) (below : List Open) (none : Bool)
    → AreOpen texts (x ∷ below) → HasFormals texts formals x below → 0 < length (open_bytes texts x below)
    → is_none (point_at formals 0 (token_of x.part.mode (open_bytes texts x below)) (first_bytes texts x below)) ≡ none
    → IsRun rules s line depth texts (first_after texts x below) below (run_len formals ts (drop (token_of x.part.mode (open_bytes texts x below)).len (open_bytes texts x below)))
    → IsRun rules s line depth texts x below (if none then (token_of x.part.mode (open_bytes texts x below)).len + run_len formals ts (drop (token_of x.part.mode (open_bytes texts x below)).len (open_bytes texts x below)) else 0)
run-by rules s line depth texts formals ts x below true h f some e r =
    run-more rules s line depth texts formals x below _ h f some e r
run-by rules s line depth texts formals ts x below false h f some e r = grind (arith, point-plain, run-none)

-- the tokens before the first stop are a run
pub run-is : (rules : Rules) (s : State) (line depth : ℕ) (texts : Texts) (formals : List Formal) (ts : List Token) (x : Open) (below : List Open)
    → AreOpen texts (x ∷ below) → HasFormals texts formals x below
    → tokens_from x.part.mode 0 (open_bytes texts x below) ≡ ts
    → IsRun rules s line depth texts x below (run_len formals ts (open_bytes texts x below))
unfolding run_len first_bytes first_after open_after
run-is rules s line depth texts formals [] x below h f e =
    run-none rules s line depth texts x below (nil-same x.part.mode (open_bytes texts x below) e)
run-is rules s line depth texts formals (t ∷ ts) x below h f e =
    let bytes = open_bytes texts x below in
    let p = tokens_from-first x.part.mode bytes t ts e in
    let T = token_of x.part.mode bytes in
    let rest : open_bytes texts (first_after texts x below) below ≡ drop T.len bytes =
    bytes-following texts x below T.len T.next_mode (token_of-part x.part.mode bytes p.0).inside in
    let same : T ≡ t = p.1.0 in
    let tokens : tokens_from T.next_mode 0 (open_bytes texts (first_after texts x below) below) ≡ ts =
    ap (λ (b : List ℕ). tokens_from T.next_mode 0 b) rest ∙ ap (λ (u : Token). tokens_from u.next_mode 0 (drop u.len bytes)) same ∙ p.1.1 in
    let inner : IsRun rules s line depth texts (first_after texts x below) below (run_len formals ts (drop T.len bytes)) =
    subst (λ (b : List ℕ). IsRun rules s line depth texts (first_after texts x below) below (run_len formals ts b)) rest
    (run-is rules s line depth texts formals ts (first_after texts x below) below (following-open texts x below T.len T.next_mode h)
    (formals-following texts formals x below T.len T.next_mode f) tokens) in
    grind (arith, run-by)

-- a run before the first stop is lent in one piece
pub run-goes : (rules : Rules) (s : State) (line depth : ℕ) (texts : Texts) (formals : List Formal) (x : Open) (below : List Open) (n : ℕ)
    → AreOpen texts (x ∷ below) → HasFormals texts formals x below
    → run_len formals (tokens_from x.part.mode 0 (open_bytes texts x below)) (open_bytes texts x below) ≡ n
    → open_left rules s line depth texts (x ∷ below)
    ≡ and_then (gives (take n (open_bytes texts x below))) (open_left rules s line depth texts (open_after x n Plain ∷ below))
run-goes rules s line depth texts formals x below n h f e =
    let r : IsRun rules s line depth texts x below n =
    subst (λ (k : ℕ). IsRun rules s line depth texts x below k) e
    (run-is rules s line depth texts formals (tokens_from x.part.mode 0 (open_bytes texts x below)) x below h f refl) in
    grind (arith, left-mode, bytes-following)

-- Open texts in which no call drops a token.

-- what holds of each thing holds of that at a place
pub at-each : {A : Type 0} (P : A → Type 0) (xs : List A) (place : ℕ) (d : A) → AllByRecursion P xs → place < length xs → P (slice_index_or xs place d)
at-each P [] place d all h = absurd (omega (arith, h))
at-each P (x ∷ xs) zero d all h = all.0
at-each P (x ∷ xs) (suc place) d all h = at-each P xs place d all.1 (omega (arith, h))

-- no call in the body of a table's macro drops a token
pub body-keeps : (table : TableView) (id : ℕ) → IsSound table → id < length table.macros → KeepsAll (body_tokens (macro_at table.macros id).body)
body-keeps table id sound h = grind (arith, at-each, clean_table, keeps_all_by, clean_keeps_all)

-- nor one in the default text of a formal
pub default-keeps : (table : TableView) (id place : ℕ) → IsSound table → id < length table.macros → place < length (formals_of (macro_at table.macros id))
    → KeepsAll (body_tokens (formal_at (formals_of (macro_at table.macros id)) place).text)
default-keeps table id place sound h k = grind (arith, at-each, clean_table, keeps_all_by, clean_keeps_all)

-- what holds of the tokens of a text holds of those after the first
following-first : (P : SourceToken → Type 0) (m : Mode) (bytes : List ℕ) → 0 < length bytes → All P (text_tokens m bytes)
    → All P (text_tokens (token_of m bytes).next_mode (drop (token_of m bytes).len bytes))
following-first P m bytes some all =
    let rest = text_tokens (token_of m bytes).next_mode (drop (token_of m bytes).len bytes) in
    All-tail P (first_spelled m bytes) rest (subst (λ (ts : List SourceToken). All P ts) (text_step m bytes some) all)

-- and of those after a run, by whether the first is of it
following-by : (P : SourceToken → Type 0) (formals : List Formal) (m : Mode) (bytes : List ℕ) (n : ℕ) (none : Bool)
    → is_none (point_at formals 0 (token_of m bytes) (take (token_of m bytes).len bytes)) ≡ none → All P (text_tokens m bytes)
    → All P (text_tokens Plain (drop n (drop (token_of m bytes).len bytes)))
    → All P (text_tokens Plain (drop (if none then (token_of m bytes).len + n else 0) bytes))
following-by P formals m bytes n true e all rest = subst (λ (b : List ℕ). All P (text_tokens Plain b)) (drop-drop n (token_of m bytes).len bytes) rest
following-by P formals m bytes n false e all rest =
    subst (λ (mode : Mode). All P (text_tokens mode bytes)) (point-plain formals 0 m bytes (take (token_of m bytes).len bytes) e) all

-- and of those after a run
following-run : (P : SourceToken → Type 0) (formals : List Formal) (ts : List Token) (m : Mode) (bytes : List ℕ) → tokens_from m 0 bytes ≡ ts → All P (text_tokens m bytes)
    → All P (text_tokens Plain (drop (run_len formals ts bytes) bytes))
unfolding run_len
following-run P formals [] m bytes e all = subst (λ (us : List SourceToken). All P us) (nil-same m bytes e) all
following-run P formals (t ∷ ts) m bytes e all =
    let p = tokens_from-first m bytes t ts e in
    let T = token_of m bytes in
    let same : T ≡ t = p.1.0 in
    let tokens : tokens_from T.next_mode 0 (drop T.len bytes) ≡ ts = ap (λ (u : Token). tokens_from u.next_mode 0 (drop u.len bytes)) same ∙ p.1.1 in
    let rest = following-run P formals ts T.next_mode (drop T.len bytes) tokens (following-first P m bytes p.0 all) in
    subst (λ (u : Token). All P (text_tokens Plain (drop (if is_none (point_at formals 0 u (take u.len bytes)) then u.len + run_len formals ts (drop u.len bytes) else 0) bytes))) same
    (following-by P formals m bytes (run_len formals ts (drop T.len bytes)) (is_none (point_at formals 0 T (take T.len bytes))) refl all rest)

-- open texts of which the innermost goes on at a place are sound, where no call in what is left then drops a token
pub sound-moved : (texts : Texts) (x : Open) (below : List Open) (at : ℕ) → AreSound texts (x ∷ below)
    → KeepsAll (part_tokens (text_around texts x.kind x.parent below) (record { from = at; end = x.part.end; mode = Plain }))
    → AreSound texts (moved_to at (x ∷ below))
unfolding moved_to
sound-moved texts x below at h keeps = grind arith

-- they are after some bytes, where it is so of these bytes
bytes-sound : (texts : Texts) (x : Open) (below : List Open) (n : ℕ) → AreSound texts (x ∷ below) → n ≤ length (open_bytes texts x below)
    → KeepsAll (text_tokens Plain (drop n (open_bytes texts x below))) → AreSound texts (moved_to (x.part.from + n) (x ∷ below))
unfolding part_tokens open_bytes open_after
bytes-sound texts x below n h inside keeps =
    sound-moved texts x below (x.part.from + n) h
    (subst (λ (b : List ℕ). KeepsAll (text_tokens Plain b)) (sym (bytes-following texts x below n Plain inside)) keeps)

-- no call in the bytes that are left of the innermost drops a token
pub left-keeps : (texts : Texts) (x : Open) (below : List Open) → AreSound texts (x ∷ below) → KeepsAll (text_tokens Plain (open_bytes texts x below))
unfolding part_tokens open_bytes
left-keeps texts x below h = subst (λ (m : Mode). KeepsAll (text_tokens m (open_bytes texts x below))) (h.are_inside).1.1.0 (h.are_kept).0

-- so are open texts of which the innermost goes on after a run
pub run-sound : (texts : Texts) (formals : List Formal) (x : Open) (below : List Open) (n : ℕ) → AreSound texts (x ∷ below) → n ≤ length (open_bytes texts x below)
    → run_len formals (tokens_from Plain 0 (open_bytes texts x below)) (open_bytes texts x below) ≡ n
    → AreSound texts (moved_to (x.part.from + n) (x ∷ below))
run-sound texts formals x below n h inside e =
    let bytes = open_bytes texts x below in
    bytes-sound texts x below n h inside
    (subst (λ (k : ℕ). KeepsAll (text_tokens Plain (drop k bytes))) e
    (following-run (λ u. is_kept (token_role u) ≡ true) formals (tokens_from Plain 0 bytes) Plain bytes refl (left-keeps texts x below h)))

-- and after a first token of a kind that closes, as a name and a usage do
pub first-sound : (texts : Texts) (x : Open) (below : List Open) (len : ℕ) → AreSound texts (x ∷ below) → 0 < length (open_bytes texts x below)
    → opens_mode (token_of Plain (open_bytes texts x below)).kind ≡ false → (token_of Plain (open_bytes texts x below)).len ≡ len
    → AreSound texts (moved_to (x.part.from + len) (x ∷ below))
first-sound texts x below len h some closes e =
    let bytes = open_bytes texts x below in
    let part = token_of-part Plain bytes some in
    subst (λ (n : ℕ). AreSound texts (moved_to (x.part.from + n) (x ∷ below))) e
    (bytes-sound texts x below (token_of Plain bytes).len h part.inside
    (subst (λ (m : Mode). KeepsAll (text_tokens m (drop (token_of Plain bytes).len bytes))) (closed_kind_plain Plain bytes closes)
    (following-first (λ u. is_kept (token_role u) ≡ true) Plain bytes some (left-keeps texts x below h))))

-- One step of open texts, by what stands at the front of the innermost.

-- an open text of which nothing is left is closed
pub step-ended : (line depth : ℕ) (texts : Texts) (x : Open) (below : List Open) → AreSound texts (x ∷ below)
    → IsTextItem (source_formals texts (front_source (x ∷ below))) (open_bytes texts x below) front.Ended
    → IsStep line depth texts (x ∷ below) Silent below
unfolding IsStep StepsTo IsTextItem
step-ended line depth texts x below h e rules s m =
    step-closes rules s line depth texts x below e

-- a run is lent
pub step-run : (line depth : ℕ) (texts : Texts) (x : Open) (below : List Open) (n : ℕ) (place : TextPlace) → AreSound texts (x ∷ below)
    → 0 < n → AreCopied (source_formals texts (front_source (x ∷ below))) (open_bytes texts x below) n
    → take n (open_bytes texts x below) ≡ place_bytes texts place
    → IsStep line depth texts (x ∷ below) (Lends place) (moved_to (x.part.from + n) (x ∷ below))
unfolding IsStep StepsTo AreCopied moved_to open_after
step-run line depth texts x below n place h some f p rules s m = grind (arith, run-goes, front-formals)

-- the kind of the first token
pub kind-first : (texts : Texts) (x : Open) (below : List Open) (kind : Kind) → x.part.mode ≡ Plain → (token_of Plain (open_bytes texts x below)).kind ≡ kind
    → first_kind texts x below ≡ kind
unfolding first_kind
kind-first texts x below kind m e = ap (λ (md : Mode). (token_of md (open_bytes texts x below)).kind) m ∙ e

-- a fault that is told
pub fault-same : (s : State) (line : ℕ) (texts : Texts) (fault : CursorFault) (kind : FaultKind) (word : List ℕ) → fault.kind ≡ kind → place_bytes texts fault.word ≡ word
    → fails (fault_at fault.kind line (place_bytes texts fault.word) s) ≡ fails (fault_at kind line word s)
fault-same s line texts fault kind word k w =
    ap (λ (c : FaultKind). fails (fault_at c line (place_bytes texts fault.word) s)) k ∙ ap (λ (bytes : List ℕ). fails (fault_at kind line bytes s)) w

-- a lone backquote is a fault
pub step-bare : (line depth : ℕ) (texts : Texts) (x : Open) (below : List Open) (new : List Open) (fault : CursorFault) → AreSound texts (x ∷ below)
    → IsTextItem (source_formals texts (front_source (x ∷ below))) (open_bytes texts x below) front.Bare
    → fault.kind ≡ NoName → place_bytes texts fault.word ≡ []
    → IsStep line depth texts (x ∷ below) (Refused fault) new
unfolding IsStep StepsTo IsTextItem
step-bare line depth texts x below new fault h f k w rules s m = grind (arith, left-bare, kind-first, fault-same)

-- the bytes of the first token
pub bytes-first : (texts : Texts) (x : Open) (below : List Open) (len : ℕ) → x.part.mode ≡ Plain → (token_of Plain (open_bytes texts x below)).len ≡ len
    → first_bytes texts x below ≡ take len (open_bytes texts x below)
unfolding first_bytes
bytes-first texts x below len m e = grind arith

-- after a first token of a kind that closes, the open text goes on as plain text
pub first-moved : (texts : Texts) (x : Open) (below : List Open) (len : ℕ) → x.part.mode ≡ Plain → opens_mode (token_of Plain (open_bytes texts x below)).kind ≡ false
    → (token_of Plain (open_bytes texts x below)).len ≡ len → first_after texts x below ≡ open_after x len Plain
unfolding first_after
first-moved texts x below len m k e = grind (arith, closed_kind_plain)

-- a name closes
pub name-closes : (kind : Kind) → kind ≡ Name → opens_mode kind ≡ false
unfolding opens_mode
name-closes kind e = ap (λ (k : Kind). opens_mode k) e

-- the first token names the formal that a look tells
pub first-formal : (texts : Texts) (x : Open) (below : List Open) (len place : ℕ) → x.part.mode ≡ Plain → x.parent ≤ length below
    → (token_of Plain (open_bytes texts x below)).len ≡ len
    → formal_named (source_formals texts (front_source (x ∷ below))) (take len (open_bytes texts x below)) ≡ Some place
    → formal_named (scope_formals texts.macros (x ∷ below) (open_scope x below)) (first_bytes texts x below) ≡ Some place
first-formal texts x below len place mode h e named = grind (arith, bytes-first, front-formals)

-- what a formal stands for is opened, where there is room
pub step-formal : (line depth : ℕ) (texts : Texts) (x : Open) (below : List Open) (len place : ℕ) (new : Open) → AreSound texts (x ∷ below)
    → IsTextItem (source_formals texts (front_source (x ∷ below))) (open_bytes texts x below) (front.Formal len place)
    → found_standing texts.macros (scope_open (x ∷ below) (open_scope x below)) (open_scope x below) place ≡ Some new
    → length (x ∷ below) < depth
    → IsStep line depth texts (x ∷ below) Silent (new ∷ moved_to (x.part.from + len) (x ∷ below))
unfolding IsStep StepsTo IsTextItem moved_to open_after
step-formal line depth texts x below len place new h f standing room rules s m =
    let mode : x.part.mode ≡ Plain = (h.are_inside).1.1.0 in
    let named : formal_named (scope_formals texts.macros (x ∷ below) (open_scope x below)) (first_bytes texts x below) ≡ Some place = first-formal texts x below len place mode (h.are_open).0 f.2 f.3 in
    left-formal rules s line depth texts x below place new h.are_open f.0 (kind-first texts x below Name mode f.1) named standing room
    ∙ ap (λ (y : Open). open_left rules s line depth texts (new ∷ y ∷ below)) (first-moved texts x below len mode (name-closes _ f.1) f.2)

-- and is a fault where there is none
pub step-formal_deep : (line depth : ℕ) (texts : Texts) (x : Open) (below : List Open) (len place : ℕ) (new : List Open) (fault : CursorFault) → AreSound texts (x ∷ below)
    → IsTextItem (source_formals texts (front_source (x ∷ below))) (open_bytes texts x below) (front.Formal len place)
    → depth ≤ length (x ∷ below) → fault.kind ≡ DepthPassed → place_bytes texts fault.word ≡ []
    → IsStep line depth texts (x ∷ below) (Refused fault) new
unfolding IsStep StepsTo IsTextItem
step-formal_deep line depth texts x below len place new fault h f deep k w rules s m =
    let mode : x.part.mode ≡ Plain = (h.are_inside).1.1.0 in
    let named : formal_named (scope_formals texts.macros (x ∷ below) (open_scope x below)) (first_bytes texts x below) ≡ Some place = first-formal texts x below len place mode (h.are_open).0 f.2 f.3 in
    let y = standing-found texts.macros (scope_open (x ∷ below) (open_scope x below)) (open_scope x below) place (first_bytes texts x below) named in
    grind (arith, left-formal_deep, kind-first, fault-same)

-- the texts around the innermost are sound
pub sound-tail : (texts : Texts) (x : Open) (below : List Open) → AreSound texts (x ∷ below) → AreSound texts below
sound-tail texts x below h = record { are_open = ((h.are_open).1).1; are_inside = (((h.are_inside).1).1).1; are_kept = ((h.are_kept).1).1 }

-- a step by a look: nothing is left
pub peek-ended : (line depth : ℕ) (texts : Texts) (opens : List Open) (peek : Peek) → AreSound texts opens → IsPeek texts opens peek → peek.front ≡ front.Ended
    → IsStep line depth texts opens Silent (drop 1 opens) × AreSound texts (drop 1 opens)
unfolding IsPeek
peek-ended line depth texts [] peek h l e = absurd l
peek-ended line depth texts (x ∷ below) peek h l e =
    (step-ended line depth texts x below h (subst (λ (f : TextItem). IsTextItem (source_formals texts (front_source (x ∷ below))) (open_bytes texts x below) f) e l.3), sound-tail texts x below h)

-- A step of open texts where neither a formal nor a usage stands at the front of the innermost.

-- the first bytes of a range of a text are those of a range of another one, which is the same if it has a byte
pub same-front : (text other : List ℕ) (from end n : ℕ) → 0 < n → n ≤ length (slice_range text from end) → (0 < length text → other ≡ text)
    → take n (slice_range text from end) ≡ slice_range other from (from + n)
same-front text other from end n some inside e = grind (arith, length-take, length-drop, take-take)

-- what is copied is lent
pub peek-run : (line depth : ℕ) (texts : Texts) (opens : List Open) (peek : Peek) → AreSound texts opens → IsPeekAhead texts opens peek → peek.from < peek.at
    → IsStep line depth texts opens (Lends (record { source = peek.source; from = peek.from; end = peek.at })) (moved_to peek.at opens)
unfolding IsPeekAhead AreCopied open_bytes place_bytes
peek-run line depth texts [] peek h l more = absurd l
peek-run line depth texts (x ∷ below) peek h l more =
    let n = peek.at - peek.from in
    let from = l.1 in
    let some : 0 < n = omega (arith, more) in
    let place : TextPlace = record { source = front_source (x ∷ below); from = x.part.from; end = x.part.from + n } in
    let step : IsStep line depth texts (x ∷ below) (Lends place) (moved_to (x.part.from + n) (x ∷ below)) =
    step-run line depth texts x below n place h some l.3
    (same-front (text_around texts x.kind x.parent below) (source_text texts (front_source (x ∷ below))) x.part.from x.part.end n some l.3.0 (source-around texts x below)) in
    let at : peek.at ≡ x.part.from + n = omega (arith, from, more) in
    grind arith

-- after what is copied the open texts are sound
pub peek-passed : (texts : Texts) (opens : List Open) (peek : Peek) → AreSound texts opens → IsPeekAhead texts opens peek → AreSound texts (moved_to peek.at opens)
unfolding IsPeekAhead AreCopied
peek-passed texts [] peek h l = absurd l
peek-passed texts (x ∷ below) peek h l =
    let from = l.1 in
    let order = l.2 in
    let at : peek.at ≡ x.part.from + (peek.at - peek.from) = omega (arith, from, order) in
    grind (arith, run-sound)

-- a lone backquote is a fault
pub peek-bare : (line depth : ℕ) (texts : Texts) (opens new : List Open) (peek : Peek) (fault : CursorFault) → AreSound texts opens → IsPeek texts opens peek → peek.front ≡ front.Bare
    → fault.kind ≡ NoName → place_bytes texts fault.word ≡ [] → IsStep line depth texts opens (Refused fault) new
unfolding IsPeek
peek-bare line depth texts [] new peek fault h l e k w = absurd l
peek-bare line depth texts (x ∷ below) new peek fault h l e k w =
    step-bare line depth texts x below new fault h (subst (λ (f : TextItem). IsTextItem (source_formals texts (front_source (x ∷ below))) (open_bytes texts x below) f) e l.3) k w

-- no bytes stand in an empty range
pub no-word : (texts : Texts) (source : TextSource) → place_bytes texts (record { source = source; from = 0; end = 0 }) ≡ []
unfolding place_bytes
no-word texts source = refl

-- what a list that isn't there has
pub no-formals : (formals : Option (List Formal)) → option_map (λ (fs : List Formal). length fs) formals ≡ None → length (unwrap_or formals []) ≤ 0
no-formals None e = omega arith
no-formals (Some fs) e = absurd (cc)

-- the body of a macro without a list, whose usage stands in a source, is sound
pub sound-body : (table : TableView) (arguments : List ℕ) (id : ℕ) → IsSound table → id < length table.macros
    → option_map (λ (fs : List Formal). length fs) (macro_at table.macros id).formals ≡ None
    → AreSound (texts_of table.macros arguments) (open_body (texts_of table.macros []) id [] 0 ∷ [])
unfolding open_body text_around own_text
sound-body table arguments id sound h e = grind (arith, no-formals, part-whole, body-keeps)

-- it is so whatever is seen of it
pub sound-opened : (table : TableView) (arguments : List ℕ) (id line depth : ℕ) (view : CursorsView) → IsSound table → id < length table.macros
    → option_map (λ (fs : List Formal). length fs) (macro_at table.macros id).formals ≡ None
    → view ≡ record { opens = open_body (texts_of table.macros []) id [] 0 ∷ []; line = line; depth = depth }
    → AreSound (texts_of table.macros arguments) view.opens
sound-opened table arguments id line depth view sound h e is =
    subst (λ (v : CursorsView). AreSound (texts_of table.macros arguments) v.opens) (sym is) (sound-body table arguments id sound h e)

-- what a step has left: it is one, and what is open is sound, at the same line and for as many texts; the digits of the work left
-- fall, unless it is refused, where nothing changes
pub record IsPassed (texts : Texts) (view new : CursorsView) (step : CursorStep) : Type 0 where
  pub is_step : IsStep view.line view.depth texts view.opens step new.opens
  pub sound : AreSound texts new.opens
  pub kept : (new.line ≡ view.line) × (new.depth ≡ view.depth)
  pub digits : IsFalling view.opens step new.opens
  pub refused : StaysRefused view step new

-- the innermost is closed
pub pass-ended : (texts : Texts) (view new : CursorsView) (peek : Peek) → AreSound texts view.opens → IsPeek texts view.opens peek → peek.front ≡ front.Ended
    → new ≡ record { opens = drop 1 view.opens; line = view.line; depth = view.depth } → IsPassed texts view new Silent
unfolding IsFalling StaysRefused
pass-ended texts view new peek h l e is = grind (arith, peek-ended, falls-drop)

-- what is copied is lent
pub pass-run : (texts : Texts) (view new : CursorsView) (peek : Peek) → AreSound texts view.opens → IsPeekAhead texts view.opens peek → peek.from < peek.at
    → new ≡ record { opens = moved_to peek.at view.opens; line = view.line; depth = view.depth }
    → IsPassed texts view new (Lends (record { source = peek.source; from = peek.from; end = peek.at }))
unfolding IsFalling StaysRefused
pass-run texts view new peek h l more is = grind (arith, peek-run, peek-passed, peek-moves)

-- a lone backquote is a fault
pub pass-bare : (texts : Texts) (view : CursorsView) (peek : Peek) → AreSound texts view.opens → IsPeek texts view.opens peek → peek.front ≡ front.Bare
    → IsPassed texts view view (wordless NoName)
unfolding IsFalling StaysRefused
pass-bare texts view peek h l e = grind (arith, peek-bare, no-word)

-- a silent step at another line and depth that are the same
pub silent-on : (rules : Rules) (s : State) (texts : Texts) (view mid new : CursorsView) → (mid.line ≡ view.line) × (mid.depth ≡ view.depth)
    → open_left rules s mid.line mid.depth texts mid.opens ≡ open_left rules s mid.line mid.depth texts new.opens
    → open_left rules s view.line view.depth texts mid.opens ≡ open_left rules s view.line view.depth texts new.opens
silent-on rules s texts view mid new kept e = grind arith

-- a run that is lent, and after it a step that lends nothing, are one step
pub pass-on : (texts : Texts) (view mid new : CursorsView) (place : TextPlace) → IsPassed texts view mid (Lends place) → IsPassed texts mid new Silent
    → IsPassed texts view new (Lends place)
unfolding IsFalling StaysRefused IsStep StepsTo
pass-on texts view mid new place p q = grind (arith, silent-on, falls-twice)

-- so they are where that step is refused, and nothing changes
pub pass-following : (texts : Texts) (view mid new : CursorsView) (place : TextPlace) (step : CursorStep) → IsPassed texts view mid (Lends place) → IsPassed texts mid new step
    → IsUnlent step → IsPassed texts view new (Lends place)
unfolding StaysRefused
pass-following texts view mid new place (Lends other) p q none = absurd none
pass-following texts view mid new place Silent p q none = pass-on texts view mid new place p q
pass-following texts view mid new place (Refused fault) p q none = subst (λ (v : CursorsView). IsPassed texts view v (Lends place)) (sym q.refused) p
