-- Ordinary text in a source, and passed byte by byte or block by block.
use Rattle.std.proofs.Common.{◌≡◌, ℕ, zero, suc, ◌+◌, ◌<◌, ◌≤◌, true, false, List, ◌∷◌, ◌++◌, length, take, drop, refl, sym, ap, ◌∙◌, inl, inr, ⊎_elim, arith, Bool, cond, subst, Option, None, Some, ◌*◌, ◌-◌, ◌^◌, ◌%◌, ◌||◌, eqb, eq-eqb, not, map, take-take, slice_index, get_or, replicate, w8, ◌&&◌, nat_lt, mul_assoc, pow-suc, eqb-true, ne_eqb, ◌≢◌, append_assoc, drop-drop, ext_get_or, length-drop, length-take, length-take-le, take-append-drop, []}
use Rattle.std.specs.List.{prefix_len}
use Rattle.std.proofs.Math.Seq.{take-length}
use Rattle.std.proofs.lemmas.Bool.{both_ways, cases_Bool, cases_lt, cond_both, false≢true, not-true, or_cases, or_parts}
use Rattle.std.proofs.lemmas.List.{drop-append-le, drop_all, get_or-map, get_or_past, length-map, take-append-le, take-map}
use Rattle.std.proofs.lemmas.List.Elements.{All-cons}
use Rattle.std.proofs.lemmas.List.Folds.{list_all_at}
use Rattle.std.proofs.lemmas.Nat.{mod_low, one_shl}
use Rattle.std.proofs.lemmas.Simd.{Each1-all, Each1-zip2, Each2-splat, SwzOk-from_below, first_set_mask_l, get_or-replicate, get_or-swz_l_below, get_or-zip2, length-chunk, length-swz_l, length-zip2, mask_l-lt, mask_l-mod, none_from_empty_mask, ones-mask_l, run_in_chunk_fails, run_in_chunk_le, tops_compared}
use borrow.Rule.Simd.Moves.{SwzOk, swz_l}
use lib.Bits.{and_le_r, bit_and}
use lib.Count.{count_trailing_zeros, ones}
use lib.Lanes.{chunk, mask_l, top, zip2}
use Rattle.rdlpp_scan.specs.Bytes.{begins_block_comment, begins_line_comment, begins_perl, is_blank, is_line_end, is_inert}
use Rattle.rdlpp_scan.specs.Front.{Breach, Break, CommentOpen, DefineCut, DefineLong, PerlFound, StringOpen}
use Rattle.rdlpp_scan.specs.Lines.{EndsLine, IsWholeLines}
use Rattle.rdlpp_scan.specs.Ordinary.{IsEdge, IsOrdinary, IsPlainToken, is_plain_kind}
use Rattle.rdlpp_scan.specs.Pieces.{IsCut}
use Rattle.rdlpp_scan.specs.PlainTexts.{IsPassed, is_mark}
use Rattle.rdlpp_scan.specs.SourceTokens.{Course, Definition, Last, Next, Ordinary, SourceToken, Step, back_step, broken, comment_step, define_step, line_ends, line_step, logical_len, open_end, source_step, source_tokens, step_by, string_step}
use Rattle.rdlpp_scan.specs.TokenKinds.{is_ordinary, opens_mode}
use Rattle.rdlpp_scan.specs.Tokens.{first_place, plain_len, plain_token, stops_plain_text, token_of, whole}
use Rattle.rdlpp_scan.specs.declared.token.Kind.{Kind}
use Rattle.rdlpp_scan.specs.declared.token.Kind.TheVariants.{Back, BareBackquote, BlockComment, LineComment, Name, Perl, Str}
use Rattle.rdlpp_scan.specs.declared.token.Mode.{Mode}
use Rattle.rdlpp_scan.specs.declared.token.Mode.TheVariants.{InBlock, InStr, Plain}
use Rattle.rdlpp_scan.specs.declared.token.Token.{Token}
use Rattle.rdlpp_scan.proofs.StopKinds.{IsPlainPart, both_first, closed_kind_plain, plain_token-plain}
use Rattle.rdlpp_scan.proofs.SourceLaws.{IsWholeLines-drop, line_ends-append, line_ends-most, line_ends-part, source_tokens-next, source_tokens-opened}
use Rattle.rdlpp_scan.proofs.Seams.{IsCut-drop, IsCut-from_line, IsCut-rest, stops-append}
use Rattle.rdlpp_scan.proofs.TokenLens.{first_place-at, first_place-before, first_place-le, no_perl, inert_at, token_of-part}

-- Ordinary text goes through as it is.

step_by-kind : (c : Course) (o l : ℕ) (k : Kind) (n : ℕ) (m : Mode) (bs : List ℕ) → is_plain_kind k ≡ true → step_by c o l (record { kind = k; len = n; next_mode = m }) bs ≡ Next (record { sort = Ordinary k; bytes = take n bs; line = l })
unfolding step_by is_plain_kind
step_by-kind c o l Str n m bs h = absurd (false≢true h)
step_by-kind c o l Back n m bs h = absurd (false≢true h)
step_by-kind c o l BlockComment n m bs h = absurd (false≢true h)
step_by-kind c o l LineComment n m bs h = absurd (false≢true h)
step_by-kind c o l BareBackquote n m bs h = absurd (false≢true h)
step_by-kind c o l Perl n m bs h = absurd (false≢true h)
step_by-kind c o l _ n m bs h = refl

-- a token of ordinary text is one of a source as it is
pub step_by-plain : (c : Course) (o l : ℕ) (t : Token) (bs : List ℕ) → is_plain_kind t.kind ≡ true → step_by c o l t bs ≡ Next (record { sort = Ordinary t.kind; bytes = take t.len bs; line = l })
step_by-plain c o l t bs h = step_by-kind c o l t.kind t.len t.next_mode bs h

-- a step in plain text
pub source_step-plain : (c : Course) (o l : ℕ) (bs : List ℕ) → source_step c Plain o l bs ≡ step_by c l l (token_of Plain bs) bs
unfolding source_step
source_step-plain c o l bs = refl

Quiet : List ℕ → List ℕ → Type 0
Quiet w x = (j : ℕ) → j < length w → stops_plain_text (drop j (w ++ x)) ≡ false

Quiet-drop : (n : ℕ) (w x : List ℕ) → n ≤ length w → Quiet w x → Quiet (drop n w) x
unfolding Quiet
Quiet-drop n w x fits q j lt = grind (arith, drop-append-le, drop-drop, length-drop)

IsEdge-drop : (n : ℕ) (w x : List ℕ) → IsEdge w x → IsEdge (drop n w) x
IsEdge-drop n w x = ⊎_elim (λ none. inl none) (λ rest. ⊎_elim (λ whole. inr (inl (IsWholeLines-drop n w whole))) (λ stop. inr (inr stop)) rest)

nothing-ordinary : (c : Course) (l : ℕ) (x : List ℕ) → IsOrdinary c l [] x
unfolding line_ends
nothing-ordinary c l x = grind arith

ordinary_more : (c : Course) (l b : ℕ) (w x : List ℕ) → Quiet (b ∷ w) x → IsEdge (b ∷ w) x
    → ((d : Course) (m : ℕ) (v y : List ℕ) → length v ≤ length w → Quiet v y → IsEdge v y → IsOrdinary d m v y) → IsOrdinary c l (b ∷ w) x
unfolding token_of Quiet
ordinary_more c l b w x inert edge later =
    let W = b ∷ w in
    let y = b ∷ w ++ x in
    let t = token_of Plain y in
    let n = t.len in
    let still : stops_plain_text y ≡ false = inert 0 (omega arith) in
    let part : IsPlainPart t W = plain_token-plain b w x still edge in
    let whole = token_of-part Plain y (omega arith) in
    let tok : SourceToken = record { sort = Ordinary t.kind; bytes = take n y; line = l } in
    let size : length (take n y) ≡ n = length-take-le n y whole.inside in
    let step : (o : ℕ) → source_step c Plain o l y ≡ Next tok = λ o. source_step-plain c o l y ∙ step_by-plain c l l t y part.plain in
    let front : take n y ≡ take n W = take-append-le n W x part.inside in
    let back : drop n y ≡ drop n W ++ x = drop-append-le n W x part.inside in
    let rest = later c (l + line_ends (take n W)) (drop n W) x (omega (arith, length-drop n W, whole.not_empty)) (Quiet-drop n W x part.inside inert) (IsEdge-drop n W x edge) in
    let lines : l + line_ends (take n W) + line_ends (drop n W) ≡ l + line_ends W = omega (arith, line_ends-append (take n W) (drop n W), ap line_ends (take-append-drop n W)) in
    let go : (o i k : ℕ) (z : List ℕ) → List SourceToken = λ o i k z. source_tokens c Plain o i k z in
    record {
      tokens = tok ∷ rest.tokens;
      steps = λ o.
          source_tokens-next c Plain o l y tok (omega arith) (step o) (omega (arith, size, whole.not_empty))
          ∙ ap (λ i. tok ∷ go l (l + line_ends (take i y)) 0 (drop i y)) size
          ∙ ap (λ z. tok ∷ go l (l + line_ends z) 0 (drop n y)) front
          ∙ ap (λ z. tok ∷ go l (l + line_ends (take n W)) 0 z) back
          ∙ ap (λ ts. tok ∷ ts) (rest.steps l)
          ∙ ap (λ z. tok ∷ (rest.tokens ++ z)) (source_tokens-opened c l o (l + line_ends (take n W) + line_ends (drop n W)) 0 x ∙ ap (λ k. go o k 0 x) lines);
      plain = All-cons IsPlainToken tok rest.tokens (record { kind = t.kind; sort = refl; plain = part.plain }) rest.plain;
      spelled = ap (λ z. take n y ++ z) rest.spelled ∙ ap (λ z. z ++ drop n W) front ∙ take-append-drop n W;
    }

ordinary_within : (k : ℕ) (c : Course) (l : ℕ) (w x : List ℕ) → length w ≤ k → Quiet w x → IsEdge w x → IsOrdinary c l w x
ordinary_within k c l [] x fuel inert edge = nothing-ordinary c l x
ordinary_within zero c l (b ∷ w) x fuel inert edge = absurd (omega arith)
ordinary_within (suc k) c l (b ∷ w) x fuel inert edge = ordinary_more c l b w x inert edge (λ d m v y short. ordinary_within k d m v y (omega arith))

-- ordinary text with something after it
pub ordinary_text : (c : Course) (l : ℕ) (w x : List ℕ) → length w ≤ plain_len (w ++ x) → IsEdge w x → IsOrdinary c l w x
unfolding plain_len Quiet
ordinary_text c l w x inside edge =
    ordinary_within (length w) c l w x (omega arith) (λ j lt. first_place-before stops_plain_text (w ++ x) j (omega arith)) edge

-- The ordinary text with which a text begins that ends at a line end.

first_place-append : (held more : List ℕ) → IsCut held more → first_place stops_plain_text held ≤ first_place stops_plain_text (held ++ more)
unfolding first_place
first_place-append [] more cut = omega arith
first_place-append (b ∷ w) more cut =
    let same = stops-append (b ∷ w) more (omega arith) cut in
    let n = first_place stops_plain_text w in
    let m = first_place stops_plain_text (w ++ more) in
    let P : Bool → Type 0 = λ t. cond (stops_plain_text (b ∷ w)) 0 (suc n) ≤ cond t 0 (suc m) in
    let here : P (stops_plain_text (b ∷ w)) =
    elim (stops_plain_text (b ∷ w)) as (λ t. cond t 0 (suc n) ≤ cond t 0 (suc m)) [ true ↦ omega arith | false ↦ omega (arith, first_place-append w more (IsCut-rest b w more cut)) ] in
    subst P (sym same) here

-- the ordinary text with which a text begins that ends at a line end
pub ordinary_front : (c : Course) (l : ℕ) (held more : List ℕ) → EndsLine held more → IsOrdinary c l (take (plain_len held) held) (drop (plain_len held) held ++ more)
unfolding plain_len
ordinary_front c l held more ends =
    let n = first_place stops_plain_text held in
    let le = first_place-le stops_plain_text held in
    let w = take n held in
    let x = drop n held ++ more in
    let cut = IsCut-from_line held more ends in
    let size : length w ≡ n = length-take-le n held le in
    let text : w ++ x ≡ held ++ more = sym (append_assoc w (drop n held) more) ∙ ap (λ z. z ++ more) (take-append-drop n held) in
    let inside : length w ≤ plain_len (w ++ x) = omega (arith, size, first_place-append held more cut, ap plain_len text) in
    let stopping : n < length held → IsEdge w x = λ lt.
    inr (inr (stops-append (drop n held) more (omega (arith, length-drop n held)) (IsCut-drop n held more cut) ∙ first_place-at stops_plain_text held lt)) in
    let ending : length held ≤ n → IsEdge w x = λ ge.
    let all : n ≡ length held = omega (arith, le) in
    let whole : w ≡ held = ap (λ i. take i held) all ∙ take-length held in
    ⊎_elim (λ h. inr (inl (subst IsWholeLines (sym whole) h))) (λ none. inl (ap (λ z. z ++ more) (drop_all n held ge) ∙ none)) ends in
    ordinary_text c l w x inside (⊎_elim stopping ending (cases_lt n (length held)))

-- A token of a source that is one of the token table is the first token of its text.

-- a token of a source is the token of a text, which leaves plain text after it
pub record IsTokenOf (v : Token) (bs : List ℕ) (t : SourceToken) : Type 0 where
  pub sort : t.sort ≡ Ordinary v.kind
  pub bytes : t.bytes ≡ take v.len bs
  pub mode : v.next_mode ≡ Plain

-- where a step gives a token of the token table, it goes on, and the token is that of its text
unfoldable pub Gives : Token → List ℕ → Step → Type 0
Gives v bs (Last t) = is_ordinary t ≡ true → ⊥
Gives v bs (Next t) = is_ordinary t ≡ true → IsTokenOf v bs t

-- a broken token is none of the token table
gives_broken : (v : Token) (bs : List ℕ) (b : Breach) (bytes : List ℕ) (line : ℕ) → Gives v bs (broken b bytes line)
unfolding Gives broken is_ordinary
gives_broken v bs b bytes line e = false≢true e

-- neither is a `define`
gives_definition : (v : Token) (bs bytes : List ℕ) (line : ℕ) → Gives v bs (Next (record { sort = Definition; bytes = bytes; line = line }))
unfolding Gives is_ordinary
gives_definition v bs bytes line e = absurd (false≢true e)

-- a token of the text
gives_own : (v : Token) (bs : List ℕ) (line : ℕ) → v.next_mode ≡ Plain
    → Gives v bs (Next (record { sort = Ordinary v.kind; bytes = take v.len bs; line = line }))
unfolding Gives
gives_own v bs line plain e = record { sort = refl; bytes = refl; mode = plain }

-- what stands open at the end, by the break
gives_open_by : (v : Token) (bs : List ℕ) (b : Breach) (opened line : ℕ) (bytes : List ℕ) (break : Option Break)
    → Gives v bs (elim break [ None ↦ broken b bytes opened | Some k ↦ broken k.breach bytes (line + line_ends bytes) ])
gives_open_by v bs b opened line bytes None = gives_broken v bs b bytes opened
gives_open_by v bs b opened line bytes (Some k) = gives_broken v bs k.breach bytes (line + line_ends bytes)

gives_open : (c : Course) (v : Token) (bs : List ℕ) (b : Breach) (opened line : ℕ) (bytes : List ℕ) → Gives v bs (open_end c b opened line bytes)
unfolding open_end
gives_open c v bs b opened line bytes = gives_open_by v bs b opened line bytes c.break

-- a string that isn't closed
gives_unclosed : (c : Course) (v : Token) (bs : List ℕ) (opened line : ℕ)
    → Gives v bs (cond (nat_lt v.len (length bs)) (broken PerlFound (take v.len bs) (line + line_ends (take v.len bs))) (open_end c StringOpen opened line (take v.len bs)))
gives_unclosed c v bs opened line =
    cond_both (nat_lt v.len (length bs)) _ _ (Gives v bs)
    (λ _. gives_broken v bs PerlFound (take v.len bs) (line + line_ends (take v.len bs)))
    (λ _. gives_open c v bs StringOpen opened line (take v.len bs))

-- a string
gives_string : (c : Course) (opened line : ℕ) (k : Kind) (n : ℕ) (next : Mode) (bs : List ℕ)
    → Gives (record { kind = k; len = n; next_mode = next }) bs (string_step c opened line (record { kind = k; len = n; next_mode = next }) bs)
unfolding string_step
gives_string c opened line k n Plain bs = gives_own (record { kind = k; len = n; next_mode = Plain }) bs line refl
gives_string c opened line k n InStr bs = gives_unclosed c (record { kind = k; len = n; next_mode = InStr }) bs opened line
gives_string c opened line k n InBlock bs = gives_unclosed c (record { kind = k; len = n; next_mode = InBlock }) bs opened line

-- a block comment
gives_comment : (c : Course) (opened line : ℕ) (k : Kind) (n : ℕ) (next : Mode) (bs : List ℕ)
    → Gives (record { kind = k; len = n; next_mode = next }) bs (comment_step c opened line (record { kind = k; len = n; next_mode = next }) bs)
unfolding comment_step
gives_comment c opened line k n Plain bs = gives_own (record { kind = k; len = n; next_mode = Plain }) bs line refl
gives_comment c opened line k n InStr bs = gives_open c (record { kind = k; len = n; next_mode = InStr }) bs CommentOpen opened line (take n bs)
gives_comment c opened line k n InBlock bs = gives_open c (record { kind = k; len = n; next_mode = InBlock }) bs CommentOpen opened line (take n bs)

-- a `define` whose logical line doesn't end, by the break
gives_unended : (c : Course) (v : Token) (line : ℕ) (bs : List ℕ) (break : Option Break)
    → Gives v bs (elim break [
      | None ↦ cond (nat_lt c.most (length bs)) (broken DefineLong [] line) (Next (record { sort = Definition; bytes = bs; line = line }))
      | Some k ↦ cond (nat_lt c.most (length bs + k.len)) (broken DefineLong [] line) (broken DefineCut [] line)
    ])
gives_unended c v line bs None =
    cond_both (nat_lt c.most (length bs)) _ _ (Gives v bs) (λ _. gives_broken v bs DefineLong [] line) (λ _. gives_definition v bs bs line)
gives_unended c v line bs (Some k) =
    cond_both (nat_lt c.most (length bs + k.len)) _ _ (Gives v bs) (λ _. gives_broken v bs DefineLong [] line) (λ _. gives_broken v bs DefineCut [] line)

-- a `define`, by where its logical line ends
gives_define_by : (c : Course) (v : Token) (line : ℕ) (bs : List ℕ) (end : Option ℕ)
    → Gives v bs (elim end [
      | Some n ↦ cond (nat_lt c.most n) (broken DefineLong [] line) (Next (record { sort = Definition; bytes = take n bs; line = line }))
      | None ↦ elim c.break [
        | None ↦ cond (nat_lt c.most (length bs)) (broken DefineLong [] line) (Next (record { sort = Definition; bytes = bs; line = line }))
        | Some k ↦ cond (nat_lt c.most (length bs + k.len)) (broken DefineLong [] line) (broken DefineCut [] line)
      ]
    ])
gives_define_by c v line bs (Some n) =
    cond_both (nat_lt c.most n) _ _ (Gives v bs) (λ _. gives_broken v bs DefineLong [] line) (λ _. gives_definition v bs (take n bs) line)
gives_define_by c v line bs None = gives_unended c v line bs c.break

gives_define : (c : Course) (v : Token) (line : ℕ) (bs : List ℕ) → Gives v bs (define_step c line bs)
unfolding define_step
gives_define c v line bs = gives_define_by c v line bs (logical_len 0 0 bs)

-- a `line`
gives_line : (v : Token) (line : ℕ) (bs : List ℕ) → Gives v bs (line_step line bs)
unfolding Gives line_step is_ordinary
gives_line v line bs e = absurd (false≢true e)

-- a backquote with a name
gives_back : (c : Course) (line : ℕ) (v : Token) (bs : List ℕ) → v.next_mode ≡ Plain → Gives v bs (back_step c line v bs)
unfolding back_step
gives_back c line v bs plain = grind (arith, cond_both, gives_define, gives_line, gives_own)

-- a token by its kind
gives_by : (c : Course) (opened line : ℕ) (k : Kind) (n : ℕ) (next : Mode) (bs : List ℕ) → (opens_mode k ≡ false → next ≡ Plain)
    → Gives (record { kind = k; len = n; next_mode = next }) bs (step_by c opened line (record { kind = k; len = n; next_mode = next }) bs)
unfolding step_by opens_mode
gives_by c opened line Perl n next bs plain = gives_broken (record { kind = Perl; len = n; next_mode = next }) bs PerlFound [] line
gives_by c opened line Str n next bs plain = gives_string c opened line Str n next bs
gives_by c opened line BlockComment n next bs plain = gives_comment c opened line BlockComment n next bs
gives_by c opened line Back n next bs plain = gives_back c line (record { kind = Back; len = n; next_mode = next }) bs (plain refl)
gives_by c opened line k n next bs plain = gives_own (record { kind = k; len = n; next_mode = next }) bs line (plain refl)

-- a token of a text
gives_token : (c : Course) (opened line : ℕ) (m : Mode) (bs : List ℕ) → Gives (token_of m bs) bs (step_by c opened line (token_of m bs) bs)
gives_token c opened line m bs =
    let v = token_of m bs in gives_by c opened line v.kind v.len v.next_mode bs (closed_kind_plain m bs)

-- the first step of a source's text gives its first token, where it gives one of the token table
pub source_step_gives : (c : Course) (m : Mode) (opened line : ℕ) (bs : List ℕ) → Gives (token_of m bs) bs (source_step c m opened line bs)
unfolding source_step
source_step_gives c Plain opened line bs = gives_token c line line Plain bs
source_step_gives c InStr opened line bs = gives_token c opened line InStr bs
source_step_gives c InBlock opened line bs = gives_token c opened line InBlock bs

-- Ordinary text that is passed byte by byte and block by block.

-- a byte that is none of the four is no mark
pub no_mark : (b : ℕ) → b ≢ 96 → b ≢ 34 → b ≢ 47 → b ≢ 60 → is_mark b ≡ false
unfolding is_mark
no_mark b p q r s = rw (ne_eqb b 96 p, ne_eqb b 34 q, ne_eqb b 47 r, ne_eqb b 60 s) refl

-- ordinary text goes on at a byte where it can't stop
pub inert_byte : (bytes : List ℕ) (at : ℕ) → is_mark (slice_index bytes at) ≡ false → stops_plain_text (drop at bytes) ≡ false
unfolding is_mark
inert_byte bytes at h = grind (arith, or_parts, inert_at, no_perl)

-- no text has been passed yet
pub passed_none : (bytes : List ℕ) → IsPassed bytes 0 0
unfolding line_ends
passed_none bytes = record { inside = omega arith; plain = λ j lt. absurd (omega arith); ends = refl }

-- a part further, in which ordinary text can't stop
pub passed_part : (bytes : List ℕ) (at count more lines : ℕ) → IsPassed bytes at count → at + more ≤ length bytes
    → ((j : ℕ) → at ≤ j → j < at + more → is_mark (slice_index bytes j) ≡ false)
    → lines ≡ line_ends (take more (drop at bytes)) → IsPassed bytes (at + more) (count + lines)
passed_part bytes at count more lines before fits inert is =
    let same : at + more - at ≡ more = omega arith in
    record {
      inside = fits;
      plain = λ j lt. ⊎_elim (λ less. before.plain j less) (λ past. inert_byte bytes j (inert j past lt)) (cases_lt j at);
      ends = ap (λ n. n + lines) before.ends ∙ ap (λ n. line_ends (take at bytes) + n) (is ∙ ap (λ n. line_ends (take n (drop at bytes))) (sym same))
          ∙ line_ends-part bytes at more;
    }

-- The bits of a mask.

-- a mask is its first bits and those after them
mask_parts : (k : ℕ) (ms : List Bool) → k ≤ length ms → mask_l ms ≡ mask_l (drop k ms) * 2 ^ k + mask_l (take k ms)
mask_parts zero ms le = omega arith
mask_parts (suc k) [] le = absurd (omega arith)
mask_parts (suc k) (m ∷ ms) le =
    let e = mask_parts k ms (omega arith) in
    let twice : mask_l (drop k ms) * 2 ^ suc k ≡ mask_l (drop k ms) * 2 ^ k * 2 = ap (λ n. mask_l (drop k ms) * n) (pow-suc 2 k) ∙ sym (mul_assoc (mask_l (drop k ms)) (2 ^ k) 2) in
    omega (arith, e, twice)

-- its first bits alone
pub mask_front : (k : ℕ) (ms : List Bool) → k ≤ length ms → mask_l ms % 2 ^ k ≡ mask_l (take k ms)
mask_front k ms le =
    let long : length (take k ms) ≡ k = omega (arith, length-take k ms) in
    ap (λ n. n % 2 ^ k) (mask_parts k ms le) ∙ mod_low (mask_l (drop k ms)) k (mask_l (take k ms)) (subst (λ n. mask_l (take k ms) < 2 ^ n) long (mask_l-lt (take k ms)))

-- The marks of a block.

-- the byte that is looked up for another one
abbrev pub marks : List ℕ
marks = 96 ∷ 0 ∷ 34 ∷ 0 ∷ 0 ∷ 0 ∷ 0 ∷ 0 ∷ 0 ∷ 0 ∷ 0 ∷ 0 ∷ 60 ∷ 0 ∷ 0 ∷ 47 ∷ []

-- each of them is 0 or a mark
known : (n : ℕ) → (eqb (get_or marks n 0) 0 || is_mark (get_or marks n 0)) ≡ true
unfolding is_mark
known n = grind (arith, cases_lt, cases_Bool, false≢true, list_all_at, get_or_past)

-- a byte that is found there is a mark
found_mark : (b : ℕ) → get_or marks (bit_and b 15) 0 ≡ b → is_mark b ≡ true
found_mark b e =
    elim (or_cases (eqb b 0) (is_mark b) (subst (λ m. (eqb m 0 || is_mark m) ≡ true) e (known (bit_and b 15)))) [
      | inl zeroed ↦ absurd (
          let z : b ≡ 0 = eqb-true b 0 zeroed in
          let w : 96 ≡ 0 = subst (λ m. get_or marks (bit_and m 15) 0 ≡ m) z e in
          omega (arith, w))
      | inr is ↦ is
    ]

-- a mark is found there
mark_is_found : (b : ℕ) → is_mark b ≡ true → get_or marks (bit_and b 15) 0 ≡ b
unfolding is_mark
mark_is_found b h = grind (arith, or_cases, eqb-true)

-- two tests of which each tells what the other does
same_tests : (a b : Bool) → (a ≡ true → b ≡ true) → (b ≡ true → a ≡ true) → a ≡ b
same_tests true false f g = sym (f refl)
same_tests false true f g = g refl
same_tests _ _ f g = refl

-- a byte is looked up by its last four bits, and is a mark where it is the one that is found
pub mark_found : (b : ℕ) → eqb (get_or marks (bit_and b 15) 0) b ≡ is_mark b
mark_found b = grind (arith, same_tests, found_mark, eqb-true, eq-eqb, mark_is_found)

-- the last four bits of each byte
abbrev pub low : List ℕ → List ℕ
low block = zip2 bit_and block (replicate 16 15)

-- they are places among the marks
pub low_inside : (block : List ℕ) → length block ≡ 16 → SwzOk w8 16 16 0 (low block)
low_inside block long =
    let small = Each1-all (λ a. bit_and a 15 < 16) (λ a. omega (arith, and_le_r a 15)) block in
    SwzOk-from_below w8 16 1 16 0 (low block) refl (omega (arith, length-zip2 bit_and block (replicate 16 15) long))
    (Each1-zip2 bit_and (λ j. j < 16) block (replicate 16 15) (Each2-splat (λ a b. bit_and a b < 16) block 16 15 small))

-- what is found for a byte of a block
found_at : (block : List ℕ) (i : ℕ) → length block ≡ 16 → i < 16 → get_or (swz_l w8 16 marks 0 (low block)) i 0 ≡ get_or marks (bit_and (get_or block i 0) 15) 0
found_at block i long lt =
    let is : get_or (low block) i 0 ≡ bit_and (get_or block i 0) 15 = get_or-zip2 bit_and block (replicate 16 15) i 0 0 0 (omega arith) lt ∙ ap (bit_and (get_or block i 0)) (get_or-replicate 16 i 15 0 lt) in
    get_or-swz_l_below w8 16 marks 0 (low block) i (omega (arith, length-zip2 bit_and block (replicate 16 15) long)) (omega (arith, is, and_le_r (get_or block i 0) 15)) ∙ ap (λ k. get_or marks k 0) (omega (arith, is))

-- which bytes of a block are the ones that are found for them
marks_found : (block : List ℕ) → length block ≡ 16 → zip2 eqb (swz_l w8 16 marks 0 (low block)) block ≡ map is_mark block
marks_found block long =
    let like = swz_l w8 16 marks 0 (low block) in
    let size : length like ≡ 16 = length-swz_l w8 16 marks 0 (low block) ∙ (length-zip2 bit_and block (replicate 16 15) long ∙ long) in
    let same : length (zip2 eqb like block) ≡ length block = length-zip2 eqb like block (size ∙ sym long) ∙ (size ∙ sym long) in
    ext_get_or false (zip2 eqb like block) (map is_mark block) (same ∙ sym (length-map block is_mark))
    (λ i lt.
    let less : i < 16 = omega (arith, same, long) in
    get_or-zip2 eqb like block i 0 0 false (omega (arith, size)) (omega (arith, long))
    ∙ (ap (λ m. eqb m (get_or block i 0)) (found_at block i long less)
    ∙ (mark_found (get_or block i 0)
    ∙ sym (get_or-map is_mark block i 0 false (omega (arith, long))))))

-- the mask of the marks of a block
pub marks_mask : (block : List ℕ) → length block ≡ 16
    → mask_l (map (top 7) (zip2 (λ a b. cond (eqb a b) 255 0) (swz_l w8 16 marks 0 (low block)) block)) % 18446744073709551616 ≡ mask_l (map is_mark block)
marks_mask block long =
    ap (λ ms. mask_l ms % 2 ^ 64) (tops_compared w8 eqb (swz_l w8 16 marks 0 (low block)) block ∙ marks_found block long)
    ∙ mask_l-mod (map is_mark block) 64 (omega (arith, length-map block is_mark, long))

-- Blocks that are passed.

-- a block without a mark
pub inert_block : (bytes : List ℕ) (at : ℕ) → at + 16 ≤ length bytes → mask_l (map is_mark (chunk at 16 bytes)) ≡ 0
    → (j : ℕ) → at ≤ j → j < at + 16 → is_mark (get_or bytes j 0) ≡ false
inert_block bytes at inside none = none_from_empty_mask is_mark bytes at 16 0 inside none

-- how many LF a block has
pub block_ends : (block : List ℕ) → ones (mask_l (map is_line_end block)) ≡ line_ends block
unfolding line_ends
block_ends block = ones-mask_l is_line_end block

-- how many LF stand in front of a block
pub front_ends : (block : List ℕ) (len : ℕ) → len ≤ length block → ones (mask_l (map is_line_end block) % 2 ^ len) ≡ line_ends (take len block)
front_ends block len le =
    ap ones (mask_front len (map is_line_end block) (omega (arith, length-map block is_line_end)) ∙ ap mask_l (take-map is_line_end len block)) ∙ block_ends (take len block)

-- where the first mark of a block stands, no mark stands before
pub front_len : (bytes : List ℕ) (at len : ℕ) → at + 16 ≤ length bytes → len ≡ cond (eqb (mask_l (map is_mark (chunk at 16 bytes))) 0) 16 (count_trailing_zeros 64 (mask_l (map is_mark (chunk at 16 bytes))))
    → (len ≤ 16) × ((j : ℕ) → at ≤ j → j < at + len → is_mark (get_or bytes j 0) ≡ false)
front_len bytes at len inside is =
    let found : len ≡ prefix_len (λ x. not (is_mark x)) (chunk at 16 bytes) = is ∙ first_set_mask_l is_mark (chunk at 16 bytes) 16 (length-chunk at 16 bytes inside) (omega arith) in
    (run_in_chunk_le is_mark bytes at 16 len 0 inside found, run_in_chunk_fails is_mark bytes at 16 len 0 inside found)

-- the first bit of the marks of a block
pub first_front : (bytes : List ℕ) (at len marks : ℕ) → marks ≡ mask_l (map is_mark (chunk at 16 bytes)) → len ≡ cond (eqb marks 0) 16 (count_trailing_zeros 64 marks)
    → len ≡ cond (eqb (mask_l (map is_mark (chunk at 16 bytes))) 0) 16 (count_trailing_zeros 64 (mask_l (map is_mark (chunk at 16 bytes))))
first_front bytes at len marks is first = first ∙ ap (λ m. cond (eqb m 0) 16 (count_trailing_zeros 64 m)) is

-- how many LF stand in front of a mark of a block
pub front_lines : (bytes : List ℕ) (at len ends : ℕ) → at + 16 ≤ length bytes → len ≤ 16 → ends ≡ mask_l (map is_line_end (chunk at 16 bytes))
    → ones (ends % (1 * 2 ^ len % 18446744073709551616)) ≡ line_ends (take len (drop at bytes))
front_lines bytes at len ends inside few is =
    let block = chunk at 16 bytes in
    let long = length-chunk at 16 bytes inside in
    ap (λ n. ones (ends % n)) (one_shl len 64 (omega arith)) ∙ ap (λ n. ones (n % 2 ^ len)) is ∙ front_ends block len (omega arith)
    ∙ ap line_ends (take-take len 16 (drop at bytes) few)

-- a block further, without a mark
pub passed_block : (bytes : List ℕ) (at count marks ends : ℕ) → IsPassed bytes at count → at + 16 ≤ length bytes
    → marks ≡ mask_l (map is_mark (chunk at 16 bytes)) → marks ≡ 0 → ends ≡ mask_l (map is_line_end (chunk at 16 bytes)) → IsPassed bytes (at + 16) (count + ones ends)
passed_block bytes at count marks ends before inside is none told =
    passed_part bytes at count 16 (ones ends) before inside (inert_block bytes at inside (sym is ∙ none)) (ap ones told ∙ block_ends (chunk at 16 bytes))

-- no more LF are counted than there are bytes
pub passed_fits : (bytes : List ℕ) (len count : ℕ) → IsPassed bytes len count → count ≤ length bytes
passed_fits bytes len count passed = omega (arith, passed.ends, passed.inside, line_ends-most bytes len)

-- Bytes of which each is a blank or a token by itself: their tokens.

-- a kind that is neither a name nor begins with a backquote
unfoldable pub is_still : Kind → Bool
is_still Name = false
is_still Back = false
is_still BareBackquote = false
is_still _ = true

-- a token of one byte that is neither a name nor a usage
pub record IsInertToken (t : Token) : Type 0 where
  pub len : t.len ≡ 1
  pub next : t.next_mode ≡ Plain
  pub still : is_still t.kind ≡ true

pub no_first : (p q : Bool) → (not p && q) ≡ true → (p ≡ false) × (q ≡ true)
no_first true q h = absurd (false≢true h)
no_first false q h = (refl, h)

-- a byte that isn't a blank is a token by itself
pub inert_first : (b : ℕ) (bs : List ℕ) → is_inert b ≡ true → is_blank b ≡ false → IsInertToken (token_of Plain (b ∷ bs))
unfolding token_of plain_token whole is_inert is_still begins_perl begins_line_comment begins_block_comment
inert_first b bs inert dark = grind (arith, no_first, not-true, cond_both, both_ways, both_first)
