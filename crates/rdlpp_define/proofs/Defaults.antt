-- The default texts of formals: how they are read, and that they are clean.
use Rattle.std.proofs.Common.{◌≡◌, ℕ, zero, suc, ◌+◌, ◌-◌, ◌<◌, ◌≤◌, Bool, true, false, cond, not, ◌&&◌, List, [], ◌∷◌, ◌++◌, length, take, drop, get_or, eqb, Option, Some, None, is_none, refl, ap, sym, ◌∙◌, subst, ⊎_elim, arith, option_map, inl, inr, Ok, Err, ne_eqb, get_or-drop, length-drop}
use Rattle.std.specs.List.{AllByRecursion, list_all, prefix_len, concat}
use Rattle.std.proofs.lemmas.Bool.{cases_Bool, cond-true, cond-false, and_parts, and_from, and_right, not-true, or_cases, false≢true, or_left}
use Rattle.std.proofs.lemmas.List.{drop-take}
use Rattle.rdlpp_scan.specs.declared.token.Kind.{Kind}
use Rattle.rdlpp_scan.specs.declared.token.Kind.TheVariants.{Blank, LineEnd, LineComment, Comma, Closer}
use Rattle.rdlpp_scan.specs.declared.token.LexFault.{LexFault}
use Rattle.rdlpp_scan.specs.declared.token.Mode.{Mode}
use Rattle.rdlpp_scan.specs.declared.token.Mode.TheVariants.{Plain, InStr, InBlock}
use Rattle.rdlpp_scan.specs.declared.token.Token.{Token}
use Rattle.rdlpp_scan.specs.Bytes.{is_blank, is_line_end}
use Rattle.rdlpp_scan.specs.CleanTexts.{IsCleanText, IsCleanToken, AreSpaces}
use Rattle.rdlpp_scan.specs.Comments.{is_line_comment, other_texts, other_tokens, token_texts, without_line_comments}
use Rattle.rdlpp_scan.specs.LexFaults.{is_perl, lex_fault_from, fault_of_tokens, open_fault}
use Rattle.rdlpp_scan.specs.Pieces.{tokens_len}
use Rattle.rdlpp_scan.specs.Tokens.{whole, token_of, tokens_from}
use Rattle.rdlpp_scan.proofs.CleanTexts.{IsCleanTo, blank-step, clean_tokens, line-step, clean_nothing, clean_without, clean_after_spaces, clean_to, clean_before_token, left_of}
use Rattle.rdlpp_scan.proofs.RangeLaws.{tokens_from-first, tokens_from-front}
use Rattle.rdlpp_scan.proofs.TokenLens.{token_of-part, tokens-some}
use Rattle.rdlpp_scan.specs.KeptText.{Sound, onto, cleared, ends_default, left_in, level_after, Cleared, Unsound, start_level, text_after, trimmed_left, trimmed_len, trims, told, read_by, kept_bytes}
use Rattle.rdlpp_scan.proofs.Measures.{left_len, ok_len}
use Rattle.rdlpp_define.specs.Plain.{fills, is_clean, is_default}
use Rattle.rdlpp_scan.specs.TokenKinds.{opens_mode}
use Rattle.rdlpp_define.specs.Macros.{Formal, Macro, default_size}
use Rattle.rdlpp_define.specs.Formals.{default_after, IsDefault, default_left}
use Rattle.rdlpp_define.specs.Define.{DefaultText, Drawn, DraftFault, default_in, default_of_tokens, is_space, lexical, onto_default, onto_trimmed, trimmed, trimmed_default, trimmed_of, with_body, without_end, text_without_line_comments}

-- Default texts as they are read back from a table's bytes: the levels of their tokens, without `//` comments and without spaces
-- at their ends.

-- a text that is read whole
none_is : (o : Option LexFault) → is_none o ≡ true → o ≡ None
none_is None h = refl
none_is (Some f) h = absurd (false≢true h)

kept_each : (ts : List Token) → list_all (λ t. not (is_line_comment t.kind)) ts ≡ true → AllByRecursion (λ t. is_line_comment t.kind ≡ false) ts
kept_each [] h = tt
kept_each (t ∷ ts) h = let p = and_parts (not (is_line_comment t.kind)) _ h in (not-true _ p.0, kept_each ts p.1)

each_kept : (ts : List Token) → AllByRecursion (λ t. is_line_comment t.kind ≡ false) ts → list_all (λ t. not (is_line_comment t.kind)) ts ≡ true
each_kept [] all = refl
each_kept (t ∷ ts) all = and_from _ _ (ap not all.0) (each_kept ts all.1)

pub clean_text : (text : List ℕ) → is_clean text ≡ true → IsCleanText text
unfolding is_clean
clean_text text h = let p = and_parts (is_none (lex_fault_from Plain text)) _ h in record { faultless = none_is _ p.0; uncommented = kept_each _ p.1 }

text_clean : (text : List ℕ) → IsCleanText text → is_clean text ≡ true
unfolding is_clean
text_clean text c = and_from _ _ (ap is_none c.faultless) (each_kept _ c.uncommented)

default_from : (text : List ℕ) → IsCleanText text → fills 0 (tokens_from Plain 0 text) text ≡ true → is_default text ≡ true
unfolding is_default
default_from text c h = and_from _ _ (text_clean text c) h

-- a token that neither ends a default text nor changes its level
inert_fill : (l : ℕ) (t : Token) (ts : List Token) (text : List ℕ) → ends_default t.kind (get_or text 0 0) ≡ false → level_after t.kind l ≡ l → fills l (t ∷ ts) text ≡ fills l ts (drop t.len text)
unfolding fills
inert_fill l t ts text e f =
    ap (λ b. not b && fills (level_after t.kind l) ts (drop t.len text)) (and_right (eqb l 0) _ e) ∙ ap (λ n. fills n ts (drop t.len text)) f

blank_fill : (l n : ℕ) (ts : List Token) (text : List ℕ) → fills l (whole Blank n ∷ ts) text ≡ fills l ts (drop n text)
unfolding whole ends_default level_after
blank_fill l n ts text = inert_fill l (whole Blank n) ts text refl refl

line_fill : (l : ℕ) (ts : List Token) (text : List ℕ) → fills l (whole LineEnd 1 ∷ ts) text ≡ fills l ts (drop 1 text)
unfolding whole ends_default level_after
line_fill l ts text = inert_fill l (whole LineEnd 1) ts text refl refl

-- whether a text fills a level up
abbrev pub fills_text : ℕ → List ℕ → Bool
fills_text l text = fills l (tokens_from Plain 0 text) text

blank_run : (l b : ℕ) (bs : List ℕ) → is_blank b ≡ true → fills_text l (b ∷ bs) ≡ fills_text l (drop (prefix_len is_blank (b ∷ bs)) (b ∷ bs))
blank_run l b bs h = ap (λ ts. fills l ts (b ∷ bs)) (blank-step b bs h) ∙ blank_fill l (prefix_len is_blank (b ∷ bs)) _ (b ∷ bs)

run_before : (l : ℕ) (bs : List ℕ) → fills_text l bs ≡ fills_text l (drop (prefix_len is_blank bs) bs)
run_before l [] = refl
run_before l (b ∷ bs) =
    ⊎_elim (blank_run l b bs) (λ h. ap (λ t. fills_text l (drop (cond t (1 + prefix_len is_blank bs) 0) (b ∷ bs))) (sym h)) (cases_Bool (is_blank b))

-- spaces in front don't change the level
module _ (class : ℕ → Bool) (are : AreSpaces class) where
  one_space : (l b : ℕ) (bs : List ℕ) → class b ≡ true → fills_text l (b ∷ bs) ≡ fills_text l bs
  one_space l b bs is =
      let n = prefix_len is_blank bs in
      let one : 1 + n ≡ suc n = omega arith in
      ⊎_elim
      (λ h. blank_run l b bs h ∙ ap (λ i. fills_text l (drop i (b ∷ bs))) (ap (λ t. cond t (1 + n) 0) h ∙ one) ∙ sym (run_before l bs))
      (λ h. ap (λ ts. fills l ts (b ∷ bs)) (line-step b bs h) ∙ line_fill l _ (b ∷ bs)) (or_cases (is_blank b) (is_line_end b) (are.alone b is))

  pub after_spaces_fill : (l : ℕ) (text : List ℕ) → fills_text l (drop (prefix_len class text) text) ≡ fills_text l text
  after_spaces_fill l [] = refl
  after_spaces_fill l (b ∷ bs) =
      let n = prefix_len class bs in
      let one : 1 + n ≡ suc n = omega arith in
      ⊎_elim
      (λ h. ap (λ i. fills_text l (drop i (b ∷ bs))) (ap (λ t. cond t (1 + n) 0) h ∙ one) ∙ after_spaces_fill l bs ∙ sym (one_space l b bs h))
      (λ h. ap (λ t. fills_text l (drop (cond t (1 + n) 0) (b ∷ bs))) h) (cases_Bool (class b))

  all_spaces : (l : ℕ) (text : List ℕ) → ((k : ℕ) → k < length text → class (get_or text k 0) ≡ true) → fills_text l text ≡ eqb l 0
  unfolding tokens_from fills
  all_spaces l [] all = refl
  all_spaces l (b ∷ bs) all = one_space l b bs (all 0 (omega arith)) ∙ all_spaces l bs (λ k lt. all (suc k) (omega arith))

  -- tokens after which spaces alone stand
  front_fill : (ts us : List Token) (l : ℕ) (text : List ℕ) → tokens_from Plain 0 text ≡ ts ++ us → AllByRecursion IsCleanToken ts
      → ((k : ℕ) → tokens_len ts ≤ k → k < length text → class (get_or text k 0) ≡ true) → fills l (ts ++ us) text ≡ true → fills l ts text ≡ true
  unfolding fills tokens_len
  front_fill [] us l text e all spaces h = sym (all_spaces l text (λ k lt. spaces k (omega arith) lt)) ∙ (ap (λ ts. fills l ts text) e ∙ h)
  front_fill (t ∷ ts) us l text e all spaces h =
      let p = tokens_from-first Plain text t (ts ++ us) e in
      let q = and_parts (not (eqb l 0 && ends_default t.kind (get_or text 0 0))) (fills (level_after t.kind l) (ts ++ us) (drop t.len text)) h in
      let later : tokens_from Plain 0 (drop t.len text) ≡ ts ++ us = ap (λ (m : Mode). tokens_from m 0 (drop t.len text)) (sym all.0.next) ∙ p.1.1 in
      let following : (k : ℕ) → tokens_len ts ≤ k → k < length (drop t.len text) → class (get_or (drop t.len text) k 0) ≡ true = λ k le lt. ap class (get_or-drop t.len text k 0) ∙ spaces (t.len + k) (omega arith) (omega (arith, length-drop t.len text)) in
      and_from _ _ q.0 (front_fill ts us (level_after t.kind l) (drop t.len text) later all.1 following q.1)

-- the first byte of a front
first_of : (n : ℕ) (text : List ℕ) → 0 < n → get_or (take n text) 0 0 ≡ get_or text 0 0
first_of zero text h = absurd (omega arith)
first_of (suc n) [] h = refl
first_of (suc n) (b ∷ bs) h = refl

-- tokens in the front of a text
taken_fill : (ts : List Token) (l n : ℕ) (text : List ℕ) → AllByRecursion (λ t. 0 < t.len) ts → tokens_len ts ≤ n → fills l ts (take n text) ≡ fills l ts text
unfolding fills tokens_len
taken_fill [] l n text some le = refl
taken_fill (t ∷ ts) l n text some le =
    let split : t.len + (n - t.len) ≡ n = omega arith in
    grind (arith, drop-take, first_of, (taken_fill ts (level_after t.kind l) (n - t.len) (drop t.len text) some.1 (omega arith)))

-- the spaces at the end go
before_spaces_fill : (class : ℕ → Bool) → AreSpaces class → (l : ℕ) (text : List ℕ) (n : ℕ) → IsCleanTo class text n → fills_text l text ≡ true → fills_text l (take n text) ≡ true
before_spaces_fill class are l text n c h =
    let own : tokens_from Plain 0 (take n text) ≡ c.front = ap (λ i. tokens_from Plain 0 (take i text)) c.len ∙ tokens_from-front c.front c.back Plain text c.is in
    let C : List Token → Type 0 = λ ts. AllByRecursion IsCleanToken ts in
    let S : List Token → Type 0 = λ ts. AllByRecursion (λ t. 0 < t.len) ts in
    let clean : C c.front = subst C own (clean_tokens (take n text) c.clean) in
    let some : S c.front = subst S own (tokens-some Plain (take n text)) in
    ap (λ ts. fills l ts (take n text)) own
    ∙ (taken_fill c.front l n text some (omega (arith, c.len))
    ∙ front_fill class are c.front c.back l text c.is clean (λ k le lt. c.spaces k (omega (arith, c.len)) lt) (ap (λ ts. fills l ts text) (sym c.is) ∙ h))

-- the same by the bytes of each token
unfoldable fills_by : ℕ → List Token → List (List ℕ) → Bool
fills_by l [] texts = eqb l 0
fills_by l (t ∷ ts) [] = eqb l 0
fills_by l (t ∷ ts) (x ∷ texts) = not (eqb l 0 && ends_default t.kind (get_or x 0 0)) && fills_by (level_after t.kind l) ts texts

by_texts : (ts : List Token) (l : ℕ) (text : List ℕ) → AllByRecursion (λ t. 0 < t.len) ts → fills l ts text ≡ fills_by l ts (token_texts ts text)
unfolding fills fills_by token_texts
by_texts [] l text some = refl
by_texts (t ∷ ts) l text some = grind (arith, first_of, (by_texts ts (level_after t.kind l) (drop t.len text) some.1))

-- a `//` comment does neither
comment_inert : (k : Kind) (l b : ℕ) → is_line_comment k ≡ true → (ends_default k b ≡ false) × (level_after k l ≡ l)
unfolding is_line_comment ends_default level_after
comment_inert LineComment l b h = (refl, refl)
comment_inert _ l b h = absurd (false≢true h)

others_fill : (ts : List Token) (l : ℕ) (text : List ℕ) → fills_by l (other_tokens ts) (other_texts ts text) ≡ fills_by l ts (token_texts ts text)
unfolding other_tokens other_texts token_texts fills_by
others_fill [] l text = refl
others_fill (t ∷ ts) l text =
    grind (arith, comment_inert, and_right, (others_fill ts l (drop t.len text)), (others_fill ts (level_after t.kind l) (drop t.len text)))

-- tokens fill a level up as what is left of them without `//` comments does
left_fill : (ts : List Token) (l : ℕ) (text left : List ℕ) → AllByRecursion (λ t. 0 < t.len) ts → tokens_from Plain 0 left ≡ other_tokens ts
    → token_texts (other_tokens ts) left ≡ other_texts ts text → fills_text l left ≡ fills l ts text
left_fill ts l text left some tokens texts = grind (arith, by_texts, tokens-some, others_fill)

-- The body and the default texts of a definition are clean.

-- a text without the bytes of a class at its end, by where those begin
without_end_is : (class : ℕ → Bool) (bs : List ℕ) (n : ℕ) → n ≤ length bs → ((k : ℕ) → n ≤ k → k < length bs → class (get_or bs k 0) ≡ true)
    → ((k : ℕ) → n ≡ suc k → class (get_or bs k 0) ≡ false) → without_end class bs ≡ take n bs
unfolding without_end onto_trimmed
without_end_is class [] zero inside spaces last = refl
without_end_is class [] (suc n) inside spaces last = absurd (omega arith)
without_end_is class (b ∷ bs) zero inside spaces last =
    ap (onto_trimmed class b) (without_end_is class bs 0 (omega arith) (λ k _ lt. spaces (suc k) (omega arith) (omega arith)) (λ k e. absurd (omega arith)))
    ∙ cond-true _ _ _ (spaces 0 (omega arith) (omega arith))
without_end_is class (b ∷ bs) (suc zero) inside spaces last =
    ap (onto_trimmed class b) (without_end_is class bs 0 (omega arith) (λ k _ lt. spaces (suc k) (omega arith) (omega arith)) (λ k e. absurd (omega arith)))
    ∙ cond-false _ _ _ (last 0 refl)
without_end_is class (b ∷ []) (suc (suc n)) inside spaces last = absurd (omega arith)
without_end_is class (b ∷ c ∷ bs) (suc (suc n)) inside spaces last =
    ap (onto_trimmed class b) (without_end_is class (c ∷ bs) (suc n) (omega arith) (λ k le lt. spaces (suc k) (omega arith) (omega arith)) (λ k e. last (suc k) (ap suc e)))

-- a clean text without spaces at both ends is clean, and at the same level at its end
record IsTrimmed (text trimmed : List ℕ) : Type 0 where
  clean : IsCleanText trimmed
  filled : fills 0 (tokens_from Plain 0 text) text ≡ true → fills 0 (tokens_from Plain 0 trimmed) trimmed ≡ true

trimmed_clean : (class : ℕ → Bool) → AreSpaces class → (text : List ℕ) → IsCleanText text → IsTrimmed text (trimmed_of class text)
unfolding trimmed_of
trimmed_clean class are text clean =
    let front = drop (prefix_len class text) text in
    let end = clean_to class are front (clean_after_spaces class are text clean) in
    let trimmed : IsTrimmed text (take end.0 front) = record {
      clean = end.1.clean;
      filled = λ h. before_spaces_fill class are 0 front end.0 end.1 (after_spaces_fill class are 0 text ∙ h);
    } in
    grind (arith, without_end_is)

blanks_are : AreSpaces is_blank
blanks_are = record { blanks = λ b h. h; alone = λ b h. or_left (is_blank b) (is_line_end b) h }

spaces_are : AreSpaces is_space
unfolding is_space
spaces_are = record { blanks = λ b h. or_left (is_blank b) (is_line_end b) h; alone = λ b h. h }

-- what is kept of a token, by its kind
kept_by : (k : Kind) (xs : List ℕ) (rest : List (List ℕ)) → (elim k [ LineComment ↦ concat rest | _ ↦ xs ++ concat rest ]) ≡ concat (cond (is_line_comment k) rest (xs ∷ rest))
unfolding is_line_comment
kept_by LineComment xs rest = refl
kept_by _ xs rest = refl

-- a text without its `//` comments
text_without_line_comments_is : (ts : List Token) (text : List ℕ) → text_without_line_comments ts text ≡ concat (other_texts ts text)
unfolding text_without_line_comments other_texts
text_without_line_comments_is [] text = refl
text_without_line_comments_is (t ∷ ts) text =
    ap (λ (x : List ℕ). elim t.kind [ LineComment ↦ x | _ ↦ take t.len text ++ x ]) (text_without_line_comments_is ts (drop t.len text)) ∙ kept_by t.kind (take t.len text) (other_texts ts (drop t.len text))

drawn_is : (m n : Macro) → Drawn m ≡ Drawn n → m ≡ n
drawn_is m n e = cc

-- the body of a definition is clean
body_by : (name : List ℕ) (formals : Option (List Formal)) (text : List ℕ) (m : Macro) (fault : Option LexFault) → lex_fault_from Plain text ≡ fault
    → (elim fault [ Some f ↦ DraftFault (lexical f) [] | None ↦ Drawn (record { name = name; formals = formals; body = trimmed (text_without_line_comments (tokens_from Plain 0 text) text) }) ]) ≡ Drawn m → IsCleanText m.body
unfolding trimmed without_line_comments
body_by name formals text m (Some f) is e = absurd (cc)
body_by name formals text m None is e =
    let left = text_without_line_comments (tokens_from Plain 0 text) text in
    let body : trimmed_of is_blank left ≡ m.body = ap (λ (x : Macro). x.body) (drawn_is (record { name = name; formals = formals; body = trimmed_of is_blank left }) m e) in
    let clean : IsCleanText left = subst IsCleanText (sym (text_without_line_comments_is (tokens_from Plain 0 text) text)) (clean_without text is) in
    subst IsCleanText body (trimmed_clean is_blank blanks_are left clean).clean

pub drawn_clean : (name : List ℕ) (formals : Option (List Formal)) (text : List ℕ) (m : Macro) → with_body name formals text ≡ Drawn m → IsCleanText m.body
unfolding with_body
drawn_clean name formals text m e = body_by name formals text m (lex_fault_from Plain text) refl e

-- the tokens of a default text from a level on, and the one that ends it
record IsFound (level : ℕ) (ts : List Token) (text : List ℕ) (d : DefaultText) : Type 0 where
  before : List Token
  ends : Token
  after : List Token
  is : ts ≡ before ++ ends ∷ after
  text_is : d.text ≡ concat (other_texts before text)
  filled : fills level before text ≡ true
  sound : AllByRecursion (λ t. is_perl t.kind ≡ false) before
  shut : opens_mode ends.kind ≡ false
  whole : is_perl ends.kind ≡ false

some_is : (d e : DefaultText) → Some d ≡ Some e → d ≡ e
some_is d e h = cc

-- a kind that ends a default text is neither a string nor a comment
ends_shut : (k : Kind) (b : ℕ) → ends_default k b ≡ true → opens_mode k ≡ false
unfolding ends_default opens_mode
ends_shut Comma b h = refl
ends_shut Closer b h = refl
ends_shut _ b h = absurd (false≢true h)

onto_kind : (k : Kind) (xs : List ℕ) (e d : DefaultText) (rest : List (List ℕ)) → (elim k [ LineComment ↦ Some e | _ ↦ Some (let x : DefaultText = record { text = xs ++ e.text; following = e.following } in x) ]) ≡ Some d → e.text ≡ concat rest → d.text ≡ concat (cond (is_line_comment k) rest (xs ∷ rest))
unfolding is_line_comment
onto_kind LineComment xs e d rest h same = sym (ap (λ (x : DefaultText). x.text) (some_is e d h)) ∙ same
onto_kind _ xs e d rest h same = sym (ap (λ (x : DefaultText). x.text) (some_is (record { text = xs ++ e.text; following = e.following }) d h)) ∙ ap (λ z. xs ++ z) same

found_first : (level : ℕ) (t : Token) (ts : List Token) (text : List ℕ) (d : DefaultText) → is_perl t.kind ≡ false → eqb level 0 ≡ true → opens_mode t.kind ≡ false → Some (let x : DefaultText = record { text = []; following = text } in x) ≡ Some d → IsFound level (t ∷ ts) text d
unfolding other_texts fills
found_first level t ts text d whole none shut e =
    record { before = []; ends = t; after = ts; is = refl; text_is = sym (ap (λ (x : DefaultText). x.text) (some_is (record { text = []; following = text }) d e)); filled = none; sound = tt; shut = shut; whole = whole }

found_next : (level : ℕ) (t : Token) (ts : List Token) (text : List ℕ) (e d : DefaultText) → is_perl t.kind ≡ false → (eqb level 0 && ends_default t.kind (get_or text 0 0)) ≡ false → onto_default t text (Some e) ≡ Some d
    → IsFound (level_after t.kind level) ts (drop t.len text) e → IsFound level (t ∷ ts) text d
unfolding onto_default other_texts fills
found_next level t ts text e d whole on h f =
    record {
      before = t ∷ f.before;
      ends = f.ends;
      after = f.after;
      is = ap (λ us. t ∷ us) f.is;
      text_is = onto_kind t.kind (take t.len text) e d (other_texts f.before (drop t.len text)) h f.text_is;
      filled = and_from _ _ (ap not on) f.filled;
      sound = (whole, f.sound);
      shut = f.shut;
      whole = f.whole;
    }

found_in : (level : ℕ) (ts : List Token) (text : List ℕ) (d : DefaultText) → default_of_tokens level ts text ≡ Some d → IsFound level ts text d
unfolding default_of_tokens onto_default
found_in level [] text d e = absurd (cc)
found_in level (t ∷ ts) text d e =
    let here : Option DefaultText = Some (record { text = []; following = text }) in
    let later : Option DefaultText = default_of_tokens (level_after t.kind level) ts (drop t.len text) in
    let points = eqb level 0 && ends_default t.kind (get_or text 0 0) in
    elim (cases_Bool (is_perl t.kind)) [
      | inl perl ↦ let none : None ≡ Some d = sym (cond-true _ _ _ perl) ∙ e in absurd (cc)
      | inr whole ↦ let rest : cond points here (onto_default t text later) ≡ Some d = sym (cond-false _ _ _ whole) ∙ e in
          elim (cases_Bool points) [
            | inl point ↦
                let both = and_parts (eqb level 0) (ends_default t.kind (get_or text 0 0)) point in
                found_first level t ts text d whole both.0 (ends_shut t.kind (get_or text 0 0) both.1) (sym (cond-true _ _ _ point) ∙ rest)
            | inr goes_on ↦
                let onto : onto_default t text later ≡ Some d = sym (cond-false _ _ _ goes_on) ∙ rest in
                (elim later as (λ o. later ≡ o → onto_default t text o ≡ Some d → IsFound level (t ∷ ts) text d) [
                  | None ↦ λ _ h. absurd (cc)
                  | Some x ↦ λ q h. found_next level t ts text x d whole goes_on h (found_in (level_after t.kind level) ts (drop t.len text) x q)
                ]) refl onto
          ]
    ]

front_some : (ts us : List Token) → AllByRecursion (λ t. 0 < t.len) (ts ++ us) → AllByRecursion (λ t. 0 < t.len) ts
front_some [] us all = tt
front_some (t ∷ ts) us all = (all.0, front_some ts us all.1)

-- a default text before it is trimmed is clean, and at level 0 at its end
default_clean : (text : List ℕ) (d : DefaultText) → default_of_tokens 0 (tokens_from Plain 0 text) text ≡ Some d → IsCleanText d.text × (fills 0 (tokens_from Plain 0 d.text) d.text ≡ true)
default_clean text d e =
    let f = found_in 0 (tokens_from Plain 0 text) text d e in
    let left = concat (other_texts f.before text) in
    let l = left_of f.before (f.ends ∷ f.after) text f.is in
    let S : List Token → Type 0 = λ ts. AllByRecursion (λ t. 0 < t.len) ts in
    let some : S f.before = front_some f.before (f.ends ∷ f.after) (subst S f.is (tokens-some Plain text)) in
    let filled : fills 0 (tokens_from Plain 0 left) left ≡ true = left_fill f.before 0 text left some l.tokens l.texts ∙ f.filled in
    (subst IsCleanText (sym f.text_is) (clean_before_token f.before f.after f.ends text f.is f.sound f.shut f.whole), subst (λ (x : List ℕ). fills 0 (tokens_from Plain 0 x) x ≡ true) (sym f.text_is) filled)

trimmed_by : (text : List ℕ) (o : Option DefaultText) (d : DefaultText) → default_of_tokens 0 (tokens_from Plain 0 text) text ≡ o → option_map trimmed_default o ≡ Some d → IsCleanText d.text × (is_default d.text ≡ true)
unfolding trimmed_default
trimmed_by text None d is e = absurd (cc)
trimmed_by text (Some raw) d is e =
    let same : trimmed_of is_space raw.text ≡ d.text = ap (λ (x : DefaultText). x.text) (some_is (record { text = trimmed_of is_space raw.text; following = raw.following }) d e) in
    let c = default_clean text raw is in
    let t = trimmed_clean is_space spaces_are raw.text c.0 in
    (subst IsCleanText same t.clean, subst (λ (x : List ℕ). is_default x ≡ true) same (default_from (trimmed_of is_space raw.text) t.clean (t.filled c.1)))

-- a default text that is read is read back
default_after_plain : (text : List ℕ) (d : DefaultText) → default_after text ≡ Some d → is_default d.text ≡ true
unfolding default_after
default_after_plain text d e = (trimmed_by text (default_of_tokens 0 (tokens_from Plain 0 text) text) d refl e).1

-- the default text of a formal is clean
pub default_in_clean : (following : List ℕ) (d : DefaultText) → default_in following ≡ Some d → IsCleanText d.text
unfolding default_in
default_in_clean following d e =
    let text = drop 1 following in
    let nothing : DefaultText = record { text = []; following = following } in
    elim (cases_Bool (eqb (get_or following 0 0) 61)) [
      | inl given ↦ (trimmed_by text (default_of_tokens 0 (tokens_from Plain 0 text) text) d refl (sym (cond-true _ _ _ given) ∙ e)).0
      | inr none ↦ subst IsCleanText (ap (λ (x : DefaultText). x.text) (some_is nothing d (sym (cond-false _ _ _ none) ∙ e))) clean_nothing
    ]

-- A default text that was read: by its tokens, and as it is read back from a table's bytes.

-- the default text of what is left
abbrev found : Cleared → Option DefaultText
found (Sound rest []) = None
found (Sound rest (b ∷ bs)) = Some (record { text = rest; following = b ∷ bs })
found (Unsound fault) = None

front_by : (k : Kind) (xs rest following : List ℕ) → (elim k [ LineComment ↦ Some (record { text = rest; following = following }) | _ ↦ Some (record { text = xs ++ rest; following = following }) ]) ≡ Some (let d : DefaultText = record { text = (elim k [ LineComment ↦ [] | _ ↦ xs ]) ++ rest; following = following } in d)
front_by LineComment xs rest following = refl
front_by k xs rest following = refl

onto_found : (t : Token) (text : List ℕ) (c : Cleared) → onto_default t text (found c) ≡ found (onto (kept_bytes t text) c)
unfolding onto_default onto
onto_found t text (Sound rest []) = refl
onto_found t text (Sound rest (b ∷ bs)) = front_by t.kind (take t.len text) rest (b ∷ bs)
onto_found t text (Unsound fault) = refl

none_found : (m : Mode) → None ≡ found (told (open_fault m) [])
unfolding open_fault
none_found Plain = refl
none_found InStr = refl
none_found InBlock = refl

no_tokens : (m : Mode) (n : ℕ) → tokens_from m n [] ≡ []
unfolding tokens_from
no_tokens m zero = refl
no_tokens m (suc n) = refl

first_step : (m : Mode) (b : ℕ) (bs : List ℕ) → tokens_from m 0 (b ∷ bs) ≡ token_of m (b ∷ bs) ∷ tokens_from (token_of m (b ∷ bs)).next_mode ((token_of m (b ∷ bs)).len - 1) bs
unfolding tokens_from
first_step m b bs = refl

later_step : (m : Mode) (n b : ℕ) (bs : List ℕ) → tokens_from m (suc n) (b ∷ bs) ≡ tokens_from m n bs
unfolding tokens_from
later_step m n b bs = refl

no_default : (level : ℕ) (text : List ℕ) → default_of_tokens level [] text ≡ None
unfolding default_of_tokens
no_default level text = refl

one_default : (level : ℕ) (t : Token) (ts : List Token) (text : List ℕ) → default_of_tokens level (t ∷ ts) text ≡ cond (is_perl t.kind) None (cond (eqb level 0 && ends_default t.kind (get_or text 0 0)) (Some (record { text = []; following = text })) (onto_default t text (default_of_tokens (level_after t.kind level) ts (drop t.len text))))
unfolding default_of_tokens
one_default level t ts text = refl

found_cond : (p : Bool) (x y : Cleared) → found (cond p x y) ≡ cond p (found x) (found y)
found_cond true x y = refl
found_cond false x y = refl

-- a default text by its tokens is what is left of the text
found_by : (text : List ℕ) (m : Mode) (n level : ℕ) → default_of_tokens level (tokens_from m n text) (drop n text) ≡ found (read_by (Some level) m (tokens_from m n text) (drop n text))
found_by [] m n level = grind (arith, no_tokens, no_default, none_found)
found_by (b ∷ bs) m (suc n) level = grind (arith, later_step, (found_by bs m n level))
found_by (b ∷ bs) m zero level =
    let t : Token = token_of m (b ∷ bs) in
    let ts : List Token = tokens_from t.next_mode (t.len - 1) bs in
    let len : t.len ≡ suc (t.len - 1) = omega (arith, (token_of-part m (b ∷ bs) (omega arith)).not_empty) in
    let at : drop t.len (b ∷ bs) ≡ drop (t.len - 1) bs = ap (λ (i : ℕ). drop i (b ∷ bs)) len in
    let next : ℕ = level_after t.kind level in
    let ends : Bool = eqb level 0 && ends_default t.kind b in
    let rest : onto_default t (b ∷ bs) (default_of_tokens next ts (drop t.len (b ∷ bs))) ≡ found (onto (kept_bytes t (b ∷ bs)) (read_by (Some next) t.next_mode ts (drop t.len (b ∷ bs)))) =
    ap (λ (x : List ℕ). onto_default t (b ∷ bs) (default_of_tokens next ts x)) at
    ∙ (ap (onto_default t (b ∷ bs)) (found_by bs t.next_mode (t.len - 1) next)
    ∙ (onto_found t (b ∷ bs) _
    ∙ ap (λ (x : List ℕ). found (onto (kept_bytes t (b ∷ bs)) (read_by (Some next) t.next_mode ts x))) (sym at))) in
    grind (arith, first_step, one_default, found_cond)

default_is : (text : List ℕ) → default_after text ≡ option_map trimmed_default (found (cleared (Some 0) text))
unfolding default_after cleared left_in
default_is text = ap (option_map trimmed_default) (found_by text Plain 0 0)

-- a default text that was measured
fault_found : (c : Cleared) (fault : LexFault) → trimmed_len (trims true) c ≡ Err fault → option_map trimmed_default (found c) ≡ None
unfolding trimmed_len
fault_found (Sound rest last) fault e = absurd (cc)
fault_found (Unsound other) fault e = refl

pub default_fault : (text : List ℕ) (fault : LexFault) → trimmed_len (trims true) (cleared (start_level true) text) ≡ Err fault → default_after text ≡ None
unfolding start_level
default_fault text fault e = default_is text ∙ fault_found (cleared (Some 0) text) fault e

endless_found : (c : Cleared) → text_after c ≡ [] → option_map trimmed_default (found c) ≡ None
unfolding text_after
endless_found (Sound rest []) e = refl
endless_found (Sound rest (b ∷ bs)) e = absurd (cc)
endless_found (Unsound fault) e = refl

pub default_endless : (text : List ℕ) → text_after (cleared (start_level true) text) ≡ [] → default_after text ≡ None
unfolding start_level
default_endless text e = default_is text ∙ endless_found (cleared (Some 0) text) e

sound_found : (c : Cleared) (b : ℕ) (bs : List ℕ) → text_after c ≡ b ∷ bs → option_map trimmed_default (found c) ≡ Some (let d : DefaultText = record { text = trimmed_left (trims true) c; following = text_after c } in d)
unfolding text_after trimmed_left trimmed_default trims
sound_found (Sound rest []) b bs e = absurd (cc)
sound_found (Sound rest (d ∷ ds)) b bs e = refl
sound_found (Unsound fault) b bs e = absurd (cc)

-- what a default text of so many bytes counts
abbrev pub size_by : ℕ → ℕ
size_by len = cond (eqb len 0) 0 (1 + len)

size_is : (text : List ℕ) → default_size text ≡ size_by (length text)
unfolding default_size
size_is [] = refl
size_is (b ∷ bs) = sym (cond-false _ _ _ (ne_eqb (length (b ∷ bs)) 0 (λ e. absurd (omega arith))))

-- a default text that was read is read back
default_plain : (text : List ℕ) (b : ℕ) (bs : List ℕ) → text_after (cleared (start_level true) text) ≡ b ∷ bs → is_default (default_left text) ≡ true
unfolding start_level default_left
default_plain text b bs e =
    let c : Cleared = cleared (Some 0) text in
    default_after_plain text (record { text = trimmed_left (trims true) c; following = text_after c }) (default_is text ∙ sound_found c b bs e)

pub default_found : (text following : List ℕ) (b : ℕ) (bs : List ℕ) (len size : ℕ) → trimmed_len (trims true) (cleared (start_level true) text) ≡ Ok len → text_after (cleared (start_level true) text) ≡ following → following ≡ b ∷ bs → size ≡ size_by len → IsDefault (default_after text) text following size
unfolding start_level default_left
default_found text following b bs len size l e f s = grind (arith, default_is, sound_found, size_is, left_len, ok_len, default_plain)

-- a formal without a default text
no_default_left : default_left [] ≡ []
unfolding default_left cleared left_in tokens_from open_fault trimmed_left trimmed_of without_end trims
no_default_left = refl

none_size : default_size [] ≡ 0
unfolding default_size
none_size = refl

none_len : trimmed_len (trims true) (cleared (start_level true) []) ≡ ok_len 0
unfolding cleared left_in tokens_from open_fault trimmed_len trimmed_of without_end trims
none_len = refl

none_plain : is_default [] ≡ true
unfolding is_default is_clean fills lex_fault_from fault_of_tokens open_fault tokens_from
none_plain = refl

no_default_in : (text : List ℕ) → eqb (get_or text 0 0) 61 ≡ false → IsDefault (default_in text) [] text 0
unfolding default_in
no_default_in text e = grind (arith, cond-false, no_default_left, size_is, none_size, none_len, ok_len, none_plain)

pub no_default_at : (text joined_from joined_text : List ℕ) (size : ℕ) → joined_from ≡ [] → joined_text ≡ text → size ≡ 0 → eqb (get_or text 0 0) 61 ≡ false → IsDefault (default_in text) joined_from joined_text size
no_default_at text from following size f t n e = rw (f, t, n) (no_default_in text e)

-- what stands after a name and begins with `=` is a default text
pub default_at : (text : List ℕ) (b : ℕ) (from : List ℕ) → text ≡ b ∷ from → eqb b 61 ≡ true → default_in text ≡ default_after from
unfolding default_in default_after
default_at text b from t e = ap (λ (x : List ℕ). cond (eqb (get_or x 0 0) 61) (option_map trimmed_default (default_of_tokens 0 (tokens_from Plain 0 (drop 1 x)) (drop 1 x))) (Some (record { text = []; following = x }))) t ∙ cond-true _ _ _ e
