-- A text of a logical line and the text as it is read, side by side: their bytes and their first tokens.
use Rattle.std.proofs.Common.{◌≡◌, ℕ, suc, ◌+◌, ◌-◌, ◌<◌, ◌≤◌, Bool, true, false, cond, ◌&&◌, ◌⊎◌, List, [], ◌∷◌, length, take, drop, get_or, eqb, one-add, refl, ap, sym, ◌∙◌, subst, arith, inl, inr, zero, ltb, ◌≢◌, not, ◌||◌, eqb-true, lt-ltb, le-ltb, ltb-true, ne_eqb, drop-drop, length-drop}
use Rattle.std.specs.List.{prefix_len}
use Rattle.std.proofs.lemmas.Bool.{cases_Bool, cond-true, cond-false, and_parts, and_left, and_right, false≢true, false_from_ne_true, both_ways, cases_lt}
use Rattle.rdlpp_scan.specs.Continuations.{continuation_len, without_continuations, as_read, first_len}
use Rattle.rdlpp_scan.specs.declared.token.Kind.{Kind}
use Rattle.rdlpp_scan.specs.declared.token.Kind.TheVariants.{Name, Word, Back, Blank, LineEnd, Str, LineComment, BlockComment, Opener, Closer, Comma, Other, Perl, BareBackquote}
use Rattle.rdlpp_scan.specs.declared.token.Mode.{Mode}
use Rattle.rdlpp_scan.specs.declared.token.Mode.TheVariants.{Plain, InStr, InBlock}
use Rattle.rdlpp_scan.specs.declared.token.Token.{Token}
use Rattle.rdlpp_scan.specs.Bytes.{is_blank, is_line_end, is_letter, is_digit, is_word, is_opener, is_closer, takes_word, begins_perl, begins_line_comment, begins_block_comment, ends_block_comment}
use Rattle.rdlpp_scan.specs.Tokens.{first_place, string_stop, whole, string_token, block_token, plain_token, token_of}
use Rattle.rdlpp_scan.proofs.TokenLens.{at_zero, first_place-at}
use Rattle.rdlpp_scan.proofs.Seams.{blank_ten, block_at, block_token-at, string_at, string_token-at, word_ten, run_none}
use Rattle.rdlpp_scan.specs.LineTokens.{line_token, kept_of, IsRead}

-- The first byte of a text as it is read.

no_continuation : (b : ℕ) (bs : List ℕ) → eqb b 92 ≡ false → continuation_len (b ∷ bs) ≡ 0
unfolding continuation_len
no_continuation b bs e = cond-false _ _ _ (and_left _ _ e) ∙ cond-false _ _ _ (and_left _ _ e)

-- what a text with continuations begins with
pub record BeginsWith (text : List ℕ) (n : ℕ) : Type 0 where
  pub inside : n < length text
  pub first : without_continuations 0 text ≡ get_or text n 0 ∷ without_continuations 0 (drop (n + 1) text)
  pub joint : (n ≡ 0) ⊎ (eqb (get_or text n 0) 10 ≡ true)

pub no_joint : (b : ℕ) (bs : List ℕ) → continuation_len (b ∷ bs) ≡ 0 → without_continuations 0 (b ∷ bs) ≡ b ∷ without_continuations 0 bs
unfolding without_continuations
no_joint b bs e = ap (λ (n : ℕ). cond (eqb n 0) (b ∷ without_continuations 0 bs) (without_continuations (n - 1) bs)) e

pub one_joint : (b : ℕ) (bs : List ℕ) → continuation_len (b ∷ bs) ≡ 1 → without_continuations 0 (b ∷ bs) ≡ without_continuations 0 bs
unfolding without_continuations
one_joint b bs e = ap (λ (n : ℕ). cond (eqb n 0) (b ∷ without_continuations 0 bs) (without_continuations (n - 1) bs)) e

pub two_joint : (b c : ℕ) (cs : List ℕ) → continuation_len (b ∷ c ∷ cs) ≡ 2 → without_continuations 0 (b ∷ c ∷ cs) ≡ without_continuations 0 cs
unfolding without_continuations
two_joint b c cs e = ap (λ (n : ℕ). cond (eqb n 0) (b ∷ without_continuations 0 (c ∷ cs)) (without_continuations (n - 1) (c ∷ cs))) e

pub end_first : (b : ℕ) (bs : List ℕ) → eqb b 10 ≡ true → without_continuations 0 (b ∷ bs) ≡ b ∷ without_continuations 0 bs
end_first b bs e = no_joint b bs (no_continuation b bs (ap (λ (x : ℕ). eqb x 92) (eqb-true b 10 e)))

pub alone : (b : ℕ) → continuation_len (b ∷ []) ≡ 0
unfolding continuation_len
alone b = cond-false _ _ _ (and_right (eqb b 92) false refl) ∙ cond-false _ _ _ (and_right (eqb b 92) false refl)

pub one_before : (b c : ℕ) (cs : List ℕ) → (eqb b 92 && eqb c 10) ≡ true → continuation_len (b ∷ c ∷ cs) ≡ 1
unfolding continuation_len
one_before b c cs t = cond-true _ _ _ t

pub two_before : (b c : ℕ) (cs : List ℕ) → (eqb b 92 && eqb c 10) ≡ false → (eqb b 92 && (eqb c 13 && eqb (get_or cs 0 0) 10)) ≡ true → continuation_len (b ∷ c ∷ cs) ≡ 2
unfolding continuation_len
two_before b c cs f t = cond-false _ _ _ f ∙ cond-true _ _ _ t

pub none_before : (b c : ℕ) (cs : List ℕ) → (eqb b 92 && eqb c 10) ≡ false → (eqb b 92 && (eqb c 13 && eqb (get_or cs 0 0) 10)) ≡ false → continuation_len (b ∷ c ∷ cs) ≡ 0
unfolding continuation_len
none_before b c cs f t = cond-false _ _ _ f ∙ cond-false _ _ _ t

two_begin : (b c : ℕ) (cs : List ℕ) → continuation_len (b ∷ c ∷ cs) ≡ 2 → eqb (get_or cs 0 0) 10 ≡ true → BeginsWith (b ∷ c ∷ cs) 2
two_begin b c [] e k = absurd (false≢true k)
two_begin b c (d ∷ ds) e k = record { inside = omega arith; first = two_joint b c (d ∷ ds) e ∙ end_first d ds k; joint = inr k }

pub begins_with : (text : List ℕ) → 0 < length text → BeginsWith text (continuation_len text)
begins_with [] h = absurd (omega arith)
begins_with (b ∷ []) h = grind (arith, alone, no_joint)
begins_with (b ∷ c ∷ cs) h =
    let P : ℕ → Type 0 = λ n. BeginsWith (b ∷ c ∷ cs) n in
    elim (cases_Bool (eqb b 92 && eqb c 10)) [
      | inl t ↦
          let e : continuation_len (b ∷ c ∷ cs) ≡ 1 = one_before b c cs t in
          subst P (sym e) (record { inside = omega arith; first = one_joint b (c ∷ cs) e ∙ end_first c cs (and_parts (eqb b 92) (eqb c 10) t).1; joint = inr (and_parts (eqb b 92) (eqb c 10) t).1 })
      | inr f ↦ elim (cases_Bool (eqb b 92 && (eqb c 13 && eqb (get_or cs 0 0) 10))) [
        | inl t ↦
            let e : continuation_len (b ∷ c ∷ cs) ≡ 2 = two_before b c cs f t in
            let k : eqb (get_or cs 0 0) 10 ≡ true = (and_parts (eqb c 13) _ (and_parts (eqb b 92) _ t).1).1 in
            subst P (sym e) (two_begin b c cs e k)
        | inr g ↦
            let e : continuation_len (b ∷ c ∷ cs) ≡ 0 = none_before b c cs f g in
            subst P (sym e) (record { inside = omega arith; first = no_joint b (c ∷ cs) e; joint = inl refl })
      ]
    ]

-- the first byte that is read, and the text after it
pub record ReadsFirst (is_logical : Bool) (text : List ℕ) (len : ℕ) : Type 0 where
  pub some : 0 < len
  pub inside : len ≤ length text
  pub first : as_read is_logical text ≡ get_or text (len - 1) 0 ∷ as_read is_logical (drop len text)

plain_first : (text : List ℕ) → 0 < length text → text ≡ get_or text 0 0 ∷ drop 1 text
plain_first [] h = absurd (omega arith)
plain_first (b ∷ bs) h = refl

pub reads_first : (is_logical : Bool) (text : List ℕ) → 0 < length text → ReadsFirst is_logical text (first_len is_logical text)
unfolding as_read first_len
reads_first true text h = grind (arith, begins_with)
reads_first false text h = record { some = omega arith; inside = omega arith; first = plain_first text h }

pub none_first : (is_logical : Bool) (text : List ℕ) → length text ≡ 0 → as_read is_logical text ≡ []
unfolding as_read without_continuations
none_first true [] h = refl
none_first false [] h = refl
none_first is_logical (b ∷ bs) h = absurd (omega arith)

pub reads_logical : (is_logical : Bool) (text : List ℕ) (n : ℕ) → 0 < length text → is_logical ≡ true → n ≡ continuation_len text → ReadsFirst is_logical text (n + 1)
unfolding first_len
reads_logical is_logical text n h e f =
    let r : ReadsFirst true text (continuation_len text + 1) = reads_first true text h in
    let P : ℕ → Type 0 = λ k. ReadsFirst true text (k + 1) in
    let Q : Bool → Type 0 = λ l. ReadsFirst l text (n + 1) in
    subst Q (sym e) (subst P (sym f) r)

pub reads_plain : (is_logical : Bool) (text : List ℕ) → 0 < length text → is_logical ≡ false → ReadsFirst is_logical text 1
unfolding first_len
reads_plain is_logical text h e =
    let r : ReadsFirst false text 1 = reads_first false text h in
    let Q : Bool → Type 0 = λ l. ReadsFirst l text 1 in
    subst Q (sym e) r

pub no_joint_at : (b : ℕ) (bs : List ℕ) → eqb b 92 ≡ false → as_read true (b ∷ bs) ≡ b ∷ as_read true bs
unfolding as_read
no_joint_at b bs e = no_joint b bs (no_continuation b bs e)

pub none_left : without_continuations 0 [] ≡ []
unfolding without_continuations
none_left = refl

pub joined_none : as_read true [] ≡ []
unfolding as_read without_continuations
joined_none = refl

-- the first byte of a class that has neither LF nor a backslash isn't touched by a continuation
pub first_out : (test : ℕ → Bool) → test 10 ≡ false → (b : ℕ) (bs : List ℕ) → test b ≡ false → test (get_or (as_read true (b ∷ bs)) 0 0) ≡ false
unfolding as_read
first_out test line b bs e =
    let w : BeginsWith (b ∷ bs) (continuation_len (b ∷ bs)) = begins_with (b ∷ bs) (omega arith) in
    let n : ℕ = continuation_len (b ∷ bs) in
    let out : test (get_or (b ∷ bs) n 0) ≡ false = elim w.joint [
      | inl z ↦ ap (λ (k : ℕ). test (get_or (b ∷ bs) k 0)) z ∙ e
      | inr t ↦ ap test (eqb-true (get_or (b ∷ bs) n 0) 10 t) ∙ line
    ] in
    ap (λ (l : List ℕ). test (get_or l 0 0)) w.first ∙ out

pub first_in : (test : ℕ → Bool) → test 92 ≡ false → (b : ℕ) (bs : List ℕ) → test b ≡ true → as_read true (b ∷ bs) ≡ b ∷ as_read true bs
first_in test back b bs e =
    no_joint_at b bs (false_from_ne_true (eqb b 92) (λ h. both_ways (test 92) back (ap test (sym (eqb-true b 92 h)) ∙ e)))

-- a run of a class that has neither LF nor a backslash is the same where continuations are read as their LF
pub record SameRun (test : ℕ → Bool) (text : List ℕ) : Type 0 where
  pub len : prefix_len test (as_read true text) ≡ prefix_len test text
  pub front : take (prefix_len test text) (as_read true text) ≡ take (prefix_len test text) text
  pub back : drop (prefix_len test text) (as_read true text) ≡ as_read true (drop (prefix_len test text) text)

pub same_run : (test : ℕ → Bool) → test 10 ≡ false → test 92 ≡ false → (text : List ℕ) → SameRun test text
same_run test line back [] = record { len = ap (prefix_len test) joined_none; front = refl; back = refl }
same_run test line back (b ∷ bs) =
    elim (cases_Bool (test b)) [
      | inl e ↦
          let r : SameRun test bs = same_run test line back bs in
          let at : as_read true (b ∷ bs) ≡ b ∷ as_read true bs = first_in test back b bs e in
          let n : cond (test b) (1 + prefix_len test bs) 0 ≡ suc (prefix_len test bs) = ap (λ (t : Bool). cond t (1 + prefix_len test bs) 0) e ∙ one-add (prefix_len test bs) in
          record {
            len = ap (prefix_len test) at ∙ (ap (λ (k : ℕ). cond (test b) (1 + k) 0) r.len);
            front = ap (λ (l : List ℕ). take (prefix_len test (b ∷ bs)) l) at ∙ (ap (λ (k : ℕ). take k (b ∷ as_read true bs)) n ∙ (ap (λ (l : List ℕ). b ∷ l) r.front ∙ sym (ap (λ (k : ℕ). take k (b ∷ bs)) n)));
            back = ap (λ (l : List ℕ). drop (prefix_len test (b ∷ bs)) l) at ∙ (ap (λ (k : ℕ). drop k (b ∷ as_read true bs)) n ∙ (r.back ∙ sym (ap (λ (k : ℕ). as_read true (drop k (b ∷ bs))) n)));
          }
      | inr e ↦
          let n : prefix_len test (b ∷ bs) ≡ 0 = ap (λ (t : Bool). cond t (1 + prefix_len test bs) 0) e in
          record {
            len = run_none test (as_read true (b ∷ bs)) (first_out test line b bs e) ∙ sym n;
            front = ap (λ (k : ℕ). take k (as_read true (b ∷ bs))) n ∙ sym (ap (λ (k : ℕ). take k (b ∷ bs)) n);
            back = ap (λ (k : ℕ). drop k (as_read true (b ∷ bs))) n ∙ sym (ap (λ (k : ℕ). as_read true (drop k (b ∷ bs))) n);
          }
    ]

-- A text of a logical line, and the text as it is read, side by side.

-- a text of a logical line, and the text in which LF stands in the place of each continuation
pub data Joins : List ℕ → List ℕ → Type 0 where
  Ends : Joins [] []
  Byte : (b : ℕ) (raw text : List ℕ) → continuation_len (b ∷ raw) ≡ 0 → Joins raw text → Joins (b ∷ raw) (b ∷ text)
  Line : (raw text : List ℕ) → Joins raw text → Joins (92 ∷ 10 ∷ raw) (10 ∷ text)
  Return : (raw text : List ℕ) → Joins raw text → Joins (92 ∷ 13 ∷ 10 ∷ raw) (10 ∷ text)

line_at : (b c : ℕ) (raw text : List ℕ) → (eqb b 92 && eqb c 10) ≡ true → Joins raw text → Joins (b ∷ c ∷ raw) (10 ∷ text)
line_at b c raw text e j =
    let p = and_parts (eqb b 92) (eqb c 10) e in
    subst (λ x. Joins (x ∷ c ∷ raw) (10 ∷ text)) (sym (eqb-true b 92 p.0)) (subst (λ x. Joins (92 ∷ x ∷ raw) (10 ∷ text)) (sym (eqb-true c 10 p.1)) (Line raw text j))

return_at : (b c d : ℕ) (raw text : List ℕ) → (eqb b 92 && (eqb c 13 && eqb d 10)) ≡ true → Joins raw text → Joins (b ∷ c ∷ d ∷ raw) (10 ∷ text)
return_at b c d raw text e j =
    let p = and_parts (eqb b 92) (eqb c 13 && eqb d 10) e in
    let q = and_parts (eqb c 13) (eqb d 10) p.1 in
    subst (λ x. Joins (x ∷ c ∷ d ∷ raw) (10 ∷ text)) (sym (eqb-true b 92 p.0))
    (subst (λ x. Joins (92 ∷ x ∷ d ∷ raw) (10 ∷ text)) (sym (eqb-true c 13 q.0))
    (subst (λ x. Joins (92 ∷ 13 ∷ x ∷ raw) (10 ∷ text)) (sym (eqb-true d 10 q.1)) (Return raw text j)))

line_read : (b c : ℕ) (cs : List ℕ) → (eqb b 92 && eqb c 10) ≡ true → without_continuations 0 (b ∷ c ∷ cs) ≡ 10 ∷ without_continuations 0 cs
line_read b c cs e = grind (arith, and_parts, one_joint, one_before, end_first, eqb-true)

return_read : (b c d : ℕ) (ds : List ℕ) → (eqb b 92 && eqb c 10) ≡ false → (eqb b 92 && (eqb c 13 && eqb d 10)) ≡ true → without_continuations 0 (b ∷ c ∷ d ∷ ds) ≡ 10 ∷ without_continuations 0 ds
return_read b c d ds f e = grind (arith, and_parts, two_joint, two_before, end_first, eqb-true)

no_return : (b c : ℕ) → (eqb b 92 && (eqb c 13 && eqb (get_or [] 0 0) 10)) ≡ true → ⊥
no_return b c e = false≢true (and_parts (eqb c 13) false (and_parts (eqb b 92) (eqb c 13 && false) e).1).1

-- a text beside what it is read as
pub joins_text : (raw : List ℕ) → Joins raw (without_continuations 0 raw)
unfolding continuation_len
joins_text [] = subst (λ x. Joins [] x) (sym none_left) Ends
joins_text (b ∷ []) = subst (λ x. Joins (b ∷ []) x) (sym (no_joint b [] (alone b))) (Byte b [] (without_continuations 0 []) (alone b) (joins_text []))
joins_text (b ∷ c ∷ []) =
    elim (cases_Bool (eqb b 92 && eqb c 10)) [
      | inl e ↦ subst (λ x. Joins (b ∷ c ∷ []) x) (sym (line_read b c [] e)) (line_at b c [] _ e (joins_text []))
      | inr f ↦
          let g = cases_Bool (eqb b 92 && (eqb c 13 && eqb (get_or [] 0 0) 10)) in
          elim g [
            | inl e ↦ absurd (no_return b c e)
            | inr k ↦
                let n : continuation_len (b ∷ c ∷ []) ≡ 0 = none_before b c [] f k in
                subst (λ x. Joins (b ∷ c ∷ []) x) (sym (no_joint b (c ∷ []) n)) (Byte b (c ∷ []) _ n (joins_text (c ∷ [])))
          ]
    ]
joins_text (b ∷ c ∷ d ∷ ds) =
    elim (cases_Bool (eqb b 92 && eqb c 10)) [
      | inl e ↦ subst (λ x. Joins (b ∷ c ∷ d ∷ ds) x) (sym (line_read b c (d ∷ ds) e)) (line_at b c (d ∷ ds) _ e (joins_text (d ∷ ds)))
      | inr f ↦ elim (cases_Bool (eqb b 92 && (eqb c 13 && eqb d 10))) [
        | inl e ↦ subst (λ x. Joins (b ∷ c ∷ d ∷ ds) x) (sym (return_read b c d ds f e)) (return_at b c d ds _ e (joins_text ds))
        | inr k ↦
            let n : continuation_len (b ∷ c ∷ d ∷ ds) ≡ 0 = none_before b c (d ∷ ds) f k in
            subst (λ x. Joins (b ∷ c ∷ d ∷ ds) x) (sym (no_joint b (c ∷ d ∷ ds) n)) (Byte b (c ∷ d ∷ ds) _ n (joins_text (c ∷ d ∷ ds)))
      ]
    ]

-- and it is read as nothing else
pub joins_is : (raw text : List ℕ) → Joins raw text → without_continuations 0 raw ≡ text
joins_is raw text Ends = none_left
joins_is raw text (Byte b r t e j) = no_joint b r e ∙ ap (λ l. b ∷ l) (joins_is r t j)
joins_is raw text (Line r t j) = line_read 92 10 r refl ∙ ap (λ l. 10 ∷ l) (joins_is r t j)
joins_is raw text (Return r t j) = return_read 92 13 10 r refl refl ∙ ap (λ l. 10 ∷ l) (joins_is r t j)

-- a byte of a class in which `\` and LF are alike, or neither stands
pub first_alike : (test : ℕ → Bool) → test 92 ≡ test 10 → (raw text : List ℕ) → Joins raw text → test (get_or raw 0 0) ≡ test (get_or text 0 0)
first_alike test e raw text (Line r t j) = e
first_alike test e raw text (Return r t j) = e
first_alike test e raw text _ = refl

-- so many bytes of a text beside so many of the text as it is read
pub data Reaches : ℕ → ℕ → List ℕ → List ℕ → Type 0 where
  Here : (raw text : List ℕ) → Joins raw text → Reaches 0 0 raw text
  PastByte : (n m b : ℕ) (raw text : List ℕ) → continuation_len (b ∷ raw) ≡ 0 → Reaches n m raw text → Reaches (suc n) (suc m) (b ∷ raw) (b ∷ text)
  PastLine : (n m : ℕ) (raw text : List ℕ) → Reaches n m raw text → Reaches (suc (suc n)) (suc m) (92 ∷ 10 ∷ raw) (10 ∷ text)
  PastReturn : (n m : ℕ) (raw text : List ℕ) → Reaches n m raw text → Reaches (suc (suc (suc n))) (suc m) (92 ∷ 13 ∷ 10 ∷ raw) (10 ∷ text)

-- what stands after
pub reaches_after : (n m : ℕ) (raw text : List ℕ) → Reaches n m raw text → Joins (drop n raw) (drop m text)
reaches_after n m raw text (Here r t j) = j
reaches_after n m raw text (PastByte i k b r t e p) = reaches_after i k r t p
reaches_after n m raw text (PastLine i k r t p) = reaches_after i k r t p
reaches_after n m raw text (PastReturn i k r t p) = reaches_after i k r t p

-- where no continuation begins, none begins in a front of the text
front_none : (n b : ℕ) (raw : List ℕ) → continuation_len (b ∷ raw) ≡ 0 → continuation_len (b ∷ take n raw) ≡ 0
unfolding continuation_len
front_none zero b raw e = alone b
front_none (suc n) b [] e = e
front_none (suc zero) b (c ∷ cs) e = grind (arith, and_right)
front_none (suc (suc n)) b (c ∷ []) e = e
front_none (suc (suc n)) b (c ∷ d ∷ ds) e = e

-- what stands in front
pub reaches_front : (n m : ℕ) (raw text : List ℕ) → Reaches n m raw text → Joins (take n raw) (take m text)
reaches_front n m raw text (Here r t j) = Ends
reaches_front n m raw text (PastByte i k b r t e p) = Byte b (take i r) (take k t) (front_none i b r e) (reaches_front i k r t p)
reaches_front n m raw text (PastLine i k r t p) = Line (take i r) (take k t) (reaches_front i k r t p)
reaches_front n m raw text (PastReturn i k r t p) = Return (take i r) (take k t) (reaches_front i k r t p)

pub reaches_at : (n m i k : ℕ) (raw text : List ℕ) → n ≡ i → m ≡ k → Reaches n m raw text → Reaches i k raw text
reaches_at n m i k raw text e f p = subst (λ x. Reaches x k raw text) e (subst (λ x. Reaches n x raw text) f p)

-- one way after another
pub reaches_on : (n m : ℕ) (raw text : List ℕ) → Reaches n m raw text → (i k : ℕ) → Reaches i k (drop n raw) (drop m text) → Reaches (n + i) (m + k) raw text
reaches_on n m raw text (Here r t j) i k q = reaches_at i k (0 + i) (0 + k) r t (omega arith) (omega arith) q
reaches_on n m raw text (PastByte x y b r t e p) i k q = reaches_at (suc (x + i)) (suc (y + k)) (suc x + i) (suc y + k) (b ∷ r) (b ∷ t) (omega arith) (omega arith) (PastByte (x + i) (y + k) b r t e (reaches_on x y r t p i k q))
reaches_on n m raw text (PastLine x y r t p) i k q = reaches_at (suc (suc (x + i))) (suc (y + k)) (suc (suc x) + i) (suc y + k) (92 ∷ 10 ∷ r) (10 ∷ t) (omega arith) (omega arith) (PastLine (x + i) (y + k) r t (reaches_on x y r t p i k q))
reaches_on n m raw text (PastReturn x y r t p) i k q = reaches_at (suc (suc (suc (x + i)))) (suc (y + k)) (suc (suc (suc x)) + i) (suc y + k) (92 ∷ 13 ∷ 10 ∷ r) (10 ∷ t) (omega arith) (omega arith) (PastReturn (x + i) (y + k) r t (reaches_on x y r t p i k q))

-- whether more stands after
pub record SameEnd (n a m b : ℕ) : Type 0 where
  pub there : n < a → m < b
  pub back : m < b → n < a

pub none_same : (raw text : List ℕ) → Joins raw text → SameEnd 0 (length raw) 0 (length text)
none_same raw text Ends = record { there = λ h. h; back = λ h. h }
none_same raw text _ = record { there = λ h. omega arith; back = λ h. omega arith }

pub reaches_end : (n m : ℕ) (raw text : List ℕ) → Reaches n m raw text → SameEnd n (length raw) m (length text)
reaches_end n m raw text (Here r t j) = none_same r t j
reaches_end n m raw text (PastByte x y b r t e p) = let s = reaches_end x y r t p in record { there = λ h. omega (arith, s.there (omega arith)); back = λ h. omega (arith, s.back (omega arith)) }
reaches_end n m raw text (PastLine x y r t p) = let s = reaches_end x y r t p in record { there = λ h. omega (arith, s.there (omega arith)); back = λ h. omega (arith, s.back (omega arith)) }
reaches_end n m raw text (PastReturn x y r t p) = let s = reaches_end x y r t p in record { there = λ h. omega (arith, s.there (omega arith)); back = λ h. omega (arith, s.back (omega arith)) }

pub same_ltb : (n a m b : ℕ) → SameEnd n a m b → ltb n a ≡ ltb m b
same_ltb n a m b s = grind (arith, cases_lt, lt-ltb, le-ltb)

-- a way by a test that both texts pass or both don't
pub reaches_cond : (q q' : Bool) (n n' m m' : ℕ) (raw text : List ℕ) → q' ≡ q → (q ≡ true → Reaches n m raw text) → (q ≡ false → Reaches n' m' raw text) → Reaches (cond q n n') (cond q' m m') raw text
reaches_cond true q' n n' m m' raw text e f g = subst (λ t. Reaches n (cond t m m') raw text) (sym e) (f refl)
reaches_cond false q' n n' m m' raw text e f g = subst (λ t. Reaches n' (cond t m m') raw text) (sym e) (g refl)

-- a byte that neither is 0 nor begins a continuation
pub one_byte : (k : ℕ) → eqb 0 k ≡ false → eqb 92 k ≡ false → (raw text : List ℕ) → Joins raw text → eqb (get_or raw 0 0) k ≡ true → Reaches 1 1 raw text
one_byte k z s raw text Ends e = absurd (false≢true (sym z ∙ e))
one_byte k z s raw text (Byte b r t n j) e = PastByte 0 0 b r t n (Here r t j)
one_byte k z s raw text _ e = absurd (false≢true (sym s ∙ e))

-- The first token of a text of a logical line is that of the text as it is read.

abbrev is_line_comment_kind : Kind → Bool
is_line_comment_kind LineComment = true
is_line_comment_kind _ = false

-- two first tokens that are one, but for the bytes of a `//` comment
record Alike (raw text : List ℕ) (t u : Token) : Type 0 where
  kind : t.kind ≡ u.kind
  next_mode : t.next_mode ≡ u.next_mode
  bytes : is_line_comment_kind t.kind ≡ false → Joins (take t.len raw) (take u.len text)
  following : Joins (drop t.len raw) (drop u.len text)

alike_token : (k : Kind) (mode : Mode) (n m : ℕ) (raw text : List ℕ) → Reaches n m raw text → Alike raw text (record { kind = k; len = n; next_mode = mode }) (record { kind = k; len = m; next_mode = mode })
alike_token k mode n m raw text p = record { kind = refl; next_mode = refl; bytes = λ h. reaches_front n m raw text p; following = reaches_after n m raw text p }

alike_whole : (k : Kind) (n m : ℕ) (raw text : List ℕ) → Reaches n m raw text → Alike raw text (whole k n) (whole k m)
unfolding whole
alike_whole k n m raw text p = alike_token k Plain n m raw text p

alike_cond : (q q' : Bool) (raw text : List ℕ) (t t' u u' : Token) → q' ≡ q → (q ≡ true → Alike raw text t u) → (q ≡ false → Alike raw text t' u') → Alike raw text (cond q t t') (cond q' u u')
alike_cond true q' raw text t t' u u' e f g = subst (λ x. Alike raw text t (cond x u u')) (sym e) (f refl)
alike_cond false q' raw text t t' u u' e f g = subst (λ x. Alike raw text t' (cond x u u')) (sym e) (g refl)

-- a pair of bytes of which neither is 0, LF or `\`
pair_reaches : (x y : ℕ) → eqb 0 x ≡ false → eqb 92 x ≡ false → eqb 0 y ≡ false → eqb 92 y ≡ false → (raw text : List ℕ) → Joins raw text → (eqb (get_or raw 0 0) x && eqb (get_or raw 1 0) y) ≡ true → Reaches 2 2 raw text
pair_reaches x y zx bx zy by raw text Ends e = absurd (false≢true (sym zx ∙ (and_parts (eqb 0 x) _ e).0))
pair_reaches x y zx bx zy by raw text (Byte b r t n j) e = PastByte 1 1 b r t n (one_byte y zy by r t j (and_parts (eqb b x) _ e).1)
pair_reaches x y zx bx zy by raw text _ e = absurd (false≢true (sym bx ∙ (and_parts (eqb 92 x) _ e).0))

pair_alike : (x y : ℕ) → eqb 92 x ≡ false → eqb 10 x ≡ false → eqb 92 y ≡ eqb 10 y → (raw text : List ℕ) → Joins raw text → (eqb (get_or text 0 0) x && eqb (get_or text 1 0) y) ≡ (eqb (get_or raw 0 0) x && eqb (get_or raw 1 0) y)
pair_alike x y bx lx e raw text Ends = refl
pair_alike x y bx lx e raw text (Byte b r t n j) = ap (λ q. eqb b x && q) (sym (first_alike (λ k. eqb k y) e r t j))
pair_alike x y bx lx e raw text (Line r t j) = ap (λ q. q && eqb (get_or t 0 0) y) lx ∙ sym (ap (λ q. q && eqb 10 y) bx)
pair_alike x y bx lx e raw text (Return r t j) = ap (λ q. q && eqb (get_or t 0 0) y) lx ∙ sym (ap (λ q. q && eqb 13 y) bx)

-- a run of a class that has neither LF nor `\`
run_reaches : (test : ℕ → Bool) → test 10 ≡ false → test 92 ≡ false → (raw text : List ℕ) → Joins raw text → Reaches (prefix_len test raw) (prefix_len test text) raw text
run_reaches test line back raw text Ends = Here [] [] Ends
run_reaches test line back raw text (Byte b r t n j) =
    reaches_cond (test b) (test b) _ _ _ _ (b ∷ r) (b ∷ t) refl
    (λ e. reaches_at _ _ _ _ (b ∷ r) (b ∷ t) (sym (one-add (prefix_len test r))) (sym (one-add (prefix_len test t))) (PastByte _ _ b r t n (run_reaches test line back r t j)))
    (λ e. Here (b ∷ r) (b ∷ t) (Byte b r t n j))
run_reaches test line back raw text (Line r t j) =
    reaches_at 0 0 _ _ (92 ∷ 10 ∷ r) (10 ∷ t) (sym (cond-false (test 92) _ _ back)) (sym (cond-false (test 10) _ _ line)) (Here _ _ (Line r t j))
run_reaches test line back raw text (Return r t j) =
    reaches_at 0 0 _ _ (92 ∷ 13 ∷ 10 ∷ r) (10 ∷ t) (sym (cond-false (test 92) _ _ back)) (sym (cond-false (test 10) _ _ line)) (Here _ _ (Return r t j))

-- the end of a line
ten_none : (raw : List ℕ) → continuation_len (10 ∷ raw) ≡ 0
unfolding continuation_len
ten_none raw = refl

line_front : (raw text : List ℕ) → Joins raw text → Joins (10 ∷ raw) (10 ∷ text)
line_front raw text j = Byte 10 raw text (ten_none raw) j

abbrev before_end : List ℕ → ℕ
before_end bs = prefix_len (λ x. not (is_line_end x)) bs

-- a `//` comment goes up to its line's end
remark_after : (raw text : List ℕ) → Joins raw text → Joins (drop (before_end raw) raw) (drop (before_end text) text)
unfolding is_line_end
remark_after raw text Ends = Ends
remark_after raw text (Byte b r t n j) =
    let P : Bool → Type 0 = λ q. Joins (drop (cond (not q) (1 + before_end r) 0) (b ∷ r)) (drop (cond (not q) (1 + before_end t) 0) (b ∷ t)) in
    let on : Joins (drop (1 + before_end r) (b ∷ r)) (drop (1 + before_end t) (b ∷ t)) =
    subst (λ x. Joins (drop x (b ∷ r)) (drop (1 + before_end t) (b ∷ t))) (sym (one-add (before_end r)))
    (subst (λ x. Joins (drop (before_end r) r) (drop x (b ∷ t))) (sym (one-add (before_end t))) (remark_after r t j)) in
    elim (eqb b 10) as P [ true ↦ Byte b r t n j | false ↦ on ]
remark_after raw text (Line r t j) = line_front r t j
remark_after raw text (Return r t j) = line_front r t j

remark_alike : (raw text : List ℕ) → Joins raw text → Alike raw text (whole LineComment (before_end raw)) (whole LineComment (before_end text))
unfolding whole
remark_alike raw text j = record { kind = refl; next_mode = refl; bytes = λ h. absurd (false≢true (sym h)); following = remark_after raw text j }

-- where a string stops
string_reaches : (raw text : List ℕ) → Joins raw text → (taken : Bool) → Reaches (string_stop taken raw) (string_stop taken text) raw text
unfolding string_stop begins_perl
string_reaches raw text (Byte b r t n j) true = PastByte _ _ b r t n (string_reaches r t j false)
string_reaches raw text (Byte b r t n j) false =
    reaches_cond (eqb b 34 || (eqb b 60 && eqb (get_or r 0 0) 37)) (eqb b 34 || (eqb b 60 && eqb (get_or t 0 0) 37)) _ _ _ _ (b ∷ r) (b ∷ t)
    (ap (λ q. eqb b 34 || (eqb b 60 && q)) (sym (first_alike (λ k. eqb k 37) refl r t j)))
    (λ e. Here (b ∷ r) (b ∷ t) (Byte b r t n j))
    (λ e. PastByte _ _ b r t n (string_reaches r t j (eqb b 92)))
string_reaches raw text (Line r t j) true = PastLine _ _ r t (string_reaches r t j false)
string_reaches raw text (Line r t j) false = PastLine _ _ r t (string_reaches r t j false)
string_reaches raw text (Return r t j) true = PastReturn _ _ r t (string_reaches r t j false)
string_reaches raw text (Return r t j) false = PastReturn _ _ r t (string_reaches r t j false)
string_reaches raw text _ _ = Here [] [] Ends

quote_alike : (n m : ℕ) (raw text : List ℕ) → Reaches n m raw text → eqb (get_or text m 0) 34 ≡ eqb (get_or raw n 0) 34
quote_alike n m raw text p = grind (arith, at_zero, first_alike, reaches_after)

past_quote : (n m : ℕ) (raw text : List ℕ) → Reaches n m raw text → eqb (get_or raw n 0) 34 ≡ true → Reaches (suc n) (suc m) raw text
past_quote n m raw text p e =
    reaches_at (n + 1) (m + 1) (suc n) (suc m) raw text (omega arith) (omega arith)
    (reaches_on n m raw text p 1 1 (one_byte 34 refl refl (drop n raw) (drop m text) (reaches_after n m raw text p) (ap (λ x. eqb x 34) (at_zero raw n) ∙ e)))

alike_string_at : (n m : ℕ) (raw text : List ℕ) → Reaches n m raw text → Alike raw text (string_at n (get_or raw n 0)) (string_at m (get_or text m 0))
unfolding string_at
alike_string_at n m raw text p =
    alike_cond (eqb (get_or raw n 0) 34) (eqb (get_or text m 0) 34) raw text _ _ _ _ (quote_alike n m raw text p)
    (λ e. alike_whole Str (suc n) (suc m) raw text (past_quote n m raw text p e))
    (λ e. alike_token Str InStr n m raw text p)

alike_string : (from n m : ℕ) (raw text : List ℕ) → from + string_stop false (drop from raw) ≡ n → from + string_stop false (drop from text) ≡ m → Reaches n m raw text → Alike raw text (string_token from raw) (string_token from text)
alike_string from n m raw text e f p = grind (arith, string_token-at, alike_string_at)

-- where a block comment ends
comment_reaches : (raw text : List ℕ) → Joins raw text → Reaches (first_place ends_block_comment raw) (first_place ends_block_comment text) raw text
unfolding first_place ends_block_comment
comment_reaches raw text Ends = Here [] [] Ends
comment_reaches raw text (Byte b r t n j) =
    reaches_cond (eqb b 42 && eqb (get_or r 0 0) 47) (eqb b 42 && eqb (get_or t 0 0) 47) _ _ _ _ (b ∷ r) (b ∷ t)
    (ap (λ q. eqb b 42 && q) (sym (first_alike (λ k. eqb k 47) refl r t j)))
    (λ e. Here (b ∷ r) (b ∷ t) (Byte b r t n j))
    (λ e. PastByte _ _ b r t n (comment_reaches r t j))
comment_reaches raw text (Line r t j) = PastLine _ _ r t (comment_reaches r t j)
comment_reaches raw text (Return r t j) = PastReturn _ _ r t (comment_reaches r t j)

past_stars : (n m : ℕ) (raw text : List ℕ) → Reaches n m raw text → ends_block_comment (drop n raw) ≡ true → Reaches (n + 2) (m + 2) raw text
unfolding ends_block_comment
past_stars n m raw text p e = reaches_on n m raw text p 2 2 (pair_reaches 42 47 refl refl refl refl (drop n raw) (drop m text) (reaches_after n m raw text p) e)

alike_block_at : (n m : ℕ) (b : Bool) (raw text : List ℕ) → Reaches n m raw text → (b ≡ true → ends_block_comment (drop n raw) ≡ true) → Alike raw text (block_at n b) (block_at m b)
unfolding block_at
alike_block_at n m true raw text p f = alike_whole BlockComment (n + 2) (m + 2) raw text (past_stars n m raw text p (f refl))
alike_block_at n m false raw text p f = alike_token BlockComment InBlock n m raw text p

alike_block : (from n m : ℕ) (raw text : List ℕ) → from + first_place ends_block_comment (drop from raw) ≡ n → from + first_place ends_block_comment (drop from text) ≡ m → Reaches n m raw text → (n < length raw → ends_block_comment (drop n raw) ≡ true) → Alike raw text (block_token from raw) (block_token from text)
alike_block from n m raw text e f p g =
    let b : Bool = ltb n (length raw) in
    let same : ltb m (length text) ≡ b = sym (same_ltb n (length raw) m (length text) (reaches_end n m raw text p)) in
    subst (λ u. Alike raw text (block_token from raw) u) (sym (block_token-at from text m b f same))
    (subst (λ t. Alike raw text t (block_at m b)) (sym (block_token-at from raw n b e refl)) (alike_block_at n m b raw text p (λ h. g (ltb-true n (length raw) h))))

-- a block comment that opens here
alike_opened : (raw text : List ℕ) → Joins raw text → Reaches 2 2 raw text → Alike raw text (block_token 2 raw) (block_token 2 text)
alike_opened raw text j p =
    let i : ℕ = first_place ends_block_comment (drop 2 raw) in
    let k : ℕ = first_place ends_block_comment (drop 2 text) in
    let q : Reaches i k (drop 2 raw) (drop 2 text) = comment_reaches (drop 2 raw) (drop 2 text) (reaches_after 2 2 raw text p) in
    alike_block 2 (2 + i) (2 + k) raw text refl refl (reaches_on 2 2 raw text p i k q)
    (λ h. ap ends_block_comment (sym (drop-drop i 2 raw)) ∙ first_place-at ends_block_comment (drop 2 raw) (omega (arith, length-drop 2 raw)))

letter_alike : is_letter 92 ≡ is_letter 10
unfolding is_letter
letter_alike = refl

-- a backslash is no byte of a word
pub word_back : is_word 92 ≡ false
unfolding is_word is_letter is_digit
word_back = refl

blank_back : is_blank 92 ≡ false
unfolding is_blank
blank_back = refl

-- the rows of the token table, where no continuation begins
plain_alike : (b : ℕ) (r s : List ℕ) → continuation_len (b ∷ r) ≡ 0 → Joins r s → Alike (b ∷ r) (b ∷ s) (plain_token (b ∷ r)) (plain_token (b ∷ s))
unfolding plain_token begins_perl begins_line_comment begins_block_comment
plain_alike b r s n j =
    let raw : List ℕ = b ∷ r in
    let text : List ℕ = b ∷ s in
    let whole_text : Joins raw text = Byte b r s n j in
    let c : ℕ = get_or r 0 0 in
    let d : ℕ = get_or s 0 0 in
    let second : (test : ℕ → Bool) → test 92 ≡ test 10 → test d ≡ test c = λ test e. sym (first_alike test e r s j) in
    let pair : (x y : ℕ) → eqb 92 y ≡ eqb 10 y → (eqb b x && eqb d y) ≡ (eqb b x && eqb c y) = λ x y e. ap (λ q. eqb b x && q) (second (λ k. eqb k y) e) in
    let one : (k : Kind) → Alike raw text (whole k 1) (whole k 1) = λ k. alike_whole k 1 1 raw text (PastByte 0 0 b r s n (Here r s j)) in
    let run : (k : Kind) (p : ℕ → Bool) → p 10 ≡ false → p 92 ≡ false → Alike raw text (whole k (prefix_len p raw)) (whole k (prefix_len p text)) = λ k p line back. alike_whole k _ _ raw text (run_reaches p line back raw text whole_text) in
    let after_one : (k : Kind) → Alike raw text (whole k (suc (prefix_len is_word r))) (whole k (suc (prefix_len is_word s))) = λ k. alike_whole k _ _ raw text (PastByte _ _ b r s n (run_reaches is_word word_ten word_back r s j)) in
    alike_cond (eqb b 60 && eqb c 37) (eqb b 60 && eqb d 37) raw text _ _ _ _ (pair 60 37 refl) (λ e. alike_whole Perl 2 2 raw text (pair_reaches 60 37 refl refl refl refl raw text whole_text e)) (λ _.
    alike_cond (is_line_end b) (is_line_end b) raw text _ _ _ _ refl (λ _. one LineEnd) (λ _.
    alike_cond (is_blank b) (is_blank b) raw text _ _ _ _ refl (λ _. run Blank is_blank blank_ten blank_back) (λ _.
    alike_cond (eqb b 47 && eqb c 47) (eqb b 47 && eqb d 47) raw text _ _ _ _ (pair 47 47 refl) (λ _. remark_alike raw text whole_text) (λ _.
    alike_cond (eqb b 47 && eqb c 42) (eqb b 47 && eqb d 42) raw text _ _ _ _ (pair 47 42 refl) (λ e. alike_opened raw text whole_text (pair_reaches 47 42 refl refl refl refl raw text whole_text e)) (λ _.
    alike_cond (eqb b 34) (eqb b 34) raw text _ _ _ _ refl (λ _. alike_string 1 (suc (string_stop false r)) (suc (string_stop false s)) raw text (one-add _) (one-add _) (PastByte _ _ b r s n (string_reaches r s j false))) (λ _.
    alike_cond (is_letter b) (is_letter b) raw text _ _ _ _ refl (λ _. run Name is_word word_ten word_back) (λ _.
    alike_cond (is_digit b) (is_digit b) raw text _ _ _ _ refl (λ _. run Word is_word word_ten word_back) (λ _.
    alike_cond (takes_word b && is_word c) (takes_word b && is_word d) raw text _ _ _ _ (ap (λ q. takes_word b && q) (second is_word (word_back ∙ sym word_ten))) (λ _. after_one Word) (λ _.
    alike_cond (eqb b 96 && is_letter c) (eqb b 96 && is_letter d) raw text _ _ _ _ (ap (λ q. eqb b 96 && q) (second is_letter letter_alike)) (λ _. after_one Back) (λ _.
    alike_cond (eqb b 96) (eqb b 96) raw text _ _ _ _ refl (λ _. one BareBackquote) (λ _.
    alike_cond (is_opener b) (is_opener b) raw text _ _ _ _ refl (λ _. one Opener) (λ _.
    alike_cond (is_closer b) (is_closer b) raw text _ _ _ _ refl (λ _. one Closer) (λ _.
    alike_cond (eqb b 44) (eqb b 44) raw text _ _ _ _ refl (λ _. one Comma) (λ _. one Other))))))))))))))

plain_of_byte : (b : ℕ) (r : List ℕ) → continuation_len (b ∷ r) ≡ 0 → line_token true Plain (b ∷ r) ≡ plain_token (b ∷ r)
unfolding line_token token_of
plain_of_byte b r n = ap (λ k. cond (eqb k 0) (plain_token (b ∷ r)) (whole LineEnd (k + 1))) n

plain_read : (raw text : List ℕ) → Joins raw text → 0 < length raw → Alike raw text (line_token true Plain raw) (plain_token text)
unfolding line_token token_of continuation_len plain_token begins_perl is_line_end
plain_read raw text Ends h = absurd (omega arith)
plain_read raw text (Byte b r t n j) h = subst (λ x. Alike (b ∷ r) (b ∷ t) x (plain_token (b ∷ t))) (sym (plain_of_byte b r n)) (plain_alike b r t n j)
plain_read raw text (Line r t j) h = alike_whole LineEnd 2 1 (92 ∷ 10 ∷ r) (10 ∷ t) (PastLine 0 0 r t (Here r t j))
plain_read raw text (Return r t j) h = alike_whole LineEnd 3 1 (92 ∷ 13 ∷ 10 ∷ r) (10 ∷ t) (PastReturn 0 0 r t (Here r t j))

line_alike : (mode : Mode) (raw text : List ℕ) → Joins raw text → 0 < length raw → Alike raw text (line_token true mode raw) (token_of mode text)
unfolding line_token token_of begins_perl
line_alike Plain raw text j h = plain_read raw text j h
line_alike InStr raw text j h =
    alike_cond (eqb (get_or raw 0 0) 60 && eqb (get_or raw 1 0) 37) (eqb (get_or text 0 0) 60 && eqb (get_or text 1 0) 37) raw text _ _ _ _
    (pair_alike 60 37 refl refl refl raw text j)
    (λ e. alike_whole Perl 2 2 raw text (pair_reaches 60 37 refl refl refl refl raw text j e))
    (λ _. alike_string 0 (string_stop false raw) (string_stop false text) raw text (omega arith) (omega arith) (string_reaches raw text j false))
line_alike InBlock raw text j h =
    alike_block 0 (first_place ends_block_comment raw) (first_place ends_block_comment text) raw text (omega arith) (omega arith) (comment_reaches raw text j) (λ lt. first_place-at ends_block_comment raw lt)

kept_same : (k : Kind) (xs ys : List ℕ) → (is_line_comment_kind k ≡ false → xs ≡ ys) → kept_of k xs ≡ kept_of k ys
kept_same LineComment xs ys f = refl
kept_same k xs ys f = f refl

alike_read : (mode : Mode) (raw : List ℕ) (t : Token) → Alike raw (without_continuations 0 raw) t (token_of mode (without_continuations 0 raw)) → IsRead true mode raw t
unfolding as_read
alike_read mode raw t a = grind (arith, kept_same, joins_is)

-- the first token of a text, of a logical line or as it stands, is that of the text as it is read
pub line_token_read : (is_logical : Bool) (mode : Mode) (text : List ℕ) → 0 < length text → IsRead is_logical mode text (line_token is_logical mode text)
unfolding line_token as_read
line_token_read true mode text h = alike_read mode text (line_token true mode text) (line_alike mode text (without_continuations 0 text) (joins_text text) h)
line_token_read false mode text h = record { kind = refl; next_mode = refl; bytes = refl; following = refl }

pub read_by_value : (is_logical : Bool) (mode : Mode) (text : List ℕ) (t : Token) → 0 < length text → t ≡ line_token is_logical mode text → IsRead is_logical mode text t
read_by_value is_logical mode text t h e = subst (λ u. IsRead is_logical mode text u) (sym e) (line_token_read is_logical mode text h)

-- a continuation
pub continued : (text : List ℕ) (n : ℕ) → n ≡ continuation_len text → n ≢ 0 → (let t : Token = record { kind = LineEnd; len = n + 1; next_mode = Plain } in t) ≡ line_token true Plain text
unfolding line_token whole
continued text n e h = ap (whole LineEnd) (ap (λ i. i + 1) e) ∙ sym (cond-false _ _ _ (ne_eqb (continuation_len text) 0 (λ z. h (e ∙ z))))

pub continued_inside : (text : List ℕ) (n : ℕ) → 0 < length text → n ≡ continuation_len text → n + 1 ≤ length text
continued_inside text n h e = omega (arith, (begins_with text h).inside)
