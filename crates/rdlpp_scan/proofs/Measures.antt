-- A body or a default text read token by token: its length and its bytes, as they are counted and copied.
use Rattle.std.proofs.Common.{◌≡◌, ℕ, zero, suc, ◌+◌, ◌-◌, ◌<◌, Bool, true, false, cond, List, [], ◌∷◌, ◌++◌, length, take, drop, eqb, Option, Some, None, Result, Ok, Err, refl, ap, sym, ◌∙◌, subst, arith, append_assoc, append-nil, one-add, ◌&&◌, get_or, ◌≤◌, not, ◌||◌, OnSome, IfSome, IfNone, ne_eqb, length-drop, take-append-drop, take-suc}
use Rattle.std.specs.List.{prefix_len}
use Rattle.std.specs.Result.{result_unwrap_or}
use Rattle.std.proofs.lemmas.Bool.{cond-false, false≢true, cond-true, and_from, and_left, and_parts, and_right, cond_both, not-true, or_parts, false_from_ne_true}
use Rattle.memchr.specs.Find.{IsFirstByte, is_byte2}
use Rattle.rdlpp_scan.specs.declared.token.LexFault.{LexFault}
use Rattle.rdlpp_scan.specs.KeptText.{onto_trimmed, without_end, trimmed_of, Cleared, Sound, Unsound, onto, begun, trimmed_left, trimmed_len, text_after, IsNext, len_from, ended_len, bytes_left, found_left, is_sound, told, stops_token, level_by, read_by, left_in, cleared, ends_default, trims}
use Rattle.rdlpp_scan.specs.Continuations.{as_read, without_continuations}
use Rattle.rdlpp_scan.specs.declared.token.Kind.{Kind}
use Rattle.rdlpp_scan.specs.declared.token.Kind.TheVariants.{LineComment, Closer, Comma, Perl as PerlKind}
use Rattle.rdlpp_scan.specs.declared.token.Mode.{Mode}
use Rattle.rdlpp_scan.specs.declared.token.Token.{Token}
use Rattle.rdlpp_scan.specs.declared.token.LexFault.TheVariants.{Perl}
use Rattle.rdlpp_scan.specs.Comments.{is_line_comment}
use Rattle.rdlpp_scan.specs.Tokens.{token_of, tokens_from, string_token, whole}
use Rattle.rdlpp_scan.specs.LexFaults.{is_perl, open_fault, fault_of_tokens, lex_fault_from}
use Rattle.rdlpp_scan.proofs.TokenLens.{token_of-part, tokens_from-step, fault-next, fault-perl}
use Rattle.rdlpp_scan.specs.LineTokens.{kept_of, IsRead}
use Rattle.rdlpp_scan.specs.declared.kept_text.KeptBytes.{KeptBytes}
use Rattle.rdlpp_scan.specs.declared.token.Mode.TheVariants.{Plain, InStr, InBlock}
use Rattle.rdlpp_scan.specs.KeptBytes.{left, left_after, IsAdvanced}
use Rattle.rdlpp_scan.proofs.Joins.{reads_first, none_first, no_joint_at, joins_text, first_alike}
use Rattle.rdlpp_scan.specs.Bytes.{begins_line_comment}
use Rattle.rdlpp_scan.specs.Ordinary.{is_plain_kind}
use Rattle.rdlpp_scan.proofs.StopKinds.{Row, AtPerl, AtLineComment, AtBlockComment, AtString, AtBack, AtBare, AtPlain, block_token-kind, string_token-kind, token_of-row}
use Rattle.rdlpp_scan.specs.OnePiece.{is_one_piece, is_piece_byte}

-- The length of a body, and its bytes, as they are counted and copied one after another.

some_length : (c : ℕ) (cs : List ℕ) → eqb (length (c ∷ cs)) 0 ≡ false
some_length c cs = ne_eqb (length (c ∷ cs)) 0 (λ e. absurd (omega arith))

sum_more : (count n : ℕ) → count + 1 + suc n ≡ count + suc (suc n)
sum_more count n = omega arith

-- a length that was measured, and the fault that is there in its place
abbrev pub ok_len : ℕ → Result ℕ LexFault
ok_len n = Ok n

abbrev no_len : LexFault → Result ℕ LexFault
no_len fault = Err fault

-- what was measured is the length of what is left
pub left_len : (class : ℕ → Bool) (c : Cleared) (len : ℕ) → trimmed_len class c ≡ Ok len → length (trimmed_left class c) ≡ len
unfolding trimmed_len trimmed_left
left_len class (Sound rest last) len e = cc
left_len class (Unsound fault) len e = absurd (cc)

module _ (class : ℕ → Bool) where
  pub skip_blank : (old new : Cleared) (b : ℕ) → old ≡ onto (b ∷ []) new → class b ≡ true → begun class old ≡ begun class new
  unfolding onto begun
  skip_blank old (Sound rest last) b e h =
      ap (begun class) e
      ∙ (ap (λ (t : Bool). Sound (drop (cond t (1 + prefix_len class rest) 0) (b ∷ rest)) last) h
      ∙ ap (λ (n : ℕ). Sound (drop n (b ∷ rest)) last) (let n : 1 + prefix_len class rest ≡ suc (prefix_len class rest) = omega arith in n))
  skip_blank old (Unsound fault) b e h = ap (begun class) e

  pub stop_blank : (old new : Cleared) (b : ℕ) → old ≡ onto (b ∷ []) new → class b ≡ false → begun class old ≡ onto (b ∷ []) new
  unfolding onto begun
  stop_blank old (Sound rest last) b e h = ap (begun class) e ∙ ap (λ (t : Bool). Sound (drop (cond t (1 + prefix_len class rest) 0) (b ∷ rest)) last) h
  stop_blank old (Unsound fault) b e h = ap (begun class) e

  pub none_blank : (old : Cleared) (tail : List ℕ) → old ≡ Sound [] tail → begun class old ≡ Sound [] tail
  unfolding begun
  none_blank old tail e = ap (begun class) e

  pub fault_blank : (old : Cleared) (fault : LexFault) → old ≡ Unsound fault → begun class old ≡ Unsound fault
  unfolding begun
  fault_blank old fault e = ap (begun class) e

  by_blank : (count end b : ℕ) (t : Bool) → cond t end (count + 1) ≡ cond (eqb (length (cond t (let n : List ℕ = [] in n) (b ∷ []))) 0) end (count + length (cond t (let n : List ℕ = [] in n) (b ∷ [])))
  by_blank count end b true = refl
  by_blank count end b false = refl

  one_more : (count end b : ℕ) (rest : List ℕ) → cond (eqb (length rest) 0) (cond (class b) end (count + 1)) (count + 1 + length rest) ≡ cond (eqb (length (onto_trimmed class b rest)) 0) end (count + length (onto_trimmed class b rest))
  unfolding onto_trimmed
  one_more count end b [] = by_blank count end b (class b)
  one_more count end b (c ∷ cs) =
      cond-false _ _ _ (some_length c cs) ∙ (sum_more count (length cs) ∙ sym (cond-false _ _ _ (some_length b (c ∷ cs))))

  -- how long a text is without the blanks at its end, by whether anything is left
  len_without : (count end : ℕ) (ys : List ℕ) → len_from class count end ys ≡ cond (eqb (length (without_end class ys)) 0) end (count + length (without_end class ys))
  unfolding len_from without_end
  len_without count end [] = refl
  len_without count end (b ∷ bs) =
      len_without (count + 1) (cond (class b) end (count + 1)) bs ∙ one_more count end b (without_end class bs)

  one_front : (b : ℕ) (rest : List ℕ) → class b ≡ false → cond (eqb (length rest) 0) 1 (1 + length rest) ≡ length (onto_trimmed class b rest)
  unfolding onto_trimmed
  one_front b [] h = ap (λ (t : Bool). length (cond t (let n : List ℕ = [] in n) (b ∷ []))) (sym h)
  one_front b (c ∷ cs) h = cond-false _ _ _ (some_length c cs) ∙ one-add (length (c ∷ cs))

  total_len : (b : ℕ) (bs : List ℕ) → class b ≡ false → len_from class 1 1 bs ≡ length (without_end class (b ∷ bs))
  unfolding without_end
  total_len b bs h = len_without 1 1 bs ∙ one_front b (without_end class bs) h

  pub none_len : (c : Cleared) (tail : List ℕ) → begun class c ≡ Sound [] tail → Ok 0 ≡ trimmed_len class c
  unfolding begun trimmed_len trimmed_of without_end
  none_len (Sound rest last) tail e = grind arith
  none_len (Unsound fault) tail e = absurd (cc)

  pub fault_len : (c : Cleared) (fault : LexFault) → begun class c ≡ Unsound fault → Err fault ≡ trimmed_len class c
  unfolding begun trimmed_len
  fault_len (Sound rest last) fault e = absurd (cc)
  fault_len (Unsound other) fault e = let same : other ≡ fault = cc in ap (λ (f : LexFault). no_len f) (sym same)

  pub start_len : (c new : Cleared) (b : ℕ) → begun class c ≡ onto (b ∷ []) new → class b ≡ false → ended_len class 1 1 new ≡ trimmed_len class c
  unfolding begun onto ended_len trimmed_len trimmed_of
  start_len (Sound rest last) (Sound following tail) b e h = grind (arith, total_len)
  start_len (Unsound fault) (Unsound other) b e h = let same : fault ≡ other = cc in ap (λ (f : LexFault). no_len f) (sym same)
  start_len _ _ b e h = absurd (cc)

  pub step_len : (count end : ℕ) (old new : Cleared) (b : ℕ) (t : Bool) → old ≡ onto (b ∷ []) new → class b ≡ t → ended_len class (count + 1) (cond t end (count + 1)) new ≡ ended_len class count end old
  unfolding onto ended_len len_from
  step_len count end old (Sound rest last) b t e h =
      ap (λ (x : Bool). ok_len (len_from class (count + 1) (cond x end (count + 1)) rest)) (sym h) ∙ sym (ap (ended_len class count end) e)
  step_len count end old (Unsound fault) b t e h = sym (ap (ended_len class count end) e)

  pub last_len : (count end : ℕ) (old : Cleared) (tail : List ℕ) → old ≡ Sound [] tail → Ok end ≡ ended_len class count end old
  unfolding ended_len len_from
  last_len count end old tail e = sym (ap (ended_len class count end) e)

  pub broken_len : (count end : ℕ) (old : Cleared) (fault : LexFault) → old ≡ Unsound fault → Err fault ≡ ended_len class count end old
  unfolding ended_len
  broken_len count end old fault e = sym (ap (ended_len class count end) e)

  front_one : (b : ℕ) (bs : List ℕ) (t : Bool) → cond t (let n : List ℕ = [] in n) (b ∷ []) ≡ take (length (cond t (let n : List ℕ = [] in n) (b ∷ []))) (b ∷ bs)
  front_one b bs true = refl
  front_one b bs false = refl

  front_step : (b : ℕ) (bs rest : List ℕ) → rest ≡ take (length rest) bs → onto_trimmed class b rest ≡ take (length (onto_trimmed class b rest)) (b ∷ bs)
  unfolding onto_trimmed
  front_step b bs [] e = front_one b bs (class b)
  front_step b bs (c ∷ cs) e = ap (λ (l : List ℕ). b ∷ l) e

  -- a text without the blanks at its end is a front of it
  front_without : (ys : List ℕ) → without_end class ys ≡ take (length (without_end class ys)) ys
  unfolding without_end
  front_without [] = refl
  front_without (b ∷ bs) = front_step b bs (without_end class bs) (front_without bs)

  pub body_front : (c : Cleared) (len : ℕ) → trimmed_len class c ≡ Ok len → trimmed_left class c ≡ take len (bytes_left (begun class c))
  unfolding trimmed_len trimmed_left begun bytes_left trimmed_of
  body_front (Sound rest last) len e = grind (arith, front_without)
  body_front (Unsound fault) len e = absurd (cc)

pub found_next : (old new : Cleared) (o : Option ℕ) (b : ℕ) → IsNext old (Ok o) new → o ≡ Some b → old ≡ onto (b ∷ []) new
unfolding IsNext
found_next old new o b n e = let P : Option ℕ → Type 0 = λ x. IsNext old (Ok x) new in subst P e n

pub none_next : (old new : Cleared) (o : Option ℕ) → IsNext old (Ok o) new → o ≡ None → old ≡ Sound [] (text_after new)
unfolding IsNext
none_next old new o n e = let P : Option ℕ → Type 0 = λ x. IsNext old (Ok x) new in (subst P e n).0

pub same_next : (old new : Cleared) (o : Option ℕ) → IsNext old (Ok o) new → o ≡ None → new ≡ old
unfolding IsNext
same_next old new o n e = let P : Option ℕ → Type 0 = λ x. IsNext old (Ok x) new in (subst P e n).1

-- what stands after what is left doesn't change
pub after_onto : (old new : Cleared) (xs : List ℕ) → old ≡ onto xs new → text_after old ≡ text_after new
unfolding onto text_after
after_onto old (Sound rest last) xs e = ap text_after e
after_onto old (Unsound fault) xs e = ap text_after e

pub after_begun : (class : ℕ → Bool) (c : Cleared) → text_after (begun class c) ≡ text_after c
unfolding begun text_after
after_begun class (Sound rest last) = refl
after_begun class (Unsound fault) = refl

pub fault_next : (old new : Cleared) (fault : LexFault) → IsNext old (Err fault) new → old ≡ Unsound fault
unfolding IsNext
fault_next old new fault n = n

pub next_found : (old new : Cleared) (b : ℕ) → old ≡ onto (b ∷ []) new → IsNext old (Ok (Some b)) new
unfolding IsNext
next_found old new b e = e

pub next_none : (old new : Cleared) → old ≡ Sound [] (text_after new) → new ≡ old → IsNext old (Ok None) new
unfolding IsNext
next_none old new e f = (e, f)

pub next_fault : (old new : Cleared) (fault : LexFault) → old ≡ Unsound fault → IsNext old (Err fault) new
unfolding IsNext
next_fault old new fault e = e

take_none : (n : ℕ) → take n (let l : List ℕ = [] in l) ≡ []
take_none zero = refl
take_none (suc n) = refl

found_sound : (old new : Cleared) (r : Result (Option ℕ) LexFault) → IsNext old r new → is_sound old ≡ true → found_left (result_unwrap_or r None) new ≡ old
unfolding IsNext found_left is_sound
found_sound old new (Ok (Some b)) e s = sym e
found_sound old new (Ok None) e s = sym e.0
found_sound old new (Err fault) e s = absurd (false≢true (sym (ap is_sound e) ∙ s))

pub found_is : (old new : Cleared) (r : Result (Option ℕ) LexFault) (found : Option ℕ) → IsNext old r new → is_sound old ≡ true → found ≡ result_unwrap_or r None → found_left found new ≡ old
found_is old new r found e s f = ap (λ (o : Option ℕ). found_left o new) f ∙ found_sound old new r e s

pub found_some : (found : Option ℕ) (b : ℕ) (following : Cleared) → found ≡ Some b → found_left found following ≡ onto (b ∷ []) following
unfolding found_left
found_some found b following e = ap (λ (o : Option ℕ). found_left o following) e

pub found_none : (found : Option ℕ) (following : Cleared) → found ≡ None → bytes_left (found_left found following) ≡ []
unfolding found_left bytes_left
found_none found following e = ap (λ (o : Option ℕ). bytes_left (found_left o following)) e

pub sound_len : (class : ℕ → Bool) (c start : Cleared) (len : ℕ) → trimmed_len class c ≡ Ok len → start ≡ c → is_sound (begun class start) ≡ true
unfolding trimmed_len is_sound begun
sound_len class (Sound text last) start len e s = ap (λ (x : Cleared). is_sound (begun class x)) s
sound_len class (Unsound fault) start len e s = absurd (cc)

copied_early : (items old more : List ℕ) (n : ℕ) (rest : List ℕ) → rest ≡ [] → items ++ take n rest ≡ old ++ more → items ≡ old ++ more
copied_early items old more n rest h e = sym (append-nil items) ∙ (ap (λ (l : List ℕ). items ++ l) (sym (ap (take n) h ∙ take_none n)) ∙ e)

-- what stands where so many of the bytes to be copied are still to be copied
pub record IsCopied (items old more : List ℕ) (n : ℕ) (rest : Cleared) : Type 0 where
  pub bytes : items ++ take n (bytes_left rest) ≡ old ++ more
  pub sound : is_sound rest ≡ true

pub copied_start : (class : ℕ → Bool) (old : List ℕ) (len : ℕ) (c start rest : Cleared) → trimmed_len class c ≡ Ok len → start ≡ c → rest ≡ begun class start → IsCopied old old (trimmed_left class c) len rest
unfolding is_sound trimmed_len begun
copied_start class old len (Sound text last) start rest e s r = grind (arith, body_front, last)
copied_start class old len (Unsound fault) start rest e s r = absurd (cc)

pub copied_more : (items old more : List ℕ) (len i b : ℕ) (rest following next : Cleared) → i < len → IsCopied items old more (len - i) rest → rest ≡ onto (b ∷ []) following → next ≡ following → IsCopied (items ++ b ∷ []) old more (len - (i + 1)) next
unfolding bytes_left is_sound onto
copied_more items old more len i b rest (Sound bytes last) next h c e f =
    let n : suc (len - (i + 1)) ≡ len - i = omega arith in
    record {
      bytes =
          ap (λ (x : Cleared). (items ++ b ∷ []) ++ take (len - (i + 1)) (bytes_left x)) f
          ∙ (append_assoc items (b ∷ []) (take (len - (i + 1)) bytes)
          ∙ (ap (λ (k : ℕ). items ++ take k (b ∷ bytes)) n
          ∙ (ap (λ (x : Cleared). items ++ take (len - i) (bytes_left x)) (sym e) ∙ c.bytes)));
      sound = ap is_sound f;
    }
copied_more items old more len i b rest (Unsound fault) next h c e f = absurd (false≢true (sym (ap is_sound e) ∙ c.sound))

pub copied_short : (items old more : List ℕ) (n : ℕ) (rest : Cleared) → bytes_left rest ≡ [] → IsCopied items old more n rest → items ≡ old ++ more
copied_short items old more n rest h c = copied_early items old more n (bytes_left rest) h c.bytes

pub shorter_found : (o : Option ℕ) (b m n : ℕ) → OnSome o (m < n) → o ≡ Some b → m < n
shorter_found o b m n h e = let P : Option ℕ → Type 0 = λ x. OnSome x (m < n) in subst P e h

pub blank_found : (class : ℕ → Bool) (o : Option ℕ) (b : ℕ) → IfSome o (λ x. class x ≡ false) → o ≡ Some b → class b ≡ false
blank_found class o b h e = let P : Option ℕ → Type 0 = λ x. IfSome x (λ y. class y ≡ false) in subst P e h

pub sound_after : (rest following : Cleared) (b : ℕ) → rest ≡ onto (b ∷ []) following → is_sound rest ≡ true → is_sound following ≡ true
unfolding is_sound onto
sound_after rest (Sound bytes last) b e s = refl
sound_after rest (Unsound fault) b e s = absurd (false≢true (sym (ap is_sound e) ∙ s))

pub copied_same : (items items' old more : List ℕ) (n n' : ℕ) (rest : Cleared) → items' ≡ items → n' ≡ n → IsCopied items old more n rest → IsCopied items' old more n' rest
copied_same items items' old more n n' rest e f c = rw (e, f) c

-- what stands after a text that is read to its end
pub after_none : (o : Option ℕ) (x y : List ℕ) → IfNone o (x ≡ y) → o ≡ None → x ≡ y
after_none o x y h e = let Q : Option ℕ → Type 0 = λ n. IfNone n (x ≡ y) in subst Q e h

pub after_the_first : (class : ℕ → Bool) (c start new : Cleared) → start ≡ c → new ≡ begun class start → text_after c ≡ text_after new
after_the_first class c start new e f = ap text_after (sym e) ∙ (sym (after_begun class start) ∙ ap text_after (sym f))

pub after_fault : (c : Cleared) (fault : LexFault) → c ≡ Unsound fault → text_after c ≡ []
unfolding text_after
after_fault c fault e = ap text_after e

pub same_joined : (l m : Bool) (x y : List ℕ) → l ≡ m → y ≡ x → as_read l x ≡ as_read m y
same_joined l m x y e f = ap (λ (t : Bool). as_read t x) e ∙ ap (as_read m) (sym f)

-- A text is read token by token.

pub onto_none : (c : Cleared) → onto [] c ≡ c
unfolding onto
onto_none (Sound rest following) = refl
onto_none (Unsound fault) = refl

pub onto_both : (xs ys : List ℕ) (c : Cleared) → onto xs (onto ys c) ≡ onto (xs ++ ys) c
unfolding onto
onto_both xs ys (Sound rest following) = ap (λ (l : List ℕ). Sound l following) (sym (append_assoc xs ys rest))
onto_both xs ys (Unsound fault) = refl

-- a byte of the token that is read
pub kept_next : (text : List ℕ) (b : ℕ) (after : List ℕ) (c : Cleared) → text ≡ b ∷ after → onto text c ≡ onto (b ∷ []) (onto after c)
kept_next text b after c e = ap (λ l. onto l c) e ∙ sym (onto_both (b ∷ []) after c)

pub kept_none : (text : List ℕ) (c : Cleared) → text ≡ [] → onto text c ≡ c
kept_none text c e = ap (λ l. onto l c) e ∙ onto_none c

-- the end of a text
pub left_end : (l : Option ℕ) (mode : Mode) (text : List ℕ) → text ≡ [] → left_in l mode text ≡ told (open_fault mode) []
unfolding left_in tokens_from
left_end l mode text e = ap (left_in l mode) e

-- what is left by the first token
abbrev pub by_first : Option ℕ → Token → List ℕ → Cleared
by_first l u text = cond (is_perl u.kind) (Unsound Perl) (cond (stops_token l u.kind (get_or text 0 0)) (Sound [] text) (onto (kept_of u.kind (take u.len text)) (left_in (level_by l u.kind) u.next_mode (drop u.len text))))

pub left_first : (l : Option ℕ) (mode : Mode) (text : List ℕ) → 0 < length text → left_in l mode text ≡ by_first l (token_of mode text) text
unfolding left_in
left_first l mode text h = ap (λ ts. read_by l mode ts text) (tokens_from-step mode text h (token_of-part mode text h).not_empty)

joined_some : (is_logical : Bool) (raw : List ℕ) → 0 < length raw → 0 < length (as_read is_logical raw)
joined_some is_logical raw h = subst (λ x. 0 < length x) (sym (reads_first is_logical raw h).first) (omega arith)

closer_alike : (is_logical : Bool) (raw : List ℕ) → eqb (get_or raw 0 0) 41 ≡ eqb (get_or (as_read is_logical raw) 0 0) 41
unfolding as_read
closer_alike true raw = first_alike (λ x. eqb x 41) refl raw (without_continuations 0 raw) (joins_text raw)
closer_alike false raw = refl

ends_alike : (k : Kind) (x y : ℕ) → eqb x 41 ≡ eqb y 41 → ends_default k x ≡ ends_default k y
unfolding ends_default
ends_alike Closer x y e = e
ends_alike Comma x y e = refl
ends_alike k x y e = refl

stops_alike : (l : Option ℕ) (k : Kind) (x y : ℕ) → eqb x 41 ≡ eqb y 41 → stops_token l k x ≡ stops_token l k y
stops_alike None k x y e = refl
stops_alike (Some n) k x y e = ap (λ q. eqb n 0 && q) (ends_alike k x y e)

joined_kept : (is_logical : Bool) (k : Kind) (xs : List ℕ) → as_read is_logical (kept_of k xs) ≡ kept_of k (as_read is_logical xs)
joined_kept is_logical LineComment xs = none_first is_logical [] refl
joined_kept is_logical k xs = refl

-- a token of a text that was read
pub record IsToken (is_logical : Bool) (mode : Mode) (raw : List ℕ) (t : Token) : Type 0 where
  pub some : 0 < length raw
  pub read : IsRead is_logical mode raw t

pub left_perl : (is_logical : Bool) (l : Option ℕ) (mode : Mode) (raw : List ℕ) (t : Token) → IsToken is_logical mode raw t → is_perl t.kind ≡ true → left_in l mode (as_read is_logical raw) ≡ Unsound Perl
left_perl is_logical l mode raw t k p = left_first l mode (as_read is_logical raw) (joined_some is_logical raw k.some) ∙ cond-true _ _ _ (ap is_perl (sym k.read.kind) ∙ p)

pub left_stop : (is_logical : Bool) (l : Option ℕ) (mode : Mode) (raw : List ℕ) (t : Token) → IsToken is_logical mode raw t → is_perl t.kind ≡ false → stops_token l t.kind (get_or raw 0 0) ≡ true → left_in l mode (as_read is_logical raw) ≡ Sound [] (as_read is_logical raw)
left_stop is_logical l mode raw t k p s = grind (arith, left_first, joined_some, cond-false, cond-true, stops_alike, closer_alike)

pub left_on : (is_logical : Bool) (l m : Option ℕ) (mode : Mode) (raw here token rest : List ℕ) (t : Token) → IsToken is_logical mode raw t → is_perl t.kind ≡ false → stops_token l t.kind (get_or raw 0 0) ≡ false → m ≡ level_by l t.kind → here ≡ take t.len raw → token ≡ kept_of t.kind here → rest ≡ drop t.len raw → onto (as_read is_logical token) (left_in m t.next_mode (as_read is_logical rest)) ≡ left_in l mode (as_read is_logical raw)
left_on is_logical l m mode raw here token rest t k p s e f g h = grind (arith, joined_kept, left_first, joined_some, cond-false, stops_alike, closer_alike)

-- a token but for a `//` comment is kept as it stands
pub kept_own : (k : Kind) (xs : List ℕ) → is_line_comment k ≡ false → kept_of k xs ≡ xs
unfolding is_line_comment
kept_own LineComment xs h = absurd (false≢true (sym h))
kept_own _ xs h = refl

-- a text that is at its end
pub stop_next : (old new : Cleared) (text : List ℕ) → new ≡ old → new ≡ Sound [] text → IsNext old (Ok None) new
unfolding IsNext text_after
stop_next old new text same e = (sym same ∙ (e ∙ ap (Sound []) (sym (ap text_after e))), same)

pub stop_after : (new : Cleared) (text : List ℕ) → new ≡ Sound [] text → text_after new ≡ text
unfolding text_after
stop_after new text e = ap text_after e

pub left_new : (is_logical : Bool) (text : List ℕ) (l m : Option ℕ) → l ≡ m → onto (as_read is_logical []) (left_in l Plain (as_read is_logical text)) ≡ cleared m (as_read is_logical text)
unfolding cleared
left_new is_logical text l m e = kept_none (as_read is_logical []) _ (none_first is_logical [] refl) ∙ ap (λ x. left_in x Plain (as_read is_logical text)) e

pub some_from : (n : ℕ) → eqb n 0 ≡ false → 0 < n
some_from zero e = absurd (false≢true (sym e))
some_from (suc n) e = omega arith

-- the end of a text, in a mode
pub fault_end : (l : Option ℕ) (mode : Mode) (text : List ℕ) (found : Option LexFault) (fault : LexFault) → text ≡ [] → found ≡ open_fault mode → found ≡ Some fault → left_in l mode text ≡ Unsound fault
fault_end l mode text found fault t e f = left_end l mode text t ∙ ap (λ o. told o []) (sym e ∙ f)

pub sound_end : (l : Option ℕ) (mode : Mode) (text : List ℕ) (found : Option LexFault) → text ≡ [] → found ≡ open_fault mode → found ≡ None → left_in l mode text ≡ Sound [] text
sound_end l mode text found t e f = left_end l mode text t ∙ (ap (λ o. told o []) (sym e ∙ f) ∙ ap (Sound []) (sym t))

-- a reader that went on
pub record IsMore (old new : KeptBytes) : Type 0 where
  pub same : left new ≡ left_after old
  pub less : length new.rest.now < length old.rest.now

pub more : (old new : KeptBytes) (x : Bool) → IsAdvanced old (Ok x) new → x ≡ true → IsMore old new
unfolding IsAdvanced
more old new true a e = record { same = a.0; less = a.1 }
more old new false a e = absurd (false≢true e)

-- a reader at the end
pub record IsLast (old new : KeptBytes) : Type 0 where
  pub end : left_after old ≡ Sound [] (as_read old.is_logical old.rest.now)
  pub same : new ≡ old

pub last : (old new : KeptBytes) (x : Bool) → IsAdvanced old (Ok x) new → x ≡ false → IsLast old new
unfolding IsAdvanced
last old new true a e = absurd (false≢true (sym e))
last old new false a e = record { end = a.0; same = a.1 }

pub last_left : (old new : KeptBytes) → IsLast old new → as_read old.is_logical old.token.now ≡ [] → left new ≡ Sound [] (as_read old.is_logical old.rest.now)
last_left old new a e = ap left a.same ∙ (kept_none (as_read old.is_logical old.token.now) (left_after old) e ∙ a.end)

pub last_after : (old new : KeptBytes) → IsLast old new → as_read old.is_logical old.token.now ≡ [] → text_after (left new) ≡ as_read new.is_logical new.rest.now
last_after old new a e = stop_after (left new) (as_read old.is_logical old.rest.now) (last_left old new a e) ∙ sym (ap (λ x. as_read x.is_logical x.rest.now) a.same)

pub passed_after : (old new : KeptBytes) → IsMore old new → text_after (left_after new) ≡ text_after (left_after old)
passed_after old new a = sym (after_onto (left new) (left_after new) (as_read new.is_logical new.token.now) refl) ∙ ap text_after a.same

pub ended_after : (old new : KeptBytes) → IsLast old new → old.is_logical ≡ false → new.rest.now ≡ text_after (left_after old)
unfolding text_after as_read
ended_after old new a e =
    ap (λ (x : KeptBytes). x.rest.now) a.same ∙ sym (ap text_after a.end ∙ ap (λ l. as_read l old.rest.now) e)

-- A text with neither a `\` nor a `/` is kept as it stands.

-- a search that finds neither byte
pub piece_none : (text : List ℕ) → IsFirstByte (is_byte2 92 47) text None → is_one_piece text ≡ true
unfolding is_piece_byte
piece_none [] none = refl
piece_none (b ∷ bs) none =
    and_from _ _ (ap not (false_from_ne_true (eqb b 92 || eqb b 47) (none 0 (omega arith) (omega arith)))) (piece_none bs (λ k low lt. none (suc k) (omega arith) (omega arith)))

-- and one that finds one
pub piece_some : (text : List ℕ) (k : ℕ) → k < length text → is_byte2 92 47 (get_or text k 0) ≡ true → is_one_piece text ≡ false
unfolding is_piece_byte
piece_some [] k lt h = absurd (omega arith)
piece_some (b ∷ bs) zero lt h = ap (λ t. not t && is_one_piece bs) h
piece_some (b ∷ bs) (suc k) lt h = and_right (is_piece_byte b) _ (piece_some bs k (omega arith) h)

record IsPieceByte (b : ℕ) : Type 0 where
  backslash : eqb b 92 ≡ false
  slash : eqb b 47 ≡ false

piece_byte : (b : ℕ) → is_piece_byte b ≡ true → IsPieceByte b
unfolding is_piece_byte
piece_byte b h = let p = or_parts (eqb b 92) (eqb b 47) (not-true _ h) in record { backslash = p.0; slash = p.1 }

piece_after : (n : ℕ) (text : List ℕ) → is_one_piece text ≡ true → is_one_piece (drop n text) ≡ true
piece_after (suc n) (b ∷ bs) h = piece_after n bs (and_parts (is_piece_byte b) _ h).1
piece_after _ text h = h

-- it has no continuation
joined_piece : (text : List ℕ) → is_one_piece text ≡ true → as_read true text ≡ text
unfolding as_read without_continuations
joined_piece [] h = refl
joined_piece (b ∷ bs) h =
    let p = and_parts (is_piece_byte b) (is_one_piece bs) h in
    no_joint_at b bs (piece_byte b p.0).backslash ∙ ap (λ xs. b ∷ xs) (joined_piece bs p.1)

pub piece_joined : (is_logical : Bool) (text : List ℕ) → is_one_piece text ≡ true → as_read is_logical text ≡ text
unfolding as_read
piece_joined true text h = joined_piece text h
piece_joined false text h = refl

-- no token is a `//` comment where none begins
plain_none : (k : Kind) → is_plain_kind k ≡ true → is_line_comment k ≡ false
unfolding is_plain_kind is_line_comment
plain_none LineComment h = absurd (false≢true h)
plain_none _ h = refl

kind_none : (bs : List ℕ) (t : Token) → begins_line_comment bs ≡ false → Row bs t → is_line_comment t.kind ≡ false
unfolding is_line_comment is_plain_kind whole
kind_none bs t none (AtPerl h e) = ap (λ (u : Token). is_line_comment u.kind) e
kind_none bs t none (AtLineComment h e) = absurd (false≢true (sym none ∙ h))
kind_none bs t none (AtBlockComment h e) = ap is_line_comment e
kind_none bs t none (AtString h e) = ap is_line_comment e
kind_none bs t none (AtBack h e) = ap (λ (u : Token). is_line_comment u.kind) e
kind_none bs t none (AtBare h l e) = ap (λ (u : Token). is_line_comment u.kind) e
kind_none bs t none (AtPlain h e) = plain_none t.kind h

no_comment : (m : Mode) (bs : List ℕ) → begins_line_comment bs ≡ false → is_line_comment (token_of m bs).kind ≡ false
unfolding token_of whole is_line_comment
no_comment Plain bs none = kind_none bs (token_of Plain bs) none (token_of-row bs)
no_comment InStr bs none = cond_both _ (whole PerlKind 2) (string_token 0 bs) (λ t. is_line_comment t.kind ≡ false) (λ _. refl) (λ _. ap is_line_comment (string_token-kind 0 bs))
no_comment InBlock bs none = ap is_line_comment (block_token-kind 0 bs)

onto_told : (xs ys : List ℕ) (fault : Option LexFault) → onto xs (told fault ys) ≡ told fault (xs ++ ys)
unfolding onto
onto_told xs ys None = refl
onto_told xs ys (Some f) = refl

piece_first : (b : ℕ) (bs : List ℕ) → eqb b 47 ≡ false → begins_line_comment (b ∷ bs) ≡ false
unfolding begins_line_comment
piece_first b bs h = and_left _ _ h

-- what is left of it is all of it, or its first fault
piece_left : (fuel : ℕ) (m : Mode) (text : List ℕ) → length text ≤ fuel → is_one_piece text ≡ true → left_in None m text ≡ told (lex_fault_from m text) text
unfolding left_in lex_fault_from tokens_from fault_of_tokens
piece_left fuel m [] le h = refl
piece_left zero m (b ∷ bs) le h = absurd (omega arith)
piece_left (suc fuel) m (b ∷ bs) le h =
    let T = b ∷ bs in
    let t = token_of m T in
    let some : 0 < length T = omega arith in
    let part = token_of-part m T some in
    let after = drop t.len T in
    let slash = (piece_byte b (and_parts (is_piece_byte b) (is_one_piece bs) h).0).slash in
    let later : left_in None t.next_mode after ≡ told (lex_fault_from t.next_mode after) after = piece_left fuel t.next_mode after (omega (arith, length-drop t.len T, part.not_empty)) (piece_after t.len T h) in
    let own : kept_of t.kind (take t.len T) ≡ take t.len T = kept_own t.kind (take t.len T) (no_comment m T (piece_first b bs slash)) in
    let P : Bool → Type 0 = λ p. is_perl t.kind ≡ p → cond p (Unsound Perl) (onto (kept_of t.kind (take t.len T)) (left_in None t.next_mode after)) ≡ told (lex_fault_from m T) T in
    let perl : P true = λ e. sym (ap (λ f. told f T) (fault-perl m T some e)) in
    let sound : P false = λ e.
    ap (λ xs. onto xs (left_in None t.next_mode after)) own
    ∙ (ap (onto (take t.len T)) later
    ∙ (onto_told (take t.len T) after (lex_fault_from t.next_mode after)
    ∙ (ap (told (lex_fault_from t.next_mode after)) (take-append-drop t.len T) ∙ sym (ap (λ f. told f T) (fault-next m T some e))))) in
    left_first None m T some ∙ elim (is_perl t.kind) as P [ true ↦ perl | false ↦ sound ] refl

pub piece_cleared : (text : List ℕ) → is_one_piece text ≡ true → cleared None text ≡ told (lex_fault_from Plain text) text
unfolding cleared
piece_cleared text h = piece_left (length text) Plain text (omega arith) h

-- the same of the text of a logical line
piece_told : (is_logical : Bool) (text : List ℕ) → is_one_piece text ≡ true → cleared None (as_read is_logical text) ≡ told (lex_fault_from Plain text) text
piece_told is_logical text h = ap (cleared None) (piece_joined is_logical text h) ∙ piece_cleared text h

pub piece_fault : (is_logical : Bool) (text : List ℕ) (fault : LexFault) → is_one_piece text ≡ true → lex_fault_from Plain text ≡ Some fault → trimmed_len (trims false) (cleared None (as_read is_logical text)) ≡ Err fault
unfolding trimmed_len
piece_fault is_logical text fault h e = ap (trimmed_len (trims false)) (piece_told is_logical text h ∙ ap (λ o. told o text) e)

pub piece_sound : (is_logical : Bool) (text : List ℕ) → is_one_piece text ≡ true → lex_fault_from Plain text ≡ None → cleared None (as_read is_logical text) ≡ Sound text []
piece_sound is_logical text h none = piece_told is_logical text h ∙ ap (λ o. told o text) none

pub sound_measured : (c : Cleared) (text part : List ℕ) → c ≡ Sound text [] → part ≡ trimmed_of (trims false) text → trimmed_len (trims false) c ≡ Ok (length part)
unfolding trimmed_len
sound_measured c text part e p = ap (trimmed_len (trims false)) e ∙ ap (λ xs. ok_len (length xs)) (sym p)

pub sound_nothing : (is_logical : Bool) (c : Cleared) (text : List ℕ) → c ≡ Sound text [] → text_after c ≡ as_read is_logical []
unfolding text_after
sound_nothing is_logical c text e = ap text_after e ∙ sym (none_first is_logical [] refl)

-- what is left of a text that was measured is its part between the blanks at both ends
pub measured_part : (is_logical : Bool) (text : List ℕ) (len : ℕ) → is_one_piece text ≡ true → trimmed_len (trims false) (cleared None (as_read is_logical text)) ≡ Ok len
    → trimmed_left (trims false) (cleared None (as_read is_logical text)) ≡ trimmed_of (trims false) text
unfolding trimmed_len trimmed_left
measured_part is_logical text len h e = grind (arith, piece_told)

pub part_len : (is_logical : Bool) (text part : List ℕ) (len : ℕ) → is_one_piece text ≡ true → trimmed_len (trims false) (cleared None (as_read is_logical text)) ≡ Ok len → part ≡ trimmed_of (trims false) text → length part ≡ len
unfolding trimmed_len
part_len is_logical text part len h e p = grind (arith, piece_told)

-- a text without the bytes of a class at its end, by its last byte
end_last : (class : ℕ → Bool) (xs : List ℕ) (b : ℕ) → class b ≡ true → without_end class (xs ++ b ∷ []) ≡ without_end class xs
unfolding without_end onto_trimmed
end_last class [] b h = cond-true _ _ _ h
end_last class (x ∷ xs) b h = ap (onto_trimmed class x) (end_last class xs b h)

end_other : (class : ℕ → Bool) (xs : List ℕ) (b : ℕ) → class b ≡ false → without_end class (xs ++ b ∷ []) ≡ xs ++ b ∷ []
unfolding without_end onto_trimmed
end_other class [] b h = cond-false _ _ _ h
end_other class (x ∷ []) b h = ap (onto_trimmed class x) (end_other class [] b h)
end_other class (x ∷ y ∷ xs) b h = ap (onto_trimmed class x) (end_other class (y ∷ xs) b h)

last_is : (at : ℕ) (xs : List ℕ) → 0 < at → at ≤ length xs → take at xs ≡ take (at - 1) xs ++ get_or xs (at - 1) 0 ∷ []
last_is at xs some within = let same : at ≡ suc (at - 1) = omega arith in ap (λ (k : ℕ). take k xs) same ∙ take-suc xs (at - 1) 0 (omega arith)

pub end_blank : (class : ℕ → Bool) (at : ℕ) (xs : List ℕ) → 0 < at → at ≤ length xs → class (get_or xs (at - 1) 0) ≡ true → without_end class (take at xs) ≡ without_end class (take (at - 1) xs)
end_blank class at xs some within h = ap (without_end class) (last_is at xs some within) ∙ end_last class (take (at - 1) xs) (get_or xs (at - 1) 0) h

pub end_kept : (class : ℕ → Bool) (at : ℕ) (xs : List ℕ) → 0 < at → at ≤ length xs → class (get_or xs (at - 1) 0) ≡ false → without_end class (take at xs) ≡ take at xs
end_kept class at xs some within h =
    ap (without_end class) (last_is at xs some within) ∙ (end_other class (take (at - 1) xs) (get_or xs (at - 1) 0) h ∙ sym (last_is at xs some within))
