-- The parts of a call in a text are those of the definition, trimmed.
use Rattle.std.proofs.Common.{◌≡◌, ℕ, suc, ◌+◌, Bool, true, false, cond, List, [], ◌∷◌, ◌++◌, drop, reverse, refl, sym, ap, ◌∙◌, arith, ◌≤◌, zero, ◌-◌, length, take, All, subst, append_assoc, nat_lt, drop-drop, length-append, length-drop, length-take}
use Rattle.std.specs.List.{prefix_len}
use Rattle.std.proofs.lemmas.Bool.{false≢true}
use Rattle.std.proofs.lemmas.Bool.Decides.{nat_tests}
use Rattle.std.proofs.lemmas.Grind.{flat_map-append}
use Rattle.std.proofs.lemmas.List.{reverse-append}
use Rattle.std.proofs.lemmas.List.Elements.{All-cons, All-head, All-tail}
use Rattle.rdlpp_scan.specs.SourceTokens.{SourceToken}
use Rattle.rdlpp_scan.specs.declared.token.Mode.TheVariants.{Plain}
use Rattle.rdlpp_meaning.specs.Actuals.{Cut, Role, Space, after_leading_space, is_space, level_after, token_role, trimmed}
use Rattle.rdlpp_meaning.specs.CallScan.{Split, all_parts, split, split_by}
use Rattle.rdlpp_meaning.specs.Expansion.{bytes_of}
use Rattle.rdlpp_meaning.specs.Substitution.{body_tokens}
use Rattle.rdlpp_meaning.specs.TextTokens.{text_tokens}
use Rattle.rdlpp_meaning.proofs.KeptTexts.{body_text, closes_text, first_after, is_one_role, text_after, text_cut, text_nil, text_one, text_step}
use Rattle.rdlpp_texts.specs.CallParts.{Follows, IsNextPart, ends_call, ends_part, ends_text, inner_size, inner_tokens, part_from, parts_in, space_from}
use Rattle.rdlpp_texts.specs.declared.parts.Part.{Part}
use Rattle.rdlpp_texts.specs.declared.parts.PartEnd.{PartEnd}
use Rattle.rdlpp_texts.specs.declared.parts.PartEnd.TheVariants.{Comma, Last}

-- Trimming from the front: things without the white space at their end, and what is after white space.

-- a thing in front of those without white space at their end
unfoldable pub solid_front : {A : Type 0} → Bool → A → List A → List A
solid_front true x [] = []
solid_front true x (y ∷ ys) = x ∷ y ∷ ys
solid_front false x ys = x ∷ ys

-- things without the white space at their end
unfoldable pub solid : {A : Type 0} → (A → Role) → List A → List A
solid role [] = []
solid role (x ∷ xs) = solid_front (is_space (role x)) x (solid role xs)

-- a thing in front of those that end with one
solid_last : {A : Type 0} (b : Bool) (x z : A) (ys : List A) → solid_front b x (ys ++ z ∷ []) ≡ x ∷ (ys ++ z ∷ [])
unfolding solid_front
solid_last true x z [] = refl
solid_last _ x z ys = refl

-- a last thing after what is after white space
unfoldable last_after : {A : Type 0} → Bool → List A → A → List A
last_after true [] x = []
last_after false [] x = x ∷ []
last_after b (y ∷ ys) x = y ∷ (ys ++ x ∷ [])

-- white space in front is dropped of a thing and the things after it, by whether it is white space
space_by : {A : Type 0} (b : Bool) (x : A) (n : ℕ) (xs : List A) → drop (cond b (1 + n) 0) (x ∷ xs) ≡ cond b (drop n xs) (x ∷ xs)
space_by true x n xs = let e : 1 + n ≡ suc n = omega arith in ap (λ i. drop i (x ∷ xs)) e
space_by false x n xs = refl

-- white space in front is dropped of a thing and the things after it
pub space_front : {A : Type 0} (role : A → Role) (x : A) (xs : List A) → after_leading_space role (x ∷ xs) ≡ cond (is_space (role x)) (after_leading_space role xs) (x ∷ xs)
unfolding after_leading_space
space_front role x xs = space_by (is_space (role x)) x (prefix_len (λ y. is_space (role y)) xs) xs

-- of one thing, by whether it is white space
one_by : {A : Type 0} (b : Bool) (x : A) → cond b [] (x ∷ []) ≡ last_after b [] x
unfolding last_after
one_by true x = refl
one_by false x = refl

-- a last thing after a thing that isn't white space
last_more : {A : Type 0} (b : Bool) (y : A) (ys : List A) (x : A) → y ∷ (ys ++ x ∷ []) ≡ last_after b (y ∷ ys) x
unfolding last_after
last_more true y ys x = refl
last_more false y ys x = refl

-- nothing is after white space of nothing
pub space_nil : {A : Type 0} (role : A → Role) → after_leading_space {A = A} role [] ≡ []
unfolding after_leading_space
space_nil role = refl

-- what is after white space, with one more thing at the end, by whether the first thing is white space
space_last_by : {A : Type 0} (role : A → Role) (b : Bool) (y : A) (ys : List A) (x : A)
    → after_leading_space role (ys ++ x ∷ []) ≡ last_after (is_space (role x)) (after_leading_space role ys) x
    → cond b (after_leading_space role (ys ++ x ∷ [])) (y ∷ (ys ++ x ∷ [])) ≡ last_after (is_space (role x)) (cond b (after_leading_space role ys) (y ∷ ys)) x
space_last_by role true y ys x e = e
space_last_by role false y ys x e = last_more (is_space (role x)) y ys x

-- what is after white space, with one more thing at the end
space_last : {A : Type 0} (role : A → Role) (ys : List A) (x : A) → after_leading_space role (ys ++ x ∷ []) ≡ last_after (is_space (role x)) (after_leading_space role ys) x
space_last {A = A} role [] x = grind (arith, space_front, space_nil, one_by)
space_last {A = A} role (y ∷ ys) x = grind (arith, space_front, space_last_by, (space_last role ys x))

-- the reverse of what ends with a thing that may be white space
last_reverse : {A : Type 0} (b : Bool) (zs : List A) (x : A) (s : List A) → reverse zs ≡ s → reverse (last_after b zs x) ≡ solid_front b x s
unfolding last_after solid_front
last_reverse {A = A} true [] x s e = ap (λ (ys : List A). solid_front true x ys) e
last_reverse {A = A} false [] x s e = ap (λ (ys : List A). x ∷ ys) e
last_reverse {A = A} true (y ∷ ys) x s e =
    reverse-append (y ∷ ys) (x ∷ [])
    ∙ sym (ap (λ (zs : List A). solid_front true x zs) (sym e ∙ reverse-append (y ∷ []) ys) ∙ solid_last true x y (reverse ys)
    ∙ ap (λ (zs : List A). x ∷ zs) (sym (reverse-append (y ∷ []) ys)))
last_reverse {A = A} false (y ∷ ys) x s e = reverse-append (y ∷ ys) (x ∷ []) ∙ ap (λ (zs : List A). x ∷ zs) e

-- things without the white space at their end, by their reverse
solid_is : {A : Type 0} (role : A → Role) (xs : List A) → reverse (after_leading_space role (reverse xs)) ≡ solid role xs
unfolding solid
solid_is {A = A} role [] = ap (λ (ys : List A). reverse ys) (space_nil role)
solid_is {A = A} role (x ∷ xs) =
    ap (λ (ys : List A). reverse (after_leading_space role ys)) (reverse-append (x ∷ []) xs)
    ∙ ap (λ (ys : List A). reverse ys) (space_last role (reverse xs) x)
    ∙ last_reverse (is_space (role x)) (after_leading_space role (reverse xs)) x (solid role xs) (solid_is role xs)

-- trimmed things are those after white space, without it at their end
pub trimmed_is : {A : Type 0} (role : A → Role) (xs : List A) → trimmed role xs ≡ solid role (after_leading_space role xs)
unfolding trimmed
trimmed_is role xs = solid_is role (after_leading_space role xs)

-- things are those without the white space at their end, and then that
pub record HasSolid {A : Type 0} (role : A → Role) (xs : List A) : Type 0 where
  pub tail : List A
  pub whole : xs ≡ solid role xs ++ tail

-- a thing in front of them, by whether it is white space
solid_front_whole : {A : Type 0} (b : Bool) (x : A) (s tail : List A) → (rest : List A) × (x ∷ (s ++ tail) ≡ solid_front b x s ++ rest)
unfolding solid_front
solid_front_whole true x [] tail = (x ∷ tail, refl)
solid_front_whole _ x s tail = (tail, refl)

-- they do
pub has_solid : {A : Type 0} (role : A → Role) (xs : List A) → HasSolid role xs
unfolding solid
has_solid role [] = record { tail = []; whole = refl }
has_solid {A = A} role (x ∷ xs) =
    let h = has_solid role xs in
    let f = solid_front_whole (is_space (role x)) x (solid role xs) h.tail in
    record { tail = f.0; whole = ap (λ (ys : List A). x ∷ ys) h.whole ∙ f.1 }

-- The next part of a call that is found in a text is that of the definition, trimmed.

-- where what isn't white space ends, in tokens that stand from a place on, without the white space at their end
unfoldable solid_end : ℕ → ℕ → List SourceToken → ℕ
solid_end at end [] = end
solid_end at end (t ∷ ts) = at + length (bytes_of (t ∷ ts))

-- how many bytes tokens and others have
pub more_bytes : (xs ys : List SourceToken) → length (bytes_of (xs ++ ys)) ≡ length (bytes_of xs) + length (bytes_of ys)
more_bytes xs ys = ap length (flat_map-append (λ (t : SourceToken). t.bytes) xs ys) ∙ length-append (bytes_of xs) (bytes_of ys)

-- the first part ends at a comma, after which the call goes on
record IsCutAt (closes : Bool) (at next : ℕ) (ts inner first : List SourceToken) (further : List (List SourceToken)) : Type 0 where
  comma : SourceToken
  more : List SourceToken
  whole : ts ≡ first ++ comma ∷ more
  cuts : token_role comma ≡ Cut
  place : next ≡ at + (length (bytes_of first) + length comma.bytes)
  size : at + length (bytes_of inner) ≡ next + length (bytes_of (inner_tokens closes 0 more))
  parts : further ≡ all_parts (split token_role 0 (inner_tokens closes 0 more))

-- or at the end of the call, and is the last
record IsLastAt (at end : ℕ) (ts inner first : List SourceToken) (further : List (List SourceToken)) : Type 0 where
  more : List SourceToken
  whole : ts ≡ first ++ more
  same : inner ≡ first
  place : end ≡ at + length (bytes_of first)
  parts : further ≡ []

-- what follows the first part, in tokens that stand from a place on
unfoldable FollowsIn : Bool → ℕ → PartEnd → List SourceToken → List SourceToken → List SourceToken → List (List SourceToken) → Type 0
FollowsIn closes at (Comma next) ts inner first further = IsCutAt closes at next ts inner first further
FollowsIn closes at (Last end) ts inner first further = IsLastAt at end ts inner first further

-- a part that is found lies in its tokens as the first part of the definition does
record IsPartIn (closes : Bool) (start at level end : ℕ) (ts inner : List SourceToken) (p : Part) : Type 0 where
  from_is : p.from ≡ start
  to_is : p.to ≡ solid_end at end (solid token_role (split token_role level inner).first)
  follows : FollowsIn closes at p.end ts inner (split token_role level inner).first (split token_role level inner).further

-- a comma outside further openers ends a part
ends_is : (r : Role) (k : ℕ) → ends_part r k ≡ true → (r ≡ Cut) × (k ≡ 0)
unfolding ends_part
ends_is Cut zero e = (refl, refl)
ends_is Cut (suc k) e = absurd (false≢true e)
ends_is r k e = absurd (false≢true e)

-- it leaves no opener open
cut_level : (r : Role) (k : ℕ) → r ≡ Cut → k ≡ 0 → level_after r k ≡ 0
unfolding level_after
cut_level r k e f = ap (λ (q : Role). level_after q k) e ∙ f

-- and nothing of the part after it
cut_here : (closes : Bool) (r : Role) (k : ℕ) (t : SourceToken) (ts : List SourceToken) → r ≡ Cut → k ≡ 0
    → split_by r k t (split token_role (level_after r k) (inner_tokens closes (level_after r k) ts))
    ≡ record { first = []; further = all_parts (split token_role 0 (inner_tokens closes 0 ts)) }
unfolding split_by all_parts
cut_here closes r k t ts e f = grind (arith, cut_level)

-- anything else is of the first part
not_cut : (r : Role) (k : ℕ) (t : SourceToken) (s : Split SourceToken) → ends_part r k ≡ false
    → split_by r k t s ≡ record { first = t ∷ s.first; further = s.further }
unfolding ends_part split_by
not_cut Cut zero t s e = absurd (false≢true (sym e))
not_cut Cut (suc k) t s e = refl
not_cut r k t s e = refl

-- where what isn't white space ends, with one more token in front, by whether it is white space
solid_step : (b : Bool) (at end : ℕ) (t : SourceToken) (s : List SourceToken)
    → solid_end (at + length t.bytes) (cond b end (at + length t.bytes)) s ≡ solid_end at end (solid_front b t s)
unfolding solid_end solid_front
solid_step true at end t [] = refl
solid_step true at end t (y ∷ ys) = let n = length-append t.bytes (bytes_of (y ∷ ys)) in omega arith
solid_step false at end t [] = let n = length-append t.bytes [] in omega arith
solid_step false at end t (y ∷ ys) = let n = length-append t.bytes (bytes_of (y ∷ ys)) in omega arith

-- what follows the first part, with one more token in front
follows_step : (closes : Bool) (at : ℕ) (end : PartEnd) (t : SourceToken) (ts inner first : List SourceToken) (further : List (List SourceToken))
    → FollowsIn closes (at + length t.bytes) end ts inner first further → FollowsIn closes at end (t ∷ ts) (t ∷ inner) (t ∷ first) further
unfolding FollowsIn
follows_step closes at (Comma n) t ts inner first further c = grind (arith, length-append)
follows_step closes at (Last n) t ts inner first further c = grind (arith, length-append)

-- a part that is found, by whether the first token ends the call, and by whether it ends the part
part_by : (ends cuts : Bool) (closes : Bool) (start at level end : ℕ) (t : SourceToken) (ts : List SourceToken) (p : Part) → ends_part (token_role t) level ≡ cuts
    → IsPartIn closes start (at + length t.bytes) (level_after (token_role t) level) (cond (is_space (token_role t)) end (at + length t.bytes)) ts (inner_tokens closes (level_after (token_role t) level) ts) p
    → IsPartIn closes start at level end (t ∷ ts) (cond ends [] (t ∷ inner_tokens closes (level_after (token_role t) level) ts))
    (cond ends (record { from = start; to = end; end = Last at }) (cond cuts (record { from = start; to = end; end = Comma (at + length t.bytes) }) p))
unfolding split solid solid_end FollowsIn all_parts
part_by true cuts closes start at level end t ts p is rest = grind arith
part_by false true closes start at level end t ts p is rest = grind (arith, ends_is, cut_here, cut_level, length-append)
part_by false false closes start at level end t ts p is rest = grind (arith, not_cut, solid_step, follows_step)

-- each part that is found lies so
part_in : (ts : List SourceToken) (closes : Bool) (start at level end : ℕ) → IsPartIn closes start at level end ts (inner_tokens closes level ts) (part_from closes start at level end ts)
unfolding part_from inner_tokens split solid solid_end FollowsIn
part_in [] closes start at level end = grind arith
part_in (t ∷ ts) closes start at level end =
    let here = at + length t.bytes in
    let e = cond (is_space (token_role t)) end here in
    let k = level_after (token_role t) level in
    part_by (ends_text closes (token_role t) level) (ends_part (token_role t) level) closes start at level end t ts (part_from closes start here k e ts) refl
    (part_in ts closes start here k e)

-- the white space in front of a call's parts: what is after it has the same parts, but for that white space
record HasLead (closes : Bool) (at : ℕ) (ts : List SourceToken) : Type 0 where
  lead : List SourceToken
  rest : List SourceToken
  whole : ts ≡ lead ++ rest
  spaces : All (λ t. token_role t ≡ Space) lead
  place : space_from at ts ≡ at + length (bytes_of lead)
  inner : inner_tokens closes 0 ts ≡ lead ++ inner_tokens closes 0 rest
  first : after_leading_space token_role (split token_role 0 (inner_tokens closes 0 ts)).first ≡ (split token_role 0 (inner_tokens closes 0 rest)).first
  further : (split token_role 0 (inner_tokens closes 0 ts)).further ≡ (split token_role 0 (inner_tokens closes 0 rest)).further

-- a role that is white space
space_is : (r : Role) → is_space r ≡ true → r ≡ Space
unfolding is_space
space_is Space e = refl
space_is r e = absurd (false≢true e)

-- it ends no call, and opens nothing
space_inner : (closes : Bool) (t : SourceToken) (ts : List SourceToken) → token_role t ≡ Space → inner_tokens closes 0 (t ∷ ts) ≡ t ∷ inner_tokens closes 0 ts
unfolding inner_tokens level_after ends_text ends_call
space_inner closes t ts is = grind arith

-- the first part that begins with what isn't white space has none in front
solid_first : (cuts : Bool) (t : SourceToken) (s : Split SourceToken) → ends_part (token_role t) 0 ≡ cuts → is_space (token_role t) ≡ false
    → after_leading_space token_role (split_by (token_role t) 0 t s).first ≡ (split_by (token_role t) 0 t s).first
unfolding split_by
solid_first true t s e other = grind (arith, ends_is, space_nil)
solid_first false t s e other = grind (arith, not_cut, space_front)

-- or it is empty
inner_first : (ends : Bool) (t : SourceToken) (ts : List SourceToken) → is_space (token_role t) ≡ false
    → after_leading_space token_role (split token_role 0 (cond ends [] (t ∷ ts))).first ≡ (split token_role 0 (cond ends [] (t ∷ ts))).first
unfolding split
inner_first true t ts other = space_nil token_role
inner_first false t ts other = solid_first (ends_part (token_role t) 0) t (split token_role (level_after (token_role t) 0) ts) refl other

-- white space in front of parts, by whether the first token is
lead_by : (space : Bool) (closes : Bool) (at : ℕ) (t : SourceToken) (ts : List SourceToken) → is_space (token_role t) ≡ space → HasLead closes (at + length t.bytes) ts → HasLead closes at (t ∷ ts)
unfolding space_from split split_by level_after inner_tokens
lead_by true closes at t ts e h =
    let is = space_is (token_role t) e in
    let s : Split SourceToken = split token_role 0 (inner_tokens closes 0 ts) in
    let inner = space_inner closes t ts is in
    let here : split token_role 0 (inner_tokens closes 0 (t ∷ ts)) ≡ record { first = t ∷ s.first; further = s.further } =
    ap (split token_role 0) inner
    ∙ ap (λ (q : Role). split_by q 0 t (split token_role (level_after q 0) (inner_tokens closes 0 ts))) is in
    let size = length-append t.bytes (bytes_of h.lead) in
    let there : space_from at (t ∷ ts) ≡ space_from (at + length t.bytes) ts =
    ap (λ b. cond b (space_from (at + length t.bytes) ts) at) e in
    record {
      lead = t ∷ h.lead;
      rest = h.rest;
      whole = ap (λ (us : List SourceToken). t ∷ us) h.whole;
      spaces = All-cons (λ u. token_role u ≡ Space) t h.lead is h.spaces;
      place = omega (arith, there, h.place, size);
      inner = inner ∙ ap (λ (us : List SourceToken). t ∷ us) h.inner;
      first =
          ap (λ (x : Split SourceToken). after_leading_space token_role x.first) here
          ∙ space_front token_role t s.first
          ∙ ap (λ b. cond b (after_leading_space token_role s.first) (t ∷ s.first)) e
          ∙ h.first;
      further = ap (λ (x : Split SourceToken). x.further) here ∙ h.further;
    }
lead_by false closes at t ts e h = grind (arith, inner_first)

-- there is such white space, or none
has_lead : (ts : List SourceToken) (closes : Bool) (at : ℕ) → HasLead closes at ts
unfolding space_from split inner_tokens
has_lead [] closes at = grind (arith, space_nil)
has_lead (t ∷ ts) closes at = lead_by (is_space (token_role t)) closes at t ts refl (has_lead ts closes (at + length t.bytes))

-- after white space a text goes on as plain text
lead_after : (lead rest : List SourceToken) (bs : List ℕ) → text_tokens Plain bs ≡ lead ++ rest → All (λ t. token_role t ≡ Space) lead
    → (text_tokens Plain (drop (length (bytes_of lead)) bs) ≡ rest) × (length (bytes_of lead) ≤ length bs)
unfolding closes_text
lead_after [] rest bs e spaces = (e, omega arith)
lead_after (t ∷ lead) rest bs e spaces =
    let P : SourceToken → Type 0 = λ u. token_role u ≡ Space in
    let f = first_after Plain bs t (lead ++ rest) e (ap closes_text (All-head P t lead spaces)) in
    let later = drop (length t.bytes) bs in
    let h = lead_after lead rest later f.0 (All-tail P t lead spaces) in
    let size = length-append t.bytes (bytes_of lead) in
    grind (arith, length-drop, drop-drop)

-- what follows the first part, as a place in the text
follows_at : (closes : Bool) (text : List ℕ) (start to : ℕ) (end : PartEnd) (ts first : List SourceToken) (further : List (List SourceToken)) → start ≤ length text
    → text_tokens Plain (drop start text) ≡ ts → to ≤ start + length (bytes_of first) → inner_size closes text ≡ start + length (bytes_of (inner_tokens closes 0 ts))
    → FollowsIn closes start end ts (inner_tokens closes 0 ts) first further → Follows closes text to end further
unfolding FollowsIn Follows closes_text is_one_role inner_size
follows_at closes text start to (Comma n) ts first further inside e low size c =
    let b = text_after Plain (drop start text) first c.comma c.more (e ∙ c.whole) (ap closes_text c.cuts) in
    grind (arith, text_one, length-drop, drop-drop, body_text)
follows_at closes text start to (Last n) ts first further inside e low size c =
    let cut = text_cut Plain (drop start text) first c.more (e ∙ c.whole) in
    grind (arith, length-drop)

-- where what isn't white space ends, from its beginning on
solid_size : (at : ℕ) (ts : List SourceToken) → solid_end at at ts ≡ at + length (bytes_of ts)
unfolding solid_end
solid_size at [] = omega arith
solid_size at (t ∷ ts) = refl

-- the first part stands in front of its tokens
first_more : (closes : Bool) (at : ℕ) (end : PartEnd) (ts inner first : List SourceToken) (further : List (List SourceToken)) → FollowsIn closes at end ts inner first further
    → (more : List SourceToken) × (ts ≡ first ++ more)
unfolding FollowsIn
first_more closes at (Comma n) ts inner first further c = (c.comma ∷ c.more, c.whole)
first_more closes at (Last n) ts inner first further c = (c.more, c.whole)

-- a text has tokens where it has bytes
has_tokens : (bs : List ℕ) → nat_lt 0 (length (body_tokens bs)) ≡ nat_lt 0 (length bs)
has_tokens [] = ap (λ (ts : List SourceToken). nat_lt 0 (length ts)) (body_text [] ∙ text_nil Plain)
has_tokens (b ∷ bs) = grind (arith, text_step, nat_lt, body_text, nat_tests)

-- a range has bytes where its end is after its beginning
range_some : (from to n : ℕ) → n ≡ to - from → nat_lt from to ≡ nat_lt 0 n
range_some from to n e = grind (arith, nat_tests)

-- the part that is found is the next one of the definition
pub next_part_is : (closes : Bool) (text : List ℕ) (start : ℕ) (p : Part) → start ≡ space_from 0 (body_tokens text)
    → p ≡ part_from closes start start 0 start (body_tokens (drop start text)) → IsNextPart closes text p
unfolding inner_size
next_part_is closes text start p at is =
    let h = has_lead (body_tokens text) closes 0 in
    let place : start ≡ length (bytes_of h.lead) = omega (arith, at, h.place) in
    let b = lead_after h.lead h.rest text (sym (body_text text) ∙ h.whole) h.spaces in
    let inside : start ≤ length text = omega (arith, place, b.1) in
    let tokens : text_tokens Plain (drop start text) ≡ h.rest = ap (λ (n : ℕ). text_tokens Plain (drop n text)) place ∙ b.0 in
    let found : body_tokens (drop start text) ≡ h.rest = body_text (drop start text) ∙ tokens in
    let inner = inner_tokens closes 0 h.rest in
    let q = subst (λ (x : Part). IsPartIn closes start start 0 start h.rest inner x) (sym (is ∙ ap (part_from closes start start 0 start) found)) (part_in h.rest closes start start 0 start) in
    let first = (split token_role 0 inner).first in
    let s = solid token_role first in
    let tail = has_solid token_role first in
    let more = first_more closes start p.end h.rest inner first (split token_role 0 inner).further q.follows in
    let cut = text_cut Plain (drop start text) s (tail.tail ++ more.0)
    (tokens ∙ more.1 ∙ ap (λ (us : List SourceToken). us ++ more.0) tail.whole ∙ append_assoc s tail.tail more.0) in
    let to : p.to ≡ start + length (bytes_of s) = q.to_is ∙ solid_size start s in
    let size = length-drop start text in
    let len : p.to - p.from ≡ length (bytes_of s) = omega (arith, q.from_is, to) in
    let few : length (bytes_of first) ≡ length (bytes_of s) + length (bytes_of tail.tail) = ap (λ (us : List SourceToken). length (bytes_of us)) tail.whole ∙ more_bytes s tail.tail in
    let all : length (bytes_of (inner_tokens closes 0 (body_tokens text))) ≡ length (bytes_of h.lead) + length (bytes_of inner) =
    ap (λ (us : List SourceToken). length (bytes_of us)) h.inner ∙ more_bytes h.lead inner in
    let actual : body_tokens (take (p.to - p.from) (drop p.from text)) ≡ trimmed token_role (parts_in closes text).first =
    ap (λ (n : ℕ). body_tokens (take n (drop p.from text))) len
    ∙ ap (λ (n : ℕ). body_tokens (take (length (bytes_of s)) (drop n text))) q.from_is
    ∙ ap (λ (x : List ℕ). body_tokens x) (sym cut.bytes)
    ∙ body_text (bytes_of s)
    ∙ cut.front
    ∙ ap (λ (us : List SourceToken). solid token_role us) (sym h.first)
    ∙ sym (trimmed_is token_role (parts_in closes text).first) in
    let range : length (take (p.to - p.from) (drop p.from text)) ≡ p.to - p.from =
    let k = length-take (p.to - p.from) (drop p.from text) in let d = length-drop p.from text in omega (arith, q.from_is, to, cut.inside, size) in
    grind (arith, range_some, has_tokens, nat_lt, follows_at)
