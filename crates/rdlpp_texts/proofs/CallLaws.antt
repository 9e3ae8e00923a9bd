-- A call in a text is that of the definition.
use Rattle.std.proofs.Common.{◌≡◌, ℕ, zero, suc, ◌+◌, ◌-◌, Bool, true, false, cond, List, [], ◌∷◌, ◌++◌, length, drop, filter, ◌==◌, slice_index, All, refl, sym, ap, ◌∙◌, arith, Option, Some, None, ◌⊎◌, inl, inr, ◌≤◌, ◌<◌, subst, get_or, nat_le, drop-drop, length-append}
use Rattle.std.proofs.lemmas.Bool.{false≢true}
use Rattle.std.proofs.lemmas.Bool.Decides.{nat_tests}
use Rattle.std.proofs.lemmas.Grind.{common_steps}
use Rattle.std.proofs.lemmas.List.Elements.{All-cons, All-head, All-nil, All-tail, filter_passes}
use Rattle.rdlpp_scan.specs.Bytes.{begins_block_comment, begins_line_comment, begins_perl, is_blank, is_digit, is_letter, is_line_end, is_opener, takes_word}
use Rattle.rdlpp_scan.specs.SourceTokens.{SourceToken}
use Rattle.rdlpp_scan.specs.Tokens.{plain_token, token_of, tokens_from, whole}
use Rattle.rdlpp_scan.specs.declared.token.Kind.{Kind}
use Rattle.rdlpp_scan.specs.declared.token.Kind.TheVariants.{Closer, Opener}
use Rattle.rdlpp_scan.specs.declared.token.Mode.{Mode}
use Rattle.rdlpp_scan.specs.declared.token.Mode.TheVariants.{Plain}
use Rattle.rdlpp_scan.specs.declared.token.Token.{Token}
use Rattle.rdlpp_meaning.specs.Actuals.{Down, Dropped, End, Ends, Halt, CallFault, KeptComment, Role, Space, Start, Stops, Up, kept_size, kind_role, level_after, not_kept, token_role}
use Rattle.rdlpp_meaning.specs.CallScan.{Before, Closed, Closes, Inside, Keeps, Passes, ScanFault, Scanned, CallState, call_of, call_of_scan, fault_at_end, is_call_text, is_kept, room_after, scan, scan_onto, scanned, call_state_after, call_state_after_lead, turn, turn_before, turn_fitting, turn_inside}
use Rattle.rdlpp_meaning.specs.Expansion.{bytes_of}
use Rattle.rdlpp_meaning.specs.Substitution.{body_tokens, spelled}
use Rattle.rdlpp_meaning.specs.TextTokens.{text_tokens}
use Rattle.rdlpp_meaning.specs.declared.fault.FaultKind.{FaultKind}
use Rattle.rdlpp_meaning.specs.declared.fault.FaultKind.TheVariants.{ArgumentsMissing, ArgumentsOpen}
use Rattle.rdlpp_meaning.proofs.ReadCalls.{after_cut}
use Rattle.rdlpp_meaning.proofs.BodyTokens.{body_covered}
use Rattle.rdlpp_meaning.proofs.KeptTexts.{body_text, closes_text, first_spelled, is_one_role, text_after, text_cut, text_one, text_step}
use Rattle.rdlpp_texts.specs.CallParts.{ends_call, ends_text, inner_size, inner_tokens, opener_by, opener_from}

-- Where the parentheses of a call stand in a text is where its scan opens and closes.

-- a choice of two texts of a call is one
either : (c : Bool) (r q : Role) → is_call_text r ≡ true → is_call_text q ≡ true → is_call_text (cond c r q) ≡ true
either true r q h k = h
either false r q h k = k

-- a token of the token table may stand between the parentheses of a call
kind_text : (k : Kind) (bytes : List ℕ) → is_call_text (kind_role k bytes) ≡ true
unfolding is_call_text kind_role
kind_text Opener bytes = either (slice_index bytes 0 == 40) Start Up refl refl
kind_text Closer bytes = either (slice_index bytes 0 == 41) End Down refl refl
kind_text k bytes = refl

-- so may each token of a text
spelled_text : (ts : List Token) (bs : List ℕ) → All (λ t. is_call_text (token_role t) ≡ true) (spelled ts bs)
unfolding spelled token_role
spelled_text [] bs = All-nil (λ t. is_call_text (token_role t) ≡ true)
spelled_text (t ∷ ts) bs = grind (arith, kind_text, (spelled_text ts (drop t.len bs)))

pub text_is_text : (m : Mode) (bs : List ℕ) → All (λ t. is_call_text (token_role t) ≡ true) (text_tokens m bs)
unfolding text_tokens
text_is_text m bs = spelled_text (tokens_from m 0 bs) bs

-- a scan after so many things that it passes
unfoldable pub passing : {A : Type 0} → ℕ → Scanned A → Scanned A
passing zero s = s
passing (suc n) s = scan_onto [] (passing n s)

-- how the front of a call up to its `(` lies in tokens that stand from a place on
pub record IsLed (at n : ℕ) (ts : List SourceToken) : Type 0 where
  pub lead : List SourceToken
  pub opener : SourceToken
  pub rest : List SourceToken
  pub whole : ts ≡ lead ++ opener ∷ rest
  pub opens : token_role opener ≡ Start
  pub place : n ≡ at + (length (bytes_of lead) + length opener.bytes)
  pub scans : (room : ℕ) → scan token_role not_kept Before room ts ≡ passing (suc (length lead)) (scan token_role not_kept (Inside 0) room rest)

-- where no `(` follows, by the role of the first token
none_by : (r : Role) (t : SourceToken) (here : ℕ) (found : Option ℕ) (s : CallState → Scanned SourceToken) → is_call_text r ≡ true
    → (found ≡ None → s Before ≡ ScanFault ArgumentsMissing) → opener_by r here found ≡ None
    → scanned (turn_before r) t (s (call_state_after_lead r)) ≡ ScanFault ArgumentsMissing
unfolding opener_by scanned turn_before call_state_after_lead is_call_text scan_onto
none_by Space t here found s text rest e = ap (scan_onto []) (rest e)
none_by Dropped t here found s text rest e = ap (scan_onto []) (rest e)
none_by KeptComment t here found s text rest e = ap (scan_onto []) (rest e)
none_by Start t here found s text rest e = absurd (cc)
none_by (Stops f line) t here found s text rest e = absurd (false≢true text)
none_by r t here found s text rest e = refl

-- where no `(` follows, arguments are missing
pub opener_none : (ts : List SourceToken) (at room : ℕ) → All (λ t. is_call_text (token_role t) ≡ true) ts → opener_from at ts ≡ None
    → scan token_role not_kept Before room ts ≡ ScanFault ArgumentsMissing
unfolding opener_from scan fault_at_end turn call_state_after room_after
opener_none [] at room all e = refl
opener_none (t ∷ ts) at room all e =
    let P : SourceToken → Type 0 = λ u. is_call_text (token_role u) ≡ true in
    none_by (token_role t) t (at + length t.bytes) (opener_from (at + length t.bytes) ts) (λ to. scan token_role not_kept to room ts)
    (All-head P t ts all) (λ h. opener_none ts (at + length t.bytes) room (All-tail P t ts all) h) e

-- the scan before the `(` at a token, by its role
scan_before : (room : ℕ) (t : SourceToken) (ts : List SourceToken) (r : Role) → token_role t ≡ r
    → scan token_role not_kept Before room (t ∷ ts) ≡ scanned (turn_before r) t (scan token_role not_kept (call_state_after_lead r) room ts)
unfolding scan turn call_state_after room_after
scan_before room t ts r e = ap (λ (q : Role). scanned (turn_before q) t (scan token_role not_kept (call_state_after_lead q) room ts)) e

-- a token in front of such a front of a call
led : (t : SourceToken) (ts : List SourceToken) (at n : ℕ) → ((room : ℕ) → scan token_role not_kept Before room (t ∷ ts) ≡ scan_onto [] (scan token_role not_kept Before room ts))
    → IsLed (at + length t.bytes) n ts → IsLed at n (t ∷ ts)
unfolding passing
led t ts at n step c =
    let size = length-append t.bytes (bytes_of c.lead) in
    record {
      lead = t ∷ c.lead;
      opener = c.opener;
      rest = c.rest;
      whole = ap (λ us. t ∷ us) c.whole;
      opens = c.opens;
      place = omega (arith, c.place, size);
      scans = λ room. step room ∙ ap (scan_onto []) (c.scans room);
    }

-- the front of a call by the role of the first token
led_by : (r : Role) (t : SourceToken) (ts : List SourceToken) (at n : ℕ) (found : Option ℕ) → token_role t ≡ r
    → (found ≡ Some n → IsLed (at + length t.bytes) n ts) → opener_by r (at + length t.bytes) found ≡ Some n → IsLed at n (t ∷ ts)
unfolding opener_by passing turn_before call_state_after_lead scanned
led_by Space t ts at n found is rest e = led t ts at n (λ room. scan_before room t ts Space is) (rest e)
led_by Dropped t ts at n found is rest e = led t ts at n (λ room. scan_before room t ts Dropped is) (rest e)
led_by KeptComment t ts at n found is rest e = led t ts at n (λ room. scan_before room t ts KeptComment is) (rest e)
led_by Start t ts at n found is rest e =
    let here : at + length t.bytes ≡ n = cc in
    record {
      lead = [];
      opener = t;
      rest = ts;
      whole = refl;
      opens = is;
      place = omega (arith, here);
      scans = λ room. scan_before room t ts Start is;
    }
led_by r t ts at n found is rest e = absurd (cc)

-- where one follows
pub opener_some : (ts : List SourceToken) (at n : ℕ) → opener_from at ts ≡ Some n → IsLed at n ts
unfolding opener_from
opener_some [] at n e = absurd (cc)
opener_some (t ∷ ts) at n e =
    led_by (token_role t) t ts at n (opener_from (at + length t.bytes) ts) refl (λ h. opener_some ts (at + length t.bytes) n h) e

-- what the scan does at a token of text
turn_text : (r : Role) (k : ℕ) → is_call_text r ≡ true → turn_inside r k true ≡ cond (ends_call r k) Closes (cond (is_kept r) Keeps Passes)
unfolding turn_inside turn_fitting ends_call is_kept is_call_text
turn_text End zero e = refl
turn_text End (suc k) e = refl
turn_text Dropped k e = refl
turn_text Halt k e = absurd (false≢true e)
turn_text (Ends f line) k e = absurd (false≢true e)
turn_text (Stops f line) k e = absurd (false≢true e)
turn_text r k e = refl

-- the scan after the `(` at a token of text
scan_inside : (k room : ℕ) (t : SourceToken) (ts : List SourceToken) → is_call_text (token_role t) ≡ true
    → scan token_role not_kept (Inside k) room (t ∷ ts)
    ≡ scanned (cond (ends_call (token_role t) k) Closes (cond (is_kept (token_role t)) Keeps Passes)) t
    (scan token_role not_kept (Inside (level_after (token_role t) k)) (room - kept_size (token_role t) 0) ts)
unfolding scan turn call_state_after room_after not_kept
scan_inside k room t ts text = grind (arith, nat_le, nat_tests, turn_text)

-- the `)` of a call is one
ends_is : (r : Role) (k : ℕ) → ends_call r k ≡ true → r ≡ End
unfolding ends_call
ends_is End zero e = refl
ends_is End (suc k) e = absurd (false≢true e)
ends_is r k e = absurd (false≢true e)

-- a call that isn't closed has all its tokens, and its scan is refused
pub record IsUnclosed (level : ℕ) (ts : List SourceToken) : Type 0 where
  pub all : inner_tokens true level ts ≡ ts
  pub scans : (room : ℕ) → scan token_role not_kept (Inside level) room ts ≡ ScanFault ArgumentsOpen

-- one that is closed has those in front of its `)`, and its scan keeps what is kept of them
pub record IsEnded (level : ℕ) (ts : List SourceToken) : Type 0 where
  pub closer : SourceToken
  pub rest : List SourceToken
  pub whole : ts ≡ inner_tokens true level ts ++ closer ∷ rest
  pub closes : token_role closer ≡ End
  pub scans : (room : ℕ) → scan token_role not_kept (Inside level) room ts
      ≡ Closed (filter (λ t. is_kept (token_role t)) (inner_tokens true level ts)) (length (inner_tokens true level ts) + 1)

-- a scan that is refused is so with a thing in front
refused_front : (kept : Bool) (t : SourceToken) → scanned (cond kept Keeps Passes) t (ScanFault ArgumentsOpen) ≡ ScanFault ArgumentsOpen
unfolding scanned scan_onto
refused_front true t = refl
refused_front false t = refl

-- one that closes does, and keeps the thing where it is kept
closed_front : (kept : Bool) (t : SourceToken) (ks : List SourceToken) (n : ℕ)
    → scanned (cond kept Keeps Passes) t (Closed ks (n + 1)) ≡ Closed (cond kept (t ∷ ks) ks) (suc n + 1)
unfolding scanned scan_onto
closed_front true t ks n = let e : suc (n + 1) ≡ suc n + 1 = omega arith in ap (λ i. Closed (t ∷ ks) i) e
closed_front false t ks n = let e : suc (n + 1) ≡ suc n + 1 = omega arith in ap (λ i. Closed ks i) e

-- a call, by whether the first token is its `)`
ended_by : (ends : Bool) (t : SourceToken) (ts : List SourceToken) (k : ℕ) → ends_call (token_role t) k ≡ ends → is_call_text (token_role t) ≡ true
    → IsUnclosed (level_after (token_role t) k) ts ⊎ IsEnded (level_after (token_role t) k) ts → IsUnclosed k (t ∷ ts) ⊎ IsEnded k (t ∷ ts)
unfolding inner_tokens ends_text scanned
ended_by true t ts k is text rest =
    let r = token_role t in
    let none : inner_tokens true k (t ∷ ts) ≡ [] = ap (λ (b : Bool). cond b [] (t ∷ inner_tokens true (level_after r k) ts)) is in
    inr (record {
      closer = t;
      rest = ts;
      whole = sym (ap (λ (us : List SourceToken). us ++ t ∷ ts) none);
      closes = ends_is r k is;
      scans = λ room. scan_inside k room t ts text
          ∙ ap (λ b. scanned (cond b Closes (cond (is_kept r) Keeps Passes)) t (scan token_role not_kept (Inside (level_after r k)) (room - kept_size r 0) ts)) is
          ∙ sym (ap (λ (us : List SourceToken). Closed (filter (λ u. is_kept (token_role u)) us) (length us + 1)) none);
    })
ended_by false t ts k is text rest = grind (arith, scan_inside, refused_front, closed_front)

-- each call is one of the two
pub ended : (ts : List SourceToken) (k : ℕ) → All (λ t. is_call_text (token_role t) ≡ true) ts → IsUnclosed k ts ⊎ IsEnded k ts
unfolding inner_tokens scan fault_at_end
ended [] k all = inl (record { all = refl; scans = λ room. refl })
ended (t ∷ ts) k all =
    let P : SourceToken → Type 0 = λ u. is_call_text (token_role u) ≡ true in
    ended_by (ends_call (token_role t) k) t ts k refl (All-head P t ts all) (ended ts (level_after (token_role t) k) (All-tail P t ts all))

-- all tokens may stand between the parentheses of a call
AllText : List SourceToken → Type 0
AllText ts = All (λ t. is_call_text (token_role t) ≡ true) ts

-- those of a body may
body_is_text : (text : List ℕ) → All (λ t. is_call_text (token_role t) ≡ true) (body_tokens text)
unfolding AllText
body_is_text text = subst (λ (ts : List SourceToken). AllText ts) (sym (body_text text)) (text_is_text Plain text)

-- where a `(` ends, text goes on as plain text
record IsOpened (text : List ℕ) (from : ℕ) (ts : List SourceToken) : Type 0 where
  led : IsLed 0 from ts
  inside : from ≤ length text
  rest : body_tokens (drop from text) ≡ led.rest

-- the front of a call in a text
opened : (text : List ℕ) (from : ℕ) → opener_from 0 (body_tokens text) ≡ Some from → IsOpened text from (body_tokens text)
unfolding closes_text
opened text from e =
    let c = opener_some (body_tokens text) 0 from e in
    let closed : closes_text (token_role c.opener) ≡ true = ap closes_text c.opens in
    let b = text_after Plain text c.lead c.opener c.rest (sym (body_text text) ∙ c.whole) closed in
    let place : from ≡ length (bytes_of c.lead) + length c.opener.bytes = let p = c.place in omega arith in
    record {
      led = c;
      inside = omega (arith, place, b.1);
      rest = body_text (drop from text) ∙ ap (λ (n : ℕ). text_tokens Plain (drop n text)) place ∙ b.0;
    }

-- a scan that closes after things that it passes
passing_closed : {A : Type 0} (n : ℕ) (ks : List A) (used : ℕ) → passing n (Closed ks used) ≡ Closed ks (n + used)
unfolding passing scan_onto
passing_closed zero ks used = let e : used ≡ 0 + used = omega arith in ap (λ i. Closed ks i) e
passing_closed (suc n) ks used = grind (arith, (passing_closed n ks used))

-- a scan that lacks something after things that it passes
passing_refused : {A : Type 0} (n : ℕ) (f : FaultKind) → passing {A = A} n (ScanFault f) ≡ ScanFault f
unfolding passing scan_onto
passing_refused zero f = refl
passing_refused (suc n) f = ap (scan_onto []) (passing_refused n f)

-- where all things pass a test, none is filtered out
pub filter_all : {A : Type 0} (p : A → Bool) (xs : List A) → All (λ x. p x ≡ true) xs → filter p xs ≡ xs
filter_all p [] all = refl
filter_all {A = A} p (x ∷ xs) all =
    let P : A → Type 0 = λ y. p y ≡ true in
    ap (λ b. cond b (x ∷ filter p xs) (filter p xs)) (All-head P x xs all) ∙ ap (λ (ys : List A). x ∷ ys) (filter_all p xs (All-tail P x xs all))

-- what holds of all things holds of those in front
pub front_all : {A : Type 0} (P : A → Type 0) (xs ys : List A) → All P (xs ++ ys) → All P xs
front_all P [] ys all = All-nil P
front_all P (x ∷ xs) ys all = All-cons P x xs (All-head P x (xs ++ ys) all) (front_all P xs ys (All-tail P x (xs ++ ys) all))

-- and of those after some
back_all : {A : Type 0} (P : A → Type 0) (xs ys : List A) → All P (xs ++ ys) → All P ys
back_all P [] ys all = all
back_all P (x ∷ xs) ys all = back_all P xs ys (All-tail P x (xs ++ ys) all)

-- where a text keeps all its tokens, so does what stands between the parentheses
inner_kept : (ts lead inner rest : List SourceToken) (opener : SourceToken) → ts ≡ lead ++ opener ∷ (inner ++ rest)
    → filter (λ t. is_kept (token_role t)) ts ≡ ts → filter (λ t. is_kept (token_role t)) inner ≡ inner
inner_kept ts lead inner rest opener whole e =
    let p : SourceToken → Bool = λ t. is_kept (token_role t) in
    let P : SourceToken → Type 0 = λ t. p t ≡ true in
    let all : All P (lead ++ opener ∷ (inner ++ rest)) = subst (λ (us : List SourceToken). All P us) (e ∙ whole) (filter_passes p ts) in
    filter_all p inner (front_all P inner rest (All-tail P opener (inner ++ rest) (back_all P lead (opener ∷ (inner ++ rest)) all)))

-- where there is no `(`, arguments are missing
pub missing_call : (text : List ℕ) → opener_from 0 (body_tokens text) ≡ None → (room : ℕ) → call_of token_role not_kept room (body_tokens text) ≡ CallFault ArgumentsMissing
unfolding call_of_scan
missing_call text e room = grind (arith, body_is_text, opener_none)

-- a call in a text, after its `(`, that isn't closed: it has all bytes of the text
pub record IsUnclosedAt (text : List ℕ) (from : ℕ) : Type 0 where
  pub size : inner_size true (drop from text) ≡ length (drop from text)
  pub call : (room : ℕ) → call_of token_role not_kept room (body_tokens text) ≡ CallFault ArgumentsOpen

-- one that is closed: the call is that of the definition, with what is kept of its tokens, and after its `)` stand those of the
-- text; where the text keeps all, so does the call
pub record IsClosedAt (text : List ℕ) (from : ℕ) : Type 0 where
  pub size : inner_size true (drop from text) < length (drop from text)
  pub used : ℕ
  pub call : (room : ℕ) → call_of token_role not_kept room (body_tokens text)
      ≡ call_of_scan token_role 0 (Closed (filter (λ t. is_kept (token_role t)) (inner_tokens true 0 (body_tokens (drop from text)))) used)
  pub following : drop used (body_tokens text) ≡ body_tokens (drop (from + inner_size true (drop from text) + 1) text)
  pub keeps : filter (λ t. is_kept (token_role t)) (body_tokens text) ≡ body_tokens text
      → filter (λ t. is_kept (token_role t)) (inner_tokens true 0 (body_tokens (drop from text))) ≡ inner_tokens true 0 (body_tokens (drop from text))
  pub own : body_tokens (bytes_of (inner_tokens true 0 (body_tokens (drop from text)))) ≡ inner_tokens true 0 (body_tokens (drop from text))

-- a call without a `)`
unclosed_at : (text : List ℕ) (from : ℕ) → IsOpened text from (body_tokens text) → IsUnclosed 0 (body_tokens (drop from text)) → IsUnclosedAt text from
unfolding call_of_scan inner_size
unclosed_at text from o u = grind (arith, body_covered, passing_refused)

-- and one with it
closed_at : (text : List ℕ) (from : ℕ) → IsOpened text from (body_tokens text) → IsEnded 0 (body_tokens (drop from text)) → IsClosedAt text from
unfolding closes_text is_one_role inner_size
closed_at text from o c =
    let T = drop from text in
    let lead = o.led.lead in
    let inner = inner_tokens true 0 (body_tokens T) in
    let kept = filter (λ (t : SourceToken). is_kept (token_role t)) inner in
    let used = length lead + (length inner + 2) in
    let whole = sym (body_text T) ∙ c.whole in
    let cut = text_cut Plain T inner (c.closer ∷ c.rest) whole in
    let b = text_after Plain T inner c.closer c.rest whole (ap closes_text c.closes) in
    let one : length c.closer.bytes ≡ 1 = text_one Plain T inner c.closer c.rest whole (ap is_one_role c.closes) in
    let count : suc (length lead) + (length inner + 1) ≡ used = omega arith in
    let place : length (bytes_of inner) + length c.closer.bytes + from ≡ from + length (bytes_of inner) + 1 = omega (arith, one) in
    let all : body_tokens text ≡ lead ++ o.led.opener ∷ (inner ++ c.closer ∷ c.rest) =
    o.led.whole ∙ ap (λ (ts : List SourceToken). lead ++ o.led.opener ∷ ts) (sym o.rest ∙ c.whole) in
    record {
      size = omega (arith, one, b.1);
      used = used;
      call = λ room.
          ap (call_of_scan token_role 0) (o.led.scans room
          ∙ ap (λ (ts : List SourceToken). passing (suc (length lead)) (scan token_role not_kept (Inside 0) room ts)) (sym o.rest)
          ∙ ap (passing (suc (length lead))) (c.scans room)
          ∙ passing_closed (suc (length lead)) kept (length inner + 1)
          ∙ ap (λ (n : ℕ). Closed kept n) count);
      following =
          ap (drop used) all
          ∙ after_cut lead o.led.opener inner c.closer c.rest
          ∙ sym b.0
          ∙ ap (λ (x : List ℕ). text_tokens Plain x) (drop-drop (length (bytes_of inner) + length c.closer.bytes) from text)
          ∙ ap (λ (n : ℕ). text_tokens Plain (drop n text)) (sum from (length (bytes_of inner) + length c.closer.bytes) ∙ place)
          ∙ sym (body_text (drop (from + length (bytes_of inner) + 1) text));
      keeps = λ e. inner_kept (body_tokens text) lead inner (c.closer ∷ c.rest) o.led.opener all e;
      own = body_text (bytes_of inner) ∙ cut.front;
    }
  where
    sum : (n m : ℕ) → n + m ≡ m + n
    sum n m = omega arith

-- each call after a `(` is one of the two
pub call_at : (text : List ℕ) (from : ℕ) → opener_from 0 (body_tokens text) ≡ Some from → IsUnclosedAt text from ⊎ IsClosedAt text from
call_at text from e = grind (arith, common_steps, opened, unclosed_at, closed_at, ended, body_is_text)

-- A text that begins with the `(` of a call.

-- it is the first token
opener_here : (bs : List ℕ) → opener_from 0 (text_tokens Plain (40 ∷ bs)) ≡ Some 1
unfolding opener_from opener_by first_spelled token_of plain_token whole begins_perl begins_line_comment begins_block_comment is_blank is_line_end is_letter is_digit is_opener takes_word token_role kind_role
opener_here bs = ap (opener_from 0) (text_step Plain (40 ∷ bs) (omega arith))

-- so the call begins there
pub opener_first : (text : List ℕ) → get_or text 0 0 ≡ 40 → opener_from 0 (body_tokens text) ≡ Some 1
opener_first [] e = absurd (omega (arith, e))
opener_first (b ∷ bs) e = grind (arith, body_text, opener_here)
