-- What is done with the first token of held bytes as a call is read, and the faults of reading.
use Rattle.std.proofs.Common.{◌≡◌, ◌≢◌, ℕ, zero, suc, ◌+◌, ◌-◌, ◌≤◌, ◌<◌, Bool, true, false, refl, ap, ◌∙◌, arith, cond, ◌&&◌, ◌==◌, List, [], ◌∷◌, ◌++◌, length, take, drop, slice_index, sym, subst, inl, get_or, inr, append_assoc, nat_le, take-add, eqb-true, le-leb, leb-false, leb-true, drop-drop, length-take-le}
use Rattle.std.specs.List.{prefix_len}
use Rattle.std.proofs.lemmas.Bool.{both_ways, cases_Bool, cond_both, false≢true, lt-leb, not-true}
use Rattle.std.proofs.lemmas.List.Sums.{prefix_len-le-length, prefix_len_passes}
use Rattle.rdlpp_scan.specs.Bytes.{begins_block_comment, begins_line_comment, begins_perl, is_blank, is_closer, is_digit, is_letter, is_line_end, is_opener, is_word, takes_word}
use Rattle.rdlpp_scan.specs.Pieces.{is_open}
use Rattle.rdlpp_scan.specs.Reserved.{is_reserved}
use Rattle.rdlpp_scan.specs.Resumed.{opening}
use Rattle.rdlpp_scan.specs.SourceTokens.{SourceToken, line_ends, remaining_tokens}
use Rattle.rdlpp_scan.specs.TokenKinds.{is_one_byte, opens_mode}
use Rattle.rdlpp_scan.specs.Tokens.{plain_token, token_of, whole}
use Rattle.rdlpp_scan.specs.declared.token.Kind.{Kind}
use Rattle.rdlpp_scan.specs.declared.token.Kind.TheVariants.{Back, Blank, Closer, Comma, Name, Opener, Other, Perl, Word}
use Rattle.rdlpp_scan.specs.declared.token.Mode.{Mode}
use Rattle.rdlpp_scan.specs.declared.token.Mode.TheVariants.{InBlock, InStr, Plain}
use Rattle.rdlpp_scan.specs.declared.token.Token.{Token}
use Rattle.rdlpp_scan.proofs.StopKinds.{block_token-kind, both_first, closed_kind_plain, one_byte_len, string_token-kind}
use Rattle.rdlpp_scan.proofs.SourceLaws.{EndsLine-drop, line_ends-miss, line_ends-part}
use Rattle.rdlpp_scan.proofs.OrdinaryLaws.{no_first}
use Rattle.rdlpp_scan.proofs.Seams.{BeforePerl, Closed, OpenComment, OpenString, Seam, token_of-seam}
use Rattle.rdlpp_scan.proofs.TokenLens.{token_of-part}
use Rattle.rdlpp_scan.proofs.TokenSteps.{is_kept_kind}
use Rattle.rdlpp_meaning.specs.Actuals as role
use Rattle.rdlpp_meaning.specs.Actuals.{Dropped, End, Ends, Halt, KeptComment, Role, Space, Start, Stops, Text, kept_size, kind_role, level_after}
use Rattle.rdlpp_meaning.specs.CallReading.{Reading, ReadRefused, onto_kept, read, read_by, role_in}
use Rattle.rdlpp_meaning.specs.CallScan.{Before, Breaks, Closes, Inside, Keeps, Passes, TurnFault, CallState, Turn, fault_at_end, room_after, call_state_after, call_state_after_lead, turn, turn_before, turn_fitting, turn_inside}
use Rattle.rdlpp_meaning.specs.Expansion.{bytes_of}
use Rattle.rdlpp_meaning.specs.declared.fault.FaultKind.{FaultKind}
use Rattle.rdlpp_meaning.specs.declared.fault.FaultKind.TheVariants as fault
use Rattle.rdlpp_meaning.specs.declared.fault.FaultKind.TheVariants.{ArgumentBytes, EmbeddedPerl, LineTooLong, SourceTooLong}
use Rattle.rdlpp_meaning.proofs.ReadCalls.{onto_kept-append, onto_kept-nil}
use Rattle.rdlpp_texts.specs.CallParts.{ends_call}
use Rattle.rdlpp_texts.specs.CallTokens.{role_meant}
use Rattle.rdlpp_texts.specs.declared.tokens.CallRole.{CallRole}
use Rattle.rdlpp_texts.specs.declared.tokens.CallRole.TheVariants.{End as CallEnd, LineComment}
use Rattle.rdlpp_texts.proofs.QuickTokens.{first_byte, front_byte}
use Rattle.rdlpp_read.specs.Buffer.{tokens_left}
use Rattle.rdlpp_read.specs.Files.{inner_buffer}
use Rattle.rdlpp_read.specs.declared.files.File.{File}
use Rattle.rdlpp_usages.specs.CallReads.{IsEnded, is_read_fault}
use Rattle.rdlpp_usages.specs.Reads.{reading}
use Rattle.rdlpp_usages.specs.CallActions.{Answers, Around, IsAround, IsClose, IsKeptAt, IsStep, IsAction, IsConsumed, is_plain_argument, kept_len, kept_of, level_in, call_state_meant, tokens_at, tokens_after}
use Rattle.rdlpp_usages.specs.declared.reading.CallRead.TheVariants as call
use Rattle.rdlpp_usages.specs.declared.action.CallState.TheVariants.{Inside as InsideCall}
use Rattle.rdlpp_usages.specs.declared.action.CallAction.{CallAction}
use Rattle.rdlpp_usages.specs.declared.action.CallAction.TheVariants.{Closes as ClosesCall, Perl as PerlFound, Refused, Consumes}
use Rattle.rdlpp_usages.specs.declared.action.Consumed.{Consumed}
use Rattle.rdlpp_usages.proofs.Halts.{IsFirst, directive_reads, name_first, own_token, perl_reads, token_first}

-- What is answered at a token after the `(`, by its role.

-- the `)` of a call
pub closing : (r : CallRole) (k : ℕ) (fits : Bool) → ends_call (role_meant r) k ≡ true → turn (Inside k) (role_meant r) fits ≡ Closes
unfolding ends_call role_meant turn turn_inside
closing CallEnd zero fits e = refl
closing CallEnd (suc k) fits e = absurd (cc)
closing r k fits e = absurd (cc)

-- a token that is neither the `)` nor a `//` comment
pub kept_at : (r : CallRole) (k : ℕ) → ends_call (role_meant r) k ≡ false → r ≢ LineComment → IsKeptAt (role_meant r) k
unfolding ends_call role_meant turn_inside kept_size
kept_at CallEnd zero e other = absurd (cc)
kept_at CallEnd (suc k) e other = record { turns = λ fits. refl; size = λ n. refl }
kept_at LineComment k e other = absurd (other refl)
kept_at r k e other = record { turns = λ fits. refl; size = λ n. refl }

-- it is refused where it doesn't fit
pub passes_room : (r : Role) (k room n : ℕ) → IsKeptAt r k → room < n → turn (Inside k) r (nat_le n room) ≡ TurnFault ArgumentBytes
unfolding turn turn_fitting
passes_room r k room n kept more = kept.turns (nat_le n room) ∙ ap (λ b. turn_fitting b Keeps) (lt-leb n room more)

-- a token adds a level at most
one_level : (r : Role) (k : ℕ) → level_after r k ≤ k + 1
unfolding level_after
one_level role.Start k = omega arith
one_level r k = omega arith

-- and is kept where it fits
pub keeps_step : (r : Role) (k room : ℕ) (t : Token) (level : ℕ) → IsKeptAt r k → t.len ≤ room → 0 < t.len → level ≡ level_after r k
    → IsStep (Inside k) r room t (record { len = t.len; next_mode = t.next_mode; call_state = InsideCall level; is_kept = true })
unfolding turn turn_fitting call_state_meant call_state_after room_after level_in
keeps_step r k room t level kept fits some is = grind (arith, nat_le, le-leb, one_level)

-- a `//` comment is passed
pub comment_step : (k room : ℕ) (t : Token) → IsStep (Inside k) role.Dropped room t (record { len = t.len; next_mode = t.next_mode; call_state = InsideCall k; is_kept = false })
unfolding turn turn_inside call_state_meant call_state_after room_after level_in level_after kept_size
comment_step k room t =
    record { len = refl; mode = refl; call_state = refl; turns = refl; left = refl; fits = omega arith; level = omega arith }

-- What is done with the first token of held bytes is what reading the call comes to there.

-- a token that is kept or passed
read_used : (b : Bool) (t : SourceToken) (us : List SourceToken) (rest : Reading) → read_by (cond b Keeps Passes) t us rest ≡ onto_kept (cond b t.bytes []) rest
unfolding read_by
read_used true t us rest = refl
read_used false t us rest = sym (onto_kept-nil rest)

-- how many bytes are kept
kept_size_of : (b : Bool) (bytes : List ℕ) (n : ℕ) → length bytes ≡ n → length (kept_of b bytes) ≡ kept_len b n
kept_size_of true bytes n e = e
kept_size_of false bytes n e = refl

-- a token that is used
uses_taken : (at : CallState) (m : Mode) (room : ℕ) (held : List ℕ) (t : Token) (r : Role) (u : Consumed) → 0 < t.len → t.len ≤ length held
    → (call_state_after at r ≡ Before → turn at r (nat_le t.len room) ≡ cond u.is_kept Keeps Passes → t.next_mode ≢ InStr)
    → ((a : Around) → IsAround held a → IsFirst at m room held t r a) → IsStep at r room t u → IsConsumed at m room held u
uses_taken at m room held t r u some inside lead first step =
    let b = u.is_kept in
    let size : length (take t.len held) ≡ t.len = length-take-le t.len held inside in
    let own : length (kept_of b (take u.len held)) ≡ kept_len b t.len =
    ap (λ n. length (kept_of b (take n held))) step.len ∙ kept_size_of b (take t.len held) t.len size in
    record {
      some = omega (arith, step.len);
      inside = omega (arith, step.len);
      fits = omega (arith, own, step.fits);
      level = (let e = ap level_in step.call_state in omega (arith, own, step.level, e));
      lead = λ before open_. lead (sym step.call_state ∙ before) step.turns (sym step.mode ∙ open_);
      reads = λ a around.
          let f = first a around in
          let us = tokens_after a m held t.len t.next_mode in
          let T = own_token t held a.line in
          let G : ℕ → Mode → CallState → ℕ → Reading = λ n d st left. onto_kept (kept_of b (take n held)) (read st (is_open d) left (tokens_after a m held n d)) in
          f.reads
          ∙ ap (λ (w : Turn). read_by w T us (read (call_state_after at r) (is_open t.next_mode) (room_after at room r t.len) us)) step.turns
          ∙ read_used b T us (read (call_state_after at r) (is_open t.next_mode) (room_after at room r t.len) us)
          ∙ ap (G t.len t.next_mode (call_state_after at r)) (step.left ∙ ap (λ n. room - n) (sym own))
          ∙ ap (λ st. G t.len t.next_mode st (room - length (kept_of b (take u.len held)))) (sym step.call_state)
          ∙ ap (λ d. G t.len d (call_state_meant u.call_state) (room - length (kept_of b (take u.len held)))) (sym step.mode)
          ∙ ap (λ n. G n u.next_mode (call_state_meant u.call_state) (room - length (kept_of b (take u.len held)))) (sym step.len);
      bytes = λ a around.
          (first a around).bytes
          ∙ ap (λ d. take t.len held ++ bytes_of (tokens_after a m held t.len d)) (sym step.mode)
          ∙ ap (λ n. take n held ++ bytes_of (tokens_after a m held n u.next_mode)) (sym step.len);
    }

-- the call closes at a `)` alone
closes_end : (at : CallState) (r : Role) (fits : Bool) → turn at r fits ≡ Closes → r ≡ End
unfolding turn turn_before turn_inside turn_fitting
closes_end Before Start fits e = absurd (cc)
closes_end Before (Stops f line) fits e = absurd (cc)
closes_end Before Space fits e = absurd (cc)
closes_end Before Dropped fits e = absurd (cc)
closes_end Before KeptComment fits e = absurd (cc)
closes_end Before r fits e = absurd (cc)
closes_end (Inside k) End fits e = refl
closes_end (Inside k) Dropped fits e = absurd (cc)
closes_end (Inside k) Halt fits e = absurd (cc)
closes_end (Inside k) r true e = absurd (cc)
closes_end (Inside k) r false e = absurd (cc)

-- of a closer
end_kind : (k : Kind) (bytes : List ℕ) → kind_role k bytes ≡ End → k ≡ Closer
unfolding kind_role
end_kind Closer bytes e = refl
end_kind Opener bytes e =
    cond_both (slice_index bytes 0 == 40) _ _ (λ (r : Role). r ≡ End → Opener ≡ Closer) (λ _ h. absurd (cc)) (λ _ h. absurd (cc)) e
end_kind k bytes e = absurd (cc)

-- a token that closes the call
closes_taken : (at : CallState) (m : Mode) (room : ℕ) (held : List ℕ) (t : Token) (r : Role) → t.len ≡ 1 → t.next_mode ≡ Plain
    → ((a : Around) → IsAround held a → IsFirst at m room held t r a) → turn at r (nat_le t.len room) ≡ Closes → IsClose at m room held
unfolding read_by
closes_taken at m room held t r one plain first closes = grind arith

-- a token at which the call is refused
refused_taken : (at : CallState) (m : Mode) (room : ℕ) (held : List ℕ) (t : Token) (r : Role) (f : FaultKind)
    → ((a : Around) → IsAround held a → IsFirst at m room held t r a) → turn at r (nat_le t.len room) ≡ TurnFault f
    → (a : Around) → IsAround held a → read at (is_open m) room (tokens_at a m held) ≡ ReadRefused f
unfolding read_by
refused_taken at m room held t r f first refuses a around = grind arith

-- each answer, by the role of the first token
taken_by : (at : CallState) (m : Mode) (room : ℕ) (held : List ℕ) (t : Token) (r : Role) (x : CallAction) → 0 < t.len → t.len ≤ length held
    → (call_state_after at r ≡ Before → (b : Bool) → turn at r (nat_le t.len room) ≡ cond b Keeps Passes → t.next_mode ≢ InStr)
    → (r ≡ End → (t.len ≡ 1) × (t.next_mode ≡ Plain))
    → ((a : Around) → IsAround held a → IsFirst at m room held t r a) → Answers at r room t x → IsAction at m room held x
taken_by at m room held t r (Consumes u) some inside lead end first answer = uses_taken at m room held t r u some inside (λ h e. lead h u.is_kept e) first answer
taken_by at m room held t r ClosesCall some inside lead end first answer =
    let e = end (closes_end at r (nat_le t.len room) answer) in closes_taken at m room held t r e.0 e.1 first answer
taken_by at m room held t r (Refused f) some inside lead end first answer = refused_taken at m room held t r f first answer
taken_by at m room held t r PerlFound some inside lead end first answer = absurd answer

-- text before the `(` is refused
text_refused : (at : CallState) (fits b : Bool) → call_state_after at Text ≡ Before → turn at Text fits ≡ cond b Keeps Passes → at ≢ at
unfolding turn turn_before call_state_after call_state_after_lead
text_refused Before fits true is e = absurd (cc)
text_refused _ fits b is e = absurd (cc)

-- after what is used before the `(` no string is open
no_string : (at : CallState) (m : Mode) (held : List ℕ) (fits b : Bool) (own : List ℕ) → Seam held [] (token_of m held) (token_of m (held ++ []))
    → call_state_after at (kind_role (token_of m held).kind own) ≡ Before → turn at (kind_role (token_of m held).kind own) fits ≡ cond b Keeps Passes → (token_of m held).next_mode ≢ InStr
unfolding kind_role
no_string at m held fits b own (Closed e closed) before turns open_ = (let no : Plain ≡ InStr = sym closed ∙ open_ in cc)
no_string at m held fits b own (OpenComment is e) before turns open_ = (let mode = ap (λ (v : Token). v.next_mode) is in let no : InBlock ≡ InStr = sym mode ∙ open_ in cc)
no_string at m held fits b own (BeforePerl e is lt perl) before turns open_ =
    let kind = ap (λ (v : Token). v.kind) is in
    let role = ap (λ k. kind_role k own) kind in
    text_refused at fits b (ap (call_state_after at) (sym role) ∙ before) (ap (λ r. turn at r fits) (sym role) ∙ turns) refl
no_string at m held fits b own (OpenString is e) before turns open_ =
    let kind = ap (λ (v : Token). v.kind) is in
    let role = ap (λ k. kind_role k own) kind in
    text_refused at fits b (ap (call_state_after at) (sym role) ∙ before) (ap (λ r. turn at r fits) (sym role) ∙ turns) refl

-- the first token of held bytes, by its role: neither `<%` nor a backquoted name
pub role_taken : (at : CallState) (m : Mode) (room : ℕ) (held : List ℕ) (t : Token) (r : Role) (x : CallAction) → 0 < length held → t ≡ token_of m held
    → is_kept_kind t.kind ≡ true → (at ≡ Before → m ≢ InStr) → r ≡ kind_role t.kind (slice_index held 0 ∷ []) → Answers at r room t x → IsAction at m room held x
unfolding opens_mode is_one_byte
role_taken at m room held t r x some is kept lead role answer =
    let v = token_of m held in
    let own = take v.len held in
    let part = token_of-part m held some in
    let seam = token_of-seam m held [] some (inl refl) in
    let kind : v.kind ≡ t.kind = ap (λ (w : Token). w.kind) (sym is) in
    let text : kind_role v.kind own ≡ r =
    first_byte v.kind own (slice_index held 0 ∷ []) (front_byte v.len held part.not_empty) ∙ ap (λ k. kind_role k (slice_index held 0 ∷ [])) kind ∙ sym role in
    let keeps : is_kept_kind v.kind ≡ true = ap is_kept_kind kind ∙ kept in
    let ending : kind_role v.kind own ≡ End → (v.len ≡ 1) × (v.next_mode ≡ Plain) = λ e.
    (let closer = end_kind v.kind own e in (one_byte_len m held (ap is_one_byte closer), closed_kind_plain m held (ap opens_mode closer))) in
    taken_by at m room held v (kind_role v.kind own) x part.not_empty part.inside
    (λ before b turns. no_string at m held (nat_le v.len room) b own seam before turns)
    ending
    (λ a around. token_first at m room held a around some keeps lead seam)
    (subst (λ (w : Token). Answers at (kind_role v.kind own) room w x) is (subst (λ (q : Role). Answers at q room t x) (sym text) answer))

-- a backquoted name that isn't reserved
pub name_taken : (at : CallState) (room : ℕ) (held : List ℕ) (t : Token) (x : CallAction) → 0 < length held → t ≡ token_of Plain held → t.kind ≡ Back
    → is_reserved (take (t.len - 1) (drop 1 held)) ≡ false → Answers at Text room t x → IsAction at Plain room held x
unfolding opens_mode
name_taken at room held t x some is back free answer =
    let v = token_of Plain held in
    let part = token_of-part Plain held some in
    let kind : v.kind ≡ Back = ap (λ (w : Token). w.kind) (sym is) ∙ back in
    let name : is_reserved (take (v.len - 1) (drop 1 held)) ≡ false = ap (λ (w : Token). is_reserved (take (w.len - 1) (drop 1 held))) (sym is) ∙ free in
    let closed : v.next_mode ≡ Plain = closed_kind_plain Plain held (ap opens_mode kind) in
    taken_by at Plain room held v Text x part.not_empty part.inside
    (λ before b turns open_. (let no : Plain ≡ InStr = sym closed ∙ open_ in cc))
    (λ e. absurd (cc))
    (λ a around. name_first at room held a around some kind closed name)
    (subst (λ (w : Token). Answers at Text room w x) is answer)

-- a directive
pub directive_taken : (at : CallState) (room : ℕ) (held : List ℕ) (t : Token) → 0 < length held → t ≡ token_of Plain held → t.kind ≡ Back
    → is_reserved (take (t.len - 1) (drop 1 held)) ≡ true → IsAction at Plain room held (Refused (fault_at_end at))
unfolding is_open
directive_taken at room held t some is back reserved a around = grind (arith, directive_reads)

-- embedded Perl
pub perl_taken : (at : CallState) (m : Mode) (room : ℕ) (held : List ℕ) → 0 < length held → (token_of m held).kind ≡ Perl → IsAction at m room held PerlFound
perl_taken at m room held some is a around =
    perl_reads at m room held a around some is

-- a backquoted name stands in plain text
pub back_mode : (m : Mode) (held : List ℕ) → (token_of m held).kind ≡ Back → m ≡ Plain
unfolding token_of whole
back_mode Plain held is = refl
back_mode InStr held is = grind (arith, string_token-kind)
back_mode InBlock held is = let k = block_token-kind 0 held in absurd (cc)

-- a kind that is neither of the two stands in the list as it is
pub kept_kind : (k : Kind) → (k ≡ Perl → ⊥) → (k ≡ Back → ⊥) → is_kept_kind k ≡ true
unfolding is_kept_kind
kept_kind Perl a b = absurd (a refl)
kept_kind Back a b = absurd (b refl)
kept_kind k a b = refl

-- Words, blanks and commas after the `(` of a call are used at once.

-- where a test passes, another one passes as long at least
longer : (p q : ℕ → Bool) → ((b : ℕ) → p b ≡ true → q b ≡ true) → (bs : List ℕ) → prefix_len p bs ≤ prefix_len q bs
longer p q h [] = omega arith
longer p q h (b ∷ bs) = grind (arith, cases_Bool, (longer p q h bs))

-- it passes after its first bytes for as long as it did
following : (p : ℕ → Bool) (m : ℕ) (bs : List ℕ) → m ≤ prefix_len p bs → prefix_len p (drop m bs) + m ≡ prefix_len p bs
following p zero bs inside = omega arith
following p (suc m) [] inside = absurd (omega (arith, inside))
following p (suc m) (b ∷ bs) inside = elim (cases_Bool (p b)) [
  | inl e ↦
      let first : prefix_len p (b ∷ bs) ≡ 1 + prefix_len p bs = ap (λ (t : Bool). cond t (1 + prefix_len p bs) 0) e in
      let rest = following p m bs (omega (arith, first, inside)) in
      omega (arith, first, rest)
  | inr e ↦
      let first : prefix_len p (b ∷ bs) ≡ 0 = ap (λ (t : Bool). cond t (1 + prefix_len p bs) 0) e in
      absurd (omega (arith, first, inside))
]

-- no LF is among such bytes
no_line_end : (b : ℕ) → is_plain_argument b ≡ true → b ≡ 10 → ⊥
unfolding is_plain_argument is_line_end
no_line_end b plain_argument e = false≢true (subst (λ (n : ℕ). is_plain_argument n ≡ true) e plain_argument)

no_line_ends : (m : ℕ) (bs : List ℕ) → m ≤ prefix_len is_plain_argument bs → line_ends (take m bs) ≡ 0
unfolding line_ends
no_line_ends zero bs inside = refl
no_line_ends (suc m) bs inside =
    let all = prefix_len-le-length is_plain_argument bs in
    let one : suc m ≡ m + 1 = omega arith in
    ap (λ (n : ℕ). line_ends (take n bs)) one
    ∙ line_ends-miss bs m (omega (arith, inside, all)) (no_line_end (get_or bs m 0) (prefix_len_passes is_plain_argument bs m 0 (omega (arith, inside))))
    ∙ no_line_ends m bs (omega (arith, inside))

-- a kind of token that is kept after the `(` and neither opens nor closes anything there
record IsPlainArgumentKind (kind : Kind) : Type 0 where
  kept : is_kept_kind kind ≡ true
  turns : (own : List ℕ) (k : ℕ) (fits : Bool) → turn_inside (kind_role kind own) k fits ≡ turn_fitting fits Keeps
  size : (own : List ℕ) (n : ℕ) → kept_size (kind_role kind own) n ≡ n
  level : (own : List ℕ) (k : ℕ) → level_after (kind_role kind own) k ≡ k

plain_argument_name : IsPlainArgumentKind Name
unfolding is_kept_kind kind_role turn_inside kept_size level_after
plain_argument_name = record { kept = refl; turns = λ own k fits. refl; size = λ own n. refl; level = λ own k. refl }

plain_argument_word : IsPlainArgumentKind Word
unfolding is_kept_kind kind_role turn_inside kept_size level_after
plain_argument_word = record { kept = refl; turns = λ own k fits. refl; size = λ own n. refl; level = λ own k. refl }

plain_argument_blank : IsPlainArgumentKind Blank
unfolding is_kept_kind kind_role turn_inside kept_size level_after
plain_argument_blank = record { kept = refl; turns = λ own k fits. refl; size = λ own n. refl; level = λ own k. refl }

plain_argument_comma : IsPlainArgumentKind Comma
unfolding is_kept_kind kind_role turn_inside kept_size level_after
plain_argument_comma = record { kept = refl; turns = λ own k fits. refl; size = λ own n. refl; level = λ own k. refl }

plain_argument_other : IsPlainArgumentKind Other
unfolding is_kept_kind kind_role turn_inside kept_size level_after
plain_argument_other = record { kept = refl; turns = λ own k fits. refl; size = λ own n. refl; level = λ own k. refl }

-- the first token of such bytes is one of them, and plain text stands after it
record IsPlainArgumentToken (held : List ℕ) (t : Token) : Type 0 where
  size : t.len ≤ prefix_len is_plain_argument held
  next : t.next_mode ≡ Plain
  kind : IsPlainArgumentKind t.kind

-- a byte that isn't plain argument is none of a class
none_of : (p : ℕ → Bool) (b n : ℕ) → p n ≡ false → p b ≡ true → (b == n) ≡ false
none_of p b n dark e = grind (arith, cases_Bool, false≢true, eqb-true)

plain_argument_by : (b : ℕ) (p : ℕ → Bool) → p b ≡ true → p 10 ≡ false → p 40 ≡ false → p 91 ≡ false → p 123 ≡ false → p 41 ≡ false → p 93 ≡ false → p 125 ≡ false
    → p 34 ≡ false → p 47 ≡ false → p 60 ≡ false → p 96 ≡ false → is_plain_argument b ≡ true
unfolding is_plain_argument is_line_end is_opener is_closer
plain_argument_by b p e h10 h40 h91 h123 h41 h93 h125 h34 h47 h60 h96 =
    rw (none_of p b 10 h10 e, none_of p b 40 h40 e, none_of p b 91 h91 e, none_of p b 123 h123 e, none_of p b 41 h41 e, none_of p b 93 h93 e, none_of p b 125 h125 e, none_of p b 34 h34 e, none_of p b 47 h47 e, none_of p b 60 h60 e, none_of p b 96 h96 e) refl

word_plain_argument : (b : ℕ) → is_word b ≡ true → is_plain_argument b ≡ true
unfolding is_word is_letter is_digit
word_plain_argument b e = plain_argument_by b is_word e refl refl refl refl refl refl refl refl refl refl refl

blank_plain_argument : (b : ℕ) → is_blank b ≡ true → is_plain_argument b ≡ true
unfolding is_blank
blank_plain_argument b e = plain_argument_by b is_blank e refl refl refl refl refl refl refl refl refl refl refl

-- such a byte begins one of these tokens
plain_argument_token : (b : ℕ) (bs : List ℕ) → is_plain_argument b ≡ true → IsPlainArgumentToken (b ∷ bs) (token_of Plain (b ∷ bs))
unfolding is_plain_argument token_of plain_token whole begins_perl begins_line_comment begins_block_comment
plain_argument_token b bs plain_argument =
    let line = no_first (is_line_end b) _ plain_argument in
    let opener = no_first (is_opener b) _ line.1 in
    let closer = no_first (is_closer b) _ opener.1 in
    let quote = no_first (b == 34) _ closer.1 in
    let slash = no_first (b == 47) _ quote.1 in
    let less = no_first (b == 60) _ slash.1 in
    let back = not-true (b == 96) less.1 in
    let held = b ∷ bs in
    let first : prefix_len is_plain_argument held ≡ 1 + prefix_len is_plain_argument bs = ap (λ (t : Bool). cond t (1 + prefix_len is_plain_argument bs) 0) plain_argument in
    let P : Token → Type 0 = λ t. IsPlainArgumentToken held t in
    let word = longer is_word is_plain_argument word_plain_argument held in
    let taken = longer is_word is_plain_argument word_plain_argument bs in
    let one : (kind : Kind) → IsPlainArgumentKind kind → P (whole kind 1) = λ kind k. record { size = omega (arith, first); next = refl; kind = k } in
    cond_both (begins_perl held) _ _ P (λ h. absurd (both_ways _ less.0 (both_first _ _ h))) (λ _.
    cond_both (is_line_end b) _ _ P (λ h. absurd (both_ways _ line.0 h)) (λ _.
    cond_both (is_blank b) _ _ P (λ _. record { size = longer is_blank is_plain_argument blank_plain_argument held; next = refl; kind = plain_argument_blank }) (λ _.
    cond_both (begins_line_comment held) _ _ P (λ h. absurd (both_ways _ slash.0 (both_first _ _ h))) (λ _.
    cond_both (begins_block_comment held) _ _ P (λ h. absurd (both_ways _ slash.0 (both_first _ _ h))) (λ _.
    cond_both (b == 34) _ _ P (λ h. absurd (both_ways _ quote.0 h)) (λ _.
    cond_both (is_letter b) _ _ P (λ _. record { size = word; next = refl; kind = plain_argument_name }) (λ _.
    cond_both (is_digit b) _ _ P (λ _. record { size = word; next = refl; kind = plain_argument_word }) (λ _.
    cond_both (takes_word b && is_word (get_or held 1 0)) _ _ P (λ _. record { size = omega (arith, first, taken); next = refl; kind = plain_argument_word }) (λ _.
    cond_both (b == 96 && is_letter (get_or held 1 0)) _ _ P (λ h. absurd (both_ways _ back (both_first _ _ h))) (λ _.
    cond_both (b == 96) _ _ P (λ h. absurd (both_ways _ back h)) (λ _.
    cond_both (is_opener b) _ _ P (λ h. absurd (both_ways _ opener.0 h)) (λ _.
    cond_both (is_closer b) _ _ P (λ h. absurd (both_ways _ closer.0 h)) (λ _.
    cond_both (b == 44) _ _ P (λ _. one Comma plain_argument_comma) (λ _. one Other plain_argument_other))))))))))))))

plain_argument_first : (held : List ℕ) → 0 < prefix_len is_plain_argument held → IsPlainArgumentToken held (token_of Plain held)
plain_argument_first [] some = absurd (omega (arith, some))
plain_argument_first (b ∷ bs) some = grind (arith, cases_Bool, plain_argument_token)

-- so many bytes are kept at a level of further openers, which stays
abbrev plain_argument_use : ℕ → ℕ → Consumed
plain_argument_use k n = record { len = n; next_mode = Plain; call_state = InsideCall k; is_kept = true }

-- such a token is used so, where it fits
first_used : (k room : ℕ) (held : List ℕ) → 0 < length held → IsPlainArgumentToken held (token_of Plain held) → (token_of Plain held).len ≤ room
    → IsConsumed (Inside k) Plain room held (plain_argument_use k (token_of Plain held).len)
first_used k room held some plain_argument fits =
    let t = token_of Plain held in
    let own = slice_index held 0 ∷ [] in
    let r = kind_role t.kind own in
    let kept : IsKeptAt r k = record { turns = λ f. plain_argument.kind.turns own k f; size = λ n. plain_argument.kind.size own n } in
    subst (λ (m : Mode). IsConsumed (Inside k) Plain room held (record { len = t.len; next_mode = m; call_state = InsideCall k; is_kept = true })) plain_argument.next
    (role_taken (Inside k) Plain room held t r (Consumes (record { len = t.len; next_mode = t.next_mode; call_state = InsideCall k; is_kept = true })) some refl plain_argument.kind.kept
    (λ before (no : Plain ≡ InStr). (cc)) refl
    (keeps_step r k room t k kept fits (token_of-part Plain held some).not_empty (sym (plain_argument.kind.level own k))))

-- the tokens after two parts of held bytes, the first of which has no line end
after_both : (a : Around) (held : List ℕ) (m n : ℕ) → line_ends (take m held) ≡ 0
    → tokens_after (record { most = a.most; opened = opening Plain a.opened a.line; line = a.line + line_ends (take m held); left = a.left; rest = a.rest }) Plain (drop m held) n Plain
    ≡ tokens_after a Plain held (m + n) Plain
unfolding opening
after_both a held m n none =
    let R : ℕ → ℕ → List ℕ → List SourceToken = λ opened line bytes. remaining_tokens a.most Plain opened line bytes a.left a.rest in
    let part : line_ends (take m held) + line_ends (take n (drop m held)) ≡ line_ends (take (m + n) held) =
    ap (λ (k : ℕ). line_ends (take m held) + line_ends (take k (drop m held))) (same m n) ∙ line_ends-part held m n in
    ap (λ (o : ℕ). R o (a.line + line_ends (take m held) + line_ends (take n (drop m held))) (drop n (drop m held))) (omega (arith, none))
    ∙ ap (λ (l : ℕ). R a.line l (drop n (drop m held))) (omega (arith, part))
    ∙ ap (λ (bytes : List ℕ). R a.line (a.line + line_ends (take (m + n) held)) bytes) (drop-drop n m held)
  where
    same : (x y : ℕ) → y ≡ x + y - x
    same x y = omega arith

-- two uses are one
used_both : (k room m n : ℕ) (held : List ℕ) → IsConsumed (Inside k) Plain room held (plain_argument_use k m) → IsConsumed (Inside k) Plain (room - m) (drop m held) (plain_argument_use k n)
    → line_ends (take m held) ≡ 0 → m + n ≤ length held → m + n ≤ room → IsConsumed (Inside k) Plain room held (plain_argument_use k (m + n))
unfolding call_state_meant level_in
used_both k room m n held p q none inside fits =
    let first : length (take m held) ≡ m = length-take-le m held (omega (arith, inside)) in
    let size : length (take (m + n) held) ≡ m + n = length-take-le (m + n) held inside in
    let some = p.some in
    let second : length (take n (drop m held)) ≡ n = length-take-le n (drop m held) q.inside in
    record {
      some = omega (arith, some);
      inside = inside;
      fits = omega (arith, size, fits);
      level = omega arith;
      lead = λ before (no : Plain ≡ InStr). (cc);
      reads = λ a around.
          let b = around_after a held m in
          let split = take-add m n held in
          let left : room - m - length (take n (drop m held)) ≡ room - length (take (m + n) held) = omega (arith, second, size) in
          p.reads a around
          ∙ ap (λ (x : ℕ). onto_kept (take m held) (read (Inside k) (is_open Plain) (room - x) (tokens_after a Plain held m Plain))) first
          ∙ ap (λ (r : Reading). onto_kept (take m held) r) (q.reads b (record { ends = EndsLine-drop m held a.rest around.ends }))
          ∙ sym (onto_kept-append (take m held) (take n (drop m held)) _)
          ∙ ap (λ (bytes : List ℕ). onto_kept bytes (read (Inside k) (is_open Plain) (room - m - length (take n (drop m held))) (tokens_after b Plain (drop m held) n Plain))) (sym split)
          ∙ ap (λ (x : ℕ). onto_kept (take (m + n) held) (read (Inside k) (is_open Plain) x (tokens_after b Plain (drop m held) n Plain))) left
          ∙ ap (λ (ts : List SourceToken). onto_kept (take (m + n) held) (read (Inside k) (is_open Plain) (room - length (take (m + n) held)) ts)) (after_both a held m n none);
      bytes = λ a around.
          let b = around_after a held m in
          p.bytes a around
          ∙ ap (λ (bytes : List ℕ). take m held ++ bytes) (q.bytes b (record { ends = EndsLine-drop m held a.rest around.ends }))
          ∙ sym (append_assoc (take m held) (take n (drop m held)) _)
          ∙ ap (λ (bytes : List ℕ). bytes ++ bytes_of (tokens_after b Plain (drop m held) n Plain)) (sym (take-add m n held))
          ∙ ap (λ (ts : List SourceToken). take (m + n) held ++ bytes_of ts) (after_both a held m n none);
    }
  where
    around_after : Around → List ℕ → ℕ → Around
    around_after a bytes at = record { most = a.most; opened = opening Plain a.opened a.line; line = a.line + line_ends (take at bytes); left = a.left; rest = a.rest }

-- all such bytes are used at once
plain_argument_run : (fuel k room : ℕ) (held : List ℕ) → prefix_len is_plain_argument held ≤ fuel → 0 < prefix_len is_plain_argument held → prefix_len is_plain_argument held ≤ room
    → IsConsumed (Inside k) Plain room held (plain_argument_use k (prefix_len is_plain_argument held))
plain_argument_run zero k room held most some fits = absurd (omega (arith, most, some))
plain_argument_run (suc fuel) k room held most some fits =
    let all = prefix_len-le-length is_plain_argument held in
    let plain_argument = plain_argument_first held some in
    let size = plain_argument.size in
    let m = (token_of Plain held).len in
    let long = (token_of-part Plain held (omega (arith, some, all))).not_empty in
    let first = first_used k room held (omega (arith, some, all)) plain_argument (omega (arith, size, fits)) in
    let rest = following is_plain_argument m held size in
    elim (cases_Bool (nat_le (prefix_len is_plain_argument (drop m held)) 0)) [
      | inl e ↦
          let none = leb-true (prefix_len is_plain_argument (drop m held)) 0 e in
          let same : m ≡ prefix_len is_plain_argument held = omega (arith, rest, none) in
          subst (λ (n : ℕ). IsConsumed (Inside k) Plain room held (plain_argument_use k n)) same first
      | inr e ↦
          let n = prefix_len is_plain_argument (drop m held) in
          let more = leb-false n 0 e in
          let same : m + n ≡ prefix_len is_plain_argument held = omega (arith, rest) in
          subst (λ (x : ℕ). IsConsumed (Inside k) Plain room held (plain_argument_use k x)) same
          (used_both k room m n held first
          (plain_argument_run fuel k (room - m) (drop m held) (omega (arith, rest, most, long)) more (omega (arith, rest, fits)))
          (no_line_ends m held size) (omega (arith, same, all)) (omega (arith, same, fits)))
    ]

-- so they are after a call's `(`
pub plain_argument_used : (k room n : ℕ) (held : List ℕ) → n ≡ prefix_len is_plain_argument held → (n ≡ 0 → ⊥) → n ≤ room
    → IsConsumed (Inside k) Plain room held (record { len = n; next_mode = Plain; call_state = InsideCall k; is_kept = true })
plain_argument_used k room n held is some fits =
    subst (λ (x : ℕ). IsConsumed (Inside k) Plain room held (plain_argument_use k x)) (sym is)
    (plain_argument_run (prefix_len is_plain_argument held) k room held (omega arith) (omega (arith, is, some)) (omega (arith, is, fits)))

-- The faults that the reading of a call ends with.

-- what a turn refuses a call for
abbrev RefusesCall : Turn → Type 0
RefusesCall (TurnFault f) = is_read_fault f ≡ true
RefusesCall t = Unit

-- before the `(`
before : (r : Role) → RefusesCall (turn_before r)
unfolding turn_before is_read_fault
before Space = tt
before Dropped = tt
before KeptComment = tt
before Start = tt
before (Stops f line) = tt
before r = refl

-- what is text of a call
fitting : (fits : Bool) (t : Turn) → RefusesCall t → RefusesCall (turn_fitting fits t)
unfolding turn_fitting is_read_fault
fitting true t h = h
fitting false t h = refl

-- after the `(`
inside : (r : Role) (k : ℕ) (fits : Bool) → RefusesCall (turn_inside r k fits)
unfolding turn_inside is_read_fault
inside End zero fits = tt
inside End (suc k) fits = fitting fits Keeps tt
inside Dropped k fits = tt
inside Halt k fits = refl
inside (Ends f line) k fits = fitting fits (Breaks f line) tt
inside (Stops f line) k fits = fitting fits (Breaks f line) tt
inside r k fits = fitting fits Keeps tt

-- at any turn
at_turn : (at : CallState) (r : Role) (fits : Bool) → RefusesCall (turn at r fits)
unfolding turn
at_turn Before r fits = before r
at_turn (Inside k) r fits = inside r k fits

-- where nothing follows
pub end_fault : (at : CallState) → is_read_fault (fault_at_end at) ≡ true
unfolding fault_at_end is_read_fault
end_fault Before = refl
end_fault (Inside k) = refl

-- a reading that is refused with kept bytes in front is refused without them
without_kept : (bytes : List ℕ) (r : Reading) (f : FaultKind) → onto_kept bytes r ≡ ReadRefused f → r ≡ ReadRefused f
unfolding onto_kept
without_kept bytes (ReadRefused g) f e = e
without_kept bytes _ f e = cc

-- one fault
same_fault : (g f : FaultKind) → ReadRefused g ≡ ReadRefused f → g ≡ f
same_fault g f e = cc

-- a reading that is refused, by what the scan does at its first token
by_turn : (u : Turn) (t : SourceToken) (ts : List SourceToken) (rest : Reading) (f : FaultKind) → RefusesCall u → (rest ≡ ReadRefused f → is_read_fault f ≡ true)
    → read_by u t ts rest ≡ ReadRefused f → is_read_fault f ≡ true
unfolding read_by
by_turn Passes t ts rest f own further e = further e
by_turn Keeps t ts rest f own further e = further (without_kept t.bytes rest f e)
by_turn (TurnFault g) t ts rest f own further e = subst (λ (k : FaultKind). is_read_fault k ≡ true) (same_fault g f e) own
by_turn _ t ts rest f own further e = cc

-- a reading that is refused is so for a fault of a call
pub refused_fault : (at : CallState) (part : Bool) (room : ℕ) (ts : List SourceToken) (f : FaultKind) → read at part room ts ≡ ReadRefused f → is_read_fault f ≡ true
unfolding read
refused_fault at part room [] f e = subst (λ (k : FaultKind). is_read_fault k ≡ true) (same_fault (fault_at_end at) f e) (end_fault at)
refused_fault at part room (t ∷ ts) f e =
    let r = role_in part t in
    by_turn (turn at r (nat_le (length t.bytes) room)) t ts (read (call_state_after at r) false (room_after at room r (length t.bytes)) ts) f
    (at_turn at r (nat_le (length t.bytes) room)) (refused_fault (call_state_after at r) false (room_after at room r (length t.bytes)) ts f) e

-- so it is where a call ends at a token
pub ended_fault : {R : Type 0} (at : CallState) (room : ℕ) (old_bytes new_bytes : List ℕ) (old new : List (File R)) (f : FaultKind)
    → IsEnded at room old_bytes new_bytes old new (call.Refused f) → is_read_fault f ≡ true
unfolding reading
ended_fault {R} at room old_bytes new_bytes old new f h =
    let unread : R → List ℕ = λ reader. [] in
    refused_fault at (is_open (inner_buffer old).mode) room (tokens_left unread (inner_buffer old)) f ((h.reads unread).answer tt)

-- the faults of broken tokens are faults of reading
pub perl_fault : is_read_fault EmbeddedPerl ≡ true
unfolding is_read_fault
perl_fault = refl

pub string_fault : is_read_fault fault.OpenString ≡ true
unfolding is_read_fault
string_fault = refl

pub comment_fault : is_read_fault fault.OpenComment ≡ true
unfolding is_read_fault
comment_fault = refl

pub line_fault : is_read_fault LineTooLong ≡ true
unfolding is_read_fault
line_fault = refl

pub source_fault : is_read_fault SourceTooLong ≡ true
unfolding is_read_fault
source_fault = refl
