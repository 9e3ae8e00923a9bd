-- The first token of held bytes as a call reads it, and where a call is halted by a directive or broken.
use Rattle.std.proofs.Common.{◌≡◌, ◌≢◌, ℕ, ◌+◌, ◌-◌, ◌≤◌, ◌<◌, Bool, true, false, ◌==◌, List, [], ◌∷◌, ◌++◌, length, take, drop, slice_index, refl, sym, ap, ◌∙◌, subst, append_assoc, append-nil, arith, suc, cond, ◌||◌, Option, None, Some, nat_le, nat_lt, bytes_eq, codes, is_some, eqb-true, le-leb, length-take-le, length-drop, take_all, length-append}
use Rattle.std.proofs.lemmas.Bool.{false≢true, and_parts, cond_both, or_parts}
use Rattle.std.proofs.lemmas.List.{drop_all}
use Rattle.rdlpp_scan.specs.declared.token.Kind.{Kind}
use Rattle.rdlpp_scan.specs.declared.token.Kind.TheVariants.{Str, BlockComment, Back, Perl}
use Rattle.rdlpp_scan.specs.declared.token.Mode.{Mode}
use Rattle.rdlpp_scan.specs.declared.token.Mode.TheVariants.{Plain, InStr, InBlock}
use Rattle.rdlpp_scan.specs.declared.token.Token.{Token}
use Rattle.rdlpp_scan.specs.Bytes.{begins_perl, begins_block_comment}
use Rattle.rdlpp_scan.specs.Front.{Breach, PerlFound, DefineLong, DefineCut, Break, front}
use Rattle.rdlpp_scan.specs.Resumed.{onto_tokens, opening, with_part, line_with}
use Rattle.rdlpp_scan.specs.SourceTokens.{SourceToken, Ordinary, Broken, line_ends, remaining_tokens, Course, Step, Last, Next, Definition, broken, define_step, line_step, logical_len, source_tokens, source_step}
use Rattle.rdlpp_scan.specs.Tokens.{token_of, whole}
use Rattle.rdlpp_scan.proofs.RemainingLaws.{remaining-opened, following, course, remaining-perl, remaining-closed, remaining-open_string, remaining-open_comment, remaining-cut_string, remaining-perl_in_string, after_step, tokens_step, perl_in_string}
use Rattle.rdlpp_scan.specs.Ordinary.{is_plain_kind}
use Rattle.rdlpp_scan.specs.Pieces.{is_open}
use Rattle.rdlpp_scan.specs.Reserved.{is_reserved, reserved_names}
use Rattle.rdlpp_scan.proofs.Seams.{Seam, Closed, BeforePerl, OpenString, OpenComment}
use Rattle.rdlpp_texts.proofs.QuickTokens.{front_byte}
use Rattle.rdlpp_scan.proofs.StopKinds.{block_token-kind, Row, AtPerl, AtLineComment, AtBlockComment, AtString, AtBack, AtBare, AtPlain, token_of-row, row-string}
use Rattle.rdlpp_scan.proofs.TokenLens.{token_of-part}
use Rattle.rdlpp_scan.proofs.TokenSteps.{is_kept_kind, back_held, next_held}
use Rattle.rdlpp_meaning.specs.declared.fault.FaultKind.TheVariants.{ArgumentsMissing, EmbeddedPerl}
use Rattle.rdlpp_meaning.specs.Actuals.{Role, KeptComment, Text, kind_role, kept_size, level_after, token_role, Halt, broken_role}
use Rattle.rdlpp_meaning.specs.CallReading.{Reading, ReadRefused, is_part_sort, part_kept, read, read_by, rest_role, role_in, ReadStopped, is_part_breach}
use Rattle.rdlpp_meaning.specs.CallScan.{CallState, Before, Inside, Keeps, turn, turn_before, turn_inside, turn_fitting, call_state_after, call_state_after_lead, room_after, source_role, fault_at_end}
use Rattle.rdlpp_meaning.specs.Expansion.{bytes_of, usage_token}
use Rattle.rdlpp_meaning.specs.Parts.{directive_of, tokenless_worded}
use Rattle.rdlpp_meaning.proofs.ReadCalls.{BrokenRest, IsRest, WholeRest, comment_part_before, comment_remains, open_comment_before, open_string_before, part_inside, string_before, string_remains}
use Rattle.rdlpp_usages.specs.CallActions.{Around, IsAround, tokens_at, tokens_after}
use Rattle.rdlpp_scan.specs.declared.token.Directive.{Directive}
use Rattle.rdlpp_meaning.specs.State.{breach_kind}
use Rattle.rdlpp_meaning.proofs.LiveText.{source_role_directive, source_role_text, usage_text}

-- The first token of held bytes, or the part of it that is held, as a call reads it.

-- a token of a text, with its bytes, on a line
abbrev pub own_token : Token → List ℕ → ℕ → SourceToken
own_token t held line = record { sort = Ordinary t.kind; bytes = take t.len held; line = line }

-- the first token of held bytes is read by its role, and then what stands after it
pub record IsFirst (at : CallState) (m : Mode) (room : ℕ) (held : List ℕ) (t : Token) (r : Role) (a : Around) : Type 0 where
  pub reads : read at (is_open m) room (tokens_at a m held)
      ≡ read_by (turn at r (nat_le t.len room)) (own_token t held a.line) (tokens_after a m held t.len t.next_mode)
      (read (call_state_after at r) (is_open t.next_mode) (room_after at room r t.len) (tokens_after a m held t.len t.next_mode))
  pub bytes : bytes_of (tokens_at a m held) ≡ take t.len held ++ bytes_of (tokens_after a m held t.len t.next_mode)

-- the role of a token of a kind that stands in the list as it is
kept_role_by : (k : Kind) (bytes : List ℕ) (line : ℕ) → is_kept_kind k ≡ true → source_role (record { sort = Ordinary k; bytes = bytes; line = line }) ≡ kind_role k bytes
unfolding is_kept_kind source_role directive_of token_role
kept_role_by Back bytes line h = absurd (false≢true h)
kept_role_by k bytes line h = refl

-- in each mode
kept_role : (m : Mode) (k : Kind) (bytes : List ℕ) (line : ℕ) → is_kept_kind k ≡ true → role_in (is_open m) (record { sort = Ordinary k; bytes = bytes; line = line }) ≡ kind_role k bytes
unfolding role_in is_open rest_role
kept_role Plain k bytes line h = kept_role_by k bytes line h
kept_role _ k bytes line h = refl

-- the first of tokens is read by its role
pub head_read : (at : CallState) (p : Bool) (room : ℕ) (t : SourceToken) (ts : List SourceToken) (r : Role) (n : ℕ) (next : Mode)
    → role_in p t ≡ r → length t.bytes ≡ n → next ≡ Plain
    → read at p room (t ∷ ts) ≡ read_by (turn at r (nat_le n room)) t ts (read (call_state_after at r) (is_open next) (room_after at room r n) ts)
unfolding read is_open
head_read at p room t ts r n next role size plain = grind (arith, nat_le)

-- a token that is whole in held bytes
pub whole_first : (at : CallState) (m : Mode) (room : ℕ) (held : List ℕ) (t : Token) (r : Role) (a : Around)
    → length (take t.len held) ≡ t.len → t.next_mode ≡ Plain → role_in (is_open m) (own_token t held a.line) ≡ r
    → tokens_at a m held ≡ own_token t held a.line ∷ remaining_tokens a.most Plain a.line (a.line + line_ends (take t.len held)) (drop t.len held) a.left a.rest
    → IsFirst at m room held t r a
whole_first at m room held t r a size closed role e = grind (arith, following, remaining-opened, head_read)

-- a token that is closed in held bytes
closed_first : (at : CallState) (m : Mode) (room : ℕ) (held : List ℕ) (a : Around) → IsAround held a → 0 < length held → is_kept_kind (token_of m held).kind ≡ true → (token_of m held).next_mode ≡ Plain
    → IsFirst at m room held (token_of m held) (kind_role (token_of m held).kind (take (token_of m held).len held)) a
closed_first at m room held a around some kept closed =
    let t = token_of m held in
    let own = take t.len held in
    whole_first at m room held t (kind_role t.kind own) a (length-take-le t.len held (token_of-part m held some).inside) closed (kept_role m t.kind own a.line kept)
    (remaining-closed a.most m a.opened a.line held a.left a.rest some around.ends kept closed)

-- a part that is kept, by what the scan does with it
part_by_turn : (fits : Bool) (t : SourceToken) (ts : List SourceToken) (rest : Reading) → part_kept fits t.bytes rest ≡ read_by (turn_fitting fits Keeps) t ts rest
unfolding part_kept turn_fitting read_by
part_by_turn true t ts rest = refl
part_by_turn false t ts rest = refl

-- the rest of a string or of a comment, with how it can be broken
record IsHead (ts : List SourceToken) : Type 0 where
  first : SourceToken
  more : List SourceToken
  is : ts ≡ first ∷ more
  sort : is_part_sort first.sort ≡ true

string_head : (ts : List SourceToken) → IsRest Str ts → IsHead ts
unfolding is_part_sort
string_head ts (WholeRest bytes line more is) = record { first = record { sort = Ordinary Str; bytes = bytes; line = line }; more = more; is = is; sort = refl }
string_head ts (BrokenRest b bytes line h is) = record { first = record { sort = Broken b; bytes = bytes; line = line }; more = []; is = is; sort = h }

comment_head : (ts : List SourceToken) → IsRest BlockComment ts → IsHead ts
unfolding is_part_sort
comment_head ts (WholeRest bytes line more is) = record { first = record { sort = Ordinary BlockComment; bytes = bytes; line = line }; more = more; is = is; sort = refl }
comment_head ts (BrokenRest b bytes line h is) = record { first = record { sort = Broken b; bytes = bytes; line = line }; more = []; is = is; sort = h }

-- a part in front of tokens, in bytes
onto_bytes : (part : List ℕ) (line : ℕ) (ts : List SourceToken) → IsHead ts → bytes_of (onto_tokens part line ts) ≡ part ++ bytes_of ts
unfolding onto_tokens with_part
onto_bytes part line ts h = grind (arith, append_assoc)

-- a part after the `(`
part_read : (k room line : ℕ) (p : Bool) (part : List ℕ) (t : SourceToken) (ts us : List SourceToken) → IsHead ts → t.bytes ≡ part
    → read (Inside k) p room (onto_tokens part line ts) ≡ read_by (turn_fitting (nat_le (length part) room) Keeps) t us (read (Inside k) true (room - length part) ts)
unfolding onto_tokens
part_read k room line p part t ts us h own = grind (arith, part_inside, nat_le, part_by_turn)

-- a string or comment of which a part is held, after the `(`
open_inside : (k : ℕ) (m : Mode) (room : ℕ) (held : List ℕ) (t : Token) (r : Role) (a : Around) → t.len ≤ length held
    → ((fits : Bool) → turn_inside r k fits ≡ turn_fitting fits Keeps) → level_after r k ≡ k → kept_size r t.len ≡ t.len → is_open t.next_mode ≡ true
    → IsHead (tokens_after a m held t.len t.next_mode)
    → tokens_at a m held ≡ onto_tokens (take t.len held) a.line (tokens_after a m held t.len t.next_mode)
    → IsFirst (Inside k) m room held t r a
unfolding turn call_state_after room_after
open_inside k m room held t r a inside turns level kept open_ head e =
    let own = take t.len held in
    let us = tokens_after a m held t.len t.next_mode in
    let T = own_token t held a.line in
    let size : length own ≡ t.len = length-take-le t.len held inside in
    record {
      reads =
          ap (read (Inside k) (is_open m) room) e
          ∙ part_read k room a.line (is_open m) own T us us head refl
          ∙ ap (λ n. read_by (turn_fitting (nat_le n room) Keeps) T us (read (Inside k) true (room - n) us)) size
          ∙ ap (λ n. read_by (turn_fitting (nat_le t.len room) Keeps) T us (read (Inside k) true (room - n) us)) (sym kept)
          ∙ ap (λ w. read_by w T us (read (Inside k) true (room - kept_size r t.len) us)) (sym (turns (nat_le t.len room)))
          ∙ ap (λ n. read_by (turn_inside r k (nat_le t.len room)) T us (read (Inside n) true (room - kept_size r t.len) us)) (sym level)
          ∙ ap (λ b. read_by (turn_inside r k (nat_le t.len room)) T us (read (Inside (level_after r k)) b (room - kept_size r t.len) us)) (sym open_);
      bytes = ap bytes_of e ∙ onto_bytes own a.line us head;
    }

-- the first byte of text in front of text
front_first : (xs ys : List ℕ) → 0 < length xs → slice_index (xs ++ ys) 0 ≡ slice_index xs 0
front_first [] ys some = absurd (omega arith)
front_first (x ∷ xs) ys some = refl

-- before the `(`, a string of which a part is held
string_part_before : (room line : ℕ) (part : List ℕ) (ts : List SourceToken) → IsRest Str ts → 0 < length part → (slice_index part 0 == 34) ≡ true
    → read Before false room (onto_tokens part line ts) ≡ ReadRefused ArgumentsMissing
unfolding onto_tokens with_part line_with
string_part_before room line part ts (WholeRest bytes own more is) some quote =
    ap (λ xs. read Before false room (onto_tokens part line xs)) is ∙ string_before room line (part ++ bytes) more
string_part_before room line part ts (BrokenRest b bytes own h is) some quote = grind (arith, open_string_before, front_first)

-- before the `(`, a comment that is broken, and of which a part passed before
torn_comment_before : (room line own : ℕ) (part bytes : List ℕ) (b : Breach) (ts : List SourceToken)
    → read Before true room (with_part part line (record { sort = Broken b; bytes = bytes; line = own }) ∷ ts)
    ≡ read Before true room (record { sort = Broken b; bytes = bytes; line = own } ∷ ts)
unfolding read role_in rest_role with_part line_with turn turn_before read_by
torn_comment_before room line own part bytes b ts = refl

-- before the `(`, a comment of which a part is held passes
comment_before : (p : Bool) (room line : ℕ) (part : List ℕ) (ts : List SourceToken) → IsRest BlockComment ts → 0 < length part → (p ≡ false → (slice_index part 0 == 34) ≡ false)
    → read Before p room (onto_tokens part line ts) ≡ read Before true room ts
unfolding onto_tokens
comment_before p room line part ts (WholeRest bytes own more is) some other =
    ap (λ xs. read Before p room (onto_tokens part line xs)) is ∙ comment_part_before p room line own part bytes more ∙ ap (read Before true room) (sym is)
comment_before true room line part ts (BrokenRest b bytes own h is) some other =
    ap (λ xs. read Before true room (onto_tokens part line xs)) is ∙ torn_comment_before room line own part bytes b [] ∙ ap (read Before true room) (sym is)
comment_before false room line part ts (BrokenRest b bytes own h is) some other = grind (arith, open_comment_before, front_first)

comment_slash : (bs : List ℕ) (t : Token) → Row bs t → t.kind ≡ BlockComment → (slice_index bs 0 == 34) ≡ false
unfolding whole is_plain_kind begins_block_comment
comment_slash bs t (AtBlockComment h e) is = grind (arith, eqb-true, and_parts)
comment_slash bs t (AtString h e) is = absurd (cc)
comment_slash bs t (AtPerl h e) is = let i = ap (λ (u : Token). u.kind) e in absurd (cc)
comment_slash bs t (AtLineComment h e) is = absurd (cc)
comment_slash bs t (AtBack h e) is = let i = ap (λ (u : Token). u.kind) e in absurd (cc)
comment_slash bs t (AtBare h g e) is = let i = ap (λ (u : Token). u.kind) e in absurd (cc)
comment_slash bs t (AtPlain h q) is = absurd (false≢true (sym (ap is_plain_kind is) ∙ h))

-- all of held bytes, and nothing after them
all_held : (held : List ℕ) (n : ℕ) → n ≡ length held → take n held ≡ held
all_held held n e = take_all n held (omega (arith, e))

none_after : (held : List ℕ) (n : ℕ) → n ≡ length held → drop n held ≡ []
none_after held n e = drop_all n held (omega (arith, e))

-- a part that is all of held bytes, in front of what remains of its token
whole_part : (m next : Mode) (held : List ℕ) (n : ℕ) (a : Around) (mode : Mode) → n ≡ length held → mode ≡ next
    → tokens_at a m held ≡ onto_tokens held a.line (remaining_tokens a.most next (opening m a.opened a.line) (a.line + line_ends held) [] a.left a.rest)
    → tokens_at a m held ≡ onto_tokens (take n held) a.line (tokens_after a m held n mode)
whole_part m next held n a mode len is e = grind (arith, all_held, none_after)

-- a string that `<%` cuts, in front of what remains after its part
cut_part : (m : Mode) (held : List ℕ) (a : Around) → IsAround held a → 0 < length held → (token_of m held).kind ≡ Str → (token_of m held).next_mode ≡ InStr → (token_of m held).len < length held → begins_perl (drop (token_of m held).len held) ≡ true
    → tokens_at a m held ≡ onto_tokens (take (token_of m held).len held) a.line (tokens_after a m held (token_of m held).len (token_of m held).next_mode)
unfolding onto_tokens with_part line_with
cut_part m held a around some kind mode lt perl =
    let t = token_of m held in
    let own = take t.len held in
    let left = drop t.len held in
    let there : 0 < length left = omega (arith, length-drop t.len held) in
    let rest : tokens_after a m held t.len InStr ≡ record { sort = Broken PerlFound; bytes = []; line = a.line + line_ends own } ∷ [] =
    remaining-perl_in_string a.most (opening m a.opened a.line) (a.line + line_ends own) left a.left a.rest there perl in
    remaining-cut_string a.most m a.opened a.line held a.left a.rest some around.ends kind mode lt
    ∙ ap (λ (z : List ℕ). record { sort = Broken PerlFound; bytes = z; line = a.line + line_ends own } ∷ []) (sym (append-nil own))
    ∙ ap (onto_tokens own a.line) (sym rest)
    ∙ ap (λ (d : Mode). onto_tokens own a.line (tokens_after a m held t.len d)) (sym mode)

-- a string in held bytes that isn't closed there, by where the call stands
string_by : (at : CallState) (m : Mode) (room : ℕ) (held : List ℕ) (t : Token) (a : Around) → 0 < length held → 0 < t.len → t.len ≤ length held
    → (at ≡ Before → m ≡ Plain) → (m ≡ Plain → (slice_index held 0 == 34) ≡ true) → t.next_mode ≡ InStr
    → tokens_at a m held ≡ onto_tokens (take t.len held) a.line (tokens_after a m held t.len t.next_mode)
    → IsFirst at m room held t Text a
unfolding turn turn_before turn_inside read_by level_after kept_size is_open
string_by (Inside k) m room held t a some long inside lead quote mode e =
    let rest : IsRest Str (tokens_after a m held t.len t.next_mode) =
    subst (λ (d : Mode). IsRest Str (tokens_after a m held t.len d)) (sym mode)
    (string_remains a.most (opening m a.opened a.line) (a.line + line_ends (take t.len held)) (drop t.len held) a.left a.rest) in
    open_inside k m room held t Text a inside (λ fits. refl) refl refl (ap is_open mode) (string_head (tokens_after a m held t.len t.next_mode) rest) e
string_by Before m room held t a some long inside lead quote mode e =
    let own = take t.len held in
    let us = tokens_after a m held t.len t.next_mode in
    let rest : IsRest Str us =
    subst (λ (d : Mode). IsRest Str (tokens_after a m held t.len d)) (sym mode)
    (string_remains a.most (opening m a.opened a.line) (a.line + line_ends own) (drop t.len held) a.left a.rest) in
    let size : length own ≡ t.len = length-take-le t.len held inside in
    let plain = lead refl in
    let first : (slice_index own 0 == 34) ≡ true = ap (λ (z : ℕ). z == 34) (front_byte t.len held long) ∙ quote plain in
    record {
      reads =
          ap (λ (d : Mode). read Before (is_open d) room (tokens_at a m held)) plain
          ∙ ap (read Before false room) e
          ∙ string_part_before room a.line own us rest (omega (arith, size)) first;
      bytes = ap bytes_of e ∙ onto_bytes own a.line us (string_head us rest);
    }

-- a comment in held bytes that isn't closed there, by where the call stands
comment_by : (at : CallState) (m : Mode) (room : ℕ) (held : List ℕ) (t : Token) (a : Around) → 0 < length held → 0 < t.len → t.len ≤ length held
    → (is_open m ≡ false → (slice_index held 0 == 34) ≡ false) → t.next_mode ≡ InBlock
    → tokens_at a m held ≡ onto_tokens (take t.len held) a.line (tokens_after a m held t.len t.next_mode)
    → IsFirst at m room held t KeptComment a
unfolding turn turn_before turn_inside read_by level_after kept_size is_open call_state_after call_state_after_lead room_after
comment_by (Inside k) m room held t a some long inside slash mode e =
    let rest : IsRest BlockComment (tokens_after a m held t.len t.next_mode) =
    subst (λ (d : Mode). IsRest BlockComment (tokens_after a m held t.len d)) (sym mode)
    (comment_remains a.most (opening m a.opened a.line) (a.line + line_ends (take t.len held)) (drop t.len held) a.left a.rest) in
    open_inside k m room held t KeptComment a inside (λ fits. refl) refl refl (ap is_open mode) (comment_head (tokens_after a m held t.len t.next_mode) rest) e
comment_by Before m room held t a some long inside slash mode e =
    let own = take t.len held in
    let us = tokens_after a m held t.len t.next_mode in
    let rest : IsRest BlockComment us =
    subst (λ (d : Mode). IsRest BlockComment (tokens_after a m held t.len d)) (sym mode)
    (comment_remains a.most (opening m a.opened a.line) (a.line + line_ends own) (drop t.len held) a.left a.rest) in
    let size : length own ≡ t.len = length-take-le t.len held inside in
    let first : is_open m ≡ false → (slice_index own 0 == 34) ≡ false = λ h. ap (λ (z : ℕ). z == 34) (front_byte t.len held long) ∙ slash h in
    record {
      reads =
          ap (read Before (is_open m) room) e
          ∙ comment_before (is_open m) room a.line own us rest (omega (arith, size)) first
          ∙ ap (λ b. read Before b room us) (sym (ap is_open mode));
      bytes = ap bytes_of e ∙ onto_bytes own a.line us (comment_head us rest);
    }

-- a string stands in plain text, or in a string
string_mode : (at : CallState) (m : Mode) (held : List ℕ) → (token_of m held).kind ≡ Str → (at ≡ Before → m ≢ InStr) → at ≡ Before → m ≡ Plain
unfolding token_of
string_mode at Plain held kind lead is = refl
string_mode at InStr held kind lead is = absurd (lead is refl)
string_mode at InBlock held kind lead is = let k = block_token-kind 0 held in absurd (cc)

string_begins : (m : Mode) (held : List ℕ) → (token_of m held).kind ≡ Str → m ≡ Plain → (slice_index held 0 == 34) ≡ true
string_begins Plain held kind is = row-string held (token_of Plain held) (token_of-row held) kind
string_begins _ held kind is = absurd (cc)

comment_begins : (m : Mode) (held : List ℕ) → (token_of m held).kind ≡ BlockComment → is_open m ≡ false → (slice_index held 0 == 34) ≡ false
unfolding is_open
comment_begins Plain held kind is = comment_slash held (token_of Plain held) (token_of-row held) kind
comment_begins _ held kind is = absurd (false≢true (sym is))

-- the role of a string, and of a comment
string_role : (k : Kind) (bytes : List ℕ) → k ≡ Str → Text ≡ kind_role k bytes
unfolding kind_role
string_role k bytes is = sym (ap (λ (x : Kind). kind_role x bytes) is)

comment_role : (k : Kind) (bytes : List ℕ) → k ≡ BlockComment → KeptComment ≡ kind_role k bytes
unfolding kind_role
comment_role k bytes is = sym (ap (λ (x : Kind). kind_role x bytes) is)

-- the first token of held bytes, or the part of it that is held
pub token_first : (at : CallState) (m : Mode) (room : ℕ) (held : List ℕ) (a : Around) → IsAround held a → 0 < length held → is_kept_kind (token_of m held).kind ≡ true → (at ≡ Before → m ≢ InStr)
    → Seam held [] (token_of m held) (token_of m (held ++ []))
    → IsFirst at m room held (token_of m held) (kind_role (token_of m held).kind (take (token_of m held).len held)) a
token_first at m room held a around some kept lead (Closed e closed) = closed_first at m room held a around some kept closed
token_first at m room held a around some kept lead (BeforePerl e is lt perl) =
    let t = token_of m held in
    let kind = ap (λ (v : Token). v.kind) is in
    let mode = ap (λ (v : Token). v.next_mode) is in
    let part = token_of-part m held some in
    subst (λ (r : Role). IsFirst at m room held t r a) (string_role t.kind (take t.len held) kind)
    (string_by at m room held t a some part.not_empty part.inside (string_mode at m held kind lead) (string_begins m held kind) mode
    (cut_part m held a around some kind mode lt perl))
token_first at m room held a around some kept lead (OpenString is e) =
    let t = token_of m held in
    let kind = ap (λ (v : Token). v.kind) is in
    let mode = ap (λ (v : Token). v.next_mode) is in
    let len = ap (λ (v : Token). v.len) is in
    let part = token_of-part m held some in
    subst (λ (r : Role). IsFirst at m room held t r a) (string_role t.kind (take t.len held) kind)
    (string_by at m room held t a some part.not_empty part.inside (string_mode at m held kind lead) (string_begins m held kind) mode
    (whole_part m InStr held t.len a t.next_mode len mode
    (remaining-open_string a.most m a.opened a.line held a.left a.rest some around.ends mode len)))
token_first at m room held a around some kept lead (OpenComment is e) =
    let t = token_of m held in
    let kind = ap (λ (v : Token). v.kind) is in
    let mode = ap (λ (v : Token). v.next_mode) is in
    let len = ap (λ (v : Token). v.len) is in
    let part = token_of-part m held some in
    subst (λ (r : Role). IsFirst at m room held t r a) (comment_role t.kind (take t.len held) kind)
    (comment_by at m room held t a some part.not_empty part.inside (comment_begins m held kind) mode
    (whole_part m InBlock held t.len a t.next_mode len mode
    (remaining-open_comment a.most m a.opened a.line held a.left a.rest some around.ends mode)))

-- Where a call is halted by a directive or broken, and where a backquoted name is read like any other token.

-- no bytes fit
none_fit : (room : ℕ) → nat_le 0 room ≡ true
none_fit room = le-leb 0 room (omega arith)

-- a broken token without bytes, whole or the rest of one, by where the call stands
pub broken_reads : (at : CallState) (p : Bool) (room : ℕ) (b : Breach) (line : ℕ) → is_part_breach b ≡ true
    → read at p room (record { sort = Broken b; bytes = []; line = line } ∷ []) ≡ ReadStopped (breach_kind b) line
unfolding read role_in source_role directive_of token_role broken_role rest_role turn turn_before turn_inside turn_fitting read_by is_part_breach
broken_reads at p room DefineLong line h = absurd (false≢true h)
broken_reads at p room DefineCut line h = absurd (false≢true h)
broken_reads Before true room b line h = refl
broken_reads Before false room b line h = refl
broken_reads (Inside k) true room b line h = rw (none_fit room) refl
broken_reads (Inside k) false room b line h = rw (none_fit room) refl

-- what remains at embedded Perl
perl_tokens : (m : Mode) (held : List ℕ) (a : Around) → IsAround held a → 0 < length held → (token_of m held).kind ≡ Perl
    → tokens_at a m held ≡ record { sort = Broken PerlFound; bytes = []; line = a.line } ∷ []
unfolding token_of
perl_tokens Plain held a around some is = remaining-perl a.most a.opened a.line held a.left a.rest some around.ends is
perl_tokens InStr held a around some is = remaining-perl_in_string a.most a.opened a.line held a.left a.rest some (perl_in_string held is)
perl_tokens InBlock held a around some is = let k = block_token-kind 0 held in absurd (cc)

-- embedded Perl breaks a call
pub perl_reads : (at : CallState) (m : Mode) (room : ℕ) (held : List ℕ) (a : Around) → IsAround held a → 0 < length held → (token_of m held).kind ≡ Perl
    → read at (is_open m) room (tokens_at a m held) ≡ ReadStopped EmbeddedPerl a.line
unfolding is_part_breach breach_kind
perl_reads at m room held a around some is =
    ap (read at (is_open m) room) (perl_tokens m held a around some is) ∙ broken_reads at (is_open m) room PerlFound a.line refl

-- a halt ends a call
halt_reads : (at : CallState) (room : ℕ) (t : SourceToken) (ts : List SourceToken) → source_role t ≡ Halt → read at false room (t ∷ ts) ≡ ReadRefused (fault_at_end at)
unfolding read role_in turn turn_before turn_inside fault_at_end read_by
halt_reads Before room t ts h =
    ap (λ (r : Role). read_by (turn Before r (nat_le (length t.bytes) room)) t ts (read (call_state_after Before r) false (room_after Before room r (length t.bytes)) ts)) h
halt_reads (Inside k) room t ts h =
    ap (λ (r : Role). read_by (turn (Inside k) r (nat_le (length t.bytes) room)) t ts (read (call_state_after (Inside k) r) false (room_after (Inside k) room r (length t.bytes)) ts)) h

-- a step that halts
unfoldable Halts : Step → Type 0
Halts (Last t) = source_role t ≡ Halt
Halts (Next t) = source_role t ≡ Halt

halted_step : (c : Course) (at : CallState) (room l b : ℕ) (bs : List ℕ) (s : Step) → Halts s → read at false room (after_step c l b bs s) ≡ ReadRefused (fault_at_end at)
unfolding Halts after_step
halted_step c at room l b bs (Last t) h = halt_reads at room t [] h
halted_step c at room l b bs (Next t) h = halt_reads at room t _ h

halted_tokens : (c : Course) (at : CallState) (room o l : ℕ) (bs : List ℕ) → 0 < length bs → Halts (source_step c Plain o l bs) → read at false room (source_tokens c Plain o l 0 bs) ≡ ReadRefused (fault_at_end at)
halted_tokens c at room o l [] some h = absurd (omega arith)
halted_tokens c at room o l (b ∷ bs) some h = ap (read at false room) (tokens_step c Plain o l b bs) ∙ halted_step c at room l b bs (source_step c Plain o l (b ∷ bs)) h

-- a `define` halts, whole or broken
define_unended : (c : Course) (line : ℕ) (bs : List ℕ) (break : Option Break)
    → Halts (elim break [
      | None ↦ cond (nat_lt c.most (length bs)) (broken DefineLong [] line) (Next (record { sort = Definition; bytes = bs; line = line }))
      | Some k ↦ cond (nat_lt c.most (length bs + k.len)) (broken DefineLong [] line) (broken DefineCut [] line)
    ])
unfolding Halts broken source_role directive_of token_role broken_role
define_unended c line bs None = cond_both (nat_lt c.most (length bs)) _ _ Halts (λ _. refl) (λ _. refl)
define_unended c line bs (Some k) = cond_both (nat_lt c.most (length bs + k.len)) _ _ Halts (λ _. refl) (λ _. refl)

define_by : (c : Course) (line : ℕ) (bs : List ℕ) (end : Option ℕ)
    → Halts (elim end [
      | Some n ↦ cond (nat_lt c.most n) (broken DefineLong [] line) (Next (record { sort = Definition; bytes = take n bs; line = line }))
      | None ↦ elim c.break [
        | None ↦ cond (nat_lt c.most (length bs)) (broken DefineLong [] line) (Next (record { sort = Definition; bytes = bs; line = line }))
        | Some k ↦ cond (nat_lt c.most (length bs + k.len)) (broken DefineLong [] line) (broken DefineCut [] line)
      ]
    ])
unfolding Halts broken source_role directive_of token_role broken_role
define_by c line bs (Some n) = cond_both (nat_lt c.most n) _ _ Halts (λ _. refl) (λ _. refl)
define_by c line bs None = define_unended c line bs c.break

define_halts : (c : Course) (line : ℕ) (bs : List ℕ) → Halts (define_step c line bs)
unfolding define_step
define_halts c line bs = define_by c line bs (logical_len 0 0 bs)

line_halts : (line : ℕ) (bs : List ℕ) → Halts (line_step line bs)
unfolding Halts line_step source_role directive_of
line_halts line bs = refl

-- one of several tests, in front of the others
test_or : (b : Bool) (d : Directive) (others : Option Directive) (rest : Bool) → (rest ≡ true → is_some others ≡ true) → (b || rest) ≡ true → is_some (cond b (Some d) others) ≡ true
test_or true d others rest h e = refl
test_or false d others rest h e = h e

after_test : (b rest : Bool) → b ≡ false → (b || rest) ≡ true → rest ≡ true
after_test b rest h e = sym (ap (λ t. t || rest) h) ∙ e

-- a reserved name but `define` and `line` is one of the other directives
named_directive : (name : List ℕ) → is_reserved name ≡ true → bytes_eq (96 ∷ name) (codes "`define") ≡ false → bytes_eq (96 ∷ name) (codes "`line") ≡ false
    → is_some (tokenless_worded (96 ∷ name)) ≡ true
unfolding is_reserved reserved_names tokenless_worded
named_directive name reserved other also = grind (arith, test_or, false≢true, after_test)

-- an option that is there
there : (o : Option Directive) → is_some o ≡ true → (d : Directive) × (o ≡ Some d)
there None h = absurd (false≢true h)
there (Some d) h = (d, refl)

-- a token of such a name halts
name_halts : (name : List ℕ) (line : ℕ) → is_reserved name ≡ true → bytes_eq (96 ∷ name) (codes "`define") ≡ false → bytes_eq (96 ∷ name) (codes "`line") ≡ false
    → source_role (usage_token name line) ≡ Halt
unfolding directive_of
name_halts name line reserved other also =
    let d = there (tokenless_worded (96 ∷ name)) (named_directive name reserved other also) in
    source_role_directive (usage_token name line) d.0 d.1

-- the bytes at the front of a text
front_bytes : (bs : List ℕ) (n : ℕ) → 0 < length bs → take (suc n) bs ≡ slice_index bs 0 ∷ take n (drop 1 bs)
front_bytes [] n some = absurd (omega arith)
front_bytes (b ∷ bs) n some = refl

-- a backquote with a name is that backquote and its name
back_by : (bs : List ℕ) (t : Token) → Row bs t → t.kind ≡ Back → 0 < length bs → take t.len bs ≡ 96 ∷ take (t.len - 1) (drop 1 bs)
unfolding whole is_plain_kind
back_by bs t (AtBack h e) is some = grind (arith, front_bytes, eqb-true)
back_by bs t (AtPerl h e) is some = let i = ap (λ (u : Token). u.kind) e in absurd (cc)
back_by bs t (AtLineComment h e) is some = absurd (cc)
back_by bs t (AtBlockComment h e) is some = absurd (cc)
back_by bs t (AtString h e) is some = absurd (cc)
back_by bs t (AtBare h g e) is some = let i = ap (λ (u : Token). u.kind) e in absurd (cc)
back_by bs t (AtPlain h q) is some = absurd (false≢true (sym (ap is_plain_kind is) ∙ h))

pub back_bytes : (bs : List ℕ) → (token_of Plain bs).kind ≡ Back → 0 < length bs → take (token_of Plain bs).len bs ≡ 96 ∷ take ((token_of Plain bs).len - 1) (drop 1 bs)
back_bytes bs is some = back_by bs (token_of Plain bs) (token_of-row bs) is some

-- a directive halts a call
pub directive_reads : (at : CallState) (room : ℕ) (held : List ℕ) (a : Around) → IsAround held a → 0 < length held → (token_of Plain held).kind ≡ Back
    → is_reserved (take ((token_of Plain held).len - 1) (drop 1 held)) ≡ true
    → read at false room (tokens_at a Plain held) ≡ ReadRefused (fault_at_end at)
unfolding remaining_tokens Halts
directive_reads at room held a around some is reserved = grind (arith, following, back_bytes, length-append, cond_both, define_halts, line_halts, name_halts, halted_tokens, back_held)

-- a name that isn't reserved is neither word
not_word : (name : List ℕ) → is_reserved name ≡ false → (bytes_eq (96 ∷ name) (codes "`define") ≡ false) × (bytes_eq (96 ∷ name) (codes "`line") ≡ false)
unfolding is_reserved reserved_names
not_word name free = grind (arith, or_parts)

-- a backquoted name that isn't reserved is text of a call
pub name_first : (at : CallState) (room : ℕ) (held : List ℕ) (a : Around) → IsAround held a → 0 < length held → (token_of Plain held).kind ≡ Back
    → (token_of Plain held).next_mode ≡ Plain → is_reserved (take ((token_of Plain held).len - 1) (drop 1 held)) ≡ false
    → IsFirst at Plain room held (token_of Plain held) Text a
unfolding remaining_tokens role_in is_open token_role kind_role
name_first at room held a around some is closed free =
    let t = token_of Plain held in
    let own = take t.len held in
    let name = take (t.len - 1) (drop 1 held) in
    let more = (front a.most a.left a.rest).text in
    let b = following a.most a.left held a.rest around.ends in
    let c = course a.most a.left a.rest in
    let bs = held ++ more in
    let part = token_of-part Plain held some in
    let text : own ≡ 96 ∷ name = back_bytes held is some in
    let words = not_word name free in
    let other : bytes_eq own (codes "`define") ≡ false = ap (λ (z : List ℕ). bytes_eq z (codes "`define")) text ∙ words.0 in
    let also : bytes_eq own (codes "`line") ≡ false = ap (λ (z : List ℕ). bytes_eq z (codes "`line")) text ∙ words.1 in
    let T : SourceToken = record { sort = Ordinary Back; bytes = own; line = a.line } in
    let line = bytes_eq own (codes "`line") in
    let step : source_step c Plain a.opened a.line bs ≡ Next T =
    back_held c a.opened a.line held more some b.ends is
    ∙ ap (λ x. cond x (define_step c a.line bs) (cond line (line_step a.line bs) (Next T))) other ∙ ap (λ x. cond x (line_step a.line bs) (Next T)) also in
    let same : own_token t held a.line ≡ T = ap (λ k. record { sort = Ordinary k; bytes = own; line = a.line }) is in
    let role : source_role (own_token t held a.line) ≡ Text =
    ap source_role same ∙ ap (λ (z : List ℕ). source_role (record { sort = Ordinary Back; bytes = z; line = a.line })) text
    ∙ source_role_text (usage_token name a.line) (usage_text name a.line free) in
    whole_first at Plain room held t Text a (length-take-le t.len held part.inside) closed role
    (next_held c a.opened a.line held more T t.len part.not_empty part.inside refl step
    ∙ ap (λ (z : SourceToken). z ∷ source_tokens c Plain a.line (a.line + line_ends own) 0 (drop t.len held ++ more)) (sym same))
