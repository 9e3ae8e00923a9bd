-- Calls, strings and comments in a source that are read in parts.
use Rattle.std.proofs.Common.{◌≡◌, ℕ, suc, ◌+◌, ◌-◌, Bool, true, false, List, [], ◌∷◌, ◌++◌, length, drop, filter, cond, All, refl, sym, ap, ◌∙◌, arith, ◌&&◌, ◌==◌, eqb, slice_index, append_assoc, ltb, Some, None, Option, take, subst, map, nat_le, nat_lt, length-append}
use Rattle.std.proofs.Math.Seq.{drop-append-add}
use Rattle.std.proofs.lemmas.Bool.{cond_both}
use Rattle.std.proofs.lemmas.Bool.Decides.{nat_tests}
use Rattle.std.proofs.lemmas.List.Elements.{All-cons, All-nil}
use Rattle.rdlpp_scan.specs.Front.{Breach, Break, CommentOpen, DefineCut, DefineLong, PerlFound, StringOpen, front, front_of_lines, lines_of, onto_front}
use Rattle.rdlpp_scan.specs.Resumed.{line_with, with_part}
use Rattle.rdlpp_scan.specs.SourceTokens.{Broken, Course, Definition, Last, Next, Ordinary, Renumbering, Sort, SourceToken, Step, broken, comment_step, line_ends, open_end, remaining_tokens, source_end, source_step, source_tokens, string_step}
use Rattle.rdlpp_scan.specs.Tokens.{block_token, string_token}
use Rattle.rdlpp_scan.specs.declared.token.Kind.{Kind}
use Rattle.rdlpp_scan.specs.declared.token.Kind.TheVariants.{BlockComment, Str}
use Rattle.rdlpp_scan.specs.declared.token.Mode.{Mode}
use Rattle.rdlpp_scan.specs.declared.token.Mode.TheVariants.{InBlock, InStr, Plain}
use Rattle.rdlpp_scan.proofs.RemainingLaws.{after_step, course, step-end_of, tokens_step}
use Rattle.rdlpp_scan.proofs.StopKinds.{block_token-kind, string_token-kind}
use Rattle.rdlpp_scan.proofs.TokenSteps.{comment_rest, end_of, string_rest}
use Rattle.rdlpp_meaning.specs.Actuals.{CallBreakFault, Cut, Down, Dropped, End, Ends, Halt, CallFault, KeptComment, Role, Space, Start, Stops, Text, Up, broken_role, kept, kept_size, kind_role, level_after, map_call, token_role}
use Rattle.rdlpp_meaning.specs.CallReading.{ReadClosed, Reading, ReadRefused, ReadStopped, is_part_breach, is_part_sort, onto_kept, part_kept, read, read_by, reading_of, rest_role, role_in}
use Rattle.rdlpp_meaning.specs.CallScan.{Before, Breaks, Closed, Closes, Inside, IsClosed, Keeps, Passes, ScanFault, TurnFault, Scanned, CallState, ScanBreakFault, Turn, call_of, call_of_scan, is_call_text, is_kept, level_of_things, room_after, scan, scan_onto, scanned, source_role, call_state_after, call_state_after_lead, turn, turn_before, turn_fitting, turn_inside}
use Rattle.rdlpp_meaning.specs.Expansion.{bytes_of}
use Rattle.rdlpp_meaning.specs.Items.{unlined}
use Rattle.rdlpp_meaning.specs.Parts.{directive_of}
use Rattle.rdlpp_meaning.specs.Resumed.{leading}
use Rattle.rdlpp_meaning.specs.State.{breach_kind}
use Rattle.rdlpp_meaning.specs.Substitution.{body_tokens}
use Rattle.rdlpp_meaning.specs.declared.fault.FaultKind.{FaultKind}
use Rattle.rdlpp_meaning.specs.declared.fault.FaultKind.TheVariants.{ArgumentsMissing}
use Rattle.rdlpp_meaning.proofs.SourceCalls.{closed_call-map, unlined_role}
use Rattle.rdlpp_meaning.proofs.KeptTexts.{kept_call_keeps, kept_call_text}
use Rattle.rdlpp_meaning.proofs.LiveText.{call_of_source}

-- A scan that closes cuts its things into what passes before the `(`, what stands between the parentheses, and the rest.

-- after the `(`, a thing that is passed is a dropped one, one that is kept is text, and the end is a `)` outside further openers
unfoldable TurnFacts : Role → ℕ → Turn → Type 0
TurnFacts r k Passes = (is_kept r ≡ false) × (is_call_text r ≡ true)
TurnFacts r k Keeps = (is_kept r ≡ true) × (is_call_text r ≡ true)
TurnFacts r k Closes = (r ≡ End) × (k ≡ 0)
TurnFacts r k _ = Unit {0}

-- text that fits or not
fitting : (r : Role) (k : ℕ) (fits : Bool) → is_kept r ≡ true → is_call_text r ≡ true → TurnFacts r k (turn_fitting fits Keeps)
unfolding TurnFacts turn_fitting
fitting r k true kept text = (kept, text)
fitting r k false kept text = tt

-- a broken token that fits or not
breaking : (r : Role) (k : ℕ) (fits : Bool) (f : FaultKind) (line : ℕ) → TurnFacts r k (turn_fitting fits (Breaks f line))
unfolding TurnFacts turn_fitting
breaking r k true f line = tt
breaking r k false f line = tt

-- these facts hold
turn_facts : (r : Role) (k : ℕ) (fits : Bool) → TurnFacts r k (turn_inside r k fits)
unfolding TurnFacts turn_inside is_kept is_call_text
turn_facts Halt k fits = tt
turn_facts (Ends f line) k fits = breaking (Ends f line) k fits f line
turn_facts (Stops f line) k fits = breaking (Stops f line) k fits f line
turn_facts End (suc k) fits = fitting End (suc k) fits refl refl
turn_facts Space k fits = fitting Space k fits refl refl
turn_facts KeptComment k fits = fitting KeptComment k fits refl refl
turn_facts Start k fits = fitting Start k fits refl refl
turn_facts Up k fits = fitting Up k fits refl refl
turn_facts Down k fits = fitting Down k fits refl refl
turn_facts Cut k fits = fitting Cut k fits refl refl
turn_facts Text k fits = fitting Text k fits refl refl
turn_facts _ k fits = (refl, refl)

-- how a scan that closes lies in the things after the `(`
pub record IsClosedInside {A : Type 0} (role : A → Role) (k : ℕ) (xs kept : List A) (used : ℕ) : Type 0 where
  pub inner : List A
  pub closer : A
  pub following : List A
  pub whole : xs ≡ inner ++ closer ∷ following
  pub closes : role closer ≡ End
  pub level : level_of_things role k inner ≡ 0
  pub text : All (λ x. is_call_text (role x) ≡ true) inner
  pub keeps : kept ≡ filter (λ x. is_kept (role x)) inner
  pub takes : used ≡ length inner + 1

-- a scan that closes with things in front that it keeps
onto_closed : {A : Type 0} (front : List A) (s : Scanned A) (kept : List A) (used : ℕ) → scan_onto front s ≡ Closed kept used
    → (ks : List A) × ((n : ℕ) × ((s ≡ Closed ks n) × ((kept ≡ front ++ ks) × (used ≡ suc n))))
unfolding scan_onto
onto_closed front (Closed ks n) kept used e = (ks, (n, (refl, (cc, cc))))
onto_closed front _ kept used e = absurd (cc)

-- two scans that close are one in what they keep and take
closed_kept : {A : Type 0} (ks kept : List A) (n used : ℕ) → Closed ks n ≡ Closed kept used → (ks ≡ kept) × (n ≡ used)
closed_kept ks kept n used e = (cc, cc)

-- what is after the things of a call
pub after_cut : {A : Type 0} (lead : List A) (opener : A) (inner : List A) (closer : A) (following : List A)
    → drop (length lead + (length inner + 2)) (lead ++ opener ∷ (inner ++ closer ∷ following)) ≡ following
after_cut {A = A} lead opener inner closer following =
    let rest : List A = inner ++ closer ∷ following in
    let n : length inner + 2 ≡ suc (length inner + 1) = omega arith in
    grind (arith, drop-append-add)

-- the scan after the first thing before the `(`
unfoldable after_lead : {A : Type 0} → Role → Scanned A → Scanned A → Scanned A
after_lead Start before inside = inside
after_lead r before inside = before

-- it is that
lead_scan : {A : Type 0} (role : A → Role) (size : A → ℕ) (r : Role) (room : ℕ) (xs : List A)
    → scan role size (call_state_after_lead r) room xs ≡ after_lead r (scan role size Before room xs) (scan role size (Inside 0) room xs)
unfolding call_state_after_lead after_lead
lead_scan role size Start room xs = refl
lead_scan role size r room xs = refl

-- a scan that closes with a thing in front that it passes before the `(`
led : {A : Type 0} (role : A → Role) (x : A) (xs kept : List A) (used : ℕ) (before : Scanned A) → is_call_text (role x) ≡ true
    → ((ks : List A) (n : ℕ) → before ≡ Closed ks n → IsClosed role xs ks n)
    → scan_onto [] before ≡ Closed kept used → IsClosed role (x ∷ xs) kept used
led role x xs kept used before text rest e =
    let p = onto_closed [] before kept used e in
    let c = rest p.0 p.1.0 p.1.1.0 in
    record {
      lead = x ∷ c.lead;
      opener = c.opener;
      inner = c.inner;
      closer = c.closer;
      following = c.following;
      whole = ap (λ ys. x ∷ ys) c.whole;
      opens = c.opens;
      closes = c.closes;
      level = c.level;
      leads = All-cons (λ y. is_call_text (role y) ≡ true) x c.lead text c.leads;
      text = c.text;
      keeps = p.1.1.1.0 ∙ c.keeps;
      takes = omega (arith, p.1.1.1.1, c.takes);
    }

-- a thing in front of one that lies so, by what the scan does at it
inside_by : {A : Type 0} (role : A → Role) (k : ℕ) (x : A) (xs kept : List A) (used : ℕ) (t : Turn) (s : Scanned A)
    → TurnFacts (role x) k t
    → ((ks : List A) (n : ℕ) → s ≡ Closed ks n → IsClosedInside role (level_after (role x) k) xs ks n)
    → scanned t x s ≡ Closed kept used → IsClosedInside role k (x ∷ xs) kept used
unfolding scanned TurnFacts level_of_things
inside_by role k x xs kept used Passes s facts rest e =
    let p = onto_closed [] s kept used e in
    let c = rest p.0 p.1.0 p.1.1.0 in
    record {
      inner = x ∷ c.inner;
      closer = c.closer;
      following = c.following;
      whole = ap (λ ys. x ∷ ys) c.whole;
      closes = c.closes;
      level = c.level;
      text = All-cons (λ y. is_call_text (role y) ≡ true) x c.inner facts.1 c.text;
      keeps = p.1.1.1.0 ∙ c.keeps ∙ sym (ap (λ b. cond b (x ∷ filter (λ y. is_kept (role y)) c.inner) (filter (λ y. is_kept (role y)) c.inner)) facts.0);
      takes = omega (arith, p.1.1.1.1, c.takes);
    }
inside_by role k x xs kept used Keeps s facts rest e =
    let p = onto_closed (x ∷ []) s kept used e in
    let c = rest p.0 p.1.0 p.1.1.0 in
    record {
      inner = x ∷ c.inner;
      closer = c.closer;
      following = c.following;
      whole = ap (λ ys. x ∷ ys) c.whole;
      closes = c.closes;
      level = c.level;
      text = All-cons (λ y. is_call_text (role y) ≡ true) x c.inner facts.1 c.text;
      keeps = p.1.1.1.0 ∙ ap (λ ys. x ∷ ys) c.keeps ∙ sym (ap (λ b. cond b (x ∷ filter (λ y. is_kept (role y)) c.inner) (filter (λ y. is_kept (role y)) c.inner)) facts.0);
      takes = omega (arith, p.1.1.1.1, c.takes);
    }
inside_by {A = A} role k x xs kept used Closes s facts rest e =
    record {
      inner = [];
      closer = x;
      following = xs;
      whole = refl;
      closes = facts.0;
      level = facts.1;
      text = All-nil (λ y. is_call_text (role y) ≡ true);
      keeps = sym (closed_kept [] kept 1 used e).0;
      takes = sym (closed_kept [] kept 1 used e).1;
    }
inside_by role k x xs kept used (TurnFault f) s facts rest e = absurd (cc)
inside_by role k x xs kept used (Breaks f line) s facts rest e = absurd (cc)

-- how a scan from after the `(` that closes lies in its things
pub closed_inside : {A : Type 0} (role : A → Role) (size : A → ℕ) (k room : ℕ) (xs kept : List A) (used : ℕ)
    → scan role size (Inside k) room xs ≡ Closed kept used → IsClosedInside role k xs kept used
unfolding scan turn call_state_after room_after
closed_inside role size k room [] kept used e = absurd (cc)
closed_inside role size k room (x ∷ xs) kept used e =
    let r = role x in
    let later = room - kept_size r (size x) in
    inside_by role k x xs kept used (turn_inside r k (nat_le (size x) room)) (scan role size (Inside (level_after r k)) later xs)
    (turn_facts r k (nat_le (size x) room)) (λ ks n h. closed_inside role size (level_after r k) later xs ks n h) e

-- a scan that closes with a thing in front before the `(`, by the role of the thing
before_by : {A : Type 0} (role : A → Role) (r : Role) (x : A) (xs kept : List A) (used : ℕ) (before inside : Scanned A)
    → role x ≡ r
    → ((ks : List A) (n : ℕ) → before ≡ Closed ks n → IsClosed role xs ks n)
    → ((ks : List A) (n : ℕ) → inside ≡ Closed ks n → IsClosedInside role 0 xs ks n)
    → scanned (turn_before r) x (after_lead r before inside) ≡ Closed kept used → IsClosed role (x ∷ xs) kept used
unfolding scanned turn_before after_lead is_call_text
before_by role Space x xs kept used before inside is rest opened e = led role x xs kept used before (ap is_call_text is) rest e
before_by role Dropped x xs kept used before inside is rest opened e = led role x xs kept used before (ap is_call_text is) rest e
before_by role KeptComment x xs kept used before inside is rest opened e = led role x xs kept used before (ap is_call_text is) rest e
before_by role Start x xs kept used before inside is rest opened e =
    let p = onto_closed [] inside kept used e in
    let c = opened p.0 p.1.0 p.1.1.0 in
    record {
      lead = [];
      opener = x;
      inner = c.inner;
      closer = c.closer;
      following = c.following;
      whole = ap (λ ys. x ∷ ys) c.whole;
      opens = is;
      closes = c.closes;
      level = c.level;
      leads = All-nil (λ y. is_call_text (role y) ≡ true);
      text = c.text;
      keeps = p.1.1.1.0 ∙ c.keeps;
      takes = omega (arith, p.1.1.1.1, c.takes);
    }
before_by role (Stops f line) x xs kept used before inside is rest opened e = absurd (cc)
before_by role r x xs kept used before inside is rest opened e = absurd (cc)

-- how a scan that closes lies in its things
pub closed_scan : {A : Type 0} (role : A → Role) (size : A → ℕ) (room : ℕ) (xs kept : List A) (used : ℕ)
    → scan role size Before room xs ≡ Closed kept used → IsClosed role xs kept used
unfolding scan turn call_state_after room_after
closed_scan role size room [] kept used e = absurd (cc)
closed_scan role size room (x ∷ xs) kept used e =
    before_by role (role x) x xs kept used (scan role size Before room xs) (scan role size (Inside 0) room xs) refl
    (λ ks n h. closed_scan role size room xs ks n h) (λ ks n h. closed_inside role size 0 room xs ks n h)
    (sym (ap (scanned (turn_before (role x)) x) (lead_scan role size (role x) room xs)) ∙ e)

-- Reading a call in a source token by token, and a string or a comment in parts, comes to what its scan does.

-- no kept bytes in front
pub onto_kept-nil : (r : Reading) → onto_kept [] r ≡ r
unfolding onto_kept
onto_kept-nil (ReadRefused f) = refl
onto_kept-nil _ = refl

-- kept bytes in front of kept bytes
pub onto_kept-append : (x y : List ℕ) (r : Reading) → onto_kept (x ++ y) r ≡ onto_kept x (onto_kept y r)
unfolding onto_kept
onto_kept-append x y (ReadClosed bytes following) = ap (λ z. ReadClosed z following) (append_assoc x y bytes)
onto_kept-append x y _ = refl

-- a token in front of a scan, by what the scan does at it
reading_front : (t : SourceToken) (ts : List SourceToken) (at : Turn) (s : Scanned SourceToken)
    → read_by at t ts (reading_of ts s) ≡ reading_of (t ∷ ts) (scanned at t s)
unfolding read_by reading_of scanned scan_onto onto_kept
reading_front t ts Passes (ScanFault f) = refl
reading_front t ts Keeps (ScanFault f) = refl
reading_front t ts at s = refl

-- reading whole tokens is their scan
pub read_is_scan : (ts : List SourceToken) (at : CallState) (room : ℕ) → read at false room ts ≡ reading_of ts (scan source_role kept at room ts)
unfolding read scan reading_of role_in kept
read_is_scan [] at room = refl
read_is_scan (t ∷ ts) at room =
    let r = source_role t in
    let fits = nat_le (length t.bytes) room in
    grind (arith, reading_front, (read_is_scan ts (call_state_after at r) (room_after at room r (length t.bytes))))

-- two parts fit together where the first does, and the second what is left
fits_in_parts : (x y room : ℕ) → nat_le (x + y) room ≡ (nat_le x room && nat_le y (room - x))
fits_in_parts x y room = grind (arith, nat_tests)

-- bytes that are kept in two parts
kept_in_parts : (a b : Bool) (part : List ℕ) (whole t : SourceToken) (ts : List SourceToken) (rest : Reading) → whole.bytes ≡ part ++ t.bytes
    → read_by (turn_fitting (a && b) Keeps) whole ts rest ≡ part_kept a part (read_by (turn_fitting b Keeps) t ts rest)
unfolding turn_fitting read_by part_kept onto_kept
kept_in_parts true true part whole t ts rest e = ap (λ z. onto_kept z rest) e ∙ onto_kept-append part t.bytes rest
kept_in_parts _ _ part whole t ts rest e = refl

-- a broken token that is read in two parts
broken_in_parts : (a b : Bool) (f : FaultKind) (line : ℕ) (part : List ℕ) (whole t : SourceToken) (ts : List SourceToken) (one other : Reading)
    → read_by (turn_fitting (a && b) (Breaks f line)) whole ts one ≡ part_kept a part (read_by (turn_fitting b (Breaks f line)) t ts other)
unfolding turn_fitting read_by part_kept onto_kept
broken_in_parts true true f line part whole t ts one other = refl
broken_in_parts _ _ f line part whole t ts one other = refl

-- a broken string and another broken token count alike after the `(`
either_breaks : (c : Bool) (f : FaultKind) (line k : ℕ) (fits : Bool)
    → turn_inside (cond c (Ends f line) (Stops f line)) k fits ≡ turn_fitting fits (Breaks f line)
unfolding turn_inside
either_breaks true f line k fits = refl
either_breaks false f line k fits = refl

-- a broken string or comment after the `(`
broken_inside : (b : Breach) (bytes : List ℕ) (line k : ℕ) (fits : Bool) → is_part_breach b ≡ true
    → turn_inside (broken_role b bytes line) k fits ≡ turn_fitting fits (Breaks (breach_kind b) line)
unfolding is_part_breach broken_role
broken_inside DefineLong bytes line k fits e = absurd (cc)
broken_inside DefineCut bytes line k fits e = absurd (cc)
broken_inside b bytes line k fits e = either_breaks (eqb (slice_index bytes 0) 34) (breach_kind b) line k fits

-- a kept token by its parts
kept_parts : (k room : ℕ) (part : List ℕ) (whole t : SourceToken) (ts : List SourceToken) → whole.bytes ≡ part ++ t.bytes
    → read_by (turn_fitting (nat_le (length whole.bytes) room) Keeps) whole ts (read (Inside k) false (room - length whole.bytes) ts)
    ≡ part_kept (nat_le (length part) room) part
    (read_by (turn_fitting (nat_le (length t.bytes) (room - length part)) Keeps) t ts (read (Inside k) false ((room - length part) - length t.bytes) ts))
kept_parts k room part whole t ts e =
    let a = length part in
    let b = length t.bytes in
    let size : length whole.bytes ≡ a + b = ap length e ∙ length-append part t.bytes in
    let less : room - (a + b) ≡ (room - a) - b = omega arith in
    let go : Bool → ℕ → Reading = λ fits left. read_by (turn_fitting fits Keeps) whole ts (read (Inside k) false left ts) in
    grind (arith, nat_le, fits_in_parts, kept_in_parts)

-- a broken token by its parts
broken_parts : (f : FaultKind) (line room : ℕ) (part : List ℕ) (whole t : SourceToken) (ts : List SourceToken) (one other : Reading) → whole.bytes ≡ part ++ t.bytes
    → read_by (turn_fitting (nat_le (length whole.bytes) room) (Breaks f line)) whole ts one
    ≡ part_kept (nat_le (length part) room) part (read_by (turn_fitting (nat_le (length t.bytes) (room - length part)) (Breaks f line)) t ts other)
broken_parts f line room part whole t ts one other e = grind (arith, length-append, nat_le, fits_in_parts, broken_in_parts)

-- after the `(`, a string or a comment may be read in parts, by its sort: a part that fits is kept, and the rest is read with
-- what is left of the room; one that doesn't is one byte too many
part_by : (p : Bool) (k room line own : ℕ) (part : List ℕ) (sort : Sort) (bytes : List ℕ) (ts : List SourceToken) → is_part_sort sort ≡ true
    → read (Inside k) p room (with_part part line (record { sort = sort; bytes = bytes; line = own }) ∷ ts)
    ≡ part_kept (nat_le (length part) room) part (read (Inside k) true (room - length part) (record { sort = sort; bytes = bytes; line = own } ∷ ts))
unfolding is_part_sort read role_in source_role directive_of rest_role token_role kind_role with_part line_with turn turn_inside call_state_after room_after level_after kept_size
part_by true k room line own part (Ordinary Str) bytes ts e =
    kept_parts k room part (record { sort = Ordinary Str; bytes = part ++ bytes; line = line }) (record { sort = Ordinary Str; bytes = bytes; line = own }) ts refl
part_by false k room line own part (Ordinary Str) bytes ts e =
    kept_parts k room part (record { sort = Ordinary Str; bytes = part ++ bytes; line = line }) (record { sort = Ordinary Str; bytes = bytes; line = own }) ts refl
part_by true k room line own part (Ordinary BlockComment) bytes ts e =
    kept_parts k room part (record { sort = Ordinary BlockComment; bytes = part ++ bytes; line = line }) (record { sort = Ordinary BlockComment; bytes = bytes; line = own }) ts refl
part_by false k room line own part (Ordinary BlockComment) bytes ts e =
    kept_parts k room part (record { sort = Ordinary BlockComment; bytes = part ++ bytes; line = line }) (record { sort = Ordinary BlockComment; bytes = bytes; line = own }) ts refl
part_by true k room line own part (Broken b) bytes ts e =
    let whole : SourceToken = record { sort = Broken b; bytes = part ++ bytes; line = own } in
    let t : SourceToken = record { sort = Broken b; bytes = bytes; line = own } in
    broken_parts (breach_kind b) own room part whole t ts
    (read (Inside k) false (room - length (part ++ bytes)) ts) (read (Inside k) false ((room - length part) - length bytes) ts) refl
part_by false k room line own part (Broken b) bytes ts e =
    let whole : SourceToken = record { sort = Broken b; bytes = part ++ bytes; line = own } in
    let t : SourceToken = record { sort = Broken b; bytes = bytes; line = own } in
    let r = broken_role b (part ++ bytes) own in
    let one = read (Inside (level_after r k)) false (room - kept_size r (length (part ++ bytes))) ts in
    ap (λ at. read_by at whole ts one) (broken_inside b (part ++ bytes) own k (nat_le (length (part ++ bytes)) room) e)
    ∙ broken_parts (breach_kind b) own room part whole t ts one (read (Inside k) false ((room - length part) - length bytes) ts) refl
part_by p k room line own part Definition bytes ts e = absurd (cc)
part_by p k room line own part Renumbering bytes ts e = absurd (cc)
part_by p k room line own part (Ordinary kind) bytes ts e = absurd (cc)

-- after the `(`, a string or a comment may be read in parts: a part that fits is kept, and the rest is read with what is left
-- of the room; one that doesn't is one byte too many
pub part_inside : (p : Bool) (k room line : ℕ) (part : List ℕ) (t : SourceToken) (ts : List SourceToken) → is_part_sort t.sort ≡ true
    → read (Inside k) p room (with_part part line t ∷ ts) ≡ part_kept (nat_le (length part) room) part (read (Inside k) true (room - length part) (t ∷ ts))
part_inside p k room line part t ts e = part_by p k room line t.line part t.sort t.bytes ts e

-- before the `(`, a part of a comment passes
pub comment_part_before : (p : Bool) (room line own : ℕ) (part bytes : List ℕ) (ts : List SourceToken)
    → read Before p room (with_part part line (record { sort = Ordinary BlockComment; bytes = bytes; line = own }) ∷ ts)
    ≡ read Before true room (record { sort = Ordinary BlockComment; bytes = bytes; line = own } ∷ ts)
unfolding read role_in source_role directive_of rest_role token_role kind_role with_part line_with turn turn_before read_by call_state_after call_state_after_lead room_after
comment_part_before true room line own part bytes ts = refl
comment_part_before false room line own part bytes ts = refl

-- before the `(`, a broken comment, of which a part passed or not
broken_role_before : (b : Breach) (bytes : List ℕ) (line : ℕ) → is_part_breach b ≡ true → (slice_index bytes 0 == 34) ≡ false
    → broken_role b bytes line ≡ Stops (breach_kind b) line
unfolding is_part_breach broken_role
broken_role_before DefineLong bytes line e h = absurd (cc)
broken_role_before DefineCut bytes line e h = absurd (cc)
broken_role_before b bytes line e h = ap (λ c. cond c (Ends (breach_kind b) line) (Stops (breach_kind b) line)) h

-- before the `(`, a broken string
broken_string_before : (b : Breach) (bytes : List ℕ) (line : ℕ) → is_part_breach b ≡ true → (slice_index bytes 0 == 34) ≡ true
    → broken_role b bytes line ≡ Ends (breach_kind b) line
unfolding is_part_breach broken_role
broken_string_before DefineLong bytes line e h = absurd (cc)
broken_string_before DefineCut bytes line e h = absurd (cc)
broken_string_before b bytes line e h = ap (λ c. cond c (Ends (breach_kind b) line) (Stops (breach_kind b) line)) h

-- before the `(`, a part of a comment that isn't closed passes
pub open_comment_before : (p : Bool) (room line own : ℕ) (part bytes : List ℕ) (b : Breach) (ts : List SourceToken)
    → is_part_breach b ≡ true → (slice_index (part ++ bytes) 0 == 34) ≡ false
    → read Before p room (with_part part line (record { sort = Broken b; bytes = bytes; line = own }) ∷ ts)
    ≡ read Before true room (record { sort = Broken b; bytes = bytes; line = own } ∷ ts)
unfolding read role_in source_role directive_of rest_role token_role with_part line_with turn turn_before read_by
open_comment_before true room line own part bytes b ts e h = refl
open_comment_before false room line own part bytes b ts e h = grind (arith, broken_role_before)

-- before the `(`, a string is missing arguments at once
pub string_before : (room line : ℕ) (bytes : List ℕ) (ts : List SourceToken)
    → read Before false room (record { sort = Ordinary Str; bytes = bytes; line = line } ∷ ts) ≡ ReadRefused ArgumentsMissing
unfolding read role_in source_role directive_of token_role kind_role turn turn_before read_by
string_before room line bytes ts = refl

-- before the `(`, a string that isn't closed is too
pub open_string_before : (room line : ℕ) (bytes : List ℕ) (b : Breach) (ts : List SourceToken)
    → is_part_breach b ≡ true → (slice_index bytes 0 == 34) ≡ true
    → read Before false room (record { sort = Broken b; bytes = bytes; line = line } ∷ ts) ≡ ReadRefused ArgumentsMissing
unfolding read role_in source_role directive_of token_role turn turn_before read_by
open_string_before room line bytes b ts e h = grind (arith, broken_string_before)

-- What remains of a source in a string or in a comment begins with the rest of it, which is whole, or broken as a string or a
-- comment can be.

-- tokens that begin with the rest of a token of a kind, whole, or broken and the last
pub data IsRest (k : Kind) (ts : List SourceToken) : Type 0 where
  WholeRest : (bytes : List ℕ) (line : ℕ) (more : List SourceToken) → ts ≡ record { sort = Ordinary k; bytes = bytes; line = line } ∷ more → IsRest k ts
  BrokenRest : (b : Breach) (bytes : List ℕ) (line : ℕ) → is_part_breach b ≡ true → ts ≡ record { sort = Broken b; bytes = bytes; line = line } ∷ [] → IsRest k ts

-- the same of a step
data RestStep (k : Kind) (s : Step) : Type 0 where
  NextRest : (bytes : List ℕ) (line : ℕ) → s ≡ Next (record { sort = Ordinary k; bytes = bytes; line = line }) → RestStep k s
  LastRest : (b : Breach) (bytes : List ℕ) (line : ℕ) → is_part_breach b ≡ true → s ≡ Last (record { sort = Broken b; bytes = bytes; line = line }) → RestStep k s

-- a break that can break a string or a comment, if one
unfoldable IsPartBreak : Option Break → Type 0
IsPartBreak None = Unit
IsPartBreak (Some k) = is_part_breach k.breach ≡ true

-- what ends a front is such a break
front_breaks : (most room : ℕ) (ls : List (List ℕ)) → IsPartBreak (front_of_lines most room ls).break
unfolding IsPartBreak front_of_lines onto_front is_part_breach
front_breaks most room [] = tt
front_breaks most room (l ∷ ls) = grind (arith, cond_both, nat_lt, (front_breaks most (room - length l) ls))

-- what is open at the end of a text
open_end-rest : (k : Kind) (c : Course) (own : Breach) (o l : ℕ) (bytes : List ℕ) → is_part_breach own ≡ true → IsPartBreak c.break → RestStep k (open_end c own o l bytes)
unfolding IsPartBreak open_end broken
open_end-rest k c own o l bytes h part =
    elim c.break as (λ d. IsPartBreak d → RestStep k (elim d [ None ↦ broken own bytes o | Some d ↦ broken d.breach bytes (l + line_ends bytes) ])) [
      | None ↦ λ _. LastRest own bytes o h refl
      | Some d ↦ λ is. LastRest d.breach bytes (l + line_ends bytes) is refl
    ] part

-- a string that isn't closed
string_open-rest : (c : Course) (o l n : ℕ) (bs : List ℕ) → IsPartBreak c.break
    → RestStep Str (cond (ltb n (length bs)) (broken PerlFound (take n bs) (l + line_ends (take n bs))) (open_end c StringOpen o l (take n bs)))
unfolding broken is_part_breach
string_open-rest c o l n bs part =
    cond_both (ltb n (length bs)) _ _ (RestStep Str) (λ _. LastRest PerlFound (take n bs) (l + line_ends (take n bs)) refl refl) (λ _. open_end-rest Str c StringOpen o l (take n bs) refl part)

string_by_mode : (c : Course) (o l : ℕ) (k : Kind) (n : ℕ) (m : Mode) (bs : List ℕ) → IsPartBreak c.break → k ≡ Str → RestStep Str (string_step c o l (record { kind = k; len = n; next_mode = m }) bs)
unfolding string_step
string_by_mode c o l k n Plain bs part is = NextRest (take n bs) l (ap (λ (x : Kind). Next (record { sort = Ordinary x; bytes = take n bs; line = l })) is)
string_by_mode c o l k n _ bs part is = string_open-rest c o l n bs part

comment_by_mode : (c : Course) (o l : ℕ) (k : Kind) (n : ℕ) (m : Mode) (bs : List ℕ) → IsPartBreak c.break → k ≡ BlockComment → RestStep BlockComment (comment_step c o l (record { kind = k; len = n; next_mode = m }) bs)
unfolding comment_step is_part_breach
comment_by_mode c o l k n Plain bs part is = NextRest (take n bs) l (ap (λ (x : Kind). Next (record { sort = Ordinary x; bytes = take n bs; line = l })) is)
comment_by_mode c o l k n _ bs part is = open_end-rest BlockComment c CommentOpen o l (take n bs) refl part

-- tokens of which the first step is such a rest
step_rest : (k : Kind) (c : Course) (m : Mode) (o l b : ℕ) (bs : List ℕ) → RestStep k (source_step c m o l (b ∷ bs)) → IsRest k (source_tokens c m o l 0 (b ∷ bs))
unfolding after_step
step_rest k c m o l b bs (NextRest bytes line is) = WholeRest bytes line _ (tokens_step c m o l b bs ∙ ap (after_step c l b bs) is)
step_rest k c m o l b bs (LastRest x bytes line h is) = BrokenRest x bytes line h (tokens_step c m o l b bs ∙ ap (after_step c l b bs) is)

end_rest : (k : Kind) (c : Course) (own : Breach) (o l : ℕ) → is_part_breach own ≡ true → IsPartBreak c.break → IsRest k (end_of (open_end c own o l []))
unfolding IsPartBreak open_end broken end_of
end_rest k c own o l h part =
    elim c.break as (λ d. IsPartBreak d → IsRest k (end_of (elim d [ None ↦ broken own [] o | Some d ↦ broken d.breach [] (l + line_ends []) ]))) [
      | None ↦ λ _. BrokenRest own [] o h refl
      | Some d ↦ λ is. BrokenRest d.breach [] (l + line_ends []) is refl
    ] part

string_tokens-rest : (c : Course) (o l : ℕ) (bs : List ℕ) → IsPartBreak c.break → IsRest Str (source_tokens c InStr o l 0 bs)
unfolding source_tokens source_end is_part_breach
string_tokens-rest c o l [] part = subst (IsRest Str) (sym (step-end_of (open_end c StringOpen o l []))) (end_rest Str c StringOpen o l refl part)
string_tokens-rest c o l (b ∷ bs) part =
    let v = string_token 0 (b ∷ bs) in
    step_rest Str c InStr o l b bs (subst (RestStep Str) (sym (string_rest c o l (b ∷ bs) (omega arith))) (string_by_mode c o l v.kind v.len v.next_mode (b ∷ bs) part (string_token-kind 0 (b ∷ bs))))

comment_tokens-rest : (c : Course) (o l : ℕ) (bs : List ℕ) → IsPartBreak c.break → IsRest BlockComment (source_tokens c InBlock o l 0 bs)
unfolding source_tokens source_end is_part_breach
comment_tokens-rest c o l [] part = subst (IsRest BlockComment) (sym (step-end_of (open_end c CommentOpen o l []))) (end_rest BlockComment c CommentOpen o l refl part)
comment_tokens-rest c o l (b ∷ bs) part =
    let v = block_token 0 (b ∷ bs) in
    step_rest BlockComment c InBlock o l b bs (subst (RestStep BlockComment) (sym (comment_rest c o l (b ∷ bs))) (comment_by_mode c o l v.kind v.len v.next_mode (b ∷ bs) part (block_token-kind 0 (b ∷ bs))))

-- what remains in a string
pub string_remains : (most o l : ℕ) (held : List ℕ) (room : ℕ) (rest : List ℕ) → IsRest Str (remaining_tokens most InStr o l held room rest)
unfolding remaining_tokens front
string_remains most o l held room rest =
    string_tokens-rest (course most room rest) o l (held ++ (front most room rest).text) (front_breaks most room (lines_of rest))

-- what remains in a block comment
pub comment_remains : (most o l : ℕ) (held : List ℕ) (room : ℕ) (rest : List ℕ) → IsRest BlockComment (remaining_tokens most InBlock o l held room rest)
unfolding remaining_tokens front
comment_remains most o l held room rest =
    comment_tokens-rest (course most room rest) o l (held ++ (front most room rest).text) (front_breaks most room (lines_of rest))

-- A call in a source that was read token by token is the call of the definition, with the parts of the kept bytes.

-- a reading that closes is a scan that does
closed_reading : (ts : List SourceToken) (s : Scanned SourceToken) (bytes : List ℕ) (following : List SourceToken) → reading_of ts s ≡ ReadClosed bytes following
    → (ks : List SourceToken) × ((used : ℕ) × ((s ≡ Closed ks used) × ((bytes_of ks ≡ bytes) × (drop used ts ≡ following))))
unfolding reading_of
closed_reading ts (Closed ks used) bytes following e = (ks, (used, (refl, (cc, cc))))
closed_reading ts _ bytes following e = absurd (cc)

-- a reading that is refused is a call that lacks something
refused_reading : (ts : List SourceToken) (s : Scanned SourceToken) (f : FaultKind) → reading_of ts s ≡ ReadRefused f → call_of_scan token_role 0 s ≡ CallFault f
unfolding reading_of call_of_scan
refused_reading ts (ScanFault g) f e = cc
refused_reading ts _ f e = absurd (cc)

-- a reading that stops is a call that breaks
stopped_reading : (ts : List SourceToken) (s : Scanned SourceToken) (f : FaultKind) (line : ℕ) → reading_of ts s ≡ ReadStopped f line
    → call_of_scan token_role 0 s ≡ CallBreakFault f line
unfolding reading_of call_of_scan
stopped_reading ts (ScanBreakFault g at) f line e = cc
stopped_reading ts _ f line e = absurd (cc)

-- where reading is refused, the call lacks that
pub read_refused : (room : ℕ) (ts : List SourceToken) (f : FaultKind) → read Before false room ts ≡ ReadRefused f
    → call_of token_role kept room (leading ts) ≡ CallFault f
read_refused room ts f e =
    call_of_source kept room ts
    ∙ refused_reading ts (scan source_role kept Before room ts) f (sym (read_is_scan ts Before room) ∙ e)

-- where reading stops at a broken token, the call breaks there
pub read_stopped : (room : ℕ) (ts : List SourceToken) (f : FaultKind) (line : ℕ) → read Before false room ts ≡ ReadStopped f line
    → call_of token_role kept room (leading ts) ≡ CallBreakFault f line
read_stopped room ts f line e = grind (arith, call_of_source, stopped_reading, read_is_scan)

-- a call in a source whose reading closed: the kept bytes have its parts, but for lines, a call keeps all their tokens, and after it
-- are the tokens after those that it took
pub record IsReadCall (room : ℕ) (ts : List SourceToken) (bytes : List ℕ) (following : List SourceToken) : Type 0 where
  pub used : ℕ
  pub call : map_call unlined (call_of token_role kept room (leading ts)) ≡ call_of_scan token_role 0 (Closed (body_tokens bytes) used)
  pub rest : drop used ts ≡ following
  pub keeps : All (λ t. is_kept (token_role t) ≡ true) (body_tokens bytes)

-- where reading closes, the parts of the call are those of the kept bytes, but for lines
pub read_closed : (c : Course) (m : Mode) (opened line : ℕ) (bs : List ℕ) (room : ℕ) (ts : List SourceToken) (bytes : List ℕ) (following : List SourceToken)
    → source_tokens c m opened line 0 bs ≡ ts → read Before false room ts ≡ ReadClosed bytes following → IsReadCall room ts bytes following
read_closed c m opened line bs room ts bytes following source e =
    let s = scan source_role kept Before room ts in
    let p = closed_reading ts s bytes following (sym (read_is_scan ts Before room) ∙ e) in
    let ks = p.0 in
    let used = p.1.0 in
    let closed = closed_scan source_role kept room ts ks used p.1.1.0 in
    let text : body_tokens bytes ≡ map unlined ks =
    ap body_tokens (sym p.1.1.1.0) ∙ kept_call_text c m opened line bs ts ks used source closed in
    record {
      used = used;
      call =
          ap (map_call unlined) (call_of_source kept room ts)
          ∙ ap (λ (q : Scanned SourceToken). map_call unlined (call_of_scan token_role 0 q)) p.1.1.0
          ∙ sym (closed_call-map token_role token_role unlined unlined_role 0 ks used)
          ∙ ap (λ (us : List SourceToken). call_of_scan token_role 0 (Closed us used)) (sym text);
      rest = p.1.1.1.1;
      keeps = subst (All (λ (t : SourceToken). is_kept (token_role t) ≡ true)) (sym text) (kept_call_keeps ts ks used closed);
    }
