-- Usages of a macro with a list, in open texts and in a source, whose call is bound.
use Rattle.std.proofs.Common.{◌≡◌, ◌≤◌, ℕ, ◌+◌, ◌-◌, Bool, false, List, [], ◌∷◌, map, drop, ap, ◌∙◌, arith, Option, None, Some, suc, true, cond, take, refl, sym, true≢false, ◌<◌, length, subst, is_some, unwrap_or, Err, Global, Vec, bytes_eq, slice_range, vec_len, drop-drop}
use Rattle.std.specs.List.{AllByRecursion, list_any}
use Rattle.std.proofs.lemmas.List.{length-map}
use Rattle.std.proofs.lemmas.List.Elements.{All-cons, All-head, All-nil, All-tail}
use Rattle.rdlpp_scan.specs.Reserved.{is_reserved}
use Rattle.rdlpp_scan.specs.SourceTokens.{SourceToken}
use Rattle.rdlpp_scan.specs.declared.token.Kind.TheVariants.{Back}
use Rattle.rdlpp_scan.specs.declared.token.Mode.{Mode}
use Rattle.rdlpp_scan.specs.declared.token.Mode.TheVariants.{Plain}
use Rattle.rdlpp_define.specs.Macros.{Formal, Macro, formals_of}
use Rattle.rdlpp_define.specs.Table.{macro_named, IsSound, TableView, macro_at}
use Rattle.rdlpp_meaning.specs.Actuals.{Bound, CallBreakFault, Call, CallFault, Reads, actual_of, kept, map_call, source_reads, text_reads, token_role, trimmed}
use Rattle.rdlpp_meaning.specs.CallScan.{all_parts, call_of, call_of_scan, is_kept, split}
use Rattle.rdlpp_meaning.specs.Expansion.{Opens, UsageFault, Usage, bound_parts, bytes_of, is_count, usage_of, usage_of_call, usage_of_formals, usage_of_macro, usage_token}
use Rattle.rdlpp_meaning.specs.Items.{unlined}
use Rattle.rdlpp_meaning.specs.Meaning.{Passage, Progress, goes_on, leaves}
use Rattle.rdlpp_meaning.specs.OpenItems.{open_left}
use Rattle.rdlpp_meaning.specs.Opens.{Open, OpenBody, Part, Texts, open_after, open_body, open_bytes, open_scope, own_text, part_tokens, scope_text, text_around}
use Rattle.rdlpp_meaning.specs.Outcome.{Outcome}
use Rattle.rdlpp_meaning.specs.Parts.{only_blanks}
use Rattle.rdlpp_meaning.specs.Resumed.{Live, leading, resumed}
use Rattle.rdlpp_meaning.specs.State.{Rules, State}
use Rattle.rdlpp_meaning.specs.Substitution.{body_tokens}
use Rattle.rdlpp_meaning.specs.TextTokens.{text_tokens}
use Rattle.rdlpp_meaning.specs.declared.fault.FaultKind.{FaultKind}
use Rattle.rdlpp_meaning.specs.declared.fault.FaultKind.TheVariants.{ArgumentCount, DepthPassed}
use Rattle.rdlpp_meaning.proofs.OpenSteps.{first-left, first_usage, step-refused as left-refused, step-usage as left-usage, step-usage_deep as left-usage_deep, tokens_after}
use Rattle.rdlpp_meaning.proofs.OpenScopes.{next_is, part-whole, text-around}
use Rattle.rdlpp_meaning.proofs.ReadCalls.{IsReadCall}
use Rattle.rdlpp_meaning.proofs.SourceCalls.{actuals-unlined, resumed_opens}
use Rattle.rdlpp_meaning.proofs.KeptTexts.{body_text}
use Rattle.rdlpp_texts.specs.BoundCalls.{AreWithin, IsBoundAt, IsBoundCall, KeepsAll, actuals_of, range_part, ranges_tokens, usage_in}
use Rattle.rdlpp_texts.specs.CallTokens.{IsFirstToken, role_meant}
use Rattle.rdlpp_texts.specs.Calls.{IsCallBound, IsCallMiscounted, IsCallOpened, IsCallStarted, IsOpening}
use Rattle.rdlpp_texts.specs.Digits.{IsFalling}
use Rattle.rdlpp_texts.specs.TextItems.{IsTextItem, IsPeek}
use Rattle.rdlpp_texts.specs.KeptTexts.{keeps_each}
use Rattle.rdlpp_texts.specs.Opened.{CursorsView, moved_to, opens_of}
use Rattle.rdlpp_texts.specs.Places.{place_bytes, source_formals, source_text, texts_of}
use Rattle.rdlpp_texts.specs.Scopes.{front_scope, front_source}
use Rattle.rdlpp_texts.specs.SourceBound.{OpensBound}
use Rattle.rdlpp_texts.specs.Steps.{AreSound, IsStep, StaysRefused, StepsTo, wordless}
use Rattle.rdlpp_texts.specs.Usages.{IsUsed, front_name}
use Rattle.rdlpp_texts.specs.declared.bindings.Range.{Range}
use Rattle.rdlpp_texts.specs.declared.cursors.call.Opening.{Opening}
use Rattle.rdlpp_texts.specs.declared.cursors.call.Opening.TheVariants as opening
use Rattle.rdlpp_texts.specs.declared.peek.TextItem.TheVariants as front
use Rattle.rdlpp_texts.specs.declared.peek.Peek.{Peek}
use Rattle.rdlpp_texts.specs.declared.place.TextPlace.{TextPlace}
use Rattle.rdlpp_texts.specs.declared.place.TextSource.TheVariants.{Arguments}
use Rattle.rdlpp_texts.specs.declared.frame.Frame.{Frame}
use Rattle.rdlpp_texts.specs.declared.step.CursorFault.{CursorFault}
use Rattle.rdlpp_texts.specs.declared.step.CursorStep.TheVariants.{Refused, Silent}
use Rattle.rdlpp_texts.specs.declared.tokens.CallRole.{CallRole}
use Rattle.rdlpp_texts.specs.declared.tokens.CallRole.TheVariants.{LineComment}
use Rattle.rdlpp_texts.specs.declared.tokens.CallToken.{CallToken}
use Rattle.rdlpp_texts.proofs.BoundParts.{actuals_keep, all_bound, count_exact, ranges_keep}
use Rattle.rdlpp_texts.proofs.Falling.{peek-opens}
use Rattle.rdlpp_texts.proofs.Passing.{IsPassed, body-keeps, fault-same, first-moved, first-sound, kind-first, no-word, sound-moved}
use Rattle.rdlpp_texts.proofs.Scoping.{source-around}
use Rattle.rdlpp_texts.proofs.Stacking.{room-first}
use Rattle.rdlpp_texts.proofs.Usages.{back-closes, first-used, front-is, parents-out, scope-inside, usage-place, usage-word}

-- A usage in an open text whose call was bound, by the ranges of the text that are its actuals.

-- a usage of a macro that isn't recursive and has a list of formals, by what its call comes to
pub usage_with_list : (reads : Reads SourceToken) (rules : Rules) (s : State) (line : ℕ) (o : List (List ℕ)) (name : List ℕ) (ts : List SourceToken) (m : Macro) (fs : List Formal) (u : Usage SourceToken)
    → is_reserved name ≡ false → macro_named s.macros name ≡ Some m → list_any (bytes_eq name) o ≡ false → m.formals ≡ Some fs
    → usage_of_formals rules reads line name ts m (Some fs) ≡ u → usage_of rules s reads line o name ts ≡ u
unfolding usage_of usage_of_macro
usage_with_list reads rules s line o name ts m fs u reserved found once formals e = grind arith

-- ranges between two places of a text lie in it as parts
pub parts_inside : (size from to : ℕ) (ranges : List Range) → to ≤ size → AreWithin from to ranges → AllByRecursion (λ part. part.end ≤ size) (map range_part ranges)
parts_inside size from to [] inside all = tt
parts_inside size from to (r ∷ rs) inside all = let h = all.0.1.1 in (omega (arith, inside, h), parts_inside size from to rs inside all.1)

-- what is left of an open text after a bound call is read as plain text
pub after_part : (text : List ℕ) (from at end formals following : ℕ) (ranges : List Range) (b : IsBoundAt text at end formals ranges following) → from ≤ following
    → drop b.used (body_tokens (slice_range text at end)) ≡ part_tokens text (record { from = from + (following - from); end = end; mode = Plain })
unfolding part_tokens
after_part text from at end formals following ranges b low = grind (arith, body_text)

-- A call in a source whose kept bytes were bound part by part: the usage opens those ranges, but for the lines of its tokens.

-- a call that has these parts, but for lines
record HasParts (c : Call SourceToken) (first : List SourceToken) (further : List (List SourceToken)) (used : ℕ) : Type 0 where
  own : List SourceToken
  others : List (List SourceToken)
  call : c ≡ Bound own others used
  first_is : map unlined own ≡ first
  further_is : map (map unlined) others ≡ further

-- one whose parts without lines are these has them
has_parts : (c : Call SourceToken) (first : List SourceToken) (further : List (List SourceToken)) (used : ℕ) → map_call unlined c ≡ Bound first further used
    → HasParts c first further used
unfolding map_call
has_parts (CallFault f) first further used e = absurd (cc)
has_parts (CallBreakFault f line) first further used e = absurd (cc)
has_parts (Bound own others n) first further used e = grind arith

-- a call that was read, by its parts: the actuals, but for lines, are those of the kept bytes
record HasActuals (room : ℕ) (ts : List SourceToken) (bytes : List ℕ) (used : ℕ) : Type 0 where
  first : List SourceToken
  further : List (List SourceToken)
  call : call_of token_role kept room (leading ts) ≡ Bound first further used
  same : map (actual_of source_reads) (first ∷ further) ≡ actuals_of bytes

-- it has them
has_actuals : (room : ℕ) (ts : List SourceToken) (bytes : List ℕ) (following : List SourceToken) (c : IsReadCall room ts bytes following) → HasActuals room ts bytes c.used
unfolding call_of_scan actuals_of all_parts actual_of kept
has_actuals room ts bytes following c =
    let s = split token_role 0 (body_tokens bytes) in
    let h = has_parts (call_of token_role kept room (leading ts)) s.first s.further c.used c.call in
    record {
      first = h.own;
      further = h.others;
      call = h.call;
      same = actuals-unlined (h.own ∷ h.others)
          ∙ ap (λ (x : List SourceToken). map (trimmed token_role) (x ∷ map (map unlined) h.others)) h.first_is
          ∙ ap (λ (xs : List (List SourceToken)). map (trimmed token_role) (s.first ∷ xs)) h.further_is;
    }

-- a usage by whether its call has as many parts as formals
usage_counted : (m : Macro) (fs : List Formal) (line : ℕ) (name : List ℕ) (first : List SourceToken) (further : List (List SourceToken)) (used : ℕ) (right : Bool) (parts : List (List SourceToken))
    → map (actual_of source_reads) (first ∷ further) ≡ parts
    → right ≡ is_count fs parts
    → usage_of_call source_reads m fs line name (Bound first further used)
    ≡ cond right (Opens m (bound_parts fs parts) used) (UsageFault ArgumentCount name line)
unfolding usage_of_call
usage_counted m fs line name first further used right parts same e = grind arith

-- a call that was read and bound opens its macro so
pub source_bound : (rules : Rules) (line : ℕ) (name : List ℕ) (ts : List SourceToken) (m : Macro) (fs : List Formal) (bytes : List ℕ) (ranges : List Range) (following : List SourceToken)
    → IsReadCall rules.argument_bytes ts bytes following → true ≡ is_count fs (actuals_of bytes) → bound_parts fs (actuals_of bytes) ≡ ranges_tokens bytes ranges
    → OpensBound rules line name ts m fs bytes ranges following
unfolding usage_of_formals
source_bound rules line name ts m fs bytes ranges following c count tokens =
    let h = has_actuals rules.argument_bytes ts bytes following c in
    grind (arith, usage_counted)

-- one with more or fewer parts than formals is refused for that
pub source_counted : (rules : Rules) (line : ℕ) (name : List ℕ) (ts : List SourceToken) (m : Macro) (fs : List Formal) (bytes : List ℕ) (following : List SourceToken)
    → IsReadCall rules.argument_bytes ts bytes following → false ≡ is_count fs (actuals_of bytes)
    → usage_of_formals rules source_reads line name (leading ts) m (Some fs) ≡ UsageFault ArgumentCount name line
unfolding usage_of_formals
source_counted rules line name ts m fs bytes following c count =
    let h = has_actuals rules.argument_bytes ts bytes following c in
    grind (arith, usage_counted)

-- one that lacks something is refused for it
pub source_lacks : (rules : Rules) (line : ℕ) (name : List ℕ) (ts : List SourceToken) (m : Macro) (fs : List Formal) (f : FaultKind)
    → call_of token_role kept rules.argument_bytes (leading ts) ≡ CallFault f → usage_of_formals rules source_reads line name (leading ts) m (Some fs) ≡ UsageFault f name line
unfolding usage_of_formals usage_of_call
source_lacks rules line name ts m fs f e = ap (usage_of_call source_reads m fs line name) e

-- one with a broken token is refused for that, at its line
pub source_breaks : (rules : Rules) (line : ℕ) (name : List ℕ) (ts : List SourceToken) (m : Macro) (fs : List Formal) (f : FaultKind) (own : ℕ)
    → call_of token_role kept rules.argument_bytes (leading ts) ≡ CallBreakFault f own → usage_of_formals rules source_reads line name (leading ts) m (Some fs) ≡ UsageFault f [] own
unfolding usage_of_formals usage_of_call
source_breaks rules line name ts m fs f own e = ap (usage_of_call source_reads m fs line name) e

-- in live text, a usage of the macro at a place, whose call was read and bound, comes to what remains of that body with those
-- ranges of the kept text as actuals, and then what remains after its call
pub resumed_open : (rules : Rules) (os : List Progress) (first : Bool) (name : List ℕ) (line : ℕ) (ts : List SourceToken) (s : State) (d : ℕ) (texts : Texts) (id : ℕ)
    (fs : List Formal) (ranges : List Range) (following : List SourceToken) (b : OpensBound rules line name ts (macro_at texts.macros id) fs texts.arguments ranges following)
    → is_reserved name ≡ false → rules.depth ≡ suc d → macro_named s.macros name ≡ Some (macro_at texts.macros id)
    → (macro_at texts.macros id).formals ≡ Some fs
    → resumed rules (Live os) first (usage_token name line ∷ ts) s
    ≡ goes_on (leaves (open_left rules s line (suc d) texts (open_body texts id (map range_part ranges) 0 ∷ [])) s)
    (λ after. resumed rules (Live os) (only_blanks first (bytes_of (take (suc b.used) (usage_token name line ∷ ts)))) following after)
resumed_open rules os first name line ts s d texts id fs ranges following b reserved depth found formals =
    let m = macro_at texts.macros id in
    let flag = only_blanks first (bytes_of (take (suc b.used) (usage_token name line ∷ ts))) in
    let further : List SourceToken → State → Passage = λ rest after. resumed rules (Live os) flag rest after in
    let actuals = ranges_tokens texts.arguments ranges in
    resumed_opens rules os first name line ts s d m actuals b.used reserved depth
    (usage_with_list source_reads rules s line [] name (leading ts) m fs (Opens m actuals b.used) reserved found refl formals b.opens)
    ∙ ap (λ (x : Outcome). goes_on (leaves x s) (further (drop b.used ts))) (sym (first-left rules s line d texts id (map range_part ranges)))
    ∙ ap (λ (rest : List SourceToken). goes_on (leaves (open_left rules s line (suc d) texts (open_body texts id (map range_part ranges) 0 ∷ [])) s) (further rest)) b.rest

-- The test whether a call in a text keeps each token.

-- a call drops a `//` comment
pub kept_comment : (r : CallRole) → r ≡ LineComment → is_kept (role_meant r) ≡ false
unfolding is_kept role_meant
kept_comment r e = ap (λ (q : CallRole). is_kept (role_meant q)) e

-- and keeps any other token
pub kept_other : (r : CallRole) → (r ≡ LineComment → ⊥) → is_kept (role_meant r) ≡ true
unfolding is_kept role_meant
kept_other LineComment other = absurd (other refl)
kept_other r other = refl

-- the test at a token
pub kept_turn : (mode : Mode) (text : List ℕ) (at : ℕ) (token : CallToken) → IsFirstToken mode (drop at text) token
    → keeps_each (text_tokens mode (drop at text)) ≡ cond (is_kept (role_meant token.role)) (keeps_each (text_tokens token.next_mode (drop (at + token.len) text))) false
unfolding keeps_each
kept_turn mode text at token f = grind (arith, drop-drop)

-- tokens of which the test holds are all kept, by whether the first one is
kept_by : (t : SourceToken) (ts : List SourceToken) (first : Bool) → is_kept (token_role t) ≡ first → cond first (keeps_each ts) false ≡ true → (keeps_each ts ≡ true → KeepsAll ts)
    → KeepsAll (t ∷ ts)
kept_by t ts true e h rest = All-cons (λ u. is_kept (token_role u) ≡ true) t ts e (rest h)
kept_by t ts false e h rest = absurd (true≢false (sym h))

-- tokens of which the test holds are all kept
pub each_kept : (ts : List SourceToken) → keeps_each ts ≡ true → KeepsAll ts
unfolding keeps_each
each_kept [] h = All-nil (λ u. is_kept (token_role u) ≡ true)
each_kept (t ∷ ts) h = kept_by t ts (is_kept (token_role t)) refl h (each_kept ts)

-- it holds of tokens that are
pub kept_each : (ts : List SourceToken) → KeepsAll ts → keeps_each ts ≡ true
unfolding keeps_each
kept_each [] all = refl
kept_each (t ∷ ts) all =
    let P : SourceToken → Type 0 = λ u. is_kept (token_role u) ≡ true in
    ap (λ (b : Bool). cond b (keeps_each ts) false) (All-head P t ts all) ∙ kept_each ts (All-tail P t ts all)

-- A usage of a macro with a list in open texts: its call is bound and its body opens, or it is refused.

-- the list of formals of a macro that has one
has-list : {A : Type 0} (o : Option A) → is_some o ≡ true → (x : A) × (o ≡ Some x)
has-list None e = absurd (true≢false (sym e))
has-list (Some x) e = (x, refl)

-- where the call of a usage at the front of an open text stands: in the text in which that lies, after the usage
pub record IsCallPlace (texts : Texts) (x : Open) (below : List Open) (len : ℕ) (text : List ℕ) (at end : ℕ) : Type 0 where
  pub text_is : text ≡ text_around texts x.kind x.parent below
  pub at_is : at ≡ x.part.from + len
  pub end_is : end ≡ x.part.end

-- by a look
call-place : (texts : Texts) (x : Open) (below : List Open) (peek : Peek) (len : ℕ) (text : List ℕ) (at : ℕ) → AreSound texts (x ∷ below) → IsPeek texts (x ∷ below) peek
    → peek.front ≡ front.Usage len → text ≡ source_text texts peek.source → at ≡ peek.at + len
    → IsCallPlace texts x below len text at peek.end
unfolding IsPeek IsTextItem open_bytes
call-place texts x below peek len text at h l e is k = grind (arith, front-is, source-around)

-- the tokens after a usage
call-tokens : (texts : Texts) (x : Open) (below : List Open) (len : ℕ) (text : List ℕ) (at end : ℕ) → AreSound texts (x ∷ below) → IsCallPlace texts x below len text at end
    → IsTextItem (source_formals texts (front_source (x ∷ below))) (open_bytes texts x below) (front.Usage len)
    → tokens_after texts x below ≡ body_tokens (slice_range text at end)
unfolding IsTextItem tokens_after part_tokens open_after
call-tokens texts x below len text at end h p f = grind (arith, first-moved, back-closes, body_text)

-- no call in them drops one
call-keeps : (texts : Texts) (x : Open) (below : List Open) (len : ℕ) (text : List ℕ) (at end : ℕ) → AreSound texts (x ∷ below) → IsCallPlace texts x below len text at end
    → IsTextItem (source_formals texts (front_source (x ∷ below))) (open_bytes texts x below) (front.Usage len)
    → KeepsAll (body_tokens (slice_range text at end))
unfolding IsTextItem part_tokens moved_to
call-keeps texts x below len text at end h p f = grind (arith, first-sound, back-closes, body_text)

-- what the usage comes to
call-usage : (rules : Rules) (s : State) (line : ℕ) (texts : Texts) (x : Open) (below : List Open) (len id : ℕ) (text : List ℕ) (at end : ℕ) (fs : List Formal) → AreSound texts (x ∷ below)
    → IsCallPlace texts x below len text at end
    → IsTextItem (source_formals texts (front_source (x ∷ below))) (open_bytes texts x below) (front.Usage len)
    → IsUsed texts (x ∷ below) (front_name texts (x ∷ below) len) id → (macro_at texts.macros id).formals ≡ Some fs
    → s.macros ≡ texts.macros
    → first_usage rules s line texts x below ≡ usage_in rules line (front_name texts (x ∷ below) len) (macro_at texts.macros id) fs text at end
unfolding IsTextItem
call-usage rules s line texts x below len id text at end fs h p f used list m =
    let name = front_name texts (x ∷ below) len in
    let own = macro_at texts.macros id in
    first-used rules s line texts x below len id (h.are_inside).1.1.0 f.2 used m
    ∙ ap (λ (ts : List SourceToken). usage_of_formals rules text_reads line name ts own own.formals) (call-tokens texts x below len text at end h p f)
    ∙ ap (λ (o : Option (List Formal)). usage_of_formals rules text_reads line name (body_tokens (slice_range text at end)) own o) list

-- as many formals as its list has
list-count : (m : Macro) (fs : List Formal) → m.formals ≡ Some fs → length fs ≡ length (formals_of m)
list-count m fs e = sym (ap (λ (o : Option (List Formal)). length (unwrap_or o [])) e)

-- a usage whose call is refused is its fault
step-call_refused : (line depth : ℕ) (texts : Texts) (x : Open) (below : List Open) (len id : ℕ) (text : List ℕ) (at end : ℕ) (kind : FaultKind) (new : List Open) (fault : CursorFault)
    → AreSound texts (x ∷ below) → IsCallPlace texts x below len text at end
    → IsTextItem (source_formals texts (front_source (x ∷ below))) (open_bytes texts x below) (front.Usage len)
    → IsUsed texts (x ∷ below) (front_name texts (x ∷ below) len) id → is_some (macro_at texts.macros id).formals ≡ true
    → IsBoundCall text at end (length (formals_of (macro_at texts.macros id))) [] (Err kind)
    → fault.kind ≡ kind → place_bytes texts fault.word ≡ front_name texts (x ∷ below) len
    → IsStep line depth texts (x ∷ below) (Refused fault) new
unfolding IsStep StepsTo IsTextItem IsBoundCall
step-call_refused line depth texts x below len id text at end kind new fault h p f used list b k w rules s m =
    let mode = (h.are_inside).1.1.0 in
    let name = front_name texts (x ∷ below) len in
    let own = macro_at texts.macros id in
    let fs = has-list own.formals list in
    left-refused rules s line depth texts x below kind name line f.0 (kind-first texts x below Back mode f.1)
    (call-usage rules s line texts x below len id text at end fs.0 h p f used fs.1 m ∙ b rules line name own fs.0 (list-count own fs.0 fs.1))
    ∙ sym (fault-same s line texts fault kind name k w)

-- so is one that is bound where no further text may be open
step-call_deep : (line depth : ℕ) (texts : Texts) (x : Open) (below : List Open) (len id : ℕ) (text : List ℕ) (at end : ℕ) (new : List Open) (fault : CursorFault)
    → AreSound texts (x ∷ below) → IsCallPlace texts x below len text at end
    → IsTextItem (source_formals texts (front_source (x ∷ below))) (open_bytes texts x below) (front.Usage len)
    → IsUsed texts (x ∷ below) (front_name texts (x ∷ below) len) id → is_some (macro_at texts.macros id).formals ≡ true
    → IsCallBound texts.macros text at end id → depth ≤ length (x ∷ below)
    → fault.kind ≡ DepthPassed → place_bytes texts fault.word ≡ []
    → IsStep line depth texts (x ∷ below) (Refused fault) new
unfolding IsStep StepsTo IsTextItem IsBoundCall
step-call_deep line depth texts x below len id text at end new fault h p f used list c deep k w rules s m =
    let mode = (h.are_inside).1.1.0 in
    let name = front_name texts (x ∷ below) len in
    let own = macro_at texts.macros id in
    let fs = has-list own.formals list in
    let b : IsBoundAt text at end (length (formals_of own)) c.ranges c.following = c.bound in
    left-usage_deep rules s line depth texts x below own (ranges_tokens text c.ranges) b.used f.0 (kind-first texts x below Back mode f.1)
    (call-usage rules s line texts x below len id text at end fs.0 h p f used fs.1 m ∙ b.opens rules line name own fs.0 (list-count own fs.0 fs.1)) deep
    ∙ sym (fault-same s line texts fault DepthPassed [] k w)

-- the scope of an open text that goes on has the text in which that lies
scope-text : (texts : Texts) (x : Open) (below : List Open) (part : Part) → x.parent ≤ length below
    → scope_text texts (record { part = part; parent = x.parent; kind = x.kind } ∷ below) (open_scope x below) ≡ text_around texts x.kind x.parent below
unfolding open_scope text_around scope_text
scope-text texts x below part h = grind (arith, next_is, text-around)

-- what is left after a call that is bound
call-left : (texts : Texts) (x : Open) (below : List Open) (len : ℕ) (text : List ℕ) (at end formals : ℕ) (ranges : List Range) (following : ℕ) (b : IsBoundAt text at end formals ranges following)
    → AreSound texts (x ∷ below) → IsCallPlace texts x below len text at end
    → IsTextItem (source_formals texts (front_source (x ∷ below))) (open_bytes texts x below) (front.Usage len) → at ≤ following
    → drop b.used (tokens_after texts x below) ≡ part_tokens (text_around texts x.kind x.parent below) (open_after x (following - x.part.from) Plain).part
unfolding open_after
call-left texts x below len text at end formals ranges following b h p f low =
    let from = x.part.from in
    let place = p.at_is in
    ap (λ (ts : List SourceToken). drop b.used ts) (call-tokens texts x below len text at end h p f)
    ∙ after_part text from at end formals following ranges b (omega (arith, place, low))
    ∙ ap (λ (t : List ℕ). part_tokens t (record { from = from + (following - from); end = end; mode = Plain })) p.text_is
    ∙ ap (λ (n : ℕ). part_tokens (text_around texts x.kind x.parent below) (record { from = from + (following - from); end = n; mode = Plain })) p.end_is

-- a usage whose call is bound opens its body, where there is room
step-call_opened : (line depth : ℕ) (texts : Texts) (x : Open) (below : List Open) (len id : ℕ) (text : List ℕ) (at end : ℕ) (c : IsCallBound texts.macros text at end id)
    → AreSound texts (x ∷ below) → IsCallPlace texts x below len text at end
    → IsTextItem (source_formals texts (front_source (x ∷ below))) (open_bytes texts x below) (front.Usage len)
    → IsUsed texts (x ∷ below) (front_name texts (x ∷ below) len) id → is_some (macro_at texts.macros id).formals ≡ true
    → length (x ∷ below) < depth
    → IsStep line depth texts (x ∷ below) Silent (open_body texts id (map range_part c.ranges) (open_scope x below) ∷ moved_to c.following (x ∷ below))
unfolding IsStep StepsTo IsTextItem IsBoundCall moved_to open_after
step-call_opened line depth texts x below len id text at end c h p f used list room rules s m =
    let mode = (h.are_inside).1.1.0 in
    let name = front_name texts (x ∷ below) len in
    let own = macro_at texts.macros id in
    let fs = has-list own.formals list in
    let b : IsBoundAt text at end (length (formals_of own)) c.ranges c.following = c.bound in
    let from = x.part.from in
    let place = p.at_is in
    let low = (c.place).0 in
    let parts = map range_part c.ranges in
    let is : from + (c.following - from) ≡ c.following = omega (arith, place, low) in
    left-usage rules s line depth texts x below id parts b.used (c.following - from) Plain (h.are_open).0 f.0 (kind-first texts x below Back mode f.1)
    (call-usage rules s line texts x below len id text at end fs.0 h p f used fs.1 m
    ∙ b.opens rules line name own fs.0 (list-count own fs.0 fs.1)
    ∙ ap (λ (t : List ℕ). Opens own (map (part_tokens t) parts) b.used) p.text_is)
    (call-left texts x below len text at end (length (formals_of own)) c.ranges c.following b h p f low) room
    ∙ ap (λ (n : ℕ). open_left rules s line depth texts
    (open_body texts id parts (open_scope x below) ∷ record { part = record { from = n; end = x.part.end; mode = Plain }; parent = x.parent; kind = x.kind } ∷ below)) is

-- parts of a text keep all where its ranges do
pub parts-keep : (text : List ℕ) (ranges : List Range) → AllByRecursion (λ r. KeepsAll (part_tokens text (range_part r))) ranges
    → AllByRecursion (λ part. KeepsAll (part_tokens text part)) (map range_part ranges)
parts-keep text [] all = tt
parts-keep text (r ∷ rs) all = (all.0, parts-keep text rs all.1)

-- a range of a text keeps all where its tokens do
left-keeps : (text : List ℕ) (from end : ℕ) → KeepsAll (body_tokens (slice_range text from end)) → KeepsAll (part_tokens text (record { from = from; end = end; mode = Plain }))
unfolding part_tokens
left-keeps text from end h = subst (λ (ts : List SourceToken). KeepsAll ts) (body_text (slice_range text from end)) h

-- the body that a bound call opens is sound, in front of what is left after the call
sound-called : (table : TableView) (arguments : List ℕ) (x : Open) (below : List Open) (len id : ℕ) (text : List ℕ) (at end : ℕ) (c : IsCallBound table.macros text at end id)
    → IsSound table → AreSound (texts_of table.macros arguments) (x ∷ below) → IsCallPlace (texts_of table.macros arguments) x below len text at end
    → id < length table.macros
    → AreSound (texts_of table.macros arguments) (open_body (texts_of table.macros arguments) id (map range_part c.ranges) (open_scope x below) ∷ moved_to c.following (x ∷ below))
unfolding open_body IsBoundCall moved_to open_scope front_scope text_around own_text
sound-called table arguments x below len id text at end c sound h p inside =
    let texts = texts_of table.macros arguments in
    let own = macro_at table.macros id in
    let around = text_around texts x.kind x.parent below in
    let rest : Part = record { from = c.following; end = x.part.end; mode = Plain } in
    let scoped : text ≡ scope_text texts (moved_to c.following (x ∷ below)) (open_scope x below) = p.text_is ∙ sym (scope-text texts x below rest (h.are_open).0) in
    let b : IsBoundAt text at end (length (formals_of own)) c.ranges c.following = c.bound in
    let parts = map range_part c.ranges in
    let count = length-map c.ranges range_part in
    let many = b.count in
    let scope = scope-inside (x ∷ below) (parents-out texts (x ∷ below) h.are_open) in
    let ends = ((h.are_inside).1).0 in
    let end_is = p.end_is in
    let fits : end ≤ length text = subst (λ (t : List ℕ). end ≤ length t) (sym p.text_is) (omega (arith, ends, end_is)) in
    let left : KeepsAll (part_tokens around rest) =
    subst (λ (t : List ℕ). KeepsAll (part_tokens t rest)) p.text_is
    (subst (λ (n : ℕ). KeepsAll (part_tokens text (record { from = c.following; end = n; mode = Plain }))) p.end_is
    (left-keeps text c.following end b.keeps_after)) in
    let moved = sound-moved texts x below c.following h left in
    record {
      are_open = (
        scope,
        (
          (
            omega (arith, count, many),
            subst (λ (t : List ℕ). AllByRecursion (λ part. part.end ≤ length t) parts) scoped (parts_inside (length text) at end c.ranges fits c.within),
          ),
          moved.are_open,
        ),
      );
      are_inside = (inside, (whole own.body, (refl, moved.are_inside)));
      are_kept = (
        subst (λ (ts : List SourceToken). KeepsAll ts) (sym (part-whole own.body)) (body-keeps table id sound inside),
        (subst (λ (t : List ℕ). AllByRecursion (λ part. KeepsAll (part_tokens t part)) parts) scoped (parts-keep text c.ranges b.keeps), moved.are_kept),
      );
    }
  where
    whole : (body : List ℕ) → length body ≤ length body
    whole body = omega arith

-- where the call of a usage stands in its text, and that it drops no token
pub record IsCallInside (peek : Peek) (text : List ℕ) (at : ℕ) : Type 0 where
  pub ordered : at ≤ peek.end
  pub fits : peek.end ≤ length text
  pub keeps : KeepsAll (body_tokens (slice_range text at peek.end))

-- it stands so, by a look
pub peek-call : (texts : Texts) (opens : List Open) (peek : Peek) (len : ℕ) (text : List ℕ) (at : ℕ) → AreSound texts opens → IsPeek texts opens peek → peek.front ≡ front.Usage len
    → text ≡ source_text texts peek.source → at ≡ peek.at + len → IsCallInside peek text at
unfolding IsPeek
peek-call texts opens peek len text at h l e is k =
    let place = usage-place texts opens peek len h l e in
    let inside = place.inside in
    let within = place.within in
    record {
      ordered = omega (arith, inside, k);
      fits = subst (λ (t : List ℕ). peek.end ≤ length t) (sym is) within;
      keeps = by opens h l;
    }
  where
    by : (opens : List Open) → AreSound texts opens → IsPeek texts opens peek → KeepsAll (body_tokens (slice_range text at peek.end))
    by [] h l = absurd l
    by (x ∷ below) h l = call-keeps texts x below len text at peek.end h (call-place texts x below peek len text at h l e is k) (front-is texts x below peek len e l.3)

-- a usage of a macro with a list at the front of open texts, whose call stands in a text from a place on
pub record IsListUsed (texts : Texts) (opens : List Open) (peek : Peek) (len id : ℕ) (text : List ℕ) (at : ℕ) : Type 0 where
  pub sound : AreSound texts opens
  pub look_is : IsPeek texts opens peek
  pub front_is : peek.front ≡ front.Usage len
  pub used : IsUsed texts opens (front_name texts opens len) id
  pub list : is_some (macro_at texts.macros id).formals ≡ true
  pub text_is : text ≡ source_text texts peek.source
  pub at_is : at ≡ peek.at + len

-- that there is one
pub list-used : (texts : Texts) (opens : List Open) (peek : Peek) (len id : ℕ) (text : List ℕ) (at : ℕ) → AreSound texts opens → IsPeek texts opens peek → peek.front ≡ front.Usage len
    → IsUsed texts opens (front_name texts opens len) id → is_some (macro_at texts.macros id).formals ≡ true → text ≡ source_text texts peek.source → at ≡ peek.at + len
    → IsListUsed texts opens peek len id text at
list-used texts opens peek len id text at h l e used list is k = record { sound = h; look_is = l; front_is = e; used = used; list = list; text_is = is; at_is = k }

-- a call that is refused, by a look
peek-call_refused : (line depth : ℕ) (texts : Texts) (opens : List Open) (peek : Peek) (len id : ℕ) (text : List ℕ) (at from : ℕ) (kind : FaultKind)
    → IsListUsed texts opens peek len id text at → from ≡ peek.at + 1
    → IsBoundCall text at peek.end (length (formals_of (macro_at texts.macros id))) [] (Err kind)
    → IsStep line depth texts opens (Refused (record { kind = kind; word = record { source = peek.source; from = from; end = at } })) opens
unfolding IsPeek
peek-call_refused line depth texts [] peek len id text at from kind h g b = absurd (h.look_is)
peek-call_refused line depth texts (x ∷ below) peek len id text at from kind h g b =
    let place = call-place texts x below peek len text at h.sound h.look_is h.front_is h.text_is h.at_is in
    grind (arith, step-call_refused, front-is, usage-word)

-- one that is bound where no further text may be open
peek-call_deep : (line depth : ℕ) (texts : Texts) (opens : List Open) (peek : Peek) (len id : ℕ) (text : List ℕ) (at : ℕ)
    → IsListUsed texts opens peek len id text at → IsCallBound texts.macros text at peek.end id → depth ≤ length opens
    → IsStep line depth texts opens (wordless DepthPassed) opens
unfolding IsPeek
peek-call_deep line depth texts [] peek len id text at h c deep = absurd (h.look_is)
peek-call_deep line depth texts (x ∷ below) peek len id text at h c deep =
    let place = call-place texts x below peek len text at h.sound h.look_is h.front_is h.text_is h.at_is in
    step-call_deep line depth texts x below len id text at peek.end (x ∷ below) (record { kind = DepthPassed; word = record { source = Arguments; from = 0; end = 0 } }) h.sound place
    (front-is texts x below peek len h.front_is (h.look_is).3) h.used h.list c deep refl (no-word texts Arguments)

-- one that opens its body
peek-call_opened : (line depth : ℕ) (table : TableView) (arguments : List ℕ) (opens : List Open) (peek : Peek) (len id : ℕ) (text : List ℕ) (at : ℕ) (c : IsCallBound table.macros text at peek.end id)
    → IsSound table → IsListUsed (texts_of table.macros arguments) opens peek len id text at → length opens < depth
    → IsStep line depth (texts_of table.macros arguments) opens Silent (open_body (texts_of table.macros arguments) id (map range_part c.ranges) (front_scope opens) ∷ moved_to c.following opens)
    × AreSound (texts_of table.macros arguments) (open_body (texts_of table.macros arguments) id (map range_part c.ranges) (front_scope opens) ∷ moved_to c.following opens)
unfolding front_scope IsPeek
peek-call_opened line depth table arguments [] peek len id text at c sound h room = absurd (h.look_is)
peek-call_opened line depth table arguments (x ∷ below) peek len id text at c sound h room =
    let texts = texts_of table.macros arguments in
    let place = call-place texts x below peek len text at h.sound h.look_is h.front_is h.text_is h.at_is in (
      step-call_opened line depth texts x below len id text at peek.end c h.sound place (front-is texts x below peek len h.front_is (h.look_is).3) h.used h.list room,
      sound-called table arguments x below len id text at peek.end c sound h.sound place (h.used).inside,
    )

-- a call that is refused
pub pass-call_refused : (texts : Texts) (view new : CursorsView) (peek : Peek) (len id parent : ℕ) (text : List ℕ) (at : ℕ) (kind : FaultKind) (o : Opening) (word : TextPlace)
    → IsListUsed texts view.opens peek len id text at → o ≡ opening.Refused kind → IsOpening texts.macros text at peek.end id parent view o new
    → word ≡ record { source = peek.source; from = peek.at + 1; end = at }
    → IsPassed texts view new (Refused (record { kind = kind; word = word }))
unfolding IsOpening IsFalling StaysRefused
pass-call_refused texts view new peek len id parent text at kind o word h e b w = grind (arith, peek-call_refused)

-- a call that is bound where no further text may be open
pub pass-call_deep : (texts : Texts) (view new : CursorsView) (peek : Peek) (len id parent : ℕ) (text : List ℕ) (at : ℕ) (o : Opening)
    → IsListUsed texts view.opens peek len id text at → o ≡ opening.Deep → IsOpening texts.macros text at peek.end id parent view o new → IsPassed texts view new (wordless DepthPassed)
unfolding IsOpening IsFalling StaysRefused
pass-call_deep texts view new peek len id parent text at o h e b =
    let both = subst (λ (r : Opening). IsOpening texts.macros text at peek.end id parent view r new) e b in
    subst (λ (v : CursorsView). IsPassed texts view v (wordless DepthPassed)) (sym both.0) (record {
      is_step = peek-call_deep view.line view.depth texts view.opens peek len id text at h both.1.1 both.1.0;
      sound = h.sound;
      kept = (refl, refl);
      digits = tt;
      refused = refl;
    })

-- a call that opens its body
pub pass-call_opened : (table : TableView) (arguments : List ℕ) (view new : CursorsView) (peek : Peek) (len id parent : ℕ) (text : List ℕ) (at : ℕ) (o : Opening)
    → IsSound table → IsListUsed (texts_of table.macros arguments) view.opens peek len id text at → parent ≡ front_scope view.opens
    → o ≡ opening.Opened → IsOpening table.macros text at peek.end id parent view o new → IsPassed (texts_of table.macros arguments) view new Silent
unfolding IsOpening IsFalling StaysRefused open_body
pass-call_opened table arguments view new peek len id parent text at o sound h scope e b =
    let texts = texts_of table.macros arguments in
    let c : IsCallOpened table.macros text at peek.end id parent view new = subst (λ (r : Opening). IsOpening table.macros text at peek.end id parent view r new) e b in
    let own : CursorsView = record view { opens = open_body texts id (map range_part (c.call).ranges) (front_scope view.opens) ∷ moved_to (c.call).following view.opens } in
    let is : new ≡ own = c.opens ∙ ap (λ (n : ℕ). record view { opens = open_body texts id (map range_part (c.call).ranges) n ∷ moved_to (c.call).following view.opens }) scope in
    let both = peek-call_opened view.line view.depth table arguments view.opens peek len id text at c.call sound h c.room in
    let place = usage-place texts view.opens peek len h.sound h.look_is h.front_is in
    let some = place.some in
    let at_is = h.at_is in
    let low = ((c.call).place).0 in
    let high = ((c.call).place).1 in
    subst (λ (v : CursorsView). IsPassed texts view v Silent) (sym is) (record {
      is_step = both.0;
      sound = both.1;
      kept = (refl, refl);
      digits = peek-opens texts view.opens peek (c.call).following (open_body texts id (map range_part (c.call).ranges) (front_scope view.opens)) h.look_is
          (omega (arith, some, at_is, low)) high;
      refused = tt;
    })

-- after a call, opened or refused, a text is open
pub opening-open : (macros : List Macro) (text : List ℕ) (at end id parent : ℕ) (old : CursorsView) (result : Opening) (new : CursorsView) → 0 < length old.opens
    → IsOpening macros text at end id parent old result new → 0 < length new.opens
unfolding IsOpening
opening-open macros text at end id parent old opening.Opened new some h = subst (λ (v : CursorsView). 0 < length v.opens) (sym h.opens) (omega arith)
opening-open macros text at end id parent old _ new some h = subst (λ (v : CursorsView). 0 < length v.opens) (sym h.0) some

-- A call in a source, whose kept text is bound, opens the body of its macro.

-- the body that a call in a source opens is sound
sound-started : (table : TableView) (arguments : List ℕ) (id : ℕ) (ranges : List Range) → IsSound table → id < length table.macros → KeepsAll (body_tokens arguments)
    → bound_parts (formals_of (macro_at table.macros id)) (actuals_of arguments) ≡ ranges_tokens arguments ranges → true ≡ is_count (formals_of (macro_at table.macros id)) (actuals_of arguments)
    → AreWithin 0 (length arguments) ranges
    → AreSound (texts_of table.macros arguments) (open_body (texts_of table.macros arguments) id (map range_part ranges) 0 ∷ [])
unfolding open_body text_around own_text scope_text
sound-started table arguments id ranges sound inside keeps tokens counted within =
    let own = macro_at table.macros id in
    let many = count_exact (formals_of own) (actuals_of arguments) counted in
    let same : length (bound_parts (formals_of own) (actuals_of arguments)) ≡ length ranges = ap length tokens ∙ length-map (map range_part ranges) (part_tokens arguments) ∙ length-map ranges range_part in
    let parts = length-map ranges range_part in
    record {
      are_open = (omega arith, ((omega (arith, many, same, parts), parts_inside (length arguments) 0 (length arguments) ranges (omega arith) within), tt));
      are_inside = (inside, (omega arith, (refl, tt)));
      are_kept = (
        subst (λ (ts : List SourceToken). KeepsAll ts) (sym (part-whole own.body)) (body-keeps table id sound inside),
        (parts-keep arguments ranges (ranges_keep arguments ranges (subst (λ (xs : List (List SourceToken)). AllByRecursion KeepsAll xs) tokens (all_bound KeepsAll (formals_of own) (actuals_of arguments) (actuals_keep arguments keeps)))), tt),
      );
    }

-- a call whose parts are bound opens its body
pub call-started : (table : TableView) (arguments : List ℕ) (id line : ℕ) (ranges : List Range) (old new : CursorsView) → IsSound table → id < length table.macros
    → keeps_each (body_tokens arguments) ≡ true
    → bound_parts (formals_of (macro_at table.macros id)) (actuals_of arguments) ≡ ranges_tokens arguments ranges → true ≡ is_count (formals_of (macro_at table.macros id)) (actuals_of arguments)
    → AreWithin 0 (length arguments) ranges
    → new ≡ record { opens = open_body (texts_of table.macros arguments) id (map range_part ranges) 0 ∷ []; line = line; depth = old.depth }
    → IsCallStarted (texts_of table.macros arguments) id line old new
call-started table arguments id line ranges old new sound inside keeps tokens counted within is = grind (arith, sound-started, each_kept)

-- a call with more or fewer parts
pub call-miscounted : (table : TableView) (arguments : List ℕ) (id : ℕ) (kind : FaultKind) (old new : CursorsView) → kind ≡ ArgumentCount
    → false ≡ is_count (formals_of (macro_at table.macros id)) (actuals_of arguments) → new ≡ old → IsCallMiscounted (texts_of table.macros arguments) id kind old new
call-miscounted table arguments id kind old new k counted same = record { kind_is = k; same = same; counted = λ keeps. sym counted }

-- a text in which a call drops a token is kept of no call
pub call-dropped : (table : TableView) (arguments : List ℕ) (id : ℕ) (kind : FaultKind) (old new : CursorsView) → kind ≡ ArgumentCount
    → keeps_each (body_tokens arguments) ≡ false → new ≡ old → IsCallMiscounted (texts_of table.macros arguments) id kind old new
call-dropped table arguments id kind old new k dropped same =
    record { kind_is = k; same = same; counted = λ keeps. absurd (true≢false (sym (kept_each (body_tokens arguments) keeps) ∙ dropped)) }

-- there is room where no text is open
pub room-closed : (v : Vec Frame Global) (depth first : ℕ) (bindings : List Range) → opens_of (drop first v.items) bindings ≡ [] → 0 < depth → vec_len v < first + depth
room-closed v depth first bindings none room =
    let size = ap (λ (os : List Open). length os) none in
    room-first v depth first bindings (omega (arith, size, room))

-- the body that a call opens where no text was open
pub started-opens : (table : TableView) (arguments : List ℕ) (id : ℕ) (ranges : List Range) (body : List ℕ) (opens : List Open) → body ≡ (macro_at table.macros id).body → opens ≡ []
    → record { part = record { from = 0; end = length body; mode = Plain }; parent = 0; kind = OpenBody id (map range_part ranges) } ∷ opens
    ≡ open_body (texts_of table.macros arguments) id (map range_part ranges) 0 ∷ []
unfolding open_body
started-opens table arguments id ranges body opens e none = grind arith
