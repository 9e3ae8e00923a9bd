-- A usage in a source whose call is read and bound: what remains, and the opening of its body.
use Rattle.std.proofs.Common.{◌≡◌, ℕ, suc, Bool, false, List, [], ◌∷◌, ◌++◌, map, take, drop, Option, None, Some, refl, sym, ap, ◌∙◌, inl, inr, zero, ◌<◌, true, length, subst, arith, ◌+◌, ◌≤◌, option_map, if◌then◌else◌, is_some, unwrap_or, ◌==◌, eqb-true, true≢false, drop-drop, length-append, length-drop, length-take, length-take-le, take-append-drop}
use Rattle.std.proofs.lemmas.Bool.{false≢true}
use Rattle.std.proofs.lemmas.Grind.{flat_map-append}
use Rattle.std.proofs.lemmas.List.{append_cancel_right, length-map}
use Rattle.rdlpp_scan.specs.Reserved.{is_reserved}
use Rattle.rdlpp_scan.specs.SourceTokens.{SourceToken}
use Rattle.rdlpp_scan.specs.declared.token.Mode.TheVariants.{Plain}
use Rattle.rdlpp_define.specs.Macros.{Formal, Macro, formals_of}
use Rattle.rdlpp_define.specs.Table.{macro_named, macro_at}
use Rattle.rdlpp_meaning.specs.Actuals.{kept, source_reads}
use Rattle.rdlpp_meaning.specs.CallScan.{Before}
use Rattle.rdlpp_meaning.specs.Expansion.{bound_parts, Opens, UsageFault, bytes_of, expand, usage_of, usage_of_formals, usage_of_macro, usage_token}
use Rattle.rdlpp_meaning.specs.Meaning.{Passage, Progress, goes_on, leaves}
use Rattle.rdlpp_meaning.specs.OpenItems.{open_left}
use Rattle.rdlpp_meaning.specs.Opened.{Waiting, all_resumed}
use Rattle.rdlpp_meaning.specs.Opens.{Open, Part, Texts, open_body, part_tokens}
use Rattle.rdlpp_meaning.specs.Outcome.{Outcome, fails}
use Rattle.rdlpp_meaning.specs.Parts.{only_blanks}
use Rattle.rdlpp_meaning.specs.Resumed.{Live, leading, resumed}
use Rattle.rdlpp_meaning.specs.State.{Rules, State, fault_at}
use Rattle.rdlpp_meaning.specs.Substitution.{substituted}
use Rattle.rdlpp_meaning.specs.declared.fault.FaultKind.{FaultKind}
use Rattle.rdlpp_meaning.specs.declared.fault.FaultKind.TheVariants.{ArgumentBytes, ArgumentCount, ArgumentsMissing, ArgumentsOpen, EmbeddedPerl, LineTooLong, OpenComment, OpenString, SourceTooLong}
use Rattle.rdlpp_meaning.proofs.Directives.{all_resumed_fails}
use Rattle.rdlpp_meaning.proofs.OpenSteps.{first-left}
use Rattle.rdlpp_meaning.proofs.Outcomes.{goes_on-assoc}
use Rattle.rdlpp_meaning.proofs.ReadCalls.{IsReadCall}
use Rattle.rdlpp_meaning.proofs.SourceCalls.{resumed_opens, resumed_refuses}
use Rattle.rdlpp_meaning.proofs.LiveText.{only_blanks-append}
use Rattle.rdlpp_texts.specs.BoundCalls.{actuals_of, range_part}
use Rattle.rdlpp_texts.specs.Calls.{IsCallStarted}
use Rattle.rdlpp_texts.specs.Opened.{CursorsView, bound_by, usage_id}
use Rattle.rdlpp_texts.specs.Places.{texts_of}
use Rattle.rdlpp_texts.specs.SourceBound.{OpensBound}
use Rattle.rdlpp_texts.specs.Steps.{AreSound, IsPlacedStep, KeepsOpen, StaysRefused}
use Rattle.rdlpp_texts.specs.TakenSteps.{TakesStep}
use Rattle.rdlpp_texts.specs.declared.bindings.Range.{Range}
use Rattle.rdlpp_texts.specs.declared.step.CursorStep.{CursorStep}
use Rattle.rdlpp_texts.specs.declared.step.CursorStep.TheVariants.{Lends, Refused as Fault, Silent}
use Rattle.rdlpp_texts.proofs.BoundParts.{count_exact}
use Rattle.rdlpp_texts.proofs.Calling.{resumed_open, source_bound, source_breaks, source_counted, source_lacks, usage_with_list}
use Rattle.rdlpp_read.specs.Buffer.{BufferView, EndsHeld, MovesOver, ahead_of, held_of, rest_of, text_left, tokens_left, unused_of}
use Rattle.rdlpp_read.specs.Files.{consumed_file, inner_buffer, ends_mid_line_after, with_inner}
use Rattle.rdlpp_read.specs.declared.files.File.{File}
use Rattle.rdlpp_read.proofs.BufferTokens.{moves-on, moves-past, moves-told, text-on, text-past}
use Rattle.rdlpp_front.specs.SourceItems.{IsUsage, usage_name}
use Rattle.rdlpp_front.specs.SourceLeft.{HoldsFront, source_left}
use Rattle.rdlpp_front.proofs.TextLeft.{usage_left, usage_text}
use Rattle.rdlpp_usages.specs.CallReads.{IsCallOf, MeansCall, ReadsCall, is_read_fault, with_used}
use Rattle.rdlpp_usages.specs.Store.{StoreView}
use Rattle.rdlpp_usages.specs.Usages.{BindsKept, ExpansionView, IsExactOpening, IsOpenAlone, IsOwnLine, IsRun, IsUsageFault, KeepsOpening, KeepsUsage, LeavesOpen, RefusesCall, StaysAt, StaysLent, TakesUsageStep, TellsCallUsage, TellsUsage, UsesCall, UsesSource, inner_left, is_opened, is_usage_fault, texts_left}
use Rattle.rdlpp_usages.specs.declared.expansion.Opening.{Opening}
use Rattle.rdlpp_usages.specs.declared.expansion.Opening.TheVariants.{Broken, Failed, Opened, Refused}
use Rattle.rdlpp_usages.specs.declared.reading.CallRead.{CallRead}
use Rattle.rdlpp_usages.specs.declared.reading.CallRead.TheVariants as call
use Rattle.rdlpp_usages.proofs.CallLoop.{used_twice}

-- What remains at a usage in a source: its open body and then what remains after the usage, or the fault of its call.

-- the bytes of tokens up to those that remain
bytes_before : (ts following : List SourceToken) (n : ℕ) (used : List ℕ) → drop n ts ≡ following → bytes_of ts ≡ used ++ bytes_of following → bytes_of (take n ts) ≡ used
bytes_before ts following n used rest bytes =
    append_cancel_right (bytes_of (take n ts)) used (bytes_of following)
    (ap (λ (xs : List SourceToken). bytes_of (take n ts) ++ bytes_of xs) (sym rest)
    ∙ sym (flat_map-append (λ (t : SourceToken). t.bytes) (take n ts) (drop n ts))
    ∙ ap bytes_of (take-append-drop n ts)
    ∙ bytes)

-- whether only blanks stand before what is after a usage and its call, on its physical line
blanks_after : (first : Bool) (name : List ℕ) (line : ℕ) (ts following : List SourceToken) (n : ℕ) (used : List ℕ) → drop n ts ≡ following → bytes_of ts ≡ used ++ bytes_of following
    → only_blanks first (bytes_of (take (suc n) (usage_token name line ∷ ts))) ≡ only_blanks (only_blanks first (96 ∷ name)) used
blanks_after first name line ts following n used rest bytes =
    ap (λ (bs : List ℕ). only_blanks first ((96 ∷ name) ++ bs)) (bytes_before ts following n used rest bytes)
    ∙ only_blanks-append first (96 ∷ name) used

-- a usage of a macro without a list opens its macro
usage_without_list : (rules : Rules) (s : State) (line : ℕ) (name : List ℕ) (ts : List SourceToken) (m : Macro)
    → is_reserved name ≡ false → macro_named s.macros name ≡ Some m → m.formals ≡ None
    → usage_of rules s source_reads line [] name ts ≡ Opens m [] 0
unfolding usage_of usage_of_macro usage_of_formals
usage_without_list rules s line name ts m reserved found formals = grind arith

-- what a source goes on with, it goes on with in front of those that wait
all_resumed_on : (rules : Rules) (ws : List Waiting) (os : List Progress) (first flag : Bool) (ts following : List SourceToken) (s : State) (p : Passage)
    → resumed rules (Live os) first ts s ≡ goes_on p (λ after. resumed rules (Live os) flag following after)
    → all_resumed rules ws (Live os) first ts s ≡ goes_on p (λ after. all_resumed rules ws (Live os) flag following after)
unfolding all_resumed
all_resumed_on rules ws os first flag ts following s p e = grind (arith, goes_on-assoc)

-- a source of which a usage and its call were used: what is after them
pub record IsAfter {R : Type 0} (unread : R → List ℕ) (f new : File R) (len : ℕ) (used : List ℕ) : Type 0 where
  pub blanks : new.blanks ≡ only_blanks (only_blanks f.blanks (take len (held_of f.buffer))) used
  pub bytes : bytes_of (tokens_left unread (consumed_file len 0 f).buffer) ≡ used ++ bytes_of (tokens_left unread new.buffer)

module _ {R : Type 0} (rules : Rules) (unread : R → List ℕ) (ws : List Waiting) (os : List Progress) (f : File R) (s : State) (len : ℕ) where
  -- a usage that is refused by its tokens is a fault
  token_refused : HoldsFront f.buffer → f.buffer.mode ≡ Plain → IsUsage (held_of f.buffer) len
      → (kind : FaultKind) (word : List ℕ) (at : ℕ)
      → usage_of rules s source_reads f.buffer.line [] (usage_name (held_of f.buffer) len) (leading (tokens_left unread (consumed_file len 0 f).buffer)) ≡ UsageFault kind word at
      → source_left rules unread ws (Live os) f s ≡ leaves (fails (fault_at kind at word s)) s
  token_refused holds plain usage kind word at e =
      let name = usage_name (held_of f.buffer) len in
      let ts = tokens_left unread (consumed_file len 0 f).buffer in
      usage_left rules unread ws os f s len holds plain usage
      ∙ all_resumed_fails rules ws (Live os) f.blanks (usage_token name f.buffer.line ∷ ts) s s (fault_at kind at word s)
      (resumed_refuses rules os f.blanks name f.buffer.line ts s kind word at usage.free e)

  -- a call that is refused is a fault
  pub call_refused : HoldsFront f.buffer → f.buffer.mode ≡ Plain → IsUsage (held_of f.buffer) len
      → (m : Macro) (fs : List Formal) (kind : FaultKind) (word : List ℕ) (at : ℕ)
      → macro_named s.macros (usage_name (held_of f.buffer) len) ≡ Some m → m.formals ≡ Some fs
      → usage_of_formals rules source_reads f.buffer.line (usage_name (held_of f.buffer) len) (leading (tokens_left unread (consumed_file len 0 f).buffer)) m (Some fs) ≡ UsageFault kind word at
      → source_left rules unread ws (Live os) f s ≡ leaves (fails (fault_at kind at word s)) s
  call_refused holds plain usage m fs kind word at found formals e = grind (arith, token_refused, usage_with_list)

  -- a call that is bound opens its body, and the source goes on after it
  pub call_opens : HoldsFront f.buffer → f.buffer.mode ≡ Plain → IsUsage (held_of f.buffer) len
      → (d : ℕ) (texts : Texts) (id : ℕ) (fs : List Formal) (ranges : List Range) (new : File R) (used : List ℕ)
      → rules.depth ≡ suc d → macro_named s.macros (usage_name (held_of f.buffer) len) ≡ Some (macro_at texts.macros id)
      → (macro_at texts.macros id).formals ≡ Some fs
      → OpensBound rules f.buffer.line (usage_name (held_of f.buffer) len) (tokens_left unread (consumed_file len 0 f).buffer) (macro_at texts.macros id) fs texts.arguments ranges (tokens_left unread new.buffer)
      → IsAfter unread f new len used
      → source_left rules unread ws (Live os) f s
      ≡ goes_on (leaves (open_left rules s f.buffer.line (suc d) texts (open_body texts id (map range_part ranges) 0 ∷ [])) s)
      (λ after. source_left rules unread ws (Live os) new after)
  unfolding source_left
  call_opens holds plain usage d texts id fs ranges new used depth found formals b following =
      let name = usage_name (held_of f.buffer) len in
      let line = f.buffer.line in
      let ts = tokens_left unread (consumed_file len 0 f).buffer in
      let rest = tokens_left unread new.buffer in
      let opened : Passage = leaves (open_left rules s line (suc d) texts (open_body texts id (map range_part ranges) 0 ∷ [])) s in
      let flag : Bool = only_blanks f.blanks (bytes_of (take (suc b.used) (usage_token name line ∷ ts))) in
      let same : flag ≡ new.blanks =
      blanks_after f.blanks name line ts rest b.used used b.rest following.bytes
      ∙ ap (λ (bs : List ℕ). only_blanks (only_blanks f.blanks bs) used) (sym (usage_text (held_of f.buffer) len usage))
      ∙ sym following.blanks in
      usage_left rules unread ws os f s len holds plain usage
      ∙ all_resumed_on rules ws os f.blanks flag (usage_token name line ∷ ts) rest s opened
      (resumed_open rules os f.blanks name line ts s d texts id fs ranges rest b usage.free depth found formals)
      ∙ ap (λ (x : Bool). goes_on opened (λ after. all_resumed rules ws (Live os) x rest after)) same

  -- a usage of a macro without a list opens its body, and the source goes on after the name
  pub body_opens : HoldsFront f.buffer → f.buffer.mode ≡ Plain → IsUsage (held_of f.buffer) len
      → (d : ℕ) (texts : Texts) (id : ℕ)
      → rules.depth ≡ suc d → macro_named s.macros (usage_name (held_of f.buffer) len) ≡ Some (macro_at texts.macros id)
      → (macro_at texts.macros id).formals ≡ None
      → source_left rules unread ws (Live os) f s
      ≡ goes_on (leaves (open_left rules s f.buffer.line (suc d) texts (open_body texts id [] 0 ∷ [])) s)
      (λ after. source_left rules unread ws (Live os) (consumed_file len 0 f) after)
  unfolding source_left only_blanks
  body_opens holds plain usage d texts id depth found formals =
      let name = usage_name (held_of f.buffer) len in
      let line = f.buffer.line in
      let m = macro_at texts.macros id in
      let ts = tokens_left unread (consumed_file len 0 f).buffer in
      let opened : Outcome → Passage = λ o. leaves o s in
      let body : Outcome = expand rules s d (Some line) (m.name ∷ []) (substituted m [] []) in
      let flag : Bool = only_blanks f.blanks (bytes_of (take 1 (usage_token name line ∷ ts))) in
      let same : flag ≡ (consumed_file len 0 f).blanks =
      blanks_after f.blanks name line ts ts 0 [] refl refl
      ∙ ap (λ (bs : List ℕ). only_blanks (only_blanks f.blanks bs) []) (sym (usage_text (held_of f.buffer) len usage)) in
      usage_left rules unread ws os f s len holds plain usage
      ∙ all_resumed_on rules ws os f.blanks flag (usage_token name line ∷ ts) ts s (opened body)
      (resumed_opens rules os f.blanks name line ts s d m [] 0 usage.free depth (usage_without_list rules s line name (leading ts) m usage.free found formals))
      ∙ ap (λ (x : Bool). goes_on (opened body) (λ after. all_resumed rules ws (Live os) x ts after)) same
      ∙ ap (λ (o : Outcome). goes_on (opened o) (λ after. all_resumed rules ws (Live os) (consumed_file len 0 f).blanks ts after)) (sym (first-left rules s line d texts id []))

-- A call that is read and bound, as a usage in a source.

-- a call that was read, in a run with that limit on kept bytes
read_call : (rules : Rules) (most : ℕ) (ts : List SourceToken) (bytes : List ℕ) (following : List SourceToken) → rules.argument_bytes ≡ most
    → IsCallOf most ts bytes following → IsReadCall rules.argument_bytes ts bytes following
read_call rules most ts bytes following limit c =
    subst (λ (n : ℕ). IsReadCall n ts bytes following) (sym limit) (record { used = c.used; call = c.call; rest = c.rest; keeps = c.keeps })

-- a call that was read and bound opens its body
pub kept_bound : {R : Type 0} (has_known_texts : Type 0) (unread : R → List ℕ) (most : ℕ) (macros : List Macro) (id line : ℕ) (bytes now : List ℕ) (c : CursorsView) (old new : BufferView R)
    → MeansCall has_known_texts unread most bytes old new call.Closed → BindsKept macros id line bytes now Opened c
    → TellsCallUsage has_known_texts unread most macros id Opened c.opens now old new
kept_bound has_known_texts unread most macros id line bytes now c old new means binds = grind (arith, source_bound, read_call)

-- one that was read and isn't bound is refused
pub kept_unbound : {R : Type 0} (has_known_texts : Type 0) (unread : R → List ℕ) (most : ℕ) (macros : List Macro) (id line : ℕ) (bytes now : List ℕ) (kind : FaultKind) (c : CursorsView) (old new : BufferView R)
    → MeansCall has_known_texts unread most bytes old new call.Closed → BindsKept macros id line bytes now (Refused kind) c
    → TellsCallUsage has_known_texts unread most macros id (Refused kind) c.opens now old new
kept_unbound has_known_texts unread most macros id line bytes now kind c old new means binds =
    λ rules at name fs limit formals t.
    let ts = tokens_left unread old in
    let following = tokens_left unread new in
    let m = macro_at macros id in
    let read = means t in
    source_counted rules at name ts m fs bytes following (read_call rules most ts bytes following limit read) (sym (binds.count read.keeps fs formals))
    ∙ ap (λ (k : FaultKind). UsageFault k name at) (sym binds.kind_is)

-- one that lacks something is refused
pub call_lacks : {R : Type 0} (has_known_texts : Type 0) (unread : R → List ℕ) (most : ℕ) (macros : List Macro) (id : ℕ) (bytes now : List ℕ) (kind : FaultKind) (opens : List Open) (old new : BufferView R)
    → MeansCall has_known_texts unread most bytes old new (call.Refused kind) → TellsCallUsage has_known_texts unread most macros id (Refused kind) opens now old new
call_lacks has_known_texts unread most macros id bytes now kind opens old new means = grind (arith, source_lacks)

-- one with a broken token is refused for that
pub call_breaks : {R : Type 0} (has_known_texts : Type 0) (unread : R → List ℕ) (most : ℕ) (macros : List Macro) (id : ℕ) (bytes now : List ℕ) (kind : FaultKind) (own : ℕ) (opens : List Open) (old new : BufferView R)
    → MeansCall has_known_texts unread most bytes old new (call.Broken kind own) → TellsCallUsage has_known_texts unread most macros id (Broken kind own) opens now old new
call_breaks has_known_texts unread most macros id bytes now kind own opens old new means = grind (arith, source_breaks)

-- the number of open texts that there may be
deeper : (n : ℕ) → 0 < n → (d : ℕ) × (n ≡ suc d)
deeper zero some = absurd (omega arith)
deeper (suc d) some = (d, refl)

-- what remains of open texts, in the terms of what is seen of them
texts_same : (rules : Rules) (s : State) (macros : List Macro) (e : ExpansionView) (opens : List Open) (line d depth : ℕ) (next : State → Passage)
    → e.opens ≡ opens → e.line ≡ line → e.depth ≡ depth → depth ≡ suc d
    → goes_on (leaves (open_left rules s line (suc d) (texts_of macros e.arguments) opens) s) next ≡ goes_on (texts_left rules s macros e) next
unfolding texts_left
texts_same rules s macros e opens line d depth next o l same deep = grind arith

-- the macros of a run
run_named : (rules : Rules) (s : State) (macros : List Macro) (depth most : ℕ) (name : List ℕ) (m : Macro) → IsRun rules s macros depth most → macro_named macros name ≡ Some m
    → macro_named s.macros name ≡ Some m
run_named rules s macros depth most name m run found = ap (λ (ms : List Macro). macro_named ms name) run.macros_are ∙ found

module _ {R : Type 0} (rules : Rules) (unread : R → List ℕ) (ws : List Waiting) (os : List Progress) (s : State) (macros : List Macro) (depth most id len : ℕ) (f : File R) (outer : List (File R)) where
  -- a usage without a list opens its body
  pub usage_opens_body : (e : ExpansionView) (name : List ℕ)
      → HoldsFront f.buffer → f.buffer.mode ≡ Plain → IsUsage (held_of f.buffer) len → IsRun rules s macros depth most → 0 < depth
      → macro_named macros (usage_name (held_of f.buffer) len) ≡ Some (macro_at macros id) → (macro_at macros id).formals ≡ None
      → e.opens ≡ open_body (texts_of macros []) id [] 0 ∷ [] → e.line ≡ f.buffer.line → e.depth ≡ depth
      → TellsUsage rules s unread ws os macros f.buffer.line name Opened e (f ∷ outer) (consumed_file len 0 f ∷ outer)
  unfolding inner_left open_body
  usage_opens_body e name holds plain usage run some found formals opens line same =
      let d = deeper depth some in
      let texts = texts_of macros e.arguments in
      body_opens rules unread ws os f s len holds plain usage d.0 texts id (run.depth_is ∙ d.1)
      (run_named rules s macros depth most (usage_name (held_of f.buffer) len) (macro_at macros id) run found) formals
      ∙ texts_same rules s macros e (open_body texts id [] 0 ∷ []) f.buffer.line d.0 depth _ opens line same d.1

  -- a call that is bound opens its body
  pub usage_opens_call : (new : File R) (used : List ℕ) (e : ExpansionView) (has_known_texts : Type 0) (name : List ℕ) (fs : List Formal)
      → HoldsFront f.buffer → f.buffer.mode ≡ Plain → IsUsage (held_of f.buffer) len → IsRun rules s macros depth most → 0 < depth
      → macro_named macros (usage_name (held_of f.buffer) len) ≡ Some (macro_at macros id) → (macro_at macros id).formals ≡ Some fs
      → TellsCallUsage has_known_texts unread most macros id Opened e.opens e.arguments (consumed_file len 0 f).buffer new.buffer → IsAfter unread f new len used → has_known_texts
      → e.line ≡ f.buffer.line → e.depth ≡ depth
      → TellsUsage rules s unread ws os macros f.buffer.line name Opened e (f ∷ outer) (new ∷ outer)
  unfolding inner_left
  usage_opens_call new used e has_known_texts name fs holds plain usage run some found formals opens following t line same =
      let d = deeper depth some in
      let texts = texts_of macros e.arguments in
      let own = usage_name (held_of f.buffer) len in
      call_opens rules unread ws os f s len holds plain usage d.0 texts id fs opens.ranges new used (run.depth_is ∙ d.1)
      (run_named rules s macros depth most own (macro_at macros id) run found) formals
      (opens.bound rules f.buffer.line own fs run.most_is formals t) following
      ∙ texts_same rules s macros e (open_body texts id (map range_part opens.ranges) 0 ∷ []) f.buffer.line d.0 depth _ opens.body line same d.1

  -- a call that isn't is a fault
  pub usage_refused : (kind : FaultKind) (word : List ℕ → List ℕ) (at : ℕ → ℕ) (has_known_texts : Type 0) (fs : List Formal)
      → HoldsFront f.buffer → f.buffer.mode ≡ Plain → IsUsage (held_of f.buffer) len → IsRun rules s macros depth most
      → macro_named macros (usage_name (held_of f.buffer) len) ≡ Some (macro_at macros id) → (macro_at macros id).formals ≡ Some fs
      → RefusesCall has_known_texts unread most macros id kind word at (consumed_file len 0 f).buffer → has_known_texts
      → inner_left rules unread ws os (f ∷ outer) s ≡ leaves (fails (fault_at kind (at f.buffer.line) (word (usage_name (held_of f.buffer) len)) s)) s
  unfolding inner_left
  usage_refused kind word at has_known_texts fs holds plain usage run found formals refuses t =
      let own = usage_name (held_of f.buffer) len in
      call_refused rules unread ws os f s len holds plain usage (macro_at macros id) fs kind (word own) (at f.buffer.line)
      (run_named rules s macros depth most own (macro_at macros id) run found) formals
      (refuses rules f.buffer.line own fs run.most_is formals t)

-- open texts of a cursor stack with kept bytes, as they are seen
abbrev pub seen_of : CursorsView → StoreView → ExpansionView
seen_of c arguments = record { opens = c.opens; arguments = arguments.bytes; line = c.line; depth = c.depth; most = arguments.most }

-- nothing has changed after a fault, where the kept bytes stay
stays_open : (step : CursorStep) (c now : CursorsView) (arguments : StoreView) → StaysRefused c step now → StaysAt (seen_of c arguments) step (seen_of now arguments)
unfolding StaysRefused StaysAt
stays_open (Fault fault) c now arguments stays = ap (λ (v : CursorsView). seen_of v arguments) stays
stays_open _ c now arguments stays = tt

-- and a text stays open after bytes that are lent
lent_open : (step : CursorStep) (c now : CursorsView) (arguments : StoreView) → KeepsOpen step now.opens → StaysLent (seen_of c arguments) step (seen_of now arguments)
unfolding StaysLent
lent_open (Lends place) c now arguments some = (some, refl)
lent_open _ c now arguments some = tt

-- a step after which the kept bytes stay
pub step_kept : (macros : List Macro) (old : ExpansionView) (c now : CursorsView) (arguments : StoreView) (bytes : List ℕ) (step : CursorStep) → seen_of c arguments ≡ old → bytes ≡ arguments.bytes
    → TakesStep (texts_of macros bytes) c step now → (now.opens ≡ [] → arguments.bytes ≡ []) → TakesUsageStep macros old step (seen_of now arguments)
step_kept macros old c now arguments bytes step is same takes lets_go =
    let t = subst (λ (bs : List ℕ). TakesStep (texts_of macros bs) c step now) same takes in
    subst (λ (e : ExpansionView). TakesUsageStep macros e step (seen_of now arguments)) is (record {
      step = t.step;
      sound = t.sound;
      stays = record { line = t.kept.0; depth = t.kept.1; most = refl; arguments = inl refl };
      digits = t.digits;
      refused = stays_open step c now arguments t.refused;
      placed = t.placed;
      lends = lent_open step c now arguments t.lends;
      fault = t.fault;
      word = t.word;
      lets_go = lets_go;
      stands = t.stands;
      outer = t.outer;
      turns = t.turns;
    })

-- one that closes the last text, after which nothing is kept
pub step_last : (macros : List Macro) (old : ExpansionView) (c now : CursorsView) (arguments rest : StoreView) (bytes : List ℕ) (step : CursorStep) → seen_of c arguments ≡ old → bytes ≡ arguments.bytes
    → TakesStep (texts_of macros bytes) c step now → step ≡ Silent → (length now.opens == 0) ≡ true → rest ≡ record arguments { bytes = [] }
    → TakesUsageStep macros old step (seen_of now rest)
unfolding StaysAt StaysLent IsPlacedStep
step_last macros old c now arguments rest bytes step is same takes silent empty gone =
    let none = none_open now.opens empty in
    let t = subst (λ (bs : List ℕ). TakesStep (texts_of macros bs) c Silent now) same (subst (λ (r : CursorStep). TakesStep (texts_of macros bytes) c r now) silent takes) in
    subst (λ (r : CursorStep). TakesUsageStep macros old r (seen_of now rest)) (sym silent)
    (subst (λ (a : StoreView). TakesUsageStep macros old Silent (seen_of now a)) (sym gone)
    (subst (λ (e : ExpansionView). TakesUsageStep macros e Silent (seen_of now (record arguments { bytes = [] }))) is (record {
      step = t.step;
      sound = subst (λ (os : List Open). AreSound (texts_of macros []) os) (sym none) (record { are_open = tt; are_inside = tt; are_kept = tt });
      stays = record { line = t.kept.0; depth = t.kept.1; most = refl; arguments = inr (none, refl) };
      digits = t.digits;
      refused = tt;
      placed = tt;
      lends = tt;
      fault = tt;
      word = tt;
      lets_go = λ _. refl;
      stands = tt;
      outer = t.outer;
      turns = t.turns;
    })))
  where
    none_open : (opens : List Open) → (length opens == 0) ≡ true → opens ≡ []
    none_open [] e = refl
    none_open (x ∷ below) e = absurd (let n = eqb-true (length (x ∷ below)) 0 e in omega (arith, n))

-- after bytes that are lent, and after a fault, a text is open
pub still_open : (step : CursorStep) (old : List Open) (c now : CursorsView) (bytes : List ℕ) → (step ≡ Silent → ⊥) → KeepsOpen step now.opens → StaysRefused c step now
    → c.opens ≡ old → 0 < length old → now.opens ≡ [] → bytes ≡ []
unfolding StaysRefused
still_open (Lends place) old c now bytes other lends stays same some none =
    let size : length now.opens ≡ 0 = ap length none in absurd (omega (arith, lends, size))
still_open Silent old c now bytes other lends stays same some none = absurd (other refl)
still_open (Fault fault) old c now bytes other lends stays same some none = grind arith

-- a fault of reading a call is one of its usage
pub read_usage : (kind : FaultKind) → is_read_fault kind ≡ true → is_usage_fault kind ≡ true
unfolding is_read_fault is_usage_fault
read_usage ArgumentsMissing e = refl
read_usage ArgumentsOpen e = refl
read_usage ArgumentBytes e = refl
read_usage ArgumentCount e = refl
read_usage EmbeddedPerl e = refl
read_usage OpenString e = refl
read_usage OpenComment e = refl
read_usage LineTooLong e = refl
read_usage SourceTooLong e = refl
read_usage kind e = absurd (false≢true e)

-- so is a wrong count
pub count_usage : (kind : FaultKind) → kind ≡ ArgumentCount → is_usage_fault kind ≡ true
unfolding is_usage_fault
count_usage kind e = ap (λ (k : FaultKind). is_usage_fault k) e

-- A usage that is taken from the innermost source, over the list of open sources.

-- a kept call, by what binding it comes to
pub kept_tells : {R : Type 0} (has_known_texts : Type 0) (unread : R → List ℕ) (most : ℕ) (macros : List Macro) (id line : ℕ) (bytes now : List ℕ) (opening : Opening) (c : CursorsView) (old new : BufferView R)
    → MeansCall has_known_texts unread most bytes old new call.Closed → BindsKept macros id line bytes now opening c → TellsCallUsage has_known_texts unread most macros id opening c.opens now old new
kept_tells has_known_texts unread most macros id line bytes now Opened c old new means binds = kept_bound has_known_texts unread most macros id line bytes now c old new means binds
kept_tells has_known_texts unread most macros id line bytes now (Refused kind) c old new means binds = kept_unbound has_known_texts unread most macros id line bytes now kind c old new means binds
kept_tells has_known_texts unread most macros id line bytes now _ c old new means binds = absurd binds

-- what is kept of a call that was read, by what binding it comes to
pub kept_call : {R : Type 0} (has_known_texts : Type 0) (unread : R → List ℕ) (most : ℕ) (macros : List Macro) (id line : ℕ) (bytes now : List ℕ) (opening : Opening) (c : CursorsView) (old new : List (File R))
    → (inner_buffer old).mode ≡ Plain → ReadsCall has_known_texts unread Before most bytes call.Closed old new → BindsKept macros id line bytes now opening c → KeepsOpening has_known_texts unread most opening bytes (inner_buffer old) (inner_buffer new)
kept_call has_known_texts unread most macros id line bytes now Opened c old new plain r binds =
    λ t. record { call = r.used; plain = plain; text = r.text (λ own e. cc e) t; kept = r.answer.reads t }
kept_call has_known_texts unread most macros id line bytes now (Refused kind) c old new plain r binds = r.so_far
kept_call has_known_texts unread most macros id line bytes now _ c old new plain r binds = absurd binds

-- so it is with a body that is opened
body_usage : (texts : Texts) (id : ℕ) (parts : List Part) (opens : List Open) → opens ≡ open_body texts id parts 0 ∷ [] → usage_id opens ≡ Some id
unfolding usage_id open_body
body_usage texts id parts opens e = ap usage_id e

-- and it binds as many actuals as it has parts
body_bindings : (texts : Texts) (id : ℕ) (parts : List Part) (opens : List Open) → opens ≡ open_body texts id parts 0 ∷ [] → bound_by opens ≡ length parts
unfolding bound_by open_body
body_bindings texts id parts opens e = let is : bound_by opens ≡ length parts + 0 = ap bound_by e in omega (arith, is)

-- and is open alone, with as many as its macro has formals
body_alone : (macros : List Macro) (id : ℕ) (parts : List Part) (opens : List Open) → length parts ≡ length (formals_of (macro_at macros id)) → opens ≡ open_body (texts_of macros []) id parts 0 ∷ []
    → IsOpenAlone macros id opens
body_alone macros id parts opens count body =
    record {
      parts = parts;
      count = count;
      body = body;
      some = rw body (omega arith);
      usage = body_usage (texts_of macros []) id parts opens body;
      bindings = body_bindings (texts_of macros []) id parts opens body ∙ count;
    }

-- a body that is opened on a line leaves itself alone
opened_alone : (macros : List Macro) (id line before now : ℕ) (parts : List Part) (opens : List Open) → length parts ≡ length (formals_of (macro_at macros id)) → opens ≡ open_body (texts_of macros []) id parts 0 ∷ [] → now ≡ line
    → LeavesOpen macros id line before Opened now opens
opened_alone macros id line before now parts opens count body is =
    record { line_is = is; lets_go = λ e. absurd (true≢false e); alone = λ _. body_alone macros id parts opens count body; fault = tt; own = tt }

-- what is left where the body of a macro with a list is opened
pub leaves_called : (macros : List Macro) (arguments : List ℕ) (id line before : ℕ) (old new : CursorsView) → IsCallStarted (texts_of macros arguments) id line old new → LeavesOpen macros id line before Opened new.line new.opens
unfolding open_body
leaves_called macros arguments id line before old new s =
    let fs = formals_of (macro_at macros id) in
    let parts = length-map s.ranges range_part in
    let same : length (bound_parts fs (actuals_of arguments)) ≡ length s.ranges = ap length s.actuals ∙ length-map (map range_part s.ranges) (part_tokens arguments) ∙ parts in
    let count = count_exact fs (actuals_of arguments) (sym s.counted) in
    opened_alone macros id line before new.line (map range_part s.ranges) new.opens (omega (arith, parts, same, count)) (ap (λ (v : CursorsView). v.opens) s.opens) (ap (λ (v : CursorsView). v.line) s.opens)

-- and where that of a macro without one is
pub leaves_plain : (macros : List Macro) (id line before now : ℕ) (opens : List Open) → (macro_at macros id).formals ≡ None → opens ≡ open_body (texts_of macros []) id [] 0 ∷ [] → now ≡ line
    → LeavesOpen macros id line before Opened now opens
leaves_plain macros id line before now opens none is at =
    opened_alone macros id line before now [] opens (sym (ap (λ (o : Option (List Formal)). length (unwrap_or o [])) none)) is at

-- what is left where no body is opened
pub leaves_none : (macros : List Macro) (id line before : ℕ) (opening : Opening) (now : ℕ) (opens : List Open) → is_opened opening ≡ false → now ≡ before → opens ≡ [] → IsUsageFault opening → IsOwnLine opening
    → LeavesOpen macros id line before opening now opens
leaves_none macros id line before opening now opens e same none fault own =
    record {
      line_is = same ∙ ap (λ (b : Bool). if b then line else before) (sym e);
      lets_go = λ _. none;
      alone = λ o. absurd (true≢false (sym o ∙ e));
      fault = fault;
      own = own;
    }

-- what is kept of a usage with a list
pub keeps_listed : {R : Type 0} (formals : Option (List Formal)) (has_known_texts : Type 0) (unread : R → List ℕ) (most : ℕ) (opening : Opening) (arguments : List ℕ) (from now : BufferView R) → is_some formals ≡ true
    → KeepsOpening has_known_texts unread most opening arguments from now → KeepsUsage formals has_known_texts unread most opening arguments from now
keeps_listed None has_known_texts unread most opening arguments from now e keeps = cc e
keeps_listed (Some fs) has_known_texts unread most opening arguments from now e keeps = keeps

-- the same over sources of which the name was used, with a store of its own limit
pub keeps_listed_by : {R : Type 0} (macros : List Macro) (id : ℕ) (has_known_texts : Type 0) (unread : R → List ℕ) (own most : ℕ) (opening : Opening) (arguments : List ℕ) (mid include_stack new : List (File R)) → own ≡ most → mid ≡ include_stack
    → is_some (macro_at macros id).formals ≡ true
    → KeepsOpening has_known_texts unread own opening arguments (inner_buffer mid) (inner_buffer new) → KeepsUsage (macro_at macros id).formals has_known_texts unread most opening arguments (inner_buffer include_stack) (inner_buffer new)
keeps_listed_by {R} macros id has_known_texts unread own most opening arguments mid include_stack new same is listed keeps = grind (arith, keeps_listed)

-- of one without a list
pub keeps_plain : {R : Type 0} (formals : Option (List Formal)) (has_known_texts : Type 0) (unread : R → List ℕ) (most : ℕ) (opening : Opening) (arguments : List ℕ) (from now : BufferView R) → formals ≡ None
    → arguments ≡ [] → KeepsUsage formals has_known_texts unread most opening arguments from now
keeps_plain None has_known_texts unread most opening arguments from now e none = none
keeps_plain (Some fs) has_known_texts unread most opening arguments from now e none = cc e

-- a list that isn't there
pub no_list : (o : Option (List Formal)) → is_some (option_map length o) ≡ false → o ≡ None
no_list None e = refl
no_list (Some fs) e = cc e

-- and one that is
pub is_list : (o : Option (List Formal)) → is_some (option_map length o) ≡ true → is_some o ≡ true
is_list None e = cc e
is_list (Some fs) e = refl

-- the line of a usage that is opened
pub opened_line : (opening : Opening) (now line old : ℕ) → now ≡ (if is_opened opening then line else old) → opening ≡ Opened → now ≡ line
opened_line opening now line old e o = e ∙ ap (λ (x : Opening). if is_opened x then line else old) o

-- the window after the bytes of a usage
name_moves : {R : Type 0} (has_known_texts exact : Type 0) (unread : R → List ℕ) (f : File R) (len : ℕ) → len ≤ length (held_of f.buffer) → MovesOver has_known_texts exact unread (take len (held_of f.buffer)) f.buffer (consumed_file len 0 f).buffer
name_moves has_known_texts exact unread f len inside =
    moves-past has_known_texts exact unread (take len (held_of f.buffer)) f.buffer (consumed_file len 0 f).buffer refl (ap (λ (n : ℕ). f.buffer.at + n) (sym (length-take-le len (held_of f.buffer) inside))) refl

-- what is held after them
name_held : {R : Type 0} (f : File R) (len : ℕ) → held_of (consumed_file len 0 f).buffer ≡ drop len (held_of f.buffer)
unfolding held_of
name_held f len = sym (drop-drop len f.buffer.at (take f.buffer.accepted f.buffer.window))

-- and what isn't held
name_rest : {R : Type 0} (unread : R → List ℕ) (f : File R) (len : ℕ) → rest_of unread (consumed_file len 0 f).buffer ≡ rest_of unread f.buffer
unfolding rest_of ahead_of
name_rest unread f len = refl

-- the text after them
name_text : {R : Type 0} (unread : R → List ℕ) (f : File R) (len : ℕ) → text_left unread f.buffer ≡ take len (held_of f.buffer) ++ text_left unread (consumed_file len 0 f).buffer
name_text unread f len = text-past unread f.buffer (consumed_file len 0 f).buffer len (name_held f len) (name_rest unread f len)

-- the bytes of a usage are used
pub uses_name : {R : Type 0} (has_known_texts : Type 0) (unread : R → List ℕ) (opening : Opening) (include_stack : List (File R)) (len : ℕ) → 0 < length include_stack → 0 < len → len ≤ length (held_of (inner_buffer include_stack))
    → UsesSource has_known_texts unread opening include_stack (with_inner (consumed_file len 0) include_stack)
unfolding unused_of held_of
uses_name has_known_texts unread opening [] len some has inside = absurd (omega arith)
uses_name has_known_texts unread opening (f ∷ outer) len some has inside = grind (arith, length-drop, length-take, name_moves, name_text)

-- those of a call that was read are used, where its answer is that of the reading
pub uses_call : {R : Type 0} (has_known_texts : Type 0) (unread : R → List ℕ) (most : ℕ) (kept : List ℕ) (read : CallRead) (opening : Opening) (old new : List (File R))
    → ReadsCall has_known_texts unread Before most kept read old new → (opening ≡ Opened → read ≡ call.Closed)
    → ((own : ℕ) → read ≡ call.Broken LineTooLong own → opening ≡ Broken LineTooLong own) → UsesCall has_known_texts unread opening old new
uses_call has_known_texts unread most kept read opening old new r closed broken = grind (arith, moves-told)

-- and then those of its call
pub uses_more : {R : Type 0} (has_known_texts : Type 0) (unread : R → List ℕ) (opening : Opening) (old mid new : List (File R)) → UsesSource has_known_texts unread Opened old mid → UsesCall has_known_texts unread opening mid new
    → UsesSource has_known_texts unread opening old new
uses_more {R} has_known_texts unread opening old mid new name c =
    let size = length-append name.used c.used in
    let one = name.unused in
    let two = c.unused in
    let some = name.some in
    record {
      used = name.used ++ c.used;
      some = omega arith;
      inner = c.inner ∙ ap (λ (include_stack : List (File R)). with_used (inner_buffer new) c.used include_stack) name.inner ∙ used_twice (inner_buffer mid) (inner_buffer new) name.used c.used old;
      unused = omega arith;
      moves = moves-on has_known_texts has_known_texts has_known_texts (IsExactOpening opening) (IsExactOpening opening) unread name.used c.used (inner_buffer old) (inner_buffer mid) (inner_buffer new) (λ t. t) (λ t. t) (λ e. e)
          (moves-told has_known_texts has_known_texts Unit (IsExactOpening Opened) unread name.used (inner_buffer old) (inner_buffer mid) (λ t. t) (λ _ own e. cc) name.moves) c.moves;
      text = λ exact t.
          text-on name.used c.used (text_left unread (inner_buffer old)) (text_left unread (inner_buffer mid)) (text_left unread (inner_buffer new))
          (name.text (λ own e. cc) t) (c.text exact t);
    }

module _ {R : Type 0} (rules : Rules) (unread : R → List ℕ) (ws : List Waiting) (os : List Progress) (s : State) (macros : List Macro) (depth most id len : ℕ) where
  -- a usage of a macro without a list
  pub body_means : (include_stack : List (File R)) (e : ExpansionView) → 0 < length include_stack → EndsHeld (inner_buffer include_stack) → 0 < length (held_of (inner_buffer include_stack)) → (inner_buffer include_stack).mode ≡ Plain
      → IsUsage (held_of (inner_buffer include_stack)) len → IsRun rules s macros depth most → 0 < depth
      → macro_named macros (usage_name (held_of (inner_buffer include_stack)) len) ≡ Some (macro_at macros id) → (macro_at macros id).formals ≡ None
      → e.opens ≡ open_body (texts_of macros []) id [] 0 ∷ [] → e.line ≡ (inner_buffer include_stack).line → e.depth ≡ depth
      → TellsUsage rules s unread ws os macros (inner_buffer include_stack).line (usage_name (held_of (inner_buffer include_stack)) len) Opened e include_stack (with_inner (consumed_file len 0) include_stack)
  body_means [] e some ends held plain usage run room found formals opens line same = absurd (omega arith)
  body_means (f ∷ outer) e some ends held plain usage run room found formals opens line same =
      usage_opens_body rules unread ws os s macros depth most id len f outer e (usage_name (held_of f.buffer) len)
      (record { some = held; ends = ends }) plain usage run room found formals opens line same

  -- a list that is there
  some_list : (o : Option (List Formal)) → is_some o ≡ true → (fs : List Formal) × (o ≡ Some fs)
  some_list None e = cc e
  some_list (Some fs) e = (fs, refl)

  -- a usage of one with a list, by what its call comes to
  pub call_means : (has_known_texts : Type 0) (opening : Opening) (include_stack new : List (File R)) (e : ExpansionView) → 0 < length include_stack → EndsHeld (inner_buffer include_stack) → 0 < length (held_of (inner_buffer include_stack))
      → (inner_buffer include_stack).mode ≡ Plain → IsUsage (held_of (inner_buffer include_stack)) len → IsRun rules s macros depth most → 0 < depth
      → macro_named macros (usage_name (held_of (inner_buffer include_stack)) len) ≡ Some (macro_at macros id) → is_some (macro_at macros id).formals ≡ true
      → TellsCallUsage has_known_texts unread most macros id opening e.opens e.arguments (inner_buffer (with_inner (consumed_file len 0) include_stack)) (inner_buffer new)
      → UsesCall has_known_texts unread opening (with_inner (consumed_file len 0) include_stack) new → has_known_texts
      → (opening ≡ Opened → e.line ≡ (inner_buffer include_stack).line) → e.depth ≡ depth
      → TellsUsage rules s unread ws os macros (inner_buffer include_stack).line (usage_name (held_of (inner_buffer include_stack)) len) opening e include_stack new
  call_means has_known_texts opening [] new e some ends held plain usage run room found listed t uses told line same = absurd (omega arith)
  call_means has_known_texts Opened (f ∷ outer) new e some ends held plain usage run room found listed t uses told line same =
      let fs = some_list (macro_at macros id).formals listed in
      let b = inner_buffer new in
      let mid = consumed_file len 0 f in
      let changed : File R = record mid { buffer = b; blanks = only_blanks mid.blanks uses.used; ends_mid_line = ends_mid_line_after mid.ends_mid_line uses.used } in
      subst (λ (ns : List (File R)). TellsUsage rules s unread ws os macros f.buffer.line (usage_name (held_of f.buffer) len) Opened e (f ∷ outer) ns) (sym uses.inner)
      (usage_opens_call rules unread ws os s macros depth most id len f outer changed uses.used e has_known_texts (usage_name (held_of f.buffer) len) fs.0
      (record { some = held; ends = ends }) plain usage run room found fs.1 t
      (record { blanks = refl; bytes = uses.bytes refl told }) told (line refl) same)
  call_means has_known_texts (Refused kind) (f ∷ outer) new e some ends held plain usage run room found listed t uses told line same =
      let fs = some_list (macro_at macros id).formals listed in
      usage_refused rules unread ws os s macros depth most id len f outer kind (λ name. name) (λ at. at) has_known_texts fs.0
      (record { some = held; ends = ends }) plain usage run found fs.1 t told
  call_means has_known_texts (Broken kind own) (f ∷ outer) new e some ends held plain usage run room found listed t uses told line same =
      let fs = some_list (macro_at macros id).formals listed in
      usage_refused rules unread ws os s macros depth most id len f outer kind (λ name. []) (λ at. own) has_known_texts fs.0
      (record { some = held; ends = ends }) plain usage run found fs.1 t told
  call_means has_known_texts Failed (f ∷ outer) new e some ends held plain usage run room found listed t uses told line same = tt

  -- the same over sources of which the name was used, with a store of its own limit
  pub call_means_by : (has_known_texts : Type 0) (opening : Opening) (include_stack mid new : List (File R)) (e : ExpansionView) (own : ℕ) → own ≡ most → mid ≡ with_inner (consumed_file len 0) include_stack
      → 0 < length include_stack → EndsHeld (inner_buffer include_stack) → 0 < length (held_of (inner_buffer include_stack))
      → (inner_buffer include_stack).mode ≡ Plain → IsUsage (held_of (inner_buffer include_stack)) len → IsRun rules s macros depth most → 0 < depth
      → macro_named macros (usage_name (held_of (inner_buffer include_stack)) len) ≡ Some (macro_at macros id) → is_some (macro_at macros id).formals ≡ true
      → TellsCallUsage has_known_texts unread own macros id opening e.opens e.arguments (inner_buffer mid) (inner_buffer new) → UsesCall has_known_texts unread opening mid new → has_known_texts
      → (opening ≡ Opened → e.line ≡ (inner_buffer include_stack).line) → e.depth ≡ depth
      → TellsUsage rules s unread ws os macros (inner_buffer include_stack).line (usage_name (held_of (inner_buffer include_stack)) len) opening e include_stack new
  call_means_by has_known_texts opening include_stack mid new e own same_most is some ends held plain usage run room found listed t uses told line same = grind (arith, call_means)
