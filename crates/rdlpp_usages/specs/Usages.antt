-- What a usage in a source comes to: open texts, and then what remains of the source after it, or a fault.
-- A definition that names no source is this project's own.
use Rattle.std.specs.Prelude.{◌≡◌, ℕ, ◌+◌, ◌*◌, ◌<◌, ◌≤◌, Bool, true, false, List, [], ◌∷◌, ◌++◌, ◌⊎◌, length, map, Option, None, Some, if◌then◌else◌, ◌^◌}
use Rattle.rdlpp_scan.specs.declared.token.Mode.TheVariants.{Plain}
use Rattle.rdlpp_define.specs.Macros.{Formal, Macro, formals_of}
use Rattle.rdlpp_define.specs.Table.{macro_named, macro_at}
use Rattle.rdlpp_texts.specs.BoundCalls.{KeepsAll, actuals_of, range_part, ranges_tokens}
use Rattle.rdlpp_texts.specs.SourceBound.{OpensBound}
use Rattle.rdlpp_texts.specs.declared.bindings.Range.{Range}
use Rattle.rdlpp_meaning.specs.Actuals.{source_reads}
use Rattle.rdlpp_meaning.specs.CallReading.{ReadClosed}
use Rattle.rdlpp_meaning.specs.CallScan.{Before}
use Rattle.rdlpp_meaning.specs.Expansion.{bytes_of, UsageFault, bound_parts, is_count, usage_of_formals}
use Rattle.rdlpp_meaning.specs.Meaning.{Passage, Progress, goes_on, leaves}
use Rattle.rdlpp_meaning.specs.Opened.{Waiting}
use Rattle.rdlpp_meaning.specs.Opens.{Open, Part, open_body}
use Rattle.rdlpp_meaning.specs.OpenItems.{open_left}
use Rattle.rdlpp_meaning.specs.Outcome.{fails, gives}
use Rattle.rdlpp_meaning.specs.Resumed.{Live, leading}
use Rattle.rdlpp_meaning.specs.State.{Rules, State, fault_at}
use Rattle.rdlpp_meaning.specs.Substitution.{body_tokens}
use Rattle.rdlpp_meaning.specs.declared.fault.FaultKind.{FaultKind}
use Rattle.rdlpp_meaning.specs.declared.fault.FaultKind.TheVariants.{ArgumentsMissing, ArgumentsOpen, ArgumentBytes, ArgumentCount, EmbeddedPerl, OpenString, OpenComment, LineTooLong, SourceTooLong}
use Rattle.rdlpp_source.specs.declared.sources.Sources.{Ghosts}
use Rattle.rdlpp_read.specs.Buffer.{BufferView, MovesOver, held_of, text_left, tokens_left, unused_of}
use Rattle.rdlpp_read.specs.Calls.{SourcesRead}
use Rattle.rdlpp_read.specs.Files.{FilesView, consumed_file, inner_buffer, with_inner}
use Rattle.rdlpp_read.specs.declared.files.File.{File}
use Rattle.rdlpp_usages.specs.CallReads.{with_used, ReadsUpTo}
use Rattle.rdlpp_usages.specs.Reads.{reading}
use Rattle.rdlpp_texts.specs.Digits.{IsFalling}
use Rattle.rdlpp_texts.specs.TextItems.{StandsAt}
use Rattle.rdlpp_texts.specs.Opened.{CursorsView, bound_by, usage_id, StaysOutermost}
use Rattle.rdlpp_texts.specs.Places.{texts_of}
use Rattle.rdlpp_texts.specs.Steps.{AreSound, IsPlacedStep, IsStep, NamesWord}
use Rattle.rdlpp_texts.specs.Turns.{TurnsOver}
use Rattle.rdlpp_texts.specs.Usages.{IsTextFault}
use Rattle.rdlpp_texts.specs.declared.step.CursorStep.{CursorStep}
use Rattle.rdlpp_texts.specs.declared.step.CursorStep.TheVariants.{Lends, Silent, Refused as Fault}
use Rattle.rdlpp_front.specs.SourceItems.{IsUsage, usage_name}
use Rattle.rdlpp_front.specs.SourceLeft.{source_left}
use Rattle.rdlpp_usages.specs.declared.expansion.Opening.{Opening}
use Rattle.rdlpp_usages.specs.declared.expansion.Opening.TheVariants.{Opened, Refused, Broken, Failed}

-- the open texts of a usage in a source, the innermost first, the kept bytes of its call, and its line; how many texts may be open, and how many bytes may be kept
pub record ExpansionView : Type 0 where
  pub opens : List Open
  pub arguments : List ℕ
  pub line : ℕ
  pub depth : ℕ
  pub most : ℕ

-- no more texts are open, no more actuals are bound and no more bytes are kept than there is room for
pub record IsRoomy (e : ExpansionView) : Type 0 where
  pub few : length e.opens ≤ e.depth
  pub bound : bound_by e.opens ≤ e.depth * 255
  pub fits : length e.arguments ≤ e.most

-- a run goes on with these macros, and with these limits on open texts and on kept bytes
pub record IsRun (rules : Rules) (s : State) (macros : List Macro) (depth most : ℕ) : Type 0 where
  pub macros_are : s.macros ≡ macros
  pub depth_is : rules.depth ≡ depth
  pub most_is : rules.argument_bytes ≡ most

-- what remains of the innermost source in live text, with these conditionals open in it, and then of those that wait
unfoldable pub inner_left : {R : Type 0} → Rules → (R → List ℕ) → List Waiting → List Progress → List (File R) → State → Passage
inner_left rules unread ws os [] s = leaves (gives []) s
inner_left rules unread ws os (f ∷ outer) s = source_left rules unread ws (Live os) f s

-- what remains of open texts of a usage
unfoldable pub texts_left : Rules → State → List Macro → ExpansionView → Passage
texts_left rules s macros e = leaves (open_left rules s e.line e.depth (texts_of macros e.arguments) e.opens) s

-- what a usage of a name at a line comes to in live text: its open texts and then what remains after it, or a fault (IEEE 1364-2001, `define`)
abbrev pub TellsUsage : {R : Type 0} → Rules → State → (R → List ℕ) → List Waiting → List Progress → List Macro → ℕ → List ℕ → Opening → ExpansionView → List (File R) → List (File R) → Type 0
TellsUsage rules s unread ws os macros line name Opened e old new =
    inner_left rules unread ws os old s ≡ goes_on (texts_left rules s macros e) (λ after. inner_left rules unread ws os new after)
TellsUsage rules s unread ws os macros line name (Refused kind) e old new =
    inner_left rules unread ws os old s ≡ leaves (fails (fault_at kind line name s)) s
TellsUsage rules s unread ws os macros line name (Broken kind own) e old new =
    inner_left rules unread ws os old s ≡ leaves (fails (fault_at kind own [] s)) s
TellsUsage rules s unread ws os macros line name Failed e old new = Unit

-- whether texts are open after an answer
abbrev pub is_opened : Opening → Bool
is_opened Opened = true
is_opened (Refused kind) = false
is_opened (Broken kind line) = false
is_opened Failed = false

-- whether a read failed
abbrev pub is_failed_opening : Opening → Bool
is_failed_opening Opened = false
is_failed_opening (Refused kind) = false
is_failed_opening (Broken kind line) = false
is_failed_opening Failed = true

-- no byte was read beyond the window, as it is where a line is too long
abbrev pub IsExactOpening : Opening → Type 0
IsExactOpening opening = (own : ℕ) → opening ≡ Broken LineTooLong own → ⊥

-- bytes of the innermost source were used, and nothing else of the sources changed; its window moved on over its text, which is
-- what was used and what remains
pub record UsesSource {R : Type 0} (has_known_texts : Type 0) (unread : R → List ℕ) (opening : Opening) (old new : List (File R)) : Type 0 where
  pub used : List ℕ
  pub some : 0 < length used
  pub inner : new ≡ with_used (inner_buffer new) used old
  pub unused : unused_of (inner_buffer new) + length used ≡ unused_of (inner_buffer old)
  pub moves : MovesOver has_known_texts (IsExactOpening opening) unread used (inner_buffer old) (inner_buffer new)
  pub text : IsExactOpening opening → has_known_texts → text_left unread (inner_buffer old) ≡ used ++ text_left unread (inner_buffer new)

-- a call is refused by the tokens in front of it, about a name or none, in each run with that limit on kept bytes
abbrev pub RefusesCall : {R : Type 0} → Type 0 → (R → List ℕ) → ℕ → List Macro → ℕ → FaultKind → (List ℕ → List ℕ) → (ℕ → ℕ) → BufferView R → Type 0
RefusesCall has_known_texts unread most macros id kind word at old =
    (rules : Rules) (line : ℕ) (name : List ℕ) (fs : List Formal) → rules.argument_bytes ≡ most → (macro_at macros id).formals ≡ Some fs → has_known_texts
    → usage_of_formals rules source_reads line name (leading (tokens_left unread old)) (macro_at macros id) (Some fs) ≡ UsageFault kind (word name) (at line)

-- a call opens the body of its macro with ranges of the kept bytes as actuals, in each run with that limit on kept bytes
pub record OpensCall {R : Type 0} (has_known_texts : Type 0) (unread : R → List ℕ) (most : ℕ) (macros : List Macro) (id : ℕ) (opens : List Open) (bytes : List ℕ) (old new : BufferView R) : Type 0 where
  pub ranges : List Range
  pub body : opens ≡ open_body (texts_of macros bytes) id (map range_part ranges) 0 ∷ []
  pub bound : (rules : Rules) (line : ℕ) (name : List ℕ) (fs : List Formal) → rules.argument_bytes ≡ most → (macro_at macros id).formals ≡ Some fs → has_known_texts
      → OpensBound rules line name (tokens_left unread old) (macro_at macros id) fs bytes ranges (tokens_left unread new)

-- what the call after the name of a macro comes to, by the tokens that remain of the source in front of it and after it (IEEE 1364-2001, `define`)
abbrev pub TellsCallUsage : {R : Type 0} → Type 0 → (R → List ℕ) → ℕ → List Macro → ℕ → Opening → List Open → List ℕ → BufferView R → BufferView R → Type 0
TellsCallUsage has_known_texts unread most macros id Opened opens bytes old new = OpensCall has_known_texts unread most macros id opens bytes old new
TellsCallUsage has_known_texts unread most macros id (Refused kind) opens bytes old new = RefusesCall has_known_texts unread most macros id kind (λ name. name) (λ line. line) old
TellsCallUsage has_known_texts unread most macros id (Broken kind own) opens bytes old new = RefusesCall has_known_texts unread most macros id kind (λ name. []) (λ line. own) old
TellsCallUsage has_known_texts unread most macros id Failed opens bytes old new = Unit

-- bytes after the name were used, and nothing else of the sources changed; its window moved on over its text, which is what was used
-- and what remains; where texts are open, so it is with the bytes of its tokens
pub record UsesCall {R : Type 0} (has_known_texts : Type 0) (unread : R → List ℕ) (opening : Opening) (old new : List (File R)) : Type 0 where
  pub used : List ℕ
  pub inner : new ≡ with_used (inner_buffer new) used old
  pub unused : unused_of (inner_buffer new) + length used ≡ unused_of (inner_buffer old)
  pub moves : MovesOver has_known_texts (IsExactOpening opening) unread used (inner_buffer old) (inner_buffer new)
  pub text : IsExactOpening opening → has_known_texts → text_left unread (inner_buffer old) ≡ used ++ text_left unread (inner_buffer new)
  pub bytes : opening ≡ Opened → has_known_texts
      → bytes_of (tokens_left unread (inner_buffer old)) ≡ used ++ bytes_of (tokens_left unread (inner_buffer new))

-- a kept call was bound: the body of its macro is open with ranges of the kept bytes as actuals, which are as many as it wants
pub record Binds (macros : List Macro) (id line : ℕ) (bytes now : List ℕ) (c : CursorsView) : Type 0 where
  pub ranges : List Range
  pub body : c.opens ≡ open_body (texts_of macros bytes) id (map range_part ranges) 0 ∷ []
  pub stays : now ≡ bytes
  pub line_is : c.line ≡ line
  pub actuals : (fs : List Formal) → (macro_at macros id).formals ≡ Some fs → bound_parts fs (actuals_of bytes) ≡ ranges_tokens bytes ranges
  pub count : (fs : List Formal) → (macro_at macros id).formals ≡ Some fs → is_count fs (actuals_of bytes) ≡ true

-- a kept call has more or fewer actuals than its macro wants: nothing is open, and what was kept stays
pub record Unbinds (macros : List Macro) (id : ℕ) (bytes now : List ℕ) (kind : FaultKind) (c : CursorsView) : Type 0 where
  pub none : c.opens ≡ []
  pub stays : now ≡ bytes
  pub kind_is : kind ≡ ArgumentCount
  pub count : KeepsAll (body_tokens bytes) → (fs : List Formal) → (macro_at macros id).formals ≡ Some fs → is_count fs (actuals_of bytes) ≡ false

-- what binding a kept call comes to (IEEE 1364-2001, `define`)
abbrev pub BindsKept : List Macro → ℕ → ℕ → List ℕ → List ℕ → Opening → CursorsView → Type 0
BindsKept macros id line bytes now Opened c = Binds macros id line bytes now c
BindsKept macros id line bytes now (Refused kind) c = Unbinds macros id bytes now kind c
BindsKept macros id line bytes now (Broken kind own) c = ⊥
BindsKept macros id line bytes now Failed c = ⊥

-- the whole body of a macro is open, alone, with as many actuals as the macro has formals (IEEE 1364-2001, `define`)
pub record IsOpenAlone (macros : List Macro) (id : ℕ) (opens : List Open) : Type 0 where
  pub parts : List Part
  pub count : length parts ≡ length (formals_of (macro_at macros id))
  pub body : opens ≡ open_body (texts_of macros []) id parts 0 ∷ []
  pub some : 0 < length opens
  pub usage : usage_id opens ≡ Some id
  pub bindings : bound_by opens ≡ length (formals_of (macro_at macros id))

-- a call of a source was kept whole: reading it from a place on keeps these bytes, and leaves what remains of the source now
pub record KeepsCall {R : Type 0} (unread : R → List ℕ) (most : ℕ) (arguments : List ℕ) (from now : BufferView R) : Type 0 where
  pub call : List ℕ
  pub plain : from.mode ≡ Plain
  pub text : text_left unread from ≡ call ++ text_left unread now
  pub kept : reading unread Before most from ≡ ReadClosed arguments (tokens_left unread now)

-- what is kept of the call of a usage: all of it where its body is open, and what was kept so far where a fault came in it
abbrev pub KeepsOpening : {R : Type 0} → Type 0 → (R → List ℕ) → ℕ → Opening → List ℕ → BufferView R → BufferView R → Type 0
KeepsOpening has_known_texts unread most Opened arguments from now = has_known_texts → KeepsCall unread most arguments from now
KeepsOpening has_known_texts unread most (Refused kind) arguments from now = ReadsUpTo has_known_texts unread Before most arguments from now
KeepsOpening has_known_texts unread most (Broken kind own) arguments from now = ReadsUpTo has_known_texts unread Before most arguments from now
KeepsOpening has_known_texts unread most Failed arguments from now = ReadsUpTo has_known_texts unread Before most arguments from now

-- what is kept of a usage: nothing where its macro has no list, and else of its call
abbrev pub KeepsUsage : {R : Type 0} → Option (List Formal) → Type 0 → (R → List ℕ) → ℕ → Opening → List ℕ → BufferView R → BufferView R → Type 0
KeepsUsage None has_known_texts unread most opening arguments from now = arguments ≡ []
KeepsUsage (Some fs) has_known_texts unread most opening arguments from now = KeepsOpening has_known_texts unread most opening arguments from now

-- open texts went on: the line and the limits stay, and so do the kept bytes, until no text is open
pub record StaysOpen (old new : ExpansionView) : Type 0 where
  pub line : new.line ≡ old.line
  pub depth : new.depth ≡ old.depth
  pub most : new.most ≡ old.most
  pub arguments : (new.arguments ≡ old.arguments) ⊎ ((new.opens ≡ []) × (new.arguments ≡ []))

-- nothing has changed after a fault
unfoldable pub StaysAt : ExpansionView → CursorStep → ExpansionView → Type 0
StaysAt old (Lends place) new = Unit
StaysAt old Silent new = Unit
StaysAt old (Fault fault) new = new ≡ old

-- after bytes that are lent a text stays open, and the kept bytes stay
unfoldable pub StaysLent : ExpansionView → CursorStep → ExpansionView → Type 0
StaysLent old (Lends place) new = (0 < length new.opens) × (new.arguments ≡ old.arguments)
StaysLent old Silent new = Unit
StaysLent old (Fault fault) new = Unit

-- a step over open texts, as it is of `Cursors`; and after the last one that is closed nothing is kept of the call
pub record TakesUsageStep (macros : List Macro) (old : ExpansionView) (result : CursorStep) (new : ExpansionView) : Type 0 where
  pub step : IsStep old.line old.depth (texts_of macros old.arguments) old.opens result new.opens
  pub sound : AreSound (texts_of macros new.arguments) new.opens
  pub stays : StaysOpen old new
  pub digits : IsFalling old.opens result new.opens
  pub refused : StaysAt old result new
  pub placed : IsPlacedStep (texts_of macros new.arguments) result
  pub lends : StaysLent old result new
  pub fault : IsTextFault result
  pub word : NamesWord (texts_of macros new.arguments) result
  pub lets_go : new.opens ≡ [] → new.arguments ≡ []
  pub stands : StandsAt old.opens result
  pub outer : StaysOutermost old.opens new.opens
  pub turns : TurnsOver (texts_of macros old.arguments) old.opens result new.opens

-- whether a usage in a source isn't opened for a fault: one of its call, too many kept bytes, or a broken token (source: this
-- project's profile)
unfoldable pub is_usage_fault : FaultKind → Bool
is_usage_fault ArgumentsMissing = true
is_usage_fault ArgumentsOpen = true
is_usage_fault ArgumentBytes = true
is_usage_fault ArgumentCount = true
is_usage_fault EmbeddedPerl = true
is_usage_fault OpenString = true
is_usage_fault OpenComment = true
is_usage_fault LineTooLong = true
is_usage_fault SourceTooLong = true
is_usage_fault kind = false

-- a usage that is refused or broken is so for one of those
abbrev pub IsUsageFault : Opening → Type 0
IsUsageFault Opened = Unit
IsUsageFault (Refused kind) = is_usage_fault kind ≡ true
IsUsageFault (Broken kind line) = is_usage_fault kind ≡ true
IsUsageFault Failed = Unit

-- the physical line at which a call is broken is small enough to be shown with another number
abbrev pub IsOwnLine : Opening → Type 0
IsOwnLine Opened = Unit
IsOwnLine (Refused kind) = Unit
IsOwnLine (Broken kind own) = own < 2 ^ 63
IsOwnLine Failed = Unit

-- what the opening of a usage of a macro leaves: the macro's body alone is open, on the usage's line, where it was opened; else nothing is
-- open, the line is as it was, and the fault is one of a usage
pub record LeavesOpen (macros : List Macro) (id line old_line : ℕ) (opening : Opening) (new_line : ℕ) (opens : List Open) : Type 0 where
  pub line_is : new_line ≡ (if is_opened opening then line else old_line)
  pub lets_go : is_opened opening ≡ false → opens ≡ []
  pub alone : is_opened opening ≡ true → IsOpenAlone macros id opens
  pub fault : IsUsageFault opening
  pub own : IsOwnLine opening

-- a usage of a macro, of so many bytes, stands at the front of what is held of the innermost source, and no text is open
pub record StandsInFront {R : Type 0} (macros : List Macro) (id len : ℕ) (files : FilesView R) (e : ExpansionView) : Type 0 where
  pub some : 0 < length files.include_stack
  pub held : 0 < length (held_of (inner_buffer files.include_stack))
  pub plain : (inner_buffer files.include_stack).mode ≡ Plain
  pub usage : IsUsage (held_of (inner_buffer files.include_stack)) len
  pub inside : id < length macros
  pub named : macro_named macros (usage_name (held_of (inner_buffer files.include_stack)) len) ≡ Some (macro_at macros id)
  pub closed : e.opens ≡ []
  pub room : 0 < e.depth

-- what opening such a usage comes to, in each run, and what it leaves of the open texts, of the open sources and of the sources (IEEE
-- 1364-2001, `define`)
pub record OpensInFront {S R : Type 0} (g : Ghosts S R) (macros : List Macro) (id len : ℕ) (result : Opening) (old new : ExpansionView) (old_files new_files : FilesView R) (old_sources new_sources : S) : Type 0 where
  pub limits : (new.depth ≡ old.depth) × (new.most ≡ old.most)
  pub only : new_files ≡ record old_files { include_stack = new_files.include_stack }
  pub call : SourcesRead g (is_failed_opening result) old_sources new_sources
  pub uses : UsesSource (g.has_known_texts old_sources) g.unread result old_files.include_stack new_files.include_stack
  pub sound : AreSound (texts_of macros new.arguments) new.opens
  pub opens : LeavesOpen macros id (inner_buffer old_files.include_stack).line old.line result new.line new.opens
  pub keeps : KeepsUsage (macro_at macros id).formals (g.has_known_texts old_sources) g.unread old.most result new.arguments (inner_buffer (with_inner (consumed_file len 0) old_files.include_stack)) (inner_buffer new_files.include_stack)
  pub unheld : is_failed_opening result ≡ true → held_of (inner_buffer new_files.include_stack) ≡ []
  pub means : (rules : Rules) (s : State) (ws : List Waiting) (os : List Progress) → IsRun rules s macros old.depth old.most → g.has_known_texts old_sources
      → TellsUsage rules s g.unread ws os macros (inner_buffer old_files.include_stack).line (usage_name (held_of (inner_buffer old_files.include_stack)) len) result new old_files.include_stack new_files.include_stack
