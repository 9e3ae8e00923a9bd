-- What remains of an engine's output, and the work left.
-- A definition that names no source is this project's own.
use Rattle.std.specs.Prelude.{ℕ, ◌-◌, Bool, List, [], ◌∷◌, ◌++◌, length, take, Option, None, Some, if◌then◌else◌}
use Rattle.rdlpp_define.specs.Macros.{Macro}
use Rattle.rdlpp_define.specs.declared.limits.Limits.{Limits}
use Rattle.rdlpp_source.specs.Sources.{Answer, Catalog, Missing, Overlong, Present}
use Rattle.rdlpp_source.specs.declared.sources.Sources.{Ghosts}
use Rattle.rdlpp_meaning.specs.declared.fault.FaultKind.TheVariants.{OutputBytes}
use Rattle.rdlpp_meaning.specs.Meaning.{Passage, Progress, after_bytes, goes_on, leaves, origin_line, outcome}
use Rattle.rdlpp_meaning.specs.Opened.{Waiting}
use Rattle.rdlpp_meaning.specs.OutputLimit.{limited}
use Rattle.rdlpp_meaning.specs.Outcome.{Report, Outcome, gives, fails}
use Rattle.rdlpp_meaning.specs.State.{Lookup, LongPath, NoSource, Rules, Source, State, shown_line}
use Rattle.rdlpp_meaning.specs.Profile.{rules_of}
use Rattle.rdlpp_meaning.specs.Output.{start_state}
use Rattle.rdlpp_read.specs.Buffer.{text_left, tokens_left}
use Rattle.rdlpp_read.specs.Files.{shift_of, source_digits, ends_mid_line_after}
use Rattle.rdlpp_read.specs.declared.files.File.{File}
use Rattle.rdlpp_front.specs.SourceLeft.{source_left}
use Rattle.rdlpp_read.specs.Conditions.{ConditionsView, place_of}
use Rattle.rdlpp_texts.specs.Digits.{cursor_digits}
use Rattle.rdlpp_usages.specs.Usages.{texts_left}
use Rattle.rdlpp_state.specs.Engine.{EngineView}
use Rattle.rdlpp_state.specs.OpenConditionals.{outer_open}
use Rattle.rdlpp_state.specs.Pending.{pending_bytes, pending_pieces}
use Rattle.rdlpp_state.specs.Work.{work_of}
use Rattle.rdlpp_state.specs.declared.phase.Phase.{Phase}
use Rattle.rdlpp_state.specs.declared.phase.Phase.TheVariants.{Fresh, Open, OverLimit, Closed}

-- what a search answers, as the meaning of a source has it
unfoldable pub lookup_of : Answer → Lookup
lookup_of Missing = NoSource
lookup_of Overlong = LongPath
lookup_of (Present path text) = Source path text

-- what sources answer a search for a name from a path, as the meaning of a source has it
unfoldable pub find_of : Catalog → List ℕ → List ℕ → Lookup
find_of catalog path name = lookup_of (catalog.find path name)

-- the rules of a run over sources, by what they answer and by its limits (this project's profile)
unfoldable pub source_rules : Catalog → Limits → Bool → Rules
source_rules catalog limits origins = rules_of limits (find_of catalog) origins

-- the state that the meaning goes on from in an open source, with macros, with so many conditionals open there, and with so many sources open around it
unfoldable pub file_state : {R : Type 0} → Limits → List Macro → ℕ → ℕ → File R → State
file_state limits macros open_count around f = record {
  macros = macros;
  path = f.path.bytes;
  name = f.name.bytes;
  shift = shift_of f.shift;
  sources_left = limits.includes - around;
  conditions_left = limits.conditions - open_count;
}

-- the state that the meaning of open sources goes on from, the innermost first
unfoldable pub include_stack_state : {R : Type 0} → Limits → List Macro → ConditionsView → List (File R) → State
include_stack_state limits macros v [] = start_state macros limits.includes limits.conditions []
include_stack_state limits macros v (f ∷ outer) = file_state limits macros (length v.open_now) (length outer) f

-- what is written after an open source, in the one around it: an LF where its text ends in mid-line, and the origin line of
-- the `include`, where asked for (this project's profile)
unfoldable pub ending_after : {R : Type 0} → Rules → (R → List ℕ) → File R → File R → List ℕ
ending_after rules unread f around =
    (if ends_mid_line_after f.ends_mid_line (text_left unread f.buffer) then 10 ∷ [] else [])
    ++ origin_line rules around.name.bytes (shown_line (shift_of around.shift) f.include_line)

-- the sources around an open one, the innermost first, as the meaning has those that wait, by the conditionals that are open in them
unfoldable pub waiting_around : {R : Type 0} → Limits → Rules → (R → List ℕ) → List Progress → File R → List (File R) → List Waiting
waiting_around limits rules unread os f [] = []
waiting_around limits rules unread os f (around ∷ outer) = record {
  open_conditionals = take (length os - around.conditions_below) os;
  first = around.blanks;
  tokens = tokens_left unread around.buffer;
  state = file_state limits [] (length os) (length outer) around;
  ending = ending_after rules unread f around;
} ∷ waiting_around limits rules unread (outer_open around.conditions_below os) around outer

-- what remains of the open sources, the innermost first, from macros and the open conditionals (this project's profile)
unfoldable pub include_stack_left : {R : Type 0} → Limits → Rules → (R → List ℕ) → List Macro → ConditionsView → List (File R) → Passage
include_stack_left {R} limits rules unread macros v [] = leaves (gives []) (include_stack_state {R = R} limits macros v [])
include_stack_left limits rules unread macros v (f ∷ outer) =
    source_left rules unread (waiting_around limits rules unread (outer_open f.conditions_below v.open_now) f outer)
    (place_of f.conditions_below v) f (include_stack_state limits macros v (f ∷ outer))

-- the state that the meaning of what remains goes on from
unfoldable pub state_of : {S R : Type 0} → EngineView S R → State
state_of e = include_stack_state e.limits e.table.macros e.conditions e.files.include_stack

-- the name that the innermost open source shows; none where none is open
abbrev pub inner_name : {R : Type 0} → List (File R) → List ℕ
inner_name [] = []
inner_name (f ∷ outer) = f.name.bytes

-- the rules of a run of an engine
abbrev pub run_rules : {S R : Type 0} → Ghosts S R → EngineView S R → Rules
run_rules g e = source_rules (g.catalog e.sources) e.limits e.origins

-- what remains of the text: the bytes that are pending, then what remains of the open texts of a usage, and then what remains of
-- the open sources (this project's profile)
unfoldable pub text_of : {S R : Type 0} → Ghosts S R → EngineView S R → Passage
text_of g e = after_bytes (pending_bytes (inner_name e.files.include_stack) e.pending)
    (goes_on (texts_left (run_rules g e) (state_of e) e.table.macros e.expansion)
    (λ after. include_stack_left e.limits (run_rules g e) g.unread e.table.macros e.conditions e.files.include_stack))

-- the fault of an output that has more bytes than it may have: under the main text's name, at line 0, about no word
-- (this project's profile)
unfoldable pub output_fault : List ℕ → Report
output_fault main = record { kind = OutputBytes; name = main; line = 0; word = [] }

-- what remains without the limit on the output, by how far an engine is
unfoldable pub phase_uncut : {S R : Type 0} → Ghosts S R → Phase → EngineView S R → Outcome
phase_uncut g Fresh e = gives []
phase_uncut g Open e = outcome (text_of g e)
phase_uncut g OverLimit e = fails (output_fault e.main)
phase_uncut g Closed e = gives []

-- what remains without the limit on the output, by the fault that is kept
unfoldable pub kept_uncut : {S R : Type 0} → Ghosts S R → Option Report → EngineView S R → Outcome
kept_uncut g (Some f) e = fails f
kept_uncut g None e = phase_uncut g e.phase e

-- what remains of the output without the limit on its bytes
unfoldable pub uncut_of : {S R : Type 0} → Ghosts S R → EngineView S R → Outcome
uncut_of g e = kept_uncut g e.kept e

-- what remains of the output: the bytes, and the end, cut to the bytes that may still be lent (this project's profile)
unfoldable pub left_of : {S R : Type 0} → Ghosts S R → EngineView S R → Outcome
left_of g e = limited (output_fault e.main) e.quota (uncut_of g e)

-- the work left of an engine (this project's profile)
unfoldable pub work_left : {S R : Type 0} → EngineView S R → ℕ
work_left e = work_of e.limits.includes e.limits.depth (source_digits e.files.include_stack) (cursor_digits e.expansion.opens) (pending_pieces e.pending)
