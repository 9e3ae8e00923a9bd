-- What remains of a nest of open sources: of the innermost, and then of each that waits for the text that it includes.
-- A definition that names no source is this project's own.
use Rattle.std.specs.Prelude.{ℕ, Bool, List, [], ◌∷◌, ◌++◌}
use Rattle.rdlpp_scan.specs.SourceTokens.{SourceToken}
use Rattle.rdlpp_meaning.specs.Outcome.{gives}
use Rattle.rdlpp_meaning.specs.State.{Rules, shown_line, State}
use Rattle.rdlpp_meaning.specs.Meaning.{Passage, leaves, after_bytes, goes_on, Progress, origin_line, back_in, added_end}
use Rattle.rdlpp_meaning.specs.Resumed.{Place, Live, resumed}

-- a source that waits for the text that it includes: its open conditionals, innermost first, whether only blanks stand
-- before what remains of it on that line, what remains of it, its state, and what is written after the included text
-- (source: this project's profile)
pub record Waiting : Type 0 where
  pub open_conditionals : List Progress
  pub first : Bool
  pub tokens : List SourceToken
  pub state : State
  pub ending : List ℕ

-- a source that waits for the text that an `include` on a line has found: what remains of it after that
unfoldable pub waiting : Rules → List Progress → Bool → List SourceToken → ℕ → State → List ℕ → Waiting
waiting rules os first ts line s text = record {
  open_conditionals = os;
  first = first;
  tokens = ts;
  state = s;
  ending = added_end text ++ origin_line rules s.name (shown_line s.shift line);
}

-- what remains where an included text has ended, in the sources that wait, innermost first (source: this project's profile)
unfoldable pub unwound : Rules → List Waiting → State → Passage
unwound rules [] s = leaves (gives []) s
unwound rules (w ∷ ws) s =
    after_bytes w.ending
    (goes_on (resumed rules (Live w.open_conditionals) w.first w.tokens (back_in w.state s)) (λ after. unwound rules ws after))

-- what remains of the innermost source, and then of those that wait (source: this project's profile)
unfoldable pub all_resumed : Rules → List Waiting → Place → Bool → List SourceToken → State → Passage
all_resumed rules ws place first tokens s =
    goes_on (resumed rules place first tokens s) (λ after. unwound rules ws after)
