-- Searches that failed at a device or for memory, and are made again.
-- A definition that names no source is this project's own.
use Rattle.std.specs.Prelude.{◌≡◌, ℕ, true, false, List, Option, None, Some, Err}
use Rattle.rdlpp_source.specs.declared.sources.Sources.{Ghosts}
use Rattle.rdlpp_meaning.specs.Outcome.{Report}
use Rattle.rdlpp_read.specs.Files.{inner_buffer}
use Rattle.rdlpp_state.specs.Engine.{EngineView}
unfoldable pub use Rattle.rdlpp_state.specs.Failures.{begins_include, is_failed_call, is_failed_search, is_failed_start, is_over}
use Rattle.rdlpp_state.specs.Failures.{is_call_failed}
use Rattle.rdlpp_state.specs.Includes.{IsSearch}
use Rattle.rdlpp_state.specs.Opening.{Starts}
use Rattle.rdlpp_state.specs.Remaining.{left_of, text_of}
use Rattle.rdlpp_state.specs.Steps.{IsReading, Step}
use Rattle.rdlpp_state.specs.Stored.{HoldsStores, LetsGo}
use Rattle.rdlpp_state.specs.declared.phase.Phase.TheVariants.{Fresh, Open}

-- what a retry does: the fault of a search that failed is kept no more, and nothing else changes; where no such fault is kept nothing
-- does. A fault of a device or of memory that stands at an `include` which asks for a search is one of a search, and one that stands where
-- a source is read is none. What remains of the text and of the output is what remained before the step that met that fault; and where the
-- stores were what they should be, they are so after it (this project's profile)
pub record Retries {S R : Type 0} (g : Ghosts S R) (old new : EngineView S R) : Type 0 where
  pub forgets : is_failed_search old ≡ true → new ≡ record old { kept = None }
  pub same : is_failed_search old ≡ false → new ≡ old
  pub search : (f : Report) → old.kept ≡ Some f → is_call_failed f.kind ≡ true → old.phase ≡ Open → IsSearch old → is_failed_search old ≡ true
  pub read : IsReading (inner_buffer old.files.include_stack) → is_failed_search old ≡ false
  pub remains : is_failed_search old ≡ true → (before : EngineView S R) (f : Report) → before.kept ≡ None → Step g before old (Err f)
      → g.has_known_texts before.sources → (text_of g before ≡ text_of g new) × (left_of g before ≡ left_of g new)
  pub lets_go : LetsGo old → LetsGo new
  pub stores : HoldsStores g old → HoldsStores g new

-- what a second start does: where the opening of the main text failed, it is a start of the same engine that wasn't started; else nothing
-- changes, and the fault that is kept is answered; and where the stores were what they should be, they are so after it (this project's profile)
pub record StartsAgain {S R : Type 0} (g : Ghosts S R) (old new : EngineView S R) (path : List ℕ) (answer : Option Report) : Type 0 where
  pub again : is_failed_start old ≡ true → Starts g (record old { phase = Fresh; kept = None }) new path answer
  pub same : is_failed_start old ≡ false → (new ≡ old) × (answer ≡ old.kept)
  pub lets_go : LetsGo old → LetsGo new
  pub stores : g.has_known_texts old.sources → HoldsStores g old → HoldsStores g new
