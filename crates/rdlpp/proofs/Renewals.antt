-- An engine that is renewed does what options ask for.
use Rattle.std.proofs.Common.{◌≡◌, ◌∙◌, ℕ, List, [], Option, Some, Ok, ap, refl, subst, sym}
use Rattle.rdlpp_source.specs.declared.sources.Sources.{Ghosts}
use Rattle.rdlpp_meaning.specs.Outcome.{Report}
use Rattle.rdlpp_state.specs.Engine.{EngineView}
use Rattle.rdlpp_state.specs.Opening.{Starts, fresh_engine}
use Rattle.rdlpp_state.specs.declared.phase.Phase.TheVariants.{Closed, Fresh}
use Rattle.rdlpp_expand.specs.Reading.{ReadingView, unstarted}
use Rattle.rdlpp.specs.Definitions.{GivenFault, Taken, given_in, with_macros}
use Rattle.rdlpp.specs.Opening.{EndsUnopened, OpensGiven}
use Rattle.rdlpp.specs.Preprocess.{given_by}
use Rattle.rdlpp.specs.Renewing.{HasLimitsOf}
use Rattle.rdlpp.specs.Running.{MakesEngine}
use Rattle.rdlpp_define.specs.declared.options.Options.{Options}
use Rattle.rdlpp.proofs.Runs.{declines, fresh_of, opens_given}

-- an engine of the limits of options that is renewed is as one that was made
pub renewed_makes : {S R : Type 0} (options : Options) (sources : S) (kept : Option (EngineView S R)) (old new : EngineView S R) → HasLimitsOf options kept → kept ≡ Some old
    → new ≡ fresh_engine old.limits sources options.origins → MakesEngine options sources (Ok new)
renewed_makes {S} {R} options sources kept old new has is e =
    let limits : HasLimitsOf options (Some old) = subst (λ (k : Option (EngineView S R)). HasLimitsOf options k) is has in
    let fresh = fresh_of options sources new (e ∙ ap (λ l. fresh_engine l sources options.origins) limits.1) in
    (limits.0, fresh.0, fresh.1)

-- one that was made, and has run with its limits, has those of the options
pub made_keeps : {S R : Type 0} (options : Options) (sources : S) (old new : EngineView S R) → MakesEngine options sources (Ok old) → new.limits ≡ old.limits
    → HasLimitsOf options (Some new)
unfolding fresh_engine
made_keeps options sources old new made same = (made.0, same ∙ ap (λ e. e.limits) made.1)

-- A reading whose engine is renewed for another main text.

-- it is renewed by the options, where its engine has their limits
pub renewed_by : {S R : Type 0} (options : Options) (sources : S) (old : EngineView S R) (renewed : ReadingView S R) → old.limits ≡ options.limits
    → renewed ≡ unstarted (fresh_engine old.limits sources options.origins) → renewed ≡ unstarted (fresh_engine options.limits sources options.origins)
renewed_by options sources old renewed same is = is ∙ ap (λ l. unstarted (fresh_engine l sources options.origins)) same

-- no main text is open in it
pub renewed_closed : {S R : Type 0} (fresh : EngineView S R) (renewed : ReadingView S R) → renewed ≡ unstarted fresh → renewed.engine.phase ≡ Closed
unfolding unstarted
renewed_closed fresh renewed is = ap (λ r. r.engine.phase) is

-- definitions come in it to what they come to in a fresh engine
given_again : {S R : Type 0} (options : Options) (fresh : EngineView S R) (renewed : ReadingView S R) → renewed ≡ unstarted fresh
    → given_in fresh options.defines.items ≡ given_in renewed.engine options.defines.items
unfolding unstarted
given_again options fresh renewed is = ap (λ r. given_in r.engine options.defines.items) (sym is)

-- a definition was refused in it
pub redeclines : {S R : Type 0} (options : Options) (sources : S) (renewed : ReadingView S R) (f : Report)
    → renewed ≡ unstarted (fresh_engine options.limits sources options.origins)
    → given_in renewed.engine options.defines.items ≡ GivenFault f → given_by options ≡ GivenFault f
redeclines {S} {R} options sources renewed f is d =
    let fresh : EngineView S R = fresh_engine options.limits sources options.origins in
    declines options.limits options.defines.items options.origins sources fresh f refl (given_again options fresh renewed is ∙ d)

-- it has the macros in front of that one, and is at its end
pub unopened : {S R : Type 0} (options : Options) (sources : S) (renewed given_to : ReadingView S R)
    → renewed ≡ unstarted (fresh_engine options.limits sources options.origins)
    → given_to ≡ record { engine = with_macros renewed.engine given_to.engine.table.macros; rest = [] } → EndsUnopened options sources given_to
unfolding unstarted
unopened {S} {R} options sources renewed given_to is only = record {
  macros = given_to.engine.table.macros;
  ends = only ∙ ap (λ (r : ReadingView S R). record { engine = with_macros r.engine given_to.engine.table.macros; rest = [] }) is;
}

-- it was given definitions and started
pub reopens_given : {S R : Type 0} (g : Ghosts S R) (options : Options) (sources : S) (path : List ℕ) (renewed given_to started : ReadingView S R) (opening : Option Report)
    → renewed ≡ unstarted (fresh_engine options.limits sources options.origins)
    → given_in renewed.engine options.defines.items ≡ Taken given_to.engine.table.macros → given_to.engine ≡ with_macros renewed.engine given_to.engine.table.macros
    → Starts g (record given_to.engine { phase = Fresh }) started.engine path opening → started.rest ≡ []
    → OpensGiven g options.limits (given_by options) options.origins sources path started
unfolding fresh_engine unstarted
reopens_given {S} {R} g options sources path renewed given_to started opening is d m s whole =
    let fresh : EngineView S R = fresh_engine options.limits sources options.origins in
    let macros = given_to.engine.table.macros in
    opens_given g options.limits options.defines.items options.origins sources path fresh (record given_to.engine { phase = Fresh }) started.engine opening started
    refl (given_again options fresh renewed is ∙ d)
    (ap {A = EngineView S R} {B = EngineView S R} (λ e. record e { phase = Fresh }) (m ∙ ap (λ (r : ReadingView S R). with_macros r.engine macros) is))
    s (ap {A = List ℕ} {B = ReadingView S R} (λ xs. record { engine = started.engine; rest = xs }) whole)
