-- An engine that is renewed for one main text after another.
-- A definition that names no source is this project's own.
use Rattle.std.specs.Prelude.{◌≡◌, Option, None, Some, ⊤}
use Rattle.rdlpp_define.specs.Limits.{limit_fault}
use Rattle.rdlpp_state.specs.Engine.{EngineView}
use Rattle.rdlpp_define.specs.declared.options.Options.{Options}

-- an engine, if there is one, has the limits of options, which are in their ranges
abbrev pub HasLimitsOf : {S R : Type 0} → Options → Option (EngineView S R) → Type 0
HasLimitsOf options None = ⊤
HasLimitsOf options (Some engine) = (limit_fault options.limits ≡ None) × (engine.limits ≡ options.limits)
