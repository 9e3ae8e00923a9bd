-- A call in a source that is read and bound, by its tokens.
-- A definition that names no source is this project's own.
use Rattle.rdlpp_meaning.specs.Actuals.{source_reads}
use Rattle.rdlpp_meaning.specs.Expansion.{Opens, usage_of_formals}
use Rattle.std.specs.Prelude.{◌≡◌, ℕ, List, drop, Some}
use Rattle.rdlpp_scan.specs.SourceTokens.{SourceToken}
use Rattle.rdlpp_define.specs.Macros.{Formal, Macro}
use Rattle.rdlpp_meaning.specs.Resumed.{leading}
use Rattle.rdlpp_meaning.specs.State.{Rules}
use Rattle.rdlpp_texts.specs.BoundCalls.{ranges_tokens}
use Rattle.rdlpp_texts.specs.declared.bindings.Range.{Range}

-- a usage in a source that opens a macro with these ranges of the kept bytes as actuals, with the tokens after it
pub record OpensBound (rules : Rules) (line : ℕ) (name : List ℕ) (ts : List SourceToken) (m : Macro) (fs : List Formal) (bytes : List ℕ) (ranges : List Range)
    (following : List SourceToken) : Type 0 where
  pub used : ℕ
  pub opens : usage_of_formals rules source_reads line name (leading ts) m (Some fs) ≡ Opens m (ranges_tokens bytes ranges) used
  pub rest : drop used ts ≡ following
