-- What a call may have done to the sources.
-- A definition that names no source is this project's own.
use Rattle.std.specs.Prelude.{◌≡◌, Bool}
use Rattle.rdlpp_source.specs.Counts.{Counts}
use Rattle.rdlpp_source.specs.declared.sources.Sources.{Ghosts}

-- a call of an engine: the counts of device failures and of refused memory rose where a device failed or memory was refused,
-- and nothing else changed
pub record SourcesCalled {S R : Type 0} (g : Ghosts S R) (failed refused : Bool) (old new : S) : Type 0 where
  pub failures : Counts failed (g.failures old) (g.failures new)
  pub refusals : Counts refused (g.refusals old) (g.refusals new)
  pub has_known_texts : g.has_known_texts old → g.has_known_texts new
  pub catalog : g.catalog new ≡ g.catalog old
