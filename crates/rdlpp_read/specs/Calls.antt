-- What a call may have done to the sources.
-- A definition that names no source is this project's own.
use Rattle.std.specs.Prelude.{◌≡◌, Bool}
use Rattle.rdlpp_source.specs.Counts.{Counts}
use Rattle.rdlpp_source.specs.declared.sources.Sources.{Ghosts}

-- a call read: the count of device failures rose where it failed, and nothing else changed
pub record SourcesRead {S R : Type 0} (g : Ghosts S R) (failed : Bool) (old new : S) : Type 0 where
  pub failures : Counts failed (g.failures old) (g.failures new)
  pub refusals : g.refusals new ≡ g.refusals old
  pub has_known_texts : g.has_known_texts old → g.has_known_texts new
  pub catalog : g.catalog new ≡ g.catalog old
