-- What a watcher of a run is shown.
-- A definition that names no source is this project's own.
use Rattle.std.specs.Prelude.{◌≡◌, ℕ, true, false, List}
use Rattle.std.specs.Io.KnownBytes.{Appends}
use Rattle.rdlpp_source.specs.declared.sinks.Sink.{Ghosts as SinkGhosts}
use Rattle.rdlpp_state.specs.declared.watching.Watcher.{Ghosts as WatcherGhosts}

-- a watcher that looks was shown the very bytes that a sink took, in their order, and one that doesn't is as it was (this project's profile)
pub record Shows {W V : Type 0} (h : SinkGhosts W) (v : WatcherGhosts V) (before after : W) (was now : V) : Type 0 where
  pub bytes : List ℕ
  pub taken : Appends (h.taken before) (h.taken after) bytes
  pub looks : v.looks now ≡ v.looks was
  pub seen : v.looks was ≡ true → Appends (v.seen was) (v.seen now) bytes
  pub blind : v.looks was ≡ false → now ≡ was
