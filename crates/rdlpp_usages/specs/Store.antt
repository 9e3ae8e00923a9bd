-- The store of a call's kept bytes.
-- A definition that names no source is this project's own.
use Rattle.std.specs.Prelude.{ℕ, List}

-- the kept bytes of a call, and how many there may be
pub record StoreView : Type 0 where
  pub bytes : List ℕ
  pub most : ℕ
