-- What was written of some bytes.
-- A definition that names no source is this project's own.
use Rattle.std.specs.Prelude.{◌≡◌, ℕ, List, [], ◌++◌, OnOk, Option, Result}
use Rattle.std.specs.Io.KnownBytes.{Appends}

-- of these bytes the first ones were written, and all of them where that succeeded
pub record Writes {T E : Type 0} (old new : Option (List ℕ)) (bytes : List ℕ) (result : Result T E) : Type 0 where
  pub written : List ℕ
  pub rest : List ℕ
  pub split : bytes ≡ written ++ rest
  pub taken : Appends old new written
  pub whole : OnOk result (rest ≡ [])
