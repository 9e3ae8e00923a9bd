-- What a slot owns.
-- A definition that names no source is this project's own.
use Rattle.std.specs.Prelude.{Option, None, Some}
use base.Fml.{Fml, ftrue}
use denote.RattleType.{RattleType}
use denote.RawPtr.{Ptr}
use mir.Syntax.{Ty}
use Rattle.std_alloc.specs.Box.Ownership.{box_owns}

-- a box at a pointer, where there is a value
abbrev pub kept : (Ty → Ptr → Fml) → (R : RattleType) → Ptr → Option R.Denot → Fml
kept token R p None = ftrue
kept token R p (Some x) = box_owns token R p x
