-- What a caller's memory holds.
use Rattle.std.specs.Prelude.{Bool, true, false, Option, Some, None}
use base.Fml.{Fml, ffalse}
use base.Fraction.{full_share}
use denote.RattleType.{RattleType}
use denote.RawPtr.{Ptr, lies_at, room_at}

-- room for a value, or the value
abbrev pub held : (R : RattleType) → Bool → Ptr → Option R.Denot → Fml
held R true p (Some x) = lies_at R full_share p x
held R true p None = ffalse
held R false p (Some x) = ffalse
held R false p None = room_at R p
