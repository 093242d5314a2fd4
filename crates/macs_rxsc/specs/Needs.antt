-- Which ceiling must be raised, and how far.
use Rattle.std.specs.Prelude.{ℕ, ◌-◌, ◌/◌, nat_le, nat_lt, Bool, ◌&&◌, ◌||◌, if◌then◌else◌, List, [], ◌∷◌, map}
use Rattle.std.specs.Prelude.{flat_map, Option, Some, None}
use Rattle.macs_config.specs.Numbers.{block_beyond}
use Rattle.macs_config.specs.Snapshot.{every_an}
use Rattle.macs_rxsc.specs.Receive.{Numbers, RxSide}

-- a need: the association, and the greatest number seen
pub record Need : Type 0 where
  pub sci : List ℕ
  pub an : ℕ
  pub pn : ℕ

-- the ceiling that a number requires
abbrev pub raised_ceiling : ℕ → ℕ → ℕ
raised_ceiling block seen = block_beyond seen block

-- A frame was seen, and it is at or above the ceiling, or at most half a block is left below that, and a higher ceiling
-- is possible.
abbrev pub is_needed : ℕ → ℕ → ℕ → ℕ → Bool
is_needed block next ceiling seen =
    (nat_le ceiling seen || nat_le (ceiling - next) (block / 2)) && nat_lt ceiling (raised_ceiling block seen)

-- the need of an association that exists, by the greatest number seen, if any
abbrev pub need_by_seen : ℕ → List ℕ → ℕ → Numbers → ℕ → Option ℕ → Option Need
need_by_seen block sci an numbers ceiling None = None
need_by_seen block sci an numbers ceiling (Some seen) =
    if is_needed block numbers.next ceiling seen then Some (record { sci = sci; an = an; pn = seen }) else None

-- the need of one association
abbrev pub need_of : ℕ → List ℕ → ℕ → Option Numbers → Option ℕ → Option Need
need_of block sci an (Some numbers) (Some ceiling) = need_by_seen block sci an numbers ceiling numbers.seen
need_of block sci an numbers ceiling = None

-- the first of the needs, in ascending order of SCI and association number
abbrev pub first_need : List (Option Need) → Option Need
first_need [] = None
first_need (None ∷ needs) = first_need needs
first_need (Some need ∷ needs) = Some need

-- the need that is served first, by ascending SCI and then AN, if any
abbrev pub first_need_of : RxSide → (List ℕ → ℕ → Option ℕ) → ℕ → Option Need
first_need_of side ceilings block = first_need
    (flat_map (λ sci. map (λ an. need_of block sci an (side.numbers sci an) (ceilings sci an)) every_an) side.channels)
