-- Packet numbers that are reserved and not used: an opening after a power loss skips them.
use Rattle.std.specs.Prelude.{◌≡◌, ℕ, ◌+◌, ◌-◌, List, Option, Some, None}
use Rattle.std.specs.Option.{option_map}
use Rattle.macs_rxsc.specs.Receive.{first_numbers}
use Rattle.macs_store.specs.Standing.{Ceilings}
use Rattle.macs_store.specs.Value.{standing_in}
use Rattle.macs_endpoint.specs.Ceilings.{next_ceilings}
use Rattle.macs_endpoint.specs.State.{State, no_logs}
use Rattle.macs_endpoint.specs.Value.{EndpointValue, state_of}

-- how many there are of each transmit association, by number, and of each receive association, by SCI and number
pub record Reserved : Type 0 where
  pub tx : ℕ → Option ℕ
  pub rx : List ℕ → ℕ → Option ℕ

-- how many there are from a next number up to a ceiling
abbrev pub numbers_between : Option ℕ → Option ℕ → Option ℕ
numbers_between None ceiling = None
numbers_between (Some next) None = None
numbers_between (Some next) (Some ceiling) = Some (ceiling - next)

-- the same of all associations
abbrev pub reserved_between : Ceilings → Ceilings → Reserved
reserved_between next ceilings = record {
  tx = λ an. numbers_between (next.tx an) (ceilings.tx an);
  rx = λ sci an. numbers_between (next.rx sci an) (ceilings.rx sci an);
}

-- how many numbers of an endpoint are reserved and not used
abbrev pub reserved_of : {D : Type 0} → EndpointValue D → Reserved
reserved_of e = reserved_between (next_ceilings (state_of e no_logs)) (standing_in e.store).ceilings

-- ---- what an opening skips

-- the number after so many, if both exist
abbrev pub number_after : Option ℕ → Option ℕ → Option ℕ
number_after None count = None
number_after (Some next) None = None
number_after (Some next) (Some count) = Some (next + count)

-- an opening continues after the reserved numbers; of a receive association the next one is the lowest acceptable too
pub record Skips (reserved : Reserved) (old new : State) : Type 0 where
  pub next : (an : ℕ) → new.next an ≡ number_after (old.next an) (reserved.tx an)
  pub numbers : (sci : List ℕ) (an : ℕ) → new.numbers sci an
      ≡ option_map first_numbers (number_after ((next_ceilings old).rx sci an) (reserved.rx sci an))
