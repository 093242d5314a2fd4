-- How many slots of the journal and how many device calls a refill takes.
use Rattle.std.specs.Prelude.{◌≡◌, ◌⊎◌, ◌≤◌, ◌+◌, ◌++◌, ℕ, List, [], ◌∷◌, Some, Result, Ok, Err}
use Rattle.macs_disk.specs.Disk.{Disk}
use Rattle.macs_store.specs.Keeps.{generation_with_change, most_with_change, slots_with_change}
use Rattle.macs_store.specs.Standing.{Standing}
use Rattle.macs_store.specs.Value.{IsIdle, StoreValue, calls_left, disk_in, generation, generation_then, slots_then}
use Rattle.macs_store.specs.Value.{standing_in, used_slots}
use Rattle.macs_endpoint.specs.Ceilings.{Raise, Raises, first_raise, standing_with_raise, standing_with_reserved}
use Rattle.macs_endpoint.specs.State.{no_logs, rx_side, tx_side}
use Rattle.macs_endpoint.specs.Value.{EndpointValue, state_of}
use Rattle.macs_endpoint.specs.declared.fault.RefillFault.{RefillFault}
use Rattle.macs_endpoint.specs.declared.fault.RefillFault.TheVariants as refill

-- ---- ceilings that are raised one after another

-- how many slots are used after them, given how many were used before and the standing
abbrev pub slots_in_raises : ℕ → Standing → List Raise → ℕ
slots_in_raises used s [] = used
slots_in_raises used s (raise ∷ raises) =
    slots_in_raises (slots_with_change used s) (standing_with_raise s raise) raises

-- the generation after them, given the one before
abbrev pub generation_in_raises : ℕ → ℕ → Standing → List Raise → ℕ
generation_in_raises used number s [] = number
generation_in_raises used number s (raise ∷ raises) =
    generation_in_raises (slots_with_change used s) (generation_with_change used number)
    (standing_with_raise s raise) raises

-- the maximum number of device calls they take
abbrev pub most_in_raises : ℕ → Standing → List Raise → ℕ
most_in_raises used s [] = 0
most_in_raises used s (raise ∷ raises) =
    most_with_change used s + most_in_raises (slots_with_change used s) (standing_with_raise s raise) raises

-- ---- after a reservation under way

-- the standing once the reservation under way, if any, is done
abbrev pub reserved_in : {D : Type 0} → EndpointValue D → Standing
reserved_in e = standing_with_reserved (standing_in e.store) e.reserving

-- these ceilings were raised then, each the first that was needed
abbrev pub RaisesBehind : {D : Type 0} → EndpointValue D → List Raise → Standing → Type 0
RaisesBehind e raises new =
    Raises (tx_side (state_of e no_logs)) (rx_side (state_of e no_logs)) (reserved_in e) raises new

-- the maximum number of device calls left of the reservation, plus those of these ceilings after it
abbrev pub most_behind : {D : Type 0} → EndpointValue D → List Raise → ℕ
most_behind e raises = calls_left e.store + most_in_raises (slots_then e.store) (reserved_in e) raises

-- The reservation under way was finished and these ceilings were raised, by one change each, within the maximum number
-- of device calls of these changes. If nothing was under way and nothing was raised the store is unchanged.
pub record HasRaised {D : Type 0} (disk_of : D → Disk) (old : EndpointValue D) (raises : List Raise)
    (new : StoreValue D) : Type 0 where
  pub raised : RaisesBehind old raises (standing_in new)
  pub slots : used_slots new ≡ slots_in_raises (slots_then old.store) (reserved_in old) raises
  pub generation : generation new
      ≡ generation_in_raises (slots_then old.store) (generation_then old.store) (reserved_in old) raises
  pub most : (disk_in disk_of new).clock ≤ (disk_in disk_of old.store).clock + most_behind old raises
  pub still : IsIdle old.store → raises ≡ [] → new ≡ old.store

-- A device call of the reservation under way failed. That reservation is not made: the standing is unchanged.
pub record FailsUnderWay {D : Type 0} (disk_of : D → Disk) (old : EndpointValue D) (new : StoreValue D) : Type 0 where
  pub raise : Raise
  pub reserving : old.reserving ≡ Some raise
  pub stands : standing_in new ≡ standing_in old.store
  pub most : (disk_in disk_of new).clock ≤ (disk_in disk_of old.store).clock + calls_left old.store

-- these ceilings were raised, and a device call of the raise after them failed
pub record FailsBehind {D : Type 0} (disk_of : D → Disk) (old : EndpointValue D) (raises : List Raise) (raise : Raise)
    (new : StoreValue D) : Type 0 where
  pub raised : RaisesBehind old raises (standing_in new)
  pub failed : first_raise (standing_in new) (tx_side (state_of old no_logs)) (rx_side (state_of old no_logs))
      ≡ Some raise
  pub most : (disk_in disk_of new).clock ≤ (disk_in disk_of old.store).clock + most_behind old (raises ++ raise ∷ [])

-- ---- a refill

-- the cost of a refill with this answer, given the store afterwards
abbrev pub Spends : {D : Type 0} → (D → Disk) → EndpointValue D → Result (Unit {0}) RefillFault → StoreValue D → Type 0
Spends disk_of old (Ok done) new = (raises : List Raise) × HasRaised disk_of old raises new
Spends disk_of old (Err refill.GenerationsSpent) new = (raises : List Raise) × HasRaised disk_of old raises new
Spends disk_of old (Err refill.Disk) new =
    FailsUnderWay disk_of old new ⊎ ((raises : List Raise) × (raise : Raise) × FailsBehind disk_of old raises raise new)
Spends disk_of old (Err fault) new = new ≡ old.store
