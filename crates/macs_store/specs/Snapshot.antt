-- The standing, as the records of a snapshot.
use Rattle.std.specs.Prelude.{◌*◌, ◌∷◌, ◌++◌, ◌+◌, ◌==◌, if◌then◌else◌, ℕ, List, [], map, flat_map, take, drop, Option}
use Rattle.std.specs.Prelude.{Some, Bool, None}
use Rattle.std.specs.List.{range_with_len}
use Rattle.macs_config.specs.Config.{Config}
use Rattle.macs_config.specs.Snapshot.{every_an}
use Rattle.macs_config.specs.declared.command.Role.{Role}
use Rattle.macs_config.specs.declared.command.Role.TheVariants.{Transmit, Receive}
use Rattle.macs_record.specs.declared.record.Record.{Record}
use Rattle.macs_record.specs.declared.record.Record.TheVariants.{Settings, TxSa, Channel, RxSa, Spent}
use Rattle.macs_store.specs.Standing.{Ceilings, Standing}
use Rattle.macs_store.specs.declared.walk.Walk.{Walk}

-- the record of an association with its ceiling, if both exist
abbrev pub record_if_both : {A : Type 0} → (A → ℕ → Record) → Option A → Option ℕ → List Record
record_if_both r (Some sa) (Some ceiling) = r sa ceiling ∷ []
record_if_both r sa ceiling = []

-- the record of the settings
abbrev pub settings_record : Config → Record
settings_record c = Settings c.validate c.replay c.mode c.encoding

-- the record of the transmit association at an AN, if there is one
abbrev pub tx_records_at : Config → Ceilings → ℕ → List Record
tx_records_at c ceilings an = record_if_both (λ sa ceiling. TxSa an sa ceiling) (c.tx an) (ceilings.tx an)

-- those of all transmit associations, by AN
unfoldable pub tx_records : Config → Ceilings → List Record
tx_records c ceilings = flat_map (tx_records_at c ceilings) every_an

-- the records of receive channels
abbrev pub channel_records : List (List ℕ) → List Record
channel_records scis = map (λ sci. Channel sci) scis

-- the record of the receive association of an SCI at an AN, if there is one
abbrev pub rx_records_at : Config → Ceilings → List ℕ → ℕ → List Record
rx_records_at c ceilings sci an =
    record_if_both (λ sa ceiling. RxSa sci an sa ceiling) (c.rx sci an) (ceilings.rx sci an)

-- those of all associations of an SCI, by AN
unfoldable pub rx_records_of : Config → Ceilings → List ℕ → List Record
rx_records_of c ceilings sci = flat_map (rx_records_at c ceilings sci) every_an

-- those of all receive associations, in the order of the channels
unfoldable pub rx_records : Config → Ceilings → List Record
rx_records c ceilings = flat_map (rx_records_of c ceilings) c.channels

-- how many fingerprints a record has, except the last of a side
abbrev pub fingerprints_each : ℕ
fingerprints_each = 15

-- how many records are needed for the maximum number of spent keys of a side
abbrev pub most_spent_records : ℕ
most_spent_records = 35

-- the maximum number of records in a snapshot: the settings, 4 transmit associations, 32 channels of 4 associations
-- each, and the spent keys of both sides
abbrev pub most_records : ℕ
most_records = 235

-- the fingerprints of a side's record, by its position from 0 on
abbrev pub fingerprints_at : List (List ℕ) → ℕ → List (List ℕ)
fingerprints_at spent place = take fingerprints_each (drop (fingerprints_each * place) spent)

-- a record of these fingerprints, if there are any
abbrev pub record_if_any : Role → List (List ℕ) → List Record
record_if_any role [] = []
record_if_any role (fingerprint ∷ fingerprints) = Spent role (fingerprint ∷ fingerprints) ∷ []

-- a side's record of spent keys at a position, if there is one
abbrev pub spent_records_at : Role → List (List ℕ) → ℕ → List Record
spent_records_at role spent place = record_if_any role (fingerprints_at spent place)

-- the records of a side's spent keys, in the order of installation
unfoldable pub spent_records : Role → List (List ℕ) → List Record
spent_records role spent = flat_map (spent_records_at role spent) (range_with_len 0 most_spent_records)

-- The settings; transmit associations, by AN; receive channels, by ascending SCI; receive associations, by SCI and AN;
-- the spent keys of the transmit side, then those of the receive side.
unfoldable pub snapshot : Standing → List Record
snapshot s =
    settings_record s.config
    ∷ (tx_records s.config s.ceilings ++ (channel_records s.config.channels ++ (rx_records s.config s.ceilings
    ++ (spent_records Transmit s.config.spent_tx ++ spent_records Receive s.config.spent_rx))))

-- ---- a walk over records, one by one, which keeps the one at a position

-- before the first record
abbrev pub new_walk : ℕ → Walk
new_walk place = record { place = place; passed = 0; found = None }

-- past one more record, which is kept or not
abbrev pub walk_keeping : Bool → Walk → Record → Walk
walk_keeping is_here w r =
    record { place = w.place; passed = w.passed + 1; found = if is_here then Some r else w.found }

-- past one more record: it is kept if as many came before it as the position says
abbrev pub walk_past : Walk → Record → Walk
walk_past w r = walk_keeping (w.passed == w.place) w r

-- past all of these records
abbrev pub walk_past_all : Walk → List Record → Walk
walk_past_all w [] = w
walk_past_all w (r ∷ rs) = walk_past_all (walk_past w r) rs
