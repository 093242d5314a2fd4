-- A transmit channel as it is stored.
use Rattle.std.specs.Prelude.{ℕ, get_or, Option, None}
use Rattle.std.specs.Option.{option_map}
use Rattle.macs_config.specs.declared.association.TxSa.{TxSa}
use Rattle.macs_txsc.specs.Transmit.{TxSide}
use Rattle.macs_txsc.specs.declared.association.Association.{Association}
use Rattle.macs_txsc.specs.declared.channel.Tx.{Tx}
use Rattle.macs_txsc.specs.declared.counters.TxCounters.{TxCounters}

-- the association stored at an AN, None if there is none
abbrev pub association_at : Tx → ℕ → Option Association
association_at t an = get_or t.associations an None

-- an association's key, and what it does with User Data
abbrev pub sa_of : Association → TxSa
sa_of a = record { key = a.key; protection = a.protection }

-- the stored transmit channel, without ceilings and counters
abbrev pub tx_side_of : Tx → TxSide
tx_side_of t = record {
  sci = t.sci;
  mode = t.mode;
  encoding = t.encoding;
  tx = λ an. option_map sa_of (association_at t an);
  next = λ an. option_map (λ (a : Association). a.next) (association_at t an);
}

-- the ceilings of associations, by number
abbrev pub ceilings_of : Tx → ℕ → Option ℕ
ceilings_of t an = option_map (λ (a : Association). a.ceiling) (association_at t an)

-- how often frames were protected, or refused for each fault
abbrev pub counters_of : Tx → TxCounters
counters_of t = t.counters
