-- What an endpoint shows.
use Rattle.std.specs.Prelude.{ℕ, Bool, List, Option}
use Rattle.std.specs.Option.{option_map}
use Rattle.macs_fields.specs.Fields.{octets_of}
use Rattle.macs_config.specs.Association.{is_confidential, offset_of}
use Rattle.macs_config.specs.Config.{Config, is_among}
use Rattle.macs_config.specs.Identity.{Identity}
use Rattle.macs_config.specs.declared.association.RxSa.{RxSa}
use Rattle.macs_config.specs.declared.association.TxSa.{TxSa}
use Rattle.macs_config.specs.declared.command.Replay.{Replay}
use Rattle.macs_config.specs.declared.command.SciMode.{SciMode}
use Rattle.macs_config.specs.declared.command.Validate.{Validate}
use Rattle.macs_rxsc.specs.Receive.{Numbers}
use Rattle.macs_rxsc.specs.declared.association.RxNumbers.{RxNumbers}
use Rattle.macs_endpoint.specs.State.{no_logs}
use Rattle.macs_endpoint.specs.Value.{EndpointValue, state_of}
use Rattle.macs_endpoint.specs.declared.queue.Waiting.{Waiting}

-- a transmit association: its key, whether it encrypts User Data, and from which octet on
pub record TxAssociation : Type 0 where
  pub key : List ℕ
  pub confidential : Bool
  pub offset : ℕ

-- a receive association: its key, and from which octet on User Data may be encrypted
pub record RxAssociation : Type 0 where
  pub key : List ℕ
  pub offset : ℕ

-- the result of commands: transmit associations by AN; the AN of the encoding one; receive channels by SCI; and receive
-- associations by SCI and AN
pub record Settings : Type 0 where
  pub validate : Validate
  pub replay : Replay
  pub mode : SciMode
  pub encoding : Option ℕ
  pub tx : ℕ → Option TxAssociation
  pub channels : List ℕ → Bool
  pub rx : List ℕ → ℕ → Option RxAssociation

-- what the readers of an endpoint show: `identity`, `config` without the spent keys, `next_number`, `numbers`,
-- `waiting`
pub record Shown : Type 0 where
  pub identity : Identity
  pub settings : Settings
  pub next : ℕ → Option ℕ
  pub numbers : List ℕ → ℕ → Option RxNumbers
  pub waiting : List Waiting

-- ---- reading an endpoint

-- a transmit association, of a configuration's
abbrev pub tx_association : TxSa → TxAssociation
tx_association sa = record {
  key = sa.key;
  confidential = is_confidential sa.protection;
  offset = octets_of (offset_of sa.protection);
}

-- a receive association, of a configuration's
abbrev pub rx_association : RxSa → RxAssociation
rx_association sa = record { key = sa.key; offset = octets_of sa.offset }

-- the settings of a configuration
abbrev pub settings_of : Config → Settings
settings_of c = record {
  validate = c.validate;
  replay = c.replay;
  mode = c.mode;
  encoding = c.encoding;
  tx = λ an. option_map tx_association (c.tx an);
  channels = is_among c.channels;
  rx = λ sci an. option_map rx_association (c.rx sci an);
}

-- the packet numbers of a receive association that are shown: next and lowest
abbrev pub shown_numbers : Numbers → RxNumbers
shown_numbers numbers = record { next = numbers.next; lowest = numbers.lowest }

-- what the readers of an endpoint show, according to their contracts
abbrev pub shown_by : {D : Type 0} → EndpointValue D → Shown
shown_by e = record {
  identity = (state_of e no_logs).identity;
  settings = settings_of (state_of e no_logs).config;
  next = (state_of e no_logs).next;
  numbers = λ sci an. option_map shown_numbers ((state_of e no_logs).numbers sci an);
  waiting = (state_of e no_logs).waiting;
}
