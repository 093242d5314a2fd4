-- A configuration as it is stored.
use Rattle.std.specs.Prelude.{ℕ, if◌then◌else◌, List, [], ◌∷◌, map, get_or, Option, None}
use Rattle.std.specs.Str.{bytes_eq}
use Rattle.macs_config.specs.Config.{Config}
use Rattle.macs_config.specs.Identity.{Identity}
use Rattle.macs_config.specs.declared.association.RxSa.{RxSa}
use Rattle.macs_config.specs.declared.contents.Channel.{Channel}
use Rattle.macs_config.specs.declared.contents.Contents.{Contents}

-- an identity, and with it the rest of its configuration
pub record ConfigValue : Type 0 where
  pub identity : Identity
  pub contents : Contents

-- the receive association with an SCI at an AN, None if there is none
abbrev pub rx_at : List Channel → List ℕ → ℕ → Option RxSa
rx_at [] sci an = None
rx_at (channel ∷ channels) sci an =
    if bytes_eq channel.sci sci then get_or channel.associations an None else rx_at channels sci an

-- the stored configuration
abbrev pub config_in : Contents → Config
config_in c = record {
  validate = c.validate;
  replay = c.replay;
  mode = c.mode;
  encoding = c.encoding;
  tx = λ an. get_or c.tx an None;
  channels = map (λ (channel : Channel). channel.sci) c.channels.items;
  rx = rx_at c.channels.items;
  spent_tx = c.spent_tx;
  spent_rx = c.spent_rx;
}

-- the configuration without the identity
abbrev pub config_of : ConfigValue → Config
config_of stored = config_in stored.contents
