-- How the channels follow a command that the store keeps.
use Rattle.std.specs.Prelude.{◌≡◌, Bool, true, false}
use Rattle.macs_config.specs.declared.command.Command.{Command}
use Rattle.macs_config.specs.declared.command.Command.TheVariants.{RxAdd, RxDrop, RxInstall, RxRemove}
use Rattle.macs_txsc.specs.Value as txsc
use Rattle.macs_txsc.specs.declared.channel.Tx.{Tx}
use Rattle.macs_rxsc.specs.Value as rxsc
use Rattle.macs_store.specs.Standing.{Standing}
use Rattle.macs_endpoint.specs.Counting.{channel_counters_after_command}
use Rattle.macs_endpoint.specs.Step.{next_after, numbers_after}
use Rattle.macs_endpoint.specs.Value.{AreChannels}

-- a command of a receive channel, or of an association of one
abbrev pub is_of_rx : Command → Bool
is_of_rx (RxAdd sci) = true
is_of_rx (RxDrop sci) = true
is_of_rx (RxInstall sci an key start offset) = true
is_of_rx (RxRemove sci an) = true
is_of_rx command = false

-- the channels become those of the standing after a command; the associations that it installs or removes begin or end,
-- and nothing is counted
pub record Follows (command : Command) (after : Standing) (old_tx : Tx) (old_rx : rxsc.RxValue) (tx : Tx)
    (rx : rxsc.RxValue) : Type 0 where
  pub channels : AreChannels tx rx after
  pub next : (txsc.tx_side_of tx).next ≡ next_after command (txsc.tx_side_of old_tx).next
  pub numbers : (rxsc.rx_side_of rx).numbers ≡ numbers_after command (rxsc.rx_side_of old_rx).numbers
  pub tx_counters : txsc.counters_of tx ≡ txsc.counters_of old_tx
  pub rx_counters : rxsc.counters_of rx ≡ rxsc.counters_of old_rx
  pub channel_counters : rxsc.channel_counters_of rx
      ≡ channel_counters_after_command command (rxsc.channel_counters_of old_rx)
