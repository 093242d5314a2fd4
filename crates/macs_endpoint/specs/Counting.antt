-- What a call counts.
use Rattle.std.specs.Prelude.{ℕ, if◌then◌else◌, List, Option, Some, None, Ok, Err}
use Rattle.macs_config.specs.Config.{is_among}
use Rattle.macs_config.specs.Tables.{put_at}
use Rattle.macs_config.specs.declared.command.Command.{Command}
use Rattle.macs_config.specs.declared.command.Command.TheVariants.{RxAdd, RxDrop}
use Rattle.macs_frame.specs.Tag.{tag_of}
use Rattle.macs_txsc.specs.Transmit.{counters_after_answer, next_tag}
use Rattle.macs_txsc.specs.declared.counters.TxCounters.{TxCounters}
use Rattle.macs_rxsc.specs.Counting.{counters_after_verdict, counters_after_verdict_at, no_channel_counts}
use Rattle.macs_rxsc.specs.Receive.{channel_of}
use Rattle.macs_rxsc.specs.declared.counters.ChannelCounters.{ChannelCounters}
use Rattle.macs_rxsc.specs.declared.counters.RxCounters.{RxCounters}
use Rattle.macs_endpoint.specs.State.{Call, Protected, Protects, Received, Receives, Reply, State, command_made}
use Rattle.macs_endpoint.specs.State.{rx_side}
use Rattle.macs_endpoint.specs.State.{tx_side}
use Rattle.macs_endpoint.specs.declared.fault.ProtectFault.TheVariants.{Tx}

-- the transmit counters after a call of an endpoint in this state: answers of `protect` are counted, except Stopped
abbrev pub tx_counters_after : State → Call → Reply → TxCounters → TxCounters
tx_counters_after s (Protects plain) (Protected (Ok pn) out) c =
    counters_after_answer (next_tag (tx_side s)) plain (Ok pn) c
tx_counters_after s (Protects plain) (Protected (Err (Tx fault)) out) c =
    counters_after_answer (next_tag (tx_side s)) plain (Err fault) c
tx_counters_after s call reply c = c

-- the receive counters after an answer: those of `receive` are counted, except Stopped
abbrev pub rx_counters_after : Reply → RxCounters → RxCounters
rx_counters_after (Received (Ok verdict) out) c = counters_after_verdict verdict c
rx_counters_after reply c = c

-- the counters of channels after a command: a new channel starts with new counters, and those of a removed channel are
-- removed with it
abbrev pub channel_counters_after_command : Command → (List ℕ → Option ChannelCounters) → List ℕ
    → Option ChannelCounters
channel_counters_after_command (RxAdd sci) table = put_at table sci (Some no_channel_counts)
channel_counters_after_command (RxDrop sci) table = put_at table sci None
channel_counters_after_command command table = table

-- the counters of channels after a command that was made durable, if any
abbrev pub channel_counters_after_made : Option Command → (List ℕ → Option ChannelCounters) → List ℕ
    → Option ChannelCounters
channel_counters_after_made None table = table
channel_counters_after_made (Some command) table = channel_counters_after_command command table

-- the counters of channels after a call of an endpoint in this state
abbrev pub channel_counters_after : State → Call → Reply → (List ℕ → Option ChannelCounters) → List ℕ
    → Option ChannelCounters
channel_counters_after s (Receives frame) (Received (Ok verdict) out) table =
    counters_after_verdict_at (channel_of (rx_side s) frame) (tag_of frame) verdict out table
channel_counters_after s call reply table = channel_counters_after_made (command_made s call reply) table

-- the counters of the channels of an endpoint that has just opened
abbrev pub new_channel_counters : List (List ℕ) → List ℕ → Option ChannelCounters
new_channel_counters channels sci = if is_among channels sci then Some no_channel_counts else None
