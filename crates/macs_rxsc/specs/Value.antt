-- Receive channels as they are stored.
use Rattle.std.specs.Prelude.{◌-◌, if◌then◌else◌, ◌∷◌, ◌≡◌, ℕ, max, List, [], map, get_or, Option, Some, None, true}
use Rattle.std.specs.Option.{option_and_then, option_map}
use Rattle.std.specs.Str.{bytes_eq}
use Rattle.macs_config.specs.Config.{is_ascending}
use Rattle.macs_config.specs.declared.association.RxSa.{RxSa}
use Rattle.macs_config.specs.declared.command.Replay.{Replay}
use Rattle.macs_config.specs.declared.command.Validate.{Validate}
use Rattle.macs_rxsc.specs.Receive.{Numbers, RxSide, AreOrdered}
use Rattle.macs_rxsc.specs.declared.association.Association.{Association}
use Rattle.macs_rxsc.specs.declared.channel.Channel.{Channel}
use Rattle.macs_rxsc.specs.declared.counters.ChannelCounters.{ChannelCounters}
use Rattle.macs_rxsc.specs.declared.counters.RxCounters.{RxCounters}

-- the stored value: how frames are validated, the channels that exist, and the counters
pub record RxValue : Type 0 where
  pub validate : Validate
  pub replay : Replay
  pub channels : List Channel
  pub counters : RxCounters

-- the channel with an SCI
abbrev pub channel_at : List Channel → List ℕ → Option Channel
channel_at [] sci = None
channel_at (channel ∷ channels) sci = if bytes_eq channel.sci sci then Some channel else channel_at channels sci

-- the association of a channel, if that exists
abbrev pub association_in : Option Channel → ℕ → Option Association
association_in channel an = option_and_then (λ (c : Channel). get_or c.associations an None) channel

-- an association's key and confidentiality offset
abbrev pub sa_of : Association → RxSa
sa_of a = record { key = a.key; offset = a.offset }

-- an association's packet numbers, without the ceiling
abbrev pub packet_numbers : Association → Numbers
packet_numbers a = record { next = a.next; lowest = a.lowest; seen = a.seen }

-- the SCIs of channels, in the stored order
abbrev pub scis_of : List Channel → List (List ℕ)
scis_of channels = map (λ (channel : Channel). channel.sci) channels

-- the associations of a channel by AN, none where it does not exist
abbrev pub sas_in : Option Channel → ℕ → Option RxSa
sas_in channel an = option_map sa_of (association_in channel an)

-- the packet numbers of a channel's associations, by AN
abbrev pub numbers_in : Option Channel → ℕ → Option Numbers
numbers_in channel an = option_map packet_numbers (association_in channel an)

-- the ceilings of a channel's associations, by AN
abbrev pub ceilings_in : Option Channel → ℕ → Option ℕ
ceilings_in channel an = option_map (λ (a : Association). a.ceiling) (association_in channel an)

-- the counters of a channel, if it exists
abbrev pub counters_in : Option Channel → Option ChannelCounters
counters_in channel = option_map (λ (c : Channel). c.counters) channel

-- these channels with this validation
abbrev pub rx_side_in : Validate → Replay → List Channel → RxSide
rx_side_in validate replay channels = record {
  validate = validate;
  replay = replay;
  channels = scis_of channels;
  rx = λ sci. sas_in (channel_at channels sci);
  numbers = λ sci. numbers_in (channel_at channels sci);
}

-- the ceilings of all associations of these channels, by SCI and AN
abbrev pub ceilings_among : List Channel → List ℕ → ℕ → Option ℕ
ceilings_among channels = λ sci. ceilings_in (channel_at channels sci)

-- the counters of each of these channels, by SCI
abbrev pub counters_among : List Channel → List ℕ → Option ChannelCounters
counters_among channels = λ sci. counters_in (channel_at channels sci)

-- the stored receive channels, without ceilings and counters
abbrev pub rx_side_of : RxValue → RxSide
rx_side_of r = rx_side_in r.validate r.replay r.channels

-- the ceilings of all associations, by SCI and AN
abbrev pub ceilings_of : RxValue → List ℕ → ℕ → Option ℕ
ceilings_of r = ceilings_among r.channels

-- how often each verdict was given, on frames of any channel or none
abbrev pub counters_of : RxValue → RxCounters
counters_of r = r.counters

-- the counters of each channel that exists, by SCI
abbrev pub channel_counters_of : RxValue → List ℕ → Option ChannelCounters
channel_counters_of r = counters_among r.channels

-- ---- a change of the window

-- the lowest acceptable number of an association rises with the window, and never falls
abbrev pub association_under : ℕ → Association → Association
association_under window a = record a { lowest = max a.lowest (a.next - window) }

-- the same for all associations of a channel
abbrev pub channel_under : ℕ → Channel → Channel
channel_under window channel =
    record channel { associations = map (option_map (association_under window)) channel.associations }

-- ---- ceilings fall

-- an association whose ceiling fell to its next packet number
abbrev pub association_at_rest : Association → Association
association_at_rest a = record a { ceiling = a.next }

-- the same of all associations of a channel
abbrev pub channel_at_rest : Channel → Channel
channel_at_rest channel =
    record channel { associations = map (option_map association_at_rest) channel.associations }

-- what holds of receive channels as they are stored: they ascend, so that none occurs twice, and the numbers of each
-- association are in order
pub record IsSoundRx (kept : RxValue) : Type 0 where
  pub ascending : is_ascending (rx_side_of kept).channels ≡ true
  pub ordered : (sci : List ℕ) (an : ℕ) → AreOrdered (rx_side_of kept) (ceilings_of kept) sci an
