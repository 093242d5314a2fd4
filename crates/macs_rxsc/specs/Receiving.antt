-- Receiving a frame, as specified for the inner calls: on the channel that the frame names, and on all channels that
-- exist.
use Rattle.std.specs.Prelude.{◌≡◌, ℕ, List, Option, Some}
use Rattle.macs_config.specs.Tables.{put_at}
use Rattle.macs_config.specs.declared.command.Replay.{Replay}
use Rattle.macs_config.specs.declared.command.Validate.{Validate}
use Rattle.macs_frame.specs.Tag.{tag_of}
use Rattle.macs_rxsc.specs.Counting.{counters_after_verdict_at}
use Rattle.macs_rxsc.specs.Receive.{IsOutcome, RxSide, channel_of}
use Rattle.macs_rxsc.specs.Value.{ceilings_among, ceilings_in, counters_among, numbers_in, rx_side_in, sas_in}
use Rattle.macs_rxsc.specs.declared.channel.Channel.{Channel}
use Rattle.macs_rxsc.specs.declared.verdict.Verdict.{Verdict}

-- a frame that names this channel has this outcome, in any list of channels that contains this one
abbrev pub ChannelReceives : Validate → Replay → Channel → Channel → List ℕ → Verdict → List ℕ → Type 0
ChannelReceives validate replay old new frame verdict given =
    (side : RxSide) (ceilings : List ℕ → ℕ → Option ℕ) → side.validate ≡ validate → side.replay ≡ replay
    → channel_of side frame ≡ Some old.sci → side.rx old.sci ≡ sas_in (Some old)
    → side.numbers old.sci ≡ numbers_in (Some old) → ceilings old.sci ≡ ceilings_in (Some old)
    → IsOutcome side ceilings frame
    (record { verdict = verdict; given = given; numbers = put_at side.numbers old.sci (numbers_in (Some new)) })

-- A frame from the common side has this outcome. Only the packet numbers of channels change, and the verdict is counted
-- for the channel that the frame names.
pub record TableReceives (validate : Validate) (replay : Replay) (old new : List Channel) (frame : List ℕ)
    (verdict : Verdict)
    (given : List ℕ) : Type 0 where
  pub outcome : IsOutcome (rx_side_in validate replay old) (ceilings_among old) frame
      (record { verdict = verdict; given = given; numbers = (rx_side_in validate replay new).numbers })
  pub side : rx_side_in validate replay new
      ≡ record (rx_side_in validate replay old) { numbers = (rx_side_in validate replay new).numbers }
  pub ceilings : ceilings_among new ≡ ceilings_among old
  pub counters : counters_among new
      ≡ counters_after_verdict_at (channel_of (rx_side_in validate replay old) frame) (tag_of frame) verdict given
      (counters_among old)
