-- The counters of receive channels.
use Rattle.std.specs.Prelude.{ℕ, List, Option, Some, None}
use Rattle.std.specs.Option.{option_map}
use Rattle.macs_config.specs.Numbers.{one_more}
use Rattle.macs_config.specs.Tables.{put_at}
use Rattle.macs_frame.specs.Traffic.{no_channel_traffic, traffic_after}
use Rattle.macs_frame.specs.declared.tag.SecTag.{SecTag}
use Rattle.macs_rxsc.specs.declared.counters.RxCounters.{RxCounters}
use Rattle.macs_rxsc.specs.declared.counters.ChannelCounters.{ChannelCounters}
use Rattle.macs_rxsc.specs.declared.verdict.Kind.TheVariants.{Ok, Delayed, Invalid, Untagged, UnknownSci, UnusedSa}
use Rattle.macs_rxsc.specs.declared.verdict.Reason.TheVariants.{Runt, Oversize, NoTag, BadTag, ForKay, NoSci}
use Rattle.macs_rxsc.specs.declared.verdict.Reason.TheVariants.{NotUsingSa, Late, NotValid}
use Rattle.macs_rxsc.specs.declared.verdict.Verdict.{Verdict}
use Rattle.macs_rxsc.specs.declared.verdict.Verdict.TheVariants.{Delivered, Discarded, HeldBack}

-- how often this verdict was given; a frame that is held back is not counted
abbrev pub count_of : Verdict → RxCounters → ℕ
count_of (Delivered Ok) c = c.ok
count_of (Delivered Delayed) c = c.delayed
count_of (Delivered Invalid) c = c.invalid
count_of (Delivered Untagged) c = c.untagged
count_of (Delivered UnknownSci) c = c.unknown_sci
count_of (Delivered UnusedSa) c = c.unused_sa
count_of (Discarded Runt) c = c.runt
count_of (Discarded Oversize) c = c.oversize
count_of (Discarded NoTag) c = c.no_tag
count_of (Discarded BadTag) c = c.bad_tag
count_of (Discarded ForKay) c = c.for_kay
count_of (Discarded NoSci) c = c.no_sci
count_of (Discarded NotUsingSa) c = c.not_using_sa
count_of (Discarded Late) c = c.late
count_of (Discarded NotValid) c = c.not_valid
count_of HeldBack c = 0

-- the counters after one more verdict; a frame that is held back is not counted
abbrev pub counters_after_verdict : Verdict → RxCounters → RxCounters
counters_after_verdict (Delivered Ok) c = record c { ok = one_more c.ok }
counters_after_verdict (Delivered Delayed) c = record c { delayed = one_more c.delayed }
counters_after_verdict (Delivered Invalid) c = record c { invalid = one_more c.invalid }
counters_after_verdict (Delivered Untagged) c = record c { untagged = one_more c.untagged }
counters_after_verdict (Delivered UnknownSci) c = record c { unknown_sci = one_more c.unknown_sci }
counters_after_verdict (Delivered UnusedSa) c = record c { unused_sa = one_more c.unused_sa }
counters_after_verdict (Discarded Runt) c = record c { runt = one_more c.runt }
counters_after_verdict (Discarded Oversize) c = record c { oversize = one_more c.oversize }
counters_after_verdict (Discarded NoTag) c = record c { no_tag = one_more c.no_tag }
counters_after_verdict (Discarded BadTag) c = record c { bad_tag = one_more c.bad_tag }
counters_after_verdict (Discarded ForKay) c = record c { for_kay = one_more c.for_kay }
counters_after_verdict (Discarded NoSci) c = record c { no_sci = one_more c.no_sci }
counters_after_verdict (Discarded NotUsingSa) c = record c { not_using_sa = one_more c.not_using_sa }
counters_after_verdict (Discarded Late) c = record c { late = one_more c.late }
counters_after_verdict (Discarded NotValid) c = record c { not_valid = one_more c.not_valid }
counters_after_verdict HeldBack c = c

-- the verdicts on frames that name a channel which are counted for it
abbrev pub channel_count_of : Verdict → ChannelCounters → ℕ
channel_count_of (Delivered Ok) c = c.ok
channel_count_of (Delivered Delayed) c = c.delayed
channel_count_of (Delivered Invalid) c = c.invalid
channel_count_of (Delivered UnusedSa) c = c.unused_sa
channel_count_of (Discarded NotUsingSa) c = c.not_using_sa
channel_count_of (Discarded Late) c = c.late
channel_count_of (Discarded NotValid) c = c.not_valid
channel_count_of verdict c = 0

-- the counters of a channel after one more verdict on a frame that names it, given the frame's SecTAG and what was
-- delivered: what a frame carried is counted if it verified
abbrev pub channel_counters_after : SecTag → Verdict → List ℕ → ChannelCounters → ChannelCounters
channel_counters_after tag (Delivered Ok) plain c =
    record c { ok = one_more c.ok; traffic = traffic_after tag plain c.traffic }
channel_counters_after tag (Delivered Delayed) plain c =
    record c { delayed = one_more c.delayed; traffic = traffic_after tag plain c.traffic }
channel_counters_after tag (Delivered Invalid) plain c = record c { invalid = one_more c.invalid }
channel_counters_after tag (Delivered UnusedSa) plain c = record c { unused_sa = one_more c.unused_sa }
channel_counters_after tag (Discarded NotUsingSa) plain c = record c { not_using_sa = one_more c.not_using_sa }
channel_counters_after tag (Discarded Late) plain c = record c { late = one_more c.late }
channel_counters_after tag (Discarded NotValid) plain c = record c { not_valid = one_more c.not_valid }
channel_counters_after tag verdict plain c = c

-- a verdict is counted for the channel that its frame names, if there is one
abbrev pub counters_after_verdict_at : Option (List ℕ) → SecTag → Verdict → List ℕ → (List ℕ → Option ChannelCounters)
    → List ℕ
    → Option ChannelCounters
counters_after_verdict_at None tag verdict given table = table
counters_after_verdict_at (Some sci) tag verdict given table =
    put_at table sci (option_map (channel_counters_after tag verdict given) (table sci))

-- the counters over all channels, all 0
abbrev pub no_counts : RxCounters
no_counts = record {
  ok = 0;
  delayed = 0;
  invalid = 0;
  untagged = 0;
  unknown_sci = 0;
  unused_sa = 0;
  runt = 0;
  oversize = 0;
  no_tag = 0;
  bad_tag = 0;
  for_kay = 0;
  no_sci = 0;
  not_using_sa = 0;
  late = 0;
  not_valid = 0;
}

-- the counters of one channel, all 0
abbrev pub no_channel_counts : ChannelCounters
no_channel_counts = record {
  ok = 0;
  delayed = 0;
  traffic = no_channel_traffic;
  invalid = 0;
  unused_sa = 0;
  not_using_sa = 0;
  late = 0;
  not_valid = 0;
}
