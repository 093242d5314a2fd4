-- Reception (IEEE Std 802.1AE-2018, 10.6 and 10.7): the verdict on a frame from the common side, and how a frame that
-- verifies changes the packet numbers of its association.
use Rattle.std.specs.Prelude.{◌≡◌, ◌≤◌, ◌<◌, ◌⊎◌, ◌^◌, ℕ, ◌+◌, ◌-◌, max, nat_lt, Bool, true, false, ◌||◌, if◌then◌else◌}
use Rattle.std.specs.Prelude.{List, [], ◌∷◌, ◌++◌, map, Option, Some, None, IsSome, IsSomeAnd}
use Rattle.std.specs.Option.{option_and_then}
use Rattle.macs_config.specs.Config.{is_among}
use Rattle.macs_config.specs.Tables.{put, put_at}
use Rattle.macs_config.specs.declared.association.RxSa.{RxSa}
use Rattle.macs_config.specs.declared.command.Replay.{Replay}
use Rattle.macs_config.specs.declared.command.Validate.{Validate}
use Rattle.macs_config.specs.declared.command.Validate.TheVariants.{Strict, Check}
use Rattle.macs_fields.specs.Fields.{octets_of}
use Rattle.macs_fields.specs.First.{IsFirst, NoneHolds}
use Rattle.macs_frame.specs.Opening.{Verified, bare_frame, named_sci}
use Rattle.macs_frame.specs.Tag.{TagFaultHolds, changed, control, name_of, tag_faults, tag_of}
use Rattle.macs_frame.specs.declared.tag.ScName.{ScName}
use Rattle.macs_frame.specs.declared.tag.ScName.TheVariants.{Explicit, EndStation, Implicit}
use Rattle.macs_frame.specs.declared.tag.TagFault.{TagFault}
use Rattle.macs_frame.specs.declared.tag.TagFault.TheVariants.{Runt as IsRunt, Oversize as IsOversize}
use Rattle.macs_frame.specs.declared.tag.TagFault.TheVariants.{NoTag as HasNoTag, BadTag as HasBadTag}
use Rattle.macs_frame.specs.declared.tag.TagFault.TheVariants.{ForKay as IsForKay}
use Rattle.macs_rxsc.specs.declared.verdict.Kind.{Kind}
use Rattle.macs_rxsc.specs.declared.verdict.Kind.TheVariants.{Ok, Delayed, Invalid, Untagged, UnknownSci, UnusedSa}
use Rattle.macs_rxsc.specs.declared.verdict.Reason.{Reason}
use Rattle.macs_rxsc.specs.declared.verdict.Reason.TheVariants.{Runt, Oversize, NoTag, BadTag, ForKay, NoSci}
use Rattle.macs_rxsc.specs.declared.verdict.Reason.TheVariants.{NotUsingSa, Late, NotValid}
use Rattle.macs_rxsc.specs.declared.verdict.Verdict.{Verdict}
use Rattle.macs_rxsc.specs.declared.verdict.Verdict.TheVariants.{Delivered, Discarded, HeldBack}

-- next: one more than the greatest number delivered as verified, and initially the association's first number; lowest:
-- the lowest acceptable number; seen: the greatest number that verified in this life, if any
pub record Numbers : Type 0 where
  pub next : ℕ
  pub lowest : ℕ
  pub seen : Option ℕ

-- receive channels as their SCIs, ascending; associations and their numbers by SCI and association number
pub record RxSide : Type 0 where
  pub validate : Validate
  pub replay : Replay
  pub channels : List (List ℕ)
  pub rx : List ℕ → ℕ → Option RxSa
  pub numbers : List ℕ → ℕ → Option Numbers

-- no channels, strict validation, and replay protection with window 0
abbrev pub new_rx_side : RxSide
new_rx_side = record {
  validate = Strict;
  replay = record { on = true; window = 0 };
  channels = [];
  rx = λ sci an. None;
  numbers = λ sci an. None;
}

-- a receive channel with that SCI exists
abbrev pub has_channel : RxSide → List ℕ → Bool
has_channel side sci = is_among side.channels sci

-- ---- the channel, the association and the numbers of a frame

-- the only one of these
abbrev pub only_one : List (List ℕ) → Option (List ℕ)
only_one [] = None
only_one (sci ∷ []) = Some sci
only_one (sci ∷ other ∷ others) = None

-- The SCI that a tag names: the explicit one, the source address with port 00-01, or that of the only channel if it
-- names none (that there must be only one is a rule of this profile)
abbrev pub sci_named : List (List ℕ) → List ℕ → ScName → Option (List ℕ)
sci_named channels frame (Explicit sci) = named_sci frame (Explicit sci)
sci_named channels frame EndStation = named_sci frame EndStation
sci_named channels frame Implicit = only_one channels

-- the SCI, if a channel of it exists
abbrev pub standing_channel : List (List ℕ) → List ℕ → Option (List ℕ)
standing_channel channels sci = if is_among channels sci then Some sci else None

-- the SCI of the channel that a frame names, if that exists
abbrev pub channel_of : RxSide → List ℕ → Option (List ℕ)
channel_of side frame = option_and_then (standing_channel side.channels) (sci_named side.channels frame (name_of frame))

-- the association that a frame names, by its channel and AN, if it exists
abbrev pub association_of : RxSide → List ℕ → Option RxSa
association_of side frame = option_and_then (λ sci. side.rx sci (tag_of frame).an) (channel_of side frame)

-- the packet numbers of the association that a frame names, if it exists
abbrev pub numbers_of : RxSide → List ℕ → Option Numbers
numbers_of side frame = option_and_then (λ sci. side.numbers sci (tag_of frame).an) (channel_of side frame)

-- the frame verifies as this plain frame under the association that it names
pub record VerifiesAs (side : RxSide) (frame plain : List ℕ) : Type 0 where
  pub sci : List ℕ
  pub sa : RxSa
  pub is_channel : channel_of side frame ≡ Some sci
  pub is_association : association_of side frame ≡ Some sa
  pub verified : Verified frame sa.key sci (octets_of sa.offset) plain

-- ---- the first nine steps, which may settle a frame

-- one of the five faults of a frame or its SecTAG, or one of the four steps after them
pub data RxStep : Type 0 where
  Tag : TagFault → RxStep
  NoChannel : RxStep
  NoAssociation : RxStep
  BelowLowest : RxStep
  NotVerified : RxStep

-- when each step applies to a frame
abbrev pub RxStepHolds : RxSide → List ℕ → RxStep → Type 0
RxStepHolds side frame (Tag fault) = TagFaultHolds frame fault
RxStepHolds side frame NoChannel = channel_of side frame ≡ None
RxStepHolds side frame NoAssociation = association_of side frame ≡ None
RxStepHolds side frame BelowLowest =
    (side.replay.on ≡ true) × IsSomeAnd (numbers_of side frame) (λ numbers. (tag_of frame).pn < numbers.lowest)
RxStepHolds side frame NotVerified = (plain : List ℕ) → ¬ VerifiesAs side frame plain

-- in order
abbrev pub rx_steps : List RxStep
rx_steps = map Tag tag_faults ++ NoChannel ∷ NoAssociation ∷ BelowLowest ∷ NotVerified ∷ []

-- frames that do not verify are discarded, whether C is set or not (10.7.8)
abbrev pub is_strict : Validate → Bool
is_strict Strict = true
is_strict Check = false

-- discarded if validation is strict or C is set, else delivered
abbrev pub verdict_unless_checked : RxSide → List ℕ → Reason → Kind → Verdict
verdict_unless_checked side frame reason kind =
    if is_strict side.validate || changed (control frame) then Discarded reason else Delivered kind

-- the verdict if a step is the first that applies
abbrev pub verdict_at : RxSide → List ℕ → RxStep → Verdict
verdict_at side frame (Tag IsRunt) = Discarded Runt
verdict_at side frame (Tag IsOversize) = Discarded Oversize
verdict_at side frame (Tag HasNoTag) = if is_strict side.validate then Discarded NoTag else Delivered Untagged
verdict_at side frame (Tag HasBadTag) = Discarded BadTag
verdict_at side frame (Tag IsForKay) = Discarded ForKay
verdict_at side frame NoChannel = verdict_unless_checked side frame NoSci UnknownSci
verdict_at side frame NoAssociation = verdict_unless_checked side frame NotUsingSa UnusedSa
verdict_at side frame BelowLowest = Discarded Late
verdict_at side frame NotVerified = verdict_unless_checked side frame NotValid Invalid

-- what is delivered with such a verdict: an untagged frame whole, others without SecTAG and ICV
abbrev pub given_at : List ℕ → Verdict → List ℕ
given_at frame (Delivered Untagged) = frame
given_at frame (Delivered UnknownSci) = bare_frame frame
given_at frame (Delivered UnusedSa) = bare_frame frame
given_at frame (Delivered Invalid) = bare_frame frame
given_at frame (Delivered Ok) = []
given_at frame (Delivered Delayed) = []
given_at frame (Discarded reason) = []
given_at frame HeldBack = []

-- ---- the last three steps, for a frame that verified

-- a frame that verified: the association that it names with its numbers, its PN, and its plain frame
pub record Arrival : Type 0 where
  pub sci : List ℕ
  pub an : ℕ
  pub pn : ℕ
  pub sa : RxSa
  pub numbers : Numbers
  pub plain : List ℕ

-- the first nine steps do not settle the frame, and this is its arrival
pub record Arrives (side : RxSide) (frame : List ℕ) (a : Arrival) : Type 0 where
  pub unsettled : NoneHolds (RxStepHolds side frame) rx_steps
  pub is_channel : channel_of side frame ≡ Some a.sci
  pub is_an : a.an ≡ (tag_of frame).an
  pub is_pn : a.pn ≡ (tag_of frame).pn
  pub is_association : side.rx a.sci a.an ≡ Some a.sa
  pub are_numbers : side.numbers a.sci a.an ≡ Some a.numbers
  pub verified : Verified frame a.sa.key a.sci (octets_of a.sa.offset) a.plain

-- how a frame that verified is delivered: Delayed if its number is less than lowest, else Ok
abbrev pub delivery_kind : Numbers → ℕ → Kind
delivery_kind numbers pn = if nat_lt pn numbers.lowest then Delayed else Ok

-- the greatest number that verified, after one more did
abbrev pub seen_after : Option ℕ → ℕ → Option ℕ
seen_after None pn = Some pn
seen_after (Some seen) pn = Some (max seen pn)

-- the numbers after a frame was held back
abbrev pub numbers_after_hold : Numbers → ℕ → Numbers
numbers_after_hold numbers pn = record numbers { seen = seen_after numbers.seen pn }

-- the numbers after a frame was delivered
abbrev pub numbers_after_delivery : ℕ → Numbers → ℕ → Numbers
numbers_after_delivery window numbers pn =
    let next = max numbers.next (pn + 1) in
    record { next = next; lowest = max numbers.lowest (next - window); seen = seen_after numbers.seen pn }

-- the numbers after the window was set
abbrev pub numbers_under_window : ℕ → Numbers → Numbers
numbers_under_window window numbers = record numbers { lowest = max numbers.lowest (numbers.next - window) }

-- the initial numbers of an association, installed or found at an opening
abbrev pub first_numbers : ℕ → Numbers
first_numbers start = record { next = start; lowest = start; seen = None }

-- numbers by SCI and association number, changed at one place
abbrev pub put_numbers : (List ℕ → ℕ → Option Numbers) → List ℕ → ℕ → Option Numbers → List ℕ → ℕ → Option Numbers
put_numbers table sci an numbers = put_at table sci (put (table sci) an numbers)

-- ---- receiving, where the ceilings are known

-- the outcome for a frame: its verdict, the octets that are delivered, and the numbers of all associations
pub record Outcome : Type 0 where
  pub verdict : Verdict
  pub given : List ℕ
  pub numbers : List ℕ → ℕ → Option Numbers

-- the outcome for a frame that a step settles: no number changes
abbrev pub settled_outcome : RxSide → List ℕ → RxStep → Outcome
settled_outcome side frame step = record {
  verdict = verdict_at side frame step;
  given = given_at frame (verdict_at side frame step);
  numbers = side.numbers;
}

-- a number below the ceiling is delivered, any other held back
abbrev pub is_below : Option ℕ → ℕ → Bool
is_below None pn = false
is_below (Some ceiling) pn = nat_lt pn ceiling

-- the outcome for a frame that verified: delivered if its number is below the ceiling of its association, else held
-- back
abbrev pub arrival_outcome : RxSide → (List ℕ → ℕ → Option ℕ) → Arrival → Outcome
arrival_outcome side ceilings a =
    if is_below (ceilings a.sci a.an) a.pn
    then record {
      verdict = Delivered (delivery_kind a.numbers a.pn);
      given = a.plain;
      numbers = put_numbers side.numbers a.sci a.an (Some (numbers_after_delivery side.replay.window a.numbers a.pn));
    }
    else record {
      verdict = HeldBack;
      given = [];
      numbers = put_numbers side.numbers a.sci a.an (Some (numbers_after_hold a.numbers a.pn));
    }

-- the outcome is that of the first of nine steps that applies, or that of the frame's arrival
abbrev pub IsOutcome : RxSide → (List ℕ → ℕ → Option ℕ) → List ℕ → Outcome → Type 0
IsOutcome side ceilings frame outcome =
    ((step : RxStep) × IsFirst (RxStepHolds side frame) rx_steps step × (outcome ≡ settled_outcome side frame step))
    ⊎ ((a : Arrival) × Arrives side frame a × (outcome ≡ arrival_outcome side ceilings a))

-- ---- ranges

-- 1 <= lowest, and next - window <= lowest <= next <= ceiling <= 2^32
pub record InOrder (window : ℕ) (numbers : Numbers) (ceiling : ℕ) : Type 0 where
  pub numbered : 1 ≤ numbers.lowest
  pub windowed : numbers.next - window ≤ numbers.lowest
  pub ordered : numbers.lowest ≤ numbers.next
  pub below : numbers.next ≤ ceiling
  pub bounded : ceiling ≤ 2 ^ 32

-- an association has numbers and a ceiling in order, or none of the three exists
abbrev pub IsNumbered : ℕ → Option RxSa → Option Numbers → Option ℕ → Type 0
IsNumbered window (Some sa) (Some numbers) (Some ceiling) = InOrder window numbers ceiling
IsNumbered window None None None = Unit {0}
IsNumbered window sa numbers ceiling = ⊥

-- an association exists with numbers and a ceiling in order, or nothing does
abbrev pub AreOrdered : RxSide → (List ℕ → ℕ → Option ℕ) → List ℕ → ℕ → Type 0
AreOrdered side ceilings sci an =
    IsNumbered side.replay.window (side.rx sci an) (side.numbers sci an) (ceilings sci an)

-- each association that exists has its numbers
abbrev pub AreNumbered : RxSide → Type 0
AreNumbered side = (sci : List ℕ) (an : ℕ) → IsSome (side.rx sci an) → IsSome (side.numbers sci an)
