-- The transmit channel (IEEE Std 802.1AE-2018, 10.5): which fault comes first, and the frame that is sent.
use Rattle.std.specs.Prelude.{◌≡◌, ◌≤◌, ℕ, ◌+◌, ◌-◌, ◌/◌, ◌^◌, ◌==◌, nat_le, nat_lt, Bool, false, not, ◌&&◌}
use Rattle.std.specs.Prelude.{if◌then◌else◌, List, [], ◌∷◌, ◌++◌, length, take, slice_range, Option, Some, None}
use Rattle.std.specs.Prelude.{is_none, Result, Ok, Err}
use Rattle.std.specs.Option.{option_map, option_map_or}
use Rattle.std.specs.Str.{bytes_eq}
use Rattle.macs_config.specs.Association.{is_confidential, is_end_station, offset_of}
use Rattle.macs_config.specs.Numbers.{one_more}
use Rattle.macs_config.specs.Tables.{put}
use Rattle.macs_config.specs.declared.association.TxSa.{TxSa}
use Rattle.macs_config.specs.declared.command.SciMode.{SciMode}
use Rattle.macs_config.specs.declared.command.SciMode.TheVariants.{Explicit, EndStation, Implicit}
use Rattle.macs_fields.specs.Fields.{octets_of}
use Rattle.macs_frame.specs.Protection.{overhead, protected_frame}
use Rattle.macs_frame.specs.Traffic.{no_channel_traffic, traffic_after}
use Rattle.macs_frame.specs.declared.tag.ScName.{ScName}
use Rattle.macs_frame.specs.declared.tag.ScName.TheVariants.{Explicit as NamesSci, EndStation as NamesStation}
use Rattle.macs_frame.specs.declared.tag.ScName.TheVariants.{Implicit as NamesNone}
use Rattle.macs_frame.specs.declared.tag.SecTag.{SecTag}
use Rattle.macs_txsc.specs.declared.counters.TxCounters.{TxCounters}
use Rattle.macs_txsc.specs.declared.fault.TxFault.{TxFault}
use Rattle.macs_txsc.specs.declared.fault.TxFault.TheVariants.{Runt, TooLong, ForeignSource, NoEncodingSa, Exhausted}
use Rattle.macs_txsc.specs.declared.fault.TxFault.TheVariants.{NoNumber}

-- a transmit channel: associations and their next packet numbers by association number
pub record TxSide : Type 0 where
  pub sci : List ℕ
  pub mode : SciMode
  pub encoding : Option ℕ
  pub tx : ℕ → Option TxSa
  pub next : ℕ → Option ℕ

-- a transmit channel without associations, in explicit mode
abbrev pub new_tx_side : List ℕ → TxSide
new_tx_side sci = record { sci = sci; mode = Explicit; encoding = None; tx = λ an. None; next = λ an. None }

-- ---- sent frames

-- the association that frames are sent under, and its next packet number
pub record Outgoing : Type 0 where
  pub an : ℕ
  pub sa : TxSa
  pub pn : ℕ

-- an AN with its association and next packet number, None if one of the two is missing
abbrev pub outgoing_with : ℕ → Option TxSa → Option ℕ → Option Outgoing
outgoing_with an (Some sa) (Some pn) = Some (record { an = an; sa = sa; pn = pn })
outgoing_with an sa pn = None

-- the association at a selected AN, None if none is selected or none exists there
abbrev pub outgoing_at : TxSide → Option ℕ → Option Outgoing
outgoing_at side None = None
outgoing_at side (Some an) = outgoing_with an (side.tx an) (side.next an)

-- what the next frame is sent under, None if no encoding association exists
abbrev pub next_outgoing : TxSide → Option Outgoing
next_outgoing side = outgoing_at side side.encoding

-- how SecTAGs name the channel with this SCI in a mode: with SC set and an explicit SCI, with ES set, or with neither
-- (9.5)
abbrev pub name_in : SciMode → List ℕ → ScName
name_in Explicit sci = NamesSci sci
name_in EndStation sci = NamesStation
name_in Implicit sci = NamesNone

-- the SecTAG of the next frame, with E and C both set under confidentiality, else both clear (9.5)
abbrev pub tag_for : TxSide → Outgoing → SecTag
tag_for side o = record {
  an = o.an;
  pn = o.pn;
  name = name_in side.mode side.sci;
  encrypted = is_confidential o.sa.protection;
  changed = is_confidential o.sa.protection;
}

-- the SecTAG of the next frame, None if no encoding association exists
abbrev pub next_tag : TxSide → Option SecTag
next_tag side = option_map (tag_for side) (next_outgoing side)

-- the frame that is sent for a plain frame
abbrev pub frame_of : TxSide → Outgoing → List ℕ → List ℕ
frame_of side o plain = protected_frame o.sa.key side.sci (tag_for side o) (octets_of (offset_of o.sa.protection)) plain

-- the channel after the next packet number was used, if there is one
abbrev pub side_after : TxSide → Option Outgoing → TxSide
side_after side None = side
side_after side (Some o) = record side { next = put side.next o.an (Some (o.pn + 1)) }

-- the channel after a frame was sent under its encoding association
abbrev pub side_after_frame : TxSide → TxSide
side_after_frame side = side_after side (next_outgoing side)

-- ---- faults

-- the source address of a plain frame is the one in the SCI
abbrev pub is_own_source : List ℕ → List ℕ → Bool
is_own_source sci plain = bytes_eq (slice_range plain 6 12) (take 6 sci)

-- next is 2^32, so that the association has no packet number left
abbrev pub is_used_up : Option Outgoing → Bool
is_used_up None = false
is_used_up (Some o) = o.pn == 2 ^ 32

-- every fault except NoNumber with its test, in the order in which they are checked
abbrev pub tx_faults : TxSide → List ℕ → List (TxFault × Bool)
tx_faults side plain =
    (Runt, nat_lt (length plain) 14)
    ∷ (TooLong, nat_lt 9216 (length plain + overhead (name_in side.mode side.sci)))
    ∷ (ForeignSource, is_end_station side.mode && not (is_own_source side.sci plain))
    ∷ (NoEncodingSa, is_none (next_outgoing side))
    ∷ (Exhausted, is_used_up (next_outgoing side))
    ∷ []

-- the next packet number is the ceiling, so it is not reserved yet
abbrev pub is_at_ceiling : (ℕ → Option ℕ) → Option Outgoing → Bool
is_at_ceiling ceilings None = false
is_at_ceiling ceilings (Some o) = option_map_or (λ ceiling. ceiling == o.pn) (ceilings o.an) false

-- and NoNumber last, if the ceilings are known
abbrev pub all_tx_faults : TxSide → (ℕ → Option ℕ) → List ℕ → List (TxFault × Bool)
all_tx_faults side ceilings plain = tx_faults side plain ++ (NoNumber, is_at_ceiling ceilings (next_outgoing side)) ∷ []

-- ---- needs

-- at most half a block is left below the ceiling, which can be raised
abbrev pub is_needed : ℕ → ℕ → ℕ → Bool
is_needed block next ceiling = nat_le (ceiling - next) (block / 2) && nat_lt ceiling (2 ^ 32)

-- the AN of this association, if its ceiling should be raised
abbrev pub need_at : (ℕ → Option ℕ) → ℕ → Option Outgoing → Option ℕ
need_at ceilings block None = None
need_at ceilings block (Some o) =
    if option_map_or (is_needed block o.pn) (ceilings o.an) false then Some o.an else None

-- the AN of the encoding association, if its ceiling should be raised
abbrev pub need_of : TxSide → (ℕ → Option ℕ) → ℕ → Option ℕ
need_of side ceilings block = need_at ceilings block (next_outgoing side)

-- ---- ranges

-- 1 <= next <= ceiling <= 2^32, or neither exists
abbrev pub InOrder : Option ℕ → Option ℕ → Type 0
InOrder (Some next) (Some ceiling) = (1 ≤ next) × (next ≤ ceiling) × (ceiling ≤ 2 ^ 32)
InOrder (Some next) None = ⊥
InOrder None (Some ceiling) = ⊥
InOrder None None = Unit {0}

-- an association exists with a next number and a ceiling, or nothing does
abbrev pub AreOrdered : TxSide → (ℕ → Option ℕ) → ℕ → Type 0
AreOrdered side ceilings an = InOrder (side.next an) (ceilings an) × (is_none (side.tx an) ≡ is_none (side.next an))

-- ---- counters

-- a transmit channel's counters, all 0
abbrev pub no_counts : TxCounters
no_counts = record {
  protected = 0;
  traffic = no_channel_traffic;
  runt = 0;
  too_long = 0;
  foreign_source = 0;
  no_encoding_sa = 0;
  exhausted = 0;
  no_number = 0;
}

-- how often frames were refused for a fault
abbrev pub fault_count : TxFault → TxCounters → ℕ
fault_count Runt c = c.runt
fault_count TooLong c = c.too_long
fault_count ForeignSource c = c.foreign_source
fault_count NoEncodingSa c = c.no_encoding_sa
fault_count Exhausted c = c.exhausted
fault_count NoNumber c = c.no_number

-- the counters after one more frame was refused for a fault
abbrev pub counters_after_fault : TxFault → TxCounters → TxCounters
counters_after_fault Runt c = record c { runt = one_more c.runt }
counters_after_fault TooLong c = record c { too_long = one_more c.too_long }
counters_after_fault ForeignSource c = record c { foreign_source = one_more c.foreign_source }
counters_after_fault NoEncodingSa c = record c { no_encoding_sa = one_more c.no_encoding_sa }
counters_after_fault Exhausted c = record c { exhausted = one_more c.exhausted }
counters_after_fault NoNumber c = record c { no_number = one_more c.no_number }

-- the counters after one more plain frame was protected, under a SecTAG
abbrev pub counters_after_frame : SecTag → List ℕ → TxCounters → TxCounters
counters_after_frame tag plain c =
    record c { protected = one_more c.protected; traffic = traffic_after tag plain c.traffic }

-- the counters after an answer to a plain frame, where the next frame of the channel has this SecTAG
abbrev pub counters_after_answer : Option SecTag → List ℕ → Result ℕ TxFault → TxCounters → TxCounters
counters_after_answer (Some tag) plain (Ok pn) c = counters_after_frame tag plain c
counters_after_answer None plain (Ok pn) c = c
counters_after_answer tag plain (Err fault) c = counters_after_fault fault c
