-- The peer's frame in the example: it is read, it verifies, and it is late or arrives.
use Rattle.std.proofs.Common.{◌≡◌, ◌<◌, ℕ, List, [], ◌∷◌, length, true, Some, refl, sym, ◌∙◌, ap, subst, arith}
use Rattle.std.specs.Option.{option_and_then}
use Rattle.macs_fields.specs.First.{IsFirst}
use Rattle.macs_frame.specs.Opening.{Verified}
use Rattle.macs_frame.specs.Protection.{IsWritten, written_parts}
use Rattle.macs_frame.specs.Tag.{IsForKay, Tag, tag_of}
use Rattle.macs_frame.specs.declared.tag.SecTag.{SecTag}
use Rattle.macs_frame.proofs.Protection.{protected_is_read, protected_is_verified}
use Rattle.macs_rxsc.specs.Receive.{Arrival, Arrives, BelowLowest, Numbers, RxSide, RxStepHolds, channel_of, rx_steps}
use Rattle.macs_rxsc.specs.Receive.{sci_named, standing_channel}
use Rattle.macs_rxsc.proofs.Steps.{arrives, first_late}
use Rattle.macs_headline.specs.Example.{example_plain, peer_frame, peer_key, peer_sa, peer_sci, peer_tag}

tag_written : IsWritten (peer_tag 5)
tag_written = record { an = omega arith; numbered = omega arith; pn = omega arith; name = refl; alike = refl }

frame_read : Tag (peer_frame 5) (written_parts (peer_tag 5) (length example_plain)) × (¬ IsForKay (peer_frame 5))
frame_read = protected_is_read peer_key peer_sci (peer_tag 5) 0 example_plain tag_written (omega arith) (omega arith)

tag_is : peer_tag 5 ≡ tag_of (peer_frame 5)
tag_is = frame_read.0.reading.tag

frame_verified : Verified (peer_frame 5) peer_key peer_sci 0 example_plain
frame_verified = (protected_is_verified peer_key peer_sci (peer_tag 5) 0 example_plain example_plain tag_written
    (omega arith) (omega arith)).1 refl

-- the frame, by the numbers of its association
abbrev pub arrival : Numbers → Arrival
arrival numbers = record { sci = peer_sci; an = 0; pn = 5; sa = peer_sa; numbers = numbers; plain = example_plain }

module _ (side : RxSide) (numbers : Numbers) (channels : side.channels ≡ peer_sci ∷ [])
    (sa_is : side.rx peer_sci 0 ≡ Some peer_sa)
    (numbers_are : side.numbers peer_sci 0 ≡ Some numbers) where
  channel_is : channel_of side (peer_frame 5) ≡ Some peer_sci
  channel_is =
      ap (λ (tag : SecTag). option_and_then (standing_channel side.channels)
      (sci_named side.channels (peer_frame 5) tag.name)) (sym tag_is)
      ∙ ap (λ (scis : List (List ℕ)). standing_channel scis peer_sci) channels

  association_is : side.rx peer_sci (tag_of (peer_frame 5)).an ≡ Some peer_sa
  association_is = ap (λ (tag : SecTag). side.rx peer_sci tag.an) (sym tag_is) ∙ sa_is

  its_numbers : side.numbers peer_sci (tag_of (peer_frame 5)).an ≡ Some numbers
  its_numbers = ap (λ (tag : SecTag). side.numbers peer_sci tag.an) (sym tag_is) ∙ numbers_are

  pub peer-arrives : (side.replay.on ≡ true → 5 < numbers.lowest → ⊥) → Arrives side (peer_frame 5) (arrival numbers)
  peer-arrives in_time =
      subst (λ (tag : SecTag). Arrives side (peer_frame 5)
      (record { sci = peer_sci; an = tag.an; pn = tag.pn; sa = peer_sa; numbers = numbers; plain = example_plain }))
      (sym tag_is)
      (arrives side (peer_frame 5) (written_parts (peer_tag 5) (length example_plain)) frame_read peer_sci channel_is
      peer_sa numbers association_is its_numbers
      (λ on late. in_time on (subst (λ (tag : SecTag). tag.pn < numbers.lowest) (sym tag_is) late))
      example_plain frame_verified)

  pub peer-late : side.replay.on ≡ true → 5 < numbers.lowest
      → IsFirst (RxStepHolds side (peer_frame 5)) rx_steps BelowLowest
  peer-late on late =
      first_late side (peer_frame 5) (written_parts (peer_tag 5) (length example_plain)) frame_read peer_sci channel_is
      peer_sa numbers association_is its_numbers on
      (subst (λ (tag : SecTag). tag.pn < numbers.lowest) tag_is late)
