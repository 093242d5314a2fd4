-- The refusal of a frame under a key and an offset, for a program in C.
use Rattle.std.proofs.Common.{◌≡◌, ℕ, List, true, ◌↔◌, ◌<◌, length, Result, Ok, Err, IfErr, subst, sym}
use Rattle.macs_fields.specs.First.{IsFirst}
use Rattle.macs_frame.specs.Opening.{OpenFaultHolds, Verified, open_faults}
use Rattle.macs_frame.specs.declared.opening.OpenFault.{OpenFault}
use Rattle.macs_c.specs.declared.fields.MacsOpened.{MacsOpened}
use Rattle.macs_c.specs.declared.keys.MacsKey.{MacsKey}
use Rattle.macs_c.specs.declared.refusals.Refusal.{Refusal}
use Rattle.macs_c.specs.declared.refusals.Refusal.TheVariants.{Key, Field, Runt, Oversize, Room, NoTag, BadTag, ForKay}
use Rattle.macs_c.specs.declared.refusals.Refusal.TheVariants.{OtherSci, NotValid}
use Rattle.macs_c.specs.Fields.{is_offset}
use Rattle.macs_c.specs.Keys.{is_key, key_octets}
use Rattle.macs_c.specs.Refusals.{FrameRefusal, IsFault, IsFaultless, OpenRefusal}

-- an opened frame has no fault
pub faultless : {X : Type 0} (frame key octets sci : List ℕ) (offset : ℕ) (result : Result X OpenFault) (x : X)
    → result ≡ Ok x → key ≡ octets
    → ((fault : OpenFault) → (result ≡ Err fault) ↔ IsFault frame key sci offset fault)
    → IsFaultless frame octets sci offset
faultless frame key octets sci offset result x is same exact =
    subst (λ k. IsFaultless frame k sci offset) same
    (record { none = λ fault first. let wrong : result ≡ Err fault = (exact fault).1 first in cc })

-- and is refused for want of room alone
pub little_room : (frame key octets sci : List ℕ) (offset room : ℕ) (plain : List ℕ) (refusal : Refusal)
    → refusal ≡ Room → key ≡ octets
    → IsFaultless frame octets sci offset → Verified frame key sci offset plain → room < length plain
    → FrameRefusal frame octets sci offset room refusal
little_room frame key octets sci offset room plain refusal is same none verified less =
    subst (λ r. FrameRefusal frame octets sci offset room r) (sym is)
    (none, plain, subst (λ k. Verified frame k sci offset plain) same verified, less)

module _ (key : MacsKey) (sci frame : List ℕ) (offset room : ℕ) (octets : List ℕ) (clear : ℕ) (is : is_key key ≡ true)
    (same_key : octets ≡ key_octets key)
    (at : is_offset offset ≡ true) (same_offset : clear ≡ offset) where
  -- the frame's own refusal, of the key's octets and of the number given
  frame_refusal : (refusal : Refusal) → FrameRefusal frame octets sci clear room refusal
      → FrameRefusal frame (key_octets key) sci offset room refusal
  frame_refusal refusal why =
      subst (λ o. FrameRefusal frame (key_octets key) sci o room refusal) same_offset
      (subst (λ k. FrameRefusal frame k sci clear room refusal) same_key why)

  open_refusal : (refusal : Refusal) → FrameRefusal frame octets sci clear room refusal
      → OpenRefusal key sci frame offset room refusal
  open_refusal Key why = absurd why
  open_refusal Field why = absurd why
  open_refusal Runt why = (is, at, frame_refusal Runt why)
  open_refusal Oversize why = (is, at, frame_refusal Oversize why)
  open_refusal Room why = (is, at, frame_refusal Room why)
  open_refusal NoTag why = (is, at, frame_refusal NoTag why)
  open_refusal BadTag why = (is, at, frame_refusal BadTag why)
  open_refusal ForKay why = (is, at, frame_refusal ForKay why)
  open_refusal OtherSci why = (is, at, frame_refusal OtherSci why)
  open_refusal NotValid why = (is, at, frame_refusal NotValid why)

  pub refused : (result : Result MacsOpened Refusal) → IfErr result (FrameRefusal frame octets sci clear room)
      → IfErr result (OpenRefusal key sci frame offset room)
  refused (Ok found) why = tt
  refused (Err refusal) why = open_refusal refusal why
