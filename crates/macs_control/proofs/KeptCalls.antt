-- A disk that a keeper keeps: greetings that do not come, and its calls.
use Rattle.std.proofs.Common.{◌≡◌, ◌∙◌, ◌<◌, ◌^◌, inl, inr, ℕ, Bool, true, false, List, Option, Some, None, Result}
use Rattle.std.proofs.Common.{length, refl}
use Rattle.macs_disk.specs.DeviceCalls.{IsMade}
use Rattle.macs_disk.specs.Disk.{IsDeviceCall}
use Rattle.macs_disk.specs.Evidence.{no-claim}
use Rattle.macs_disk.specs.Messages.{greeting_octets}
use Rattle.macs_disk.specs.declared.device_call.DeviceCall.{DeviceCall}
use Rattle.macs_disk.specs.declared.disk.DeviceFault.{DeviceFault}
use Rattle.macs_control.specs.Keepers.{IsCut, Takes}
use Rattle.macs_control.specs.KeptDisks.{GreetsNot, KeptDiskValue, kept_disk}
use Rattle.macs_control.specs.Links.{Link}
use Rattle.macs_control.specs.declared.keeping.cut.Cut.{Cut}
use Rattle.macs_control.specs.declared.keeping.cut.Cut.TheVariants as cut

-- no whole greeting arrives
pub greeting-cut : (end : Cut) (old new : Option Link) (steady : Bool) → IsCut 16 old end new
    → (steady ≡ true → end ≡ cut.Ended) → GreetsNot old steady
greeting-cut cut.Ended old new steady cuts ends = (new, inl cuts)
greeting-cut cut.Gone old new false cuts ends = (new, inr (inl (refl, cuts)))
greeting-cut cut.Gone old new true cuts ends = absurd (let e = ends refl in cc)

-- what arrives is not one
pub greeting-malformed : {G : Type 0} (greeting : ℕ → G) (old new : Option Link) (steady : Bool) (octets read : List ℕ)
    → length octets ≡ 16 → Takes old octets new → read ≡ octets
    → ((sectors : ℕ) → sectors < 2 ^ 64 → read ≡ greeting_octets sectors → None ≡ Some (greeting sectors))
    → GreetsNot old steady
greeting-malformed greeting old new steady octets read size takes same found = (
  new,
  inr (inr (octets, size, (λ sectors few is. absurd (let e = found sectors few (same ∙ is) in cc)), takes)),
)

-- the disk makes no promise of an honest one
pub kept-made : (old new : KeptDiskValue) (call : DeviceCall) (read : List ℕ) (result : Result (Unit {0}) DeviceFault)
    → IsDeviceCall (kept_disk old) (kept_disk new) result → IsMade (kept_disk old) (kept_disk new) call read result
kept-made old new call read result counts = record { call = counts; does = λ honest. no-claim honest }
