-- What the disks of this crate prove for the trait: that they are sound. This is here and not among the proofs, since a
-- ghost item can only cite specs.
use Rattle.std.proofs.Common.{◌≡◌, ◌<◌, ◌-◌, ◌%◌, ◌^◌, ◌==◌, ◌++◌, ◌∙◌, inl, inr, ℕ, Bool, true, false, zero, suc}
use Rattle.std.proofs.Common.{if◌then◌else◌, List, [], ◌∷◌, length, map, take, get_or, refl, ap, arith, subst, sym}
use Rattle.std.proofs.lemmas.List.{length-append, length-map, length-replicate, length-take-le}
use Rattle.std.proofs.lemmas.Bool.{cases_eq}
use Rattle.std.specs.Prelude.{Option, Some, None, is_some, unwrap_or}
use Rattle.macs_disk.specs.States.{DiskState, Image, IsSector, IsSound, put_sector, settled_state, zero_sector}
use Rattle.macs_disk.specs.Disk.{now}
use Rattle.macs_disk.proofs.Images.{put-other, put-same}
use Rattle.macs_c.specs.ImageDisks.{ImageValue, image_disk, image_of, sector_of, tried_state}
use Rattle.macs_c.specs.ReportedDisks.{Moment, ReportedValue, reported_disk, reported_state}

-- octets modulo 2^8
mod-below : (octets : List ℕ) (i : ℕ) → get_or (map (λ octet. octet % 256) octets) i 0 < 2 ^ 8
mod-below [] i = omega arith
mod-below (x ∷ octets) zero = omega arith
mod-below (x ∷ octets) (suc i) = mod-below octets i

-- any list is read as a sector
pub sector_of-sector : (octets : List ℕ) → IsSector (sector_of octets)
unfolding sector_of zero_sector
sector_of-sector octets =
    let whole = octets ++ zero_sector in
    let zeros : length zero_sector ≡ 512 = length-replicate {A = ℕ} 512 0 in
    let long = length-append octets zero_sector in
    record {
      size = length-map (take 512 whole) (λ octet. octet % 256) ∙ length-take-le 512 whole (omega (arith, zeros, long));
      octets = mod-below (take 512 whole);
    }

-- ---- a disk whose sectors are only read

settled-sound : (sectors : List (List ℕ)) → IsSound (settled_state (image_of sectors))
settled-sound sectors = record {
  fit = record { kept = λ i _. refl; whole = λ i _. sector_of-sector (get_or sectors i []) };
  seen = λ i. sector_of-sector (get_or sectors i []);
  durable = λ i. sector_of-sector (get_or sectors i []);
}

-- what is put where it was
put-back : (image : Image) (at i : ℕ) → put_sector image at (image at) i ≡ image i
put-back image at i = elim (cases_eq i at) [
  | inl same ↦ put-same image at i (image at) same ∙ ap image (sym same)
  | inr other ↦ put-other image at i (image at) other
]

tried-sound : (sectors : List (List ℕ)) (tried : Option ℕ) → IsSound (tried_state sectors tried)
tried-sound sectors None = settled-sound sectors
tried-sound sectors (Some at) =
    let seen : (i : ℕ) → IsSector ((tried_state sectors (Some at)).seen i) =
    λ i. subst IsSector (sym (put-back (image_of sectors) at i)) (sector_of-sector (get_or sectors i [])) in
    record {
      fit = record { kept = λ i _. put-back (image_of sectors) at i; whole = λ i _. seen i };
      seen = seen;
      durable = λ i. sector_of-sector (get_or sectors i []);
    }

either-sound : (is : Bool) (sectors : List (List ℕ)) (tried : Option ℕ)
    → IsSound (if is then settled_state (image_of sectors) else tried_state sectors tried)
either-sound true sectors tried = settled-sound sectors
either-sound false sectors tried = tried-sound sectors tried

pub image-sound : (it : ImageValue) → IsSound (now (image_disk it))
image-sound it = either-sound ((image_disk it).clock - it.calls == 0) it.sectors it.tried

-- ---- a disk whose calls somebody else makes

-- what is not pending is durable as it is read
durable-read : (before : Option (List ℕ)) (octets : List ℕ) → is_some before ≡ false
    → sector_of octets ≡ sector_of (unwrap_or before octets)
durable-read None octets clean = refl
durable-read (Some other) octets clean = absurd cc

moment-sound : (moment : Moment) → IsSound (reported_state moment)
moment-sound moment = record {
  fit = record {
    kept = λ i clean. durable-read (get_or moment.1 i None) (get_or moment.0 i []) clean;
    whole = λ i _. sector_of-sector (get_or moment.0 i []);
  };
  seen = λ i. sector_of-sector (get_or moment.0 i []);
  durable = λ i. sector_of-sector (unwrap_or (get_or moment.1 i None) (get_or moment.0 i []));
}

pub reported-sound : (it : ReportedValue) → IsSound (now (reported_disk it))
reported-sound it = moment-sound (get_or it.moments (it.clock - it.clock) ([], []))
