-- Sectors in a list, read and written.
use Rattle.std.proofs.Common.{◌≡◌, ◌≢◌, ◌<◌, ◌∙◌, ℕ, List, [], ap, sym, length, get_or, slice_set}
use Rattle.std.proofs.lemmas.List.{get_or-set_other, get_or-set_same}
use Rattle.macs_c.specs.ImageDisks.{image_of, sector_of}
use Rattle.macs_disk.specs.States.{IsSector}
use Rattle.macs_c.proofs.ImageDisks.{sector-itself}

-- one that is read
pub read-there : (sectors : List (List ℕ)) (at : ℕ) (octets : List ℕ) → octets ≡ get_or sectors at []
    → IsSector octets → image_of sectors at ≡ octets
read-there sectors at octets is whole = ap sector_of (sym is) ∙ sector-itself octets whole

-- one that is written
pub written-there : (old : List (List ℕ)) (at : ℕ) (octets : List ℕ) → at < length old → IsSector octets
    → image_of (slice_set old at octets) at ≡ octets
written-there old at octets within whole =
    ap sector_of (get_or-set_same old at octets [] within) ∙ sector-itself octets whole

-- and each other
pub written-elsewhere : (old : List (List ℕ)) (at i : ℕ) (octets : List ℕ) → i ≢ at
    → image_of (slice_set old at octets) i ≡ image_of old i
written-elsewhere old at i octets apart = ap sector_of (get_or-set_other old at i octets [] apart)
