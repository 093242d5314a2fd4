-- A disk whose sectors are only read: a sector is read as itself, and each call is one of a disk.
use Rattle.std.proofs.Common.{◌≡◌, ◌≢◌, ◌≤◌, ◌<◌, ◌+◌, ◌-◌, ◌%◌, ◌^◌, ◌==◌, ◌∙◌, inl, inr, ℕ, suc, true, false}
use Rattle.std.proofs.Common.{List, [], ◌∷◌, map, get_or, refl, sym, ap, subst, arith, Ok, Err}
use Rattle.std.proofs.lemmas.Bool.{eq-eqb}
use Rattle.std.proofs.lemmas.Bool.Decides.{nat_tests}
use Rattle.std.proofs.lemmas.List.{take-append-le, take_all}
use Rattle.std.specs.Prelude.{Option, Some, None, is_some}
use Rattle.macs_disk.specs.States.{DiskState, IsSector, settled_state, state_after_write, zero_sector}
use Rattle.macs_disk.specs.Disk.{IsDeviceCall, Reads, Writes, now}
use Rattle.macs_disk.specs.declared.disk.DeviceFault.{DeviceFault}
use Rattle.macs_c.specs.Evidence.{sector_of-sector}
use Rattle.macs_c.specs.ImageDisks.{ImageValue, failed_calls, image_disk, image_of, sector_of, tried_state}

-- ---- sectors

same-octets : (octets : List ℕ) → ((i : ℕ) → get_or octets i 0 < 2 ^ 8) → map (λ octet. octet % 256) octets ≡ octets
same-octets [] below = refl
same-octets (x ∷ octets) below =
    let first : x < 2 ^ 8 = below 0 in
    let same : x % 256 ≡ x = omega (arith, first) in
    λ j. same j ∷ same-octets octets (λ i. below (suc i)) j

pub sector-itself : (octets : List ℕ) → IsSector octets → sector_of octets ≡ octets
unfolding sector_of
sector-itself octets is =
    ap (map (λ octet. octet % 256))
    (take-append-le 512 octets zero_sector (omega (arith, is.size)) ∙ take_all 512 octets (omega (arith, is.size)))
    ∙ same-octets octets is.octets

-- ---- moments

within : (k calls : ℕ) → k ≤ calls → (k - calls == 0) ≡ true
within k calls le = let none : k - calls ≡ 0 = omega (arith, le) in eq-eqb (k - calls) 0 none

beyond : (k calls : ℕ) → calls < k → (k - calls == 0) ≡ false
beyond k calls lt = let some : k - calls ≢ 0 = λ none. omega (arith, none, lt) in grind (arith, nat_tests)

module _ (it : ImageValue) where
  pub past-settled : (k : ℕ) → k ≤ it.calls → (image_disk it).past k ≡ settled_state (image_of it.sectors)
  past-settled k le = rw (within k it.calls le) refl

  past-tried : (k : ℕ) → it.calls < k → (image_disk it).past k ≡ tried_state it.sectors it.tried
  past-tried k lt = rw (beyond k it.calls lt) refl

-- before a write was tried, and after it
pub now-settled : (it : ImageValue) → it.tried ≡ None → now (image_disk it) ≡ settled_state (image_of it.sectors)
now-settled it is =
    let none : failed_calls it.tried it.more ≡ 0 = rw is refl in
    past-settled it (it.calls + failed_calls it.tried it.more) (omega (arith, none))

pub now-tried : (it : ImageValue) (at : ℕ) → it.tried ≡ Some at
    → now (image_disk it) ≡ tried_state it.sectors (Some at)
now-tried it at is =
    let some : failed_calls it.tried it.more ≡ it.more + 1 = rw is refl in
    past-tried it (it.calls + failed_calls it.tried it.more) (omega (arith, some)) ∙ ap (tried_state it.sectors) is

-- no failure means that no write was tried, and one that there was one
pub none-tried : (tried : Option ℕ) (more : ℕ) → failed_calls tried more ≡ 0 → tried ≡ None
none-tried None more none = refl
none-tried (Some at) more none = absurd (omega (arith, none))

pub one-tried : (tried : Option ℕ) (more : ℕ) → failed_calls tried more ≡ 1 → (at : ℕ) × (tried ≡ Some at)
one-tried None more one = absurd (omega (arith, one))
one-tried (Some at) more one = (at, refl)

-- ---- calls

-- a read
pub read-image : (old new : ImageValue) (at : ℕ) (sector : List ℕ)
    → now (image_disk new) ≡ now (image_disk old)
    → now (image_disk old) ≡ settled_state (image_of new.sectors)
    → sector ≡ get_or new.sectors at [] → IsSector sector
    → Reads {T = Unit {0}} {E = DeviceFault} (now (image_disk old)) (now (image_disk new)) at sector (Ok tt)
read-image old new at sector same settled is whole = record {
  same = same;
  ok = sym (sector-itself sector whole) ∙ ap sector_of is ∙ ap (λ (s : DiskState). s.seen at) (sym settled);
}

-- the first write: its sector is pending, with the octets that were there
abbrev stopped : ImageValue → ℕ → ImageValue
stopped it at = record it { tried = Some at; more = 0 }

pub stops : (it new : ImageValue) (at : ℕ) (octets : List ℕ) → is_some it.tried ≡ false → new ≡ stopped it at
    → Writes {T = Unit {0}} {E = DeviceFault} (now (image_disk it)) (now (image_disk new)) at octets (Err (record {}))
stops it new at octets none is =
    subst (λ (v : ImageValue).
    Writes {T = Unit {0}} {E = DeviceFault} (now (image_disk it)) (now (image_disk v)) at octets (Err (record {})))
    (sym is) (record {
      ok = tt;
      err = inr (
        image_of it.sectors at,
        sector_of-sector (get_or it.sectors at []),
        now-tried (stopped it at) at refl
            ∙ ap (λ (s : DiskState). state_after_write s at (image_of it.sectors at))
            (sym (now-settled it (none-there it.tried none))),
      );
    }) where
      none-there : (tried : Option ℕ) → is_some tried ≡ false → tried ≡ None
      none-there None none = refl
      none-there (Some other) none = absurd cc
