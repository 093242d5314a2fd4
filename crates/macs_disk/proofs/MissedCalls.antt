-- A call that a fuse fails, and that the disk behind it misses.
use Rattle.std.proofs.Common.{◌≡◌, ◌≢◌, ◌≤◌, ◌<◌, ◌+◌, ◌-◌, ◌^◌, ◌==◌, ◌||◌, ◌⊎◌, ◌∙◌, inl, inr, ℕ, min, max, Bool}
use Rattle.std.proofs.Common.{true, false, List, refl, ap, arith, subst, sym, Result, Ok, Err, IsErr}
use Rattle.std.proofs.lemmas.Bool.{cases_eq, eq-eqb}
use Rattle.macs_disk.specs.Disk.{Disk, IsDeviceCall, Writes, now}
use Rattle.macs_disk.specs.Evidence.{fused-now}
use Rattle.macs_disk.specs.Fuses.{AreCounted, FuseValue, IsCounted, disk_of_fuse, fuse_after_blown_call}
use Rattle.macs_disk.specs.Fuses.{fuse_after_stopped_call, fused_disk}
use Rattle.macs_disk.specs.declared.fuse.Blow.{Blow}
use Rattle.macs_disk.specs.declared.fuse.Blow.TheVariants.{EachCall, OneCall, NoCall}
use Rattle.macs_disk.proofs.ListedCalls.{test_fresh, test_full}

abbrev most : ℕ
most = 2 ^ 64 - 1

-- parts of what is worn where one of them is
fresh-part : (a b : Bool) → (a || b) ≡ false → b ≡ false
fresh-part true b is = absurd cc
fresh-part false b is = is

worn-part : (a b : Bool) → b ≡ true → (a || b) ≡ true
worn-part true b is = refl
worn-part false b is = is

worn-on : (a b c : Bool) → (b ≡ true → c ≡ true) → (a || b) ≡ true → (a || c) ≡ true
worn-on true b c more is = refl
worn-on false b c more is = more is

-- The disk behind is at its moment `clock`, and `was` is that of the call that was missed before, where one was. One
-- missed call more is one moment more and one failure more, until they are full.
module _ (disk : Disk) (was at missed added more fails : ℕ) (within : was ≤ disk.clock) (here : at ≡ disk.clock)
    (alike : missed ≡ added) (fits : missed ≤ most)
    (since : 0 < missed → was ≡ disk.clock) (next : more ≡ min (missed + 1) most)
    (one : fails ≡ min (added + 1) most) where
  -- each moment is the one that it was
  moment : (k : ℕ) → k ≤ disk.clock + missed → min k (max at (k - more)) ≡ min k (max was (k - missed))
  moment k le = elim (cases_eq missed 0) [
    | inl none ↦ omega (arith, le, here, none)
    | inr some ↦ let same = since (omega (arith, some)) in omega (arith, le, here, same, next, fits)
  ]

  -- a full count stays full
  full : missed ≡ most → (more == most) ≡ true
  full is = eq-eqb more most (omega (arith, is, next))

  -- the failure is counted, or the disk is worn
  failed : (fails + disk.failures ≡ added + disk.failures + 1) ⊎ ((disk.worn || (more == most)) ≡ true)
  failed = elim (cases_eq missed most) [
    | inl is ↦ inr (worn-part disk.worn (more == most) (full is))
    | inr other ↦ inl (omega (arith, other, fits, alike, one))
  ]

  -- so it is a call of the disk that the fuse shows
  pub missed-call : {T E : Type 0} (answer : Result T E) → IsErr answer
      → IsDeviceCall (fused_disk disk was missed added) (fused_disk disk at more fails) answer
  missed-call (Ok x) is = absurd cc
  missed-call (Err e) is = record {
    work = record {
      works = record {
        later = omega (arith, next, fits);
        past = λ k le. ap disk.past (moment k le);
        failures = omega (arith, one, alike, fits);
        worn = worn-on disk.worn (missed == most) (more == most) (λ is. full (test_full missed is));
        sectors = refl;
        honest = refl;
      };
      ok = tt;
      err = elim failed [
        | inl rose ↦ inl (omega (arith, rose))
        | inr worn ↦ inr worn
      ];
    };
    at_most_one = omega (arith, next);
    one = λ fresh. let lt = test_fresh missed fits (fresh-part disk.worn (missed == most) fresh) in
        omega (arith, next, lt);
    counted = λ fresh. let lt = test_fresh missed fits (fresh-part disk.worn (missed == most) fresh) in
        omega (arith, one, alike, lt);
    refused = λ _. refl;
    stands = λ _. fused-now disk at more fails (omega (arith, here)) ∙ sym (fused-now disk was missed added within);
    alike = λ _. omega (arith, next, one, alike);
  }

module _ {D : Type 0} (disk : D → Disk) (old new : FuseValue D) (left : old.left ≡ 0) (some : old.blow ≢ NoCall)
    (stopped : old.blow ≡ EachCall → new ≡ fuse_after_stopped_call old)
    (blown : (fill : List ℕ) → old.blow ≡ OneCall fill → new ≡ fuse_after_blown_call old) where
  abbrev was : ℕ
  was = min (disk old.when).clock (disk old.inner).clock

  abbrev at : ℕ
  at = min (disk old.inner).clock (disk old.inner).clock

  -- the call is one of the disk that the fuse shows
  pub missed-by-fuse : {T E : Type 0} (answer : Result T E) → IsErr answer → IsCounted disk old
      → IsDeviceCall (disk_of_fuse disk old) (disk_of_fuse disk new) answer
  missed-by-fuse answer is counted = by old.blow refl where
    counted-as : (blow : Blow) → old.blow ≡ blow
        → AreCounted blow (disk old.when).clock (disk old.inner).clock old.left old.missed old.added
    counted-as blow same = subst (λ (b : Blow).
        AreCounted b (disk old.when).clock (disk old.inner).clock old.left old.missed old.added) same counted

    by : (blow : Blow) → old.blow ≡ blow → IsDeviceCall (disk_of_fuse disk old) (disk_of_fuse disk new) answer
    by EachCall same =
        let counts = counted-as EachCall same in
        subst (λ (f : FuseValue D). IsDeviceCall (disk_of_fuse disk old) (disk_of_fuse disk f) answer)
        (sym (stopped same))
        (missed-call (disk old.inner) was at old.missed old.added (min (old.missed + 1) most) (min (old.added + 1) most)
        (omega arith) (omega arith) counts.1
        (let fits = counts.2 in omega (arith, fits)) (λ before. let full = (counts.3 before).1 in
        omega (arith, full)) refl refl answer is)
    by (OneCall fill) same =
        let counts = counted-as (OneCall fill) same in
        let none = counts.1 in
        let none_added = counts.2 in
        subst (λ (f : FuseValue D). IsDeviceCall (disk_of_fuse disk old) (disk_of_fuse disk f) answer)
        (sym (blown fill same))
        (missed-call (disk old.inner) was
        at old.missed old.added (old.missed + 1) (old.added + 1) (omega arith) (omega arith) (none ∙ sym none_added)
        (omega (arith, none)) (λ before. absurd (omega (arith, none, before))) (omega (arith, none))
        (omega (arith, none_added)) answer is)
    by NoCall same = absurd (some same)

  -- the disk behind stays as it is
  behind : new.inner ≡ old.inner
  behind = by old.blow refl where
    by : (blow : Blow) → old.blow ≡ blow → new.inner ≡ old.inner
    by EachCall same = ap (λ (f : FuseValue D). f.inner) (stopped same)
    by (OneCall fill) same = ap (λ (f : FuseValue D). f.inner) (blown fill same)
    by NoCall same = absurd (some same)

  -- and leaves its state as it was
  still : now (disk_of_fuse disk new) ≡ now (disk_of_fuse disk old)
  still =
      fused-now (disk new.inner) (min (disk new.when).clock (disk new.inner).clock) new.missed new.added (omega arith)
      ∙ ap (λ (d : D). now (disk d)) behind
      ∙ sym (fused-now (disk old.inner) was old.missed old.added (omega arith))

  pub missed-write : {T E : Type 0} (answer : Result T E) (place : ℕ) (octets : List ℕ) → IsErr answer
      → Writes (now (disk_of_fuse disk old)) (now (disk_of_fuse disk new)) place octets answer
  missed-write (Ok x) place octets is = absurd cc
  missed-write (Err e) place octets is = record { ok = tt; err = inl still }
