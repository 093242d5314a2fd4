-- The write that is made in the place of the one that a fuse fails.
use Rattle.std.proofs.Common.{◌≡◌, ◌+◌, ℕ, Bool, refl, sym, subst, arith, List, Some, Result, if◌then◌else◌, is_ok}
use Rattle.macs_disk.specs.Fuses.{AreCounted, FuseValue, fuse_after_blown_write}
use Rattle.macs_disk.specs.declared.disk.DeviceFault.{DeviceFault}
use Rattle.macs_disk.specs.declared.fuse.Blow.{Blow}
use Rattle.macs_disk.specs.declared.fuse.Blow.TheVariants.{OneCall, NoCall}

-- a fuse that has not failed its one call yet has added no failure
pub none-added : {D : Type 0} (now inside : FuseValue D) (fill : List ℕ) (at clock : ℕ) → inside ≡ now
    → now.blow ≡ OneCall fill
    → AreCounted inside.blow at clock inside.left inside.missed inside.added → inside.added ≡ 0
none-added {D} now inside fill at clock same is counted =
    let blow : inside.blow ≡ OneCall fill = subst (λ (f : FuseValue D). f.blow ≡ OneCall fill) (sym same) is in
    let here : AreCounted (OneCall fill) at clock inside.left inside.missed inside.added =
    subst (λ (b : Blow). AreCounted b at clock inside.left inside.missed inside.added) blow counted in
    here.2

-- the fuse after a write that was made in the place of the one that it failed
pub blown-write : {D : Type 0} (fuse : FuseValue D) (inner when : D) (added : ℕ)
    (answer : Result (Unit {0}) DeviceFault) (ok : Bool) → when ≡ fuse.inner → fuse.added ≡ 0
    → ok ≡ is_ok answer → added ≡ (if ok then 1 else 0)
    → record { inner = inner; when = when; left = fuse.left; blow = NoCall; missed = fuse.missed; added = added }
    ≡ fuse_after_blown_write fuse inner (if is_ok answer then 1 else 0)
blown-write fuse inner when added answer ok is none same counts =
    let more : added ≡ (if is_ok answer then 1 else 0) = rw (← same) counts in
    let all : added ≡ fuse.added + (if is_ok answer then 1 else 0) = omega (arith, none, more) in
    rw (is, all) refl

-- the octets are the same where they are found to be
pub same-fill : (one other : List ℕ) → Some one ≡ Some other → one ≡ other
same-fill one other same = cc
