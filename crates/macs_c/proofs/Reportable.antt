-- A report of each call that an honest device makes.
use Rattle.std.proofs.Common.{◌≡◌, ◌≢◌, ◌∙◌, inl, inr, ℕ, zero, suc, true, false, List, [], ◌∷◌, get_or, refl, sym, ap}
use Rattle.std.proofs.Common.{subst, Result, Ok, Err}
use Rattle.std.proofs.lemmas.Bool.{cases_eq}
use Rattle.std.specs.Prelude.{Option, Some, None, is_some, unwrap_or}
use Rattle.macs_disk.specs.DeviceCalls.{DoesCall, IsCall}
use Rattle.macs_disk.specs.Disk.{now}
use Rattle.macs_disk.specs.States.{DiskState, IsSector, state_after_sync, state_after_write}
use Rattle.macs_disk.specs.declared.device_call.DeviceCall.{DeviceCall}
use Rattle.macs_disk.specs.declared.device_call.DeviceCall.TheVariants.{Read, Write, Sync}
use Rattle.macs_disk.specs.declared.disk.DeviceFault.{DeviceFault}
use Rattle.macs_disk.proofs.Images.{State-ext, put-other, put-same}
use Rattle.macs_c.specs.ImageDisks.{image_of, sector_of}
use Rattle.macs_c.specs.ReportedDisks.{Moment, ReportedValue, moment_before, reported_disk, reported_state}
use Rattle.macs_c.proofs.ImageDisks.{sector-itself}
use Rattle.macs_c.proofs.ReportedDisks.{reported-now}

-- ---- an item of a list that is as long as it has to be

put_item : {A : Type 0} → A → ℕ → A → List A → List A
put_item d zero x [] = x ∷ []
put_item d zero x (y ∷ ys) = x ∷ ys
put_item d (suc n) x [] = d ∷ put_item d n x []
put_item d (suc n) x (y ∷ ys) = y ∷ put_item d n x ys

item-same : {A : Type 0} (d : A) (n : ℕ) (x : A) (xs : List A) → get_or (put_item d n x xs) n d ≡ x
unfolding put_item
item-same d zero x [] = refl
item-same d zero x (y ∷ ys) = refl
item-same d (suc n) x [] = item-same d n x []
item-same d (suc n) x (y ∷ ys) = item-same d n x ys

item-other : {A : Type 0} (d : A) (n : ℕ) (x : A) (xs : List A) (i : ℕ) → i ≢ n
    → get_or (put_item d n x xs) i d ≡ get_or xs i d
unfolding put_item
item-other d zero x [] zero other = absurd (other refl)
item-other d zero x [] (suc i) other = refl
item-other d zero x (y ∷ ys) zero other = absurd (other refl)
item-other d zero x (y ∷ ys) (suc i) other = refl
item-other d (suc n) x [] zero other = refl
item-other d (suc n) x [] (suc i) other = item-other d n x [] i (λ same. other (ap suc same))
item-other d (suc n) x (y ∷ ys) zero other = refl
item-other d (suc n) x (y ∷ ys) (suc i) other = item-other d n x ys i (λ same. other (ap suc same))

-- ---- moments

-- what is durable of a sector
abbrev kept : Moment → ℕ → List ℕ
kept m i = unwrap_or (get_or m.1 i None) (get_or m.0 i [])

-- the moment after a write
abbrev written : Moment → ℕ → List ℕ → Moment
written m at octets = (put_item [] at octets m.0, put_item None at (Some (kept m at)) m.1)

module _ (m : Moment) (at : ℕ) (octets : List ℕ) (whole : IsSector octets) where
  here : (i : ℕ) → i ≡ at → get_or (written m at octets).1 i None ≡ Some (kept m at)
  here i same =
      ap (λ (k : ℕ). get_or (written m at octets).1 k None) same ∙ item-same None at (Some (kept m at)) m.1

  seen : (i : ℕ) → (reported_state (written m at octets)).seen i
      ≡ (state_after_write (reported_state m) at octets).seen i
  seen i = elim (cases_eq i at) [
    | inl same ↦
        ap (λ (k : ℕ). sector_of (get_or (written m at octets).0 k [])) same
        ∙ ap sector_of (item-same [] at octets m.0) ∙ sector-itself octets whole
        ∙ sym (put-same (image_of m.0) at i octets same)
    | inr other ↦
        ap sector_of (item-other [] at octets m.0 i other) ∙ sym (put-other (image_of m.0) at i octets other)
  ]

  durable : (i : ℕ) → (reported_state (written m at octets)).durable i ≡ (reported_state m).durable i
  durable i = elim (cases_eq i at) [
    | inl same ↦
        ap (λ (o : Option (List ℕ)). sector_of (unwrap_or o (get_or (written m at octets).0 i []))) (here i same)
        ∙ ap (λ (k : ℕ). sector_of (kept m k)) (sym same)
    | inr other ↦
        ap (λ (o : Option (List ℕ)). sector_of (unwrap_or o (get_or (written m at octets).0 i [])))
        (item-other None at (Some (kept m at)) m.1 i other)
        ∙ ap (λ (octets : List ℕ). sector_of (unwrap_or (get_or m.1 i None) octets))
        (item-other [] at octets m.0 i other)
  ]

  pending : (i : ℕ) → (reported_state (written m at octets)).pending i
      ≡ (state_after_write (reported_state m) at octets).pending i
  pending i = elim (cases_eq i at) [
    | inl same ↦ ap is_some (here i same) ∙ sym (put-same (reported_state m).pending at i true same)
    | inr other ↦
        ap is_some (item-other None at (Some (kept m at)) m.1 i other)
        ∙ sym (put-other (reported_state m).pending at i true other)
  ]

  written-state : reported_state (written m at octets) ≡ state_after_write (reported_state m) at octets
  written-state =
      State-ext (reported_state (written m at octets)) (state_after_write (reported_state m) at octets) seen
      durable pending

synced-state : (m : Moment) → reported_state (m.0, []) ≡ state_after_sync (reported_state m)
synced-state m =
    State-ext (reported_state (m.0, [])) (state_after_sync (reported_state m)) (λ i. refl) (λ i. refl) (λ i. refl)

-- ---- calls

module _ (it : ReportedValue) (after : DiskState) where
  abbrev m : Moment
  m = moment_before it.moments 0

  same-moment : after ≡ now (reported_disk it) → (next : Moment) × (reported_state next ≡ after)
  same-moment same = (m, sym (reported-now it) ∙ sym same)

  written-moment : (at : ℕ) (octets : List ℕ) → IsSector octets
      → after ≡ state_after_write (now (reported_disk it)) at octets
      → (next : Moment) × (reported_state next ≡ after)
  written-moment at octets whole is = (
    written m at octets,
    written-state m at octets whole
        ∙ ap (λ (s : DiskState). state_after_write s at octets) (sym (reported-now it)) ∙ sym is,
  )

  pub reportable : (asked : DeviceCall) (read : List ℕ) (answer : Result (Unit {0}) DeviceFault) → IsCall asked
      → DoesCall (now (reported_disk it)) after asked read answer → (next : Moment) × (reported_state next ≡ after)
  reportable (Read at) read answer call made = same-moment made.same
  reportable Sync read (Ok done) call made =
      ((m.0, []), synced-state m ∙ ap state_after_sync (sym (reported-now it)) ∙ sym made.ok)
  reportable Sync read (Err fault) call made = same-moment made.err
  reportable (Write at octets) read (Ok done) call made = written-moment at octets call.1 made.ok
  reportable (Write at octets) read (Err fault) call made = elim made.err [
    | inl same ↦ same-moment same
    | inr other ↦ written-moment at other.0 other.1 other.2
  ]
