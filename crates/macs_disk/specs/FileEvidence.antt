-- A disk in a file that behaves is sound. This is here and not among the proofs, since a ghost item can only cite the
-- specs of its own crate.
use Rattle.std.proofs.Common.{◌≡◌, ◌≤◌, ◌<◌, ◌+◌, ◌*◌, ◌/◌, ◌^◌, ◌==◌, ◌&&◌, ◌||◌, inl, inr, ℕ, zero, suc, Bool, true}
use Rattle.std.proofs.Common.{false, List, ◌∷◌, length, get_or, refl, arith, subst, sym}
use Rattle.std.proofs.lemmas.Bool.{cases_eq, cases_lt, and_parts}
use Rattle.std.proofs.lemmas.Bool.Decides.{nat_tests}
use Rattle.std.proofs.lemmas.List.{get_or_past}
use Rattle.std.proofs.lemmas.List.FromFn.{length-map-range_with_len, get_or-map-range_with_len}
use Rattle.std.specs.declared.snapshot.Snapshot.{Snapshot}
use Rattle.macs_disk.specs.States.{IsSector, IsSound}
use Rattle.macs_disk.specs.Files.{FileState, Behaves, IsSure, IsSoundFile, values_from}
use Rattle.macs_disk.specs.FileDisks.{is_ready, keeps_disk, state_in_file}
use Rattle.macs_disk.specs.Layouts.{place, suits}
use Rattle.macs_disk.specs.declared.layout.Layout.{Layout}
use Rattle.macs_disk.specs.declared.layout.Layout.TheVariants.{Packed, Spaced}

pub length-values : (f : ℕ → ℕ) (at count : ℕ) → length (values_from f at count) ≡ count
unfolding values_from
length-values f at count = length-map-range_with_len f at count

pub value-at : (f : ℕ → ℕ) (at count i d : ℕ) → i < count → get_or (values_from f at count) i d ≡ f (at + i)
unfolding values_from
value-at f at count i d lt = get_or-map-range_with_len f at count i (at + i) d lt refl

pub values-sector : (f : ℕ → ℕ) (at : ℕ) → ((p : ℕ) → f p < 2 ^ 8) → IsSector (values_from f at 512)
values-sector f at small = record {
  size = length-values f at 512;
  octets = λ i. elim (cases_lt i 512) [
    | inl lt ↦ subst (λ (v : ℕ). v < 2 ^ 8) (sym (value-at f at 512 i 0 lt)) (small (at + i))
    | inr past ↦ subst (λ (v : ℕ). v < 2 ^ 8)
        (sym (get_or_past (values_from f at 512) i 0 (subst (λ (n : ℕ). n ≤ i) (sym (length-values f at 512)) past)))
        (omega arith)
  ];
}

-- functions that agree on a range
same_first : (f g : ℕ → ℕ) (at n : ℕ) → ((i : ℕ) → i < suc n → f (at + i) ≡ g (at + i)) → f at ≡ g at
same_first f g at n same = let zero_more : at + 0 ≡ at = omega arith in
    subst (λ (p : ℕ). f p ≡ g p) zero_more (same 0 (omega arith))

same_rest : (f g : ℕ → ℕ) (at n : ℕ) → ((i : ℕ) → i < suc n → f (at + i) ≡ g (at + i)) → (i : ℕ) → i < n
    → f ((at + 1) + i) ≡ g ((at + 1) + i)
same_rest f g at n same i lt = let next : at + (1 + i) ≡ (at + 1) + i = omega arith in
    subst (λ (p : ℕ). f p ≡ g p) next (same (1 + i) (omega (arith, lt)))

pub values-same : (f g : ℕ → ℕ) (at count : ℕ) → ((i : ℕ) → i < count → f (at + i) ≡ g (at + i))
    → values_from f at count ≡ values_from g at count
unfolding values_from
values-same f g at zero same = refl
values-same f g at (suc n) same =
    λ j. same_first f g at n same j ∷ values-same f g (at + 1) n (same_rest f g at n same) j

-- a sector is at the start of a device block, and is no longer than the block
pub record StandsAt (block number place : ℕ) : Type 0 where
  pub front : place ≡ block * number
  pub long : 512 ≤ block

pub is_same : (a b : ℕ) → (a == b) ≡ true → a ≡ b
is_same a b is = elim (cases_eq a b) [
  | inl same ↦ same
  | inr other ↦ absurd (let no : (a == b) ≡ false = grind (arith, nat_tests) in cc)
]

on_large : (block i : ℕ) → (block == 4096) ≡ true → StandsAt block (4096 * i / block) (4096 * i)
on_large block i is = subst (λ (b : ℕ). StandsAt b (4096 * i / b) (4096 * i)) (sym (is_same block 4096 is))
    (record { front = omega arith; long = omega arith })

on_small : (block i : ℕ) → (block == 512) ≡ true → StandsAt block (4096 * i / block) (4096 * i)
on_small block i is = subst (λ (b : ℕ). StandsAt b (4096 * i / b) (4096 * i)) (sym (is_same block 512 is))
    (record { front = omega arith; long = omega arith })

on_either : (block i : ℕ) (is_small : Bool) → (block == 512) ≡ is_small → (is_small || (block == 4096)) ≡ true
    → StandsAt block (4096 * i / block) (4096 * i)
on_either block i true is suited = on_small block i is
on_either block i false is suited = on_large block i suited

pub stands-at : (layout : Layout) (block i : ℕ) → suits layout block ≡ true
    → StandsAt block (place layout i / block) (place layout i)
stands-at Packed block i suited = subst (λ (b : ℕ). StandsAt b (512 * i / b) (512 * i)) (sym (is_same block 512 suited))
    (record { front = omega arith; long = omega arith })
stands-at Spaced block i suited = on_either block i (block == 512) refl suited

-- the sectors of a sound file are sound
pub state-sound : (layout : Layout) (file : FileState) → suits layout file.block ≡ true → IsSoundFile file
    → IsSound (state_in_file layout file)
unfolding state_in_file
state-sound layout file suited sound = record {
  fit = record {
    kept = λ i clean.
        let stands = stands-at layout file.block i suited in
        let long = stands.long in
        values-same file.seen file.durable (place layout i) 512
        (λ k lt. subst (λ (p : ℕ). file.seen (p + k) ≡ file.durable (p + k)) (sym stands.front)
        (sound.shown (place layout i / file.block) k clean (omega (arith, lt, long))));
    whole = λ i _. values-sector file.seen (place layout i) sound.seen;
  };
  seen = λ i. values-sector file.seen (place layout i) sound.seen;
  durable = λ i. values-sector file.durable (place layout i) sound.durable;
}

-- what holds of the file of an honest disk
pub record KeepsDisk (layout : Layout) (file : FileState) : Type 0 where
  pub behaves : Behaves file
  pub sure : IsSure file
  pub suited : suits layout file.block ≡ true

pub keeps : (layout : Layout) (file : FileState) → keeps_disk layout file ≡ true → KeepsDisk layout file
keeps layout file honest =
    let all = and_parts (file.behaves && file.is_sure) (suits layout file.block) honest in
    let first = and_parts file.behaves file.is_sure all.0 in
    record { behaves = first.0; sure = first.1; suited = all.1 }

-- a disk in a file that behaves is sound
pub file-sound : {F : Type 0} (file : F → FileState) → ((it : F) → Behaves (file it) → IsSoundFile (file it))
    → (layout : Layout) (shown : Snapshot F) (past : List (Snapshot F)) (clock sectors : ℕ) → length past ≡ clock
    → (keeps_disk layout (file shown.value) && is_ready layout sectors (file (get_or past 0 shown).value)) ≡ true
    → IsSound (state_in_file layout (file (get_or past clock shown).value))
file-sound file sound layout shown past clock sectors kept honest =
    let same : get_or past clock shown ≡ shown = get_or_past past clock shown (omega (arith, kept)) in
    let k = keeps layout (file shown.value)
    (and_parts _ (is_ready layout sectors (file (get_or past 0 shown).value)) honest).0 in
    rw same (state-sound layout (file shown.value) k.suited (sound shown.value k.behaves))
