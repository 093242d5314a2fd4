-- The device calls of a compaction in their order.
use Rattle.std.proofs.Common.{◌≡◌, ◌≢◌, ◌==◌, ◌<◌, ◌≤◌, ◌⊎◌, ◌+◌, ◌-◌, inl, inr, ℕ, refl, sym, subst, arith, Bool, true}
use Rattle.std.proofs.Common.{false}
use Rattle.std.proofs.lemmas.Bool.{cases_eq, eq-eqb}
use Rattle.std.proofs.lemmas.Bool.Decides.{nat_tests}
use Rattle.macs_journal.specs.Areas.{gates}
use Rattle.macs_journal.specs.Stages.{IsCompactNext, IsCompactStage, body_from, compact_left, compact_left_next}
use Rattle.macs_journal.specs.Stages.{gate_from, next_stage}
use Rattle.macs_journal.specs.declared.compact_stage.CompactStage.{CompactStage}
use Rattle.macs_journal.specs.declared.compact_stage.CompactStage.TheVariants.{ReadGate, CloseGate, GatesSync, HeadBody}
use Rattle.macs_journal.specs.declared.compact_stage.CompactStage.TheVariants.{Body, BodiesSync, HeadGate, HeadSync}

pub gate_from-cases : (k : ℕ) → ((k ≡ gates) × (gate_from k ≡ GatesSync)) ⊎ ((k ≢ gates) × (gate_from k ≡ ReadGate k))
gate_from-cases k = elim (cases_eq k gates) [
  | inl is ↦ inl (is, let yes : (k == gates) ≡ true = eq-eqb k gates is in rw yes refl)
  | inr other ↦ inr (other, let no : (k == gates) ≡ false = grind (arith, nat_tests) in rw no refl)
]

pub body_from-cases : (count slot : ℕ)
    → ((slot ≡ count) × (body_from count slot ≡ BodiesSync)) ⊎ ((slot ≢ count) × (body_from count slot ≡ Body slot))
body_from-cases count slot = elim (cases_eq slot count) [
  | inl is ↦ inl (is, let yes : (slot == count) ≡ true = eq-eqb slot count is in rw yes refl)
  | inr other ↦ inr (other, let no : (slot == count) ≡ false = grind (arith, nat_tests) in rw no refl)
]

-- ---- its gate or slot is there

gate-fits : (count k : ℕ) → k < gates → IsCompactStage count (gate_from (k + 1))
gate-fits count k lt = elim (gate_from-cases (k + 1)) [
  | inl last ↦ subst (λ (s : CompactStage). IsCompactStage count s) (sym last.1) tt
  | inr more ↦ subst (λ (s : CompactStage). IsCompactStage count s) (sym more.1) (let differs = more.0 in
      omega (arith, lt, differs))
]

body-fits : (count slot : ℕ) → slot ≤ count → IsCompactStage count (body_from count slot)
body-fits count slot le = elim (body_from-cases count slot) [
  | inl last ↦ subst (λ (s : CompactStage). IsCompactStage count s) (sym last.1) tt
  | inr more ↦ subst (λ (s : CompactStage). IsCompactStage count s) (sym more.1) (let differs = more.0 in
      omega (arith, le, differs))
]

pub next-fits : (count : ℕ) (stage : CompactStage) (is_open : Bool) → IsCompactStage count stage
    → IsCompactNext count (next_stage count stage is_open)
next-fits count (ReadGate k) true fits = fits
next-fits count (ReadGate k) false fits = gate-fits count k fits
next-fits count (CloseGate k) is_open fits = gate-fits count k fits
next-fits count GatesSync is_open fits = tt
next-fits count HeadBody is_open fits = body-fits count 0 (omega arith)
next-fits count (Body slot) is_open fits = body-fits count (slot + 1) (omega (arith, fits))
next-fits count BodiesSync is_open fits = tt
next-fits count HeadGate is_open fits = tt
next-fits count HeadSync is_open fits = tt

-- ---- and fewer calls are left

gate-left : (count k : ℕ) → k < gates → compact_left count (gate_from (k + 1)) + 1 ≤ compact_left count (CloseGate k)
gate-left count k lt = elim (gate_from-cases (k + 1)) [
  | inl last ↦ subst (λ (s : CompactStage). compact_left count s + 1 ≤ compact_left count (CloseGate k)) (sym last.1)
      (omega (arith, lt))
  | inr more ↦ subst (λ (s : CompactStage). compact_left count s + 1 ≤ compact_left count (CloseGate k)) (sym more.1)
      (omega (arith, lt))
]

body-left : (count slot : ℕ) → slot ≤ count → compact_left count (body_from count slot) ≤ 3 + (count - slot)
body-left count slot le = elim (body_from-cases count slot) [
  | inl last ↦ subst (λ (s : CompactStage). compact_left count s ≤ 3 + (count - slot)) (sym last.1) (omega arith)
  | inr more ↦ subst (λ (s : CompactStage). compact_left count s ≤ 3 + (count - slot)) (sym more.1) (omega arith)
]

pub next-left : (count : ℕ) (stage : CompactStage) (is_open : Bool) → IsCompactStage count stage
    → compact_left_next count (next_stage count stage is_open) + 1 ≤ compact_left count stage
next-left count (ReadGate k) true fits = omega (arith, fits)
next-left count (ReadGate k) false fits = let less = gate-left count k fits in omega (arith, less)
next-left count (CloseGate k) is_open fits = gate-left count k fits
next-left count GatesSync is_open fits = omega arith
next-left count HeadBody is_open fits = let less = body-left count 0 (omega arith) in omega (arith, less)
next-left count (Body slot) is_open fits = let less = body-left count (slot + 1) (omega (arith, fits)) in
    omega (arith, less, fits)
next-left count BodiesSync is_open fits = omega arith
next-left count HeadGate is_open fits = omega arith
next-left count HeadSync is_open fits = omega arith

-- a call is left before each of them
pub some-left : (count : ℕ) (stage : CompactStage) → 1 ≤ compact_left count stage
some-left count (ReadGate k) = omega arith
some-left count (CloseGate k) = omega arith
some-left count GatesSync = omega arith
some-left count HeadBody = omega arith
some-left count (Body slot) = omega arith
some-left count BodiesSync = omega arith
some-left count HeadGate = omega arith
some-left count HeadSync = omega arith
