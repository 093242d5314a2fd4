-- Gates of an area closed one by one where they read open, and counted.
use Rattle.std.proofs.Common.{◌≡◌, ◌≢◌, ◌<◌, ◌≤◌, ◌⊎◌, ◌+◌, inl, inr, ℕ, zero, suc, refl, sym, ◌∙◌, ap, subst, arith}
use Rattle.std.proofs.Common.{List, get_or}
use Rattle.std.proofs.lemmas.Bool.{cases_eq}
use Rattle.macs_disk.specs.States.{Image}
use Rattle.macs_disk.specs.Disk.{Disk, Works, now}
use Rattle.macs_record.specs.Gates.{IsOpen, closed_gate, open_gate}
use Rattle.macs_journal.specs.Areas.{gate, gates}
use Rattle.macs_journal.specs.Compacting.{HasOpenGates}
use Rattle.macs_journal.specs.Found.{IsGateOpen}
use Rattle.macs_journal.specs.NewArea.{AreClosed, HasNewGates, IsNoOpenGate}
use Rattle.macs_journal.specs.Work.{IsSpared}
use Rattle.macs_journal.proofs.Appends.{open_or_closed}
use Rattle.macs_journal.proofs.Spared.{Spared-on, Spared-seen}

-- zeros close a gate
zeros-closed : ¬ IsOpen closed_gate
zeros-closed opens = absurd (let same : 0x4d ≡ 0 = ap (λ (sector : List ℕ). get_or sector 0 0) (sym opens.1) in
    omega (arith, same))

-- ---- how many read open

-- of no gates none
pub no-gates : (seen : Image) (area first count : ℕ) → first ≡ 0 → HasOpenGates seen area first count → count ≡ 0
unfolding HasOpenGates
no-gates seen area zero count is has = has
no-gates seen area (suc k) count is has = absurd (omega (arith, is))

-- of one gate more: it is open, or not
pub gate-counted : (seen : Image) (area k count : ℕ) → HasOpenGates seen area (k + 1) count
    → (IsGateOpen seen area k × ((before : ℕ) × (count ≡ before + 1) × HasOpenGates seen area k before))
    ⊎ ((¬ IsGateOpen seen area k) × HasOpenGates seen area k count)
unfolding HasOpenGates
gate-counted seen area k count has =
    let is : k + 1 ≡ suc k = omega arith in
    subst (λ (n : ℕ). HasOpenGates seen area n count) is has

-- there is a count
pub gates-counted : (seen : Image) (area upto : ℕ) → (count : ℕ) × HasOpenGates seen area upto count × (count ≤ upto)
unfolding HasOpenGates
gates-counted seen area zero = (0, refl, omega arith)
gates-counted seen area (suc k) =
    let below = gates-counted seen area k in
    elim (open_or_closed (seen (gate area k))) [
      | inl opens ↦ (below.0 + 1, inl (opens, (below.0, refl, below.1)), let le = below.2 in omega (arith, le))
      | inr closed ↦ (below.0, inr (closed, below.1), let le = below.2 in omega (arith, le))
    ]

-- and no other
pub gates-once : (seen : Image) (area upto a b : ℕ) → HasOpenGates seen area upto a
    → HasOpenGates seen area upto b → a ≡ b
unfolding HasOpenGates
gates-once seen area zero a b has_a has_b = has_a ∙ sym has_b
gates-once seen area (suc k) a b (inl (opens, (m, a_is, has_m))) (inl (opens_too, (n, b_is, has_n))) =
    a_is ∙ ap (λ (x : ℕ). x + 1) (gates-once seen area k m n has_m has_n) ∙ sym b_is
gates-once seen area (suc k) a b (inl (opens, (m, a_is, has_m))) (inr (closed, has_b)) = absurd (closed opens)
gates-once seen area (suc k) a b (inr (closed, has_a)) (inl (opens, (n, b_is, has_n))) = absurd (closed opens)
gates-once seen area (suc k) a b (inr (closed, has_a)) (inr (closed_too, has_b)) =
    gates-once seen area k a b has_a has_b

-- ---- one gate more

module _ (old mid new : Disk) (area from k : ℕ) (to_mid : Works old mid) (to_new : Works mid new)
    (so_far : (i : ℕ) → IsNoOpenGate (now old).seen area from k i → IsSpared old mid i)
    (others : (i : ℕ) → i ≢ gate area k → IsSpared mid new i) where
  -- it reads as at the start
  next-gate : (now mid).seen (gate area k) ≡ (now old).seen (gate area k)
  next-gate = Spared-seen old mid (gate area k) to_mid (so_far (gate area k) (λ n le lt opens. omega (arith, lt)))

  pub spared-next : from ≤ k → ((¬ IsGateOpen (now mid).seen area k) → (i : ℕ) → IsSpared mid new i)
      → (i : ℕ) → IsNoOpenGate (now old).seen area from (k + 1) i → IsSpared old new i
  spared-next le shut i apart =
      Spared-on old mid new i to_mid to_new (so_far i (λ n le lt. apart n le (omega (arith, lt))))
      (elim (cases_eq i (gate area k)) [
        | inl here ↦ shut (λ opens. apart k le (omega arith) (subst IsOpen next-gate opens) here) i
        | inr other ↦ others i other
      ])

  pub closed-next : (IsGateOpen (now mid).seen area k → (now new).seen (gate area k) ≡ closed_gate)
      → AreClosed (now old).seen (now mid).seen area from k → AreClosed (now old).seen (now new).seen area from (k + 1)
  closed-next closes before n le lt opens = elim (cases_eq n k) [
    | inl same ↦
        subst (λ (n : ℕ). (now new).seen (gate area n) ≡ closed_gate) (sym same)
        (closes (subst IsOpen (sym next-gate) (subst (λ (n : ℕ). IsGateOpen (now old).seen area n) same opens)))
    | inr differs ↦
        Spared-seen mid new (gate area n) to_new (others (gate area n) (omega (arith, differs)))
        ∙ before n le (omega (arith, lt, differs)) opens
  ]

  pub counted-next : ((¬ IsGateOpen (now mid).seen area k) → new.clock ≡ mid.clock + 1)
      → (IsGateOpen (now mid).seen area k → new.clock ≡ mid.clock + 2)
      → ((count : ℕ) → HasOpenGates (now old).seen area k count → mid.clock ≡ old.clock + (k + count))
      → (count : ℕ) → HasOpenGates (now old).seen area (k + 1) count → new.clock ≡ old.clock + (k + 1 + count)
  counted-next one two before count has = elim (gate-counted (now old).seen area k count has) [
    | inl opens ↦
        let here = two (subst IsOpen (sym next-gate) opens.0) in
        let is = opens.1.1 in
        let was = before opens.1.0 opens.1.2 in
        omega (arith, here, is, was)
    | inr shut ↦
        let here = one (λ opens. shut.0 (subst IsOpen next-gate opens)) in
        let was = before count shut.1 in
        omega (arith, here, was)
  ]

-- ---- all of them

-- no gate reads open then
pub shut : (old new : Disk) (area from : ℕ) → Works old new
    → ((i : ℕ) → IsNoOpenGate (now old).seen area from gates i → IsSpared old new i)
    → AreClosed (now old).seen (now new).seen area from gates → (k : ℕ) → from ≤ k → k < gates
    → ¬ IsGateOpen (now new).seen area k
shut old new area from works spared closed k le lt opens = elim (open_or_closed ((now old).seen (gate area k))) [
  | inl was ↦ zeros-closed (subst IsOpen (closed k le lt was) opens)
  | inr not ↦
      let same : (now new).seen (gate area k) ≡ (now old).seen (gate area k) =
      Spared-seen old new (gate area k) works (spared (gate area k) (λ n le lt was here.
      not (subst (λ (n : ℕ). IsGateOpen (now old).seen area n) (let one : n ≡ k = omega (arith, here) in one) was))) in
      not (subst IsOpen same opens)
]

-- and then that of the head was opened; what was written before and after the closing is no gate of a slot
pub new-gates : (old mid full new : Image) (area from : ℕ) → from ≤ 1
    → ((k : ℕ) → mid (gate area (k + 1)) ≡ old (gate area (k + 1)))
    → AreClosed mid full area from gates → ((k : ℕ) → new (gate area (k + 1)) ≡ full (gate area (k + 1)))
    → new (gate area 0) ≡ open_gate
    → HasNewGates old new area
new-gates old mid full new area from first before closed behind head = record {
  head = head;
  slot = λ slot lt opens. behind slot
      ∙ closed (slot + 1) (omega (arith, first)) (omega (arith, lt)) (subst IsOpen (sym (before slot)) opens);
}
