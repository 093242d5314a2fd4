-- Sectors in which the journal of a new endpoint is written.
use Rattle.std.proofs.Common.{◌≡◌, ◌≢◌, ◌<◌, ◌≤◌, ◌+◌, ◌-◌, ◌∙◌, ◌∷◌, [], inl, inr, ℕ, List, Some, length, get_or, refl}
use Rattle.std.proofs.Common.{sym, ap, subst, arith}
use Rattle.std.specs.List.{slice_get}
use Rattle.std.proofs.lemmas.Bool.{cases_eq}
use Rattle.std.proofs.lemmas.Option.{slice_get_within}
use Rattle.macs_config.specs.Identity.{Identity}
use Rattle.macs_disk.specs.States.{Image}
use Rattle.macs_record.specs.Decoding.{IsSectorOf}
use Rattle.macs_record.specs.Gates.{IsOpen, closed_gate, open_gate}
use Rattle.macs_record.specs.Heads.{IsHeadOf}
use Rattle.macs_record.specs.Settings.{default_settings}
use Rattle.macs_record.specs.declared.record.Record.{Record}
use Rattle.macs_journal.specs.Areas.{gate, gates, least_sectors, slot_body}
use Rattle.macs_journal.specs.Formatting.{FormatWrites, first_content, first_head}
use Rattle.macs_journal.specs.Found.{HasJournal, IsGateOpen, IsNotFormatted}
use Rattle.macs_journal.specs.NewArea.{AreClosed, IsNoOpenGate}
use Rattle.macs_journal.proofs.Appends.{open_gate-opens, open_or_closed}
use Rattle.macs_c.specs.Formatted.{Formats, IsFilled}

-- ---- gates closed one by one

-- zeros close a gate
zeros-closed : ¬ IsOpen closed_gate
zeros-closed opens = absurd (let same : 0x4d ≡ 0 = ap (λ (sector : List ℕ). get_or sector 0 0) (sym opens.1) in
    omega (arith, same))

module _ (old mid new : Image) (k : ℕ) (so_far : (i : ℕ) → IsNoOpenGate old 0 1 k i → mid i ≡ old i)
    (others : (i : ℕ) → i ≢ gate 0 k → new i ≡ mid i) where
  -- the next gate reads as at the start
  next-gate : mid (gate 0 k) ≡ old (gate 0 k)
  next-gate = so_far (gate 0 k) (λ n le lt opens. omega (arith, lt))

  pub others-next : 1 ≤ k → ((¬ IsGateOpen mid 0 k) → (i : ℕ) → new i ≡ mid i) → (i : ℕ)
      → IsNoOpenGate old 0 1 (k + 1) i → new i ≡ old i
  others-next le shut i apart =
      let here : new i ≡ mid i = elim (cases_eq i (gate 0 k)) [
        | inl here ↦ shut (λ opens. apart k le (omega arith) (subst IsOpen next-gate opens) here) i
        | inr other ↦ others i other
      ] in
      here ∙ so_far i (λ n from lt. apart n from (omega (arith, lt)))

  pub closed-next : (IsGateOpen mid 0 k → new (gate 0 k) ≡ closed_gate) → AreClosed old mid 0 1 k
      → AreClosed old new 0 1 (k + 1)
  closed-next closes before n le lt opens = elim (cases_eq n k) [
    | inl same ↦
        subst (λ (n : ℕ). new (gate 0 n) ≡ closed_gate) (sym same)
        (closes (subst IsOpen (sym next-gate) (subst (λ (n : ℕ). IsGateOpen old 0 n) same opens)))
    | inr differs ↦
        others (gate 0 n) (omega (arith, differs)) ∙ before n le (omega (arith, lt, differs)) opens
  ]

-- no gate of a slot is open then
shut : (old new : Image) → ((i : ℕ) → IsNoOpenGate old 0 1 gates i → new i ≡ old i) → AreClosed old new 0 1 gates
    → (k : ℕ) → 1 ≤ k → k < gates → ¬ IsGateOpen new 0 k
shut old new others closed k le lt opens = elim (open_or_closed (old (gate 0 k))) [
  | inl was ↦ zeros-closed (subst IsOpen (closed k le lt was) opens)
  | inr not ↦
      let same : new (gate 0 k) ≡ old (gate 0 k) = others (gate 0 k) (λ n from below was here.
      not (subst (λ (n : ℕ). IsGateOpen old 0 n) (let one : n ≡ k = omega (arith, here) in one) was)) in
      not (subst IsOpen same opens)
]

-- ---- all that is written: a head, a record, closed gates, and an open one

module _ (a b c d e : Image) (identity : Identity) (head body : List ℕ)
    (is_head : IsHeadOf (first_head identity) head) (is_body : IsSectorOf default_settings body)
    (head_put : b 0 ≡ head) (head_others : (i : ℕ) → i ≢ 0 → b i ≡ a i)
    (body_put : c 2 ≡ body) (body_others : (i : ℕ) → i ≢ 2 → c i ≡ b i)
    (closed : AreClosed c d 0 1 gates) (closing_others : (i : ℕ) → IsNoOpenGate c 0 1 gates i → d i ≡ c i)
    (gate_put : e 1 ≡ open_gate) (gate_others : (i : ℕ) → i ≢ 1 → e i ≡ d i) where
  -- until they are closed gates read as at first
  gate-before : (k : ℕ) → c (gate 0 k) ≡ a (gate 0 k)
  gate-before k = body_others (gate 0 k) (omega arith) ∙ head_others (gate 0 k) (omega arith)

  -- a body stays as it was written
  body-stays : (i : ℕ) → ((k : ℕ) → i ≢ gate 0 k) → e i ≡ c i
  body-stays i apart = gate_others i (apart 0) ∙ closing_others i (λ k from below opens. apart k)

  stays : (i : ℕ) → (¬ FormatWrites a i) → e i ≡ a i
  stays i apart =
      gate_others i (λ here. apart (inl (inr (inr here))))
      ∙ closing_others i (λ k from below opens here.
      let slot : ℕ = k - 1 in
      let is : k ≡ slot + 1 = omega (arith, from) in
      apart (inr (
        slot,
        omega (arith, below, is),
        subst (λ (n : ℕ). IsGateOpen a 0 n) is (subst IsOpen (gate-before k) opens),
        omega (arith, here, is),
      )))
      ∙ body_others i (λ here. apart (inl (inr (inl here))))
      ∙ head_others i (λ here. apart (inl (inl here)))

  pub filled : IsFilled a identity e
  filled = record {
    head = subst (IsHeadOf (first_head identity))
        (sym (body-stays 0 (λ k. omega arith) ∙ body_others 0 (omega arith) ∙ head_put)) is_head;
    body = subst (IsSectorOf default_settings) (sym (body-stays 2 (λ k. omega arith) ∙ body_put)) is_body;
    opened = subst IsOpen (sym gate_put) open_gate-opens;
    shut = λ k from below opens. shut c d closing_others closed k from below
        (subst IsOpen (gate_others (gate 0 k) (omega (arith, from))) opens);
    others = stays;
  }

-- ---- what is found then

-- a format does not write the other head gate
pub not-written : (old : Image) → ¬ FormatWrites old (gate 1 0)
not-written old (inl (inl here)) = absurd (omega (arith, here))
not-written old (inl (inr (inl here))) = absurd (omega (arith, here))
not-written old (inl (inr (inr here))) = absurd (omega (arith, here))
not-written old (inr (slot, below, opens, here)) = absurd (omega (arith, below, here))

one_item : (r other : Record) (j : ℕ) → slice_get (r ∷ []) j ≡ Some other → (j ≡ 0) × (r ≡ other)
one_item r other j at =
    let within : j < length (r ∷ []) = slice_get_within (r ∷ []) j other at in
    let here : j ≡ 0 = omega (arith, within) in
    let there : Some r ≡ Some other = ap (slice_get (r ∷ [])) (sym here) ∙ at in
    (here, cc)

module _ (sectors : ℕ) (old : Image) (identity : Identity) (new : Image) (size : least_sectors ≤ sectors)
    (none : IsNotFormatted old) (is : IsFilled old identity new) where
  second-closed : ¬ IsGateOpen new 1 0
  second-closed opens = none.1 (subst IsOpen (is.others (gate 1 0) (not-written old)) opens)

  found : HasJournal new (first_content identity)
  found = record {
    stands = record {
      area = omega arith;
      head = record { open_gate = is.opened; is = is.head };
      snapshot = omega arith;
      few = omega arith;
      opened = λ j from lt. absurd (omega (arith, from, lt));
      closed = λ j from lt. is.shut (j + 1) (omega arith) (omega (arith, lt));
      bodies = λ j r at.
          let one = one_item default_settings r j at in
          subst (λ (x : Record). IsSectorOf x (new (slot_body 0 j))) one.1
          (subst (λ (k : ℕ). IsSectorOf default_settings (new (slot_body 0 k))) (sym one.0) is.body);
    };
    past = λ opens. absurd (second-closed opens);
  }

  pub formats : Formats sectors old identity new
  formats = record {
    blank = (size, none);
    formatted = record {
      stands = (size, record { content = first_content identity; found = found; stands = refl });
      format = record { content = first_content identity; found = found; is = refl };
    };
    journal = found;
    others = is.others;
  }
