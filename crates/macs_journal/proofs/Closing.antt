-- Which sectors are left alone while a disk is formatted, what is in the gates, and what a power loss leaves.
use Rattle.std.proofs.Common.{◌≡◌, ◌≢◌, ◌<◌, ◌≤◌, ◌+◌, ◌-◌, ◌∙◌, ◌∷◌, ⊎_elim, inl, inr, ℕ, sym, ap, subst, arith, []}
use Rattle.std.proofs.Common.{length, Some, refl}
use Rattle.std.specs.List.{slice_get}
use Rattle.std.proofs.lemmas.Option.{slice_get_within}
use Rattle.macs_config.specs.Identity.{Identity}
use Rattle.macs_disk.specs.States.{Image, DiskState, state_after_sync}
use Rattle.macs_disk.specs.Disk.{Disk, Works, now}
use Rattle.macs_disk.specs.Runs.{Leaves}
use Rattle.macs_disk.proofs.Moments.{Leaves-join, Leaves-now, Works-on}
use Rattle.macs_record.specs.Decoding.{IsSectorOf}
use Rattle.macs_record.specs.Gates.{IsOpen, open_gate}
use Rattle.macs_record.specs.Heads.{IsHeadOf}
use Rattle.macs_record.specs.Settings.{default_settings}
use Rattle.macs_record.specs.declared.record.Record.{Record}
use Rattle.macs_journal.specs.Appending.{IsReady}
use Rattle.macs_journal.specs.Areas.{gate, gates, head_body, slot_body}
use Rattle.macs_journal.specs.Formatting.{FormatWrites, IsBlank, IsNewOrNone, first_content, first_head}
use Rattle.macs_journal.specs.Found.{HasJournal, IsGateOpen, IsNotFormatted}
use Rattle.macs_journal.specs.NewArea.{AreClosed, HasNewGates, IsNoOpenGate, IsOldOrOpening, IsSettled}
use Rattle.macs_journal.specs.Work.{IsSpared}
use Rattle.macs_journal.proofs.Appends.{open_or_closed}
use Rattle.macs_journal.proofs.OpenGates.{new-gates, shut}
use Rattle.macs_journal.proofs.Spared.{Spared-on, Spared-seen, left-same}

-- ---- a disk both of whose head gates are closed

-- what reads give, once it is durable
pub blank-synced : (s : DiskState) → IsNotFormatted s.seen → IsBlank (state_after_sync s)
blank-synced s none = record { clean = λ area le. refl; fresh = λ area le. refl; closed = none }

-- runs that leave both gates alone
blank-leaves : (old new : Disk) → IsBlank (now old) → Works old new
    → ((area : ℕ) → area ≤ 1 → IsSpared old new (gate area 0)) → Leaves old new IsNotFormatted
blank-leaves old new blank works spared = record {
  works = works;
  each = λ image left. (
    λ opens. blank.closed.0 (subst IsOpen
        (left-same old new image (gate 0 0) (blank.clean 0 (omega arith)) (spared 0 (omega arith)) left) opens),
    λ opens. blank.closed.1 (subst IsOpen
        (left-same old new image (gate 1 0) (blank.clean 1 (omega arith)) (spared 1 (omega arith)) left) opens),
  );
}

-- ---- while a disk is formatted

one_item : (r other : Record) (j : ℕ) → slice_get (r ∷ []) j ≡ Some other → (j ≡ 0) × (r ≡ other)
one_item r other j at =
    let within : j < length (r ∷ []) = slice_get_within (r ∷ []) j other at in
    let here : j ≡ 0 = omega (arith, within) in
    let there : Some r ≡ Some other = ap (slice_get (r ∷ [])) (sym here) ∙ at in
    (here, cc)

-- the bodies were written
module _ (old mid : Disk) (to_mid : Works old mid) (bodies : (i : ℕ) → i ≢ head_body 0 → i ≢ slot_body 0 0
    → IsSpared old mid i) where
  pub spared-bodies : (i : ℕ) → (¬ FormatWrites (now old).seen i) → IsSpared old mid i
  spared-bodies i apart = bodies i (λ here. apart (inl (inl here))) (λ here. apart (inl (inr (inl here))))

  -- gates read as before
  gate-same : (k : ℕ) → (now mid).seen (gate 0 k) ≡ (now old).seen (gate 0 k)
  gate-same k = Spared-seen old mid (gate 0 k) to_mid (bodies (gate 0 k) (omega arith) (omega arith))

  pub leaves-bodies : IsBlank (now old) → Leaves old mid IsNotFormatted
  leaves-bodies blank =
      blank-leaves old mid blank to_mid (λ area le. bodies (gate area 0) (omega arith) (omega arith))

  -- and the gates of slots that read open were closed
  module _ (full : Disk) (to_full : Works mid full) (closing : (i : ℕ) → IsNoOpenGate (now mid).seen 0 1 gates i
      → IsSpared mid full i) where
    pub spared-closing : (i : ℕ) → (¬ FormatWrites (now old).seen i) → IsSpared old full i
    spared-closing i apart =
        Spared-on old mid full i to_mid to_full (spared-bodies i apart)
        (closing i (λ k le lt opens here.
        let slot = k - 1 in
        let is : k ≡ slot + 1 = omega (arith, le) in
        apart (inr (
          slot,
          omega (arith, lt, is),
          subst (λ (n : ℕ). IsGateOpen (now old).seen 0 n) is
              (subst IsOpen (gate-same k) opens),
          omega (arith, here, is),
        ))))

    head-gates : (area : ℕ) → area ≤ 1 → IsSpared mid full (gate area 0)
    head-gates area le = closing (gate area 0) (λ k from lt opens. omega (arith, le, from, lt))

    pub leaves-closing : IsBlank (now old) → Leaves old full IsNotFormatted
    leaves-closing blank =
        blank-leaves old full blank (Works-on old mid full to_mid to_full)
        (λ area le. Spared-on old mid full (gate area 0) to_mid to_full
        (bodies (gate area 0) (omega arith) (omega arith)) (head-gates area le))

    -- a sector that is no gate reads as before
    body-same : (i : ℕ) → ((k : ℕ) → i ≢ gate 0 k) → (now full).seen i ≡ (now mid).seen i
    body-same i apart = Spared-seen mid full i to_full (closing i (λ k le lt opens. apart k))

    -- only the head gate may still change
    module _ (identity : Identity) (blank : IsBlank (now old))
        (closed : AreClosed (now mid).seen (now full).seen 0 1 gates)
        (head_is : IsHeadOf (first_head identity) ((now mid).seen (head_body 0)))
        (body : IsSectorOf default_settings ((now mid).seen (slot_body 0 0))) where
      second-closed : (image : Image) → ((i : ℕ) → i ≢ gate 0 0 → image i ≡ (now full).seen i) → ¬ IsGateOpen image 1 0
      second-closed image same opens =
          let here : image (gate 1 0) ≡ (now old).durable (gate 1 0) =
          same (gate 1 0) (omega arith) ∙ Spared-seen mid full (gate 1 0) to_full (head-gates 1 (omega arith))
          ∙ Spared-seen old mid (gate 1 0) to_mid (bodies (gate 1 0) (omega arith) (omega arith))
          ∙ blank.fresh 1 (omega arith) in
          blank.closed.1 (subst IsOpen here opens)

      first-finds : (image : Image) → ((i : ℕ) → i ≢ gate 0 0 → image i ≡ (now full).seen i) → IsGateOpen image 0 0
          → HasJournal image (first_content identity)
      first-finds image same opens = record {
        stands = record {
          area = omega arith;
          head = record {
            open_gate = opens;
            is = subst (IsHeadOf (first_head identity))
                (sym (same 0 (omega arith) ∙ body-same 0 (λ k. omega arith))) head_is;
          };
          snapshot = omega arith;
          few = omega arith;
          opened = λ j from lt. absurd (omega (arith, from, lt));
          closed = λ j from lt is. shut mid full 0 1 to_full closing closed (j + 1) (omega arith) (omega (arith, lt))
              (subst IsOpen (same (gate 0 (j + 1)) (omega arith)) is);
          bodies = λ j r at.
              let one = one_item default_settings r j at in
              subst (λ (x : Record). IsSectorOf x (image (slot_body 0 j))) one.1
              (subst (λ (k : ℕ). IsSectorOf default_settings (image (slot_body 0 k))) (sym one.0)
              (subst (IsSectorOf default_settings) (sym (same (slot_body 0 0) (omega arith)
              ∙ body-same (slot_body 0 0) (λ k. omega arith))) body));
        };
        past = λ is. absurd (second-closed image same is);
      }

      pub leaves-first : (new : Disk) → Leaves full new (IsOldOrOpening (now full) 0)
          → Leaves old new (IsNewOrNone identity)
      leaves-first new opening =
          Leaves-join old full new IsNotFormatted (IsOldOrOpening (now full) 0) (IsNewOrNone identity)
          (leaves-closing blank) opening (λ image none. inl none)
          (λ image left.
          ⊎_elim (λ as_before. inl (Leaves-now old full IsNotFormatted (leaves-closing blank) image as_before))
          (λ same. elim (open_or_closed (image (gate 0 0))) [
            | inl opens ↦ inr (first-finds image same opens)
            | inr not ↦ inl (not, second-closed image same)
          ]) left)

      pub ready-first : (new : Disk) → Works full new → ((i : ℕ) → i ≢ gate 0 0 → IsSpared full new i)
          → IsSettled (now new)
          → IsGateOpen (now new).seen 0 0 → IsReady (now new) (first_content identity)
      ready-first new to_new opening stands opens = record {
        clean = stands.clean;
        fresh = stands.fresh;
        finds = first-finds (now new).durable
            (λ i apart. sym (stands.fresh i) ∙ Spared-seen full new i to_new (opening i apart))
            (subst IsOpen (stands.fresh (gate 0 0)) opens);
      }

    -- and the head gate was opened
    module _ (last : Disk) (to_last : Works full last) (opening : (i : ℕ) → i ≢ gate 0 0 → IsSpared full last i) where
      pub spared-last : (i : ℕ) → (¬ FormatWrites (now old).seen i) → IsSpared old last i
      spared-last i apart =
          Spared-on old full last i (Works-on old mid full to_mid to_full) to_last (spared-closing i apart)
          (opening i (λ here. apart (inl (inr (inr here)))))

      pub gates-last : AreClosed (now mid).seen (now full).seen 0 1 gates → (now last).seen (gate 0 0) ≡ open_gate
          → HasNewGates (now old).seen (now last).seen 0
      gates-last closed head =
          new-gates (now old).seen (now mid).seen (now full).seen (now last).seen 0 1 (omega arith)
          (λ k. gate-same (k + 1)) closed
          (λ k. Spared-seen full last (gate 0 (k + 1)) to_last (opening (gate 0 (k + 1)) (omega arith))) head

-- what is written of an image is written of one that is the same
pub writes-same : (old mid : Image) (i : ℕ) → mid ≡ old → (¬ FormatWrites old i) → ¬ FormatWrites mid i
writes-same old mid i same apart writes = apart (subst (λ (seen : Image). FormatWrites seen i) same writes)
