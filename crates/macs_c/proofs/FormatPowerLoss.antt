-- What a power loss leaves while the sectors of a new journal are written to a device.
use Rattle.std.proofs.Common.{◌≡◌, ◌≢◌, ◌≤◌, ◌⊎◌, ◌+◌, ◌∙◌, inl, inr, ℕ, Err, sym, subst, arith}
use Rattle.std.proofs.lemmas.Bool.{cases_eq}
use Rattle.macs_config.specs.Config.{this_edition}
use Rattle.macs_config.specs.Identity.{Identity}
use Rattle.macs_disk.specs.States.{DiskState, Image, IsImage}
use Rattle.macs_record.specs.Decoding.{IsSectorOf}
use Rattle.macs_record.specs.Gates.{IsOpen}
use Rattle.macs_record.specs.Heads.{IsHeadOf}
use Rattle.macs_journal.specs.Areas.{gate, head_body, other_area, slot_body}
use Rattle.macs_journal.specs.Formatting.{FormatWrites}
use Rattle.macs_journal.specs.Found.{Content, HasJournal, IsGateOpen}
use Rattle.macs_journal.specs.declared.fault.JournalFault.TheVariants.{NotFormatted}
use Rattle.macs_journal.proofs.Appends.{open_or_closed}
use Rattle.macs_store.specs.Found.{StandingIs}
use Rattle.macs_endpoint.specs.Formatting.{IsFormattedAs}
use Rattle.macs_c.specs.Formatted.{Formats, IsAtGate, IsBeforeGate, IsWritten}
use Rattle.macs_c.proofs.Filled.{not-written}

-- all that a format writes to is in the first area
in-first : (old : Image) (i : ℕ) → head_body 1 ≤ i → ¬ FormatWrites old i
in-first old i le (inl (inl here)) = absurd (omega (arith, le, here))
in-first old i le (inl (inr (inl here))) = absurd (omega (arith, le, here))
in-first old i le (inl (inr (inr here))) = absurd (omega (arith, le, here))
in-first old i le (inr (slot, below, opens, here)) = absurd (omega (arith, le, below, here))

module _ (sectors : ℕ) (old : Image) (identity : Identity) (new : Image)
    (formats : Formats sectors old identity new) where
  pub second-stays : (i : ℕ) → head_body 1 ≤ i → new i ≡ old i
  second-stays i le = formats.others i (in-first old i le)

  module _ (s : DiskState) (image : Image) where
    pub before-gate : IsBeforeGate old s → IsImage s image → StandingIs this_edition sectors image (Err NotFormatted)
    before-gate before left =
        let same : (area : ℕ) → area ≤ 1 → image (gate area 0) ≡ old (gate area 0) =
        λ area le. left.kept (gate area 0) (before.clean area le) ∙ before.durable area le in (
          formats.blank.0,
          (
            λ opens. formats.blank.1.0 (subst IsOpen (same 0 (omega arith)) opens),
            λ opens. formats.blank.1.1 (subst IsOpen (same 1 (omega arith)) opens),
          ),
        )

    pub after-gate : IsWritten new s → IsImage s image → IsFormattedAs sectors identity image
    after-gate written left =
        let same : (i : ℕ) → new i ≡ image i = λ i. sym (left.kept i (written.clean i) ∙ written.durable i) in
        let one : new ≡ image = λ j. λ (i : ℕ). same i j in
        subst (IsFormattedAs sectors identity) one formats.formatted

    module _ (at : IsAtGate new s) (left : IsImage s image) where
      same : (i : ℕ) → i ≢ gate 0 0 → image i ≡ new i
      same i apart = left.kept i (at.clean i apart) ∙ at.durable i apart

      second-closed : ¬ IsGateOpen new 1 0
      second-closed opens = formats.blank.1.1 (subst IsOpen (formats.others (gate 1 0) (not-written old)) opens)

      in-first-area : (c : Content) → HasJournal new c → c.area ≡ 0
      in-first-area c found = elim (cases_eq c.area 0) [
        | inl is ↦ is
        | inr not ↦
            let le : c.area ≤ 1 = found.stands.area in
            let second : c.area ≡ 1 = omega (arith, le, not) in
            absurd (second-closed (subst (λ (a : ℕ). IsGateOpen new a 0) second found.stands.head.open_gate))
      ]

      -- what is found once the gate is open
      still-found : IsGateOpen image 0 0 → (c : Content) → HasJournal new c → HasJournal image c
      still-found opens c found =
          let first : c.area ≡ 0 = in-first-area c found in
          let other : other_area c.area ≡ 1 = omega (arith, first) in
          record {
            stands = record {
              area = found.stands.area;
              head = record {
                open_gate = subst (λ (a : ℕ). IsGateOpen image a 0) (sym first) opens;
                is = subst (IsHeadOf c.head) (sym (same (head_body c.area) (omega (arith, first))))
                    found.stands.head.is;
              };
              snapshot = found.stands.snapshot;
              few = found.stands.few;
              opened = λ j from lt.
                  subst IsOpen (sym (same (gate c.area (j + 1)) (omega arith))) (found.stands.opened j from lt);
              closed = λ j from lt is.
                  found.stands.closed j from lt (subst IsOpen (same (gate c.area (j + 1)) (omega arith)) is);
              bodies = λ j r here.
                  subst (IsSectorOf r) (sym (same (slot_body c.area j) (omega arith))) (found.stands.bodies j r here);
            };
            past = λ is. absurd (second-closed (subst (λ (a : ℕ). IsGateOpen new a 0) other
                (subst IsOpen (same (gate (other_area c.area) 0) (omega (arith, other))) is)));
          }

      pub at-gate : StandingIs this_edition sectors image (Err NotFormatted) ⊎ IsFormattedAs sectors identity image
      at-gate = elim (open_or_closed (image (gate 0 0))) [
        | inl opens ↦
            let stands = formats.formatted.stands.1 in
            let format = formats.formatted.format in
            inr (record {
              stands = (
                formats.blank.0,
                record {
                  content = stands.content;
                  found = still-found opens stands.content stands.found;
                  stands = stands.stands;
                },
              );
              format = record {
                content = format.content;
                found = still-found opens format.content format.found;
                is = format.is;
              };
            })
        | inr not ↦ inl (
          formats.blank.0,
          (not, λ is. second-closed (subst IsOpen (same (gate 1 0) (omega arith)) is)),
        )
      ]
