-- Device calls that close the gates of an area, one by one.
use Rattle.std.proofs.Common.{◌≡◌, ◌≢◌, ◌≤◌, ◌+◌, inl, inr, ℕ, refl, sym, ◌∙◌, ap, subst, arith}
use Rattle.macs_disk.specs.Disk.{Disk, Works, now}
use Rattle.macs_disk.specs.States.{DiskState, state_after_sync, state_after_write}
use Rattle.macs_disk.proofs.Images.{put-same}
use Rattle.macs_disk.proofs.Moments.{Works-on, Works-start}
use Rattle.macs_record.specs.Gates.{IsOpen, closed_gate}
use Rattle.macs_journal.specs.Areas.{gate, gates}
use Rattle.macs_journal.specs.Found.{IsGateOpen}
use Rattle.macs_journal.specs.NewArea.{AreClosed, IsNoOpenGate}
use Rattle.macs_journal.specs.Stages.{AreGatesClosed, IsCleared, IsClearing}
use Rattle.macs_journal.specs.Work.{IsSpared}
use Rattle.macs_journal.proofs.HeadCalls.{synced-settled}
use Rattle.macs_journal.proofs.OpenGates.{closed-next, counted-next, gate-counted, no-gates, shut, spared-next}
use Rattle.macs_journal.proofs.Spared.{Spared-on, Spared-seen, Spared-start}

-- before the first call
pub none-closed : (d : Disk) (area : ℕ) → AreGatesClosed d d area 0 0
none-closed d area = record {
  works = Works-start d;
  calls = λ opened has. let no = no-gates (now d).seen area 0 opened refl has in omega (arith, no);
  closed = λ k from lt. absurd (omega (arith, lt));
  spared = λ i apart. Spared-start d i;
}

module _ (began d : Disk) (area k more : ℕ) (at : AreGatesClosed began d area k more) where
  -- the next gate reads as at the start
  gate-reads : (now d).seen (gate area k) ≡ (now began).seen (gate area k)
  gate-reads = Spared-seen began d (gate area k) at.works (at.spared (gate area k) (λ n le lt opens. omega (arith, lt)))

  -- a call that writes none of the gates that read open but this one
  pub clearing : (new : Disk) → k ≤ gates → Works d new
      → ((i : ℕ) → IsNoOpenGate (now began).seen area 0 gates i → IsSpared d new i) → IsClearing began new area
  clearing new le works spares = record {
    works = Works-on began d new at.works works;
    spared = λ i apart. Spared-on began d new i at.works works
        (at.spared i (λ n from lt. apart n from (omega (arith, lt, le)))) (spares i apart);
  }

-- a gate is read
module _ (began d new : Disk) (area k : ℕ) (at : AreGatesClosed began d area k 0) (works : Works d new)
    (one : new.clock ≡ d.clock + 1)
    (same : now new ≡ now d) (spares : (i : ℕ) → IsSpared d new i) where
  pub read-open : IsGateOpen (now d).seen area k
      → AreGatesClosed began new area k 1 × IsGateOpen (now began).seen area k
  read-open opens = (
    record {
      works = Works-on began d new at.works works;
      calls = λ opened has. let was = at.calls opened has in omega (arith, was, one);
      closed = λ n le lt was. ap (λ (s : DiskState). s.seen (gate area n)) same ∙ at.closed n le lt was;
      spared = λ i apart. Spared-on began d new i at.works works (at.spared i apart) (spares i);
    },
    subst IsOpen (gate-reads began d area k 0 at) opens,
  )

  pub read-closed : (¬ IsGateOpen (now d).seen area k) → AreGatesClosed began new area (k + 1) 0
  read-closed not = record {
    works = Works-on began d new at.works works;
    calls = λ opened has.
        let is = counted-next began d new area 0 k at.works works at.spared (λ i apart. spares i) (λ shut. one)
        (λ opens. absurd (not opens))
        (λ count below. let was = at.calls count below in omega (arith, was)) opened has in
        omega (arith, is);
    closed = closed-next began d new area 0 k at.works works at.spared (λ i apart. spares i)
        (λ opens. absurd (not opens)) at.closed;
    spared =
        spared-next began d new area 0 k at.works works at.spared (λ i apart. spares i) (omega arith) (λ shut. spares);
  }

-- a gate is closed
pub gate-closed : (began d new : Disk) (area k : ℕ) → AreGatesClosed began d area k 1
    → IsGateOpen (now began).seen area k → Works d new → new.clock ≡ d.clock + 1
    → now new ≡ state_after_write (now d) (gate area k) closed_gate → ((i : ℕ) → i ≢ gate area k → IsSpared d new i)
    → AreGatesClosed began new area (k + 1) 0
gate-closed began d new area k at was_open works one is spares =
    let opens : IsGateOpen (now d).seen area k = subst IsOpen (sym (gate-reads began d area k 1 at)) was_open in
    record {
      works = Works-on began d new at.works works;
      calls = λ opened has. elim (gate-counted (now began).seen area k opened has) [
        | inl counted ↦
            let count = counted.1.1 in
            let was = at.calls counted.1.0 counted.1.2 in
            omega (arith, one, count, was)
        | inr not ↦ absurd (not.0 was_open)
      ];
      closed = closed-next began d new area 0 k at.works works at.spared spares
          (λ opens. ap (λ (s : DiskState). s.seen (gate area k)) is
          ∙ put-same (now d).seen (gate area k) (gate area k) closed_gate refl) at.closed;
      spared =
          spared-next began d new area 0 k at.works works at.spared spares (omega arith) (λ not. absurd (not opens));
    }

-- all of them are closed, and a sync is made
pub gates-synced : (began d new : Disk) (area : ℕ) → AreGatesClosed began d area gates 0 → Works d new
    → new.clock ≡ d.clock + 1
    → now new ≡ state_after_sync (now d) → ((i : ℕ) → IsSpared d new i) → IsCleared began new area
gates-synced began d new area at works one is spares = record {
  works = Works-on began d new at.works works;
  calls = λ opened has. let was = at.calls opened has in omega (arith, was, one);
  settled = synced-settled (now d) (now new) is;
  closed = subst (λ (s : DiskState). AreClosed (now began).seen s.seen area 0 gates) (sym is) at.closed;
  shut = λ k lt. subst (λ (s : DiskState). ¬ IsGateOpen s.seen area k) (sym is)
      (shut began d area 0 at.works at.spared at.closed k (omega arith) lt);
  spared = λ i apart. Spared-on began d new i at.works works (at.spared i apart) (spares i);
}
