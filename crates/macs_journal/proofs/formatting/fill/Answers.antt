use Rattle.std.proofs.Common.{◌≡◌, ◌≢◌, ℕ, inl, sym, ◌∙◌, subst}
use Rattle.macs_disk.specs.Disk.{IsHonest, now}
use Rattle.macs_disk.specs.Runs.{Leaves}
use Rattle.macs_disk.proofs.Moments.{Leaves-weaker}
use Rattle.macs_record.specs.Decoding.{IsSectorOf}
use Rattle.macs_record.specs.Gates.{IsOpen, open_gate}
use Rattle.macs_record.specs.Heads.{Head, IsHeadOf}
use Rattle.macs_record.specs.Settings.{default_settings}
use Rattle.macs_journal.specs.Areas.{gate, gates, head_body, slot_body}
use Rattle.macs_journal.specs.Formatting.{IsNewOrNone, first_head}
use Rattle.macs_journal.specs.Found.{IsNotFormatted}
use Rattle.macs_journal.specs.NewArea.{AreClosed, IsNoOpenGate, IsOldOrOpening}
use Rattle.macs_journal.specs.Work.{IsSpared}
use Rattle.macs_journal.proofs.HeadCalls.{open_gate-opens}
use Rattle.macs_journal.proofs.Closing.{leaves-bodies, leaves-closing, gates-last, leaves-first, ready-first}
use Rattle.macs_journal.proofs.Closing.{spared-bodies, spared-closing, spared-last}
use Rattle.macs_journal.proofs.formatting.fill.Given.{Over}
use Rattle.macs_journal.proofs.formatting.fill.Goals as goal
use Rattle.macs_journal.proofs.formatting.fill.Goals.{After-close_gates, After-open_head, After-write_bodies}

-- the area is the first
module _ (g : Over) (c : After-write_bodies g) (honest : IsHonest (g.D.SectorDisk.disk c.write_bodies.new.disk)) where
  bodies-others : (i : ℕ) → i ≢ head_body 0 → i ≢ slot_body 0 0
      → IsSpared (g.D.SectorDisk.disk c.args.disk.now) (g.D.SectorDisk.disk c.write_bodies.new.disk) i
  bodies-others =
      subst (λ (a : ℕ). (i : ℕ) → i ≢ head_body a → i ≢ slot_body a 0
      → IsSpared (g.D.SectorDisk.disk c.args.disk.now) (g.D.SectorDisk.disk c.write_bodies.new.disk) i)
      c.first-area.ensures (c.write_bodies.ensures.others honest)

module _ (g : Over) (c : After-close_gates g) (honest : IsHonest (g.D.SectorDisk.disk c.close_gates.new.disk)) where
  closing-others : (i : ℕ) → IsNoOpenGate (now (g.D.SectorDisk.disk c.write_bodies.new.disk)).seen 0 1 gates i
      → IsSpared (g.D.SectorDisk.disk c.write_bodies.new.disk) (g.D.SectorDisk.disk c.close_gates.new.disk) i
  closing-others =
      subst (λ (a : ℕ). (i : ℕ) → IsNoOpenGate (now (g.D.SectorDisk.disk c.write_bodies.new.disk)).seen a 1 gates i
      → IsSpared (g.D.SectorDisk.disk c.write_bodies.new.disk) (g.D.SectorDisk.disk c.close_gates.new.disk) i)
      c.first-area.ensures (c.close_gates.ensures.others honest)

module _ (g : Over) (c : After-open_head g) (honest : IsHonest (g.D.SectorDisk.disk c.open_head.new.disk)) where
  honest2 : IsHonest (g.D.SectorDisk.disk c.close_gates.new.disk)
  honest2 = sym c.open_head.ensures.work.works.honest ∙ honest

  honest1 : IsHonest (g.D.SectorDisk.disk c.write_bodies.new.disk)
  honest1 = sym c.close_gates.ensures.work.works.honest ∙ honest2

  opening-others : (i : ℕ) → i ≢ gate 0 0
      → IsSpared (g.D.SectorDisk.disk c.close_gates.new.disk) (g.D.SectorDisk.disk c.open_head.new.disk) i
  opening-others =
      subst (λ (a : ℕ). (i : ℕ) → i ≢ gate a 0
      → IsSpared (g.D.SectorDisk.disk c.close_gates.new.disk) (g.D.SectorDisk.disk c.open_head.new.disk) i)
      c.first-area.ensures (c.open_head.ensures.others honest)

  closed-gates : AreClosed (now (g.D.SectorDisk.disk c.write_bodies.new.disk)).seen
      (now (g.D.SectorDisk.disk c.close_gates.new.disk)).seen 0 1 gates
  closed-gates =
      subst (λ (a : ℕ). AreClosed (now (g.D.SectorDisk.disk c.write_bodies.new.disk)).seen
      (now (g.D.SectorDisk.disk c.close_gates.new.disk)).seen a 1 gates)
      c.first-area.ensures (c.in_ok-close_gates.ensures.closed honest2)

  head-body : IsHeadOf (first_head c.args.identity.now)
      ((now (g.D.SectorDisk.disk c.write_bodies.new.disk)).seen (head_body 0))
  head-body =
      subst (λ (a : ℕ). IsHeadOf (first_head c.args.identity.now)
      ((now (g.D.SectorDisk.disk c.write_bodies.new.disk)).seen (head_body a))) c.first-area.ensures
      (subst (λ (h : Head). IsHeadOf h ((now (g.D.SectorDisk.disk c.write_bodies.new.disk)).seen
      (head_body c.first-area.result))) c.first_head-head.ensures
      (c.in_ok-write_bodies.ensures.head honest1))

  record-body : IsSectorOf default_settings ((now (g.D.SectorDisk.disk c.write_bodies.new.disk)).seen (slot_body 0 0))
  record-body =
      subst (λ (a : ℕ). IsSectorOf default_settings
      ((now (g.D.SectorDisk.disk c.write_bodies.new.disk)).seen (slot_body a 0))) c.first-area.ensures
      (c.in_ok-write_bodies.ensures.body honest1)

pub returns-in_err-write_bodies-clause-images : goal.returns-in_err-write_bodies-clause-images
returns-in_err-write_bodies-clause-images g c honest blank =
    Leaves-weaker _ _ IsNotFormatted (IsNewOrNone c.args.identity.now) (λ image none. inl none)
    (leaves-bodies _ _ c.write_bodies.ensures.work.works
    (bodies-others g (goal.at.returns-in_err-write_bodies-clause-images g c).After-write_bodies honest) blank)

pub returns-in_err-close_gates-clause-images : goal.returns-in_err-close_gates-clause-images
returns-in_err-close_gates-clause-images g c honest blank =
    let path = goal.at.returns-in_err-close_gates-clause-images g c in
    let honest1 : IsHonest (g.D.SectorDisk.disk c.write_bodies.new.disk) =
    sym c.close_gates.ensures.work.works.honest ∙ honest in
    Leaves-weaker _ _ IsNotFormatted (IsNewOrNone c.args.identity.now) (λ image none. inl none)
    (leaves-closing _ _ c.write_bodies.ensures.work.works (bodies-others g path.After-write_bodies honest1)
    _ c.close_gates.ensures.work.works (closing-others g path.After-close_gates honest) blank)

pub returns-in_err-open_head-clause-images : goal.returns-in_err-open_head-clause-images
returns-in_err-open_head-clause-images g c honest blank =
    let path = goal.at.returns-in_err-open_head-clause-images g c in
    let o = path.After-open_head in
    leaves-first _ _ c.write_bodies.ensures.work.works (bodies-others g path.After-write_bodies (honest1 g o honest))
    _ c.close_gates.ensures.work.works (closing-others g path.After-close_gates (honest2 g o honest))
    c.args.identity.now blank (closed-gates g o honest) (head-body g o honest) (record-body g o honest)
    _ (subst (λ (a : ℕ). Leaves (g.D.SectorDisk.disk c.close_gates.new.disk) (g.D.SectorDisk.disk
    c.open_head.new.disk) (IsOldOrOpening (now (g.D.SectorDisk.disk c.close_gates.new.disk)) a))
    c.first-area.ensures (c.open_head.ensures.images honest))

pub returns-clause-images : goal.returns-clause-images
returns-clause-images g c honest blank =
    let path = goal.at.returns-clause-images g c in
    let o = path.After-open_head in
    leaves-first _ _ c.write_bodies.ensures.work.works (bodies-others g path.After-write_bodies (honest1 g o honest))
    _ c.close_gates.ensures.work.works (closing-others g path.After-close_gates (honest2 g o honest))
    c.args.identity.now blank (closed-gates g o honest) (head-body g o honest) (record-body g o honest)
    _ (subst (λ (a : ℕ). Leaves (g.D.SectorDisk.disk c.close_gates.new.disk) (g.D.SectorDisk.disk
    c.open_head.new.disk) (IsOldOrOpening (now (g.D.SectorDisk.disk c.close_gates.new.disk)) a))
    c.first-area.ensures (c.open_head.ensures.images honest))

pub returns-clause-done : goal.returns-clause-done
returns-clause-done g c honest blank =
    let path = goal.at.returns-clause-done g c in
    let o = path.After-open_head in
    let opens : IsOpen ((now (g.D.SectorDisk.disk c.open_head.new.disk)).seen (gate c.first-area.result 0)) =
    subst IsOpen (sym (c.in_ok-open_head.ensures.gate honest)) open_gate-opens in
    ready-first _ _ c.write_bodies.ensures.work.works (bodies-others g path.After-write_bodies (honest1 g o honest))
    _ c.close_gates.ensures.work.works (closing-others g path.After-close_gates (honest2 g o honest))
    c.args.identity.now blank (closed-gates g o honest) (head-body g o honest) (record-body g o honest)
    _ c.open_head.ensures.work.works (opening-others g o honest) (c.in_ok-open_head.ensures.settled honest)
    (subst (λ (a : ℕ). IsOpen ((now (g.D.SectorDisk.disk c.open_head.new.disk)).seen (gate a 0)))
    c.first-area.ensures opens)

pub returns-in_err-write_bodies-clause-others : goal.returns-in_err-write_bodies-clause-others
returns-in_err-write_bodies-clause-others g c honest =
    spared-bodies _ _ c.write_bodies.ensures.work.works
    (bodies-others g (goal.at.returns-in_err-write_bodies-clause-others g c).After-write_bodies honest)

pub returns-in_err-close_gates-clause-others : goal.returns-in_err-close_gates-clause-others
returns-in_err-close_gates-clause-others g c honest =
    let path = goal.at.returns-in_err-close_gates-clause-others g c in
    let honest1 : IsHonest (g.D.SectorDisk.disk c.write_bodies.new.disk) =
    sym c.close_gates.ensures.work.works.honest ∙ honest in
    spared-closing _ _ c.write_bodies.ensures.work.works (bodies-others g path.After-write_bodies honest1)
    _ c.close_gates.ensures.work.works (closing-others g path.After-close_gates honest)

pub returns-in_err-open_head-clause-others : goal.returns-in_err-open_head-clause-others
returns-in_err-open_head-clause-others g c honest =
    let path = goal.at.returns-in_err-open_head-clause-others g c in
    let o = path.After-open_head in
    spared-last _ _ c.write_bodies.ensures.work.works (bodies-others g path.After-write_bodies (honest1 g o honest))
    _ c.close_gates.ensures.work.works (closing-others g path.After-close_gates (honest2 g o honest)) _
    c.open_head.ensures.work.works (opening-others g o honest)

pub returns-clause-others : goal.returns-clause-others
returns-clause-others g c honest =
    let path = goal.at.returns-clause-others g c in
    let o = path.After-open_head in
    spared-last _ _ c.write_bodies.ensures.work.works (bodies-others g path.After-write_bodies (honest1 g o honest))
    _ c.close_gates.ensures.work.works (closing-others g path.After-close_gates (honest2 g o honest)) _
    c.open_head.ensures.work.works (opening-others g o honest)

pub returns-clause-gates : goal.returns-clause-gates
returns-clause-gates g c honest =
    let path = goal.at.returns-clause-gates g c in
    let o = path.After-open_head in
    gates-last _ _ c.write_bodies.ensures.work.works (bodies-others g path.After-write_bodies (honest1 g o honest))
    _ c.close_gates.ensures.work.works (closing-others g path.After-close_gates (honest2 g o honest)) _
    c.open_head.ensures.work.works (opening-others g o honest)
    (closed-gates g o honest) (subst (λ (a : ℕ). (now (g.D.SectorDisk.disk c.open_head.new.disk)).seen (gate a 0)
    ≡ open_gate) c.first-area.ensures (c.in_ok-open_head.ensures.gate honest))
