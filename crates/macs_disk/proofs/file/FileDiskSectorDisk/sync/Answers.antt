use Rattle.std.proofs.Common.{◌≡◌, ◌&&◌, ◌∙◌, ap, sym, subst, get_or, refl, Ok, List, true, ℕ, Bool, false, Result, Err}
use Rattle.std.proofs.Common.{OnOk, OnErr}
use Rattle.std.specs.declared.snapshot.Snapshot.{Snapshot}
use Rattle.macs_disk.specs.Disk.{Syncs}
use Rattle.macs_disk.specs.FileDisks.{is_ready, keeps_disk, state_in_file, IsFoundAs}
use Rattle.macs_disk.specs.FileEvidence.{KeepsDisk}
use Rattle.macs_disk.specs.Files.{Behaves, FileState, IsSure, SyncsFile}
use Rattle.macs_disk.specs.declared.disk.DeviceFault.{DeviceFault}
use Rattle.macs_disk.specs.declared.layout.Layout.{Layout}
use Rattle.macs_disk.proofs.FileSectors.{state-clean, keeps-after-sync, syncs-file}
use Rattle.macs_disk.proofs.FileCalls.{clean-first, effect, file-call, fit-before, fit-through, through, two-step-call}
use Rattle.macs_disk.proofs.FoundAgain.{found-next, found-still, found-doubted, found-synced}
use Rattle.macs_disk.proofs.file.FileDiskSectorDisk.sync.Goals as goal

-- ---- a disk in a file after a call of it synced its file

-- a disk goes on to show its file as it was where the sync fails, and shows it as it came back else
module _ {F T E : Type 0} (file : F → FileState) (layout : Layout) (lent back : F) (shown new : Snapshot F) where
  fit-synced : (result : Result T E) → lent ≡ shown.value → (file back).behaves ≡ (file lent).behaves
      → (Behaves (file lent) → SyncsFile (file lent) (file back) result) → OnOk result (new.value ≡ back)
      → OnErr result (new ≡ shown)
      → keeps_disk layout (file new.value) ≡ keeps_disk layout (file shown.value)
  fit-synced (Ok x) went steady syncs came still = fit-through file layout lent back shown new went came
      (keeps-after-sync layout (file lent) (file back) steady x syncs)
  fit-synced (Err e) went steady syncs came still = ap (λ (s : Snapshot F). keeps_disk layout (file s.value)) still

  disk-synced : (result : Result T E) → lent ≡ shown.value → KeepsDisk layout (file shown.value)
      → (Behaves (file lent) → SyncsFile (file lent) (file back) result) → OnOk result (new.value ≡ back)
      → OnErr result (new ≡ shown)
      → Syncs (state_in_file layout (file shown.value)) (state_in_file layout (file new.value)) result
  disk-synced (Ok x) went keeps syncs came still =
      let before = subst (λ (f : F). KeepsDisk layout (file f)) (sym went) keeps in
      through file (λ s t. Syncs {E = E} s t (Ok x)) layout lent back shown new went came
      (syncs-file layout (file lent) (file back) x before.sure (syncs before.behaves))
  disk-synced (Err e) went keeps syncs came still =
      record { ok = tt; err = ap (λ (s : Snapshot F). state_in_file layout (file s.value)) still }

-- the file is found again after a sync
again-synced : {T E : Type 0} (layout : Layout) (sectors : ℕ) (old new : FileState) (result : Result T E)
    (stopped : Bool) → IsSure old → IsFoundAs layout sectors old
    → SyncsFile old new result → OnErr result (stopped ≡ true)
    → IsFoundAs layout sectors new × (stopped ≡ false → IsSure new)
again-synced layout sectors old new (Ok x) stopped sure is syncs stops = (
  found-synced layout sectors old new is (syncs.ok sure),
  λ _. ap (λ (f : FileState). f.is_sure) (syncs.ok sure) ∙ sure,
)
again-synced layout sectors old new (Err e) stopped sure is syncs stops = (
  found-doubted layout sectors old new is syncs.err,
  λ goes_on. absurd (let no : true ≡ false = sym stops ∙ goes_on in cc),
)

-- ---- of a settled file, which is left alone

pub returns-then-is_settled-clause-call : goal.returns-then-is_settled-clause-call
returns-then-is_settled-clause-call g c =
    let file = g.F.DiskFile.file in
    let old = c.args.self.now in
    let new = c.begin.new.self in
    file-call file old.layout new.layout old.past.items new.past.items old.shown new.shown old.sectors new.sectors
    old.clock new.clock old.failures new.failures
    (Ok tt) old.kept c.begin.ensures.layout c.in_ok-begin.ensures.past c.in_ok-begin.ensures.ok.0
    c.in_ok-begin.ensures.ok.1
    c.begin.ensures.sectors c.in_ok-begin.ensures.steady tt
    (ap (λ (s : Snapshot _). keeps_disk old.layout (file s.value)) c.begin.ensures.shown)

pub returns-then-is_settled-clause-effect : goal.returns-then-is_settled-clause-effect
returns-then-is_settled-clause-effect g c honest =
    let file = g.F.DiskFile.file in
    let old = c.args.self.now in
    let new = c.begin.new.self in
    let first = old.settled c.if-is_settled.true in
    let known = subst (λ (past : List (Snapshot _)). (keeps_disk new.layout (file new.shown.value)
    && is_ready new.layout new.sectors (file (get_or past 0 new.shown).value)) ≡ true)
    c.in_ok-begin.ensures.past honest in
    let clean = clean-first file new.layout new.sectors (keeps_disk new.layout (file new.shown.value)) old.past.items
    old.shown new.shown old.clock old.kept first known in
    let before =
    fit-before file old.layout new.layout old.shown.value old.shown.value new.shown _ c.begin.ensures.layout
    (ap (λ (s : Snapshot _). s.value) c.begin.ensures.shown)
    (λ _. keeps_disk old.layout (file old.shown.value)) honest in
    effect file (λ s t. Syncs {E = DeviceFault} s t (Ok tt)) old.layout new.layout old.past.items new.past.items
    old.shown new.shown old.clock new.clock old.kept new.kept c.begin.ensures.layout
    (record {
      ok = ap (λ (s : Snapshot _). state_in_file old.layout (file s.value)) c.begin.ensures.shown
          ∙ state-clean old.layout (file old.shown.value) before.suited before.sure
          (g.met.F.DiskFile.sound old.shown.value before.behaves) clean;
      err = tt;
    })

pub returns-then-is_settled-clause-again : goal.returns-then-is_settled-clause-again
returns-then-is_settled-clause-again g c found =
    let old = c.args.self.now in
    let new = c.begin.new.self in
    found-still g.F.DiskFile.file old.layout new.layout old.sectors new.sectors old.file new.file old.is_failed
    new.is_failed c.begin.ensures.layout c.begin.ensures.sectors
    c.begin.ensures.file (λ goes_on. sym c.begin.ensures.same ∙ goes_on) found

-- ---- a sync of the file

pub returns-clause-call : goal.returns-clause-call
returns-clause-call g c =
    let file = g.F.DiskFile.file in
    let old = c.args.self.now in
    let begun = c.begin.new.self in
    let new = c.sync_file.new.self in
    let result = c.sync_file.result in
    let does = c.sync_file.ensures in
    let fit = fit-synced file old.layout begun.file new.file begun.shown new.shown result
    (sym (begun.current c.in_ok-begin.ensures.live.1)) does.steady does.effect does.shown does.still in
    let begins = c.in_ok-begin.ensures in
    two-step-call file old begun new result c.begin.ensures.layout c.begin.ensures.sectors begins.past begins.ok.0
    begins.ok.1 begins.steady does.layout does.sectors does.past does.clock does.ok does.err
    (fit ∙ ap (λ (s : Snapshot _). keeps_disk old.layout (file s.value)) c.begin.ensures.shown)

pub returns-clause-effect : goal.returns-clause-effect
returns-clause-effect g c honest =
    let file = g.F.DiskFile.file in
    let old = c.args.self.now in
    let begun = c.begin.new.self in
    let new = c.sync_file.new.self in
    let result = c.sync_file.result in
    let does = c.sync_file.ensures in
    let went = sym (begun.current c.in_ok-begin.ensures.live.1) in
    let lay = does.layout ∙ c.begin.ensures.layout in
    let fit = fit-synced file old.layout begun.file new.file begun.shown new.shown result went does.steady does.effect
    does.shown does.still in
    let before =
    fit-before file old.layout new.layout begun.shown.value new.shown.value new.shown _ lay refl fit honest in
    effect file (λ s t. Syncs s t result) old.layout new.layout old.past.items new.past.items old.shown new.shown
    old.clock new.clock old.kept new.kept lay
    (subst (λ (s : Snapshot _). Syncs (state_in_file old.layout (file s.value))
    (state_in_file old.layout (file new.shown.value)) result) c.begin.ensures.shown
    (disk-synced file old.layout begun.file new.file begun.shown new.shown result went before does.effect does.shown
    does.still))

pub returns-clause-again : goal.returns-clause-again
returns-clause-again g c found =
    let file = g.F.DiskFile.file in
    let old = c.args.self.now in
    let begun = c.begin.new.self in
    let new = c.sync_file.new.self in
    let result = c.sync_file.result in
    let does = c.sync_file.ensures in
    found-next file old.layout new.layout old.sectors new.sectors old.file begun.file new.file new.file old.is_failed
    new.is_failed (does.layout ∙ c.begin.ensures.layout)
    (does.sectors ∙ c.begin.ensures.sectors) c.begin.ensures.file refl c.in_ok-begin.ensures.live.0 does.steady
    (λ behaves sure is. again-synced old.layout old.sectors (file begun.file) (file new.file) result new.is_failed sure
    is (does.effect behaves) does.stopped)
    found
