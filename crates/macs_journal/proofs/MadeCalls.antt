-- What the work under way makes of a device call, whoever made it.
use Rattle.std.proofs.Common.{◌≡◌, ◌<◌, ◌+◌, ◌↔◌, ℕ, refl, sym, ◌∙◌, ap, subst, true, false, List, length}
use Rattle.std.proofs.Common.{Option, Some, None, Result, Ok, Err, is_err, IsTrue, Bool}
use Rattle.macs_disk.specs.Disk.{Disk, IsDeviceCall, IsHonest, now}
use Rattle.macs_disk.specs.DeviceCalls.{DoesCall, IsMade}
use Rattle.macs_disk.specs.States.{DiskState, IsSound}
use Rattle.macs_disk.specs.declared.device_call.DeviceCall.{DeviceCall}
use Rattle.macs_disk.specs.declared.device_call.DeviceCall.TheVariants.{Read, Write, Sync}
use Rattle.macs_disk.specs.declared.disk.DeviceFault.{DeviceFault}
use Rattle.macs_record.specs.Gates.{IsOpen, closed_gate, open_gate}
use Rattle.macs_record.specs.Heads.{Head}
use Rattle.macs_record.specs.declared.record.Record.{Record}
use Rattle.macs_journal.specs.Appending.{DoesAppend, next_append}
use Rattle.macs_journal.specs.Areas.{gate, head_body, other_area, slot_body, slots}
use Rattle.macs_journal.specs.Halves.{IsCompactCall, append_call}
use Rattle.macs_journal.specs.Stages.{AtNextStage, AtStage, Does, IsCompactStage, IsUnderWay, next_stage}
use Rattle.macs_journal.specs.Stepping.{AdvancesAppend, AdvancesCompact, step_of}
use Rattle.macs_journal.specs.declared.appending.AppendStage.{AppendStage}
use Rattle.macs_journal.specs.declared.appending.AppendStage.TheVariants as append
use Rattle.macs_journal.specs.declared.compact_stage.CompactStage.{CompactStage}
use Rattle.macs_journal.specs.declared.compact_stage.CompactStage.TheVariants as stage
use Rattle.macs_journal.specs.declared.fault.JournalFault.{JournalFault}
use Rattle.macs_journal.specs.declared.under_way.Appending.{Appending}
use Rattle.macs_journal.specs.declared.under_way.Compacting.{Compacting}
use Rattle.macs_journal.specs.declared.under_way.UnderWay.{UnderWay}
use Rattle.macs_journal.specs.declared.under_way.UnderWay.TheVariants.{Append, Compact, Nothing}
use Rattle.macs_journal.specs.declared.place.Place.{Place}
use Rattle.macs_journal.specs.declared.work.JournalStep.{JournalStep}
use Rattle.macs_journal.specs.declared.work.JournalStep.TheVariants.{Finished, Going, Idle}
use Rattle.macs_journal.proofs.Advancing.{append-ends, append-goes_on, append-stops, compact-ends, compact-goes_on}
use Rattle.macs_journal.proofs.Advancing.{broke, compact-stops, faulty, journal_of, then_comes, went}
use Rattle.macs_journal.proofs.CompactionCalls.{new_place}
use Rattle.macs_journal.proofs.AppendCalls.{append-apart, append-left, append-next, left-next}
use Rattle.macs_journal.proofs.Holding.{GoesOn, LeavesEither, OfEachAppend}
use Rattle.macs_journal.proofs.Stages.{next-fits, next-left}
use Rattle.macs_journal.proofs.UnderWay.{call-next, call-under_way}
use Rattle.macs_journal.proofs.Working.{called, done-call}

-- what the device answered
abbrev pub fine : Result (Unit {0}) DeviceFault
fine = Ok tt

-- ---- what the call does is what its stage does

append-does : {T E : Type 0} (old new : DiskState) (area slot : ℕ) (octets read : List ℕ) (result : Result T E)
    → (s : AppendStage) → DoesCall old new (append_call area slot octets s) read result
    → DoesAppend old new area slot octets s result
append-does old new area slot octets read result append.Body does = does
append-does old new area slot octets read result append.BodySync does = does
append-does old new area slot octets read result append.Gate does = does
append-does old new area slot octets read result append.GateSync does = does

module _ {T E : Type 0} (old new : DiskState) (area : ℕ) (head : Head) (records : List Record) (read : List ℕ)
    (result : Result T E) (asked : DeviceCall) (does : DoesCall old new asked read result) where
  as-asked : (call : DeviceCall) → asked ≡ call → DoesCall old new call read result
  as-asked call is = subst (λ (a : DeviceCall). DoesCall old new a read result) is does

  compact-does : (s : CompactStage) → IsCompactCall area head records s asked
      → Does old new area head records s read result
  compact-does (stage.ReadGate k) is = as-asked (Read (gate area k)) is
  compact-does (stage.CloseGate k) is = as-asked (Write (gate area k) closed_gate) is
  compact-does stage.GatesSync is = as-asked Sync is
  compact-does stage.HeadBody is = (is.0, is.1, as-asked (Write (head_body area) is.0) is.2)
  compact-does (stage.Body slot) is = (is.0, is.1, as-asked (Write (slot_body area slot) is.0) is.2)
  compact-does stage.BodiesSync is = as-asked Sync is
  compact-does stage.HeadGate is = as-asked (Write (gate area 0) open_gate) is
  compact-does stage.HeadSync is = as-asked Sync is

-- ---- an append

module _ {D : Type 0} (disk_of : D → Disk) (sound : (d : D) → IsHonest (disk_of d) → IsSound (now (disk_of d)))
    (before later : D) (place : Place) (work : Appending) (room : place.free < slots) (read : List ℕ)
    (answer : Result (Unit {0}) DeviceFault)
    (asked : DeviceCall) (is : asked ≡ append_call place.area place.free work.sector work.stage)
    (made : IsMade (disk_of before) (disk_of later) asked read answer) where
  sound-before : IsHonest (disk_of later) → IsSound (now (disk_of before))
  sound-before honest = sound before (sym made.call.work.works.honest ∙ honest)

  does : IsHonest (disk_of later)
      → DoesAppend (now (disk_of before)) (now (disk_of later)) place.area place.free work.sector work.stage answer
  does honest =
      append-does (now (disk_of before)) (now (disk_of later)) place.area place.free work.sector read answer work.stage
      (subst (λ (a : DeviceCall). DoesCall (now (disk_of before)) (now (disk_of later)) a read answer) is
      (made.does honest))

  images : IsHonest (disk_of later)
      → OfEachAppend place work (now (disk_of before)) (LeavesEither (now (disk_of later)))
  images honest c r area slot of at =
      append-left (now (disk_of before)) (now (disk_of later)) c r place.area place.free work.sector area slot room of
      work.stage answer at (sound-before honest).fit (does honest)

  comes : answer ≡ fine → IsHonest (disk_of later)
      → OfEachAppend place work (now (disk_of before)) (GoesOn (now (disk_of later)) work (next_append work.stage))
  comes ok honest c r area slot of at =
      append-next (now (disk_of before)) (now (disk_of later)) c r place.area place.free work.sector area slot room of
      work.stage fine at
      (subst (λ (a : Result (Unit {0}) DeviceFault). DoesAppend (now (disk_of before)) (now (disk_of later)) place.area
      place.free work.sector work.stage a) ok (does honest))

  call : (next : Option AppendStage) → answer ≡ fine
      → IsDeviceCall (disk_of before) (disk_of later) (then_comes next)
  call next ok = called (disk_of before) (disk_of later) answer (then_comes next)
      (ap (λ (a : Result (Unit {0}) DeviceFault). is_err a) ok) made.call

  pub did-append-goes_on : answer ≡ fine → (s : AppendStage) → next_append work.stage ≡ Some s
      → AdvancesAppend disk_of (journal_of before place (Append work) false) went
      (journal_of later place (Append (record work { stage = s })) false)
  did-append-goes_on ok s next_is =
      append-goes_on disk_of before later place work
      (λ honest i body gate. append-apart (disk_of before) (disk_of later) place.area place.free work.sector answer i
      body gate (sound-before honest) made.call work.stage (does honest)) images (next_append work.stage)
      (call (next_append work.stage) ok) (comes ok) (left-next work.stage) s next_is

  pub did-append-ends : answer ≡ fine → next_append work.stage ≡ None
      → AdvancesAppend disk_of (journal_of before place (Append work) false) went
      (journal_of later (record place { free = place.free + 1 }) Nothing false)
  did-append-ends ok next_is =
      append-ends disk_of before later place work
      (λ honest i body gate. append-apart (disk_of before) (disk_of later) place.area place.free work.sector answer i
      body gate (sound-before honest) made.call work.stage (does honest)) images (next_append work.stage)
      (call (next_append work.stage) ok) (comes ok) (left-next work.stage) next_is

  pub did-append-stops : (fault : DeviceFault) → answer ≡ Err fault
      → AdvancesAppend disk_of (journal_of before place (Append work) false) broke (journal_of later place Nothing true)
  did-append-stops fault err =
      append-stops disk_of before later place work
      (λ honest i body gate. append-apart (disk_of before) (disk_of later) place.area place.free work.sector answer i
      body gate (sound-before honest) made.call work.stage (does honest)) images fault
      (called (disk_of before) (disk_of later) answer (faulty {Stage = AppendStage} fault)
      (ap (λ (a : Result (Unit {0}) DeviceFault). is_err a) err) made.call)

-- ---- a compaction

module _ {D : Type 0} (disk_of : D → Disk) (sound : (d : D) → IsHonest (disk_of d) → IsSound (now (disk_of d)))
    (before later : D) (place : Place) (work : Compacting) (records : List Record)
    (lent : length records ≡ work.head.count) (fits : IsCompactStage work.head.count work.stage) (read : List ℕ)
    (answer : Result (Unit {0}) DeviceFault)
    (asked : DeviceCall) (is : IsCompactCall (other_area place.area) work.head records work.stage asked)
    (made : IsMade (disk_of before) (disk_of later) asked read answer) where
  abbrev area : ℕ
  area = other_area place.area

  safe-before : IsHonest (disk_of later) → IsSound (now (disk_of before))
  safe-before honest = sound before (sym made.call.work.works.honest ∙ honest)

  within : IsCompactStage (length records) work.stage
  within = subst (λ (n : ℕ). IsCompactStage n work.stage) (sym lent) fits

  done : IsHonest (disk_of later)
      → Does (now (disk_of before)) (now (disk_of later)) area work.head records work.stage read answer
  done honest = compact-does (now (disk_of before)) (now (disk_of later)) area work.head records read answer asked
      (made.does honest) work.stage is

  under_way : IsHonest (disk_of later) → (began : Disk)
      → AtStage began (disk_of before) area work.head records work.stage
      → IsUnderWay began (disk_of later) area work.head records
  under_way honest began at =
      call-under_way began (disk_of before) (disk_of later) area work.head records read (safe-before honest) work.stage
      answer within at made.call (done honest)

  module _ (ok : answer ≡ fine) (opens : Bool) (test : IsTrue opens ↔ IsOpen read) where
    follows : IsDeviceCall (disk_of before) (disk_of later) fine
    follows = subst (λ (a : Result (Unit {0}) DeviceFault). IsDeviceCall (disk_of before) (disk_of later) a) ok
        made.call

    next : Option CompactStage
    next = next_stage (length records) work.stage opens

    leads : IsHonest (disk_of later) → (began : Disk)
        → AtStage began (disk_of before) area work.head records work.stage
        → AtNextStage began (disk_of later) area work.head records (next_stage (length records) work.stage opens)
    leads honest began at =
        call-next began (disk_of before) (disk_of later) area work.head records read (safe-before honest) work.stage
        opens fine test at follows (done-call (disk_of before) (disk_of later) fine follows)
        (subst (λ (a : Result (Unit {0}) DeviceFault). Does (now (disk_of before)) (now (disk_of later)) area work.head
        records work.stage read a) ok (done honest))

    asks : (n : Option CompactStage) → IsDeviceCall (disk_of before) (disk_of later) (then_comes n)
    asks n = called (disk_of before) (disk_of later) fine (then_comes n) refl follows

    same-next : (n : Option CompactStage) → next_stage work.head.count work.stage opens ≡ n
        → next_stage (length records) work.stage opens ≡ n
    same-next n is = ap (λ (count : ℕ). next_stage count work.stage opens) lent ∙ is

    pub did-compact-goes_on : (s : CompactStage) → next_stage work.head.count work.stage opens ≡ Some s
        → AdvancesCompact disk_of (journal_of before place (Compact work) false) records went
        (journal_of later place (Compact (record work { stage = s })) false)
    did-compact-goes_on s next_is =
        compact-goes_on disk_of before later place work records area refl under_way
        (next_stage (length records) work.stage opens) (asks (next_stage (length records) work.stage opens)) leads s
        (same-next (Some s) next_is) lent (next-fits (length records) work.stage opens within)
        (next-left (length records) work.stage opens within)

    pub did-compact-ends : next_stage work.head.count work.stage opens ≡ None
        → AdvancesCompact disk_of (journal_of before place (Compact work) false) records went
        (journal_of later (new_place (other_area place.area) work) Nothing false)
    did-compact-ends next_is =
        compact-ends disk_of before later place work records area refl under_way
        (next_stage (length records) work.stage opens) (asks (next_stage (length records) work.stage opens)) leads
        (same-next None next_is)

  pub did-compact-stops : (fault : DeviceFault) → answer ≡ Err fault
      → AdvancesCompact disk_of (journal_of before place (Compact work) false) records broke
      (journal_of later place Nothing true)
  did-compact-stops fault err =
      compact-stops disk_of before later place work records area refl under_way fault
      (called (disk_of before) (disk_of later) answer (faulty {Stage = CompactStage} fault)
      (ap (λ (a : Result (Unit {0}) DeviceFault). is_err a) err) made.call)

-- ---- where it is finished

pub is-empty : (under_way : UnderWay) → step_of under_way ≡ Finished → under_way ≡ Nothing
is-empty Nothing is = refl
is-empty (Append work) is = absurd cc
is-empty (Compact work) is = absurd cc

abbrev went_so : JournalStep → Result JournalStep JournalFault
went_so step = Ok step

pub is-finished : (step : JournalStep) → went_so step ≡ went_so Finished → step ≡ Finished
is-finished Idle is = absurd cc
is-finished Going is = absurd cc
is-finished Finished is = refl

-- ---- and where it is not

pub is-under_way : (under_way : UnderWay) → step_of under_way ≡ Going → ¬ (under_way ≡ Nothing)
is-under_way Nothing is none = absurd cc
is-under_way (Append work) is none = absurd cc
is-under_way (Compact work) is none = absurd cc

pub no-idle : (under_way : UnderWay) → ¬ (step_of under_way ≡ Idle)
no-idle Nothing is = absurd cc
no-idle (Append work) is = absurd cc
no-idle (Compact work) is = absurd cc

pub is-going : (step : JournalStep) → went_so step ≡ went_so Going → step ≡ Going
is-going Idle is = absurd cc
is-going Going is = refl
is-going Finished is = absurd cc

pub is-idle : (step : JournalStep) → went_so step ≡ went_so Idle → step ≡ Idle
is-idle Idle is = refl
is-idle Going is = absurd cc
is-idle Finished is = absurd cc
