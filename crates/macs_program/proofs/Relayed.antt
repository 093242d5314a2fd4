-- What a relay comes to, between two wires that are new; and how it is refused for an address.
use Rattle.std.proofs.Common.{◌≡◌, ◌≢◌, ◌↔◌, ◌⊎◌, ◌∙◌, ℕ, Bool, true, false, List, Option, Result, Ok, Err, IfErr, IfOk}
use Rattle.std.proofs.Common.{ap, inl, inr, refl, subst, sym}
use Rattle.std.specs.Io.KnownBytes.{Appends}
use Rattle.macs_disk.specs.Disk.{Disk}
use Rattle.macs_disk.specs.FileDisks.{disk_in_file}
use Rattle.macs_disk.specs.Files.{FileState}
use Rattle.macs_edge.specs.Attending.{IsAttended}
use Rattle.macs_edge.specs.Relaying.{empty_lane, relay_of}
use Rattle.macs_edge.specs.declared.attending.DeskEvent.{DeskEvent}
use Rattle.macs_edge.specs.Wires.{WireState}
use Rattle.macs_edge.specs.declared.relaying.RelaySummary.{RelaySummary}
use Rattle.macs_endpoint.specs.Value.{EndpointValue}
use Rattle.macs_endpoint.specs.declared.fault.RefillFault.{RefillFault}
use Rattle.macs_endpoint.specs.declared.fault.RefillFault.TheVariants as refill
use Rattle.macs_endpoint.specs.declared.fault.RestFault.{RestFault}
use Rattle.macs_endpoint.specs.declared.fault.RestFault.TheVariants as rest
use Rattle.macs_journal.specs.declared.fault.JournalFault.{JournalFault}
use Rattle.macs_journal.specs.declared.fault.JournalFault.TheVariants as journal
use Rattle.macs_fields.specs.First.{IsFirst}
use Rattle.macs_cli.specs.declared.words.action.WireEnds.{WireEnds}
use Rattle.macs_cli.specs.declared.words.pace.Running.{Running}
use Rattle.macs_cli.proofs.FirstFault.{first-holds}
use Rattle.macs_offline.proofs.Failures.{disk-no-output, of-opening}
use Rattle.macs_offline.proofs.Tried.{of-look}
use Rattle.macs_cli.specs.Addresses.{AddressFaultHolds, SpellsBoth, address_faults}
use Rattle.macs_offline.specs.Openings.{OpeningFails}
use Rattle.macs_cli.specs.Failing.{failure_of_journal, failure_of_refill, failure_status}
use Rattle.macs_program.specs.Relaying.{ComesTo, Course, Ends, IsAfterAddresses, IsOfRelay, IsRun, IsUnbound}
use Rattle.macs_program.specs.Relaying.{RelayFailsIn, RelayedAs, Reports, RestsIf, course_of, course_with, is_attended}
use Rattle.macs_program.specs.Relaying.{new_wire, rest_result, summary_after}
use Rattle.macs_program.specs.Summing.{relay_line}
use Rattle.macs_program.specs.Tasks.{DoesRelay, IsRunIn, IsRunOn}
use Rattle.macs_control.specs.KeptDisks.{KeptDiskValue, kept_disk}
use Rattle.macs_program.specs.KeptRelays.{ComesToKept, HasNoWires, RelayFailsKept}
use Rattle.macs_cli.specs.declared.addresses.AddressFault.{AddressFault}
use Rattle.macs_cli.specs.declared.failure.DiskFault.{DiskFault}
use Rattle.macs_cli.specs.declared.failure.DiskFault.TheVariants as disk
use Rattle.macs_cli.specs.declared.failure.Failure.{Failure}
use Rattle.macs_cli.specs.declared.failure.Failure.TheVariants as failures
use Rattle.macs_cli.specs.declared.failure.Failure.TheVariants.{Address}
use Rattle.macs_cli.specs.declared.status.Status.{Status}
use Rattle.macs_cli.specs.declared.status.Status.TheVariants as ends

-- ---- wires that are new

pub between-new : {D : Type 0} (disk_of : D → Disk) (turns : ℕ) (old new : EndpointValue D)
    (first second controlled common : WireState) (events : List DeskEvent) (answer : Result RelaySummary RefillFault)
    → first ≡ new_wire → second ≡ new_wire
    → IsAttended disk_of turns (relay_of old first second empty_lane empty_lane) events answer new controlled common
    → IsAttended disk_of turns (relay_of old new_wire new_wire empty_lane empty_lane) events answer new controlled common
between-new disk_of turns old new first second controlled common events answer one other attended =
    subst (λ (w : WireState).
    IsAttended disk_of turns (relay_of old w new_wire empty_lane empty_lane) events answer new controlled common) one
    (subst (λ (w : WireState).
    IsAttended disk_of turns (relay_of old first w empty_lane empty_lane) events answer new controlled common) other
    attended)

-- ---- ends

module _ {D : Type 0} (disk_of : D → Disk) (is planned : Bool) (summary : RelaySummary) (old new : EndpointValue D)
    (so : is ≡ planned) where
  -- a planned end, with the result of its rest
  pub ends-rested : (rested : Result (Unit {0}) Failure) (result : Result RelaySummary Failure) → is ≡ true
      → RestsIf disk_of true old rested new → result ≡ summary_after summary rested
      → Ends disk_of planned (Ok summary) old result new
  ends-rested rested result true-is rests gives = (
    rested,
    subst (λ (b : Bool). RestsIf disk_of b old rested new) (sym true-is ∙ so) rests,
    gives,
  )

  -- an end that is not planned
  pub ends-unrested : is ≡ false → new ≡ old → Ends disk_of planned (Ok summary) old (Ok summary) new
  ends-unrested false-is same = (
    Ok tt,
    subst (λ (b : Bool). RestsIf disk_of b old (Ok tt) new) (sym false-is ∙ so) (refl, same),
    refl,
  )

-- ---- failures of a relay

abbrev IsOfDisk : Failure → Type 0
IsOfDisk failure = (fault : DiskFault) × (failure ≡ failures.Disk fault)

of-refill : (fault : RefillFault) → IsOfDisk (failure_of_refill fault)
of-refill refill.Stopped = (disk.Journal journal.Stopped, refl)
of-refill refill.Busy = (disk.Journal journal.Disk, refl)
of-refill refill.GenerationsSpent = (disk.Journal journal.GenerationsSpent, refl)
of-refill refill.Disk = (disk.Journal journal.Disk, refl)

of-rest : (answer : Result (Unit {0}) RestFault) (failure : Failure) → rest_result answer ≡ Err failure
    → IsOfDisk failure
of-rest (Ok done) failure is = absurd (let e = is in cc)
of-rest (Err rest.Stopped) failure is = (disk.Journal journal.Stopped, let e = is in cc)
of-rest (Err rest.Busy) failure is = absurd (let e = is in cc)
of-rest (Err rest.GenerationsSpent) failure is = absurd (let e = is in cc)
of-rest (Err rest.Disk) failure is = (disk.Journal journal.Disk, let e = is in cc)

no-summary : (summary : RelaySummary) (rested : Result (Unit {0}) Failure) (failure : Failure)
    → Err failure ≡ summary_after summary rested → rested ≡ Err failure
no-summary summary (Ok done) failure is = absurd (let e = is in cc)
no-summary summary (Err other) failure is = let same : other ≡ failure = (let e = is in cc) in ap Err same

of-end : {D : Type 0} (disk_of : D → Disk) (planned : Bool) (answer : Result RelaySummary RefillFault)
    (old : EndpointValue D) (failure : Failure) (new : EndpointValue D)
    → Ends disk_of planned answer old (Err failure) new → IsOfDisk failure
of-end disk_of planned (Err fault) old failure new (is, same) =
    let e : failure ≡ failure_of_refill fault = cc in subst IsOfDisk (sym e) (of-refill fault)
of-end disk_of true (Ok summary) old failure new (rested, (answer, call, gives), is) =
    of-rest answer failure (sym gives ∙ no-summary summary rested failure is)
of-end disk_of false (Ok summary) old failure new (rested, (gives, same), is) =
    absurd (let e = sym gives ∙ no-summary summary rested failure is in cc)

-- such failures are ones of a relay, and no wrong usage
behind-of-relay : (failure : Failure) → IsAfterAddresses failure → IsOfRelay failure
behind-of-relay (failures.Disk fault) is = tt
behind-of-relay failures.Wire is = tt
behind-of-relay failures.Control is = tt
behind-of-relay failures.Memory is = tt
behind-of-relay failures.Output is = tt
behind-of-relay (failures.Usage cause) is = absurd is
behind-of-relay (failures.Value fault) is = absurd is
behind-of-relay (failures.Address fault) is = tt
behind-of-relay failures.Capture is = absurd is
behind-of-relay failures.Random is = absurd is
behind-of-relay (failures.Said cause) is = absurd is
behind-of-relay (failures.DiskFile cause) is = absurd is
behind-of-relay failures.OtherEnd is = absurd is
behind-of-relay (failures.Link refusal) is = absurd is
behind-of-relay failures.Commands is = absurd is
behind-of-relay (failures.Input fault) is = absurd is

behind-no-usage : (failure : Failure) → IsAfterAddresses failure → failure_status failure ≢ ends.Usage
behind-no-usage (failures.Disk fault) is = λ e. cc
behind-no-usage failures.Wire is = λ e. cc
behind-no-usage failures.Control is = λ e. cc
behind-no-usage failures.Memory is = λ e. cc
behind-no-usage failures.Output is = λ e. cc
behind-no-usage (failures.Usage cause) is = absurd is
behind-no-usage (failures.Value fault) is = absurd is
behind-no-usage (failures.Address fault) is = absurd is
behind-no-usage failures.Capture is = absurd is
behind-no-usage failures.Random is = absurd is
behind-no-usage (failures.Said cause) is = absurd is
behind-no-usage (failures.DiskFile cause) is = absurd is
behind-no-usage failures.OtherEnd is = absurd is
behind-no-usage (failures.Link refusal) is = absurd is
behind-no-usage failures.Commands is = absurd is
behind-no-usage (failures.Input fault) is = absurd is

-- where the addresses are ones, and what fails comes after them, no fault of an address is reported, and none is there
no-address : {T U : Type 0} (Holds : AddressFault → Type 0) (order : List AddressFault)
    (before : Result T AddressFault) (value : T)
    (after : Result U Failure) → before ≡ Ok value → IfErr after IsAfterAddresses
    → ((fault : AddressFault) → (before ≡ Err fault) ↔ IsFirst Holds order fault)
    → (fault : AddressFault) → (after ≡ Err (Address fault)) ↔ IsFirst Holds order fault
no-address {T} {U} Holds order before value after was behind exactly fault = (
  λ told. absurd (subst (λ (r : Result U Failure). IfErr r IsAfterAddresses) told behind),
  λ first. let e = (exactly fault).1 first in cc,
)

-- the fault of an address that is handed on in a failure
address-handed : {T U : Type 0} (Holds : AddressFault → Type 0) (order : List AddressFault)
    (before : Result T AddressFault)
    (after : Result U Failure) (error : AddressFault) (failure : Failure) → before ≡ Err error → after ≡ Err failure
    → failure ≡ Address error
    → ((fault : AddressFault) → (before ≡ Err fault) ↔ IsFirst Holds order fault)
    → (fault : AddressFault) → (after ≡ Err (Address fault)) ↔ IsFirst Holds order fault
address-handed Holds order before after error failure was is same exactly fault = (
  λ told. let e : before ≡ Err fault = cc in (exactly fault).0 e,
  λ first. let e = (exactly fault).1 first in cc,
)

-- ---- an endpoint between two wires

-- what a desk needs that is not there
abbrev IsOfDesk : Failure → Type 0
IsOfDesk failure = (failure ≡ failures.Memory) ⊎ (failure ≡ failures.Control)

-- by what it says of a failure
pub lacks-desk : (failure : Failure) (P : Type 0)
    → (failure ≡ failures.Memory) ⊎ ((failure ≡ failures.Control) × P) → IsOfDesk failure
lacks-desk failure P (inl memory) = inl memory
lacks-desk failure P (inr (control, named)) = inr control

desk-behind : (failure : Failure) → IsOfDesk failure → IsAfterAddresses failure
desk-behind failure (inl memory) = subst IsAfterAddresses (sym memory) tt
desk-behind failure (inr control) = subst IsAfterAddresses (sym control) tt

desk-no-output : (failure : Failure) → IsOfDesk failure → failure ≢ failures.Output
desk-no-output failure (inl memory) is = let e = sym memory ∙ is in cc
desk-no-output failure (inr control) is = let e = sym control ∙ is in cc

-- wires that are not there, or what a look at the disk found
unbound-behind : {F : Type 0} (file : F → FileState) (failure : Failure) → IsUnbound file failure
    → IsAfterAddresses failure
unbound-behind file failure (inl (inl memory, tries)) = subst IsAfterAddresses (sym memory) tt
unbound-behind file failure (inl (inr wire, tries)) = subst IsAfterAddresses (sym wire) tt
unbound-behind file failure (inr fails) = elim (of-look file failure fails) [
  | inl memory ↦ subst IsAfterAddresses (sym memory) tt
  | inr fault ↦ subst IsAfterAddresses (sym fault.1) tt
]

unbound-no-output : {F : Type 0} (file : F → FileState) (failure : Failure) → IsUnbound file failure
    → failure ≢ failures.Output
unbound-no-output file failure (inl (inl memory, tries)) is = let e = sym memory ∙ is in cc
unbound-no-output file failure (inl (inr wire, tries)) is = let e = sym wire ∙ is in cc
unbound-no-output file failure (inr fails) is = disk-no-output failure (of-look file failure fails) is

module _ {D W : Type 0} (disk_of : D → Disk) (contents : W → Option (List ℕ)) (has_failed : W → Bool) (course : Course)
    (old : EndpointValue D) (before : W) where
  -- without a desk that it is to have nothing is done
  pub no-desk : course.attended ≡ true → (fault failure : Failure) (result : Result Status Failure)
      → result ≡ Err failure → failure ≡ fault → IsOfDesk fault
      → DoesRelay disk_of contents has_failed course old before result old before
  no-desk wanted fault failure result is same names =
      let named = subst IsOfDesk (sym same) names in
      subst (λ (r : Result Status Failure). DoesRelay disk_of contents has_failed course old before r old before)
      (sym is) (record {
        printed = tt;
        ended = inl (wanted, named, refl);
        failed = desk-behind failure named;
        silent = λ other. refl;
        broken = λ output. absurd (desk-no-output failure named output);
      })

  -- between two new wires, it ran and was reported
  pub frames-relayed : (ended : Result RelaySummary Failure) (new : EndpointValue D)
      (controlled common : WireState)
      (result : Result Status Failure) (after : W)
      → IsRun disk_of course (relay_of old new_wire new_wire empty_lane empty_lane) ended new controlled common
      → Reports contents has_failed ended before result after
      → DoesRelay disk_of contents has_failed course old before result new after
  frames-relayed (Ok summary) new controlled common (Ok status) after runs (printed, failed) = record {
    printed = (
      summary,
      record { controlled = controlled; common = common; relayed = runs },
      printed.0,
      printed.1,
    );
    ended = tt;
    failed = tt;
    silent = tt;
    broken = tt;
  }
  frames-relayed (Ok summary) new controlled common (Err failure) after runs (printed, (is, broken)) = record {
    printed = tt;
    ended = inr (record { controlled = controlled; common = common; ends = inr (is, summary, runs) });
    failed = subst IsAfterAddresses (sym is) tt;
    silent = λ other. absurd (other is);
    broken = λ output. broken;
  }
  frames-relayed (Err failure) new controlled common result after runs (is, silent) =
      let (answer, relayed, run, ends) = runs in
      let (fault, named) = of-end disk_of course.planned answer relayed failure new ends in
      subst (λ (r : Result Status Failure). DoesRelay disk_of contents has_failed course old before r new after)
      (sym is) (record {
        printed = tt;
        ended = inr (record { controlled = controlled; common = common; ends = inl runs });
        failed = subst IsAfterAddresses (sym named) tt;
        silent = λ other. silent;
        broken = λ output. absurd (let e = sym named ∙ output in cc);
      })

-- a relay that runs as the words request
pub as-wanted : {D W : Type 0} (T : Type 0) (disk_of : D → Disk) (contents : W → Option (List ℕ))
    (has_failed : W → Bool)
    (disk : List ℕ) (running : Running) (is : Bool) (old : EndpointValue D) (before : W)
    (result : Result Status Failure) (new : EndpointValue D) (after : W)
    → is ≡ is_attended running
    → DoesRelay disk_of contents has_failed (course_with T is disk running) old before result new after
    → DoesRelay disk_of contents has_failed (course_of T disk running) old before result new after
as-wanted T disk_of contents has_failed disk running is old before result new after same does =
    subst (λ (b : Bool). DoesRelay disk_of contents has_failed (course_with T b disk running) old before result new
    after) same does

-- ---- what `relay` comes to

disk-behind : {F : Type 0} (file : F → FileState) (failure : Failure) → OpeningFails file failure
    → IsAfterAddresses failure
disk-behind file failure fails = elim (of-opening file failure fails) [
  | inl memory ↦ subst IsAfterAddresses (sym memory) tt
  | inr fault ↦ subst IsAfterAddresses (sym fault.1) tt
]

module _ {W T : Type 0} (Comes : RelaySummary → Type 0) (Fails : Failure → Type 0)
    (contents : W → Option (List ℕ)) (has_failed : W → Bool) (controlled common : WireEnds)
    (before : W) (addresses : Result T AddressFault)
    (exactly : (fault : AddressFault)
    → (addresses ≡ Err fault) ↔ IsFirst (AddressFaultHolds controlled common) address_faults fault) where
  abbrev Is : Result Status Failure → W → Type 0
  Is result after = RelayedAs Comes Fails contents has_failed controlled common before result after

  -- an address is refused
  pub refused-as : (failure : Failure) (cause : AddressFault) (result : Result Status Failure)
      → addresses ≡ Err cause → result ≡ Err failure → failure ≡ Address cause
      → RelayedAs Comes Fails contents has_failed controlled common before result before
  refused-as failure cause result was is same =
      let first = (exactly cause).0 was in
      subst (λ (r : Result Status Failure). Is r before) (sym is) (record {
        printed = tt;
        address = address-handed {U = Status} (AddressFaultHolds controlled common) address_faults addresses
            (Err failure) cause failure was refl same exactly;
        usage = λ usage. ((cause, first-holds (AddressFaultHolds controlled common) address_faults cause first), refl);
        ended = inl (cause, same, first);
        names = subst IsOfRelay (sym same) tt;
        silent = λ other. refl;
        broken = λ output. absurd (let e = sym same ∙ output in cc);
      })

  -- what fails comes after the addresses
  pub fails-as : (value : T) (after : W) (failure : Failure) (result : Result Status Failure) → addresses ≡ Ok value
      → result ≡ Err failure → IsAfterAddresses failure → Fails failure
      → (failure ≢ failures.Output → after ≡ before) → (failure ≡ failures.Output → has_failed after ≡ true)
      → RelayedAs Comes Fails contents has_failed controlled common before result after
  fails-as value after failure result was is behind which silent broken =
      subst (λ (r : Result Status Failure). Is r after) (sym is) (record {
        printed = tt;
        address = no-address {U = Status} (AddressFaultHolds controlled common) address_faults addresses value
            (Err failure) was behind exactly;
        usage = λ usage. absurd (behind-no-usage failure behind usage);
        ended = inr which;
        names = behind-of-relay failure behind;
        silent = silent;
        broken = broken;
      })

  -- it ends, and its summary is printed
  pub comes-as : (value : T) (after : W) (status : Status) → addresses ≡ Ok value → SpellsBoth controlled common
      → ((summary : RelaySummary) × Comes summary × Appends (contents before) (contents after) (relay_line summary)
      × (status ≡ ends.Done))
      → RelayedAs Comes Fails contents has_failed controlled common before (Ok status) after
  comes-as value after status was spelled (summary, comes, printed, is) = record {
    printed = (summary, comes, spelled, printed, is);
    address = no-address {U = Status} (AddressFaultHolds controlled common) address_faults addresses value (Ok status)
        was tt exactly;
    usage = tt;
    ended = tt;
    names = tt;
    silent = tt;
    broken = tt;
  }

-- ---- over a disk in a file

abbrev pub RelayedIn : {F W : Type 0} → (F → FileState) → (W → Option (List ℕ)) → (W → Bool) → WireEnds → WireEnds
    → Course → W → Result Status Failure → W → Type 0
RelayedIn file contents has_failed controlled common course before result after =
    RelayedAs (ComesTo file course) (RelayFailsIn file course) contents has_failed controlled common before result after

module _ {F W T : Type 0} (file : F → FileState) (contents : W → Option (List ℕ)) (has_failed : W → Bool)
    (controlled common : WireEnds) (course : Course)
    (before : W) (addresses : Result T AddressFault)
    (exactly : (fault : AddressFault)
    → (addresses ≡ Err fault) ↔ IsFirst (AddressFaultHolds controlled common) address_faults fault)
    (value : T) (was : addresses ≡ Ok value) where
  fails-in : (after : W) (failure : Failure) (result : Result Status Failure) → result ≡ Err failure
      → IsAfterAddresses failure → RelayFailsIn file course failure
      → (failure ≢ failures.Output → after ≡ before) → (failure ≡ failures.Output → has_failed after ≡ true)
      → RelayedIn file contents has_failed controlled common course before result after
  fails-in after failure result =
      fails-as (ComesTo file course) (RelayFailsIn file course) contents has_failed controlled common before
      addresses exactly value after failure result was

  pub unbound-in : (failure : Failure) → IsUnbound file failure
      → RelayedIn file contents has_failed controlled common course before (Err failure) before
  unbound-in failure unbound =
      fails-in before failure (Err failure) refl (unbound-behind file failure unbound) (inl unbound) (λ other. refl)
      (λ output. absurd (unbound-no-output file failure unbound output))

  pub relayed-in : (after : W) (result : Result Status Failure) → SpellsBoth controlled common
      → IsRunIn file (DoesRelay (disk_in_file file) contents has_failed course) before result after
      → RelayedIn file contents has_failed controlled common course before result after
  relayed-in after result spelled (inl none) =
      fails-in after none.failure result none.is (disk-behind file none.failure none.fails) (inr (inl none.fails))
      (λ other. none.silent)
      (λ output. absurd (disk-no-output none.failure (of-opening file none.failure none.fails) output))
  relayed-in after (Ok status) spelled (inr run) =
      let (summary, relays, printed, is) = run.does.printed in
      comes-as (ComesTo file course) (RelayFailsIn file course) contents has_failed controlled common before
      addresses exactly value after status was spelled (
        summary,
        record {
          old = run.old;
          new = run.new;
          controlled = relays.controlled;
          common = relays.common;
          endpoint = run.endpoint;
          relayed = relays.relayed;
        },
        printed,
        is,
      )
  relayed-in after (Err failure) spelled (inr run) =
      fails-in after failure (Err failure) refl run.does.failed
      (inr (inr (record { old = run.old; new = run.new; endpoint = run.endpoint; ends = run.does.ended })))
      run.does.silent run.does.broken

-- ---- over the disk of a keeper

abbrev pub RelayedKept : {W : Type 0} → (W → Option (List ℕ)) → (W → Bool) → WireEnds → WireEnds → Course → W
    → Result Status Failure → W → Type 0
RelayedKept contents has_failed controlled common course before result after =
    RelayedAs (ComesToKept course) (RelayFailsKept course) contents has_failed controlled common before result after

of-journal-behind : (failure : Failure) (fault : JournalFault) → failure ≡ failure_of_journal fault
    → IsAfterAddresses failure
of-journal-behind failure fault is = subst IsAfterAddresses (sym is) tt

of-journal-no-output : (failure : Failure) (fault : JournalFault) → failure ≡ failure_of_journal fault
    → failure ≢ failures.Output
of-journal-no-output failure fault is output = let e = sym is ∙ output in cc

module _ {W T : Type 0} (contents : W → Option (List ℕ)) (has_failed : W → Bool)
    (controlled common : WireEnds) (course : Course)
    (before : W) (addresses : Result T AddressFault)
    (exactly : (fault : AddressFault)
    → (addresses ≡ Err fault) ↔ IsFirst (AddressFaultHolds controlled common) address_faults fault)
    (value : T) (was : addresses ≡ Ok value) where
  fails-kept : (after : W) (failure : Failure) (result : Result Status Failure) → result ≡ Err failure
      → IsAfterAddresses failure → RelayFailsKept course failure
      → (failure ≢ failures.Output → after ≡ before) → (failure ≡ failures.Output → has_failed after ≡ true)
      → RelayedKept contents has_failed controlled common course before result after
  fails-kept after failure result =
      fails-as (ComesToKept course) (RelayFailsKept course) contents has_failed controlled common before
      addresses exactly value after failure result was

  pub no-wires-kept : (fault failure : Failure) (result : Result Status Failure) → result ≡ Err failure
      → failure ≡ fault → HasNoWires fault
      → RelayedKept contents has_failed controlled common course before result before
  no-wires-kept fault failure result is same none =
      let here = subst HasNoWires (sym same) none in
      fails-kept before failure result is
      (elim here [
        | inl memory ↦ subst IsAfterAddresses (sym memory) tt
        | inr wire ↦ subst IsAfterAddresses (sym wire) tt
      ])
      (inl here) (λ other. refl)
      (λ output. absurd (elim here [
        | inl memory ↦ let e = sym memory ∙ output in cc
        | inr wire ↦ let e = sym wire ∙ output in cc
      ]))

  pub no-keeper-kept : (fault failure : Failure) (result : Result Status Failure) → result ≡ Err failure
      → failure ≡ fault → fault ≡ failure_of_journal journal.Disk
      → RelayedKept contents has_failed controlled common course before result before
  no-keeper-kept fault failure result is same named =
      fails-kept before failure result is (of-journal-behind failure journal.Disk (same ∙ named))
      (inr (inl (inl (same ∙ named)))) (λ other. refl)
      (λ output. absurd (of-journal-no-output failure journal.Disk (same ∙ named) output))

  pub relayed-kept : (disk : KeptDiskValue) (after : W) (result : Result Status Failure) → SpellsBoth controlled common
      → IsRunOn kept_disk (DoesRelay kept_disk contents has_failed course) disk before result after
      → RelayedKept contents has_failed controlled common course before result after
  relayed-kept disk after result spelled (inl none) =
      let failure = failure_of_journal none.fault in
      fails-kept after failure result none.is (of-journal-behind failure none.fault refl)
      (inr (inl (inr (record {
        disk = disk;
        left = none.left;
        fault = none.fault;
        refuses = none.refuses;
        is = refl;
      }))))
      (λ other. none.silent) (λ output. absurd (of-journal-no-output failure none.fault refl output))
  relayed-kept disk after (Ok status) spelled (inr run) =
      let (summary, relays, printed, is) = run.does.printed in
      comes-as (ComesToKept course) (RelayFailsKept course) contents has_failed controlled common before
      addresses exactly value after status was spelled (
        summary,
        record {
          old = run.old;
          new = run.new;
          controlled = relays.controlled;
          common = relays.common;
          endpoint = record { disk = disk; opens = run.opens };
          relayed = relays.relayed;
        },
        printed,
        is,
      )
  relayed-kept disk after (Err failure) spelled (inr run) =
      fails-kept after failure (Err failure) refl run.does.failed
      (inr (inr (record {
        old = run.old;
        new = run.new;
        endpoint = record { disk = disk; opens = run.opens };
        ends = run.does.ended;
      })))
      run.does.silent run.does.broken
