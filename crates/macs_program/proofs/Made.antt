-- Why a file is not made the disk of a new endpoint.
use Rattle.std.proofs.Common.{◌≡◌, ◌≢◌, ◌↔◌, ◌⊎◌, ◌∙◌, ◌/◌, inl, inr, ℕ, Bool, true, List, Option, Some, Result, Ok}
use Rattle.std.proofs.Common.{Err, IfErr, IfOk, refl, subst, sym}
use Rattle.std.specs.Io.KnownBytes.{Appends}
use Rattle.std.specs.Prelude.{codes}
use Rattle.macs_config.specs.Identity.{Identity}
use Rattle.macs_disk.specs.Files.{FileState, file_claimed}
use Rattle.macs_disk.specs.declared.file_fault.FileFault.{FileFault}
use Rattle.macs_disk.specs.declared.file_fault.FileFault.TheVariants as file_faults
use Rattle.macs_disk.specs.declared.layout.Layout.{Layout}
use Rattle.macs_fields.specs.First.{IsFirst}
use Rattle.macs_journal.specs.declared.fault.JournalFault.TheVariants as journal
use Rattle.macs_cli.proofs.FirstFault.{first-holds}
use Rattle.macs_offline.proofs.Failures.{IsOfDisk, disk-no-output}
use Rattle.macs_cli.specs.Failing.{failure_of_file, failure_status}
use Rattle.macs_program.specs.NewDisks.{EndpointFails, FormatFails, Formats, IsAfterValues, IsTaken, MakesDisk, Permits}
use Rattle.macs_texts.specs.Lines.{line}
use Rattle.macs_cli.specs.Values.{value_faults}
use Rattle.macs_cli.specs.declared.failure.DiskFault.{DiskFault}
use Rattle.macs_cli.specs.declared.failure.DiskFault.TheVariants as disk
use Rattle.macs_cli.specs.declared.failure.Failure.{Failure}
use Rattle.macs_cli.specs.declared.failure.Failure.TheVariants as failures
use Rattle.macs_cli.specs.declared.status.Status.{Status}
use Rattle.macs_cli.specs.declared.status.Status.TheVariants as ends
use Rattle.macs_cli.specs.declared.values.ValueFault.{ValueFault}

-- what is not written over, whether the file is claimed or not
pub taken : (is_over : Bool) (file claimed : FileState) (sectors : ℕ) (fault : DiskFault)
    → claimed ≡ file_claimed file → sectors ≡ file.size / 512
    → (fault ≡ disk.Journal journal.Disk) ⊎ Permits is_over claimed sectors (Some fault)
    → (fault ≡ disk.Journal journal.Disk) ⊎ IsTaken is_over file fault
taken is_over file claimed sectors fault is count (inl device) = inl device
taken is_over file claimed sectors fault is count (inr permits) =
    inr (subst (λ (n : ℕ). Permits is_over file n (Some fault)) count
    (subst (λ (f : FileState). Permits is_over f sectors (Some fault)) is permits))

-- an error of the system, at a file
pub of-the-system : (failure : Failure) → (failure ≡ failures.Memory) ⊎ (failure ≡ failures.Disk disk.File)
    → (fault : FileFault) × (failure ≡ failure_of_file fault)
of-the-system failure (inl memory) = (file_faults.Memory, memory)
of-the-system failure (inr none) = (file_faults.Open, none)

-- so where the new file does not take the name
pub not-named : {F T : Type 0} (file : F → FileState) (identity : Identity) (result : Result T Failure)
    → IfErr result (λ failure. (failure ≡ failures.Memory) ⊎ (failure ≡ failures.Disk disk.File))
    → IfErr result
    (λ failure. ((fault : FileFault) × (failure ≡ failure_of_file fault)) ⊎ EndpointFails file identity failure)
not-named file identity (Ok value) refused = tt
not-named file identity (Err failure) refused = inl (of-the-system failure refused)

-- ---- the disk of a new endpoint

of-the-disk : (failure : Failure) → IsOfDisk failure → IsAfterValues failure
of-the-disk failure (inl memory) = subst IsAfterValues (sym memory) tt
of-the-disk failure (inr (fault, is)) = subst IsAfterValues (sym is) tt

module _ {F W : Type 0} (file : F → FileState) (contents : W → Option (List ℕ)) (has_failed : W → Bool) (is_over : Bool)
    (layout : Layout)
    (identity : Identity) (before : W) where
  pub not-made : (fault failure : Failure) (result : Result Status Failure) → result ≡ Err failure → failure ≡ fault
      → FormatFails file is_over identity fault
      → (fault ≡ failures.Memory) ⊎ ((cause : DiskFault) × (fault ≡ failures.Disk cause))
      → MakesDisk file contents has_failed is_over layout identity before result before
  not-made fault failure result is same fails names =
      subst (λ (r : Result Status Failure). MakesDisk file contents has_failed is_over layout identity before r before)
      (sym is) (record {
        printed = tt;
        ended = inl (subst (λ (f : Failure). FormatFails file is_over identity f) (sym same) fails);
        failed = subst IsAfterValues (sym same) (of-the-disk fault names);
        silent = λ other. refl;
        broken = λ output. absurd (disk-no-output fault names (sym same ∙ output));
      })

  -- the disk is made, and the line cannot be written
  pub not-told : (after : W) (fault failure : Failure) (result : Result Status Failure) → result ≡ Err failure
      → failure ≡ fault
      → fault ≡ failures.Output → has_failed after ≡ true
      → MakesDisk file contents has_failed is_over layout identity before result after
  not-told after fault failure result is same output broken =
      subst (λ (r : Result Status Failure). MakesDisk file contents has_failed is_over layout identity before r after)
      (sym is) (record {
        printed = tt;
        ended = inr (same ∙ output);
        failed = subst IsAfterValues (sym (same ∙ output)) tt;
        silent = λ other. absurd (other (same ∙ output));
        broken = λ written. broken;
      })

  pub made-told : (after : W) → Formats file is_over layout identity
      → Appends (contents before) (contents after) (line (codes "formatted"))
      → MakesDisk file contents has_failed is_over layout identity before (Ok ends.Done) after
  made-told after formats printed =
      record { printed = (formats, printed, refl); ended = tt; failed = tt; silent = tt; broken = tt }

-- ---- the values come first

-- where the values are ones, no fault of a value is answered, and none is there
no-value : {T U : Type 0} (Holds : ValueFault → Type 0) (order : List ValueFault)
    (before : Result T ValueFault) (value : T)
    (after : Result U Failure) → before ≡ Ok value → IfErr after IsAfterValues
    → ((fault : ValueFault) → (before ≡ Err fault) ↔ IsFirst Holds order fault)
    → (fault : ValueFault) → (after ≡ Err (failures.Value fault)) ↔ IsFirst Holds order fault
no-value {T} {U} Holds order before value after was later exactly fault = (
  λ answered. absurd (subst (λ (r : Result U Failure). IfErr r IsAfterValues) answered later),
  λ first. let e = (exactly fault).1 first in cc,
)

-- the fault of a value that is handed on in a failure
value-handed : {T U : Type 0} (Holds : ValueFault → Type 0) (order : List ValueFault) (before : Result T ValueFault)
    (after : Result U Failure) (error : ValueFault) (failure : Failure) → before ≡ Err error → after ≡ Err failure
    → failure ≡ failures.Value error
    → ((fault : ValueFault) → (before ≡ Err fault) ↔ IsFirst Holds order fault)
    → (fault : ValueFault) → (after ≡ Err (failures.Value fault)) ↔ IsFirst Holds order fault
value-handed Holds order before after error failure was is same exactly fault = (
  λ answered. let e : before ≡ Err fault = cc in (exactly fault).0 e,
  λ first. let e = (exactly fault).1 first in cc,
)

after-no-usage : (failure : Failure) → IsAfterValues failure → failure_status failure ≢ ends.Usage
after-no-usage (failures.Disk fault) is = λ e. cc
after-no-usage failures.Memory is = λ e. cc
after-no-usage failures.Output is = λ e. cc
after-no-usage failures.Wire is = absurd is
after-no-usage failures.Control is = absurd is
after-no-usage failures.Random is = absurd is
after-no-usage (failures.Said cause) is = absurd is
after-no-usage (failures.DiskFile cause) is = absurd is
after-no-usage failures.OtherEnd is = absurd is
after-no-usage (failures.Link refusal) is = absurd is
after-no-usage (failures.Usage cause) is = absurd is
after-no-usage (failures.Value fault) is = absurd is
after-no-usage (failures.Address fault) is = absurd is
after-no-usage failures.Capture is = absurd is
after-no-usage failures.Commands is = absurd is
after-no-usage (failures.Input fault) is = absurd is

-- what `format` comes to, by what says of the values that they spell something, and of a fault that it holds
pub record FormattedBy {F W : Type 0} (file : F → FileState) (contents : W → Option (List ℕ)) (has_failed : W → Bool)
    (is_over : Bool)
    (Spells : Identity → Type 0) (Lays : Layout → Type 0) (Holds : ValueFault → Type 0) (before : W)
    (result : Result Status Failure)
    (after : W) : Type 0 where
  pub printed : IfOk result (λ status. (identity : Identity) × Spells identity × (layout : Layout) × Lays layout
      × Formats file is_over layout identity × Appends (contents before) (contents after) (line (codes "formatted"))
      × (status ≡ ends.Done))
  pub usage : IfErr result (λ failure. failure_status failure ≡ ends.Usage
      → ((fault : ValueFault) × Holds fault) × (after ≡ before))
  pub value : (fault : ValueFault) → (result ≡ Err (failures.Value fault)) ↔ IsFirst Holds value_faults fault
  pub ended : IfErr result
      (λ failure. ((fault : ValueFault) × (failure ≡ failures.Value fault) × IsFirst Holds value_faults fault)
      ⊎ ((identity : Identity) × Spells identity × FormatFails file is_over identity failure)
      ⊎ (failure ≡ failures.Output))
  pub silent : IfErr result (λ failure. failure ≢ failures.Output → after ≡ before)
  pub broken : IfErr result (λ failure. failure ≡ failures.Output → has_failed after ≡ true)

module _ {F W T : Type 0} (file : F → FileState) (contents : W → Option (List ℕ)) (has_failed : W → Bool)
    (is_over : Bool)
    (Spells : Identity → Type 0) (Lays : Layout → Type 0) (Holds : ValueFault → Type 0) (before : W)
    (given : Result T ValueFault)
    (exactly : (fault : ValueFault) → (given ≡ Err fault) ↔ IsFirst Holds value_faults fault) where
  pub value-refused : (fault : ValueFault) (failure : Failure) (result : Result Status Failure) → given ≡ Err fault
      → result ≡ Err failure
      → failure ≡ failures.Value fault
      → FormattedBy file contents has_failed is_over Spells Lays Holds before result before
  value-refused fault failure result was is same =
      let first = (exactly fault).0 was in
      subst (λ (r : Result Status Failure).
      FormattedBy file contents has_failed is_over Spells Lays Holds before r before) (sym is) (record {
        printed = tt;
        usage = λ usage. ((fault, first-holds Holds value_faults fault first), refl);
        value = value-handed {U = Status} Holds value_faults given (Err failure) fault failure was refl same exactly;
        ended = inl (fault, same, first);
        silent = λ other. refl;
        broken = λ output. absurd (let e = sym same ∙ output in cc);
      })

  pub formatted-by : (value : T) (identity : Identity) (layout : Layout) (result : Result Status Failure) (after : W)
      → given ≡ Ok value
      → Spells identity → Lays layout → MakesDisk file contents has_failed is_over layout identity before result after
      → FormattedBy file contents has_failed is_over Spells Lays Holds before result after
  formatted-by value identity layout (Ok status) after was spelled laid made =
      let (formats, printed, is) = made.printed in
      record {
        printed = (identity, spelled, layout, laid, formats, printed, is);
        usage = tt;
        value = no-value {U = Status} Holds value_faults given value (Ok status) was tt exactly;
        ended = tt;
        silent = tt;
        broken = tt;
      }
  formatted-by value identity layout (Err failure) after was spelled laid made = record {
    printed = tt;
    usage = λ usage. absurd (after-no-usage failure made.failed usage);
    value = no-value {U = Status} Holds value_faults given value (Err failure) was made.failed exactly;
    ended = elim made.ended [
      | inl fails ↦ inr (inl (identity, spelled, fails))
      | inr output ↦ inr (inr output)
    ];
    silent = made.silent;
    broken = made.broken;
  }
