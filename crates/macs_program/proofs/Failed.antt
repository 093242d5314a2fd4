-- The status of a run that failed, and what it reports of the words.
use Rattle.std.proofs.Common.{◌≡◌, ◌≢◌, ◌⊎◌, inl, inr, ap, sym, ◌∙◌, Bool, true, false, Result, Err, IfErr, refl, subst}
use Rattle.macs_edge.specs.declared.capture_runs.RunFault.{RunFault}
use Rattle.macs_edge.specs.declared.capture_runs.RunFault.TheVariants.{Device, Pcap}
use Rattle.macs_endpoint.specs.declared.fault.RefillFault.TheVariants as refill
use Rattle.macs_pcap.specs.declared.fault.PcapFault.TheVariants as pcap
use Rattle.macs_cli.specs.Failing.{failure_of_run, failure_of_words, failure_status}
use Rattle.macs_cli.specs.declared.words.action.UsageFault.{UsageFault}
use Rattle.macs_cli.specs.declared.words.action.UsageFault.TheVariants as words
use Rattle.macs_cli.specs.declared.failure.Failure.{Failure}
use Rattle.macs_cli.specs.declared.failure.Failure.TheVariants.{Capture, Output}
use Rattle.macs_cli.specs.declared.status.Status.TheVariants.{Usage}

fault-status : (fault : RunFault) → failure_status (failure_of_run fault) ≢ Usage
fault-status (Pcap pcap.Read) is = cc
fault-status (Pcap pcap.BadMagic) is = cc
fault-status (Pcap pcap.BadVersion) is = cc
fault-status (Pcap pcap.NotEthernet) is = cc
fault-status (Pcap pcap.CutFile) is = cc
fault-status (Pcap pcap.CutRecord) is = cc
fault-status (Pcap pcap.RecordTooLong) is = cc
fault-status (Pcap pcap.Write) is = cc
fault-status (Pcap pcap.Memory) is = cc
fault-status (Pcap pcap.TooManyRecords) is = cc
fault-status (Device refill.Stopped) is = cc
fault-status (Device refill.Busy) is = cc
fault-status (Device refill.GenerationsSpent) is = cc
fault-status (Device refill.Disk) is = cc

-- a run over a capture does not fail for its words
pub run-status : (failure : Failure) → ((fault : RunFault) × (failure ≡ failure_of_run fault)) ⊎ (failure ≡ Capture)
    → failure_status failure ≢ Usage
run-status failure (inl (fault, same)) is = fault-status fault (ap failure_status (sym same) ∙ is)
run-status failure (inr same) is = let e = ap failure_status (sym same) ∙ is in cc

fault-no-output : (fault : RunFault) → failure_of_run fault ≢ Output
fault-no-output (Pcap pcap.Read) is = cc
fault-no-output (Pcap pcap.BadMagic) is = cc
fault-no-output (Pcap pcap.BadVersion) is = cc
fault-no-output (Pcap pcap.NotEthernet) is = cc
fault-no-output (Pcap pcap.CutFile) is = cc
fault-no-output (Pcap pcap.CutRecord) is = cc
fault-no-output (Pcap pcap.RecordTooLong) is = cc
fault-no-output (Pcap pcap.Write) is = cc
fault-no-output (Pcap pcap.Memory) is = cc
fault-no-output (Pcap pcap.TooManyRecords) is = cc
fault-no-output (Device refill.Stopped) is = cc
fault-no-output (Device refill.Busy) is = cc
fault-no-output (Device refill.GenerationsSpent) is = cc
fault-no-output (Device refill.Disk) is = cc

-- nor for standard output
pub run-no-output : (failure : Failure) → ((fault : RunFault) × (failure ≡ failure_of_run fault)) ⊎ (failure ≡ Capture)
    → failure ≢ Output
run-no-output failure (inl (fault, same)) is = fault-no-output fault (sym same ∙ is)
run-no-output failure (inr same) is = let e = sym same ∙ is in cc

-- words that are wrong usage are not taken, or lack something, where those that are taken are refused for memory or for
-- that alone
pub not-taken : {A : Type 0} (result : Result A UsageFault) (fault : UsageFault) (taken : Bool) (Lacks : Type 0)
    → result ≡ Err fault
    → (taken ≡ true → IfErr result (λ f. (f ≡ words.Memory) ⊎ Lacks))
    → failure_status (failure_of_words fault) ≡ Usage → (taken ≢ true) ⊎ Lacks
not-taken result (words.Usage cause) false Lacks is only usage = inl (λ known. cc)
not-taken {A} result (words.Usage cause) true Lacks is only usage =
    elim (subst (λ (r : Result A UsageFault). IfErr r (λ f. (f ≡ words.Memory) ⊎ Lacks)) is (only refl)) [
      | inl memory ↦ absurd cc
      | inr lacks ↦ inr lacks
    ]
not-taken result words.Memory taken Lacks is only usage = absurd cc
