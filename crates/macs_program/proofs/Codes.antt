-- The status of the process.
use Rattle.std.proofs.Common.{◌≡◌, ◌≢◌, ◌⊎◌, ◌∙◌, inl, inr, ℕ, ap, refl, subst, sym}
use Rattle.macs_cli.specs.Failing.{failure_status}
use Rattle.macs_cli.specs.Statuses.{code_of}
use Rattle.macs_cli.specs.declared.failure.Failure.{Failure}
use Rattle.macs_cli.specs.declared.failure.Failure.TheVariants as failures
use Rattle.macs_cli.specs.declared.failure.LinkRefusal.{LinkRefusal}
use Rattle.macs_cli.specs.declared.status.Status.{Status}
use Rattle.macs_cli.specs.declared.status.Status.TheVariants as ends

pub code-usage : (status : Status) → code_of status ≡ 2 → status ≡ ends.Usage
code-usage ends.Done is = cc
code-usage ends.Usage is = refl
code-usage ends.Refused is = cc
code-usage ends.Disk is = cc
code-usage ends.Fault is = cc

pub code-disk : (status : Status) → code_of status ≡ 4 → status ≡ ends.Disk
code-disk ends.Done is = cc
code-disk ends.Usage is = cc
code-disk ends.Refused is = cc
code-disk ends.Disk is = refl
code-disk ends.Fault is = cc

zero-not-three : ◌≢◌ {A = ℕ} 0 3
zero-not-three is = cc

-- a run that is done or refused ends with 0 or 3
pub not-failed : {P : Type 0} (status : Status) (code : ℕ) → (status ≡ ends.Done) ⊎ (status ≡ ends.Refused)
    → code ≡ code_of status → code ≢ 0 → code ≢ 3 → P
not-failed status code (inl done) is zero three = absurd (zero (is ∙ ap code_of done))
not-failed status code (inr refused) is zero three = absurd (three (is ∙ ap code_of refused))

-- a failure is of a link, or has another status than 0 and 3
abbrev IsLinkOr : Failure → Type 0
IsLinkOr failure = ((refusal : LinkRefusal) × (failure ≡ failures.Link refusal))
    ⊎ ((code_of (failure_status failure) ≢ 0) × (code_of (failure_status failure) ≢ 3))

link-or : (failure : Failure) → IsLinkOr failure
link-or (failures.Usage cause) = inr ((λ e. cc), (λ e. cc))
link-or (failures.Value fault) = inr ((λ e. cc), (λ e. cc))
link-or (failures.Address fault) = inr ((λ e. cc), (λ e. cc))
link-or (failures.Disk fault) = inr ((λ e. cc), (λ e. cc))
link-or failures.Capture = inr ((λ e. cc), (λ e. cc))
link-or failures.Commands = inr ((λ e. cc), (λ e. cc))
link-or failures.Wire = inr ((λ e. cc), (λ e. cc))
link-or failures.Control = inr ((λ e. cc), (λ e. cc))
link-or failures.Random = inr ((λ e. cc), (λ e. cc))
link-or (failures.Said cause) = inr ((λ e. cc), (λ e. cc))
link-or (failures.DiskFile cause) = inr ((λ e. cc), (λ e. cc))
link-or failures.OtherEnd = inr ((λ e. cc), (λ e. cc))
link-or (failures.Link refusal) = inl (refusal, refl)
link-or failures.Memory = inr ((λ e. cc), (λ e. cc))
link-or (failures.Input fault) = inr ((λ e. cc), (λ e. cc))
link-or failures.Output = inr ((λ e. cc), (λ e. cc))

link-no-output : (refusal : LinkRefusal) → failures.Link refusal ≢ failures.Output
link-no-output refusal is = cc

link-code : (failure : Failure) (refusal : LinkRefusal) (code : ℕ) → code ≡ code_of (failure_status failure)
    → failure ≡ failures.Link refusal → code ≡ 3
link-code failure refusal code is same = is ∙ ap (λ (f : Failure). code_of (failure_status f)) same

-- a run that fails ends with one of these only where a link is refused
pub refused-link : (Printed Fails : Failure → Type 0) (Before : Type 0) (failure : Failure) (code : ℕ)
    → code ≡ code_of (failure_status failure) → Printed failure → Fails failure
    → (failure ≢ failures.Output → Before) → (code ≡ 0) ⊎ (code ≡ 3)
    → (refusal : LinkRefusal) × (code ≡ 3) × Printed (failures.Link refusal) × Fails (failures.Link refusal) × Before
refused-link Printed Fails Before failure code is printed fails before which = elim (link-or failure) [
  | inl (refusal, same) ↦ (
    refusal,
    link-code failure refusal code is same,
    subst (λ (f : Failure). Printed f) same printed,
    subst (λ (f : Failure). Fails f) same fails,
    before (λ output. link-no-output refusal (sym same ∙ output)),
  )
  | inr neither ↦ elim which [
    | inl zero ↦ absurd (neither.0 (sym is ∙ zero))
    | inr three ↦ absurd (neither.1 (sym is ∙ three))
  ]
]

-- and never with 0
pub no-success : {P : Type 0} (failure : Failure) (code : ℕ) → code ≡ code_of (failure_status failure) → code ≡ 0 → P
no-success failure code is zero = elim (link-or failure) [
  | inl (refusal, same) ↦
      let three = link-code failure refusal code is same in absurd (zero-not-three (sym zero ∙ three))
  | inr neither ↦ absurd (neither.0 (sym is ∙ zero))
]
