-- The ends of answers, as they are written.
use Rattle.std.proofs.Common.{◌≡◌, ◌⊎◌, ◌++◌, inl, inr, refl}
use Rattle.std.specs.Prelude.{codes}
use Rattle.std.specs.Fmt.{digits}
use Rattle.macs_endpoint.specs.declared.fault.CommandFault.{CommandFault}
use Rattle.macs_endpoint.specs.declared.fault.CommandFault.TheVariants as faults
use Rattle.macs_texts.specs.Lines.{line}
use Rattle.macs_control.specs.Replies.{end_text, failed_text}

pub end-0 : codes "end 0\n" ≡ end_text 0
unfolding digits
end-0 = refl

pub end-2 : codes "end 2\n" ≡ end_text 2
unfolding digits
end-2 = refl

pub end-3 : codes "end 3\n" ≡ end_text 3
unfolding digits
end-3 = refl

pub end-4 : codes "end 4\n" ≡ end_text 4
unfolding digits
end-4 = refl

pub end-5 : codes "end 5\n" ≡ end_text 5
unfolding digits
end-5 = refl

pub kept : codes "ok\nend 0\n" ≡ line (codes "ok") ++ end_text 0
unfolding digits
kept = refl

-- a fault that is no refusal
pub not-refused : (fault : CommandFault)
    → (fault ≡ faults.Stopped) ⊎ ((fault ≡ faults.Busy) ⊎ ((fault ≡ faults.GenerationsSpent) ⊎ (fault ≡ faults.Disk)))
    → end_text 4 ≡ failed_text fault
not-refused faults.Stopped is = refl
not-refused faults.Busy is = refl
not-refused faults.GenerationsSpent is = refl
not-refused faults.Disk is = refl
not-refused (faults.Refused refusal) (inl e) = absurd cc
not-refused (faults.Refused refusal) (inr (inl e)) = absurd cc
not-refused (faults.Refused refusal) (inr (inr (inl e))) = absurd cc
not-refused (faults.Refused refusal) (inr (inr (inr e))) = absurd cc
