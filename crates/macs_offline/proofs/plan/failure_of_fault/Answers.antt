use Rattle.std.proofs.Common.{◌≡◌, ◌∙◌, inl, inr, refl, sym, List, ℕ, None}
use Rattle.macs_offline.specs.Plans.{link_refusal, plan_fault_text}
use Rattle.macs_offline.proofs.Checked.{complains-weaker}
use Rattle.macs_offline.proofs.plan.failure_of_fault.Goals as goal

pub returns-in-Some : goal.returns-in-Some
returns-in-Some c = inr (c.in-Some.refusal, refl, sym c.link_refusal.ensures ∙ c.in-Some.is)

pub returns-in-None : goal.returns-in-None
returns-in-None c =
    let none : link_refusal c.args.fault ≡ None = sym c.link_refusal.ensures ∙ c.in-None.is in
    inl (complains-weaker _
    (λ (said : List ℕ). (link_refusal c.args.fault ≡ None) × (said ≡ plan_fault_text c.args.fault))
    c.failure_saying.result (λ said is. (none, is)) (c.failure_saying.ensures _ c.fault_text.ensures))
