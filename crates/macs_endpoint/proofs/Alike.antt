-- Frames leave what is under way and what waits as they were.
use Rattle.std.proofs.Common.{◌≡◌, inl, inr, ℕ, List, Result, Ok, Err, ap}
use Rattle.macs_rxsc.specs.declared.verdict.Verdict.{Verdict}
use Rattle.macs_endpoint.specs.State.{State}
use Rattle.macs_endpoint.specs.Step.{ProtectStep, ReceiveStep}
use Rattle.macs_endpoint.specs.declared.fault.ProtectFault.{ProtectFault}
use Rattle.macs_endpoint.specs.declared.fault.ProtectFault.TheVariants as protect
use Rattle.macs_endpoint.specs.declared.fault.Stopped.{Stopped}

module _ (s t : State) where
  -- what is under way and what waits are as they were
  abbrev pub IsAlike : Type 0
  IsAlike = (t.under_way ≡ s.under_way) × (t.waiting ≡ s.waiting)

  pub alike-protect : (plain : List ℕ) (result : Result ℕ ProtectFault) (out : List ℕ)
      → ProtectStep s plain result out t → IsAlike
  alike-protect plain (Ok pn) out (none, (o, is_o, is_pn, is_out, is)) =
      (ap (λ (x : State). x.under_way) is, ap (λ (x : State). x.waiting) is)
  alike-protect plain (Err (protect.Tx fault)) out (why, empty, is) =
      (ap (λ (x : State). x.under_way) is, ap (λ (x : State). x.waiting) is)
  alike-protect plain (Err protect.Stopped) out h = absurd h

  pub alike-receive : (frame : List ℕ) (result : Result Verdict Stopped) (out : List ℕ)
      → ReceiveStep s frame result out t → IsAlike
  alike-receive frame (Ok verdict) out (inl (step, is_first, is_verdict, is_out, is)) =
      (ap (λ (x : State). x.under_way) is, ap (λ (x : State). x.waiting) is)
  alike-receive frame (Ok verdict) out (inr (a, there, inl (is_verdict, above, is_out, is))) =
      (ap (λ (x : State). x.under_way) is, ap (λ (x : State). x.waiting) is)
  alike-receive frame (Ok verdict) out (inr (a, there, inr (is_verdict, is_out, is))) =
      (ap (λ (x : State). x.under_way) is, ap (λ (x : State). x.waiting) is)
  alike-receive frame (Err stopped) out h = absurd h
