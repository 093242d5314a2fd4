use Rattle.std.proofs.Common.{◌≡◌, ◌≤◌, ◌<◌, ◌^◌, ◌==◌, ◌∙◌, inl, inr, ℕ, false, List, Option, Some, None, Ok, sym, ap}
use Rattle.std.proofs.Common.{subst, arith}
use Rattle.std.proofs.lemmas.Bool.Decides.{nat_tests}
use Rattle.macs_txsc.specs.Transmit.{Outgoing, is_used_up}
use Rattle.macs_disk.specs.Disk.{Disk}
use Rattle.macs_store.specs.Value.{standing_in}
use Rattle.macs_endpoint.specs.Calls.{IsCall}
use Rattle.macs_endpoint.specs.State.{Protects, Protected, no_logs, tx_side}
use Rattle.macs_endpoint.specs.Value.{EndpointValue, IsSoundEndpoint, IsTxWithin, state_of}
use Rattle.macs_endpoint.proofs.Fitting.{kept-ahead}
use Rattle.macs_endpoint.proofs.Framing.{not_exhausted, outgoing_next}
use Rattle.macs_endpoint.proofs.laws.frame_numbers_in_range.Goals as goal

-- ---- the packet number of a frame that goes out

-- a next number that is not the end of numbers
below_end : (block pn : ℕ) (ceiling : Option ℕ) → IsTxWithin block (Some pn) ceiling → (pn == 2 ^ 32) ≡ false
    → (1 ≤ pn) × (pn < 2 ^ 32)
below_end block pn None within left = absurd within
below_end block pn (Some ceiling) within left =
    let order : pn ≤ ceiling = within.1 in
    let bounded : ceiling ≤ 2 ^ 32 = within.3 in
    (within.0, grind (arith, nat_tests, left, order, bounded))

-- 1 to 2^32 - 1
frame-number : {D : Type 0} (disk_of : D → Disk) (old new : EndpointValue D) (plain out : List ℕ) (pn : ℕ)
    → IsSoundEndpoint old
    → IsCall disk_of old (Protects plain) (Protected (Ok pn) out) new → (1 ≤ pn) × (pn < 2 ^ 32)
frame-number disk_of old new plain out pn kept call =
    let side = tx_side (state_of old no_logs) in
    let block = (standing_in old.store).identity.tx_block in
    let c = (standing_in old.store).ceilings.tx in
    elim (call.behaves.step no_logs).1 [
      | inl stopped ↦ absurd stopped.1
      | inr ran ↦
          let went = ran.1.1 in
          let o : Outgoing = went.0 in
          let left : (o.pn == 2 ^ 32) ≡ false = ap is_used_up (sym went.1) ∙ not_exhausted _ _ _ _ _ ran.1.0 in
          let within : IsTxWithin block (Some o.pn) (c o.an) =
          subst (λ (n : Option ℕ). IsTxWithin block n (c o.an)) (outgoing_next side side.encoding o went.1)
          ((kept-ahead old kept).tx_ahead o.an) in
          subst (λ (n : ℕ). (1 ≤ n) × (n < 2 ^ 32)) (sym went.2) (below_end block o.pn (c o.an) within left)
    ]

pub returns : goal.returns
returns g c = frame-number g.D.SectorDisk.disk
