use Rattle.std.proofs.Common.{◌∷◌, Bool, List, ℕ, [], Option, Result, Ok, Err, IfErr, refl}
use Rattle.macs_rxsc.specs.declared.verdict.Verdict.{Verdict}
use Rattle.macs_disk.specs.Disk.{Disk}
use Rattle.macs_endpoint.specs.Calls.{IsCall}
use Rattle.macs_endpoint.specs.State.{Call, Refilled, Refills, Reply}
use Rattle.macs_endpoint.specs.Step.{IsStopped}
use Rattle.macs_endpoint.specs.Value.{EndpointValue, IsSoundEndpoint}
use Rattle.macs_endpoint.specs.declared.fault.RefillFault.{RefillFault}
use Rattle.macs_endpoint.specs.declared.fault.RefillFault.TheVariants as refill
use Rattle.macs_edge.specs.Settling.{call_on, Halts, HandsInAgain, Means, Waits, ending_of}
use Rattle.macs_edge.specs.declared.settling.Outcome.{Outcome}
use Rattle.macs_edge.specs.declared.settling.Outcome.TheVariants as outcome
use Rattle.macs_edge.proofs.Again.{ended, settled-at_last}
use Rattle.macs_edge.proofs.settling.settle.Goals as goal

-- A frame that is handed in and not settled.
module _ {D : Type 0} (disk_of : D → Disk) (old : EndpointValue D) (call : Call) (reply : Reply)
    (sound : IsSoundEndpoint old) where
  -- the endpoint is stopped
  halts-stopped : (new : EndpointValue D) → IsCall disk_of old call reply new → IsStopped call reply
      → Halts disk_of old call refill.Stopped new
  halts-stopped new is stopped = record {
    turns = record { call = call; reply = reply; after = new } ∷ [];
    lives = (sound, is, refl);
    handed = (refl, stopped, refl);
  }

  -- the refill that the frame waits for is refused
  halts-refused : (waiting new : EndpointValue D) (fault : RefillFault) → IsSoundEndpoint waiting
      → IsCall disk_of old call reply waiting → Waits reply
      → IsCall disk_of waiting Refills (Refilled (Err fault)) new → Halts disk_of old call fault new
  halts-refused waiting new fault sound_waiting one waits two = record {
    turns = record { call = call; reply = reply; after = waiting }
        ∷ record { call = Refills; reply = Refilled (Err fault); after = new } ∷ [];
    lives = (sound, one, (sound_waiting, two, refl));
    handed = (refl, waits, refl, refl);
  }

module _ {D : Type 0} (disk_of : D → Disk) (old : EndpointValue D) (call : Call) (sound : IsSoundEndpoint old) where
  -- of the answers that do not wait this one alone ends the run
  halts-at_once : (new : EndpointValue D) (out : List ℕ) (what : Outcome)
      → (reply : Reply) × IsCall disk_of old call reply new × Means call reply out what
      → IfErr (ending_of what) (λ fault. Halts disk_of old call fault new)
  halts-at_once new out outcome.Passed answered = tt
  halts-at_once new out outcome.Dropped answered = tt
  halts-at_once new out outcome.Waiting answered = tt
  halts-at_once new out outcome.Stopped (reply, is, stopped) = halts-stopped disk_of old call reply sound new is stopped

  -- and of those that wait the refill that is refused
  halts-behind : (waiting new : EndpointValue D) (out : List ℕ) (verdict : Option Verdict) (first : Reply)
      (result : Result Bool RefillFault) → IsCall disk_of old call first waiting → Waits first
      → HandsInAgain disk_of waiting call result out verdict new
      → IfErr result (λ fault. Halts disk_of old call fault new)
  halts-behind waiting new out verdict first (Ok passes) one waits again = tt
  halts-behind waiting new out verdict first (Err fault) one waits (sound_waiting, refused) =
      halts-refused disk_of old call first sound waiting new fault sound_waiting one waits refused

pub returns-in-Waiting-clause-settled : goal.returns-in-Waiting-clause-settled
returns-in-Waiting-clause-settled g c =
    let (first, one, waits, noted) = c.in-Waiting.ensures in
    settled-at_last g.D.SectorDisk.disk c.args.endpoint.now c.hand_in_noting-first.new.endpoint
    c.hand_in_again.new.endpoint c.args.side c.args.frame.now
    c.hand_in_again.new.out.items c.hand_in_again.new.verdict first c.hand_in_again.result c.facts.ensures one waits
    c.hand_in_again.ensures

pub returns-in-Waiting-clause-fault : goal.returns-in-Waiting-clause-fault
returns-in-Waiting-clause-fault g c =
    let (first, one, waits, noted) = c.in-Waiting.ensures in
    halts-behind g.D.SectorDisk.disk c.args.endpoint.now (call_on c.args.side c.args.frame.now) c.facts.ensures
    c.hand_in_noting-first.new.endpoint
    c.hand_in_again.new.endpoint c.hand_in_again.new.out.items c.hand_in_again.new.verdict first c.hand_in_again.result
    one waits c.hand_in_again.ensures

pub returns-in_default-clause-settled : goal.returns-in_default-clause-settled
returns-in_default-clause-settled g c =
    rw c.ending_of.ensures (ended g.D.SectorDisk.disk c.args.endpoint.now c.hand_in_noting-first.new.endpoint
    (call_on c.args.side c.args.frame.now)
    c.hand_in_noting-first.new.out.items c.hand_in_noting-first.result c.hand_in_noting-first.new.verdict
    c.in_default.not-Waiting c.facts.ensures c.hand_in_noting-first.ensures)

pub returns-in_default-clause-fault : goal.returns-in_default-clause-fault
returns-in_default-clause-fault g c =
    let (reply, is, means, noted) = c.hand_in_noting-first.ensures in
    rw c.ending_of.ensures
    (halts-at_once g.D.SectorDisk.disk c.args.endpoint.now (call_on c.args.side c.args.frame.now) c.facts.ensures
    c.hand_in_noting-first.new.endpoint c.hand_in_noting-first.new.out.items c.hand_in_noting-first.result
    (reply, is, means))
