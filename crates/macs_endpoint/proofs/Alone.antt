-- Calls that leave the store alone.
use Rattle.std.proofs.Common.{inr}
use Rattle.macs_disk.specs.Disk.{Disk}
use Rattle.macs_disk.proofs.Moments.{Leaves-start, Works-start}
use Rattle.macs_endpoint.specs.Calls.{CallBehaves, Fails, IsCall}
use Rattle.macs_endpoint.specs.Restart.{FitsCall}
use Rattle.macs_endpoint.specs.State.{Call, Reply}
use Rattle.macs_endpoint.specs.Value.{EndpointValue, IsBacked, disk_in, state_of}

module _ {D : Type 0} (disk_of : D → Disk) (old other : EndpointValue D) where
  abbrev pub alone : EndpointValue D
  alone = record other { store = old.store }

  -- no device call is made, and what a power loss leaves fits the state after the call
  pub alone-call : (call : Call) (reply : Reply) → Fails (disk_in disk_of old) (disk_in disk_of old) reply
      → (IsBacked disk_of old → IsBacked disk_of alone) → CallBehaves disk_of old call reply alone
      → IsCall disk_of old call reply alone
  alone-call call reply fails backs behaves = record {
    behaves = behaves;
    device = record { works = Works-start (disk_in disk_of old); fails = fails };
    survives = λ honest backed. record {
      any_moment = λ logs after. Leaves-start (disk_in disk_of old)
          (FitsCall (disk_in disk_of old).sectors (state_of old logs) call (state_of alone after))
          (λ image left. inr ((backs backed).fits after image left));
      backed = backs backed;
    };
  }
