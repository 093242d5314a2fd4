use Rattle.std.proofs.Common.{◌≡◌, ◌∙◌, ◌+◌, ◌-◌, ℕ, false, Option, Some, None, Result, Ok, refl, ap, arith}
use Rattle.std.specs.Option.{option_map}
use Rattle.macs_rxsc.specs.Receive.{Numbers, first_numbers}
use Rattle.macs_disk.specs.Disk.{Disk, MayLeave}
use Rattle.macs_disk.specs.States.{Image}
use Rattle.macs_journal.specs.declared.fault.JournalFault.{JournalFault}
use Rattle.macs_store.specs.Found.{StandingIs}
use Rattle.macs_store.specs.Standing.{Standing}
use Rattle.macs_store.specs.Value.{IsIdle, standing_in}
use Rattle.macs_store.proofs.Keeping.{stored-image}
use Rattle.macs_store.proofs.OneStanding.{one_standing}
use Rattle.macs_endpoint.specs.Reserved.{Skips, number_after, numbers_between, reserved_of}
use Rattle.macs_endpoint.specs.Restart.{opened_state}
use Rattle.macs_endpoint.specs.State.{Logs}
use Rattle.macs_endpoint.specs.Value.{EndpointValue, IsBacked, IsRxWithin, IsSoundEndpoint, IsTxWithin, disk_in}
use Rattle.macs_endpoint.specs.Value.{is_stopped, state_of}
use Rattle.macs_endpoint.proofs.Fitting.{kept-ahead}
use Rattle.macs_endpoint.proofs.reserved.numbers_are_skipped.Goals as goal

-- ---- the numbers that an opening skips are those that were reserved

-- a ceiling is as many numbers after the next one as there are between them
tx_at : (block : ℕ) (n c : Option ℕ) → IsTxWithin block n c → c ≡ number_after n (numbers_between n c)
tx_at block None None within = refl
tx_at block None (Some ceiling) within = absurd within
tx_at block (Some next) None within = absurd within
tx_at block (Some next) (Some ceiling) within =
    let below = within.1 in
    let e : ceiling ≡ next + (ceiling - next) = omega (arith, below) in
    ap (λ (x : ℕ). Some x) e

-- the next number of a receive association
abbrev next_in : Option Numbers → Option ℕ
next_in numbers = option_map (λ (n : Numbers). n.next) numbers

rx_at : (block : ℕ) (n : Option Numbers) (c : Option ℕ) → IsRxWithin block n c
    → c ≡ number_after (next_in n) (numbers_between (next_in n) c)
rx_at block None None within = refl
rx_at block None (Some ceiling) within = absurd within
rx_at block (Some n) None within = absurd within
rx_at block (Some n) (Some ceiling) within =
    let below = within.0 in
    let e : ceiling ≡ n.next + (ceiling - n.next) = omega (arith, below) in
    ap (λ (x : ℕ). Some x) e

abbrev standing_ok : Standing → Result Standing JournalFault
standing_ok s = Ok s

ok_same : (a b : Standing) → standing_ok a ≡ standing_ok b → a ≡ b
ok_same a b is = cc

-- an opening finds the standing in memory
skips : {D : Type 0} (disk_of : D → Disk) (e : EndpointValue D) (logs : Logs) (image : Image) (found : Standing)
    → IsSoundEndpoint e → IsIdle e.store → is_stopped e ≡ false → IsBacked disk_of e
    → MayLeave (disk_in disk_of e) image
    → StandingIs (state_of e logs).edition (disk_in disk_of e).sectors image (Ok found)
    → Skips (reserved_of e) (state_of e logs) (opened_state found logs)
skips disk_of e logs image found kept idle running backed left is =
    let now : Standing = standing_in e.store in
    let stands : StandingIs (state_of e logs).edition (disk_in disk_of e).sectors image (Ok now) =
    (backed.size, stored-image disk_of e.store idle (backed.stored running) image left) in
    let same : found ≡ now =
    ok_same found now
    (one_standing (state_of e logs).edition (disk_in disk_of e).sectors image (Ok found) (Ok now) is stands) in
    let are = kept-ahead e kept in
    record {
      next = λ an. ap (λ (x : Standing). x.ceilings.tx an) same
          ∙ tx_at now.identity.tx_block ((state_of e logs).next an) (now.ceilings.tx an) (are.tx_ahead an);
      numbers = λ sci an. ap (λ (x : Standing). option_map first_numbers (x.ceilings.rx sci an)) same
          ∙ ap (λ (c : Option ℕ). option_map first_numbers c)
          (rx_at now.identity.rx_block ((state_of e logs).numbers sci an) (now.ceilings.rx sci an)
          (are.rx_ahead sci an));
    }

pub returns : goal.returns
returns g c = skips g.D.SectorDisk.disk
