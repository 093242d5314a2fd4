-- An endpoint in memory, and what its disk holds.
use Rattle.std.specs.Prelude.{◌≡◌, ◌⊎◌, ◌<◌, ◌≤◌, ◌+◌, ◌/◌, ◌^◌, ℕ, Bool, false, List, ◌∷◌, length, Option, Some, None}
use Rattle.std.specs.Prelude.{IsSomeAnd, Ok}
use Rattle.macs_config.specs.Apply.{IsCommand}
use Rattle.macs_config.specs.Identity.{Identity, IsIdentity}
use Rattle.macs_config.specs.Numbers.{block_beyond}
use Rattle.macs_config.specs.declared.command.Command.{Command}
use Rattle.macs_disk.specs.Disk.{Disk, MayLeave}
use Rattle.macs_disk.specs.States.{Image}
use Rattle.macs_record.specs.declared.format.Format.TheVariants.{Two}
use Rattle.macs_journal.specs.Areas.{least_sectors}
use Rattle.macs_journal.specs.Found.{HasFormat}
use Rattle.macs_txsc.specs.Value as txsc
use Rattle.macs_txsc.specs.declared.channel.Tx.{Tx}
use Rattle.macs_rxsc.specs.Receive.{Numbers}
use Rattle.macs_rxsc.specs.Value as rxsc
use Rattle.macs_store.specs.Value.{IsIdle, IsStored, StoreValue, standing_in, standing_then}
use Rattle.macs_store.specs.Value as store
use Rattle.macs_store.specs.Standing.{Standing, accept}
use Rattle.macs_endpoint.specs.Ceilings.{Raise, RaiseRx, RaiseTx, standing_with_raise}
use Rattle.macs_endpoint.specs.Restart.{Fits, rx_limit}
use Rattle.macs_endpoint.specs.Queue.{last_ticket, queue_length}
use Rattle.macs_endpoint.specs.State.{Logs, State, rx_side_with, tx_side_with}
use Rattle.macs_endpoint.specs.declared.queue.Waiting.{Waiting}
use Rattle.macs_endpoint.specs.declared.turn.Turn.{Turn}

-- An endpoint: its store, its channels, the command whose call or whose work on the disk began and did not end, the
-- ceiling that is being raised, the pending commands, how many tickets were given, and whose turn it is if a ceiling is
-- needed and a command is pending
pub record EndpointValue (D : Type 0) : Type 0 where
  pub store : StoreValue D
  pub tx : Tx
  pub rx : rxsc.RxValue
  pub under_way : Option Command
  pub reserving : Option Raise
  pub waiting : List Waiting
  pub tickets : ℕ
  pub turn : Turn

-- its device
abbrev pub device_in : {D : Type 0} → EndpointValue D → D
device_in e = store.device_in e.store

-- its disk, where `disk_of` gives the disk of a device
abbrev pub disk_in : {D : Type 0} → (D → Disk) → EndpointValue D → Disk
disk_in disk_of e = store.disk_in disk_of e.store

-- the endpoint on another device
abbrev pub on_device : {D E : Type 0} → EndpointValue D → E → EndpointValue E
on_device e device =
    record {
      store = store.on_device e.store device;
      tx = e.tx;
      rx = e.rx;
      under_way = e.under_way;
      reserving = e.reserving;
      waiting = e.waiting;
      tickets = e.tickets;
      turn = e.turn;
    }

-- a device call failed: no other is made
abbrev pub is_stopped : {D : Type 0} → EndpointValue D → Bool
is_stopped e = store.is_stopped e.store

-- its state, after these logs
abbrev pub state_of : {D : Type 0} → EndpointValue D → Logs → State
state_of e logs = record {
  edition = (standing_in e.store).edition;
  identity = (standing_in e.store).identity;
  config = (standing_in e.store).config;
  next = (txsc.tx_side_of e.tx).next;
  numbers = (rxsc.rx_side_of e.rx).numbers;
  logs = logs;
  stopped = is_stopped e;
  under_way = e.under_way;
  waiting = e.waiting;
  tickets = e.tickets;
}

-- ---- what holds of it in memory

-- a next transmit number is at least 1, and its ceiling is at least that number, and at most a block and a half greater
abbrev pub IsTxWithin : ℕ → Option ℕ → Option ℕ → Type 0
IsTxWithin block (Some next) (Some ceiling) = (1 ≤ next) × (next ≤ ceiling) × (ceiling ≤ next + (block + block / 2))
    × (ceiling ≤ 2 ^ 32)
IsTxWithin block None None = Unit {0}
IsTxWithin block next ceiling = ⊥

-- a receive ceiling is not below the next number, and no further than receive numbers may rise
abbrev pub IsRxWithin : ℕ → Option Numbers → Option ℕ → Type 0
IsRxWithin block (Some numbers) (Some ceiling) = (numbers.next ≤ ceiling)
    × (ceiling ≤ rx_limit block numbers.next numbers.seen)
IsRxWithin block None None = Unit {0}
IsRxWithin block numbers ceiling = ⊥

-- the channels have the configuration and the ceilings of a standing; their packet numbers are not restricted
pub record AreChannels (tx : Tx) (rx : rxsc.RxValue) (s : Standing) : Type 0 where
  pub tx_is : txsc.tx_side_of tx ≡ tx_side_with s.identity s.config (txsc.tx_side_of tx).next
  pub rx_is : rxsc.rx_side_of rx ≡ rx_side_with s.config (rxsc.rx_side_of rx).numbers
  pub tx_ceilings : txsc.ceilings_of tx ≡ s.ceilings.tx
  pub rx_ceilings : rxsc.ceilings_of rx ≡ s.ceilings.rx

-- each association has its numbers and a ceiling that is not too far ahead, and a receive channel has at most four
-- associations
pub record AreWithin (tx : Tx) (rx : rxsc.RxValue) (identity : Identity) : Type 0 where
  pub tx_within : (an : ℕ) → IsTxWithin identity.tx_block ((txsc.tx_side_of tx).next an) (txsc.ceilings_of tx an)
  pub rx_within : (sci : List ℕ) (an : ℕ)
      → IsRxWithin identity.rx_block ((rxsc.rx_side_of rx).numbers sci an) (rxsc.ceilings_of rx sci an)
  pub few : (sci : List ℕ) (an : ℕ) → 4 ≤ an → (rxsc.rx_side_of rx).numbers sci an ≡ None

-- a raised transmit ceiling is at most a block and a half above the next number
abbrev pub IsTxRaiseWithin : ℕ → Option ℕ → Option ℕ → Type 0
IsTxRaiseWithin block (Some next) (Some ceiling) = (ceiling < 2 ^ 32)
    × (block_beyond ceiling block ≤ next + (block + block / 2))
IsTxRaiseWithin block next ceiling = ⊥

-- a raised receive ceiling is a block beyond a number that was seen, and above the ceiling
abbrev pub IsRxRaiseWithin : ℕ → ℕ → Option Numbers → Option ℕ → Type 0
IsRxRaiseWithin block pn (Some numbers) (Some ceiling) = IsSomeAnd numbers.seen (λ seen. pn ≤ seen)
    × (ceiling < block_beyond pn block)
IsRxRaiseWithin block pn numbers ceiling = ⊥

-- a ceiling that is being raised will not be too far ahead
abbrev pub IsRaiseWithin : Tx → rxsc.RxValue → Identity → Raise → Type 0
IsRaiseWithin tx rx identity (RaiseTx an) =
    IsTxRaiseWithin identity.tx_block ((txsc.tx_side_of tx).next an) (txsc.ceilings_of tx an)
IsRaiseWithin tx rx identity (RaiseRx need) =
    IsRxRaiseWithin identity.rx_block need.pn ((rxsc.rx_side_of rx).numbers need.sci need.an)
    (rxsc.ceilings_of rx need.sci need.an)

-- no work is under way: nothing is being raised, and no command is under way unless a device call failed
pub record IsAtRest {D : Type 0} (e : EndpointValue D) : Type 0 where
  pub store : IsIdle e.store
  pub reserving : e.reserving ≡ None
  pub under_way : is_stopped e ≡ false → e.under_way ≡ None

-- a ceiling is being raised
pub record IsReserving {D : Type 0} (e : EndpointValue D) : Type 0 where
  pub running : is_stopped e ≡ false
  pub busy : ¬ IsIdle e.store
  pub raise : Raise
  pub reserving : e.reserving ≡ Some raise
  pub under_way : e.under_way ≡ None
  pub leads : standing_then e.store ≡ Some (standing_with_raise (standing_in e.store) raise)
  pub within : IsRaiseWithin e.tx e.rx (standing_in e.store).identity raise

-- the first pending command is being kept
pub record IsKeeping {D : Type 0} (e : EndpointValue D) : Type 0 where
  pub running : is_stopped e ≡ false
  pub busy : ¬ IsIdle e.store
  pub reserving : e.reserving ≡ None
  pub first : Waiting
  pub rest : List Waiting
  pub waiting : e.waiting ≡ first ∷ rest
  pub under_way : e.under_way ≡ Some first.command
  pub in_range : IsCommand first.command
  pub after : Standing
  pub leads : standing_then e.store ≡ Some after
  pub accepted : accept (standing_in e.store) first.command ≡ Ok after

-- The channels are those of the standing, no ceiling is too far ahead, the queue is not overfull, and the work under
-- way is one of these.
pub record IsSoundEndpoint {D : Type 0} (e : EndpointValue D) : Type 0 where
  pub identity : IsIdentity (standing_in e.store).identity
  pub channels : AreChannels e.tx e.rx (standing_in e.store)
  pub within : AreWithin e.tx e.rx (standing_in e.store).identity
  pub few : length e.waiting ≤ queue_length
  pub tickets : e.tickets ≤ last_ticket
  pub work : IsAtRest e ⊎ (IsReserving e ⊎ IsKeeping e)

-- ---- what its disk holds

-- The disk holds what is in memory, with the work under way, unless a device call failed; and what a power loss leaves
-- now fits the state, in a journal of format two.
pub record IsBacked {D : Type 0} (disk_of : D → Disk) (e : EndpointValue D) : Type 0 where
  pub size : least_sectors ≤ (disk_in disk_of e).sectors
  pub stored : is_stopped e ≡ false → IsStored disk_of e.store
  pub fits : (logs : Logs) (image : Image) → MayLeave (disk_in disk_of e) image
      → Fits (state_of e logs).edition (disk_in disk_of e).sectors image (state_of e logs)
  pub form : (image : Image) → MayLeave (disk_in disk_of e) image → HasFormat image Two
