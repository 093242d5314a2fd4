-- What opening a disk promises: the endpoint that begins there, or why it is refused.
use Rattle.std.specs.Prelude.{◌≡◌, ◌⊎◌, [], None, Result, Ok, Err}
use Rattle.std.specs.Option.{option_map}
use Rattle.macs_config.specs.Config.{this_edition}
use Rattle.macs_config.specs.Identity.{Identity}
use Rattle.macs_disk.specs.Disk.{Disk, IsHonest, MayLeave, now}
use Rattle.macs_disk.specs.States.{Image}
use Rattle.macs_journal.specs.declared.fault.JournalFault.{JournalFault}
use Rattle.macs_journal.specs.declared.fault.JournalFault.TheVariants as variant
use Rattle.macs_journal.specs.declared.recovery.RecoverRefused.{RecoverRefused}
use Rattle.macs_txsc.specs.Transmit as transmit
use Rattle.macs_txsc.specs.Value as txsc
use Rattle.macs_txsc.specs.declared.channel.Tx.{Tx}
use Rattle.macs_rxsc.specs.Counting as counting
use Rattle.macs_rxsc.specs.Receive.{first_numbers, new_rx_side}
use Rattle.macs_rxsc.specs.Value as rxsc
use Rattle.macs_store.specs.Found.{StandingIs}
use Rattle.macs_store.specs.Opening.{OpensDisk, RefusesDisk}
use Rattle.macs_store.specs.Value.{StoreValue, standing_in}
use Rattle.macs_endpoint.specs.Counting.{new_channel_counters}
use Rattle.macs_endpoint.specs.Restart.{Fits, opened_state}
use Rattle.macs_endpoint.specs.State.{Logs, State}
use Rattle.macs_endpoint.specs.declared.turn.Turn.TheVariants.{Reservation}
use Rattle.macs_endpoint.specs.Value.{EndpointValue, IsAtRest, IsBacked, IsSoundEndpoint, disk_in, state_of}

-- a transmit channel is new: it has the SCI of this identity and no association, and its counters are 0
pub record IsNewTx (identity : Identity) (tx : Tx) : Type 0 where
  pub side : txsc.tx_side_of tx ≡ transmit.new_tx_side identity.sci
  pub ceilings : txsc.ceilings_of tx ≡ (λ an. None)
  pub counters : txsc.counters_of tx ≡ transmit.no_counts

-- the receive channels are new: there is none, and the counters are 0
pub record IsNewRx (rx : rxsc.RxValue) : Type 0 where
  pub side : rxsc.rx_side_of rx ≡ new_rx_side
  pub ceilings : rxsc.ceilings_of rx ≡ (λ sci an. None)
  pub counters : rxsc.counters_of rx ≡ counting.no_counts
  pub channel_counters : rxsc.channel_counters_of rx ≡ (λ sci. None)

-- A sound endpoint begins with the contents of a store: its packet numbers begin at their ceilings, nothing is under
-- way or pending, the first turn is a reservation's, and nothing has been counted.
pub record Begins {D : Type 0} (store : StoreValue D) (e : EndpointValue D) : Type 0 where
  pub from : e.store ≡ store
  pub sound : IsSoundEndpoint e
  pub idle : IsAtRest e × (e.under_way ≡ None)
  pub queue : (e.waiting ≡ []) × (e.tickets ≡ 0)
  pub turn : e.turn ≡ Reservation
  pub next : (txsc.tx_side_of e.tx).next ≡ (standing_in store).ceilings.tx
  pub numbers : (rxsc.rx_side_of e.rx).numbers
      ≡ (λ sci an. option_map first_numbers ((standing_in store).ceilings.rx sci an))
  pub tx_counters : txsc.counters_of e.tx ≡ transmit.no_counts
  pub rx_counters : rxsc.counters_of e.rx ≡ counting.no_counts
  pub channel_counters : rxsc.channel_counters_of e.rx ≡ new_channel_counters (standing_in store).config.channels

-- the result for an opened store, or for a refusal, which is unchanged
abbrev pub BeginsOpened : {D : Type 0} → Result (StoreValue D) (RecoverRefused D)
    → Result (EndpointValue D) (RecoverRefused D) → Type 0
BeginsOpened (Ok store) (Ok e) = Begins store e
BeginsOpened (Ok store) (Err left) = ⊥
BeginsOpened (Err refused) (Ok e) = ⊥
BeginsOpened (Err refused) (Err left) = left ≡ refused

-- A disk is opened as this endpoint. Its state is that of one that begins with the contents of its store, after any
-- logs, no work is under way, and nothing has been counted. On an honest disk the disk represented that, and holds it.
pub record Opens {D : Type 0} (disk_of : D → Disk) (disk : D) (e : EndpointValue D) : Type 0 where
  pub device : OpensDisk (disk_of disk) (disk_in disk_of e) (standing_in e.store)
  pub state : (logs : Logs) → state_of e logs ≡ opened_state (standing_in e.store) logs
  pub idle : IsAtRest e
  pub turn : e.turn ≡ Reservation
  pub found : IsHonest (disk_in disk_of e)
      → StandingIs this_edition (disk_of disk).sectors (now (disk_of disk)).seen (Ok (standing_in e.store))
  pub backed : IsHonest (disk_in disk_of e) → IsBacked disk_of e
  pub tx_counters : txsc.counters_of e.tx ≡ transmit.no_counts
  pub rx_counters : rxsc.counters_of e.rx ≡ counting.no_counts
  pub channel_counters : rxsc.channel_counters_of e.rx ≡ new_channel_counters (standing_in e.store).config.channels

-- A disk is refused because of what is on it, or because a device call failed. If each image that a power loss could
-- leave of an honest disk fits a state, the only remaining causes are a failed device call, and a journal of format one
-- in the last generation.
pub record RefusesOpening {D : Type 0} (disk_of : D → Disk) (disk left : D) (fault : JournalFault) : Type 0 where
  pub refused : RefusesDisk disk_of disk left fault
  pub opens : IsHonest (disk_of left) → ((image : Image) → MayLeave (disk_of disk) image
      → (s : State) × Fits this_edition (disk_of disk).sectors image s)
      → (fault ≡ variant.Disk) ⊎ (fault ≡ variant.GenerationsSpent)

-- A disk is opened, or refused.
abbrev pub IsOpening : {D : Type 0} → (D → Disk) → D → Result (EndpointValue D) (RecoverRefused D) → Type 0
IsOpening disk_of disk (Ok e) = Opens disk_of disk e
IsOpening disk_of disk (Err refused) = RefusesOpening disk_of disk refused.disk refused.fault
