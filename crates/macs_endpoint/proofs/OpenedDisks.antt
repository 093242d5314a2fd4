-- A disk that is opened, or refused: what its store is makes the endpoint.
use Rattle.std.proofs.Common.{◌≡◌, ◌≢◌, ◌≤◌, ◌⊎◌, inl, inr, ℕ, [], false, None, Result, Ok, Err, IfOk, refl, sym, ◌∙◌}
use Rattle.std.proofs.Common.{ap, subst}
use Rattle.std.specs.Option.{option_map}
use Rattle.macs_config.specs.Config.{this_edition}
use Rattle.macs_disk.specs.Disk.{Disk, IsHonest, now}
use Rattle.macs_disk.specs.States.{Image, IsSound}
use Rattle.macs_journal.specs.Areas.{least_sectors}
use Rattle.macs_journal.specs.declared.fault.JournalFault.{JournalFault}
use Rattle.macs_journal.specs.declared.fault.JournalFault.TheVariants.{Stopped, TooSmall, Disk as Failed}
use Rattle.macs_journal.specs.declared.fault.JournalFault.TheVariants.{AlreadyFormatted, NotFormatted, BadJournal}
use Rattle.macs_journal.specs.declared.fault.JournalFault.TheVariants.{GenerationsSpent}
use Rattle.macs_txsc.specs.Value as txsc
use Rattle.macs_rxsc.specs.Receive.{first_numbers}
use Rattle.macs_rxsc.specs.Value as rxsc
use Rattle.macs_store.specs.Found.{IsUnfitTo, StandingIs}
use Rattle.macs_journal.specs.declared.recovery.RecoverRefused.{RecoverRefused}
use Rattle.macs_store.specs.Opening.{IsStoreOpening, Opens as OpensStore, RefusesDisk}
use Rattle.macs_store.specs.Value.{IsIdle, StoreValue, device_in, on_device, standing_in}
use Rattle.macs_store.specs.Standing.{Standing}
use Rattle.macs_store.proofs.OneStanding.{one_standing}
use Rattle.macs_endpoint.specs.Value.{EndpointValue, is_stopped, state_of}
use Rattle.macs_endpoint.specs.Value as endpoint
use Rattle.macs_endpoint.specs.Opening.{Begins, BeginsOpened, IsOpening, Opens, RefusesOpening}
use Rattle.macs_endpoint.specs.Restart.{Fits, opened_state}
use Rattle.macs_endpoint.specs.State.{Logs, State}
use Rattle.macs_endpoint.proofs.MadeSteps.{before-rest, before-sound}
use Rattle.macs_endpoint.proofs.Working.{kept-backed}

-- ---- a disk that fits a state is refused for the device, or for its last generation

not_found : (sectors : ℕ) (image : Image) (fault : JournalFault) → StandingIs this_edition sectors image (Err fault)
    → (s : State) × Fits this_edition sectors image s → ⊥
not_found sectors image fault is fits =
    let same : ◌≡◌ {A = Result Standing JournalFault} (Err fault) (Ok fits.1.found) =
    one_standing this_edition sectors image (Err fault) (Ok fits.1.found) is fits.1.is_found in cc

by_device : (sectors : ℕ) (image : Image) (fault : JournalFault)
    → (fault ≢ Failed → IsUnfitTo this_edition sectors image fault) → (s : State) × Fits this_edition sectors image s
    → (fault ≡ Failed) ⊎ (fault ≡ GenerationsSpent)
by_device sectors image Failed found fits = inl refl
by_device sectors image Stopped found fits = absurd (not_found sectors image Stopped (found (λ is. cc)) fits)
by_device sectors image TooSmall found fits = absurd (not_found sectors image TooSmall (found (λ is. cc)) fits)
by_device sectors image AlreadyFormatted found fits =
    absurd (not_found sectors image AlreadyFormatted (found (λ is. cc)) fits)
by_device sectors image NotFormatted found fits = absurd (not_found sectors image NotFormatted (found (λ is. cc)) fits)
by_device sectors image BadJournal found fits = absurd (not_found sectors image BadJournal (found (λ is. cc)) fits)
by_device sectors image GenerationsSpent found fits = inr refl

begins : {D : Type 0} (e : EndpointValue D) (logs : Logs)
    → (txsc.tx_side_of e.tx).next ≡ (standing_in e.store).ceilings.tx
    → (rxsc.rx_side_of e.rx).numbers ≡ (λ sci an. option_map first_numbers ((standing_in e.store).ceilings.rx sci an))
    → is_stopped e ≡ false → e.under_way ≡ None → e.waiting ≡ [] → e.tickets ≡ 0
    → state_of e logs ≡ opened_state (standing_in e.store) logs
begins e logs next numbers running idle none zero = λ i. record {
  edition = this_edition;
  identity = (standing_in e.store).identity;
  config = (standing_in e.store).config;
  next = next i;
  numbers = numbers i;
  logs = logs;
  stopped = running i;
  under_way = idle i;
  waiting = none i;
  tickets = zero i;
}

-- ---- a store that was opened, or a refusal

module _ {D : Type 0} (disk_of : D → Disk) (disk : D) (sound : IsHonest (disk_of disk)
    → IsSound (now (disk_of disk))) where
  pub opened : (store : StoreValue D) (e : EndpointValue D) → OpensStore disk_of disk store → Begins store e
      → Opens disk_of disk e
  opened store e found begun =
      let from = sym begun.from in
      let is = subst (λ (s : StoreValue D). Begins s e) from begun in
      let there = subst (λ (s : StoreValue D). OpensStore disk_of disk s) from found in
      record {
        device = there.device;
        state = λ logs. begins e logs is.next is.numbers there.running is.idle.1 is.queue.0 is.queue.1;
        idle = is.idle.0;
        turn = is.turn;
        found = there.found;
        backed = λ honest. kept-backed e is.sound disk_of (subst (λ (n : ℕ). least_sectors ≤ n)
            (sym there.device.works.sectors) there.device.large) (there.stored honest);
        tx_counters = is.tx_counters;
        rx_counters = is.rx_counters;
        channel_counters = is.channel_counters;
      }

  pub refuses : (refused : RecoverRefused D) → RefusesDisk disk_of disk refused.disk refused.fault
      → RefusesOpening disk_of disk refused.disk refused.fault
  refuses refused is = record {
    refused = is;
    opens = λ honest fits.
        by_device (disk_of disk).sectors (now (disk_of disk)).seen refused.fault (λ other. is.found other honest)
        (fits (now (disk_of disk)).seen (sound (sym is.works.honest ∙ honest)).fit);
  }

  pub goes_on : (found : Result (StoreValue D) (RecoverRefused D))
      (result : Result (EndpointValue D) (RecoverRefused D)) → IsStoreOpening disk_of disk found
      → BeginsOpened found result → IsOpening disk_of disk result
  goes_on (Ok store) (Ok e) is begun = opened store e is begun
  goes_on (Ok store) (Err left) is begun = absurd begun
  goes_on (Err refused) (Ok e) is begun = absurd begun
  goes_on (Err refused) (Err left) is same =
      subst (λ (r : RecoverRefused D). RefusesOpening disk_of disk r.disk r.fault) (sym same) (refuses refused is)

  pub idle_if : (found : Result (StoreValue D) (RecoverRefused D)) → IsStoreOpening disk_of disk found
      → IfOk found IsIdle
  idle_if (Ok store) is = is.idle
  idle_if (Err refused) is = tt

-- ---- a store that was opened, and is on another disk

-- on its own disk it is itself
on-itself : {D E : Type 0} (e : EndpointValue E) (other : E) (between : D) → endpoint.device_in e ≡ other
    → e ≡ endpoint.on_device (endpoint.on_device e between) other
on-itself {D} {E} e other between is = ap (λ (d : E). endpoint.on_device e d) is

module _ {D E : Type 0} (disk_of : D → Disk) (disk : D) (sound : IsHonest (disk_of disk)
    → IsSound (now (disk_of disk))) (store : StoreValue D) (other : E) (e : EndpointValue E) where
  begins-there : Begins (on_device store other) e → Begins store (endpoint.on_device e (device_in store))
  begins-there begun = record {
    from = ap (λ (s : StoreValue E). on_device s (device_in store)) begun.from;
    sound = before-sound e (device_in store) begun.sound;
    idle = (before-rest e (device_in store) begun.idle.0, begun.idle.1);
    queue = begun.queue;
    turn = begun.turn;
    next = begun.next;
    numbers = begun.numbers;
    tx_counters = begun.tx_counters;
    rx_counters = begun.rx_counters;
    channel_counters = begun.channel_counters;
  }

  pub opened-there : OpensStore disk_of disk store → (moved : StoreValue E) → moved ≡ on_device store other
      → Begins moved e → (opened : EndpointValue D) × Opens disk_of disk opened × (e ≡ endpoint.on_device opened other)
  opened-there found moved is begun =
      let there = subst (λ (s : StoreValue E). Begins s e) is begun in (
        endpoint.on_device e (device_in store),
        opened disk_of disk sound store (endpoint.on_device e (device_in store)) found (begins-there there),
        on-itself e other (device_in store) (ap (λ (s : StoreValue E). device_in s) there.from),
      )
