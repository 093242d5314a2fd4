use Rattle.std.proofs.Common.{◌≡◌, ◌∙◌, if◌then◌else◌, List, Some, None, take, refl, ap}
use Rattle.std.proofs.lemmas.Result.{err_from_is_err_and}
use Rattle.macs_config.specs.Config.{this_edition}
use Rattle.macs_journal.specs.Value.{content_of}
use Rattle.macs_record.specs.declared.record.Record.{Record}
use Rattle.macs_store.specs.Replay.{meaning_of}
use Rattle.macs_store.specs.Standing.{Standing}
use Rattle.macs_store.specs.Table.{standing_of}
use Rattle.macs_store.specs.Value.{StoreValue}
use Rattle.macs_store.specs.UnderWay.{Nothing}
use Rattle.macs_store.proofs.Migrating.{not-taken-up, recovered-meaning, recovery-refused, taken-up}
use Rattle.macs_store.proofs.store.Store.open_with.Given.{Over}
use Rattle.macs_store.proofs.store.Store.open_with.Goals.{After-read-is_read}
use Rattle.macs_store.proofs.store.Store.open_with.Goals as goal

pub returns-in_err-found : goal.returns-in_err-found
returns-in_err-found g c =
    let left = c.in_err-found.field-0.0 in
    let risen = err_from_is_err_and c.from_residual.result c.from_residual.ensures.1 in
    rw (risen.1, risen.2)
    (recovery-refused g.D.SectorDisk.disk c.args.disk (g.met.D.SectorDisk.sound c.args.disk) left.disk left.fault
    c.in_err-found.ensures.opening)

-- ---- the records were read

module _ (g : Over) (c : After-read-is_read g) where
  -- the store, before it is taken up
  abbrev store : StoreValue g.row.D.Denot
  store = record { journal = c.in_ok-found.found.journal; held = c.read-is_read.new.self; under_way = Nothing }

  abbrev records : List Record
  records = take c.in_ok-found.found.used c.recover_into.new.room

  meaning : meaning_of this_edition (content_of c.in_ok-found.found.journal records)
      ≡ (if c.read-is_read.result then Some (standing_of c.read-is_read.new.self) else None)
  meaning =
      let found = c.in_ok-found.found in
      let is = c.in_ok-found.ensures.opening in
      let whose = ap (λ (s : Standing). s.identity) c.new.ensures ∙ is.whose in
      recovered-meaning this_edition (content_of found.journal records) found.format (standing_of c.new.result).identity
      found.count records
      is.form whose is.counted refl ∙ c.read-is_read.ensures

pub take_up-requires-clause-running : goal.take_up-requires-clause-running
take_up-requires-clause-running g c = c.in_ok-found.ensures.opening.running

pub returns-in-Ok : goal.returns-in-Ok
returns-in-Ok g c =
    let path = (goal.at.returns-in-Ok g c).After-read-is_read in
    let found = c.in_ok-found.found in
    taken-up g.D.SectorDisk.disk c.args.disk (g.met.D.SectorDisk.sound c.args.disk) (store g path) found.format
    found.identity found.count (records g path)
    c.in_ok-found.ensures.opening refl c.read-is_read.result (meaning g path) c.take_up.new.self c.in-Ok.ensures

pub returns-in-Err : goal.returns-in-Err
returns-in-Err g c =
    let path = (goal.at.returns-in-Err g c).After-read-is_read in
    let found = c.in_ok-found.found in
    not-taken-up g.D.SectorDisk.disk c.args.disk (g.met.D.SectorDisk.sound c.args.disk) (store g path) found.format
    found.identity found.count (records g path)
    c.in_ok-found.ensures.opening refl c.read-is_read.result (meaning g path) c.take_up.new.self c.in-Err.fault
    c.in-Err.ensures
    c.into_disk.result c.into_disk.ensures
