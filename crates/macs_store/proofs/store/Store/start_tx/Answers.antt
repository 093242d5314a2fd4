use Rattle.std.proofs.Common.{◌≡◌, Some, sym, ◌∙◌, ap}
use Rattle.macs_config.specs.Numbers.{block_beyond}
use Rattle.macs_record.specs.declared.record.Record.TheVariants.{TxCeiling}
use Rattle.macs_store.specs.Replay.{standing_after_record}
use Rattle.macs_store.specs.Standing.{standing_with_tx_raised}
use Rattle.macs_store.specs.Value.{standing_in}
use Rattle.macs_store.proofs.Keeping.{tx-follows}
use Rattle.macs_store.proofs.StartedCommands.{raise-started, some-follows}
use Rattle.macs_store.proofs.store.Store.start_tx.Given.{Over}
use Rattle.macs_store.proofs.store.Store.start_tx.Goals.{After-ahead-ceiling}
use Rattle.macs_store.proofs.store.Store.start_tx.Goals as goal

module _ (g : Over) (c : After-ahead-ceiling g) where
  is : (standing_in c.args.self.now).ceilings.tx c.args.an ≡ Some c.unwrap-old.result
  is = sym c.tx_ceiling.ensures ∙ c.unwrap-old.ensures

  same : c.tx_block.result ≡ (standing_in c.args.self.now).identity.tx_block
  same = c.tx_block.ensures.value ∙ ap (λ i. i.tx_block) c.identity.ensures

  ahead_is : c.ahead-ceiling.result ≡ block_beyond c.unwrap-old.result c.tx_block.result
  ahead_is = c.ahead-ceiling.ensures ∙ ap (λ n. block_beyond n c.tx_block.result) c.get.ensures.value

  follows : standing_after_record (standing_in c.args.self.now) (TxCeiling c.args.an c.ahead-ceiling.result)
      ≡ Some (standing_with_tx_raised (standing_in c.args.self.now) c.args.an)
  follows =
      tx-follows (standing_in c.args.self.now) c.args.an c.unwrap-old.result c.tx_block.result c.ahead-ceiling.result is
      same ahead_is
      (rw is at c.requires.raised) c.tx_block.ensures.range.0

pub start-requires-clause-follows : goal.start-requires-clause-follows
start-requires-clause-follows g c =
    let at = (goal.at.start-requires-clause-follows g c).After-ahead-ceiling in
    some-follows (standing_after_record (standing_in c.args.self.now) (TxCeiling c.args.an c.ahead-ceiling.result))
    (standing_with_tx_raised (standing_in c.args.self.now) c.args.an) (follows g at)

pub returns : goal.returns
returns g c =
    let at = (goal.at.returns g c).After-ahead-ceiling in
    raise-started g.D.SectorDisk.disk c.args.self.now (TxCeiling c.args.an c.ahead-ceiling.result)
    (standing_with_tx_raised (standing_in c.args.self.now) c.args.an)
    c.start.result c.start.new.self (follows g at) c.start.ensures
