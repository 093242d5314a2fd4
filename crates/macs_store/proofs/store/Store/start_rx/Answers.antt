use Rattle.std.proofs.Common.{◌≡◌, Some, ◌∙◌, ap}
use Rattle.macs_config.specs.Numbers.{block_beyond}
use Rattle.macs_record.specs.declared.record.Record.TheVariants.{RxCeiling}
use Rattle.macs_store.specs.Replay.{standing_after_record}
use Rattle.macs_store.specs.Standing.{standing_with_rx_raised}
use Rattle.macs_store.specs.Value.{standing_in}
use Rattle.macs_store.proofs.Keeping.{rx-follows}
use Rattle.macs_store.proofs.StartedCommands.{raise-started, some-follows}
use Rattle.macs_store.proofs.store.Store.start_rx.Given.{Over}
use Rattle.macs_store.proofs.store.Store.start_rx.Goals.{After-ahead-ceiling}
use Rattle.macs_store.proofs.store.Store.start_rx.Goals as goal

module _ (g : Over) (c : After-ahead-ceiling g) where
  same : c.rx_block.result ≡ (standing_in c.args.self.now).identity.rx_block
  same = c.rx_block.ensures.value ∙ ap (λ i. i.rx_block) c.identity.ensures

  ahead_is : c.ahead-ceiling.result ≡ block_beyond c.args.pn c.rx_block.result
  ahead_is = c.ahead-ceiling.ensures ∙ ap (λ n. block_beyond n c.rx_block.result) (c.from.ensures ∙ c.get.ensures.value)

  follows : standing_after_record (standing_in c.args.self.now) (RxCeiling c.args.sci c.args.an c.ahead-ceiling.result)
      ≡ Some (standing_with_rx_raised (standing_in c.args.self.now) c.args.sci c.args.an c.args.pn)
  follows =
      rx-follows (standing_in c.args.self.now) c.args.sci c.args.an c.args.pn c.rx_block.result c.ahead-ceiling.result
      same ahead_is
      c.requires.stands c.requires.raised

pub start-requires-clause-follows : goal.start-requires-clause-follows
start-requires-clause-follows g c =
    let at = (goal.at.start-requires-clause-follows g c).After-ahead-ceiling in
    some-follows
    (standing_after_record (standing_in c.args.self.now) (RxCeiling c.args.sci c.args.an c.ahead-ceiling.result))
    (standing_with_rx_raised (standing_in c.args.self.now) c.args.sci c.args.an c.args.pn) (follows g at)

pub returns : goal.returns
returns g c =
    let at = (goal.at.returns g c).After-ahead-ceiling in
    raise-started g.D.SectorDisk.disk c.args.self.now (RxCeiling c.args.sci c.args.an c.ahead-ceiling.result)
    (standing_with_rx_raised (standing_in c.args.self.now) c.args.sci c.args.an c.args.pn)
    c.start.result c.start.new.self (follows g at) c.start.ensures
