use Rattle.std.proofs.Common.{◌≡◌, ◌≤◌, ℕ, Ok, is_ok, ap, subst, sym, arith, rules}
use Rattle.macs_config.specs.declared.command.Command.{Command}
use Rattle.macs_config.specs.declared.command.Command.TheVariants.{TxInstall}
use Rattle.macs_rxsc.specs.Receive.{RxSide}
use Rattle.macs_rxsc.specs.Value as rxsc
use Rattle.macs_store.specs.Value.{standing_in}
use Rattle.macs_store.specs.Standing.{accept}
use Rattle.macs_store.proofs.Keeping.{accepted-in_range}
use Rattle.macs_endpoint.proofs.Fitting.{from_one}
use Rattle.macs_endpoint.proofs.Following.{numbers-after, tx-installed, tx-ordered, tx-stands}
use Rattle.macs_endpoint.proofs.channels.Channels.follow.Given.{Over}
use Rattle.macs_endpoint.proofs.channels.Channels.follow.Goals.{In-TxInstall}
use Rattle.macs_endpoint.proofs.channels.Channels.follow.Goals as goal

-- the install is accepted
done : (g : Over) (c : In-TxInstall g)
    → let i = c.in-TxInstall in
    accept c.requires.0 (TxInstall i.an i.key i.start i.confidential i.offset) ≡ Ok (standing_in c.args.store.now)
done g c = subst (λ (x : Command). accept c.requires.0 x ≡ Ok (standing_in c.args.store.now)) c.in-TxInstall.is
    c.requires.2

pub install_tx-requires-clause-stands : goal.install_tx-requires-clause-stands
install_tx-requires-clause-stands g c =
    let i = c.in-TxInstall in
    tx-stands c.requires.0 (standing_in c.args.store.now) c.args.self.now.tx c.args.self.now.rx c.requires.1 i.an i.key
    i.start i.confidential i.offset (done g (goal.at.install_tx-requires-clause-stands g c).In-TxInstall)

pub install_tx-requires-clause-numbered : goal.install_tx-requires-clause-numbered
install_tx-requires-clause-numbered g c =
    let i = c.in-TxInstall in
    let is = done g (goal.at.install_tx-requires-clause-numbered g c).In-TxInstall in
    subst (λ (n : ℕ). 1 ≤ n) (sym c.from.ensures)
    (from_one i.start
    (accepted-in_range c.requires.0 (TxInstall i.an i.key i.start i.confidential i.offset) (ap is_ok is)).0)

pub install_tx-requires-clause-ordered : goal.install_tx-requires-clause-ordered
install_tx-requires-clause-ordered g c =
    let i = c.in-TxInstall in
    tx-ordered c.requires.0 (standing_in c.args.store.now) c.args.self.now.tx c.args.self.now.rx c.requires.1 i.an i.key
    i.start i.confidential i.offset (done g (goal.at.install_tx-requires-clause-ordered g c).In-TxInstall)
    c.from.result c.from.ensures (omega arith)

pub returns-in-TxInstall : goal.returns-in-TxInstall
returns-in-TxInstall g c =
    let i = c.in-TxInstall in
    record {
      channels = tx-installed c.requires.0 (standing_in c.args.store.now) c.args.self.now.tx c.args.self.now.rx
          c.requires.1 i.an i.key i.start i.confidential i.offset
          (done g (goal.at.returns-in-TxInstall g c).In-TxInstall)
          c.from.result c.install_tx.new.tx c.install_tx.ensures.side c.install_tx.ensures.ceilings;
      next = search rules;
      numbers = search rules;
      tx_counters = search rules;
      rx_counters = search rules;
      channel_counters = search rules;
    }

pub returns-in-SetValidate : goal.returns-in-SetValidate
returns-in-SetValidate g c =
    record {
      channels = search rules;
      next = search rules;
      numbers = numbers-after c.requires.0 (standing_in c.args.store.now) c.args.self.now.tx c.args.self.now.rx
          c.requires.1 c.args.command.now c.requires.2
          (rxsc.rx_side_of c.set_policy.new.rx).numbers c.in-SetValidate.is
          (ap (λ (r : RxSide). r.numbers) c.set_policy.ensures.side)
          c.set_policy.ensures.same_window;
      tx_counters = search rules;
      rx_counters = search rules;
      channel_counters = search rules;
    }
