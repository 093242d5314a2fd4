use Rattle.std.proofs.Common.{◌≡◌, ◌≤◌, ℕ, Ok, is_ok, ap, subst, sym, rules}
use Rattle.macs_config.specs.declared.command.Command.{Command}
use Rattle.macs_config.specs.declared.command.Command.TheVariants.{RxInstall}
use Rattle.macs_store.specs.Value.{standing_in}
use Rattle.macs_store.specs.Standing.{accept}
use Rattle.macs_store.proofs.Keeping.{accepted-in_range}
use Rattle.macs_endpoint.proofs.Fitting.{from_one}
use Rattle.macs_endpoint.proofs.Following.{rx-installed, rx-ordered, rx-stands}
use Rattle.macs_endpoint.proofs.channels.Channels.follow_rx.Given.{Over}
use Rattle.macs_endpoint.proofs.channels.Channels.follow_rx.Goals.{In-RxInstall}
use Rattle.macs_endpoint.proofs.channels.Channels.follow_rx.Goals as goal

-- the install is accepted
done : (g : Over) (c : In-RxInstall g)
    → let i = c.in-RxInstall in
    accept c.requires.kept.0 (RxInstall i.sci i.an i.key i.start i.offset) ≡ Ok (standing_in c.args.store.now)
done g c = subst (λ (x : Command). accept c.requires.kept.0 x ≡ Ok (standing_in c.args.store.now)) c.in-RxInstall.is
    c.requires.kept.2

pub install_rx-requires-clause-stands : goal.install_rx-requires-clause-stands
install_rx-requires-clause-stands g c =
    let i = c.in-RxInstall in
    rx-stands c.requires.kept.0 (standing_in c.args.store.now) c.args.self.now.tx c.args.self.now.rx c.requires.kept.1
    i.sci i.an i.key i.start i.offset (done g (goal.at.install_rx-requires-clause-stands g c).In-RxInstall)

pub install_rx-requires-clause-numbered : goal.install_rx-requires-clause-numbered
install_rx-requires-clause-numbered g c =
    let i = c.in-RxInstall in
    let is = done g (goal.at.install_rx-requires-clause-numbered g c).In-RxInstall in
    subst (λ (n : ℕ). 1 ≤ n) (sym c.from.ensures)
    (from_one i.start
    (accepted-in_range c.requires.kept.0 (RxInstall i.sci i.an i.key i.start i.offset) (ap is_ok is)).0)

pub install_rx-requires-clause-ordered : goal.install_rx-requires-clause-ordered
install_rx-requires-clause-ordered g c =
    let i = c.in-RxInstall in
    rx-ordered c.requires.kept.0 (standing_in c.args.store.now) c.args.self.now.tx c.args.self.now.rx c.requires.kept.1
    i.sci i.an i.key i.start i.offset (done g (goal.at.install_rx-requires-clause-ordered g c).In-RxInstall)
    c.from.result c.from.ensures

pub returns-in-RxInstall : goal.returns-in-RxInstall
returns-in-RxInstall g c =
    let i = c.in-RxInstall in
    record {
      channels = rx-installed c.requires.kept.0 (standing_in c.args.store.now) c.args.self.now.tx c.args.self.now.rx
          c.requires.kept.1 i.sci i.an i.key i.start i.offset
          (done g (goal.at.returns-in-RxInstall g c).In-RxInstall)
          c.from.result c.install_rx.new.rx c.install_rx.ensures.side c.install_rx.ensures.ceilings;
      next = search rules;
      numbers = search rules;
      tx_counters = search rules;
      rx_counters = search rules;
      channel_counters = search rules;
    }
