use Rattle.std.proofs.Common.{◌≡◌, ◌∙◌, [], false, Some, None, Result, Ok, Err, IsOk, sym, ap, subst}
use Rattle.macs_config.specs.declared.command.Command.{Command}
use Rattle.macs_store.specs.Keeps.{Commits}
use Rattle.macs_store.specs.Standing.{accept}
use Rattle.macs_store.specs.Value.{IsIdle, standing_in}
use Rattle.macs_store.specs.declared.fault.CommitFault.{CommitFault}
use Rattle.macs_store.specs.declared.fault.CommitFault.TheVariants as commit
use Rattle.macs_endpoint.specs.Following.{Follows}
use Rattle.macs_endpoint.specs.KeptCommands.{KeepsCommand}
use Rattle.macs_endpoint.specs.Parts.{endpoint_of}
use Rattle.macs_endpoint.specs.Value.{EndpointValue, IsSoundEndpoint, is_stopped}
use Rattle.macs_endpoint.specs.declared.fault.CommandFault.TheVariants.{Disk}
use Rattle.macs_endpoint.specs.declared.turn.Turn.TheVariants.{Reservation}
use Rattle.macs_endpoint.proofs.Commanding.{cut-command, cut-kept, done-command, done-kept, spent-command, spent_only}
use Rattle.macs_endpoint.proofs.Parts.{commanded}
use Rattle.macs_endpoint.proofs.Working.{at-rest}
use Rattle.macs_endpoint.proofs.endpoint.Endpoint.commit.Given.{Over}
use Rattle.macs_endpoint.proofs.endpoint.Endpoint.commit.Goals.{After-commit_checked, After-cut, After-follow}
use Rattle.macs_endpoint.proofs.endpoint.Endpoint.commit.Goals as goal

module _ (g : Over) (c : After-commit_checked g) where
  abbrev old : EndpointValue g.row.D.Denot
  old = endpoint_of c.self.inside.store c.self.inside.channels c.self.inside.queue c.self.inside.turn

  running : is_stopped old ≡ false
  running = rw (← c.self.view_is) at c.requires.running

  idle : IsIdle old.store
  idle = rw (← c.self.view_is) at c.requires.idle

  -- no ceiling is being raised
  free : old.reserving ≡ None
  free = (at-rest old c.self.invariant idle).reserving

  none : old.waiting ≡ []
  none = rw (← c.self.view_is) at c.requires.none

  accepted : IsOk (accept (standing_in old.store) c.args.checked.now)
  accepted = subst (λ (e : EndpointValue g.row.D.Denot). IsOk (accept (standing_in e.store) c.args.checked.now))
      (sym c.self.view_is) c.requires.accepted

  commits : (result : Result (Unit {0}) CommitFault) → c.commit_checked.result ≡ result
      → Commits g.D.SectorDisk.disk c.self.inside.store c.args.checked.now result c.commit_checked.new.self
  commits result is =
      subst (λ (r : Result (Unit {0}) CommitFault). Commits g.D.SectorDisk.disk c.self.inside.store c.args.checked.now r
      c.commit_checked.new.self) is c.commit_checked.ensures

pub commit_checked-requires-clause-running : goal.commit_checked-requires-clause-running
commit_checked-requires-clause-running g c = ap (λ (e : EndpointValue g.row.D.Denot). is_stopped e) c.self.view_is
    ∙ c.requires.running

pub commit_checked-requires-clause-fits : goal.commit_checked-requires-clause-fits
commit_checked-requires-clause-fits g c =
    subst (λ (e : EndpointValue g.row.D.Denot). IsOk (accept (standing_in e.store) c.args.checked.now))
    (sym c.self.view_is) c.requires.accepted

pub follow-requires : goal.follow-requires
follow-requires g c =
    let at = (goal.at.follow-requires g c).After-commit_checked in (
      standing_in c.self.inside.store,
      c.self.invariant.channels,
      ap (λ (command : Command). accept (standing_in c.self.inside.store) command) c.command-command.ensures
          ∙ (commits g at (Ok tt) c.in-Ok.is).done,
    )

-- the channels follow it
follows : (g : Over) (c : After-follow g)
    → Follows c.args.checked.now (standing_in c.commit_checked.new.self) c.self.inside.channels.tx
    c.self.inside.channels.rx c.follow.new.self.tx c.follow.new.self.rx
follows g c =
    subst (λ (command : Command). Follows command (standing_in c.commit_checked.new.self) c.self.inside.channels.tx
    c.self.inside.channels.rx c.follow.new.self.tx c.follow.new.self.rx) c.command-command.ensures c.follow.ensures

-- or it is cut short
cut : (g : Over) (c : After-cut g)
    → c.cut.new.self ≡ record c.self.inside.queue { under_way = Some c.args.checked.now; reserving = None }
cut g c =
    c.cut.ensures ∙ ap (λ (command : Command). record c.self.inside.queue {
      under_way = Some command;
      reserving = None;
    }) c.command-command.ensures

pub invariant_of-self : goal.invariant_of-self
invariant_of-self g c =
    let at = (goal.at.invariant_of-self g c).After-commit_checked in
    let followed = follows g (goal.at.invariant_of-self g c).After-follow in
    done-kept g.D.SectorDisk.disk (old g at) c.self.invariant c.args.checked.now c.requires.in_range (running g at)
    (idle g at) (none g at) (accepted g at)
    c.commit_checked.new.self (commits g at (Ok tt) c.in-Ok.is) c.follow.new.self.tx c.follow.new.self.rx
    followed.channels followed.next followed.numbers

pub invariant_of-self-in-Disk : goal.invariant_of-self-in-Disk
invariant_of-self-in-Disk g c =
    let at = (goal.at.invariant_of-self-in-Disk g c).After-commit_checked in
    commanded c.commit_checked.new.self c.self.inside.channels c.self.inside.queue c.cut.new.self Reservation
    IsSoundEndpoint (Some c.args.checked.now) (cut g (goal.at.invariant_of-self-in-Disk g c).After-cut) (free g at)
    (cut-kept g.D.SectorDisk.disk (old g at) c.self.invariant c.args.checked.now c.requires.in_range (running g at)
    (idle g at) (none g at) (accepted g at)
    c.commit_checked.new.self (commits g at (Err commit.Disk) (c.in-Err.is ∙ ap Err c.in-Disk.is)))

pub returns-in-Ok : goal.returns-in-Ok
returns-in-Ok g c =
    let at = (goal.at.returns-in-Ok g c).After-commit_checked in
    let followed = follows g (goal.at.returns-in-Ok g c).After-follow in
    rw (← c.self.view_is) (done-command g.D.SectorDisk.disk (old g at) c.self.invariant c.args.checked.now
    c.requires.in_range (running g at) (idle g at) (none g at) (accepted g at)
    c.commit_checked.new.self (commits g at (Ok tt) c.in-Ok.is) c.follow.new.self.tx c.follow.new.self.rx
    followed.channels followed.next followed.numbers
    followed.tx_counters followed.rx_counters followed.channel_counters)

pub returns-in-Disk : goal.returns-in-Disk
returns-in-Disk g c =
    let at = (goal.at.returns-in-Disk g c).After-commit_checked in
    rw (← c.self.view_is)
    (commanded c.commit_checked.new.self c.self.inside.channels c.self.inside.queue c.cut.new.self Reservation
    (KeepsCommand g.D.SectorDisk.disk (old g at) c.args.checked.now (Err Disk)) (Some c.args.checked.now)
    (cut g (goal.at.returns-in-Disk g c).After-cut) (free g at)
    (cut-command g.D.SectorDisk.disk (old g at) c.self.invariant c.args.checked.now
    c.requires.in_range (running g at) (idle g at) (none g at) (accepted g at)
    c.commit_checked.new.self (commits g at (Err commit.Disk) (c.in-Err.is ∙ ap Err c.in-Disk.is))))

pub returns-in_default : goal.returns-in_default
returns-in_default g c =
    let at = (goal.at.returns-in_default g c).After-commit_checked in
    let d = g.D.SectorDisk.disk in
    let only = spent_only d (old g at) c.self.invariant c.args.checked.now c.requires.in_range (running g at)
    (idle g at) (none g at) (accepted g at)
    c.in-Err.fault c.commit_checked.new.self c.in_default.not-Disk (commits g at (Err c.in-Err.fault) c.in-Err.is) in
    rw (← c.self.view_is) (spent-command d (old g at) c.self.invariant c.args.checked.now c.requires.in_range
    (running g at) (idle g at) (none g at) (accepted g at)
    c.commit_checked.new.self (commits g at (Err commit.GenerationsSpent) (c.in-Err.is ∙ ap Err only)))
