use Rattle.std.proofs.Common.{◌≡◌, ◌∙◌, Option, None, Result, Ok, Err, refl, sym, ap, subst}
use Rattle.macs_config.specs.declared.command.Command.{Command}
use Rattle.macs_store.specs.declared.fault.CommitFault.{CommitFault}
use Rattle.macs_endpoint.specs.Calls.{IsCall}
use Rattle.macs_endpoint.specs.KeptCommands.{StartsFirst}
use Rattle.macs_endpoint.specs.Needed.{raise_in}
use Rattle.macs_endpoint.specs.Parts.{endpoint_of}
use Rattle.macs_endpoint.specs.Queue.{first_waiting}
use Rattle.macs_endpoint.specs.State.{Advanced, Advances}
use Rattle.macs_endpoint.specs.Value.{EndpointValue, IsSoundEndpoint, device_in}
use Rattle.macs_endpoint.specs.declared.progress.Step.TheVariants.{Done}
use Rattle.macs_endpoint.specs.declared.turn.Turn.TheVariants.{Reservation}
use Rattle.macs_endpoint.proofs.Parts.{commanded}
use Rattle.macs_endpoint.proofs.Working.{at-rest}
use Rattle.macs_endpoint.proofs.Taken.{takes-first}
use Rattle.macs_endpoint.proofs.TakenUp.{front-is, keep-begun, refused-ends}
use Rattle.macs_endpoint.proofs.endpoint.Endpoint.begin_command.Given.{Over}
use Rattle.macs_endpoint.proofs.endpoint.Endpoint.begin_command.Goals.{After-start_first}
use Rattle.macs_endpoint.proofs.endpoint.Endpoint.begin_command.Goals as goal

-- what is said of its start
starts : (g : Over) (c : After-start_first g) (result : Result (Unit {0}) CommitFault) → c.start_first.result ≡ result
    → StartsFirst g.D.SectorDisk.disk c.args.self.now c.args.first result c.start_first.new.self
starts g c result is =
    subst (λ (r : Result (Unit {0}) CommitFault).
    StartsFirst g.D.SectorDisk.disk c.args.self.now c.args.first r c.start_first.new.self) is c.start_first.ensures

pub returns-in-Err-clause-ended : goal.returns-in-Err-clause-ended
returns-in-Err-clause-ended g c =
    let at = (goal.at.returns-in-Err-clause-ended g c).After-start_first in
    let d = g.D.SectorDisk.disk in
    let e = c.args.self.now in
    let refused = starts g at (Err c.in-Err.fault) c.in-Err.is in
    let same = c.self.view_is ∙ refused.same in
    let waits = takes-first e.turn (raise_in e) (first_waiting e.waiting) c.args.first c.requires.next in
    let others = c.pop.new.self.waiting in
    let popped = front-is e.waiting c.pop.result c.args.first others
    (ap (λ (x : EndpointValue g.row.D.Denot). x.waiting) (sym same) ∙ c.pop.ensures.waiting) waits in
    let kept = subst (λ (x : EndpointValue g.row.D.Denot). IsSoundEndpoint x) same c.self.invariant in
    let rest = at-rest e kept c.requires.idle in
    let mid = endpoint_of c.self.inside.store c.self.inside.channels c.self.inside.queue c.self.inside.turn in
    let P : EndpointValue g.row.D.Denot → Type 0 =
    IsCall d e Advances (Advanced (Ok (Done c.args.first.ticket (Err c.from.result)))) in (
      commanded c.self.inside.store c.self.inside.channels (record c.self.inside.queue { waiting = others })
          c.pop.new.self Reservation P None c.pop.ensures.after
          (ap (λ (x : EndpointValue g.row.D.Denot). x.reserving) same ∙ rest.reserving)
          (subst (λ (o : Option Command). P (record mid { under_way = o; waiting = others; turn = Reservation }))
          (ap (λ (x : EndpointValue g.row.D.Denot). x.under_way) same ∙ rest.under_way c.requires.running)
          (refused-ends d e kept c.requires.running c.requires.idle
          c.args.first c.command_in_range.ensures waits others popped c.in-Err.fault c.start_first.new.self.store
          refused.starts c.requires.next
          c.from.result c.from.ensures mid same mid.tickets refl)),
      tt,
    )

pub returns-in-Err-clause-device : goal.returns-in-Err-clause-device
returns-in-Err-clause-device g c =
    let at = (goal.at.returns-in-Err-clause-device g c).After-start_first in
    ap device_in (c.self.view_is ∙ (starts g at (Err c.in-Err.fault) c.in-Err.is).same)

pub returns-clause-begun : goal.returns-clause-begun
returns-clause-begun g c = λ none.
    let at = (goal.at.returns-clause-begun g c).After-start_first in
    let e = c.args.self.now in
    let made = starts g at (Ok tt) c.in_default.is in
    let has = made.starts.under_way in
    keep-begun g.D.SectorDisk.disk e made.sound c.requires.running c.requires.idle c.args.first
    c.command_in_range.ensures
    (takes-first e.turn (raise_in e) (first_waiting e.waiting) c.args.first c.requires.next)
    c.start_first.new.self.store has.0 has.1 has.2
    c.start_first.new.self made.taken c.requires.next

pub returns-clause-device : goal.returns-clause-device
returns-clause-device g c =
    let at = (goal.at.returns-clause-device g c).After-start_first in
    (starts g at (Ok tt) c.in_default.is).starts.under_way.2.device
