use Rattle.std.proofs.Common.{◌≡◌, ◌≤◌, ◌∙◌, false, List, length, Option, Some, None, Result, Ok, ap, arith, refl, sym}
use Rattle.std.proofs.Common.{subst}
use Rattle.std.specs.Option.{option_map}
use Rattle.macs_store.specs.Stepping.{StartsCommit}
use Rattle.macs_store.specs.Value.{IsIdle}
use Rattle.macs_store.specs.declared.fault.CommitFault.{CommitFault}
use Rattle.macs_endpoint.specs.KeptCommands.{StartsFirst}
use Rattle.macs_endpoint.specs.Parts.{endpoint_of}
use Rattle.macs_endpoint.specs.Queue.{first_waiting}
use Rattle.macs_endpoint.specs.Value.{EndpointValue, IsSoundEndpoint, is_stopped}
use Rattle.macs_endpoint.specs.declared.queue.Waiting.{Waiting}
use Rattle.macs_endpoint.proofs.Parts.{commanded}
use Rattle.macs_endpoint.proofs.Working.{at-rest}
use Rattle.macs_endpoint.proofs.TakenUp.{rest-waiting, taken-keeping, taken-kept}
use Rattle.macs_endpoint.proofs.endpoint.Endpoint.start_first.Given.{Over}
use Rattle.macs_endpoint.proofs.endpoint.Endpoint.start_first.Goals.{After-begin_first, After-start_commit}
use Rattle.macs_endpoint.proofs.endpoint.Endpoint.start_first.Goals as goal

module _ (g : Over) (c : After-start_commit g) where
  abbrev old : EndpointValue g.row.D.Denot
  old = endpoint_of c.self.inside.store c.self.inside.channels c.self.inside.queue c.self.inside.turn

  running : is_stopped old ≡ false
  running = rw (← c.self.view_is) at c.requires.running

  idle : IsIdle old.store
  idle = rw (← c.self.view_is) at c.requires.idle

  waits : first_waiting old.waiting ≡ Some c.args.first
  waits = subst (λ (e : EndpointValue g.row.D.Denot). first_waiting e.waiting ≡ Some c.args.first) (sym c.self.view_is)
      c.requires.waits

  starts : (result : Result (Unit {0}) CommitFault) → c.start_commit.result ≡ result
      → StartsCommit g.D.SectorDisk.disk c.self.inside.store c.args.first.command result c.start_commit.new.self
  starts result is =
      subst (λ (r : Result (Unit {0}) CommitFault).
      StartsCommit g.D.SectorDisk.disk c.self.inside.store c.args.first.command r c.start_commit.new.self) is
      c.start_commit.ensures

  -- no ceiling is being raised
  free : old.reserving ≡ None
  free = (at-rest old c.self.invariant idle).reserving

-- the first pending command is under way
first : (g : Over) (c : After-begin_first g) → first_waiting c.self.inside.queue.waiting ≡ Some c.args.first
    → c.begin_first.new.self ≡ record c.self.inside.queue { under_way = Some c.args.first.command; reserving = None }
first g c waits =
    c.begin_first.ensures ∙ ap (λ (o : Option Waiting). record c.self.inside.queue {
      under_way = option_map (λ (first : Waiting). first.command) o;
      reserving = None;
    }) waits

pub begin_first-requires : goal.begin_first-requires
begin_first-requires g c =
    let at = (goal.at.begin_first-requires g c).After-start_commit in
    subst (λ (w : List Waiting). 1 ≤ length w)
    (sym (rest-waiting c.self.inside.queue.waiting c.args.first (waits g at)).1) (omega arith)

pub invariant_of-self-2 : goal.invariant_of-self-2
invariant_of-self-2 g c =
    let at = (goal.at.invariant_of-self-2 g c).After-start_commit in
    let has = (starts g at (Ok tt) c.in_ok-start_commit.was).under_way in
    commanded c.start_commit.new.self c.self.inside.channels c.self.inside.queue c.begin_first.new.self
    c.self.inside.turn IsSoundEndpoint (Some c.args.first.command)
    (first g (goal.at.invariant_of-self-2 g c).After-begin_first (waits g at)) (free g at)
    (taken-kept g.D.SectorDisk.disk (old g at) c.self.invariant (running g at) (idle g at) c.args.first
    c.command_in_range.ensures (waits g at)
    c.start_commit.new.self has.0 has.1 has.2)

pub returns : goal.returns
returns g c =
    let at = (goal.at.returns g c).After-start_commit in
    let made = starts g at (Ok tt) c.in_ok-start_commit.was in
    let has = made.under_way in
    rw (← c.self.view_is)
    (commanded c.start_commit.new.self c.self.inside.channels c.self.inside.queue c.begin_first.new.self
    c.self.inside.turn (StartsFirst g.D.SectorDisk.disk (old g at) c.args.first (Ok tt)) (Some c.args.first.command)
    (first g (goal.at.returns g c).After-begin_first (waits g at)) (free g at)
    (record {
      starts = made;
      same = tt;
      taken = refl;
      keeping = taken-keeping g.D.SectorDisk.disk (old g at) c.self.invariant (running g at) (idle g at) c.args.first
          c.command_in_range.ensures (waits g at)
          c.start_commit.new.self has.0 has.1 has.2;
      sound = c.self.invariant;
    }))
