use Rattle.std.proofs.Common.{◌≡◌, Some, None, Result, Ok, Err, refl, sym, ◌∙◌, ap, subst}
use Rattle.std.specs.Option.{option_map}
use Rattle.std.proofs.lemmas.Result.{err_from_is_err_and}
use Rattle.macs_endpoint.specs.Needed.{raise_in}
use Rattle.macs_endpoint.specs.Reserving.{Raised}
use Rattle.macs_endpoint.specs.State.{no_logs}
use Rattle.macs_endpoint.specs.Parts.{raise_of}
use Rattle.macs_endpoint.specs.declared.fault.RefillFault.{RefillFault}
use Rattle.macs_endpoint.proofs.Working.{at-rest}
use Rattle.macs_endpoint.proofs.RefillCall.{cut-refill, done-refill, reserves-none, reserves-on, turn-less, turn-moves}
use Rattle.macs_endpoint.proofs.RefillCall.{turn-raised}
use Rattle.macs_endpoint.proofs.RefillCosts.{raised-none}
use Rattle.macs_endpoint.proofs.endpoint.Endpoint.reserve.Given.{Over}
use Rattle.macs_endpoint.proofs.endpoint.Endpoint.reserve.Goals.{After-facts, After-raise}
use Rattle.macs_endpoint.proofs.endpoint.Endpoint.reserve.Goals as goal

none : (g : Over) (c : After-facts g) → c.args.self.now.reserving ≡ None
none g c = (at-rest c.args.self.now c.facts.ensures c.requires.idle).reserving

module _ (g : Over) (c : After-raise g) where
  first : raise_in c.loop-raise.self ≡ Some (raise_of c.in-Some.raise)
  first = sym c.first_raise.ensures ∙ ap (option_map raise_of) c.in-Some.is

  step : (result : Result (Unit {0}) RefillFault) → c.raise.result ≡ result
      → Raised g.D.SectorDisk.disk c.loop-raise.self (raise_of c.in-Some.raise) result c.raise.new.self
  step result is =
      subst (λ (r : Result (Unit {0}) RefillFault).
      Raised g.D.SectorDisk.disk c.loop-raise.self (raise_of c.in-Some.raise) r c.raise.new.self) is c.raise.ensures

pub loop-raise-init : goal.loop-raise-init
loop-raise-init g c = record {
  running = c.requires.running;
  reserves = reserves-none g.D.SectorDisk.disk c.args.self.now c.requires.idle;
  raised = raised-none g.D.SectorDisk.disk c.args.self.now (none g (goal.at.loop-raise-init g c).After-facts)
      c.requires.idle;
  still = λ free. refl;
}

pub raise-requires-clause-running : goal.raise-requires-clause-running
raise-requires-clause-running g c = c.loop-raise.invariant.running

pub raise-requires-clause-idle : goal.raise-requires-clause-idle
raise-requires-clause-idle g c = c.loop-raise.invariant.reserves.idle

pub loop-raise-smaller : goal.loop-raise-smaller
loop-raise-smaller g c =
    let at = goal.at.loop-raise-smaller g c in
    let i = c.loop-raise.invariant in
    let made = step g at.After-raise (Ok tt) c.in_ok-raise.was in
    turn-less g.D.SectorDisk.disk c.args.self.now c.loop-raise.self c.raise.new.self i.reserves (none g at.After-facts)
    i.raised c.facts.ensures
    (raise_of c.in-Some.raise) (first g at.After-raise) made.reserves made.done

pub loop-raise-preserved : goal.loop-raise-preserved
loop-raise-preserved g c =
    let at = goal.at.loop-raise-preserved g c in
    let d = g.D.SectorDisk.disk in
    let i = c.loop-raise.invariant in
    let raise = raise_of c.in-Some.raise in
    let made = step g at.After-raise (Ok tt) c.in_ok-raise.was in
    record {
      running = ap (λ s. s.stopped) (made.reserves.step no_logs) ∙ i.running;
      reserves = reserves-on d c.args.self.now c.loop-raise.self c.raise.new.self (Ok tt) i.reserves made.reserves;
      raised = turn-raised d c.args.self.now c.loop-raise.self c.raise.new.self i.reserves (none g at.After-facts)
          i.raised raise (first g at.After-raise) made;
      still = λ free. absurd (turn-moves d c.args.self.now c.loop-raise.self c.raise.new.self i.reserves
          (none g at.After-facts) i.raised free i.still raise
          (first g at.After-raise) made);
    }

pub returns-in_err-raise : goal.returns-in_err-raise
returns-in_err-raise g c =
    let at = goal.at.returns-in_err-raise g c in
    let i = c.loop-raise.invariant in
    let fault = c.in_err-raise.field-0.0 in
    let made = step g at.After-raise (Err fault) c.in_err-raise.was in
    let risen = err_from_is_err_and c.from_residual.result c.from_residual.ensures.1 in
    rw (risen.1, risen.2) (cut-refill g.D.SectorDisk.disk c.args.self.now c.loop-raise.self c.raise.new.self i.reserves
    (none g at.After-facts) i.raised i.still fault
    (raise_of c.in-Some.raise) (first g at.After-raise) made)

pub returns : goal.returns
returns g c =
    let at = (goal.at.returns g c).After-facts in
    let i = c.loop-raise.invariant in
    done-refill g.D.SectorDisk.disk c.args.self.now c.loop-raise.self (none g at) i.still i.reserves i.raised
    (sym c.first_raise.ensures ∙ ap (option_map raise_of) c.in_default.is)
