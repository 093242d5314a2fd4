use Rattle.std.proofs.Common.{◌∙◌, Err, sym, ap, subst}
use Rattle.macs_endpoint.specs.Calls.{IsStep}
use Rattle.macs_endpoint.specs.Needed.{raise_in}
use Rattle.macs_endpoint.specs.Queue.{first_waiting}
use Rattle.macs_endpoint.specs.Parts.{raise_of}
use Rattle.macs_endpoint.specs.Value.{EndpointValue, device_in}
use Rattle.macs_endpoint.specs.declared.fault.StepFault.TheVariants as step
use Rattle.macs_endpoint.specs.declared.turn.Turn.TheVariants as turn
use Rattle.macs_endpoint.proofs.Taken.{on-err, on-ok, raise-begun, raises-first, spent-call}
use Rattle.macs_endpoint.proofs.endpoint.Endpoint.begin_raise.Goals as goal

pub start_raise-requires-clause-first : goal.start_raise-requires-clause-first
start_raise-requires-clause-first g c =
    let e = c.args.self.now in
    raises-first e.turn (raise_in e) (first_waiting e.waiting) (raise_of c.args.raise) c.requires.next

pub returns-then-is_err-clause-ended : goal.returns-then-is_err-clause-ended
returns-then-is_err-clause-ended g c =
    let d = g.D.SectorDisk.disk in
    let e = c.args.self.now in
    let refused =
    on-err c.start_raise.result (sym c.is_err.ensures.value ∙ c.if-is_err.true) c.start_raise.ensures.refused in
    subst (λ (x : EndpointValue g.row.D.Denot). IsStep d e (Err step.GenerationsSpent)
    (record x { turn = turn.Command })) (sym (c.self.view_is ∙ refused.1))
    (spent-call d e c.requires.running c.requires.idle (raise_of c.args.raise) c.requires.next refused.2, tt)

pub returns-clause-begun : goal.returns-clause-begun
returns-clause-begun g c = λ none.
    let e = c.args.self.now in
    let ok = sym c.is_err.ensures.value ∙ c.if-is_err.false in
    let starts = c.start_raise.ensures in
    raise-begun g.D.SectorDisk.disk e (on-ok c.start_raise.result ok starts.sound) c.requires.running c.requires.idle
    (raise_of c.args.raise)
    (raises-first e.turn (raise_in e) (first_waiting e.waiting) (raise_of c.args.raise) c.requires.next) c.requires.next
    c.start_raise.new.self.store
    (on-ok c.start_raise.result ok starts.under_way) c.start_raise.new.self
    (on-ok c.start_raise.result ok starts.taken)

pub returns-clause-device : goal.returns-clause-device
returns-clause-device g c =
    (on-ok c.start_raise.result (sym c.is_err.ensures.value ∙ c.if-is_err.false) c.start_raise.ensures.under_way).device

pub returns-then-is_err-clause-device : goal.returns-then-is_err-clause-device
returns-then-is_err-clause-device g c =
    let refused =
    on-err c.start_raise.result (sym c.is_err.ensures.value ∙ c.if-is_err.true) c.start_raise.ensures.refused in
    ap device_in (c.self.view_is ∙ refused.1)
