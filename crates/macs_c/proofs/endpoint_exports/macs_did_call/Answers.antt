use Rattle.macs_c.specs.declared.answers.Answer.TheVariants as code
use Rattle.macs_c.proofs.Exported.{did-closed, did-there, lent-there, may-report-there}
use Rattle.macs_c.proofs.endpoint_exports.macs_did_call.Goals as goal

pub returns-then-not-is_open : goal.returns-then-not-is_open
returns-then-not-is_open g c = (
  code.Closed,
  c.number_of.ensures,
  did-closed g.next c.args.read.now c.args.ok c.args.endpoint.now _ c.is_open.result c.args.done.now
      c.is_open.ensures.0 c.is_open.ensures.1 c.if-not-is_open.true,
)

pub did_call-requires : goal.did_call-requires
did_call-requires g c =
    may-report-there g.next c.args.read.now c.args.ok c.args.endpoint.now.value c.get-slot.result.now
    (lent-there c.args.endpoint.now c.is_open.new.self c.get-slot.result.now c.is_open.ensures.1
    c.get-slot.ensures.value)
    c.requires

pub returns : goal.returns
returns g c = (
  c.did_call.result,
  c.number_of-2.ensures,
  did-there g.next c.args.read.now c.args.ok c.args.endpoint.now.value c.get-slot.result.now c.args.done.now _
      c.did_call.result c.did_call.new.endpoint
      (lent-there c.args.endpoint.now c.is_open.new.self c.get-slot.result.now c.is_open.ensures.1
      c.get-slot.ensures.value)
      c.did_call.ensures,
)
