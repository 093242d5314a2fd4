use Rattle.macs_c.specs.declared.answers.Answer.TheVariants as code
use Rattle.macs_c.proofs.Exported.{lent-there, next-closed, next-there}
use Rattle.macs_c.proofs.endpoint_exports.macs_next_call.Goals as goal

pub returns-then-not-is_open : goal.returns-then-not-is_open
returns-then-not-is_open c = (
  code.Closed,
  c.number_of.ensures,
  next-closed c.args.endpoint.now _ c.is_open.result c.args.call.now c.args.done.now c.is_open.ensures.0
      c.is_open.ensures.1 c.if-not-is_open.true,
)

pub returns : goal.returns
returns c = (
  c.next_call.result,
  c.number_of-2.ensures,
  next-there c.args.endpoint.now.value c.get-slot.result.now c.args.call.now _ c.args.done.now _ c.next_call.result
      c.next_call.new.endpoint
      (lent-there c.args.endpoint.now c.is_open.new.self c.get-slot.result.now c.is_open.ensures.1
      c.get-slot.ensures.value)
      c.next_call.ensures,
)
