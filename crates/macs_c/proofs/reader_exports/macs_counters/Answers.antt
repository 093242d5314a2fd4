use Rattle.macs_c.specs.declared.answers.Answer.TheVariants as code
use Rattle.macs_c.proofs.Exported.{lent-there}
use Rattle.macs_c.proofs.ExportedFrames.{counters-closed, counters-there, kept-there}
use Rattle.macs_c.proofs.reader_exports.macs_counters.Goals as goal

pub returns-then-not-is_open-clause-shown : goal.returns-then-not-is_open-clause-shown
returns-then-not-is_open-clause-shown c = (
  code.Closed,
  c.number_of.ensures,
  counters-closed c.args.endpoint.now c.is_open.new.self c.is_open.result c.is_open.ensures.0 c.is_open.ensures.1
      c.if-not-is_open.true c.args.counters.now,
)

pub returns-clause-shown : goal.returns-clause-shown
returns-clause-shown c = (
  code.Success,
  c.number_of-2.ensures,
  counters-there c.args.endpoint.now.value c.get-slot.result.now c.args.counters.now c.count.result
      (lent-there c.args.endpoint.now c.is_open.new.self c.get-slot.result.now c.is_open.ensures.1
      c.get-slot.ensures.value)
      c.count.ensures,
)

pub returns-clause-same : goal.returns-clause-same
returns-clause-same c =
    kept-there c.args.endpoint.now c.is_open.new.self c.get-slot.result.now c.is_open.ensures.1 c.get-slot.ensures.value
