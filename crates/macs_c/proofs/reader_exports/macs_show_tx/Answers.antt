use Rattle.macs_c.specs.declared.answers.Answer.TheVariants as code
use Rattle.macs_c.proofs.ExportedFrames.{kept-there, tx-closed}
use Rattle.macs_c.proofs.reader_exports.macs_show_tx.Goals as goal

pub returns-then-not-is_open-clause-shown : goal.returns-then-not-is_open-clause-shown
returns-then-not-is_open-clause-shown c = (
  code.Closed,
  c.number_of.ensures,
  tx-closed c.args.endpoint.now c.is_open.new.self c.is_open.result c.is_open.ensures.0 c.is_open.ensures.1
      c.if-not-is_open.true c.args.an c.args.tx.now,
)

pub returns-clause-same : goal.returns-clause-same
returns-clause-same c =
    kept-there c.args.endpoint.now c.is_open.new.self c.get-slot.result.now c.is_open.ensures.1 c.get-slot.ensures.value
