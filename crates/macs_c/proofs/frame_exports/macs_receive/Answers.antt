use Rattle.macs_c.specs.Frames.{buffer_of}
use Rattle.macs_c.specs.declared.answers.Answer.TheVariants as code
use Rattle.macs_c.proofs.ExportedFrames.{receive-closed}
use Rattle.macs_c.proofs.frame_exports.macs_receive.Goals as goal

pub returns-then-not-is_open : goal.returns-then-not-is_open
returns-then-not-is_open c = (
  code.Closed,
  c.number_of.ensures,
  receive-closed c.args.endpoint.now _ c.is_open.result c.is_open.ensures.0 c.is_open.ensures.1 c.if-not-is_open.true
      c.args.frame.now (buffer_of c.args.out.now c.args.written.now),
)
