use Rattle.macs_program.proofs.Printing.{appended-read}
use Rattle.macs_program.proofs.input.read_input.Goals as goal

pub returns-in-Ok : goal.returns-in-Ok
returns-in-Ok g c = appended-read _ 20001 _
    (rw (c.take.ensures.limit, c.take.ensures.inner, c.new-text.ensures) at c.in-Ok.ensures.bytes)
