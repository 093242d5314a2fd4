use Rattle.std.proofs.Common.{refl}
use Rattle.macs_program.proofs.DeskMade.{desk-made}
use Rattle.macs_program.proofs.attendants.desk_over.Goals as goal

pub returns-clause-new : goal.returns-clause-new
returns-clause-new g c =
    desk-made c.args.disk.now c.args.running.now c.args.wires c.in_ok-program.program c.in_ok-clients.clients
    c.args.metrics _ c.new.result c.new.ensures.program c.new.ensures.clients c.new.ensures.metrics
    c.new.ensures.system c.new.ensures.none c.new.ensures.good c.new.ensures.turns c.in_ok-program.ensures
    c.in_ok-clients.ensures.unused c.requires refl refl
