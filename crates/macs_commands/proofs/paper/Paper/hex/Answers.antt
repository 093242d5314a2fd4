use Rattle.macs_commands.proofs.Written.{no_octet, octet_more}
use Rattle.macs_commands.proofs.paper.Paper.hex.Goals as goal

pub loop-octet-init : goal.loop-octet-init
loop-octet-init c = no_octet c.args.self.now

pub loop-octet-preserved : goal.loop-octet-preserved
loop-octet-preserved c =
    octet_more c.args.self.now c.loop-octet.self c.put_octets.new.self c.args.octets.now c.loop-octet.octet-index
    c.write_digits.new.digits c.loop-octet-test.true c.write_digits.ensures c.loop-octet.invariant c.put_octets.ensures
