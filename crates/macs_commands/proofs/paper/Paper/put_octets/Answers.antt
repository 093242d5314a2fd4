use Rattle.std.proofs.Common.{arith, rules}
use Rattle.macs_commands.proofs.Written.{put_past, put_within}
use Rattle.macs_commands.proofs.paper.Paper.put_octets.Goals as goal

pub returns-then-octets-self : goal.returns-then-octets-self
returns-then-octets-self c = rw (← c.self.view_is)
    (put_past c.self.inside.room c.self.inside.is_cut c.self.inside.octets.items c.args.octets.now (omega arith)
    (omega arith))

pub returns-else-octets-self : goal.returns-else-octets-self
returns-else-octets-self c = rw (← c.self.view_is)
    (put_within c.self.inside.room c.self.inside.is_cut c.self.inside.octets.items c.args.octets.now
    c.extend_from_slice.new.self.items (omega arith) (omega arith) (search rules))
