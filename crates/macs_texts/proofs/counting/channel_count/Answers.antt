use Rattle.std.proofs.Common.{◌++◌}
use Rattle.std.specs.Prelude.{codes}
use Rattle.std.specs.Fmt.{decimal}
use Rattle.macs_texts.specs.Lines.{channel_name}
use Rattle.macs_texts.proofs.Adding.{and_line}
use Rattle.macs_texts.proofs.counting.channel_count.Goals as goal

pub returns-in-Some : goal.returns-in-Some
returns-in-Some c = rw c.in-Some.is
    (and_line c.args.paper.now c.put_name.new.paper c.counted.new.paper (channel_name c.args.sci)
    (codes " " ++ (c.args.what.now ++ (codes " " ++ decimal c.in-Some.count))) c.put_name.ensures c.counted.ensures)
