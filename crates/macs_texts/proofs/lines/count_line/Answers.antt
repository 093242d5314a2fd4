use Rattle.std.proofs.Common.{◌++◌}
use Rattle.std.specs.Prelude.{codes}
use Rattle.std.specs.Fmt.{decimal}
use Rattle.macs_texts.proofs.Adding.{and_line}
use Rattle.macs_texts.proofs.lines.count_line.Goals as goal

pub returns : goal.returns
returns c = and_line c.args.paper.now c.put.new.self c.counted.new.paper c.args.side.now
    (codes " " ++ (c.args.what.now ++ (codes " " ++ decimal c.args.count))) c.put.ensures c.counted.ensures
