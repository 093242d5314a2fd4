use Rattle.std.proofs.Common.{◌++◌}
use Rattle.std.specs.Prelude.{codes}
use Rattle.std.specs.Fmt.{decimal}
use Rattle.macs_texts.proofs.Adding.{and_line, labelled}
use Rattle.macs_texts.proofs.samples.rest_of_sample_at.Goals as goal

pub returns : goal.returns
returns c = labelled c.args.paper.now c.begin_label.new.paper c.end_sample.new.paper c.args.label.now
    (decimal c.args.value ++ (codes "\"} " ++ decimal c.args.number)) c.begin_label.ensures
    (and_line c.begin_label.new.paper c.number.new.self c.end_sample.new.paper (decimal c.args.value)
    (codes "\"} " ++ decimal c.args.number) c.number.ensures c.end_sample.ensures)
