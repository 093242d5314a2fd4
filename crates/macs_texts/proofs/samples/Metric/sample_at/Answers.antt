use Rattle.std.proofs.Common.{◌++◌}
use Rattle.std.specs.Prelude.{codes}
use Rattle.std.specs.Fmt.{decimal}
use Rattle.macs_texts.specs.Measuring.{own_label}
use Rattle.macs_texts.proofs.Adding.{named}
use Rattle.macs_texts.proofs.samples.Metric.sample_at.Goals as goal

pub returns : goal.returns
returns c = named c.args.paper.now c.begin_sample.new.paper c.rest_of_sample_at.new.paper c.args.self.now.name.now
    (own_label c.args.self.now.own)
    (codes ","
    ++ (c.args.label.now ++ (codes "=\"" ++ (decimal c.args.value ++ (codes "\"} " ++ decimal c.args.number)))))
    c.begin_sample.ensures c.rest_of_sample_at.ensures
