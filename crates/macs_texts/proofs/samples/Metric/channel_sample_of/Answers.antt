use Rattle.std.proofs.Common.{◌++◌}
use Rattle.std.specs.Prelude.{codes}
use Rattle.std.specs.Fmt.{decimal}
use Rattle.macs_texts.specs.Measuring.{channel_labels, own_label}
use Rattle.macs_texts.proofs.Adding.{named}
use Rattle.macs_texts.proofs.samples.Metric.channel_sample_of.Goals as goal

pub returns-in-Some : goal.returns-in-Some
returns-in-Some c = rw c.in-Some.is
    (named c.args.paper.now c.begin_channel_sample.new.paper c.rest_of_sample.new.paper c.args.self.now.name.now
    (channel_labels (own_label c.args.self.now.own) c.args.sci)
    (codes "," ++ (codes "verdict" ++ (codes "=\"" ++ (c.args.verdict.now
    ++ (codes "\"} " ++ decimal c.in-Some.number)))))
    c.begin_channel_sample.ensures c.rest_of_sample.ensures)
