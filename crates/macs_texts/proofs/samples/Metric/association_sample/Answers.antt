use Rattle.std.proofs.Common.{◌++◌}
use Rattle.std.specs.Prelude.{codes}
use Rattle.std.specs.Fmt.{decimal}
use Rattle.macs_texts.specs.Measuring.{channel_labels, own_label}
use Rattle.macs_texts.proofs.Adding.{named}
use Rattle.macs_texts.proofs.samples.Metric.association_sample.Goals as goal

pub returns : goal.returns
returns c = named c.args.paper.now c.begin_channel_sample.new.paper c.rest_of_sample_at.new.paper
    c.args.self.now.name.now (channel_labels (own_label c.args.self.now.own) c.args.sci)
    (codes "," ++ (codes "an" ++ (codes "=\"" ++ (decimal c.args.an ++ (codes "\"} " ++ decimal c.args.number)))))
    c.begin_channel_sample.ensures (rw (c.from.ensures, c.get.ensures.value) at c.rest_of_sample_at.ensures)
