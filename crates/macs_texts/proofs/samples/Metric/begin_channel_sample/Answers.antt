use Rattle.std.proofs.Common.{◌++◌}
use Rattle.std.specs.Prelude.{codes}
use Rattle.hex.specs.Hex.{encode_lower}
use Rattle.macs_texts.specs.Measuring.{own_label}
use Rattle.macs_texts.proofs.Adding.{and_then, more_labels}
use Rattle.macs_texts.proofs.samples.Metric.begin_channel_sample.Goals as goal

pub returns : goal.returns
returns c = more_labels c.args.paper.now c.begin_sample.new.paper c.put-2.new.self c.args.self.now.name.now
    (own_label c.args.self.now.own) (codes ",channel=\"" ++ (encode_lower c.args.sci ++ codes "\""))
    c.begin_sample.ensures
    (and_then c.begin_sample.new.paper c.put.new.self c.put-2.new.self (codes ",channel=\"")
    (encode_lower c.args.sci ++ codes "\"") c.put.ensures
    (and_then c.put.new.self c.hex.new.self c.put-2.new.self (encode_lower c.args.sci) (codes "\"")
    (rw c.get.ensures at c.hex.ensures) c.put-2.ensures))
