use Rattle.std.proofs.Common.{◌++◌, string_bytes}
use Rattle.std.specs.Prelude.{codes}
use Rattle.std.specs.Fmt.{decimal}
use Rattle.macs_texts.specs.Measuring.{build_labels, own_label}
use Rattle.macs_texts.proofs.Adding.{more_labels, named}
use Rattle.macs_texts.proofs.measuring.build_sample.Goals as goal

pub returns : goal.returns
returns c = named c.args.paper.now c.build_labels.new.paper c.rest_of_sample.new.paper c.args.info.now.name.now
    (build_labels (own_label c.args.info.now.own) c.args.build.now)
    (codes "," ++ (codes "proved" ++ (codes "=\"" ++ (string_bytes c.args.build.now.proved
    ++ (codes "\"} " ++ decimal 1)))))
    (more_labels c.args.paper.now c.begin_sample.new.paper c.build_labels.new.paper c.args.info.now.name.now
    (own_label c.args.info.now.own) _ c.begin_sample.ensures c.build_labels.ensures)
    (rw c.as_str.ensures.value at c.rest_of_sample.ensures)
