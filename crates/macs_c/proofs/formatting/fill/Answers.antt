use Rattle.std.proofs.Common.{◌∙◌}
use Rattle.macs_c.specs.ImageDisks.{image_of}
use Rattle.macs_c.proofs.Filled.{filled}
use Rattle.macs_c.proofs.formatting.fill.Goals as goal

pub returns-clause-filled : goal.returns-clause-filled
returns-clause-filled c =
    filled (image_of c.args.sectors.now) (image_of c.put.new.sectors) (image_of c.put-2.new.sectors)
    (image_of c.close_gates.new.sectors) (image_of c.put-3.new.sectors) c.args.identity.now c.head_sector.result
    c.record_sector.result c.head_sector.ensures c.record_sector.ensures c.put.ensures.written c.put.ensures.others
    c.put-2.ensures.written c.put-2.ensures.others c.close_gates.ensures.closed c.close_gates.ensures.others
    (c.put-3.ensures.written ∙ c.open_gate.ensures) c.put-3.ensures.others
