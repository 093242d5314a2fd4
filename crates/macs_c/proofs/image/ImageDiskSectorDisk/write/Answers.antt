use Rattle.std.proofs.Common.{◌∙◌, ap, sym}
use Rattle.std.specs.Prelude.{is_some}
use Rattle.macs_c.specs.ImageDisks.{ImageValue}
use Rattle.macs_c.proofs.ImageDisks.{stops}
use Rattle.macs_c.proofs.image.ImageDiskSectorDisk.write.Goals as goal

pub returns-else-is_some-clause-effect : goal.returns-else-is_some-clause-effect
returns-else-is_some-clause-effect c _ =
    stops c.args.self.now c.stop.new.self c.args.at c.args._from.now
    (sym (ap (λ (it : ImageValue). is_some it.tried) c.self.view_is) ∙ sym c.is_some.ensures ∙ c.if-is_some.false)
    c.stop.ensures
