use Rattle.std.proofs.Common.{◌∙◌, [], get_or, ap}
use Rattle.macs_c.specs.ImageDisks.{ImageValue}
use Rattle.macs_c.proofs.ImageDisks.{read-image}
use Rattle.macs_c.proofs.image.ImageDiskSectorDisk.read.Goals as goal

pub returns-clause-effect : goal.returns-clause-effect
returns-clause-effect c _ =
    read-image c.args.self.now c.pass.new.self c.args.at _ c.pass.ensures.same c.in_ok-pass.ensures.settled
    (c.sector_at.ensures.octets ∙ ap (λ (it : ImageValue). get_or it.sectors c.args.at []) c.self.view_is)
    c.sector_at.ensures.sector
