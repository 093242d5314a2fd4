use Rattle.macs_disk.proofs.ReadBack.{front, sector-back, two}
use Rattle.macs_disk.proofs.messages.answer.parts.Goals as goal

pub returns : goal.returns
returns c = λ kind sector size is.
    let cut = front _ kind _ _ _ c.in_ok-kind.ensures.cases.0 is in
    two _ kind _ sector cut.0 (sector-back _ sector _ size c.in_ok-sector.ensures.cases.0 cut.1)
