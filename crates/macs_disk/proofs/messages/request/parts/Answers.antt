use Rattle.std.proofs.Common.{ap, drop, ◌∙◌}
use Rattle.macs_disk.proofs.ReadBack.{front, number-back, sector-back, three}
use Rattle.macs_disk.proofs.messages.request.parts.Goals as goal

pub returns : goal.returns
returns c = λ kind at sector small size is.
    let cut = front _ kind _ _ _ c.in_ok-kind.ensures.cases.0 is in
    let number = number-back _ _ sector c.from_be_bytes.result at small c.from_be_bytes.ensures
    c.in_ok-at.ensures.cases.0 cut.1 in
    let behind = c.in_ok-at.ensures.cases.1 ∙ ap (drop 8) cut.1 in
    three _ kind _ at _ sector cut.0 number (sector-back _ sector _ size c.in_ok-sector.ensures.cases.0 behind)
