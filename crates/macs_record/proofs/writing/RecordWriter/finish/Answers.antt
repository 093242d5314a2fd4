use Rattle.std.proofs.Common.{◌++◌, ◌-◌, ◌∙◌, ap, arith, replicate}
use Rattle.std.proofs.lemmas.List.{take-replicate}
use Rattle.macs_record.specs.Sectors.{padded_sector}
use Rattle.macs_record.proofs.writing.RecordWriter.finish.Goals as goal

pub returns : goal.returns
returns c =
    let whole = rw c.unwrap-2.ensures at c.into_inner.ensures.ok in
    let more = rw c.unwrap.ensures at c.try_extend_from_slice.ensures.ok in
    whole ∙ more ∙ ap (λ zeros. c.self.inside.octets.items ++ zeros)
    (take-replicate (512 - c.len-room.result) 512 0 (omega arith)
    ∙ ap (λ n. replicate (512 - n) 0) c.len-room.ensures.value)
    ∙ ap padded_sector c.self.view_is
