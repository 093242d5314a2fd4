use Rattle.std.proofs.Common.{sym, subst}
use Rattle.macs_record.specs.Decoding.{IsSectorOf}
use Rattle.macs_record.specs.declared.record.Record.{Record}
use Rattle.macs_c.proofs.formatting.record_sector.Goals as goal

pub returns : goal.returns
returns c =
    subst (λ (r : Record). IsSectorOf r c.encode.result) c.default-settings.ensures
    (record { range = c.record_in_range.ensures; octets = sym c.encode.ensures })
