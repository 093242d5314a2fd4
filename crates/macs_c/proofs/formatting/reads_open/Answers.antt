use Rattle.std.proofs.Common.{◌↔◌, ℕ, List, subst, sym}
use Rattle.std.specs.Prelude.{IsTrue}
use Rattle.macs_record.specs.Gates.{IsOpen}
use Rattle.macs_c.proofs.SectorLists.{read-there}
use Rattle.macs_c.proofs.formatting.reads_open.Goals as goal

pub returns : goal.returns
returns c =
    subst (λ (sector : List ℕ). IsTrue c.is_open.result ↔ IsOpen sector)
    (sym (read-there c.args.sectors.now c.args.at c.sector_at.result c.sector_at.ensures.octets
    c.sector_at.ensures.sector))
    c.is_open.ensures
