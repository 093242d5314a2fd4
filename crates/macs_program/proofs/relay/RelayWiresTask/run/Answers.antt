use Rattle.std.proofs.Common.{◌∙◌, sym}
use Rattle.macs_program.proofs.Relayed.{as-wanted}
use Rattle.macs_program.proofs.relay.RelayWiresTask.run.Goals as goal

pub returns-then-is_attended : goal.returns-then-is_attended
returns-then-is_attended g c =
    as-wanted g.row.T.Denot _ _ _ c.args.self.disk.now c.args.self.running _ _ _ _ _ _
    (sym c.if-is_attended.true ∙ c.is_attended.ensures) c.attend.ensures

pub returns-else-is_attended : goal.returns-else-is_attended
returns-else-is_attended g c =
    as-wanted g.row.T.Denot _ _ _ c.args.self.disk.now c.args.self.running _ _ _ _ _ _
    (sym c.if-is_attended.false ∙ c.is_attended.ensures)
    c.leave_alone.ensures
