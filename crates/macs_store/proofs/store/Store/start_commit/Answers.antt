use Rattle.std.proofs.Common.{◌≡◌, ◌∙◌, Err, IsOk, refl, sym, subst}
use Rattle.macs_config.specs.Apply.{Named}
use Rattle.macs_config.specs.declared.command.Command.{Command}
use Rattle.macs_store.specs.Standing.{accept}
use Rattle.macs_store.specs.Stepping.{StartsCommit}
use Rattle.macs_store.specs.Value.{StoreValue, standing_in}
use Rattle.macs_store.proofs.StartedCommands.{commit-refused, commit-stopped}
use Rattle.macs_store.proofs.store.Store.start_commit.Goals as goal

pub returns-then-is_stopped : goal.returns-then-is_stopped
returns-then-is_stopped g c = commit-stopped g.D.SectorDisk.disk c.args.self.now c.args.command.now
    (sym c.is_stopped.ensures ∙ c.if-is_stopped.true)

pub start_checked-requires-clause-running : goal.start_checked-requires-clause-running
start_checked-requires-clause-running g c = sym c.is_stopped.ensures ∙ c.if-is_stopped.false

pub start_checked-requires-clause-fits : goal.start_checked-requires-clause-fits
start_checked-requires-clause-fits g c =
    subst (λ (command : Command). IsOk (accept (standing_in c.args.self.now) command)) (sym c.in-Ok.ensures.checked)
    (subst (λ (s : StoreValue g.row.D.Denot). IsOk (accept (standing_in s) c.args.command.now)) c.self.view_is
    c.in-Ok.ensures.fits)

pub returns-in-Ok : goal.returns-in-Ok
returns-in-Ok g c =
    subst (λ (command : Command). StartsCommit g.D.SectorDisk.disk c.args.self.now command c.start_checked.result
    c.start_checked.new.self) c.in-Ok.ensures.checked
    c.start_checked.ensures

pub returns-in-Err : goal.returns-in-Err
returns-in-Err g c =
    commit-refused g.D.SectorDisk.disk c.args.self.now c.args.command.now c.in-Err.refusal
    (sym c.is_stopped.ensures ∙ c.if-is_stopped.false)
    (subst (λ (s : StoreValue g.row.D.Denot). accept (standing_in s) c.args.command.now ≡ Err (Named c.in-Err.refusal))
    c.self.view_is
    ((c.in-Err.ensures.refused c.in-Err.refusal).0 refl))
