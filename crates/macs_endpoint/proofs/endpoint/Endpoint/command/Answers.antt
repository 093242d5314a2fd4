use Rattle.std.proofs.Common.{◌≡◌, ◌∙◌, [], false, Err, IsOk, sym, ap, subst}
use Rattle.macs_config.specs.Apply.{IsCommand, Named, apply}
use Rattle.macs_config.specs.Config.{this_edition}
use Rattle.macs_config.specs.declared.command.Command.{Command}
use Rattle.macs_store.specs.Standing.{accept}
use Rattle.macs_store.specs.Value.{standing_in}
use Rattle.macs_endpoint.specs.KeptCommands.{KeepsCommand}
use Rattle.macs_endpoint.specs.Parts.{endpoint_of}
use Rattle.macs_endpoint.specs.Value.{EndpointValue, is_stopped}
use Rattle.macs_endpoint.specs.declared.fault.CommandFault.TheVariants.{Refused}
use Rattle.macs_endpoint.specs.declared.turn.Turn.TheVariants.{Reservation}
use Rattle.macs_endpoint.proofs.Commanding.{busy-command, refused-command, stopped-command}
use Rattle.macs_endpoint.proofs.Ended.{not_stopped}
use Rattle.macs_endpoint.proofs.TakenUp.{refused_by}
use Rattle.macs_endpoint.proofs.endpoint.Endpoint.command.Goals as goal

pub returns-then-is_stopped : goal.returns-then-is_stopped
returns-then-is_stopped g c =
    stopped-command g.D.SectorDisk.disk c.args.self.now c.args.command c.command_in_range.ensures
    (sym c.is_stopped.ensures ∙ c.if-is_stopped.true)

pub returns-then-not-is_empty : goal.returns-then-not-is_empty
returns-then-not-is_empty g c =
    let waits : ¬ (c.args.self.now.waiting ≡ []) = λ none.
    not_stopped c.is_empty.result (c.is_empty.ensures.1
    (ap (λ (e : EndpointValue g.row.D.Denot). e.waiting) c.self.view_is ∙ none)) c.if-not-is_empty.true in
    busy-command g.D.SectorDisk.disk c.args.self.now c.args.command c.command_in_range.ensures
    (sym c.is_stopped.ensures ∙ c.if-is_stopped.false) waits

pub returns-in-Err : goal.returns-in-Err
returns-in-Err g c =
    let d = g.D.SectorDisk.disk in
    let old : EndpointValue g.row.D.Denot =
    endpoint_of c.self.inside.store c.self.inside.channels c.self.inside.queue c.self.inside.turn in
    let refusal = c.in-Err.refusal in
    let running : is_stopped old ≡ false =
    ap (λ (e : EndpointValue g.row.D.Denot). is_stopped e) c.self.view_is ∙ sym c.is_stopped.ensures
    ∙ c.if-is_stopped.false in
    let refused : apply this_edition (standing_in old.store).identity (standing_in old.store).config c.args.command
    ≡ Err (Named refusal) =
    refused_by (standing_in old.store) c.args.command
    (apply this_edition (standing_in old.store).identity (standing_in old.store).config c.args.command)
    (Named refusal) ((c.check.ensures.refused refusal).0 c.in-Err.is) in
    subst (λ (x : EndpointValue g.row.D.Denot).
    KeepsCommand d x c.args.command (Err (Refused refusal)) (record old { turn = Reservation })) c.self.view_is
    (refused-command d old c.args.command c.command_in_range.ensures refusal running
    (c.is_empty.ensures.0 c.if-not-is_empty.false) refused)

pub keep-requires-clause-in_range : goal.keep-requires-clause-in_range
keep-requires-clause-in_range g c =
    subst (λ (command : Command). IsCommand command) (sym c.in-Ok.ensures.checked) c.command_in_range.ensures

pub keep-requires-clause-accepted : goal.keep-requires-clause-accepted
keep-requires-clause-accepted g c =
    subst (λ (command : Command). IsOk (accept (standing_in c.args.self.now.store) command))
    (sym c.in-Ok.ensures.checked)
    (subst (λ (e : EndpointValue g.row.D.Denot). IsOk (accept (standing_in e.store) c.args.command)) c.self.view_is
    c.in-Ok.ensures.fits)

pub returns-in-Ok : goal.returns-in-Ok
returns-in-Ok g c =
    subst (λ (command : Command). KeepsCommand g.D.SectorDisk.disk c.args.self.now command c.keep.result
    c.keep.new.self) c.in-Ok.ensures.checked c.keep.ensures
