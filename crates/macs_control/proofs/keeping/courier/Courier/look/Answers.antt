use Rattle.std.proofs.Common.{◌≡◌, [], false, sym, ◌∙◌, true}
use Rattle.macs_control.specs.declared.connection.Taken.TheVariants.{Ended, Gone}
use Rattle.macs_control.proofs.Carried.{heard-end, heard-part}
use Rattle.macs_control.proofs.CourierCalls.{hears-if-later, nothing-said}
use Rattle.macs_control.proofs.keeping.courier.Courier.look.Goals as goal

pub returns-in-Octets-clause-some : goal.returns-in-Octets-clause-some
returns-in-Octets-clause-some g c =
    let part = heard-part _ _ _ _ c.take_part.result (λ is. let e = sym c.in-Octets.is ∙ is in
    cc) c.take_part.ensures.fills in
    rw (← c.self.view_is) (hears-if-later _ _ _ c.args.call.now _ c.take_answer.result part c.take_answer.ensures.some)

pub returns-in-Ended-clause-some : goal.returns-in-Ended-clause-some
returns-in-Ended-clause-some g c =
    let fills = rw c.in-Ended.is at c.take_part.ensures.fills in
    rw (← c.self.view_is) ([], true, nothing-said c.args.call.now, heard-end _ _ _ _ fills)

pub returns-in-Gone-clause-some : goal.returns-in-Gone-clause-some
returns-in-Gone-clause-some g c =
    let part = heard-part _ _ _ _ c.take_part.result (λ is. let e : Gone ≡ Ended = sym c.in-Gone.is ∙ is in cc)
    c.take_part.ensures.fills in
    rw (← c.self.view_is) ([], false, nothing-said c.args.call.now, part)
