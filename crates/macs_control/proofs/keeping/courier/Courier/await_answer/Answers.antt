use Rattle.std.proofs.Common.{refl}
use Rattle.macs_control.proofs.CourierCalls.{ends-failed, ends-later, unheard-none, waited}
use Rattle.macs_control.proofs.keeping.courier.Courier.await_answer.Goals as goal

pub loop-look-init : goal.loop-look-init
loop-look-init g c = unheard-none c.args.self.now

pub returns-in-Some : goal.returns-in-Some
returns-in-Some g c = ends-later _ _ _ _ _ c.in-Some.end c.loop-look.invariant c.in-Some.ensures.end

pub returns-then-not-wait : goal.returns-then-not-wait
returns-then-not-wait g c =
    let before = waited _ _ _ _ c.loop-look.invariant (c.in-None.ensures.still refl) c.wait.ensures in
    ends-failed _ _ _ _ _ c.give_up.result before c.give_up.ensures.err c.give_up.ensures.failed

pub loop-look-preserved : goal.loop-look-preserved
loop-look-preserved g c = waited _ _ _ _ c.loop-look.invariant (c.in-None.ensures.still refl) c.wait.ensures

pub returns : goal.returns
returns g c =
    ends-failed _ _ _ _ _ c.give_up-2.result c.loop-look.invariant c.give_up-2.ensures.err c.give_up-2.ensures.failed
