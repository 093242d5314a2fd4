use Rattle.std.proofs.Common.{[]}
use Rattle.macs_control.specs.Asking.{conversation_of}
use Rattle.macs_control.proofs.Asked.{lasts-no-more, lasts-on, reads-none}
use Rattle.macs_control.proofs.asking.Asker.outlast.Goals as goal

pub loop-look-init : goal.loop-look-init
loop-look-init g c = ([], reads-none (conversation_of g.S.Connection.link c.args.self.now))

pub returns-then-has_ended-clause-over : goal.returns-then-has_ended-clause-over
returns-then-has_ended-clause-over g c =
    lasts-no-more _ _ _ c.in-Some.has_ended c.if-has_ended.true c.loop-look.invariant c.in-Some.ensures.heard

pub loop-look-preserved : goal.loop-look-preserved
loop-look-preserved g c =
    lasts-on _ _ _ c.in-Some.has_ended c.if-has_ended.false c.loop-look.invariant c.in-Some.ensures.heard
