use Rattle.std.proofs.lemmas.Result.{err_from_is_err_and}
use Rattle.macs_control.specs.Asking.{conversation_of}
use Rattle.macs_program.proofs.Conversed.{each-cut, each-done, none-asked, one-asked}
use Rattle.macs_program.proofs.sending.apply_each.Goals as goal

pub loop-i-init : goal.loop-i-init
loop-i-init g c =
    none-asked (conversation_of g.S.Connection.link c.args.asker.now) (g.W.Stream.contents c.args.out.now)

pub loop-i-preserved : goal.loop-i-preserved
loop-i-preserved g c =
    let (outcome, is, asked, printed) = c.in_ok-is_refused.ensures.printed in
    one-asked _ (conversation_of g.S.Connection.link c.loop-i.asker)
    (conversation_of g.S.Connection.link c.apply_one.new.asker) c.args.commands.now c.loop-i.i _
    c.index-commands-i.result (g.W.Stream.contents c.args.out.now) (g.W.Stream.contents c.loop-i.out)
    (g.W.Stream.contents c.apply_one.new.out) c.loop-i.status c.status_after-status.result
    c.in_ok-is_refused.is_refused outcome c.loop-i-test.true c.index-commands-i.is c.status_after-status.ensures
    c.loop-i.invariant is asked printed

pub returns-in_err-is_refused : goal.returns-in_err-is_refused
returns-in_err-is_refused g c =
    let p = err_from_is_err_and c.from_residual.result c.from_residual.ensures.1 in
    let said = c.in_err-is_refused.ensures in
    each-cut g.W.Stream.contents g.W.Stream.failed _ (conversation_of g.S.Connection.link c.loop-i.asker)
    (conversation_of g.S.Connection.link c.apply_one.new.asker) c.args.commands.now c.loop-i.i _
    c.index-commands-i.result c.args.out.now c.loop-i.out c.apply_one.new.out c.loop-i.status
    c.in_err-is_refused.field-0.0 p.0 c.from_residual.result p.1 p.2 c.loop-i-test.true c.index-commands-i.is
    c.loop-i.invariant said.ended said.silent said.broken

pub returns : goal.returns
returns g c =
    each-done g.W.Stream.contents g.W.Stream.failed (conversation_of g.S.Connection.link c.args.asker.now)
    (conversation_of g.S.Connection.link c.loop-i.asker) c.args.commands.now c.loop-i.i c.args.out.now c.loop-i.out
    c.loop-i.status c.loop-i-test.false c.loop-i.invariant
