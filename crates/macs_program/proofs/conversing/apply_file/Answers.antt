use Rattle.std.proofs.lemmas.Result.{err_from_is_err_and}
use Rattle.macs_control.specs.Asking.{conversation_of}
use Rattle.macs_program.proofs.Conversed.{end-found, end-unfound, file-unread}
use Rattle.macs_program.proofs.conversing.apply_file.Goals as goal

pub returns-in_err-told : goal.returns-in_err-told
returns-in_err-told g c =
    let p = err_from_is_err_and c.from_residual.result c.from_residual.ensures.1 in
    file-unread g.T.File.Read.remaining g.W.Stream.contents g.W.Stream.failed c.args.file.now
    (conversation_of g.S.Connection.link c.args.asker.now) c.args.out.now c.in_err-told.field-0.0 p.0
    c.from_residual.result p.1 p.2 c.in_err-told.ensures.ended

pub returns-in_err-find_end : goal.returns-in_err-find_end
returns-in_err-find_end g c =
    let p = err_from_is_err_and c.from_residual-in_err-find_end.result c.from_residual-in_err-find_end.ensures.1 in
    end-unfound g.T.File.Read.remaining g.W.Stream.contents g.W.Stream.failed c.args.file.now
    (conversation_of g.S.Connection.link c.args.asker.now) c.args.out.now c.in_ok-told.told.end
    c.in_ok-told.told.commands.items (conversation_of g.S.Connection.link c.find_end.new.asker)
    c.in_err-find_end.field-0.0 p.0 c.from_residual-in_err-find_end.result c.in_ok-told.ensures.said p.1 p.2
    c.in_err-find_end.ensures.other

pub returns : goal.returns
returns g c =
    end-found g.T.File.Read.remaining g.W.Stream.contents g.W.Stream.failed c.args.file.now
    (conversation_of g.S.Connection.link c.args.asker.now) c.args.out.now c.in_ok-told.told.end
    c.in_ok-told.told.commands.items c.as_slice.result.now (conversation_of g.S.Connection.link c.find_end.new.asker)
    (conversation_of g.S.Connection.link c.apply_each.new.asker) c.apply_each.result c.apply_each.new.out
    c.in_ok-told.ensures.said c.as_slice.ensures.value c.in_ok-find_end.ensures.own c.apply_each.ensures
