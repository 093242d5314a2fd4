use Rattle.std.proofs.Common.{◌++◌, ◌∷◌, [], List, ℕ, subst}
use Rattle.macs_commands.specs.Requests.{request_line}
use Rattle.macs_commands.proofs.Lined.{both_written}
use Rattle.macs_commands.proofs.Written.{all_of_it, whole}
use Rattle.macs_control.specs.Asking.{Sends, SendsSome, conversation_of}
use Rattle.macs_control.proofs.Asked.{if-failed, sends-none}
use Rattle.macs_program.proofs.answering.send_request.Goals as goal

pub returns-in_err-line-clause-cut : goal.returns-in_err-line-clause-cut
returns-in_err-line-clause-cut g c =
    if-failed c.from_residual.result (sends-none (conversation_of g.S.Connection.link c.args.asker.now) _)

pub returns-in_err-send-in-Some-clause-cut : goal.returns-in_err-send-in-Some-clause-cut
returns-in_err-send-in-Some-clause-cut g c =
    let line = request_line c.args.request.now ++ 10 ∷ [] in
    let same = whole _ line c.in-Some.octets.now (c.in-Some.ensures line
    (all_of_it 257 c.in_ok-line.line c.end_line.new.self line c.in_ok-line.ensures
    (both_written _ _ _ _ _ c.write_request.ensures c.end_line.ensures))) in
    if-failed c.from_residual-in_err-send-in-Some.result
    (subst (λ (l : List ℕ). SendsSome (conversation_of g.S.Connection.link c.args.asker.now) l
    (conversation_of g.S.Connection.link c.send.new.self)) same c.in_err-send-in-Some.ensures.cut)

pub returns-in-Some-clause-sent : goal.returns-in-Some-clause-sent
returns-in-Some-clause-sent g c =
    let line = request_line c.args.request.now ++ 10 ∷ [] in
    let same = whole _ line c.in-Some.octets.now (c.in-Some.ensures line
    (all_of_it 257 c.in_ok-line.line c.end_line.new.self line c.in_ok-line.ensures
    (both_written _ _ _ _ _ c.write_request.ensures c.end_line.ensures))) in
    subst (λ (l : List ℕ). Sends (conversation_of g.S.Connection.link c.args.asker.now) l
    (conversation_of g.S.Connection.link c.send.new.self)) same c.in_ok-send-in-Some.ensures.sent
