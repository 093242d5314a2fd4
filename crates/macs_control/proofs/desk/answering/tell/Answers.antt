use Rattle.std.proofs.Common.{◌∙◌}
use Rattle.macs_control.proofs.EndTexts.{end-0, end-5}
use Rattle.macs_control.proofs.Talking.{reported, unreported}
use Rattle.macs_control.proofs.desk.answering.tell.Goals as goal

pub returns-in-Some-clause-told : goal.returns-in-Some-clause-told
returns-in-Some-clause-told g c = λ text is.
    reported g.C.Clients.does c.args.clients.now c.say.new.self c.say-in-Some.new.self c.args.client c.in-Some.text.now
    c.as_bytes.result.now text (rw c.requires at (c.in-Some.ensures text is)) (c.as_bytes.ensures.value ∙ end-0)
    c.say.ensures c.say-in-Some.ensures

pub returns-in-None-clause-told : goal.returns-in-None-clause-told
returns-in-None-clause-told g c = λ text is.
    unreported g.C.Clients.does c.args.clients.now c.say-in-None.new.self c.args.client
    c.as_bytes-in-None.result.now text
    (rw c.requires at (c.in-None.ensures text is)) (c.as_bytes-in-None.ensures.value ∙ end-5) c.say-in-None.ensures
