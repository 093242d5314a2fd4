use Rattle.std.proofs.Common.{[]}
use Rattle.macs_journal.specs.Halves.{IsNextCall}
use Rattle.macs_journal.proofs.journal.Journal.step_append.Goals as goal

pub returns : goal.returns
returns g c =
    let call : IsNextCall c.self.inside.place c.self.inside.under_way [] c.append_call-call.result =
    rw c.in-Append.is c.append_call-call.ensures.call in
    rw (← c.self.view_is)
    (c.did_append.ensures.advances c.self.inside.disk [] c.append_call-call.result c.make-answer.new.read
    call c.make-answer.ensures)
