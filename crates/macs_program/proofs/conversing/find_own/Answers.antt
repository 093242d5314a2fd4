use Rattle.macs_program.proofs.Conversed.{other-shown, own-shown}
use Rattle.macs_program.proofs.conversing.find_own.Goals as goal

pub returns-clause-own : goal.returns-clause-own
returns-clause-own g c =
    own-shown _ _ c.args.sci c.in_ok-answer.answer.text.items c.in_ok-answer.answer.status c.refuse_other.result
    c.in_ok-answer.ensures.asked c.refuse_other.ensures.own

pub returns-clause-other : goal.returns-clause-other
returns-clause-other g c =
    other-shown _ _ c.args.sci c.in_ok-answer.answer.text.items c.in_ok-answer.answer.status c.refuse_other.result
    c.in_ok-answer.ensures.asked c.refuse_other.ensures.other
