use Rattle.std.proofs.Common.{◌∙◌, ap, sym}
use Rattle.macs_theorem.specs.Events.{Answers}
use Rattle.macs_theorem.specs.Examples.{number_list, numbers_in}
use Rattle.macs_theorem.specs.Programs.{answer_of}
use Rattle.macs_theorem.proofs.Kept.{first-kept, first-noted}
use Rattle.macs_theorem.proofs.two_nights.TwoNightsProgram.hear.Goals as goal

pub returns-in-Some : goal.returns-in-Some
returns-in-Some c = λ events kept. first-noted c.note.new.self.first c.note.new.self.second events
    (Answers (answer_of c.args.heard.now)) c.in-Some.pn (sym c.number_of.ensures ∙ ap number_list c.in-Some.is)
    (c.note.ensures (numbers_in events) kept)

pub returns-in-None : goal.returns-in-None
returns-in-None c = λ events kept. first-kept c.args.self.now.first c.args.self.now.second events
    (Answers (answer_of c.args.heard.now)) (sym c.number_of.ensures ∙ ap number_list c.in-None.is) kept
