use Rattle.std.proofs.Common.{refl}
use Rattle.macs_theorem.specs.Events.{Answers, Shows}
use Rattle.macs_theorem.specs.Shown.{shown_by}
use Rattle.macs_theorem.proofs.Kept.{first-kept}
use Rattle.macs_theorem.proofs.two_nights.TwoNightsProgram.see.Goals as goal

pub returns : goal.returns
returns g c = λ events kept. first-kept c.args.self.now.first c.args.self.now.second events
    (Answers (Shows (shown_by c.args._endpoint.now))) refl kept
