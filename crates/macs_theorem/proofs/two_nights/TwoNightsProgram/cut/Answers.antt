use Rattle.std.proofs.Common.{refl}
use Rattle.macs_theorem.specs.Events.{EndsIn}
use Rattle.macs_theorem.proofs.Kept.{first-kept}
use Rattle.macs_theorem.proofs.two_nights.TwoNightsProgram.cut.Goals as goal

pub returns : goal.returns
returns c = λ events answer kept.
    first-kept c.args.self.now.first c.args.self.now.second events (EndsIn answer) refl kept
