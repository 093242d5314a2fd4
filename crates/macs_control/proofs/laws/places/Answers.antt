use Rattle.macs_control.proofs.StandingWords.{place-words}
use Rattle.macs_control.proofs.laws.places.Goals as goal

pub returns : goal.returns
returns g c = place-words
