use Rattle.macs_headline.proofs.ExampleHistory.{is-worked-history}
use Rattle.macs_headline.proofs.laws.worked_history.Goals as goal

pub returns : goal.returns
returns c = is-worked-history c.peer_frame_in_range.ensures
