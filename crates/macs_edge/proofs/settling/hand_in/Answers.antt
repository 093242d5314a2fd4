use Rattle.macs_edge.proofs.settling.hand_in.Goals as goal

pub returns : goal.returns
returns g c = let (reply, call, means, noted) = c.hand_in_noting.ensures in (reply, call, means)
