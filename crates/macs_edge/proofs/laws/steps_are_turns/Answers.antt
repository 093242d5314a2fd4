use Rattle.macs_edge.proofs.Drawn.{flows-in-turns, flows-within}
use Rattle.macs_edge.proofs.laws.steps_are_turns.Goals as goal

pub returns-clause-within : goal.returns-clause-within
returns-clause-within g c = flows-within g.D.SectorDisk.disk

pub returns-clause-prompt : goal.returns-clause-prompt
returns-clause-prompt g c = flows-in-turns g.D.SectorDisk.disk
