use Rattle.macs_edge.proofs.relaying.turn.Goals as goal

pub returns : goal.returns
returns g c = (
  c.carry-2.new.endpoint,
  (
    c.carry.new.endpoint,
    g.P.Wire.state c.carry.new.from,
    g.C.Wire.state c.carry.new.to,
    c.carry.ensures,
    c.carry-2.ensures,
  ),
  c.facts.ensures,
  c.progress.ensures,
)
