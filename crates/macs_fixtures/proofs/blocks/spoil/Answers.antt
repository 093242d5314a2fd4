use Rattle.macs_fixtures.proofs.BlockFlags.{spoiled-all, spoiled-one, spoiled-past}
use Rattle.macs_fixtures.proofs.blocks.spoil.Goals as goal
use Rattle.macs_fixtures.proofs.blocks.spoil.Goals.{then-pending-n, else-pending-n}

pub loop-n-preserved : goal.loop-n-preserved
loop-n-preserved g c = elim c.if-pending-n.branch [
  | then-pending-n w ↦
      let part = w.spoil_block.ensures in
      rw w.durable-is (spoiled-one c.args.block c.loop-n.n c.args.pending.now c.args.left c.args.durable.now.items
      c.args.written.now c.loop-n.durable.items _
      c.requires.some w.if-pending-n.true part.length part.spoiled part.before part.behind part.octets
      c.loop-n.invariant)
  | else-pending-n w ↦
      rw w.durable-is (spoiled-past c.args.block c.loop-n.n c.args.pending.now c.args.left c.args.durable.now.items
      c.args.written.now c.loop-n.durable.items
      w.if-pending-n.false c.loop-n.invariant)
]

pub returns-clause-spoiled : goal.returns-clause-spoiled
returns-clause-spoiled g c =
    spoiled-all c.args.block c.loop-n.n c.args.pending.now c.args.left c.args.durable.now.items c.args.written.now
    c.loop-n.durable.items
    c.loop-n-test.false c.loop-n.invariant
