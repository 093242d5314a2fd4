use Rattle.macs_fixtures.proofs.BlockFlags.{copied-all, copied-one, copied-past, is-other, is-this}
use Rattle.macs_fixtures.proofs.blocks.copy_blocks.Goals as goal
use Rattle.macs_fixtures.proofs.blocks.copy_blocks.Goals.{then-flags-n, else-flags-n}

pub loop-n-preserved : goal.loop-n-preserved
loop-n-preserved g c = elim c.if-flags-n.branch [
  | then-flags-n w ↦
      let part = w.copy_part.ensures in
      rw w.to-is (copied-one c.args.block c.loop-n.n c.args.flags.now c.args.which c.args.to.now.items c.args.from.now
      c.loop-n.to.items _
      c.requires.some (is-this _ _ w.if-flags-n.true) part.length part.copied part.before part.behind
      c.loop-n.invariant)
  | else-flags-n w ↦
      rw w.to-is (copied-past c.args.block c.loop-n.n c.args.flags.now c.args.which c.args.to.now.items c.args.from.now
      c.loop-n.to.items
      (is-other _ _ w.if-flags-n.false) c.loop-n.invariant)
]

pub returns-clause-copied : goal.returns-clause-copied
returns-clause-copied g c =
    copied-all c.args.block c.loop-n.n c.args.flags.now c.args.which c.args.to.now.items c.args.from.now
    c.loop-n.to.items
    c.requires.some c.requires.blocks c.requires.alike c.loop-n-test.false c.loop-n.invariant
