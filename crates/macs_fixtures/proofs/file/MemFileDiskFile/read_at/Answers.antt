use Rattle.std.proofs.Common.{refl, arith}
use Rattle.macs_fixtures.proofs.BlockFlags.{fetched-all}
use Rattle.macs_fixtures.proofs.file.MemFileDiskFile.read_at.Goals as goal

-- of no octets nothing is to be shown
pub returns-then-at-self-clause-effect : goal.returns-then-at-self-clause-effect
returns-then-at-self-clause-effect g c _ = record {
  same = refl;
  octets = fetched-all c.args.self.now.cache.items c.args.into.now c.args.at 0 (omega arith)
      (λ k lt. absurd (omega (arith, lt)));
}
