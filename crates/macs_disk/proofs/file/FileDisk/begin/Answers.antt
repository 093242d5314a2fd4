use Rattle.std.proofs.Common.{rules, ◌<◌, ◌^◌, arith, refl}
use Rattle.macs_disk.proofs.FileCalls.{refused-failed, refused-worn}
use Rattle.macs_disk.proofs.file.FileDisk.begin.Goals as goal

pub returns-then-self-clause-refused : goal.returns-then-self-clause-refused
returns-then-self-clause-refused g c = refused-worn g.F.DiskFile.file _ c.if-self.true

pub returns-then-self-2-clause-refused : goal.returns-then-self-2-clause-refused
returns-then-self-2-clause-refused g c =
    let fits : c.args.self.now.clock < 2 ^ 64 = search rules in
    let other = c.if-self.false in
    refused-failed g.F.DiskFile.file c.args.self.now _ (omega (arith, fits, other)) (search rules) refl refl refl refl
    refl c.if-self-2.true
