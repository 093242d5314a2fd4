use Rattle.std.proofs.Common.{inr}
use Rattle.macs_disk_tests.proofs.tests.tearing.TearingSectorDisk.write.Goals as goal

pub returns-clause-effect : goal.returns-clause-effect
returns-clause-effect g c honest =
    record {
      ok = tt;
      err = inr (
        c.args.from.now,
        record { size = c.told-from; octets = c.fits-from },
        (c.in_ok-write.ensures.effect honest).ok,
      );
    }
