use Rattle.std.proofs.Common.{◌≡◌, take}
use Rattle.macs_config.specs.Snapshot.{config_with_part}
use Rattle.macs_config.specs.Value.{config_in}
use Rattle.macs_config.specs.declared.part.Part.TheVariants.{Spent}
use Rattle.macs_config.proofs.restore.add_spent.Given as goal

abbrev pub invariant-loop-fingerprint : goal.invariant-loop-fingerprint
invariant-loop-fingerprint l = config_in l.contents
    ≡ config_with_part (config_in l.fn.contents) (Spent l.role (take l.fingerprint-index l.fingerprints))
