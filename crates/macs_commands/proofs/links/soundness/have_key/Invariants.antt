-- Those so far do not have the key.
use Rattle.std.proofs.Common.{◌≡◌, drop}
use Rattle.macs_aes.specs.Keys.{octets_of_key}
use Rattle.macs_config.specs.Config.{is_among}
use Rattle.macs_commands.specs.Reading.{keys_of}
use Rattle.macs_commands.proofs.links.soundness.have_key.Given as goal

abbrev pub invariant-loop-i : goal.invariant-loop-i
invariant-loop-i l = is_among (keys_of l.fn.pairs) (octets_of_key l.fn.key)
    ≡ is_among (keys_of (drop l.i l.fn.pairs)) (octets_of_key l.fn.key)
