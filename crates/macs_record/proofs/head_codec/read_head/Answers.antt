use Rattle.std.proofs.Common.{◌++◌}
use Rattle.std.specs.Int.{to_be_bytes, w32, w64}
use Rattle.macs_record.specs.Heads.{identity_octets}
use Rattle.macs_record.proofs.Numbers.{never}
use Rattle.macs_record.proofs.head_codec.read_head.Goals as goal

pub returns-in_err-format-clause-found : goal.returns-in_err-format-clause-found
returns-in_err-format-clause-found c = λ head rest range here.
    let fields = to_be_bytes w64 head.generation ++ (to_be_bytes w32 head.count ++ identity_octets head.identity) in
    absurd (never _ (c.in_err-format.ensures.found head.format (fields ++ rest) here))
