use Rattle.std.proofs.Common.{refl, length}
use Rattle.macs_aes.specs.Keys.{octets_of_key}
use Rattle.macs_fields.specs.Fields.{octets_of}
use Rattle.macs_c.proofs.Refused.{refused}
use Rattle.macs_c.proofs.opening.open_into.Goals as goal

pub returns-clause-refused : goal.returns-clause-refused
returns-clause-refused c =
    refused c.args.key.now c.args.sci.now.octets c.args.frame.now c.args.offset (length c.args.out.now)
    (octets_of_key c.in-Some.octets)
    (octets_of c.in-Some-offset_of.clear) (c.in-Some.ensures.some.0 refl) c.in-Some.ensures.octets
    (c.in-Some-offset_of.ensures.some.0 refl)
    c.in-Some-offset_of.ensures.octets c.open_under.result c.open_under.ensures.refused
