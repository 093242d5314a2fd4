use Rattle.std.proofs.Common.{rules, refl}
use Rattle.std.specs.Int.{to_be_bytes, w32}
use Rattle.macs_record.proofs.Numbers.{back_4, front_4, never}
use Rattle.macs_record.proofs.reading.Reader.u32.Goals as goal

pub returns-in_err-octets-clause-found : goal.returns-in_err-octets-clause-found
returns-in_err-octets-clause-found c =
    λ number rest range here. absurd (never _ (c.in_err-octets.ensures.found (to_be_bytes w32 number) rest refl here))

pub returns-clause-some : goal.returns-clause-some
returns-clause-some c =
    (search rules, front_4 _ _ _ _ c.in_ok-octets.ensures.some.0 c.from_be_bytes.ensures c.in_ok-octets.ensures.some.1)

pub returns-clause-found : goal.returns-clause-found
returns-clause-found c = λ number rest range here.
    let found = c.in_ok-octets.ensures.found (to_be_bytes w32 number) rest refl here in
    (back_4 _ _ number range c.from_be_bytes.ensures found.0, found.1)
