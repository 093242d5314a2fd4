use Rattle.std.proofs.Common.{take}
use Rattle.std.specs.List.{All}
use Rattle.macs_fields.specs.Fields.{IsOctets}
use Rattle.macs_record.proofs.laws.fingerprints_in_range.Given as goal

abbrev pub invariant-loop-fingerprint : goal.invariant-loop-fingerprint
invariant-loop-fingerprint l = All (IsOctets 32) (take l.fingerprint-index l.fn.fingerprints)
