use Rattle.macs_record.proofs.Fingerprints.{IsRead}
use Rattle.macs_record.proofs.reading.Reader.fingerprints.Given as goal

abbrev pub invariant-loop : goal.invariant-loop
invariant-loop l = IsRead l.count l.counter l.fn.self l.self l.items
