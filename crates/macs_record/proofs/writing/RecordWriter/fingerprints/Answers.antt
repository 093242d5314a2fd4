use Rattle.std.proofs.Common.{ℕ, ap, arith, length, length-append}
use Rattle.macs_record.proofs.Fingerprints.{written_next}
use Rattle.macs_record.proofs.writing.RecordWriter.fingerprints.Goals as goal

pub loop-item-preserved : goal.loop-item-preserved
loop-item-preserved c = record {
  written =
      written_next _ _ _ _ c.loop-item.item-index c.as_slice-items.result.now c.args.fingerprints.now _
      c.as_slice-items.ensures.items c.loop-item-test.true
      c.loop-item.invariant.written c.octets-writer.ensures;
  size = omega (arith, ap length c.octets-writer.ensures, length-append {A = ℕ}, c.loop-item.invariant.size);
}
