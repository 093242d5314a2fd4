use Rattle.macs_record.proofs.Fingerprints.{range_all, range_next}
use Rattle.macs_record.proofs.laws.fingerprints_in_range.Goals as goal

pub loop-fingerprint-preserved : goal.loop-fingerprint-preserved
loop-fingerprint-preserved c =
    range_next c.as_slice-fingerprint-items.result.now c.args.fingerprints.now c.loop-fingerprint.fingerprint-index _
    c.as_slice-fingerprint-items.ensures.items
    c.loop-fingerprint-test.true c.loop-fingerprint.invariant c.fingerprint_in_range.ensures

pub returns : goal.returns
returns c = (
  c.as_slice-fingerprint-items.ensures.some,
  c.as_slice-fingerprint-items.ensures.few,
  range_all c.as_slice-fingerprint-items.result.now c.args.fingerprints.now c.loop-fingerprint.fingerprint-index
      c.as_slice-fingerprint-items.ensures.items
      c.loop-fingerprint-test.false c.loop-fingerprint.invariant,
)
