use Rattle.std.proofs.Common.{sym}
use Rattle.macs_fields.specs.Fields.{octets_of}
use Rattle.macs_frame.proofs.ClearEnd.{take-slice_range, drop-slice_range}
use Rattle.macs_frame.proofs.shared.clear_end.Goals as goal

pub returns-then-tag-clause-clear : goal.returns-then-tag-clause-clear
returns-then-tag-clause-clear c = λ octets.
    rw (c.if-tag.true, c.min.ensures, c.get.ensures)
    (sym (take-slice_range (octets_of c.args.offset) c.args.start c.args.end octets c.requires))

pub returns-then-tag-clause-hidden : goal.returns-then-tag-clause-hidden
returns-then-tag-clause-hidden c = λ octets.
    rw (c.if-tag.true, c.min.ensures, c.get.ensures)
    (sym (drop-slice_range (octets_of c.args.offset) c.args.start c.args.end octets c.requires))
