use Rattle.std.proofs.Common.{◌≡◌, ◌+◌, ℕ, length}
use Rattle.macs_c.specs.ImageDisks.{image_of}
use Rattle.macs_journal.specs.NewArea.{AreClosed, IsNoOpenGate}
use Rattle.macs_c.proofs.formatting.close_gates.Given as goal

abbrev pub invariant-loop-slot : goal.invariant-loop-slot
invariant-loop-slot l = record {
  size : length l.sectors ≡ length l.fn.sectors;
  closed : AreClosed (image_of l.fn.sectors) (image_of l.sectors) 0 1 (l.slot + 1);
  others : (i : ℕ) → IsNoOpenGate (image_of l.fn.sectors) 0 1 (l.slot + 1) i
      → image_of l.sectors i ≡ image_of l.fn.sectors i;
}
