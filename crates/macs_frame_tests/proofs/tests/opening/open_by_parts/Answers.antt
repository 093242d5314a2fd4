use Rattle.std.proofs.Common.{refl}
use Rattle.macs_frame_tests.proofs.tests.opening.open_by_parts.Goals as goal

pub open_parts-requires : goal.open_parts-requires
open_parts-requires c = ((c.in_ok-parts.ensures.parts c.in_ok-parts.parts).0 refl).0
