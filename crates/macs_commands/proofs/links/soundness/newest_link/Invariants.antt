-- The last of those that are left is the newest.
use Rattle.std.proofs.Common.{◌≡◌, drop, None}
use Rattle.macs_commands.specs.Reading.{newest_link}
use Rattle.macs_commands.proofs.links.soundness.newest_link.Given as goal

abbrev pub invariant-loop-i : goal.invariant-loop-i
invariant-loop-i l =
    newest_link l.fn.left l.fn.right None l.fn.pairs ≡ newest_link l.fn.left l.fn.right l.earlier (drop l.i l.fn.pairs)
