-- a part of the message is held, and was taken; over a steady connection an octet more after each look
use Rattle.std.proofs.Common.{◌≡◌, ◌<◌, ◌≤◌, true, length}
use Rattle.macs_control.specs.Keepers.{Takes}
use Rattle.macs_control.proofs.keeping.taking.take_whole.Given as goal

abbrev pub invariant-loop-look : goal.invariant-loop-look
invariant-loop-look g l = record {
  few : length l.held.items < g.row.N;
  takes : Takes (g.C.Connection.link l.fn.from) l.held.items (g.C.Connection.link l.from);
  steady : g.C.Connection.steady l.fn.from ≡ true
      → (g.C.Connection.steady l.from ≡ true) × (l._look ≤ length l.held.items);
}
