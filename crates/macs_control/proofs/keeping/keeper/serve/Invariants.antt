-- as many requests were served as the loop counts, one after another, and a steady connection still is
use Rattle.std.proofs.Common.{◌≡◌, List, true, length}
use Rattle.macs_control.specs.Keepers.{MakesEach, Served}
use Rattle.macs_control.proofs.keeping.keeper.serve.Given as goal

abbrev pub invariant-loop-request : goal.invariant-loop-request
invariant-loop-request g l = record {
  makes : (served : List Served) × (length served ≡ l._request)
      × MakesEach (g.D.SectorDisk.disk l.fn.disk) (g.C.Connection.link l.fn.client) served
      (g.D.SectorDisk.disk l.disk) (g.C.Connection.link l.client);
  steady : g.C.Connection.steady l.fn.client ≡ true → g.C.Connection.steady l.client ≡ true;
}
