use Rattle.std.proofs.Common.{◌≤◌}
use Rattle.macs_endpoint.proofs.Turns.{IsServing}
use Rattle.macs_endpoint.proofs.endpoint.Endpoint.serve.Given as goal

-- so many events were served, and none of the answers says that a device call failed
abbrev pub invariant-loop : goal.invariant-loop
invariant-loop g l = record {
  serving : IsServing g.D.SectorDisk.disk l.counter l.fn.self
      (record {
        source_tells = g.S.EventSource.tells l.fn.source;
        left = g.S.EventSource.left l.fn.source;
        sink_tells = g.K.AnswerSink.tells l.fn.sink;
        took = g.K.AnswerSink.took l.fn.sink;
      })
      l.self
      (record {
        source_tells = g.S.EventSource.tells l.source;
        left = g.S.EventSource.left l.source;
        sink_tells = g.K.AnswerSink.tells l.sink;
        took = g.K.AnswerSink.took l.sink;
      });
  within : l.counter ≤ l.turns;
}
