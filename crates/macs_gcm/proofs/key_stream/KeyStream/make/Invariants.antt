use Rattle.std.proofs.Common.{◌≡◌, length}
use Rattle.macs_gcm.specs.KeyStream.{IsStream}
use Rattle.macs_gcm.specs.declared.counter.TheConstants.{GROUP}
use Rattle.macs_gcm.specs.declared.key_stream.TheConstants.{DEPTH}
use Rattle.macs_gcm.proofs.key_stream.KeyStream.make.Given as goal

abbrev pub invariant-loop-c : goal.invariant-loop-c
invariant-loop-c l = record {
  size : length l.self.rows ≡ DEPTH;
  made : IsStream GROUP l.fn.schedule l.fn.fixed l.fn.first l.c l.self.rows;
}
