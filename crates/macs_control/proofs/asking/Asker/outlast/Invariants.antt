-- some octets were read, and the relay was not found to have ended
use Rattle.macs_control.specs.Asking.{OutlivesNot, conversation_of}
use Rattle.macs_control.proofs.asking.Asker.outlast.Given as goal

abbrev pub invariant-loop-look : goal.invariant-loop-look
invariant-loop-look g l =
    OutlivesNot (conversation_of g.S.Connection.link l.fn.self) (conversation_of g.S.Connection.link l.self)
