-- no line was whole, and nothing is lost
use Rattle.std.proofs.Common.{[]}
use Rattle.macs_control.specs.Asking.{Reads, conversation_of}
use Rattle.macs_control.proofs.asking.Asker.next_line.Given as goal

abbrev pub invariant-loop-look : goal.invariant-loop-look
invariant-loop-look g l =
    Reads (conversation_of g.S.Connection.link l.fn.self) [] (conversation_of g.S.Connection.link l.self)
