-- the commands so far were sent, and a line was printed for each
use Rattle.std.proofs.Common.{take}
use Rattle.macs_control.specs.Asking.{conversation_of}
use Rattle.macs_program.specs.Asking.{AsksAll}
use Rattle.macs_program.proofs.sending.apply_each.Given as goal

abbrev pub invariant-loop-i : goal.invariant-loop-i
invariant-loop-i g l =
    AsksAll (conversation_of g.S.Connection.link l.initial.asker) (take l.i l.commands)
    (g.W.Stream.contents l.initial.out) (g.W.Stream.contents l.out) l.status
    (conversation_of g.S.Connection.link l.asker)
