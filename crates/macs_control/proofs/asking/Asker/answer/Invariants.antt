-- the text is what was read, and none of its lines ends an answer
use Rattle.macs_control.specs.Asking.{IsOpen, Reads, conversation_of}
use Rattle.macs_control.proofs.asking.Asker.answer.Given as goal

abbrev pub invariant-loop-line : goal.invariant-loop-line
invariant-loop-line g l = record {
  read : Reads (conversation_of g.S.Connection.link l.fn.self) l.text.items
      (conversation_of g.S.Connection.link l.self);
  endless : IsOpen l.text.items;
}
