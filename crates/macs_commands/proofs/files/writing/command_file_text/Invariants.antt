-- The tables so far are those of the commands so far, and each is read as its command.
use Rattle.std.proofs.Common.{◌≡◌, take}
use Rattle.toml.specs.View.{items_view}
use Rattle.macs_commands.specs.Writing.{tables_of}
use Rattle.macs_commands.proofs.FileText.{AllRead}
use Rattle.macs_commands.proofs.files.writing.command_file_text.Given as goal

abbrev pub invariant-loop-i : goal.invariant-loop-i
invariant-loop-i l =
    record {
      tables : items_view l.tables.items ≡ tables_of (take l.i l.fn.commands);
      read : AllRead (take l.i l.fn.commands);
    }
