use Rattle.std.proofs.Common.{ap}
use Rattle.toml.specs.View.{members_view}
use Rattle.macs_commands.proofs.files.table_writing.with_word.Goals as goal

pub returns : goal.returns
returns c =
    c.with.ensures _ _ (ap members_view c.new.ensures.empty) (rw c.text.ensures at c.string-text.ensures)
