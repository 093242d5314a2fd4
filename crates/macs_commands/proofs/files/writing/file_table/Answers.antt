use Rattle.std.proofs.Common.{ap, refl}
use Rattle.toml.specs.View.{members_view, view}
use Rattle.macs_commands.proofs.files.writing.file_table.Goals as goal

pub returns : goal.returns
returns c =
    c.with.ensures _ (view c.args.commands)
    (c.with-file.ensures _ _ (ap members_view c.new.ensures.empty) c.sci_value.ensures) refl
