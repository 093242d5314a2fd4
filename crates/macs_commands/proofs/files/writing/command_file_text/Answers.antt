use Rattle.std.proofs.Common.{◌≡◌, ◌∙◌, List, ap, subst, take}
use Rattle.std.proofs.lemmas.List.{take_all}
use Rattle.toml.specs.Data.{array}
use Rattle.toml.specs.View.{table_view}
use Rattle.macs_config.specs.declared.command.Command.{Command}
use Rattle.macs_commands.specs.Writing.{file_of, tables_of}
use Rattle.macs_commands.proofs.FileText.{AllRead, end_read, file_depth, file_read, file_seen, read_more, says}
use Rattle.macs_commands.proofs.FileText.{tables_more}
use Rattle.macs_commands.proofs.files.writing.command_file_text.Goals as goal

pub loop-i-preserved : goal.loop-i-preserved
loop-i-preserved c = record {
  tables = tables_more c.args.commands.now c.loop-i.i c.index-commands-i.result c.loop-i-test.true c.index-commands-i.is
      c.loop-i.tables.items c.push.new.self.items c.from.result _ c.loop-i.invariant.tables c.in-Ok-push.ensures.items
      c.from.ensures c.in-Ok.ensures;
  read = read_more c.args.commands.now c.loop-i.i c.index-commands-i.result c.loop-i-test.true c.index-commands-i.is
      c.loop-i.invariant.read c.is_read.ensures;
}

pub returns : goal.returns
returns c =
    let commands = c.args.commands.now in
    let whole : take c.loop-i.i commands ≡ commands = take_all c.loop-i.i commands c.loop-i-test.false in
    let tables = c.loop-i.invariant.tables ∙ ap (λ (l : List Command). tables_of l) whole in
    let all : AllRead commands = subst (λ (l : List Command). AllRead l) whole c.loop-i.invariant.read in
    let seen = c.from-2.ensures ∙ ap array tables in
    says c.written.result c.args.sci commands
    (c.written.ensures (file_of c.args.sci commands)
    (file_seen (λ table. table_view table) c.file_table.result c.args.sci _ (array (tables_of commands)) seen
    c.file_table.ensures)
    (file_depth c.args.sci commands))
    (file_read c.args.sci commands all) (end_read c.args.sci commands c.sci_in_range.ensures)
