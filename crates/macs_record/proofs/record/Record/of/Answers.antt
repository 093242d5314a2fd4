use Rattle.std.proofs.Common.{◌∙◌, Some, ap}
use Rattle.macs_config.specs.declared.command.Command.{Command}
use Rattle.macs_record.specs.Commands.{record_of}
use Rattle.macs_record.specs.declared.record.Record.{Record}
use Rattle.macs_record.proofs.Commands.{judged-recorded}
use Rattle.macs_record.proofs.record.Record.of.Goals as goal

pub returns : goal.returns
returns c =
    ap (λ (r : Record). Some r) c.record_judged.ensures
    ∙ judged-recorded c.judged.result.now c.judged.ensures.judged
    ∙ ap (λ (command : Command). record_of command) c.judged.ensures.asked
