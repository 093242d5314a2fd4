use Rattle.std.proofs.Common.{◌∙◌, ap}
use Rattle.std.specs.Prelude.{is_some}
use Rattle.macs_config.specs.Config.{Config}
use Rattle.macs_theorem.specs.Events.{Answers, Shows}
use Rattle.macs_theorem.specs.Shown.{shown_by, tx_association}
use Rattle.macs_theorem.proofs.Kept.{contains-last, some-mapped}
use Rattle.macs_theorem.proofs.cut_command.CutCommandProgram.see.Goals as goal

pub returns : goal.returns
returns g c =
    let an = c.args.self.now.an in
    let shown = shown_by c.args.endpoint.now in
    λ events kept. (
      shown,
      contains-last events (Answers (Shows shown)),
      c.is_some.ensures ∙ ap is_some (c.tx.ensures ∙ ap (λ (config : Config). config.tx an) c.config.ensures.config)
          ∙ some-mapped tx_association _,
    )
