use Rattle.std.proofs.Common.{◌∙◌, ap}
use Rattle.macs_config.specs.Apply.{answer_or_refusal, refusal_of}
use Rattle.macs_config.specs.Config.{this_edition}
use Rattle.macs_config.specs.Judged.{rx_install}
use Rattle.macs_config.specs.Value.{ConfigValue, config_of}
use Rattle.macs_config.proofs.config.Config.check_rx.Goals as goal

pub returns : goal.returns
returns c =
    let asked = rx_install c.args.sci c.args.an c.args.sa c.args.start in
    c.check_rx.ensures c.self.inside.identity
    ∙ ap (λ (s : ConfigValue). answer_or_refusal (refusal_of this_edition s.identity (config_of s) asked) asked)
    c.self.view_is
