use Rattle.std.proofs.Common.{◌∙◌, ℕ, List, ap}
use Rattle.macs_config.specs.Value.{config_of}
use Rattle.macs_endpoint.specs.State.{State, no_logs}
use Rattle.macs_endpoint.specs.Value.{state_of}
use Rattle.macs_commands.specs.Papers.{written}
use Rattle.macs_texts.proofs.Adding.{nothing}
use Rattle.macs_texts.proofs.Shown.{rx-none, rx-some}
use Rattle.macs_texts.proofs.showing.rx_text.Goals as goal

pub returns-in_default : goal.returns-in_default
returns-in_default g c =
    let s : State = state_of c.args.endpoint.now no_logs in
    nothing c.args.paper.now _
    (rx-none s (config_of c.config.result.now) c.args.sci c.args.an c.config.ensures.config c.in_default.ensures)

pub returns : goal.returns
returns g c =
    let s : State = state_of c.args.endpoint.now no_logs in
    c.rx_line.ensures ∙ ap (λ (lines : List ℕ). written c.args.paper.now lines)
    (rx-some s (config_of c.config.result.now) c.args.sci c.args.an c.in-Some.sa c.in-Some-numbers.numbers
    c.config.ensures.config c.in-Some.ensures c.in-Some-numbers.ensures)
