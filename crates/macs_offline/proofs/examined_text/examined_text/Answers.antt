use Rattle.std.proofs.Common.{◌≡◌, IfOk, string_bytes, subst}
use Rattle.macs_config.specs.Config.{Config}
use Rattle.macs_offline.specs.Examining.{end_text}
use Rattle.macs_offline.proofs.examined_text.examined_text.Goals as goal

pub returns : goal.returns
returns g c = λ records told.
    let ended = subst (λ (x : Config). IfOk c.end_text.result (λ text. string_bytes text ≡ end_text x))
    c.config.ensures.config c.end_text.ensures in
    let with-1 = c.joined-text.ensures _ _ c.channels_text.ensures ended in
    let with-2 = c.joined-text-2.ensures _ _ c.tx_text.ensures with-1 in
    let with-3 = c.joined-text-3.ensures _ _ told with-2 in
    c.joined.ensures _ _ c.figures_text.ensures with-3
