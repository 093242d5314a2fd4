use Rattle.std.proofs.Common.{◌∙◌, List, ℕ, ap, codes, subst}
use Rattle.macs_cli.specs.Reasons.{Complains, Tells}
use Rattle.macs_program.specs.Sockets.{socket_reason, socket_text}
use Rattle.macs_program.proofs.asking.failure_of_connection.Goals as goal

pub returns : goal.returns
returns c =
    subst (λ (why : List ℕ). Complains (Tells (codes "control") c.args.path.now why) c.failure_told.result)
    (c.text.ensures ∙ ap socket_text (c.socket_reason-reason.ensures ∙ ap socket_reason c.kind.ensures))
    c.failure_told.ensures
