use Rattle.std.proofs.Common.{rules}
use Rattle.macs_control.proofs.Called.{mode-refused, name-refused}
use Rattle.macs_control.proofs.binding.named.Goals as goal

pub returns-then-not-set_mode-clause-failed : goal.returns-then-not-set_mode-clause-failed
returns-then-not-set_mode-clause-failed g c =
    mode-refused _ _ _ _ c.set_mode.result c.in_ok-socket.ensures c.set_mode.ensures (search rules)

pub returns-then-not-bind-clause-failed : goal.returns-then-not-bind-clause-failed
returns-then-not-bind-clause-failed g c =
    name-refused _ _ _ _ _ c.set_mode.result c.bind.result c.in_ok-socket.ensures c.set_mode.ensures (search rules)
    c.bind.ensures (search rules)
