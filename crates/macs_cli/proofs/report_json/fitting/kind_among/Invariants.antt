use Rattle.std.proofs.Common.{◌≡◌, drop, map}
use Rattle.macs_cli.specs.Cutting.{words}
use Rattle.macs_cli.specs.Objects.{kind_among}
use Rattle.macs_cli.proofs.report_json.fitting.kind_among.Given as goal

abbrev pub invariant-loop-i : goal.invariant-loop-i
invariant-loop-i l = kind_among (map (λ kind. kind.now) l.fn.kinds) (words l.fn.line)
    ≡ kind_among (map (λ kind. kind.now) (drop l.i l.fn.kinds)) (words l.fn.line)
