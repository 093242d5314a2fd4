use Rattle.std.proofs.Common.{◌≡◌, length}
use denote.Text.{Utf8}
use denote.Shadow.{shadow}
use Rattle.macs_cli.specs.Cutting.{words}
use Rattle.macs_cli.specs.Objects.{fit, parts}
use Rattle.macs_cli.proofs.report_json.fitting.fit.Given as goal

abbrev pub invariant-loop-own : goal.invariant-loop-own
invariant-loop-own l = shadow (Utf8 l.places) × shadow (Utf8 l.rest)
    × (fit (parts l.fn.kind) (words l.fn.line) ≡ fit (parts l.places) (words l.rest))

abbrev pub decreases-loop-own : goal.decreases-loop-own
decreases-loop-own l = length l.places
