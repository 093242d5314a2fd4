-- The last lines of a run over a capture and of a relay.
use Rattle.std.specs.Prelude.{◌++◌, ◌&&◌, if◌then◌else◌, nat_lt, Bool, ℕ, List, codes}
use Rattle.std.specs.Fmt.{decimal}
use Rattle.macs_edge.specs.declared.capture_runs.Summary.{Summary}
use Rattle.macs_edge.specs.declared.relaying.RelaySummary.{RelaySummary}
use Rattle.macs_edge.specs.declared.settling.Side.{Side}
use Rattle.macs_edge.specs.declared.settling.Side.TheVariants.{Common, Controlled}
use Rattle.macs_texts.specs.Lines.{line}
use Rattle.macs_cli.specs.declared.status.Status.{Status}
use Rattle.macs_cli.specs.declared.status.Status.TheVariants as ends

-- how many frames passed, and how many were left out
abbrev pub summary_line : Side → Summary → List ℕ
summary_line Controlled s = line (codes "protected " ++ (decimal s.passed ++ (codes " dropped " ++ decimal s.dropped)))
summary_line Common s = line (codes "delivered " ++ (decimal s.passed ++ (codes " discarded " ++ decimal s.dropped)))

-- the status of a run over a capture: Refused if all frames should pass and one did not, else Done
abbrev pub pass_status : Bool → Summary → Status
pass_status is_all s = if is_all && nat_lt 0 s.dropped then ends.Refused else ends.Done

-- what became of the frames of a relay
abbrev pub relay_line : RelaySummary → List ℕ
relay_line s = line (codes "sent " ++ (decimal s.sent ++ (codes " delivered " ++ (decimal s.delivered
    ++ (codes " dropped " ++ (decimal s.dropped ++ (codes " faults " ++ decimal s.faults)))))))
