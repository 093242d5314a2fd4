-- Texts of the reports of both wires.
use Rattle.std.proofs.Common.{◌≡◌, ◌∙◌, ℕ, List, ap}
use Rattle.macs_texts.specs.declared.wire_report.WireReport.{WireReport}

-- a text of the same reports
pub of-both : (text : WireReport → WireReport → List ℕ) (a b first second : WireReport) → a ≡ first → b ≡ second
    → text a b ≡ text first second
of-both text a b first second is are =
    ap (λ (w : WireReport). text w b) is ∙ ap (λ (w : WireReport). text first w) are
