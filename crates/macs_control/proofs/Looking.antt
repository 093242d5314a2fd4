-- What a desk does where it is time to look after its clients.
use Rattle.std.proofs.Common.{◌≡◌, ◌∙◌, ◌++◌, ℕ, Bool, true, List, Option, Result, ap, refl, subst}
use Rattle.macs_config.specs.declared.command.Command.{Command}
use Rattle.macs_edge.specs.declared.attending.Order.{Order}
use Rattle.macs_edge.specs.declared.counts.WireCounts.{WireCounts}
use Rattle.macs_endpoint.specs.Value.{EndpointValue}
use Rattle.macs_commands.specs.InTurn.{InTurn}
use Rattle.macs_commands.specs.Talks.{Note, Talk}
use Rattle.macs_commands.proofs.InTurns.{and-then}
use Rattle.macs_commands.specs.declared.requests.clients.Client.{Client}
use Rattle.macs_texts.specs.declared.build.Build.{Build}
use Rattle.macs_texts.specs.declared.program.Program.{Program}
use Rattle.macs_control.specs.declared.desk.key_notes.NoteFault.{NoteFault}
use Rattle.macs_control.specs.declared.desk.overruns.Dropped.{Dropped}
use Rattle.macs_control.specs.Listening.{Looks, LooksIf, Measures, MeasuresIf, Reports, measured_of, reports_of}
use Rattle.macs_control.specs.Listening.{sleep_after}

-- reports of the same counts
pub same-reports : {D : Type 0} (program : Program) (known : Option Dropped)
    (noted : Command → Option (Result (Unit {0}) NoteFault)) (endpoint : EndpointValue D) (a b c d : WireCounts) → a ≡ b
    → c ≡ d → reports_of program known noted endpoint a c ≡ reports_of program known noted endpoint b d
same-reports program known noted endpoint a b c d first second =
    ap (λ (w : WireCounts). reports_of program known noted endpoint w c) first
    ∙ ap (λ (w : WireCounts). reports_of program known noted endpoint b w) second

-- and what is measured of them
pub same-measured : {D : Type 0} (build : Build) (endpoint : EndpointValue D) (a b c d : WireCounts) → a ≡ b → c ≡ d
    → measured_of build endpoint a c ≡ measured_of build endpoint b d
same-measured build endpoint a b c d first second =
    ap (λ (w : WireCounts). measured_of build endpoint w c) first
    ∙ ap (λ (w : WireCounts). measured_of build endpoint b w) second

-- it sleeps after a quiet turn, and looks
pub looks-in-time : {C : Type 0} (Does : C → Talk → C → Type 0) (is was_quiet full known_full : Bool)
    (reports known : Reports) (old new : Client) (order : Order) (before between after : C) → is ≡ true
    → known_full ≡ full → known ≡ reports → InTurn Does before (sleep_after was_quiet) between
    → (more : List Talk) × Looks known_full known old more order new × InTurn Does between more after
    → (talk : List Talk) × LooksIf is was_quiet full reports old talk order new × InTurn Does before talk after
looks-in-time Does is was_quiet full known_full reports known old new order before between after time
    same_full same slept
    looked = (
      sleep_after was_quiet ++ looked.0,
      rw time (
        looked.0,
        refl,
        subst (λ (f : Bool). Looks f reports old looked.0 order new) same_full
            (subst (λ (r : Reports). Looks known_full r old looked.0 order new) same looked.1),
      ),
      and-then Does before between after (sleep_after was_quiet) looked.0 slept looked.2,
    )

-- the metrics are written where they are due
pub measures-in-time : {M : Type 0} (Does : M → Note → M → Type 0) (is : Bool) (dropped : Option Dropped)
    (text known : Dropped → List ℕ) (before after : M) → is ≡ true → known ≡ text
    → (notes : List Note) × Measures dropped known notes × InTurn Does before notes after
    → (notes : List Note) × MeasuresIf is dropped text notes × InTurn Does before notes after
measures-in-time Does is dropped text known before after time same measured = (
  measured.0,
  rw time (subst (λ (t : Dropped → List ℕ). Measures dropped t measured.0) same measured.1),
  measured.2,
)
