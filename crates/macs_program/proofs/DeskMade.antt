-- What a new desk is made of.
use Rattle.std.proofs.Common.{◌≡◌, ◌∙◌, ℕ, List, [], ap, subst, sym}
use Rattle.std.specs.Prelude.{is_some}
use Rattle.macs_cli.specs.declared.words.pace.Running.{Running}
use Rattle.macs_control.specs.ControlSockets.{IsUnused}
use Rattle.macs_control.specs.MetricsFiles.{IsPlaceAt}
use Rattle.macs_control.specs.Unanswered.{entries_of}
use Rattle.macs_control.specs.declared.metrics_file.MetricsPlace.{MetricsPlace}
use Rattle.macs_control.specs.declared.watch.Sockets.{Sockets}
use Rattle.macs_texts.specs.declared.program.Program.{Program}
use Rattle.macs_program.specs.About.{IsThisBuild}
use Rattle.macs_program.specs.Attendants.{IsNewDesk, SystemClients, SystemDesk, sleep_of}
use Rattle.macs_program.specs.declared.relay_system.RelaySystem.{RelaySystem}

pub desk-made : {T : Type 0} (disk : List ℕ) (running : Running) (sockets : Sockets) (program : Program)
    (clients : SystemClients T) (metrics : MetricsPlace T) (system : RelaySystem T) (desk : SystemDesk T)
    → desk.program ≡ program → desk.clients ≡ clients → desk.metrics ≡ metrics → desk.system ≡ system
    → entries_of desk.unanswered ≡ [] → desk.good ≡ 0 → desk.turns_left ≡ 63 → IsThisBuild program.build
    → IsUnused (is_some running.control) sockets (sleep_of running.pace) clients → IsPlaceAt running.metrics metrics
    → system.wires ≡ sockets → system.keys.disk.now ≡ disk → IsNewDesk disk running sockets desk
desk-made {T} disk running sockets program clients metrics system desk one two three four none good turns build unused
    place wires keys = record {
      program = subst (λ (p : Program). IsThisBuild p.build) (sym one) build;
      clients = subst (λ (c : SystemClients T). IsUnused (is_some running.control) sockets (sleep_of running.pace) c)
          (sym two) unused;
      metrics = subst (λ (m : MetricsPlace T). IsPlaceAt running.metrics m) (sym three) place;
      drops = ap (λ (s : RelaySystem T). s.wires) four ∙ wires;
      keys = ap (λ (s : RelaySystem T). s.keys.disk.now) four ∙ keys;
      unanswered = none;
      good = good;
      turns = turns;
    }
