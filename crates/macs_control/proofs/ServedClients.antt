-- What passes between the program's desk and its clients over a whole relay.
use Rattle.std.proofs.Common.{◌≡◌, List, [], ◌∷◌, Result, ap, ℕ}
use Rattle.std.specs.Prelude.{flat_map}
use Rattle.macs_disk.specs.Disk.{Disk}
use Rattle.macs_endpoint.specs.declared.fault.RefillFault.{RefillFault}
use Rattle.macs_edge.specs.Attending.{Attends}
use Rattle.macs_commands.specs.InTurn.{InTurn}
use Rattle.macs_edge.specs.Relaying.{Relay, empty_lane}
use Rattle.macs_edge.specs.declared.attending.DeskEvent.{DeskEvent}
use Rattle.macs_commands.specs.Talks.{Talk}
use Rattle.macs_commands.proofs.InTurns.{and-then}
use Rattle.macs_control.specs.Serving.{ServesClients, Speaks, SpeaksToClients, state_of_desk}
use Rattle.macs_control.specs.Unanswered.{entries_of}
use Rattle.macs_control.specs.declared.desk.control_desk.ControlDesk.{ControlDesk}
use Rattle.macs_control.proofs.Served.{clients-told}

module _ {C M S : Type 0} (Does : C → Talk → C → Type 0) where
  -- event by event
  heard : (events : List DeskEvent) (before after : ControlDesk C M S)
      → InTurn (SpeaksToClients Does) before events after
      → (talks : List (List Talk)) × Speaks (state_of_desk before) events talks (state_of_desk after)
      × InTurn Does before.clients (flat_map (λ (talk : List Talk). talk) talks) after.clients
  heard [] before after is = (
    [],
    ap state_of_desk is,
    ap (λ (d : ControlDesk C M S). d.clients) is,
  )
  heard (event ∷ events) before after (between, (talk, speaks, passed), more) =
      let rest = heard events between after more in (
        talk ∷ rest.0,
        (state_of_desk between, speaks, rest.1),
        and-then Does before.clients between.clients after.clients talk (flat_map (λ (talk : List Talk). talk) rest.0)
            passed rest.2,
      )

  pub clients-served : {D T : Type 0} (disk_of : D → Disk) (turns : ℕ) (old new : Relay D) (events : List DeskEvent)
      (before after : ControlDesk C M S) (result : Result T RefillFault) → old.to_common ≡ empty_lane
      → old.to_controlled ≡ empty_lane → old.endpoint.waiting ≡ [] → entries_of before.unanswered ≡ []
      → Attends disk_of turns old events result new → InTurn (SpeaksToClients Does) before events after
      → ServesClients Does before events after
  clients-served disk_of turns old new events before after result out back none_waits none attends hears =
      let (talks, speaks, passed) = heard events before after hears in
      let (told, left) =
      clients-told disk_of turns old new events talks (state_of_desk before) (state_of_desk after) result out back
      none_waits none attends speaks in
      record { talks = talks; passed = passed; told = told; left = left }
