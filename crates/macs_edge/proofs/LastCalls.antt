-- The calls that the disk work of a turn makes of the endpoint: a step; or, while the disk has not answered, none or the
-- beginning of one.
use Rattle.std.proofs.Common.{◌≡◌, ◌⊎◌, ◌∷◌, ◌∙◌, ◌++◌, inl, inr, true, false, List, [], Option, Some, None, Result, Ok}
use Rattle.std.proofs.Common.{Err, refl, sym, subst}
use Rattle.macs_disk.specs.Disk.{Disk}
use Rattle.macs_store.specs.UnderWay.{UnderWay, Appending, Compacting, Nothing}
use Rattle.macs_endpoint.specs.Calls.{IsCall}
use Rattle.macs_endpoint.specs.Lives.{Lives, Transition}
use Rattle.macs_endpoint.specs.State.{Advanced, Advances}
use Rattle.macs_endpoint.specs.Value.{EndpointValue, IsSoundEndpoint}
use Rattle.macs_endpoint.specs.declared.fault.StepFault.{StepFault}
use Rattle.macs_endpoint.specs.declared.progress.Step.{Step as Progress}
use Rattle.macs_endpoint.specs.declared.progress.Step.TheVariants.{Worked}
use Rattle.macs_edge.specs.Flows.{ArePrompt}
use Rattle.macs_edge.specs.Relaying.{Progresses}

-- ---- calls after calls

pub lives-append : {D : Type 0} (disk_of : D → Disk) (old between new : EndpointValue D)
    (turns more : List (Transition D)) → Lives disk_of old turns between
    → Lives disk_of between more new → Lives disk_of old (turns ++ more) new
lives-append disk_of old between new [] more first second = subst (λ (e : _). Lives disk_of e more new) first second
lives-append disk_of old between new (turn ∷ turns) more first second =
    (first.0, first.1, lives-append disk_of turn.after between new turns more first.2 second)

-- ---- the calls of a turn

-- the answer of the call, if there is one: work that begins, and whose first device call has no answer yet, is answered
-- as a step that worked
abbrev pub step_answer : Result (Option Progress) StepFault → Result Progress StepFault
step_answer (Ok (Some step)) = Ok step
step_answer (Ok None) = Ok Worked
step_answer (Err fault) = Err fault

-- the call
abbrev pub last_call : {D : Type 0} → Result (Option Progress) StepFault → EndpointValue D → Transition D
last_call answer new = record { call = Advances; reply = Advanced (step_answer answer); after = new }

-- the calls: one, or none
pub record LastCalls {D : Type 0} (disk_of : D → Disk) (old : EndpointValue D)
    (answer : Result (Option Progress) StepFault) (new : EndpointValue D) : Type 0 where
  pub calls : List (Transition D)
  pub lives : Lives disk_of old calls new
  pub are : ((calls ≡ last_call answer new ∷ []) × IsCall disk_of old Advances (Advanced (step_answer answer)) new)
      ⊎ ((calls ≡ []) × (answer ≡ Ok None) × (new ≡ old))

idle_or_not : (work : UnderWay) → (work ≡ Nothing) ⊎ (¬ (work ≡ Nothing))
idle_or_not Nothing = inl refl
idle_or_not (Compacting kept) = inr (λ is. cc)
idle_or_not (Appending kept) = inr (λ is. cc)

module _ {D : Type 0} (disk_of : D → Disk) (old new : EndpointValue D) (sound : IsSoundEndpoint old) where
  one-call : (answer : Result (Option Progress) StepFault)
      → IsCall disk_of old Advances (Advanced (step_answer answer)) new → LastCalls disk_of old answer new
  one-call answer call = record {
    calls = last_call answer new ∷ [];
    lives = (sound, call, refl);
    are = inl (refl, call);
  }

  pub last-calls : (answer : Result (Option Progress) StepFault) → Progresses disk_of old answer new
      → LastCalls disk_of old answer new
  last-calls (Ok (Some step)) made = one-call (Ok (Some step)) made.0
  last-calls (Err fault) made = one-call (Err fault) made.0
  last-calls (Ok None) awaits =
      elim (idle_or_not old.store.under_way) [
        | inl idle ↦ one-call (Ok None) (awaits.0.call idle)
        | inr busy ↦ let same = awaits.0.same busy in record { calls = []; lives = same; are = inr (refl, refl, same) }
      ]

-- over prompt disks there is one
pub one-if-prompt : {D : Type 0} (disk_of : D → Disk) (old new : EndpointValue D)
    (answer : Result (Option Progress) StepFault) → ArePrompt disk_of → Progresses disk_of old answer new
    → (last : LastCalls disk_of old answer new) → last.calls ≡ last_call answer new ∷ []
one-if-prompt disk_of old new (Ok None) prompt awaits last =
    absurd (let no : true ≡ false = sym (prompt _) ∙ awaits.1 in cc)
one-if-prompt disk_of old new (Ok (Some step)) prompt made last =
    elim last.are [ inl one ↦ one.0 | inr none ↦ absurd (let no : Ok (Some step) ≡ Ok None = none.1 in cc) ]
one-if-prompt disk_of old new (Err fault) prompt made last =
    elim last.are [ inl one ↦ one.0 | inr none ↦ absurd (let no : Err fault ≡ Ok None = none.1 in cc) ]
