-- An opening, and the life of an endpoint, is a life.
use Rattle.std.proofs.Common.{◌≡◌, ◌≢◌, ◌⊎◌, inl, inr, ℕ, List, [], ◌∷◌, map, Some, None, Result, Ok, Err, refl, sym}
use Rattle.std.proofs.Common.{◌∙◌, ap, subst}
use Rattle.std.specs.List.{AllByRecursion}
use Rattle.macs_config.specs.Config.{this_edition}
use Rattle.macs_disk.specs.Disk.{Disk, IsHonest, now}
use Rattle.macs_disk.specs.States.{Image, IsSound}
use Rattle.macs_journal.specs.declared.fault.JournalFault.{JournalFault}
use Rattle.macs_journal.specs.declared.fault.JournalFault.TheVariants.{Disk as DiskFault}
use Rattle.macs_journal.specs.declared.recovery.RecoverRefused.{RecoverRefused}
use Rattle.macs_store.specs.Found.{IsUnfitTo, StandingIs}
use Rattle.macs_store.specs.Value.{standing_in}
use Rattle.macs_endpoint.specs.Calls.{IsCall, IsInRange}
use Rattle.macs_endpoint.specs.Lives.{Lives, Transition, exchange_of}
use Rattle.macs_endpoint.specs.Opening.{IsOpening}
use Rattle.macs_endpoint.specs.Restart.{Fits, state_during}
use Rattle.macs_endpoint.specs.State.{Advances, Call, Logs, Reply, State}
use Rattle.macs_endpoint.specs.Step.{Exchange, Steps}
use Rattle.macs_endpoint.specs.Value.{EndpointValue, IsBacked, IsSoundEndpoint, device_in, disk_in, state_of}
use Rattle.macs_headline.specs.Deeds.{LivesFrom, IsPassedOn, disk_after_opening}
use Rattle.macs_headline.specs.History.{FitsPast, Formatted, IsLifeSoFar, Past, Refuses, Serves, logs_of}
use Rattle.macs_headline.proofs.Cuts.{cut-call}
use Rattle.macs_headline.proofs.Unbegun.{IsToKeep, cut-unbegun}
use Rattle.macs_headline.proofs.Losses.{IsCovered, LeadTo, covered-passed, covered-on, covered-seen, lead-nowhere}
use Rattle.macs_headline.proofs.Losses.{left-alike}

-- ---- openings

pub why-refused : (sectors : ℕ) (image : Image) (fault : JournalFault)
    → (fault ≢ DiskFault → IsUnfitTo this_edition sectors image fault)
    → (fault ≡ DiskFault) ⊎ IsUnfitTo this_edition sectors image fault
why-refused sectors image DiskFault refused = inl refl
why-refused sectors image fault refused = inr (refused (λ is. cc))

module _ {D : Type 0} (disk_of : D → Disk) (sound : (it : D) → IsHonest (disk_of it) → IsSound (now (disk_of it)))
    (sectors : ℕ) (past : Past)
    (old : D) (covered : IsCovered sectors past (disk_of old)) where
  -- what is read of the disk
  abbrev seen : Image
  seen = (now (disk_of old)).seen

  may_see : FitsPast this_edition sectors past seen
  may_see = covered-seen sectors past (disk_of old) (sound old covered.honest) covered

  pub opening-refused : (new : D) (fault : JournalFault)
      → IsOpening disk_of old (Err (record { disk = new; fault = fault }))
      → LeadTo sectors past (Refuses this_edition seen fault ∷ []) (disk_of new)
  opening-refused new fault opening =
      let honest = opening.refused.works.honest ∙ covered.honest in
      let why = why-refused sectors seen fault
      (λ other.
      subst (λ (n : ℕ). IsUnfitTo this_edition n seen fault) covered.size (opening.refused.found other honest)) in
      record {
        later = past;
        lead = (past, (may_see, why, refl), refl);
        covered =
            covered-on sectors past (disk_of old) (disk_of new) (sound old covered.honest) opening.refused.works covered
            (opening.refused.any_moment honest);
      }

  pub opening-cut : (result : Result (EndpointValue D) (RecoverRefused D)) (new : D) → IsOpening disk_of old result
      → IsPassedOn (disk_after_opening disk_of result) (disk_of old).clock (disk_of new)
      → LeadTo sectors past [] (disk_of new)
  opening-cut (Ok e) new opening passed =
      let honest = opening.device.works.honest ∙ covered.honest in
      lead-nowhere sectors past (disk_of new)
      (covered-passed sectors past (disk_in disk_of e) (disk_of new) (disk_of old).clock passed
      honest (opening.device.works.sectors ∙ covered.size)
      (left-alike sectors past (disk_of old) (disk_in disk_of e) (sound old covered.honest) covered
      (opening.device.any_moment honest)))
  opening-cut (Err refused) new opening passed =
      let honest = opening.refused.works.honest ∙ covered.honest in
      lead-nowhere sectors past (disk_of new)
      (covered-passed sectors past (disk_of refused.disk) (disk_of new) (disk_of old).clock passed
      honest (opening.refused.works.sectors ∙ covered.size)
      (left-alike sectors past (disk_of old) (disk_of refused.disk) (sound old covered.honest) covered
      (opening.refused.any_moment honest)))

-- ---- calls, one after another

module _ {D : Type 0} (disk_of : D → Disk) where
  pub lives-steps : (turns : List (Transition D)) (old new : EndpointValue D) (logs : Logs)
      → Lives disk_of old turns new
      → (after : Logs) × Steps (state_of old logs) (map exchange_of turns) (state_of new after)
  lives-steps [] old new logs lives = (logs, ap (λ (e : EndpointValue D). state_of e logs) lives)
  lives-steps (turn ∷ turns) old new logs (kept, call, rest) =
      let step = call.behaves.step logs in
      let more = lives-steps turns turn.after new step.0 rest in
      (more.0, (state_of turn.after step.0, step.1, more.1))

  lives_in_range : (turns : List (Transition D)) (old new : EndpointValue D) → Lives disk_of old turns new
      → AllByRecursion (λ (e : Exchange). IsInRange e.call) (map exchange_of turns)
  lives_in_range [] old new lives = tt
  lives_in_range (turn ∷ turns) old new (kept, call, rest) =
      (call.behaves.in_range, lives_in_range turns turn.after new rest)

  -- what stays through calls
  record GoesOn (old new : EndpointValue D) : Type 0 where
    honest : (disk_in disk_of new).honest ≡ (disk_in disk_of old).honest
    size : (disk_in disk_of new).sectors ≡ (disk_in disk_of old).sectors
    backed : IsHonest (disk_in disk_of old) → IsBacked disk_of old → IsBacked disk_of new

  lives_on : (turns : List (Transition D)) (old new : EndpointValue D) → Lives disk_of old turns new → GoesOn old new
  lives_on [] old new lives = subst (λ (e : EndpointValue D). GoesOn old e) (sym lives)
      (record { honest = refl; size = refl; backed = λ honest backed. backed })
  lives_on (turn ∷ turns) old new (kept, call, rest) =
      let works = call.device.works in
      let more = lives_on turns turn.after new rest in
      record {
        honest = more.honest ∙ works.honest;
        size = more.size ∙ works.sectors;
        backed =
            λ honest backed. more.backed (works.honest ∙ honest) (call.survives (works.honest ∙ honest) backed).backed;
      }

  -- an endpoint that opened a disk and made calls
  pub record IsAlive (sectors : ℕ) (past : Past) (image : Image) (first : EndpointValue D) (turns : List (Transition D))
      (last : EndpointValue D) : Type 0 where
    pub logs : Logs
    pub life : IsLifeSoFar sectors past this_edition image (map exchange_of turns) (state_of last logs)
    pub same_found : life.found ≡ standing_in first.store
    pub honest : IsHonest (disk_in disk_of last)
    pub size : (disk_in disk_of last).sectors ≡ sectors
    pub backed : IsBacked disk_of last

module _ {D : Type 0} (disk_of : D → Disk) (sound : (it : D) → IsHonest (disk_of it) → IsSound (now (disk_of it)))
    (sectors : ℕ) (past : Past)
    (old : D) (first : EndpointValue D) (turns : List (Transition D)) (last : EndpointValue D)
    (covered : IsCovered sectors past (disk_of old))
    (lived : LivesFrom disk_of old first turns last) where
  pub alive : IsAlive disk_of sectors past (now (disk_of old)).seen first turns last
  alive =
      let opened = lived.0 in
      let honest = opened.device.works.honest ∙ covered.honest in
      let on = lives_on disk_of turns first last lived.1 in
      let steps = lives-steps disk_of turns first last (logs_of past) lived.1 in
      record {
        logs = steps.0;
        life = record {
          fits = may_see disk_of sound sectors past old covered;
          found = standing_in first.store;
          is_found = subst (λ (n : ℕ). StandingIs this_edition n (now (disk_of old)).seen
              (Ok (standing_in first.store))) covered.size (opened.found honest);
          in_range = lives_in_range disk_of turns first last lived.1;
          steps = subst (λ (s : State). Steps s (map exchange_of turns) (state_of last steps.0))
              (opened.state (logs_of past)) steps.1;
        };
        same_found = refl;
        honest = on.honest ∙ honest;
        size = on.size ∙ opened.device.works.sectors ∙ covered.size;
        backed = on.backed honest (opened.backed honest);
      }

  -- it gave its disk back
  pub covered-life : (new : D) → new ≡ device_in last
      → IsCovered sectors (Formatted (state_of last alive.logs)) (disk_of new)
  covered-life new same =
      subst (λ (d : D). IsCovered sectors (Formatted (state_of last alive.logs)) (disk_of d)) (sym same) (record {
        honest = alive.honest;
        size = alive.size;
        images = λ image left. subst (λ (n : ℕ). Fits this_edition n image (state_of last alive.logs)) alive.size
            (alive.backed.fits alive.logs image left);
      })

  pub life-ended : (new : D) → new ≡ device_in last → LeadTo sectors past
      (Serves this_edition (now (disk_of old)).seen (map exchange_of turns) None ∷ []) (disk_of new)
  life-ended new same =
      let end = Formatted (state_of last alive.logs) in
      record {
        later = end;
        lead = (end, (state_of last alive.logs, alive.life, tt, refl), refl);
        covered = covered-life new same;
      }

  -- a call was cut short
  module _ (kept : IsSoundEndpoint last) (call : Call) (reply : Reply) (after : EndpointValue D)
      (is : IsCall disk_of last call reply after) (new : D)
      (passed : IsPassedOn (disk_in disk_of after) (disk_in disk_of last).clock (disk_of new)) where
    pub covered-cut : IsCovered sectors (Formatted (state_during (state_of last alive.logs) call)) (disk_of new)
    covered-cut =
        let s = state_during (state_of last alive.logs) call in
        covered-passed sectors (Formatted s) (disk_in disk_of after) (disk_of new) (disk_in disk_of last).clock passed
        (is.device.works.honest ∙ alive.honest) (is.device.works.sectors ∙ alive.size)
        (λ image left. subst (λ (n : ℕ). Fits this_edition n image s) alive.size
        (cut-call disk_of last after alive.logs reply kept alive.honest alive.backed call is image left))

    -- in a step in which no command begins: the state before it
    pub covered-unbegun : (¬ IsToKeep last) → call ≡ Advances
        → IsCovered sectors (Formatted (state_of last alive.logs)) (disk_of new)
    covered-unbegun apart steps =
        let s = state_of last alive.logs in
        covered-passed sectors (Formatted s) (disk_in disk_of after) (disk_of new) (disk_in disk_of last).clock passed
        (is.device.works.honest ∙ alive.honest) (is.device.works.sectors ∙ alive.size)
        (λ image left. subst (λ (n : ℕ). Fits this_edition n image s) alive.size
        (cut-unbegun disk_of last after alive.logs kept alive.honest alive.backed reply
        (subst (λ (c : Call). IsCall disk_of last c reply after) steps is) image left apart kept.work))

    pub life-cut : LeadTo sectors past
        (Serves this_edition (now (disk_of old)).seen (map exchange_of turns) (Some call) ∷ []) (disk_of new)
    life-cut =
        let end = Formatted (state_during (state_of last alive.logs) call) in
        record {
          later = end;
          lead = (end, (state_of last alive.logs, alive.life, is.behaves.in_range, refl), refl);
          covered = covered-cut;
        }
