-- Whatever happens is expected.
use Rattle.std.proofs.Common.{◌≡◌, inl, inr, ℕ, Bool, true, false, is_ok, List, [], ◌∷◌, ◌++◌, map, Option, Some, None}
use Rattle.std.proofs.Common.{Result, Ok, Err, refl, sym, ◌∙◌, ap, subst}
use Rattle.std.specs.Prelude.{Contains}
use Rattle.std.proofs.lemmas.List.Elements.{Contains-append_cases}
use Rattle.macs_config.specs.Config.{this_edition}
use Rattle.macs_config.specs.Identity.{Identity}
use Rattle.macs_disk.specs.Disk.{Disk, IsHonest, MayLeave, now}
use Rattle.macs_disk.specs.States.{Image, IsSound}
use Rattle.macs_journal.specs.declared.fault.JournalFault.{JournalFault}
use Rattle.macs_store.specs.Value.{StoreValue}
use Rattle.macs_store.specs.Value as store
use Rattle.macs_endpoint.specs.Advancing.{AdvancesAs, BeginsWith, due_among, due_by_turn}
use Rattle.macs_endpoint.specs.Calls.{AdvancesIn, IsCall}
use Rattle.macs_endpoint.specs.Ceilings.{Raise}
use Rattle.macs_endpoint.specs.Lives.{Transition, exchange_of}
use Rattle.macs_endpoint.specs.Needed.{raise_in}
use Rattle.macs_endpoint.specs.Opening.{IsOpening}
use Rattle.macs_endpoint.specs.Queue.{first_waiting}
use Rattle.macs_endpoint.specs.Restart.{Fits, state_during}
use Rattle.macs_endpoint.specs.State.{Advanced, AdvancedLong, Advances, Call, Commands, Delivery, Logs, Protected}
use Rattle.macs_endpoint.specs.State.{Protects, Ran, Received, Receives, Refilled, Refills, RefusedLong, Reply, State}
use Rattle.macs_endpoint.specs.State.{Submits, Submitted, Use}
use Rattle.macs_endpoint.specs.State.{Rested, Rests}
use Rattle.macs_endpoint.specs.Limits.{IsStill}
use Rattle.macs_endpoint.specs.Step.{Exchange, IsStopped, RunningStep, Step}
use Rattle.macs_endpoint.specs.AtRest.{IsLevel}
use Rattle.macs_endpoint.specs.Value.{EndpointValue, IsSoundEndpoint, device_in, disk_in, is_stopped, state_of}
use Rattle.macs_endpoint.proofs.Rested.{level-after, level-opens}
use Rattle.macs_endpoint.specs.declared.fault.CommandFault.TheVariants as command
use Rattle.macs_endpoint.specs.declared.fault.StepFault.TheVariants as advance
use Rattle.macs_endpoint.specs.declared.progress.Step.TheVariants.{Done, Idle, Reserved, Worked}
use Rattle.macs_endpoint.specs.declared.queue.Waiting.{Waiting}
use Rattle.macs_endpoint.specs.declared.turn.Turn.{Turn}
use Rattle.macs_endpoint.specs.declared.turn.Turn.TheVariants as turns
use Rattle.macs_headline.specs.Deeds.{IsPassedOn, LivesFrom}
use Rattle.macs_headline.specs.History.{Blank, FitsPast, Formats, Formatted, IsHistory, IsLifeSoFar, Life, Past}
use Rattle.macs_headline.specs.History.{Refuses, Serves, logs_of}
use Rattle.macs_headline.specs.Moments.{Moment}
use Rattle.macs_headline.proofs.Answered.{history-on, life-on}
use Rattle.macs_headline.proofs.Chains.{calls-are-deeds, left-now}
use Rattle.macs_headline.proofs.Cuts.{cut-call}
use Rattle.macs_headline.proofs.Formats.{format-answered, format-cut}
use Rattle.macs_headline.proofs.Living.{alive, opening-cut, opening-refused}
use Rattle.macs_headline.proofs.Losses.{IsCovered, LeadTo, covered-passed}
use Rattle.macs_headline.proofs.Older.{larger_past}
use Rattle.macs_headline.proofs.Effects.{core}
use Rattle.macs_headline.proofs.Histories.{IsSoundPast, sound-history}
use Rattle.macs_headline.proofs.Sound.{IsSound as IsSoundCore}
use Rattle.macs_headline.proofs.Lists.{contains-cases, contains-first, contains-later, contains-none}
use Rattle.macs_theorem.specs.Events.{Answer, Answers, Calls, Closes, Ends, EndsIn, Event, Formats as Formatting}
use Rattle.macs_theorem.specs.Events.{Happen, Happens, Holds, HoldsDisk, HoldsEndpoint, IsAnswered, Opens, Shows}
use Rattle.macs_theorem.specs.Events.{disk_held}
use Rattle.macs_theorem.specs.Shown.{Shown, shown_by}
use Rattle.macs_theorem.specs.Observer.{Expects, ExpectsAll, ExpectsFormat, ExpectsReply, IsFound, IsKnown, Observer}
use Rattle.macs_theorem.specs.Observer.{begin, new_observer, unrested}
use Rattle.macs_theorem.specs.Older.{OlderIsExpected, observer_after}
use Rattle.macs_theorem.specs.Page.{AllIsExpected}
use Rattle.macs_theorem.proofs.EachCall.{IsAllowed, calls-are-expected}
use Rattle.macs_theorem.proofs.Matches.{AreSpent, Follows, Matches, MatchesPast, follows-rested, is_spent_in}
use Rattle.macs_theorem.proofs.Matches.{past-unrested}
use Rattle.macs_theorem.proofs.Openings.{cuts-may-begin, formats-are-expected, found-is-expected, refused-is-expected}
use Rattle.macs_theorem.proofs.Openings.{IsAtNext, IsPastAtNext, shown-is-known, taking-none, tried-is-expected}
use Rattle.macs_theorem.proofs.Rests.{at-next, rested-runs, rests-alone}

module _ {D : Type 0} (disk_of : D → Disk) (sound : (it : D) → IsHonest (disk_of it) → IsSound (now (disk_of it))) where
  -- the disk has a history, of which an observer knows this
  record IsLeft (disk : D) (o : Observer) : Type 0 where
    sectors : ℕ
    lives : List Life
    past : Past
    history : IsHistory sectors lives past
    covered : IsCovered sectors past (disk_of disk)
    matches : MatchesPast past o
    next : o.rested ≡ true → (image : Image) → MayLeave (disk_of disk) image → IsPastAtNext sectors past image

  -- an endpoint is at a moment of one
  record IsRunning (e : EndpointValue D) (o : Observer) : Type 0 where
    sectors : ℕ
    lives : List Life
    past : Past
    history : IsHistory sectors lives past
    disk : D
    covered : IsCovered sectors past (disk_of disk)
    first : EndpointValue D
    turns : List (Transition D)
    lived : LivesFrom disk_of disk first turns e
    logs : Logs
    life : IsLifeSoFar sectors past this_edition (now (disk_of disk)).seen (map exchange_of turns) (state_of e logs)
    follows : Follows (logs_of past).given (state_of e logs) o
    level : o.rested ≡ true → IsLevel e × (is_stopped e ≡ false)

  abbrev IsHeld : Holds D → Observer → Type 0
  IsHeld (HoldsDisk disk) o = IsLeft disk o
  IsHeld (HoldsEndpoint e) o = IsRunning e o

  -- an event is expected, and leads on
  abbrev GoesOn : Observer → Event Shown → Holds D → Type 0
  GoesOn o event new = (later : Observer) × Expects o event later × IsHeld new later

  -- where the last call was no rest
  awake : (o : Observer) → o.rested ≡ false → o.rested ≡ true → ⊥
  awake o is rested = let no : true ≡ false = sym rested ∙ is in cc

  -- ---- a disk

  formats_awake : (o : Observer) (identity : Identity) (result : Result (Unit {0}) JournalFault) (later : Observer)
      → ExpectsFormat o identity result later → o.rested ≡ false → later.rested ≡ false
  formats_awake o identity (Ok done) later is quiet = ap (λ (o : Observer). o.rested) is.1 ∙ quiet
  formats_awake o identity (Err fault) later is quiet = ap (λ (o : Observer). o.rested) is ∙ quiet

  found_by : (o : Observer) (formatted : Option Identity) (later : Observer) → IsFound o formatted later
      → later.rested ≡ false
  found_by o (Some identity) later is = elim is [
    | inl resumed ↦ ap (λ (o : Observer). o.rested) resumed.3
    | inr after ↦ ap (λ (o : Observer). o.rested) after.3.3
  ]
  found_by o None later is = ap (λ (o : Observer). o.rested) is.2

  found_awake : (o later : Observer) → IsFound o o.formatted later → later.rested ≡ false
  found_awake o later is = found_by o o.formatted later is

  after_awake : (past : Past) → (observer_after past).rested ≡ false
  after_awake (Blank identities) = refl
  after_awake (Formatted s) = refl

  -- the medium is passed on
  passed : (old new : D) (o : Observer) → IsLeft old o → IsPassedOn (disk_of old) (disk_of old).clock (disk_of new)
      → IsLeft new o
  passed old new o h is = record {
    sectors = h.sectors;
    lives = h.lives;
    past = h.past;
    history = h.history;
    covered = record {
      honest = is.honest ∙ h.covered.honest;
      size = is.sectors ∙ h.covered.size;
      images = λ image left. h.covered.images image (left-now (disk_of old) (disk_of new) is image left);
    };
    matches = h.matches;
    next = λ rested image left. h.next rested image (left-now (disk_of old) (disk_of new) is image left);
  }

  by_format : (old : D) (o : Observer) (identity : Identity) (result : Result (Unit {0}) JournalFault) (new : D)
      → IsLeft old o → IsAnswered disk_of shown_by (HoldsDisk old) (Formatting identity result) (HoldsDisk new)
      → GoesOn o (Answers (Formatting identity result)) (HoldsDisk new)
  by_format old o identity result new h is =
      let to = format-answered disk_of sound h.sectors old new identity h.past result h.covered is in
      let mid = to.lead.0 in
      let right =
      formats-are-expected h.past identity result mid (unrested o) to.lead.1 (past-unrested h.past o h.matches) in (
        right.0,
        right.1,
        record {
          sectors = h.sectors;
          lives = h.lives ++ Formats this_edition identity (is_ok result) ∷ [];
          past = mid;
          history =
              history-on h.sectors h.lives h.past (Formats this_edition identity (is_ok result)) mid
              h.history to.lead.1;
          covered = subst (λ (p : Past). IsCovered h.sectors p (disk_of new)) to.lead.2 to.covered;
          matches = right.2;
          next =
              λ rested. absurd (awake right.0 (formats_awake (unrested o) identity result right.0 right.1 refl) rested);
        },
      )

  by_format_cut : (old ran new : D) (o : Observer) (identity : Identity) (result : Result (Unit {0}) JournalFault)
      → IsLeft old o → IsAnswered disk_of shown_by (HoldsDisk old) (Formatting identity result) (HoldsDisk ran)
      → IsPassedOn (disk_of ran) (disk_of old).clock (disk_of new)
      → GoesOn o (EndsIn (Formatting identity result)) (HoldsDisk new)
  by_format_cut old ran new o identity result h is passed =
      let to = format-cut disk_of sound h.sectors old ran identity result is h.past new h.covered passed in
      let mid = to.lead.0 in (
        record (unrested o) { tried = identity ∷ o.tried },
        refl,
        record {
          sectors = h.sectors;
          lives = h.lives ++ Formats this_edition identity false ∷ [];
          past = mid;
          history = history-on h.sectors h.lives h.past (Formats this_edition identity false) mid h.history to.lead.1;
          covered = subst (λ (p : Past). IsCovered h.sectors p (disk_of new)) to.lead.2 to.covered;
          matches = tried-is-expected h.past identity mid (unrested o) to.lead.1 (past-unrested h.past o h.matches);
          next = λ rested. absurd (awake (unrested o) refl rested);
        },
      )

  by_refusal : (old : D) (o : Observer) (fault : JournalFault) (new : D) → IsLeft old o
      → IsOpening disk_of old (Err (record { disk = new; fault = fault }))
      → GoesOn o (Answers (Opens (Err fault))) (HoldsDisk new)
  by_refusal old o fault new h is =
      let to = opening-refused disk_of sound h.sectors h.past old h.covered new fault is in
      let mid = to.lead.0 in
      let seen = (now (disk_of old)).seen in
      let right = refused-is-expected h.sectors h.past seen fault mid o to.lead.1 h.matches in (
        unrested o,
        right.0,
        record {
          sectors = h.sectors;
          lives = h.lives ++ Refuses this_edition seen fault ∷ [];
          past = mid;
          history = history-on h.sectors h.lives h.past (Refuses this_edition seen fault) mid h.history to.lead.1;
          covered = subst (λ (p : Past). IsCovered h.sectors p (disk_of new)) to.lead.2 to.covered;
          matches = right.1;
          next = λ rested. absurd (awake (unrested o) refl rested);
        },
      )

  -- an opening that is cut short leads nowhere
  by_opening_cut : (old : D) (o : Observer) (new : D) (h : IsLeft old o) → LeadTo h.sectors h.past [] (disk_of new)
      → IsLeft new (unrested o)
  by_opening_cut old o new h to = record {
    sectors = h.sectors;
    lives = h.lives;
    past = h.past;
    history = h.history;
    covered = subst (λ (p : Past). IsCovered h.sectors p (disk_of new)) to.lead to.covered;
    matches = past-unrested h.past o h.matches;
    next = λ rested. absurd (awake (unrested o) refl rested);
  }

  by_opening : (old : D) (o : Observer) (new : EndpointValue D) → IsLeft old o → IsOpening disk_of old (Ok new)
      → GoesOn o (Answers (Opens (Ok tt))) (HoldsEndpoint new)
  by_opening old o new h is =
      let lived : LivesFrom disk_of old new [] new = (is, refl) in
      let living = alive disk_of sound h.sectors h.past old new [] new h.covered lived in
      let found = living.life.found in
      let seen = (now (disk_of old)).seen in
      let finds = found-is-expected h.sectors seen found living.life.is_found h.past o
      living.life.fits h.matches (λ rested. h.next rested seen (sound old h.covered.honest).fit) in
      let follows : Follows (logs_of h.past).given (state_of new living.logs) finds.0 =
      subst (λ (s : State). Follows (logs_of h.past).given s finds.0) (sym living.life.steps) finds.2 in (
        finds.0,
        finds.1,
        record {
          sectors = h.sectors;
          lives = h.lives;
          past = h.past;
          history = h.history;
          disk = old;
          covered = h.covered;
          first = new;
          turns = [];
          lived = lived;
          logs = living.logs;
          life = living.life;
          follows = follows;
          level = λ rested. absurd (awake finds.0 (found_awake o finds.0 finds.1) rested);
        },
      )

  -- ---- an endpoint

  map_more : (turns : List (Transition D)) (turn : Transition D)
      → map exchange_of turns ++ exchange_of turn ∷ [] ≡ map exchange_of (turns ++ turn ∷ [])
  map_more [] turn = refl
  map_more (first ∷ turns) turn = ap (λ (l : List Exchange). exchange_of first ∷ l) (map_more turns turn)

  -- where no work is under way, a step is idle only where no command waits
  by_turn : (old new : EndpointValue D) (whose : Turn) (raise : Raise) (first : Waiting)
      → BeginsWith old (Some (due_by_turn whose raise first)) (Ok Idle) new → ⊥
  by_turn old new turns.Reservation raise first begins = begins
  by_turn old new turns.Command raise first begins = begins

  busy : (old new : EndpointValue D) (raise : Option Raise) (first : Waiting)
      → BeginsWith old (due_among old.turn raise (Some first)) (Ok Idle) new → ⊥
  busy old new None first begins = begins
  busy old new (Some raise) first begins = by_turn old new old.turn raise first begins

  free : (old new : EndpointValue D) (waiting : List Waiting) → old.waiting ≡ waiting
      → AdvancesAs disk_of old (Ok Idle) new → waiting ≡ []
  free old new [] is advances = refl
  free old new (first ∷ rest) is advances =
      absurd (advances.goes_on (λ idle. busy old new (raise_in old) first
      (subst
      (λ (ws : List Waiting). BeginsWith old (due_among old.turn (raise_in old) (first_waiting ws)) (Ok Idle) new)
      is (advances.begins idle))))

  -- no command is refused for the length of its key, and a step is idle only where none waits
  allowed : (old : EndpointValue D) (call : Call) (reply : Reply) (new : EndpointValue D) (logs after : Logs)
      → IsStill old call reply new → AdvancesIn disk_of old call reply new
      → Step (state_of old logs) call reply (state_of new after) → IsAllowed (state_of old logs) call reply
  allowed old Advances (Advanced (Ok Idle)) new logs after still advances (inl h) = absurd h.1
  allowed old Advances (Advanced (Ok Idle)) new logs after still advances (inr h) =
      free old new old.waiting refl (advances h.0)
  allowed old Advances (AdvancedLong ticket) new logs after still advances step = still
  allowed old (Commands c) RefusedLong new logs after still advances step = still
  allowed old call reply new logs after still advances step = tt

  by_call : (old : EndpointValue D) (o : Observer) (call : Call) (reply : Reply) (new : EndpointValue D)
      → IsRunning old o → IsSoundEndpoint old → IsCall disk_of old call reply new
      → GoesOn o (Answers (Calls call reply)) (HoldsEndpoint new)
  by_call old o call reply new h kept is =
      let seen = (now (disk_of h.disk)).seen in
      let step = is.behaves.step h.logs in
      let moment : Moment h.sectors (state_of old h.logs) = record {
        lives = h.lives;
        past = h.past;
        history = h.history;
        edition = this_edition;
        image = seen;
        exchanges = map exchange_of h.turns;
        life = h.life;
      } in
      let expected = calls-are-expected h.sectors (logs_of h.past).given (state_of old h.logs) moment refl
      kept.identity.sci.size (unrested o)
      (follows-rested (logs_of h.past).given (state_of old h.logs) o false h.follows)
      call reply (state_of new step.0)
      (allowed old call reply new h.logs step.0 is.behaves.still is.behaves.advances step.1) step.1 in
      let turn : Transition D = record { call = call; reply = reply; after = new } in (
        expected.0,
        expected.1,
        record {
          sectors = h.sectors;
          lives = h.lives;
          past = h.past;
          history = h.history;
          disk = h.disk;
          covered = h.covered;
          first = h.first;
          turns = h.turns ++ turn ∷ [];
          lived = (calls-are-deeds disk_of).called h.disk h.first old h.turns turn h.lived kept is;
          logs = step.0;
          life = subst (λ (l : List Exchange). IsLifeSoFar h.sectors h.past this_edition seen l (state_of new step.0))
              (map_more h.turns turn)
              (life-on h.sectors h.past this_edition seen (map exchange_of h.turns) (state_of old h.logs)
              (exchange_of turn) (state_of new step.0) h.life is.behaves.in_range step.1);
          follows = expected.2;
          level = λ rested.
              let only = rests-alone o.stopped (unrested o) call reply expected.0 expected.1 refl rested in
              let ok : IsCall disk_of old Rests (Rested (Ok tt)) new =
              subst (λ (c : Call). IsCall disk_of old c (Rested (Ok tt)) new) only.0
              (subst (λ (r : Reply). IsCall disk_of old call r new) only.1 is) in
              (level-after disk_of old new ok, rested-runs disk_of old new ok);
        },
      )

  -- what is known stays so once the life has ended
  rebased : (earlier : List Delivery) (s : State) (o : Observer) → Matches earlier s o → Matches o.before s o
  rebased earlier s o m = subst (λ (before : List Delivery). Matches before s o) (sym m.before) m

  -- an endpoint gives its disk
  left_by : (e : EndpointValue D) (o : Observer) → IsRunning e o → IsLeft (device_in e) o
  left_by e o h =
      let seen = (now (disk_of h.disk)).seen in
      let living = alive disk_of sound h.sectors h.past h.disk h.first h.turns e h.covered h.lived in
      let s = state_of e h.logs in
      let life = Serves this_edition seen (map exchange_of h.turns) None in
      record {
        sectors = h.sectors;
        lives = h.lives ++ life ∷ [];
        past = Formatted s;
        history = history-on h.sectors h.lives h.past life (Formatted s) h.history (s, h.life, tt, refl);
        covered = record {
          honest = living.honest;
          size = living.size;
          images = λ image left. subst (λ (n : ℕ). Fits this_edition n image s) living.size
              (living.backed.fits h.logs image left);
        };
        matches = rebased (logs_of h.past).given s o h.follows.matches;
        next = λ rested image left.
            let level = h.level rested in
            subst (λ (n : ℕ). IsAtNext n s image) living.size
            (at-next e h.logs (disk_in disk_of e).sectors image
            (level-opens disk_of e h.logs image level.0 level.1 living.backed left));
      }

  -- no answer is of another call
  no_answer : (old : EndpointValue D) (call : Call) (reply : Reply) (new : EndpointValue D) (logs after : Logs)
      → (IsStopped call reply → ⊥) → (RunningStep (state_of old logs) call reply (state_of new after) → ⊥)
      → Step (state_of old logs) call reply (state_of new after) → ⊥
  no_answer old call reply new logs after stopped running (inl h) = stopped h.1
  no_answer old call reply new logs after stopped running (inr h) = running h.1

  -- what is known after an idle step
  idle : (stopped : Bool) (o new : Observer) → ExpectsReply stopped o Advances (Advanced (Ok Idle)) new
      → (o.waiting ≡ []) × (new ≡ o)
  idle true o new is = absurd is.0
  idle false o new is = is.1

  -- a call is cut short
  module _ (old : EndpointValue D) (o : Observer) (ran : EndpointValue D) (new : D) (h : IsRunning old o)
      (kept : IsSoundEndpoint old) where
    abbrev other : Observer
    other = unrested o

    follows_on : Follows (logs_of h.past).given (state_of old h.logs) other
    follows_on = follows-rested (logs_of h.past).given (state_of old h.logs) o false h.follows

    -- one that makes calls of the disk, or might
    left : (call : Call) (reply : Reply) (later : Observer) → later.rested ≡ false
        → Matches (logs_of h.past).given (state_during (state_of old h.logs) call) later
        → IsCall disk_of old call reply ran
        → IsPassedOn (disk_in disk_of ran) (disk_in disk_of old).clock (disk_of new) → IsLeft new later
    left call reply later quiet matches is passes =
        let seen = (now (disk_of h.disk)).seen in
        let living = alive disk_of sound h.sectors h.past h.disk h.first h.turns old h.covered h.lived in
        let last = state_of old h.logs in
        let s = state_during last call in
        let life = Serves this_edition seen (map exchange_of h.turns) (Some call) in
        record {
          sectors = h.sectors;
          lives = h.lives ++ life ∷ [];
          past = Formatted s;
          history = history-on h.sectors h.lives h.past life (Formatted s) h.history
              (last, h.life, is.behaves.in_range, refl);
          covered = covered-passed h.sectors (Formatted s) (disk_in disk_of ran) (disk_of new)
              (disk_in disk_of old).clock passes (is.device.works.honest ∙ living.honest)
              (is.device.works.sectors ∙ living.size)
              (λ image left. subst (λ (n : ℕ). Fits this_edition n image s) living.size
              (cut-call disk_of old ran h.logs reply kept living.honest living.backed call is image left));
          matches = rebased (logs_of h.past).given s later matches;
          next = λ rested. absurd (awake later quiet rested);
        }

    by_work : (call : Call) (reply : Reply) → IsCall disk_of old call reply ran
        → IsPassedOn (disk_in disk_of ran) (disk_in disk_of old).clock (disk_of new) → IsLeft new (begin call other)
    by_work call reply is passes = left call reply (begin call other) refl
        (cuts-may-begin (logs_of h.past).given (state_of old h.logs) other follows_on call) is passes

    -- one that leaves the store, and with it the disk, as it was, which is as good as answered
    by_still : (call : Call) (reply : Reply) → IsCall disk_of old call reply ran → ran.store ≡ old.store
        → IsPassedOn (disk_in disk_of ran) (disk_in disk_of old).clock (disk_of new)
        → (later : Observer) × Expects o (Answers (Calls call reply)) later × IsLeft new later
    by_still call reply is still passes =
        let on = by_call old o call reply ran h kept is in
        let clock : (disk_in disk_of old).clock ≡ (disk_in disk_of ran).clock =
        ap (λ (s : StoreValue D). (store.disk_in disk_of s).clock) (sym still) in
        let same = subst (λ (k : ℕ). IsPassedOn (disk_in disk_of ran) k (disk_of new)) clock passes in
        (on.0, on.1, passed (device_in ran) new on.0 (left_by ran on.0 on.2) same)

    by_idle : IsCall disk_of old Advances (Advanced (Ok Idle)) ran
        → IsPassedOn (disk_in disk_of ran) (disk_in disk_of old).clock (disk_of new)
        → (later : Observer) × Expects o (Answers (Calls Advances (Advanced (Ok Idle)))) later × IsLeft new later
    by_idle is passes =
        let on = by_call old o Advances (Advanced (Ok Idle)) ran h kept is in
        let known = idle o.stopped other on.0 on.1 in
        let matches = follows_on.matches in (
          on.0,
          on.1,
          subst (λ (o : Observer). IsLeft new o) (sym known.1) (left Advances (Advanced (Ok Idle)) other refl
              (taking-none (logs_of h.past).given (state_of old h.logs) other matches old.under_way old.waiting
              (sym matches.waiting ∙ known.0)) is passes),
        )

    by_cut_call : (call : Call) (reply : Reply) → IsCall disk_of old call reply ran
        → IsPassedOn (disk_in disk_of ran) (disk_in disk_of old).clock (disk_of new)
        → GoesOn o (EndsIn (Calls call reply)) (HoldsDisk new)
    by_cut_call (Commands c) (Ran (Ok done)) is passes =
        (begin (Commands c) other, refl, by_work (Commands c) (Ran (Ok done)) is passes)
    by_cut_call (Commands c) (Ran (Err command.Disk)) is passes =
        (begin (Commands c) other, refl, by_work (Commands c) (Ran (Err command.Disk)) is passes)
    by_cut_call (Commands c) (Ran (Err command.GenerationsSpent)) is passes =
        (begin (Commands c) other, refl, by_work (Commands c) (Ran (Err command.GenerationsSpent)) is passes)
    by_cut_call (Commands c) (Ran (Err (command.Refused refusal))) is passes =
        by_still (Commands c) (Ran (Err (command.Refused refusal))) is is.behaves.still passes
    by_cut_call (Commands c) (Ran (Err command.Busy)) is passes =
        by_still (Commands c) (Ran (Err command.Busy)) is is.behaves.still passes
    by_cut_call (Commands c) (Ran (Err command.Stopped)) is passes =
        by_still (Commands c) (Ran (Err command.Stopped)) is is.behaves.still passes
    by_cut_call (Commands c) RefusedLong is passes = absurd is.behaves.still
    by_cut_call Refills (Refilled result) is passes =
        (other, refl, left Refills (Refilled result) other refl follows_on.matches is passes)
    by_cut_call Rests (Rested result) is passes =
        (other, refl, left Rests (Rested result) other refl follows_on.matches is passes)
    by_cut_call (Submits c) (Submitted result) is passes =
        by_still (Submits c) (Submitted result) is is.behaves.still passes
    by_cut_call Advances (Advanced (Ok Idle)) is passes = by_idle is passes
    by_cut_call Advances (Advanced (Ok Worked)) is passes =
        (begin Advances other, refl, by_work Advances (Advanced (Ok Worked)) is passes)
    by_cut_call Advances (Advanced (Ok Reserved)) is passes =
        (begin Advances other, refl, by_work Advances (Advanced (Ok Reserved)) is passes)
    by_cut_call Advances (Advanced (Ok (Done ticket (Ok done)))) is passes =
        (begin Advances other, refl, by_work Advances (Advanced (Ok (Done ticket (Ok done)))) is passes)
    by_cut_call Advances (Advanced (Ok (Done ticket (Err fault)))) is passes =
        by_still Advances (Advanced (Ok (Done ticket (Err fault)))) is is.behaves.still passes
    by_cut_call Advances (Advanced (Err advance.Disk)) is passes =
        (begin Advances other, refl, by_work Advances (Advanced (Err advance.Disk)) is passes)
    by_cut_call Advances (Advanced (Err advance.GenerationsSpent)) is passes =
        by_still Advances (Advanced (Err advance.GenerationsSpent)) is is.behaves.still passes
    by_cut_call Advances (Advanced (Err advance.Stopped)) is passes =
        by_still Advances (Advanced (Err advance.Stopped)) is is.behaves.still passes
    by_cut_call Advances (AdvancedLong ticket) is passes = absurd is.behaves.still
    by_cut_call (Protects plain) (Protected result out) is passes =
        by_still (Protects plain) (Protected result out) is is.behaves.still passes
    by_cut_call (Receives frame) (Received result out) is passes =
        by_still (Receives frame) (Received result out) is is.behaves.still passes
    by_cut_call call reply is passes =
        let step = is.behaves.step h.logs in
        absurd (no_answer old call reply ran h.logs step.0 (λ stopped. stopped) (λ running. running) step.1)

  -- ---- events

  -- an endpoint shows what is known
  by_showing : (old : EndpointValue D) (o : Observer) (shown : Shown) (new : EndpointValue D) → IsRunning old o
      → shown ≡ shown_by old → new ≡ old → GoesOn o (Answers (Shows shown)) (HoldsEndpoint new)
  by_showing old o shown new h is same = (
    o,
    (
      subst (IsKnown o) (sym is)
          (shown-is-known (logs_of h.past).given (state_of old h.logs) o h.follows.matches),
      refl,
    ),
    subst (λ (e : EndpointValue D). IsRunning e o) (sym same) h,
  )

  by_answer : (old : Holds D) (o : Observer) (answer : Answer Shown) (new : Holds D) → IsHeld old o
      → IsAnswered disk_of shown_by old answer new → GoesOn o (Answers answer) new
  by_answer (HoldsDisk old) o (Formatting identity result) (HoldsDisk new) h is =
      by_format old o identity result new h is
  by_answer (HoldsDisk old) o (Opens (Ok done)) (HoldsEndpoint new) h is = by_opening old o new h is
  by_answer (HoldsDisk old) o (Opens (Err fault)) (HoldsDisk new) h is = by_refusal old o fault new h is
  by_answer (HoldsEndpoint old) o (Calls call reply) (HoldsEndpoint new) h is =
      by_call old o call reply new h is.0 is.1
  by_answer (HoldsEndpoint old) o (Shows shown) (HoldsEndpoint new) h is = by_showing old o shown new h is.0 is.1
  by_answer (HoldsEndpoint old) o Closes (HoldsDisk new) h is =
      (o, refl, subst (λ (d : D). IsLeft d o) (sym is) (left_by old o h))
  by_answer old o answer new h is = absurd is

  by_end_in : (old : Holds D) (o : Observer) (answer : Answer Shown) (ran : Holds D) (new : D) → IsHeld old o
      → IsAnswered disk_of shown_by old answer ran
      → IsPassedOn (disk_held disk_of ran) (disk_held disk_of old).clock (disk_of new)
      → GoesOn o (EndsIn answer) (HoldsDisk new)
  by_end_in (HoldsDisk old) o (Formatting identity result) (HoldsDisk ran) new h is passes =
      by_format_cut old ran new o identity result h is passes
  by_end_in (HoldsDisk old) o (Opens (Ok done)) (HoldsEndpoint ran) new h is passes =
      let to = opening-cut disk_of sound h.sectors h.past old h.covered (Ok ran) new is passes in
      (unrested o, refl, by_opening_cut old o new h to)
  by_end_in (HoldsDisk old) o (Opens (Err fault)) (HoldsDisk ran) new h is passes =
      let to = opening-cut disk_of sound h.sectors h.past old h.covered (Err (record { disk = ran; fault = fault })) new
      is passes in
      (unrested o, refl, by_opening_cut old o new h to)
  by_end_in (HoldsEndpoint old) o (Calls call reply) (HoldsEndpoint ran) new h is passes =
      by_cut_call old o ran new h is.0 call reply is.1 passes
  by_end_in (HoldsEndpoint old) o (Shows shown) (HoldsEndpoint ran) new h is passes =
      let same =
      subst (λ (e : EndpointValue D). IsPassedOn (disk_in disk_of e) (disk_in disk_of old).clock (disk_of new))
      is.1 passes in
      (o, refl, passed (device_in old) new o (left_by old o h) same)
  by_end_in (HoldsEndpoint old) o Closes (HoldsDisk ran) new h is passes =
      let same = subst (λ (d : D). IsPassedOn (disk_of d) (disk_in disk_of old).clock (disk_of new)) is passes in
      (o, refl, passed (device_in old) new o (left_by old o h) same)
  by_end_in old o answer ran new h is passes = absurd is

  by_event : (old : Holds D) (o : Observer) (event : Event Shown) (new : Holds D) → IsHeld old o
      → Happens disk_of shown_by old event new
      → GoesOn o event new
  by_event old o (Answers answer) new h is = by_answer old o answer new h is
  by_event old o (EndsIn answer) (HoldsDisk new) h (ran, is, passes) = by_end_in old o answer ran new h is passes
  by_event old o (EndsIn answer) (HoldsEndpoint new) h is = absurd is
  by_event (HoldsDisk old) o Ends (HoldsDisk new) h is = (o, refl, passed old new o h is)
  by_event (HoldsEndpoint old) o Ends (HoldsDisk new) h is =
      (o, refl, passed (device_in old) new o (left_by old o h) is)
  by_event old o Ends (HoldsEndpoint new) h is = absurd is

  by_events : (events : List (Event Shown)) (old : Holds D) (o : Observer) (end : Holds D) → IsHeld old o
      → Happen disk_of shown_by old events end → ExpectsAll o events
  by_events [] old o end h is = tt
  by_events (event ∷ events) old o end h (mid, is, rest) =
      let on = by_event old o event mid h is in
      (on.0, on.1, by_events events mid on.0 end on.2 rest)

  -- ---- where all begins

  -- the keys of frames are spent
  mapped : {X Y : Type 0} (f : X → Y) (xs : List X) (y : Y) → Contains (map f xs) y
      → (x : X) × Contains xs x × (y ≡ f x)
  mapped f [] y has = absurd (contains-none y has)
  mapped f (x ∷ xs) y has = elim (contains-cases (f x) (map f xs) y has) [
    | inl same ↦ (x, contains-first x xs, same)
    | inr later ↦ let found = mapped f xs y later in (found.0, contains-later x xs found.0 found.1, found.2)
  ]

  frames_spent : (s : State) → IsSoundCore (core s) → AreSpent s.config (observer_after (Formatted s)).installed
  frames_spent s sound it has =
      let key_sent : Use → Option (List ℕ) × List ℕ = λ u. (None, u.key) in
      let key_given : Delivery → Option (List ℕ) × List ℕ = λ d. (Some d.sci, d.key) in
      elim (Contains-append_cases (map key_sent s.logs.used) (map key_given s.logs.given) it has) [
        | inl sent ↦
            let of = mapped key_sent s.logs.used it sent in
            subst (λ (it : Option (List ℕ) × List ℕ). is_spent_in s.config it ≡ true) (sym of.2)
            (sound.tx.ledger.logged of.0.key of.0.pn of.1)
        | inr given ↦
            let of = mapped key_given s.logs.given it given in
            subst (λ (it : Option (List ℕ) × List ℕ). is_spent_in s.config it ≡ true) (sym of.2)
            (sound.rx.logged (of.0.sci, of.0.key) of.0.pn (of.0.kind, of.1))
      ]

  -- what an observer knows after a history
  known : (past : Past) → IsSoundPast past → MatchesPast past (observer_after past)
  known (Blank identities) sound = refl
  known (Formatted s) sound = record {
    formatted = refl;
    settings = refl;
    installed = frames_spent s sound;
    next = refl;
    numbers = refl;
    waiting = refl;
    tickets = refl;
    stopped = refl;
    sent = refl;
    delivered = refl;
    before = refl;
    hand = λ c is. is;
  }

  begun : (disk : D) (lives : List Life) (past : Past) → IsHonest (disk_of disk)
      → IsHistory (disk_of disk).sectors lives past
      → ((image : Image) → MayLeave (disk_of disk) image → FitsPast this_edition (disk_of disk).sectors past image)
      → IsLeft disk (observer_after past)
  begun disk lives past honest history images = record {
    sectors = (disk_of disk).sectors;
    lives = lives;
    past = past;
    history = history;
    covered = record { honest = honest; size = refl; images = images };
    matches = known past (sound-history (disk_of disk).sectors lives past history);
    next = λ rested. absurd (awake (observer_after past) (after_awake past) rested);
  }

  pub all-is-expected : AllIsExpected disk_of
  all-is-expected disk events end new happen = by_events events (HoldsDisk disk) new_observer end
      (begun disk [] (Blank []) new.honest refl (λ image left. inl (new.large, new.closed image left))) happen

  pub older-is-expected : OlderIsExpected disk_of
  older-is-expected edition up disk lives h events end happen =
      by_events events (HoldsDisk disk) (observer_after h.past) end
      (begun disk lives h.past h.honest h.history (λ image left.
      larger_past edition this_edition up (disk_of disk).sectors h.past image (h.images image left))) happen
