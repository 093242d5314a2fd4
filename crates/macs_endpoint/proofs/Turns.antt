-- Events served: one turn after others.
use Rattle.std.proofs.Common.{◌≡◌, ◌≤◌, ◌<◌, ◌+◌, ◌&&◌, inl, inr, ℕ, Bool, true, false, if◌then◌else◌, not, List, []}
use Rattle.std.proofs.Common.{◌∷◌, ◌++◌, length, map, Option, Some, None, is_ok, refl, sym, ◌∙◌, ap, subst, arith}
use Rattle.std.proofs.Common.{append_assoc, append-nil}
use Rattle.std.proofs.lemmas.Bool.{cases_lt}
use Rattle.std.proofs.lemmas.List.{map-append, length_push}
use Rattle.macs_config.specs.Apply.{apply}
use Rattle.macs_config.specs.Config.{Edition, this_edition}
use Rattle.macs_config.specs.declared.command.Command.{Command}
use Rattle.macs_disk.specs.Disk.{Disk, IsHonest, LeftSince}
use Rattle.macs_disk.specs.States.{Image, IsImage}
use Rattle.macs_disk.proofs.Moments.{Left-before}
use Rattle.macs_endpoint.specs.Calls.{IsCall}
use Rattle.macs_endpoint.specs.Value.{EndpointValue, IsBacked, IsSoundEndpoint, disk_in, is_stopped, state_of}
use Rattle.macs_endpoint.specs.Lives.{FitsLife, LeavesLife, Lives, Transition, exchange_of}
use Rattle.macs_endpoint.specs.Restart.{Fits, FitsCall, state_during, state_taking_alone}
use Rattle.macs_endpoint.specs.Serving.{EndsAs, IsServed, Takes, Told, call_of, is_halt, reply_of}
use Rattle.macs_endpoint.specs.State.{Advances, Call, Commands, Logs, Protects, Receives, Refills, Reply, State}
use Rattle.macs_endpoint.specs.State.{Submits, state_with_under_way, no_logs}
use Rattle.macs_endpoint.specs.State.{Rests}
use Rattle.macs_endpoint.specs.Step.{Steps, Step}
use Rattle.macs_endpoint.specs.declared.event.Answer.{Answer}
use Rattle.macs_endpoint.specs.declared.event.Event.{Event}
use Rattle.macs_endpoint.specs.declared.event.ServeEnd.{ServeEnd}
use Rattle.macs_endpoint.specs.declared.event.ServeEnd.TheVariants.{Ended, Halted, TurnsSpent}
use Rattle.macs_endpoint.specs.declared.queue.Waiting.{Waiting}
use Rattle.macs_endpoint.proofs.Fitting.{fits-advancing, fits-holding}
use Rattle.macs_endpoint.proofs.Work.{free-under_way}

-- ---- how answers end

-- no device call failed
abbrev pub AllGo : List Reply → Type 0
AllGo [] = Unit {0}
AllGo (reply ∷ replies) = (is_halt reply ≡ false) × AllGo replies

pub ends-ended : (replies : List Reply) → AllGo replies → EndsAs replies Ended
ends-ended [] go = tt
ends-ended (reply ∷ []) go = (go.0, tt)
ends-ended (reply ∷ other ∷ others) go = (go.0, ends-ended (other ∷ others) go.1)

pub ends-spent : (replies : List Reply) → AllGo replies → EndsAs replies TurnsSpent
ends-spent [] go = tt
ends-spent (reply ∷ []) go = (go.0, tt)
ends-spent (reply ∷ other ∷ others) go = (go.0, ends-spent (other ∷ others) go.1)

ends_last : (replies : List Reply) (reply : Reply) → AllGo replies → is_halt reply ≡ true
    → EndsAs (replies ++ reply ∷ []) Halted
ends_last [] reply go halt = halt
ends_last (first ∷ []) reply go halt = (go.0, halt)
ends_last (first ∷ other ∷ others) reply go halt = (go.0, ends_last (other ∷ others) reply go.1 halt)

-- ---- an image that was left before

held_or_not : (P : State → Type 0) (stopped accepts : Bool) (x y : State) → (stopped ≡ false → P x) → P y
    → P (if not stopped && accepts then x else y)
held_or_not P true accepts x y this other = other
held_or_not P false true x y this other = this refl
held_or_not P false false x y this other = other

module _ (edition : Edition) (sectors : ℕ) (image : Image) (s : State) (fits : Fits edition sectors image s) where
  -- no command was under way before one that does not wait
  fits_alone : (command : Command) (waiting : List Waiting) → (waiting ≡ [] → s.stopped ≡ false → s.under_way ≡ None)
      → Fits edition sectors image (state_taking_alone s command waiting)
  fits_alone command [] free =
      held_or_not (Fits edition sectors image) s.stopped (is_ok (apply s.edition s.identity s.config command))
      (state_with_under_way s command) s
      (λ running. fits-holding sectors image fits.is_found.0 edition s command (free refl running) fits) fits
  fits_alone command (first ∷ rest) free = fits

  -- what fits a state fits it while a call is under way
  fits_during : (call : Call) → (s.waiting ≡ [] → s.stopped ≡ false → s.under_way ≡ None)
      → Fits edition sectors image (state_during s call)
  fits_during (Commands command) free = fits_alone command s.waiting free
  fits_during Refills free = fits
  fits_during Rests free = fits
  fits_during (Submits command) free = fits
  fits_during Advances free = fits-advancing sectors image fits.is_found.0 edition s fits
  fits_during (Protects plain) free = fits
  fits_during (Receives frame) free = fits

-- while it runs a command under way is one that waits
abbrev pub IsFree : {D : Type 0} → EndpointValue D → Type 0
IsFree e = e.waiting ≡ [] → is_stopped e ≡ false → e.under_way ≡ None

module _ {D : Type 0} (disk_of : D → Disk) (turn : Transition D) where
  -- ---- calls and their steps

  lives_more : (turns : List (Transition D)) (old mid : EndpointValue D) → Lives disk_of old turns mid
      → IsSoundEndpoint mid
      → IsCall disk_of mid turn.call turn.reply turn.after
      → Lives disk_of old (turns ++ turn ∷ []) turn.after
  lives_more [] old mid lives kept call = (
    subst (λ (e : EndpointValue D). IsSoundEndpoint e) lives kept,
    subst (λ (e : EndpointValue D). IsCall disk_of e turn.call turn.reply turn.after) lives call,
    refl,
  )
  lives_more (first ∷ turns) old mid lives kept call =
      (lives.0, lives.1, lives_more turns first.after mid lives.2 kept call)

  run_more : (turns : List (Transition D)) (s mid new : State) → Steps s (map exchange_of turns) mid
      → Step mid turn.call turn.reply new
      → Steps s (map exchange_of (turns ++ turn ∷ [])) new
  run_more [] s mid new run step = (new, subst (λ (x : State). Step x turn.call turn.reply new) run step, refl)
  run_more (first ∷ turns) s mid new run step = (run.0, run.1, run_more turns run.0 mid new run.2 step)

  go_more : (turns : List (Transition D)) → AllGo (map (λ (t : Transition D). t.reply) turns)
      → is_halt turn.reply ≡ false
      → AllGo (map (λ (t : Transition D). t.reply) (turns ++ turn ∷ []))
  go_more [] go goes = (goes, tt)
  go_more (first ∷ turns) go goes = (go.0, go_more turns go.1 goes)

  -- ---- what a power loss leaves

  -- it fits the state of a moment before, or that of the last call
  fits_wider : (sectors : ℕ) (image : Image) (turns : List (Transition D)) (old mid : EndpointValue D)
      → Lives disk_of old turns mid → IsFree mid
      → FitsLife sectors old turns image → FitsLife sectors old (turns ++ turn ∷ []) image
  fits_wider sectors image [] old mid lives free fits =
      inl (fits_during this_edition sectors image (state_of old no_logs) fits turn.call
      (subst (λ (e : EndpointValue D). IsFree e) lives free))
  fits_wider sectors image (first ∷ turns) old mid lives free fits = elim fits [
    | inl here ↦ inl here
    | inr later ↦ inr (fits_wider sectors image turns first.after mid lives.2 free later)
  ]

  fits_last : (sectors : ℕ) (image : Image) (turns : List (Transition D)) (old mid : EndpointValue D)
      → Lives disk_of old turns mid
      → FitsCall sectors (state_of mid no_logs) turn.call (state_of turn.after no_logs) image
      → FitsLife sectors old (turns ++ turn ∷ []) image
  fits_last sectors image [] old mid lives fits =
      subst (λ (e : EndpointValue D).
      FitsCall sectors (state_of e no_logs) turn.call (state_of turn.after no_logs) image) lives fits
  fits_last sectors image (first ∷ turns) old mid lives fits =
      inr (fits_last sectors image turns first.after mid lives.2 fits)

  module _ (mid : EndpointValue D) (call : IsCall disk_of mid turn.call turn.reply turn.after) (free : IsFree mid)
      (honest : IsHonest (disk_in disk_of turn.after)) (backed : IsBacked disk_of mid) where
    -- since any moment before
    left_more : (since : ℕ) (turns : List (Transition D)) (old : EndpointValue D) → Lives disk_of old turns mid
        → ((image : Image) → LeftSince (disk_in disk_of mid) since image
        → FitsLife (disk_in disk_of mid).sectors old turns image)
        → (image : Image) → LeftSince (disk_in disk_of turn.after) since image
        → FitsLife (disk_in disk_of turn.after).sectors old (turns ++ turn ∷ []) image
    left_more since turns old lives before image left =
        let early = disk_in disk_of mid in
        let late = disk_in disk_of turn.after in
        let widened : FitsLife early.sectors old (turns ++ turn ∷ []) image = elim (cases_lt early.clock left.0) [
          | inl after ↦ fits_last early.sectors image turns old mid lives
              (((call.survives honest backed).any_moment no_logs no_logs).each image
              (left.0, omega (arith, after), left.2, left.3))
          | inr earlier ↦ fits_wider early.sectors image turns old mid lives free
              (before image (Left-before early late since image call.device.works left earlier))
        ] in
        subst (λ (sectors : ℕ). FitsLife sectors old (turns ++ turn ∷ []) image) (sym call.device.works.sectors) widened

    -- after the last call
    left_last : (image : Image) → LeftSince (disk_in disk_of turn.after) (disk_in disk_of turn.after).clock image
        → FitsLife (disk_in disk_of turn.after).sectors turn.after [] image
    left_last image left =
        let disk = disk_in disk_of turn.after in
        let at_now : left.0 ≡ disk.clock = omega (arith, left.1, left.2) in
        (call.survives honest backed).backed.fits no_logs image
        (subst (λ (k : ℕ). IsImage (disk.past k) image) at_now left.3)

    leaves_more : (turns : List (Transition D)) (old : EndpointValue D) → Lives disk_of old turns mid
        → LeavesLife disk_of (disk_in disk_of mid) old turns
        → LeavesLife disk_of (disk_in disk_of turn.after) old (turns ++ turn ∷ [])
    leaves_more [] old lives leaves = (left_more (disk_in disk_of old).clock [] old lives leaves, left_last)
    leaves_more (first ∷ turns) old lives leaves = (
      left_more (disk_in disk_of old).clock (first ∷ turns) old lives leaves.0,
      leaves_more turns first.after lives.2 leaves.1,
    )

-- ---- turns

-- What so many turns did, between what a source and a sink reported before and after
pub record AreTurns {D : Type 0} (disk_of : D → Disk) (turns : List (Transition D)) (old : EndpointValue D)
    (told : Told) (new : EndpointValue D) (tells : Told) : Type 0 where
  pub lives : Lives disk_of old turns new
  pub run : (logs : Logs) → (after : Logs) × Steps (state_of old logs) (map exchange_of turns) (state_of new after)
  pub honest : (disk_in disk_of new).honest ≡ (disk_in disk_of old).honest
  pub any_moment : IsHonest (disk_in disk_of new) → IsBacked disk_of old
      → LeavesLife disk_of (disk_in disk_of new) old turns
  pub backed : IsHonest (disk_in disk_of new) → IsBacked disk_of old → IsBacked disk_of new
  pub source : tells.source_tells ≡ told.source_tells
  pub sink : tells.sink_tells ≡ told.sink_tells
  pub taken : told.source_tells ≡ true → (events : List Event)
      × (told.left ≡ events ++ tells.left) × (map call_of events ≡ map (λ turn. turn.call) turns)
  pub given : told.sink_tells ≡ true → (answers : List Answer)
      × (tells.took ≡ told.took ++ answers) × (map reply_of answers ≡ map (λ turn. turn.reply) turns)

-- what a source and a sink report, once a source gave an event and a sink took its answer
abbrev pub HasTaken : Told → Option Event → Told → Type 0
HasTaken told event tells = (told.source_tells ≡ true → Takes told.left event tells.left)
    × (tells.source_tells ≡ told.source_tells)

abbrev pub HasGiven : Told → Answer → Told → Type 0
HasGiven told answer tells =
    (told.sink_tells ≡ true → tells.took ≡ told.took ++ answer ∷ []) × (tells.sink_tells ≡ told.sink_tells)

module _ {D : Type 0} (disk_of : D → Disk) (old : EndpointValue D) (told : Told) where
  -- before the first turn
  pub no-turns : AreTurns disk_of [] old told old told
  no-turns = record {
    lives = refl;
    run = λ logs. (logs, refl);
    honest = refl;
    any_moment = λ honest backed image left.
        let disk = disk_in disk_of old in
        let at_now : left.0 ≡ disk.clock = omega (arith, left.1, left.2) in
        backed.fits no_logs image (subst (λ (k : ℕ). IsImage (disk.past k) image) at_now left.3);
    backed = λ honest backed. backed;
    source = refl;
    sink = refl;
    taken = λ tells. ([], refl, refl);
    given = λ tells. ([], sym (append-nil told.took), refl);
  }

  module _ (turns : List (Transition D)) (mid : EndpointValue D) (tells : Told)
      (are : AreTurns disk_of turns old told mid tells) where
    -- where the source has no further event
    pub turns-ended : (later : Told) → HasTaken tells None later → later.sink_tells ≡ tells.sink_tells
        → later.took ≡ tells.took
        → AreTurns disk_of turns old told mid later × (told.source_tells ≡ true → later.left ≡ [])
    turns-ended later taken sink took = (
      record {
        lives = are.lives;
        run = are.run;
        honest = are.honest;
        any_moment = are.any_moment;
        backed = are.backed;
        source = taken.1 ∙ are.source;
        sink = sink ∙ are.sink;
        taken = λ is.
            let before = are.taken is in
            let rest = taken.0 (are.source ∙ is) in
            (before.0, before.1 ∙ ap (λ (l : List Event). before.0 ++ l) (rest.0 ∙ sym rest.1), before.2);
        given = λ is. let before = are.given is in (before.0, took ∙ before.1, before.2);
      },
      λ is. (taken.0 (are.source ∙ is)).1,
    )

    -- and where it has one, which is answered
    pub turns-more : (event : Event) (answer : Answer) (new : EndpointValue D) (later : Told)
        → IsCall disk_of mid (call_of event) (reply_of answer) new → IsSoundEndpoint mid
        → HasTaken tells (Some event) later → HasGiven tells answer later
        → AreTurns disk_of (turns ++ record { call = call_of event; reply = reply_of answer; after = new } ∷ []) old
        told new later
    turns-more event answer new later call kept taken given =
        let turn : Transition D = record { call = call_of event; reply = reply_of answer; after = new } in
        let same : (disk_in disk_of new).honest ≡ (disk_in disk_of mid).honest = call.device.works.honest in
        record {
          lives = lives_more disk_of turn turns old mid are.lives kept call;
          run = λ logs.
              let first = are.run logs in
              let last = call.behaves.step first.0 in (
                last.0,
                run_more disk_of turn turns (state_of old logs) (state_of mid first.0) (state_of new last.0)
                    first.1 last.1,
              );
          honest = same ∙ are.honest;
          any_moment = λ honest backed.
              let before : IsHonest (disk_in disk_of mid) = sym same ∙ honest in
              leaves_more disk_of turn mid call (free-under_way mid kept) honest (are.backed before backed) turns old
              are.lives (are.any_moment before backed);
          backed = λ honest backed. (call.survives honest (are.backed (sym same ∙ honest) backed)).backed;
          source = taken.1 ∙ are.source;
          sink = given.1 ∙ are.sink;
          taken = λ is.
              let before = are.taken is in
              let rest = taken.0 (are.source ∙ is) in (
                before.0 ++ event ∷ [],
                before.1 ∙ ap (λ (l : List Event). before.0 ++ l) rest
                    ∙ sym (append_assoc before.0 (event ∷ []) later.left),
                map-append call_of before.0 (event ∷ []) ∙ ap (λ (l : List Call). l ++ call_of event ∷ []) before.2
                    ∙ sym (map-append (λ (t : Transition D). t.call) turns (turn ∷ [])),
              );
          given = λ is.
              let before = are.given is in
              let more = given.0 (are.sink ∙ is) in (
                before.0 ++ answer ∷ [],
                more ∙ ap (λ (l : List Answer). l ++ answer ∷ []) before.1
                    ∙ append_assoc told.took before.0 (answer ∷ []),
                map-append reply_of before.0 (answer ∷ []) ∙ ap (λ (l : List Reply). l ++ reply_of answer ∷ []) before.2
                    ∙ sym (map-append (λ (t : Transition D). t.reply) turns (turn ∷ [])),
              );
        }

    -- what was served
    pub turns-served : (most : ℕ) (end : ServeEnd) → length turns ≤ most
        → (end ≡ Ended → (length turns < most) × (told.source_tells ≡ true → tells.left ≡ []))
        → (end ≡ TurnsSpent → length turns ≡ most) → EndsAs (map (λ (t : Transition D). t.reply) turns) end
        → IsServed disk_of most old told end mid tells
    turns-served most end few ended spent ends = record {
      turns = turns;
      lives = are.lives;
      few = few;
      run = are.run;
      any_moment = are.any_moment;
      backed = are.backed;
      source = are.source;
      sink = are.sink;
      taken = are.taken;
      given = are.given;
      ended = ended;
      spent = spent;
      ends = ends;
    }

-- ---- a loop over turns

-- so many turns were served, and none of their answers says that a device call failed
pub record IsServing {D : Type 0} (disk_of : D → Disk) (count : ℕ) (old : EndpointValue D) (told : Told)
    (new : EndpointValue D) (tells : Told) : Type 0 where
  pub turns : List (Transition D)
  pub number : length turns ≡ count
  pub go : AllGo (map (λ (t : Transition D). t.reply) turns)
  pub are : AreTurns disk_of turns old told new tells

module _ {D : Type 0} (disk_of : D → Disk) (old : EndpointValue D) (told : Told) where
  pub serving-start : IsServing disk_of 0 old told old told
  serving-start = record { turns = []; number = refl; go = tt; are = no-turns disk_of old told }

  module _ (count : ℕ) (mid : EndpointValue D) (tells : Told)
      (serving : IsServing disk_of count old told mid tells) where
    -- as many as were asked for
    pub served-spent : IsServed disk_of count old told TurnsSpent mid tells
    served-spent =
        turns-served disk_of old told serving.turns mid tells serving.are count TurnsSpent
        (omega (arith, serving.number)) (λ is. absurd cc)
        (λ is. serving.number) (ends-spent (map (λ (t : Transition D). t.reply) serving.turns) serving.go)

    -- the source has no further event
    pub served-ended : (most : ℕ) (later : Told) → count < most → HasTaken tells None later
        → later.sink_tells ≡ tells.sink_tells
        → later.took ≡ tells.took → IsServed disk_of most old told Ended mid later
    served-ended most later few taken sink took =
        let end = turns-ended disk_of old told serving.turns mid tells serving.are later taken sink took in
        turns-served disk_of old told serving.turns mid later end.0 most Ended (omega (arith, serving.number, few))
        (λ is. (omega (arith, serving.number, few), end.1)) (λ is. absurd cc)
        (ends-ended (map (λ (t : Transition D). t.reply) serving.turns) serving.go)

    module _ (event : Event) (answer : Answer) (new : EndpointValue D) (later : Told)
        (call : IsCall disk_of mid (call_of event) (reply_of answer) new)
        (kept : IsSoundEndpoint mid) (taken : HasTaken tells (Some event) later)
        (given : HasGiven tells answer later) where
      -- one more
      pub serving-more : is_halt (reply_of answer) ≡ false → IsServing disk_of (count + 1) old told new later
      serving-more goes =
          let turn : Transition D = record { call = call_of event; reply = reply_of answer; after = new } in
          record {
            turns = serving.turns ++ turn ∷ [];
            number = length_push serving.turns turn ∙ ap (λ (n : ℕ). n + 1) serving.number;
            go = go_more disk_of turn serving.turns serving.go goes;
            are = turns-more disk_of old told serving.turns mid tells serving.are event answer new later call kept
                taken given;
          }

      -- a device call failed
      pub served-halted : (most : ℕ) → count < most → is_halt (reply_of answer) ≡ true
          → IsServed disk_of most old told Halted new later
      served-halted most few halt =
          let turn : Transition D = record { call = call_of event; reply = reply_of answer; after = new } in
          let replies = λ (turns : List (Transition D)). map (λ (t : Transition D). t.reply) turns in
          let ends : EndsAs (replies (serving.turns ++ turn ∷ [])) Halted =
          subst (λ (l : List Reply). EndsAs l Halted)
          (sym (map-append (λ (t : Transition D). t.reply) serving.turns (turn ∷ [])))
          (ends_last (replies serving.turns) (reply_of answer) serving.go halt) in
          turns-served disk_of old told (serving.turns ++ turn ∷ []) new later
          (turns-more disk_of old told serving.turns mid tells serving.are event answer new later call kept taken given)
          most Halted
          (omega (arith, length_push serving.turns turn, serving.number, few)) (λ is. absurd cc) (λ is. absurd cc) ends
