-- What a power loss inside a call leaves: the state before it, with its command under way where work on it may have
-- begun.
use Rattle.std.proofs.Common.{◌≡◌, ◌⊎◌, ◌&&◌, inl, inr, ℕ, Bool, true, false, cond, not, List, [], ◌∷◌, Option, Some}
use Rattle.std.proofs.Common.{None, Ok, is_ok, refl, sym, ◌∙◌, ap, subst, arith}
use Rattle.macs_config.specs.Apply.{apply}
use Rattle.macs_config.specs.Config.{Config, Edition, this_edition}
use Rattle.macs_config.specs.declared.command.Command.{Command}
use Rattle.macs_disk.specs.Disk.{Disk, IsHonest, LeftSince}
use Rattle.macs_disk.specs.States.{Image, IsImage}
use Rattle.macs_store.specs.Value as store
use Rattle.macs_endpoint.specs.declared.queue.Waiting.{Waiting}
use Rattle.macs_endpoint.specs.Calls.{IsCall}
use Rattle.macs_endpoint.specs.Limits.{IsStill}
use Rattle.macs_endpoint.specs.Queue.{first_command}
use Rattle.macs_endpoint.specs.Restart.{Fits, Resumes, opened_state, state_during, state_taking, state_taking_alone}
use Rattle.macs_endpoint.specs.Restart.{state_taking_first}
use Rattle.macs_endpoint.specs.State.{Advances, Call, Commands, Logs, NoneWait, Protected, Protects, Received, Receives}
use Rattle.macs_endpoint.specs.State.{Refills, Reply, State, Submits, Submitted, state_after_fault}
use Rattle.macs_endpoint.specs.State.{state_with_under_way}
use Rattle.macs_endpoint.specs.State.{Rests}
use Rattle.macs_endpoint.specs.Step.{Step, TakesUp, state_after_command, state_without_first}
use Rattle.macs_endpoint.specs.Value.{EndpointValue, IsAtRest, IsBacked, IsKeeping, IsReserving, IsSoundEndpoint}
use Rattle.macs_endpoint.specs.Value.{disk_in, state_of}
use Rattle.macs_headline.proofs.Changes.{Begins, BeginsAndStops, Breaks, Change, Completes, Delivers, Drops, HoldsBack}
use Rattle.macs_headline.proofs.Changes.{Obeys, Queues, Sends, Stays, Stops, change-of}
use Rattle.macs_headline.proofs.Ledger.{none_some}
use Rattle.macs_headline.proofs.LifeEnds.{by-end}

-- ---- what is under way

-- while the endpoint runs, a command is under way only where it is the first that waits
pub record IsSettled (s : State) : Type 0 where
  pub alone : s.stopped ≡ false → NoneWait s → s.under_way ≡ None
  pub first : s.stopped ≡ false → (c : Command) → s.under_way ≡ Some c → first_command s.waiting ≡ Some c

none_waits : (first : Waiting) (rest : List Waiting) → first ∷ rest ≡ [] → ⊥
none_waits first rest is = cc

module _ {D : Type 0} (e : EndpointValue D) (logs : Logs) where
  by_work : IsAtRest e ⊎ (IsReserving e ⊎ IsKeeping e) → IsSettled (state_of e logs)
  by_work (inl at) = record {
    alone = λ running none. at.under_way running;
    first = λ running c hand. absurd (none_some c (sym (at.under_way running) ∙ hand));
  }
  by_work (inr (inl at)) = record {
    alone = λ running none. at.under_way;
    first = λ running c hand. absurd (none_some c (sym at.under_way ∙ hand));
  }
  by_work (inr (inr at)) = record {
    alone = λ running none. absurd (none_waits at.first at.rest (sym at.waiting ∙ none));
    first = λ running c hand. ap first_command at.waiting ∙ sym at.under_way ∙ hand;
  }

-- the call may make device calls
abbrev Works : Call → Type 0
Works (Commands c) = Unit {0}
Works Refills = Unit {0}
Works Rests = Unit {0}
Works Advances = Unit {0}
Works call = ⊥

-- ---- states that a restart does not tell apart

-- the same but for what is under way or waits, for the tickets, and for whether it is stopped
record IsAlike (a b : State) : Type 0 where
  edition : a.edition ≡ b.edition
  identity : a.identity ≡ b.identity
  config : a.config ≡ b.config
  next : a.next ≡ b.next
  numbers : a.numbers ≡ b.numbers
  logs : a.logs ≡ b.logs

resumes_alike : (a b new : State) → IsAlike a b → Resumes a new → Resumes b new
resumes_alike a b new alike up =
    let part : State =
    record a { stopped = b.stopped; under_way = b.under_way; waiting = b.waiting; tickets = b.tickets } in
    let same : part ≡ b =
    (λ i. record {
      edition = alike.edition i;
      identity = alike.identity i;
      config = alike.config i;
      next = alike.next i;
      numbers = alike.numbers i;
      logs = alike.logs i;
      stopped = b.stopped;
      under_way = b.under_way;
      waiting = b.waiting;
      tickets = b.tickets;
    }) in
    let moved : Resumes part new = record {
      edition = up.edition;
      identity = up.identity;
      config = up.config;
      next = up.next;
      numbers = up.numbers;
      logs = up.logs;
      running = up.running;
      idle = up.idle;
      waiting = up.waiting;
      tickets = up.tickets;
    } in
    subst (λ (s : State). Resumes s new) same moved

all_alike : (a : State) (stopped : Bool) (under_way : Option Command) (waiting : List Waiting)
    → IsAlike a (record a { stopped = stopped; under_way = under_way; waiting = waiting })
all_alike a stopped under_way waiting =
    record { edition = refl; identity = refl; config = refl; next = refl; numbers = refl; logs = refl }

module _ (edition : Edition) (sectors : ℕ) (image : Image) where
  abbrev FitsHere : State → Type 0
  FitsHere s = Fits edition sectors image s

  -- nothing was under way before a command
  fits_holding : (s : State) (command : Command) → s.under_way ≡ None → FitsHere s
      → FitsHere (state_with_under_way s command)
  fits_holding s command idle fits = record {
    found = fits.found;
    is_found = fits.is_found;
    restart = elim fits.restart [
      | inl up ↦ inl (resumes_alike s (state_with_under_way s command) (opened_state fits.found s.logs)
          (all_alike s s.stopped (Some command) s.waiting) up)
      | inr made ↦ absurd (none_some made.0 (sym idle ∙ made.2))
    ];
  }

  held_surely : (P : State → Type 0) (stopped accepts : Bool) (x y : State) → stopped ≡ false → accepts ≡ true → P x
      → P (cond (not stopped && accepts) x y)
  held_surely P true accepts x y running accepted this = absurd (cc)
  held_surely P false true x y running accepted this = this
  held_surely P false false x y running accepted this = absurd (cc)

  -- a command that is accepted is taken
  taken : (s : State) (c : Command) → s.stopped ≡ false → is_ok (apply s.edition s.identity s.config c) ≡ true
      → FitsHere (state_with_under_way s c)
      → FitsHere (state_taking s c)
  taken s c running accepted fits =
      held_surely FitsHere s.stopped (is_ok (apply s.edition s.identity s.config c))
      (state_with_under_way s c) s running
      accepted fits

  -- before the call
  fits_during : (s : State) (call : Call) → IsSettled s → FitsHere s → FitsHere (state_during s call)
  fits_during s call settled fits = by-end FitsHere s fits (Some call) (λ c taken. fits_holding s c (elim taken.how [
    | inl own ↦ settled.alone taken.running own.1
    | inr queued ↦ queued.1
  ]) fits)

  -- while none waits
  during_alone : (s : State) (c : Command) → NoneWait s → FitsHere (state_taking s c)
      → FitsHere (state_during s (Commands c))
  during_alone s c none fits = subst (λ (w : List Waiting). FitsHere (state_taking_alone s c w)) (sym none) fits

  -- while none is under way
  during_first : (s : State) (first : Waiting) (rest : List Waiting) → s.waiting ≡ first ∷ rest → s.under_way ≡ None
      → FitsHere (state_taking s first.command)
      → FitsHere (state_during s Advances)
  during_first s first rest waiting idle fits =
      subst (λ (w : List Waiting). FitsHere (state_taking_first s s.under_way w)) (sym waiting)
      (subst (λ (h : Option Command). FitsHere (state_taking_first s h (first ∷ rest))) (sym idle) fits)

  -- while one is
  during_held : (s : State) (c : Command) → s.under_way ≡ Some c → FitsHere s → FitsHere (state_during s Advances)
  during_held s c hand fits =
      subst (λ (h : Option Command). FitsHere (state_taking_first s h s.waiting)) (sym hand) fits

  -- whether it is stopped is forgotten
  pub fits_running : (s : State) → FitsHere (state_after_fault s) → FitsHere s
  fits_running s fits = record {
    found = fits.found;
    is_found = fits.is_found;
    restart = elim fits.restart [
      | inl up ↦ inl (resumes_alike (state_after_fault s) s (opened_state fits.found s.logs)
          (all_alike (state_after_fault s) s.stopped s.under_way s.waiting) up)
      | inr made ↦
          let command = made.0 in
          let makes = made.3 in
          let later = state_after_command (state_after_fault s) command makes.0 in
          let up = subst (λ (mid : State). Resumes mid (opened_state fits.found s.logs)) makes.2 made.4 in
          inr (
            command,
            state_after_command s command makes.0,
            made.2,
            (makes.0, makes.1, refl),
            resumes_alike later (state_after_command s command makes.0) (opened_state fits.found s.logs)
                (all_alike later s.stopped None s.waiting) up,
          )
    ];
  }

  -- the command under way was done, whatever waits then
  fits_done : (s : State) (rest : List Waiting) (c : Command) (config : Config) → s.under_way ≡ Some c
      → apply s.edition s.identity s.config c ≡ Ok config
      → FitsHere (state_after_command (record s { waiting = rest }) c config) → FitsHere s
  fits_done s rest c config hand ok fits =
      let later = state_after_command (record s { waiting = rest }) c config in
      let mid = state_after_command s c config in
      record {
        found = fits.found;
        is_found = fits.is_found;
        restart = elim fits.restart [
          | inl up ↦ inr (
            c,
            mid,
            hand,
            (config, ok, refl),
            resumes_alike later mid (opened_state fits.found s.logs) (all_alike later s.stopped None s.waiting) up,
          )
          | inr made ↦ absurd (none_some made.0 made.2)
        ];
      }

  -- the first one that waits was refused
  fits_refused : (s : State) (rest : List Waiting) → FitsHere (state_without_first s rest) → FitsHere s
  fits_refused s rest fits =
      let later = state_without_first s rest in
      record {
        found = fits.found;
        is_found = fits.is_found;
        restart = elim fits.restart [
          | inl up ↦ inl (resumes_alike later s (opened_state fits.found s.logs)
              (all_alike later s.stopped s.under_way s.waiting) up)
          | inr made ↦ absurd (none_some made.0 made.2)
        ];
      }

  -- ---- what fits the state after a call fits the one while it is under way

  by_taking : (old new : State) → old.stopped ≡ false → TakesUp old new → FitsHere new
      → FitsHere (state_during old Advances)
  by_taking old new running (first, rest, waiting, idle, accepts, is) fits =
      during_first old first rest waiting idle (taken old first.command running accepts (subst FitsHere is fits))

  -- the first one that waits took effect, under way before or not
  by_done : (old : State) (first : Waiting) (rest : List Waiting) (config : Config) (under_way : Option Command)
      → old.stopped ≡ false → IsSettled old
      → old.waiting ≡ first ∷ rest → old.under_way ≡ under_way
      → apply old.edition old.identity old.config first.command ≡ Ok config
      → FitsHere (state_after_command (state_without_first old rest) first.command config)
      → FitsHere (state_during old Advances)
  by_done old first rest config None running settled waiting hand ok fits =
      during_first old first rest waiting hand
      (taken old first.command running (ap is_ok ok)
      (fits_done (state_with_under_way old first.command) rest first.command config refl ok fits))
  by_done old first rest config (Some c) running settled waiting hand ok fits =
      let its : old.under_way ≡ Some first.command = hand ∙ sym (settled.first running c hand)
      ∙ ap first_command waiting in
      during_held old first.command its (fits_done old rest first.command config its ok fits)

  by_change : (old : State) (call : Call) (reply : Reply) (new : State) → Works call → old.stopped ≡ false
      → IsSettled old → Change old call reply new → FitsHere new → FitsHere (state_during old call)
  by_change old call reply new works running settled (Stays is) fits =
      fits_during old call settled (subst FitsHere is fits)
  by_change old call reply new works running settled (Stops is) fits =
      fits_during old call settled (fits_running old (subst FitsHere is fits))
  by_change old call reply new works running settled (Obeys c asked none (config, ok, is)) fits =
      subst (λ (call : Call). FitsHere (state_during old call)) (sym asked)
      (during_alone old c none
      (taken old c running (ap is_ok ok)
      (fits_done (state_with_under_way old c) old.waiting c config refl ok (subst FitsHere is fits))))
  by_change old call reply new works running settled (Breaks c asked told none accepts is) fits =
      subst (λ (call : Call). FitsHere (state_during old call)) (sym asked)
      (during_alone old c none
      (taken old c running accepts (fits_running (state_with_under_way old c) (subst FitsHere is fits))))
  by_change old call reply new works running settled (Queues c asked is) fits =
      absurd (subst (λ (call : Call). Works call) asked works)
  by_change old call reply new works running settled (Begins asked takes) fits =
      subst (λ (call : Call). FitsHere (state_during old call)) (sym asked) (by_taking old new running takes fits)
  by_change old call reply new works running settled (BeginsAndStops asked mid takes is) fits =
      subst (λ (call : Call). FitsHere (state_during old call)) (sym asked)
      (by_taking old mid running takes (fits_running mid (subst FitsHere is fits)))
  by_change old call reply new works running settled (Completes asked first rest waiting (config, ok, is)) fits =
      subst (λ (call : Call). FitsHere (state_during old call)) (sym asked)
      (by_done old first rest config old.under_way running settled waiting refl ok (subst FitsHere is fits))
  by_change old call reply new works running settled (Drops asked first rest waiting is) fits =
      fits_during old call settled (fits_refused old rest (subst FitsHere is fits))
  by_change old call reply new works running settled (Sends plain asked pn out h) fits =
      absurd (subst (λ (call : Call). Works call) asked works)
  by_change old call reply new works running settled (HoldsBack frame asked a there is) fits =
      absurd (subst (λ (call : Call). Works call) asked works)
  by_change old call reply new works running settled (Delivers frame asked a there is) fits =
      absurd (subst (λ (call : Call). Works call) asked works)

  during_call : (old : State) (call : Call) (reply : Reply) (new : State) → Works call → IsSettled old
      → Step old call reply new → FitsHere new → FitsHere (state_during old call)
  during_call old call reply new works settled (inl (stopped, answer, is)) fits =
      fits_during old call settled (subst FitsHere is fits)
  during_call old call reply new works settled (inr (running, h)) fits =
      by_change old call reply new works running settled (change-of old new call reply h) fits

-- ---- calls of an endpoint

-- what might have been left since a call that makes no device call may be left before it
still_left : (a b : Disk) (image : Image) → a ≡ b → LeftSince b a.clock image → IsImage (a.past a.clock) image
still_left a b image same left =
    let at_a : LeftSince a a.clock image = subst (λ (d : Disk). LeftSince d a.clock image) (sym same) left in
    let at_now : at_a.0 ≡ a.clock = omega (arith, at_a.1, at_a.2) in
    subst (λ (k : ℕ). IsImage (a.past k) image) at_now at_a.3

-- the call makes none
abbrev IsQuiet : Call → Type 0
IsQuiet (Submits c) = Unit {0}
IsQuiet (Protects plain) = Unit {0}
IsQuiet (Receives frame) = Unit {0}
IsQuiet call = ⊥

stays : {D : Type 0} (old new : EndpointValue D) (logs later : Logs) (call : Call) (reply : Reply) → IsQuiet call
    → Step (state_of old logs) call reply (state_of new later) → IsStill old call reply new → new.store ≡ old.store
stays old new logs later (Submits c) (Submitted result) rests step still = still
stays old new logs later (Protects plain) (Protected result out) rests step still = still
stays old new logs later (Receives frame) (Received result out) rests step still = still
stays old new logs later (Submits c) reply rests (inl h) still = absurd h.1
stays old new logs later (Submits c) reply rests (inr h) still = absurd h.1
stays old new logs later (Protects plain) reply rests (inl h) still = absurd h.1
stays old new logs later (Protects plain) reply rests (inr h) still = absurd h.1
stays old new logs later (Receives frame) reply rests (inl h) still = absurd h.1
stays old new logs later (Receives frame) reply rests (inr h) still = absurd h.1
stays old new logs later call reply rests step still = absurd rests

module _ {D : Type 0} (disk_of : D → Disk) (last after : EndpointValue D) (logs : Logs) (reply : Reply)
    (sound : IsSoundEndpoint last)
    (honest : IsHonest (disk_in disk_of last)) (backed : IsBacked disk_of last) where
  by_working : (call : Call) → Works call
      → IsCall disk_of last call reply after → (image : Image)
      → LeftSince (disk_in disk_of after) (disk_in disk_of last).clock image
      → Fits this_edition (disk_in disk_of last).sectors image (state_during (state_of last logs) call)
  by_working call works is image left =
      let step = is.behaves.step logs in
      elim (((is.survives (is.device.works.honest ∙ honest) backed).any_moment logs step.0).each image left) [
        | inl before ↦ before
        | inr later ↦ during_call this_edition (disk_in disk_of last).sectors image (state_of last logs) call reply
            (state_of after step.0) works (by_work last logs sound.work) step.1 later
      ]

  by_resting : (call : Call) → IsQuiet call → IsCall disk_of last call reply after → (image : Image)
      → LeftSince (disk_in disk_of after) (disk_in disk_of last).clock image
      → Fits this_edition (disk_in disk_of last).sectors image (state_of last logs)
  by_resting call rests is image left =
      let step = is.behaves.step logs in
      let same = stays last after logs step.0 call reply rests step.1 is.behaves.still in
      backed.fits logs image (still_left (disk_in disk_of last) (disk_in disk_of after) image
      (ap (λ (s : store.StoreValue D). store.disk_in disk_of s) (sym same)) left)

  -- what a power loss at some moment of a call leaves
  pub cut-call : (call : Call) → IsCall disk_of last call reply after → (image : Image)
      → LeftSince (disk_in disk_of after) (disk_in disk_of last).clock image
      → Fits this_edition (disk_in disk_of last).sectors image (state_during (state_of last logs) call)
  cut-call (Commands c) is image left = by_working (Commands c) tt is image left
  cut-call Refills is image left = by_working Refills tt is image left
  cut-call Rests is image left = by_working Rests tt is image left
  cut-call (Submits c) is image left = by_resting (Submits c) tt is image left
  cut-call Advances is image left = by_working Advances tt is image left
  cut-call (Protects plain) is image left = by_resting (Protects plain) tt is image left
  cut-call (Receives frame) is image left = by_resting (Receives frame) tt is image left
