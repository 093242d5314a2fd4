-- What passes between a relay and its desk, besides the calls of the endpoint.
use Rattle.std.proofs.Common.{◌≡◌, ◌++◌, inl, inr, ℕ, Bool, List, [], ◌∷◌, map, Option, Some, None, Result, Ok, Err, refl, sym, ap, ◌∙◌, subst}
use Rattle.std.proofs.Common.{append-nil, append_assoc}
use Rattle.std.specs.Prelude.{flat_map}
use Rattle.std.proofs.lemmas.List.{map-append}
use Rattle.std.proofs.lemmas.List.Concat.{flat_map-append}
use Rattle.macs_config.specs.declared.command.Command.{Command}
use Rattle.macs_disk.specs.Disk.{Disk}
use Rattle.macs_endpoint.specs.Calls.{IsCall}
use Rattle.macs_endpoint.specs.Lives.{Lives, Transition}
use Rattle.macs_endpoint.specs.State.{Advanced, Advances, Call, Commands, Protects, Receives, Refills, Reply, Submits}
use Rattle.macs_endpoint.specs.State.{Submitted}
use Rattle.macs_endpoint.specs.State.{Rests}
use Rattle.macs_endpoint.specs.Value.{EndpointValue}
use Rattle.macs_endpoint.specs.declared.fault.StepFault.{StepFault}
use Rattle.macs_endpoint.specs.declared.fault.SubmitFault.{SubmitFault}
use Rattle.macs_endpoint.specs.declared.progress.Step.{Step as Progress}
use Rattle.macs_endpoint.specs.declared.progress.Step.TheVariants.{Done, Idle, Reserved, Worked}
use Rattle.macs_endpoint.specs.declared.queue.Waiting.{Waiting}
use Rattle.macs_edge.specs.Attending.{Does, Obeys, answers_of, failed_of}
use Rattle.macs_edge.specs.declared.attending.DeskEvent.{DeskEvent}
use Rattle.macs_edge.specs.declared.attending.DeskEvent.TheVariants.{Took, Wanted}
use Rattle.macs_edge.specs.Commanding.{Ended, all_failed, answered_to, done_by, ended_by, handed_in_by, submitted_by}
use Rattle.macs_edge.specs.Commanding.{ticket_in, tickets_answered, tickets_of, tickets_taken, told_by}
use Rattle.macs_edge.specs.declared.attending.CommandEnd.TheVariants as end
use Rattle.macs_edge.specs.declared.attending.Order.{Order}
use Rattle.macs_edge.specs.declared.attending.Order.TheVariants.{Go, Submit, End}
use Rattle.macs_edge.specs.Flows.{given}
use Rattle.macs_edge.specs.declared.settling.Side.TheVariants.{Controlled, Common}
use Rattle.macs_edge.proofs.LastCalls.{LastCalls, last_call, step_answer}
use Rattle.macs_edge.proofs.Flowing.{AreFrames, IsFrame}
use Rattle.macs_edge.proofs.Queueing.{frame-waits, step-waits, submit-waits}

-- ---- lists

both-append : {X Y A : Type 0} (f : X → List A) (g : Y → List A) (xs more : List X) (ys others : List Y)
    → flat_map f xs ≡ flat_map g ys
    → flat_map f more ≡ flat_map g others → flat_map f (xs ++ more) ≡ flat_map g (ys ++ others)
both-append f g xs more ys others one two =
    flat_map-append f xs more ∙ (λ i. one i ++ two i) ∙ sym (flat_map-append g ys others)

queue-append : (w0 w1 w2 t1 t2 a1 a2 : List ℕ) → w0 ++ t1 ≡ a1 ++ w1 → w1 ++ t2 ≡ a2 ++ w2
    → w0 ++ (t1 ++ t2) ≡ (a1 ++ a2) ++ w2
queue-append w0 w1 w2 t1 t2 a1 a2 one two =
    sym (append_assoc w0 t1 t2) ∙ ap (λ (l : List ℕ). l ++ t2) one ∙ append_assoc a1 w1 t2
    ∙ ap (λ (l : List ℕ). a1 ++ l) two ∙ sym (append_assoc a1 a2 w2)

pub taken-append : (events more : List DeskEvent)
    → tickets_taken (events ++ more) ≡ tickets_taken events ++ tickets_taken more
taken-append events more =
    ap (λ (l : List (Result ℕ SubmitFault)). flat_map ticket_in l) (flat_map-append told_by events more)
    ∙ flat_map-append ticket_in (flat_map told_by events) (flat_map told_by more)

pub answered-append : (events more : List DeskEvent)
    → tickets_answered (events ++ more) ≡ tickets_answered events ++ tickets_answered more
answered-append events more =
    ap (λ (l : List Ended). map (λ (e : Ended). e.ticket) l) (flat_map-append ended_by events more)
    ∙ map-append (λ (e : Ended). e.ticket) (flat_map ended_by events) (flat_map ended_by more)

-- ---- frames

frame-submits : (call : Call) → IsFrame call → submitted_by call ≡ []
frame-submits (Protects plain) frame = refl
frame-submits (Receives octets) frame = refl
frame-submits (Commands command) frame = absurd frame
frame-submits Refills frame = absurd frame
frame-submits Rests frame = absurd frame
frame-submits (Submits command) frame = absurd frame
frame-submits Advances frame = absurd frame

frame-answers : (call : Call) (reply : Reply) → IsFrame call → answered_to call reply ≡ []
frame-answers (Protects plain) reply frame = refl
frame-answers (Receives octets) reply frame = refl
frame-answers (Commands command) reply frame = absurd frame
frame-answers Refills reply frame = absurd frame
frame-answers Rests reply frame = absurd frame
frame-answers (Submits command) reply frame = absurd frame
frame-answers Advances reply frame = absurd frame

frame-ends : (call : Call) (reply : Reply) → IsFrame call → done_by call reply ≡ []
frame-ends (Protects plain) reply frame = refl
frame-ends (Receives octets) reply frame = refl
frame-ends (Commands command) reply frame = absurd frame
frame-ends Refills reply frame = absurd frame
frame-ends Rests reply frame = absurd frame
frame-ends (Submits command) reply frame = absurd frame
frame-ends Advances reply frame = absurd frame

-- ---- a step

-- what is reported to a desk of the step of a turn, also where it is refused
abbrev pub told_of_turn : Result (Option Progress) StepFault → List DeskEvent
told_of_turn (Ok progress) = answers_of progress
told_of_turn (Err fault) = []

told-ended : (answer : Result (Option Progress) StepFault)
    → flat_map ended_by (told_of_turn answer) ≡ done_by Advances (Advanced (step_answer answer))
told-ended (Ok None) = refl
told-ended (Ok (Some Idle)) = refl
told-ended (Ok (Some Worked)) = refl
told-ended (Ok (Some Reserved)) = refl
told-ended (Ok (Some (Done ticket result))) = refl
told-ended (Err fault) = refl

told-handed : (answer : Result (Option Progress) StepFault) → flat_map handed_in_by (told_of_turn answer) ≡ []
told-handed (Ok None) = refl
told-handed (Ok (Some Idle)) = refl
told-handed (Ok (Some Worked)) = refl
told-handed (Ok (Some Reserved)) = refl
told-handed (Ok (Some (Done ticket result))) = refl
told-handed (Err fault) = refl

pub told-told : (answer : Result (Option Progress) StepFault) → flat_map told_by (told_of_turn answer) ≡ []
told-told (Ok None) = refl
told-told (Ok (Some Idle)) = refl
told-told (Ok (Some Worked)) = refl
told-told (Ok (Some Reserved)) = refl
told-told (Ok (Some (Done ticket result))) = refl
told-told (Err fault) = refl

-- ---- what matches

-- these events of a desk are those of these calls, which lead from one endpoint to the other
pub record Matches {D : Type 0} (old : EndpointValue D) (events : List DeskEvent) (calls : List (Transition D))
    (new : EndpointValue D) : Type 0 where
  pub handed : flat_map handed_in_by events ≡ flat_map (λ (t : Transition D). submitted_by t.call) calls
  pub told : flat_map told_by events ≡ flat_map (λ (t : Transition D). answered_to t.call t.reply) calls
  pub ended : flat_map ended_by events ≡ flat_map (λ (t : Transition D). done_by t.call t.reply) calls
  pub queue : tickets_of old.waiting ++ tickets_taken events ≡ tickets_answered events ++ tickets_of new.waiting

module _ {D : Type 0} where
  pub matches-none : (e : EndpointValue D) → Matches e [] [] e
  matches-none e = record { handed = refl; told = refl; ended = refl; queue = append-nil (tickets_of e.waiting) }

  pub matches-append : (a b c : EndpointValue D) (events more : List DeskEvent) (calls others : List (Transition D))
      → Matches a events calls b
      → Matches b more others c → Matches a (events ++ more) (calls ++ others) c
  matches-append a b c events more calls others one two = record {
    handed = both-append handed_in_by (λ (t : Transition D). submitted_by t.call) events more calls others one.handed
        two.handed;
    told = both-append told_by (λ (t : Transition D). answered_to t.call t.reply) events more calls others one.told
        two.told;
    ended = both-append ended_by (λ (t : Transition D). done_by t.call t.reply) events more calls others one.ended
        two.ended;
    queue = ap (λ (l : List ℕ). tickets_of a.waiting ++ l) (taken-append events more)
        ∙ queue-append (tickets_of a.waiting) (tickets_of b.waiting) (tickets_of c.waiting) (tickets_taken events)
        (tickets_taken more)
        (tickets_answered events) (tickets_answered more) one.queue two.queue
        ∙ ap (λ (l : List ℕ). l ++ tickets_of c.waiting) (sym (answered-append events more));
  }

module _ {D : Type 0} (disk_of : D → Disk) where
  matches-frame : (a b : EndpointValue D) (turn : Transition D) → IsFrame turn.call
      → IsCall disk_of a turn.call turn.reply b
      → Matches a [] (turn ∷ []) b
  matches-frame a b turn frame is = record {
    handed = sym (append-nil (submitted_by turn.call) ∙ frame-submits turn.call frame);
    told = sym (append-nil (answered_to turn.call turn.reply) ∙ frame-answers turn.call turn.reply frame);
    ended = sym (append-nil (done_by turn.call turn.reply) ∙ frame-ends turn.call turn.reply frame);
    queue = append-nil (tickets_of a.waiting)
        ∙ ap tickets_of (sym (frame-waits disk_of a b turn.call turn.reply frame is));
  }

  pub matches-frames : (turns : List (Transition D)) (a b : EndpointValue D) → Lives disk_of a turns b
      → AreFrames turns → Matches a [] turns b
  matches-frames [] a b lives frames = subst (λ (e : EndpointValue D). Matches a [] [] e) (sym lives) (matches-none a)
  matches-frames (turn ∷ turns) a b lives frames =
      matches-append a turn.after b [] [] (turn ∷ []) turns (matches-frame a turn.after turn frames.0 lives.1)
      (matches-frames turns turn.after b lives.2 frames.1)

  -- ---- the disk work

  matches-step : (a b : EndpointValue D) (answer : Result (Option Progress) StepFault)
      → IsCall disk_of a Advances (Advanced (step_answer answer)) b
      → Matches a (told_of_turn answer) (last_call answer b ∷ []) b
  matches-step a b answer is = record {
    handed = told-handed answer;
    told = told-told answer;
    ended = told-ended answer ∙ sym (append-nil (done_by Advances (Advanced (step_answer answer))));
    queue = ap (λ (l : List (Result ℕ SubmitFault)). tickets_of a.waiting ++ flat_map ticket_in l) (told-told answer)
        ∙ append-nil (tickets_of a.waiting) ∙ step-waits disk_of a b (step_answer answer) is
        ∙ ap (λ (l : List Ended). map (λ (e : Ended). e.ticket) l ++ tickets_of b.waiting) (sym (told-ended answer));
  }

  pub matches-last : (a b : EndpointValue D) (answer : Result (Option Progress) StepFault)
      (last : LastCalls disk_of a answer b) → Matches a (told_of_turn answer) last.calls b
  matches-last a b answer last =
      elim last.are [
        | inl one ↦ subst (λ (l : List (Transition D)). Matches a (told_of_turn answer) l b) (sym one.0)
            (matches-step a b answer one.1)
        | inr none ↦
            subst (λ (l : List (Transition D)). Matches a (told_of_turn answer) l b) (sym none.0)
            (subst (λ (r : Result (Option Progress) StepFault). Matches a (told_of_turn r) [] b) (sym none.1)
            (subst (λ (e : EndpointValue D). Matches a [] [] e) (sym none.2) (matches-none a)))
      ]

  -- ---- what is done before a turn

  matches-submit : (a b : EndpointValue D) (quiet : Bool) (command : Command) (answer : Result ℕ SubmitFault)
      → IsCall disk_of a (Submits command) (Submitted answer) b
      → let turn : Transition D = record { call = Submits command; reply = Submitted answer; after = b } in
      Matches a (Wanted quiet (Submit command) ∷ Took answer ∷ []) (turn ∷ []) b
  matches-submit a b quiet command answer is = record {
    handed = refl;
    told = refl;
    ended = refl;
    queue = ap (λ (l : List ℕ). tickets_of a.waiting ++ l) (append-nil (ticket_in answer))
        ∙ submit-waits disk_of a b command answer is;
  }

  -- the calls that are made before a turn, none or one: they match what is reported to the desk, and no frame goes at
  -- them
  pub record ObeysWith (old : EndpointValue D) (events : List DeskEvent) (new : EndpointValue D) : Type 0 where
    pub calls : List (Transition D)
    pub lives : Lives disk_of old calls new
    pub matches : Matches old events calls new
    pub out : given Controlled calls ≡ []
    pub back : given Common calls ≡ []

  obeys-order : (quiet : Bool) (old new : EndpointValue D) (order : Order) (told : List DeskEvent)
      → Does disk_of order old told new
      → ObeysWith old (Wanted quiet order ∷ told) new
  obeys-order quiet old new Go told (none, same) =
      subst (λ (l : List DeskEvent). ObeysWith old (Wanted quiet Go ∷ l) new) (sym none) (record {
        calls = [];
        lives = same;
        matches = subst (λ (e : EndpointValue D). Matches old (Wanted quiet Go ∷ []) [] e) (sym same)
            (record { handed = refl; told = refl; ended = refl; queue = append-nil (tickets_of old.waiting) });
        out = refl;
        back = refl;
      })
  obeys-order quiet old new End told (none, same) =
      subst (λ (l : List DeskEvent). ObeysWith old (Wanted quiet End ∷ l) new) (sym none) (record {
        calls = [];
        lives = same;
        matches = subst (λ (e : EndpointValue D). Matches old (Wanted quiet End ∷ []) [] e) (sym same)
            (record { handed = refl; told = refl; ended = refl; queue = append-nil (tickets_of old.waiting) });
        out = refl;
        back = refl;
      })
  obeys-order quiet old new (Submit command) told (answer, took, sound, call) =
      subst (λ (l : List DeskEvent). ObeysWith old (Wanted quiet (Submit command) ∷ l) new) (sym took) (record {
        calls = record { call = Submits command; reply = Submitted answer; after = new } ∷ [];
        lives = (sound, call, refl);
        matches = matches-submit old new quiet command answer call;
        out = refl;
        back = refl;
      })

  pub obeys-with : (quiet follows : Bool) (old new : EndpointValue D) (events : List DeskEvent)
      → Obeys disk_of quiet old events follows new
      → ObeysWith old events new
  obeys-with quiet follows old new events (order, told, which, does, is) =
      subst (λ (l : List DeskEvent). ObeysWith old l new) (sym is) (obeys-order quiet old new order told does)

-- ---- the commands that wait at the end

pub failed-handed : (waiting : List Waiting) → flat_map handed_in_by (failed_of waiting) ≡ []
failed-handed [] = refl
failed-handed (w ∷ waiting) = failed-handed waiting

pub failed-told : (waiting : List Waiting) → flat_map told_by (failed_of waiting) ≡ []
failed-told [] = refl
failed-told (w ∷ waiting) = failed-told waiting

pub failed-ended : (waiting : List Waiting) → flat_map ended_by (failed_of waiting) ≡ all_failed waiting
failed-ended [] = refl
failed-ended (w ∷ waiting) = λ i. record { ticket = w.ticket; end = end.Failed } ∷ failed-ended waiting i

pub failed-tickets : (waiting : List Waiting) → map (λ (e : Ended). e.ticket) (all_failed waiting) ≡ tickets_of waiting
failed-tickets [] = refl
failed-tickets (w ∷ waiting) = ap (λ (l : List ℕ). w.ticket ∷ l) (failed-tickets waiting)
