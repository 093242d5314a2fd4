-- The greatest number that was seen on a receive association, through calls.
use Rattle.std.proofs.Common.{◌≡◌, ◌≢◌, ◌≤◌, ◌<◌, ◌⊎◌, ◌^◌, ◌∷◌, ◌∙◌, inl, inr, ℕ, List, [], Option, Some, None, Ok}
use Rattle.std.proofs.Common.{Err, refl, sym, ap, subst, arith, zero, suc, take, drop, get_or}
use Rattle.std.specs.Prelude.{All}
use Rattle.std.specs.Option.{option_map}
use Rattle.std.proofs.lemmas.List.Elements.{All-cons, All-tail}
use Rattle.macs_fields.proofs.FirstRefusal.{none-first}
use Rattle.macs_frame.specs.Tag.{pn_of}
use Rattle.macs_config.specs.Tables.{put, put_at}
use Rattle.macs_config.specs.declared.command.Command.{Command}
use Rattle.macs_config.specs.declared.command.Command.TheVariants.{SetValidate, SetReplay, SetSciMode, TxInstall, TxUse}
use Rattle.macs_config.specs.declared.command.Command.TheVariants.{TxRemove, RxAdd, RxDrop, RxInstall, RxRemove}
use Rattle.macs_config.proofs.Tables.{put-other, put_all, put_at-other, put_at_all, put_rx-here}
use Rattle.macs_disk.specs.Disk.{Disk}
use Rattle.macs_rxsc.specs.Receive.{Arrival, Arrives, RxStepHolds, Numbers, numbers_after_delivery, numbers_after_hold}
use Rattle.macs_rxsc.specs.Receive.{put_numbers, seen_after, first_numbers, rx_steps, numbers_under_window}
use Rattle.macs_rxsc.specs.declared.verdict.Verdict.TheVariants.{HeldBack}
use Rattle.macs_rxsc.proofs.Steps.{arrives_once}
use Rattle.macs_endpoint.specs.Calls.{IsCall}
use Rattle.macs_endpoint.specs.Lives.{Lives, Transition}
use Rattle.macs_endpoint.specs.Rooms.{IsBelow, RxStays, SparesRx}
use Rattle.macs_endpoint.specs.State.{Advanced, AdvancedLong, Advances, Call, Commands, Protected, Protects, Ran}
use Rattle.macs_endpoint.specs.State.{Received, Receives, Refilled, Refills, RefusedLong, Reply, State, Submits}
use Rattle.macs_endpoint.specs.State.{Submitted, command_made, no_logs, rx_side, Rested, Rests}
use Rattle.macs_endpoint.specs.Step.{ArriveStep, Step, numbers_after}
use Rattle.macs_endpoint.specs.Value.{EndpointValue, IsSoundEndpoint, state_of}
use Rattle.macs_endpoint.specs.declared.fault.ProtectFault.TheVariants as protect
use Rattle.macs_endpoint.specs.declared.progress.Step.TheVariants.{Idle}
use Rattle.macs_endpoint.proofs.Changes.{PassesNone, call-changes, no-answer, numbers_after_made}
use Rattle.macs_endpoint.proofs.Idled.{idle-step}
use Rattle.macs_endpoint.proofs.Rooms.{below-idle, below-refilled}

-- ---- the packet number that a received frame names

abbrev IsOctet : ℕ → Type 0
IsOctet octet = octet < 2 ^ 8

octet-at : (xs : List ℕ) (i : ℕ) → All IsOctet xs → get_or xs i 0 < 256
octet-at [] i all = omega arith
octet-at (x ∷ xs) zero all = let least = all 0 x (omega arith) in omega (arith, least)
octet-at (x ∷ xs) (suc i) all = octet-at xs i (All-tail IsOctet x xs all)

octets-behind : (n : ℕ) (xs : List ℕ) → All IsOctet xs → All IsOctet (drop n xs)
octets-behind zero xs all = all
octets-behind (suc n) [] all = all
octets-behind (suc n) (x ∷ xs) all = octets-behind n xs (All-tail IsOctet x xs all)

first-octets : (n : ℕ) (xs : List ℕ) → All IsOctet xs → All IsOctet (take n xs)
first-octets zero xs all = λ k d lt. absurd (omega (arith, lt))
first-octets (suc n) [] all = all
first-octets (suc n) (x ∷ xs) all =
    All-cons IsOctet x (take n xs) (all 0 x (omega arith)) (first-octets n xs (All-tail IsOctet x xs all))

-- four octets are below 2^32
pn-in-range : (frame : List ℕ) → All IsOctet frame → pn_of frame < 2 ^ 32
pn-in-range frame all =
    let four = first-octets 4 (drop 16 frame) (octets-behind 16 frame all) in
    let a = octet-at (take 4 (drop 16 frame)) 0 four in
    let b = octet-at (take 4 (drop 16 frame)) 1 four in
    let c = octet-at (take 4 (drop 16 frame)) 2 four in
    let d = octet-at (take 4 (drop 16 frame)) 3 four in
    omega (arith, a, b, c, d)

-- ---- through calls

-- a number was seen that is not below this one
abbrev IsReached : Option ℕ → ℕ → Type 0
IsReached None pn = ⊥
IsReached (Some seen) pn = pn ≤ seen

abbrev pub HasSeen : Option Numbers → ℕ → Type 0
HasSeen None pn = ⊥
HasSeen (Some numbers) pn = IsReached numbers.seen pn

reached-now : (seen : Option ℕ) (pn : ℕ) → IsReached (seen_after seen pn) pn
reached-now None pn = omega arith
reached-now (Some seen) pn = omega arith

reached-still : (seen : Option ℕ) (pn other : ℕ) → IsReached seen pn → IsReached (seen_after seen other) pn
reached-still None pn other reached = absurd reached
reached-still (Some seen) pn other reached = omega (arith, reached)

seen-windowed : (window : ℕ) (numbers : Option Numbers) (pn : ℕ) → HasSeen numbers pn
    → HasSeen (option_map (numbers_under_window window) numbers) pn
seen-windowed window None pn seen = absurd seen
seen-windowed window (Some numbers) pn seen = seen

module _ (sci : List ℕ) (an pn : ℕ) where
  -- a channel goes
  seen-dropped : (table : List ℕ → ℕ → Option Numbers) (at : List ℕ) → at ≢ sci → HasSeen (table sci an) pn
      → HasSeen (put_at table at (λ an. None) sci an) pn
  seen-dropped table at differ seen =
      subst (λ (f : ℕ → Option Numbers). HasSeen (f an) pn) (sym (put_at-other table at sci (λ an. None) differ)) seen

  -- another association changes
  seen-other : (table : List ℕ → ℕ → Option Numbers) (at : List ℕ) (number : ℕ) (x : Option Numbers)
      → (at ≢ sci) ⊎ (number ≢ an)
      → HasSeen (table sci an) pn → HasSeen (put_numbers table at number x sci an) pn
  seen-other table at number x differ seen =
      put_at_all (λ (f : ℕ → Option Numbers). HasSeen (f an) pn) table at (put (table at) number x) sci
      (λ same. elim differ [
        | inl other ↦ absurd (other (sym same))
        | inr other ↦
            let here : HasSeen (table at an) pn = subst (λ (s : List ℕ). HasSeen (table s an) pn) same seen in
            subst (λ (n : Option Numbers). HasSeen n pn) (sym (put-other (table at) number an x other)) here
      ])
      (λ other. seen)

  -- any association changes to numbers that have seen what it had seen
  seen-put : (table : List ℕ → ℕ → Option Numbers) (at : List ℕ) (number : ℕ) (x : Option Numbers)
      → (HasSeen (table at number) pn → HasSeen x pn) → HasSeen (table sci an) pn
      → HasSeen (put_numbers table at number x sci an) pn
  seen-put table at number x keeps seen =
      put_at_all (λ (f : ℕ → Option Numbers). HasSeen (f an) pn) table at (put (table at) number x) sci
      (λ same.
      let here : HasSeen (table at an) pn = subst (λ (s : List ℕ). HasSeen (table s an) pn) same seen in
      put_all (λ (n : Option Numbers). HasSeen n pn) (table at) number x an
      (λ same_an. keeps (subst (λ (n : ℕ). HasSeen (table at n) pn) same_an here)) (λ other. here))
      (λ other. seen)

  -- ---- a command

  seen-command : (command : Command) (numbers : List ℕ → ℕ → Option Numbers) → SparesRx sci an (Some command)
      → HasSeen (numbers sci an) pn
      → HasSeen (numbers_after command numbers sci an) pn
  seen-command (SetValidate validate) numbers spares seen = seen
  seen-command (SetReplay on window) numbers spares seen = seen-windowed window (numbers sci an) pn seen
  seen-command (SetSciMode mode) numbers spares seen = seen
  seen-command (TxInstall at key start confidential offset) numbers spares seen = seen
  seen-command (TxUse at) numbers spares seen = seen
  seen-command (TxRemove at) numbers spares seen = seen
  seen-command (RxAdd added) numbers spares seen = seen
  seen-command (RxDrop dropped) numbers spares seen = seen-dropped numbers dropped spares seen
  seen-command (RxInstall channel at key start offset) numbers spares seen =
      seen-other numbers channel at (Some (first_numbers start)) spares seen
  seen-command (RxRemove channel at) numbers spares seen = seen-other numbers channel at None spares seen

  -- ---- a call

  abbrev numbers_in : State → List ℕ → ℕ → Option Numbers
  numbers_in s = s.numbers

  module _ (s t : State) where
    seen-same : t.numbers ≡ s.numbers → HasSeen (s.numbers sci an) pn → HasSeen (t.numbers sci an) pn
    seen-same same seen = subst (λ (f : List ℕ → ℕ → Option Numbers). HasSeen (f sci an) pn) (sym same) seen

    -- a frame arrived
    seen-arrived : (a : Arrival) (x : Numbers) → s.numbers a.sci a.an ≡ Some a.numbers
        → x.seen ≡ seen_after a.numbers.seen a.pn
        → t.numbers ≡ put_numbers s.numbers a.sci a.an (Some x) → HasSeen (s.numbers sci an) pn
        → HasSeen (t.numbers sci an) pn
    seen-arrived a x are is same seen =
        subst (λ (f : List ℕ → ℕ → Option Numbers). HasSeen (f sci an) pn) (sym same)
        (seen-put s.numbers a.sci a.an (Some x)
        (λ had. subst (λ (o : Option ℕ). IsReached o pn) (sym is)
        (reached-still a.numbers.seen pn a.pn (subst (λ (n : Option Numbers). HasSeen n pn) are had))) seen)

    -- no frame passes
    seen_made : (made : Option Command) → SparesRx sci an made → HasSeen (s.numbers sci an) pn
        → HasSeen (numbers_after_made made s.numbers sci an) pn
    seen_made None spares seen = seen
    seen_made (Some command) spares seen = seen-command command s.numbers spares seen

    seen_quiet : (call : Call) (reply : Reply) → PassesNone call → Step s call reply t
        → SparesRx sci an (command_made s call reply)
        → HasSeen (s.numbers sci an) pn → HasSeen (t.numbers sci an) pn
    seen_quiet call reply quiet step spares seen =
        let made = command_made s call reply in
        subst (λ (f : List ℕ → ℕ → Option Numbers). HasSeen (f sci an) pn)
        (sym (call-changes s t call reply quiet step).1) (seen_made made spares seen)

    seen-step : (call : Call) (reply : Reply) → Step s call reply t → SparesRx sci an (command_made s call reply)
        → HasSeen (s.numbers sci an) pn
        → HasSeen (t.numbers sci an) pn
    seen-step (Commands command) reply step spares seen = seen_quiet (Commands command) reply tt step spares seen
    seen-step Refills reply step spares seen = seen_quiet Refills reply tt step spares seen
    seen-step Rests reply step spares seen = seen_quiet Rests reply tt step spares seen
    seen-step (Submits command) reply step spares seen = seen_quiet (Submits command) reply tt step spares seen
    seen-step Advances reply step spares seen = seen_quiet Advances reply tt step spares seen
    seen-step (Protects plain) (Protected (Ok number) out) (inl step) spares seen = absurd step.1
    seen-step (Protects plain) (Protected (Ok number) out) (inr step) spares seen =
        seen-same (ap numbers_in step.1.1.4) seen
    seen-step (Protects plain) (Protected (Err (protect.Tx fault)) out) (inl step) spares seen = absurd step.1
    seen-step (Protects plain) (Protected (Err (protect.Tx fault)) out) (inr step) spares seen =
        seen-same (ap numbers_in step.1.2) seen
    seen-step (Protects plain) (Protected (Err protect.Stopped) out) (inl step) spares seen =
        seen-same (ap numbers_in step.2) seen
    seen-step (Protects plain) (Protected (Err protect.Stopped) out) (inr step) spares seen = absurd step.1
    seen-step (Protects plain) (Ran result) step spares seen = absurd (no-answer step)
    seen-step (Protects plain) (Refilled result) step spares seen = absurd (no-answer step)
    seen-step (Protects plain) (Rested result) step spares seen = absurd (no-answer step)
    seen-step (Protects plain) (Submitted result) step spares seen = absurd (no-answer step)
    seen-step (Protects plain) (Advanced result) step spares seen = absurd (no-answer step)
    seen-step (Protects plain) RefusedLong step spares seen = absurd (no-answer step)
    seen-step (Protects plain) (AdvancedLong ticket) step spares seen = absurd (no-answer step)
    seen-step (Protects plain) (Received result out) step spares seen = absurd (no-answer step)
    seen-step (Receives frame) (Received result out) (inl step) spares seen = seen-same (ap numbers_in step.2) seen
    seen-step (Receives frame) (Received (Ok verdict) out) (inr step) spares seen = elim step.1 [
      | inl settles ↦ seen-same (ap numbers_in settles.4) seen
      | inr arrives ↦
          let a = arrives.0 in
          elim arrives.2 [
            | inl back ↦ seen-arrived a (numbers_after_hold a.numbers a.pn) arrives.1.are_numbers refl
                (ap numbers_in back.3) seen
            | inr kept ↦ seen-arrived a (numbers_after_delivery s.config.replay.window a.numbers a.pn)
                arrives.1.are_numbers refl (ap numbers_in kept.2) seen
          ]
    ]
    seen-step (Receives frame) (Received (Err stopped) out) (inr step) spares seen = absurd step.1
    seen-step (Receives frame) (Ran result) step spares seen = absurd (no-answer step)
    seen-step (Receives frame) (Refilled result) step spares seen = absurd (no-answer step)
    seen-step (Receives frame) (Rested result) step spares seen = absurd (no-answer step)
    seen-step (Receives frame) (Submitted result) step spares seen = absurd (no-answer step)
    seen-step (Receives frame) (Advanced result) step spares seen = absurd (no-answer step)
    seen-step (Receives frame) RefusedLong step spares seen = absurd (no-answer step)
    seen-step (Receives frame) (AdvancedLong ticket) step spares seen = absurd (no-answer step)
    seen-step (Receives frame) (Protected result out) step spares seen = absurd (no-answer step)

-- ---- an endpoint

-- what was put at a place is there
here_now : (table : List ℕ → ℕ → Option Numbers) (sci : List ℕ) (an : ℕ) (x : Option Numbers)
    → put_numbers table sci an x sci an ≡ x
here_now table sci an x =
    put_rx-here table sci an x

-- numbers that have seen one that is not below this
reached-numbers : (numbers : Numbers) (seen : Option ℕ) (pn : ℕ) → numbers.seen ≡ seen → IsReached seen pn
    → (top : ℕ) × (numbers ≡ record { next = numbers.next; lowest = numbers.lowest; seen = Some top }) × (pn ≤ top)
reached-numbers numbers None pn is reached = absurd reached
reached-numbers numbers (Some top) pn is reached =
    (top, λ i. record { next = numbers.next; lowest = numbers.lowest; seen = is i }, reached)

module _ {D : Type 0} (disk_of : D → Disk) where
  seen-lives : (sci : List ℕ) (an pn : ℕ) (turns : List (Transition D)) (old new : EndpointValue D)
      → Lives disk_of old turns new → RxStays sci an old turns
      → HasSeen ((state_of old no_logs).numbers sci an) pn → HasSeen ((state_of new no_logs).numbers sci an) pn
  seen-lives sci an pn [] old new lives stays seen =
      subst (λ (e : EndpointValue D). HasSeen ((state_of e no_logs).numbers sci an) pn) (sym lives) seen
  seen-lives sci an pn (turn ∷ turns) old new lives stays seen =
      let ended = lives.1.behaves.step no_logs in
      seen-lives sci an pn turns turn.after new lives.2 stays.1
      (seen-step sci an pn (state_of old no_logs) (state_of turn.after ended.0) turn.call turn.reply ended.1
      stays.0.1 seen)

  -- a frame that is held back was seen
  seen-held : (old new : EndpointValue D) (frame out : List ℕ) (a : Arrival)
      → Arrives (rx_side (state_of old no_logs)) frame a
      → IsCall disk_of old (Receives frame) (Received (Ok HeldBack) out) new
      → HasSeen ((state_of new no_logs).numbers a.sci a.an) a.pn
  seen-held old new frame out a arrives call =
      let s = state_of old no_logs in
      let side = rx_side s in
      let ended = call.behaves.step no_logs in
      let t = state_of new ended.0 in
      elim ended.1 [
        | inl stopped ↦ absurd stopped.1
        | inr ran ↦ elim ran.1 [
          | inl settles ↦ absurd (none-first (RxStepHolds side frame) rx_steps settles.0 arrives.unsettled settles.1)
          | inr arrived ↦
              let same : arrived.0 ≡ a = arrives_once side frame arrived.0 a arrived.1 arrives in
              let arriving : ArriveStep s a HeldBack out t =
              subst (λ (x : Arrival). ArriveStep s x HeldBack out t) same arrived.2 in
              elim arriving [
                | inl back ↦
                    let is : t.numbers ≡ put_numbers s.numbers a.sci a.an (Some (numbers_after_hold a.numbers a.pn)) =
                    ap (λ (x : State). x.numbers) back.3 in
                    subst (λ (f : List ℕ → ℕ → Option Numbers). HasSeen (f a.sci a.an) a.pn) (sym is)
                    (subst (λ (n : Option Numbers). HasSeen n a.pn)
                    (sym (here_now s.numbers a.sci a.an (Some (numbers_after_hold a.numbers a.pn))))
                    (reached-now a.numbers.seen a.pn))
                | inr kept ↦ absurd (let differ = kept.0 in cc)
              ]
        ]
      ]

  -- a frame that was held back, and calls after it that leave its association alone
  module _ (old mid late new : EndpointValue D) (turns : List (Transition D)) (frame out : List ℕ) (a : Arrival)
      (kept : IsSoundEndpoint new)
      (arrives : Arrives (rx_side (state_of old no_logs)) frame a)
      (held : IsCall disk_of old (Receives frame) (Received (Ok HeldBack) out) mid)
      (lives : Lives disk_of mid turns late) (stays : RxStays a.sci a.an mid turns) where
    last : a.pn < 2 ^ 32
    last = subst (λ (pn : ℕ). pn < 2 ^ 32) (sym arrives.is_pn) (pn-in-range frame held.behaves.in_range)

    -- after a call that changes no numbers it is still seen
    below_by : ((next lowest top : ℕ)
        → (state_of new no_logs).numbers a.sci a.an ≡ Some (record { next = next; lowest = lowest; seen = Some top })
        → a.pn ≤ top → IsBelow new a.sci a.an a.pn)
        → (numbers : Option Numbers) → (state_of new no_logs).numbers a.sci a.an ≡ numbers → HasSeen numbers a.pn
        → IsBelow new a.sci a.an a.pn
    below_by far None are seen = absurd seen
    below_by far (Some numbers) are seen =
        let reached = reached-numbers numbers numbers.seen a.pn refl seen in
        far numbers.next numbers.lowest reached.0 (are ∙ ap Some reached.1) reached.2

    seen_now : (state_of new no_logs).numbers ≡ (state_of late no_logs).numbers
        → HasSeen ((state_of new no_logs).numbers a.sci a.an) a.pn
    seen_now same =
        subst (λ (f : List ℕ → ℕ → Option Numbers). HasSeen (f a.sci a.an) a.pn) (sym same)
        (seen-lives a.sci a.an a.pn turns mid late lives stays (seen-held old mid frame out a arrives held))

    -- it is below the ceiling once a refill was answered with Ok
    pub below-again : IsCall disk_of late Refills (Refilled (Ok tt)) new → IsBelow new a.sci a.an a.pn
    below-again refill =
        let ended = refill.behaves.step no_logs in
        let same : (state_of new no_logs).numbers ≡ (state_of late no_logs).numbers = elim ended.1 [
          | inl stopped ↦ absurd stopped.1
          | inr ran ↦ ap (λ (x : State). x.numbers) ran.1.1
        ] in
        below_by (λ next lowest top are reached.
        below-refilled disk_of late new a.sci a.an next lowest top a.pn kept refill are last (inl reached))
        ((state_of new no_logs).numbers a.sci a.an) refl (seen_now same)

    -- or a step found nothing to do
    pub below-later : IsCall disk_of late Advances (Advanced (Ok Idle)) new → IsBelow new a.sci a.an a.pn
    below-later step =
        let same = ap (λ (e : EndpointValue D). (state_of e no_logs).numbers) (idle-step disk_of late new step).0 in
        below_by (λ next lowest top are reached.
        below-idle disk_of late new a.sci a.an next lowest top a.pn kept step are last (inl reached))
        ((state_of new no_logs).numbers a.sci a.an) refl (seen_now same)
