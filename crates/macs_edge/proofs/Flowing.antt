-- What goes each way of a relay, turn by turn.
use Rattle.std.proofs.Common.{◌≡◌, ◌⊎◌, ◌+◌, ◌++◌, ◌∷◌, ◌∙◌, inl, inr, ℕ, zero, suc, List, [], length, Option, None}
use Rattle.std.proofs.Common.{Some, Result, Ok, Err, refl, sym, ap, subst, arith, append_assoc, append-nil}
use Rattle.std.proofs.Common.{length-append}
use Rattle.std.specs.Option.{option_map}
use Rattle.macs_disk.specs.Disk.{Disk}
use Rattle.macs_txsc.specs.declared.fault.TxFault.TheVariants.{Runt, ForeignSource, NoEncodingSa, Exhausted, NoNumber}
use Rattle.macs_txsc.specs.declared.fault.TxFault.TheVariants as tx
use Rattle.macs_rxsc.specs.declared.verdict.Verdict.TheVariants.{Delivered, Discarded, HeldBack}
use Rattle.macs_endpoint.specs.Lives.{Lives, Transition}
use Rattle.macs_endpoint.specs.State.{Advanced, AdvancedLong, Call, Protected, Protects, Ran, Received, Receives}
use Rattle.macs_endpoint.specs.State.{Refilled, RefusedLong, Reply, Submitted, Rested}
use Rattle.macs_endpoint.specs.Step.{IsStopped}
use Rattle.macs_endpoint.specs.Value.{EndpointValue}
use Rattle.macs_endpoint.specs.declared.fault.ProtectFault.TheVariants as protect
use Rattle.macs_endpoint.specs.declared.fault.RefillFault.{RefillFault}
use Rattle.macs_endpoint.specs.declared.fault.StepFault.{StepFault}
use Rattle.macs_endpoint.specs.declared.progress.Step.{Step as Progress}
use Rattle.macs_edge.specs.Flows.{AllBut, Became, Flow, IsFlow, Sent, TakenOff, given, given_at, given_by}
use Rattle.macs_edge.specs.Relaying.{Becomes, Carries, FillsWaiting, Forwards, HandsWaiting, LaneValue, Progresses}
use Rattle.macs_edge.specs.Relaying.{Relay, Relays, TakesTurn, TakesTurns, Way, empty_lane, one_dropped, one_left}
use Rattle.macs_edge.specs.Relaying.{summary_of, way_of}
use Rattle.macs_edge.specs.Settling.{Settles, Waits, call_on}
use Rattle.macs_edge.specs.Wires.{Gives, WireState, saturated}
use Rattle.macs_edge.specs.declared.relaying.Tally.{Tally}
use Rattle.macs_edge.specs.declared.settling.Side.{Side}
use Rattle.macs_edge.specs.declared.settling.Side.TheVariants.{Controlled, Common}
use Rattle.macs_edge.specs.declared.wire.Got.TheVariants.{Nothing, Frame, TooLong}
use Rattle.macs_edge.proofs.LastCalls.{LastCalls, last-calls, last_call, lives-append}

-- ---- numbers

one-more : (a n : ℕ) → a ≡ saturated n → saturated (a + 1) ≡ saturated (n + 1)
one-more a n is = omega (arith, is)

fails-more : (old a b n : ℕ) → saturated a ≡ saturated (old + n) → b ≡ saturated (a + 1)
    → saturated b ≡ saturated (old + (n + 1))
fails-more old a b n is more = omega (arith, is, more)

fails-same : (old a b n : ℕ) → saturated a ≡ saturated (old + n) → b ≡ a → saturated b ≡ saturated (old + n)
fails-same old a b n is same = omega (arith, is, same)

-- ---- lists

all-but-sent : (lost : ℕ) (all frames : List (List ℕ)) (x : List ℕ) → AllBut lost all frames
    → AllBut lost (all ++ x ∷ []) (frames ++ x ∷ [])
all-but-sent lost [] frames x but = inl ([], ap (λ (l : List (List ℕ)). l ++ x ∷ []) but.0, (refl, but.1))
all-but-sent lost (y ∷ ys) frames x (inl (rest, is, but)) =
    inl (rest ++ x ∷ [], ap (λ (l : List (List ℕ)). l ++ x ∷ []) is, all-but-sent lost ys rest x but)
all-but-sent lost (y ∷ ys) frames x (inr (fewer, is, but)) = inr (fewer, is, all-but-sent fewer ys frames x but)

all-but-lost : (lost : ℕ) (all frames : List (List ℕ)) (x : List ℕ) → AllBut lost all frames
    → AllBut (lost + 1) (all ++ x ∷ []) frames
all-but-lost lost [] frames x but = inr (lost, refl, but)
all-but-lost lost (y ∷ ys) frames x (inl (rest, is, but)) = inl (rest, is, all-but-lost lost ys rest x but)
all-but-lost lost (y ∷ ys) frames x (inr (fewer, is, but)) =
    inr (fewer + 1, ap (λ (k : ℕ). k + 1) is, all-but-lost fewer ys frames x but)

taken-one : (before xs ys : List (List ℕ)) (x : List ℕ) (taken : ℕ) → TakenOff (Some before) (Some xs) taken
    → xs ≡ x ∷ ys
    → TakenOff (Some before) (Some ys) (taken + 1)
taken-one before xs ys x taken (frames, is, size) first = (
  frames ++ x ∷ [],
  is ∙ ap (λ (l : List (List ℕ)). frames ++ l) first ∙ sym (append_assoc frames (x ∷ []) ys),
  length-append frames (x ∷ []) ∙ ap (λ (k : ℕ). k + 1) size,
)

taken-frame : (old waiting left : Option (List (List ℕ))) (x : List ℕ) (taken : ℕ) → TakenOff old waiting taken
    → Gives waiting left Frame x
    → TakenOff old left (taken + 1)
taken-frame (Some before) (Some xs) (Some ys) x taken off gives = taken-one before xs ys x taken off gives
taken-frame None None None x taken off gives = tt
taken-frame (Some before) (Some xs) None x taken off gives = absurd gives
taken-frame (Some before) None left x taken off gives = absurd off
taken-frame None (Some xs) left x taken off gives = absurd off
taken-frame None None (Some ys) x taken off gives = absurd gives

taken-long : (old waiting left : Option (List (List ℕ))) (x : List ℕ) (taken : ℕ) → TakenOff old waiting taken
    → Gives waiting left TooLong x
    → TakenOff old left (taken + 1)
taken-long (Some before) (Some xs) (Some ys) x taken off (long, first, size) =
    taken-one before xs ys long taken off first
taken-long None None None x taken off gives = tt
taken-long (Some before) (Some xs) None x taken off gives = absurd gives
taken-long (Some before) None left x taken off gives = absurd off
taken-long None (Some xs) left x taken off gives = absurd off
taken-long None None (Some ys) x taken off gives = absurd gives

taken-none : (old waiting left : Option (List (List ℕ))) (x : List ℕ) (taken : ℕ) → TakenOff old waiting taken
    → Gives waiting left Nothing x
    → TakenOff old left taken
taken-none (Some before) (Some xs) (Some ys) x taken (frames, is, size) gives =
    (frames, is ∙ ap (λ (l : List (List ℕ)). frames ++ l) (gives.0 ∙ sym gives.1), size)
taken-none None None None x taken off gives = tt
taken-none (Some before) (Some xs) None x taken off gives = absurd gives
taken-none (Some before) None left x taken off gives = absurd off
taken-none None (Some xs) left x taken off gives = absurd off
taken-none None None (Some ys) x taken off gives = absurd gives

pub gained-none : {X : Type 0} (old : Option (List X)) → old ≡ option_map (λ before. before ++ []) old
gained-none None = refl
gained-none (Some xs) = ap Some (sym (append-nil xs))

pub gained-more : {X : Type 0} (a b c : Option (List X)) (xs ys : List X) → b ≡ option_map (λ before. before ++ xs) a
    → c ≡ option_map (λ before. before ++ ys) b
    → c ≡ option_map (λ before. before ++ (xs ++ ys)) a
gained-more None b c xs ys one two = two ∙ ap (option_map (λ before. before ++ ys)) one
gained-more (Some zs) b c xs ys one two = two ∙ ap (option_map (λ before. before ++ ys)) one
    ∙ ap Some (append_assoc zs xs ys)

-- ---- answers

given-passed : (reply : Reply) (out : List ℕ) → Settles reply (Some out) → given_by reply ≡ out ∷ []
given-passed (Protected (Ok pn) o) out settles = let same : o ≡ out = cc in ap (λ (x : List ℕ). x ∷ []) same
given-passed (Protected (Err protect.Stopped) o) out settles = absurd settles
given-passed (Protected (Err (protect.Tx Runt)) o) out settles = absurd cc
given-passed (Protected (Err (protect.Tx tx.TooLong)) o) out settles = absurd cc
given-passed (Protected (Err (protect.Tx ForeignSource)) o) out settles = absurd cc
given-passed (Protected (Err (protect.Tx NoEncodingSa)) o) out settles = absurd cc
given-passed (Protected (Err (protect.Tx Exhausted)) o) out settles = absurd cc
given-passed (Protected (Err (protect.Tx NoNumber)) o) out settles = absurd settles
given-passed (Received (Ok (Delivered kind)) o) out settles = let same : o ≡ out = cc in
    ap (λ (x : List ℕ). x ∷ []) same
given-passed (Received (Ok (Discarded reason)) o) out settles = absurd cc
given-passed (Received (Ok HeldBack) o) out settles = absurd settles
given-passed (Received (Err stopped) o) out settles = absurd settles
given-passed (Ran result) out settles = absurd settles
given-passed (Refilled result) out settles = absurd settles
given-passed (Rested result) out settles = absurd settles
given-passed (Submitted result) out settles = absurd settles
given-passed (Advanced result) out settles = absurd settles
given-passed RefusedLong out settles = absurd settles
given-passed (AdvancedLong ticket) out settles = absurd settles

given-dropped : (reply : Reply) → Settles reply None → given_by reply ≡ []
given-dropped (Protected (Ok pn) o) settles = absurd cc
given-dropped (Protected (Err fault) o) settles = refl
given-dropped (Received (Ok (Delivered kind)) o) settles = absurd cc
given-dropped (Received (Ok (Discarded reason)) o) settles = refl
given-dropped (Received (Ok HeldBack) o) settles = refl
given-dropped (Received (Err stopped) o) settles = refl
given-dropped (Ran result) settles = refl
given-dropped (Refilled result) settles = refl
given-dropped (Rested result) settles = refl
given-dropped (Submitted result) settles = refl
given-dropped (Advanced result) settles = refl
given-dropped RefusedLong settles = refl
given-dropped (AdvancedLong ticket) settles = refl

given-waits : (reply : Reply) → Waits reply → given_by reply ≡ []
given-waits (Protected (Ok pn) o) waits = absurd waits
given-waits (Protected (Err fault) o) waits = refl
given-waits (Received (Ok (Delivered kind)) o) waits = absurd waits
given-waits (Received (Ok (Discarded reason)) o) waits = refl
given-waits (Received (Ok HeldBack) o) waits = refl
given-waits (Received (Err stopped) o) waits = refl
given-waits (Ran result) waits = refl
given-waits (Refilled result) waits = refl
given-waits (Rested result) waits = refl
given-waits (Submitted result) waits = refl
given-waits (Advanced result) waits = refl
given-waits RefusedLong waits = refl
given-waits (AdvancedLong ticket) waits = refl

given-stopped : (side : Side) (frame : List ℕ) (reply : Reply) → IsStopped (call_on side frame) reply
    → given_by reply ≡ []
given-stopped Controlled frame (Protected (Ok pn) o) stopped = absurd stopped
given-stopped Controlled frame (Protected (Err fault) o) stopped = refl
given-stopped Controlled frame (Received result o) stopped = absurd stopped
given-stopped Controlled frame (Ran result) stopped = refl
given-stopped Controlled frame (Refilled result) stopped = refl
given-stopped Controlled frame (Rested result) stopped = refl
given-stopped Controlled frame (Submitted result) stopped = refl
given-stopped Controlled frame (Advanced result) stopped = refl
given-stopped Controlled frame RefusedLong stopped = refl
given-stopped Controlled frame (AdvancedLong ticket) stopped = refl
given-stopped Common frame (Received (Ok verdict) o) stopped = absurd stopped
given-stopped Common frame (Received (Err s) o) stopped = refl
given-stopped Common frame (Protected result o) stopped = absurd stopped
given-stopped Common frame (Ran result) stopped = refl
given-stopped Common frame (Refilled result) stopped = refl
given-stopped Common frame (Rested result) stopped = refl
given-stopped Common frame (Submitted result) stopped = refl
given-stopped Common frame (Advanced result) stopped = refl
given-stopped Common frame RefusedLong stopped = refl
given-stopped Common frame (AdvancedLong ticket) stopped = refl

abbrev other : Side → Side
other Controlled = Common
other Common = Controlled

module _ {D : Type 0} where
  pub given-append : (side : Side) (turns more : List (Transition D))
      → given side (turns ++ more) ≡ given side turns ++ given side more
  given-append side [] more = refl
  given-append side (turn ∷ turns) more =
      ap (λ (l : List (List ℕ)). given_at side turn ++ l) (given-append side turns more)
      ∙ sym (append_assoc (given_at side turn) (given side turns) (given side more))

  -- one call that hands in a frame on a side gives there what its answer gives, and nothing on the other side
  given-here : (side : Side) (frame : List ℕ) (reply : Reply) (after : EndpointValue D) (all : List (List ℕ))
      → given_by reply ≡ all
      → given side (record { call = call_on side frame; reply = reply; after = after } ∷ []) ≡ all
  given-here Controlled frame reply after all is = append-nil (given_by reply) ∙ is
  given-here Common frame reply after all is = append-nil (given_by reply) ∙ is

  given-there : (side : Side) (frame : List ℕ) (reply : Reply) (after : EndpointValue D)
      → given (other side) (record { call = call_on side frame; reply = reply; after = after } ∷ []) ≡ []
  given-there Controlled frame reply after = refl
  given-there Common frame reply after = refl

-- ---- one way

-- nothing that counts changed
flow-aside : (from from1 from2 to to1 to2 : WireState) (all all2 : List (List ℕ)) (lane lane2 : LaneValue)
    → Flow from from1 to to1 all lane
    → from2.waiting ≡ from1.waiting → from2.failed_receives ≡ from1.failed_receives → to2.sent ≡ to1.sent
    → to2.failed_sends ≡ to1.failed_sends
    → all2 ≡ all → lane2 ≡ lane → Flow from from2 to to2 all2 lane2
flow-aside from from1 from2 to to1 to2 all all2 lane lane2 flow waiting receives sent sends same_all same = record {
  taken = flow.taken;
  missed = flow.missed;
  frames = flow.frames;
  lost = flow.lost;
  left_out = flow.left_out;
  took = record {
    frames = subst (λ (w : Option (List (List ℕ))). TakenOff from.waiting w flow.taken) (sym waiting) flow.took.frames;
    failed = fails-same from.failed_receives from1.failed_receives from2.failed_receives flow.missed
        flow.took.failed receives;
  };
  sent = record {
    gained = sent ∙ flow.sent.gained;
    all_but = subst (λ (l : List (List ℕ)). AllBut flow.lost l flow.frames) (sym same_all) flow.sent.all_but;
    failed = fails-same to.failed_sends to1.failed_sends to2.failed_sends flow.lost flow.sent.failed sends;
  };
  became = subst (λ (l : LaneValue). Became flow.taken flow.missed (length flow.frames) flow.lost flow.left_out l)
      (sym same) flow.became;
}

-- an empty lane is filled
flow-fills : (from from1 from2 to to1 : WireState) (all : List (List ℕ)) (lane lane2 : LaneValue)
    (waiting : Option (List ℕ)) → lane.waiting ≡ waiting
    → Flow from from1 to to1 all lane → FillsWaiting waiting from1 lane from2 lane2 → Flow from from2 to to1 all lane2
flow-fills from from1 from2 to to1 all lane lane2 (Some frame) is flow (same_from, same) =
    flow-aside from from1 from2 to to1 to1 all all lane lane2 flow (ap (λ (w : WireState). w.waiting) same_from)
    (ap (λ (w : WireState). w.failed_receives) same_from) refl refl refl same
flow-fills from from1 from2 to to1 all lane lane2 None is flow (Ok Frame, frame, gives, same) =
    let became : Became flow.taken flow.missed (length flow.frames) flow.lost flow.left_out lane = flow.became in
    let balance : flow.taken ≡ length flow.frames + flow.lost + flow.left_out + 0 = became.all
    ∙ ap (λ (s : Option (List ℕ)). length flow.frames + flow.lost + flow.left_out + one_left s) is in
    subst (λ (l : LaneValue). Flow from from2 to to1 all l) (sym same) (record {
      taken = flow.taken + 1;
      missed = flow.missed;
      frames = flow.frames;
      lost = flow.lost;
      left_out = flow.left_out;
      took = record {
        frames = taken-frame from.waiting from1.waiting from2.waiting frame flow.taken flow.took.frames gives.0;
        failed = fails-same from.failed_receives from1.failed_receives from2.failed_receives flow.missed
            flow.took.failed gives.3;
      };
      sent = flow.sent;
      became = record {
        all = omega (arith, balance);
        passed = became.passed;
        dropped = became.dropped;
        faults = became.faults;
      };
    })
flow-fills from from1 from2 to to1 all lane lane2 None is flow (Ok Nothing, frame, gives, same) =
    record {
      taken = flow.taken;
      missed = flow.missed;
      frames = flow.frames;
      lost = flow.lost;
      left_out = flow.left_out;
      took = record {
        frames = taken-none from.waiting from1.waiting from2.waiting frame flow.taken flow.took.frames gives.0;
        failed = fails-same from.failed_receives from1.failed_receives from2.failed_receives flow.missed
            flow.took.failed gives.3;
      };
      sent = flow.sent;
      became = subst (λ (l : LaneValue). Became flow.taken flow.missed (length flow.frames) flow.lost flow.left_out l)
          (sym same) flow.became;
    }
flow-fills from from1 from2 to to1 all lane lane2 None is flow (Ok TooLong, frame, gives, same) =
    let became : Became flow.taken flow.missed (length flow.frames) flow.lost flow.left_out lane = flow.became in
    let balance : flow.taken ≡ length flow.frames + flow.lost + flow.left_out + one_left lane.waiting = became.all in
    subst (λ (l : LaneValue). Flow from from2 to to1 all l) (sym same) (record {
      taken = flow.taken + 1;
      missed = flow.missed;
      frames = flow.frames;
      lost = flow.lost;
      left_out = flow.left_out + 1;
      took = record {
        frames = taken-long from.waiting from1.waiting from2.waiting frame flow.taken flow.took.frames gives.0;
        failed = fails-same from.failed_receives from1.failed_receives from2.failed_receives flow.missed
            flow.took.failed gives.3;
      };
      sent = flow.sent;
      became = record {
        all = omega (arith, balance);
        passed = became.passed;
        dropped = one-more lane.tally.dropped flow.left_out became.dropped;
        faults = became.faults;
      };
    })
flow-fills from from1 from2 to to1 all lane lane2 None is flow (Err fault, frame, gives, same) =
    let became : Became flow.taken flow.missed (length flow.frames) flow.lost flow.left_out lane = flow.became in
    let faults : saturated (lane.tally.faults + 1) ≡ saturated (flow.missed + 1 + flow.lost) =
    omega (arith, became.faults) in
    subst (λ (l : LaneValue). Flow from from2 to to1 all l) (sym same) (record {
      taken = flow.taken;
      missed = flow.missed + 1;
      frames = flow.frames;
      lost = flow.lost;
      left_out = flow.left_out;
      took = record {
        frames =
            subst (λ (w : Option (List (List ℕ))). TakenOff from.waiting w flow.taken) (sym gives.2) flow.took.frames;
        failed = fails-more from.failed_receives from1.failed_receives from2.failed_receives flow.missed
            flow.took.failed gives.4;
      };
      sent = flow.sent;
      became = record {
        all = became.all;
        passed = became.passed;
        dropped = became.dropped;
        faults = faults;
      };
    })

-- a wire is asked for frames: what it sent stays
fills-sent : (waiting : Option (List ℕ)) (from : WireState) (lane : LaneValue) (from2 : WireState) (lane2 : LaneValue)
    → FillsWaiting waiting from lane from2 lane2
    → (from2.sent ≡ from.sent) × (from2.failed_sends ≡ from.failed_sends)
fills-sent (Some frame) from lane from2 lane2 fills =
    (ap (λ (w : WireState). w.sent) fills.0, ap (λ (w : WireState). w.failed_sends) fills.0)
fills-sent None from lane from2 lane2 (Ok got, frame, gives, same) = (gives.2, gives.4)
fills-sent None from lane from2 lane2 (Err fault, frame, gives, same) = (gives.3, gives.5)

-- a frame passes: it is sent, or lost
flow-forwards : (from from1 to to1 to2 : WireState) (all : List (List ℕ)) (lane lane2 : LaneValue)
    (frame passed : List ℕ) → lane.waiting ≡ Some frame
    → Flow from from1 to to1 all lane → lane2.waiting ≡ None → Forwards to1 passed lane.tally to2 lane2.tally
    → Flow from from1 to to2 (all ++ passed ∷ []) lane2
flow-forwards from from1 to to1 to2 all lane lane2 frame passed is flow none (Ok done, sends, same) =
    let balance : flow.taken ≡ length flow.frames + flow.lost + flow.left_out + 1 = flow.became.all
    ∙ ap (λ (s : Option (List ℕ)). length flow.frames + flow.lost + flow.left_out + one_left s) is in
    let longer : length (flow.frames ++ passed ∷ []) ≡ length flow.frames + 1 =
    length-append flow.frames (passed ∷ []) in
    let left : one_left lane2.waiting ≡ 0 = ap one_left none in
    let was : lane.tally.passed ≡ saturated (length flow.frames) = flow.became.passed in
    let now : lane2.tally.passed ≡ saturated (lane.tally.passed + 1) = ap (λ (t : Tally). t.passed) same in
    record {
      taken = flow.taken;
      missed = flow.missed;
      frames = flow.frames ++ passed ∷ [];
      lost = flow.lost;
      left_out = flow.left_out;
      took = flow.took;
      sent = record {
        gained = gained-more to.sent to1.sent to2.sent flow.frames (passed ∷ []) flow.sent.gained sends.1;
        all_but = all-but-sent flow.lost all flow.frames passed flow.sent.all_but;
        failed = fails-same to.failed_sends to1.failed_sends to2.failed_sends flow.lost flow.sent.failed sends.3;
      };
      became = record {
        all = omega (arith, balance, longer, left);
        passed = omega (arith, was, now, longer);
        dropped = ap (λ (t : Tally). t.dropped) same ∙ flow.became.dropped;
        faults = ap (λ (t : Tally). t.faults) same ∙ flow.became.faults;
      };
    }
flow-forwards from from1 to to1 to2 all lane lane2 frame passed is flow none (Err fault, sends, same) =
    let balance : flow.taken ≡ length flow.frames + flow.lost + flow.left_out + 1 = flow.became.all
    ∙ ap (λ (s : Option (List ℕ)). length flow.frames + flow.lost + flow.left_out + one_left s) is in
    let left : one_left lane2.waiting ≡ 0 = ap one_left none in
    let was : lane.tally.faults ≡ saturated (flow.missed + flow.lost) = flow.became.faults in
    let now : lane2.tally.faults ≡ saturated (lane.tally.faults + 1) = ap (λ (t : Tally). t.faults) same in
    record {
      taken = flow.taken;
      missed = flow.missed;
      frames = flow.frames;
      lost = flow.lost + 1;
      left_out = flow.left_out;
      took = flow.took;
      sent = record {
        gained = sends.2 ∙ flow.sent.gained;
        all_but = all-but-lost flow.lost all flow.frames passed flow.sent.all_but;
        failed = fails-more to.failed_sends to1.failed_sends to2.failed_sends flow.lost flow.sent.failed sends.4;
      };
      became = record {
        all = omega (arith, balance, left);
        passed = ap (λ (t : Tally). t.passed) same ∙ flow.became.passed;
        dropped = ap (λ (t : Tally). t.dropped) same ∙ flow.became.dropped;
        faults = omega (arith, was, now);
      };
    }

-- a frame is left out
flow-drops : (from from1 to to1 to2 : WireState) (all : List (List ℕ)) (lane lane2 : LaneValue) (frame : List ℕ)
    → lane.waiting ≡ Some frame
    → Flow from from1 to to1 all lane → lane2.waiting ≡ None → lane2.tally ≡ one_dropped lane.tally → to2 ≡ to1
    → Flow from from1 to to2 all lane2
flow-drops from from1 to to1 to2 all lane lane2 frame is flow none same same_to =
    let balance : flow.taken ≡ length flow.frames + flow.lost + flow.left_out + 1 = flow.became.all
    ∙ ap (λ (s : Option (List ℕ)). length flow.frames + flow.lost + flow.left_out + one_left s) is in
    let left : one_left lane2.waiting ≡ 0 = ap one_left none in
    record {
      taken = flow.taken;
      missed = flow.missed;
      frames = flow.frames;
      lost = flow.lost;
      left_out = flow.left_out + 1;
      took = flow.took;
      sent = subst (λ (w : WireState). Sent to w all flow.frames flow.lost) (sym same_to) flow.sent;
      became = record {
        all = omega (arith, balance, left);
        passed = ap (λ (t : Tally). t.passed) same ∙ flow.became.passed;
        dropped = ap (λ (t : Tally). t.dropped) same ∙ one-more lane.tally.dropped flow.left_out flow.became.dropped;
        faults = ap (λ (t : Tally). t.faults) same ∙ flow.became.faults;
      };
    }

-- ---- one way in one turn

-- a call hands a frame in
abbrev pub IsFrame : Call → Type 0
IsFrame (Protects frame) = Unit {0}
IsFrame (Receives frame) = Unit {0}
IsFrame call = ⊥

-- all of these calls do
abbrev pub AreFrames : {D : Type 0} → List (Transition D) → Type 0
AreFrames [] = Unit {0}
AreFrames (turn ∷ turns) = IsFrame turn.call × AreFrames turns

frames-append : {D : Type 0} (turns more : List (Transition D)) → AreFrames turns → AreFrames more
    → AreFrames (turns ++ more)
frames-append [] more first second = second
frames-append (turn ∷ turns) more first second = (first.0, frames-append turns more first.1 second)

is-frame : (side : Side) (frame : List ℕ) → IsFrame (call_on side frame)
is-frame Controlled frame = tt
is-frame Common frame = tt

-- the calls that are made, what goes this way, and that nothing changes the other way
record Moves {D : Type 0} (disk_of : D → Disk) (side : Side) (old new : Way D) : Type 0 where
  calls : List (Transition D)
  frames : AreFrames calls
  lives : Lives disk_of old.endpoint calls new.endpoint
  here : (from to : WireState) (all : List (List ℕ)) → Flow from old.from to old.to all old.lane
      → Flow from new.from to new.to (all ++ given side calls) new.lane
  there : given (other side) calls ≡ []
  from_sent : new.from.sent ≡ old.from.sent
  from_sends : new.from.failed_sends ≡ old.from.failed_sends
  to_waiting : new.to.waiting ≡ old.to.waiting
  to_receives : new.to.failed_receives ≡ old.to.failed_receives

forwards-waiting : (to to2 : WireState) (frame : List ℕ) (tally tally2 : Tally) → Forwards to frame tally to2 tally2
    → (to2.waiting ≡ to.waiting) × (to2.failed_receives ≡ to.failed_receives)
forwards-waiting to to2 frame tally tally2 (Ok done, sends, same) = (sends.0, sends.2)
forwards-waiting to to2 frame tally tally2 (Err fault, sends, same) = (sends.1, sends.3)

becomes-waiting : {D : Type 0} (side : Side) (frame : List ℕ) (reply : Reply) (old new : Way D)
    → Becomes side frame reply old new
    → (new.to.waiting ≡ old.to.waiting) × (new.to.failed_receives ≡ old.to.failed_receives)
becomes-waiting side frame reply old new (inl (passed, settles, none, sends)) =
    forwards-waiting old.to new.to passed old.lane.tally new.lane.tally sends
becomes-waiting side frame reply old new (inr (inl (settles, none, same, to))) =
    (ap (λ (w : WireState). w.waiting) to, ap (λ (w : WireState). w.failed_receives) to)
becomes-waiting side frame reply old new (inr (inr (stays, same, to))) =
    (ap (λ (w : WireState). w.waiting) to, ap (λ (w : WireState). w.failed_receives) to)

given-stays : (side : Side) (frame : List ℕ) (reply : Reply) → Waits reply ⊎ IsStopped (call_on side frame) reply
    → given_by reply ≡ []
given-stays side frame reply (inl waits) = given-waits reply waits
given-stays side frame reply (inr stopped) = given-stopped side frame reply stopped

-- the frame of a full lane is handed in
flow-becomes : {D : Type 0} (side : Side) (frame : List ℕ) (reply : Reply) (old new : Way D)
    → old.lane.waiting ≡ Some frame → Becomes side frame reply old new
    → new.from ≡ old.from → (from to : WireState) (all more : List (List ℕ)) → more ≡ given_by reply
    → Flow from old.from to old.to all old.lane
    → Flow from new.from to new.to (all ++ more) new.lane
flow-becomes side frame reply old new is (inl (passed, settles, none, sends)) same_from from to all more gives flow =
    subst (λ (l : List (List ℕ)). Flow from new.from to new.to (all ++ l) new.lane)
    (sym (gives ∙ given-passed reply passed settles))
    (subst (λ (w : WireState). Flow from w to new.to (all ++ passed ∷ []) new.lane) (sym same_from)
    (flow-forwards from old.from to old.to new.to all old.lane new.lane frame passed is flow none sends))
flow-becomes side frame reply old new is (inr (inl (settles, none, same, same_to))) same_from from to all more
    gives flow =
    subst (λ (l : List (List ℕ)). Flow from new.from to new.to l new.lane)
    (sym (ap (λ (l : List (List ℕ)). all ++ l) (gives ∙ given-dropped reply settles) ∙ append-nil all))
    (subst (λ (w : WireState). Flow from w to new.to all new.lane) (sym same_from)
    (flow-drops from old.from to old.to new.to all old.lane new.lane frame is flow none same same_to))
flow-becomes side frame reply old new is (inr (inr (stays, same, same_to))) same_from from to all more gives flow =
    flow-aside from old.from new.from to old.to new.to all (all ++ more) old.lane new.lane flow
    (ap (λ (w : WireState). w.waiting) same_from) (ap (λ (w : WireState). w.failed_receives) same_from)
    (ap (λ (w : WireState). w.sent) same_to) (ap (λ (w : WireState). w.failed_sends) same_to)
    (ap (λ (l : List (List ℕ)). all ++ l) (gives ∙ given-stays side frame reply stays) ∙ append-nil all) same

module _ {D : Type 0} (disk_of : D → Disk) (side : Side) where
  hands-moves : (waiting : Option (List ℕ)) (old new : Way D) → old.lane.waiting ≡ waiting
      → HandsWaiting disk_of side waiting old new → Moves disk_of side old new
  hands-moves None old new is same = record {
    calls = [];
    frames = tt;
    lives = ap (λ (w : Way D). w.endpoint) same;
    here = λ from to all flow. subst (λ (w : Way D). Flow from w.from to w.to (all ++ []) w.lane) (sym same)
        (subst (λ (l : List (List ℕ)). Flow from old.from to old.to l old.lane) (sym (append-nil all)) flow);
    there = refl;
    from_sent = ap (λ (w : Way D). w.from.sent) same;
    from_sends = ap (λ (w : Way D). w.from.failed_sends) same;
    to_waiting = ap (λ (w : Way D). w.to.waiting) same;
    to_receives = ap (λ (w : Way D). w.to.failed_receives) same;
  }
  hands-moves (Some frame) old new is (reply, sound, call, same_from, becomes) = record {
    calls = record { call = call_on side frame; reply = reply; after = new.endpoint } ∷ [];
    frames = (is-frame side frame, tt);
    lives = (sound, call, refl);
    here = λ from to all flow. flow-becomes side frame reply old new is becomes same_from from to all _
        (given-here side frame reply new.endpoint (given_by reply) refl) flow;
    there = given-there side frame reply new.endpoint;
    from_sent = ap (λ (w : WireState). w.sent) same_from;
    from_sends = ap (λ (w : WireState). w.failed_sends) same_from;
    to_waiting = (becomes-waiting side frame reply old new becomes).0;
    to_receives = (becomes-waiting side frame reply old new becomes).1;
  }

  carries-moves : (old new : Way D) → Carries disk_of side old new → Moves disk_of side old new
  carries-moves old new (from, lane, fills, hands) =
      let moves = hands-moves lane.waiting (way_of old.endpoint from old.to lane) new refl hands in
      let sent = fills-sent old.lane.waiting old.from old.lane from lane fills in
      record {
        calls = moves.calls;
        frames = moves.frames;
        lives = moves.lives;
        here = λ from0 to0 all flow. moves.here from0 to0 all
            (flow-fills from0 old.from from to0 old.to all old.lane lane old.lane.waiting refl flow fills);
        there = moves.there;
        from_sent = moves.from_sent ∙ sent.0;
        from_sends = moves.from_sends ∙ sent.1;
        to_waiting = moves.to_waiting;
        to_receives = moves.to_receives;
      }

-- ---- both ways

-- the calls of a relay so far, and what went each way
pub record Goes {D : Type 0} (disk_of : D → Disk) (old new : Relay D) : Type 0 where
  pub calls : List (Transition D)
  pub lives : Lives disk_of old.endpoint calls new.endpoint
  pub out : Flow old.controlled new.controlled old.common new.common (given Controlled calls) new.to_common
  pub back : Flow old.common new.common old.controlled new.controlled (given Common calls) new.to_controlled

-- the same after one turn more: these calls hand frames in, and the disk work follows them
pub record GoesOn {D : Type 0} (disk_of : D → Disk) (old between : Relay D) (before : List (Transition D))
    (answer : Result (Option Progress) StepFault)
    (new : Relay D) : Type 0 where
  pub goes : Goes disk_of old new
  pub frames : List (Transition D)
  pub late : EndpointValue D
  pub lives : Lives disk_of between.endpoint frames late
  pub are_frames : AreFrames frames
  pub progresses : Progresses disk_of late answer new.endpoint
  pub last : LastCalls disk_of late answer new.endpoint
  pub calls : goes.calls ≡ (before ++ frames) ++ last.calls

pub flow-begins : (from to : WireState) (lane : LaneValue) → lane ≡ empty_lane → Flow from from to to [] lane
flow-begins from to lane is = subst (λ (l : LaneValue). Flow from from to to [] l) (sym is) (record {
  taken = 0;
  missed = 0;
  frames = [];
  lost = 0;
  left_out = 0;
  took = record {
    frames = off from.waiting;
    failed =
        fails-same from.failed_receives from.failed_receives from.failed_receives 0 (omega arith) refl;
  };
  sent = record {
    gained = gained-none to.sent;
    all_but = (refl, refl);
    failed =
        fails-same to.failed_sends to.failed_sends to.failed_sends 0 (omega arith) refl;
  };
  became = record { all = refl; passed = refl; dropped = refl; faults = refl };
}) where
  off : (waiting : Option (List (List ℕ))) → TakenOff waiting waiting 0
  off None = tt
  off (Some frames) = ([], refl, refl)

module _ {D : Type 0} (disk_of : D → Disk) where
  given-behind : (side : Side) (a b c d : List (Transition D))
      → ((given side a ++ given side b) ++ given side c) ++ given side d ≡ given side (((a ++ b) ++ c) ++ d)
  given-behind side a b c d =
      ap (λ (l : List (List ℕ)). (l ++ given side c) ++ given side d) (sym (given-append side a b))
      ∙ ap (λ (l : List (List ℕ)). l ++ given side d) (sym (given-append side (a ++ b) c))
      ∙ sym (given-append side ((a ++ b) ++ c) d)

  none-behind : (side : Side) (all : List (List ℕ)) (calls : List (Transition D)) → given side calls ≡ []
      → all ++ given side calls ≡ all
  none-behind side all calls none = ap (λ (l : List (List ℕ)). all ++ l) none ∙ append-nil all

  given-one : (side : Side) (answer : Result (Option Progress) StepFault) (new : EndpointValue D)
      → given side (last_call answer new ∷ []) ≡ []
  given-one Controlled answer new = refl
  given-one Common answer new = refl

  -- the disk work gives no frame
  given-last : (side : Side) (late new : EndpointValue D) (answer : Result (Option Progress) StepFault)
      (last : LastCalls disk_of late answer new) → given side last.calls ≡ []
  given-last side late new answer last =
      elim last.are [
        | inl one ↦ ap (given side) one.0 ∙ given-one side answer new
        | inr none ↦ ap (given side) none.0
      ]

  pub turn-goes : (answer : Result (Option Progress) StepFault) (old between new : Relay D) (goes : Goes disk_of old between)
      → TakesTurn disk_of answer between new
      → GoesOn disk_of old between goes.calls answer new
  turn-goes answer old between new goes (late, (endpoint, controlled, common, carries_out, carries_back), sound, step) =
      let one =
      carries-moves disk_of Controlled (way_of between.endpoint between.controlled between.common between.to_common)
      (way_of endpoint controlled common new.to_common) carries_out in
      let two = carries-moves disk_of Common (way_of endpoint common controlled between.to_controlled)
      (way_of late new.common new.controlled new.to_controlled) carries_back in
      let last = last-calls disk_of late new.endpoint sound answer step in
      let lives_one =
      lives-append disk_of old.endpoint between.endpoint endpoint goes.calls one.calls goes.lives one.lives in
      let lives_two =
      lives-append disk_of old.endpoint endpoint late (goes.calls ++ one.calls) two.calls lives_one two.lives in
      let out_one = one.here old.controlled old.common (given Controlled goes.calls) goes.out in
      let out_all = flow-aside old.controlled controlled new.controlled old.common common new.common
      (given Controlled goes.calls ++ given Controlled one.calls)
      (((given Controlled goes.calls ++ given Controlled one.calls) ++ given Controlled two.calls)
      ++ given Controlled last.calls)
      new.to_common new.to_common out_one two.to_waiting two.to_receives two.from_sent two.from_sends
      (none-behind Controlled
      ((given Controlled goes.calls ++ given Controlled one.calls) ++ given Controlled two.calls) last.calls
      (given-last Controlled late new.endpoint answer last)
      ∙ none-behind Controlled (given Controlled goes.calls ++ given Controlled one.calls) two.calls two.there) refl in
      let back_one = flow-aside old.common between.common common old.controlled between.controlled controlled
      (given Common goes.calls) (given Common goes.calls ++ given Common one.calls)
      between.to_controlled between.to_controlled goes.back one.to_waiting one.to_receives one.from_sent one.from_sends
      (none-behind Common (given Common goes.calls) one.calls one.there) refl in
      let back_two = two.here old.common old.controlled (given Common goes.calls ++ given Common one.calls) back_one in
      let back_all = flow-aside old.common new.common new.common old.controlled new.controlled new.controlled
      ((given Common goes.calls ++ given Common one.calls) ++ given Common two.calls)
      (((given Common goes.calls ++ given Common one.calls) ++ given Common two.calls) ++ given Common last.calls)
      new.to_controlled new.to_controlled back_two refl refl refl refl
      (none-behind Common ((given Common goes.calls ++ given Common one.calls) ++ given Common two.calls) last.calls
      (given-last Common late new.endpoint answer last)) refl in
      record {
        goes = record {
          calls = ((goes.calls ++ one.calls) ++ two.calls) ++ last.calls;
          lives = lives-append disk_of old.endpoint late new.endpoint ((goes.calls ++ one.calls) ++ two.calls)
              last.calls lives_two last.lives;
          out = subst (λ (l : List (List ℕ)). Flow old.controlled new.controlled old.common new.common l new.to_common)
              (given-behind Controlled goes.calls one.calls two.calls last.calls) out_all;
          back = subst
              (λ (l : List (List ℕ)). Flow old.common new.common old.controlled new.controlled l new.to_controlled)
              (given-behind Common goes.calls one.calls two.calls last.calls) back_all;
        };
        frames = one.calls ++ two.calls;
        late = late;
        lives = lives-append disk_of between.endpoint endpoint late one.calls two.calls one.lives two.lives;
        are_frames = frames-append one.calls two.calls one.frames two.frames;
        progresses = step;
        last = last;
        calls = ap (λ (l : List (Transition D)). l ++ last.calls) (append_assoc goes.calls one.calls two.calls);
      }

  turns-go : (turns : ℕ) (old new : Relay D) → old.to_common ≡ empty_lane → old.to_controlled ≡ empty_lane
      → TakesTurns disk_of turns old new → Goes disk_of old new
  turns-go zero old new out back is = subst (λ (r : Relay D). Goes disk_of old r) (sym is) (record {
    calls = [];
    lives = refl;
    out = flow-begins old.controlled old.common old.to_common out;
    back = flow-begins old.common old.controlled old.to_controlled back;
  })
  turns-go (suc turns) old new out back (between, progress, before, last) =
      (turn-goes (Ok progress) old between new (turns-go turns old between out back before) last).goes

  relay-goes : {T : Type 0} (turns : ℕ) (old new : Relay D) (result : Result T RefillFault) → old.to_common ≡ empty_lane
      → old.to_controlled ≡ empty_lane
      → Relays disk_of turns old result new → Goes disk_of old new
  relay-goes turns old new (Ok summary) out back took = turns-go turns old new out back took
  relay-goes turns old new (Err fault) out back (done, between, at, named, few, before, last) =
      (turn-goes (Err at) old between new (turns-go done old between out back before) last).goes

  -- what is counted is what went, with the same calls
  pub goes-flows : (old new : Relay D) (goes : Goes disk_of old new)
      → (flow : IsFlow disk_of old new (summary_of new.to_common new.to_controlled)) × (flow.calls ≡ goes.calls)
  goes-flows old new goes =
      let one = goes.out in
      let two = goes.back in
      let all_one : one.taken ≡ length one.frames + one.lost + one.left_out + one_left new.to_common.waiting =
      one.became.all in
      let all_two : two.taken ≡ length two.frames + two.lost + two.left_out + one_left new.to_controlled.waiting =
      two.became.all in
      let faults_one : new.to_common.tally.faults ≡ saturated (one.missed + one.lost) = one.became.faults in
      let faults_two : new.to_controlled.tally.faults ≡ saturated (two.missed + two.lost) = two.became.faults in
      let dropped_one : new.to_common.tally.dropped ≡ saturated one.left_out = one.became.dropped in
      let dropped_two : new.to_controlled.tally.dropped ≡ saturated two.left_out = two.became.dropped in (
        record {
          calls = goes.calls;
          lives = goes.lives;
          out = one;
          back = two;
          sent = one.became.passed;
          delivered = two.became.passed;
          faults = omega (arith, faults_one, faults_two);
          others = one.left_out + two.left_out + one_left new.to_common.waiting + one_left new.to_controlled.waiting;
          dropped = omega (arith, dropped_one, dropped_two);
          all = omega (arith, all_one, all_two);
        },
        refl,
      )

  pub relay-flows : {T : Type 0} (turns : ℕ) (old new : Relay D) (result : Result T RefillFault)
      → old.to_common ≡ empty_lane → old.to_controlled ≡ empty_lane
      → Relays disk_of turns old result new → IsFlow disk_of old new (summary_of new.to_common new.to_controlled)
  relay-flows turns old new result out back took =
      (goes-flows old new (relay-goes turns old new result out back took)).0
