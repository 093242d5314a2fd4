-- Records pass in one way only.
use Rattle.std.proofs.Common.{◌≡◌, ◌⊎◌, inl, inr, ◌++◌, ℕ, List, [], ◌∷◌, Option, Some, None, Ok, Err, sym, ap, ◌∙◌}
use Rattle.std.proofs.Common.{subst, append-nil, append_assoc}
use Rattle.macs_pcap.specs.Records.{CaptureRecord}
use Rattle.macs_fields.specs.First.{IsFirst, first}
use Rattle.macs_fields.proofs.FirstRefusal.{first-once, none-first}
use Rattle.macs_txsc.specs.Transmit.{Outgoing, frame_of, next_outgoing, tx_faults}
use Rattle.macs_txsc.specs.declared.fault.TxFault.{TxFault}
use Rattle.macs_txsc.specs.declared.fault.TxFault.TheVariants.{Runt, TooLong, ForeignSource, NoEncodingSa, Exhausted}
use Rattle.macs_txsc.specs.declared.fault.TxFault.TheVariants.{NoNumber}
use Rattle.macs_rxsc.specs.Receive.{Arrival, Arrives, RxStep, RxStepHolds, given_at, rx_steps, verdict_at}
use Rattle.macs_rxsc.specs.declared.verdict.Verdict.{Verdict}
use Rattle.macs_rxsc.specs.declared.verdict.Verdict.TheVariants.{Delivered, Discarded, HeldBack}
use Rattle.macs_rxsc.proofs.Steps.{arrives_once}
use Rattle.macs_endpoint.specs.State.{Advanced, AdvancedLong, Protected, Protects, Ran, Received, Receives, Refilled}
use Rattle.macs_endpoint.specs.State.{RefusedLong, Reply, State, Submitted, rx_side, tx_side}
use Rattle.macs_endpoint.specs.State.{Rested}
use Rattle.macs_endpoint.specs.Step.{Step, state_after_delivery, state_after_frame}
use Rattle.macs_endpoint.specs.declared.fault.ProtectFault.TheVariants as protect
use Rattle.macs_edge.specs.Settling.{Settles, call_on}
use Rattle.macs_edge.specs.CaptureRuns.{Passes, passed_record}
use Rattle.macs_edge.specs.declared.settling.Side.{Side}
use Rattle.macs_edge.specs.declared.settling.Side.TheVariants.{Controlled, Common}

-- ---- plain frames

abbrev Goes : State → List ℕ → Option (List ℕ) → State → Type 0
Goes s plain passed t =
    ((o : Outgoing) × (first (tx_faults (tx_side s) plain) ≡ None) × (next_outgoing (tx_side s) ≡ Some o)
    × (passed ≡ Some (frame_of (tx_side s) o plain)) × (t ≡ state_after_frame s o))
    ⊎ ((f : TxFault) × (first (tx_faults (tx_side s) plain) ≡ Some f) × (passed ≡ None) × (t ≡ s))

left_out : (f : TxFault) (out : List ℕ) (passed : Option (List ℕ)) → Settles (Protected (Err (protect.Tx f)) out) passed
    → (passed ≡ None) × (¬ (f ≡ NoNumber))
left_out Runt out passed settles = (settles, λ is. absurd cc)
left_out TooLong out passed settles = (settles, λ is. absurd cc)
left_out ForeignSource out passed settles = (settles, λ is. absurd cc)
left_out NoEncodingSa out passed settles = (settles, λ is. absurd cc)
left_out Exhausted out passed settles = (settles, λ is. absurd cc)
left_out NoNumber out passed settles = absurd settles

protects : (s t : State) (plain : List ℕ) (reply : Reply) (passed : Option (List ℕ)) → Step s (Protects plain) reply t
    → Settles reply passed → Goes s plain passed t
protects s t plain (Protected (Ok pn) out) passed (inl stopped) settles = absurd stopped.1
protects s t plain (Protected (Ok pn) out) passed (inr (running, (none, (o, is, number, frame, same)))) settles =
    inl (o, none, is, settles ∙ ap Some frame, same)
protects s t plain (Protected (Err protect.Stopped) out) passed step settles = absurd settles
protects s t plain (Protected (Err (protect.Tx f)) out) passed (inl stopped) settles = absurd stopped.1
protects s t plain (Protected (Err (protect.Tx f)) out) passed (inr (running, (inl is, empty, same))) settles =
    inr (f, is, (left_out f out passed settles).0, same)
protects s t plain (Protected (Err (protect.Tx f)) out) passed (inr (running, (inr none, empty, same))) settles =
    absurd ((left_out f out passed settles).1 none.1)
protects s t plain (Received result out) passed (inl stopped) settles = absurd stopped.1
protects s t plain (Received result out) passed (inr ran) settles = absurd ran.1
protects s t plain (Ran result) passed step settles = absurd settles
protects s t plain (Refilled result) passed step settles = absurd settles
protects s t plain (Rested result) passed step settles = absurd settles
protects s t plain (Submitted result) passed step settles = absurd settles
protects s t plain (Advanced result) passed step settles = absurd settles
protects s t plain RefusedLong passed step settles = absurd settles
protects s t plain (AdvancedLong ticket) passed step settles = absurd settles

goes_once : (s : State) (plain : List ℕ) (a b : Option (List ℕ)) (t u : State) → Goes s plain a t → Goes s plain b u
    → (a ≡ b) × (t ≡ u)
goes_once s plain a b t u (inl (o, none, is, x, y)) (inl (p, none', is', x', y')) =
    let same : o ≡ p = cc in (
      x ∙ ap (λ (q : Outgoing). Some (frame_of (tx_side s) q plain)) same ∙ sym x',
      y
          ∙ ap (λ (q : Outgoing). state_after_frame s q) same ∙ sym y',
    )
goes_once s plain a b t u (inl (o, none, is, x, y)) (inr (f, some, x', y')) = absurd cc
goes_once s plain a b t u (inr (f, some, x, y)) (inl (o, none, is, x', y')) = absurd cc
goes_once s plain a b t u (inr (f, some, x, y)) (inr (f', some', x', y')) = (x ∙ sym x', y ∙ sym y')

-- ---- frames from the common side

abbrev passed_by : Verdict → List ℕ → Option (List ℕ)
passed_by (Delivered kind) out = Some out
passed_by (Discarded reason) out = None
passed_by HeldBack out = None

abbrev Comes : State → List ℕ → Option (List ℕ) → State → Type 0
Comes s frame passed t =
    ((step : RxStep) × IsFirst (RxStepHolds (rx_side s) frame) rx_steps step
    × (passed ≡ passed_by (verdict_at (rx_side s) frame step) (given_at frame (verdict_at (rx_side s) frame step)))
    × (t ≡ s))
    ⊎ ((a : Arrival) × Arrives (rx_side s) frame a × (passed ≡ Some a.plain) × (t ≡ state_after_delivery s a))

by_verdict : (v : Verdict) (out : List ℕ) (passed : Option (List ℕ)) → Settles (Received (Ok v) out) passed
    → (passed ≡ passed_by v out) × (¬ (v ≡ HeldBack))
by_verdict (Delivered kind) out passed settles = (settles, λ is. absurd cc)
by_verdict (Discarded reason) out passed settles = (settles, λ is. absurd cc)
by_verdict HeldBack out passed settles = absurd settles

receives : (s t : State) (frame : List ℕ) (reply : Reply) (passed : Option (List ℕ)) → Step s (Receives frame) reply t
    → Settles reply passed → Comes s frame passed t
receives s t frame (Received (Ok v) out) passed (inl stopped) settles = absurd stopped.1
receives s t frame (Received (Ok v) out) passed (inr (running, inl (step, is, verdict, gives, same))) settles =
    inl (
      step,
      is,
      (by_verdict v out passed settles).0 ∙ ap (passed_by v) gives
          ∙ ap (λ (x : Verdict). passed_by x (given_at frame x)) verdict,
      same,
    )
receives s t frame (Received (Ok v) out) passed (inr (running, inr (a, arrives, inl held))) settles =
    absurd ((by_verdict v out passed settles).1 held.0)
receives s t frame (Received (Ok v) out) passed (inr (running, inr (a, arrives, inr (verdict, gives, same)))) settles =
    inr (
      a,
      arrives,
      (by_verdict v out passed settles).0 ∙ ap (λ (x : Verdict). passed_by x out) verdict
          ∙ ap Some gives,
      same,
    )
receives s t frame (Received (Err stopped) out) passed step settles = absurd settles
receives s t frame (Protected result out) passed (inl stopped) settles = absurd stopped.1
receives s t frame (Protected result out) passed (inr ran) settles = absurd ran.1
receives s t frame (Ran result) passed step settles = absurd settles
receives s t frame (Refilled result) passed step settles = absurd settles
receives s t frame (Rested result) passed step settles = absurd settles
receives s t frame (Submitted result) passed step settles = absurd settles
receives s t frame (Advanced result) passed step settles = absurd settles
receives s t frame RefusedLong passed step settles = absurd settles
receives s t frame (AdvancedLong ticket) passed step settles = absurd settles

comes_once : (s : State) (frame : List ℕ) (a b : Option (List ℕ)) (t u : State) → Comes s frame a t → Comes s frame b u
    → (a ≡ b) × (t ≡ u)
comes_once s frame a b t u (inl (step, is, x, y)) (inl (step', is', x', y')) =
    let same = first-once (RxStepHolds (rx_side s) frame) rx_steps step step' is is' in (
      x ∙ ap (λ (k : RxStep). passed_by (verdict_at (rx_side s) frame k)
          (given_at frame (verdict_at (rx_side s) frame k))) same ∙ sym x',
      y ∙ sym y',
    )
comes_once s frame a b t u (inl (step, is, x, y)) (inr (c, arrives, x', y')) =
    absurd (none-first (RxStepHolds (rx_side s) frame) rx_steps step arrives.unsettled is)
comes_once s frame a b t u (inr (c, arrives, x, y)) (inl (step, is, x', y')) =
    absurd (none-first (RxStepHolds (rx_side s) frame) rx_steps step arrives.unsettled is)
comes_once s frame a b t u (inr (c, arrives, x, y)) (inr (d, arrives', x', y')) =
    let same = arrives_once (rx_side s) frame c d arrives arrives' in (
      x ∙ ap (λ (k : Arrival). Some k.plain) same ∙ sym x',
      y
          ∙ ap (λ (k : Arrival). state_after_delivery s k) same ∙ sym y',
    )

-- ---- records

settled_once : (side : Side) (s t u : State) (frame : List ℕ) (r r' : Reply) (a b : Option (List ℕ))
    → Step s (call_on side frame) r t → Settles r a
    → Step s (call_on side frame) r' u → Settles r' b → (a ≡ b) × (t ≡ u)
settled_once Controlled s t u frame r r' a b one x two y =
    goes_once s frame a b t u (protects s t frame r a one x) (protects s u frame r' b two y)
settled_once Common s t u frame r r' a b one x two y =
    comes_once s frame a b t u (receives s t frame r a one x) (receives s u frame r' b two y)

-- what passes of the first records is a front of what passes of all of them
pub passes-front : (side : Side) (old : State) (records more : List CaptureRecord) (p q : List CaptureRecord)
    (m n : State) → Passes side old records p m
    → Passes side old (records ++ more) q n → (rest : List CaptureRecord) × (q ≡ p ++ rest) × Passes side m more rest n
passes-front side old [] more p q m n x y =
    (q, ap (λ (l : List CaptureRecord). l ++ q) (sym x.0), subst (λ (s : State). Passes side s more q n) (sym x.1) y)
passes-front side old (taken ∷ others) more p q m n (reply, a, mid, rest, step, settles, is, later)
    (reply', b, mid', rest', step', settles', is', later') =
    let (same, met) = settled_once side old mid mid' taken.frame reply reply' a b step settles step' settles' in
    let moved = subst (λ (s : State). Passes side s (others ++ more) rest' n) (sym met) later' in
    let (behind, split, passes) = passes-front side mid others more rest rest' m n later moved in (
      behind,
      is' ∙ ap (λ (f : Option (List ℕ)). passed_record taken.stamp f ++ rest') (sym same)
          ∙ ap (λ (l : List CaptureRecord). passed_record taken.stamp a ++ l) split
          ∙ sym (append_assoc (passed_record taken.stamp a) rest behind)
          ∙ ap (λ (l : List CaptureRecord). l ++ behind) (sym is),
      passes,
    )

pub passes-once : (side : Side) (old : State) (records p q : List CaptureRecord) (m n : State)
    → Passes side old records p m → Passes side old records q n
    → (p ≡ q) × (m ≡ n)
passes-once side old records p q m n x y =
    let (rest, split, none) = passes-front side old records [] p q m n x
    (subst (λ (l : List CaptureRecord). Passes side old l q n) (sym (append-nil records)) y) in
    (sym (split ∙ ap (λ (l : List CaptureRecord). p ++ l) none.0 ∙ append-nil p), sym none.1)
