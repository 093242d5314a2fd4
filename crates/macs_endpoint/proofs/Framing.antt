-- Frames protected and received: from what the channels answer to what the endpoint does.
use Rattle.std.proofs.Common.{◌≡◌, ◌≤◌, ◌<◌, ◌+◌, ◌==◌, ◌||◌, ◌^◌, ◌↔◌, ◌⊎◌, inl, inr, ℕ, Bool, true, false, cond, List}
use Rattle.std.proofs.Common.{All, [], ◌∷◌, ◌++◌, Option, Some, None, Result, Ok, Err, refl, sym, ◌∙◌, ap, subst, arith}
use Rattle.std.specs.Prelude.{IfOk, IsSomeAnd, OnErr, OnOk, max}
use Rattle.std.specs.Option.{option_map, option_map_or}
use Rattle.std.proofs.lemmas.Bool.Decides.{nat_tests}
use Rattle.macs_fields.specs.First.{first}
use Rattle.macs_frame.specs.Tag.{changed, control, tag_of}
use Rattle.macs_frame.specs.declared.tag.TagFault.TheVariants as tag
use Rattle.macs_config.specs.Tables.{put}
use Rattle.macs_config.specs.declared.association.TxSa.{TxSa}
use Rattle.macs_config.proofs.Tables.{put_all, put_at_all}
use Rattle.macs_disk.specs.Disk.{Disk}
use Rattle.macs_txsc.specs.Transmit.{Outgoing, TxSide, all_tx_faults, frame_of, is_at_ceiling, outgoing_with}
use Rattle.macs_txsc.specs.Transmit.{next_outgoing, next_tag, outgoing_at, side_after, side_after_frame}
use Rattle.macs_txsc.specs.Transmit.{counters_after_answer}
use Rattle.macs_txsc.specs.Transmit.{tx_faults}
use Rattle.macs_txsc.specs.Value as txsc
use Rattle.macs_txsc.specs.declared.channel.Tx.{Tx}
use Rattle.macs_txsc.specs.declared.fault.TxFault.{TxFault}
use Rattle.macs_txsc.specs.declared.fault.TxFault.TheVariants.{Runt, TooLong, ForeignSource, NoEncodingSa, Exhausted}
use Rattle.macs_txsc.specs.declared.fault.TxFault.TheVariants.{NoNumber}
use Rattle.macs_rxsc.specs.Counting.{counters_after_verdict, counters_after_verdict_at}
use Rattle.macs_rxsc.specs.Receive.{Arrival, Arrives, Numbers, Outcome, RxSide, RxStep, Tag, NoChannel, NoAssociation}
use Rattle.macs_rxsc.specs.Receive.{BelowLowest, NotVerified, numbers_after_delivery, arrival_outcome, channel_of}
use Rattle.macs_rxsc.specs.Receive.{given_at, numbers_after_hold, is_below, is_strict, delivery_kind, put_numbers}
use Rattle.macs_rxsc.specs.Receive.{seen_after, verdict_at}
use Rattle.macs_rxsc.specs.Receive as rx
use Rattle.macs_rxsc.specs.Value.{association_in, channel_at}
use Rattle.macs_rxsc.specs.Value as rxsc
use Rattle.macs_rxsc.proofs.Needs.{unnumbered, unowned}
use Rattle.macs_rxsc.specs.declared.verdict.Kind.{Kind}
use Rattle.macs_rxsc.specs.declared.verdict.Kind.TheVariants.{Untagged, UnknownSci, UnusedSa, Invalid}
use Rattle.macs_rxsc.specs.declared.verdict.Reason.{Reason}
use Rattle.macs_rxsc.specs.declared.verdict.Reason.TheVariants.{NoTag, NoSci, NotUsingSa, NotValid}
use Rattle.macs_rxsc.specs.declared.verdict.Verdict.{Verdict}
use Rattle.macs_rxsc.specs.declared.verdict.Verdict.TheVariants.{Delivered, Discarded, HeldBack}
use Rattle.macs_store.specs.Value.{standing_in}
use Rattle.macs_endpoint.specs.Calls.{IsCall}
use Rattle.macs_endpoint.specs.Counting.{tx_counters_after}
use Rattle.macs_endpoint.specs.Value.{EndpointValue, IsRxWithin, IsSoundEndpoint, IsTxWithin, is_stopped, state_of}
use Rattle.macs_endpoint.specs.Limits.{IsLimited}
use Rattle.macs_endpoint.specs.Restart.{rx_limit}
use Rattle.macs_endpoint.specs.State.{Logs, Protects, Protected, Received, State, no_logs, rx_side, tx_side_with}
use Rattle.macs_endpoint.specs.State.{tx_side}
use Rattle.macs_endpoint.specs.State as state
use Rattle.macs_endpoint.specs.Step as life
use Rattle.macs_endpoint.specs.declared.fault.ProtectFault.{ProtectFault}
use Rattle.macs_endpoint.specs.declared.fault.ProtectFault.TheVariants.{Stopped, Tx as OfTx}
use Rattle.macs_endpoint.specs.declared.fault.Stopped.{Stopped as StoppedFault}
use Rattle.macs_endpoint.proofs.Alone.{alone-call}
use Rattle.macs_endpoint.proofs.Carrying.{NextRises, SeenRises, rx-carried, tx-carried}
use Rattle.macs_endpoint.proofs.Fitting.{kept-ahead}
use Rattle.macs_endpoint.proofs.Working.{kept-backed}

-- ---- a few words on options and tests

none_of : {X : Type 0} (o : Option X) → ((x : X) → ¬ (o ≡ Some x)) → o ≡ None
none_of None none = refl
none_of (Some x) none = absurd (none x refl)

some_of : {X Y : Type 0} (f : X → Y) (o : Option X) (y : Y) → option_map f o ≡ Some y
    → (x : X) × (o ≡ Some x) × (f x ≡ y)
some_of f None y is = absurd cc
some_of f (Some x) y is = (x, refl, cc)

mapped : {X Y : Type 0} (f : X → Y) (o : Option X) (x : X) (y : Y) → o ≡ Some x → option_map f o ≡ Some y → y ≡ f x
mapped f None x y is has = absurd cc
mapped f (Some z) x y is has =
    let same : z ≡ x = cc in
    let here : f z ≡ y = cc in
    sym here ∙ ap f same

by_test : {X : Type 0} (P : X → Type 0) (b : Bool) (x y : X) → (b ≡ true → P x) → (b ≡ false → P y) → P (cond b x y)
by_test P true x y this other = this refl
by_test P false x y this other = other refl

-- what comes first of tests with one more after them
first_join : {X : Type 0} (rows : List (X × Bool)) (x : X) (b : Bool) (y : X) → first (rows ++ (x, b) ∷ []) ≡ Some y
    → (first rows ≡ Some y) ⊎ ((first rows ≡ None) × (y ≡ x) × (b ≡ true))
first_join [] x true y is = inr (refl, cc, refl)
first_join [] x false y is = absurd cc
first_join ((z, true) ∷ rows) x b y is = inl is
first_join ((z, false) ∷ rows) x b y is = first_join rows x b y is

first_none : {X : Type 0} (rows : List (X × Bool)) (x : X) (b : Bool) → first (rows ++ (x, b) ∷ []) ≡ None
    → (first rows ≡ None) × (b ≡ false)
first_none [] x true is = absurd cc
first_none [] x false is = (refl, refl)
first_none ((z, true) ∷ rows) x b is = absurd cc
first_none ((z, false) ∷ rows) x b is = first_none rows x b is

-- ---- a frame that is protected, or not

-- what a transmit channel answers
pub record Sends (side later : TxSide) (ceilings : ℕ → Option ℕ) (plain : List ℕ) (result : Result ℕ TxFault)
    (out : List ℕ) : Type 0 where
  pub fault : (fault : TxFault) → (result ≡ Err fault) ↔ (first (all_tx_faults side ceilings plain) ≡ Some fault)
  pub number : IfOk result (λ pn. option_map (λ (o : Outgoing). o.pn) (next_outgoing side) ≡ Some pn)
  pub frame : OnOk result (option_map (λ (o : Outgoing). frame_of side o plain) (next_outgoing side) ≡ Some out)
  pub sent : OnOk result (later ≡ side_after_frame side)
  pub same : OnErr result (later ≡ side)
  pub empty : OnErr result (out ≡ [])

-- a frame goes out
record Goes (side later : TxSide) (ceilings : ℕ → Option ℕ) (plain : List ℕ) (pn : ℕ) (out : List ℕ) : Type 0 where
  pub o : Outgoing
  pub none : first (tx_faults side plain) ≡ None
  pub below : is_at_ceiling ceilings (Some o) ≡ false
  pub is : next_outgoing side ≡ Some o
  pub next_is : side.next o.an ≡ Some o.pn
  pub number : pn ≡ o.pn
  pub frame : out ≡ frame_of side o plain
  pub sent : later ≡ record side { next = put side.next o.an (Some (o.pn + 1)) }

numbered_next : (next : ℕ → Option ℕ) (an : ℕ) (sa : Option TxSa) (pn : Option ℕ) (o : Outgoing) → next an ≡ pn
    → outgoing_with an sa pn ≡ Some o
    → next o.an ≡ Some o.pn
numbered_next next an (Some sa) (Some pn) o at is =
    let same : ◌≡◌ {A = Outgoing} (record { an = an; sa = sa; pn = pn }) o = cc in
    subst (λ (o : Outgoing). next o.an ≡ Some o.pn) same at
numbered_next next an (Some sa) None o at is = absurd cc
numbered_next next an None (Some pn) o at is = absurd cc
numbered_next next an None None o at is = absurd cc

pub outgoing_next : (side : TxSide) (encoding : Option ℕ) (o : Outgoing) → outgoing_at side encoding ≡ Some o
    → side.next o.an ≡ Some o.pn
outgoing_next side None o is = absurd cc
outgoing_next side (Some an) o is = numbered_next side.next an (side.tx an) (side.next an) o refl is

goes : (side later : TxSide) (ceilings : ℕ → Option ℕ) (plain : List ℕ) (pn : ℕ) (out : List ℕ)
    → Sends side later ceilings plain (Ok pn) out
    → Goes side later ceilings plain pn out
goes side later ceilings plain pn out sends =
    let unfaulted : first (all_tx_faults side ceilings plain) ≡ None =
    none_of (first (all_tx_faults side ceilings plain)) (λ fault is. let wrong = (sends.fault fault).1 is in
    absurd cc) in
    let parts = first_none (tx_faults side plain) NoNumber (is_at_ceiling ceilings (next_outgoing side)) unfaulted in
    let found = some_of (λ (o : Outgoing). o.pn) (next_outgoing side) pn sends.number in
    record {
      o = found.0;
      none = parts.0;
      below = subst (λ (o : Option Outgoing). is_at_ceiling ceilings o ≡ false) found.1 parts.1;
      is = found.1;
      next_is = outgoing_next side side.encoding found.0 found.1;
      number = sym found.2;
      frame = mapped (λ (o : Outgoing). frame_of side o plain) (next_outgoing side) found.0 out found.1 sends.frame;
      sent = sends.sent ∙ ap (side_after side) found.1;
    }

-- the next number goes on below the ceiling
sent_within : (block pn : ℕ) (ceiling : Option ℕ) → IsTxWithin block (Some pn) ceiling
    → option_map_or (λ ceiling. ceiling == pn) ceiling false ≡ false
    → IsTxWithin block (Some (pn + 1)) ceiling
sent_within block pn None within below = within
sent_within block pn (Some ceiling) within below =
    let order : pn ≤ ceiling = within.1 in
    let above : pn < ceiling = grind (arith, nat_tests) in
    (omega arith, omega (arith, above), omega (arith, within.2), within.3)

put_within : (block : ℕ) (next ceilings : ℕ → Option ℕ) (at pn : ℕ)
    → ((an : ℕ) → IsTxWithin block (next an) (ceilings an)) → next at ≡ Some pn
    → option_map_or (λ ceiling. ceiling == pn) (ceilings at) false ≡ false
    → (an : ℕ) → IsTxWithin block (put next at (Some (pn + 1)) an) (ceilings an)
put_within block next ceilings at pn within is below an =
    let here : IsTxWithin block (Some pn) (ceilings at) =
    subst (λ (n : Option ℕ). IsTxWithin block n (ceilings at)) is (within at) in
    put_all (λ (n : Option ℕ). IsTxWithin block n (ceilings an)) next at (Some (pn + 1)) an
    (λ same. subst (λ (k : ℕ). IsTxWithin block (Some (pn + 1)) (ceilings k)) (sym same)
    (sent_within block pn (ceilings at) here below))
    (λ differ. within an)

-- the answer of the channel is that of the endpoint
abbrev pub answered : Result ℕ TxFault → Result ℕ ProtectFault
answered (Ok pn) = Ok pn
answered (Err fault) = Err (OfTx fault)

sent_step : (s : State) (later : TxSide) (ceilings : ℕ → Option ℕ) (plain : List ℕ) (pn : ℕ) (out : List ℕ)
    → s.stopped ≡ false
    → Goes (tx_side s) later ceilings plain pn out
    → (after : Logs)
    × life.Step s (Protects plain) (Protected (Ok pn) out) (record s { next = later.next; logs = after })
sent_step s later ceilings plain pn out running g =
    let after : Logs = record s.logs { used = record { key = g.o.sa.key; pn = g.o.pn } ∷ s.logs.used } in
    let next : later.next ≡ put s.next g.o.an (Some (g.o.pn + 1)) = ap (λ (side : TxSide). side.next) g.sent in (
      after,
      inr (
        running,
        (g.none, (g.o, g.is, g.number, g.frame, ap (λ (n : ℕ → Option ℕ). record s { next = n; logs = after }) next)),
      ),
    )

refused_step : (s : State) (later : TxSide) (ceilings : ℕ → Option ℕ) (plain : List ℕ) (fault : TxFault) (out : List ℕ)
    → s.stopped ≡ false
    → Sends (tx_side s) later ceilings plain (Err fault) out
    → life.Step s (Protects plain) (Protected (Err (OfTx fault)) out) (record s { next = later.next })
refused_step s later ceilings plain fault out running sends =
    let next : later.next ≡ s.next = ap (λ (side : TxSide). side.next) sends.same in
    let same : record s { next = later.next } ≡ s = ap (λ (n : ℕ → Option ℕ). record s { next = n }) next in
    let found = first_join (tx_faults (tx_side s) plain) NoNumber (is_at_ceiling ceilings (next_outgoing (tx_side s)))
    fault ((sends.fault fault).0 refl) in
    inr (
      running,
      (
        elim found [
          | inl is ↦ inl is
          | inr is ↦ inr (is.0, is.1)
        ],
        sends.empty,
        same,
      ),
    )

protect_step : (s : State) (later : TxSide) (ceilings : ℕ → Option ℕ) (plain : List ℕ) (result : Result ℕ TxFault)
    (out : List ℕ) → s.stopped ≡ false
    → Sends (tx_side s) later ceilings plain result out
    → (after : Logs)
    × life.Step s (Protects plain) (Protected (answered result) out) (record s { next = later.next; logs = after })
protect_step s later ceilings plain (Ok pn) out running sends =
    sent_step s later ceilings plain pn out running (goes (tx_side s) later ceilings plain pn out sends)
protect_step s later ceilings plain (Err fault) out running sends =
    (s.logs, refused_step s later ceilings plain fault out running sends)

-- NoNumber is none of the faults that come before it
pub five_others : (a b c d e : Bool) → ¬
    (first ((Runt, a) ∷ (TooLong, b) ∷ (ForeignSource, c) ∷ (NoEncodingSa, d) ∷ (Exhausted, e) ∷ []) ≡ Some NoNumber)
five_others true b c d e is = absurd cc
five_others false true c d e is = absurd cc
five_others false false true d e is = absurd cc
five_others false false false true e is = absurd cc
five_others false false false false true is = absurd cc
five_others false false false false false is = absurd cc

-- where no fault holds, not every number is used
pub not_exhausted : (a b c d e : Bool)
    → first ((Runt, a) ∷ (TooLong, b) ∷ (ForeignSource, c) ∷ (NoEncodingSa, d) ∷ (Exhausted, e) ∷ []) ≡ None → e ≡ false
not_exhausted true b c d e is = absurd cc
not_exhausted false true c d e is = absurd cc
not_exhausted false false true d e is = absurd cc
not_exhausted false false false true e is = absurd cc
not_exhausted false false false false true is = absurd cc
not_exhausted false false false false false is = refl

at_ceiling : (side later : TxSide) (ceilings : ℕ → Option ℕ) (plain : List ℕ) (out : List ℕ)
    → Sends side later ceilings plain (Err NoNumber) out
    → is_at_ceiling ceilings (next_outgoing side) ≡ true
at_ceiling side later ceilings plain out sends =
    elim (first_join (tx_faults side plain) NoNumber (is_at_ceiling ceilings (next_outgoing side)) NoNumber
    ((sends.fault NoNumber).0 refl)) [
      | inl is ↦ absurd (five_others _ _ _ _ _ is)
      | inr is ↦ is.2
    ]

-- next numbers do not fall
next_stays : (next : Option ℕ) → NextRises next next
next_stays None = tt
next_stays (Some next) = omega arith

next_above : (pn : ℕ) → NextRises (Some pn) (Some (pn + 1))
next_above pn = omega arith

next_rises : (next : ℕ → Option ℕ) (at pn : ℕ) → next at ≡ Some pn → (an : ℕ)
    → NextRises (next an) (put next at (Some (pn + 1)) an)
next_rises next at pn is an =
    put_all (λ (n : Option ℕ). NextRises (next an) n) next at (Some (pn + 1)) an
    (λ same. subst (λ (n : Option ℕ). NextRises n (Some (pn + 1))) (sym (ap next same ∙ is)) (next_above pn))
    (λ differ. next_stays (next an))

-- an endpoint with another transmit channel
abbrev pub with_tx : {D : Type 0} → EndpointValue D → Tx → EndpointValue D
with_tx e tx = record e { tx = tx }

protect_limited : {D : Type 0} (old : EndpointValue D) (tx : Tx) (plain : List ℕ) (later : TxSide)
    (result : Result ℕ TxFault) (out : List ℕ)
    → Sends (tx_side (state_of old no_logs)) later (standing_in old.store).ceilings.tx plain result out
    → IsLimited old (Protects plain) (Protected (answered result) out) (with_tx old tx)
protect_limited old tx plain later (Ok pn) out sends = tt
protect_limited old tx plain later (Err NoNumber) out sends =
    at_ceiling (tx_side (state_of old no_logs)) later (standing_in old.store).ceilings.tx plain out sends
protect_limited old tx plain later (Err Runt) out sends = tt
protect_limited old tx plain later (Err TooLong) out sends = tt
protect_limited old tx plain later (Err ForeignSource) out sends = tt
protect_limited old tx plain later (Err NoEncodingSa) out sends = tt
protect_limited old tx plain later (Err Exhausted) out sends = tt

module _ {D : Type 0} (old : EndpointValue D) (tx : Tx) (plain : List ℕ) (result : Result ℕ TxFault) (out : List ℕ)
    (kept : IsSoundEndpoint old)
    (sends : Sends (txsc.tx_side_of old.tx) (txsc.tx_side_of tx) (txsc.ceilings_of old.tx) plain result out)
    (ceilings : txsc.ceilings_of tx ≡ txsc.ceilings_of old.tx) where
  -- the same, in words of the standing
  standing_sends : Sends (tx_side (state_of old no_logs)) (txsc.tx_side_of tx) (standing_in old.store).ceilings.tx
      plain result out
  standing_sends =
      subst (λ (side : TxSide). Sends side (txsc.tx_side_of tx) (standing_in old.store).ceilings.tx plain result out)
      kept.channels.tx_is
      (subst (λ (c : ℕ → Option ℕ). Sends (txsc.tx_side_of old.tx) (txsc.tx_side_of tx) c plain result out)
      kept.channels.tx_ceilings sends)

  -- numbers alone change, and stay below their ceilings
  kept_with : (next : ℕ → Option ℕ) → txsc.tx_side_of tx ≡ record (tx_side (state_of old no_logs)) { next = next }
      → ((an : ℕ)
      → IsTxWithin (standing_in old.store).identity.tx_block (next an) ((standing_in old.store).ceilings.tx an))
      → ((an : ℕ) → NextRises ((txsc.tx_side_of old.tx).next an) (next an)) → IsSoundEndpoint (with_tx old tx)
  kept_with next is within rises =
      let s = standing_in old.store in
      let same : txsc.ceilings_of tx ≡ s.ceilings.tx = ceilings ∙ kept.channels.tx_ceilings in
      record {
        identity = kept.identity;
        channels = record {
          tx_is = subst (λ (side : TxSide). side ≡ tx_side_with s.identity s.config side.next) (sym is) refl;
          rx_is = kept.channels.rx_is;
          tx_ceilings = same;
          rx_ceilings = kept.channels.rx_ceilings;
        };
        within = record {
          tx_within = λ an.
              subst (λ (side : TxSide). IsTxWithin s.identity.tx_block (side.next an) (txsc.ceilings_of tx an)) (sym is)
              (subst (λ (c : ℕ → Option ℕ). IsTxWithin s.identity.tx_block (next an) (c an)) (sym same) (within an));
          rx_within = kept.within.rx_within;
          few = kept.within.few;
        };
        few = kept.few;
        tickets = kept.tickets;
        work = tx-carried old tx ceilings
            (λ an. subst (λ (side : TxSide). NextRises ((txsc.tx_side_of old.tx).next an) (side.next an)) (sym is)
            (rises an)) kept.work;
      }

kept_sent : {D : Type 0} (old : EndpointValue D) (tx : Tx) (plain : List ℕ) (result : Result ℕ TxFault) (out : List ℕ)
    (kept : IsSoundEndpoint old)
    (sends : Sends (txsc.tx_side_of old.tx) (txsc.tx_side_of tx) (txsc.ceilings_of old.tx) plain result out)
    (ceilings : txsc.ceilings_of tx ≡ txsc.ceilings_of old.tx)
    → Sends (tx_side (state_of old no_logs)) (txsc.tx_side_of tx) (standing_in old.store).ceilings.tx plain result out
    → IsSoundEndpoint (with_tx old tx)
kept_sent old tx plain (Ok pn) out kept sends ceilings standing =
    let side = tx_side (state_of old no_logs) in
    let s = standing_in old.store in
    let g = goes side (txsc.tx_side_of tx) s.ceilings.tx plain pn out standing in
    kept_with old tx plain (Ok pn) out kept sends ceilings (put side.next g.o.an (Some (g.o.pn + 1))) g.sent
    (put_within s.identity.tx_block side.next s.ceilings.tx g.o.an g.o.pn (kept-ahead old kept).tx_ahead
    g.next_is g.below)
    (next_rises side.next g.o.an g.o.pn g.next_is)
kept_sent old tx plain (Err fault) out kept sends ceilings standing =
    kept_with old tx plain (Err fault) out kept sends ceilings (txsc.tx_side_of old.tx).next standing.same
    (kept-ahead old kept).tx_ahead
    (λ an. next_stays ((txsc.tx_side_of old.tx).next an))

module _ {D : Type 0} (disk_of : D → Disk) (old : EndpointValue D) (tx : Tx) (plain : List ℕ)
    (result : Result ℕ TxFault) (out : List ℕ) (kept : IsSoundEndpoint old)
    (sends : Sends (txsc.tx_side_of old.tx) (txsc.tx_side_of tx) (txsc.ceilings_of old.tx) plain result out)
    (ceilings : txsc.ceilings_of tx ≡ txsc.ceilings_of old.tx) where
  pub protected-kept : IsSoundEndpoint (with_tx old tx)
  protected-kept =
      kept_sent old tx plain result out kept sends ceilings (standing_sends old tx plain result out kept sends ceilings)

  counted_after : (result : Result ℕ TxFault)
      → txsc.counters_of tx
      ≡ counters_after_answer (next_tag (txsc.tx_side_of old.tx)) plain result (txsc.counters_of old.tx)
      → txsc.counters_of tx
      ≡ tx_counters_after (state_of old no_logs) (Protects plain) (Protected (answered result) out)
      (txsc.counters_of old.tx)
  counted_after (Ok pn) is =
      is ∙ ap (λ (x : TxSide). counters_after_answer (next_tag x) plain (Ok pn) (txsc.counters_of old.tx))
      kept.channels.tx_is
  counted_after (Err fault) is =
      is ∙ ap (λ (x : TxSide). counters_after_answer (next_tag x) plain (Err fault) (txsc.counters_of old.tx))
      kept.channels.tx_is

  pub protected-call : All (λ octet. octet < 2 ^ 8) plain → is_stopped old ≡ false
      → txsc.counters_of tx
      ≡ counters_after_answer (next_tag (txsc.tx_side_of old.tx)) plain result (txsc.counters_of old.tx)
      → IsCall disk_of old (Protects plain) (Protected (answered result) out) (with_tx old tx)
  protected-call octets running counters =
      let standing = standing_sends old tx plain result out kept sends ceilings in
      alone-call disk_of old (with_tx old tx) (Protects plain) (Protected (answered result) out) refl
      (λ backed. kept-backed (with_tx old tx) protected-kept disk_of backed.size (backed.stored running)) (record {
        in_range = octets;
        step = λ logs. protect_step (state_of old logs) (txsc.tx_side_of tx) (standing_in old.store).ceilings.tx plain
            result out running standing;
        ceilings = refl;
        limited = protect_limited old tx plain (txsc.tx_side_of tx) result out standing;
        still = refl;
        ends_work = tt;
        advances = tt;
        turn = refl;
        tx_counters = counted_after result counters;
        rx_counters = refl;
        channel_counters = refl;
      })

-- an endpoint that is stopped
pub protect-stopped : {D : Type 0} (disk_of : D → Disk) (old : EndpointValue D) (plain out : List ℕ)
    → All (λ octet. octet < 2 ^ 8) plain
    → is_stopped old ≡ true → out ≡ []
    → IsCall disk_of old (Protects plain) (Protected (Err Stopped) out) old
protect-stopped disk_of old plain out octets stopped empty =
    alone-call disk_of old old (Protects plain) (Protected (Err Stopped) out) refl (λ backed. backed) (record {
      in_range = octets;
      step = λ logs. (logs, inl (stopped, empty, refl));
      ceilings = refl;
      limited = tt;
      still = refl;
      ends_work = tt;
      advances = tt;
      turn = refl;
      tx_counters = refl;
      rx_counters = refl;
      channel_counters = refl;
    })

-- ---- a frame that is received

-- what becomes of numbers below a ceiling, and at it
abbrev delivered : RxSide → Arrival → Outcome
delivered side a = record {
  verdict = Delivered (delivery_kind a.numbers a.pn);
  given = a.plain;
  numbers = put_numbers side.numbers a.sci a.an (Some (numbers_after_delivery side.replay.window a.numbers a.pn));
}

abbrev kept_back : RxSide → Arrival → Outcome
kept_back side a = record {
  verdict = HeldBack;
  given = [];
  numbers = put_numbers side.numbers a.sci a.an (Some (numbers_after_hold a.numbers a.pn));
}

-- what holds of both holds of an arrival
arrived_by : (P : Outcome → Type 0) (side : RxSide) (ceilings : List ℕ → ℕ → Option ℕ) (a : Arrival)
    → (is_below (ceilings a.sci a.an) a.pn ≡ true → P (delivered side a))
    → (is_below (ceilings a.sci a.an) a.pn ≡ false → P (kept_back side a))
    → P (arrival_outcome side ceilings a)
arrived_by P side ceilings a below above =
    by_test P (is_below (ceilings a.sci a.an) a.pn) (delivered side a) (kept_back side a) below above

limit_rises : (block next later pn ceiling : ℕ) (seen : Option ℕ) → next ≤ later → ceiling ≤ rx_limit block next seen
    → ceiling ≤ rx_limit block later (seen_after seen pn)
limit_rises block next later pn ceiling None order within = omega arith
limit_rises block next later pn ceiling (Some seen) order within = omega arith

advanced_within : (block window : ℕ) (numbers : Numbers) (pn : ℕ) (ceiling : Option ℕ)
    → IsRxWithin block (Some numbers) ceiling
    → is_below ceiling pn ≡ true → IsRxWithin block (Some (numbers_after_delivery window numbers pn)) ceiling
advanced_within block window numbers pn None within below = within
advanced_within block window numbers pn (Some ceiling) within below =
    let above : pn < ceiling = grind (arith, nat_tests) in
    let order : numbers.next ≤ ceiling = within.0 in (
      omega arith,
      limit_rises block numbers.next (max numbers.next (pn + 1)) pn ceiling numbers.seen (omega arith) within.1,
    )

held_within : (block : ℕ) (numbers : Numbers) (pn : ℕ) (ceiling : Option ℕ) → IsRxWithin block (Some numbers) ceiling
    → IsRxWithin block (Some (numbers_after_hold numbers pn)) ceiling
held_within block numbers pn None within = within
held_within block numbers pn (Some ceiling) within =
    (within.0, limit_rises block numbers.next numbers.next pn ceiling numbers.seen (omega arith) within.1)

-- a number that is not below the ceiling is not below the next one
held_above : (block : ℕ) (numbers : Numbers) (pn : ℕ) (ceiling : Option ℕ) → IsRxWithin block (Some numbers) ceiling
    → is_below ceiling pn ≡ false → numbers.next ≤ pn
held_above block numbers pn None within above = absurd within
held_above block numbers pn (Some ceiling) within above =
    let over : ceiling ≤ pn = grind (arith, nat_tests) in
    omega (arith, over, within.0)

module _ (block : ℕ) (side : RxSide) (ceilings : List ℕ → ℕ → Option ℕ)
    (all : (sci : List ℕ) (an : ℕ) → IsRxWithin block (side.numbers sci an) (ceilings sci an)) where
  -- numbers with one place changed
  put_one : (at : List ℕ) (number : ℕ) (n : Numbers) → IsRxWithin block (Some n) (ceilings at number)
      → (sci : List ℕ) (an : ℕ)
      → IsRxWithin block (put_numbers side.numbers at number (Some n) sci an) (ceilings sci an)
  put_one at number n here sci an =
      put_at_all (λ (f : ℕ → Option Numbers). IsRxWithin block (f an) (ceilings sci an)) side.numbers
      at (put (side.numbers at) number (Some n)) sci
      (λ same.
      subst (λ (s : List ℕ). IsRxWithin block (put (side.numbers at) number (Some n) an) (ceilings s an)) (sym same)
      (put_all (λ (x : Option Numbers). IsRxWithin block x (ceilings at an)) (side.numbers at) number (Some n) an
      (λ is. subst (λ (k : ℕ). IsRxWithin block (Some n) (ceilings at k)) (sym is) here) (λ differ. all at an)))
      (λ differ. all sci an)

  -- those of a frame that arrives
  here_within : (frame : List ℕ) (a : Arrival) → Arrives side frame a
      → IsRxWithin block (Some a.numbers) (ceilings a.sci a.an)
  here_within frame a arrives =
      subst (λ (n : Option Numbers). IsRxWithin block n (ceilings a.sci a.an)) arrives.are_numbers (all a.sci a.an)

  -- numbers stay below their ceilings
  received_within : (frame : List ℕ) (outcome : Outcome) → rx.IsOutcome side ceilings frame outcome
      → (sci : List ℕ) (an : ℕ) → IsRxWithin block (outcome.numbers sci an) (ceilings sci an)
  received_within frame outcome receives sci an = elim receives [
    | inl settles ↦ subst (λ (o : Outcome). IsRxWithin block (o.numbers sci an) (ceilings sci an)) (sym settles.2)
        (all sci an)
    | inr arrives ↦
        let P = λ (o : Outcome). IsRxWithin block (o.numbers sci an) (ceilings sci an) in
        let a = arrives.0 in
        let here = here_within frame a arrives.1 in
        subst P (sym arrives.2) (arrived_by P side ceilings a
        (λ below. put_one a.sci a.an (numbers_after_delivery side.replay.window a.numbers a.pn)
        (advanced_within block side.replay.window a.numbers a.pn (ceilings a.sci a.an) here below) sci an)
        (λ above. put_one a.sci a.an (numbers_after_hold a.numbers a.pn)
        (held_within block a.numbers a.pn (ceilings a.sci a.an) here) sci an))
  ]

-- what was seen stays so
later_seen : (seen : Option ℕ) (pn n : ℕ) → IsSomeAnd seen (λ (s : ℕ). n ≤ s)
    → IsSomeAnd (seen_after seen pn) (λ (s : ℕ). n ≤ s)
later_seen None pn n is = absurd is
later_seen (Some seen) pn n is = omega (arith, is)

seen_stays : (numbers : Option Numbers) → SeenRises numbers numbers
seen_stays None = tt
seen_stays (Some numbers) = λ pn is. is

module _ (side : RxSide) (ceilings : List ℕ → ℕ → Option ℕ) where
  put_rises : (at : List ℕ) (number : ℕ) (old new : Numbers) → side.numbers at number ≡ Some old
      → SeenRises (Some old) (Some new)
      → (sci : List ℕ) (an : ℕ) → SeenRises (side.numbers sci an) (put_numbers side.numbers at number (Some new) sci an)
  put_rises at number old new is rises sci an =
      put_at_all (λ (f : ℕ → Option Numbers). SeenRises (side.numbers sci an) (f an)) side.numbers
      at (put (side.numbers at) number (Some new)) sci
      (λ same.
      subst (λ (s : List ℕ). SeenRises (side.numbers s an) (put (side.numbers at) number (Some new) an)) (sym same)
      (put_all (λ (x : Option Numbers). SeenRises (side.numbers at an) x) (side.numbers at) number (Some new) an
      (λ same_an. subst (λ (k : ℕ). SeenRises (side.numbers at k) (Some new)) (sym same_an)
      (subst (λ (x : Option Numbers). SeenRises x (Some new)) (sym is) rises))
      (λ differ. seen_stays (side.numbers at an))))
      (λ differ. seen_stays (side.numbers sci an))

  received_rises : (frame : List ℕ) (outcome : Outcome) → rx.IsOutcome side ceilings frame outcome
      → (sci : List ℕ) (an : ℕ) → SeenRises (side.numbers sci an) (outcome.numbers sci an)
  received_rises frame outcome receives sci an = elim receives [
    | inl settles ↦ subst (λ (o : Outcome). SeenRises (side.numbers sci an) (o.numbers sci an)) (sym settles.2)
        (seen_stays (side.numbers sci an))
    | inr arrives ↦
        let P = λ (o : Outcome). SeenRises (side.numbers sci an) (o.numbers sci an) in
        let a = arrives.0 in
        subst P (sym arrives.2) (arrived_by P side ceilings a
        (λ below. put_rises a.sci a.an a.numbers (numbers_after_delivery side.replay.window a.numbers a.pn)
        arrives.1.are_numbers
        (λ n is. later_seen a.numbers.seen a.pn n is) sci an)
        (λ above. put_rises a.sci a.an a.numbers (numbers_after_hold a.numbers a.pn) arrives.1.are_numbers
        (λ n is. later_seen a.numbers.seen a.pn n is) sci an))
  ]

-- the endpoint receives what its channels do
receive_step : (s : State) (ceilings : List ℕ → ℕ → Option ℕ) (frame : List ℕ) (outcome : Outcome) → s.stopped ≡ false
    → ((sci : List ℕ) (an : ℕ) → IsRxWithin s.identity.rx_block (s.numbers sci an) (ceilings sci an))
    → rx.IsOutcome (rx_side s) ceilings frame outcome
    → (after : Logs) × life.Step s (state.Receives frame) (Received (Ok outcome.verdict) outcome.given)
    (record s { numbers = outcome.numbers; logs = after })
receive_step s ceilings frame outcome running all receives = elim receives [
  | inl settles ↦
      let verdict = ap (λ (o : Outcome). o.verdict) settles.2 in
      let given = ap (λ (o : Outcome). o.given) settles.2 in
      let same : record s { numbers = outcome.numbers } ≡ s =
      ap (λ (o : Outcome). record s { numbers = o.numbers }) settles.2 in
      (s.logs, inr (running, inl (settles.0, settles.1, verdict, given ∙ ap (given_at frame) (sym verdict), same)))
  | inr arrives ↦
      let P = λ (o : Outcome). (after : Logs)
      × life.Step s (state.Receives frame) (Received (Ok o.verdict) o.given)
      (record s { numbers = o.numbers; logs = after }) in
      let a = arrives.0 in
      let here = here_within s.identity.rx_block (rx_side s) ceilings all frame a arrives.1 in
      subst P (sym arrives.2) (arrived_by P (rx_side s) ceilings a
      (λ below. (
        record s.logs {
          given = record { sci = a.sci; key = a.sa.key; pn = a.pn; kind = delivery_kind a.numbers a.pn } ∷ s.logs.given;
        },
        inr (running, inr (a, arrives.1, inr (refl, refl, refl))),
      ))
      (λ above. (
        s.logs,
        inr (
          running,
          inr (
            a,
            arrives.1,
            inl (refl, held_above s.identity.rx_block a.numbers a.pn (ceilings a.sci a.an) here above, refl, refl),
          ),
        ),
      )))
]

-- no step that settles a frame holds it back
unheld : (b : Bool) (reason : Reason) (kind : Kind) → ¬ (cond b (Discarded reason) (Delivered kind) ≡ HeldBack)
unheld true reason kind is = absurd cc
unheld false reason kind is = absurd cc

settled_unheld : (side : RxSide) (frame : List ℕ) (step : RxStep) → ¬ (verdict_at side frame step ≡ HeldBack)
settled_unheld side frame (Tag tag.Runt) is = absurd cc
settled_unheld side frame (Tag tag.Oversize) is = absurd cc
settled_unheld side frame (Tag tag.NoTag) is = unheld (is_strict side.validate) NoTag Untagged is
settled_unheld side frame (Tag tag.BadTag) is = absurd cc
settled_unheld side frame (Tag tag.ForKay) is = absurd cc
settled_unheld side frame NoChannel is = unheld (is_strict side.validate || changed (control frame)) NoSci UnknownSci is
settled_unheld side frame NoAssociation is =
    unheld (is_strict side.validate || changed (control frame)) NotUsingSa UnusedSa is
settled_unheld side frame BelowLowest is = absurd cc
settled_unheld side frame NotVerified is =
    unheld (is_strict side.validate || changed (control frame)) NotValid Invalid is

-- a frame is held back at its ceiling alone
held_at_ceiling : (side : RxSide) (ceilings : List ℕ → ℕ → Option ℕ) (frame : List ℕ) (outcome : Outcome)
    → rx.IsOutcome side ceilings frame outcome
    → outcome.verdict ≡ HeldBack → (a : Arrival) × Arrives side frame a × (is_below (ceilings a.sci a.an) a.pn ≡ false)
held_at_ceiling side ceilings frame outcome receives held = elim receives [
  | inl settles ↦ absurd (settled_unheld side frame settles.0 (sym (ap (λ (o : Outcome). o.verdict) settles.2) ∙ held))
  | inr arrives ↦
      let a = arrives.0 in
      arrived_by (λ (o : Outcome). o.verdict ≡ HeldBack
      → (a : Arrival) × Arrives side frame a × (is_below (ceilings a.sci a.an) a.pn ≡ false))
      side ceilings a (λ below is. absurd cc) (λ above is. (a, arrives.1, above))
      (sym (ap (λ (o : Outcome). o.verdict) arrives.2) ∙ held)
]

-- an endpoint with other receive channels
abbrev pub with_rx : {D : Type 0} → EndpointValue D → rxsc.RxValue → EndpointValue D
with_rx e r = record e { rx = r }

receive_limited : {D : Type 0} (old new : EndpointValue D) (frame : List ℕ) (verdict : Verdict) (out : List ℕ)
    → (verdict ≡ HeldBack → (a : Arrival) × Arrives (rx_side (state_of old no_logs)) frame a
    × (is_below ((standing_in old.store).ceilings.rx a.sci a.an) a.pn ≡ false))
    → IsLimited old (state.Receives frame) (Received (Ok verdict) out) new
receive_limited old new frame HeldBack out held = held refl
receive_limited old new frame (Delivered kind) out held = tt
receive_limited old new frame (Discarded reason) out held = tt

module _ {D : Type 0} (disk_of : D → Disk) (old : EndpointValue D) (r : rxsc.RxValue) (frame : List ℕ)
    (verdict : Verdict) (out : List ℕ) (kept : IsSoundEndpoint old)
    (receives : rx.IsOutcome (rxsc.rx_side_of old.rx) (rxsc.ceilings_of old.rx) frame
    (record { verdict = verdict; given = out; numbers = (rxsc.rx_side_of r).numbers }))
    (side : rxsc.rx_side_of r ≡ record (rxsc.rx_side_of old.rx) { numbers = (rxsc.rx_side_of r).numbers })
    (ceilings : rxsc.ceilings_of r ≡ rxsc.ceilings_of old.rx) where
  -- the same, in words of the standing
  standing_receives : rx.IsOutcome (rx_side (state_of old no_logs)) (standing_in old.store).ceilings.rx frame
      (record { verdict = verdict; given = out; numbers = (rxsc.rx_side_of r).numbers })
  standing_receives =
      let outcome : Outcome = record { verdict = verdict; given = out; numbers = (rxsc.rx_side_of r).numbers } in
      subst (λ (x : RxSide). rx.IsOutcome x (standing_in old.store).ceilings.rx frame outcome) kept.channels.rx_is
      (subst (λ (c : List ℕ → ℕ → Option ℕ). rx.IsOutcome (rxsc.rx_side_of old.rx) c frame outcome)
      kept.channels.rx_ceilings receives)

  pub received-kept : IsSoundEndpoint (with_rx old r)
  received-kept =
      let s = standing_in old.store in
      let numbers = (rxsc.rx_side_of r).numbers in
      let same : rxsc.ceilings_of r ≡ s.ceilings.rx = ceilings ∙ kept.channels.rx_ceilings in
      let within = received_within s.identity.rx_block (rx_side (state_of old no_logs)) s.ceilings.rx
      (kept-ahead old kept).rx_ahead frame
      (record { verdict = verdict; given = out; numbers = numbers }) standing_receives in
      record {
        identity = kept.identity;
        channels = record {
          tx_is = kept.channels.tx_is;
          rx_is = side ∙ ap (λ (x : RxSide). record x { numbers = numbers }) kept.channels.rx_is;
          tx_ceilings = kept.channels.tx_ceilings;
          rx_ceilings = same;
        };
        within = record {
          tx_within = kept.within.tx_within;
          rx_within = λ sci an. subst (λ (c : List ℕ → ℕ → Option ℕ).
              IsRxWithin s.identity.rx_block (numbers sci an) (c sci an)) (sym same) (within sci an);
          few = λ sci an over. unnumbered (association_in (channel_at r.channels sci) an)
              ((λ i. (side i).rx sci an)
              ∙ unowned (association_in (channel_at old.rx.channels sci) an) (kept.within.few sci an over));
        };
        few = kept.few;
        tickets = kept.tickets;
        work = rx-carried old r ceilings (received_rises (rx_side (state_of old no_logs)) s.ceilings.rx frame
            (record { verdict = verdict; given = out; numbers = numbers }) standing_receives) kept.work;
      }

  pub received-call : All (λ octet. octet < 2 ^ 8) frame → is_stopped old ≡ false
      → rxsc.counters_of r ≡ counters_after_verdict verdict (rxsc.counters_of old.rx)
      → rxsc.channel_counters_of r ≡ counters_after_verdict_at (channel_of (rxsc.rx_side_of old.rx) frame)
      (tag_of frame) verdict out (rxsc.channel_counters_of old.rx)
      → IsCall disk_of old (state.Receives frame) (Received (Ok verdict) out) (with_rx old r)
  received-call octets running counters channel_counters =
      let s = standing_in old.store in
      let outcome : Outcome = record { verdict = verdict; given = out; numbers = (rxsc.rx_side_of r).numbers } in
      alone-call disk_of old (with_rx old r) (state.Receives frame) (Received (Ok verdict) out) refl
      (λ backed. kept-backed (with_rx old r) received-kept disk_of backed.size (backed.stored running)) (record {
        in_range = octets;
        step = λ logs. receive_step (state_of old logs) s.ceilings.rx frame outcome running
            (kept-ahead old kept).rx_ahead standing_receives;
        ceilings = refl;
        limited = receive_limited old (with_rx old r) frame verdict out
            (held_at_ceiling (rx_side (state_of old no_logs)) s.ceilings.rx frame outcome standing_receives);
        still = refl;
        ends_work = tt;
        advances = tt;
        turn = refl;
        tx_counters = refl;
        rx_counters = counters;
        channel_counters = channel_counters
            ∙ ap (λ (x : RxSide). counters_after_verdict_at (channel_of x frame) (tag_of frame) verdict out
            (rxsc.channel_counters_of old.rx)) kept.channels.rx_is;
      })

pub receive-stopped : {D : Type 0} (disk_of : D → Disk) (old : EndpointValue D) (frame out : List ℕ)
    (fault : StoppedFault) → All (λ octet. octet < 2 ^ 8) frame
    → is_stopped old ≡ true → out ≡ [] → IsCall disk_of old (state.Receives frame) (Received (Err fault) out) old
receive-stopped disk_of old frame out fault octets stopped empty =
    alone-call disk_of old old (state.Receives frame) (Received (Err fault) out) refl (λ backed. backed) (record {
      in_range = octets;
      step = λ logs. (logs, inl (stopped, empty, refl));
      ceilings = refl;
      limited = tt;
      still = refl;
      ends_work = tt;
      advances = tt;
      turn = refl;
      tx_counters = refl;
      rx_counters = refl;
      channel_counters = refl;
    })
