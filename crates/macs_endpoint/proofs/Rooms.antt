-- How far ceilings are ahead: after a refill, an idle step or an install, and through calls.
use Rattle.std.proofs.Common.{◌≡◌, ◌≢◌, ◌≤◌, ◌<◌, ◌+◌, ◌-◌, ◌/◌, ◌^◌, ◌==◌, ◌⊎◌, inl, inr, ℕ, Bool, true, false, cond}
use Rattle.std.proofs.Common.{List, [], ◌∷◌, Option, Some, None, IsSome, Ok, Err, refl, sym, ◌∙◌, ap, subst, arith}
use Rattle.std.specs.Prelude.{IsSomeAnd, nat_lt}
use Rattle.std.specs.Option.{option_map, option_map_or}
use Rattle.std.proofs.lemmas.Bool.{cases_lt, eq-eqb, eqb-true}
use Rattle.std.proofs.lemmas.Bool.Decides.{nat_tests}
use Rattle.macs_aes.specs.declared.keys.Key.{Key}
use Rattle.macs_config.specs.Config.{Config}
use Rattle.macs_config.specs.Identity.{Identity}
use Rattle.macs_config.specs.Tables.{put, put_at}
use Rattle.macs_config.specs.declared.association.TxSa.{TxSa}
use Rattle.macs_config.specs.declared.command.Command.{Command}
use Rattle.macs_config.specs.declared.command.Command.TheVariants.{SetValidate, SetReplay, SetSciMode, TxInstall, TxUse}
use Rattle.macs_config.specs.declared.command.Command.TheVariants.{TxRemove, RxAdd, RxDrop, RxInstall, RxRemove}
use Rattle.macs_config.proofs.Tables.{put-here, put-other, put_all, put_at-other, put_at_all}
use Rattle.macs_disk.specs.Disk.{Disk}
use Rattle.macs_txsc.specs.Transmit.{Outgoing, TxSide, is_at_ceiling, is_used_up, outgoing_with, next_outgoing}
use Rattle.macs_txsc.specs.Transmit.{outgoing_at}
use Rattle.macs_txsc.specs.Transmit as tx
use Rattle.macs_txsc.specs.Value.{association_at, sa_of}
use Rattle.macs_txsc.specs.declared.association.Association.{Association}
use Rattle.macs_txsc.proofs.Needs.{tx-unneeded}
use Rattle.macs_txsc.specs.declared.fault.TxFault.TheVariants.{NoNumber}
use Rattle.macs_rxsc.specs.Needs.{is_needed, need_of, first_need_of}
use Rattle.macs_rxsc.specs.Receive.{Arrival, Arrives, Numbers, RxSide, has_channel, is_below}
use Rattle.macs_rxsc.specs.declared.verdict.Verdict.TheVariants.{HeldBack}
use Rattle.macs_rxsc.proofs.Left.{no-needs}
use Rattle.macs_rxsc.proofs.Needed.{unneeded}
use Rattle.macs_rxsc.proofs.Needs.{among-numbered}
use Rattle.macs_rxsc.proofs.Steps.{arrives_once}
use Rattle.macs_store.specs.Value.{standing_in}
use Rattle.macs_config.specs.Numbers.{block_beyond}
use Rattle.macs_store.specs.Standing.{Ceilings, Standing, ceilings_after}
use Rattle.macs_endpoint.specs.Calls.{IsCall}
use Rattle.macs_endpoint.specs.Ceilings.{CeilingsAfter, IsRefilled, Raise, RaiseRx, RaiseTx, first_raise}
use Rattle.macs_endpoint.specs.Ceilings.{standing_with_raise, standing_with_reserved}
use Rattle.macs_endpoint.specs.Needed.{raise_in}
use Rattle.macs_endpoint.specs.Value.{IsSoundEndpoint, IsRxWithin, IsTxWithin, EndpointValue, state_of}
use Rattle.macs_endpoint.specs.Lives.{Lives, Transition}
use Rattle.macs_endpoint.specs.Rooms.{HasRoom, IsBelow, IsEncodingAn, LowersNone, RxStays, SparesRx, SparesTx, TxStays}
use Rattle.macs_endpoint.specs.Rooms.{frames_in_reply, frames_sent}
use Rattle.macs_endpoint.specs.State.{Advanced, AdvancedLong, Advances, Call, Commands, Protected, Protects, Ran}
use Rattle.macs_endpoint.specs.State.{Received, Receives, Refilled, Refills, RefusedLong, Reply, State, Submits}
use Rattle.macs_endpoint.specs.State.{Submitted, command_made, no_logs, rx_side, tx_side}
use Rattle.macs_endpoint.specs.State.{Rested, Rests}
use Rattle.macs_endpoint.specs.Step.{Step, next_after}
use Rattle.macs_endpoint.specs.declared.fault.ProtectFault.TheVariants as protect
use Rattle.macs_endpoint.specs.declared.progress.Step.TheVariants.{Idle}
use Rattle.macs_endpoint.proofs.Changes.{Changes, IsAcceptedTo, PassesNone, call-changes, made-accepted, made-quiet}
use Rattle.macs_endpoint.proofs.Changes.{next_after_made, no-answer, stands-keep}
use Rattle.macs_endpoint.proofs.Fitting.{accept-parts, kept-ahead}
use Rattle.macs_endpoint.proofs.Framing.{five_others, not_exhausted}
use Rattle.macs_endpoint.proofs.Idled.{idle-step}
use Rattle.macs_endpoint.proofs.Working.{at-rest}
use Rattle.macs_endpoint.proofs.Raises.{no-first, raises-ahead, raises-parts}
use Rattle.macs_endpoint.proofs.Work.{IsHigher, first-higher, reserved-ahead, reserved-higher, reserved-parts}

-- ---- one place changed

put_rx_other : (f : List ℕ → ℕ → Option ℕ) (channel sci : List ℕ) (at an : ℕ) (x : Option ℕ)
    → (channel ≢ sci) ⊎ (at ≢ an)
    → put_at f channel (put (f channel) at x) sci an ≡ f sci an
put_rx_other f channel sci at an x differ =
    put_at_all (λ (g : ℕ → Option ℕ). g an ≡ f sci an) f channel (put (f channel) at x) sci
    (λ same. elim differ [
      | inl other ↦ absurd (other (sym same))
      | inr other ↦ put-other (f channel) at an x other ∙ ap (λ (s : List ℕ). f s an) (sym same)
    ])
    (λ other. refl)

-- the same functions say the same
said : (f g : ℕ → Option ℕ) (an : ℕ) (x : Option ℕ) → f ≡ g → g an ≡ x → f an ≡ x
said f g an x same is = ap (λ (h : ℕ → Option ℕ). h an) same ∙ is

-- ---- transmission

-- so many numbers were left below a ceiling before these were used, or all that there are
abbrev pub Covers : ℕ → ℕ → Option ℕ → Option ℕ → Type 0
Covers count used (Some next) (Some ceiling) = (next + count ≤ ceiling + used) ⊎ (ceiling ≡ 2 ^ 32)
Covers count used next ceiling = ⊥

covers_of : (count next ceiling : ℕ) (n c : Option ℕ) → n ≡ Some next → c ≡ Some ceiling
    → (next + count ≤ ceiling) ⊎ (ceiling ≡ 2 ^ 32) → Covers count 0 n c
covers_of count next ceiling n c is_next is_ceiling room =
    let covers : Covers count 0 (Some next) (Some ceiling) = elim room [
      | inl below ↦ inl (omega (arith, below))
      | inr all ↦ inr all
    ] in
    subst (λ (x : Option ℕ). Covers count 0 x c) (sym is_next)
    (subst (λ (x : Option ℕ). Covers count 0 (Some next) x) (sym is_ceiling) covers)

covers_same : (count a b : ℕ) (n c : Option ℕ) → a ≡ b → Covers count a n c → Covers count b n c
covers_same count a b n c same covers = subst (λ (used : ℕ). Covers count used n c) same covers

-- more are used
covers_more : (count used extra : ℕ) (n c : Option ℕ) → Covers count used n c → Covers count (used + extra) n c
covers_more count used extra None None covers = absurd covers
covers_more count used extra None (Some ceiling) covers = absurd covers
covers_more count used extra (Some next) None covers = absurd covers
covers_more count used extra (Some next) (Some ceiling) (inl below) = inl (omega (arith, below))
covers_more count used extra (Some next) (Some ceiling) (inr all) = inr all

-- one is used
covers_one : (count used pn : ℕ) (c : Option ℕ) → Covers count used (Some pn) c
    → Covers count (used + 1) (Some (pn + 1)) c
covers_one count used pn None covers = absurd covers
covers_one count used pn (Some ceiling) (inl below) = inl (omega (arith, below))
covers_one count used pn (Some ceiling) (inr all) = inr all

-- a ceiling is raised
covers_raised : (count used block : ℕ) (n c : Option ℕ) → Covers count used n c
    → Covers count used n (option_map (λ ceiling. block_beyond ceiling block) c)
covers_raised count used block None None covers = absurd covers
covers_raised count used block None (Some ceiling) covers = absurd covers
covers_raised count used block (Some next) None covers = absurd covers
covers_raised count used block (Some next) (Some ceiling) (inl below) = elim (cases_lt (ceiling + block) (2 ^ 32)) [
  | inl under ↦ inl (omega (arith, under, below))
  | inr over ↦ inr (omega (arith, over))
]
covers_raised count used block (Some next) (Some ceiling) (inr all) = inr (omega (arith, all))

covers_raise : (count used an : ℕ) (n : Option ℕ) (s : Standing) (raise : Raise)
    → Covers count used n (s.ceilings.tx an)
    → Covers count used n ((standing_with_raise s raise).ceilings.tx an)
covers_raise count used an n s (RaiseTx at) covers =
    let block = s.identity.tx_block in
    put_all (λ (c : Option ℕ). Covers count used n c) s.ceilings.tx
    at (option_map (λ ceiling. block_beyond ceiling block) (s.ceilings.tx at)) an
    (λ same. covers_raised count used block n (s.ceilings.tx at)
    (subst (λ (k : ℕ). Covers count used n (s.ceilings.tx k)) same covers))
    (λ differ. covers)
covers_raise count used an n s (RaiseRx need) covers = covers

-- a command on another association
covers_put : (count used an at : ℕ) (next c : ℕ → Option ℕ) (n ceiling : Option ℕ) → at ≢ an
    → Covers count used (next an) (c an)
    → Covers count used (put next at n an) (put c at ceiling an)
covers_put count used an at next c n ceiling differ covers =
    subst (λ (x : Option ℕ). Covers count used x (put c at ceiling an)) (sym (put-other next at an n differ))
    (subst (λ (x : Option ℕ). Covers count used (next an) x) (sym (put-other c at an ceiling differ)) covers)

covers_command : (count used an : ℕ) (identity : Identity) (command : Command) (done : Unit {0}) (next : ℕ → Option ℕ)
    (c : Ceilings)
    → SparesTx an (Some command) → Covers count used (next an) (c.tx an)
    → Covers count used (next_after command next an) ((ceilings_after identity command c).tx an)
covers_command count used an identity (SetValidate validate) done next c keeps covers = covers
covers_command count used an identity (SetReplay on window) done next c keeps covers = covers
covers_command count used an identity (SetSciMode mode) done next c keeps covers = covers
covers_command count used an identity (TxInstall at key start confidential offset) done next c keeps covers =
    covers_put count used an at next c.tx (Some start) (Some (block_beyond start identity.tx_block)) keeps covers
covers_command count used an identity (TxUse at) done next c keeps covers = covers
covers_command count used an identity (TxRemove at) done next c keeps covers =
    covers_put count used an at next c.tx None None keeps covers
covers_command count used an identity (RxAdd sci) done next c keeps covers = covers
covers_command count used an identity (RxDrop sci) done next c keeps covers = covers
covers_command count used an identity (RxInstall sci at key start offset) done next c keeps covers = covers
covers_command count used an identity (RxRemove sci at) done next c keeps covers = covers

-- what goes out does so under the association that is chosen, with its next number
outgoing_numbered : (an : ℕ) (sa : Option TxSa) (n : Option ℕ) (o : Outgoing) → outgoing_with an sa n ≡ Some o
    → (o.an ≡ an) × (n ≡ Some o.pn)
outgoing_numbered an None n o is = absurd cc
outgoing_numbered an (Some sa) None o is = absurd cc
outgoing_numbered an (Some sa) (Some pn) o is =
    let same : record { an = an; sa = sa; pn = pn } ≡ o = cc in
    (sym (ap (λ (x : Outgoing). x.an) same), ap (λ (x : Outgoing). Some x.pn) same)

covers_sent_by : (count used an encoding pn : ℕ) (o : Outgoing) (next : ℕ → Option ℕ) (c : Option ℕ) (out : List ℕ)
    → o.an ≡ encoding → next encoding ≡ Some o.pn
    → Covers count used (next an) c → Covers count (used + frames_in_reply (Some encoding) an (Protected (Ok pn) out))
    (put next o.an (Some (o.pn + 1)) an) c
covers_sent_by count used an encoding pn o next c out is_an is_next covers =
    put_all (λ (x : Option ℕ). Covers count (used + cond (encoding == an) 1 0) x c) next o.an (Some (o.pn + 1)) an
    (λ same.
    let here : encoding ≡ an = sym is_an ∙ sym same in
    let number : next an ≡ Some o.pn = ap next (sym here) ∙ is_next in
    subst (λ (b : Bool). Covers count (used + cond b 1 0) (Some (o.pn + 1)) c) (sym (eq-eqb encoding an here))
    (covers_one count used o.pn c (subst (λ (x : Option ℕ). Covers count used x c) number covers)))
    (λ differ. covers_more count used (cond (encoding == an) 1 0) (next an) c covers)

covers_sent : (count used an pn : ℕ) (side : TxSide) (encoding : Option ℕ) (o : Outgoing) (c : Option ℕ) (out : List ℕ)
    → outgoing_at side encoding ≡ Some o
    → Covers count used (side.next an) c → Covers count (used + frames_in_reply encoding an (Protected (Ok pn) out))
    (put side.next o.an (Some (o.pn + 1)) an) c
covers_sent count used an pn side None o c out is covers = absurd cc
covers_sent count used an pn side (Some encoding) o c out is covers =
    let parts = outgoing_numbered encoding (side.tx encoding) (side.next encoding) o is in
    covers_sent_by count used an encoding pn o side.next c out parts.0 parts.1 covers

module _ (count used an : ℕ) (s t : State) (f g : Standing) where
  -- both change to these
  covers_moved : (later : ℕ) (next c : ℕ → Option ℕ) → t.next ≡ next → g.ceilings.tx ≡ c
      → Covers count later (next an) (c an)
      → Covers count later (t.next an) (g.ceilings.tx an)
  covers_moved later next c is_next is_c covers =
      subst (λ (x : ℕ → Option ℕ). Covers count later (x an) (g.ceilings.tx an)) (sym is_next)
      (subst (λ (x : ℕ → Option ℕ). Covers count later (next an) (x an)) (sym is_c) covers)

  -- the next numbers stay
  covers_next : (extra : ℕ) → t.next ≡ s.next → Covers count used (s.next an) (g.ceilings.tx an)
      → Covers count (used + extra) (t.next an) (g.ceilings.tx an)
  covers_next extra is_next covers =
      covers_moved (used + extra) s.next g.ceilings.tx is_next refl
      (covers_more count used extra (s.next an) (g.ceilings.tx an) covers)

  -- and the ceilings
  covers_stay : (extra : ℕ) → t.next ≡ s.next → g ≡ f → Covers count used (s.next an) (f.ceilings.tx an)
      → Covers count (used + extra) (t.next an) (g.ceilings.tx an)
  covers_stay extra is_next same covers =
      covers_next extra is_next
      (subst (λ (x : Standing). Covers count used (s.next an) (x.ceilings.tx an)) (sym same) covers)

  abbrev next_of : State → ℕ → Option ℕ
  next_of x = x.next

  -- where no frame passes
  covers_quiet : (extra : ℕ) (made : Option Command) → Changes s made t
      → Covers count used (next_after_made made s.next an) (g.ceilings.tx an)
      → Covers count (used + extra) (t.next an) (g.ceilings.tx an)
  covers_quiet extra made changes covers =
      covers_moved (used + extra) (next_after_made made s.next) g.ceilings.tx changes.0 refl
      (covers_more count used extra (next_after_made made s.next an) (g.ceilings.tx an) covers)

  covers_by : (reserving : Option Raise) (call : Call) (reply : Reply) → PassesNone call → Step s call reply t
      → CeilingsAfter s f reserving call reply g
      → LowersNone call reply × SparesTx an (command_made s call reply)
      → Covers count used (s.next an) (f.ceilings.tx an)
      → Covers count (used + frames_in_reply s.config.encoding an reply) (t.next an) (g.ceilings.tx an)
  covers_by reserving call reply quiet step stands keeps covers =
      covers_quiet (frames_in_reply s.config.encoding an reply) (command_made s call reply)
      (call-changes s t call reply quiet step)
      (stands-keep s f g reserving (λ (x : Standing). Covers count used (s.next an) (x.ceilings.tx an))
      (λ (made : Option Command) (x : Standing). Covers count used (next_after_made made s.next an) (x.ceilings.tx an))
      (SparesTx an)
      (λ x raise first. covers_raise count used an (s.next an) x raise)
      (λ raise is. covers_raise count used an (s.next an) f raise)
      (λ x holds. holds)
      (λ command x y is spares holds.
      let parts = accept-parts x command y is in
      subst (λ (z : Standing). Covers count used (next_after command s.next an) (z.ceilings.tx an)) (sym parts.2)
      (covers_command count used an x.identity command tt s.next x.ceilings spares holds))
      call reply stands keeps.0 keeps.1 covers)

  -- through a call
  covers_step : (reserving : Option Raise) (call : Call) (reply : Reply) → Step s call reply t
      → CeilingsAfter s f reserving call reply g
      → LowersNone call reply × SparesTx an (command_made s call reply)
      → Covers count used (s.next an) (f.ceilings.tx an)
      → Covers count (used + frames_in_reply s.config.encoding an reply) (t.next an) (g.ceilings.tx an)
  covers_step reserving (Commands command) reply step stands keeps covers =
      covers_by reserving (Commands command) reply tt step stands keeps covers
  covers_step reserving Refills reply step stands keeps covers =
      covers_by reserving Refills reply tt step stands keeps covers
  covers_step reserving Rests reply step stands keeps covers =
      covers_by reserving Rests reply tt step stands keeps covers
  covers_step reserving (Submits command) reply step stands keeps covers =
      covers_by reserving (Submits command) reply tt step stands keeps covers
  covers_step reserving Advances reply step stands keeps covers =
      covers_by reserving Advances reply tt step stands keeps covers
  covers_step reserving (Protects plain) (Protected (Ok pn) out) (inl step) stands keeps covers = absurd step.1
  covers_step reserving (Protects plain) (Protected (Ok pn) out) (inr step) stands keeps covers =
      let went = step.1.1 in
      let o = went.0 in
      covers_moved (used + frames_in_reply s.config.encoding an (Protected (Ok pn) out))
      (put s.next o.an (Some (o.pn + 1))) f.ceilings.tx
      (ap next_of went.4) (ap (λ (x : Standing). x.ceilings.tx) stands)
      (covers_sent count used an pn (tx_side s) s.config.encoding o (f.ceilings.tx an) out went.1 covers)
  covers_step reserving (Protects plain) (Protected (Err (protect.Tx fault)) out) (inl step) stands keeps covers =
      absurd step.1
  covers_step reserving (Protects plain) (Protected (Err (protect.Tx fault)) out) (inr step) stands keeps covers =
      covers_stay (frames_in_reply s.config.encoding an (Protected (Err (protect.Tx fault)) out)) (ap next_of step.1.2)
      stands covers
  covers_step reserving (Protects plain) (Protected (Err protect.Stopped) out) (inl step) stands keeps covers =
      covers_stay (frames_in_reply s.config.encoding an (Protected (Err protect.Stopped) out)) (ap next_of step.2)
      stands covers
  covers_step reserving (Protects plain) (Protected (Err protect.Stopped) out) (inr step) stands keeps covers =
      absurd step.1
  covers_step reserving (Protects plain) (Ran result) step stands keeps covers = absurd (no-answer step)
  covers_step reserving (Protects plain) (Refilled result) step stands keeps covers = absurd (no-answer step)
  covers_step reserving (Protects plain) (Rested result) step stands keeps covers = absurd (no-answer step)
  covers_step reserving (Protects plain) (Submitted result) step stands keeps covers = absurd (no-answer step)
  covers_step reserving (Protects plain) (Advanced result) step stands keeps covers = absurd (no-answer step)
  covers_step reserving (Protects plain) RefusedLong step stands keeps covers = absurd (no-answer step)
  covers_step reserving (Protects plain) (AdvancedLong ticket) step stands keeps covers = absurd (no-answer step)
  covers_step reserving (Protects plain) (Received result out) step stands keeps covers = absurd (no-answer step)
  covers_step reserving (Receives frame) (Received result out) (inl step) stands keeps covers =
      covers_stay (frames_in_reply s.config.encoding an (Received result out)) (ap next_of step.2) stands covers
  covers_step reserving (Receives frame) (Received (Ok verdict) out) (inr step) stands keeps covers =
      covers_stay (frames_in_reply s.config.encoding an (Received (Ok verdict) out)) (elim step.1 [
        | inl settles ↦ ap next_of settles.4
        | inr arrives ↦ elim arrives.2 [ inl held ↦ ap next_of held.3 | inr taken ↦ ap next_of taken.2 ]
      ]) stands covers
  covers_step reserving (Receives frame) (Received (Err stopped) out) (inr step) stands keeps covers = absurd step.1
  covers_step reserving (Receives frame) (Ran result) step stands keeps covers = absurd (no-answer step)
  covers_step reserving (Receives frame) (Refilled result) step stands keeps covers = absurd (no-answer step)
  covers_step reserving (Receives frame) (Rested result) step stands keeps covers = absurd (no-answer step)
  covers_step reserving (Receives frame) (Submitted result) step stands keeps covers = absurd (no-answer step)
  covers_step reserving (Receives frame) (Advanced result) step stands keeps covers = absurd (no-answer step)
  covers_step reserving (Receives frame) RefusedLong step stands keeps covers = absurd (no-answer step)
  covers_step reserving (Receives frame) (AdvancedLong ticket) step stands keeps covers = absurd (no-answer step)
  covers_step reserving (Receives frame) (Protected result out) step stands keeps covers = absurd (no-answer step)

-- ---- reception

-- a number is below a ceiling
abbrev pub IsUnder : Option ℕ → ℕ → Type 0
IsUnder None pn = ⊥
IsUnder (Some ceiling) pn = pn < ceiling

under_command : (sci : List ℕ) (an pn : ℕ) (identity : Identity) (command : Command) (done : Unit {0}) (c : Ceilings)
    → SparesRx sci an (Some command) → IsUnder (c.rx sci an) pn
    → IsUnder ((ceilings_after identity command c).rx sci an) pn
under_command sci an pn identity (SetValidate validate) done c keeps under = under
under_command sci an pn identity (SetReplay on window) done c keeps under = under
under_command sci an pn identity (SetSciMode mode) done c keeps under = under
under_command sci an pn identity (TxInstall at key start confidential offset) done c keeps under = under
under_command sci an pn identity (TxUse at) done c keeps under = under
under_command sci an pn identity (TxRemove at) done c keeps under = under
under_command sci an pn identity (RxAdd added) done c keeps under = under
under_command sci an pn identity (RxDrop dropped) done c keeps under =
    subst (λ (f : ℕ → Option ℕ). IsUnder (f an) pn) (sym (put_at-other c.rx dropped sci (λ an. None) keeps)) under
under_command sci an pn identity (RxInstall channel at key start offset) done c keeps under =
    subst (λ (x : Option ℕ). IsUnder x pn) (sym (put_rx_other c.rx channel sci at an (Some start) keeps)) under
under_command sci an pn identity (RxRemove channel at) done c keeps under =
    subst (λ (x : Option ℕ). IsUnder x pn) (sym (put_rx_other c.rx channel sci at an None keeps)) under

-- a ceiling that is raised
under_higher : (c : Option ℕ) (pn top : ℕ) → IsUnder c pn → IsSomeAnd c (λ ceiling. ceiling < top) → pn < top
under_higher None pn top under higher = absurd under
under_higher (Some ceiling) pn top under higher = omega (arith, under, higher)

under_raise : (sci : List ℕ) (an pn : ℕ) (s : Standing) (raise : Raise) → IsHigher s raise
    → IsUnder (s.ceilings.rx sci an) pn
    → IsUnder ((standing_with_raise s raise).ceilings.rx sci an) pn
under_raise sci an pn s (RaiseTx at) higher under = under
under_raise sci an pn s (RaiseRx need) higher under =
    let c = s.ceilings.rx in
    let top = block_beyond need.pn s.identity.rx_block in
    put_at_all (λ (row : ℕ → Option ℕ). IsUnder (row an) pn) c need.sci (put (c need.sci) need.an (Some top)) sci
    (λ same. put_all (λ (o : Option ℕ). IsUnder o pn) (c need.sci) need.an (Some top) an
    (λ same_an. under_higher (c need.sci need.an) pn top
    (subst (λ (t : List ℕ). IsUnder (c t need.an) pn) same (subst (λ (k : ℕ). IsUnder (c sci k) pn) same_an under))
    higher)
    (λ other. subst (λ (t : List ℕ). IsUnder (c t an) pn) same under))
    (λ other. under)

-- through a call
under_stands : (sci : List ℕ) (an pn : ℕ) (s : State) (f g : Standing) (reserving : Option Raise)
    → ((raise : Raise) → reserving ≡ Some raise → IsHigher f raise)
    → (call : Call) (reply : Reply) → CeilingsAfter s f reserving call reply g
    → LowersNone call reply × SparesRx sci an (command_made s call reply)
    → IsUnder (f.ceilings.rx sci an) pn → IsUnder (g.ceilings.rx sci an) pn
under_stands sci an pn s f g reserving higher call reply stands keeps under =
    stands-keep s f g reserving (λ (x : Standing). IsUnder (x.ceilings.rx sci an) pn)
    (λ (made : Option Command) (x : Standing). IsUnder (x.ceilings.rx sci an) pn) (SparesRx sci an)
    (λ x raise first. under_raise sci an pn x raise (first-higher (tx_side s) (rx_side s) x raise first))
    (λ raise is. under_raise sci an pn f raise (higher raise is))
    (λ x holds. holds)
    (λ command x y is spares holds.
    let parts = accept-parts x command y is in
    subst (λ (z : Standing). IsUnder (z.ceilings.rx sci an) pn) (sym parts.2)
    (under_command sci an pn x.identity command tt x.ceilings spares holds))
    call reply stands keeps.0 keeps.1 under

-- a ceiling that is not needed leaves room
reach_unneeded : (block next seen pn ceiling : ℕ) → is_needed block next ceiling seen ≡ false → 1 ≤ block → pn < 2 ^ 32
    → (pn ≤ seen) ⊎ ((pn < next + block / 2 + 1) × (pn < seen + block)) → pn < ceiling
reach_unneeded block next seen pn ceiling is least last reach = elim reach [
  | inl lower ↦ grind (arith, nat_tests, is, least, last, lower)
  | inr near ↦ (let nearest = near.0 in let nearer = near.1 in
      grind (arith, nat_tests, is, least, last, nearest, nearer))
]

reach_by : (block an pn next lowest seen : ℕ) (sci : List ℕ) (c : Option ℕ) → 1 ≤ block → pn < 2 ^ 32
    → need_of block sci an (Some (record { next = next; lowest = lowest; seen = Some seen })) c ≡ None
    → IsRxWithin block (Some (record { next = next; lowest = lowest; seen = Some seen })) c
    → (pn ≤ seen) ⊎ ((pn < next + block / 2 + 1) × (pn < seen + block)) → IsUnder c pn
reach_by block an pn next lowest seen sci None least last none within reach = absurd within
reach_by block an pn next lowest seen sci (Some ceiling) least last none within reach =
    reach_unneeded block next seen pn ceiling
    (unneeded block sci an (record { next = next; lowest = lowest; seen = Some seen }) ceiling seen none)
    least last reach

-- ---- an endpoint

below_of : {D : Type 0} (e : EndpointValue D) (sci : List ℕ) (an pn : ℕ) (c : Option ℕ)
    → (standing_in e.store).ceilings.rx sci an ≡ c → IsUnder c pn
    → IsBelow e sci an pn
below_of e sci an pn None is under = absurd under
below_of e sci an pn (Some ceiling) is under = record { ceiling = ceiling; is_ceiling = is; below = under }

under_of : {D : Type 0} (e : EndpointValue D) (sci : List ℕ) (an pn : ℕ) → IsBelow e sci an pn
    → IsUnder ((standing_in e.store).ceilings.rx sci an) pn
under_of e sci an pn below = subst (λ (x : Option ℕ). IsUnder x pn) (sym below.is_ceiling) below.below

module _ {D : Type 0} (disk_of : D → Disk) where
  under_lives : (sci : List ℕ) (an pn : ℕ) (turns : List (Transition D)) (old new : EndpointValue D)
      → Lives disk_of old turns new → RxStays sci an old turns
      → IsUnder ((standing_in old.store).ceilings.rx sci an) pn
      → IsUnder ((standing_in new.store).ceilings.rx sci an) pn
  under_lives sci an pn [] old new lives stays under =
      subst (λ (e : EndpointValue D). IsUnder ((standing_in e.store).ceilings.rx sci an) pn) (sym lives) under
  under_lives sci an pn (turn ∷ turns) old new lives stays under =
      under_lives sci an pn turns turn.after new lives.2 stays.1
      (under_stands sci an pn (state_of old no_logs) (standing_in old.store) (standing_in turn.after.store)
      old.reserving (reserved-higher old lives.0)
      turn.call turn.reply lives.1.behaves.ceilings stays.0 under)

  pub below-stays : (old new : EndpointValue D) (turns : List (Transition D)) (sci : List ℕ) (an pn : ℕ)
      → Lives disk_of old turns new → RxStays sci an old turns
      → IsBelow old sci an pn → IsBelow new sci an pn
  below-stays old new turns sci an pn lives stays below =
      below_of new sci an pn ((standing_in new.store).ceilings.rx sci an) refl
      (under_lives sci an pn turns old new lives stays (under_of old sci an pn below))

  -- where no ceiling is to be raised
  below_unneeded : (e : EndpointValue D) (sci : List ℕ) (an next lowest seen pn : ℕ) → IsSoundEndpoint e
      → first_need_of (rx_side (state_of e no_logs)) (standing_in e.store).ceilings.rx
      (standing_in e.store).identity.rx_block ≡ None
      → (state_of e no_logs).numbers sci an ≡ Some (record { next = next; lowest = lowest; seen = Some seen })
      → pn < 2 ^ 32
      → ((pn ≤ seen) ⊎ ((pn < next + (standing_in e.store).identity.rx_block / 2 + 1)
      × (pn < seen + (standing_in e.store).identity.rx_block)))
      → IsBelow e sci an pn
  below_unneeded e sci an next lowest seen pn kept no_need are last reach =
      let s = standing_in e.store in
      let block = s.identity.rx_block in
      let numbers : Numbers = record { next = next; lowest = lowest; seen = Some seen } in
      let c = s.ceilings.rx sci an in
      let rx : RxSide = rx_side (state_of e no_logs) in
      let channels : (sci : List ℕ) (an : ℕ) → IsSome (rx.numbers sci an) → has_channel rx sci ≡ true = λ sci an some.
      subst (λ (x : RxSide). has_channel x sci ≡ true) kept.channels.rx_is (among-numbered e.rx.channels sci an some) in
      let none : need_of block sci an (Some numbers) c ≡ None =
      ap (λ (n : Option Numbers). need_of block sci an n c) (sym are)
      ∙ no-needs rx s.ceilings.rx block channels kept.within.few no_need sci an in
      let within : IsRxWithin block (Some numbers) c =
      subst (λ (x : Option Numbers). IsRxWithin block x c) are ((kept-ahead e kept).rx_ahead sci an) in
      below_of e sci an pn c refl
      (reach_by block an pn next lowest seen sci c kept.identity.rx_block.0 last none within reach)

  pub below-refilled : (old new : EndpointValue D) (sci : List ℕ) (an next lowest seen pn : ℕ) → IsSoundEndpoint new
      → IsCall disk_of old Refills (Refilled (Ok tt)) new
      → (state_of new no_logs).numbers sci an ≡ Some (record { next = next; lowest = lowest; seen = Some seen })
      → pn < 2 ^ 32
      → ((pn ≤ seen) ⊎ ((pn < next + (standing_in new.store).identity.rx_block / 2 + 1)
      × (pn < seen + (standing_in new.store).identity.rx_block)))
      → IsBelow new sci an pn
  below-refilled old new sci an next lowest seen pn kept call are last reach =
      let s = standing_in new.store in
      let block = s.identity.rx_block in
      let ended = call.behaves.step no_logs in
      let same : rx_side (state_of new no_logs) ≡ rx_side (state_of old no_logs) = elim ended.1 [
        | inl stopped ↦ absurd stopped.1
        | inr ran ↦ ap (λ (x : State). rx_side x) ran.1.1
      ] in
      let parts = no-first (tx.need_of (tx_side (state_of old no_logs)) s.ceilings.tx s.identity.tx_block)
      (first_need_of (rx_side (state_of old no_logs)) s.ceilings.rx block) call.behaves.ceilings.is_next in
      below_unneeded new sci an next lowest seen pn kept
      (ap (λ (x : RxSide). first_need_of x s.ceilings.rx block) same ∙ parts.1) are last reach

  -- the same after a step that found nothing to do
  pub below-idle : (old new : EndpointValue D) (sci : List ℕ) (an next lowest seen pn : ℕ) → IsSoundEndpoint new
      → IsCall disk_of old Advances (Advanced (Ok Idle)) new
      → (state_of new no_logs).numbers sci an ≡ Some (record { next = next; lowest = lowest; seen = Some seen })
      → pn < 2 ^ 32
      → ((pn ≤ seen) ⊎ ((pn < next + (standing_in new.store).identity.rx_block / 2 + 1)
      × (pn < seen + (standing_in new.store).identity.rx_block)))
      → IsBelow new sci an pn
  below-idle old new sci an next lowest seen pn kept call are last reach =
      let s = standing_in new.store in
      let idle = idle-step disk_of old new call in
      let parts = no-first (tx.need_of (tx_side (state_of new no_logs)) s.ceilings.tx s.identity.tx_block)
      (first_need_of (rx_side (state_of new no_logs)) s.ceilings.rx s.identity.rx_block)
      (subst (λ (e : EndpointValue D). raise_in e ≡ None) (sym idle.0) idle.1) in
      below_unneeded new sci an next lowest seen pn kept parts.1 are last reach

  pub below-delivered : (old new : EndpointValue D) (frame out : List ℕ) (a : Arrival) → IsBelow old a.sci a.an a.pn
      → Arrives (rx_side (state_of old no_logs)) frame a
      → IsCall disk_of old (Receives frame) (Received (Ok HeldBack) out) new → ⊥
  below-delivered old new frame out a below arrives call =
      let held = call.behaves.limited in
      let same : held.0 ≡ a = arrives_once (rx_side (state_of old no_logs)) frame held.0 a held.1 arrives in
      let above : is_below ((standing_in old.store).ceilings.rx a.sci a.an) a.pn ≡ false =
      subst (λ (x : Arrival). is_below ((standing_in old.store).ceilings.rx x.sci x.an) x.pn ≡ false) same held.2 in
      let beyond : nat_lt a.pn below.ceiling ≡ false =
      ap (λ (c : Option ℕ). is_below c a.pn) (sym below.is_ceiling) ∙ above in
      let under = below.below in
      grind (arith, nat_tests, beyond, under)

  -- ---- room of a transmit association

  covers_lives : (count an : ℕ) (turns : List (Transition D)) (used : ℕ) (old new : EndpointValue D)
      → Lives disk_of old turns new → TxStays an old turns
      → Covers count used ((state_of old no_logs).next an) ((standing_in old.store).ceilings.tx an)
      → Covers count (used + frames_sent an old turns) ((state_of new no_logs).next an)
      ((standing_in new.store).ceilings.tx an)
  covers_lives count an [] used old new lives stays covers =
      subst (λ (e : EndpointValue D).
      Covers count (used + 0) ((state_of e no_logs).next an) ((standing_in e.store).ceilings.tx an)) (sym lives)
      (covers_more count used 0 ((state_of old no_logs).next an) ((standing_in old.store).ceilings.tx an) covers)
  covers_lives count an (turn ∷ turns) used old new lives stays covers =
      let one = frames_in_reply (standing_in old.store).config.encoding an turn.reply in
      let rest = frames_sent an turn.after turns in
      let ended = lives.1.behaves.step no_logs in
      let here : Covers count (used + one) ((state_of turn.after no_logs).next an)
      ((standing_in turn.after.store).ceilings.tx an) =
      covers_step count used an (state_of old no_logs) (state_of turn.after ended.0) (standing_in old.store)
      (standing_in turn.after.store)
      old.reserving turn.call turn.reply ended.1 lives.1.behaves.ceilings stays.0 covers in
      let sum : (used + one) + rest ≡ used + (one + rest) = omega arith in
      covers_same count ((used + one) + rest) (used + (one + rest)) ((state_of new no_logs).next an)
      ((standing_in new.store).ceilings.tx an) sum
      (covers_lives count an turns (used + one) turn.after new lives.2 stays.1 here)

  room_of : (e : EndpointValue D) (an count used block : ℕ) (n c : Option ℕ) → (state_of e no_logs).next an ≡ n
      → (standing_in e.store).ceilings.tx an ≡ c
      → IsTxWithin block n c → Covers count used n c → HasRoom e an (count - used)
  room_of e an count used block None None is_next is_ceiling within covers = absurd covers
  room_of e an count used block None (Some ceiling) is_next is_ceiling within covers = absurd covers
  room_of e an count used block (Some next) None is_next is_ceiling within covers = absurd covers
  room_of e an count used block (Some next) (Some ceiling) is_next is_ceiling within covers = record {
    next = next;
    ceiling = ceiling;
    is_next = is_next;
    is_ceiling = is_ceiling;
    room = elim covers [
      | inl below ↦ inl (let ordered = within.1 in omega (arith, ordered, below))
      | inr all ↦ inr all
    ];
  }

  -- where its numbers are in order at the end
  pub room-stays : (old new : EndpointValue D) (turns : List (Transition D)) (an count : ℕ) → IsSoundEndpoint new
      → Lives disk_of old turns new → TxStays an old turns
      → HasRoom old an count → HasRoom new an (count - frames_sent an old turns)
  room-stays old new turns an count kept lives stays room =
      let n = (state_of new no_logs).next an in
      let c = (standing_in new.store).ceilings.tx an in
      let covers : Covers count 0 ((state_of old no_logs).next an) ((standing_in old.store).ceilings.tx an) =
      covers_of count room.next room.ceiling ((state_of old no_logs).next an) ((standing_in old.store).ceilings.tx an)
      room.is_next room.is_ceiling room.room in
      let later = covers_lives count an turns 0 old new lives stays covers in
      room_of new an count (frames_sent an old turns) (standing_in new.store).identity.tx_block n c refl refl
      ((kept-ahead new kept).tx_ahead an)
      (covers_same count (0 + frames_sent an old turns) (frames_sent an old turns) n c (omega arith) later)

  -- after the call that made an install durable, whichever it was
  pub room-installed : (old new : EndpointValue D) (call : Call) (reply : Reply) (an : ℕ) (key : Key) (start : ℕ)
      (confidential : Bool) (offset : ℕ)
      → IsSoundEndpoint old → IsCall disk_of old call reply new
      → command_made (state_of old no_logs) call reply ≡ Some (TxInstall an key start confidential offset)
      → HasRoom new an (standing_in new.store).identity.tx_block
  room-installed old new call reply an key start confidential offset kept is made =
      let command = TxInstall an key start confidential offset in
      let s = state_of old no_logs in
      let from = subst (λ (o : Option Command). IsAcceptedTo o (standing_in new.store)) made
      (made-accepted s (standing_in old.store) (standing_in new.store) old.reserving call reply is.behaves.ceilings) in
      let before = from.0 in
      let parts = accept-parts before command (standing_in new.store) from.1 in
      let block = (standing_in new.store).identity.tx_block in
      let same : (standing_in new.store).identity ≡ before.identity = ap (λ (x : Standing). x.identity) parts.2 in
      let ended = is.behaves.step no_logs in
      let changes = subst (λ (o : Option Command). Changes s o (state_of new ended.0)) made
      (call-changes s (state_of new ended.0) call reply (made-quiet s call reply command made) ended.1) in
      let is_next : (state_of new no_logs).next an ≡ Some start = ap (λ (f : ℕ → Option ℕ). f an) changes.0
      ∙ put-here s.next an (Some start) in
      let is_ceiling : (standing_in new.store).ceilings.tx an ≡ Some (block_beyond start block) =
      ap (λ (x : Standing). x.ceilings.tx an) parts.2
      ∙ put-here before.ceilings.tx an (Some (block_beyond start before.identity.tx_block))
      ∙ ap (λ (i : Identity). Some (block_beyond start i.tx_block)) (sym same) in
      record {
        next = start;
        ceiling = block_beyond start block;
        is_next = is_next;
        is_ceiling = is_ceiling;
        room = elim (cases_lt (start + block) (2 ^ 32)) [
          | inl under ↦ inl (omega (arith, under))
          | inr over ↦ inr (omega (arith, over))
        ];
      }

  -- ---- after a refill

  -- an association that has a next number exists
  association_of : (a : Option Association) → IsSome (option_map (λ (x : Association). x.next) a)
      → (one : Association) × (a ≡ Some one)
  association_of None stands = absurd cc
  association_of (Some one) stands = (one, refl)

  ceiling_of : (block next : ℕ) (c : Option ℕ) → IsTxWithin block (Some next) c
      → (ceiling : ℕ) × (c ≡ Some ceiling) × (next ≤ ceiling) × (ceiling ≤ 2 ^ 32)
  ceiling_of block next None within = absurd within
  ceiling_of block next (Some ceiling) within = (ceiling, refl, within.1, within.3)

  -- a ceiling that is not needed leaves room, or all the numbers that there are
  enough_room : (block next ceiling : ℕ) → tx.is_needed block next ceiling ≡ false → next ≤ ceiling → ceiling ≤ 2 ^ 32
      → (next + (block / 2 + 1) ≤ ceiling) ⊎ (ceiling ≡ 2 ^ 32)
  enough_room block next ceiling is ordered bounded = elim (cases_lt ceiling (2 ^ 32)) [
    | inl under ↦ inl (grind (arith, nat_tests, is, under, ordered))
    | inr over ↦ inr (omega (arith, over, bounded))
  ]

  -- where all ceilings that were needed are raised
  room_refilled : (old new : EndpointValue D) (an : ℕ) → IsSoundEndpoint old
      → (state_of new no_logs).next ≡ (state_of old no_logs).next
      → IsRefilled (tx_side (state_of old no_logs)) (rx_side (state_of old no_logs))
      (standing_with_reserved (standing_in old.store) old.reserving)
      (standing_in new.store) None → IsEncodingAn new an
      → HasRoom new an ((standing_in new.store).identity.tx_block / 2 + 1)
  room_refilled old new an kept same refilled encodes =
      let before = standing_with_reserved (standing_in old.store) old.reserving in
      let after = standing_in new.store in
      let side = tx_side (state_of old no_logs) in
      let receives = rx_side (state_of old no_logs) in
      let block = after.identity.tx_block in
      let same_config = (raises-parts side receives before after refilled.raises refilled.raised).1
      ∙ (reserved-parts (standing_in old.store) old.reserving).1 in
      let found =
      association_of (association_at old.tx an) (subst (λ (x : ℕ → Option ℕ). IsSome (x an)) same encodes.1) in
      let one = found.0 in
      let is_next : side.next an ≡ Some one.next = ap (option_map (λ (a : Association). a.next)) found.1 in
      let is_sa : side.tx an ≡ Some (sa_of one) =
      sym (ap (λ (x : TxSide). x.tx an) kept.channels.tx_is) ∙ ap (option_map sa_of) found.1 in
      let chosen : side.encoding ≡ Some an = sym (ap (λ (x : Config). x.encoding) same_config) ∙ encodes.0 in
      let goes : next_outgoing side ≡ outgoing_with an (Some (sa_of one)) (Some one.next) =
      ap (outgoing_at side) chosen ∙ (λ i. outgoing_with an (is_sa i) (is_next i)) in
      let are = raises-ahead side receives before after refilled.raises refilled.raised (reserved-ahead old kept) in
      let ceiling = ceiling_of block one.next (after.ceilings.tx an)
      (subst (λ (x : Option ℕ). IsTxWithin block x (after.ceilings.tx an)) is_next (are.tx_ahead an)) in
      let none = no-first (tx.need_of side after.ceilings.tx block)
      (first_need_of receives after.ceilings.rx after.identity.rx_block) refilled.is_next in
      record {
        next = one.next;
        ceiling = ceiling.0;
        is_next = said (state_of new no_logs).next side.next an (Some one.next) same is_next;
        is_ceiling = ceiling.1;
        room = enough_room block one.next ceiling.0
            (tx-unneeded side after.ceilings.tx block an one.next ceiling.0 (sa_of one) goes ceiling.1 none.0)
            ceiling.2 ceiling.3;
      }

  pub room-refilled : (old new : EndpointValue D) (an : ℕ) → IsSoundEndpoint old
      → IsCall disk_of old Refills (Refilled (Ok tt)) new → IsEncodingAn new an
      → HasRoom new an ((standing_in new.store).identity.tx_block / 2 + 1)
  room-refilled old new an kept call encodes =
      let ended = call.behaves.step no_logs in
      let same : (state_of new no_logs).next ≡ (state_of old no_logs).next = elim ended.1 [
        | inl stopped ↦ absurd stopped.1
        | inr ran ↦ ap (λ (x : State). x.next) ran.1.1
      ] in
      room_refilled old new an kept same call.behaves.ceilings encodes

  -- the same after a step that found nothing to do
  pub room-idle : (old new : EndpointValue D) (an : ℕ) → IsSoundEndpoint old
      → IsCall disk_of old Advances (Advanced (Ok Idle)) new → IsEncodingAn new an
      → HasRoom new an ((standing_in new.store).identity.tx_block / 2 + 1)
  room-idle old new an kept call encodes =
      let idle = idle-step disk_of old new call in
      let free : old.reserving ≡ None = (at-rest old kept idle.2).reserving in
      let same : standing_in new.store ≡ standing_with_reserved (standing_in old.store) old.reserving =
      ap (λ (e : EndpointValue D). standing_in e.store) idle.0
      ∙ ap (λ (o : Option Raise). standing_with_reserved (standing_in old.store) o) (sym free) in
      let none : first_raise (standing_in new.store) (tx_side (state_of old no_logs))
      (rx_side (state_of old no_logs)) ≡ None =
      ap (λ (e : EndpointValue D). first_raise (standing_in e.store) (tx_side (state_of old no_logs))
      (rx_side (state_of old no_logs))) idle.0 ∙ idle.1 in
      room_refilled old new an kept (ap (λ (e : EndpointValue D). (state_of e no_logs).next) idle.0)
      (record { raises = []; raised = same; is_next = none }) encodes

  -- ---- where no number is left

  numbers_left : (an next ceiling count : ℕ) (sa : Option TxSa) (ceilings : ℕ → Option ℕ) → ceilings an ≡ Some ceiling
      → (next + count ≤ ceiling) ⊎ (ceiling ≡ 2 ^ 32) → 1 ≤ count
      → is_at_ceiling ceilings (outgoing_with an sa (Some next)) ≡ true
      → is_used_up (outgoing_with an sa (Some next)) ≡ false → ⊥
  numbers_left an next ceiling count None ceilings is_ceiling room least at unused = cc
  numbers_left an next ceiling count (Some sa) ceilings is_ceiling room least at unused =
      let reached : (ceiling == next) ≡ true =
      ap (λ (c : Option ℕ). option_map_or (λ x. x == next) c false) (sym is_ceiling) ∙ at in
      let same = eqb-true ceiling next reached in
      elim room [
        | inl below ↦ omega (arith, same, below, least)
        | inr all ↦ (let last = eq-eqb next (2 ^ 32) (omega (arith, same, all)) in cc)
      ]

  pub room-numbered : (old new : EndpointValue D) (an count : ℕ) (plain out : List ℕ) → IsEncodingAn old an
      → HasRoom old an count → 1 ≤ count
      → IsCall disk_of old (Protects plain) (Protected (Err (protect.Tx NoNumber)) out) new → ⊥
  room-numbered old new an count plain out encodes room least call =
      let side = tx_side (state_of old no_logs) in
      let c = (standing_in old.store).ceilings.tx in
      let goes : next_outgoing side ≡ outgoing_with an (side.tx an) (Some room.next) =
      ap (outgoing_at side) encodes.0 ∙ ap (outgoing_with an (side.tx an)) room.is_next in
      let ended = call.behaves.step no_logs in
      elim ended.1 [
        | inl stopped ↦ stopped.1
        | inr ran ↦ elim ran.1.0 [
          | inl is ↦ five_others _ _ _ _ _ is
          | inr none ↦
              let unused : is_used_up (next_outgoing side) ≡ false = not_exhausted _ _ _ _ _ none.0 in
              numbers_left an room.next room.ceiling count (side.tx an) c room.is_ceiling room.room least
              (subst (λ (o : Option Outgoing). is_at_ceiling c o ≡ true) goes call.behaves.limited)
              (subst (λ (o : Option Outgoing). is_used_up o ≡ false) goes unused)
        ]
      ]
