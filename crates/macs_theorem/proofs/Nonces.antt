-- No two frames have the same key and packet number, since each has others than all before it; and each key was
-- installed.
use Rattle.std.proofs.Common.{◌≡◌, ◌∙◌, inl, inr, ℕ, List, [], ◌∷◌, ◌++◌, Bool, true, false, Option, Some, None, Ok}
use Rattle.std.proofs.Common.{Err, refl, sym, ap, subst}
use Rattle.std.proofs.lemmas.Bool.{cases_eq}
use Rattle.std.specs.Prelude.{Contains, Result, filter, flat_map}
use Rattle.std.specs.List.{AllByRecursion}
use Rattle.std.specs.Option.{option_or}
use Rattle.std.proofs.lemmas.List.Elements.{Contains-append_left, Contains-append_right}
use Rattle.macs_aes.specs.Keys.{octets_of_key}
use Rattle.macs_config.specs.Identity.{Identity}
use Rattle.macs_config.specs.declared.command.Command.{Command}
use Rattle.macs_config.specs.declared.command.Command.TheVariants.{TxInstall, TxRemove}
use Rattle.macs_disk.specs.Disk.{Disk, IsHonest, now}
use Rattle.macs_disk.specs.States.{IsSound}
use Rattle.macs_rxsc.specs.declared.verdict.Kind.TheVariants.{Delayed, Ok as AsOk, Untagged}
use Rattle.macs_rxsc.specs.declared.verdict.Verdict.TheVariants.{Delivered, HeldBack}
use Rattle.macs_endpoint.specs.State.{Advanced, Advances, Call, Commands, Protected, Protects, Ran, Received, Receives}
use Rattle.macs_endpoint.specs.State.{Refilled, Refills, Reply, Submits, Submitted, Use}
use Rattle.macs_endpoint.specs.State.{Rested, Rests}
use Rattle.macs_endpoint.specs.declared.fault.RestFault.TheVariants as rest
use Rattle.macs_endpoint.specs.Step.{Exchange, IsStopped}
use Rattle.macs_endpoint.specs.declared.fault.CommandFault.TheVariants as ran
use Rattle.macs_endpoint.specs.declared.fault.CommandFault.{CommandFault}
use Rattle.macs_endpoint.specs.declared.fault.ProtectFault.TheVariants as protect
use Rattle.macs_endpoint.specs.declared.fault.RefillFault.TheVariants as refill
use Rattle.macs_endpoint.specs.declared.fault.StepFault.TheVariants as step
use Rattle.macs_endpoint.specs.declared.progress.Step.TheVariants.{Done, Idle, Reserved, Worked}
use Rattle.macs_endpoint.specs.declared.queue.Waiting.{Waiting}
use Rattle.macs_endpoint.specs.Value.{EndpointValue}
use Rattle.macs_headline.specs.Numbers.{HasNoneTwice}
use Rattle.macs_headline.proofs.Ledger.{none_some, some_one}
use Rattle.macs_headline.proofs.Lists.{all-on, contains-cases, contains-first, contains-later}
use Rattle.macs_headline.proofs.Lists.{contains-none, none-twice, pairs-none}
use Rattle.macs_headline.proofs.Places.{put-that, put-this}
use Rattle.macs_theorem.specs.Events.{Answer, Answers, Calls, Closes, Ends, EndsIn, Event, Formats, Happen, Happens}
use Rattle.macs_theorem.specs.Events.{Holds, HoldsDisk, HoldsEndpoint, IsAnswered, Opens, Shows}
use Rattle.macs_theorem.specs.Observer.{ExpectsAll, ExpectsCall, ExpectsCut, ExpectsReply, IsDone, IsFound, IsSent}
use Rattle.macs_theorem.specs.Observer.{Observer, after_command, begin, begun_in, new_observer, settings_after}
use Rattle.macs_theorem.specs.Observer.{unrested}
use Rattle.macs_theorem.specs.Page.{AreProtected, NoNumberTwice, calls_in, installed_by, writes}
use Rattle.macs_theorem.specs.Shown.{Settings, Shown, TxAssociation, shown_by}
use Rattle.macs_theorem.proofs.Events.{all-is-expected}

no_association : (sa : TxAssociation) → ◌≡◌ {A = Option TxAssociation} None (Some sa) → ⊥
no_association sa is = cc

no_octets : (octet : ℕ) (octets : List ℕ) → octet ∷ octets ≡ [] → ⊥
no_octets octet octets is = cc

-- the keys that calls are to install
abbrev installed_in : List Exchange → List (List ℕ)
installed_in calls = flat_map (λ (e : Exchange). installed_by e.call) calls

-- a command installs the same, handed in or submitted
same_installed : (c : Command) → installed_by (Submits c) ≡ installed_by (Commands c)
same_installed (TxInstall an key start confidential offset) = refl
same_installed c = refl

module _ (keys : List (List ℕ)) where
  -- ---- the keys that an observer knows

  -- a call installs none but these
  abbrev Installs : Call → Type 0
  Installs call = (key : List ℕ) → Contains (installed_by call) key → Contains keys key

  abbrev HaveThese : (ℕ → Option TxAssociation) → Type 0
  HaveThese tx = (an : ℕ) (sa : TxAssociation) → tx an ≡ Some sa → Contains keys sa.key

  abbrev AllInstall : List Waiting → Type 0
  AllInstall waiting = AllByRecursion (λ (w : Waiting). Installs (Commands w.command)) waiting

  abbrev MayInstall : Option Command → Type 0
  MayInstall begun = (c : Command) → begun ≡ Some c → Installs (Commands c)

  -- transmit associations have keys of these, and commands that wait or may have begun install them
  abbrev AreKnown : Observer → Type 0
  AreKnown o = HaveThese o.settings.tx × AllInstall o.waiting × MayInstall o.begun

  none_installs : MayInstall None
  none_installs c is = absurd (none_some c is)

  tx_after : (c : Command) (s : Settings) → Installs (Commands c) → HaveThese s.tx → HaveThese (settings_after c s).tx
  tx_after (TxInstall an key start confidential offset) s installs known at sa is = elim (cases_eq at an) [
    | inl same ↦
        let new : TxAssociation = record { key = octets_of_key key; confidential = confidential; offset = offset } in
        let here = put-this s.tx an at (Some new) same in
        let one : new ≡ sa = some_one (Some new) new sa refl (sym here ∙ is) in
        subst (λ (sa : TxAssociation). Contains keys sa.key) one
        (installs (octets_of_key key) (contains-first (octets_of_key key) []))
    | inr far ↦ known at sa (sym (put-that s.tx an at _ far) ∙ is)
  ]
  tx_after (TxRemove an) s installs known at sa is = elim (cases_eq at an) [
    | inl same ↦ absurd (no_association sa (sym (put-this s.tx an at None same) ∙ is))
    | inr far ↦ known at sa (sym (put-that s.tx an at None far) ∙ is)
  ]
  tx_after c s installs known at sa is = known at sa is

  known_after : (c : Command) (o : Observer) → Installs (Commands c) → AreKnown o → AreKnown (after_command c o)
  known_after c o installs known = (tx_after c o.settings installs known.0, known.1, none_installs)

  begun_or : (begun new : Option Command) → MayInstall begun → MayInstall new → MayInstall (option_or begun new)
  begun_or None new first second c is = second c is
  begun_or (Some d) new first second c is = first c is

  begun_by : (stopped : Bool) (call : Call) (waiting : List Waiting) → Installs call → AllInstall waiting
      → MayInstall (begun_in stopped call waiting)
  begun_by false (Commands d) [] installs known c is =
      subst (λ (c : Command). Installs (Commands c)) (some_one (Some d) d c refl is) installs
  begun_by false Advances (first ∷ rest) installs known c is =
      subst (λ (c : Command). Installs (Commands c)) (some_one (Some first.command) first.command c refl is) known.0
  begun_by stopped call waiting installs known c is = absurd (none_some c is)

  known_begun : (call : Call) (o : Observer) → Installs call → AreKnown o → AreKnown (begin call o)
  known_begun call o installs known = (
    known.0,
    known.1,
    begun_or o.begun (begun_in o.stopped call o.waiting) known.2
        (begun_by o.stopped call o.waiting installs known.1),
  )

  -- ---- one event

  -- the frames that these calls write have other keys and numbers than one another, and than those sent before
  abbrev AreOnce : Observer → List Exchange → Type 0
  AreOnce o calls = (uses : List Use) × AreProtected keys uses (filter (λ (e : Exchange). writes e.reply) calls)
      × HasNoneTwice uses
      × ((u : Use) → Contains uses u → ¬ Contains o.sent u)

  more : (o : Observer) (plain : List ℕ) (pn : ℕ) (out : List ℕ) (new : Observer) (calls : List Exchange)
      → AreKnown o → IsSent o plain pn out new → AreOnce new calls
      → AreOnce o (record { call = Protects plain; reply = Protected (Ok pn) out } ∷ calls)
  more o plain pn out new calls known s later =
      let first : Use = record { key = s.sa.key; pn = pn } in
      let used : new.sent ≡ first ∷ o.sent = ap (λ (o : Observer). o.sent) s.counted in
      let in_new : (u : Use) → Contains (first ∷ o.sent) u → Contains new.sent u =
      λ u among. subst (λ (l : List Use). Contains l u) (sym used) among in (
        first ∷ later.0,
        (
          (
            s.identity.sci,
            _,
            s.sa.offset,
            s.frame,
            known.0 s.an s.sa s.association,
            s.sci,
            refl,
            refl,
            s.range.0,
            s.range.1,
          ),
          later.1,
        ),
        none-twice first later.0 (λ among. later.3 first among (in_new first (contains-first first o.sent))) later.2,
        λ u among. elim (contains-cases first later.0 u among) [
          | inl same ↦ subst (λ (v : Use). ¬ Contains o.sent v) (sym same) s.fresh
          | inr rest ↦ λ was. later.3 u rest (in_new u (contains-later first o.sent u was))
        ],
      )

  -- one that sends no frame
  abbrev Quiet : Observer → Observer → Type 0
  Quiet o new = (new.sent ≡ o.sent) × AreKnown new

  quiet : (o : Observer) {mid new : Observer} → new ≡ mid → mid.sent ≡ o.sent → AreKnown mid → Quiet o new
  quiet o is sent known = (ap (λ (o : Observer). o.sent) is ∙ sent, subst AreKnown (sym is) known)

  same : (o new : Observer) (calls : List Exchange) → new.sent ≡ o.sent → AreOnce new calls → AreOnce o calls
  same o new calls is later = (
    later.0,
    later.1,
    later.2,
    λ u among. subst (λ (l : List Use). ¬ Contains l u) is (later.3 u among),
  )

  by_done : (o : Observer) (ticket : ℕ) (result : Result (Unit {0}) CommandFault) (new : Observer) → AreKnown o
      → IsDone o ticket result new → Quiet o new
  by_done o ticket (Ok done) new known (first, rest, waiting, is_ticket, are_new, is) =
      let all = subst AllInstall waiting known.1 in
      quiet o is refl (known_after first.command (record o { waiting = rest }) all.0 (known.0, all.1, known.2))
  by_done o ticket (Err fault) new known (first, rest, waiting, is_ticket, are_new, is) =
      let all = subst AllInstall waiting known.1 in
      quiet o is refl (known.0, all.1, none_installs)

  by_opening : (o : Observer) (formatted : Option Identity) (new : Observer) → AreKnown o → IsFound o formatted new
      → Quiet o new
  by_opening o (Some identity) new known (inl resumed) = quiet o resumed.3 refl (known.0, tt, none_installs)
  by_opening o (Some identity) new known (inr (c, begun, is_new, resumed)) =
      quiet o resumed.3 refl (tx_after c o.settings (known.2 c begun) known.0, tt, none_installs)
  by_opening o None new known (identity, among, is) = quiet o is refl known

  -- what follows the calls after this one follows it too
  abbrev Leads : Observer → Call → Reply → Observer → Type 0
  Leads o call reply new = (calls : List Exchange) → (AreKnown new → AreOnce new calls)
      → AreOnce o (record { call = call; reply = reply } ∷ calls)

  -- where it writes none
  leads : (o : Observer) (call : Call) (reply : Reply) (new : Observer)
      → writes reply ≡ false → Quiet o new → Leads o call reply new
  leads o call reply new none q calls rest =
      let later = same o new calls q.0 (rest q.1) in
      rw none (later)

  by_call : (o : Observer) (call : Call) (reply : Reply) (new : Observer) → Installs call → AreKnown o
      → ExpectsCall o call reply new → Leads o call reply new
  by_call o (Protects plain) (Protected (Ok pn) out) new installs known is =
      λ calls rest. more o plain pn out new calls known is (rest (subst AreKnown (sym is.counted) known))
  by_call o (Protects plain) (Protected (Err fault) []) new installs known is =
      leads o (Protects plain) (Protected (Err fault) []) new refl (quiet o is.1 refl known)
  by_call o (Protects plain) (Protected (Err fault) (octet ∷ out)) new installs known is =
      absurd (no_octets octet out is.0)
  by_call o (Receives frame) (Received (Ok (Delivered AsOk)) out) new installs known is =
      leads o (Receives frame) (Received (Ok (Delivered AsOk)) out) new refl (quiet o is.counted refl known)
  by_call o (Receives frame) (Received (Ok (Delivered Delayed)) out) new installs known is =
      leads o (Receives frame) (Received (Ok (Delivered Delayed)) out) new refl (quiet o is.counted refl known)
  by_call o (Receives frame) (Received (Ok (Delivered Untagged)) out) new installs known is =
      leads o (Receives frame) (Received (Ok (Delivered Untagged)) out) new refl (quiet o is.3 refl known)
  by_call o (Receives frame) (Received (Ok (Delivered kind)) out) new installs known is =
      leads o (Receives frame) (Received (Ok (Delivered kind)) out) new refl (quiet o is.5 refl known)
  by_call o (Receives frame) (Received (Ok HeldBack) out) new installs known is =
      leads o (Receives frame) (Received (Ok HeldBack) out) new refl (quiet o is.1.counted refl known)
  by_call o (Receives frame) (Received answer out) new installs known is =
      leads o (Receives frame) (Received answer out) new refl (quiet o is.1 refl known)
  by_call o (Commands c) (Ran (Ok done)) new installs known is =
      leads o (Commands c) (Ran (Ok done)) new refl (quiet o is.2 refl (known_after c o installs known))
  by_call o (Commands c) (Ran (Err ran.Disk)) new installs known is =
      leads o (Commands c) (Ran (Err ran.Disk)) new refl (quiet o is refl (known_begun (Commands c) o installs known))
  by_call o (Commands c) (Ran (Err fault)) new installs known is =
      leads o (Commands c) (Ran (Err fault)) new refl (quiet o is refl known)
  by_call o (Submits c) (Submitted (Ok ticket)) new installs known is =
      let one : Waiting = record { ticket = ticket; command = c } in
      let all : AllInstall (o.waiting ++ one ∷ []) =
      all-on (λ (w : Waiting). Installs (Commands w.command)) o.waiting one known.1
      (subst (λ (l : List (List ℕ)). (key : List ℕ) → Contains l key → Contains keys key) (same_installed c) installs)
      in
      leads o (Submits c) (Submitted (Ok ticket)) new refl (quiet o is.1 refl (known.0, all, known.2))
  by_call o (Submits c) (Submitted (Err fault)) new installs known is =
      leads o (Submits c) (Submitted (Err fault)) new refl (quiet o is refl known)
  by_call o Advances (Advanced (Ok Idle)) new installs known is =
      leads o Advances (Advanced (Ok Idle)) new refl (quiet o is.1 refl known)
  by_call o Advances (Advanced (Ok Worked)) new installs known is =
      leads o Advances (Advanced (Ok Worked)) new refl (quiet o is refl (known_begun Advances o installs known))
  by_call o Advances (Advanced (Ok Reserved)) new installs known is =
      leads o Advances (Advanced (Ok Reserved)) new refl (quiet o is refl known)
  by_call o Advances (Advanced (Ok (Done ticket result))) new installs known is =
      leads o Advances (Advanced (Ok (Done ticket result))) new refl (by_done o ticket result new known is)
  by_call o Advances (Advanced (Err step.Disk)) new installs known is =
      leads o Advances (Advanced (Err step.Disk)) new refl (quiet o is refl (known_begun Advances o installs known))
  by_call o Advances (Advanced (Err fault)) new installs known is =
      leads o Advances (Advanced (Err fault)) new refl (quiet o is refl known)
  by_call o Refills (Refilled (Err refill.Disk)) new installs known is =
      leads o Refills (Refilled (Err refill.Disk)) new refl (quiet o is refl known)
  by_call o Refills (Refilled result) new installs known is =
      leads o Refills (Refilled result) new refl (quiet o is refl known)
  by_call o Rests (Rested (Ok done)) new installs known is =
      leads o Rests (Rested (Ok done)) new refl (quiet o is.1 refl known)
  by_call o Rests (Rested (Err rest.Disk)) new installs known is =
      leads o Rests (Rested (Err rest.Disk)) new refl (quiet o is refl known)
  by_call o Rests (Rested result) new installs known is =
      leads o Rests (Rested result) new refl (quiet o is refl known)
  by_call o call reply new installs known is = absurd is

  -- a stopped endpoint writes no frame
  none_stopped : (call : Call) (reply : Reply) → IsStopped call reply
      → writes reply ≡ false
  none_stopped (Protects plain) (Protected (Err fault) []) is = refl
  none_stopped (Protects plain) (Protected (Err protect.Stopped) (octet ∷ out)) is = absurd (no_octets octet out is)
  none_stopped (Protects plain) (Protected (Err fault) (octet ∷ out)) is = absurd is
  none_stopped (Protects plain) (Protected (Ok pn) out) is = absurd is
  none_stopped (Receives frame) (Received answer out) is = refl
  none_stopped (Commands c) (Ran result) is = refl
  none_stopped Refills (Refilled result) is = refl
  none_stopped Rests (Rested result) is = refl
  none_stopped (Submits c) (Submitted result) is = refl
  none_stopped Advances (Advanced result) is = refl
  none_stopped call reply is = absurd is

  by_reply : (stopped : Bool) (o : Observer) (call : Call) (reply : Reply) (new : Observer) → Installs call → AreKnown o
      → ExpectsReply stopped o call reply new → Leads o call reply new
  by_reply true o call reply new installs known is =
      leads o call reply new (none_stopped call reply is.0) (quiet o is.1 refl known)
  by_reply false o call reply new installs known is = by_call o call reply new installs known is.1

  -- and where a program ends in a call
  by_cut : (o : Observer) (call : Call) (reply : Reply) (new : Observer) → Installs call → AreKnown o
      → ExpectsCut o call reply new → Leads o call reply new
  by_cut o (Commands c) (Ran (Ok done)) new installs known is =
      leads o (Commands c) (Ran (Ok done)) new refl (quiet o is refl (known_begun (Commands c) o installs known))
  by_cut o (Commands c) (Ran (Err ran.Disk)) new installs known is =
      leads o (Commands c) (Ran (Err ran.Disk)) new refl (quiet o is refl (known_begun (Commands c) o installs known))
  by_cut o (Commands c) (Ran (Err ran.GenerationsSpent)) new installs known is =
      leads o (Commands c) (Ran (Err ran.GenerationsSpent)) new refl
      (quiet o is refl (known_begun (Commands c) o installs known))
  by_cut o Refills (Refilled result) new installs known is =
      leads o Refills (Refilled result) new refl (quiet o is refl known)
  by_cut o Rests (Rested result) new installs known is =
      leads o Rests (Rested result) new refl (quiet o is refl known)
  by_cut o Advances (Advanced (Ok Worked)) new installs known is =
      leads o Advances (Advanced (Ok Worked)) new refl (quiet o is refl (known_begun Advances o installs known))
  by_cut o Advances (Advanced (Ok Reserved)) new installs known is =
      leads o Advances (Advanced (Ok Reserved)) new refl (quiet o is refl (known_begun Advances o installs known))
  by_cut o Advances (Advanced (Ok (Done ticket (Ok done)))) new installs known is =
      leads o Advances (Advanced (Ok (Done ticket (Ok done)))) new refl
      (quiet o is refl (known_begun Advances o installs known))
  by_cut o Advances (Advanced (Err step.Disk)) new installs known is =
      leads o Advances (Advanced (Err step.Disk)) new refl (quiet o is refl (known_begun Advances o installs known))
  by_cut o call reply new installs known is = by_reply o.stopped o call reply new installs known is

  -- ---- one event after another

  -- these calls install none but these keys
  abbrev AllThese : List Exchange → Type 0
  AllThese calls = (key : List ℕ) → Contains (installed_in calls) key → Contains keys key

  once_on : (o : Observer) (call : Call) (reply : Reply) (new : Observer) (events : List (Event Shown))
      → AllThese (record { call = call; reply = reply } ∷ calls_in events)
      → (Installs call → Leads o call reply new)
      → (AllThese (calls_in events) → AreKnown new → AreOnce new (calls_in events))
      → AreOnce o (record { call = call; reply = reply } ∷ calls_in events)
  once_on o call reply new events these leads rest =
      leads
      (λ key among. these key (Contains-append_left (installed_by call) (installed_in (calls_in events)) key among))
      (calls_in events)
      (rest (λ key among.
      these key (Contains-append_right (installed_by call) (installed_in (calls_in events)) key among)))

  -- an event that is no call
  once_by : (o new : Observer) (calls : List Exchange) → Quiet o new → (AreKnown new → AreOnce new calls)
      → AreOnce o calls
  once_by o new calls q rest = same o new calls q.0 (rest q.1)

  once : (events : List (Event Shown)) (o : Observer) → AllThese (calls_in events) → AreKnown o → ExpectsAll o events
      → AreOnce o (calls_in events)
  once [] o these known expected = ([], tt, pairs-none, λ u among. absurd (contains-none u among))
  once (Answers (Calls call reply) ∷ events) o these known (new, is, rest) =
      once_on (unrested o) call reply new events these
      (λ installs. by_reply o.stopped (unrested o) call reply new installs known is)
      (λ these known. once events new these known rest)
  once (EndsIn (Calls call reply) ∷ events) o these known (new, is, rest) =
      once_on (unrested o) call reply new events these
      (λ installs. by_cut (unrested o) call reply new installs known is)
      (λ these known. once events new these known rest)
  once (Answers (Formats identity (Ok done)) ∷ events) o these known (new, is, rest) =
      once_by o new (calls_in events) (quiet o is.1 refl known) (λ known. once events new these known rest)
  once (Answers (Opens (Ok done)) ∷ events) o these known (new, is, rest) =
      once_by o new (calls_in events) (by_opening o o.formatted new known is)
      (λ known. once events new these known rest)
  once (Answers (Opens (Err fault)) ∷ events) o these known (new, is, rest) =
      once_by o new (calls_in events) (quiet o is.1 refl known) (λ known. once events new these known rest)
  once (Answers (Shows shown) ∷ events) o these known (new, is, rest) =
      once_by o new (calls_in events) (quiet o is.1 refl known) (λ known. once events new these known rest)
  once (event ∷ events) o these known (new, is, rest) =
      once_by o new (calls_in events) (quiet o is refl known) (λ known. once events new these known rest)

-- ---- what readers show does not matter

module _ {D : Type 0} (disk_of : D → Disk) where
  -- the same call, with what the readers of the endpoint show
  abbrev with_shown : Holds D → Answer (Unit {0}) → Answer Shown
  with_shown old (Formats identity result) = Formats identity result
  with_shown old (Opens result) = Opens result
  with_shown old (Calls call reply) = Calls call reply
  with_shown (HoldsDisk disk) (Shows nothing) = Closes
  with_shown (HoldsEndpoint e) (Shows nothing) = Shows (shown_by e)
  with_shown old Closes = Closes

  abbrev as_seen : Holds D → Event (Unit {0}) → Event Shown
  as_seen old (Answers answer) = Answers (with_shown old answer)
  as_seen old (EndsIn answer) = EndsIn (with_shown old answer)
  as_seen old Ends = Ends

  abbrev nothing : EndpointValue D → Unit {0}
  nothing e = tt

  answered : (old : Holds D) (answer : Answer (Unit {0})) (new : Holds D) → IsAnswered disk_of nothing old answer new
      → IsAnswered disk_of shown_by old (with_shown old answer) new
  answered (HoldsDisk old) (Formats identity result) (HoldsDisk new) is = is
  answered (HoldsDisk old) (Opens (Ok done)) (HoldsEndpoint new) is = is
  answered (HoldsDisk old) (Opens (Err fault)) (HoldsDisk new) is = is
  answered (HoldsEndpoint old) (Calls call reply) (HoldsEndpoint new) is = is
  answered (HoldsEndpoint old) (Shows shown) (HoldsEndpoint new) is = (refl, is.1)
  answered (HoldsEndpoint old) Closes (HoldsDisk new) is = is
  answered old answer new is = absurd is

  happens : (old : Holds D) (event : Event (Unit {0})) (new : Holds D) → Happens disk_of nothing old event new
      → Happens disk_of shown_by old (as_seen old event) new
  happens old (Answers answer) new is = answered old answer new is
  happens old (EndsIn answer) (HoldsDisk new) (ran, is, passes) = (ran, answered old answer ran is, passes)
  happens old (EndsIn answer) (HoldsEndpoint new) is = absurd is
  happens old Ends (HoldsDisk new) is = is
  happens old Ends (HoldsEndpoint new) is = absurd is

  -- there are the same calls
  same_calls : (old : Holds D) (event : Event (Unit {0})) (events : List (Event (Unit {0})))
      (seen : List (Event Shown))
      → calls_in seen ≡ calls_in events → calls_in (as_seen old event ∷ seen) ≡ calls_in (event ∷ events)
  same_calls old (Answers (Calls call reply)) events seen is =
      ap (λ (l : List Exchange). record { call = call; reply = reply } ∷ l) is
  same_calls old (EndsIn (Calls call reply)) events seen is =
      ap (λ (l : List Exchange). record { call = call; reply = reply } ∷ l) is
  same_calls (HoldsDisk disk) (Answers (Shows nothing)) events seen is = is
  same_calls (HoldsEndpoint e) (Answers (Shows nothing)) events seen is = is
  same_calls (HoldsDisk disk) (EndsIn (Shows nothing)) events seen is = is
  same_calls (HoldsEndpoint e) (EndsIn (Shows nothing)) events seen is = is
  same_calls old event events seen is = is

  -- all events, as they are seen
  all_seen : (events : List (Event (Unit {0}))) (old end : Holds D) → Happen disk_of nothing old events end
      → (seen : List (Event Shown)) × Happen disk_of shown_by old seen end × (calls_in seen ≡ calls_in events)
  all_seen [] old end same = ([], same, refl)
  all_seen (event ∷ events) old end (mid, is, rest) =
      let later = all_seen events mid end rest in (
        as_seen old event ∷ later.0,
        (mid, happens old event mid is, later.1),
        same_calls old event events later.0 later.2,
      )

  none_known : (keys : List (List ℕ)) → AreKnown keys new_observer
  none_known keys = (λ an sa is. absurd (no_association sa is), tt, none_installs keys)

  abbrev AreOnceIn : List Exchange → Type 0
  AreOnceIn calls =
      (uses : List Use) × AreProtected (installed_in calls) uses (filter (λ (e : Exchange). writes e.reply) calls)
      × HasNoneTwice uses

  pub nonces-once : (sound : (it : D) → IsHonest (disk_of it) → IsSound (now (disk_of it))) → NoNumberTwice disk_of
  nonces-once sound disk events end new happen =
      let seen = all_seen events (HoldsDisk disk) end happen in
      let keys = installed_in (calls_in seen.0) in
      let are = once keys seen.0 new_observer (λ key among. among) (none_known keys)
      (all-is-expected disk_of sound disk seen.0 end new seen.1) in
      subst AreOnceIn seen.2 (are.0, are.1, are.2)
