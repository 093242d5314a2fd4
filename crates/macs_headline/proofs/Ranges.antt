-- Next packet numbers stay within 1 and 2^32, and commands under way and those that wait in their ranges.
use Rattle.std.proofs.Common.{◌≡◌, ◌<◌, ◌≤◌, ◌+◌, ◌%◌, ◌^◌, ◌==◌, inl, inr, ℕ, refl, sym, ◌∙◌, ap, subst, arith, List}
use Rattle.std.proofs.Common.{[], ◌∷◌, length, true, false, Ok}
use Rattle.std.specs.Prelude.{Option, Some, None, IfSome, not, ◌&&◌, slice_index}
use Rattle.std.specs.List.{AllByRecursion}
use Rattle.std.proofs.lemmas.Bool.{cases_eq, eq-eqb, ltb-false, not-false}
use Rattle.macs_fields.specs.Fields.{octets_of}
use Rattle.macs_frame.specs.Opening.{Verified}
use Rattle.macs_frame.specs.Protection.{overhead}
use Rattle.macs_frame.specs.Tag.{has_bit, name_of}
use Rattle.macs_config.specs.Apply.{IsCommand, config_after, refusal_of}
use Rattle.macs_config.specs.Association.{is_confidential, is_end_station, offset_of}
use Rattle.macs_config.specs.Config.{Config, Edition}
use Rattle.macs_config.specs.Identity.{Identity, is_port_one}
use Rattle.macs_config.specs.Tables.{put}
use Rattle.macs_config.specs.declared.association.TxSa.{TxSa}
use Rattle.macs_config.specs.declared.command.Command.{Command}
use Rattle.macs_config.specs.declared.command.Command.TheVariants.{SetSciMode, TxInstall, TxRemove}
use Rattle.macs_config.specs.declared.command.SciMode.{SciMode}
use Rattle.macs_config.specs.declared.command.SciMode.TheVariants.{EndStation, Explicit, Implicit}
use Rattle.macs_disk.specs.States.{Image}
use Rattle.macs_txsc.specs.Transmit.{is_used_up, name_in, next_outgoing, tag_for, tx_faults}
use Rattle.macs_rxsc.specs.Receive.{Numbers}
use Rattle.macs_store.specs.Found.{StandingIs}
use Rattle.macs_store.specs.Standing.{Standing}
use Rattle.macs_store.proofs.LargerEditions.{of-edition}
use Rattle.macs_endpoint.specs.Calls.{IsInRange}
use Rattle.macs_endpoint.specs.Queue.{with_waiting}
use Rattle.macs_endpoint.specs.declared.queue.Waiting.{Waiting}
use Rattle.macs_endpoint.specs.Restart.{Restart, Resumes, TxRises, opened_state}
use Rattle.macs_endpoint.specs.State.{Call, Protected, Protects, Reply, State, Logs, no_logs, state_with_under_way}
use Rattle.macs_endpoint.specs.State.{tx_side}
use Rattle.macs_endpoint.specs.Step.{Exchange, Makes, ProtectStep, Step, Steps, TakesUp, next_after}
use Rattle.macs_endpoint.specs.Step.{state_after_delivery, state_after_hold, state_without_first}
use Rattle.macs_headline.specs.Frames.{FramesAreStandard, IsNamedIn, IsStandardFrame}
use Rattle.macs_headline.specs.History.{Blank, FitsPast, FormatLeads, Formats, Formatted, IsLifeSoFar, LeadOn, Leads}
use Rattle.macs_headline.specs.History.{Life, Past, Refuses, Serves, formatted_state, logs_of, state_at_end}
use Rattle.macs_headline.specs.Moments.{Moment, OfItsEdition}
use Rattle.macs_headline.proofs.Ledger.{some_one}
use Rattle.macs_headline.proofs.Places.{put-that, put-this}
use Rattle.macs_headline.proofs.Changes.{Begins, BeginsAndStops, Breaks, Change, Completes, Delivers, Drops, HoldsBack}
use Rattle.macs_headline.proofs.Changes.{Obeys, Queues, Sends, Stays, Stops, change-of}
use Rattle.macs_headline.proofs.Accepted.{NoTest, accepted, no-test, right-mode, right-start, tx_of}
use Rattle.macs_headline.proofs.LifeEnds.{by-end}
use Rattle.macs_headline.proofs.Effects.{outgoing_is}
use Rattle.macs_headline.proofs.FramesRead.{frame-bits, frame-named, frame-read, own-source, short-length}
use Rattle.macs_headline.proofs.Histories.{fits-restart, found-new}

-- a next packet number
abbrev IsNext : ℕ → Type 0
IsNext m = (1 ≤ m) × (m ≤ 2 ^ 32)

-- each command that waits is in its ranges
abbrev AreCommands : List Waiting → Type 0
AreCommands waiting = AllByRecursion (λ (w : Waiting). IsCommand w.command) waiting

-- transmit associations have the numbers 0 to 3, and in end station mode the port is 00-01
abbrev IsTxRanged : Identity → Config → Type 0
IsTxRanged identity config =
    ((an : ℕ) (sa : TxSa) → config.tx an ≡ Some sa → an < 4)
    × (config.mode ≡ EndStation → is_port_one identity.sci ≡ true)

-- a state of a program of this edition, with numbers, associations and commands in their ranges
pub record IsRanged (edition : Edition) (s : State) : Type 0 where
  pub same : s.edition ≡ edition
  pub nexts : (an m : ℕ) → s.next an ≡ Some m → IsNext m
  pub channel : IsTxRanged s.identity s.config
  pub hand : (c : Command) → s.under_way ≡ Some c → IsCommand c
  pub queue : AreCommands s.waiting

none_some : {X : Type 0} (o : Option X) (x : X) → o ≡ None → o ≡ Some x → ⊥
none_some o x is js = absurd (cc)

-- ---- commands

-- a command in its ranges that is accepted keeps the numbers in theirs
nexts_after : (edition : Edition) (identity : Identity) (config : Config) (c : Command) (next : ℕ → Option ℕ)
    → IsCommand c
    → refusal_of edition identity config c ≡ None → ((an m : ℕ) → next an ≡ Some m → IsNext m) → (an m : ℕ)
    → next_after c next an ≡ Some m → IsNext m
nexts_after edition identity config (TxInstall at key start confidential offset) next ranged ok old an m is =
    elim (cases_eq an at) [
      | inl here ↦
          let test : (start == 0) ≡ false =
          right-start edition identity config (TxInstall at key start confidential offset) ok in
          let one : start ≡ m =
          some_one (put next at (Some start) an) start m (put-this next at an (Some start) here) is in
          let small : start < 2 ^ 32 = ranged.2 in
          elim (cases_eq start 0) [
            | inl none ↦ let test_true : (start == 0) ≡ true = eq-eqb start 0 none in absurd (cc)
            | inr some ↦ (omega (arith, one, some), omega (arith, one, small))
          ]
      | inr apart ↦ old an m (sym (put-that next at an (Some start) apart) ∙ is)
    ]
nexts_after edition identity config (TxRemove at) next ranged ok old an m is = elim (cases_eq an at) [
  | inl here ↦ let gone = put-this next at an None here in absurd (cc)
  | inr apart ↦ old an m (sym (put-that next at an None apart) ∙ is)
]
nexts_after edition identity config c next ranged ok old an m is = old an m is

port_by : (mode : SciMode) (sci : List ℕ) → (is_end_station mode && not (is_port_one sci)) ≡ false → mode ≡ EndStation
    → is_port_one sci ≡ true
port_by Explicit sci test is = absurd (cc)
port_by Implicit sci test is = absurd (cc)
port_by EndStation sci test is = not-false (is_port_one sci) test

-- and keeps the associations and the mode in theirs
channel_after : (edition : Edition) (identity : Identity) (old : Config) (c : Command) → IsCommand c
    → refusal_of edition identity old c ≡ None
    → IsTxRanged identity old → IsTxRanged identity (config_after old c)
channel_after edition identity old (SetSciMode mode) given ok is =
    (is.0, λ station. port_by mode identity.sci (right-mode edition identity old (SetSciMode mode) ok) station)
channel_after edition identity old (TxInstall at key start confidential offset) given ok is = (
  λ an sa there. elim (cases_eq an at) [
    | inl here ↦ let few : at < 4 = given.0 in omega (arith, few, here)
    | inr apart ↦ is.0 an sa (sym (put-that old.tx at an (Some (tx_of key confidential offset)) apart) ∙ there)
  ],
  is.1,
)
channel_after edition identity old (TxRemove at) given ok is = (
  λ an sa there. elim (cases_eq an at) [
    | inl here ↦ absurd (none_some (put old.tx at None an) sa (put-this old.tx at an None here) there)
    | inr apart ↦ is.0 an sa (sym (put-that old.tx at an None apart) ∙ there)
  ],
  is.1,
)
channel_after edition identity old c given ok is = is

module _ (edition : Edition) where
  same_range : (old new : State) → new ≡ old → IsRanged edition old → IsRanged edition new
  same_range old new is ranged = subst (IsRanged edition) (sym is) ranged

  makes_range : (old : State) (c : Command) (new : State) → IsCommand c → Makes old c new → IsRanged edition old
      → IsRanged edition new
  makes_range old c new command m ranged =
      let a = accepted old.edition old.identity old.config c m.0 m.1 in
      subst (IsRanged edition) (sym m.2) (record {
        same = ranged.same;
        nexts = nexts_after old.edition old.identity old.config c old.next command a.0 ranged.nexts;
        channel = subst (IsTxRanged old.identity) (sym a.1)
            (channel_after old.edition old.identity old.config c command a.0 ranged.channel);
        hand = λ d is. absurd (none_some None d refl is);
        queue = ranged.queue;
      })

  -- no range is of the numbers that are received, or of what is logged
  numbers_range : (old : State) (numbers : List ℕ → ℕ → Option Numbers) (logs : Logs) (new : State)
      → new ≡ record old { numbers = numbers; logs = logs } → IsRanged edition old → IsRanged edition new
  numbers_range old numbers logs new is ranged = subst (IsRanged edition) (sym is) (record {
    same = ranged.same;
    nexts = ranged.nexts;
    channel = ranged.channel;
    hand = ranged.hand;
    queue = ranged.queue;
  })

  stopped_range : (old new : State) → new ≡ record old { stopped = true } → IsRanged edition old → IsRanged edition new
  stopped_range old new is ranged = subst (IsRanged edition) (sym is) (record {
    same = ranged.same;
    nexts = ranged.nexts;
    channel = ranged.channel;
    hand = ranged.hand;
    queue = ranged.queue;
  })

  hand_range : (s : State) (c : Command) → IsCommand c → IsRanged edition s
      → IsRanged edition (state_with_under_way s c)
  hand_range s c command ranged = record {
    same = ranged.same;
    nexts = ranged.nexts;
    channel = ranged.channel;
    hand = λ d is. subst IsCommand (let one : c ≡ d = cc in one) command;
    queue = ranged.queue;
  }

  -- one more that waits
  more_commands : (waiting : List Waiting) (ticket : ℕ) (c : Command) → IsCommand c → AreCommands waiting
      → AreCommands (with_waiting waiting ticket c)
  more_commands [] ticket c command are = (command, tt)
  more_commands (first ∷ rest) ticket c command are = (are.0, more_commands rest ticket c command are.1)

  -- the first one that waits
  first_command : (old : State) (first : Waiting) (rest : List Waiting) → old.waiting ≡ first ∷ rest
      → IsRanged edition old
      → IsCommand first.command × AreCommands rest
  first_command old first rest waiting ranged = subst AreCommands waiting ranged.queue

  taken_up : (old new : State) → TakesUp old new → IsRanged edition old → IsRanged edition new
  taken_up old new (first, rest, waiting, idle, accepts, is) ranged =
      same_range (state_with_under_way old first.command) new is
      (hand_range old first.command (first_command old first rest waiting ranged).0 ranged)

  -- it no longer waits
  without_first : (old : State) (rest : List Waiting) → AreCommands rest → IsRanged edition old
      → IsRanged edition (state_without_first old rest)
  without_first old rest are ranged = record {
    same = ranged.same;
    nexts = ranged.nexts;
    channel = ranged.channel;
    hand = λ d is. absurd (none_some None d refl is);
    queue = are;
  }

  -- a frame that goes out
  goes_out : (old : State) (plain : List ℕ) (pn : ℕ) (out : List ℕ) (new : State)
      → ProtectStep old plain (Ok pn) out new → IsRanged edition old
      → IsStandardFrame old plain pn out new × IsRanged edition new
  goes_out old plain pn out new (none, (o, is_o, is_pn, is_out, is)) ranged =
      let there = outgoing_is (tx_side old) old.config.encoding o is_o in
      let within : IsNext o.pn = ranged.nexts o.an o.pn there.next_is in
      let tests : NoTest (tx_faults (tx_side old) plain) = no-test (tx_faults (tx_side old) plain) none in
      let test : is_used_up (next_outgoing (tx_side old)) ≡ false = tests.1.1.1.1.0 in
      let left : (o.pn == 2 ^ 32) ≡ false = ap is_used_up (sym is_o) ∙ test in
      let long : 14 ≤ length plain = ltb-false (length plain) 14 tests.0 in
      let fits : length plain + overhead (name_in old.config.mode old.identity.sci) ≤ 9216 =
      ltb-false 9216 (length plain + overhead (name_in old.config.mode old.identity.sci)) tests.1.0 in
      let placed : o.an < 4 = ranged.channel.0 o.an o.sa there.sa_is in
      let below : o.pn < 2 ^ 32 = elim (cases_eq o.pn (2 ^ 32)) [
        | inl last ↦ let test_true : (o.pn == 2 ^ 32) ≡ true = eq-eqb o.pn (2 ^ 32) last in absurd (cc)
        | inr apart ↦ let most = within.1 in omega (arith, most, apart)
      ] in (
        subst (λ (pn : ℕ). IsStandardFrame old plain pn out new) (sym is_pn) (record {
          an = o.an;
          sa = o.sa;
          encoding = there.encoding_is;
          association = there.sa_is;
          number = there.next_is;
          least = within.0;
          most = below;
          frame = is_out;
          short = ap (λ (frame : List ℕ). slice_index frame 15) is_out
              ∙ short-length o.sa.key old.identity.sci (tag_for (tx_side old) o)
              (octets_of (offset_of o.sa.protection)) plain long;
          logged = ap (λ (s : State). s.logs.used) is;
          next = ap (λ (s : State). s.next o.an) is ∙ put-this old.next o.an o.an (Some (o.pn + 1)) refl;
          own = own-source old.config.mode old.identity.sci plain tests.1.1.0 ranged.channel.1;
          named = λ identity.
              subst (λ (frame : List ℕ). IsNamedIn old.config.mode old.identity.sci (name_of frame)) (sym is_out)
              (frame-named old plain o identity placed within.0 below long fits);
          bits = λ identity. subst (λ (frame : List ℕ). (slice_index frame 14 % 4 ≡ o.an)
              × (has_bit (slice_index frame 14) 0x08 ≡ is_confidential o.sa.protection)
              × (has_bit (slice_index frame 14) 0x04 ≡ is_confidential o.sa.protection)) (sym is_out)
              (frame-bits old plain o identity placed within.0 below long fits);
          read = λ identity. subst (λ (frame : List ℕ).
              Verified frame o.sa.key old.identity.sci (octets_of (offset_of o.sa.protection)) plain) (sym is_out)
              (frame-read old plain o identity placed within.0 below long fits);
        }),
        subst (IsRanged edition) (sym is) (record {
          same = ranged.same;
          nexts = λ an m is_m. elim (cases_eq an o.an) [
            | inl here ↦
                let one : o.pn + 1 ≡ m = some_one (put old.next o.an (Some (o.pn + 1)) an) (o.pn + 1) m
                (put-this old.next o.an an (Some (o.pn + 1)) here) is_m in
                (omega (arith, one), omega (arith, one, below))
            | inr apart ↦ ranged.nexts an m (sym (put-that old.next o.an an (Some (o.pn + 1)) apart) ∙ is_m)
          ];
          channel = ranged.channel;
          hand = ranged.hand;
          queue = ranged.queue;
        }),
      )

  by_change : (old : State) (call : Call) (reply : Reply) (new : State) → IsInRange call → Change old call reply new
      → IsRanged edition old → IsRanged edition new
  by_change old call reply new given (Stays is) ranged = same_range old new is ranged
  by_change old call reply new given (Stops is) ranged = stopped_range old new is ranged
  by_change old call reply new given (Obeys c asked none makes) ranged =
      makes_range old c new (subst (λ (call : Call). IsInRange call) asked given) makes ranged
  by_change old call reply new given (Breaks c asked told none accepts is) ranged =
      stopped_range (state_with_under_way old c) new is
      (hand_range old c (subst (λ (call : Call). IsInRange call) asked given) ranged)
  by_change old call reply new given (Queues c asked is) ranged =
      let command : IsCommand c = subst (λ (call : Call). IsInRange call) asked given in
      subst (IsRanged edition) (sym is) (record {
        same = ranged.same;
        nexts = ranged.nexts;
        channel = ranged.channel;
        hand = ranged.hand;
        queue = more_commands old.waiting (old.tickets + 1) c command ranged.queue;
      })
  by_change old call reply new given (Begins asked takes) ranged = taken_up old new takes ranged
  by_change old call reply new given (BeginsAndStops asked mid takes is) ranged =
      stopped_range mid new is (taken_up old mid takes ranged)
  by_change old call reply new given (Completes asked first rest waiting makes) ranged =
      let queue = first_command old first rest waiting ranged in
      makes_range (state_without_first old rest) first.command new queue.0 makes (without_first old rest queue.1 ranged)
  by_change old call reply new given (Drops asked first rest waiting is) ranged =
      same_range (state_without_first old rest) new is
      (without_first old rest (first_command old first rest waiting ranged).1 ranged)
  by_change old call reply new given (Sends plain asked pn out h) ranged = (goes_out old plain pn out new h ranged).1
  by_change old call reply new given (HoldsBack frame asked a there is) ranged =
      numbers_range old (state_after_hold old a).numbers old.logs new is ranged
  by_change old call reply new given (Delivers frame asked a there is) ranged =
      numbers_range old (state_after_delivery old a).numbers (state_after_delivery old a).logs new is ranged

  by_step : (old : State) (call : Call) (reply : Reply) (new : State) → IsInRange call → Step old call reply new
      → IsRanged edition old → IsRanged edition new
  by_step old call reply new given (inl (stopped, answer, is)) ranged = same_range old new is ranged
  by_step old call reply new given (inr (running, h)) ranged =
      by_change old call reply new given (change-of old new call reply h) ranged

  by_steps : (old : State) (exchanges : List Exchange) (new : State)
      → AllByRecursion (λ (e : Exchange). IsInRange e.call) exchanges
      → Steps old exchanges new → IsRanged edition old → IsRanged edition new
  by_steps old [] new given steps ranged = same_range old new steps ranged
  by_steps old (e ∷ es) new given steps ranged =
      by_steps steps.0 es new given.1 steps.2 (by_step old e.call e.reply steps.0 given.0 steps.1 ranged)

  -- ---- the end of a life

  end_range : (s : State) (cut : Option Call) → IfSome cut (λ call. IsInRange call) → IsRanged edition s
      → IsRanged edition (state_at_end s cut)
  end_range s cut given ranged = by-end (IsRanged edition) s ranged cut
      (λ c taken. hand_range s c (elim taken.how [
        | inl own ↦ subst (λ (cut : Option Call). IfSome cut (λ call. IsInRange call)) own.0 given
        | inr queued ↦
            let there = queued.2 in
            subst IsCommand there.3 (first_command s there.0 there.1 there.2 ranged).0
      ]) ranged)

-- ---- a restart

rises_range : (block : ℕ) (old new : Option ℕ) (m : ℕ) → TxRises block old new → ((n : ℕ) → old ≡ Some n → IsNext n)
    → new ≡ Some m → IsNext m
rises_range block None new m up before is = absurd (cc)
rises_range block (Some n) new m up before is =
    let one : up.0 ≡ m = some_one new up.0 m up.1 is in
    let was : IsNext n = before n refl in
    let least : 1 ≤ n = was.0 in
    let low : n ≤ up.0 = up.2 in
    let high : up.0 ≤ 2 ^ 32 = up.4 in
    (omega (arith, one, least, low), omega (arith, one, high))

resumes_range : (edition : Edition) (old new : State) → Resumes old new → IsRanged edition old
    → IsRanged new.edition new
resumes_range edition old new up ranged = record {
  same = refl;
  channel = (
    λ an sa there. ranged.channel.0 an sa (ap (λ (c : Config). c.tx an) (sym up.config) ∙ there),
    λ station. subst (λ (i : Identity). is_port_one i.sci ≡ true) (sym up.identity)
        (ranged.channel.1 (ap (λ (c : Config). c.mode) (sym up.config) ∙ station)),
  );
  nexts = λ an m is.
      rises_range old.identity.tx_block (old.next an) (new.next an) m (up.next an) (λ n is. ranged.nexts an n is) is;
  hand = λ c is. absurd (none_some new.under_way c up.idle is);
  queue = subst AreCommands (sym up.waiting) tt;
}

restart_range : (edition : Edition) (old new : State) → Restart old new → IsRanged edition old
    → IsRanged new.edition new
restart_range edition old new (inl up) ranged = resumes_range edition old new up ranged
restart_range edition old new (inr (c, mid, hand, makes, up)) ranged =
    resumes_range edition mid new up (makes_range edition old c mid (ranged.hand c hand) makes ranged)

not_station : Explicit ≡ EndStation → ⊥
not_station is = cc

formatted_range : (edition : Edition) (identity : Identity) → IsRanged edition (formatted_state edition identity)
formatted_range edition identity = record {
  same = refl;
  nexts = λ an m is. absurd (none_some None m refl is);
  channel = (λ an sa is. absurd (none_some None sa refl is), λ is. absurd (not_station is));
  hand = λ c is. absurd (none_some None c refl is);
  queue = tt;
}

-- ---- histories

abbrev IsRangedPast : Past → Type 0
IsRangedPast (Blank identities) = Unit {0}
IsRangedPast (Formatted s) = IsRanged s.edition s

own_edition : (edition : Edition) (s : State) → IsRanged edition s → IsRanged s.edition s
own_edition edition s ranged = subst (λ (e : Edition). IsRanged e s) (sym ranged.same) ranged

module _ (sectors : ℕ) where
  opening_range : (past : Past) (edition : Edition) (image : Image) (found : Standing)
      → FitsPast edition sectors past image
      → StandingIs edition sectors image (Ok found) → IsRangedPast past
      → IsRanged edition (opened_state found (logs_of past))
  opening_range (Blank identities) edition image found fits is ranged =
      let new = found-new edition sectors image identities found fits is in
      subst (λ (o : Standing). IsRanged edition (opened_state o no_logs)) new.2 (formatted_range edition new.0)
  opening_range (Formatted s) edition image found fits is ranged =
      subst (λ (e : Edition). IsRanged e (opened_state found s.logs)) (of-edition edition sectors image found is)
      (restart_range s.edition s (opened_state found s.logs)
      (fits-restart edition sectors image s found fits is) ranged)

  life_range : (past : Past) (edition : Edition) (image : Image) (exchanges : List Exchange) (s : State)
      → IsLifeSoFar sectors past edition image exchanges s → IsRangedPast past → IsRanged edition s
  life_range past edition image exchanges s life ranged =
      by_steps edition (opened_state life.found (logs_of past)) exchanges s life.in_range life.steps
      (opening_range past edition image life.found life.fits life.is_found ranged)

  format_range : (old : Past) (edition : Edition) (identity : Identity) (new : Past)
      → FormatLeads old edition identity true new → IsRangedPast old → IsRangedPast new
  format_range (Blank identities) edition identity new is ranged =
      subst IsRangedPast (sym is) (formatted_range edition identity)
  format_range (Formatted s) edition identity new h ranged = absurd h

  no_format_range : (old : Past) (edition : Edition) (identity : Identity) (new : Past)
      → FormatLeads old edition identity false new → IsRangedPast old → IsRangedPast new
  no_format_range (Blank identities) edition identity new is ranged = subst IsRangedPast (sym is) tt
  no_format_range (Formatted s) edition identity new is ranged = subst IsRangedPast (sym is) ranged

  leads_range : (old : Past) (life : Life) (new : Past) → Leads sectors old life new → IsRangedPast old
      → IsRangedPast new
  leads_range old (Formats edition identity true) new h ranged = format_range old edition identity new h ranged
  leads_range old (Formats edition identity false) new h ranged = no_format_range old edition identity new h ranged
  leads_range old (Refuses edition image fault) new h ranged = subst IsRangedPast (sym h.2) ranged
  leads_range old (Serves edition image exchanges cut) new (last, life, given, is) ranged =
      let end : IsRangedPast (Formatted (state_at_end last cut)) =
      own_edition edition (state_at_end last cut)
      (end_range edition last cut given (life_range old edition image exchanges last life ranged)) in
      subst IsRangedPast (sym is) end

  lives_range : (old : Past) (lives : List Life) (new : Past) → LeadOn sectors old lives new → IsRangedPast old
      → IsRangedPast new
  lives_range old [] new is ranged = subst IsRangedPast (sym is) ranged
  lives_range old (life ∷ lives) new h ranged = lives_range h.0 lives new h.2 (leads_range old life h.0 h.1 ranged)

  -- ---- the law

  by_frame : (edition : Edition) (s : State) (plain : List ℕ) (pn : ℕ) (out : List ℕ) (new : State)
      → Step s (Protects plain) (Protected (Ok pn) out) new
      → IsRanged edition s → IsStandardFrame s plain pn out new
  by_frame edition s plain pn out new (inl (stopped, answer, is)) ranged = absurd answer
  by_frame edition s plain pn out new (inr (running, h)) ranged = (goes_out edition s plain pn out new h ranged).0

  moment_range : (s : State) (m : Moment sectors s) → IsRanged m.edition s
  moment_range s m =
      life_range m.past m.edition m.image m.exchanges s m.life (lives_range (Blank []) m.lives m.past m.history tt)

  pub frames-are-standard : FramesAreStandard sectors
  frames-are-standard s m plain pn out new step = by_frame m.edition s plain pn out new step (moment_range s m)

  pub of-its-edition : OfItsEdition sectors
  of-its-edition = (λ s m. (moment_range s m).same, λ edition identity. refl)
