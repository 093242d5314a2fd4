-- What an opening finds, what a `format` answers, and what a call that is cut short leaves.
use Rattle.std.proofs.Common.{◌≡◌, inl, inr, ℕ, true, false, is_ok, List, [], ◌∷◌, Option, Some, None, Result, Ok, Err}
use Rattle.std.proofs.Common.{refl, sym, ◌∙◌, ap, subst}
use Rattle.std.specs.Option.{option_map, option_or}
use Rattle.macs_config.specs.Config.{Config, this_edition}
use Rattle.macs_config.specs.Identity.{Identity}
use Rattle.macs_config.specs.declared.command.Command.{Command}
use Rattle.macs_disk.specs.States.{Image}
use Rattle.macs_rxsc.specs.Receive.{Numbers, first_numbers}
use Rattle.macs_journal.specs.declared.fault.JournalFault.{JournalFault}
use Rattle.macs_store.specs.Found.{StandingIs}
use Rattle.macs_store.specs.Standing.{Ceilings, Standing, new_standing}
use Rattle.macs_store.proofs.OneStanding.{one_standing}
use Rattle.macs_endpoint.specs.Ceilings.{next_ceilings}
use Rattle.macs_endpoint.specs.Restart.{Restart, Resumes, RxRises, TxRises, opened_state, state_during}
use Rattle.macs_endpoint.specs.Restart.{state_taking_first}
use Rattle.macs_endpoint.specs.State.{Advances, Call, Commands, Delivery, State, no_logs}
use Rattle.macs_endpoint.specs.Step.{state_after_command}
use Rattle.macs_endpoint.specs.declared.queue.Waiting.{Waiting}
use Rattle.macs_headline.specs.History.{Blank, FitsPast, FormatLeads, Formatted, Leads, Past, Refuses, logs_of}
use Rattle.macs_headline.proofs.Ledger.{none_some, some_one}
use Rattle.macs_headline.proofs.LifeEnds.{IsTaken, by-end}
use Rattle.macs_headline.proofs.Lists.{contains-none}
use Rattle.macs_headline.proofs.Histories.{fits-restart, found-new}
use Rattle.macs_headline.proofs.Openings.{refused-for-disk-or-spent}
use Rattle.macs_theorem.specs.Shown.{Shown, settings_of, shown_numbers}
use Rattle.macs_theorem.specs.Observer.{ExpectsFormat, ExpectsOpening, IsFound, IsKnown, IsResumed, Observer}
use Rattle.macs_theorem.specs.Observer.{SkipsNone, after_command, begin, begun_in, new_observer, unrested}
use Rattle.macs_theorem.proofs.Commands.{IsFirst, begins-alone, begins-first}
use Rattle.macs_theorem.proofs.Matches.{AreSpent, Follows, Matches, MatchesPast, after-command, is-new, may-begin}
use Rattle.macs_theorem.proofs.Matches.{none-begins, none-spent, past-unrested, with-hand}

-- ---- what is found

-- what an observer knows after an opening that finds what it knew before, with these numbers
abbrev resumed : Observer → Standing → Observer
resumed o found = record o {
  next = found.ceilings.tx;
  numbers = λ sci an. option_map first_numbers (found.ceilings.rx sci an);
  waiting = [];
  tickets = 0;
  begun = None;
  stopped = false;
  rested = false;
  before = o.delivered;
}

-- what is found are these next numbers
pub record IsAtNext (sectors : ℕ) (s : State) (image : Image) : Type 0 where
  pub found : Standing
  pub is_found : StandingIs this_edition sectors image (Ok found)
  pub ceilings : found.ceilings ≡ next_ceilings s

abbrev pub IsPastAtNext : ℕ → Past → Image → Type 0
IsPastAtNext sectors (Blank identities) image = ⊥
IsPastAtNext sectors (Formatted s) image = IsAtNext sectors s image

-- it finds a state that this observer knows
module _ (s : State) (found : Standing) (o : Observer) (m : Matches o.before s o)
    (up : Resumes s (opened_state found s.logs)) (skips : o.rested ≡ true → SkipsNone o (resumed o found)) where
  as_known : IsResumed s.identity o (resumed o found)
  as_known = (
    λ an. subst (λ (next : ℕ → Option ℕ). TxRises s.identity.tx_block (next an) (found.ceilings.tx an)) (sym m.next)
        (up.next an),
    λ sci an. subst (λ (numbers : List ℕ → ℕ → Option Numbers). RxRises s.identity.rx_block (numbers sci an)
        (option_map first_numbers (found.ceilings.rx sci an))) (sym m.numbers) (up.numbers sci an),
    skips,
    refl,
  )

  known_after : Follows s.logs.given (opened_state found s.logs) (resumed o found)
  known_after = record {
    matches = record {
      formatted = m.formatted ∙ ap (λ (i : Identity). Some i) (sym up.identity);
      settings = m.settings ∙ ap settings_of (sym up.config);
      installed = subst (λ (c : Config). AreSpent c o.installed) (sym up.config) m.installed;
      next = refl;
      numbers = refl;
      waiting = refl;
      tickets = refl;
      stopped = refl;
      sent = m.sent;
      delivered = m.delivered;
      before = m.delivered;
      hand = λ c is. absurd (none_some c is);
    };
    begins = none-begins (opened_state found s.logs) (resumed o found) refl;
  }

not_rested : (o : Observer) (found : Standing) → o.rested ≡ false → o.rested ≡ true → SkipsNone o (resumed o found)
not_rested o found is rested = absurd (let no : true ≡ false = sym rested ∙ is in cc)

-- next numbers that are found as ceilings
once_more : (n : Option Numbers) (c : Option ℕ) → c ≡ option_map (λ (n : Numbers). n.next) n
    → option_map first_numbers c ≡ option_map (λ (n : Numbers). first_numbers n.next) n
once_more None c is = ap (option_map first_numbers) is
once_more (Some n) c is = ap (option_map first_numbers) is

abbrev standing_ok : Standing → Result Standing JournalFault
standing_ok s = Ok s

ok_same : (a b : Standing) → standing_ok a ≡ standing_ok b → a ≡ b
ok_same a b is = cc

skips-at-next : (sectors : ℕ) (image : Image) (s : State) (found : Standing) (o : Observer) → Matches o.before s o
    → StandingIs this_edition sectors image (Ok found) → IsAtNext sectors s image → SkipsNone o (resumed o found)
skips-at-next sectors image s found o m is at =
    let same : found ≡ at.found =
    ok_same found at.found (one_standing this_edition sectors image (Ok found) (Ok at.found) is at.is_found) in
    let ceilings : found.ceilings ≡ next_ceilings s = ap (λ (x : Standing). x.ceilings) same ∙ at.ceilings in (
      ap (λ (x : Ceilings). x.tx) ceilings ∙ sym m.next,
      λ sci an. once_more (s.numbers sci an) (found.ceilings.rx sci an) (ap (λ (x : Ceilings). x.rx sci an) ceilings)
          ∙ ap (λ (f : List ℕ → ℕ → Option Numbers). option_map (λ (n : Numbers). first_numbers n.next) (f sci an))
          (sym m.numbers),
    )

-- an opening is expected, and what is known after it is so
abbrev Finds : Observer → (earlier : List Delivery) → State → Type 0
Finds o earlier new = (later : Observer) × IsFound o o.formatted later × Follows earlier new later

finds_in : (s : State) (found : Standing) (o : Observer) → Matches o.before s o → (later : Observer)
    → IsFound o (Some s.identity) later → Follows s.logs.given (opened_state found s.logs) later
    → Finds o s.logs.given (opened_state found s.logs)
finds_in s found o m later is after =
    (later, subst (λ (i : Option Identity). IsFound o i later) (sym m.formatted) is, after)

restarted : (s : State) (found : Standing) (o : Observer) → Restart s (opened_state found s.logs) → Matches o.before s o
    → (o.rested ≡ true → SkipsNone o (resumed o found)) → Finds o s.logs.given (opened_state found s.logs)
restarted s found o (inl up) m skips =
    finds_in s found o m (resumed o found) (inl (as_known s found o m up skips)) (known_after s found o m up skips)
restarted s found o (inr (c, mid, hand, makes, up)) m skips =
    let config : Config = makes.0 in
    let on : Resumes (state_after_command s c config) (opened_state found s.logs) =
    subst (λ (x : State). Resumes x (opened_state found s.logs)) makes.2 up in
    let after = after-command o.before s o c config makes.1 m in
    finds_in s found o m (resumed (after_command c o) found)
    (inr (
      c,
      m.hand c hand,
      is-new o.before s o c config makes.1 m,
      as_known (state_after_command s c config) found (after_command c o) after on
          (not_rested (after_command c o) found refl),
    ))
    (known_after (state_after_command s c config) found (after_command c o) after on
    (not_rested (after_command c o) found refl))

module _ (sectors : ℕ) (image : Image) (found : Standing) (is : StandingIs this_edition sectors image (Ok found)) where
  -- on a disk that may not be formatted
  first_found : (identities : List Identity) → FitsPast this_edition sectors (Blank identities) image
      → Finds (record new_observer { tried = identities }) [] (opened_state found no_logs)
  first_found identities fits =
      let new = found-new this_edition sectors image identities found fits is in
      subst (λ (it : Standing). Finds (record new_observer { tried = identities }) [] (opened_state it no_logs)) new.2 (
        record new_observer { tried = identities; formatted = Some new.0 },
        (new.0, new.1, refl),
        record {
          matches = record {
            formatted = refl;
            settings = refl;
            installed = none-spent (new_standing this_edition new.0).config;
            next = refl;
            numbers = refl;
            waiting = refl;
            tickets = refl;
            stopped = refl;
            sent = refl;
            delivered = refl;
            before = refl;
            hand = λ c hand. absurd (none_some c hand);
          };
          begins = none-begins (opened_state (new_standing this_edition new.0) no_logs)
              (record new_observer { tried = identities; formatted = Some new.0 }) refl;
        },
      )

  pub found-is-expected : (past : Past) (o : Observer) → FitsPast this_edition sectors past image → MatchesPast past o
      → (o.rested ≡ true → IsPastAtNext sectors past image)
      → Finds o (logs_of past).given (opened_state found (logs_of past))
  found-is-expected (Blank identities) o fits m next =
      subst (λ (o : Observer). Finds o [] (opened_state found no_logs)) (sym m) (first_found identities fits)
  found-is-expected (Formatted s) o fits m next =
      restarted s found o (fits-restart this_edition sectors image s found fits is) m
      (λ rested. skips-at-next sectors image s found o m is (next rested))

-- ---- what an endpoint shows

abbrev pub shown_in : State → Shown
shown_in s = record {
  identity = s.identity;
  settings = settings_of s.config;
  next = s.next;
  numbers = λ sci an. option_map shown_numbers (s.numbers sci an);
  waiting = s.waiting;
}

pub shown-is-known : (earlier : List Delivery) (s : State) (o : Observer) → Matches earlier s o
    → IsKnown o (shown_in s)
shown-is-known earlier s o m = (
  m.formatted,
  sym m.settings,
  sym m.next,
  ap (λ (numbers : List ℕ → ℕ → Option Numbers). λ (sci : List ℕ) (an : ℕ). option_map shown_numbers (numbers sci an))
      (sym m.numbers),
  sym m.waiting,
)

-- ---- what an opening is refused for

pub refused-is-expected : (sectors : ℕ) (past : Past) (image : Image) (fault : JournalFault) (new : Past) (o : Observer)
    → Leads sectors past (Refuses this_edition image fault) new → MatchesPast past o
    → ExpectsOpening o (Err fault) (unrested o) × MatchesPast new (unrested o)
refused-is-expected sectors (Blank identities) image fault new o leads m = (
  (inl (ap (λ (o : Observer). o.formatted) m), refl),
  subst (λ (p : Past). MatchesPast p (unrested o)) (sym leads.2) (past-unrested (Blank identities) o m),
)
refused-is-expected sectors (Formatted s) image fault new o leads m = (
  (
    inr (elim (refused-for-disk-or-spent sectors s this_edition image fault new leads) [
      | inl disk ↦ inl disk
      | inr spent ↦ inr spent.0
    ]),
    refl,
  ),
  subst (λ (p : Past). MatchesPast p (unrested o)) (sym leads.2) (past-unrested (Formatted s) o m),
)

-- ---- formats

-- one that is not answered Ok
pub tried-is-expected : (past : Past) (identity : Identity) (new : Past) (o : Observer)
    → FormatLeads past this_edition identity false new → MatchesPast past o
    → MatchesPast new (record o { tried = identity ∷ o.tried })
tried-is-expected (Blank identities) identity new o leads m =
    subst (λ (p : Past). MatchesPast p (record o { tried = identity ∷ o.tried })) (sym leads)
    (ap (λ (o : Observer). record o { tried = identity ∷ o.tried }) m)
tried-is-expected (Formatted s) identity new o leads m =
    subst (λ (p : Past). MatchesPast p (record o { tried = identity ∷ o.tried })) (sym leads) (record {
      formatted = m.formatted;
      settings = m.settings;
      installed = m.installed;
      next = m.next;
      numbers = m.numbers;
      waiting = m.waiting;
      tickets = m.tickets;
      stopped = m.stopped;
      sent = m.sent;
      delivered = m.delivered;
      before = m.before;
      hand = m.hand;
    })

-- a `format` is expected, and what is known after it is so
abbrev Formats : Observer → Identity → Result (Unit {0}) JournalFault → Past → Type 0
Formats o identity result new = (later : Observer) × ExpectsFormat o identity result later × MatchesPast new later

formatted_now : (past : Past) (identity : Identity) (new : Past) (o : Observer)
    → FormatLeads past this_edition identity true new → MatchesPast past o → Formats o identity (Ok tt) new
formatted_now (Blank identities) identity new o leads m =
    subst (λ (o : Observer). Formats o identity (Ok tt) new) (sym m) (
      record new_observer { tried = identities; formatted = Some identity },
      (refl, refl),
      subst (λ (p : Past). MatchesPast p (record new_observer { tried = identities; formatted = Some identity }))
          (sym leads) (record {
            formatted = refl;
            settings = refl;
            installed = λ it has. absurd (contains-none it has);
            next = refl;
            numbers = refl;
            waiting = refl;
            tickets = refl;
            stopped = refl;
            sent = refl;
            delivered = refl;
            before = refl;
            hand = λ c is. absurd (none_some c is);
          }),
    )
formatted_now (Formatted s) identity new o leads m = absurd leads

pub formats-are-expected : (past : Past) (identity : Identity) (result : Result (Unit {0}) JournalFault) (new : Past)
    (o : Observer) → FormatLeads past this_edition identity (is_ok result) new → MatchesPast past o
    → Formats o identity result new
formats-are-expected past identity (Ok done) new o leads m = formatted_now past identity new o leads m
formats-are-expected past identity (Err fault) new o leads m =
    (record o { tried = identity ∷ o.tried }, refl, tried-is-expected past identity new o leads m)

-- ---- a call that is cut short

-- none is taken where none waits
pub taking-none : (earlier : List Delivery) (s : State) (o : Observer) → Matches earlier s o
    → (under_way : Option Command) (waiting : List Waiting) → waiting ≡ []
    → Matches earlier (state_taking_first s under_way waiting) o
taking-none earlier s o m None [] is = m
taking-none earlier s o m None (one ∷ rest) is = absurd (cc)
taking-none earlier s o m (Some c) waiting is = m

module _ (earlier : List Delivery) (s : State) (o : Observer) (follows : Follows earlier s o) where
  abbrev m : Matches earlier s o
  m = follows.matches

  in_front : s.stopped ≡ false → IsFirst o
  in_front running d begun = follows.begins d begun running

  -- a command that is taken is the one that may begin
  begins : (call : Call) (c : Command) → IsTaken s (Some call) c
      → option_or o.begun (begun_in o.stopped call o.waiting) ≡ Some c
  begins call c taken =
      let stopped = m.stopped ∙ taken.running in
      let front = in_front taken.running in
      elim taken.how [
        | inl own ↦ subst (λ (call : Call). option_or o.begun (begun_in o.stopped call o.waiting) ≡ Some c)
            (some_one (Some (Commands c)) (Commands c) call refl (sym own.0))
            (begins-alone o.stopped stopped o.waiting o.begun front c (m.waiting ∙ own.1))
        | inr queued ↦
            let there = queued.2 in
            subst (λ (call : Call). option_or o.begun (begun_in o.stopped call o.waiting) ≡ Some c)
            (some_one (Some Advances) Advances call refl (sym queued.0))
            (begins-first o.stopped stopped o.waiting o.begun front there.0 there.1 (m.waiting ∙ there.2)
            ∙ ap (λ (c : Command). Some c) there.3)
      ]

  -- work may begin in it
  pub cuts-may-begin : (call : Call) → Matches earlier (state_during s call) (begin call o)
  cuts-may-begin call = by-end (λ t. Matches earlier t (begin call o)) s (may-begin earlier s o call m) (Some call)
      (λ c taken. with-hand earlier s (begin call o) c (begins call c taken) (may-begin earlier s o call m))
