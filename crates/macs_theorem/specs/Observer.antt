-- An observer sees only events, and expects of each what was promised.
use Rattle.std.specs.Prelude.{◌≡◌, ◌≢◌, ◌⊎◌, ◌<◌, ◌≤◌, ◌+◌, ◌%◌, ◌^◌, ◌++◌, ℕ, length, take, slice_range, true, false}
use Rattle.std.specs.Prelude.{List, [], ◌∷◌, Bool, Contains, IsOk, Option, Some, None, Result, Ok, Err}
use Rattle.std.specs.List.{AllByRecursion}
use Rattle.std.specs.Option.{option_map, option_or}
use Rattle.macs_aes.specs.Keys.{octets_of_key}
use Rattle.macs_gcm.specs.Gcm.{seal}
use Rattle.macs_frame.specs.Opening.{bare_frame, clear_of, hidden_of, iv_of, named_sci}
use Rattle.macs_frame.specs.Protection.{protected_frame}
use Rattle.macs_frame.specs.Tag.{IsTagged, changed, control, encrypted, end_of, name_of, pn_of, start_of}
use Rattle.macs_config.specs.Identity.{Identity}
use Rattle.macs_config.specs.Tables.{put, put_at}
use Rattle.macs_config.specs.declared.command.Command.{Command}
use Rattle.macs_config.specs.declared.command.Command.TheVariants.{RxAdd, RxDrop, RxInstall, RxRemove, SetReplay}
use Rattle.macs_config.specs.declared.command.Command.TheVariants.{SetSciMode, SetValidate, TxInstall, TxRemove, TxUse}
use Rattle.macs_config.specs.declared.command.SciMode.TheVariants.{Explicit}
use Rattle.macs_config.specs.declared.command.Validate.TheVariants.{Check, Strict}
use Rattle.macs_txsc.specs.Transmit.{name_in}
use Rattle.macs_rxsc.specs.Receive.{Numbers, delivery_kind, first_numbers, numbers_after_delivery, numbers_after_hold}
use Rattle.macs_rxsc.specs.Receive.{put_numbers}
use Rattle.macs_rxsc.specs.declared.verdict.Kind.{Kind}
use Rattle.macs_rxsc.specs.declared.verdict.Kind.TheVariants.{Delayed, Invalid, Ok as AsOk, UnknownSci, Untagged}
use Rattle.macs_rxsc.specs.declared.verdict.Kind.TheVariants.{UnusedSa}
use Rattle.macs_rxsc.specs.declared.verdict.Verdict.TheVariants.{Delivered, HeldBack}
use Rattle.macs_journal.specs.declared.fault.JournalFault.{JournalFault}
use Rattle.macs_journal.specs.declared.fault.JournalFault.TheVariants as opening
use Rattle.macs_endpoint.specs.Queue.{with_waiting}
use Rattle.macs_endpoint.specs.Restart.{RxRises, TxRises}
use Rattle.macs_endpoint.specs.State.{Advanced, Advances, Call, Commands, Delivery, Protected, Protects, Ran, Received}
use Rattle.macs_endpoint.specs.State.{Receives, Refilled, Refills, Reply, Rested, Rests, Submits, Submitted, Use}
use Rattle.macs_endpoint.specs.Step.{IsStopped, next_after, numbers_after}
use Rattle.macs_endpoint.specs.declared.fault.CommandFault.{CommandFault}
use Rattle.macs_endpoint.specs.declared.fault.CommandFault.TheVariants as ran
use Rattle.macs_endpoint.specs.declared.fault.RefillFault.TheVariants as refill
use Rattle.macs_endpoint.specs.declared.fault.RestFault.TheVariants as rest
use Rattle.macs_endpoint.specs.declared.fault.StepFault.TheVariants as step
use Rattle.macs_endpoint.specs.declared.progress.Step.TheVariants.{Done, Idle, Reserved, Worked}
use Rattle.macs_endpoint.specs.declared.queue.Waiting.{Waiting}
use Rattle.macs_theorem.specs.Events.{Answers, Calls, EndsIn, Event, Formats, Opens, Shows}
use Rattle.macs_theorem.specs.Shown.{RxAssociation, Settings, Shown, TxAssociation, shown_numbers}

-- ---- commands

-- the settings of a newly formatted disk
abbrev pub first_settings : Settings
first_settings = record {
  validate = Strict;
  replay = record { on = true; window = 0 };
  mode = Explicit;
  encoding = None;
  tx = λ an. None;
  channels = λ sci. false;
  rx = λ sci an. None;
}

-- the settings after a command
abbrev pub settings_after : Command → Settings → Settings
settings_after (SetValidate validate) s = record s { validate = validate }
settings_after (SetReplay on window) s = record s { replay = record { on = on; window = window } }
settings_after (SetSciMode mode) s = record s { mode = mode }
settings_after (TxInstall an key start confidential offset) s = record s {
  tx = put s.tx an (Some (record { key = octets_of_key key; confidential = confidential; offset = offset }));
}
settings_after (TxUse an) s = record s { encoding = Some an }
settings_after (TxRemove an) s = record s { tx = put s.tx an None }
settings_after (RxAdd sci) s = record s { channels = put_at s.channels sci true }
settings_after (RxDrop sci) s = record s {
  channels = put_at s.channels sci false;
  rx = put_at s.rx sci (λ an. None);
}
settings_after (RxInstall sci an key start offset) s = record s {
  rx = put_at s.rx sci (put (s.rx sci) an (Some (record { key = octets_of_key key; offset = offset })));
}
settings_after (RxRemove sci an) s = record s { rx = put_at s.rx sci (put (s.rx sci) an None) }

-- the key that a command installs: for transmitted frames, or for received ones with an SCI
abbrev pub install_of : Command → List (Option (List ℕ) × List ℕ)
install_of (TxInstall an key start confidential offset) = (None, octets_of_key key) ∷ []
install_of (RxInstall sci an key start offset) = (Some sci, octets_of_key key) ∷ []
install_of command = []

-- ---- the observer

-- What an observer knows: with which identity the disk is certainly formatted, and with which a `format` was tried; the
-- settings, and which keys were installed; the next packet number of each transmit association, and the packet numbers
-- of each receive association; the pending submitted commands, and how many tickets were given since the disk was
-- opened; the command whose work on the disk may have begun; whether a call returned Disk since the disk was opened;
-- whether the last call was a rest that returned Ok; key and packet number of each frame that was sent; SCI, key and
-- packet number of each that was delivered as verified, and of those that were before the disk was opened.
pub record Observer : Type 0 where
  pub formatted : Option Identity
  pub tried : List Identity
  pub settings : Settings
  pub installed : List (Option (List ℕ) × List ℕ)
  pub next : ℕ → Option ℕ
  pub numbers : List ℕ → ℕ → Option Numbers
  pub waiting : List Waiting
  pub tickets : ℕ
  pub begun : Option Command
  pub stopped : Bool
  pub rested : Bool
  pub sent : List Use
  pub delivered : List Delivery
  pub before : List Delivery

-- the observer of a new disk
abbrev pub new_observer : Observer
new_observer = record {
  formatted = None;
  tried = [];
  settings = first_settings;
  installed = [];
  next = λ an. None;
  numbers = λ sci an. None;
  waiting = [];
  tickets = 0;
  begun = None;
  stopped = false;
  rested = false;
  sent = [];
  delivered = [];
  before = [];
}

-- ---- transmitted frames

-- A frame is sent: the protected frame of the plain one (IEEE Std 802.1AE-2018, clauses 9, 10 and 14), under the
-- encoding association, with its next packet number, which no frame had under this key.
pub record IsSent (o : Observer) (plain : List ℕ) (pn : ℕ) (out : List ℕ) (new : Observer) : Type 0 where
  pub identity : Identity
  pub an : ℕ
  pub sa : TxAssociation
  pub formatted : o.formatted ≡ Some identity
  pub sci : length identity.sci ≡ 8
  pub encoding : o.settings.encoding ≡ Some an
  pub association : o.settings.tx an ≡ Some sa
  pub number : o.next an ≡ Some pn
  pub range : (1 ≤ pn) × (pn < 2 ^ 32)
  pub frame : out ≡ protected_frame sa.key identity.sci
      (record {
        an = an;
        pn = pn;
        name = name_in o.settings.mode identity.sci;
        encrypted = sa.confidential;
        changed = sa.confidential;
      })
      sa.offset plain
  pub fresh : ¬ Contains o.sent (record { key = sa.key; pn = pn })
  pub counted : new ≡ record o {
    next = put o.next an (Some (pn + 1));
    sent = record { key = sa.key; pn = pn } ∷ o.sent;
  }

-- ---- received frames

-- a frame names the receive channel with this SCI: its SecTAG does, or it names none, and there is no other channel
abbrev pub IsNamed : Settings → List ℕ → List ℕ → Type 0
IsNamed s frame sci = (s.channels sci ≡ true) × ((named_sci frame (name_of frame) ≡ Some sci)
    ⊎ ((named_sci frame (name_of frame) ≡ None) × ((other : List ℕ) → s.channels other ≡ true → other ≡ sci)))

-- the AN in a SecTAG
abbrev pub an_of : List ℕ → ℕ
an_of frame = control frame % 4

-- A frame is genuine (clauses 10 and 14): of the octets between SecTAG and ICV, those that are encrypted, and the ICV,
-- are the result of sealing the plaintext under this key, with SCI and PN as IV, and with addresses, SecTAG and the
-- octets in the clear as additional data. The plain frame consists of addresses, octets in the clear, and plaintext.
abbrev pub IsGenuine : (frame key sci : List ℕ) → (offset : ℕ) → (plain : List ℕ) → Type 0
IsGenuine frame key sci offset plain =
    let between = slice_range frame (start_of frame) (end_of frame) in
    let clear = clear_of (encrypted (control frame)) offset between in
    let hidden = hidden_of (encrypted (control frame)) offset between in
    let icv = slice_range frame (end_of frame) (end_of frame + 16) in
    (plaintext : List ℕ)
    × (seal key (iv_of sci (pn_of frame)) (take (start_of frame) frame ++ clear) plaintext ≡ (hidden, icv))
    × (plain ≡ take 12 frame ++ clear ++ plaintext)

-- A frame verifies as this plain one: it has a SecTAG with a PN that is not 0, and with C if E is set (9.4 to 9.8); it
-- is genuine under the association that it names; and if replay protection is on, its packet number is not below the
-- lowest acceptable one (10.6).
pub record IsVerified (o : Observer) (frame plain : List ℕ) : Type 0 where
  pub sci : List ℕ
  pub sa : RxAssociation
  pub numbers : Numbers
  pub named : IsNamed o.settings frame sci
  pub association : o.settings.rx sci (an_of frame) ≡ Some sa
  pub numbered : o.numbers sci (an_of frame) ≡ Some numbers
  pub tag : IsTagged frame × (pn_of frame ≢ 0) × (encrypted (control frame) ≡ true → changed (control frame) ≡ true)
  pub genuine : IsGenuine frame sa.key sci sa.offset plain
  pub in_time : o.settings.replay.on ≡ true → numbers.lowest ≤ pn_of frame

-- A frame that does not verify is delivered as this kind: no channel has the SCI that its SecTAG names; or its channel
-- has no association with its AN; or it is not genuine under that association.
abbrev pub IsUnverified : Settings → (frame : List ℕ) → Kind → Type 0
IsUnverified s frame UnknownSci =
    (sci : List ℕ) → named_sci frame (name_of frame) ≡ Some sci → s.channels sci ≡ false
IsUnverified s frame UnusedSa = (sci : List ℕ) × IsNamed s frame sci × (s.rx sci (an_of frame) ≡ None)
IsUnverified s frame Invalid = (sci : List ℕ) × (sa : RxAssociation) × IsNamed s frame sci
    × (s.rx sci (an_of frame) ≡ Some sa) × ((plain : List ℕ) → ¬ IsGenuine frame sa.key sci sa.offset plain)
IsUnverified s frame kind = ⊥

-- a frame with that SCI, key and packet number is among these deliveries
abbrev pub WasDelivered : List Delivery → (sci key : List ℕ) (pn : ℕ) → Type 0
WasDelivered delivered sci key pn =
    (kind : Kind) × Contains delivered (record { sci = sci; key = key; pn = pn; kind = kind })

-- A frame is delivered as verified, as Delayed if its packet number is below the lowest acceptable one, else as Ok.
-- None with its SCI, key and packet number has been delivered as verified, if replay protection is on with window 0;
-- and none had been before the disk was opened, if it is delivered as Ok.
pub record IsDelivered (o : Observer) (frame : List ℕ) (kind : Kind) (out : List ℕ) (new : Observer) : Type 0 where
  pub is : IsVerified o frame out
  pub kind_is : kind ≡ delivery_kind is.numbers (pn_of frame)
  pub once : o.settings.replay.on ≡ true → o.settings.replay.window ≡ 0
      → ¬ WasDelivered o.delivered is.sci is.sa.key (pn_of frame)
  pub never_again : kind ≡ AsOk → ¬ WasDelivered o.before is.sci is.sa.key (pn_of frame)
  pub counted : new ≡ record o {
    numbers = put_numbers o.numbers is.sci (an_of frame)
        (Some (numbers_after_delivery o.settings.replay.window is.numbers (pn_of frame)));
    delivered = record { sci = is.sci; key = is.sa.key; pn = pn_of frame; kind = kind } ∷ o.delivered;
  }

-- A frame is held back: it verifies, and its packet number is not below the next one.
pub record IsHeldBack (o : Observer) (frame : List ℕ) (new : Observer) : Type 0 where
  pub plain : List ℕ
  pub is : IsVerified o frame plain
  pub beyond : is.numbers.next ≤ pn_of frame
  pub counted : new ≡ record o {
    numbers = put_numbers o.numbers is.sci (an_of frame) (Some (numbers_after_hold is.numbers (pn_of frame)));
  }

-- ---- calls

-- a command installs no key a second time
abbrev pub IsNew : Command → Observer → Type 0
IsNew command o = AllByRecursion (λ (it : Option (List ℕ) × List ℕ). ¬ Contains o.installed it) (install_of command)

-- a command takes effect
abbrev pub after_command : Command → Observer → Observer
after_command command o = record o {
  settings = settings_after command o.settings;
  installed = install_of command ++ o.installed;
  next = next_after command o.next;
  numbers = numbers_after command o.numbers;
  begun = None;
  rested = false;
}

-- the command whose work on the disk a call may begin: the call's own command, if none is pending, or the first pending
-- one; none once the endpoint is stopped
abbrev pub begun_in : (stopped : Bool) → Call → List Waiting → Option Command
begun_in false (Commands command) [] = Some command
begun_in false Advances (first ∷ rest) = Some first.command
begun_in stopped call waiting = None

-- its work may have begun, unless that of another one had
abbrev pub begin : Call → Observer → Observer
begin call o = record o { begun = option_or o.begun (begun_in o.stopped call o.waiting) }

-- another call is made
abbrev pub unrested : Observer → Observer
unrested o = record o { rested = false }

-- a call returns Disk
abbrev pub fail : Observer → Observer
fail o = record o { stopped = true }

-- a pending command takes effect, or not
abbrev pub after_result : Result (Unit {0}) CommandFault → Command → Observer → Observer
after_result (Ok done) command o = after_command command o
after_result (Err fault) command o = record o { begun = None }

-- the first pending command is completed, and this is its ticket
abbrev pub IsDone : Observer → (ticket : ℕ) → Result (Unit {0}) CommandFault → Observer → Type 0
IsDone o ticket result new = (first : Waiting) × (rest : List Waiting) × (o.waiting ≡ first ∷ rest)
    × (first.ticket ≡ ticket) × (IsOk result → IsNew first.command o)
    × (new ≡ after_result result first.command (record o { waiting = rest }))

-- A call of a running endpoint returns. A frame that is not verified is delivered only under Check: unchanged if it has
-- no SecTAG, or without SecTAG and ICV if C is clear. If no frame is sent or delivered, `out` is empty. Each submitted
-- command gets the next ticket. A step is idle, and another command takes effect, only if none is pending. Any other
-- answer of its function changes nothing, and an answer of another function is never given.
abbrev pub ExpectsCall : Observer → Call → Reply → Observer → Type 0
ExpectsCall o (Protects plain) (Protected (Ok pn) out) new = IsSent o plain pn out new
ExpectsCall o (Protects plain) (Protected (Err fault) out) new = (out ≡ []) × (new ≡ o)
ExpectsCall o (Receives frame) (Received (Ok (Delivered AsOk)) out) new = IsDelivered o frame AsOk out new
ExpectsCall o (Receives frame) (Received (Ok (Delivered Delayed)) out) new = IsDelivered o frame Delayed out new
ExpectsCall o (Receives frame) (Received (Ok (Delivered Untagged)) out) new =
    (o.settings.validate ≡ Check) × (¬ IsTagged frame) × (out ≡ frame) × (new ≡ o)
ExpectsCall o (Receives frame) (Received (Ok (Delivered kind)) out) new =
    (o.settings.validate ≡ Check) × IsTagged frame × (changed (control frame) ≡ false)
    × IsUnverified o.settings frame kind × (out ≡ bare_frame frame) × (new ≡ o)
ExpectsCall o (Receives frame) (Received (Ok HeldBack) out) new = (out ≡ []) × IsHeldBack o frame new
ExpectsCall o (Receives frame) (Received answer out) new = (out ≡ []) × (new ≡ o)
ExpectsCall o (Commands command) (Ran (Ok done)) new = (o.waiting ≡ []) × IsNew command o
    × (new ≡ after_command command o)
ExpectsCall o (Commands command) (Ran (Err ran.Disk)) new = new ≡ fail (begin (Commands command) o)
ExpectsCall o (Commands command) (Ran (Err fault)) new = new ≡ o
ExpectsCall o (Submits command) (Submitted (Ok ticket)) new = (ticket ≡ o.tickets + 1)
    × (new ≡ record o { waiting = with_waiting o.waiting ticket command; tickets = ticket })
ExpectsCall o (Submits command) (Submitted (Err fault)) new = new ≡ o
ExpectsCall o Advances (Advanced (Ok Idle)) new = (o.waiting ≡ []) × (new ≡ o)
ExpectsCall o Advances (Advanced (Ok Worked)) new = new ≡ begin Advances o
ExpectsCall o Advances (Advanced (Ok Reserved)) new = new ≡ o
ExpectsCall o Advances (Advanced (Ok (Done ticket result))) new = IsDone o ticket result new
ExpectsCall o Advances (Advanced (Err step.Disk)) new = new ≡ fail (begin Advances o)
ExpectsCall o Advances (Advanced (Err fault)) new = new ≡ o
ExpectsCall o Refills (Refilled (Err refill.Disk)) new = new ≡ fail o
ExpectsCall o Refills (Refilled result) new = new ≡ o
ExpectsCall o Rests (Rested (Ok done)) new = (o.waiting ≡ []) × (new ≡ record o { rested = true })
ExpectsCall o Rests (Rested (Err rest.Disk)) new = new ≡ fail o
ExpectsCall o Rests (Rested result) new = new ≡ o
ExpectsCall o call reply new = ⊥

-- once a call returned Disk, each returns Stopped, until the disk is opened again; before that, none does
abbrev pub ExpectsReply : (stopped : Bool) → Observer → Call → Reply → Observer → Type 0
ExpectsReply true o call reply new = IsStopped call reply × (new ≡ o)
ExpectsReply false o call reply new = (¬ IsStopped call reply) × ExpectsCall o call reply new

-- A program ends in a call, before it sees this answer. If the call did no work on the disk the effect is the same as
-- if it had returned; otherwise the work of a command may have begun.
abbrev pub ExpectsCut : Observer → Call → Reply → Observer → Type 0
ExpectsCut o (Commands command) (Ran (Ok done)) new = new ≡ begin (Commands command) o
ExpectsCut o (Commands command) (Ran (Err ran.Disk)) new = new ≡ begin (Commands command) o
ExpectsCut o (Commands command) (Ran (Err ran.GenerationsSpent)) new = new ≡ begin (Commands command) o
ExpectsCut o Refills (Refilled result) new = new ≡ o
ExpectsCut o Rests (Rested result) new = new ≡ o
ExpectsCut o Advances (Advanced (Ok Worked)) new = new ≡ begin Advances o
ExpectsCut o Advances (Advanced (Ok Reserved)) new = new ≡ begin Advances o
ExpectsCut o Advances (Advanced (Ok (Done ticket (Ok done)))) new = new ≡ begin Advances o
ExpectsCut o Advances (Advanced (Err step.Disk)) new = new ≡ begin Advances o
ExpectsCut o call reply new = ExpectsReply o.stopped o call reply new

-- ---- `format` and openings

-- `format` returns Ok at most once
abbrev pub ExpectsFormat : Observer → Identity → Result (Unit {0}) JournalFault → Observer → Type 0
ExpectsFormat o identity (Ok done) new = (o.formatted ≡ None) × (new ≡ record o { formatted = Some identity })
ExpectsFormat o identity (Err fault) new = new ≡ record o { tried = identity ∷ o.tried }

-- no packet number is skipped: the next ones are the same, and those to receive continue there
abbrev pub SkipsNone : Observer → Observer → Type 0
SkipsNone o new = (new.next ≡ o.next)
    × ((sci : List ℕ) (an : ℕ)
    → new.numbers sci an ≡ option_map (λ (n : Numbers). first_numbers n.next) (o.numbers sci an))

-- The settings are found again. Packet numbers do not fall, and few are skipped: for a transmit association at most a
-- block and a half, for a receive association at most up to a block beyond the greatest one that verified; after a rest
-- none. No command is pending.
abbrev pub IsResumed : Identity → Observer → Observer → Type 0
IsResumed identity o new =
    ((an : ℕ) → TxRises identity.tx_block (o.next an) (new.next an))
    × ((sci : List ℕ) (an : ℕ) → RxRises identity.rx_block (o.numbers sci an) (new.numbers sci an))
    × (o.rested ≡ true → SkipsNone o new)
    × (new ≡ record o {
      next = new.next;
      numbers = new.numbers;
      waiting = [];
      tickets = 0;
      begun = None;
      stopped = false;
      rested = false;
      before = o.delivered;
    })

-- What an opening finds. Each command that was answered Ok took effect, and no other except the one whose work may have
-- begun. If the disk is not certainly formatted, it finds what a `format` may have written.
abbrev pub IsFound : Observer → Option Identity → Observer → Type 0
IsFound o (Some identity) new = IsResumed identity o new
    ⊎ ((command : Command) × (o.begun ≡ Some command) × IsNew command o
    × IsResumed identity (after_command command o) new)
IsFound o None new =
    (identity : Identity) × Contains o.tried identity × (new ≡ record o { formatted = Some identity; rested = false })

-- Once the disk is certainly formatted, it is opened, or refused with Disk or with GenerationsSpent.
abbrev pub ExpectsOpening : Observer → Result (Unit {0}) JournalFault → Observer → Type 0
ExpectsOpening o (Ok done) new = IsFound o o.formatted new
ExpectsOpening o (Err fault) new =
    ((o.formatted ≡ None) ⊎ ((fault ≡ opening.Disk) ⊎ (fault ≡ opening.GenerationsSpent))) × (new ≡ unrested o)

-- the readers show what the observer knows
abbrev pub IsKnown : Observer → Shown → Type 0
IsKnown o shown = (o.formatted ≡ Some shown.identity) × (shown.settings ≡ o.settings) × (shown.next ≡ o.next)
    × (shown.numbers ≡ (λ sci an. option_map shown_numbers (o.numbers sci an))) × (shown.waiting ≡ o.waiting)

-- ---- events

-- An observer expects this event, and knows this afterwards. A frame counts as sent, or as delivered, even if the
-- program ended before it saw the answer.
abbrev pub Expects : Observer → Event Shown → Observer → Type 0
Expects o (Answers (Formats identity result)) new = ExpectsFormat (unrested o) identity result new
Expects o (Answers (Opens result)) new = ExpectsOpening o result new
Expects o (Answers (Calls call reply)) new = ExpectsReply o.stopped (unrested o) call reply new
Expects o (Answers (Shows shown)) new = IsKnown o shown × (new ≡ o)
Expects o (EndsIn (Formats identity result)) new = new ≡ record (unrested o) { tried = identity ∷ o.tried }
Expects o (EndsIn (Opens result)) new = new ≡ unrested o
Expects o (EndsIn (Calls call reply)) new = ExpectsCut (unrested o) call reply new
Expects o event new = new ≡ o

-- each of these events, one after another
abbrev pub ExpectsAll : Observer → List (Event Shown) → Type 0
ExpectsAll o [] = Unit {0}
ExpectsAll o (event ∷ events) = (new : Observer) × Expects o event new × ExpectsAll new events
