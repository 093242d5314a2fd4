-- What binds the program to the headline: anything done with a disk that has a history continues it, and a new disk has
-- the empty one.
use Rattle.std.specs.Prelude.{◌≡◌, ◌≢◌, ◌⊎◌, ◌≤◌, ◌+◌, ◌-◌, ◌^◌, true, ◌++◌, ℕ, List, [], ◌∷◌}
use Rattle.std.specs.Prelude.{length, map, Contains, Option, Some, None, Result, Ok, Err}
use Rattle.macs_config.specs.Config.{Edition, IsUpTo, this_edition}
use Rattle.macs_config.specs.Identity.{Identity}
use Rattle.macs_disk.specs.Disk.{Disk, IsHonest, LeftSince, MayLeave, now}
use Rattle.macs_disk.specs.States.{Image, settled_state, state_after_sync}
use Rattle.macs_record.specs.declared.format.Format.TheVariants.{One, Two}
use Rattle.macs_journal.specs.Areas.{least_sectors}
use Rattle.macs_journal.specs.Found.{Content, HasFormat, HasJournal, IsNotFormatted}
use Rattle.macs_journal.specs.NewArea.{IsSettled}
use Rattle.macs_journal.specs.declared.fault.JournalFault.{JournalFault}
use Rattle.macs_journal.specs.declared.fault.JournalFault.TheVariants.{Disk as DiskFault, NotFormatted, TooSmall}
use Rattle.macs_journal.specs.declared.recovery.RecoverRefused.{RecoverRefused}
use Rattle.macs_store.specs.Found.{StandingIs, StandsFor}
use Rattle.macs_store.specs.Replay.{meaning_of}
use Rattle.macs_store.specs.Snapshot.{snapshot}
use Rattle.macs_store.specs.Standing.{Standing}
use Rattle.macs_store.specs.Value.{standing_in}
use Rattle.macs_endpoint.specs.Advancing.{Due, ToKeep, next_due}
use Rattle.macs_endpoint.specs.Calls.{IsCall}
use Rattle.macs_endpoint.specs.Formatting.{IsFormat}
use Rattle.macs_endpoint.specs.Lives.{Transition, exchange_of}
use Rattle.macs_endpoint.specs.Opening.{IsOpening}
use Rattle.macs_endpoint.specs.Step.{Exchange}
use Rattle.macs_endpoint.specs.Ceilings.{Raise}
use Rattle.macs_endpoint.specs.Restart.{Fits}
use Rattle.macs_endpoint.specs.State.{Advances, Call, Logs}
use Rattle.macs_endpoint.specs.State.{Reply, State}
use Rattle.macs_endpoint.specs.Value.{EndpointValue, IsSoundEndpoint, device_in, disk_in, state_of}
use Rattle.macs_headline.specs.Answered.{exchanges_of_lives}
use Rattle.macs_headline.specs.Deeds.{Chain, Does, Formatting, FormattingCut, IsPassedOn, Link, Living, LivesFrom}
use Rattle.macs_headline.specs.Deeds.{OpeningCut, PassingOn, Refusing, disk_after_opening, lives_of_links}
use Rattle.macs_headline.specs.History.{FitsPast, Formats, IsHistory, Life, Past, Serves}
use Rattle.macs_headline.specs.History.{state_at_end}
use Rattle.macs_headline.specs.Moments.{IsFoundAfter, Moment}
use Rattle.macs_headline.specs.Openings.{IsSpentFor}

-- an honest disk of at least 1,028 sectors, whose head gates are closed in every image
pub record IsNewDisk (disk : Disk) : Type 0 where
  pub honest : IsHonest disk
  pub large : least_sectors ≤ disk.sectors
  pub closed : (image : Image) → MayLeave disk image → IsNotFormatted image

-- A history of these lives led to the disk: each image that a power loss may leave now is one that a program of this
-- edition may find after it.
pub record HasHistory (edition : Edition) (disk : Disk) (lives : List Life) : Type 0 where
  pub honest : IsHonest disk
  pub past : Past
  pub history : IsHistory disk.sectors lives past
  pub images : (image : Image) → MayLeave disk image → FitsPast edition disk.sectors past image

-- ---- where a history begins, and which disks have it

-- a new disk has the history in which nothing was done
abbrev pub NewDisksHaveHistories : Type 0
NewDisksHaveHistories = (edition : Edition) (disk : Disk) → IsNewDisk disk → HasHistory edition disk []

-- an honest disk has each history after which a program may find each image that it may leave, no matter what is
-- pending on it
abbrev pub FittingHaveHistories : Type 0
FittingHaveHistories = (edition : Edition) (disk : Disk) (lives : List Life) (past : Past) → IsHonest disk
    → IsHistory disk.sectors lives past
    → ((image : Image) → MayLeave disk image → FitsPast edition disk.sectors past image)
    → (h : HasHistory edition disk lives) × (h.past ≡ past)

-- a disk on which nothing is pending has each history after which a program may find what is on it
abbrev pub SettledHaveHistories : Type 0
SettledHaveHistories = (edition : Edition) (disk : Disk) (lives : List Life) (past : Past) (image : Image)
    → IsHonest disk → now disk ≡ settled_state image
    → IsHistory disk.sectors lives past → FitsPast edition disk.sectors past image → HasHistory edition disk lives

-- a history from which a program of one edition continues is one from which a program of a larger edition does
abbrev pub LargerGoOn : Type 0
LargerGoOn = (small large : Edition) → IsUpTo small large → (disk : Disk) (lives : List Life)
    → HasHistory small disk lives → HasHistory large disk lives

-- what a larger edition finds there, in each image that a power loss may leave, is what an opening finds after that
-- history
abbrev pub LargerFind : Type 0
LargerFind = (small large : Edition) → IsUpTo small large
    → (disk : Disk) (lives : List Life) (h : HasHistory small disk lives)
    → (image : Image) (found : Standing) → MayLeave disk image → StandingIs large disk.sectors image (Ok found)
    → (f : IsFoundAfter disk.sectors h.past found) × (f.lives ≡ lives) × (f.edition ≡ large) × (f.image ≡ image)

-- No other disk has it: one that does is honest; the lives led to its past; and a program of the edition may find each
-- image that it may leave.
abbrev pub HistoriesFit : Type 0
HistoriesFit = (edition : Edition) (disk : Disk) (lives : List Life) (h : HasHistory edition disk lives)
    → IsHonest disk × IsHistory disk.sectors lives h.past
    × ((image : Image) → MayLeave disk image → FitsPast edition disk.sectors h.past image)

-- the disk to which a medium is passed on has the history of the disk before it
abbrev pub PassedOnHaveHistories : Type 0
PassedOnHaveHistories = (edition : Edition) (old new : Disk) (lives : List Life) → HasHistory edition old lives
    → IsPassedOn old old.clock new
    → HasHistory edition new lives

-- ---- how it continues

-- anything done with a disk that has a history continues the history
abbrev pub DeedsAreHistories : {D : Type 0} → (D → Disk) → Type 0
DeedsAreHistories {D} disk_of = (old new : D) (before : List Life) (links : List (Link D))
    → HasHistory this_edition (disk_of old) before
    → Chain disk_of old links new → HasHistory this_edition (disk_of new) (before ++ lives_of_links disk_of old links)

-- a history led to any disk that was new and with which deeds were done
abbrev pub NewDeedsAreHistories : {D : Type 0} → (D → Disk) → Type 0
NewDeedsAreHistories {D} disk_of = (old new : D) (links : List (Link D)) → IsNewDisk (disk_of old)
    → Chain disk_of old links new
    → HasHistory this_edition (disk_of new) (lives_of_links disk_of old links)

-- each call that an endpoint of such a chain answered is among what its lives answered
abbrev pub ChainsAnswer : {D : Type 0} → (D → Disk) → Type 0
ChainsAnswer {D} disk_of = (old : D) (links : List (Link D)) (link : Link D) (first last : EndpointValue D)
    (turns : List (Transition D)) (cut : Option Call)
    (turn : Transition D) → Contains links link → link.deed ≡ Living first turns last cut → Contains turns turn
    → Contains (exchanges_of_lives (lives_of_links disk_of old links)) (exchange_of turn)

-- An endpoint that opened this image is at a moment of a history: after these lives, and after these calls of its own.
pub record IsAtMoment {D : Type 0} (sectors : ℕ) (lives : List Life) (image : Image) (turns : List (Transition D))
    (first last : EndpointValue D) : Type 0 where
  pub logs : Logs
  pub moment : Moment sectors (state_of last logs)
  pub after_lives : moment.lives ≡ lives
  pub of_edition : moment.edition ≡ this_edition
  pub opened : moment.image ≡ image
  pub calls : moment.exchanges ≡ map exchange_of turns
  pub found : moment.life.found ≡ standing_in first.store

-- an endpoint that opened a disk which has a history, and made calls, is at a moment of that history
abbrev pub LivesAreMoments : {D : Type 0} → (D → Disk) → Type 0
LivesAreMoments {D} disk_of =
    (disk : D) (before : List Life) (first last : EndpointValue D) (turns : List (Transition D))
    → HasHistory this_edition (disk_of disk) before → LivesFrom disk_of disk first turns last
    → IsAtMoment (disk_of disk).sectors before (now (disk_of disk)).seen turns first last

-- the initial state of an endpoint is what an opening finds after the history of its disk
abbrev pub OpeningsFind : {D : Type 0} → (D → Disk) → Type 0
OpeningsFind {D} disk_of = (disk : D) (before : List Life) (first : EndpointValue D)
    → (h : HasHistory this_edition (disk_of disk) before)
    → IsOpening disk_of disk (Ok first)
    → (f : IsFoundAfter (disk_of disk).sectors h.past (standing_in first.store))
    × (f.lives ≡ before) × (f.edition ≡ this_edition) × (f.image ≡ (now (disk_of disk)).seen)

-- if a medium is passed on at a moment since an opening began, that moment is one of the opening, or of one of the
-- calls after it
abbrev pub EndsAreCuts : {D : Type 0} → (D → Disk) → Type 0
EndsAreCuts {D} disk_of = (old new : D) (first last : EndpointValue D) (turns : List (Transition D))
    → LivesFrom disk_of old first turns last
    → IsPassedOn (disk_in disk_of last) (disk_of old).clock (disk_of new)
    → Does disk_of old OpeningCut new
    ⊎ ((before : List (Transition D)) × (mid : EndpointValue D) × (turn : Transition D) × (rest : List (Transition D))
    × (before ++ turn ∷ rest ≡ turns) × Does disk_of old (Living first before mid (Some turn.call)) new)

-- The call in which a life ends, if a command may begin in it. A step begins the first pending command only if no
-- ceiling is being raised and keeping that command is due next, by need and turn.
abbrev pub cut_beginning : Option Call → Option Raise → Option Due → Option Call
cut_beginning (Some Advances) None (Some (ToKeep first)) = Some Advances
cut_beginning (Some Advances) reserving next = None
cut_beginning cut reserving next = cut

-- The state in which a life ends, after these logs: with the command under way that may have begun in the interrupted
-- call
abbrev pub state_left : {D : Type 0} → EndpointValue D → Logs → Option Call → State
state_left e logs cut = state_at_end (state_of e logs) (cut_beginning cut e.reserving (next_due e))

-- Each image that the disk may leave after a life fits that state, to this edition and to each larger one: what is
-- opened there is a restart of it.
abbrev pub LivesFit : {D : Type 0} → (D → Disk) → Type 0
LivesFit {D} disk_of =
    (disk new : D) (before : List Life) (first last : EndpointValue D) (turns : List (Transition D)) (cut : Option Call)
    → HasHistory this_edition (disk_of disk) before → Does disk_of disk (Living first turns last cut) new
    → (at : IsAtMoment (disk_of disk).sectors before (now (disk_of disk)).seen turns first last)
    × ((later : Edition) → IsUpTo this_edition later → (image : Image) → MayLeave (disk_of new) image
    → Fits later (disk_of disk).sectors image (state_left last at.logs cut))

-- ---- device faults

-- one more failed call was counted, or the disk is worn, so that one may have failed uncounted
abbrev pub CountsOneFailure : Disk → Disk → Type 0
CountsOneFailure old new = (new.failures ≡ old.failures + 1) ⊎ (new.worn ≡ true)

-- ---- openings that fail

-- An opening fails with Disk, with one failed call counted or the disk worn; or with NotFormatted, and then no `format`
-- of the history returned Ok, and no opening of it succeeded; or with GenerationsSpent, and then the journal is of
-- format one, in the last generation.
abbrev pub RefusalsAreFailures : {D : Type 0} → (D → Disk) → Type 0
RefusalsAreFailures {D} disk_of = (disk : D) (before : List Life) (refused : RecoverRefused D)
    → HasHistory this_edition (disk_of disk) before
    → IsOpening disk_of disk (Err refused)
    → ((refused.fault ≡ DiskFault) × CountsOneFailure (disk_of disk) (disk_of refused.disk))
    ⊎ (((refused.fault ≡ NotFormatted)
    × ((edition : Edition) (identity : Identity) → ¬ Contains before (Formats edition identity true))
    × ((edition : Edition) (image : Image) (exchanges : List Exchange) (cut : Option Call)
    → ¬ Contains before (Serves edition image exchanges cut)))
    ⊎ IsSpentFor this_edition (now (disk_of disk)).seen refused.fault)

-- ---- what an opening does to a journal

-- nothing was written between these: at each moment the disk is unchanged, or as a sync leaves it
abbrev pub IsUnwritten : Disk → Disk → Type 0
IsUnwritten old new = (k : ℕ) → old.clock ≤ k → k ≤ new.clock
    → (new.past k ≡ now old) ⊎ (new.past k ≡ state_after_sync (now old))

-- A journal that was compacted, once: in the other area, in the next generation and in format two, of the same
-- endpoint. Its records are those of a snapshot of what the journal before it represented, with its ceilings.
pub record IsMigrated (before after : Content) (s : Standing) : Type 0 where
  pub area : after.area ≡ 1 - before.area
  pub generation : after.head.generation ≡ before.head.generation + 1
  pub format : after.head.format ≡ Two
  pub identity : after.head.identity ≡ before.head.identity
  pub count : after.head.count ≡ length (snapshot s)
  pub records : after.records ≡ snapshot s

-- the image represents the same standing as what was read
abbrev pub StandsAsRead : Disk → Image → Type 0
StandsAsRead old image = (s : Standing) × StandsFor this_edition (now old).seen s × StandsFor this_edition image s

-- What an opening does to the journal of an honest disk. Regardless of its result, and wherever it is interrupted, what
-- is left could be left before, or represents the same standing; and if there was a journal of format one, and it has a
-- next generation, that one is left, or the rewritten one. An opening of a journal of format two writes nothing, nor
-- does one that is refused because of what is on the disk; except for a disk that is too small, that one leaves it as a
-- sync does. Nor does an opening of a disk with no journal to rewrite, regardless of its result. After Ok nothing is
-- pending, each image is in format two, and a journal of format one was rewritten, which was not in the last
-- generation. Each image is also in format two after a `format` that returns Ok, and after each call of an endpoint.
pub record OpeningsMigrate {D : Type 0} (disk_of : D → Disk) : Type 0 where
  pub alike : (disk : D) (result : Result (EndpointValue D) (RecoverRefused D)) → IsHonest (disk_of disk)
      → IsOpening disk_of disk result
      → (image : Image) → LeftSince (disk_after_opening disk_of result) (disk_of disk).clock image
      → MayLeave (disk_of disk) image ⊎ StandsAsRead (disk_of disk) image
  pub either : (disk : D) (result : Result (EndpointValue D) (RecoverRefused D)) → IsHonest (disk_of disk)
      → IsOpening disk_of disk result
      → (c : Content) (s : Standing) → HasJournal (now (disk_of disk)).seen c
      → StandsFor this_edition (now (disk_of disk)).seen s → c.head.format ≡ One
      → c.head.generation ≢ 2 ^ 64 - 1 → (image : Image)
      → LeftSince (disk_after_opening disk_of result) (disk_of disk).clock image
      → MayLeave (disk_of disk) image
      ⊎ (HasJournal image c ⊎ ((after : Content) × IsMigrated c after s × HasJournal image after))
  pub unwritten : (disk : D) (result : Result (EndpointValue D) (RecoverRefused D)) → IsHonest (disk_of disk)
      → IsOpening disk_of disk result
      → HasFormat (now (disk_of disk)).seen Two → IsUnwritten (disk_of disk) (disk_after_opening disk_of result)
  pub unmoved : (disk : D) (result : Result (EndpointValue D) (RecoverRefused D)) → IsHonest (disk_of disk)
      → IsOpening disk_of disk result
      → ((c : Content) (s : Standing) → HasJournal (now (disk_of disk)).seen c → meaning_of this_edition c ≡ Some s
      → c.head.format ≡ One → c.head.generation ≡ 2 ^ 64 - 1)
      → IsUnwritten (disk_of disk) (disk_after_opening disk_of result)
  pub refused : (disk : D) (refused : RecoverRefused D) → IsHonest (disk_of disk) → IsOpening disk_of disk (Err refused)
      → refused.fault ≢ DiskFault
      → IsUnwritten (disk_of disk) (disk_of refused.disk)
  pub refused_synced : (disk : D) (refused : RecoverRefused D) → IsHonest (disk_of disk)
      → IsOpening disk_of disk (Err refused)
      → refused.fault ≢ DiskFault → refused.fault ≢ TooSmall
      → now (disk_of refused.disk) ≡ state_after_sync (now (disk_of disk))
  pub settled : (disk : D) (first : EndpointValue D) → IsHonest (disk_of disk) → IsOpening disk_of disk (Ok first)
      → IsSettled (now (disk_in disk_of first))
  pub format : (disk : D) (first : EndpointValue D) → IsHonest (disk_of disk) → IsOpening disk_of disk (Ok first)
      → (image : Image) → MayLeave (disk_in disk_of first) image → HasFormat image Two
  pub migrated : (disk : D) (first : EndpointValue D) (c : Content) → IsHonest (disk_of disk)
      → IsOpening disk_of disk (Ok first)
      → HasJournal (now (disk_of disk)).seen c → c.head.format ≡ One
      → (after : Content) × IsMigrated c after (standing_in first.store)
      × StandsFor this_edition (now (disk_of disk)).seen (standing_in first.store)
      × ((image : Image) → MayLeave (disk_in disk_of first) image
      → HasJournal image after × StandsFor this_edition image (standing_in first.store))
  pub last : (disk : D) (first : EndpointValue D) (c : Content) → IsHonest (disk_of disk)
      → IsOpening disk_of disk (Ok first)
      → HasJournal (now (disk_of disk)).seen c → c.head.format ≡ One → c.head.generation ≢ 2 ^ 64 - 1
  pub formatted : (old new : D) (identity : Identity) → IsHonest (disk_of new)
      → IsFormat disk_of old identity (Ok tt) new
      → (image : Image) → MayLeave (disk_of new) image → HasFormat image Two
  pub stays : (disk : D) (before : List Life) (first last : EndpointValue D) (turns : List (Transition D))
      → HasHistory this_edition (disk_of disk) before
      → LivesFrom disk_of disk first turns last → (image : Image) → MayLeave (disk_in disk_of last) image
      → HasFormat image Two

-- ---- deeds

-- The contract of a call makes it a deed: a `format` that returned, and one in which the medium was passed on; an
-- opening that failed, and one in which it was passed on; an endpoint that returned its disk, and one in a call of
-- which it was passed on; and a disk with which nothing was done. A life begins with an opening and continues with each
-- call; a chain begins empty and continues with each deed. The disk after an opening is that of the endpoint, or the
-- one that a failure returns; and what a chain reports of a call is the call and its answer.
pub record CallsAreDeeds {D : Type 0} (disk_of : D → Disk) : Type 0 where
  pub formatted : (old new : D) (identity : Identity) (result : Result (Unit {0}) JournalFault)
      → IsFormat disk_of old identity result new
      → Does disk_of old (Formatting identity result) new
  pub format_cut : (old ran new : D) (identity : Identity) (result : Result (Unit {0}) JournalFault)
      → IsFormat disk_of old identity result ran
      → IsPassedOn (disk_of ran) (disk_of old).clock (disk_of new) → Does disk_of old (FormattingCut identity) new
  pub refused : (old : D) (refused : RecoverRefused D) → IsOpening disk_of old (Err refused)
      → Does disk_of old (Refusing refused.fault) refused.disk
  pub opening_cut : (old new : D) (result : Result (EndpointValue D) (RecoverRefused D)) → IsOpening disk_of old result
      → IsPassedOn (disk_after_opening disk_of result) (disk_of old).clock (disk_of new)
      → Does disk_of old OpeningCut new
  pub after_opened : (first : EndpointValue D) → disk_after_opening disk_of (Ok first) ≡ disk_in disk_of first
  pub after_refused : (refused : RecoverRefused D) → disk_after_opening disk_of (Err refused) ≡ disk_of refused.disk
  pub answered : (turn : Transition D) → exchange_of turn ≡ record { call = turn.call; reply = turn.reply }
  pub ended : (old : D) (first last : EndpointValue D) (turns : List (Transition D))
      → LivesFrom disk_of old first turns last
      → Does disk_of old (Living first turns last None) (device_in last)
  pub call_cut : (old new : D) (first last after : EndpointValue D) (turns : List (Transition D)) (call : Call)
      (reply : Reply)
      → LivesFrom disk_of old first turns last → IsSoundEndpoint last → IsCall disk_of last call reply after
      → IsPassedOn (disk_in disk_of after) (disk_in disk_of last).clock (disk_of new)
      → Does disk_of old (Living first turns last (Some call)) new
  pub passed_on : (old new : D) → IsPassedOn (disk_of old) (disk_of old).clock (disk_of new)
      → Does disk_of old PassingOn new
  pub begun : (disk : D) (first : EndpointValue D) → IsOpening disk_of disk (Ok first)
      → LivesFrom disk_of disk first [] first
  pub called : (disk : D) (first mid : EndpointValue D) (turns : List (Transition D)) (turn : Transition D)
      → LivesFrom disk_of disk first turns mid
      → IsSoundEndpoint mid → IsCall disk_of mid turn.call turn.reply turn.after
      → LivesFrom disk_of disk first (turns ++ turn ∷ []) turn.after
  pub none : (old : D) → Chain disk_of old [] old
  pub one_more : (old mid : D) (links : List (Link D)) (link : Link D) → Chain disk_of old links mid
      → Does disk_of mid link.deed link.after
      → Chain disk_of old (links ++ link ∷ []) link.after
