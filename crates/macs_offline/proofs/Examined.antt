-- What is said of the disk in a file, and how that fails.
use Rattle.std.proofs.Common.{◌≡◌, ◌≢◌, ◌≤◌, ◌⊎◌, ◌∙◌, inl, inr, ℕ, Bool, List, length, Option, Ok, Err, ap, refl}
use Rattle.std.proofs.Common.{subst}
use Rattle.std.proofs.Common.{sym}
use Rattle.std.specs.Io.KnownBytes.{Appends}
use Rattle.macs_config.specs.Config.{this_edition}
use Rattle.macs_disk.specs.Disk.{Disk, now}
use Rattle.macs_disk.specs.Files.{FileState}
use Rattle.macs_disk.specs.States.{DiskState, Image}
use Rattle.macs_disk.specs.declared.layout.Layout.{Layout}
use Rattle.macs_journal.specs.Areas.{least_sectors}
use Rattle.macs_journal.specs.Found.{Content, HasJournal, IsBadJournal, JournalIs}
use Rattle.macs_journal.specs.Recovery.{IsLeftBy}
use Rattle.macs_journal.specs.declared.fault.JournalFault.{JournalFault}
use Rattle.macs_journal.specs.declared.fault.JournalFault.TheVariants as journal
use Rattle.macs_journal.proofs.Current.{not_both, one_content}
use Rattle.macs_record.specs.declared.format.Format.{Format}
use Rattle.macs_store.specs.Found.{IsUnfitTo, StandingIs}
use Rattle.macs_store.specs.Replay.{meaning_of}
use Rattle.macs_store.specs.Standing.{Standing}
use Rattle.macs_offline.specs.Examining.{ExaminationFails, ExamineFails, ExaminesIn, IsJournalOf}
use Rattle.macs_offline.specs.Examining.{IsNotExamined, IsNotOpened, PrintsExamined, Says, figures_of, said_text}
use Rattle.macs_cli.specs.Failing.{failure_status}
use Rattle.macs_offline.specs.Trying.{failure_in_memory}
use Rattle.macs_cli.specs.declared.failure.DiskFault.TheVariants as disk
use Rattle.macs_cli.specs.declared.failure.Failure.{Failure}
use Rattle.macs_cli.specs.declared.failure.Failure.TheVariants as failures
use Rattle.macs_cli.specs.declared.status.Status.{Status}
use Rattle.macs_cli.specs.declared.status.Status.TheVariants.{Done, Refused, Usage}
use Rattle.macs_offline.proofs.Failures.{IsOfCopy, copy-no-usage, of-copy, of-unread}

-- ---- the journal

-- the figures that were read are those of what was found
pub figures-read : (format : Format) (area generation used : ℕ) (c : Content) → format ≡ c.head.format → area ≡ c.area
    → generation ≡ c.head.generation → used ≡ length c.records
    → record { format = format; area = area; generation = generation; used = used } ≡ figures_of c
figures-read format area generation used c one two three four = rw (one, two, three, four) refl

-- what is found stands for what a store has, which was opened on a disk that reads the same
pub found-stands : (image left : Image) (sectors : ℕ) (content : Content) (standing : Standing) → left ≡ image
    → HasJournal image content
    → StandingIs this_edition sectors left (Ok standing) → IsJournalOf image content standing
found-stands image left sectors content standing same found (large, stands) =
    let here = subst (λ (i : Image). HasJournal i stands.content) same stands.found in
    record {
      found = found;
      stands = ap (λ (c : Content). meaning_of this_edition c) (one_content image content stands.content found here)
          ∙ stands.stands;
    }

-- ---- refusals

-- a refusal, as a failure
pub refused-so : (copy : Disk) (fault : JournalFault) (failure : Failure)
    → failure ≡ failure_in_memory (disk.Journal fault)
    → (fault ≢ journal.Disk → IsUnfitTo this_edition copy.sectors (now copy).seen fault) → IsNotOpened copy failure
refused-so copy journal.Stopped failure is known = inr (journal.Stopped, is, known (λ e. cc))
refused-so copy journal.TooSmall failure is known = inr (journal.TooSmall, is, known (λ e. cc))
refused-so copy journal.Disk failure is known = inl is
refused-so copy journal.AlreadyFormatted failure is known = inr (journal.AlreadyFormatted, is, known (λ e. cc))
refused-so copy journal.NotFormatted failure is known = inr (journal.NotFormatted, is, known (λ e. cc))
refused-so copy journal.BadJournal failure is known = inr (journal.BadJournal, is, known (λ e. cc))
refused-so copy journal.GenerationsSpent failure is known = inr (journal.GenerationsSpent, is, known (λ e. cc))

-- a journal was found, and no endpoint is opened on a disk that reads the same
pub not-told : (copy left : Disk) (failure : Failure) (content : Content) → HasJournal (now copy).seen content
    → (now left).seen ≡ (now copy).seen
    → left.sectors ≡ copy.sectors → IsNotOpened left failure → IsNotExamined copy failure
not-told copy left failure content found seen sectors (inl memory) = inl memory
not-told copy left failure content found seen sectors (inr (fault, is, known)) = inr (
  fault,
  is,
  subst (λ (n : ℕ). IsUnfitTo this_edition n (now copy).seen fault) sectors
      (subst (λ (i : Image). IsUnfitTo this_edition left.sectors i fault) seen known),
  λ named bad. not_both (now copy).seen bad content found,
)

-- no journal was found, and none that is bad
pub not-found : (copy : Disk) (fault : JournalFault) (failure : Failure)
    → failure ≡ failure_in_memory (disk.Journal fault)
    → fault ≢ journal.BadJournal → (fault ≢ journal.Disk → JournalIs copy.sectors (now copy).seen (Err fault))
    → IsNotExamined copy failure
not-found copy journal.Stopped failure is other known = absurd (known (λ e. cc))
not-found copy journal.TooSmall failure is other known = inr (journal.TooSmall, is, known (λ e. cc), λ e bad. cc)
not-found copy journal.Disk failure is other known = inl is
not-found copy journal.AlreadyFormatted failure is other known = absurd (known (λ e. cc))
not-found copy journal.NotFormatted failure is other known =
    inr (journal.NotFormatted, is, known (λ e. cc), λ e bad. cc)
not-found copy journal.BadJournal failure is other known = absurd (other refl)
not-found copy journal.GenerationsSpent failure is other known = absurd (known (λ e. cc))

-- a bad one was found
pub bad-found : (copy : Disk) (fault : JournalFault) → fault ≡ journal.BadJournal
    → (fault ≢ journal.Disk → JournalIs copy.sectors (now copy).seen (Err fault))
    → (least_sectors ≤ copy.sectors) × IsBadJournal (now copy).seen
bad-found copy fault same known =
    let no : fault ≢ journal.Disk = λ e. (let clash : journal.BadJournal ≡ journal.Disk = sym same ∙ e in cc) in
    subst (λ (f : JournalFault). JournalIs copy.sectors (now copy).seen (Err f)) same (known no)

-- its disk is given back as it reads
pub left-bad : (copy left : Disk) (fault : JournalFault) → fault ≡ journal.BadJournal
    → (fault ≢ journal.Disk → JournalIs copy.sectors (now copy).seen (Err fault)) → left.sectors ≡ copy.sectors
    → IsLeftBy fault (now copy) (now left)
    → (least_sectors ≤ left.sectors) × ((now left).seen ≡ (now copy).seen)
left-bad copy left fault same known sectors kept =
    let synced = subst (λ (f : JournalFault). IsLeftBy f (now copy) (now left)) same kept in (
      subst (λ (n : ℕ). least_sectors ≤ n) (sym sectors) (bad-found copy fault same known).0,
      ap (λ (s : DiskState). s.seen) synced,
    )

-- ---- failures

-- want of memory, or a fault of the disk or of its file
pub of-examination : {F : Type 0} (state_of : F → FileState) (name : List ℕ) (failure : Failure)
    → ExaminationFails state_of name failure → IsOfCopy failure
of-examination state_of name failure (inl unread) = of-unread name failure unread
of-examination state_of name failure (inr (inl (file, fails))) = inl (of-copy (state_of file) failure fails)
of-examination state_of name failure (inr (inr (file, copy, layout, is_copy, inl memory))) = inl (inl memory)
of-examination state_of name failure (inr (inr (file, copy, layout, is_copy, inr (fault, is, known, none)))) =
    inl (inr (disk.Journal fault, is))

pub examining-no-usage : {F : Type 0} (state_of : F → FileState) (name : List ℕ) (failure : Failure)
    → ExamineFails state_of name failure → failure_status failure ≢ Usage
examining-no-usage state_of name failure (inl output) = λ e. let f = sym e ∙ ap failure_status output in cc
examining-no-usage state_of name failure (inr fails) =
    copy-no-usage failure (of-examination state_of name failure fails)

-- ---- what is said

pub said-status : (image : Image) (layout : Layout) (text : List ℕ) (status : Status) → Says image layout text status
    → (status ≡ Done) ⊎ (status ≡ Refused)
said-status image layout text status (inl (content, standing, journal, is, done)) = inl done
said-status image layout text status (inr (at, fault, is, refused)) = inr refused

-- it is printed, and the run ends so
pub printed-so : {F : Type 0} (state_of : F → FileState) (is_json : Bool) (before after : Option (List ℕ))
    (text : List ℕ) (said status : Status) → ExaminesIn state_of text said
    → Appends before after (said_text is_json said text) × (status ≡ said)
    → PrintsExamined state_of is_json before after status
printed-so state_of is_json before after text said status is (printed, ended) = (
  text,
  subst (λ (s : Status). ExaminesIn state_of text s) (sym ended) is,
  subst (λ (s : Status). Appends before after (said_text is_json s text)) (sym ended) printed,
)

-- it is not: there is no memory for that, or it cannot be printed
pub unprinted-so : {F : Type 0} (state_of : F → FileState) (name text : List ℕ) (said : Status) (failure : Failure)
    → ExaminesIn state_of text said → (failure ≡ failures.Memory) ⊎ (failure ≡ failures.Output)
    → ExamineFails state_of name failure
unprinted-so state_of name text said failure is (inl memory) =
    inr (inr (inr (is.file, is.copy, is.layout, is.is_copy, inl memory)))
unprinted-so state_of name text said failure is (inr output) = inl output
