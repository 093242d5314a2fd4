-- The headline on openings and `format`: why an opening fails, what that changes, which identity one finds on a disk,
-- and that a disk is formatted once.
use Rattle.std.specs.Prelude.{◌≡◌, ◌⊎◌, ◌↔◌, ◌-◌, ◌^◌, ◌++◌, ◌∷◌, ℕ, Bool, true, List, Contains, Some, Option}
use Rattle.macs_config.specs.Config.{Edition}
use Rattle.macs_config.specs.Identity.{Identity}
use Rattle.macs_disk.specs.States.{Image}
use Rattle.macs_record.specs.declared.format.Format.TheVariants.{One}
use Rattle.macs_journal.specs.Found.{Content, HasJournal}
use Rattle.macs_journal.specs.declared.fault.JournalFault.{JournalFault}
use Rattle.macs_journal.specs.declared.fault.JournalFault.TheVariants.{Disk, GenerationsSpent, NotFormatted}
use Rattle.macs_store.specs.Found.{IsAtLast}
use Rattle.macs_store.specs.Replay.{meaning_of}
use Rattle.macs_store.specs.Standing.{Standing}
use Rattle.macs_endpoint.specs.State.{State, Call}
use Rattle.macs_endpoint.specs.Step.{Exchange}
use Rattle.macs_headline.specs.History.{Blank, FitsPast, Formats, Formatted, Leads, Past, Refuses, logs_of, IsHistory}
use Rattle.macs_headline.specs.History.{Life, Serves}
use Rattle.macs_headline.specs.Moments.{IsFoundAfter}

-- a journal of a format that the edition rewrites is in the last generation
abbrev pub IsSpentFor : Edition → Image → JournalFault → Type 0
IsSpentFor edition image fault = (fault ≡ GenerationsSpent) × IsAtLast edition image

-- That fault is GenerationsSpent, and means a valid journal of format one in generation 2^64 - 1, and an edition that
-- reads areas of format two.
abbrev pub SpentAreLast : Type 0
SpentAreLast = (edition : Edition) (image : Image) (fault : JournalFault) → IsSpentFor edition image fault
    → (fault ≡ GenerationsSpent) × (c : Content) × (s : Standing) × HasJournal image c × (meaning_of edition c ≡ Some s)
    × (c.head.format ≡ One) × (edition.format_two ≡ true) × (c.head.generation ≡ 2 ^ 64 - 1)

-- once `format` has returned Ok, only because a device call failed, or for that reason
abbrev pub RefusedForDiskOrSpent : ℕ → Type 0
RefusedForDiskOrSpent sectors = (s : State) (edition : Edition) (image : Image) (fault : JournalFault) (new : Past)
    → Leads sectors (Formatted s) (Refuses edition image fault) new → (fault ≡ Disk) ⊎ IsSpentFor edition image fault

-- before that also if no head gate is open
abbrev pub RefusedForDiskOrBlank : ℕ → Type 0
RefusedForDiskOrBlank sectors =
    (identities : List Identity) (edition : Edition) (image : Image) (fault : JournalFault) (new : Past)
    → Leads sectors (Blank identities) (Refuses edition image fault) new
    → (fault ≡ Disk) ⊎ ((fault ≡ NotFormatted) ⊎ IsSpentFor edition image fault)

-- A program of any edition may find the same images later, and no others; and what was used and delivered is the same.
pub record AreAsBefore (sectors : ℕ) (old new : Past) : Type 0 where
  pub images : (later : Edition) (image : Image) → FitsPast later sectors new image ↔ FitsPast later sectors old image
  pub logs : logs_of new ≡ logs_of old

-- this holds after an opening that failed, and after a `format` of a disk that is formatted, for any edition of either
pub record NothingChanges (sectors : ℕ) : Type 0 where
  pub refused : (old : Past) (edition : Edition) (image : Image) (fault : JournalFault) (new : Past)
      → Leads sectors old (Refuses edition image fault) new
      → AreAsBefore sectors old new
  pub formatted : (s : State) (edition : Edition) (identity : Identity) (is_ok : Bool) (new : Past)
      → Leads sectors (Formatted s) (Formats edition identity is_ok) new → AreAsBefore sectors (Formatted s) new

-- The identity that an opening finds is one that a `format` of the history was given.
abbrev pub IdentityWasGiven : ℕ → Type 0
IdentityWasGiven sectors = (past : Past) (found : Standing) → (f : IsFoundAfter sectors past found)
    → (edition : Edition) × (is_ok : Bool) × Contains f.lives (Formats edition found.identity is_ok)

-- ---- `format`: once it returned Ok, and once an opening succeeded, it no longer returns Ok, and no opening finds the
-- disk without a journal

-- In these lives no `format` returned Ok, and no opening succeeded.
pub record AreUnformatted (lives : List Life) : Type 0 where
  pub no_format : (edition : Edition) (identity : Identity) → ¬ Contains lives (Formats edition identity true)
  pub no_opening : (edition : Edition) (image : Image) (exchanges : List Exchange) (cut : Option Call)
      → ¬ Contains lives (Serves edition image exchanges cut)

-- this holds of the lives before a `format` that returns Ok
abbrev pub FormatsOnce : ℕ → Type 0
FormatsOnce sectors = (lives : List Life) (past : Past) → IsHistory sectors lives past
    → (before after : List Life) (edition : Edition) (identity : Identity)
    → before ++ Formats edition identity true ∷ after ≡ lives → AreUnformatted before

-- An opening fails with Disk; or with NotFormatted, and then no `format` of the lives before it returned Ok, and no
-- opening of them succeeded; or because a journal of a format that the edition rewrites is in the last generation.
abbrev pub RefusedByHistory : ℕ → Type 0
RefusedByHistory sectors = (lives : List Life) (past : Past) → IsHistory sectors lives past
    → (edition : Edition) (image : Image) (fault : JournalFault) (new : Past)
    → Leads sectors past (Refuses edition image fault) new
    → (fault ≡ Disk) ⊎ (((fault ≡ NotFormatted) × AreUnformatted lives) ⊎ IsSpentFor edition image fault)
