-- A disk stands for one thing, since its journal does.
use Rattle.std.proofs.Common.{◌≡◌, ◌≤◌, ◌⊎◌, inl, inr, ℕ, refl, sym, ◌∙◌, ap, Option, Some, None, Result, Ok, Err}
use Rattle.macs_config.specs.Config.{Edition}
use Rattle.macs_disk.specs.States.{Image}
use Rattle.macs_journal.specs.Areas.{least_sectors}
use Rattle.macs_journal.specs.Found.{Content, IsBadJournal}
use Rattle.macs_journal.specs.Found as journal
use Rattle.macs_journal.specs.declared.fault.JournalFault.{JournalFault}
use Rattle.macs_journal.specs.declared.fault.JournalFault.TheVariants.{Stopped, TooSmall, Disk, AlreadyFormatted}
use Rattle.macs_journal.specs.declared.fault.JournalFault.TheVariants.{NotFormatted, BadJournal, GenerationsSpent}
use Rattle.macs_journal.proofs.Findings.{one_finding}
use Rattle.macs_store.specs.Found.{HasRefusedReplay, StandingIs}
use Rattle.macs_store.specs.Replay.{meaning_of}
use Rattle.macs_store.specs.Standing.{Standing}

-- what a replay says of a disk
abbrev said_by : Option Standing → Result Standing JournalFault
said_by None = Err BadJournal
said_by (Some s) = Ok s

-- and what is found
abbrev said : Edition → Result Content JournalFault → Result Standing JournalFault
said edition (Ok c) = said_by (meaning_of edition c)
said edition (Err fault) = Err fault

-- what a disk stands for follows from what its journal holds
record IsSaid (edition : Edition) (sectors : ℕ) (image : Image) (a : Result Standing JournalFault) : Type 0 where
  found : Result Content JournalFault
  is : journal.JournalIs sectors image found
  says : said edition found ≡ a

bad : (edition : Edition) (sectors : ℕ) (image : Image) → least_sectors ≤ sectors
    → IsBadJournal image ⊎ HasRefusedReplay edition image
    → IsSaid edition sectors image (Err BadJournal)
bad edition sectors image large is = elim is [
  | inl broken ↦ record { found = Err BadJournal; is = (large, broken); says = refl }
  | inr refused ↦ record { found = Ok refused.content; is = (large, refused.found); says = ap said_by refused.refused }
]

found-said : (edition : Edition) (sectors : ℕ) (image : Image) (a : Result Standing JournalFault)
    → StandingIs edition sectors image a → IsSaid edition sectors image a
found-said edition sectors image (Ok s) is =
    record { found = Ok is.1.content; is = (is.0, is.1.found); says = ap said_by is.1.stands }
found-said edition sectors image (Err BadJournal) is = bad edition sectors image is.0 is.1
found-said edition sectors image (Err TooSmall) is = record { found = Err TooSmall; is = is; says = refl }
found-said edition sectors image (Err NotFormatted) is = record { found = Err NotFormatted; is = is; says = refl }
found-said edition sectors image (Err Stopped) is = absurd is
found-said edition sectors image (Err Disk) is = absurd is
found-said edition sectors image (Err AlreadyFormatted) is = absurd is
found-said edition sectors image (Err GenerationsSpent) is = absurd is

pub one_standing : (edition : Edition) (sectors : ℕ) (image : Image) (a b : Result Standing JournalFault)
    → StandingIs edition sectors image a → StandingIs edition sectors image b → a ≡ b
one_standing edition sectors image a b is_a is_b =
    let first = found-said edition sectors image a is_a in
    let second = found-said edition sectors image b is_b in
    sym first.says ∙ ap (said edition) (one_finding sectors image first.found second.found first.is second.is)
    ∙ second.says
