-- The journal of a new endpoint in sectors that a C program passes, and what it then writes to its device.
use Rattle.std.specs.Prelude.{◌≡◌, ◌≢◌, ◌<◌, ◌≤◌, ℕ, false, List, length, Err}
use Rattle.macs_config.specs.Config.{this_edition}
use Rattle.macs_config.specs.Identity.{Identity, IsBlock}
use Rattle.macs_c.specs.ImageDisks.{image_of}
use Rattle.macs_disk.specs.States.{DiskState, Image}
use Rattle.macs_record.specs.Decoding.{IsSectorOf}
use Rattle.macs_record.specs.Heads.{IsHeadOf}
use Rattle.macs_record.specs.Settings.{default_settings}
use Rattle.macs_journal.specs.Areas.{IsArea, gate, gates, head_body, least_sectors, slot_body}
use Rattle.macs_journal.specs.Formatting.{FormatWrites, HasOpenHead, first_content, first_head}
use Rattle.macs_journal.specs.Found.{HasJournal, IsGateOpen}
use Rattle.macs_journal.specs.declared.fault.JournalFault.TheVariants.{NotFormatted}
use Rattle.macs_store.specs.Found.{StandingIs}
use Rattle.macs_endpoint.specs.Formatting.{IsFormattedAs}
use Rattle.macs_c.specs.declared.answers.Answer.{Answer}
use Rattle.macs_c.specs.declared.answers.Answer.TheVariants as code
use Rattle.macs_c.specs.declared.formatting.MacsIdentity.{MacsIdentity}

-- the identity that a C program asks for
abbrev pub identity_of : MacsIdentity → Identity
identity_of asked = record { sci = asked.sci.octets; tx_block = asked.tx_block; rx_block = asked.rx_block }

-- its blocks are in their range
abbrev pub HasBlocks : MacsIdentity → Type 0
HasBlocks asked = IsBlock asked.tx_block × IsBlock asked.rx_block

-- The head of a new journal and its one record are written, its head gate is open, and no gate of a slot is. No sector
-- is touched but those that a format writes to.
pub record IsFilled (old : Image) (identity : Identity) (new : Image) : Type 0 where
  pub head : IsHeadOf (first_head identity) (new (head_body 0))
  pub body : IsSectorOf default_settings (new (slot_body 0 0))
  pub opened : IsGateOpen new 0 0
  pub shut : (k : ℕ) → 1 ≤ k → k < gates → ¬ IsGateOpen new 0 k
  pub others : (i : ℕ) → (¬ FormatWrites old i) → new i ≡ old i

-- A disk without a journal becomes that of a new endpoint with this identity, with the journal of a new disk. No sector
-- is touched but those that a format writes to.
pub record Formats (sectors : ℕ) (old : Image) (identity : Identity) (new : Image) : Type 0 where
  pub blank : StandingIs this_edition sectors old (Err NotFormatted)
  pub formatted : IsFormattedAs sectors identity new
  pub journal : HasJournal new (first_content identity)
  pub others : (i : ℕ) → (¬ FormatWrites old i) → new i ≡ old i

-- the answer: the sectors before and after
abbrev pub FormatAnswer : List (List ℕ) → MacsIdentity → Answer → List (List ℕ) → Type 0
FormatAnswer old asked code.Success new = HasBlocks asked × (length new ≡ length old)
    × Formats (length old) (image_of old) (identity_of asked) (image_of new)
FormatAnswer old asked code.Block new = (¬ HasBlocks asked) × (new ≡ old)
FormatAnswer old asked code.TooSmall new = HasBlocks asked × (length old < least_sectors) × (new ≡ old)
FormatAnswer old asked code.Formatted new = HasBlocks asked × (least_sectors ≤ length old)
    × HasOpenHead (image_of old) × (new ≡ old)
FormatAnswer old asked answer new = ⊥

-- ---- writing the sectors to a device

-- A device while sectors are written to it, but for the two head gates: these are not pending, and durably as before.
pub record IsBeforeGate (old : Image) (s : DiskState) : Type 0 where
  pub clean : (area : ℕ) → IsArea area → s.pending (gate area 0) ≡ false
  pub durable : (area : ℕ) → IsArea area → s.durable (gate area 0) ≡ old (gate area 0)

-- A device while the first head gate is written to it: each other sector is durably the new one.
pub record IsAtGate (new : Image) (s : DiskState) : Type 0 where
  pub clean : (i : ℕ) → i ≢ gate 0 0 → s.pending i ≡ false
  pub durable : (i : ℕ) → i ≢ gate 0 0 → s.durable i ≡ new i

-- A device to which all is written: each sector is durably the new one.
pub record IsWritten (new : Image) (s : DiskState) : Type 0 where
  pub clean : (i : ℕ) → s.pending i ≡ false
  pub durable : (i : ℕ) → s.durable i ≡ new i
