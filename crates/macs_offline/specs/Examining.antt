-- What `examine` reports about the disk in a file: what recovery of its journal finds on a copy in memory, or the first
-- fault of the journal.
use Rattle.std.specs.Prelude.{◌≡◌, ◌≤◌, ◌⊎◌, ◌/◌, ◌%◌, ◌++◌, ℕ, Bool, List, [], length, map, codes, Option}
use Rattle.std.specs.Prelude.{Some, None}
use Rattle.std.specs.Fmt.{decimal}
use Rattle.std.specs.Io.KnownBytes.{Appends}
use Rattle.std.specs.List.{concat}
use Rattle.std.specs.declared.alloc.Global.{Global}
use Rattle.hex.specs.Hex.{encode_lower}
use Rattle.macs_config.specs.Config.{Config, this_edition}
use Rattle.macs_disk.specs.DiskCopies.{IsDiskCopy}
use Rattle.macs_disk.specs.Disk.{Disk, now}
use Rattle.macs_disk.specs.Files.{Behaves, FileState}
use Rattle.macs_disk.specs.Layouts.{block_of, layout_in}
use Rattle.macs_disk.specs.MemDisks.{disk_of}
use Rattle.macs_disk.specs.States.{Image}
use Rattle.macs_disk.specs.declared.layout.Layout.{Layout}
use Rattle.macs_disk.specs.declared.memory.MemDisk.{MemDisk}
use Rattle.macs_journal.specs.Areas.{least_sectors, slots}
use Rattle.macs_journal.specs.Found.{Content, HasJournal, IsBadJournal}
use Rattle.macs_journal.specs.declared.fault.JournalFault.{JournalFault}
use Rattle.macs_journal.specs.declared.fault.JournalFault.TheVariants.{BadJournal}
use Rattle.macs_record.specs.Heads.{version_of}
use Rattle.macs_record.specs.declared.record.Record.{Record}
use Rattle.macs_store.specs.Found.{IsUnfitTo}
use Rattle.macs_store.specs.Replay.{meaning_of}
use Rattle.macs_store.specs.Standing.{Standing}
use Rattle.macs_cli.specs.Objects.{in_form}
use Rattle.macs_texts.specs.Lines.{line}
use Rattle.macs_texts.specs.Showing.{association_numbers}
use Rattle.macs_offline.specs.Copying.{CopyFails}
use Rattle.macs_cli.specs.Failing.{failure_of_journal}
use Rattle.macs_journal.specs.FirstFault.{IsFirstFault}
use Rattle.macs_cli.specs.Reasons.{IsNotRead}
use Rattle.macs_offline.specs.RecordLines.{records_text}
use Rattle.macs_offline.specs.declared.examined_text.Figures.{Figures}
use Rattle.macs_cli.specs.declared.failure.Failure.{Failure}
use Rattle.macs_cli.specs.declared.failure.Failure.TheVariants as failures
use Rattle.macs_cli.specs.declared.status.Status.{Status}
use Rattle.macs_cli.specs.declared.status.Status.TheVariants as ends

-- ---- lines

-- a name and a number
abbrev pub number_line : List ℕ → ℕ → List ℕ
number_line name number = line (name ++ (codes " " ++ decimal number))

-- a name, a number and its maximum
abbrev pub part_line : List ℕ → ℕ → ℕ → List ℕ
part_line name number most = line (name ++ (codes " " ++ (decimal number ++ (codes " of " ++ decimal most))))

-- the ceiling of a transmit association, if it has one
abbrev pub tx_ceiling_line : ℕ → Option ℕ → List ℕ
tx_ceiling_line an None = []
tx_ceiling_line an (Some ceiling) = line (codes "ceiling tx " ++ (decimal an ++ (codes " " ++ decimal ceiling)))

-- the ceiling of a receive association, if it has one
abbrev pub rx_ceiling_line : List ℕ → ℕ → Option ℕ → List ℕ
rx_ceiling_line sci an None = []
rx_ceiling_line sci an (Some ceiling) =
    line (codes "ceiling rx " ++ (encode_lower sci ++ (codes " " ++ (decimal an ++ (codes " " ++ decimal ceiling)))))

-- ---- the report

-- the figures of a journal with this content
abbrev pub figures_of : Content → Figures
figures_of c = record { format = c.head.format; area = c.area; generation = c.head.generation; used = length c.records }

-- the journal, in five lines
abbrev pub figures_text : Layout → Figures → List ℕ
figures_text layout figures =
    number_line (codes "format") (version_of figures.format) ++ (number_line (codes "block") (block_of layout)
    ++ (number_line (codes "area") figures.area ++ (number_line (codes "generation") figures.generation
    ++ part_line (codes "slots used") figures.used slots)))

-- the line of the transmit association with this number
abbrev pub tx_ceiling_text : Standing → ℕ → List ℕ
tx_ceiling_text s an = tx_ceiling_line an (s.ceilings.tx an)

-- the line of the receive association with this number
abbrev pub rx_ceiling_text : Standing → List ℕ → ℕ → List ℕ
rx_ceiling_text s sci an = rx_ceiling_line sci an (s.ceilings.rx sci an)

-- the lines of all associations of a channel
abbrev pub channel_ceilings_text : Standing → List ℕ → List ℕ
channel_ceilings_text s sci = concat (map (rx_ceiling_text s sci) association_numbers)

-- how many keys are spent in each direction, and that the journal is whole
abbrev pub end_text : Config → List ℕ
end_text config =
    part_line (codes "spent tx") (length config.spent_tx) 512
    ++ (part_line (codes "spent rx") (length config.spent_rx) 512 ++ line (codes "whole"))

-- the whole report on a journal with these figures and records and this meaning
abbrev pub examined_text : Layout → Figures → List Record → Standing → List ℕ
examined_text layout figures records s =
    figures_text layout figures ++ (records_text records ++ (concat (map (tx_ceiling_text s) association_numbers)
    ++ (concat (map (channel_ceilings_text s) s.config.channels) ++ end_text s.config)))

-- for a bad journal: the sector of its first fault
abbrev pub fault_line : ℕ → List ℕ
fault_line at = number_line (codes "fault in sector") at

-- ---- on a disk in memory

-- a journal with this content is found in the image, and this is its meaning to the program
pub record IsJournalOf (image : Image) (content : Content) (standing : Standing) : Type 0 where
  pub found : HasJournal image content
  pub stands : meaning_of this_edition content ≡ Some standing

-- the first fault of the journal in the image is reported, and the run ends as refused
abbrev pub SaysFault : Image → List ℕ → Status → Type 0
SaysFault image text status = (at : ℕ) × IsFirstFault image at × (text ≡ fault_line at) × (status ≡ ends.Refused)

-- the report on a disk with this image, in a file with this layout, and the status of the run: what is found, or the
-- first fault
abbrev pub Says : Image → Layout → List ℕ → Status → Type 0
Says image layout text status =
    ((content : Content) × (standing : Standing) × IsJournalOf image content standing
    × (text ≡ examined_text layout (figures_of content) content.records standing) × (status ≡ ends.Done))
    ⊎ SaysFault image text status

-- memory runs out, or opening an endpoint of this program on the disk fails with this fault
abbrev pub IsNotOpened : Disk → Failure → Type 0
IsNotOpened copy failure =
    (failure ≡ failures.Memory)
    ⊎ ((fault : JournalFault) × (failure ≡ failure_of_journal fault)
    × IsUnfitTo this_edition copy.sectors (now copy).seen fault)

-- there is no report on a disk: no endpoint is opened on it, and the fault is not in a sector
abbrev pub IsNotExamined : Disk → Failure → Type 0
IsNotExamined copy failure =
    (failure ≡ failures.Memory)
    ⊎ ((fault : JournalFault) × (failure ≡ failure_of_journal fault)
    × IsUnfitTo this_edition copy.sectors (now copy).seen fault × (fault ≡ BadJournal → ¬ IsBadJournal (now copy).seen))

-- ---- on a disk in a file

-- a copy of the disk in a file of whole sectors, at least as many as a journal has, and its layout there, if this is
-- the state of the file
abbrev pub IsLaidCopy : FileState → MemDisk Global → Layout → Type 0
IsLaidCopy file copy layout =
    Behaves file → (file.size % 512 ≡ 0) × (least_sectors ≤ file.size / 512)
    × IsDiskCopy file (disk_of copy) × (layout ≡ layout_in file)

-- the report on the disk in a file, and the status of the run
pub record ExaminesIn {F : Type 0} (state_of : F → FileState) (text : List ℕ) (status : Status) : Type 0 where
  pub file : F
  pub copy : MemDisk Global
  pub layout : Layout
  pub is_copy : IsLaidCopy (state_of file) copy layout
  pub says : Says (now (disk_of copy)).seen layout text status

-- there is no report: the file with this name is not opened, or cannot be copied, or the copy has no report
abbrev pub ExaminationFails : {F : Type 0} → (F → FileState) → List ℕ → Failure → Type 0
ExaminationFails {F} state_of name failure =
    IsNotRead name failure
    ⊎ ((file : F) × CopyFails (state_of file) failure)
    ⊎ ((file : F) × (copy : MemDisk Global) × (layout : Layout) × IsLaidCopy (state_of file) copy layout
    × IsNotExamined (disk_of copy) failure)

-- ---- whole

-- what is printed: a report in the requested form; a refusal as plain text
abbrev pub said_text : Bool → Status → List ℕ → List ℕ
said_text is_json ends.Done text = in_form is_json text
said_text is_json ends.Usage text = text
said_text is_json ends.Refused text = text
said_text is_json ends.Disk text = text
said_text is_json ends.Fault text = text

-- it is printed
abbrev pub PrintsExamined : {F : Type 0} → (F → FileState) → Bool → Option (List ℕ) → Option (List ℕ) → Status
    → Type 0
PrintsExamined state_of is_json before after status = (text : List ℕ) × ExaminesIn state_of text status
    × Appends before after (said_text is_json status text)

-- it is not printed: writing it fails, or there is no report
abbrev pub ExamineFails : {F : Type 0} → (F → FileState) → List ℕ → Failure → Type 0
ExamineFails state_of name failure = (failure ≡ failures.Output) ⊎ ExaminationFails state_of name failure
