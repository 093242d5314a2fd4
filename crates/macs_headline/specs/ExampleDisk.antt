-- What the disk holds in the example of a history: its records, and its images.
use Rattle.std.specs.Prelude.{ℕ, true, false, List, [], ◌∷◌, replicate, take, length}
use Rattle.macs_config.specs.declared.command.Validate.TheVariants.{Check, Strict}
use Rattle.macs_disk.specs.States.{Image}
use Rattle.macs_record.specs.declared.record.Record.{Record}
use Rattle.macs_record.specs.declared.record.Record.TheVariants as kept
use Rattle.macs_journal.specs.Compacting.{compacted}
use Rattle.macs_journal.specs.Formatting.{first_content}
use Rattle.macs_journal.specs.Found.{Content, content_with_record}
use Rattle.macs_store.specs.Snapshot.{snapshot}
use Rattle.macs_headline.specs.Example.{example_identity, own_sa, peer_sa, peer_sci, full_standing}
use Rattle.macs_headline.specs.Images.{compacted_image, content_with_records, formatted_image, image_while_compacted}
use Rattle.macs_headline.specs.Images.{image_with_record, image_with_records}

-- ---- formatted

-- one record
abbrev pub new_content : Content
new_content = first_content example_identity

-- a new disk, formatted
abbrev pub new_image : Image
new_image = formatted_image example_identity

-- ---- after the first life

-- its commands and ceilings, except its last command
abbrev pub first_records : List Record
first_records =
    kept.TxInstall 0 own_sa 1
    ∷ kept.TxUse 0
    ∷ kept.TxCeiling 0 9
    ∷ kept.RxAdd peer_sci
    ∷ kept.RxInstall peer_sci 0 peer_sa 1
    ∷ kept.SetReplay (record { on = true; window = 1 })
    ∷ kept.RxCeiling peer_sci 0 9
    ∷ []

-- eight records
abbrev pub narrow_content : Content
narrow_content = content_with_records new_content first_records

-- the image with them
abbrev pub narrow_image : Image
narrow_image = image_with_records new_image new_content first_records

-- the last command, which was interrupted while its gate was pending
abbrev pub widened : Record
widened = kept.SetReplay (record { on = true; window = 3 })

-- the journal with it
abbrev pub served_content : Content
served_content = content_with_record narrow_content widened

-- the image, in which the gate was left open
abbrev pub served_image : Image
served_image = image_with_record narrow_image narrow_content widened

-- ---- after the second life

-- a raised ceiling, replay protection off and on, and the same command until all 256 slots are used
abbrev pub second_records : List Record
second_records =
    kept.TxCeiling 0 13
    ∷ kept.SetReplay (record { on = false; window = 3 })
    ∷ kept.SetReplay (record { on = true; window = 3 })
    ∷ replicate 244 (kept.SetValidate Strict)

-- 256 records
abbrev pub full_content : Content
full_content = content_with_records served_content second_records

-- the image with a full area
abbrev pub full_image : Image
full_image = image_with_records served_image served_content second_records

-- the snapshot with which the journal is rewritten
abbrev pub full_snapshot : List Record
full_snapshot = snapshot full_standing

-- The life ended while the journal was being rewritten: `count` bodies of the snapshot were written, and no head gate.
abbrev pub cut_image : (count : ℕ) → Image
cut_image count = image_while_compacted full_image full_content (length full_snapshot) (take count full_snapshot)

-- ---- after the third life

-- the rewritten journal, in generation 2
abbrev pub compacted_content : Content
compacted_content = compacted full_content full_snapshot

-- its image, over what the interrupted rewrite had left
abbrev pub later_image : Image
later_image = compacted_image (cut_image 2) full_content full_snapshot

-- a command, and a raised ceiling
abbrev pub third_records : List Record
third_records = kept.RxRemove peer_sci 0 ∷ kept.TxCeiling 0 17 ∷ []

-- the journal with them
abbrev pub last_content : Content
last_content = content_with_records compacted_content third_records

-- its image
abbrev pub last_image : Image
last_image = image_with_records later_image compacted_content third_records

-- ---- after the fourth life

-- the command in which the program was killed
abbrev pub checked : Record
checked = kept.SetValidate Check

-- the journal with it
abbrev pub ended_content : Content
ended_content = content_with_record last_content checked

-- its image
abbrev pub ended_image : Image
ended_image = image_with_record last_image last_content checked
