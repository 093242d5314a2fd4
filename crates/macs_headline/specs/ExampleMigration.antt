-- A disk formatted by the first edition of the program: its meaning to this edition, whose opening rewrites its
-- journal.
use Rattle.std.specs.Prelude.{◌≡◌, true, List, [], ◌∷◌, ◌++◌, fold, map, replicate, take, length, None, Some, Ok}
use Rattle.macs_aes.specs.declared.keys.Key.TheVariants.{Long}
use Rattle.macs_config.specs.Apply.{config_after}
use Rattle.macs_config.specs.Config.{Config, Edition, default, first_edition, this_edition, tx_fingerprint}
use Rattle.macs_config.specs.declared.command.Command.{Command}
use Rattle.macs_config.specs.declared.command.Command.TheVariants.{TxInstall}
use Rattle.macs_config.specs.declared.command.Role.TheVariants.{Transmit}
use Rattle.macs_config.specs.declared.command.Validate.TheVariants.{Strict}
use Rattle.macs_config.specs.declared.refusal.Refusal.TheVariants.{KeySpent}
use Rattle.macs_disk.specs.Disk.{Disk, IsHonest, MayLeave, now}
use Rattle.macs_disk.specs.States.{Image, put_sector, settled_state}
use Rattle.macs_record.specs.Gates.{closed_gate}
use Rattle.macs_record.specs.Heads.{Head}
use Rattle.macs_record.specs.Settings.{default_settings}
use Rattle.macs_record.specs.declared.format.Format.TheVariants.{One, Two}
use Rattle.macs_record.specs.declared.record.Record.{Record}
use Rattle.macs_record.specs.declared.record.Record.TheVariants as kept
use Rattle.macs_journal.specs.Areas.{gate}
use Rattle.macs_journal.specs.Compacting.{compacted, next_head}
use Rattle.macs_journal.specs.Formatting.{first_head}
use Rattle.macs_journal.specs.Found.{Content, HasJournal}
use Rattle.macs_journal.specs.Value.{IsHolding}
use Rattle.macs_journal.specs.declared.compact_stage.CompactStage.TheVariants.{Body}
use Rattle.macs_journal.specs.declared.under_way.UnderWay.{UnderWay}
use Rattle.macs_journal.specs.declared.under_way.UnderWay.TheVariants as under_way
use Rattle.macs_rxsc.specs.declared.verdict.Kind.TheVariants.{Ok as AsOk}
use Rattle.macs_rxsc.specs.declared.verdict.Verdict.TheVariants.{Delivered, HeldBack}
use Rattle.macs_store.specs.Found.{StandingIs, IsToMigrate, StandAlike}
use Rattle.macs_store.specs.Snapshot.{settings_record, snapshot}
use Rattle.macs_store.specs.Standing.{Standing, ceilings_with_rx, ceilings_with_tx, no_ceilings}
use Rattle.macs_endpoint.specs.State.{Commands, RefusedLong, State}
use Rattle.macs_endpoint.specs.Step.{Exchange}
use Rattle.macs_headline.specs.Binding.{HasHistory}
use Rattle.macs_headline.specs.Example.{add_peer, example_identity, example_plain, example_sectors, install_own}
use Rattle.macs_headline.specs.Example.{install_own_again, install_peer, install_peer_again, own_key, own_sa, peer_sa}
use Rattle.macs_headline.specs.Example.{peer_sci, stay_strict, use_own}
use Rattle.macs_headline.specs.ExampleCuts.{compaction_states, disk_through, place_behind}
use Rattle.macs_headline.specs.ExampleLives.{answered, obeyed, own_use, peer_delivery, received, refilled, refused}
use Rattle.macs_headline.specs.ExampleLives.{sent}
use Rattle.macs_headline.specs.History.{Formats, Formatted, IsHistory, Life, Serves}
use Rattle.macs_headline.specs.Images.{blank_image, compacted_image, content_with_records, image_while_compacted}
use Rattle.macs_headline.specs.Images.{image_with_area, image_with_open_head, image_with_records}

-- ---- formatted by the first edition

-- the head that it wrote, of format one
abbrev pub old_head : Head
old_head = record (first_head example_identity) { format = One }

-- the journal
abbrev pub old_content : Content
old_content = record { area = 0; head = old_head; records = default_settings ∷ [] }

-- and the disk
abbrev pub old_image : Image
old_image = image_with_open_head (image_with_area blank_image 0 old_head (default_settings ∷ [])) 0

-- ---- a life of the first edition

-- an install with a key of 256 bits
abbrev pub install_long : Command
install_long = TxInstall 0 (Long (replicate 32 7)) 1 true 0

-- That is refused because of the key's length. The endpoint's own association is installed, with a key of 128 bits, and
-- a frame is sent.
abbrev pub old_exchanges : List Exchange
old_exchanges = answered (Commands install_long) RefusedLong ∷ obeyed install_own ∷ obeyed use_own ∷ sent 1 ∷ []

-- what was done with the disk by then
abbrev pub old_lives : List Life
old_lives = Formats first_edition example_identity true ∷ Serves first_edition old_image old_exchanges None ∷ []

-- the records that it kept
abbrev pub old_records : List Record
old_records = kept.TxInstall 0 own_sa 1 ∷ kept.TxUse 0 ∷ []

-- the journal with them, of format one
abbrev pub used_content : Content
used_content = content_with_records old_content old_records

-- and the disk
abbrev pub used_image : Image
used_image = image_with_records old_image old_content old_records

-- nothing is pending on it
pub record IsOldDisk (disk : Disk) : Type 0 where
  pub honest : IsHonest disk
  pub size : disk.sectors ≡ example_sectors
  pub settled : now disk ≡ settled_state used_image

-- ---- its journal is rewritten

-- the configuration that it has
abbrev pub used_config : Config
used_config = fold config_after default (install_own ∷ use_own ∷ [])

-- the standing that it represents to an edition
abbrev pub used_standing : Edition → Standing
used_standing edition =
    record {
      edition = edition;
      identity = example_identity;
      config = used_config;
      ceilings =
          ceilings_with_tx no_ceilings 0 (Some 5);
    }

-- as a snapshot
abbrev pub used_records : List Record
used_records =
    settings_record used_config ∷ kept.TxSa 0 own_sa 5 ∷ kept.Spent Transmit (tx_fingerprint own_key ∷ []) ∷ []

-- An opening by this edition is interrupted: the bodies of the head and of the first two records are written, and the
-- head gate is not.
abbrev pub begun_image : Image
begun_image = image_while_compacted used_image used_content 3 (take 2 used_records)

-- The disk at that point, before the next call: 257 reads of gates and a sync changed nothing, and three writes
-- followed.
abbrev pub beginning_disk : Disk
beginning_disk = disk_through (compaction_states used_image used_content used_records) 261

-- what is under way then: the next call writes the snapshot's third body
abbrev pub beginning_under_way : UnderWay
beginning_under_way =
    under_way.Compact (record { head = next_head used_content.head (length used_records); stage = Body 2 })

-- the next opening completes that: the journal is in the second area, in format two
abbrev pub migrated_content : Content
migrated_content = compacted used_content used_records

-- its image, over what the interrupted opening had left
abbrev pub migrated_image : Image
migrated_image = compacted_image begun_image used_content used_records

-- ---- lives of this edition

-- After that opening a frame is sent under the key of 128 bits, with number 5. The peer's association is installed,
-- with a key of 256 bits; its frame is held back until its number is reserved, and then delivered. Then the power
-- fails.
abbrev pub long_exchanges : List Exchange
long_exchanges =
    refilled ∷ sent 5 ∷ obeyed add_peer ∷ obeyed install_peer
    ∷ received HeldBack [] ∷ refilled ∷ received (Delivered AsOk) example_plain
    ∷ []

-- its records
abbrev pub long_records : List Record
long_records =
    kept.TxCeiling 0 9 ∷ kept.RxAdd peer_sci ∷ kept.RxInstall peer_sci 0 peer_sa 1 ∷ kept.RxCeiling peer_sci 0 9 ∷ []

-- the journal with them, of format two
abbrev pub long_content : Content
long_content = content_with_records migrated_content long_records

-- and the disk
abbrev pub long_image : Image
long_image = image_with_records migrated_image migrated_content long_records

-- the configuration then
abbrev pub long_config : Config
long_config = fold config_after used_config (add_peer ∷ install_peer ∷ [])

-- the standing
abbrev pub long_standing : Standing
long_standing = record {
  edition = this_edition;
  identity = example_identity;
  config = long_config;
  ceilings = ceilings_with_rx (ceilings_with_rx (ceilings_with_tx (ceilings_with_tx no_ceilings 0 (Some 5)) 0 (Some 9))
      peer_sci 0 (Some 1)) peer_sci 0
      (Some 9);
}

-- Both keys are spent, and a frame is sent with number 9.
abbrev pub front_exchanges : List Exchange
front_exchanges = refused install_own_again KeySpent ∷ refused install_peer_again KeySpent ∷ refilled ∷ sent 9 ∷ []

-- Then a command is repeated until the area is full, and the power fails in the next one, after the journal was
-- rewritten.
abbrev pub spent_exchanges : List Exchange
spent_exchanges = front_exchanges ++ replicate 248 (obeyed stay_strict)

-- its records
abbrev pub filled_records : List Record
filled_records = kept.TxCeiling 0 13 ∷ replicate 248 (kept.SetValidate Strict)

-- the journal with them: 256 records
abbrev pub filled_content : Content
filled_content = content_with_records long_content filled_records

-- and the disk
abbrev pub filled_image : Image
filled_image = image_with_records long_image long_content filled_records

-- the standing
abbrev pub filled_standing : Standing
filled_standing = record {
  edition = this_edition;
  identity = example_identity;
  config = long_config;
  ceilings = ceilings_with_rx (ceilings_with_tx no_ceilings 0 (Some 13)) peer_sci 0 (Some 9);
}

-- as a snapshot
abbrev pub filled_snapshot : List Record
filled_snapshot = snapshot filled_standing

-- the gates of the first area that read open are closed: that of its head of format one, and those of the two records
-- after its snapshot
abbrev pub closed_image : Image
closed_image = put_sector (put_sector (put_sector filled_image (gate 0 0) closed_gate) (gate 0 2) closed_gate)
    (gate 0 3) closed_gate

-- the journal is rewritten there
abbrev pub again_content : Content
again_content = compacted filled_content filled_snapshot

-- the disk then
abbrev pub again_image : Image
again_image = compacted_image closed_image filled_content filled_snapshot

-- a last life sends frame 13
abbrev pub again_exchanges : List Exchange
again_exchanges = refilled ∷ sent 13 ∷ []

-- what this edition does with the disk: an interrupted opening is not a life; the next one finds what it left
abbrev pub later_lives : List Life
later_lives =
    Serves this_edition begun_image long_exchanges None
    ∷ Serves this_edition long_image spent_exchanges (Some (Commands stay_strict))
    ∷ Serves this_edition again_image again_exchanges None
    ∷ []

-- This holds of each honest disk of that size with that image and nothing pending. It has that history to the edition
-- that formatted it, and so to this one. This edition must rewrite its journal. After three bodies of that it still has
-- that history, no matter what a power loss leaves of it; and once it is done it represents the same standing, in the
-- second area and in format two. So lives of this edition continue from it: after the first of them there are keys of
-- both lengths, and the journal is rewritten once more, in the first area. Over all of them four frames were sent under
-- the short key, and one was delivered under the long one.
pub record IsWorkedMigration : Type 0 where
  pub as_old : (disk : Disk) → IsHonest disk → disk.sectors ≡ example_sectors → now disk ≡ settled_state used_image
      → IsOldDisk disk
  pub formatted : (disk : Disk) → IsOldDisk disk → HasHistory first_edition disk old_lives
  pub ours : (disk : Disk) → IsOldDisk disk → HasHistory this_edition disk old_lives
  pub old : IsToMigrate this_edition used_image used_content (used_standing this_edition)
  pub beginning : IsHolding beginning_disk (place_behind used_content) beginning_under_way used_content migrated_content
  pub cut_short : HasHistory this_edition beginning_disk old_lives
  pub left_begun : MayLeave beginning_disk begun_image
  pub begun : HasJournal begun_image used_content
  pub migrated : HasJournal migrated_image (compacted used_content (snapshot (used_standing this_edition)))
  pub moved : (migrated_content.area ≡ 1) × (migrated_content.head.format ≡ Two)
      × HasJournal migrated_image migrated_content
  pub alike : StandAlike this_edition used_image migrated_image
  pub stood : StandingIs this_edition example_sectors long_image (Ok long_standing)
  pub full : length filled_content.records ≡ 256
  pub again : (again_content.area ≡ 0) × (again_content.head.generation ≡ 3) × (again_content.head.format ≡ Two)
      × HasJournal again_image again_content
  pub last : State
  pub history : IsHistory example_sectors (old_lives ++ later_lives) (Formatted last)
  pub used : last.logs.used ≡ map own_use (13 ∷ 9 ∷ 5 ∷ 1 ∷ [])
  pub given : last.logs.given ≡ peer_delivery AsOk ∷ []
