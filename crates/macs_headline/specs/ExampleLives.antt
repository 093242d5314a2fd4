-- The example of a history: its lives, on these images.
use Rattle.std.specs.Prelude.{◌≡◌, ℕ, true, false, List, [], ◌∷◌, map, replicate, take, length, Some, None, Ok, Err}
use Rattle.macs_config.specs.Config.{IsUpTo, this_edition}
use Rattle.macs_config.specs.declared.command.Command.{Command}
use Rattle.macs_config.specs.declared.command.Command.TheVariants.{TxRemove}
use Rattle.macs_config.specs.declared.refusal.Refusal.{Refusal}
use Rattle.macs_config.specs.declared.refusal.Refusal.TheVariants.{InUse, KeySpent}
use Rattle.macs_disk.specs.Disk.{MayLeave, now}
use Rattle.macs_disk.specs.States.{IsSector}
use Rattle.macs_journal.specs.Appending.{free_gate}
use Rattle.macs_journal.specs.Areas.{slots}
use Rattle.macs_journal.specs.Found.{HasJournal}
use Rattle.macs_journal.specs.Value.{IsHolding}
use Rattle.macs_journal.specs.declared.fault.JournalFault.TheVariants as journal
use Rattle.macs_txsc.specs.declared.fault.TxFault.TheVariants.{NoNumber}
use Rattle.macs_rxsc.specs.declared.verdict.Kind.{Kind}
use Rattle.macs_rxsc.specs.declared.verdict.Kind.TheVariants.{Delayed, Ok as AsOk}
use Rattle.macs_rxsc.specs.declared.verdict.Reason.TheVariants.{Late}
use Rattle.macs_rxsc.specs.declared.verdict.Verdict.{Verdict}
use Rattle.macs_rxsc.specs.declared.verdict.Verdict.TheVariants.{Delivered, Discarded, HeldBack}
use Rattle.macs_store.specs.Found.{StandingIs, StandsFor}
use Rattle.macs_endpoint.specs.State.{Advanced, Advances, Call, Commands, Delivery, Protects, Protected, Ran, Received}
use Rattle.macs_endpoint.specs.State.{Receives, Refilled, Refills, Reply, State, Submits, Submitted, Use}
use Rattle.macs_endpoint.specs.Step.{Exchange}
use Rattle.macs_endpoint.specs.declared.fault.CommandFault.TheVariants as ran
use Rattle.macs_endpoint.specs.declared.fault.ProtectFault.{ProtectFault}
use Rattle.macs_endpoint.specs.declared.fault.ProtectFault.TheVariants as protect
use Rattle.macs_endpoint.specs.declared.progress.Step.TheVariants.{Done, Reserved, Worked}
use Rattle.macs_headline.specs.Example.{add_peer, check_only, example_identity, example_plain, example_sectors, guard}
use Rattle.macs_headline.specs.Example.{install_own, install_own_again, install_peer, install_peer_again, later_edition}
use Rattle.macs_headline.specs.Example.{narrow, own_frame, own_key, peer_frame, peer_key, peer_sci, remove_peer}
use Rattle.macs_headline.specs.Example.{stay_strict, unguard, use_own, widen, checked_standing, full_standing}
use Rattle.macs_headline.specs.Example.{last_standing}
use Rattle.macs_headline.specs.ExampleCuts.{IsRun, append_under_way, compacting_disk, compaction_under_way, killed_disk}
use Rattle.macs_headline.specs.ExampleCuts.{place_behind, torn_image, widening_disk, working_disk}
use Rattle.macs_headline.specs.ExampleDisk.{compacted_content, later_image, checked, cut_image, ended_content}
use Rattle.macs_headline.specs.ExampleDisk.{ended_image}
use Rattle.macs_headline.specs.ExampleDisk.{narrow_content, narrow_image, full_content, last_content, last_image}
use Rattle.macs_headline.specs.ExampleDisk.{new_image, served_content, served_image, widened}
use Rattle.macs_headline.specs.Binding.{HasHistory}
use Rattle.macs_headline.specs.Deeds.{IsPassedOn}
use Rattle.macs_headline.specs.History.{Formats, Formatted, IsHistory, Life, Refuses, Serves}
use Rattle.macs_headline.specs.Images.{image_while_formatted}

-- a call with its answer
abbrev pub answered : Call → Reply → Exchange
answered call reply = record { call = call; reply = reply }

-- a command that takes effect
abbrev pub obeyed : Command → Exchange
obeyed command = answered (Commands command) (Ran (Ok tt))

-- a command that is refused
abbrev pub refused : Command → Refusal → Exchange
refused command refusal = answered (Commands command) (Ran (Err (ran.Refused refusal)))

-- a plain frame that is sent with this packet number
abbrev pub sent : ℕ → Exchange
sent pn = answered (Protects example_plain) (Protected (Ok pn) (own_frame pn))

-- a plain frame that is not sent, because of this fault
abbrev pub unsent : ProtectFault → Exchange
unsent fault = answered (Protects example_plain) (Protected (Err fault) [])

-- a command that is queued, with this ticket
abbrev pub submitted : (ticket : ℕ) → Command → Exchange
submitted ticket command = answered (Submits command) (Submitted (Ok ticket))

-- a device call after which work continues
abbrev pub worked : Exchange
worked = answered Advances (Advanced (Ok Worked))

-- the last device call of a reservation
abbrev pub reserved : Exchange
reserved = answered Advances (Advanced (Ok Reserved))

-- the command with this ticket takes effect
abbrev pub done : (ticket : ℕ) → Exchange
done ticket = answered Advances (Advanced (Ok (Done ticket (Ok tt))))

-- ceilings are raised
abbrev pub refilled : Exchange
refilled = answered Refills (Refilled (Ok tt))

-- frame 5 of the peer, with this verdict
abbrev pub received : Verdict → (out : List ℕ) → Exchange
received verdict out = answered (Receives (peer_frame 5)) (Received (Ok verdict) out)

-- ---- the lives

-- Frames are sent between the steps of a reservation, until none has a number; and one between the steps of `add_peer`,
-- which was pending. A frame of the peer is held back until its number is reserved, and then delivered twice, within a
-- replay window of 1. Then the power fails between two steps of `widen`: its third device call wrote its gate, which is
-- pending.
abbrev pub first_exchanges : List Exchange
first_exchanges =
    obeyed install_own ∷ obeyed use_own
    ∷ sent 1 ∷ sent 2 ∷ worked ∷ sent 3 ∷ worked ∷ sent 4 ∷ worked ∷ unsent (protect.Tx NoNumber) ∷ reserved
    ∷ submitted 1 add_peer ∷ worked ∷ sent 5 ∷ worked ∷ worked ∷ done 1
    ∷ obeyed install_peer ∷ obeyed narrow ∷ received HeldBack [] ∷ refilled
    ∷ received (Delivered AsOk) example_plain ∷ received (Delivered AsOk) example_plain
    ∷ submitted 2 widen ∷ worked ∷ sent 6 ∷ worked ∷ worked
    ∷ []

-- The next frame is sent with number 9; an association in use is not removed; neither key is installed again. The
-- peer's frame is late; without replay protection it is Delayed, and with it late again. A command is repeated until
-- the area is full. Then the power fails in `remove_peer`, while the journal is being rewritten.
abbrev pub second_exchanges : List Exchange
second_exchanges =
    unsent (protect.Tx NoNumber) ∷ refilled ∷ sent 9
    ∷ refused (TxRemove 0) InUse ∷ refused install_own_again KeySpent ∷ refused install_peer_again KeySpent
    ∷ received (Discarded Late) [] ∷ obeyed unguard ∷ received (Delivered Delayed) example_plain ∷ obeyed guard
    ∷ received (Discarded Late) []
    ∷ replicate 244 (obeyed stay_strict)

-- The journal is rewritten with `remove_peer`; frame 13 is sent; a device call fails in `check_only`.
abbrev pub third_exchanges : List Exchange
third_exchanges =
    obeyed remove_peer ∷ unsent (protect.Tx NoNumber) ∷ refilled ∷ sent 13
    ∷ answered (Commands check_only) (Ran (Err ran.Disk)) ∷ unsent protect.Stopped
    ∷ []

-- `check_only` is given again. The program is killed in its fourth step, and no power is lost: its gate, which is
-- pending, is read as it was written.
abbrev pub fourth_exchanges : List Exchange
fourth_exchanges = submitted 1 check_only ∷ worked ∷ worked ∷ worked ∷ []

-- A program of a later edition continues: frame 17 is sent, and the replay window is set once more.
abbrev pub last_exchanges : List Exchange
last_exchanges = unsent (protect.Tx NoNumber) ∷ refilled ∷ sent 17 ∷ obeyed guard ∷ []

-- an interrupted `format`, an opening that finds nothing, a `format`, an opening that fails because of a failed device
-- call; the four lives, with a mistaken `format` between them; and a life of a later edition
abbrev pub example_lives : List Life
example_lives =
    Formats this_edition example_identity false
    ∷ Refuses this_edition (image_while_formatted example_identity) journal.NotFormatted
    ∷ Formats this_edition example_identity true
    ∷ Refuses this_edition new_image journal.Disk
    ∷ Serves this_edition new_image first_exchanges None
    ∷ Serves this_edition served_image second_exchanges (Some (Commands remove_peer))
    ∷ Formats this_edition example_identity false
    ∷ Serves this_edition (cut_image 2) third_exchanges None
    ∷ Serves this_edition last_image fourth_exchanges (Some Advances)
    ∷ Serves later_edition ended_image last_exchanges None
    ∷ []

-- all except that life
abbrev pub early_lives : List Life
early_lives = take 9 example_lives

-- a frame was sent under the endpoint's key with this packet number
abbrev pub own_use : ℕ → Use
own_use pn = record { key = own_key; pn = pn }

-- the peer's frame was delivered as this kind
abbrev pub peer_delivery : Kind → Delivery
peer_delivery kind = record { sci = peer_sci; key = peer_key; pn = 5; kind = kind }

-- This is a history: nine frames were sent under one key, one frame was delivered twice in one life and once in the
-- next, and the journal was rewritten. Where a life was interrupted its disk had work under way, in a state that a
-- journal has, and was left like that: a power loss may leave the image that the next life opens, and the killed
-- program left what reads give, with the gate pending. While the journal is being rewritten its disk still represents
-- the same standing, regardless of how many bodies are written. Before the later edition opens it, its disk has this
-- history to both editions. The life before the last found the disk without the command that failed, and the last one
-- finds it.
pub record IsWorkedHistory : Type 0 where
  pub last : State
  pub history : IsHistory example_sectors example_lives (Formatted last)
  pub used : last.logs.used ≡ map own_use (17 ∷ 13 ∷ 9 ∷ 6 ∷ 5 ∷ 4 ∷ 3 ∷ 2 ∷ 1 ∷ [])
  pub given : last.logs.given ≡ map peer_delivery (Delayed ∷ AsOk ∷ AsOk ∷ [])
  pub widening : IsHolding widening_disk (place_behind narrow_content) (append_under_way widened) narrow_content
      served_content
  pub widening_calls : IsRun narrow_image widening_disk
  pub left_open : MayLeave widening_disk served_image
  pub full : length full_content.records ≡ slots
  pub compacting : IsHolding compacting_disk (place_behind full_content) compaction_under_way full_content
      compacted_content
  pub torn : (head first second : List ℕ) → IsSector head → IsSector first → IsSector second
      → MayLeave compacting_disk (torn_image head first second)
  pub left_torn : MayLeave compacting_disk (cut_image 2)
  pub cut : (count : ℕ) → StandsFor this_edition (cut_image count) full_standing
  pub compacted : (compacted_content.area ≡ 1) × (compacted_content.head.generation ≡ 2)
      × HasJournal later_image compacted_content
  pub working : IsHolding working_disk (place_behind last_content) (append_under_way checked) last_content ended_content
  pub working_calls : IsRun last_image working_disk
  pub killed : IsPassedOn working_disk working_disk.clock killed_disk
  pub pending : (now killed_disk).pending (free_gate last_content) ≡ true
  pub read : (now killed_disk).seen ≡ ended_image
  pub early : HasHistory this_edition killed_disk early_lives
  pub later : IsUpTo this_edition later_edition × (¬ IsUpTo later_edition this_edition)
  pub older : HasHistory later_edition killed_disk early_lives
  pub found_without : StandingIs this_edition example_sectors last_image (Ok (last_standing this_edition))
  pub finds : StandingIs later_edition example_sectors ended_image (Ok (checked_standing later_edition))
