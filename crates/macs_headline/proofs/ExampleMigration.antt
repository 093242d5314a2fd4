-- A disk that the first edition of the program formatted, and what an opening makes of it.
use Rattle.std.proofs.Common.{◌≡◌, ◌≢◌, ◌≤◌, ◌<◌, ◌^◌, ◌+◌, ◌-◌, ◌==◌, ◌++◌, ◌∙◌, inl, inr, ℕ, Bool, true, false, cond}
use Rattle.std.proofs.Common.{List, replicate, [], ◌∷◌, length, take, bytes_eq, Some, None, Ok, Err, refl, sym, ap}
use Rattle.std.proofs.Common.{subst, arith}
use Rattle.std.specs.Prelude.{All}
use Rattle.std.specs.List.{AllByRecursion}
use Rattle.std.specs.Option.{option_map}
use Rattle.std.proofs.lemmas.Bool.{cases_eq}
use Rattle.std.proofs.lemmas.List.{length-replicate}
use Rattle.std.proofs.lemmas.List.Elements.{All-from_recursion, All-replicate}
use Rattle.macs_fields.specs.Fields.{IsOctets}
use Rattle.macs_config.specs.Apply.{Named, apply, config_after}
use Rattle.macs_config.specs.Config.{Edition, IsConfig, IsUpTo, default, first_edition, is_spent, rx_fingerprint}
use Rattle.macs_config.specs.Config.{this_edition, tx_fingerprint}
use Rattle.macs_config.specs.Tables.{put}
use Rattle.macs_config.specs.declared.command.Role.TheVariants.{Receive, Transmit}
use Rattle.macs_config.specs.declared.command.Validate.TheVariants.{Strict}
use Rattle.macs_config.specs.declared.refusal.Refusal.TheVariants.{KeySpent}
use Rattle.macs_disk.specs.Disk.{Disk, MayLeave}
use Rattle.macs_disk.specs.States.{Image, put_sector, zero_sector}
use Rattle.macs_disk.proofs.Images.{put-other, put-same}
use Rattle.macs_record.specs.Gates.{closed_gate, open_gate}
use Rattle.macs_record.specs.Heads.{IsHead, head_sector_of}
use Rattle.macs_record.specs.Layout.{IsRecord, sector_of}
use Rattle.macs_record.specs.Settings.{default_settings}
use Rattle.macs_record.specs.declared.record.Record.{Record}
use Rattle.macs_record.specs.declared.record.Record.TheVariants as kept
use Rattle.macs_journal.specs.Appending.{HasEitherJournal, free_body, free_gate}
use Rattle.macs_journal.specs.Areas.{gate, head_body, least_sectors, slot_body, slots}
use Rattle.macs_journal.specs.Compacting.{compacted, next_head}
use Rattle.macs_journal.specs.Found.{Content, HasJournal, IsGateOpen, content_with_record}
use Rattle.macs_journal.specs.Value.{IsHolding}
use Rattle.macs_journal.proofs.Current.{alone}
use Rattle.macs_journal.proofs.Holding.{holding-image}
use Rattle.macs_rxsc.specs.Receive.{Numbers, first_numbers, numbers_after_delivery, numbers_after_hold}
use Rattle.macs_store.specs.Found.{IsToMigrate, StandAlike, StandingIs}
use Rattle.macs_store.specs.Replay.{meaning_of, snapshot_of}
use Rattle.macs_store.specs.Snapshot.{rx_records, rx_records_of, settings_record, snapshot, spent_records, tx_records}
use Rattle.macs_store.specs.Standing.{IsStanding, new_standing, no_ceilings}
use Rattle.macs_store.proofs.Snapshots.{snapshot-stands}
use Rattle.macs_endpoint.specs.Restart.{Fits, Resumes, TxRises, opened_state}
use Rattle.macs_endpoint.specs.Calls.{IsInRange}
use Rattle.macs_endpoint.specs.State.{Commands, RefusedLong, State, rx_side, state_with_under_way}
use Rattle.macs_endpoint.specs.Step.{Exchange, Step, Steps, state_after_command, state_after_delivery}
use Rattle.macs_endpoint.specs.Step.{state_after_frame, state_after_hold}
use Rattle.macs_headline.specs.Binding.{HasHistory}
use Rattle.macs_headline.specs.Example.{add_peer, example_identity, example_sectors, install_own, install_own_again}
use Rattle.macs_headline.specs.Example.{install_peer, install_peer_again, own_key, own_sa, peer_frame, peer_key}
use Rattle.macs_headline.specs.Example.{peer_sa, peer_sci, stay_strict, use_own}
use Rattle.macs_headline.specs.ExampleCuts.{body_writes, place_behind, state_after_writes}
use Rattle.macs_headline.specs.ExampleLives.{obeyed}
use Rattle.macs_headline.specs.ExampleMigration.{IsOldDisk, IsWorkedMigration, again_content, again_exchanges}
use Rattle.macs_headline.specs.ExampleMigration.{again_image, beginning_disk, beginning_under_way, begun_image}
use Rattle.macs_headline.specs.ExampleMigration.{closed_image, filled_content, filled_image, filled_records}
use Rattle.macs_headline.specs.ExampleMigration.{filled_snapshot, filled_standing, front_exchanges, install_long}
use Rattle.macs_headline.specs.ExampleMigration.{later_lives, long_config, long_content, long_exchanges, long_image}
use Rattle.macs_headline.specs.ExampleMigration.{long_records, long_standing, migrated_content, migrated_image}
use Rattle.macs_headline.specs.ExampleMigration.{old_content, old_exchanges, old_head, old_image, old_lives}
use Rattle.macs_headline.specs.ExampleMigration.{old_records, spent_exchanges, used_config, used_content, used_image}
use Rattle.macs_headline.specs.ExampleMigration.{used_records, used_standing}
use Rattle.macs_headline.specs.History.{Blank, Formats, Formatted, IsHistory, IsLifeSoFar, Leads, formatted_state}
use Rattle.macs_headline.specs.Images.{blank_image, image_with_area, image_with_bodies, image_with_next_body}
use Rattle.macs_headline.specs.Images.{image_with_record, image_with_records}
use Rattle.macs_headline.proofs.Built.{area-other, closed-gate, opened-found, opened-other, records-found}
use Rattle.macs_headline.proofs.Built.{records-other}
use Rattle.macs_headline.proofs.Formats.{resumed, up-to-itself}
use Rattle.macs_headline.proofs.Later.{later-found, meaning-later, meaning-more, written-found}
use Rattle.macs_headline.proofs.Chains.{settled-disks}
use Rattle.macs_headline.proofs.ExampleCuts.{head-sector, record_sector, torn_kept, torn_whole}
use Rattle.macs_headline.proofs.ExampleFits.{away, rx_all, tx_second}
use Rattle.macs_headline.proofs.ExampleFrames.{arrival, peer-arrives}
use Rattle.macs_headline.proofs.ExampleHistory.{install_own_range, install_peer_range, plain_range, range_on}
use Rattle.macs_headline.proofs.ExampleHistory.{refused_by, same_steps, steps_on}
use Rattle.macs_headline.proofs.ExampleImages.{both_at, both_some, default_config, next_config}
use Rattle.macs_headline.proofs.ExampleRecords.{example-head, key-range, long-key-range, peer-range, print_range}
use Rattle.macs_headline.proofs.ExampleRecords.{snapshot-ranges}
use Rattle.macs_headline.proofs.ExampleStates.{outgoing}
use Rattle.macs_headline.proofs.Lists.{each-same}
use Rattle.macs_headline.proofs.Older.{older}
use Rattle.macs_headline.proofs.Places.{put-that, put_rx, put_rx-that}

-- ---- images

old_range : IsHead old_head
old_range =
    example-head old_head refl (omega arith) (omega arith) (omega arith) (omega arith)

pub next_range : IsHead (next_head used_content.head 3)
next_range =
    example-head (next_head used_content.head 3) refl (omega arith) (omega arith) (omega arith) (omega arith)

settings_range : AllByRecursion IsRecord (default_settings ∷ [])
settings_range = ((omega arith, tt), tt)

old_ranges : AllByRecursion IsRecord old_records
old_ranges = ((omega arith, inl (key-range 1 (omega arith)), (omega arith, omega arith)), (omega arith, tt))

pub used_ranges : AllByRecursion IsRecord used_records
used_ranges = (
  (omega arith, omega arith),
  (
    (omega arith, inl (key-range 1 (omega arith)), (omega arith, omega arith)),
    (
      (
        omega arith,
        omega arith,
        All-from_recursion (IsOctets 32) (tx_fingerprint own_key ∷ []) (print_range own_key, tt),
      ),
      tt,
    ),
  ),
)

long_ranges : AllByRecursion IsRecord long_records
long_ranges = (
  (omega arith, (omega arith, omega arith)),
  (
    peer-range,
    (
      (peer-range, omega arith, inr (long-key-range 2 (omega arith)), (omega arith, omega arith)),
      ((peer-range, omega arith, (omega arith, omega arith)), tt),
    ),
  ),
)

far_old : (i : ℕ) → 514 ≤ i → old_image i ≡ zero_sector
far_old i far =
    opened-other blank_image 0 old_head (default_settings ∷ []) i (omega (arith, far)) (omega (arith, far))
    (λ j lt. omega (arith, far, lt))

closed_old : (k : ℕ) → ¬ IsGateOpen old_image 1 k
closed_old k = closed-gate old_image 1 k (far_old (gate 1 k) (omega arith))

old_found : HasJournal old_image old_content
old_found =
    opened-found blank_image 0 old_head (default_settings ∷ []) (omega arith) old_range refl (omega arith)
    settings_range
    (λ j lt. closed-gate blank_image 0 (j + 1) refl) (λ opens. absurd (closed_old 0 opens))

pub used_found : HasJournal used_image used_content
used_found = records-found old_records old_image old_content (omega arith) old_ranges old_found

far_used : (i : ℕ) → 514 ≤ i → used_image i ≡ zero_sector
far_used i far = records-other old_records old_image old_content i (omega arith) far ∙ far_old i far

pub closed_used : (k : ℕ) → ¬ IsGateOpen used_image 1 k
closed_used k = closed-gate used_image 1 k (far_used (gate 1 k) (omega arith))

begun_found : HasJournal begun_image used_content
begun_found = written-found used_image used_content used_found 1 refl (next_head used_content.head 3)
    (take 2 used_records) (omega arith) (closed_used 0)

-- three sectors are pending, and a power loss may leave in each what was written
left_begun : MayLeave beginning_disk begun_image
unfolding state_after_writes body_writes image_with_area image_with_bodies
left_begun =
    let settings = settings_record used_config in
    let own = kept.TxSa 0 own_sa 5 in
    let head = next_head used_content.head 3 in
    record {
      kept = λ i clean.
          torn_kept (i == head_body 1) (i == slot_body 1 0) (i == slot_body 1 1) (head_sector_of head)
          (sector_of settings) (sector_of own) (used_image i) clean;
      whole = λ i pending.
          torn_whole (i == head_body 1) (i == slot_body 1 0) (i == slot_body 1 1) (head_sector_of head)
          (sector_of settings) (sector_of own) (used_image i)
          (head-sector head next_range) (record_sector settings used_ranges.0 refl)
          (record_sector own used_ranges.1.0 refl) pending;
    }

begun_closed : (k : ℕ) → k ≤ slots → ¬ IsGateOpen begun_image 1 k
begun_closed k le =
    closed-gate begun_image 1 k
    (area-other used_image 1 (next_head used_content.head 3) (take 2 used_records) (gate 1 k) (omega arith)
    (λ j lt. omega arith) ∙ far_used (gate 1 k) (omega arith))

migrated_found : HasJournal migrated_image migrated_content
migrated_found = later-found begun_image used_content begun_found 1 refl used_records next_range (omega arith)
    used_ranges begun_closed

long_found : HasJournal long_image long_content
long_found = records-found long_records migrated_image migrated_content (omega arith) long_ranges migrated_found

-- ---- the area is full, and the journal is compacted into the first one

repeated : length (replicate 248 (kept.SetValidate Strict)) ≡ 248
repeated = length-replicate 248 (kept.SetValidate Strict)

filled_ranges : AllByRecursion IsRecord filled_records
filled_ranges = ((omega arith, (omega arith, omega arith)), each-same IsRecord 248 (kept.SetValidate Strict) tt)

filled_found : HasJournal filled_image filled_content
filled_found = records-found filled_records long_image long_content (omega (arith, repeated)) filled_ranges long_found

-- sectors in front of the area are not written
records_before : (rs : List Record) (image : Image) (c : Content) (i : ℕ) → i < head_body c.area
    → image_with_records image c rs i ≡ image i
unfolding image_with_records
records_before [] image c i front = refl
records_before (r ∷ rs) image c i front =
    records_before rs (image_with_record image c r) (content_with_record c r) i front
    ∙ put-other (image_with_next_body image c r) (free_gate c) i open_gate (omega (arith, front))
    ∙ put-other image (free_body c) i (sector_of r) (omega (arith, front))

-- nor is a gate of the first area, but those of two slots
used_gate : (k : ℕ) → k ≢ 2 → k ≢ 3 → used_image (gate 0 k) ≡ old_image (gate 0 k)
unfolding image_with_records
used_gate k no_two no_three =
    let first = kept.TxInstall 0 own_sa 1 in
    let second = kept.TxUse 0 in
    let mid = image_with_record old_image old_content first in
    let c = content_with_record old_content first in
    put-other (image_with_next_body mid c second) (free_gate c) (gate 0 k) open_gate (omega (arith, no_three))
    ∙ put-other mid (free_body c) (gate 0 k) (sector_of second) (omega arith)
    ∙ put-other (image_with_next_body old_image old_content first) (free_gate old_content) (gate 0 k) open_gate
    (omega (arith, no_two))
    ∙ put-other old_image (free_body old_content) (gate 0 k) (sector_of first) (omega arith)

-- what the later lives wrote is in the second area
filled_front : (i : ℕ) → i < 514 → filled_image i ≡ used_image i
filled_front i front =
    records_before filled_records long_image long_content i (omega (arith, front))
    ∙ records_before long_records migrated_image migrated_content i (omega (arith, front))
    ∙ opened-other begun_image 1 (next_head used_content.head 3) used_records i (omega (arith, front))
    (omega (arith, front)) (λ j lt. omega (arith, front))
    ∙ area-other used_image 1 (next_head used_content.head 3) (take 2 used_records) i (omega (arith, front))
    (λ j lt. omega (arith, front))

filled_gate : (k : ℕ) → k ≤ slots → k ≢ 0 → k ≢ 2 → k ≢ 3 → filled_image (gate 0 k) ≡ zero_sector
filled_gate k le no_zero no_two no_three =
    filled_front (gate 0 k) (omega (arith, le)) ∙ used_gate k no_two no_three
    ∙ opened-other blank_image 0 old_head (default_settings ∷ []) (gate 0 k) (omega arith) (omega (arith, no_zero))
    (λ j lt. omega arith)

gate_zero : closed_gate ≡ zero_sector
unfolding zero_sector
gate_zero = refl

-- the images while the gates are closed
abbrev one_closed : Image
one_closed = put_sector filled_image (gate 0 0) closed_gate

abbrev two_closed : Image
two_closed = put_sector one_closed (gate 0 2) closed_gate

closes : (image : Image) (at i : ℕ) → (i ≢ at → image i ≡ zero_sector)
    → put_sector image at closed_gate i ≡ zero_sector
closes image at i other = elim (cases_eq i at) [
  | inl same ↦ put-same image at i closed_gate same ∙ gate_zero
  | inr apart ↦ put-other image at i closed_gate apart ∙ other apart
]

closed_other : (i : ℕ) → i ≢ gate 0 0 → i ≢ gate 0 2 → i ≢ gate 0 3 → closed_image i ≡ filled_image i
closed_other i no_zero no_two no_three =
    put-other two_closed (gate 0 3) i closed_gate no_three ∙ put-other one_closed (gate 0 2) i closed_gate no_two
    ∙ put-other filled_image (gate 0 0) i closed_gate no_zero

closed_each : (k : ℕ) → k ≤ slots → closed_image (gate 0 k) ≡ zero_sector
closed_each k le =
    closes two_closed (gate 0 3) (gate 0 k) (λ no_three.
    closes one_closed (gate 0 2) (gate 0 k) (λ no_two.
    closes filled_image (gate 0 0) (gate 0 k) (λ no_zero.
    filled_gate k le (λ is. no_zero (ap (gate 0) is)) (λ is. no_two (ap (gate 0) is))
    (λ is. no_three (ap (gate 0) is)))))

shut : (k : ℕ) → k ≤ slots → ¬ IsGateOpen closed_image 0 k
shut k le = closed-gate closed_image 0 k (closed_each k le)

closed_found : HasJournal closed_image filled_content
closed_found =
    alone filled_image closed_image filled_content filled_found
    (λ i from until. closed_other i (omega (arith, from)) (omega (arith, from)) (omega (arith, from)))
    (λ opens. absurd (shut 0 (omega arith) opens))

-- ---- its snapshot

abbrev six_records : List Record
six_records =
    settings_record long_config
    ∷ kept.TxSa 0 own_sa 13
    ∷ kept.Channel peer_sci
    ∷ kept.RxSa peer_sci 0 peer_sa 9
    ∷ kept.Spent Transmit (tx_fingerprint own_key ∷ [])
    ∷ kept.Spent Receive (rx_fingerprint peer_sci peer_key ∷ [])
    ∷ []

filled_is : filled_snapshot ≡ six_records
unfolding snapshot tx_records rx_records rx_records_of spent_records
filled_is = refl

filled_size : length filled_snapshot ≡ 6
filled_size = ap length filled_is

six_ranges : AllByRecursion IsRecord six_records
six_ranges = ((omega arith, omega arith), snapshot-ranges.1)

again_head : IsHead (next_head filled_content.head (length filled_snapshot))
again_head =
    example-head (next_head filled_content.head (length filled_snapshot)) refl (omega arith) (omega arith)
    (omega (arith, filled_size)) (omega (arith, filled_size))

again_found : HasJournal again_image again_content
again_found =
    later-found closed_image filled_content closed_found 0 refl filled_snapshot again_head (omega (arith, filled_size))
    (subst (AllByRecursion IsRecord) (sym filled_is) six_ranges) shut

-- ---- what they stand for

old_meaning : (edition : Edition) → meaning_of edition old_content ≡ Some (new_standing edition example_identity)
old_meaning edition = refl

used_first : meaning_of first_edition used_content ≡ Some (used_standing first_edition)
used_first = refl

used_this : meaning_of this_edition used_content ≡ Some (used_standing this_edition)
used_this = refl

used_is_config : IsConfig this_edition example_identity used_config
used_is_config =
    let installed = config_after default install_own in
    next_config installed used_config use_own refl (next_config default installed install_own refl default_config)

long_is_config : IsConfig this_edition example_identity long_config
long_is_config =
    let added = config_after used_config add_peer in
    next_config added long_config install_peer refl (next_config used_config added add_peer refl used_is_config)

used_stands : IsStanding (used_standing this_edition)
used_stands = record { tx = λ an. both_some (an == 0) 5 own_sa; rx = λ sci an. refl }

snapshot_is : snapshot (used_standing this_edition) ≡ used_records
unfolding snapshot tx_records rx_records rx_records_of spent_records
snapshot_is = refl

snapshot_meaning : snapshot_of this_edition example_identity used_records ≡ Some (used_standing this_edition)
snapshot_meaning =
    subst (λ (rs : List Record). snapshot_of this_edition example_identity rs
    ≡ Some (used_standing this_edition)) snapshot_is
    (snapshot-stands (used_standing this_edition) used_is_config used_stands
    (λ an above. put-that (λ an. None) 0 an (Some own_sa) (omega (arith, above))) (λ sci an above. refl))

migrated_meaning : meaning_of this_edition migrated_content ≡ Some (used_standing this_edition)
migrated_meaning =
    meaning-later this_edition used_content used_records (used_standing this_edition) refl snapshot_meaning

long_meaning : meaning_of this_edition long_content ≡ Some long_standing
long_meaning =
    meaning-more this_edition long_records migrated_content (used_standing this_edition) long_standing (omega arith)
    refl migrated_meaning refl

filled_stands : IsStanding filled_standing
filled_stands = record {
  tx = λ an. both_some (an == 0) 13 own_sa;
  rx = λ sci. both_at (bytes_eq sci peer_sci) (put (λ an. None) 0 (Some 9)) (λ an. None)
      (put (λ an. None) 0 (Some peer_sa)) (λ an. None)
      (λ an. both_some (an == 0) 9 peer_sa) (λ an. refl);
}

again_meaning : meaning_of this_edition again_content ≡ Some filled_standing
again_meaning =
    meaning-later this_edition filled_content filled_snapshot filled_standing refl
    (snapshot-stands filled_standing long_is_config filled_stands
    (λ an above. put-that (λ an. None) 0 an (Some own_sa) (omega (arith, above)))
    (λ sci an above.
    put_rx-that (λ sci an. None) peer_sci 0 sci an (Some peer_sa) (λ same here. omega (arith, above, here))))

used_is : IsToMigrate this_edition used_image used_content (used_standing this_edition)
used_is = record {
  is = record { found = used_found; stands = used_this; old = refl };
  next = λ last. let same : 1 ≡ 2 ^ 64 - 1 = last in absurd (omega (arith, same));
}

used_alike : StandAlike this_edition used_image migrated_image
used_alike = record {
  standing = used_standing this_edition;
  first = record { content = used_content; found = used_found; stands = used_this };
  second = record { content = migrated_content; found = migrated_found; stands = migrated_meaning };
}

-- ---- the life of the first edition

formatted_life : Leads example_sectors (Blank []) (Formats first_edition example_identity true)
    (Formatted (formatted_state first_edition example_identity))
formatted_life = refl

-- the state after the `format`
abbrev made : State
made = formatted_state first_edition example_identity

old_fits : (sectors : ℕ) → least_sectors ≤ sectors → Fits first_edition sectors old_image made
old_fits sectors large = record {
  found = new_standing first_edition example_identity;
  is_found = (large, record { content = old_content; found = old_found; stands = old_meaning first_edition });
  restart = inl (resumed made (new_standing first_edition example_identity) (up-to-itself first_edition) refl refl
      (λ an. refl) (λ sci an. refl));
}

-- the endpoint's own association is installed and used, and a frame goes out
abbrev r1 : State
r1 = state_after_command made install_own (config_after default install_own)

abbrev r2 : State
r2 = state_after_command r1 use_own used_config

abbrev old_end : State
old_end = state_after_frame r2 (outgoing 1)

long_range : IsOctets 32 (replicate 32 7)
long_range = record { size = refl; each = All-replicate (λ octet. octet < 2 ^ 8) 32 7 (omega arith) }

refused_long : Step made (Commands install_long) RefusedLong made
refused_long = inr (refl, (refl, refl, refl))

old_steps : Steps made old_exchanges old_end
old_steps = (
  made,
  refused_long,
  (
    r1,
    inr (refl, (refl, (config_after default install_own, refl, refl))),
    (
      r2,
      inr (refl, (refl, (used_config, refl, refl))),
      (
        old_end,
        inr (refl, (refl, (outgoing 1, refl, refl, refl, refl))),
        refl,
      ),
    ),
  ),
)

old_life : (sectors : ℕ) → least_sectors ≤ sectors
    → IsLifeSoFar sectors (Formatted made) first_edition old_image old_exchanges old_end
old_life sectors large = record {
  fits = old_fits sectors large;
  found = new_standing first_edition example_identity;
  is_found = (large, record { content = old_content; found = old_found; stands = old_meaning first_edition });
  in_range = (
    (omega arith, inr long_range, omega arith, omega arith),
    (install_own_range 0 (omega arith), (omega arith, (plain_range, tt))),
  );
  steps = old_steps;
}

tx_old : (own : Bool) → TxRises 4 (cond own (Some 2) (cond own (Some 1) None)) (cond own (Some 5) None)
tx_old true = (5, refl, omega arith, omega arith, omega arith)
tx_old false = refl

-- an edition resumes what that life left
old_resumed : (edition : Edition) → IsUpTo first_edition edition
    → Resumes old_end (opened_state (used_standing edition) old_end.logs)
old_resumed edition up_to = resumed old_end (used_standing edition) up_to refl refl (λ an. tx_old (an == 0))
    (λ sci an. refl)

up_to_this : IsUpTo first_edition this_edition
up_to_this = record { channels = omega arith; long_keys = λ is. refl; format_two = λ is. refl }

fits_used : (edition : Edition) (sectors : ℕ) (image : Image) → IsUpTo first_edition edition
    → StandingIs edition sectors image (Ok (used_standing edition)) → Fits edition sectors image old_end
fits_used edition sectors image up_to is_found = record {
  found = used_standing edition;
  is_found = is_found;
  restart = inl (old_resumed edition up_to);
}

old_history : (disk : Disk) → IsOldDisk disk → HasHistory first_edition disk old_lives
old_history disk is =
    let past = Formatted made in
    let size = is.size in
    let large : least_sectors ≤ disk.sectors = omega (arith, size) in
    settled-disks first_edition disk old_lives (Formatted old_end) used_image is.honest is.settled
    (past, formatted_life, (Formatted old_end, (old_end, old_life disk.sectors large, tt, refl), refl))
    (fits_used first_edition disk.sectors used_image (up-to-itself first_edition)
    (large, record { content = used_content; found = used_found; stands = used_first }))

-- ---- the lives of this edition

begun_is : StandingIs this_edition example_sectors begun_image (Ok (used_standing this_edition))
begun_is = (omega arith, record { content = used_content; found = begun_found; stands = used_this })

long_is : StandingIs this_edition example_sectors long_image (Ok long_standing)
long_is = (omega arith, record { content = long_content; found = long_found; stands = long_meaning })

abbrev a0 : State
a0 = opened_state (used_standing this_edition) old_end.logs

-- frame 5
abbrev a1 : State
a1 = state_after_frame a0 (outgoing 5)

-- the peer's channel, and its association
abbrev a2 : State
a2 = state_after_command a1 add_peer (config_after used_config add_peer)

abbrev a3 : State
a3 = state_after_command a2 install_peer long_config

-- its numbers, before the frame comes, once it is held back, and once it is delivered
abbrev before_frame : Numbers
before_frame = first_numbers 1

abbrev after_hold : Numbers
after_hold = numbers_after_hold before_frame 5

abbrev after_delivery : Numbers
after_delivery = numbers_after_delivery 0 after_hold 5

abbrev a4 : State
a4 = state_after_hold a3 (arrival before_frame)

abbrev long_end : State
long_end = state_after_delivery a4 (arrival after_hold)

abbrev b0 : State
b0 = opened_state long_standing long_end.logs

abbrev spent_end : State
spent_end = state_after_frame b0 (outgoing 9)

-- the command in which the power goes is under way
abbrev filled_end : State
filled_end = state_with_under_way spent_end stay_strict

abbrev c0 : State
c0 = opened_state filled_standing spent_end.logs

abbrev last_end : State
last_end = state_after_frame c0 (outgoing 13)

long_steps : Steps a0 long_exchanges long_end
long_steps = (
  a0,
  inr (refl, (refl, refl)),
  (
    a1,
    inr (refl, (refl, (outgoing 5, refl, refl, refl, refl))),
    (
      a2,
      inr (refl, (refl, (config_after used_config add_peer, refl, refl))),
      (
        a3,
        inr (refl, (refl, (long_config, refl, refl))),
        (
          a4,
          inr (
            refl,
            inr (
              arrival before_frame,
              peer-arrives (rx_side a3) before_frame refl refl refl
                  (λ on late. omega (arith, late)),
              inl (refl, omega arith, refl, refl),
            ),
          ),
          (
            a4,
            inr (refl, (refl, refl)),
            (
              long_end,
              inr (
                refl,
                inr (
                  arrival after_hold,
                  peer-arrives (rx_side a4) after_hold refl refl refl
                      (λ on late. omega (arith, late)),
                  inr (refl, refl, refl),
                ),
              ),
              refl,
            ),
          ),
        ),
      ),
    ),
  ),
)

own_spent : apply this_edition example_identity long_config install_own_again ≡ Err (Named KeySpent)
own_spent =
    refused_by (is_spent long_config.spent_tx (tx_fingerprint own_key)) None
    (config_after long_config install_own_again)
    (long_is_config.tx_spent 0 own_sa (omega arith) refl)

peer_spent : apply this_edition example_identity long_config install_peer_again ≡ Err (Named KeySpent)
peer_spent =
    refused_by (is_spent long_config.spent_rx (rx_fingerprint peer_sci peer_key)) None
    (config_after long_config install_peer_again)
    (long_is_config.rx_spent peer_sci 0 peer_sa (omega arith) refl)

front_steps : Steps b0 front_exchanges spent_end
front_steps = (
  b0,
  inr (refl, (refl, own_spent, refl)),
  (
    b0,
    inr (refl, (refl, peer_spent, refl)),
    (
      b0,
      inr (refl, (refl, refl)),
      (
        spent_end,
        inr (refl, (refl, (outgoing 9, refl, refl, refl, refl))),
        refl,
      ),
    ),
  ),
)

spent_steps : Steps b0 spent_exchanges spent_end
spent_steps =
    steps_on b0 spent_end spent_end front_exchanges (replicate 248 (obeyed stay_strict)) front_steps
    (same_steps 248 spent_end (obeyed stay_strict)
    (inr (refl, (refl, (config_after long_config stay_strict, refl, refl)))))

again_steps : Steps c0 again_exchanges last_end
again_steps = (
  c0,
  inr (refl, (refl, refl)),
  (
    last_end,
    inr (refl, (refl, (outgoing 13, refl, refl, refl, refl))),
    refl,
  ),
)

tx_long : (own : Bool)
    → TxRises 4 (cond own (Some 6) (cond own (Some 5) None)) (cond own (Some 9) (cond own (Some 5) None))
tx_long true = (9, refl, omega arith, omega arith, omega arith)
tx_long false = refl

fits_begun : Fits this_edition example_sectors begun_image old_end
fits_begun = fits_used this_edition example_sectors begun_image up_to_this begun_is

-- during the compaction a power loss leaves the one or the other
fits_either : (image : Image) → HasEitherJournal used_content migrated_content image
    → Fits this_edition example_sectors image old_end
fits_either image (inl found) =
    fits_used this_edition example_sectors image up_to_this
    (omega arith, record { content = used_content; found = found; stands = used_this })
fits_either image (inr found) =
    fits_used this_edition example_sectors image up_to_this
    (omega arith, record { content = migrated_content; found = found; stands = migrated_meaning })

beginning_history : IsHolding beginning_disk (place_behind used_content) beginning_under_way used_content
    migrated_content
    → HasHistory this_edition beginning_disk old_lives
beginning_history beginning = record {
  honest = refl;
  past = Formatted old_end;
  history = (
    Formatted made,
    formatted_life,
    (Formatted old_end, (old_end, old_life example_sectors (omega arith), tt, refl), refl),
  );
  images = λ image left. fits_either image
      (holding-image beginning_disk (place_behind used_content) beginning_under_way used_content migrated_content
      beginning image left);
}

fits_long : Fits this_edition example_sectors long_image long_end
fits_long = record {
  found = long_standing;
  is_found = long_is;
  restart = inl (resumed long_end long_standing (up-to-itself this_edition) refl refl (λ an. tx_long (an == 0))
      (rx_all long_end.numbers b0.numbers (9, refl, omega arith, omega arith) (λ sci an apart. (
        away a4.numbers (Some after_delivery) sci an apart ∙ away a3.numbers (Some after_hold) sci an apart
            ∙ away a2.numbers (Some before_frame) sci an apart,
        ap (option_map first_numbers) (away (put_rx no_ceilings.rx peer_sci 0 (Some 1)) (Some 9) sci an apart
            ∙ away no_ceilings.rx (Some 1) sci an apart),
      ))));
}

again_is : StandingIs this_edition example_sectors again_image (Ok filled_standing)
again_is = (omega arith, record { content = again_content; found = again_found; stands = again_meaning })

-- the command under way was not followed
fits_again : Fits this_edition example_sectors again_image filled_end
fits_again = record {
  found = filled_standing;
  is_found = again_is;
  restart = inl (resumed filled_end filled_standing (up-to-itself this_edition) refl refl (λ an. tx_second (an == 0))
      (rx_all filled_end.numbers c0.numbers (9, refl, omega arith, omega arith) (λ sci an apart. (
        ap (option_map first_numbers) (away (put_rx no_ceilings.rx peer_sci 0 (Some 1)) (Some 9) sci an apart
            ∙ away no_ceilings.rx (Some 1) sci an apart),
        ap (option_map first_numbers) (away no_ceilings.rx (Some 9) sci an apart),
      ))));
}

module _ (peer : All (λ octet. octet < 2 ^ 8) (peer_frame 5)) where
  long_life : IsLifeSoFar example_sectors (Formatted old_end) this_edition begun_image long_exchanges long_end
  long_life = record {
    fits = fits_begun;
    found = used_standing this_edition;
    is_found = begun_is;
    in_range = (
      tt,
      (plain_range, (peer-range, (install_peer_range 0 (omega arith), (peer, (tt, (peer, tt)))))),
    );
    steps = long_steps;
  }

  spent_life : IsLifeSoFar example_sectors (Formatted long_end) this_edition long_image spent_exchanges spent_end
  spent_life = record {
    fits = fits_long;
    found = long_standing;
    is_found = long_is;
    in_range = range_on front_exchanges (replicate 248 (obeyed stay_strict))
        (install_own_range 1 (omega arith), (install_peer_range 1 (omega arith), (tt, (plain_range, tt))))
        (each-same (λ (e : Exchange). IsInRange e.call) 248 (obeyed stay_strict) tt);
    steps = spent_steps;
  }

  last_life : IsLifeSoFar example_sectors (Formatted filled_end) this_edition again_image again_exchanges last_end
  last_life = record {
    fits = fits_again;
    found = filled_standing;
    is_found = again_is;
    in_range = (tt, (plain_range, tt));
    steps = again_steps;
  }

  whole_history : IsHistory example_sectors (old_lives ++ later_lives) (Formatted last_end)
  whole_history = (
    Formatted made,
    formatted_life,
    (
      Formatted old_end,
      (old_end, old_life example_sectors (omega arith), tt, refl),
      (
        Formatted long_end,
        (long_end, long_life, tt, refl),
        (
          Formatted filled_end,
          (spent_end, spent_life, tt, refl),
          (
            Formatted last_end,
            (last_end, last_life, tt, refl),
            refl,
          ),
        ),
      ),
    ),
  )

  pub is-worked-migration : IsHolding beginning_disk (place_behind used_content) beginning_under_way used_content
      migrated_content → IsWorkedMigration
  is-worked-migration beginning = record {
    as_old = λ disk honest size settled. record { honest = honest; size = size; settled = settled };
    formatted = old_history;
    ours = λ disk is. older first_edition this_edition up_to_this disk old_lives (old_history disk is);
    old = used_is;
    beginning = beginning;
    cut_short = beginning_history beginning;
    left_begun = left_begun;
    begun = begun_found;
    migrated = subst (λ (records : List Record). HasJournal migrated_image (compacted used_content records))
        (sym snapshot_is) migrated_found;
    moved = (refl, refl, migrated_found);
    alike = used_alike;
    stood = long_is;
    full = refl;
    again = (refl, refl, refl, again_found);
    last = last_end;
    history = whole_history;
    used = refl;
    given = refl;
  }
