-- What the images of the example stand for.
use Rattle.std.proofs.Common.{◌≡◌, ◌≤◌, ◌+◌, ◌==◌, ℕ, Bool, true, false, cond, List, [], ◌∷◌, ◌++◌, length, take, min}
use Rattle.std.proofs.Common.{replicate, bytes_eq, Option, Some, None, is_some, Ok, Err, refl, sym, ◌∙◌, ap, subst}
use Rattle.std.proofs.Common.{arith, length-take}
use Rattle.std.specs.List.{AllByRecursion}
use Rattle.std.proofs.Math.Path.{fun_ext}
use Rattle.std.proofs.lemmas.List.{length-replicate}
use Rattle.macs_config.specs.Apply.{apply, config_after}
use Rattle.macs_config.specs.Config.{Config, Edition, IsConfig, IsUpTo, are_distinct, default, max_spent, spent_of}
use Rattle.macs_config.specs.Config.{this_edition}
use Rattle.macs_config.specs.Tables.{put, put_at}
use Rattle.macs_config.specs.declared.command.Command.{Command}
use Rattle.macs_config.specs.declared.command.Role.{Role}
use Rattle.macs_config.specs.declared.command.Role.TheVariants.{Receive, Transmit}
use Rattle.macs_config.proofs.Kept.{apply-keeps}
use Rattle.macs_config.proofs.Tables.{put-same, put_at-same, put_at-twice}
use Rattle.macs_disk.proofs.Images.{put-other}
use Rattle.macs_disk.specs.States.{Image, zero_sector}
use Rattle.macs_record.specs.Gates.{open_gate}
use Rattle.macs_record.specs.Heads.{IsHead}
use Rattle.macs_record.specs.Layout.{IsRecord, sector_of}
use Rattle.macs_record.specs.Settings.{default_settings}
use Rattle.macs_record.specs.declared.record.Record.{Record}
use Rattle.macs_record.specs.declared.record.Record.TheVariants as kept
use Rattle.macs_journal.specs.Appending.{free_body, free_gate}
use Rattle.macs_journal.specs.Areas.{gate, slots}
use Rattle.macs_journal.specs.Compacting.{next_head}
use Rattle.macs_journal.specs.Formatting.{first_head}
use Rattle.macs_journal.specs.Found.{HasJournal, IsGateOpen}
use Rattle.macs_journal.specs.declared.fault.JournalFault.TheVariants.{NotFormatted}
use Rattle.macs_store.specs.Found.{StandingIs, StandsFor}
use Rattle.macs_store.specs.Replay.{meaning_of, snapshot_of}
use Rattle.macs_store.specs.Snapshot.{snapshot}
use Rattle.macs_store.specs.Standing.{IsStanding, Standing, ceilings_with_rx, ceilings_with_tx, new_standing}
use Rattle.macs_store.specs.Standing.{no_ceilings}
use Rattle.macs_store.proofs.Snapshots.{snapshot-stands}
use Rattle.macs_headline.specs.Example.{add_peer, example_identity, example_sectors, install_own, install_peer}
use Rattle.macs_headline.specs.Example.{later_edition, narrow, own_sa, peer_sa, peer_sci, remove_peer, use_own, widen}
use Rattle.macs_headline.specs.Example.{checked_standing, full_standing, last_standing, served_config}
use Rattle.macs_headline.specs.ExampleDisk.{compacted_content, later_image, checked, cut_image, ended_content}
use Rattle.macs_headline.specs.ExampleDisk.{ended_image}
use Rattle.macs_headline.specs.ExampleDisk.{narrow_content, narrow_image, first_records, full_content, full_image}
use Rattle.macs_headline.specs.ExampleDisk.{full_snapshot, last_content, last_image, new_content, new_image}
use Rattle.macs_headline.specs.ExampleDisk.{second_records, served_content, served_image, third_records, widened}
use Rattle.macs_headline.specs.Images.{blank_image, image_while_formatted, image_with_next_body}
use Rattle.macs_headline.proofs.Built.{area-other, closed-gate, opened-found, opened-other, record-found, records-found}
use Rattle.macs_headline.proofs.Built.{records-other}
use Rattle.macs_headline.proofs.Later.{later-found, meaning-later, meaning-more, same-again, written-found}
use Rattle.macs_headline.proofs.ExampleRecords.{first-ranges, example-head, head-range, second-ranges, snapshot-is}
use Rattle.macs_headline.proofs.ExampleRecords.{snapshot-ranges}
use Rattle.macs_headline.proofs.ExampleRecords.{third-ranges, widened-range}
use Rattle.macs_headline.proofs.Places.{put-that, put_rx, put_rx-that}

-- ---- formatted

far_new : (i : ℕ) → 514 ≤ i → new_image i ≡ zero_sector
far_new i far = opened-other blank_image 0 (first_head example_identity) (default_settings ∷ []) i (omega (arith, far))
    (omega (arith, far)) (λ j lt. omega (arith, far, lt))

pub unfinished-is : StandingIs this_edition example_sectors (image_while_formatted example_identity) (Err NotFormatted)
unfinished-is =
    let written = area-other blank_image 0 (first_head example_identity) (default_settings ∷ []) in (
      omega arith,
      (
        closed-gate (image_while_formatted example_identity) 0 0
            (written (gate 0 0) (omega arith) (λ j lt. omega arith)),
        closed-gate (image_while_formatted example_identity) 1 0
            (written (gate 1 0) (omega arith) (λ j lt. omega (arith, lt))),
      ),
    )

new_found : HasJournal new_image new_content
new_found =
    opened-found blank_image 0 (first_head example_identity) (default_settings ∷ []) (omega arith) head-range refl
    (omega arith) ((omega arith, tt), tt)
    (λ j lt. closed-gate blank_image 0 (j + 1) refl)
    (λ opens. absurd (closed-gate new_image 1 0 (far_new (gate 1 0) (omega arith)) opens))

pub new-is : StandingIs this_edition example_sectors new_image (Ok (new_standing this_edition example_identity))
new-is = (omega arith, record { content = new_content; found = new_found; stands = refl })

-- ---- after the first life

pub narrow-found : HasJournal narrow_image narrow_content
narrow-found = records-found first_records new_image new_content (omega arith) first-ranges new_found

served_found : HasJournal served_image served_content
served_found = record-found narrow_image narrow_content widened (omega arith) widened-range narrow-found

-- as the records leave it, ceiling after ceiling
abbrev pub served_standing : Standing
served_standing = record {
  edition = this_edition;
  identity = example_identity;
  config = served_config;
  ceilings = ceilings_with_rx (ceilings_with_rx (ceilings_with_tx (ceilings_with_tx no_ceilings 0 (Some 5)) 0 (Some 9))
      peer_sci 0 (Some 1)) peer_sci 0 (Some 9);
}

served_meaning : meaning_of this_edition served_content ≡ Some served_standing
served_meaning = refl

pub served-is : StandingIs this_edition example_sectors served_image (Ok served_standing)
served-is = (omega arith, record { content = served_content; found = served_found; stands = served_meaning })

-- ---- with a full area

repeated : length (replicate 244 (kept.SetValidate served_config.validate)) ≡ 244
repeated = length-replicate 244 (kept.SetValidate served_config.validate)

pub full-found : HasJournal full_image full_content
full-found =
    records-found second_records served_image served_content (omega (arith, repeated)) second-ranges served_found

pub full-slots : length full_content.records ≡ slots
full-slots = refl

pub far-full : (i : ℕ) → 514 ≤ i → full_image i ≡ zero_sector
far-full i far =
    records-other second_records served_image served_content i (omega (arith, repeated)) far
    ∙ put-other (image_with_next_body narrow_image narrow_content widened) (free_gate narrow_content) i open_gate
    (omega (arith, far))
    ∙ put-other narrow_image (free_body narrow_content) i (sector_of widened) (omega (arith, far))
    ∙ records-other first_records new_image new_content i (omega arith) far ∙ far_new i far

-- one ceiling in the place of two
once : {X : Type 0} (b : Bool) (x y z : X) → cond b x (cond b y z) ≡ cond b x z
once true x y z = refl
once false x y z = refl

pub put_twice : {X : Type 0} (f : ℕ → X) (at : ℕ) (x y : X) → put (put f at x) at y ≡ put f at y
put_twice f at x y = fun_ext (λ i. once (i == at) y x (f i))

pub served_tx : served_standing.ceilings.tx ≡ put no_ceilings.tx 0 (Some 9)
served_tx = put_twice no_ceilings.tx 0 (Some 5) (Some 9)

pub served_rx : served_standing.ceilings.rx ≡ put_rx no_ceilings.rx peer_sci 0 (Some 9)
served_rx =
    put_at-twice no_ceilings.rx peer_sci (put (no_ceilings.rx peer_sci) 0 (Some 1))
    (put (put (no_ceilings.rx peer_sci) 0 (Some 1)) 0 (Some 9))
    ∙ ap (λ (f : ℕ → Option ℕ). put_at no_ceilings.rx peer_sci f)
    (put_twice (no_ceilings.rx peer_sci) 0 (Some 1) (Some 9))

-- what the first record of the second life leaves
abbrev raised_standing : Standing
raised_standing = record served_standing { ceilings = ceilings_with_tx served_standing.ceilings 0 (Some 13) }

raised_is : raised_standing ≡ full_standing
raised_is = λ i. record {
  edition = this_edition;
  identity = example_identity;
  config = served_config;
  ceilings = record {
    tx = (ap (λ (f : ℕ → Option ℕ). put f 0 (Some 13)) served_tx
        ∙ put_twice no_ceilings.tx 0 (Some 9) (Some 13)) i;
    rx = served_rx i;
  };
}

full_meaning : meaning_of this_edition full_content ≡ Some full_standing
full_meaning =
    meaning-more this_edition second_records served_content served_standing full_standing (omega arith) refl
    served_meaning
    (same-again 244 (kept.SetValidate served_config.validate) raised_standing refl ∙ ap Some raised_is)

-- ---- during the compaction

pub snapshot-size : length full_snapshot ≡ 6
snapshot-size = ap length snapshot-is

cut_found : (count : ℕ) → HasJournal (cut_image count) full_content
cut_found count =
    let size : length (take count full_snapshot) ≡ min count (length full_snapshot) = length-take count full_snapshot in
    written-found full_image full_content full-found 1 refl (next_head full_content.head (length full_snapshot))
    (take count full_snapshot)
    (omega (arith, size, snapshot-size)) (closed-gate full_image 1 0 (far-full (gate 1 0) (omega arith)))

pub cut-stands : (count : ℕ) → StandsFor this_edition (cut_image count) full_standing
cut-stands count = record { content = full_content; found = cut_found count; stands = full_meaning }

pub cut-is : StandingIs this_edition example_sectors (cut_image 2) (Ok full_standing)
cut-is = (omega arith, cut-stands 2)

cut_gates : (k : ℕ) → k ≤ slots → ¬ IsGateOpen (cut_image 2) 1 k
cut_gates k le =
    closed-gate (cut_image 2) 1 k
    (area-other full_image 1 (next_head full_content.head (length full_snapshot)) (take 2 full_snapshot) (gate 1 k)
    (omega arith) (λ j lt. omega arith)
    ∙ far-full (gate 1 k) (omega arith))

pub later-head : IsHead (next_head full_content.head (length full_snapshot))
later-head =
    example-head (next_head full_content.head (length full_snapshot)) refl (omega arith) (omega arith)
    (omega (arith, snapshot-size)) (omega (arith, snapshot-size))

pub new-generation : HasJournal later_image compacted_content
new-generation =
    later-found (cut_image 2) full_content (cut_found 2) 1 refl full_snapshot later-head (omega (arith, snapshot-size))
    (subst (AllByRecursion IsRecord) (sym snapshot-is) snapshot-ranges) cut_gates

-- ---- what the snapshot stands for

default_once : (role : Role) → are_distinct (spent_of role default) ≡ true
default_once Transmit = refl
default_once Receive = refl

default_fit : (role : Role) → length (spent_of role default) ≤ max_spent
default_fit Transmit = omega arith
default_fit Receive = omega arith

pub default_config : IsConfig this_edition example_identity default
default_config = record {
  encoding_stands = tt;
  end_station = λ is. absurd (cc);
  channels_ascend = refl;
  channels_fit = omega arith;
  own_sci_free = refl;
  rx_channels = λ sci an sa is. absurd (cc);
  tx_taken = λ an sa is. absurd (cc);
  rx_taken = λ sci an sa is. absurd (cc);
  tx_spent = λ an sa lt is. absurd (cc);
  rx_spent = λ sci an sa lt is. absurd (cc);
  spent_once = default_once;
  spent_fit = default_fit;
}

-- a command of the first life, which is accepted
pub next_config : (old new : Config) (command : Command) → apply this_edition example_identity old command ≡ Ok new
    → IsConfig this_edition example_identity old
    → IsConfig this_edition example_identity new
next_config old new command done is = apply-keeps this_edition example_identity old new command is done

pub served-is-config : IsConfig this_edition example_identity served_config
served-is-config =
    let c1 = config_after default install_own in
    let c2 = config_after c1 use_own in
    let c3 = config_after c2 add_peer in
    let c4 = config_after c3 install_peer in
    let c5 = config_after c4 narrow in
    next_config c5 served_config widen refl
    (next_config c4 c5 narrow refl
    (next_config c3 c4 install_peer refl (next_config c2 c3 add_peer refl
    (next_config c1 c2 use_own refl (next_config default c1 install_own refl default_config)))))

-- the standing when the area was full, to an edition
abbrev pub full_to : Edition → Standing
full_to edition = record full_standing { edition = edition }

pub both_some : {A B : Type 0} (b : Bool) (x : A) (y : B)
    → is_some (cond b (Some x) None) ≡ is_some (cond b (Some y) None)
both_some true x y = refl
both_some false x y = refl

pub both_at : {A B : Type 0} (b : Bool) (f g : ℕ → Option A) (h k : ℕ → Option B)
    → ((i : ℕ) → is_some (f i) ≡ is_some (h i)) → ((i : ℕ) → is_some (g i) ≡ is_some (k i))
    → (i : ℕ) → is_some (cond b f g i) ≡ is_some (cond b h k i)
both_at true f g h k here there = here
both_at false f g h k here there = there

full_stands : (edition : Edition) → IsStanding (full_to edition)
full_stands edition = record {
  tx = λ an. both_some (an == 0) 13 own_sa;
  rx = λ sci. both_at (bytes_eq sci peer_sci) (put (λ an. None) 0 (Some 9)) (λ an. None)
      (put (λ an. None) 0 (Some peer_sa)) (λ an. None)
      (λ an. both_some (an == 0) 9 peer_sa) (λ an. refl);
}

same_snapshot : (edition : Edition) → snapshot (full_to edition) ≡ full_snapshot
unfolding snapshot
same_snapshot edition = refl

snapshot_meaning : (edition : Edition) → IsConfig edition example_identity served_config
    → snapshot_of edition example_identity full_snapshot ≡ Some (full_to edition)
snapshot_meaning edition is =
    subst (λ (rs : List Record). snapshot_of edition example_identity rs ≡ Some (full_to edition))
    (same_snapshot edition)
    (snapshot-stands (full_to edition) is (full_stands edition)
    (λ an above. put-that (λ an. None) 0 an (Some own_sa) (omega (arith, above)))
    (λ sci an above.
    put_rx-that (λ sci an. None) peer_sci 0 sci an (Some peer_sa) (λ same here. omega (arith, above, here))))

-- ---- at last

pub last-found : HasJournal last_image last_content
last-found =
    records-found third_records later_image compacted_content (omega (arith, snapshot-size)) third-ranges new-generation

pub last-size : length last_content.records ≡ 8
last-size = ap (λ (rs : List Record). length (rs ++ third_records)) snapshot-is

pub ended-found : HasJournal ended_image ended_content
ended-found = record-found last_image last_content checked (omega (arith, last-size)) tt last-found

-- the ceilings as the records leave them
abbrev ended_standing : Edition → Standing
ended_standing edition = record {
  edition = edition;
  identity = example_identity;
  config = config_after served_config remove_peer;
  ceilings = ceilings_with_tx (ceilings_with_rx full_standing.ceilings peer_sci 0 None) 0 (Some 17);
}

ended_is : (edition : Edition) → ended_standing edition ≡ last_standing edition
ended_is edition =
    let none : ℕ → Option ℕ = λ an. None in
    let no_rx : put_rx (put_rx no_ceilings.rx peer_sci 0 (Some 9)) peer_sci 0 None ≡ no_ceilings.rx =
    put_at-twice no_ceilings.rx peer_sci (put none 0 (Some 9)) (put (put none 0 (Some 9)) 0 None)
    ∙ put_at-same no_ceilings.rx peer_sci (put (put none 0 (Some 9)) 0 None)
    (sym (put_twice none 0 (Some 9) None ∙ put-same none 0 None refl)) in
    λ i. record {
      edition = edition;
      identity = example_identity;
      config = config_after served_config remove_peer;
      ceilings = record { tx = put_twice no_ceilings.tx 0 (Some 13) (Some 17) i; rx = no_rx i };
    }

last_meaning : (edition : Edition) → edition.format_two ≡ true → IsConfig edition example_identity served_config
    → meaning_of edition last_content ≡ Some (last_standing edition)
last_meaning edition takes_two is =
    meaning-more edition third_records compacted_content (full_to edition) (last_standing edition) (omega arith) refl
    (meaning-later edition full_content full_snapshot (full_to edition) takes_two (snapshot_meaning edition is))
    (ap Some (ended_is edition))

pub larger : IsUpTo this_edition later_edition
larger = record { channels = omega arith; long_keys = λ is. refl; format_two = λ is. refl }

-- what images stand for that hold that journal, or the one with a record more
pub last-is : (image : Image) → HasJournal image last_content
    → StandingIs this_edition example_sectors image (Ok (last_standing this_edition))
last-is image found = (
  omega arith,
  record { content = last_content; found = found; stands = last_meaning this_edition refl served-is-config },
)

pub checked-is : (image : Image) → HasJournal image ended_content
    → StandingIs this_edition example_sectors image (Ok (checked_standing this_edition))
checked-is image found = (
  omega arith,
  record {
    content = ended_content;
    found = found;
    stands = meaning-more this_edition (checked ∷ []) last_content (last_standing this_edition)
        (checked_standing this_edition)
        (let count : last_content.head.count ≡ 6 = snapshot-size in omega (arith, count, last-size)) refl
        (last_meaning this_edition refl served-is-config) refl;
  },
)
