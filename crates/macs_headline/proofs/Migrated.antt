-- What an opening makes of a journal: one of format two stays as it is, and one of format one is rewritten.
use Rattle.std.proofs.Common.{◌≡◌, ◌≢◌, ◌⊎◌, inl, inr, false, Some, Result, Ok, Err, refl, sym, ◌∙◌, ap, subst, arith}
use Rattle.std.proofs.lemmas.Bool.{cases_lt}
use Rattle.macs_config.specs.Config.{this_edition}
use Rattle.macs_disk.specs.Disk.{Disk, IsHonest, LeftSince, MayLeave, Works, now}
use Rattle.macs_disk.specs.States.{DiskState, Image, IsSound, state_after_sync}
use Rattle.macs_record.specs.declared.format.Format.{Format}
use Rattle.macs_record.specs.declared.format.Format.TheVariants.{One, Two}
use Rattle.macs_journal.specs.Compacting.{compacted, last_generation}
use Rattle.macs_journal.specs.Found.{Content, HasFormat, HasJournal}
use Rattle.macs_journal.specs.Opening.{StandsFromFirst}
use Rattle.macs_journal.specs.Recovery.{IsLeftBy}
use Rattle.macs_journal.specs.declared.fault.JournalFault.{JournalFault}
use Rattle.macs_journal.specs.declared.fault.JournalFault.TheVariants.{Disk as Failed, TooSmall}
use Rattle.macs_journal.specs.declared.recovery.RecoverRefused.{RecoverRefused}
use Rattle.macs_journal.proofs.Current.{one_content}
use Rattle.macs_journal.proofs.Ready.{ready-image}
use Rattle.macs_store.specs.Found.{IsOld, IsToMigrate, StandsFor}
use Rattle.macs_store.specs.Opening.{HasNoneToMigrate, IsMigration, OpeningLeaves, RefusesDisk}
use Rattle.macs_store.specs.Replay.{meaning_of, migrates}
use Rattle.macs_store.specs.Snapshot.{snapshot}
use Rattle.macs_store.specs.Standing.{Standing}
use Rattle.macs_store.specs.Value.{standing_in}
use Rattle.macs_store.proofs.Keeping.{stored-image}
use Rattle.macs_store.proofs.Migrating.{not-old}
use Rattle.macs_endpoint.specs.Opening.{IsOpening, Opens}
use Rattle.macs_endpoint.specs.State.{State, no_logs}
use Rattle.macs_endpoint.specs.Value.{EndpointValue, device_in, disk_in, is_stopped}
use Rattle.macs_headline.specs.Binding.{IsMigrated, IsUnwritten, OpeningsMigrate, StandsAsRead}
use Rattle.macs_headline.specs.Deeds.{disk_after_opening}
use Rattle.macs_headline.proofs.Chains.{history-covers}
use Rattle.macs_headline.proofs.Ledger.{some_one}
use Rattle.macs_headline.proofs.Living.{alive}
use Rattle.macs_headline.proofs.Openings.{old-format}

-- ---- nothing is written

unwritten : (old new : Disk) → Works old new → StandsFromFirst old new
    → (now new ≡ now old) ⊎ (now new ≡ state_after_sync (now old)) → IsUnwritten old new
unwritten old new works stands left k from to = elim (cases_lt old.clock k) [
  | inr early ↦ let here : k ≡ old.clock = omega (arith, from, early) in inl (works.past k early ∙ ap old.past here)
  | inl late ↦ elim left [
    | inl same ↦ inl (stands k late to ∙ same)
    | inr synced ↦ inr (stands k late to ∙ synced)
  ]
]

left_by : (fault : JournalFault) (old new : DiskState) → IsLeftBy fault old new
    → (new ≡ old) ⊎ (new ≡ state_after_sync old)
left_by TooSmall old new is = inl is
left_by Failed old new is = is
left_by fault old new is = inr is

left_synced : (fault : JournalFault) (old new : DiskState) → fault ≢ TooSmall → fault ≢ Failed → IsLeftBy fault old new
    → new ≡ state_after_sync old
left_synced TooSmall old new large worked is = absurd (large refl)
left_synced Failed old new large worked is = absurd (worked refl)
left_synced fault old new large worked is = is

-- a journal of format two is not compacted by an opening
none_of_two : (old : Disk) → HasFormat (now old).seen Two → HasNoneToMigrate old
none_of_two old two c s to = not-old (now old).seen c s two to.is

-- nor is one in the last generation
none_at_last : (old : Disk) (c : Content) → HasJournal (now old).seen c → c.head.generation ≡ last_generation
    → HasNoneToMigrate old
none_at_last old c found last other s to =
    to.next (ap (λ (c : Content). c.head.generation) (one_content (now old).seen other c to.is.found found) ∙ last)

-- nor is there one where all that stand for something and are of format one are in the last generation
none_given : (old : Disk)
    → ((c : Content) (s : Standing) → HasJournal (now old).seen c → meaning_of this_edition c ≡ Some s
    → c.head.format ≡ One → c.head.generation ≡ last_generation)
    → HasNoneToMigrate old
none_given old given c s to =
    to.next (given c s to.is.found to.is.stands (old-format this_edition c.head.format to.is.old).0)

-- ---- the journal that is rewritten

-- whatever an image stands for, a journal that is found in it stands for that
its_meaning : (image : Image) (c : Content) (s : Standing) → HasJournal image c → StandsFor this_edition image s
    → meaning_of this_edition c ≡ Some s
its_meaning image c s found stands =
    ap (λ (c : Content). meaning_of this_edition c) (one_content image c stands.content found stands.found)
    ∙ stands.stands

its_standing : (image : Image) (c : Content) (s t : Standing) → IsToMigrate this_edition image c s
    → StandsFor this_edition image t → s ≡ t
its_standing image c s t to stands =
    some_one (meaning_of this_edition c) s t to.is.stands (its_meaning image c t to.is.found stands)

old_journal : (image : Image) (c : Content) (s : Standing) → HasJournal image c → StandsFor this_edition image s
    → c.head.format ≡ One
    → IsOld this_edition image c s
old_journal image c s found stands one = record {
  found = found;
  stands = its_meaning image c s found stands;
  old = ap (λ (f : Format). migrates this_edition f) one;
}

is_migration : (c : Content) (s : Standing) → IsMigrated c (compacted c (snapshot s)) s
is_migration c s =
    record { area = refl; generation = refl; format = refl; identity = refl; count = refl; records = refl }

by_migration : (old new : Disk) (c : Content) (s : Standing) → IsMigration old new c s → (image : Image)
    → LeftSince new old.clock image
    → MayLeave old image ⊎ (HasJournal image c ⊎ ((after : Content) × IsMigrated c after s × HasJournal image after))
by_migration old new c s is image left = elim (is.any_moment.each image left) [
  | inl before ↦ inl before
  | inr journal ↦ elim journal [
    | inl same ↦ inr (inl same)
    | inr migrated ↦ inr (inr (compacted c (snapshot s), is_migration c s, migrated))
  ]
]

as_read : (old : Disk) (image : Image) → OpeningLeaves old image → MayLeave old image ⊎ StandsAsRead old image
as_read old image (inl before) = inl before
as_read old image (inr alike) = inr (alike.standing, alike.first, alike.second)

module _ {D : Type 0} (disk_of : D → Disk) (sound : (it : D) → IsHonest (disk_of it) → IsSound (now (disk_of it))) where
  -- ---- an opening that succeeds

  module _ (disk : D) (e : EndpointValue D) (was : IsHonest (disk_of disk)) (opening : Opens disk_of disk e) where
    abbrev old : Disk
    old = disk_of disk

    abbrev new : Disk
    new = disk_in disk_of e

    abbrev standing : Standing
    standing = standing_in e.store

    honest : IsHonest new
    honest = opening.device.works.honest ∙ was

    read_stands : StandsFor this_edition (now old).seen standing
    read_stands = (opening.found honest).1

    opened_unwritten : HasNoneToMigrate old → IsUnwritten old new
    opened_unwritten none =
        let quiet = opening.device.unwritten honest none in
        unwritten old new opening.device.works quiet.0.from_first (inr quiet.1)

    opened_either : (c : Content) (s : Standing) → IsToMigrate this_edition (now old).seen c s → IsMigration old new c s
    opened_either c s to =
        let same : s ≡ standing = its_standing (now old).seen c s standing to read_stands in
        let made = opening.device.migrated honest c
        (subst (λ (t : Standing). IsToMigrate this_edition (now old).seen c t) same to) in
        subst (λ (t : Standing). IsMigration old new c t) (sym same) made.0

    -- a journal of format one
    module _ (c : Content) (found : HasJournal (now old).seen c) (one : c.head.format ≡ One) where
      is_old : IsOld this_edition (now old).seen c standing
      is_old = old_journal (now old).seen c standing found read_stands one

      -- where nothing is written the format stays, and it is the second
      pub never_last : c.head.generation ≢ last_generation
      never_last last =
          let quiet = opening.device.unwritten honest (none_at_last old c found last) in
          let same : (now new).seen ≡ (now old).seen = ap (λ (s : DiskState). s.seen) quiet.1 in
          let two : HasFormat (now new).seen Two =
          opening.device.format honest (now new).seen (sound (device_in e) honest).fit in
          not-old (now old).seen c standing (subst (λ (image : Image). HasFormat image Two) same two) is_old

      to_migrate : IsToMigrate this_edition (now old).seen c standing
      to_migrate = record { is = is_old; next = never_last }

      running : is_stopped e ≡ false
      running = ap (λ (s : State). s.stopped) (opening.state no_logs)

      left_migrated : (image : Image) → MayLeave new image
          → HasJournal image (compacted c (snapshot standing)) × StandsFor this_edition image standing
      left_migrated image left = (
        ready-image (now new) (compacted c (snapshot standing))
            (opening.device.migrated honest c to_migrate).1 image left,
        stored-image disk_of e.store opening.idle.store ((opening.backed honest).stored running) image left,
      )

  -- ---- whatever is answered

  refused_unwritten : (disk left : D) (fault : JournalFault) → IsHonest (disk_of disk)
      → RefusesDisk disk_of disk left fault
      → (fault ≡ Failed → HasNoneToMigrate (disk_of disk)) → IsUnwritten (disk_of disk) (disk_of left)
  refused_unwritten disk left fault was refused none =
      let quiet = refused.unwritten (refused.works.honest ∙ was) none in
      unwritten (disk_of disk) (disk_of left) refused.works quiet.0.from_first
      (left_by fault (now (disk_of disk)) (now (disk_of left)) quiet.1)

  synced : (disk left : D) (fault : JournalFault) → IsHonest (disk_of disk) → RefusesDisk disk_of disk left fault
      → fault ≢ Failed → fault ≢ TooSmall → now (disk_of left) ≡ state_after_sync (now (disk_of disk))
  synced disk left fault was refused worked large =
      let quiet = refused.unwritten (refused.works.honest ∙ was) (λ failed. absurd (worked failed)) in
      left_synced fault (now (disk_of disk)) (now (disk_of left)) large worked quiet.1

  alike : (disk : D) (result : Result (EndpointValue D) (RecoverRefused D)) → IsHonest (disk_of disk)
      → IsOpening disk_of disk result
      → (image : Image) → LeftSince (disk_after_opening disk_of result) (disk_of disk).clock image
      → MayLeave (disk_of disk) image ⊎ StandsAsRead (disk_of disk) image
  alike disk (Ok e) was opening image left =
      as_read (disk_of disk) image ((opening.device.any_moment (opening.device.works.honest ∙ was)).each image left)
  alike disk (Err refused) was opening image left =
      as_read (disk_of disk) image ((opening.refused.any_moment (opening.refused.works.honest ∙ was)).each image left)

  either : (disk : D) (result : Result (EndpointValue D) (RecoverRefused D)) → IsHonest (disk_of disk)
      → IsOpening disk_of disk result
      → (c : Content) (s : Standing) → HasJournal (now (disk_of disk)).seen c
      → StandsFor this_edition (now (disk_of disk)).seen s → c.head.format ≡ One
      → c.head.generation ≢ last_generation → (image : Image)
      → LeftSince (disk_after_opening disk_of result) (disk_of disk).clock image
      → MayLeave (disk_of disk) image
      ⊎ (HasJournal image c ⊎ ((after : Content) × IsMigrated c after s × HasJournal image after))
  either disk (Ok e) was opening c s found stands one next image left =
      let to : IsToMigrate this_edition (now (disk_of disk)).seen c s =
      record { is = old_journal (now (disk_of disk)).seen c s found stands one; next = next } in
      by_migration (disk_of disk) (disk_in disk_of e) c s (opened_either disk e was opening c s to) image left
  either disk (Err refused) was opening c s found stands one next image left =
      let to : IsToMigrate this_edition (now (disk_of disk)).seen c s =
      record { is = old_journal (now (disk_of disk)).seen c s found stands one; next = next } in
      by_migration (disk_of disk) (disk_of refused.disk) c s
      (opening.refused.migrated (opening.refused.works.honest ∙ was) c s to) image left

  two_unwritten : (disk : D) (result : Result (EndpointValue D) (RecoverRefused D)) → IsHonest (disk_of disk)
      → IsOpening disk_of disk result
      → HasFormat (now (disk_of disk)).seen Two → IsUnwritten (disk_of disk) (disk_after_opening disk_of result)
  two_unwritten disk (Ok e) was opening two = opened_unwritten disk e was opening (none_of_two (disk_of disk) two)
  two_unwritten disk (Err refused) was opening two =
      refused_unwritten disk refused.disk refused.fault was opening.refused (λ failed. none_of_two (disk_of disk) two)

  unmoved : (disk : D) (result : Result (EndpointValue D) (RecoverRefused D)) → IsHonest (disk_of disk)
      → IsOpening disk_of disk result
      → ((c : Content) (s : Standing) → HasJournal (now (disk_of disk)).seen c → meaning_of this_edition c ≡ Some s
      → c.head.format ≡ One → c.head.generation ≡ last_generation)
      → IsUnwritten (disk_of disk) (disk_after_opening disk_of result)
  unmoved disk (Ok e) was opening given = opened_unwritten disk e was opening (none_given (disk_of disk) given)
  unmoved disk (Err refused) was opening given =
      refused_unwritten disk refused.disk refused.fault was opening.refused (λ failed. none_given (disk_of disk) given)

  pub openings-migrate : OpeningsMigrate disk_of
  openings-migrate = record {
    alike = alike;
    either = either;
    unwritten = two_unwritten;
    unmoved = unmoved;
    refused = λ disk refused was opening other.
        refused_unwritten disk refused.disk refused.fault was opening.refused (λ failed. absurd (other failed));
    refused_synced = λ disk refused was opening worked large.
        synced disk refused.disk refused.fault was opening.refused worked large;
    settled = λ disk first was opening. opening.device.settled (opening.device.works.honest ∙ was);
    format = λ disk first was opening. opening.device.format (opening.device.works.honest ∙ was);
    migrated = λ disk first c was opening found one. (
      compacted c (snapshot (standing_in first.store)),
      is_migration c (standing_in first.store),
      read_stands disk first was opening,
      left_migrated disk first was opening c found one,
    );
    last = λ disk first c was opening found one. never_last disk first was opening c found one;
    formatted = λ old new identity honest is image may. (is.kept honest image may).format;
    stays = λ disk before first last turns history lived.
        (alive disk_of sound (disk_of disk).sectors history.past disk first turns last
        (history-covers (disk_of disk) before history) lived).backed.form;
  }
