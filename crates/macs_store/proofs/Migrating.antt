-- A disk whose journal was recovered: opened as it is, migrated, or refused.
use Rattle.std.proofs.Common.{◌≡◌, ◌⊎◌, ◌∙◌, inl, inr, ℕ, Bool, true, false, if◌then◌else◌, List, length, Some, None}
use Rattle.std.proofs.Common.{Result, Ok, Err, IsErrOf, refl, sym, ap, subst, arith}
use Rattle.macs_config.specs.Config.{Edition, this_edition}
use Rattle.macs_config.specs.Identity.{Identity}
use Rattle.macs_disk.specs.Disk.{Disk, IsHonest, Works, now}
use Rattle.macs_disk.specs.Runs.{Leaves, LeavesNothingNew}
use Rattle.macs_disk.specs.States.{DiskState, Image, IsImage, IsSound, state_after_sync}
use Rattle.macs_disk.proofs.Moments.{FailsOnce-before, Leaves-join, Leaves-weaker, Works-on}
use Rattle.macs_record.specs.declared.format.Format.{Format}
use Rattle.macs_record.specs.declared.format.Format.TheVariants.{One, Two}
use Rattle.macs_record.specs.declared.record.Record.{Record}
use Rattle.macs_journal.specs.Appending.{HasEitherJournal, IsReady}
use Rattle.macs_journal.specs.Areas.{other_area}
use Rattle.macs_journal.specs.Compacting.{CompactWrites, Compacts, compacted}
use Rattle.macs_journal.specs.Found.{Content, HasFormat, HasJournal, JournalIs}
use Rattle.macs_journal.specs.Opening.{IsNoJournal, IsRefused, Recovers, StandsFromFirst}
use Rattle.macs_journal.specs.Recovery.{IsLeftBy}
use Rattle.macs_journal.specs.NewArea.{IsSettled}
use Rattle.macs_journal.specs.Value as journal
use Rattle.macs_journal.specs.Value.{HoldsContent, IsMadeOf, JournalValue, content_of}
use Rattle.macs_journal.specs.declared.fault.JournalFault.{JournalFault}
use Rattle.macs_journal.specs.declared.fault.JournalFault.TheVariants.{BadJournal, Disk as Failed, GenerationsSpent}
use Rattle.macs_journal.specs.declared.fault.JournalFault.TheVariants.{Stopped, TooSmall}
use Rattle.macs_journal.specs.declared.under_way.UnderWay as journal_under_way
use Rattle.macs_journal.proofs.Current.{one_content}
use Rattle.macs_journal.proofs.Holding.{held-image, held-ready}
use Rattle.macs_journal.proofs.Spared.{Spared-on}
use Rattle.macs_journal.proofs.Untouched.{spared-from-first}
use Rattle.macs_store.specs.Found.{IsOld, IsToMigrate, IsUnfitTo, StandingIs, StandsFor}
use Rattle.macs_store.specs.Opening.{CompactsHeld, HasNoneToMigrate, IsMigration, IsUnfit, MigrationLeaves}
use Rattle.macs_store.specs.Opening.{OpeningLeaves}
use Rattle.macs_store.specs.Opening.{Opens, RefusesDisk, TakesUp, WritesNothing}
use Rattle.macs_store.specs.Replay.{meaning_of, migrates, reading_of, snapshot_of}
use Rattle.macs_store.specs.Snapshot.{snapshot}
use Rattle.macs_store.specs.Standing.{Standing}
use Rattle.macs_store.specs.Table.{standing_of}
use Rattle.macs_store.specs.Value.{IsIdle, IsStored, LeadsTo, StoreValue, device_in, disk_in, standing_in}
use Rattle.macs_store.specs.Value.{standing_next}
use Rattle.macs_store.specs.UnderWay.{UnderWay}
use Rattle.macs_store.proofs.Compacting.{meaning-compacted}

-- ---- over plain values

no_true : true ≡ false → ⊥
no_true same = absurd cc

no_false : false ≡ true → ⊥
no_false same = absurd cc

standing_one : (a b : Standing) → Some a ≡ Some b → a ≡ b
standing_one a b is = cc

-- what a call without a value answers
abbrev pub done : Result (Unit {0}) JournalFault
done = Ok tt

abbrev refused : JournalFault → Result (Unit {0}) JournalFault
refused fault = Err fault

same_fault : (a b : JournalFault) → refused a ≡ refused b → a ≡ b
same_fault a b is = cc

-- a format that an opening keeps is the second
is_two : (format : Format) → migrates this_edition format ≡ false → format ≡ Two
is_two One gone_on = absurd (no_true gone_on)
is_two Two gone_on = refl

-- and a journal of that format is not one to compact
pub not-old : (image : Image) (c : Content) (s : Standing) → HasFormat image Two → IsOld this_edition image c s → ⊥
not-old image c s is old =
    let same = one_content image c is.content old.found is.found in
    let format : c.head.format ≡ Two = ap (λ (c : Content). c.head.format) same ∙ is.is in
    no_true (sym old.old ∙ ap (λ (f : Format). migrates this_edition f) format)

-- after a sync nothing is pending
synced_settled : (old new : DiskState) → new ≡ state_after_sync old → IsSettled new
synced_settled old new same = subst IsSettled (sym same) (record { clean = λ i. refl; fresh = λ i. refl })

ready_settled : (s : DiskState) (c : Content) → IsReady s c → IsSettled s
ready_settled s c ready = record { clean = ready.clean; fresh = ready.fresh }

-- what was recovered stands for what its records were read to
pub recovered-meaning : (edition : Edition) (c : Content) (format : Format) (identity : Identity) (count : ℕ)
    (records : List Record) → format ≡ c.head.format
    → identity ≡ c.head.identity → count ≡ c.head.count → records ≡ c.records
    → meaning_of edition c ≡ reading_of edition format identity count records
recovered-meaning edition c format identity count records same_format same_identity same_count same_records =
    sym (λ i. reading_of edition (same_format i) (same_identity i) (same_count i) (same_records i))

-- a store without work, whose journal has none either and holds what is in memory
pub idle_stored : {D : Type 0} (disk_of : D → Disk) (s : StoreValue D) (c : Content) → IsIdle s
    → journal.IsIdle s.journal
    → HoldsContent disk_of s.journal c
    → meaning_of this_edition c ≡ Some (standing_in s) → c.head.format ≡ Two → IsStored disk_of s
idle_stored disk_of s c idle rests holds stands form = record {
  content = c;
  next = c;
  holding = record {
    holds = holds;
    made = subst (λ (h : journal_under_way.UnderWay). IsMadeOf h (snapshot (standing_in s)) c c) (sym rests) tt;
  };
  stands = stands;
  becomes = subst (λ (h : UnderWay). meaning_of this_edition c ≡ standing_next (standing_in s) h) (sym idle) stands;
  leads = subst (λ (h : UnderWay). LeadsTo h c c) (sym idle) refl;
  form = form;
  form_next = form;
}

-- ---- nothing is written

module _ (old new : Disk) (nothing : LeavesNothingNew old new) where
  quiet_leaves : Leaves old new (OpeningLeaves old)
  quiet_leaves = Leaves-weaker old new (IsImage (now old)) (OpeningLeaves old) (λ image left. inl left) nothing

  quiet_migration : IsSound (now old) → Works old new → StandsFromFirst old new
      → (now new ≡ now old) ⊎ (now new ≡ state_after_sync (now old))
      → (c : Content) (s : Standing) → IsMigration old new c s
  quiet_migration sound works stands left c s = record {
    any_moment = Leaves-weaker old new (IsImage (now old)) (MigrationLeaves old c s) (λ image left. inl left) nothing;
    others = λ i none. spared-from-first old new i sound works stands left;
  }

-- no journal was found
unfit : (sectors : ℕ) (image : Image) (fault : JournalFault) → JournalIs sectors image (Err fault)
    → IsUnfitTo this_edition sectors image fault
unfit sectors image BadJournal is = (is.0, inl is.1)
unfit sectors image GenerationsSpent is = absurd is
unfit sectors image fault is = is

left_by : (fault : JournalFault) (old new : DiskState) → IsLeftBy fault old new
    → (new ≡ old) ⊎ (new ≡ state_after_sync old)
left_by TooSmall old new is = inl is
left_by Failed old new is = is
left_by fault old new is = inr is

module _ {D : Type 0} (disk_of : D → Disk) (disk : D) (sound : IsHonest (disk_of disk)
    → IsSound (now (disk_of disk))) where
  -- that of a disk is refused
  pub recovery-refused : (left : D) (fault : JournalFault)
      → IsRefused disk_of (IsNoJournal disk_of disk) disk left fault → RefusesDisk disk_of disk left fault
  recovery-refused left fault is = record {
    name = inl is.name;
    small = is.small;
    untouched = is.untouched;
    works = is.works;
    fails = is.fails;
    found = λ other honest. unfit (disk_of disk).sectors (now (disk_of disk)).seen fault (is.found other honest);
    any_moment = λ honest. quiet_leaves (disk_of disk) (disk_of left) (is.any_moment honest);
    unwritten = λ honest none.
        (record { from_first = is.from_first honest; any_moment = is.any_moment honest }, is.unwritten honest);
    migrated = λ honest c s to.
        quiet_migration (disk_of disk) (disk_of left) (is.any_moment honest) (sound (sym is.works.honest ∙ honest))
        is.works (is.from_first honest)
        (left_by fault (now (disk_of disk)) (now (disk_of left)) (is.unwritten honest)) c s;
  }

  -- ---- a journal was recovered, and a store is over it

  module _ (s : StoreValue D) (format : Format) (identity : Identity) (count : ℕ) (records : List Record)
      (is : Recovers disk_of disk s.journal format identity count records) (idle : IsIdle s) where
    abbrev old : Disk
    old = disk_of disk

    abbrev mid : Disk
    mid = disk_in disk_of s

    abbrev content : Content
    content = content_of s.journal records

    -- its content is the one that is found
    the_content : IsHonest mid → (c : Content) → HasJournal (now old).seen c → c ≡ content
    the_content honest c found = one_content (now old).seen c content found (is.found honest).1

    was_sound : IsHonest mid → IsSound (now old)
    was_sound honest = sound (sym is.device.works.honest ∙ honest)

    nothing : IsHonest mid → WritesNothing old mid
    nothing honest = record { from_first = is.device.from_first honest; any_moment = is.device.any_moment honest }

    by_recovery : IsHonest mid → (c : Content) (t : Standing) → IsMigration old mid c t
    by_recovery honest c t =
        quiet_migration old mid (is.device.any_moment honest) (was_sound honest) is.device.works
        (is.device.from_first honest)
        (inr (is.device.settled honest)) c t

    -- its records are refused: nothing is written
    records_refused : meaning_of this_edition content ≡ None → RefusesDisk disk_of disk (device_in s) BadJournal
    records_refused none = record {
      name = inl (inr (inr (inr refl)));
      small = (λ same. absurd cc, λ less. absurd (let large = is.device.large in omega (arith, less, large)));
      untouched = λ same. absurd cc;
      works = is.device.works;
      fails = is.device.fails;
      found = λ other honest. let there = is.found honest in
          (there.0, inr (record { content = content; found = there.1; refused = none }));
      any_moment = λ honest. quiet_leaves old mid (is.device.any_moment honest);
      unwritten = λ honest other. (nothing honest, is.device.settled honest);
      migrated = λ honest c t to. by_recovery honest c t;
    }

    -- or stand for what is in memory
    module _ (stands : meaning_of this_edition content ≡ Some (standing_in s)) where
      found_stands : IsHonest mid → StandsFor this_edition (now old).seen (standing_in s)
      found_stands honest = record { content = content; found = (is.found honest).1; stands = stands }

      is_found : IsHonest mid → StandingIs this_edition old.sectors (now old).seen (Ok (standing_in s))
      is_found honest = (is.device.large, found_stands honest)

      -- ---- in format two

      module _ (two : migrates this_edition format ≡ false) where
        none_to : IsHonest mid → HasNoneToMigrate old
        none_to honest c t to =
            let same = the_content honest c to.is.found in
            let at_format : migrates this_edition c.head.format ≡ migrates this_edition format =
            ap (λ (c : Content). migrates this_edition c.head.format) same
            ∙ ap (λ (f : Format). migrates this_edition f) (sym is.form) in
            no_true (sym to.is.old ∙ at_format ∙ two)

        opened_as_found : Opens disk_of disk s
        opened_as_found = record {
          device = record {
            large = is.device.large;
            works = is.device.works;
            fails = is.device.fails;
            settled = λ honest. synced_settled (now old) (now mid) (is.device.settled honest);
            format = λ honest image left. record {
              content = content;
              found = held-image disk_of s.journal content (is.holds honest) image left;
              is = sym is.form ∙ is_two format two;
            };
            any_moment = λ honest. quiet_leaves old mid (is.device.any_moment honest);
            unwritten = λ honest none. (nothing honest, is.device.settled honest);
            migrated = λ honest c to. absurd (none_to honest c (standing_in s) to);
          };
          running = is.running;
          idle = idle;
          found = is_found;
          stored = λ honest.
              idle_stored disk_of s content idle is.idle (is.holds honest) stands (sym is.form ∙ is_two format two);
        }

      -- ---- in format one

      module _ (old_format : migrates this_edition format ≡ true) (result : Result (Unit {0}) JournalFault)
          (t : StoreValue D)
          (begins : CompactsHeld disk_of s result t) where
        abbrev new : Disk
        new = disk_in disk_of t

        abbrev kept : List Record
        kept = snapshot (standing_in s)

        abbrev next : Content
        next = compacted content kept

        compacting_works : Works mid new
        compacting_works = begins.compacts.work.works

        back : IsHonest new → IsHonest mid
        back honest = sym compacting_works.honest ∙ honest

        next_stands : meaning_of this_edition next ≡ Some (standing_in s)
        next_stands = meaning-compacted this_edition content (standing_in s) kept refl stands begins.stands

        same_standing : standing_in t ≡ standing_in s
        same_standing = ap standing_of begins.held

        is_old : IsHonest mid → IsOld this_edition (now old).seen content (standing_in s)
        is_old honest = record {
          found = (is.found honest).1;
          stands = stands;
          old = ap (λ (f : Format). migrates this_edition f) (sym is.form) ∙ old_format;
        }

        either : IsHonest new → Leaves old new (MigrationLeaves old content (standing_in s))
        either honest =
            Leaves-join old mid new (IsImage (now old)) (HasEitherJournal content next)
            (MigrationLeaves old content (standing_in s))
            (is.device.any_moment (back honest)) (begins.compacts.any_moment honest content (is.holds (back honest)))
            (λ image left. inl left) (λ image left. inr left)

        same_seen : IsHonest mid → (now mid).seen ≡ (now old).seen
        same_seen honest = ap (λ (s : DiskState). s.seen) (is.device.settled honest)

        migration : IsHonest new → IsMigration old new content (standing_in s)
        migration honest = record {
          any_moment = either honest;
          others = λ i none.
              Spared-on old mid new i is.device.works compacting_works
              (spared-from-first old mid i (was_sound (back honest)) is.device.works
              (is.device.from_first (back honest)) (inr (is.device.settled (back honest))))
              (begins.compacts.others honest i
              (subst (λ (seen : Image). ¬ CompactWrites seen (other_area content.area) (length kept) i)
              (sym (same_seen (back honest))) none));
        }

        -- what is left stands for the same
        alike : IsHonest mid → (image : Image) → MigrationLeaves old content (standing_in s) image
            → OpeningLeaves old image
        alike honest image (inl before) = inl before
        alike honest image (inr (inl found)) =
            inr (record {
              standing = standing_in s;
              first = found_stands honest;
              second =
                  record { content = content; found = found; stands = stands };
            })
        alike honest image (inr (inr found)) =
            inr (record {
              standing = standing_in s;
              first = found_stands honest;
              second =
                  record { content = next; found = found; stands = next_stands };
            })

        alike_leaves : IsHonest new → Leaves old new (OpeningLeaves old)
        alike_leaves honest = Leaves-weaker old new (MigrationLeaves old content (standing_in s)) (OpeningLeaves old)
            (alike (back honest)) (either honest)

        -- whatever journal is to be compacted, it is this one
        this_one : (P : Content → Standing → Type 0) → IsHonest mid → (c : Content) (x : Standing)
            → IsToMigrate this_edition (now old).seen c x
            → P content (standing_in s) → P c x
        this_one P honest c x to here =
            let same = the_content honest c to.is.found in
            let meant : Some x ≡ Some (standing_in s) = sym to.is.stands
            ∙ ap (λ (c : Content). meaning_of this_edition c) same ∙ stands in
            let same_meant = standing_one x (standing_in s) meant in
            subst (λ (c : Content). P c x) (sym same) (subst (λ (y : Standing). P content y) (sym same_meant) here)

      -- the journal is compacted
      module _ (old_format : migrates this_edition format ≡ true) (t : StoreValue D)
          (begins : CompactsHeld disk_of s done t) where
        abbrev after : Disk
        after = disk_in disk_of t

        abbrev later : Content
        later = compacted content (snapshot (standing_in s))

        holds_later : IsHonest after → HoldsContent disk_of t.journal later
        holds_later honest = begins.compacts.done honest content (is.holds (back old_format done t begins honest))

        to_migrate : IsHonest mid → IsToMigrate this_edition (now old).seen content (standing_in s)
        to_migrate honest = record {
          is = is_old old_format done t begins honest;
          next = λ last.
              absurd (let spent : done ≡ refused GenerationsSpent = begins.compacts.spent.1 (is.running, last) in cc);
        }

        opened_later : Opens disk_of disk t
        opened_later =
            let same = sym (same_standing old_format done t begins) in
            let before : IsHonest after → IsHonest mid = back old_format done t begins in
            record {
              device = record {
                large = is.device.large;
                works = Works-on old mid after is.device.works begins.compacts.work.works;
                fails = begins.compacts.work.fails ∙ is.device.fails;
                settled =
                    λ honest. ready_settled (now after) later (held-ready disk_of t.journal later (holds_later honest));
                format = λ honest image left. record {
                  content = later;
                  found = begins.compacts.kept honest content (is.holds (before honest)) image left;
                  is = refl;
                };
                any_moment = λ honest. alike_leaves old_format done t begins honest;
                unwritten = λ honest none. absurd (none content (standing_in s) (to_migrate (before honest)));
                migrated = λ honest c to.
                    this_one old_format done t begins (λ c x. IsMigration old after c x
                    × IsReady (now after) (compacted c (snapshot x))) (before honest) c
                    (standing_in t) to (
                      migration old_format done t begins honest,
                      held-ready disk_of t.journal later (holds_later honest),
                    );
              };
              running = begins.compacts.running.0;
              idle = begins.under_way ∙ idle;
              found = λ honest. subst (λ (x : Standing). StandingIs this_edition old.sectors (now old).seen (Ok x)) same
                  (is_found (before honest));
              stored = λ honest.
                  idle_stored disk_of t later (begins.under_way ∙ idle) begins.compacts.running.1 (holds_later honest)
                  (subst (λ (x : Standing). meaning_of this_edition later ≡ Some x) same
                  (next_stands old_format done t begins)) refl;
            }

      -- it cannot be compacted: its generation is the last
      module _ (old_format : migrates this_edition format ≡ true) (t : StoreValue D)
          (begins : CompactsHeld disk_of s (refused GenerationsSpent) t) where
        spent_same : IsErrOf (refused GenerationsSpent) Failed ⊎ (t.journal ≡ s.journal) → device_in t ≡ device_in s
        spent_same (inl failed) = absurd cc
        spent_same (inr same) = ap (λ (j : JournalValue D). j.disk) same

        unfit_at_last : IsHonest mid → IsUnfit disk_of disk GenerationsSpent
        unfit_at_last honest = (
          is.device.large,
          record {
            content = content;
            standing = standing_in s;
            is = is_old old_format (refused GenerationsSpent) t begins honest;
            last = (begins.compacts.spent.0 refl).1;
          },
        )

        quiet_at_last : RefusesDisk disk_of disk (device_in s) GenerationsSpent
        quiet_at_last = record {
          name = inr refl;
          small = (λ same. absurd cc, λ less. absurd (let large = is.device.large in omega (arith, less, large)));
          untouched = λ same. absurd cc;
          works = is.device.works;
          fails = is.device.fails;
          found = λ other honest. unfit_at_last honest;
          any_moment = λ honest. quiet_leaves old mid (is.device.any_moment honest);
          unwritten = λ honest other. (nothing honest, is.device.settled honest);
          migrated = λ honest c x to. by_recovery honest c x;
        }

        refused_at_last : RefusesDisk disk_of disk (device_in t) GenerationsSpent
        refused_at_last = subst (λ (d : D). RefusesDisk disk_of disk d GenerationsSpent)
            (sym (spent_same begins.compacts.same)) quiet_at_last

      -- a device call failed meanwhile
      module _ (old_format : migrates this_edition format ≡ true) (t : StoreValue D)
          (begins : CompactsHeld disk_of s (refused Failed) t) where
        cut_to : IsHonest mid → IsToMigrate this_edition (now old).seen content (standing_in s)
        cut_to honest = record {
          is = is_old old_format (refused Failed) t begins honest;
          next = λ last. absurd (let spent : refused Failed ≡ refused GenerationsSpent =
              begins.compacts.spent.1 (is.running, last) in cc);
        }

        refused_cut : RefusesDisk disk_of disk (device_in t) Failed
        refused_cut =
            let before = back old_format (refused Failed) t begins in
            record {
              name = inl (inr (inl refl));
              small = (λ same. absurd cc, λ less. absurd (let large = is.device.large in omega (arith, less, large)));
              untouched = λ same. absurd cc;
              works = Works-on old mid (disk_in disk_of t) is.device.works begins.compacts.work.works;
              fails = FailsOnce-before old mid (disk_in disk_of t) is.device.fails begins.compacts.work.fails;
              found = λ other honest. absurd (other refl);
              any_moment = λ honest. alike_leaves old_format (refused Failed) t begins honest;
              unwritten = λ honest none. absurd (none refl content (standing_in s) (cut_to (before honest)));
              migrated = λ honest c x to.
                  this_one old_format (refused Failed) t begins (λ c x. IsMigration old (disk_in disk_of t) c x)
                  (before honest) c x to
                  (migration old_format (refused Failed) t begins honest);
            }

      -- ---- whatever fault is answered

      module _ (old_format : migrates this_edition format ≡ true) (t : StoreValue D) where
        by_name : (fault : JournalFault) → CompactsHeld disk_of s (refused fault) t
            → IsErrOf (refused fault) Stopped
            ⊎ (IsErrOf (refused fault) GenerationsSpent ⊎ IsErrOf (refused fault) Failed)
            → RefusesDisk disk_of disk (device_in t) fault
        by_name fault begins (inl stopped) = absurd (no_true (sym (begins.compacts.stopped.0 stopped) ∙ is.running))
        by_name fault begins (inr (inl spent)) =
            let named = same_fault fault GenerationsSpent spent in
            subst (λ (f : JournalFault). RefusesDisk disk_of disk (device_in t) f) (sym named)
            (refused_at_last old_format t
            (subst (λ (f : JournalFault). CompactsHeld disk_of s (refused f) t) named begins))
        by_name fault begins (inr (inr failed)) =
            let named = same_fault fault Failed failed in
            subst (λ (f : JournalFault). RefusesDisk disk_of disk (device_in t) f) (sym named)
            (refused_cut old_format t (subst (λ (f : JournalFault). CompactsHeld disk_of s (refused f) t) named begins))

      opens_by : (b : Bool) → migrates this_edition format ≡ b → (t : StoreValue D) → TakesUp disk_of true b s done t
          → Opens disk_of disk t
      opens_by true old_format t begins = opened_later old_format t begins
      opens_by false two t takes =
          subst (λ (x : StoreValue D). Opens disk_of disk x) (sym takes.1) (opened_as_found two)

      refuses_by : (b : Bool) → migrates this_edition format ≡ b → (t : StoreValue D) (fault : JournalFault)
          → TakesUp disk_of true b s (refused fault) t
          → RefusesDisk disk_of disk (device_in t) fault
      refuses_by true old_format t fault begins = by_name old_format t fault begins begins.compacts.names
      refuses_by false two t fault takes = absurd (let never : refused fault ≡ done = takes.0 in cc)

    -- ---- the store is taken up, where its records were read or not

    pub taken-up : (is_read : Bool) → meaning_of this_edition content ≡ (if is_read then Some (standing_in s) else None)
        → (t : StoreValue D)
        → TakesUp disk_of is_read (migrates this_edition format) s done t → Opens disk_of disk t
    taken-up true stands t takes = opens_by stands (migrates this_edition format) refl t takes
    taken-up false none t takes = absurd (let never : done ≡ refused BadJournal = takes.0 in cc)

    pub not-taken-up : (is_read : Bool) → meaning_of this_edition content
        ≡ (if is_read then Some (standing_in s) else None) → (t : StoreValue D) (fault : JournalFault)
        → TakesUp disk_of is_read (migrates this_edition format) s (refused fault) t → (left : D) → left ≡ device_in t
        → RefusesDisk disk_of disk left fault
    not-taken-up true stands t fault takes left gave =
        subst (λ (d : D). RefusesDisk disk_of disk d fault) (sym gave)
        (refuses_by stands (migrates this_edition format) refl t fault takes)
    not-taken-up false none t fault takes left gave =
        let named = same_fault fault BadJournal takes.0 in
        let device : left ≡ device_in s = gave ∙ ap (λ (x : StoreValue D). device_in x) takes.1 in
        subst (λ (d : D). RefusesDisk disk_of disk d fault) (sym device)
        (subst (λ (f : JournalFault). RefusesDisk disk_of disk (device_in s) f) (sym named) (records_refused none))

-- ---- what the calls of a store give

-- a journal that was compacted, or was not, has no work
module _ {D : Type 0} (disk_of : D → Disk) (j k : JournalValue D) (records : List Record) where
  pub compacted-idle : (result : Result (Unit {0}) JournalFault) → Compacts disk_of j records result k
      → journal.IsIdle j → journal.IsIdle k
  compacted-idle (Ok value) is rests = is.running.1
  compacted-idle (Err fault) is rests = elim is.same [
    | inl failed ↦ (is.halted failed).1
    | inr same ↦ subst (λ (x : JournalValue D). journal.IsIdle x) (sym same) rests
  ]

pub compacts-held : {D : Type 0} (disk_of : D → Disk) (s : StoreValue D) (j : JournalValue D)
    (result : Result (Unit {0}) JournalFault)
    → snapshot_of this_edition (standing_in s).identity (snapshot (standing_in s)) ≡ Some (standing_in s)
    → Compacts disk_of s.journal (snapshot (standing_in s)) result j
    → CompactsHeld disk_of s result (record s { journal = j })
compacts-held disk_of s j result stands compacts =
    record { compacts = compacts; held = refl; under_way = refl; stands = stands }

module _ {D : Type 0} (disk_of : D → Disk) (s t : StoreValue D) (result : Result (Unit {0}) JournalFault) where
  pub taken-unread : (is_read aged : Bool) → is_read ≡ false → TakesUp disk_of is_read aged s (refused BadJournal) s
  taken-unread true aged unread = absurd (no_true unread)
  taken-unread false aged unread = (refl, refl)

  pub taken-compacted : (is_read aged : Bool) → is_read ≡ true → aged ≡ true → CompactsHeld disk_of s result t
      → TakesUp disk_of is_read aged s result t
  taken-compacted true true was_read was_old begins = begins
  taken-compacted true false was_read was_old begins = absurd (no_false was_old)
  taken-compacted false aged was_read was_old begins = absurd (no_false was_read)

  pub taken-as-found : (is_read aged : Bool) → is_read ≡ true → aged ≡ false → TakesUp disk_of is_read aged s done s
  taken-as-found true true was_read was_old = absurd (no_true was_old)
  taken-as-found true false was_read was_old = (refl, refl)
  taken-as-found false aged was_read was_old = absurd (no_false was_read)
