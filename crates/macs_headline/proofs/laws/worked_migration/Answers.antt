use Rattle.std.proofs.Common.{refl, arith}
use Rattle.macs_journal.specs.Value.{IsHolding}
use Rattle.macs_headline.specs.ExampleCuts.{place_behind}
use Rattle.macs_headline.specs.ExampleMigration.{beginning_disk, beginning_under_way, migrated_content, used_content}
use Rattle.macs_headline.specs.ExampleMigration.{used_image, used_records}
use Rattle.macs_headline.proofs.ExampleMigration.{is-worked-migration, closed_used, next_range, used_found, used_ranges}
use Rattle.macs_headline.proofs.ExampleCompaction.{compacting}
use Rattle.macs_headline.proofs.laws.worked_migration.Goals as goal

-- The disk on which the journal of the first edition is compacted, in an opening of this one that is cut short.
beginning-holds : IsHolding beginning_disk (place_behind used_content) beginning_under_way used_content
    migrated_content
beginning-holds = record {
  at = record { area = refl; head = refl; free = refl };
  holds = compacting used_image used_content used_records (λ k lt. closed_used k) used_found next_range used_ranges
      (omega arith) (omega arith);
}

pub returns : goal.returns
returns c = is-worked-migration c.peer_frame_in_range.ensures beginning-holds
