-- What a `StoryDisk` is.
use Rattle.std.specs.Prelude.{◌-◌, ◌^◌, ◌==◌, false, true}
use Rattle.macs_disk.specs.States.{settled_state, zero_sector}
use Rattle.macs_disk.specs.Disk.{Disk}
use Rattle.macs_stories.specs.declared.disk.device.StoryDisk.{StoryDisk}

-- the disk of a story, by its counts. It claims no honesty.
abbrev pub story_disk : StoryDisk → Disk
story_disk it =
    record {
      sectors = it.sectors;
      past = λ _. settled_state (λ _. zero_sector);
      clock = it.clock;
      failures = it.failures;
      honest = false;
      worn = it.clock == 2 ^ 64 - 1;
      prompt = true;
    }
