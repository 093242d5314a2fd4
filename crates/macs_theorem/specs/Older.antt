-- Disks that an older edition used: what an observer knows about them, and expects from then on.
use Rattle.std.specs.Prelude.{◌++◌, List, [], map, None, Some, false}
use Rattle.macs_config.specs.Config.{Edition, IsUpTo, this_edition}
use Rattle.macs_disk.specs.Disk.{Disk}
use Rattle.macs_endpoint.specs.State.{Delivery, Use}
use Rattle.macs_headline.specs.Binding.{HasHistory}
use Rattle.macs_headline.specs.History.{Blank, Formatted, Life, Past}
use Rattle.macs_theorem.specs.Events.{Event, Happen, Holds, HoldsDisk}
use Rattle.macs_theorem.specs.Shown.{settings_of, Shown, shown_by}
use Rattle.macs_theorem.specs.Observer.{ExpectsAll, Observer, new_observer}

-- what an observer knows after a history: the settings, the numbers that were used, and the command under way, if any;
-- of the installed keys, those of frames that were sent, or delivered as verified
abbrev pub observer_after : Past → Observer
observer_after (Blank identities) = record new_observer { tried = identities }
observer_after (Formatted s) = record {
  formatted = Some s.identity;
  tried = [];
  settings = settings_of s.config;
  installed = map (λ (u : Use). (None, u.key)) s.logs.used ++ map (λ (d : Delivery). (Some d.sci, d.key)) s.logs.given;
  next = s.next;
  numbers = s.numbers;
  waiting = s.waiting;
  tickets = s.tickets;
  begun = s.under_way;
  stopped = s.stopped;
  rested = false;
  sent = s.logs.used;
  delivered = s.logs.given;
  before = s.logs.given;
}

-- For all programs of this edition, on an honest disk that older ones used, even in format one, and no matter where the
-- programs end: an observer who knows that history expects all that is seen. So an opening that migrates the disk finds
-- what was on it.
abbrev pub OlderIsExpected : {D : Type 0} → (D → Disk) → Type 0
OlderIsExpected {D} disk_of = (edition : Edition) → IsUpTo edition this_edition
    → (disk : D) (lives : List Life) (h : HasHistory edition (disk_of disk) lives) (events : List (Event Shown))
    (end : Holds D)
    → Happen disk_of shown_by (HoldsDisk disk) events end → ExpectsAll (observer_after h.past) events
