-- A disk that a keeper keeps, as its client knows it.
use Rattle.std.specs.Prelude.{◌≡◌, ◌<◌, ◌⊎◌, ◌+◌, ◌-◌, ◌^◌, ◌==◌, ◌||◌, ℕ, Bool, true, false, if◌then◌else◌, List}
use Rattle.std.specs.Prelude.{length, Option, Result, Ok, Err, IsErr}
use Rattle.macs_disk.specs.Disk.{Disk}
use Rattle.macs_disk.specs.Messages.{greeting_octets}
use Rattle.macs_disk.specs.States.{settled_state, zero_sector}
use Rattle.macs_control.specs.Keepers.{IsCut, Takes}
use Rattle.macs_control.specs.Links.{Line, Link}
use Rattle.macs_control.specs.declared.keeping.cut.Cut.TheVariants as cut

-- what a client knows of a disk: how many sectors it has; the calls that were answered, and the failures among them;
-- and whether one failed. A call that waits for its answer changes nothing of it.
pub record KeptDiskValue : Type 0 where
  pub sectors : ℕ
  pub clock : ℕ
  pub failures : ℕ
  pub is_failed : Bool

-- the disk that it shows. Nothing is claimed of what a keeper does: it is not honest.
abbrev pub kept_disk : KeptDiskValue → Disk
kept_disk it =
    record {
      sectors = it.sectors;
      past = λ _. settled_state (λ _. zero_sector);
      clock = it.clock;
      failures = it.failures;
      honest = false;
      worn = it.clock == 2 ^ 64 - 1;
      prompt = false;
    }

-- a call failed, or the disk is worn: each later call fails
abbrev pub is_stopped : KeptDiskValue → Bool
is_stopped it = it.is_failed || (it.clock == 2 ^ 64 - 1)

-- after a call that ended so: it is counted, and a failure stops the disk. On a worn disk nothing is counted
abbrev pub after_call : {T E : Type 0} → KeptDiskValue → Result T E → KeptDiskValue
after_call it (Ok done) = record it { clock = it.clock + 1 }
after_call it (Err fault) =
    if it.clock == 2 ^ 64 - 1 then it else
    record it { clock = it.clock + 1; failures = it.failures + 1; is_failed = true }

-- a call ends so. On a disk that has stopped it fails
pub record EndsSo {T E : Type 0} (old : KeptDiskValue) (result : Result T E) (new : KeptDiskValue) : Type 0 where
  pub counted : new ≡ after_call old result
  pub refused : is_stopped old ≡ true → IsErr result

-- a disk whose keeper has greeted
abbrev pub IsOpened : Option Link → KeptDiskValue → Type 0
IsOpened link it = (greeted : Option Link) × Takes link (greeting_octets it.sectors) greeted
    × (it ≡ record { sectors = it.sectors; clock = 0; failures = 0; is_failed = false })

-- octets that are the greeting for no number of sectors
abbrev pub IsNoGreeting : List ℕ → Type 0
IsNoGreeting octets = (sectors : ℕ) → sectors < 2 ^ 64 → octets ≡ greeting_octets sectors → ⊥

-- no greeting is taken from a connection: the keeper ends before its last octet; the connection fails, which one that
-- is known to be steady does not; or what comes is not a greeting
abbrev pub GreetsNot : Option Link → Bool → Type 0
GreetsNot link steady = (left : Option Link) × (
    IsCut 16 link cut.Ended left
    ⊎ ((steady ≡ false) × IsCut 16 link cut.Gone left)
    ⊎ ((octets : List ℕ) × (length octets ≡ 16) × IsNoGreeting octets × Takes link octets left))

-- ---- where a keeper is found

-- a connection is asked for to the keeper with this name, and comes or does not
pub data KeeperCall : Type 0 where
  Connects : (path : List ℕ) → (line : Option Line) → KeeperCall
