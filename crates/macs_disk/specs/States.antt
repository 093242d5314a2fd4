-- A disk at one moment: what reads give, what is durable, and what a power loss may leave.
use Rattle.std.specs.Prelude.{◌≡◌, ◌<◌, ◌^◌, ◌==◌, ℕ, if◌then◌else◌, Bool, true, false, List, length, get_or, replicate}

-- 512 octets
pub record IsSector (sector : List ℕ) : Type 0 where
  pub size : length sector ≡ 512
  pub octets : (i : ℕ) → get_or sector i 0 < 2 ^ 8

-- the octets of each sector, by the sector's number
abbrev pub Image : Type 0
Image = ℕ → List ℕ

-- a disk at one moment: what reads give, what is durable, and which sectors are pending,
-- that is, were written since the last sync that succeeded
pub record DiskState : Type 0 where
  pub seen : Image
  pub durable : Image
  pub pending : ℕ → Bool

-- a power loss at that moment may leave this image: the durable octets of each sector that is not pending, and any 512
-- octets in each that is, independently
pub record IsImage (state : DiskState) (image : Image) : Type 0 where
  pub kept : (i : ℕ) → state.pending i ≡ false → image i ≡ state.durable i
  pub whole : (i : ℕ) → state.pending i ≡ true → IsSector (image i)

-- sectors have 512 octets, and what reads give is one of the images
pub record IsSound (state : DiskState) : Type 0 where
  pub fit : IsImage state state.seen
  pub seen : (i : ℕ) → IsSector (state.seen i)
  pub durable : (i : ℕ) → IsSector (state.durable i)

-- f, with x at one place
abbrev pub put_sector : {X : Type 0} → (ℕ → X) → ℕ → X → ℕ → X
put_sector f at x i = if i == at then x else f i

-- the state after a write of these octets to a sector
abbrev pub state_after_write : DiskState → ℕ → List ℕ → DiskState
state_after_write state at octets =
    record {
      seen = put_sector state.seen at octets;
      durable = state.durable;
      pending = put_sector state.pending at true;
    }

-- the state in which reads give this image, all of it is durable, and nothing is pending
abbrev pub settled_state : Image → DiskState
settled_state image = record { seen = image; durable = image; pending = λ _. false }

-- the state after a sync
abbrev pub state_after_sync : DiskState → DiskState
state_after_sync state = settled_state state.seen

-- a sector of zeros
unfoldable pub zero_sector : List ℕ
zero_sector = replicate 512 0
