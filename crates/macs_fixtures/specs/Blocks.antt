-- Octets in memory by their blocks, and what a file in memory keeps of them.
use Rattle.std.specs.Prelude.{◌≡◌, ◌<◌, ◌≤◌, ◌*◌, ◌/◌, ◌%◌, ◌^◌, ◌==◌, ℕ, if◌then◌else◌, nat_lt, Bool, true, false, List}
use Rattle.std.specs.Prelude.{length, get_or}
use Rattle.macs_disk.specs.Files.{FileState}
use Rattle.macs_disk.specs.CallLists.{flag_at}
use Rattle.macs_fixtures.specs.declared.blocks.Left.{Left}
use Rattle.macs_fixtures.specs.declared.blocks.Left.TheVariants.{Durable, Written, Half, Zeros}

-- an octet of a list, and zeros after it
abbrev pub octet_at : List ℕ → ℕ → ℕ
octet_at octets p = get_or octets p 0

-- whether the block that has an octet has its flag up
abbrev pub flag_in : ℕ → List Bool → ℕ → Bool
flag_in block flags p = flag_at flags (p / block)

-- each is below 256
abbrev pub are_octets : List ℕ → Type 0
are_octets octets = (p : ℕ) → octet_at octets p < 2 ^ 8

-- What a file in memory keeps: what reads give, what the device shows and what it durably has; and by block what the
-- next sync writes to the device, and what was written since the last that succeeded.
pub record IsKept (block : ℕ) (cache device durable : List ℕ) (dirty pending : List Bool)
    (is_clean is_sure : Bool) : Type 0 where
  pub some : 0 < block
  pub as_device : length device ≡ length cache
  pub as_durable : length durable ≡ length cache
  pub as_dirty : length dirty ≡ length pending
  pub blocks : block * length pending ≡ length cache
  pub cache_octets : are_octets cache
  pub device_octets : are_octets device
  pub durable_octets : are_octets durable
  -- the device shows what is durable where nothing is pending, and no more is dirty than is pending
  pub shown : (p : ℕ) → flag_in block pending p ≡ false → octet_at device p ≡ octet_at durable p
  pub fewer : (n : ℕ) → flag_at pending n ≡ false → flag_at dirty n ≡ false
  pub clean : is_clean ≡ true → (n : ℕ) → flag_at pending n ≡ false
  -- reads give what is durable where nothing is pending, and while no sync has failed all that is pending is dirty
  pub seen : (p : ℕ) → flag_in block pending p ≡ false → octet_at cache p ≡ octet_at durable p
  pub all : is_sure ≡ true → (n : ℕ) → flag_at dirty n ≡ false → flag_at pending n ≡ false

-- zeros from a place on
abbrev pub EndsAt : ℕ → List ℕ → Type 0
EndsAt size octets = (p : ℕ) → size ≤ p → octet_at octets p ≡ 0

-- what a power loss leaves in the place of an octet of a pending block, where this one was durable and that one
-- written. It lies in the first half of its block or not.
abbrev pub left_of : Left → Bool → ℕ → ℕ → ℕ
left_of Durable is_first durable written = durable
left_of Written is_first durable written = written
left_of Half is_first durable written = if is_first then written else durable
left_of Zeros is_first durable written = 0

-- whether an octet lies in the first half of its block
abbrev pub is_in_first_half : ℕ → ℕ → Bool
is_in_first_half block p = nat_lt (p % block) (block / 2)

-- the octet that a power loss leaves at a place, where these were written: the durable one in a block that is not
-- pending
abbrev pub octet_left : Left → FileState → (ℕ → ℕ) → ℕ → ℕ
octet_left left file written p =
    if file.pending (p / file.block)
    then left_of left (is_in_first_half file.block p) (file.durable p) (written p)
    else file.durable p

-- the size that a power loss leaves, of the one that was written and the one that is durable
abbrev pub size_left : Left → ℕ → ℕ → ℕ
size_left Durable written durable = durable
size_left Written written durable = written
size_left Half written durable = written
size_left Zeros written durable = durable

-- a file by what it keeps
abbrev pub file_in_memory : ℕ → ℕ → ℕ → List ℕ → List ℕ → List Bool → Bool → Bool → Bool → FileState
file_in_memory block size durable_size cache durable pending is_clean is_sure is_claimed =
    record {
      behaves = true;
      block = block;
      size = size;
      is_size_durable = durable_size == size;
      seen = octet_at cache;
      durable = octet_at durable;
      pending = flag_at pending;
      is_clean = is_clean;
      is_sure = is_sure;
      is_claimed = is_claimed;
    }
