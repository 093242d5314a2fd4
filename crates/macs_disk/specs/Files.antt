-- A file at one moment, and what each call of a file that behaves does to it. A file behaves as one of a kernel does
-- that keeps its promises: octets are written to a cache and read from there; a sync makes them durable on the device.
-- Once a sync has failed, the cache may show octets that the device does not have, and no later sync repairs that,
-- because the kernel considers their pages written. So a file in doubt is only read, and the octets that are read are
-- copied into a new file.
use Rattle.std.specs.Prelude.{◌≡◌, ◌≤◌, ◌<◌, ◌+◌, ◌-◌, ◌*◌, ◌^◌, ◌&&◌, ◌||◌, ℕ, if◌then◌else◌, max, nat_le, nat_lt}
use Rattle.std.specs.Prelude.{Bool, true, false, List, [], ◌∷◌, length, map, take, get_or, Result, IfOk, OnOk, OnErr}
use Rattle.std.specs.List.{range_with_len}

-- a file at one moment; octets are indexed by place, device blocks by number
pub record FileState : Type 0 where
  -- its calls do what this module says
  pub behaves : Bool
  -- how many octets the device writes at a time: a power loss during a write may spoil the whole block
  pub block : ℕ
  -- how many octets the file has, and whether that length survives a power loss
  pub size : ℕ
  pub is_size_durable : Bool
  -- what the cache shows, which reads give: zeros after the end
  pub seen : ℕ → ℕ
  -- what the device durably has
  pub durable : ℕ → ℕ
  -- the blocks written since the last sync that succeeded before any failed, and whether there are none
  pub pending : ℕ → Bool
  pub is_clean : Bool
  -- no sync of it has failed
  pub is_sure : Bool
  -- this open of the file has claimed it: no other open that asks for a claim has it
  pub is_claimed : Bool

-- the file behaves
abbrev pub Behaves : FileState → Type 0
Behaves file = file.behaves ≡ true

-- what the cache shows is what the next sync that succeeds makes durable
abbrev pub IsSure : FileState → Type 0
IsSure file = file.is_sure ≡ true

-- it is claimed
abbrev pub IsClaimed : FileState → Type 0
IsClaimed file = file.is_claimed ≡ true

-- a file about which nothing is known
abbrev pub unknown_file : FileState
unknown_file =
    record {
      behaves = false;
      block = 512;
      size = 0;
      is_size_durable = false;
      seen = λ _. 0;
      durable = λ _. 0;
      pending = λ _. true;
      is_clean = false;
      is_sure = false;
      is_claimed = false;
    }

-- blocks are not empty, octets are below 256, nothing is pending in a clean file, and a file shows what is durable
-- where nothing is pending, and zeros after its end
pub record IsSoundFile (file : FileState) : Type 0 where
  pub wide : 0 < file.block
  pub seen : (p : ℕ) → file.seen p < 2 ^ 8
  pub durable : (p : ℕ) → file.durable p < 2 ^ 8
  pub clean : file.is_clean ≡ true → (n : ℕ) → file.pending n ≡ false
  pub shown : (n k : ℕ) → file.pending n ≡ false → k < file.block
      → file.seen (file.block * n + k) ≡ file.durable (file.block * n + k)
  pub ended : (p : ℕ) → file.size ≤ p → file.seen p ≡ 0

-- a power loss may leave these octets: the durable ones in a block that is not pending, and any others elsewhere. If
-- the size is not durable, nothing is promised about what it leaves.
pub record IsFileImage (file : FileState) (image : ℕ → ℕ) : Type 0 where
  pub kept : (n k : ℕ) → file.pending n ≡ false → k < file.block
      → image (file.block * n + k) ≡ file.durable (file.block * n + k)
  pub octets : (p : ℕ) → image p < 2 ^ 8

-- f, with these values from one place on
abbrev pub put_from : {X : Type 0} → (ℕ → X) → ℕ → List X → ℕ → X
put_from f at xs p = if nat_le at p then get_or xs (p - at) (f p) else f p

-- this many values of f from one place on
unfoldable pub values_from : (ℕ → ℕ) → ℕ → ℕ → List ℕ
values_from f at count = map f (range_with_len at count)

-- the file shows zeros from octet `from` to before octet `to`
abbrev pub HasZeros : FileState → ℕ → ℕ → Type 0
HasZeros file from to = (i : ℕ) → from ≤ i → i < to → file.seen i ≡ 0

-- block n, with this block size, has one of the octets from `from` to before `to`
abbrev pub has_some : ℕ → ℕ → ℕ → ℕ → Bool
has_some block from to n = nat_lt (block * n) to && nat_lt from (block * n + block)

-- the file after these octets were written from one place on. If that extended it, its size is not durable.
abbrev pub file_after_write : FileState → ℕ → List ℕ → FileState
file_after_write file at [] = file
file_after_write file at (x ∷ xs) =
    record {
      behaves = file.behaves;
      block = file.block;
      size = max file.size (at + length (x ∷ xs));
      is_size_durable = file.is_size_durable && nat_le (at + length (x ∷ xs)) file.size;
      seen = put_from file.seen at (x ∷ xs);
      durable = file.durable;
      pending = λ n. has_some file.block at (at + length (x ∷ xs)) n || file.pending n;
      is_clean = false;
      is_sure = file.is_sure;
      is_claimed = file.is_claimed;
    }

-- the file with these octets and its size durable
abbrev pub file_synced : FileState → (ℕ → ℕ) → FileState
file_synced file octets =
    record {
      behaves = file.behaves;
      block = file.block;
      size = file.size;
      is_size_durable = true;
      seen = file.seen;
      durable = octets;
      pending = λ _. false;
      is_clean = true;
      is_sure = file.is_sure;
      is_claimed = file.is_claimed;
    }

-- the file after a sync
abbrev pub file_after_sync : FileState → FileState
file_after_sync file = file_synced file file.seen

-- the file after a failed sync: no octet of it has become durable, and what it shows is in doubt
abbrev pub file_in_doubt : FileState → FileState
file_in_doubt file = record file { is_sure = false }

-- the file once it is claimed
abbrev pub file_claimed : FileState → FileState
file_claimed file = record file { is_claimed = true }

-- the file truncated to zero length. Until a sync a power loss may leave any octets of it, and some other size.
abbrev pub file_cut : FileState → FileState
file_cut file = record file { size = 0; is_size_durable = false; seen = λ _. 0; pending = λ _. true; is_clean = false }

-- octets are below 256
abbrev pub AreOctets : List ℕ → Type 0
AreOctets octets = (i : ℕ) → get_or octets i 0 < 2 ^ 8

-- what a claim does: if it fails nothing is changed
pub record ClaimsFile {T E : Type 0} (old new : FileState) (result : Result T E) : Type 0 where
  pub ok : OnOk result (new ≡ file_claimed old)
  pub err : OnErr result (new ≡ old)

-- What a read does: it changes nothing, and returns the octets from its place on, as many as it says. In a kernel's
-- file in doubt a page may change, once, from what was written to what is durable, when the kernel evicts it: for such
-- a file this describes a reader that reads each octet once.
pub record ReadsFile {E : Type 0} (old new : FileState) (at : ℕ) (into : List ℕ) (result : Result ℕ E) : Type 0 where
  pub same : new ≡ old
  pub octets : IfOk result (λ count. take count into ≡ values_from old.seen at count)

-- some octets were written from a place on, at most this many
abbrev pub WritesSome : FileState → FileState → ℕ → ℕ → Type 0
WritesSome old new at most = (other : List ℕ) × (length other ≤ most) × AreOctets other
    × (new ≡ file_after_write old at other)

-- what a write does: it writes the first octets at its place, as many as it says. If it fails it wrote some octets
-- there, maybe none. Of a file in doubt it is only known that it stays in doubt.
pub record WritesFile {E : Type 0} (old new : FileState) (at : ℕ) (octets : List ℕ) (result : Result ℕ E) : Type 0 where
  pub ok : IsSure old → IfOk result (λ count. new ≡ file_after_write old at (take count octets))
  pub err : IsSure old → OnErr result (WritesSome old new at (length octets))
  pub doubt : old.is_sure ≡ false → new.is_sure ≡ false

-- what a write of all of these octets does: if it fails it wrote some octets there, at most this many, maybe none
pub record WritesAll {T E : Type 0} (old new : FileState) (at : ℕ) (octets : List ℕ)
    (result : Result T E) : Type 0 where
  pub ok : IsSure old → OnOk result (new ≡ file_after_write old at octets)
  pub err : IsSure old → OnErr result (WritesSome old new at (length octets))
  pub doubt : old.is_sure ≡ false → new.is_sure ≡ false

-- What a sync does: what a sure file shows is then durable, and so is its size. One in doubt stays so, regardless of
-- the result. If the sync fails nothing becomes durable, and the file is in doubt.
pub record SyncsFile {T E : Type 0} (old new : FileState) (result : Result T E) : Type 0 where
  pub ok : IsSure old → OnOk result (new ≡ file_after_sync old)
  pub doubt : old.is_sure ≡ false → new.is_sure ≡ false
  pub err : OnErr result (new ≡ file_in_doubt old)

-- a newly made file: it behaves, and is empty and sure
pub record IsEmpty (file : FileState) : Type 0 where
  pub behaves : Behaves file
  pub size : file.size ≡ 0
  pub is_sure : IsSure file

-- a new file in the folder of another, on the same device
pub record IsMadeBeside (old new : FileState) : Type 0 where
  pub is_empty : IsEmpty new
  pub block : new.block ≡ old.block

-- A file is a copy of another one: it has the same length and shows the same octets, all of it is durable, and so is
-- its size. What it shows is one of the images that a power loss could leave of the other.
pub record IsCopy (old new : FileState) : Type 0 where
  pub behaves : Behaves new
  pub block : new.block ≡ old.block
  pub size : new.size ≡ old.size
  pub shown : (p : ℕ) → new.seen p ≡ old.seen p
  pub durable : new.durable ≡ new.seen
  pub pending : (n : ℕ) → new.pending n ≡ false
  pub is_size_durable : new.is_size_durable ≡ true
  pub is_clean : new.is_clean ≡ true
  pub is_sure : IsSure new

-- a power loss leaves nothing new of the file: no image that it could not leave before, and the same size if that was
-- durable
pub record HasNothingNew (old new : FileState) : Type 0 where
  pub block : new.block ≡ old.block
  pub size : old.is_size_durable ≡ true → (new.size ≡ old.size) × (new.is_size_durable ≡ true)
  pub images : (image : ℕ → ℕ) → IsFileImage new image → IsFileImage old image
