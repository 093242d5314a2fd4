-- That a file in memory is sound. It is here and not among the proofs, since what a ghost item cites of its own crate
-- is in its specs.
use Rattle.std.proofs.Common.{◌≡◌, ◌<◌, ◌+◌, ◌*◌, ◌/◌, ℕ, Bool, List, ap, ◌∙◌, arith}
use Rattle.std.proofs.Math.Nat.{div-eq_of_lt-le, mul_comm, add-mul}
use Rattle.macs_disk.specs.Files.{IsSoundFile}
use Rattle.macs_fixtures.specs.Blocks.{EndsAt, IsKept, file_in_memory}
use Rattle.macs_disk.specs.CallLists.{flag_at}

-- the block of an octet
pub block-of : (block n k : ℕ) → k < block → (block * n + k) / block ≡ n
block-of block n k lt =
    let turned : block * n ≡ n * block = mul_comm block n in
    let next : (n + 1) * block ≡ n * block + 1 * block = add-mul n 1 block in
    div-eq_of_lt-le block (omega (arith, turned)) (omega (arith, turned, next, lt))

pub memory-sound : (block size durable_size : ℕ) (cache device durable : List ℕ) (dirty pending : List Bool)
    (is_clean is_sure is_claimed : Bool)
    → IsKept block cache device durable dirty pending is_clean is_sure → EndsAt size cache
    → IsSoundFile (file_in_memory block size durable_size cache durable pending is_clean is_sure is_claimed)
memory-sound block size durable_size cache device durable dirty pending is_clean is_sure is_claimed kept ends = record {
  wide = kept.some;
  seen = kept.cache_octets;
  durable = kept.durable_octets;
  clean = kept.clean;
  shown = λ n k clear lt. kept.seen (block * n + k) (ap (flag_at pending) (block-of block n k lt) ∙ clear);
  ended = ends;
}
