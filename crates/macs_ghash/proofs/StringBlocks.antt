-- Blocks of a string, and their octets.
use Rattle.std.proofs.Common.{◌≡◌, ℕ, ◌+◌, ◌-◌, ◌*◌, ◌^◌, ◌<◌, ◌≤◌, ◌∙◌, List, ap₂, bit_xor, refl, replicate, drop}
use Rattle.std.proofs.Common.{get_or, get_or-take, length, length-take-le, take, ap, arith, subst, sym, inl, inr}
use Rattle.std.specs.Int.{from_be_bytes, w128}
use Rattle.std.proofs.lemmas.List.{get_or-drop, get_or_past, length-drop, length-replicate}
use Rattle.std.proofs.lemmas.Bool.{cases_lt}
use Rattle.std.proofs.lemmas.List.Elements.{All-get_or}
use Rattle.std.specs.List.{All}
use Rattle.std.proofs.lemmas.Simd.{get_or-replicate}
use Rattle.std.proofs.lemmas.Nat.{xor_comm}
use Rattle.macs_gf.specs.Ghash.{block_at}
use Rattle.macs_gf.proofs.GhashBlocks.{block_at-is, block_octets}
use Rattle.macs_ghash.specs.Tables.{block_of_octets, octet_from_left, octets_in}
use Rattle.macs_ghash.proofs.OctetSteps.{block_equal, block_xor}
use Rattle.macs_ghash.proofs.OctetSums.{octets_whole}
use Rattle.macs_ghash.proofs.OctetLanes.{block_number, octet_of_number}

pub each_below : (bound : ℕ) (xs : List ℕ) → 0 < bound → All (λ v. v < bound) xs → (m : ℕ) → get_or xs m 0 < bound
each_below bound xs some all m = elim (cases_lt m (length xs)) [
  | inl lt ↦ All-get_or (λ (v : ℕ). v < bound) xs m 0 lt all
  | inr ge ↦ rw (get_or_past xs m 0 ge) some
]

pub octet_of_block_at : (octets : List ℕ) (l j : ℕ) → 16 * l + 16 ≤ length octets
    → ((m : ℕ) → get_or octets m 0 < 256) → j < 16
    → octet_from_left (block_at octets l) j ≡ get_or octets (16 * l + j) 0
octet_of_block_at octets l j len small k =
    let block : List ℕ = take 16 (drop (16 * l) octets) in
    let size : length block ≡ 16 =
    length-take-le 16 (drop (16 * l) octets) (omega (arith, length-drop (16 * l) octets)) in
    let at : (j : ℕ) → j < 16 → get_or block j 0 ≡ get_or octets (16 * l + j) 0 =
    λ j k. get_or-take 16 (drop (16 * l) octets) j 0 k ∙ get_or-drop (16 * l) octets j 0 in
    ap (λ b. octet_from_left (from_be_bytes w128 b) j) (block_octets octets l)
    ∙ octet_of_number block size (λ j k. subst (λ (v : ℕ). v < 256) (sym (at j k)) (small (16 * l + j))) j k ∙ at j k

-- a block depends on its octets alone
pub block_moved : (xs ys : List ℕ) (l m : ℕ) → 16 * l + 16 ≤ length xs → 16 * m + 16 ≤ length ys
    → ((j : ℕ) → j < 16 → get_or xs (16 * l + j) 0 ≡ get_or ys (16 * m + j) 0)
    → block_at xs l ≡ block_at ys m
block_moved xs ys l m lx ly same =
    let block : List ℕ = take 16 (drop (16 * l) xs) in
    let size : length block ≡ 16 = length-take-le 16 (drop (16 * l) xs) (omega (arith, length-drop (16 * l) xs)) in
    ap (from_be_bytes w128) (block_octets xs l)
    ∙ block_at-is ys block m size ly
    (λ j k. get_or-take 16 (drop (16 * l) xs) j 0 k ∙ get_or-drop (16 * l) xs j 0 ∙ same j k)

pub block_same : (xs ys : List ℕ) (l : ℕ) → 16 * l + 16 ≤ length xs → 16 * l + 16 ≤ length ys
    → ((j : ℕ) → j < 16 → get_or xs (16 * l + j) 0 ≡ get_or ys (16 * l + j) 0)
    → block_at xs l ≡ block_at ys l
block_same xs ys l lx ly same = block_moved xs ys l l lx ly same

-- a block as the sum of its octets
block_of_string : (octets : List ℕ) (l : ℕ) → 16 * l + 16 ≤ length octets → ((m : ℕ) → get_or octets m 0 < 256)
    → block_at octets l ≡ block_of_octets (λ j. get_or octets (16 * l + j) 0)
block_of_string octets l len small =
    let block : List ℕ = take 16 (drop (16 * l) octets) in
    let size : length block ≡ 16 =
    length-take-le 16 (drop (16 * l) octets) (omega (arith, length-drop (16 * l) octets)) in
    let at : (j : ℕ) → j < 16 → get_or block j 0 ≡ get_or octets (16 * l + j) 0 =
    λ j k. get_or-take 16 (drop (16 * l) octets) j 0 k ∙ get_or-drop (16 * l) octets j 0 in
    ap (from_be_bytes w128) (block_octets octets l)
    ∙ block_number block size (λ j k. subst (λ (v : ℕ). v < 256) (sym (at j k)) (small (16 * l + j)))
    ∙ block_equal (λ j. get_or block j 0) (λ j. get_or octets (16 * l + j) 0) at

-- octets of a number added to the first block
pub state_added : (old new : List ℕ) (state : ℕ) → 16 ≤ length old → 16 ≤ length new → ((m : ℕ) → get_or old m 0 < 256)
    → ((m : ℕ) → get_or new m 0 < 256) → state < 2 ^ 128
    → ((j : ℕ) → j < 16 → octets_in new 0 j ≡ bit_xor (octets_in old 0 j) (octet_from_left state j))
    → block_at new 0 ≡ bit_xor state (block_at old 0)
state_added old new state lo ln so sn h is =
    let a : ℕ → ℕ = λ j. get_or old (16 * 0 + j) 0 in
    block_of_string new 0 (omega arith) sn
    ∙ block_equal (λ j. get_or new (16 * 0 + j) 0) (λ j. bit_xor (a j) (octet_from_left state j)) is
    ∙ block_xor a (octet_from_left state) ∙ ap₂ bit_xor (sym (block_of_string old 0 (omega arith) so))
    (octets_whole state h) ∙ xor_comm (block_at old 0) state

-- a block of zeros
pub zero_block : (n k : ℕ) → 16 * k + 16 ≤ n → block_at (replicate n 0) k ≡ 0
zero_block n k h =
    let size : length (replicate {A = ℕ} n 0) ≡ n = length-replicate n 0 in
    sym (block_at-is (replicate n 0) (replicate 16 0) k refl (omega arith)
    (λ j l. get_or-replicate 16 j 0 0 l ∙ sym (get_or-replicate n (16 * k + j) 0 0 (omega arith))))
