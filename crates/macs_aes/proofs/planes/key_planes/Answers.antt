use Rattle.std.proofs.Common.{◌∙◌, ℕ, List, [], ◌∷◌, replicate, slice_index}
use Rattle.macs_aes.specs.Blocks.{octet_basis}
use Rattle.macs_aes.proofs.Circuit.{octet_of}
use Rattle.macs_aes.proofs.Loaded.{splat_octet}
use Rattle.macs_aes.proofs.planes.key_planes.Goals as goal

pub returns : goal.returns
returns g c = λ i j h k.
    let w : List ℕ = c.args.words.now in
    let n : ℕ = g.row.N in
    octet_of n octet_basis (replicate n (slice_index w 0) ∷ replicate n (slice_index w 1)
    ∷ replicate n (slice_index w 2) ∷ replicate n (slice_index w 3) ∷ replicate n (slice_index w 4)
    ∷ replicate n (slice_index w 5) ∷ replicate n (slice_index w 6) ∷ replicate n (slice_index w 7) ∷ []) i j h k
    ∙ splat_octet n (slice_index w 0) (slice_index w 1) (slice_index w 2) (slice_index w 3) (slice_index w 4)
    (slice_index w 5) (slice_index w 6) (slice_index w 7) i j h
