use Rattle.std.proofs.Common.{◌+◌, ◌*◌, ◌/◌, ◌%◌, ◌<◌, ◌∙◌, ℕ, List, [], ◌∷◌, ap, arith, get_or, refl, slice_index}
use Rattle.std.proofs.Common.{subst, sym}
use Rattle.macs_planes.specs.Across.{octet_of_words, place_back}
use Rattle.macs_aes.specs.Blocks.{octet_basis}
use Rattle.macs_planes.proofs.AcrossLanes.{bit_within, lane_within, sixteen_within}
use Rattle.macs_planes.proofs.BitPlanes.{octet_of_planes}
use Rattle.macs_aes.proofs.Circuit.{octet_of}
use Rattle.macs_planes.proofs.Shuffles.{back_place, place_back-lt, same_sixteen}
use Rattle.macs_planes.proofs.Turned.{back_at}
use Rattle.macs_planes.specs.declared.places.TheConstants.{LANES}
use Rattle.macs_planes.proofs.key_planes.KeyPlanes.of.Goals as goal

pub moved-words-requires : goal.moved-words-requires
moved-words-requires c = λ m h.
    subst (λ (p : ℕ). p < 16) (sym (back_place c.args.turns m c.requires h)) (place_back-lt c.args.turns (m % 16))

pub returns : goal.returns
returns c =
    let t : ℕ = c.args.turns in
    let key = c.args.key.now in
    let octets = c.octets_of_words-octets.result in
    let planes : List (List ℕ) = c.bit_plane.result ∷ c.bit_plane-2.result ∷ c.bit_plane-3.result ∷ c.bit_plane-4.result
    ∷ c.bit_plane-5.result ∷ c.bit_plane-6.result ∷ c.bit_plane-7.result ∷ c.bit_plane-8.result ∷ [] in
    record {
      are = (
        c.bit_plane.ensures.lanes,
        (
          c.bit_plane-2.ensures.lanes,
          (
            c.bit_plane-3.ensures.lanes,
            (
              c.bit_plane-4.ensures.lanes,
              (
                c.bit_plane-5.ensures.lanes,
                (c.bit_plane-6.ensures.lanes, (c.bit_plane-7.ensures.lanes, (c.bit_plane-8.ensures.lanes, tt))),
              ),
            ),
          ),
        ),
      );
      octets = λ m n h k.
          let p : ℕ = place_back t (m % 16) in
          let small : p < 16 = place_back-lt t (m % 16) in
          let from : ℕ = 16 * (m / 16) + p in
          octet_of LANES octet_basis planes (m / 2) (8 * (m % 2) + n) (lane_within LANES m h) (bit_within m n k)
          ∙ octet_of_planes c.bit_plane.result c.bit_plane-2.result c.bit_plane-3.result c.bit_plane-4.result
          c.bit_plane-5.result c.bit_plane-6.result c.bit_plane-7.result c.bit_plane-8.result (get_or octets m 0) m
          n (c.bit_plane.ensures.small m h) k
          (c.bit_plane.ensures.octets m h) (c.bit_plane-2.ensures.octets m h) (c.bit_plane-3.ensures.octets m h)
          (c.bit_plane-4.ensures.octets m h) (c.bit_plane-5.ensures.octets m h) (c.bit_plane-6.ensures.octets m h)
          (c.bit_plane-7.ensures.octets m h) (c.bit_plane-8.ensures.octets m h)
          ∙ c.octets_of_words-octets.ensures m h
          ∙ c.moved-words.ensures.octets m h
          ∙ ap (λ (r : ℕ). octet_of_words c.repeated.result (16 * (m / 16) + r))
          (back_place t m c.requires (omega arith))
          ∙ c.repeated.ensures.octets from (sixteen_within LANES m p refl h small)
          ∙ ap (slice_index key) (same_sixteen m p small)
          ∙ sym (back_at t key (m % 16) (omega arith));
    }
