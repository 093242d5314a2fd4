use Rattle.std.proofs.Common.{◌+◌, ◌*◌, ◌/◌, ◌%◌, ◌∙◌, ap, bit_xor, refl, slice_index}
use Rattle.macs_aes.specs.Cipher.{xor_tables}
use Rattle.macs_planes.specs.Across.{octet_at}
use Rattle.macs_aes.specs.RoundKeys.{keyed}
use Rattle.macs_planes.proofs.AcrossLanes.{across_step_at, bit_within, lane_within, place_of_block, xor_key_is}
use Rattle.macs_planes.specs.declared.places.TheConstants.{LANES}
use Rattle.macs_planes.proofs.across.Across.add_round_key.Goals as goal

pub returns : goal.returns
returns c =
    let rows = c.self.inside.rows in
    λ k is.
    across_step_at LANES (λ s. xor_tables s k) (λ g j. bit_xor (g j) (slice_index k j)) c.xor-rows.result rows refl
    (xor_key_is k)
    (λ n j h l within bit. c.xor-rows.ensures ((16 * (n / 8) + j) / 2) (8 * ((16 * (n / 8) + j) % 2) + n % 8)
    (lane_within LANES (16 * (n / 8) + j) within) (bit_within (16 * (n / 8) + j) (n % 8) bit)
    ∙ ap (bit_xor (octet_at rows (16 * (n / 8) + j) (n % 8))) (ap (λ b. octet_at b (16 * (n / 8) + j) (n % 8))
    c.planes.ensures ∙ is.octets (16 * (n / 8) + j) (n % 8) within bit ∙ ap (slice_index k) (place_of_block n j l)))
    ∙ ap (keyed k) c.self.view_is
