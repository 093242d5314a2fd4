use Rattle.std.proofs.Common.{◌+◌, ◌*◌, ◌/◌, ◌%◌, ◌∙◌, ap, map, refl}
use Rattle.macs_aes.specs.Cipher.{sub_bytes}
use Rattle.macs_aes.specs.SBox.{s_box}
use Rattle.macs_aes.proofs.EachBlock.{sub_bytes_is}
use Rattle.macs_planes.proofs.AcrossLanes.{across_step_at, bit_within, lane_within}
use Rattle.macs_planes.specs.declared.places.TheConstants.{LANES}
use Rattle.macs_planes.proofs.across.Across.sub_bytes.Goals as goal

pub returns : goal.returns
returns c =
    let rows = c.self.inside.rows in
    across_step_at LANES sub_bytes (λ g j. s_box (g j)) c.s_boxes-rows.result rows refl sub_bytes_is
    (λ n j h k within bit. c.s_boxes-rows.ensures ((16 * (n / 8) + j) / 2) (8 * ((16 * (n / 8) + j) % 2) + n % 8)
    (lane_within LANES (16 * (n / 8) + j) within) (bit_within (16 * (n / 8) + j) (n % 8) bit))
    ∙ ap (map sub_bytes) c.self.view_is
