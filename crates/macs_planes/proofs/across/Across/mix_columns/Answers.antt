use Rattle.std.proofs.Common.{◌+◌, ◌*◌, ◌/◌, ◌%◌, ◌∙◌, ℕ, ap, ap₂, map, refl}
use Rattle.macs_aes.specs.Cipher.{mix_columns, mixed_octet}
use Rattle.macs_planes.specs.Across.{blocks_across, octet_at, row_below, turned}
use Rattle.macs_planes.proofs.Turned.{blocks_mixed, mixed_block, mixed_block_is}
use Rattle.macs_planes.proofs.AcrossLanes.{across_step_at, place_of_block, sixteen_of_block}
use Rattle.macs_planes.specs.declared.places.TheConstants.{LANES}
use Rattle.macs_planes.proofs.across.Across.mix_columns.Goals as goal

pub returns : goal.returns
returns c =
    let rows = c.self.inside.rows in
    let t : ℕ = c.args.turns in
    ap (map (turned t)) (across_step_at LANES (mixed_block t) (λ g j. mixed_octet (g j) (g (row_below t 1 j))
    (g (row_below t 2 j)) (g (row_below t 3 j))) c.mixed-rows.result rows refl (mixed_block_is t c.requires)
    (λ n j h k within bit. c.mixed-rows.ensures (16 * (n / 8) + j) (n % 8) within bit
    ∙ ap₂ (λ (q r : ℕ).
    mixed_octet (octet_at rows (16 * (n / 8) + j) (n % 8)) (octet_at rows (16 * q + row_below t 1 r) (n % 8))
    (octet_at rows (16 * q + row_below t 2 r) (n % 8)) (octet_at rows (16 * q + row_below t 3 r) (n % 8)))
    (sixteen_of_block n j k) (place_of_block n j k)))
    ∙ blocks_mixed t c.requires (blocks_across LANES rows)
    ∙ ap (λ b. map mix_columns (map (turned t) b)) c.self.view_is
