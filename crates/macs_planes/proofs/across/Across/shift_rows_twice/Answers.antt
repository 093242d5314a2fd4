use Rattle.std.proofs.Common.{◌+◌, ◌*◌, ◌/◌, ◌%◌, ◌<◌, ◌∙◌, ℕ, ap, ap₂, arith, map, refl, subst, sym}
use Rattle.macs_planes.specs.Across.{octet_at, turned}
use Rattle.macs_aes.specs.Rows.{shifted}
use Rattle.macs_planes.proofs.Shuffles.{shifted_lt, twice_place}
use Rattle.macs_planes.proofs.Turned.{turned_twice_is}
use Rattle.macs_planes.proofs.AcrossLanes.{across_step_at, place_of_block, sixteen_of_block}
use Rattle.macs_planes.specs.declared.places.TheConstants.{LANES}
use Rattle.macs_planes.proofs.across.Across.shift_rows_twice.Goals as goal

pub moved_each-rows-requires : goal.moved_each-rows-requires
moved_each-rows-requires c = λ m h. subst (λ (p : ℕ). p < 16) (sym (twice_place m h)) (shifted_lt (shifted (m % 16)))

pub returns : goal.returns
returns c =
    let rows = c.self.inside.rows in
    across_step_at LANES (turned 2) (λ g j. g (shifted (shifted j))) c.moved_each-rows.result rows refl turned_twice_is
    (λ n j h k within bit. c.moved_each-rows.ensures (16 * (n / 8) + j) (n % 8) within bit
    ∙ ap₂ (λ (q p : ℕ). octet_at rows (16 * q + p) (n % 8)) (sixteen_of_block n j k) (twice_place (16 * (n / 8) + j)
    (omega (arith, within)) ∙ ap (λ (r : ℕ). shifted (shifted r)) (place_of_block n j k)))
    ∙ ap (map (turned 2)) c.self.view_is
