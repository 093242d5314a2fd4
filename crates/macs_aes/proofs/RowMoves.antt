-- The moves of rows, as data.
use Rattle.std.proofs.Common.{◌≡◌, refl}
use Rattle.macs_aes.specs.Rows.{below, shifted}
use Rattle.macs_aes.proofs.Moves.{Move, From, Down, Up, Mask, Plus, from_places, is_same, kept, lone, places, risen}
use Rattle.macs_aes.proofs.Moves.{sources, toggled}

unfoldable pub lift_plane_moves : Move
lift_plane_moves = Plus (Mask 0x7777 (Down 1 (From 0))) (Mask 0x8888 (Up 3 (From 0)))

pub lift_plane_from : from_places lift_plane_moves ≡ places (λ _. 0) (below 1)
unfolding from_places is_same kept lone places risen sources toggled lift_plane_moves below
lift_plane_from = refl

unfoldable pub lift_plane_twice_moves : Move
lift_plane_twice_moves = Plus (Mask 0x3333 (Down 2 (From 0))) (Mask 0xcccc (Up 2 (From 0)))

pub lift_plane_twice_from : from_places lift_plane_twice_moves ≡ places (λ _. 0) (below 2)
unfolding from_places is_same kept lone places risen sources toggled lift_plane_twice_moves below
lift_plane_twice_from = refl

unfoldable pub rows_swapped : Move
rows_swapped = Plus (Mask 0x3333 (From 0)) (Mask 0xcccc (Plus (Mask 0x00ff (Down 8 (From 0))) (Up 8 (From 0))))

unfoldable pub shift_plane_moves : Move
shift_plane_moves =
    Plus (Mask 0x5555 rows_swapped) (Mask 0xaaaa (Plus (Mask 0x0fff (Down 4 rows_swapped)) (Up 12 rows_swapped)))

pub shift_plane_from : from_places shift_plane_moves ≡ places (λ _. 0) shifted
unfolding from_places is_same kept lone places risen sources toggled rows_swapped shift_plane_moves shifted
shift_plane_from = refl
