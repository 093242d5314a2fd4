use Rattle.std.proofs.Common.{[], ◌∷◌}
use Rattle.macs_aes.specs.Rows.{shifted}
use Rattle.macs_aes.proofs.Moves.{moved, moved_from}
use Rattle.macs_aes.proofs.RowMoves.{rows_swapped, shift_plane_from, shift_plane_moves}
use Rattle.macs_aes.proofs.rows.shift_plane.Goals as goal

pub returns-clause-bits : goal.returns-clause-bits
unfolding moved rows_swapped shift_plane_moves
returns-clause-bits g c = λ i j h k.
    moved_from g.row.N shift_plane_moves (λ _. 0) (shifted) (c.args.x ∷ []) i j shift_plane_from (c.requires, tt) h k
