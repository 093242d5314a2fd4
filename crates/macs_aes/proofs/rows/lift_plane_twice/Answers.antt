use Rattle.std.proofs.Common.{[], ◌∷◌}
use Rattle.macs_aes.specs.Rows.{below}
use Rattle.macs_aes.proofs.Moves.{moved, moved_from}
use Rattle.macs_aes.proofs.RowMoves.{lift_plane_twice_from, lift_plane_twice_moves}
use Rattle.macs_aes.proofs.rows.lift_plane_twice.Goals as goal

pub returns-clause-bits : goal.returns-clause-bits
unfolding moved lift_plane_twice_moves
returns-clause-bits g c = λ i j h k. moved_from g.row.N lift_plane_twice_moves (λ _. 0) (below 2) (c.args.x ∷ []) i j
    lift_plane_twice_from (c.requires, tt) h k
