use Rattle.std.proofs.Common.{[], ◌∷◌}
use Rattle.macs_aes.specs.Columns.{with_bit}
use Rattle.macs_aes.proofs.Moves.{moved, moved_from}
use Rattle.macs_aes.proofs.CrossMoves.{fours0_move, fours1_move, fours2_move, fours3_move, fours4_move, fours5_move}
use Rattle.macs_aes.proofs.CrossMoves.{fours6_move, fours7_move, fours0_from, fours1_from, fours2_from, fours3_from}
use Rattle.macs_aes.proofs.CrossMoves.{fours4_from, fours5_from, fours6_from, fours7_from}
use Rattle.macs_aes.proofs.columns.exchange_fours.Goals as goal

pub returns-clause-q0 : goal.returns-clause-q0
unfolding moved fours0_move
returns-clause-q0 g c = λ i j h k.
    let x = c.args.x.now in
    moved_from g.row.N fours0_move (λ m. with_bit 4 0 m) (λ m. with_bit 4 m 0)
    (x.q0 ∷ x.q1 ∷ x.q2 ∷ x.q3 ∷ x.q4 ∷ x.q5 ∷ x.q6 ∷ x.q7 ∷ []) i j fours0_from c.requires h k

pub returns-clause-q1 : goal.returns-clause-q1
unfolding moved fours1_move
returns-clause-q1 g c = λ i j h k.
    let x = c.args.x.now in
    moved_from g.row.N fours1_move (λ m. with_bit 4 1 m) (λ m. with_bit 4 m 1)
    (x.q0 ∷ x.q1 ∷ x.q2 ∷ x.q3 ∷ x.q4 ∷ x.q5 ∷ x.q6 ∷ x.q7 ∷ []) i j fours1_from c.requires h k

pub returns-clause-q2 : goal.returns-clause-q2
unfolding moved fours2_move
returns-clause-q2 g c = λ i j h k.
    let x = c.args.x.now in
    moved_from g.row.N fours2_move (λ m. with_bit 4 2 m) (λ m. with_bit 4 m 2)
    (x.q0 ∷ x.q1 ∷ x.q2 ∷ x.q3 ∷ x.q4 ∷ x.q5 ∷ x.q6 ∷ x.q7 ∷ []) i j fours2_from c.requires h k

pub returns-clause-q3 : goal.returns-clause-q3
unfolding moved fours3_move
returns-clause-q3 g c = λ i j h k.
    let x = c.args.x.now in
    moved_from g.row.N fours3_move (λ m. with_bit 4 3 m) (λ m. with_bit 4 m 3)
    (x.q0 ∷ x.q1 ∷ x.q2 ∷ x.q3 ∷ x.q4 ∷ x.q5 ∷ x.q6 ∷ x.q7 ∷ []) i j fours3_from c.requires h k

pub returns-clause-q4 : goal.returns-clause-q4
unfolding moved fours4_move
returns-clause-q4 g c = λ i j h k.
    let x = c.args.x.now in
    moved_from g.row.N fours4_move (λ m. with_bit 4 4 m) (λ m. with_bit 4 m 4)
    (x.q0 ∷ x.q1 ∷ x.q2 ∷ x.q3 ∷ x.q4 ∷ x.q5 ∷ x.q6 ∷ x.q7 ∷ []) i j fours4_from c.requires h k

pub returns-clause-q5 : goal.returns-clause-q5
unfolding moved fours5_move
returns-clause-q5 g c = λ i j h k.
    let x = c.args.x.now in
    moved_from g.row.N fours5_move (λ m. with_bit 4 5 m) (λ m. with_bit 4 m 5)
    (x.q0 ∷ x.q1 ∷ x.q2 ∷ x.q3 ∷ x.q4 ∷ x.q5 ∷ x.q6 ∷ x.q7 ∷ []) i j fours5_from c.requires h k

pub returns-clause-q6 : goal.returns-clause-q6
unfolding moved fours6_move
returns-clause-q6 g c = λ i j h k.
    let x = c.args.x.now in
    moved_from g.row.N fours6_move (λ m. with_bit 4 6 m) (λ m. with_bit 4 m 6)
    (x.q0 ∷ x.q1 ∷ x.q2 ∷ x.q3 ∷ x.q4 ∷ x.q5 ∷ x.q6 ∷ x.q7 ∷ []) i j fours6_from c.requires h k

pub returns-clause-q7 : goal.returns-clause-q7
unfolding moved fours7_move
returns-clause-q7 g c = λ i j h k.
    let x = c.args.x.now in
    moved_from g.row.N fours7_move (λ m. with_bit 4 7 m) (λ m. with_bit 4 m 7)
    (x.q0 ∷ x.q1 ∷ x.q2 ∷ x.q3 ∷ x.q4 ∷ x.q5 ∷ x.q6 ∷ x.q7 ∷ []) i j fours7_from c.requires h k
