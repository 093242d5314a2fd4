use Rattle.std.proofs.Common.{[], ◌∷◌}
use Rattle.macs_aes.specs.Columns.{with_bit}
use Rattle.macs_aes.proofs.Moves.{moved, moved_from}
use Rattle.macs_aes.proofs.CrossMoves.{twos0_move, twos1_move, twos2_move, twos3_move, twos4_move, twos5_move}
use Rattle.macs_aes.proofs.CrossMoves.{twos6_move, twos7_move, twos0_from, twos1_from, twos2_from, twos3_from}
use Rattle.macs_aes.proofs.CrossMoves.{twos4_from, twos5_from, twos6_from, twos7_from}
use Rattle.macs_aes.proofs.columns.exchange_twos.Goals as goal

pub returns-clause-q0 : goal.returns-clause-q0
unfolding moved twos0_move
returns-clause-q0 g c = λ i j h k.
    let x = c.args.x.now in
    moved_from g.row.N twos0_move (λ m. with_bit 2 0 m) (λ m. with_bit 2 m 0)
    (x.q0 ∷ x.q1 ∷ x.q2 ∷ x.q3 ∷ x.q4 ∷ x.q5 ∷ x.q6 ∷ x.q7 ∷ []) i j twos0_from c.requires h k

pub returns-clause-q1 : goal.returns-clause-q1
unfolding moved twos1_move
returns-clause-q1 g c = λ i j h k.
    let x = c.args.x.now in
    moved_from g.row.N twos1_move (λ m. with_bit 2 1 m) (λ m. with_bit 2 m 1)
    (x.q0 ∷ x.q1 ∷ x.q2 ∷ x.q3 ∷ x.q4 ∷ x.q5 ∷ x.q6 ∷ x.q7 ∷ []) i j twos1_from c.requires h k

pub returns-clause-q2 : goal.returns-clause-q2
unfolding moved twos2_move
returns-clause-q2 g c = λ i j h k.
    let x = c.args.x.now in
    moved_from g.row.N twos2_move (λ m. with_bit 2 2 m) (λ m. with_bit 2 m 2)
    (x.q0 ∷ x.q1 ∷ x.q2 ∷ x.q3 ∷ x.q4 ∷ x.q5 ∷ x.q6 ∷ x.q7 ∷ []) i j twos2_from c.requires h k

pub returns-clause-q3 : goal.returns-clause-q3
unfolding moved twos3_move
returns-clause-q3 g c = λ i j h k.
    let x = c.args.x.now in
    moved_from g.row.N twos3_move (λ m. with_bit 2 3 m) (λ m. with_bit 2 m 3)
    (x.q0 ∷ x.q1 ∷ x.q2 ∷ x.q3 ∷ x.q4 ∷ x.q5 ∷ x.q6 ∷ x.q7 ∷ []) i j twos3_from c.requires h k

pub returns-clause-q4 : goal.returns-clause-q4
unfolding moved twos4_move
returns-clause-q4 g c = λ i j h k.
    let x = c.args.x.now in
    moved_from g.row.N twos4_move (λ m. with_bit 2 4 m) (λ m. with_bit 2 m 4)
    (x.q0 ∷ x.q1 ∷ x.q2 ∷ x.q3 ∷ x.q4 ∷ x.q5 ∷ x.q6 ∷ x.q7 ∷ []) i j twos4_from c.requires h k

pub returns-clause-q5 : goal.returns-clause-q5
unfolding moved twos5_move
returns-clause-q5 g c = λ i j h k.
    let x = c.args.x.now in
    moved_from g.row.N twos5_move (λ m. with_bit 2 5 m) (λ m. with_bit 2 m 5)
    (x.q0 ∷ x.q1 ∷ x.q2 ∷ x.q3 ∷ x.q4 ∷ x.q5 ∷ x.q6 ∷ x.q7 ∷ []) i j twos5_from c.requires h k

pub returns-clause-q6 : goal.returns-clause-q6
unfolding moved twos6_move
returns-clause-q6 g c = λ i j h k.
    let x = c.args.x.now in
    moved_from g.row.N twos6_move (λ m. with_bit 2 6 m) (λ m. with_bit 2 m 6)
    (x.q0 ∷ x.q1 ∷ x.q2 ∷ x.q3 ∷ x.q4 ∷ x.q5 ∷ x.q6 ∷ x.q7 ∷ []) i j twos6_from c.requires h k

pub returns-clause-q7 : goal.returns-clause-q7
unfolding moved twos7_move
returns-clause-q7 g c = λ i j h k.
    let x = c.args.x.now in
    moved_from g.row.N twos7_move (λ m. with_bit 2 7 m) (λ m. with_bit 2 m 7)
    (x.q0 ∷ x.q1 ∷ x.q2 ∷ x.q3 ∷ x.q4 ∷ x.q5 ∷ x.q6 ∷ x.q7 ∷ []) i j twos7_from c.requires h k
