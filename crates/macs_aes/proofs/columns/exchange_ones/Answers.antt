use Rattle.std.proofs.Common.{[], ◌∷◌}
use Rattle.macs_aes.specs.Columns.{with_bit}
use Rattle.macs_aes.proofs.Moves.{moved, moved_from}
use Rattle.macs_aes.proofs.CrossMoves.{ones0_move, ones1_move, ones2_move, ones3_move, ones4_move, ones5_move}
use Rattle.macs_aes.proofs.CrossMoves.{ones6_move, ones7_move, ones0_from, ones1_from, ones2_from, ones3_from}
use Rattle.macs_aes.proofs.CrossMoves.{ones4_from, ones5_from, ones6_from, ones7_from}
use Rattle.macs_aes.proofs.columns.exchange_ones.Goals as goal

pub returns-clause-q0 : goal.returns-clause-q0
unfolding moved ones0_move
returns-clause-q0 g c = λ i j h k.
    let x = c.args.x.now in
    moved_from g.row.N ones0_move (λ m. with_bit 1 0 m) (λ m. with_bit 1 m 0)
    (x.q0 ∷ x.q1 ∷ x.q2 ∷ x.q3 ∷ x.q4 ∷ x.q5 ∷ x.q6 ∷ x.q7 ∷ []) i j ones0_from c.requires h k

pub returns-clause-q1 : goal.returns-clause-q1
unfolding moved ones1_move
returns-clause-q1 g c = λ i j h k.
    let x = c.args.x.now in
    moved_from g.row.N ones1_move (λ m. with_bit 1 1 m) (λ m. with_bit 1 m 1)
    (x.q0 ∷ x.q1 ∷ x.q2 ∷ x.q3 ∷ x.q4 ∷ x.q5 ∷ x.q6 ∷ x.q7 ∷ []) i j ones1_from c.requires h k

pub returns-clause-q2 : goal.returns-clause-q2
unfolding moved ones2_move
returns-clause-q2 g c = λ i j h k.
    let x = c.args.x.now in
    moved_from g.row.N ones2_move (λ m. with_bit 1 2 m) (λ m. with_bit 1 m 2)
    (x.q0 ∷ x.q1 ∷ x.q2 ∷ x.q3 ∷ x.q4 ∷ x.q5 ∷ x.q6 ∷ x.q7 ∷ []) i j ones2_from c.requires h k

pub returns-clause-q3 : goal.returns-clause-q3
unfolding moved ones3_move
returns-clause-q3 g c = λ i j h k.
    let x = c.args.x.now in
    moved_from g.row.N ones3_move (λ m. with_bit 1 3 m) (λ m. with_bit 1 m 3)
    (x.q0 ∷ x.q1 ∷ x.q2 ∷ x.q3 ∷ x.q4 ∷ x.q5 ∷ x.q6 ∷ x.q7 ∷ []) i j ones3_from c.requires h k

pub returns-clause-q4 : goal.returns-clause-q4
unfolding moved ones4_move
returns-clause-q4 g c = λ i j h k.
    let x = c.args.x.now in
    moved_from g.row.N ones4_move (λ m. with_bit 1 4 m) (λ m. with_bit 1 m 4)
    (x.q0 ∷ x.q1 ∷ x.q2 ∷ x.q3 ∷ x.q4 ∷ x.q5 ∷ x.q6 ∷ x.q7 ∷ []) i j ones4_from c.requires h k

pub returns-clause-q5 : goal.returns-clause-q5
unfolding moved ones5_move
returns-clause-q5 g c = λ i j h k.
    let x = c.args.x.now in
    moved_from g.row.N ones5_move (λ m. with_bit 1 5 m) (λ m. with_bit 1 m 5)
    (x.q0 ∷ x.q1 ∷ x.q2 ∷ x.q3 ∷ x.q4 ∷ x.q5 ∷ x.q6 ∷ x.q7 ∷ []) i j ones5_from c.requires h k

pub returns-clause-q6 : goal.returns-clause-q6
unfolding moved ones6_move
returns-clause-q6 g c = λ i j h k.
    let x = c.args.x.now in
    moved_from g.row.N ones6_move (λ m. with_bit 1 6 m) (λ m. with_bit 1 m 6)
    (x.q0 ∷ x.q1 ∷ x.q2 ∷ x.q3 ∷ x.q4 ∷ x.q5 ∷ x.q6 ∷ x.q7 ∷ []) i j ones6_from c.requires h k

pub returns-clause-q7 : goal.returns-clause-q7
unfolding moved ones7_move
returns-clause-q7 g c = λ i j h k.
    let x = c.args.x.now in
    moved_from g.row.N ones7_move (λ m. with_bit 1 7 m) (λ m. with_bit 1 m 7)
    (x.q0 ∷ x.q1 ∷ x.q2 ∷ x.q3 ∷ x.q4 ∷ x.q5 ∷ x.q6 ∷ x.q7 ∷ []) i j ones7_from c.requires h k
