use Rattle.std.proofs.Common.{◌≡◌, ◌*◌, ◌/◌, ◌%◌, ◌^◌, ℕ, List, [], ◌∷◌, get_or, slice_index}
use Rattle.macs_aes.specs.Blocks.{zeros}
use Rattle.macs_aes.proofs.Bytes.{high_byte, low_byte}
use Rattle.macs_gf.proofs.Sixteen.{below_sixteen}
use Rattle.macs_aes.proofs.columns.row.Goals as goal

pub returns-clause-octets : goal.returns-clause-octets
returns-clause-octets g c =
    let x = c.args.x.now in
    let lanes : List (List ℕ) = x.q0 ∷ x.q1 ∷ x.q2 ∷ x.q3 ∷ x.q4 ∷ x.q5 ∷ x.q6 ∷ x.q7 ∷ [] in
    let octets : List ℕ = get_or c.to_le_bytes.result 0 0 ∷ get_or c.to_le_bytes-2.result 0 0
    ∷ get_or c.to_le_bytes-3.result 0 0 ∷ get_or c.to_le_bytes-4.result 0 0 ∷ get_or c.to_le_bytes-5.result 0 0
    ∷ get_or c.to_le_bytes-6.result 0 0 ∷ get_or c.to_le_bytes-7.result 0 0 ∷ get_or c.to_le_bytes-8.result 0 0
    ∷ get_or c.to_le_bytes.result 1 0 ∷ get_or c.to_le_bytes-2.result 1 0 ∷ get_or c.to_le_bytes-3.result 1 0
    ∷ get_or c.to_le_bytes-4.result 1 0 ∷ get_or c.to_le_bytes-5.result 1 0 ∷ get_or c.to_le_bytes-6.result 1 0
    ∷ get_or c.to_le_bytes-7.result 1 0 ∷ get_or c.to_le_bytes-8.result 1 0 ∷ [] in
    below_sixteen
    (λ j. slice_index octets j ≡ get_or (get_or lanes (j % 8) (zeros g.row.N)) c.args.i 0 / 2 ^ (8 * (j / 8)) % 256)
    (low_byte c.to_le_bytes.result (get_or x.q0 c.args.i 0) c.to_le_bytes.ensures) (low_byte c.to_le_bytes-2.result
    (get_or x.q1 c.args.i 0) c.to_le_bytes-2.ensures) (low_byte c.to_le_bytes-3.result (get_or x.q2 c.args.i 0)
    c.to_le_bytes-3.ensures) (low_byte c.to_le_bytes-4.result (get_or x.q3 c.args.i 0) c.to_le_bytes-4.ensures)
    (low_byte c.to_le_bytes-5.result (get_or x.q4 c.args.i 0) c.to_le_bytes-5.ensures)
    (low_byte c.to_le_bytes-6.result (get_or x.q5 c.args.i 0) c.to_le_bytes-6.ensures)
    (low_byte c.to_le_bytes-7.result (get_or x.q6 c.args.i 0) c.to_le_bytes-7.ensures)
    (low_byte c.to_le_bytes-8.result (get_or x.q7 c.args.i 0) c.to_le_bytes-8.ensures)
    (high_byte c.to_le_bytes.result (get_or x.q0 c.args.i 0) c.to_le_bytes.ensures) (high_byte c.to_le_bytes-2.result
    (get_or x.q1 c.args.i 0) c.to_le_bytes-2.ensures) (high_byte c.to_le_bytes-3.result (get_or x.q2 c.args.i 0)
    c.to_le_bytes-3.ensures) (high_byte c.to_le_bytes-4.result (get_or x.q3 c.args.i 0) c.to_le_bytes-4.ensures)
    (high_byte c.to_le_bytes-5.result (get_or x.q4 c.args.i 0) c.to_le_bytes-5.ensures)
    (high_byte c.to_le_bytes-6.result (get_or x.q5 c.args.i 0) c.to_le_bytes-6.ensures)
    (high_byte c.to_le_bytes-7.result (get_or x.q6 c.args.i 0) c.to_le_bytes-7.ensures)
    (high_byte c.to_le_bytes-8.result (get_or x.q7 c.args.i 0) c.to_le_bytes-8.ensures)
