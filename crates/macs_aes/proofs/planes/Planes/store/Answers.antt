use Rattle.std.proofs.Common.{◌∙◌, ℕ, ◌<◌, List, [], ◌∷◌, get_or, sym, arith}
use Rattle.std.proofs.lemmas.List.{length-set}
use Rattle.macs_aes.specs.Blocks.{octet_basis, zeros}
use Rattle.macs_aes.specs.Columns.{IsCrossed}
use Rattle.macs_aes.proofs.Bytes.{block_was, rows_all, rows_more, stored_row}
use Rattle.macs_gf.proofs.Sixteen.{below_eight}
use Rattle.macs_aes.proofs.planes.Planes.store.Goals as goal

pub loop-i-preserved : goal.loop-i-preserved
loop-i-preserved g c =
    let x = c.self.inside in
    let planes : List (List ℕ) = x.p0 ∷ x.p1 ∷ x.p2 ∷ x.p3 ∷ x.p4 ∷ x.p5 ∷ x.p6 ∷ x.p7 ∷ [] in
    let r = c.cross-rows.result in
    let e = c.cross-rows.ensures in
    let xs : List (List ℕ) = r.q0 ∷ r.q1 ∷ r.q2 ∷ r.q3 ∷ r.q4 ∷ r.q5 ∷ r.q6 ∷ r.q7 ∷ [] in
    let cs : (m : ℕ) → m < 8 → IsCrossed g.row.N m planes (get_or xs m (zeros g.row.N)) =
    below_eight (λ m. IsCrossed g.row.N m planes (get_or xs m (zeros g.row.N))) e.q0 e.q1 e.q2 e.q3 e.q4 e.q5
    e.q6 e.q7 in
    let i : ℕ = c.loop-i.i in
    let low : i < g.row.N = omega arith in
    let within = c.loop-i.invariant.size in
    record {
      size = length-set c.loop-i.stored i c.row.result ∙ c.loop-i.invariant.size;
      done = rows_more c.loop-i.stored c.args.self.now i c.row.result (omega (arith, within)) c.loop-i.invariant.done
          (stored_row g.row.N x.p0 x.p1 x.p2 x.p3 x.p4 x.p5 x.p6 x.p7 xs c.row.result i low cs c.row.ensures.size
          c.row.ensures.octets
          ∙ sym (block_was g.row.N octet_basis planes c.args.self.now i c.self.view_is low));
    }

pub returns : goal.returns
returns g c =
    let x = c.self.inside in
    rows_all g.row.N octet_basis (x.p0 ∷ x.p1 ∷ x.p2 ∷ x.p3 ∷ x.p4 ∷ x.p5 ∷ x.p6 ∷ x.p7 ∷ []) c.args.self.now
    c.loop-i.stored c.self.view_is c.loop-i.invariant.size
    (λ k h. c.loop-i.invariant.done k (omega arith))
