use Rattle.std.proofs.Common.{◌∙◌, [], ◌∷◌}
use Rattle.macs_aes.specs.Blocks.{octet_basis}
use Rattle.macs_aes.specs.Rows.{shifted}
use Rattle.macs_aes.proofs.Circuit.{octet_of, octet_was}
use Rattle.macs_aes.proofs.EachBlock.{shifted-lt, same_eight}
use Rattle.macs_aes.proofs.rows.shift.Goals as goal

pub returns : goal.returns
returns g c = λ i j h k.
    let x = c.x.inside in
    octet_of g.row.N octet_basis (c.shift_plane.result ∷ c.shift_plane-2.result ∷ c.shift_plane-3.result
    ∷ c.shift_plane-4.result ∷ c.shift_plane-5.result ∷ c.shift_plane-6.result ∷ c.shift_plane-7.result
    ∷ c.shift_plane-8.result ∷ []) i j h k
    ∙ same_eight c.shift_plane.result c.shift_plane-2.result c.shift_plane-3.result c.shift_plane-4.result
    c.shift_plane-5.result c.shift_plane-6.result c.shift_plane-7.result c.shift_plane-8.result
    x.p0 x.p1 x.p2 x.p3 x.p4 x.p5 x.p6 x.p7 i j (shifted j)
    (c.shift_plane.ensures.bits i j h k) (c.shift_plane-2.ensures.bits i j h k) (c.shift_plane-3.ensures.bits i j h k)
    (c.shift_plane-4.ensures.bits i j h k) (c.shift_plane-5.ensures.bits i j h k) (c.shift_plane-6.ensures.bits i j
    h k) (c.shift_plane-7.ensures.bits i j h k) (c.shift_plane-8.ensures.bits i j h k)
    ∙ octet_was g.row.N octet_basis (x.p0 ∷ x.p1 ∷ x.p2 ∷ x.p3 ∷ x.p4 ∷ x.p5 ∷ x.p6 ∷ x.p7 ∷ []) c.args.x.now i
    (shifted j) c.x.view_is h (shifted-lt j k)
