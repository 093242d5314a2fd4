use Rattle.std.proofs.Common.{get_or, length, drop, take, ap, arith, sym, ◌≡◌, ◌+◌, ◌*◌, ◌-◌, ◌∙◌}
use Rattle.std.proofs.lemmas.List.{get_or-drop, get_or-take, length-drop, length-take-le}
use Rattle.macs_gf.proofs.GhashBlocks.{block_at-is, get_or-padded, length-padded}
use Rattle.macs_gf.specs.Ghash.{padded_string}
use Rattle.macs_ghash.proofs.strings.padded_block.Goals as goal

pub returns-in-Some : goal.returns-in-Some
returns-in-Some c =
    let octets = c.args.octets.now in
    let i = c.args.i in
    let block = c.in-Some.block.now in
    let left = length octets - 16 * i in
    let behind = drop (16 * i) octets in
    let rest = take left behind in
    let enough = c.in-Some.ensures.cases.enough in
    let whole : length rest ≡ left = length-take-le left behind (omega (arith, length-drop (16 * i) octets)) in
    let size : length block ≡ 16 = ap length c.in-Some.ensures.cases.same ∙ length-take-le 16 rest enough in
    block_at-is (padded_string octets) block i size (omega (arith, enough, whole, length-padded octets))
    (λ k below. ap (λ b. get_or b k 0) c.in-Some.ensures.cases.same ∙ get_or-take 16 rest k 0 below
    ∙ get_or-take left behind k 0 (omega (arith, enough, whole)) ∙ get_or-drop (16 * i) octets k 0
    ∙ sym (get_or-padded octets (16 * i + k)))
