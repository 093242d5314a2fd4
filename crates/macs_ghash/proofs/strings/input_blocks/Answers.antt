use Rattle.std.proofs.Common.{get_or, length, drop, take, ap, arith, sym, ◌≡◌, ◌+◌, ◌*◌, ◌-◌, ◌∙◌, ℕ}
use Rattle.std.proofs.lemmas.List.{get_or-drop, get_or-take, length-drop, length-take-le}
use Rattle.macs_gf.proofs.GhashBlocks.{get_or-padded, length-padded}
use Rattle.macs_gf.specs.Ghash.{padded_string}
use Rattle.macs_ghash.proofs.HashInput.{input-second}
use Rattle.macs_ghash.proofs.StringBlocks.{block_moved}
use Rattle.macs_ghash.proofs.strings.input_blocks.Goals as goal

pub returns-in-Some : goal.returns-in-Some
returns-in-Some over c = λ k h.
    let text = c.args.text.now in
    let size : ℕ = over.row.M in
    let j : ℕ = c.args.i - c.div_ceil-front.result in
    let left = length text - 16 * j in
    let behind = drop (16 * j) text in
    let rest = take left behind in
    let enough = c.in-Some.ensures.cases.enough in
    let whole : length rest ≡ left = length-take-le left behind (omega (arith, length-drop (16 * j) text)) in
    let len : length c.in-Some.blocks.now ≡ size = ap length c.in-Some.ensures.cases.same
    ∙ length-take-le size rest enough in
    block_moved c.in-Some.blocks.now (padded_string text) k (j + k) (omega (arith, len))
    (omega (arith, enough, whole, length-padded text))
    (λ m below. ap (λ b. get_or b (16 * k + m) 0) c.in-Some.ensures.cases.same
    ∙ get_or-take size rest (16 * k + m) 0 (omega arith)
    ∙ get_or-take left behind (16 * k + m) 0 (omega (arith, enough, whole)) ∙ get_or-drop (16 * j) text (16 * k + m) 0
    ∙ ap (λ (p : ℕ). get_or text p 0) (omega arith)
    ∙ sym (get_or-padded text (16 * (j + k) + m)))
    ∙ sym (input-second c.args.aad.now text (c.args.i + k) (j + k) (omega (arith, c.div_ceil-front.ensures))
    (omega (arith, enough, whole, c.div_ceil-front.ensures)))
