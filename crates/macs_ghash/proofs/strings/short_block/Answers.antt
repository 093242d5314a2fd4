use Rattle.std.proofs.Common.{◌+◌, ◌*◌, ◌∙◌, arith, inl, inr, sym}
use Rattle.std.proofs.lemmas.Bool.{cases_lt}
use Rattle.std.proofs.lemmas.List.{get_or_past}
use Rattle.macs_gf.proofs.GhashBlocks.{block_at-is, get_or-padded, length-padded}
use Rattle.macs_gf.specs.Ghash.{padded_string}
use Rattle.macs_ghash.proofs.strings.short_block.Goals as goal

pub returns : goal.returns
returns c =
    let octets = c.args.octets.now in
    let i = c.args.i in
    let held = c.loop-k.invariant in
    block_at-is (padded_string octets) c.loop-k.block i held.size (omega (arith, length-padded octets))
    (λ k below. elim (cases_lt k c.loop-k.k) [
      | inl read ↦ held.done k read ∙ sym (get_or-padded octets (16 * i + k))
      | inr past ↦ held.left k past
          ∙ sym (get_or-padded octets (16 * i + k) ∙ get_or_past octets (16 * i + k) 0 (omega arith))
    ])
