use Rattle.std.proofs.Common.{◌%◌, ◌∙◌, ℕ, ap, arith, map}
use Rattle.macs_aes.specs.Cipher.{mix_columns}
use Rattle.macs_planes.specs.Across.{turned}
use Rattle.macs_aes.specs.RoundKeys.{keyed}
use Rattle.macs_planes.proofs.Turned.{all_keyed}
use Rattle.macs_planes.proofs.group.take_round.Goals as goal
use Rattle.macs_planes.proofs.group.take_round.Goals.{then-round-rounds, else-round-rounds}

pub returns-clause-inner : goal.returns-clause-inner
returns-clause-inner c = λ k is more. elim c.if-round-rounds.branch [
  | then-round-rounds w ↦
      let t : ℕ = c.args.round % 4 in
      ap (map (turned t)) (c.add_round_key.ensures k is) ∙ all_keyed t k c.if-round-rounds.blocks
      ∙ ap (keyed (turned t k)) (ap (map (turned t)) w.blocks-is ∙ w.mix_columns.ensures
      ∙ ap (λ b. map mix_columns (map (turned t) b)) c.sub_bytes.ensures)
  | else-round-rounds w ↦ absurd (omega (arith, more, w.if-round-rounds))
]
