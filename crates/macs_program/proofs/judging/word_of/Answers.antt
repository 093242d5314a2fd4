use Rattle.std.proofs.Common.{◌≤◌, ℕ, List, length, subst, sym}
use Rattle.macs_program.proofs.EachLine.{word-short}
use Rattle.macs_program.proofs.judging.word_of.Goals as goal

pub returns-clause-short : goal.returns-clause-short
returns-clause-short c =
    subst (λ (word : List ℕ). length word ≤ 12) (sym c.verdict_words.ensures) (word-short c.args.verdict)
