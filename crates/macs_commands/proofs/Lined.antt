-- Words that are written on a paper, one after another.
use Rattle.std.proofs.Common.{◌∙◌, ◌++◌, List, ℕ, codes, ap, append_assoc}
use Rattle.macs_commands.specs.CommandLines.{spaced}
use Rattle.macs_commands.specs.Papers.{Sheet, Writes, written}
use Rattle.macs_commands.proofs.Written.{written_both}

-- a text, and then another
pub both_written : (old between new : Sheet) (front back : List ℕ) → Writes old between front → Writes between new back
    → Writes old new (front ++ back)
both_written old between new front back one two =
    two ∙ ap (λ (s : Sheet). written s back) one ∙ written_both old front back

-- a word and a blank, and then what follows
pub word_then : (old between new : Sheet) (word rest : List ℕ) → Writes old between (word ++ codes " ")
    → Writes between new rest → Writes old new (spaced word rest)
word_then old between new word rest one two =
    both_written old between new (word ++ codes " ") rest one two
    ∙ ap (λ (t : List ℕ). written old t) (append_assoc word (codes " ") rest)
