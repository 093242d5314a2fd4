-- The circuits of the steps, as data: the places of the wires that each gate reads, and of the wires that come out.
use Rattle.std.proofs.Common.{ℕ, List, [], ◌∷◌}
use Rattle.macs_aes.proofs.Circuit.{Gate, Xor, And}

unfoldable pub product_gates : List Gate
product_gates =
    Xor 0 1 ∷ Xor 2 3 ∷ Xor 0 2 ∷ Xor 1 3 ∷ Xor 10 11 ∷ Xor 4 5 ∷ Xor 6 7 ∷ Xor 4 6 ∷ Xor 5 7 ∷ Xor 15 16 ∷
    And 8 13 ∷ And 9 14 ∷ And 10 15 ∷ And 11 16 ∷ And 12 17 ∷ Xor 21 22 ∷ Xor 21 20 ∷ Xor 18 23 ∷ Xor 18 24
    ∷ Xor 19 23 ∷
    Xor 19 24 ∷ And 0 4 ∷ And 1 5 ∷ And 2 6 ∷ And 3 7 ∷ Xor 29 25 ∷ Xor 30 26 ∷ Xor 31 27 ∷ Xor 32 28 ∷ []

unfoldable pub product_outputs : List ℕ
product_outputs = 33 ∷ 34 ∷ 35 ∷ 36 ∷ []

unfoldable pub inverse_gates : List Gate
inverse_gates =
    Xor 0 1 ∷ And 0 2 ∷ Xor 3 5 ∷ And 4 6 ∷ Xor 7 1 ∷ Xor 2 3 ∷ Xor 1 5 ∷ And 10 9 ∷ Xor 11 3 ∷ Xor 2 12 ∷
    Xor 6 12 ∷ And 3 14 ∷ Xor 15 13 ∷ Xor 6 15 ∷ And 8 17 ∷ Xor 4 18 ∷ []

unfoldable pub inverse_outputs : List ℕ
inverse_outputs = 16 ∷ 12 ∷ 19 ∷ 8 ∷ []

unfoldable pub twice_gates : List Gate
twice_gates =
    Xor 0 7 ∷ Xor 2 7 ∷ Xor 3 7 ∷ []

unfoldable pub twice_outputs : List ℕ
twice_outputs = 7 ∷ 8 ∷ 1 ∷ 9 ∷ 10 ∷ 4 ∷ 5 ∷ 6 ∷ []

unfoldable pub scaled_gates : List Gate
scaled_gates =
    Xor 0 1 ∷ Xor 1 3 ∷ Xor 0 2 ∷ []

unfoldable pub scaled_outputs : List ℕ
scaled_outputs = 4 ∷ 1 ∷ 5 ∷ 6 ∷ []

unfoldable pub high_gates : List Gate
high_gates =
    Xor 5 6 ∷ Xor 1 2 ∷ Xor 4 8 ∷ Xor 2 3 ∷ Xor 5 9 ∷ Xor 10 11 ∷ Xor 7 12 ∷ Xor 3 14 ∷ []

unfoldable pub high_outputs : List ℕ
high_outputs = 1 ∷ 15 ∷ 13 ∷ 10 ∷ []

unfoldable pub low_gates : List Gate
low_gates =
    Xor 5 6 ∷ Xor 0 8 ∷ Xor 1 2 ∷ Xor 7 9 ∷ Xor 1 9 ∷ Xor 4 9 ∷ Xor 10 11 ∷ []

unfoldable pub low_outputs : List ℕ
low_outputs = 12 ∷ 11 ∷ 14 ∷ 13 ∷ []

unfoldable pub affine_of_gates : List Gate
affine_of_gates =
    Xor 0 6 ∷ Xor 2 9 ∷ Xor 1 3 ∷ Xor 3 5 ∷ Xor 0 1 ∷ Xor 7 12 ∷ Xor 10 11 ∷ Xor 2 6 ∷ Xor 9 14 ∷ Xor 4 13 ∷
    Xor 4 11 ∷ Xor 19 8 ∷ Xor 18 8 ∷ Xor 12 8 ∷ Xor 16 8 ∷ []

unfoldable pub affine_of_outputs : List ℕ
affine_of_outputs = 20 ∷ 21 ∷ 17 ∷ 15 ∷ 10 ∷ 22 ∷ 23 ∷ 9 ∷ []
