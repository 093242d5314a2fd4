-- The rounds on several blocks: the first AddRoundKey, one more round, the last.
use Rattle.std.proofs.Common.{◌≡◌, ℕ, suc, ◌+◌, ◌-◌, ◌≤◌, ◌∙◌, List, [], ◌∷◌, map, ap, sym, refl, arith}
use Rattle.macs_aes.specs.Cipher.{state_after_rounds, cipher, encrypt, mix_columns, round_key, shift_rows, sub_bytes}
use Rattle.macs_aes.specs.Cipher.{xor_tables}
use Rattle.macs_aes.specs.KeyExpansion.{key_words, rounds_of}
use Rattle.macs_aes.specs.RoundKeys.{keyed}

first_round : (w : List ℕ) (blocks : List (List ℕ))
    → map (λ s. xor_tables s (round_key w 0)) blocks ≡ map (λ b. state_after_rounds w b 0) blocks
unfolding state_after_rounds
first_round w blocks = refl

next_round : (w : List ℕ) (m : ℕ) (blocks : List (List ℕ))
    → map (λ s. xor_tables s (round_key w (suc m)))
    (map mix_columns (map shift_rows (map sub_bytes (map (λ b. state_after_rounds w b m) blocks))))
    ≡ map (λ b. state_after_rounds w b (suc m)) blocks
unfolding state_after_rounds
next_round w m [] = refl
next_round w m (b ∷ blocks) = ap (λ t. state_after_rounds w b (suc m) ∷ t) (next_round w m blocks)

final_round : (key : List ℕ) (blocks : List (List ℕ))
    → map (λ s. xor_tables s (round_key (key_words key) (rounds_of key))) (map shift_rows (map sub_bytes
    (map (λ b. state_after_rounds (key_words key) b (rounds_of key - 1)) blocks))) ≡ map (encrypt key) blocks
unfolding encrypt cipher
final_round key [] = refl
final_round key (b ∷ blocks) = ap (λ t. encrypt key b ∷ t) (final_round key blocks)

pub rounds_first : (w k0 : List ℕ) (blocks p q : List (List ℕ)) → p ≡ blocks → k0 ≡ round_key w 0
    → q ≡ map (λ s. xor_tables s k0) p
    → q ≡ map (λ b. state_after_rounds w b (1 - 1)) blocks
rounds_first w k0 blocks p q ep ek eq =
    eq ∙ ap (λ k. map (λ s. xor_tables s k) p) ek ∙ ap (map (λ s. xor_tables s (round_key w 0))) ep
    ∙ first_round w blocks

pub rounds_next : (w key : List ℕ) (blocks p q : List (List ℕ)) (n : ℕ) → 1 ≤ n
    → p ≡ map (λ b. state_after_rounds w b (n - 1)) blocks
    → key ≡ round_key w n → q ≡ keyed key (map mix_columns (map shift_rows (map sub_bytes p)))
    → q ≡ map (λ b. state_after_rounds w b (n + 1 - 1)) blocks
rounds_next w key blocks p q n low ep ek eq =
    let here : n ≡ suc (n - 1) = omega arith in
    let more : n + 1 - 1 ≡ suc (n - 1) = omega arith in
    eq ∙ ap (λ k. keyed k (map mix_columns (map shift_rows (map sub_bytes p)))) (ek ∙ ap (round_key w) here)
    ∙ ap (λ p. keyed (round_key w (suc (n - 1))) (map mix_columns (map shift_rows (map sub_bytes p)))) ep
    ∙ next_round w (n - 1) blocks ∙ ap (λ m. map (λ b. state_after_rounds w b m) blocks) (sym more)

pub rounds_last : (k key : List ℕ) (blocks p q : List (List ℕ)) (n r : ℕ) → n ≡ r → r ≡ rounds_of k
    → p ≡ map (λ b. state_after_rounds (key_words k) b (n - 1)) blocks
    → key ≡ round_key (key_words k) n → q ≡ keyed key (map shift_rows (map sub_bytes p))
    → q ≡ map (encrypt k) blocks
rounds_last k key blocks p q n r en er ep ek eq =
    let last : n ≡ rounds_of k = en ∙ er in
    eq ∙ ap (λ v. keyed v (map shift_rows (map sub_bytes p))) (ek ∙ ap (round_key (key_words k)) last)
    ∙ ap (λ p. keyed (round_key (key_words k) (rounds_of k)) (map shift_rows (map sub_bytes p)))
    (ep ∙ ap (λ m. map (λ b. state_after_rounds (key_words k) b (m - 1)) blocks) last)
    ∙ final_round k blocks
