-- The moves that exchange bits of vectors, as data, and three of them in a row.
use Rattle.std.proofs.Common.{◌≡◌, ℕ, ◌+◌, ◌*◌, ◌/◌, ◌%◌, ◌<◌, ◌∙◌, List, get_or, map, ap, ap₂, sym, refl, arith}
use Rattle.std.specs.List.{range_with_len}
use Rattle.std.proofs.lemmas.List.FromFn.{get_or-map-range_with_len}
use Rattle.macs_aes.specs.Blocks.{bit_in, zeros}
use Rattle.macs_aes.specs.Columns.{IsCrossed, IsExchanged, with_bit}
use Rattle.macs_aes.proofs.Moves.{Move, From, Down, Up, Mask, Plus, from_places, is_same, kept, lone, places, risen}
use Rattle.macs_aes.proofs.Moves.{sources, toggled}

unfoldable pub ones0_move : Move
ones0_move = Plus (From 0) (Up 1 (Mask 0x5555 (Plus (Down 1 (From 0)) (From 1))))

pub ones0_from : from_places ones0_move ≡ places (λ j. with_bit 1 0 j) (λ j. with_bit 1 j 0)
unfolding from_places is_same kept lone places risen sources toggled ones0_move
ones0_from = refl

unfoldable pub ones1_move : Move
ones1_move = Plus (From 1) (Mask 0x5555 (Plus (Down 1 (From 0)) (From 1)))

pub ones1_from : from_places ones1_move ≡ places (λ j. with_bit 1 1 j) (λ j. with_bit 1 j 1)
unfolding from_places is_same kept lone places risen sources toggled ones1_move
ones1_from = refl

unfoldable pub ones2_move : Move
ones2_move = Plus (From 2) (Up 1 (Mask 0x5555 (Plus (Down 1 (From 2)) (From 3))))

pub ones2_from : from_places ones2_move ≡ places (λ j. with_bit 1 2 j) (λ j. with_bit 1 j 2)
unfolding from_places is_same kept lone places risen sources toggled ones2_move
ones2_from = refl

unfoldable pub ones3_move : Move
ones3_move = Plus (From 3) (Mask 0x5555 (Plus (Down 1 (From 2)) (From 3)))

pub ones3_from : from_places ones3_move ≡ places (λ j. with_bit 1 3 j) (λ j. with_bit 1 j 3)
unfolding from_places is_same kept lone places risen sources toggled ones3_move
ones3_from = refl

unfoldable pub ones4_move : Move
ones4_move = Plus (From 4) (Up 1 (Mask 0x5555 (Plus (Down 1 (From 4)) (From 5))))

pub ones4_from : from_places ones4_move ≡ places (λ j. with_bit 1 4 j) (λ j. with_bit 1 j 4)
unfolding from_places is_same kept lone places risen sources toggled ones4_move
ones4_from = refl

unfoldable pub ones5_move : Move
ones5_move = Plus (From 5) (Mask 0x5555 (Plus (Down 1 (From 4)) (From 5)))

pub ones5_from : from_places ones5_move ≡ places (λ j. with_bit 1 5 j) (λ j. with_bit 1 j 5)
unfolding from_places is_same kept lone places risen sources toggled ones5_move
ones5_from = refl

unfoldable pub ones6_move : Move
ones6_move = Plus (From 6) (Up 1 (Mask 0x5555 (Plus (Down 1 (From 6)) (From 7))))

pub ones6_from : from_places ones6_move ≡ places (λ j. with_bit 1 6 j) (λ j. with_bit 1 j 6)
unfolding from_places is_same kept lone places risen sources toggled ones6_move
ones6_from = refl

unfoldable pub ones7_move : Move
ones7_move = Plus (From 7) (Mask 0x5555 (Plus (Down 1 (From 6)) (From 7)))

pub ones7_from : from_places ones7_move ≡ places (λ j. with_bit 1 7 j) (λ j. with_bit 1 j 7)
unfolding from_places is_same kept lone places risen sources toggled ones7_move
ones7_from = refl

unfoldable pub twos0_move : Move
twos0_move = Plus (From 0) (Up 2 (Mask 0x3333 (Plus (Down 2 (From 0)) (From 2))))

pub twos0_from : from_places twos0_move ≡ places (λ j. with_bit 2 0 j) (λ j. with_bit 2 j 0)
unfolding from_places is_same kept lone places risen sources toggled twos0_move
twos0_from = refl

unfoldable pub twos1_move : Move
twos1_move = Plus (From 1) (Up 2 (Mask 0x3333 (Plus (Down 2 (From 1)) (From 3))))

pub twos1_from : from_places twos1_move ≡ places (λ j. with_bit 2 1 j) (λ j. with_bit 2 j 1)
unfolding from_places is_same kept lone places risen sources toggled twos1_move
twos1_from = refl

unfoldable pub twos2_move : Move
twos2_move = Plus (From 2) (Mask 0x3333 (Plus (Down 2 (From 0)) (From 2)))

pub twos2_from : from_places twos2_move ≡ places (λ j. with_bit 2 2 j) (λ j. with_bit 2 j 2)
unfolding from_places is_same kept lone places risen sources toggled twos2_move
twos2_from = refl

unfoldable pub twos3_move : Move
twos3_move = Plus (From 3) (Mask 0x3333 (Plus (Down 2 (From 1)) (From 3)))

pub twos3_from : from_places twos3_move ≡ places (λ j. with_bit 2 3 j) (λ j. with_bit 2 j 3)
unfolding from_places is_same kept lone places risen sources toggled twos3_move
twos3_from = refl

unfoldable pub twos4_move : Move
twos4_move = Plus (From 4) (Up 2 (Mask 0x3333 (Plus (Down 2 (From 4)) (From 6))))

pub twos4_from : from_places twos4_move ≡ places (λ j. with_bit 2 4 j) (λ j. with_bit 2 j 4)
unfolding from_places is_same kept lone places risen sources toggled twos4_move
twos4_from = refl

unfoldable pub twos5_move : Move
twos5_move = Plus (From 5) (Up 2 (Mask 0x3333 (Plus (Down 2 (From 5)) (From 7))))

pub twos5_from : from_places twos5_move ≡ places (λ j. with_bit 2 5 j) (λ j. with_bit 2 j 5)
unfolding from_places is_same kept lone places risen sources toggled twos5_move
twos5_from = refl

unfoldable pub twos6_move : Move
twos6_move = Plus (From 6) (Mask 0x3333 (Plus (Down 2 (From 4)) (From 6)))

pub twos6_from : from_places twos6_move ≡ places (λ j. with_bit 2 6 j) (λ j. with_bit 2 j 6)
unfolding from_places is_same kept lone places risen sources toggled twos6_move
twos6_from = refl

unfoldable pub twos7_move : Move
twos7_move = Plus (From 7) (Mask 0x3333 (Plus (Down 2 (From 5)) (From 7)))

pub twos7_from : from_places twos7_move ≡ places (λ j. with_bit 2 7 j) (λ j. with_bit 2 j 7)
unfolding from_places is_same kept lone places risen sources toggled twos7_move
twos7_from = refl

unfoldable pub fours0_move : Move
fours0_move = Plus (From 0) (Up 4 (Mask 0x0f0f (Plus (Down 4 (From 0)) (From 4))))

pub fours0_from : from_places fours0_move ≡ places (λ j. with_bit 4 0 j) (λ j. with_bit 4 j 0)
unfolding from_places is_same kept lone places risen sources toggled fours0_move
fours0_from = refl

unfoldable pub fours1_move : Move
fours1_move = Plus (From 1) (Up 4 (Mask 0x0f0f (Plus (Down 4 (From 1)) (From 5))))

pub fours1_from : from_places fours1_move ≡ places (λ j. with_bit 4 1 j) (λ j. with_bit 4 j 1)
unfolding from_places is_same kept lone places risen sources toggled fours1_move
fours1_from = refl

unfoldable pub fours2_move : Move
fours2_move = Plus (From 2) (Up 4 (Mask 0x0f0f (Plus (Down 4 (From 2)) (From 6))))

pub fours2_from : from_places fours2_move ≡ places (λ j. with_bit 4 2 j) (λ j. with_bit 4 j 2)
unfolding from_places is_same kept lone places risen sources toggled fours2_move
fours2_from = refl

unfoldable pub fours3_move : Move
fours3_move = Plus (From 3) (Up 4 (Mask 0x0f0f (Plus (Down 4 (From 3)) (From 7))))

pub fours3_from : from_places fours3_move ≡ places (λ j. with_bit 4 3 j) (λ j. with_bit 4 j 3)
unfolding from_places is_same kept lone places risen sources toggled fours3_move
fours3_from = refl

unfoldable pub fours4_move : Move
fours4_move = Plus (From 4) (Mask 0x0f0f (Plus (Down 4 (From 0)) (From 4)))

pub fours4_from : from_places fours4_move ≡ places (λ j. with_bit 4 4 j) (λ j. with_bit 4 j 4)
unfolding from_places is_same kept lone places risen sources toggled fours4_move
fours4_from = refl

unfoldable pub fours5_move : Move
fours5_move = Plus (From 5) (Mask 0x0f0f (Plus (Down 4 (From 1)) (From 5)))

pub fours5_from : from_places fours5_move ≡ places (λ j. with_bit 4 5 j) (λ j. with_bit 4 j 5)
unfolding from_places is_same kept lone places risen sources toggled fours5_move
fours5_from = refl

unfoldable pub fours6_move : Move
fours6_move = Plus (From 6) (Mask 0x0f0f (Plus (Down 4 (From 2)) (From 6)))

pub fours6_from : from_places fours6_move ≡ places (λ j. with_bit 4 6 j) (λ j. with_bit 4 j 6)
unfolding from_places is_same kept lone places risen sources toggled fours6_move
fours6_from = refl

unfoldable pub fours7_move : Move
fours7_move = Plus (From 7) (Mask 0x0f0f (Plus (Down 4 (From 3)) (From 7)))

pub fours7_from : from_places fours7_move ≡ places (λ j. with_bit 4 7 j) (λ j. with_bit 4 j 7)
unfolding from_places is_same kept lone places risen sources toggled fours7_move
fours7_from = refl

-- ---- all three

unfoldable vector_of : ℕ → ℕ → ℕ
vector_of k j = with_bit 1 (with_bit 2 (with_bit 4 k j) (with_bit 4 j k)) (with_bit 2 (with_bit 4 j k) (with_bit 4 k j))

unfoldable place_of : ℕ → ℕ → ℕ
place_of k j = with_bit 1 (with_bit 2 (with_bit 4 j k) (with_bit 4 k j)) (with_bit 2 (with_bit 4 k j) (with_bit 4 j k))

same_values : (f g : ℕ → ℕ → ℕ)
    → map (λ n. f (n / 16) (n % 16)) (range_with_len 0 128) ≡ map (λ n. g (n / 16) (n % 16)) (range_with_len 0 128)
    → (k j : ℕ) → k < 8 → j < 16 → f k j ≡ g k j
same_values f g e k j hk hj =
    let q : (16 * k + j) / 16 ≡ k = omega arith in
    let r : (16 * k + j) % 16 ≡ j = omega arith in
    let at : f ((16 * k + j) / 16) ((16 * k + j) % 16) ≡ g ((16 * k + j) / 16) ((16 * k + j) % 16) =
    sym (get_or-map-range_with_len (λ n. f (n / 16) (n % 16)) 0 128 (16 * k + j) (16 * k + j) 0 (omega arith)
    (omega arith))
    ∙ ap (λ xs. get_or xs (16 * k + j) 0) e
    ∙ get_or-map-range_with_len (λ n. g (n / 16) (n % 16)) 0 128 (16 * k + j) (16 * k + j) 0 (omega arith)
    (omega arith) in
    rw (q, r) at at

vectors_are : map (λ n. vector_of (n / 16) (n % 16)) (range_with_len 0 128)
    ≡ map (λ n. n % 16 % 8) (range_with_len 0 128)
unfolding vector_of
vectors_are = refl

places_are : map (λ n. place_of (n / 16) (n % 16)) (range_with_len 0 128)
    ≡ map (λ n. 8 * (n % 16 / 8) + n / 16) (range_with_len 0 128)
unfolding place_of
places_are = refl

-- bits that were exchanged by each of their three bits are crossed
pub crossed : (lanes : ℕ) (xs ys zs : List (List ℕ)) (x : List ℕ) (k : ℕ) → k < 8
    → ((m : ℕ) → m < 8 → IsExchanged lanes 1 m xs (get_or ys m (zeros lanes)))
    → ((m : ℕ) → m < 8 → IsExchanged lanes 2 m ys (get_or zs m (zeros lanes)))
    → IsExchanged lanes 4 k zs x → IsCrossed lanes k xs x
unfolding vector_of place_of
crossed lanes xs ys zs x k hk ones twos fours = λ i j hi hj.
    let m : ℕ = with_bit 4 k j in
    let l : ℕ = with_bit 4 j k in
    let hm : m < 8 = omega arith in
    let hl : l < 16 = omega arith in
    let n : ℕ = with_bit 2 m l in
    let p : ℕ = with_bit 2 l m in
    let hn : n < 8 = omega (arith, hm) in
    let hp : p < 16 = omega (arith, hl) in
    fours i j hi hj ∙ twos m hm i l hi hl ∙ ones n hn i p hi hp
    ∙ ap₂ (λ (a b : ℕ). bit_in (get_or xs a (zeros lanes)) i b)
    (same_values vector_of (λ k j. j % 8) vectors_are k j hk hj)
    (same_values place_of (λ k j. 8 * (j / 8) + k) places_are k j hk hj)
