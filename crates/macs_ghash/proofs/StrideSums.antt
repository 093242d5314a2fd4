-- Turns: the sum of the products of several blocks with the powers of the subkey takes them in one after another.
use Rattle.std.proofs.Common.{◌≡◌, ◌≢◌, ℕ, zero, suc, ◌+◌, ◌-◌, ◌*◌, ◌^◌, ◌<◌, ◌≤◌, ◌∙◌, List, [], ◌∷◌, get_or, length}
use Rattle.std.proofs.Common.{take, bit_xor, ap, ap₂, sym, refl, arith}
use Rattle.std.proofs.Math.Nat.{mul-le-mul_left, mul-suc}
use lib.Bits.{xor_self, xor_zero_l, xor_zero_r}
use Rattle.macs_gf.specs.Gf128.{block_product}
use Rattle.macs_gf.specs.Ghash.{absorb, ghash_from, subkey_power}
use Rattle.macs_gf.proofs.BlockField.{one, product-assoc, product-comm, product-one, product-xor_left}
use Rattle.macs_gf.proofs.GhashBlocks.{ghash_from-more}
use Rattle.macs_gf.proofs.GhashPowers.{key_power-lt}
use Rattle.macs_ghash.specs.Tables.{sum_of}
use Rattle.macs_ghash.proofs.OctetSums.{sum-map, sum_equal}

-- ---- powers

pub first_power : (h : ℕ) → h < 2 ^ 128 → h ≡ subkey_power h 1
unfolding subkey_power one
first_power h k = sym (product-one h k)

power_next : (h n : ℕ) → h < 2 ^ 128 → subkey_power h (suc n) ≡ block_product (subkey_power h n) h
unfolding subkey_power
power_next h n k = product-comm h (subkey_power h n) k (key_power-lt h n k)

pub second_power : (h : ℕ) → h < 2 ^ 128 → block_product h h ≡ subkey_power h 2
second_power h k = ap (λ (v : ℕ). block_product v h) (first_power h k) ∙ sym (power_next h 1 k)

-- two powers on
pub power_after : (h p n : ℕ) → h < 2 ^ 128 → p ≡ subkey_power h n
    → block_product p (subkey_power h 2) ≡ subkey_power h (suc (suc n))
power_after h p n k e =
    let first : subkey_power h 1 < 2 ^ 128 = key_power-lt h 1 k in
    ap₂ block_product e (power_next h 1 k)
    ∙ ap (λ (v : ℕ). block_product (subkey_power h n) (block_product v h)) (sym (first_power h k))
    ∙ sym (product-assoc (subkey_power h n) h h k k)
    ∙ ap (λ (v : ℕ). block_product v h) (sym (power_next h n k)) ∙ sym (power_next h (suc n) k)

product_none : (v : ℕ) → block_product 0 v ≡ 0
product_none v = product-xor_left 128 0 0 v ∙ xor_self (block_product 0 v)

-- the product of the first of two blocks, where the second is zero
pub first_of_two : (c powers : ℕ → ℕ) (b : ℕ) → c 0 ≡ b → c 1 ≡ 0
    → sum_of (λ l. block_product (c l) (powers l)) 2 ≡ block_product b (powers 0)
unfolding sum_of
first_of_two c powers b e f =
    let p : ℕ = block_product b (powers 0) in
    ap₂ (λ (x y : ℕ). bit_xor (bit_xor 0 (block_product x (powers 0))) (block_product y (powers 1))) e f
    ∙ ap (bit_xor (bit_xor 0 p)) (product_none (powers 1)) ∙ xor_zero_r (bit_xor 0 p) ∙ xor_zero_l p

-- two powers, from the second down
pub two_powers : (h square : ℕ) → h < 2 ^ 128 → square ≡ subkey_power h 2 → (l : ℕ) → l < 2
    → get_or (square ∷ h ∷ []) l 0 ≡ subkey_power h (2 - l)
two_powers h square k e zero below = e
two_powers h square k e (suc zero) below = first_power h k
two_powers h square k e (suc (suc l)) below = absurd (omega arith)

-- ---- one stride

-- the sum of the products of m blocks with the powers from the m-th down to the first
abbrev pub stride_of : ℕ → (ℕ → ℕ) → ℕ → ℕ
stride_of h c m = sum_of (λ l. block_product (c l) (subkey_power h (m - l))) m

-- one block more
stride_more : (h : ℕ) (c : ℕ → ℕ) (m : ℕ) → h < 2 ^ 128 → stride_of h c (suc m) ≡ absorb h (stride_of h c m) (c m)
unfolding sum_of
stride_more h c m k =
    let f : ℕ → ℕ = λ (l : ℕ). block_product (c l) (subkey_power h (suc m - l)) in
    let t : ℕ → ℕ = λ (l : ℕ). block_product (c l) (subkey_power h (m - l)) in
    let last : suc m - m ≡ 1 = omega arith in
    let earlier : (l : ℕ) → l < m → f l ≡ block_product (t l) h = λ l below.
    let more : suc m - l ≡ suc (m - l) = omega arith in
    ap (λ (n : ℕ). block_product (c l) (subkey_power h n)) more ∙ ap (block_product (c l)) (power_next h (m - l) k)
    ∙ sym (product-assoc (c l) (subkey_power h (m - l)) h (key_power-lt h (m - l) k) k) in
    ap₂ bit_xor
    (sum_equal f (λ l. block_product (t l) h) m earlier
    ∙ sym (sum-map (λ (v : ℕ). block_product v h) (λ (a b : ℕ). product-xor_left 128 a b h) t m))
    (ap (λ (n : ℕ). block_product (c m) (subkey_power h n)) last ∙ ap (block_product (c m)) (sym (first_power h k)))
    ∙ sym (product-xor_left 128 (sum_of t m) (c m) h)

-- zero blocks alone
zeros_alone : (h : ℕ) (c : ℕ → ℕ) (z m : ℕ) → h < 2 ^ 128 → m ≤ z → ((l : ℕ) → l < z → c l ≡ 0) → stride_of h c m ≡ 0
unfolding sum_of
zeros_alone h c z zero k le none = refl
zeros_alone h c z (suc m) k le none =
    stride_more h c m k ∙ ap₂ (λ (y b : ℕ). block_product (bit_xor y b) h) (zeros_alone h c z m k (omega arith) none)
    (none m (omega arith)) ∙ product_none h

-- blocks after zero blocks
after_zeros : (h : ℕ) (c : ℕ → ℕ) (bs : List ℕ) (z m : ℕ) → h < 2 ^ 128 → m ≤ length bs → ((l : ℕ) → l < z → c l ≡ 0)
    → ((j : ℕ) → j < m → c (z + j) ≡ get_or bs j 0) → stride_of h c (z + m) ≡ ghash_from h 0 (take m bs)
after_zeros h c bs z zero k le none each =
    let whole : z + zero ≡ z = omega arith in
    ap (stride_of h c) whole ∙ zeros_alone h c z z k (omega arith) none
after_zeros h c bs z (suc m) k le none each =
    let more : z + suc m ≡ suc (z + m) = omega arith in
    let on : m + 1 ≡ suc m = omega arith in
    ap (stride_of h c) more ∙ stride_more h c (z + m) k
    ∙ ap₂ (λ (y b : ℕ). block_product (bit_xor y b) h)
    (after_zeros h c bs z m k (omega arith) none (λ j l. each j (omega arith))) (each m (omega arith))
    ∙ sym (ghash_from-more h 0 bs m (get_or bs m 0) (omega arith) refl) ∙ ap (λ (i : ℕ). ghash_from h 0 (take i bs)) on

-- the first stride: blocks after as many zero blocks as fill it
pub first_stride : (h : ℕ) (c : ℕ → ℕ) (bs : List ℕ) (n m : ℕ) → h < 2 ^ 128 → m ≤ n → m ≤ length bs
    → ((l : ℕ) → l < n - m → c l ≡ 0)
    → ((j : ℕ) → j < m → c (n - m + j) ≡ get_or bs j 0) → stride_of h c n ≡ ghash_from h 0 (take m bs)
first_stride h c bs n m k le few none each =
    let whole : n ≡ n - m + m = omega arith in
    ap (stride_of h c) whole ∙ after_zeros h c bs (n - m) m k few none each

-- a state is added to the first block, and blocks follow
after_state : (h x : ℕ) (c : ℕ → ℕ) (bs : List ℕ) (at m : ℕ) → h < 2 ^ 128 → at + suc m ≤ length bs
    → x ≡ ghash_from h 0 (take at bs)
    → c 0 ≡ bit_xor x (get_or bs at 0) → ((j : ℕ) → j < suc m → j ≢ 0 → c j ≡ get_or bs (at + j) 0)
    → stride_of h c (suc m) ≡ ghash_from h 0 (take (at + suc m) bs)
unfolding sum_of
after_state h x c bs at zero k le is first others =
    stride_more h c 0 k
    ∙ ap (λ (v : ℕ). block_product v h) (xor_zero_l (c 0) ∙ first ∙ ap (λ (y : ℕ). bit_xor y (get_or bs at 0)) is)
    ∙ sym (ghash_from-more h 0 bs at (get_or bs at 0) (omega arith) refl)
after_state h x c bs at (suc m) k le is first others =
    let on : at + suc m + 1 ≡ at + suc (suc m) = omega arith in
    stride_more h c (suc m) k
    ∙ ap₂ (λ (y b : ℕ). block_product (bit_xor y b) h)
    (after_state h x c bs at m k (omega arith) is first (λ j l other. others j (omega arith) other))
    (others (suc m) (omega arith) (λ e. absurd (omega (arith, e))))
    ∙ sym (ghash_from-more h 0 bs (at + suc m) (get_or bs (at + suc m) 0) (omega arith) refl)
    ∙ ap (λ (i : ℕ). ghash_from h 0 (take i bs)) on

-- a later stride: n blocks, the state added to the first of them
pub later_stride : (h x : ℕ) (c : ℕ → ℕ) (bs : List ℕ) (at n : ℕ) → h < 2 ^ 128 → 0 < n → at + n ≤ length bs
    → x ≡ ghash_from h 0 (take at bs)
    → c 0 ≡ bit_xor x (get_or bs at 0) → ((j : ℕ) → j < n → j ≢ 0 → c j ≡ get_or bs (at + j) 0)
    → stride_of h c n ≡ ghash_from h 0 (take (at + n) bs)
later_stride h x c bs at zero k some le is first others = absurd (omega arith)
later_stride h x c bs at (suc n) k some le is first others = after_state h x c bs at n k le is first others

-- ---- how many blocks strides take

-- a stride is within all that are taken
pub stride_fits : (first n t strides count taken : ℕ) → t < strides → first + n * strides ≡ count
    → taken ≡ first + n * t → taken + n ≤ count
stride_fits first n t strides count taken below whole is =
    let now : ℕ = n * t in
    let all : ℕ = n * strides in
    let on : n * suc t ≡ now + n = mul-suc n t in
    let within : n * suc t ≤ all = mul-le-mul_left n (omega arith) in
    omega arith

pub stride_more_taken : (first n t taken : ℕ) → taken ≡ first + n * t → taken + n ≡ first + n * (t + 1)
stride_more_taken first n t taken is =
    let e : t + 1 ≡ suc t = omega arith in
    let now : ℕ = n * t in
    let on : n * (t + 1) ≡ now + n = ap (λ (k : ℕ). n * k) e ∙ mul-suc n t in
    omega arith
