-- Straight-line circuits of xor and and, on planes and on the bits of one octet alike.
use Rattle.std.proofs.Common.{◌≡◌, ℕ, zero, suc, ◌*◌, ◌/◌, ◌%◌, ◌^◌, ◌<◌, List, [], ◌∷◌, ◌++◌, get_or, length}
use Rattle.std.proofs.Common.{replicate, bit_xor, bit_and, refl, ap, ap₂, sym, ◌∙◌, arith, Bool, true}
use Rattle.std.specs.Simd.Lanes.{zip2}
use Rattle.std.specs.Int.{bit_at}
use Rattle.std.specs.Prelude.{◌&&◌, nat_eq}
use Rattle.std.proofs.lemmas.List.FromFn.{get_or-map-range_with_len}
use Rattle.std.proofs.lemmas.List.{length-replicate}
use Rattle.std.proofs.lemmas.Simd.{get_or-replicate, get_or-zip2, length-zip2}
use Rattle.std.proofs.lemmas.Nat.{and_mod, and_shr, xor_mod, xor_shr}
use Rattle.std.proofs.lemmas.Nat.Bits.{bit_at-lt, bit_at-zero, bit_at_ones}
use Rattle.std.proofs.lemmas.Bool.{and_parts, eqb-true}
use Rattle.macs_gf.proofs.Xor.{digit_product, xor_middle}
use Rattle.macs_aes.specs.Blocks.{ArePlanes, bit_in, bits_in, block_in, blocks_in, zeros, combined, octet, octet_in}

-- a gate, by the places of its two inputs among the wires
pub data Gate : Type 0 where
  Xor : ℕ → ℕ → Gate
  And : ℕ → ℕ → Gate

-- ---- on planes

unfoldable pub gate : ℕ → Gate → List (List ℕ) → List ℕ
gate lanes (Xor a b) wires = zip2 bit_xor (get_or wires a (zeros lanes)) (get_or wires b (zeros lanes))
gate lanes (And a b) wires = zip2 bit_and (get_or wires a (zeros lanes)) (get_or wires b (zeros lanes))

-- all wires, the newest last
unfoldable pub run : ℕ → List Gate → List (List ℕ) → List (List ℕ)
run lanes [] wires = wires
run lanes (g ∷ gs) wires = run lanes gs (wires ++ gate lanes g wires ∷ [])

unfoldable pub pick : ℕ → List ℕ → List (List ℕ) → List (List ℕ)
pick lanes [] wires = []
pick lanes (i ∷ is) wires = get_or wires i (zeros lanes) ∷ pick lanes is wires

-- ---- on bits

unfoldable pub bit_gate : Gate → List ℕ → ℕ
bit_gate (Xor a b) wires = bit_xor (get_or wires a 0) (get_or wires b 0)
bit_gate (And a b) wires = bit_and (get_or wires a 0) (get_or wires b 0)

unfoldable pub bit_run : List Gate → List ℕ → List ℕ
bit_run [] wires = wires
bit_run (g ∷ gs) wires = bit_run gs (wires ++ bit_gate g wires ∷ [])

unfoldable pub bit_pick : List ℕ → List ℕ → List ℕ
bit_pick [] wires = []
bit_pick (i ∷ is) wires = get_or wires i 0 ∷ bit_pick is wires

-- ---- a circuit on planes is, in each octet, the circuit on bits

pub bit_at-xor : (x y b : ℕ) → bit_at (bit_xor x y) b ≡ bit_xor (bit_at x b) (bit_at y b)
bit_at-xor x y b = ap (λ (n : ℕ). n % 2) (xor_shr x y b) ∙ xor_mod (x / 2 ^ b) (y / 2 ^ b) 1

pub bit_at-and : (x y b : ℕ) → bit_at (bit_and x y) b ≡ bit_and (bit_at x b) (bit_at y b)
bit_at-and x y b = ap (λ (n : ℕ). n % 2) (and_shr x y b) ∙ and_mod (x / 2 ^ b) (y / 2 ^ b) 1

pub bit_in-xor : (lanes : ℕ) (x y : List ℕ) (i j : ℕ) → length x ≡ lanes → length y ≡ lanes → i < lanes
    → bit_in (zip2 bit_xor x y) i j ≡ bit_xor (bit_in x i j) (bit_in y i j)
unfolding bit_in
bit_in-xor lanes x y i j hx hy h =
    ap (λ (n : ℕ). bit_at n j) (get_or-zip2 bit_xor x y i 0 0 0 (omega arith) (omega arith))
    ∙ bit_at-xor (get_or x i 0) (get_or y i 0) j

pub bit_in-and : (lanes : ℕ) (x y : List ℕ) (i j : ℕ) → length x ≡ lanes → length y ≡ lanes → i < lanes
    → bit_in (zip2 bit_and x y) i j ≡ bit_and (bit_in x i j) (bit_in y i j)
unfolding bit_in
bit_in-and lanes x y i j hx hy h =
    ap (λ (n : ℕ). bit_at n j) (get_or-zip2 bit_and x y i 0 0 0 (omega arith) (omega arith))
    ∙ bit_at-and (get_or x i 0) (get_or y i 0) j

bit_in-zeros : (lanes : ℕ) (i j : ℕ) → i < lanes → bit_in (zeros lanes) i j ≡ 0
unfolding bit_in zeros
bit_in-zeros lanes i j h = ap (λ (n : ℕ). bit_at n j) (get_or-replicate lanes i 0 0 h) ∙ bit_at-zero j

pub lanes_of : (lanes : ℕ) (wires : List (List ℕ)) (k : ℕ) → ArePlanes lanes wires
    → length (get_or wires k (zeros lanes)) ≡ lanes
unfolding zeros
lanes_of lanes [] k a = length-replicate lanes 0
lanes_of lanes (x ∷ xs) zero a = a.0
lanes_of lanes (x ∷ xs) (suc k) a = lanes_of lanes xs k a.1

push_planes : (lanes : ℕ) (wires : List (List ℕ)) (x : List ℕ) → ArePlanes lanes wires → length x ≡ lanes
    → ArePlanes lanes (wires ++ x ∷ [])
push_planes lanes [] x a h = (h, tt)
push_planes lanes (w ∷ wires) x a h = (a.0, push_planes lanes wires x a.1 h)

bits_in-push : (wires : List (List ℕ)) (x : List ℕ) (i j : ℕ)
    → bits_in (wires ++ x ∷ []) i j ≡ bits_in wires i j ++ bit_in x i j ∷ []
bits_in-push [] x i j = refl
bits_in-push (w ∷ wires) x i j = ap (λ v. bit_in w i j ∷ v) (bits_in-push wires x i j)

bit_of : (lanes : ℕ) (wires : List (List ℕ)) (k i j : ℕ) → i < lanes
    → bit_in (get_or wires k (zeros lanes)) i j ≡ get_or (bits_in wires i j) k 0
bit_of lanes [] k i j h = bit_in-zeros lanes i j h
bit_of lanes (x ∷ xs) zero i j h = refl
bit_of lanes (x ∷ xs) (suc k) i j h = bit_of lanes xs k i j h

gate_lanes : (lanes : ℕ) (g : Gate) (wires : List (List ℕ)) → ArePlanes lanes wires
    → length (gate lanes g wires) ≡ lanes
unfolding gate
gate_lanes lanes (Xor a b) wires p =
    length-zip2 bit_xor (get_or wires a (zeros lanes)) (get_or wires b (zeros lanes))
    (lanes_of lanes wires a p ∙ sym (lanes_of lanes wires b p)) ∙ lanes_of lanes wires a p
gate_lanes lanes (And a b) wires p =
    length-zip2 bit_and (get_or wires a (zeros lanes)) (get_or wires b (zeros lanes))
    (lanes_of lanes wires a p ∙ sym (lanes_of lanes wires b p)) ∙ lanes_of lanes wires a p

gate_bit : (lanes : ℕ) (g : Gate) (wires : List (List ℕ)) (i j : ℕ) → ArePlanes lanes wires → i < lanes
    → bit_in (gate lanes g wires) i j ≡ bit_gate g (bits_in wires i j)
unfolding gate bit_gate
gate_bit lanes (Xor a b) wires i j p h =
    bit_in-xor lanes (get_or wires a (zeros lanes)) (get_or wires b (zeros lanes)) i j (lanes_of lanes wires a p)
    (lanes_of lanes wires b p) h
    ∙ ap₂ bit_xor (bit_of lanes wires a i j h) (bit_of lanes wires b i j h)
gate_bit lanes (And a b) wires i j p h =
    bit_in-and lanes (get_or wires a (zeros lanes)) (get_or wires b (zeros lanes)) i j (lanes_of lanes wires a p)
    (lanes_of lanes wires b p) h
    ∙ ap₂ bit_and (bit_of lanes wires a i j h) (bit_of lanes wires b i j h)

run_bits : (lanes : ℕ) (gs : List Gate) (wires : List (List ℕ)) (i j : ℕ) → ArePlanes lanes wires → i < lanes
    → bits_in (run lanes gs wires) i j ≡ bit_run gs (bits_in wires i j)
unfolding run bit_run
run_bits lanes [] wires i j p h = refl
run_bits lanes (g ∷ gs) wires i j p h =
    run_bits lanes gs (wires ++ gate lanes g wires ∷ []) i j
    (push_planes lanes wires (gate lanes g wires) p (gate_lanes lanes g wires p)) h
    ∙ ap (bit_run gs) (bits_in-push wires (gate lanes g wires) i j
    ∙ ap (λ (x : ℕ). bits_in wires i j ++ x ∷ []) (gate_bit lanes g wires i j p h))

pick_bits : (lanes : ℕ) (is : List ℕ) (wires : List (List ℕ)) (i j : ℕ) → i < lanes
    → bits_in (pick lanes is wires) i j ≡ bit_pick is (bits_in wires i j)
unfolding pick bit_pick
pick_bits lanes [] wires i j h = refl
pick_bits lanes (k ∷ is) wires i j h =
    ap₂ (λ (x : ℕ) v. x ∷ v) (bit_of lanes wires k i j h) (pick_bits lanes is wires i j h)

unfoldable pub circuit : ℕ → List Gate → List ℕ → List (List ℕ) → List (List ℕ)
circuit lanes gs outs wires = pick lanes outs (run lanes gs wires)

unfoldable pub bit_circuit : List Gate → List ℕ → List ℕ → List ℕ
bit_circuit gs outs wires = bit_pick outs (bit_run gs wires)

pub circuit_bits : (lanes : ℕ) (gs : List Gate) (outs : List ℕ) (wires : List (List ℕ)) (i j : ℕ)
    → ArePlanes lanes wires → i < lanes
    → bits_in (circuit lanes gs outs wires) i j ≡ bit_circuit gs outs (bits_in wires i j)
unfolding circuit bit_circuit
circuit_bits lanes gs outs wires i j p h = pick_bits lanes outs (run lanes gs wires) i j h
    ∙ ap (bit_pick outs) (run_bits lanes gs wires i j p h)

-- ---- two functions of n bits that agree on all of them

unfoldable pub agree : ℕ → (List ℕ → ℕ) → (List ℕ → ℕ) → Bool
agree zero f g = nat_eq (f []) (g [])
agree (suc n) f g = agree n (λ v. f (0 ∷ v)) (λ v. g (0 ∷ v)) && agree n (λ v. f (1 ∷ v)) (λ v. g (1 ∷ v))

abbrev pub AreBits : List ℕ → Type 0
AreBits [] = Unit {0}
AreBits (b ∷ bits) = (b < 2) × AreBits bits

pub agreed : (n : ℕ) (f g : List ℕ → ℕ) → agree n f g ≡ true → (v : List ℕ) → length v ≡ n → AreBits v → f v ≡ g v
unfolding agree
agreed zero f g e [] len are = eqb-true (f []) (g []) e
agreed zero f g e (b ∷ v) len are = absurd (omega arith)
agreed (suc n) f g e [] len are = absurd (omega arith)
agreed (suc n) f g e (zero ∷ v) len are =
    agreed n (λ v. f (0 ∷ v)) (λ v. g (0 ∷ v)) (and_parts _ _ e).0 v (omega arith) are.1
agreed (suc n) f g e (suc zero ∷ v) len are =
    agreed n (λ v. f (1 ∷ v)) (λ v. g (1 ∷ v)) (and_parts _ _ e).1 v (omega arith) are.1
agreed (suc n) f g e (suc (suc b) ∷ v) len are = absurd (omega (arith, are.0))

pub are_bits : (planes : List (List ℕ)) (i j : ℕ) → AreBits (bits_in planes i j)
unfolding bit_in
are_bits [] i j = tt
are_bits (p ∷ planes) i j = (bit_at-lt (get_or p i 0) j, are_bits planes i j)

pub bits_in_length : (planes : List (List ℕ)) (i j : ℕ) → length (bits_in planes i j) ≡ length planes
bits_in_length [] i j = refl
bits_in_length (p ∷ planes) i j = ap suc (bits_in_length planes i j)

-- what a circuit does in each octet, where its bits agree with g
pub circuit_is : (lanes : ℕ) (basis : List ℕ) (gs : List Gate) (outs : List ℕ) (g : List ℕ → ℕ) (n : ℕ)
    (planes : List (List ℕ)) (i j : ℕ)
    → agree n (λ v. combined basis (bit_circuit gs outs v)) g ≡ true → length planes ≡ n
    → ArePlanes lanes planes → i < lanes
    → octet_in basis (circuit lanes gs outs planes) i j ≡ g (bits_in planes i j)
circuit_is lanes basis gs outs g n planes i j e len p h =
    ap (combined basis) (circuit_bits lanes gs outs planes i j p h)
    ∙ agreed n (λ v. combined basis (bit_circuit gs outs v)) g e (bits_in planes i j)
    (bits_in_length planes i j ∙ len) (are_bits planes i j)

-- ---- an octet of the blocks
pub octet_of : (lanes : ℕ) (basis : List ℕ) (planes : List (List ℕ)) (i j : ℕ) → i < lanes → j < 16
    → octet (blocks_in lanes basis planes) i j ≡ octet_in basis planes i j
unfolding blocks_in block_in
octet_of lanes basis planes i j h k =
    ap (λ b. get_or b j 0) (get_or-map-range_with_len (block_in basis planes) 0 lanes i i [] h (omega arith))
    ∙ get_or-map-range_with_len (octet_in basis planes i) 0 16 j j 0 k (omega arith)

pub octet_was : (lanes : ℕ) (basis : List ℕ) (planes blocks : List (List ℕ)) (i j : ℕ)
    → blocks_in lanes basis planes ≡ blocks → i < lanes → j < 16 → octet_in basis planes i j ≡ octet blocks i j
octet_was lanes basis planes blocks i j e h k = sym (octet_of lanes basis planes i j h k) ∙ ap (λ b. octet b i j) e

pub are_joined : (lanes : ℕ) (xs ys : List (List ℕ)) → ArePlanes lanes xs → ArePlanes lanes ys
    → ArePlanes lanes (xs ++ ys)
are_joined lanes [] ys a b = b
are_joined lanes (x ∷ xs) ys a b = (a.0, are_joined lanes xs ys a.1 b)

-- ---- with one more wire of ones

unfoldable pub ones : ℕ → List ℕ
ones lanes = replicate lanes 65535

bit_in-ones : (lanes : ℕ) (i j : ℕ) → i < lanes → j < 16 → bit_in (ones lanes) i j ≡ 1
unfolding bit_in ones
bit_in-ones lanes i j h k = ap (λ (n : ℕ). bit_at n j) (get_or-replicate lanes i 65535 0 h) ∙ bit_at_ones 16 j k

pub ones_planes : (lanes : ℕ) → ArePlanes lanes (ones lanes ∷ [])
unfolding ones
ones_planes lanes = (length-replicate lanes 65535, tt)

pub circuit_is_ones : (lanes : ℕ) (basis : List ℕ) (gs : List Gate) (outs : List ℕ) (g : List ℕ → ℕ) (n : ℕ)
    (planes : List (List ℕ)) (i j : ℕ)
    → agree n (λ v. combined basis (bit_circuit gs outs (v ++ 1 ∷ []))) g ≡ true → length planes ≡ n
    → ArePlanes lanes planes → i < lanes → j < 16
    → octet_in basis (circuit lanes gs outs (planes ++ ones lanes ∷ [])) i j ≡ g (bits_in planes i j)
circuit_is_ones lanes basis gs outs g n planes i j e len p h k =
    ap (combined basis) (circuit_bits lanes gs outs (planes ++ ones lanes ∷ []) i j
    (are_joined lanes planes (ones lanes ∷ []) p (ones_planes lanes)) h
    ∙ ap (bit_circuit gs outs) (bits_in-push planes (ones lanes) i j
    ∙ ap (λ (x : ℕ). bits_in planes i j ++ x ∷ []) (bit_in-ones lanes i j h k)))
    ∙ agreed n (λ v. combined basis (bit_circuit gs outs (v ++ 1 ∷ []))) g e (bits_in planes i j)
    (bits_in_length planes i j ∙ len) (are_bits planes i j)

-- ---- the xor of planes

unfoldable pub xor_each : List (List ℕ) → List (List ℕ) → List (List ℕ)
xor_each [] ys = []
xor_each (x ∷ xs) [] = []
xor_each (x ∷ xs) (y ∷ ys) = zip2 bit_xor x y ∷ xor_each xs ys

pub xor_octets : (lanes : ℕ) (basis : List ℕ) (xs ys : List (List ℕ)) (i j : ℕ) → length xs ≡ length ys
    → ArePlanes lanes xs → ArePlanes lanes ys → i < lanes
    → octet_in basis (xor_each xs ys) i j ≡ bit_xor (octet_in basis xs i j) (octet_in basis ys i j)
unfolding combined xor_each bit_in
xor_octets lanes [] xs ys i j len a b h = refl
xor_octets lanes (e ∷ basis) [] [] i j len a b h = refl
xor_octets lanes (e ∷ basis) [] (y ∷ ys) i j len a b h = absurd (omega arith)
xor_octets lanes (e ∷ basis) (x ∷ xs) [] i j len a b h = absurd (omega arith)
xor_octets lanes (e ∷ basis) (x ∷ xs) (y ∷ ys) i j len a b h =
    ap₂ bit_xor
    (ap (λ (d : ℕ). d * e) (bit_in-xor lanes x y i j a.0 b.0 h)
    ∙ digit_product (bit_in x i j) (bit_in y i j) e (bit_at-lt (get_or x i 0) j) (bit_at-lt (get_or y i 0) j))
    (xor_octets lanes basis xs ys i j (omega arith) a.1 b.1 h)
    ∙ xor_middle (bit_in x i j * e) (bit_in y i j * e) (octet_in basis xs i j) (octet_in basis ys i j)
