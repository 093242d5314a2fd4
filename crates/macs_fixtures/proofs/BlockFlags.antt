-- Octets in memory, by the blocks that they lie in.
use Rattle.std.proofs.Common.{◌≡◌, ◌≤◌, ◌<◌, ◌+◌, ◌-◌, ◌*◌, ◌/◌, ◌%◌, inl, inr, ℕ, suc, not, nat_lt, Bool, true, false}
use Rattle.std.proofs.Common.{List, length, take, length-take-le, refl, ap, ◌∙◌, arith, subst, sym}
use Rattle.std.specs.Bool.{beq}
use Rattle.std.proofs.Math.Nat.{div-add-mod, div-lt_iff_lt-mul, mul_comm, suc-mul}
use Rattle.std.proofs.lemmas.Bool.{cases_lt}
use Rattle.std.proofs.lemmas.Bool.Decides.{nat_tests}
use Rattle.std.proofs.lemmas.List.{ext_get_or, get_or-take, get_or_past}
use Rattle.macs_disk.specs.Files.{values_from}
use Rattle.macs_disk.specs.FileEvidence.{length-values, value-at}
use Rattle.macs_fixtures.specs.Blocks.{are_octets, flag_in, is_in_first_half, left_of, octet_at}
use Rattle.macs_fixtures.specs.declared.blocks.Left.{Left}
use Rattle.macs_disk.specs.CallLists.{flag_at}

-- the first n blocks whose flag is this were copied
pub record Copied (block n : ℕ) (flags : List Bool) (which : Bool) (first from now : List ℕ) : Type 0 where
  pub same_length : length now ≡ length first
  pub copied : (p : ℕ) → p / block < n → flag_in block flags p ≡ which → octet_at now p ≡ octet_at from p
  pub others : (p : ℕ) → flag_in block flags p ≡ not which → octet_at now p ≡ octet_at first p
  pub rest : (p : ℕ) → n ≤ p / block → octet_at now p ≡ octet_at first p

-- the first n blocks whose flag is up were spoiled
pub record Spoiled (block n : ℕ) (flags : List Bool) (left : Left) (first written now : List ℕ) : Type 0 where
  pub same_length : length now ≡ length first
  pub spoiled : (p : ℕ) → p / block < n → flag_in block flags p ≡ true
      → octet_at now p ≡ left_of left (is_in_first_half block p) (octet_at first p) (octet_at written p)
  pub rest : (p : ℕ) → n ≤ p / block → octet_at now p ≡ octet_at first p
  pub kept : (p : ℕ) → flag_in block flags p ≡ false → octet_at now p ≡ octet_at first p
  pub octets : are_octets first → are_octets written → are_octets now

-- an octet is before a block, in it or after it
next-front : (n block : ℕ) → (n + 1) * block ≡ n * block + block
next-front n block = let step : n + 1 ≡ suc n = omega arith in rw step (suc-mul n block)

pub before-block : (block n p : ℕ) → 0 < block → p / block < n → p < n * block
before-block block n p some lt = (div-lt_iff_lt-mul some).0 lt

pub from-block : (block n p : ℕ) → 0 < block → n ≤ p / block → n * block ≤ p
from-block block n p some le = elim (cases_lt p (n * block)) [
  | inl lt ↦ let h = (div-lt_iff_lt-mul some).1 lt in absurd (omega (arith, h, le))
  | inr ge ↦ ge
]

pub to-block : (block n p : ℕ) → 0 < block → p / block ≡ n → p < n * block + block
to-block block n p some is =
    let h = before-block block (n + 1) p some (omega (arith, is)) in
    let k = next-front n block in
    omega (arith, h, k)

pub behind-block : (block n p : ℕ) → 0 < block → n < p / block → n * block + block ≤ p
behind-block block n p some lt =
    let h = from-block block (n + 1) p some (omega (arith, lt)) in
    let k = next-front n block in
    omega (arith, h, k)

-- whether a flag is this
pub is-this : (flag which : Bool) → beq flag which ≡ true → flag ≡ which
is-this true true is = refl
is-this true false is = absurd (let no : false ≡ true = is in cc)
is-this false true is = absurd (let no : false ≡ true = is in cc)
is-this false false is = refl

pub is-other : (flag which : Bool) → beq flag which ≡ false → flag ≡ not which
is-other true true is = absurd (let no : true ≡ false = is in cc)
is-other true false is = refl
is-other false true is = refl
is-other false false is = absurd (let no : true ≡ false = is in cc)

differ : (b : Bool) → b ≡ not b → (X : Type 0) → X
differ true is X = absurd (let no : false ≡ true = sym is in cc)
differ false is X = absurd (let no : false ≡ true = is in cc)

-- a block was passed over
pub copied-past : (block n : ℕ) (flags : List Bool) (which : Bool) (first from now : List ℕ)
    → flag_at flags n ≡ not which
    → Copied block n flags which first from now → Copied block (n + 1) flags which first from now
copied-past block n flags which first from now off was = record {
  same_length = was.same_length;
  copied = λ p lt on. elim (cases_lt (p / block) n) [
    | inl before ↦ was.copied p before on
    | inr ge ↦
        let here : p / block ≡ n = omega (arith, lt, ge) in
        differ which (sym on ∙ ap (flag_at flags) here ∙ off) (octet_at now p ≡ octet_at from p)
  ];
  others = was.others;
  rest = λ p le. was.rest p (omega (arith, le));
}

-- a block was copied
pub copied-one : (block n : ℕ) (flags : List Bool) (which : Bool) (first from old now : List ℕ) → 0 < block
    → flag_at flags n ≡ which
    → length now ≡ length old
    → ((p : ℕ) → n * block ≤ p → p < n * block + block → octet_at now p ≡ octet_at from p)
    → ((p : ℕ) → p < n * block → octet_at now p ≡ octet_at old p)
    → ((p : ℕ) → n * block + block ≤ p → octet_at now p ≡ octet_at old p)
    → Copied block n flags which first from old → Copied block (n + 1) flags which first from now
copied-one block n flags which first from old now some on size here front behind was = record {
  same_length = size ∙ was.same_length;
  copied = λ p lt up. elim (cases_lt (p / block) n) [
    | inl before ↦ front p (before-block block n p some before) ∙ was.copied p before up
    | inr ge ↦ here p (from-block block n p some ge) (to-block block n p some (omega (arith, lt, ge)))
  ];
  others = λ p off. elim (cases_lt (p / block) n) [
    | inl before ↦ front p (before-block block n p some before) ∙ was.others p off
    | inr ge ↦ elim (cases_lt n (p / block)) [
      | inl past ↦ behind p (behind-block block n p some past) ∙ was.others p off
      | inr le ↦
          let same : p / block ≡ n = omega (arith, le, ge) in
          differ which (sym on ∙ sym (ap (flag_at flags) same) ∙ off) (octet_at now p ≡ octet_at first p)
    ]
  ];
  rest = λ p le. behind p (behind-block block n p some (omega (arith, le))) ∙ was.rest p (omega (arith, le));
}

-- all blocks were copied
pub copied-all : (block n : ℕ) (flags : List Bool) (which : Bool) (first from now : List ℕ) → 0 < block
    → block * length flags ≡ length first
    → length from ≡ length first → length flags ≤ n → Copied block n flags which first from now
    → (p : ℕ) → flag_in block flags p ≡ which → octet_at now p ≡ octet_at from p
copied-all block n flags which first from now some blocks alike all was p on = elim (cases_lt p (length first)) [
  | inl within ↦
      let turned : block * length flags ≡ length flags * block = mul_comm block (length flags) in
      let h = (div-lt_iff_lt-mul some).1 (subst (λ (e : ℕ). p < e) (sym blocks ∙ turned) within) in
      was.copied p (omega (arith, h, all)) on
  | inr past ↦
      get_or_past now p 0 (subst (λ (e : ℕ). e ≤ p) (sym was.same_length) past)
      ∙ sym (get_or_past from p 0 (subst (λ (e : ℕ). e ≤ p) (sym alike) past))
]

-- a block was left as it is
pub spoiled-past : (block n : ℕ) (flags : List Bool) (left : Left) (first written now : List ℕ)
    → flag_at flags n ≡ false
    → Spoiled block n flags left first written now → Spoiled block (n + 1) flags left first written now
spoiled-past block n flags left first written now off was = record {
  same_length = was.same_length;
  spoiled = λ p lt up. elim (cases_lt (p / block) n) [
    | inl before ↦ was.spoiled p before up
    | inr ge ↦
        let here : p / block ≡ n = omega (arith, lt, ge) in
        differ true (sym up ∙ ap (flag_at flags) here ∙ off)
        (octet_at now p ≡ left_of left (is_in_first_half block p) (octet_at first p) (octet_at written p))
  ];
  rest = λ p le. was.rest p (omega (arith, le));
  kept = was.kept;
  octets = was.octets;
}

-- the first half of block n
first-half : (block n p : ℕ) → p / block ≡ n → nat_lt p (n * block + block / 2) ≡ is_in_first_half block p
first-half block n p is =
    let whole : block * (p / block) + p % block ≡ p = div-add-mod p block in
    let front : block * (p / block) ≡ n * block = ap (λ (c : ℕ). block * c) is ∙ mul_comm block n in
    elim (cases_lt (p % block) (block / 2)) [
      | inl lt ↦ lt-true p (n * block + block / 2) (omega (arith, whole, front, lt))
          ∙ sym (lt-true (p % block) (block / 2) lt)
      | inr ge ↦ lt-false p (n * block + block / 2) (omega (arith, whole, front, ge))
          ∙ sym (lt-false (p % block) (block / 2) ge)
    ] where
      lt-true : (a b : ℕ) → a < b → nat_lt a b ≡ true
      lt-true a b lt = grind (arith, nat_tests, lt)

      lt-false : (a b : ℕ) → b ≤ a → nat_lt a b ≡ false
      lt-false a b ge = grind (arith, nat_tests, ge)

-- a block was spoiled
pub spoiled-one : (block n : ℕ) (flags : List Bool) (left : Left) (first written old now : List ℕ) → 0 < block
    → flag_at flags n ≡ true
    → length now ≡ length old
    → ((p : ℕ) → n * block ≤ p → p < n * block + block
    → octet_at now p ≡ left_of left (nat_lt p (n * block + block / 2)) (octet_at old p) (octet_at written p))
    → ((p : ℕ) → p < n * block → octet_at now p ≡ octet_at old p)
    → ((p : ℕ) → n * block + block ≤ p → octet_at now p ≡ octet_at old p)
    → (are_octets old → are_octets written → are_octets now)
    → Spoiled block n flags left first written old → Spoiled block (n + 1) flags left first written now
spoiled-one block n flags left first written old now some up size here front behind octets was = record {
  same_length = size ∙ was.same_length;
  spoiled = λ p lt on. elim (cases_lt (p / block) n) [
    | inl before ↦ front p (before-block block n p some before) ∙ was.spoiled p before on
    | inr ge ↦
        let same : p / block ≡ n = omega (arith, lt, ge) in
        here p (from-block block n p some ge) (to-block block n p some same)
        ∙ ap (λ (b : Bool). left_of left b (octet_at old p) (octet_at written p)) (first-half block n p same)
        ∙ ap (λ (o : ℕ). left_of left (is_in_first_half block p) o (octet_at written p)) (was.rest p ge)
  ];
  rest = λ p le. behind p (behind-block block n p some (omega (arith, le))) ∙ was.rest p (omega (arith, le));
  kept = λ p off. elim (cases_lt (p / block) n) [
    | inl before ↦ front p (before-block block n p some before) ∙ was.kept p off
    | inr ge ↦ elim (cases_lt n (p / block)) [
      | inl past ↦ behind p (behind-block block n p some past) ∙ was.kept p off
      | inr le ↦
          let same : p / block ≡ n = omega (arith, le, ge) in
          differ true (sym up ∙ sym (ap (flag_at flags) same) ∙ off) (octet_at now p ≡ octet_at first p)
    ]
  ];
  octets = λ h k. octets (was.octets h k) k;
}

-- octets were fetched
pub fetched-all : (from into : List ℕ) (at count : ℕ) → count ≤ length into
    → ((k : ℕ) → k < count → octet_at into k ≡ octet_at from (at + k))
    → take count into ≡ values_from (octet_at from) at count
fetched-all from into at count room fetched =
    let size : length (take count into) ≡ count = length-take-le count into room in
    ext_get_or 0 (take count into) (values_from (octet_at from) at count)
    (size ∙ sym (length-values (octet_at from) at count))
    (λ k lt.
    let within : k < count = omega (arith, lt, size) in
    get_or-take count into k 0 within ∙ fetched k within ∙ sym (value-at (octet_at from) at count k 0 within))

-- all blocks were spoiled
pub spoiled-all : (block n : ℕ) (flags : List Bool) (left : Left) (first written now : List ℕ) → length flags ≤ n
    → Spoiled block n flags left first written now → (p : ℕ) → flag_in block flags p ≡ true
    → octet_at now p ≡ left_of left (is_in_first_half block p) (octet_at first p) (octet_at written p)
spoiled-all block n flags left first written now all was p up = elim (cases_lt (p / block) n) [
  | inl before ↦ was.spoiled p before up
  | inr ge ↦ differ true (sym up ∙ get_or_past flags (p / block) false (omega (arith, all, ge)))
      (octet_at now p ≡ left_of left (is_in_first_half block p) (octet_at first p) (octet_at written p))
]
