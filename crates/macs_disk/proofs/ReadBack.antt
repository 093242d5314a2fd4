-- What is read from a message is what was written there.
use Rattle.std.proofs.Common.{◌≡◌, ◌∙◌, ◌<◌, ◌^◌, ◌∷◌, ◌++◌, ℕ, List, Option, Some, None, false, true, sym, ap}
use Rattle.std.proofs.Common.{arith, length, take}
use Rattle.std.proofs.lemmas.List.{length-replicate, take_all}
use Rattle.std.proofs.lemmas.Nat.{from_be_bytes-to_be_bytes_8}
use Rattle.std.proofs.lemmas.Slice.Eq.{bytes_eq-Decides}
use Rattle.std.specs.Int.{from_be_bytes, to_be_bytes, w64}
use Rattle.std.specs.Str.{bytes_eq}
use Rattle.macs_disk.specs.DeviceCalls.{IsCall}
use Rattle.macs_disk.specs.Messages.{place_of, sector_of}
use Rattle.macs_disk.specs.States.{zero_sector}
use Rattle.macs_disk.specs.declared.device_call.DeviceCall.{DeviceCall}
use Rattle.macs_disk.specs.declared.device_call.DeviceCall.TheVariants.{Read, Write, Sync}

-- octets that are the same are not told apart
pub unlike : (xs ys : List ℕ) → bytes_eq xs ys ≡ false → xs ≡ ys → ⊥
unlike xs ys other same = let alike : bytes_eq xs ys ≡ true = (bytes_eq-Decides xs ys).1 same in cc

-- a number in front
pub number-back : (octets number rest : List ℕ) (read written : ℕ) → written < 2 ^ 64 → read ≡ from_be_bytes w64 number
    → number ≡ take 8 octets → octets ≡ to_be_bytes w64 written ++ rest → read ≡ written
number-back octets number rest read written small is first here =
    is ∙ ap (from_be_bytes w64) (first ∙ ap (take 8) here) ∙ from_be_bytes-to_be_bytes_8 written small

-- a sector behind it
pub sector-back : (octets sector read : List ℕ) → length sector ≡ 512 → read ≡ take 512 octets → octets ≡ sector
    → read ≡ sector
sector-back octets sector read size is here =
    is ∙ ap (take 512) here ∙ take_all 512 sector (omega (arith, size))

pub size-of-zeros : length zero_sector ≡ 512
unfolding zero_sector
size-of-zeros = length-replicate {A = ℕ} 512 0

-- the parts of a call as a program has it
pub place-small : (call : DeviceCall) → IsCall call → place_of call < 2 ^ 64
place-small (Read at) is = is
place-small (Write at octets) is = is.0
place-small Sync is = omega arith

pub sector-whole : (call : DeviceCall) → IsCall call → length (sector_of call) ≡ 512
sector-whole (Read at) is = size-of-zeros
sector-whole (Write at octets) is = is.1.size
sector-whole Sync is = size-of-zeros

-- nothing was found where there is something
pub never : {X : Type 0} (found : Option X) (x : X) → found ≡ None → found ≡ Some x → ⊥
never found x none some = let e : None ≡ Some x = sym none ∙ some in cc

-- what was found is what is there
pub same-one : {X : Type 0} (found : Option X) (x y : X) → found ≡ Some x → found ≡ Some y → x ≡ y
same-one found x y is was = let e : Some x ≡ Some y = sym is ∙ was in cc

-- the parts of a request, and of an answer
abbrev pub Three : Type 0
Three = ℕ × ℕ × List ℕ

abbrev three_of : ℕ → ℕ → List ℕ → Three
three_of k n s = (k, n, s)

abbrev pub Two : Type 0
Two = ℕ × List ℕ

abbrev two_of : ℕ → List ℕ → Two
two_of k s = (k, s)

pub same-three : (found : Option Three) (one other : Three) → found ≡ Some one → found ≡ Some other
    → (one.0 ≡ other.0) × (one.1 ≡ other.1) × (one.2 ≡ other.2)
same-three found one other is was =
    let same = same-one found one other is was in
    (ap (λ (t : Three). t.0) same, ap (λ (t : Three). t.1) same, ap (λ (t : Three). t.2) same)

pub same-two : (found : Option Two) (one other : Two) → found ≡ Some one → found ≡ Some other
    → (one.0 ≡ other.0) × (one.1 ≡ other.1)
same-two found one other is was =
    let same = same-one found one other is was in (ap (λ (t : Two). t.0) same, ap (λ (t : Two). t.1) same)

pub three : (k l n m : ℕ) (s t : List ℕ) → k ≡ l → n ≡ m → s ≡ t → Some (three_of k n s) ≡ Some (three_of l m t)
three k l n m s t first second third = λ i. Some (three_of (first i) (second i) (third i))

pub two : (k l : ℕ) (s t : List ℕ) → k ≡ l → s ≡ t → Some (two_of k s) ≡ Some (two_of l t)
two k l s t first second = λ i. Some (two_of (first i) (second i))

-- the front of octets, and what is behind it
pub front : (x y : ℕ) (xs ys zs : List ℕ) → zs ≡ x ∷ xs → zs ≡ y ∷ ys → (x ≡ y) × (xs ≡ ys)
front x y xs ys zs is was = let e : x ∷ xs ≡ y ∷ ys = sym is ∙ was in (cc, cc)
