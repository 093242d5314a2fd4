-- Writes of a file, one after the other.
use Rattle.std.proofs.Common.{◌≡◌, ◌≤◌, ◌<◌, ◌+◌, ◌-◌, ◌*◌, ◌^◌, ◌&&◌, inl, inr, ℕ, zero, suc, ◌||◌, ◌⊎◌, max, Bool}
use Rattle.std.proofs.Common.{true, false, List, [], ◌∷◌, ◌++◌, length, get_or, take, drop, length-take-le, nat_le}
use Rattle.std.proofs.Common.{nat_lt, refl, replicate, ap, ◌∙◌, arith, subst, sym, Result, Ok, Err, IsErr}
use Rattle.std.proofs.lemmas.Bool.{cases_lt, le-leb, lt-leb, lt-ltb, le-ltb}
use Rattle.std.proofs.lemmas.List.{get_or_past, get_or-replicate, length-replicate, replicate-append-replicate}
use Rattle.std.proofs.lemmas.List.{take-take}
use lib.Seq.{take-add}
use Rattle.macs_disk.specs.Files.{FileState, AreOctets, IsSure, WritesAll, WritesSome, put_from, has_some, values_from}
use Rattle.macs_disk.specs.Files.{file_after_write}
use Rattle.macs_disk.specs.FileEvidence.{length-values, value-at}

-- a write of nothing
put-none : {X : Type 0} (f : ℕ → X) (at p : ℕ) → put_from f at [] p ≡ f p
put-none f at p = elim (cases_lt p at) [
  | inl before ↦ let no = lt-leb at p before in rw no refl
  | inr from ↦ let yes = le-leb at p from in rw yes refl
]

-- two writes, one after another
pub get_or-front : {X : Type 0} (xs ys : List X) (i : ℕ) (d : X) → i < length xs → get_or (xs ++ ys) i d ≡ get_or xs i d
get_or-front [] ys i d lt = absurd (omega (arith, lt))
get_or-front (x ∷ xs) ys zero d lt = refl
get_or-front (x ∷ xs) ys (suc i) d lt = get_or-front xs ys i d (omega (arith, lt))

pub get_or-behind : {X : Type 0} (xs ys : List X) (i : ℕ) (d : X) → get_or (xs ++ ys) (length xs + i) d ≡ get_or ys i d
get_or-behind [] ys i d = let none_more : 0 + i ≡ i = omega arith in ap (λ (k : ℕ). get_or ys k d) none_more
get_or-behind (x ∷ xs) ys i d = let step : length (x ∷ xs) + i ≡ suc (length xs + i) = omega arith in
    rw step (get_or-behind xs ys i d)

pub put-at : {X : Type 0} (f : ℕ → X) (at p : ℕ) (xs : List X) → at ≤ p → put_from f at xs p ≡ get_or xs (p - at) (f p)
put-at f at p xs le = let yes = le-leb at p le in rw yes refl

pub put-before : {X : Type 0} (f : ℕ → X) (at p : ℕ) (xs : List X) → p < at → put_from f at xs p ≡ f p
put-before f at p xs lt = let no = lt-leb at p lt in rw no refl

pub put-behind : {X : Type 0} (f : ℕ → X) (at p : ℕ) (xs : List X) → at + length xs ≤ p → put_from f at xs p ≡ f p
put-behind f at p xs le = put-at f at p xs (omega (arith, le)) ∙ get_or_past xs (p - at) (f p) (omega (arith, le))

pub put-put : {X : Type 0} (f : ℕ → X) (at mid p : ℕ) (xs ys : List X) → mid ≡ at + length xs
    → put_from (put_from f at xs) mid ys p ≡ put_from f at (xs ++ ys) p
put-put f at mid p xs ys is = elim (cases_lt p at) [
  | inl before ↦ put-before (put_from f at xs) mid p ys (omega (arith, is, before)) ∙ put-before f at p xs before
      ∙ sym (put-before f at p (xs ++ ys) before)
  | inr from ↦ elim (cases_lt p mid) [
    | inl front ↦
        put-before (put_from f at xs) mid p ys front ∙ put-at f at p xs from
        ∙ sym (put-at f at p (xs ++ ys) from ∙ get_or-front xs ys (p - at) (f p) (omega (arith, is, front, from)))
    | inr behind ↦
        let place : p - at ≡ length xs + (p - mid) = omega (arith, is, behind, from) in
        put-at (put_from f at xs) mid p ys behind
        ∙ ap (λ (d : _). get_or ys (p - mid) d) (put-behind f at p xs (omega (arith, is, behind)))
        ∙ sym (put-at f at p (xs ++ ys) from ∙ ap (λ (i : ℕ). get_or (xs ++ ys) i (f p)) place
        ∙ get_or-behind xs ys (p - mid) (f p))
  ]
]

pub length-joined : (xs ys : List ℕ) → length (xs ++ ys) ≡ length xs + length ys
length-joined [] ys = omega arith
length-joined (x ∷ xs) ys = let h = length-joined xs ys in omega (arith, h)

durable-joined : (b : Bool) (size first second : ℕ)
    → ((b && nat_le first size) && nat_le second (max size first)) ≡ (b && nat_le (max first second) size)
durable-joined false size first second = refl
durable-joined true size first second = elim (cases_lt size first) [
  | inl beyond ↦ let no = lt-leb first size beyond in
      let both = lt-leb (max first second) size (omega (arith, beyond)) in rw (no, both) refl
  | inr within ↦
      let yes = le-leb first size within in
      let same : max size first ≡ size = omega (arith, within) in
      elim (cases_lt size second) [
        | inl beyond ↦ let no = lt-leb second size beyond in
            let both = lt-leb (max first second) size (omega (arith, beyond)) in rw (yes, same, no, both) refl
        | inr fits ↦ let also = le-leb second size fits in
            let both = le-leb (max first second) size (omega (arith, within, fits)) in rw (yes, same, also, both) refl
      ]
]

-- a block that ends after its front has octets of two parts, or of the whole
either-part : (front end from mid to : ℕ) (rest : Bool) → front < end → from ≤ mid → mid ≤ to
    → ((nat_lt front to && nat_lt mid end) || ((nat_lt front mid && nat_lt from end) || rest))
    ≡ ((nat_lt front to && nat_lt from end) || rest)
either-part front end from mid to rest wide first second = elim (cases_lt front mid) [
  | inl before ↦
      let a = lt-ltb front mid before in
      let b = lt-ltb front to (omega (arith, before, second)) in
      elim (cases_lt from end) [
        | inl reaches ↦ let c = lt-ltb from end reaches in rw (a, b, c) (by-true (nat_lt mid end) rest)
        | inr past ↦
            let c = le-ltb from end past in
            let d = le-ltb mid end (omega (arith, past, first)) in
            rw (a, b, c, d) refl
      ]
  | inr from_mid ↦
      let a = le-ltb front mid from_mid in
      let c = lt-ltb from end (omega (arith, wide, from_mid, first)) in
      let d = lt-ltb mid end (omega (arith, wide, from_mid)) in
      rw (a, c, d) refl
] where
  by-true : (b rest : Bool) → (b || (true || rest)) ≡ (true || rest)
  by-true true rest = refl
  by-true false rest = refl

append-none : (xs : List ℕ) → xs ++ [] ≡ xs
append-none [] = refl
append-none (x ∷ xs) = ap (λ (l : List ℕ). x ∷ l) (append-none xs)

pub write-write : (file : FileState) (at mid : ℕ) (xs ys : List ℕ) → 0 < file.block → mid ≡ at + length xs
    → file_after_write (file_after_write file at xs) mid ys ≡ file_after_write file at (xs ++ ys)
write-write file at mid [] ys wide is = let same : mid ≡ at = omega (arith, is) in
    ap (λ (p : ℕ). file_after_write file p ys) same
write-write file at mid (x ∷ xs) [] wide is =
    ap (λ (l : List ℕ). file_after_write file at (x ∷ l)) (sym (append-none xs))
write-write file at mid (x ∷ xs) (y ∷ ys) wide is = λ j. record {
  behaves = file.behaves;
  block = file.block;
  size = size j;
  is_size_durable = durable j;
  seen = λ p. put-put file.seen at mid p (x ∷ xs) (y ∷ ys) is j;
  durable = file.durable;
  pending = λ n. flags n j;
  is_clean = false;
  is_sure = file.is_sure;
  is_claimed = file.is_claimed;
} where
  ends : at + length (x ∷ (xs ++ (y ∷ ys))) ≡ mid + length (y ∷ ys)
  ends = let h = length-joined (x ∷ xs) (y ∷ ys) in omega (arith, h, is)

  size : max (max file.size (at + length (x ∷ xs))) (mid + length (y ∷ ys))
      ≡ max file.size (at + length (x ∷ (xs ++ (y ∷ ys))))
  size = omega (arith, ends, is)

  both : max (at + length (x ∷ xs)) (mid + length (y ∷ ys)) ≡ at + length (x ∷ (xs ++ (y ∷ ys)))
  both = omega (arith, ends, is)

  durable : ((file.is_size_durable && nat_le (at + length (x ∷ xs)) file.size)
      && nat_le (mid + length (y ∷ ys)) (max file.size (at + length (x ∷ xs))))
      ≡ (file.is_size_durable && nat_le (at + length (x ∷ (xs ++ (y ∷ ys)))) file.size)
  durable = durable-joined file.is_size_durable file.size (at + length (x ∷ xs)) (mid + length (y ∷ ys))
      ∙ ap (λ (e : ℕ). file.is_size_durable && nat_le e file.size) both

  flags : (n : ℕ) → (has_some file.block mid (mid + length (y ∷ ys)) n
      || (has_some file.block at (at + length (x ∷ xs)) n || file.pending n))
      ≡ (has_some file.block at (at + length (x ∷ (xs ++ (y ∷ ys)))) n || file.pending n)
  flags n = ap (λ (e : ℕ). has_some file.block mid (mid + length (y ∷ ys)) n
      || (has_some file.block at e n || file.pending n)) (sym is)
      ∙ either-part (file.block * n) (file.block * n + file.block)
      at mid (mid + length (y ∷ ys)) (file.pending n) (omega (arith, wide)) (omega (arith, is)) (omega arith)
      ∙ ap (λ (e : ℕ). has_some file.block at e n || file.pending n) (sym ends)

-- what a write leaves, field by field
pub write-seen : (file : FileState) (at : ℕ) (xs : List ℕ) (p : ℕ)
    → (file_after_write file at xs).seen p ≡ put_from file.seen at xs p
write-seen file at [] p = sym (put-none file.seen at p)
write-seen file at (x ∷ xs) p = refl

pub write-size : (file : FileState) (at : ℕ) (xs : List ℕ) → 0 < length xs
    → (file_after_write file at xs).size ≡ max file.size (at + length xs)
write-size file at [] some = absurd (omega (arith, some))
write-size file at (x ∷ xs) some = refl

-- a write changes neither how many octets a block has nor whether the file is sure
pub write-block : (file : FileState) (at : ℕ) (xs : List ℕ) → (file_after_write file at xs).block ≡ file.block
write-block file at [] = refl
write-block file at (x ∷ xs) = refl

pub write-sure : (file : FileState) (at : ℕ) (xs : List ℕ) → (file_after_write file at xs).is_sure ≡ file.is_sure
write-sure file at [] = refl
write-sure file at (x ∷ xs) = refl

pub write-behaves : (file : FileState) (at : ℕ) (xs : List ℕ) → (file_after_write file at xs).behaves ≡ file.behaves
write-behaves file at [] = refl
write-behaves file at (x ∷ xs) = refl

-- nothing was written
pub some-none : (old new : FileState) (at most : ℕ) → new ≡ old → WritesSome old new at most
some-none old new at most same = ([], omega arith, λ i. omega arith, same)

pub octets-joined : (xs ys : List ℕ) → AreOctets xs → AreOctets ys → AreOctets (xs ++ ys)
octets-joined xs ys first second i = elim (cases_lt i (length xs)) [
  | inl front ↦ subst (λ (v : ℕ). v < 2 ^ 8) (sym (get_or-front xs ys i 0 front)) (first i)
  | inr behind ↦
      let place : i ≡ length xs + (i - length xs) = omega (arith, behind) in
      subst (λ (v : ℕ). v < 2 ^ 8) (sym (ap (λ (k : ℕ). get_or (xs ++ ys) k 0) place
      ∙ get_or-behind xs ys (i - length xs) 0)) (second (i - length xs))
]

-- some octets were written, and then some after them
pub some-behind : (old mid new : FileState) (at place most room : ℕ) (xs : List ℕ) → 0 < old.block → AreOctets xs
    → mid ≡ file_after_write old at xs → place ≡ at + length xs
    → WritesSome mid new place room → length xs + room ≤ most → WritesSome old new at most
some-behind old mid new at place most room xs wide octets first is some fits =
    let ys = some.0 in (
      xs ++ ys,
      (let h = length-joined xs ys in let le = some.1 in omega (arith, h, le, fits)),
      octets-joined xs ys octets some.2,
      some.3 ∙ ap (λ (f : FileState). file_after_write f place ys) first ∙ write-write old at place xs ys wide is,
    )

pub length-take-most : (n : ℕ) (xs : List ℕ) → length (take n xs) ≤ n
length-take-most zero xs = omega arith
length-take-most (suc n) [] = omega arith
length-take-most (suc n) (x ∷ xs) = let h = length-take-most n xs in omega (arith, h)

-- a write goes on after what was written
pub write-more : (old mid new : FileState) (at place done count room : ℕ) (from : List ℕ) → 0 < old.block
    → mid ≡ file_after_write old at (take done from)
    → place ≡ at + done → done ≤ length from → count ≤ room
    → new ≡ file_after_write mid place (take count (take room (drop done from)))
    → new ≡ file_after_write old at (take (done + count) from)
write-more old mid new at place done count room from wide so_far is within fits here =
    let front : length (take done from) ≡ done = length-take-le done from within in
    let part : take count (take room (drop done from)) ≡ take count (drop done from) =
    take-take count room (drop done from) fits in
    here ∙ ap (λ (f : FileState). file_after_write f place (take count (take room (drop done from)))) so_far
    ∙ write-write old at place (take done from) (take count (take room (drop done from))) wide
    (is ∙ ap (λ (n : ℕ). at + n) (sym front))
    ∙ ap (λ (l : List ℕ). file_after_write old at (take done from ++ l)) part
    ∙ ap (λ (l : List ℕ). file_after_write old at l) (sym (take-add done count from))

-- the first of some octets
pub octets-front : (count : ℕ) (xs : List ℕ) → ((i : ℕ) → get_or xs i 0 < 2 ^ 8) → AreOctets (take count xs)
octets-front zero xs octets i = omega arith
octets-front (suc n) [] octets i = omega arith
octets-front (suc n) (x ∷ xs) octets zero = octets 0
octets-front (suc n) (x ∷ xs) octets (suc i) = octets-front n xs (λ k. octets (suc k)) i

-- a part is no longer than what is left
pub part-fits : (count room done : ℕ) (from : List ℕ) → count ≤ length (take room (drop done from)) → count ≤ room
part-fits count room done from fits = let h = length-take-most room (drop done from) in omega (arith, h, fits)

-- a write that failed after what was written
pub failed-behind : (old mid new : FileState) (at place done room : ℕ) (from : List ℕ) → 0 < old.block
    → ((i : ℕ) → get_or from i 0 < 2 ^ 8) → mid ≡ file_after_write old at (take done from)
    → place ≡ at + done → done + room ≤ length from → WritesSome mid new place (length (take room (drop done from)))
    → WritesSome old new at (length from)
failed-behind old mid new at place done room from wide octets so_far is inside some =
    let h = length-take-le done from (omega (arith, inside)) in
    let k = length-take-most room (drop done from) in
    some-behind old mid new at place (length from) (length (take room (drop done from))) (take done from) wide
    (octets-front done from octets) so_far (omega (arith, is, h)) some
    (omega (arith, h, k, inside))

-- values of octets are octets
pub small-values : (f : ℕ → ℕ) (at count : ℕ) → ((p : ℕ) → f p < 2 ^ 8) → AreOctets (values_from f at count)
small-values f at count small i = elim (cases_lt i count) [
  | inl lt ↦ subst (λ (v : ℕ). v < 2 ^ 8) (sym (value-at f at count i 0 lt)) (small (at + i))
  | inr past ↦ subst (λ (v : ℕ). v < 2 ^ 8)
      (sym (get_or_past (values_from f at count) i 0 (subst (λ (n : ℕ). n ≤ i) (sym (length-values f at count)) past)))
      (omega arith)
]

-- zeros go on after zeros
pub zeros-more : (old mid new : FileState) (from at count : ℕ) (zeros : List ℕ) → 0 < old.block
    → mid ≡ file_after_write old from (replicate (at - from) 0) → from ≤ at
    → zeros ≡ replicate count 0 → new ≡ file_after_write mid at zeros
    → new ≡ file_after_write old from (replicate (at + count - from) 0)
zeros-more old mid new from at count zeros wide so_far ordered are here =
    let before : List ℕ = replicate (at - from) 0 in
    let size : length before ≡ at - from = length-replicate {A = ℕ} (at - from) 0 in
    let place : at ≡ from + length before = omega (arith, size, ordered) in
    let sum : (at - from) + count ≡ at + count - from = omega (arith, ordered) in
    let joined : before ++ replicate count 0 ≡ replicate (at + count - from) 0 =
    replicate-append-replicate (at - from) count 0 ∙ (λ i. replicate (sum i) 0) in
    here ∙ (λ i. file_after_write (so_far i) at (are i)) ∙ write-write old from at before (replicate count 0) wide place
    ∙ (λ i. file_after_write old from (joined i))

zeros-octets : (n : ℕ) → AreOctets (replicate n 0)
zeros-octets n i = elim (cases_lt i n) [
  | inl lt ↦ subst (λ (v : ℕ). v < 2 ^ 8) (sym (get_or-replicate n i 0 0 lt)) (omega arith)
  | inr past ↦
      let size : length (replicate {A = ℕ} n 0) ≡ n = length-replicate {A = ℕ} n 0 in
      subst (λ (v : ℕ). v < 2 ^ 8) (sym (get_or_past (replicate n 0) i 0 (omega (arith, size, past)))) (omega arith)
]

-- zeros that a write failed after
pub zeros-failed : (old mid new : FileState) (from at to most : ℕ) → 0 < old.block
    → mid ≡ file_after_write old from (replicate (at - from) 0) → from ≤ at
    → WritesSome mid new at most → at + most ≤ to → WritesSome old new from (length (replicate {A = ℕ} (to - from) 0))
zeros-failed old mid new from at to most wide is ordered some within =
    let done : length (replicate {A = ℕ} (at - from) 0) ≡ at - from = length-replicate {A = ℕ} (at - from) 0 in
    let all : length (replicate {A = ℕ} (to - from) 0) ≡ to - from = length-replicate {A = ℕ} (to - from) 0 in
    some-behind old mid new from at (length (replicate {A = ℕ} (to - from) 0)) most (replicate (at - from) 0) wide
    (zeros-octets (at - from)) is (omega (arith, done, ordered)) some
    (omega (arith, done, all, ordered, within))

-- a write that failed, by the result that is handed on
pub failed-writes : {T E : Type 0} (old new : FileState) (at : ℕ) (octets : List ℕ) (result : Result T E) → IsErr result
    → (IsSure old → WritesSome old new at (length octets)) → (old.is_sure ≡ false → new.is_sure ≡ false)
    → WritesAll old new at octets result
failed-writes old new at octets (Ok x) is some doubt = absurd (let no : false ≡ true = is in cc)
failed-writes old new at octets (Err e) is some doubt = record { ok = λ _. tt; err = some; doubt = doubt }
