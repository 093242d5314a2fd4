-- Fingerprints that are read and written one after the other.
use Rattle.std.proofs.Common.{◌≡◌, ◌≤◌, ◌<◌, ◌+◌, ◌++◌, ◌∙◌, ℕ, List, [], ◌∷◌, length, take, get_or, Some, None, Option}
use Rattle.std.proofs.Common.{refl, sym, subst, ap, arith, append_assoc, length-append}
use Rattle.std.specs.List.{All, concat}
use Rattle.std.proofs.lemmas.List.{take_all, take_more}
use Rattle.std.proofs.lemmas.List.Elements.{All-cons, All-head, All-more, All-nil, All-push, All-same, All-tail}
use Rattle.std.proofs.lemmas.List.Folds.{concat-append}
use Rattle.macs_record.specs.Layout.{fingerprint_octets}
use Rattle.macs_fields.specs.Fields.{IsOctets}
use Rattle.macs_record.specs.Ranges.{IsFingerprints}
use Rattle.macs_record.proofs.Numbers.{never}

append_nil : (xs : List ℕ) → xs ++ [] ≡ xs
append_nil [] = refl
append_nil (x ∷ xs) = ap (λ (ys : List ℕ). x ∷ ys) (append_nil xs)

-- one more after those that are joined
pub concat_push : (items : List (List ℕ)) (item : List ℕ) → concat (items ++ item ∷ []) ≡ concat items ++ item
concat_push items item = concat-append items (item ∷ []) ∙ ap (λ (end : List ℕ). concat items ++ end) (append_nil item)

-- some octets are read where they are
abbrev pub OctetsFound : List ℕ → Option (List ℕ) → List ℕ → Type 0
OctetsFound octets result left = (item rest : List ℕ) → length item ≡ 32 → octets ≡ item ++ rest
    → (result ≡ Some item) × (left ≡ rest)

-- so many of the fingerprints are read, and the octets that are left hold the others
pub record IsRead (count at : ℕ) (old new : List ℕ) (items : List (List ℕ)) : Type 0 where
  pub size : length items ≡ at
  pub few : at ≤ 15
  pub each : All (IsOctets 32) items
  pub whole : old ≡ count ∷ (concat items ++ new)
  pub found : (all : List (List ℕ)) (rest : List ℕ) → IsFingerprints all → old ≡ fingerprint_octets all ++ rest
      → (more : List (List ℕ)) × (all ≡ items ++ more) × (new ≡ concat more ++ rest)

-- the octets of the next of them are in front
next : (octets left : List ℕ) (result : Option (List ℕ)) → OctetsFound octets result left
    → (item : List ℕ) (more : List (List ℕ)) (rest : List ℕ)
    → All (IsOctets 32) (item ∷ more) → octets ≡ concat (item ∷ more) ++ rest
    → (result ≡ Some item) × (left ≡ concat more ++ rest)
next octets left result found item more rest are here =
    found item (concat more ++ rest) (All-head (IsOctets 32) item more are).size
    (here ∙ append_assoc item (concat more) rest)

-- ---- the first

first_found : (count : ℕ) (old octets new first : List ℕ) → old ≡ count ∷ octets → OctetsFound octets (Some first) new
    → (all : List (List ℕ)) (rest : List ℕ) → IsFingerprints all → old ≡ fingerprint_octets all ++ rest
    → (more : List (List ℕ)) × (all ≡ (first ∷ []) ++ more) × (new ≡ concat more ++ rest)
first_found count old octets new first whole found [] rest are here = absurd (omega (arith, are.0))
first_found count old octets new first whole found (item ∷ more) rest are here =
    let behind : octets ≡ concat (item ∷ more) ++ rest = cc in
    let step = next octets new (Some first) found item more rest are.2 behind in
    let chosen = step.0 in
    let same : item ≡ first = cc in
    (more, ap (λ (x : List ℕ). x ∷ more) same, step.1)

pub first_read : (count : ℕ) (old octets new first : List ℕ) → old ≡ count ∷ octets → octets ≡ first ++ new
    → IsOctets 32 first
    → OctetsFound octets (Some first) new → IsRead count 1 old new (first ∷ [])
first_read count old octets new first whole here is found = record {
  size = refl;
  few = omega arith;
  each = All-cons (IsOctets 32) first [] is (All-nil (IsOctets 32));
  whole = whole ∙ ap (λ (xs : List ℕ). count ∷ xs) (here ∙ ap (λ (xs : List ℕ). xs ++ new) (sym (append_nil first)));
  found = first_found count old octets new first whole found;
}

-- ---- the next

abbrev Next : List (List ℕ) → List (List ℕ) → List ℕ → List ℕ → Type 0
Next all items octets rest =
    (item : List ℕ) × (more : List (List ℕ)) × (all ≡ items ++ (item ∷ more)) × (octets ≡ concat (item ∷ more) ++ rest)

next_of : (all items more : List (List ℕ)) (octets rest : List ℕ) → length items < length all → all ≡ items ++ more
    → octets ≡ concat more ++ rest
    → Next all items octets rest
next_of all items [] octets rest fewer split left = absurd (omega (arith, ap length split, length-append {A = List ℕ}))
next_of all items (item ∷ more) octets rest fewer split left = (item, more, split, left)

counted : (count : ℕ) (old octets rest : List ℕ) (all : List (List ℕ)) → old ≡ count ∷ octets
    → old ≡ fingerprint_octets all ++ rest → count ≡ length all
counted count old octets rest all whole here = cc

-- there is a next one while fewer are read than are counted
pub more_there : (count at : ℕ) (old octets : List ℕ) (items : List (List ℕ)) → IsRead count at old octets items
    → at < count
    → (all : List (List ℕ)) (rest : List ℕ) → IsFingerprints all → old ≡ fingerprint_octets all ++ rest
    → Next all items octets rest
more_there count at old octets items read below all rest are here =
    let before = read.found all rest are here in
    let as_counted = counted count old _ rest all read.whole here in
    let fewer : length items < length all = omega (arith, read.size) in
    next_of all items before.0 octets rest fewer before.1 before.2

-- those of the rest are in their range
behind : (all items more : List (List ℕ)) → all ≡ items ++ more → All (IsOctets 32) all → All (IsOctets 32) more
behind all [] more split are = All-same (IsOctets 32) more all (sym split) are
behind all (item ∷ items) more split are = behind (items ++ more) items more refl
    (All-tail (IsOctets 32) item (items ++ more) (All-same (IsOctets 32) (item ∷ (items ++ more)) all (sym split) are))

pub next_none : (count at : ℕ) (old octets left : List ℕ) (items : List (List ℕ)) → IsRead count at old octets items
    → at < count
    → OctetsFound octets None left
    → (all : List (List ℕ)) (rest : List ℕ) → IsFingerprints all → old ≡ fingerprint_octets all ++ rest → ⊥
next_none count at old octets left items read below found all rest are here =
    let there = more_there count at old octets items read below all rest are here in
    never there.0
    (next octets left None found there.0 there.1 rest (behind all items (there.0 ∷ there.1) there.2 are.2) there.3)

next_found : (count at : ℕ) (old octets new item : List ℕ) (items : List (List ℕ)) → IsRead count at old octets items
    → at < count
    → OctetsFound octets (Some item) new
    → (all : List (List ℕ)) (rest : List ℕ) → IsFingerprints all → old ≡ fingerprint_octets all ++ rest
    → (more : List (List ℕ)) × (all ≡ (items ++ item ∷ []) ++ more) × (new ≡ concat more ++ rest)
next_found count at old octets new item items read below found all rest are here =
    let there = more_there count at old octets items read below all rest are here in
    let step = next octets new (Some item) found there.0 there.1 rest
    (behind all items (there.0 ∷ there.1) there.2 are.2) there.3 in
    let chosen = step.0 in
    let same : there.0 ≡ item = cc in (
      there.1,
      there.2 ∙ ap (λ (x : List ℕ). items ++ (x ∷ there.1)) same ∙ sym (append_assoc items (item ∷ []) there.1),
      step.1,
    )

pub next_read : (count at : ℕ) (old octets new item : List ℕ) (items : List (List ℕ)) → IsRead count at old octets items
    → at < count
    → length items < 15 → octets ≡ item ++ new → IsOctets 32 item → OctetsFound octets (Some item) new
    → IsRead count (at + 1) old new (items ++ item ∷ [])
next_read count at old octets new item items read below room here is found = record {
  size = omega (arith, read.size, length-append items (item ∷ []));
  few = omega (arith, read.size);
  each = All-push (IsOctets 32) items item read.each is;
  whole =
      read.whole ∙ ap (λ (xs : List ℕ). count ∷ (concat items ++ xs)) here
      ∙ ap (λ (xs : List ℕ). count ∷ xs) (sym (append_assoc (concat items) item new))
      ∙ ap (λ (xs : List ℕ). count ∷ (xs ++ new)) (sym (concat_push items item));
  found = next_found count at old octets new item items read below found;
}

-- ---- written

pub written_next : (front writer new : List ℕ) (n at : ℕ) (given items : List (List ℕ)) (d : List ℕ) → given ≡ items
    → at < length given
    → writer ≡ front ++ (n ∷ concat (take at items)) → new ≡ writer ++ get_or given at d
    → new ≡ front ++ (n ∷ concat (take (at + 1) items))
written_next front writer new n at given items d same within written appended =
    let item : List ℕ = get_or given at d in
    let more : concat (take (at + 1) items) ≡ concat (take at items) ++ item =
    ap (λ (xs : List (List ℕ)). concat (take (at + 1) xs)) (sym same) ∙ ap concat (take_more given at d within)
    ∙ concat_push (take at given) item
    ∙ ap (λ (xs : List (List ℕ)). concat (take at xs) ++ item) same in
    appended ∙ ap (λ (xs : List ℕ). xs ++ item) written ∙ append_assoc front (n ∷ concat (take at items)) item
    ∙ ap (λ (xs : List ℕ). front ++ (n ∷ xs)) (sym more)

-- ---- in their range

pub range_next : (given items : List (List ℕ)) (at : ℕ) (d : List ℕ) → given ≡ items → at < length given
    → All (IsOctets 32) (take at items)
    → IsOctets 32 (get_or given at d) → All (IsOctets 32) (take (at + 1) items)
range_next given items at d same within before is =
    subst (λ (xs : List (List ℕ)). All (IsOctets 32) (take (at + 1) xs)) same
    (All-more (IsOctets 32) given
    at d within (subst (λ (xs : List (List ℕ)). All (IsOctets 32) (take at xs)) (sym same) before) is)

pub range_all : (given items : List (List ℕ)) (at : ℕ) → given ≡ items → length given ≤ at
    → All (IsOctets 32) (take at items) → All (IsOctets 32) items
range_all given items at same over before =
    subst (λ (xs : List (List ℕ)). All (IsOctets 32) xs) (take_all at items (omega (arith, ap length same))) before
