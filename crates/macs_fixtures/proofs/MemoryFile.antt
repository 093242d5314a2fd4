-- What the calls of a file in memory do.
use Rattle.std.proofs.Common.{◌≡◌, ◌≤◌, ◌<◌, ◌+◌, ◌-◌, ◌*◌, ◌/◌, ◌==◌, ◌&&◌, ◌||◌, inl, inr, ℕ, if◌then◌else◌, max}
use Rattle.std.proofs.Common.{Bool, true, false, List, [], ◌∷◌, length, nat_le, nat_lt, refl, ap, ◌∙◌, arith, subst}
use Rattle.std.proofs.Common.{sym}
use Rattle.std.proofs.Math.Nat.{lt-mul-div-succ, mul-div-le, mul-add}
use Rattle.std.proofs.lemmas.Bool.{cases_Bool, cases_lt, le-leb, lt-leb, or_parts}
use Rattle.std.proofs.lemmas.Bool.Decides.{nat_tests}
use Rattle.std.proofs.lemmas.List.{get_or_past}
use Rattle.macs_disk.specs.FileEvidence.{is_same}
use Rattle.macs_disk.specs.Files.{FileState, HasNothingNew, IsFileImage, file_after_write, has_some}
use Rattle.macs_disk.specs.Files.{put_from}
use Rattle.macs_fixtures.specs.Blocks.{EndsAt, IsKept, are_octets, file_in_memory, flag_in, is_in_first_half, left_of, octet_at}
use Rattle.macs_fixtures.specs.Blocks.{octet_left, size_left}
use Rattle.macs_fixtures.specs.declared.blocks.Left.{Left}
use Rattle.macs_fixtures.specs.declared.blocks.Left.TheVariants.{Durable, Half, Written, Zeros}
use Rattle.macs_fixtures.specs.Evidence.{block-of}
use Rattle.macs_fixtures.specs.MemFiles.{file_after_loss}
use Rattle.macs_disk.specs.CallLists.{flag_at}

-- octets outside what was put are as before
put-before : (f : ℕ → ℕ) (at p : ℕ) (xs : List ℕ) → p < at → put_from f at xs p ≡ f p
put-before f at p xs lt = let no = lt-leb at p lt in rw no refl

put-behind : (f : ℕ → ℕ) (at p : ℕ) (xs : List ℕ) → at + length xs ≤ p → put_from f at xs p ≡ f p
put-behind f at p xs le =
    let yes = le-leb at p (omega (arith, le)) in
    rw yes (get_or_past xs (p - at) (f p) (omega (arith, le)))

-- a block that has none of some octets
at-front : (block p front : ℕ) → 0 < block → nat_lt front (block * (p / block) + block) ≡ false → p < front
at-front block p front some is =
    let h = lt-mul-div-succ p some in
    let k : block * (p / block + 1) ≡ block * (p / block) + block * 1 = mul-add block (p / block) 1 in
    let le : block * (p / block) + block ≤ front = grind (arith, nat_tests, is) in
    omega (arith, h, k, le)

at-end : (block p behind : ℕ) → nat_lt (block * (p / block)) behind ≡ false → behind ≤ p
at-end block p behind is =
    let h = mul-div-le p block in
    let le : behind ≤ block * (p / block) = grind (arith, nat_tests, is) in
    omega (arith, h, le)

has-none : (block p front behind : ℕ) (f : ℕ → ℕ) (at : ℕ) (xs : List ℕ) → 0 < block → front ≤ at
    → at + length xs ≤ behind
    → has_some block front behind (p / block) ≡ false → put_from f at xs p ≡ f p
has-none block p front behind f at xs some le fits none = elim (cases_Bool (nat_lt (block * (p / block)) behind)) [
  | inl is ↦ put-before f at p xs (let lt = at-front block p front some
      (sym (ap (λ (b : Bool). b && nat_lt front (block * (p / block) + block)) is) ∙ none) in omega (arith, lt, le))
  | inr other ↦ put-behind f at p xs (let past = at-end block p behind other in omega (arith, past, fits))
]

-- octets were put
pub kept_put : (block : ℕ) (cache device durable : List ℕ) (dirty pending : List Bool) (is_clean is_sure : Bool)
    (at front behind : ℕ) (xs : List ℕ)
    → IsKept block cache device durable dirty pending is_clean is_sure → front ≤ at → at + length xs ≤ behind
    → (newer : List ℕ) (flags more : List Bool) → length newer ≡ length cache
    → ((p : ℕ) → octet_at newer p ≡ put_from (octet_at cache) at xs p) → are_octets newer
    → length flags ≡ length dirty → ((n : ℕ) → flag_at flags n ≡ (has_some block front behind n || flag_at dirty n))
    → length more ≡ length pending → ((n : ℕ) → flag_at more n ≡ (has_some block front behind n || flag_at pending n))
    → IsKept block newer device durable flags more false is_sure
kept_put block cache device durable dirty pending is_clean is_sure
    at front behind xs kept le fits newer flags more size put octets size-dirty marks size-pending marks-more = record {
      some = kept.some;
      as_device = kept.as_device ∙ sym size;
      as_durable = kept.as_durable ∙ sym size;
      as_dirty = size-dirty ∙ kept.as_dirty ∙ sym size-pending;
      blocks = ap (λ (c : ℕ). block * c) size-pending ∙ kept.blocks ∙ sym size;
      cache_octets = octets;
      device_octets = kept.device_octets;
      durable_octets = kept.durable_octets;
      shown = λ p clear. kept.shown p (parts (p / block) clear).1;
      fewer = λ n clear. marks n
          ∙ from (has_some block front behind n) (flag_at dirty n) (parts n clear).0 (kept.fewer n (parts n clear).1);
      clean = λ is. absurd (let no : false ≡ true = is in cc);
      seen = λ p clear.
          put p ∙ has-none block p front behind (octet_at cache) at xs kept.some le fits (parts (p / block) clear).0
          ∙ kept.seen p (parts (p / block) clear).1;
      all = λ sure n clear.
          let apart = or_parts (has_some block front behind n) (flag_at dirty n) (sym (marks n) ∙ clear) in
          marks-more n ∙ from (has_some block front behind n) (flag_at pending n) apart.0 (kept.all sure n apart.1);
    } where
      parts : (n : ℕ) → flag_at more n ≡ false → (has_some block front behind n ≡ false) × (flag_at pending n ≡ false)
      parts n clear = or_parts (has_some block front behind n) (flag_at pending n) (sym (marks-more n) ∙ clear)

      from : (a b : Bool) → a ≡ false → b ≡ false → (a || b) ≡ false
      from true b is other = is
      from false b is other = other

-- what was put ends where the file does
pub ends_put : (size at count longer : ℕ) (cache newer xs : List ℕ) → EndsAt size cache → length xs ≡ count
    → longer ≡ max size (at + count)
    → ((p : ℕ) → octet_at newer p ≡ put_from (octet_at cache) at xs p) → EndsAt longer newer
ends_put size at count longer cache newer xs ends long is put p le =
    put p ∙ put-behind (octet_at cache) at p xs (omega (arith, le, is, long)) ∙ ends p (omega (arith, le, is))

-- what was put is what a write writes
size-stays : (durable size end : ℕ) → durable ≤ size
    → (durable == max size end) ≡ ((durable == size) && nat_le end size)
size-stays durable size end le = elim (cases_lt size end) [
  | inl longer ↦
      let no = lt-leb end size longer in
      let other : (durable == max size end) ≡ false = grind (arith, nat_tests, le, longer) in
      rw no (other ∙ sym (and-none (durable == size)))
  | inr fits ↦
      let yes = le-leb end size fits in
      let same : max size end ≡ size = omega (arith, fits) in
      rw (yes, same) (sym (and-one (durable == size)))
] where
  and-none : (b : Bool) → (b && false) ≡ false
  and-none true = refl
  and-none false = refl

  and-one : (b : Bool) → (b && true) ≡ b
  and-one true = refl
  and-one false = refl

pub put_writes : (block size durable_size : ℕ) (cache durable : List ℕ) (pending : List Bool)
    (is_clean is_sure is_claimed : Bool) (at count : ℕ) (xs : List ℕ)
    → length xs ≡ count → 0 < count → durable_size ≤ size
    → (longer : ℕ) (newer : List ℕ) (more : List Bool) → longer ≡ max size (at + count)
    → ((p : ℕ) → octet_at newer p ≡ put_from (octet_at cache) at xs p)
    → ((n : ℕ) → flag_at more n ≡ (has_some block at (at + count) n || flag_at pending n))
    → file_in_memory block longer durable_size newer durable more false is_sure is_claimed
    ≡ file_after_write (file_in_memory block size durable_size cache durable pending is_clean is_sure is_claimed) at xs
put_writes block size durable_size cache durable pending is_clean is_sure is_claimed
    at count [] is some le longer newer more size-is put marks = absurd (omega (arith, is, some))
put_writes block size durable_size cache durable pending is_clean is_sure is_claimed
    at count (x ∷ xs) is some le longer newer more size-is put marks = λ j. record {
      behaves = true;
      block = block;
      size = grown j;
      is_size_durable = durable-is j;
      seen = λ p. put p j;
      durable = octet_at durable;
      pending = λ n. marked n j;
      is_clean = false;
      is_sure = is_sure;
      is_claimed = is_claimed;
    } where
      grown : longer ≡ max size (at + length (x ∷ xs))
      grown = size-is ∙ ap (λ (c : ℕ). max size (at + c)) (sym is)

      durable-is : (durable_size == longer) ≡ ((durable_size == size) && nat_le (at + length (x ∷ xs)) size)
      durable-is = ap (λ (s : ℕ). durable_size == s) grown ∙ size-stays durable_size size (at + length (x ∷ xs)) le

      marked : (n : ℕ) → flag_at more n ≡ (has_some block at (at + length (x ∷ xs)) n || flag_at pending n)
      marked n = marks n ∙ ap (λ (c : ℕ). has_some block at (at + c) n || flag_at pending n) (sym is)

-- octets that are durable where nothing is pending
pub image_kept : (block size durable_size : ℕ) (cache durable image : List ℕ) (pending : List Bool)
    (is_clean is_sure is_claimed : Bool)
    → ((p : ℕ) → flag_in block pending p ≡ false → octet_at image p ≡ octet_at durable p) → are_octets image
    → IsFileImage (file_in_memory block size durable_size cache durable pending is_clean is_sure is_claimed)
    (octet_at image)
image_kept block size durable_size cache durable image pending is_clean is_sure is_claimed kept octets = record {
  kept = λ n k clear lt. kept (block * n + k) (ap (flag_at pending) (block-of block n k lt) ∙ clear);
  octets = octets;
}

-- a power loss leaves nothing new
pub nothing_lost : (old new : FileState) → new ≡ file_after_loss old new.size new.durable → IsFileImage old new.durable
    → (old.is_size_durable ≡ true → new.size ≡ old.size) → HasNothingNew old new
nothing_lost old new is left same = record {
  block = ap (λ (f : FileState). f.block) is;
  size = λ durable. (same durable, ap (λ (f : FileState). f.is_size_durable) is);
  images = λ image next.
      let now : IsFileImage (file_after_loss old new.size new.durable) image =
      subst (λ (f : FileState). IsFileImage f image) is next in
      record { kept = λ n k clear lt. now.kept n k refl lt ∙ left.kept n k clear lt; octets = now.octets };
}

-- of a file whose size is durable
pub size_lost : (left : Left) (size durable_size lost : ℕ) → lost ≡ size_left left size durable_size
    → (durable_size == size) ≡ true → lost ≡ size
size_lost Durable size durable_size lost is durable = is ∙ is_same durable_size size durable
size_lost Written size durable_size lost is durable = is
size_lost Half size durable_size lost is durable = is
size_lost Zeros size durable_size lost is durable = is ∙ is_same durable_size size durable

-- blocks that were copied end where both did
pub copied_ends : (block size : ℕ) (from to copy : List ℕ) (flags : List Bool) → EndsAt size from → EndsAt size to
    → ((p : ℕ) → flag_in block flags p ≡ true → octet_at copy p ≡ octet_at from p)
    → ((p : ℕ) → flag_in block flags p ≡ false → octet_at copy p ≡ octet_at to p) → EndsAt size copy
copied_ends block size from to copy flags from_ends to_ends copied others p past =
    elim (cases_Bool (flag_in block flags p)) [
      | inl up ↦ copied p up ∙ from_ends p past
      | inr down ↦ others p down ∙ to_ends p past
    ]

-- the size that a power loss leaves is no smaller than the durable one
pub size_kept : (left : Left) (size durable_size lost : ℕ) → lost ≡ size_left left size durable_size
    → durable_size ≤ size → durable_size ≤ lost
size_kept Durable size durable_size lost is le = omega (arith, is)
size_kept Written size durable_size lost is le = omega (arith, is, le)
size_kept Half size durable_size lost is le = omega (arith, is, le)
size_kept Zeros size durable_size lost is le = omega (arith, is)

-- a cut leaves what is durable in blocks that are not pending, since it ends in front of there
pub cut_kept : (block durable_size size : ℕ) (durable spoiled shorter : List ℕ) (pending : List Bool)
    → durable_size ≤ size → EndsAt durable_size durable
    → ((p : ℕ) → flag_in block pending p ≡ false → octet_at spoiled p ≡ octet_at durable p) → EndsAt size shorter
    → ((p : ℕ) → p < size → octet_at shorter p ≡ octet_at spoiled p)
    → (p : ℕ) → flag_in block pending p ≡ false → octet_at shorter p ≡ octet_at durable p
cut_kept block durable_size size durable spoiled shorter pending le ends kept cut before p clear =
    elim (cases_lt p size) [
      | inl within ↦ before p within ∙ kept p clear
      | inr past ↦ cut p past ∙ sym (ends p (omega (arith, le, past)))
    ]

-- so what is kept of the file is still
pub kept_lost : (block : ℕ) (cache device durable : List ℕ) (dirty pending : List Bool) (is_clean is_sure : Bool)
    → IsKept block cache device durable dirty pending is_clean is_sure
    → (written shorter : List ℕ) → length written ≡ length device → length shorter ≡ length durable
    → are_octets written → are_octets shorter
    → ((p : ℕ) → flag_in block dirty p ≡ false → octet_at written p ≡ octet_at device p)
    → ((p : ℕ) → flag_in block pending p ≡ false → octet_at shorter p ≡ octet_at durable p)
    → IsKept block cache written shorter dirty pending is_clean is_sure
kept_lost block cache device durable dirty pending is_clean is_sure kept written shorter long_written long_shorter
    octets_written octets_shorter others same = record {
      some = kept.some;
      as_device = long_written ∙ kept.as_device;
      as_durable = long_shorter ∙ kept.as_durable;
      as_dirty = kept.as_dirty;
      blocks = kept.blocks;
      cache_octets = kept.cache_octets;
      device_octets = octets_written;
      durable_octets = octets_shorter;
      shown = λ p clear. others p (kept.fewer (p / block) clear) ∙ kept.shown p clear ∙ sym (same p clear);
      fewer = kept.fewer;
      clean = kept.clean;
      seen = λ p clear. kept.seen p clear ∙ sym (same p clear);
      all = kept.all;
    }

-- a choice, by what it is in either case
chosen : (b : Bool) (x this that : ℕ) → (b ≡ true → x ≡ this) → (b ≡ false → x ≡ that) → x ≡ (if b then this else that)
chosen true x this that up down = up refl
chosen false x this that up down = down refl

-- what a power loss leaves, once all that is dirty was written
pub loss_leaves : (block size durable_size : ℕ) (cache device durable : List ℕ) (dirty pending : List Bool)
    (is_clean is_sure is_claimed : Bool) (left : Left)
    → (written spoiled : List ℕ)
    → ((p : ℕ) → flag_in block dirty p ≡ true → octet_at written p ≡ octet_at cache p)
    → ((p : ℕ) → flag_in block dirty p ≡ false → octet_at written p ≡ octet_at device p)
    → ((p : ℕ) → flag_in block pending p ≡ true
    → octet_at spoiled p ≡ left_of left (is_in_first_half block p) (octet_at durable p) (octet_at written p))
    → ((p : ℕ) → flag_in block pending p ≡ false → octet_at spoiled p ≡ octet_at durable p)
    → (p : ℕ) → octet_at spoiled p
    ≡ octet_left left (file_in_memory block size durable_size cache durable pending is_clean is_sure is_claimed)
    (λ q. if flag_in block dirty q then octet_at cache q else octet_at device q) p
loss_leaves block size durable_size cache device durable dirty pending is_clean is_sure is_claimed left written spoiled
    copied others lost kept p =
    let now : octet_at written p ≡ (if flag_in block dirty p then octet_at cache p else octet_at device p) =
    chosen (flag_in block dirty p) (octet_at written p) (octet_at cache p) (octet_at device p) (copied p) (others p) in
    chosen (flag_in block pending p) (octet_at spoiled p)
    (left_of left (is_in_first_half block p) (octet_at durable p)
    (if flag_in block dirty p then octet_at cache p else octet_at device p))
    (octet_at durable p)
    (λ up. lost p up ∙ ap (λ (o : ℕ). left_of left (is_in_first_half block p) (octet_at durable p) o) now) (kept p)

-- of a file that is sure all that is pending is dirty, so that what is written there is what it shows
pub left_of_seen : (block size durable_size : ℕ) (cache device durable : List ℕ) (dirty pending : List Bool)
    (is_clean is_sure is_claimed : Bool) (left : Left)
    → IsKept block cache device durable dirty pending is_clean is_sure → is_sure ≡ true → (p : ℕ)
    → octet_left left (file_in_memory block size durable_size cache durable pending is_clean is_sure is_claimed)
    (λ q. if flag_in block dirty q then octet_at cache q else octet_at device q) p
    ≡ octet_left left (file_in_memory block size durable_size cache durable pending is_clean is_sure is_claimed)
    (octet_at cache) p
left_of_seen block size durable_size cache device durable dirty pending is_clean is_sure is_claimed left kept sure p =
    same (flag_in block pending p) (octet_at durable p)
    (if flag_in block dirty p then octet_at cache p else octet_at device p) (octet_at cache p)
    (λ up. shown (flag_in block dirty p) (octet_at cache p) (octet_at device p)
    (λ down. apart (sym up ∙ kept.all sure (p / block) down))) where
      apart : true ≡ false → ⊥
      apart is = absurd (let differ : true ≡ false = is in cc)

      shown : (b : Bool) (this that : ℕ) → (b ≡ false → ⊥) → (if b then this else that) ≡ this
      shown true this that never = refl
      shown false this that never = absurd (never refl)

      same : (b : Bool) (d w s : ℕ) → (b ≡ true → w ≡ s)
          → (if b then left_of left (is_in_first_half block p) d w else d)
          ≡ (if b then left_of left (is_in_first_half block p) d s else d)
      same true d w s is = ap (λ (o : ℕ). left_of left (is_in_first_half block p) d o) (is refl)
      same false d w s is = refl
