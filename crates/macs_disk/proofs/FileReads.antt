-- Reads of a file, one after the other.
use Rattle.std.proofs.Common.{◌≡◌, ℕ, zero, suc, ◌+◌, ◌-◌, ◌≤◌, List, [], ◌∷◌, ◌++◌, arith, length, map, take, drop}
use Rattle.std.proofs.Common.{slice_range, refl, sym, ap, ◌∙◌, le_refl, drop_at, length-take-le}
use Rattle.std.proofs.lemmas.Slice.{take-put_mid_below}
use Rattle.std.proofs.lemmas.List.{length-append}
use Rattle.std.specs.List.{range_with_len}
use Rattle.macs_disk.proofs.FileWrites.{length-take-most}
use borrow.Rule.Slice.PartMut.{mid_of, put_mid, post_of, put_same}
use lib.Seq.{take-add, take-append-le}
use Rattle.macs_disk.specs.Files.{values_from}

pub values-none : (f : ℕ → ℕ) (at : ℕ) → values_from f at 0 ≡ []
unfolding values_from
values-none f at = refl

values-behind : (f : ℕ → ℕ) (at first second : ℕ) → map f (range_with_len at (first + second))
    ≡ map f (range_with_len at first) ++ map f (range_with_len (at + first) second)
values-behind f at zero second =
    let none_more : 0 + second ≡ second = omega arith in
    let here : at + 0 ≡ at = omega arith in
    rw (none_more, here) refl
values-behind f at (suc n) second =
    let step : suc n + second ≡ suc (n + second) = omega arith in
    let next : at + suc n ≡ (at + 1) + n = omega arith in
    rw (step, next) (ap (λ (l : List ℕ). f at ∷ l) (values-behind f (at + 1) n second))

pub values-joined : (f : ℕ → ℕ) (at first second : ℕ)
    → values_from f at (first + second) ≡ values_from f at first ++ values_from f (at + first) second
unfolding values_from
values-joined f at first second = values-behind f at first second

-- what was in front stays there, and the octets from there on are those that were read
take_split : (from to : ℕ) (old new : List ℕ) → from ≤ to → take from new ≡ take from old
    → take from old ++ slice_range new from to ≡ take to new
take_split from to old new ordered front =
    let same : from + (to - from) ≡ to = omega arith in
    ap (λ octets. octets ++ slice_range new from to) (sym front) ∙ sym (take-add from (to - from) new)
    ∙ ap (λ n. take n new) same

slice_range-put_mid : (from room count : ℕ) (buffer read : List ℕ) → from ≤ length buffer → count ≤ length read
    → slice_range (put_mid from room buffer read) from (from + count) ≡ take count read
slice_range-put_mid from room count buffer read within fits =
    let same : (from + count) - from ≡ count = omega arith in
    let after = post_of from room buffer in
    ap (take ((from + count) - from))
    (drop_at (take from buffer) (read ++ after) from (length-take-le from buffer within))
    ∙ ap (λ n. take n (read ++ after)) same ∙ take-append-le count read after fits

-- a read goes on after what was read
pub read-more : (f : ℕ → ℕ) (at place done count room : ℕ) (buffer read : List ℕ) → place ≡ at + done
    → done ≤ length buffer → count ≤ length read
    → take done buffer ≡ values_from f at done → take count read ≡ values_from f place count
    → take (done + count) (put_mid done room buffer read) ≡ values_from f at (done + count)
read-more f at place done count room buffer read is within fits so_far here =
    let part = slice_range-put_mid done room count buffer read within fits in
    let joined = take_split done (done + count) buffer (put_mid done room buffer read) (omega arith)
    (take-put_mid_below _ _ _ _ _ (le_refl _) within) in
    sym joined ∙ ap (λ (l : List ℕ). take done buffer ++ l) (part ∙ here)
    ∙ ap (λ (l : List ℕ). l ++ values_from f place count) so_far
    ∙ ap (λ (p : ℕ). values_from f at done ++ values_from f p count) is ∙ sym (values-joined f at done count)

-- what a failed read leaves behind does not matter
pub read-none : (f : ℕ → ℕ) (at done room : ℕ) (buffer read : List ℕ) → done ≤ length buffer
    → take done buffer ≡ values_from f at done
    → take done (put_mid done room buffer read) ≡ values_from f at done
read-none f at done room buffer read within so_far = take-put_mid_below _ _ _ _ _ (le_refl _) within ∙ so_far

-- a buffer keeps its length
pub length-filled : (from room : ℕ) (buffer read : List ℕ) → length buffer ≡ 512
    → length read ≡ length (mid_of from room buffer)
    → length (put_mid from room buffer read) ≡ 512
length-filled from room buffer read size fits =
    let front = take from buffer in
    let after = post_of from room buffer in
    let h1 = length-append front (read ++ after) in
    let h2 = length-append read after in
    let h3 = length-append front (mid_of from room buffer ++ after) in
    let h4 = length-append (mid_of from room buffer) after in
    let h5 : length (put_mid from room buffer (mid_of from room buffer)) ≡ length buffer =
    ap length (put_same from room buffer) in
    omega (arith, h1, h2, h3, h4, h5, size, fits)

pub room-fits : (count done : ℕ) (buffer read : List ℕ) → done ≤ 512 → count ≤ length read
    → length read ≡ length (mid_of done (512 - done) buffer) → done + count ≤ 512
room-fits count done buffer read within fits size = let h = length-take-most (512 - done) (drop done buffer) in
    omega (arith, within, fits, size, h)
