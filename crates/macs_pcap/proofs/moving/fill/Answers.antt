use Rattle.std.proofs.Common.{◌≡◌, ℕ, ◌+◌, ◌-◌, ◌≤◌, List, ◌++◌, rules, arith, length, take, slice_range, sym, ap, ◌∙◌}
use Rattle.std.proofs.Common.{subst, le_refl, drop_at, length-take-le}
use Rattle.std.proofs.lemmas.Slice.{take-put_mid_below}
use Rattle.std.specs.Io.KnownBytes.{Consumes}
use Rattle.std.proofs.KnownBytes.{Consumes-trans}
use borrow.Rule.Slice.PartMut.{put_mid, post_of}
use lib.Seq.{take-add, take-append-le}
use Rattle.macs_pcap.proofs.moving.fill.Goals as goal

-- what was in front stays there, and the octets from there on are those that were read
take_split : (from to : ℕ) (old new : List ℕ) → from ≤ to → take from new ≡ take from old
    → take from old ++ slice_range new from to ≡ take to new
take_split from to old new ordered front =
    let same : from + (to - from) ≡ to = omega arith in
    ap (λ octets. octets ++ slice_range new from to) (sym front) ∙ sym (take-add from (to - from) new)
    ∙ ap (λ n. take n new) same

slice_range-put_mid : (from room count : ℕ) (buffer read : List ℕ) → from ≤ length buffer → count ≤ length read
    → slice_range (put_mid from room buffer read) from (from + count) ≡ take count read
slice_range-put_mid from room count buffer read within fits =
    let same : (from + count) - from ≡ count = omega arith in
    let after = post_of from room buffer in
    ap (take ((from + count) - from))
    (drop_at (take from buffer) (read ++ after) from (length-take-le from buffer within))
    ∙ ap (λ n. take n (read ++ after)) same ∙ take-append-le count read after fits

pub loop-count-preserved : goal.loop-count-preserved
loop-count-preserved g c =
    let from = c.loop-count.count in
    let room = length c.loop-count.into - from in
    let within = c.loop-count.invariant.1 in
    let part =
    slice_range-put_mid from room c.in-Ok.more c.loop-count.into c.read.new.into within c.in-Ok.ensures.bound.0 in
    let joined = take_split from (from + c.in-Ok.more) c.loop-count.into
    (put_mid from room c.loop-count.into c.read.new.into) (omega arith)
    (take-put_mid_below _ _ _ _ _ (le_refl _) within) in
    let octets = ap (λ l. take from c.loop-count.into ++ l) (sym part) ∙ joined in (
      search rules,
      search rules,
      subst (Consumes _ _) octets (Consumes-trans _ _ _ _ _ c.loop-count.invariant.2
          c.in-Ok.ensures.octets.0),
      c.in-Ok.ensures.done ∙ c.loop-count.invariant.3,
    )
