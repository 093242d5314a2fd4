use Rattle.std.proofs.Common.{◌≡◌, ◌+◌, ◌-◌, ◌*◌, ◌/◌, ◌%◌, ◌<◌, ◌∙◌, ◌++◌, ℕ, [], ap, ap₂, arith, bit_xor, get_or, inl, inr}
use Rattle.std.proofs.Common.{length, refl, slice_index}
use Rattle.std.specs.Int.{to_be_bytes, w32}
use Rattle.std.proofs.lemmas.Bool.{cases_lt}
use Rattle.std.proofs.lemmas.List.{length-append}
use Rattle.macs_planes.proofs.Octets.{any_default}
use Rattle.macs_gcm.proofs.CounterMode.{gctr-is, octet_of_stream}
use Rattle.macs_gcm.specs.Counter.{inc32}
use Rattle.macs_gcm.specs.Gcm.{pre_counter_block}
use Rattle.macs_gcm.proofs.key_stream.KeyStream.encipher.Goals as goal

pub loop-i-init : goal.loop-i-init
loop-i-init c = record {
  masked = λ k below within. absurd (omega (arith, below));
  after = λ k above. refl;
}

pub loop-i-preserved : goal.loop-i-preserved
loop-i-preserved c =
    let i : ℕ = c.loop-i.i in
    let rows = c.args.self.now.rows in
    let held = c.loop-i.invariant in
    let xor = c.xor_block.ensures in
    record {
      masked = λ k below within. elim (cases_lt k (16 * i)) [
        | inl earlier ↦ xor.before k earlier ∙ held.masked k earlier (omega (arith, within))
        | inr here ↦
            let row : i + 1 ≡ k / 16 + 1 = omega (arith, here, below) in
            let octet : k - 16 * i ≡ k % 16 = omega (arith, here, below) in
            xor.within k here (omega (arith, below)) (omega (arith, within))
            ∙ ap₂ bit_xor (held.after k here) (ap₂ (λ m (n : ℕ). slice_index m n) (c.get.ensures
            ∙ ap (λ r. get_or r c.args.place []) (any_default rows (i + 1) c.index-self-i.result [] (omega arith))
            ∙ ap (λ (n : ℕ). get_or (get_or rows n []) c.args.place []) row) octet)
      ];
      after = λ k above. xor.after k (omega (arith, above)) ∙ held.after k (omega (arith, above));
    }

pub returns-clause-text : goal.returns-clause-text
returns-clause-text c = λ key is.
    let s = c.args.self.now in
    let number = to_be_bytes w32 (s.first + c.args.place) in
    let iv = s.fixed ++ number in
    let long : length iv ≡ 12 = length-append s.fixed number ∙ omega arith in
    let same = c.loop-i.auto.text in
    let room = c.requires.text in
    let all = c.loop-i-test.false in
    gctr-is key (inc32 (pre_counter_block iv)) c.args.text.now c.loop-i.text same
    (λ k below. c.loop-i.invariant.masked k (omega (arith, below, all)) (omega (arith, below, same))
    ∙ octet_of_stream key iv (get_or (get_or s.rows (k / 16 + 1) []) c.args.place []) (slice_index c.args.text.now k) k
    long (omega (arith, below, room, s.within)) (is (k / 16 + 1) (omega (arith, below, room)) c.args.place
    c.requires.place c.requires.number))

pub returns-clause-mask : goal.returns-clause-mask
returns-clause-mask c = λ key is.
    let rows = c.args.self.now.rows in
    c.get-2.ensures
    ∙ ap (λ r. get_or r c.args.place []) (any_default rows 0 c.index-self-0.result [] (omega arith))
    ∙ is 0 (omega (arith, c.requires.text)) c.args.place c.requires.place c.requires.number
