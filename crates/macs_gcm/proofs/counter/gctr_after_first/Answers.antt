use Rattle.std.proofs.Common.{◌*◌, ◌-◌, ◌∙◌, ℕ, arith, inl, inr, refl}
use Rattle.std.proofs.lemmas.Bool.{cases_lt}
use Rattle.macs_gcm.proofs.CounterMode.{gctr-is, masks_of_text, octet_in_group}
use Rattle.macs_gcm.specs.Counter.{inc32}
use Rattle.macs_gcm.specs.Gcm.{pre_counter_block}
use Rattle.macs_gcm.specs.declared.counter.TheConstants.{GROUP}
use Rattle.macs_gcm.proofs.counter.gctr_after_first.Goals as goal

pub loop-g-init : goal.loop-g-init
loop-g-init c =
    let text = c.args.text.now in
    let first = inc32 (pre_counter_block c.args.iv.now) in
    let xor = c.xor_group.ensures in
    let is = masks_of_text c.args.keys.now c.args.iv.now c.args.masks.now GROUP 0 2 0 c.told-iv (omega arith)
    (omega arith) c.requires.masks in
    record {
      masked = λ k below within. octet_in_group c.args.keys.now first text text c.args.masks.now GROUP 0 2 k _
          (omega arith) (omega arith) is refl (xor.within k (omega arith) (omega arith) (omega (arith, within)));
      after = λ k above. xor.after k (omega arith);
    }

pub loop-g-preserved : goal.loop-g-preserved
loop-g-preserved c =
    let text = c.args.text.now in
    let first = inc32 (pre_counter_block c.args.iv.now) in
    let held = c.loop-g.invariant in
    let xor = c.xor_group-in-loop-g.ensures in
    let block : ℕ = GROUP * c.loop-g.g in
    let few = c.groups_for-groups.ensures.few in
    let is = masks_of_text c.args.keys.now c.args.iv.now c.put_masks.new.masks GROUP (block - 2) 0 block c.told-iv
    (omega arith) (omega (arith, few)) c.put_masks.ensures.masks in
    record {
      masked = λ k below within. elim (cases_lt k (16 * (block - 2))) [
        | inl earlier ↦ xor.before k earlier ∙ held.masked k earlier (omega (arith, within))
        | inr here ↦
            octet_in_group c.args.keys.now first text c.loop-g.text c.put_masks.new.masks GROUP (block - 2) 0 k _
            here (omega arith) is (held.after k here) (xor.within k here (omega arith) (omega (arith, within)))
      ];
      after = λ k above. xor.after k (omega arith) ∙ held.after k (omega arith);
    }

pub returns : goal.returns
returns c =
    let first = inc32 (pre_counter_block c.args.iv.now) in
    let long = c.loop-g.auto.text ∙ c.xor_group.auto.text in
    let all = c.groups_for-groups.ensures.all in
    let done = c.loop-g-test.false in
    let same = c.xor_group.auto.text in
    gctr-is c.args.keys.now first c.args.text.now c.loop-g.text long
    (λ k below. c.loop-g.invariant.masked k (omega (arith, below, same, all, done)) (omega (arith, below, long)))
