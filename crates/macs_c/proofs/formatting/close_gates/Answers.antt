use Rattle.std.proofs.Common.{◌≡◌, ◌≢◌, ◌∙◌, ◌+◌, ℕ, List, ap, arith, refl, subst}
use Rattle.macs_c.specs.ImageDisks.{image_of}
use Rattle.macs_record.specs.Gates.{IsOpen, closed_gate}
use Rattle.macs_journal.specs.Areas.{gate}
use Rattle.macs_c.proofs.Filled.{closed-next, others-next}
use Rattle.macs_c.proofs.formatting.close_gates.Goals as goal

pub loop-slot-init : goal.loop-slot-init
loop-slot-init c = record {
  size = refl;
  closed = λ k from below opens. absurd (omega (arith, from, below));
  others = λ i apart. refl;
}

pub loop-slot-preserved : goal.loop-slot-preserved
loop-slot-preserved c =
    let before = c.loop-slot.invariant in
    let call = c.close_gate.ensures in
    let mid = c.loop-slot.sectors in
    let new = c.close_gate.new.sectors in
    let others : (i : ℕ) → i ≢ gate 0 (c.loop-slot.slot + 1) → image_of new i ≡ image_of mid i =
    subst (λ (n : ℕ). (i : ℕ) → i ≢ n → image_of new i ≡ image_of mid i) c.slot_gate.ensures.at call.others in
    record {
      size = call.size ∙ before.size;
      closed = closed-next (image_of c.args.sectors.now) (image_of mid) (image_of new) (c.loop-slot.slot + 1)
          before.others others
          (subst (λ (n : ℕ). IsOpen (image_of mid n) → image_of new n ≡ closed_gate) c.slot_gate.ensures.at call.closed)
          before.closed;
      others = others-next (image_of c.args.sectors.now) (image_of mid) (image_of new) (c.loop-slot.slot + 1)
          before.others others (omega arith)
          (λ shut i. ap (λ (s : List (List ℕ)). image_of s i) (call.same (λ opens.
          shut (subst (λ (n : ℕ). IsOpen (image_of mid n)) c.slot_gate.ensures.at opens))));
    }

pub returns : goal.returns
returns c =
    let it = c.loop-slot.invariant in
    record {
      size = it.size;
      closed = λ k from below opens. it.closed k from (omega (arith, below, c.loop-slot-test.false)) opens;
      others = λ i apart.
          it.others i (λ k from below. apart k from (omega (arith, below, c.loop-slot.auto.slot-end)));
    }
