use Rattle.std.proofs.Common.{◌≡◌, ◌+◌, ◌-◌, ◌%◌, ◌≤◌, ◌∙◌, ℕ, List, ap, arith, map, refl, subst, []}
use Rattle.macs_aes.specs.Cipher.{mix_columns, round_key, sub_bytes}
use Rattle.macs_aes.specs.KeyExpansion.{key_words}
use Rattle.macs_planes.specs.Across.{IsKeyPlanes, turned, turned_back}
use Rattle.macs_aes.specs.RoundKeys.{keyed}
use Rattle.macs_planes.proofs.Octets.{any_default}
use Rattle.macs_aes.proofs.CipherRounds.{rounds_first, rounds_last, rounds_next}
use Rattle.macs_planes.proofs.Turned.{all_keyed, back_first, back_turned, next_turns, none_turned, two_left}
use Rattle.macs_planes.specs.declared.places.TheConstants.{LANES}
use Rattle.macs_planes.proofs.group.encrypt_across.Goals as goal

pub loop-round-init : goal.loop-round-init
loop-round-init c =
    let w = key_words c.args.schedule.now in
    let left = two_left c.rounds-rounds.result c.rounds-rounds.ensures.ten_or_fourteen in
    record {
      before = λ _. none_turned c.add_round_key.new.self
          ∙ rounds_first w (turned_back 0 (round_key w 0)) c.args.start c.args.start
          c.add_round_key.new.self
          refl (back_first w 0) (c.add_round_key.ensures (turned_back 0 (round_key w 0))
          (subst (IsKeyPlanes LANES (turned_back 0 (round_key w 0))) (any_default c.args.keys.now 0 []
          c.index-keys-0.result (omega arith)) (c.requires.each 0 (omega arith))));
      done = λ e. absurd (omega (arith, e, left.1));
    }

pub loop-round-preserved : goal.loop-round-preserved
loop-round-preserved c =
    let r : ℕ = c.loop-round.round in
    let rounds = c.rounds-rounds.ensures.rounds in
    let left = (two_left c.rounds-rounds.result c.rounds-rounds.ensures.ten_or_fourteen).0 in
    let w : List ℕ = key_words c.args.schedule.now in
    let k : List ℕ = turned_back (r % 4) (round_key w r) in
    let old = c.loop-round.planes in
    let new = c.take_round.new.blocks in
    let low : 1 ≤ r = omega arith in
    let few = c.rounds-rounds.ensures.ten_or_fourteen in
    let is = subst (IsKeyPlanes LANES k) (any_default c.args.keys.now r [] c.index-keys-round.result
    (omega (arith, few))) (c.requires.each r (omega (arith, rounds))) in
    let before = c.loop-round.invariant.before (omega arith) in
    let here : r + 1 - 1 ≡ r = omega arith in
    record {
      before = λ more. ap (λ (n : ℕ). map (turned (n % 4)) new) here
          ∙ rounds_next w (turned (r % 4) k) c.args.start (map (turned ((r - 1) % 4)) old)
          (map (turned (r % 4)) new) r low before
          (back_turned (r % 4) w r (omega arith))
          (c.take_round.ensures.inner k is (omega (arith, more))
          ∙ ap (λ b. keyed (turned (r % 4) k) (map mix_columns b)) (next_turns r old low));
      done = λ last.
          let two : 2 ≡ r % 4 = omega (arith, last, left) in
          rounds_last c.args.schedule.now (turned 2 k) c.args.start (map (turned ((r - 1) % 4)) old)
          (map (turned 2) new) r c.rounds-rounds.result
          (omega (arith, last)) rounds before (ap (λ (t : ℕ). turned t k) two ∙ back_turned (r % 4) w r (omega arith))
          (ap (map (turned 2)) (c.take_round.ensures.last k is (omega (arith, last)))
          ∙ all_keyed 2 k (map sub_bytes old)
          ∙ ap (keyed (turned 2 k)) (ap (λ (t : ℕ). map (turned t) (map sub_bytes old)) two ∙ next_turns r old low));
    }
