use Rattle.std.proofs.Common.{◌%◌, ◌∙◌, [], arith, subst}
use Rattle.std.proofs.lemmas.List.{length-set}
use Rattle.macs_aes.specs.Cipher.{round_key}
use Rattle.macs_aes.specs.KeyExpansion.{key_words}
use Rattle.macs_planes.specs.Across.{IsKeyPlanes, turned_back}
use Rattle.macs_planes.proofs.Octets.{filled_more}
use Rattle.macs_planes.specs.declared.places.TheConstants.{LANES}
use Rattle.macs_planes.proofs.key_planes.fill.Goals as goal

pub loop-round-preserved : goal.loop-round-preserved
loop-round-preserved c =
    let held = c.loop-round.invariant in
    let within = held.size in
    let rounds = c.rounds-round-end.ensures.ten_or_fourteen in
    record {
      size = length-set c.loop-round.keys c.loop-round.round c.of.result ∙ held.size;
      each = filled_more (λ i planes. IsKeyPlanes LANES (turned_back (i % 4)
          (round_key (key_words c.args.schedule.now) i)) planes) [] c.loop-round.keys c.loop-round.round c.of.result
          (omega (arith, within, rounds)) held.each (subst (λ k.
          IsKeyPlanes LANES (turned_back (c.loop-round.round % 4) k) c.of.result) c.round_key.ensures c.of.ensures);
    }
