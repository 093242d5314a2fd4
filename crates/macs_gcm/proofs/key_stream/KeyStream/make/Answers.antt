use Rattle.std.proofs.Common.{◌+◌, ◌∙◌, [], arith, subst}
use Rattle.std.proofs.lemmas.List.{length-set}
use Rattle.macs_planes.proofs.Octets.{filled_more}
use Rattle.macs_gcm.specs.KeyStream.{IsRow}
use Rattle.macs_gcm.specs.declared.counter.TheConstants.{GROUP}
use Rattle.macs_gcm.proofs.key_stream.KeyStream.make.Goals as goal

pub loop-c-preserved : goal.loop-c-preserved
loop-c-preserved c =
    let l = c.loop-c in
    let held = l.invariant in
    let within = held.size in
    record {
      size = length-set l.self.rows l.c c.row_of.result ∙ held.size;
      made = filled_more (λ k row. IsRow GROUP c.args.schedule.now c.args.fixed.now c.args.first (k + 1) row) []
          l.self.rows l.c c.row_of.result (omega (arith, within, c.requires, c.loop-c-test.true)) held.made
          (subst (λ key. IsRow GROUP key c.args.fixed.now c.args.first (l.c + 1) c.row_of.result) c.new-keys.ensures
          c.row_of.ensures);
    }

pub returns-clause-stream : goal.returns-clause-stream
returns-clause-stream c = λ k below. c.loop-c.invariant.made k (omega (arith, below))
