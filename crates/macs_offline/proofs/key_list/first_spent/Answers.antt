use Rattle.std.proofs.Common.{◌∙◌, arith, sym}
use Rattle.std.proofs.lemmas.Bool.{false≢true}
use Rattle.macs_offline.proofs.KeyLists.{first-is, more-unspent, none-spent}
use Rattle.macs_offline.proofs.key_list.first_spent.Goals as goal

pub returns-then-is_spent : goal.returns-then-is_spent
returns-then-is_spent c =
    first-is c.args.keys.now c.loop-i.i c.index-keys-i.result c.loop-i-test.true c.index-keys-i.is c.args.list.now
    c.loop-i.invariant (c.is_spent.ensures.0 c.if-is_spent.true)

pub loop-i-preserved : goal.loop-i-preserved
loop-i-preserved c =
    more-unspent c.args.keys.now c.loop-i.i c.index-keys-i.result c.loop-i-test.true c.index-keys-i.is c.args.list.now
    c.loop-i.invariant (λ spent. false≢true (sym c.if-is_spent.false ∙ c.is_spent.ensures.1 spent))

pub returns : goal.returns
returns c =
    none-spent c.args.list.now c.args.keys.now c.loop-i.i (omega (arith, c.loop-i-test.false)) c.loop-i.invariant
