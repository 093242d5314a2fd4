use Rattle.std.proofs.Common.{arith}
use Rattle.macs_control.proofs.Carried.{cut-within, steady-end, takes-none}
use Rattle.macs_control.proofs.keeping.taking.take_whole.Goals as goal

pub loop-look-init : goal.loop-look-init
loop-look-init g c =
    rw c.nothing_held-held.ensures
    (record {
      few = c.requires;
      takes = takes-none (g.C.Connection.link c.args.from.now);
      steady = λ is. (is, omega arith);
    })

pub returns-in-Err-clause-cut : goal.returns-in-Err-clause-cut
returns-in-Err-clause-cut g c =
    cut-within g.row.N (g.C.Connection.link c.args.from.now) _ c.in-Err.cut _ c.loop-look.invariant.few
    (c.in-Err.ensures.cut _ c.loop-look.invariant.takes)

pub returns-in-Err-clause-steady : goal.returns-in-Err-clause-steady
returns-in-Err-clause-steady g c = λ is.
    let still = (c.loop-look.invariant.steady is).0 in
    steady-end c.in-Err.cut _ _ _ (c.in-Err.ensures.steady still c.loop-look.invariant.few)

pub returns-then-is_whole-clause-whole : goal.returns-then-is_whole-clause-whole
returns-then-is_whole-clause-whole g c =
    (c.is_whole.ensures.whole c.if-is_whole.true, c.in-Ok.ensures.more _ c.loop-look.invariant.takes)

pub returns-then-is_whole-clause-still : goal.returns-then-is_whole-clause-still
returns-then-is_whole-clause-still g c = λ is.
    (c.in-Ok.ensures.steady (c.loop-look.invariant.steady is).0 c.loop-look.invariant.few).1

pub loop-look-preserved : goal.loop-look-preserved
loop-look-preserved g c = record {
  few = c.is_whole.ensures.part c.if-is_whole.false;
  takes = c.in-Ok.ensures.more _ c.loop-look.invariant.takes;
  steady = λ is.
      let (still, looks) = c.loop-look.invariant.steady is in
      let (more, steady) = c.in-Ok.ensures.steady still c.loop-look.invariant.few in
      (steady, omega (arith, looks, more));
}

pub returns-clause-cut : goal.returns-clause-cut
returns-clause-cut g c = (c.loop-look.held.items, c.loop-look.invariant.takes)

pub returns-clause-steady : goal.returns-clause-steady
returns-clause-steady g c = λ is.
    let (still, looks) = c.loop-look.invariant.steady is in
    let few = c.loop-look.invariant.few in
    let past = c.loop-look-test.false in
    let most = g.N.fits in
    absurd (omega (arith, looks, few, past, most))
