use Rattle.std.proofs.Common.{◌≡◌, ◌+◌, ◌∙◌, sym, arith, true, false}
use Rattle.macs_disk.specs.Fuses.{FuseValue}
use Rattle.macs_disk.proofs.BlownWrites.{blown-write, none-added}
use Rattle.macs_disk.proofs.fuse.Fuse.blow_write.Goals as goal

pub returns-then-is_ok-clause-blown : goal.returns-then-is_ok-clause-blown
returns-then-is_ok-clause-blown g c =
    let f = c.self.inside in
    let fuse : FuseValue g.row.D.Denot = record {
      inner = f.disk;
      when = f.when.value;
      left = f.left;
      blow = f.blow;
      missed = f.missed;
      added = f.added;
    } in
    let none : fuse.added ≡ 0 =
    none-added c.args.self.now fuse c.args.fill.now _ _ c.self.view_is c.requires.next.1 c.self.invariant in
    let counts : f.added + 1 ≡ 1 = omega (arith, none) in
    let ok = sym c.if-is_ok.true ∙ c.is_ok.ensures.value in (
      c.write.result,
      rw (← c.self.view_is) (record {
        call = c.write.ensures.call;
        effect = c.write.ensures.effect;
        after = blown-write fuse c.write.new.self c.of.result.value (f.added + 1) c.write.result true c.of.ensures
            none ok counts;
      }),
    )

pub returns-else-is_ok-clause-blown : goal.returns-else-is_ok-clause-blown
returns-else-is_ok-clause-blown g c =
    let f = c.self.inside in
    let fuse : FuseValue g.row.D.Denot = record {
      inner = f.disk;
      when = f.when.value;
      left = f.left;
      blow = f.blow;
      missed = f.missed;
      added = f.added;
    } in
    let none : fuse.added ≡ 0 =
    none-added c.args.self.now fuse c.args.fill.now _ _ c.self.view_is c.requires.next.1 c.self.invariant in
    let ok = sym c.if-is_ok.false ∙ c.is_ok.ensures.value in (
      c.write.result,
      rw (← c.self.view_is) (record {
        call = c.write.ensures.call;
        effect = c.write.ensures.effect;
        after =
            blown-write fuse c.write.new.self c.of.result.value f.added c.write.result false c.of.ensures none ok none;
      }),
    )
