use Rattle.std.proofs.Common.{◌≡◌, length, refl, arith}
use Rattle.macs_disk.proofs.Kept.{same-sectors, kept-begun, choices-none, crash-whole, crash-memory, crash-image-later}
use Rattle.macs_disk.proofs.memory.MemDisk.crash.Goals as goal

pub invariant_of-self : goal.invariant_of-self
invariant_of-self g c =
    let m = c.args.self.now in
    let first : c.copy_from_slice.new.self.items ≡ c.choose.new.sectors.items =
    same-sectors _ _ _ c.copy_from_slice.ensures.items c.deref-3.ensures.value in
    let durable : c.make_durable.new.durable.items ≡ c.choose.new.sectors.items =
    same-sectors _ _ _ c.make_durable.ensures.durable c.deref-2.ensures.value in
    let pending : length c.make_durable.new.pending.items ≡ length c.choose.new.sectors.items =
    omega (arith, c.make_durable.ensures.flags, m.kept.as_pending, c.choose.ensures.length) in
    let choices : length c.make_durable.new.choices.items ≡ length c.choose.new.sectors.items =
    omega (arith, c.make_durable.ensures.choices, m.chosen.as_choices, c.choose.ensures.length) in
    record {
      chosen = choices-none _ _ _ choices c.make_durable.ensures.none;
      kept = kept-begun c.choose.new.sectors.items _ _ pending c.make_durable.ensures.clear
          (omega (arith, c.choose.ensures.length, m.kept.small))
          (crash-whole _ _ _ _ _ _ _ _ m.kept m.chosen c.choose.ensures.length _ c.deref.ensures.value
          c.choose.ensures.chosen)
          _ _ _ _ first refl durable c.clear.ensures.entries;
    }

pub returns-clause-crashed : goal.returns-clause-crashed
returns-clause-crashed g c =
    let m = c.args.self.now in
    let first : c.copy_from_slice.new.self.items ≡ c.choose.new.sectors.items =
    same-sectors _ _ _ c.copy_from_slice.ensures.items c.deref-3.ensures.value in
    crash-memory _ _ _ _ _ _ _ _ m.kept m.chosen c.choose.ensures.length _ c.deref.ensures.value c.choose.ensures.chosen
    _ _ _ _ _ _ first c.make_durable.ensures.none c.clear.ensures.entries c.clear.ensures.clock c.clear.ensures.failures

pub returns-clause-image : goal.returns-clause-image
returns-clause-image g c =
    let m = c.args.self.now in
    let first : c.copy_from_slice.new.self.items ≡ c.choose.new.sectors.items =
    same-sectors _ _ _ c.copy_from_slice.ensures.items c.deref-3.ensures.value in
    crash-image-later _ _ _ _ _ _ _ _ m.kept m.chosen c.choose.ensures.length _ c.deref.ensures.value
    c.choose.ensures.chosen
    _ _ _ first c.clear.ensures.entries
