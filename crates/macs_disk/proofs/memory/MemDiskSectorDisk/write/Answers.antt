use Rattle.std.proofs.Common.{◌+◌, refl, arith, length-set}
use Rattle.macs_disk.specs.declared.call_list.Entry.{Entry}
use Rattle.macs_disk.specs.declared.call_list.Call.TheVariants.{Write}
use Rattle.macs_disk.proofs.Kept.{kept-on, kept-write, choices-write}
use Rattle.macs_disk.proofs.ListedCalls.{kept-call}
use Rattle.macs_disk.proofs.memory.MemDiskSectorDisk.write.Goals as goal

pub invariant_of-self : goal.invariant_of-self
invariant_of-self g c =
    let m = c.args.self.now in
    record {
      chosen = m.chosen;
      kept =
          kept-on _ _ _ _ _ _ m.calls.stamped m.kept _ _ c.in_err-keep.ensures.dropped c.keep.ensures.later;
    }

pub invariant_of-self-2 : goal.invariant_of-self-2
invariant_of-self-2 g c =
    let m = c.args.self.now in
    let e : Entry = record { clock = m.calls.clock + 1; call = Write c.args.at c.args.from.now } in
    record {
      chosen = choices-write m.seen.items m.pending.items m.choices.items c.args.at c.args.from.now
          (omega (arith, c.requires, m.kept.as_pending)) m.chosen;
      kept = kept-write _ _ _ _ _ _ m.calls.stamped m.kept c.args.at c.args.from.now e c.requires
          (record { size = c.told-from; octets = c.fits-from }) refl refl
          _ _ c.in_ok-keep.ensures.kept c.in_ok-keep.ensures.ok.1;
    }

pub returns-clause-call : goal.returns-clause-call
returns-clause-call g c =
    let m = c.args.self.now in
    let e : Entry = record { clock = m.calls.clock + 1; call = Write c.args.at c.args.from.now } in
    kept-call _ _ _ _ _ _ _ _ _ _ e (length-set _ _ _) refl c.in_ok-keep.ensures.kept c.in_ok-keep.ensures.ok.0
    c.in_ok-keep.ensures.ok.1 c.in_ok-keep.ensures.steady
