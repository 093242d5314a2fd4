use Rattle.std.proofs.Common.{◌+◌, ◌∙◌, refl}
use Rattle.macs_disk.specs.declared.call_list.Entry.{Entry}
use Rattle.macs_disk.specs.declared.call_list.Call.TheVariants.{Sync}
use Rattle.macs_disk.proofs.Kept.{same-sectors, kept-on, kept-sync, choices-none}
use Rattle.macs_disk.proofs.ListedCalls.{kept-call}
use Rattle.macs_disk.proofs.memory.MemDiskSectorDisk.sync.Goals as goal

pub invariant_of-self : goal.invariant_of-self
invariant_of-self g c =
    let m = c.args.self.now in
    record {
      chosen = m.chosen;
      kept =
          kept-on _ _ _ _ _ _ m.calls.stamped m.kept _ _ c.in_err-keep.ensures.dropped c.keep.ensures.later;
    }

pub invariant_of-self-2 : goal.invariant_of-self-2
invariant_of-self-2 g c =
    let m = c.args.self.now in
    let e : Entry = record { clock = m.calls.clock + 1; call = Sync } in
    record {
      chosen = choices-none m.seen.items _ _ (c.make_durable.ensures.choices ∙ m.chosen.as_choices)
          c.make_durable.ensures.none;
      kept = kept-sync _ _ _ _ _ _ m.calls.stamped m.kept _ e (c.make_durable.ensures.flags ∙ m.kept.as_pending)
          c.make_durable.ensures.clear refl refl
          _ _ _ (same-sectors _ _ _ c.make_durable.ensures.durable c.deref.ensures.value) c.in_ok-keep.ensures.kept
          c.in_ok-keep.ensures.ok.1;
    }

pub returns-clause-call : goal.returns-clause-call
returns-clause-call g c =
    let m = c.args.self.now in
    let e : Entry = record { clock = m.calls.clock + 1; call = Sync } in
    kept-call _ _ _ _ _ _ _ _ _ _ e refl refl c.in_ok-keep.ensures.kept c.in_ok-keep.ensures.ok.0
    c.in_ok-keep.ensures.ok.1 c.in_ok-keep.ensures.steady
