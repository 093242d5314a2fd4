use Rattle.std.proofs.Common.{◌≡◌, ◌∙◌, inl, Result, Ok, Err, refl, sym, ap, subst}
use Rattle.std.specs.Option.{option_map}
use Rattle.macs_disk.specs.Disk.{Disk}
use Rattle.macs_disk.specs.DeviceCalls.{IsMade}
use Rattle.macs_disk.specs.declared.device_call.DeviceCall.{DeviceCall}
use Rattle.macs_journal.specs.declared.fault.JournalFault.{JournalFault}
use Rattle.macs_journal.specs.declared.fault.JournalFault.TheVariants as fault
use Rattle.macs_journal.specs.declared.work.JournalStep.{JournalStep}
use Rattle.macs_journal.specs.declared.work.JournalStep.TheVariants.{Finished, Going}
use Rattle.macs_store.specs.Halves as store
use Rattle.macs_store.specs.Stepping.{Steps}
use Rattle.macs_store.specs.Value.{standing_in}
use Rattle.macs_endpoint.specs.Calls.{IsCall}
use Rattle.macs_endpoint.specs.Halves.{IsNextCall, with_device}
use Rattle.macs_endpoint.specs.Parts.{endpoint_of, raise_of}
use Rattle.macs_endpoint.specs.Queue.{QueueValue}
use Rattle.macs_endpoint.specs.State.{Advanced, Advances}
use Rattle.macs_endpoint.specs.Value.{EndpointValue, IsReserving, IsSoundEndpoint, disk_in}
use Rattle.macs_endpoint.specs.declared.fault.StepFault.TheVariants as step
use Rattle.macs_endpoint.specs.declared.progress.Step.TheVariants.{Reserved}
use Rattle.macs_endpoint.specs.declared.turn.Turn.TheVariants as turn
use Rattle.macs_endpoint.proofs.Ended.{IsCut, IsDone, given_up-kept, may-lift, raised-kept, raised_to}
use Rattle.macs_endpoint.proofs.MadeSteps.{before-reserving, before-sound, goes-on, memory-cut, memory-done, silent}
use Rattle.macs_endpoint.proofs.Working.{some_is}
use Rattle.macs_endpoint.proofs.Stepped.{given_up-call, gone_on-call, gone_on-kept, reserved-call, step_fault}
use Rattle.macs_endpoint.proofs.endpoint.Endpoint.did_reserving.Given.{Over}
use Rattle.macs_endpoint.proofs.endpoint.Endpoint.did_reserving.Goals.{After-did_call}
use Rattle.macs_endpoint.proofs.endpoint.Endpoint.did_reserving.Goals as goal

module _ (g : Over) (c : After-did_call g) where
  abbrev old : EndpointValue g.row.D.Denot
  old = endpoint_of c.self.inside.store c.self.inside.channels c.self.inside.queue c.self.inside.turn

  abbrev some : Disk
  some = disk_in g.D.SectorDisk.disk old

  work : IsReserving old
  work = rw (← c.self.view_is) at c.requires

  did : (result : Result JournalStep JournalFault) → c.did_call.result ≡ result
      → store.Did g.D.SectorDisk.disk c.self.inside.store c.args.read.now c.args.answer result c.did_call.new.self
  did result is =
      subst (λ (r : Result JournalStep JournalFault). store.Did g.D.SectorDisk.disk c.self.inside.store c.args.read.now
      c.args.answer r c.did_call.new.self) is c.did_call.ensures

  -- it continues
  going : (at : JournalStep) → c.did_call.result ≡ Ok at → (¬ (at ≡ Finished)) → c.did_call.result ≡ Ok Going
  going at is other = is ∙ ap Ok (goes-on at other (did (Ok at) is).busy)

  -- or a device call failed
  cut : (at : JournalFault) → c.did_call.result ≡ Err at
      → IsCut (silent some) c.self.inside.store (raised_to (silent some) old c.self.invariant work) c.did_call.new.self
  cut at is =
      let d = did (Err at) is in
      memory-cut some c.self.inside.store (raised_to (silent some) old c.self.invariant work) work.leads
      c.did_call.new.self d.halted.0 d.halted.1 (d.standing (λ same. cc))

  failed : (before : g.row.D.Denot) (asked : DeviceCall) → IsNextCall old asked
      → IsMade (g.D.SectorDisk.disk before) some asked c.args.read.now c.args.answer → (at : JournalFault)
      → c.did_call.result ≡ Err at
      → Steps g.D.SectorDisk.disk (store.with_device c.self.inside.store before) (Err fault.Disk) c.did_call.new.self
  failed before asked next made at is =
      let steps = (did (Err at) is).steps before asked next made in
      subst (λ (f : JournalFault). Steps g.D.SectorDisk.disk (store.with_device c.self.inside.store before) (Err f)
      c.did_call.new.self)
      (step_fault g.D.SectorDisk.disk (store.with_device c.self.inside.store before) c.did_call.new.self at work.running
      steps) steps

  -- or it is done
  done : c.did_call.result ≡ Ok Finished → IsDone (silent some) c.self.inside.store
      (raised_to (silent some) old c.self.invariant work) c.did_call.new.self
  done is =
      let d = did (Ok Finished) is in
      let finished = d.finished refl in
      memory-done some c.self.inside.store (raised_to (silent some) old c.self.invariant work) work.leads
      c.did_call.new.self d.running finished.0 finished.1

pub raise-requires : goal.raise-requires
raise-requires g c =
    let at = (goal.at.raise-requires g c).After-did_call in
    let same = some_is (work g at).raise (raise_of c.unwrap-raise.result)
    (sym (work g at).reserving ∙ ap (option_map raise_of) (sym c.end_raise.ensures.value ∙ c.unwrap-raise.ensures)) in
    may-lift (old g at) c.self.invariant (work g at) (raise_of c.unwrap-raise.result) same
    (standing_in c.did_call.new.self)
    (done g at (c.in-Ok.is ∙ ap Ok c.in-Finished.is)).stands

pub invariant_of-self : goal.invariant_of-self
invariant_of-self g c =
    let at = (goal.at.invariant_of-self g c).After-did_call in
    let lifted = c.raise.ensures in
    subst (λ (q : QueueValue). IsSoundEndpoint (endpoint_of c.did_call.new.self c.raise.new.self q turn.Command))
    (sym c.end_raise.ensures.after)
    (raised-kept (silent (some g at)) (old g at) c.self.invariant (work g at) c.did_call.new.self
    (done g at (c.in-Ok.is ∙ ap Ok c.in-Finished.is))
    c.raise.new.self.tx c.raise.new.self.rx turn.Command lifted.channels lifted.tx_side lifted.rx_side)

pub invariant_of-self-in_default : goal.invariant_of-self-in_default
invariant_of-self-in_default g c =
    let at = (goal.at.invariant_of-self-in_default g c).After-did_call in
    let d = did g at (Ok Going) (going g at c.in-Ok.progress c.in-Ok.is c.in_default.not-Finished) in
    gone_on-kept (old g at) c.self.invariant c.did_call.new.self d.running (d.standing (λ same. cc)) (d.going refl)
    (inl (work g at))

pub invariant_of-self-in-Err : goal.invariant_of-self-in-Err
invariant_of-self-in-Err g c =
    let at = (goal.at.invariant_of-self-in-Err g c).After-did_call in
    subst (λ (q : QueueValue).
    IsSoundEndpoint (endpoint_of c.did_call.new.self c.self.inside.channels q c.self.inside.turn))
    (sym c.end_raise-in-Err.ensures.after)
    (given_up-kept (silent (some g at)) (old g at) c.self.invariant (work g at) c.did_call.new.self
    (cut g at c.in-Err.field-0 c.in-Err.is))

pub returns-in-Finished : goal.returns-in-Finished
returns-in-Finished g c =
    let at = (goal.at.returns-in-Finished g c).After-did_call in
    let lifted = c.raise.ensures in
    let d = did g at (Ok Finished) (c.in-Ok.is ∙ ap Ok c.in-Finished.is) in
    rw (← c.self.view_is) (record {
      device = d.device;
      step = λ before asked next made.
          subst (λ (q : QueueValue). IsCall g.D.SectorDisk.disk (with_device (old g at) before) Advances
          (Advanced (Ok Reserved)) (endpoint_of c.did_call.new.self c.raise.new.self q turn.Command))
          (sym c.end_raise.ensures.after)
          (reserved-call g.D.SectorDisk.disk (with_device (old g at) before)
          (before-sound (old g at) before c.self.invariant) (before-reserving (old g at) before (work g at))
          c.did_call.new.self (d.steps before asked next made)
          c.raise.new.self.tx c.raise.new.self.rx lifted.channels lifted.tx_side lifted.rx_side lifted.tx_counters
          lifted.rx_counters lifted.channel_counters);
    })

pub returns-in_default : goal.returns-in_default
returns-in_default g c =
    let at = (goal.at.returns-in_default g c).After-did_call in
    let d = did g at (Ok Going) (going g at c.in-Ok.progress c.in-Ok.is c.in_default.not-Finished) in
    rw (← c.self.view_is) (record {
      device = d.device;
      step = λ before asked next made.
          gone_on-call g.D.SectorDisk.disk (with_device (old g at) before)
          (before-sound (old g at) before c.self.invariant) (work g at).running c.did_call.new.self
          (d.steps before asked next made) (inl (before-reserving (old g at) before (work g at))) (work g at).busy;
    })

pub returns-in-Err : goal.returns-in-Err
returns-in-Err g c =
    let at = (goal.at.returns-in-Err g c).After-did_call in
    let d = did g at (Err c.in-Err.field-0) c.in-Err.is in
    rw (← c.self.view_is) (record {
      device = d.device;
      step = λ before asked next made.
          subst (λ (q : QueueValue). IsCall g.D.SectorDisk.disk (with_device (old g at) before) Advances
          (Advanced (Err step.Disk)) (endpoint_of c.did_call.new.self c.self.inside.channels q c.self.inside.turn))
          (sym c.end_raise-in-Err.ensures.after)
          (given_up-call g.D.SectorDisk.disk (with_device (old g at) before)
          (before-sound (old g at) before c.self.invariant) (before-reserving (old g at) before (work g at))
          c.did_call.new.self (failed g at before asked next made c.in-Err.field-0 c.in-Err.is));
    })
