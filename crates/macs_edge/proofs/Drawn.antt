-- All that is to be drawn from words on turns, on records that pass, on sleeps and on sockets.
use Rattle.std.proofs.Common.{◌≡◌, ◌≤◌, ◌+◌, ◌++◌, ◌∷◌, ◌∙◌, inl, inr, ℕ, zero, suc, List, [], length, Option, Some}
use Rattle.std.proofs.Common.{None, Result, Ok, Err, refl, OnOk, sym, ap, subst, arith}
use Rattle.macs_disk.specs.Disk.{Disk}
use Rattle.macs_pcap.specs.Header.{header_text}
use Rattle.macs_pcap.specs.Reading.{HoldsOfLeft, ReadsHeader}
use Rattle.macs_pcap.specs.Records.{CaptureRecord}
use Rattle.macs_pcap.specs.Writing.{WritesText}
use Rattle.macs_pcap.specs.declared.fault.PcapFault.TheVariants.{Write}
use Rattle.macs_pcap.specs.declared.header.Header.{Header}
use Rattle.macs_endpoint.specs.WorkThroughCalls.{steps_in_call, steps_made}
use Rattle.macs_endpoint.specs.Lives.{Transition}
use Rattle.macs_endpoint.specs.State.{Call, Advances}
use Rattle.macs_endpoint.specs.Value.{EndpointValue}
use Rattle.macs_endpoint.specs.declared.fault.RefillFault.{RefillFault}
use Rattle.macs_endpoint.specs.declared.fault.StepFault.{StepFault}
use Rattle.macs_endpoint.specs.declared.progress.Step.{Step as Progress}
use Rattle.macs_edge.specs.Flows.{ArePrompt, FlowsInTurns, FlowsWithin}
use Rattle.macs_edge.specs.CaptureRuns.{HasPassed, Run, RunsOver}
use Rattle.macs_edge.specs.Relaying.{HandsWaiting, Relay, Relays, TakesTurn, TakesTurns, Way, empty_lane}
use Rattle.macs_edge.specs.declared.capture_runs.RunFault.TheVariants.{Pcap}
use Rattle.macs_edge.specs.declared.capture_runs.Summary.{Summary}
use Rattle.macs_edge.specs.declared.relaying.RelaySummary.{RelaySummary}
use Rattle.macs_edge.specs.declared.settling.Side.{Side}
use Rattle.macs_edge.proofs.LastCalls.{LastCalls, one-if-prompt}
use Rattle.macs_edge.proofs.Flowing.{AreFrames, Goes, IsFrame, flow-begins, goes-flows, turn-goes}

-- ---- turns

steps-append : {D : Type 0} (calls more : List (Transition D))
    → steps_made (calls ++ more) ≡ steps_made calls + steps_made more
steps-append [] more = omega arith
steps-append (call ∷ calls) more = let later = steps-append calls more in omega (arith, later)

no_step : (call : Call) → IsFrame call → steps_in_call call ≡ 0
no_step Advances is = absurd is
no_step call is = refl

no_steps : {D : Type 0} (calls : List (Transition D)) → AreFrames calls → steps_made calls ≡ 0
no_steps [] are = refl
no_steps (call ∷ calls) are =
    let here = no_step call.call are.0 in
    let later = no_steps calls are.1 in
    omega (arith, here, later)

-- the disk work of a turn is at most one step
few_last : {D : Type 0} (disk_of : D → Disk) (old new : EndpointValue D) (answer : Result (Option Progress) StepFault)
    (last : LastCalls disk_of old answer new) → steps_made last.calls ≤ 1
few_last disk_of old new answer last =
    elim last.are [
      | inl one ↦ let is = ap steps_made one.0 in omega (arith, is)
      | inr none ↦ let is = ap steps_made none.0 in omega (arith, is)
    ]

steps_more : {D : Type 0} (before frames last all : List (Transition D)) → AreFrames frames
    → all ≡ (before ++ frames) ++ last → steps_made all ≡ steps_made before + steps_made last
steps_more before frames last all are split =
    let none = no_steps frames are in
    let behind = steps-append (before ++ frames) last in
    let first = steps-append before frames in
    let whole = ap steps_made split in
    omega (arith, none, behind, first, whole)

module _ {D : Type 0} (disk_of : D → Disk) where
  -- the flow after a turn more, with as many steps as before and those of the turn
  turn_more : (answer : Result (Option Progress) StepFault) (old between new : Relay D) (goes : Goes disk_of old between)
      → TakesTurn disk_of answer between new
      → (later : Goes disk_of old new) × (steps_made later.calls ≤ steps_made goes.calls + 1)
      × (ArePrompt disk_of → steps_made later.calls ≡ steps_made goes.calls + 1)
  turn_more answer old between new goes turn =
      let more = turn-goes disk_of answer old between new goes turn in
      let all = steps_more goes.calls more.frames more.last.calls more.goes.calls more.are_frames more.calls in
      let few = few_last disk_of more.late new.endpoint answer more.last in (
        more.goes,
        omega (arith, all, few),
        λ prompt.
            let one = ap steps_made (one-if-prompt disk_of more.late new.endpoint answer prompt more.progresses more.last) in
            omega (arith, all, one),
      )

  turns_go : (turns : ℕ) (old new : Relay D) → old.to_common ≡ empty_lane → old.to_controlled ≡ empty_lane
      → TakesTurns disk_of turns old new
      → (goes : Goes disk_of old new) × (steps_made goes.calls ≤ turns)
      × (ArePrompt disk_of → steps_made goes.calls ≡ turns)
  turns_go zero old new out back is = subst (λ (r : Relay D). (goes : Goes disk_of old r)
      × (steps_made goes.calls ≤ 0) × (ArePrompt disk_of → steps_made goes.calls ≡ 0)) (sym is) (
        record {
          calls = [];
          lives = refl;
          out = flow-begins old.controlled old.common old.to_common out;
          back = flow-begins old.common old.controlled old.to_controlled back;
        },
        omega arith,
        λ prompt. refl,
      )
  turns_go (suc turns) old new out back (between, progress, before, last) =
      let (goes, few, count) = turns_go turns old between out back before in
      let (more, one, exact) = turn_more (Ok progress) old between new goes last in (
        more,
        omega (arith, few, one),
        λ prompt. let all = count prompt in let here = exact prompt in omega (arith, all, here),
      )

  relay_goes : {T : Type 0} (turns : ℕ) (old new : Relay D) (result : Result T RefillFault)
      → old.to_common ≡ empty_lane → old.to_controlled ≡ empty_lane → Relays disk_of turns old result new
      → (goes : Goes disk_of old new) × (steps_made goes.calls ≤ turns)
      × OnOk result (ArePrompt disk_of → steps_made goes.calls ≡ turns)
  relay_goes turns old new (Ok summary) out back took = turns_go turns old new out back took
  relay_goes turns old new (Err fault) out back (done, between, at, named, few, before, last) =
      let (goes, most, count) = turns_go done old between out back before in
      let (more, one, exact) = turn_more (Err at) old between new goes last in
      (more, omega (arith, most, one, few), tt)

  pub flows-within : (turns : ℕ) (old new : Relay D) (result : Result RelaySummary RefillFault)
      → old.to_common ≡ empty_lane → old.to_controlled ≡ empty_lane
      → Relays disk_of turns old result new → FlowsWithin disk_of turns old new
  flows-within turns old new result out back took =
      let (goes, most, count) = relay_goes turns old new result out back took in
      let (flow, same) = goes-flows disk_of old new goes in
      let is = ap steps_made same in
      (flow, omega (arith, most, is))

  pub flows-in-turns : (turns : ℕ) (old new : Relay D) (result : Result RelaySummary RefillFault)
      → ArePrompt disk_of → old.to_common ≡ empty_lane → old.to_controlled ≡ empty_lane
      → Relays disk_of turns old result new → FlowsInTurns disk_of turns old result new
  flows-in-turns turns old new (Ok summary) prompt out back took =
      let (goes, most, count) = relay_goes {T = RelaySummary} turns old new (Ok summary) out back took in
      let (flow, same) = goes-flows disk_of old new goes in
      (flow, ap steps_made same ∙ count prompt, tt)
  flows-in-turns turns old new (Err fault) prompt out back took =
      let (goes, most, count) = relay_goes {T = RelaySummary} turns old new (Err fault) out back took in
      let (flow, same) = goes-flows disk_of old new goes in
      let is = ap steps_made same in
      (flow, tt, omega (arith, most, is))

-- ---- records that pass

module _ {D : Type 0} (disk_of : D → Disk) where
  run_over : (side : Side) (old new : Run D) (s : Summary) → RunsOver disk_of side old (Ok s) new
      → (header : Header) × (between : Run D) × ReadsHeader old.source between.source (Ok header)
      × WritesText {T = Unit {0}} old.sink between.sink (header_text header) (Ok tt)
      × (between.endpoint ≡ old.endpoint)
      × (records : List CaptureRecord) × (passed : List CaptureRecord)
      × HasPassed disk_of side header.big between records passed new
      × HoldsOfLeft between.source.left new.source.left (λ left rest. rest ≡ [])
      × (s.passed ≡ length passed) × (s.passed + s.dropped ≡ length records)
  run_over side old new s (inl (at, ends, read, same, sink)) =
      absurd (let wrong : Ok s ≡ Err (Pcap at) = ends in cc)
  run_over side old new s (inr (inl (header, read, ends, writes, same))) =
      absurd (let wrong : Ok s ≡ Err (Pcap Write) = ends in cc)
  run_over side old new s (inr (inr (header, between, reads, writes, same, runs))) =
      let (records, passed, has, all, counts) = runs in
      (header, between, reads, writes, same, records, passed, has, all, counts.0, counts.1)

-- ---- one turn

module _ {D : Type 0} (disk_of : D → Disk) where
  empty : (side : Side) (waiting : Option (List ℕ)) (old new : Way D) → HandsWaiting disk_of side waiting old new
      → waiting ≡ None
      → new ≡ old
  empty side None old new hands is = hands
  empty side (Some frame) old new hands is = absurd (cc)
