-- When the answers occur that a step leaves to the endpoint, and which calls make no device call.
use Rattle.std.specs.Prelude.{◌≡◌, ◌⊎◌, true, false, None, Ok, Err}
use Rattle.macs_txsc.specs.Transmit.{is_at_ceiling, next_outgoing}
use Rattle.macs_txsc.specs.declared.fault.TxFault.TheVariants.{NoNumber}
use Rattle.macs_rxsc.specs.Receive.{Arrival, Arrives, is_below}
use Rattle.macs_rxsc.specs.declared.verdict.Verdict.TheVariants.{HeldBack}
use Rattle.macs_journal.specs.Compacted.{last_generation}
use Rattle.macs_store.specs.Keeps.{IsSpent}
use Rattle.macs_store.specs.Value.{IsIdle, generation, standing_in}
use Rattle.macs_endpoint.specs.Needed.{raise_in}
use Rattle.macs_endpoint.specs.Value.{EndpointValue, state_of}
use Rattle.macs_endpoint.specs.State.{Advanced, AdvancedLong, Advances, Call, Commands, Protects, Protected, Ran}
use Rattle.macs_endpoint.specs.State.{Received, Receives, Refilled, Refills, RefusedLong, Reply, Rested, Rests, Submits}
use Rattle.macs_endpoint.specs.State.{Submitted, no_logs, rx_side, tx_side}
use Rattle.macs_endpoint.specs.declared.fault.CommandFault.TheVariants as ran
use Rattle.macs_endpoint.specs.declared.fault.ProtectFault.TheVariants.{Tx}
use Rattle.macs_endpoint.specs.declared.fault.RefillFault.TheVariants as refill
use Rattle.macs_endpoint.specs.declared.fault.RestFault.TheVariants as rest
use Rattle.macs_endpoint.specs.declared.fault.StepFault.TheVariants as step
use Rattle.macs_endpoint.specs.declared.progress.Step.TheVariants.{Done}

-- GenerationsSpent only if all slots of the current area are used and its generation is the last, of a rest also if
-- slots are free; NoNumber only if the next number is the ceiling; HeldBack only if a number is not below it
abbrev pub IsLimited : {D : Type 0} → EndpointValue D → Call → Reply → EndpointValue D → Type 0
IsLimited old (Commands command) (Ran (Err ran.GenerationsSpent)) new = IsSpent new.store
IsLimited old Refills (Refilled (Err refill.GenerationsSpent)) new = IsSpent new.store
IsLimited old Rests (Rested (Err rest.GenerationsSpent)) new = generation new.store ≡ last_generation
IsLimited old (Protects plain) (Protected (Err (Tx NoNumber)) out) new =
    is_at_ceiling (standing_in old.store).ceilings.tx (next_outgoing (tx_side (state_of old no_logs))) ≡ true
IsLimited old (Receives frame) (Received (Ok HeldBack) out) new =
    (a : Arrival) × Arrives (rx_side (state_of old no_logs)) frame a
    × (is_below ((standing_in old.store).ceilings.rx a.sci a.an) a.pn ≡ false)
IsLimited old call reply new = Unit {0}

-- This program refuses no command for the length of its key. Frames, submitted commands, work that is refused before it
-- begins and a stopped endpoint leave the store unchanged, and with it the disk and its clock. If no work is under way
-- so do a command or a rest that is answered with GenerationsSpent, and a refill if no ceiling is needed or no more
-- change can be kept.
abbrev pub IsStill : {D : Type 0} → EndpointValue D → Call → Reply → EndpointValue D → Type 0
IsStill old (Commands command) (Ran (Err (ran.Refused refusal))) new = new.store ≡ old.store
IsStill old (Commands command) (Ran (Err ran.Busy)) new = new.store ≡ old.store
IsStill old (Commands command) (Ran (Err ran.Stopped)) new = new.store ≡ old.store
IsStill old (Commands command) (Ran (Err ran.GenerationsSpent)) new = IsIdle old.store → new.store ≡ old.store
IsStill old Refills (Refilled (Err refill.Busy)) new = new.store ≡ old.store
IsStill old Refills (Refilled (Err refill.Stopped)) new = new.store ≡ old.store
IsStill old Refills (Refilled result) new = IsIdle old.store → (raise_in old ≡ None) ⊎ IsSpent old.store
    → new.store ≡ old.store
IsStill old Rests (Rested (Err rest.Busy)) new = new.store ≡ old.store
IsStill old Rests (Rested (Err rest.Stopped)) new = new.store ≡ old.store
IsStill old Rests (Rested (Err rest.GenerationsSpent)) new = IsIdle old.store → new.store ≡ old.store
IsStill old Advances (Advanced (Ok (Done ticket (Err fault)))) new = new.store ≡ old.store
IsStill old Advances (Advanced (Err step.GenerationsSpent)) new = new.store ≡ old.store
IsStill old Advances (Advanced (Err step.Stopped)) new = new.store ≡ old.store
IsStill old (Submits command) (Submitted result) new = new.store ≡ old.store
IsStill old (Protects plain) (Protected result out) new = new.store ≡ old.store
IsStill old (Receives frame) (Received result out) new = new.store ≡ old.store
IsStill old (Commands command) RefusedLong new = ⊥
IsStill old Advances (AdvancedLong ticket) new = ⊥
IsStill old call reply new = Unit {0}
