-- The result of a relay of the program, and how it ends.
use Rattle.std.specs.Prelude.{◌≡◌, ◌≢◌, ◌⊎◌, ◌↔◌, ◌-◌, ◌^◌, ◌||◌, ⊤, ℕ, Bool, true, false, List, [], Option, None, Some}
use Rattle.std.specs.Prelude.{is_some, IfErr, IfOk, Result, Ok, Err}
use Rattle.std.specs.Io.KnownBytes.{Appends}
use Rattle.macs_disk.specs.Disk.{Disk}
use Rattle.macs_disk.specs.FileDisks.{disk_in_file}
use Rattle.macs_disk.specs.Files.{FileState}
use Rattle.macs_disk.specs.declared.file.FileDisk.{FileDisk}
use Rattle.macs_edge.specs.Attending.{IsAttended}
use Rattle.macs_edge.specs.Relaying.{IsRelayed, Relay, empty_lane, relay_of}
use Rattle.macs_edge.specs.declared.attending.DeskEvent.{DeskEvent}
use Rattle.macs_edge.specs.SparedSockets.{over_socket}
use Rattle.macs_edge.specs.UdpWires.{peer_of, socket_of}
use Rattle.macs_edge.specs.Wires.{WireState}
use Rattle.macs_edge.specs.declared.spared_sockets.SparedSocket.{SparedSocket}
use Rattle.macs_edge.specs.declared.udp_wire.UdpWire.{UdpWire}
use Rattle.macs_edge.specs.declared.relaying.RelaySummary.{RelaySummary}
use Rattle.macs_endpoint.specs.Calls.{IsCall}
use Rattle.macs_endpoint.specs.State.{Rested, Rests}
use Rattle.macs_endpoint.specs.Value.{EndpointValue}
use Rattle.macs_endpoint.specs.declared.fault.RefillFault.{RefillFault}
use Rattle.macs_endpoint.specs.declared.fault.RestFault.{RestFault}
use Rattle.macs_endpoint.specs.declared.fault.RestFault.TheVariants as rest
use Rattle.macs_fields.specs.First.{IsFirst}
use Rattle.macs_journal.specs.declared.fault.JournalFault.TheVariants as journal
use Rattle.macs_cli.specs.Addresses.{AddressFaultHolds, SpellsBoth, address_faults}
use Rattle.macs_cli.specs.declared.addresses.AddressFault.{AddressFault}
use Rattle.macs_cli.specs.declared.words.action.WireEnds.{WireEnds}
use Rattle.macs_cli.specs.declared.words.pace.Milliseconds.{Milliseconds}
use Rattle.macs_cli.specs.declared.words.pace.Pace.{Pace}
use Rattle.macs_cli.specs.declared.words.pace.Running.{Running}
use Rattle.macs_cli.specs.declared.words.pace.Pace.TheVariants.{Sleepless, Waiting}
use Rattle.macs_offline.specs.Openings.{IsEndpointIn, OpeningFails}
use Rattle.macs_cli.specs.Failing.{failure_of_journal, failure_of_refill, failure_status}
use Rattle.macs_offline.specs.Trying.{LookFails, TriesIn}
use Rattle.macs_cli.specs.declared.failure.Failure.{Failure}
use Rattle.macs_cli.specs.declared.failure.Failure.TheVariants as failures
use Rattle.macs_cli.specs.declared.status.Status.{Status}
use Rattle.macs_cli.specs.declared.status.Status.TheVariants as ends
use Rattle.macs_program.specs.Attendants.{ServesOver}
use Rattle.macs_program.specs.Summing.{relay_line}

-- the state of a new UDP wire: no call of it failed, and its frames are not known
abbrev pub new_wire : WireState
new_wire = record { waiting = None; sent = None; failed_receives = 0; failed_sends = 0 }

-- how many turns a relay takes: if it waits and no number is given, the maximum of 64 bits
abbrev pub turns_of : Pace → ℕ
turns_of (Sleepless turns) = turns
turns_of (Waiting limit None) = 2 ^ 64 - 1
turns_of (Waiting limit (Some turns)) = turns

-- how many receives in a row a wire skips at most while it yields no frames: none if the relay does not sleep
abbrev pub left_out : Pace → ℕ
left_out (Sleepless turns) = 0
left_out (Waiting limit turns) = 7

-- a wire over a socket, none of whose receives was skipped yet, and which skips as many as a relay with this pace
abbrev pub IsSparedAt : {A S : Type 0} → Pace → UdpWire A (SparedSocket S) → Type 0
IsSparedAt pace wire = (socket : _) × (socket_of wire ≡ over_socket socket (left_out pace))

-- the same wire as this one, over its socket
abbrev pub SparesAt : {A S : Type 0} → Pace → UdpWire A S → UdpWire A (SparedSocket S) → Type 0
SparesAt pace wire spared = (socket_of spared ≡ over_socket (socket_of wire) (left_out pace))
    × (peer_of spared ≡ peer_of wire)

-- the longest sleep of a relay, if it sleeps
abbrev pub limit_of : Pace → Option Milliseconds
limit_of (Sleepless turns) = None
limit_of (Waiting limit turns) = Some limit

-- the end of a relay is planned if it was given no number of turns
abbrev pub is_planned : Pace → Bool
is_planned (Waiting limit None) = true
is_planned pace = false

-- the configuration of a relay: whether a desk attends it, its maximum number of turns, whether its end is planned, and
-- what the desk, if there is one, does over the events of the relay
pub record Course : Type 1 where
  pub attended : Bool
  pub turns : ℕ
  pub planned : Bool
  pub Serves : List DeskEvent → Type 0

-- a desk attends it if there is a control socket or a file of counters
abbrev pub is_attended : Running → Bool
is_attended running = is_some running.control || is_some running.metrics

-- what the words request of the disk file with this name, attended or not, in the system `T`
abbrev pub course_with : Type 0 → Bool → List ℕ → Running → Course
course_with T attended disk running =
    record {
      attended = attended;
      turns = turns_of running.pace;
      planned = is_planned running.pace;
      Serves = ServesOver T disk running;
    }

-- what the words request
abbrev pub course_of : Type 0 → List ℕ → Running → Course
course_of T disk running = course_with T (is_attended running) disk running

-- Frames are relayed, and a desk, if there is one, submits commands, is given their results, reports them to its
-- clients, and may end the relay
abbrev pub IsRunBy : Bool → {D : Type 0} → (D → Disk) → ℕ → (List DeskEvent → Type 0) → Relay D
    → Result RelaySummary RefillFault → EndpointValue D → WireState → WireState → Type 0
IsRunBy false disk_of turns Serves old result endpoint controlled common =
    IsRelayed disk_of turns old result endpoint controlled common
IsRunBy true disk_of turns Serves old result endpoint controlled common = (events : List DeskEvent)
    × IsAttended disk_of turns old events result endpoint controlled common × Serves events

-- the result of a rest at the end of a relay: it fails if the disk does. If a command is pending, or the last
-- generation is reached, the relay ends without a rest
abbrev pub rest_result : Result (Unit {0}) RestFault → Result (Unit {0}) Failure
rest_result (Err rest.Stopped) = Err (failure_of_journal journal.Stopped)
rest_result (Err rest.Disk) = Err (failure_of_journal journal.Disk)
rest_result answer = Ok tt

-- after a planned end the endpoint rests, and after another end nothing is done
abbrev pub RestsIf : {D : Type 0} → (D → Disk) → Bool → EndpointValue D → Result (Unit {0}) Failure → EndpointValue D
    → Type 0
RestsIf disk_of true old result new = (answer : Result (Unit {0}) RestFault)
    × IsCall disk_of old Rests (Rested answer) new × (result ≡ rest_result answer)
RestsIf disk_of false old result new = (result ≡ Ok tt) × (new ≡ old)

-- the result of a relay whose rest had this result
abbrev pub summary_after : RelaySummary → Result (Unit {0}) Failure → Result RelaySummary Failure
summary_after summary (Ok done) = Ok summary
summary_after summary (Err failure) = Err failure

-- how a relay with this answer ends, whose end is planned or not: with its fault, and nothing more is done; or, after
-- its last turn, with what is done at its end
abbrev pub Ends : {D : Type 0} → (D → Disk) → Bool → Result RelaySummary RefillFault → EndpointValue D
    → Result RelaySummary Failure → EndpointValue D → Type 0
Ends disk_of planned (Err fault) old result new = (result ≡ Err (failure_of_refill fault)) × (new ≡ old)
Ends disk_of planned (Ok summary) old result new = (rested : Result (Unit {0}) Failure)
    × RestsIf disk_of planned old rested new × (result ≡ summary_after summary rested)

-- a relay runs as configured, with or without a desk, for a number of turns, or until it ends; and this is its result
abbrev pub IsRun : {D : Type 0} → (D → Disk) → Course → Relay D → Result RelaySummary Failure → EndpointValue D
    → WireState → WireState → Type 0
IsRun {D} disk_of course old result endpoint controlled common =
    (answer : Result RelaySummary RefillFault) × (relayed : EndpointValue D)
    × IsRunBy course.attended disk_of course.turns course.Serves old answer relayed controlled common
    × Ends disk_of course.planned answer relayed result endpoint

-- a relay ends with this summary: of an endpoint that was opened on a disk in a file with this state, between two new
-- wires
pub record ComesTo {F : Type 0} (file : F → FileState) (course : Course) (summary : RelaySummary) : Type 0 where
  pub old : EndpointValue (FileDisk F)
  pub new : EndpointValue (FileDisk F)
  pub controlled : WireState
  pub common : WireState
  pub endpoint : IsEndpointIn file old
  pub relayed : IsRun (disk_in_file file) course (relay_of old new_wire new_wire empty_lane empty_lane) (Ok summary) new
      controlled common

-- how a relay fails: of a step or of its rest; or it ends normally, and its line cannot be written
abbrev pub EndsRelay : {D : Type 0} → (D → Disk) → Course → Relay D → Failure → EndpointValue D → WireState
    → WireState → Type 0
EndsRelay disk_of course old failure endpoint controlled common =
    IsRun disk_of course old (Err failure) endpoint controlled common
    ⊎ ((failure ≡ failures.Output)
    × (summary : RelaySummary) × IsRun disk_of course old (Ok summary) endpoint controlled common)

-- how the result of a relay is reported: its summary is printed, or that print fails; or it failed, and nothing is
-- printed
abbrev pub Reports : {W : Type 0} → (W → Option (List ℕ)) → (W → Bool) → Result RelaySummary Failure → W
    → Result Status Failure → W → Type 0
Reports contents has_failed (Ok summary) before result after =
    IfOk result (λ status. Appends (contents before) (contents after) (relay_line summary) × (status ≡ ends.Done))
    × IfErr result (λ failure. (failure ≡ failures.Output) × (has_failed after ≡ true))
Reports contents has_failed (Err failure) before result after = (result ≡ Err failure) × (after ≡ before)

-- A desk attends a relay at this pace, and this is `Heard` of its events; the relay ends, and is reported
abbrev pub RelaysAttended : {D W : Type 0} → (D → Disk) → (List DeskEvent → Type 0) → (W → Option (List ℕ))
    → (W → Bool) → Pace → Relay D → W → Result Status Failure → EndpointValue D → WireState → WireState → W → Type 0
RelaysAttended {D} disk_of Heard contents has_failed pace old before result endpoint controlled common after =
    (answer : Result RelaySummary RefillFault) × (events : List DeskEvent) × (relayed : EndpointValue D)
    × (ended : Result RelaySummary Failure)
    × IsAttended disk_of (turns_of pace) old events answer relayed controlled common
    × Heard events × Ends disk_of (is_planned pace) answer relayed ended endpoint
    × Reports contents has_failed ended before result after

-- the failures that `relay` ends with: an address, the disk, a wire, the control socket, memory and standard output,
-- but no capture, command file or input
abbrev pub IsOfRelay : Failure → Type 0
IsOfRelay (failures.Address fault) = ⊤
IsOfRelay (failures.Disk fault) = ⊤
IsOfRelay failures.Wire = ⊤
IsOfRelay failures.Control = ⊤
IsOfRelay failures.Memory = ⊤
IsOfRelay failures.Output = ⊤
IsOfRelay other = ⊥

-- the failures after the addresses: of the disk, a wire, the control socket, memory and standard output
abbrev pub IsAfterAddresses : Failure → Type 0
IsAfterAddresses (failures.Disk fault) = ⊤
IsAfterAddresses failures.Wire = ⊤
IsAfterAddresses failures.Control = ⊤
IsAfterAddresses failures.Memory = ⊤
IsAfterAddresses failures.Output = ⊤
IsAfterAddresses other = ⊥

-- from this endpoint a relay between two new wires ends with this summary
pub record Relays {D : Type 0} (disk_of : D → Disk) (course : Course) (old : EndpointValue D) (summary : RelaySummary)
    (new : EndpointValue D) : Type 0 where
  pub controlled : WireState
  pub common : WireState
  pub relayed : IsRun disk_of course (relay_of old new_wire new_wire empty_lane empty_lane) (Ok summary) new
      controlled common

-- between two new wires a relay from this endpoint ends with this failure
pub record StopsRelay {D : Type 0} (disk_of : D → Disk) (course : Course) (old : EndpointValue D) (failure : Failure)
    (new : EndpointValue D) : Type 0 where
  pub controlled : WireState
  pub common : WireState
  pub ends : EndsRelay disk_of course (relay_of old new_wire new_wire empty_lane empty_lane) failure new
      controlled common

-- there is to be a desk, and the control socket cannot be bound, another file has the name of the file of counters, or
-- memory runs out, and nothing is done with the endpoint; or the relay ends
abbrev pub RelayEnds : {D : Type 0} → (D → Disk) → Course → EndpointValue D → Failure → EndpointValue D → Type 0
RelayEnds disk_of course old failure new =
    ((course.attended ≡ true) × ((failure ≡ failures.Memory) ⊎ (failure ≡ failures.Control)) × (new ≡ old))
    ⊎ StopsRelay disk_of course old failure new

-- The two wires cannot both be bound, or there is no memory for them. Then the disk in the file is examined, without
-- writing its file anew: the failure is this one if there is an endpoint, else that of the disk
abbrev pub IsUnbound : {F : Type 0} → (F → FileState) → Failure → Type 0
IsUnbound file failure =
    (((failure ≡ failures.Memory) ⊎ (failure ≡ failures.Wire)) × TriesIn file None [] [])
    ⊎ LookFails file failure

-- the same with an endpoint on a disk in a file
pub record RelayEndsIn {F : Type 0} (file : F → FileState) (course : Course) (failure : Failure) : Type 0 where
  pub old : EndpointValue (FileDisk F)
  pub new : EndpointValue (FileDisk F)
  pub endpoint : IsEndpointIn file old
  pub ends : RelayEnds (disk_in_file file) course old failure new

-- how it fails after the addresses: of its wires, as no endpoint is opened, or as it ends
abbrev pub RelayFailsIn : {F : Type 0} → (F → FileState) → Course → Failure → Type 0
RelayFailsIn file course failure =
    IsUnbound file failure ⊎ OpeningFails file failure ⊎ RelayEndsIn file course failure

-- ---- what `relay` comes to

-- Words that name two wires are carried out. Either this is `Comes` of a summary, which is printed; or an address is
-- refused, or this is `Fails` of a later failure
pub record RelayedAs {W : Type 0} (Comes : RelaySummary → Type 0) (Fails : Failure → Type 0)
    (contents : W → Option (List ℕ)) (has_failed : W → Bool) (controlled common : WireEnds) (before : W)
    (result : Result Status Failure) (after : W) : Type 0 where
  pub printed : IfOk result
      (λ status. (summary : RelaySummary) × Comes summary × SpellsBoth controlled common
      × Appends (contents before) (contents after) (relay_line summary) × (status ≡ ends.Done))
  pub address : (fault : AddressFault)
      → (result ≡ Err (failures.Address fault)) ↔ IsFirst (AddressFaultHolds controlled common) address_faults fault
  pub usage : IfErr result (λ failure. failure_status failure ≡ ends.Usage
      → ((fault : AddressFault) × AddressFaultHolds controlled common fault) × (after ≡ before))
  pub ended : IfErr result (λ failure. ((fault : AddressFault) × (failure ≡ failures.Address fault)
      × IsFirst (AddressFaultHolds controlled common) address_faults fault) ⊎ Fails failure)
  pub names : IfErr result IsOfRelay
  pub silent : IfErr result (λ failure. failure ≢ failures.Output → after ≡ before)
  pub broken : IfErr result (λ failure. failure ≡ failures.Output → has_failed after ≡ true)
