-- What ends a run before its answer: the program's message, and its status.
use Rattle.std.specs.Prelude.{◌≢◌, ℕ, List, codes, string_bytes}
use Rattle.macs_disk.specs.declared.file_fault.FileFault.{FileFault}
use Rattle.macs_disk.specs.declared.file_fault.FileFault.TheVariants as file
use Rattle.macs_edge.specs.declared.udp_wire.BindFault.{BindFault}
use Rattle.macs_edge.specs.declared.udp_wire.BindFault.TheVariants as bind
use Rattle.macs_edge.specs.declared.capture_runs.RunFault.{RunFault}
use Rattle.macs_edge.specs.declared.capture_runs.RunFault.TheVariants.{Device, Pcap}
use Rattle.macs_control.specs.declared.asking.AskFault.{AskFault}
use Rattle.macs_control.specs.declared.asking.AskFault.TheVariants as asking
use Rattle.macs_control.specs.declared.control_socket.ControlFault.{ControlFault}
use Rattle.macs_control.specs.declared.control_socket.ControlFault.TheVariants as control
use Rattle.macs_endpoint.specs.declared.fault.RefillFault.{RefillFault}
use Rattle.macs_endpoint.specs.declared.fault.RefillFault.TheVariants as refill
use Rattle.macs_journal.specs.declared.fault.JournalFault.{JournalFault}
use Rattle.macs_journal.specs.declared.fault.JournalFault.TheVariants as journal
use Rattle.macs_pcap.specs.declared.fault.PcapFault.{PcapFault}
use Rattle.macs_pcap.specs.declared.fault.PcapFault.TheVariants as pcap
use Rattle.macs_cli.specs.declared.words.action.UsageFault.{UsageFault}
use Rattle.macs_cli.specs.declared.words.action.UsageFault.TheVariants as usage
use Rattle.macs_cli.specs.declared.addresses.AddressFault.{AddressFault}
use Rattle.macs_cli.specs.declared.addresses.AddressFault.TheVariants as address
use Rattle.macs_cli.specs.declared.failure.DiskFault.{DiskFault}
use Rattle.macs_cli.specs.declared.failure.DiskFault.TheVariants as disk
use Rattle.macs_cli.specs.declared.failure.Failure.{Failure}
use Rattle.macs_cli.specs.declared.failure.Failure.TheVariants as failure
use Rattle.macs_cli.specs.declared.failure.LinkRefusal.{LinkRefusal}
use Rattle.macs_cli.specs.declared.failure.LinkRefusal.TheVariants as wrong
use Rattle.macs_cli.specs.declared.open_input.InputFault.{InputFault}
use Rattle.macs_cli.specs.declared.open_input.InputFault.TheVariants as input
use Rattle.macs_cli.specs.declared.status.Status.{Status}
use Rattle.macs_cli.specs.declared.status.Status.TheVariants as ends
use Rattle.macs_cli.specs.declared.values.ValueFault.{ValueFault}
use Rattle.macs_cli.specs.declared.values.ValueFault.TheVariants as value

-- ---- the failure for each fault

-- words with wrong usage, or out of memory
abbrev pub failure_of_words : UsageFault → Failure
failure_of_words (usage.Usage cause) = failure.Usage cause
failure_of_words usage.Memory = failure.Memory

-- a fault of the journal on the disk
abbrev pub failure_of_journal : JournalFault → Failure
failure_of_journal fault = failure.Disk (disk.Journal fault)

-- a disk file that cannot be opened, has the wrong length or fails, or out of memory
abbrev pub failure_of_file : FileFault → Failure
failure_of_file file.Open = failure.Disk disk.File
failure_of_file file.Length = failure.Disk disk.Length
failure_of_file file.Device = failure_of_journal journal.Disk
failure_of_file file.Memory = failure.Memory

-- a refill is not refused because a command is pending
abbrev pub IsNotBusy : RefillFault → Type 0
IsNotBusy fault = fault ≢ refill.Busy

-- packet numbers are not reserved: Stopped, GenerationsSpent or Disk, and no other fault
abbrev pub failure_of_refill : RefillFault → Failure
failure_of_refill refill.Stopped = failure_of_journal journal.Stopped
failure_of_refill refill.GenerationsSpent = failure_of_journal journal.GenerationsSpent
failure_of_refill fault = failure_of_journal journal.Disk

-- a capture that is wrong, or out of memory
abbrev pub failure_of_capture : PcapFault → Failure
failure_of_capture pcap.Memory = failure.Memory
failure_of_capture fault = failure.Capture

-- a run over a capture does not end with a refill refused because a command is pending
abbrev pub IsNotBusyRun : RunFault → Type 0
IsNotBusyRun fault = fault ≢ Device refill.Busy

-- a capture that is wrong, out of memory, or a fault of the disk
abbrev pub failure_of_run : RunFault → Failure
failure_of_run (Pcap pcap.Memory) = failure.Memory
failure_of_run (Pcap fault) = failure.Capture
failure_of_run (Device fault) = failure_of_refill fault

-- an address that cannot be bound, or out of memory
abbrev pub failure_of_bind : BindFault → Failure
failure_of_bind bind.Memory = failure.Memory
failure_of_bind bind.Bind = failure.Wire

-- a control socket that cannot be bound, or out of memory
abbrev pub failure_of_control : ControlFault → Failure
failure_of_control control.Memory = failure.Memory
failure_of_control control.Bind = failure.Control

-- a relay that does not answer, or out of memory
abbrev pub failure_of_asking : AskFault → Failure
failure_of_asking asking.Memory = failure.Memory
failure_of_asking asking.Gone = failure.Control

-- ---- the program's message, one line

-- a value of a new endpoint
abbrev pub value_fault_text : ValueFault → List ℕ
value_fault_text value.Sci = codes "SCI is not 16 hex digits"
value_fault_text value.TxBlock = codes "TX is not 1 to 65536"
value_fault_text value.RxBlock = codes "RX is not 1 to 65536"
value_fault_text value.DeviceBlock = codes "--block is not 512 or 4096"

-- an address of a wire
abbrev pub address_fault_text : AddressFault → List ℕ
address_fault_text address.Own1 = codes "OWN1 is not an address and a port"
address_fault_text address.Peer1 = codes "PEER1 is not an address and a port"
address_fault_text address.Own2 = codes "OWN2 is not an address and a port"
address_fault_text address.Peer2 = codes "PEER2 is not an address and a port"

-- what is on the disk, or a failed device call
abbrev pub disk_fault_text : DiskFault → List ℕ
disk_fault_text disk.File = codes "disk file"
disk_fault_text disk.Length = codes "disk length"
disk_fault_text (disk.Journal journal.Stopped) = codes "stopped"
disk_fault_text (disk.Journal journal.TooSmall) = codes "too small"
disk_fault_text (disk.Journal journal.Disk) = codes "disk"
disk_fault_text (disk.Journal journal.AlreadyFormatted) = codes "already formatted"
disk_fault_text (disk.Journal journal.NotFormatted) = codes "not formatted"
disk_fault_text (disk.Journal journal.BadJournal) = codes "bad journal"
disk_fault_text (disk.Journal journal.GenerationsSpent) = codes "generations spent"

-- a link that is refused
abbrev pub link_refusal_text : LinkRefusal → List ℕ
link_refusal_text wrong.SameSci = codes "same sci"
link_refusal_text wrong.SameKey = codes "same key"
link_refusal_text wrong.AnInUse = codes "an in use"

-- a line of the input
abbrev pub input_fault_text : InputFault → List ℕ
input_fault_text input.Input = codes "input"
input_fault_text input.Key = codes "key"
input_fault_text input.Sci = codes "sci"
input_fault_text input.Offset = codes "offset"
input_fault_text input.Frame = codes "frame"

-- each failure
abbrev pub failure_text : Failure → List ℕ
failure_text (failure.Usage cause) = string_bytes cause
failure_text (failure.Value fault) = value_fault_text fault
failure_text (failure.Address fault) = address_fault_text fault
failure_text (failure.Disk fault) = disk_fault_text fault
failure_text failure.Capture = codes "capture"
failure_text failure.Commands = codes "commands"
failure_text failure.Wire = codes "wire"
failure_text failure.Control = codes "control"
failure_text failure.Random = codes "random source"
failure_text (failure.Said cause) = string_bytes cause
failure_text (failure.DiskFile cause) = string_bytes cause
failure_text failure.OtherEnd = codes "command file sci: not that of DISK"
failure_text (failure.Link refusal) = link_refusal_text refusal
failure_text failure.Memory = codes "memory"
failure_text (failure.Input fault) = input_fault_text fault
failure_text failure.Output = codes "output"

-- ---- how the run ends

-- wrong usage, an unusable disk, a refused link, or a fault of input, output or memory
abbrev pub failure_status : Failure → Status
failure_status (failure.Usage cause) = ends.Usage
failure_status (failure.Value fault) = ends.Usage
failure_status (failure.Address fault) = ends.Usage
failure_status (failure.Disk fault) = ends.Disk
failure_status failure.Capture = ends.Fault
failure_status failure.Commands = ends.Fault
failure_status failure.Wire = ends.Fault
failure_status failure.Control = ends.Fault
failure_status failure.Random = ends.Fault
failure_status (failure.Said cause) = ends.Fault
failure_status (failure.DiskFile cause) = ends.Disk
failure_status failure.OtherEnd = ends.Fault
failure_status (failure.Link refusal) = ends.Refused
failure_status failure.Memory = ends.Fault
failure_status (failure.Input fault) = ends.Fault
failure_status failure.Output = ends.Fault
