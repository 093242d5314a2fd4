-- The desk that attends a relay of the program, and what it does over the relay.
use Rattle.std.specs.Prelude.{◌≡◌, ℕ, List, [], None, is_some}
use Rattle.std.specs.Net.Unix.{unix_listener_raw_fd}
use Rattle.std.specs.declared.net.unix.UnixListener.{UnixListener}
use Rattle.std.specs.declared.net.unix.UnixStream.{UnixStream}
use Rattle.macs_commands.specs.Talks.{Talk}
use Rattle.macs_control.specs.ControlSockets.{IsUnused, Serves}
use Rattle.macs_control.specs.MetricsFiles.{IsPlaceAt}
use Rattle.macs_control.specs.Serving.{ServesClients}
use Rattle.macs_control.specs.Unanswered.{entries_of}
use Rattle.macs_control.specs.declared.control_socket.ControlSocket.{ControlSocket}
use Rattle.macs_control.specs.declared.desk.control_desk.ControlDesk.{ControlDesk}
use Rattle.macs_control.specs.declared.metrics_file.MetricsPlace.{MetricsPlace}
use Rattle.macs_control.specs.declared.watch.Sockets.{Sockets}
use Rattle.macs_edge.specs.declared.attending.DeskEvent.{DeskEvent}
use Rattle.macs_cli.specs.declared.words.pace.Pace.{Pace}
use Rattle.macs_cli.specs.declared.words.pace.Pace.TheVariants.{Sleepless, Waiting}
use Rattle.macs_cli.specs.declared.words.pace.Running.{Running}
use Rattle.macs_program.specs.About.{IsThisBuild}
use Rattle.macs_program.specs.declared.relay_system.RelaySystem.{RelaySystem}

-- its clients, over sockets of the system `T`
abbrev pub SystemClients : Type 0 → Type 0
SystemClients T = ControlSocket T UnixListener UnixStream

-- the desk
abbrev pub SystemDesk : Type 0 → Type 0
SystemDesk T = ControlDesk (SystemClients T) (MetricsPlace T) (RelaySystem T)

-- what an exchange makes of its clients: who waits, and what these sockets bring and take, is not known
abbrev pub system_does : {T : Type 0} → SystemClients T → Talk → SystemClients T → Type 0
system_does old talk new = Serves (λ door. None) unix_listener_raw_fd (λ connection. None) old talk new

-- the longest sleep of a desk, in milliseconds: none if the relay does not sleep
abbrev pub sleep_of : Pace → ℕ
sleep_of (Sleepless turns) = 0
sleep_of (Waiting limit turns) = limit.0

-- The desk of a relay of the disk file with this name, as the words request it, for these sockets of its wires: no call
-- of it has been made, no command is unanswered, and its program is this one
pub record IsNewDesk {T : Type 0} (disk : List ℕ) (running : Running) (sockets : Sockets) (desk : SystemDesk T)
    : Type 0 where
  pub program : IsThisBuild desk.program.build
  pub clients : IsUnused (is_some running.control) sockets (sleep_of running.pace) desk.clients
  pub metrics : IsPlaceAt running.metrics desk.metrics
  pub drops : desk.system.wires ≡ sockets
  pub keys : desk.system.keys.disk.now ≡ disk
  pub unanswered : entries_of desk.unanswered ≡ []
  pub good : desk.good ≡ 0
  pub turns : desk.turns_left ≡ 63

-- over a whole relay, in which these events came to it, the result of each command that one of its clients gave was
-- sent to this client, once, in the order of tickets
pub record ServesOver (T : Type 0) (disk : List ℕ) (running : Running) (events : List DeskEvent) : Type 0 where
  pub sockets : Sockets
  pub before : SystemDesk T
  pub after : SystemDesk T
  pub is_new : IsNewDesk disk running sockets before
  pub serves : ServesClients system_does before events after
