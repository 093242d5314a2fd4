-- Why a control socket cannot be asked, and the message about it.
use Rattle.std.specs.Prelude.{ℕ, List, codes}
use Rattle.std.specs.declared.io.ErrorKind.{ErrorKind}
use Rattle.std.specs.declared.io.ErrorKind.TheVariants as system
use Rattle.macs_program.specs.declared.socket_reason.SocketReason.{SocketReason}
use Rattle.macs_program.specs.declared.socket_reason.SocketReason.TheVariants as reason

-- The reason for an error of a connection, by its kind. A relay that accepts no connection in time gives no answer
abbrev pub socket_reason : ErrorKind → SocketReason
socket_reason system.NotFound = reason.Missing
socket_reason system.NotADirectory = reason.Missing
socket_reason system.PermissionDenied = reason.NoPermission
socket_reason system.ConnectionRefused = reason.Refused
socket_reason system.WouldBlock = reason.NoAnswer
socket_reason system.TimedOut = reason.NoAnswer
socket_reason kind = reason.NoSocket

-- its text
abbrev pub socket_text : SocketReason → List ℕ
socket_text reason.Missing = codes "no such socket"
socket_text reason.NoPermission = codes "no permission"
socket_text reason.Refused = codes "nobody listens"
socket_text reason.NoSocket = codes "not a socket of a relay"
socket_text reason.NoAnswer = codes "no answer of a relay, or it went away"
