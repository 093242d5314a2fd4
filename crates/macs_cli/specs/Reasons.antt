-- Why a named file cannot be used, and the message about it.
use Rattle.std.specs.Prelude.{◌≡◌, ◌⊎◌, ◌++◌, ℕ, List, codes, map, string_bytes}
use Rattle.std.specs.Str.{chars}
use Rattle.std.specs.declared.io.ErrorKind.{ErrorKind}
use Rattle.std.specs.declared.io.ErrorKind.TheVariants as system
use Rattle.macs_cli.specs.Controls.{printable_char}
use Rattle.macs_cli.specs.declared.failure.Failure.{Failure}
use Rattle.macs_cli.specs.declared.failure.Failure.TheVariants as failures

-- why a file cannot be used, for an error of the system, by its kind
abbrev pub reason_text : ErrorKind → List ℕ
reason_text system.NotFound = codes "no such file"
reason_text system.NotADirectory = codes "no such file"
reason_text system.PermissionDenied = codes "no permission"
reason_text system.IsADirectory = codes "a folder"
reason_text system.FilesystemLoop = codes "too many links"
reason_text system.TooManyLinks = codes "too many links"
reason_text system.WouldBlock = codes "in use by another program"
reason_text system.InvalidInput = codes "not a regular file, or standard output goes there"
reason_text kind = codes "cannot be read"

-- a name as it is displayed: `?` replaces each control character
abbrev pub IsShown : List ℕ → List ℕ → Type 0
IsShown name shown = chars shown ≡ map printable_char (chars name)

-- the message about something with a name: a word, the name and a reason
abbrev pub Tells : List ℕ → List ℕ → List ℕ → List ℕ → Type 0
Tells word name why said =
    (shown : List ℕ) × IsShown name shown × (said ≡ word ++ (codes ": " ++ (shown ++ (codes ": " ++ why))))

-- the message about a file with this name, for some reason
abbrev pub TellsOfFile : List ℕ → List ℕ → List ℕ → Type 0
TellsOfFile word name said = (kind : ErrorKind) × Tells word name (reason_text kind) said

-- a failure has a message that satisfies this predicate, or memory runs out
abbrev pub Complains : (List ℕ → Type 0) → Failure → Type 0
Complains Holds failure =
    (failure ≡ failures.Memory) ⊎ ((text : _) × (failure ≡ failures.Said text) × Holds (string_bytes text))

-- the same for a disk file
abbrev pub ComplainsOfDisk : (List ℕ → Type 0) → Failure → Type 0
ComplainsOfDisk Holds failure =
    (failure ≡ failures.Memory) ⊎ ((text : _) × (failure ≡ failures.DiskFile text) × Holds (string_bytes text))

-- a command file cannot be read
abbrev pub IsUnread : List ℕ → Failure → Type 0
IsUnread name failure = Complains (TellsOfFile (codes "commands") name) failure

-- a link file cannot be read
abbrev pub IsLinkUnread : List ℕ → Failure → Type 0
IsLinkUnread name failure = Complains (TellsOfFile (codes "link file") name) failure

-- the file of a disk cannot be opened for reading
abbrev pub IsNotRead : List ℕ → Failure → Type 0
IsNotRead name failure = ComplainsOfDisk (TellsOfFile (codes "disk file") name) failure
