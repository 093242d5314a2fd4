-- How the program exits.
use Rattle.std.specs.Prelude.{ℕ}
use Rattle.macs_cli.specs.declared.status.Status.{Status}
use Rattle.macs_cli.specs.declared.status.Status.TheVariants as ends

-- the exit status of the process
abbrev pub code_of : Status → ℕ
code_of ends.Done = 0
code_of ends.Usage = 2
code_of ends.Refused = 3
code_of ends.Disk = 4
code_of ends.Fault = 5
