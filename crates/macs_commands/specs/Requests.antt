-- Requests, one per line, and the end of an answer.
use Rattle.std.specs.Prelude.{ℕ, if◌then◌else◌, List, codes, Option, Some, None}
use Rattle.std.specs.Fmt.{decimal}
use Rattle.std.specs.Str.{bytes_eq}
use Rattle.macs_commands.specs.CommandLines.{spaced, IsTold, command_line}
use Rattle.macs_commands.specs.declared.requests.request.Request.{Request}
use Rattle.macs_commands.specs.declared.requests.request.Request.TheVariants.{About, Apply, Counters, Keys, Show, Stop}
use Rattle.macs_commands.specs.declared.requests.request.Request.TheVariants.{Traffic}

-- a request whose command, if it has one, is in the ranges of its types
abbrev pub IsAsked : Request → Type 0
IsAsked (Apply command) = IsTold command
IsAsked request = Unit {0}

-- the line of a request, without its line feed
abbrev pub request_line : Request → List ℕ
request_line Show = codes "show"
request_line Counters = codes "counters"
request_line Keys = codes "keys"
request_line Traffic = codes "traffic"
request_line About = codes "about"
request_line Stop = codes "stop"
request_line (Apply command) = command_line command

-- the request about the program or its keys that consists of this word
abbrev pub own_request : List ℕ → Option Request
own_request line =
    if bytes_eq line (codes "keys") then Some Keys
    else if bytes_eq line (codes "traffic") then Some Traffic
    else if bytes_eq line (codes "about") then Some About
    else None

-- the request that consists of this word
abbrev pub plain_request : List ℕ → Option Request
plain_request line =
    if bytes_eq line (codes "show") then Some Show
    else if bytes_eq line (codes "counters") then Some Counters
    else if bytes_eq line (codes "stop") then Some Stop
    else own_request line

-- the last line of an answer, without its line feed: the exit status for the program that asked
abbrev pub end_line : ℕ → List ℕ
end_line status = spaced (codes "end") (decimal status)
