-- What passes between a desk and its clients, and when the counters are written.
use Rattle.std.specs.Prelude.{ℕ, Bool, List, Option}
use Rattle.macs_commands.specs.declared.requests.clients.Client.{Client}
use Rattle.macs_commands.specs.declared.requests.clients.Heard.{Heard as HeardLine}

-- A desk was given this line, or none; it sent a text to a client; it slept; it checked whether the process was asked
-- to end
pub data Talk : Type 0 where
  Heard : Option HeardLine → Talk
  Said : (client : Client) → (text : List ℕ) → Talk
  Slept : Talk
  Looked : (ended : Bool) → Talk

-- it was asked whether a text is due, with this answer; a text was given to be written
pub data Note : Type 0 where
  Asked : (due : Bool) → Note
  Put : (text : List ℕ) → Note
