-- When a desk listens to its clients, and what it sends them.
use Rattle.std.specs.Prelude.{◌≡◌, ◌≢◌, ◌⊎◌, ◌==◌, ◌-◌, ◌++◌, ◌||◌, ⊤, ℕ, Bool, true, false, List, [], ◌∷◌}
use Rattle.std.specs.Prelude.{Option, Some, None, Result, Ok, Err, if◌then◌else◌, length, nat_le}
use Rattle.std.specs.Str.{IsUtf8}
use Rattle.macs_config.specs.declared.command.Command.{Command}
use Rattle.macs_edge.specs.declared.attending.CommandEnd.{CommandEnd}
use Rattle.macs_edge.specs.declared.attending.Order.{Order}
use Rattle.macs_edge.specs.declared.attending.Order.TheVariants.{Go, Submit, End}
use Rattle.macs_edge.specs.declared.counts.WireCounts.{WireCounts}
use Rattle.macs_endpoint.specs.Reserved.{reserved_of}
use Rattle.macs_endpoint.specs.State.{no_logs}
use Rattle.macs_endpoint.specs.Value.{EndpointValue, state_of}
use Rattle.macs_endpoint.specs.declared.fault.SubmitFault.{SubmitFault}
use Rattle.macs_commands.specs.Requests.{IsAsked, request_line}
use Rattle.macs_commands.specs.Talks.{Talk, Heard, Said, Slept, Looked, Note, Asked, Put}
use Rattle.macs_commands.specs.declared.requests.clients.Client.{Client}
use Rattle.macs_commands.specs.declared.requests.clients.Heard.{Heard as HeardLine}
use Rattle.macs_commands.specs.declared.requests.request.Request.{Request}
use Rattle.macs_commands.specs.declared.requests.request.Request.TheVariants.{About, Apply, Counters, Keys, Show, Stop}
use Rattle.macs_commands.specs.declared.requests.request.Request.TheVariants.{Traffic}
use Rattle.macs_rxsc.specs.Value as rxsc
use Rattle.macs_txsc.specs.Value as txsc
use Rattle.macs_texts.specs.Counting.{counters_text, reported}
use Rattle.macs_texts.specs.KeyTexts.{keys_text}
use Rattle.macs_texts.specs.Measuring.{metrics_text}
use Rattle.macs_texts.specs.Programs.{about_text}
use Rattle.macs_texts.specs.Showing.{show_text}
use Rattle.macs_texts.specs.TrafficTexts.{traffic_text}
use Rattle.macs_texts.specs.declared.build.Build.{Build}
use Rattle.macs_texts.specs.declared.program.Program.{Program}
use Rattle.macs_control.specs.Replies.{end_text, ended_text, not_noted_text, not_taken_text}
use Rattle.macs_control.specs.Unanswered.{client_of, joined}
use Rattle.macs_control.specs.declared.desk.key_notes.NoteFault.{NoteFault}
use Rattle.macs_control.specs.declared.desk.overruns.Dropped.{Dropped}
use Rattle.macs_control.specs.declared.desk.unanswered.Submitted.{Submitted as Entry}

-- ---- reports

-- an answer of the system, if it is known what it answers
abbrev pub IsKnown : {A : Type 0} → Option A → A → Type 0
IsKnown None answer = ⊤
IsKnown (Some known) answer = answer ≡ known

-- The reports that clients may request about an endpoint and its wires: the configuration and the numbers, which keys
-- are installed, what frames carried, which program runs, and the counters with what was dropped. What was dropped may
-- be known, as may the result of noting the key of a command
pub record Reports : Type 0 where
  pub shown : List ℕ
  pub keys : List ℕ
  pub traffic : List ℕ
  pub about : List ℕ
  pub counted : Dropped → List ℕ
  pub known : Option Dropped
  pub noted : Command → Option (Result (Unit {0}) NoteFault)

-- the counters, with what was dropped
abbrev pub counted_of : {D : Type 0} → EndpointValue D → WireCounts → WireCounts → Dropped → List ℕ
counted_of endpoint controlled common dropped =
    counters_text (state_of endpoint no_logs) (reserved_of endpoint) (txsc.counters_of endpoint.tx)
    (rxsc.counters_of endpoint.rx) (rxsc.channel_counters_of endpoint.rx) (reported controlled dropped.controlled)
    (reported common dropped.common)

-- the reports now
abbrev pub reports_of : {D : Type 0} → Program → Option Dropped → (Command → Option (Result (Unit {0}) NoteFault))
    → EndpointValue D → WireCounts → WireCounts → Reports
reports_of program known noted endpoint controlled common = record {
  shown = show_text (state_of endpoint no_logs);
  keys = keys_text (state_of endpoint no_logs).config;
  traffic = traffic_text (txsc.counters_of endpoint.tx) (state_of endpoint no_logs).config.channels
      (rxsc.channel_counters_of endpoint.rx) program.last_good;
  about = about_text program.build program.started;
  counted = counted_of endpoint controlled common;
  known = known;
  noted = noted;
}

-- the metrics of this program
abbrev pub measured_of : {D : Type 0} → Build → EndpointValue D → WireCounts → WireCounts → Dropped → List ℕ
measured_of build endpoint controlled common dropped =
    metrics_text build (state_of endpoint no_logs) (reserved_of endpoint) (txsc.counters_of endpoint.tx)
    (rxsc.counters_of endpoint.rx) (rxsc.channel_counters_of endpoint.rx) (reported controlled dropped.controlled)
    (reported common dropped.common)

-- ---- a line

-- a line is not a request
abbrev pub IsNoRequest : List ℕ → Type 0
IsNoRequest text = (request : Request) → IsUtf8 text → IsAsked request → text ≢ request_line request

-- a line is parsed as this request, or as none
abbrev pub IsRead : List ℕ → Option Request → Type 0
IsRead text None = IsNoRequest text
IsRead text (Some request) = text ≡ request_line request

-- how many octets a report may have
abbrev pub report_room : ℕ
report_room = 65536

-- a report is sent, followed by the end of the answer; one that is too long is not
abbrev pub told : Client → List ℕ → List Talk
told client text = if nat_le (length text) report_room then Said client text ∷ Said client (end_text 0) ∷ []
    else Said client (end_text 5) ∷ []

-- A command is submitted once its key is noted, and is answered when it is done. If the key may not be installed it is
-- answered at once
abbrev pub HandsIn : Client → Command → Result (Unit {0}) NoteFault → List Talk → Order → Type 0
HandsIn client command (Ok noted) talk order = (talk ≡ []) × (order ≡ Submit command)
HandsIn client command (Err fault) talk order = (talk ≡ Said client (not_noted_text fault) ∷ []) × (order ≡ Go)

-- the immediate answer to a request, and the desk's order
abbrev pub Answers : Reports → Client → Request → List Talk → Order → Type 0
Answers reports client Show talk order = (talk ≡ told client reports.shown) × (order ≡ Go)
Answers reports client Counters talk order = (dropped : Dropped) × IsKnown reports.known dropped
    × (talk ≡ told client (reports.counted dropped)) × (order ≡ Go)
Answers reports client Keys talk order = (talk ≡ told client reports.keys) × (order ≡ Go)
Answers reports client Traffic talk order = (talk ≡ told client reports.traffic) × (order ≡ Go)
Answers reports client About talk order = (talk ≡ told client reports.about) × (order ≡ Go)
Answers reports client Stop talk order = (talk ≡ Said client (end_text 0) ∷ []) × (order ≡ End)
Answers reports client (Apply command) talk order = (noted : Result (Unit {0}) NoteFault)
    × IsKnown (reports.noted command) noted × HandsIn client command noted talk order

-- a line is parsed: it is a request, or not
abbrev pub Reads : Reports → HeardLine → List Talk → Order → Type 0
Reads reports heard talk order =
    ((request : Request) × (heard.line.items ≡ request_line request) × Answers reports heard.client request talk order)
    ⊎ (IsNoRequest heard.line.items × (talk ≡ Said heard.client (end_text 2) ∷ []) × (order ≡ Go))

-- ---- before a turn

-- The next line is taken and parsed; its client is the asking client from now on. Without a line nothing is sent
abbrev pub Listens : Reports → Client → List Talk → Order → Client → Type 0
Listens reports old talk order new =
    ((talk ≡ Heard None ∷ []) × (order ≡ Go) × (new ≡ old))
    ⊎ ((heard : HeardLine) × (said : List Talk) × (talk ≡ Heard (Some heard) ∷ said) × (new ≡ heard.client)
    × Reads reports heard said order)

-- no line is taken while 16 commands are unanswered
abbrev pub ListensUnless : Bool → Reports → Client → List Talk → Order → Client → Type 0
ListensUnless true reports old talk order new = (talk ≡ []) × (order ≡ Go) × (new ≡ old)
ListensUnless false reports old talk order new = Listens reports old talk order new

-- the relay ends if the process was asked to end
abbrev pub Looks : Bool → Reports → Client → List Talk → Order → Client → Type 0
Looks is_full reports old talk order new =
    ((talk ≡ Looked true ∷ []) × (order ≡ End) × (new ≡ old))
    ⊎ ((more : List Talk) × (talk ≡ Looked false ∷ more) × ListensUnless is_full reports old more order new)

-- it sleeps after a quiet turn, and after no other
abbrev pub sleep_after : Bool → List Talk
sleep_after true = Slept ∷ []
sleep_after false = []

-- it is time to look after a quiet turn, and once the maximum number of turns without a look have passed
abbrev pub is_time : Bool → ℕ → Bool
is_time was_quiet left = was_quiet || left == 0

-- how many turns may pass without a look after this order: none after a command, since more may follow
abbrev pub turns_between : Order → ℕ
turns_between (Submit command) = 0
turns_between order = 63

-- how many may still pass
abbrev pub turns_left : Bool → ℕ → Order → ℕ
turns_left true left order = turns_between order
turns_left false left order = left - 1

-- if it is time, the desk sleeps and looks; otherwise its order is that the relay continues
abbrev pub LooksIf : Bool → Bool → Bool → Reports → Client → List Talk → Order → Client → Type 0
LooksIf true was_quiet is_full reports old talk order new = (more : List Talk)
    × (talk ≡ sleep_after was_quiet ++ more) × Looks is_full reports old more order new
LooksIf false was_quiet is_full reports old talk order new = (talk ≡ []) × (order ≡ Go) × (new ≡ old)

-- ---- metrics

-- a text is written, unless it is too long
abbrev pub put : List ℕ → List Note
put text = if nat_le (length text) report_room then Put text ∷ [] else []

-- the metrics are written, with what was dropped, if they are due
abbrev pub Measures : Option Dropped → (Dropped → List ℕ) → List Note → Type 0
Measures known text notes = (notes ≡ Asked false ∷ [])
    ⊎ ((dropped : Dropped) × IsKnown known dropped × (notes ≡ Asked true ∷ put (text dropped)))

-- the same if it is time to look
abbrev pub MeasuresIf : Bool → Option Dropped → (Dropped → List ℕ) → List Note → Type 0
MeasuresIf true known text notes = Measures known text notes
MeasuresIf false known text notes = notes ≡ []

-- ---- answers

-- a text for a client, if there is one
abbrev pub said_to : Option Client → List ℕ → List Talk
said_to None text = []
said_to (Some client) text = Said client text ∷ []

-- what is sent when a command was submitted: nothing yet if it was taken
abbrev pub said_of_taking : Client → Result ℕ SubmitFault → List Talk
said_of_taking client (Ok ticket) = []
said_of_taking client (Err fault) = Said client (not_taken_text fault) ∷ []

-- the commands that are then unanswered
abbrev pub unanswered_after : List Entry → Client → Result ℕ SubmitFault → List Entry
unanswered_after entries client (Ok ticket) = joined entries (record { ticket = ticket; client = client })
unanswered_after entries client (Err fault) = entries

-- what is sent when the result of a command is known: to the client that gave it, and to no other
abbrev pub said_of_ending : List Entry → ℕ → CommandEnd → List Talk
said_of_ending entries ticket end = said_to (client_of entries ticket) (ended_text end)
