-- What is reported to clients of their commands, event by event.
use Rattle.std.proofs.Common.{◌≡◌, ◌++◌, inl, inr, ℕ, Bool, true, false, List, [], ◌∷◌, map, Option, Some, Result, Ok}
use Rattle.std.proofs.Common.{Err}
use Rattle.std.proofs.Common.{refl, sym, ap, ◌∙◌, append-nil, append_assoc}
use Rattle.std.specs.Prelude.{flat_map, if◌then◌else◌, length, nat_le}
use Rattle.std.proofs.lemmas.Bool.{eq-eqb}
use Rattle.std.proofs.lemmas.List.{map-append}
use Rattle.macs_disk.specs.Disk.{Disk}
use Rattle.macs_endpoint.specs.declared.fault.RefillFault.{RefillFault}
use Rattle.macs_endpoint.specs.declared.fault.SubmitFault.{SubmitFault}
use Rattle.macs_edge.specs.Attending.{Attends}
use Rattle.macs_edge.specs.Commanding.{Ended, ended_by, tickets_of, tickets_taken}
use Rattle.macs_edge.specs.Relaying.{Relay, empty_lane}
use Rattle.macs_edge.specs.declared.attending.CommandEnd.{CommandEnd}
use Rattle.macs_edge.specs.declared.attending.DeskEvent.{DeskEvent}
use Rattle.macs_edge.specs.declared.attending.DeskEvent.TheVariants.{Answered, Rested, Took, Wanted}
use Rattle.macs_edge.specs.declared.attending.Order.{Order}
use Rattle.macs_edge.specs.declared.attending.Order.TheVariants.{Go, Submit, End}
use Rattle.macs_edge.proofs.AttendedFlows.{attended-flows}
use Rattle.macs_config.specs.declared.command.Command.{Command}
use Rattle.macs_commands.specs.Talks.{Talk, Said}
use Rattle.macs_commands.specs.declared.requests.clients.Client.{Client}
use Rattle.macs_commands.specs.declared.requests.clients.Heard.{Heard as HeardLine}
use Rattle.macs_commands.specs.declared.requests.request.Request.{Request}
use Rattle.macs_commands.specs.declared.requests.request.Request.TheVariants.{About, Apply, Counters, Keys, Show, Stop}
use Rattle.macs_commands.specs.declared.requests.request.Request.TheVariants.{Traffic}
use Rattle.macs_control.specs.Listening.{Answers, HandsIn, Listens, ListensUnless, Looks, LooksIf, Reads, Reports}
use Rattle.macs_control.specs.Listening.{report_room, said_to, sleep_after, told}
use Rattle.macs_control.specs.Replies.{end_text, ended_text}
use Rattle.macs_control.specs.Serving.{ClientsAreTold, DeskState, Speaks, SpeaksAt, Told, asking_after, ended_in}
use Rattle.macs_control.specs.Serving.{endings, givers, saying}
use Rattle.macs_control.specs.Unanswered.{client_of, is_full, joined, without}
use Rattle.macs_control.specs.declared.desk.key_notes.NoteFault.{NoteFault}
use Rattle.macs_control.specs.declared.desk.unanswered.Submitted.{Submitted as Entry}
use Rattle.macs_control.proofs.Queued.{Queues, attended-queue, with_taken}

-- ---- who asks

said-asks : (fits : Bool) (client asked : Client) (text : List ℕ)
    → asking_after asked
    (if fits then Said client text ∷ Said client (end_text 0) ∷ [] else Said client (end_text 5) ∷ [])
    ≡ asked
said-asks true client asked text = refl
said-asks false client asked text = refl

told-asks : (client asked : Client) (text : List ℕ) → asking_after asked (told client text) ≡ asked
told-asks client asked text = said-asks (nat_le (length text) report_room) client asked text

hands-asks : (client asked : Client) (command : Command) (noted : Result (Unit {0}) NoteFault) (talk : List Talk)
    (order : Order) → HandsIn client command noted talk order → asking_after asked talk ≡ asked
hands-asks client asked command (Ok noted) talk order is = ap (asking_after asked) is.0
hands-asks client asked command (Err fault) talk order is = ap (asking_after asked) is.0

answers-asks : (reports : Reports) (client asked : Client) (request : Request) (talk : List Talk) (order : Order)
    → Answers reports client request talk order → asking_after asked talk ≡ asked
answers-asks reports client asked Show talk order is =
    ap (asking_after asked) is.0 ∙ told-asks client asked reports.shown
answers-asks reports client asked Counters talk order is =
    ap (asking_after asked) is.2 ∙ told-asks client asked (reports.counted is.0)
answers-asks reports client asked Keys talk order is =
    ap (asking_after asked) is.0 ∙ told-asks client asked reports.keys
answers-asks reports client asked Traffic talk order is =
    ap (asking_after asked) is.0 ∙ told-asks client asked reports.traffic
answers-asks reports client asked About talk order is =
    ap (asking_after asked) is.0 ∙ told-asks client asked reports.about
answers-asks reports client asked Stop talk order is = ap (asking_after asked) is.0
answers-asks reports client asked (Apply command) talk order is =
    hands-asks client asked command is.0 talk order is.2

reads-asks : (reports : Reports) (heard : HeardLine) (asked : Client) (talk : List Talk) (order : Order)
    → Reads reports heard talk order → asking_after asked talk ≡ asked
reads-asks reports heard asked talk order (inl (request, is, answers)) =
    answers-asks reports heard.client asked request talk order answers
reads-asks reports heard asked talk order (inr (none, is, go)) = ap (asking_after asked) is

listens-asks : (reports : Reports) (old new : Client) (talk : List Talk) (order : Order)
    → Listens reports old talk order new → new ≡ asking_after old talk
listens-asks reports old new talk order (inl (is, go, same)) = same ∙ sym (ap (asking_after old) is)
listens-asks reports old new talk order (inr (heard, said, is, same, reads)) =
    same ∙ sym (reads-asks reports heard heard.client said order reads) ∙ sym (ap (asking_after old) is)

unless-asks : (full : Bool) (reports : Reports) (old new : Client) (talk : List Talk) (order : Order)
    → ListensUnless full reports old talk order new → new ≡ asking_after old talk
unless-asks true reports old new talk order (is, go, same) = same ∙ sym (ap (asking_after old) is)
unless-asks false reports old new talk order listens = listens-asks reports old new talk order listens

looks-asks : (full : Bool) (reports : Reports) (old new : Client) (talk : List Talk) (order : Order)
    → Looks full reports old talk order new → new ≡ asking_after old talk
looks-asks full reports old new talk order (inl (is, ended, same)) = same ∙ sym (ap (asking_after old) is)
looks-asks full reports old new talk order (inr (more, is, unless)) =
    unless-asks full reports old new more order unless ∙ sym (ap (asking_after old) is)

sleep-asks : (quiet : Bool) (old : Client) (more : List Talk)
    → asking_after old (sleep_after quiet ++ more) ≡ asking_after old more
sleep-asks true old more = refl
sleep-asks false old more = refl

-- the client whose line was taken last is the one that asks
if-asks : (time quiet full : Bool) (reports : Reports) (old new : Client) (talk : List Talk) (order : Order)
    → LooksIf time quiet full reports old talk order new → new ≡ asking_after old talk
if-asks true quiet full reports old new talk order (more, is, looks) =
    looks-asks full reports old new more order looks ∙ sym (sleep-asks quiet old more)
    ∙ sym (ap (asking_after old) is)
if-asks false quiet full reports old new talk order (is, go, same) = same ∙ sym (ap (asking_after old) is)

-- ---- a command is asked for only where there is room for it

unless-room : (full : Bool) (reports : Reports) (old new : Client) (talk : List Talk) (command : Command)
    → ListensUnless full reports old talk (Submit command) new → full ≡ false
unless-room true reports old new talk command (is, go, same) = absurd cc
unless-room false reports old new talk command listens = refl

looks-room : (full : Bool) (reports : Reports) (old new : Client) (talk : List Talk) (command : Command)
    → Looks full reports old talk (Submit command) new → full ≡ false
looks-room full reports old new talk command (inl (is, ended, same)) = absurd cc
looks-room full reports old new talk command (inr (more, is, unless)) =
    unless-room full reports old new more command unless

if-room : (time quiet full : Bool) (reports : Reports) (old new : Client) (talk : List Talk) (command : Command)
    → LooksIf time quiet full reports old talk (Submit command) new → full ≡ false
if-room true quiet full reports old new talk command (more, is, looks) =
    looks-room full reports old new more command looks
if-room false quiet full reports old new talk command (is, go, same) = absurd cc

-- ---- the unanswered commands

abbrev tickets : List Entry → List ℕ
tickets entries = map (λ (e : Entry). e.ticket) entries

abbrev clients_in : List Entry → List Client
clients_in entries = map (λ (e : Entry). e.client) entries

abbrev clients_of : List Told → List Client
clients_of told = map (λ (t : Told). t.client) told

first-of : (entries : List Entry) (ticket : ℕ) (left : List ℕ) → tickets entries ≡ ticket ∷ left
    → (first : Entry) × (rest : List Entry) × (entries ≡ first ∷ rest) × (first.ticket ≡ ticket) × (tickets rest ≡ left)
first-of [] ticket left is = absurd cc
first-of (first ∷ rest) ticket left is = (first, rest, refl, cc, cc)

no-entries : (entries : List Entry) → tickets entries ≡ [] → entries ≡ []
no-entries [] is = refl
no-entries (first ∷ rest) is = absurd cc

first-client : (first : Entry) (rest : List Entry) (ticket : ℕ) → first.ticket ≡ ticket
    → client_of (first ∷ rest) ticket ≡ Some first.client
first-client first rest ticket is = rw (eq-eqb first.ticket ticket is) refl

first-gone : (first : Entry) (rest : List Entry) (ticket : ℕ) → first.ticket ≡ ticket
    → without (first ∷ rest) ticket ≡ rest
first-gone first rest ticket is = rw (eq-eqb first.ticket ticket is) refl

one-more : (entries : List Entry) (entry : Entry) → is_full entries ≡ false
    → joined entries entry ≡ entries ++ entry ∷ []
one-more entries entry room = rw room refl

-- ---- event by event

-- from these events on, with what is said at them: what is reported of the commands that they answer, and what is under
-- way then
record Served (old : DeskState) (events : List DeskEvent) (talks : List (List Talk)) (new : DeskState) (left : List ℕ)
    : Type 0 where
  told : List Told
  ends : map ended_in told ≡ flat_map ended_by events
  said : endings events talks ≡ map saying told
  clients : clients_in old.unanswered ++ givers old.asking events talks ≡ clients_of told ++ clients_in new.unanswered
  waiting : tickets new.unanswered ≡ left

module _ (events : List DeskEvent) (talks : List (List Talk)) (new : DeskState) (left : List ℕ) where
  after-wanted : (quiet : Bool) (order : Order) (talk : List Talk) (old between : DeskState)
      → between.unanswered ≡ old.unanswered → between.asking ≡ asking_after old.asking talk
      → Served between events talks new left → Served old (Wanted quiet order ∷ events) (talk ∷ talks) new left
  after-wanted quiet order talk old between same asks served = record {
    told = served.told;
    ends = served.ends;
    said = served.said;
    clients = ap (λ (l : List Entry). clients_in l ++ givers (asking_after old.asking talk) events talks) (sym same)
        ∙ ap (λ (c : Client). clients_in between.unanswered ++ givers c events talks) (sym asks) ∙ served.clients;
    waiting = served.waiting;
  }

  after-taken : (ticket : ℕ) (talk : List Talk) (old between : DeskState) → is_full old.unanswered ≡ false
      → SpeaksAt old (Took (Ok ticket)) talk between
      → Served between events talks new left → Served old (Took (Ok ticket) ∷ events) (talk ∷ talks) new left
  after-taken ticket talk old between room (silent, joins, asks) served =
      let entry : Entry = record { ticket = ticket; client = old.asking } in
      let more = givers (asking_after old.asking talk) events talks in
      let is : between.unanswered ≡ old.unanswered ++ entry ∷ [] = joins ∙ one-more old.unanswered entry room in
      let still : asking_after old.asking talk ≡ between.asking = ap (asking_after old.asking) silent ∙ sym asks in
      record {
        told = served.told;
        ends = served.ends;
        said = ap (λ (l : List Talk). l ++ endings events talks) silent ∙ served.said;
        clients = sym (append_assoc (clients_in old.unanswered) (old.asking ∷ []) more)
            ∙ ap (λ (l : List Client). l ++ more)
            (sym (map-append (λ (e : Entry). e.client) old.unanswered (entry ∷ [])))
            ∙ ap (λ (l : List Entry). clients_in l ++ more) (sym is)
            ∙ ap (λ (c : Client). clients_in between.unanswered ++ givers c events talks) still ∙ served.clients;
        waiting = served.waiting;
      }

  after-not-taken : (fault : SubmitFault) (talk : List Talk) (old between : DeskState)
      → SpeaksAt old (Took (Err fault)) talk between
      → Served between events talks new left → Served old (Took (Err fault) ∷ events) (talk ∷ talks) new left
  after-not-taken fault talk old between (told, same, asks) served =
      let still : asking_after old.asking talk ≡ between.asking = ap (asking_after old.asking) told ∙ sym asks in
      record {
        told = served.told;
        ends = served.ends;
        said = served.said;
        clients = ap (λ (l : List Entry). clients_in l ++ givers (asking_after old.asking talk) events talks) (sym same)
            ∙ ap (λ (c : Client). clients_in between.unanswered ++ givers c events talks) still ∙ served.clients;
        waiting = served.waiting;
      }

  after-answered : (ticket : ℕ) (end : CommandEnd) (talk : List Talk) (old between : DeskState) (first : Entry)
      (rest : List Entry) → old.unanswered ≡ first ∷ rest → first.ticket ≡ ticket → between.unanswered ≡ rest
      → SpeaksAt old (Answered ticket end) talk between
      → Served between events talks new left → Served old (Answered ticket end ∷ events) (talk ∷ talks) new left
  after-answered ticket end talk old between first rest is first_is goes (said, gone, asks) served =
      let one : Told = record { client = first.client; ticket = ticket; end = end } in
      let more = givers (asking_after old.asking talk) events talks in
      let found : client_of old.unanswered ticket ≡ Some first.client =
      ap (λ (l : List Entry). client_of l ticket) is ∙ first-client first rest ticket first_is in
      let text : talk ≡ saying one ∷ [] =
      said ∙ ap (λ (o : Option Client). said_to o (ended_text end)) found in
      let still : asking_after old.asking talk ≡ between.asking = ap (asking_after old.asking) text ∙ sym asks in
      record {
        told = one ∷ served.told;
        ends = ap (λ (l : List Ended). ended_in one ∷ l) served.ends;
        said = (λ i. text i ++ served.said i);
        clients = ap (λ (l : List Entry). clients_in l ++ more) is
            ∙ ap (λ (l : List Client). first.client ∷ l)
            (ap (λ (l : List Entry). clients_in l ++ more) (sym goes)
            ∙ ap (λ (c : Client). clients_in between.unanswered ++ givers c events talks) still ∙ served.clients);
        waiting = served.waiting;
      }

  after-rested : (talk : List Talk) (old between : DeskState) → SpeaksAt old Rested talk between
      → Served between events talks new left → Served old (Rested ∷ events) (talk ∷ talks) new left
  after-rested talk old between (silent, same) served = record {
    told = served.told;
    ends = served.ends;
    said = served.said;
    clients =
        ap (λ (l : List Talk). clients_in old.unanswered ++ givers (asking_after old.asking l) events talks) silent
        ∙ ap (λ (d : DeskState). clients_in d.unanswered ++ givers d.asking events talks) (sym same) ∙ served.clients;
    waiting = served.waiting;
  }

-- a command that was handed in, and what follows it
after-took : (events : List DeskEvent) (talks : List (List Talk)) (new : DeskState) (left : List ℕ)
    (answer : Result ℕ SubmitFault) (talk : List Talk) (old between : DeskState) → is_full old.unanswered ≡ false
    → SpeaksAt old (Took answer) talk between
    → Served between events talks new left → Served old (Took answer ∷ events) (talk ∷ talks) new left
after-took events talks new left (Ok ticket) talk old between room speaks served =
    after-taken events talks new left ticket talk old between room speaks served
after-took events talks new left (Err fault) talk old between room speaks served =
    after-not-taken events talks new left fault talk old between speaks served

-- and the tickets under way then
held-after : (answer : Result ℕ SubmitFault) (talk : List Talk) (old between : DeskState) (waiting : List ℕ)
    → is_full old.unanswered ≡ false
    → tickets old.unanswered ≡ waiting → SpeaksAt old (Took answer) talk between
    → tickets between.unanswered ≡ with_taken waiting answer
held-after (Ok ticket) talk old between waiting room held (silent, joins, asks) =
    let entry : Entry = record { ticket = ticket; client = old.asking } in
    ap tickets (joins ∙ one-more old.unanswered entry room)
    ∙ map-append (λ (e : Entry). e.ticket) old.unanswered (entry ∷ []) ∙ ap (λ (l : List ℕ). l ++ ticket ∷ []) held
held-after (Err fault) talk old between waiting room held (told, same, asks) = ap tickets same ∙ held

serves : (events : List DeskEvent) (talks : List (List Talk)) (old new : DeskState) (waiting left : List ℕ)
    → tickets old.unanswered ≡ waiting → Queues waiting events left → Speaks old events talks new
    → Served old events talks new left
serves [] [] old new waiting left held queues speaks = record {
  told = [];
  ends = refl;
  said = refl;
  clients = append-nil (clients_in old.unanswered) ∙ ap (λ (d : DeskState). clients_in d.unanswered) (sym speaks);
  waiting = ap (λ (d : DeskState). tickets d.unanswered) speaks ∙ held ∙ sym queues;
}
serves (Wanted quiet Go ∷ events) (talk ∷ talks) old new waiting left held queues
    (between, (time, reports, looks, same), more) =
    after-wanted events talks new left quiet Go talk old between same
    (if-asks time quiet (is_full old.unanswered) reports old.asking between.asking talk Go looks)
    (serves events talks between new waiting left (ap tickets same ∙ held) queues more)
serves (Wanted quiet End ∷ events) (talk ∷ talks) old new waiting left held queues
    (between, (time, reports, looks, same), more) =
    after-wanted events talks new left quiet End talk old between same
    (if-asks time quiet (is_full old.unanswered) reports old.asking between.asking talk End looks)
    (serves events talks between new waiting left (ap tickets same ∙ held) queues more)
serves (Wanted quiet (Submit command) ∷ Took answer ∷ events) (talk ∷ then_said ∷ talks) old new waiting
    left held queues
    (between, (time, reports, looks, same), (taken, took, more)) =
    let full = is_full old.unanswered in
    let room : is_full between.unanswered ≡ false =
    ap is_full same ∙ if-room time quiet full reports old.asking between.asking talk command looks in
    after-wanted (Took answer ∷ events) (then_said ∷ talks) new left quiet (Submit command) talk old between same
    (if-asks time quiet full reports old.asking between.asking talk (Submit command) looks)
    (after-took events talks new left answer then_said between taken room took
    (serves events talks taken new (with_taken waiting answer) left
    (held-after answer then_said between taken waiting room (ap tickets same ∙ held) took) queues more))
serves (Answered ticket end ∷ events) (talk ∷ talks) old new waiting left held (rest, first_is, queues)
    (between, speaks, more) =
    let (first, others, is, ticket_is, tail) = first-of old.unanswered ticket rest (held ∙ first_is) in
    let goes : between.unanswered ≡ others =
    speaks.1 ∙ ap (λ (l : List Entry). without l ticket) is ∙ first-gone first others ticket ticket_is in
    after-answered events talks new left ticket end talk old between first others is ticket_is goes speaks
    (serves events talks between new rest left (ap tickets goes ∙ tail) queues more)
serves (Rested ∷ events) (talk ∷ talks) old new waiting left held queues (between, speaks, more) =
    after-rested events talks new left talk old between speaks
    (serves events talks between new waiting left (ap (λ (d : DeskState). tickets d.unanswered) speaks.1 ∙ held) queues
    more)
serves [] (talk ∷ talks) old new waiting left held queues speaks = absurd speaks
serves (Wanted quiet Go ∷ events) [] old new waiting left held queues speaks = absurd speaks
serves (Wanted quiet End ∷ events) [] old new waiting left held queues speaks = absurd speaks
serves (Wanted quiet (Submit command) ∷ events) [] old new waiting left held queues speaks = absurd speaks
serves (Wanted quiet (Submit command) ∷ Took answer ∷ events) (talk ∷ []) old new waiting left held queues speaks =
    absurd speaks.2
serves (Wanted quiet (Submit command) ∷ []) (talk ∷ talks) old new waiting left held queues speaks = absurd queues
serves (Wanted quiet (Submit command) ∷ Wanted again order ∷ events) (talk ∷ talks) old new waiting left held
    queues speaks =
    absurd queues
serves (Wanted quiet (Submit command) ∷ Answered ticket end ∷ events) (talk ∷ talks) old new waiting left held queues
    speaks = absurd queues
serves (Wanted quiet (Submit command) ∷ Rested ∷ events) (talk ∷ talks) old new waiting left held queues speaks =
    absurd queues
serves (Took answer ∷ events) talks old new waiting left held queues speaks = absurd queues
serves (Answered ticket end ∷ events) [] old new waiting left held queues speaks = absurd speaks
serves (Rested ∷ events) [] old new waiting left held queues speaks = absurd speaks

-- ---- over a whole relay

same-tickets : (told : List Told)
    → map (λ (e : Ended). e.ticket) (map ended_in told) ≡ map (λ (t : Told). t.ticket) told
same-tickets [] = refl
same-tickets (one ∷ told) = ap (λ (l : List ℕ). one.ticket ∷ l) (same-tickets told)

pub clients-told : {D T : Type 0} (disk_of : D → Disk) (turns : ℕ) (old new : Relay D) (events : List DeskEvent)
    (talks : List (List Talk)) (before after : DeskState) (result : Result T RefillFault) → old.to_common ≡ empty_lane
    → old.to_controlled ≡ empty_lane → old.endpoint.waiting ≡ [] → before.unanswered ≡ []
    → Attends disk_of turns old events result new → Speaks before events talks after
    → ClientsAreTold before.asking events talks × (after.unanswered ≡ [])
clients-told disk_of turns old new events talks before after result out back none_waits none attends speaks =
    let waiting = tickets_of old.endpoint.waiting in
    let no_waiting : waiting ≡ [] = ap tickets_of none_waits in
    let served = serves events talks before after waiting [] (ap tickets none ∙ sym no_waiting)
    (attended-queue disk_of turns old new events result out back attends) speaks in
    let flow = attended-flows disk_of turns old new events result out back attends in
    let left : after.unanswered ≡ [] = no-entries after.unanswered served.waiting in (
      record {
        told = served.told;
        once = sym (same-tickets served.told) ∙ ap (map (λ (e : Ended). e.ticket)) served.ends ∙ flow.once
            ∙ ap (λ (l : List ℕ). l ++ tickets_taken events) no_waiting;
        ends = served.ends;
        clients = sym (append-nil (clients_of served.told))
            ∙ ap (λ (l : List Entry). clients_of served.told ++ clients_in l) (sym left) ∙ sym served.clients
            ∙ ap (λ (l : List Entry). clients_in l ++ givers before.asking events talks) none;
        said = served.said;
      },
      left,
    )
