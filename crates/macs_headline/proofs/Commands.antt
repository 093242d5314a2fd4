-- The headline on commands: what an opening finds of them.
use Rattle.std.proofs.Common.{◌≡◌, inl, inr, ℕ, refl, sym, ◌∙◌, ap, subst, List, [], ◌∷◌, ◌++◌, ◌==◌, if◌then◌else◌}
use Rattle.std.proofs.Common.{Bool, cond, Result, Ok, Err, append-nil}
use Rattle.std.specs.Prelude.{Option}
use Rattle.std.specs.Option.{option_to_list}
use Rattle.std.proofs.lemmas.Bool.{eq-eqb}
use Rattle.macs_config.specs.Apply.{apply}
use Rattle.macs_config.specs.Config.{Config, Edition}
use Rattle.macs_config.specs.Identity.{Identity}
use Rattle.macs_config.specs.declared.command.Command.{Command}
use Rattle.macs_rxsc.specs.declared.verdict.Verdict.{Verdict}
use Rattle.macs_store.specs.Standing.{Standing}
use Rattle.macs_endpoint.specs.Queue.{with_waiting}
use Rattle.macs_endpoint.specs.declared.fault.CommandFault.{CommandFault}
use Rattle.macs_endpoint.specs.declared.fault.CommandFault.TheVariants as ran
use Rattle.macs_endpoint.specs.declared.fault.ProtectFault.{ProtectFault}
use Rattle.macs_endpoint.specs.declared.fault.ProtectFault.TheVariants as protect
use Rattle.macs_endpoint.specs.declared.fault.RefillFault.{RefillFault}
use Rattle.macs_endpoint.specs.declared.fault.RefillFault.TheVariants as refill
use Rattle.macs_endpoint.specs.declared.fault.StepFault.{StepFault}
use Rattle.macs_endpoint.specs.declared.fault.StepFault.TheVariants as advance
use Rattle.macs_endpoint.specs.declared.fault.Stopped.{Stopped}
use Rattle.macs_endpoint.specs.declared.fault.SubmitFault.{SubmitFault}
use Rattle.macs_endpoint.specs.declared.fault.SubmitFault.TheVariants as submit
use Rattle.macs_endpoint.specs.declared.progress.Step.{Step as Progress}
use Rattle.macs_endpoint.specs.declared.progress.Step.TheVariants.{Done, Worked}
use Rattle.macs_endpoint.specs.declared.queue.Waiting.{Waiting}
use Rattle.macs_endpoint.specs.Restart.{Restart, opened_state}
use Rattle.macs_endpoint.specs.State.{Advanced, AdvancedLong, Advances, Call, Commands, Protected, Protects, Ran}
use Rattle.macs_endpoint.specs.State.{Received, Receives, Refilled, Refills, RefusedLong, Reply, State, Submits}
use Rattle.macs_endpoint.specs.State.{Submitted}
use Rattle.macs_endpoint.specs.State.{Rested, Rests}
use Rattle.macs_endpoint.specs.Step.{as_refill}
use Rattle.macs_endpoint.specs.Step.{AdvanceStep, CommandStep, Ends, Exchange, IsStopped, ProtectStep}
use Rattle.macs_endpoint.specs.Step.{ReceiveStep, RefillStep, RunningStep, Step, Steps, SubmitStep, TakesUp}
use Rattle.macs_endpoint.specs.Step.{state_without_first}
use Rattle.macs_headline.specs.Commands.{CommandsKept, CommandsMake, FindsPrefix, acknowledged_by}
use Rattle.macs_headline.specs.Commands.{acknowledged_commands, acknowledged_from, waiting_after, waiting_from}
use Rattle.macs_headline.specs.Commands.{without_first}
use Rattle.macs_headline.specs.History.{logs_of, state_at_end}
use Rattle.macs_headline.proofs.Effects.{Core}
use Rattle.macs_headline.proofs.Sound.{end-core, end-edition}
use Rattle.macs_headline.proofs.Histories.{fits-restart}

-- ---- the commands of a life

-- commands, and then more
made_on : (edition : Edition) (identity : Identity) (a b c : Config) (xs ys : List Command)
    → CommandsMake edition identity a xs b
    → CommandsMake edition identity b ys c → CommandsMake edition identity a (xs ++ ys) c
made_on edition identity a b c [] ys one two = subst (λ (a : Config). CommandsMake edition identity a ys c) one two
made_on edition identity a b c (x ∷ xs) ys one two = (one.0, one.1, made_on edition identity one.0 b c xs ys one.2 two)

-- these commands lead from a state to a state in which these wait
record IsMadeBy (old new : State) (commands : List Command) (waits : List Waiting) : Type 0 where
  edition : new.edition ≡ old.edition
  identity : new.identity ≡ old.identity
  made : CommandsMake old.edition old.identity old.config commands new.config
  waiting : new.waiting ≡ waits

-- nothing of this changes
as_before : (old mid new : State) → new ≡ mid → mid.edition ≡ old.edition → mid.identity ≡ old.identity
    → mid.config ≡ old.config → mid.waiting ≡ old.waiting → IsMadeBy old new [] old.waiting
as_before old mid new is edition identity config waiting = record {
  edition = ap (λ (s : State). s.edition) is ∙ edition;
  identity = ap (λ (s : State). s.identity) is ∙ identity;
  made = ap (λ (s : State). s.config) is ∙ config;
  waiting = ap (λ (s : State). s.waiting) is ∙ waiting;
}

unchanged : (old new : State) → new ≡ old → IsMadeBy old new [] old.waiting
unchanged old new is = as_before old old new is refl refl refl refl

-- those that a call with this answer acknowledges, and those that wait after it
abbrev IsMadeByCall : State → State → Call → Reply → Type 0
IsMadeByCall old new call reply =
    IsMadeBy old new (acknowledged_by old.waiting call reply) (waiting_after old.waiting call reply)

by_command : (old : State) (c : Command) (result : Result (Unit {0}) CommandFault) (new : State)
    → CommandStep old c result new
    → IsMadeByCall old new (Commands c) (Ran result)
by_command old c (Ok done) new (none, h) = record {
  edition = ap (λ (s : State). s.edition) h.2;
  identity = ap (λ (s : State). s.identity) h.2;
  made = (h.0, h.1, ap (λ (s : State). s.config) h.2);
  waiting = ap (λ (s : State). s.waiting) h.2;
}
by_command old c (Err ran.Stopped) new h = absurd h
by_command old c (Err ran.Busy) new (some, is) = unchanged old new is
by_command old c (Err fault) new h = as_before old _ new h.2 refl refl refl refl

by_refill : (old : State) (result : Result (Unit {0}) RefillFault) (new : State) → RefillStep old result new
    → IsMadeByCall old new Refills (Refilled result)
by_refill old (Ok done) new (none, is) = unchanged old new is
by_refill old (Err refill.Stopped) new h = absurd h
by_refill old (Err fault) new (none, is) = as_before old _ new is refl refl refl refl

by_submit : (old : State) (c : Command) (result : Result ℕ SubmitFault) (new : State) → SubmitStep old c result new
    → IsMadeByCall old new (Submits c) (Submitted result)
by_submit old c (Ok ticket) new (few, left, is_ticket, is) = record {
  edition = ap (λ (s : State). s.edition) is;
  identity = ap (λ (s : State). s.identity) is;
  made = ap (λ (s : State). s.config) is;
  waiting = ap (λ (s : State). s.waiting) is ∙ ap (λ (n : ℕ). with_waiting old.waiting n c) (sym is_ticket);
}
by_submit old c (Err submit.QueueFull) new (many, is) = unchanged old new is
by_submit old c (Err submit.TicketsSpent) new (few, spent, is) = unchanged old new is
by_submit old c (Err submit.Stopped) new h = absurd h

-- the first one is started, and still waits
taken_up : (old new : State) → TakesUp old new → IsMadeBy old new [] old.waiting
taken_up old new (first, rest, waiting, idle, accepts, is) = as_before old _ new is refl refl refl refl

-- what is chosen where two numbers are one
chosen : {X : Type 0} (n m : ℕ) (x y : X) → n ≡ m → (if n == m then x else y) ≡ x
chosen n m x y same = ap (λ (b : Bool). cond b x y) (eq-eqb n m same)

-- the first one no longer waits, and did not take effect
dropped : (old : State) (first : Waiting) (rest : List Waiting) (ticket : ℕ) (new : State) → ticket ≡ first.ticket
    → new ≡ state_without_first old rest → IsMadeBy old new [] (without_first ticket (first ∷ rest))
dropped old first rest ticket new is_ticket is = record {
  edition = ap (λ (s : State). s.edition) is;
  identity = ap (λ (s : State). s.identity) is;
  made = ap (λ (s : State). s.config) is;
  waiting = ap (λ (s : State). s.waiting) is ∙ sym (chosen first.ticket ticket rest (first ∷ rest) (sym is_ticket));
}

-- the first one is done with, of those that wait
by_end : (old : State) (first : Waiting) (rest : List Waiting) (ticket : ℕ) (result : Result (Unit {0}) CommandFault)
    (new : State) → ticket ≡ first.ticket
    → Ends old first rest result new
    → IsMadeBy old new (acknowledged_by (first ∷ rest) Advances (Advanced (Ok (Done ticket result))))
    (without_first ticket (first ∷ rest))
by_end old first rest ticket (Ok done) new is_ticket h = record {
  edition = ap (λ (s : State). s.edition) h.2;
  identity = ap (λ (s : State). s.identity) h.2;
  made = subst (λ (commands : List Command). CommandsMake old.edition old.identity old.config commands new.config)
      (sym (chosen first.ticket ticket (first.command ∷ []) [] (sym is_ticket)))
      (h.0, h.1, ap (λ (s : State). s.config) h.2);
  waiting = ap (λ (s : State). s.waiting) h.2 ∙ sym (chosen first.ticket ticket rest (first ∷ rest) (sym is_ticket));
}
by_end old first rest ticket (Err (ran.Refused refusal)) new is_ticket (idle, why, is) =
    dropped old first rest ticket new is_ticket is
by_end old first rest ticket (Err ran.GenerationsSpent) new is_ticket (idle, accepts, is) =
    dropped old first rest ticket new is_ticket is
by_end old first rest ticket (Err fault) new is_ticket h = absurd h

by_advance : (old : State) (result : Result Progress StepFault) (new : State) → AdvanceStep old result new
    → IsMadeByCall old new Advances (Advanced result)
by_advance old (Ok Worked) new (inl is) = unchanged old new is
by_advance old (Ok Worked) new (inr takes) = taken_up old new takes
by_advance old (Ok (Done ticket result)) new (first, rest, waiting, is_ticket, ends) =
    subst (λ (w : List Waiting). IsMadeBy old new (acknowledged_by w Advances (Advanced (Ok (Done ticket result))))
    (without_first ticket w)) (sym waiting)
    (by_end old first rest ticket result new is_ticket ends)
by_advance old (Err advance.Disk) new (inl is) = as_before old _ new is refl refl refl refl
by_advance old (Err advance.Disk) new (inr (mid, takes, is)) =
    let up = taken_up old mid takes in as_before old _ new is up.edition up.identity up.made up.waiting
by_advance old (Err advance.Stopped) new h = absurd h
by_advance old result new is = unchanged old new is

by_protect : (old : State) (plain : List ℕ) (result : Result ℕ ProtectFault) (out : List ℕ) (new : State)
    → ProtectStep old plain result out new
    → IsMadeByCall old new (Protects plain) (Protected result out)
by_protect old plain (Ok pn) out new (none, (o, is_o, is_pn, is_out, is)) = as_before old _ new is refl refl refl refl
by_protect old plain (Err (protect.Tx fault)) out new (why, empty, is) = unchanged old new is
by_protect old plain (Err protect.Stopped) out new h = absurd h

by_receive : (old : State) (frame : List ℕ) (result : Result Verdict Stopped) (out : List ℕ) (new : State)
    → ReceiveStep old frame result out new
    → IsMadeByCall old new (Receives frame) (Received result out)
by_receive old frame (Ok verdict) out new (inl (step, is_first, is_verdict, is_out, is)) = unchanged old new is
by_receive old frame (Ok verdict) out new (inr (a, there, inl (is_verdict, above, is_out, is))) =
    as_before old _ new is refl refl refl refl
by_receive old frame (Ok verdict) out new (inr (a, there, inr (is_verdict, is_out, is))) =
    as_before old _ new is refl refl refl refl
by_receive old frame (Err stopped) out new h = absurd h

by_call : (old : State) (call : Call) (reply : Reply) (new : State) → RunningStep old call reply new
    → IsMadeByCall old new call reply
by_call old (Commands c) (Ran result) new h = by_command old c result new h
by_call old Refills (Refilled result) new h = by_refill old result new h
by_call old Rests (Rested result) new h = by_refill old (as_refill result) new h
by_call old (Submits c) (Submitted result) new h = by_submit old c result new h
by_call old Advances (Advanced result) new h = by_advance old result new h
by_call old (Protects plain) (Protected result out) new h = by_protect old plain result out new h
by_call old (Receives frame) (Received result out) new h = by_receive old frame result out new h
by_call old (Commands c) RefusedLong new (none, why, is) = unchanged old new is
by_call old Advances (AdvancedLong ticket) new (first, rest, waiting, is_ticket, (idle, why, is)) =
    subst (λ (w : List Waiting). IsMadeBy old new [] (without_first ticket w)) (sym waiting)
    (dropped old first rest ticket new is_ticket is)
by_call old call reply new h = absurd h

by_stopped : (old : State) (call : Call) (reply : Reply) (new : State) → IsStopped call reply → new ≡ old
    → IsMadeByCall old new call reply
by_stopped old (Commands c) (Ran (Ok done)) new h is = absurd h
by_stopped old (Submits c) (Submitted (Ok ticket)) new h is = absurd h
by_stopped old Advances (Advanced (Ok progress)) new h is = absurd h
by_stopped old Advances (AdvancedLong ticket) new h is = absurd h
by_stopped old call reply new h is = unchanged old new is

by_step : (old : State) (call : Call) (reply : Reply) (new : State) → Step old call reply new
    → IsMadeByCall old new call reply
by_step old call reply new (inl (stopped, answer, is)) = by_stopped old call reply new answer is
by_step old call reply new (inr (running, h)) = by_call old call reply new h

-- the commands that wait after these calls
pub waits-from : (waiting : List Waiting) (old : State) (exchanges : List Exchange) (new : State)
    → old.waiting ≡ waiting → Steps old exchanges new
    → new.waiting ≡ waiting_from waiting exchanges
waits-from waiting old [] new same steps = ap (λ (s : State). s.waiting) steps ∙ same
waits-from waiting old (e ∷ es) new same steps =
    let mid = steps.0 in
    waits-from (waiting_after waiting e.call e.reply) mid es new
    ((by_step old e.call e.reply mid steps.1).waiting
    ∙ ap (λ (w : List Waiting). waiting_after w e.call e.reply) same) steps.2

-- these commands lead from a state to a state, whatever waits there
record IsLedBy (old new : State) (commands : List Command) : Type 0 where
  edition : new.edition ≡ old.edition
  identity : new.identity ≡ old.identity
  made : CommandsMake old.edition old.identity old.config commands new.config

-- those of a life, at whose beginning these wait
by_steps : (waiting : List Waiting) (old : State) (exchanges : List Exchange) (new : State) → old.waiting ≡ waiting
    → Steps old exchanges new
    → IsLedBy old new (acknowledged_from waiting exchanges)
by_steps waiting old [] new same steps = record {
  edition = ap (λ (s : State). s.edition) steps;
  identity = ap (λ (s : State). s.identity) steps;
  made = ap (λ (s : State). s.config) steps;
}
by_steps waiting old (e ∷ es) new same steps =
    let mid = steps.0 in
    let one : IsMadeBy old mid (acknowledged_by waiting e.call e.reply) (waiting_after waiting e.call e.reply) =
    subst (λ (w : List Waiting).
    IsMadeBy old mid (acknowledged_by w e.call e.reply) (waiting_after w e.call e.reply)) same
    (by_step old e.call e.reply mid steps.1) in
    let two = by_steps (waiting_after waiting e.call e.reply) mid es new one.waiting steps.2 in
    let more = acknowledged_from (waiting_after waiting e.call e.reply) es in
    let same_edition = subst (λ (edition : Edition). CommandsMake edition mid.identity mid.config more new.config)
    one.edition two.made in
    let same_both = subst (λ (identity : Identity). CommandsMake old.edition identity mid.config more new.config)
    one.identity same_edition in
    record {
      edition = two.edition ∙ one.edition;
      identity = two.identity ∙ one.identity;
      made = made_on old.edition old.identity old.config mid.config new.config (acknowledged_by waiting e.call e.reply)
          more one.made same_both;
    }

-- ---- what is found

finds : (before after : Standing) (exchanges : List Exchange) (end : State) → end.edition ≡ before.edition
    → end.identity ≡ before.identity
    → CommandsMake before.edition before.identity before.config (acknowledged_commands exchanges) end.config
    → Restart end (opened_state after end.logs) → FindsPrefix before exchanges end.under_way after
finds before after exchanges end edition identity made (inl up) = record {
  identity = up.identity ∙ identity;
  kept = acknowledged_commands exchanges;
  acknowledged = ([], append-nil (acknowledged_commands exchanges));
  accepted = (option_to_list end.under_way, refl);
  made = subst (CommandsMake before.edition before.identity before.config (acknowledged_commands exchanges))
      (sym up.config) made;
}
finds before after exchanges end edition identity made (inr (c, mid, hand, makes, up)) =
    let done = acknowledged_commands exchanges in
    let applied : apply before.edition before.identity end.config c ≡ Ok makes.0 =
    subst (λ (e : Edition). apply e before.identity end.config c ≡ Ok makes.0) edition
    (subst (λ (i : Identity). apply end.edition i end.config c ≡ Ok makes.0) identity makes.1) in
    record {
      identity = up.identity ∙ ap (λ (s : State). s.identity) makes.2 ∙ identity;
      kept = done ++ c ∷ [];
      acknowledged = (c ∷ [], refl);
      accepted = ([], append-nil (done ++ c ∷ []) ∙ sym (ap (λ (h : Option Command). done ++ option_to_list h) hand));
      made = made_on before.edition before.identity before.config end.config after.config done (c ∷ []) made
          (makes.0, applied, up.config ∙ ap (λ (s : State). s.config) makes.2);
    }

pub commands-kept : (sectors : ℕ) → CommandsKept sectors
commands-kept sectors last m cut later image after fits is_after =
    let found = m.life.found in
    let done = by_steps [] (opened_state found (logs_of m.past)) m.exchanges last refl m.life.steps in
    let end = state_at_end last cut in
    let config : end.config ≡ last.config = ap (λ (c : Core). c.config) (end-core last cut) in
    let identity : end.identity ≡ last.identity = ap (λ (c : Core). c.identity) (end-core last cut) in
    finds found after m.exchanges end (end-edition last cut ∙ done.edition) (identity ∙ done.identity)
    (subst (CommandsMake found.edition found.identity found.config (acknowledged_commands m.exchanges))
    (sym config) done.made)
    (fits-restart later sectors image end after fits is_after)
