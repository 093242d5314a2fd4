use Rattle.std.proofs.Common.{◌≡◌, ◌∙◌, IfOk, List, Option, inl, inr, ap, subst, sym}
use Rattle.std.proofs.lemmas.Result.{IfErr-weaker}
use Rattle.clap.proofs.BuiltLemmas.{on_ok_always}
use Rattle.clap.specs.Words.{App, Row, Text, fault_of, is_simple, is_simple_and_free, subcommand_of, subcommand_rows_of}
use Rattle.clap.specs.Words.{takes}
use Rattle.macs_cli.specs.Words.{Names, macsecd, texts}
use Rattle.macs_cli.proofs.Subcommands.{free, named, simple, wants_memory}
use Rattle.macs_cli.proofs.words.usage.action_of.Goals as goal

pub returns-in-Ok-clause-read : goal.returns-in-Ok-clause-read
returns-in-Ok-clause-read c =
    let words = texts c.args.words.now in
    let known = c.in_ok-known_words.ensures in
    let read = (c.in-Ok.ensures.matches (ap is_simple known ∙ simple)).1 in
    let found : subcommand_rows_of c.in-Ok.matches ≡ subcommand_of macsecd words = read
    ∙ ap (λ (app : App). subcommand_of app words) known in
    subst (λ (o : Option (Text × List Row)). IfOk c.action_read.result (Names o)) found c.action_read.ensures.read

pub returns-in-Ok-clause-refused : goal.returns-in-Ok-clause-refused
returns-in-Ok-clause-refused c =
    let words = texts c.args.words.now in
    let known = c.in_ok-known_words.ensures in
    on_ok_always c.action_read.result
    (ap (λ (app : App). fault_of app words) (sym known) ∙ c.in-Ok.ensures.kinds (ap is_simple_and_free known ∙ free))

pub returns-in-Ok-clause-taken : goal.returns-in-Ok-clause-taken
returns-in-Ok-clause-taken c = λ taken.
    let words = texts c.args.words.now in
    let known = c.in_ok-known_words.ensures in
    let read = (c.in-Ok.ensures.matches (ap is_simple known ∙ simple)).1 in
    let found : subcommand_rows_of c.in-Ok.matches ≡ subcommand_of macsecd words = read
    ∙ ap (λ (app : App). subcommand_of app words) known in
    IfErr-weaker c.action_read.result _ _ (λ fault none. elim (named words taken) [
      | inl lacks ↦ inr lacks
      | inr (action, names, fits) ↦
          absurd (none action (subst (λ (o : Option (Text × List Row)). Names o action) (sym found) names) fits)
    ]) c.action_read.ensures.refused

pub returns-in_ok-usage_fault_of-in-Err-clause-taken : goal.returns-in_ok-usage_fault_of-in-Err-clause-taken
returns-in_ok-usage_fault_of-in-Err-clause-taken c = λ taken.
    let words = texts c.args.words.now in
    let known = c.in_ok-known_words.ensures in
    let memory = c.in-Err.ensures.passes (ap (λ (app : App). takes app words) known ∙ taken) in
    inl (wants_memory c.in-Err.error c.in_ok-usage_fault_of-in-Err.field-0
    c.in_ok-usage_fault_of-in-Err.ensures.kind memory)
