use Rattle.std.proofs.Common.{◌∙◌, ap, option_map, refl, sym}
use Rattle.clap.specs.Words.{found_of, rows_of}
use Rattle.macs_cli.proofs.Paces.{turns-unread, wait-unread}
use Rattle.macs_cli.proofs.words.read_relay.pace_in.Goals as goal

pub returns-in_err-turns-in-None-clause-found : goal.returns-in_err-turns-in-None-clause-found
returns-in_err-turns-in-None-clause-found c = λ pace has fits.
    let none = sym c.text_in.ensures ∙ ap (option_map (λ text. text.now)) c.in-None.is in
    absurd (turns-unread (rows_of (found_of c.args.values.now)) _ none c.in_err-turns-in-None.ensures.found refl
    pace has fits)

pub returns-in_err-limit-in-Some-clause-found : goal.returns-in_err-limit-in-Some-clause-found
returns-in_err-limit-in-Some-clause-found c = λ pace has fits.
    let there = sym c.text_in.ensures ∙ ap (option_map (λ text. text.now)) c.in-Some.is in
    absurd (wait-unread (rows_of (found_of c.args.values.now)) c.in-Some.field-0.now _ there
    c.in_err-limit-in-Some.ensures.found refl pace has fits)
