use Rattle.std.proofs.Common.{◌∙◌, ap, option_map, refl, sym}
use Rattle.clap.specs.Words.{found_of, rows_of}
use Rattle.macs_cli.proofs.Paces.{number-unread}
use Rattle.macs_cli.proofs.words.read_values.optional_count_in.Goals as goal

pub returns-in_err-number-in-Some-clause-found : goal.returns-in_err-number-in-Some-clause-found
returns-in_err-number-in-Some-clause-found c = λ number has fits.
    let there = sym c.text_in.ensures ∙ ap (option_map (λ text. text.now)) c.in-Some.is in
    absurd (number-unread (rows_of (found_of c.args.values.now)) c.args.name.now c.in-Some.field-0.now _ there
    c.in_err-number-in-Some.ensures.found refl
    number has fits)
