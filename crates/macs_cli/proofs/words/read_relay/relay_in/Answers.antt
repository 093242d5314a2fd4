use Rattle.clap.specs.Words.{found_of, rows_of}
use Rattle.macs_cli.proofs.Subcommands.{relay_of}
use Rattle.macs_cli.proofs.words.read_relay.relay_in.Goals as goal

pub returns-in_err-common-clause-found : goal.returns-in_err-common-clause-found
returns-in_err-common-clause-found c = λ action named fits.
    let its = relay_of (rows_of (found_of c.args.values.now)) action named fits in
    let none = c.in_err-common.ensures.found _ _ its.4.4 its.4.5 in
    cc

pub returns-in_err-running-clause-found : goal.returns-in_err-running-clause-found
returns-in_err-running-clause-found c = λ action named fits.
    let its = relay_of (rows_of (found_of c.args.values.now)) action named fits in
    let none = c.in_err-running.ensures.found its.3.pace its.3.buffer its.4.6 its.5 its.4.7 in
    cc
