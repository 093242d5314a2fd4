use Rattle.clap.specs.Words.{found_of, rows_of}
use Rattle.macs_cli.proofs.Subcommands.{blocks}
use Rattle.macs_cli.proofs.words.read_subcommands.format_in.Goals as goal

pub returns-in_err-tx_block-clause-found : goal.returns-in_err-tx_block-clause-found
returns-in_err-tx_block-clause-found c = λ action named fits.
    let numbers = blocks (rows_of (found_of c.args.values.now)) action named fits in
    let none = c.in_err-tx_block.ensures.found numbers.0 numbers.2 numbers.3 in
    cc

pub returns-in_err-rx_block-clause-found : goal.returns-in_err-rx_block-clause-found
returns-in_err-rx_block-clause-found c = λ action named fits.
    let numbers = blocks (rows_of (found_of c.args.values.now)) action named fits in
    let none = c.in_err-rx_block.ensures.found numbers.1 numbers.4 numbers.5 in
    cc
