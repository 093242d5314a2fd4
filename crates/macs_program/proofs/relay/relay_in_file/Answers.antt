use Rattle.std.proofs.lemmas.Result.{err_from_is_err_and}
use Rattle.macs_program.proofs.Relayed.{refused-as, relayed-in, unbound-in}
use Rattle.macs_program.specs.Relaying.{ComesTo, RelayFailsIn, course_of}
use Rattle.macs_program.proofs.relay.relay_in_file.Goals as goal

pub returns-in_err-addresses : goal.returns-in_err-addresses
returns-in_err-addresses g c =
    let p = err_from_is_err_and c.from_residual.result c.from_residual.ensures.1 in
    let course = course_of g.row.T.Denot c.args.disk.now c.args.running in
    let file = g.T.File.DiskFile.file in
    refused-as (ComesTo file course) (RelayFailsIn file course)
    g.W.Stream.contents g.W.Stream.failed c.args.controlled c.args.common c.args.out.now
    c.addresses_of.result c.addresses_of.ensures.fault p.0 c.in_err-addresses.field-0.0 c.from_residual.result
    c.in_err-addresses.was p.1 p.2

pub returns-in-Ok : goal.returns-in-Ok
returns-in-Ok g c =
    let words = c.in_ok-addresses in
    relayed-in g.T.File.DiskFile.file g.W.Stream.contents g.W.Stream.failed c.args.controlled c.args.common
    (course_of g.row.T.Denot c.args.disk.now c.args.running) c.args.out.now
    c.addresses_of.result c.addresses_of.ensures.fault words.addresses words.was c.with_file.new.out c.with_file.result
    (words.addresses.controlled, words.addresses.common, words.ensures.controlled, words.ensures.common)
    c.with_file.ensures

pub returns-in-Err : goal.returns-in-Err
returns-in-Err g c =
    let words = c.in_ok-addresses in
    unbound-in g.T.File.DiskFile.file g.W.Stream.contents g.W.Stream.failed c.args.controlled c.args.common
    (course_of g.row.T.Denot c.args.disk.now c.args.running) c.args.out.now
    c.addresses_of.result c.addresses_of.ensures.fault words.addresses words.was c.unbound.result
    c.unbound.ensures.unbound
