use Rattle.std.proofs.lemmas.Result.{err_from_is_err_and}
use Rattle.macs_program.proofs.Relayed.{no-keeper-kept, no-wires-kept, refused-as, relayed-kept}
use Rattle.macs_program.specs.KeptRelays.{ComesToKept, RelayFailsKept}
use Rattle.macs_program.specs.Relaying.{course_of}
use Rattle.macs_program.proofs.kept_relay.relay_kept.Goals as goal

pub returns-in_err-addresses : goal.returns-in_err-addresses
returns-in_err-addresses g c =
    let p = err_from_is_err_and c.from_residual.result c.from_residual.ensures.1 in
    let course = course_of g.row.T.Denot c.args.disk.now c.args.running in
    refused-as (ComesToKept course) (RelayFailsKept course)
    g.W.Stream.contents g.W.Stream.failed c.args.controlled c.args.common c.args.out.now
    c.addresses_of.result c.addresses_of.ensures.fault p.0 c.in_err-addresses.field-0.0 c.from_residual.result
    c.in_err-addresses.was p.1 p.2

pub returns-in_err-wires : goal.returns-in_err-wires
returns-in_err-wires g c =
    let words = c.in_ok-addresses in
    let p = err_from_is_err_and c.from_residual-in_err-wires.result c.from_residual-in_err-wires.ensures.1 in
    no-wires-kept g.W.Stream.contents g.W.Stream.failed c.args.controlled c.args.common
    (course_of g.row.T.Denot c.args.disk.now c.args.running) c.args.out.now
    c.addresses_of.result c.addresses_of.ensures.fault words.addresses words.was c.in_err-wires.field-0.0 p.0
    c.from_residual-in_err-wires.result p.1 p.2 c.in_err-wires.ensures.failed

pub returns-in_err-kept : goal.returns-in_err-kept
returns-in_err-kept g c =
    let words = c.in_ok-addresses in
    let p = err_from_is_err_and c.from_residual-in_err-kept.result c.from_residual-in_err-kept.ensures.1 in
    no-keeper-kept g.W.Stream.contents g.W.Stream.failed c.args.controlled c.args.common
    (course_of g.row.T.Denot c.args.disk.now c.args.running) c.args.out.now
    c.addresses_of.result c.addresses_of.ensures.fault words.addresses words.was c.in_err-kept.field-0.0 p.0
    c.from_residual-in_err-kept.result p.1 p.2 c.in_err-kept.ensures.failed.0

pub returns : goal.returns
returns g c =
    let words = c.in_ok-addresses in
    relayed-kept g.W.Stream.contents g.W.Stream.failed c.args.controlled c.args.common
    (course_of g.row.T.Denot c.args.disk.now c.args.running) c.args.out.now
    c.addresses_of.result c.addresses_of.ensures.fault words.addresses words.was _ c.with_disk.new.out
    c.with_disk.result
    (words.addresses.controlled, words.addresses.common, words.ensures.controlled, words.ensures.common)
    c.with_disk.ensures
