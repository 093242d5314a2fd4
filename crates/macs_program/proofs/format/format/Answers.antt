use Rattle.std.proofs.Common.{Bor, List, ℕ, option_map}
use Rattle.std.proofs.lemmas.Result.{err_from_is_err_and}
use Rattle.macs_program.proofs.Made.{formatted-by, value-refused}
use Rattle.macs_cli.specs.Values.{SpellsIdentity, SpellsLayout, ValueFaultHolds}
use Rattle.macs_program.proofs.format.format.Goals as goal

pub returns-in_err-given : goal.returns-in_err-given
returns-in_err-given g c =
    let p = err_from_is_err_and c.from_residual.result c.from_residual.ensures.1 in
    let block = option_map (λ (text : Bor (List ℕ)). text.now) c.args.block in
    let all =
    value-refused g.T.File.DiskFile.file g.W.Stream.contents g.W.Stream.failed c.args.is_over
    (SpellsIdentity c.args.sci.now c.args.tx_block c.args.rx_block)
    (SpellsLayout block) (ValueFaultHolds c.args.sci.now c.args.tx_block c.args.rx_block block) c.args.out.now
    c.format_values.result c.format_values.ensures.fault
    c.in_err-given.field-0.0 p.0 c.from_residual.result c.in_err-given.was p.1 p.2 in
    record {
      printed = all.printed;
      usage = all.usage;
      value = all.value;
      ended = all.ended;
      silent = all.silent;
      broken = all.broken;
    }

pub returns : goal.returns
returns g c =
    let block = option_map (λ (text : Bor (List ℕ)). text.now) c.args.block in
    let given = c.in_ok-given.given in
    let all =
    formatted-by g.T.File.DiskFile.file g.W.Stream.contents g.W.Stream.failed c.args.is_over
    (SpellsIdentity c.args.sci.now c.args.tx_block c.args.rx_block)
    (SpellsLayout block) (ValueFaultHolds c.args.sci.now c.args.tx_block c.args.rx_block block) c.args.out.now
    c.format_values.result c.format_values.ensures.fault
    given given.identity given.layout c.format_given.result c.format_given.new.out c.in_ok-given.was
    c.in_ok-given.ensures.identity
    c.in_ok-given.ensures.layout c.format_given.ensures in
    record {
      printed = all.printed;
      usage = all.usage;
      value = all.value;
      ended = all.ended;
      silent = all.silent;
      broken = all.broken;
    }
