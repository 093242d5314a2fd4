use Rattle.std.proofs.Common.{◌∙◌, ℕ, Some, None, refl, ap}
use Rattle.macs_config.proofs.OffsetChoice.{is_offset_at}
use Rattle.macs_record.specs.declared.record.Record.TheVariants.{RxInstall}
use Rattle.macs_record.proofs.Commands.{rx_no_offset, rx_no_start, rx_record, start_more, start_zero}
use Rattle.macs_record.proofs.record.rx_install.Goals as goal

pub returns-in_err-offset : goal.returns-in_err-offset
returns-in_err-offset c =
    c.from_residual.ensures ∙ rx_no_offset c.args.sci c.args.an c.args.key c.args.start c.args.offset
    (is_offset_at None c.args.offset c.in_err-offset.ensures)

pub returns-in_err-start : goal.returns-in_err-start
returns-in_err-start c =
    c.from_residual-in_err-start.ensures
    ∙ rx_no_start c.args.sci c.args.an c.args.key c.args.start c.args.offset
    (start_zero c.args.start (λ more. let there = c.in_err-start.ensures.within.1 more in cc))

pub returns : goal.returns
returns c =
    ap (λ (n : ℕ). Some (RxInstall c.args.sci c.args.an
    (record { key = c.of-key.result; offset = c.in_ok-offset.offset }) n)) c.in_ok-start.ensures.value
    ∙ rx_record c.args.sci c.args.an c.args.key c.args.start c.args.offset c.in_ok-offset.offset
    (is_offset_at (Some c.in_ok-offset.offset) c.args.offset c.in_ok-offset.ensures)
    (start_more c.args.start (c.in_ok-start.ensures.within.0 refl))
    c.of-key.result c.of-key.ensures
