use Rattle.std.proofs.Common.{◌∙◌, ℕ, Some, None, refl, ap}
use Rattle.macs_config.proofs.OffsetChoice.{is_offset_at}
use Rattle.macs_record.specs.declared.record.Record.TheVariants.{TxInstall}
use Rattle.macs_record.proofs.Commands.{start_more, start_zero, tx_no_offset, tx_no_protection, tx_no_start, tx_record}
use Rattle.macs_record.proofs.record.tx_install.Goals as goal

pub returns-in_err-offset : goal.returns-in_err-offset
returns-in_err-offset c =
    c.from_residual.ensures ∙ tx_no_offset c.args.an c.args.key c.args.start c.args.confidential c.args.offset
    (is_offset_at None c.args.offset c.in_err-offset.ensures)

pub returns-in_err-protection : goal.returns-in_err-protection
returns-in_err-protection c =
    c.from_residual-in_err-protection.ensures
    ∙ tx_no_protection c.args.an c.args.key c.args.start c.args.confidential c.args.offset c.in_ok-offset.offset
    (is_offset_at (Some c.in_ok-offset.offset) c.args.offset c.in_ok-offset.ensures)
    ((c.in_ok-offset.ensures c.in_ok-offset.offset).0 refl) c.in_err-protection.ensures

pub returns-in_err-start : goal.returns-in_err-start
returns-in_err-start c =
    c.from_residual-in_err-start.ensures
    ∙ tx_no_start c.args.an c.args.key c.args.start c.args.confidential c.args.offset
    (start_zero c.args.start (λ more. let there = c.in_err-start.ensures.within.1 more in cc))

pub returns : goal.returns
returns c =
    ap (λ (n : ℕ). Some (TxInstall c.args.an
    (record { key = c.of-key.result; protection = c.in_ok-protection.protection }) n)) c.in_ok-start.ensures.value
    ∙ tx_record c.args.an c.args.key c.args.start c.args.confidential c.args.offset c.in_ok-offset.offset
    (is_offset_at (Some c.in_ok-offset.offset) c.args.offset c.in_ok-offset.ensures)
    ((c.in_ok-offset.ensures c.in_ok-offset.offset).0 refl) c.in_ok-protection.protection
    c.in_ok-protection.ensures (start_more c.args.start (c.in_ok-start.ensures.within.0 refl)) c.of-key.result
    c.of-key.ensures
