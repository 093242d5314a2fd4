use Rattle.std.proofs.Common.{◌∙◌, None, refl, ap}
use Rattle.macs_fields.specs.Fields.{octets_of}
use Rattle.macs_config.specs.Apply.{answer_or_refusal, refusal_of}
use Rattle.macs_config.specs.Config.{this_edition}
use Rattle.macs_config.specs.Value.{config_in}
use Rattle.macs_config.specs.declared.command.Command.{Command}
use Rattle.macs_config.proofs.Judging.{a-start, no-offset, no-protection, tx-asked, tx-no-offset}
use Rattle.macs_config.proofs.OffsetChoice.{is_offset_at}
use Rattle.macs_config.proofs.check.check_tx_install.Goals as goal

pub returns-in_default-new : goal.returns-in_default-new
returns-in_default-new c identity =
    tx-no-offset identity (config_in c.args.contents.now) c.args.an c.args.key.now c.args.start c.args.confidential
    c.args.offset
    (a-start c.args.start (c.in-Some.ensures.within.0 refl))
    (no-offset c.args.confidential c.args.offset (is_offset_at None c.args.offset c.in_default-new.ensures))

pub returns-in_default-chosen : goal.returns-in_default-chosen
returns-in_default-chosen c identity =
    tx-no-offset identity (config_in c.args.contents.now) c.args.an c.args.key.now c.args.start c.args.confidential
    c.args.offset
    (a-start c.args.start (c.in-Some.ensures.within.0 refl))
    (no-protection c.args.confidential c.args.offset c.in-Some-new.offset
    ((c.in-Some-new.ensures c.in-Some-new.offset).0 refl) c.in_default-chosen.ensures)

pub returns : goal.returns
returns c identity =
    let said = (c.in-Some-chosen.ensures c.in-Some-chosen.protection).0 refl in
    let clear = (c.in-Some-new.ensures c.in-Some-new.offset).0 refl in
    let asked = tx-asked c.args.an (record { key = c.of-key.result; protection = c.in-Some-chosen.protection })
    c.in-Some.start c.args.key.now
    c.as_slice-octets.ensures.size c.args.start c.args.confidential c.args.offset c.of-key.ensures
    c.in-Some.ensures.value said.0 (clear ∙ ap octets_of said.1) in
    c.check_tx.ensures identity
    ∙ ap (λ (command : Command).
    answer_or_refusal (refusal_of this_edition identity (config_in c.args.contents.now) command) command) asked
