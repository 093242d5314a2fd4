use Rattle.std.proofs.Common.{◌∙◌, None, is_none, refl, sym, ap}
use Rattle.macs_config.specs.Apply.{answer_or_refusal, refusal_of}
use Rattle.macs_config.specs.Config.{this_edition}
use Rattle.macs_config.specs.Value.{config_in}
use Rattle.macs_config.specs.declared.command.Command.{Command}
use Rattle.macs_config.proofs.Judging.{a-start, rx-asked, rx-no-offset}
use Rattle.macs_config.proofs.OffsetChoice.{is_offset_at}
use Rattle.macs_config.proofs.check.check_rx_install.Goals as goal

pub returns-in_default-new : goal.returns-in_default-new
returns-in_default-new c identity =
    rx-no-offset identity (config_in c.args.contents.now) c.args.sci c.args.an c.args.key.now c.args.start c.args.offset
    (a-start c.args.start (c.in-Some.ensures.within.0 refl))
    (sym (ap is_none (is_offset_at None c.args.offset c.in_default-new.ensures)))

pub returns : goal.returns
returns c identity =
    let asked = rx-asked c.args.sci c.args.an (record { key = c.of-key.result; offset = c.in-Some-new.offset })
    c.in-Some.start c.args.key.now
    c.as_slice-octets.ensures.size c.args.start c.args.offset c.of-key.ensures c.in-Some.ensures.value
    ((c.in-Some-new.ensures c.in-Some-new.offset).0 refl) in
    c.check_rx.ensures identity
    ∙ ap (λ (command : Command).
    answer_or_refusal (refusal_of this_edition identity (config_in c.args.contents.now) command) command) asked
