use Rattle.std.proofs.Common.{◌∙◌, ap}
use Rattle.macs_config.specs.Config.{Config}
use Rattle.macs_commands.specs.Papers.{written}
use Rattle.macs_texts.specs.Counting.{keys_text}
use Rattle.macs_texts.proofs.Adding.{and_then}
use Rattle.macs_texts.proofs.counting.counter_lines.Goals as goal

pub returns : goal.returns
returns g c = and_then c.args.paper.now c.tx_lines.new.paper c.reserved_lines.new.paper _ _ c.tx_lines.ensures
    (and_then c.tx_lines.new.paper c.rx_lines.new.paper c.reserved_lines.new.paper _ _ c.rx_lines.ensures
    (and_then c.rx_lines.new.paper c.channels_lines.new.paper c.reserved_lines.new.paper _ _ c.channels_lines.ensures
    (and_then c.channels_lines.new.paper c.wire_lines.new.paper c.reserved_lines.new.paper _ _ c.wire_lines.ensures
    (and_then c.wire_lines.new.paper c.wire_lines-2.new.paper c.reserved_lines.new.paper _ _ c.wire_lines-2.ensures
    (and_then c.wire_lines-2.new.paper c.left_lines.new.paper c.reserved_lines.new.paper _ _ c.left_lines.ensures
    (and_then c.left_lines.new.paper c.key_lines.new.paper c.reserved_lines.new.paper _ _
    (c.key_lines.ensures ∙ ap (λ (k : Config). written c.left_lines.new.paper (keys_text k)) c.config.ensures.config)
    c.reserved_lines.ensures))))))
