use Rattle.std.proofs.Common.{take}
use Rattle.std.specs.Prelude.{flat_map}
use Rattle.macs_config.specs.Value.{config_of}
use Rattle.macs_texts.specs.KeyTexts.{channel_keys}
use Rattle.macs_commands.specs.Papers.{Writes}
use Rattle.macs_texts.proofs.keys.rx_keys.Given as goal

abbrev pub invariant-loop-sci : goal.invariant-loop-sci
invariant-loop-sci l =
    Writes l.initial.paper l.paper (flat_map (channel_keys (config_of l.config)) (take l.sci-index l.sci-items))
