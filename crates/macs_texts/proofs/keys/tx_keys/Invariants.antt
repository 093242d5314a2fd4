use Rattle.std.proofs.Common.{drop}
use Rattle.macs_config.specs.Value.{config_of}
use Rattle.macs_texts.specs.KeyTexts.{tx_key_text}
use Rattle.macs_texts.proofs.Adding.{WritesRest}
use Rattle.macs_texts.proofs.keys.tx_keys.Given as goal

abbrev pub invariant-loop-an : goal.invariant-loop-an
invariant-loop-an l = WritesRest (tx_key_text (config_of l.config))
    l.an-items (drop l.an-index l.an-items) l.initial.paper l.paper
