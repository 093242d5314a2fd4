use Rattle.std.proofs.Common.{◌∙◌, ap, sym}
use Rattle.macs_config.specs.Config.{Config, this_edition}
use Rattle.macs_config.specs.Value.{config_of}
use Rattle.macs_store.specs.Table.{table_ceilings}
use Rattle.macs_store.proofs.Replaying.{default-stands}
use Rattle.macs_store.proofs.standing.Standing.new.Goals as goal

pub invariant_of-result : goal.invariant_of-result
invariant_of-result c = (
  default-stands this_edition c.new.result.identity (config_of c.new.result) (table_ceilings c.new-2.result)
      c.new.ensures.default c.new-2.ensures.none,
  c.new-2.ensures.channels ∙ sym (ap (λ (k : Config). k.channels) c.new.ensures.default),
)
