use Rattle.std.proofs.Common.{◌∙◌, ap, map, sym}
use Rattle.macs_config.specs.Config.{Config, this_edition}
use Rattle.macs_config.specs.Value.{config_of}
use Rattle.macs_config.proofs.Listed.{listed-made}
use Rattle.macs_store.specs.Commands.{part_of}
use Rattle.macs_store.specs.Table.{table_ceilings}
use Rattle.macs_store.proofs.Replaying.{default-stands, restored-stands}
use Rattle.macs_store.proofs.standing.Standing.restore.Goals as goal

pub invariant_of-self : goal.invariant_of-self
invariant_of-self c =
    let is = c.restore_from.ensures.refused c.if-not-restore_from.true in (
      default-stands this_edition c.restore_from.new.self.identity (config_of c.restore_from.new.self)
          (table_ceilings c.new-self-inside.result) is
          c.new-self-inside.ensures.none,
      c.new-self-inside.ensures.channels ∙ sym (ap (λ (k : Config). k.channels) is),
    )

pub invariant_of-self-2 : goal.invariant_of-self-2
invariant_of-self-2 c =
    let records = c.args.records.now in
    let config = c.restore_from.new.self in
    let made = listed-made this_edition c.self.inside.config.identity (map part_of records) (config_of config)
    c.if-not-restore_from.ensures.restored in (
      restored-stands this_edition c.self.inside.config.identity records made.0 (config_of config) made.1 made.2
          config.identity
          (table_ceilings c.ceilings_in-self-inside.result) c.ceilings_in-self-inside.ensures.ceilings,
      c.ceilings_in-self-inside.ensures.channels,
    )
