-- The settings of a new configuration.
use Rattle.macs_config.specs.Config.{default}
use Rattle.macs_record.specs.declared.record.Record.{Record}
use Rattle.macs_record.specs.declared.record.Record.TheVariants.{Settings}

-- the record of the settings of a newly formatted endpoint
abbrev pub default_settings : Record
default_settings = Settings default.validate default.replay default.mode default.encoding
