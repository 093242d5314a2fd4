-- The names of refusals.
use Rattle.std.specs.Prelude.{ℕ, List, codes}
use Rattle.macs_config.specs.declared.refusal.Refusal.{Refusal}
use Rattle.macs_config.specs.declared.refusal.Refusal.TheVariants as refusal

-- the name of a refusal
abbrev pub refusal_name : Refusal → List ℕ
refusal_name refusal.StartRange = codes "StartRange"
refusal_name refusal.OffsetChoice = codes "OffsetChoice"
refusal_name refusal.OwnSci = codes "OwnSci"
refusal_name refusal.EndStationSci = codes "EndStationSci"
refusal_name refusal.NoChannel = codes "NoChannel"
refusal_name refusal.ChannelTaken = codes "ChannelTaken"
refusal_name refusal.ChannelsFull = codes "ChannelsFull"
refusal_name refusal.SlotTaken = codes "SlotTaken"
refusal_name refusal.SlotEmpty = codes "SlotEmpty"
refusal_name refusal.InUse = codes "InUse"
refusal_name refusal.KeySpent = codes "KeySpent"
refusal_name refusal.SpentFull = codes "SpentFull"
