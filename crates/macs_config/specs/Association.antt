-- What an association does with User Data, and how frames name their channel.
use Rattle.std.specs.Prelude.{Bool, true, false}
use Rattle.macs_fields.specs.declared.fields.Offset.{Offset}
use Rattle.macs_fields.specs.declared.fields.Offset.TheVariants.{Zero}
use Rattle.macs_config.specs.declared.association.Protection.{Protection}
use Rattle.macs_config.specs.declared.association.Protection.TheVariants.{Integrity, Confidentiality}
use Rattle.macs_config.specs.declared.command.SciMode.{SciMode}
use Rattle.macs_config.specs.declared.command.SciMode.TheVariants.{Explicit, EndStation, Implicit}

-- the protection that an install requests: confidentiality with this offset, or integrity only
abbrev pub protection_of : Bool → Offset → Protection
protection_of true offset = Confidentiality offset
protection_of false offset = Integrity

-- User Data are encrypted from the offset on, not only authenticated
abbrev pub is_confidential : Protection → Bool
is_confidential Integrity = false
is_confidential (Confidentiality offset) = true

-- the confidentiality offset, Zero if nothing is encrypted
abbrev pub offset_of : Protection → Offset
offset_of Integrity = Zero
offset_of (Confidentiality offset) = offset

-- frames name their channel by the source address, with ES set (IEEE Std 802.1AE-2018, 9.5)
abbrev pub is_end_station : SciMode → Bool
is_end_station Explicit = false
is_end_station EndStation = true
is_end_station Implicit = false
