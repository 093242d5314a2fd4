-- What frames carried: frames and octets of User Data, with integrity only and encrypted (IEEE Std 802.1AE-2018, 10.7).
use Rattle.std.specs.Prelude.{ℕ, ◌+◌, ◌-◌, ◌^◌, min, Bool, true, false, List, [], ◌∷◌, length, get_or, slice_set}
use Rattle.macs_frame.specs.Protection.{user_data}
use Rattle.macs_frame.specs.declared.tag.SecTag.{SecTag}
use Rattle.macs_frame.specs.declared.traffic.Carried.{Carried}
use Rattle.macs_frame.specs.declared.traffic.Traffic.{Traffic}
use Rattle.macs_frame.specs.declared.traffic.ChannelTraffic.{ChannelTraffic}

-- increased by this many, up to 2^64 - 1
abbrev pub more : ℕ → ℕ → ℕ
more count amount = min (count + amount) (2 ^ 64 - 1)

-- no frame
abbrev pub no_carried : Carried
no_carried = record { frames = 0; octets = 0 }

-- one more frame, with this many octets of User Data
abbrev pub carried_with : ℕ → Carried → Carried
carried_with octets c = record { frames = more c.frames 1; octets = more c.octets octets }

-- no frame of either kind
abbrev pub no_traffic : Traffic
no_traffic = record { plain = no_carried; encrypted = no_carried }

-- one more frame, encrypted or not, with this many octets of User Data
abbrev pub traffic_with : Bool → ℕ → Traffic → Traffic
traffic_with true octets t = record t { encrypted = carried_with octets t.encrypted }
traffic_with false octets t = record t { plain = carried_with octets t.plain }

-- no frame under any association number
abbrev pub no_channel_traffic : ChannelTraffic
no_channel_traffic = record { by_an = no_traffic ∷ no_traffic ∷ no_traffic ∷ no_traffic ∷ [] }

-- the frames under an association number
abbrev pub traffic_under : ChannelTraffic → ℕ → Traffic
traffic_under t an = get_or t.by_an an no_traffic

-- how many octets of User Data a plain frame has
abbrev pub user_octets : List ℕ → ℕ
user_octets plain = length (user_data plain)

-- one more frame: its SecTAG, and the plain frame that it protects
abbrev pub traffic_after : SecTag → List ℕ → ChannelTraffic → ChannelTraffic
traffic_after tag plain t =
    record t { by_an = slice_set t.by_an tag.an (traffic_with tag.encrypted (user_octets plain) (traffic_under t tag.an)) }
