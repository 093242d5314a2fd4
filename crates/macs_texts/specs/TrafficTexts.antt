-- What frames carried, as text.
use Rattle.std.specs.Prelude.{ℕ, ◌==◌, if◌then◌else◌, List, [], ◌++◌, flat_map, codes, Option, Some, None}
use Rattle.std.specs.Fmt.{decimal}
use Rattle.std.specs.Option.{option_map}
use Rattle.macs_frame.specs.Traffic.{traffic_under}
use Rattle.macs_frame.specs.declared.traffic.Carried.{Carried}
use Rattle.macs_frame.specs.declared.traffic.Traffic.{Traffic}
use Rattle.macs_txsc.specs.declared.counters.TxCounters.{TxCounters}
use Rattle.macs_rxsc.specs.declared.counters.ChannelCounters.{ChannelCounters}
use Rattle.macs_texts.specs.Lines.{known_line, line, rx_name, tx_name}
use Rattle.macs_texts.specs.Showing.{association_numbers}

-- the line for frames of a kind under an association and the octets of User Data in them, if there were any
abbrev pub carried_line : List ℕ → List ℕ → Carried → List ℕ
carried_line whose kind c = if c.frames == 0 then [] else
    line (whose
    ++ (codes " " ++ (kind ++ (codes " frames " ++ (decimal c.frames ++ (codes " octets " ++ decimal c.octets))))))

-- the lines for what was sent under an association number: with integrity only, and encrypted
abbrev pub tx_text_of : ℕ → Traffic → List ℕ
tx_text_of an t =
    carried_line (tx_name an) (codes "protected") t.plain ++ carried_line (tx_name an) (codes "encrypted") t.encrypted

-- the same, from the counters
abbrev pub tx_text : TxCounters → ℕ → List ℕ
tx_text c an = tx_text_of an (traffic_under c.traffic an)

-- the lines for what verified under an association number: with integrity only, and encrypted
abbrev pub rx_text_of : List ℕ → ℕ → Option Traffic → List ℕ
rx_text_of sci an None = []
rx_text_of sci an (Some t) =
    carried_line (rx_name sci an) (codes "validated") t.plain
    ++ carried_line (rx_name sci an) (codes "decrypted") t.encrypted

-- the same for a channel's association number
abbrev pub rx_text : (List ℕ → Option ChannelCounters) → List ℕ → ℕ → List ℕ
rx_text table sci an =
    rx_text_of sci an (option_map (λ (c : ChannelCounters). traffic_under c.traffic an) (table sci))

-- the lines of a channel
abbrev pub channel_text : (List ℕ → Option ChannelCounters) → List ℕ → List ℕ
channel_text table sci = flat_map (rx_text table sci) association_numbers

-- what was sent, and what verified on these channels, under each association number; and when the last frame
-- verified, in seconds since the beginning of 1970, if known
abbrev pub traffic_text : TxCounters → List (List ℕ) → (List ℕ → Option ChannelCounters) → Option ℕ → List ℕ
traffic_text sent channels table last =
    flat_map (tx_text sent) association_numbers
    ++ (flat_map (channel_text table) channels ++ known_line (codes "last-good") last)
