-- How many packet numbers are reserved and not used, as text.
use Rattle.std.specs.Prelude.{ℕ, List, ◌++◌, flat_map, codes, Option}
use Rattle.macs_endpoint.specs.Reserved.{Reserved}
use Rattle.macs_texts.specs.Lines.{known_line, rx_name, tx_name}
use Rattle.macs_texts.specs.Showing.{association_numbers}

-- how many there are of an association, if it exists
abbrev pub reserved_line : List ℕ → Option ℕ → List ℕ
reserved_line whose count = known_line (codes "reserved " ++ whose) count

-- of the transmit association with this number
abbrev pub tx_line : Reserved → ℕ → List ℕ
tx_line reserved an = reserved_line (tx_name an) (reserved.tx an)

-- of a receive association
abbrev pub rx_line : Reserved → List ℕ → ℕ → List ℕ
rx_line reserved sci an = reserved_line (rx_name sci an) (reserved.rx sci an)

-- of those of a channel
abbrev pub channel_text : Reserved → List ℕ → List ℕ
channel_text reserved sci = flat_map (rx_line reserved sci) association_numbers

-- of the transmit associations, and of those of these channels
abbrev pub reserved_text : Reserved → List (List ℕ) → List ℕ
reserved_text reserved channels =
    flat_map (tx_line reserved) association_numbers ++ flat_map (channel_text reserved) channels
