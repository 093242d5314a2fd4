-- Which keys are installed, without revealing them.
use Rattle.std.specs.Prelude.{ℕ, ◌*◌, List, [], ◌++◌, length, flat_map, take, codes, Option, Some, None}
use Rattle.std.specs.Fmt.{decimal}
use Rattle.hex.specs.Hex.{encode_lower}
use Rattle.sha2.specs.Sha256.{sha256}
use Rattle.macs_config.specs.Config.{Config}
use Rattle.macs_config.specs.declared.association.RxSa.{RxSa}
use Rattle.macs_config.specs.declared.association.TxSa.{TxSa}
use Rattle.macs_texts.specs.Lines.{line, rx_name, tx_name}
use Rattle.macs_texts.specs.Showing.{association_numbers}

-- the digest that identifies a key: the SHA-256 of these words followed by the key (FIPS 180-4), 32 octets
abbrev pub key_digest : List ℕ → List ℕ
key_digest key = sha256 (codes "macsecd key " ++ key)

-- its identifier: the first eight hex digits of the digest
abbrev pub key_id : List ℕ → List ℕ
key_id key = encode_lower (take 4 (key_digest key))

-- the line of an association's key: its length, in bits, and its identifier
abbrev pub key_line : List ℕ → List ℕ → List ℕ
key_line whose key = line (whose ++ (codes " key " ++ (decimal (8 * length key) ++ (codes " id " ++ key_id key))))

-- the line of the key of this transmit association, if it exists
abbrev pub tx_key_text_of : ℕ → Option TxSa → List ℕ
tx_key_text_of an None = []
tx_key_text_of an (Some sa) = key_line (tx_name an) sa.key

-- the same for a receive association
abbrev pub rx_key_text_of : List ℕ → ℕ → Option RxSa → List ℕ
rx_key_text_of sci an None = []
rx_key_text_of sci an (Some sa) = key_line (rx_name sci an) sa.key

-- the same for the transmit association with this number
abbrev pub tx_key_text : Config → ℕ → List ℕ
tx_key_text c an = tx_key_text_of an (c.tx an)

-- the same for the receive association with this number
abbrev pub rx_key_text : Config → List ℕ → ℕ → List ℕ
rx_key_text c sci an = rx_key_text_of sci an (c.rx sci an)

-- the keys of a channel, by association number
abbrev pub channel_keys : Config → List ℕ → List ℕ
channel_keys c sci = flat_map (rx_key_text c sci) association_numbers

-- all keys, line by line: those of the transmit associations, and those of the channels
abbrev pub keys_text : Config → List ℕ
keys_text c =
    flat_map (tx_key_text c) association_numbers ++ flat_map (channel_keys c) c.channels
