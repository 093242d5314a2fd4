-- The output of `show` for an endpoint.
use Rattle.std.specs.Prelude.{ℕ, List, [], ◌∷◌, ◌++◌, length, flat_map, codes, Option, Some, None}
use Rattle.std.specs.Fmt.{decimal}
use Rattle.hex.specs.Hex.{encode_lower}
use Rattle.macs_config.specs.Config.{Config}
use Rattle.macs_config.specs.Identity.{Identity}
use Rattle.macs_config.specs.declared.association.Protection.{Protection}
use Rattle.macs_config.specs.declared.association.Protection.TheVariants.{Integrity, Confidentiality}
use Rattle.macs_config.specs.declared.association.RxSa.{RxSa}
use Rattle.macs_config.specs.declared.association.TxSa.{TxSa}
use Rattle.macs_config.specs.declared.command.Replay.{Replay}
use Rattle.macs_config.specs.declared.command.SciMode.{SciMode}
use Rattle.macs_config.specs.declared.command.Validate.{Validate}
use Rattle.macs_fields.specs.Fields.{octets_of}
use Rattle.macs_rxsc.specs.Receive.{Numbers}
use Rattle.macs_endpoint.specs.State.{State}
use Rattle.macs_commands.specs.Words.{replay_word, sci_mode_word, validate_word}
use Rattle.macs_texts.specs.Lines.{channel_name, line, rx_name, tx_name}

-- ---- single lines

-- the SCI, in hex digits
abbrev pub sci_line : Identity → List ℕ
sci_line identity = line (codes "sci " ++ encode_lower identity.sci)

-- the sizes of the packet number blocks in each direction
abbrev pub blocks_line : Identity → List ℕ
blocks_line identity =
    line (codes "blocks tx " ++ (decimal identity.tx_block ++ (codes " rx " ++ decimal identity.rx_block)))

-- the values given at formatting
abbrev pub identity_lines : Identity → List ℕ
identity_lines identity = sci_line identity ++ blocks_line identity

-- how received frames are validated
abbrev pub validate_line : Validate → List ℕ
validate_line validate = line (codes "validate " ++ validate_word validate)

-- replay protection and its window
abbrev pub replay_line : Replay → List ℕ
replay_line replay = line (codes "replay " ++ (replay_word replay.on ++ (codes " window " ++ decimal replay.window)))

-- how the SecTAG names the channel
abbrev pub mode_line : SciMode → List ℕ
mode_line mode = line (codes "sci-mode " ++ sci_mode_word mode)

-- the association that frames are sent under, if any
abbrev pub encoding_word : Option ℕ → List ℕ
encoding_word None = codes "none"
encoding_word (Some an) = decimal an

-- its line
abbrev pub encoding_line : Option ℕ → List ℕ
encoding_line encoding = line (codes "encoding " ++ encoding_word encoding)

-- the settings
abbrev pub setting_lines : Config → List ℕ
setting_lines c =
    validate_line c.validate ++ (replay_line c.replay ++ (mode_line c.mode ++ encoding_line c.encoding))

-- what a transmit association does with User Data
abbrev pub protection_words : Protection → List ℕ
protection_words Integrity = codes "integrity"
protection_words (Confidentiality offset) = codes "confidential offset " ++ decimal (octets_of offset)

-- a transmit association and its next packet number
abbrev pub tx_line : ℕ → TxSa → ℕ → List ℕ
tx_line an sa next =
    line (tx_name an ++ (codes " " ++ (protection_words sa.protection ++ (codes " next " ++ decimal next))))

-- a receive channel
abbrev pub channel_line : List ℕ → List ℕ
channel_line sci = line (channel_name sci)

-- a receive association, its next and its lowest acceptable packet number
abbrev pub rx_line : List ℕ → ℕ → RxSa → ℕ → ℕ → List ℕ
rx_line sci an sa next lowest = line (rx_name sci an ++ (codes " offset " ++ (decimal (octets_of sa.offset)
    ++ (codes " next " ++ (decimal next ++ (codes " lowest " ++ decimal lowest))))))

-- how many keys are spent in each direction
abbrev pub spent_line : Config → List ℕ
spent_line config =
    line (codes "spent tx " ++ (decimal (length config.spent_tx) ++ (codes " rx " ++ decimal (length config.spent_rx))))

-- ---- associations and channels

-- the association numbers, ascending
abbrev pub association_numbers : List ℕ
association_numbers = 0 ∷ 1 ∷ 2 ∷ 3 ∷ []

-- the line of a transmit association and its next number, if they exist
abbrev pub tx_text_of : ℕ → Option TxSa → Option ℕ → List ℕ
tx_text_of an (Some sa) (Some next) = tx_line an sa next
tx_text_of an sa next = []

-- the same for the transmit association with this number
abbrev pub tx_text : State → ℕ → List ℕ
tx_text s an = tx_text_of an (s.config.tx an) (s.next an)

-- the line of a receive association and its numbers, if they exist
abbrev pub rx_text_of : List ℕ → ℕ → Option RxSa → Option Numbers → List ℕ
rx_text_of sci an (Some sa) (Some numbers) = rx_line sci an sa numbers.next numbers.lowest
rx_text_of sci an sa numbers = []

-- the same for the receive association with this number
abbrev pub rx_text : State → List ℕ → ℕ → List ℕ
rx_text s sci an = rx_text_of sci an (s.config.rx sci an) (s.numbers sci an)

-- a channel, and its associations by number
abbrev pub channel_text : State → List ℕ → List ℕ
channel_text s sci = channel_line sci ++ flat_map (rx_text s sci) association_numbers

-- ---- all of it

-- the configuration, the associations and the channels, line by line
abbrev pub show_text : State → List ℕ
show_text s = identity_lines s.identity ++ (setting_lines s.config
    ++ (flat_map (tx_text s) association_numbers
    ++ (flat_map (channel_text s) s.config.channels ++ spent_line s.config)))
