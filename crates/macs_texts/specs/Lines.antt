-- Lines of text.
use Rattle.std.specs.Prelude.{ℕ, List, [], ◌∷◌, ◌++◌, codes, Option, Some, None}
use Rattle.std.specs.Fmt.{decimal}
use Rattle.hex.specs.Hex.{encode_lower}
use Rattle.macs_texts.specs.declared.lines.Subject.{Subject}
use Rattle.macs_texts.specs.declared.lines.Subject.TheVariants as subject

-- a line with its end
abbrev pub line : List ℕ → List ℕ
line text = text ++ 10 ∷ []

-- the line of a number: its name and value, if it is known
abbrev pub known_line : List ℕ → Option ℕ → List ℕ
known_line name None = []
known_line name (Some number) = line (name ++ (codes " " ++ decimal number))

-- the line of a count: its side, its name and value
abbrev pub count_line : List ℕ → List ℕ → ℕ → List ℕ
count_line side what count = line (side ++ (codes " " ++ (what ++ (codes " " ++ decimal count))))

-- the same for a count that may be absent
abbrev pub count_line_of : List ℕ → List ℕ → Option ℕ → List ℕ
count_line_of side what None = []
count_line_of side what (Some count) = count_line side what count

-- a receive channel, as lines name it
abbrev pub channel_name : List ℕ → List ℕ
channel_name sci = codes "channel " ++ encode_lower sci

-- a transmit association, as lines name it
abbrev pub tx_name : ℕ → List ℕ
tx_name an = codes "tx " ++ decimal an

-- a receive association, as lines name it
abbrev pub rx_name : List ℕ → ℕ → List ℕ
rx_name sci an = codes "rx " ++ (encode_lower sci ++ (codes " " ++ decimal an))

-- what a line is about, as lines name it
abbrev pub name_of : Subject → List ℕ
name_of (subject.Channel sci) = channel_name sci
name_of (subject.Tx an) = tx_name an
name_of (subject.Rx sci an) = rx_name sci an
