-- Where a text stops being TOML, and the message about it.
use Rattle.std.specs.Prelude.{◌≡◌, ◌+◌, ◌/◌, ◌==◌, ◌++◌, if◌then◌else◌, ℕ, List, [], ◌∷◌, take, codes}
use Rattle.std.specs.Fmt.{decimal}
use Rattle.toml.specs.Errors.{IsWithin, span_start}
use Rattle.toml.specs.declared.de.error.Error.{Error}
use Rattle.macs_offline.specs.declared.toml_place.TextPlace.{TextPlace}

-- the place after one more octet: a line begins after a line feed (10), and a continuation octet of a character, from
-- 128 to 191, counts no column
abbrev pub place_step : TextPlace → ℕ → TextPlace
place_step place octet =
    if octet == 10 then record { line = place.line + 1; column = 1 }
    else (if octet / 64 == 2 then place else record { line = place.line; column = place.column + 1 })

-- the place after these octets, starting at `place`
abbrev pub place_from : TextPlace → List ℕ → TextPlace
place_from place [] = place
place_from place (octet ∷ octets) = place_from (place_step place octet) octets

-- the place after these octets at the start of a text
abbrev pub place_after : List ℕ → TextPlace
place_after octets = place_from (record { line = 1; column = 1 }) octets

-- the place where the span of an error in a text starts
abbrev pub place_in : List ℕ → Error → TextPlace
place_in text error = place_after (take (span_start error) text)

-- the message about a file that stops being TOML at this place
abbrev pub not_toml_text : List ℕ → TextPlace → List ℕ
not_toml_text file place = file ++ (codes ": line " ++ (decimal place.line ++ (codes " column "
    ++ (decimal place.column ++ codes ": not TOML"))))

-- the message about a file with this text: it stops being TOML where some error in it starts
abbrev pub SaysNotToml : List ℕ → List ℕ → List ℕ → Type 0
SaysNotToml file text said =
    (error : Error) × IsWithin text error × (said ≡ not_toml_text file (place_in text error))
