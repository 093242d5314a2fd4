-- What Linux reports about UDP sockets, proc(5).
use Rattle.std.specs.Prelude.{◌≡◌, ◌≢◌, ◌⊎◌, ◌<◌, ◌^◌, ◌++◌, ℕ, List, ◌∷◌, codes, get_or, length}
use Rattle.std.specs.Fmt.{decimal}
use Rattle.std.specs.Str.Parse.{IsNumeral, digits_value, without_leading_plus}

-- the fields of a socket's line before the last columns, between blanks: its timeout, which is 0, and its inode
abbrev pub mark_of : ℕ → List ℕ
mark_of inode = codes " 0 " ++ (decimal inode ++ codes " ")

-- what follows a mark
abbrev pub IsBehind : List ℕ → List ℕ → List ℕ → Type 0
IsBehind mark text rest = (front : List ℕ) × (text ≡ front ++ (mark ++ rest))

-- the last column of a line, which blanks may follow
abbrev pub IsLastColumn : List ℕ → List ℕ → Type 0
IsLastColumn text column = (line more : List ℕ) × (text ≡ line ++ 10 ∷ more)
    × ((line ≡ column) ⊎ ((blanks : List ℕ) × (line ≡ column ++ 32 ∷ blanks)))

-- after the mark come the references, the pointer, and the digits of the drop count, each after a blank
abbrev pub HasDigits : List ℕ → List ℕ → List ℕ → Type 0
HasDigits mark sockets digits = (references pointer dropped : List ℕ) × IsBehind mark sockets references
    × IsBehind (codes " ") references pointer × IsBehind (codes " ") pointer dropped × IsLastColumn dropped digits

-- the text reports `count` drops
abbrev pub SaysDropped : List ℕ → List ℕ → ℕ → Type 0
SaysDropped mark sockets count = (digits : List ℕ) × HasDigits mark sockets digits
    × (count ≡ digits_value 10 (without_leading_plus digits))

-- a mark is nowhere in a text
abbrev pub Lacks : List ℕ → List ℕ → Type 0
Lacks mark text = (front rest : List ℕ) → text ≢ front ++ (mark ++ rest)

-- a text has no line feed
abbrev pub IsEndless : List ℕ → Type 0
IsEndless text = (i : ℕ) → i < length text → get_or text i 0 ≢ 10

-- no digits follow a mark: it is not there, or there are too few columns after it, or the last one has no end
abbrev pub LacksDigits : List ℕ → List ℕ → Type 0
LacksDigits mark sockets = Lacks mark sockets
    ⊎ ((references : List ℕ) × IsBehind mark sockets references × (Lacks (codes " ") references
    ⊎ ((pointer : List ℕ) × IsBehind (codes " ") references pointer × (Lacks (codes " ") pointer
    ⊎ ((dropped : List ℕ) × IsBehind (codes " ") pointer dropped × IsEndless dropped)))))

-- decimal digits of a number of 64 bits
abbrev pub IsCount : List ℕ → Type 0
IsCount digits = IsNumeral 10 digits × (digits_value 10 digits < 2 ^ 64)

-- the text does not report how many drops there were: no digits follow the mark, or they are no number of 64 bits
abbrev pub LacksDropped : List ℕ → List ℕ → Type 0
LacksDropped mark sockets = LacksDigits mark sockets
    ⊎ ((digits : List ℕ) × HasDigits mark sockets digits × ¬ IsCount (without_leading_plus digits))
