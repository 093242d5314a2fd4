-- What a disk's keeper and its client tell each other, as octets.
use Rattle.std.specs.Prelude.{◌∷◌, ◌++◌, ℕ, List, codes, Result, Ok, Err}
use Rattle.std.specs.Int.{to_be_bytes, w64}
use Rattle.macs_disk.specs.States.{zero_sector}
use Rattle.macs_disk.specs.declared.device_call.DeviceCall.{DeviceCall}
use Rattle.macs_disk.specs.declared.device_call.DeviceCall.TheVariants.{Read, Write, Sync}
use Rattle.macs_disk.specs.declared.messages.answer.CallAnswer.{CallAnswer}
use Rattle.macs_disk.specs.declared.messages.answer.CallAnswer.TheVariants.{Sector, Done, Failed}

-- the first octet of a request
abbrev pub kind_of : DeviceCall → ℕ
kind_of (Read at) = 1
kind_of (Write at octets) = 2
kind_of Sync = 3

-- the number of its sector, zero where a call has none
abbrev pub place_of : DeviceCall → ℕ
place_of (Read at) = at
place_of (Write at octets) = at
place_of Sync = 0

-- the octets that it writes, zeros where a call writes none
abbrev pub sector_of : DeviceCall → List ℕ
sector_of (Write at octets) = octets
sector_of call = zero_sector

-- a request for a call: its kind, its number in 8 octets, the most significant first, and its sector
abbrev pub request_of : DeviceCall → List ℕ
request_of call = kind_of call ∷ to_be_bytes w64 (place_of call) ++ sector_of call

-- the answer to a call that was made
abbrev pub answer_to : {T E : Type 0} → DeviceCall → (read : List ℕ) → Result T E → CallAnswer
answer_to call read (Err e) = Failed
answer_to (Read at) read (Ok x) = Sector read
answer_to call read (Ok x) = Done

-- the first octet of an answer
abbrev pub octet_of : CallAnswer → ℕ
octet_of (Sector octets) = 1
octet_of Done = 2
octet_of Failed = 3

-- the sector that was read, zeros where none was
abbrev pub octets_in : CallAnswer → List ℕ
octets_in (Sector octets) = octets
octets_in answer = zero_sector

-- an answer: what became of the call, and its sector
abbrev pub answer_octets : CallAnswer → List ℕ
answer_octets answer = octet_of answer ∷ octets_in answer

-- the greeting of a keeper whose disk has this many sectors
abbrev pub greeting_octets : ℕ → List ℕ
greeting_octets sectors = codes "MSECKEEP" ++ to_be_bytes w64 sectors
