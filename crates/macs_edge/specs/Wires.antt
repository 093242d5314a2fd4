-- Wires: where frames come from and go to.
use Rattle.std.specs.Prelude.{◌≡◌, ◌≢◌, ◌<◌, ◌≤◌, ◌+◌, ◌-◌, ◌^◌, ◌++◌, ⊤, ℕ, min, List, [], ◌∷◌, length, Option, Some}
use Rattle.std.specs.Prelude.{None, Result, Ok, Err}
use Rattle.std.specs.Option.{option_map}
use Rattle.macs_edge.specs.declared.wire.Got.{Got}
use Rattle.macs_edge.specs.declared.wire.Got.TheVariants.{Nothing, Frame, TooLong}
use Rattle.macs_edge.specs.declared.wire.WireFault.{WireFault}
use Rattle.macs_edge.specs.declared.wire.WireFault.TheVariants as fault

-- the longest frame, in octets
abbrev pub longest_frame : ℕ
longest_frame = 9216

-- a number that saturates at the maximum of 64 bits
abbrev pub saturated : ℕ → ℕ
saturated n = min n (2 ^ 64 - 1)

-- The state that a wire reports: the frames that it will give and those that it sent, if known; and how many of its
-- receives and sends failed
pub record WireState : Type 0 where
  pub waiting : Option (List (List ℕ))
  pub sent : Option (List (List ℕ))
  pub failed_receives : ℕ
  pub failed_sends : ℕ

-- what is received is the first waiting frame, if these are known; one that is too long is taken and not returned
abbrev pub Gives : Option (List (List ℕ)) → Option (List (List ℕ)) → Got → List ℕ → Type 0
Gives (Some before) (Some after) Nothing frame = (before ≡ []) × (after ≡ [])
Gives (Some before) (Some after) Frame frame = before ≡ frame ∷ after
Gives (Some before) (Some after) TooLong frame = (long : List ℕ) × (before ≡ long ∷ after)
    × (longest_frame < length long)
Gives None None got frame = ⊤
Gives before after got frame = ⊥

-- a frame that is received is not too long, and if there is none the buffer is empty
abbrev pub FillsBuffer : Result Got WireFault → List ℕ → Type 0
FillsBuffer (Ok Frame) frame = length frame ≤ longest_frame
FillsBuffer answer frame = frame ≡ []

-- a wire is asked for a frame
abbrev pub Receives : WireState → Result Got WireFault → List ℕ → WireState → Type 0
Receives before (Ok got) frame after =
    Gives before.waiting after.waiting got frame × FillsBuffer (Ok got) frame
    × (after.sent ≡ before.sent) × (after.failed_receives ≡ before.failed_receives)
    × (after.failed_sends ≡ before.failed_sends)
Receives before (Err cause) frame after =
    (cause ≢ fault.Send) × FillsBuffer (Err cause) frame × (after.waiting ≡ before.waiting) × (after.sent ≡ before.sent)
    × (after.failed_receives ≡ saturated (before.failed_receives + 1)) × (after.failed_sends ≡ before.failed_sends)

-- a wire is given a frame to send
abbrev pub Sends : WireState → List ℕ → Result (Unit {0}) WireFault → WireState → Type 0
Sends before frame (Ok done) after =
    (after.waiting ≡ before.waiting) × (after.sent ≡ option_map (λ frames. frames ++ frame ∷ []) before.sent)
    × (after.failed_receives ≡ before.failed_receives) × (after.failed_sends ≡ before.failed_sends)
Sends before frame (Err cause) after =
    (cause ≢ fault.Receive) × (after.waiting ≡ before.waiting) × (after.sent ≡ before.sent)
    × (after.failed_receives ≡ before.failed_receives) × (after.failed_sends ≡ saturated (before.failed_sends + 1))
