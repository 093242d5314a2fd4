-- What a received frame leaves in a buffer.
use Rattle.std.proofs.Common.{◌≡◌, inl, inr, ℕ, List, [], Ok, subst}
use Rattle.macs_c.specs.ReportedDisks.{reported_disk}
use Rattle.macs_endpoint.specs.Calls.{IsCall}
use Rattle.macs_endpoint.specs.State.{Received, Receives, State, no_logs}
use Rattle.macs_endpoint.specs.Step.{ArriveStep, ReceiveStep, Step}
use Rattle.macs_endpoint.specs.Value.{state_of}
use Rattle.macs_rxsc.specs.Receive.{Arrival, given_at}
use Rattle.macs_rxsc.specs.declared.verdict.Verdict.{Verdict}
use Rattle.macs_rxsc.specs.declared.verdict.Verdict.TheVariants.{Delivered, Discarded, HeldBack}
use Rattle.macs_c.specs.Calls.{E}
use Rattle.macs_c.specs.Frames.{Buffer, IsPut, StoresReceived}

-- no frame is given with a verdict other than that it is delivered
abbrev IsGiven : Verdict → List ℕ → Type 0
IsGiven (Delivered kind) given = Unit {0}
IsGiven (Discarded reason) given = given ≡ []
IsGiven HeldBack given = given ≡ []

settled : (frame : List ℕ) (verdict : Verdict) (given : List ℕ) → given ≡ given_at frame verdict
    → IsGiven verdict given
settled frame (Delivered kind) given is = tt
settled frame (Discarded reason) given is = is
settled frame HeldBack given is = is

arrived : (old : State) (a : Arrival) (verdict : Verdict) (given : List ℕ) (new : State)
    → ArriveStep old a verdict given new → IsGiven verdict given
arrived old a (Delivered kind) given new step = tt
arrived old a (Discarded reason) given new (inl held) = held.2
arrived old a HeldBack given new (inl held) = held.2
arrived old a (Discarded reason) given new (inr delivered) =
    let no : Discarded reason ≡ Delivered _ = delivered.0 in cc
arrived old a HeldBack given new (inr delivered) = let no : HeldBack ≡ Delivered _ = delivered.0 in cc

received : (old : State) (frame : List ℕ) (verdict : Verdict) (given : List ℕ) (new : State)
    → ReceiveStep old frame (Ok verdict) given new → IsGiven verdict given
received old frame verdict given new (inl it) = settled frame verdict given it.3
received old frame verdict given new (inr it) = arrived old it.0 verdict given new it.2

stepped : (old : State) (frame : List ℕ) (verdict : Verdict) (given : List ℕ) (new : State)
    → Step old (Receives frame) (Received (Ok verdict) given) new → IsGiven verdict given
stepped old frame verdict given new (inl stopped) = absurd stopped.1
stepped old frame verdict given new (inr running) = received old frame verdict given new running.1

by_verdict : (verdict : Verdict) (given : List ℕ) (old new : Buffer) → IsGiven verdict given → IsPut given old new
    → StoresReceived old (Ok verdict) given new
by_verdict (Delivered kind) given old new is put = put
by_verdict (Discarded reason) given old new is put = subst (λ (frame : List ℕ). IsPut frame old new) is put
by_verdict HeldBack given old new is put = subst (λ (frame : List ℕ). IsPut frame old new) is put

-- the frame that an endpoint gives, at the front of a buffer
pub stores-received : (e e' : E) (frame : List ℕ) (verdict : Verdict) (given : List ℕ) (old new : Buffer)
    → IsCall reported_disk e (Receives frame) (Received (Ok verdict) given) e' → IsPut given old new
    → StoresReceived old (Ok verdict) given new
stores-received e e' frame verdict given old new call put =
    let made = call.behaves.step no_logs in
    by_verdict verdict given old new (stepped (state_of e no_logs) frame verdict given (state_of e' made.0) made.1) put
