-- What a wire makes of the datagrams of a socket.
use Rattle.std.proofs.Common.{◌≡◌, ◌≢◌, ◌≤◌, ◌<◌, ◌+◌, ◌∙◌, inl, inr, ◌==◌, ℕ, true, false, List, length, take}
use Rattle.std.proofs.Common.{length-take, take_all, Option, Some, None, Ok, Err, arith, refl, sym, subst}
use Rattle.std.proofs.lemmas.Bool.Decides.{nat_tests}
use Rattle.std.specs.declared.io.ErrorKind.{ErrorKind}
use Rattle.std.specs.declared.io.ErrorKind.TheVariants.{WouldBlock}
use Rattle.std.specs.declared.net.SocketAddr.{SocketAddr}
use Rattle.macs_edge.specs.Counts.{CountsStrangers, CountsWaiting}
use Rattle.macs_edge.specs.Datagrams.{Datagram, GivesDatagram, SocketState, TakesDatagram}
use Rattle.macs_edge.specs.WireDatagrams.{IsGiven, ReceivesDatagram, SendsDatagram}
use Rattle.macs_edge.specs.Wires.{saturated}
use Rattle.macs_edge.specs.declared.datagrams.Arrived.{Arrived}
use Rattle.macs_edge.specs.declared.wire.Got.{Got}
use Rattle.macs_edge.specs.declared.wire.Got.TheVariants.{Nothing}
use Rattle.macs_edge.specs.declared.wire.WireFault.TheVariants as fault

-- what is in the room is the whole datagram, where it is not too long
whole : (count : ℕ) (room octets : List ℕ) → length room ≡ 9217 → count ≤ length room
    → take count room ≡ take (length room) octets
    → length (take count room) ≤ 9216 → take count room ≡ octets
whole count room octets size within same short =
    let taken : length (take (length room) octets) ≤ 9216 = subst (λ (l : List ℕ). length l ≤ 9216) same short in
    same ∙ take_all (length room) octets (let cut = length-take (length room) octets in omega (arith, cut, taken, size))

-- and the datagram is too long, where what is in the room is
longer : (count : ℕ) (room octets : List ℕ) → length room ≡ 9217 → take count room ≡ take (length room) octets
    → 9216 < length (take count room)
    → 9216 < length octets
longer count room octets size same long =
    let taken : 9216 < length (take (length room) octets) = subst (λ (l : List ℕ). 9216 < length l) same long in
    let cut = length-take (length room) octets in
    omega (arith, cut, taken)

-- what is in the room is to the wire what the datagram is
given-whole : (peer : SocketAddr) (count : ℕ) (room octets : List ℕ) (from : SocketAddr) (got : Got) (frame : List ℕ)
    → length room ≡ 9217 → count ≤ length room
    → take count room ≡ take (length room) octets → IsGiven peer from (take count room) got frame
    → IsGiven peer from octets got frame
given-whole peer count room octets from got frame size within same (inl stranger) = inl stranger
given-whole peer count room octets from got frame size within same (inr (inl (is, short, what, all))) =
    let is_whole = whole count room octets size within same short in
    inr (inl (is, subst (λ (l : List ℕ). length l ≤ 9216) is_whole short, what, all ∙ is_whole))
given-whole peer count room octets from got frame size within same (inr (inr (is, long, what, none))) =
    inr (inr (is, longer count room octets size same long, what, none))

-- the first datagram is received
pub first-received : {E : Type 0} (peer : SocketAddr) (old new : Option SocketState) (kind : E → ErrorKind)
    (room : List ℕ)
    (arrived : Arrived) (got : Got) (frame : List ℕ)
    → length room ≡ 9217 → arrived.count ≤ length room → TakesDatagram {E = E} old new kind room (Ok arrived)
    → IsGiven peer arrived.from (take arrived.count room) got frame → ReceivesDatagram peer old new (Ok got) frame
first-received peer None new kind room arrived got frame size within takes is = tt
first-received peer (Some old) new kind room arrived got frame size within takes is =
    let here = subst (λ (from : SocketAddr). IsGiven peer from (take arrived.count room) got frame) takes.address is in
    inl (
      takes.first,
      takes.rest,
      takes.waiting,
      takes.left,
      given-whole peer arrived.count room takes.first.octets
          takes.first.address got frame size within takes.octets here,
    )

-- none waits
pub nothing-received : {E : Type 0} (peer : SocketAddr) (old new : Option SocketState) (kind : E → ErrorKind)
    (room : List ℕ) (error : E) (frame : List ℕ)
    → TakesDatagram {E = E} old new kind room (Err error) → kind error ≡ WouldBlock
    → ReceivesDatagram peer old new (Ok Nothing) frame
nothing-received peer None new kind room error frame takes is = tt
nothing-received peer (Some old) new kind room error frame (inl (same, none, left)) is = inr (none, left, refl)
nothing-received peer (Some old) new kind room error frame (inr (other, fails)) is = absurd (other is)

-- the receive fails
pub receive-failed : {E : Type 0} (peer : SocketAddr) (old new : Option SocketState) (kind : E → ErrorKind)
    (room : List ℕ) (error : E) (frame : List ℕ)
    → TakesDatagram {E = E} old new kind room (Err error) → kind error ≢ WouldBlock
    → ReceivesDatagram peer old new (Err fault.Receive) frame
receive-failed peer None new kind room error frame takes is = tt
receive-failed peer (Some old) new kind room error frame (inl (same, none, left)) is = absurd (is same)
receive-failed peer (Some old) new kind room error frame (inr (other, fails)) is = (refl, fails)

-- a frame is sent whole
pub whole-sent : (E : Type 0) (peer : SocketAddr) (old new : Option SocketState) (frame : List ℕ) (count : ℕ)
    → GivesDatagram {E = E} old new frame peer (Ok count)
    → SendsDatagram peer old new frame (count == length frame)
whole-sent E peer None new frame count gives = tt
whole-sent E peer (Some old) new frame count (same, sent) =
    let all : (count == length frame) ≡ true = grind (arith, nat_tests) in
    rw all sent

-- the send fails
pub send-failed : {E : Type 0} (peer : SocketAddr) (old new : Option SocketState) (frame : List ℕ) (error : E)
    → GivesDatagram {E = E} old new frame peer (Err error)
    → SendsDatagram peer old new frame false
send-failed peer None new frame error gives = tt
send-failed peer (Some old) new frame error fails = fails

-- ---- strangers

-- a datagram is taken: it is a stranger's, and nothing is answered, or the peer's
pub stranger-arrived : {E : Type 0} (peer : SocketAddr) (old new : Option SocketState) (kind : E → ErrorKind)
    (room octets : List ℕ)
    (arrived : Arrived) (got : Got) (frame : List ℕ) (n m : ℕ) → TakesDatagram {E = E} old new kind room (Ok arrived)
    → IsGiven peer arrived.from octets got frame → (arrived.from ≢ peer → m ≡ saturated (n + 1))
    → (arrived.from ≡ peer → m ≡ n)
    → CountsStrangers (Ok got) old n m
stranger-arrived peer None new kind room octets arrived got frame n m takes (inl (other, what, none)) strange own =
    subst (λ (g : Got). CountsStrangers (Ok g) None n m) (sym what) (inr (strange other))
stranger-arrived peer (Some old) new kind room octets arrived got frame n m takes (inl (other, what, none))
    strange own =
    subst (λ (g : Got). CountsStrangers (Ok g) (Some old) n m) (sym what)
    (subst (λ (w : List Datagram). CountsWaiting w n m) (sym takes.waiting) (strange other))
stranger-arrived peer old new kind room octets arrived got frame n m takes (inr (inl (is, short, what, all)))
    strange own =
    subst (λ (g : Got). CountsStrangers (Ok g) old n m) (sym what) (own is)
stranger-arrived peer old new kind room octets arrived got frame n m takes (inr (inr (is, long, what, none)))
    strange own =
    subst (λ (g : Got). CountsStrangers (Ok g) old n m) (sym what) (own is)

-- none waits
pub no-stranger : {E : Type 0} (old new : Option SocketState) (kind : E → ErrorKind) (room : List ℕ) (error : E) (n : ℕ)
    → TakesDatagram {E = E} old new kind room (Err error) → kind error ≡ WouldBlock
    → CountsStrangers (Ok Nothing) old n n
no-stranger None new kind room error n takes is = inl refl
no-stranger (Some old) new kind room error n (inl (same, none, left)) is =
    subst (λ (w : List Datagram). CountsWaiting w n n) (sym none) refl
no-stranger (Some old) new kind room error n (inr (other, fails)) is = absurd (other is)
