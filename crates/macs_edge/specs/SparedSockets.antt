-- A socket around another that is asked less often while nothing arrives.
use Rattle.std.specs.Prelude.{◌≡◌, ◌≢◌, ◌⊎◌, ◌<◌, ◌-◌, ℕ, true, false, Result, Ok, Err}
use Rattle.std.specs.declared.io.ErrorKind.{ErrorKind}
use Rattle.std.specs.declared.io.ErrorKind.TheVariants.{WouldBlock}
use Rattle.macs_edge.specs.declared.datagrams.Arrived.{Arrived}
use Rattle.macs_edge.specs.declared.spared_sockets.SparedSocket.{SparedSocket}

-- the inner socket
abbrev pub behind : {S : Type 0} → SparedSocket S → S
behind sparing = sparing.socket

-- before its first call: no receive is skipped yet, and later at most this many in a row
abbrev pub over_socket : {S : Type 0} → S → ℕ → SparedSocket S
over_socket socket most = record { socket = socket; most = most; left = 0; has_sent = false }

-- the next receive is skipped: something was sent since the last one, and the limit is not reached
abbrev pub IsSpared : {S : Type 0} → SparedSocket S → Type 0
IsSpared sparing = (sparing.has_sent ≡ true) × (0 < sparing.left)

-- a receive finds nothing
abbrev pub FindsNothing : {E : Type 0} → (E → ErrorKind) → Result Arrived E → Type 0
FindsNothing kind (Ok arrived) = ⊥
FindsNothing kind (Err error) = kind error ≡ WouldBlock

-- how many receives may be skipped after one with this answer: the maximum if nothing was found, else none
abbrev pub MayLeaveOut : {E : Type 0} → (E → ErrorKind) → Result Arrived E → ℕ → ℕ → Type 0
MayLeaveOut kind (Ok arrived) most left = left ≡ 0
MayLeaveOut kind (Err error) most left =
    ((kind error ≡ WouldBlock) × (left ≡ most)) ⊎ ((kind error ≢ WouldBlock) × (left ≡ 0))

-- a receive is skipped: nothing is found, and one fewer may be skipped until something is sent
abbrev pub after_sparing : {S : Type 0} → SparedSocket S → SparedSocket S
after_sparing old = record old { left = old.left - 1; has_sent = false }

-- after a receive on the inner socket with this answer, apart from the state of that socket
pub record AfterAsking {S E : Type 0} (kind : E → ErrorKind) (answer : Result Arrived E)
    (old new : SparedSocket S) : Type 0 where
  pub most : new.most ≡ old.most
  pub left : MayLeaveOut kind answer old.most new.left
  pub has_sent : new.has_sent ≡ false

-- after a send, apart from the state of the inner socket
pub record AfterSending {S : Type 0} (old new : SparedSocket S) : Type 0 where
  pub most : new.most ≡ old.most
  pub left : new.left ≡ old.left
  pub has_sent : new.has_sent ≡ true
