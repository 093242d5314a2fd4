-- How far ceilings are ahead, so that frames need not wait.
use Rattle.std.specs.Prelude.{◌≡◌, ◌≢◌, ◌⊎◌, ◌<◌, ◌≤◌, ◌+◌, ◌^◌, ◌==◌, ℕ, if◌then◌else◌, List, [], ◌∷◌, Option, Some}
use Rattle.std.specs.Prelude.{Ok}
use Rattle.std.specs.Option.{IsSome}
use Rattle.macs_config.specs.declared.command.Command.{Command}
use Rattle.macs_config.specs.declared.command.Command.TheVariants.{RxDrop, RxInstall, RxRemove, TxInstall, TxRemove}
use Rattle.macs_store.specs.Value.{standing_in}
use Rattle.macs_endpoint.specs.Value.{EndpointValue, state_of}
use Rattle.macs_endpoint.specs.Lives.{Transition}
use Rattle.macs_endpoint.specs.State.{Call, Protected, Reply, Rested, Rests, command_made, no_logs}

-- a call does not lower ceilings: it is no rest, or one that failed
abbrev pub LowersNone : Call → Reply → Type 0
LowersNone Rests (Rested (Ok done)) = ⊥
LowersNone call reply = Unit {0}

-- ---- transmission

-- this many numbers are left below the ceiling of an association, or all that exist
pub record HasRoom {D : Type 0} (e : EndpointValue D) (an count : ℕ) : Type 0 where
  pub next : ℕ
  pub ceiling : ℕ
  pub is_next : (state_of e no_logs).next an ≡ Some next
  pub is_ceiling : (standing_in e.store).ceilings.tx an ≡ Some ceiling
  pub room : (next + count ≤ ceiling) ⊎ (ceiling ≡ 2 ^ 32)

-- the association at this AN is the encoding one, and it exists
abbrev pub IsEncodingAn : {D : Type 0} → EndpointValue D → ℕ → Type 0
IsEncodingAn e an = ((standing_in e.store).config.encoding ≡ Some an) × IsSome ((state_of e no_logs).next an)

-- a command, if there is one, neither removes the transmit association at this AN nor installs another one there
abbrev pub SparesTx : ℕ → Option Command → Type 0
SparesTx an (Some (TxInstall installed key start confidential offset)) = installed ≢ an
SparesTx an (Some (TxRemove removed)) = removed ≢ an
SparesTx an command = Unit {0}

-- no command that these calls made durable removes or replaces the transmit association at this AN, and none lowers
-- its ceiling
abbrev pub TxStays : {D : Type 0} → ℕ → EndpointValue D → List (Transition D) → Type 0
TxStays an e [] = Unit {0}
TxStays an e (turn ∷ turns) =
    (LowersNone turn.call turn.reply × SparesTx an (command_made (state_of e no_logs) turn.call turn.reply))
    × TxStays an turn.after turns

-- 1 if the encoding association is at this AN and a frame was sent, else 0
abbrev pub frames_in_reply : Option ℕ → ℕ → Reply → ℕ
frames_in_reply (Some encoding) an (Protected (Ok pn) out) = if encoding == an then 1 else 0
frames_in_reply encoding an reply = 0

-- how many frames were sent under the transmit association at this AN
abbrev pub frames_sent : {D : Type 0} → ℕ → EndpointValue D → List (Transition D) → ℕ
frames_sent an e [] = 0
frames_sent an e (turn ∷ turns) =
    frames_in_reply (standing_in e.store).config.encoding an turn.reply + frames_sent an turn.after turns

-- ---- reception

-- a number is below the ceiling of an association
pub record IsBelow {D : Type 0} (e : EndpointValue D) (sci : List ℕ) (an pn : ℕ) : Type 0 where
  pub ceiling : ℕ
  pub is_ceiling : (standing_in e.store).ceilings.rx sci an ≡ Some ceiling
  pub below : pn < ceiling

-- a command, if there is one, neither removes the receive association with this SCI and AN nor installs another one
-- there
abbrev pub SparesRx : List ℕ → ℕ → Option Command → Type 0
SparesRx sci an (Some (RxDrop dropped)) = dropped ≢ sci
SparesRx sci an (Some (RxInstall channel installed key start offset)) = (channel ≢ sci) ⊎ (installed ≢ an)
SparesRx sci an (Some (RxRemove channel removed)) = (channel ≢ sci) ⊎ (removed ≢ an)
SparesRx sci an command = Unit {0}

-- no command that these calls made durable removes or replaces the receive association with this SCI and AN, and none
-- lowers its ceiling
abbrev pub RxStays : {D : Type 0} → List ℕ → ℕ → EndpointValue D → List (Transition D) → Type 0
RxStays sci an e [] = Unit {0}
RxStays sci an e (turn ∷ turns) =
    (LowersNone turn.call turn.reply × SparesRx sci an (command_made (state_of e no_logs) turn.call turn.reply))
    × RxStays sci an turn.after turns
