-- Moments of a history: a life under way, and an opening after it.
use Rattle.std.specs.Prelude.{◌≡◌, ℕ, List, Contains, Ok}
use Rattle.macs_config.specs.Config.{Edition, IsUpTo}
use Rattle.macs_config.specs.Identity.{Identity}
use Rattle.macs_disk.specs.States.{Image}
use Rattle.macs_rxsc.specs.declared.verdict.Kind.{Kind}
use Rattle.macs_store.specs.Found.{StandingIs}
use Rattle.macs_store.specs.Standing.{Standing}
use Rattle.macs_endpoint.specs.Restart.{Fits}
use Rattle.macs_endpoint.specs.State.{Logs, State}
use Rattle.macs_endpoint.specs.Step.{Exchange}
use Rattle.macs_headline.specs.History.{FitsPast, IsHistory, IsLifeSoFar, Life, Past, formatted_state}

-- A moment of a history: after these lives one is under way, in which the endpoint is in this state.
pub record Moment (sectors : ℕ) (s : State) : Type 0 where
  pub lives : List Life
  pub past : Past
  pub history : IsHistory sectors lives past
  pub edition : Edition
  pub image : Image
  pub exchanges : List Exchange
  pub life : IsLifeSoFar sectors past edition image exchanges s

-- An opening finds this after a history that led to a past, by a program of any edition, in any image that may be on
-- the disk.
pub record IsFoundAfter (sectors : ℕ) (past : Past) (found : Standing) : Type 0 where
  pub lives : List Life
  pub history : IsHistory sectors lives past
  pub edition : Edition
  pub image : Image
  pub fits : FitsPast edition sectors past image
  pub is_found : StandingIs edition sectors image (Ok found)

-- ---- editions

-- At each moment of its life an endpoint is of the edition of the program that opened its disk; and one whose disk was
-- just formatted, of that of the program that formatted it.
abbrev pub OfItsEdition : ℕ → Type 0
OfItsEdition sectors = ((s : State) (m : Moment sectors s) → s.edition ≡ m.edition)
    × ((edition : Edition) (identity : Identity) → (formatted_state edition identity).edition ≡ edition)

-- one that opens the disk later is of no smaller edition
abbrev pub EditionsRise : ℕ → Type 0
EditionsRise sectors = (s : State) (edition : Edition) (image : Image) → Fits edition sectors image s
    → IsUpTo s.edition edition

-- ---- numbers that were used

-- a frame was sent under this key with this packet number
abbrev pub WasUsed : Logs → (key : List ℕ) (pn : ℕ) → Type 0
WasUsed logs key pn = Contains logs.used (record { key = key; pn = pn })

-- a frame with this packet number was delivered as Ok or Delayed, on an association with this SCI and key
abbrev pub WasGiven : Logs → (sci key : List ℕ) (pn : ℕ) → Type 0
WasGiven logs sci key pn = (kind : Kind) × Contains logs.given (record { sci = sci; key = key; pn = pn; kind = kind })
