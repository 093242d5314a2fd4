-- Lives of an endpoint, one after another on one disk, and where they lead.
use Rattle.std.specs.Prelude.{◌≡◌, ◌⊎◌, ℕ, Bool, true, false, List, [], ◌∷◌, Contains, Option, Some, None, IfSome, Ok}
use Rattle.std.specs.Prelude.{Err}
use Rattle.std.specs.List.{AllByRecursion}
use Rattle.macs_config.specs.Config.{Edition}
use Rattle.macs_config.specs.Identity.{Identity}
use Rattle.macs_disk.specs.States.{Image}
use Rattle.macs_journal.specs.declared.fault.JournalFault.{JournalFault}
use Rattle.macs_journal.specs.declared.fault.JournalFault.TheVariants.{Disk, NotFormatted}
use Rattle.macs_store.specs.Found.{IsUnfitTo, StandingIs}
use Rattle.macs_store.specs.Standing.{Standing, new_standing}
use Rattle.macs_endpoint.specs.Calls.{IsInRange}
use Rattle.macs_endpoint.specs.Restart.{Fits, opened_state, state_during}
use Rattle.macs_endpoint.specs.State.{Call, Logs, State, no_logs}
use Rattle.macs_endpoint.specs.Step.{Exchange, Steps}

-- ---- lives, and the past

-- One thing that a program of an edition did with a disk: a call of `format`, and whether it returned Ok; an opening of
-- an image that failed; or an opening of an image, the calls that were answered after it, and the interrupted call, if
-- there was one
pub data Life : Type 0 where
  Formats : (edition : Edition) (identity : Identity) (is_ok : Bool) → Life
  Refuses : (edition : Edition) (image : Image) (fault : JournalFault) → Life
  Serves : (edition : Edition) (image : Image) (exchanges : List Exchange) (cut : Option Call) → Life

-- Where lives have led: the disk is not certainly formatted, and these identities were given; or it is, and the last
-- life ended in this state
pub data Past : Type 0 where
  Blank : (identities : List Identity) → Past
  Formatted : State → Past

-- what was used and delivered in all lives
abbrev pub logs_of : Past → Logs
logs_of (Blank identities) = no_logs
logs_of (Formatted s) = s.logs

-- an endpoint whose disk was just formatted
abbrev pub formatted_state : Edition → Identity → State
formatted_state edition identity = opened_state (new_standing edition identity) no_logs

-- the state that a life ends in, inside a call or not
abbrev pub state_at_end : State → Option Call → State
state_at_end s None = s
state_at_end s (Some call) = state_during s call

-- A program of an edition may find this image, on a disk of this many sectors. While the disk is not certainly
-- formatted there is no journal, or a new one with one of the identities; later the image fits the state.
abbrev pub FitsPast : Edition → ℕ → Past → Image → Type 0
FitsPast edition sectors (Blank identities) image =
    StandingIs edition sectors image (Err NotFormatted)
    ⊎ ((identity : Identity) × Contains identities identity
    × StandingIs edition sectors image (Ok (new_standing edition identity)))
FitsPast edition sectors (Formatted s) image = Fits edition sectors image s

-- ---- one life

-- A life so far. A program of an edition opens this image, which it may find after that past. It begins with the
-- standing of the image, and with the logs of all lives; the arguments of each of its calls are in the ranges of their
-- types; the last one left the endpoint in this state.
pub record IsLifeSoFar (sectors : ℕ) (past : Past) (edition : Edition) (image : Image) (exchanges : List Exchange)
    (s : State) : Type 0 where
  pub fits : FitsPast edition sectors past image
  pub found : Standing
  pub is_found : StandingIs edition sectors image (Ok found)
  pub in_range : AllByRecursion (λ (e : Exchange). IsInRange e.call) exchanges
  pub steps : Steps (opened_state found (logs_of past)) exchanges s

-- A `format` that returns Ok makes a new endpoint, and none returns Ok once the disk is formatted. One that does not,
-- or is interrupted, may leave a new journal with its identity where there was none, and changes nothing later.
abbrev pub FormatLeads : Past → Edition → Identity → (is_ok : Bool) → Past → Type 0
FormatLeads (Blank identities) edition identity true new = new ≡ Formatted (formatted_state edition identity)
FormatLeads (Blank identities) edition identity false new = new ≡ Blank (identity ∷ identities)
FormatLeads (Formatted s) edition identity true new = ⊥
FormatLeads (Formatted s) edition identity false new = new ≡ Formatted s

-- One life leads from old to new. An opening that fails, because of what is on the disk, or because a device call
-- failed, changes nothing; one that succeeds makes the disk certainly formatted. There may be a journal in the last
-- generation, of a format that the edition rewrites.
abbrev pub Leads : ℕ → Past → Life → Past → Type 0
Leads sectors old (Formats edition identity is_ok) new = FormatLeads old edition identity is_ok new
Leads sectors old (Refuses edition image fault) new =
    FitsPast edition sectors old image × ((fault ≡ Disk) ⊎ IsUnfitTo edition sectors image fault) × (new ≡ old)
Leads sectors old (Serves edition image exchanges cut) new =
    (last : State) × IsLifeSoFar sectors old edition image exchanges last
    × IfSome cut (λ call. IsInRange call) × (new ≡ Formatted (state_at_end last cut))

-- ---- a history

-- these lives, one after another, lead from old to new
abbrev pub LeadOn : ℕ → Past → List Life → Past → Type 0
LeadOn sectors old [] new = new ≡ old
LeadOn sectors old (life ∷ lives) new = (mid : Past) × Leads sectors old life mid × LeadOn sectors mid lives new

-- A history: these lives lead to this, on a disk of this many sectors with which nothing was done before.
abbrev pub IsHistory : ℕ → List Life → Past → Type 0
IsHistory sectors lives past = LeadOn sectors (Blank []) lives past
