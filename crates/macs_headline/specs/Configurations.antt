-- The headline on configurations: what is found after all lives, starting with the first configuration.
use Rattle.std.specs.Prelude.{◌≡◌, ◌∷◌, ℕ, true, List, [], Contains, Option, Some, None, Ok}
use Rattle.macs_config.specs.Config.{Config, Edition, default}
use Rattle.macs_config.specs.Identity.{Identity}
use Rattle.macs_config.specs.declared.command.Command.{Command}
use Rattle.macs_config.specs.declared.command.SciMode.TheVariants.{Explicit}
use Rattle.macs_config.specs.declared.command.Validate.TheVariants.{Strict}
use Rattle.macs_disk.specs.States.{Image}
use Rattle.macs_store.specs.Found.{StandingIs}
use Rattle.macs_store.specs.Standing.{Standing}
use Rattle.macs_endpoint.specs.State.{Call, State}
use Rattle.macs_endpoint.specs.Step.{Exchange}
use Rattle.macs_headline.specs.Commands.{WasBegun, CommandsMake, IsPrefix, WasHandedIn, accepted_commands}
use Rattle.macs_headline.specs.Commands.{acknowledged_commands}
use Rattle.macs_headline.specs.History.{Formats, Life, Past, Refuses, Serves, state_at_end}
use Rattle.macs_headline.specs.Moments.{IsFoundAfter, Moment}

-- Validation is strict, replay protection is on with window 0, SecTAGs have an explicit SCI, and there is no
-- association, no receive channel and no spent key.
pub record IsFirstConfiguration : Type 0 where
  pub validate : default.validate ≡ Strict
  pub on : default.replay.on ≡ true
  pub window : default.replay.window ≡ 0
  pub mode : default.mode ≡ Explicit
  pub encoding : default.encoding ≡ None
  pub tx : (an : ℕ) → default.tx an ≡ None
  pub channels : default.channels ≡ []
  pub rx : (sci : List ℕ) (an : ℕ) → default.rx sci an ≡ None
  pub spent_tx : default.spent_tx ≡ []
  pub spent_rx : default.spent_rx ≡ []

-- The commands of a life that are kept: a prefix of those that were accepted which contains every acknowledged one. The
-- one under way is the one at its end, which comes after a moment of some history, with this edition, this image and
-- these answers, regardless of the lives before it; if there was one, it was given to a call of this life, and work on
-- it had begun, or may have in the interrupted call.
pub record AreKept (sectors : ℕ) (edition : Edition) (image : Image) (exchanges : List Exchange) (cut : Option Call)
    (kept : List Command) : Type 0 where
  pub last : State
  pub moment : Moment sectors last
  pub of_edition : moment.edition ≡ edition
  pub opened : moment.image ≡ image
  pub answered : moment.exchanges ≡ exchanges
  pub under_way : Option Command
  pub at_end : under_way ≡ (state_at_end last cut).under_way
  pub begun : (command : Command) → under_way ≡ Some command → WasBegun exchanges last cut command
  pub handed_in : (command : Command) → under_way ≡ Some command → WasHandedIn exchanges cut command
  pub acknowledged : IsPrefix (acknowledged_commands exchanges) kept
  pub accepted : IsPrefix kept (accepted_commands exchanges under_way)

-- on a disk of this many sectors this image represents the configuration
abbrev pub StandsFor : ℕ → Edition → Image → Config → Type 0
StandsFor sectors edition image config = (found : Standing) × StandingIs edition sectors image (Ok found)
    × (found.config ≡ config)

-- These lives lead from old to new. Each in which an endpoint served opened an image that represents the configuration
-- so far, and applies to it the commands of this life that are kept, which its edition accepts in turn. A `format` and
-- an opening that fails change nothing.
abbrev pub LivesMake : ℕ → Identity → (old : Config) → List Life → (new : Config) → Type 0
LivesMake sectors identity old [] new = new ≡ old
LivesMake sectors identity old (Formats edition given is_ok ∷ lives) new = LivesMake sectors identity old lives new
LivesMake sectors identity old (Refuses edition image fault ∷ lives) new = LivesMake sectors identity old lives new
LivesMake sectors identity old (Serves edition image exchanges cut ∷ lives) new =
    StandsFor sectors edition image old × (kept : List Command) × AreKept sectors edition image exchanges cut kept
    × (mid : Config) × CommandsMake edition identity old kept mid × LivesMake sectors identity mid lives new

-- What is found after lives has the identity given to a `format` that returned Ok, if one did; and it is the
-- configuration to which the lives lead from the initial one.
pub record IsMadeByLives (sectors : ℕ) (lives : List Life) (found : Standing) : Type 0 where
  pub identity : (edition : Edition) (given : Identity) → Contains lives (Formats edition given true)
      → found.identity ≡ given
  pub made : LivesMake sectors found.identity default lives found.config

-- Any edition that opens the disk after a history finds such a configuration in every image that it may find.
abbrev pub ConfigurationIs : ℕ → Type 0
ConfigurationIs sectors = (past : Past) (found : Standing) (f : IsFoundAfter sectors past found)
    → IsMadeByLives sectors f.lives found
