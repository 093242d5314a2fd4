-- What follows from the definitions of a snapshot's parts: which are refused after those before them, and in which
-- order they come.
use Rattle.std.specs.Prelude.{◌≡◌, ◌<◌, ◌≤◌, ◌+◌, ◌++◌, ℕ, true, false, List, [], ◌∷◌, length, Option, Some, None}
use Rattle.macs_config.specs.Config.{Config, Edition, has_channel, is_among, max_spent, spent_of, takes_key}
use Rattle.macs_config.specs.Identity.{Identity}
use Rattle.macs_config.specs.Snapshot.{config_of_parts, config_with_parts, place_of}
use Rattle.macs_config.specs.declared.association.RxSa.{RxSa as RxAssociation}
use Rattle.macs_config.specs.declared.association.TxSa.{TxSa as TxAssociation}
use Rattle.macs_config.specs.declared.command.Replay.{Replay}
use Rattle.macs_config.specs.declared.command.Role.{Role}
use Rattle.macs_config.specs.declared.command.Role.TheVariants.{Transmit, Receive}
use Rattle.macs_config.specs.declared.command.SciMode.{SciMode}
use Rattle.macs_config.specs.declared.command.Validate.{Validate}
use Rattle.macs_config.specs.declared.part.Part.{Part}
use Rattle.macs_config.specs.declared.part.Part.TheVariants.{Settings, TxSa, Channel, RxSa, Spent}

-- A snapshot is refused if it contains, after some of its parts, an association or a channel that exists already; a
-- receive association whose channel does not exist; a key that the edition does not accept; the own SCI as a channel,
-- or one more channel than the edition may have; spent keys the first of which is already spent, or also the second, or
-- more of them than fit.
pub record PartWords : Type 0 where
  pub tx_twice : (edition : Edition) (identity : Identity) (c : Config) (an : ℕ) (before sa : TxAssociation)
      (parts : List Part)
      → c.tx an ≡ Some before → config_with_parts edition identity c (TxSa an sa ∷ parts) ≡ None
  pub tx_key : (edition : Edition) (identity : Identity) (c : Config) (an : ℕ) (sa : TxAssociation) (parts : List Part)
      → takes_key edition sa.key ≡ false → config_with_parts edition identity c (TxSa an sa ∷ parts) ≡ None
  pub channel_twice : (edition : Edition) (identity : Identity) (c : Config) (sci : List ℕ) (parts : List Part)
      → has_channel c sci ≡ true → config_with_parts edition identity c (Channel sci ∷ parts) ≡ None
  pub own_channel : (edition : Edition) (identity : Identity) (c : Config) (parts : List Part)
      → config_with_parts edition identity c (Channel identity.sci ∷ parts) ≡ None
  pub channels_full : (edition : Edition) (identity : Identity) (c : Config) (sci : List ℕ) (parts : List Part)
      → edition.channels ≤ length c.channels → config_with_parts edition identity c (Channel sci ∷ parts) ≡ None
  pub rx_twice : (edition : Edition) (identity : Identity) (c : Config) (sci : List ℕ) (an : ℕ)
      (before sa : RxAssociation)
      (parts : List Part)
      → c.rx sci an ≡ Some before → config_with_parts edition identity c (RxSa sci an sa ∷ parts) ≡ None
  pub rx_key : (edition : Edition) (identity : Identity) (c : Config) (sci : List ℕ) (an : ℕ) (sa : RxAssociation)
      (parts : List Part)
      → takes_key edition sa.key ≡ false → config_with_parts edition identity c (RxSa sci an sa ∷ parts) ≡ None
  pub no_channel : (edition : Edition) (identity : Identity) (c : Config) (sci : List ℕ) (an : ℕ) (sa : RxAssociation)
      (parts : List Part)
      → has_channel c sci ≡ false → config_with_parts edition identity c (RxSa sci an sa ∷ parts) ≡ None
  pub spent_twice : (edition : Edition) (identity : Identity) (c : Config) (role : Role) (one : List ℕ)
      (more : List (List ℕ)) (parts : List Part)
      → is_among (spent_of role c) one ≡ true
      → config_with_parts edition identity c (Spent role (one ∷ more) ∷ parts) ≡ None
  pub spent_in_one : (edition : Edition) (identity : Identity) (c : Config) (role : Role) (one : List ℕ)
      (more : List (List ℕ)) (parts : List Part)
      → config_with_parts edition identity c (Spent role (one ∷ one ∷ more) ∷ parts) ≡ None
  pub spent_full : (edition : Edition) (identity : Identity) (c : Config) (role : Role) (fingerprints : List (List ℕ))
      (parts : List Part)
      → max_spent < length (spent_of role c) + length fingerprints
      → config_with_parts edition identity c (Spent role fingerprints ∷ parts) ≡ None

-- A snapshot begins with its settings, and no part of it comes after one with a higher rank in the order: settings,
-- transmit associations, channels, receive associations, and the fingerprints of each side.
pub record OrderWords : Type 0 where
  pub first : (edition : Edition) (identity : Identity) (part : Part) (parts : List Part) → 1 < place_of part
      → config_of_parts edition identity (part ∷ parts) ≡ None
  pub ordered : (edition : Edition) (identity : Identity) (part second third : Part) (front parts : List Part)
      → place_of third < place_of second
      → config_of_parts edition identity (part ∷ (front ++ (second ∷ third ∷ parts))) ≡ None
  pub settings : (edition : Edition) (identity : Identity) (first second : Part) (parts : List Part)
      → place_of second ≡ 1
      → config_of_parts edition identity (first ∷ second ∷ parts) ≡ None
  pub empty : (edition : Edition) (identity : Identity) → config_of_parts edition identity [] ≡ None
  pub places : (validate : Validate) (replay : Replay) (mode : SciMode) (encoding : Option ℕ) (an : ℕ)
      (tx : TxAssociation) (sci : List ℕ) (rx : RxAssociation) (fingerprints : List (List ℕ))
      → (place_of (Settings validate replay mode encoding) ≡ 1) × (place_of (TxSa an tx) ≡ 2)
      × (place_of (Channel sci) ≡ 3) × (place_of (RxSa sci an rx) ≡ 4)
      × (place_of (Spent Transmit fingerprints) ≡ 5) × (place_of (Spent Receive fingerprints) ≡ 6)
