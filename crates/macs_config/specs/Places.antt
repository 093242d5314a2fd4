-- Where a channel is stored.
use Rattle.std.specs.Prelude.{◌≡◌, ◌<◌, ℕ, false, List, [], length, take, slice_index_or}
use Rattle.macs_config.specs.Config.{is_among}

-- the first index with that SCI
pub record IsPlace (scis : List (List ℕ)) (sci : List ℕ) (place : ℕ) : Type 0 where
  pub within : place < length scis
  pub there : slice_index_or scis place [] ≡ sci
  pub first : is_among (take place scis) sci ≡ false
