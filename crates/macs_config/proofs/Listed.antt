-- Parts by their places: what they make up.
use Rattle.std.proofs.Common.{◌≡◌, ◌∙◌, Bool, true, false, cond, ◌&&◌, nat_le, List, [], ◌∷◌, drop, get_or, map, Option}
use Rattle.std.proofs.Common.{Some, None, IfSome, refl, ap, sym}
use Rattle.std.specs.Option.{option_and_then, option_map, option_map_or}
use Rattle.macs_config.specs.Config.{Config, Edition, IsConfig, default}
use Rattle.macs_config.specs.Identity.{Identity}
use Rattle.macs_config.specs.Snapshot.{all_parts, are_ordered, config_of_listed, config_of_parts, config_with_listed}
use Rattle.macs_config.specs.Snapshot.{config_with_part, config_with_parts, place_of, whole_config}
use Rattle.macs_config.specs.declared.part.Part.{Part}
use Rattle.macs_config.proofs.Replayed.{restored-is-config}

-- ---- a part at each place

-- those of a slice
pub listed-parts : (parts : List Part) → all_parts (map (λ part. Some part) parts) ≡ Some parts
listed-parts [] = refl
listed-parts (part ∷ parts) = ap (option_map (λ (rest : List Part). part ∷ rest)) (listed-parts parts)

made_of : {A B : Type 0} (f : A → Option B) (o : Option A) (b : B) → option_and_then f o ≡ Some b
    → (a : A) × (o ≡ Some a) × (f a ≡ Some b)
made_of f None b is = cc
made_of f (Some a) b is = (a, refl, is)

module _ (edition : Edition) (identity : Identity) where
  -- which make up what the slice does
  pub listed-slice : (parts : List Part)
      → config_of_listed edition identity (map (λ part. Some part) parts) ≡ config_of_parts edition identity parts
  listed-slice parts = ap (option_and_then (config_of_parts edition identity)) (listed-parts parts)

  -- what makes up a configuration has a part at each place
  pub listed-made : (listed : List (Option Part)) (c : Config) → config_of_listed edition identity listed ≡ Some c
      → (parts : List Part) × (all_parts listed ≡ Some parts) × (config_of_parts edition identity parts ≡ Some c)
  listed-made listed c made = made_of (config_of_parts edition identity) (all_parts listed) c made

  -- and it is one
  pub listed-is-config : (listed : List (Option Part)) (c : Config) → config_of_listed edition identity listed ≡ Some c
      → IsConfig edition identity c
  listed-is-config listed c made =
      let parts = listed-made listed c made in
      restored-is-config edition identity parts.0 c parts.2

  -- ---- the whole

  within_whole : (ordered : Bool) (made : Option Config)
      → cond ordered (whole_config identity made) None ≡ whole_config identity (cond ordered made None)
  within_whole true made = refl
  within_whole false made = refl

  -- what the other parts, if they are there, make of settings
  abbrev behind_settings : Part → Option (List Part) → Option Config
  behind_settings part rest =
      option_and_then (λ parts. cond (are_ordered 2 parts)
      (config_with_parts edition identity (config_with_part default part) parts) None) rest

  whole_by : (part : Part) (rest : Option (List Part)) → nat_le (place_of part) 1 ≡ true
      → option_and_then (config_of_parts edition identity) (option_map (λ parts. part ∷ parts) rest)
      ≡ whole_config identity (behind_settings part rest)
  whole_by part None first = refl
  whole_by part (Some parts) first =
      ap (λ (b : Bool). cond (b && are_ordered 2 parts)
      (whole_config identity (config_with_parts edition identity (config_with_part default part) parts)) None) first
      ∙ within_whole (are_ordered 2 parts) (config_with_parts edition identity (config_with_part default part) parts)

  refused_by : (part : Part) (rest : Option (List Part)) → nat_le (place_of part) 1 ≡ false
      → option_and_then (config_of_parts edition identity) (option_map (λ parts. part ∷ parts) rest) ≡ None
  refused_by part None first = refl
  refused_by part (Some parts) first =
      ap (λ (b : Bool). cond (b && are_ordered 2 parts)
      (whole_config identity (config_with_parts edition identity (config_with_part default part) parts)) None) first

  -- no settings come first
  pub listed-refused : (listed : List (Option Part))
      → option_map_or (λ part. nat_le (place_of part) 1) (get_or listed 0 None) false ≡ false
      → config_of_listed edition identity listed ≡ None
  listed-refused [] first = refl
  listed-refused (None ∷ rest) first = refl
  listed-refused (Some part ∷ rest) first = refused_by part (all_parts rest) first

  -- settings come first, and then the other parts
  first_by : (listed : List (Option Part)) (part : Part) → get_or listed 0 None ≡ Some part
      → nat_le (place_of part) 1 ≡ true
      → config_of_listed edition identity listed ≡ whole_config identity
      (config_with_listed edition identity 2 (config_with_part default part) (drop 1 listed))
  first_by [] part is first = cc
  first_by (None ∷ rest) part is first = cc
  first_by (Some one ∷ rest) part is first =
      let same : one ≡ part = cc in
      whole_by one (all_parts rest) (ap (λ (p : Part). nat_le (place_of p) 1) same ∙ first)
      ∙ ap (λ (p : Part).
      whole_config identity (config_with_listed edition identity 2 (config_with_part default p) rest)) same

  pub listed-whole : (listed : List (Option Part)) (first : Option Part) (start settled : Config) (made : Option Config)
      → first ≡ get_or listed 0 None
      → option_map_or (λ part. nat_le (place_of part) 1) first false ≡ true → start ≡ default
      → IfSome first (λ part. settled ≡ config_with_part start part)
      → config_with_listed edition identity 2 settled (drop 1 listed) ≡ made
      → config_of_listed edition identity listed ≡ whole_config identity made
  listed-whole listed None start settled made is first same has others = cc
  listed-whole listed (Some part) start settled made is first same has others =
      first_by listed part (sym is) first
      ∙ ap (λ (c : Config). whole_config identity (config_with_listed edition identity 2 c (drop 1 listed)))
      (ap (λ (c : Config). config_with_part c part) (sym same) ∙ sym has)
      ∙ ap (whole_config identity) others
