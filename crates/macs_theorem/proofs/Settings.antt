-- What a command makes of a configuration is what it makes of the settings.
use Rattle.std.proofs.Common.{◌≡◌, ◌||◌, ◌==◌, ℕ, Bool, true, false, cond, not, List, Option, Some, None, Ok, bytes_eq}
use Rattle.std.proofs.Common.{filter, refl, ◌∙◌, ap}
use Rattle.std.proofs.Math.Path.{fun_ext}
use Rattle.std.specs.Option.{option_map}
use Rattle.macs_aes.specs.Keys.{octets_of_key}
use Rattle.macs_aes.specs.declared.keys.Key.{Key}
use Rattle.macs_config.specs.Apply.{apply, config_after, offset_at, offset_or_zero, refusal_of}
use Rattle.macs_config.specs.Association.{protection_of}
use Rattle.macs_config.specs.Config.{Config, Edition, is_among, put_among}
use Rattle.macs_config.specs.Identity.{Identity}
use Rattle.macs_config.specs.Tables.{put, put_at}
use Rattle.macs_config.specs.declared.association.RxSa.{RxSa}
use Rattle.macs_config.specs.declared.association.TxSa.{TxSa}
use Rattle.macs_config.specs.declared.command.Command.{Command}
use Rattle.macs_config.specs.declared.command.Command.TheVariants.{RxAdd, RxDrop, RxInstall, RxRemove, SetReplay}
use Rattle.macs_config.specs.declared.command.Command.TheVariants.{SetSciMode, SetValidate, TxInstall, TxRemove, TxUse}
use Rattle.macs_config.proofs.Channels.{among-put_among, bytes_eq-sym, same_octets}
use Rattle.macs_headline.proofs.Accepted.{accepted, right-offset}
use Rattle.macs_headline.proofs.Changing.{confidential_is, dropped, filtered, offset_is, protected_from}
use Rattle.macs_theorem.specs.Shown.{RxAssociation, TxAssociation, rx_association, settings_of, tx_association}
use Rattle.macs_theorem.specs.Observer.{settings_after}

-- ---- tables

map_cond : {X Y : Type 0} (g : X → Y) (b : Bool) (x y : Option X)
    → option_map g (cond b x y) ≡ cond b (option_map g x) (option_map g y)
map_cond g true x y = refl
map_cond g false x y = refl

map_put : {X Y : Type 0} (g : X → Y) (f : ℕ → Option X) (at : ℕ) (x : Option X)
    → (λ (i : ℕ). option_map g (put f at x i)) ≡ put (λ (i : ℕ). option_map g (f i)) at (option_map g x)
map_put g f at x = fun_ext (λ i. map_cond g (i == at) x (f i))

map_cond_at : {X Y : Type 0} (g : X → Y) (b : Bool) (x y : ℕ → Option X)
    → ◌≡◌ {A = ℕ → Option Y} (λ an. option_map g (cond b x y an))
    (cond b (λ (an : ℕ). option_map g (x an)) (λ (an : ℕ). option_map g (y an)))
map_cond_at g true x y = refl
map_cond_at g false x y = refl

map_put_at : {X Y : Type 0} (g : X → Y) (f : List ℕ → ℕ → Option X) (at : List ℕ) (x : ℕ → Option X)
    → ◌≡◌ {A = List ℕ → ℕ → Option Y} (λ sci an. option_map g (put_at f at x sci an))
    (put_at {X = ℕ → Option Y} (λ sci an. option_map g (f sci an)) at (λ an. option_map g (x an)))
map_put_at g f at x = fun_ext (λ sci. map_cond_at g (bytes_eq sci at) x (f sci))

-- ---- channels

added : (test among : Bool) → (test || among) ≡ cond test true among
added true among = refl
added false among = refl

more_channels : (sci : List ℕ) (channels : List (List ℕ))
    → is_among (put_among sci channels) ≡ put_at (is_among channels) sci true
more_channels sci channels = fun_ext (λ other.
    among-put_among sci channels other
    ∙ ap (λ (b : Bool). b || is_among channels other) (bytes_eq-sym sci other)
    ∙ added (bytes_eq other sci) (is_among channels other))

fewer_by : (sci other : List ℕ) (channels : List (List ℕ)) (test : Bool) → bytes_eq other sci ≡ test
    → is_among (filter (λ item. not (bytes_eq item sci)) channels) other ≡ cond test false (is_among channels other)
fewer_by sci other channels true is =
    ap (is_among (filter (λ item. not (bytes_eq item sci)) channels)) (same_octets other sci is) ∙ dropped sci channels
fewer_by sci other channels false is = filtered channels sci other (is_among channels other) refl is

fewer_channels : (sci : List ℕ) (channels : List (List ℕ))
    → is_among (filter (λ item. not (bytes_eq item sci)) channels) ≡ put_at (is_among channels) sci false
fewer_channels sci channels = fun_ext (λ other. fewer_by sci other channels (bytes_eq other sci) refl)

-- ---- commands

-- the associations that installs ask for
abbrev tx_asked : Key → Bool → ℕ → TxSa
tx_asked key confidential offset = record {
  key = octets_of_key key;
  protection = protection_of confidential (offset_or_zero (offset_at offset));
}

abbrev rx_asked : Key → ℕ → RxSa
rx_asked key offset = record { key = octets_of_key key; offset = offset_or_zero (offset_at offset) }

module _ (edition : Edition) (identity : Identity) (old : Config) where
  by_command : (c : Command) → refusal_of edition identity old c ≡ None
      → settings_of (config_after old c) ≡ settings_after c (settings_of old)
  by_command (SetValidate validate) ok = refl
  by_command (SetReplay on window) ok = refl
  by_command (SetSciMode mode) ok = refl
  by_command (TxInstall an key start confidential offset) ok =
      let sa = tx_asked key confidential offset in
      let right = protected_from confidential offset
      (right-offset edition identity old (TxInstall an key start confidential offset) ok) in
      let same : tx_association sa ≡ record { key = octets_of_key key; confidential = confidential; offset = offset } =
      λ i. record {
        key = octets_of_key key;
        confidential = confidential_is confidential (offset_or_zero (offset_at offset)) i;
        offset = right i;
      } in
      let table = map_put tx_association old.tx an (Some sa)
      ∙ ap (λ (x : TxAssociation). put (λ (i : ℕ). option_map tx_association (old.tx i)) an (Some x)) same in
      λ i. record (settings_of old) { tx = table i }
  by_command (TxUse an) ok = refl
  by_command (TxRemove an) ok =
      let table = map_put tx_association old.tx an None in
      λ i. record (settings_of old) { tx = table i }
  by_command (RxAdd sci) ok =
      let table = more_channels sci old.channels in
      λ i. record (settings_of old) { channels = table i }
  by_command (RxDrop sci) ok =
      let channels = fewer_channels sci old.channels in
      let table = map_put_at rx_association old.rx sci (λ (an : ℕ). None) in
      λ i. record (settings_of old) { channels = channels i; rx = table i }
  by_command (RxInstall sci an key start offset) ok =
      let sa = rx_asked key offset in
      let right = offset_is offset (right-offset edition identity old (RxInstall sci an key start offset) ok) in
      let same : rx_association sa ≡ record { key = octets_of_key key; offset = offset } =
      λ i. record { key = octets_of_key key; offset = right i } in
      let taken : List ℕ → ℕ → Option RxAssociation = λ s n. option_map rx_association (old.rx s n) in
      let table = map_put_at rx_association old.rx sci (put (old.rx sci) an (Some sa))
      ∙ ap (put_at taken sci) (map_put rx_association (old.rx sci) an (Some sa)
      ∙ ap (λ (x : RxAssociation). put (taken sci) an (Some x)) same) in
      λ i. record (settings_of old) { rx = table i }
  by_command (RxRemove sci an) ok =
      let taken : List ℕ → ℕ → Option RxAssociation = λ s n. option_map rx_association (old.rx s n) in
      let table = map_put_at rx_association old.rx sci (put (old.rx sci) an None)
      ∙ ap (put_at taken sci) (map_put rx_association (old.rx sci) an None) in
      λ i. record (settings_of old) { rx = table i }

  pub settings-follow : (c : Command) (new : Config) → apply edition identity old c ≡ Ok new
      → settings_of new ≡ settings_after c (settings_of old)
  settings-follow c new made =
      let a = accepted edition identity old c new made in
      ap settings_of a.1 ∙ by_command c a.0
