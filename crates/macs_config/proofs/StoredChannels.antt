-- Channels as they are kept, against the channels of the definitions.
use Rattle.std.proofs.Common.{◌≡◌, ◌∙◌, ◌<◌, ◌≤◌, ℕ, false, List, [], ◌∷◌, map, get_or, Option, Some, None, IfSome}
use Rattle.std.proofs.Common.{IfNone, is_some, filter, bytes_eq, refl, sym, ◌+◌, length, take}
use Rattle.std.specs.List.{All, insert}
use Rattle.std.proofs.lemmas.List.Elements.{All-head, All-tail}
use Rattle.std.proofs.lemmas.List.Folds.{list_any_more}
use Rattle.std.proofs.Math.Path.{fun_ext}
use Rattle.macs_config.specs.Config.{is_among}
use Rattle.macs_config.specs.Places.{IsPlace}
use Rattle.macs_config.specs.Value.{config_in, rx_at}
use Rattle.macs_config.specs.Tables.{put_at}
use Rattle.macs_config.specs.declared.association.RxSa.{RxSa}
use Rattle.macs_config.specs.declared.contents.Channel.{Channel}
use Rattle.macs_config.specs.declared.contents.Contents.{Contents}
use Rattle.macs_config.proofs.Keyed.{IsLookup, either, is_other, lookup-filter, lookup-insert, lookup-none, place-among}
use Rattle.macs_config.proofs.Tables.{none_at, put_at-number, put_at-same}

abbrev pub sci_of : Channel → List ℕ
sci_of channel = channel.sci

abbrev pub scis_of : List Channel → List (List ℕ)
scis_of channels = map sci_of channels

-- no channel before the next place has the SCI
pub not_before_next : (scis : List (List ℕ)) (sci : List ℕ) (place : ℕ) → place < length scis
    → bytes_eq (get_or scis place []) sci ≡ false → is_among (take place scis) sci ≡ false
    → is_among (take (place + 1) scis) sci ≡ false
not_before_next scis sci place within other before =
    rw (list_any_more (λ other. bytes_eq other sci) scis place [] within) (rw (before, other) refl)

-- ---- receive associations

-- an association is read of the first channel with the SCI
pub rx_lookup : (an : ℕ)
    → IsLookup sci_of (λ channel. get_or channel.associations an None) None (λ channels sci. rx_at channels sci an)
rx_lookup an = record { nothing = λ sci. refl; next = λ channel channels sci. refl }

-- a channel that nothing is installed in
abbrev pub empty : List ℕ → Channel
empty sci = record { sci = sci; associations = None ∷ None ∷ None ∷ None ∷ [] }

pub rx_at-insert : (channels : List Channel) (place : ℕ) (sci : List ℕ) → is_among (scis_of channels) sci ≡ false
    → (s : List ℕ) (an : ℕ) → rx_at (insert channels place (empty sci)) s an ≡ rx_at channels s an
rx_at-insert channels place sci none s an =
    lookup-insert (rx_lookup an) channels place (empty sci) none s
    ∙ (λ i. put_at-same (λ t. rx_at channels t an) sci _
    (lookup-none (rx_lookup an) channels sci none ∙ sym (none_at an)) i s)

pub rx_at-filter : (channels : List Channel) (sci s : List ℕ) (an : ℕ)
    → rx_at (filter (is_other sci_of sci) channels) s an ≡ put_at (rx_at channels) sci (λ number. None) s an
rx_at-filter channels sci s an =
    lookup-filter (rx_lookup an) channels sci s ∙ sym (put_at-number (rx_at channels) sci (λ number. None) s an)

-- ---- numbers above 3

-- a channel has nothing at them
abbrev pub EndsAtFour : Channel → Type 0
EndsAtFour channel = (an : ℕ) → 4 ≤ an → get_or channel.associations an None ≡ None

-- and then nothing is read at them
pub rx_at-above : (channels : List Channel) → All EndsAtFour channels → (sci : List ℕ) (an : ℕ) → 4 ≤ an
    → rx_at channels sci an ≡ None
rx_at-above [] all sci an above = refl
rx_at-above (c ∷ cs) all sci an above =
    rw (All-head EndsAtFour c cs all an above, rx_at-above cs (All-tail EndsAtFour c cs all) sci an above)
    (either (bytes_eq c.sci sci) None)

-- ---- a configuration with other channels

-- what is kept, with other channels, is a configuration with the SCIs and associations of those
pub read-channels : (contents : Contents) (items : List Channel) (scis : List (List ℕ)) (rx : List ℕ → ℕ → Option RxSa)
    → scis_of items ≡ scis → ((s : List ℕ) (an : ℕ) → rx_at items s an ≡ rx s an)
    → config_in (record contents { channels = record { items = items } })
    ≡ record (config_in contents) { channels = scis; rx = rx }
read-channels contents items scis rx same_scis same_rx =
    λ i. record (config_in contents) { channels = same_scis i; rx = fun_ext (λ s. fun_ext (λ an. same_rx s an)) i }

-- ---- whether a channel exists

-- the test whether there is a place
pub stands_by : (scis : List (List ℕ)) (sci : List ℕ) (place : Option ℕ) → IfSome place (λ k. IsPlace scis sci k)
    → IfNone place (is_among scis sci ≡ false) → is_some place ≡ is_among scis sci
stands_by scis sci None stands none = sym none
stands_by scis sci (Some k) stands none = sym (place-among scis sci k stands)
