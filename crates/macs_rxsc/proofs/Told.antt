-- What a caller knows from what the readers report: which channels exist, and what a need says of a ceiling.
use Rattle.std.proofs.Common.{◌≡◌, ◌≤◌, ◌<◌, ◌||◌, ℕ, Bool, true, false, cond, List, [], ◌∷◌, bytes_eq, Option, Some}
use Rattle.std.proofs.Common.{None, IsSome, IfSome, refl, sym, ap, subst}
use Rattle.std.specs.Prelude.{IsSomeAnd}
use Rattle.std.specs.List.{list_any}
use Rattle.std.specs.Option.{is_some, option_map}
use Rattle.macs_config.specs.declared.association.RxSa.{RxSa}
use Rattle.macs_rxsc.specs.Receive.{Numbers, RxSide, IsNumbered}
use Rattle.macs_rxsc.specs.Needs.{Need, first_need_of, raised_ceiling}
use Rattle.macs_rxsc.specs.Value.{channel_at, counters_among, counters_in, scis_of}
use Rattle.macs_rxsc.specs.declared.channel.Channel.{Channel}
use Rattle.macs_rxsc.specs.declared.counters.ChannelCounters.{ChannelCounters}
use Rattle.macs_rxsc.specs.declared.need.RxNeed.{RxNeed}
use Rattle.macs_rxsc.proofs.Needed.{below-raised, first-place, is-need}
use Rattle.macs_rxsc.proofs.Order.{AllOrdered}

-- ---- channels, by their counters

abbrev pub is_among : List Channel → List ℕ → Bool
is_among channels sci = list_any (λ other. bytes_eq other sci) (scis_of channels)

counted_step : (c : Channel) (cs : List Channel) (sci : List ℕ) (b : Bool)
    → is_some (counters_among cs sci) ≡ is_among cs sci
    → is_some (counters_in (cond b (Some c) (channel_at cs sci))) ≡ (b || is_among cs sci)
counted_step c cs sci true rest = refl
counted_step c cs sci false rest = rest

-- the channels that exist have counters, and no others
pub counted : (channels : List Channel) (sci : List ℕ) → is_some (counters_among channels sci) ≡ is_among channels sci
counted [] sci = refl
counted (c ∷ cs) sci = counted_step c cs sci (bytes_eq c.sci sci) (counted cs sci)

-- a count is reported exactly where there are counters
pub told : {X : Type 0} (count : ChannelCounters → X) (counters : Option ChannelCounters)
    → is_some (option_map count counters) ≡ is_some counters
told count None = refl
told count (Some c) = refl

-- ---- needs

-- the association that a need names has a ceiling, below the one that is asked for
abbrev pub IsAsked : (List ℕ → ℕ → Option ℕ) → ℕ → Need → Type 0
IsAsked ceilings block need = IsSomeAnd (ceilings need.sci need.an) (λ old. old < raised_ceiling block need.pn)

-- what a need asks for may be raised
pub asked : (side : RxSide) (ceilings : List ℕ → ℕ → Option ℕ) (block : ℕ) (need : Need)
    → first_need_of side ceilings block ≡ Some need → IsAsked ceilings block need
asked side ceilings block need is =
    let sci = need.sci in
    let an = need.an in
    let first = first-place side.numbers ceilings block side.channels need is in
    let told = is-need block sci an (side.numbers sci an) (ceilings sci an) need first in
    let top : told.top < raised_ceiling block told.seen =
    below-raised block sci an told.held.next told.top told.seen told.test in
    subst (λ (o : Option ℕ). IsSomeAnd o (λ old. old < raised_ceiling block need.pn)) (sym told.has_ceiling)
    (subst (λ (pn : ℕ). told.top < raised_ceiling block pn) (sym (ap (λ (n : Need). n.pn) told.is)) top)

-- an association that has a ceiling exists
pub bounded : (window : ℕ) (sa : Option RxSa) (numbers : Option Numbers) (ceiling : Option ℕ) (P : ℕ → Type 0)
    → IsNumbered window sa numbers ceiling → IsSomeAnd ceiling P → IsSome sa
bounded window (Some sa) numbers ceiling P stands some = refl
bounded window None None None P stands some = absurd some
bounded window None None (Some ceiling) P stands some = absurd stands
bounded window None (Some numbers) None P stands some = absurd stands
bounded window None (Some numbers) (Some ceiling) P stands some = absurd stands

pub asked-stands : (ceiling : Option ℕ) (P : ℕ → Type 0) → IsSomeAnd ceiling P → IsSome ceiling
asked-stands None P some = absurd some
asked-stands (Some ceiling) P some = refl

pub if_some : (ceiling : Option ℕ) (P : ℕ → Type 0) → IsSomeAnd ceiling P → IfSome ceiling P
if_some None P some = tt
if_some (Some ceiling) P some = some

abbrev pub need_shown : RxNeed → Need
need_shown need = record { sci = need.sci; an = need.an; pn = need.pn }

module _ (side : RxSide) (ceilings : List ℕ → ℕ → Option ℕ) (block : ℕ) where
  -- what a need names exists
  pub need_stands : AllOrdered side ceilings → (result : Option RxNeed)
      → option_map need_shown result ≡ first_need_of side ceilings block
      → IfSome result (λ need. IsSome (side.rx need.sci need.an))
  need_stands ordered None is = tt
  need_stands ordered (Some need) is =
      bounded _ _ _ _ _ (ordered need.sci need.an) (asked side ceilings block (need_shown need) (sym is))

  -- and its ceiling is below the one that is asked for
  pub need_higher : (result : Option RxNeed) → option_map need_shown result ≡ first_need_of side ceilings block
      → IfSome result (λ need. IfSome (ceilings need.sci need.an) (λ old. old < raised_ceiling block need.pn))
  need_higher None is = tt
  need_higher (Some need) is = if_some (ceilings need.sci need.an) (λ old. old < raised_ceiling block need.pn)
      (asked side ceilings block (need_shown need) (sym is))
