-- What an opening finds has an identity that a `format` of the history was given.
use Rattle.std.proofs.Common.{◌≡◌, inl, inr, ℕ, Bool, true, false, List, [], ◌∷◌, refl, sym, ◌∙◌, ap, subst}
use Rattle.std.specs.Prelude.{Contains}
use Rattle.macs_config.specs.Config.{Edition}
use Rattle.macs_config.specs.Identity.{Identity}
use Rattle.macs_disk.specs.States.{Image}
use Rattle.macs_store.specs.Found.{StandingIs}
use Rattle.macs_store.specs.Standing.{Standing}
use Rattle.std.specs.Prelude.{Ok, Option}
use Rattle.macs_endpoint.specs.Restart.{Fits, Restart, opened_state}
use Rattle.macs_endpoint.specs.State.{Call, State}
use Rattle.macs_endpoint.specs.Step.{Exchange, Steps}
use Rattle.macs_headline.specs.History.{Blank, FitsPast, FormatLeads, Formats, Formatted, IsLifeSoFar, LeadOn, Leads}
use Rattle.macs_headline.specs.History.{Life, Past, Refuses, Serves, logs_of, state_at_end}
use Rattle.macs_headline.specs.Openings.{IdentityWasGiven}
use Rattle.macs_headline.proofs.Effects.{Commanded, Core, Effect, Given, Held, NoEffect, Sent, core, effect-of}
use Rattle.macs_headline.proofs.Histories.{fits-restart, found-new}
use Rattle.macs_headline.proofs.Lists.{contains-cases, contains-first, contains-later, contains-none}
use Rattle.macs_headline.proofs.Sound.{end-core}

-- ---- an identity stays

by_effect : (edition : Edition) (old new : Core) → Effect edition old new → new.identity ≡ old.identity
by_effect edition old new (NoEffect is) = ap (λ (c : Core). c.identity) is
by_effect edition old new (Commanded c config ok is) = ap (λ (c : Core). c.identity) is
by_effect edition old new (Sent an sa pn is_sa is_pn is) = ap (λ (c : Core). c.identity) is
by_effect edition old new (Held sci an n pn is_n is) = ap (λ (c : Core). c.identity) is
by_effect edition old new (Given sci an sa n pn is_sa is_n in_time is) = ap (λ (c : Core). c.identity) is

by_steps : (old : State) (exchanges : List Exchange) (new : State) → Steps old exchanges new
    → new.identity ≡ old.identity
by_steps old [] new same = ap (λ (s : State). s.identity) same
by_steps old (e ∷ exchanges) new steps =
    let mid = steps.0 in
    by_steps mid exchanges new steps.2
    ∙ by_effect old.edition (core old) (core mid) (effect-of old e.call e.reply mid steps.1)

by_restart : (old new : State) → Restart old new → new.identity ≡ old.identity
by_restart old new (inl up) = up.identity
by_restart old new (inr (c, mid, hand, makes, up)) = up.identity ∙ ap (λ (s : State). s.identity) makes.2

module _ (sectors : ℕ) where
  -- an image that fits a state is found under its identity
  pub identity-found : (edition : Edition) (image : Image) (s : State) (found : Standing) → Fits edition sectors image s
      → StandingIs edition sectors image (Ok found) → found.identity ≡ s.identity
  identity-found edition image s found fits is =
      by_restart s (opened_state found s.logs) (fits-restart edition sectors image s found fits is)

  -- a life ends under the identity that its opening found
  pub identity-of-life : (past : Past) (edition : Edition) (image : Image) (exchanges : List Exchange) (last : State)
      (cut : Option Call)
      (life : IsLifeSoFar sectors past edition image exchanges last)
      → (state_at_end last cut).identity ≡ life.found.identity
  identity-of-life past edition image exchanges last cut life =
      ap (λ (c : Core). c.identity) (end-core last cut)
      ∙ by_steps (opened_state life.found (logs_of past)) exchanges last life.steps

-- ---- identities that lives were given

module _ (sectors : ℕ) (WasGiven : Identity → Type 0) where
  -- those that may be found after a past
  abbrev Are : Past → Type 0
  Are (Blank identities) = (identity : Identity) → Contains identities identity → WasGiven identity
  Are (Formatted s) = WasGiven s.identity

  found_is : (past : Past) (edition : Edition) (image : Image) (found : Standing) → FitsPast edition sectors past image
      → StandingIs edition sectors image (Ok found)
      → Are past → WasGiven found.identity
  found_is (Blank identities) edition image found fits is are =
      let new = found-new edition sectors image identities found fits is in
      subst (λ (s : Standing). WasGiven s.identity) new.2 (are new.0 new.1)
  found_is (Formatted s) edition image found fits is are =
      subst WasGiven (sym (identity-found sectors edition image s found fits is)) are

  by_format : (old : Past) (edition : Edition) (identity : Identity) (is_ok : Bool) (new : Past)
      → FormatLeads old edition identity is_ok new → WasGiven identity
      → Are old → Are new
  by_format (Blank identities) edition identity true new is given are = subst Are (sym is) given
  by_format (Blank identities) edition identity false new is given are =
      subst Are (sym is) (λ other among. elim (contains-cases identity identities other among) [
        | inl same ↦ subst WasGiven (sym same) given
        | inr later ↦ are other later
      ])
  by_format (Formatted s) edition identity true new h given are = absurd h
  by_format (Formatted s) edition identity false new is given are = subst Are (sym is) are

  -- what a life was given
  abbrev IsGivenBy : Life → Type 0
  IsGivenBy life = (edition : Edition) (identity : Identity) (is_ok : Bool) → life ≡ Formats edition identity is_ok
      → WasGiven identity

  by_life : (old : Past) (life : Life) (new : Past) → Leads sectors old life new → IsGivenBy life → Are old → Are new
  by_life old (Formats edition identity is_ok) new h given are =
      by_format old edition identity is_ok new h (given edition identity is_ok refl) are
  by_life old (Refuses edition image fault) new h given are = subst Are (sym h.2) are
  by_life old (Serves edition image exchanges cut) new (last, life, cut_in_range, is) given are =
      let same = identity-of-life sectors old edition image exchanges last cut life in
      subst Are (sym is) (subst WasGiven (sym same) (found_is old edition image life.found life.fits life.is_found are))

  by_lives : (old : Past) (lives : List Life) (new : Past) → LeadOn sectors old lives new
      → ((life : Life) → Contains lives life → IsGivenBy life) → Are old → Are new
  by_lives old [] new same given are = subst Are (sym same) are
  by_lives old (life ∷ lives) new h given are =
      by_lives h.0 lives new h.2 (λ other among. given other (contains-later life lives other among))
      (by_life old life h.0 h.1 (given life (contains-first life lives)) are)

pub identity-was-given : (sectors : ℕ) → IdentityWasGiven sectors
identity-was-given sectors past found f =
    let given : Identity → Type 0 = λ identity. (edition : Edition) × (is_ok : Bool)
    × Contains f.lives (Formats edition identity is_ok) in
    found_is sectors given past f.edition f.image found f.fits f.is_found
    (by_lives sectors given (Blank []) f.lives past f.history
    (λ life among edition identity is_ok same. (edition, is_ok, subst (Contains f.lives) same among))
    (λ identity among. absurd (contains-none identity among)))
