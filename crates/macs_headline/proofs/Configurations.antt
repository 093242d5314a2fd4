-- What is found after all lives is what their kept commands make of the first configuration, under the identity of the
-- `format` that answered Ok.
use Rattle.std.proofs.Common.{◌≡◌, ◌++◌, inl, inr, ℕ, Bool, true, false, List, [], ◌∷◌, Option, Ok, refl, sym, ◌∙◌}
use Rattle.std.proofs.Common.{subst, append-nil, append_assoc}
use Rattle.std.specs.Prelude.{Contains}
use Rattle.macs_config.specs.Config.{Config, Edition, default}
use Rattle.macs_config.specs.Identity.{Identity}
use Rattle.macs_disk.specs.States.{Image}
use Rattle.macs_store.specs.Found.{StandingIs}
use Rattle.macs_store.specs.Standing.{Standing}
use Rattle.macs_store.proofs.LargerEditions.{of-edition}
use Rattle.macs_endpoint.specs.Restart.{Fits, Restart, opened_state}
use Rattle.macs_endpoint.specs.State.{Call, Logs, State}
use Rattle.macs_endpoint.specs.Step.{Exchange}
use Rattle.macs_headline.specs.Commands.{CommandsMake}
use Rattle.macs_headline.specs.Configurations.{AreKept, ConfigurationIs, LivesMake}
use Rattle.macs_headline.specs.History.{Blank, FitsPast, FormatLeads, Formats, Formatted, IsHistory, IsLifeSoFar}
use Rattle.macs_headline.specs.History.{LeadOn, Leads, Life, Past, Refuses, Serves, formatted_state, state_at_end}
use Rattle.macs_headline.specs.Moments.{Moment}
use Rattle.macs_headline.proofs.Answered.{history-on}
use Rattle.macs_headline.proofs.CommandUnderWay.{under-way-was-begun}
use Rattle.macs_headline.proofs.Commands.{commands-kept}
use Rattle.macs_headline.proofs.HandedIn.{under-way-was-given}
use Rattle.macs_headline.proofs.Histories.{fits-restart, found-new}
use Rattle.macs_headline.proofs.Identities.{identity-found, identity-of-life}
use Rattle.macs_headline.proofs.Ledger.{none_some}
use Rattle.macs_headline.proofs.Lists.{contains-cases, contains-none}

-- lives, and then more
made_on : (sectors : ℕ) (identity : Identity) (a b c : Config) (before more : List Life)
    → LivesMake sectors identity a before b → LivesMake sectors identity b more c
    → LivesMake sectors identity a (before ++ more) c
made_on sectors identity a b c [] more one two = subst (λ (a : Config). LivesMake sectors identity a more c) one two
made_on sectors identity a b c (Formats edition given is_ok ∷ before) more one two =
    made_on sectors identity a b c before more one two
made_on sectors identity a b c (Refuses edition image fault ∷ before) more one two =
    made_on sectors identity a b c before more one two
made_on sectors identity a b c (Serves edition image exchanges cut ∷ before) more
    (stands, kept, are_kept, mid, made, rest) two =
    (stands, kept, are_kept, mid, made, made_on sectors identity mid b c before more rest two)

-- a disk that was formatted just now has the first configuration
formatted_config : (edition : Edition) (identity : Identity) (found : Standing) (logs : Logs)
    → Restart (formatted_state edition identity) (opened_state found logs) → found.config ≡ default
formatted_config edition identity found logs (inl up) = up.config
formatted_config edition identity found logs (inr (c, mid, hand, makes, up)) = absurd (none_some c hand)

-- a life that makes nothing
abbrev MakesNothing : ℕ → Life → Type 0
MakesNothing sectors life = (identity : Identity) (config : Config)
    → LivesMake sectors identity config (life ∷ []) config

module _ (sectors : ℕ) where
  -- ---- the configuration

  -- what these lives have made of the first configuration is what may be found
  abbrev AreMade : List Life → Past → Type 0
  AreMade lives (Blank identities) = (identity : Identity) → LivesMake sectors identity default lives default
  AreMade lives (Formatted s) = (edition : Edition) (image : Image) (found : Standing) → Fits edition sectors image s
      → StandingIs edition sectors image (Ok found) → LivesMake sectors found.identity default lives found.config

  found_made : (lives : List Life) (past : Past) (edition : Edition) (image : Image) (found : Standing)
      → AreMade lives past
      → FitsPast edition sectors past image → StandingIs edition sectors image (Ok found)
      → LivesMake sectors found.identity default lives found.config
  found_made lives (Blank identities) edition image found made fits is =
      let new = found-new edition sectors image identities found fits is in
      subst (λ (s : Standing). LivesMake sectors s.identity default lives s.config) new.2 (made new.0)
  found_made lives (Formatted s) edition image found made fits is = made edition image found fits is

  nothing_more : (before : List Life) (past : Past) (life : Life) → MakesNothing sectors life → AreMade before past
      → AreMade (before ++ life ∷ []) past
  nothing_more before (Blank identities) life nothing made =
      λ identity.
      made_on sectors identity default default default before (life ∷ []) (made identity) (nothing identity default)
  nothing_more before (Formatted s) life nothing made =
      λ edition image found fits is. made_on sectors found.identity default found.config found.config before (life ∷ [])
      (made edition image found fits is) (nothing found.identity found.config)

  formats_nothing : (edition : Edition) (given : Identity) (is_ok : Bool)
      → MakesNothing sectors (Formats edition given is_ok)
  formats_nothing edition given is_ok identity config = refl

  new_made : (before : List Life) (identities : List Identity) (edition : Edition) (identity : Identity)
      → AreMade before (Blank identities)
      → AreMade (before ++ Formats edition identity true ∷ []) (Formatted (formatted_state edition identity))
  new_made before identities edition identity made =
      let s = formatted_state edition identity in
      λ later image found fits is.
      let config = formatted_config edition identity found s.logs (fits-restart later sectors image s found fits is) in
      made_on sectors found.identity default default found.config before (Formats edition identity true ∷ [])
      (made found.identity) config

  by_format : (before : List Life) (old : Past) (edition : Edition) (identity : Identity) (is_ok : Bool) (new : Past)
      → FormatLeads old edition identity is_ok new → AreMade before old
      → AreMade (before ++ Formats edition identity is_ok ∷ []) new
  by_format before (Blank identities) edition identity true new is made =
      subst (λ (p : Past). AreMade (before ++ Formats edition identity true ∷ []) p) (sym is)
      (new_made before identities edition identity made)
  by_format before (Blank identities) edition identity false new is made =
      subst (λ (p : Past). AreMade (before ++ Formats edition identity false ∷ []) p) (sym is)
      (nothing_more before (Blank (identity ∷ identities)) (Formats edition identity false)
      (formats_nothing edition identity false) made)
  by_format before (Formatted s) edition identity true new h made = absurd h
  by_format before (Formatted s) edition identity false new is made =
      subst (λ (p : Past). AreMade (before ++ Formats edition identity false ∷ []) p) (sym is)
      (nothing_more before (Formatted s) (Formats edition identity false) (formats_nothing edition identity false) made)

  -- what is found after a life is what its kept commands make of what its own opening found
  served : (before : List Life) (old : Past) → IsHistory sectors before old
      → (edition : Edition) (image : Image) (exchanges : List Exchange) (cut : Option Call)
      (last : State) → IsLifeSoFar sectors old edition image exchanges last → AreMade before old
      → AreMade (before ++ Serves edition image exchanges cut ∷ []) (Formatted (state_at_end last cut))
  served before old history edition image exchanges cut last life made =
      λ later at after fits is.
      let m : Moment sectors last =
      record {
        lives = before;
        past = old;
        history = history;
        edition = edition;
        image = image;
        exchanges = exchanges;
        life = life;
      } in
      let found = life.found in
      let finds = commands-kept sectors last m cut later at after fits is in
      let before_it : LivesMake sectors found.identity default before found.config =
      found_made before old edition image found made life.fits life.is_found in
      let kept : AreKept sectors edition image exchanges cut finds.kept = record {
        last = last;
        moment = m;
        of_edition = refl;
        opened = refl;
        answered = refl;
        under_way = (state_at_end last cut).under_way;
        at_end = refl;
        begun = λ command hand. under-way-was-begun sectors last m cut command hand;
        handed_in = λ command hand. under-way-was-given sectors last m cut command hand;
        acknowledged = finds.acknowledged;
        accepted = finds.accepted;
      } in
      let in_it : CommandsMake edition found.identity found.config finds.kept after.config =
      subst (λ (e : Edition). CommandsMake e found.identity found.config finds.kept after.config)
      (of-edition edition sectors image found life.is_found) finds.made in
      subst (λ (i : Identity). LivesMake sectors i default (before ++ Serves edition image exchanges cut ∷ [])
      after.config) (sym finds.identity)
      (made_on sectors found.identity default found.config after.config before
      (Serves edition image exchanges cut ∷ []) before_it
      ((found, life.is_found, refl), finds.kept, kept, after.config, in_it, refl))

  by_life : (before : List Life) (old : Past) → IsHistory sectors before old → (life : Life) (new : Past)
      → Leads sectors old life new → AreMade before old
      → AreMade (before ++ life ∷ []) new
  by_life before old history (Formats edition identity is_ok) new h made =
      by_format before old edition identity is_ok new h made
  by_life before old history (Refuses edition image fault) new h made =
      subst (λ (p : Past). AreMade (before ++ Refuses edition image fault ∷ []) p) (sym h.2)
      (nothing_more before old (Refuses edition image fault) (λ identity config. refl) made)
  by_life before old history (Serves edition image exchanges cut) new (last, life, cut_in_range, is) made =
      subst (λ (p : Past). AreMade (before ++ Serves edition image exchanges cut ∷ []) p) (sym is)
      (served before old history edition image exchanges cut last life made)

  by_lives : (before : List Life) (old : Past) → IsHistory sectors before old → (more : List Life) (new : Past)
      → LeadOn sectors old more new
      → AreMade before old → AreMade (before ++ more) new
  by_lives before old history [] new same made =
      subst (λ (p : Past). AreMade (before ++ []) p) (sym same)
      (subst (λ (lives : List Life). AreMade lives old) (sym (append-nil before)) made)
  by_lives before old history (life ∷ more) new (mid, leads, rest) made =
      subst (λ (lives : List Life). AreMade lives new) (append_assoc before (life ∷ []) more)
      (by_lives (before ++ life ∷ []) mid (history-on sectors before old life mid history leads) more new rest
      (by_life before old history life mid leads made))

  -- ---- the identity

  -- the disk is formatted under this identity
  abbrev IsOf : Identity → Past → Type 0
  IsOf given (Blank identities) = ⊥
  IsOf given (Formatted s) = s.identity ≡ given

  found_of : (given : Identity) (past : Past) (edition : Edition) (image : Image) (found : Standing) → IsOf given past
      → FitsPast edition sectors past image
      → StandingIs edition sectors image (Ok found) → found.identity ≡ given
  found_of given (Blank identities) edition image found of fits is = absurd of
  found_of given (Formatted s) edition image found of fits is =
      identity-found sectors edition image s found fits is ∙ of

  formatted_of : (old : Past) (edition : Edition) (given : Identity) (new : Past)
      → FormatLeads old edition given true new → IsOf given new
  formatted_of (Blank identities) edition given new is = subst (λ (p : Past). IsOf given p) (sym is) refl
  formatted_of (Formatted s) edition given new h = absurd h

  format_stays : (given : Identity) (old : Past) (edition : Edition) (other : Identity) (is_ok : Bool) (new : Past)
      → FormatLeads old edition other is_ok new → IsOf given old → IsOf given new
  format_stays given (Blank identities) edition other is_ok new h of = absurd of
  format_stays given (Formatted s) edition other true new h of = absurd h
  format_stays given (Formatted s) edition other false new is of = subst (λ (p : Past). IsOf given p) (sym is) of

  stays : (given : Identity) (old : Past) (life : Life) (new : Past) → Leads sectors old life new → IsOf given old
      → IsOf given new
  stays given old (Formats edition other is_ok) new h of = format_stays given old edition other is_ok new h of
  stays given old (Refuses edition image fault) new h of = subst (λ (p : Past). IsOf given p) (sym h.2) of
  stays given old (Serves edition image exchanges cut) new (last, life, cut_in_range, is) of =
      let end : (state_at_end last cut).identity ≡ given =
      identity-of-life sectors old edition image exchanges last cut life
      ∙ found_of given old edition image life.found of life.fits life.is_found in
      subst (λ (p : Past). IsOf given p) (sym is) end

  stay : (given : Identity) (old : Past) (lives : List Life) (new : Past) → LeadOn sectors old lives new
      → IsOf given old → IsOf given new
  stay given old [] new same of = subst (λ (p : Past). IsOf given p) (sym same) of
  stay given old (life ∷ lives) new (mid, leads, rest) of =
      stay given mid lives new rest (stays given old life mid leads of)

  of_format : (old : Past) (lives : List Life) (new : Past) (edition : Edition) (given : Identity)
      → LeadOn sectors old lives new
      → Contains lives (Formats edition given true) → IsOf given new
  of_format old [] new edition given same among = absurd (contains-none (Formats edition given true) among)
  of_format old (life ∷ lives) new edition given (mid, leads, rest) among =
      elim (contains-cases life lives (Formats edition given true) among) [
        | inl here ↦ stay given mid lives new rest
            (formatted_of old edition given mid (subst (λ (life : Life). Leads sectors old life mid) (sym here) leads))
        | inr later ↦ of_format mid lives new edition given rest later
      ]

pub configuration-is : (sectors : ℕ) → ConfigurationIs sectors
configuration-is sectors past found f = record {
  identity = λ edition given among. found_of sectors given past f.edition f.image found
      (of_format sectors (Blank []) f.lives past edition given f.history among) f.fits f.is_found;
  made = found_made sectors f.lives past f.edition f.image found
      (by_lives sectors [] (Blank []) refl f.lives past f.history (λ identity. refl)) f.fits f.is_found;
}
