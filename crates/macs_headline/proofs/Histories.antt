-- What holds of every moment of every history, and of what openings find.
use Rattle.std.proofs.Common.{◌≡◌, inl, inr, ℕ, sym, subst, List, [], ◌∷◌, true, false, Result, Ok, Err}
use Rattle.std.specs.Prelude.{Contains}
use Rattle.macs_config.specs.Config.{Edition}
use Rattle.macs_config.specs.Identity.{Identity}
use Rattle.macs_disk.specs.States.{Image}
use Rattle.macs_journal.specs.declared.fault.JournalFault.{JournalFault}
use Rattle.macs_journal.specs.declared.fault.JournalFault.TheVariants.{NotFormatted}
use Rattle.macs_store.specs.Found.{StandingIs}
use Rattle.macs_store.specs.Standing.{Standing, new_standing}
use Rattle.macs_store.proofs.OneStanding.{one_standing}
use Rattle.macs_endpoint.specs.State.{State, no_logs}
use Rattle.macs_endpoint.specs.Step.{Exchange}
use Rattle.macs_endpoint.specs.Restart.{Fits, Restart, opened_state}
use Rattle.macs_headline.specs.History.{Blank, FitsPast, Formats, Formatted, FormatLeads, IsHistory, IsLifeSoFar}
use Rattle.macs_headline.specs.History.{LeadOn, Leads, Life, Past, Refuses, Serves, logs_of, state_at_end}
use Rattle.macs_headline.specs.Moments.{Moment}
use Rattle.macs_headline.proofs.Effects.{core}
use Rattle.macs_headline.proofs.Sound.{IsSound, end-core, sound-formatted, sound-restart, sound-steps}

-- ---- what is found

ok_one : (a b : Standing) → ◌≡◌ {A = Result Standing JournalFault} (Ok a) (Ok b) → a ≡ b
ok_one a b is = cc

refused_ok : (fault : JournalFault) (a : Standing) → ◌≡◌ {A = Result Standing JournalFault} (Err fault) (Ok a) → ⊥
refused_ok fault a is = cc

module _ (edition : Edition) (sectors : ℕ) (image : Image) where
  pub found-one : (a b : Standing) → StandingIs edition sectors image (Ok a)
      → StandingIs edition sectors image (Ok b) → a ≡ b
  found-one a b is_a is_b = ok_one a b (one_standing edition sectors image (Ok a) (Ok b) is_a is_b)

  pub found-or-refused : (fault : JournalFault) (a : Standing) → StandingIs edition sectors image (Err fault)
      → StandingIs edition sectors image (Ok a) → ⊥
  found-or-refused fault a refused is_a =
      refused_ok fault a (one_standing edition sectors image (Err fault) (Ok a) refused is_a)

  -- what an opening finds of a disk that fits a state is a restart of it
  pub fits-restart : (s : State) (found : Standing) → Fits edition sectors image s
      → StandingIs edition sectors image (Ok found)
      → Restart s (opened_state found s.logs)
  fits-restart s found fits is =
      subst (λ (o : Standing). Restart s (opened_state o s.logs)) (found-one fits.found found fits.is_found is)
      fits.restart

  -- what is found on a disk on which no `format` has answered Ok
  pub found-new : (identities : List Identity) (found : Standing) → FitsPast edition sectors (Blank identities) image
      → StandingIs edition sectors image (Ok found)
      → (identity : Identity) × Contains identities identity × (new_standing edition identity ≡ found)
  found-new identities found (inl none) is = absurd (found-or-refused NotFormatted found none is)
  found-new identities found (inr (identity, among, new)) is =
      (identity, among, found-one (new_standing edition identity) found new is)

-- ---- lives

-- what holds after lives
abbrev pub IsSoundPast : Past → Type 0
IsSoundPast (Blank identities) = Unit {0}
IsSoundPast (Formatted s) = IsSound (core s)

module _ (sectors : ℕ) where
  pub sound-opening : (past : Past) (edition : Edition) (image : Image) (found : Standing)
      → FitsPast edition sectors past image
      → StandingIs edition sectors image (Ok found) → IsSoundPast past
      → IsSound (core (opened_state found (logs_of past)))
  sound-opening (Blank identities) edition image found fits is sound =
      let new = found-new edition sectors image identities found fits is in
      subst (λ (o : Standing). IsSound (core (opened_state o no_logs))) new.2 (sound-formatted edition new.0)
  sound-opening (Formatted s) edition image found fits is sound =
      sound-restart s (opened_state found s.logs) (fits-restart edition sectors image s found fits is) sound

  -- a life up to now
  pub sound-life : (past : Past) (edition : Edition) (image : Image) (exchanges : List Exchange) (s : State)
      → IsLifeSoFar sectors past edition image exchanges s → IsSoundPast past → IsSound (core s)
  sound-life past edition image exchanges s life sound =
      sound-steps (opened_state life.found (logs_of past)) exchanges s life.steps
      (sound-opening past edition image life.found life.fits life.is_found sound)

  sound_format : (old : Past) (edition : Edition) (identity : Identity) (new : Past)
      → FormatLeads old edition identity true new → IsSoundPast old → IsSoundPast new
  sound_format (Blank identities) edition identity new is sound =
      subst IsSoundPast (sym is) (sound-formatted edition identity)
  sound_format (Formatted s) edition identity new h sound = absurd h

  sound_no_format : (old : Past) (edition : Edition) (identity : Identity) (new : Past)
      → FormatLeads old edition identity false new → IsSoundPast old → IsSoundPast new
  sound_no_format (Blank identities) edition identity new is sound = subst IsSoundPast (sym is) tt
  sound_no_format (Formatted s) edition identity new is sound = subst IsSoundPast (sym is) sound

  sound_leads : (old : Past) (life : Life) (new : Past) → Leads sectors old life new → IsSoundPast old → IsSoundPast new
  sound_leads old (Formats edition identity true) new h sound = sound_format old edition identity new h sound
  sound_leads old (Formats edition identity false) new h sound = sound_no_format old edition identity new h sound
  sound_leads old (Refuses edition image fault) new h sound = subst IsSoundPast (sym h.2) sound
  sound_leads old (Serves edition image exchanges cut) new (last, life, cut_in_range, is) sound =
      let at_cut : IsSound (core (state_at_end last cut)) =
      subst IsSound (sym (end-core last cut)) (sound-life old edition image exchanges last life sound) in
      subst IsSoundPast (sym is) at_cut

  pub sound-lives : (old : Past) (lives : List Life) (new : Past) → LeadOn sectors old lives new → IsSoundPast old
      → IsSoundPast new
  sound-lives old [] new is sound = subst IsSoundPast (sym is) sound
  sound-lives old (life ∷ lives) new h sound = sound-lives h.0 lives new h.2 (sound_leads old life h.0 h.1 sound)

  -- ---- histories

  pub sound-history : (lives : List Life) (past : Past) → IsHistory sectors lives past → IsSoundPast past
  sound-history lives past history = sound-lives (Blank []) lives past history tt

  -- at each opening
  pub sound-opened : (s : State) (m : Moment sectors s) → IsSound (core (opened_state m.life.found (logs_of m.past)))
  sound-opened s m =
      sound-opening m.past m.edition m.image m.life.found m.life.fits m.life.is_found
      (sound-history m.lives m.past m.history)

  -- and at each moment
  pub sound-moment : (s : State) (m : Moment sectors s) → IsSound (core s)
  sound-moment s m = sound-life m.past m.edition m.image m.exchanges s m.life (sound-history m.lives m.past m.history)
