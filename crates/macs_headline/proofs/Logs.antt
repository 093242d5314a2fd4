-- What was used and delivered is never forgotten.
use Rattle.std.proofs.Common.{◌≡◌, ℕ, refl, sym, ◌∙◌, ap, subst, List, [], ◌∷◌, ◌++◌, append_assoc, Bool, true, false}
use Rattle.macs_config.specs.Config.{Edition}
use Rattle.macs_config.specs.Identity.{Identity}
use Rattle.macs_endpoint.specs.State.{Logs, State, no_logs}
use Rattle.macs_endpoint.specs.Step.{Exchange, Steps}
use Rattle.macs_endpoint.specs.Restart.{opened_state}
use Rattle.macs_headline.specs.History.{Blank, FormatLeads, Formats, Formatted, Leads, Life, Past, Refuses, Serves}
use Rattle.macs_headline.specs.History.{logs_of}
use Rattle.macs_headline.specs.Numbers.{AreHeldIn, NothingForgotten}
use Rattle.macs_headline.proofs.Effects.{Commanded, Core, Effect, Given, Held, NoEffect, Sent, core, effect-of, use_of}
use Rattle.macs_headline.proofs.Sound.{end-core}

held_same : (old new : Logs) → new ≡ old → AreHeldIn old new
held_same old new is =
    subst (AreHeldIn old) (sym is) (record { used_since = []; used = refl; given_since = []; given = refl })

pub held-on : (old mid new : Logs) → AreHeldIn old mid → AreHeldIn mid new → AreHeldIn old new
held-on old mid new one two = record {
  used_since = two.used_since ++ one.used_since;
  used = append_assoc two.used_since one.used_since old.used ∙ ap (two.used_since ++◌) one.used ∙ two.used;
  given_since = two.given_since ++ one.given_since;
  given = append_assoc two.given_since one.given_since old.given ∙ ap (two.given_since ++◌) one.given ∙ two.given;
}

-- ---- a life

abbrev pub logs_in : Core → Logs
logs_in c = record { used = c.used; given = c.given }

by_effect : (edition : Edition) (old new : Core) → Effect edition old new → AreHeldIn (logs_in old) (logs_in new)
by_effect edition old new (NoEffect is) = held_same (logs_in old) (logs_in new) (ap logs_in is)
by_effect edition old new (Commanded c config ok is) = held_same (logs_in old) (logs_in new) (ap logs_in is)
by_effect edition old new (Sent an sa pn is_sa is_pn is) =
    subst (λ (c : Core). AreHeldIn (logs_in old) (logs_in c)) (sym is)
    (record { used_since = use_of sa.key pn ∷ []; used = refl; given_since = []; given = refl })
by_effect edition old new (Held sci an n pn is_n is) = held_same (logs_in old) (logs_in new) (ap logs_in is)
by_effect edition old new (Given sci an sa n pn is_sa is_n in_time is) =
    subst (λ (c : Core). AreHeldIn (logs_in old) (logs_in c)) (sym is)
    (record { used_since = []; used = refl; given_since = _ ∷ []; given = refl })

-- what was used and delivered before calls is held after them
pub steps-hold : (old : State) (exchanges : List Exchange) (new : State) → Steps old exchanges new
    → AreHeldIn old.logs new.logs
steps-hold old [] new steps = held_same old.logs new.logs (ap (λ (s : State). s.logs) steps)
steps-hold old (e ∷ es) new steps =
    let mid = steps.0 in
    held-on old.logs mid.logs new.logs (by_effect old.edition (core old) (core mid)
    (effect-of old e.call e.reply mid steps.1)) (steps-hold mid es new steps.2)

by_format : (old : Past) (edition : Edition) (identity : Identity) (is_ok : Bool) (new : Past)
    → FormatLeads old edition identity is_ok new
    → AreHeldIn (logs_of old) (logs_of new)
by_format (Blank identities) edition identity true new is = held_same no_logs (logs_of new) (ap logs_of is)
by_format (Blank identities) edition identity false new is = held_same no_logs (logs_of new) (ap logs_of is)
by_format (Formatted s) edition identity true new h = absurd h
by_format (Formatted s) edition identity false new is = held_same s.logs (logs_of new) (ap logs_of is)

module _ (sectors : ℕ) where
  by_life : (old : Past) (life : Life) (new : Past) → Leads sectors old life new → AreHeldIn (logs_of old) (logs_of new)
  by_life old (Formats edition identity is_ok) new h = by_format old edition identity is_ok new h
  by_life old (Refuses edition image fault) new h = held_same (logs_of old) (logs_of new) (ap logs_of h.2)
  by_life old (Serves edition image exchanges cut) new (last, life, cut_in_range, is) =
      subst (AreHeldIn (logs_of old)) (sym (ap logs_of is ∙ ap logs_in (end-core last cut)))
      (steps-hold (opened_state life.found (logs_of old)) exchanges last life.steps)

  -- ---- lives

  pub nothing-forgotten : NothingForgotten sectors
  nothing-forgotten old new [] is = held_same (logs_of old) (logs_of new) (ap logs_of is)
  nothing-forgotten old new (life ∷ lives) h =
      held-on (logs_of old) (logs_of h.0) (logs_of new) (by_life old life h.0 h.1) (nothing-forgotten h.0 new lives h.2)
