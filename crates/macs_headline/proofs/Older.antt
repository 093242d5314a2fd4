-- A history to which programs of an edition led is one that a program of a larger edition goes on from.
use Rattle.std.proofs.Common.{◌≡◌, inl, inr, ℕ, refl, sym, ap, subst, arith}
use Rattle.macs_config.specs.Config.{Edition, IsUpTo}
use Rattle.macs_disk.specs.States.{Image}
use Rattle.macs_store.specs.Standing.{Standing, new_standing}
use Rattle.macs_store.proofs.LargerEditions.{larger-finds, of-edition}
use Rattle.macs_endpoint.specs.Restart.{Fits, Restart, Resumes, opened_state}
use Rattle.macs_endpoint.specs.State.{Logs, State}
use Rattle.macs_headline.specs.Binding.{LargerFind, LargerGoOn}
use Rattle.macs_headline.specs.History.{Blank, FitsPast, Formatted, Past}
use Rattle.macs_headline.specs.Moments.{EditionsRise}

-- an edition is up to one that another is up to
up_through : (small mid large : Edition) → IsUpTo small mid → IsUpTo mid large → IsUpTo small large
up_through small mid large first second = record {
  channels = (let low = first.channels in let high = second.channels in omega (arith, low, high));
  long_keys = λ is. second.long_keys (first.long_keys is);
  format_two = λ is. second.format_two (first.format_two is);
}

module _ (small large : Edition) (up_to : IsUpTo small large) where
  resumes_larger : (old : State) (found : Standing) (logs : Logs) → found.edition ≡ small
      → Resumes old (opened_state found logs)
      → Resumes old (opened_state (record found { edition = large }) logs)
  resumes_larger old found logs is up = record {
    edition =
        up_through old.edition found.edition large up.edition (subst (λ (e : Edition). IsUpTo e large) (sym is) up_to);
    identity = up.identity;
    config = up.config;
    next = up.next;
    numbers = up.numbers;
    logs = up.logs;
    running = up.running;
    idle = up.idle;
    waiting = up.waiting;
    tickets = up.tickets;
  }

  restart_larger : (old : State) (found : Standing) (logs : Logs) → found.edition ≡ small
      → Restart old (opened_state found logs)
      → Restart old (opened_state (record found { edition = large }) logs)
  restart_larger old found logs is (inl up) = inl (resumes_larger old found logs is up)
  restart_larger old found logs is (inr (c, mid, hand, makes, up)) =
      inr (c, mid, hand, makes, resumes_larger mid found logs is up)

  -- an image that fits a state fits it in the larger edition
  pub larger-fits : (sectors : ℕ) (image : Image) (s : State) → Fits small sectors image s → Fits large sectors image s
  larger-fits sectors image s fits = record {
    found = record fits.found { edition = large };
    is_found = larger-finds small large up_to sectors image fits.found fits.is_found;
    restart = restart_larger s fits.found s.logs (of-edition small sectors image fits.found fits.is_found) fits.restart;
  }

  pub larger_past : (sectors : ℕ) (past : Past) (image : Image) → FitsPast small sectors past image
      → FitsPast large sectors past image
  larger_past sectors (Blank identities) image (inl none) = inl none
  larger_past sectors (Blank identities) image (inr (identity, among, new)) =
      inr (identity, among, larger-finds small large up_to sectors image (new_standing small identity) new)
  larger_past sectors (Formatted s) image fits = larger-fits sectors image s fits

-- ---- openings are of no smaller edition

by_restart : (s new : State) → Restart s new → IsUpTo s.edition new.edition
by_restart s new (inl up) = up.edition
by_restart s new (inr (c, mid, hand, makes, up)) =
    subst (λ (e : Edition). IsUpTo e new.edition) (ap (λ (s : State). s.edition) makes.2) up.edition

pub editions-rise : (sectors : ℕ) → EditionsRise sectors
editions-rise sectors s edition image fits =
    subst (IsUpTo s.edition) (of-edition edition sectors image fits.found fits.is_found)
    (by_restart s (opened_state fits.found s.logs) fits.restart)

-- ---- a history that goes on

pub older : LargerGoOn
older small large up_to disk lives h = record {
  honest = h.honest;
  past = h.past;
  history = h.history;
  images = λ image left. larger_past small large up_to disk.sectors h.past image (h.images image left);
}

-- what the larger edition finds in an image of such a disk
pub larger-find : LargerFind
larger-find small large up_to disk lives h image found left is = (
  record {
    lives = lives;
    history = h.history;
    edition = large;
    image = image;
    fits = larger_past small large up_to disk.sectors h.past image (h.images image left);
    is_found = is;
  },
  refl,
  refl,
  refl,
)
