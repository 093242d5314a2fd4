-- The images of the example fit the states that its lives end in.
use Rattle.std.proofs.Common.{◌≡◌, ◌==◌, inl, inr, ℕ, Bool, true, false, cond, List, refl, sym, ◌∙◌, ap, subst, arith}
use Rattle.std.specs.Prelude.{Option, Some, None}
use Rattle.std.specs.Option.{option_map}
use Rattle.macs_config.specs.Config.{this_edition}
use Rattle.macs_disk.specs.States.{Image}
use Rattle.macs_journal.specs.Appending.{HasEitherJournal}
use Rattle.macs_rxsc.specs.Receive.{Numbers, first_numbers, numbers_after_delivery, numbers_under_window}
use Rattle.macs_store.specs.Standing.{no_ceilings}
use Rattle.macs_endpoint.specs.Restart.{Fits, RxRises, TxRises}
use Rattle.macs_headline.specs.Example.{check_only, example_identity, example_sectors, peer_sci, widen}
use Rattle.macs_headline.specs.Example.{checked_standing, full_standing, last_standing, served_config}
use Rattle.macs_headline.specs.ExampleDisk.{cut_image, ended_content, last_content, last_image, new_image, served_image}
use Rattle.macs_headline.specs.History.{formatted_state}
use Rattle.macs_headline.proofs.ExampleImages.{checked-is, cut-is, last-found, last-is, new-is, served-is}
use Rattle.macs_headline.proofs.ExampleImages.{served_standing}
use Rattle.macs_headline.proofs.ExampleStates.{after_delay, after_delivery, after_hold, before_frame, first_end}
use Rattle.macs_headline.proofs.ExampleStates.{first_followed, fourth_end, fourth_followed, s0, s12, s13, s14}
use Rattle.macs_headline.proofs.ExampleStates.{second_end, t0, t2, third_end, u0, v0}
use Rattle.macs_headline.proofs.Formats.{new-fits, resumed, up-to-itself}
use Rattle.macs_headline.proofs.Places.{cases_place, put_rx, put_rx-that}

pub fits-new : Fits this_edition example_sectors new_image (formatted_state this_edition example_identity)
fits-new = new-fits example_sectors new_image example_identity new-is

-- ---- associations that are not the example's

-- no numbers stay none
rx_none : (old new : Option Numbers) → old ≡ None → new ≡ None → RxRises 4 old new
rx_none old new is js = subst (λ (o : Option Numbers). RxRises 4 o new) (sym is) js

pub away : {X : Type 0} (f : List ℕ → ℕ → Option X) (x : Option X) (sci : List ℕ) (an : ℕ)
    → (sci ≡ peer_sci → an ≡ 0 → ⊥) → put_rx f peer_sci 0 x sci an ≡ f sci an
away f x sci an apart = put_rx-that f peer_sci 0 sci an x apart

-- what holds of the peer's association, and of those that have no numbers, holds of all
pub rx_all : (old new : List ℕ → ℕ → Option Numbers) → RxRises 4 (old peer_sci 0) (new peer_sci 0)
    → ((sci : List ℕ) (an : ℕ) → (sci ≡ peer_sci → an ≡ 0 → ⊥) → (old sci an ≡ None) × (new sci an ≡ None))
    → (sci : List ℕ) (an : ℕ) → RxRises 4 (old sci an) (new sci an)
rx_all old new here none sci an = elim (cases_place sci an peer_sci 0) [
  | inl same ↦
      subst (λ (sci : List ℕ). RxRises 4 (old sci an) (new sci an)) (sym same.0)
      (subst (λ (an : ℕ). RxRises 4 (old peer_sci an) (new peer_sci an)) (sym same.1) here)
  | inr apart ↦ let both = none sci an apart in rx_none (old sci an) (new sci an) both.0 both.1
]

-- ---- after the first life

tx_first : (own : Bool)
    → TxRises 4 (cond own (Some 7) (cond own (Some 6)
    (cond own (Some 5) (cond own (Some 4) (cond own (Some 3) (cond own (Some 2) (cond own (Some 1) None)))))))
    (cond own (Some 9) (cond own (Some 5) None))
tx_first true = (9, refl, omega arith, omega arith, omega arith)
tx_first false = refl

-- the command under way was followed
pub fits-served : Fits this_edition example_sectors served_image first_end
fits-served = record {
  found = served_standing;
  is_found = served-is;
  restart = inr (
    widen,
    first_followed,
    refl,
    (served_config, refl, refl),
    resumed first_followed served_standing (up-to-itself this_edition) refl refl (λ an. tx_first (an == 0))
        (rx_all first_followed.numbers t0.numbers (9, refl, omega arith, omega arith) (λ sci an apart. (
          ap (option_map (numbers_under_window 3))
              (away s14.numbers (Some (numbers_after_delivery 1 after_delivery 5)) sci an apart
              ∙ away s13.numbers (Some after_delivery) sci an apart
              ∙ away s12.numbers (Some after_hold) sci an apart
              ∙ ap (option_map (numbers_under_window 1)) (away s0.numbers (Some before_frame) sci an apart)),
          ap (option_map first_numbers) (away (put_rx no_ceilings.rx peer_sci 0 (Some 1)) (Some 9) sci an apart
              ∙ away no_ceilings.rx (Some 1) sci an apart),
        ))),
  );
}

-- ---- after the second life

pub tx_second : (own : Bool)
    → TxRises 4 (cond own (Some 10) (cond own (Some 9) (cond own (Some 5) None))) (cond own (Some 13) None)
tx_second true = (13, refl, omega arith, omega arith, omega arith)
tx_second false = refl

-- the command under way was not
pub fits-cut : Fits this_edition example_sectors (cut_image 2) second_end
fits-cut = record {
  found = full_standing;
  is_found = cut-is;
  restart = inl (resumed second_end full_standing (up-to-itself this_edition) refl refl (λ an. tx_second (an == 0))
      (rx_all second_end.numbers u0.numbers (9, refl, omega arith, omega arith) (λ sci an apart. (
        ap (option_map (numbers_under_window 3))
            (away t2.numbers (Some after_delay) sci an apart
            ∙ ap (option_map (numbers_under_window 3)) (ap (option_map first_numbers)
            (away (put_rx no_ceilings.rx peer_sci 0 (Some 1)) (Some 9) sci an apart
            ∙ away no_ceilings.rx (Some 1) sci an apart))),
        ap (option_map first_numbers) (away no_ceilings.rx (Some 9) sci an apart),
      ))));
}

-- ---- after the third life

tx_third : (own : Bool) → TxRises 4 (cond own (Some 14) (cond own (Some 13) None)) (cond own (Some 17) None)
tx_third true = (17, refl, omega arith, omega arith, omega arith)
tx_third false = refl

-- nor was it here, where the device failed
pub fits-last : Fits this_edition example_sectors last_image third_end
fits-last = record {
  found = last_standing this_edition;
  is_found = last-is last_image last-found;
  restart = inl
      (resumed third_end (last_standing this_edition) (up-to-itself this_edition) refl refl (λ an. tx_third (an == 0))
      (rx_all third_end.numbers v0.numbers refl (λ sci an apart. (
        away u0.numbers None sci an apart ∙ ap (option_map first_numbers) (away no_ceilings.rx (Some 9) sci an apart),
        refl,
      ))));
}

-- ---- after the fourth life

tx_fourth : (own : Bool) → TxRises 4 (cond own (Some 17) None) (cond own (Some 17) None)
tx_fourth true = (17, refl, omega arith, omega arith, omega arith)
tx_fourth false = refl

-- whether its gate counts or not
pub fits-killed : (image : Image) → HasEitherJournal last_content ended_content image
    → Fits this_edition example_sectors image fourth_end
fits-killed image (inl found) = record {
  found = last_standing this_edition;
  is_found = last-is image found;
  restart = inl
      (resumed fourth_end (last_standing this_edition) (up-to-itself this_edition) refl refl (λ an. tx_fourth (an == 0))
      (λ sci an. refl));
}
fits-killed image (inr found) = record {
  found = checked_standing this_edition;
  is_found = checked-is image found;
  restart = inr (
    check_only,
    fourth_followed,
    refl,
    ((checked_standing this_edition).config, refl, refl),
    resumed fourth_followed (checked_standing this_edition) (up-to-itself this_edition) refl refl
        (λ an. tx_fourth (an == 0))
        (λ sci an. refl),
  );
}
