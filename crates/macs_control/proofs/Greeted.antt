-- Newcomers that get places, one after another.
use Rattle.std.proofs.Common.{◌≡◌, ◌∙◌, ◌+◌, ◌-◌, ◌^◌, ◌<◌, ◌≤◌, ℕ, Bool, true, false, List, [], ◌∷◌, ◌++◌}
use Rattle.std.proofs.Common.{arith, refl, sym, ap, subst, length, Option, None, Some}
use Rattle.std.proofs.lemmas.List.{append-nil, append_assoc, length_push}
use Rattle.std.proofs.lemmas.Bool.Decides.{nat_tests}
use Rattle.std.specs.Prelude.{◌&&◌, nat_lt}
use Rattle.macs_control.proofs.StandingWords.{place-words}
use Rattle.macs_control.specs.Doors.{IsNobody, LetsIn, LetsInEach}
use Rattle.macs_control.specs.Newcomers.{AreNew, Greets, GreetsOne, IsNew, LeavesNobody, TakesIn, TakesInIf}
use Rattle.macs_control.specs.Newcomers.{connections_of, is_open}
use Rattle.macs_control.specs.Places.{last_of, places_of, seat_in, second_of}
use Rattle.macs_control.specs.Seats.{connection_of}
use Rattle.macs_control.specs.declared.place.Place.{Place}
use Rattle.macs_control.specs.declared.seats.Seats.{Seats}

module _ {S : Type 0} where
  -- ---- who is let in

  pub lets-none : (before : Option (List S)) → LetsInEach before [] before
  lets-none None = refl
  lets-none (Some waiting) = (waiting, refl, refl)

  lets-more : (before mid after : Option (List S)) (came : List S) (connection : S) → LetsInEach before came mid
      → LetsIn mid (Some connection) after → LetsInEach before (came ++ connection ∷ []) after
  lets-more None None after came connection lets next = next
  lets-more None (Some waiting) after came connection lets next = let e : Some waiting ≡ None = lets in cc
  lets-more (Some old) None after came connection (rest, is, now) next = let e : None ≡ Some rest = now in cc
  lets-more (Some old) (Some []) after came connection (rest, is, now) next =
      let e : Some connection ≡ None = next.0 in cc
  lets-more (Some old) (Some (first ∷ waiting)) after came connection (rest, is, now) next =
      let same : first ∷ waiting ≡ rest = let e : Some (first ∷ waiting) ≡ Some rest = now in cc in
      let its : connection ≡ first = let e : Some connection ≡ Some first = next.0 in cc in (
        waiting,
        is ∙ ap (λ (l : List S). came ++ l) (sym same)
            ∙ ap (λ (c : S). came ++ c ∷ waiting) (sym its)
            ∙ sym (append_assoc came (connection ∷ []) waiting),
        next.1,
      )

  -- nobody is let in where nobody waits
  lets-over : (before mid after : Option (List S)) (came : List S) → LetsInEach before came mid
      → LetsIn mid None after → LetsInEach before came after
  lets-over None None after came lets none = none
  lets-over None (Some waiting) after came lets none = let e : Some waiting ≡ None = lets in cc
  lets-over (Some old) None after came (rest, is, now) none = let e : None ≡ Some rest = now in cc
  lets-over (Some old) (Some []) after came (rest, is, now) none = (rest, is, none.1 ∙ now)
  lets-over (Some old) (Some (first ∷ waiting)) after came lets none = let e : None ≡ Some first = none.0 in cc

  pub nobody : (mid after : Option (List S)) → LetsIn mid None after → IsNobody after
  nobody None after none = subst IsNobody (sym none) tt
  nobody (Some []) after none = subst IsNobody (sym none.1) refl
  nobody (Some (first ∷ waiting)) after none = let e : None ≡ Some first = none.0 in cc

  -- ---- who gets a place

  new-more : (now number : ℕ) (places : List (Place S)) (place : Place S) → AreNew now number places
      → IsNew now (number + length places) place → AreNew now number (places ++ place ∷ [])
  new-more now number [] place are is =
      let P : ℕ → Type 0 = λ n. IsNew now n place in
      let e : number + 0 ≡ number = omega arith in (subst P e is, tt)
  new-more now number (first ∷ places) place are is =
      let P : ℕ → Type 0 = λ n. IsNew now n place in
      let e : number + length (first ∷ places) ≡ number + 1 + length places = omega arith in
      (are.0, new-more now (number + 1) places place are.1 (subst P e is))

  theirs-more : (places : List (Place S)) (place : Place S)
      → connections_of (places ++ place ∷ []) ≡ connections_of places ++ connection_of (seat_in place) ∷ []
  theirs-more [] place = refl
  theirs-more (first ∷ places) place =
      ap (λ (l : List S). connection_of (seat_in first) ∷ l) (theirs-more places place)

  pub greets-none : (before : Option (List S)) (seats : Seats S) → Greets before seats before seats
  greets-none before seats = record {
    newcomers = [];
    came = [];
    let_in = lets-none before;
    are_theirs = λ more. refl;
    are_new = tt;
    places = sym (append-nil (places_of seats));
    last = omega arith;
    second = refl;
  }

  -- where the newcomer stands
  last-place : (mid new : Seats S) (connection : S) → (t : TakesIn connection mid new) → length (places_of mid) < 4
      → places_of new ≡ places_of mid ++ t.place ∷ []
  last-place mid new connection t few =
      t.places ∙ ap (λ (l : List (Place S)). l ++ t.place ∷ []) (place-words.few (second_of mid) (places_of mid) few)

  one-more : (before : Option (List S)) (old : Seats S) (between : Option (List S)) (mid : Seats S)
      (after : Option (List S)) (new : Seats S) (connection : S)
      → Greets before old between mid → LetsIn between (Some connection) after → TakesIn connection mid new
      → length (places_of mid) < 4 → Greets before old after new
  one-more before old between mid after new connection h next t few =
      let P : ℕ → Type 0 = λ n. IsNew n (last_of mid + 1) t.place in
      let Q : ℕ → Type 0 = λ n. IsNew (second_of old) n t.place in
      let number : last_of mid + 1 ≡ last_of old + 1 + length h.newcomers = let before = h.last in omega arith in
      let pushed = length_push h.newcomers t.place in
      let numbered = h.last in
      let follows = t.last in record {
        newcomers = h.newcomers ++ t.place ∷ [];
        came = h.came ++ connection ∷ [];
        let_in = lets-more before between after h.came connection h.let_in next;
        are_theirs = λ more.
            let sooner : last_of mid < 2 ^ 64 - 1 = omega (arith, more, follows) in
            theirs-more h.newcomers t.place
            ∙ ap (λ (l : List S). l ++ connection_of (seat_in t.place) ∷ []) (h.are_theirs sooner)
            ∙ ap (λ (c : S). h.came ++ c ∷ []) t.is_its;
        are_new = new-more (second_of old) (last_of old + 1) h.newcomers t.place h.are_new
            (subst Q number (subst P h.second t.is_new));
        places = last-place mid new connection t few
            ∙ ap (λ (l : List (Place S)). l ++ t.place ∷ []) h.places
            ∙ append_assoc (places_of old) h.newcomers (t.place ∷ []);
        last = omega arith;
        second = t.second ∙ h.second;
      }

  -- without a number nobody gets a place
  unnumbered : (before : Option (List S)) (old : Seats S) (between : Option (List S)) (mid : Seats S)
      (after : Option (List S)) (new : Seats S) (connection : S)
      → Greets before old between mid → LetsIn between (Some connection) after → new ≡ mid
      → (last_of mid < 2 ^ 64 - 1 → ⊥) → Greets before old after new
  unnumbered before old between mid after new connection h next same spent =
      subst (λ (s : Seats S). Greets before old after s) (sym same) (record {
        newcomers = h.newcomers;
        came = h.came ++ connection ∷ [];
        let_in = lets-more before between after h.came connection h.let_in next;
        are_theirs = λ more. absurd (spent more);
        are_new = h.are_new;
        places = h.places;
        last = h.last;
        second = h.second;
      })

  -- a client is let in while fewer than four have places: it gets one if there is a number left
  is-open : (seats : Seats S) → length (places_of seats) < 4 → is_open seats ≡ nat_lt (last_of seats) (2 ^ 64 - 1)
  is-open seats few =
      ap (λ (b : Bool). b && nat_lt (last_of seats) (2 ^ 64 - 1))
      (place-words.free (second_of seats) (places_of seats) few)

  -- what is known after one more is greeted
  pub record GreetsMore (before : Option (List S)) (old mid : Seats S) (after : Option (List S)) (new : Seats S)
      : Type 0 where
    pub greets : Greets before old after new
    pub few : length (places_of new) ≤ length (places_of mid) + 1
    pub many : last_of new < 2 ^ 64 - 1 → length (places_of mid) + 1 ≤ length (places_of new)
    pub later : last_of mid ≤ last_of new

  module _ (before : Option (List S)) (old : Seats S) (between : Option (List S)) (mid : Seats S)
      (after : Option (List S)) (new : Seats S) (connection : S) (h : Greets before old between mid)
      (next : LetsIn between (Some connection) after) (few : length (places_of mid) < 4) where
    more-in : (is : Bool) → is ≡ nat_lt (last_of mid) (2 ^ 64 - 1) → TakesInIf is connection mid new
        → GreetsMore before old mid after new
    more-in true same t =
        let size = ap length (last-place mid new connection t few) ∙ length_push (places_of mid) t.place in
        let follows = t.last in record {
          greets = one-more before old between mid after new connection h next t few;
          few = omega (arith, size);
          many = λ more. omega (arith, size);
          later = omega (arith, follows);
        }
    more-in false is same =
        let spent : last_of mid < 2 ^ 64 - 1 → ⊥ = λ more. grind (arith, nat_tests) in
        let size = ap (λ (s : Seats S). length (places_of s)) same in
        let follows = ap last_of same in record {
          greets = unnumbered before old between mid after new connection h next same spent;
          few = omega (arith, size);
          many = λ more. absurd (spent (omega (arith, more, follows)));
          later = omega (arith, follows);
        }

  -- one more is greeted, and there is one place less
  pub greets-more : (before : Option (List S)) (old : Seats S) (between : Option (List S)) (mid : Seats S)
      (after : Option (List S)) (new : Seats S) → Greets before old between mid
      → GreetsOne between mid true after new → length (places_of mid) < 4 → GreetsMore before old mid after new
  greets-more before old between mid after new h (connection, next, taken) few =
      more-in before old between mid after new connection h next few (is_open mid) (is-open mid few) taken

  pub greets-over : (before : Option (List S)) (old : Seats S) (between : Option (List S)) (mid : Seats S)
      (after : Option (List S)) (new : Seats S) → Greets before old between mid
      → GreetsOne between mid false after new → Greets before old after new
  greets-over before old between mid after new h (none, same) =
      subst (λ (s : Seats S). Greets before old after s) (sym same) (record {
        newcomers = h.newcomers;
        came = h.came;
        let_in = lets-over before between after h.came h.let_in none;
        are_theirs = h.are_theirs;
        are_new = h.are_new;
        places = h.places;
        last = h.last;
        second = h.second;
      })

  -- nobody waits where nobody was let in
  pub leaves-nobody : (between : Option (List S)) (mid : Seats S) (after : Option (List S)) (new : Seats S)
      → GreetsOne between mid false after new → LeavesNobody after new
  leaves-nobody between mid after new one few more = nobody between after one.0
