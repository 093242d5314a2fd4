-- The numbers of each association stay in their order.
use Rattle.std.proofs.Common.{◌≡◌, ◌<◌, ◌≤◌, ◌+◌, ◌^◌, ◌==◌, ℕ, Bool, true, false, cond, List, bytes_eq, Option, Some}
use Rattle.std.proofs.Common.{None, IsSome, IfSome, inl, inr, refl, ap, sym, subst, arith}
use Rattle.std.specs.Prelude.{nat_lt}
use Rattle.std.specs.Option.{option_map}
use Rattle.std.proofs.lemmas.Slice.Eq.{bytes_eq-Decides}
use borrow.Author.Tests.{eqb-true, ltb-true}
use Rattle.macs_config.specs.Tables.{put, put_at}
use Rattle.macs_config.specs.declared.association.RxSa.{RxSa}
use Rattle.macs_config.specs.declared.command.Validate.{Validate}
use Rattle.macs_rxsc.specs.Receive.{AreOrdered, Arrival, InOrder, Numbers, Outcome, IsOutcome, RxSide, IsNumbered}
use Rattle.macs_rxsc.specs.Receive.{numbers_after_delivery, arrival_outcome, numbers_after_hold, put_numbers}
use Rattle.macs_rxsc.specs.Receive.{AreNumbered, first_numbers, numbers_under_window}

-- ---- numbers

-- every association is in order
abbrev pub AllOrdered : RxSide → (List ℕ → ℕ → Option ℕ) → Type 0
AllOrdered side ceilings = (sci : List ℕ) (an : ℕ) → AreOrdered side ceilings sci an

by_sci : (w : ℕ) (b : Bool) (sa sa' : Option RxSa) (n n' : Option Numbers) (c c' : Option ℕ)
    → (b ≡ true → IsNumbered w sa n c) → (b ≡ false → IsNumbered w sa' n' c')
    → IsNumbered w (cond b sa sa') (cond b n n') (cond b c c')
by_sci w true sa sa' n n' c c' then_it else_it = then_it refl
by_sci w false sa sa' n n' c c' then_it else_it = else_it refl

at_argument : (w : ℕ) (b : Bool) (sa sa' : ℕ → Option RxSa) (n n' : ℕ → Option Numbers) (c c' : ℕ → Option ℕ) (an : ℕ)
    → (b ≡ true → IsNumbered w (sa an) (n an) (c an)) → (b ≡ false → IsNumbered w (sa' an) (n' an) (c' an))
    → IsNumbered w ((cond b sa sa') an) ((cond b n n') an) ((cond b c c') an)
at_argument w true sa sa' n n' c c' an then_it else_it = then_it refl
at_argument w false sa sa' n n' c c' an then_it else_it = else_it refl

-- another association at one place
pub ordered-put : (side : RxSide) (ceilings : List ℕ → ℕ → Option ℕ) → AllOrdered side ceilings
    → (sci : List ℕ) (an : ℕ) (sa : Option RxSa) (n : Option Numbers) (c : Option ℕ)
    → IsNumbered side.replay.window sa n c
    → AllOrdered (record side {
      rx = put_at side.rx sci (put (side.rx sci) an sa);
      numbers =
          put_numbers side.numbers sci an n;
    }) (put_at ceilings sci (put (ceilings sci) an c))
ordered-put side ceilings old sci an sa n c new = λ s k.
    at_argument side.replay.window (bytes_eq s sci) (put (side.rx sci) an sa) (side.rx s) (put (side.numbers sci) an n)
    (side.numbers s) (put (ceilings sci) an c) (ceilings s) k
    (λ _. by_sci side.replay.window (k == an) sa (side.rx sci k) n (side.numbers sci k) c (ceilings sci k) (λ _. new)
    (λ _. old sci k))
    (λ _. old s k)

-- a channel goes
pub ordered-gone : (side : RxSide) (ceilings : List ℕ → ℕ → Option ℕ) → AllOrdered side ceilings
    → (sci : List ℕ) (channels : List (List ℕ))
    → AllOrdered (record side {
      channels = channels;
      rx = put_at side.rx sci (λ an. None);
      numbers =
          put_at side.numbers sci (λ an. None);
    }) (put_at ceilings sci (λ an. None))
ordered-gone side ceilings old sci channels = λ s k.
    at_argument side.replay.window (bytes_eq s sci) (λ an. None) (side.rx s) (λ an. None) (side.numbers s) (λ an. None)
    (ceilings s) k (λ _. tt) (λ _. old s k)

-- what is at one place, at a place with the same SCI and number
same_place : (f : List ℕ → ℕ → Type 0) (s sci : List ℕ) (k an : ℕ) → bytes_eq s sci ≡ true → (k == an) ≡ true
    → f sci an → f s k
same_place f s sci k an same_sci same_an there =
    let p : sci ≡ s = sym ((bytes_eq-Decides s sci).0 same_sci) in
    let q : an ≡ k = sym (eqb-true k an same_an) in
    subst (λ (x : ℕ). f s x) q (subst (λ (x : List ℕ). f x an) p there)

at_number : (f : Option ℕ → Type 0) (b : Bool) (x y : Option ℕ) → (b ≡ true → f x) → (b ≡ false → f y) → f (cond b x y)
at_number f true x y then_it else_it = then_it refl
at_number f false x y then_it else_it = else_it refl

at_number_of : (f : Option ℕ → Type 0) (b : Bool) (g h : ℕ → Option ℕ) (k : ℕ) → (b ≡ true → f (g k))
    → (b ≡ false → f (h k)) → f ((cond b g h) k)
at_number_of f true g h k then_it else_it = then_it refl
at_number_of f false g h k then_it else_it = else_it refl

-- a ceiling rises
raised_stands : (w : ℕ) (sa : Option RxSa) (n : Option Numbers) (c : Option ℕ) (ceiling : ℕ) → IsNumbered w sa n c
    → IsSome sa → IfSome c (λ old. old ≤ ceiling) → ceiling ≤ 2 ^ 32
    → IsNumbered w sa n (Some ceiling)
raised_stands w None n c ceiling old some higher bounded = absurd (cc)
raised_stands w (Some sa) None None ceiling old some higher bounded = absurd old
raised_stands w (Some sa) None (Some c) ceiling old some higher bounded = absurd old
raised_stands w (Some sa) (Some n) None ceiling old some higher bounded = absurd old
raised_stands w (Some sa) (Some n) (Some c) ceiling old some higher bounded =
    let below : n.next ≤ ceiling = let o = old.below in omega arith in
    record { numbered = old.numbered; windowed = old.windowed; ordered = old.ordered; below = below; bounded = bounded }

pub ordered-raised : (side : RxSide) (ceilings : List ℕ → ℕ → Option ℕ) → AllOrdered side ceilings
    → (sci : List ℕ) (an ceiling : ℕ)
    → IsSome (side.rx sci an) → IfSome (ceilings sci an) (λ old. old ≤ ceiling) → ceiling ≤ 2 ^ 32
    → AllOrdered side (put_at ceilings sci (put (ceilings sci) an (Some ceiling)))
ordered-raised side ceilings old sci an ceiling some higher bounded = λ s k.
    let new = raised_stands side.replay.window (side.rx sci an) (side.numbers sci an) (ceilings sci an) ceiling
    (old sci an) some higher bounded in
    at_number_of (λ c. IsNumbered side.replay.window (side.rx s k) (side.numbers s k) c) (bytes_eq s sci)
    (put (ceilings sci) an (Some ceiling)) (ceilings s) k
    (λ same. at_number (λ c. IsNumbered side.replay.window (side.rx s k) (side.numbers s k) c) (k == an) (Some ceiling)
    (ceilings sci k)
    (λ here. same_place (λ x y. IsNumbered side.replay.window (side.rx x y) (side.numbers x y) (Some ceiling)) s sci k
    an same here new)
    (λ _. let is : s ≡ sci = (bytes_eq-Decides s sci).0 same in
    subst (λ (x : List ℕ). IsNumbered side.replay.window (side.rx x k) (side.numbers x k) (ceilings sci k)) (sym is)
    (old sci k)))
    (λ _. old s k)

-- the window changes
windowed_stands : (w window : ℕ) (sa : Option RxSa) (n : Option Numbers) (c : Option ℕ) → IsNumbered w sa n c
    → IsNumbered window sa (option_map (numbers_under_window window) n) c
windowed_stands w window None None None old = tt
windowed_stands w window None None (Some c) old = absurd old
windowed_stands w window None (Some n) None old = absurd old
windowed_stands w window None (Some n) (Some c) old = absurd old
windowed_stands w window (Some sa) None None old = absurd old
windowed_stands w window (Some sa) None (Some c) old = absurd old
windowed_stands w window (Some sa) (Some n) None old = absurd old
windowed_stands w window (Some sa) (Some n) (Some c) old =
    let o1 : 1 ≤ n.lowest = old.numbered in
    let o2 : n.lowest ≤ n.next = old.ordered in
    record {
      numbered = omega arith;
      windowed = omega arith;
      ordered = omega arith;
      below = old.below;
      bounded =
          old.bounded;
    }

pub ordered-windowed : (side : RxSide) (ceilings : List ℕ → ℕ → Option ℕ) → AllOrdered side ceilings
    → (validate : Validate) (on : Bool) (window : ℕ)
    → AllOrdered (record side {
      validate = validate;
      replay = record { on = on; window = window };
      numbers =
          λ sci an. option_map (numbers_under_window window) (side.numbers sci an);
    }) ceilings
ordered-windowed side ceilings old validate on window = λ s k.
    windowed_stands side.replay.window window (side.rx s k) (side.numbers s k) (ceilings s k) (old s k)

-- an association is installed
pub started_stands : (w : ℕ) (sa : RxSa) (start ceiling : ℕ) → 1 ≤ start → start ≤ ceiling → ceiling ≤ 2 ^ 32
    → IsNumbered w (Some sa) (Some (first_numbers start)) (Some ceiling)
started_stands w sa start ceiling numbered below bounded =
    record { numbered = numbered; windowed = omega arith; ordered = omega arith; below = below; bounded = bounded }

-- a frame arrives
advanced_stands : (w : ℕ) (sa : Option RxSa) (n : Numbers) (c pn : ℕ) → IsNumbered w sa (Some n) (Some c) → pn < c
    → IsNumbered w sa (Some (numbers_after_delivery w n pn)) (Some c)
advanced_stands w None n c pn old below = absurd old
advanced_stands w (Some sa) n c pn old below =
    let o1 : 1 ≤ n.lowest = old.numbered in
    let o2 : n.lowest ≤ n.next = old.ordered in
    let o3 : n.next ≤ c = old.below in
    record {
      numbered = omega arith;
      windowed = omega arith;
      ordered = omega arith;
      below = omega arith;
      bounded =
          old.bounded;
    }

held_stands : (w : ℕ) (sa : Option RxSa) (n : Numbers) (c : Option ℕ) (pn : ℕ) → IsNumbered w sa (Some n) c
    → IsNumbered w sa (Some (numbers_after_hold n pn)) c
held_stands w None n None pn old = absurd old
held_stands w None n (Some c) pn old = absurd old
held_stands w (Some sa) n None pn old = absurd old
held_stands w (Some sa) n (Some c) pn old =
    record {
      numbered = old.numbered;
      windowed = old.windowed;
      ordered = old.ordered;
      below = old.below;
      bounded =
          old.bounded;
    }

at_numbers_of : (f : Option Numbers → Type 0) (b : Bool) (g h : ℕ → Option Numbers) (k : ℕ) → (b ≡ true → f (g k))
    → (b ≡ false → f (h k)) → f ((cond b g h) k)
at_numbers_of f true g h k then_it else_it = then_it refl
at_numbers_of f false g h k then_it else_it = else_it refl

at_numbers : (f : Option Numbers → Type 0) (b : Bool) (x y : Option Numbers) → (b ≡ true → f x) → (b ≡ false → f y)
    → f (cond b x y)
at_numbers f true x y then_it else_it = then_it refl
at_numbers f false x y then_it else_it = else_it refl

-- the numbers at one place change
pub ordered-numbers : (side : RxSide) (ceilings : List ℕ → ℕ → Option ℕ) → AllOrdered side ceilings
    → (sci : List ℕ) (an : ℕ) (n : Option Numbers)
    → IsNumbered side.replay.window (side.rx sci an) n (ceilings sci an)
    → AllOrdered (record side { numbers = put_numbers side.numbers sci an n }) ceilings
ordered-numbers side ceilings old sci an n new = λ s k.
    at_numbers_of (λ m. IsNumbered side.replay.window (side.rx s k) m (ceilings s k)) (bytes_eq s sci)
    (put (side.numbers sci) an n) (side.numbers s) k
    (λ same.
    at_numbers (λ m. IsNumbered side.replay.window (side.rx s k) m (ceilings s k)) (k == an) n (side.numbers sci k)
    (λ here. same_place (λ x y. IsNumbered side.replay.window (side.rx x y) n (ceilings x y)) s sci k an same here new)
    (λ _. let is : s ≡ sci = (bytes_eq-Decides s sci).0 same in
    subst (λ (x : List ℕ). IsNumbered side.replay.window (side.rx x k) (side.numbers sci k) (ceilings x k)) (sym is)
    (old sci k)))
    (λ _. old s k)

by_ceiling : (side : RxSide) (ceilings : List ℕ → ℕ → Option ℕ) → AllOrdered side ceilings → (a : Arrival)
    → IsNumbered side.replay.window (side.rx a.sci a.an) (Some a.numbers) (ceilings a.sci a.an)
    → (c : ℕ) → ceilings a.sci a.an ≡ Some c → (b : Bool) → nat_lt a.pn c ≡ b
    → AllOrdered (record side { numbers = (arrival_outcome side ceilings a).numbers }) ceilings
by_ceiling side ceilings old a here c is true lt =
    let stands : IsNumbered side.replay.window (side.rx a.sci a.an)
    (Some (numbers_after_delivery side.replay.window a.numbers a.pn)) (ceilings a.sci a.an) =
    subst (λ (x : Option ℕ). IsNumbered side.replay.window (side.rx a.sci a.an)
    (Some (numbers_after_delivery side.replay.window a.numbers a.pn)) x) (sym is)
    (advanced_stands side.replay.window (side.rx a.sci a.an) a.numbers c a.pn
    (subst (λ (x : Option ℕ). IsNumbered side.replay.window (side.rx a.sci a.an) (Some a.numbers) x) is here)
    (ltb-true a.pn c lt)) in
    rw (is, lt) (ordered-numbers side ceilings old a.sci a.an
    (Some (numbers_after_delivery side.replay.window a.numbers a.pn)) stands)
by_ceiling side ceilings old a here c is false lt =
    rw (is, lt) (ordered-numbers side ceilings old a.sci a.an (Some (numbers_after_hold a.numbers a.pn))
    (held_stands side.replay.window (side.rx a.sci a.an) a.numbers (ceilings a.sci a.an) a.pn here))

arrived_ordered : (side : RxSide) (ceilings : List ℕ → ℕ → Option ℕ) → AllOrdered side ceilings → (a : Arrival)
    → IsNumbered side.replay.window (side.rx a.sci a.an) (Some a.numbers) (ceilings a.sci a.an)
    → (c : Option ℕ) → ceilings a.sci a.an ≡ c
    → AllOrdered (record side { numbers = (arrival_outcome side ceilings a).numbers }) ceilings
arrived_ordered side ceilings old a here None is =
    rw is (ordered-numbers side ceilings old a.sci a.an (Some (numbers_after_hold a.numbers a.pn))
    (held_stands side.replay.window (side.rx a.sci a.an) a.numbers (ceilings a.sci a.an) a.pn here))
arrived_ordered side ceilings old a here (Some c) is = by_ceiling side ceilings old a here c is (nat_lt a.pn c) refl

pub ordered-received : (side : RxSide) (ceilings : List ℕ → ℕ → Option ℕ) (frame : List ℕ) (o : Outcome)
    → AllOrdered side ceilings → IsOutcome side ceilings frame o
    → AllOrdered (record side { numbers = o.numbers }) ceilings
ordered-received side ceilings frame o old (inl settled) =
    subst (λ (numbers : List ℕ → ℕ → Option Numbers). AllOrdered (record side { numbers = numbers }) ceilings)
    (sym (ap (λ (x : Outcome). x.numbers) settled.2)) old
ordered-received side ceilings frame o old (inr arrives) =
    let a = arrives.0 in
    let here : IsNumbered side.replay.window (side.rx a.sci a.an) (Some a.numbers) (ceilings a.sci a.an) =
    subst (λ n. IsNumbered side.replay.window (side.rx a.sci a.an) n (ceilings a.sci a.an)) arrives.1.are_numbers
    (old a.sci a.an) in
    subst (λ (numbers : List ℕ → ℕ → Option Numbers). AllOrdered (record side { numbers = numbers }) ceilings)
    (sym (ap (λ (x : Outcome). x.numbers) arrives.2))
    (arrived_ordered side ceilings old a here (ceilings a.sci a.an) refl)

-- ---- what their order is

numbered : (window : ℕ) (sa : Option RxSa) (n : Option Numbers) (c : Option ℕ) (numbers : Numbers) (ceiling : ℕ)
    → IsNumbered window sa n c → n ≡ Some numbers → c ≡ Some ceiling → InOrder window numbers ceiling
numbered window (Some sa) (Some n) (Some c) numbers ceiling is has_numbers has_ceiling =
    let same : n ≡ numbers = cc in
    let high : c ≡ ceiling = cc in
    subst (λ (x : Numbers). InOrder window x ceiling) same (subst (λ (x : ℕ). InOrder window n x) high is)
numbered window (Some sa) (Some n) None numbers ceiling is has_numbers has_ceiling = absurd is
numbered window (Some sa) None c numbers ceiling is has_numbers has_ceiling = absurd is
numbered window None (Some n) c numbers ceiling is has_numbers has_ceiling = absurd is
numbered window None None (Some c) numbers ceiling is has_numbers has_ceiling = absurd is
numbered window None None None numbers ceiling is has_numbers has_ceiling = cc

pub in-order : (window : ℕ) (sa : Option RxSa) (n : Option Numbers) (c : Option ℕ) (numbers : Numbers) (ceiling : ℕ)
    → IsNumbered window sa n c → n ≡ Some numbers → c ≡ Some ceiling
    → (1 ≤ numbers.lowest) × (numbers.next ≤ numbers.lowest + window) × (numbers.lowest ≤ numbers.next)
    × (numbers.next ≤ ceiling) × (ceiling ≤ 2 ^ 32)
in-order window sa n c numbers ceiling is has_numbers has_ceiling =
    let i = numbered window sa n c numbers ceiling is has_numbers has_ceiling in
    let within = i.windowed in
    (i.numbered, omega (arith, within), i.ordered, i.below, i.bounded)

-- what is in its order has its numbers, where it is there
has_numbers : (window : ℕ) (sa : Option RxSa) (n : Option Numbers) (c : Option ℕ) → IsNumbered window sa n c
    → IsSome sa → IsSome n
has_numbers window (Some sa) (Some n) c is some = refl
has_numbers window (Some sa) None c is some = absurd is
has_numbers window None n c is some = absurd (cc)

pub all-numbered : (side : RxSide) (ceilings : List ℕ → ℕ → Option ℕ) → AllOrdered side ceilings → AreNumbered side
all-numbered side ceilings ordered sci an some =
    has_numbers side.replay.window (side.rx sci an) (side.numbers sci an) (ceilings sci an) (ordered sci an) some
