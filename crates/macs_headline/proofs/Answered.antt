-- What was answered in all lives was answered at moments of them, and the logs hold it.
use Rattle.std.proofs.Common.{◌≡◌, ◌++◌, inl, inr, ℕ, List, [], ◌∷◌, Option, None, Ok, refl, sym, ◌∙◌, ap, subst}
use Rattle.std.proofs.Common.{append_assoc}
use Rattle.std.specs.Prelude.{Contains}
use Rattle.std.specs.List.{AllByRecursion}
use Rattle.std.proofs.lemmas.List.Elements.{Contains-append_right, Contains-append_cases}
use Rattle.macs_frame.specs.Tag.{tag_of}
use Rattle.macs_config.specs.Config.{Edition}
use Rattle.macs_disk.specs.States.{Image}
use Rattle.macs_rxsc.specs.declared.verdict.Kind.{Kind}
use Rattle.macs_rxsc.specs.declared.verdict.Kind.TheVariants.{Ok as AsOk}
use Rattle.macs_rxsc.specs.declared.verdict.Verdict.TheVariants.{Delivered}
use Rattle.macs_endpoint.specs.Calls.{IsInRange}
use Rattle.macs_endpoint.specs.Restart.{opened_state}
use Rattle.macs_endpoint.specs.State.{Call, Delivery, Logs, Protects, Protected, Received, Receives, State, Use}
use Rattle.macs_endpoint.specs.Step.{Exchange, Step, Steps}
use Rattle.macs_headline.specs.Answered.{AnswersAreHeld, MomentsAreHistories, WasAnswered, exchanges_in}
use Rattle.macs_headline.specs.Answered.{exchanges_of_lives, lives_at}
use Rattle.macs_headline.specs.Deliveries.{DeliveredBelow, GivenOnce, IsVerifiedDelivery, IsVerifiedKind, NeverOkAgain}
use Rattle.macs_headline.specs.Deliveries.{delivering}
use Rattle.macs_headline.specs.Frames.{WrittenBelow, WrittenOnce, writing}
use Rattle.macs_headline.specs.History.{Blank, Formats, Formatted, IsHistory, IsLifeSoFar, LeadOn, Leads, Life, Past}
use Rattle.macs_headline.specs.History.{Refuses, Serves, logs_of}
use Rattle.macs_headline.specs.Moments.{Moment, WasGiven}
use Rattle.macs_headline.specs.Numbers.{AreHeldIn, HasNoneTwice}
use Rattle.macs_headline.proofs.Chains.{lead-on}
use Rattle.macs_headline.proofs.Deliveries.{delivered}
use Rattle.macs_headline.proofs.Effects.{core, effect-of}
use Rattle.macs_headline.proofs.Histories.{sound-moment}
use Rattle.macs_headline.proofs.Lists.{all-on, contains-cases, contains-first}
use Rattle.macs_headline.proofs.Lists.{contains-none, not-twice}
use Rattle.macs_headline.proofs.Logs.{held-on, logs_in, nothing-forgotten, steps-hold}
use Rattle.macs_headline.proofs.Numbers.{given-apart, given-below, ok-apart, used-below}
use Rattle.macs_headline.proofs.Ranges.{frames-are-standard}
use Rattle.macs_headline.proofs.Sound.{end-core, sound-effect}

-- ---- a life so far

steps_on : (old : State) (exchanges : List Exchange) (mid : State) (e : Exchange) (new : State)
    → Steps old exchanges mid → Step mid e.call e.reply new
    → Steps old (exchanges ++ e ∷ []) new
steps_on old [] mid e new same step = (new, subst (λ (s : State). Step s e.call e.reply new) same step, refl)
steps_on old (first ∷ exchanges) mid e new steps step =
    (steps.0, steps.1, steps_on steps.0 exchanges mid e new steps.2 step)

module _ (sectors : ℕ) (past : Past) (edition : Edition) (image : Image) where
  -- one call more
  pub life-on : (exchanges : List Exchange) (old : State) (e : Exchange) (new : State)
      → IsLifeSoFar sectors past edition image exchanges old → IsInRange e.call
      → Step old e.call e.reply new → IsLifeSoFar sectors past edition image (exchanges ++ e ∷ []) new
  life-on exchanges old e new life in_range step = record {
    fits = life.fits;
    found = life.found;
    is_found = life.is_found;
    in_range = all-on (λ (e : Exchange). IsInRange e.call) exchanges e life.in_range in_range;
    steps = steps_on (opened_state life.found (logs_of past)) exchanges old e new life.steps step;
  }

  -- none yet
  pub life-begun : (exchanges : List Exchange) (s : State) (life : IsLifeSoFar sectors past edition image exchanges s)
      → IsLifeSoFar sectors past edition image [] (opened_state life.found (logs_of past))
  life-begun exchanges s life =
      record { fits = life.fits; found = life.found; is_found = life.is_found; in_range = tt; steps = refl }

-- one life more
pub history-on : (sectors : ℕ) (before : List Life) (old : Past) (life : Life) (new : Past)
    → IsHistory sectors before old → Leads sectors old life new
    → IsHistory sectors (before ++ life ∷ []) new
history-on sectors before old life new history leads =
    lead-on sectors before (life ∷ []) (Blank []) old new history (new, leads, refl)

-- a call of one of these lives, and then the next one
pub one-on : (before : List Life) (edition : Edition) (image : Image) (done : List Exchange) (e : Exchange)
    (rest : List Exchange) (cut : Option Call) (later lives : List Life)
    → before ++ Serves edition image (done ++ e ∷ rest) cut ∷ later ≡ lives
    → before ++ Serves edition image ((done ++ e ∷ []) ++ rest) cut ∷ later ≡ lives
one-on before edition image done e rest cut later lives there =
    ap (λ (exchanges : List Exchange). before ++ Serves edition image exchanges cut ∷ later)
    (append_assoc done (e ∷ []) rest) ∙ there

-- ---- one answer

module _ (sectors : ℕ) (lives : List Life) (x : Exchange) (whole : Contains (exchanges_of_lives lives) x) where
  abbrev pub held-later : (old new : Logs) → AreHeldIn old new → WasAnswered sectors lives x old
      → WasAnswered sectors lives x new
  held-later old new more was = record {
    among = was.among;
    at = was.at;
    moment = was.moment;
    rest = was.rest;
    cut = was.cut;
    later = was.later;
    there = was.there;
    after = was.after;
    step = was.step;
    held = held-on was.after.logs old new was.held more;
  }

  -- in one of these lives, with those before it and after it
  module _ (before : List Life) (past : Past) (history : IsHistory sectors before past) (edition : Edition)
      (image : Image) (cut : Option Call)
      (later : List Life) where
    by_steps : (done : List Exchange) (old : State) → IsLifeSoFar sectors past edition image done old
        → (exchanges : List Exchange) (new : State)
        → Steps old exchanges new → AllByRecursion (λ (e : Exchange). IsInRange e.call) exchanges
        → before ++ Serves edition image (done ++ exchanges) cut ∷ later ≡ lives → Contains exchanges x
        → WasAnswered sectors lives x new.logs
    by_steps done old life [] new steps in_range there among = absurd (contains-none _ among)
    by_steps done old life (e ∷ exchanges) new steps in_range there among = elim (contains-cases e exchanges x among) [
      | inl here ↦ record {
        among = whole;
        at = old;
        moment = record {
          lives = before;
          past = past;
          history = history;
          edition = edition;
          image = image;
          exchanges =
              done;
          life = life;
        };
        rest = exchanges;
        cut = cut;
        later = later;
        there = subst (λ (e : Exchange). before ++ Serves edition image (done ++ e ∷ exchanges) cut ∷ later ≡ lives)
            (sym here) there;
        after = steps.0;
        step = subst (λ (e : Exchange). Step old e.call e.reply steps.0) (sym here) steps.1;
        held = steps-hold steps.0 exchanges new steps.2;
      }
      | inr more ↦
          by_steps (done ++ e ∷ []) steps.0 (life-on sectors past edition image done old e steps.0 life in_range.0
          steps.1) exchanges new steps.2 in_range.1
          (one-on before edition image done e exchanges cut later lives there) more
    ]

  by_life : (before : List Life) (old : Past) → IsHistory sectors before old → (life : Life) (new : Past)
      → Leads sectors old life new → (later : List Life)
      → before ++ life ∷ later ≡ lives → Contains (exchanges_in life) x → WasAnswered sectors lives x (logs_of new)
  by_life before old history (Formats edition identity is_ok) new h later there among = absurd (contains-none _ among)
  by_life before old history (Refuses edition image fault) new h later there among = absurd (contains-none _ among)
  by_life before old history (Serves edition image exchanges cut) new (last, life, cut_in_range, is) later there among =
      subst (WasAnswered sectors lives x) (sym (ap logs_of is ∙ ap logs_in (end-core last cut)))
      (by_steps before old history edition image cut later [] (opened_state life.found (logs_of old))
      (life-begun sectors old edition image exchanges last life)
      exchanges last life.steps life.in_range there among)

  -- in all of them
  by_lives : (before : List Life) (old : Past) → IsHistory sectors before old → (more : List Life) (new : Past)
      → LeadOn sectors old more new
      → before ++ more ≡ lives → Contains (exchanges_of_lives more) x → WasAnswered sectors lives x (logs_of new)
  by_lives before old history [] new h there among = absurd (contains-none _ among)
  by_lives before old history (life ∷ more) new h there among =
      elim (Contains-append_cases (exchanges_in life) (exchanges_of_lives more) x among) [
        | inl here ↦ held-later (logs_of h.0) (logs_of new) (nothing-forgotten sectors h.0 new more h.2)
            (by_life before old history life h.0 h.1 more there here)
        | inr later ↦ by_lives (before ++ life ∷ []) h.0 (history-on sectors before old life h.0 history h.1)
            more new h.2
            (append_assoc before (life ∷ []) more ∙ there) later
      ]

pub answers-are-held : (sectors : ℕ) → AnswersAreHeld sectors
answers-are-held sectors lives past history e among =
    by_lives sectors lives e among [] (Blank []) refl lives past history refl among

pub moments-are-histories : (sectors : ℕ) → MomentsAreHistories sectors
moments-are-histories sectors s m =
    history-on sectors m.lives m.past (Serves m.edition m.image m.exchanges None) (Formatted s) m.history
    (s, m.life, tt, refl)

-- at a moment
answered-at : (sectors : ℕ) (s : State) (m : Moment sectors s) (e : Exchange)
    → Contains (exchanges_of_lives (lives_at m)) e → WasAnswered sectors (lives_at m) e s.logs
answered-at sectors s m e among =
    answers-are-held sectors (lives_at m) (Formatted s) (moments-are-histories sectors s m) e among

-- ---- deliveries

abbrev delivery_of : (s : State) (frame : List ℕ) (kind : Kind) (out : List ℕ) (new : State)
    → IsVerifiedDelivery s frame kind out new → Delivery
delivery_of s frame kind out new d = record { sci = d.sci; key = d.sa.key; pn = (tag_of frame).pn; kind = kind }

pub given_held : (old new : Logs) (d : Delivery) (rest : List Delivery) → AreHeldIn old new → old.given ≡ d ∷ rest
    → Contains new.given d
given_held old new d rest held joins =
    subst (λ (given : List Delivery). Contains given d) held.given
    (Contains-append_right held.given_since old.given d
    (subst (λ (given : List Delivery). Contains given d) (sym joins) (contains-first d rest)))

module _ (sectors : ℕ) (lives : List Life) (logs : Logs) (frame : List ℕ) (kind : Kind) (out : List ℕ)
    (verified : IsVerifiedKind kind)
    (was : WasAnswered sectors lives (delivering frame kind out) logs) where
  abbrev earlier_delivery : IsVerifiedDelivery was.at frame kind out was.after
  earlier_delivery = delivered was.at frame out kind was.after verified was.step

  -- its number was given
  was_given : (sci key : List ℕ) (pn : ℕ) → earlier_delivery.sci ≡ sci → earlier_delivery.sa.key ≡ key
      → (tag_of frame).pn ≡ pn → WasGiven logs sci key pn
  was_given sci key pn same_sci same_key same_pn =
      let joins = delivery_of was.at frame kind out was.after earlier_delivery in
      let same : joins ≡ record { sci = sci; key = key; pn = pn; kind = kind } =
      λ i. record { sci = same_sci i; key = same_key i; pn = same_pn i; kind = kind } in (
        kind,
        subst (Contains logs.given) same
            (given_held was.after.logs logs joins was.at.logs.given was.held earlier_delivery.logged),
      )

pub given-once : (sectors : ℕ) → GivenOnce sectors
given-once sectors s m on zero_window frame out kind new d step earlier given was verified among =
    let before = answered-at sectors s m (delivering earlier was given) among in
    record {
      answered = before;
      delivery = earlier_delivery sectors (lives_at m) s.logs earlier was given verified before;
      other = λ same_sci same_key same_pn.
          given-apart sectors s m on zero_window (Receives frame) (Received (Ok (Delivered kind)) out) new
          (delivery_of s frame kind out new d) step d.logged
          (was_given sectors (lives_at m) s.logs earlier was given verified before d.sci d.sa.key (tag_of frame).pn
          same_sci same_key same_pn);
    }

pub never-ok-again : (sectors : ℕ) → NeverOkAgain sectors
never-ok-again sectors s m frame out new d step earlier given was verified among =
    let before = answers-are-held sectors m.lives m.past m.history (delivering earlier was given) among in
    let logs = logs_of m.past in
    record {
      answered = before;
      delivery = earlier_delivery sectors m.lives logs earlier was given verified before;
      other = λ same_sci same_key same_pn.
          ok-apart sectors s m (Receives frame) (Received (Ok (Delivered AsOk)) out) new
          (delivery_of s frame AsOk out new d) step d.logged refl
          (was_given sectors m.lives logs earlier was given verified before d.sci d.sa.key (tag_of frame).pn same_sci
          same_key same_pn);
    }

pub delivered-below : (sectors : ℕ) → DeliveredBelow sectors
delivered-below sectors past found f frame out kind verified among =
    let logs = logs_of past in
    let before = answers-are-held sectors f.lives past f.history (delivering frame kind out) among in
    let d = earlier_delivery sectors f.lives logs frame kind out verified before in
    record {
      answered = before;
      delivery = d;
      beyond = given-below sectors past found f d.sci d.sa.key (tag_of frame).pn
          (was_given sectors f.lives logs frame kind out verified before d.sci d.sa.key (tag_of frame).pn
          refl refl refl);
    }

-- ---- frames that were written

pub used_held : (old new : Logs) (u : Use) (rest : List Use) → AreHeldIn old new → old.used ≡ u ∷ rest
    → Contains new.used u
used_held old new u rest held joins =
    subst (λ (used : List Use). Contains used u) held.used
    (Contains-append_right held.used_since old.used u
    (subst (λ (used : List Use). Contains used u) (sym joins) (contains-first u rest)))

pub written-once : (sectors : ℕ) → WrittenOnce sectors
written-once sectors s m plain pn out new f step earlier was given among =
    let before = answered-at sectors s m (writing earlier was given) among in
    let first = frames-are-standard sectors before.at before.moment earlier was given before.after before.step in
    let one : Use = record { key = first.sa.key; pn = was } in
    let here : Use = record { key = f.sa.key; pn = pn } in
    let apart : HasNoneTwice new.logs.used =
    (sound-effect s.edition (core s) (core new) (effect-of s (Protects plain) (Protected (Ok pn) out) new step)
    (sound-moment sectors s m)).tx.apart in
    let among_used : Contains s.logs.used one =
    used_held before.after.logs s.logs one before.at.logs.used before.held first.logged in
    record {
      answered = before;
      frame = first;
      other = λ same_key same_pn.
          let same : one ≡ here = λ i. record { key = same_key i; pn = same_pn i } in
          not-twice here s.logs.used (subst HasNoneTwice f.logged apart) (subst (Contains s.logs.used) same among_used);
    }

pub written-below : (sectors : ℕ) → WrittenBelow sectors
written-below sectors past found f plain pn out among =
    let before = answers-are-held sectors f.lives past f.history (writing plain pn out) among in
    let frame = frames-are-standard sectors before.at before.moment plain pn out before.after before.step in
    record {
      answered = before;
      frame = frame;
      beyond = used-below sectors past found f frame.sa.key pn
          (used_held before.after.logs (logs_of past) (record { key = frame.sa.key; pn = pn }) before.at.logs.used
          before.held frame.logged);
    }
