-- An endpoint that lives is at a moment of a history: what the laws say of it, and where its medium may be passed on.
use Rattle.std.proofs.Common.{◌≡◌, ◌≤◌, ◌⊎◌, ◌++◌, inl, inr, ℕ, List, []}
use Rattle.std.proofs.Common.{◌∷◌, map, Option, Some, None, Ok, refl, sym, ◌∙◌, ap, subst, arith}
use Rattle.std.proofs.lemmas.Bool.{cases_lt}
use Rattle.macs_config.specs.Config.{Edition, IsUpTo, this_edition}
use Rattle.macs_disk.specs.Disk.{Disk, IsHonest, MayLeave, Works, now}
use Rattle.macs_disk.specs.States.{Image, IsSound}
use Rattle.macs_disk.proofs.Moments.{Works-on, Works-start}
use Rattle.macs_endpoint.specs.Advancing.{Due, ToKeep, ToRaise, next_due}
use Rattle.macs_endpoint.specs.Calls.{IsCall}
use Rattle.macs_endpoint.specs.Lives.{Lives, Transition, exchange_of}
use Rattle.macs_endpoint.specs.Ceilings.{Raise}
use Rattle.macs_endpoint.specs.Restart.{Fits, state_during}
use Rattle.macs_endpoint.specs.State.{Advances, Call, Commands, Protects, Receives}
use Rattle.macs_endpoint.specs.State.{Refills, Submits}
use Rattle.macs_endpoint.specs.State.{Rests}
use Rattle.macs_endpoint.specs.declared.queue.Waiting.{Waiting}
use Rattle.macs_endpoint.specs.Value.{EndpointValue, IsSoundEndpoint, disk_in, state_of}
use Rattle.macs_headline.specs.Binding.{EndsAreCuts, HasHistory, IsAtMoment, LivesAreMoments}
use Rattle.macs_headline.specs.Binding.{LivesFit, OpeningsFind}
use Rattle.macs_headline.specs.Binding.{cut_beginning, state_left}
use Rattle.macs_headline.specs.Deeds.{Does, Living, LivesFrom}
use Rattle.macs_headline.specs.History.{Formatted, Life, state_at_end}
use Rattle.macs_headline.specs.Moments.{Moment}
use Rattle.macs_headline.proofs.Chains.{history-covers}
use Rattle.macs_headline.proofs.Endings.{ends-are-earlier}
use Rattle.macs_headline.proofs.Living.{IsAlive, alive, covered-cut, covered-life, covered-unbegun}
use Rattle.macs_headline.proofs.Losses.{IsCovered}
use Rattle.macs_headline.proofs.Older.{larger-fits}

-- ---- the call in which a medium is passed on

module _ {D : Type 0} (disk_of : D → Disk) where
  lives_work : (turns : List (Transition D)) (old new : EndpointValue D) → Lives disk_of old turns new
      → Works (disk_in disk_of old) (disk_in disk_of new)
  lives_work [] old new lives = subst (λ (e : EndpointValue D). Works (disk_in disk_of old) (disk_in disk_of e))
      (sym lives) (Works-start (disk_in disk_of old))
  lives_work (turn ∷ turns) old new (kept, call, rest) =
      Works-on (disk_in disk_of old) (disk_in disk_of turn.after) (disk_in disk_of new) call.device.works
      (lives_work turns turn.after new rest)

  record IsWithin (first last : EndpointValue D) (turns : List (Transition D)) (k : ℕ) : Type 0 where
    before : List (Transition D)
    mid : EndpointValue D
    turn : Transition D
    rest : List (Transition D)
    whole : before ++ turn ∷ rest ≡ turns
    lives : Lives disk_of first before mid
    kept : IsSoundEndpoint mid
    call : IsCall disk_of mid turn.call turn.reply turn.after
    from : (disk_in disk_of mid).clock ≤ k
    to : k ≤ (disk_in disk_of turn.after).clock
    on : Works (disk_in disk_of turn.after) (disk_in disk_of last)

  within : (turns : List (Transition D)) (first last : EndpointValue D) (k : ℕ) → Lives disk_of first turns last
      → (disk_in disk_of first).clock ≤ k → k ≤ (disk_in disk_of last).clock
      → (last ≡ first) ⊎ IsWithin first last turns k
  within [] first last k lives lo hi = inl lives
  within (turn ∷ turns) first last k (kept, call, rest) lo hi =
      let on = lives_work turns turn.after last rest in
      elim (cases_lt (disk_in disk_of turn.after).clock k) [
        | inr early ↦ inr (record {
          before = [];
          mid = first;
          turn = turn;
          rest = turns;
          whole = refl;
          lives = refl;
          kept = kept;
          call = call;
          from = lo;
          to = early;
          on = on;
        })
        | inl late ↦ elim (within turns turn.after last k rest (omega (arith, late)) hi) [
          | inl same ↦
              let clock : (disk_in disk_of last).clock ≡ (disk_in disk_of turn.after).clock =
              ap (λ (e : EndpointValue D). (disk_in disk_of e).clock) same in
              absurd (omega (arith, clock, late, hi))
          | inr is ↦ inr (record {
            before = turn ∷ is.before;
            mid = is.mid;
            turn = is.turn;
            rest = is.rest;
            whole = ap (turn ∷◌) is.whole;
            lives = (kept, call, is.lives);
            kept = is.kept;
            call = is.call;
            from = is.from;
            to = is.to;
            on = is.on;
          })
        ]
      ]

  pub ends-are-cuts : EndsAreCuts disk_of
  ends-are-cuts old new first last turns lived passed =
      let on = lives_work turns first last lived.1 in
      let k = passed.moment in
      elim (cases_lt (disk_in disk_of first).clock k) [
        | inr early ↦ inl (
          Ok first,
          lived.0,
          ends-are-earlier (disk_in disk_of first) (disk_in disk_of last) (disk_of new) (disk_of old).clock on passed
              (disk_of old).clock passed.later early,
        )
        | inl late ↦ elim (within turns first last k lived.1 (omega (arith, late)) passed.within) [
          | inl same ↦
              let clock : (disk_in disk_of last).clock ≡ (disk_in disk_of first).clock =
              ap (λ (e : EndpointValue D). (disk_in disk_of e).clock) same in
              let end = passed.within in
              absurd (omega (arith, clock, late, end))
          | inr is ↦ inr (
            is.before,
            is.mid,
            is.turn,
            is.rest,
            is.whole,
            (
              (lived.0, is.lives),
              is.kept,
              is.turn.reply,
              is.turn.after,
              is.call,
              ends-are-earlier (disk_in disk_of is.turn.after) (disk_in disk_of last) (disk_of new) (disk_of old).clock
                  is.on passed (disk_in disk_of is.mid).clock
                  is.from is.to,
            ),
          )
        ]
      ]

-- ---- the moment

module _ {D : Type 0} (disk_of : D → Disk) (sound : (it : D) → IsHonest (disk_of it) → IsSound (now (disk_of it)))
    (disk : D) (before : List Life)
    (h : HasHistory this_edition (disk_of disk) before) (first last : EndpointValue D) (turns : List (Transition D))
    (lived : LivesFrom disk_of disk first turns last) where
  abbrev sectors : ℕ
  sectors = (disk_of disk).sectors

  abbrev covered : IsCovered sectors h.past (disk_of disk)
  covered = history-covers (disk_of disk) before h

  abbrev living : IsAlive disk_of sectors h.past (now (disk_of disk)).seen first turns last
  living = alive disk_of sound sectors h.past disk first turns last covered lived

  abbrev moment : Moment sectors (state_of last living.logs)
  moment = record {
    lives = before;
    past = h.past;
    history = h.history;
    edition = this_edition;
    image = (now (disk_of disk)).seen;
    exchanges = map exchange_of turns;
    life = living.life;
  }

  abbrev at_moment : IsAtMoment sectors before (now (disk_of disk)).seen turns first last
  at_moment = record {
    logs = living.logs;
    moment = moment;
    after_lives = refl;
    of_edition = refl;
    opened = refl;
    calls = refl;
    found = living.same_found;
  }

  none_is : (first : Waiting) → ◌≡◌ {A = Option Due} None (Some (ToKeep first)) → ⊥
  none_is first is = cc

  raise_is : (raise : Raise) (first : Waiting) → ◌≡◌ {A = Option Due} (Some (ToRaise raise)) (Some (ToKeep first)) → ⊥
  raise_is raise first is = cc

  some_raise : (raise : Raise) → ◌≡◌ {A = Option Raise} (Some raise) None → ⊥
  some_raise raise is = cc

  -- what a cut call leaves, by what it is, whether a ceiling is being raised, and what is next
  covered_end : (call : Call) (reserving : Option Raise) (next : Option Due) (new : D)
      → (((first : Waiting) → reserving ≡ None → next ≡ Some (ToKeep first) → ⊥) → call ≡ Advances
      → IsCovered sectors (Formatted (state_of last living.logs)) (disk_of new))
      → IsCovered sectors (Formatted (state_during (state_of last living.logs) call)) (disk_of new)
      → IsCovered sectors (Formatted
      (state_at_end (state_of last living.logs) (cut_beginning (Some call) reserving next))) (disk_of new)
  covered_end (Commands c) reserving next new unbegun during = during
  covered_end Refills reserving next new unbegun during = during
  covered_end Rests reserving next new unbegun during = during
  covered_end (Submits c) reserving next new unbegun during = during
  covered_end Advances None None new unbegun during = unbegun (λ first free is. none_is first is) refl
  covered_end Advances None (Some (ToRaise raise)) new unbegun during =
      unbegun (λ first free is. raise_is raise first is) refl
  covered_end Advances None (Some (ToKeep first)) new unbegun during = during
  covered_end Advances (Some raise) next new unbegun during = unbegun (λ first free is. some_raise raise free) refl
  covered_end (Protects plain) reserving next new unbegun during = during
  covered_end (Receives frame) reserving next new unbegun during = during

  -- the disk after the life
  covered_left : (cut : Option Call) (new : D) → Does disk_of disk (Living first turns last cut) new
      → IsCovered sectors (Formatted (state_left last living.logs cut)) (disk_of new)
  covered_left None new (as_lived, same) =
      covered-life disk_of sound sectors h.past disk first turns last covered lived new same
  covered_left (Some call) new (as_lived, kept, reply, after, is, passed) =
      covered_end call last.reserving (next_due last) new
      (λ apart. covered-unbegun disk_of sound sectors h.past disk first turns last covered lived kept call reply after
      is new passed
      (λ keeps. apart keeps.0 keeps.1 keeps.2))
      (covered-cut disk_of sound sectors h.past disk first turns last covered lived kept call reply after is new passed)

  fits_left : (cut : Option Call) (new : D) → Does disk_of disk (Living first turns last cut) new → (later : Edition)
      → IsUpTo this_edition later
      → (image : Image) → MayLeave (disk_of new) image → Fits later sectors image (state_left last living.logs cut)
  fits_left cut new does later up_to image left =
      larger-fits this_edition later up_to sectors image (state_left last living.logs cut)
      ((covered_left cut new does).images image left)

-- that which a life was lived from
lived_of : {D : Type 0} (disk_of : D → Disk) (disk new : D) (first last : EndpointValue D) (turns : List (Transition D))
    (cut : Option Call)
    → Does disk_of disk (Living first turns last cut) new → LivesFrom disk_of disk first turns last
lived_of disk_of disk new first last turns None does = does.0
lived_of disk_of disk new first last turns (Some call) does = does.0

module _ {D : Type 0} (disk_of : D → Disk) (sound : (it : D) → IsHonest (disk_of it) → IsSound (now (disk_of it))) where
  pub openings-find : OpeningsFind disk_of
  openings-find disk before first h opening =
      let life = (moment disk_of sound disk before h first first [] (opening, refl)).life in (
        record {
          lives = before;
          history = h.history;
          edition = this_edition;
          image = (now (disk_of disk)).seen;
          fits = life.fits;
          is_found = opening.found (opening.device.works.honest ∙ h.honest);
        },
        refl,
        refl,
        refl,
      )

  pub lives-are-moments : LivesAreMoments disk_of
  lives-are-moments disk before first last turns h lived = at_moment disk_of sound disk before h first last turns lived

  pub lives-fit : LivesFit disk_of
  lives-fit disk new before first last turns cut h does =
      let lived = lived_of disk_of disk new first last turns cut does in (
        at_moment disk_of sound disk before h first last turns lived,
        fits_left disk_of sound disk before h first last turns lived cut new does,
      )
