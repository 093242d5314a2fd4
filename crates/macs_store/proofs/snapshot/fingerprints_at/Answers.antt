use Rattle.std.proofs.Common.{◌≡◌, ◌+◌, ◌*◌, ◌∙◌, List, ℕ, ap, arith, drop, subst, sym, take}
use Rattle.macs_config.specs.Config.{spent_of}
use Rattle.macs_config.specs.Value.{config_of}
use Rattle.macs_store.proofs.ReadFingerprints.{AreRead, first-read, no-more-read, none-read, one-more-read}
use Rattle.macs_store.proofs.snapshot.fingerprints_at.Goals as goal
use Rattle.macs_store.proofs.snapshot.fingerprints_at.Goals.{in-Some-spent_at, in_default-spent_at}

pub returns-in_default-clause-none : goal.returns-in_default-clause-none
returns-in_default-clause-none c = none-read (spent_of c.args.role (config_of c.args.config.now)) c.args.place
    (sym c.spent_at.ensures ∙ c.in_default.is)

pub loop-more-init : goal.loop-more-init
loop-more-init c =
    first-read (spent_of c.args.role (config_of c.args.config.now)) (15 * c.args.place) c.in-Some.first
    c.new-fingerprints.result
    (sym c.spent_at.ensures ∙ c.in-Some.is) c.new-fingerprints.ensures

pub loop-more-preserved : goal.loop-more-preserved
loop-more-preserved c =
    let spent = spent_of c.args.role (config_of c.args.config.now) in
    let start = 15 * c.args.place in
    let so_far = c.loop-more.fingerprints in
    let found = sym c.spent_at-in-loop-more.ensures in
    elim c.match-spent_at-2.branch [
      | in-Some-spent_at w ↦ subst (λ (xs : List (List ℕ)). AreRead spent start (c.loop-more.more + 1) xs)
          (sym w.fingerprints-is)
          (one-more-read spent start c.loop-more.more so_far c.loop-more.invariant w.in-Some-spent_at.fingerprint
          w.push.new.self w.push.result
          (found ∙ w.in-Some-spent_at.is) c.loop-more-test.true w.push.ensures.room w.push.ensures.pushed)
      | in_default-spent_at w ↦ subst (λ (xs : List (List ℕ)). AreRead spent start (c.loop-more.more + 1) xs)
          (sym w.fingerprints-is)
          (no-more-read spent start c.loop-more.more so_far c.loop-more.invariant (found ∙ w.in_default-spent_at.is))
    ]

pub returns-clause-some : goal.returns-clause-some
returns-clause-some c =
    let past = c.loop-more-test.false in
    let end : c.loop-more.more ≡ 15 = (let bound = c.loop-more.auto.more-end in omega (arith, past, bound)) in (
      c.loop-more.invariant.so_far
          ∙ ap (λ (n : ℕ). take n (drop (15 * c.args.place) (spent_of c.args.role (config_of c.args.config.now)))) end,
      c.loop-more.invariant.some,
    )
