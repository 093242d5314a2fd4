use Rattle.std.proofs.Common.{◌∙◌, ℕ, List, ap, refl, sym}
use Rattle.macs_config.specs.Config.{spent_of}
use Rattle.macs_config.specs.Value.{config_of}
use Rattle.macs_record.specs.declared.record.Record.{Record}
use Rattle.macs_record.specs.declared.record.Record.TheVariants.{Spent}
use Rattle.macs_store.specs.Snapshot.{fingerprints_at, record_if_any, walk_past_all}
use Rattle.macs_store.proofs.Passing.{some-record}
use Rattle.macs_store.proofs.snapshot.pass_over_fingerprints.Goals as goal

pub returns-then-has_fingerprints-clause-walked : goal.returns-then-has_fingerprints-clause-walked
returns-then-has_fingerprints-clause-walked c =
    let fingerprints : List (List ℕ) =
    fingerprints_at (spent_of c.args.role (config_of c.args.config.now)) c.args.place in
    c.pass_over.ensures.walked (Spent c.args.role fingerprints)
    ∙ ap (λ (rs : List Record). walk_past_all c.args.walk.now rs)
    (some-record c.args.role fingerprints fingerprints refl
    (c.has_fingerprints.ensures.some c.if-has_fingerprints.true))

pub returns-else-has_fingerprints-clause-walked : goal.returns-else-has_fingerprints-clause-walked
returns-else-has_fingerprints-clause-walked c =
    ap (λ (fingerprints : List (List ℕ)). walk_past_all c.args.walk.now (record_if_any c.args.role fingerprints))
    (sym (c.has_fingerprints.ensures.none c.if-has_fingerprints.false))
