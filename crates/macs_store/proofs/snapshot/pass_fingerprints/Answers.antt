use Rattle.std.proofs.Common.{◌∙◌, ℕ, List, ap, sym}
use Rattle.macs_config.specs.Config.{spent_of}
use Rattle.macs_config.specs.Value.{config_of}
use Rattle.macs_record.specs.declared.record.Record.{Record}
use Rattle.macs_store.specs.Snapshot.{fingerprints_at, record_if_any, walk_past_all}
use Rattle.macs_store.proofs.Passing.{some-record}
use Rattle.macs_store.proofs.snapshot.pass_fingerprints.Goals as goal

pub returns-in-Some-clause-walked : goal.returns-in-Some-clause-walked
returns-in-Some-clause-walked c =
    let spent = spent_of c.args.role (config_of c.args.config.now) in
    let read = c.in-Some.ensures.some in
    c.pass.ensures.walked
    ∙ ap (λ (rs : List Record). walk_past_all c.args.walk.now rs)
    (some-record c.args.role c.in-Some.fingerprints (fingerprints_at spent c.args.place) read.0 read.1)

pub returns-in_default-clause-walked : goal.returns-in_default-clause-walked
returns-in_default-clause-walked c =
    ap (λ (fingerprints : List (List ℕ)). walk_past_all c.args.walk.now (record_if_any c.args.role fingerprints))
    (sym c.in_default.ensures.none)
