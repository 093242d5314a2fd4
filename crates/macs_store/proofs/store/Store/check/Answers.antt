use Rattle.std.proofs.Common.{◌≡◌, ◌↔◌, Err, IsOk, OnOk, subst}
use Rattle.macs_config.specs.Apply.{Named}
use Rattle.macs_config.specs.declared.refusal.Refusal.{Refusal}
use Rattle.macs_store.specs.Standing.{accept}
use Rattle.macs_store.specs.Value.{StoreValue, standing_in}
use Rattle.macs_store.proofs.store.Store.check.Goals as goal

pub returns-clause-fits : goal.returns-clause-fits
returns-clause-fits g c =
    subst (λ (s : StoreValue g.row.D.Denot). OnOk c.check.result (IsOk (accept (standing_in s) c.args.command.now)))
    c.self.view_is c.check.ensures.fits

pub returns-clause-refused : goal.returns-clause-refused
returns-clause-refused g c =
    subst (λ (s : StoreValue g.row.D.Denot). (refusal : Refusal)
    → (c.check.result ≡ Err refusal) ↔ (accept (standing_in s) c.args.command.now ≡ Err (Named refusal)))
    c.self.view_is c.check.ensures.refused
