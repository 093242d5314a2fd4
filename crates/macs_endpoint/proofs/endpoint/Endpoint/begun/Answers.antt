use Rattle.std.proofs.Common.{Result, Ok, IfOk, sym, subst}
use Rattle.macs_journal.specs.declared.recovery.RecoverRefused.{RecoverRefused}
use Rattle.macs_store.specs.Value.{IsIdle, StoreValue}
use Rattle.macs_endpoint.specs.Opening.{BeginsOpened}
use Rattle.macs_endpoint.proofs.endpoint.Endpoint.begun.Goals as goal

pub with_store-requires : goal.with_store-requires
with_store-requires g c =
    subst (λ (o : Result (StoreValue g.row.D.Denot) (RecoverRefused g.row.D.Denot)). IfOk o IsIdle)
    c.in-Ok.is c.requires

pub returns : goal.returns
returns g c =
    subst (λ (o : Result (StoreValue g.row.D.Denot) (RecoverRefused g.row.D.Denot)).
    BeginsOpened o (Ok c.with_store.result)) (sym c.in-Ok.is) c.with_store.ensures
