use Rattle.std.proofs.Common.{sym, subst}
use Rattle.macs_store.specs.Value.{StoreValue}
use Rattle.macs_endpoint.specs.Parts.{endpoint_of}
use Rattle.macs_endpoint.specs.Value.{IsSoundEndpoint}
use Rattle.macs_endpoint.proofs.MadeSteps.{before-sound}
use Rattle.macs_endpoint.proofs.endpoint.Endpoint.on.Goals as goal

pub invariant_of-result : goal.invariant_of-result
invariant_of-result g c =
    let old = endpoint_of c.self.inside.store c.self.inside.channels c.self.inside.queue c.self.inside.turn in
    subst (λ (s : StoreValue g.row.E.Denot).
    IsSoundEndpoint (endpoint_of s c.self.inside.channels c.self.inside.queue c.self.inside.turn))
    (sym c.on.ensures) (before-sound old c.args.disk c.self.invariant)
