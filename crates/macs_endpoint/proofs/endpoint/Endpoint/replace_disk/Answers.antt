use Rattle.std.proofs.Common.{sym, subst}
use Rattle.macs_store.specs.Value.{StoreValue}
use Rattle.macs_endpoint.specs.Parts.{endpoint_of}
use Rattle.macs_endpoint.specs.Value.{IsSoundEndpoint}
use Rattle.macs_endpoint.proofs.MadeSteps.{before-sound}
use Rattle.macs_endpoint.proofs.endpoint.Endpoint.replace_disk.Goals as goal

pub invariant_of-self : goal.invariant_of-self
invariant_of-self g c =
    let old = endpoint_of c.self.inside.store c.self.inside.channels c.self.inside.queue c.self.inside.turn in
    subst (λ (s : StoreValue g.row.D.Denot).
    IsSoundEndpoint (endpoint_of s c.self.inside.channels c.self.inside.queue c.self.inside.turn))
    (sym c.replace_disk.ensures.same) (before-sound old c.args.disk c.self.invariant)
