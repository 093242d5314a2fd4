use Rattle.macs_edge.proofs.settling.hand_in_again.Goals as goal

pub returns-in-Ok : goal.returns-in-Ok
returns-in-Ok g c =
    let (reply, call, means, noted) = c.hand_in_noting-again.ensures in (
      c.hand_in_noting-again.result,
      c.refill.new.self,
      reply,
      c.passes.ensures,
      c.facts.ensures,
      c.in-Ok.ensures.call,
      c.facts-in-Ok.ensures,
      call,
      means,
      noted,
    )
