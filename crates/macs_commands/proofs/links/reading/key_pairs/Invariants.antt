-- The pairs so far are before those of the values that are left.
use Rattle.std.proofs.Common.{◌≡◌, ◌++◌, List, Result, Ok, Err, drop, ◌+◌}
use Rattle.toml.specs.View.{items_view}
use Rattle.macs_commands.specs.Reading.{key_pairs}
use Rattle.macs_commands.specs.declared.links.link.KeyPair.{KeyPair}
use Rattle.macs_commands.specs.declared.links.plan_fault.PlanFault.{PlanFault}
use Rattle.macs_commands.proofs.links.reading.key_pairs.Given as goal

abbrev pub joined : List KeyPair → Result (List KeyPair) PlanFault → Result (List KeyPair) PlanFault
joined done (Ok rest) = Ok (done ++ rest)
joined done (Err fault) = Err fault

abbrev pub invariant-loop-i : goal.invariant-loop-i
invariant-loop-i g l = key_pairs 1 (items_view l.fn.tables)
    ≡ joined l.pairs.items (key_pairs (l.i + 1) (items_view (drop l.i l.fn.tables)))
