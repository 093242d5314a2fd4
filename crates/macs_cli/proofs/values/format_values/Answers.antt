use Rattle.std.proofs.Common.{Bor, List, ℕ, option_map, rules}
use Rattle.macs_cli.specs.Values.{SpellsIdentity, ValueFaultHolds, value_faults}
use Rattle.macs_cli.proofs.FirstFault.{first-holds, value-taken}
use Rattle.macs_cli.proofs.values.format_values.Goals as goal

pub returns-in-Some-layout_of-clause-fault : goal.returns-in-Some-layout_of-clause-fault
returns-in-Some-layout_of-clause-fault c = λ fault.
    let block = option_map (λ (text : Bor (List ℕ)). text.now) c.args.block in
    let spelled : SpellsIdentity c.args.sci.now c.args.tx_block c.args.rx_block c.in-Some-new.identity = search rules in
    let lies = (c.layout_of.ensures c.in-Some-layout_of.layout).0 c.in-Some-layout_of.is in
    let taken = value-taken c.args.sci.now c.args.tx_block c.args.rx_block block _ _ spelled lies fault in (
      λ same. cc,
      λ first. absurd (taken
          (first-holds (ValueFaultHolds c.args.sci.now c.args.tx_block c.args.rx_block block) value_faults
          fault first)),
    )
