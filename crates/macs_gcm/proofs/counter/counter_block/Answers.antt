use Rattle.std.proofs.Common.{◌∙◌}
use Rattle.macs_gcm.proofs.CounterMode.{whole_counter}
use Rattle.macs_gcm.proofs.counter.counter_block.Goals as goal

pub returns : goal.returns
returns c =
    whole_counter c.args.iv.now c.copy_from_slice.new.self c.copy_from_slice-2.new.self c.args.number c.told-iv
    c.copy_from_slice.ensures.after (c.copy_from_slice-2.ensures.after ∙ c.to_be_bytes.ensures)
