use Rattle.std.proofs.Common.{ap, arith, length}
use Rattle.macs_gcm.proofs.CounterMode.{last_octet, masks_numbered}
use Rattle.macs_gcm.specs.declared.counter.TheConstants.{GROUP}
use Rattle.macs_gcm.proofs.counter.put_masks.Goals as goal

pub encrypt_numbered-requires : goal.encrypt_numbered-requires
encrypt_numbered-requires c =
    last_octet c.args.iv.now c.counter_block.result c.args.number GROUP c.told-iv c.counter_block.ensures
    (omega (arith, c.requires))

pub returns-clause-size : goal.returns-clause-size
returns-clause-size c = ap length c.encrypt_numbered.ensures

pub returns-clause-masks : goal.returns-clause-masks
returns-clause-masks c =
    masks_numbered c.args.keys.now c.args.iv.now c.counter_block.result c.encrypt_numbered.new.blocks GROUP
    c.args.number c.told-iv (λ j below. omega (arith, below, c.requires)) c.counter_block.ensures
    c.encrypt_numbered.ensures
