use Rattle.std.proofs.Common.{◌∙◌, ap, arith}
use Rattle.macs_aes.specs.Cipher.{encrypt}
use Rattle.macs_gcm.specs.Counter.{gctr, inc32}
use Rattle.macs_gcm.specs.Gcm.{pre_counter_block}
use Rattle.macs_gcm.proofs.gcm.encipher.Goals as goal

pub returns-clause-text : goal.returns-clause-text
returns-clause-text c =
    c.gctr_after_first.ensures
    ∙ ap (λ k. gctr k (inc32 (pre_counter_block c.args.iv.now)) c.args.text.now) c.new-keys.ensures

pub returns-clause-mask : goal.returns-clause-mask
returns-clause-mask c =
    c.put_masks.ensures.masks 1 (omega arith) ∙ ap (λ k. encrypt k (pre_counter_block c.args.iv.now)) c.new-keys.ensures
