use Rattle.std.proofs.Common.{◌∙◌, ap₂, sym}
use Rattle.macs_aes.specs.Cipher.{encrypt}
use Rattle.macs_gcm.specs.Gcm.{ciphertext_of, pre_counter_block}
use Rattle.macs_gcm.proofs.sealing_key.SealingKey.encipher.Goals as goal

pub returns-clause-text : goal.returns-clause-text
returns-clause-text c =
    c.encipher-2.ensures.text c.self.inside.schedule c.place_for-place.ensures.stream
    ∙ ap₂ (λ k iv. ciphertext_of k iv c.args.text.now) c.self.view_is (sym c.place_for-place.ensures.iv)

pub returns-clause-mask : goal.returns-clause-mask
returns-clause-mask c =
    c.encipher-2.ensures.mask c.self.inside.schedule c.place_for-place.ensures.stream
    ∙ ap₂ (λ k iv. encrypt k (pre_counter_block iv)) c.self.view_is (sym c.place_for-place.ensures.iv)
