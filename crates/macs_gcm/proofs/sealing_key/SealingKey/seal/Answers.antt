use Rattle.std.proofs.Common.{◌∙◌, ap}
use Rattle.std.specs.Int.{to_be_bytes, w128}
use Rattle.macs_gf.specs.Ghash.{blocks_of, ghash, hash_input}
use Rattle.macs_gcm.proofs.Sealing.{seal-parts}
use Rattle.macs_gcm.specs.Gcm.{hash_subkey}
use Rattle.macs_gcm.proofs.sealing_key.SealingKey.seal.Goals as goal

pub returns-clause-sealed : goal.returns-clause-sealed
returns-clause-sealed c =
    let key = c.args.self.now in
    let iv = c.args.iv.now in
    let aad = c.args.aad.now in
    let made = c.encipher-mask.ensures in
    let text = c.encipher-mask.new.text in
    let hash = c.ghash.ensures ∙ ap (λ h. to_be_bytes w128 (ghash h (blocks_of (hash_input aad text))))
    (c.self.invariant.0 ∙ ap hash_subkey (c.self.view_is ∙ made.key)) in
    seal-parts key iv aad c.args.text.now text c.tag_of.result made.text
    (c.tag_of.ensures key iv aad text hash made.mask)
