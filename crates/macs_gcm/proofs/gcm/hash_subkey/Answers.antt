use Rattle.std.proofs.Common.{◌∙◌, ap, arith, replicate}
use Rattle.std.specs.Int.{from_be_bytes, w128}
use Rattle.macs_aes.specs.Cipher.{encrypt}
use Rattle.macs_gcm.specs.Gcm.{hash_subkey}
use Rattle.macs_gcm.proofs.gcm.hash_subkey.Goals as goal

pub returns : goal.returns
unfolding hash_subkey
returns c =
    c.from_be_bytes.ensures
    ∙ ap (from_be_bytes w128) (c.put_masks.ensures.masks 0 (omega arith)
    ∙ ap (λ k. encrypt k (replicate 16 0)) c.new-keys.ensures)
