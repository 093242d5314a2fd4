use Rattle.std.proofs.Common.{◌∙◌, ap, map}
use Rattle.macs_aes.specs.Cipher.{encrypt}
use Rattle.macs_planes.proofs.group.encrypt_numbered.Goals as goal

pub returns : goal.returns
returns c =
    c.store.ensures ∙ c.encrypt_across.ensures
    ∙ ap (map (encrypt c.args.schedule.now)) c.numbered.ensures
