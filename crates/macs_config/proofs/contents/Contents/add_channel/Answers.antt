use Rattle.std.proofs.Common.{◌∙◌, sym}
use Rattle.macs_config.proofs.Keyed.{scis-insert}
use Rattle.macs_config.proofs.StoredChannels.{empty, read-channels, rx_at-insert, sci_of}
use Rattle.macs_config.proofs.contents.Contents.add_channel.Goals as goal

pub returns : goal.returns
returns c = rw c.insert.ensures.items (read-channels c.args.self.now _ _ _
    (scis-insert sci_of c.args.self.now.channels.items c.place_after-place.result (empty c.args.sci)
    ∙ sym c.place_after-place.ensures.between)
    (rx_at-insert c.args.self.now.channels.items c.place_after-place.result c.args.sci c.requires.free))
