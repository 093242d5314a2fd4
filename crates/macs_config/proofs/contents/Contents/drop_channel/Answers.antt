use Rattle.std.proofs.Common.{◌≡◌, rules, filter}
use Rattle.arrayvec.proofs.ArrayVecLemmas.{filter-from_retain}
use Rattle.macs_config.proofs.Keyed.{is_other, scis-filter}
use Rattle.macs_config.proofs.StoredChannels.{read-channels, rx_at-filter, sci_of}
use Rattle.macs_config.proofs.contents.Contents.drop_channel.Goals as goal

pub returns : goal.returns
returns c =
    let kept : c.retain.new.self.items ≡ filter (is_other sci_of c.args.sci) c.args.self.now.channels.items =
    filter-from_retain _ _ _ (λ x b f' y called. search rules) _ _ c.retain.ensures.filtered in
    rw kept (read-channels c.args.self.now _ _ _
    (scis-filter sci_of c.args.self.now.channels.items c.args.sci)
    (rx_at-filter c.args.self.now.channels.items c.args.sci))
