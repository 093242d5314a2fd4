use Rattle.std.proofs.Common.{◌∙◌}
use Rattle.macs_config.proofs.StoredChannels.{scis_of, stands_by}
use Rattle.macs_config.proofs.contents.Contents.has_channel.Goals as goal

pub returns : goal.returns
returns c = c.is_some.ensures ∙ stands_by (scis_of c.args.self.now.channels.items) c.args.sci c.place.result
    c.place.ensures.stands c.place.ensures.none
