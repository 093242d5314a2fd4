use Rattle.std.proofs.Common.{◌≡◌, [], ◌++◌, take, map, string_bytes}
use Rattle.std.specs.List.{concat}
use Rattle.macs_store.specs.Value.{standing_in}
use Rattle.macs_offline.specs.Examining.{channel_ceilings_text}
use Rattle.macs_offline.proofs.examined_text.channels_text.Given as goal

abbrev pub invariant-loop-sci : goal.invariant-loop-sci
invariant-loop-sci g l = string_bytes l.text
    ≡ [] ++ concat (map (channel_ceilings_text (standing_in l.store)) (take l.sci-index l.sci-items))
