use Rattle.std.proofs.Common.{◌≡◌, [], ◌++◌, take, map, string_bytes}
use Rattle.std.specs.List.{concat}
use Rattle.macs_store.specs.Value.{standing_in}
use Rattle.macs_offline.specs.Examining.{tx_ceiling_text}
use Rattle.macs_offline.proofs.examined_text.tx_text.Given as goal

abbrev pub invariant-loop-an : goal.invariant-loop-an
invariant-loop-an g l =
    string_bytes l.text ≡ [] ++ concat (map (tx_ceiling_text (standing_in l.store)) (take l.an-index l.an-items))
