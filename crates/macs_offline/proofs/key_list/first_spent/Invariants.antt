-- The list has none of the keys so far.
use Rattle.std.proofs.Common.{map, option_map, string_bytes, take}
use Rattle.std.specs.List.{All}
use Rattle.macs_offline.specs.KeyLists.{IsSpentIn}
use Rattle.macs_offline.proofs.key_list.first_spent.Given as goal

abbrev pub invariant-loop-i : goal.invariant-loop-i
invariant-loop-i l =
    All (λ key. ¬ IsSpentIn l.fn.list key) (take l.i (map (option_map string_bytes) l.fn.keys))
