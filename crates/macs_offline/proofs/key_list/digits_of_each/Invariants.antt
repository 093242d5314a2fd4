-- The keys so far are those of the commands so far.
use Rattle.std.proofs.Common.{◌≡◌, map, option_map, string_bytes, take}
use Rattle.macs_offline.specs.KeyLists.{digits_of}
use Rattle.macs_offline.proofs.key_list.digits_of_each.Given as goal

abbrev pub invariant-loop-i : goal.invariant-loop-i
invariant-loop-i l = map (option_map string_bytes) l.keys.items ≡ map digits_of (take l.i l.fn.commands)
