-- The lines so far are those of the keys so far.
use Rattle.std.proofs.Common.{◌≡◌, map, option_map, string_bytes, take}
use Rattle.macs_offline.specs.KeyLists.{lines_text}
use Rattle.macs_offline.proofs.key_list.lines_of.Given as goal

abbrev pub invariant-loop-i : goal.invariant-loop-i
invariant-loop-i l = string_bytes l.lines ≡ lines_text (take l.i (map (option_map string_bytes) l.fn.keys))
