use Rattle.std.proofs.Common.{◌≡◌, [], ◌++◌, take, map, string_bytes}
use Rattle.std.specs.List.{concat}
use Rattle.macs_offline.specs.RecordLines.{record_line}
use Rattle.macs_offline.proofs.record_lines.records_text.Given as goal

abbrev pub invariant-loop-word : goal.invariant-loop-word
invariant-loop-word l =
    string_bytes l.text ≡ [] ++ concat (map (λ word. record_line l.records word.now) (take l.word-index l.word-items))
