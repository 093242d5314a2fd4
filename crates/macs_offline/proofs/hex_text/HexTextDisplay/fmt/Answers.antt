use Rattle.std.proofs.Common.{arith, rules, sym}
use Rattle.std.proofs.Output.{has_written_append, has_written_of_eq}
use Rattle.hex.specs.Hex.{encode_with}
use Rattle.macs_offline.proofs.HexDigits.{encode_lower-more}
use Rattle.macs_offline.proofs.hex_text.HexTextDisplay.fmt.Goals as goal

pub loop-octet-init : goal.loop-octet-init
unfolding encode_with
loop-octet-init g c = search rules

pub loop-octet-preserved : goal.loop-octet-preserved
loop-octet-preserved g c = λ p. has_written_of_eq _ _ _ _ _
    (sym (encode_lower-more c.args.self.now.0.now c.loop-octet.octet-index (omega arith) (search rules)))
    (has_written_append _ _ _ _ _ _ (c.loop-octet.invariant p) (search rules))
