use Rattle.std.proofs.Common.{◌++◌, ◌∙◌, append_assoc, arith}
use Rattle.std.specs.Int.{to_be_bytes, w32}
use Rattle.macs_record.proofs.Numbers.{never}
use Rattle.macs_record.proofs.head_codec.read_identity.Goals as goal

pub returns-in_err-sci-clause-found : goal.returns-in_err-sci-clause-found
returns-in_err-sci-clause-found c = λ identity rest is_sci is_tx is_rx here.
    let blocks = to_be_bytes w32 identity.tx_block ++ to_be_bytes w32 identity.rx_block in
    absurd (never _ (c.in_err-sci.ensures.found identity.sci (blocks ++ rest) is_sci
    (here ∙ append_assoc identity.sci blocks rest)))

pub returns-in_err-tx_block-clause-found : goal.returns-in_err-tx_block-clause-found
returns-in_err-tx_block-clause-found c = λ identity rest is_sci is_tx is_rx here.
    let blocks = to_be_bytes w32 identity.tx_block ++ to_be_bytes w32 identity.rx_block in
    let first =
    c.in_ok-sci.ensures.found identity.sci (blocks ++ rest) is_sci (here ∙ append_assoc identity.sci blocks rest) in
    absurd (never _ (c.in_err-tx_block.ensures.found identity.tx_block (to_be_bytes w32 identity.rx_block ++ rest)
    (omega (arith, is_tx.1)) first.1))

pub returns-in_err-rx_block-clause-found : goal.returns-in_err-rx_block-clause-found
returns-in_err-rx_block-clause-found c = λ identity rest is_sci is_tx is_rx here.
    let blocks = to_be_bytes w32 identity.tx_block ++ to_be_bytes w32 identity.rx_block in
    let first =
    c.in_ok-sci.ensures.found identity.sci (blocks ++ rest) is_sci (here ∙ append_assoc identity.sci blocks rest) in
    let second = c.in_ok-tx_block.ensures.found identity.tx_block (to_be_bytes w32 identity.rx_block ++ rest)
    (omega (arith, is_tx.1)) first.1 in
    absurd (never _ (c.in_err-rx_block.ensures.found identity.rx_block rest (omega (arith, is_rx.1)) second.1))
