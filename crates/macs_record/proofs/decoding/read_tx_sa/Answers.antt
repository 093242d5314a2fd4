use Rattle.std.proofs.Common.{◌≡◌, ◌++◌, ◌∙◌, append_assoc}
use Rattle.std.specs.Int.{to_be_bytes, w64}
use Rattle.macs_record.specs.Layout.{IsRecord, fields_of, protection_octets}
use Rattle.macs_record.specs.declared.kind.Kind.TheVariants as kinds
use Rattle.macs_record.proofs.KeyKinds.{tx_whole, by_its_length, is_key}
use Rattle.macs_record.proofs.Numbers.{never}
use Rattle.macs_record.proofs.OneRecord.{one_read}
use Rattle.macs_record.proofs.RecordKinds.{for_tx_sa}
use Rattle.macs_record.proofs.decoding.read_tx_sa.Goals as goal

pub returns-in_err-an-clause-found : goal.returns-in_err-an-clause-found
returns-in_err-an-clause-found c = λ r rest range kind whole. absurd (for_tx_sa c.args.length (λ r. IsRecord r
    → c.args.from.now ≡ fields_of r ++ rest → ⊥) (λ an sa ceiling long is here.
    never _ (c.in_err-an.ensures.found an _ is.0 here)) r kind range whole)

pub returns-in_err-key-clause-found : goal.returns-in_err-key-clause-found
returns-in_err-key-clause-found c = λ r rest range kind whole. absurd (for_tx_sa c.args.length (λ r. IsRecord r
    → c.args.from.now ≡ fields_of r ++ rest → ⊥) (λ an sa ceiling long is here.
    let first = c.in_ok-an.ensures.found an _ is.0 here in
    never _ (c.in_err-key.ensures.found sa.key _ (long is.1) (first.1 ∙ append_assoc sa.key _ rest))) r kind
    range whole)

pub returns-in_err-ceiling-clause-found : goal.returns-in_err-ceiling-clause-found
returns-in_err-ceiling-clause-found c = λ r rest range kind whole. absurd (for_tx_sa c.args.length (λ r. IsRecord r
    → c.args.from.now ≡ fields_of r ++ rest → ⊥) (λ an sa ceiling long is here.
    let first = c.in_ok-an.ensures.found an _ is.0 here in
    let second = c.in_ok-key.ensures.found sa.key _ (long is.1) (first.1 ∙ append_assoc sa.key _ rest) in
    never _ (c.in_err-ceiling.ensures.found ceiling _ is.2 second.1)) r kind range whole)

pub returns-in_err-protection-clause-found : goal.returns-in_err-protection-clause-found
returns-in_err-protection-clause-found c = λ r rest range kind whole. absurd (for_tx_sa c.args.length (λ r. IsRecord r
    → c.args.from.now ≡ fields_of r ++ rest → ⊥) (λ an sa ceiling long is here.
    let first = c.in_ok-an.ensures.found an _ is.0 here in
    let second = c.in_ok-key.ensures.found sa.key _ (long is.1) (first.1 ∙ append_assoc sa.key _ rest) in
    let third = c.in_ok-ceiling.ensures.found ceiling _ is.2 second.1 in
    never _ (c.in_err-protection.ensures.found sa.protection rest third.1)) r kind range whole)

pub returns-clause-some : goal.returns-clause-some
returns-clause-some c =
    let key = c.in_ok-key.ensures.some.0 in (
      (c.in_ok-an.ensures.some.0, is_key c.args.length c.in_ok-key.key key, c.in_ok-ceiling.ensures.some.0),
      by_its_length c.args.length c.in_ok-key.key kinds.TxSa kinds.TxSaLong key,
      tx_whole c.in_ok-an.an c.in_ok-key.key (to_be_bytes w64 c.in_ok-ceiling.ceiling)
          (protection_octets c.in_ok-protection.protection) c.args.from.now c.an.new.self c.key.new.self
          c.ceiling.new.self c.protection.new.self
          c.in_ok-an.ensures.some.1 c.in_ok-key.ensures.some.1 c.in_ok-ceiling.ensures.some.1
          c.in_ok-protection.ensures.some,
    )

pub returns-clause-found : goal.returns-clause-found
returns-clause-found c = one_read _ _ _ _ (returns-clause-some c)
