use Rattle.std.proofs.Common.{◌≡◌, ◌++◌, ◌∙◌, ◌∷◌, [], append_assoc}
use Rattle.std.specs.Int.{to_be_bytes, w32}
use Rattle.macs_fields.specs.Fields.{octets_of}
use Rattle.macs_record.specs.Layout.{IsRecord, fields_of}
use Rattle.macs_record.specs.declared.kind.Kind.TheVariants as kinds
use Rattle.macs_record.proofs.KeyKinds.{rx_whole, by_its_length, is_key}
use Rattle.macs_record.proofs.Numbers.{never}
use Rattle.macs_record.proofs.OneRecord.{one_read}
use Rattle.macs_record.proofs.RecordKinds.{for_rx_install}
use Rattle.macs_record.proofs.decoding.read_rx_install.Goals as goal

pub returns-in_err-sci-clause-found : goal.returns-in_err-sci-clause-found
returns-in_err-sci-clause-found c = λ r rest range kind whole. absurd (for_rx_install c.args.length (λ r. IsRecord r
    → c.args.from.now ≡ fields_of r ++ rest → ⊥) (λ sci an sa start long is here.
    never _ (c.in_err-sci.ensures.found sci _ is.0 (here ∙ append_assoc sci _ rest))) r kind range whole)

pub returns-in_err-an-clause-found : goal.returns-in_err-an-clause-found
returns-in_err-an-clause-found c = λ r rest range kind whole. absurd (for_rx_install c.args.length (λ r. IsRecord r
    → c.args.from.now ≡ fields_of r ++ rest → ⊥) (λ sci an sa start long is here.
    let first = c.in_ok-sci.ensures.found sci _ is.0 (here ∙ append_assoc sci _ rest) in
    never _ (c.in_err-an.ensures.found an _ is.1 first.1)) r kind range whole)

pub returns-in_err-key-clause-found : goal.returns-in_err-key-clause-found
returns-in_err-key-clause-found c = λ r rest range kind whole. absurd (for_rx_install c.args.length (λ r. IsRecord r
    → c.args.from.now ≡ fields_of r ++ rest → ⊥) (λ sci an sa start long is here.
    let first = c.in_ok-sci.ensures.found sci _ is.0 (here ∙ append_assoc sci _ rest) in
    let second = c.in_ok-an.ensures.found an _ is.1 first.1 in
    never _ (c.in_err-key.ensures.found sa.key _ (long is.2) (second.1 ∙ append_assoc sa.key _ rest))) r kind
    range whole)

pub returns-in_err-start-clause-found : goal.returns-in_err-start-clause-found
returns-in_err-start-clause-found c = λ r rest range kind whole. absurd (for_rx_install c.args.length (λ r. IsRecord r
    → c.args.from.now ≡ fields_of r ++ rest → ⊥) (λ sci an sa start long is here.
    let first = c.in_ok-sci.ensures.found sci _ is.0 (here ∙ append_assoc sci _ rest) in
    let second = c.in_ok-an.ensures.found an _ is.1 first.1 in
    let third = c.in_ok-key.ensures.found sa.key _ (long is.2) (second.1 ∙ append_assoc sa.key _ rest) in
    never _ (c.in_err-start.ensures.found start _ is.3 third.1)) r kind range whole)

pub returns-in_err-offset-clause-found : goal.returns-in_err-offset-clause-found
returns-in_err-offset-clause-found c = λ r rest range kind whole. absurd (for_rx_install c.args.length (λ r. IsRecord r
    → c.args.from.now ≡ fields_of r ++ rest → ⊥) (λ sci an sa start long is here.
    let first = c.in_ok-sci.ensures.found sci _ is.0 (here ∙ append_assoc sci _ rest) in
    let second = c.in_ok-an.ensures.found an _ is.1 first.1 in
    let third = c.in_ok-key.ensures.found sa.key _ (long is.2) (second.1 ∙ append_assoc sa.key _ rest) in
    let fourth = c.in_ok-start.ensures.found start _ is.3 third.1 in
    never _ (c.in_err-offset.ensures.found sa.offset rest fourth.1)) r kind range whole)

pub returns-clause-some : goal.returns-clause-some
returns-clause-some c =
    let key = c.in_ok-key.ensures.some.0 in (
      (
        c.in_ok-sci.ensures.some.0,
        c.in_ok-an.ensures.some.0,
        is_key c.args.length c.in_ok-key.key key,
        c.in_ok-start.ensures.some.0,
      ),
      by_its_length c.args.length c.in_ok-key.key kinds.RxInstall kinds.RxInstallLong key,
      rx_whole c.in_ok-sci.sci c.in_ok-an.an c.in_ok-key.key (to_be_bytes w32 c.in_ok-start.start)
          (octets_of c.in_ok-offset.offset ∷ []) c.args.from.now c.sci.new.self c.an.new.self c.key.new.self
          c.start.new.self c.offset.new.self
          c.in_ok-sci.ensures.some.1 c.in_ok-an.ensures.some.1 c.in_ok-key.ensures.some.1 c.in_ok-start.ensures.some.1
          c.in_ok-offset.ensures.some,
    )

pub returns-clause-found : goal.returns-clause-found
returns-clause-found c = one_read _ _ _ _ (returns-clause-some c)
