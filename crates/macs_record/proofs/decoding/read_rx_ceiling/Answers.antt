use Rattle.std.proofs.Common.{◌≡◌, ◌++◌, ◌∙◌, Some, append_assoc}
use Rattle.macs_record.specs.Layout.{IsRecord, fields_of}
use Rattle.macs_record.specs.declared.record.Record.TheVariants.{RxCeiling}
use Rattle.macs_record.proofs.Numbers.{never}
use Rattle.macs_record.proofs.RecordKinds.{for_rx_ceiling}
use Rattle.macs_record.proofs.decoding.read_rx_ceiling.Goals as goal

pub returns-in_err-ceiling-clause-found : goal.returns-in_err-ceiling-clause-found
returns-in_err-ceiling-clause-found c = λ r rest range kind whole.
    absurd (for_rx_ceiling (λ r. IsRecord r → c.args.from.now ≡ fields_of r ++ rest → ⊥) (λ sci an ceiling is here.
    let first = c.in_ok-sci.ensures.found sci _ is.0 (here ∙ append_assoc sci _ rest) in
    let second = c.in_ok-an.ensures.found an _ is.1 first.1 in
    never _ (c.in_err-ceiling.ensures.found ceiling rest is.2 second.1)) r kind range whole)

pub returns-clause-found : goal.returns-clause-found
returns-clause-found c = λ r rest range kind whole. for_rx_ceiling (λ r. IsRecord r → c.args.from.now
    ≡ fields_of r ++ rest → (Some (RxCeiling c.in_ok-sci.sci c.in_ok-an.an c.in_ok-ceiling.ceiling) ≡ Some r)
    × (c.ceiling.new.self ≡ rest)) (λ sci an ceiling is here.
    let first = c.in_ok-sci.ensures.found sci _ is.0 (here ∙ append_assoc sci _ rest) in
    let second = c.in_ok-an.ensures.found an _ is.1 first.1 in
    let third = c.in_ok-ceiling.ensures.found ceiling rest is.2 second.1 in
    (let a = first.0 in let b = second.0 in let d = third.0 in cc, third.1)) r kind range whole
