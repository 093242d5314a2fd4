use Rattle.std.proofs.Common.{◌≡◌, ◌++◌, ◌∙◌, ◌∷◌, List, ℕ, refl, sym, ap}
use Rattle.std.proofs.lemmas.Slice.Eq.{bytes_eq-Decides}
use Rattle.macs_record.specs.Layout.{record_mark, kind_number}
use Rattle.macs_record.proofs.Numbers.{never}
use Rattle.macs_record.proofs.RecordKinds.{kind_read}
use Rattle.macs_record.proofs.decoding.read_kind.Goals as goal

pub returns-in_err-mark-clause-found : goal.returns-in_err-mark-clause-found
returns-in_err-mark-clause-found c =
    λ kind rest here. absurd (never _ (c.in_err-mark.ensures.found record_mark (kind_number kind ∷ rest) refl here))

pub returns-in_err-number-clause-found : goal.returns-in_err-number-clause-found
returns-in_err-number-clause-found c = λ kind rest here.
    let first = c.in_ok-mark.ensures.found record_mark (kind_number kind ∷ rest) refl here in
    absurd (never _ (c.in_err-number.ensures.found (kind_number kind) rest first.1))

pub returns-then-eq-clause-some : goal.returns-then-eq-clause-some
returns-then-eq-clause-some c =
    let marked : c.in_ok-mark.mark ≡ record_mark =
    (bytes_eq-Decides c.in_ok-mark.mark record_mark).0 (sym c.eq.ensures ∙ c.if-eq.true) in
    kind_read c.of.result c.in_ok-number.number _ _ c.of.ensures
    (c.in_ok-mark.ensures.some.1 ∙ ap (λ (front : List ℕ). front ++ c.octets.new.self) marked
    ∙ ap (λ (rest : List ℕ). record_mark ++ rest) c.in_ok-number.ensures.some)

pub returns-then-eq-clause-found : goal.returns-then-eq-clause-found
returns-then-eq-clause-found c = λ kind rest here.
    let first = c.in_ok-mark.ensures.found record_mark (kind_number kind ∷ rest) refl here in
    let second = c.in_ok-number.ensures.found (kind_number kind) rest first.1 in
    let same = second.0 in
    let number : kind_number kind ≡ c.in_ok-number.number = cc in ((c.of.ensures kind).1 number, second.1)

pub returns-else-eq-clause-found : goal.returns-else-eq-clause-found
returns-else-eq-clause-found c = λ kind rest here.
    let first = c.in_ok-mark.ensures.found record_mark (kind_number kind ∷ rest) refl here in
    let marks = first.0 in
    let marked : c.in_ok-mark.mark ≡ record_mark = cc in
    let same = (bytes_eq-Decides c.in_ok-mark.mark record_mark).1 marked in let differ = c.if-eq.false in
    let is = c.eq.ensures in absurd cc
