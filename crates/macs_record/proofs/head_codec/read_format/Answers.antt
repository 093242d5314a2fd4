use Rattle.std.proofs.Common.{◌≡◌, ◌++◌, ◌∙◌, ℕ, List, refl, sym, ap}
use Rattle.std.specs.Int.{to_be_bytes, w32}
use Rattle.std.proofs.lemmas.Slice.Eq.{bytes_eq-Decides}
use Rattle.macs_record.specs.Heads.{head_mark, version_of}
use Rattle.macs_record.proofs.OneHead.{small_version, version_read}
use Rattle.macs_record.proofs.Numbers.{never}
use Rattle.macs_record.proofs.head_codec.read_format.Goals as goal

pub returns-in_err-mark-clause-found : goal.returns-in_err-mark-clause-found
returns-in_err-mark-clause-found c = λ format rest here.
    absurd (never _ (c.in_err-mark.ensures.found head_mark (to_be_bytes w32 (version_of format) ++ rest) refl here))

pub returns-in_err-version-clause-found : goal.returns-in_err-version-clause-found
returns-in_err-version-clause-found c = λ format rest here.
    let first = c.in_ok-mark.ensures.found head_mark (to_be_bytes w32 (version_of format) ++ rest) refl here in
    absurd (never _ (c.in_err-version.ensures.found (version_of format) rest (small_version format) first.1))

pub returns-then-eq-clause-some : goal.returns-then-eq-clause-some
returns-then-eq-clause-some c =
    let marked : c.in_ok-mark.mark ≡ head_mark =
    (bytes_eq-Decides c.in_ok-mark.mark head_mark).0 (sym c.eq.ensures ∙ c.if-eq.true) in
    version_read c.of.result c.in_ok-version.version _ _ c.of.ensures.some
    (c.in_ok-mark.ensures.some.1 ∙ ap (λ (front : List ℕ). front ++ c.octets.new.self) marked
    ∙ ap (λ (rest : List ℕ). head_mark ++ rest) c.in_ok-version.ensures.some.1)

pub returns-then-eq-clause-found : goal.returns-then-eq-clause-found
returns-then-eq-clause-found c = λ format rest here.
    let first = c.in_ok-mark.ensures.found head_mark (to_be_bytes w32 (version_of format) ++ rest) refl here in
    let second = c.in_ok-version.ensures.found (version_of format) rest (small_version format) first.1 in
    let same = second.0 in
    let version : version_of format ≡ c.in_ok-version.version = cc in (c.of.ensures.found format version, second.1)

pub returns-else-eq-clause-found : goal.returns-else-eq-clause-found
returns-else-eq-clause-found c = λ format rest here.
    let first = c.in_ok-mark.ensures.found head_mark (to_be_bytes w32 (version_of format) ++ rest) refl here in
    let marks = first.0 in
    let marked : c.in_ok-mark.mark ≡ head_mark = cc in
    let same = (bytes_eq-Decides c.in_ok-mark.mark head_mark).1 marked in let differ = c.if-eq.false in
    let is = c.eq.ensures in absurd cc
