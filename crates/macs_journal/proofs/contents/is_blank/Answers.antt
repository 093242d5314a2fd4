use Rattle.std.proofs.Common.{◌≡◌, ◌<◌, ◌≤◌, ◌∙◌, ◌+◌, ◌*◌, List, ℕ, arith, inl, inr, refl, subst, sym}
use Rattle.std.proofs.lemmas.Bool.{cases_lt}
use Rattle.macs_disk.specs.Files.{FileState, HasZeros}
use Rattle.macs_disk.specs.FileEvidence.{value-at}
use Rattle.macs_journal.specs.Contents.{IsUnused, sector_in}
use Rattle.macs_disk.proofs.DiskCopies.{carried}
use Rattle.macs_journal.proofs.contents.is_blank.Goals as goal

-- ---- sectors of a file's holes

-- one that has zeros is unused
hole_is_unused : (file : FileState) (number : ℕ) → HasZeros file (512 * number) (512 * number + 512)
    → IsUnused number (sector_in file number)
hole_is_unused file number zeros = inr (λ i below. inl (
    value-at file.seen (512 * number) 512 i 0 below
    ∙ zeros (512 * number + i) (omega arith) (omega (arith, below))))

-- each sector before the next one that may have others than zeros is unused, if each before this one is
unused_before : (file : FileState) (number next : ℕ)
    → ((k : ℕ) → k < number → IsUnused k (sector_in file k))
    → ((k : ℕ) → number ≤ k → k < next → HasZeros file (512 * k) (512 * k + 512))
    → (k : ℕ) → k < next → IsUnused k (sector_in file k)
unused_before file number next known zeros k below = elim (cases_lt k number) [
  | inl before ↦ known k before
  | inr behind ↦ hole_is_unused file k (zeros k (omega (arith, behind)) below)
]

pub returns-then-number-sectors-clause-found : goal.returns-then-number-sectors-clause-found
returns-then-number-sectors-clause-found g c = λ behaves.
    let inv = c.loop-round.invariant in
    let file = g.F.DiskFile.file c.args.file.now in
    let number = c.loop-round.number in
    let next = c.next_data-number.result in
    let zeros = carried
    (λ (f : FileState). (k : ℕ) → number ≤ k → k < next → HasZeros f (512 * k) (512 * k + 512)) _ _
    (inv.3 behaves) behaves c.next_data-number.ensures.zeros in (
      λ is k below. unused_before file number next (inv.4 behaves) zeros k
          (omega (arith, below, c.if-number-sectors.true)),
      λ blank. refl,
    )

pub returns-then-not-is_unused-clause-found : goal.returns-then-not-is_unused-clause-found
returns-then-not-is_unused-clause-found g c = λ behaves.
    let inv = c.loop-round.invariant in
    let next = c.next_data-number.result in
    let same = c.next_data-number.ensures.same (inv.2 ∙ behaves) ∙ inv.3 behaves in
    let octets = carried (λ (f : FileState). c.read_sector.new.sector ≡ sector_in f next) _ _ same behaves
    c.in_ok-read_sector.ensures.octets in (
      λ is. cc,
      λ blank.
          let is = c.is_unused.ensures.1
          (subst (λ (s : List ℕ). IsUnused next s) (sym octets) (blank next c.if-number-sectors.false)) in
          let not_unused = c.if-not-is_unused.true in
          cc,
    )

pub loop-round-preserved : goal.loop-round-preserved
loop-round-preserved g c =
    let inv = c.loop-round.invariant in
    let file = g.F.DiskFile.file c.args.file.now in
    let number = c.loop-round.number in
    let next = c.next_data-number.result in
    let found = c.next_data-number.ensures in (
      omega (arith, inv.0, found.after),
      omega (arith, c.if-number-sectors.false),
      c.in_ok-read_sector.ensures.steady ∙ found.steady ∙ inv.2,
      λ behaves.
          c.in_ok-read_sector.ensures.same (found.steady ∙ inv.2 ∙ behaves) ∙ found.same (inv.2 ∙ behaves)
          ∙ inv.3 behaves,
      λ behaves k below.
          let same = found.same (inv.2 ∙ behaves) ∙ inv.3 behaves in
          let octets = carried (λ (f : FileState). c.read_sector.new.sector ≡ sector_in f next) _ _ same behaves
          c.in_ok-read_sector.ensures.octets in
          let here : IsUnused next (sector_in file next) =
          subst (λ (s : List ℕ). IsUnused next s) octets (c.is_unused.ensures.0 c.if-not-is_unused.false) in
          let zeros = carried
          (λ (f : FileState). (k : ℕ) → number ≤ k → k < next → HasZeros f (512 * k) (512 * k + 512)) _ _
          (inv.3 behaves) behaves found.zeros in
          elim (cases_lt k next) [
            | inl before ↦ unused_before file number next (inv.4 behaves) zeros k before
            | inr behind ↦
                let is : next ≡ k = omega (arith, below, behind) in
                subst (λ (n : ℕ). IsUnused n (sector_in file n)) is here
          ],
    )

pub returns-clause-found : goal.returns-clause-found
returns-clause-found g c = λ behaves. (
  λ is k below.
      c.loop-round.invariant.4 behaves k (omega (arith, below, c.loop-round.invariant.0, c.loop-round-test.false)),
  λ blank. refl,
)
