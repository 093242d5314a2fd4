use Rattle.std.proofs.Common.{◌≡◌, ◌≤◌, ◌∙◌, ℕ, List, get_or, ap, zero, suc, Option, None, refl, sym, arith}
use Rattle.std.proofs.Math.Path.{fun_ext}
use Rattle.macs_config.specs.Tables.{put}
use Rattle.macs_config.proofs.Tables.{put-other}
use Rattle.macs_txsc.specs.Transmit.{TxSide}
use Rattle.macs_txsc.specs.Value.{ceilings_of, tx_side_of}
use Rattle.macs_txsc.proofs.channel.Tx.lower.Goals as goal

-- Ceilings that fell to the next packet numbers, one after the other.
abbrev Numbers : Type 0
Numbers = ℕ → Option ℕ

module _ (f n : Numbers) where
  abbrev first : Numbers
  first = put f 0 (n 0)

  abbrev second : Numbers
  second = put first 1 (n 1)

  abbrev third : Numbers
  third = put second 2 (n 2)

  abbrev fourth : Numbers
  fourth = put third 3 (n 3)

  each : ((i : ℕ) → 4 ≤ i → (n i ≡ None) × (f i ≡ None)) → (i : ℕ) → fourth i ≡ n i
  each few zero = refl
  each few (suc zero) = refl
  each few (suc (suc zero)) = refl
  each few (suc (suc (suc zero))) = refl
  each few (suc (suc (suc (suc j)))) =
      let i : ℕ = suc (suc (suc (suc j))) in
      let none = few i (omega arith) in
      put-other third 3 i (n 3) (λ same. absurd (omega (arith, same)))
      ∙ put-other second 2 i (n 2) (λ same. absurd (omega (arith, same)))
      ∙ put-other first 1 i (n 1) (λ same. absurd (omega (arith, same)))
      ∙ put-other f 0 i (n 0) (λ same. absurd (omega (arith, same))) ∙ none.1 ∙ sym none.0

-- after all four
all-lowered : (a b c d : ℕ) → a ≡ 0 → b ≡ 1 → c ≡ 2 → d ≡ 3 → (f f1 f2 f3 f4 n n1 n2 n3 : Numbers)
    → ((i : ℕ) → 4 ≤ i → (n i ≡ None) × (f i ≡ None)) → f1 ≡ put f a (n a) → n1 ≡ n → f2 ≡ put f1 b (n1 b) → n2 ≡ n1
    → f3 ≡ put f2 c (n2 c) → n3 ≡ n2 → f4 ≡ put f3 d (n3 d) → f4 ≡ n
all-lowered a b c d is0 is1 is2 is3 f f1 f2 f3 f4 n n1 n2 n3 few at1 same1 at2 same2 at3 same3 at4 =
    let e1 : f1 ≡ put f 0 (n 0) = at1 ∙ (λ i. put f (is0 i) (n (is0 i))) in
    let e2 : f2 ≡ put (put f 0 (n 0)) 1 (n 1) = at2 ∙ (λ i. put (e1 i) (is1 i) (same1 i (is1 i))) in
    let e3 : f3 ≡ put (put (put f 0 (n 0)) 1 (n 1)) 2 (n 2) =
    at3 ∙ (λ i. put (e2 i) (is2 i) ((same2 ∙ same1) i (is2 i))) in
    at4 ∙ (λ i. put (e3 i) (is3 i) ((same3 ∙ same2 ∙ same1) i (is3 i))) ∙ fun_ext (each f n few)

pub returns-clause-ceilings : goal.returns-clause-ceilings
returns-clause-ceilings c =
    all-lowered
    (get_or c.all.result 0 c.index-all-0.result)
    (get_or c.all.result 1 c.index-all-1.result)
    (get_or c.all.result 2 c.index-all-2.result)
    (get_or c.all.result 3 c.index-all-3.result)
    (ap (λ (xs : List ℕ). get_or xs 0 c.index-all-0.result) c.all.ensures)
    (ap (λ (xs : List ℕ). get_or xs 1 c.index-all-1.result) c.all.ensures)
    (ap (λ (xs : List ℕ). get_or xs 2 c.index-all-2.result) c.all.ensures)
    (ap (λ (xs : List ℕ). get_or xs 3 c.index-all-3.result) c.all.ensures)
    (ceilings_of c.args.self.now) (ceilings_of c.lower_at.new.self) (ceilings_of c.lower_at-2.new.self)
    (ceilings_of c.lower_at-3.new.self) (ceilings_of c.lower_at-4.new.self) (tx_side_of c.args.self.now).next
    (tx_side_of c.lower_at.new.self).next (tx_side_of c.lower_at-2.new.self).next
    (tx_side_of c.lower_at-3.new.self).next
    c.lower_at.ensures.few c.lower_at.ensures.ceilings (ap (λ (s : TxSide). s.next) c.lower_at.ensures.side)
    c.lower_at-2.ensures.ceilings (ap (λ (s : TxSide). s.next) c.lower_at-2.ensures.side) c.lower_at-3.ensures.ceilings
    (ap (λ (s : TxSide). s.next) c.lower_at-3.ensures.side) c.lower_at-4.ensures.ceilings
