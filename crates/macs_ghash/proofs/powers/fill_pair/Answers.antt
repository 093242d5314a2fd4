use Rattle.std.proofs.Common.{◌≡◌, ◌-◌, ◌∙◌, ℕ, [], ◌∷◌, arith, get_or}
use Rattle.macs_gf.specs.Ghash.{subkey_power}
use Rattle.macs_ghash.proofs.TableProducts.{of_same_powers}
use Rattle.macs_ghash.proofs.StrideSums.{second_power, two_powers}
use Rattle.macs_ghash.specs.declared.octets.TheConstants.{SIXTEENS}
use Rattle.macs_ghash.specs.declared.tables.TheConstants.{TWO}
use Rattle.macs_ghash.proofs.powers.fill_pair.Goals as goal

pub returns-clause-square : goal.returns-clause-square
returns-clause-square c =
    let key : ℕ = c.args.key in
    c.product_by_first-square.ensures (λ l. get_or (key ∷ key ∷ []) l 0) c.fill.ensures ∙ second_power key (omega arith)

pub returns-clause-tables : goal.returns-clause-tables
returns-clause-tables c =
    let key : ℕ = c.args.key in
    let square : ℕ = c.product_by_first-square.result in
    let is : square ≡ subkey_power key 2 = c.product_by_first-square.ensures (λ l. get_or (key ∷ key ∷ []) l 0)
    c.fill.ensures ∙ second_power key (omega arith) in
    of_same_powers SIXTEENS TWO (λ l. get_or (square ∷ key ∷ []) l 0) (λ l. subkey_power key (2 - l))
    c.fill-2.new.tables
    (λ l below. two_powers key square (omega arith) is l (omega arith)) (λ p i h k. omega arith) c.fill-2.ensures
