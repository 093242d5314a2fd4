use Rattle.std.proofs.Common.{◌≡◌, ◌∙◌, ◌-◌, ◌^◌, ◌<◌, ℕ, List, [], ◌∷◌, arith, get_or, refl}
use Rattle.macs_gf.specs.Ghash.{subkey_power}
use Rattle.macs_gf.proofs.Sixteen.{below_eight}
use Rattle.macs_ghash.proofs.StrideSums.{first_power, power_after}
use Rattle.macs_ghash.proofs.powers.powers_of.Goals as goal

pub returns : goal.returns
returns c =
    let h : ℕ = c.args.key in
    let k : h < 2 ^ 128 = omega arith in
    let are = c.requires.tables in
    let by : ℕ → ℕ = λ l. subkey_power h (2 - l) in
    let p1 : h ≡ subkey_power h 1 = first_power h k in
    let p2 : c.args.square ≡ subkey_power h 2 = c.requires.square in
    let p3 : c.product_by_first-third.result ≡ subkey_power h 3 = c.product_by_first-third.ensures by are
    ∙ power_after h h 1 k p1 in
    let p4 : c.product_by_first-fourth.result ≡ subkey_power h 4 = c.product_by_first-fourth.ensures by are
    ∙ power_after h c.args.square 2 k p2 in
    let p5 : c.product_by_first-fifth.result ≡ subkey_power h 5 = c.product_by_first-fifth.ensures by are
    ∙ power_after h c.product_by_first-third.result 3 k p3 in
    let p6 : c.product_by_first-sixth.result ≡ subkey_power h 6 = c.product_by_first-sixth.ensures by are
    ∙ power_after h c.product_by_first-fourth.result 4 k p4 in
    let p7 : c.product_by_first-seventh.result ≡ subkey_power h 7 = c.product_by_first-seventh.ensures by are
    ∙ power_after h c.product_by_first-fifth.result 5 k p5 in
    let p8 : c.product_by_first-eighth.result ≡ subkey_power h 8 = c.product_by_first-eighth.ensures by are
    ∙ power_after h c.product_by_first-sixth.result 6 k p6 in
    let all : List ℕ = c.product_by_first-eighth.result ∷ c.product_by_first-seventh.result
    ∷ c.product_by_first-sixth.result ∷ c.product_by_first-fifth.result ∷ c.product_by_first-fourth.result
    ∷ c.product_by_first-third.result ∷ c.args.square ∷ h ∷ [] in
    record {
      size = refl;
      each = below_eight (λ l. get_or all l 0 ≡ subkey_power h (8 - l)) p8 p7 p6 p5 p4 p3 p2 p1;
      small = k;
    }
