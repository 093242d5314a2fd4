-- Places have keys, and bounds on numbers; a log has keys with numbers. Each key is at one place, each number of the
-- log is below the bound of its key's place, and each key of a place or of the log is spent.
use Rattle.std.proofs.Common.{◌≡◌, ◌<◌, ◌≤◌, ◌⊎◌, inl, inr, ℕ, true, sym, ◌∙◌, subst, arith, List}
use Rattle.std.specs.Prelude.{Option, Some, None}
use Rattle.macs_config.specs.Config.{is_spent}

pub record IsLedger {P K : Type 0} (print : K → List ℕ) (key_at : P → Option K) (spent : List (List ℕ)) (bound : P
    → Option ℕ) (log : K → ℕ → Type 0) : Type 0 where
  pub below : (p : P) (k : K) → key_at p ≡ Some k → (m : ℕ) × (bound p ≡ Some m) × ((n : ℕ) → log k n → n < m)
  pub logged : (k : K) (n : ℕ) → log k n → is_spent spent (print k) ≡ true
  pub placed : (p : P) (k : K) → key_at p ≡ Some k → is_spent spent (print k) ≡ true
  pub once : (p q : P) (k : K) → key_at p ≡ Some k → key_at q ≡ Some k → p ≡ q

pub none_some : {X : Type 0} (x : X) → ◌≡◌ {A = Option X} None (Some x) → ⊥
none_some x is = cc

pub some_one : {X : Type 0} (o : Option X) (x y : X) → o ≡ Some x → o ≡ Some y → x ≡ y
some_one o x y is js = cc

-- fewer places, higher bounds, more spent, the same log
pub ledger-kept : {P K : Type 0} (print : K → List ℕ) (key_at key_later : P → Option K) (spent more : List (List ℕ))
    (bound later : P → Option ℕ) (log : K → ℕ → Type 0)
    → ((p : P) (k : K) → key_later p ≡ Some k → key_at p ≡ Some k)
    → ((f : List ℕ) → is_spent spent f ≡ true → is_spent more f ≡ true)
    → ((p : P) (k : K) (m : ℕ) → key_later p ≡ Some k → bound p ≡ Some m → (l : ℕ) × (later p ≡ Some l) × (m ≤ l))
    → IsLedger print key_at spent bound log → IsLedger print key_later more later log
ledger-kept print key_at key_later spent more bound later log was wider higher is = record {
  below = λ p k here.
      let before = is.below p k (was p k here) in
      let up = higher p k before.0 here before.1 in (
        up.0,
        up.1,
        λ n used. let low : n < before.0 = before.2 n used in let over : before.0 ≤ up.0 = up.2 in
            omega (arith, low, over),
      );
  logged = λ k n used. wider (print k) (is.logged k n used);
  placed = λ p k here. wider (print k) (is.placed p k (was p k here));
  once = λ p q k here there. is.once p q k (was p k here) (was q k there);
}

-- a key that was not spent, at one place
pub ledger-installed : {P K : Type 0} (print : K → List ℕ) (key_at key_later : P → Option K)
    (spent more : List (List ℕ)) (bound later : P → Option ℕ) (log : K → ℕ → Type 0) (at : P) (key : K) (start : ℕ)
    → ¬ (is_spent spent (print key) ≡ true)
    → ((f : List ℕ) → is_spent spent f ≡ true → is_spent more f ≡ true)
    → is_spent more (print key) ≡ true
    → ((p : P) → ((p ≡ at) × (key_later p ≡ Some key) × (later p ≡ Some start))
    ⊎ ((key_later p ≡ key_at p) × (later p ≡ bound p)))
    → IsLedger print key_at spent bound log → IsLedger print key_later more later log
ledger-installed {P} {K} print key_at key_later spent more bound later log at key start unspent wider here cases is =
    let never : (k : K) → k ≡ key → ¬ (is_spent spent (print k) ≡ true) =
    λ k same was. unspent (subst (λ (k : K). is_spent spent (print k) ≡ true) same was) in
    record {
      below = λ p k has. elim (cases p) [
        | inl there ↦
            (start, there.2, λ n used. absurd (never k (some_one (key_later p) k key has there.1) (is.logged k n used)))
        | inr apart ↦
            let before = is.below p k (sym apart.0 ∙ has) in
            (before.0, apart.1 ∙ before.1, before.2)
      ];
      logged = λ k n used. wider (print k) (is.logged k n used);
      placed = λ p k has. elim (cases p) [
        | inl there ↦ subst (λ (k : K). is_spent more (print k) ≡ true) (some_one (key_later p) key k there.1 has) here
        | inr apart ↦ wider (print k) (is.placed p k (sym apart.0 ∙ has))
      ];
      once = λ p q k has also. elim (cases p) [
        | inl p_there ↦ elim (cases q) [
          | inl q_there ↦ p_there.0 ∙ sym q_there.0
          | inr q_apart ↦ absurd
              (never k (some_one (key_later p) k key has p_there.1) (is.placed q k (sym q_apart.0 ∙ also)))
        ]
        | inr p_apart ↦ elim (cases q) [
          | inl q_there ↦ absurd
              (never k (some_one (key_later q) k key also q_there.1) (is.placed p k (sym p_apart.0 ∙ has)))
          | inr q_apart ↦ is.once p q k (sym p_apart.0 ∙ has) (sym q_apart.0 ∙ also)
        ]
      ];
    }

-- one number more in the log, below the bound of its key's place
pub ledger-logged : {P K : Type 0} (print : K → List ℕ) (key_at : P → Option K) (spent : List (List ℕ)) (bound : P
    → Option ℕ) (log more : K → ℕ → Type 0) (at : P) (key : K) (n m : ℕ)
    → key_at at ≡ Some key → bound at ≡ Some m → n < m
    → ((k : K) (i : ℕ) → more k i → ((k ≡ key) × (i ≡ n)) ⊎ log k i)
    → IsLedger print key_at spent bound log → IsLedger print key_at spent bound more
ledger-logged {P} {K} print key_at spent bound log more at key n m is_key is_bound low cases is = record {
  below = λ p k has.
      let before = is.below p k has in (
        before.0,
        before.1,
        λ i used. elim (cases k i used) [
          | inl now ↦
              let same : p ≡ at = is.once p at key (subst (λ (k : K). key_at p ≡ Some k) now.0 has) is_key in
              let there : bound at ≡ Some before.0 = subst (λ (p : P). bound p ≡ Some before.0) same before.1 in
              let is_m : before.0 ≡ m = some_one (bound at) before.0 m there is_bound in
              let is_n : i ≡ n = now.1 in
              omega (arith, is_m, is_n, low)
          | inr earlier ↦ before.2 i earlier
        ],
      );
  logged = λ k i used. elim (cases k i used) [
    | inl now ↦ subst (λ (k : K). is_spent spent (print k) ≡ true) (sym now.0) (is.placed at key is_key)
    | inr earlier ↦ is.logged k i earlier
  ];
  placed = is.placed;
  once = is.once;
}
