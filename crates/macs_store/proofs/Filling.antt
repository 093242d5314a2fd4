-- Tables filled number by number, and channel by channel.
use Rattle.std.proofs.Common.{◌≡◌, ◌∙◌, ◌≤◌, ◌<◌, ◌+◌, ◌==◌, ℕ, Bool, true, false, cond, ◌||◌, List, length, take}
use Rattle.std.proofs.Common.{get_or, Option, None, bytes_eq, refl, ap, sym, arith}
use Rattle.std.specs.Prelude.{nat_lt}
use Rattle.std.proofs.lemmas.Bool.{eqb-false, eqb-true, le-ltb, ltb-false, ltb-true}
use Rattle.std.proofs.lemmas.List.Folds.{list_any_more}
use Rattle.std.proofs.Math.Path.{fun_ext}
use Rattle.macs_config.specs.Config.{is_among}
use Rattle.macs_config.specs.Tables.{put, put_at}
use Rattle.macs_config.proofs.Channels.{bytes_eq-sym, same_octets}
use Rattle.macs_config.proofs.Tables.{put-same, put_at-here, put_at-same, put_at-twice}

-- ---- number by number

-- what is at the numbers below this one
abbrev pub below : {X : Type 0} → ℕ → (ℕ → Option X) → ℕ → Option X
below n f k = cond (nat_lt k n) (f k) None

module _ {X : Type 0} (f : ℕ → Option X) where
  more_by : (n k : ℕ) (x : Option X) (same was becomes : Bool) → f n ≡ x → (k == n) ≡ same → nat_lt k n ≡ was
      → nat_lt k (n + 1) ≡ becomes
      → cond same x (cond was (f k) None) ≡ cond becomes (f k) None
  more_by n k x true was true is equal before after = sym is ∙ ap f (sym (eqb-true k n equal))
  more_by n k x true was false is equal before after =
      let one = eqb-true k n equal in
      let two = ltb-false k (n + 1) after in
      absurd (omega arith)
  more_by n k x false true true is equal before after = refl
  more_by n k x false true false is equal before after =
      let one = ltb-true k n before in
      let two = ltb-false k (n + 1) after in
      absurd (omega arith)
  more_by n k x false false true is equal before after =
      let one = ltb-false k n before in
      let two = ltb-true k (n + 1) after in
      absurd (eqb-false k n equal (omega arith))
  more_by n k x false false false is equal before after = refl

  pub below-more : (n : ℕ) (x : Option X) → f n ≡ x → put (below n f) n x ≡ below (n + 1) f
  below-more n x is = fun_ext (λ k. more_by n k x (k == n) (nat_lt k n) (nat_lt k (n + 1)) is refl refl refl)

  pub below-next : (n : ℕ) → below n f n ≡ None
  below-next n = ap (λ (b : Bool). cond b (f n) None) (le-ltb n n (omega arith))

  -- where there is nothing, nothing is put
  pub below-passed : (n : ℕ) → f n ≡ None → below n f ≡ below (n + 1) f
  below-passed n none = sym (put-same (below n f) n None (below-next n)) ∙ below-more n None none

  pub below-none : below 0 f ≡ (λ k. None)
  below-none = fun_ext (λ k. ap (λ (b : Bool). cond b (f k) None) (le-ltb k 0 (omega arith)))

  all_by : (n k : ℕ) (inside : Bool) → nat_lt k n ≡ inside → (n ≤ k → f k ≡ None) → cond inside (f k) None ≡ f k
  all_by n k true is none = refl
  all_by n k false is none = sym (none (ltb-false k n is))

  pub below-all : (n : ℕ) → ((k : ℕ) → n ≤ k → f k ≡ None) → below n f ≡ f
  below-all n none = fun_ext (λ k. all_by n k (nat_lt k n) refl (none k))

  module _ (old : List ℕ → ℕ → Option X) (sci : List ℕ) where
    -- the same in a table by SCI
    pub filled-none : ((an : ℕ) → old sci an ≡ None) → put_at old sci (below 0 f) ≡ old
    filled-none none = put_at-same old sci (below 0 f) (fun_ext none ∙ sym below-none)

    pub filled-next : (n : ℕ) → put_at old sci (below n f) sci n ≡ None
    filled-next n = ap (λ (g : ℕ → Option X). g n) (put_at-here old sci (below n f)) ∙ below-next n

    pub filled-more : (n : ℕ) (x : Option X) → f n ≡ x
        → put_at (put_at old sci (below n f)) sci (put (put_at old sci (below n f) sci) n x)
        ≡ put_at old sci (below (n + 1) f)
    filled-more n x is =
        ap (λ (g : ℕ → Option X). put_at (put_at old sci (below n f)) sci (put g n x)) (put_at-here old sci (below n f))
        ∙ put_at-twice old sci (below n f) (put (below n f) n x) ∙ ap (put_at old sci) (below-more n x is)

    pub filled-passed : (n : ℕ) → f n ≡ None → put_at old sci (below n f) ≡ put_at old sci (below (n + 1) f)
    filled-passed n none = ap (put_at old sci) (below-passed n none)

    pub filled-all : (n : ℕ) → ((k : ℕ) → n ≤ k → f k ≡ None) → put_at old sci (below n f) ≡ put_at old sci f
    filled-all n none = ap (put_at old sci) (below-all n none)

-- ---- channel by channel

-- what is at these SCIs
abbrev pub among : {Y : Type 0} → List (List ℕ) → (List ℕ → Y) → Y → List ℕ → Y
among scis f none s = cond (is_among scis s) (f s) none

module _ {Y : Type 0} (f : List ℕ → Y) (none : Y) where
  one_more : (sci s : List ℕ) (same was : Bool) → bytes_eq s sci ≡ same
      → cond same (f sci) (cond was (f s) none) ≡ cond (was || same) (f s) none
  one_more sci s true true is = ap f (sym (same_octets s sci is))
  one_more sci s true false is = ap f (sym (same_octets s sci is))
  one_more sci s false true is = refl
  one_more sci s false false is = refl

  pub among-more : (scis : List (List ℕ)) (i : ℕ) (sci : List ℕ) → i < length scis → sci ≡ get_or scis i sci
      → put_at (among (take i scis) f none) sci (f sci) ≡ among (take (i + 1) scis) f none
  among-more scis i sci within is =
      fun_ext (λ s. one_more sci s (bytes_eq s sci) (is_among (take i scis) s) refl
      ∙ ap (λ (b : Bool). cond b (f s) none)
      (ap (λ (b : Bool). is_among (take i scis) s || b) (bytes_eq-sym s sci ∙ ap (λ (x : List ℕ). bytes_eq x s) is)
      ∙ sym (list_any_more (λ other. bytes_eq other s) scis i sci within)))

  stays : (s : List ℕ) (inside : Bool) → (inside ≡ false → f s ≡ none) → cond inside (f s) none ≡ f s
  stays s true absent = refl
  stays s false absent = sym (absent refl)

  pub among-all : (scis : List (List ℕ)) → ((s : List ℕ) → is_among scis s ≡ false → f s ≡ none) → among scis f none ≡ f
  among-all scis absent = fun_ext (λ s. stays s (is_among scis s) (absent s))
