-- Tables with one place changed.
use Rattle.std.proofs.Common.{◌≡◌, ◌≢◌, ◌⊎◌, inl, inr, ℕ, refl, sym, ◌∙◌, ap, List, Bool, true, false, bytes_eq}
use Rattle.std.proofs.lemmas.Bool.{cases_eq, false≢true}
use Rattle.macs_config.specs.Tables.{put, put_at}
use Rattle.macs_config.proofs.Channels.{bytes_eq-itself, same_octets}
use Rattle.macs_config.proofs.Tables.{put-here, put-other, put_at-here, put_at-other}

-- ---- by number

pub put-this : {X : Type 0} (f : ℕ → X) (at i : ℕ) (x : X) → i ≡ at → put f at x i ≡ x
put-this f at i x is = ap (λ (n : ℕ). put f at x n) is ∙ put-here f at x

pub put-that : {X : Type 0} (f : ℕ → X) (at i : ℕ) (x : X) → i ≢ at → put f at x i ≡ f i
put-that f at i x apart = put-other f at i x (λ same. apart (sym same))

-- ---- by SCI

octets_by : (a b : List ℕ) (test : Bool) → bytes_eq a b ≡ test → (a ≡ b) ⊎ (a ≢ b)
octets_by a b true is = inl (same_octets a b is)
octets_by a b false is = inr (λ same. false≢true (sym is ∙ ap (λ (x : List ℕ). bytes_eq x b) same ∙ bytes_eq-itself b))

-- two SCIs are one or not
pub cases_sci : (a b : List ℕ) → (a ≡ b) ⊎ (a ≢ b)
cases_sci a b = octets_by a b (bytes_eq a b) refl

pub put_at-this : {X : Type 0} (f : List ℕ → X) (at sci : List ℕ) (x : X) → sci ≡ at → put_at f at x sci ≡ x
put_at-this f at sci x is = ap (λ (s : List ℕ). put_at f at x s) is ∙ put_at-here f at x

pub put_at-that : {X : Type 0} (f : List ℕ → X) (at sci : List ℕ) (x : X) → sci ≢ at → put_at f at x sci ≡ f sci
put_at-that f at sci x apart = put_at-other f at sci x (λ same. apart (sym same))

-- ---- by SCI and number

-- f, but x at one SCI and number
abbrev pub put_rx : {X : Type 0} → (List ℕ → ℕ → X) → List ℕ → ℕ → X → List ℕ → ℕ → X
put_rx f at number x = put_at f at (put (f at) number x)

pub put_rx-this : {X : Type 0} (f : List ℕ → ℕ → X) (at : List ℕ) (number : ℕ) (sci : List ℕ) (an : ℕ) (x : X)
    → sci ≡ at → an ≡ number
    → put_rx f at number x sci an ≡ x
put_rx-this f at number sci an x is same = ap (λ g. g an) (put_at-this f at sci (put (f at) number x) is)
    ∙ put-this (f at) number an x same

pub put_rx-that : {X : Type 0} (f : List ℕ → ℕ → X) (at : List ℕ) (number : ℕ) (sci : List ℕ) (an : ℕ) (x : X)
    → (sci ≡ at → an ≡ number → ⊥)
    → put_rx f at number x sci an ≡ f sci an
put_rx-that f at number sci an x apart = elim (cases_sci sci at) [
  | inl is ↦ ap (λ g. g an) (put_at-this f at sci (put (f at) number x) is)
      ∙ put-that (f at) number an x (λ same. apart is same) ∙ ap (λ s. f s an) (sym is)
  | inr far ↦ ap (λ g. g an) (put_at-that f at sci (put (f at) number x) far)
]

-- two places are one or not
pub cases_place : (sci : List ℕ) (an : ℕ) (at : List ℕ) (number : ℕ)
    → ((sci ≡ at) × (an ≡ number)) ⊎ (sci ≡ at → an ≡ number → ⊥)
cases_place sci an at number = elim (cases_sci sci at) [
  | inl is ↦ elim (cases_eq an number) [ inl same ↦ inl (is, same) | inr far ↦ inr (λ is same. far same) ]
  | inr far ↦ inr (λ is same. far is)
]
