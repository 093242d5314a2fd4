-- A call of a disk in memory is a call of a disk.
use Rattle.std.proofs.Common.{Result, IsErr, ◌≡◌, ◌<◌, ◌≤◌, ◌+◌, ◌-◌, ◌^◌, ◌==◌, inl, inr, ℕ, refl, ◌∙◌, ap, arith}
use Rattle.std.proofs.Common.{true, false, List, [], ◌∷◌, ◌++◌, Ok, Err}
use Rattle.std.proofs.lemmas.Bool.{cases_eq, eq-eqb}
use Rattle.std.proofs.lemmas.Bool.Decides.{nat_tests}
use Rattle.macs_disk.specs.States.{DiskState}
use Rattle.macs_disk.specs.Disk.{IsDeviceCall}
use Rattle.macs_disk.specs.CallLists.{state_at, disk_of_calls}
use Rattle.macs_disk.specs.declared.call_list.Entry.{Entry}
use Rattle.macs_disk.proofs.Kept.{replayed-before}

abbrev most : ℕ
most = 2 ^ 64 - 1

-- a full clock, and one that is not
pub test_full : (clock : ℕ) → (clock == most) ≡ true → clock ≡ most
test_full clock is = elim (cases_eq clock most) [
  | inl same ↦ same
  | inr other ↦ absurd (let no : (clock == most) ≡ false = grind (arith, nat_tests) in cc)
]

pub test_fresh : (clock : ℕ) → clock ≤ most → (clock == most) ≡ false → clock < most
test_fresh clock fits is = elim (cases_eq clock most) [
  | inl same ↦ absurd (let yes = eq-eqb clock most same in cc)
  | inr other ↦ omega (arith, fits, other)
]

module _ (n : ℕ) (s : DiskState) (calls : List Entry) (clock failures : ℕ) where
  -- one that went well
  pub good-call : {T E : Type 0} (x : T) (m : ℕ) (more : List Entry) → m ≡ n → clock < most
      → ((k : ℕ) → k ≤ clock → state_at s more k ≡ state_at s calls k)
      → IsDeviceCall {E = E} (disk_of_calls n s calls clock failures)
      (disk_of_calls m s more (clock + 1) failures) (Ok x)
  good-call x m more same lt past = record {
    work = record {
      works = record {
        later = omega arith;
        past = past;
        failures = omega arith;
        worn = λ was. let is = test_full clock was in absurd (omega (arith, is, lt));
        sectors = same;
        honest = refl;
      };
      ok = refl;
      err = tt;
    };
    at_most_one = omega arith;
    one = λ _. refl;
    counted = λ _. tt;
    refused = λ was. let is = test_full clock was in absurd (omega (arith, is, lt));
    stands = λ was. let is = test_full clock was in absurd (omega (arith, is, lt));
    alike = λ was. let is = test_full clock was in absurd (omega (arith, is, lt));
  }

  -- one that failed
  pub bad-call : {T E : Type 0} (e : E) (c f : ℕ) → clock ≤ most → (clock ≡ most → (c ≡ clock) × (f ≡ failures))
      → (clock < most → (c ≡ clock + 1) × (f ≡ failures + 1))
      → IsDeviceCall {T = T} (disk_of_calls n s calls clock failures) (disk_of_calls n s calls c f) (Err e)
  bad-call e c f fits worn fresh = record {
    work = record {
      works = record {
        later = elim (cases_eq clock most) [
          | inl is ↦ let h = worn is in omega (arith, h.0)
          | inr other ↦ let h = fresh (omega (arith, fits, other)) in omega (arith, h.0)
        ];
        past = λ k le. refl;
        failures = elim (cases_eq clock most) [
          | inl is ↦ let h = worn is in omega (arith, h.1)
          | inr other ↦ let h = fresh (omega (arith, fits, other)) in omega (arith, h.1)
        ];
        worn = λ was. let is = test_full clock was in eq-eqb c most ((worn is).0 ∙ is);
        sectors = refl;
        honest = refl;
      };
      ok = tt;
      err = elim (cases_eq clock most) [
        | inl is ↦ inr (eq-eqb c most ((worn is).0 ∙ is))
        | inr other ↦ inl (let h = fresh (omega (arith, fits, other)) in omega (arith, h.1))
      ];
    };
    at_most_one = elim (cases_eq clock most) [
      | inl is ↦ let h = worn is in omega (arith, h.0)
      | inr other ↦ let h = fresh (omega (arith, fits, other)) in omega (arith, h.0)
    ];
    one = λ was. (fresh (test_fresh clock fits was)).0;
    counted = λ was. (fresh (test_fresh clock fits was)).1;
    refused = λ was. refl;
    stands = λ was. ap (state_at s calls) (worn (test_full clock was)).0;
    alike = λ was. let h = worn (test_full clock was) in omega (arith, h.0, h.1);
  }

-- one that failed, where nothing more was kept
pub failed_call : {T E : Type 0} (n : ℕ) (s : DiskState) (calls more : List Entry) (clock failures c f : ℕ)
    (result : Result T E) → IsErr result → clock < 2 ^ 64 → more ≡ calls
    → (clock ≡ most → (c ≡ clock) × (f ≡ failures)) → (clock < most → (c ≡ clock + 1) × (f ≡ failures + 1))
    → IsDeviceCall (disk_of_calls n s calls clock failures) (disk_of_calls n s more c f) result
failed_call n s calls more clock failures c f (Ok x) is fits same worn fresh = absurd cc
failed_call {T} n s calls more clock failures c f (Err e) is fits same worn fresh =
    rw same (bad-call n s calls clock failures e c f (omega (arith, fits)) worn fresh)

-- one that was kept
pub kept-call : {T E : Type 0} (x : T) (n m : ℕ) (s : DiskState) (calls more : List Entry) (clock failures c f : ℕ)
    (e : Entry) → m ≡ n → e.clock ≡ clock + 1 → more ≡ calls ++ e ∷ []
    → clock < most → c ≡ clock + 1 → f ≡ failures
    → IsDeviceCall {E = E} (disk_of_calls n s calls clock failures) (disk_of_calls m s more c f) (Ok x)
kept-call x n m s calls more clock failures c f e same is all lt next steady =
    rw (next, steady) (good-call n s calls clock failures x m more same lt
    (λ k le. ap (λ (es : List Entry). state_at s es k) all ∙ replayed-before s calls e k (omega (arith, is, le))))
