use Rattle.std.proofs.Common.{◌≡◌, ◌∙◌, ap, arith, length, replicate, false, inl, inr, ℕ, [], sym, subst, get_or, true}
use Rattle.std.proofs.Common.{List, lit<}
use Rattle.std.specs.Prelude.{None, Option}
use Rattle.std.proofs.lemmas.List.{length-replicate, get_or-replicate, get_or_past}
use Rattle.std.proofs.lemmas.Bool.{cases_lt}
use Rattle.macs_disk.specs.States.{zero_sector, IsSector, settled_state}
use Rattle.macs_disk.specs.CallLists.{sectors_in, choice_at, disk_of_calls}
use Rattle.macs_disk.specs.Memory.{blank_memory}
use Rattle.macs_disk.specs.declared.call_list.Entry.{Entry}
use Rattle.macs_disk.proofs.Kept.{kept-begun, choices-none}
use Rattle.macs_disk.proofs.memory.MemDisk.new.Goals as goal

-- ---- a new disk in memory

-- the same everywhere, after the end too
get_or-same : {X : Type 0} (n i : ℕ) (x : X) → get_or (replicate n x) i x ≡ x
get_or-same n i x = elim (cases_lt i n) [
  | inl lt ↦ get_or-replicate n i x x lt
  | inr le ↦ get_or_past (replicate n x) i x (omega (arith, length-replicate n x, le))
]

get_or-all : {X : Type 0} (xs : List X) (n i : ℕ) (x : X) → xs ≡ replicate n x → get_or xs i x ≡ x
get_or-all {X} xs n i x is = ap (λ (l : List X). get_or l i x) is ∙ get_or-same n i x

zero-sector : IsSector zero_sector
unfolding zero_sector
zero-sector = record { size = length-replicate {A = ℕ} 512 0; octets = λ i. rw (get_or-same {X = ℕ} 512 i 0) (lit< tt) }

held-zeros : (n i : ℕ) → IsSector (sectors_in (replicate n zero_sector) i)
held-zeros n i = subst IsSector (sym (get_or-same n i zero_sector)) zero-sector

blank-memory : (n : ℕ) (first seen : List (List ℕ)) (choices : List (Option (List ℕ))) (es : List Entry) (c f : ℕ)
    → first ≡ replicate n zero_sector → seen ≡ replicate n zero_sector
    → choices ≡ replicate n None → es ≡ [] → c ≡ 0 → f ≡ 0
    → record {
      disk = disk_of_calls (length seen) (settled_state (sectors_in first)) es c f;
      chosen =
          choice_at choices;
    } ≡ blank_memory n
blank-memory n first seen choices es c f is_first is_seen is_choices empty is_clock is_failures =
    let size : length seen ≡ n = ap length is_seen ∙ length-replicate n zero_sector in
    rw (empty, is_clock, is_failures) (λ j. record {
      disk = record {
        sectors = size j;
        past = λ _. settled_state (λ i. get_or-all first n i zero_sector is_first j);
        clock = 0;
        failures = 0;
        honest = true;
        worn = false;
        prompt = true;
      };
      chosen = λ i. get_or-all choices n i None is_choices j;
    })

pub invariant_of-result : goal.invariant_of-result
invariant_of-result g c =
    let n = c.args.sectors in
    let flags = c.in_ok-vec.ensures.items_if_clones_equal (λ y is. is) in
    let size : length c.in_ok-zeros-2.field-0.items ≡ n = ap length c.in_ok-zeros-2.ensures
    ∙ length-replicate n zero_sector in
    let size_zeros : length (replicate n zero_sector) ≡ n = length-replicate n zero_sector in
    let size_flags : length c.in_ok-vec.field-0.items ≡ n = ap length flags ∙ length-replicate n false in
    let size_choices : length c.in_ok-nones.field-0.items ≡ n = ap length c.in_ok-nones.ensures
    ∙ length-replicate n None in
    record {
      chosen = choices-none _ _ _ (omega (arith, size, size_choices))
          (λ i. get_or-all c.in_ok-nones.field-0.items n i None c.in_ok-nones.ensures);
      kept = kept-begun (replicate n zero_sector) _ _ (omega (arith, size_zeros, size_flags))
          (λ i. get_or-all c.in_ok-vec.field-0.items n i false flags)
          (omega (arith, size_zeros)) (held-zeros n) _ _ _ _ c.in_ok-zeros.ensures c.in_ok-zeros-2.ensures
          c.in_ok-zeros-3.ensures c.new.ensures.2;
    }

pub returns-clause-ok : goal.returns-clause-ok
returns-clause-ok g c =
    blank-memory c.args.sectors _ _ _ _ _ _ c.in_ok-zeros.ensures c.in_ok-zeros-2.ensures c.in_ok-nones.ensures
    c.new.ensures.2 c.new.ensures.0 c.new.ensures.1
