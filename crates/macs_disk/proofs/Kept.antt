-- How what a disk in memory keeps goes on.
use Rattle.std.proofs.Common.{◌≡◌, ◌<◌, ◌≤◌, ◌+◌, ◌-◌, ◌^◌, inl, inr, ℕ, refl, sym, ◌∙◌, ap, subst, arith}
use Rattle.std.proofs.Common.{if◌then◌else◌, Bool, true, false, List, [], ◌∷◌, ◌++◌, length, get_or, nat_le, ◌==◌}
use Rattle.std.proofs.Common.{slice_set, get_or-set_other, length-set}
use Rattle.std.proofs.lemmas.Bool.{cases_eq, cases_lt, le-leb}
use Rattle.std.proofs.lemmas.List.{get_or_past}
use Rattle.std.proofs.lemmas.Bool.Decides.{nat_tests}
use Rattle.std.proofs.lemmas.Grind.{get_or-set_at}
use Rattle.std.proofs.lemmas.List.Elements.{recursion_from_All}
use Rattle.std.specs.Prelude.{Option, Some, None, unwrap_or}
use Rattle.std.specs.List.{All, AllByRecursion}
use Rattle.macs_disk.specs.States.{IsSector, DiskState, IsImage, put_sector, settled_state, zero_sector}
use Rattle.macs_disk.specs.CallLists.{sectors_in, flag_at, choice_at, state_after_call, state_at, disk_of_calls}
use Rattle.macs_disk.specs.CallLists.{IsSoundMemory, AreChosen}
use Rattle.macs_disk.specs.Memory.{memory_after_loss}
use Rattle.macs_disk.proofs.Images.{State-ext, put-same, put-other}
use Rattle.macs_disk.specs.declared.call_list.Entry.{Entry}
use Rattle.macs_disk.specs.declared.call_list.Call.TheVariants.{Write, Sync}

pub same-sectors : (xs ys zs : List (List ℕ)) → xs ≡ ys → ys ≡ zs → xs ≡ zs
same-sectors xs ys zs first second = first ∙ second

replayed-push : (s : DiskState) (es : List Entry) (e : Entry) (k : ℕ) → state_at s (es ++ e ∷ []) k
    ≡ (if nat_le e.clock k then state_after_call (state_at s es k) e.call else state_at s es k)
replayed-push s [] e k = refl
replayed-push s (x ∷ es) e k = replayed-push (if nat_le x.clock k then state_after_call s x.call else s) es e k

-- a call that came later doesn't count
pub replayed-before : (s : DiskState) (es : List Entry) (e : Entry) (k : ℕ) → k < e.clock
    → state_at s (es ++ e ∷ []) k ≡ state_at s es k
replayed-before s es e k lt = replayed-push s es e k
    ∙ (let no : nat_le e.clock k ≡ false = grind (arith, nat_tests) in rw no)

replayed-at : (s : DiskState) (es : List Entry) (e : Entry) (k : ℕ) → e.clock ≤ k
    → state_at s (es ++ e ∷ []) k ≡ state_after_call (state_at s es k) e.call
replayed-at s es e k le = replayed-push s es e k
    ∙ (let yes : nat_le e.clock k ≡ true = grind (arith, nat_tests) in rw yes)

replayed_still : (s : DiskState) (es : List Entry) (c k : ℕ) → AllByRecursion (λ e. e.clock ≤ c) es → c ≤ k
    → state_at s es k ≡ state_at s es c
replayed_still s [] c k all le = refl
replayed_still s (e ∷ es) c k all le =
    let at_k : nat_le e.clock k ≡ true = le-leb e.clock k (omega (arith, all.0)) in
    let at_c : nat_le e.clock c ≡ true = le-leb e.clock c all.0 in
    rw (at_k, at_c) (replayed_still (state_after_call s e.call) es c k all.1 le)

-- from the last call on nothing changes
pub replayed-later : (s : DiskState) (es : List Entry) (c k : ℕ) → All (λ e. e.clock ≤ c) es → c ≤ k
    → state_at s es k ≡ state_at s es c
replayed-later s es c k all le = replayed_still s es c k (recursion_from_All _ es all) le

-- a call more
pub replayed-next : (s : DiskState) (es : List Entry) (e : Entry) (c : ℕ) → All (λ e. e.clock ≤ c) es → e.clock ≡ c + 1
    → state_at s (es ++ e ∷ []) (c + 1) ≡ state_after_call (state_at s es c) e.call
replayed-next s es e c all is = replayed-at s es e (c + 1) (omega (arith, is))
    ∙ ap (λ (s : DiskState). state_after_call s e.call) (replayed-later s es c (c + 1) all (omega arith))

pub get_or-set : {X : Type 0} (xs : List X) (at : ℕ) (x d : X) (i : ℕ) → at < length xs
    → get_or (slice_set xs at x) i d ≡ put_sector (λ i. get_or xs i d) at x i
get_or-set xs at x d i lt = elim (cases_eq i at) [
  | inl same ↦ get_or-set_at xs at i x d same lt ∙ sym (put-same (λ i. get_or xs i d) at i x same)
  | inr other ↦ get_or-set_other xs at i x d other ∙ sym (put-other (λ i. get_or xs i d) at i x other)
]

abbrev state_of : List (List ℕ) → List (List ℕ) → List Bool → DiskState
state_of seen durable pending =
    record { seen = sectors_in seen; durable = sectors_in durable; pending = flag_at pending }

module _ (first seen durable : List (List ℕ)) (pending : List Bool) (calls : List Entry) (clock : ℕ)
    (stamped : All (λ e. e.clock ≤ clock) calls)
    (kept : IsSoundMemory first seen durable pending calls clock) where
  kept-later : (c : ℕ) → clock ≤ c → IsSoundMemory first seen durable pending calls c
  kept-later c le = record {
    is_now = replayed-later (settled_state (sectors_in first)) calls clock c stamped le ∙ kept.is_now;
    as_first = kept.as_first;
    as_durable = kept.as_durable;
    as_pending = kept.as_pending;
    small = kept.small;
    clean = kept.clean;
    whole_seen = kept.whole_seen;
    whole_durable = kept.whole_durable;
  }

  -- moments pass, in which nothing changed
  pub kept-on : (es : List Entry) (c : ℕ) → es ≡ calls → clock ≤ c → IsSoundMemory first seen durable pending es c
  kept-on es c same le =
      subst (λ (es : List Entry). IsSoundMemory first seen durable pending es c) (sym same) (kept-later c le)

  -- a sector is written
  module _ (at : ℕ) (octets : List ℕ) (e : Entry) (lt : at < length seen) (sector : IsSector octets)
      (is : e.clock ≡ clock + 1) (call : e.call ≡ Write at octets) where
    kept_write : IsSoundMemory first (slice_set seen at octets) durable (slice_set pending at true)
        (calls ++ e ∷ []) (clock + 1)
    kept_write = record {
      is_now = replayed-next (settled_state (sectors_in first)) calls e clock stamped is
          ∙ (λ j. state_after_call (kept.is_now j) (call j))
          ∙ State-ext _ (state_of (slice_set seen at octets) durable (slice_set pending at true))
          (λ i. sym (get_or-set seen at octets zero_sector i lt)) (λ i. refl)
          (λ i. sym (get_or-set pending at true false i (omega (arith, lt, kept.as_pending))));
      as_first = kept.as_first ∙ sym (length-set seen at octets);
      as_durable = kept.as_durable ∙ sym (length-set seen at octets);
      as_pending = length-set pending at true ∙ kept.as_pending ∙ sym (length-set seen at octets);
      small = omega (arith, kept.small, length-set seen at octets);
      clean = λ i not_pending. elim (cases_eq i at) [
        | inl same ↦
            let is_pending : flag_at (slice_set pending at true) i ≡ true =
            get_or-set_at pending at i true false same (omega (arith, lt, kept.as_pending)) in
            absurd (cc (is_pending, not_pending))
        | inr other ↦
            get_or-set_other seen at i octets zero_sector other
            ∙ kept.clean i (sym (get_or-set_other pending at i true false other) ∙ not_pending)
      ];
      whole_seen = λ i. elim (cases_eq i at) [
        | inl same ↦ subst IsSector (sym (get_or-set_at seen at i octets zero_sector same lt)) sector
        | inr other ↦ subst IsSector (sym (get_or-set_other seen at i octets zero_sector other)) (kept.whole_seen i)
      ];
      whole_durable = kept.whole_durable;
    }

    pub kept-write : (es : List Entry) (c : ℕ) → es ≡ calls ++ e ∷ [] → c ≡ clock + 1
        → IsSoundMemory first (slice_set seen at octets) durable (slice_set pending at true) es c
    kept-write es c all is_next = rw (all, is_next) kept_write

  -- every sector is made durable
  module _ (flags : List Bool) (e : Entry) (same_length : length flags ≡ length seen) (none : (i : ℕ)
      → flag_at flags i ≡ false) (is : e.clock ≡ clock + 1) (call : e.call ≡ Sync) where
    kept_sync : IsSoundMemory first seen seen flags (calls ++ e ∷ []) (clock + 1)
    kept_sync = record {
      is_now = replayed-next (settled_state (sectors_in first)) calls e clock stamped is
          ∙ (λ j. state_after_call (kept.is_now j) (call j))
          ∙ State-ext _ (state_of seen seen flags) (λ i. refl) (λ i. refl) (λ i. sym (none i));
      as_first = kept.as_first;
      as_durable = refl;
      as_pending = same_length;
      small = kept.small;
      clean = λ i not_pending. refl;
      whole_seen = kept.whole_seen;
      whole_durable = kept.whole_seen;
    }

    pub kept-sync : (sectors : List (List ℕ)) (es : List Entry) (c : ℕ) → sectors ≡ seen → es ≡ calls ++ e ∷ []
        → c ≡ clock + 1 → IsSoundMemory first seen sectors flags es c
    kept-sync sectors es c copied all is_next = rw (copied, all, is_next) kept_sync

-- a new record, of a disk all of whose sectors are durable
module _ (sectors : List (List ℕ)) (flags : List Bool) (clock : ℕ) (same : length flags ≡ length sectors)
    (none : (i : ℕ) → flag_at flags i ≡ false)
    (small : length sectors ≤ 65536) (whole : (i : ℕ) → IsSector (sectors_in sectors i)) where
  kept_begun : IsSoundMemory sectors sectors sectors flags [] clock
  kept_begun = record {
    is_now = State-ext (settled_state (sectors_in sectors)) (state_of sectors sectors flags) (λ i. refl) (λ i. refl)
        (λ i. sym (none i));
    as_first = refl;
    as_durable = refl;
    as_pending = same;
    small = small;
    clean = λ i no_write. refl;
    whole_seen = whole;
    whole_durable = whole;
  }

  pub kept-begun : (first seen durable : List (List ℕ)) (calls : List Entry) → first ≡ sectors → seen ≡ sectors
      → durable ≡ sectors → calls ≡ []
      → IsSoundMemory first seen durable flags calls clock
  kept-begun first seen durable calls is_first is_seen is_durable empty =
      rw (is_first, is_seen, is_durable, empty) kept_begun

pub choices-write : (seen : List (List ℕ)) (pending : List Bool) (choices : List (Option (List ℕ))) (at : ℕ)
    (octets : List ℕ) → at < length pending → AreChosen seen pending choices
    → AreChosen (slice_set seen at octets) (slice_set pending at true) choices
choices-write seen pending choices at octets lt are = record {
  as_choices = are.as_choices ∙ sym (length-set seen at octets);
  sectors = are.sectors;
  only_pending = λ i s is. elim (cases_eq i at) [
    | inl same ↦ get_or-set_at pending at i true false same lt
    | inr other ↦ get_or-set_other pending at i true false other ∙ are.only_pending i s is
  ];
}

pub choices-none : (seen : List (List ℕ)) (pending : List Bool) (choices : List (Option (List ℕ)))
    → length choices ≡ length seen → ((i : ℕ) → choice_at choices i ≡ None) → AreChosen seen pending choices
choices-none seen pending choices same none = record {
  as_choices = same;
  sectors = λ i s is. absurd (let h = none i in cc);
  only_pending = λ i s is. absurd (let h = none i in cc);
}

-- what a power loss leaves by these choices
module _ (first seen durable torn : List (List ℕ)) (pending : List Bool) (choices : List (Option (List ℕ)))
    (calls : List Entry) (clock : ℕ) (kept : IsSoundMemory first seen durable pending calls clock)
    (are : AreChosen seen pending choices) (same : length torn ≡ length seen) (given : List (Option (List ℕ)))
    (is_given : given ≡ choices)
    (said : (i : ℕ) → i < length seen → sectors_in torn i ≡ unwrap_or (choice_at given i) (sectors_in seen i)) where
  chosen : (i : ℕ) → i < length seen → sectors_in torn i ≡ unwrap_or (choice_at choices i) (sectors_in seen i)
  chosen i lt = said i lt
      ∙ ap (λ (xs : List (Option (List ℕ))). unwrap_or (choice_at xs i) (sectors_in seen i)) is_given

  -- at each sector, and after the last
  pub crash-left : (i : ℕ) → sectors_in torn i ≡ unwrap_or (choice_at choices i) (sectors_in seen i)
  crash-left i = elim (cases_lt i (length seen)) [
    | inl lt ↦ chosen i lt
    | inr le ↦ get_or_past torn i zero_sector (omega (arith, le, same))
        ∙ sym (ap (λ (o : Option (List ℕ)). unwrap_or o (sectors_in seen i))
        (get_or_past choices i None (omega (arith, le, are.as_choices))) ∙ get_or_past seen i zero_sector le)
  ]

  unchosen : (i : ℕ) (o : Option (List ℕ)) → choice_at choices i ≡ o → flag_at pending i ≡ false
      → sectors_in torn i ≡ sectors_in durable i
  unchosen i None is unwritten = crash-left i ∙ ap (λ (o : Option (List ℕ)). unwrap_or o (sectors_in seen i)) is
      ∙ kept.clean i unwritten
  unchosen i (Some s) is unwritten = absurd (let h = are.only_pending i s is in cc)

  a_sector : (i : ℕ) (o : Option (List ℕ)) → choice_at choices i ≡ o → IsSector (sectors_in torn i)
  a_sector i None is = subst IsSector
      (sym (crash-left i ∙ ap (λ (o : Option (List ℕ)). unwrap_or o (sectors_in seen i)) is)) (kept.whole_seen i)
  a_sector i (Some s) is = subst IsSector
      (sym (crash-left i ∙ ap (λ (o : Option (List ℕ)). unwrap_or o (sectors_in seen i)) is)) (are.sectors i s is)

  pub crash-whole : (i : ℕ) → IsSector (sectors_in torn i)
  crash-whole i = a_sector i (choice_at choices i) refl

  pub crash-image : IsImage (state_at (settled_state (sectors_in first)) calls clock) (sectors_in torn)
  crash-image = rw kept.is_now
      (record { kept = λ i unwritten. unchosen i (choice_at choices i) refl unwritten; whole = λ i _. crash-whole i })

  -- the disk after it
  pub crash-memory : (later : List (List ℕ)) (gone : List (Option (List ℕ))) (es : List Entry) (c f failures : ℕ)
      → later ≡ torn → ((i : ℕ) → choice_at gone i ≡ None) → es ≡ [] → c ≡ clock → f ≡ failures
      → record { disk = disk_of_calls (length torn) (settled_state (sectors_in later)) es c f; chosen = choice_at gone }
      ≡ memory_after_loss (record {
        disk = disk_of_calls (length seen) (settled_state (sectors_in first)) calls clock
            failures;
        chosen = choice_at choices;
      })
  crash-memory later gone es c f failures is_after none empty is_clock is_failures =
      let left_by : (i : ℕ) → sectors_in later i
      ≡ unwrap_or (choice_at choices i) ((state_at (settled_state (sectors_in first)) calls clock).seen i) =
      λ i. ap (λ (xs : List (List ℕ)). sectors_in xs i) is_after ∙ crash-left i
      ∙ ap (λ (s : DiskState). unwrap_or (choice_at choices i) (s.seen i)) (sym kept.is_now) in
      rw (empty, is_clock, is_failures) (λ j. record {
        disk = record {
          sectors = same j;
          past = λ _. settled_state (λ i. left_by i j);
          clock = clock;
          failures =
              failures;
          honest = true;
          worn = clock == 2 ^ 64 - 1;
          prompt = true;
        };
        chosen = λ i. none i j;
      })

  pub crash-image-later : (later : List (List ℕ)) (es : List Entry) (c : ℕ) → later ≡ torn → es ≡ [] → IsImage
      (state_at (settled_state (sectors_in first)) calls clock) (state_at (settled_state (sectors_in later)) es c).seen
  crash-image-later later es c is_after empty = rw (is_after, empty) crash-image
