-- A call of a disk in a file is a call of a disk.
use Rattle.std.proofs.Common.{◌≡◌, ◌≤◌, ◌<◌, ◌+◌, ◌-◌, ◌^◌, ◌&&◌, ◌==◌, ◌⊎◌, ◌∷◌, ◌++◌, ◌∙◌, ◌↔◌, inl, inr, ℕ, zero}
use Rattle.std.proofs.Common.{suc, Bool, true, false, List, [], length, get_or, nat_le, refl, ap, arith, subst, sym}
use Rattle.std.proofs.Common.{Result, Ok, Err, OnOk, OnErr, IsErr}
use Rattle.std.proofs.lemmas.Bool.{cases_lt, and_parts}
use Rattle.std.proofs.lemmas.List.{get_or_past}
use Rattle.std.specs.declared.snapshot.Snapshot.{Snapshot}
use Rattle.macs_disk.specs.States.{DiskState}
use Rattle.macs_disk.specs.Disk.{Disk, IsDeviceCall}
use Rattle.macs_disk.specs.Files.{FileState, WritesAll, file_in_doubt}
use Rattle.macs_disk.specs.FileDisks.{IsRefused, disk_in_file, is_ready, keeps_disk, state_in_file}
use Rattle.macs_disk.specs.FileEvidence.{KeepsDisk, keeps}
use Rattle.macs_disk.specs.Layouts.{place}
use Rattle.macs_disk.specs.declared.disk.DeviceFault.{DeviceFault}
use Rattle.macs_disk.specs.declared.file.FileDisk.{FileDisk}
use Rattle.macs_disk.specs.declared.layout.Layout.{Layout}
use Rattle.macs_disk.proofs.FileWrites.{get_or-front, get_or-behind}
use Rattle.macs_disk.proofs.ListedCalls.{test_full}

abbrev most : ℕ
most = 2 ^ 64 - 1

get_or-any : {X : Type 0} (xs : List X) (i : ℕ) (d e : X) → i < length xs → get_or xs i d ≡ get_or xs i e
get_or-any [] i d e lt = absurd (omega (arith, lt))
get_or-any (x ∷ xs) zero d e lt = refl
get_or-any (x ∷ xs) (suc i) d e lt = get_or-any xs i d e (omega (arith, lt))

-- what the disk answers is what the file answered
pub on-ok : {T E U D : Type 0} (answer : Result T E) (result : Result U D) (P : Type 0) → (IsErr result ↔ IsErr answer)
    → OnOk answer P → OnOk result P
on-ok (Ok x) (Ok y) P alike holds = holds
on-ok (Err e) (Ok y) P alike holds = absurd (let no : false ≡ true = alike.1 refl in cc)
on-ok answer (Err d) P alike holds = tt

pub on-err : {T E U D : Type 0} (answer : Result T E) (result : Result U D) (P : Type 0) → (IsErr result ↔ IsErr answer)
    → OnErr answer P → OnErr result P
on-err (Err e) (Err d) P alike holds = holds
on-err (Ok x) (Err d) P alike holds = absurd (let no : false ≡ true = alike.0 refl in cc)
on-err answer (Ok y) P alike holds = tt

pub answered-write : {T E U D : Type 0} (old new : FileState) (at : ℕ) (octets : List ℕ) (answer : Result T E)
    (result : Result U D) → (IsErr result ↔ IsErr answer)
    → WritesAll old new at octets answer → WritesAll old new at octets result
answered-write old new at octets answer result alike writes = record {
  ok = λ sure. on-ok answer result _ alike (writes.ok sure);
  err = λ sure. on-err answer result _ alike (writes.err sure);
  doubt = writes.doubt;
}

-- counts of two steps
same-count : {T E : Type 0} (result : Result T E) (new mid old : ℕ) → OnOk result (new ≡ mid) → mid ≡ old
    → OnOk result (new ≡ old)
same-count (Ok x) new mid old here before = here ∙ before
same-count (Err e) new mid old here before = tt

one-more : {T E : Type 0} (result : Result T E) (new mid old : ℕ) → OnErr result (new ≡ mid + 1) → mid ≡ old
    → OnErr result (new ≡ old + 1)
one-more (Ok x) new mid old here before = tt
one-more (Err e) new mid old here before = here ∙ ap (λ (n : ℕ). n + 1) before

-- a call that a worn disk refuses
pub worn-call : {T E : Type 0} (disk : Disk) (result : Result T E) → IsErr result → disk.worn ≡ true
    → IsDeviceCall disk disk result
worn-call disk (Ok x) is worn = absurd cc
worn-call disk (Err e) is worn = record {
  work = record {
    works = record {
      later = omega arith;
      past = λ k le. refl;
      failures = omega arith;
      worn = λ was. was;
      sectors = refl;
      honest = refl;
    };
    ok = tt;
    err = inr worn;
  };
  at_most_one = omega arith;
  one = λ fresh. absurd (let no : true ≡ false = sym worn ∙ fresh in cc);
  counted = λ fresh. absurd (let no : true ≡ false = sym worn ∙ fresh in cc);
  refused = λ _. refl;
  stands = λ _. refl;
  alike = λ _. refl;
}

module _ {F : Type 0} (file : F → FileState) where
  -- a disk in a file by its parts
  abbrev pub disk_by : Layout → List (Snapshot F) → Snapshot F → ℕ → ℕ → ℕ → Disk
  disk_by layout past shown sectors clock failures =
      record {
        sectors = sectors;
        past = λ k. state_in_file layout (file (get_or past k shown).value);
        clock = clock;
        failures = failures;
        honest = keeps_disk layout (file shown.value) && is_ready layout sectors (file (get_or past 0 shown).value);
        worn = clock == 2 ^ 64 - 1;
        prompt = true;
      }

  -- its state now is the file's
  pub now-is : (layout : Layout) (past : List (Snapshot F)) (shown : Snapshot F) (clock : ℕ) → length past ≡ clock
      → state_in_file layout (file (get_or past clock shown).value) ≡ state_in_file layout (file shown.value)
  now-is layout past shown clock kept =
      ap (λ (s : Snapshot F). state_in_file layout (file s.value)) (get_or_past past clock shown (omega (arith, kept)))

  -- and that of its file as it is left, which is the one that it shows, or that one in doubt
  pub left-as : (layout : Layout) (past : List (Snapshot F)) (shown : Snapshot F) (left : F) (clock : ℕ)
      → length past ≡ clock
      → (file left ≡ file shown.value) ⊎ (file left ≡ file_in_doubt (file shown.value))
      → state_in_file layout (file left) ≡ state_in_file layout (file (get_or past clock shown).value)
  unfolding state_in_file
  left-as layout past shown left clock kept (inl same) = ap (state_in_file layout) same
      ∙ sym (now-is layout past shown clock kept)
  left-as layout past shown left clock kept (inr doubt) = ap (state_in_file layout) doubt
      ∙ sym (now-is layout past shown clock kept)

  past-same : (past : List (Snapshot F)) (shown new : Snapshot F) (k : ℕ) → k ≤ length past
      → get_or (past ++ shown ∷ []) k new ≡ get_or past k shown
  past-same past shown new k le = elim (cases_lt k (length past)) [
    | inl before ↦ get_or-front past (shown ∷ []) k new before ∙ get_or-any past k new shown before
    | inr from ↦
        let place : k ≡ length past + 0 = omega (arith, le, from) in
        ap (λ (i : ℕ). get_or (past ++ shown ∷ []) i new) place ∙ get_or-behind past (shown ∷ []) 0 new
        ∙ sym (get_or_past past k shown from)
  ]

  -- the file before the first call stays the same one
  pub first-same : (past : List (Snapshot F)) (shown new : Snapshot F)
      → get_or (past ++ shown ∷ []) 0 new ≡ get_or past 0 shown
  first-same past shown new = past-same past shown new 0 (omega arith)

  -- the disk is as honest after a call that left the file as fit for it
  pub honest-goes-on : (layout : Layout) (sectors : ℕ) (past : List (Snapshot F)) (shown new : Snapshot F)
      → keeps_disk layout (file new.value) ≡ keeps_disk layout (file shown.value)
      → (keeps_disk layout (file new.value) && is_ready layout sectors (file (get_or (past ++ shown ∷ []) 0 new).value))
      ≡ (keeps_disk layout (file shown.value) && is_ready layout sectors (file (get_or past 0 shown).value))
  honest-goes-on layout sectors past shown new same = λ i. same i
      && is_ready layout sectors (file (first-same past shown new i).value)

  -- a call that reached the file, or was refused since an earlier one failed
  pub file-call : {T E : Type 0} (layout kept_layout : Layout) (past more : List (Snapshot F)) (shown new : Snapshot F)
      (sectors count clock later failures fails : ℕ) (result : Result T E)
      → length past ≡ clock → kept_layout ≡ layout → more ≡ past ++ shown ∷ [] → clock < most → later ≡ clock + 1
      → count ≡ sectors
      → OnOk result (fails ≡ failures) → OnErr result (fails ≡ failures + 1)
      → keeps_disk layout (file new.value) ≡ keeps_disk layout (file shown.value)
      → IsDeviceCall (disk_by layout past shown sectors clock failures)
      (disk_by kept_layout more new count later fails) result
  file-call layout kept_layout past more shown new sectors count clock later failures fails (Ok x) kept lay goes_on lt
      next same ok err fit =
      rw (lay, goes_on, next, same, ok) (record {
        work = record {
          works = record {
            later = omega arith;
            past = λ k le. ap (λ (s : Snapshot F). state_in_file layout (file s.value))
                (past-same past shown new k (omega (arith, le, kept)));
            failures = omega arith;
            worn = λ was. let is = test_full clock was in absurd (omega (arith, is, lt));
            sectors = refl;
            honest = honest-goes-on layout sectors past shown new fit;
          };
          ok = refl;
          err = tt;
        };
        at_most_one = omega arith;
        one = λ _. refl;
        counted = λ _. tt;
        refused = λ was. let is = test_full clock was in absurd (omega (arith, is, lt));
        stands = λ was. let is = test_full clock was in absurd (omega (arith, is, lt));
        alike = λ was. let is = test_full clock was in absurd (omega (arith, is, lt));
      })
  file-call layout kept_layout past more shown new sectors count clock later failures fails (Err e) kept lay goes_on lt
      next same ok err fit =
      rw (lay, goes_on, next, same, err) (record {
        work = record {
          works = record {
            later = omega arith;
            past = λ k le. ap (λ (s : Snapshot F). state_in_file layout (file s.value))
                (past-same past shown new k (omega (arith, le, kept)));
            failures = omega arith;
            worn = λ was. let is = test_full clock was in absurd (omega (arith, is, lt));
            sectors = refl;
            honest = honest-goes-on layout sectors past shown new fit;
          };
          ok = tt;
          err = inl refl;
        };
        at_most_one = omega arith;
        one = λ _. refl;
        counted = λ _. refl;
        refused = λ was. let is = test_full clock was in absurd (omega (arith, is, lt));
        stands = λ was. let is = test_full clock was in absurd (omega (arith, is, lt));
        alike = λ was. let is = test_full clock was in absurd (omega (arith, is, lt));
      })

  -- the same of a disk that one step begins the call of, and another ends it
  pub two-step-call : {T E : Type 0} (old mid new : FileDisk F) (result : Result T E) → mid.layout ≡ old.layout
      → mid.sectors ≡ old.sectors
      → mid.past.items ≡ old.past.items ++ old.shown ∷ [] → old.clock < most → mid.clock ≡ old.clock + 1
      → mid.failures ≡ old.failures
      → new.layout ≡ mid.layout → new.sectors ≡ mid.sectors → new.past.items ≡ mid.past.items → new.clock ≡ mid.clock
      → OnOk result (new.failures ≡ mid.failures) → OnErr result (new.failures ≡ mid.failures + 1)
      → keeps_disk old.layout (file new.shown.value) ≡ keeps_disk old.layout (file old.shown.value)
      → IsDeviceCall (disk_in_file file old) (disk_in_file file new) result
  two-step-call old mid new result lay count goes_on lt next steady lay_on count_on past_on clock_on ok err fit =
      file-call old.layout new.layout old.past.items new.past.items old.shown new.shown old.sectors new.sectors
      old.clock new.clock old.failures new.failures result
      old.kept (lay_on ∙ lay) (past_on ∙ goes_on) lt (clock_on ∙ next) (count_on ∙ count)
      (same-count result new.failures mid.failures old.failures ok steady)
      (one-more result new.failures mid.failures old.failures err steady) fit

  -- what a call did to the file it did to the disk
  pub effect : (P : DiskState → DiskState → Type 0) (layout kept_layout : Layout) (past more : List (Snapshot F))
      (shown new : Snapshot F) (clock later : ℕ)
      → length past ≡ clock → length more ≡ later → kept_layout ≡ layout
      → P (state_in_file layout (file shown.value)) (state_in_file layout (file new.value))
      → P (state_in_file layout (file (get_or past clock shown).value))
      (state_in_file kept_layout (file (get_or more later new).value))
  effect P layout kept_layout past more shown new clock later kept goes_on lay holds =
      rw (lay, now-is layout past shown clock kept, now-is layout more new later goes_on) holds

  -- a call that a worn disk refuses
  pub refused-worn : (it : FileDisk F) → it.clock ≡ most → IsRefused file it it
  refused-worn it full =
      let worn : (it.clock == 2 ^ 64 - 1) ≡ true = rw full refl in
      record { call = λ answer is. worn-call (disk_in_file file it) answer is worn; still = refl; stopped = inr worn }

  -- a call that is refused since an earlier one failed
  pub refused-failed : (old new : FileDisk F) → old.clock < most → new.past.items ≡ old.past.items ++ old.shown ∷ []
      → new.clock ≡ old.clock + 1 → new.failures ≡ old.failures + 1
      → new.shown ≡ old.shown → new.layout ≡ old.layout → new.sectors ≡ old.sectors → new.is_failed ≡ true
      → IsRefused file old new
  refused-failed old new lt goes_on next one same lay count stopped = record {
    call = by_answer;
    still = effect (λ s t. t ≡ s) old.layout new.layout old.past.items new.past.items old.shown new.shown old.clock
        new.clock old.kept new.kept lay
        (ap (λ (s : Snapshot F). state_in_file old.layout (file s.value)) same);
    stopped = inl stopped;
  } where
    by_answer : (answer : Result (Unit {0}) DeviceFault) → IsErr answer
        → IsDeviceCall (disk_in_file file old) (disk_in_file file new) answer
    by_answer (Ok x) is = absurd cc
    by_answer (Err e) is =
        file-call old.layout new.layout old.past.items new.past.items old.shown new.shown old.sectors new.sectors
        old.clock new.clock old.failures new.failures (Err e)
        old.kept lay goes_on lt next count tt one (ap (λ (s : Snapshot F). keeps_disk old.layout (file s.value)) same)

  -- what was done to the file that went out and came back
  pub through : (P : DiskState → DiskState → Type 0) (layout : Layout) (lent back : F) (shown new : Snapshot F)
      → lent ≡ shown.value → new.value ≡ back
      → P (state_in_file layout (file lent)) (state_in_file layout (file back))
      → P (state_in_file layout (file shown.value)) (state_in_file layout (file new.value))
  through P layout lent back shown new went came holds =
      subst (λ (f : F). P (state_in_file layout (file f)) (state_in_file layout (file new.value))) went
      (subst (λ (f : F). P (state_in_file layout (file lent)) (state_in_file layout (file f))) (sym came) holds)

  pub fit-through : (layout : Layout) (lent back : F) (shown new : Snapshot F) → lent ≡ shown.value → new.value ≡ back
      → keeps_disk layout (file back) ≡ keeps_disk layout (file lent)
      → keeps_disk layout (file new.value) ≡ keeps_disk layout (file shown.value)
  fit-through layout lent back shown new went came fit =
      ap (λ (f : F). keeps_disk layout (file f)) came ∙ fit ∙ ap (λ (f : F). keeps_disk layout (file f)) went

  -- an honest disk's file was fit for it when it went out
  pub fit-before : (layout kept_layout : Layout) (lent back : F) (new : Snapshot F) (rest : Bool) → kept_layout ≡ layout
      → new.value ≡ back
      → keeps_disk layout (file back) ≡ keeps_disk layout (file lent)
      → (keeps_disk kept_layout (file new.value) && rest) ≡ true → KeepsDisk layout (file lent)
  fit-before layout kept_layout lent back new rest lay came fit honest =
      keeps layout (file lent)
      (sym fit ∙ sym (ap (λ (f : F). keeps_disk layout (file f)) came)
      ∙ sym (ap (λ (l : Layout). keeps_disk l (file new.value)) lay)
      ∙ (and_parts (keeps_disk kept_layout (file new.value)) rest honest).0)

  -- before the first call of an honest disk its file was clean
  pub clean-first : (layout : Layout) (sectors : ℕ) (keeps : Bool) (past : List (Snapshot F)) (shown new : Snapshot F)
      (clock : ℕ) → length past ≡ clock → clock ≡ 0
      → (keeps && is_ready layout sectors (file (get_or (past ++ shown ∷ []) 0 new).value)) ≡ true
      → (file shown.value).is_clean ≡ true
  clean-first layout sectors keeps past shown new clock kept first honest =
      let is : get_or (past ++ shown ∷ []) 0 new ≡ shown = first-same past shown new
      ∙ get_or_past past 0 shown (omega (arith, kept, first)) in
      let ready = subst (λ (s : Snapshot F). is_ready layout sectors (file s.value) ≡ true) is
      (and_parts keeps (is_ready layout sectors (file (get_or (past ++ shown ∷ []) 0 new).value)) honest).1 in
      let most = and_parts ((file shown.value).is_clean && (file shown.value).is_size_durable)
      (nat_le (place layout sectors) (file shown.value).size) ready in
      (and_parts (file shown.value).is_clean (file shown.value).is_size_durable most.0).0
