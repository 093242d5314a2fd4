-- Entries of a list, each under an SCI: where there is one, and what is read of them after one has changed, come or
-- gone.
use Rattle.std.proofs.Common.{◌≡◌, ◌∙◌, ◌<◌, ◌≤◌, ◌+◌, ◌==◌, ℕ, zero, suc, Bool, true, false, cond, not, List, [], ◌∷◌}
use Rattle.std.proofs.Common.{◌++◌, length, map, take, drop, set, get_or, Some, None, filter, bytes_eq, refl, ap, sym}
use Rattle.std.proofs.Common.{subst, arith}
use Rattle.std.specs.Prelude.{nat_lt, position}
use Rattle.std.specs.List.{insert, position_or_len}
use Rattle.std.proofs.lemmas.Bool.{or_from, or_parts}
use Rattle.std.proofs.lemmas.Grind.{common_steps}
use Rattle.std.proofs.lemmas.List.{get_or-map, length-map, map-set, set-get_or, take_all}
use Rattle.std.proofs.lemmas.List.Folds.{list_any_at}
use Rattle.std.proofs.lemmas.List.Quantifiers.{position-Some}
use Rattle.std.proofs.lemmas.List.Recursion.{is_position_or_len}
use Rattle.std.proofs.lemmas.Option.{cond_some}
use Rattle.std.proofs.lemmas.Slice.Eq.{bytes_eq-Decides}
use Rattle.macs_config.specs.Config.{is_among}
use Rattle.macs_config.specs.Places.{IsPlace}
use Rattle.macs_config.specs.Tables.{put, put_at}
use Rattle.macs_config.proofs.Channels.{bytes_eq-sym}
use Rattle.macs_config.proofs.Tables.{put_at-number}

-- ---- where an SCI is

before_step : (other : List ℕ) (others : List (List ℕ)) (sci : List ℕ) (here : Bool) (place : ℕ)
    → bytes_eq other sci ≡ here
    → is_among (take place others) sci ≡ false
    → is_among (take (cond (not here) (1 + place) 0) (other ∷ others)) sci ≡ false
before_step other others sci true place is later = refl
before_step other others sci false place is later =
    let one_more : 1 + place ≡ suc place = omega arith in
    rw one_more (or_from (bytes_eq other sci) (is_among (take place others) sci) is later)

-- none before the first one has it
before_first : (scis : List (List ℕ)) (sci : List ℕ)
    → is_among (take (position_or_len (λ other. bytes_eq other sci) scis) scis) sci ≡ false
before_first [] sci = refl
before_first (other ∷ others) sci = before_step other others sci (bytes_eq other sci) _ refl (before_first others sci)

turned : (here : Bool) (place : ℕ) → cond (not here) (1 + place) 0 ≡ cond here 0 (1 + place)
turned true place = refl
turned false place = refl

-- an SCI that has a place is among them
pub place-among : (scis : List (List ℕ)) (sci : List ℕ) (place : ℕ) → IsPlace scis sci place → is_among scis sci ≡ true
place-among scis sci place p =
    list_any_at (λ other. bytes_eq other sci) scis place [] p.within
    ((bytes_eq-Decides (get_or scis place []) sci).1 p.there)

module _ {C : Type 0} (sci_of : C → List ℕ) where
  abbrev pub has_sci : List ℕ → C → Bool
  has_sci sci entry = bytes_eq (sci_of entry) sci

  abbrev pub is_other : List ℕ → C → Bool
  is_other sci entry = not (bytes_eq (sci_of entry) sci)

  module _ (entries items : List C) (sci : List ℕ) (same : items ≡ entries) where
    -- the place of the entry is that of its SCI
    place_is : position (has_sci sci) items ≡ position (λ other. bytes_eq other sci) (map sci_of entries)
    place_is =
        let at = is_position_or_len (λ xs. position_or_len (λ other. bytes_eq other sci) (map sci_of xs)) (has_sci sci)
        refl (λ x xs. turned (has_sci sci x) _) entries in
        ap (position (has_sci sci)) same
        ∙ (λ i. cond (nat_lt (sym at i) (sym (length-map entries sci_of) i)) (Some (sym at i)) None)

    -- the place that was found
    pub found-place : (place : ℕ) → Some place ≡ position (has_sci sci) items → IsPlace (map sci_of entries) sci place
    found-place place found =
        let is = sym (found ∙ place_is) in
        let parts = position-Some (λ other. bytes_eq other sci) (map sci_of entries) place [] is in
        let first = (cond_some _ _ place is).1 in
        record {
          within = parts.0;
          there = (bytes_eq-Decides (get_or (map sci_of entries) place []) sci).0 parts.1;
          first = ap (λ (k : ℕ). is_among (take k (map sci_of entries)) sci) (sym first)
              ∙ before_first (map sci_of entries) sci;
        }

    -- none was found
    pub found-none : None ≡ position (has_sci sci) items → is_among (map sci_of entries) sci ≡ false
    found-none none =
        let scis = map sci_of entries in
        let is : position (λ other. bytes_eq other sci) scis ≡ None = sym (none ∙ place_is) in
        let past : length scis ≤ position_or_len (λ other. bytes_eq other sci) scis = grind (arith, common_steps) in
        ap (λ (xs : List (List ℕ)). is_among xs sci)
        (sym (take_all (position_or_len (λ other. bytes_eq other sci) scis) scis past)) ∙ before_first scis sci

  module _ (entries items : List C) (place : ℕ) (same : items ≡ entries) (within : place < length items) where
    -- the SCI of the entry that is read at a place
    pub sci-at : (entry : C) → entry ≡ get_or items place entry → get_or (map sci_of entries) place [] ≡ sci_of entry
    sci-at entry is =
        let within' : place < length entries = rw same at within in
        let is' = rw same at is in
        get_or-map sci_of entries place entry [] within' ∙ sym (ap sci_of is')

    pub within-scis : place < length (map sci_of entries)
    within-scis =
        let within' : place < length entries = rw same at within in
        omega (arith, length-map entries sci_of)

  pub within-entries : (entries : List C) (place : ℕ) → place < length (map sci_of entries) → place < length entries
  within-entries entries place within = omega (arith, length-map entries sci_of)

  -- the entry at the place of an SCI has it
  pub place-there : (entries : List C) (sci : List ℕ) (place : ℕ) (d : C) → IsPlace (map sci_of entries) sci place
      → sci_of (get_or entries place d) ≡ sci
  place-there entries sci place d p =
      sym (get_or-map sci_of entries place d [] (within-entries entries place p.within)) ∙ p.there

  -- ---- the SCIs, after an entry has changed, come or gone

  pub scis-set : (entries : List C) (place : ℕ) (new : C) (sci : List ℕ) → IsPlace (map sci_of entries) sci place
      → sci_of new ≡ sci
      → map sci_of (set entries place new) ≡ map sci_of entries
  scis-set entries place new sci p is =
      map-set sci_of entries place new ∙ ap (set (map sci_of entries) place) (is ∙ sym p.there)
      ∙ set-get_or (map sci_of entries) place []

  pub scis-insert : (entries : List C) (place : ℕ) (new : C)
      → map sci_of (insert entries place new)
      ≡ take place (map sci_of entries) ++ sci_of new ∷ drop place (map sci_of entries)
  scis-insert entries zero new = refl
  scis-insert [] (suc place) new = refl
  scis-insert (entry ∷ entries) (suc place) new = ap (λ rest. sci_of entry ∷ rest) (scis-insert entries place new)

  filter_step : (keeps : Bool) (entry : C) (entries : List C) (rest : List (List ℕ)) → map sci_of entries ≡ rest
      → map sci_of (cond keeps (entry ∷ entries) entries) ≡ cond keeps (sci_of entry ∷ rest) rest
  filter_step true entry entries rest later = ap (λ xs. sci_of entry ∷ xs) later
  filter_step false entry entries rest later = later

  pub scis-filter : (entries : List C) (sci : List ℕ)
      → map sci_of (filter (is_other sci) entries) ≡ filter (λ other. not (bytes_eq other sci)) (map sci_of entries)
  scis-filter [] sci = refl
  scis-filter (entry ∷ entries) sci =
      filter_step (is_other sci entry) entry (filter (is_other sci) entries) _ (scis-filter entries sci)

-- ---- what is read of the first entry that has an SCI

-- this of the first one, and that where none has it
pub record IsLookup {C X : Type 0} (sci_of : C → List ℕ) (value : C → X) (none : X) (lookup : List C → List ℕ
    → X) : Type 0 where
  pub nothing : (sci : List ℕ) → lookup [] sci ≡ none
  pub next : (entry : C) (entries : List C) (sci : List ℕ)
      → lookup (entry ∷ entries) sci ≡ cond (bytes_eq (sci_of entry) sci) (value entry) (lookup entries sci)

-- of two tests of one list, the second fails where the first holds
set_step : {X : Type 0} (c s sci : List ℕ) (t : Bool) (old new rest rest' : X) → bytes_eq c s ≡ t
    → bytes_eq c sci ≡ false
    → rest ≡ cond (bytes_eq s sci) new rest' → cond t old rest ≡ cond (bytes_eq s sci) new (cond t old rest')
set_step c s sci true old new rest rest' same other later =
    let is : c ≡ s = (bytes_eq-Decides c s).0 same in
    let other' : bytes_eq s sci ≡ false = subst (λ x. bytes_eq x sci ≡ false) is other in
    rw other' refl
set_step c s sci false old new rest rest' same other later = later

set_here : {X : Type 0} (b : Bool) (new old rest : X) → cond b new rest ≡ cond b new (cond b old rest)
set_here true new old rest = refl
set_here false new old rest = refl

pub either : {X : Type 0} (b : Bool) (x : X) → cond b x x ≡ x
either true x = refl
either false x = refl

module _ {C X : Type 0} {sci_of : C → List ℕ} {value : C → X} {none : X} {lookup : List C → List ℕ → X}
    (reads : IsLookup sci_of value none lookup) where
  pub lookup-none : (entries : List C) (sci : List ℕ) → is_among (map sci_of entries) sci ≡ false
      → lookup entries sci ≡ none
  lookup-none [] sci absent = reads.nothing sci
  lookup-none (entry ∷ entries) sci absent =
      let parts = or_parts (bytes_eq (sci_of entry) sci) (is_among (map sci_of entries) sci) absent in
      reads.next entry entries sci ∙ (rw parts.0 (lookup-none entries sci parts.1))

  at_place : (entries : List C) (sci : List ℕ) (place : ℕ) (d : C) → place < length entries
      → get_or (map sci_of entries) place [] ≡ sci
      → is_among (take place (map sci_of entries)) sci ≡ false → lookup entries sci ≡ value (get_or entries place d)
  at_place [] sci place d within there first = absurd (omega arith)
  at_place (entry ∷ entries) sci zero d within there first =
      reads.next entry entries sci ∙ (rw ((bytes_eq-Decides (sci_of entry) sci).1 there) refl)
  at_place (entry ∷ entries) sci (suc place) d within there first =
      let parts = or_parts (bytes_eq (sci_of entry) sci) (is_among (take place (map sci_of entries)) sci) first in
      reads.next entry entries sci ∙ (rw parts.0 (at_place entries sci place d (omega arith) there parts.1))

  pub lookup-place : (entries : List C) (sci : List ℕ) (place : ℕ) (d : C) → IsPlace (map sci_of entries) sci place
      → lookup entries sci ≡ value (get_or entries place d)
  lookup-place entries sci place d p =
      at_place entries sci place d (within-entries sci_of entries place p.within) p.there p.first

  set_at : (entries : List C) (place : ℕ) (new : C) (sci : List ℕ) → place < length entries
      → get_or (map sci_of entries) place [] ≡ sci
      → is_among (take place (map sci_of entries)) sci ≡ false → sci_of new ≡ sci
      → (s : List ℕ) → lookup (set entries place new) s ≡ cond (bytes_eq s sci) (value new) (lookup entries s)
  set_at [] place new sci within there first is s = absurd (omega arith)
  set_at (entry ∷ entries) zero new sci within there first is s =
      let new_is : bytes_eq (sci_of new) s ≡ bytes_eq s sci = ap (λ (x : List ℕ). bytes_eq x s) is
      ∙ bytes_eq-sym sci s in
      let old_is : bytes_eq (sci_of entry) s ≡ bytes_eq s sci = ap (λ (x : List ℕ). bytes_eq x s) there
      ∙ bytes_eq-sym sci s in
      reads.next new entries s ∙ ap (λ (b : Bool). cond b (value new) (lookup entries s)) new_is
      ∙ set_here (bytes_eq s sci) (value new) (value entry) (lookup entries s)
      ∙ ap (λ (b : Bool). cond (bytes_eq s sci) (value new) (cond b (value entry) (lookup entries s))) (sym old_is)
      ∙ ap (cond (bytes_eq s sci) (value new)) (sym (reads.next entry entries s))
  set_at (entry ∷ entries) (suc place) new sci within there first is s =
      let parts = or_parts (bytes_eq (sci_of entry) sci) (is_among (take place (map sci_of entries)) sci) first in
      reads.next entry (set entries place new) s
      ∙ set_step (sci_of entry) s sci (bytes_eq (sci_of entry) s) _ _ _ _ refl parts.0
      (set_at entries place new sci (omega arith) there parts.1 is s)
      ∙ ap (cond (bytes_eq s sci) (value new)) (sym (reads.next entry entries s))

  -- another entry at the place of an SCI
  pub lookup-set : (entries : List C) (place : ℕ) (new : C) (sci : List ℕ) → IsPlace (map sci_of entries) sci place
      → sci_of new ≡ sci
      → (s : List ℕ) → lookup (set entries place new) s ≡ put_at (lookup entries) sci (value new) s
  lookup-set entries place new sci p is s =
      set_at entries place new sci (within-entries sci_of entries place p.within) p.there p.first is s

  insert_here : (entries : List C) (new : C) (s : List ℕ)
      → lookup (new ∷ entries) s ≡ put_at (lookup entries) (sci_of new) (value new) s
  insert_here entries new s = reads.next new entries s
      ∙ ap (λ (b : Bool). cond b (value new) (lookup entries s)) (bytes_eq-sym (sci_of new) s)

  -- a new entry
  pub lookup-insert : (entries : List C) (place : ℕ) (new : C) → is_among (map sci_of entries) (sci_of new) ≡ false
      → (s : List ℕ) → lookup (insert entries place new) s ≡ put_at (lookup entries) (sci_of new) (value new) s
  lookup-insert entries zero new absent s = insert_here entries new s
  lookup-insert [] (suc place) new absent s = insert_here [] new s
  lookup-insert (entry ∷ entries) (suc place) new absent s =
      let parts = or_parts (bytes_eq (sci_of entry) (sci_of new)) (is_among (map sci_of entries) (sci_of new)) absent in
      reads.next entry (insert entries place new) s
      ∙ set_step (sci_of entry) s (sci_of new) (bytes_eq (sci_of entry) s) _ _ _ _ refl parts.0
      (lookup-insert entries place new parts.1 s)
      ∙ ap (cond (bytes_eq s (sci_of new)) (value new)) (sym (reads.next entry entries s))

  gone_step : (entry : C) (kept : List C) (rest : X) (sci s : List ℕ) (dropped asked : Bool)
      → bytes_eq (sci_of entry) sci ≡ dropped → bytes_eq (sci_of entry) s ≡ asked
      → lookup kept s ≡ cond (bytes_eq s sci) none rest
      → lookup (cond (not dropped) (entry ∷ kept) kept) s ≡ cond (bytes_eq s sci) none (cond asked (value entry) rest)
  gone_step entry kept rest sci s true true gone is later =
      let gone' : bytes_eq s sci ≡ true =
      subst (λ x. bytes_eq x sci ≡ true) ((bytes_eq-Decides (sci_of entry) s).0 is) gone in
      rw gone' (rw gone' at later)
  gone_step entry kept rest sci s true false gone is later = later
  gone_step entry kept rest sci s false true gone is later =
      let other : bytes_eq s sci ≡ false =
      subst (λ x. bytes_eq x sci ≡ false) ((bytes_eq-Decides (sci_of entry) s).0 is) gone in
      reads.next entry kept s ∙ (rw (is, other) refl)
  gone_step entry kept rest sci s false false gone is later = reads.next entry kept s ∙ (rw is later)

  -- the entries of an SCI go
  pub lookup-filter : (entries : List C) (sci s : List ℕ)
      → lookup (filter (is_other sci_of sci) entries) s ≡ put_at (lookup entries) sci none s
  lookup-filter [] sci s =
      reads.nothing s ∙ sym (either (bytes_eq s sci) none) ∙ ap (cond (bytes_eq s sci) none) (sym (reads.nothing s))
  lookup-filter (entry ∷ entries) sci s =
      gone_step entry (filter (is_other sci_of sci) entries) (lookup entries s) sci s (bytes_eq (sci_of entry) sci)
      (bytes_eq (sci_of entry) s)
      refl refl (lookup-filter entries sci s)
      ∙ ap (cond (bytes_eq s sci) none) (sym (reads.next entry entries s))

-- ---- entries that have something for each number

module _ {C X : Type 0} {sci_of : C → List ℕ} {values : C → ℕ → X} {none : X} {lookup : List C → List ℕ → ℕ → X}
    (reads : (an : ℕ) → IsLookup sci_of (λ entry. values entry an) none (λ entries sci. lookup entries sci an)) where
  -- something else at a number of the entry at a place
  pub lookup-put : (entries : List C) (place : ℕ) (old new : C) (sci : List ℕ) (number : ℕ) (x : X)
      → IsPlace (map sci_of entries) sci place
      → old ≡ get_or entries place old → sci_of new ≡ sci_of old
      → ((n : ℕ) → values new n ≡ put (values old) number x n)
      → (s : List ℕ) (an : ℕ)
      → lookup (set entries place new) s an ≡ put_at (lookup entries) sci (put (lookup entries sci) number x) s an
  lookup-put entries place old new sci number x p is same changed s an =
      lookup-set (reads an) entries place new sci p (same ∙ ap sci_of is ∙ place-there sci_of entries sci place old p) s
      ∙ ap (λ (y : X). cond (bytes_eq s sci) y (lookup entries s an))
      (changed an ∙ ap (λ (y : X). cond (an == number) x y)
      (ap (λ (entry : C). values entry an) is ∙ sym (lookup-place (reads an) entries sci place old p)))
      ∙ sym (put_at-number (lookup entries) sci (put (lookup entries sci) number x) s an)
