-- What a walk over records comes to: how many there are, and the one at its place.
use Rattle.std.proofs.Common.{◌≡◌, ◌∙◌, ◌<◌, ◌≤◌, ◌+◌, ◌==◌, ℕ, zero, suc, Bool, true, false, List, [], ◌∷◌, ◌++◌}
use Rattle.std.proofs.Common.{length, take, get_or, None, refl, ap, sym, arith}
use Rattle.std.specs.List.{slice_get}
use Rattle.std.specs.Prelude.{flat_map}
use Rattle.std.proofs.lemmas.Bool.{eq-eqb}
use Rattle.std.proofs.lemmas.Bool.Decides.{nat_tests}
use Rattle.std.proofs.lemmas.List.{flat_map_more, map_more, take_all, take_more}
use Rattle.macs_config.specs.declared.command.Role.{Role}
use Rattle.macs_config.specs.declared.command.Role.TheVariants.{Receive, Transmit}
use Rattle.macs_record.specs.declared.record.Record.{Record}
use Rattle.macs_record.specs.declared.record.Record.TheVariants.{Channel, Spent}
use Rattle.macs_store.specs.Snapshot.{channel_records, record_if_any, rx_records, settings_record, snapshot}
use Rattle.macs_store.specs.Snapshot.{spent_records, tx_records, new_walk, walk_keeping, walk_past, walk_past_all}
use Rattle.macs_store.specs.Standing.{Standing}
use Rattle.macs_store.specs.declared.walk.Walk.{Walk}

-- ---- one record

-- past a record that is kept or not, as it turns out
pub past-as : (w : Walk) (r : Record) (is_here : Bool) → is_here ≡ (w.passed == w.place)
    → walk_keeping is_here w r ≡ walk_past w r
past-as w r is_here is = ap (λ (b : Bool). walk_keeping b w r) is

-- the record of some fingerprints
some-of : (role : Role) (fingerprints : List (List ℕ)) → 1 ≤ length fingerprints
    → Spent role fingerprints ∷ [] ≡ record_if_any role fingerprints
some-of role [] some = absurd (omega (arith, some))
some-of role (x ∷ xs) some = refl

pub some-record : (role : Role) (read fingerprints : List (List ℕ)) → read ≡ fingerprints → 1 ≤ length read
    → Spent role read ∷ [] ≡ record_if_any role fingerprints
some-record role read fingerprints is some = some-of role read some
    ∙ ap (λ (xs : List (List ℕ)). record_if_any role xs) is

-- ---- what it comes to

-- so many are passed
counted : (w : Walk) (rs : List Record) → (walk_past_all w rs).passed ≡ w.passed + length rs
counted w [] = (let none : w.passed ≡ w.passed + 0 = omega arith in none)
counted w (r ∷ rs) = counted (walk_past w r) rs
    ∙ (let more : (w.passed + 1) + length rs ≡ w.passed + suc (length rs) = omega arith in more)

-- after its place nothing more is kept
kept : (w : Walk) (rs : List Record) → w.place < w.passed → (walk_past_all w rs).found ≡ w.found
kept w [] past = refl
kept w (r ∷ rs) past =
    let further : w.place < w.passed + 1 = omega (arith, past) in
    let other : (w.passed == w.place) ≡ false = grind (arith, nat_tests, past) in
    kept (walk_past w r) rs further ∙ ap (λ (b : Bool). (walk_keeping b w r).found) other

-- up to its place the one that is there is found
found-at : (w : Walk) (rs : List Record) (k : ℕ) → w.place ≡ w.passed + k → w.found ≡ None
    → (walk_past_all w rs).found ≡ slice_get rs k
found-at w [] k ahead none = none
found-at w (r ∷ rs) zero ahead none =
    let past : w.place < w.passed + 1 = omega (arith, ahead) in
    let here : (w.passed == w.place) ≡ true = eq-eqb w.passed w.place (omega (arith, ahead)) in
    kept (walk_past w r) rs past ∙ ap (λ (b : Bool). (walk_keeping b w r).found) here
found-at w (r ∷ rs) (suc k) ahead none =
    let closer : w.place ≡ (w.passed + 1) + k = omega (arith, ahead) in
    let other : (w.passed == w.place) ≡ false = grind (arith, nat_tests, ahead) in
    found-at (walk_past w r) rs k closer (ap (λ (b : Bool). (walk_keeping b w r).found) other ∙ none)

module _ (place : ℕ) (rs : List Record) (w : Walk) (walked : w ≡ walk_past_all (new_walk place) rs) where
  -- from the first record on: how many there are
  pub walked-count : w.passed ≡ length rs
  walked-count = ap (λ (v : Walk). v.passed) walked ∙ counted (new_walk place) rs
      ∙ (let all : 0 + length rs ≡ length rs = omega arith in all)

  -- and the one at the place
  pub walked-found : w.found ≡ slice_get rs place
  walked-found =
      let ahead : place ≡ 0 + place = omega arith in
      ap (λ (v : Walk). v.found) walked ∙ found-at (new_walk place) rs place ahead refl

-- ---- one list after another

past-append : (w : Walk) (xs ys : List Record) → walk_past_all w (xs ++ ys) ≡ walk_past_all (walk_past_all w xs) ys
past-append w [] ys = refl
past-append w (x ∷ xs) ys = past-append (walk_past w x) xs ys

module _ {X : Type 0} (f : X → List Record) (items : List X) (old : Walk) where
  -- those of one item more
  pub past-more : (i : ℕ) (x d : X) (now new : Walk) → i < length items → x ≡ get_or items i d
      → now ≡ walk_past_all old (flat_map f (take i items))
      → new ≡ walk_past_all now (f x) → new ≡ walk_past_all old (flat_map f (take (i + 1) items))
  past-more i x d now new within is so_far added =
      added ∙ ap (λ (w : Walk). walk_past_all w (f x)) so_far ∙ sym (past-append old (flat_map f (take i items)) (f x))
      ∙ ap (λ (rs : List Record). walk_past_all old rs) (flat_map_more f [] (take i items) x
      ∙ ap (λ (xs : List X). flat_map f xs)
      (ap (λ (y : X). take i items ++ y ∷ []) is ∙ sym (take_more items i d within)))

  -- those of all items
  pub past-all : (i : ℕ) (now : Walk) → length items ≤ i → now ≡ walk_past_all old (flat_map f (take i items))
      → now ≡ walk_past_all old (flat_map f items)
  past-all i now end so_far = so_far ∙ ap (λ (xs : List X). walk_past_all old (flat_map f xs)) (take_all i items end)

module _ (scis : List (List ℕ)) (old : Walk) where
  -- the record of one channel more
  pub past-channel : (i : ℕ) (x : List ℕ) (now new : Walk) → i < length scis → x ≡ get_or scis i x
      → now ≡ walk_past_all old (channel_records (take i scis))
      → new ≡ walk_past now (Channel x) → new ≡ walk_past_all old (channel_records (take (i + 1) scis))
  past-channel i x now new within is so_far added =
      added ∙ ap (λ (w : Walk). walk_past w (Channel x)) so_far
      ∙ sym (past-append old (channel_records (take i scis)) (Channel x ∷ []))
      ∙ ap (λ (rs : List Record). walk_past_all old rs)
      (ap (λ (y : List ℕ). channel_records (take i scis) ++ Channel y ∷ []) is
      ∙ sym (map_more (λ (sci : List ℕ). Channel sci) scis i x within))

  -- and of all
  pub past-channels : (i : ℕ) (now : Walk) → length scis ≤ i → now ≡ walk_past_all old (channel_records (take i scis))
      → now ≡ walk_past_all old (channel_records scis)
  past-channels i now end so_far = so_far
      ∙ ap (λ (xs : List (List ℕ)). walk_past_all old (channel_records xs)) (take_all i scis end)

-- ---- the whole

-- five sections, one after another
past-sections : (w : Walk) (t c r p q : List Record)
    → walk_past_all (walk_past_all (walk_past_all (walk_past_all (walk_past_all w t) c) r) p) q
    ≡ walk_past_all w (t ++ (c ++ (r ++ (p ++ q))))
past-sections w t c r p q =
    let first = walk_past_all w t in
    let second = walk_past_all first c in
    let third = walk_past_all second r in
    sym (past-append w t (c ++ (r ++ (p ++ q))) ∙ past-append first c (r ++ (p ++ q)) ∙ past-append second r (p ++ q)
    ∙ past-append third p q)

module _ (s : Standing) (start settings tx channels rx spent_tx spent_rx : Walk) (scis : List (List ℕ)) where
  -- past all sections of a snapshot
  pub snapshot-walked : settings ≡ walk_past start (settings_record s.config)
      → tx ≡ walk_past_all settings (tx_records s.config s.ceilings)
      → scis ≡ s.config.channels → channels ≡ walk_past_all tx (channel_records scis)
      → rx ≡ walk_past_all channels (rx_records s.config s.ceilings)
      → spent_tx ≡ walk_past_all rx (spent_records Transmit s.config.spent_tx)
      → spent_rx ≡ walk_past_all spent_tx (spent_records Receive s.config.spent_rx)
      → spent_rx ≡ walk_past_all start (snapshot s)
  unfolding snapshot
  snapshot-walked first second same third fourth fifth sixth =
      let t = tx_records s.config s.ceilings in
      let c = channel_records s.config.channels in
      let r = rx_records s.config s.ceilings in
      let p = spent_records Transmit s.config.spent_tx in
      let q = spent_records Receive s.config.spent_rx in
      let w = walk_past start (settings_record s.config) in
      let two : tx ≡ walk_past_all w t = second ∙ ap (λ (v : Walk). walk_past_all v t) first in
      let three : channels ≡ walk_past_all (walk_past_all w t) c = third
      ∙ (λ i. walk_past_all (two i) (channel_records (same i))) in
      let four : rx ≡ walk_past_all (walk_past_all (walk_past_all w t) c) r = fourth
      ∙ ap (λ (v : Walk). walk_past_all v r) three in
      let five : spent_tx ≡ walk_past_all (walk_past_all (walk_past_all (walk_past_all w t) c) r) p = fifth
      ∙ ap (λ (v : Walk). walk_past_all v p) four in
      sixth ∙ ap (λ (v : Walk). walk_past_all v q) five ∙ past-sections w t c r p q
