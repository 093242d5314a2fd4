-- The records of a snapshot, put together: what they make of a configuration and of ceilings.
use Rattle.std.proofs.Common.{◌≡◌, ◌∙◌, ◌≤◌, ◌<◌, ◌+◌, ℕ, suc, Bool, true, cond, nat_le, List, [], ◌∷◌, ◌++◌, length}
use Rattle.std.proofs.Common.{get_or, Option, Some, None, refl, ap, sym, subst, arith, add-one, append_assoc}
use Rattle.std.specs.List.{range_with_len}
use Rattle.std.specs.Option.{option_and_then, option_map}
use Rattle.std.specs.Prelude.{flat_map}
use Rattle.std.proofs.lemmas.Bool.{and_from, and_parts, le-leb, leb-true}
use Rattle.std.proofs.lemmas.List.FromFn.{get_or-range_with_len, length-range_with_len}
use Rattle.macs_config.specs.Config.{Config, Edition}
use Rattle.macs_config.specs.Identity.{Identity}
use Rattle.macs_config.specs.Snapshot.{are_ordered, config_with_part, config_with_parts, may_follow, place_of}
use Rattle.macs_config.specs.declared.part.Part.{Part}
use Rattle.macs_record.specs.declared.record.Record.{Record}
use Rattle.macs_store.specs.Commands.{part_of}
use Rattle.macs_store.specs.Replay.{ceilings_with_record, ceilings_with_records, snapshot_parts}
use Rattle.macs_store.specs.Standing.{Ceilings}
use Rattle.macs_store.proofs.Replaying.{joined}

-- the numbers from 0 on are at their own places
pub number-at : (n i d : ℕ) → i < n → i ≡ get_or (range_with_len 0 n) i d
number-at n i d within =
    let here : i ≡ 0 + i = omega arith in
    here ∙ sym (get_or-range_with_len 0 n i d within)

-- ---- parts and ceilings of some records and of others

-- the part of a record in front of those of others
pub parts-first : (one : Option Part) (others : Option (List Part)) (part : Part) (parts : List Part) → one ≡ Some part
    → others ≡ Some parts
    → option_and_then (λ (first : Part). option_map (λ rest. first ∷ rest) others) one ≡ Some (part ∷ parts)
parts-first None others part parts is rest = cc
parts-first (Some x) None part parts is rest = cc
parts-first (Some x) (Some xs) part parts is rest = cc

parts-append : (rs more : List Record) (parts others : List Part) → snapshot_parts rs ≡ Some parts
    → snapshot_parts more ≡ Some others
    → snapshot_parts (rs ++ more) ≡ Some (parts ++ others)
parts-append [] more parts others is rest =
    let none : [] ≡ parts = cc in
    rest ∙ ap (λ (ps : List Part). Some (ps ++ others)) none
parts-append (r ∷ rs) more parts others is rest =
    let split = joined (part_of r) (snapshot_parts rs) parts is in
    parts-first (part_of r) (snapshot_parts (rs ++ more)) split.0 (split.1 ++ others) split.2
    (parts-append rs more split.1 others split.3 rest)
    ∙ ap (λ (ps : List Part). Some (ps ++ others)) split.4

ceilings-append : (k : Ceilings) (rs more : List Record)
    → ceilings_with_records k (rs ++ more) ≡ ceilings_with_records (ceilings_with_records k rs) more
ceilings-append k [] more = refl
ceilings-append k (r ∷ rs) more = ceilings-append (ceilings_with_record k r) rs more

-- what is in order from a place on is so from an earlier one
ordered-lower : (p q : ℕ) (parts : List Part) → p ≤ q → are_ordered q parts ≡ true → are_ordered p parts ≡ true
ordered-lower p q [] le is = refl
ordered-lower p q (part ∷ parts) le is =
    let split = and_parts (nat_le q (place_of part)) (are_ordered (place_of part) parts) is in
    let high = leb-true q (place_of part) split.0 in
    and_from (nat_le p (place_of part)) (are_ordered (place_of part) parts)
    (le-leb p (place_of part) (omega (arith, le, high))) split.1

-- ---- what records make

module _ (edition : Edition) (identity : Identity) where
  -- records make this of a configuration and of ceilings; their places are between two
  pub record Makes (c : Config) (k : Ceilings) (rs : List Record) (d : Config) (l : Ceilings) (p q : ℕ) : Type 0 where
    pub parts : List Part
    pub are : snapshot_parts rs ≡ Some parts
    pub made : (more : List Part)
        → config_with_parts edition identity c (parts ++ more) ≡ config_with_parts edition identity d more
    pub ordered : (more : List Part) → are_ordered q more ≡ true → are_ordered p (parts ++ more) ≡ true
    pub ceilings : ceilings_with_records k rs ≡ l

  pub none : (c : Config) (k : Ceilings) (p q : ℕ) → p ≤ q → Makes c k [] c k p q
  none c k p q le = record {
    parts = [];
    are = refl;
    made = λ more. refl;
    ordered =
        λ more is. ordered-lower p q more le is;
    ceilings = refl;
  }

  pub one : (c : Config) (k : Ceilings) (r : Record) (p : ℕ) (part : Part) → part_of r ≡ Some part
      → may_follow edition identity c part ≡ true
      → p ≤ place_of part → Makes c k (r ∷ []) (config_with_part c part) (ceilings_with_record k r) p (place_of part)
  one c k r p part is may le = record {
    parts = part ∷ [];
    are = parts-first (part_of r) (Some []) part [] is refl;
    made =
        λ more. ap (λ (b : Bool). cond b (config_with_parts edition identity (config_with_part c part) more) None) may;
    ordered = λ more rest.
        and_from (nat_le p (place_of part)) (are_ordered (place_of part) more) (le-leb p (place_of part) le) rest;
    ceilings = refl;
  }

  pub both : (c d e : Config) (k l m : Ceilings) (rs more : List Record) (p q r : ℕ) → Makes c k rs d l p q
      → Makes d l more e m q r
      → Makes c k (rs ++ more) e m p r
  both c d e k l m rs more p q r first second = record {
    parts = first.parts ++ second.parts;
    are = parts-append rs more first.parts second.parts first.are second.are;
    made = λ rest. ap (config_with_parts edition identity c) (append_assoc first.parts second.parts rest)
        ∙ first.made (second.parts ++ rest)
        ∙ second.made rest;
    ordered = λ rest is.
        subst (λ (ps : List Part). are_ordered p ps ≡ true) (sym (append_assoc first.parts second.parts rest))
        (first.ordered (second.parts ++ rest) (second.ordered rest is));
    ceilings = ceilings-append k rs more ∙ ap (λ (n : Ceilings). ceilings_with_records n more) first.ceilings
        ∙ second.ceilings;
  }

  -- what is equal to that which is made
  pub become : (c d e : Config) (k l m : Ceilings) (rs : List Record) (p q : ℕ) → d ≡ e → l ≡ m → Makes c k rs d l p q
      → Makes c k rs e m p q
  become c d e k l m rs p q config ceilings makes =
      subst (λ (x : Ceilings). Makes c k rs e x p q) ceilings
      (subst (λ (x : Config). Makes c k rs x l p q) config makes)

  -- what is equal to that of which it is made
  pub begins : (c d e : Config) (k l m : Ceilings) (rs : List Record) (p q : ℕ) → c ≡ d → k ≡ l → Makes c k rs e m p q
      → Makes d l rs e m p q
  begins c d e k l m rs p q config ceilings makes =
      subst (λ (x : Ceilings). Makes d x rs e m p q) ceilings
      (subst (λ (x : Config). Makes x k rs e m p q) config makes)

  -- places from an earlier one on
  pub lowered : (c d : Config) (k l : Ceilings) (rs : List Record) (p q r : ℕ) → p ≤ q → Makes c k rs d l q r
      → Makes c k rs d l p r
  lowered c d k l rs p q r le makes = record {
    parts = makes.parts;
    are = makes.are;
    made = makes.made;
    ordered = λ more is. ordered-lower p q (makes.parts ++ more) le (makes.ordered more is);
    ceilings = makes.ceilings;
  }

  along : {X : Type 0} (f : X → List Record) (xs : List X) (d : X) (C : ℕ → Config) (K : ℕ → Ceilings) (p : ℕ)
      → ((i : ℕ) → i < length xs → Makes (C i) (K i) (f (get_or xs i d)) (C (suc i)) (K (suc i)) p p)
      → Makes (C 0) (K 0) (flat_map f xs) (C (length xs)) (K (length xs)) p p
  along f [] d C K p step = none (C 0) (K 0) p p (omega arith)
  along f (x ∷ xs) d C K p step =
      both (C 0) (C 1) (C (suc (length xs))) (K 0) (K 1) (K (suc (length xs))) (f x) (flat_map f xs) p p p
      (step 0 (omega arith))
      (along f xs d (λ i. C (suc i)) (λ i. K (suc i)) p (λ i lt. step (suc i) (omega (arith, lt))))

  -- those of each item of a list, one after another
  pub all-items : {X : Type 0} (f : X → List Record) (xs : List X) (d : X) (C : ℕ → Config) (K : ℕ → Ceilings) (p : ℕ)
      → ((i : ℕ) → i < length xs → Makes (C i) (K i) (f (get_or xs i d)) (C (i + 1)) (K (i + 1)) p p)
      → Makes (C 0) (K 0) (flat_map f xs) (C (length xs)) (K (length xs)) p p
  all-items f xs d C K p step =
      along f xs d C K p
      (λ i lt. subst (λ (n : ℕ). Makes (C i) (K i) (f (get_or xs i d)) (C n) (K n) p p) (add-one i) (step i lt))

  -- and of each number below one
  pub all-numbers : (f : ℕ → List Record) (n : ℕ) (C : ℕ → Config) (K : ℕ → Ceilings) (p : ℕ)
      → ((i : ℕ) → i < n → Makes (C i) (K i) (f i) (C (i + 1)) (K (i + 1)) p p)
      → Makes (C 0) (K 0) (flat_map f (range_with_len 0 n)) (C n) (K n) p p
  all-numbers f n C K p step =
      let count = length-range_with_len 0 n in
      subst (λ (m : ℕ). Makes (C 0) (K 0) (flat_map f (range_with_len 0 n)) (C m) (K m) p p) count
      (all-items f (range_with_len 0 n) 0 C K p
      (λ i lt.
      let below : i < n = omega (arith, lt, count) in
      subst (λ (m : ℕ). Makes (C i) (K i) (f m) (C (i + 1)) (K (i + 1)) p p) (number-at n i 0 below) (step i below)))
