-- Octet strings among others, and receive channels in ascending order: put among them, and filtered.
use Rattle.std.proofs.Common.{◌≡◌, ◌∙◌, ◌≤◌, ◌<◌, ◌+◌, ℕ, suc, Bool, true, false, cond, ◌&&◌, ◌||◌, List, [], ◌∷◌, ◌++◌}
use Rattle.std.proofs.Common.{length, take, drop, get_or, Some, Ordering, Less, Equal, Greater, filter, bytes_eq, refl}
use Rattle.std.proofs.Common.{ap, sym, arith, append_assoc, nat_cmp, is_lt, is_eq}
use Rattle.std.proofs.lemmas.Bool.{and_from, and_parts, or_from, or_parts}
use Rattle.std.proofs.lemmas.Slice.Eq.{bytes_eq-Decides}
use Rattle.std.proofs.lemmas.List.{drop_more, take_more}
use Rattle.std.proofs.lemmas.Map.Text.{is_eq-slice_cmp}
use Rattle.std.specs.Cmp.Lexicographic.{lists_agrees, nat_list_cmp_total, nat_list_eq_equiv, slice_cmp}
use Rattle.std.specs.Cmp.Lexicographic.{slice_partial_cmp}
use Rattle.std.specs.Ordering.{is_some_and, ordering_reverse, partial_lt}
use Rattle.macs_config.specs.Config.{comes_before, is_among, is_ascending, put_among}

-- ---- octet strings

-- what the test of two octet strings says
pub same_octets : (a b : List ℕ) → bytes_eq a b ≡ true → a ≡ b
same_octets a b = (bytes_eq-Decides a b).0

pub bytes_eq-itself : (a : List ℕ) → bytes_eq a a ≡ true
bytes_eq-itself a = (bytes_eq-Decides a a).1 refl

pub bytes_eq-sym : (a b : List ℕ) → bytes_eq a b ≡ bytes_eq b a
bytes_eq-sym a b = nat_list_eq_equiv.symm a b

-- ---- the order

-- `<` of two arrays of octets, as the definitions compare SCIs
pub before_by : (a b : List ℕ) → partial_lt (slice_partial_cmp (λ x y. Some (nat_cmp x y))) a b ≡ comes_before a b
before_by a b = ap (is_some_and is_lt) (lists_agrees {R = nat_cmp} {C = λ x y. Some (nat_cmp x y)} (λ x y. refl) a b)

less : (order : Ordering) → is_lt order ≡ true → order ≡ Less
less Less is = refl
less Equal is = cc
less Greater is = cc

pub before-trans : (a b c : List ℕ) → comes_before a b ≡ true → comes_before b c ≡ true → comes_before a c ≡ true
before-trans a b c ab bc =
    ap is_lt (nat_list_cmp_total.trans a b c (less (slice_cmp nat_cmp a b) ab) (less (slice_cmp nat_cmp b c) bc))

turned : (order : Ordering) → is_lt order ≡ false → is_eq order ≡ false → is_lt (ordering_reverse order) ≡ true
turned Less before same = cc
turned Equal before same = cc
turned Greater before same = refl

-- of two that differ one comes before the other
pub before-turned : (a b : List ℕ) → comes_before a b ≡ false → bytes_eq a b ≡ false → comes_before b a ≡ true
before-turned a b before differ =
    ap is_lt (nat_list_cmp_total.antisymm b a) ∙ turned (slice_cmp nat_cmp a b) before (is_eq-slice_cmp a b ∙ differ)

-- none of those that ascend comes before this one
abbrev leads : List ℕ → List (List ℕ) → Bool
leads sci [] = true
leads sci (other ∷ others) = comes_before sci other

ascending_parts : (sci : List ℕ) (others : List (List ℕ))
    → is_ascending (sci ∷ others) ≡ (leads sci others && is_ascending others)
ascending_parts sci [] = refl
ascending_parts sci (other ∷ others) = refl

ascending_from : (sci : List ℕ) (others : List (List ℕ)) → leads sci others ≡ true → is_ascending others ≡ true
    → is_ascending (sci ∷ others) ≡ true
ascending_from sci others first rest = ascending_parts sci others
    ∙ and_from (leads sci others) (is_ascending others) first rest

ascending_to : (sci : List ℕ) (others : List (List ℕ)) → is_ascending (sci ∷ others) ≡ true
    → (leads sci others ≡ true) × (is_ascending others ≡ true)
ascending_to sci others is = and_parts (leads sci others) (is_ascending others) (sym (ascending_parts sci others) ∙ is)

-- ---- put among

-- an SCI goes after those that it does not come before
pub put_among-behind : (sci : List ℕ) (scis : List (List ℕ)) (place : ℕ) → place < length scis
    → comes_before sci (get_or scis place []) ≡ false
    → put_among sci scis ≡ take place scis ++ put_among sci (drop place scis)
    → put_among sci scis ≡ take (place + 1) scis ++ put_among sci (drop (place + 1) scis)
put_among-behind sci scis place within behind so_far =
    so_far ∙ (rw (drop_more scis place [] within, behind, take_more scis place [] within)
    (sym (append_assoc (take place scis) (get_or scis place [] ∷ []) (put_among sci (drop (place + 1) scis)))))

-- and in front of the first that it comes before
pub put_among-front : (sci : List ℕ) (scis : List (List ℕ)) (place : ℕ) → place < length scis
    → comes_before sci (get_or scis place []) ≡ true
    → put_among sci scis ≡ take place scis ++ put_among sci (drop place scis)
    → put_among sci scis ≡ take place scis ++ sci ∷ drop place scis
put_among-front sci scis place within before so_far = so_far ∙ (rw (drop_more scis place [] within, before) refl)

length_by : (sci other : List ℕ) (others : List (List ℕ)) (before : Bool)
    → length (put_among sci others) ≡ suc (length others)
    → length (cond before (sci ∷ other ∷ others) (other ∷ put_among sci others)) ≡ suc (suc (length others))
length_by sci other others true later = refl
length_by sci other others false later = ap suc later

pub length-put_among : (sci : List ℕ) (others : List (List ℕ)) → length (put_among sci others) ≡ suc (length others)
length-put_among sci [] = refl
length-put_among sci (other ∷ others) =
    length_by sci other others (comes_before sci other) (length-put_among sci others)

exchanged : (a b c : Bool) → (a || (b || c)) ≡ (b || (a || c))
exchanged true true c = refl
exchanged true false c = refl
exchanged false b c = refl

among_by : (sci other : List ℕ) (others : List (List ℕ)) (item : List ℕ) (before : Bool)
    → is_among (put_among sci others) item ≡ (bytes_eq sci item || is_among others item)
    → is_among (cond before (sci ∷ other ∷ others) (other ∷ put_among sci others)) item
    ≡ (bytes_eq sci item || is_among (other ∷ others) item)
among_by sci other others item true later = refl
among_by sci other others item false later =
    ap (λ (b : Bool). bytes_eq other item || b) later
    ∙ exchanged (bytes_eq other item) (bytes_eq sci item) (is_among others item)

-- it is among them after it, and what was among them is
pub among-put_among : (sci : List ℕ) (others : List (List ℕ)) (item : List ℕ)
    → is_among (put_among sci others) item ≡ (bytes_eq sci item || is_among others item)
among-put_among sci [] item = refl
among-put_among sci (other ∷ others) item =
    among_by sci other others item (comes_before sci other) (among-put_among sci others item)

leads_by : (sci other first : List ℕ) (others : List (List ℕ)) (before : Bool) → comes_before first sci ≡ true
    → comes_before first other ≡ true
    → leads first (cond before (sci ∷ other ∷ others) (other ∷ put_among sci others)) ≡ true
leads_by sci other first others true one two = one
leads_by sci other first others false one two = two

leads-put_among : (sci first : List ℕ) (others : List (List ℕ)) → comes_before first sci ≡ true
    → leads first others ≡ true
    → leads first (put_among sci others) ≡ true
leads-put_among sci first [] one two = one
leads-put_among sci first (other ∷ others) one two = leads_by sci other first others (comes_before sci other) one two

ascending_by : (sci other : List ℕ) (others : List (List ℕ)) (before : Bool) → comes_before sci other ≡ before
    → bytes_eq other sci ≡ false → is_ascending (other ∷ others) ≡ true → is_ascending (put_among sci others) ≡ true
    → is_ascending (cond before (sci ∷ other ∷ others) (other ∷ put_among sci others)) ≡ true
ascending_by sci other others true is differ ascend later = ascending_from sci (other ∷ others) is ascend
ascending_by sci other others false is differ ascend later =
    ascending_from other (put_among sci others)
    (leads-put_among sci other others (before-turned sci other is (bytes_eq-sym sci other ∙ differ))
    (ascending_to other others ascend).0)
    later

-- those that ascend do so after it, where it was not among them
pub ascending-put_among : (sci : List ℕ) (others : List (List ℕ)) → is_among others sci ≡ false
    → is_ascending others ≡ true
    → is_ascending (put_among sci others) ≡ true
ascending-put_among sci [] free ascend = refl
ascending-put_among sci (other ∷ others) free ascend =
    let apart = or_parts (bytes_eq other sci) (is_among others sci) free in
    ascending_by sci other others (comes_before sci other) refl apart.0 ascend
    (ascending-put_among sci others apart.1 (ascending_to other others ascend).1)

-- ---- filtered

length_kept_by : (test : List ℕ → Bool) (item : List ℕ) (items : List (List ℕ)) (keeps : Bool)
    → length (filter test items) ≤ length items
    → length (cond keeps (item ∷ filter test items) (filter test items)) ≤ suc (length items)
length_kept_by test item items true later = omega arith
length_kept_by test item items false later = omega arith

pub length-filter-le : (test : List ℕ → Bool) (items : List (List ℕ)) → length (filter test items) ≤ length items
length-filter-le test [] = omega arith
length-filter-le test (item ∷ items) = length_kept_by test item items (test item) (length-filter-le test items)

among_first : (a b c : Bool) → (b ≡ true → c ≡ true) → (a || b) ≡ true → (a || c) ≡ true
among_first true b c later among = refl
among_first false b c later among = later among

among_later : (a b : Bool) → (a ≡ true → ⊥) → (a || b) ≡ true → b ≡ true
among_later true b not_here among = absurd (not_here refl)
among_later false b not_here among = among

among_kept_by : (test : List ℕ → Bool) (item other : List ℕ) (others : List (List ℕ)) (keeps : Bool)
    → test other ≡ keeps → test item ≡ true
    → (is_among others item ≡ true → is_among (filter test others) item ≡ true)
    → is_among (other ∷ others) item ≡ true
    → is_among (cond keeps (other ∷ filter test others) (filter test others)) item ≡ true
among_kept_by test item other others true is passes later among =
    among_first (bytes_eq other item) (is_among others item) (is_among (filter test others) item) later among
among_kept_by test item other others false is passes later among =
    later (among_later (bytes_eq other item) (is_among others item)
    (λ same. cc (ap test (same_octets other item same))) among)

-- what passes stays among them
pub among-filter : (test : List ℕ → Bool) (item : List ℕ) (items : List (List ℕ)) → test item ≡ true
    → is_among items item ≡ true
    → is_among (filter test items) item ≡ true
among-filter test item [] passes among = among
among-filter test item (other ∷ others) passes among =
    among_kept_by test item other others (test other) refl passes (among-filter test item others passes) among

fewer_by : (test : List ℕ → Bool) (item other : List ℕ) (others : List (List ℕ)) (keeps : Bool)
    → is_among (filter test others) item ≡ false
    → bytes_eq other item ≡ false → is_among (cond keeps (other ∷ filter test others) (filter test others)) item ≡ false
fewer_by test item other others true later differ =
    or_from (bytes_eq other item) (is_among (filter test others) item) differ later
fewer_by test item other others false later differ = later

-- and nothing else comes among them
pub not_among-filter : (test : List ℕ → Bool) (item : List ℕ) (items : List (List ℕ)) → is_among items item ≡ false
    → is_among (filter test items) item ≡ false
not_among-filter test item [] free = free
not_among-filter test item (other ∷ others) free =
    let apart = or_parts (bytes_eq other item) (is_among others item) free in
    fewer_by test item other others (test other) (not_among-filter test item others apart.1) apart.0

leads_later : (first sci : List ℕ) (others : List (List ℕ)) → comes_before first sci ≡ true → leads sci others ≡ true
    → leads first others ≡ true
leads_later first sci [] one two = refl
leads_later first sci (other ∷ others) one two = before-trans first sci other one two

leads_kept_by : (test : List ℕ → Bool) (first sci : List ℕ) (others : List (List ℕ)) (keeps : Bool)
    → comes_before first sci ≡ true
    → leads first (filter test others) ≡ true
    → leads first (cond keeps (sci ∷ filter test others) (filter test others)) ≡ true
leads_kept_by test first sci others true one later = one
leads_kept_by test first sci others false one later = later

leads-filter : (test : List ℕ → Bool) (first : List ℕ) (others : List (List ℕ)) → leads first others ≡ true
    → is_ascending others ≡ true
    → leads first (filter test others) ≡ true
leads-filter test first [] leading ascend = refl
leads-filter test first (sci ∷ others) leading ascend =
    let parts = ascending_to sci others ascend in
    leads_kept_by test first sci others (test sci) leading
    (leads-filter test first others (leads_later first sci others leading parts.0) parts.1)

ascending_kept_by : (test : List ℕ → Bool) (sci : List ℕ) (others : List (List ℕ)) (keeps : Bool)
    → leads sci (filter test others) ≡ true
    → is_ascending (filter test others) ≡ true
    → is_ascending (cond keeps (sci ∷ filter test others) (filter test others)) ≡ true
ascending_kept_by test sci others true leading later = ascending_from sci (filter test others) leading later
ascending_kept_by test sci others false leading later = later

-- those that ascend do so when some have gone
pub ascending-filter : (test : List ℕ → Bool) (items : List (List ℕ)) → is_ascending items ≡ true
    → is_ascending (filter test items) ≡ true
ascending-filter test [] ascend = refl
ascending-filter test (sci ∷ others) ascend =
    let parts = ascending_to sci others ascend in
    ascending_kept_by test sci others (test sci) (leads-filter test sci others parts.0 parts.1)
    (ascending-filter test others parts.1)
