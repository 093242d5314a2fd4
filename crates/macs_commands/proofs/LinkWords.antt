-- All that is to be drawn of the words on a link's file.
use Rattle.std.proofs.Common.{◌≡◌, ◌∙◌, ◌≤◌, ◌+◌, ◌++◌, ◌∷◌, ℕ, Bool, true, false, cond, List, [], length, Option, Some}
use Rattle.std.proofs.Common.{None, Result, Ok, Err, bytes_eq, codes, nat_lt, refl, sym, ap, subst, arith}
use Rattle.std.specs.Prelude.{option_and_then}
use Rattle.std.proofs.lemmas.Bool.{ltb-false}
use Rattle.toml.specs.Data.{Data, Items, Members, array, as_array, as_table, boolean, datetime, float, get_member}
use Rattle.toml.specs.Data.{integer, item, no_items, string, table}
use Rattle.macs_aes.specs.declared.keys.Key.{Key}
use Rattle.macs_commands.specs.Tables.{count, an_in, items_at, key_at, table_at}
use Rattle.macs_commands.specs.Reading.{◌>>=◌, end_sci, file_link, followed, key_pair, key_pairs, newest_link, required}
use Rattle.macs_commands.specs.Reading.{reuses_an, tables_link}
use Rattle.macs_commands.specs.declared.links.link.KeyPair.{KeyPair}
use Rattle.macs_commands.specs.declared.links.link.Link.{Link}
use Rattle.macs_commands.specs.declared.links.plan_fault.Place.{Place}
use Rattle.macs_commands.specs.declared.links.plan_fault.Place.TheVariants as place
use Rattle.macs_commands.specs.declared.links.plan_fault.PlanFault.{PlanFault}
use Rattle.macs_commands.specs.declared.links.plan_fault.PlanFault.TheVariants as fault
use Rattle.macs_commands.specs.declared.links.plan_fault.ValueName.{ValueName}
use Rattle.macs_commands.specs.declared.links.plan_fault.ValueName.TheVariants as name
use Rattle.macs_commands.proofs.Reading.{is_table_of}
use Rattle.macs_commands.proofs.Sound.{from_file, from_tables, link_with, passed, same_link, with_earlier}

-- ---- values at a key

and_then : {X Y : Type 0} (f : X → Option Y) (o : Option X) (y : Y) → option_and_then f o ≡ Some y
    → (x : X) × (o ≡ Some x) × (f x ≡ Some y)
and_then f None y is = absurd (cc)
and_then f (Some x) y is = (x, refl, is)

is_array_of : (d : Data) (ds : Items) → as_array d ≡ Some ds → d ≡ array ds
is_array_of (table xs) ds e = absurd (cc)
is_array_of (string s) ds e = absurd (cc)
is_array_of (integer z) ds e = absurd (cc)
is_array_of (float x) ds e = absurd (cc)
is_array_of (boolean b) ds e = absurd (cc)
is_array_of (datetime dt) ds e = absurd (cc)
is_array_of (array xs) ds e = cc

table_there : (key : List ℕ) (m t : Members) → table_at key m ≡ Some t → get_member key m ≡ Some (table t)
table_there key m t is = let (value, there, so) = and_then as_table (get_member key m) t is in
    there ∙ ap Some (is_table_of value t so)

array_there : (key : List ℕ) (m : Members) (items : Items) → items_at key m ≡ Some items
    → get_member key m ≡ Some (array items)
array_there key m items is = let (value, there, so) = and_then as_array (get_member key m) items is in
    there ∙ ap Some (is_array_of value items so)

-- ---- the file

pub whole : (m : Members) (link : Link) → file_link m ≡ Ok link
    → (left right : Members) × (items : Items) × (get_member (codes "left") m ≡ Some (table left))
    × (get_member (codes "right") m ≡ Some (table right)) × (get_member (codes "key") m ≡ Some (array items))
    × (count m ≡ 3) × (tables_link left right items ≡ Ok link)
whole m link is =
    let (left, right, items, at_left, at_right, at_key, three, tables) =
    from_file (count m) (table_at (codes "left") m) (table_at (codes "right") m) (items_at (codes "key") m) link is in (
      left,
      right,
      items,
      table_there (codes "left") m left at_left,
      table_there (codes "right") m right at_right,
      array_there (codes "key") m items at_key,
      three,
      tables,
    )

-- ---- the newest

-- the last of these pairs is the newest, after the previous one, if there are two
abbrev pub IsNewest : List KeyPair → Option KeyPair → KeyPair → Type 0
IsNewest pairs None newest = pairs ≡ newest ∷ []
IsNewest pairs (Some earlier) newest = (front : List KeyPair) × (pairs ≡ front ++ earlier ∷ newest ∷ [])

longer : (first pair next : KeyPair) (pairs : List KeyPair) (earlier : Option KeyPair) (newest : KeyPair)
    → IsNewest (pair ∷ next ∷ pairs) earlier newest → IsNewest (first ∷ pair ∷ next ∷ pairs) earlier newest
longer first pair next pairs None newest is = let size : length (pair ∷ next ∷ pairs) ≡ length (newest ∷ []) =
    ap length is in absurd (omega (arith, size))
longer first pair next pairs (Some earlier) newest is = (first ∷ is.0, ap (λ (l : List KeyPair). first ∷ l) is.1)

abbrev IsRead : List ℕ → List ℕ → List KeyPair → Link → Type 0
IsRead left right pairs link = (left ≡ link.left) × (right ≡ link.right) × IsNewest pairs link.before link.newest

read_last : (left right : List ℕ) (earlier : Option KeyPair) (pair : KeyPair)
    → IsRead left right (with_earlier earlier (pair ∷ [])) (link_with left right earlier pair)
read_last left right None pair = (refl, refl, refl)
read_last left right (Some earlier) pair = (refl, refl, ([], refl))

newest_read : (left right : List ℕ) (earlier : Option KeyPair) (pairs : List KeyPair) (link : Link)
    → newest_link left right earlier pairs ≡ Ok link → IsRead left right (with_earlier earlier pairs) link
newest_read left right earlier [] link is = absurd (cc)
newest_read left right earlier (pair ∷ []) link is =
    subst (λ (x : Link). IsRead left right (with_earlier earlier (pair ∷ [])) x)
    (same_link (link_with left right earlier pair) link is)
    (read_last left right earlier pair)
newest_read left right None (pair ∷ next ∷ pairs) link is = newest_read left right (Some pair) (next ∷ pairs) link is
newest_read left right (Some before) (pair ∷ next ∷ pairs) link is =
    let later = newest_read left right (Some pair) (next ∷ pairs) link is in
    (later.0, later.1, longer before pair next pairs link.before link.newest later.2)

pub ends : (left right : Members) (items : Items) (link : Link) → tables_link left right items ≡ Ok link
    → (end_sci place.Left left ≡ Ok link.left) × (end_sci place.Right right ≡ Ok link.right)
    × ((pairs : List KeyPair) × (key_pairs 1 items ≡ Ok pairs) × IsNewest pairs link.before link.newest)
ends left right items link is =
    let (one, other, pairs, has_one, has_other, has_pairs, made) = from_tables left right items link is in
    let first = passed (bytes_eq one other) fault.SameSci _ link made in
    let second = passed _ fault.SameKey _ link first.1 in
    let third = passed (reuses_an pairs) fault.AnInUse _ link second.1 in
    let read = newest_read one other None pairs link third.1 in (
      has_one ∙ ap (λ (s : List ℕ). Ok s) read.0,
      has_other ∙ ap (λ (s : List ℕ). Ok s) read.1,
      (pairs, has_pairs, read.2),
    )

-- ---- the ends

abbrev limited : {X : Type 0} → Bool → Place → X → Result X PlanFault
limited b at x = cond b (Err (fault.Extra at)) (Ok x)

had : {X Y : Type 0} (at : Place) (which : ValueName) (o : Option X) (f : X → Result Y PlanFault) (y : Y)
    → (required at which o >>= f) ≡ Ok y → (x : X) × (o ≡ Some x) × (f x ≡ Ok y)
had at which None f y is = absurd (cc)
had at which (Some x) f y is = (x, refl, is)

kept : {X : Type 0} (b : Bool) (at : Place) (x y : X) → limited b at x ≡ Ok y
    → (b ≡ false) × (limited false at x ≡ Ok y)
kept true at x y is = absurd (cc)
kept false at x y is = (refl, is)

-- ---- the pairs

abbrev made_of : ℕ → Key → Key → KeyPair
made_of an left right = record { an = an; left = left; right = right }

abbrev pair_as : KeyPair → Result KeyPair PlanFault
pair_as pair = Ok pair

same_pair : (a b : KeyPair) → pair_as a ≡ pair_as b → a ≡ b
same_pair a b is = cc

pub pair_read : (at : ℕ) (m : Members) (pair : KeyPair) → key_pair at m ≡ Ok pair
    → (an_in m ≡ Some pair.an) × (key_at (codes "left") m ≡ Some pair.left)
    × (key_at (codes "right") m ≡ Some pair.right) × (count m ≤ 3)
pair_read at m pair is =
    let (an, has_an, one) = had (place.Key at) name.An (an_in m) _ pair is in
    let (left, has_left, two) = had (place.Key at) name.Left (key_at (codes "left") m) _ pair one in
    let (right, has_right, three) = had (place.Key at) name.Right (key_at (codes "right") m) _ pair two in
    let (few, end) = kept (nat_lt 3 (count m)) (place.Key at) (made_of an left right) pair three in
    let same = same_pair (made_of an left right) pair end in (
      has_an ∙ ap (λ (p : KeyPair). Some p.an) same,
      has_left ∙ ap (λ (p : KeyPair). Some p.left) same,
      has_right ∙ ap (λ (p : KeyPair). Some p.right) same,
      ltb-false 3 (count m) few,
    )

abbrev pairs_as : List KeyPair → Result (List KeyPair) PlanFault
pairs_as l = Ok l

same_pairs : (a b : List KeyPair) → pairs_as a ≡ pairs_as b → a ≡ b
same_pairs a b is = cc

pub last : (at : ℕ) (pairs : List KeyPair) → key_pairs at no_items ≡ Ok pairs → pairs ≡ []
last at pairs is = sym (same_pairs [] pairs is)

followed_by : (r : Result KeyPair PlanFault) (rest : Result (List KeyPair) PlanFault) (pairs : List KeyPair)
    → followed r rest ≡ Ok pairs
    → (first : KeyPair) × (others : List KeyPair) × (pairs ≡ first ∷ others) × (r ≡ Ok first) × (rest ≡ Ok others)
followed_by (Ok first) (Ok others) pairs is = (first, others, sym (same_pairs (first ∷ others) pairs is), refl, refl)
followed_by (Ok first) (Err cause) pairs is = absurd (cc)
followed_by (Err cause) rest pairs is = absurd (cc)

pub one : (at : ℕ) (value : Data) (items : Items) (pairs : List KeyPair) → key_pairs at (item value items) ≡ Ok pairs
    → (m : Members) × (first : KeyPair) × (rest : List KeyPair) × (value ≡ table m) × (pairs ≡ first ∷ rest)
    × (key_pair at m ≡ Ok first) × (key_pairs (at + 1) items ≡ Ok rest)
one at (table m) items pairs is =
    let (first, rest, all, here, later) = followed_by (key_pair at m) (key_pairs (at + 1) items) pairs is in
    (m, first, rest, refl, all, here, later)
one at (string s) items pairs is = absurd (cc)
one at (integer z) items pairs is = absurd (cc)
one at (float x) items pairs is = absurd (cc)
one at (boolean b) items pairs is = absurd (cc)
one at (datetime dt) items pairs is = absurd (cc)
one at (array xs) items pairs is = absurd (cc)
