-- A link that is read has two SCIs, and no key twice.
use Rattle.std.proofs.Common.{◌≡◌, ◌≢◌, ◌∙◌, ◌==◌, ◌&&◌, ℕ, Bool, true, false, not, cond, List, [], ◌∷◌, Option, Some}
use Rattle.std.proofs.Common.{None, Result, Ok, Err, bytes_eq, codes, refl, sym, subst}
use Rattle.std.proofs.lemmas.Bool.{and_parts, eqb-false, eqb-true, not-true, or_parts, true≢false}
use Rattle.toml.specs.Data.{Items, Members}
use Rattle.macs_aes.specs.Keys.{octets_of_key}
use Rattle.macs_config.specs.Config.{are_distinct, is_among}
use Rattle.macs_config.proofs.Channels.{bytes_eq-itself}
use Rattle.macs_commands.specs.Tables.{count}
use Rattle.macs_commands.specs.Accepting.{IsSound}
use Rattle.macs_commands.specs.Planning.{own_key}
use Rattle.macs_commands.specs.Reading.{◌>>=◌, has_tables, keys_of, newest_link, reuses_an, shaped_link}
use Rattle.macs_commands.specs.Tables.{items_at}
use Rattle.macs_commands.specs.Reading.{sound_link}
use Rattle.macs_commands.specs.Reading.{tables_link}
use Rattle.macs_commands.specs.Tables.{table_at}
use Rattle.macs_commands.specs.Reading.{end_sci, file_link, key_pairs}
use Rattle.macs_commands.specs.declared.links.link.End.{End}
use Rattle.macs_commands.specs.declared.links.link.End.TheVariants.{Left, Right}
use Rattle.macs_commands.specs.declared.links.link.KeyPair.{KeyPair}
use Rattle.macs_commands.specs.declared.links.link.Link.{Link}
use Rattle.macs_commands.specs.declared.links.plan_fault.Place.TheVariants as place
use Rattle.macs_commands.specs.declared.links.plan_fault.PlanFault.{PlanFault}
use Rattle.macs_commands.specs.declared.links.plan_fault.PlanFault.TheVariants as fault

-- ---- what is behind an answer

pub bound : {X Y : Type 0} (r : Result X PlanFault) (f : X → Result Y PlanFault) (y : Y) → (r >>= f) ≡ Ok y
    → (x : X) × (r ≡ Ok x) × (f x ≡ Ok y)
bound (Ok x) f y is = (x, refl, is)
bound (Err cause) f y is = absurd (cc)

pub passed : (b : Bool) (cause : PlanFault) (r : Result Link PlanFault) (link : Link) → cond b (Err cause) r ≡ Ok link
    → (b ≡ false) × (r ≡ Ok link)
passed true cause r link is = absurd (cc)
passed false cause r link is = (refl, is)

chosen : (b : Bool) (cause : PlanFault) (r : Result Link PlanFault) (link : Link) → cond b r (Err cause) ≡ Ok link
    → (b ≡ true) × (r ≡ Ok link)
chosen true cause r link is = (refl, is)
chosen false cause r link is = absurd (cc)

abbrev pub read_as : Link → Result Link PlanFault
read_as link = Ok link

pub same_link : (a b : Link) → read_as a ≡ read_as b → a ≡ b
same_link a b is = cc

-- the tables of two ends and of pairs, and what is behind each
pub from_tables : (left right : Members) (items : Items) (link : Link) → tables_link left right items ≡ Ok link
    → (one other : List ℕ) × (pairs : List KeyPair) × (end_sci place.Left left ≡ Ok one)
    × (end_sci place.Right right ≡ Ok other)
    × (key_pairs 1 items ≡ Ok pairs) × (sound_link one other pairs ≡ Ok link)
from_tables left right items link is =
    let (one, has_one, first) = bound (end_sci place.Left left) _ link is in
    let (other, has_other, second) = bound (end_sci place.Right right) _ link first in
    let (pairs, has_pairs, third) = bound (key_pairs 1 items) _ link second in
    (one, other, pairs, has_one, has_other, has_pairs, third)

pub from_shape : (n : ℕ) (left right : Members) (items : Items) (link : Link) → shaped_link n left right items ≡ Ok link
    → (n ≡ 3) × (tables_link left right items ≡ Ok link)
from_shape n left right items link is =
    let tests = chosen ((n == 3) && has_tables items) fault.Shape (tables_link left right items) link is in
    (eqb-true n 3 (and_parts (n == 3) (has_tables items) tests.0).0, tests.1)

abbrev pub with_tables : ℕ → Option Members → Option Members → Option Items → Result Link PlanFault
with_tables n left right items = elim left [
  | None ↦ Err fault.Shape
  | Some one ↦ elim right [
    | None ↦ Err fault.Shape
    | Some two ↦ elim items [
      | None ↦ Err fault.Shape
      | Some three ↦ shaped_link n one two three
    ]
  ]
]

pub from_file : (n : ℕ) (left right : Option Members) (items : Option Items) (link : Link)
    → with_tables n left right items ≡ Ok link
    → (one two : Members) × (three : Items) × (left ≡ Some one) × (right ≡ Some two) × (items ≡ Some three)
    × (n ≡ 3) × (tables_link one two three ≡ Ok link)
from_file n (Some left) (Some right) (Some items) link is =
    let shaped = from_shape n left right items link is in (left, right, items, refl, refl, refl, shaped.0, shaped.1)
from_file n (Some left) (Some right) None link is = absurd (cc)
from_file n (Some left) None items link is = absurd (cc)
from_file n None right items link is = absurd (cc)

-- ---- what is not refused

differ : (a b : List ℕ) → bytes_eq b a ≡ false → a ≢ b
differ a b is same = true≢false (sym (subst (λ (x : List ℕ). bytes_eq x a ≡ true) same (bytes_eq-itself a)) ∙ is)

-- the pairs that count: the one before, where there is one, and those after it
abbrev pub with_earlier : Option KeyPair → List KeyPair → List KeyPair
with_earlier None pairs = pairs
with_earlier (Some earlier) pairs = earlier ∷ pairs

abbrev pub link_with : List ℕ → List ℕ → Option KeyPair → KeyPair → Link
link_with left right earlier pair = record { left = left; right = right; newest = pair; before = earlier }

some_same : (a b : KeyPair) → Some a ≡ Some b → a ≡ b
some_same a b e = cc

alone : (left right : List ℕ) (pair : KeyPair) → left ≢ right → are_distinct (keys_of (pair ∷ [])) ≡ true
    → IsSound (link_with left right None pair)
alone left right pair ends once =
    let l = octets_of_key pair.left in
    let r = octets_of_key pair.right in
    let first = and_parts (not (is_among (r ∷ []) l)) (are_distinct (r ∷ [])) once in
    let apart = or_parts (bytes_eq r l) false (not-true (is_among (r ∷ []) l) first.0) in
    record {
      ends = ends;
      newest = differ l r apart.0;
      numbers = λ earlier is. absurd (cc is);
      earlier = λ earlier is. absurd (cc is);
      keys = λ earlier one other is. absurd (cc is);
    }

two : (left right : List ℕ) (before pair : KeyPair) → left ≢ right → are_distinct (keys_of (before ∷ pair ∷ [])) ≡ true
    → reuses_an (before ∷ pair ∷ []) ≡ false → IsSound (link_with left right (Some before) pair)
two left right before pair ends once number =
    let a = octets_of_key before.left in
    let b = octets_of_key before.right in
    let c = octets_of_key pair.left in
    let d = octets_of_key pair.right in
    let first = and_parts (not (is_among (b ∷ c ∷ d ∷ []) a)) (are_distinct (b ∷ c ∷ d ∷ [])) once in
    let second = and_parts (not (is_among (c ∷ d ∷ []) b)) (are_distinct (c ∷ d ∷ [])) first.1 in
    let third = and_parts (not (is_among (d ∷ []) c)) (are_distinct (d ∷ [])) second.1 in
    let a1 = or_parts (bytes_eq b a) (is_among (c ∷ d ∷ []) a) (not-true (is_among (b ∷ c ∷ d ∷ []) a) first.0) in
    let a2 = or_parts (bytes_eq c a) (is_among (d ∷ []) a) a1.1 in
    let a3 = or_parts (bytes_eq d a) false a2.1 in
    let b1 = or_parts (bytes_eq c b) (is_among (d ∷ []) b) (not-true (is_among (c ∷ d ∷ []) b) second.0) in
    let b2 = or_parts (bytes_eq d b) false b1.1 in
    let c1 = or_parts (bytes_eq d c) false (not-true (is_among (d ∷ []) c) third.0) in
    let n1 = or_parts (pair.an == before.an) false number in
    let keys : (one other : End) → octets_of_key (own_key before one) ≢ octets_of_key (own_key pair other) =
    λ one other. four before pair one other (differ a c a2.0) (differ a d a3.0) (differ b c b1.0) (differ b d b2.0) in
    record {
      ends = ends;
      newest = differ c d c1.0;
      numbers = λ earlier is.
          subst (λ (x : KeyPair). pair.an ≢ x.an) (some_same before earlier is) (eqb-false pair.an before.an n1.0);
      earlier = λ earlier is. subst (λ (x : KeyPair). octets_of_key x.left ≢ octets_of_key x.right)
          (some_same before earlier is) (differ a b a1.0);
      keys = λ earlier one other is.
          subst (λ (x : KeyPair). octets_of_key (own_key x one) ≢ octets_of_key (own_key pair other))
          (some_same before earlier is) (keys one other);
    }
  where
    four : (before pair : KeyPair) (one other : End)
        → octets_of_key before.left ≢ octets_of_key pair.left → octets_of_key before.left ≢ octets_of_key pair.right
        → octets_of_key before.right ≢ octets_of_key pair.left → octets_of_key before.right ≢ octets_of_key pair.right
        → octets_of_key (own_key before one) ≢ octets_of_key (own_key pair other)
    four before pair Left Left ll lr rl rr = ll
    four before pair Left Right ll lr rl rr = lr
    four before pair Right Left ll lr rl rr = rl
    four before pair Right Right ll lr rl rr = rr

-- the last pair, and the one before it
last : (left right : List ℕ) (earlier : Option KeyPair) (pair : KeyPair) → left ≢ right
    → are_distinct (keys_of (with_earlier earlier (pair ∷ []))) ≡ true
    → reuses_an (with_earlier earlier (pair ∷ [])) ≡ false
    → IsSound (link_with left right earlier pair)
last left right None pair ends once number = alone left right pair ends once
last left right (Some before) pair ends once number = two left right before pair ends once number

-- what holds of pairs holds without the first
later_keys : (pair : KeyPair) (pairs : List KeyPair) → are_distinct (keys_of (pair ∷ pairs)) ≡ true
    → are_distinct (keys_of pairs) ≡ true
later_keys pair pairs once =
    let first = and_parts (not (is_among (octets_of_key pair.right ∷ keys_of pairs) (octets_of_key pair.left)))
    (are_distinct (octets_of_key pair.right ∷ keys_of pairs)) once in
    (and_parts (not (is_among (keys_of pairs) (octets_of_key pair.right))) (are_distinct (keys_of pairs)) first.1).1

later_numbers : (pair next : KeyPair) (pairs : List KeyPair) → reuses_an (pair ∷ next ∷ pairs) ≡ false
    → reuses_an (next ∷ pairs) ≡ false
later_numbers pair next pairs number = (or_parts (next.an == pair.an) (reuses_an (next ∷ pairs)) number).1

of_link : (made link : Link) → read_as made ≡ read_as link → IsSound made → IsSound link
of_link made link is sound = subst (λ (x : Link). IsSound x) (same_link made link is) sound

newest_sound : (left right : List ℕ) (earlier : Option KeyPair) (pairs : List KeyPair) (link : Link) → left ≢ right
    → are_distinct (keys_of (with_earlier earlier pairs)) ≡ true → reuses_an (with_earlier earlier pairs) ≡ false
    → newest_link left right earlier pairs ≡ Ok link → IsSound link
newest_sound left right earlier [] link ends once number is = absurd (cc)
newest_sound left right earlier (pair ∷ []) link ends once number is =
    of_link (link_with left right earlier pair) link is (last left right earlier pair ends once number)
newest_sound left right None (pair ∷ next ∷ pairs) link ends once number is =
    newest_sound left right (Some pair) (next ∷ pairs) link ends once number is
newest_sound left right (Some before) (pair ∷ next ∷ pairs) link ends once number is =
    newest_sound left right (Some pair) (next ∷ pairs) link ends (later_keys before (pair ∷ next ∷ pairs) once)
    (later_numbers before pair (next ∷ pairs) number) is

from_sound : (left right : List ℕ) (pairs : List KeyPair) (link : Link) → sound_link left right pairs ≡ Ok link
    → IsSound link
from_sound left right pairs link is =
    let one = passed (bytes_eq left right) fault.SameSci _ link is in
    let two = passed (not (are_distinct (keys_of pairs))) fault.SameKey _ link one.1 in
    let three = passed (reuses_an pairs) fault.AnInUse _ link two.1 in
    newest_sound left right None pairs link (λ same. differ right left one.0 (sym same))
    (once (are_distinct (keys_of pairs)) two.0) three.0 three.1
  where
    once : (b : Bool) → not b ≡ false → b ≡ true
    once true is = refl
    once false is = absurd (true≢false is)

pub is_sound : (members : Members) (link : Link) → file_link members ≡ Ok link → IsSound link
is_sound members link is =
    let (left, right, items, at_left, at_right, at_key, three, tables) =
    from_file (count members) (table_at (codes "left") members) (table_at (codes "right") members)
    (items_at (codes "key") members) link is in
    let (one, other, pairs, has_one, has_other, has_pairs, made) = from_tables left right items link tables in
    from_sound one other pairs link made
