-- What is to be drawn of the parts of a snapshot.
use Rattle.std.proofs.Common.{◌≡◌, ◌<◌, ◌+◌, ◌++◌, ◌&&◌, ℕ, Bool, true, false, cond, not, nat_le, nat_lt, List, [], ◌∷◌}
use Rattle.std.proofs.Common.{length, Option, Some, None, is_none, bytes_eq, refl, ap, arith}
use Rattle.std.proofs.lemmas.Bool.{and_left, and_right, le-ltb, lt-leb, not_from_true, or_left}
use Rattle.std.specs.List.{list_all}
use Rattle.macs_config.specs.Config.{Config, Edition, are_distinct, default, has_channel, is_among, max_spent, spent_of}
use Rattle.macs_config.specs.Config.{takes_key}
use Rattle.macs_config.specs.Identity.{Identity}
use Rattle.macs_config.specs.Snapshot.{are_new, are_ordered, config_with_part, config_with_parts, config_of_parts}
use Rattle.macs_config.specs.Snapshot.{may_follow, place_of, whole_config}
use Rattle.macs_config.specs.SnapshotWords.{OrderWords, PartWords}
use Rattle.macs_config.specs.declared.part.Part.{Part}
use Rattle.macs_config.specs.declared.part.Part.TheVariants.{TxSa, Channel, RxSa, Spent}
use Rattle.macs_config.proofs.Channels.{bytes_eq-itself}

-- ---- tests of which one fails

taken : {X : Type 0} (o : Option X) (x : X) → o ≡ Some x → is_none o ≡ false
taken o x is = ap is_none is

-- no number is above itself or a greater one
not_le : (a b : ℕ) → b < a → nat_le a b ≡ false
not_le a b above = lt-leb a b above

module _ (edition : Edition) (identity : Identity) (c : Config) where
  -- what may not follow is refused
  stopped : (part : Part) (parts : List Part) → may_follow edition identity c part ≡ false
      → config_with_parts edition identity c (part ∷ parts) ≡ None
  stopped part parts is =
      ap (λ (b : Bool). cond b (config_with_parts edition identity (config_with_part c part) parts) None) is

-- a fingerprint that is there is not new
not_new : (spent : List (List ℕ)) (one : List ℕ) (more : List (List ℕ)) → is_among spent one ≡ true
    → are_new spent (one ∷ more) ≡ false
not_new spent one more is =
    and_right (are_distinct (one ∷ more)) (list_all (λ item. not (is_among spent item)) (one ∷ more))
    (and_left (not (is_among spent one)) (list_all (λ item. not (is_among spent item)) more)
    (not_from_true (is_among spent one) is))

-- nor is each where one comes twice
twice : (spent : List (List ℕ)) (one : List ℕ) (more : List (List ℕ)) → are_new spent (one ∷ one ∷ more) ≡ false
twice spent one more =
    and_left (are_distinct (one ∷ one ∷ more)) (list_all (λ item. not (is_among spent item)) (one ∷ one ∷ more))
    (and_left (not (is_among (one ∷ more) one)) (are_distinct (one ∷ more))
    (not_from_true (is_among (one ∷ more) one) (or_left (bytes_eq one one) (is_among more one) (bytes_eq-itself one))))

pub part-words : PartWords
part-words = record {
  tx_twice = λ edition identity c an before sa parts is. stopped edition identity c (TxSa an sa) parts
      (and_left (is_none (c.tx an)) (takes_key edition sa.key) (taken (c.tx an) before is));
  tx_key = λ edition identity c an sa parts is. stopped edition identity c (TxSa an sa) parts
      (and_right (is_none (c.tx an)) (takes_key edition sa.key) is);
  channel_twice = λ edition identity c sci parts is. stopped edition identity c (Channel sci) parts
      (and_left (not (bytes_eq sci identity.sci) && not (has_channel c sci))
      (nat_lt (length c.channels) edition.channels)
      (and_right (not (bytes_eq sci identity.sci)) (not (has_channel c sci)) (not_from_true (has_channel c sci) is)));
  own_channel = λ edition identity c parts. stopped edition identity c (Channel identity.sci) parts
      (and_left (not (bytes_eq identity.sci identity.sci) && not (has_channel c identity.sci))
      (nat_lt (length c.channels) edition.channels)
      (and_left (not (bytes_eq identity.sci identity.sci)) (not (has_channel c identity.sci))
      (not_from_true (bytes_eq identity.sci identity.sci) (bytes_eq-itself identity.sci))));
  channels_full = λ edition identity c sci parts is. stopped edition identity c (Channel sci) parts
      (and_right (not (bytes_eq sci identity.sci) && not (has_channel c sci))
      (nat_lt (length c.channels) edition.channels)
      (le-ltb (length c.channels) edition.channels is));
  rx_twice = λ edition identity c sci an before sa parts is. stopped edition identity c (RxSa sci an sa) parts
      (and_left (has_channel c sci && is_none (c.rx sci an)) (takes_key edition sa.key)
      (and_right (has_channel c sci) (is_none (c.rx sci an)) (taken (c.rx sci an) before is)));
  rx_key = λ edition identity c sci an sa parts is. stopped edition identity c (RxSa sci an sa) parts
      (and_right (has_channel c sci && is_none (c.rx sci an)) (takes_key edition sa.key) is);
  no_channel = λ edition identity c sci an sa parts is. stopped edition identity c (RxSa sci an sa) parts
      (and_left (has_channel c sci && is_none (c.rx sci an)) (takes_key edition sa.key)
      (and_left (has_channel c sci) (is_none (c.rx sci an)) is));
  spent_twice = λ edition identity c role one more parts is. stopped edition identity c (Spent role (one ∷ more)) parts
      (and_left (are_new (spent_of role c) (one ∷ more))
      (nat_le (length (spent_of role c) + length (one ∷ more)) max_spent)
      (not_new (spent_of role c) one more is));
  spent_in_one = λ edition identity c role one more parts.
      stopped edition identity c (Spent role (one ∷ one ∷ more)) parts
      (and_left (are_new (spent_of role c) (one ∷ one ∷ more))
      (nat_le (length (spent_of role c) + length (one ∷ one ∷ more)) max_spent) (twice (spent_of role c) one more));
  spent_full =
      λ edition identity c role fingerprints parts is. stopped edition identity c (Spent role fingerprints) parts
      (and_right (are_new (spent_of role c) fingerprints)
      (nat_le (length (spent_of role c) + length fingerprints) max_spent)
      (not_le (length (spent_of role c) + length fingerprints) max_spent is));
}

-- ---- the order

-- two parts out of order are out of order wherever they come
not_ordered : (place : ℕ) (front : List Part) (second third : Part) (parts : List Part)
    → place_of third < place_of second
    → are_ordered place (front ++ (second ∷ third ∷ parts)) ≡ false
not_ordered place [] second third parts less =
    and_right (nat_le place (place_of second)) (are_ordered (place_of second) (third ∷ parts))
    (and_left (nat_le (place_of second) (place_of third)) (are_ordered (place_of third) parts)
    (not_le (place_of second) (place_of third) less))
not_ordered place (part ∷ front) second third parts less =
    and_right (nat_le place (place_of part)) (are_ordered (place_of part) (front ++ (second ∷ third ∷ parts)))
    (not_ordered (place_of part) front second third parts less)

module _ (edition : Edition) (identity : Identity) where
  -- what is out of order is refused
  misplaced : (part : Part) (parts : List Part) → (nat_le (place_of part) 1 && are_ordered 2 parts) ≡ false
      → config_of_parts edition identity (part ∷ parts) ≡ None
  misplaced part parts is = ap (λ (b : Bool). cond b
      (whole_config identity (config_with_parts edition identity (config_with_part default part) parts)) None) is

pub order-words : OrderWords
order-words = record {
  first = λ edition identity part parts above. misplaced edition identity part parts
      (and_left (nat_le (place_of part) 1) (are_ordered 2 parts) (not_le (place_of part) 1 above));
  ordered = λ edition identity part second third front parts less.
      misplaced edition identity part (front ++ (second ∷ third ∷ parts))
      (and_right (nat_le (place_of part) 1) (are_ordered 2 (front ++ (second ∷ third ∷ parts)))
      (not_ordered 2 front second third parts less));
  settings = λ edition identity first second parts is. misplaced edition identity first (second ∷ parts)
      (and_right (nat_le (place_of first) 1) (are_ordered 2 (second ∷ parts))
      (and_left (nat_le 2 (place_of second)) (are_ordered (place_of second) parts)
      (not_le 2 (place_of second) (omega (arith, is)))));
  empty = λ edition identity. refl;
  places = λ validate replay mode encoding an tx sci rx fingerprints. (refl, refl, refl, refl, refl, refl);
}
