-- The keys of a link that is read have their lengths.
use Rattle.std.proofs.Common.{◌≡◌, ◌∙◌, ◌*◌, ◌+◌, ◌∷◌, ◌++◌, ℕ, List, [], length, Option, Some, None, Result, Ok, Err}
use Rattle.std.proofs.Common.{codes, refl, sym, ap, subst, arith}
use Rattle.std.specs.Prelude.{option_and_then}
use Rattle.std.specs.Option.{option_map}
use Rattle.hex.specs.Hex.{decode_of, decode_sized}
use Rattle.hex.specs.declared.error.FromHexError.{FromHexError}
use Rattle.hex.proofs.HexLemmas.{decode_of-ok, decode_sized-ok, decode_sized-twice}
use Rattle.toml.specs.Data.{Items, Members, item, no_items}
use Rattle.macs_aes.specs.Keys.{HasItsLength}
use Rattle.macs_aes.specs.declared.keys.Key.{Key}
use Rattle.macs_aes.specs.declared.keys.Key.TheVariants.{Long, Short}
use Rattle.macs_commands.specs.Tables.{key_at, text_at}
use Rattle.macs_commands.specs.Digits.{key_of, octets_of}
use Rattle.macs_commands.specs.Accepting.{HasKeys, Refuses}
use Rattle.macs_commands.specs.Reading.{file_link, key_pair, key_pairs}
use Rattle.macs_commands.specs.Planning.{own_key}
use Rattle.macs_commands.specs.declared.links.link.KeyPair.{KeyPair}
use Rattle.macs_commands.specs.declared.links.link.Link.{Link}
use Rattle.macs_commands.specs.declared.links.link.End.{End}
use Rattle.macs_commands.specs.declared.links.link.End.TheVariants.{Left, Right}
use Rattle.macs_commands.proofs.LinkWords.{IsNewest, ends, last, one, pair_read, whole}
use Rattle.macs_commands.proofs.Sound.{is_sound}

-- ---- a key

abbrev found_in : Result (List ℕ) FromHexError → Option (List ℕ)
found_in r = elim r [ Ok octets ↦ Some octets | Err cause ↦ None ]

some_octets : (a b : List ℕ) → Some a ≡ Some b → a ≡ b
some_octets a b is = cc

some_key : (a b : Key) → Some a ≡ Some b → a ≡ b
some_key a b is = cc

found : (r : Result (List ℕ) FromHexError) (octets : List ℕ) → found_in r ≡ Some octets → r ≡ Ok octets
found (Ok read) octets is = ap (λ (o : List ℕ). Ok o) (some_octets read octets is)
found (Err cause) octets is = absurd (cc)

sized : (n : ℕ) (text octets : List ℕ) → decode_sized text n ≡ Ok octets → length octets ≡ n
sized n text octets is =
    let size : length text ≡ 2 * n = decode_sized-ok text n octets is in
    let same : decode_of text ≡ Ok octets = sym (decode_sized-twice text n size) ∙ is in
    let pairs = decode_of-ok text octets same in
    let twice : length text ≡ 2 * length octets = pairs.2 in
    omega (arith, size, twice)

abbrev key_among : Option (List ℕ) → Option (List ℕ) → Option Key
key_among short long = elim short [ Some octets ↦ Some (Short octets) | None ↦ option_map Long long ]

either_long : (short long : Option (List ℕ)) (key : Key) → key_among short long ≡ Some key
    → ((octets : List ℕ) → short ≡ Some octets → length octets ≡ 16)
    → ((octets : List ℕ) → long ≡ Some octets → length octets ≡ 32) → HasItsLength key
either_long (Some octets) long key is of_short of_long =
    subst (λ (k : Key). HasItsLength k) (some_key (Short octets) key is) (of_short octets refl)
either_long None (Some octets) key is of_short of_long =
    subst (λ (k : Key). HasItsLength k) (some_key (Long octets) key is) (of_long octets refl)
either_long None None key is of_short of_long = absurd (cc)

key_long : (text : List ℕ) (key : Key) → key_of text ≡ Some key → HasItsLength key
key_long text key is =
    either_long (octets_of 16 text) (octets_of 32 text) key is
    (λ octets short. sized 16 text octets (found (decode_sized text 16) octets short))
    (λ octets long. sized 32 text octets (found (decode_sized text 32) octets long))

of_text : (text : Option (List ℕ)) (key : Key) → option_and_then key_of text ≡ Some key → HasItsLength key
of_text None key is = absurd (cc)
of_text (Some text) key is = key_long text key is

there_long : (name : List ℕ) (m : Members) (key : Key) → key_at name m ≡ Some key → HasItsLength key
there_long name m key is = of_text (text_at name m) key is

-- ---- pairs of keys

has_keys : (pair : KeyPair) → HasItsLength pair.left → HasItsLength pair.right
    → (end : End) → HasItsLength (own_key pair end)
has_keys pair left right Left = left
has_keys pair left right Right = right

pair_long : (at : ℕ) (m : Members) (pair : KeyPair) → key_pair at m ≡ Ok pair → HasKeys pair
pair_long at m pair is =
    let read = pair_read at m pair is in
    has_keys pair (there_long (codes "left") m pair.left read.1) (there_long (codes "right") m pair.right read.2)

abbrev EachHas : List KeyPair → Type 0
EachHas [] = Unit {0}
EachHas (pair ∷ pairs) = HasKeys pair × EachHas pairs

each_has : (at : ℕ) (items : Items) (pairs : List KeyPair) → key_pairs at items ≡ Ok pairs → EachHas pairs
each_has at no_items pairs is =
    subst (λ (l : List KeyPair). EachHas l) (sym (last at pairs is)) tt
each_has at (item value items) pairs is =
    let (m, first, rest, table_is, all, here, later) = one at value items pairs is in
    subst (λ (l : List KeyPair). EachHas l) (sym all) (pair_long at m first here, each_has (at + 1) items rest later)

last_has : (front : List KeyPair) (earlier newest : KeyPair) → EachHas (front ++ earlier ∷ newest ∷ [])
    → HasKeys newest
last_has [] earlier newest each = each.1.0
last_has (pair ∷ front) earlier newest each = last_has front earlier newest each.1

newest_has : (pairs : List KeyPair) (before : Option KeyPair) (newest : KeyPair) → IsNewest pairs before newest
    → EachHas pairs → HasKeys newest
newest_has pairs None newest is each = (subst (λ (l : List KeyPair). EachHas l) is each).0
newest_has pairs (Some earlier) newest (front, is) each =
    last_has front earlier newest (subst (λ (l : List KeyPair). EachHas l) is each)

-- ---- a link

link_has : (members : Members) (link : Link) → file_link members ≡ Ok link → HasKeys link.newest
link_has members link is =
    let (left, right, items, at_left, at_right, at_key, three, tables) = whole members link is in
    let (pairs, has_pairs, newest) = (ends left right items link tables).2 in
    newest_has pairs link.before link.newest newest (each_has 1 items pairs has_pairs)

pub refuses : Refuses
refuses members link is = (is_sound members link is, link_has members link is)
