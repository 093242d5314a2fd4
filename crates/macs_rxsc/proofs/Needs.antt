-- The first need of the channels that exist.
use Rattle.std.proofs.Common.{◌≡◌, ◌∙◌, ◌≤◌, ◌<◌, ◌+◌, ◌++◌, ℕ, zero, suc, Bool, true, false, List, [], ◌∷◌, length}
use Rattle.std.proofs.Common.{map, flat_map, drop, get_or, bytes_eq, Option, Some, None, IsSome, Ordering, Less, Equal}
use Rattle.std.proofs.Common.{Greater, nat_cmp, is_lt, is_eq, refl, ap, sym, subst, arith}
use Rattle.std.specs.List.{list_any}
use Rattle.std.specs.Option.{option_map}
use Rattle.std.proofs.lemmas.Bool.{and_from, and_parts, or_from, or_parts}
use Rattle.std.proofs.lemmas.List.{drop_more}
use Rattle.std.proofs.lemmas.Map.Text.{is_eq-slice_cmp}
use Rattle.std.specs.Cmp.Lexicographic.{slice_cmp}
use Rattle.macs_config.proofs.Channels.{before-trans, bytes_eq-itself, bytes_eq-sym}
use Rattle.macs_config.proofs.Keyed.{lookup-none}
use Rattle.macs_config.specs.Config.{comes_before, is_ascending}
use Rattle.macs_config.specs.declared.command.Replay.{Replay}
use Rattle.macs_config.specs.declared.command.Validate.{Validate}
use Rattle.macs_rxsc.proofs.Places.{channel_lookup}
use Rattle.macs_rxsc.specs.Needs.{Need, first_need, need_of, first_need_of}
use Rattle.macs_rxsc.specs.Value.{association_in, ceilings_among, ceilings_in, channel_at, numbers_in, packet_numbers}
use Rattle.macs_rxsc.specs.Value.{sa_of, sas_in, scis_of, rx_side_in}
use Rattle.macs_rxsc.specs.declared.association.Association.{Association}
use Rattle.macs_rxsc.specs.declared.channel.Channel.{Channel}

-- the needs of a channel's associations
abbrev pub needs_in : ℕ → List ℕ → Option Channel → List (Option Need)
needs_in block sci channel =
    map (λ an. need_of block sci an (numbers_in channel an) (ceilings_in channel an)) (0 ∷ 1 ∷ 2 ∷ 3 ∷ [])

abbrev pub needs_among : ℕ → List Channel → List (Option Need)
needs_among block channels = flat_map (λ (c : Channel). needs_in block c.sci (Some c)) channels

append_none : (xs ys : List (Option Need)) → first_need xs ≡ None → first_need (xs ++ ys) ≡ first_need ys
append_none [] ys none = refl
append_none (None ∷ xs) ys none = append_none xs ys none
append_none (Some n ∷ xs) ys none = absurd (cc)

append_some : (xs ys : List (Option Need)) (n : Need) → first_need xs ≡ Some n → first_need (xs ++ ys) ≡ Some n
append_some [] ys n is = absurd (cc)
append_some (None ∷ xs) ys n is = append_some xs ys n is
append_some (Some m ∷ xs) ys n is = is

-- a channel without need
pub passed : (block : ℕ) (channels : List Channel) (i : ℕ) (d : Channel) → i < length channels
    → first_need (needs_in block (get_or channels i d).sci (Some (get_or channels i d))) ≡ None
    → first_need (needs_among block channels) ≡ first_need (needs_among block (drop i channels))
    → first_need (needs_among block channels) ≡ first_need (needs_among block (drop (i + 1) channels))
passed block channels i d within none so_far =
    so_far ∙ ap (λ (xs : List Channel). first_need (needs_among block xs)) (drop_more channels i d within)
    ∙ append_none (needs_in block (get_or channels i d).sci (Some (get_or channels i d))) _ none

-- a channel with a need
pub met : (block : ℕ) (channels : List Channel) (i : ℕ) (d : Channel) (need : Need) → i < length channels
    → first_need (needs_in block (get_or channels i d).sci (Some (get_or channels i d))) ≡ Some need
    → first_need (needs_among block channels) ≡ first_need (needs_among block (drop i channels))
    → first_need (needs_among block channels) ≡ Some need
met block channels i d need within some so_far =
    so_far ∙ ap (λ (xs : List Channel). first_need (needs_among block xs)) (drop_more channels i d within)
    ∙ append_some (needs_in block (get_or channels i d).sci (Some (get_or channels i d))) _ need some

gone_past : (xs : List Channel) (i : ℕ) → length xs ≤ i → drop i xs ≡ []
gone_past [] zero past = refl
gone_past [] (suc i) past = refl
gone_past (x ∷ xs) zero past = absurd (omega arith)
gone_past (x ∷ xs) (suc i) past = gone_past xs i (omega arith)

-- no channel has a need
pub past_all : (block : ℕ) (channels : List Channel) (i : ℕ) → length channels ≤ i
    → first_need (needs_among block channels) ≡ first_need (needs_among block (drop i channels))
    → first_need (needs_among block channels) ≡ None
past_all block channels i past so_far = so_far
    ∙ ap (λ (xs : List Channel). first_need (needs_among block xs)) (gone_past channels i past)

-- ---- the channel of an SCI is the one that has it, where SCIs ascend

differs_by : (order : Ordering) → is_lt order ≡ true → is_eq order ≡ false
differs_by Less before = refl
differs_by Equal before = absurd (cc)
differs_by Greater before = refl

-- an SCI is another one than those that it comes before
differs : (a b : List ℕ) → comes_before a b ≡ true → bytes_eq b a ≡ false
differs a b before = bytes_eq-sym b a ∙ sym (is_eq-slice_cmp a b) ∙ differs_by (slice_cmp nat_cmp a b) before

-- those that ascend do so without the second of them
without_second : (first second : List ℕ) (others : List (List ℕ)) → comes_before first second ≡ true
    → is_ascending (second ∷ others) ≡ true
    → is_ascending (first ∷ others) ≡ true
without_second first second [] before ascending = refl
without_second first second (third ∷ others) before ascending =
    let parts = and_parts (comes_before second third) (is_ascending (third ∷ others)) ascending in
    and_from (comes_before first third) (is_ascending (third ∷ others))
    (before-trans first second third before parts.0) parts.1

without_first : (first : List ℕ) (others : List (List ℕ)) → is_ascending (first ∷ others) ≡ true
    → is_ascending others ≡ true
without_first first [] ascending = refl
without_first first (second ∷ others) ascending =
    (and_parts (comes_before first second) (is_ascending (second ∷ others)) ascending).1

not_again : (first : List ℕ) (others : List (List ℕ)) → is_ascending (first ∷ others) ≡ true
    → list_any (λ other. bytes_eq other first) others ≡ false
not_again first [] ascending = refl
not_again first (second ∷ others) ascending =
    let parts = and_parts (comes_before first second) (is_ascending (second ∷ others)) ascending in
    or_from (bytes_eq second first) (list_any (λ other. bytes_eq other first) others) (differs first second parts.0)
    (not_again first others (without_second first second others parts.0 parts.1))

not_at : (channels : List Channel) (sci : List ℕ) (k : ℕ) (d : Channel)
    → list_any (λ other. bytes_eq other sci) (scis_of channels) ≡ false → k < length channels
    → bytes_eq (get_or channels k d).sci sci ≡ false
not_at [] sci k d none within = absurd (omega arith)
not_at (c ∷ cs) sci zero d none within =
    (or_parts (bytes_eq c.sci sci) (list_any (λ other. bytes_eq other sci) (scis_of cs)) none).0
not_at (c ∷ cs) sci (suc k) d none within = not_at cs sci k d
    (or_parts (bytes_eq c.sci sci) (list_any (λ other. bytes_eq other sci) (scis_of cs)) none).1 (omega arith)

own : (channels : List Channel) → is_ascending (scis_of channels) ≡ true → (k : ℕ) (d : Channel) → k < length channels
    → channel_at channels (get_or channels k d).sci ≡ Some (get_or channels k d)
own [] ascending k d within = absurd (omega arith)
own (c ∷ cs) ascending zero d within = rw (bytes_eq-itself c.sci) refl
own (c ∷ cs) ascending (suc k) d within =
    let lt : k < length cs = omega arith in
    let other : bytes_eq c.sci (get_or cs k d).sci ≡ false = bytes_eq-sym c.sci (get_or cs k d).sci
    ∙ not_at cs c.sci k d (not_again c.sci (scis_of cs) ascending) lt in
    rw other (own cs (without_first c.sci (scis_of cs) ascending) k d lt)

same_needs : (block : ℕ) (all xs : List Channel)
    → ((k : ℕ) (d : Channel) → k < length xs → channel_at all (get_or xs k d).sci ≡ Some (get_or xs k d))
    → flat_map (λ sci. needs_in block sci (channel_at all sci)) (scis_of xs) ≡ needs_among block xs
same_needs block all [] each = refl
same_needs block all (x ∷ xs) each =
    let here : channel_at all x.sci ≡ Some x = each zero x (omega arith) in
    let rest = same_needs block all xs (λ k d lt. each (suc k) d (omega arith)) in
    λ i. needs_in block x.sci (here i) ++ rest i

-- the first need of all
pub needs_are : (block : ℕ) (channels : List Channel) → is_ascending (scis_of channels) ≡ true
    → (validate : Validate) (replay : Replay)
    → first_need (needs_among block channels)
    ≡ first_need_of (rx_side_in validate replay channels) (ceilings_among channels) block
needs_are block channels ascending validate replay =
    ap first_need (sym (same_needs block channels channels (own channels ascending)))

-- ---- an association is in a channel that exists

among_by : (channels : List Channel) (sci : List ℕ) (an : ℕ) (b : Bool) → list_any (λ other. bytes_eq other sci)
    (scis_of channels) ≡ b → IsSome (sas_in (channel_at channels sci) an) → b ≡ true
among_by channels sci an true is some = refl
among_by channels sci an false is some =
    let none = lookup-none channel_lookup channels sci is in
    let gone = subst (λ (o : Option Channel). IsSome (sas_in o an)) none some in
    absurd (cc)

pub among : (channels : List Channel) (sci : List ℕ) (an : ℕ) → IsSome (sas_in (channel_at channels sci) an)
    → list_any (λ other. bytes_eq other sci) (scis_of channels) ≡ true
among channels sci an some = among_by channels sci an _ refl some

by_association : (o : Option Association) → IsSome (option_map packet_numbers o) → IsSome (option_map sa_of o)
by_association None some = absurd (cc)
by_association (Some a) some = refl

-- and so does one that has numbers
pub among-numbered : (channels : List Channel) (sci : List ℕ) (an : ℕ) → IsSome
    (numbers_in (channel_at channels sci) an) → list_any (λ other. bytes_eq other sci) (scis_of channels) ≡ true
among-numbered channels sci an some =
    among channels sci an (by_association (association_in (channel_at channels sci) an) some)

-- where there is none there are no numbers
pub unnumbered : (o : Option Association) → option_map sa_of o ≡ None → option_map packet_numbers o ≡ None
unnumbered None none = refl
unnumbered (Some a) none = absurd (cc)

-- where there are no numbers there is none
pub unowned : (o : Option Association) → option_map packet_numbers o ≡ None → option_map sa_of o ≡ None
unowned None none = refl
unowned (Some a) none = absurd (cc)
