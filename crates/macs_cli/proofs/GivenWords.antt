-- Where clap takes words for values that have to be given, each of them is there and passes its parser.
use Rattle.std.proofs.Common.{◌≡◌, ◌∙◌, ◌++◌, ◌⊎◌, inl, inr, ℕ, zero, suc, ◌==◌, Bool, true, false, not, ◌&&◌, ◌||◌}
use Rattle.std.proofs.Common.{List, []}
use Rattle.std.proofs.Common.{◌∷◌, length, Option, Some, None, is_some, if◌then◌else◌, refl, ap, sym, subst}
use Rattle.std.specs.Prelude.{find, fold, nat_le, option_and_then, slice_get, unwrap_or}
use Rattle.std.specs.List.{AllByRecursion, list_all, list_any}
use Rattle.std.specs.Option.{option_map_or}
use Rattle.std.specs.Str.{bytes_eq, chars}
use Rattle.std.proofs.lemmas.List.{nil_from_length}
use Rattle.std.proofs.lemmas.List.Folds.{list_all-append}
use Rattle.std.proofs.lemmas.Slice.Eq.{bytes_eq-Decides}
use Rattle.clap.specs.Facts.{explicit_source, unwrap_or_range}
use Rattle.clap.specs.Lexer.{long_of, short_of}
use Rattle.clap.specs.Takes.{action_passes, default_passes, flag_word_passes, is_given, is_valid, level_passes}
use Rattle.clap.specs.Takes.{long_passes, option_passes, other_passes, positional_passes, react_passes, settle_passes}
use Rattle.clap.specs.Takes.{step_passes, turn_passes, use_passes, value_passes, values_pass, walk_passes, word_passes}
use Rattle.clap.specs.Simple.{Shape}
use Rattle.clap.specs.Walk.{Held, Names, Outcome, Row, Rule, Step, Text, Waiting, Walk, action_of, after_flag}
use Rattle.clap.specs.Walk.{after_step, arg_by_id, arg_by_index, arg_by_long, arg_by_short, at_row, bundle, bundle_met}
use Rattle.clap.specs.Walk.{bundle_step, default_rows, done, finished, first_of, flag_met, has_long, has_row, has_short}
use Rattle.clap.specs.Walk.{idle, is_empty, is_pending, long_met, long_or_other, more_values, next, nothing_held}
use Rattle.clap.specs.Walk.{option}
use Rattle.clap.specs.Walk.{option_met, option_word, plain, plain_word, positional, reacted, reading_by, refused}
use Rattle.clap.specs.Walk.{rows_after, settled, settled_rows, short_or_plain, subcommand, subcommand_met}
use Rattle.clap.specs.Walk.{subcommand_or_other, takes_several, takes_values, to_positional, trailing, used, used_as}
use Rattle.clap.specs.Walk.{used_by_id, value, waits, walk, walk_from, walked, with_default, with_values, without}
use Rattle.clap.specs.Walk.{word_met}
use borrow.Author.Tests.{eqb-true}
use Rattle.clap.specs.declared.builder.action.ArgAction.{ArgAction}
use Rattle.clap.specs.declared.builder.action.ArgAction.TheVariants.{Set, SetTrue}
use Rattle.clap.specs.declared.builder.action.ArgAction.TheVariants as action
use Rattle.clap.specs.declared.parser.matches.ValueSource.{ValueSource}
use Rattle.clap.specs.declared.parser.matches.ValueSource.TheVariants.{CommandLine, DefaultValue}
use Rattle.clap.specs.declared.builder.value_parser.Reading.{Reading}
use Rattle.clap.proofs.WalkLemmas.{both}

-- ---- arguments of one value, each at a place or after a long name, and options without a value

-- the first value passes
abbrev pub first_passes : Rule → List Text → Bool
first_passes a values = option_map_or (value_passes a) (slice_get values 0) false

-- the action sets the values of the last use
abbrev pub Sets : ArgAction → Type 0
Sets x = (x ≡ Set) ⊎ (x ≡ SetTrue)

-- A use has a value, or what stands for it passes; and so does a default, if there is one
pub record IsValueRule (a : Rule) : Type 0 where
  pub action : Sets (action_of a)
  pub missing : ((unwrap_or_range a.range).start_inclusive ≡ 1) ⊎ (first_passes a a.missing ≡ true)
  pub defaults : (a.defaults ≡ []) ⊎ (first_passes a a.defaults ≡ true)
  pub no_short : (x : ℕ) → has_short a x ≡ false

-- the argument is the first of its id
abbrev pub IsOwn : List Rule → Rule → Type 0
IsOwn rules a = arg_by_id rules a.id ≡ Some a

-- each is such an argument, and no two have the same id
pub record AreValueRules (rules : List Rule) : Type 0 where
  pub each : AllByRecursion IsValueRule rules
  pub own : AllByRecursion (IsOwn rules) rules

-- ---- the same as a test

abbrev sets : ArgAction → Bool
sets Set = true
sets SetTrue = true
sets other = false

-- an argument of that kind, without short flags
abbrev is_value_rule : Rule → Bool
is_value_rule a = sets (action_of a)
    && ((((unwrap_or_range a.range).start_inclusive == 1) || first_passes a a.missing)
    && ((is_empty a.defaults || first_passes a a.defaults) && (not (is_some a.short) && is_empty a.short_aliases)))

-- no two arguments have the same id
abbrev have_own_ids : List Rule → Bool
have_own_ids [] = true
have_own_ids (a ∷ rest) = not (list_any (λ (b : Rule). bytes_eq a.id b.id) rest) && have_own_ids rest

abbrev pub are_value_rules : List Rule → Bool
are_value_rules rules = list_all is_value_rule rules && have_own_ids rules

pub not-true : (b : Bool) → not b ≡ true → b ≡ false
not-true true is = cc
not-true false is = refl

sets-it : (x : ArgAction) → sets x ≡ true → Sets x
sets-it action.Set is = inl refl
sets-it action.SetTrue is = inr refl
sets-it action.Append is = cc
sets-it action.SetFalse is = cc
sets-it action.Count is = cc
sets-it action.Help is = cc
sets-it action.HelpShort is = cc
sets-it action.HelpLong is = cc
sets-it action.Version is = cc

either : (p q : Bool) → (p || q) ≡ true → (p ≡ true) ⊎ (q ≡ true)
either true q is = inl refl
either false q is = inr is

one-or : (n : ℕ) (q : Bool) → ((n == 1) || q) ≡ true → (n ≡ 1) ⊎ (q ≡ true)
one-or n q is = elim (either (n == 1) q is) [
  | inl one ↦ inl (eqb-true n 1 one)
  | inr other ↦ inr other
]

nil-or : {X : Type 0} (xs : List X) (q : Bool) → (is_empty xs || q) ≡ true → (xs ≡ []) ⊎ (q ≡ true)
nil-or xs q is = elim (either (is_empty xs) q is) [
  | inl empty ↦ inl (nil_from_length xs (eqb-true (length xs) 0 empty))
  | inr other ↦ inr other
]

short-none : (short : Option ℕ) (more : List ℕ) (x : ℕ) → (not (is_some short) && is_empty more) ≡ true
    → (option_map_or (λ s. s == x) short false || list_any (λ alias. alias == x) more) ≡ false
short-none None more x is =
    let nil : more ≡ [] = nil_from_length more (eqb-true (length more) 0 is) in
    rw nil refl
short-none (Some y) more x is = cc

value-rule : (a : Rule) → is_value_rule a ≡ true → IsValueRule a
value-rule a is =
    let rest = (both (sets (action_of a)) _ is).1 in
    let last = (both _ _ (both _ _ rest).1) in record {
      action = sets-it (action_of a) (both _ _ is).0;
      missing = one-or (unwrap_or_range a.range).start_inclusive (first_passes a a.missing) (both _ _ rest).0;
      defaults = nil-or a.defaults (first_passes a a.defaults) last.0;
      no_short = λ x. short-none a.short a.short_aliases x last.1;
    }

each-rule : (rules : List Rule) → list_all is_value_rule rules ≡ true → AllByRecursion IsValueRule rules
each-rule [] is = tt
each-rule (a ∷ rest) is = (value-rule a (both _ _ is).0, each-rule rest (both _ _ is).1)

none-of-two : (p q : Bool) → (p || q) ≡ false → (p ≡ false) × (q ≡ false)
none-of-two true q is = cc
none-of-two false q is = (refl, is)

own-shift : (a : Rule) (rules rest : List Rule) → list_any (λ (b : Rule). bytes_eq a.id b.id) rest ≡ false
    → AllByRecursion (IsOwn rules) rest
    → AllByRecursion (IsOwn (a ∷ rules)) rest
own-shift a rules [] other all = tt
own-shift a rules (b ∷ rest) other all =
    let parts = none-of-two (bytes_eq a.id b.id) _ other in
    (rw parts.0 all.0, own-shift a rules rest parts.1 all.1)

own-each : (rules : List Rule) → have_own_ids rules ≡ true → AllByRecursion (IsOwn rules) rules
own-each [] is = tt
own-each (a ∷ rest) is =
    let same : bytes_eq a.id a.id ≡ true = (bytes_eq-Decides a.id a.id).1 refl in
    (rw same refl, own-shift a rest rest (not-true _ (both _ _ is).0) (own-each rest (both _ _ is).1))

pub value-rules : (rules : List Rule) → are_value_rules rules ≡ true → AreValueRules rules
value-rules rules is = record {
  each = each-rule rules (both _ _ is).0;
  own = own-each rules (both _ _ is).1;
}

-- ---- what is found

first-of : {X : Type 0} (y x : X) → Some y ≡ Some x → y ≡ x
first-of y x same = ap (λ (o : Option _). unwrap_or o y) same

found-is : {X : Type 0} (p : X → Bool) (xs : List X) (x : X) → find p xs ≡ Some x → p x ≡ true
found-is p [] x found = cc
found-is p (y ∷ rest) x found = go (p y) refl found (λ later. found-is p rest x later)
  where
    go : (is : Bool) → p y ≡ is → (if is then Some y else find p rest) ≡ Some x → (find p rest ≡ Some x → p x ≡ true)
        → p x ≡ true
    go true is here below = rw (← first-of y x here) is
    go false is later below = below later

found-passes : {X : Type 0} (p q : X → Bool) (xs : List X) (x : X) → list_all q xs ≡ true → find p xs ≡ Some x
    → q x ≡ true
found-passes p q [] x all found = cc
found-passes p q (y ∷ rest) x all found = go (p y) found (λ later. found-passes p q rest x (both _ _ all).1 later)
  where
    go : (is : Bool) → (if is then Some y else find p rest) ≡ Some x → (find p rest ≡ Some x → q x ≡ true) → q x ≡ true
    go true here below = rw (← first-of y x here) (both _ _ all).0
    go false later below = below later

found-has : (P : Rule → Type 0) (p : Rule → Bool) (c : List Rule) (a : Rule) → AllByRecursion P c
    → find p c ≡ Some a → P a
found-has P p [] a all found = cc
found-has P p (b ∷ rest) a all found = go (p b) found (λ later. found-has P p rest a all.1 later)
  where
    go : (is : Bool) → (if is then Some b else find p rest) ≡ Some a → (find p rest ≡ Some a → P a) → P a
    go true here below = subst P (first-of b a here) all.0
    go false later below = below later

-- no short flag is known
no-short : (c : List Rule) (x : ℕ) → AllByRecursion IsValueRule c → arg_by_short c x ≡ None
no-short [] x all = refl
no-short (a ∷ rest) x all = rw (all.0.no_short x) (go (is_some a.index) (no-short rest x all.1))
  where
    go : (placed : Bool) → arg_by_short rest x ≡ None
        → (if not placed && false then Some a else arg_by_short rest x) ≡ None
    go true below = below
    go false below = below

-- the argument that has an id is found by its own
own-id : (c : List Rule) (id : Text) (a : Rule) → arg_by_id c id ≡ Some a → arg_by_id c a.id ≡ Some a
own-id c id a found =
    let same : a.id ≡ id = (bytes_eq-Decides a.id id).0 (found-is (λ b. bytes_eq b.id id) c a found) in
    subst (λ (t : Text). arg_by_id c t ≡ Some a) (sym same) found

-- ---- rows

-- the first value of the row passes the parser of its argument
abbrev is_good : List Rule → Row → Bool
is_good c row = option_map_or (λ a. first_passes a row.values) (arg_by_id c row.id) true

abbrev are_good : List Rule → List Row → Bool
are_good c rows = list_all (is_good c) rows

-- rows with one changed or added
good-at_row : (c : List Rule) (id : Text) (change : Row → List Row) (missing rows : List Row)
    → ((r : Row) → is_good c r ≡ true → are_good c (change r) ≡ true) → are_good c missing ≡ true
    → are_good c rows ≡ true
    → are_good c (at_row id change missing rows) ≡ true
good-at_row c id change missing [] changed added good = added
good-at_row c id change missing (r ∷ rest) changed added good =
    go (bytes_eq r.id id) (both _ _ good).0 (both _ _ good).1
    (good-at_row c id change missing rest changed added (both _ _ good).1)
  where
    go : (is : Bool) → is_good c r ≡ true → are_good c rest ≡ true → are_good c (at_row id change missing rest) ≡ true
        → are_good c (if is then change r ++ rest else r ∷ at_row id change missing rest) ≡ true
    go true first others below =
        let made : are_good c (change r) ≡ true = changed r first in
        list_all-append (is_good c) (change r) rest ∙ rw (made, others) refl
    go false first others below = rw (first, below) refl

good-without : (c : List Rule) (id : Text) (rows : List Row) → are_good c rows ≡ true
    → are_good c (without id rows) ≡ true
good-without c id rows good = good-at_row c id (λ r. []) [] rows (λ r is. refl) refl good

-- more values after the first
first-stays : (found : Option Rule) (values more : List Text)
    → option_map_or (λ a. first_passes a values) found true ≡ true
    → option_map_or (λ a. first_passes a (values ++ more)) found true ≡ true
first-stays None values more is = refl
first-stays (Some a) [] more is = cc
first-stays (Some a) (v ∷ vs) more is = is

good-with_values : (c : List Rule) (a : Rule) (how : Reading) (source : ValueSource) (values : List Text)
    (rows : List Row)
    → arg_by_id c a.id ≡ Some a → first_passes a values ≡ true → are_good c rows ≡ true
    → are_good c (with_values a.id how source values rows) ≡ true
good-with_values c a how source values rows own passes good =
    good-at_row c a.id (more_values source values) _ rows
    (λ r is. rw (first-stays (arg_by_id c r.id) r.values values is) refl)
    (rw (own, passes) refl) good

-- a use that sets values
sets-pass : (x : ArgAction) (again : Bool) (a : Rule) (values : List Text) (rows : List Row) → Sets x
    → action_passes x again a values rows ≡ true → values_pass a values ≡ true
sets-pass x again a values rows (inl is) passes =
    let set : action_passes Set again a values rows ≡ true = rw is at passes in
    (both _ _ set).1
sets-pass x again a values rows (inr is) passes =
    let set : action_passes SetTrue again a values rows ≡ true = rw is at passes in
    (both _ _ set).1

good-sets : (c : List Rule) (x : ArgAction) (a : Rule) (values : List Text) (rows : List Row) → Sets x
    → arg_by_id c a.id ≡ Some a
    → first_passes a values ≡ true → are_good c rows ≡ true
    → are_good c (used_as x a.id (reading_by a) values rows) ≡ true
good-sets c x a values rows (inl is) own first good =
    rw is (good-with_values c a (reading_by a) CommandLine values (without a.id rows) own first
    (good-without c a.id rows good))
good-sets c x a values rows (inr is) own first good =
    rw is (good-with_values c a (reading_by a) CommandLine values (without a.id rows) own first
    (good-without c a.id rows good))

-- a use of an argument, with a value that passes
good-used : (c : List Rule) (again : Bool) (a : Rule) (values : List Text) (rows : List Row) → IsValueRule a
    → arg_by_id c a.id ≡ Some a
    → use_passes again a values rows ≡ true → are_good c rows ≡ true → are_good c (used a values rows) ≡ true
good-used c again a [] rows rule own passes good = go rule.missing (both _ _ passes).0
  where
    go : ((unwrap_or_range a.range).start_inclusive ≡ 1) ⊎ (first_passes a a.missing ≡ true)
        → nat_le (unwrap_or_range a.range).start_inclusive 0 ≡ true → are_good c (used a [] rows) ≡ true
    go (inl one) wanted =
        let none : nat_le 1 0 ≡ true = rw one at wanted in
        cc
    go (inr first) wanted = good-sets c (action_of a) a a.missing rows rule.action own first good
good-used c again a (v ∷ vs) rows rule own passes good =
    let rest : action_passes (action_of a) again a (v ∷ vs) rows ≡ true = (both _ _ (both _ _ passes).1).1 in
    let all : values_pass a (v ∷ vs) ≡ true = sets-pass (action_of a) again a (v ∷ vs) rows rule.action rest in
    let first : value_passes a v ≡ true = (both _ _ all).0 in
    good-sets c (action_of a) a (v ∷ vs) rows rule.action own first good

-- ---- the walk

good-settled : (c : List Rule) (again : Bool) (h : Held) → AreValueRules c → settle_passes c again h ≡ true
    → are_good c h.rows ≡ true
    → are_good c (settled c h).rows ≡ true
good-settled c again h rules passes good = go h.pending passes
  where
    at : (p : Text × List Text) (found : Option Rule) → arg_by_id c p.0 ≡ found
        → option_map_or (λ a. use_passes again a p.1 h.rows) found true ≡ true
        → are_good c (used_by_id found p.1 h.rows) ≡ true
    at p None is passes = good
    at p (Some a) is passes =
        good-used c again a p.1 h.rows (found-has IsValueRule (λ b. bytes_eq b.id p.0) c a rules.each is)
        (own-id c p.0 a is) passes good

    go : (pending : Option (Text × List Text))
        → option_map_or (λ p. option_map_or (λ a. use_passes again a p.1 h.rows) (arg_by_id c p.0) true)
        pending true ≡ true
        → are_good c (settled_rows c pending h.rows) ≡ true
    go None passes = good
    go (Some p) passes = at p (arg_by_id c p.0) refl passes

good-reacted : (c : List Rule) (again : Bool) (a : Rule) (values : List Text) (h : Held) → AreValueRules c
    → IsValueRule a → IsOwn c a
    → react_passes c again a values h ≡ true → are_good c h.rows ≡ true → are_good c (reacted c a values h).rows ≡ true
good-reacted c again a values h rules rule own passes good =
    good-used c again a values (settled c h).rows rule own (both _ _ passes).1
    (good-settled c again h rules (both _ _ passes).0 good)

-- a long name, with the value that is attached to it
good-known : (c : List Rule) (again : Bool) (a : Rule) (attached : Option Text) (h : Held) → AreValueRules c
    → IsValueRule a → IsOwn c a
    → long_passes c again (Some a) attached h ≡ true → are_good c h.rows ≡ true
    → are_good c (long_met c (Some a) attached h).0.rows ≡ true
good-known c again a attached h rules rule own passes good = go (takes_values a) attached passes
  where
    go : (takes : Bool) (attached : Option Text)
        → (if takes then option_passes c again a attached h
        else (not (is_some attached) && react_passes c again a [] h)) ≡ true
        → are_good c (if takes then option_met c a attached h else flag_met c a attached h).0.rows ≡ true
    go true (Some v) passes = good-reacted c again a (v ∷ []) h rules rule own passes good
    go true None passes = good-settled c again h rules passes good
    go false (Some v) passes = good
    go false None passes = good-reacted c again a [] h rules rule own passes good

good-long : (c : List Rule) (again : Bool) (name : Text) (attached : Option Text) (h : Held) → AreValueRules c
    → long_passes c again (arg_by_long c name) attached h ≡ true → are_good c h.rows ≡ true
    → are_good c (long_met c (arg_by_long c name) attached h).0.rows ≡ true
good-long c again name attached h rules passes good = go (arg_by_long c name) refl passes
  where
    go : (found : Option Rule) → arg_by_long c name ≡ found → long_passes c again found attached h ≡ true
        → are_good c (long_met c found attached h).0.rows ≡ true
    go None is passes = good
    go (Some a) is passes =
        let at = λ (b : Rule). not (is_some b.index) && has_long b name in
        good-known c again a attached h rules (found-has IsValueRule at c a rules.each is)
        (found-has (IsOwn c) at c a rules.own is) passes good

-- no other word changes rows before it goes to a positional
rows-plain : (c : List Rule) (waiting : Waiting) (word : Text) (h : Held)
    → (plain_word c waiting word h).0.rows ≡ h.rows
rows-plain c idle word h = refl
rows-plain c positional word h = refl
rows-plain c (option id) word h = go (arg_by_id c id)
  where
    go : (found : Option Rule) → (option_word found id word h).0.rows ≡ h.rows
    go None = refl
    go (Some a) = refl

rows-after : (c : List Rule) (waiting : Waiting) (word : Text) (h : Held) (outcome : Outcome)
    → (after_flag c waiting word h outcome).0.rows ≡ h.rows
rows-after c waiting word h done = refl
rows-after c waiting word h (waits id) = refl
rows-after c waiting word h plain = rows-plain c waiting word h
rows-after c waiting word h refused = rows-plain c waiting word h

rows-flag : (c : List Rule) (k : ℕ) (first : Option ℕ) (flags : Text) (skip : ℕ) (so_far : Outcome) (h : Held)
    → AllByRecursion IsValueRule c
    → ((rest : Text) (less : ℕ) (outcome : Outcome) (held : Held)
    → (bundle_met c k rest less outcome held).0.rows ≡ held.rows)
    → (bundle_step c first flags skip so_far h (bundle_met c k)).0.rows ≡ h.rows
rows-flag c k None flags skip so_far h rules below = refl
rows-flag c k (Some x) flags zero so_far h rules below = rw (no-short c x rules) refl
rows-flag c k (Some x) flags (suc less) so_far h rules below = below _ less so_far h

rows-flags : (c : List Rule) (k : ℕ) (flags : Text) (skip : ℕ) (so_far : Outcome) (h : Held)
    → AllByRecursion IsValueRule c
    → (bundle_met c k flags skip so_far h).0.rows ≡ h.rows
unfolding bundle_met
rows-flags c zero flags skip so_far h rules = refl
rows-flags c (suc k) flags skip so_far h rules =
    rows-flag c k (slice_get (chars flags) 0) flags skip so_far h rules
    (λ rest less outcome held. rows-flags c k rest less outcome held rules)

rows-short : (c : List Rule) (waiting : Waiting) (word : Text) (flags : Option Text) (h : Held)
    → AllByRecursion IsValueRule c
    → (short_or_plain c waiting word flags h).0.rows ≡ h.rows
rows-short c waiting word None h rules = rows-plain c waiting word h
rows-short c waiting word (Some flags) h rules =
    rows-after c waiting word (bundle c flags h).0 (bundle c flags h).1
    ∙ rows-flags c (length flags) flags h.skip plain (record h { skip = 0 }) rules

good-word : (c : List Rule) (again : Bool) (waiting : Waiting) (word : Text) (long : Option (Text × Option Text))
    (h : Held) → AreValueRules c
    → flag_word_passes c again long word h ≡ true → are_good c h.rows ≡ true
    → are_good c (long_or_other c waiting word long h).0.rows ≡ true
good-word c again waiting word None h rules passes good =
    rw (rows-short c waiting word (short_of word) h rules.each) good
good-word c again waiting word (Some p) h rules passes good =
    let met = long_met c (arg_by_long c p.0) p.1 h in
    rw (rows-after c waiting word met.0 met.1) (good-long c again p.0 p.1 h rules passes good)

good-met : (s : Shape) (names : Names) (is_trailing : Bool) (waiting : Waiting) (position : ℕ) (word : Text) (h : Held)
    → AreValueRules s.rules
    → word_passes s names is_trailing waiting word h ≡ true → are_good s.rules h.rows ≡ true
    → are_good s.rules (word_met s.rules names is_trailing waiting position word h).0.rows ≡ true
good-met s names true waiting position word h rules passes good = good
good-met s names false waiting position word h rules passes good = go (subcommand_met names waiting word) passes
  where
    dashes : (is : Bool) → (is || flag_word_passes s.rules s.args_override_self (long_of word) word h) ≡ true
        → are_good s.rules
        (if is then (h, trailing position) else long_or_other s.rules waiting word (long_of word) h).0.rows ≡ true
    dashes true passes = good
    dashes false passes = good-word s.rules s.args_override_self waiting word (long_of word) h rules passes good

    go : (met : Option Text) → other_passes s met word h ≡ true
        → are_good s.rules (subcommand_or_other s.rules met waiting position word h).0.rows ≡ true
    go (Some name) passes = good
    go None passes = dashes (bytes_eq word (45 ∷ 45 ∷ [])) passes

good-positional : (s : Shape) (found : Option Rule) (word : Text) (w : Walk) (h : Held) → AreValueRules s.rules
    → option_map_or (λ a. positional_passes s.rules s.args_override_self a h) found false ≡ true
    → are_good s.rules h.rows ≡ true
    → are_good s.rules (to_positional s.rules found word w h).held.rows ≡ true
good-positional s None word w h rules passes good = good
good-positional s (Some a) word w h rules passes good = go (is_pending a h.pending && takes_several a) passes
  where
    go : (goes_on : Bool) → (goes_on || settle_passes s.rules s.args_override_self h) ≡ true
        → are_good s.rules (if goes_on then h else settled s.rules h).rows ≡ true
    go true passes = good
    go false passes = good-settled s.rules s.args_override_self h rules passes good

good-step : (s : Shape) (word : Text) (w : Walk) (h : Held) (step : Step) → AreValueRules s.rules
    → step_passes s w.position h step ≡ true
    → are_good s.rules h.rows ≡ true → are_good s.rules (after_step s.rules word w h step).held.rows ≡ true
good-step s word w h (next waiting) rules passes good = good
good-step s word w h (trailing position) rules passes good = good
good-step s word w h (subcommand name) rules passes good = good
good-step s word w h value rules passes good =
    good-positional s (arg_by_index s.rules w.position) word w h rules passes good

good-turn : (s : Shape) (names : Names) (w : Walk) (word : Text) → AreValueRules s.rules
    → turn_passes s names w word ≡ true
    → are_good s.rules w.held.rows ≡ true → are_good s.rules (walked s.rules names w word).held.rows ≡ true
unfolding walked
good-turn s names w word rules passes good = go w.stopped passes
  where
    met : Held × Step
    met = word_met s.rules names w.is_trailing w.waiting w.position word w.held

    go : (stopped : Option (Text × List Text)) → turn_passes s names (record w { stopped = stopped }) word ≡ true
        → are_good s.rules (walked s.rules names (record w { stopped = stopped }) word).held.rows ≡ true
    go (Some p) passes = good
    go None passes =
        good-step s word (record w { stopped = None }) met.0 met.1 rules (both _ _ passes).1
        (good-met s names w.is_trailing w.waiting w.position word w.held rules (both _ _ passes).0 good)

good-walk : (s : Shape) (names : Names) (w : Walk) (words : List Text) → AreValueRules s.rules
    → walk_passes s names w words ≡ true
    → are_good s.rules w.held.rows ≡ true → are_good s.rules (fold (walked s.rules names) w words).held.rows ≡ true
unfolding walk_passes
good-walk s names w [] rules passes good = good
good-walk s names w (word ∷ rest) rules passes good =
    let parts = both _ _ passes in
    good-walk s names (walked s.rules names w word) rest rules parts.1 (good-turn s names w word rules parts.0 good)

-- ---- a level

-- what a default adds passes
good-default : (c : List Rule) (a : Rule) (rows : List Row) → IsValueRule a → IsOwn c a → are_good c rows ≡ true
    → are_good c (with_default rows a) ≡ true
good-default c a rows rule own good = go (has_row a.id rows)
  where
    added : (values : List Text) → first_passes a values ≡ true
        → are_good c (default_rows a.id (reading_by a) values rows) ≡ true
    added [] passes = cc
    added (v ∷ vs) passes = good-with_values c a (reading_by a) DefaultValue (v ∷ vs) rows own passes good

    by : (a.defaults ≡ []) ⊎ (first_passes a a.defaults ≡ true)
        → are_good c (default_rows a.id (reading_by a) a.defaults rows) ≡ true
    by (inl none) = rw none good
    by (inr passes) = added a.defaults passes

    go : (has : Bool) → are_good c (if has then rows else default_rows a.id (reading_by a) a.defaults rows) ≡ true
    go true = good
    go false = by rule.defaults

good-defaults : (c rules : List Rule) (rows : List Row) → AllByRecursion IsValueRule rules
    → AllByRecursion (IsOwn c) rules
    → are_good c rows ≡ true → are_good c (fold with_default rows rules) ≡ true
good-defaults c [] rows each own good = good
good-defaults c (a ∷ rest) rows each own good =
    good-defaults c rest (with_default rows a) each.1 own.1 (good-default c a rows each.0 own.0 good)

-- a row that is given has a first value that passes
given-first : (c : List Rule) (a : Rule) (rows : List Row) → arg_by_id c a.id ≡ Some a → is_given a.id rows ≡ true
    → are_good c rows ≡ true
    → (text : Text) × (first_of a.id rows ≡ Some text) × (value_passes a text ≡ true)
given-first c a rows own given good = go (find (λ r. bytes_eq r.id a.id) rows) refl given
  where
    text : (row : Row) (values : List Text) → row.values ≡ values → find (λ r. bytes_eq r.id a.id) rows ≡ Some row
        → first_passes a values ≡ true
        → (text : Text) × (first_of a.id rows ≡ Some text) × (value_passes a text ≡ true)
    text row [] are found passes = cc
    text row (v ∷ vs) are found passes = (v, rw (found, are) refl, passes)

    go : (found : Option Row) → find (λ r. bytes_eq r.id a.id) rows ≡ found
        → option_map_or (λ r. explicit_source r.source) found false ≡ true
        → (text : Text) × (first_of a.id rows ≡ Some text) × (value_passes a text ≡ true)
    go None is given = cc
    go (Some row) is given =
        let same : row.id ≡ a.id = (bytes_eq-Decides row.id a.id).0 (found-is (λ r. bytes_eq r.id a.id) rows row is) in
        let good_row : is_good c row ≡ true = found-passes (λ r. bytes_eq r.id a.id) (is_good c) rows row good is in
        let passes : first_passes a row.values ≡ true = rw (same, own) at good_row in
        text row row.values refl is passes

last-of-four : (a b d negates all : Bool) → negates ≡ false → (a && (b && (d && ((negates && false) || all)))) ≡ true
    → all ≡ true
last-of-four true true true false all is valid = valid
last-of-four true true true true all is valid = cc
last-of-four true true false negates all is valid = cc
last-of-four true false d negates all is valid = cc
last-of-four false b d negates all is valid = cc

-- a value that is there passes
value-passes : (c : List Rule) (a : Rule) (rows : List Row) (text : Text) → arg_by_id c a.id ≡ Some a
    → are_good c rows ≡ true
    → first_of a.id rows ≡ Some text → value_passes a text ≡ true
value-passes c a rows text own good there = go (find (λ r. bytes_eq r.id a.id) rows) refl there
  where
    first : (values : List Text) → slice_get values 0 ≡ Some text → first_passes a values ≡ true
        → value_passes a text ≡ true
    first [] is passes = cc
    first (v ∷ vs) is passes = rw (← first-of v text is) passes

    go : (found : Option Row) → find (λ r. bytes_eq r.id a.id) rows ≡ found
        → option_and_then (λ r. slice_get r.values 0) found ≡ Some text
        → value_passes a text ≡ true
    go None is there = cc
    go (Some row) is there =
        let same : row.id ≡ a.id = (bytes_eq-Decides row.id a.id).0 (found-is (λ r. bytes_eq r.id a.id) rows row is) in
        let good_row : is_good c row ≡ true = found-passes (λ r. bytes_eq r.id a.id) (is_good c) rows row good is in
        let passes : first_passes a row.values ≡ true = rw (same, own) at good_row in
        first row.values there passes

-- what is required is given
all-given : (s : Shape) (rows : List Row) → s.subcommand_negates_reqs ≡ false → is_valid s rows false ≡ true
    → list_all (λ b. not b.required || is_given b.id rows) s.rules ≡ true
all-given s rows negates valid =
    last-of-four (not s.arg_required_else_help || (false || list_any (λ r. explicit_source r.source) rows))
    (not s.subcommand_required || false)
    (list_all (λ a. a.is_free) s.rules) s.subcommand_negates_reqs
    (list_all (λ b. not b.required || is_given b.id rows) s.rules) negates valid

-- all rows of a level of a parse are good
good-level : (s : Shape) (words : List Text) → AreValueRules s.rules → level_passes s [] nothing_held words false ≡ true
    → are_good s.rules (rows_after s.rules [] words) ≡ true
good-level s words rules passes =
    let end = (walk s.rules [] nothing_held words).held in
    let parts = both _ _ passes in
    let ending = both _ _ parts.1 in
    good-defaults s.rules s.rules (settled s.rules end).rows rules.each rules.own
    (good-settled s.rules s.args_override_self end rules ending.0
    (good-walk s [] (walk_from nothing_held) words rules parts.0 refl))

-- a value that an argument has in a level of a parse passes
pub passes_where_given : (s : Shape) (words : List Text) (a : Rule) (text : Text) → AreValueRules s.rules
    → level_passes s [] nothing_held words false ≡ true → arg_by_id s.rules a.id ≡ Some a
    → first_of a.id (rows_after s.rules [] words) ≡ Some text → value_passes a text ≡ true
passes_where_given s words a text rules passes own there =
    value-passes s.rules a (rows_after s.rules [] words) text own (good-level s words rules passes) there

-- an argument that a level of a parse requires has a value, which passes
pub given : (s : Shape) (words : List Text) (a : Rule) → AreValueRules s.rules → s.subcommand_negates_reqs ≡ false
    → level_passes s [] nothing_held words false ≡ true → arg_by_id s.rules a.id ≡ Some a → a.required ≡ true
    → (text : Text) × (first_of a.id (rows_after s.rules [] words) ≡ Some text) × (value_passes a text ≡ true)
given s words a rules negates passes own required =
    let end = (walk s.rules [] nothing_held words).held in
    let parts = both (walk_passes s [] (walk_from nothing_held) words) _ passes in
    let ending = both (settle_passes s.rules s.args_override_self end) _ parts.1 in
    let good : are_good s.rules (finished s.rules end) ≡ true = good-level s words rules passes in
    let valid : is_valid s (finished s.rules end) false ≡ true =
    (both (list_all default_passes s.rules) _ ending.1).1 in
    let all = all-given s (finished s.rules end) negates valid in
    let one : (not a.required || is_given a.id (finished s.rules end)) ≡ true =
    found-passes (λ b. bytes_eq b.id a.id) (λ b. not b.required || is_given b.id (finished s.rules end)) s.rules
    a all own in
    let here : is_given a.id (finished s.rules end) ≡ true = rw required at one in
    given-first s.rules a (finished s.rules end) own here good
