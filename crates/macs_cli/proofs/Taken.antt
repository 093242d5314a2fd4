-- Words in which clap finds no fault are taken, where each default passes and no argument has a rule on another one.
use Rattle.std.proofs.Common.{◌≡◌, ◌∙◌, ℕ, zero, suc, Bool, true, false, not, ◌&&◌, ◌||◌, List, [], ◌∷◌, length, codes}
use Rattle.std.proofs.Common.{Option, Some, None, is_some, if◌then◌else◌, refl, ap, sym, arith}
use Rattle.std.specs.Prelude.{drop, encode_utf8, find, nat_le, slice_get}
use Rattle.std.specs.List.{list_all, list_any}
use Rattle.std.specs.Option.{option_map_or}
use Rattle.std.specs.Str.{bytes_eq, chars}
use Rattle.clap.specs.Facts.{explicit_source, parser_of_value, unwrap_or_range}
use Rattle.clap.specs.Lexer.{long_of, short_of}
use Rattle.clap.specs.Kinds.{Kinds, check_kinds, or_else, range_kinds, request_kinds, value_kinds}
use Rattle.clap.specs.Values.{is_request, refused_kind}
use Rattle.clap.specs.Faults.{action_fault, bundle_fault, bundle_step_fault, check_fault, count_fault, default_fault}
use Rattle.clap.specs.Faults.{defaults_fault, entered_fault, fault_of, flag_word_fault, flags_fault}
use Rattle.clap.specs.Faults.{given_default_fault, level_fault, long_fault, option_fault, other_fault, positional_fault}
use Rattle.clap.specs.Faults.{react_fault, set_fault, settle_fault, short_fault, step_fault, stray_fault, turn_fault}
use Rattle.clap.specs.Faults.{use_fault, values_fault, walk_fault, word_fault}
use Rattle.clap.specs.Takes.{action_passes, bundle_passes, bundle_step_passes, count_passes, default_passes}
use Rattle.clap.specs.Takes.{entered_passes, flag_word_passes, flags_pass, is_given, is_valid, level_passes}
use Rattle.clap.specs.Takes.{long_passes, option_passes, other_passes, positional_passes, react_passes, set_passes}
use Rattle.clap.specs.Takes.{settle_passes, short_passes, step_passes, takes, turn_passes, use_passes, value_passes}
use Rattle.clap.specs.Takes.{values_pass, walk_passes, word_passes}
use Rattle.clap.specs.Simple.{App, Shape, argument_words, built, entered, is_simple, label_of, names_of}
use Rattle.clap.specs.Walk.{Held, Names, Row, Rule, Step, Text, Waiting, Walk, action_of, answers_to, arg_by_id}
use Rattle.clap.specs.Walk.{arg_by_index, arg_by_long, arg_by_short, attached_value, finished, has_row, is_empty}
use Rattle.clap.specs.Walk.{is_pending, most_values, next, nothing_held, reacted, settled, subcommand, subcommand_met}
use Rattle.clap.specs.Walk.{takes_several, takes_values, trailing, value, values_or_missing, walk, walk_from, walked}
use Rattle.clap.specs.Walk.{with_default, word_met}
use Rattle.clap.specs.ValueTests.{accepts}
use Rattle.clap.specs.declared.builder.action.ArgAction.{ArgAction}
use Rattle.clap.specs.declared.builder.action.ArgAction.TheVariants as action
use Rattle.clap.specs.declared.error.kind.ErrorKind.TheVariants.{ArgumentConflict, DisplayHelp, InvalidSubcommand}
use Rattle.clap.specs.declared.error.kind.ErrorKind.TheVariants.{TooManyValues}
use Rattle.clap.proofs.WalkLemmas.{both}

-- no kind of error comes
abbrev none : Kinds → Bool
none [] = true
none (k ∷ ks) = false

none-or_else : (a b : Kinds) → (none a && none b) ≡ none (or_else a b)
none-or_else [] b = refl
none-or_else (k ∷ ks) b = refl

-- one test after another, and one fault after another
both-none : (p q : Bool) (a b : Kinds) → p ≡ none a → q ≡ none b → (p && q) ≡ none (or_else a b)
both-none p q a b first second = ap (λ (x : Bool). x && q) first ∙ ap (λ (y : Bool). none a && y) second
    ∙ none-or_else a b

-- none of three comes, in whichever order they are asked for
none-or_else_third : (a b d : Kinds) → (none b && (none a && none d)) ≡ none (or_else a (or_else b d))
none-or_else_third [] [] d = refl
none-or_else_third [] (k ∷ ks) d = refl
none-or_else_third (j ∷ js) [] d = refl
none-or_else_third (j ∷ js) (k ∷ ks) d = refl

-- ---- a use of an argument

same-value : (a : Rule) (text : Text)
    → value_passes a text ≡ none (value_kinds a.ignore_case (parser_of_value a.parser) text)
same-value a text = go (accepts a.ignore_case (parser_of_value a.parser) text)
  where
    go : (is : Bool) → is ≡ none (if is then [] else refused_kind (parser_of_value a.parser) ∷ [])
    go true = refl
    go false = refl

same-values : (a : Rule) (values : List Text) → values_pass a values ≡ none (values_fault a values)
same-values a [] = refl
same-values a (v ∷ vs) = both-none _ _ _ _ (same-value a v) (same-values a vs)

same-range : (least most n : ℕ) → (nat_le least n && nat_le n most) ≡ none (range_kinds least most n)
same-range least most n = grind arith

same-set : (again : Bool) (a : Rule) (values : List Text) (rows : List Row)
    → set_passes again a values rows ≡ none (set_fault again a values rows)
same-set again a values rows = both-none _ _ _ _ (go (has_row a.id rows) again) (same-values a values)
  where
    go : (has again : Bool) → (not has || again) ≡ none (if has && not again then ArgumentConflict ∷ [] else [])
    go true true = refl
    go true false = refl
    go false again = refl

same-count : (a : Rule) (values : List Text) (rows : List Row)
    → count_passes a values rows ≡ none (count_fault a values rows)
same-count a [] rows = same-value a _
same-count a (v ∷ vs) rows = same-values a (v ∷ vs)

same-action : (x : ArgAction) (again : Bool) (a : Rule) (values : List Text) (rows : List Row)
    → action_passes x again a values rows ≡ none (action_fault x again a values rows)
same-action action.Set again a values rows = same-set again a values rows
same-action action.SetTrue again a values rows = same-set again a values rows
same-action action.SetFalse again a values rows = same-set again a values rows
same-action action.Append again a values rows = same-values a values
same-action action.Count again a values rows = same-count a values rows
same-action action.Help again a values rows = refl
same-action action.HelpShort again a values rows = refl
same-action action.HelpLong again a values rows = refl
same-action action.Version again a values rows = refl

and-assoc : (a b d : Bool) → (a && (b && d)) ≡ ((a && b) && d)
and-assoc true b d = refl
and-assoc false b d = refl

same-use : (again : Bool) (a : Rule) (values : List Text) (rows : List Row)
    → use_passes again a values rows ≡ none (use_fault again a values rows)
same-use again a values rows =
    and-assoc (nat_le (unwrap_or_range a.range).start_inclusive (length values))
    (nat_le (length values) (most_values a))
    (action_passes (action_of a) again a (values_or_missing a values) rows)
    ∙ both-none _ _ _ _ (same-range (unwrap_or_range a.range).start_inclusive (most_values a) (length values))
    (same-action (action_of a) again a (values_or_missing a values) rows)

-- ---- a word

same-settle : (c : List Rule) (again : Bool) (h : Held) → settle_passes c again h ≡ none (settle_fault c again h)
same-settle c again h = go h.pending
  where
    at : (p : Text × List Text) (found : Option Rule)
        → option_map_or (λ a. use_passes again a p.1 h.rows) found true
        ≡ none (option_map_or (λ a. use_fault again a p.1 h.rows) found [])
    at p None = refl
    at p (Some a) = same-use again a p.1 h.rows

    go : (pending : Option (Text × List Text))
        → option_map_or (λ p. option_map_or (λ a. use_passes again a p.1 h.rows) (arg_by_id c p.0) true) pending true
        ≡ none (option_map_or (λ p. option_map_or (λ a. use_fault again a p.1 h.rows) (arg_by_id c p.0) []) pending [])
    go None = refl
    go (Some p) = at p (arg_by_id c p.0)

same-react : (c : List Rule) (again : Bool) (a : Rule) (values : List Text) (h : Held)
    → react_passes c again a values h ≡ none (react_fault c again a values h)
same-react c again a values h = both-none _ _ _ _ (same-settle c again h) (same-use again a values (settled c h).rows)

same-option : (c : List Rule) (again : Bool) (a : Rule) (v : Option Text) (h : Held)
    → option_passes c again a v h ≡ none (option_fault c again a v h)
same-option c again a (Some v) h = same-react c again a (v ∷ []) h
same-option c again a None h = same-settle c again h

same-long : (c : List Rule) (again : Bool) (found : Option Rule) (v : Option Text) (h : Held)
    → long_passes c again found v h ≡ none (long_fault c again found v h)
same-long c again None v h = refl
same-long c again (Some a) v h = go (takes_values a) v
  where
    go : (takes : Bool) (v : Option Text)
        → (if takes then option_passes c again a v h else (not (is_some v) && react_passes c again a [] h))
        ≡ none (if takes then option_fault c again a v h
        else (if is_some v then TooManyValues ∷ [] else react_fault c again a [] h))
    go true v = same-option c again a v h
    go false (Some text) = refl
    go false None = same-react c again a [] h

same-short : (c : List Rule) (again : Bool) (found : Option Rule) (rest : Text) (h : Held) (passes : Held → Bool)
    (fault : Held → Kinds)
    → ((held : Held) → passes held ≡ none (fault held))
    → short_passes c again found rest h passes ≡ none (short_fault c again found rest h fault)
same-short c again None rest h passes fault below = refl
same-short c again (Some a) rest h passes fault below = go (takes_values a)
  where
    go : (takes : Bool)
        → (if takes then option_passes c again a (attached_value rest) h
        else (react_passes c again a [] h && passes (reacted c a [] h)))
        ≡ none (if takes then option_fault c again a (attached_value rest) h
        else or_else (react_fault c again a [] h) (fault (reacted c a [] h)))
    go true = same-option c again a (attached_value rest) h
    go false = both-none _ _ _ _ (same-react c again a [] h) (below (reacted c a [] h))

-- one more character of a bundle
same-flag : (c : List Rule) (again : Bool) (k : ℕ) (flags : Text) (first : Option ℕ) (skip : ℕ) (h : Held)
    → ((rest : Text) (less : ℕ) (held : Held)
    → flags_pass c again k rest less held ≡ none (flags_fault c again k rest less held))
    → bundle_step_passes c again first flags skip h (flags_pass c again k)
    ≡ none (bundle_step_fault c again first flags skip h (flags_fault c again k))
same-flag c again k flags None skip h below = refl
same-flag c again k flags (Some x) zero h below =
    same-short c again (arg_by_short c x) (drop (length (encode_utf8 x)) flags) h _ _
    (λ held. below (drop (length (encode_utf8 x)) flags) 0 held)
same-flag c again k flags (Some x) (suc less) h below = below _ less h

same-flags : (c : List Rule) (again : Bool) (k : ℕ) (flags : Text) (skip : ℕ) (h : Held)
    → flags_pass c again k flags skip h ≡ none (flags_fault c again k flags skip h)
unfolding flags_pass flags_fault
same-flags c again zero flags skip h = refl
same-flags c again (suc k) flags skip h =
    same-flag c again k flags (slice_get (chars flags) 0) skip h (λ rest less held. same-flags c again k rest less held)

same-flag_word : (c : List Rule) (again : Bool) (long : Option (Text × Option Text)) (word : Text) (h : Held)
    → flag_word_passes c again long word h ≡ none (flag_word_fault c again long word h)
same-flag_word c again (Some p) word h = same-long c again (arg_by_long c p.0) p.1 h
same-flag_word c again None word h = go (short_of word)
  where
    go : (short : Option Text) → option_map_or (λ flags. bundle_passes c again flags h) short true
        ≡ none (option_map_or (λ flags. bundle_fault c again flags h) short [])
    go None = refl
    go (Some flags) = same-flags c again (length flags) flags h.skip (record h { skip = 0 })

same-other : (s : Shape) (met : Option Text) (word : Text) (h : Held)
    → other_passes s met word h ≡ none (other_fault s met word h)
same-other s (Some name) word h = go (bytes_eq name (codes "help")) s.disable_help_subcommand
  where
    go : (is disabled : Bool)
        → (not is || disabled) ≡ none (if is && not disabled then DisplayHelp ∷ InvalidSubcommand ∷ [] else [])
    go true true = refl
    go true false = refl
    go false disabled = refl
same-other s None word h = go (bytes_eq word (45 ∷ 45 ∷ []))
  where
    go : (is : Bool) → (is || flag_word_passes s.rules s.args_override_self (long_of word) word h)
        ≡ none (if is then [] else flag_word_fault s.rules s.args_override_self (long_of word) word h)
    go true = refl
    go false = same-flag_word s.rules s.args_override_self (long_of word) word h

same-word : (s : Shape) (names : Names) (is_trailing : Bool) (waiting : Waiting) (word : Text) (h : Held)
    → word_passes s names is_trailing waiting word h ≡ none (word_fault s names is_trailing waiting word h)
same-word s names true waiting word h = refl
same-word s names false waiting word h = same-other s (subcommand_met names waiting word) word h

same-positional : (s : Shape) (found : Option Rule) (h : Held)
    → option_map_or (λ a. positional_passes s.rules s.args_override_self a h) found false
    ≡ none (option_map_or (λ a. positional_fault s.rules s.args_override_self a h) found (stray_fault s))
same-positional s None h = go s.is_leaf
  where
    go : (is : Bool) → false ≡ none (stray_fault (record s { is_leaf = is }))
    go true = refl
    go false = refl
same-positional s (Some a) h = go (is_pending a h.pending && takes_several a)
  where
    go : (goes_on : Bool) → (goes_on || settle_passes s.rules s.args_override_self h)
        ≡ none (if goes_on then [] else settle_fault s.rules s.args_override_self h)
    go true = refl
    go false = same-settle s.rules s.args_override_self h

same-step : (s : Shape) (position : ℕ) (h : Held) (met : Step)
    → step_passes s position h met ≡ none (step_fault s position h met)
same-step s position h value = same-positional s (arg_by_index s.rules position) h
same-step s position h (next waiting) = refl
same-step s position h (trailing p) = refl
same-step s position h (subcommand name) = refl

same-turn : (s : Shape) (names : Names) (w : Walk) (word : Text)
    → turn_passes s names w word ≡ none (turn_fault s names w word)
same-turn s names w word = go (is_some w.stopped)
  where
    met : Held × Step
    met = word_met s.rules names w.is_trailing w.waiting w.position word w.held

    passes : Bool
    passes = word_passes s names w.is_trailing w.waiting word w.held && step_passes s w.position met.0 met.1

    fault : Kinds
    fault = or_else (word_fault s names w.is_trailing w.waiting word w.held) (step_fault s w.position met.0 met.1)

    go : (stopped : Bool) → (stopped || passes) ≡ none (if stopped then [] else fault)
    go true = refl
    go false =
        both-none _ _ _ _ (same-word s names w.is_trailing w.waiting word w.held) (same-step s w.position met.0 met.1)

same-walk : (s : Shape) (names : Names) (w : Walk) (words : List Text)
    → walk_passes s names w words ≡ none (walk_fault s names w words)
unfolding walk_passes walk_fault
same-walk s names w [] = refl
same-walk s names w (word ∷ rest) =
    both-none _ _ _ _ (same-turn s names w word) (same-walk s names (walked s.rules names w word) rest)

-- ---- a level

-- an argument whose default passes, if it has one, and that has no rule on another one
abbrev is_bare : Rule → Bool
is_bare a = default_passes a && a.is_free

none-empty : (ks : Kinds) → none ks ≡ true → ks ≡ []
none-empty [] is = refl
none-empty (k ∷ ks) is = cc

no-request : (x : ArgAction) → not (is_request x) ≡ true → request_kinds x ≡ []
no-request action.Set is = refl
no-request action.Append is = refl
no-request action.SetTrue is = refl
no-request action.SetFalse is = refl
no-request action.Count is = refl
no-request action.Help is = cc
no-request action.HelpShort is = cc
no-request action.HelpLong is = cc
no-request action.Version is = cc

no-default : (rows : List Row) (a : Rule) → default_passes a ≡ true → default_fault rows a ≡ []
no-default rows a passes = go (has_row a.id rows) (is_empty a.defaults) passes
  where
    go : (has empty : Bool) → (empty || (not (is_request (action_of a)) && values_pass a a.defaults)) ≡ true
        → (if has || empty then [] else given_default_fault a a.defaults) ≡ []
    go true empty passes = refl
    go false true passes = refl
    go false false passes =
        let parts = both _ _ passes in
        let request = no-request (action_of a) parts.0 in
        let values = none-empty (values_fault a a.defaults) (sym (same-values a a.defaults) ∙ parts.1) in
        rw (request, values) refl

no-defaults : (rows : List Row) (rules : List Rule) → list_all is_bare rules ≡ true → defaults_fault rows rules ≡ []
unfolding defaults_fault
no-defaults rows [] bare = refl
no-defaults rows (a ∷ rest) bare =
    let parts = both _ _ bare in
    let first = no-default rows a (both _ _ parts.0).0 in
    ap (λ (ks : Kinds). or_else ks (defaults_fault (with_default rows a) rest)) first
    ∙ no-defaults (with_default rows a) rest parts.1

defaults-pass : (rules : List Rule) → list_all is_bare rules ≡ true → list_all default_passes rules ≡ true
defaults-pass [] bare = refl
defaults-pass (a ∷ rest) bare =
    let parts = both _ _ bare in
    let here : default_passes a ≡ true = (both _ _ parts.0).0 in
    let others : list_all default_passes rest ≡ true = defaults-pass rest parts.1 in
    rw (here, others) refl

rules-free : (rules : List Rule) → list_all is_bare rules ≡ true → list_all (λ a. a.is_free) rules ≡ true
rules-free [] bare = refl
rules-free (a ∷ rest) bare =
    let parts = both _ _ bare in
    let free : a.is_free ≡ true = (both _ _ parts.0).1 in
    let others : list_all (λ (b : Rule). b.is_free) rest ≡ true = rules-free rest parts.1 in
    rw (free, others) refl

-- all that is required is given, or something is missing
all-given : (rows : List Row) (rules : List Rule)
    → list_any (λ a. a.required && not (is_given a.id rows)) rules
    ≡ not (list_all (λ a. not a.required || is_given a.id rows) rules)
all-given rows [] = refl
all-given rows (a ∷ rest) = go a.required (is_given a.id rows) (all-given rows rest)
  where
    go : (required given : Bool)
        → list_any (λ b. b.required && not (is_given b.id rows)) rest
        ≡ not (list_all (λ b. not b.required || is_given b.id rows) rest)
        → ((required && not given) || list_any (λ b. b.required && not (is_given b.id rows)) rest)
        ≡ not ((not required || given) && list_all (λ b. not b.required || is_given b.id rows) rest)
    go true true others = others
    go true false others = refl
    go false given others = others

same-check : (s : Shape) (rows : List Row) (has : Bool) → list_all is_bare s.rules ≡ true
    → is_valid s rows has ≡ none (check_fault s rows has)
same-check s rows has bare =
    rw (rules-free s.rules bare, all-given rows s.rules)
    (go s.arg_required_else_help (list_any (λ r. explicit_source r.source) rows) s.subcommand_required
    s.subcommand_negates_reqs has
    (list_all (λ a. not a.required || is_given a.id rows) s.rules))
  where
    go : (help given wanted negates has all : Bool)
        → ((not help || (has || given)) && ((not wanted || has) && (true && ((negates && has) || all))))
        ≡ none (check_kinds (not has && (help && not given)) (not has && wanted) (not (negates && has) && not all))
    go help given wanted negates has all = grind arith

same-end : (s : Shape) (h : Held) (rows finished_rows : List Row) (has : Bool) → list_all is_bare s.rules ≡ true
    → (settle_passes s.rules s.args_override_self h
    && (list_all default_passes s.rules && is_valid s finished_rows has))
    ≡ none (or_else (settle_fault s.rules s.args_override_self h)
    (or_else (defaults_fault rows s.rules) (check_fault s finished_rows has)))
same-end s h rows finished_rows has bare =
    rw (no-defaults rows s.rules bare, defaults-pass s.rules bare)
    (both-none _ _ _ _ (same-settle s.rules s.args_override_self h) (same-check s finished_rows has bare))

same-level : (s : Shape) (names : Names) (h : Held) (words : List Text) (has : Bool) (below : Kinds)
    → list_all is_bare s.rules ≡ true
    → (none below && level_passes s names h words has) ≡ none (level_fault s names h words has below)
same-level s names h words has below bare =
    let at_end = (walk s.rules names h words).held in
    rw (
      same-walk s names (walk_from h) words,
      same-end s at_end (settled s.rules at_end).rows (finished s.rules at_end) has bare,
    )
    (none-or_else_third _ below _)

-- ---- the program's words

abbrev has_bare_rules : Shape → Bool
has_bare_rules s = list_all is_bare s.rules

-- each default of the commands passes, and no argument has a rule on another one
abbrev pub is_bare_app : App → Bool
is_bare_app a = has_bare_rules a.top && list_all has_bare_rules a.subs

same-leaf : (subs : List Shape) (named : Shape → Bool) (words : List Text) → list_all has_bare_rules subs ≡ true
    → option_map_or (λ s. level_passes s [] nothing_held words false) (find named subs) true
    ≡ none (option_map_or (λ s. level_fault s [] nothing_held words false []) (find named subs) [])
same-leaf [] named words bare = refl
same-leaf (s ∷ rest) named words bare = go (named s) (same-leaf rest named words (both _ _ bare).1)
  where
    go : (is : Bool) → option_map_or (λ s. level_passes s [] nothing_held words false) (find named rest) true
        ≡ none (option_map_or (λ s. level_fault s [] nothing_held words false []) (find named rest) [])
        → option_map_or (λ s. level_passes s [] nothing_held words false) (if is then Some s else find named rest) true
        ≡ none (option_map_or (λ s. level_fault s [] nothing_held words false [])
        (if is then Some s else find named rest) [])
    go true others = same-level s [] nothing_held words false [] (both _ _ bare).0
    go false others = others

same-entered : (a : App) (stop : Option (Text × List Text)) → list_all has_bare_rules a.subs ≡ true
    → entered_passes a stop ≡ none (entered_fault a stop)
same-entered a None bare = refl
same-entered a (Some p) bare = same-leaf a.subs (λ s. answers_to p.0 (label_of s)) p.1 bare

-- the words are taken where they have no fault
pub taken : (a : App) (words : List Text) → is_simple a ≡ true → is_bare_app (built a) ≡ true → fault_of a words ≡ []
    → takes a words ≡ true
taken a words simple bare faultless =
    let given = argument_words a words in
    let names = names_of (built a) in
    let stop = (walk (built a).top.rules names nothing_held given).stopped in
    let has = is_some (entered (built a) stop) in
    ap (λ (b : Bool). b
    && (entered_passes (built a) stop && level_passes (built a).top names nothing_held given has)) simple
    ∙ ap (λ (b : Bool). b && level_passes (built a).top names nothing_held given has)
    (same-entered (built a) stop (both _ _ bare).1)
    ∙ same-level (built a).top names nothing_held given has (entered_fault (built a) stop) (both _ _ bare).0
    ∙ ap none faultless
