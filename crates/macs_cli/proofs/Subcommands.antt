-- The subcommands of the program: how their words are built, and what each of them is given.
use Rattle.std.proofs.Common.{◌≡◌, ◌∙◌, ◌↔◌, ◌⊎◌, ◌<◌, ◌+◌, ◌-◌, ◌^◌, inl, inr, ℕ, suc, Bool, true, false, not, ◌&&◌}
use Rattle.std.proofs.Common.{List, []}
use Rattle.std.proofs.Common.{◌∷◌, length, get_or, drop, Option, Some, None, if◌then◌else◌, codes, refl, ap, ap₂, arith}
use Rattle.std.proofs.Common.{option_map, subst, sym}
use Rattle.std.proofs.Math.Seq.{drop-cons}
use Rattle.std.specs.Prelude.{find, option_and_then, slice_index, unwrap_or}
use Rattle.std.specs.List.{AllByRecursion, list_all, slice_index_or}
use Rattle.std.specs.Option.{option_map_or}
use Rattle.std.specs.Borrow.{Bor}
use Rattle.std.specs.Str.{bytes_eq}
use Rattle.std.proofs.lemmas.Slice.Eq.{bytes_eq-Decides}
use Rattle.std.specs.Str.Parse.{digits_value, without_leading_plus}
use Rattle.clap.specs.Built.{AddsSubcommand}
use Rattle.clap.specs.Facts.{parser_of_value}
use Rattle.clap.specs.Simple.{Shape, argument_words, built, entered, filled, label_of, names_of, rows_at, with_index}
use Rattle.clap.specs.Takes.{entered_passes, level_passes, takes}
use Rattle.clap.specs.Values.{IsUnsignedIn}
use Rattle.clap.specs.ValueTests.{accepts}
use Rattle.clap.specs.Walk.{answers_to, arg_by_id, first_of, nothing_held, rows_after, stop_after}
use Rattle.clap.specs.Words.{App, Row, Rule, Text, app_of, fault_of, is_simple, is_simple_and_free, kind_of, new_app}
use Rattle.clap.specs.Words.{subcommand_of, with_subcommand}
use Rattle.clap.specs.declared.builder.command.Command.{Command}
use Rattle.clap.specs.declared.builder.value_parser.ValueParser.{ValueParser}
use Rattle.clap.specs.declared.builder.value_parser.ValueParser.TheVariants as vp
use Rattle.clap.specs.declared.error.Error.{Error}
use Rattle.clap.specs.declared.error.kind.ErrorKind.TheVariants.{OutOfMemory}
use Rattle.clap.proofs.OnLiterals.{clap_on_literals}
use Rattle.clap.proofs.ValueTestLemmas.{accepts-Accepts}
use Rattle.clap.proofs.WalkLemmas.{both}
use Rattle.macs_commands.specs.declared.links.link.End.{End}
use Rattle.macs_commands.specs.declared.links.planning.Stage.{Stage}
use Rattle.macs_cli.specs.declared.words.action.Action.{Action}
use Rattle.macs_cli.specs.declared.words.action.Action.TheVariants.{Open, OnDisk, OnFrames, Tool}
use Rattle.macs_cli.specs.declared.words.action.DiskAction.{DiskAction}
use Rattle.macs_cli.specs.declared.words.action.DiskAction.TheVariants.{Format, Apply, Show, Keep}
use Rattle.macs_cli.specs.declared.words.action.FrameAction.{FrameAction}
use Rattle.macs_cli.specs.declared.words.action.FrameAction.TheVariants.{Protect, Validate, Relay}
use Rattle.macs_cli.specs.declared.words.action.ToolAction.TheVariants.{Ask, Key, Inspect, Check, Plan, Examine, About}
use Rattle.macs_cli.specs.declared.words.action.Question.{Question}
use Rattle.macs_cli.specs.declared.words.pace.Pace.{Pace}
use Rattle.macs_cli.specs.declared.words.pace.Pace.TheVariants.{Sleepless, Waiting}
use Rattle.macs_cli.specs.declared.words.pace.Running.{Running}
use Rattle.macs_cli.specs.declared.words.action.WireEnds.{WireEnds}
use Rattle.macs_cli.specs.declared.words.action.UsageFault.{UsageFault}
use Rattle.macs_cli.specs.declared.words.action.UsageFault.TheVariants.{Usage, Memory}
use Rattle.macs_cli.specs.Words.{FitsNumbers, FitsOnDisk, FitsOnFrames, FitsPace, HasNumber, HasPace, HasPlan}
use Rattle.macs_cli.specs.Words.{HasQuestion, IsClapCommand, IsFaultOf, IsFlagged, MayHaveRoom, Names, NamesNothing}
use Rattle.macs_cli.specs.Words.{NamesOnDisk, NamesOnFrames, end_named, is_report, macsecd}
use Rattle.macs_cli.specs.Words.{rule_for, stage_named, with_arguments, with_subcommands}
use Rattle.macs_cli.specs.declared.words.arguments.Kind.{Kind}
use Rattle.macs_cli.specs.declared.words.arguments.Kind.TheVariants as kind
use Rattle.macs_cli.proofs.GivenWords.{AreValueRules, are_value_rules, given, not-true, passes_where_given, value-rules}
use Rattle.macs_cli.proofs.Questions.{asks, same-report, text_of}
use Rattle.macs_cli.proofs.Taken.{is_bare_app, taken as taken_where_faultless}

-- ---- the words as they are built

-- one subcommand more
pub one-more : (old sub new : Command) (subcommands : List (Bor Text × Bor (List (Bor Text × Kind)))) (i : ℕ)
    (d : Bor Text × Bor (List (Bor Text × Kind))) (all : App) → i < length subcommands
    → IsClapCommand sub
    (with_arguments (new_app (get_or subcommands i d).0.now) (get_or subcommands i d).1.now)
    → AddsSubcommand old sub new → with_subcommands (app_of old) (drop i subcommands) ≡ all
    → with_subcommands (app_of new) (drop (i + 1) subcommands) ≡ all
one-more old sub new subcommands i d all within its added left =
    let next : i + 1 ≡ suc i = omega arith in
    let its_top = (with_arguments (new_app (get_or subcommands i d).0.now) (get_or subcommands i d).1.now).top in
    ap (λ (a : App). with_subcommands a (drop (i + 1) subcommands))
    (added.shape its.local ∙ ap (λ (a : App). with_subcommand (app_of old) a.top) its.app_is)
    ∙ ap (λ (k : ℕ). with_subcommands (with_subcommand (app_of old) its_top) (drop k subcommands)) next
    ∙ ap (λ (l : List (Bor Text × Bor (List (Bor Text × Kind)))). with_subcommands (app_of old) l)
    (sym (drop-cons subcommands i d within))
    ∙ left

-- ---- what `format` is given

-- its numbers are there
pub blocks : (rows : List Row) (action : DiskAction) → NamesOnDisk (codes "format", rows) action → FitsOnDisk action
    → (tx_block : ℕ) × (rx_block : ℕ) × HasNumber rows (codes "TX") tx_block × (tx_block < 2 ^ 32)
    × HasNumber rows (codes "RX") rx_block × (rx_block < 2 ^ 32)
blocks rows (Format disk sci tx_block rx_block block is_over) named fits =
    (tx_block, rx_block, named.3, fits.0, named.4, fits.1)
blocks rows (Apply disk file) named fits = absurd (omega (arith, ap (λ (t : Text). slice_index t 0) named.0))
blocks rows (Show disk) named fits = absurd (omega (arith, ap (λ (t : Text). slice_index t 0) named.0))
blocks rows (Keep disk socket) named fits = absurd (omega (arith, ap (λ (t : Text). slice_index t 0) named.0))

-- ---- what `relay` is given

-- it is a relay
pub relay_of : (rows : List Row) (action : FrameAction) → NamesOnFrames (codes "relay", rows) action
    → FitsOnFrames action
    → (disk : Bor Text) × (controlled : WireEnds) × (common : WireEnds) × (running : Running)
    × NamesOnFrames (codes "relay", rows) (Relay disk controlled common running) × FitsPace running.pace
relay_of rows (Protect disk input output is_all) named fits =
    absurd (omega (arith, ap (λ (t : Text). slice_index t 0) named.0))
relay_of rows (Validate disk input output is_all is_each) named fits =
    absurd (omega (arith, ap (λ (t : Text). slice_index t 0) named.0))
relay_of rows (Relay disk controlled common running) named fits = (disk, controlled, common, running, named, fits)

-- ---- what `plan` is given

-- whether its words name both
plans : (rows : List Row)
    → ((end : End) × (which : Stage) × HasPlan rows end which)
    ⊎ ((end : End) (which : Stage) → ¬ HasPlan rows end which)
plans rows =
    go (option_and_then end_named (first_of (codes "END") rows))
    (option_and_then stage_named (first_of (codes "STAGE") rows)) refl refl
  where
    go : (said : Option End) (also : Option Stage) → option_and_then end_named (first_of (codes "END") rows) ≡ said
        → option_and_then stage_named (first_of (codes "STAGE") rows) ≡ also
        → ((end : End) × (which : Stage) × HasPlan rows end which)
        ⊎ ((end : End) (which : Stage) → ¬ HasPlan rows end which)
    go (Some end) (Some which) one two = inl (end, which, (one, two))
    go None also one two = inr (λ end which has. let e = sym one ∙ has.0 in cc)
    go (Some end) None one two = inr (λ other which has. let e = sym two ∙ has.1 in cc)

-- ---- what each subcommand is given

texts-back : (text : Option Text) → option_map (λ (t : Bor Text). t.now) (option_map text_of text) ≡ text
texts-back None = refl
texts-back (Some text) = refl

-- the subcommand that these shapes have, after their settings
abbrev shape_at : ℕ → Shape
shape_at i = slice_index_or (built macsecd).subs i (built macsecd).top

-- the subcommand with its values names an action, or it is one that names none
abbrev pub IsRead : Option (Text × List Row) → Type 0
IsRead found = NamesNothing found ⊎ ((action : Action) × Names found action × FitsNumbers action)

-- clap takes these words for the subcommand
record IsTaken (s : Shape) (words : List Text) : Type 0 where
  rules : AreValueRules s.rules
  negates : s.subcommand_negates_reqs ≡ false
  passes : level_passes s [] nothing_held words false ≡ true

-- then it is read
abbrev IsNamed : Shape → Type 0
IsNamed s = (words : List Text) → IsTaken s words → IsRead (Some (rows_at s words))

-- a required value, and a required number, at a place
abbrev value_at : ℕ → Text → Rule
value_at place name = with_index place (filled (rule_for kind.Value name))

abbrev number_at : ℕ → Text → Rule
number_at place name = with_index place (filled (rule_for kind.Number name))

-- what is required is there
value : (s : Shape) (words : List Text) (a : Rule) → IsTaken s words → arg_by_id s.rules a.id ≡ Some a
    → a.required ≡ true
    → (text : Text) × (first_of a.id (rows_after s.rules [] words) ≡ Some text)
value s words a taken own required =
    let it = given s words a taken.rules taken.negates taken.passes own required in (it.0, it.1)

-- a value of a number that is there is in its range
in-range : (s : Shape) (words : List Text) (a : Rule) (least most : ℕ) → IsTaken s words
    → arg_by_id s.rules a.id ≡ Some a → a.parser ≡ Some (vp.Unsigned least most) → a.ignore_case ≡ false
    → (text : Text) → first_of a.id (rows_after s.rules [] words) ≡ Some text → IsUnsignedIn least most text
in-range s words a least most taken own parser cased text there =
    let passes : accepts a.ignore_case (parser_of_value a.parser) text ≡ true =
    passes_where_given s words a text taken.rules taken.passes own there in
    accepts-Accepts false (vp.Unsigned least most) text
    (ap₂ (λ (b : Bool) (o : Option ValueParser). accepts b (parser_of_value o) text) (sym cased) (sym parser) ∙ passes)

-- whether an option without a value is used can be seen
abbrev is_flagged : List Row → Text → Bool
is_flagged rows name = option_map_or (λ text. bytes_eq text (codes "true")) (first_of name rows) false

flagged : (rows : List Row) (name : Text) → IsFlagged rows name (is_flagged rows name)
flagged rows name = go (first_of name rows)
  where
    go : (found : Option Text)
        → (option_map_or (λ text. bytes_eq text (codes "true")) found false ≡ true) ↔ (found ≡ Some (codes "true"))
    go None = (λ is. cc, λ is. cc)
    go (Some text) = (
      λ is. ap (λ (t : Text). Some t) ((bytes_eq-Decides text (codes "true")).0 is),
      λ is. (bytes_eq-Decides text (codes "true")).1 (ap (λ (o : Option Text). unwrap_or o text) is),
    )

open-named : IsNamed (shape_at 0)
open-named words taken = inr (Open, refl, tt)

format-named : IsNamed (shape_at 1)
unfolding clap_on_literals
format-named words taken =
    let disk = value (shape_at 1) words (value_at 1 (codes "DISK")) taken refl refl in
    let sci = value (shape_at 1) words (value_at 2 (codes "SCI")) taken refl refl in
    let tx = value (shape_at 1) words (number_at 3 (codes "TX")) taken refl refl in
    let rx = value (shape_at 1) words (number_at 4 (codes "RX")) taken refl refl in
    let tx_in = in-range (shape_at 1) words (number_at 3 (codes "TX")) 0 (2 ^ 32 - 1) taken refl refl refl tx.0 tx.1 in
    let rx_in = in-range (shape_at 1) words (number_at 4 (codes "RX")) 0 (2 ^ 32 - 1) taken refl refl refl rx.0 rx.1 in
    let tx_block = digits_value 10 (without_leading_plus tx.0) in
    let rx_block = digits_value 10 (without_leading_plus rx.0) in
    let tx_fits : tx_block < 2 ^ 32 = omega (arith, tx_in.3) in
    let rx_fits : rx_block < 2 ^ 32 = omega (arith, rx_in.3) in
    let rows = rows_after (shape_at 1).rules [] words in inr (
      OnDisk (Format (text_of disk.0) (text_of sci.0) tx_block rx_block
          (option_map text_of (first_of (codes "block") rows))
          (is_flagged rows (codes "over"))),
      (
        refl,
        disk.1,
        sci.1,
        (tx.0, tx.1, tx_in.0, refl),
        (rx.0, rx.1, rx_in.0, refl),
        texts-back (first_of (codes "block") rows),
        flagged rows (codes "over"),
      ),
      (tx_fits, rx_fits),
    )

apply-named : IsNamed (shape_at 2)
unfolding clap_on_literals
apply-named words taken =
    let disk = value (shape_at 2) words (value_at 1 (codes "DISK")) taken refl refl in
    let file = value (shape_at 2) words (value_at 2 (codes "FILE")) taken refl refl in
    inr (OnDisk (Apply (text_of disk.0) (text_of file.0)), (refl, disk.1, file.1), tt)

show-named : IsNamed (shape_at 3)
unfolding clap_on_literals
show-named words taken =
    let disk = value (shape_at 3) words (value_at 1 (codes "DISK")) taken refl refl in
    inr (OnDisk (Show (text_of disk.0)), (refl, disk.1), tt)

protect-named : IsNamed (shape_at 4)
unfolding clap_on_literals
protect-named words taken =
    let disk = value (shape_at 4) words (value_at 1 (codes "DISK")) taken refl refl in
    let input = value (shape_at 4) words (value_at 2 (codes "INPUT")) taken refl refl in
    let output = value (shape_at 4) words (value_at 3 (codes "OUTPUT")) taken refl refl in
    let rows = rows_after (shape_at 4).rules [] words in
    inr (
      OnFrames (Protect (text_of disk.0) (text_of input.0) (text_of output.0) (is_flagged rows (codes "all"))),
      (refl, disk.1, input.1, output.1, flagged rows (codes "all")),
      tt,
    )

validate-named : IsNamed (shape_at 5)
unfolding clap_on_literals
validate-named words taken =
    let disk = value (shape_at 5) words (value_at 1 (codes "DISK")) taken refl refl in
    let input = value (shape_at 5) words (value_at 2 (codes "INPUT")) taken refl refl in
    let output = value (shape_at 5) words (value_at 3 (codes "OUTPUT")) taken refl refl in
    let rows = rows_after (shape_at 5).rules [] words in
    inr (
      OnFrames (Validate (text_of disk.0) (text_of input.0) (text_of output.0) (is_flagged rows (codes "all"))
          (is_flagged rows (codes "each"))),
      (refl, disk.1, input.1, output.1, flagged rows (codes "all"), flagged rows (codes "each")),
      tt,
    )

-- where they are given, turns and a wait are numbers: so they are a pace, or neither is given
paced : (rows : List Row)
    → ((text : Text) → first_of (codes "turns") rows ≡ Some text → IsUnsignedIn 0 (2 ^ 64 - 1) text)
    → ((text : Text) → first_of (codes "wait") rows ≡ Some text → IsUnsignedIn 1 60000 text)
    → ((first_of (codes "turns") rows ≡ None) × (first_of (codes "wait") rows ≡ None))
    ⊎ ((pace : Pace) × HasPace rows pace × FitsPace pace)
paced rows count limit = go (first_of (codes "turns") rows) (first_of (codes "wait") rows) refl refl
  where
    go : (turns wait : Option Text) → first_of (codes "turns") rows ≡ turns → first_of (codes "wait") rows ≡ wait
        → ((first_of (codes "turns") rows ≡ None) × (first_of (codes "wait") rows ≡ None))
        ⊎ ((pace : Pace) × HasPace rows pace × FitsPace pace)
    go None None no_turns no_wait = inl (no_turns, no_wait)
    go (Some text) None there no_wait =
        let in_range = count text there in
        let number = digits_value 10 (without_leading_plus text) in
        let fits : number < 2 ^ 64 = in_range.1 in
        inr (Sleepless number, ((text, there, in_range.0, refl), no_wait), fits)
    go None (Some word) no_turns there =
        let in_range = limit word there in
        let number = digits_value 10 (without_leading_plus word) in
        let above : 0 < number = omega (arith, in_range.2) in
        inr (Waiting (record { 0 = number }) None, ((word, there, in_range.0, refl), (above, in_range.3), no_turns), tt)
    go (Some text) (Some word) one other =
        let in_count = count text one in
        let in_range = limit word other in
        let number = digits_value 10 (without_leading_plus word) in
        let above : 0 < number = omega (arith, in_range.2) in inr (
          Waiting (record { 0 = number }) (Some (digits_value 10 (without_leading_plus text))),
          ((word, other, in_range.0, refl), (above, in_range.3), (text, one, in_count.0, refl)),
          in_count.1,
        )

-- a buffer is a number, where it is given
roomed : (rows : List Row) (name : Text)
    → ((text : Text) → first_of name rows ≡ Some text → IsUnsignedIn 1 1073741823 text)
    → (room : Option ℕ) × MayHaveRoom rows name room
roomed rows name read = go (first_of name rows) refl
  where
    go : (found : Option Text) → first_of name rows ≡ found → (room : Option ℕ) × MayHaveRoom rows name room
    go None none = (None, none)
    go (Some text) there =
        let in_range = read text there in
        let octets = digits_value 10 (without_leading_plus text) in
        let above : 0 < octets = omega (arith, in_range.2) in
        (Some octets, ((text, there, in_range.0, refl), (above, in_range.3)))

relay-named : IsNamed (shape_at 6)
unfolding clap_on_literals
relay-named words taken =
    let disk = value (shape_at 6) words (value_at 1 (codes "DISK")) taken refl refl in
    let own_1 = value (shape_at 6) words (value_at 2 (codes "OWN1")) taken refl refl in
    let peer_1 = value (shape_at 6) words (value_at 3 (codes "PEER1")) taken refl refl in
    let own_2 = value (shape_at 6) words (value_at 4 (codes "OWN2")) taken refl refl in
    let peer_2 = value (shape_at 6) words (value_at 5 (codes "PEER2")) taken refl refl in
    let rows = rows_after (shape_at 6).rules [] words in
    let count = in-range (shape_at 6) words (filled (rule_for kind.Count (codes "turns"))) 0 (2 ^ 64 - 1) taken refl
    refl refl in
    let limit = in-range (shape_at 6) words (filled (rule_for kind.Wait (codes "wait"))) 1 60000 taken refl refl refl in
    let octets =
    in-range (shape_at 6) words (filled (rule_for kind.Room (codes "buffer"))) 1 1073741823 taken refl refl refl in
    let room = roomed rows (codes "buffer") octets in
    elim (paced rows count limit) [
      | inl none ↦ inl (inl (refl, none.0, none.1))
      | inr (pace, has, fits) ↦ inr (
        OnFrames (Relay (text_of disk.0) (record { own = text_of own_1.0; peer = text_of peer_1.0 })
            (record { own = text_of own_2.0; peer = text_of peer_2.0 }) (record {
              pace = pace;
              buffer = room.0;
              control = option_map text_of (first_of (codes "control") rows);
              metrics = option_map text_of (first_of (codes "metrics") rows);
              keeper = option_map text_of (first_of (codes "keeper") rows);
            })),
        (
          refl,
          disk.1,
          own_1.1,
          peer_1.1,
          own_2.1,
          peer_2.1,
          has,
          room.1,
          texts-back (first_of (codes "control") rows),
          texts-back (first_of (codes "metrics") rows),
          texts-back (first_of (codes "keeper") rows),
        ),
        fits,
      )
    ]

keep-named : IsNamed (shape_at 7)
unfolding clap_on_literals
keep-named words taken =
    let disk = value (shape_at 7) words (value_at 1 (codes "DISK")) taken refl refl in
    let socket = value (shape_at 7) words (value_at 2 (codes "SOCKET")) taken refl refl in
    inr (OnDisk (Keep (text_of disk.0) (text_of socket.0)), (refl, disk.1, socket.1), tt)

-- what is asked, and in which form its answer is wanted
form : (rows : List Row) (path : Text) → first_of (codes "PATH") rows ≡ Some path → (asked : Question)
    → HasQuestion rows asked → IsRead (Some (codes "ask", rows))
form rows path there asked has = go (is_flagged rows (codes "json")) (is_report asked) refl refl
  where
    go : (is_json reports : Bool) → is_flagged rows (codes "json") ≡ is_json → is_report asked ≡ reports
        → IsRead (Some (codes "ask", rows))
    go false reports used e = inr (
      Tool (Ask (text_of path) asked false),
      (
        refl,
        there,
        has,
        subst (λ (b : Bool). IsFlagged rows (codes "json") b) used (flagged rows (codes "json")),
        λ is. cc,
      ),
      tt,
    )
    go true true used e = inr (
      Tool (Ask (text_of path) asked true),
      (
        refl,
        there,
        has,
        subst (λ (b : Bool). IsFlagged rows (codes "json") b) used (flagged rows (codes "json")),
        λ is. e,
      ),
      tt,
    )
    go true false used e = inl (inr (inr (inl (
      refl,
      (flagged rows (codes "json")).0 used,
      λ other has-other. same-report rows other asked has-other has ∙ e,
    ))))

ask-named : IsNamed (shape_at 8)
unfolding clap_on_literals
ask-named words taken =
    let path = value (shape_at 8) words (value_at 1 (codes "PATH")) taken refl refl in
    let word = value (shape_at 8) words (value_at 2 (codes "WORD")) taken refl refl in
    let rows = rows_after (shape_at 8).rules [] words in
    elim (asks rows word.0 word.1) [
      | inl (asked, has) ↦ form rows path.0 path.1 asked has
      | inr none ↦ inl (inr (inl (refl, none)))
    ]

key-named : IsNamed (shape_at 9)
unfolding clap_on_literals
key-named words taken =
    let rows = rows_after (shape_at 9).rules [] words in
    inr (Tool (Key (is_flagged rows (codes "long"))), (refl, flagged rows (codes "long")), tt)

inspect-named : IsNamed (shape_at 10)
unfolding clap_on_literals
inspect-named words taken =
    let input = value (shape_at 10) words (value_at 1 (codes "INPUT")) taken refl refl in
    inr (Tool (Inspect (text_of input.0)), (refl, input.1), tt)

check-named : IsNamed (shape_at 11)
unfolding clap_on_literals
check-named words taken =
    let file = value (shape_at 11) words (value_at 1 (codes "FILE")) taken refl refl in
    let rows = rows_after (shape_at 11).rules [] words in inr (
      Tool (Check (text_of file.0) (option_map text_of (first_of (codes "DISK") rows))),
      (refl, file.1, texts-back (first_of (codes "DISK") rows)),
      tt,
    )

plan-named : IsNamed (shape_at 12)
unfolding clap_on_literals
plan-named words taken =
    let file = value (shape_at 12) words (value_at 1 (codes "FILE")) taken refl refl in
    let rows = rows_after (shape_at 12).rules [] words in
    elim (plans rows) [
      | inl (end, which, has) ↦ inr (Tool (Plan (text_of file.0) end which), (refl, file.1, has), tt)
      | inr none ↦ inl (inr (inr (inr (refl, none))))
    ]

examine-named : IsNamed (shape_at 13)
unfolding clap_on_literals
examine-named words taken =
    let disk = value (shape_at 13) words (value_at 1 (codes "DISK")) taken refl refl in
    let rows = rows_after (shape_at 13).rules [] words in inr (
      Tool (Examine (text_of disk.0) (is_flagged rows (codes "json"))),
      (refl, disk.1, flagged rows (codes "json")),
      tt,
    )

about-named : IsNamed (shape_at 14)
about-named words taken = inr (Tool About, refl, tt)

-- ---- the words of a whole command line

-- each of its values is one that is read, no two have one name, and subcommands take nothing from it
abbrev has_value_rules : Shape → Bool
has_value_rules s = are_value_rules s.rules && not s.subcommand_negates_reqs

is-taken : (s : Shape) (words : List Text) → has_value_rules s ≡ true
    → level_passes s [] nothing_held words false ≡ true → IsTaken s words
is-taken s words fit passes = record {
  rules = value-rules s.rules (both _ _ fit).0;
  negates = not-true s.subcommand_negates_reqs (both _ _ fit).1;
  passes = passes;
}

-- the first of the subcommands that answers to a name
named-first : (shapes : List Shape) (answers : Shape → Bool) (words : List Text) → AllByRecursion IsNamed shapes
    → list_all has_value_rules shapes ≡ true
    → option_map_or (λ s. level_passes s [] nothing_held words false) (find answers shapes) true ≡ true
    → IsRead (option_map (λ s. rows_at s words) (find answers shapes))
named-first [] answers words all fit passes = inr (Open, refl, tt)
named-first (s ∷ rest) answers words all fit passes =
    go (answers s) passes (λ later. named-first rest answers words all.1 (both _ _ fit).1 later)
  where
    go : (is : Bool)
        → option_map_or (λ s. level_passes s [] nothing_held words false)
        (if is then Some s else find answers rest) true ≡ true
        → (option_map_or (λ s. level_passes s [] nothing_held words false) (find answers rest) true ≡ true
        → IsRead (option_map (λ s. rows_at s words) (find answers rest)))
        → IsRead (option_map (λ s. rows_at s words) (if is then Some s else find answers rest))
    go true passes below = all.0 words (is-taken s words (both _ _ fit).0 passes)
    go false passes below = below passes

named-entered : (a : App) (stop : Option (Text × List Text)) → AllByRecursion IsNamed a.subs
    → list_all has_value_rules a.subs ≡ true → entered_passes a stop ≡ true
    → IsRead (entered a stop)
named-entered a None all fit passes = inr (Open, refl, tt)
named-entered a (Some p) all fit passes = named-first a.subs (λ s. answers_to p.0 (label_of s)) p.1 all fit passes

first-of-three : (a b d : Bool) → (a && (b && d)) ≡ true → b ≡ true
first-of-three true true d is = refl
first-of-three true false d is = cc
first-of-three false b d is = cc

-- those that change no endpoint
lone-named : AllByRecursion IsNamed
    (shape_at 9 ∷ shape_at 10 ∷ shape_at 11 ∷ shape_at 12 ∷ shape_at 13 ∷ shape_at 14 ∷ [])
lone-named = (key-named, (inspect-named, (check-named, (plan-named, (examine-named, (about-named, tt))))))

all-named : AllByRecursion IsNamed (built macsecd).subs
all-named = (
  open-named,
  (
    format-named,
    (apply-named, (show-named, (protect-named, (validate-named, (relay-named, (keep-named, (ask-named, lone-named))))))),
  ),
)

value-rules-of-all : list_all has_value_rules (built macsecd).subs ≡ true
unfolding clap_on_literals
value-rules-of-all = refl

-- each command line that clap takes is read
pub named : (words : List Text) → takes macsecd words ≡ true → IsRead (subcommand_of macsecd words)
named words taken =
    named-entered (built macsecd)
    (stop_after (built macsecd).top.rules (names_of (built macsecd)) (argument_words macsecd words)) all-named
    value-rules-of-all
    (first-of-three (is_simple macsecd) _ _ taken)

-- ---- the commands are ones of which clap reports all

pub simple : is_simple macsecd ≡ true
simple = refl

pub free : is_simple_and_free macsecd ≡ true
free = refl

bare : is_bare_app (built macsecd) ≡ true
bare = refl

-- words in which it finds no fault are taken
pub taken_without_fault : (words : List Text) → fault_of macsecd words ≡ [] → takes macsecd words ≡ true
taken_without_fault words faultless = taken_where_faultless macsecd words simple bare faultless

-- a fault for want of memory
pub wants_memory : (error : Error) (fault : UsageFault) → IsFaultOf error fault → kind_of error ≡ OutOfMemory
    → fault ≡ Memory
wants_memory error (Usage cause) is memory = absurd (is memory)
wants_memory error Memory is memory = refl
