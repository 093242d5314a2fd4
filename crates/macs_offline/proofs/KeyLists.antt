-- The first place of a text in another one, and what is after it; keys of a list, one after the other.
use Rattle.std.proofs.Common.{◌≡◌, ◌≢◌, ◌∙◌, ◌↔◌, ◌+◌, ◌<◌, ◌≤◌, ◌++◌, ℕ, Bool, true, false, List, length, take, drop}
use Rattle.std.proofs.Common.{arith, ap, codes, get_or, inl, inr, map, option_map, string_bytes, subst, sym}
use Rattle.std.proofs.Common.{[], ◌-◌, append_assoc, None, Option, String}
use Rattle.std.proofs.Math.Seq.{drop-append_seam}
use Rattle.std.proofs.lemmas.List.{drop-append-le, flat_map_more, get_or-map, length-append, length-map}
use Rattle.std.proofs.lemmas.List.{take-append-drop, take_all, take_more}
use Rattle.std.proofs.lemmas.List.Elements.{All-more}
use Rattle.std.specs.List.{All}
use Rattle.std.specs.declared.alloc.Global.{Global}
use Rattle.std.specs.Str.Iter.{HasSubslice}
use Rattle.std.specs.Str.Pattern.{HasTextAt, LacksTextAt}
use Rattle.macs_config.specs.declared.command.Command.{Command}
use Rattle.macs_offline.specs.KeyLists.{HasSpent, IsFirstSpent, IsSpentIn, SaysSpent, digits_of, formatted, key_line}
use Rattle.macs_offline.specs.KeyLists.{lines_text, spent_text}
use Rattle.macs_cli.specs.Reasons.{Complains}
use Rattle.macs_cli.specs.declared.failure.Failure.{Failure}

module _ (list digits behind : List ℕ) (i j : ℕ) (has : HasTextAt digits list i j) (is : behind ≡ drop j list) where
  -- what is behind the first place is what is behind any later one, and something before it
  pub behind-first : ((k : ℕ) → k < i → LacksTextAt digits list k) → HasSpent list digits
      → HasSubslice behind formatted
  behind-first lacks (before, between, after, e) =
      let rest = between ++ (formatted ++ after) in
      let later : length before < i → ⊥ =
      λ early.
      lacks (length before) early rest (ap (drop (length before)) e ∙ drop-append_seam before (digits ++ rest)) in
      let within : j ≤ length (before ++ digits) =
      omega (arith, later, has.ends, length-append before digits) in
      let left = drop j (before ++ digits) in (
        left ++ between,
        after,
        is ∙ ap (drop j) (e ∙ sym (append_assoc before digits rest))
            ∙ drop-append-le j (before ++ digits) rest within
            ∙ sym (append_assoc left between (formatted ++ after)),
      )

  pub is-behind : HasSubslice behind formatted → HasSpent list digits
  is-behind (between, after, e) = (
    take i list,
    between,
    after,
    sym (take-append-drop i list) ∙ ap (λ (l : List ℕ). take i list ++ l)
        (has.split ∙ ap (λ (l : List ℕ). digits ++ l) (sym is ∙ e)),
  )

  pub spent-behind : (r : Bool) → ((k : ℕ) → k < i → LacksTextAt digits list k)
      → (r ≡ true) ↔ HasSubslice behind formatted → (r ≡ true) ↔ HasSpent list digits
  spent-behind r lacks found = (λ yes. is-behind (found.0 yes), λ spent. found.1 (behind-first lacks spent))

-- digits that are nowhere
pub unspent : (list digits : List ℕ) (r : Bool) → r ≡ false
    → ((xs ys : List ℕ) → list ≢ xs ++ (digits ++ ys)) → (r ≡ true) ↔ HasSpent list digits
unspent list digits r fails none = (
  λ holds. absurd (let wrong : false ≡ true = sym fails ∙ holds in cc),
  λ spent. absurd (none spent.0 (spent.1 ++ (formatted ++ spent.2)) spent.3),
)

-- ---- keys, one after the other

-- a list does not have the key of these digits as one of an endpoint that is gone
abbrev Unspent : List ℕ → Option (List ℕ) → Type 0
Unspent list key = IsSpentIn list key → ⊥

-- their digits
abbrev digits_in : List (Option (String Global)) → List (Option (List ℕ))
digits_in keys = map (option_map string_bytes) keys

module _ (keys : List (Option (String Global))) (i : ℕ) (key : Option (String Global)) (within : i < length keys)
    (is : key ≡ get_or keys i key) where
  -- the current one
  at_key : (other : Option (List ℕ)) → get_or (digits_in keys) i other ≡ option_map string_bytes key
  at_key other = get_or-map (option_map string_bytes) keys i key other within ∙ ap (option_map string_bytes) (sym is)

  in_digits : i < length (digits_in keys)
  in_digits = let same = length-map keys (option_map string_bytes) in omega (arith, within, same)

  -- its line comes after the others
  pub more-lines : (lines more : List ℕ) → lines ≡ lines_text (take i (digits_in keys))
      → more ≡ lines ++ key_line (option_map string_bytes key) → more ≡ lines_text (take (i + 1) (digits_in keys))
  more-lines lines more so_far pushed =
      pushed ∙ ap (λ (l : List ℕ). l ++ key_line (option_map string_bytes key)) so_far
      ∙ ap (λ (o : Option (List ℕ)). lines_text (take i (digits_in keys)) ++ key_line o) (sym (at_key None))
      ∙ flat_map_more key_line [] (take i (digits_in keys)) (get_or (digits_in keys) i None)
      ∙ ap lines_text (sym (take_more (digits_in keys) i None in_digits))

  module _ (list : List ℕ) (all : All (Unspent list) (take i (digits_in keys))) where
    -- the list has it
    pub first-is : IsSpentIn list (option_map string_bytes key) → IsFirstSpent list (digits_in keys) (i + 1)
    first-is spent =
        let back : i + 1 - 1 ≡ i = omega arith in (
          omega arith,
          omega (arith, in_digits),
          subst (λ (k : ℕ). IsSpentIn list (get_or (digits_in keys) k None)) (sym back)
              (subst (λ (o : Option (List ℕ)). IsSpentIn list o) (sym (at_key None)) spent),
          subst (λ (k : ℕ). All (Unspent list) (take k (digits_in keys))) (sym back) all,
        )

    -- it does not
    pub more-unspent : Unspent list (option_map string_bytes key) → All (Unspent list) (take (i + 1) (digits_in keys))
    more-unspent none =
        All-more (Unspent list) (digits_in keys) i None in_digits all
        (λ spent. none (subst (λ (o : Option (List ℕ)). IsSpentIn list o) (at_key None) spent))

-- all were passed
pub none-spent : (list : List ℕ) (keys : List (Option (String Global))) (i : ℕ) → length keys ≤ i
    → All (Unspent list) (take i (digits_in keys)) → All (Unspent list) (digits_in keys)
none-spent list keys i behind all =
    let same = length-map keys (option_map string_bytes) in
    subst (λ (l : List (Option (List ℕ))). All (Unspent list) l)
    (take_all i (digits_in keys) (omega (arith, behind, same))) all

-- ---- what is said

-- a key that is spent is said to be, or that the list is not read
pub spent-said : (commands : List Command) (failure : Failure) (list : List ℕ) (at : ℕ)
    → IsFirstSpent list (map digits_of commands) at → Complains (λ said. said ≡ spent_text at) failure
    → SaysSpent commands failure
spent-said commands failure list at first (inl memory) = inl memory
spent-said commands failure list at first (inr (text, is, says)) = inr (text, is, inl (list, at, first, says))

pub list-unread : (commands : List Command) (failure : Failure)
    → Complains (λ said. said ≡ codes "key list: cannot be read") failure → SaysSpent commands failure
list-unread commands failure (inl memory) = inl memory
list-unread commands failure (inr (text, is, says)) = inr (text, is, inr says)
