use Rattle.std.proofs.Common.{◌∙◌, ◌+◌, ◌-◌, ◌≡◌, ◌<◌, ◌≤◌, ◌==◌, ◌++◌, if◌then◌else◌, ◌∷◌, ℕ, List, ap, drop, length}
use Rattle.std.proofs.Common.{refl, sym, take, suc, Bool, true, false, nat_lt, get_or, Some, None, length-drop}
use Rattle.std.proofs.Common.{length-take, arith}
use Rattle.std.specs.List.{position, position_or_len}
use Rattle.std.proofs.Math.Seq.{drop-cons}
use Rattle.std.proofs.lemmas.Bool.{eqb-false, eqb-true, ltb-false}
use Rattle.std.proofs.lemmas.List.{get_or-take, take-append-drop, take_all}
use Rattle.std.proofs.lemmas.List.Quantifiers.{position-Some}
use Rattle.std.proofs.lemmas.List.Sums.{fails_before_first}
use Rattle.macs_commands.specs.Inboxes.{HasNoFeed}
use Rattle.macs_commands.proofs.requests.inbox.Inbox.next_line.Goals as goal

-- Lines that are cut off at their ends.
abbrev is_feed : ℕ → Bool
is_feed octet = octet == 10

-- what is after a line and its end
behind : (text : List ℕ) (end : ℕ) → take (length text - (end + 1)) (drop (end + 1) text) ≡ drop (end + 1) text
behind text end = let rest = length-drop (end + 1) text in
    take_all (length text - (end + 1)) (drop (end + 1) text) (omega (arith, rest))

-- where there is an end
line_taken : (text : List ℕ) (end : ℕ) (line rest : List ℕ) → position (λ octet. octet == 10) text ≡ Some end
    → line ≡ take end text → rest ≡ take (length text - (end + 1)) (drop (end + 1) text)
    → (text ≡ line ++ 10 ∷ rest) × HasNoFeed line
line_taken text end line rest found front back =
    let parts = position-Some is_feed text end 0 found in
    let feed : get_or text end 0 ≡ 10 = eqb-true (get_or text end 0) 10 parts.1 in
    let ended : drop end text ≡ 10 ∷ drop (suc end) text =
    drop-cons text end 0 parts.0 ∙ ap (λ (o : ℕ). o ∷ drop (suc end) text) feed in
    let next : suc end ≡ end + 1 = omega arith in
    let rest_is : drop (suc end) text ≡ rest = ap (λ (n : ℕ). drop n text) next ∙ sym (behind text end) ∙ sym back in (
      sym (take-append-drop end text) ∙ ap (λ (t : List ℕ). take end text ++ t) ended
          ∙ ap (λ (l : List ℕ). l ++ 10 ∷ drop (suc end) text) (sym front)
          ∙ ap (λ (r : List ℕ). line ++ 10 ∷ r) rest_is,
      λ i within here.
          let short : i < end = omega (arith, within, ap length front, length-take end text) in
          let same : get_or line i 0 ≡ get_or text i 0 =
          ap (λ (l : List ℕ). get_or l i 0) front ∙ get_or-take end text i 0 short in
          eqb-false (get_or text i 0) 10 (parts.2 i short) (sym same ∙ here),
    )

past : (text : List ℕ) → position is_feed text ≡ None → length text ≤ position_or_len is_feed text
past text none = go (nat_lt (position_or_len is_feed text) (length text)) refl none
  where
    go : (within : Bool) → nat_lt (position_or_len is_feed text) (length text) ≡ within
        → (if within then Some (position_or_len is_feed text) else None) ≡ None
        → length text ≤ position_or_len is_feed text
    go true within same = cc
    go false within same = ltb-false _ _ within

-- where there is none
none_taken : (text : List ℕ) → position (λ octet. octet == 10) text ≡ None → HasNoFeed text
none_taken text none i within here =
    let all = past text none in
    eqb-false (get_or text i 0) 10 (fails_before_first is_feed text i 0 (omega (arith, within, all))) here

pub returns-in-None : goal.returns-in-None
returns-in-None c = (
  refl,
  none_taken c.args.self.now.octets.items
      (ap (λ (t : List ℕ). position is_feed t) (sym c.as_slice-text.ensures.value) ∙ sym c.in-None.ensures.place),
)

pub returns-in-Some : goal.returns-in-Some
returns-in-Some c =
    let same = c.as_slice-text.ensures.value in
    let end = c.in-Some.end in
    line_taken c.args.self.now.octets.items end c.before-line.result.items c.after-rest.result.items
    (ap (λ (t : List ℕ). position is_feed t) (sym same) ∙ sym c.in-Some.ensures.place)
    (c.before-line.ensures ∙ ap (λ (t : List ℕ). take end t) same)
    (c.after-rest.ensures ∙ ap (λ (t : List ℕ). take (length t - (end + 1)) (drop (end + 1) t)) same)
