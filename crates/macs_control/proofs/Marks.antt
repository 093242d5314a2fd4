-- The first place of a mark, and the digits after it.
use Rattle.std.proofs.Common.{◌≡◌, ◌≢◌, ◌∙◌, ◌↔◌, inl, inr, ℕ, ◌+◌, ◌≤◌, Bool, false, IsTrue, List, [], ◌∷◌, ◌++◌}
use Rattle.std.proofs.Common.{Bor, Some, ap, ap₂, arith, codes, drop, drop_at, get_or, le_antisymm, length}
use Rattle.std.proofs.Common.{refl, subst, suc, sym, take}
use Rattle.std.specs.Str.Pattern.{FindsText}
use Rattle.std.proofs.lemmas.Bool.Decides.{leb_tells}
use Rattle.std.proofs.lemmas.Str.Pattern.{split_text_parts}
use Rattle.macs_commands.specs.Inboxes.{HasNoFeed}
use Rattle.macs_control.specs.Signals.{HasDigits, IsAroundMark, IsTermPending, IsTermSet}

abbrev mark : List ℕ
mark = codes "ShdPnd:\t"

-- a text that was split once at the mark
pub around-mark : (status : List ℕ) (cut : Bor (List ℕ) × Bor (List ℕ)) → (i : ℕ) × (j : ℕ)
    × FindsText mark status (Some (i, j)) × (cut.0.now ≡ take i status) × (cut.1.now ≡ drop j status) × (i ≤ j)
    × (length cut.0.now ≡ i) × (length cut.1.now + j ≡ length status)
    → IsAroundMark status cut.0.now cut.1.now
around-mark status cut found = (
  split_text_parts mark status (Some cut) found,
  λ earlier rest is. elim (leb_tells (length cut.0.now) (length earlier)) [
    | inl within ↦ within.1
    | inr before ↦ absurd (found.2.0 (length earlier) (omega (arith, before.1, found.6)) rest
        (ap (λ (text : List ℕ). drop (length earlier) text) is
        ∙ drop_at earlier (mark ++ rest) (length earlier) refl))
  ],
)

-- there is one first place of it
same-mark : (status front behind other rest : List ℕ) → IsAroundMark status front behind
    → IsAroundMark status other rest
    → behind ≡ rest
same-mark status front behind other rest (is, first) (also, last) =
    let here : length other ≡ length front = le_antisymm (last front behind is) (first other rest also) in
    let marked : mark ++ behind ≡ mark ++ rest =
    sym (drop_at front (mark ++ behind) (length front) refl)
    ∙ ap (λ (text : List ℕ). drop (length front) text) (sym is ∙ also)
    ∙ drop_at other (mark ++ rest) (length front) here in
    sym (drop_at mark behind 8 refl) ∙ ap (λ (text : List ℕ). drop 8 text) marked ∙ drop_at mark rest 8 refl

-- texts that end at the first line feed
no-feed-after : (first : ℕ) (text : List ℕ) → HasNoFeed (first ∷ text) → HasNoFeed text
no-feed-after first text none = λ i within. none (suc i) (omega (arith, within))

ended-once : (one rest other more : List ℕ) → HasNoFeed one → HasNoFeed other
    → one ++ 10 ∷ rest ≡ other ++ 10 ∷ more
    → one ≡ other
ended-once [] rest [] more none also same = refl
ended-once [] rest (first ∷ other) more none also same =
    absurd (also 0 (omega arith) (sym (ap (λ (text : List ℕ). get_or text 0 0) same)))
ended-once (first ∷ one) rest [] more none also same =
    absurd (none 0 (omega arith) (ap (λ (text : List ℕ). get_or text 0 0) same))
ended-once (first ∷ one) rest (second ∷ other) more none also same =
    ap₂ (λ (octet : ℕ) (text : List ℕ). octet ∷ text) (ap (λ (text : List ℕ). get_or text 0 0) same)
    (ended-once one rest other more (no-feed-after first one none) (no-feed-after second other also)
    (ap (λ (text : List ℕ). drop 1 text) same))

never-ended : (text back : List ℕ) → HasNoFeed (text ++ 10 ∷ back) → ⊥
never-ended [] back none = none 0 (omega arith) refl
never-ended (first ∷ text) back none = never-ended text back (no-feed-after first (text ++ 10 ∷ back) none)

-- ---- the digits

pub digits-behind : (status front behind digits back : List ℕ) → IsAroundMark status front behind
    → behind ≡ digits ++ 10 ∷ back → HasNoFeed digits
    → HasDigits status digits
digits-behind status front behind digits back around end none =
    (front, back, subst (λ (text : List ℕ). IsAroundMark status front text) end around, none)

-- without a mark there are none
pub unmarked : (status : List ℕ) → ((front behind : List ℕ) → status ≢ front ++ (mark ++ behind))
    → (digits : List ℕ) → ¬ HasDigits status digits
unmarked status none digits (front, back, around, free) = none front (digits ++ 10 ∷ back) around.0

-- nor without a line feed after it
pub unended : (status front behind : List ℕ) → IsAroundMark status front behind → HasNoFeed behind
    → (digits : List ℕ) → ¬ HasDigits status digits
unended status front behind around none digits (other, back, also, free) =
    never-ended digits back
    (subst (λ (text : List ℕ). HasNoFeed text)
    (same-mark status front behind other (digits ++ 10 ∷ back) around also) none)

same-digits : (status one other : List ℕ) → HasDigits status one → HasDigits status other → one ≡ other
same-digits status one other (front, back, around, none) (before, after, also, free) =
    ended-once one back other after none free
    (same-mark status front (one ++ 10 ∷ back) before (other ++ 10 ∷ after) around also)

-- ---- what they say

pub pending-by : (status digits : List ℕ) (is : Bool) → HasDigits status digits → IsTrue is ↔ IsTermSet digits
    → IsTrue is ↔ IsTermPending status
pending-by status digits is has set = (
  λ held. (digits, has, set.0 held),
  λ pending. set.1 (subst (λ (text : List ℕ). IsTermSet text)
      (same-digits status pending.0 digits pending.1 has) pending.2),
)

pub not-pending : (status : List ℕ) → ((digits : List ℕ) → ¬ HasDigits status digits)
    → IsTrue false ↔ IsTermPending status
not-pending status none = (λ held. cc, λ pending. absurd (none pending.0 pending.1))
