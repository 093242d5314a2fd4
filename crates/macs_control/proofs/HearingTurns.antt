-- Clients that are heard in turn.
use Rattle.std.proofs.Common.{◌≡◌, ◌⊎◌, ◌∙◌, ◌+◌, ◌≤◌, ℕ, Bool, true, false, List, [], ◌∷◌, ◌++◌}
use Rattle.std.proofs.Common.{arith, refl, sym, ap, subst, inl, inr, length, take, drop, get_or, Option, Some, None}
use Rattle.std.proofs.lemmas.Bool.Decides.{nat_tests}
use Rattle.std.proofs.lemmas.List.{append-nil, append_assoc, get_or_at, length-append, length_push, nil_from_length}
use Rattle.std.specs.Prelude.{if◌then◌else◌, is_some, nat_eq, slice_get}
use Rattle.macs_commands.specs.declared.requests.clients.Client.{Client}
use Rattle.macs_commands.specs.declared.requests.clients.Heard.{Heard}
use Rattle.macs_control.proofs.Found.{Parts, around}
use Rattle.macs_control.specs.Hearings.{HearsFirst, HearsLine, HearsNoLine, HearsNone, HearsOne, IsNoLine}
use Rattle.macs_control.specs.Hearings.{LooksAt, Says, SaysTo, staying}
use Rattle.macs_control.specs.Links.{Link}
use Rattle.macs_control.specs.Places.{is_of, seat_in, standing_in}
use Rattle.macs_control.specs.Seats.{client_of}
use Rattle.macs_control.specs.Standings.{is_let_go}
use Rattle.macs_control.specs.declared.place.Place.{Place}
use Rattle.macs_control.specs.declared.seat.Hearing.{Hearing}
use Rattle.macs_control.specs.declared.seat.Hearing.TheVariants as hears

-- what is no line
pub no-line : (heard : Hearing) → (heard ≡ hears.Silence) ⊎ ((heard ≡ hears.Ended) ⊎ (heard ≡ hears.Gone))
    → IsNoLine heard
no-line heard (inl is) = let P : Hearing → Type 0 = λ h. IsNoLine h in subst P (sym is) tt
no-line heard (inr (inl is)) = let P : Hearing → Type 0 = λ h. IsNoLine h in subst P (sym is) tt
no-line heard (inr (inr is)) = let P : Hearing → Type 0 = λ h. IsNoLine h in subst P (sym is) tt

-- a client keeps its place, or loses it
pub stays-at : {S : Type 0} (heard : Hearing) (place : Place S) → is_let_go heard (standing_in place) ≡ false
    → staying heard place ≡ place ∷ []
stays-at {S} heard place kept = ap (λ (b : Bool). if b then [] else place ∷ []) kept

pub goes-from : {S : Type 0} (heard : Hearing) (place : Place S) → is_let_go heard (standing_in place) ≡ true
    → staying heard place ≡ []
goes-from {S} heard place lost = ap (λ (b : Bool). if b then [] else place ∷ []) lost

module _ {S : Type 0} (link : S → Option Link) (now : ℕ) where
  -- one more is looked at
  none-more : (front left : List (Place S)) (place : Place S) (heard : Hearing) (looked : Place S)
      → HearsNone link now front left → LooksAt link now place heard looked → IsNoLine heard
      → HearsNone link now (front ++ place ∷ []) (left ++ staying heard looked)
  none-more [] left place heard looked none looks quiet =
      let stays = staying heard looked in
      let is : left ++ stays ≡ stays ++ [] =
      ap (λ (l : List (Place S)). l ++ stays) none ∙ sym (append-nil stays) in
      ([], (heard, looked, looks, quiet, is), refl)
  none-more (first ∷ front) left place heard looked none looks quiet =
      let h = none.1 in
      let stays = staying heard looked in
      let is : left ++ stays ≡ staying h.0 h.1 ++ (none.0 ++ stays) =
      ap (λ (l : List (Place S)). l ++ stays) h.4 ∙ append_assoc (staying h.0 h.1) none.0 stays in
      (none.0 ++ stays, (h.0, h.1, h.2, h.3, is), none-more front none.0 place heard looked none.2 looks quiet)

  -- so many places were looked at, and none of these clients sent a line; the next one has this place
  pub record SoFar (old new : List (Place S)) (turns at : ℕ) : Type 0 where
    pub front : List (Place S)
    pub rest : List (Place S)
    pub left : List (Place S)
    pub were : old ≡ front ++ rest
    pub none : HearsNone link now front left
    pub are : new ≡ left ++ rest
    pub looks : length front ≡ turns
    pub next : length left ≡ at

  pub start : (old : List (Place S)) → SoFar old old 0 0
  start old = record {
    front = [];
    rest = old;
    left = [];
    were = refl;
    none = refl;
    are = refl;
    looks = refl;
    next = refl;
  }

  at-end : (old new front left rest : List (Place S)) → old ≡ front ++ rest → new ≡ left ++ rest
      → HearsNone link now front left → rest ≡ [] → HearsNone link now old new
  at-end old new front left rest were are none over =
      let whole : old ≡ front = were ∙ ap (λ (l : List (Place S)). front ++ l) over ∙ append-nil front in
      let kept : new ≡ left = are ∙ ap (λ (l : List (Place S)). left ++ l) over ∙ append-nil left in
      let P : List (Place S) → Type 0 = λ l. HearsNone link now l new in
      let Q : List (Place S) → Type 0 = λ l. HearsNone link now front l in
      subst P (sym whole) (subst Q (sym kept) none)

  -- no place is left to be looked at
  pub past-end : (old new : List (Place S)) (turns at : ℕ) → SoFar old new turns at → length new ≤ at
      → HearsNone link now old new
  past-end old new turns at so past =
      let size = ap length so.are ∙ length-append so.left so.rest in
      let next = so.next in
      at-end old new so.front so.left so.rest so.were so.are so.none (nil_from_length so.rest (omega arith))

  pub all-looked : (old new : List (Place S)) (turns at : ℕ) → SoFar old new turns at → length old ≤ turns
      → HearsNone link now old new
  all-looked old new turns at so all =
      let size = ap length so.were ∙ length-append so.front so.rest in
      let looks = so.looks in
      at-end old new so.front so.left so.rest so.were so.are so.none (nil_from_length so.rest (omega arith))

  -- the next one sends a line
  pub line-next : (old mid : List (Place S)) (turns at : ℕ) → SoFar old mid turns at → (place : Place S)
      → Some place ≡ slice_get mid at → (heard : Heard) (new : List (Place S))
      → HearsLine link now (take at mid) place (drop (at + 1) mid) heard new
      → HearsFirst link now old (Some heard) new
  line-next old mid turns at so place there heard new hears =
      let a = around mid so.left so.rest at place so.are so.next there in
      let P : List (Place S) → Type 0 = λ l. HearsLine link now l place (drop (at + 1) mid) heard new in
      let Q : List (Place S) → Type 0 = λ l. HearsLine link now so.left place l heard new in record {
        front = so.front;
        place = place;
        rest = a.behind;
        left = so.left;
        places = so.were ∙ ap (λ (l : List (Place S)). so.front ++ l) a.is_first;
        before = so.none;
        hears = subst Q a.dropped (subst P a.taken hears);
      }

  -- a client stays or goes
  stays-or-goes : (b : Bool) (place : Place S) → length (if b then [] else place ∷ []) ≤ 1
  stays-or-goes true place = omega arith
  stays-or-goes false place = omega arith

  -- the next one sends none
  none-next : (old mid : List (Place S)) (turns at : ℕ) → (so : SoFar old mid turns at) → (place : Place S)
      → Some place ≡ slice_get mid at → (new : List (Place S))
      → (hears : HearsNoLine link now (take at mid) place (drop (at + 1) mid) new) → (next : ℕ)
      → length (so.left ++ staying hears.0 hears.1) ≡ next
      → SoFar old new (turns + 1) next
  none-next old mid turns at so place there new hears next size =
      let a = around mid so.left so.rest at place so.are so.next there in
      let stays = staying hears.0 hears.1 in
      let looks = so.looks in record {
        front = so.front ++ place ∷ [];
        rest = a.behind;
        left = so.left ++ stays;
        were = so.were ∙ ap (λ (l : List (Place S)). so.front ++ l) a.is_first
            ∙ sym (append_assoc so.front (place ∷ []) a.behind);
        none = none-more so.front so.left place hears.0 hears.1 so.none hears.2 hears.3;
        are = hears.4 ∙ ap (λ (l : List (Place S)). l ++ stays ++ drop (at + 1) mid) a.taken
            ∙ ap (λ (l : List (Place S)). so.left ++ stays ++ l) a.dropped;
        looks = let pushed = length_push so.front place in omega arith;
        next = size;
      }

  sizes : (mid new left stays behind : List (Place S)) (place : Place S) (at : ℕ) → mid ≡ left ++ place ∷ behind
      → new ≡ left ++ stays ++ behind → length left ≡ at
      → (length (left ++ stays) ≡ at + length stays) × (length mid + length stays ≡ length new + 1)
  sizes mid new left stays behind place at were are next =
      let old_size = ap length were ∙ length-append left (place ∷ behind) in
      let new_size = ap length are ∙ length-append (left ++ stays) behind in
      let both = length-append left stays in
      (omega arith, omega arith)

  sizes-next : (old mid : List (Place S)) (turns at : ℕ) → (so : SoFar old mid turns at) → (place : Place S)
      → Some place ≡ slice_get mid at → (new : List (Place S))
      → (hears : HearsNoLine link now (take at mid) place (drop (at + 1) mid) new)
      → (length (so.left ++ staying hears.0 hears.1) ≡ at + length (staying hears.0 hears.1))
      × (length mid + length (staying hears.0 hears.1) ≡ length new + 1)
  sizes-next old mid turns at so place there new hears =
      let a = around mid so.left so.rest at place so.are so.next there in
      let stays = staying hears.0 hears.1 in
      sizes mid new so.left stays a.behind place at
      (so.are ∙ ap (λ (l : List (Place S)). so.left ++ l) a.is_first)
      (hears.4 ∙ ap (λ (l : List (Place S)). l ++ stays ++ drop (at + 1) mid) a.taken
      ∙ ap (λ (l : List (Place S)). so.left ++ stays ++ l) a.dropped) so.next

  -- and keeps its place
  pub stays-next : (old mid : List (Place S)) (turns at : ℕ) → SoFar old mid turns at → (place : Place S)
      → Some place ≡ slice_get mid at → (new : List (Place S))
      → HearsNoLine link now (take at mid) place (drop (at + 1) mid) new → length new ≡ length mid
      → SoFar old new (turns + 1) (at + 1)
  stays-next old mid turns at so place there new hears same =
      let s = sizes-next old mid turns at so place there new hears in
      let one = s.0 in
      let two = s.1 in
      none-next old mid turns at so place there new hears (at + 1) (omega arith)

  -- or loses it
  pub goes-next : (old mid : List (Place S)) (turns at : ℕ) → SoFar old mid turns at → (place : Place S)
      → Some place ≡ slice_get mid at → (new : List (Place S))
      → HearsNoLine link now (take at mid) place (drop (at + 1) mid) new → (length new ≡ length mid → ⊥)
      → SoFar old new (turns + 1) at
  goes-next old mid turns at so place there new hears other =
      let s = sizes-next old mid turns at so place there new hears in
      let one = s.0 in
      let two = s.1 in
      let few = stays-or-goes (is_let_go hears.0 (standing_in hears.1)) hears.1 in
      none-next old mid turns at so place there new hears at (omega arith)

  -- what a look heard
  pub some-next : (old mid : List (Place S)) (turns at : ℕ) → SoFar old mid turns at → (place : Place S)
      → Some place ≡ slice_get mid at → (heard : Option Heard) (new : List (Place S)) → is_some heard ≡ true
      → HearsOne link now (take at mid) place (drop (at + 1) mid) heard new → HearsFirst link now old heard new
  some-next old mid turns at so place there (Some heard) new some hears =
      line-next old mid turns at so place there heard new hears
  some-next old mid turns at so place there None new some hears = absurd (let wrong : false ≡ true = some in cc)

  pub no-line-of : (front : List (Place S)) (place : Place S) (rest : List (Place S)) (heard : Option Heard)
      (new : List (Place S)) → is_some heard ≡ false → HearsOne link now front place rest heard new
      → HearsNoLine link now front place rest new
  no-line-of front place rest None new none hears = hears
  no-line-of front place rest (Some heard) new none hears = absurd (let wrong : true ≡ false = none in cc)

same-client : (one other : Client) → nat_eq one.0 other.0 ≡ true → one ≡ other
same-client one other is =
    let same : one.0 ≡ other.0 = grind (arith, nat_tests) in
    ap (λ (n : ℕ). let it : Client = record { 0 = n } in it) same

-- a text was sent to the client at a place, and what is left
pub said-to : {S : Type 0} (link : S → Option Link) (now : ℕ) (client : Client) (text : List ℕ)
    (old new : List (Place S))
    (at : ℕ) → (p : Parts (is_of client) old at) → (place said : Place S) (keeps : Bool) → place ≡ get_or old at place
    → SaysTo link now text place said keeps → new ≡ p.front ++ (if keeps then said ∷ [] else []) ++ p.rest
    → Says link now client text old new
said-to {S} link now client text old new at p place said keeps read says left =
    let is : place ≡ p.x = read ∙ ap (λ (l : List (Place S)). get_or l at place) p.whole
    ∙ get_or_at p.front p.x p.rest place at p.place in
    let P : Place S → Type 0 = λ it. SaysTo link now text it said keeps in
    inr (record {
      front = p.front;
      place = p.x;
      rest = p.rest;
      places = p.whole;
      before = p.before;
      is_its = same-client (client_of (seat_in p.x)) client p.passes;
      said = said;
      keeps = keeps;
      says = subst P is says;
      left = left;
    })
