-- What a caller knows from what the readers report: which association frames go out under, which exist, and what a need
-- says.
use Rattle.std.proofs.Common.{◌≡◌, ◌∙◌, ◌≤◌, ◌<◌, ◌+◌, ◌-◌, ◌/◌, ◌^◌, ◌&&◌, inl, inr, ℕ, min, Bool, true, false, cond}
use Rattle.std.proofs.Common.{refl, sym, ap, subst, arith}
use Rattle.std.specs.Prelude.{Option, Some, None, IsSome, IfSome, is_none, is_some, nat_le, nat_lt}
use Rattle.std.specs.Option.{option_map, option_map_or}
use Rattle.std.proofs.Math.Bool.{and-false}
use Rattle.std.proofs.lemmas.Bool.{and_parts, cases_lt, le-ltb, lt-leb, ltb-true}
use Rattle.macs_config.specs.declared.association.TxSa.{TxSa}
use Rattle.macs_txsc.specs.Transmit.{TxSide, is_needed, need_at, need_of, next_outgoing, outgoing_with, outgoing_at}

by_test : (e an : ℕ) (b : Bool) → cond b (Some e) None ≡ Some an → e ≡ an
by_test e an true is = cc
by_test e an false is = absurd (cc)

by_number : (ceilings : ℕ → Option ℕ) (block e : ℕ) (sa : Option TxSa) (pn : Option ℕ) (an : ℕ)
    → need_at ceilings block (outgoing_with e sa pn) ≡ Some an → e ≡ an
by_number ceilings block e (Some sa) (Some pn) an is = by_test e an _ is
by_number ceilings block e (Some sa) None an is = absurd (cc)
by_number ceilings block e None pn an is = absurd (cc)

by_encoding : (side : TxSide) (ceilings : ℕ → Option ℕ) (block an : ℕ) (encoding : Option ℕ)
    → need_at ceilings block (outgoing_at side encoding) ≡ Some an
    → encoding ≡ Some an
by_encoding side ceilings block an None is = absurd (cc)
by_encoding side ceilings block an (Some e) is = ap Some (by_number ceilings block e (side.tx e) (side.next e) an is)

pub needed : (side : TxSide) (ceilings : ℕ → Option ℕ) (block an : ℕ) → need_of side ceilings block ≡ Some an
    → side.encoding ≡ Some an
needed side ceilings block an is = by_encoding side ceilings block an side.encoding is

-- an association exists where it has a next number
pub stands : {A B : Type 0} (sa : Option A) (next : Option B) → is_none sa ≡ is_none next
    → is_some next ≡ true → IsSome sa
stands (Some a) next alike some = refl
stands None (Some n) alike some = absurd (cc)
stands None None alike some = absurd (cc)

-- ---- what a need says

-- the ceiling after one that is needed was raised
abbrev pub further : ℕ → ℕ → ℕ
further block top = min (top + block) (2 ^ 32)

-- frames go out under the association, and its ceiling is to be raised
pub record IsTxNeed (side : TxSide) (ceilings : ℕ → Option ℕ) (block an : ℕ) : Type 0 where
  pub sa : TxSa
  pub next : ℕ
  pub top : ℕ
  pub chosen : side.encoding ≡ Some an
  pub is_sa : side.tx an ≡ Some sa
  pub is_next : side.next an ≡ Some next
  pub is_top : ceilings an ≡ Some top
  pub test : is_needed block next top ≡ true

module _ (side : TxSide) (ceilings : ℕ → Option ℕ) (block an : ℕ) (chosen : side.encoding ≡ Some an) where
  need_by_test : (next top : ℕ) (sa : TxSa) → side.tx an ≡ Some sa → side.next an ≡ Some next → ceilings an ≡ Some top
      → (b : Bool) → is_needed block next top ≡ b → cond b (Some an) None ≡ Some an → IsTxNeed side ceilings block an
  need_by_test next top sa is_sa is_next is_top true test is =
      record {
        sa = sa;
        next = next;
        top = top;
        chosen = chosen;
        is_sa = is_sa;
        is_next = is_next;
        is_top = is_top;
        test = test;
      }
  need_by_test next top sa is_sa is_next is_top false test is = absurd cc

  need_by_top : (next : ℕ) (sa : TxSa) → side.tx an ≡ Some sa → side.next an ≡ Some next → (o : Option ℕ)
      → ceilings an ≡ o
      → cond (option_map_or (is_needed block next) o false) (Some an) None ≡ Some an → IsTxNeed side ceilings block an
  need_by_top next sa is_sa is_next None is_top is = absurd cc
  need_by_top next sa is_sa is_next (Some top) is_top is =
      need_by_test next top sa is_sa is_next is_top (is_needed block next top) refl is

  need_by_next : (sa : Option TxSa) (next : Option ℕ) → side.tx an ≡ sa → side.next an ≡ next
      → need_at ceilings block (outgoing_with an sa next) ≡ Some an → IsTxNeed side ceilings block an
  need_by_next None None is_sa is_next is = absurd cc
  need_by_next None (Some next) is_sa is_next is = absurd cc
  need_by_next (Some sa) None is_sa is_next is = absurd cc
  need_by_next (Some sa) (Some next) is_sa is_next is = need_by_top next sa is_sa is_next (ceilings an) refl is

pub tx-need : (side : TxSide) (ceilings : ℕ → Option ℕ) (block an : ℕ) → need_of side ceilings block ≡ Some an
    → IsTxNeed side ceilings block an
tx-need side ceilings block an is =
    let chosen = needed side ceilings block an is in
    need_by_next side ceilings block an chosen (side.tx an) (side.next an) refl refl
    (subst (λ (e : Option ℕ). need_at ceilings block (outgoing_at side e) ≡ Some an) chosen is)

-- a ceiling that was raised by a block is far enough
no_more : (block next top : ℕ) → 1 ≤ block → next ≤ top → is_needed block next (further block top) ≡ false
no_more block next top least ordered =
    let raised = further block top in
    elim (cases_lt (top + block) (2 ^ 32)) [
      | inl under ↦
          let far : nat_le (raised - next) (block / 2) ≡ false =
          lt-leb (raised - next) (block / 2) (omega (arith, under, least, ordered)) in
          ap (λ (b : Bool). b && nat_lt raised (2 ^ 32)) far
      | inr over ↦
          let last : nat_lt raised (2 ^ 32) ≡ false = le-ltb raised (2 ^ 32) (omega (arith, over)) in
          ap (λ (b : Bool). nat_le (raised - next) (block / 2) && b) last
          ∙ and-false (nat_le (raised - next) (block / 2))
    ]

module _ (side : TxSide) (ceilings : ℕ → Option ℕ) (block an : ℕ) (need : IsTxNeed side ceilings block an) where
  top_below : need.top < 2 ^ 32
  top_below = ltb-true need.top (2 ^ 32)
      (and_parts (nat_le (need.top - need.next) (block / 2)) (nat_lt need.top (2 ^ 32)) need.test).1

  pub tx-ceiling : IsSome (ceilings an)
  tx-ceiling = ap is_some need.is_top

  pub tx-below : IfSome (ceilings an) (λ (old : ℕ). old < 2 ^ 32)
  tx-below = subst (λ (o : Option ℕ). IfSome o (λ (old : ℕ). old < 2 ^ 32)) (sym need.is_top) top_below

  pub tx-raised : option_map (λ (ceiling : ℕ). further block ceiling) (ceilings an) ≡ Some (further block need.top)
  tx-raised = ap (option_map (λ (ceiling : ℕ). further block ceiling)) need.is_top

  -- with that ceiling there is no need
  pub tx-ends : (raised : ℕ → Option ℕ) → raised an ≡ Some (further block need.top) → 1 ≤ block → need.next ≤ need.top
      → need_of side raised block ≡ None
  tx-ends raised is least ordered =
      let goes : need_of side raised block ≡ need_at raised block (outgoing_with an (Some need.sa) (Some need.next)) =
      (λ i. need_at raised block (outgoing_at side (need.chosen i)))
      ∙ (λ i. need_at raised block (outgoing_with an (need.is_sa i) (need.is_next i))) in
      goes
      ∙ ap (λ (o : Option ℕ). cond (option_map_or (is_needed block need.next) o false) (Some an) None) is
      ∙ ap (λ (b : Bool). cond b (Some an) None) (no_more block need.next need.top least ordered)

-- ---- what no need says

unneeded_by : (an : ℕ) (b : Bool) → cond b (Some an) None ≡ None → b ≡ false
unneeded_by an true is = absurd cc
unneeded_by an false is = refl

-- where frames go out under the association and nothing is needed, its ceiling is far enough
pub tx-unneeded : (side : TxSide) (ceilings : ℕ → Option ℕ) (block an next top : ℕ) (sa : TxSa)
    → next_outgoing side ≡ outgoing_with an (Some sa) (Some next)
    → ceilings an ≡ Some top → need_of side ceilings block ≡ None → is_needed block next top ≡ false
tx-unneeded side ceilings block an next top sa goes is_top is =
    let same : need_of side ceilings block ≡ cond (is_needed block next top) (Some an) None =
    ap (need_at ceilings block) goes
    ∙ ap (λ (o : Option ℕ). cond (option_map_or (is_needed block next) o false) (Some an) None) is_top in
    unneeded_by an (is_needed block next top) (sym same ∙ is)
