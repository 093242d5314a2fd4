-- Ceilings that are raised one after the other: what each does to the numbers, and how many needs are left.
use Rattle.std.proofs.Common.{◌≡◌, ◌≤◌, ◌<◌, ◌+◌, ◌-◌, ◌/◌, ◌^◌, ◌++◌, ℕ, true, List, [], ◌∷◌, Option, Some, None, refl}
use Rattle.std.proofs.Common.{sym, ◌∙◌, ap, subst, arith}
use Rattle.std.specs.Prelude.{nat_le, nat_lt}
use Rattle.std.specs.Option.{option_map}
use Rattle.std.proofs.lemmas.Bool.{and_parts, leb-true}
use Rattle.macs_config.specs.Identity.{Identity}
use Rattle.macs_config.specs.Tables.{put, put_at}
use Rattle.macs_config.proofs.Tables.{put-here, put_all, put_at_all}
use Rattle.macs_txsc.specs.Transmit.{TxSide}
use Rattle.macs_txsc.specs.Transmit as transmit
use Rattle.macs_txsc.proofs.Needs.{IsTxNeed, tx-ends, tx-need, tx-raised}
use Rattle.macs_rxsc.specs.Needs.{Need, need_of, first_need_of}
use Rattle.macs_rxsc.specs.Receive.{Numbers, RxSide}
use Rattle.macs_rxsc.proofs.Left.{count, fewer}
use Rattle.macs_rxsc.proofs.Needed.{IsNeed, below-raised, first-place, is-need, needs_among}
use Rattle.macs_config.specs.Numbers.{block_beyond}
use Rattle.macs_store.specs.Standing.{Ceilings, Standing, standing_with_tx_raised}
use Rattle.macs_endpoint.specs.Ceilings.{Raise, RaiseRx, RaiseTx, Raises, either_raise, first_raise}
use Rattle.macs_endpoint.specs.Ceilings.{standing_with_raise}
use Rattle.macs_endpoint.specs.Restart.{rx_limit}
use Rattle.macs_endpoint.specs.Value.{IsRxWithin, IsTxWithin}
use Rattle.macs_endpoint.proofs.Fitting.{AreAhead}

-- ---- which is the first

pub tx-first : (o : Option ℕ) (n : Option Need) (an : ℕ) → either_raise o n ≡ Some (RaiseTx an) → o ≡ Some an
tx-first (Some k) n an is = let same : k ≡ an = cc in ap Some same
tx-first None (Some need) an is = absurd cc
tx-first None None an is = absurd cc

pub rx-first : (o : Option ℕ) (n : Option Need) (need : Need) → either_raise o n ≡ Some (RaiseRx need)
    → (o ≡ None) × (n ≡ Some need)
rx-first (Some k) n need is = absurd cc
rx-first None (Some other) need is = let same : other ≡ need = cc in (refl, ap Some same)
rx-first None None need is = absurd cc

pub no-first : (o : Option ℕ) (n : Option Need) → either_raise o n ≡ None → (o ≡ None) × (n ≡ None)
no-first (Some k) n is = absurd cc
no-first None (Some need) is = absurd cc
no-first None None is = (refl, refl)

-- ---- one after the other

-- some were raised
abbrev pub AreRaised : TxSide → RxSide → Standing → Standing → Type 0
AreRaised tx_side rx_side old new = (raises : List Raise) × Raises tx_side rx_side old raises new

module _ (tx_side : TxSide) (rx_side : RxSide) where
  -- and one more, the first that was needed then
  pub raises-more : (old mid : Standing) (raises : List Raise) (raise : Raise) → Raises tx_side rx_side old raises mid
      → first_raise mid tx_side rx_side ≡ Some raise
      → Raises tx_side rx_side old (raises ++ raise ∷ []) (standing_with_raise mid raise)
  raises-more old mid [] raise same first = (
    subst (λ (s : Standing). first_raise s tx_side rx_side ≡ Some raise) same first,
    ap (λ (s : Standing). standing_with_raise s raise) same,
  )
  raises-more old mid (other ∷ raises) raise raised first =
      (raised.0, raises-more (standing_with_raise old other) mid raises raise raised.1 first)

  -- what the raise of a ceiling that is needed keeps all of them keep
  pub raises-keep : (P : Standing → Type 0)
      → ((s : Standing) (raise : Raise) → first_raise s tx_side rx_side ≡ Some raise → P s
      → P (standing_with_raise s raise))
      → (old new : Standing) (raises : List Raise) → Raises tx_side rx_side old raises new → P old → P new
  raises-keep P step old new [] raised holds = subst P (sym raised) holds
  raises-keep P step old new (raise ∷ raises) raised holds =
      raises-keep P step (standing_with_raise old raise) new raises raised.1 (step old raise raised.0 holds)

-- a ceiling alone is raised
pub raise-parts : (s : Standing) (raise : Raise)
    → ((standing_with_raise s raise).identity ≡ s.identity) × ((standing_with_raise s raise).config ≡ s.config)
raise-parts s (RaiseTx an) = (refl, refl)
raise-parts s (RaiseRx need) = (refl, refl)

-- ceilings alone are raised
pub raises-parts : (tx_side : TxSide) (rx_side : RxSide) (old new : Standing) (raises : List Raise)
    → Raises tx_side rx_side old raises new
    → (new.identity ≡ old.identity) × (new.config ≡ old.config)
raises-parts tx_side rx_side old new raises raised =
    raises-keep tx_side rx_side (λ (s : Standing). (s.identity ≡ old.identity) × (s.config ≡ old.config))
    (λ s raise first same. let parts = raise-parts s raise in (parts.0 ∙ same.0, parts.1 ∙ same.1))
    old new raises raised (refl, refl)

-- ---- no ceiling comes too far ahead

tx_further : (next ceiling half block : ℕ) → ceiling - next ≤ half → next ≤ ceiling → ceiling ≤ 2 ^ 32
    → (next ≤ block_beyond ceiling block) × (block_beyond ceiling block ≤ next + (block + half))
    × (block_beyond ceiling block ≤ 2 ^ 32)
tx_further next ceiling half block near below bounded =
    (omega (arith, below, bounded), omega (arith, near, below), omega arith)

-- the ceiling of a transmit association, a block further
tx_raised_within : (block next ceiling : ℕ) → transmit.is_needed block next ceiling ≡ true
    → IsTxWithin block (Some next) (Some ceiling)
    → IsTxWithin block (Some next) (Some (block_beyond ceiling block))
tx_raised_within block next ceiling is within =
    let parts = and_parts (nat_le (ceiling - next) (block / 2)) (nat_lt ceiling (2 ^ 32)) is in
    let further =
    tx_further next ceiling (block / 2) block (leb-true (ceiling - next) (block / 2) parts.0) within.1 within.3 in
    (within.0, further.0, further.1, further.2)

-- the ceiling of a receive association, a block beyond the number that was seen
rx_raised_within : (block : ℕ) (sci : List ℕ) (an : ℕ) (numbers : Option Numbers) (need : Need) (ceiling : Option ℕ)
    → IsNeed block sci an numbers ceiling need → IsRxWithin block numbers ceiling
    → IsRxWithin block numbers (Some (block_beyond need.pn block))
rx_raised_within block sci an numbers need ceiling is within =
    let same : need.pn ≡ is.seen = ap (λ (n : Need). n.pn) is.is in
    let before : IsRxWithin block (Some is.held) (Some is.top) =
    subst (λ (n : Option Numbers). IsRxWithin block n (Some is.top)) is.has
    (subst (λ (c : Option ℕ). IsRxWithin block numbers c) is.has_ceiling within) in
    let below : is.held.next ≤ is.top = before.0 in
    let above : is.top < block_beyond is.seen block = below-raised block sci an is.held.next is.top is.seen is.test in
    let further : (is.held.next ≤ block_beyond is.seen block)
    × (block_beyond is.seen block ≤ rx_limit block is.held.next (Some is.seen)) =
    (omega (arith, below, above), omega arith) in
    subst (λ (n : Option Numbers). IsRxWithin block n (Some (block_beyond need.pn block))) (sym is.has)
    (subst (λ (m : ℕ). (is.held.next ≤ block_beyond m block)
    × (block_beyond m block ≤ rx_limit block is.held.next is.held.seen)) (sym same)
    (subst (λ (o : Option ℕ). (is.held.next ≤ block_beyond is.seen block)
    × (block_beyond is.seen block ≤ rx_limit block is.held.next o)) (sym is.has_seen) further))

-- the ceiling that is needed is not too far ahead
pub tx-raised-ahead : (identity : Identity) (side : TxSide) (numbers : List ℕ → ℕ → Option Numbers)
    (c : Ceilings) (an : ℕ)
    → IsTxNeed side c.tx identity.tx_block an → AreAhead identity side.next numbers c
    → AreAhead identity side.next numbers
    (record c { tx = put c.tx an (option_map (λ (ceiling : ℕ). block_beyond ceiling identity.tx_block) (c.tx an)) })
tx-raised-ahead identity side numbers c an need are =
    let block = identity.tx_block in
    let x : Option ℕ = option_map (λ (ceiling : ℕ). block_beyond ceiling block) (c.tx an) in
    let before : IsTxWithin block (Some need.next) (Some need.top) =
    subst (λ (o : Option ℕ). IsTxWithin block o (Some need.top)) need.is_next
    (subst (λ (o : Option ℕ). IsTxWithin block (side.next an) o) need.is_top (are.tx_ahead an)) in
    let here : IsTxWithin block (side.next an) x = subst (λ (o : Option ℕ). IsTxWithin block o x) (sym need.is_next)
    (subst (λ (o : Option ℕ). IsTxWithin block (Some need.next)
    (option_map (λ (ceiling : ℕ). block_beyond ceiling block) o)) (sym need.is_top)
    (tx_raised_within block need.next need.top need.test before)) in
    record {
      tx_ahead = λ i. put_all (λ (o : Option ℕ). IsTxWithin block (side.next i) o) c.tx an x i
          (λ same. subst (λ (k : ℕ). IsTxWithin block (side.next k) x) (sym same) here) (λ other. are.tx_ahead i);
      rx_ahead = are.rx_ahead;
      few = are.few;
    }

pub rx-raised-ahead : (identity : Identity) (next : ℕ → Option ℕ) (numbers : List ℕ → ℕ → Option Numbers) (c : Ceilings)
    (need : Need)
    → need_of identity.rx_block need.sci need.an (numbers need.sci need.an) (c.rx need.sci need.an) ≡ Some need
    → AreAhead identity next numbers c
    → AreAhead identity next numbers
    (record
    c { rx = put_at c.rx need.sci (put (c.rx need.sci) need.an (Some (block_beyond need.pn identity.rx_block))) })
rx-raised-ahead identity next numbers c need is are =
    let block = identity.rx_block in
    let sci = need.sci in
    let an = need.an in
    let x : Option ℕ = Some (block_beyond need.pn block) in
    let here : IsRxWithin block (numbers sci an) x =
    rx_raised_within block sci an (numbers sci an) need (c.rx sci an)
    (is-need block sci an (numbers sci an) (c.rx sci an) need is) (are.rx_ahead sci an) in
    record {
      tx_ahead = are.tx_ahead;
      rx_ahead = λ s k.
          put_at_all (λ (row : ℕ → Option ℕ). IsRxWithin block (numbers s k) (row k)) c.rx sci (put (c.rx sci) an x) s
          (λ same. put_all (λ (o : Option ℕ). IsRxWithin block (numbers s k) o) (c.rx sci) an x k
          (λ same_k. subst (λ (t : List ℕ). IsRxWithin block (numbers t k) x) (sym same)
          (subst (λ (m : ℕ). IsRxWithin block (numbers sci m) x) (sym same_k) here))
          (λ other. subst (λ (t : List ℕ). IsRxWithin block (numbers s k) (c.rx t k)) same (are.rx_ahead s k)))
          (λ other. are.rx_ahead s k);
      few = are.few;
    }

-- ceilings, as they are, of the numbers on these sides
abbrev pub IsAhead : TxSide → RxSide → Standing → Type 0
IsAhead tx_side rx_side s = AreAhead s.identity tx_side.next rx_side.numbers s.ceilings

module _ (tx_side : TxSide) (rx_side : RxSide) where
  raise_ahead : (s : Standing) (raise : Raise) → first_raise s tx_side rx_side ≡ Some raise → IsAhead tx_side rx_side s
      → IsAhead tx_side rx_side (standing_with_raise s raise)
  raise_ahead s (RaiseTx an) first are =
      let block = s.identity.tx_block in
      let is = tx-first (transmit.need_of tx_side s.ceilings.tx block)
      (first_need_of rx_side s.ceilings.rx s.identity.rx_block) an first in
      tx-raised-ahead s.identity tx_side rx_side.numbers s.ceilings an (tx-need tx_side s.ceilings.tx block an is) are
  raise_ahead s (RaiseRx need) first are =
      let block = s.identity.rx_block in
      let is = rx-first (transmit.need_of tx_side s.ceilings.tx s.identity.tx_block)
      (first_need_of rx_side s.ceilings.rx block) need first in
      rx-raised-ahead s.identity tx_side.next rx_side.numbers s.ceilings need
      (first-place rx_side.numbers s.ceilings.rx block rx_side.channels need is.1) are

  pub raises-ahead : (old new : Standing) (raises : List Raise) → Raises tx_side rx_side old raises new
      → IsAhead tx_side rx_side old
      → IsAhead tx_side rx_side new
  raises-ahead old new raises raised are =
      raises-keep tx_side rx_side (IsAhead tx_side rx_side) raise_ahead old new raises raised are

  -- ---- how many needs are left

  abbrev pub one_if : Option ℕ → ℕ
  one_if None = 0
  one_if (Some an) = 1

  abbrev pub left : Standing → ℕ
  left s =
      one_if (transmit.need_of tx_side s.ceilings.tx s.identity.tx_block)
      + count (needs_among rx_side.numbers s.ceilings.rx s.identity.rx_block rx_side.channels)

  -- the next number of the association that frames go out under is not above its ceiling
  in_order : (s : Standing) (an : ℕ) (need : IsTxNeed tx_side s.ceilings.tx s.identity.tx_block an)
      → IsAhead tx_side rx_side s → need.next ≤ need.top
  in_order s an need are =
      let within : IsTxWithin s.identity.tx_block (Some need.next) (Some need.top) =
      subst (λ (o : Option ℕ). IsTxWithin s.identity.tx_block o (Some need.top)) need.is_next
      (subst (λ (o : Option ℕ). IsTxWithin s.identity.tx_block (tx_side.next an) o) need.is_top (are.tx_ahead an)) in
      within.1

  -- one less once it is served
  pub raise-less : (s : Standing) (raise : Raise) → first_raise s tx_side rx_side ≡ Some raise → 1 ≤ s.identity.tx_block
      → IsAhead tx_side rx_side s
      → left (standing_with_raise s raise) < left s
  raise-less s (RaiseTx an) first least are =
      let block = s.identity.tx_block in
      let is = tx-first (transmit.need_of tx_side s.ceilings.tx block)
      (first_need_of rx_side s.ceilings.rx s.identity.rx_block) an first in
      let need = tx-need tx_side s.ceilings.tx block an is in
      let raised = (standing_with_tx_raised s an).ceilings.tx in
      let ends : transmit.need_of tx_side raised block ≡ None =
      tx-ends tx_side s.ceilings.tx block an need raised
      (put-here s.ceilings.tx an (option_map (λ ceiling. block_beyond ceiling block) (s.ceilings.tx an))
      ∙ tx-raised tx_side s.ceilings.tx block an need)
      least (in_order s an need are) in
      let none : one_if (transmit.need_of tx_side raised block) ≡ 0 = ap one_if ends in
      let one : one_if (transmit.need_of tx_side s.ceilings.tx block) ≡ 1 = ap one_if is in
      omega (arith, none, one)
  raise-less s (RaiseRx need) first least are =
      let block = s.identity.rx_block in
      let is = rx-first (transmit.need_of tx_side s.ceilings.tx s.identity.tx_block)
      (first_need_of rx_side s.ceilings.rx block) need first in
      let here = first-place rx_side.numbers s.ceilings.rx block rx_side.channels need is.1 in
      let fall = fewer rx_side.numbers s.ceilings.rx block need here rx_side.channels is.1 in
      omega (arith, fall)
