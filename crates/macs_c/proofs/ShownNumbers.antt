-- What is shown: the numbers of an association that exists are known, and counters are in the order of the codes.
use Rattle.std.proofs.Common.{◌≡◌, ℕ, List, map, Option, Some, None, refl, sym, ap, subst}
use Rattle.std.specs.Prelude.{IsSomeAnd}
use Rattle.std.specs.List.{range_with_len}
use Rattle.std.specs.Option.{option_map}
use Rattle.std.proofs.lemmas.Option.{none-some}
use Rattle.macs_endpoint.specs.Reserved.{numbers_between, reserved_of}
use Rattle.macs_endpoint.specs.State.{no_logs}
use Rattle.macs_endpoint.specs.Value.{IsRxWithin, IsSoundEndpoint, IsTxWithin, state_of}
use Rattle.macs_rxsc.specs.Receive.{Numbers}
use Rattle.macs_rxsc.specs.declared.association.RxNumbers.{RxNumbers}
use Rattle.macs_rxsc.specs.declared.verdict.Verdict.{Verdict}
use Rattle.macs_store.specs.Value.{standing_in}
use Rattle.macs_txsc.specs.declared.fault.TxFault.{TxFault}
use Rattle.macs_c.specs.Answers.{number_of}
use Rattle.macs_c.specs.Calls.{E}
use Rattle.macs_c.specs.Shown.{faults, verdicts}
use Rattle.macs_c.specs.declared.answers.Answer.TheVariants.{Received, Unsent}

-- ---- transmit associations

tx-both : (block : ℕ) (next ceiling : Option ℕ) (number : ℕ) → IsTxWithin block next ceiling → next ≡ Some number
    → numbers_between next ceiling ≡ None → ⊥
tx-both block (Some next) (Some ceiling) number within is none = none-some _ (sym none)
tx-both block (Some next) None number within is none = within
tx-both block None ceiling number within is none = none-some number is

-- one that exists has a ceiling
pub tx-reserved : (e : E) (an number : ℕ) → IsSoundEndpoint e → (state_of e no_logs).next an ≡ Some number
    → (reserved_of e).tx an ≡ None → ⊥
tx-reserved e an number sound is none =
    let s = standing_in e.store in
    tx-both s.identity.tx_block ((state_of e no_logs).next an) (s.ceilings.tx an) number
    (subst (λ (ceilings : ℕ → Option ℕ). IsTxWithin s.identity.tx_block ((state_of e no_logs).next an) (ceilings an))
    sound.channels.tx_ceilings (sound.within.tx_within an)) is none

-- ---- receive associations

-- what is shown of the numbers
abbrev pub shown_numbers : Numbers → RxNumbers
shown_numbers n = record { next = n.next; lowest = n.lowest }

pub are-shown : (numbers : Option Numbers) (shown : RxNumbers) → option_map shown_numbers numbers ≡ Some shown
    → IsSomeAnd numbers (λ (n : Numbers). (shown.next ≡ n.next) × (shown.lowest ≡ n.lowest))
are-shown None shown is = none-some shown is
are-shown (Some n) shown is =
    let same : shown_numbers n ≡ shown = cc in
    (ap (λ (r : RxNumbers). r.next) (sym same), ap (λ (r : RxNumbers). r.lowest) (sym same))

pub are-none : (numbers : Option Numbers) → option_map shown_numbers numbers ≡ None → numbers ≡ None
are-none None is = refl
are-none (Some n) is = cc

rx-both : (block : ℕ) (numbers : Option Numbers) (ceiling : Option ℕ) (shown : RxNumbers)
    → IsRxWithin block numbers ceiling → option_map shown_numbers numbers ≡ Some shown
    → numbers_between (option_map (λ (n : Numbers). n.next) numbers) ceiling ≡ None → ⊥
rx-both block (Some n) (Some ceiling) shown within is none = none-some _ (sym none)
rx-both block (Some n) None shown within is none = within
rx-both block None ceiling shown within is none = none-some shown is

-- one that exists has a ceiling
pub rx-reserved : (e : E) (sci : List ℕ) (an : ℕ) (shown : RxNumbers) → IsSoundEndpoint e
    → option_map shown_numbers ((state_of e no_logs).numbers sci an) ≡ Some shown
    → (reserved_of e).rx sci an ≡ None → ⊥
rx-reserved e sci an shown sound is none =
    let s = standing_in e.store in
    rx-both s.identity.rx_block ((state_of e no_logs).numbers sci an) (s.ceilings.rx sci an) shown
    (subst (λ (ceilings : List ℕ → ℕ → Option ℕ).
    IsRxWithin s.identity.rx_block ((state_of e no_logs).numbers sci an) (ceilings sci an))
    sound.channels.rx_ceilings (sound.within.rx_within sci an)) is none

-- ---- counters

-- the elements of the counters are in the order of the codes
faults-by-code : map (λ (fault : TxFault). number_of (Unsent fault)) faults ≡ range_with_len 70 6
faults-by-code = refl

verdicts-by-code : map (λ (verdict : Verdict). number_of (Received verdict)) verdicts ≡ range_with_len 80 15
verdicts-by-code = refl
