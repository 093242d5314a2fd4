-- How many records a snapshot has.
use Rattle.std.proofs.Common.{◌≡◌, ◌≤◌, ◌+◌, ◌*◌, ℕ, suc, List, [], ◌∷◌, ◌++◌, length, Option, Some, None, arith}
use Rattle.std.proofs.Common.{length-append}
use Rattle.std.specs.List.{range_with_len}
use Rattle.std.specs.Prelude.{flat_map}
use Rattle.std.proofs.lemmas.List.{length-map}
use Rattle.std.proofs.lemmas.List.FromFn.{length-range_with_len}
use Rattle.macs_config.specs.Snapshot.{every_an}
use Rattle.macs_config.specs.declared.command.Role.{Role}
use Rattle.macs_config.specs.declared.command.Role.TheVariants.{Receive, Transmit}
use Rattle.macs_record.specs.declared.record.Record.{Record}
use Rattle.macs_record.specs.declared.record.Record.TheVariants as recorded
use Rattle.macs_store.specs.Snapshot.{channel_records, fingerprints_at, record_if_any, record_if_both, rx_records}
use Rattle.macs_store.specs.Snapshot.{rx_records_at, rx_records_of, snapshot, spent_records, spent_records_at}
use Rattle.macs_store.specs.Snapshot.{tx_records, tx_records_at}
use Rattle.macs_store.specs.Standing.{Standing}

-- ---- at most one

both-one : {A : Type 0} (r : A → ℕ → Record) (sa : Option A) (ceiling : Option ℕ)
    → length (record_if_both r sa ceiling) ≤ 1
both-one r (Some sa) (Some ceiling) = omega arith
both-one r (Some sa) None = omega arith
both-one r None (Some ceiling) = omega arith
both-one r None None = omega arith

any-one : (role : Role) (fingerprints : List (List ℕ)) → length (record_if_any role fingerprints) ≤ 1
any-one role [] = omega arith
any-one role (x ∷ xs) = omega arith

-- ---- of a list of items

-- so many of each
of_each : {X : Type 0} (f : X → List Record) (most : ℕ) (xs : List X) → ((x : X) → length (f x) ≤ most)
    → length (flat_map f xs) ≤ length xs * most
of_each f most [] each = omega arith
of_each f most (x ∷ xs) each =
    let first = each x in
    let rest = of_each f most xs each in
    let size = length-append (f x) (flat_map f xs) in
    let product : suc (length xs) * most ≡ most + length xs * most = omega arith in
    omega (arith, first, rest, size, product)

-- ---- the sections

pub tx-few : (s : Standing) → length (tx_records s.config s.ceilings) ≤ 4
unfolding tx_records
tx-few s = of_each (tx_records_at s.config s.ceilings) 1 every_an (λ an. both-one _ (s.config.tx an) (s.ceilings.tx an))

rx-few : (s : Standing) → length (rx_records s.config s.ceilings) ≤ length s.config.channels * 4
unfolding rx_records rx_records_of
rx-few s =
    of_each (rx_records_of s.config s.ceilings) 4 s.config.channels
    (λ sci. of_each (rx_records_at s.config s.ceilings sci) 1 every_an
    (λ an. both-one _ (s.config.rx sci an) (s.ceilings.rx sci an)))

spent-few : (role : Role) (spent : List (List ℕ)) → length (spent_records role spent) ≤ 35
unfolding spent_records
spent-few role spent =
    let each = of_each (spent_records_at role spent) 1 (range_with_len 0 35)
    (λ place. any-one role (fingerprints_at spent place)) in
    let count = length-range_with_len 0 35 in
    omega (arith, each, count)

-- ---- the whole

pub snapshot-some : (s : Standing) → 1 ≤ length (snapshot s)
unfolding snapshot
snapshot-some s = omega arith

pub snapshot-few : (s : Standing) → length s.config.channels ≤ 32 → length (snapshot s) ≤ 235
unfolding snapshot
snapshot-few s few =
    let tx = tx_records s.config s.ceilings in
    let channels = channel_records s.config.channels in
    let rx = rx_records s.config s.ceilings in
    let spent_tx = spent_records Transmit s.config.spent_tx in
    let spent_rx = spent_records Receive s.config.spent_rx in
    let tx_size = tx-few s in
    let channels_size = length-map s.config.channels (λ sci. recorded.Channel sci) in
    let rx_size = rx-few s in
    let spent_tx_size = spent-few Transmit s.config.spent_tx in
    let spent_rx_size = spent-few Receive s.config.spent_rx in
    let a = length-append tx (channels ++ (rx ++ (spent_tx ++ spent_rx))) in
    let b = length-append channels (rx ++ (spent_tx ++ spent_rx)) in
    let c = length-append rx (spent_tx ++ spent_rx) in
    let d = length-append spent_tx spent_rx in
    omega (arith, few, tx_size, channels_size, rx_size, spent_tx_size, spent_rx_size, a, b, c, d)
