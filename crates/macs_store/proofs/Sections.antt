-- What each section of a snapshot makes of what those in front of it made.
use Rattle.std.proofs.Common.{◌≡◌, ◌∙◌, ◌≤◌, ◌<◌, ◌+◌, ◌*◌, ℕ, zero, suc, Bool, true, false, cond, not, ◌&&◌, nat_le}
use Rattle.std.proofs.Common.{nat_lt, List, [], ◌∷◌, ◌++◌, length, take, get_or, Option, Some, None, is_some, is_none}
use Rattle.std.proofs.Common.{bytes_eq, refl, ap, sym, subst, arith}
use Rattle.std.specs.List.{range_with_len}
use Rattle.std.specs.Prelude.{flat_map}
use Rattle.std.proofs.lemmas.Bool.{and_from, lt-ltb, or_parts}
use Rattle.std.proofs.lemmas.List.{append-nil, get_or_default, take_all}
use Rattle.std.proofs.lemmas.List.Concat.{flat_map_single}
use Rattle.std.proofs.lemmas.List.Folds.{list_any_at}
use Rattle.macs_config.specs.Config.{Config, Edition, are_distinct, is_among, is_ascending, max_spent, takes_key}
use Rattle.macs_config.specs.Identity.{Identity}
use Rattle.macs_config.specs.Snapshot.{are_new}
use Rattle.macs_config.specs.Tables.{put_at}
use Rattle.macs_config.specs.declared.association.RxSa.{RxSa as RxAssociation}
use Rattle.macs_config.specs.declared.association.TxSa.{TxSa as TxAssociation}
use Rattle.macs_config.specs.declared.command.Role.TheVariants.{Receive, Transmit}
use Rattle.macs_config.specs.declared.part.Part.TheVariants as part
use Rattle.macs_config.proofs.Channels.{bytes_eq-itself}
use Rattle.macs_record.specs.declared.record.Record.{Record}
use Rattle.macs_record.specs.declared.record.Record.TheVariants as recorded
use Rattle.macs_store.specs.Snapshot.{channel_records, fingerprints_at, record_if_any, record_if_both, spent_records}
use Rattle.macs_store.specs.Snapshot.{spent_records_at}
use Rattle.macs_store.specs.Standing.{Ceilings}
use Rattle.macs_store.proofs.Filling.{among, among-all, among-more, below, below-all, below-more, below-next}
use Rattle.macs_store.proofs.Filling.{below-none, below-passed, filled-all, filled-more, filled-next, filled-none}
use Rattle.macs_store.proofs.Filling.{filled-passed}
use Rattle.macs_store.proofs.Ascending.{IsNext, next-fits, next-free, put-next}
use Rattle.macs_store.proofs.FreshKeys.{fingerprints-follow, next-fingerprints}
use Rattle.macs_store.proofs.Making.{Makes, all-items, all-numbers, become, begins, none, one}

-- an SCI that is not among others is none of them
apart-at : (scis : List (List ℕ)) (i : ℕ) (own : List ℕ) → i < length scis → is_among scis own ≡ false
    → bytes_eq (get_or scis i []) own ≡ false
apart-at [] i own within free = absurd (omega arith)
apart-at (x ∷ xs) zero own within free = (or_parts (bytes_eq x own) (is_among xs own) free).0
apart-at (x ∷ xs) (suc i) own within free =
    apart-at xs i own (omega arith) (or_parts (bytes_eq x own) (is_among xs own) free).1

-- one of those that ascend
next_is : (scis : List (List ℕ)) (i : ℕ) → is_ascending scis ≡ true → i < length scis → IsNext scis i (get_or scis i [])
next_is scis i ascend within =
    record { ascend = ascend; within = within; there = get_or_default scis i [] (get_or scis i []) within }

module _ (edition : Edition) (identity : Identity) (c : Config) (k : Ceilings) where
  -- ---- transmit associations

  module _ (f : ℕ → Option TxAssociation) (g : ℕ → Option ℕ) (alike : (i : ℕ) → is_some (g i) ≡ is_some (f i))
      (taken : (i : ℕ) (sa : TxAssociation) → f i ≡ Some sa → takes_key edition sa.key ≡ true) where
    abbrev tx-config : ℕ → Config
    tx-config i = record c { tx = below i f }

    abbrev tx-ceilings : ℕ → Ceilings
    tx-ceilings i = record k { tx = below i g }

    abbrev tx-records : ℕ → List Record
    tx-records i = record_if_both (λ sa ceiling. recorded.TxSa i sa ceiling) (f i) (g i)

    tx-by : (i : ℕ) (x : Option TxAssociation) (y : Option ℕ) → f i ≡ x → g i ≡ y → is_some y ≡ is_some x
        → Makes edition identity (tx-config i) (tx-ceilings i)
        (record_if_both (λ sa ceiling. recorded.TxSa i sa ceiling) x y)
        (tx-config (i + 1)) (tx-ceilings (i + 1)) 2 2
    tx-by i (Some sa) (Some ceiling) is_sa is_ceiling same =
        become edition identity (tx-config i) _ (tx-config (i + 1)) (tx-ceilings i) _ (tx-ceilings (i + 1))
        (recorded.TxSa i sa ceiling ∷ []) 2 2
        (ap (λ (t : ℕ → Option TxAssociation). record c { tx = t }) (below-more f i (Some sa) is_sa))
        (ap (λ (t : ℕ → Option ℕ). record k { tx = t }) (below-more g i (Some ceiling) is_ceiling))
        (one edition identity (tx-config i) (tx-ceilings i) (recorded.TxSa i sa ceiling) 2 (part.TxSa i sa) refl
        (and_from (is_none (below i f i)) (takes_key edition sa.key) (ap is_none (below-next f i)) (taken i sa is_sa))
        (omega arith))
    tx-by i None None is_sa is_ceiling same =
        become edition identity (tx-config i) (tx-config i) (tx-config (i + 1)) (tx-ceilings i) (tx-ceilings i)
        (tx-ceilings (i + 1)) [] 2 2
        (ap (λ (t : ℕ → Option TxAssociation). record c { tx = t }) (below-passed f i is_sa))
        (ap (λ (t : ℕ → Option ℕ). record k { tx = t }) (below-passed g i is_ceiling))
        (none edition identity (tx-config i) (tx-ceilings i) 2 2 (omega arith))
    tx-by i (Some sa) None is_sa is_ceiling same = cc
    tx-by i None (Some ceiling) is_sa is_ceiling same = cc

    pub tx-all : ((i : ℕ) → 4 ≤ i → f i ≡ None) → ((i : ℕ) → 4 ≤ i → g i ≡ None)
        → Makes edition identity (record c { tx = λ i. None }) (record k { tx = λ i. None })
        (flat_map tx-records (range_with_len 0 4))
        (record c { tx = f }) (record k { tx = g }) 2 2
    tx-all no_f no_g =
        begins edition identity (tx-config 0) _ _ (tx-ceilings 0) _ _ _ 2 2
        (ap (λ (t : ℕ → Option TxAssociation). record c { tx = t }) (below-none f))
        (ap (λ (t : ℕ → Option ℕ). record k { tx = t }) (below-none g))
        (become edition identity (tx-config 0) (tx-config 4) _ (tx-ceilings 0) (tx-ceilings 4) _ _ 2 2
        (ap (λ (t : ℕ → Option TxAssociation). record c { tx = t }) (below-all f 4 no_f))
        (ap (λ (t : ℕ → Option ℕ). record k { tx = t }) (below-all g 4 no_g))
        (all-numbers edition identity tx-records 4 tx-config tx-ceilings 2
        (λ i lt. tx-by i (f i) (g i) refl refl (alike i))))

  -- ---- channels

  module _ (scis : List (List ℕ)) (ascend : is_ascending scis ≡ true) (few : length scis ≤ edition.channels)
      (own : is_among scis identity.sci ≡ false) where
    abbrev channel-config : ℕ → Config
    channel-config i = record c { channels = take i scis }

    channel-step : (i : ℕ) → i < length scis
        → Makes edition identity (channel-config i) k (recorded.Channel (get_or scis i []) ∷ [])
        (channel-config (i + 1)) k 3 3
    channel-step i lt =
        let sci = get_or scis i [] in
        let next = next_is scis i ascend lt in
        become edition identity (channel-config i) _ (channel-config (i + 1)) k k k (recorded.Channel sci ∷ []) 3 3
        (ap (λ (xs : List (List ℕ)). record c { channels = xs }) (put-next scis i sci next)) refl
        (one edition identity (channel-config i) k (recorded.Channel sci) 3 (part.Channel sci) refl
        (and_from (not (bytes_eq sci identity.sci) && not (is_among (take i scis) sci))
        (nat_lt (length (take i scis)) edition.channels)
        (and_from (not (bytes_eq sci identity.sci)) (not (is_among (take i scis) sci))
        (ap not (apart-at scis i identity.sci lt own))
        (ap not (next-free scis i sci next)))
        (lt-ltb (length (take i scis)) edition.channels (next-fits scis i sci next edition.channels few)))
        (omega arith))

    pub channels-all : c.channels ≡ []
        → Makes edition identity c k (channel_records scis) (record c { channels = scis }) k 3 3
    channels-all empty =
        subst (λ (rs : List Record). Makes edition identity c k rs (record c { channels = scis }) k 3 3)
        (flat_map_single (λ sci. recorded.Channel sci) scis)
        (begins edition identity (channel-config 0) c _ k k k _ 3 3 (λ j. record c { channels = sym empty j }) refl
        (become edition identity (channel-config 0) (channel-config (length scis)) _ k k k _ 3 3
        (ap (λ (xs : List (List ℕ)). record c { channels = xs }) (take_all (length scis) scis (omega arith))) refl
        (all-items edition identity (λ sci. recorded.Channel sci ∷ []) scis [] channel-config (λ i. k) 3 channel-step)))

  -- ---- receive associations

  -- of one channel
  module _ (old : List ℕ → ℕ → Option RxAssociation) (held : List ℕ → ℕ → Option ℕ) (sci : List ℕ)
      (stands : is_among c.channels sci ≡ true)
      (f : ℕ → Option RxAssociation) (g : ℕ → Option ℕ) (alike : (i : ℕ) → is_some (g i) ≡ is_some (f i))
      (taken : (i : ℕ) (sa : RxAssociation) → f i ≡ Some sa → takes_key edition sa.key ≡ true) where
    abbrev rx-config : ℕ → Config
    rx-config i = record c { rx = put_at old sci (below i f) }

    abbrev rx-ceilings : ℕ → Ceilings
    rx-ceilings i = record k { rx = put_at held sci (below i g) }

    abbrev rx-records : ℕ → List Record
    rx-records i = record_if_both (λ sa ceiling. recorded.RxSa sci i sa ceiling) (f i) (g i)

    rx-by : (i : ℕ) (x : Option RxAssociation) (y : Option ℕ) → f i ≡ x → g i ≡ y → is_some y ≡ is_some x
        → Makes edition identity (rx-config i) (rx-ceilings i)
        (record_if_both (λ sa ceiling. recorded.RxSa sci i sa ceiling) x y)
        (rx-config (i + 1)) (rx-ceilings (i + 1)) 4 4
    rx-by i (Some sa) (Some ceiling) is_sa is_ceiling same =
        become edition identity (rx-config i) _ (rx-config (i + 1)) (rx-ceilings i) _ (rx-ceilings (i + 1))
        (recorded.RxSa sci i sa ceiling ∷ []) 4 4
        (ap (λ (t : List ℕ → ℕ → Option RxAssociation). record c { rx = t }) (filled-more f old sci i (Some sa) is_sa))
        (ap (λ (t : List ℕ → ℕ → Option ℕ). record k { rx = t }) (filled-more g held sci i (Some ceiling) is_ceiling))
        (one edition identity (rx-config i) (rx-ceilings i) (recorded.RxSa sci i sa ceiling) 4 (part.RxSa sci i sa) refl
        (and_from (is_among c.channels sci && is_none (put_at old sci (below i f) sci i)) (takes_key edition sa.key)
        (and_from (is_among c.channels sci) (is_none (put_at old sci (below i f) sci i)) stands
        (ap is_none (filled-next f old sci i))) (taken i sa is_sa))
        (omega arith))
    rx-by i None None is_sa is_ceiling same =
        become edition identity (rx-config i) (rx-config i) (rx-config (i + 1)) (rx-ceilings i) (rx-ceilings i)
        (rx-ceilings (i + 1)) [] 4 4
        (ap (λ (t : List ℕ → ℕ → Option RxAssociation). record c { rx = t }) (filled-passed f old sci i is_sa))
        (ap (λ (t : List ℕ → ℕ → Option ℕ). record k { rx = t }) (filled-passed g held sci i is_ceiling))
        (none edition identity (rx-config i) (rx-ceilings i) 4 4 (omega arith))
    rx-by i (Some sa) None is_sa is_ceiling same = cc
    rx-by i None (Some ceiling) is_sa is_ceiling same = cc

    rx-channel : ((i : ℕ) → 4 ≤ i → f i ≡ None) → ((i : ℕ) → 4 ≤ i → g i ≡ None) → ((i : ℕ) → old sci i ≡ None)
        → ((i : ℕ) → held sci i ≡ None)
        → Makes edition identity (record c { rx = old }) (record k { rx = held })
        (flat_map rx-records (range_with_len 0 4))
        (record c { rx = put_at old sci f }) (record k { rx = put_at held sci g }) 4 4
    rx-channel no_f no_g free free_g =
        begins edition identity (rx-config 0) _ _ (rx-ceilings 0) _ _ _ 4 4
        (ap (λ (t : List ℕ → ℕ → Option RxAssociation). record c { rx = t }) (filled-none f old sci free))
        (ap (λ (t : List ℕ → ℕ → Option ℕ). record k { rx = t }) (filled-none g held sci free_g))
        (become edition identity (rx-config 0) (rx-config 4) _ (rx-ceilings 0) (rx-ceilings 4) _ _ 4 4
        (ap (λ (t : List ℕ → ℕ → Option RxAssociation). record c { rx = t }) (filled-all f old sci 4 no_f))
        (ap (λ (t : List ℕ → ℕ → Option ℕ). record k { rx = t }) (filled-all g held sci 4 no_g))
        (all-numbers edition identity rx-records 4 rx-config rx-ceilings 4
        (λ i lt. rx-by i (f i) (g i) refl refl (alike i))))

  -- of each channel
  module _ (f : List ℕ → ℕ → Option RxAssociation) (g : List ℕ → ℕ → Option ℕ) (alike : (sci : List ℕ) (i : ℕ)
      → is_some (g sci i) ≡ is_some (f sci i))
      (taken : (sci : List ℕ) (i : ℕ) (sa : RxAssociation) → f sci i ≡ Some sa → takes_key edition sa.key ≡ true)
      (ascend : is_ascending c.channels ≡ true) (no_f : (sci : List ℕ) (i : ℕ) → 4 ≤ i → f sci i ≡ None)
      (no_g : (sci : List ℕ) (i : ℕ) → 4 ≤ i → g sci i ≡ None) where
    abbrev among-config : ℕ → Config
    among-config j = record c { rx = among (take j c.channels) f (λ an. None) }

    abbrev among-ceilings : ℕ → Ceilings
    among-ceilings j = record k { rx = among (take j c.channels) g (λ an. None) }

    abbrev channel-records : List ℕ → List Record
    channel-records sci = flat_map
        (λ i. record_if_both (λ sa ceiling. recorded.RxSa sci i sa ceiling) (f sci i) (g sci i)) (range_with_len 0 4)

    channel-rx : (j : ℕ) → j < length c.channels
        → Makes edition identity (among-config j) (among-ceilings j) (channel-records (get_or c.channels j []))
        (among-config (j + 1)) (among-ceilings (j + 1)) 4 4
    channel-rx j lt =
        let sci = get_or c.channels j [] in
        let next = next_is c.channels j ascend lt in
        let free = next-free c.channels j sci next in
        let stands = list_any_at (λ other. bytes_eq other sci) c.channels j [] lt (bytes_eq-itself sci) in
        become edition identity (among-config j) _ (among-config (j + 1)) (among-ceilings j) _
        (among-ceilings (j + 1)) _ 4 4
        (ap (λ (t : List ℕ → ℕ → Option RxAssociation). record c { rx = t })
        (among-more f (λ an. None) c.channels j sci lt next.there))
        (ap (λ (t : List ℕ → ℕ → Option ℕ). record k { rx = t })
        (among-more g (λ an. None) c.channels j sci lt next.there))
        (rx-channel (among (take j c.channels) f (λ an. None)) (among (take j c.channels) g (λ an. None)) sci stands
        (f sci) (g sci) (alike sci) (taken sci)
        (no_f sci) (no_g sci) (λ i. ap (λ (b : Bool). cond b (f sci) (λ an. None) i) free)
        (λ i. ap (λ (b : Bool). cond b (g sci) (λ an. None) i) free))

    pub rx-all : ((sci : List ℕ) → is_among c.channels sci ≡ false → f sci ≡ (λ an. None))
        → ((sci : List ℕ) → is_among c.channels sci ≡ false → g sci ≡ (λ an. None))
        → c.rx ≡ (λ sci an. None) → k.rx ≡ (λ sci an. None)
        → Makes edition identity c k (flat_map channel-records c.channels) (record c { rx = f })
        (record k { rx = g }) 4 4
    rx-all other_f other_g empty empty_g =
        let whole = take_all (length c.channels) c.channels (omega arith) in
        begins edition identity (among-config 0) c _ (among-ceilings 0) k _ _ 4 4 (λ j. record c { rx = sym empty j })
        (λ j. record k { rx = sym empty_g j })
        (become edition identity (among-config 0) (among-config (length c.channels)) _ (among-ceilings 0)
        (among-ceilings (length c.channels)) _ _ 4 4
        (ap (λ (t : List ℕ → ℕ → Option RxAssociation). record c { rx = t })
        (ap (λ (xs : List (List ℕ)). among xs f (λ an. None)) whole ∙ among-all f (λ an. None) c.channels other_f))
        (ap (λ (t : List ℕ → ℕ → Option ℕ). record k { rx = t })
        (ap (λ (xs : List (List ℕ)). among xs g (λ an. None)) whole ∙ among-all g (λ an. None) c.channels other_g))
        (all-items edition identity channel-records c.channels [] among-config among-ceilings 4 channel-rx))

  -- ---- spent keys

  module _ (spent : List (List ℕ)) (once : are_distinct spent ≡ true) (few : length spent ≤ 512) where
    abbrev spent-tx : ℕ → Config
    spent-tx i = record c { spent_tx = take (15 * i) spent }

    abbrev spent-rx : ℕ → Config
    spent-rx i = record c { spent_rx = take (15 * i) spent }

    -- no fingerprints more
    nothing-more : (i : ℕ) → fingerprints_at spent i ≡ [] → take (15 * i) spent ≡ take (15 * (i + 1)) spent
    nothing-more i is =
        sym (append-nil (take (15 * i) spent)) ∙ ap (λ (xs : List (List ℕ)). take (15 * i) spent ++ xs) (sym is)
        ∙ next-fingerprints spent i

    -- these more
    some-more : (i : ℕ) (fingerprints : List (List ℕ)) → fingerprints_at spent i ≡ fingerprints
        → take (15 * i) spent ++ fingerprints ≡ take (15 * (i + 1)) spent
    some-more i fingerprints is = ap (λ (xs : List (List ℕ)). take (15 * i) spent ++ xs) (sym is)
        ∙ next-fingerprints spent i

    -- these may follow
    may-be : (i : ℕ) (fingerprints : List (List ℕ)) → fingerprints_at spent i ≡ fingerprints
        → (are_new (take (15 * i) spent) fingerprints
        && nat_le (length (take (15 * i) spent) + length fingerprints) max_spent) ≡ true
    may-be i fingerprints is =
        subst (λ (xs : List (List ℕ)).
        (are_new (take (15 * i) spent) xs && nat_le (length (take (15 * i) spent) + length xs) max_spent) ≡ true) is
        (fingerprints-follow spent i once few)

    tx-spent : (i : ℕ) (fingerprints : List (List ℕ)) → fingerprints_at spent i ≡ fingerprints
        → Makes edition identity (spent-tx i) k (record_if_any Transmit fingerprints) (spent-tx (i + 1)) k 5 5
    tx-spent i [] is =
        become edition identity (spent-tx i) (spent-tx i) (spent-tx (i + 1)) k k k [] 5 5
        (ap (λ (xs : List (List ℕ)). record c { spent_tx = xs }) (nothing-more i is)) refl
        (none edition identity (spent-tx i) k 5 5 (omega arith))
    tx-spent i (x ∷ xs) is =
        become edition identity (spent-tx i) _ (spent-tx (i + 1)) k k k (recorded.Spent Transmit (x ∷ xs) ∷ []) 5 5
        (ap (λ (xs : List (List ℕ)). record c { spent_tx = xs }) (some-more i (x ∷ xs) is)) refl
        (one edition identity (spent-tx i) k (recorded.Spent Transmit (x ∷ xs)) 5 (part.Spent Transmit (x ∷ xs)) refl
        (may-be i (x ∷ xs) is) (omega arith))

    rx-spent : (i : ℕ) (fingerprints : List (List ℕ)) → fingerprints_at spent i ≡ fingerprints
        → Makes edition identity (spent-rx i) k (record_if_any Receive fingerprints) (spent-rx (i + 1)) k 6 6
    rx-spent i [] is =
        become edition identity (spent-rx i) (spent-rx i) (spent-rx (i + 1)) k k k [] 6 6
        (ap (λ (xs : List (List ℕ)). record c { spent_rx = xs }) (nothing-more i is)) refl
        (none edition identity (spent-rx i) k 6 6 (omega arith))
    rx-spent i (x ∷ xs) is =
        become edition identity (spent-rx i) _ (spent-rx (i + 1)) k k k (recorded.Spent Receive (x ∷ xs) ∷ []) 6 6
        (ap (λ (xs : List (List ℕ)). record c { spent_rx = xs }) (some-more i (x ∷ xs) is)) refl
        (one edition identity (spent-rx i) k (recorded.Spent Receive (x ∷ xs)) 6 (part.Spent Receive (x ∷ xs)) refl
        (may-be i (x ∷ xs) is) (omega arith))

    pub tx-spent-all : c.spent_tx ≡ []
        → Makes edition identity c k (spent_records Transmit spent) (record c { spent_tx = spent }) k 5 5
    unfolding spent_records
    tx-spent-all empty =
        begins edition identity (spent-tx 0) c _ k k k _ 5 5 (λ j. record c { spent_tx = sym empty j }) refl
        (become edition identity (spent-tx 0) (spent-tx 35) _ k k k _ 5 5
        (ap (λ (xs : List (List ℕ)). record c { spent_tx = xs }) (take_all 525 spent (omega (arith, few)))) refl
        (all-numbers edition identity (spent_records_at Transmit spent) 35 spent-tx (λ i. k) 5
        (λ i lt. tx-spent i (fingerprints_at spent i) refl)))

    pub rx-spent-all : c.spent_rx ≡ []
        → Makes edition identity c k (spent_records Receive spent) (record c { spent_rx = spent }) k 6 6
    unfolding spent_records
    rx-spent-all empty =
        begins edition identity (spent-rx 0) c _ k k k _ 6 6 (λ j. record c { spent_rx = sym empty j }) refl
        (become edition identity (spent-rx 0) (spent-rx 35) _ k k k _ 6 6
        (ap (λ (xs : List (List ℕ)). record c { spent_rx = xs }) (take_all 525 spent (omega (arith, few)))) refl
        (all-numbers edition identity (spent_records_at Receive spent) 35 spent-rx (λ i. k) 6
        (λ i lt. rx-spent i (fingerprints_at spent i) refl)))
