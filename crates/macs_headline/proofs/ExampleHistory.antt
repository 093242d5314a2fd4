-- The example is a history.
use Rattle.std.proofs.Common.{◌≡◌, ◌<◌, ◌≤◌, ◌^◌, inl, inr, ℕ, zero, suc, Bool, true, false, cond, List, [], ◌∷◌, ◌++◌}
use Rattle.std.proofs.Common.{drop, take, replicate, Option, Some, None, Err, refl, subst, arith}
use Rattle.std.specs.Prelude.{All}
use Rattle.std.specs.List.{AllByRecursion}
use Rattle.std.proofs.lemmas.List.Elements.{All-replicate}
use Rattle.macs_fields.specs.Fields.{IsAn}
use Rattle.macs_aes.specs.declared.keys.Key.TheVariants.{Long, Short}
use Rattle.macs_config.specs.Apply.{Named, Reason, answer_or_refusal, apply, config_after}
use Rattle.macs_config.specs.Config.{Config, is_spent, rx_fingerprint, this_edition, tx_fingerprint}
use Rattle.macs_config.specs.declared.command.Command.TheVariants.{RxInstall, TxInstall}
use Rattle.macs_config.specs.declared.refusal.Refusal.TheVariants.{KeySpent}
use Rattle.macs_journal.proofs.Holding.{holding-image}
use Rattle.macs_rxsc.specs.Receive.{BelowLowest}
use Rattle.macs_store.specs.Standing.{new_standing}
use Rattle.macs_store.proofs.LargerEditions.{larger-finds}
use Rattle.macs_endpoint.specs.Calls.{IsInRange}
use Rattle.macs_endpoint.specs.State.{Commands, State, rx_side}
use Rattle.macs_endpoint.specs.Step.{Exchange, Step, Steps}
use Rattle.macs_headline.specs.Example.{add_peer, check_only, example_identity, example_plain, example_sectors, guard}
use Rattle.macs_headline.specs.Example.{install_own_again, install_peer_again, later_edition, own_key, own_sa}
use Rattle.macs_headline.specs.Example.{peer_frame, peer_key, peer_sa, peer_sci, remove_peer, stay_strict, widen}
use Rattle.macs_headline.specs.Example.{checked_standing, full_standing, last_standing, served_config}
use Rattle.macs_headline.specs.ExampleCuts.{append_under_way, killed_disk, place_behind}
use Rattle.macs_headline.specs.ExampleDisk.{checked, cut_image, ended_content, ended_image, last_content, last_image}
use Rattle.macs_headline.specs.ExampleDisk.{new_image, served_image}
use Rattle.macs_headline.specs.ExampleLives.{IsWorkedHistory, early_lives, example_lives, first_exchanges}
use Rattle.macs_headline.specs.ExampleLives.{fourth_exchanges, last_exchanges, obeyed, second_exchanges}
use Rattle.macs_headline.specs.ExampleLives.{third_exchanges}
use Rattle.macs_headline.specs.Binding.{HasHistory}
use Rattle.macs_headline.specs.History.{Blank, Formatted, IsHistory, IsLifeSoFar, formatted_state}
use Rattle.macs_headline.proofs.Chains.{lead-on}
use Rattle.macs_headline.proofs.Older.{larger-fits, older}
use Rattle.macs_headline.proofs.Lists.{each-same}
use Rattle.macs_headline.proofs.ExampleCuts.{compacting-holds, cut-left, gate-pending, killed-holds, killed-passed}
use Rattle.macs_headline.proofs.ExampleCuts.{left-open, torn-left, widening-holds, widening-run, working-holds}
use Rattle.macs_headline.proofs.ExampleCuts.{working-run}
use Rattle.macs_headline.proofs.ExampleFits.{fits-cut, fits-killed, fits-last, fits-new, fits-served}
use Rattle.macs_headline.proofs.ExampleFrames.{arrival, peer-arrives, peer-late}
use Rattle.macs_headline.proofs.ExampleImages.{checked-is, cut-is, cut-stands, ended-found, full-slots, larger}
use Rattle.macs_headline.proofs.ExampleImages.{last-found, last-is, new-generation, new-is, served-is, served-is-config}
use Rattle.macs_headline.proofs.ExampleImages.{served_standing, unfinished-is}
use Rattle.macs_headline.proofs.ExampleRecords.{key-range, long-key-range, peer-range}
use Rattle.macs_headline.proofs.ExampleStates.{after_delay, after_delivery, after_hold, before_frame, c1, c2, c3, c4}
use Rattle.macs_headline.proofs.ExampleStates.{c5, first_end, fourth_end, last_config, last_state, late_numbers}
use Rattle.macs_headline.proofs.ExampleStates.{outgoing, s0, s1, s2, s3, s4, s5, s6, s7, s8, s9, s10, s11, s12, s13}
use Rattle.macs_headline.proofs.ExampleStates.{s14, s15, s16, s17, second_end, t0, t1, t2, t3, t4, third_end, u0, u1}
use Rattle.macs_headline.proofs.ExampleStates.{u2, unguarded_config, v0, v1, waits, x0, x1}

-- the same call, with the same answer, that changes nothing
pub same_steps : (n : ℕ) (s : State) (e : Exchange) → Step s e.call e.reply s → Steps s (replicate n e) s
same_steps zero s e step = refl
same_steps (suc n) s e step = (s, step, same_steps n s e step)

-- steps, and then more
pub steps_on : (old mid new : State) (xs ys : List Exchange) → Steps old xs mid → Steps mid ys new
    → Steps old (xs ++ ys) new
steps_on old mid new [] ys one two = subst (λ (s : State). Steps s ys new) one two
steps_on old mid new (x ∷ xs) ys one two = (one.0, one.1, steps_on one.0 mid new xs ys one.2 two)

-- ---- the calls of each life

-- so many calls of the first life, from this one on
abbrev part : (from count : ℕ) → List Exchange
part from count = take count (drop from first_exchanges)

-- Two frames go out under the endpoint's own association.
own_steps : Steps s0 (part 0 4) s4
own_steps = (
  s1,
  inr (refl, (refl, (c1, refl, refl))),
  (
    s2,
    inr (refl, (refl, (c2, refl, refl))),
    (
      s3,
      inr (refl, (refl, (outgoing 1, refl, refl, refl, refl))),
      (
        s4,
        inr (refl, (refl, (outgoing 2, refl, refl, refl, refl))),
        refl,
      ),
    ),
  ),
)

-- Two more go out while numbers are reserved, step by step, and a third has none.
reserving_steps : Steps s4 (part 4 7) s6
reserving_steps = (
  s4,
  inr (refl, inl refl),
  (
    s5,
    inr (refl, (refl, (outgoing 3, refl, refl, refl, refl))),
    (
      s5,
      inr (refl, inl refl),
      (
        s6,
        inr (refl, (refl, (outgoing 4, refl, refl, refl, refl))),
        (
          s6,
          inr (refl, inl refl),
          (
            s6,
            inr (refl, (inr (refl, refl), refl, refl)),
            (
              s6,
              inr (refl, refl),
              refl,
            ),
          ),
        ),
      ),
    ),
  ),
)

-- The peer's channel is added, step by step, with a frame between.
adding_steps : Steps s6 (part 11 6) s10
adding_steps = (
  s7,
  inr (refl, (omega arith, omega arith, refl, refl)),
  (
    s8,
    inr (refl, inr (waits 1 add_peer, [], refl, refl, refl, refl)),
    (
      s9,
      inr (refl, (refl, (outgoing 5, refl, refl, refl, refl))),
      (
        s9,
        inr (refl, inl refl),
        (
          s9,
          inr (refl, inl refl),
          (
            s10,
            inr (refl, (waits 1 add_peer, [], refl, refl, (c3, refl, refl))),
            refl,
          ),
        ),
      ),
    ),
  ),
)

-- The peer's frame is held back, and comes again, twice.
receiving_steps : Steps s10 (part 17 6) s15
receiving_steps = (
  s11,
  inr (refl, (refl, (c4, refl, refl))),
  (
    s12,
    inr (refl, (refl, (c5, refl, refl))),
    (
      s13,
      inr (
        refl,
        inr (
          arrival before_frame,
          peer-arrives (rx_side s12) before_frame refl refl refl
              (λ on late. omega (arith, late)),
          inl (refl, omega arith, refl, refl),
        ),
      ),
      (
        s13,
        inr (refl, (refl, refl)),
        (
          s14,
          inr (
            refl,
            inr (
              arrival after_hold,
              peer-arrives (rx_side s13) after_hold refl refl refl
                  (λ on late. omega (arith, late)),
              inr (refl, refl, refl),
            ),
          ),
          (
            s15,
            inr (
              refl,
              inr (
                arrival after_delivery,
                peer-arrives (rx_side s14) after_delivery refl refl refl
                    (λ on late. omega (arith, late)),
                inr (refl, refl, refl),
              ),
            ),
            refl,
          ),
        ),
      ),
    ),
  ),
)

-- The window is about to be widened, up to its gate, with a frame between.
widening_steps : Steps s15 (part 23 5) first_end
widening_steps = (
  s16,
  inr (refl, (omega arith, omega arith, refl, refl)),
  (
    s17,
    inr (refl, inr (waits 2 widen, [], refl, refl, refl, refl)),
    (
      first_end,
      inr (refl, (refl, (outgoing 6, refl, refl, refl, refl))),
      (
        first_end,
        inr (refl, inl refl),
        (
          first_end,
          inr (refl, inl refl),
          refl,
        ),
      ),
    ),
  ),
)

first_steps : Steps s0 first_exchanges first_end
first_steps =
    steps_on s0 s4 first_end (part 0 4) (drop 4 first_exchanges) own_steps
    (steps_on s4 s6 first_end (part 4 7) (drop 11 first_exchanges) reserving_steps
    (steps_on s6 s10 first_end (part 11 6) (drop 17 first_exchanges) adding_steps
    (steps_on s10 s15 first_end (part 17 6) (drop 23 first_exchanges) receiving_steps
    widening_steps)))

-- A key that is spent is refused.
pub refused_by : (b : Bool) (rest : Option Reason) (answer : Config) → b ≡ true
    → answer_or_refusal (cond b (Some (Named KeySpent)) rest) answer ≡ Err (Named KeySpent)
refused_by true rest answer is = refl
refused_by false rest answer is = absurd (cc)

own_spent : apply this_edition example_identity served_config install_own_again ≡ Err (Named KeySpent)
own_spent =
    refused_by (is_spent served_config.spent_tx (tx_fingerprint own_key)) None
    (config_after served_config install_own_again)
    (served-is-config.tx_spent 0 own_sa (omega arith) refl)

peer_spent : apply this_edition example_identity served_config install_peer_again ≡ Err (Named KeySpent)
peer_spent =
    refused_by (is_spent served_config.spent_rx (rx_fingerprint peer_sci peer_key)) None
    (config_after served_config install_peer_again)
    (served-is-config.rx_spent peer_sci 0 peer_sa (omega arith) refl)

-- A frame goes out, and three commands are refused.
refused_steps : Steps t0 (take 6 second_exchanges) t1
refused_steps = (
  t0,
  inr (refl, (inr (refl, refl), refl, refl)),
  (
    t0,
    inr (refl, (refl, refl)),
    (
      t1,
      inr (refl, (refl, (outgoing 9, refl, refl, refl, refl))),
      (
        t1,
        inr (refl, (refl, refl, refl)),
        (
          t1,
          inr (refl, (refl, own_spent, refl)),
          (
            t1,
            inr (refl, (refl, peer_spent, refl)),
            refl,
          ),
        ),
      ),
    ),
  ),
)

-- The peer's frame is late, is Delayed without replay protection, and is late again.
delayed_steps : Steps t1 (take 5 (drop 6 second_exchanges)) t4
delayed_steps = (
  t1,
  inr (
    refl,
    inl (BelowLowest, peer-late (rx_side t1) late_numbers refl refl refl refl (omega arith), refl, refl, refl),
  ),
  (
    t2,
    inr (refl, (refl, (unguarded_config, refl, refl))),
    (
      t3,
      inr (
        refl,
        inr (
          arrival late_numbers,
          peer-arrives (rx_side t2) late_numbers refl refl refl (λ on late. absurd (cc)),
          inr (refl, refl, refl),
        ),
      ),
      (
        t4,
        inr (refl, (refl, (config_after unguarded_config guard, refl, refl))),
        (
          t4,
          inr (
            refl,
            inl
                (BelowLowest, peer-late (rx_side t4) after_delay refl refl refl refl (omega arith), refl, refl, refl),
          ),
          refl,
        ),
      ),
    ),
  ),
)

second_steps : Steps t0 second_exchanges t4
second_steps =
    steps_on t0 t1 t4 (take 6 second_exchanges) (drop 6 second_exchanges) refused_steps
    (steps_on t1 t4 t4 (take 5 (drop 6 second_exchanges)) (drop 11 second_exchanges) delayed_steps
    (same_steps 244 t4 (obeyed stay_strict) (inr (refl, (refl, (config_after served_config stay_strict, refl, refl))))))

third_steps : Steps u0 third_exchanges third_end
third_steps = (
  u1,
  inr (refl, (refl, (config_after served_config remove_peer, refl, refl))),
  (
    u1,
    inr (refl, (inr (refl, refl), refl, refl)),
    (
      u1,
      inr (refl, (refl, refl)),
      (
        u2,
        inr (refl, (refl, (outgoing 13, refl, refl, refl, refl))),
        (
          third_end,
          inr (refl, (refl, refl, refl)),
          (
            third_end,
            inl (refl, refl, refl),
            refl,
          ),
        ),
      ),
    ),
  ),
)

-- The command that failed is asked for again, up to its gate.
fourth_steps : Steps v0 fourth_exchanges fourth_end
fourth_steps = (
  v1,
  inr (refl, (omega arith, omega arith, refl, refl)),
  (
    fourth_end,
    inr (refl, inr (waits 1 check_only, [], refl, refl, refl, refl)),
    (
      fourth_end,
      inr (refl, inl refl),
      (
        fourth_end,
        inr (refl, inl refl),
        refl,
      ),
    ),
  ),
)

-- A program of a later edition sends a frame and sets the window.
last_steps : Steps x0 last_exchanges last_state
last_steps = (
  x0,
  inr (refl, (inr (refl, refl), refl, refl)),
  (
    x0,
    inr (refl, (refl, refl)),
    (
      x1,
      inr (refl, (refl, (outgoing 17, refl, refl, refl, refl))),
      (
        last_state,
        inr (refl, (refl, (last_config, refl, refl))),
        refl,
      ),
    ),
  ),
)

-- ---- the lives

abbrev AreInRange : List Exchange → Type 0
AreInRange exchanges = AllByRecursion (λ (e : Exchange). IsInRange e.call) exchanges

pub plain_range : All (λ octet. octet < 2 ^ 8) example_plain
plain_range = All-replicate (λ octet. octet < 2 ^ 8) 14 0 (omega arith)

-- calls in their ranges, and then more
pub range_on : (xs ys : List Exchange) → AreInRange xs → AreInRange ys → AreInRange (xs ++ ys)
range_on [] ys one two = two
range_on (x ∷ xs) ys one two = (one.0, range_on xs ys one.1 two)

pub install_own_range : (an : ℕ) → IsAn an → IsInRange (Commands (TxInstall an (Short own_key) 1 true 0))
install_own_range an range = (range, inl (key-range 1 (omega arith)), omega arith, omega arith)

pub install_peer_range : (an : ℕ) → IsAn an → IsInRange (Commands (RxInstall peer_sci an (Long peer_key) 1 0))
install_peer_range an range = (peer-range, range, inr (long-key-range 2 (omega arith)), omega arith, omega arith)

own_range : AreInRange (part 0 4)
own_range = (install_own_range 0 (omega arith), (omega arith, (plain_range, (plain_range, tt))))

reserving_range : AreInRange (part 4 7)
reserving_range = (tt, (plain_range, (tt, (plain_range, (tt, (plain_range, (tt, tt)))))))

adding_range : AreInRange (part 11 6)
adding_range = (peer-range, (tt, (plain_range, (tt, (tt, (tt, tt))))))

widening_range : AreInRange (part 23 5)
widening_range = (omega arith, (tt, (plain_range, (tt, (tt, tt)))))

module _ (peer : All (λ octet. octet < 2 ^ 8) (peer_frame 5)) where
  receiving_range : AreInRange (part 17 6)
  receiving_range = (install_peer_range 0 (omega arith), (omega arith, (peer, (tt, (peer, (peer, tt))))))

  first_range : AreInRange first_exchanges
  first_range =
      range_on (part 0 4) (drop 4 first_exchanges) own_range
      (range_on (part 4 7) (drop 11 first_exchanges) reserving_range
      (range_on (part 11 6) (drop 17 first_exchanges) adding_range
      (range_on (part 17 6) (drop 23 first_exchanges) receiving_range
      widening_range)))

  second_range : AreInRange second_exchanges
  second_range =
      range_on (take 6 second_exchanges) (drop 6 second_exchanges) (
        plain_range,
        (
          tt,
          (plain_range, (omega arith, (install_own_range 1 (omega arith), (install_peer_range 1 (omega arith), tt)))),
        ),
      ) (
        peer,
        (
          omega arith,
          (peer, (omega arith, (peer, each-same (λ (e : Exchange). IsInRange e.call) 244 (obeyed stay_strict) tt))),
        ),
      )

  third_range : AreInRange third_exchanges
  third_range = ((peer-range, omega arith), (plain_range, (tt, (plain_range, (tt, (plain_range, tt))))))

  first_life : IsLifeSoFar example_sectors (Formatted (formatted_state this_edition example_identity)) this_edition
      new_image first_exchanges first_end
  first_life = record {
    fits = fits-new;
    found = new_standing this_edition example_identity;
    is_found = new-is;
    in_range = first_range;
    steps = first_steps;
  }

  second_life : IsLifeSoFar example_sectors (Formatted first_end) this_edition served_image second_exchanges t4
  second_life = record {
    fits = fits-served;
    found = served_standing;
    is_found = served-is;
    in_range = second_range;
    steps = second_steps;
  }

  third_life : IsLifeSoFar example_sectors (Formatted second_end) this_edition (cut_image 2) third_exchanges third_end
  third_life =
      record { fits = fits-cut; found = full_standing; is_found = cut-is; in_range = third_range; steps = third_steps }

  fourth_life : IsLifeSoFar example_sectors (Formatted third_end) this_edition last_image fourth_exchanges fourth_end
  fourth_life = record {
    fits = fits-last;
    found = last_standing this_edition;
    is_found = last-is last_image last-found;
    in_range = (tt, (tt, (tt, (tt, tt))));
    steps = fourth_steps;
  }

  last_life : IsLifeSoFar example_sectors (Formatted fourth_end) later_edition ended_image last_exchanges last_state
  last_life = record {
    fits = larger-fits this_edition later_edition larger example_sectors ended_image fourth_end
        (fits-killed ended_image (inr ended-found));
    found = checked_standing later_edition;
    is_found = larger-finds this_edition later_edition larger example_sectors ended_image
        (checked_standing this_edition) (checked-is ended_image ended-found);
    in_range = (plain_range, (tt, (plain_range, (omega arith, tt))));
    steps = last_steps;
  }

  -- all but the last
  early : IsHistory example_sectors early_lives (Formatted fourth_end)
  early = (
    Blank (example_identity ∷ []),
    refl,
    (
      Blank (example_identity ∷ []),
      (inl unfinished-is, inr unfinished-is, refl),
      (
        Formatted (formatted_state this_edition example_identity),
        refl,
        (
          Formatted (formatted_state this_edition example_identity),
          (fits-new, inl refl, refl),
          (
            Formatted first_end,
            (first_end, first_life, tt, refl),
            (
              Formatted second_end,
              (t4, second_life, (peer-range, omega arith), refl),
              (
                Formatted second_end,
                refl,
                (
                  Formatted third_end,
                  (third_end, third_life, tt, refl),
                  (
                    Formatted fourth_end,
                    (fourth_end, fourth_life, tt, refl),
                    refl,
                  ),
                ),
              ),
            ),
          ),
        ),
      ),
    ),
  )

  early_disk : HasHistory this_edition killed_disk early_lives
  early_disk = record {
    honest = refl;
    past = Formatted fourth_end;
    history = early;
    images = λ image left. fits-killed image
        (holding-image killed_disk (place_behind last_content) (append_under_way checked) last_content ended_content
        killed-holds image left);
  }

  pub is-worked-history : IsWorkedHistory
  is-worked-history = record {
    last = last_state;
    history = lead-on example_sectors early_lives (drop 9 example_lives) (Blank []) (Formatted fourth_end)
        (Formatted last_state) early
        (Formatted last_state, (last_state, last_life, tt, refl), refl);
    used = refl;
    given = refl;
    widening = widening-holds;
    widening_calls = widening-run;
    left_open = left-open;
    full = full-slots;
    compacting = compacting-holds;
    torn = torn-left;
    left_torn = cut-left;
    cut = cut-stands;
    compacted = (refl, refl, new-generation);
    working = working-holds;
    working_calls = working-run;
    killed = killed-passed;
    pending = gate-pending;
    read = refl;
    early = early_disk;
    later = (larger, λ up_to. let few : 64 ≤ 32 = up_to.channels in omega (arith, few));
    older = older this_edition later_edition larger killed_disk early_lives early_disk;
    found_without = last-is last_image last-found;
    finds = larger-finds this_edition later_edition larger example_sectors ended_image (checked_standing this_edition)
        (checked-is ended_image ended-found);
  }
