-- What an image stands for to an edition, it stands for to one that takes as much or more.
use Rattle.std.proofs.Common.{◌≡◌, ◌∙◌, ◌∷◌, ℕ, Bool, true, false, cond, refl, sym, ap, subst, arith, List, [], take}
use Rattle.std.proofs.Common.{drop, Option, Some, None, Result, Ok, Err}
use Rattle.std.specs.Option.{option_and_then, option_map}
use Rattle.macs_config.specs.Apply.{Reason, apply}
use Rattle.macs_config.specs.Config.{Config, Edition, IsUpTo}
use Rattle.macs_config.specs.Identity.{Identity}
use Rattle.macs_config.specs.Snapshot.{config_of_parts}
use Rattle.macs_config.specs.declared.command.Command.{Command}
use Rattle.macs_config.specs.declared.part.Part.{Part}
use Rattle.macs_config.proofs.Editions.{larger-applies, larger-restores}
use Rattle.macs_disk.specs.States.{Image}
use Rattle.macs_record.specs.declared.record.Record.{Record}
use Rattle.macs_record.specs.declared.record.Record.TheVariants.{RxCeiling, TxCeiling}
use Rattle.macs_store.specs.Commands.{command_of}
use Rattle.macs_store.specs.Standing.{standing_to, Ceilings, Standing, ceilings_after, no_ceilings, standing_or_refusal}
use Rattle.macs_store.specs.Standing.{standing_with_rx_ceiling, standing_with_tx_ceiling}
use Rattle.macs_store.specs.Found.{StandingIs}
use Rattle.macs_store.specs.Replay.{accepted_standing, ceilings_with_records, is_raise, meaning_of, replay_of}
use Rattle.macs_store.specs.Replay.{snapshot_of, snapshot_parts, standing_after_command, standing_after_record}
use Rattle.macs_store.specs.Replay.{standing_after_records}
use Rattle.macs_store.proofs.Formats.{larger-reads, meaning-read, read-meaning}

-- what comes of something comes of what that is
and_then : {A B : Type 0} (f : A → Option B) (o : Option A) (b : B) → option_and_then f o ≡ Some b
    → (a : A) × (o ≡ Some a) × (f a ≡ Some b)
and_then f None b is = absurd (cc)
and_then f (Some a) b is = (a, refl, is)

module _ (small large : Edition) (up_to : IsUpTo small large) where
  -- a standing, in a program of the smaller edition and of the larger
  abbrev lower : Standing → Standing
  lower = standing_to small

  abbrev higher : Standing → Standing
  higher = standing_to large

  lower_is : (s : Standing) → s.edition ≡ small → s ≡ lower s
  lower_is s is = λ i. record s { edition = is i }

  -- what comes in the smaller edition is of it, and the same comes in the larger
  abbrev Rises : (by_small by_large : Option Standing) → Standing → Type 0
  Rises by_small by_large t = by_small ≡ Some t → (t.edition ≡ small) × (by_large ≡ Some (higher t))

  -- ---- the records after a snapshot

  if_made : (b : Bool) (s t : Standing) → Rises (cond b (Some (lower s)) None) (cond b (Some (higher s)) None) t
  if_made true s t is = let same : lower s ≡ t = cc in
      (sym (ap (λ (s : Standing). s.edition) same), ap (option_map higher) is)
  if_made false s t is = absurd (cc)

  by_result : (s : Standing) (command : Command) (by_small by_large : Result Config Reason)
      → ((c : Config) → by_small ≡ Ok c → by_large ≡ Ok c)
      → (t : Standing) → Rises (accepted_standing (standing_or_refusal (lower s) command by_small))
      (accepted_standing (standing_or_refusal (higher s) command by_large)) t
  by_result s command (Ok config) by_large wider t is =
      let first =
      if_made true (record s { config = config; ceilings = ceilings_after s.identity command s.ceilings }) t is in (
        first.0,
        ap (λ (made : Result Config Reason). accepted_standing (standing_or_refusal (higher s) command made))
            (wider config refl) ∙ first.1,
      )
  by_result s command (Err refusal) by_large wider t is = absurd (cc)

  by_command : (s : Standing) (command : Option Command) (t : Standing)
      → Rises (standing_after_command (lower s) command) (standing_after_command (higher s) command) t
  by_command s None t is = absurd (cc)
  by_command s (Some command) t is =
      by_result s command (apply small s.identity s.config command) (apply large s.identity s.config command)
      (λ c. larger-applies small large up_to s.identity s.config c command) t is

  by_record : (s : Standing) (r : Record) (t : Standing)
      → Rises (standing_after_record (lower s) r) (standing_after_record (higher s) r) t
  by_record s (TxCeiling an ceiling) t is =
      if_made (is_raise (s.ceilings.tx an) ceiling) (standing_with_tx_ceiling s an ceiling) t is
  by_record s (RxCeiling sci an ceiling) t is =
      if_made (is_raise (s.ceilings.rx sci an) ceiling) (standing_with_rx_ceiling s sci an ceiling) t is
  by_record s r t is = by_command s (command_of r) t is

  by_records : (s : Standing) (rs : List Record) (t : Standing)
      → Rises (standing_after_records (lower s) rs) (standing_after_records (higher s) rs) t
  by_records s [] t is = if_made true s t is
  by_records s (r ∷ rs) t is =
      let next =
      and_then (λ (next : Standing). standing_after_records next rs) (standing_after_record (lower s) r) t is in
      let first = by_record s r next.0 next.1 in
      let more = by_records next.0 rs t
      (subst (λ (s : Standing). standing_after_records s rs ≡ Some t) (lower_is next.0 first.0) next.2) in
      (more.0, ap (option_and_then (λ (next : Standing). standing_after_records next rs)) first.1 ∙ more.1)

  -- ---- the whole

  -- a configuration that a snapshot is restored to, with its identity and ceilings
  abbrev standing_in_edition : Edition → Identity → Ceilings → Config → Standing
  standing_in_edition edition identity ceilings config =
      record { edition = edition; identity = identity; config = config; ceilings = ceilings }

  by_config : (identity : Identity) (ceilings : Ceilings) (by_small by_large : Option Config)
      → ((c : Config) → by_small ≡ Some c → by_large ≡ Some c)
      → (t : Standing) → Rises (option_map (standing_in_edition small identity ceilings) by_small)
      (option_map (standing_in_edition large identity ceilings) by_large) t
  by_config identity ceilings None by_large wider t is = absurd (cc)
  by_config identity ceilings (Some config) by_large wider t is =
      let first = if_made true (standing_in_edition small identity ceilings config) t is in
      (first.0, ap (option_map (standing_in_edition large identity ceilings)) (wider config refl) ∙ first.1)

  by_parts : (identity : Identity) (ceilings : Ceilings) (parts : Option (List Part)) (t : Standing)
      → Rises (option_map (standing_in_edition small identity ceilings)
      (option_and_then (λ parts. config_of_parts small identity parts) parts))
      (option_map (standing_in_edition large identity ceilings)
      (option_and_then (λ parts. config_of_parts large identity parts) parts)) t
  by_parts identity ceilings None t is = absurd (cc)
  by_parts identity ceilings (Some parts) t is =
      by_config identity ceilings (config_of_parts small identity parts) (config_of_parts large identity parts)
      (larger-restores small large up_to identity parts) t is

  pub larger-replays : (identity : Identity) (count : ℕ) (records : List Record) (t : Standing)
      → Rises (replay_of small identity count records) (replay_of large identity count records) t
  larger-replays identity count records t is =
      let rs = take count records in
      let rest = drop count records in
      let first =
      and_then (λ (next : Standing). standing_after_records next rest) (snapshot_of small identity rs) t is in
      let restored = by_parts identity (ceilings_with_records no_ceilings rs) (snapshot_parts rs) first.0 first.1 in
      let more = by_records first.0 rest t
      (subst (λ (s : Standing). standing_after_records s rest ≡ Some t) (lower_is first.0 restored.0) first.2) in
      (more.0, ap (option_and_then (λ (next : Standing). standing_after_records next rest)) restored.1 ∙ more.1)

  -- what is found in the smaller edition is found in the larger
  pub larger-finds : (sectors : ℕ) (image : Image) (s : Standing) → StandingIs small sectors image (Ok s)
      → StandingIs large sectors image (Ok (standing_to large s))
  larger-finds sectors image s is =
      let c = is.1.content in
      let read = read-meaning small c s is.1.stands in
      let rises : meaning_of large c ≡ Some (standing_to large s) =
      meaning-read large c (larger-reads small large up_to c.head.format c.records read.0)
      ∙ (larger-replays c.head.identity c.head.count c.records s read.1).1 in
      (is.0, record { content = c; found = is.1.found; stands = rises })

-- and is of that edition
pub of-edition : (edition : Edition) (sectors : ℕ) (image : Image) (s : Standing)
    → StandingIs edition sectors image (Ok s) → s.edition ≡ edition
of-edition edition sectors image s is =
    let c = is.1.content in
    let itself : IsUpTo edition edition =
    record { channels = omega arith; long_keys = λ takes. takes; format_two = λ takes. takes } in
    (larger-replays edition edition itself c.head.identity c.head.count c.records s
    (read-meaning edition c s is.1.stands).1).0
