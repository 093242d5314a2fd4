-- What a journal stands for after a compaction with a snapshot of what it stood for.
use Rattle.std.proofs.Common.{◌≡◌, ◌∙◌, if◌then◌else◌, ◌∷◌, true, List, [], length, take, drop, Option, Some, ap, sym}
use Rattle.std.proofs.Common.{arith, Bool, false, None, Result, Ok, Err, refl}
use Rattle.std.specs.Option.{option_and_then, option_map}
use Rattle.std.proofs.lemmas.List.{drop_all, take_all}
use Rattle.macs_config.specs.Config.{Edition, Config}
use Rattle.macs_config.specs.Apply.{Reason, apply}
use Rattle.macs_config.specs.Identity.{Identity}
use Rattle.macs_config.specs.Snapshot.{config_of_parts}
use Rattle.macs_config.specs.declared.command.Command.{Command}
use Rattle.macs_record.specs.declared.record.Record.TheVariants.{RxCeiling, TxCeiling}
use Rattle.macs_journal.specs.Compacted.{compacted}
use Rattle.macs_journal.specs.Found.{Content}
use Rattle.macs_record.specs.declared.record.Record.{Record}
use Rattle.macs_store.specs.Replay.{meaning_of, snapshot_of, standing_after_records, accepted_standing}
use Rattle.macs_store.specs.Replay.{ceilings_with_records, is_raise, snapshot_parts, standing_after_command}
use Rattle.macs_store.specs.Replay.{standing_after_record}
use Rattle.macs_store.specs.Standing.{Standing, Ceilings, no_ceilings, standing_or_refusal, standing_with_rx_ceiling}
use Rattle.macs_store.specs.Standing.{standing_with_tx_ceiling}
use Rattle.macs_store.specs.Commands.{command_of}
use Rattle.macs_store.proofs.Formats.{meaning-read, two-read, read-meaning}

-- ---- what a journal stands for has the identity of its head

-- the identity of what there is
abbrev identity_in : Option Standing → Option Identity
identity_in o = option_map (λ (s : Standing). s.identity) o

accepted-identity : (s t : Standing) (command : Command) (result : Result Config Reason)
    → accepted_standing (standing_or_refusal s command result) ≡ Some t → t.identity ≡ s.identity
accepted-identity s t command (Ok config) is = let same = ap identity_in is in cc
accepted-identity s t command (Err refusal) is = cc

command-identity : (s t : Standing) (command : Option Command) → standing_after_command s command ≡ Some t
    → t.identity ≡ s.identity
command-identity s t None is = cc
command-identity s t (Some command) is = accepted-identity s t command (apply s.edition s.identity s.config command) is

raise-identity : (test : Bool) (s raised t : Standing) → raised.identity ≡ s.identity
    → (if test then Some raised else None) ≡ Some t → t.identity ≡ s.identity
raise-identity true s raised t same is = let there = ap identity_in is in cc
raise-identity false s raised t same is = cc

record-identity : (s t : Standing) (r : Record) → standing_after_record s r ≡ Some t → t.identity ≡ s.identity
record-identity s t (TxCeiling an ceiling) is =
    raise-identity (is_raise (s.ceilings.tx an) ceiling) s (standing_with_tx_ceiling s an ceiling) t refl is
record-identity s t (RxCeiling sci an ceiling) is =
    raise-identity (is_raise (s.ceilings.rx sci an) ceiling) s (standing_with_rx_ceiling s sci an ceiling) t refl is
record-identity s t r is = command-identity s t (command_of r) is

then-identity : (identity : Identity) (o : Option Standing) (t : Standing) (rs : List Record)
    → ((s : Standing) → o ≡ Some s → s.identity ≡ identity)
    → ((s : Standing) → standing_after_records s rs ≡ Some t → t.identity ≡ s.identity)
    → option_and_then (λ s. standing_after_records s rs) o ≡ Some t → t.identity ≡ identity
then-identity identity None t rs first later is = cc
then-identity identity (Some s) t rs first later is = later s is ∙ first s refl

records-identity : (s t : Standing) (rs : List Record) → standing_after_records s rs ≡ Some t → t.identity ≡ s.identity
records-identity s t [] is = let same = ap identity_in is in cc
records-identity s t (r ∷ rs) is =
    then-identity s.identity (standing_after_record s r) t rs (λ next. record-identity s next r)
    (λ next. records-identity next t rs) is

mapped-identity : (edition : Edition) (identity : Identity) (k : Ceilings) (o : Option Config) (s : Standing)
    → option_map (λ (config : Config). record {
      edition = edition;
      identity = identity;
      config = config;
      ceilings =
          k;
    }) o ≡ Some s → s.identity ≡ identity
mapped-identity edition identity k None s is = cc
mapped-identity edition identity k (Some config) s is = let same = ap identity_in is in cc

meaning-identity : (edition : Edition) (c : Content) (s : Standing) → meaning_of edition c ≡ Some s
    → s.identity ≡ c.head.identity
meaning-identity edition c s is =
    let identity = c.head.identity in
    let records = take c.head.count c.records in
    then-identity identity (snapshot_of edition identity records) s (drop c.head.count c.records)
    (λ first. mapped-identity edition identity (ceilings_with_records no_ceilings records)
    (option_and_then (λ parts. config_of_parts edition identity parts) (snapshot_parts records)) first)
    (λ first. records-identity first s (drop c.head.count c.records)) (read-meaning edition c s is).1

-- ---- after a compaction

-- what a journal stands for after a compaction with a snapshot of a standing of the same identity
pub meaning-snapshot : (edition : Edition) (c : Content) (s t : Standing) (records : List Record)
    → edition.format_two ≡ true → meaning_of edition c ≡ Some s
    → snapshot_of edition s.identity records ≡ Some t → meaning_of edition (compacted c records) ≡ Some t
meaning-snapshot edition c s t records takes_two is stands =
    let whole : take (length records) records ≡ records = take_all (length records) records (omega arith) in
    let none : drop (length records) records ≡ [] = drop_all (length records) records (omega arith) in
    let same : c.head.identity ≡ s.identity = sym (meaning-identity edition c s is) in
    meaning-read edition (compacted c records) (two-read edition takes_two)
    ∙ (λ i. option_and_then (λ s. standing_after_records s (none i)) (snapshot_of edition (same i) (whole i)))
    ∙ ap (λ (o : Option Standing). option_and_then (λ s. standing_after_records s []) o) stands

-- the same with a snapshot of what it stood for
pub meaning-compacted : (edition : Edition) (c : Content) (s : Standing) (records : List Record)
    → edition.format_two ≡ true → meaning_of edition c ≡ Some s
    → snapshot_of edition s.identity records ≡ Some s → meaning_of edition (compacted c records) ≡ Some s
meaning-compacted edition c s records takes_two is stands = meaning-snapshot edition c s s records takes_two is stands
