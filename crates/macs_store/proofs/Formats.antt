-- Which areas an edition reads.
use Rattle.std.proofs.Common.{◌≡◌, ◌&&◌, Bool, true, false, cond, refl, ap, List, Option, Some, None}
use Rattle.macs_config.specs.Config.{Edition, IsUpTo}
use Rattle.macs_journal.specs.Found.{Content}
use Rattle.macs_record.specs.declared.format.Format.{Format}
use Rattle.macs_record.specs.declared.format.Format.TheVariants.{One, Two}
use Rattle.macs_record.specs.declared.record.Record.{Record}
use Rattle.macs_store.specs.Replay.{meaning_of, reads_all, replay_of}
use Rattle.macs_store.specs.Standing.{Standing}

-- an area that is read stands for what its records do
pub meaning-read : (edition : Edition) (c : Content) → reads_all edition c.head.format c.records ≡ true
    → meaning_of edition c ≡ replay_of edition c.head.identity c.head.count c.records
meaning-read edition c read =
    ap (λ (b : Bool). cond b (replay_of edition c.head.identity c.head.count c.records) None) read

by_read : (b : Bool) (o : Option Standing) (s : Standing) → cond b o None ≡ Some s → (b ≡ true) × (o ≡ Some s)
by_read true o s is = (refl, is)
by_read false o s is = absurd cc

-- an area that stands for something is read, and its records stand for it
pub read-meaning : (edition : Edition) (c : Content) (s : Standing) → meaning_of edition c ≡ Some s
    → (reads_all edition c.head.format c.records ≡ true)
    × (replay_of edition c.head.identity c.head.count c.records ≡ Some s)
read-meaning edition c s is =
    by_read (reads_all edition c.head.format c.records) (replay_of edition c.head.identity c.head.count c.records) s is

-- in format two each record is read, where the edition reads any
pub two-read : (edition : Edition) → edition.format_two ≡ true → (edition.format_two && true) ≡ true
two-read edition takes_two = ap (λ (b : Bool). b && true) takes_two

-- and others where some are
pub others-read : (edition : Edition) (format : Format) (records others : List Record) → format ≡ Two
    → reads_all edition format records ≡ true
    → reads_all edition format others ≡ true
others-read edition One records others two read = absurd (cc)
others-read edition Two records others two read = read

reads_two : (b : Bool) → (b && true) ≡ true → b ≡ true
reads_two true is = refl
reads_two false is = is

-- an edition that takes as much or more reads it too
pub larger-reads : (small large : Edition) → IsUpTo small large → (format : Format) (records : List Record)
    → reads_all small format records ≡ true
    → reads_all large format records ≡ true
larger-reads small large up_to One records read = read
larger-reads small large up_to Two records read = two-read large (up_to.format_two (reads_two small.format_two read))
