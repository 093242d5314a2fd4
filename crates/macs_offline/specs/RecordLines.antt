-- The records of a journal by kind, and how many there are of each.
use Rattle.std.specs.Prelude.{◌++◌, ◌==◌, if◌then◌else◌, ℕ, List, [], ◌∷◌, length, map, filter, codes}
use Rattle.std.specs.Fmt.{decimal}
use Rattle.std.specs.List.{concat}
use Rattle.std.specs.Str.{bytes_eq}
use Rattle.macs_record.specs.declared.record.Record.{Record}
use Rattle.macs_record.specs.declared.record.Record.TheVariants.{Settings, TxSa, Channel, RxSa, Spent, SetValidate}
use Rattle.macs_record.specs.declared.record.Record.TheVariants.{SetReplay, SetSciMode, TxInstall, TxUse, TxRemove}
use Rattle.macs_record.specs.declared.record.Record.TheVariants.{RxAdd, RxDrop, RxInstall, RxRemove, TxCeiling}
use Rattle.macs_record.specs.declared.record.Record.TheVariants.{RxCeiling}
use Rattle.macs_texts.specs.Lines.{line}

-- the word for a record: the part of a snapshot, the command as spelled in a command file, or a ceiling; the same for
-- either key length
abbrev pub record_word : Record → List ℕ
record_word (Settings validate replay mode encoding) = codes "settings"
record_word (TxSa an sa ceiling) = codes "tx-sa"
record_word (Channel sci) = codes "channel"
record_word (RxSa sci an sa ceiling) = codes "rx-sa"
record_word (Spent role fingerprints) = codes "spent"
record_word (SetValidate validate) = codes "set-validate"
record_word (SetReplay replay) = codes "set-replay"
record_word (SetSciMode mode) = codes "set-sci-mode"
record_word (TxInstall an sa start) = codes "tx-install"
record_word (TxUse an) = codes "tx-use"
record_word (TxRemove an) = codes "tx-remove"
record_word (RxAdd sci) = codes "rx-add"
record_word (RxDrop sci) = codes "rx-drop"
record_word (RxInstall sci an sa start) = codes "rx-install"
record_word (RxRemove sci an) = codes "rx-remove"
record_word (TxCeiling an ceiling) = codes "tx-ceiling"
record_word (RxCeiling sci an ceiling) = codes "rx-ceiling"

-- each word once, in the order of the record kinds
abbrev pub record_words : List (List ℕ)
record_words =
    codes "settings" ∷ codes "tx-sa" ∷ codes "channel" ∷ codes "rx-sa" ∷ codes "spent" ∷ codes "set-validate"
    ∷ codes "set-replay" ∷ codes "set-sci-mode" ∷ codes "tx-install" ∷ codes "tx-use" ∷ codes "tx-remove"
    ∷ codes "rx-add" ∷ codes "rx-drop" ∷ codes "rx-install" ∷ codes "rx-remove" ∷ codes "tx-ceiling"
    ∷ codes "rx-ceiling" ∷ []

-- the records with this word
abbrev pub records_with : List ℕ → List Record → List Record
records_with word records = filter (λ r. bytes_eq (record_word r) word) records

-- the line of a word and its count, if the count is not zero
abbrev pub count_line : List ℕ → ℕ → List ℕ
count_line word n = if n == 0 then [] else line (codes "records " ++ (word ++ (codes " " ++ decimal n)))

-- the line of this word for these records
abbrev pub record_line : List Record → List ℕ → List ℕ
record_line records word = count_line word (length (records_with word records))

-- a line for each word that some record has, with the count
abbrev pub records_text : List Record → List ℕ
records_text records = concat (map (record_line records) record_words)
