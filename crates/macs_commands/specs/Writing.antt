-- Commands as a command file.
use Rattle.std.specs.Prelude.{◌≡◌, ℕ, pos, codes, false, List, [], ◌∷◌, Some, Ok}
use Rattle.std.specs.Cmp.Lexicographic.{slice_cmp}
use Rattle.std.specs.Ordering.{match_ordering, nat_cmp}
use Rattle.hex.specs.Hex.{encode_lower}
use Rattle.toml.specs.Data.{Data, Items, Members, array, boolean, integer, item, member, no_items, no_members, string}
use Rattle.toml.specs.Data.{table}
use Rattle.toml.specs.Parse.{parse_document}
use Rattle.toml.specs.Text.{IsDocumentText}
use Rattle.macs_aes.specs.Keys.{octets_of_key}
use Rattle.macs_config.specs.declared.command.Command.{Command}
use Rattle.macs_config.specs.declared.command.Command.TheVariants.{SetValidate, SetReplay, SetSciMode, TxInstall, TxUse}
use Rattle.macs_config.specs.declared.command.Command.TheVariants.{TxRemove, RxAdd, RxDrop, RxInstall, RxRemove}
use Rattle.macs_commands.specs.Ends.{end_commands, end_in}
use Rattle.macs_commands.specs.Planning.{planned, sci_of}
use Rattle.macs_commands.specs.Reading.{file_link}
use Rattle.macs_commands.specs.Words.{sci_mode_word, validate_word, word_text}
use Rattle.macs_commands.specs.declared.command_word.CommandWord.TheVariants as word
use Rattle.macs_commands.specs.declared.links.link.End.{End}
use Rattle.macs_commands.specs.declared.links.link.Link.{Link}
use Rattle.macs_commands.specs.declared.links.planning.Stage.{Stage}

-- ---- values

-- a number
abbrev pub number : ℕ → Data
number n = integer (pos n)

-- octets as hex digits, two for each
abbrev pub digits : List ℕ → Data
digits octets = string (encode_lower octets)

-- ---- tables

-- the table of a command, its keys in the order of their octets
abbrev pub table_of : Command → Members
table_of (SetValidate mode) =
    member (codes "do") (string (word_text word.SetValidate))
    (member (codes "mode") (string (validate_word mode)) no_members)
table_of (SetReplay on window) =
    member (codes "do") (string (word_text word.SetReplay)) (member (codes "on") (boolean on)
    (member (codes "window") (number window) no_members))
table_of (SetSciMode mode) =
    member (codes "do") (string (word_text word.SetSciMode))
    (member (codes "mode") (string (sci_mode_word mode)) no_members)
table_of (TxInstall an key start confidential offset) =
    member (codes "an") (number an) (member (codes "confidential") (boolean confidential)
    (member (codes "do") (string (word_text word.TxInstall)) (member (codes "key") (digits (octets_of_key key))
    (member (codes "offset") (number offset) (member (codes "start") (number start) no_members)))))
table_of (TxUse an) = member (codes "an") (number an) (member (codes "do") (string (word_text word.TxUse)) no_members)
table_of (TxRemove an) =
    member (codes "an") (number an) (member (codes "do") (string (word_text word.TxRemove)) no_members)
table_of (RxAdd sci) =
    member (codes "do") (string (word_text word.RxAdd)) (member (codes "sci") (digits sci) no_members)
table_of (RxDrop sci) =
    member (codes "do") (string (word_text word.RxDrop)) (member (codes "sci") (digits sci) no_members)
table_of (RxInstall sci an key start offset) =
    member (codes "an") (number an) (member (codes "do") (string (word_text word.RxInstall))
    (member (codes "key") (digits (octets_of_key key)) (member (codes "offset") (number offset)
    (member (codes "sci") (digits sci) (member (codes "start") (number start) no_members)))))
table_of (RxRemove sci an) =
    member (codes "an") (number an) (member (codes "do") (string (word_text word.RxRemove))
    (member (codes "sci") (digits sci) no_members))

-- the tables of commands
abbrev pub tables_of : List Command → Items
tables_of [] = no_items
tables_of (command ∷ commands) = item (table (table_of command)) (tables_of commands)

-- the members of a whole command file, which is for the end with this SCI
abbrev pub file_of : List ℕ → List Command → Members
file_of sci commands =
    member (codes "command") (array (tables_of commands)) (member (codes "sci") (digits sci) no_members)

-- a text is written for these members, and is read as them
abbrev pub IsTextOf : Members → List ℕ → Type 0
IsTextOf members text = IsDocumentText false members text × (parse_document text ≡ Some members)

-- a text is the command file of these commands for the end with this SCI: it is written from them, and it is read back
-- as exactly these, and as for this end
pub record SaysCommands (sci : List ℕ) (commands : List Command) (text : List ℕ) : Type 0 where
  pub written : IsDocumentText false (file_of sci commands) text
  pub read : parse_document text ≡ Some (file_of sci commands)
  pub taken : end_commands (file_of sci commands) ≡ Ok commands
  pub end : end_in (file_of sci commands) ≡ Ok (Some sci)

-- a text is the command file planned at an end of a link, for that end
abbrev pub PlansLinkText : Link → End → Stage → List ℕ → Type 0
PlansLinkText link end stage text =
    (commands : List Command) × (planned link end stage ≡ Ok commands) × SaysCommands (sci_of link end) commands text

-- the same for the link in a file
abbrev pub PlansText : Members → End → Stage → List ℕ → Type 0
PlansText members end stage text =
    (link : Link) × (file_link members ≡ Ok link) × PlansLinkText link end stage text

-- ---- building a table

-- the members with a value at a key
abbrev pub put_member : List ℕ → Data → Members → Members
put_member key value no_members = member key value no_members
put_member key value (member other old members) =
    match_ordering (slice_cmp nat_cmp key other) (member key value (member other old members))
    (member other value members)
    (member other old (put_member key value members))
