-- What is said of a command file that was read.
use Rattle.std.proofs.Common.{◌≡◌, ◌⊎◌, ℕ, ◌++◌, ◌≤◌, List, [], length, take, Option, Some, None, IfSome}
use Rattle.std.proofs.Common.{option_map, inl, inr, length-take, ap, subst, sym, ◌∙◌, arith, string_bytes}
use Rattle.std.proofs.Common.{◌≢◌, Result, Ok, Err, IfErr}
use Rattle.toml.specs.Data.{Members}
use Rattle.toml.specs.Parse.{parse_document}
use Rattle.macs_commands.specs.Ends.{HasFileFault}
use Rattle.macs_commands.specs.declared.files.config_fault.ConfigFault.{ConfigFault}
use Rattle.macs_commands.specs.declared.files.config_fault.ConfigFault.TheVariants as config
use Rattle.macs_commands.specs.declared.files.ends.CommandFileFault.{CommandFileFault}
use Rattle.macs_commands.specs.declared.files.ends.CommandFileFault.TheVariants as told
use Rattle.std.proofs.lemmas.List.{take_all}
use Rattle.macs_config.specs.declared.command.Command.{Command}
use Rattle.macs_offline.specs.Applying.{SaidByFile, longest_file}
use Rattle.macs_offline.specs.Checking.{ComplainsOfFile, HasFault, IsSaidOfFile, IsSaidOfText, fault_text}
use Rattle.macs_offline.specs.Checking.{file_fault_text}
use Rattle.macs_cli.specs.Reasons.{Complains, IsUnread, Tells, TellsOfFile, reason_text}
use Rattle.macs_offline.specs.TomlPlaces.{not_toml_text, place_in}
use Rattle.toml.specs.Errors.{IsMemory, IsWithin}
use Rattle.toml.specs.declared.de.error.Error.{Error}
use Rattle.std.proofs.Common.{codes}
use Rattle.std.specs.declared.io.ErrorKind.{ErrorKind}
use Rattle.macs_cli.specs.declared.failure.Failure.{Failure}
use Rattle.macs_cli.specs.declared.failure.Failure.TheVariants.{Memory}

-- what holds of what is said holds of what a failure says
pub complains-weaker : (P Q : List ℕ → Type 0) (failure : Failure) → ((said : List ℕ) → P said → Q said)
    → Complains P failure → Complains Q failure
complains-weaker P Q failure weaker (inl memory) = inl memory
complains-weaker P Q failure weaker (inr (text, is, holds)) = inr (text, is, weaker (string_bytes text) holds)

-- ---- the first fault

-- this is said for the first fault of the commands of a file, which is not want of memory
abbrev pub SaidForCause : Members → ConfigFault → List ℕ → Type 0
SaidForCause file cause said = (cause ≢ config.Memory) × (said ≡ fault_text file cause)

-- so it is for that of a file
abbrev pub SaidForFault : Members → CommandFileFault → List ℕ → Type 0
SaidForFault file fault said = (fault ≢ told.Commands config.Memory) × (said ≡ file_fault_text file fault)

pub cause-said : (file : Members) (cause : ConfigFault) (failure : Failure) → cause ≢ config.Memory
    → Complains (λ said. said ≡ fault_text file cause) failure → Complains (SaidForCause file cause) failure
cause-said file cause failure other complains =
    complains-weaker (λ (said : List ℕ). said ≡ fault_text file cause) (SaidForCause file cause) failure
    (λ said is. (other, is)) complains

same-cause : (cause : ConfigFault) → told.Commands cause ≡ told.Commands config.Memory → cause ≡ config.Memory
same-cause cause is = cc

pub commands-said : (file : Members) (cause : ConfigFault) (failure : Failure)
    → Complains (SaidForCause file cause) failure
    → Complains (SaidForFault file (told.Commands cause)) failure
commands-said file cause failure complains =
    complains-weaker (SaidForCause file cause) (SaidForFault file (told.Commands cause)) failure
    (λ said is. ((λ memory. is.0 (same-cause cause memory)), is.1)) complains

no-memory : told.Sci ≢ told.Commands config.Memory
no-memory is = cc

pub sci-said : (file : Members) (failure : Failure) → Complains (λ said. said ≡ file_fault_text file told.Sci) failure
    → Complains (SaidForFault file told.Sci) failure
sci-said file failure complains =
    complains-weaker (λ (said : List ℕ). said ≡ file_fault_text file told.Sci) (SaidForFault file told.Sci) failure
    (λ said is. (no-memory, is)) complains

pub has-fault : (text : List ℕ) (members : Members) (fault : CommandFileFault) (failure : Failure)
    → parse_document text ≡ Some members → (fault ≢ told.Commands config.Memory → HasFileFault members fault)
    → Complains (SaidForFault members fault) failure → Complains (HasFault text) failure
has-fault text members fault failure parsed has complains =
    complains-weaker (SaidForFault members fault) (HasFault text) failure
    (λ said is. (members, parsed, fault, has is.0, is.1)) complains

-- ---- of a text that is no TOML

pub not-toml : (text : List ℕ) (error : Error) (failure : Failure)
    → (¬ IsMemory error → parse_document text ≡ None) → IsWithin text error
    → (failure ≡ Memory) ⊎ ((¬ IsMemory error)
    × Complains (λ said. said ≡ not_toml_text (codes "command file") (place_in text error)) failure)
    → Complains (IsSaidOfText text) failure
not-toml text error failure refused within (inl memory) = inl memory
not-toml text error failure refused within (inr (other, complains)) =
    complains-weaker (λ (said : List ℕ). said ≡ not_toml_text (codes "command file") (place_in text error))
    (IsSaidOfText text) failure (λ said is. inl (refused other, (error, within, is))) complains

-- ---- of a file that was opened

-- the same commands under another name
pub said-of : {F : Type 0} (left_in : F → Option (List ℕ)) (end : Option (List ℕ)) (given said : List Command)
    → given ≡ said → SaidByFile left_in end said → SaidByFile left_in end given
said-of left_in end given said same by_file =
    subst (λ (commands : List Command). SaidByFile left_in end commands) (sym same) by_file

-- it is not read, for this reason
pub unread-for : (word name : List ℕ) (kind : ErrorKind) (failure : Failure)
    → Complains (Tells word name (reason_text kind)) failure → Complains (TellsOfFile word name) failure
unread-for word name kind failure complains =
    complains-weaker (Tells word name (reason_text kind)) (TellsOfFile word name) failure
    (λ said is. (kind, is)) complains

module _ (IsSaid : List ℕ → List ℕ → Type 0) (name : List ℕ) where
  -- nothing could be read of it; or this is said of its octets
  abbrev pub EndsOfFile : {F : Type 0} → (F → Option (List ℕ)) → Failure → Type 0
  EndsOfFile left_in failure = IsUnread name failure
      ⊎ ((octets : List ℕ) × Complains (IsSaid octets) failure
      × ((failure ≡ Memory) ⊎ ComplainsOfFile IsSaid left_in failure))

  complained : {F : Type 0} (left_in : F → Option (List ℕ)) (file : F) (failure : Failure)
      → IsUnread name failure ⊎ IfSome (left_in file) (λ octets. Complains (IsSaid octets) failure)
      → IsUnread name failure ⊎ ((octets : List ℕ) × Complains (IsSaid octets) failure) → EndsOfFile left_in failure
  complained left_in file failure (inl unread) ended = inl unread
  complained left_in file failure (inr fault) (inl unread) = inl unread
  complained left_in file failure (inr fault) (inr (octets, complains)) = inr (octets, complains, inr (file, fault))

  -- it was opened, and no commands were read
  pub file-complained : {T F : Type 0} (left_in : F → Option (List ℕ)) (file : F) (result : Result T Failure)
      → IfErr result (λ failure. IsUnread name failure
      ⊎ IfSome (left_in file) (λ octets. Complains (IsSaid octets) failure))
      → IfErr result (λ failure. IsUnread name failure ⊎ ((octets : List ℕ) × Complains (IsSaid octets) failure))
      → IfErr result (EndsOfFile left_in)
  file-complained left_in file (Ok value) fault ended = tt
  file-complained left_in file (Err failure) fault ended = complained left_in file failure fault ended

-- ---- what was read, and the whole file

pub short-whole : (input octets : List ℕ) → input ≡ take 1048577 octets → length input ≤ longest_file → input ≡ octets
short-whole input octets read short =
    let count = length-take 1048577 octets in
    read ∙ take_all 1048577 octets (omega (arith, short, count, ap length read))

said-whole : (input octets said : List ℕ) → input ≡ take 1048577 octets → IsSaidOfFile input said
    → IsSaidOfFile octets said
said-whole input octets said read (inl (long, is)) =
    let count = length-take 1048577 octets in
    inl (omega (arith, long, count, ap length read), is)
said-whole input octets said read (inr (inl (short, other, is))) =
    subst (λ (x : List ℕ). IsSaidOfFile x said) (short-whole input octets read short) (inr (inl (short, other, is)))
said-whole input octets said read (inr (inr (short, utf8, is))) =
    subst (λ (x : List ℕ). IsSaidOfFile x said) (short-whole input octets read short) (inr (inr (short, utf8, is)))

-- what is said of what was read is said of the file
pub complains-read : (remaining : Option (List ℕ)) (input : List ℕ) (failure : Failure)
    → IfSome (option_map (take 1048577) remaining) (λ octets. input ≡ [] ++ octets)
    → Complains (IsSaidOfFile input) failure → IfSome remaining (λ octets. Complains (IsSaidOfFile octets) failure)
complains-read None input failure read complains = tt
complains-read (Some octets) input failure read complains =
    complains-weaker (IsSaidOfFile input) (IsSaidOfFile octets) failure
    (λ said is. said-whole input octets said read is) complains
