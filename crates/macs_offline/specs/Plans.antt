-- What `plan` prints for a link file, and its message if there is no plan.
use Rattle.std.specs.Prelude.{◌≡◌, ◌⊎◌, ◌<◌, ◌≤◌, ◌++◌, ℕ, List, length, codes, Option, Some, None, Err}
use Rattle.std.specs.Prelude.{IfSome}
use Rattle.std.specs.Fmt.{decimal}
use Rattle.std.specs.Io.KnownBytes.{Appends}
use Rattle.std.specs.Str.{IsUtf8}
use Rattle.toml.specs.Data.{Members}
use Rattle.toml.specs.Parse.{parse_document}
use Rattle.macs_commands.specs.Planning.{file_planned}
use Rattle.macs_commands.specs.Writing.{PlansText}
use Rattle.macs_commands.specs.declared.links.link.End.{End}
use Rattle.macs_commands.specs.declared.links.plan_fault.Place.{Place}
use Rattle.macs_commands.specs.declared.links.plan_fault.Place.TheVariants as place
use Rattle.macs_commands.specs.declared.links.plan_fault.PlanFault.{PlanFault}
use Rattle.macs_commands.specs.declared.links.plan_fault.PlanFault.TheVariants as plan
use Rattle.macs_commands.specs.declared.links.plan_fault.ValueName.{ValueName}
use Rattle.macs_commands.specs.declared.links.plan_fault.ValueName.TheVariants as name
use Rattle.macs_commands.specs.declared.links.planning.Stage.{Stage}
use Rattle.macs_offline.specs.Applying.{longest_file}
use Rattle.macs_cli.specs.Reasons.{Complains, IsLinkUnread}
use Rattle.macs_offline.specs.TomlPlaces.{SaysNotToml}
use Rattle.macs_cli.specs.declared.failure.Failure.{Failure}
use Rattle.macs_cli.specs.declared.failure.Failure.TheVariants as failures
use Rattle.macs_cli.specs.declared.failure.LinkRefusal.{LinkRefusal}
use Rattle.macs_cli.specs.declared.failure.LinkRefusal.TheVariants as wrong

-- ---- messages

-- a key of a table, as it is spelled
abbrev pub name_word : ValueName → List ℕ
name_word name.Sci = codes "sci"
name_word name.An = codes "an"
name_word name.Left = codes "left"
name_word name.Right = codes "right"

-- what its value should be and is not
abbrev pub name_reason : ValueName → List ℕ
name_reason name.Sci = codes "not 16 hex digits"
name_reason name.An = codes "not 0 to 3"
name_reason name.Left = codes "not 32 or 64 hex digits"
name_reason name.Right = codes "not 32 or 64 hex digits"

-- a value, by its place, key and reason
abbrev pub value_text : Place → ValueName → List ℕ
value_text place.Left name = codes "left " ++ (name_word name ++ (codes ": " ++ name_reason name))
value_text place.Right name = codes "right " ++ (name_word name ++ (codes ": " ++ name_reason name))
value_text (place.Key at) name =
    codes "key " ++ (decimal at ++ (codes " " ++ (name_word name ++ (codes ": " ++ name_reason name))))

-- an unknown key, by its place
abbrev pub extra_text : Place → List ℕ
extra_text place.Left = codes "left: a key that it does not have"
extra_text place.Right = codes "right: a key that it does not have"
extra_text (place.Key at) = codes "key " ++ (decimal at ++ codes ": a key that it does not have")

-- the first fault of a link file
abbrev pub plan_fault_text : PlanFault → List ℕ
plan_fault_text plan.Shape = codes "link file: not [left], [right] and tables [[key]] alone"
plan_fault_text (plan.Value place name) = value_text place name
plan_fault_text (plan.Extra place) = extra_text place
plan_fault_text plan.SameSci = codes "same sci"
plan_fault_text plan.SameKey = codes "same key"
plan_fault_text plan.AnInUse = codes "an in use"
plan_fault_text plan.OneKey = codes "one key"
plan_fault_text plan.Memory = codes "memory"

-- the refusal of the link for this fault, if it is one
abbrev pub link_refusal : PlanFault → Option LinkRefusal
link_refusal plan.SameSci = Some wrong.SameSci
link_refusal plan.SameKey = Some wrong.SameKey
link_refusal plan.AnInUse = Some wrong.AnInUse
link_refusal fault = None

-- ---- of the octets of a file

-- octets are a link file, and this text is the command file planned from it
pub record PlansFile (end : End) (stage : Stage) (octets text : List ℕ) : Type 0 where
  pub short : length octets ≤ longest_file
  pub utf8 : IsUtf8 octets
  pub members : Members
  pub parsed : parse_document octets ≡ Some members
  pub planned : PlansText members end stage text

-- no plan can be made from a text, because of this fault
abbrev pub HasPlanFault : End → Stage → List ℕ → PlanFault → Type 0
HasPlanFault end stage text fault =
    (members : Members) × (parse_document text ≡ Some members) × (file_planned members end stage ≡ Err fault)

-- the message about a text: it is not TOML, or has a fault that is no refusal of the link
abbrev pub IsSaidOfLinkText : End → Stage → List ℕ → List ℕ → Type 0
IsSaidOfLinkText end stage text said = ((parse_document text ≡ None) × SaysNotToml (codes "link file") text said)
    ⊎ ((fault : PlanFault) × HasPlanFault end stage text fault × (link_refusal fault ≡ None)
    × (said ≡ plan_fault_text fault))

-- a text is a link that is refused with this refusal
abbrev pub RefusesLinkText : End → Stage → List ℕ → LinkRefusal → Type 0
RefusesLinkText end stage text refusal =
    (fault : PlanFault) × HasPlanFault end stage text fault × (link_refusal fault ≡ Some refusal)

-- the message about octets: there are too many, they are not UTF-8, or the message about their text
abbrev pub IsSaidOfLink : End → Stage → List ℕ → List ℕ → Type 0
IsSaidOfLink end stage octets said =
    ((longest_file < length octets) × (said ≡ codes "link file: more than 1048576 octets"))
    ⊎ ((length octets ≤ longest_file) × (¬ IsUtf8 octets) × (said ≡ codes "link file: not UTF-8"))
    ⊎ ((length octets ≤ longest_file) × IsUtf8 octets × IsSaidOfLinkText end stage octets said)

-- octets are a link that is refused with this refusal
abbrev pub RefusesLink : End → Stage → List ℕ → LinkRefusal → Type 0
RefusesLink end stage octets refusal =
    (length octets ≤ longest_file) × IsUtf8 octets × RefusesLinkText end stage octets refusal

-- a failure is a refusal of a link that satisfies this predicate
abbrev pub RefusesSo : (LinkRefusal → Type 0) → Failure → Type 0
RefusesSo Refuses failure = (refusal : LinkRefusal) × (failure ≡ failures.Link refusal) × Refuses refusal

-- a failure reports why a text has no plan: a message about it, or the refusal of its link, or out of memory
abbrev pub SaysWhyOfText : End → Stage → List ℕ → Failure → Type 0
SaysWhyOfText end stage text failure = Complains (IsSaidOfLinkText end stage text) failure
    ⊎ RefusesSo (RefusesLinkText end stage text) failure

-- and the same for octets
abbrev pub SaysWhy : End → Stage → List ℕ → Failure → Type 0
SaysWhy end stage octets failure =
    Complains (IsSaidOfLink end stage octets) failure ⊎ RefusesSo (RefusesLink end stage octets) failure

-- ---- of a file, whose unread octets `left_in` gives, where known

-- this text is the command file planned from a file
abbrev pub IsPlanOfFile : {F : Type 0} → (F → Option (List ℕ)) → End → Stage → List ℕ → Type 0
IsPlanOfFile {F} left_in end stage text =
    (file : F) × IfSome (left_in file) (λ octets. PlansFile end stage octets text)

-- the command file planned from a file is printed
abbrev pub PrintsPlan : {F : Type 0} → (F → Option (List ℕ)) → End → Stage → Option (List ℕ) → Option (List ℕ)
    → Type 0
PrintsPlan left_in end stage before after =
    (octets : List ℕ) × (text : List ℕ) × PlansFile end stage octets text × IsPlanOfFile left_in end stage text
    × Appends before after text

-- a failure reports why a file has no plan
abbrev pub SaysWhyOfFile : {F : Type 0} → (F → Option (List ℕ)) → End → Stage → Failure → Type 0
SaysWhyOfFile {F} left_in end stage failure =
    (file : F) × IfSome (left_in file) (λ octets. SaysWhy end stage octets failure)

-- the file with this name is not read; or the output cannot be written; or its octets have a message or its link is
-- refused, or memory runs out
abbrev pub PlanFails : {F : Type 0} → (F → Option (List ℕ)) → List ℕ → End → Stage → Failure → Type 0
PlanFails left_in name end stage failure = IsLinkUnread name failure ⊎ (failure ≡ failures.Output)
    ⊎ ((octets : List ℕ) × SaysWhy end stage octets failure
    × ((failure ≡ failures.Memory) ⊎ SaysWhyOfFile left_in end stage failure))
