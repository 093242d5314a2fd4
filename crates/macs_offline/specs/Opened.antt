-- What `open` answers, and the line that it prints.
use Rattle.std.specs.Prelude.{◌≡◌, ℕ, List, ◌++◌, codes}
use Rattle.std.specs.Fmt.{decimal}
use Rattle.std.specs.Int.{w32, to_be_bytes}
use Rattle.hex.specs.Hex.{encode_lower}
use Rattle.macs_aes.specs.Keys.{octets_of_key}
use Rattle.macs_fields.specs.Fields.{octets_of}
use Rattle.macs_fields.specs.First.{IsFirst, NoneHolds}
use Rattle.macs_frame.specs.Opening.{OpenFaultHolds, Verified, open_faults}
use Rattle.macs_frame.specs.Tag.{tag_of}
use Rattle.macs_frame.specs.declared.opening.OpenFault.{OpenFault}
use Rattle.macs_frame.specs.declared.opening.OpenFault.TheVariants.{Tag, OtherSci, NotValid}
use Rattle.macs_frame.specs.declared.tag.TagFault.TheVariants.{Runt, Oversize, NoTag, BadTag, ForKay}
use Rattle.macs_cli.specs.OpenInput.{Spells}
use Rattle.macs_cli.specs.declared.open_input.OpenInput.{OpenInput}
use Rattle.macs_offline.specs.declared.opened.Opened.{Opened}
use Rattle.macs_offline.specs.declared.opened.Opened.TheVariants.{Valid, Refused}
use Rattle.macs_cli.specs.declared.status.Status.{Status}
use Rattle.macs_cli.specs.declared.status.Status.TheVariants as ends

-- ---- the answer

-- under the request's key, SCI and offset this fault of its frame applies
abbrev pub FrameFaultHolds : OpenInput → OpenFault → Type 0
FrameFaultHolds request =
    OpenFaultHolds request.frame.items (octets_of_key request.key) request.sci (octets_of request.offset)

-- no fault applies, and under the request's key, SCI and offset its frame verifies as this plain frame; its SecTAG has
-- this AN and PN
pub record OpensRequest (request : OpenInput) (an pn : ℕ) (plain : List ℕ) : Type 0 where
  pub faultless : NoneHolds (FrameFaultHolds request) open_faults
  pub verified : Verified request.frame.items (octets_of_key request.key) request.sci (octets_of request.offset) plain
  pub association : an ≡ (tag_of request.frame.items).an
  pub number : pn ≡ (tag_of request.frame.items).pn

-- the frame is opened, or refused with the first fault that applies
abbrev pub AnswersRequest : OpenInput → Opened → Type 0
AnswersRequest request (Valid an pn plain) = OpensRequest request an pn plain.items
AnswersRequest request (Refused fault) = IsFirst (FrameFaultHolds request) open_faults fault

-- the answer to the request in the input
pub record Answers (input : List ℕ) (answer : Opened) : Type 0 where
  pub request : OpenInput
  pub spelled : Spells input request
  pub answered : AnswersRequest request answer

-- ---- the line

-- the PN in eight hex digits, the plain frame in two per octet
abbrev pub valid_text : ℕ → ℕ → List ℕ → List ℕ
valid_text an pn plain = codes "valid an=" ++ (decimal an ++ (codes " pn=" ++ (encode_lower (to_be_bytes w32 pn)
    ++ (codes " plain=" ++ encode_lower plain))))

-- the text for a refused frame, by its first fault
abbrev pub refusal_text : OpenFault → List ℕ
refusal_text (Tag Runt) = codes "runt"
refusal_text (Tag Oversize) = codes "oversize"
refusal_text (Tag NoTag) = codes "no tag"
refusal_text (Tag BadTag) = codes "bad tag"
refusal_text (Tag ForKay) = codes "for kay"
refusal_text OtherSci = codes "other sci"
refusal_text NotValid = codes "not valid"

-- the text of an answer, without the line feed
abbrev pub answer_text : Opened → List ℕ
answer_text (Valid an pn plain) = valid_text an pn plain.items
answer_text (Refused fault) = refusal_text fault

-- the status of the run: Done if the frame is valid, else Refused
abbrev pub answer_status : Opened → Status
answer_status (Valid an pn plain) = ends.Done
answer_status (Refused fault) = ends.Refused
