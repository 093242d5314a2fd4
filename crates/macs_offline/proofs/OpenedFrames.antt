-- An answer from what opening the frame said, over the key and the octets that it was called with.
use Rattle.std.proofs.Common.{◌≡◌, ℕ, List, subst}
use Rattle.macs_aes.specs.Keys.{octets_of_key}
use Rattle.macs_fields.specs.Fields.{octets_of}
use Rattle.macs_fields.specs.First.{IsFirst, NoneHolds}
use Rattle.macs_frame.specs.Opening.{OpenFaultHolds, Verified, open_faults}
use Rattle.macs_frame.specs.Tag.{tag_of}
use Rattle.macs_frame.specs.declared.opening.OpenFault.{OpenFault}
use Rattle.macs_offline.specs.Opened.{AnswersRequest, OpensRequest}
use Rattle.macs_offline.specs.declared.opened.Opened.TheVariants.{Refused}
use Rattle.macs_cli.specs.declared.open_input.OpenInput.{OpenInput}
use Rattle.macs_cli.proofs.FirstFault.{nothing_first}

-- what holds at a key and a frame holds at equal ones
at_same : (P : List ℕ → List ℕ → Type 0) (key other_key frame other_frame : List ℕ) → key ≡ other_key
    → frame ≡ other_frame
    → P key frame → P other_key other_frame
at_same P key other_key frame other_frame same_key same_frame held =
    let at_key = subst (λ (k : List ℕ). P k frame) same_key held in
    subst (λ (f : List ℕ). P other_key f) same_frame at_key

-- a frame that was verified, with no fault that holds, is opened
pub opens : (request : OpenInput) (key frame plain : List ℕ) (an pn : ℕ) → key ≡ octets_of_key request.key
    → frame ≡ request.frame.items
    → ((fault : OpenFault)
    → ¬ IsFirst (OpenFaultHolds frame key request.sci (octets_of request.offset)) open_faults fault)
    → Verified frame key request.sci (octets_of request.offset) plain → an ≡ (tag_of frame).an → pn ≡ (tag_of frame).pn
    → OpensRequest request an pn plain
opens request key frame plain an pn same_key same_frame none verified association number =
    let offset = octets_of request.offset in
    record {
      faultless = at_same (λ (k f : List ℕ). NoneHolds (OpenFaultHolds f k request.sci offset) open_faults) _ _ _ _
          same_key same_frame (nothing_first (OpenFaultHolds frame key request.sci offset) open_faults none);
      verified = at_same (λ (k f : List ℕ). Verified f k request.sci offset plain) _ _ _ _ same_key same_frame verified;
      association = at_same (λ (k f : List ℕ). an ≡ (tag_of f).an) _ _ _ _ same_key same_frame association;
      number = at_same (λ (k f : List ℕ). pn ≡ (tag_of f).pn) _ _ _ _ same_key same_frame number;
    }

-- a frame is refused for the fault that was the first
pub refused : (request : OpenInput) (key frame : List ℕ) (fault : OpenFault) → key ≡ octets_of_key request.key
    → frame ≡ request.frame.items
    → IsFirst (OpenFaultHolds frame key request.sci (octets_of request.offset)) open_faults fault
    → AnswersRequest request (Refused fault)
refused request key frame fault same_key same_frame first =
    at_same (λ (k f : List ℕ).
    IsFirst (OpenFaultHolds f k request.sci (octets_of request.offset)) open_faults fault) _ _ _ _
    same_key same_frame first
