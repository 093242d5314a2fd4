-- The faults of a frame that is not opened, in their order.
use Rattle.std.proofs.Common.{◌≡◌, ◌≢◌, ◌↔◌, ℕ, Bool, true, false, List, [], ◌∷◌, inl, inr, refl, ap, subst, arith}
use Rattle.std.specs.Prelude.{IsTrue, IsSomeAnd}
use Rattle.macs_frame.specs.declared.tag.Parts.{Parts}
use Rattle.macs_frame.specs.declared.tag.SecTag.{SecTag}
use Rattle.macs_frame.specs.declared.tag.TagFault.{TagFault}
use Rattle.macs_frame.specs.declared.opening.OpenFault.{OpenFault}
use Rattle.macs_frame.specs.declared.opening.OpenFault.TheVariants.{Tag as TagRefused, OtherSci, NotValid}
use Rattle.macs_fields.specs.First.{IsFirst, NoneHolds}
use Rattle.macs_frame.specs.Opening.{OpenFaultHolds, OpensTo, Verified, named_sci, open_faults}
use Rattle.macs_frame.specs.Tag.{IsForKay, Tag, TagFaultHolds, tag_faults}
use Rattle.macs_fields.proofs.FirstRefusal.{first-map-append, first-behind, none-map-append}
use Rattle.macs_frame.proofs.Readings.{verified_by_its_parts}

-- the faults after those of the tag
abbrev later_faults : List OpenFault
later_faults = OtherSci ∷ NotValid ∷ []

-- a frame that has parts for this endpoint has no fault of its tag
pub no_tag_fault : (frame : List ℕ) (parts : Parts) → Tag frame parts × (¬ IsForKay frame)
    → NoneHolds (TagFaultHolds frame) tag_faults
no_tag_fault frame parts (tag, kay) =
    (λ runt. omega arith, (λ oversize. omega arith, (λ no. no tag.tagged, (λ bad. bad tag.reading.good, (kay, tt)))))

module _ (frame key sci : List ℕ) (offset : ℕ) where
  -- the first fault of the tag is the first of all
  pub first_tag_fault : (fault : TagFault) → IsFirst (TagFaultHolds frame) tag_faults fault
      → IsFirst (OpenFaultHolds frame key sci offset) open_faults (TagRefused fault)
  first_tag_fault fault first =
      first-map-append (OpenFaultHolds frame key sci offset) TagRefused tag_faults later_faults fault first

  -- a frame whose parts open is verified
  pub verified : (parts : Parts) → Tag frame parts × (¬ IsForKay frame) → (plain : List ℕ)
      → OpensTo frame key sci offset parts plain → Verified frame key sci offset plain
  verified parts read plain opens = (verified_by_its_parts frame key sci offset parts plain read.0 read.1).1 opens

  -- what follows once the parts are read, and it is known whether they name another SCI
  module _ (parts : Parts) (read : Tag frame parts × (¬ IsForKay frame)) (other : Bool)
      (is_other : IsTrue other ↔ IsSomeAnd (named_sci frame parts.tag.name) (λ named. named ≢ sci)) where
    -- the SCI that the parts name is the one that the frame names
    names_other : IsTrue other ↔ OpenFaultHolds frame key sci offset OtherSci
    names_other = subst (λ name. IsTrue other ↔ IsSomeAnd (named_sci frame name) (λ named. named ≢ sci))
        (ap (λ (t : SecTag). t.name) read.0.reading.tag) is_other

    same_sci : other ≡ false → ¬ OpenFaultHolds frame key sci offset OtherSci
    same_sci same = λ differs. let yes = names_other.1 differs in cc

    -- another SCI is the first fault
    pub first_other_sci : other ≡ true → IsFirst (OpenFaultHolds frame key sci offset) open_faults OtherSci
    first_other_sci differs =
        first-behind (OpenFaultHolds frame key sci offset) TagRefused tag_faults later_faults OtherSci
        (no_tag_fault frame parts read) (inl (names_other.0 differs, refl))

    -- else that the parts open to nothing is
    pub first_not_valid : other ≡ false → ((plain : List ℕ) → ¬ OpensTo frame key sci offset parts plain)
        → IsFirst (OpenFaultHolds frame key sci offset) open_faults NotValid
    first_not_valid same closed =
        let wrong : OpenFaultHolds frame key sci offset NotValid = λ plain found.
        closed plain ((verified_by_its_parts frame key sci offset parts plain read.0 read.1).0 found) in
        first-behind (OpenFaultHolds frame key sci offset) TagRefused tag_faults later_faults NotValid
        (no_tag_fault frame parts read)
        (inr (same_sci same, inl (wrong, refl)))

    -- else there is no fault
    pub no_fault : other ≡ false → (plain : List ℕ) → OpensTo frame key sci offset parts plain
        → NoneHolds (OpenFaultHolds frame key sci offset) open_faults
    no_fault same plain opens =
        none-map-append (OpenFaultHolds frame key sci offset) TagRefused tag_faults later_faults
        (no_tag_fault frame parts read)
        (same_sci same, (λ wrong. wrong plain (verified parts read plain opens), tt))
