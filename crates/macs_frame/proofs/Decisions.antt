-- Whether a frame has a reading, and whether it is verified, is decided.
use Rattle.std.proofs.Common.{◌≡◌, ◌≤◌, ◌<◌, ◌⊎◌, ◌&&◌, ℕ, Bool, true, false, List, [], ◌∷◌, length, slice_index, inl}
use Rattle.std.proofs.Common.{inr, refl, arith}
use Rattle.std.proofs.lemmas.Bool.{cases_eq, cases_lt}
use Rattle.macs_frame.specs.declared.tag.Parts.{Parts}
use Rattle.macs_frame.specs.declared.tag.TagFault.{TagFault}
use Rattle.macs_frame.specs.declared.tag.TagFault.TheVariants.{Runt, Oversize, NoTag, BadTag, ForKay}
use Rattle.macs_fields.specs.First.{IsFirst, NoneHolds}
use Rattle.macs_frame.specs.Tag.{Agrees, IsForKay, IsGoodControl, IsGoodTag, IsTagged, Tag, TagFaultHolds, changed}
use Rattle.macs_frame.specs.Tag.{control, encrypted, end_of, end_station, has_sci, pn_of, short_length}
use Rattle.macs_frame.specs.Tag.{single_copy_broadcast, start_of, tag_faults, tag_of, has_version}
use Rattle.macs_frame.specs.Opening.{OpensTo, Verified, additional_data, hidden_of, icv_of, iv_of, secure_data}
use Rattle.macs_fields.proofs.FirstRefusal.{none-first}
use Rattle.macs_frame.proofs.OpenFaults.{no_tag_fault}
use Rattle.macs_frame.proofs.Readings.{verified_by_its_parts}
use Rattle.macs_gcm.proofs.Sealing.{Opens-tag}

-- a statement holds or does not
abbrev Decided : Type 0 → Type 0
Decided P = P ⊎ (¬ P)

-- a denial is decided
decided_not : {P : Type 0} → Decided P → Decided (¬ P)
decided_not (inl p) = inr (λ denies. denies p)
decided_not (inr denies) = inl denies

-- and both of two
decided_and : {P Q : Type 0} → Decided P → Decided Q → Decided (P × Q)
decided_and (inl p) (inl q) = inl (p, q)
decided_and (inl p) (inr denies) = inr (λ both. denies both.1)
decided_and (inr denies) q = inr (λ both. denies both.0)

-- and one of two
decided_or : {P Q : Type 0} → Decided P → Decided Q → Decided (P ⊎ Q)
decided_or (inl p) q = inl (inl p)
decided_or (inr denies) (inl q) = inl (inr q)
decided_or (inr denies) (inr none) = inr (λ either. elim either [
  | inl p ↦ denies p
  | inr q ↦ none q
])

-- and an order of numbers
decided_le : (m n : ℕ) → Decided (m ≤ n)
decided_le m n = elim (cases_lt n m) [
  | inl lt ↦ inr (λ le. omega arith)
  | inr ge ↦ inl ge
]

-- and a strict one
decided_lt : (m n : ℕ) → Decided (m < n)
decided_lt m n = elim (cases_lt m n) [
  | inl lt ↦ inl lt
  | inr ge ↦ inr (λ lt. omega arith)
]

-- that a bool is false
decided_false : (b : Bool) → Decided (b ≡ false)
decided_false false = inl refl
decided_false true = inr (λ e. cc)

-- that it is true
decided_true : (b : Bool) → Decided (b ≡ true)
decided_true true = inl refl
decided_true false = inr (λ e. cc)

-- what is not denied holds
held : {P : Type 0} → Decided P → ¬ (¬ P) → P
held (inl p) denied = p
held (inr denies) denied = absurd (denied denies)

-- that a length agrees with SL
decided_agrees : (octets start short : ℕ) → Decided (Agrees octets start short)
decided_agrees octets start short =
    decided_or (decided_and (cases_eq short 0) (decided_le _ octets))
    (decided_and (decided_not (cases_eq short 0))
    (decided_or (cases_eq octets _) (decided_and (cases_eq octets 60) (decided_lt _ 60))))

-- that octet 3 breaks no rule
decided_control : (octet : ℕ) → Decided (IsGoodControl octet)
decided_control octet =
    elim (decided_and (decided_false (has_version octet)) (decided_and (decided_false (single_copy_broadcast octet))
    (decided_false (has_sci octet && end_station octet)))) [
      | inl good ↦ inl (record { version_clear = good.0; single_copy_clear = good.1.0; one_name = good.1.1 })
      | inr bad ↦ inr (λ good. bad (good.version_clear, (good.single_copy_clear, good.one_name)))
    ]

-- that a tag is good
decided_good : (frame : List ℕ) → Decided (IsGoodTag frame)
decided_good frame =
    elim (decided_and (decided_le (start_of frame) (length frame))
    (decided_and (decided_control (control frame)) (decided_and (decided_lt (short_length frame) 64)
    (decided_and (decided_not (cases_eq (pn_of frame) 0))
    (decided_agrees (length frame) (start_of frame) (short_length frame)))))) [
      | inl good ↦ inl (record {
        whole = good.0;
        good_control = good.1.0;
        reserved_clear = good.1.1.0;
        numbered =
            good.1.1.1.0;
        agrees = good.1.1.1.1;
      })
      | inr bad ↦ inr
          (λ good. bad (good.whole, (good.good_control, (good.reserved_clear, (good.numbered, good.agrees)))))
    ]

-- that a frame is tagged
decided_tagged : (frame : List ℕ) → Decided (IsTagged frame)
decided_tagged frame = decided_and (cases_eq (slice_index frame 12) 0x88) (cases_eq (slice_index frame 13) 0xE5)

-- each fault of a tag
decided_fault : (frame : List ℕ) (fault : TagFault) → Decided (TagFaultHolds frame fault)
decided_fault frame Runt = decided_lt (length frame) 14
decided_fault frame Oversize = decided_lt 9216 (length frame)
decided_fault frame NoTag = decided_not (decided_tagged frame)
decided_fault frame BadTag = decided_not (decided_good frame)
decided_fault frame ForKay =
    decided_and (decided_true (encrypted (control frame))) (decided_false (changed (control frame)))

-- a refusal in front of others, of which none holds or there is a first
first_step : {R : Type 0} (Holds : R → Type 0) (r : R) (rs : List R) → Decided (Holds r)
    → NoneHolds Holds rs ⊎ ((first : R) × IsFirst Holds rs first)
    → NoneHolds Holds (r ∷ rs) ⊎ ((first : R) × IsFirst Holds (r ∷ rs) first)
first_step Holds r rs (inl holds) later = inr (r, inl (holds, refl))
first_step Holds r rs (inr denies) (inl none) = inl (denies, none)
first_step Holds r rs (inr denies) (inr found) = inr (found.0, inr (denies, found.1))

-- of refusals that are decided none holds, or there is a first
first_or_none : {R : Type 0} (Holds : R → Type 0) (decide : (r : R) → Decided (Holds r)) (refusals : List R)
    → NoneHolds Holds refusals ⊎ ((first : R) × IsFirst Holds refusals first)
first_or_none Holds decide [] = inl tt
first_or_none Holds decide (r ∷ rs) = first_step Holds r rs (decide r) (first_or_none Holds decide rs)

-- a frame has a reading that is for this endpoint, or a first fault
pub read_or_refused : (frame : List ℕ)
    → ((parts : Parts) × Tag frame parts × (¬ IsForKay frame))
    ⊎ ((fault : TagFault) × IsFirst (TagFaultHolds frame) tag_faults fault)
read_or_refused frame = elim (first_or_none (TagFaultHolds frame) (decided_fault frame) tag_faults) [
  | inl none ↦ inl (
    record { tag = tag_of frame; start = start_of frame; end = end_of frame },
    record {
      long_enough = elim (cases_lt (length frame) 14) [
        | inl lt ↦ absurd (none.0 lt)
        | inr ge ↦ ge
      ];
      short_enough = elim (cases_lt 9216 (length frame)) [
        | inl lt ↦ absurd (none.1.0 lt)
        | inr ge ↦ ge
      ];
      tagged = held (decided_tagged frame) none.1.1.0;
      reading = record { good = held (decided_good frame) none.1.1.1.0; tag = refl; start = refl; end = refl };
    },
    none.1.1.1.1.0,
  )
  | inr found ↦ inr found
]

-- that two lists of numbers are equal
decided_list : (xs ys : List ℕ) → Decided (xs ≡ ys)
decided_list [] [] = inl refl
decided_list [] (y ∷ ys) = inr (λ e. cc)
decided_list (x ∷ xs) [] = inr (λ e. cc)
decided_list (x ∷ xs) (y ∷ ys) = elim (decided_and (cases_eq x y) (decided_list xs ys)) [
  | inl same ↦ let head = same.0 in let tail = same.1 in inl cc
  | inr differ ↦ inr (λ e. differ (cc, cc))
]

module _ (frame key sci : List ℕ) (offset : ℕ) where
  -- that parts open to some plain frame
  decided_opens : (parts : Parts) → Decided ((plain : List ℕ) × OpensTo frame key sci offset parts plain)
  decided_opens parts =
      let exact = Opens-tag key (iv_of sci parts.tag.pn) (additional_data frame offset parts)
      (hidden_of parts.tag.encrypted offset (secure_data frame parts)) (icv_of frame parts) in
      elim (decided_list _ (icv_of frame parts)) [
        | inl is ↦ let opens = exact.1 is in inl (_, record { plaintext = opens.0; sealed = opens.1; plain_is = refl })
        | inr differs ↦ inr (λ opens. differs (exact.0 (opens.1.plaintext, opens.1.sealed)))
      ]

  -- a frame is verified as a plain frame, or as none
  pub verified_or_not : ((plain : List ℕ) × Verified frame key sci offset plain)
      ⊎ ((plain : List ℕ) → ¬ Verified frame key sci offset plain)
  verified_or_not = elim (read_or_refused frame) [
    | inl read ↦ elim (decided_opens read.0) [
      | inl opens ↦ inl (opens.0, (verified_by_its_parts frame key sci offset read.0 opens.0 read.1 read.2).1 opens.1)
      | inr closed ↦ inr (λ plain found.
          closed (plain, (verified_by_its_parts frame key sci offset read.0 plain read.1 read.2).0 found))
    ]
    | inr refused ↦ inr (λ plain found.
        none-first (TagFaultHolds frame) tag_faults refused.0
        (no_tag_fault frame found.parts (found.tag, found.not_for_kay)) refused.1)
  ]
