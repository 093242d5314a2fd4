-- The first configuration, and what commands make of offsets and channels.
use Rattle.std.proofs.Common.{◌≡◌, ◌&&◌, ◌||◌, ◌==◌, ◌∷◌, ◌∙◌, ℕ, Bool, true, false, cond, not, List, [], Some, None}
use Rattle.std.proofs.Common.{is_none, bytes_eq, filter, refl, sym, ap}
use Rattle.std.proofs.lemmas.Bool.{eqb-true, false≢true, not-false, or_parts}
use Rattle.macs_fields.specs.Fields.{octets_of}
use Rattle.macs_fields.specs.declared.fields.Offset.{Offset}
use Rattle.macs_fields.specs.declared.fields.Offset.TheVariants.{Fifty, Thirty, Zero}
use Rattle.macs_config.specs.Apply.{offset_at, offset_or_zero}
use Rattle.macs_config.specs.Association.{is_confidential, offset_of, protection_of}
use Rattle.macs_config.specs.Config.{is_among}
use Rattle.macs_config.proofs.Channels.{among-filter, not_among-filter}
use Rattle.macs_headline.specs.Configurations.{IsFirstConfiguration}

pub is-first-configuration : IsFirstConfiguration
is-first-configuration = record {
  validate = refl;
  on = refl;
  window = refl;
  mode = refl;
  encoding = refl;
  tx = λ an. refl;
  channels = refl;
  rx = λ sci an. refl;
  spent_tx = refl;
  spent_rx = refl;
}

-- ---- offsets

offset_by : (offset : ℕ) (zero thirty fifty : Bool) → (offset == 0) ≡ zero → (offset == 30) ≡ thirty
    → (offset == 50) ≡ fifty
    → is_none (cond zero (Some Zero) (cond thirty (Some Thirty) (cond fifty (Some Fifty) None))) ≡ false
    → octets_of
    (offset_or_zero (cond zero (Some Zero) (cond thirty (Some Thirty) (cond fifty (Some Fifty) None)))) ≡ offset
offset_by offset true thirty fifty e0 e30 e50 some = sym (eqb-true offset 0 e0)
offset_by offset false true fifty e0 e30 e50 some = sym (eqb-true offset 30 e30)
offset_by offset false false true e0 e30 e50 some = sym (eqb-true offset 50 e50)
offset_by offset false false false e0 e30 e50 some = absurd (false≢true (sym some))

pub offset_is : (offset : ℕ) → is_none (offset_at offset) ≡ false
    → octets_of (offset_or_zero (offset_at offset)) ≡ offset
offset_is offset some = offset_by offset (offset == 0) (offset == 30) (offset == 50) refl refl refl some

pub protected_from : (confidential : Bool) (offset : ℕ)
    → (is_none (offset_at offset) || (not confidential && not (offset == 0))) ≡ false
    → octets_of (offset_of (protection_of confidential (offset_or_zero (offset_at offset)))) ≡ offset
protected_from true offset test = offset_is offset (or_parts (is_none (offset_at offset)) false test).0
protected_from false offset test =
    sym (eqb-true offset 0 (not-false (offset == 0) (or_parts (is_none (offset_at offset)) (not (offset == 0)) test).1))

pub confidential_is : (confidential : Bool) (offset : Offset)
    → is_confidential (protection_of confidential offset) ≡ confidential
confidential_is true offset = refl
confidential_is false offset = refl

-- ---- channels

-- a channel other than the one that is dropped stays, or is not there
pub filtered : (channels : List (List ℕ)) (at sci : List ℕ) (among : Bool) → is_among channels sci ≡ among
    → bytes_eq sci at ≡ false
    → is_among (filter (λ other. not (bytes_eq other at)) channels) sci ≡ is_among channels sci
filtered channels at sci true is apart =
    among-filter (λ other. not (bytes_eq other at)) sci channels (ap not apart) is ∙ sym is
filtered channels at sci false is apart = not_among-filter (λ other. not (bytes_eq other at)) sci channels is ∙ sym is

dropped_by : (sci item : List ℕ) (items : List (List ℕ)) (same : Bool) → bytes_eq item sci ≡ same
    → is_among (filter (λ other. not (bytes_eq other sci)) items) sci ≡ false
    → is_among (cond (not same) (item ∷ filter (λ other. not (bytes_eq other sci)) items)
    (filter (λ other. not (bytes_eq other sci)) items)) sci ≡ false
dropped_by sci item items true is later = later
dropped_by sci item items false is later =
    ap (λ (b : Bool). b || is_among (filter (λ other. not (bytes_eq other sci)) items) sci) is ∙ later

-- the one that is dropped is no longer there
pub dropped : (sci : List ℕ) (items : List (List ℕ))
    → is_among (filter (λ other. not (bytes_eq other sci)) items) sci ≡ false
dropped sci [] = refl
dropped sci (item ∷ items) = dropped_by sci item items (bytes_eq item sci) refl (dropped sci items)
