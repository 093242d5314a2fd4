-- Records with a key: their kinds, one for keys of 16 octets and one for keys of 32, and their fields.
use Rattle.std.proofs.Common.{◌≡◌, ◌==◌, ◌∙◌, if◌then◌else◌, ◌++◌, ◌∷◌, ℕ, List, length, sym, ap, inl, inr}
use Rattle.std.proofs.Common.{append_assoc}
use Rattle.macs_config.specs.Apply.{IsKey}
use Rattle.macs_record.specs.Layout.{by_length, of_length}
use Rattle.macs_record.specs.Ranges.{IsKeyOf}
use Rattle.macs_record.specs.declared.key_length.KeyLength.{KeyLength}
use Rattle.macs_record.specs.declared.key_length.KeyLength.TheVariants.{Short, Long}
use Rattle.macs_record.specs.declared.kind.Kind.{Kind}

-- a key of one of the lengths is a key
pub is_key : (keys : KeyLength) (key : List ℕ) → IsKeyOf keys key → IsKey key
is_key Short key is = inl is
is_key Long key is = inr is

by_size : (key : List ℕ) (short long : Kind) (n : ℕ) → length key ≡ n
    → by_length key short long ≡ (if n == 16 then short else long)
by_size key short long n size = ap (λ (k : ℕ). if k == 16 then short else long) size

-- the kind of a record with such a key
pub by_its_length : (keys : KeyLength) (key : List ℕ) (short long : Kind) → IsKeyOf keys key
    → by_length key short long ≡ of_length keys short long
by_its_length Short key short long is = by_size key short long 16 is.size
by_its_length Long key short long is = by_size key short long 32 is.size

-- and the length of a key by its record's kind
pub of_its_kind : (keys : KeyLength) (key : List ℕ) (short long : Kind) → (short ≡ long → ⊥) → IsKey key
    → by_length key short long ≡ of_length keys short long
    → IsKeyOf keys key
of_its_kind Short key short long differ (inl is) kind = is
of_its_kind Short key short long differ (inr is) kind =
    absurd (differ (sym kind ∙ by_its_length Long key short long is))
of_its_kind Long key short long differ (inl is) kind =
    absurd (differ (sym (by_its_length Short key short long is) ∙ kind))
of_its_kind Long key short long differ (inr is) kind = is

-- ---- what was read in turn is what the fields are

pub tx_whole : (an : ℕ) (key number last old after_an after_key after_number left : List ℕ) → old ≡ an ∷ after_an
    → after_an ≡ key ++ after_key
    → after_key ≡ number ++ after_number → after_number ≡ last ++ left → old ≡ (an ∷ (key ++ (number ++ last))) ++ left
tx_whole an key number last old after_an after_key after_number left ans keys numbers lasts =
    let from_key : after_an ≡ (key ++ (number ++ last)) ++ left =
    keys ∙ ap (λ (xs : List ℕ). key ++ xs)
    (numbers ∙ ap (λ (xs : List ℕ). number ++ xs) lasts ∙ sym (append_assoc number last left))
    ∙ sym (append_assoc key (number ++ last) left) in
    ans ∙ ap (λ (xs : List ℕ). an ∷ xs) from_key

pub rx_whole : (sci : List ℕ) (an : ℕ) (key number last old after_sci after_an after_key after_number left : List ℕ)
    → old ≡ sci ++ after_sci → after_sci ≡ an ∷ after_an
    → after_an ≡ key ++ after_key → after_key ≡ number ++ after_number → after_number ≡ last ++ left
    → old ≡ (sci ++ (an ∷ (key ++ (number ++ last)))) ++ left
rx_whole sci an key number last old after_sci after_an after_key after_number left scis ans keys numbers lasts =
    scis ∙ ap (λ (xs : List ℕ). sci ++ xs)
    (tx_whole an key number last after_sci after_an after_key after_number left ans keys numbers lasts)
    ∙ sym (append_assoc sci (an ∷ (key ++ (number ++ last))) left)
