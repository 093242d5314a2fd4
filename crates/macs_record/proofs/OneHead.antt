-- A sector is that of one head: its fields are read back from their places.
use Rattle.std.proofs.Common.{◌≡◌, ◌++◌, ◌∙◌, ◌==◌, ◌-◌, if◌then◌else◌, ◌<◌, ◌^◌, ℕ, List, length, take, drop}
use Rattle.std.proofs.Common.{replicate, refl, sym, ap, arith, append_assoc, Option, Some, None, IfSome}
use Rattle.std.specs.Int.{from_be_bytes, to_be_bytes, w32, w64}
use Rattle.std.proofs.lemmas.Nat.{from_be_bytes-to_be_bytes_4, from_be_bytes-to_be_bytes_8}
use Rattle.macs_config.specs.Identity.{Identity, IsBlock}
use Rattle.macs_record.specs.Heads.{Head, IsHead, IsHeadOf, head_octets, identity_octets, version_of, head_mark}
use Rattle.macs_fields.specs.Fields.{IsSci}
use Rattle.macs_record.specs.declared.format.Format.{Format}
use Rattle.macs_record.specs.declared.format.Format.TheVariants.{One, Two}
use Rattle.macs_record.proofs.OneRecord.{cut}

-- ---- the versions of heads

-- a version has 32 bits
pub small_version : (format : Format) → version_of format < 2 ^ 32
small_version One = omega arith
small_version Two = omega arith

-- a mark and a version were read, and the version is that of a format
pub version_read : (result : Option Format) (version : ℕ) (old left : List ℕ)
    → IfSome result (λ format. version_of format ≡ version)
    → old ≡ head_mark ++ to_be_bytes w32 version ++ left
    → IfSome result (λ format. old ≡ head_mark ++ to_be_bytes w32 (version_of format) ++ left)
version_read None version old left is here = tt
version_read (Some format) version old left is here = here
    ∙ ap (λ (n : ℕ). head_mark ++ to_be_bytes w32 n ++ left) (sym is)

-- ---- a head

abbrev identity_from : List ℕ → List ℕ → Identity
identity_from sci blocks = record {
  sci = sci;
  tx_block = from_be_bytes w32 (take 4 blocks);
  rx_block = from_be_bytes w32 (take 4 (drop 4 blocks));
}

abbrev identity_at : List ℕ → Identity
identity_at octets = identity_from (take 8 octets) (drop 8 octets)

-- the format of a version
abbrev format_from : ℕ → Format
format_from version = if version == 1 then One else Two

format_read : (format : Format) → format_from (version_of format) ≡ format
format_read One = refl
format_read Two = refl

format_back : (format : Format) → format_from (from_be_bytes w32 (to_be_bytes w32 (version_of format))) ≡ format
format_back format = ap format_from (from_be_bytes-to_be_bytes_4 (version_of format) (small_version format))
    ∙ format_read format

-- what is in the places of a head's fields
unfoldable head_at : List ℕ → Head
head_at sector = record {
  format = format_from (from_be_bytes w32 (take 4 (drop 8 sector)));
  generation = from_be_bytes w64 (take 8 (drop 12 sector));
  count = from_be_bytes w32 (take 4 (drop 20 sector));
  identity = identity_at (drop 24 sector);
}

identity_back : (identity : Identity) (rest : List ℕ) → IsSci identity.sci → IsBlock identity.tx_block
    → IsBlock identity.rx_block
    → identity_at (identity_octets identity ++ rest) ≡ identity
identity_back identity rest sci tx rx =
    cut identity_from 8 identity.sci ((to_be_bytes w32 identity.tx_block ++ to_be_bytes w32 identity.rx_block) ++ rest)
    _ sci.size (append_assoc identity.sci _ rest)
    ∙ (λ i. record {
      sci = identity.sci;
      tx_block = from_be_bytes-to_be_bytes_4 identity.tx_block (omega (arith, tx.1)) i;
      rx_block = from_be_bytes-to_be_bytes_4 identity.rx_block (omega (arith, rx.1)) i;
    })

head_back : (head : Head) (rest : List ℕ) → IsHead head → head_at (head_octets head ++ rest) ≡ head
unfolding head_at
head_back head rest is = λ i. record {
  format = format_back head.format i;
  generation = from_be_bytes-to_be_bytes_8 head.generation is.generations i;
  count = from_be_bytes-to_be_bytes_4 head.count (omega (arith, is.few)) i;
  identity = identity_back head.identity rest is.sci is.tx_block is.rx_block i;
}

pub one_head : (a b : Head) (sector : List ℕ) → IsHeadOf a sector → IsHeadOf b sector → a ≡ b
one_head a b sector is_a is_b =
    sym (head_back a (replicate (512 - length (head_octets a)) 0) is_a.range)
    ∙ ap head_at (is_a.octets ∙ sym is_b.octets)
    ∙ head_back b (replicate (512 - length (head_octets b)) 0) is_b.range
