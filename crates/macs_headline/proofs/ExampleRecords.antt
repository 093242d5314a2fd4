-- The records of the example are in their ranges, and its snapshot has these six.
use Rattle.std.proofs.Common.{◌≡◌, ◌<◌, ◌≤◌, ◌^◌, inl, inr, ℕ, zero, suc, List, [], ◌∷◌, replicate, refl, sym}
use Rattle.std.proofs.Common.{subst, arith}
use Rattle.std.specs.Prelude.{All, slice_index}
use Rattle.std.specs.List.{AllByRecursion}
use Rattle.std.specs.Int.{to_be_bytes, w32}
use Rattle.std.proofs.lemmas.List.Elements.{All-append, All-from_recursion, All-nil, All-replicate}
use Rattle.sha2.specs.Sha256.{digest_bytes, final_hash, initial_hash_256, sha256}
use Rattle.sha2.proofs.Facts256.{length-sha256}
use Rattle.macs_fields.specs.Fields.{IsOctets, IsSci}
use Rattle.macs_config.specs.Config.{rx_fingerprint, tx_fingerprint}
use Rattle.macs_config.specs.Identity.{Identity, IsBlock}
use Rattle.macs_config.specs.declared.command.Role.TheVariants.{Receive, Transmit}
use Rattle.macs_config.specs.declared.command.Validate.TheVariants.{Strict}
use Rattle.macs_record.specs.Heads.{Head, IsHead}
use Rattle.macs_record.specs.Layout.{IsRecord}
use Rattle.macs_record.specs.declared.record.Record.{Record}
use Rattle.macs_record.specs.declared.record.Record.TheVariants as kept
use Rattle.macs_journal.specs.Formatting.{first_head}
use Rattle.macs_store.specs.Snapshot.{rx_records, rx_records_of, settings_record, snapshot, spent_records, tx_records}
use Rattle.macs_headline.specs.Example.{example_identity, own_key, own_sa, own_sci, peer_key, peer_sa, peer_sci}
use Rattle.macs_headline.specs.Example.{served_config}
use Rattle.macs_headline.specs.ExampleDisk.{first_records, full_snapshot, second_records, third_records, widened}
use Rattle.macs_headline.proofs.Lists.{each-same}

-- ---- octets

abbrev pub IsOctet : ℕ → Type 0
IsOctet octet = octet < 2 ^ 8

pub sci-range : (x : ℕ) → IsOctet x → IsSci (2 ∷ 0 ∷ 0 ∷ 0 ∷ 0 ∷ x ∷ 0 ∷ 1 ∷ [])
sci-range x lt = record {
  size = refl;
  each = All-from_recursion IsOctet (2 ∷ 0 ∷ 0 ∷ 0 ∷ 0 ∷ x ∷ 0 ∷ 1 ∷ [])
      (omega arith, (omega arith, (omega arith, (omega arith, (omega arith, (lt, (omega arith, (omega arith, tt))))))));
}

pub own-range : IsSci own_sci
own-range = sci-range 1 (omega arith)

pub peer-range : IsSci peer_sci
peer-range = sci-range 7 (omega arith)

pub key-range : (x : ℕ) → IsOctet x → IsOctets 16 (replicate 16 x)
key-range x lt = record { size = refl; each = All-replicate IsOctet 16 x lt }

pub long-key-range : (x : ℕ) → IsOctet x → IsOctets 32 (replicate 32 x)
long-key-range x lt = record { size = refl; each = All-replicate IsOctet 32 x lt }

pub word-range : (x : ℕ) → All IsOctet (to_be_bytes w32 x)
word-range x =
    All-from_recursion IsOctet (to_be_bytes w32 x) (omega arith, (omega arith, (omega arith, (omega arith, tt))))

digest_range : (h : List ℕ) (n : ℕ) → All IsOctet (digest_bytes h n)
unfolding digest_bytes
digest_range h zero = All-nil IsOctet
digest_range h (suc n) = All-append IsOctet (digest_bytes h n) (to_be_bytes w32 (slice_index h n)) (digest_range h n)
    (word-range (slice_index h n))

-- a fingerprint has 32 octets
pub print_range : (octets : List ℕ) → IsOctets 32 (sha256 octets)
unfolding sha256
print_range octets = record { size = length-sha256 octets; each = digest_range (final_hash initial_hash_256 octets) 8 }

-- ---- heads

-- one of the example's endpoint
pub example-head : (head : Head) → head.identity ≡ example_identity → 0 < head.generation → head.generation < 2 ^ 64
    → 1 ≤ head.count → head.count ≤ 256 → IsHead head
example-head head same generation generations some few = record {
  generation = generation;
  generations = generations;
  some = some;
  few = few;
  sci = subst (λ (identity : Identity). IsSci identity.sci) (sym same) own-range;
  tx_block = subst (λ (identity : Identity). IsBlock identity.tx_block) (sym same) (omega arith, omega arith);
  rx_block = subst (λ (identity : Identity). IsBlock identity.rx_block) (sym same) (omega arith, omega arith);
}

pub head-range : IsHead (first_head example_identity)
head-range =
    example-head (first_head example_identity) refl (omega arith) (omega arith) (omega arith) (omega arith)

-- ---- records

pub first-ranges : AllByRecursion IsRecord first_records
first-ranges = (
  (omega arith, inl (key-range 1 (omega arith)), (omega arith, omega arith)),
  (
    omega arith,
    (
      (omega arith, (omega arith, omega arith)),
      (
        peer-range,
        (
          (peer-range, omega arith, inr (long-key-range 2 (omega arith)), (omega arith, omega arith)),
          (omega arith, ((peer-range, omega arith, (omega arith, omega arith)), tt)),
        ),
      ),
    ),
  ),
)

pub widened-range : IsRecord widened
widened-range = omega arith

pub second-ranges : AllByRecursion IsRecord second_records
second-ranges = (
  (omega arith, (omega arith, omega arith)),
  (omega arith, (omega arith, each-same IsRecord 244 (kept.SetValidate Strict) tt)),
)

pub third-ranges : AllByRecursion IsRecord third_records
third-ranges = ((peer-range, omega arith), ((omega arith, (omega arith, omega arith)), tt))

-- ---- the snapshot

-- the settings, an association with its ceiling and its key's fingerprint on each side, and the channel
abbrev pub six_records : List Record
six_records =
    settings_record served_config
    ∷ kept.TxSa 0 own_sa 13
    ∷ kept.Channel peer_sci
    ∷ kept.RxSa peer_sci 0 peer_sa 9
    ∷ kept.Spent Transmit (tx_fingerprint own_key ∷ [])
    ∷ kept.Spent Receive (rx_fingerprint peer_sci peer_key ∷ [])
    ∷ []

pub snapshot-is : full_snapshot ≡ six_records
unfolding snapshot tx_records rx_records rx_records_of spent_records
snapshot-is = refl

pub snapshot-ranges : AllByRecursion IsRecord six_records
snapshot-ranges = (
  (omega arith, omega arith),
  (
    (omega arith, inl (key-range 1 (omega arith)), (omega arith, omega arith)),
    (
      peer-range,
      (
        (peer-range, omega arith, inr (long-key-range 2 (omega arith)), (omega arith, omega arith)),
        (
          (
            omega arith,
            omega arith,
            All-from_recursion (IsOctets 32) (tx_fingerprint own_key ∷ []) (print_range own_key, tt),
          ),
          (
            (
              omega arith,
              omega arith,
              All-from_recursion (IsOctets 32) (rx_fingerprint peer_sci peer_key ∷ []) (print_range _, tt),
            ),
            tt,
          ),
        ),
      ),
    ),
  ),
)
