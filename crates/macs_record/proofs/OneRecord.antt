-- A sector is that of one record: its fields are read back from their places.
use Rattle.std.proofs.Common.{◌≡◌, ◌<◌, ◌^◌, ◌++◌, ◌==◌, ◌∙◌, zero, suc, ℕ, Bool, true, false, List, [], ◌∷◌}
use Rattle.std.proofs.Common.{if◌then◌else◌, length, get_or, take, drop, replicate, ◌-◌, Option, Some, None, refl, sym}
use Rattle.std.proofs.Common.{ap, arith, append_assoc, inl, inr}
use Rattle.std.specs.Int.{from_be_bytes, to_be_bytes, w32, w64}
use Rattle.std.specs.List.{All, concat}
use Rattle.std.proofs.lemmas.Bool.{ne_eqb}
use Rattle.std.proofs.lemmas.List.{append_cancel_left, drop_at, take_at}
use Rattle.std.proofs.lemmas.List.Elements.{All-head, All-tail}
use Rattle.std.proofs.lemmas.Nat.{from_be_bytes-to_be_bytes_4, from_be_bytes-to_be_bytes_8}
use Rattle.macs_fields.specs.Fields.{octets_of}
use Rattle.macs_fields.specs.declared.fields.Offset.{Offset}
use Rattle.macs_fields.specs.declared.fields.Offset.TheVariants.{Zero, Thirty, Fifty}
use Rattle.macs_config.specs.Apply.{IsKey}
use Rattle.macs_config.specs.Association.{is_confidential, offset_of}
use Rattle.macs_config.specs.declared.association.Protection.{Protection}
use Rattle.macs_config.specs.declared.association.Protection.TheVariants.{Confidentiality, Integrity}
use Rattle.macs_config.specs.declared.association.RxSa.{RxSa as RxSaFields}
use Rattle.macs_config.specs.declared.association.TxSa.{TxSa as TxSaFields}
use Rattle.macs_config.specs.declared.command.Replay.{Replay}
use Rattle.macs_config.specs.declared.command.Role.{Role}
use Rattle.macs_config.specs.declared.command.Role.TheVariants.{Receive, Transmit}
use Rattle.macs_config.specs.declared.command.SciMode.{SciMode}
use Rattle.macs_config.specs.declared.command.SciMode.TheVariants.{EndStation, Explicit, Implicit}
use Rattle.macs_config.specs.declared.command.Validate.{Validate}
use Rattle.macs_config.specs.declared.command.Validate.TheVariants.{Check, Strict}
use Rattle.macs_record.specs.Layout.{IsRecord, by_length, encoding_octet, fields_of, flag_octet, front_of, kind_of}
use Rattle.macs_record.specs.Layout.{mode_octet, protection_octets, replay_octets, role_octet, sector_of}
use Rattle.macs_record.specs.Layout.{validate_octet}
use Rattle.macs_fields.specs.Fields.{IsOctets}
use Rattle.macs_record.specs.Ranges.{IsCeiling, IsEncoding}
use Rattle.macs_record.specs.declared.key_length.KeyLength.TheVariants.{Short, Long}
use Rattle.macs_record.specs.declared.kind.Kind.{Kind}
use Rattle.macs_record.specs.declared.kind.Kind.TheVariants as kinds
use Rattle.macs_record.specs.declared.record.Record.{Record}
use Rattle.macs_record.specs.declared.record.Record.TheVariants.{Settings, TxSa, Channel, RxSa, Spent, SetValidate}
use Rattle.macs_record.specs.declared.record.Record.TheVariants.{SetReplay, SetSciMode, TxInstall, TxUse, TxRemove}
use Rattle.macs_record.specs.declared.record.Record.TheVariants.{RxAdd, RxDrop, RxInstall, RxRemove, TxCeiling}
use Rattle.macs_record.specs.declared.record.Record.TheVariants.{RxCeiling}
use Rattle.macs_record.proofs.KeyKinds.{by_its_length}
use Rattle.macs_record.proofs.RecordKinds.{one_kind}

-- ---- the fields from their octets

abbrev octet : ℕ → List ℕ → ℕ
octet place octets = get_or octets place 0

flag_back : (is : Bool) → (flag_octet is == 1) ≡ is
flag_back false = refl
flag_back true = refl

abbrev validate_from : ℕ → Validate
validate_from octet = if octet == 0 then Strict else Check

validate_back : (validate : Validate) → validate_from (validate_octet validate) ≡ validate
validate_back Strict = refl
validate_back Check = refl

abbrev mode_from : ℕ → SciMode
mode_from octet = if octet == 0 then Explicit else if octet == 1 then EndStation else Implicit

mode_back : (mode : SciMode) → mode_from (mode_octet mode) ≡ mode
mode_back Explicit = refl
mode_back EndStation = refl
mode_back Implicit = refl

abbrev encoding_from : ℕ → Option ℕ
encoding_from octet = if octet == 0xff then None else Some octet

encoding_back : (encoding : Option ℕ) → IsEncoding encoding → encoding_from (encoding_octet encoding) ≡ encoding
encoding_back None is = refl
encoding_back (Some an) is = rw (ne_eqb an 0xff (λ e. omega arith)) refl

abbrev role_from : ℕ → Role
role_from octet = if octet == 0 then Transmit else Receive

role_back : (role : Role) → role_from (role_octet role) ≡ role
role_back Transmit = refl
role_back Receive = refl

abbrev offset_from : ℕ → Offset
offset_from octet = if octet == 0 then Zero else if octet == 30 then Thirty else Fifty

offset_back : (offset : Offset) → offset_from (octets_of offset) ≡ offset
offset_back Zero = refl
offset_back Thirty = refl
offset_back Fifty = refl

abbrev protection_from : ℕ → ℕ → Protection
protection_from confidential octet = if confidential == 1 then Confidentiality (offset_from octet) else Integrity

protection_back : (protection : Protection)
    → protection_from (flag_octet (is_confidential protection)) (octets_of (offset_of protection)) ≡ protection
protection_back Integrity = refl
protection_back (Confidentiality offset) = ap Confidentiality (offset_back offset)

abbrev number_4 : List ℕ → ℕ
number_4 octets = from_be_bytes w32 (take 4 octets)

abbrev number_8 : List ℕ → ℕ
number_8 octets = from_be_bytes w64 (take 8 octets)

abbrev replay_from : List ℕ → Replay
replay_from octets = record { on = octet 0 octets == 1; window = number_4 (drop 1 octets) }

chunks : ℕ → List ℕ → List (List ℕ)
chunks zero octets = []
chunks (suc n) octets = take 32 octets ∷ chunks n (drop 32 octets)

-- a list that is cut after its front
pub cut : {X : Type 0} (f : List ℕ → List ℕ → X) (n : ℕ) (front rest octets : List ℕ) → length front ≡ n
    → octets ≡ front ++ rest
    → f (take n octets) (drop n octets) ≡ f front rest
cut f n front rest octets size is =
    let at_front : take n octets ≡ front = ap (take n) is ∙ take_at front rest n size in
    let behind : drop n octets ≡ rest = ap (drop n) is ∙ drop_at front rest n size in
    λ i. f (at_front i) (behind i)

chunks_back : (items : List (List ℕ)) (rest : List ℕ) → All (IsOctets 32) items
    → chunks (length items) (concat items ++ rest) ≡ items
unfolding chunks
chunks_back [] rest are = refl
chunks_back (item ∷ items) rest are =
    cut (λ (front behind : List ℕ). front ∷ chunks (length items) behind) 32 item (concat items ++ rest) _
    (All-head (IsOctets 32) item items are).size (append_assoc item (concat items) rest)
    ∙ ap (λ (more : List (List ℕ)). item ∷ more) (chunks_back items rest (All-tail (IsOctets 32) item items are))

-- ---- the records from their fields

abbrev tx_sa_from : ℕ → List ℕ → List ℕ → Record
tx_sa_from an key behind =
    TxSa an (record { key = key; protection = protection_from (octet 8 behind) (octet 9 behind) }) (number_8 behind)

abbrev rx_sa_from : List ℕ → ℕ → List ℕ → List ℕ → Record
rx_sa_from sci an key behind =
    RxSa sci an (record { key = key; offset = offset_from (octet 8 behind) }) (number_8 behind)

abbrev tx_install_from : ℕ → List ℕ → List ℕ → Record
tx_install_from an key behind =
    TxInstall an (record { key = key; protection = protection_from (octet 4 behind) (octet 5 behind) })
    (number_4 behind)

abbrev rx_install_from : List ℕ → ℕ → List ℕ → List ℕ → Record
rx_install_from sci an key behind =
    RxInstall sci an (record { key = key; offset = offset_from (octet 4 behind) }) (number_4 behind)

abbrev keyed : ℕ → (List ℕ → List ℕ → Record) → List ℕ → Record
keyed size f octets = f (take size octets) (drop size octets)

abbrev named : (List ℕ → List ℕ → Record) → List ℕ → Record
named f octets = f (take 8 octets) (drop 8 octets)

-- the record of this kind whose fields these octets begin with
unfoldable unread : Kind → List ℕ → Record
unread kinds.Settings octets = Settings (validate_from (octet 0 octets)) (replay_from (drop 1 octets))
    (mode_from (octet 6 octets)) (encoding_from (octet 7 octets))
unread kinds.TxSa octets = keyed 16 (tx_sa_from (octet 0 octets)) (drop 1 octets)
unread kinds.TxSaLong octets = keyed 32 (tx_sa_from (octet 0 octets)) (drop 1 octets)
unread kinds.Channel octets = named (λ (sci behind : List ℕ). Channel sci) octets
unread kinds.RxSa octets =
    named (λ (sci behind : List ℕ). keyed 16 (rx_sa_from sci (octet 0 behind)) (drop 1 behind)) octets
unread kinds.RxSaLong octets =
    named (λ (sci behind : List ℕ). keyed 32 (rx_sa_from sci (octet 0 behind)) (drop 1 behind)) octets
unread kinds.Spent octets = Spent (role_from (octet 0 octets)) (chunks (octet 1 octets) (drop 2 octets))
unread kinds.SetValidate octets = SetValidate (validate_from (octet 0 octets))
unread kinds.SetReplay octets = SetReplay (replay_from octets)
unread kinds.SetSciMode octets = SetSciMode (mode_from (octet 0 octets))
unread kinds.TxInstall octets = keyed 16 (tx_install_from (octet 0 octets)) (drop 1 octets)
unread kinds.TxInstallLong octets = keyed 32 (tx_install_from (octet 0 octets)) (drop 1 octets)
unread kinds.TxUse octets = TxUse (octet 0 octets)
unread kinds.TxRemove octets = TxRemove (octet 0 octets)
unread kinds.RxAdd octets = named (λ (sci behind : List ℕ). RxAdd sci) octets
unread kinds.RxDrop octets = named (λ (sci behind : List ℕ). RxDrop sci) octets
unread kinds.RxInstall octets =
    named (λ (sci behind : List ℕ). keyed 16 (rx_install_from sci (octet 0 behind)) (drop 1 behind)) octets
unread kinds.RxInstallLong octets =
    named (λ (sci behind : List ℕ). keyed 32 (rx_install_from sci (octet 0 behind)) (drop 1 behind)) octets
unread kinds.RxRemove octets = named (λ (sci behind : List ℕ). RxRemove sci (octet 0 behind)) octets
unread kinds.TxCeiling octets = TxCeiling (octet 0 octets) (number_8 (drop 1 octets))
unread kinds.RxCeiling octets =
    named (λ (sci behind : List ℕ). RxCeiling sci (octet 0 behind) (number_8 (drop 1 behind))) octets

replay_back : (replay : Replay) (rest : List ℕ) → replay.window < 2 ^ 32
    → replay_from (replay_octets replay ++ rest) ≡ replay
replay_back replay rest range =
    λ i. record { on = flag_back replay.on i; window = from_be_bytes-to_be_bytes_4 replay.window range i }

-- a record with a key of so many octets, from its fields
module _ (size : ℕ) (rest : List ℕ) where
  tx_sa_back : (an : ℕ) (sa : TxSaFields) (ceiling : ℕ) → length sa.key ≡ size → IsCeiling ceiling
      → keyed size (tx_sa_from an) (sa.key ++ (to_be_bytes w64 ceiling ++ protection_octets sa.protection) ++ rest)
      ≡ TxSa an sa ceiling
  tx_sa_back an sa ceiling key bound =
      cut (tx_sa_from an) size sa.key (to_be_bytes w64 ceiling ++ protection_octets sa.protection ++ rest) _ key
      (append_assoc sa.key _ rest)
      ∙ (λ i. TxSa an (record { key = sa.key; protection = protection_back sa.protection i })
      (from_be_bytes-to_be_bytes_8 ceiling (omega (arith, bound.1)) i))

  rx_sa_back : (sci : List ℕ) (an : ℕ) (sa : RxSaFields) (ceiling : ℕ) → length sci ≡ 8 → length sa.key ≡ size
      → IsCeiling ceiling
      → named (λ (sci behind : List ℕ). keyed size (rx_sa_from sci (octet 0 behind)) (drop 1 behind))
      (fields_of (RxSa sci an sa ceiling) ++ rest) ≡ RxSa sci an sa ceiling
  rx_sa_back sci an sa ceiling eight key bound =
      cut (λ (front behind : List ℕ). keyed size (rx_sa_from front (octet 0 behind)) (drop 1 behind)) 8 sci _ _ eight
      (append_assoc sci _ rest)
      ∙ cut (rx_sa_from sci an) size sa.key (to_be_bytes w64 ceiling ++ octets_of sa.offset ∷ rest) _ key
      (append_assoc sa.key _ rest)
      ∙ (λ i. RxSa sci an (record { key = sa.key; offset = offset_back sa.offset i })
      (from_be_bytes-to_be_bytes_8 ceiling (omega (arith, bound.1)) i))

  tx_install_back : (an : ℕ) (sa : TxSaFields) (start : ℕ) → length sa.key ≡ size → start < 2 ^ 32
      → keyed size (tx_install_from an) (sa.key ++ (to_be_bytes w32 start ++ protection_octets sa.protection) ++ rest)
      ≡ TxInstall an sa start
  tx_install_back an sa start key bound =
      cut (tx_install_from an) size sa.key (to_be_bytes w32 start ++ protection_octets sa.protection ++ rest) _ key
      (append_assoc sa.key _ rest)
      ∙ (λ i. TxInstall an (record { key = sa.key; protection = protection_back sa.protection i })
      (from_be_bytes-to_be_bytes_4 start bound i))

  rx_install_back : (sci : List ℕ) (an : ℕ) (sa : RxSaFields) (start : ℕ) → length sci ≡ 8 → length sa.key ≡ size
      → start < 2 ^ 32
      → named (λ (sci behind : List ℕ). keyed size (rx_install_from sci (octet 0 behind)) (drop 1 behind))
      (fields_of (RxInstall sci an sa start) ++ rest) ≡ RxInstall sci an sa start
  rx_install_back sci an sa start eight key bound =
      cut (λ (front behind : List ℕ). keyed size (rx_install_from front (octet 0 behind)) (drop 1 behind)) 8 sci _ _
      eight (append_assoc sci _ rest)
      ∙ cut (rx_install_from sci an) size sa.key (to_be_bytes w32 start ++ octets_of sa.offset ∷ rest) _ key
      (append_assoc sa.key _ rest)
      ∙ (λ i. RxInstall sci an (record { key = sa.key; offset = offset_back sa.offset i })
      (from_be_bytes-to_be_bytes_4 start bound i))

-- the record of the kind that its key's length says
by_key : (key octets : List ℕ) (short long : Kind) (r : Record) → IsKey key
    → (length key ≡ 16 → unread short octets ≡ r) → (length key ≡ 32 → unread long octets ≡ r)
    → unread (by_length key short long) octets ≡ r
by_key key octets short long r (inl is) shorts longs =
    ap (λ (kind : Kind). unread kind octets) (by_its_length Short key short long is) ∙ shorts is.size
by_key key octets short long r (inr is) shorts longs =
    ap (λ (kind : Kind). unread kind octets) (by_its_length Long key short long is) ∙ longs is.size

back : (r : Record) (rest : List ℕ) → IsRecord r → unread (kind_of r) (fields_of r ++ rest) ≡ r
unfolding unread
back (Settings validate replay mode encoding) rest is =
    λ i. Settings (validate_back validate i) (replay_back replay [] is.0 i) (mode_back mode i)
    (encoding_back encoding is.1 i)
back (TxSa an sa ceiling) rest is =
    by_key sa.key (fields_of (TxSa an sa ceiling) ++ rest) kinds.TxSa kinds.TxSaLong _ is.1
    (λ size. tx_sa_back 16 rest an sa ceiling size is.2) (λ size. tx_sa_back 32 rest an sa ceiling size is.2)
back (Channel sci) rest is = cut (λ (front behind : List ℕ). Channel front) 8 sci rest _ is.size refl
back (RxSa sci an sa ceiling) rest is =
    by_key sa.key (fields_of (RxSa sci an sa ceiling) ++ rest) kinds.RxSa kinds.RxSaLong _ is.2
    (λ size. rx_sa_back 16 rest sci an sa ceiling is.0.size size is.3)
    (λ size. rx_sa_back 32 rest sci an sa ceiling is.0.size size is.3)
back (Spent role fingerprints) rest is = λ i. Spent (role_back role i) (chunks_back fingerprints rest is.2 i)
back (SetValidate validate) rest is = ap SetValidate (validate_back validate)
back (SetReplay replay) rest is = ap SetReplay (replay_back replay rest is)
back (SetSciMode mode) rest is = ap SetSciMode (mode_back mode)
back (TxInstall an sa start) rest is =
    by_key sa.key (fields_of (TxInstall an sa start) ++ rest) kinds.TxInstall kinds.TxInstallLong _ is.1
    (λ size. tx_install_back 16 rest an sa start size is.2.1) (λ size. tx_install_back 32 rest an sa start size is.2.1)
back (TxUse an) rest is = refl
back (TxRemove an) rest is = refl
back (RxAdd sci) rest is = cut (λ (front behind : List ℕ). RxAdd front) 8 sci rest _ is.size refl
back (RxDrop sci) rest is = cut (λ (front behind : List ℕ). RxDrop front) 8 sci rest _ is.size refl
back (RxInstall sci an sa start) rest is =
    by_key sa.key (fields_of (RxInstall sci an sa start) ++ rest) kinds.RxInstall kinds.RxInstallLong _ is.2
    (λ size. rx_install_back 16 rest sci an sa start is.0.size size is.3.1)
    (λ size. rx_install_back 32 rest sci an sa start is.0.size size is.3.1)
back (RxRemove sci an) rest is =
    cut (λ (front behind : List ℕ). RxRemove front (octet 0 behind)) 8 sci _ _ is.0.size (append_assoc sci _ rest)
back (TxCeiling an ceiling) rest is = ap (TxCeiling an) (from_be_bytes-to_be_bytes_8 ceiling (omega (arith, is.1.1)))
back (RxCeiling sci an ceiling) rest is =
    cut (λ (front behind : List ℕ). RxCeiling front (octet 0 behind) (number_8 (drop 1 behind))) 8 sci _ _ is.0.size
    (append_assoc sci _ rest)
    ∙ ap (RxCeiling sci an) (from_be_bytes-to_be_bytes_8 ceiling (omega (arith, is.2.1)))

-- what was read as a record of a kind is the one whose fields come first
pub one_read : (kind : Kind) (old : List ℕ) (a : Record) (left : List ℕ)
    → IsRecord a × (kind_of a ≡ kind) × (old ≡ fields_of a ++ left) → (b : Record) (rest : List ℕ) → IsRecord b
    → kind_of b ≡ kind → old ≡ fields_of b ++ rest → (Some a ≡ Some b) × (left ≡ rest)
one_read kind old a left read b rest range of_kind whole =
    let kinds : kind_of a ≡ kind_of b = read.1 ∙ sym of_kind in
    let octets : fields_of a ++ left ≡ fields_of b ++ rest = sym read.2 ∙ whole in
    let same : a ≡ b = sym (back a left read.0) ∙ (λ i. unread (kinds i) (octets i)) ∙ back b rest range in (
      ap (λ (r : Record). Some r) same,
      append_cancel_left (fields_of b) left rest (ap (λ (r : Record). fields_of r ++ left) (sym same) ∙ octets),
    )

pub one_record : (a b : Record) → IsRecord a → IsRecord b → sector_of a ≡ sector_of b → a ≡ b
one_record a b is_a is_b same =
    let kind : kind_of a ≡ kind_of b = one_kind (kind_of a) (kind_of b) (ap (octet 4) same) in
    sym (back a (replicate (512 - length (front_of a)) 0) is_a) ∙ (λ i. unread (kind i) (drop 5 (same i)))
    ∙ back b (replicate (512 - length (front_of b)) 0) is_b
