-- The kinds of records.
use Rattle.std.proofs.Common.{◌≡◌, ◌==◌, ◌++◌, ◌∙◌, ℕ, Bool, true, false, if◌then◌else◌, List, [], ◌∷◌, length, Option}
use Rattle.std.proofs.Common.{Some, None, IfSome, refl, sym, ap, inl, inr}
use Rattle.std.specs.List.{find}
use Rattle.std.proofs.lemmas.Bool.{cases_Bool, eqb-true}
use Rattle.macs_config.specs.declared.association.RxSa.{RxSa as RxSaFields}
use Rattle.macs_config.specs.declared.association.TxSa.{TxSa as TxSaFields}
use Rattle.macs_config.specs.Apply.{IsKey}
use Rattle.macs_record.specs.Layout.{kind_of, record_mark, kind_number, octets_of_kind, of_length}
use Rattle.macs_record.specs.Ranges.{IsKeyOf}
use Rattle.macs_record.specs.declared.key_length.KeyLength.{KeyLength}
use Rattle.macs_record.specs.declared.key_length.KeyLength.TheVariants.{Short, Long}
use Rattle.macs_record.specs.declared.kind.Kind.{Kind}
use Rattle.macs_record.specs.declared.kind.Kind.TheVariants as kinds
use Rattle.macs_record.specs.declared.kind.TheConstants.{KINDS}
use Rattle.macs_record.specs.declared.record.Record.{Record}
use Rattle.macs_record.specs.declared.record.Record.TheVariants.{TxSa, RxSa, TxInstall, RxInstall, RxCeiling}
use Rattle.macs_record.proofs.KeyKinds.{of_its_kind}

-- ---- the kind of a number

abbrev pub of_number : ℕ → Option Kind
of_number number = find (λ (kind : Kind). kind_number kind == number) KINDS

of_its_number : (kind : Kind) → of_number (kind_number kind) ≡ Some kind
of_its_number kinds.Settings = refl
of_its_number kinds.TxSa = refl
of_its_number kinds.Channel = refl
of_its_number kinds.RxSa = refl
of_its_number kinds.Spent = refl
of_its_number kinds.SetValidate = refl
of_its_number kinds.SetReplay = refl
of_its_number kinds.SetSciMode = refl
of_its_number kinds.TxInstall = refl
of_its_number kinds.TxUse = refl
of_its_number kinds.TxRemove = refl
of_its_number kinds.RxAdd = refl
of_its_number kinds.RxDrop = refl
of_its_number kinds.RxInstall = refl
of_its_number kinds.RxRemove = refl
of_its_number kinds.TxCeiling = refl
of_its_number kinds.RxCeiling = refl
of_its_number kinds.TxSaLong = refl
of_its_number kinds.RxSaLong = refl
of_its_number kinds.TxInstallLong = refl
of_its_number kinds.RxInstallLong = refl

pub one_kind : (a b : Kind) → kind_number a ≡ kind_number b → a ≡ b
one_kind a b same = let found = sym (of_its_number a) ∙ ap of_number same ∙ of_its_number b in cc

found_passes : (test : Kind → Bool) (all : List Kind) (kind : Kind) → find test all ≡ Some kind → test kind ≡ true
found_passes test [] kind found = absurd cc
found_passes test (first ∷ others) kind found = elim (cases_Bool (test first)) [
  | inl passes ↦ let found_first = rw passes at found in let here : first ≡ kind = cc in rw (← here) passes
  | inr fails ↦ found_passes test others kind (rw fails at found)
]

-- the kind that was found is the one of this number
pub has_number : (number : ℕ) (result : Option Kind) → result ≡ of_number number
    → (kind : Kind)
    → (result ≡ Some kind → kind_number kind ≡ number) × (kind_number kind ≡ number → result ≡ Some kind)
has_number number result is kind = (
  (λ found. eqb-true (kind_number kind) number
      (found_passes (λ (k : Kind). kind_number k == number) KINDS kind (sym is ∙ found))),
  (λ same. is ∙ ap of_number (sym same) ∙ of_its_number kind),
)

-- the octets after the mark are the kind's
pub kind_read : (result : Option Kind) (number : ℕ) (old left : List ℕ)
    → ((kind : Kind)
    → (result ≡ Some kind → kind_number kind ≡ number) × (kind_number kind ≡ number → result ≡ Some kind))
    → old ≡ record_mark ++ number ∷ left → IfSome result (λ kind. old ≡ octets_of_kind kind ++ left)
kind_read None number old left of here = tt
kind_read (Some kind) number old left of here = here ∙ ap (λ (n : ℕ). record_mark ++ n ∷ left) (sym ((of kind).0 refl))

-- ---- what is shown of the records of one kind

-- the kind without the length of the key
abbrev short_kind : Kind → Kind
short_kind kinds.TxSaLong = kinds.TxSa
short_kind kinds.RxSaLong = kinds.RxSa
short_kind kinds.TxInstallLong = kinds.TxInstall
short_kind kinds.RxInstallLong = kinds.RxInstall
short_kind kind = kind

-- the kind of a record, were its key short
abbrev short_kind_of : Record → Kind
short_kind_of (TxSa an sa ceiling) = kinds.TxSa
short_kind_of (RxSa sci an sa ceiling) = kinds.RxSa
short_kind_of (TxInstall an sa start) = kinds.TxInstall
short_kind_of (RxInstall sci an sa start) = kinds.RxInstall
short_kind_of r = kind_of r

either : (test : Bool) (short long kind : Kind) → short_kind short ≡ kind → short_kind long ≡ kind
    → short_kind (if test then short else long) ≡ kind
either true short long kind shorts longs = shorts
either false short long kind shorts longs = longs

without_length : (r : Record) → short_kind (kind_of r) ≡ short_kind_of r
without_length (TxSa an sa ceiling) = either (length sa.key == 16) kinds.TxSa kinds.TxSaLong kinds.TxSa refl refl
without_length (RxSa sci an sa ceiling) = either (length sa.key == 16) kinds.RxSa kinds.RxSaLong kinds.RxSa refl refl
without_length (TxInstall an sa start) =
    either (length sa.key == 16) kinds.TxInstall kinds.TxInstallLong kinds.TxInstall refl refl
without_length (RxInstall sci an sa start) =
    either (length sa.key == 16) kinds.RxInstall kinds.RxInstallLong kinds.RxInstall refl refl
without_length r = refl

of_either : (keys : KeyLength) (short long kind : Kind) → short_kind short ≡ kind → short_kind long ≡ kind
    → short_kind (of_length keys short long) ≡ kind
of_either Short short long kind shorts longs = shorts
of_either Long short long kind shorts longs = longs

-- a record of one of two kinds is of the first, were its key short
one_of : (keys : KeyLength) (r : Record) (short long kind : Kind) → short_kind short ≡ kind → short_kind long ≡ kind
    → kind_of r ≡ of_length keys short long
    → short_kind_of r ≡ kind
one_of keys r short long kind shorts longs is = sym (without_length r) ∙ ap short_kind is
    ∙ of_either keys short long kind shorts longs

module _ (keys : KeyLength) where
  pub for_tx_sa : (S : Record → Type 0)
      → ((an : ℕ) (sa : TxSaFields) (ceiling : ℕ) → (IsKey sa.key → IsKeyOf keys sa.key) → S (TxSa an sa ceiling))
      → (r : Record) → kind_of r ≡ of_length keys kinds.TxSa kinds.TxSaLong → S r
  for_tx_sa S here (TxSa an sa ceiling) kind =
      here an sa ceiling (λ is. of_its_kind keys sa.key kinds.TxSa kinds.TxSaLong (λ e. cc) is kind)
  for_tx_sa S here r kind = let is = one_of keys r kinds.TxSa kinds.TxSaLong kinds.TxSa refl refl kind in absurd cc

  pub for_rx_sa : (S : Record → Type 0) → ((sci : List ℕ) (an : ℕ) (sa : RxSaFields) (ceiling : ℕ)
      → (IsKey sa.key → IsKeyOf keys sa.key) → S (RxSa sci an sa ceiling))
      → (r : Record) → kind_of r ≡ of_length keys kinds.RxSa kinds.RxSaLong → S r
  for_rx_sa S here (RxSa sci an sa ceiling) kind =
      here sci an sa ceiling (λ is. of_its_kind keys sa.key kinds.RxSa kinds.RxSaLong (λ e. cc) is kind)
  for_rx_sa S here r kind = let is = one_of keys r kinds.RxSa kinds.RxSaLong kinds.RxSa refl refl kind in absurd cc

  pub for_tx_install : (S : Record → Type 0)
      → ((an : ℕ) (sa : TxSaFields) (start : ℕ) → (IsKey sa.key → IsKeyOf keys sa.key) → S (TxInstall an sa start))
      → (r : Record) → kind_of r ≡ of_length keys kinds.TxInstall kinds.TxInstallLong → S r
  for_tx_install S here (TxInstall an sa start) kind =
      here an sa start (λ is. of_its_kind keys sa.key kinds.TxInstall kinds.TxInstallLong (λ e. cc) is kind)
  for_tx_install S here r kind = let is =
      one_of keys r kinds.TxInstall kinds.TxInstallLong kinds.TxInstall refl refl kind in absurd cc

  pub for_rx_install : (S : Record → Type 0) → ((sci : List ℕ) (an : ℕ) (sa : RxSaFields) (start : ℕ)
      → (IsKey sa.key → IsKeyOf keys sa.key) → S (RxInstall sci an sa start))
      → (r : Record) → kind_of r ≡ of_length keys kinds.RxInstall kinds.RxInstallLong → S r
  for_rx_install S here (RxInstall sci an sa start) kind =
      here sci an sa start (λ is. of_its_kind keys sa.key kinds.RxInstall kinds.RxInstallLong (λ e. cc) is kind)
  for_rx_install S here r kind = let is =
      one_of keys r kinds.RxInstall kinds.RxInstallLong kinds.RxInstall refl refl kind in absurd cc

pub for_rx_ceiling : (S : Record → Type 0) → ((sci : List ℕ) (an ceiling : ℕ) → S (RxCeiling sci an ceiling))
    → (r : Record) → kind_of r ≡ kinds.RxCeiling → S r
for_rx_ceiling S here (RxCeiling sci an ceiling) kind = here sci an ceiling
for_rx_ceiling S here r kind = let is = sym (without_length r) ∙ ap short_kind kind in absurd cc
