-- The configuration of a MAC Security Entity.
use Rattle.std.specs.Prelude.{◌≡◌, ◌≤◌, ◌<◌, ℕ, Bool, true, false, ◌&&◌, ◌||◌, ◌==◌, not, if◌then◌else◌, List, [], ◌∷◌}
use Rattle.std.specs.Prelude.{◌++◌, length, Option, Some, None, IsSome, IfSome}
use Rattle.std.specs.List.{list_any}
use Rattle.std.specs.Str.{bytes_eq}
use Rattle.std.specs.Cmp.Lexicographic.{slice_cmp}
use Rattle.std.specs.Ordering.{is_lt, nat_cmp}
use Rattle.sha2.specs.Sha256.{sha256}
use Rattle.macs_config.specs.Identity.{Identity, is_port_one}
use Rattle.macs_config.specs.declared.association.TxSa.{TxSa}
use Rattle.macs_config.specs.declared.association.RxSa.{RxSa}
use Rattle.macs_config.specs.declared.command.Validate.{Validate}
use Rattle.macs_config.specs.declared.command.Validate.TheVariants.{Strict}
use Rattle.macs_config.specs.declared.command.Replay.{Replay}
use Rattle.macs_config.specs.declared.command.SciMode.{SciMode}
use Rattle.macs_config.specs.declared.command.SciMode.TheVariants.{Explicit, EndStation}
use Rattle.macs_config.specs.declared.command.Role.{Role}
use Rattle.macs_config.specs.declared.command.Role.TheVariants.{Transmit, Receive}

-- what an edition of the product accepts: how many receive channels, whether keys of 32 octets besides those of 16, and
-- whether areas of format two besides those of format one
pub record Edition : Type 0 where
  pub channels : ℕ
  pub long_keys : Bool
  pub format_two : Bool

-- at most 8 receive channels, only keys of 16 octets, and only areas of format one
abbrev pub first_edition : Edition
first_edition = record { channels = 8; long_keys = false; format_two = false }

-- the edition of this program: at most 32 receive channels, also keys of 32 octets, and also areas of format two
abbrev pub this_edition : Edition
this_edition = record { channels = 32; long_keys = true; format_two = true }

-- the larger edition accepts everything that the smaller one accepts
pub record IsUpTo (small large : Edition) : Type 0 where
  pub channels : small.channels ≤ large.channels
  pub long_keys : small.long_keys ≡ true → large.long_keys ≡ true
  pub format_two : small.format_two ≡ true → large.format_two ≡ true

-- an edition accepts a key of this many octets: 32, for GCM-AES-256 (IEEE Std 802.1AE-2018, 14.6), if it accepts long
-- keys, and 16, for GCM-AES-128 (14.5)
abbrev pub takes_key : Edition → List ℕ → Bool
takes_key edition key = (edition.long_keys && (length key == 32)) || (length key == 16)

-- how many keys may be spent on a side
abbrev pub max_spent : ℕ
max_spent = 512

-- Associations by number, receive associations by SCI and number; the receive channels as their SCIs, ascending; the
-- fingerprints of spent keys in the order of installation. It holds no start, next number or ceiling.
pub record Config : Type 0 where
  pub validate : Validate
  pub replay : Replay
  pub mode : SciMode
  pub encoding : Option ℕ
  pub tx : ℕ → Option TxSa
  pub channels : List (List ℕ)
  pub rx : List ℕ → ℕ → Option RxSa
  pub spent_tx : List (List ℕ)
  pub spent_rx : List (List ℕ)

-- the configuration of a newly formatted endpoint
abbrev pub default : Config
default = record {
  validate = Strict;
  replay = record { on = true; window = 0 };
  mode = Explicit;
  encoding = None;
  tx = λ an. None;
  channels = [];
  rx = λ sci an. None;
  spent_tx = [];
  spent_rx = [];
}

-- ---- channels

-- a list of SCIs or fingerprints has this one
abbrev pub is_among : List (List ℕ) → List ℕ → Bool
is_among items item = list_any (λ other. bytes_eq other item) items

-- a receive channel with that SCI exists
abbrev pub has_channel : Config → List ℕ → Bool
has_channel c sci = is_among c.channels sci

-- an SCI is less than another one: compared by the first octet in which they differ, like 64-bit numbers
abbrev pub comes_before : List ℕ → List ℕ → Bool
comes_before a b = is_lt (slice_cmp nat_cmp a b)

-- an SCI inserted into an ascending list
abbrev pub put_among : List ℕ → List (List ℕ) → List (List ℕ)
put_among sci [] = sci ∷ []
put_among sci (other ∷ others) =
    if comes_before sci other then sci ∷ other ∷ others else other ∷ put_among sci others

-- each SCI is less than the next, so that none occurs twice
abbrev pub is_ascending : List (List ℕ) → Bool
is_ascending [] = true
is_ascending (sci ∷ []) = true
is_ascending (sci ∷ next ∷ others) = comes_before sci next && is_ascending (next ∷ others)

-- ---- spent keys

-- the fingerprint of a key on the transmit side: the SHA-256 of the key (FIPS 180-4), 32 octets
abbrev pub tx_fingerprint : List ℕ → List ℕ
tx_fingerprint key = sha256 key

-- the fingerprint of a key with an SCI on the receive side: the SHA-256 of the SCI followed by the key, 32 octets
abbrev pub rx_fingerprint : List ℕ → List ℕ → List ℕ
rx_fingerprint sci key = sha256 (sci ++ key)

-- a key with this fingerprint was installed on that side, and is never installed again there
abbrev pub is_spent : List (List ℕ) → List ℕ → Bool
is_spent spent fingerprint = is_among spent fingerprint

-- the fingerprints of a side's spent keys, in the order of installation
abbrev pub spent_of : Role → Config → List (List ℕ)
spent_of Transmit c = c.spent_tx
spent_of Receive c = c.spent_rx

-- none occurs twice
abbrev pub are_distinct : List (List ℕ) → Bool
are_distinct [] = true
are_distinct (item ∷ items) = not (is_among items item) && are_distinct items

-- ---- what holds of every configuration

-- Associations that exist have keys that the edition accepts, and that are spent. Two of them may have the same key: a
-- key is spent for a side and, on the receive side, for an SCI.
pub record IsConfig (edition : Edition) (identity : Identity) (c : Config) : Type 0 where
  pub encoding_stands : IfSome c.encoding (λ an. IsSome (c.tx an))
  pub end_station : c.mode ≡ EndStation → is_port_one identity.sci ≡ true
  pub channels_ascend : is_ascending c.channels ≡ true
  pub channels_fit : length c.channels ≤ edition.channels
  pub own_sci_free : has_channel c identity.sci ≡ false
  pub rx_channels : (sci : List ℕ) (an : ℕ) (sa : RxSa) → c.rx sci an ≡ Some sa → has_channel c sci ≡ true
  pub tx_taken : (an : ℕ) (sa : TxSa) → c.tx an ≡ Some sa → takes_key edition sa.key ≡ true
  pub rx_taken : (sci : List ℕ) (an : ℕ) (sa : RxSa) → c.rx sci an ≡ Some sa → takes_key edition sa.key ≡ true
  pub tx_spent : (an : ℕ) (sa : TxSa) → an < 4 → c.tx an ≡ Some sa → is_spent c.spent_tx (tx_fingerprint sa.key) ≡ true
  pub rx_spent : (sci : List ℕ) (an : ℕ) (sa : RxSa) → an < 4 → c.rx sci an ≡ Some sa
      → is_spent c.spent_rx (rx_fingerprint sci sa.key) ≡ true
  pub spent_once : (role : Role) → are_distinct (spent_of role c) ≡ true
  pub spent_fit : (role : Role) → length (spent_of role c) ≤ max_spent
