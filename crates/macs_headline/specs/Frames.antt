-- The headline on transmitted frames.
use Rattle.std.specs.Prelude.{◌≡◌, ◌≢◌, ◌<◌, ◌≤◌, ◌+◌, ◌-◌, ◌%◌, ◌^◌, ◌++◌, if◌then◌else◌, ℕ, List, [], ◌∷◌, length}
use Rattle.std.specs.Prelude.{nat_lt, slice_index, slice_range, Contains, Some, Ok}
use Rattle.macs_fields.specs.Fields.{octets_of}
use Rattle.macs_frame.specs.Opening.{Verified}
use Rattle.macs_frame.specs.Protection.{protected_frame}
use Rattle.macs_frame.specs.Tag.{has_bit, name_of}
use Rattle.macs_frame.specs.declared.tag.ScName.{ScName}
use Rattle.macs_frame.specs.declared.tag.ScName.TheVariants.{EndStation as NamesStation, Explicit as NamesSci}
use Rattle.macs_frame.specs.declared.tag.ScName.TheVariants.{Implicit as NamesNone}
use Rattle.macs_config.specs.Association.{is_confidential, offset_of}
use Rattle.macs_config.specs.Identity.{IsIdentity}
use Rattle.macs_config.specs.declared.association.TxSa.{TxSa}
use Rattle.macs_config.specs.declared.command.SciMode.{SciMode}
use Rattle.macs_config.specs.declared.command.SciMode.TheVariants.{EndStation, Explicit, Implicit}
use Rattle.macs_txsc.specs.Transmit.{name_in}
use Rattle.macs_endpoint.specs.State.{Logs, Protects, Protected, State}
use Rattle.macs_endpoint.specs.Step.{Exchange, Step}
use Rattle.macs_store.specs.Standing.{Standing}
use Rattle.macs_headline.specs.Answered.{WasAnswered, exchanges_of_lives, lives_at}
use Rattle.macs_headline.specs.History.{Life, Past, logs_of}
use Rattle.macs_headline.specs.Moments.{IsFoundAfter, Moment}
use Rattle.macs_headline.specs.Numbers.{IsBeyondTx}

-- a tag names the channel with this SCI in this mode: the SCI is explicit, or ES is set, or the tag names none (IEEE
-- Std 802.1AE-2018, 9.5 and 9.9)
abbrev pub IsNamedIn : SciMode → List ℕ → ScName → Type 0
IsNamedIn Explicit sci name = name ≡ NamesSci sci
IsNamedIn EndStation sci name = name ≡ NamesStation
IsNamedIn Implicit sci name = name ≡ NamesNone

-- A frame is the standard's (IEEE Std 802.1AE-2018, clauses 9 and 10): the protected frame of the plain one under the
-- encoding association at that moment, with its mode and its next packet number, 1 to 2^32 - 1; the number is added to
-- those that were used, and the next one is one more. SL, octet 15, is the number of octets of Secure Data if they are
-- fewer than 48, so that the plain frame has fewer than 60, else 0 (9.7). If ES is set, the SCI is the source address
-- with port 00-01 (9.5). If the identity is in its ranges, the tag is read as the mode requires, octet 14 has the AN,
-- and E and C both set under confidentiality, else both clear (9.5 and 9.6); and the frame verifies as the plain one
-- under the key, the SCI and the offset of the association.
pub record IsStandardFrame (s : State) (plain : List ℕ) (pn : ℕ) (out : List ℕ) (new : State) : Type 0 where
  pub an : ℕ
  pub sa : TxSa
  pub encoding : s.config.encoding ≡ Some an
  pub association : s.config.tx an ≡ Some sa
  pub number : s.next an ≡ Some pn
  pub least : 1 ≤ pn
  pub most : pn < 2 ^ 32
  pub frame : out ≡ protected_frame sa.key s.identity.sci
      (record {
        an = an;
        pn = pn;
        name = name_in s.config.mode s.identity.sci;
        encrypted = is_confidential sa.protection;
        changed = is_confidential sa.protection;
      })
      (octets_of (offset_of sa.protection)) plain
  pub short : slice_index out 15 ≡ (if nat_lt (length plain) 60 then length plain - 12 else 0)
  pub logged : new.logs.used ≡ record { key = sa.key; pn = pn } ∷ s.logs.used
  pub next : new.next an ≡ Some (pn + 1)
  pub own : s.config.mode ≡ EndStation → s.identity.sci ≡ slice_range plain 6 12 ++ 0 ∷ 1 ∷ []
  pub named : IsIdentity s.identity → IsNamedIn s.config.mode s.identity.sci (name_of out)
  pub bits : IsIdentity s.identity → (slice_index out 14 % 4 ≡ an)
      × (has_bit (slice_index out 14) 0x08 ≡ is_confidential sa.protection)
      × (has_bit (slice_index out 14) 0x04 ≡ is_confidential sa.protection)
  pub read : IsIdentity s.identity → Verified out sa.key s.identity.sci (octets_of (offset_of sa.protection)) plain

-- each frame that is written is the standard's
abbrev pub FramesAreStandard : ℕ → Type 0
FramesAreStandard sectors = (s : State) → Moment sectors s → (plain : List ℕ) (pn : ℕ) (out : List ℕ) (new : State)
    → Step s (Protects plain) (Protected (Ok pn) out) new → IsStandardFrame s plain pn out new

-- ---- no number twice

-- `protect` was given this plain frame, and wrote that one with this number
abbrev pub writing : (plain : List ℕ) (pn : ℕ) (out : List ℕ) → Exchange
writing plain pn out = record { call = Protects plain; reply = Protected (Ok pn) out }

-- A frame was written in these lives, and it was protected under another key than this, or has another number.
pub record IsOtherFrame (sectors : ℕ) (lives : List Life) (logs : Logs) (plain : List ℕ) (pn : ℕ) (out key : List ℕ)
    (number : ℕ) : Type 0 where
  pub answered : WasAnswered sectors lives (writing plain pn out) logs
  pub frame : IsStandardFrame answered.at plain pn out answered.after
  pub other : frame.sa.key ≡ key → pn ≢ number

-- a frame that is written differs from each that was written in this life or in one before it: under the same key it
-- has another number
abbrev pub WrittenOnce : ℕ → Type 0
WrittenOnce sectors = (s : State) (m : Moment sectors s) (plain : List ℕ) (pn : ℕ) (out : List ℕ) (new : State)
    (f : IsStandardFrame s plain pn out new)
    → Step s (Protects plain) (Protected (Ok pn) out) new
    → (earlier : List ℕ) (was : ℕ) (given : List ℕ)
    → Contains (exchanges_of_lives (lives_at m)) (writing earlier was given)
    → IsOtherFrame sectors (lives_at m) s.logs earlier was given f.sa.key pn

-- ---- what is found is greater than the number of each

-- A frame was written in these lives, and this was found after them: the key of the frame is spent, and each
-- association with that key begins above the number.
pub record IsFoundBeyondFrame (sectors : ℕ) (lives : List Life) (logs : Logs) (plain : List ℕ) (pn : ℕ) (out : List ℕ)
    (found : Standing) : Type 0 where
  pub answered : WasAnswered sectors lives (writing plain pn out) logs
  pub frame : IsStandardFrame answered.at plain pn out answered.after
  pub beyond : IsBeyondTx found frame.sa.key pn

-- this holds in every image, for each frame that any life before it wrote
abbrev pub WrittenBelow : ℕ → Type 0
WrittenBelow sectors =
    (past : Past) (found : Standing) (f : IsFoundAfter sectors past found) (plain : List ℕ) (pn : ℕ) (out : List ℕ)
    → Contains (exchanges_of_lives f.lives) (writing plain pn out)
    → IsFoundBeyondFrame sectors f.lives (logs_of past) plain pn out found
