-- A `format` answers Ok once at most, and an opening is refused as NotFormatted before it alone.
use Rattle.std.proofs.Common.{inl, inr, ℕ, true, List, [], ◌∷◌, ◌++◌, refl, sym, subst}
use Rattle.macs_config.specs.Config.{Edition}
use Rattle.macs_config.specs.Identity.{Identity}
use Rattle.macs_headline.specs.Openings.{AreUnformatted, FormatsOnce, RefusedByHistory}
use Rattle.macs_headline.specs.History.{Blank, FormatLeads, Formats, Formatted, IsHistory, LeadOn, Life, Past, Serves}
use Rattle.macs_headline.proofs.Openings.{refused-for-disk-or-blank, refused-for-disk-or-spent}
use Rattle.macs_headline.proofs.Refusals.{IsFormatted, formatted-by}

-- a list of lives, in two parts
pub lead-front : (sectors : ℕ) (before more : List Life) (old new : Past) → LeadOn sectors old (before ++ more) new
    → (mid : Past) × LeadOn sectors old before mid × LeadOn sectors mid more new
lead-front sectors [] more old new leads = (old, refl, leads)
lead-front sectors (life ∷ before) more old new (next, leads, rest) =
    let parts = lead-front sectors before more next new rest in
    (parts.0, (next, leads, parts.1), parts.2)

-- lives that lead to a disk that is not formatted for sure
unformatted : (sectors : ℕ) (lives : List Life) (past : Past) → IsHistory sectors lives past → ¬ IsFormatted past
    → AreUnformatted lives
unformatted sectors lives past history never = record {
  no_format = λ edition identity among.
      never (formatted-by sectors (Blank []) lives past (Formats edition identity true) history among tt);
  no_opening = λ edition image exchanges cut among.
      never (formatted-by sectors (Blank []) lives past (Serves edition image exchanges cut) history among tt);
}

not_before : (old : Past) (edition : Edition) (identity : Identity) (new : Past)
    → FormatLeads old edition identity true new → ¬ IsFormatted old
not_before (Blank identities) edition identity new leads formatted = formatted
not_before (Formatted s) edition identity new leads formatted = leads

pub formats-once : (sectors : ℕ) → FormatsOnce sectors
formats-once sectors lives past history before after edition identity there =
    let whole : LeadOn sectors (Blank []) (before ++ Formats edition identity true ∷ after) past =
    subst (λ (lives : List Life). LeadOn sectors (Blank []) lives past) (sym there) history in
    let parts = lead-front sectors before (Formats edition identity true ∷ after) (Blank []) past whole in
    let next = parts.2 in
    unformatted sectors before parts.0 parts.1 (not_before parts.0 edition identity next.0 next.1)

pub refused-by-history : (sectors : ℕ) → RefusedByHistory sectors
refused-by-history sectors lives (Formatted s) history edition image fault new leads =
    elim (refused-for-disk-or-spent sectors s edition image fault new leads) [
      | inl disk ↦ inl disk
      | inr spent ↦ inr (inr spent)
    ]
refused-by-history sectors lives (Blank identities) history edition image fault new leads =
    elim (refused-for-disk-or-blank sectors identities edition image fault new leads) [
      | inl disk ↦ inl disk
      | inr later ↦ elim later [
        | inl blank ↦ inr (inl (blank, unformatted sectors lives (Blank identities) history (λ formatted. formatted)))
        | inr spent ↦ inr (inr spent)
      ]
    ]
