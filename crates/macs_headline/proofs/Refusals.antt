-- An opening is refused only where a device call failed, where no life formatted the disk for sure, or for a last
-- generation in an older format.
use Rattle.std.proofs.Common.{◌≡◌, ◌≢◌, ◌⊎◌, inl, inr, ℕ, Bool, true, false, List, [], ◌∷◌, refl, sym, ◌∙◌, subst}
use Rattle.std.specs.Prelude.{Contains}
use Rattle.macs_config.specs.Config.{Edition, this_edition}
use Rattle.macs_config.specs.Identity.{Identity}
use Rattle.macs_disk.specs.Disk.{Disk, IsHonest, now}
use Rattle.macs_disk.specs.States.{Image, IsSound}
use Rattle.macs_journal.specs.Work.{FailsWith}
use Rattle.macs_journal.specs.declared.fault.JournalFault.{JournalFault}
use Rattle.macs_journal.specs.declared.fault.JournalFault.TheVariants as variant
use Rattle.macs_store.specs.Opening.{IsUnfit, RefusesDisk}
use Rattle.macs_endpoint.specs.Opening.{RefusesOpening}
use Rattle.macs_endpoint.specs.Restart.{Fits}
use Rattle.macs_endpoint.specs.State.{State}
use Rattle.macs_headline.specs.Binding.{RefusalsAreFailures}
use Rattle.macs_headline.specs.History.{Blank, FitsPast, FormatLeads, Formats, Formatted, LeadOn, Leads, Life, Past}
use Rattle.macs_headline.specs.History.{Refuses, Serves}
use Rattle.macs_headline.proofs.Chains.{history-covers}
use Rattle.macs_headline.proofs.Lists.{contains-cases, contains-none}
use Rattle.macs_headline.proofs.Living.{why-refused}
use Rattle.macs_headline.proofs.Losses.{IsCovered, covered-seen}
use Rattle.macs_headline.specs.Openings.{IsSpentFor}
use Rattle.macs_headline.proofs.Openings.{refused-for-disk-or-blank}

-- a life after which the disk is formatted for sure: a `format` that answered Ok, or an opening that was not refused
abbrev pub IsFormatting : Life → Type 0
IsFormatting (Formats edition identity true) = Unit {0}
IsFormatting (Serves edition image exchanges cut) = Unit {0}
IsFormatting life = ⊥

-- the disk is formatted for sure
abbrev pub IsFormatted : Past → Type 0
IsFormatted (Blank identities) = ⊥
IsFormatted (Formatted s) = Unit {0}

by_format : (old : Past) (edition : Edition) (identity : Identity) (new : Past)
    → FormatLeads old edition identity true new → IsFormatted new
by_format (Blank identities) edition identity new is = subst IsFormatted (sym is) tt
by_format (Formatted s) edition identity new h = absurd h

stays_formatted : (old : Past) (edition : Edition) (identity : Identity) (is_ok : Bool) (new : Past)
    → FormatLeads old edition identity is_ok new → IsFormatted old
    → IsFormatted new
stays_formatted (Blank identities) edition identity is_ok new h formatted = absurd formatted
stays_formatted (Formatted s) edition identity true new h formatted = absurd h
stays_formatted (Formatted s) edition identity false new is formatted = subst IsFormatted (sym is) tt

module _ (sectors : ℕ) where
  formats : (old : Past) (life : Life) (new : Past) → Leads sectors old life new → IsFormatting life → IsFormatted new
  formats old (Formats edition identity true) new h is = by_format old edition identity new h
  formats old (Formats edition identity false) new h is = absurd is
  formats old (Refuses edition image fault) new h is = absurd is
  formats old (Serves edition image exchanges cut) new (last, life, in_range, same) is = subst IsFormatted (sym same) tt

  stays : (old : Past) (life : Life) (new : Past) → Leads sectors old life new → IsFormatted old → IsFormatted new
  stays old (Formats edition identity is_ok) new h is = stays_formatted old edition identity is_ok new h is
  stays old (Refuses edition image fault) new h is = subst IsFormatted (sym h.2) is
  stays old (Serves edition image exchanges cut) new (last, life, in_range, same) is = subst IsFormatted (sym same) tt

  stay : (old : Past) (lives : List Life) (new : Past) → LeadOn sectors old lives new → IsFormatted old
      → IsFormatted new
  stay old [] new same is = subst IsFormatted (sym same) is
  stay old (life ∷ lives) new h is = stay h.0 lives new h.2 (stays old life h.0 h.1 is)

  pub formatted-by : (old : Past) (lives : List Life) (new : Past) (life : Life) → LeadOn sectors old lives new
      → Contains lives life → IsFormatting life → IsFormatted new
  formatted-by old [] new life h among is = absurd (contains-none _ among)
  formatted-by old (first ∷ lives) new life h among is = elim (contains-cases first lives life among) [
    | inl here ↦ stay h.0 lives new h.2 (formats old first h.0 h.1 (subst IsFormatting here is))
    | inr later ↦ formatted-by h.0 lives new life h.2 later is
  ]

fits_one : (sectors : ℕ) (s : State) (image : Image) → FitsPast this_edition sectors (Formatted s) image
    → (s : State) × Fits this_edition sectors image s
fits_one sectors s image fits = (s, fits)

not_disk : (fault : JournalFault) → fault ≡ variant.GenerationsSpent → fault ≢ variant.Disk
not_disk fault spent failed = let never : variant.GenerationsSpent ≡ variant.Disk = sym spent ∙ failed in cc

-- what is said of a disk whose generation is spent
pub spent-for : {D : Type 0} (disk_of : D → Disk) (disk left : D) (fault : JournalFault) → IsHonest (disk_of left)
    → RefusesDisk disk_of disk left fault
    → fault ≡ variant.GenerationsSpent → IsSpentFor this_edition (now (disk_of disk)).seen fault
spent-for disk_of disk left fault honest refused spent = (
  spent,
  (subst (λ (f : JournalFault). IsUnfit disk_of disk f) spent (refused.found (not_disk fault spent) honest)).1,
)

-- a refused opening after some past
by_past : {D : Type 0} (disk_of : D → Disk) (sound : (it : D) → IsHonest (disk_of it) → IsSound (now (disk_of it)))
    (disk left : D) (fault : JournalFault) (past : Past)
    → IsCovered (disk_of disk).sectors past (disk_of disk) → RefusesOpening disk_of disk left fault
    → (fault ≡ variant.Disk) ⊎ (((fault ≡ variant.NotFormatted) × (¬ IsFormatted past))
    ⊎ IsSpentFor this_edition (now (disk_of disk)).seen fault)
by_past disk_of sound disk left fault (Blank identities) covered opening =
    let old = disk_of disk in
    let honest : IsHonest (disk_of left) = opening.refused.works.honest ∙ covered.honest in
    let may_see = covered-seen old.sectors (Blank identities) old (sound disk covered.honest) covered in
    let why = why-refused old.sectors (now old).seen fault (λ other. opening.refused.found other honest) in
    elim (refused-for-disk-or-blank old.sectors identities this_edition (now old).seen fault (Blank identities)
    (may_see, why, refl)) [
      | inl disk ↦ inl disk
      | inr later ↦ elim later [
        | inl blank ↦ inr (inl (blank, λ is. is))
        | inr spent ↦ inr (inr spent)
      ]
    ]
by_past disk_of sound disk left fault (Formatted s) covered opening =
    let honest : IsHonest (disk_of left) = opening.refused.works.honest ∙ covered.honest in
    elim (opening.opens honest (λ image may. fits_one (disk_of disk).sectors s image (covered.images image may))) [
      | inl failed ↦ inl failed
      | inr spent ↦ inr (inr (spent-for disk_of disk left fault honest opening.refused spent))
    ]

pub refusals-are-failures : {D : Type 0} (disk_of : D → Disk) (sound : (it : D) → IsHonest (disk_of it)
    → IsSound (now (disk_of it))) → RefusalsAreFailures disk_of
refusals-are-failures disk_of sound disk before refused h opening =
    let old = disk_of disk in
    let new = disk_of refused.disk in
    elim (by_past disk_of sound disk refused.disk refused.fault h.past (history-covers old before h) opening) [
      | inl for_disk ↦ inl
          (for_disk, subst (λ (at : JournalFault). FailsWith old new at) for_disk opening.refused.fails)
      | inr later ↦ elim later [
        | inl blank ↦
            let never : (life : Life) → Contains before life → ¬ IsFormatting life =
            (λ life among is. blank.1 (formatted-by old.sectors (Blank []) before h.past life h.history among is)) in
            inr (inl (
              blank.0,
              λ edition identity among. never (Formats edition identity true) among tt,
              λ edition image exchanges cut among. never (Serves edition image exchanges cut) among tt,
            ))
        | inr spent ↦ inr (inr spent)
      ]
    ]
