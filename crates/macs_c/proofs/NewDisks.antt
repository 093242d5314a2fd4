-- Sectors of a new endpoint are opened.
use Rattle.std.proofs.Common.{◌≡◌, ◌∙◌, ℕ, Bool, true, false, List, length, Result, Ok, Err, refl, sym, ap, subst}
use Rattle.std.specs.Prelude.{Option, Some, None}
use Rattle.macs_config.specs.Config.{this_edition}
use Rattle.macs_config.specs.Identity.{Identity}
use Rattle.macs_journal.specs.Formatting.{first_content}
use Rattle.macs_journal.specs.Found.{Content, HasJournal}
use Rattle.macs_journal.specs.declared.fault.JournalFault.{JournalFault}
use Rattle.macs_journal.specs.declared.fault.JournalFault.TheVariants as fault
use Rattle.macs_journal.proofs.Current.{one_content}
use Rattle.macs_store.specs.Found.{IsOld, StandingIs}
use Rattle.macs_store.specs.Replay.{migrates}
use Rattle.macs_store.specs.Standing.{Standing}
use Rattle.macs_store.specs.Value.{standing_in}
use Rattle.macs_store.proofs.OneStanding.{one_standing}
use Rattle.macs_c.specs.Calls.{E, IsRefusedFor, OpenAnswer}
use Rattle.macs_c.specs.ImageDisks.{image_of}
use Rattle.macs_c.specs.declared.answers.Answer.{Answer}
use Rattle.macs_c.specs.declared.answers.Answer.TheVariants as code
use Rattle.macs_c.specs.declared.slot.Slot.{Slot}

ok-same : (a b : Standing) → ◌≡◌ {A = Result Standing JournalFault} (Ok a) (Ok b) → a ≡ b
ok-same a b same = cc

module _ (sectors : List (List ℕ)) (identity : Identity) (s : Standing)
    (stands : StandingIs this_edition (length sectors) (image_of sectors) (Ok s))
    (journal : HasJournal (image_of sectors) (first_content identity)) where
  -- its journal is of format two
  not-old : (c : Content) (t : Standing) → IsOld this_edition (image_of sectors) c t → ⊥
  not-old c t old =
      let same = one_content (image_of sectors) c (first_content identity) old.found journal in
      let no : false ≡ true = subst (λ (c : Content). migrates this_edition c.head.format ≡ true) same old.old in
      cc

  not-refused : (why : JournalFault) → StandingIs this_edition (length sectors) (image_of sectors) (Err why) → ⊥
  not-refused why is =
      let same = one_standing this_edition (length sectors) (image_of sectors) (Ok s) (Err why) stands is in cc

  opens-always : (why : JournalFault) → IsRefusedFor sectors why → ⊥
  opens-always fault.Disk refused = refused.1 (λ c t old. not-old c t old.is)
  opens-always fault.GenerationsSpent refused = not-old refused.1.content refused.1.standing refused.1.is
  opens-always fault.Stopped refused = not-refused fault.Stopped refused
  opens-always fault.TooSmall refused = not-refused fault.TooSmall refused
  opens-always fault.AlreadyFormatted refused = not-refused fault.AlreadyFormatted refused
  opens-always fault.NotFormatted refused = not-refused fault.NotFormatted refused
  opens-always fault.BadJournal refused = not-refused fault.BadJournal refused

  pub opened-new : (honest : Bool) (answer : Answer) (there : Option Slot) → OpenAnswer honest sectors None answer there
      → (slot : Slot) × (there ≡ Some slot) × (answer ≡ code.Success) × (standing_in slot.endpoint.store ≡ s)
  opened-new honest answer None is = absurd (opens-always is.0 is.2)
  opened-new honest answer (Some slot) is = (
    slot,
    refl,
    is.0,
    ap (λ (e : E). standing_in e.store) is.1.moved
        ∙ sym (ok-same s (standing_in is.1.from.store)
        (one_standing this_edition (length sectors) (image_of sectors) (Ok s) (Ok (standing_in is.1.from.store)) stands
        (is.1.opens.found refl))),
  )
