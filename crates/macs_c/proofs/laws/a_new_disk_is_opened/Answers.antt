use Rattle.std.proofs.Common.{ℕ, Ok, subst, sym}
use Rattle.macs_config.specs.Config.{this_edition}
use Rattle.macs_store.specs.Found.{StandingIs}
use Rattle.macs_store.specs.Standing.{new_standing}
use Rattle.macs_c.specs.Formatted.{identity_of}
use Rattle.macs_c.specs.ImageDisks.{image_of}
use Rattle.macs_c.proofs.NewDisks.{opened-new}
use Rattle.macs_c.proofs.laws.a_new_disk_is_opened.Goals as goal

pub returns : goal.returns
returns c = λ old new asked made honest answer there opened.
    opened-new new (identity_of asked) (new_standing this_edition (identity_of asked))
    (subst (λ (n : ℕ). StandingIs this_edition n (image_of new) (Ok (new_standing this_edition (identity_of asked))))
    (sym made.1) made.2.formatted.stands)
    made.2.journal honest answer there opened
