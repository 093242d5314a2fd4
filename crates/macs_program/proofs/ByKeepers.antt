-- A relay whose disk is in a file, or is kept, as its words say.
use Rattle.std.proofs.Common.{◌≡◌, ℕ, Bool, List, Option, Result, subst, sym}
use Rattle.std.specs.Borrow.{Bor}
use Rattle.macs_disk.specs.Files.{FileState}
use Rattle.macs_cli.specs.declared.failure.Failure.{Failure}
use Rattle.macs_cli.specs.declared.status.Status.{Status}
use Rattle.macs_cli.specs.declared.words.action.WireEnds.{WireEnds}
use Rattle.macs_program.specs.KeptRelays.{ComesToBy, RelayFailsBy}
use Rattle.macs_program.specs.Relaying.{Course, RelayedAs}

pub relayed-by : {F W : Type 0} (file : F → FileState) (course : Course) (keeper said : Option (Bor (List ℕ)))
    → keeper ≡ said
    → (contents : W → Option (List ℕ)) (has_failed : W → Bool) (controlled common : WireEnds) (before : W)
    (result : Result Status Failure) (after : W)
    → RelayedAs (ComesToBy file said course) (RelayFailsBy file said course) contents has_failed controlled common
    before result after
    → RelayedAs (ComesToBy file keeper course) (RelayFailsBy file keeper course) contents has_failed controlled common
    before result after
relayed-by file course keeper said is contents has_failed controlled common before result after relayed =
    subst (λ (k : Option (Bor (List ℕ))). RelayedAs (ComesToBy file k course) (RelayFailsBy file k course) contents
    has_failed controlled common before result after) (sym is) relayed
