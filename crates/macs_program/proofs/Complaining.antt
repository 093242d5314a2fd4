-- The line of a failure on a stream.
use Rattle.std.proofs.Common.{◌≡◌, ◌++◌, inl, inr, ℕ, Bool, true, List, Option, Result, Ok, Err, OnErr, OnOk, subst}
use Rattle.std.proofs.KnownBytes.{Appends-trans}
use Rattle.std.specs.Io.KnownBytes.{Appends}
use Rattle.macs_program.specs.Run.{PrintsUnlessFailed}

-- three texts are printed, one after another
pub three-printed : {T E : Type 0} (first second third fourth : Option (List ℕ)) (name text handed end : List ℕ)
    (last : Result T E) → text ≡ handed
    → Appends first second name → Appends second third text → OnOk last (Appends third fourth end)
    → OnOk last (Appends first fourth ((name ++ handed) ++ end))
three-printed first second third fourth name text handed end (Ok done) same one two three =
    subst (λ (t : List ℕ). Appends first fourth ((name ++ t) ++ end)) same
    (Appends-trans first third fourth (name ++ text) end (Appends-trans first second third name text one two) three)
three-printed first second third fourth name text handed end (Err fault) same one two three = tt

-- a line is printed whole, or the stream failed
pub printed-or-failed : {T E : Type 0} (before after : Option (List ℕ)) (failed : Bool) (text : List ℕ)
    (answer : Result T E)
    → OnOk answer (Appends before after text)
    → OnErr answer (failed ≡ true) → PrintsUnlessFailed before after failed text
printed-or-failed before after failed text (Ok done) printed broken = inl printed
printed-or-failed before after failed text (Err fault) printed broken = inr broken
