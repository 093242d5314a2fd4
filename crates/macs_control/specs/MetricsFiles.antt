-- How a file is replaced, and when a file of counters is.
use Rattle.std.specs.Prelude.{◌≡◌, ◌⊎◌, ◌++◌, ℕ, Bool, true, false, List, [], ◌∷◌, Option, Some, None}
use Rattle.std.specs.Prelude.{codes, string_bytes}
use Rattle.std.specs.Borrow.{Bor}
use Rattle.macs_commands.specs.Talks.{Note, Asked, Put}
use Rattle.macs_control.specs.Calls.{with_calls}
use Rattle.macs_control.specs.Seconds.{LooksAtClock}
use Rattle.macs_control.specs.declared.metrics_file.MetricsFile.{MetricsFile}
use Rattle.macs_control.specs.declared.metrics_file.MetricsPlace.{MetricsPlace}
use Rattle.macs_control.specs.declared.metrics_file.MetricsPlace.TheVariants.{Nowhere, File}

-- a name is freed; a new file is made with a text, under an unused name; or a file is renamed over another: and whether
-- the call succeeded
pub data FileCall : Type 0 where
  Removes : (path : List ℕ) → (done : Bool) → FileCall
  Makes : (path : List ℕ) → (text : List ℕ) → (done : Bool) → FileCall
  Renames : (from : List ℕ) → (to : List ℕ) → (done : Bool) → FileCall

-- The name of the new file is freed, the file is made with the text, and is renamed over the other one. A call that
-- fails is the last one
abbrev pub Replaces : List ℕ → List ℕ → List ℕ → Option (List FileCall) → Option (List FileCall) → Type 0
Replaces new path text before after =
    (after ≡ with_calls before (Removes new false ∷ []))
    ⊎ (after ≡ with_calls before (Removes new true ∷ Makes new text false ∷ []))
    ⊎ ((renamed : Bool)
    × (after ≡ with_calls before (Removes new true ∷ Makes new text true ∷ Renames new path renamed ∷ [])))

-- the name under which the new file is written
abbrev pub new_name : List ℕ → List ℕ
new_name path = path ++ codes ".new"

-- the file of counters with this name, before the first look at the clock
abbrev pub IsFileAt : {T : Type 0} → List ℕ → MetricsFile T → Type 0
IsFileAt path file =
    (file.path.now ≡ path) × (string_bytes file.new ≡ new_name path) × (file.second.last ≡ None)

-- the place of the counters is the file with this name, if one is given
abbrev pub IsPlaceAt : {T : Type 0} → Option (Bor (List ℕ)) → MetricsPlace T → Type 0
IsPlaceAt None place = place ≡ Nowhere
IsPlaceAt (Some path) place = (file : MetricsFile _) × (place ≡ File file) × IsFileAt path.now file

-- a file of counters is due once its second has ended, and only that second is another one then; a text that is written
-- changes nothing of it
abbrev pub IsNoted : {T : Type 0} → MetricsFile T → Note → MetricsFile T → Type 0
IsNoted old (Asked due) new =
    LooksAtClock old.second.last due new.second.last × (new ≡ record old { second = new.second })
IsNoted old (Put text) new = new ≡ old

-- the same of the place of the counters: nothing is ever due nowhere
abbrev pub IsNotedAt : {T : Type 0} → MetricsPlace T → Note → MetricsPlace T → Type 0
IsNotedAt Nowhere (Asked due) new = (due ≡ false) × (new ≡ Nowhere)
IsNotedAt Nowhere (Put text) new = new ≡ Nowhere
IsNotedAt (File old) note new = (file : MetricsFile _) × (new ≡ File file) × IsNoted old note file
