-- The system calls that make a control socket, and their order.
use Rattle.std.specs.Prelude.{◌≡◌, ◌⊎◌, ◌++◌, ℕ, Bool, true, false, List, [], ◌∷◌, Option}
use Rattle.macs_control.specs.Calls.{with_calls}
use Rattle.macs_control.specs.declared.binding.Reach.{Reach}
use Rattle.macs_control.specs.declared.binding.Reach.TheVariants as found

-- a name is looked up; a name is removed; a socket is made; its mode is set; it is bound to a name; it listens: and the
-- result of each
pub data SocketCall : Type 0 where
  Reaches : (path : List ℕ) → (reach : Reach) → SocketCall
  Removes : (path : List ℕ) → (done : Bool) → SocketCall
  Makes : (done : Bool) → SocketCall
  SetsMode : (mode : ℕ) → (done : Bool) → SocketCall
  Binds : (path : List ℕ) → (done : Bool) → SocketCall
  Listens : (done : Bool) → SocketCall

-- the calls that find a name free, or free it: the second of them removes a stale socket
abbrev pub IsClear : List ℕ → List SocketCall → Type 0
IsClear path calls =
    (calls ≡ Reaches path found.Nothing ∷ []) ⊎ (calls ≡ Reaches path found.Stale ∷ Removes path true ∷ [])

-- those that find it taken, or cannot free it
abbrev pub IsTaken : List ℕ → List SocketCall → Type 0
IsTaken path calls =
    (calls ≡ Reaches path found.Taken ∷ []) ⊎ (calls ≡ Reaches path found.Stale ∷ Removes path false ∷ [])

-- whether a name is free now, and by which calls
abbrev pub Clears : List ℕ → Option (List SocketCall) → Option (List SocketCall) → Bool → Type 0
Clears path before after true = (calls : List SocketCall) × IsClear path calls × (after ≡ with_calls before calls)
Clears path before after false = (calls : List SocketCall) × IsTaken path calls × (after ≡ with_calls before calls)

-- the calls that make a socket with a name: it is made, its mode is set to 0600, and then it is bound
abbrev pub named_calls : List ℕ → List SocketCall
named_calls path = Makes true ∷ SetsMode 384 true ∷ Binds path true ∷ []

-- these fail at one of them, which is the last one
abbrev pub CutCalls : List ℕ → List SocketCall → Type 0
CutCalls path calls = (calls ≡ Makes false ∷ []) ⊎ (calls ≡ Makes true ∷ SetsMode 384 false ∷ [])
    ⊎ (calls ≡ Makes true ∷ SetsMode 384 true ∷ Binds path false ∷ [])

-- no socket is named: these calls were made, and the last of them failed
abbrev pub IsNotNamed : List ℕ → Option (List SocketCall) → Option (List SocketCall) → Type 0
IsNotNamed path before after = (calls : List SocketCall) × CutCalls path calls × (after ≡ with_calls before calls)

-- the name is free, the socket is bound to it and listens
abbrev pub IsBound : List ℕ → Option (List SocketCall) → Option (List SocketCall) → Type 0
IsBound path before after =
    (calls : List SocketCall) × IsClear path calls
    × (after ≡ with_calls before (calls ++ named_calls path ++ Listens true ∷ []))

-- the name is taken; or it is free and one of the next calls fails, which is the last one
abbrev pub IsNotBound : List ℕ → Option (List SocketCall) → Option (List SocketCall) → Type 0
IsNotBound path before after =
    ((calls : List SocketCall) × IsTaken path calls × (after ≡ with_calls before calls))
    ⊎ ((calls : List SocketCall) × (cut : List SocketCall) × IsClear path calls × CutCalls path cut
    × (after ≡ with_calls before (calls ++ cut)))
    ⊎ ((calls : List SocketCall) × IsClear path calls
    × (after ≡ with_calls before (calls ++ named_calls path ++ Listens false ∷ [])))
