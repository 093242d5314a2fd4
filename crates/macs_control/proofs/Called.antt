-- Calls that follow each other.
use Rattle.std.proofs.Common.{◌≡◌, ◌∙◌, inl, inr, ℕ, Bool, true, false, List, [], ◌∷◌, ◌++◌, Option, Some, None}
use Rattle.std.proofs.Common.{refl, ap}
use Rattle.std.proofs.lemmas.List.{append_assoc}
use Rattle.macs_control.specs.Binding.{Binds, Clears, IsNotNamed, Makes, Reaches}
use Rattle.macs_control.specs.Binding.{Removes, SetsMode, SocketCall}
use Rattle.macs_control.specs.Calls.{with_calls}
use Rattle.macs_control.specs.declared.binding.Reach.TheVariants as found

-- some calls, and then more
pub calls-more : (a b d : Option (List SocketCall)) (calls more : List SocketCall) → b ≡ with_calls a calls
    → d ≡ with_calls b more
    → d ≡ with_calls a (calls ++ more)
calls-more None b d calls more one two = two ∙ ap (λ (x : Option (List SocketCall)). with_calls x more) one
calls-more (Some before) b d calls more one two =
    two ∙ ap (λ (x : Option (List SocketCall)). with_calls x more) one
    ∙ ap (λ (l : List SocketCall). Some l) (append_assoc before calls more)

-- ---- the calls of a control socket

-- one that was left behind, and its removal
pub stale-cleared : (path : List ℕ) (a b d : Option (List SocketCall)) (done : Bool)
    → b ≡ with_calls a (Reaches path found.Stale ∷ [])
    → d ≡ with_calls b (Removes path done ∷ []) → Clears path a d done
stale-cleared path a b d true one two =
    (Reaches path found.Stale ∷ Removes path true ∷ [], inr refl, calls-more a b d _ _ one two)
stale-cleared path a b d false one two =
    (Reaches path found.Stale ∷ Removes path false ∷ [], inr refl, calls-more a b d _ _ one two)

-- a socket whose mode is not set
pub mode-refused : (path : List ℕ) (a b d : Option (List SocketCall)) (done : Bool) → b ≡ with_calls a (Makes true ∷ [])
    → d ≡ with_calls b (SetsMode 384 done ∷ []) → done ≡ false → IsNotNamed path a d
mode-refused path a b d true one two is = cc
mode-refused path a b d false one two is =
    (Makes true ∷ SetsMode 384 false ∷ [], inr (inl refl), calls-more a b d _ _ one two)

-- one that does not get its name
pub name-refused : (path : List ℕ) (a b d e : Option (List SocketCall)) (set done : Bool)
    → b ≡ with_calls a (Makes true ∷ [])
    → d ≡ with_calls b (SetsMode 384 set ∷ []) → set ≡ true → e ≡ with_calls d (Binds path done ∷ [])
    → done ≡ false → IsNotNamed path a e
name-refused path a b d e false done one two is three not = cc
name-refused path a b d e true true one two is three not = cc
name-refused path a b d e true false one two is three not = (
  Makes true ∷ SetsMode 384 true ∷ Binds path false ∷ [],
  inr (inr refl),
  calls-more a d e _ _ (calls-more a b d _ _ one two) three,
)
