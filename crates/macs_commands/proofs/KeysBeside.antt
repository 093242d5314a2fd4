-- The first key of a table that is none of these, key after key.
use Rattle.std.proofs.Common.{◌≡◌, if◌then◌else◌, cond, Bool, List, [], ◌∷◌, ℕ, Option, Some, None}
use Rattle.std.proofs.Common.{◌||◌, Bor, String, string_bytes, map, refl, ap}
use Rattle.std.specs.List.{list_any}
use Rattle.std.specs.Str.{bytes_eq}
use Rattle.std.specs.Map.{keys_of as keys_in}
use Rattle.std.specs.declared.alloc.Global.{Global}
use Rattle.toml.specs.declared.value.Value.{Value}
use Rattle.toml.specs.View.{members_view}
use Rattle.macs_commands.specs.Lines.{has_key, key_beside}

-- the same of the keys that are left
abbrev pub first_beside : List (List ℕ) → List (String Global) → Option (List ℕ)
first_beside known [] = None
first_beside known (key ∷ keys) =
    if has_key known (string_bytes key) then first_beside known keys else Some (string_bytes key)

pub beside-keys : (known : List (List ℕ)) (es : List (String Global × Value))
    → key_beside known (members_view es) ≡ first_beside known (keys_in es)
beside-keys known [] = refl
beside-keys known (e ∷ es) =
    ap (λ (o : Option (List ℕ)). cond (has_key known (string_bytes e.0)) o (Some (string_bytes e.0)))
    (beside-keys known es)

-- a key is one of these texts
pub any-key : (key : List ℕ) (known : List (Bor (List ℕ))) → list_any (λ one. bytes_eq key one.now) known
    ≡ has_key (map (λ one. one.now) known) key
any-key key [] = refl
any-key key (one ∷ known) = ap (λ (b : Bool). bytes_eq key one.now || b) (any-key key known)
