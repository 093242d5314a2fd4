-- Tables with one place changed: what they say there and elsewhere, and what holds of every association.
use Rattle.std.proofs.Common.{rules, ◌≡◌, ◌≢◌, ◌<◌, ◌∙◌, ℕ, zero, suc, Bool, true, false, cond, ◌==◌, List, [], ◌∷◌}
use Rattle.std.proofs.Common.{get_or, length, slice_set, Option, Some, None, is_some, IsSome, IfSome, bytes_eq, refl}
use Rattle.std.proofs.Common.{ap, sym, subst}
use Rattle.std.specs.Option.{option_map}
use Rattle.std.proofs.lemmas.Bool.{cond_both, eq-eqb, eqb-true}
use Rattle.std.proofs.Math.Path.{fun_ext}
use Rattle.macs_config.specs.Apply.{is_encoding}
use Rattle.macs_config.specs.Tables.{put, put_at}
use Rattle.macs_config.proofs.Channels.{bytes_eq-itself, same_octets}

-- what holds of what is put at a place, and of what was at the others, holds at every place
pub put_all : {X : Type 0} (P : X → Type 0) (f : ℕ → X) (at : ℕ) (x : X) (i : ℕ) → (i ≡ at → P x)
    → ((i == at) ≡ false → P (f i)) → P (put f at x i)
put_all P f at x i this other = cond_both (i == at) x (f i) P (λ is. this (eqb-true i at is)) other

pub put_at_all : {X : Type 0} (P : X → Type 0) (f : List ℕ → X) (at : List ℕ) (x : X) (sci : List ℕ) → (sci ≡ at → P x)
    → (bytes_eq sci at ≡ false → P (f sci))
    → P (put_at f at x sci)
put_at_all P f at x sci this other = cond_both (bytes_eq sci at) x (f sci) P (λ is. this (same_octets sci at is)) other

-- ---- by number

pub put-here : {X : Type 0} (f : ℕ → X) (at : ℕ) (x : X) → put f at x at ≡ x
put-here f at x = ap (λ b. cond b x (f at)) (eq-eqb at at refl)

pub put-other : {X : Type 0} (f : ℕ → X) (at i : ℕ) (x : X) → at ≢ i → put f at x i ≡ f i
put-other f at i x differ = put_all (λ y. y ≡ f i) f at x i (λ same. absurd (differ (sym same))) (λ other. refl)

-- what was there is put there
pub put-same : {X : Type 0} (f : ℕ → X) (at : ℕ) (x : X) → f at ≡ x → put f at x ≡ f
put-same f at x is = fun_ext (λ i. put_all (λ y. y ≡ f i) f at x i (λ same. sym is ∙ ap f (sym same)) (λ other. refl))

-- what is read of an array, after one of its places got something else
pub put-placed : {A B : Type 0} (f : A → B) (xs : List (Option A)) (i : ℕ) (new : A) → i < length xs
    → (λ (j : ℕ). option_map f (get_or (slice_set xs i (Some new)) j None))
    ≡ put (λ (j : ℕ). option_map f (get_or xs j None)) i (Some (f new))
put-placed f xs i new within = search rules

-- no number has anything among four that have nothing
pub none_at : {A : Type 0} (an : ℕ) → get_or {A = Option A} (None ∷ None ∷ None ∷ None ∷ []) an None ≡ None
none_at zero = refl
none_at (suc zero) = refl
none_at (suc (suc zero)) = refl
none_at (suc (suc (suc zero))) = refl
none_at (suc (suc (suc (suc an)))) = refl

-- ---- by SCI

pub put_at-here : {X : Type 0} (f : List ℕ → X) (at : List ℕ) (x : X) → put_at f at x at ≡ x
put_at-here f at x = ap (λ (b : Bool). cond b x (f at)) (bytes_eq-itself at)

pub put_at-other : {X : Type 0} (f : List ℕ → X) (at sci : List ℕ) (x : X) → at ≢ sci → put_at f at x sci ≡ f sci
put_at-other f at sci x differ =
    put_at_all (λ y. y ≡ f sci) f at x sci (λ same. absurd (differ (sym same))) (λ other. refl)

-- what was there is put there
pub put_at-same : {X : Type 0} (f : List ℕ → X) (at : List ℕ) (x : X) → f at ≡ x → put_at f at x ≡ f
put_at-same f at x is =
    fun_ext (λ sci. put_at_all (λ y. y ≡ f sci) f at x sci (λ same. sym is ∙ ap f (sym same)) (λ other. refl))

twice : {X : Type 0} (b : Bool) (x y z : X) → cond b y (cond b x z) ≡ cond b y z
twice true x y z = refl
twice false x y z = refl

-- the second of two that are put at one place is there
pub put_at-twice : {X : Type 0} (f : List ℕ → X) (at : List ℕ) (x y : X) → put_at (put_at f at x) at y ≡ put_at f at y
put_at-twice f at x y = fun_ext (λ sci. twice (bytes_eq sci at) x y (f sci))

through : {X Y : Type 0} (h : X → Y) (b : Bool) (x y : X) → h (cond b x y) ≡ cond b (h x) (h y)
through h true x y = refl
through h false x y = refl

-- what is read of a table that is changed at one place
pub put_at-read : {X Y : Type 0} (h : X → Y) (new old : List ℕ → X) (at : List ℕ) (x : X)
    → ((sci : List ℕ) → new sci ≡ put_at old at x sci)
    → (λ sci. h (new sci)) ≡ put_at (λ sci. h (old sci)) at (h x)
put_at-read h new old at x each = fun_ext (λ sci. ap h (each sci) ∙ through h (bytes_eq sci at) x (old sci))

-- and at one number
pub put_at-number : {X : Type 0} (f : List ℕ → ℕ → X) (at : List ℕ) (x : ℕ → X) (sci : List ℕ) (an : ℕ)
    → put_at f at x sci an ≡ put_at (λ s. f s an) at (x an) sci
put_at-number f at x sci an = through (λ g. g an) (bytes_eq sci at) x (f sci)

-- ---- by SCI and number

pub put_rx-here : {X : Type 0} (f : List ℕ → ℕ → X) (at : List ℕ) (number : ℕ) (x : X)
    → put_at f at (put (f at) number x) at number ≡ x
put_rx-here f at number x = ap (λ g. g number) (put_at-here f at (put (f at) number x)) ∙ put-here (f at) number x

-- ---- associations by number

-- what holds of the one that is put, and of those that were there, holds of those that are there then
pub put-associations : {A : Type 0} (P : ℕ → A → Type 0) (table : ℕ → Option A) (at : ℕ) (sa : Option A)
    → ((one : A) → sa ≡ Some one → P at one) → ((i : ℕ) (one : A) → table i ≡ Some one → P i one)
    → (i : ℕ) (one : A) → put table at sa i ≡ Some one → P i one
put-associations P table at sa this others i one =
    put_all (λ x. x ≡ Some one → P i one) table
    at sa i (λ same is. subst (λ (n : ℕ). P n one) (sym same) (this one is)) (λ differ is. others i one is)

-- the encoding one exists where it existed, or is put
pub encoding-put : {A : Type 0} (encoding : Option ℕ) (table : ℕ → Option A) (at : ℕ) (sa : A)
    → IfSome encoding (λ an. IsSome (table an)) → IfSome encoding (λ an. IsSome (put table at (Some sa) an))
encoding-put None table at sa stands = stands
encoding-put (Some an) table at sa stands =
    put_all (λ x. is_some x ≡ true) table at (Some sa) an (λ same. refl) (λ differ. stands)

-- and where another one is taken away
pub encoding-kept : {A : Type 0} (encoding : Option ℕ) (table : ℕ → Option A) (at : ℕ) → is_encoding encoding at ≡ false
    → IfSome encoding (λ an. IsSome (table an)) → IfSome encoding (λ an. IsSome (put table at None an))
encoding-kept None table at unused stands = stands
encoding-kept (Some an) table at unused stands =
    cond_both (an == at) None (table an) (λ x. is_some x ≡ true) (λ same. cc) (λ differ. stands)

-- ---- associations by SCI and number

-- what holds of the one that is put, and of those that were there, holds of those that are there then
pub put-receive-associations : {A : Type 0} (P : List ℕ → ℕ → A → Type 0) (table : List ℕ → ℕ → Option A) (at : List ℕ)
    (number : ℕ) (sa : Option A)
    → ((one : A) → sa ≡ Some one → P at number one)
    → ((sci : List ℕ) (i : ℕ) (one : A) → table sci i ≡ Some one → P sci i one)
    → (sci : List ℕ) (i : ℕ) (one : A) → put_at table at (put (table at) number sa) sci i ≡ Some one → P sci i one
put-receive-associations P table at number sa this others sci i one =
    put_at_all (λ f. f i ≡ Some one → P sci i one) table at (put (table at) number sa) sci
    (λ same is. subst (λ (s : List ℕ). P s i one) (sym same)
    (put-associations (P at) (table at) number sa this (others at) i one is))
    (λ differ is. others sci i one is)

-- those of a channel that goes are gone, and the others stay
pub drop-receive-associations : {A : Type 0} (P : List ℕ → ℕ → A → Type 0) (table : List ℕ → ℕ → Option A)
    (at sci : List ℕ) (i : ℕ) (one : A)
    → (bytes_eq sci at ≡ false → table sci i ≡ Some one → P sci i one) → put_at table at (λ an. None) sci i ≡ Some one
    → P sci i one
drop-receive-associations P table at sci i one others =
    put_at_all (λ f. f i ≡ Some one → P sci i one) table at (λ an. None) sci (λ same is. cc) others
