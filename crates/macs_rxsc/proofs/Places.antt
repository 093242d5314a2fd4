-- Channels by their SCI, and elements that are changed one by one.
use Rattle.std.proofs.Common.{◌≡◌, ◌∙◌, ◌≤◌, ◌<◌, ℕ, zero, suc, ◌+◌, Bool, true, false, cond, List, [], ◌∷◌, ◌++◌}
use Rattle.std.proofs.Common.{length, map, take, drop, set, get_or, Option, Some, None, bytes_eq, refl, ap, sym, arith}
use Rattle.std.proofs.Common.{add-one}
use Rattle.std.specs.Option.{option_map}
use Rattle.macs_config.proofs.Keyed.{IsLookup}
use Rattle.macs_rxsc.specs.Value.{channel_at, scis_of, channel_under}
use Rattle.macs_rxsc.specs.declared.channel.Channel.{Channel}

abbrev pub sci_of : Channel → List ℕ
sci_of channel = channel.sci

-- the channel of an SCI is the first that has it
pub channel_lookup : IsLookup sci_of Some None channel_at
channel_lookup = record { nothing = λ sci. refl; next = λ channel channels sci. refl }

-- the window changes
slid_step : (w : ℕ) (b : Bool) (c : Channel) (rest rest' : Option Channel) → rest' ≡ option_map (channel_under w) rest
    → cond b (Some (channel_under w c)) rest' ≡ option_map (channel_under w) (cond b (Some c) rest)
slid_step w true c rest rest' is = refl
slid_step w false c rest rest' is = is

pub channel_at-slid : (channels : List Channel) (w : ℕ) (s : List ℕ)
    → channel_at (map (channel_under w) channels) s ≡ option_map (channel_under w) (channel_at channels s)
channel_at-slid [] w s = refl
channel_at-slid (c ∷ cs) w s = slid_step w (bytes_eq c.sci s) c (channel_at cs s) _ (channel_at-slid cs w s)

pub scis_of-slid : (channels : List Channel) (w : ℕ) → scis_of (map (channel_under w) channels) ≡ scis_of channels
scis_of-slid [] w = refl
scis_of-slid (c ∷ cs) w = ap (λ rest. c.sci ∷ rest) (scis_of-slid cs w)

-- elements that are changed one by one
pub mapped_at : {X : Type 0} (f : X → X) (xs : List X) (i : ℕ) (d : X) → i < length xs
    → set (map f (take i xs) ++ drop i xs) i (f (get_or (map f (take i xs) ++ drop i xs) i d))
    ≡ map f (take (suc i) xs) ++ drop (suc i) xs
mapped_at f [] i d within = absurd (omega arith)
mapped_at f (x ∷ xs) zero d within = refl
mapped_at f (x ∷ xs) (suc i) d within = ap (λ l. f x ∷ l) (mapped_at f xs i d (omega arith))

-- the element at hand is changed
pub mapped_more : {X : Type 0} (f : X → X) (xs ys : List X) (i : ℕ) (d new : X) → i < length xs
    → ys ≡ map f (take i xs) ++ drop i xs → new ≡ f (get_or ys i d)
    → set ys i new ≡ map f (take (i + 1) xs) ++ drop (i + 1) xs
mapped_more {X = X} f xs ys i d new within so_far changed =
    ap (set ys i) changed ∙ ap (λ (l : List X). set l i (f (get_or l i d))) so_far
    ∙ mapped_at f xs i d within ∙ ap (λ (n : ℕ). map f (take n xs) ++ drop n xs) (sym (add-one i))
