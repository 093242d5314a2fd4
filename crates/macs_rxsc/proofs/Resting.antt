-- What the channels show, after their ceilings fell to the next packet numbers.
use Rattle.std.proofs.Common.{◌≡◌, ◌∙◌, ℕ, zero, suc, true, false, cond, Bool, List, [], ◌∷◌, map, get_or, Option, Some}
use Rattle.std.proofs.Common.{None, bytes_eq, refl, ap, arith}
use Rattle.std.specs.Option.{option_map}
use Rattle.std.proofs.Math.Path.{fun_ext}
use Rattle.macs_config.specs.declared.association.RxSa.{RxSa}
use Rattle.macs_config.specs.declared.command.Replay.{Replay}
use Rattle.macs_config.specs.declared.command.Validate.{Validate}
use Rattle.macs_rxsc.specs.Receive.{IsNumbered, Numbers, RxSide}
use Rattle.macs_rxsc.specs.Value.{association_at_rest, association_in, ceilings_among, channel_at, channel_at_rest}
use Rattle.macs_rxsc.specs.Value.{counters_among, counters_in, numbers_in, packet_numbers, rx_side_in, sa_of, sas_in}
use Rattle.macs_rxsc.specs.Value.{scis_of}
use Rattle.macs_rxsc.specs.declared.association.Association.{Association}
use Rattle.macs_rxsc.specs.declared.channel.Channel.{Channel}
use Rattle.macs_rxsc.proofs.Order.{AllOrdered}

-- the next number of what there is
abbrev pub next_in : Option Numbers → Option ℕ
next_in n = option_map (λ (n : Numbers). n.next) n

step : (b : Bool) (c : Channel) (rest rest' : Option Channel) → rest' ≡ option_map channel_at_rest rest
    → cond b (Some (channel_at_rest c)) rest' ≡ option_map channel_at_rest (cond b (Some c) rest)
step true c rest rest' is = refl
step false c rest rest' is = is

at_rest : (channels : List Channel) (s : List ℕ)
    → channel_at (map channel_at_rest channels) s ≡ option_map channel_at_rest (channel_at channels s)
at_rest [] s = refl
at_rest (c ∷ cs) s = step (bytes_eq c.sci s) c (channel_at cs s) _ (at_rest cs s)

scis_same : (channels : List Channel) → scis_of (map channel_at_rest channels) ≡ scis_of channels
scis_same [] = refl
scis_same (c ∷ cs) = ap (λ rest. c.sci ∷ rest) (scis_same cs)

numbers_read : (a : Option Association)
    → option_map packet_numbers (option_map association_at_rest a) ≡ option_map packet_numbers a
numbers_read None = refl
numbers_read (Some a) = refl

sa_read : (a : Option Association) → option_map sa_of (option_map association_at_rest a) ≡ option_map sa_of a
sa_read None = refl
sa_read (Some a) = refl

ceiling_read : (a : Option Association) → option_map (λ (x : Association). x.ceiling)
    (option_map association_at_rest a) ≡ next_in (option_map packet_numbers a)
ceiling_read None = refl
ceiling_read (Some a) = refl

among : (xs : List (Option Association)) (an : ℕ)
    → get_or (map (option_map association_at_rest) xs) an None ≡ option_map association_at_rest (get_or xs an None)
among [] an = refl
among (x ∷ xs) zero = refl
among (x ∷ xs) (suc an) = among xs an

inside : (o : Option Channel) (an : ℕ) → association_in (option_map channel_at_rest o) an
    ≡ option_map association_at_rest (association_in o an)
inside None an = refl
inside (Some c) an = among c.associations an

counted_in : (o : Option Channel) → counters_in (option_map channel_at_rest o) ≡ counters_in o
counted_in None = refl
counted_in (Some c) = refl

module _ (items : List Channel) where
  there : (s : List ℕ) (an : ℕ) → association_in (channel_at (map channel_at_rest items) s) an
      ≡ option_map association_at_rest (association_in (channel_at items s) an)
  there s an = ap (λ (o : Option Channel). association_in o an) (at_rest items s) ∙ inside (channel_at items s) an

  pub shown-resting : (validate : Validate) (replay : Replay)
      → rx_side_in validate replay (map channel_at_rest items) ≡ rx_side_in validate replay items
  shown-resting validate replay =
      let rx_is : (λ (s : List ℕ). sas_in (channel_at (map channel_at_rest items) s))
      ≡ (λ (s : List ℕ). sas_in (channel_at items s)) =
      fun_ext (λ s. fun_ext
      (λ an. ap (option_map sa_of) (there s an) ∙ sa_read (association_in (channel_at items s) an))) in
      let numbers_are : (λ (s : List ℕ). numbers_in (channel_at (map channel_at_rest items) s))
      ≡ (λ (s : List ℕ). numbers_in (channel_at items s)) =
      fun_ext (λ s. fun_ext (λ an. ap (option_map packet_numbers) (there s an)
      ∙ numbers_read (association_in (channel_at items s) an))) in
      λ i. record {
        validate = validate;
        replay = replay;
        channels = scis_same items i;
        rx = rx_is i;
        numbers = numbers_are i;
      }

  pub ceilings-resting : ceilings_among (map channel_at_rest items)
      ≡ (λ (s : List ℕ) (an : ℕ). next_in (numbers_in (channel_at items s) an))
  ceilings-resting = fun_ext (λ s. fun_ext (λ an. ap (option_map (λ (x : Association). x.ceiling)) (there s an)
      ∙ ceiling_read (association_in (channel_at items s) an)))

  pub counters-resting : counters_among (map channel_at_rest items) ≡ counters_among items
  counters-resting = fun_ext (λ s. ap counters_in (at_rest items s) ∙ counted_in (channel_at items s))

-- ---- they are in order

resting_stands : (w : ℕ) (sa : Option RxSa) (n : Option Numbers) (c : Option ℕ) → IsNumbered w sa n c
    → IsNumbered w sa n (next_in n)
resting_stands w None None None old = tt
resting_stands w None None (Some c) old = absurd old
resting_stands w None (Some n) None old = absurd old
resting_stands w None (Some n) (Some c) old = absurd old
resting_stands w (Some sa) None None old = absurd old
resting_stands w (Some sa) None (Some c) old = absurd old
resting_stands w (Some sa) (Some n) None old = absurd old
resting_stands w (Some sa) (Some n) (Some c) old =
    let below = old.below in
    let most = old.bounded in
    record {
      numbered = old.numbered;
      windowed = old.windowed;
      ordered = old.ordered;
      below = omega arith;
      bounded = omega (arith, below, most);
    }

pub ordered-resting : (side : RxSide) (ceilings : List ℕ → ℕ → Option ℕ) → AllOrdered side ceilings
    → AllOrdered side (λ sci an. next_in (side.numbers sci an))
ordered-resting side ceilings old = λ s k.
    resting_stands side.replay.window (side.rx s k) (side.numbers s k) (ceilings s k) (old s k)
