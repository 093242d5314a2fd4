-- Texts one after another, and what is shown of an association.
use Rattle.std.proofs.Common.{◌≡◌, ℕ, ◌+◌, ◌<◌, List, [], ◌∷◌, ◌++◌, length, take, get_or, map, Option, Some, None}
use Rattle.std.proofs.Common.{append_assoc, ap, sym, ◌∙◌, arith}
use Rattle.std.specs.List.{concat}
use Rattle.std.specs.Option.{option_map}
use Rattle.std.proofs.lemmas.List.{append-nil, take_more}
use Rattle.macs_config.specs.Config.{Config}
use Rattle.macs_config.specs.declared.association.RxSa.{RxSa}
use Rattle.macs_config.specs.declared.association.TxSa.{TxSa}
use Rattle.macs_endpoint.specs.State.{State}
use Rattle.macs_rxsc.specs.Receive.{Numbers}
use Rattle.macs_rxsc.specs.declared.association.RxNumbers.{RxNumbers}
use Rattle.macs_texts.specs.Showing.{rx_line, rx_text, rx_text_of, tx_line, tx_text, tx_text_of}

-- ---- single associations

pub tx-none : (s : State) (k : Config) (an : ℕ) → k ≡ s.config → None ≡ k.tx an → tx_text s an ≡ []
tx-none s k an same none =
    ap (λ (o : Option TxSa). tx_text_of an o (s.next an)) (sym (none ∙ ap (λ (c : Config). c.tx an) same))

pub tx-some : (s : State) (k : Config) (an : ℕ) (sa : TxSa) (next : ℕ) → k ≡ s.config → Some sa ≡ k.tx an
    → Some next ≡ s.next an → tx_line an sa next ≡ tx_text s an
tx-some s k an sa next same some number =
    ap (λ (o : Option ℕ). tx_text_of an (Some sa) o) number
    ∙ ap (λ (o : Option TxSa). tx_text_of an o (s.next an)) (some ∙ ap (λ (c : Config). c.tx an) same)

pub rx-none : (s : State) (k : Config) (sci : List ℕ) (an : ℕ) → k ≡ s.config → None ≡ k.rx sci an
    → rx_text s sci an ≡ []
rx-none s k sci an same none =
    ap (λ (o : Option RxSa). rx_text_of sci an o (s.numbers sci an))
    (sym (none ∙ ap (λ (c : Config). c.rx sci an) same))

-- what an endpoint reports of numbers
abbrev told_of : Numbers → RxNumbers
told_of n = record { next = n.next; lowest = n.lowest }

pub rx-some : (s : State) (k : Config) (sci : List ℕ) (an : ℕ) (sa : RxSa) (told : RxNumbers) → k ≡ s.config
    → Some sa ≡ k.rx sci an → Some told ≡ option_map told_of (s.numbers sci an)
    → rx_line sci an sa told.next told.lowest ≡ rx_text s sci an
rx-some s k sci an sa told same some numbers =
    go (s.numbers sci an) numbers
    ∙ ap (λ (o : Option RxSa). rx_text_of sci an o (s.numbers sci an)) (some ∙ ap (λ (c : Config). c.rx sci an) same)
  where
    go : (found : Option Numbers) → Some told ≡ option_map told_of found
        → rx_line sci an sa told.next told.lowest ≡ rx_text_of sci an (Some sa) found
    go None absent = cc
    go (Some n) found =
        let e : told ≡ told_of n = cc in
        ap (λ (t : RxNumbers). rx_line sci an sa t.next t.lowest) e

-- ---- one after another

push : {X : Type 0} (f : X → List ℕ) (xs : List X) (x : X) → concat (map f (xs ++ x ∷ [])) ≡ concat (map f xs) ++ f x
push f [] x = append-nil (f x)
push f (y ∷ ys) x = ap (λ (text : List ℕ). f y ++ text) (push f ys x)
    ∙ sym (append_assoc (f y) (concat (map f ys)) (f x))

-- the text up to the next item
pub more : {X : Type 0} (f : X → List ℕ) (xs : List X) (i : ℕ) (d : X) → i < length xs
    → concat (map f (take (i + 1) xs)) ≡ concat (map f (take i xs)) ++ f (get_or xs i d)
more f xs i d within = rw (take_more xs i d within) (push f (take i xs) (get_or xs i d))

-- a text that went up to an item, and that of the item after it
pub shown-more : {X : Type 0} (f : X → List ℕ) (xs : List X) (count i : ℕ) (d x : X)
    (front before after shown item : List ℕ) → length xs ≡ count → i < count
    → x ≡ get_or xs i d → before ≡ front ++ concat (map f (take i xs)) → after ≡ before ++ shown → shown ≡ item
    → item ≡ f x
    → after ≡ front ++ concat (map f (take (i + 1) xs))
shown-more f xs count i d x front before after shown item counted below is so_far pushed as_text next =
    let within : i < length xs = omega (arith, counted, below) in
    rw (pushed, as_text, more f xs i d within, so_far, next, is)
    (append_assoc front (concat (map f (take i xs))) (f (get_or xs i d)))
