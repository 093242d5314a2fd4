-- The name in an answer that refuses a command.
use Rattle.std.proofs.Common.{◌≡◌, ◌≢◌, ◌∙◌, ℕ, ◌+◌, ◌<◌, Bool, false, true, List, [], ◌∷◌, ◌++◌, drop, get_or, Option}
use Rattle.std.proofs.Common.{Some, None, Bor, MatchOption, below_more, codes, ap, refl, sym, arith}
use Rattle.std.specs.Cmp.{unsigned_Decides}
use Rattle.std.specs.Str.{bytes_eq}
use Rattle.std.proofs.lemmas.List.{append_cancel_right, get_or_default}
use Rattle.std.proofs.lemmas.Slice.Eq.{slice_eq-Decides}
use Rattle.macs_config.specs.declared.refusal.Refusal.{Refusal}
use Rattle.macs_config.specs.declared.refusal.Refusal.TheVariants as refusal
use Rattle.macs_program.specs.Asking.{refusal_line}
use Rattle.macs_program.specs.declared.sending.TheConstants.{REFUSALS}
use Rattle.macs_texts.specs.Lines.{line}
use Rattle.macs_texts.specs.Refusals.{refusal_name}

name-is : (rest name : List ℕ) → codes "refused " ++ rest ≡ codes "refused " ++ name → rest ≡ name
name-is rest name is = ap (λ (text : List ℕ). drop 8 text) is

-- a text without the word before a name, and then without its line feed
pub refused-by : (text rest : List ℕ) (name : Option (Bor (List ℕ))) → text ≡ codes "refused " ++ rest
    → MatchOption name ((front : List ℕ) → rest ≢ front ++ 10 ∷ []) (λ front. rest ≡ front.now ++ 10 ∷ [])
    → MatchOption name ((other : List ℕ) → text ≢ line (codes "refused " ++ other))
    (λ front. text ≡ line (codes "refused " ++ front.now))
refused-by text rest None is none = λ other same. none other (name-is rest (other ++ 10 ∷ []) (sym is ∙ same))
refused-by text rest (Some name) is cut = is ∙ ap (λ (l : List ℕ). codes "refused " ++ l) cut

-- the line with a name is that of a refusal only if the name is
pub no-refusal : (text name : List ℕ) (refusal : Refusal) → text ≡ line (codes "refused " ++ name)
    → name ≢ refusal_name refusal → text ≢ refusal_line refusal
no-refusal text name refusal is other same =
    other (append_cancel_right name (refusal_name refusal) (10 ∷ [])
    (name-is (name ++ 10 ∷ []) (refusal_name refusal ++ 10 ∷ []) (sym is ∙ same)))

-- each refusal is in the list
listed : (reason : Refusal) → (k : ℕ) × (k < 12) × (get_or REFUSALS k refusal.StartRange ≡ reason)
listed refusal.StartRange = (0, omega arith, refl)
listed refusal.OffsetChoice = (1, omega arith, refl)
listed refusal.OwnSci = (2, omega arith, refl)
listed refusal.EndStationSci = (3, omega arith, refl)
listed refusal.NoChannel = (4, omega arith, refl)
listed refusal.ChannelTaken = (5, omega arith, refl)
listed refusal.ChannelsFull = (6, omega arith, refl)
listed refusal.SlotTaken = (7, omega arith, refl)
listed refusal.SlotEmpty = (8, omega arith, refl)
listed refusal.InUse = (9, omega arith, refl)
listed refusal.KeySpent = (10, omega arith, refl)
listed refusal.SpentFull = (11, omega arith, refl)

-- the first of these refusals have other names
abbrev pub AreOthers : List ℕ → ℕ → Type 0
AreOthers name count = (k : ℕ) → k < count → name ≢ refusal_name (get_or REFUSALS k refusal.StartRange)

-- one more was compared
pub others-more : (name octets : List ℕ) (i : ℕ) (d : Refusal) (is : Bool) → i < 12
    → octets ≡ refusal_name (get_or REFUSALS i d) → is ≡ bytes_eq octets name → is ≡ false → AreOthers name i
    → AreOthers name (i + 1)
others-more name octets i d is within of compared differs others =
    below_more _ _ others (λ same.
    let found : is ≡ true = (slice_eq-Decides unsigned_Decides octets name is compared).1
    (of ∙ ap refusal_name (get_or_default REFUSALS i d refusal.StartRange within) ∙ sym same) in
    let wrong : false ≡ true = sym differs ∙ found in cc)

-- if all of them have, no refusal has this name
pub none-named : (name : List ℕ) (reason : Refusal) → AreOthers name 12 → name ≢ refusal_name reason
none-named name reason others same =
    let (k, within, is) = listed reason in
    others k within (same ∙ ap refusal_name (sym is))
