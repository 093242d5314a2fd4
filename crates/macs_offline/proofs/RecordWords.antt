-- The words of records: their lines, which number they are at, and that each record has just one of them.
use Rattle.std.proofs.Common.{◌≡◌, ◌+◌, ◌-◌, ◌==◌, ◌++◌, ◌∷◌, [], ℕ, if◌then◌else◌, List, length}
use Rattle.std.proofs.Common.{map}
use Rattle.std.proofs.Common.{◌≤◌, ◌∙◌, ap, arith, sym, take}
use Rattle.std.proofs.lemmas.List.{length-map, take_all}
use Rattle.std.proofs.lemmas.Simd.{map-map}
use Rattle.std.specs.List.{concat}
use Rattle.macs_record.specs.declared.record.Record.{Record}
use Rattle.macs_offline.specs.RecordLines.{record_line, record_words, records_text}

-- ---- lines

pub words-count : {W : Type 0} (shown : W → List ℕ) (items : List W) → map shown items ≡ record_words
    → length items ≡ 17
words-count shown items is = sym (length-map items shown) ∙ ap (λ (words : List (List ℕ)). length words) is

-- the lines up to the last word are all of them
pub all-lines : {W : Type 0} (shown : W → List ℕ) (items : List W) (i : ℕ) (records : List Record) (text : List ℕ)
    → map shown items ≡ record_words → 17 ≤ i
    → text ≡ [] ++ concat (map (λ w. record_line records (shown w)) (take i items)) → text ≡ records_text records
all-lines {W} shown items i records text is far so_far =
    let enough : length items ≤ i = omega (arith, words-count shown items is, far) in
    so_far ∙ ap (λ (ws : List W). concat (map (λ w. record_line records (shown w)) ws)) (take_all i items enough)
    ∙ ap (λ (lines : List (List ℕ)). concat lines) (sym (map-map (record_line records) shown items))
    ∙ ap (λ (words : List (List ℕ)). concat (map (record_line records) words)) is
