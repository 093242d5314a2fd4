-- What a relay is asked: by a word alone, or by `apply` and a file.
use Rattle.std.proofs.Common.{◌≡◌, ◌∙◌, ◌⊎◌, inl, inr, Bool, true, false, List, Option, Some, None, IfSome, codes, refl}
use Rattle.std.proofs.Common.{ap, sym}
use Rattle.std.specs.Prelude.{IsSome, unwrap_or}
use Rattle.std.specs.Borrow.{Bor}
use Rattle.std.specs.Str.{bytes_eq}
use Rattle.std.proofs.lemmas.Slice.Eq.{bytes_eq-Decides}
use Rattle.clap.specs.Words.{Row, Text, first_of}
use Rattle.macs_cli.specs.Words.{Asks, HasQuestion, is_report, plain_question}
use Rattle.macs_cli.specs.declared.words.action.Question.{Question}
use Rattle.macs_cli.specs.declared.words.action.Question.TheVariants as question

-- a text that is borrowed
abbrev pub text_of : Text → Bor Text
text_of text = record { ref_ptr = (0, 0); now = text }

-- ---- a word alone

-- what was read of it is asked
pub plain-read : (rows : List Row) (word : Text) (found : Option Question) → first_of (codes "WORD") rows ≡ Some word
    → first_of (codes "FILE") rows ≡ None → found ≡ plain_question word → IfSome found (HasQuestion rows)
plain-read rows word None there none is = tt
plain-read rows word (Some asked) there none is = rw (there, none) (sym is)

-- what is asked was read
pub plain-found : (rows : List Row) (word : Text) (found : Option Question) → first_of (codes "WORD") rows ≡ Some word
    → first_of (codes "FILE") rows ≡ None → found ≡ plain_question word
    → (asked : Question) → HasQuestion rows asked → IsSome found
plain-found rows word found there none is asked has =
    let asks : plain_question word ≡ Some asked = rw (there, none) at has in
    let e = is ∙ asks in
    cc

-- ---- a word with a file

-- `apply` asks to apply it
pub file-read : (rows : List Row) (word : Text) (file : Bor Text) → first_of (codes "WORD") rows ≡ Some word
    → first_of (codes "FILE") rows ≡ Some file.now → word ≡ codes "apply" → HasQuestion rows (question.Apply file)
file-read rows word file there given is = rw given (there ∙ ap (λ (t : Text). Some t) is, file, refl, refl)

-- and no other word asks anything
pub file-unread : (rows : List Row) (word name : Text) → first_of (codes "WORD") rows ≡ Some word
    → first_of (codes "FILE") rows ≡ Some name → ¬ (word ≡ codes "apply")
    → (asked : Question) → ¬ HasQuestion rows asked
file-unread rows word name there given other asked has =
    let asks : Asks (first_of (codes "WORD") rows) (Some name) asked = rw given at has in
    other (ap (λ (o : Option Text). unwrap_or o word) (sym there ∙ asks.0))

-- ---- what the words ask

-- it is known whether they ask something
pub asks : (rows : List Row) (word : Text) → first_of (codes "WORD") rows ≡ Some word
    → ((asked : Question) × HasQuestion rows asked) ⊎ ((asked : Question) → ¬ HasQuestion rows asked)
asks rows word there = go (first_of (codes "FILE") rows) refl
  where
    alone : first_of (codes "FILE") rows ≡ None → (found : Option Question) → found ≡ plain_question word
        → ((asked : Question) × HasQuestion rows asked) ⊎ ((asked : Question) → ¬ HasQuestion rows asked)
    alone none (Some asked) is = inl (asked, plain-read rows word (Some asked) there none is)
    alone none None is = inr (λ asked has. let e = plain-found rows word None there none is asked has in cc)

    with-file : (name : Text) → first_of (codes "FILE") rows ≡ Some name → (applies : Bool)
        → bytes_eq word (codes "apply") ≡ applies
        → ((asked : Question) × HasQuestion rows asked) ⊎ ((asked : Question) → ¬ HasQuestion rows asked)
    with-file name given true equal = inl (
      question.Apply (text_of name),
      file-read rows word (text_of name) there given ((bytes_eq-Decides word (codes "apply")).0 equal),
    )
    with-file name given false other = inr (file-unread rows word name there given
        (λ is. let e = (bytes_eq-Decides word (codes "apply")).1 is in cc))

    go : (found : Option Text) → first_of (codes "FILE") rows ≡ found
        → ((asked : Question) × HasQuestion rows asked) ⊎ ((asked : Question) → ¬ HasQuestion rows asked)
    go None none = alone none (plain_question word) refl
    go (Some name) given = with-file name given (bytes_eq word (codes "apply")) refl

-- what the same words ask is a report, or is none
pub same-report : (rows : List Row) (asked other : Question) → HasQuestion rows asked → HasQuestion rows other
    → is_report asked ≡ is_report other
same-report rows asked other has has-other =
    go (first_of (codes "WORD") rows) (first_of (codes "FILE") rows) has has-other
  where
    go : (word name : Option Text) → Asks word name asked → Asks word name other → is_report asked ≡ is_report other
    go word None one two = ap (λ (o : Option Question). is_report (unwrap_or o asked)) (sym one ∙ two)
    go word (Some name) one two = ap (λ (q : Question). is_report q) one.3
        ∙ sym (ap (λ (q : Question). is_report q) two.3)
