-- What is said between a client and a relay.
use Rattle.std.proofs.Common.{◌≡◌, ◌∙◌, ◌<◌, ◌^◌, ◌||◌, ℕ, Bool, true, false, List, [], ◌∷◌, ◌++◌, Option, Some, None}
use Rattle.std.proofs.Common.{sym, ap}
use Rattle.std.proofs.Common.{IfErr, Result, Ok, Err, arith, codes, refl, subst, suc, zero}
use Rattle.std.proofs.lemmas.List.{append-nil, append_assoc}
use Rattle.std.proofs.lemmas.Fmt.{IsAscii-decimal}
use Rattle.std.proofs.lemmas.Str.{IsUtf8-append, IsUtf8-from_ascii}
use Rattle.std.specs.Fmt.{decimal}
use Rattle.std.specs.Prelude.{flat_map}
use Rattle.std.specs.Str.{IsAscii, IsUtf8}
use Rattle.macs_commands.specs.Requests.{end_line}
use Rattle.macs_control.specs.Asking.{Conversation, EndsAnswer, HasNoEnd, IsOpen, Outlives, OutlivesNot, Reads}
use Rattle.macs_control.specs.Asking.{ReadsAndFinds, ReadsAnswer, ReadsNoEnd, ReadsNothing, ReadsSome, SendsSome}
use Rattle.macs_control.specs.Asking.{conversation}
use Rattle.macs_commands.specs.Inboxes.{HasNoFeed}
use Rattle.macs_control.specs.Links.{Hears, Link, over_after}
use Rattle.macs_control.specs.declared.asking.AskFault.{AskFault}
use Rattle.macs_control.specs.declared.asking.AskFault.TheVariants as asking
use Rattle.macs_control.specs.declared.seat.Hearing.{Hearing}
use Rattle.macs_control.specs.declared.seat.Hearing.TheVariants as hears

-- nothing is read
pub reads-none : (c : Option Conversation) → Reads c [] c
reads-none None = tt
reads-none (Some c) = (c.unread, refl, refl)

some-is : (a b : Conversation) → Some a ≡ Some b → a ≡ b
some-is a b is = ap (λ (o : Option Conversation). elim o [ None ↦ a | Some c ↦ c ]) is

-- more is read, and then the relay may be found to have ended
pub finds-more : (ended : Bool) (start mid new : Option Conversation) (one other : List ℕ) → Reads start one mid
    → ReadsAndFinds mid other ended new → ReadsAndFinds start (one ++ other) ended new
finds-more ended None mid new one other first then = tt
finds-more ended (Some all) None new one other first then = let e = first.2 in cc
finds-more ended (Some all) (Some between) new one other (left, is, was) (after, next, now) =
    let same : between ≡ record all { unread = left } = some-is between (record all { unread = left }) was in
    let rest : left ≡ other ++ after = sym (ap (λ (c : Conversation). c.unread) same) ∙ next in (
      after,
      is ∙ ap (λ (l : List ℕ). one ++ l) rest ∙ sym (append_assoc one other after),
      now ∙ ap (λ (c : Conversation). Some (record { unread = after; sent = c.sent; over = ended || c.over })) same,
    )

-- more is read
pub reads-more : (start mid new : Option Conversation) (one other : List ℕ) → Reads start one mid → Reads mid other new
    → Reads start (one ++ other) new
reads-more = finds-more false

-- a line is read after a text
pub line-after : (start mid new : Option Conversation) (text line : List ℕ) → Reads start text mid
    → Reads mid (line ++ 10 ∷ []) new → Reads start (text ++ (line ++ 10 ∷ [])) new
line-after start mid new text line = reads-more start mid new text (line ++ 10 ∷ [])

-- the line that ends an answer
pub end-after : (start mid new : Option Conversation) (text line : List ℕ) (status : ℕ) → IsOpen text
    → Reads start text mid → Reads mid (line ++ 10 ∷ []) new → line ≡ end_line status
    → ReadsAnswer start text status new
end-after start mid new text line status endless first then is = (
  endless,
  subst (λ (l : List ℕ). Reads start (text ++ (l ++ 10 ∷ [])) new) is (line-after start mid new text line first then),
)

-- ---- lines without an end

pub open-none : IsOpen []
open-none = ([], tt, refl)

lines-more : (lines : List (List ℕ)) (line : List ℕ) → HasNoEnd lines → HasNoFeed line → (EndsAnswer line → ⊥)
    → HasNoEnd (lines ++ line ∷ [])
lines-more [] line none whole ends = (whole, ends, tt)
lines-more (first ∷ lines) line (here, not, others) whole ends =
    (here, not, lines-more lines line others whole ends)

lined-more : (lines : List (List ℕ)) (line : List ℕ)
    → flat_map (λ (l : List ℕ). l ++ 10 ∷ []) (lines ++ line ∷ [])
    ≡ flat_map (λ (l : List ℕ). l ++ 10 ∷ []) lines ++ (line ++ 10 ∷ [])
lined-more [] line = append-nil (line ++ 10 ∷ [])
lined-more (first ∷ lines) line =
    ap (λ (l : List ℕ). (first ++ 10 ∷ []) ++ l) (lined-more lines line)
    ∙ sym (append_assoc (first ++ 10 ∷ []) (flat_map (λ (l : List ℕ). l ++ 10 ∷ []) lines) (line ++ 10 ∷ []))

-- one more line that ends no answer
pub open-more : (text line : List ℕ) → IsOpen text → HasNoFeed line → (EndsAnswer line → ⊥)
    → IsOpen (text ++ (line ++ 10 ∷ []))
open-more text line (lines, none, is) whole ends = (
  lines ++ line ∷ [],
  lines-more lines line none whole ends,
  ap (λ (l : List ℕ). l ++ (line ++ 10 ∷ [])) is ∙ sym (lined-more lines line),
)

-- nothing is read after such lines
pub end-lacking : (start mid new : Option Conversation) (text : List ℕ) → IsOpen text → Reads start text mid
    → ReadsNothing mid new → ReadsNoEnd start new
end-lacking start mid new text endless first (ended, then) = (
  text,
  ended,
  endless,
  subst (λ (l : List ℕ). ReadsAndFinds start l ended new) (append-nil text)
      (finds-more ended start mid new text [] first then),
)

-- nor anything more
pub end-missing : (start new : Option Conversation) (text : List ℕ) → IsOpen text → Reads start text new
    → ReadsNoEnd start new
end-missing start new text endless first = (text, false, endless, first)

-- a line that ends an answer is text
end-word : IsAscii (codes "end")
end-word zero = omega arith
end-word (suc zero) = omega arith
end-word (suc (suc zero)) = omega arith
end-word (suc (suc (suc i))) = omega arith

blank : IsAscii (codes " ")
blank zero = omega arith
blank (suc i) = omega arith

end-text : (status : ℕ) → status < 2 ^ 8 → IsUtf8 (end_line status)
end-text status small =
    let digits = IsAscii-decimal status (omega (arith, small)) in
    IsUtf8-append (codes "end") (codes " " ++ decimal status) (IsUtf8-from_ascii (codes "end") end-word)
    (IsUtf8-append (codes " ") (decimal status) (IsUtf8-from_ascii (codes " ") blank)
    (IsUtf8-from_ascii (decimal status) digits))

pub no-text : (line : List ℕ) → (IsUtf8 line → ⊥) → EndsAnswer line → ⊥
no-text line none (status, small, is) = none (subst IsUtf8 (sym is) (end-text status small))

-- the line that was looked at, in its text
pub ended-so : (line octets : List ℕ) (found : Option ℕ) → octets ≡ line
    → ((status : ℕ) → status < 2 ^ 8 → octets ≡ end_line status → found ≡ Some status)
    → found ≡ None → EndsAnswer line → ⊥
ended-so line octets found same read none (status, small, is) =
    let e : None ≡ Some status = sym none ∙ read status small (same ∙ is) in cc

-- some more is read
pub some-more : (start mid new : Option Conversation) (one other : List ℕ) → Reads start one mid → Reads mid other new
    → ReadsSome start new
some-more start mid new one other first then = (one ++ other, false, reads-more start mid new one other first then)

-- a relay that has not ended is heard once more, and has not ended
pub lasts-on : (start mid new : Option Conversation) (ended : Bool) → ended ≡ false → OutlivesNot start mid
    → (octets : List ℕ) × ReadsAndFinds mid octets ended new → OutlivesNot start new
lasts-on start mid new ended not (one, first) (other, then) = (
  one ++ other,
  subst (λ (b : Bool). ReadsAndFinds start (one ++ other) b new) not
      (finds-more ended start mid new one other first then),
)

-- or has ended
pub lasts-no-more : (start mid new : Option Conversation) (ended : Bool) → ended ≡ true → OutlivesNot start mid
    → (octets : List ℕ) × ReadsAndFinds mid octets ended new → Outlives start new
lasts-no-more start mid new ended has (one, first) (other, then) = (
  one ++ other,
  subst (λ (b : Bool). ReadsAndFinds start (one ++ other) b new) has
      (finds-more ended start mid new one other first then),
)

-- this holds after any failure
pub if-failed : {T E P : Type 0} (result : Result T E) → P → IfErr result (λ _. P)
if-failed (Ok done) holds = tt
if-failed (Err fault) holds = holds

pub if-gone : {T P : Type 0} (result : Result T AskFault) → P → IfErr result (λ fault. fault ≡ asking.Gone → P)
if-gone (Ok done) holds = tt
if-gone (Err fault) holds = λ gone. holds

-- what a hearing reads: a line, or nothing
abbrev pub read_in : Hearing → List ℕ
read_in (hears.Line line) = line.items ++ 10 ∷ []
read_in other = []

-- and finds
abbrev pub has_ended : Hearing → Bool
has_ended heard = over_after heard false

kept-so : (kept : List ℕ) (over : Bool) (old left : Link) (new : Option Link) → new ≡ Some left
    → left.given ≡ old.given → left.over ≡ over
    → conversation kept new ≡ Some (record { unread = kept ++ left.coming; sent = old.given; over = over })
kept-so kept over old left new is given known =
    ap (λ (o : Option Link). conversation kept o) is
    ∙ ap (λ (sent : List ℕ). Some (record { unread = kept ++ left.coming; sent = sent; over = left.over })) given
    ∙ ap (λ (b : Bool). Some (record { unread = kept ++ left.coming; sent = old.given; over = b })) known

pub heard-reads : (held kept : List ℕ) (old new : Option Link) (heard : Hearing) → Hears held old heard kept new
    → ReadsAndFinds (conversation held old) (read_in heard) (has_ended heard) (conversation kept new)
heard-reads held kept None new heard is = tt
heard-reads held kept (Some old) new (hears.Line line) (left, is, given, over, (cut, whole)) = (
  kept ++ left.coming,
  cut ∙ sym (append_assoc line.items (10 ∷ []) (kept ++ left.coming)),
  kept-so kept old.over old left new is given over,
)
heard-reads held kept (Some old) new hears.Silence (left, is, given, over, same) =
    (kept ++ left.coming, sym same, kept-so kept old.over old left new is given over)
heard-reads held kept (Some old) new hears.Ended (left, is, given, over, (same, whole)) =
    (kept ++ left.coming, sym same, kept-so kept true old left new is given over)
heard-reads held kept (Some old) new hears.Gone (left, is, given, over, same) =
    (kept ++ left.coming, sym same, kept-so kept old.over old left new is given over)

-- a line is read, and no end is found
pub line-heard : (line : _) (held kept : List ℕ) (old new : Option Link) (heard : Hearing) → heard ≡ hears.Line line
    → Hears held old heard kept new
    → (octets : List ℕ) × ReadsAndFinds (conversation held old) octets false (conversation kept new)
line-heard line held kept old new heard is hears = (
  line.items ++ 10 ∷ [],
  subst (λ (h : Hearing). ReadsAndFinds (conversation held old) (read_in h) (has_ended h) (conversation kept new)) is
      (heard-reads held kept old new heard hears),
)

-- nothing is sent
pub sends-none : (c : Option Conversation) (octets : List ℕ) → SendsSome c octets c
sends-none None octets = ([], octets, refl, tt)
sends-none (Some c) octets =
    ([], octets, refl, ap (λ (sent : List ℕ). Some (record c { sent = sent })) (sym (append-nil c.sent)))
