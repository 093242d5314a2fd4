-- What a connection carries, part after part.
use Rattle.std.proofs.Common.{◌≡◌, ◌∙◌, ◌<◌, ◌++◌, ℕ, Bool, true, List, [], Option, Some, None, Err, refl, sym, ap}
use Rattle.std.proofs.Common.{length}
use Rattle.std.proofs.lemmas.List.{append-nil, append_assoc}
use Rattle.macs_control.specs.Asking.{Reads, ReadsAndFinds, conversation}
use Rattle.macs_control.specs.Keepers.{IsCut, IsCutAfter, Takes, TakesLast, TakesMore}
use Rattle.macs_control.specs.Links.{Fills, Link}
use Rattle.macs_control.specs.declared.connection.Taken.{Taken}
use Rattle.macs_control.specs.declared.connection.Taken.TheVariants.{Octets, Nothing, Ended, Gone}
use Rattle.macs_control.specs.declared.keeping.cut.Cut.{Cut}
use Rattle.macs_control.specs.declared.keeping.cut.Cut.TheVariants as cut

link-is : (a b : Link) → Some a ≡ Some b → a ≡ b
link-is a b is = ap (λ (o : Option Link). elim o [ None ↦ a | Some l ↦ l ]) is

-- ---- octets that are taken

pub takes-none : (link : Option Link) → Takes link [] link
takes-none None = tt
takes-none (Some link) = (link.coming, refl, refl)

-- what is held after octets arrived was taken
pub takes-more : (start old new : Option Link) (held kept : List ℕ) (taken : Taken) → (taken ≡ Ended → ⊥)
    → Takes start held old → Fills held old taken kept new → Takes start kept new
takes-more None old new held kept taken goes first then = tt
takes-more (Some s) None new held kept taken goes first then = let e = first.2 in cc
takes-more (Some s) (Some o) new held kept (Octets n) goes (rest, is, was) (came, left, next, are, now) =
    let same : o ≡ record s { coming = rest } = link-is o (record s { coming = rest }) was in
    let here : rest ≡ came ++ left = sym (ap (λ (l : Link). l.coming) same) ∙ next in (
      left,
      is ∙ ap (λ (l : List ℕ). held ++ l) here
          ∙ sym (append_assoc held came left)
          ∙ ap (λ (l : List ℕ). l ++ left) (sym are),
      now ∙ ap (λ (l : Link). Some (record l { coming = left })) same,
    )
takes-more (Some s) (Some o) new held kept Nothing goes (rest, is, was) (are, now) =
    (rest, is ∙ ap (λ (l : List ℕ). l ++ rest) (sym are), now ∙ was)
takes-more (Some s) (Some o) new held kept Gone goes (rest, is, was) (are, now) =
    (rest, is ∙ ap (λ (l : List ℕ). l ++ rest) (sym are), now ∙ was)
takes-more (Some s) (Some o) new held kept Ended goes first then = absurd (goes refl)

-- what was held is the last
pub takes-last : (start old new : Option Link) (held kept : List ℕ) → Takes start held old
    → Fills held old Ended kept new → TakesLast start held new
takes-last None old new held kept first then = tt
takes-last (Some s) None new held kept first then = let e = first.2 in cc
takes-last (Some s) (Some o) new held kept (rest, is, was) (over, are, now) =
    let same : o ≡ record s { coming = rest } = link-is o (record s { coming = rest }) was in
    let empty : rest ≡ [] = sym (ap (λ (l : Link). l.coming) same) ∙ over in (
      is ∙ ap (λ (l : List ℕ). held ++ l) empty ∙ append-nil held,
      now ∙ ap (λ (l : Link). Some (record l { over = true })) same
          ∙ ap (λ (l : List ℕ). Some (record s { coming = l; over = true })) empty,
    )

-- a message is cut where a part of it is held
pub cut-within : (size : ℕ) (start : Option Link) (held : List ℕ) (end : Cut) (new : Option Link) → length held < size
    → IsCutAfter held start end new → IsCut size start end new
cut-within size start held cut.Ended new few last = (held, few, last)
cut-within size start held cut.Gone new few part = part

-- over a steady connection it is cut by its end alone
pub steady-end : (end : Cut) (before now : ℕ) (steady : Bool) → TakesMore (Err end) before now steady
    → end ≡ cut.Ended
steady-end cut.Ended before now steady takes = refl
steady-end cut.Gone before now steady takes = absurd takes

-- ---- a conversation over it

-- what was there to read is what is held now, and what is coming
there : (held kept : List ℕ) (old : Link) (new : Option Link) (taken : Taken) → (taken ≡ Ended → ⊥)
    → Fills held (Some old) taken kept new
    → (rest : List ℕ) × (held ++ old.coming ≡ kept ++ rest) × (new ≡ Some (record old { coming = rest }))
there held kept old new (Octets n) goes (came, left, next, are, now) = (
  left,
  ap (λ (l : List ℕ). held ++ l) next
      ∙ sym (append_assoc held came left)
      ∙ ap (λ (l : List ℕ). l ++ left) (sym are),
  now,
)
there held kept old new Nothing goes (are, now) =
    (old.coming, ap (λ (l : List ℕ). l ++ old.coming) (sym are), now)
there held kept old new Gone goes (are, now) =
    (old.coming, ap (λ (l : List ℕ). l ++ old.coming) (sym are), now)
there held kept old new Ended goes then = absurd (goes refl)

-- octets that arrive are not read yet
pub heard-part : (held kept : List ℕ) (old new : Option Link) (taken : Taken) → (taken ≡ Ended → ⊥)
    → Fills held old taken kept new → Reads (conversation held old) [] (conversation kept new)
heard-part held kept None new taken goes fills = tt
heard-part held kept (Some old) new taken goes fills =
    let (rest, is, now) = there held kept old new taken goes fills in (
      kept ++ rest,
      is,
      ap (λ (o : Option Link). conversation kept o) now,
    )

-- the other side is found to have ended
pub heard-end : (held kept : List ℕ) (old new : Option Link) → Fills held old Ended kept new
    → ReadsAndFinds (conversation held old) [] true (conversation kept new)
heard-end held kept None new fills = tt
heard-end held kept (Some old) new (over, are, now) = (
  kept ++ old.coming,
  ap (λ (l : List ℕ). l ++ old.coming) (sym are),
  ap (λ (o : Option Link). conversation kept o) now,
)

-- a message that is held is read
pub heard-held : (held : List ℕ) (link : Option Link) → Reads (conversation held link) held (conversation [] link)
heard-held held None = tt
heard-held held (Some link) = (link.coming, refl, refl)
