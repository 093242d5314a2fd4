-- What is said, one text after another.
use Rattle.std.proofs.Common.{◌≡◌, if◌then◌else◌, ℕ, Bool, List, [], ◌∷◌, Some, None, true, false, refl, subst, length}
use Rattle.std.specs.Prelude.{nat_le}
use Rattle.macs_commands.specs.InTurn.{InTurn}
use Rattle.macs_commands.specs.Papers.{fitting}
use Rattle.macs_commands.specs.Talks.{Talk, Said, Note, Asked, Put}
use Rattle.macs_commands.specs.declared.requests.clients.Client.{Client}
use Rattle.macs_control.specs.Listening.{put, report_room, told}
use Rattle.macs_control.specs.Replies.{end_text}

-- octets that are a text that fits
fits : (octets text : List ℕ) (is_short : Bool) → Some octets ≡ (if is_short then Some text else None)
    → (is_short ≡ true) × (octets ≡ text)
fits octets text true is = (refl, cc)
fits octets text false is = absurd cc

past : (text : List ℕ) (is_short : Bool) → None ≡ (if is_short then Some text else None) → is_short ≡ false
past text true is = absurd cc
past text false is = refl

module _ {C : Type 0} (Does : C → Talk → C → Type 0) where
  -- octets that are this text
  pub says : (before after : C) (client : Client) (octets text : List ℕ) → octets ≡ text
      → Does before (Said client octets) after → InTurn Does before (Said client text ∷ []) after
  says before after client octets text same said =
      (after, subst (λ (t : List ℕ). Does before (Said client t) after) same said, refl)

  -- a report, and the end of the answer
  pub reported : (before between after : C) (client : Client) (octets end text : List ℕ)
      → Some octets ≡ fitting report_room text → end ≡ end_text 0 → Does before (Said client octets) between
      → Does between (Said client end) after → InTurn Does before (told client text) after
  reported before between after client octets end text is is_end first second =
      let short = fits octets text (nat_le (length text) report_room) is in
      rw short.0 (
        between,
        subst (λ (t : List ℕ). Does before (Said client t) between) short.1 first,
        says between after client end (end_text 0) is_end second,
      )

  -- a report that is too long
  pub unreported : (before after : C) (client : Client) (end text : List ℕ) → None ≡ fitting report_room text
      → end ≡ end_text 5 → Does before (Said client end) after → InTurn Does before (told client text) after
  unreported before after client end text is is_end said =
      rw (past text (nat_le (length text) report_room) is) (says before after client end (end_text 5) is_end said)

module _ {M : Type 0} (Does : M → Note → M → Type 0) where
  -- metrics that were due are written
  pub written : (before between after : M) (octets text : List ℕ) → Some octets ≡ fitting report_room text
      → Does before (Asked true) between → Does between (Put octets) after
      → InTurn Does before (Asked true ∷ put text) after
  written before between after octets text is asked wrote =
      let short = fits octets text (nat_le (length text) report_room) is in
      rw short.0 (between, asked, (after, subst (λ (t : List ℕ). Does between (Put t) after) short.1 wrote, refl))

  -- or are too long
  pub unwritten : (before after : M) (text : List ℕ) → None ≡ fitting report_room text → Does before (Asked true) after
      → InTurn Does before (Asked true ∷ put text) after
  unwritten before after text is asked = rw (past text (nat_le (length text) report_room) is) (after, asked, refl)
