-- A text that a relay was asked for.
use Rattle.std.proofs.Common.{◌≡◌, ◌≢◌, ◌∙◌, inl, inr, ℕ, Bool, true, List, ap, Option, Result, Ok, Err, IfErr, refl}
use Rattle.std.proofs.Common.{subst, sym}
use Rattle.std.specs.Io.KnownBytes.{Appends}
use Rattle.macs_commands.specs.declared.requests.request.Request.{Request}
use Rattle.macs_control.specs.Asking.{Conversation}
use Rattle.macs_cli.specs.Objects.{in_form}
use Rattle.macs_cli.specs.declared.failure.Failure.{Failure}
use Rattle.macs_cli.specs.declared.failure.Failure.TheVariants.{Output}
use Rattle.macs_cli.specs.declared.status.Status.{Status}
use Rattle.macs_cli.specs.declared.status.Status.TheVariants.{Done}
use Rattle.macs_program.specs.Asking.{Asks, AsksForText, AsksInVain, IsUnprinted, LacksDone, LacksText}
use Rattle.macs_program.proofs.Told.{before-status, before-vain}

-- a request without an answer
pub unheard-lacks : {T : Type 0} (old new : Option Conversation) (asked : Request) (fault failure : Failure)
    (result : Result T Failure) → result ≡ Err failure → failure ≡ fault → AsksInVain old asked fault new
    → IfErr result (λ why. LacksDone old asked why new)
unheard-lacks old new asked fault failure result is same vain =
    subst (λ r. IfErr r (λ why. LacksDone old asked why new)) (sym (is ∙ ap Err same)) (inl vain)

-- nothing was printed before that
pub lacks-no-output : (old new : Option Conversation) (asked : Request) (failure : Failure)
    → LacksDone old asked failure new → failure ≢ Output
lacks-no-output old new asked failure (inl vain) =
    (before-vain old new asked failure vain).1
lacks-no-output old new asked failure (inr (text, status, asks, undone)) = (before-status status failure undone.1).1

module _ {W : Type 0} (contents : W → Option (List ℕ)) (has_failed : W → Bool) (asked : Request)
    (Follows : Option Conversation → Option Conversation → Type 0)
    (Fails : Option Conversation → Failure → Option Conversation → Type 0) (is_json : Bool) (old : Option Conversation)
    (before : W) where
  -- it is not there to be printed
  pub text-lacking : (new : Option Conversation) (fault failure : Failure) (result : Result Status Failure)
      → result ≡ Err failure → failure ≡ fault → LacksText asked Follows Fails is_json old fault new → fault ≢ Output
      → AsksForText contents has_failed asked Follows Fails is_json old before result new before
  text-lacking new fault failure result is same lacks other =
      subst (λ (r : Result Status Failure).
      AsksForText contents has_failed asked Follows Fails is_json old before r new before)
      (sym (is ∙ ap Err same)) (record {
        printed = tt;
        failed = lacks;
        silent = λ more. refl;
        broken = λ output. absurd (other output);
      })

  -- it cannot be printed
  pub text-unprinted : (between new : Option Conversation) (text octets : List ℕ) (after : W) (fault failure : Failure)
      (result : Result Status Failure) → result ≡ Err failure → failure ≡ fault → Asks old asked text 0 between
      → Follows between new → octets ≡ text → IsUnprinted is_json octets fault → (fault ≢ Output → after ≡ before)
      → (fault ≡ Output → has_failed after ≡ true)
      → AsksForText contents has_failed asked Follows Fails is_json old before result new after
  text-unprinted between new text octets after fault failure result is same asks follows read unprinted silent broken =
      subst (λ (r : Result Status Failure).
      AsksForText contents has_failed asked Follows Fails is_json old before r new after)
      (sym (is ∙ ap Err same)) (record {
        printed = tt;
        failed = inr (inr (
          text,
          (between, asks, follows),
          subst (λ (t : List ℕ). IsUnprinted is_json t fault) read unprinted,
        ));
        silent = silent;
        broken = broken;
      })

  -- it is printed
  pub text-printed : (between new : Option Conversation) (text octets : List ℕ) (after : W)
      → Asks old asked text 0 between → Follows between new → octets ≡ text
      → Appends (contents before) (contents after) (in_form is_json octets)
      → AsksForText contents has_failed asked Follows Fails is_json old before (Ok Done) new after
  text-printed between new text octets after asks follows same appends = record {
    printed = (
      text,
      (between, asks, follows),
      subst (λ (t : List ℕ). Appends (contents before) (contents after) (in_form is_json t)) same appends,
      refl,
    );
    failed = tt;
    silent = tt;
    broken = tt;
  }
