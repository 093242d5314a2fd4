-- What the words of a run come to: help, a refusal, or the doing of an action.
use Rattle.std.proofs.Common.{◌≡◌, ◌≢◌, ◌↔◌, inl, inr, ℕ, List, Bool, true, Option, Some, None, Result, Ok, Err, refl}
use Rattle.std.proofs.Common.{subst, sym}
use Rattle.std.specs.Io.KnownBytes.{Appends}
use Rattle.std.proofs.lemmas.Result.{IfErr-weaker, IfOk-weaker}
use Rattle.clap.specs.Words.{Text, subcommand_of, takes}
use Rattle.macs_disk.specs.Files.{FileState}
use Rattle.macs_cli.specs.Failing.{failure_of_words, failure_status}
use Rattle.macs_program.specs.Inputs.{read_of}
use Rattle.macs_program.specs.Run.{Acts, Performs}
use Rattle.macs_cli.specs.declared.failure.Failure.{Failure}
use Rattle.macs_cli.specs.declared.failure.Failure.TheVariants.{Output}
use Rattle.macs_cli.specs.declared.status.Status.{Status}
use Rattle.macs_cli.specs.declared.status.Status.TheVariants as ends
use Rattle.macs_cli.specs.Help.{topic_text}
use Rattle.macs_cli.specs.Words.{AreRefused, AsksFor, AsksForNothing, Names, macsecd}
use Rattle.macs_cli.specs.declared.words.action.Action.{Action}
use Rattle.macs_cli.specs.declared.words.action.Action.TheVariants.{Open}
use Rattle.macs_cli.specs.declared.words.action.UsageFault.{UsageFault}
use Rattle.macs_cli.specs.declared.words.action.UsageFault.TheVariants as words
use Rattle.macs_cli.specs.declared.words.help.Topic.{Topic}

-- refused words are no fault of the disk, and none of the output
no-disk : (fault : UsageFault) → failure_status (failure_of_words fault) ≢ ends.Disk
no-disk (words.Usage cause) is = cc
no-disk words.Memory is = cc

no-output : (fault : UsageFault) → failure_of_words fault ≢ Output
no-output (words.Usage cause) is = cc
no-output words.Memory is = cc

-- where the words ask for nothing that is known, they ask for nothing
pub asks_nothing : (told : List Text) (asked : Option Topic) → asked ≡ None
    → ((topic : Topic) → (asked ≡ Some topic) ↔ AsksFor told topic) → AsksForNothing told
asks_nothing told asked none exactly = λ topic asks. let e = (exactly topic).1 asks in cc

module _ {F R W T : Type 0} (state_of : F → FileState) (left_in : F → Option (List ℕ))
    (remaining : R → Option (List ℕ)) (read_failed : R → Bool) (contents : W → Option (List ℕ)) (failed : W → Bool)
    (told : List Text) (input : R) (old : W) where
  -- help is printed
  pub helps : (topic : Topic) (new : W) → AsksFor told topic → Appends (contents old) (contents new) (topic_text topic)
      → Acts T state_of left_in remaining read_failed contents failed told input old (Ok ends.Done) input new
  helps topic new asked printed = record {
    replied = inl (topic, asked, printed, refl);
    status = inl refl;
    usage = tt;
    help = tt;
    disk = tt;
    before = tt;
    fails = tt;
    broken = tt;
    unread = λ other. refl;
  }

  -- and where it cannot be
  unhelped : (topic : Topic) (new : W) → AsksFor told topic → failed new ≡ true
      → Acts T state_of left_in remaining read_failed contents failed told input old (Err Output) input new
  unhelped topic new asked broken = record {
    replied = tt;
    status = tt;
    usage = λ usage. absurd cc;
    help = λ usage. absurd cc;
    disk = λ disk. absurd cc;
    before = λ other. absurd (other refl);
    fails = inr (inl (topic, asked, refl));
    broken = λ output. broken;
    unread = λ other. refl;
  }

  pub help-fails : (topic : Topic) (failure : Failure) (result : Result Status Failure) (new : W) → AsksFor told topic
      → result ≡ Err failure → failure ≡ Output → failed new ≡ true
      → Acts T state_of left_in remaining read_failed contents failed told input old result input new
  help-fails topic failure result new asked is same broken =
      subst (λ (r : Result Status Failure).
      Acts T state_of left_in remaining read_failed contents failed told input old r input new)
      (sym (subst (λ (f : Failure). result ≡ Err f) same is)) (unhelped topic new asked broken)

  refused : (fault : UsageFault) → (failure_status (failure_of_words fault) ≡ ends.Usage → AreRefused told)
      → AsksForNothing told
      → Acts T state_of left_in remaining read_failed contents failed told input old
      (Err (failure_of_words fault)) input
      old
  refused fault wrong nothing = record {
    replied = tt;
    status = tt;
    usage = λ usage. (inl (wrong usage), refl);
    help = λ usage. nothing;
    disk = λ disk. absurd (no-disk fault disk);
    before = λ other. inl refl;
    fails = inl (fault, refl);
    broken = λ output. absurd (no-output fault output);
    unread = λ other. refl;
  }

  -- the words are refused
  pub refuses : (fault : UsageFault) (failure : Failure) (result : Result Status Failure) → result ≡ Err failure
      → failure ≡ failure_of_words fault
      → (failure_status (failure_of_words fault) ≡ ends.Usage → AreRefused told) → AsksForNothing told
      → Acts T state_of left_in remaining read_failed contents failed told input old result input old
  refuses fault failure result is same wrong nothing =
      subst (λ (r : Result Status Failure).
      Acts T state_of left_in remaining read_failed contents failed told input old r input old)
      (sym (subst (λ (f : Failure). result ≡ Err f) same is)) (refused fault wrong nothing)

  -- the action that they name is performed
  pub obeys : (action : Action) (result : Result Status Failure) (left : R) (new : W) → takes macsecd told ≡ true
      → Names (subcommand_of macsecd told) action → AsksForNothing told
      → Performs T state_of left_in contents failed action (read_of remaining read_failed input left) old result new
      → (action ≢ Open → left ≡ input)
      → Acts T state_of left_in remaining read_failed contents failed told input old result left new
  obeys action result left new known names nothing performs unread = record {
    replied = IfOk-weaker result _ _ (λ status done. inr (known, action, names, done)) performs.does;
    status = performs.status;
    usage = IfErr-weaker result _ _ (λ failure wrong usage. (inr (action, names, (wrong usage).0), (wrong usage).1))
        performs.usage;
    help = IfErr-weaker result _ _ (λ failure wrong usage. nothing) performs.usage;
    disk = IfErr-weaker result _ _ (λ failure other disk. (known, action, names, (other disk).0, (other disk).1))
        performs.disk;
    before = IfErr-weaker result _ _ (λ failure printed other. inr (action, names, printed other)) performs.before;
    fails = IfErr-weaker result _ _ (λ failure fails. inr (inr (known, action, names, fails))) performs.fails;
    broken = performs.broken;
    unread =
        λ wrong. unread (λ is. wrong (known, subst (λ (a : Action). Names (subcommand_of macsecd told) a) is names));
  }
