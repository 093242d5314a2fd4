-- Commands that were given to an endpoint in memory, and how that fails.
use Rattle.std.proofs.Common.{◌≡◌, ◌⊎◌, ◌∙◌, ◌+◌, ◌<◌, ◌≤◌, ◌/◌, ◌%◌, ◌++◌, inl, inr, ℕ, suc, Bool, if◌then◌else◌}
use Rattle.std.proofs.Common.{is_some, List, [], ◌∷◌, length, take, drop, get_or, Option, Some, append_assoc, ap, subst}
use Rattle.std.proofs.Common.{sym, arith}
use Rattle.std.proofs.Common.{◌≢◌, ◌==◌, codes, false, true, refl, None, Result, Ok, Err, IfOk}
use Rattle.std.specs.Borrow.{Bor}
use Rattle.std.specs.Io.KnownBytes.{Appends}
use Rattle.std.proofs.KnownBytes.{Appends-trans}
use Rattle.clap.specs.Words.{Text}
use Rattle.std.proofs.Math.Seq.{drop-cons}
use Rattle.std.proofs.lemmas.Bool.{eqb-true, true≢false}
use Rattle.std.proofs.lemmas.List.{append-nil, drop_all, take_more}
use Rattle.macs_config.specs.declared.command.Command.{Command}
use Rattle.macs_config.specs.declared.refusal.Refusal.{Refusal}
use Rattle.macs_disk.specs.Disk.{Disk}
use Rattle.macs_disk.specs.DiskCopies.{IsCopied, IsDiskCopy}
use Rattle.macs_disk.specs.Files.{FileState}
use Rattle.macs_disk.specs.MemDisks.{disk_of}
use Rattle.macs_disk.specs.declared.disk_copy.DiskCopy.{DiskCopy}
use Rattle.macs_endpoint.specs.Calls.{IsCall}
use Rattle.macs_endpoint.specs.State.{Commands, Ran}
use Rattle.macs_endpoint.specs.Value.{EndpointValue}
use Rattle.macs_journal.specs.Areas.{least_sectors}
use Rattle.macs_journal.specs.declared.fault.JournalFault.TheVariants as journal
use Rattle.macs_offline.specs.KeyLists.{SaysSpent}
use Rattle.macs_offline.specs.Applying.{Applies, SaidByFile, SaysCommands, answer_of, outcomes_status}
use Rattle.macs_offline.specs.Checking.{CheckEnds, IsSaidOfFile}
use Rattle.macs_offline.proofs.Checked.{EndsOfFile}
use Rattle.macs_offline.specs.Trying.{EndsOn, EndsTrial, LookFails, TrialEnds, TrialFails, failure_in_memory}
use Rattle.macs_offline.specs.Trying.{trial_line, trial_lines, trial_report}
use Rattle.macs_cli.specs.declared.failure.DiskFault.{DiskFault}
use Rattle.macs_cli.specs.declared.failure.DiskFault.TheVariants as disk
use Rattle.macs_cli.specs.declared.failure.Failure.{Failure}
use Rattle.macs_cli.specs.declared.failure.Failure.TheVariants.{Memory, OtherEnd, Output}
use Rattle.macs_offline.proofs.Applied.{applies-more, parted, status-more}
use Rattle.macs_cli.specs.declared.status.Status.{Status}
use Rattle.macs_cli.specs.declared.status.Status.TheVariants.{Refused, Usage}
use Rattle.macs_offline.proofs.Failures.{IsOfCopy, IsOfDisk, copy-no-output, copy-no-usage, of-copy, of-unread}
use Rattle.macs_cli.specs.Failing.{failure_status}

-- ---- one command more

pub one-tried : {D : Type 0} (disk_of : D → Disk) (old between new : EndpointValue D) (commands : List Command) (i : ℕ)
    (d command : Command)
    (outcomes : List (Option Refusal)) (outcome : Option Refusal) → i < length commands → command ≡ get_or commands i d
    → Applies disk_of old (take i commands) outcomes between
    → IsCall disk_of between (Commands command) (Ran (answer_of outcome)) new
    → Applies disk_of old (take (i + 1) commands) (outcomes ++ outcome ∷ []) new
one-tried disk_of old between new commands i d command outcomes outcome within next so_far call =
    subst (λ (all : List Command). Applies disk_of old all (outcomes ++ outcome ∷ []) new)
    (ap (λ (last : Command). take i commands ++ last ∷ []) next ∙ sym (take_more commands i d within))
    (applies-more disk_of old between new (take i commands) outcomes command outcome so_far call)

pub stopped-at : {D : Type 0} (disk_of : D → Disk) (old between : EndpointValue D) (commands : List Command) (i : ℕ)
    (d command : Command)
    (outcomes : List (Option Refusal)) (failure : Failure) → i < length commands → command ≡ get_or commands i d
    → Applies disk_of old (take i commands) outcomes between → EndsTrial disk_of between command failure
    → TrialEnds disk_of old commands failure
stopped-at disk_of old between commands i d command outcomes failure within next so_far ended = inr (record {
  done = take i commands;
  next = command;
  left = drop (i + 1) commands;
  all = parted commands i d within
      ∙ ap (λ (here : Command). take i commands ++ here ∷ drop (i + 1) commands) (sym next);
  outcomes = outcomes;
  between = between;
  applied = so_far;
  ends = ended;
})

-- ---- one line more

pub line-more : (text new one : List ℕ) (i : ℕ) (outcomes : List (Option Refusal)) (d outcome : Option Refusal)
    (whole : List ℕ)
    → i < length outcomes → outcome ≡ get_or outcomes i d → one ≡ trial_line (i + 1) outcome → new ≡ text ++ one
    → text ++ trial_lines (i + 1) (drop i outcomes) ≡ whole
    → new ++ trial_lines (i + 1 + 1) (drop (i + 1) outcomes) ≡ whole
line-more text new one i outcomes d outcome whole within is line_is new_is so_far =
    let next : suc i ≡ i + 1 = omega arith in
    let rest = trial_lines (i + 1 + 1) (drop (i + 1) outcomes) in
    let here = drop-cons outcomes i d within ∙ ap (λ (k : ℕ). get_or outcomes i d ∷ drop k outcomes) next
    ∙ ap (λ (o : Option Refusal). o ∷ drop (i + 1) outcomes) (sym is) in
    ap (λ (t : List ℕ). t ++ rest) (new_is ∙ ap (λ (l : List ℕ). text ++ l) line_is)
    ∙ append_assoc text (trial_line (i + 1) outcome) rest
    ∙ ap (λ (os : List (Option Refusal)). text ++ trial_lines (i + 1) os) (sym here) ∙ so_far

-- all lines are there
pub lines-end : (text : List ℕ) (i : ℕ) (outcomes : List (Option Refusal)) (whole : List ℕ) → length outcomes ≤ i
    → text ++ trial_lines (i + 1) (drop i outcomes) ≡ whole → text ≡ whole
lines-end text i outcomes whole behind so_far =
    let none : drop i outcomes ≡ [] = drop_all i outcomes behind in
    sym (append-nil text) ∙ ap (λ (os : List (Option Refusal)). text ++ trial_lines (i + 1) os) (sym none) ∙ so_far

-- what is said of all: of none, and of some
pub none-reported : (outcomes : List (Option Refusal)) → (length outcomes == 0) ≡ true
    → codes "0 commands" ++ 10 ∷ [] ≡ trial_report outcomes
none-reported [] none = refl
none-reported (outcome ∷ outcomes) none =
    let empty : suc (length outcomes) ≡ 0 = eqb-true (length (outcome ∷ outcomes)) 0 none in
    absurd (omega arith)

pub some-reported : (outcomes : List (Option Refusal)) → (length outcomes == 0) ≡ false
    → trial_lines 1 outcomes ≡ trial_report outcomes
some-reported [] some = absurd (true≢false some)
some-reported (outcome ∷ outcomes) some = refl

-- how the run ends, with one outcome more
pub status-next : (outcomes : List (Option Refusal)) (i : ℕ) (d outcome : Option Refusal) (status new : Status)
    (refused : Bool)
    → i < length outcomes → outcome ≡ get_or outcomes i d → refused ≡ is_some outcome
    → new ≡ (if refused then Refused else status)
    → status ≡ outcomes_status (take i outcomes) → new ≡ outcomes_status (take (i + 1) outcomes)
status-next outcomes i d outcome status new refused within next is new_is so_far =
    new_is ∙ ap (λ (b : Bool). if b then Refused else status) is
    ∙ ap (λ (s : Status). if is_some outcome then Refused else s) so_far
    ∙ sym (status-more (take i outcomes) outcome)
    ∙ ap (λ (last : Option Refusal). outcomes_status (take i outcomes ++ last ∷ [])) next
    ∙ ap outcomes_status (sym (take_more outcomes i d within))

-- one text is printed after another
pub both-printed : (before between after : Option (List ℕ)) (text told more : List ℕ) → told ≡ text
    → Appends before between told → Appends between after more → Appends before after (text ++ more)
both-printed before between after text told more same first rest = Appends-trans before between after text more
    (subst (λ (t : List ℕ). Appends before between t) same first) rest

-- both hold of what is answered
pub IfOk-both : {T E : Type 0} (result : Result T E) (P Q : T → Type 0) → IfOk result P → IfOk result Q
    → IfOk result (λ value. P value × Q value)
IfOk-both (Ok value) P Q p q = (p, q)
IfOk-both (Err fault) P Q p q = tt

-- ---- how it fails: for want of memory, or with a fault of the disk

in-memory : (fault : DiskFault) (failure : Failure) → failure ≡ failure_in_memory fault → IsOfDisk failure
in-memory disk.File failure is = inr (disk.File, is)
in-memory disk.Length failure is = inr (disk.Length, is)
in-memory (disk.Journal journal.Stopped) failure is = inr (disk.Journal journal.Stopped, is)
in-memory (disk.Journal journal.TooSmall) failure is = inr (disk.Journal journal.TooSmall, is)
in-memory (disk.Journal journal.Disk) failure is = inl is
in-memory (disk.Journal journal.AlreadyFormatted) failure is = inr (disk.Journal journal.AlreadyFormatted, is)
in-memory (disk.Journal journal.NotFormatted) failure is = inr (disk.Journal journal.NotFormatted, is)
in-memory (disk.Journal journal.BadJournal) failure is = inr (disk.Journal journal.BadJournal, is)
in-memory (disk.Journal journal.GenerationsSpent) failure is = inr (disk.Journal journal.GenerationsSpent, is)

-- that, or it is for another end than the file's
abbrev pub IsOfTrial : Failure → Type 0
IsOfTrial failure = IsOfCopy failure ⊎ (failure ≡ OtherEnd)

pub trial-no-output : (failure : Failure) → IsOfTrial failure → failure ≢ Output
trial-no-output failure (inl ours) is = copy-no-output failure ours is
trial-no-output failure (inr other) is = let e = sym other ∙ is in cc

pub trial-no-usage : (failure : Failure) → IsOfTrial failure → failure_status failure ≢ Usage
trial-no-usage failure (inl ours) is = copy-no-usage failure ours is
trial-no-usage failure (inr other) is = let e = ap failure_status (sym other) ∙ is in cc

ends-on : {D : Type 0} (disk_of : D → Disk) (copy : D) (end : Option (List ℕ)) (commands : List Command)
    (failure : Failure)
    → EndsOn disk_of copy end commands failure
    → IsOfTrial failure
ends-on disk_of copy end commands failure (inl (left, fault, refuses, is)) =
    inl (inl (in-memory (disk.Journal fault) failure is))
ends-on disk_of copy end commands failure (inr (old, opens, inl (other, named))) = inr other
ends-on disk_of copy end commands failure (inr (old, opens, inr (own, inl memory))) = inl (inl (inl memory))
ends-on disk_of copy end commands failure (inr (old, opens, inr (own, inr stops))) =
    inl (inl (in-memory stops.ends.0 failure stops.ends.5))

-- what is said of a copy and of its layout is said of the copy
pub copy-in : (file : FileState) (copy : DiskCopy) → IsCopied file (Some copy)
    → (file.size % 512 ≡ 0) × (least_sectors ≤ file.size / 512) × IsDiskCopy file (disk_of copy.disk)
copy-in file copy (whole, enough, copied, laid) = (whole, enough, copied)

pub of-trial : {F : Type 0} (state_of : F → FileState) (name : List ℕ) (end : Option (List ℕ))
    (commands : List Command) (failure : Failure)
    → TrialFails state_of name end commands failure
    → IsOfTrial failure
of-trial state_of name end commands failure (inl unread) = inl (of-unread name failure unread)
of-trial state_of name end commands failure (inr (inl (file, fails))) =
    inl (inl (of-copy (state_of file) failure fails))
of-trial state_of name end commands failure (inr (inr (file, copy, is_copy, ends))) =
    ends-on _ copy end commands failure ends

-- where no file says whom it is for, want of memory or a fault of the disk
pub of-look : {F : Type 0} (state_of : F → FileState) (failure : Failure) → LookFails state_of failure
    → IsOfDisk failure
of-look state_of failure (inl (inl memory)) = inl memory
of-look state_of failure (inl (inr unopened)) = inr (disk.File, unopened)
of-look state_of failure (inr (inl (file, fails))) = of-copy (state_of file) failure fails
of-look state_of failure (inr (inr (file, copy, is_copy, inl (left, fault, refuses, is)))) =
    in-memory (disk.Journal fault) failure is
of-look state_of failure (inr (inr (file, copy, is_copy, inr (old, opens, inl (other, named))))) =
    absurd (let clash : true ≡ false = named in cc)
of-look state_of failure (inr (inr (file, copy, is_copy, inr (old, opens, inr (own, inl memory))))) = inl memory
of-look state_of failure (inr (inr (file, copy, is_copy, inr (old, opens, inr (own, inr stops))))) =
    in-memory stops.ends.0 failure stops.ends.5

-- what is to be printed of a trial is not
pub trial-ended : {F : Type 0} (state_of : F → FileState) (left_in : F → Option (List ℕ)) (name : List ℕ)
    (given : Bor Text)
    (octets : List ℕ) (end : Option (List ℕ)) (commands : List Command) (failure : Failure)
    → SaysCommands octets end commands → SaidByFile left_in end commands
    → (failure ≡ Output) ⊎ (failure ≡ Memory) ⊎ TrialFails state_of given.now end commands failure
    ⊎ SaysSpent commands failure
    → CheckEnds state_of left_in name (Some given) failure
trial-ended state_of left_in name given octets end commands failure says by_file (inl output) = inl (inr (inl output))
trial-ended state_of left_in name given octets end commands failure says by_file (inr (inl memory)) =
    inl (inr (inr (octets, inl memory, inl memory)))
trial-ended state_of left_in name given octets end commands failure says by_file (inr (inr stops)) =
    inr (octets, end, commands, says, by_file, stops)

-- the command file is not read, or has a fault
pub told-ended : {F : Type 0} (state_of : F → FileState) (left_in : F → Option (List ℕ)) (name : List ℕ)
    (disk : Option (Bor Text)) (failure : Failure) → EndsOfFile IsSaidOfFile name left_in failure
    → CheckEnds state_of left_in name disk failure
told-ended state_of left_in name None failure (inl unread) = inl unread
told-ended state_of left_in name None failure (inr said) = inr (inr said)
told-ended state_of left_in name (Some given) failure (inl unread) = inl (inl unread)
told-ended state_of left_in name (Some given) failure (inr said) = inl (inr (inr said))

-- what is said of a spent key is no failed output and no wrong usage
pub spent-no-output : (commands : List Command) (failure : Failure) → SaysSpent commands failure → failure ≢ Output
spent-no-output commands failure (inl memory) is = let e = sym memory ∙ is in cc
spent-no-output commands failure (inr (text, said, holds)) is = let e = sym said ∙ is in cc

pub spent-no-usage : (commands : List Command) (failure : Failure) → SaysSpent commands failure
    → failure_status failure ≢ Usage
spent-no-usage commands failure (inl memory) is = let e = ap failure_status (sym memory) ∙ is in cc
spent-no-usage commands failure (inr (text, said, holds)) is = let e = ap failure_status (sym said) ∙ is in cc
