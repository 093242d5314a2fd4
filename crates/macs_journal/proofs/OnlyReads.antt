-- Calls that only read, one after another.
use Rattle.std.proofs.Common.{◌≡◌, ◌∙◌, refl, sym, List, ℕ, Result, Ok, Err, IsErr, OnErr, OnOk}
use Rattle.macs_disk.specs.Disk.{Disk, IsDeviceCall, IsHonest, Reads, Works, now}
use Rattle.macs_disk.proofs.Moments.{Works-start}
use Rattle.macs_journal.specs.Recovery.{OnlyReads}
use Rattle.macs_journal.specs.Work.{IsUntouched}
use Rattle.macs_journal.proofs.Untouched.{read-untouched, untouched-now, untouched-on, untouched-start}
use Rattle.macs_journal.proofs.Working.{failed-later, work-then}

-- none of them failed
pub record AreRead (old new : Disk) : Type 0 where
  pub works : Works old new
  pub steady : new.failures ≡ old.failures
  pub untouched : IsHonest new → IsUntouched old new

pub read-start : (d : Disk) → AreRead d d
read-start d = record { works = Works-start d; steady = refl; untouched = λ honest. untouched-start d }

-- one call
pub call-reads : {T E : Type 0} (old new : Disk) (at : ℕ) (into : List ℕ) (answer : Result T E)
    → IsDeviceCall old new answer
    → (IsHonest new → Reads (now old) (now new) at into answer)
    → OnlyReads old new answer
call-reads old new at into answer call reads = record {
  work = call.work;
  untouched = λ honest. read-untouched old new at into answer call (reads honest);
}

-- the answer is no error
pub are-read : {T E : Type 0} (old new : Disk) (answer : Result T E) → OnlyReads old new answer → OnErr answer ⊥
    → AreRead old new
are-read old new (Ok value) reads good = record {
  works = reads.work.works;
  steady = reads.work.ok;
  untouched = reads.untouched;
}
are-read old new (Err error) reads good = absurd good

pub read-done : {T E : Type 0} (old new : Disk) (answer : Result T E) → AreRead old new → OnErr answer ⊥
    → OnlyReads old new answer
read-done old new (Ok value) reads good = record {
  work = record { works = reads.works; ok = reads.steady; err = tt };
  untouched = reads.untouched;
}
read-done old new (Err error) reads good = absurd good

-- more calls
module _ (old mid new : Disk) (first : AreRead old mid) (works : Works mid new) where
  pub honest-before : IsHonest new → IsHonest mid
  honest-before honest = sym works.honest ∙ honest

  pub same-before : IsHonest new → now mid ≡ now old
  same-before honest = untouched-now old mid first.works (first.untouched (honest-before honest))

  both-untouched : (IsHonest new → IsUntouched mid new) → IsHonest new → IsUntouched old new
  both-untouched second honest =
      untouched-on old mid new first.works works (first.untouched (honest-before honest)) (second honest)

-- with this answer
pub read-then : {T E : Type 0} (old mid new : Disk) (answer : Result T E) → AreRead old mid
    → OnlyReads mid new answer
    → OnlyReads old new answer
read-then old mid new answer first second = record {
  work = work-then old mid new answer first.works first.steady second.work;
  untouched = both-untouched old mid new first second.work.works second.untouched;
}

pub read-more : {T E : Type 0} (old mid new : Disk) (answer : Result T E) → AreRead old mid
    → OnlyReads mid new answer
    → OnErr answer ⊥
    → AreRead old new
read-more old mid new answer first second good =
    are-read old new answer (read-then old mid new answer first second) good

-- with an error, which another answer reports
pub read-error : {T E U F : Type 0} (old mid new : Disk) (was : Result T E) (answer : Result U F) → AreRead old mid
    → OnlyReads mid new was
    → OnOk was ⊥
    → IsErr answer
    → OnlyReads old new answer
read-error old mid new (Ok value) answer first second bad is = absurd bad
read-error old mid new (Err error) answer first second bad is = record {
  work = failed-later old mid new answer is first.works first.steady second.work.works second.work.err;
  untouched = both-untouched old mid new first second.work.works second.untouched;
}
