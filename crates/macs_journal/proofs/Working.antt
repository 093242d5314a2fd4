-- Calls of a disk, and an answer that reports them in a type of its own.
use Rattle.std.proofs.Common.{◌≡◌, ◌+◌, ◌∙◌, refl, Bool, true, false, Result, Ok, Err, IsErr, IfOk, OnOk, is_err}
use Rattle.macs_disk.specs.Disk.{Disk, FailsOnce, IsDeviceCall, IsWork, Works}
use Rattle.macs_disk.proofs.Moments.{FailsOnce-before, Works-on}

pub failed : {T E : Type 0} (old new : Disk) (answer : Result T E) → IsErr answer → Works old new → FailsOnce old new
    → IsWork old new answer
failed old new (Ok x) is works once = absurd cc
failed old new (Err e) is works once = record { works = works; ok = tt; err = once }

-- the last of several runs failed
pub failed-later : {T E : Type 0} (old mid new : Disk) (answer : Result T E) → IsErr answer → Works old mid
    → mid.failures ≡ old.failures → Works mid new → FailsOnce mid new → IsWork old new answer
failed-later old mid new answer is first steady second once =
    failed old new answer is (Works-on old mid new first second) (FailsOnce-before old mid new steady once)

-- the answer is that of the last run
pub work-then : {T E : Type 0} (old mid new : Disk) (answer : Result T E) → Works old mid
    → mid.failures ≡ old.failures → IsWork mid new answer → IsWork old new answer
work-then old mid new (Ok x) first steady second =
    record { works = Works-on old mid new first second.works; ok = second.ok ∙ steady; err = tt }
work-then old mid new (Err e) first steady second = record {
  works = Works-on old mid new first second.works;
  ok = tt;
  err = FailsOnce-before old mid new steady second.err;
}

-- what is said of Ok is not owed where the answer is an error
pub not-owed : {T E : Type 0} (P : T → Type 0) (answer : Result T E) → IsErr answer → IfOk answer P
not-owed P (Ok x) is = absurd cc
not-owed P (Err e) is = tt

-- a call that did not fail takes one moment
pub done-call : {T E : Type 0} (old new : Disk) (answer : Result T E) → IsDeviceCall old new answer
    → OnOk answer (new.clock ≡ old.clock + 1)
done-call old new (Ok x) call = by_worn old.worn refl where
  by_worn : (worn : Bool) → old.worn ≡ worn → new.clock ≡ old.clock + 1
  by_worn false fresh = call.one fresh
  by_worn true spent = absurd (let no = call.refused spent in cc)
done-call old new (Err e) call = tt

-- a call is the same call in the words of another answer that fails where its own does
pub called : {T E U F : Type 0} (old new : Disk) (was : Result T E) (answer : Result U F) → is_err was ≡ is_err answer
    → IsDeviceCall old new was → IsDeviceCall old new answer
called old new (Ok x) (Ok y) same call = record {
  work = record { works = call.work.works; ok = call.work.ok; err = tt };
  at_most_one = call.at_most_one;
  one = call.one;
  counted = call.counted;
  refused = call.refused;
  stands = call.stands;
  alike = call.alike;
}
called old new (Err e) (Err f) same call = record {
  work = record { works = call.work.works; ok = tt; err = call.work.err };
  at_most_one = call.at_most_one;
  one = call.one;
  counted = call.counted;
  refused = λ spent. refl;
  stands = call.stands;
  alike = call.alike;
}
called old new (Ok x) (Err f) same call = absurd cc
called old new (Err e) (Ok y) same call = absurd cc
